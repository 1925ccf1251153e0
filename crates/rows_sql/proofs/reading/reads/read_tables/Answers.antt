use Rattle.std.proofs.Common.{◌≡◌, map, ◌∙◌, subst, arith}
use Rattle.std.specs.List.Sorted.{IsPermutation}
use Rattle.sqlite.specs.Effect.{Database}
use Rattle.sqlite.specs.State.{HasCleanDisk}
use Rattle.sqlite.specs.Held.{state}
use Rattle.rows_sql.specs.Ready.{node_shown, session_shown, lock_shown, children_shown}
use Rattle.rows_sql.proofs.ReadLemmas.{Seen, quiet_more, seen_more}
use Rattle.rows_sql.proofs.reading.reads.read_tables.Goals as goal

pub returns-in_err-metas-clause-quiet : goal.returns-in_err-metas-clause-quiet
returns-in_err-metas-clause-quiet g c = c.read_metas.ensures.quiet c.args.version

pub returns-in_err-nodes-clause-quiet : goal.returns-in_err-nodes-clause-quiet
returns-in_err-nodes-clause-quiet g c =
    let v = c.args.version in
    let a = c.args.conn.now in
    let s1 : Seen v g.S.Store a c.read_metas.new.conn = record { quiet = c.read_metas.ensures.quiet v; still = c.in_ok-metas.ensures.ready v } in
    quiet_more v g.S.Store a c.read_metas.new.conn c.read_nodes.new.conn s1 (c.read_nodes.ensures.quiet v)

pub returns-in_err-sessions-clause-quiet : goal.returns-in_err-sessions-clause-quiet
returns-in_err-sessions-clause-quiet g c =
    let v = c.args.version in
    let a = c.args.conn.now in
    let s1 : Seen v g.S.Store a c.read_metas.new.conn = record { quiet = c.read_metas.ensures.quiet v; still = c.in_ok-metas.ensures.ready v } in
    let s2 = seen_more v g.S.Store a c.read_metas.new.conn c.read_nodes.new.conn s1 (c.read_nodes.ensures.quiet v) (λ clean ready _. c.in_ok-nodes.ensures.ready v clean ready) in
    quiet_more v g.S.Store a c.read_nodes.new.conn c.read_sessions.new.conn s2 (c.read_sessions.ensures.quiet v)

pub returns-in_err-locks-clause-quiet : goal.returns-in_err-locks-clause-quiet
returns-in_err-locks-clause-quiet g c =
    let v = c.args.version in
    let a = c.args.conn.now in
    let s1 : Seen v g.S.Store a c.read_metas.new.conn = record { quiet = c.read_metas.ensures.quiet v; still = c.in_ok-metas.ensures.ready v } in
    let s2 = seen_more v g.S.Store a c.read_metas.new.conn c.read_nodes.new.conn s1 (c.read_nodes.ensures.quiet v) (λ clean ready _. c.in_ok-nodes.ensures.ready v clean ready) in
    let s3 = seen_more v g.S.Store a c.read_nodes.new.conn c.read_sessions.new.conn s2 (c.read_sessions.ensures.quiet v) (λ clean ready _. c.in_ok-sessions.ensures.ready v clean ready) in
    quiet_more v g.S.Store a c.read_sessions.new.conn c.read_locks.new.conn s3 (c.read_locks.ensures.quiet v)

pub returns-in_err-children-clause-quiet : goal.returns-in_err-children-clause-quiet
returns-in_err-children-clause-quiet g c =
    let v = c.args.version in
    let a = c.args.conn.now in
    let s1 : Seen v g.S.Store a c.read_metas.new.conn = record { quiet = c.read_metas.ensures.quiet v; still = c.in_ok-metas.ensures.ready v } in
    let s2 = seen_more v g.S.Store a c.read_metas.new.conn c.read_nodes.new.conn s1 (c.read_nodes.ensures.quiet v) (λ clean ready _. c.in_ok-nodes.ensures.ready v clean ready) in
    let s3 = seen_more v g.S.Store a c.read_nodes.new.conn c.read_sessions.new.conn s2 (c.read_sessions.ensures.quiet v) (λ clean ready _. c.in_ok-sessions.ensures.ready v clean ready) in
    let s4 = seen_more v g.S.Store a c.read_sessions.new.conn c.read_locks.new.conn s3 (c.read_locks.ensures.quiet v) (λ clean ready _. c.in_ok-locks.ensures.ready v clean ready) in
    quiet_more v g.S.Store a c.read_locks.new.conn c.read_children.new.conn s4 c.read_children.ensures.quiet

pub returns-clause-quiet : goal.returns-clause-quiet
returns-clause-quiet g c =
    let v = c.args.version in
    let a = c.args.conn.now in
    let s1 : Seen v g.S.Store a c.read_metas.new.conn = record { quiet = c.read_metas.ensures.quiet v; still = c.in_ok-metas.ensures.ready v } in
    let s2 = seen_more v g.S.Store a c.read_metas.new.conn c.read_nodes.new.conn s1 (c.read_nodes.ensures.quiet v) (λ clean ready _. c.in_ok-nodes.ensures.ready v clean ready) in
    let s3 = seen_more v g.S.Store a c.read_nodes.new.conn c.read_sessions.new.conn s2 (c.read_sessions.ensures.quiet v) (λ clean ready _. c.in_ok-sessions.ensures.ready v clean ready) in
    let s4 = seen_more v g.S.Store a c.read_sessions.new.conn c.read_locks.new.conn s3 (c.read_locks.ensures.quiet v) (λ clean ready _. c.in_ok-locks.ensures.ready v clean ready) in
    let s5 = seen_more v g.S.Store a c.read_locks.new.conn c.read_children.new.conn s4 c.read_children.ensures.quiet c.in_ok-children.ensures.ready in
    s5.quiet

pub returns-clause-ready : goal.returns-clause-ready
returns-clause-ready g c =
    let v = c.args.version in
    let a = c.args.conn.now in
    let s1 : Seen v g.S.Store a c.read_metas.new.conn = record { quiet = c.read_metas.ensures.quiet v; still = c.in_ok-metas.ensures.ready v } in
    let s2 = seen_more v g.S.Store a c.read_metas.new.conn c.read_nodes.new.conn s1 (c.read_nodes.ensures.quiet v) (λ clean ready _. c.in_ok-nodes.ensures.ready v clean ready) in
    let s3 = seen_more v g.S.Store a c.read_nodes.new.conn c.read_sessions.new.conn s2 (c.read_sessions.ensures.quiet v) (λ clean ready _. c.in_ok-sessions.ensures.ready v clean ready) in
    let s4 = seen_more v g.S.Store a c.read_sessions.new.conn c.read_locks.new.conn s3 (c.read_locks.ensures.quiet v) (λ clean ready _. c.in_ok-locks.ensures.ready v clean ready) in
    let s5 = seen_more v g.S.Store a c.read_locks.new.conn c.read_children.new.conn s4 c.read_children.ensures.quiet c.in_ok-children.ensures.ready in
    s5.still

pub returns-clause-shown : goal.returns-clause-shown
returns-clause-shown g c clean ready =
    let v = c.args.version in
    let a = c.args.conn.now in
    let s1 : Seen v g.S.Store a c.read_metas.new.conn = record { quiet = c.read_metas.ensures.quiet v; still = c.in_ok-metas.ensures.ready v } in
    let s2 = seen_more v g.S.Store a c.read_metas.new.conn c.read_nodes.new.conn s1 (c.read_nodes.ensures.quiet v) (λ clean ready _. c.in_ok-nodes.ensures.ready v clean ready) in
    let s3 = seen_more v g.S.Store a c.read_nodes.new.conn c.read_sessions.new.conn s2 (c.read_sessions.ensures.quiet v) (λ clean ready _. c.in_ok-sessions.ensures.ready v clean ready) in
    let s4 = seen_more v g.S.Store a c.read_sessions.new.conn c.read_locks.new.conn s3 (c.read_locks.ensures.quiet v) (λ clean ready _. c.in_ok-locks.ensures.ready v clean ready) in
    let s5 = seen_more v g.S.Store a c.read_locks.new.conn c.read_children.new.conn s4 c.read_children.ensures.quiet c.in_ok-children.ensures.ready in
    let q5 = c.read_children.ensures.quiet.clean in
    let q4 = (c.read_locks.ensures.quiet v).clean in
    let q3 = (c.read_sessions.ensures.quiet v).clean in
    let q2 = (c.read_nodes.ensures.quiet v).clean in
    let cb : HasCleanDisk (state g.S.Store c.read_metas.new.conn) = omega (arith, clean, q5, q4, q3, q2) in
    let cd : HasCleanDisk (state g.S.Store c.read_nodes.new.conn) = omega (arith, clean, q5, q4, q3) in
    let ce : HasCleanDisk (state g.S.Store c.read_sessions.new.conn) = omega (arith, clean, q5, q4) in
    let cf : HasCleanDisk (state g.S.Store c.read_locks.new.conn) = omega (arith, clean, q5) in
    let sb = s1.still cb ready in
    let sd = s2.still cd ready in
    let se = s3.still ce ready in
    let sf = s4.still cf ready in
    record {
      metas = c.in_ok-metas.ensures.shown v cb ready;
      nodes = subst (λ (x : Database). IsPermutation (map node_shown (x.trees 1)) c.in_ok-nodes.nodes.items) sb.now_is (c.in_ok-nodes.ensures.shown v cd sb.ready);
      sessions = subst (λ (x : Database). IsPermutation (map session_shown (x.trees 4)) c.in_ok-sessions.sessions.items) sd.now_is (c.in_ok-sessions.ensures.shown v ce sd.ready);
      locks = subst (λ (x : Database). IsPermutation (map lock_shown (x.trees 5)) c.in_ok-locks.locks.items) se.now_is (c.in_ok-locks.ensures.shown v cf se.ready);
      children = subst (λ (x : Database). IsPermutation (children_shown v x.trees) c.in_ok-children.children.items) sf.now_is (c.in_ok-children.ensures.shown clean sf.ready);
    }
