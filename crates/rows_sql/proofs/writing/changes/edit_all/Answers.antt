use Rattle.std.proofs.Common.{◌≡◌, ◌+◌, ◌<◌, suc, length, rules, arith, [], ◌∷◌, drop, drop-cons, add-one, sym, ap, ◌∙◌, subst}
use Rattle.std.proofs.lemmas.List.{drop_all}
use Rattle.sqlite.specs.Held.{state}
use Rattle.rows_sql.specs.Overtaken.{GoesOver}
use Rattle.rows_sql.proofs.WriteSteps.{Along, all_done}
use Rattle.rows_sql.proofs.Overtaking.{along_over}
use Rattle.rows_sql.proofs.writing.changes.edit_all.Goals as goal

pub loop-it-preserved : goal.loop-it-preserved
loop-it-preserved g c =
    let all = c.args.change.now in
    let i = c.loop-it.it-index in
    let a = state g.S.Store c.args.tx.now.conn.now in
    let b = state g.S.Store c.loop-it.tx.conn.now in
    let left = drop (i + 1) all in
    let within : i < length all = search rules in
    let is : drop i all ≡ c.it-item.result ∷ left = rw add-one (drop-cons all i c.it-item.result within ∙ ap (λ x. x ∷ drop (suc i) all) (sym c.it-item.is)) in
    let now = state g.S.Store c.edit_or_leave.new.tx.conn.now in
    let rest : c.after_first-later.result.now ≡ left = c.after_first-later.ensures ∙ ap (drop 1) (c.loop-it.invariant.later ∙ is) in
    record {
      same = c.in_ok-edit_or_leave.ensures.same ∙ c.loop-it.invariant.same;
      later = rest;
      along = along_over all left c.it-item.result a b now (subst (λ l. Along all l a b) is c.loop-it.invariant.along)
          (λ clean. subst (λ l. GoesOver c.it-item.result l b now) rest (c.in_ok-edit_or_leave.ensures.ok clean)) c.edit_or_leave.ensures.kept c.edit_or_leave.ensures.survives;
    }

pub returns-clause-ok : goal.returns-clause-ok
returns-clause-ok g c clean =
    let all = c.args.change.now in
    let a = state g.S.Store c.args.tx.now.conn.now in
    let b = state g.S.Store c.loop-it.tx.conn.now in
    let none : drop c.loop-it.it-index all ≡ [] = drop_all c.loop-it.it-index all (grind (arith, c.loop-it-test.false)) in
    all_done all a b (subst (λ l. Along all l a b) none c.loop-it.invariant.along) clean
