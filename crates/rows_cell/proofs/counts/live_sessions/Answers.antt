use Rattle.std.proofs.Common.{rules, arith, ◌≡◌, length}
use Rattle.rows_cell.proofs.LiveCounts.{count_fits}
use Rattle.rows_cell.proofs.counts.live_sessions.Goals as goal

pub overflow_add-live : goal.overflow_add-live
overflow_add-live c =
    let fits = count_fits c.args.sessions.now c.loop-client._client-iterator c.next.new.self c.in-Some._client.now c.in-Some.session.now c.loop-client.live c.loop-client.invariant c.in-Some.ensures.steps c.if-session.true in
    let count : c.len-most.result ≡ length c.args.sessions.now = search rules in
    omega (arith, fits, count)
