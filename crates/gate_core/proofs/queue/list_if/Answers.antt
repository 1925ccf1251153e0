use Rattle.std.proofs.Common.{ap, sym, ◌∙◌}
use Rattle.std.specs.Prelude.{◌==◌, ◌&&◌, ◌||◌}
use Rattle.gate_core.specs.Waking.{is_listed}
use Rattle.gate_core.proofs.Leading.{listed_put}
use Rattle.gate_core.proofs.queue.list_if.Goals as goal

pub returns-in_ok-put-clause-ok : goal.returns-in_ok-put-clause-ok
returns-in_ok-put-clause-ok c = λ n.
    listed_put c.args.number c.args.free.now c.put.new.self c.in_ok-put.ensures.ok n ∙ ap (λ b. (b && (n == c.args.number)) || is_listed n c.args.free.now) (sym c.if-test.true)
