use Rattle.std.proofs.Common.{◌≡◌, rules, ap, ◌∙◌}
use Rattle.std.specs.List.{list_any}
use Rattle.gate_core.specs.Waking.{is_listed}
use Rattle.master_parts.specs.Ephemerals.{tidies}
use Rattle.master_parts.proofs.Tidied.{found_listed}
use Rattle.master_parts.proofs.tasks.Tasks.tidies.Goals as goal

pub returns-then-self : goal.returns-then-self
returns-then-self c =
    let listed : c.is_some.result ≡ is_listed c.args.instance c.self.inside.instances = search rules in
    listed ∙ found_listed c.args.instance c.self.inside.instances c.self.inside.queue.gate.waiting (c.self.invariant c.if-self.true)
    ∙ ap (λ q. list_any (λ w. tidies c.args.instance w.change.body) q.gate.waiting) c.self.view_is
