use Rattle.std.proofs.Common.{sym, ap, ◌∙◌, cond}
use Rattle.std.specs.Prelude.{◌+◌}
use Rattle.master_parts.specs.Tasks.{is_tidied, count_listed}
use Rattle.master_parts.proofs.Tidied.{listed_once}
use Rattle.master_parts.proofs.tasks.list.Goals as goal

pub returns-in-Ok-None : goal.returns-in-Ok-None
returns-in-Ok-None c = λ t i.
    listed_once c.in-Some.instance c.args.instances.now c.put.new.self (sym c.in-Ok-None.ensures.former ∙ c.in-Ok-None.field-0-is) c.in-Ok-None.ensures.ok i
    ∙ ap (λ o. count_listed i c.args.instances.now + cond (is_tidied i o) 1 0) (sym c.in-Some.is)
