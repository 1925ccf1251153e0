use Rattle.std.proofs.Common.{rules, sym, ap, ◌∙◌}
use Rattle.cell_core.specs.Step.{admit_step}
use Rattle.cell_core.proofs.Notes.{noted}
use Rattle.cell_core.proofs.takes.admit_known.Goals as goal

pub returns-in-Ok-clause-ok : goal.returns-in-Ok-clause-ok
returns-in-Ok-clause-ok g c =
    sym (ap (λ s. admit_step s c.args.message.now c.args.touched c.args.told c.args.answer) (noted _ c.args.master.now c.put_handle.new.self c.args.key c.args.state c.master.view_is c.in_ok-former.ensures.ok))
    ∙ c.in-Ok.ensures.ok
    ∙ ap (λ s. (s, g.A.Answers.answer c.in-Ok.taken)) (sym c.settle_note.ensures)

pub returns-in-Err-clause-err : goal.returns-in-Err-clause-err
returns-in-Err-clause-err g c = search rules
