use Rattle.std.proofs.Common.{◌≡◌, Some, sym, subst}
use Rattle.std.specs.Prelude.{IfOk}
use Rattle.master_parts.specs.declared.handles.HandleNote.{HandleNote}
use Rattle.master_state.specs.Updates.{with_note}
use Rattle.cell_core.specs.Step.{admit_step}
use Rattle.cell_core.proofs.takes.admit_noted.Goals as goal

pub returns-clause-ok : goal.returns-clause-ok
returns-clause-ok g c =
    let P : HandleNote → Type 0 = λ note. IfOk c.admit_known.result (λ taken. admit_step (with_note c.args.master.now (Some note)) c.args.message.now c.args.touched c.args.told c.args.answer ≡ (c.admit_known.new.master, g.A.Answers.answer taken)) in
    subst P (sym c.parts-key.ensures) c.admit_known.ensures.ok
