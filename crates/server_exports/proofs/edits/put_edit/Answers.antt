use Rattle.std.proofs.Common.{Ok, Err, refl, ◌∙◌}
use Rattle.codec.specs.declared.faults.WireFault.TheVariants.{NoMemory}
use Rattle.server_exports.proofs.Filling.{filled_by}
use Rattle.server_exports.proofs.edits.put_edit.Goals as goal

pub returns-in-Ok : goal.returns-in-Ok
returns-in-Ok c = record {
  read = Ok (c.args.done.now, c.args.taken);
  wants = refl;
  tells = (c.parts_of.ensures, filled_by _ _ _ _ (c.as_slice.ensures ∙ c.in-Ok.ensures) c.fill.ensures, refl);
}

pub returns-in-Err : goal.returns-in-Err
returns-in-Err c = record { read = Err NoMemory; wants = λ other. absurd (other refl); tells = (refl, refl, c.fault_code.ensures) }
