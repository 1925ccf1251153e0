use Rattle.std.proofs.Common.{arith}
use Rattle.hosting.specs.Told.{told}
use Rattle.hosting.proofs.ToldLaws.{told_form}
use Rattle.hosting.proofs.Readings.{whole_of, refused_of, back_of}
use Rattle.hosting.proofs.heard.read_told.Goals as goal

pub returns-in-Ok-clause-told : goal.returns-in-Ok-clause-told
returns-in-Ok-clause-told c = whole_of told c.args.bytes.now _ _ c.in-Ok.ensures.begun c.read_fields.ensures

pub returns-in-Ok-clause-back : goal.returns-in-Ok-clause-back
returns-in-Ok-clause-back c = back_of told_form c.args.bytes.now _ (λ i. omega (arith, c.type_inv.bytes i)) (whole_of told c.args.bytes.now _ _ c.in-Ok.ensures.begun c.read_fields.ensures)

pub returns-in-Err-clause-told : goal.returns-in-Err-clause-told
returns-in-Err-clause-told c = λ other. refused_of told c.args.bytes.now _ c.in-Err.ensures.refused
