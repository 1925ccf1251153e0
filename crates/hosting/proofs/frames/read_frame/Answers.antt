use Rattle.std.proofs.Common.{arith}
use Rattle.hosting.specs.Frames.{frame}
use Rattle.hosting.proofs.FrameLaws.{frame_form}
use Rattle.hosting.proofs.Readings.{whole_of, refused_of, back_of}
use Rattle.hosting.proofs.frames.read_frame.Goals as goal

pub returns-in-Ok-clause-frame : goal.returns-in-Ok-clause-frame
returns-in-Ok-clause-frame c = whole_of frame c.args.bytes.now _ _ c.in-Ok.ensures.begun c.read_fields.ensures

pub returns-in-Ok-clause-back : goal.returns-in-Ok-clause-back
returns-in-Ok-clause-back c = back_of frame_form c.args.bytes.now _ (λ i. omega (arith, c.type_inv.bytes i)) (whole_of frame c.args.bytes.now _ _ c.in-Ok.ensures.begun c.read_fields.ensures)

pub returns-in-Err-clause-frame : goal.returns-in-Err-clause-frame
returns-in-Err-clause-frame c = λ other. refused_of frame c.args.bytes.now _ c.in-Err.ensures.refused
