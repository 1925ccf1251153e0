use Rattle.std.proofs.Common.{refl}
use Rattle.client_exports.proofs.Ending.{beats, beat_fails}
use Rattle.client_exports.proofs.held.HeldClient.beat.Goals as goal

pub returns-in-Ok-clause-step : goal.returns-in-Ok-clause-step
returns-in-Ok-clause-step c =
    (beats _ c.args.self.now c.keep.new.self c.beat.new.self c.args.now c.in-Ok.beaten c.beat_status-status.result c.self.view_is c.in-Ok.ensures c.keep.ensures c.beat_status-status.ensures).0

pub returns-in-Ok-clause-kept : goal.returns-in-Ok-clause-kept
returns-in-Ok-clause-kept c =
    (beats _ c.args.self.now c.keep.new.self c.beat.new.self c.args.now c.in-Ok.beaten c.beat_status-status.result c.self.view_is c.in-Ok.ensures c.keep.ensures c.beat_status-status.ensures).1

pub returns-in-Err-clause-step : goal.returns-in-Err-clause-step
returns-in-Err-clause-step c = (beat_fails _ c.args.self.now _ c.beat.new.self c.args.now c.in-Err.fault c.self.view_is c.in-Err.ensures refl).0

pub returns-in-Err-clause-kept : goal.returns-in-Err-clause-kept
returns-in-Err-clause-kept c = (beat_fails _ c.args.self.now _ c.beat.new.self c.args.now c.in-Err.fault c.self.view_is c.in-Err.ensures refl).1
