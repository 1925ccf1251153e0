use Rattle.std.proofs.Common.{refl}
use Rattle.client_exports.proofs.Ending.{gives, give_fails}
use Rattle.client_exports.proofs.held.HeldClient.give.Goals as goal

pub returns-in-Ok-clause-step : goal.returns-in-Ok-clause-step
returns-in-Ok-clause-step c =
    (gives _ c.args.self.now c.keep.new.self c.give.new.self c.args.now c.args.out.now c.in-Ok.given c.give_status.result c.self.view_is c.in-Ok.ensures c.keep.ensures c.give_status.ensures).0

pub returns-in-Ok-clause-kept : goal.returns-in-Ok-clause-kept
returns-in-Ok-clause-kept c =
    (gives _ c.args.self.now c.keep.new.self c.give.new.self c.args.now c.args.out.now c.in-Ok.given c.give_status.result c.self.view_is c.in-Ok.ensures c.keep.ensures c.give_status.ensures).1

pub returns-in-Err-clause-step : goal.returns-in-Err-clause-step
returns-in-Err-clause-step c = (give_fails _ c.args.self.now _ c.give.new.self c.args.now c.args.out.now c.in-Err.fault c.self.view_is c.in-Err.ensures refl).0

pub returns-in-Err-clause-kept : goal.returns-in-Err-clause-kept
returns-in-Err-clause-kept c = (give_fails _ c.args.self.now _ c.give.new.self c.args.now c.args.out.now c.in-Err.fault c.self.view_is c.in-Err.ensures refl).1
