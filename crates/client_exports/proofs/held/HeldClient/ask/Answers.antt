use Rattle.std.proofs.Common.{refl}
use Rattle.client_exports.proofs.Ending.{asks, ask_fails}
use Rattle.client_exports.proofs.held.HeldClient.ask.Goals as goal

pub returns-in-Ok-clause-step : goal.returns-in-Ok-clause-step
returns-in-Ok-clause-step c =
    (asks _ c.args.self.now c.keep.new.self c.ask.new.self c.args.now c.args.ask.now c.in-Ok.asked c.sent_by.result c.ask_status-status.result c.self.view_is c.in-Ok.ensures c.sent_by.ensures c.keep.ensures c.ask_status-status.ensures).0

pub returns-in-Ok-clause-kept : goal.returns-in-Ok-clause-kept
returns-in-Ok-clause-kept c =
    (asks _ c.args.self.now c.keep.new.self c.ask.new.self c.args.now c.args.ask.now c.in-Ok.asked c.sent_by.result c.ask_status-status.result c.self.view_is c.in-Ok.ensures c.sent_by.ensures c.keep.ensures c.ask_status-status.ensures).1

pub returns-in-Err-clause-step : goal.returns-in-Err-clause-step
returns-in-Err-clause-step c = (ask_fails _ c.args.self.now _ c.ask.new.self c.args.now c.args.ask.now c.in-Err.fault c.self.view_is c.in-Err.ensures refl).0

pub returns-in-Err-clause-kept : goal.returns-in-Err-clause-kept
returns-in-Err-clause-kept c = (ask_fails _ c.args.self.now _ c.ask.new.self c.args.now c.args.ask.now c.in-Err.fault c.self.view_is c.in-Err.ensures refl).1
