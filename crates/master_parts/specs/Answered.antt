-- What is kept of a call that has its reply.
use Rattle.std.specs.Prelude.{Some}
use Rattle.tags_cell.specs.declared.messages.outs.Reply.{Reply}
use Rattle.session_core.specs.declared.records.LastCall.{LastCall}

-- the reply to a call is what is recorded of it
abbrev pub answered_by : Reply → LastCall Reply
answered_by reply = record { number = reply.number; reply = Some reply }
