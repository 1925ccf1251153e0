-- A master's message, by its parts.
use Rattle.std.specs.Prelude.{ℕ, ◌+◌, ◌==◌, ◌&&◌, List, [], length, if◌then◌else◌}
use Rattle.node_core.specs.Refusals.{fault_number}
use Rattle.tags_cell.specs.declared.messages.beats.Alive.{Alive}
use Rattle.tags_cell.specs.declared.messages.outs.CallResult.{CallResult}
use Rattle.tags_cell.specs.declared.messages.outs.CallResult.TheVariants as results
use Rattle.tags_cell.specs.declared.messages.outs.Out.{Out}
use Rattle.tags_cell.specs.declared.messages.outs.Out.TheVariants as outs
use Rattle.codec.specs.Outs.{out_kind, out_place}
use Rattle.server_exports.specs.declared.said.Said.{Said}

-- which message it is: one above the byte of its kind
abbrev pub out_number : Out → ℕ
out_number message = out_place (out_kind message) + 1

-- the number of the refusal, 0 where it is none
abbrev pub result_fault : CallResult → ℕ
result_fault (results.Refused why) = fault_number why
result_fault given = 0

-- whether it comes with invalidations or events
abbrev pub brings : Alive → ℕ
brings message = if (length message.invalidations == 0) && (length message.events == 0) then 0 else 1

abbrev pub said_parts : Out → Said
said_parts (outs.Started message) = record {
  what = out_number (outs.Started message);
  fault = 0;
  client = message.client;
  epoch = message.epoch;
  number = message.number;
  span = message.span;
  brings = 0;
}
said_parts (outs.Alive message) = record {
  what = out_number (outs.Alive message);
  fault = 0;
  client = message.client;
  epoch = message.epoch;
  number = message.number;
  span = message.span;
  brings = brings message;
}
said_parts (outs.Reply message) = record {
  what = out_number (outs.Reply message);
  fault = result_fault message.result;
  client = message.client;
  epoch = message.epoch;
  number = message.number;
  span = 0;
  brings = 0;
}
said_parts (outs.Refused message) = record {
  what = out_number (outs.Refused message);
  fault = fault_number message.fault;
  client = message.client;
  epoch = message.epoch;
  number = message.number;
  span = 0;
  brings = 0;
}

-- no name is told of it
abbrev pub said_name : Out → List ℕ
said_name message = []
