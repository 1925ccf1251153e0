-- The numbers by which a program in another language is told how a call ended.
use Rattle.std.specs.Prelude.{ℕ}
use Rattle.node_core.specs.Refusals.{fault_number}
use Rattle.codec.specs.declared.faults.WireFault.{WireFault}
use Rattle.codec.specs.declared.faults.WireFault.TheVariants as wire
use Rattle.client_exports.specs.declared.statuses.Status.{Status}
use Rattle.client_exports.specs.declared.statuses.Status.TheVariants as statuses

-- what is wrong with bytes; want of memory has its number as a refusal
abbrev pub wire_code : WireFault → ℕ
wire_code wire.NoMemory = 1
wire_code wire.TooLong = 81
wire_code wire.Cut = 82
wire_code wire.BadVersion = 83
wire_code wire.BadKind = 84
wire_code wire.BadNumber = 85
wire_code wire.BadText = 86
wire_code wire.Extra = 87

abbrev pub status_code : Status → ℕ
status_code statuses.Done = 0
status_code statuses.Send = 64
status_code statuses.Served = 65
status_code (statuses.Refused fault) = fault_number fault
status_code (statuses.Failed fault) = fault_number fault
status_code (statuses.Bad fault) = wire_code fault
status_code statuses.NoCall = 88
