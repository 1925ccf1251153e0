-- What a server writes.
use Rattle.std.specs.Prelude.{◌≡◌, ℕ, List, drop, None, Result, Ok, Err, if◌then◌else◌}
use Rattle.node_core.specs.declared.refusals.Fault.TheVariants.{StoreRefused}
use Rattle.tags_cell.specs.Numbers.{is_client_number}
use Rattle.tags_cell.specs.Handles.{is_ordinal}
use Rattle.tags_cell.specs.declared.messages.outs.CallResult.TheVariants as results
use Rattle.tags_cell.specs.declared.messages.outs.Reply.{Reply}
use Rattle.tags_cell.specs.declared.messages.outs.Out.{Out}
use Rattle.tags_cell.specs.declared.messages.outs.Out.TheVariants as outs
use Rattle.codec.specs.declared.faults.WireFault.{WireFault}
use Rattle.codec.specs.declared.faults.WireFault.TheVariants.{BadNumber}
use Rattle.codec.specs.Forms.{read_whole}
use Rattle.codec.specs.Outs.{out_written}
use Rattle.codec.specs.Laws.{AreBytes}
use Rattle.hosting.specs.declared.tellings.MasterFrame.TheVariants as tells
use Rattle.hosting.specs.Told.{told}

abbrev pub refused_reply : ℕ → ℕ → ℕ → Reply
refused_reply client epoch number = record { client = client; epoch = epoch; number = number; stamp = None; result = results.Refused StoreRefused }

-- the reply that the store refused a call
abbrev pub store_refused : ℕ → ℕ → ℕ → Result (List ℕ) WireFault
store_refused client epoch number =
    if is_client_number client
    then if is_ordinal number then out_written (outs.Reply (refused_reply client epoch number)) else Err BadNumber
    else Err BadNumber

-- in a block that tells a message, all bytes of it stand after the first ten
abbrev pub MessageStandsBehind : Type 0
MessageStandsBehind =
    (block : List ℕ) (client : ℕ) (message : Out) → AreBytes block → read_whole told block ≡ Ok (tells.Message client message) → out_written message ≡ Ok (drop 10 block)
