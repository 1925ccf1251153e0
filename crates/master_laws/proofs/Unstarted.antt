-- No Start of a client waits: so it is where there is nothing to do, and so it stays where it sends none.
use Rattle.std.proofs.Common.{◌≡◌, ℕ, Bool, true, false}
use Rattle.tags_cell.specs.declared.messages.requests.Request.{Request}
use Rattle.master_state.specs.State.{MasterState}
use Rattle.master_state.specs.Lookups.{noted}
use Rattle.over_core.specs.Deadlines.{quiet_at}
use Rattle.master_laws.specs.Waits.{asks_to_start}
use Rattle.master_laws.proofs.QuietParts.{quiet_has_nothing, none_free}
use Rattle.master_laws.proofs.Reached.{IsReached}
use Rattle.master_laws.proofs.StartsWait.{waits_to_start, starts_by_case, starts_by_sweep, quiet_starts_none}
use Rattle.master_laws.proofs.Lasting.{IsLeft, WasBefore}

abbrev pub Unstarted : ℕ → MasterState → Type 0
Unstarted client s = waits_to_start client s.gate.waiting ≡ false

abbrev pub Always : MasterState → Type 0
Always s = Unit {0}

pub always_before : WasBefore Always
always_before = record { clock = λ s now a. tt; takes = λ s request c a. tt; sweeps = λ s c a. tt; tells = λ s tellings a. tt }

pub unstarted_left : (lease client : ℕ) (kind : Request → Bool) → ((request : Request) → kind request ≡ false → asks_to_start client request ≡ false) → IsLeft lease kind (Unstarted client)
unstarted_left lease client kind without = record {
  clock = λ s now h. h;
  takes = λ s request c r other h. starts_by_case client s request c (without request other) h;
  sweeps = λ s c r h. starts_by_sweep client s c h;
  tells = λ s tellings h. h;
}

pub begins_unstarted : (lease client from : ℕ) (s : MasterState) → IsReached lease s → quiet_at s from ≡ true → Unstarted client s
begins_unstarted lease client from s r quiet =
    let there = noted s from in
    let nothing = quiet_has_nothing there quiet in
    quiet_starts_none client there r.kept.touching (none_free there nothing.change)
