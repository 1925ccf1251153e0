-- Clients of which nothing is known any more.
use Rattle.std.specs.Prelude.{◌≡◌, ℕ, true, false, nat_lt, List, fold, Some, None}
use Rattle.std.specs.List.{list_all}
use Rattle.master_state.specs.CallsWaiting.{has_call}
use Rattle.master_state.specs.State.{MasterState}
use Rattle.master_state.specs.Lookups.{session_of, has_ended, retiring}
use Rattle.master_laws.specs.Closed.{MasterStep, master_behind}
use Rattle.master_laws.specs.Waits.{is_of_client, HasComeUp}

-- a client number below the mark that has no session: it had one that ended, or comes too late
abbrev pub IsForgotten : MasterState → ℕ → Type 0
IsForgotten s client = (session_of s client ≡ None) × (nat_lt client s.ended_below ≡ true)

-- it gets none, and stays below the mark
abbrev pub ForgottenForever : Type 0
ForgottenForever =
    (lease up client : ℕ) (before steps : List MasterStep) (s : MasterState) → HasComeUp lease up before s → list_all is_of_client steps ≡ true → IsForgotten s client
    → IsForgotten (fold master_behind s steps) client

-- who goes once another session begins: its session has ended, and no call of it waits for its turn
abbrev pub EndedGoAlone : Type 0
EndedGoAlone = (s : MasterState) (client : ℕ) → retiring s ≡ Some client → (has_ended s client ≡ true) × (has_call client s.gate.waiting ≡ false)
