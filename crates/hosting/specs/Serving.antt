-- What a master answers: steps by messages, and sweeps until one is quiet; where the store refuses, Beats.
use Rattle.std.specs.Prelude.{◌≡◌, ◌≢◌, ◌⊎◌, ℕ, Bool, true, false, List, [], ◌∷◌, ◌++◌, length, Ok, Err}
use Rattle.std.specs.List.{AllByRecursion}
use Rattle.node_core.specs.declared.refusals.Fault.{Fault}
use Rattle.node_core.specs.declared.refusals.Fault.TheVariants.{NoMemory, StoreRefused}
use Rattle.tags_cell.specs.declared.messages.requests.Request.{Request}
use Rattle.cell_core.specs.Step.{take_step}
use Rattle.over_core.specs.declared.swept.Swept.{Swept}
use Rattle.over_core.specs.Kept.{CellState}
use Rattle.over_core.specs.Sweep.{sweep_step, sweep_edits, sweep_frees, IsSwept, IsHeldUp, beats_step}
use Rattle.hosting.specs.declared.settling.End.{End}
use Rattle.hosting.specs.declared.settling.End.TheVariants.{Quiet, Refused, Unfinished}
use Rattle.hosting.specs.declared.settling.Round.{Round}
use Rattle.hosting.specs.declared.settling.Settled.{Settled}
use Rattle.hosting.specs.declared.answers.Answered.{Answered}
use Rattle.hosting.specs.declared.answers.Answered.TheVariants as answers

-- one sweep was done, and its edits are committed
pub record SweepsOnce (now : ℕ) (old : CellState) (swept : Swept) (new : CellState) : Type 0 where
  pub step : sweep_step old.master now ≡ Ok (new.master, swept)
  pub committed : IsSwept (sweep_frees old.master now) (sweep_edits old.master now) old.store new.store

-- a Beat that was due was answered, or none was due; the store was asked for nothing
pub record BeatsOnce (now : ℕ) (old : CellState) (swept : Swept) (new : CellState) : Type 0 where
  pub step : beats_step old.master now ≡ Ok (new.master, swept)
  pub store : new.store ≡ old.store

-- steps of one kind were done, one after the other
abbrev pub StepsTo : (CellState → Swept → CellState → Type 0) → CellState → List Swept → CellState → Type 0
StepsTo Once old [] new = new ≡ old
StepsTo Once old (swept ∷ rest) new = (mid : CellState) × Once old swept mid × StepsTo Once mid rest new

-- each of them found something to do
abbrev pub AreBusy : List Swept → Type 0
AreBusy sweeps = AllByRecursion (λ swept. swept.quiet ≡ false) sweeps

-- a sweep was refused, which leaves the master and its rows
pub record StopsAt (now : ℕ) (old : CellState) (fault : Fault) (new : CellState) : Type 0 where
  pub why : (sweep_step old.master now ≡ Err fault × new ≡ old) ⊎ IsHeldUp fault (sweep_frees old.master now) (sweep_edits old.master now) old.store new.store
  pub master : new.master ≡ old.master

-- the answer to a Beat was refused, which changes nothing
pub record BeatStops (now : ℕ) (old : CellState) (fault : Fault) (new : CellState) : Type 0 where
  pub why : fault ≢ NoMemory → beats_step old.master now ≡ Err fault
  pub same : new ≡ old

-- the most sweeps that are made for one frame
abbrev pub sweep_limit : ℕ
sweep_limit = 64

-- steps of one kind until one found nothing to do, or until one is refused so, or as many as are made
abbrev pub EndsBy : (CellState → Swept → CellState → Type 0) → (CellState → Fault → CellState → Type 0) → CellState → List Swept → End → CellState → Type 0
EndsBy Once Stops old sweeps Quiet new =
    (busy : List Swept) × (last : Swept) × (sweeps ≡ busy ++ last ∷ []) × AreBusy busy × (last.quiet ≡ true) × StepsTo Once old sweeps new
EndsBy Once Stops old sweeps (Refused fault) new = (mid : CellState) × StepsTo Once old sweeps mid × AreBusy sweeps × Stops mid fault new
EndsBy Once Stops old sweeps Unfinished new = StepsTo Once old sweeps new × AreBusy sweeps × (length sweeps ≡ sweep_limit)

-- sweeps
abbrev pub EndsIn : ℕ → CellState → List Swept → End → CellState → Type 0
EndsIn now old sweeps end new = EndsBy (SweepsOnce now) (StopsAt now) old sweeps end new

-- answers to the Beats that are due
abbrev pub EndsBeats : ℕ → CellState → List Swept → End → CellState → Type 0
EndsBeats now old sweeps end new = EndsBy (BeatsOnce now) (BeatStops now) old sweeps end new

-- the store refused what a sweep was to commit
abbrev pub is_shut : End → Bool
is_shut (Refused StoreRefused) = true
is_shut end = false

-- after that the Beats that are due are answered; after any other end nothing is done
abbrev pub BeatsBehind : ℕ → Bool → CellState → Round → CellState → Type 0
BeatsBehind now true old beats new = EndsBeats now old beats.sweeps beats.end new
BeatsBehind now false old beats new = (beats ≡ record { sweeps = []; end = Quiet }) × (new ≡ old)

-- sweeps, and Beats after them
pub record Settles (now : ℕ) (old : CellState) (settled : Settled) (new : CellState) : Type 0 where
  pub mid : CellState
  pub swept : EndsIn now old settled.round.sweeps settled.round.end mid
  pub answered : BeatsBehind now (is_shut settled.round.end) mid settled.beats new

-- the message was taken, and what it began is done by sweeps of the same master; or it was refused, and nothing is changed
abbrev pub Answers : ℕ → Request → CellState → Answered → CellState → Type 0
Answers now request old (answers.Refused fault) new = (fault ≢ NoMemory → take_step old.master now request ≡ Err fault) × (new ≡ old)
Answers now request old (answers.Taken taken settled) new =
    (mid : CellState) × (take_step old.master now request ≡ Ok (mid.master, taken)) × (mid.store ≡ old.store) × Settles now mid settled new
