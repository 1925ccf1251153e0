-- Histories of parts that run apart, and the clocks that they go by.
use Rattle.std.specs.Prelude.{◌≡◌, ℕ, ◌+◌, ◌-◌, ◌*◌, ◌≤◌, Bool, true, false, List, [], ◌∷◌, ◌++◌}
use Rattle.lease_core.specs.Lease.{IsMoment}
use Rattle.node_core.specs.declared.lines.Line.{Line}
use Rattle.history_laws.specs.Parts.{Parts, Deed, ComesUp, FallsComingUp, Takes, Sweeps, FallsSweeping, AnswersBeat, Goes, Begins, Asks, Beats, Hears}
use Rattle.history_laws.specs.Parts.{ComesUpBy, FallsComingUpBy, TakesBy, SweepsBy, FallsSweepingBy, AnswersBeatBy, GoesBy, BeginsBy, AsksBy, BeatsBy, HearsBy}

-- what all clocks show at one moment of true time, in milliseconds: the master's, and that of the client of each number. No part reads another's
pub record Clocks : Type 0 where
  pub master : ℕ
  pub client : ℕ → ℕ

-- a deed, at a moment
pub record Entry : Type 0 where
  pub clocks : Clocks
  pub deed : Deed

-- a part does its own step, by its own clock, and no other part changes; or a part comes, or is gone
abbrev pub Does : Parts → Clocks → Deed → Parts → List Line → Type 0
Does p clocks ComesUp new printed = ComesUpBy p clocks.master new printed
Does p clocks FallsComingUp new printed = FallsComingUpBy p clocks.master new printed
Does p clocks (Takes at) new printed = TakesBy p clocks.master at new printed
Does p clocks Sweeps new printed = SweepsBy p clocks.master new printed
Does p clocks FallsSweeping new printed = FallsSweepingBy p clocks.master new printed
Does p clocks AnswersBeat new printed = AnswersBeatBy p clocks.master new printed
Does p clocks Goes new printed = GoesBy p new printed
Does p clocks (Begins number principal) new printed = BeginsBy p number principal new printed
Does p clocks (Asks number ask) new printed = AsksBy p (clocks.client number) number ask new printed
Does p clocks (Beats number) new printed = BeatsBy p (clocks.client number) number new printed
Does p clocks (Hears at) new printed = HearsBy p clocks.client at new printed

-- deeds, in the order of true time, with all lines that they print
abbrev pub History : Parts → List Entry → List Line → Parts → Type 0
History old [] printed new = (printed ≡ []) × (new ≡ old)
History old (entry ∷ entries) printed new =
    (mid : Parts) × (here : List Line) × (rest : List Line) × Does old entry.clocks entry.deed mid here × History mid entries rest new × (printed ≡ here ++ rest)

-- ---- clocks

-- from one moment to a later one of a master's life its clock doesn't go back, and gains on no client's more than one part in sixteen, and a millisecond
pub record MoveFairly (here later : Clocks) : Type 0 where
  pub master : here.master ≤ later.master
  pub fair : (number : ℕ) → 16 * (later.master - here.master) ≤ 17 * ((later.client number - here.client number) + 1)

-- another master's life begins, by a clock of its own
abbrev pub begins_life : Deed → Bool
begins_life ComesUp = true
begins_life FallsComingUp = true
begins_life _ = false

abbrev pub UnlessBegun : Bool → Type 0 → Type 0
UnlessBegun true Rest = Unit {0}
UnlessBegun false Rest = Rest

-- from this moment on to each later one, until another master's life begins
abbrev pub KeepFair : Clocks → List Entry → Type 0
KeepFair here [] = Unit {0}
KeepFair here (entry ∷ entries) = UnlessBegun (begins_life entry.deed) (MoveFairly here entry.clocks × KeepFair here entries)

-- no client's clock goes back
abbrev pub GoOn : Clocks → List Entry → Type 0
GoOn here [] = Unit {0}
GoOn here (entry ∷ entries) = (number : ℕ) → here.client number ≤ entry.clocks.client number

-- no clock is past the end of moments
pub record AreMoments (clocks : Clocks) : Type 0 where
  pub master : IsMoment clocks.master
  pub client : (number : ℕ) → IsMoment (clocks.client number)

-- the clocks of a history are fair
abbrev pub AreFair : List Entry → Type 0
AreFair [] = Unit {0}
AreFair (entry ∷ entries) = AreMoments entry.clocks × GoOn entry.clocks entries × KeepFair entry.clocks entries × AreFair entries

-- they go on fairly to this moment, whatever happens at it
abbrev pub GoOnTo : List Entry → Clocks → Type 0
GoOnTo entries now = AreFair (entries ++ record { clocks = now; deed = Goes } ∷ [])
