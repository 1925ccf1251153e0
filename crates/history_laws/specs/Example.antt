-- A history with two programs, and one that can't be.
use Rattle.std.specs.Prelude.{◌≡◌, ℕ, List, [], ◌∷◌, ◌++◌, map, codes, Option, None, replicate}
use Rattle.node_core.specs.declared.lines.Line.{Line}
use Rattle.rows_cell.specs.Settings.{Settled, terms_of, no_limits}
use Rattle.rows_cell.specs.Opening.{opening}
use Rattle.world_steps.specs.Messages.{request_at, out_at}
use Rattle.history_laws.specs.Parts.{Parts, nothing_yet, Deed, ComesUp, Takes, Sweeps, Goes, Begins, Beats, Hears}
use Rattle.history_laws.specs.Histories.{Clocks, Entry, Does, History, AreFair}

-- what happens over the rows of a new store can be so
pub record IsPossible (settings : Settled) (entries : List Entry) : Type 0 where
  pub printed : List Line
  pub end : Parts
  pub history : History (nothing_yet settings.cell (opening settings) (terms_of settings)) entries printed end
  pub fair : AreFair entries

abbrev pub a_cell : Settled
a_cell = record { cell = codes "ls"; lease = 12000; base = codes "ann" ++ 10 ∷ codes "bob" ++ 10 ∷ []; secret = replicate 32 7; limits = no_limits }

-- all at one moment
abbrev pub at_once : Deed → Entry
at_once deed = record { clocks = record { master = 0; client = λ number. 0 }; deed = deed }

-- two clients ask for a session. The Start of the second is lost, that of the first comes twice; the master answers it and is gone, another one comes up, and then the answer of the first comes
abbrev pub deeds_of_two : List Deed
deeds_of_two = ComesUp ∷ Begins 1 (codes "ann") ∷ Begins 2 (codes "bob") ∷ Beats 1 ∷ Beats 2 ∷ Takes 1 ∷ Takes 1 ∷ Sweeps ∷ Goes ∷ ComesUp ∷ Hears 3 ∷ []

abbrev pub two_programs : List Entry
two_programs = map at_once deeds_of_two

abbrev pub TwoProgramsArePossible : Type 0
TwoProgramsArePossible = IsPossible a_cell two_programs

-- no part takes a message that nobody told
abbrev pub NothingComesOfNobody : Type 0
NothingComesOfNobody =
    (p new : Parts) (clocks : Clocks) (at : ℕ) (printed : List Line)
    → (request_at p.told at ≡ None → Does p clocks (Takes at) new printed → ⊥) × (out_at p.told at ≡ None → Does p clocks (Hears at) new printed → ⊥)
