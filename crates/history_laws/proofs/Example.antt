-- The history of two programs is one that can be.
use Rattle.std.proofs.Common.{◌≡◌, ℕ, ◌+◌, ◌≤◌, List, [], ◌∷◌, Option, Some, None, true, false, map, refl, sym, ◌∙◌, arith}
use Rattle.std.specs.Prelude.{is_some}
use Rattle.rows_cell.specs.Opening.{opening}
use Rattle.rows_cell.specs.Settings.{terms_of}
use Rattle.tags_cell.specs.declared.messages.requests.Request.{Request}
use Rattle.tags_cell.specs.declared.messages.outs.Out.{Out}
use Rattle.cell_core.specs.Step.{take_step}
use Rattle.over_core.specs.Sweep.{sweep_step}
use Rattle.client_core.specs.Beats.{beat_step}
use Rattle.client_core.specs.Gives.{give_step}
use Rattle.history_laws.specs.Parts.{Parts, nothing_yet, Deed}
use Rattle.history_laws.specs.Histories.{Clocks, AreFair, AreMoments, MoveFairly, KeepFair, GoOn, UnlessBegun, begins_life}
use Rattle.history_laws.specs.Example.{a_cell, at_once, deeds_of_two, two_programs, TwoProgramsArePossible, NothingComesOfNobody}
use Rattle.history_laws.proofs.Tried.{go, go_so, found}

abbrev no_time : Clocks
no_time = record { master = 0; client = λ number. 0 }

no_move : MoveFairly no_time no_time
no_move = record { master = omega arith; fair = λ n. omega arith }

no_later : AreMoments no_time
no_later = record { master = omega arith; client = λ n. omega arith }

it_goes : is_some (go (nothing_yet a_cell.cell (opening a_cell) (terms_of a_cell)) two_programs) ≡ true
unfolding take_step sweep_step beat_step give_step
it_goes = refl

keep_still : (deeds : List Deed) → KeepFair no_time (map at_once deeds)
keep_still [] = tt
keep_still (deed ∷ deeds) =
    elim (begins_life deed) as (λ b. UnlessBegun b (MoveFairly no_time no_time × KeepFair no_time (map at_once deeds))) [ true ↦ tt | false ↦ (no_move, keep_still deeds) ]

go_still : (deeds : List Deed) → GoOn no_time (map at_once deeds)
go_still [] = tt
go_still (deed ∷ deeds) = λ n. omega arith

stand_still : (deeds : List Deed) → AreFair (map at_once deeds)
stand_still [] = tt
stand_still (deed ∷ deeds) = (no_later, go_still deeds, keep_still deeds, stand_still deeds)

pub two_are_possible : TwoProgramsArePossible
two_are_possible =
    let is = found (go (nothing_yet a_cell.cell (opening a_cell) (terms_of a_cell)) two_programs) it_goes in
    record { printed = is.0.1; end = is.0.0; history = go_so two_programs (nothing_yet a_cell.cell (opening a_cell) (terms_of a_cell)) is.0 is.1; fair = stand_still deeds_of_two }

pub nothing_comes : NothingComesOfNobody
nothing_comes p new clocks at printed = (
  λ none does. let e : ◌≡◌ {A = Option Request} None (Some does.request) = sym none ∙ does.was_told in cc,
  λ none does. let e : ◌≡◌ {A = Option Out} None (Some does.out) = sym none ∙ does.was_told in cc,
)
