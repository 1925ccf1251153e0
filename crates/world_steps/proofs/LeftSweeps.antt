-- What is left after a sweep that is refused.
use Rattle.std.proofs.Common.{◌≡◌, ℕ, Bool, true, false, List, Result, Err, Some, refl, ap, subst, sym, ◌∙◌, inl, inr, arith}
use Rattle.std.specs.Prelude.{◌⊎◌, Ok, OnErr}
use Rattle.node_core.specs.declared.refusals.Fault.{Fault}
use Rattle.rows_cell.specs.declared.settings.MasterTerms.{MasterTerms}
use Rattle.rows_cell.specs.declared.tables.Edit.{Edit}
use Rattle.rows_cell.specs.declared.tables.Rows.{Rows}
use Rattle.rows_cell.specs.Stores.{Store}
use Rattle.master_state.specs.State.{MasterState}
use Rattle.over_core.specs.Kept.{CellState}
use Rattle.over_core.specs.Sweep.{IsHeldUp as Uncommitted, MayLeaveUp}
use Rattle.world_steps.specs.declared.mail.Message.{Message}
use Rattle.world_steps.specs.Members.{Clients}
use Rattle.world_steps.specs.World.{WorldState, WorldView, view_of, IsLeft}
use Rattle.world_steps.proofs.RefusedUp.{leaves_same}

abbrev pub world_of : Store → MasterState → ℕ → Clients → List Message → MasterTerms → WorldView
world_of store master clock clients messages terms = view_of store (Some master) clock clients messages terms

stays_up : (freed : Bool) (edits : List Edit) (rows : Rows) (leave : List Rows) → MayLeaveUp freed edits rows leave leave
stays_up true edits rows leave = inl refl
stays_up false edits rows leave = leaves_same edits rows leave leave refl

same_left : (freed : Bool) (edits : List Edit) (w : WorldView) → IsLeft freed edits w w
same_left freed edits w = record { same = refl; leave = stays_up freed edits w.world.rows w.may_leave; doubted = omega arith }

uncommitted_left : (freed : Bool) (edits : List Edit) (fault : Fault) (before after : CellState) (clock : ℕ) (clients : Clients) (messages : List Message) (terms : MasterTerms) → after.master ≡ before.master → Uncommitted fault freed edits before.store after.store → IsLeft freed edits (world_of before.store before.master clock clients messages terms) (world_of after.store after.master clock clients messages terms)
uncommitted_left freed edits fault before after clock clients messages terms same r = record {
  same =
      let made : List ℕ → Rows → MasterState → WorldState = λ cell rows master. record { cell = cell; rows = rows; master = Some master; clock = clock; clients = clients; messages = messages; terms = terms } in
      ap (λ x. made x after.store.rows after.master) r.cell ∙ ap (λ x. made before.store.cell x after.master) r.rows ∙ ap (λ x. made before.store.cell before.store.rows x) same;
  leave = r.leave;
  doubted = r.doubted;
}

-- the table refuses it, or the store does
pub sweep_left : {A : Type 0} (freed : Bool) (edits : List Edit) (fault : Fault) (step : Result A Fault) (before after : CellState) (clock : ℕ) (clients : Clients) (messages : List Message) (terms : MasterTerms) → after.master ≡ before.master → ((step ≡ Err fault) × (after ≡ before)) ⊎ Uncommitted fault freed edits before.store after.store → IsLeft freed edits (world_of before.store before.master clock clients messages terms) (world_of after.store after.master clock clients messages terms)
sweep_left freed edits fault step before after clock clients messages terms same (inl (e, stays)) =
    subst (λ (x : CellState). IsLeft freed edits (world_of before.store before.master clock clients messages terms) (world_of x.store x.master clock clients messages terms)) (sym stays) (same_left freed edits (world_of before.store before.master clock clients messages terms))
sweep_left freed edits fault step before after clock clients messages terms same (inr r) = uncommitted_left freed edits fault before after clock clients messages terms same r

pub whenever : {A E : Type 0} (r : Result A E) (P : Type 0) → P → OnErr r P
whenever (Ok x) P p = tt
whenever (Err e) P p = p
