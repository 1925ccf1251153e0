-- A closed handle stays closed when the handles of an ended session are forgotten.
use Rattle.std.proofs.Common.{◌≡◌, ℕ, List, [], ◌∷◌, Bool, true, false, cond, Option, Some, None, refl, sym, ap, ◌∙◌}
use Rattle.std.specs.Prelude.{◌&&◌, ◌==◌, not}
use Rattle.std.specs.BTreeMap.{is_at}
use Rattle.std.proofs.lemmas.Bool.{and_parts}
use Rattle.tags_cell.specs.declared.handles.Handle.{Handle}
use Rattle.master_parts.specs.Keys.{handle_order}
use Rattle.master_parts.specs.OpenHandles.{state_at, is_shut, outlasts, without_client}
use Rattle.master_parts.specs.declared.handles.HandleKey.{HandleKey}
use Rattle.master_parts.specs.declared.handles.HandleState.{HandleState}
use Rattle.master_parts.specs.declared.handles.HandleState.TheVariants as states
use Rattle.master_parts.proofs.Found.{same_key}
use Rattle.master_parts.proofs.PlacedHandles.{exact_handle}
use Rattle.master_state.specs.declared.updates.SessionUpdate.{SessionUpdate}
use Rattle.master_state.specs.declared.updates.SessionUpdate.TheVariants.{Begins, Prolongs, Ends, Answers}
use Rattle.master_laws.specs.Closed.{is_closed}
use Rattle.master_laws.proofs.AfterSweeps.{parted_handles}

abbrev Handles : Type 0
Handles = List (HandleKey × HandleState)

-- one that doesn't outlast its session is of the client, and open
goes_parts : (own shut : Bool) → not (own && not shut) ≡ false → (own ≡ true) × (shut ≡ false)
goes_parts true true h = absurd (cc)
goes_parts true false h = (refl, refl)
goes_parts false shut h = absurd (cc)

stays_shut : (own shut : Bool) → own ≡ true → not (own && not shut) ≡ true → shut ≡ true
stays_shut true true own h = refl
stays_shut true false own h = absurd (cc)
stays_shut false shut own h = absurd (cc)

module _ (epoch client : ℕ) (handle : Handle) (key : HandleKey) where
  abbrev Closes : Option HandleState → Type 0
  Closes o = is_closed epoch handle o ≡ true

  shut_closes : (state : HandleState) → is_shut (Some state) ≡ true → Closes (Some state)
  shut_closes (states.Open noted) h = absurd (cc)
  shut_closes states.Closed h = refl

  open_is_here : (state : HandleState) → is_shut (Some state) ≡ false → Closes (Some state) → (handle.epoch == epoch) ≡ true
  open_is_here (states.Open noted) h closes = (and_parts (handle.epoch == epoch) (not (handle.epoch == noted.handle.epoch)) closes).0
  open_is_here states.Closed h closes = absurd (cc)

  -- of the client's handles none is known as open then
  none_open : (key.client == client) ≡ true → (handle.epoch == epoch) ≡ true → (es : Handles) → Closes (state_at (without_client es client) key)
  none_open own here [] = here
  none_open own here (e ∷ es) =
      let less : Handles = without_client es client in
      let rest = none_open own here es in
      (elim (outlasts client e) as (λ b. outlasts client e ≡ b → Closes (state_at (cond b (e ∷ less) less) key)) [
        | false ↦ (λ goes. rest)
        | true ↦ (λ stays.
            (elim (is_at (handle_order key) e.0) as (λ b. is_at (handle_order key) e.0 ≡ b → Closes (cond b (Some e.1) (state_at less key))) [
              | false ↦ (λ other. rest)
              | true ↦ (λ at.
                  let mine : (e.0.client == client) ≡ true = ap (λ (k : HandleKey). k.client == client) (sym (same_key handle_order exact_handle key e.0 at)) ∙ own in
                  shut_closes e.1 (stays_shut (e.0.client == client) (is_shut (Some e.1)) mine stays))
            ]) refl)
      ]) refl

  still_closed : (es : Handles) → Closes (state_at es key) → Closes (state_at (without_client es client) key)
  still_closed [] closes = closes
  still_closed (e ∷ es) closes =
      let less : Handles = without_client es client in
      (elim (is_at (handle_order key) e.0) as (λ b. is_at (handle_order key) e.0 ≡ b → Closes (cond b (Some e.1) (state_at es key)) → Closes (state_at (cond (outlasts client e) (e ∷ less) less) key)) [
        | false ↦ (λ other c.
            elim (outlasts client e) as (λ b. Closes (state_at (cond b (e ∷ less) less) key)) [
              | true ↦ ap (λ b. is_closed epoch handle (cond b (Some e.1) (state_at less key))) other ∙ still_closed es c
              | false ↦ still_closed es c
            ])
        | true ↦ (λ at c.
            (elim (outlasts client e) as (λ b. outlasts client e ≡ b → Closes (state_at (cond b (e ∷ less) less) key)) [
              | true ↦ (λ stays. ap (λ b. is_closed epoch handle (cond b (Some e.1) (state_at less key))) at ∙ c)
              | false ↦ (λ goes.
                  let parts = goes_parts (e.0.client == client) (is_shut (Some e.1)) goes in
                  let own : (key.client == client) ≡ true = ap (λ (k : HandleKey). k.client == client) (same_key handle_order exact_handle key e.0 at) ∙ parts.0 in
                  none_open own (open_is_here e.1 parts.1 c) es)
            ]) refl)
      ]) refl closes

-- the same by each update of a session
pub parted_closed : (epoch : ℕ) (handle : Handle) (key : HandleKey) (o : Option SessionUpdate) (es : Handles) → is_closed epoch handle (state_at es key) ≡ true → is_closed epoch handle (state_at (parted_handles o es) key) ≡ true
parted_closed epoch handle key None es closes = closes
parted_closed epoch handle key (Some (Begins client principal)) es closes = closes
parted_closed epoch handle key (Some (Prolongs client)) es closes = closes
parted_closed epoch handle key (Some (Ends client principal parting)) es closes = still_closed epoch client handle key es closes
parted_closed epoch handle key (Some (Answers client)) es closes = closes
