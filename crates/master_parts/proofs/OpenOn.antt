-- Whether a handle of a live session is open on a node, by the places of the node's handles.
use Rattle.std.proofs.Common.{◌≡◌, ℕ, List, [], ◌∷◌, Bool, true, false, Some, None, refl, sym, ap, subst, ◌∙◌, arith}
use Rattle.std.specs.Prelude.{◌==◌, ◌+◌}
use Rattle.std.specs.List.{list_any}
use Rattle.std.specs.List.Sorted.{IsStrictlySortedBy}
use Rattle.std.specs.Option.{option_map_or}
use Rattle.std.specs.Map.{keys_of, lookup}
use Rattle.std.specs.BTreeMap.{is_at}
use Rattle.std.specs.declared.ops.Bound.TheVariants.{Included, Excluded}
use Rattle.std.specs.BTreeMap.Range.{range_contains}
use Rattle.std.proofs.lemmas.Bool.Decides.{nat_tests}
use Rattle.rows_cell.proofs.SortedLookups.{lookup_kept}
use Rattle.session_core.specs.Sessions.{SessionTable, is_live}
use Rattle.tags_cell.specs.declared.messages.outs.Reply.{Reply}
use Rattle.master_parts.specs.declared.handles.HandleKey.{HandleKey}
use Rattle.master_parts.specs.declared.handles.HandleState.{HandleState}
use Rattle.master_parts.specs.declared.handles.HandleState.TheVariants.{Open, Closed}
use Rattle.master_parts.specs.declared.open_handles.PlaceOnNode.{PlaceOnNode}
use Rattle.master_parts.specs.Keys.{handle_order}
use Rattle.master_parts.specs.OpenHandles.{place_order, place_of, state_at, ArePlaced, is_open_in, is_known_open}
use Rattle.master_parts.proofs.Found.{either_way, first_of_both, one_passes, any_found, found_any}
use Rattle.master_parts.proofs.PlacedHandles.{exact_handle, exact_place, handle_total, place_total, first_place, places_on, on_instance}

same : (n m : ℕ) → (n == m) ≡ true → n ≡ m
same n m h = grind (arith, nat_tests)

known : (entries : List (HandleKey × HandleState)) (sessions : SessionTable Reply) (instance : ℕ) (key : HandleKey) → is_known_open entries sessions instance key ≡ true → (state : HandleState) × (state_at entries key ≡ Some state) × (is_open_in sessions instance key state ≡ true)
known entries sessions instance key h =
    (elim (state_at entries key) as (λ o. state_at entries key ≡ o → option_map_or (is_open_in sessions instance key) o false ≡ true → (state : HandleState) × (state_at entries key ≡ Some state) × (is_open_in sessions instance key state ≡ true)) [
      | None ↦ (λ c k. absurd (cc))
      | Some state ↦ (λ c k. (state, c, k))
    ]) refl h

-- the handle stands in its place on the instance
placed_there : (entries : List (HandleKey × HandleState)) (places : List (PlaceOnNode × HandleKey)) (sessions : SessionTable Reply) (instance : ℕ) (key : HandleKey) (state : HandleState) → IsStrictlySortedBy place_order (keys_of places) → ArePlaced entries places → state_at entries key ≡ Some state → is_open_in sessions instance key state ≡ true → lookup (is_at (place_order (place_of instance key))) (places_on instance places) ≡ Some key
placed_there entries places sessions instance key Closed sorted placed h t = absurd (cc)
placed_there entries places sessions instance key (Open noted) sorted placed h t =
    let on : noted.handle.instance ≡ instance = same noted.handle.instance instance (first_of_both (noted.handle.instance == instance) (is_live sessions key.client) t) in
    let P : ℕ → Type 0 = λ i. lookup (is_at (place_order (place_of i key))) places ≡ Some key in
    let found : P instance = subst P on (placed key noted h) in
    lookup_kept place_order place_total exact_place (λ e. range_contains place_order (Included (first_place instance)) (Excluded (first_place (instance + 1))) e.0) places (place_of instance key) sorted
    ∙ rw (found, on_instance instance key) refl

pub open_by_places : (entries : List (HandleKey × HandleState)) (places : List (PlaceOnNode × HandleKey)) (sessions : SessionTable Reply) (instance : ℕ) → IsStrictlySortedBy handle_order (keys_of entries) → IsStrictlySortedBy place_order (keys_of places) → ArePlaced entries places → list_any (λ e. is_known_open entries sessions instance e.1) (places_on instance places) ≡ list_any (λ entry. is_open_in sessions instance entry.0 entry.1) entries
open_by_places entries places sessions instance sorted in_order placed =
    let test : PlaceOnNode × HandleKey → Bool = λ e. is_known_open entries sessions instance e.1 in
    let opens : HandleKey × HandleState → Bool = λ entry. is_open_in sessions instance entry.0 entry.1 in
    either_way (list_any test (places_on instance places)) (list_any opens entries)
    (λ h.
    let e = one_passes test (places_on instance places) h in
    let t = known entries sessions instance e.0.1 e.1 in
    any_found handle_order handle_total exact_handle opens entries e.0.1 t.0 t.1 t.2)
    (λ h.
    let t = found_any handle_order handle_total exact_handle opens entries sorted h in
    let there = placed_there entries places sessions instance t.0 t.1 in_order placed t.2 t.3 in
    let knows : is_known_open entries sessions instance t.0 ≡ true = rw t.2 t.3 in
    any_found place_order place_total exact_place test (places_on instance places) (place_of instance t.0) t.0 there knows)

-- ---- what the steps of the loop come to

module _ (entries : List (HandleKey × HandleState)) (places : List (PlaceOnNode × HandleKey)) (sessions : SessionTable Reply) (instance : ℕ) (sorted : IsStrictlySortedBy handle_order (keys_of entries)) (in_order : IsStrictlySortedBy place_order (keys_of places)) (placed : ArePlaced entries places) where
  abbrev Knows : PlaceOnNode × HandleKey → Bool
  Knows e = is_known_open entries sessions instance e.1

  pub open_found : (left rest : List (PlaceOnNode × HandleKey)) (place : PlaceOnNode) (key : HandleKey) → left ≡ (place, key) ∷ rest → list_any Knows left ≡ list_any Knows (places_on instance places) → is_known_open entries sessions instance key ≡ true → true ≡ list_any (λ entry. is_open_in sessions instance entry.0 entry.1) entries
  open_found left rest place key step kept knows =
      let first : true ≡ list_any Knows ((place, key) ∷ rest) = rw knows refl in
      first ∙ ap (list_any Knows) (sym step) ∙ kept ∙ open_by_places entries places sessions instance sorted in_order placed

  pub open_none : (left : List (PlaceOnNode × HandleKey)) → left ≡ [] → list_any Knows left ≡ list_any Knows (places_on instance places) → false ≡ list_any (λ entry. is_open_in sessions instance entry.0 entry.1) entries
  open_none left none kept = ap (list_any Knows) (sym none) ∙ kept ∙ open_by_places entries places sessions instance sorted in_order placed
