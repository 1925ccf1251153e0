-- The first node that is to go, by the names of the ephemeral ones.
use Rattle.std.proofs.Common.{◌≡◌, ℕ, List, [], ◌∷◌, Bool, true, false, cond, Option, Some, None, Result, Ok, Err, Less, Greater, refl, sym, ap, subst, ◌∙◌}
use Rattle.std.specs.Prelude.{◌&&◌, not, find, is_some}
use Rattle.std.specs.Option.{option_map, option_map_or}
use Rattle.std.specs.Result.{IfOk}
use Rattle.std.specs.Ordering.{nat_cmp, ordering_reverse}
use Rattle.std.specs.Cmp.Lexicographic.{slice_cmp, nat_list_cmp_total}
use Rattle.std.specs.List.{AllByRecursion}
use Rattle.std.specs.List.Sorted.{IsStrictlySortedBy}
use Rattle.std.specs.Map.{keys_of, lookup}
use Rattle.std.specs.BTreeMap.{is_at}
use Rattle.std.proofs.lemmas.Map.Lookups.{exact_bytes}
use Rattle.node_core.specs.declared.nodes.Node.{Node}
use Rattle.node_core.specs.Nodes.{get_node}
use Rattle.master_parts.specs.declared.pending.Orphan.{Orphan}
use Rattle.master_parts.specs.State.{TableState}
use Rattle.master_parts.specs.EphemeralNames.{NameTable, is_named}
use Rattle.master_parts.specs.Ephemerals.{goes, idle_of, or_next, first_idle, idle_at}
use Rattle.master_parts.proofs.Found.{same_key, above_head, none_found, first_found}

abbrev At : List ℕ → List ℕ → Bool
At q = is_at (slice_cmp nat_cmp q)

abbrev InOrder : {V : Type 0} → List (List ℕ × V) → Type 0
InOrder es = IsStrictlySortedBy (slice_cmp nat_cmp) (keys_of es)

-- the name of each node that is to go is among these
abbrev HasToGo : TableState → NameTable → Type 0
HasToGo s names = (q : List ℕ) (w : Node) → lookup (At q) s.nodes ≡ Some w → goes s (q, w) ≡ true → is_named names q ≡ true

-- another than the first stands behind it
another : (names : NameTable) (n : List ℕ × Unit {0}) (q : List ℕ) → At q n.0 ≡ false → is_named (n ∷ names) q ≡ true → is_named names q ≡ true
another names n q apart h = let t : is_named (n ∷ names) q ≡ is_some (lookup (At q) names) = rw apart refl in sym t ∙ h

-- a name that stands behind the first isn't below it
not_below : (names : NameTable) (n : List ℕ × Unit {0}) (q : List ℕ) → AllByRecursion (λ y. slice_cmp nat_cmp n.0 y ≡ Less) (keys_of names) → slice_cmp nat_cmp q n.0 ≡ Less → is_named (n ∷ names) q ≡ true → ⊥
not_below names n q behind less h =
    let among : is_named names q ≡ true = another names n q (rw less refl) h in
    (elim (lookup (At q) names) as (λ o. lookup (At q) names ≡ o → is_some o ≡ true → ⊥) [
      | None ↦ (λ c k. absurd (cc))
      | Some u ↦ (λ c k.
          let above : slice_cmp nat_cmp n.0 q ≡ Less = above_head (slice_cmp nat_cmp) nat_list_cmp_total exact_bytes n.0 names q u behind c in
          let turned : slice_cmp nat_cmp n.0 q ≡ Greater = nat_list_cmp_total.antisymm n.0 q ∙ ap ordering_reverse less in
          absurd (cc))
    ]) refl among

-- the names behind one that doesn't go
has_rest : (s : TableState) (names : NameTable) (n : List ℕ × Unit {0}) → HasToGo s (n ∷ names) → ((w : Node) → lookup (At n.0) s.nodes ≡ Some w → goes s (n.0, w) ≡ true → ⊥) → HasToGo s names
has_rest s names n has stays = λ q w h moves.
    (elim (At q n.0) as (λ b. At q n.0 ≡ b → is_named names q ≡ true) [
      | true ↦ (λ c.
          let P : List ℕ → Type 0 = λ x. (lookup (At x) s.nodes ≡ Some w) × (goes s (x, w) ≡ true) in
          let t : P n.0 = subst P (same_key (slice_cmp nat_cmp) exact_bytes q n.0 c) (h, moves) in
          absurd (stays w t.0 t.1))
      | false ↦ (λ c. another names n q c (has q w h moves))
    ]) refl

abbrev pub Picked : TableState → List ℕ → Option Node → Option Orphan
Picked s name o = option_map_or (λ view. cond (goes s (name, view)) (Some (idle_of (name, view))) None) o None

first_is : (s : TableState) (names : NameTable) → InOrder s.nodes → InOrder names → HasToGo s names → first_idle s names ≡ option_map idle_of (find (goes s) s.nodes)
unfolding IsStrictlySortedBy
first_is s [] sorted in_order has =
    let none : find (goes s) s.nodes ≡ None = none_found (slice_cmp nat_cmp) nat_list_cmp_total exact_bytes (goes s) s.nodes sorted (λ q w h moves. let t = has q w h moves in absurd (cc)) in
    ap (option_map idle_of) (sym none)
first_is s (n ∷ names) sorted in_order has =
    let Goal : Option Orphan → Type 0 = λ o. or_next o (first_idle s names) ≡ option_map idle_of (find (goes s) s.nodes) in
    (elim (lookup (At n.0) s.nodes) as (λ o. lookup (At n.0) s.nodes ≡ o → Goal (Picked s n.0 o)) [
      | None ↦ (λ c. first_is s names sorted in_order.1 (has_rest s names n has (λ w h moves. absurd (cc))))
      | Some view ↦ (λ c.
          (elim (goes s (n.0, view)) as (λ b. goes s (n.0, view) ≡ b → Goal (cond b (Some (idle_of (n.0, view))) None)) [
            | true ↦ (λ d.
                let found : find (goes s) s.nodes ≡ Some (n.0, view) =
                first_found (slice_cmp nat_cmp) nat_list_cmp_total exact_bytes (goes s) s.nodes n.0 view sorted c d (λ q w h moves less. not_below names n q in_order.0 less (has q w h moves)) in
                ap (option_map idle_of) (sym found))
            | false ↦ (λ d.
                first_is s names sorted in_order.1 (has_rest s names n has (λ w h moves.
                let same : view ≡ w = cc in
                let t : goes s (n.0, view) ≡ true = ap (λ v. goes s (n.0, v)) same ∙ moves in
                absurd (cc))))
          ]) refl)
    ]) refl

pub first_named : (s : TableState) (names : NameTable) → InOrder s.nodes → InOrder names → ((q : List ℕ) (w : Node) → lookup (At q) s.nodes ≡ Some w → goes s (q, w) ≡ true → is_named names q ≡ true) → first_idle s names ≡ option_map idle_of (find (goes s) s.nodes)
first_named s names sorted in_order has = first_is s names sorted in_order has

-- where none is found none is to go
pub none_goes : (s : TableState) (es : List (List ℕ × Node)) (q : List ℕ) (w : Node) → option_map idle_of (find (goes s) es) ≡ None → lookup (At q) es ≡ Some w → goes s (q, w) ≡ true → ⊥
none_goes s [] q w none there is = absurd (cc)
none_goes s (e ∷ es) q w none there is =
    (elim (goes s e) as (λ b. goes s e ≡ b → option_map idle_of (cond b (Some e) (find (goes s) es)) ≡ None → ⊥) [
      | true ↦ (λ c k. absurd (cc))
      | false ↦ (λ c k.
          (elim (At q e.0) as (λ b. At q e.0 ≡ b → cond b (Some e.1) (lookup (At q) es) ≡ Some w → ⊥) [
            | true ↦ (λ d l.
                let value : e.1 ≡ w = cc in
                let P : List ℕ → Type 0 = λ x. goes s (x, w) ≡ true in
                let mine : goes s (e.0, w) ≡ true = subst P (same_key (slice_cmp nat_cmp) exact_bytes q e.0 d) is in
                let R : Node → Type 0 = λ v. goes s (e.0, v) ≡ true in
                let yes : goes s e ≡ true = subst R (sym value) mine in
                absurd (cc))
            | false ↦ (λ d l. none_goes s es q w k l is)
          ]) refl there)
    ]) refl none

-- what is true of every value that a result may hold
pub by_value : (A E : Type 0) (r : Result A E) (P Q : A → Type 0) → IfOk r P → ((a : A) → P a → Q a) → IfOk r Q
by_value A E (Ok a) P Q h f = f a h
by_value A E (Err e) P Q h f = tt

-- a name at which none is to go
pub stays_at : (s : TableState) (name : List ℕ) (w : Node) → None ≡ idle_at s name → get_node s.nodes name ≡ Some w → goes s (name, w) ≡ false
stays_at s name w none there =
    let at : cond (goes s (name, w)) (Some (idle_of (name, w))) None ≡ None = sym (ap (λ o. option_map_or (λ node. cond (goes s (name, node)) (Some (idle_of (name, node))) None) o None) there) ∙ sym none in
    (elim (goes s (name, w)) as (λ b. cond b (Some (idle_of (name, w))) None ≡ None → b ≡ false) [
      | true ↦ (λ k. absurd (cc))
      | false ↦ (λ k. refl)
    ]) at
