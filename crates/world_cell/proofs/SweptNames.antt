-- What the turn of a change, and the invalidations that an Alive carries, are to one name.
use Rattle.std.proofs.Common.{◌≡◌, ℕ, ◌+◌, ◌≤◌, Bool, true, false, cond, List, [], ◌∷◌, ◌++◌, Option, Some, Equal, arith, refl, sym, ap, ◌∙◌}
use Rattle.std.specs.Prelude.{◌==◌, ◌||◌, count_by, All}
use Rattle.std.specs.List.{list_any, list_all, sum_by}
use Rattle.std.specs.Map.{lookup, remove_entry}
use Rattle.std.specs.BTreeMap.{is_at}
use Rattle.std.specs.Ordering.{nat_cmp}
use Rattle.std.specs.Cmp.{tied_itself}
use Rattle.std.specs.Cmp.Lexicographic.{slice_cmp, nat_list_cmp_total}
use Rattle.std.specs.Str.{bytes_eq}
use Rattle.std.proofs.lemmas.Bool.{and_parts}
use Rattle.std.proofs.lemmas.Bool.Decides.{nat_tests}
use Rattle.std.proofs.lemmas.List.Sums.{sum_by-append, sum_by-cons}
use Rattle.std.proofs.lemmas.List.Elements.{All-head, All-tail}
use Rattle.std.proofs.lemmas.Map.Lookups.{exact_bytes}
use Rattle.collections.proofs.Entries.{lookup_put, eq_at}
use Rattle.collections.proofs.Keys.{bytes_self, bytes_same}
use Rattle.node_core.specs.Nodes.{Nodes, get_node, changed, name_of}
use Rattle.node_core.specs.declared.views.Mod.{Mod}
use Rattle.node_core.specs.declared.views.Mod.TheVariants.{Put, Gone}
use Rattle.tags_cell.specs.declared.messages.beats.Invalidation.{Invalidation}
use Rattle.rights_core.specs.declared.cache_rights.CacheRight.{CacheRight}
use Rattle.rights_core.specs.Rights.{holds, held_on, invalidations_of}
use Rattle.rights_core.specs.Laws.{asked_for}
use Rattle.rights_core.proofs.OneName.{free_name_is_held_by_none}
use Rattle.gate_core.specs.declared.pending.Waiting.{Waiting}
use Rattle.gate_core.specs.Gate.{touches, is_free}
use Rattle.gate_core.specs.Laws.{touching}
use Rattle.master_parts.specs.declared.pending.Task.{Task}
use Rattle.client_core.specs.Invalidations.{last_number}
use Rattle.over_core.proofs.Unacknowledged.{IsAskedFor}
use Rattle.world_cell.specs.Slices.{name_number}

-- ---- a change leaves the gate

counts_less : {X : Type 0} (p : X → Bool) (front : List X) (x : X) (back : List X) → count_by p (front ++ x ∷ back) ≡ count_by p (front ++ back) + cond (p x) 1 0
counts_less {X} p front x back =
    let one : X → ℕ = λ y. cond (p y) 1 0 in
    let whole : sum_by one (front ++ x ∷ back) ≡ sum_by one front + sum_by one (x ∷ back) = sum_by-append one front (x ∷ back) in
    let rest : sum_by one (front ++ back) ≡ sum_by one front + sum_by one back = sum_by-append one front back in
    let here : sum_by one (x ∷ back) ≡ one x + sum_by one back = sum_by-cons one x back in
    added (sum_by one (front ++ x ∷ back)) (sum_by one (front ++ back)) (sum_by one front) (sum_by one (x ∷ back)) (sum_by one back) (cond (p x) 1 0) whole rest here
  where
    added : (w r f h b k : ℕ) → w ≡ f + h → r ≡ f + b → h ≡ k + b → w ≡ r + k
    added w r f h b k i j l = omega (arith, i, j, l)

-- where it touched the name, one less waits on that; else as many as before
pub touching_less : (x : List ℕ) (front : List (Waiting Task)) (w : Waiting Task) (back : List (Waiting Task)) → touching x (front ++ w ∷ back) ≡ touching x (front ++ back) + cond (touches x w) 1 0
touching_less x front w back = counts_less (touches x) front w back

no_holder : (rights : List CacheRight) (touched : List (List ℕ)) (c : ℕ) (x : List ℕ) → list_all (λ name. held_on name rights == 0) touched ≡ true → list_any (bytes_eq x) touched ≡ true → holds c x rights ≡ false
no_holder rights [] c x h g = absurd (let e : false ≡ true = g in cc)
no_holder rights (t ∷ ts) c x h g =
    let parts : ((held_on t rights == 0) ≡ true) × (list_all (λ name. held_on name rights == 0) ts ≡ true) = and_parts (held_on t rights == 0) (list_all (λ name. held_on name rights == 0) ts) h in
    (elim (bytes_eq x t) as (λ b. bytes_eq x t ≡ b → (b || list_any (bytes_eq x) ts) ≡ true → holds c x rights ≡ false) [
      | true ↦ (λ e k.
          let none : held_on t rights ≡ 0 = zero_from (held_on t rights) parts.0 in
          ap (λ z. holds c z rights) (bytes_same x t e) ∙ free_name_is_held_by_none c t rights none)
      | false ↦ (λ e k. no_holder rights ts c x parts.1 k)
    ]) refl g
  where
    zero_from : (n : ℕ) → (n == 0) ≡ true → n ≡ 0
    zero_from n e = grind (arith, nat_tests, e)

-- nobody holds a name that a change touches which no right holds up
pub free_of_holders : (rights : List CacheRight) (w : Waiting Task) (c : ℕ) (x : List ℕ) → is_free rights w ≡ true → touches x w ≡ true → holds c x rights ≡ false
free_of_holders rights w c x free touched = no_holder rights w.change.touched c x free touched

pub all_at : {X : Type 0} (P : X → Type 0) (front : List X) (x : X) (back : List X) → All P (front ++ x ∷ back) → P x
all_at P [] x back h = All-head P x back h
all_at P (y ∷ front) x back h = all_at P front x back (All-tail P y (front ++ x ∷ back) h)

-- ---- a change of one name leaves all others

itself : (name : List ℕ) → slice_cmp nat_cmp name name ≡ Equal
itself name = tied_itself nat_list_cmp_total name

apart : (x y : List ℕ) → bytes_eq x y ≡ false → is_at (slice_cmp nat_cmp x) y ≡ false
apart x y h =
    (elim (is_at (slice_cmp nat_cmp x) y) as (λ b. is_at (slice_cmp nat_cmp x) y ≡ b → b ≡ false) [
      | true ↦ (λ e.
          let same : x ≡ y = exact_bytes x y (eq_at (slice_cmp nat_cmp x y) e) in
          let self : bytes_eq x y ≡ true = ap (bytes_eq x) (sym same) ∙ bytes_self x in absurd (let k : false ≡ true = sym h ∙ self in cc))
      | false ↦ (λ e. refl)
    ]) refl

gone_apart : (x name : List ℕ) → bytes_eq x name ≡ false → (nodes : Nodes) → lookup (is_at (slice_cmp nat_cmp x)) (remove_entry (is_at (slice_cmp nat_cmp name)) nodes) ≡ lookup (is_at (slice_cmp nat_cmp x)) nodes
gone_apart x name other [] = refl
gone_apart x name other (e ∷ es) =
    (elim (is_at (slice_cmp nat_cmp name) e.0) as (λ b. is_at (slice_cmp nat_cmp name) e.0 ≡ b → lookup (is_at (slice_cmp nat_cmp x)) (cond b es (e ∷ remove_entry (is_at (slice_cmp nat_cmp name)) es)) ≡ cond (is_at (slice_cmp nat_cmp x) e.0) (Some e.1) (lookup (is_at (slice_cmp nat_cmp x)) es)) [
      | true ↦ (λ t.
          let same : name ≡ e.0 = exact_bytes name e.0 (eq_at (slice_cmp nat_cmp name e.0) t) in
          let not_here : is_at (slice_cmp nat_cmp x) e.0 ≡ false = ap (is_at (slice_cmp nat_cmp x)) (sym same) ∙ apart x name other in
          ap (λ b. cond b (Some e.1) (lookup (is_at (slice_cmp nat_cmp x)) es)) (sym not_here))
      | false ↦ (λ t. ap (λ o. cond (is_at (slice_cmp nat_cmp x) e.0) (Some e.1) o) (gone_apart x name other es))
    ]) refl

pub other_node : (nodes : Nodes) (change : Mod) (x : List ℕ) → bytes_eq x (name_of change) ≡ false → get_node (changed nodes change) x ≡ get_node nodes x
other_node nodes (Put name view) x other =
    lookup_put (slice_cmp nat_cmp) exact_bytes itself nodes name view x ∙ ap (λ b. cond b (Some view) (get_node nodes x)) (apart x name other)
other_node nodes (Gone name) x other = gone_apart x name other nodes

-- ---- what an Alive carries

last_within : (c : ℕ) (rights : List CacheRight) (carried : List Invalidation) (number : ℕ) → All (IsAskedFor c rights) carried → number ≤ invalidations_of c rights → last_number number carried ≤ invalidations_of c rights
last_within c rights [] number all within = within
last_within c rights (next ∷ others) number all within =
    last_within c rights others next.number (All-tail (IsAskedFor c rights) next others all) (All-head (IsAskedFor c rights) next others all).issued

-- it goes no further than what was issued
pub last_is_issued : (c : ℕ) (rights : List CacheRight) (carried : List Invalidation) → All (IsAskedFor c rights) carried → last_number 0 carried ≤ invalidations_of c rights
last_is_issued c rights carried all = last_within c rights carried 0 all (omega arith)

asked_number : (number other : ℕ) → (let o : Option ℕ = Some other in o) ≡ Some number → other ≡ number
asked_number number other h = cc

-- where the client was asked for the name, that invalidation stands in it
pub named_number : (c number : ℕ) (x : List ℕ) (rights : List CacheRight) (front back : List Invalidation) → All (IsAskedFor c rights) (front ++ record { number = number; name = x } ∷ back) → asked_for c x rights ≡ Some number → name_number x (front ++ record { number = number; name = x } ∷ back) ≡ number
named_number c number x rights [] back all asked = ap (λ b. cond b number (name_number x back)) (bytes_self x)
named_number c number x rights (next ∷ front) back all asked =
    (elim (bytes_eq x next.name) as (λ b. bytes_eq x next.name ≡ b → cond b next.number (name_number x (front ++ record { number = number; name = x } ∷ back)) ≡ number) [
      | true ↦ (λ e.
          let own = All-head (IsAskedFor c rights) next (front ++ record { number = number; name = x } ∷ back) all in
          asked_number number next.number (sym own.asked ∙ ap (λ name. asked_for c name rights) (sym (bytes_same x next.name e)) ∙ asked))
      | false ↦ (λ e. named_number c number x rights front back (All-tail (IsAskedFor c rights) next (front ++ record { number = number; name = x } ∷ back) all) asked)
    ]) refl
