-- The names of the rights that end, read by their numbers.
use Rattle.std.proofs.Common.{◌≡◌, ℕ, ◌<◌, Bool, true, false, cond, List, [], ◌∷◌, ◌++◌, Some, Less, arith, refl, sym, ap, ◌∙◌}
use Rattle.std.specs.Prelude.{filter, fold, map}
use Rattle.std.specs.List.{AllByRecursion}
use Rattle.std.specs.List.Sorted.{IsStrictlySortedBy}
use Rattle.std.specs.Ordering.{nat_cmp}
use Rattle.std.specs.Map.{lookup, keys_of}
use Rattle.std.specs.BTreeMap.{is_at}
use Rattle.std.proofs.lemmas.List.{append-nil, append_assoc}
use Rattle.collections.proofs.Keys.{at_itself, apart, below}
use Rattle.rights_core.specs.declared.cache_rights.CacheRight.{CacheRight}
use Rattle.rights_core.specs.declared.endings.Ending.{Ending}
use Rattle.rights_core.specs.declared.holdings.Holding.{Holding}
use Rattle.rights_core.specs.Rights.{is_held_by, is_ended_by, names_ending}
use Rattle.rights_core.specs.Holds.{with_name_of, with_name}
use Rattle.rights_core.specs.Indexes.{numbered, holding_of}
use Rattle.rights_core.proofs.Ended.{filter_numbered, filter_twice}

-- each of these rights is found by its number
abbrev AreFound : List (ℕ × CacheRight) → List (ℕ × CacheRight) → Type 0
AreFound all [] = Unit {0}
AreFound all (e ∷ es) = (lookup (is_at (nat_cmp e.0)) all ≡ Some e.1) × AreFound all es

found_behind : (f : ℕ × CacheRight) (all es : List (ℕ × CacheRight)) → AllByRecursion (λ z. nat_cmp f.0 z ≡ Less) (keys_of es) → AreFound all es → AreFound (f ∷ all) es
found_behind f all [] above found = tt
found_behind f all (e ∷ es) above found =
    let low : f.0 < e.0 = below f.0 e.0 above.0 in
    (ap (λ b. cond b (Some f.1) (lookup (is_at (nat_cmp e.0)) all)) (apart e.0 f.0 (omega (arith, low))) ∙ found.0, found_behind f all es above.1 found.1)

all_found : (es : List (ℕ × CacheRight)) → IsStrictlySortedBy nat_cmp (keys_of es) → AreFound es es
unfolding IsStrictlySortedBy
all_found [] sorted = tt
all_found (e ∷ es) sorted = (ap (λ b. cond b (Some e.1) (lookup (is_at (nat_cmp e.0)) es)) (at_itself e.0), found_behind e es es sorted.0 (all_found es sorted.1))

name_more : (all : List (ℕ × CacheRight)) (q : CacheRight → Bool) (es : List (ℕ × CacheRight)) (names : List (List ℕ)) → AreFound all es
    → fold (with_name all) names (map (λ e. e.0) (filter (λ e. q e.1) es)) ≡ names ++ map (λ e. e.1.name) (filter (λ e. q e.1) es)
name_more all q [] names found = sym (append-nil names)
name_more all q (e ∷ es) names found =
    elim (q e.1) as (λ b. fold (with_name all) names (map (λ (p : ℕ × CacheRight). p.0) (cond b (e ∷ filter (λ (p : ℕ × CacheRight). q p.1) es) (filter (λ (p : ℕ × CacheRight). q p.1) es))) ≡ names ++ map (λ (p : ℕ × CacheRight). p.1.name) (cond b (e ∷ filter (λ (p : ℕ × CacheRight). q p.1) es) (filter (λ (p : ℕ × CacheRight). q p.1) es))) [
      | true ↦
          ap (λ o. fold (with_name all) (with_name_of names o) (map (λ (p : ℕ × CacheRight). p.0) (filter (λ (p : ℕ × CacheRight). q p.1) es))) found.0
          ∙ (name_more all q es (names ++ e.1.name ∷ []) found.1 ∙ append_assoc names (e.1.name ∷ []) (map (λ (p : ℕ × CacheRight). p.1.name) (filter (λ (p : ℕ × CacheRight). q p.1) es)))
      | false ↦ name_more all q es names found.1
    ]

-- the names of the rights of these numbers are those of the rights that end
pub names_by_number : (q : CacheRight → Bool) (es : List (ℕ × CacheRight)) → IsStrictlySortedBy nat_cmp (keys_of es)
    → fold (with_name es) [] (map (λ e. e.0) (filter (λ e. q e.1) es)) ≡ map (λ e. e.1.name) (filter (λ e. q e.1) es)
names_by_number q es sorted = name_more es q es [] (all_found es sorted)

names_numbered : (rs : List CacheRight) → map (λ (e : ℕ × CacheRight). e.1.name) (numbered rs) ≡ map (λ r. r.name) rs
names_numbered [] = refl
names_numbered (r ∷ rs) = ap (λ t. r.name ∷ t) (names_numbered rs)

pub told_names_ending : (h : Holding) (rs : List CacheRight) (k : ℕ) (e : Ending) → h ≡ holding_of k rs → map (λ p. p.1.name) (filter (λ p. is_ended_by e p.1.invalidation) h.rights) ≡ names_ending k e rs
told_names_ending h rs k e is =
    let own : List CacheRight = filter (is_held_by k) rs in
    ap {A = Holding} (λ g. map (λ (p : ℕ × CacheRight). p.1.name) (filter (λ (p : ℕ × CacheRight). is_ended_by e p.1.invalidation) g.rights)) is
    ∙ (ap (map (λ (p : ℕ × CacheRight). p.1.name)) (filter_numbered (λ r. is_ended_by e r.invalidation) own)
    ∙ (names_numbered (filter (λ r. is_ended_by e r.invalidation) own) ∙ sym (ap (map (λ (r : CacheRight). r.name)) (filter_twice (is_held_by k) (λ r. is_ended_by e r.invalidation) rs))))
