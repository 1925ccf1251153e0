-- Whom changes wait for.
use Rattle.std.proofs.Common.{◌≡◌, ℕ, ◌≤◌, Bool, true, false, List, [], ◌∷◌, ◌++◌, length, take, map, refl, sym, ap, ◌∙◌, append-nil, arith}
use Rattle.std.specs.Prelude.{◌==◌, ◌&&◌, filter}
use Rattle.std.specs.List.{list_all}
use Rattle.std.specs.Map.{values_of}
use Rattle.std.proofs.lemmas.Bool.{eqb-true}
use Rattle.std.proofs.lemmas.List.{take_at, take_all}
use Rattle.rights_core.specs.declared.cache_rights.CacheRight.{CacheRight}
use Rattle.rights_core.specs.Rights.{held_on}
use Rattle.rights_core.proofs.OneName.{free_name_is_held_by_none}
use Rattle.hosting.specs.Standing.{holds_any, awaited_by}

both : (a b : Bool) → (a && b) ≡ true → (a ≡ true) × (b ≡ true)
both true b e = (refl, e)
both false b e = absurd cc

-- of names that nobody holds no client holds one
none_holds : (rights : List CacheRight) (names : List (List ℕ)) (client : ℕ) → list_all (λ name. held_on name rights == 0) names ≡ true → holds_any rights names client ≡ false
none_holds rights [] client free = refl
none_holds rights (name ∷ names) client free =
    let g = both (held_on name rights == 0) (list_all (λ name. held_on name rights == 0) names) free in
    rw (free_name_is_held_by_none client name rights (eqb-true (held_on name rights) 0 g.0)) (none_holds rights names client g.1)

none_pass : (test : ℕ → Bool) (clients : List ℕ) → ((client : ℕ) → test client ≡ false) → filter test clients ≡ []
none_pass test [] fails = refl
none_pass test (client ∷ clients) fails = rw (fails client) (none_pass test clients fails)

none_awaited : (rights : List CacheRight) (clients : List ℕ) (names : List (List ℕ)) → list_all (λ name. held_on name rights == 0) names ≡ true → awaited_by rights clients names ≡ []
none_awaited rights clients names free = none_pass (holds_any rights names) clients (λ client. none_holds rights names client free)

pub none_awaited_in : (rights held : List CacheRight) (clients : List ℕ) (names : List (List ℕ)) (found : Bool) → held ≡ rights
    → found ≡ list_all (λ name. held_on name held == 0) names → found ≡ true → awaited_by rights clients names ≡ []
none_awaited_in rights held clients names found same is so =
    ap (λ (r : List CacheRight). awaited_by r clients names) (sym same) ∙ none_awaited held clients names (sym is ∙ so)

-- the first ten of a list that was built from its front
pub ten_are : {X : Type 0} (front back all : List X) → front ++ back ≡ all → length front ≡ 10 → front ≡ take 10 all
ten_are {X = X} front back all e ten = sym (ap (λ (u : List X). take 10 u) (sym e) ∙ take_at front back 10 ten)

pub all_are : {X : Type 0} (front all : List X) → front ++ [] ≡ all → length front ≤ 10 → front ≡ take 10 all
all_are {X = X} front all e few = let same : front ≡ all = sym (append-nil front) ∙ e in same ∙ sym (take_all 10 all (omega (arith, few, ap (λ (u : List X). length u) same)))

pub at_end : {X Y : Type 0} (f : X → Y) (front : List Y) (left : List (ℕ × X)) (all : List Y) → left ≡ [] → front ++ map f (values_of left) ≡ all → length front ≤ 10 → front ≡ take 10 all
at_end {X = X} f front left all none e few = all_are front all (sym (ap (λ (u : List (ℕ × X)). front ++ map f (values_of u)) none) ∙ e) few

pub at_ten : {X Y : Type 0} (f : X → Y) (front : List Y) (left : List (ℕ × X)) (all : List Y) → front ++ map f (values_of left) ≡ all → length front ≤ 10 → 10 ≤ length front → front ≡ take 10 all
at_ten f front left all e few many = ten_are front (map f (values_of left)) all e (omega (arith, few, many))
