-- The deletions of nodes that wait are known through each step.
use Rattle.std.proofs.Common.{◌≡◌, ℕ, ◌+◌, Bool, true, false, cond, List, [], ◌∷◌, ◌++◌, Option, Some, None, arith, refl, sym, ap, ◌∙◌}
use Rattle.std.specs.Prelude.{◌-◌, ◌==◌, ◌&&◌, ◌||◌, not, nat_lt, find, is_some, count_by}
use Rattle.std.specs.List.{list_any}
use Rattle.std.specs.List.Sorted.{IsStrictlySortedBy}
use Rattle.std.specs.Option.{option_map}
use Rattle.std.specs.Ordering.{nat_cmp}
use Rattle.std.specs.Map.{keys_of, lookup, remove_entry}
use Rattle.std.specs.BTreeMap.{is_at, insert_entry}
use Rattle.std.proofs.lemmas.Bool.Decides.{nat_tests}
use Rattle.std.proofs.lemmas.List.Sums.{sum_by-cons, sum_by_push}
use Rattle.collections.proofs.Keys.{number_same}
use Rattle.gate_core.specs.declared.pending.Pending.{Pending}
use Rattle.gate_core.specs.declared.pending.Waiting.{Waiting}
use Rattle.gate_core.specs.Gate.{GateState, is_numbered, change_at, without, with_change}
use Rattle.gate_core.specs.Waking.{is_listed}
use Rattle.gate_core.proofs.Leading.{listed_put, listed_removed}
use Rattle.master_parts.specs.declared.pending.Task.{Task}
use Rattle.master_parts.specs.declared.pending.Task.TheVariants.{Asked, Tidies}
use Rattle.master_parts.specs.Candidates.{instance_of_task, instance_tidied}
use Rattle.master_parts.specs.Ephemerals.{tidies}
use Rattle.master_parts.specs.Tasks.{is_tidied, count_listed, count_tidying, AreTidied}

abbrev Instances : Type 0
Instances = List (ℕ × Unit {0})

abbrev Changes : Type 0
Changes = List (Waiting Task)

-- ---- what is listed

swapped : (a b : ℕ) → (a == b) ≡ (b == a)
swapped a b = grind (arith, nat_tests)

pub listed_once : (n : ℕ) (old new : Instances) → lookup (is_at (nat_cmp n)) old ≡ None → new ≡ insert_entry nat_cmp old n tt → (i : ℕ) → count_listed i new ≡ count_listed i old + cond (is_tidied i (Some n)) 1 0
listed_once n old new none put i =
    ap (λ b. cond b 1 0) (listed_put n old new put i) ∙ added (i == n) (is_listed i old) (λ same. ap (λ k. is_listed k old) (number_same i n same) ∙ ap is_some none) ∙ ap (λ b. count_listed i old + cond b 1 0) (swapped i n)
  where
    added : (is was : Bool) → (is ≡ true → was ≡ false) → cond (is || was) 1 0 ≡ cond was 1 0 + cond is 1 0
    added true true once = absurd (let t = once refl in cc)
    added true false once = refl
    added false true once = refl
    added false false once = refl

pub listed_less : (n : ℕ) (old new : Instances) → IsStrictlySortedBy nat_cmp (keys_of old) → new ≡ remove_entry (is_at (nat_cmp n)) old → (i : ℕ) → count_listed i new ≡ count_listed i old - cond (is_tidied i (Some n)) 1 0
listed_less n old new sorted gone i =
    ap (λ b. cond b 1 0) (listed_removed n old new sorted gone i) ∙ removed (i == n) (is_listed i old) ∙ ap (λ b. count_listed i old - cond b 1 0) (swapped i n)
  where
    removed : (is was : Bool) → cond (not is && was) 1 0 ≡ cond was 1 0 - cond is 1 0
    removed true true = refl
    removed true false = refl
    removed false true = refl
    removed false false = refl

-- ---- what is found

some_more : (n : ℕ) → true ≡ nat_lt 0 (1 + n)
some_more n = grind (arith, nat_tests)

none_more : (n : ℕ) → n ≡ 0 + n
none_more n = omega arith

any_counted : {X : Type 0} (test : X → Bool) (xs : List X) → list_any test xs ≡ nat_lt 0 (count_by test xs)
any_counted test [] = refl
any_counted test (x ∷ xs) =
    (elim (test x) as (λ b. (b || list_any test xs) ≡ nat_lt 0 (cond b 1 0 + count_by test xs)) [ true ↦ some_more (count_by test xs) | false ↦ any_counted test xs ∙ ap (nat_lt 0) (none_more (count_by test xs)) ])
    ∙ ap (nat_lt 0) (sym (sum_by-cons (λ y. cond (test y) 1 0) x xs))

pub found_listed : (i : ℕ) (instances : Instances) (ws : Changes) → AreTidied instances ws → is_listed i instances ≡ list_any (λ w. tidies i w.change.body) ws
found_listed i instances ws h = sym (any_counted (λ w. tidies i w.change.body) ws ∙ ap (nat_lt 0) (h i) ∙ positive (is_listed i instances))
  where
    positive : (b : Bool) → nat_lt 0 (cond b 1 0) ≡ b
    positive true = refl
    positive false = refl

-- ---- steps

by_task : (i : ℕ) (task : Task) → is_tidied i (instance_of_task task) ≡ tidies i task
by_task i (Asked asked) = refl
by_task i (Tidies idle) = refl

-- a change that comes
counted_more : (i : ℕ) (change : Pending Task) (gate : GateState Task) → count_tidying i (with_change change gate).waiting ≡ count_tidying i gate.waiting + cond (is_tidied i (instance_tidied (Some change))) 1 0
counted_more i change gate =
    sum_by_push (λ w. cond (tidies i w.change.body) 1 0) gate.waiting (record { number = gate.pushed + 1; change = change })
    ∙ ap (λ b. count_tidying i gate.waiting + cond b 1 0) (sym (by_task i change.body))

pub tidied_push : (old new : GateState Task) (change : Pending Task) (before after : Instances) (tidied : Option ℕ) → new ≡ with_change change old → tidied ≡ instance_tidied (Some change) → ((i : ℕ) → count_listed i after ≡ count_listed i before + cond (is_tidied i tidied) 1 0) → AreTidied before old.waiting → AreTidied after new.waiting
tidied_push old new change before after tidied put is listed h = λ i.
    ap (λ g. count_tidying i g.waiting) put ∙ counted_more i change old ∙ ap (λ n. n + cond (is_tidied i (instance_tidied (Some change))) 1 0) (h i) ∙ ap (λ o. count_listed i before + cond (is_tidied i o) 1 0) (sym is) ∙ sym (listed i)

-- a change that leaves
counted_all : (i number : ℕ) (ws : Changes) → count_tidying i (without number ws) + cond (is_tidied i (instance_tidied (change_at number ws))) 1 0 ≡ count_tidying i ws
counted_all i number [] = refl
counted_all i number (w ∷ ws) =
    (elim (is_numbered number w) as (λ b. count_tidying i (cond b ws (w ∷ without number ws)) + cond (is_tidied i (instance_tidied (option_map (λ x. x.change) (cond b (Some w) (find (is_numbered number) ws))))) 1 0 ≡ cond (tidies i w.change.body) 1 0 + count_tidying i ws) [
      | true ↦ ap (λ b. count_tidying i ws + cond b 1 0) (by_task i w.change.body) ∙ omega arith
      | false ↦ omega (arith, counted_all i number ws, sum_by-cons (λ x. cond (tidies i x.change.body) 1 0) w (without number ws))
    ]) ∙ sym (sum_by-cons (λ x. cond (tidies i x.change.body) 1 0) w ws)

pub tidied_take : (old new : Changes) (number : ℕ) (taken : Option (Pending Task)) (before after : Instances) → new ≡ without number old → taken ≡ change_at number old → ((i : ℕ) → count_listed i after ≡ count_listed i before - cond (is_tidied i (instance_tidied taken)) 1 0) → AreTidied before old → AreTidied after new
tidied_take old new number taken before after left is listed h = λ i.
    ap (count_tidying i) left ∙ less (count_tidying i (without number old)) (cond (is_tidied i (instance_tidied (change_at number old))) 1 0) (count_tidying i old) (count_listed i before) (counted_all i number old) (h i)
    ∙ ap (λ t. count_listed i before - cond (is_tidied i (instance_tidied t)) 1 0) (sym is) ∙ sym (listed i)
  where
    less : (rest one all before : ℕ) → rest + one ≡ all → all ≡ before → rest ≡ before - one
    less rest one all before e f = omega (arith, e, f)

-- nothing waits
pub tidied_none : (instances : Instances) (ws : Changes) → ws ≡ [] → instances ≡ [] → AreTidied instances ws
tidied_none instances ws none empty = λ i. ap (count_tidying i) none ∙ ap (count_listed i) (sym empty)

-- the changes are as they were
pub tidied_still : (instances : Instances) (old new : Changes) → new ≡ old → AreTidied instances old → AreTidied instances new
tidied_still instances old new same h = λ i. ap (count_tidying i) same ∙ h i
