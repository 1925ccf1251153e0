-- The names below a name.
use Rattle.std.proofs.Common.{◌≡◌, ℕ, zero, suc, ◌+◌, ◌-◌, ◌≤◌, List, [], ◌∷◌, ◌++◌, length, take, drop, Bool, true, false, cond, nat_eq, refl, sym, ap, ◌∙◌, arith, length-append}
use Rattle.std.specs.Prelude.{◌&&◌, ◌≢◌, min, codes}
use Rattle.std.proofs.Math.Nat.{min-le_left, min-le_right}
use Rattle.std.specs.List.{list_all, slice_split, onto_first, starts_with, repeat}
use Rattle.std.specs.Cmp.Lexicographic.{pointwise}
use Rattle.std.proofs.lemmas.Bool.Decides.{nat_tests}
use Rattle.std.proofs.lemmas.Bool.{le-leb}
use Rattle.names_cell.specs.Text.{is_component, is_component_byte, is_slash, is_name, is_under}
use Rattle.names_cell.proofs.Fronts.{first_part}

-- the parts of what is joined by a slash
split_joined : (xs ys : List ℕ) → slice_split is_slash (xs ++ 47 ∷ ys) ≡ slice_split is_slash xs ++ slice_split is_slash ys
split_joined [] ys = refl
split_joined (x ∷ xs) ys =
    let u = first_part xs in
    let t = split_joined xs ys in
    rw (t, u.2)
    (elim (is_slash x) as (λ v. cond v ([] ∷ ((u.0 ∷ u.1) ++ slice_split is_slash ys)) (onto_first x ((u.0 ∷ u.1) ++ slice_split is_slash ys)) ≡ cond v ([] ∷ (u.0 ∷ u.1)) (onto_first x (u.0 ∷ u.1)) ++ slice_split is_slash ys)
    [ true ↦ refl | false ↦ refl ])

all_joined : (xs ys : List (List ℕ)) → list_all is_component xs ≡ true → list_all is_component ys ≡ true → list_all is_component (xs ++ ys) ≡ true
all_joined [] ys h k = k
all_joined (x ∷ xs) ys h k =
    (elim (is_component x) as (λ v. (v && list_all is_component xs) ≡ true → (v && list_all is_component (xs ++ ys)) ≡ true)
    [ true ↦ (λ r. all_joined xs ys r k) | false ↦ (λ r. r) ]) h

-- a dash behind a slash is a component
pub first_child_is_name : (path : List ℕ) → list_all is_component (slice_split is_slash path) ≡ true → length (codes "/ls/" ++ path) ≤ 510 → is_name (codes "/ls/" ++ (path ++ codes "/-")) ≡ true
first_child_is_name path all short =
    let e = le-leb (length (codes "/ls/" ++ (path ++ codes "/-"))) 512 (omega (arith, length-append path (codes "/-"))) in
    rw (e, split_joined path (45 ∷ [])) (all_joined (slice_split is_slash path) ((45 ∷ []) ∷ []) all refl)

-- a few `z` are a component
length_z : (count : ℕ) → length (repeat count (codes "z")) ≡ count
length_z zero = refl
length_z (suc count) = ap suc (length_z count)

bytes_z : (count : ℕ) → list_all is_component_byte (repeat count (codes "z")) ≡ true
bytes_z zero = refl
bytes_z (suc count) = bytes_z count

some_z : (count : ℕ) → count ≤ 63 → is_component (repeat (suc count) (codes "z")) ≡ true
some_z count few =
    let e = le-leb (length (repeat (suc count) (codes "z"))) 64 (omega (arith, length_z count)) in
    let f = le-leb 1 (length (repeat (suc count) (codes "z"))) (omega arith) in
    rw (e, f, bytes_z count) refl

no_slash_z : (count : ℕ) → slice_split is_slash (repeat count (codes "z")) ≡ repeat count (codes "z") ∷ []
no_slash_z zero = refl
no_slash_z (suc count) = ap (onto_first 122) (no_slash_z count)

z_is_name : (path : List ℕ) (count : ℕ) → list_all is_component (slice_split is_slash path) ≡ true → count ≤ 64 → 1 ≤ count → length path + count ≤ 507 → is_name (codes "/ls/" ++ (path ++ (codes "/" ++ repeat count (codes "z")))) ≡ true
z_is_name path zero all few some short = absurd (omega arith)
z_is_name path (suc count) all few some short =
    let z : List ℕ = repeat (suc count) (codes "z") in
    let e = le-leb (length (codes "/ls/" ++ (path ++ (codes "/" ++ z)))) 512 (omega (arith, length-append path (47 ∷ z), length_z (suc count))) in
    rw (e, split_joined path z, no_slash_z (suc count)) (all_joined (slice_split is_slash path) (z ∷ []) all (rw (some_z count (omega arith)) refl))

-- so many `z` behind a slash, as there is room for
pub last_child_is_name : (path : List ℕ) (room count : ℕ) → list_all is_component (slice_split is_slash path) ≡ true → room + length (codes "/ls/" ++ path) ≤ 511 → room ≢ 0 → count ≡ min room 64 → is_name (codes "/ls/" ++ (path ++ (codes "/" ++ repeat count (codes "z")))) ≡ true
last_child_is_name path room count all short some is =
    let few : count ≤ 64 = rw is (min-le_right room 64) in
    let fits : count ≤ room = rw is (min-le_left room 64) in
    z_is_name path count all few (grind (arith, is)) (omega arith)

turned : (a b : ℕ) → nat_eq a b ≡ nat_eq b a
turned a b = grind (arith, nat_tests)

-- behind the other name a slash
pub under_rest : (top name rest : List ℕ) → pointwise nat_eq (take (length top) name) top ≡ true → rest ≡ drop (length top) name → is_under name top ≡ starts_with nat_eq rest (codes "/")
under_rest [] name rest h e = rw e refl
under_rest (t ∷ ts) [] rest h e = absurd (cc)
under_rest (t ∷ ts) (b ∷ bs) rest h e =
    (elim (nat_eq b t) as (λ v. nat_eq b t ≡ v → (v && pointwise nat_eq (take (length ts) bs) ts) ≡ true → (nat_eq t b && is_under bs ts) ≡ starts_with nat_eq rest (codes "/")) [
      | true ↦ (λ q k. rw (turned t b, q) (under_rest ts bs rest k e))
      | false ↦ (λ q k. absurd (cc))
    ]) refl h

pub not_under : (top name : List ℕ) → pointwise nat_eq (take (length top) name) top ≡ false → is_under name top ≡ false
not_under [] name h = absurd (cc)
not_under (t ∷ ts) [] h = refl
not_under (t ∷ ts) (b ∷ bs) h =
    (elim (nat_eq b t) as (λ v. nat_eq b t ≡ v → (v && pointwise nat_eq (take (length ts) bs) ts) ≡ false → (nat_eq t b && is_under bs ts) ≡ false) [
      | true ↦ (λ q k. rw (turned t b, q) (not_under ts bs k))
      | false ↦ (λ q k. rw (turned t b, q) refl)
    ]) refl h

-- the same of texts that were read from the two names
same_names : (top name top' name' : List ℕ) → top' ≡ top → name' ≡ name → is_under name' top' ≡ is_under name top
same_names top name top' name' a b = ap (λ n. is_under n top') b ∙ ap (is_under name) a

pub answer_some : (top name top' name' rest : List ℕ) (r : Bool) → top' ≡ top → name' ≡ name → pointwise nat_eq (take (length top') name') top' ≡ true → rest ≡ drop (length top') name' → r ≡ starts_with nat_eq rest (codes "/") → r ≡ is_under name top
answer_some top name top' name' rest r a b h e q = q ∙ sym (under_rest top' name' rest h e) ∙ same_names top name top' name' a b

pub answer_none : (top name top' name' : List ℕ) → top' ≡ top → name' ≡ name → pointwise nat_eq (take (length top') name') top' ≡ false → false ≡ is_under name top
answer_none top name top' name' a b h = sym (not_under top' name' h) ∙ same_names top name top' name' a b
