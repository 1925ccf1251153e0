-- What stands behind a name that another lies below.
use Rattle.std.proofs.Common.{◌≡◌, ℕ, ◌+◌, ◌<◌, List, [], ◌∷◌, ◌++◌, length, get_or, drop, Bool, true, false, cond, nat_eq, Option, Some, None, refl, sym, ap, ◌∙◌, arith, length-append, append_assoc}
use Rattle.std.specs.Prelude.{◌&&◌, codes, IsUtf8}
use Rattle.std.specs.Option.{option_map, option_map_or}
use Rattle.std.specs.List.{list_all, slice_split, starts_with, after_last}
use Rattle.std.specs.Str.{bytes_eq, IsCharBoundary}
use Rattle.std.proofs.Math.Seq.{get_or-append_seam}
use Rattle.std.proofs.lemmas.Str.{IsCharBoundary-after_ascii}
use Rattle.std.proofs.lemmas.Bool.Decides.{nat_tests}
use Rattle.names_cell.specs.Text.{is_component, is_slash, is_name, front_of, put_front, is_child, is_under, child_part, last_of}
use Rattle.names_cell.proofs.ComponentLemmas.{both, front_joined}
use Rattle.names_cell.proofs.Parts.{after_front, last_of_path, last_is_component}

alike : (a b : ℕ) → nat_eq a b ≡ true → a ≡ b
alike a b h = grind (arith, nat_tests)

-- what begins with a text is that text and the rest
pub begins : (p c : List ℕ) → starts_with nat_eq c p ≡ true → c ≡ p ++ drop (length p) c
begins [] c h = refl
begins (a ∷ p) [] h = absurd (cc)
begins (a ∷ p) (b ∷ c) h =
    let t = both _ _ h in
    let e : b ≡ a = sym (alike a b t.0) in
    rw e (ap (λ r. a ∷ r) (begins p c t.1))

pub same_bytes : (x : List ℕ) → bytes_eq x x ≡ true
same_bytes [] = refl
same_bytes (b ∷ x) = let e : nat_eq b b ≡ true = grind (arith, nat_tests) in rw e (same_bytes x)

longer : (x more : List ℕ) → bytes_eq (x ++ 47 ∷ more) x ≡ false
longer [] more = refl
longer (b ∷ x) more = let e : nat_eq b b ≡ true = grind (arith, nat_tests) in rw e (longer x more)

-- ---- a name below another

pub joined_under : (top name : List ℕ) → is_under name top ≡ true → name ≡ top ++ 47 ∷ drop (length top + 1) name
joined_under top name h =
    let long : length (top ++ codes "/") ≡ length top + 1 = length-append top (codes "/") in
    begins (top ++ codes "/") name h ∙ append_assoc top (codes "/") (drop (length (top ++ codes "/")) name) ∙ ap (λ n. top ++ 47 ∷ drop n name) long

-- it may be cut behind the slash
pub cut_behind : (top name : List ℕ) → is_under name top ≡ true → IsUtf8 name → IsCharBoundary name (length top + 1)
cut_behind top name h text =
    let e = joined_under top name h in
    let within : length top < length name = omega (arith, ap length e, length-append top (47 ∷ drop (length top + 1) name)) in
    let at : get_or name (length top) 0 ≡ 47 = ap (λ t. get_or t (length top) 0) e ∙ get_or-append_seam top 47 (drop (length top + 1) name) 0 in
    IsCharBoundary-after_ascii name (length top) text within (omega (arith, at))

-- ---- whether the other is its parent

-- the front has what is in front of a slash, and what is before the last slash behind it
front_over : (a b front : List ℕ) → front_of b ≡ Some front → front_of (a ++ 47 ∷ b) ≡ Some (a ++ 47 ∷ front)
front_over [] b front h = ap (put_front 47) h
front_over (x ∷ a) b front h = ap (put_front x) (front_over a b front h)

by_front : (name parent : List ℕ) (o : Option (List ℕ)) → front_of (drop 4 name) ≡ o → is_child name parent ≡ option_map_or (λ front. bytes_eq front parent) (option_map (λ front. codes "/ls/" ++ front) o) false
by_front name parent o h = ap (λ o. option_map_or (λ front. bytes_eq front parent) (option_map (λ front. codes "/ls/" ++ front) o) false) h

path_of : (name : List ℕ) → is_name name ≡ true → (name ≡ codes "/ls/" ++ drop 4 name) × (list_all is_component (slice_split is_slash (drop 4 name)) ≡ true)
path_of name named =
    let t = both _ _ named in
    (begins (codes "/ls/") name (both _ _ t.0).0, t.1)

behind_path : (top name part : List ℕ) → is_name top ≡ true → name ≡ top ++ 47 ∷ part → drop 4 name ≡ drop 4 top ++ 47 ∷ part
behind_path top name part above joined = ap (drop 4) (joined ∙ ap (λ t. t ++ 47 ∷ part) (path_of top above).0)

child_by_part : (top name part : List ℕ) → is_name top ≡ true → name ≡ top ++ 47 ∷ part → front_of part ≡ None → is_child name top ≡ true
child_by_part top name part above joined no_more =
    by_front name top (Some (drop 4 top)) (ap front_of (behind_path top name part above joined) ∙ front_joined (drop 4 top) part no_more)
    ∙ ap (λ t. bytes_eq t top) (sym (path_of top above).0) ∙ same_bytes top

deeper_by_part : (top name part front : List ℕ) → is_name top ≡ true → name ≡ top ++ 47 ∷ part → front_of part ≡ Some front → is_child name top ≡ false
deeper_by_part top name part front above joined more =
    by_front name top (Some (drop 4 top ++ 47 ∷ front)) (ap front_of (behind_path top name part above joined) ∙ front_over (drop 4 top) part front more)
    ∙ ap (λ t. bytes_eq (codes "/ls/" ++ (drop 4 top ++ 47 ∷ front)) t) (path_of top above).0 ∙ longer (codes "/ls/" ++ drop 4 top) front

last_by_part : (top name part : List ℕ) → name ≡ top ++ 47 ∷ part → front_of part ≡ None → last_of name ≡ part
last_by_part top name part joined no_more = ap (after_last is_slash) joined ∙ after_front top part no_more

pub part_is_component : (top name part : List ℕ) → is_name name ≡ true → name ≡ top ++ 47 ∷ part → front_of part ≡ None → is_component part ≡ true
part_is_component top name part named joined no_more =
    let t = path_of name named in
    let last : after_last is_slash (drop 4 name) ≡ part = sym (last_of_path (drop 4 name)) ∙ ap (after_last is_slash) (sym t.0) ∙ last_by_part top name part joined no_more in
    rw last at (last_is_component (drop 4 name) t.1)

pub a_part : (top name part : List ℕ) → is_name top ≡ true → name ≡ top ++ 47 ∷ part → front_of part ≡ None → child_part name top ≡ Some part
a_part top name part above joined no_more =
    ap (λ v. cond v (Some (last_of name)) None) (child_by_part top name part above joined no_more) ∙ ap Some (last_by_part top name part joined no_more)

pub no_part : (top name part front : List ℕ) → is_name top ≡ true → name ≡ top ++ 47 ∷ part → front_of part ≡ Some front → child_part name top ≡ None
no_part top name part front above joined more = ap (λ v. cond v (Some (last_of name)) None) (deeper_by_part top name part front above joined more)
