-- What stands before the last slash.
use Rattle.std.proofs.Common.{◌≡◌, ℕ, zero, suc, ◌<◌, ◌≤◌, List, [], ◌∷◌, ◌++◌, length, get_or, take, Bool, true, false, cond, eqb, Option, Some, None, refl, ap, arith, ◌⊎◌, inl, inr, ⊎_elim}
use Rattle.std.specs.Prelude.{◌≢◌, ◌&&◌, codes}
use Rattle.std.specs.List.{list_all, slice_split, onto_first}
use Rattle.std.proofs.lemmas.Bool.Decides.{nat_tests}
use Rattle.std.proofs.lemmas.Bool.{le-leb}
use Rattle.names_cell.specs.Text.{is_component, is_slash, is_name, front_of, put_front}

-- a list that begins with an element
onto_front : {X : Type 0} (x : X) (part : List X) (parts back : List (List X)) → onto_first x ((part ∷ parts) ++ back) ≡ onto_first x (part ∷ parts) ++ back
onto_front x part parts back = refl

-- there is always a first part
pub first_part : (bs : List ℕ) → (part : List ℕ) × (parts : List (List ℕ)) × (slice_split is_slash bs ≡ part ∷ parts)
first_part [] = ([], [], refl)
first_part (b ∷ bs) =
    let t = first_part bs in
    elim (is_slash b) as (λ v. (part : List ℕ) × (parts : List (List ℕ)) × (cond v ([] ∷ slice_split is_slash bs) (onto_first b (slice_split is_slash bs)) ≡ part ∷ parts))
    [ true ↦ ([], slice_split is_slash bs, refl) | false ↦ (b ∷ t.0, t.1, ap (onto_first b) t.2) ]

-- what was put in front, read back
pub put_none : (b : ℕ) (o : Option (List ℕ)) → put_front b o ≡ None → (o ≡ None) × (eqb b 47 ≡ false)
put_none b (Some f) h = cc
put_none b None h = (refl, grind (arith, nat_tests))

pub put_some : (b : ℕ) (o : Option (List ℕ)) (f : List ℕ) → put_front b o ≡ Some f → ((g : List ℕ) × (o ≡ Some g) × (f ≡ b ∷ g)) ⊎ ((o ≡ None) × (eqb b 47 ≡ true) × (f ≡ []))
put_some b (Some g) f h = inl (g, refl, cc)
put_some b None f h =
    let P : Bool → Type 0 = λ v. cond v (Some []) None ≡ Some f → (v ≡ true) × (f ≡ []) in
    let t : (eqb b 47 ≡ true) × (f ≡ []) = (elim (eqb b 47) as P [ true ↦ (λ k. (refl, cc)) | false ↦ (λ k. cc) ]) h in
    inr (refl, t.0, t.1)

-- with no slash there is one part
pub one_part : (bs : List ℕ) → front_of bs ≡ None → slice_split is_slash bs ≡ bs ∷ []
one_part [] h = refl
one_part (b ∷ bs) h = let p = put_none b (front_of bs) h in rw (p.1, one_part bs p.0) refl

-- the front has all parts but the last
parts_of : (bs f : List ℕ) → front_of bs ≡ Some f → (back : List ℕ) × (slice_split is_slash bs ≡ slice_split is_slash f ++ back ∷ [])
parts_of [] f h = cc
parts_of (b ∷ bs) f h =
    ⊎_elim (λ l.
    let t = parts_of bs l.0 l.1 in
    let u = first_part l.0 in
    (t.0, rw (l.2, t.1, u.2) (elim (is_slash b) as (λ v. cond v ([] ∷ ((u.0 ∷ u.1) ++ t.0 ∷ [])) (onto_first b ((u.0 ∷ u.1) ++ t.0 ∷ [])) ≡ cond v ([] ∷ (u.0 ∷ u.1)) (onto_first b (u.0 ∷ u.1)) ++ t.0 ∷ []) [ true ↦ refl | false ↦ refl ])))
    (λ r. (bs, rw (r.2, r.1, one_part bs r.0) refl))
    (put_some b (front_of bs) f h)

shorter : (bs f : List ℕ) → front_of bs ≡ Some f → length f < length bs
shorter [] f h = cc
shorter (b ∷ bs) f h =
    ⊎_elim (λ l. rw l.2 (omega (arith, shorter bs l.0 l.1))) (λ r. rw r.2 (omega arith)) (put_some b (front_of bs) f h)

all_first : (xs : List (List ℕ)) (y : List ℕ) → list_all is_component (xs ++ y ∷ []) ≡ true → list_all is_component xs ≡ true
all_first [] y h = refl
all_first (x ∷ xs) y h =
    (elim (is_component x) as (λ v. (v && list_all is_component (xs ++ y ∷ [])) ≡ true → (v && list_all is_component xs) ≡ true)
    [ true ↦ (λ k. all_first xs y k) | false ↦ (λ k. k) ]) h

-- what stands before the last slash of a name's path makes a name
pub front_is_name : (path front : List ℕ) → front_of path ≡ Some front → list_all is_component (slice_split is_slash path) ≡ true → length (codes "/ls/" ++ path) ≤ 512 → is_name (codes "/ls/" ++ front) ≡ true
front_is_name path front h all short =
    let t = parts_of path front h in
    let e = le-leb (length (codes "/ls/" ++ front)) 512 (omega (arith, shorter path front h)) in
    rw e (all_first (slice_split is_slash front) t.0 (rw t.1 at all))

pub front_none : (bs : List ℕ) → ((i : ℕ) → i < length bs → get_or bs i 0 ≢ 47) → front_of bs ≡ None
front_none [] h = refl
front_none (b ∷ bs) h =
    let here : b ≢ 47 = h 0 (omega arith) in
    let e : eqb b 47 ≡ false = grind (arith, nat_tests) in
    rw (front_none bs (λ i k. h (suc i) (omega arith)), e) refl

-- where the last slash is
pub front_at : (bs : List ℕ) (k : ℕ) → k < length bs → get_or bs k 0 ≡ 47 → ((i : ℕ) → k < i → i < length bs → get_or bs i 0 ≢ 47) → front_of bs ≡ Some (take k bs)
front_at [] k lt at none = absurd (omega arith)
front_at (b ∷ bs) zero lt at none = rw (front_none bs (λ i k. none (suc i) (omega arith) (omega arith)), at) refl
front_at (b ∷ bs) (suc k) lt at none = rw (front_at bs k (omega arith) at (λ i l m. none (suc i) (omega arith) (omega arith))) refl
