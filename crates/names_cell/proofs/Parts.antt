-- A name as what stands before its last slash, and behind it.
use Rattle.std.proofs.Common.{◌≡◌, ℕ, zero, suc, ◌-◌, ◌<◌, List, [], ◌∷◌, ◌++◌, length, get_or, true, false, cond, eqb, Some, None, refl, sym, ap, ◌∙◌, arith, ⊎_elim, length-append}
use Rattle.std.specs.Prelude.{◌≢◌, ◌&&◌, codes}
use Rattle.std.specs.List.{list_all, slice_split, onto_first, after_last}
use Rattle.std.proofs.lemmas.Bool.Decides.{nat_tests}
use Rattle.std.proofs.Math.Seq.{get_or-append_seam, get_or-append_right, drop-append-add}
use Rattle.names_cell.specs.Text.{is_component, is_slash, front_of}
use Rattle.names_cell.proofs.Fronts.{put_none, put_some, first_part, one_part}
use Rattle.names_cell.proofs.Lasts.{last_at, last_none}

-- `front` stands before the last slash of `path`
pub record Splits (path front : List ℕ) : Type 0 where
  pub last : List ℕ
  pub joined : path ≡ front ++ 47 ∷ last
  pub parts : slice_split is_slash path ≡ slice_split is_slash front ++ last ∷ []
  pub no_more : front_of last ≡ None

is_47 : (b : ℕ) → eqb b 47 ≡ true → b ≡ 47
is_47 b h = grind (arith, nat_tests)

pub splits : (path front : List ℕ) → front_of path ≡ Some front → Splits path front
splits [] front h = absurd (cc)
splits (b ∷ bs) front h =
    ⊎_elim (λ l.
    let t = splits bs l.0 l.1 in
    let u = first_part l.0 in
    record {
      last = t.last;
      joined = rw l.2 (ap (λ r. b ∷ r) t.joined);
      parts = rw (l.2, t.parts, u.2) (elim (is_slash b) as (λ v. cond v ([] ∷ ((u.0 ∷ u.1) ++ t.last ∷ [])) (onto_first b ((u.0 ∷ u.1) ++ t.last ∷ [])) ≡ cond v ([] ∷ (u.0 ∷ u.1)) (onto_first b (u.0 ∷ u.1)) ++ t.last ∷ []) [ true ↦ refl | false ↦ refl ]);
      no_more = t.no_more;
    })
    (λ r. record {
      last = bs;
      joined = rw (r.2, is_47 b r.1) refl;
      parts = rw (r.2, r.1, one_part bs r.0) refl;
      no_more = r.0;
    })
    (put_some b (front_of bs) front h)

no_slash_at : (bs : List ℕ) → front_of bs ≡ None → (i : ℕ) → i < length bs → get_or bs i 0 ≢ 47
no_slash_at [] h i l = absurd (omega arith)
no_slash_at (b ∷ bs) h zero l = let e = (put_none b (front_of bs) h).1 in λ k. absurd (grind (arith, nat_tests))
no_slash_at (b ∷ bs) h (suc i) l = no_slash_at bs (put_none b (front_of bs) h).0 i (omega arith)

behind : (last : List ℕ) → front_of last ≡ None → (i : ℕ) → 0 < i → i < length (47 ∷ last) → get_or (47 ∷ last) i 0 ≢ 47
behind last h zero some less = absurd (omega arith)
behind last h (suc i) some less = no_slash_at last h i (omega arith)

-- what stands behind the last slash
pub after_front : (front last : List ℕ) → front_of last ≡ None → after_last is_slash (front ++ 47 ∷ last) ≡ last
after_front front last h =
    let n : ℕ = length front in
    let long = length-append front (47 ∷ last) in
    last_at (front ++ 47 ∷ last) n (omega (arith, long)) (get_or-append_seam front 47 last 0)
    (λ i more less. rw (get_or-append_right front (47 ∷ last) i 0 (omega arith)) (behind last h (i - n) (omega arith) (omega (arith, long))))
    ∙ drop-append-add front (47 ∷ last) 1

last_all : (xs : List (List ℕ)) (y : List ℕ) → list_all is_component (xs ++ y ∷ []) ≡ true → is_component y ≡ true
last_all [] y h = (elim (is_component y) as (λ v. (v && true) ≡ true → v ≡ true) [ true ↦ (λ k. refl) | false ↦ (λ k. k) ]) h
last_all (x ∷ xs) y h =
    (elim (is_component x) as (λ v. (v && list_all is_component (xs ++ y ∷ [])) ≡ true → is_component y ≡ true)
    [ true ↦ (λ k. last_all xs y k) | false ↦ (λ k. absurd (cc)) ]) h

-- what is in front of the path has no part in it
pub last_of_path : (path : List ℕ) → after_last is_slash (codes "/ls/" ++ path) ≡ after_last is_slash path
last_of_path path =
    (elim (front_of path) as (λ o. front_of path ≡ o → after_last is_slash (codes "/ls/" ++ path) ≡ after_last is_slash path) [
      | None ↦ (λ h. after_front (47 ∷ 108 ∷ 115 ∷ []) path h ∙ sym (last_none path (no_slash_at path h)))
      | Some front ↦ (λ h.
          let t = splits path front h in
          rw t.joined (after_front (codes "/ls/" ++ front) t.last t.no_more ∙ sym (after_front front t.last t.no_more)))
    ]) refl

-- the last component of a name, whose path this is
pub last_is_component : (path : List ℕ) → list_all is_component (slice_split is_slash path) ≡ true → is_component (after_last is_slash path) ≡ true
last_is_component path all =
    (elim (front_of path) as (λ o. front_of path ≡ o → is_component (after_last is_slash path) ≡ true) [
      | None ↦ (λ h. rw (last_none path (no_slash_at path h)) (last_all [] path (rw (one_part path h) at all)))
      | Some front ↦ (λ h.
          let t = splits path front h in
          let e : after_last is_slash path ≡ t.last = ap (after_last is_slash) t.joined ∙ after_front front t.last t.no_more in
          rw e (last_all (slice_split is_slash front) t.last (rw t.parts at all)))
    ]) refl
