-- Each member is written in its place, and a client's own step is found.
use Rattle.std.proofs.Common.{◌≡◌, ℕ, ◌+◌, ◌<◌, ◌≤◌, List, [], ◌∷◌, length, drop, Bool, true, false, cond, Option, Some, None, refl, sym, ap, ◌∙◌, subst, arith, suc}
use Rattle.std.specs.Prelude.{◌==◌, ◌||◌, slice_index_or}
use Rattle.std.specs.List.{list_any}
use Rattle.std.specs.Map.{lookup}
use Rattle.std.specs.Map.Calls.{RetainsPairs}
use Rattle.std.specs.BTreeMap.{is_at}
use Rattle.std.specs.Ordering.{nat_cmp}
use Rattle.std.proofs.Math.Seq.{drop-cons}
use Rattle.std.proofs.lemmas.List.{drop_all}
use Rattle.std.proofs.lemmas.Bool.Decides.{nat_tests}
use Rattle.collections.proofs.Keys.{at_itself, apart}
use Rattle.world_steps.specs.declared.members.WorldClient.{WorldClient}
use Rattle.world_steps.specs.Members.{Clients, each_member}

-- ---- each member

neither : (a b : Bool) → (a || b) ≡ false → (a ≡ false) × (b ≡ false)
neither false false h = (refl, refl)
neither false true h = cc
neither true b h = cc

module _ {F : Type 0} (T : F → ℕ → WorldClient → Bool → WorldClient → F → Type 0) (step : ℕ → WorldClient → WorldClient) (f : F) where
  -- a closure that always answers true, and writes the step of each member
  pub each_written : ((k : ℕ) (v : WorldClient) (b : Bool) (w : WorldClient) (f' : F) → T f k v b w f' → (b ≡ true) × (w ≡ step k v) × (f' ≡ f)) → (es kept : Clients) → RetainsPairs T f es kept → kept ≡ each_member step es
  each_written h [] kept r = r
  each_written h (e ∷ es) kept r =
      let a = h e.0 e.1 r.0 r.1 r.2 r.4 in
      let rest = each_written h es r.3 (subst (λ u. RetainsPairs T u es r.3) a.2 r.5) in
      r.6 ∙ ap (λ b. cond b ((e.0, r.1) ∷ r.3) r.3) a.0 ∙ ap (λ w. (e.0, w) ∷ r.3) a.1 ∙ ap (λ xs. (e.0, step e.0 e.1) ∷ xs) rest

  -- the same where none is late
  pub each_written_early : (late : ℕ × WorldClient → Bool) → ((k : ℕ) (v : WorldClient) (b : Bool) (w : WorldClient) (f' : F) → late (k, v) ≡ false → T f k v b w f' → (b ≡ true) × (w ≡ step k v) × (f' ≡ f)) → (es kept : Clients) → list_any late es ≡ false → RetainsPairs T f es kept → kept ≡ each_member step es
  each_written_early late h [] kept early r = r
  each_written_early late h (e ∷ es) kept early r =
      let both = neither (late e) (list_any late es) early in
      let a = h e.0 e.1 r.0 r.1 r.2 both.0 r.4 in
      let rest = each_written_early late h es r.3 both.1 (subst (λ u. RetainsPairs T u es r.3) a.2 r.5) in
      r.6 ∙ ap (λ b. cond b ((e.0, r.1) ∷ r.3) r.3) a.0 ∙ ap (λ w. (e.0, w) ∷ r.3) a.1 ∙ ap (λ xs. (e.0, step e.0 e.1) ∷ xs) rest

-- ---- a client's own step

abbrev Found : ℕ → List (ℕ × ℕ) → Option ℕ
Found number own = lookup (is_at (nat_cmp number)) own

is_at_same : (a b : ℕ) → (a == b) ≡ true → is_at (nat_cmp a) b ≡ true
is_at_same a b h = let e : b ≡ a = grind (arith, nat_tests) in rw e (at_itself a)

is_at_other : (a b : ℕ) → (a == b) ≡ false → is_at (nat_cmp a) b ≡ false
is_at_other a b h = apart a b (λ e. grind (arith, nat_tests))

at_index : (own : List (ℕ × ℕ)) (i : ℕ) (entry : ℕ × ℕ) → i < length own → entry ≡ slice_index_or own i entry → drop i own ≡ entry ∷ drop (i + 1) own
at_index own i entry less is =
    let one : suc i ≡ i + 1 = omega arith in
    drop-cons own i entry less ∙ ap (λ x. x ∷ drop (suc i) own) (sym is) ∙ ap (λ n. entry ∷ drop n own) one

module _ (number : ℕ) (own : List (ℕ × ℕ)) (i : ℕ) (entry : ℕ × ℕ) (less : i < length own) (is : entry ≡ slice_index_or own i entry) (so_far : Found number (drop i own) ≡ Found number own) where
  pub found_here : (number == entry.0) ≡ true → Found number own ≡ Some entry.1
  found_here same = sym so_far ∙ ap (Found number) (at_index own i entry less is) ∙ ap (λ b. cond b (Some entry.1) (Found number (drop (i + 1) own))) (is_at_same number entry.0 same)

  pub found_later : (number == entry.0) ≡ false → Found number (drop (i + 1) own) ≡ Found number own
  found_later other = ap (λ b. cond b (Some entry.1) (Found number (drop (i + 1) own))) (sym (is_at_other number entry.0 other)) ∙ ap (Found number) (sym (at_index own i entry less is)) ∙ so_far

pub found_none : (number : ℕ) (own : List (ℕ × ℕ)) (i : ℕ) → length own ≤ i → Found number (drop i own) ≡ Found number own → Found number own ≡ None
found_none number own i past so_far = sym so_far ∙ ap (Found number) (drop_all i own past)
