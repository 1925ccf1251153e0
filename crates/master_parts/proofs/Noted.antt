-- What the tables of the candidates find once one of them changed.
use Rattle.std.proofs.Common.{◌≡◌, ℕ, List, Bool, true, false, cond, Option, Some, None, refl, sym, ap, subst, ◌∙◌}
use Rattle.std.specs.Prelude.{is_some}
use Rattle.std.specs.Ordering.{is_eq, nat_cmp}
use Rattle.std.specs.Cmp.{tied_itself, nat_cmp_total}
use Rattle.std.specs.Cmp.Lexicographic.{slice_cmp, nat_list_cmp_total}
use Rattle.std.specs.List.Sorted.{IsStrictlySortedBy}
use Rattle.std.specs.Map.{keys_of, lookup, remove_entry}
use Rattle.std.specs.BTreeMap.{is_at, insert_entry}
use Rattle.std.proofs.lemmas.Map.Lookups.{exact_bytes, exact_unsigned}
use Rattle.collections.proofs.Entries.{eq_at, lookup_put}
use Rattle.rows_cell.proofs.SortedLookups.{lookup_gone}
use Rattle.master_parts.specs.EphemeralNames.{NameTable, is_named}
use Rattle.master_parts.specs.Candidates.{CandidateState, Has, Leads}

abbrev At : List ℕ → List ℕ → Bool
At q = is_at (slice_cmp nat_cmp q)

abbrev Instances : Type 0
Instances = List (ℕ × List ℕ)

-- ---- by the parts of the candidates

pub of_has : (view now : CandidateState) (q : List ℕ) → view ≡ now → Has now q → Has view q
of_has view now q same h = let P : CandidateState → Type 0 = λ c. Has c q in subst P (sym same) h

pub of_leads : (view now : CandidateState) (i : ℕ) (q : List ℕ) → view ≡ now → Leads now i q → Leads view i q
of_leads view now i q same h = let P : CandidateState → Type 0 = λ c. Leads c i q in subst P (sym same) h

-- ---- names

put_name : (names : NameTable) (name q : List ℕ) → is_named (insert_entry (slice_cmp nat_cmp) names name tt) q ≡ is_some (cond (At q name) (Some tt) (lookup (At q) names))
put_name names name q = ap is_some (lookup_put (slice_cmp nat_cmp) exact_bytes (tied_itself nat_list_cmp_total) names name tt q)

pub own_name : (names new : NameTable) (name : List ℕ) → new ≡ insert_entry (slice_cmp nat_cmp) names name tt → is_named new name ≡ true
own_name names new name put = ap (λ l. is_named l name) put ∙ put_name names name name ∙ rw (tied_itself nat_list_cmp_total name) refl

pub kept_name : (names new : NameTable) (name q : List ℕ) → new ≡ insert_entry (slice_cmp nat_cmp) names name tt → is_named names q ≡ true → is_named new q ≡ true
kept_name names new name q put h =
    ap (λ l. is_named l q) put ∙ put_name names name q ∙ elim (At q name) as (λ b. is_some (cond b (Some tt) (lookup (At q) names)) ≡ true) [ true ↦ refl | false ↦ h ]

pub other_name : (names new : NameTable) (name q : List ℕ) → IsStrictlySortedBy (slice_cmp nat_cmp) (keys_of names) → new ≡ remove_entry (At name) names → At q name ≡ false → is_named names q ≡ true → is_named new q ≡ true
other_name names new name q sorted gone apart h =
    ap (λ l. is_named l q) gone ∙ ap is_some (lookup_gone (slice_cmp nat_cmp) nat_list_cmp_total exact_bytes names name q sorted) ∙ ap (λ b. is_some (cond b None (lookup (At q) names))) apart ∙ h

-- ---- instances

abbrev Of : ℕ → ℕ → Bool
Of i = is_at (nat_cmp i)

put_place : (places : Instances) (instance : ℕ) (name : List ℕ) (i : ℕ) → lookup (Of i) (insert_entry nat_cmp places instance name) ≡ cond (Of i instance) (Some name) (lookup (Of i) places)
put_place places instance name i = lookup_put nat_cmp exact_unsigned (tied_itself nat_cmp_total) places instance name i

pub own_place : (places new : Instances) (instance : ℕ) (name : List ℕ) → new ≡ insert_entry nat_cmp places instance name → lookup (Of instance) new ≡ Some name
own_place places new instance name put = ap (lookup (Of instance)) put ∙ put_place places instance name instance ∙ rw (tied_itself nat_cmp_total instance) refl

pub kept_place : (places new : Instances) (instance : ℕ) (name : List ℕ) (i : ℕ) (q : List ℕ) → new ≡ insert_entry nat_cmp places instance name → lookup (Of instance) places ≡ None → lookup (Of i) places ≡ Some q → lookup (Of i) new ≡ Some q
kept_place places new instance name i q put none h =
    ap (lookup (Of i)) put ∙ put_place places instance name i ∙
    (elim (Of i instance) as (λ b. Of i instance ≡ b → cond b (Some name) (lookup (Of i) places) ≡ Some q) [
      | true ↦ (λ c.
          let same : i ≡ instance = exact_unsigned i instance (eq_at (nat_cmp i instance) c) in
          let there : lookup (Of instance) places ≡ Some q = ap (λ x. lookup (Of x) places) (sym same) ∙ h in
          absurd (cc))
      | false ↦ (λ c. h)
    ]) refl

pub other_place : (places new : Instances) (instance : ℕ) (name : List ℕ) (i : ℕ) (q : List ℕ) → IsStrictlySortedBy nat_cmp (keys_of places) → new ≡ remove_entry (Of instance) places → lookup (Of instance) places ≡ Some name → At q name ≡ false → lookup (Of i) places ≡ Some q → lookup (Of i) new ≡ Some q
other_place places new instance name i q sorted gone mine apart h =
    ap (lookup (Of i)) gone ∙ lookup_gone nat_cmp nat_cmp_total exact_unsigned places instance i sorted ∙
    ((elim (Of i instance) as (λ b. Of i instance ≡ b → cond b None (lookup (Of i) places) ≡ Some q) [
      | true ↦ (λ c.
          let same : i ≡ instance = exact_unsigned i instance (eq_at (nat_cmp i instance) c) in
          let there : lookup (Of instance) places ≡ Some q = ap (λ x. lookup (Of x) places) (sym same) ∙ h in
          let is : name ≡ q = cc in
          let P : List ℕ → Type 0 = λ x. At x name ≡ false in
          let t : At name name ≡ false = subst P (sym is) apart in
          let u : At name name ≡ true = ap is_eq (tied_itself nat_list_cmp_total name) in
          absurd (cc))
      | false ↦ (λ c. h)
    ]) refl)
