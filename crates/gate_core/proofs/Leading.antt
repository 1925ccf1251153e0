-- The numbers to which names lead, once one is put or taken out.
use Rattle.std.proofs.Common.{◌≡◌, ℕ, Bool, true, false, cond, not, List, [], ◌∷◌, length, Option, Some, None, arith, refl, sym, ap, ◌∙◌}
use Rattle.std.specs.Prelude.{◌==◌, ◌&&◌, ◌||◌, is_some}
use Rattle.std.specs.Str.{bytes_eq}
use Rattle.std.specs.Ordering.{nat_cmp}
use Rattle.std.specs.Cmp.{nat_cmp_total, unsigned_tied}
use Rattle.std.specs.List.Sorted.{IsStrictlySortedBy}
use Rattle.std.specs.Map.{lookup, set_value, remove_entry, keys_of}
use Rattle.std.specs.BTreeMap.{is_at, insert_entry}
use Rattle.std.proofs.lemmas.Bool.Decides.{nat_tests}
use Rattle.std.proofs.lemmas.Map.Lookups.{exact_unsigned}
use Rattle.collections.proofs.Entries.{lookup_put}
use Rattle.collections.proofs.Keys.{bytes_same, bytes_self, bytes_swap, equal_itself}
use Rattle.rights_core.proofs.Places.{looked_removed, looked_text}
use Rattle.gate_core.specs.Waking.{is_listed, or_none, numbers_at, leads}

-- ---- numbers

some_cond : (b : Bool) (o : Option (Unit {0})) → is_some (cond b (Some tt) o) ≡ (b || is_some o)
some_cond true o = refl
some_cond false o = refl

none_cond : (b : Bool) (o : Option (Unit {0})) → is_some (cond b None o) ≡ (not b && is_some o)
none_cond true o = refl
none_cond false o = refl

number_swap : (a b : ℕ) → (a == b) ≡ (b == a)
number_swap a b = grind (arith, nat_tests)

pub listed_put : (n : ℕ) (old new : List (ℕ × Unit {0})) → new ≡ insert_entry nat_cmp old n tt → (q : ℕ) → is_listed q new ≡ ((q == n) || is_listed q old)
listed_put n old new e q =
    ap (is_listed q) e
    ∙ (ap is_some (lookup_put nat_cmp exact_unsigned equal_itself old n tt q ∙ ap (λ b. cond b (Some tt) (lookup (is_at (nat_cmp q)) old)) (unsigned_tied q n))
    ∙ some_cond (q == n) (lookup (is_at (nat_cmp q)) old))

pub listed_removed : (n : ℕ) (old new : List (ℕ × Unit {0})) → IsStrictlySortedBy nat_cmp (keys_of old) → new ≡ remove_entry (is_at (nat_cmp n)) old → (q : ℕ) → is_listed q new ≡ (not (q == n) && is_listed q old)
listed_removed n old new sorted e q =
    ap (is_listed q) e
    ∙ (ap is_some (looked_removed nat_cmp exact_unsigned nat_cmp_total old n q sorted ∙ ap (λ b. cond b None (lookup (is_at (nat_cmp q)) old)) (unsigned_tied n q ∙ number_swap n q))
    ∙ none_cond (q == n) (lookup (is_at (nat_cmp q)) old))

-- one more of the numbers of a table
pub listed_more : (it rest old new : List (ℕ × Unit {0})) (k : ℕ) (v : Unit {0}) → it ≡ (k, v) ∷ rest → new ≡ insert_entry nat_cmp old k tt → (n : ℕ) → (is_listed n rest || is_listed n new) ≡ (is_listed n it || is_listed n old)
listed_more it rest old new k v step put n =
    ap (λ b. is_listed n rest || b) (listed_put k old new put n)
    ∙ (moved (n == k) (lookup (is_at (nat_cmp n)) rest) v (is_listed n old)
    ∙ (ap (λ b. is_some (cond b (Some v) (lookup (is_at (nat_cmp n)) rest)) || is_listed n old) (sym (unsigned_tied n k)) ∙ ap (λ l. is_listed n l || is_listed n old) (sym step)))
  where
    moved : (b : Bool) (o : Option (Unit {0})) (v : Unit {0}) (was : Bool) → (is_some o || (b || was)) ≡ (is_some (cond b (Some v) o) || was)
    moved true None v was = refl
    moved true (Some u) v was = refl
    moved false o v was = refl

-- ---- names

or_more : (b q l : Bool) → cond b (q || l) l ≡ ((b && q) || l)
or_more true q l = refl
or_more false q l = refl

and_less : (b q l : Bool) → cond b (not q && l) l ≡ (not (b && q) && l)
and_less true q l = refl
and_less false q l = refl

-- the numbers of one name are changed
leads_set : (es : List (List ℕ × List (ℕ × Unit {0}))) (name : List ℕ) (old new : List (ℕ × Unit {0})) (f : ℕ → Bool → Bool)
    → lookup (bytes_eq name) es ≡ Some old → ((c : ℕ) → is_listed c new ≡ f c (is_listed c old))
    → (x : List ℕ) (c : ℕ) → leads x c (set_value (bytes_eq name) es new) ≡ cond (bytes_eq x name) (f c (leads x c es)) (leads x c es)
leads_set es name old new f found changed x c =
    (elim (bytes_eq x name) as (λ b. bytes_eq x name ≡ b → leads x c (set_value (bytes_eq name) es new) ≡ cond b (f c (leads x c es)) (leads x c es)) [
      | true ↦ (λ h.
          let same : x ≡ name = bytes_same x name h in
          let now : lookup (bytes_eq x) (set_value (bytes_eq name) es new) ≡ Some new =
          looked_text es name old new x found ∙ ap (λ b. cond b (Some new) (lookup (bytes_eq x) es)) h in
          let before : lookup (bytes_eq x) es ≡ Some old = rw same found in
          ap (λ o. is_listed c (or_none o)) now ∙ (changed c ∙ ap (λ o. f c (is_listed c (or_none o))) (sym before)))
      | false ↦ (λ h.
          ap (λ o. is_listed c (or_none o))
          (looked_text es name old new x found ∙ ap (λ b. cond b (Some new) (lookup (bytes_eq x) es)) h))
    ]) refl

pub leads_more : (es : List (List ℕ × List (ℕ × Unit {0}))) (name : List ℕ) (old new : List (ℕ × Unit {0})) (n : ℕ) → lookup (bytes_eq name) es ≡ Some old → new ≡ insert_entry nat_cmp old n tt
    → (x : List ℕ) (c : ℕ) → leads x c (set_value (bytes_eq name) es new) ≡ ((bytes_eq x name && (c == n)) || leads x c es)
leads_more es name old new n found e x c = leads_set es name old new (λ c l. (c == n) || l) found (listed_put n old new e) x c ∙ or_more (bytes_eq x name) (c == n) (leads x c es)

-- a name gets its first number
pub leads_first : (es now : List (List ℕ × List (ℕ × Unit {0}))) (name : List ℕ) (n : ℕ) (numbers : List (ℕ × Unit {0})) → lookup (bytes_eq name) es ≡ None → numbers ≡ insert_entry nat_cmp [] n tt
    → ((q : List ℕ) → lookup (bytes_eq q) now ≡ cond (bytes_eq name q) (Some numbers) (lookup (bytes_eq q) es))
    → (x : List ℕ) (c : ℕ) → leads x c now ≡ ((bytes_eq x name && (c == n)) || leads x c es)
leads_first es now name n numbers absent one e x c =
    let put : lookup (bytes_eq x) now ≡ cond (bytes_eq x name) (Some numbers) (lookup (bytes_eq x) es) = e x ∙ ap (λ b. cond b (Some numbers) (lookup (bytes_eq x) es)) (bytes_swap name x) in
    (elim (bytes_eq x name) as (λ b. bytes_eq x name ≡ b → lookup (bytes_eq x) now ≡ cond b (Some numbers) (lookup (bytes_eq x) es) → leads x c now ≡ ((b && (c == n)) || leads x c es)) [
      | true ↦ (λ h p.
          let same : x ≡ name = bytes_same x name h in
          let none : lookup (bytes_eq x) es ≡ None = rw same absent in
          ap (λ o. is_listed c (or_none o)) p ∙ (listed_put n [] numbers one c ∙ ap (λ o. (c == n) || is_listed c (or_none o)) (sym none)))
      | false ↦ (λ h p. ap (λ o. is_listed c (or_none o)) p)
    ]) refl put

pub leads_taken : (es : List (List ℕ × List (ℕ × Unit {0}))) (name : List ℕ) (old new : List (ℕ × Unit {0})) (n : ℕ)
    → lookup (bytes_eq name) es ≡ Some old → IsStrictlySortedBy nat_cmp (keys_of old) → new ≡ remove_entry (is_at (nat_cmp n)) old
    → (x : List ℕ) (c : ℕ) → leads x c (set_value (bytes_eq name) es new) ≡ (not (bytes_eq x name && (c == n)) && leads x c es)
leads_taken es name old new n found sorted e x c = leads_set es name old new (λ c l. not (c == n) && l) found (listed_removed n old new sorted e) x c ∙ and_less (bytes_eq x name) (c == n) (leads x c es)

-- a name that leads nowhere is taken out
leads_gone : (es now : List (List ℕ × List (ℕ × Unit {0}))) (name : List ℕ) → numbers_at name es ≡ [] → ((q : List ℕ) → lookup (bytes_eq q) now ≡ cond (bytes_eq name q) None (lookup (bytes_eq q) es)) → (x : List ℕ) (c : ℕ) → leads x c now ≡ leads x c es
leads_gone es now name none e x c =
    (elim (bytes_eq name x) as (λ b. bytes_eq name x ≡ b → lookup (bytes_eq x) now ≡ cond b None (lookup (bytes_eq x) es) → leads x c now ≡ leads x c es) [
      | true ↦ (λ h p.
          let same : name ≡ x = bytes_same name x h in
          ap (λ o. is_listed c (or_none o)) p ∙ ap (is_listed c) (sym (rw same at none)))
      | false ↦ (λ h p. ap (λ o. is_listed c (or_none o)) p)
    ]) refl (e x)

nothing_left : (t : List (ℕ × Unit {0})) → length t ≡ 0 → t ≡ []
nothing_left [] h = refl
nothing_left (e ∷ es) h = absurd (omega arith)

pub leads_last : (es now : List (List ℕ × List (ℕ × Unit {0}))) (name : List ℕ) (old new : List (ℕ × Unit {0})) (n : ℕ)
    → lookup (bytes_eq name) es ≡ Some old → IsStrictlySortedBy nat_cmp (keys_of old) → new ≡ remove_entry (is_at (nat_cmp n)) old
    → length new ≡ 0 → ((q : List ℕ) → lookup (bytes_eq q) now ≡ cond (bytes_eq name q) None (lookup (bytes_eq q) (set_value (bytes_eq name) es new)))
    → (x : List ℕ) (c : ℕ) → leads x c now ≡ (not (bytes_eq x name && (c == n)) && leads x c es)
leads_last es now name old new n found sorted e empty is x c =
    let here : lookup (bytes_eq name) (set_value (bytes_eq name) es new) ≡ Some new =
    looked_text es name old new name found ∙ ap (λ b. cond b (Some new) (lookup (bytes_eq name) es)) (bytes_self name) in
    leads_gone (set_value (bytes_eq name) es new) now name (ap or_none here ∙ nothing_left new empty) is x c
    ∙ leads_taken es name old new n found sorted e x c

-- a name that isn't there has no number to take out
pub leads_none : (es : List (List ℕ × List (ℕ × Unit {0}))) (name : List ℕ) (n : ℕ) → lookup (bytes_eq name) es ≡ None → (x : List ℕ) (c : ℕ) → leads x c es ≡ (not (bytes_eq x name && (c == n)) && leads x c es)
leads_none es name n absent x c =
    (elim (bytes_eq x name) as (λ b. bytes_eq x name ≡ b → leads x c es ≡ (not (b && (c == n)) && leads x c es)) [
      | true ↦ (λ h.
          let same : x ≡ name = bytes_same x name h in
          let none : lookup (bytes_eq x) es ≡ None = rw same absent in
          either (c == n) (leads x c es) (ap (λ o. is_listed c (or_none o)) none))
      | false ↦ (λ h. refl)
    ]) refl
  where
    either : (b l : Bool) → l ≡ false → l ≡ (not b && l)
    either true l h = h
    either false l h = refl
