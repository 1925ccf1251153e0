-- The types of the columns, and when two of them are equal.
use Rattle.std.proofs.Common.{◌≡◌, ℕ, ◌+◌, zero, suc, ℤ, Bool, true, false, not, ◌&&◌, ◌||◌, List, [], ◌∷◌, drop, add-one, Option, Some, None, Ordering, Less, Equal, Greater, refl, sym, ap, ◌∙◌, true≢false}
use Rattle.std.specs.Prelude.{bytes_eq, unwrap_or, if◌then◌else◌}
use Rattle.std.specs.List.{list_all}
use Rattle.std.specs.Ordering.{is_eq, is_ne, int_eq, nat_cmp}
use Rattle.std.specs.Cmp.Lexicographic.{slice_cmp}
use Rattle.std.proofs.Common.{arith}
use Rattle.std.specs.FinMap.{int_cmp-IsAntisymmetric}
use Rattle.std.proofs.lemmas.Map.Lookups.{exact_bytes}
use Rattle.std.proofs.lemmas.Bool.{and_parts, not-true}
use Rattle.std.proofs.lemmas.Bool.Decides.{nat_tests}
use Rattle.sqlite_value.specs.declared.value.Value.{Value}
use Rattle.sqlite_value.specs.declared.value.Value.TheVariants.{Null, Int, Text, Blob}
use Rattle.sqlite_value.specs.declared.keys.Collation.TheVariants.{Binary}
use Rattle.sqlite_value.specs.Order.{Row, column, bytes}
use Rattle.sqlite_value.proofs.OrderLemmas.{value_cmp-Int, value_cmp-Text}
use Rattle.sqlite_sql.specs.Ops.{binary, truth, from_truth, is_null}
use Rattle.sqlite.specs.Kind.{Kind}
use Rattle.sqlite.specs.Kind.TheVariants as kind
use Rattle.sqlite_schema.specs.declared.schema.Column.{Column}
use Rattle.sqlite_schema.specs.Names.{is_key}
use Rattle.sqlite_schema.specs.Rules.{equal, differ, is_of, has_affinity, suits, are_typed, are_present}
use Rattle.sqlite.specs.Edit.{id_in}
use Rattle.rows_sql.proofs.Truths.{equal_is}
use Rattle.rows_sql.specs.OurSchema.{meta, nodes, sessions, locks}

-- ---- when two are equal

pub told : (b : Bool) → unwrap_or (truth (from_truth (Some b))) false ≡ b
told true = refl
told false = refl

other : (o : Ordering) → is_ne o ≡ not (is_eq o)
other Less = refl
other Equal = refl
other Greater = refl

pub equal-Int : (a b : ℤ) → equal Binary (Int a) (Int b) ≡ int_eq a b
unfolding binary
equal-Int a b = told _ ∙ ap is_eq (value_cmp-Int a b)

pub differ-Int : (a b : ℤ) → differ (Int a) (Int b) ≡ not (int_eq a b)
unfolding binary
differ-Int a b = told _ ∙ ap is_ne (value_cmp-Int a b) ∙ other _

pub same_bytes : (s t : List ℕ) → is_eq (slice_cmp nat_cmp s t) ≡ bytes_eq s t
same_bytes [] [] = refl
same_bytes [] (y ∷ t) = refl
same_bytes (x ∷ s) [] = refl
same_bytes (x ∷ s) (y ∷ t) = grind (arith, nat_tests, same_bytes s t)

pub equal-Text : (a b : List ℕ) → equal Binary (Text a) (Text b) ≡ bytes_eq a b
unfolding binary
equal-Text a b = told _ ∙ ap is_eq (value_cmp-Text a b) ∙ same_bytes a b

pub int_value : (v : Value) (n : ℤ) → v ≡ Int (id_in v) → equal Binary v (Int n) ≡ true → v ≡ Int n
int_value v n is t = is ∙ ap Int (int_cmp-IsAntisymmetric _ _ (equal_is _ (sym (equal-Int (id_in v) n) ∙ ap (λ w. equal Binary w (Int n)) (sym is) ∙ t)))

pub text_value : (v : Value) (t : List ℕ) → v ≡ Text (bytes v) → equal Binary v (Text t) ≡ true → v ≡ Text t
text_value v t is same = is ∙ ap Text (exact_bytes (bytes v) t (equal_is _ (same_bytes (bytes v) t ∙ sym (equal-Text (bytes v) t) ∙ ap (λ w. equal Binary w (Text t)) (sym is) ∙ same)))

-- ---- of which type a value is

abbrev IsOf : Kind → Value → Type 0
IsOf kind.Integer v = v ≡ Int (id_in v)
IsOf kind.Real v = Unit {0}
IsOf kind.Text v = v ≡ Text (bytes v)
IsOf kind.Blob v = v ≡ Blob (bytes v)
IsOf kind.Any v = Unit {0}

is_in : (k : Kind) (v : Value) → is_of k v ≡ true → is_null v ≡ false → IsOf k v
is_in kind.Real v typed present = tt
is_in kind.Any v typed present = tt
is_in k Null typed present = absurd (true≢false present)
is_in kind.Integer (Int n) typed present = refl
is_in kind.Text (Text t) typed present = refl
is_in kind.Blob (Blob b) typed present = refl
is_in _ _ typed present = absurd (true≢false (sym typed))

-- the values of a row, from a place on
column_at : (r : Row) (n : ℕ) (v : Value) (vs : Row) → drop n r ≡ v ∷ vs → (column r n ≡ v) × (drop (n + 1) r ≡ vs)
column_at [] zero v vs e = absurd cc
column_at [] (suc n) v vs e = absurd cc
column_at (x ∷ r) zero v vs e = (let first : x ≡ v = cc in first, let rest : r ≡ vs = cc in rest)
column_at (x ∷ r) (suc n) v vs e = let more = column_at r n v vs e in (more.0, rw add-one (ap (λ k. drop k r) (sym (add-one n)) ∙ more.1))

column_past : (r : Row) (n : ℕ) → drop n r ≡ [] → column r n ≡ Null
column_past [] zero e = refl
column_past [] (suc n) e = refl
column_past (x ∷ r) zero e = absurd cc
column_past (x ∷ r) (suc n) e = column_past r n e

drop_past : (r : Row) (n : ℕ) → drop n r ≡ [] → drop (n + 1) r ≡ []
drop_past [] n e = rw add-one refl
drop_past (x ∷ r) zero e = absurd cc
drop_past (x ∷ r) (suc n) e = rw add-one (ap (λ k. drop k r) (sym (add-one n)) ∙ drop_past r n e)

-- ---- the columns of a table that are all NOT NULL, and of one type each

abbrev IsAt : Bool → Kind → Value → Type 0
IsAt true k v = Unit {0}
IsAt false k v = IsOf k v

abbrev AreOf : Option ℕ → ℕ → List Column → Row → Type 0
AreOf key at [] r = Unit {0}
AreOf key at (c ∷ cs) r = IsAt (is_key key at) c.kind (column r (at + 1)) × AreOf key (at + 1) cs r

abbrev is_needed : Column → Bool
is_needed c = c.is_strict && c.not_null

absent : (key strict needed : Bool) (k : Kind) (v : Value) → v ≡ Null → (strict && needed) ≡ true → (key || not needed || not (is_null v)) ≡ true → IsAt key k v
absent true strict needed k v e n p = tt
absent false true true k v e n p = absurd (true≢false (sym p ∙ ap (λ x. not (is_null x)) e))
absent false true false k v e n p = absurd (true≢false (sym n))
absent false false needed k v e n p = absurd (true≢false (sym n))

present : (key : Bool) (c : Column) (v : Value) → (c.is_strict && c.not_null) ≡ true → (key || not c.not_null || not (is_null v)) ≡ true → (if key then is_null v else suits c v) ≡ true → IsAt key c.kind v
present true c v n p t = tt
present false c v n p t =
    let both = and_parts _ _ n in
    is_in c.kind v (ap (λ s. if s then is_of c.kind v else has_affinity c.kind v) (sym both.0) ∙ t) (not-true _ (ap (λ b. not b || not (is_null v)) (sym both.1) ∙ p))

typed : (cs : List Column) (key : Option ℕ) (at : ℕ) (r vs : Row) → list_all is_needed cs ≡ true → drop (at + 1) r ≡ vs → are_typed key at cs vs ≡ true → are_present key at cs r ≡ true → AreOf key at cs r
typed [] key at r vs needed is t p = tt
typed (c ∷ cs) key at r [] needed is t p =
    let n = and_parts _ _ needed in
    let q = and_parts _ _ p in
    (absent (is_key key at) c.is_strict c.not_null c.kind (column r (at + 1)) (column_past r (at + 1) is) n.0 q.0, typed cs key (at + 1) r [] n.1 (drop_past r (at + 1) is) (and_parts _ _ t).1 q.1)
typed (c ∷ cs) key at r (v ∷ vs) needed is t p =
    let n = and_parts _ _ needed in
    let q = and_parts _ _ p in
    let here = column_at r (at + 1) v vs is in
    let u = and_parts _ _ t in
    (present (is_key key at) c (column r (at + 1)) n.0 q.0 (ap (λ x. if is_key key at then is_null x else suits c x) here.0 ∙ u.0), typed cs key (at + 1) r vs n.1 here.1 u.1 q.1)

pub record IsMetaRow (r : Row) : Type 0 where
  pub version : column r 2 ≡ Int (id_in (column r 2))
  pub cell : column r 3 ≡ Text (bytes (column r 3))
  pub secret : column r 4 ≡ Blob (bytes (column r 4))
  pub epoch : column r 5 ≡ Int (id_in (column r 5))
  pub next_instance : column r 6 ≡ Int (id_in (column r 6))

pub meta_typed : (r : Row) → are_typed (Some 0) 0 meta.columns (drop 1 r) ≡ true → are_present (Some 0) 0 meta.columns r ≡ true → IsMetaRow r
meta_typed r t p =
    let h = typed meta.columns (Some 0) 0 r (drop 1 r) refl refl t p in
    record { version = h.1.0; cell = h.1.1.0; secret = h.1.1.1.0; epoch = h.1.1.1.1.0; next_instance = h.1.1.1.1.1.0 }

pub record IsNodeRow (r : Row) : Type 0 where
  pub name : column r 1 ≡ Text (bytes (column r 1))
  pub instance : column r 2 ≡ Int (id_in (column r 2))
  pub kind : column r 3 ≡ Int (id_in (column r 3))
  pub life : column r 4 ≡ Int (id_in (column r 4))
  pub content_gen : column r 5 ≡ Int (id_in (column r 5))
  pub acl_gen : column r 6 ≡ Int (id_in (column r 6))
  pub lock_gen : column r 7 ≡ Int (id_in (column r 7))
  pub acl_read : column r 8 ≡ Text (bytes (column r 8))
  pub acl_write : column r 9 ≡ Text (bytes (column r 9))
  pub acl_change : column r 10 ≡ Text (bytes (column r 10))
  pub content : column r 11 ≡ Blob (bytes (column r 11))

pub node_typed : (r : Row) → are_typed None 0 nodes.columns (drop 1 r) ≡ true → are_present None 0 nodes.columns r ≡ true → IsNodeRow r
node_typed r t p =
    let h = typed nodes.columns None 0 r (drop 1 r) refl refl t p in
    let acls = h.1.1.1.1.1.1.1 in
    record {
      name = h.0;
      instance = h.1.0;
      kind = h.1.1.0;
      life = h.1.1.1.0;
      content_gen = h.1.1.1.1.0;
      acl_gen = h.1.1.1.1.1.0;
      lock_gen = h.1.1.1.1.1.1.0;
      acl_read = acls.0;
      acl_write = acls.1.0;
      acl_change = acls.1.1.0;
      content = acls.1.1.1.0;
    }

pub record IsSessionRow (r : Row) : Type 0 where
  pub principal : column r 2 ≡ Text (bytes (column r 2))
  pub live : column r 3 ≡ Int (id_in (column r 3))

pub session_typed : (r : Row) → are_typed (Some 0) 0 sessions.columns (drop 1 r) ≡ true → are_present (Some 0) 0 sessions.columns r ≡ true → IsSessionRow r
session_typed r t p = let h = typed sessions.columns (Some 0) 0 r (drop 1 r) refl refl t p in record { principal = h.1.0; live = h.1.1.0 }

pub record IsLockRow (r : Row) : Type 0 where
  pub instance : column r 1 ≡ Int (id_in (column r 1))
  pub client : column r 2 ≡ Int (id_in (column r 2))
  pub handle : column r 3 ≡ Int (id_in (column r 3))
  pub mode : column r 4 ≡ Int (id_in (column r 4))
  pub delay : column r 5 ≡ Int (id_in (column r 5))

pub lock_typed : (r : Row) → are_typed None 0 locks.columns (drop 1 r) ≡ true → are_present None 0 locks.columns r ≡ true → IsLockRow r
lock_typed r t p =
    let h = typed locks.columns None 0 r (drop 1 r) refl refl t p in
    record { instance = h.0; client = h.1.0; handle = h.1.1.0; mode = h.1.1.1.0; delay = h.1.1.1.1.0 }
