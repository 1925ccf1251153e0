-- Sessions that are taken over in their order stand as the rows hold them.
use Rattle.std.proofs.Common.{◌≡◌, ℕ, List, [], ◌∷◌, ◌++◌, Less, Greater, refl, sym, ap, subst, append_assoc, ◌∙◌}
use Rattle.std.specs.Prelude.{map}
use Rattle.std.specs.List.{AllByRecursion}
use Rattle.std.specs.List.Sorted.{IsStrictlySortedBy}
use Rattle.std.specs.Map.{keys_of}
use Rattle.std.specs.Ordering.{ordering_reverse, nat_cmp}
use Rattle.std.specs.Cmp.{nat_cmp_total}
use Rattle.std.specs.BTreeMap.{insert_entry}
use Rattle.rows_cell.specs.declared.tables.SessionRow as stored
use Rattle.tags_cell.specs.declared.messages.outs.Reply.{Reply}
use Rattle.session_core.specs.declared.records.Session.{Session}
use Rattle.session_core.specs.Session.{recovered_session}
use Rattle.session_core.specs.Sessions.{SessionTable, with_new}
use Rattle.master_parts.specs.StoredSessions.{taken_over}

abbrev pub Stored : Type 0
Stored = List (ℕ × stored.SessionRow)

behind : (x y : ℕ) → nat_cmp x y ≡ Less → nat_cmp y x ≡ Greater
behind x y h = nat_cmp_total.antisymm y x ∙ ap ordering_reverse h

before_all : (x : ℕ) (front : Stored) (k : ℕ) (v : stored.SessionRow) (rest : Stored) → AllByRecursion (λ z. nat_cmp x z ≡ Less) (keys_of (front ++ (k, v) ∷ rest)) → nat_cmp x k ≡ Less
before_all x [] k v rest h = h.0
before_all x (e ∷ front) k v rest h = before_all x front k v rest h.1

abbrev pub all_taken : ℕ → Stored → List (ℕ × Session Reply)
all_taken now front = map (taken_over now) front

-- the next session in order goes to the end
put_last : (now : ℕ) (front : Stored) (k : ℕ) (v : stored.SessionRow) (rest : Stored) → IsStrictlySortedBy nat_cmp (keys_of (front ++ (k, v) ∷ rest)) → insert_entry nat_cmp (all_taken now front) k (recovered_session v.principal v.live now) ≡ all_taken now front ++ taken_over now (k, v) ∷ []
unfolding IsStrictlySortedBy
put_last now [] k v rest h = refl
put_last now (e ∷ front) k v rest h =
    rw (behind e.0 k (before_all e.0 front k v rest h.0)) (ap (λ es. taken_over now e ∷ es) (put_last now front k v rest h.1))

taken_push : (now : ℕ) (front : Stored) (k : ℕ) (v : stored.SessionRow) → all_taken now (front ++ (k, v) ∷ []) ≡ all_taken now front ++ taken_over now (k, v) ∷ []
taken_push now [] k v = refl
taken_push now (e ∷ front) k v = ap (λ es. taken_over now e ∷ es) (taken_push now front k v)

-- what was taken over, and what is left
abbrev pub IsTaken : ℕ → ℕ → Stored → Stored → SessionTable Reply → Type 0
IsTaken lease now rows left table = (front : Stored) × (front ++ left ≡ rows) × (table ≡ record { lease = lease; sessions = all_taken now front })

-- one more
pub one_more : (lease now : ℕ) (rows left next : Stored) (old new : SessionTable Reply) (k : ℕ) (v : stored.SessionRow) (principal : List ℕ) → IsStrictlySortedBy nat_cmp (keys_of rows) → IsTaken lease now rows left old → left ≡ (k, v) ∷ next → principal ≡ v.principal → new ≡ with_new old k (recovered_session principal v.live now) → IsTaken lease now rows next new
one_more lease now rows left next old new k v principal sorted taken l p e =
    let whole : taken.0 ++ (k, v) ∷ next ≡ rows = ap (λ r. taken.0 ++ r) (sym l) ∙ taken.1 in
    let P : Stored → Type 0 = λ all. IsStrictlySortedBy nat_cmp (keys_of all) in
    let last = put_last now taken.0 k v next (subst P (sym whole) sorted) in
    let table : List (ℕ × Session Reply) → SessionTable Reply = λ es. record { lease = lease; sessions = es } in
    (taken.0 ++ (k, v) ∷ [], append_assoc taken.0 ((k, v) ∷ []) next ∙ whole, e ∙ rw (p, taken.2) (ap table (last ∙ sym (taken_push now taken.0 k v))))
