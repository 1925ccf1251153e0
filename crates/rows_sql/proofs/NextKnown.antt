-- A next instance that the tables have already.
use Rattle.std.proofs.Common.{◌≡◌, ℕ, false, List, [], ◌∷◌, ◌++◌, Option, Some, None, refl, sym, ap, ◌∙◌, subst, true≢false}
use Rattle.std.specs.List.{list_any}
use Rattle.rows_cell.specs.declared.tables.Rows.{Rows}
use Rattle.rows_cell.specs.declared.tables.Edit.{Edit}
use Rattle.rows_cell.specs.declared.tables.Edit.TheVariants.{Epoch, NextInstance, PutNode, LockGeneration, RemoveNode, PutSession, RemoveSession, EndedBelow, PutLock, RemoveLock}
use Rattle.rows_cell.specs.Rows.{changed_rows, edited}
use Rattle.rows_sql.specs.Overtaken.{sets_next}
use Rattle.rows_sql.specs.Known.{HasNext, IsSaid}
use Rattle.rows_sql.proofs.Keepings.{some_is}

changed_then : (rows : Rows) (edits more : List Edit) → changed_rows rows (edits ++ more) ≡ changed_rows (changed_rows rows edits) more
changed_then rows [] more = refl
changed_then rows (e ∷ edits) more = changed_then (edited rows e) edits more

-- edits that say none leave it
next_stays : (edits : List Edit) (rows : Rows) → list_any sets_next edits ≡ false → (changed_rows rows edits).next_instance ≡ rows.next_instance
next_stays [] rows none = refl
next_stays (NextInstance m ∷ edits) rows none = absurd (true≢false none)
next_stays (Epoch epoch ∷ edits) rows none = next_stays edits (edited rows (Epoch epoch)) none
next_stays (PutNode name node ∷ edits) rows none = next_stays edits (edited rows (PutNode name node)) none
next_stays (LockGeneration name generation ∷ edits) rows none = next_stays edits (edited rows (LockGeneration name generation)) none
next_stays (RemoveNode name ∷ edits) rows none = next_stays edits (edited rows (RemoveNode name)) none
next_stays (PutSession client session ∷ edits) rows none = next_stays edits (edited rows (PutSession client session)) none
next_stays (RemoveSession client ∷ edits) rows none = next_stays edits (edited rows (RemoveSession client)) none
next_stays (EndedBelow next ∷ edits) rows none = next_stays edits (edited rows (EndedBelow next)) none
next_stays (PutLock key row ∷ edits) rows none = next_stays edits (edited rows (PutLock key row)) none
next_stays (RemoveLock key ∷ edits) rows none = next_stays edits (edited rows (RemoveLock key)) none

-- rows that have it are as they were after an edit that says it
said_already : (rows : Rows) (n : ℕ) → rows.next_instance ≡ n → rows ≡ edited rows (NextInstance n)
said_already rows n is = subst (λ m. rows ≡ record rows { next_instance = m }) is refl

pub needed_same : (change front : List Edit) (last : Edit) (known : Option ℕ) → change ≡ front ++ last ∷ [] → IsSaid last known → list_any sets_next front ≡ false → (rows : Rows) → HasNext rows known → changed_rows rows front ≡ changed_rows rows change
needed_same change front last known is says none rows has =
    let then : Rows = changed_rows rows front in
    let next : then.next_instance ≡ says.n = next_stays front rows none ∙ has says.n says.same in
    said_already then says.n next ∙ ap (edited then) (sym says.said) ∙ sym (changed_then rows front (last ∷ [])) ∙ ap (changed_rows rows) (sym is)

pub next_kept : (change : List Edit) (known : Option ℕ) → list_any sets_next change ≡ false → (rows : Rows) → HasNext rows known → HasNext (changed_rows rows change) known
next_kept change known none rows has n is = next_stays change rows none ∙ has n is

pub next_said : (change front : List Edit) (last : Edit) (known : Option ℕ) → change ≡ front ++ last ∷ [] → ((rows : Rows) → HasNext (edited rows last) known) → (rows : Rows) → HasNext (changed_rows rows change) known
next_said change front last known is said rows = subst (λ r. HasNext r known) (sym (ap (changed_rows rows) is ∙ changed_then rows front (last ∷ []))) (said (changed_rows rows front))

pub next_unknown : (rows : Rows) (o : Option ℕ) → o ≡ None → HasNext rows o
next_unknown rows o none n some = absurd (let e = sym none ∙ some in cc)

pub next_known : (rows read : Rows) → rows ≡ read → HasNext rows (Some read.next_instance)
next_known rows read is n some = ap (λ (r : Rows). r.next_instance) is ∙ some_is read.next_instance n some
