-- Edits of which one leaves its work to a later one.
use Rattle.std.proofs.Common.{◌≡◌, Bool, true, false, ◌&&◌, inl, inr, ℕ, List, [], ◌∷◌, refl, sym, ◌∙◌, true≢false, Result, Ok, Err, arith}
use Rattle.std.specs.Prelude.{OnOk}
use Rattle.std.specs.List.{list_any}
use Rattle.std.proofs.lemmas.Bool.{and_parts}
use Rattle.sqlite.specs.State.{State, HasCleanDisk, KeepsCommit, Survives}
use Rattle.rows_cell.specs.declared.tables.Rows.{Rows}
use Rattle.rows_cell.specs.declared.tables.Edit.{Edit}
use Rattle.rows_cell.specs.declared.tables.Edit.TheVariants.{Epoch, NextInstance, PutNode, LockGeneration, RemoveNode, PutSession, RemoveSession, EndedBelow, PutLock, RemoveLock}
use Rattle.rows_cell.specs.Rows.{changed_rows, edited}
use Rattle.rows_sql.specs.Ongoing.{Changed}
use Rattle.rows_sql.specs.Overtaken.{sets_next, is_overtaken, GoesOver}
use Rattle.rows_sql.proofs.WriteSteps.{Along, kept_on, survives_on}

-- what was the next instance is nothing to edits that say one
said_again : (n : ℕ) (later : List Edit) (rows : Rows) → list_any sets_next later ≡ true → changed_rows rows later ≡ changed_rows (record rows { next_instance = n }) later
said_again n [] rows some = absurd (true≢false (sym some))
said_again n (NextInstance m ∷ later) rows some = refl
said_again n (Epoch epoch ∷ later) rows some = said_again n later (edited rows (Epoch epoch)) some
said_again n (PutNode name node ∷ later) rows some = said_again n later (edited rows (PutNode name node)) some
said_again n (LockGeneration name generation ∷ later) rows some = said_again n later (edited rows (LockGeneration name generation)) some
said_again n (RemoveNode name ∷ later) rows some = said_again n later (edited rows (RemoveNode name)) some
said_again n (PutSession client session ∷ later) rows some = said_again n later (edited rows (PutSession client session)) some
said_again n (RemoveSession client ∷ later) rows some = said_again n later (edited rows (RemoveSession client)) some
said_again n (EndedBelow next ∷ later) rows some = said_again n later (edited rows (EndedBelow next)) some
said_again n (PutLock key row ∷ later) rows some = said_again n later (edited rows (PutLock key row)) some
said_again n (RemoveLock key ∷ later) rows some = said_again n later (edited rows (RemoveLock key)) some

overtaken_rows : (edit : Edit) (later : List Edit) (rows : Rows) → sets_next edit ≡ true → list_any sets_next later ≡ true → changed_rows rows later ≡ changed_rows rows (edit ∷ later)
overtaken_rows (NextInstance n) later rows next some = said_again n later rows some
overtaken_rows (Epoch epoch) later rows next some = absurd (true≢false (sym next))
overtaken_rows (PutNode name node) later rows next some = absurd (true≢false (sym next))
overtaken_rows (LockGeneration name generation) later rows next some = absurd (true≢false (sym next))
overtaken_rows (RemoveNode name) later rows next some = absurd (true≢false (sym next))
overtaken_rows (PutSession client session) later rows next some = absurd (true≢false (sym next))
overtaken_rows (RemoveSession client) later rows next some = absurd (true≢false (sym next))
overtaken_rows (EndedBelow below) later rows next some = absurd (true≢false (sym next))
overtaken_rows (PutLock key row) later rows next some = absurd (true≢false (sym next))
overtaken_rows (RemoveLock key) later rows next some = absurd (true≢false (sym next))

pub left_to_later : (edit : Edit) (later : List Edit) (s : State) → is_overtaken edit later ≡ true → GoesOver edit later s s
left_to_later edit later s over = record {
  store = λ h. h;
  says = λ store rows h. let both = and_parts _ _ over in (rows, h, overtaken_rows edit later rows both.0 both.1);
}

done_now : (edit : Edit) (later : List Edit) (old new : State) → Changed (edit ∷ []) old new → GoesOver edit later old new
done_now edit later old new did = record {
  store = did.store;
  says = λ store rows h. (changed_rows rows (edit ∷ []), did.says store rows h, refl);
}

pub done_if_ok : {T E : Type 0} (r : Result T E) (edit : Edit) (later : List Edit) (old new : State) → OnOk r (Changed (edit ∷ []) old new) → OnOk r (GoesOver edit later old new)
done_if_ok (Ok x) edit later old new did = done_now edit later old new did
done_if_ok (Err e) edit later old new did = tt

pub along_over : (change later : List Edit) (edit : Edit) (a b c : State) → Along change (edit ∷ later) a b → (HasCleanDisk c → GoesOver edit later b c) → (HasCleanDisk c → KeepsCommit b c) → Survives b c (λ _. ⊥)
    → Along change later a c
along_over change later edit a b c along did kept survives = record {
  kept = kept_on change (edit ∷ later) a b c along kept survives;
  survives = survives_on change (edit ∷ later) a b c along survives;
  store = λ clean store. (did clean).store (along.store (omega (arith, survives.clean, clean)) store);
  says = λ clean store rows h.
      let before : HasCleanDisk b = omega (arith, survives.clean, clean) in
      let at = along.says before store rows h in
      let then = (did clean).says (along.store before store) at.0 at.1 in
      (then.0, then.1, then.2 ∙ at.2);
}
