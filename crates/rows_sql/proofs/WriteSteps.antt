-- Steps of a transaction.
use Rattle.std.proofs.Common.{◌≡◌, List, [], ◌∷◌, Ok, Err, Result, refl, sym, subst, ◌∙◌, inl, inr, arith}
use Rattle.std.specs.Prelude.{OnOk, OnErr, IfErr, true, false}
use Rattle.sqlite.specs.State.{State, HasCleanDisk, KeepsCommit, Survives, Shows}
use Rattle.sqlite.specs.Tree.{Trees}
use Rattle.sqlite.proofs.StateLemmas.{survives_then}
use Rattle.sqlite.proofs.InsideLemmas.{keeps_then, unchanged_keeps}
use Rattle.sqlite.proofs.Callers.{survives_begin}
use Rattle.sqlite.specs.Steps.{FailsToCommit}
use Rattle.sqlite_trees.specs.declared.store.Store.{Ghosts}
use Rattle.sqlite.specs.Held.{Held, state}
use Rattle.sqlite.specs.Effect.{Database}
use Rattle.sqlite.specs.declared.error.Error.{Error}
use Rattle.rows_cell.specs.declared.tables.Rows.{Rows}
use Rattle.rows_cell.specs.declared.tables.Edit.{Edit}
use Rattle.rows_cell.specs.Rows.{changed_rows}
use Rattle.rows_sql.specs.Held.{Says}
use Rattle.rows_sql.specs.Ready.{tables_of}
use Rattle.rows_sql.specs.Ongoing.{IsStore, Changed, Committed, MayCommit}

-- Some edits were done in a transaction, and these are left.
pub record Along (change left : List Edit) (start now : State) : Type 0 where
  pub kept : HasCleanDisk now → KeepsCommit start now
  pub survives : Survives start now (λ _. ⊥)
  pub store : HasCleanDisk now → IsStore start.now → IsStore now.now
  pub says : HasCleanDisk now → IsStore start.now → (rows : Rows) → Says (tables_of start.now.trees) rows
      → (mid : Rows) × Says (tables_of now.now.trees) mid × (changed_rows mid left ≡ changed_rows rows change)

pub ok_then : {T E : Type 0} (r : Result T E) {P Q : Type 0} → (P → Q) → OnOk r P → OnOk r Q
ok_then (Ok x) f h = f h
ok_then (Err e) f h = tt

pub survives_itself : (s : State) (P : Trees → Type 0) → Survives s s P
survives_itself s P = record { clean = omega arith; shield = λ h. h; counts = omega arith; limit = refl; closes = λ _ is_open. inl is_open; crash = λ _ db may. inl may }

pub along_start : (change : List Edit) (s : State) → Along change change s s
along_start change s = record {
  kept = λ _. record { was_open = λ h. h; committed = λ _. refl };
  survives = survives_itself s (λ _. ⊥);
  store = λ _ h. h;
  says = λ _ _ rows h. (rows, h, refl);
}

-- a step that failed, or whose edit isn't known
pub kept_on : (change left : List Edit) (a b c : State) → Along change left a b → (HasCleanDisk c → KeepsCommit b c) → Survives b c (λ _. ⊥) → HasCleanDisk c → KeepsCommit a c
kept_on change left a b c along kept survives clean = keeps_then a b c (along.kept (omega (arith, survives.clean, clean))) (kept clean)

pub survives_on : (change left : List Edit) (a b c : State) → Along change left a b → Survives b c (λ _. ⊥) → Survives a c (λ _. ⊥)
survives_on change left a b c along survives = survives_then a b c (λ _. ⊥) (λ _. ⊥) (λ _. ⊥) (λ _ db none. none) (λ _ db none. none) along.survives survives

pub along_step : (change left : List Edit) (edit : Edit) (a b c : State) → Along change (edit ∷ left) a b → (HasCleanDisk c → Changed (edit ∷ []) b c) → (HasCleanDisk c → KeepsCommit b c) → Survives b c (λ _. ⊥)
    → Along change left a c
along_step change left edit a b c along did kept survives = record {
  kept = kept_on change (edit ∷ left) a b c along kept survives;
  survives = survives_on change (edit ∷ left) a b c along survives;
  store = λ clean store. (did clean).store (along.store (omega (arith, survives.clean, clean)) store);
  says = λ clean store rows h.
      let before : HasCleanDisk b = omega (arith, survives.clean, clean) in
      let at = along.says before store rows h in
      (changed_rows at.0 (edit ∷ []), (did clean).says (along.store before store) at.0 at.1, at.2);
}

-- ---- the ends of a transaction

pub keeps_from : {S : Type 0} (g : Ghosts S) (old : Held S) (mid last : State) → KeepsCommit (state g (record old { in_transaction = true })) mid → KeepsCommit mid last → KeepsCommit (state g old) last
keeps_from g old mid last a b = let all = keeps_then (state g (record old { in_transaction = true })) mid last a b in record { was_open = all.was_open; committed = all.committed }

pub fails_keeps : (mid last : State) (r : Result (Unit {0}) Error) → IfErr r (FailsToCommit mid last) → OnErr r (KeepsCommit mid last)
fails_keeps mid last (Ok x) h = tt
fails_keeps mid last (Err e) (inl fails) = unchanged_keeps mid last (inr fails.3)
fails_keeps mid last (Err e) (inr same) = unchanged_keeps mid last (inl same.2)

pub err_then : {T E : Type 0} (r : Result T E) {P Q : Type 0} → (P → Q) → OnErr r P → OnErr r Q
err_then (Ok x) f h = tt
err_then (Err e) f h = f h

pub committed_all : {S : Type 0} (g : Ghosts S) (old : Held S) (change : List Edit) (mid last : State) → Changed change (state g (record old { in_transaction = true })) mid → Shows mid last mid.now mid.now false → Committed change (state g old) last
committed_all g old change mid last did shown = record {
  store = λ store. subst IsStore (sym shown.now_is) (did.store store);
  says = λ store rows h. subst (λ (d : Database). Says (tables_of d.trees) (changed_rows rows change)) (sym shown.now_is) (did.says store rows h);
  is_open = shown.is_open;
  committed = shown.committed_is ∙ sym shown.now_is;
}

pub survives_all : {S : Type 0} (g : Ghosts S) (old : Held S) (change : List Edit) (mid last : State) → Survives (state g (record old { in_transaction = true })) mid (λ _. ⊥)
    → (HasCleanDisk mid → Changed change (state g (record old { in_transaction = true })) mid) → Survives mid last (λ db. db ≡ mid.now.trees) → Survives (state g old) last (MayCommit change (state g old))
survives_all g old change mid last before did after =
    survives_then (state g old) mid last (λ _. ⊥) (λ db. db ≡ mid.now.trees) (MayCommit change (state g old)) (λ _ db none. absurd none)
    (λ clean db is store rows h. subst (λ (t : Trees). Says (tables_of t) (changed_rows rows change)) (sym is) ((did (omega (arith, clean, after.clean))).says store rows h)) (survives_begin g old mid (λ _. ⊥) before) after

pub survives_none : {S : Type 0} (g : Ghosts S) (old : Held S) (change : List Edit) (mid last : State) → Survives (state g (record old { in_transaction = true })) mid (λ _. ⊥)
    → Survives mid last (λ _. ⊥) → Survives (state g old) last (MayCommit change (state g old))
survives_none g old change mid last before after =
    survives_then (state g old) mid last (λ _. ⊥) (λ _. ⊥) (MayCommit change (state g old)) (λ _ db none. absurd none) (λ _ db none. absurd none) (survives_begin g old mid (λ _. ⊥) before) after

pub changed_none : (s : State) → Changed [] s s
changed_none s = record { store = λ h. h; says = λ store rows h. h }

pub keeps_itself : (s : State) → KeepsCommit s s
keeps_itself s = record { was_open = λ h. h; committed = λ _. refl }

-- all edits were done
pub all_done : (change : List Edit) (a b : State) → Along change [] a b → HasCleanDisk b → Changed change a b
all_done change a b along clean = record {
  store = along.store clean;
  says = λ store rows h. let at = along.says clean store rows h in subst (λ (r : Rows). Says (tables_of b.now.trees) r) at.2 at.1;
}
