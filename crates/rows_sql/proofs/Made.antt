-- A new store, step by step.
use Rattle.std.proofs.Common.{◌≡◌, List, sym, subst, ◌∙◌, arith}
use Rattle.std.specs.Prelude.{true, false}
use Rattle.sqlite.specs.Tree.{Trees}
use Rattle.sqlite.specs.State.{State, HasCleanDisk, Survives, Shows}
use Rattle.sqlite.specs.Held.{Held, state}
use Rattle.sqlite.proofs.StateLemmas.{survives_then}
use Rattle.sqlite.proofs.Callers.{survives_begin}
use Rattle.sqlite_trees.specs.declared.store.Store.{Ghosts}
use Rattle.rows_cell.specs.declared.tables.Edit.{Edit}
use Rattle.rows_cell.specs.Opening.{opening}
use Rattle.rows_cell.specs.Settings.{Settled}
use Rattle.rows_cell.specs.Rows.{changed_rows}
use Rattle.rows_sql.specs.Held.{Says}
use Rattle.rows_sql.specs.Ready.{tables_of}
use Rattle.rows_sql.specs.Ongoing.{Changed}
use Rattle.rows_sql.specs.Creation.{no_schema, Makes, PutsCell, MakesBare, Opens, IsMade, MayOpen, IsStoreOf, opening_edits, bare_rows}
use Rattle.rows_sql.specs.OurSchema.{the_schema}
use Rattle.rows_sql.proofs.OpeningEdits.{opening_put}

pub bare_made : (settings : Settled) (a b c : State) → Makes no_schema the_schema a b → PutsCell settings b c → MakesBare settings a c
bare_made settings a b c tables cell none = cell (tables (record { has = none; empty = tt }))

pub opens_made : (settings : Settled) (nodes : List Edit) (a b c : State) → nodes ≡ opening_edits settings → MakesBare settings a b → Changed nodes b c → Opens settings a c
opens_made settings nodes a b c are bare changed none =
    let at = bare none in
    let said = changed.says at.store (bare_rows settings) at.said in
    record {
      store = changed.store at.store;
      said = subst (Says (tables_of c.now.trees)) (opening_put settings) (subst (λ (edits : List Edit). Says (tables_of c.now.trees) (changed_rows (bare_rows settings) edits)) are said);
    }

pub made_all : {S : Type 0} (g : Ghosts S) (old : Held S) (settings : Settled) (mid last : State) → Opens settings (state g (record old { in_transaction = true })) mid → Shows mid last mid.now mid.now false → IsMade settings (state g old) last
made_all g old settings mid last did shown = record {
  opened = λ none. subst (IsStoreOf (opening settings)) (sym shown.now_is) (did none);
  is_open = shown.is_open;
  committed = shown.committed_is ∙ sym shown.now_is;
}

pub survives_made : {S : Type 0} (g : Ghosts S) (old : Held S) (settings : Settled) (mid last : State) → Survives (state g (record old { in_transaction = true })) mid (λ _. ⊥)
    → (HasCleanDisk mid → Opens settings (state g (record old { in_transaction = true })) mid) → Survives mid last (λ db. db ≡ mid.now.trees) → Survives (state g old) last (MayOpen settings (state g old))
survives_made g old settings mid last before did after =
    survives_then (state g old) mid last (λ _. ⊥) (λ db. db ≡ mid.now.trees) (MayOpen settings (state g old)) (λ _ db none. absurd none)
    (λ clean db is none. subst (λ (t : Trees). Says (tables_of t) (opening settings)) (sym is) (did (omega (arith, clean, after.clean)) none).said) (survives_begin g old mid (λ _. ⊥) before) after

pub survives_unmade : {S : Type 0} (g : Ghosts S) (old : Held S) (settings : Settled) (mid last : State) → Survives (state g (record old { in_transaction = true })) mid (λ _. ⊥)
    → Survives mid last (λ _. ⊥) → Survives (state g old) last (MayOpen settings (state g old))
survives_unmade g old settings mid last before after =
    survives_then (state g old) mid last (λ _. ⊥) (λ _. ⊥) (MayOpen settings (state g old)) (λ _ db none. absurd none) (λ _ db none. absurd none) (survives_begin g old mid (λ _. ⊥) before) after
