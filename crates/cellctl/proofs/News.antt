-- A run over a new store in memory.
use Rattle.std.proofs.Common.{◌≡◌, inl, inr, ℕ, true, Result, Ok, Err, refl, sym, ap, subst, ◌∙◌}
use Rattle.std.specs.Prelude.{IfOk}
use Rattle.sqlite_trees.specs.declared.memory.MemStore.{MemStore}
use Rattle.sqlite_trees.specs.Memory.{memory_view}
use Rattle.sqlite_trees.specs.View.{IsClean}
use Rattle.sqlite_trees.proofs.Doubt.{no_doubt}
use Rattle.sqlite.specs.Effect.{Database}
use Rattle.sqlite.specs.Steps.{IsEmpty}
use Rattle.rows_cell.specs.Settings.{Settled, terms_of}
use Rattle.rows_cell.specs.declared.tables.Rows.{Rows}
use Rattle.rows_cell.specs.Opening.{opening}
use Rattle.rows_cell.specs.Stores.{Store}
use Rattle.world_steps.specs.World.{WorldView, IsUndoubted, opened, store_in}
use Rattle.scripts.specs.Ran.{EndsWith, EndsSurely}
use Rattle.rows_sql.specs.declared.schema.ours.Version.TheVariants.{Third}
use Rattle.rows_sql.specs.Creation.{no_schema}
use Rattle.rows_sql.specs.Adopting.{Takes}
use Rattle.rows_sql.proofs.Adoptions.{some_tables}
use Rattle.sqlite.specs.State.{State}
use Rattle.cellctl.specs.Closed.{taken}
use Rattle.cellctl.specs.Led.{Known}
use Rattle.cellctl.specs.Anew.{RanAnew}
use Rattle.cellctl.specs.Taken.{IsAdopted}
use Rattle.cellctl.proofs.Overs.{as_taken, script_led_surely}

-- a connection that is empty has committed no table
pub none_of : (s : State) → IsEmpty s → s.committed.schema ≡ no_schema
none_of s empty = sym (ap (λ (d : Database). d.schema) empty.0.clean) ∙ empty.2

-- memory takes no wrong answer as true
pub memory_is_clean : (store : MemStore) → IsClean (memory_view store)
memory_is_clean store = no_doubt true refl

pub sure_of : {X E : Type 0} (A B : Type 0) (P : X → Type 0) (r : Result X E) → A → B → IfOk r (λ x. A → B → P x) → IfOk r P
sure_of A B P (Ok x) a b p = p a b
sure_of A B P (Err e) a b p = tt

-- a database with no table is taken over as the opening rows
takes_opening : (settings : Settled) (db : Database) (rows : Rows) → db.schema ≡ no_schema → Takes settings db rows → rows ≡ opening settings
takes_opening settings db rows none (inl p) = absurd (some_tables Third db.schema none p.0)
takes_opening settings db rows none (inr (inl p)) = p.1
takes_opening settings db rows none (inr (inr (version, before, said, can, is))) = absurd (some_tables version db.schema none said.schema)

pub ran_anew : (settings : Settled) (had : State) (text before after : Known) (status : ℕ) (first last : Store) (old new : WorldView) → IsAdopted settings had first → had.committed.schema ≡ no_schema
    → old ≡ opened first (terms_of settings) → last ≡ store_in new → (IsUndoubted new → IsUndoubted old × EndsWith status (EndsSurely text old new) before after) → last.doubt ≡ 0
    → RanAnew settings text status before after
ran_anew settings had text before after status first last old new is none opens closes ran sure =
    let led = script_led_surely (terms_of settings) text before after status first last old new opens closes ran sure in
    let rows = takes_opening settings had.committed first.rows none (is.adopts led.0).takes in
    let P : Store → Type 0 = λ s. EndsWith status (EndsSurely text (opened s (terms_of settings)) led.1.0) before after in
    let Q : Rows → Type 0 = λ r. EndsWith status (EndsSurely text (opened (taken settings r) (terms_of settings)) led.1.0) before after in
    (led.1.0, subst Q rows (subst P (as_taken settings first is.fresh.cell is.fresh.left is.fresh.none led.0) led.1.1))
