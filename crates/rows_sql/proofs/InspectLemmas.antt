-- What is known of a store behind the test of its schema.
use Rattle.std.proofs.Common.{◌≡◌, ◌≢◌, ℕ, List, length, true, false, sym, ap, ◌∙◌, refl, arith, inl, inr}
use Rattle.rows_cell.specs.declared.tables.Rows.{Rows}
use Rattle.rows_cell.specs.Sound.{sound}
use Rattle.rows_sql.specs.Held.{SaysAs}
use Rattle.rows_sql.specs.Inspected.{HasSound, IsDamaged}
use Rattle.sqlite_schema.specs.declared.schema.Schema.{Schema}
use Rattle.sqlite_trees.specs.declared.store.Store.{Ghosts}
use Rattle.sqlite.specs.State.{State}
use Rattle.sqlite.specs.Held.{Held, state}
use Rattle.rows_sql.specs.declared.schema.ours.Version.{Version}
use Rattle.rows_sql.specs.declared.schema.ours.Version.TheVariants.{First, Unindexed, Second, Third}
use Rattle.rows_sql.specs.Versions.{schema_of}
use Rattle.rows_sql.specs.Ready.{IsReadyAs, IsSettled, QuietAs, tables_as}

pub has_no_version : (s : State) (schema : Schema) → ((version : Version) → schema ≢ schema_of version) → schema ≡ s.now.schema → (version : Version) → s.now.schema ≢ schema_of version
has_no_version s schema none same version is = none version (same ∙ is)

pub ready_as : (version : Version) (s : State) (schema : Schema) → schema ≡ schema_of version → schema ≡ s.now.schema → IsSettled s → IsReadyAs version s
ready_as version s schema is same settled = record { ours = sym same ∙ is; settled = settled }

-- a schema is that of one version
pub one_version : (a b : Version) → schema_of a ≡ schema_of b → a ≡ b
one_version First First e = refl
one_version Unindexed Unindexed e = refl
one_version Second Second e = refl
one_version Third Third e = refl
one_version First Unindexed e = let n : 3 ≡ 4 = ap (λ (s : Schema). length s.indexes) e in absurd (omega (arith, n))
one_version First Second e = let n : 3 ≡ 5 = ap (λ (s : Schema). length s.indexes) e in absurd (omega (arith, n))
one_version First Third e = let n : 0 ≡ 1 = ap (λ (s : Schema). length s.views) e in absurd (omega (arith, n))
one_version Unindexed First e = let n : 4 ≡ 3 = ap (λ (s : Schema). length s.indexes) e in absurd (omega (arith, n))
one_version Unindexed Second e = let n : 4 ≡ 5 = ap (λ (s : Schema). length s.indexes) e in absurd (omega (arith, n))
one_version Unindexed Third e = let n : 4 ≡ 3 = ap (λ (s : Schema). length s.indexes) e in absurd (omega (arith, n))
one_version Second First e = let n : 5 ≡ 3 = ap (λ (s : Schema). length s.indexes) e in absurd (omega (arith, n))
one_version Second Unindexed e = let n : 5 ≡ 4 = ap (λ (s : Schema). length s.indexes) e in absurd (omega (arith, n))
one_version Second Third e = let n : 5 ≡ 3 = ap (λ (s : Schema). length s.indexes) e in absurd (omega (arith, n))
one_version Third First e = let n : 1 ≡ 0 = ap (λ (s : Schema). length s.views) e in absurd (omega (arith, n))
one_version Third Unindexed e = let n : 3 ≡ 4 = ap (λ (s : Schema). length s.indexes) e in absurd (omega (arith, n))
one_version Third Second e = let n : 3 ≡ 5 = ap (λ (s : Schema). length s.indexes) e in absurd (omega (arith, n))

-- what is quiet by the rules of its own version is quiet by those of each
pub quiet_as : {S : Type 0} (g : Ghosts S) (old new : Held S) (schema : Schema) (own : Version) → schema ≡ schema_of own → schema ≡ (state g old).now.schema → QuietAs own g old new → (version : Version) → QuietAs version g old new
quiet_as g old new schema own is same q version = record {
  idle = q.idle;
  clean = q.clean;
  rests = λ clean ready. q.rests clean (own_ready ready);
  crash = λ clean ready. q.crash clean (own_ready ready);
}
  where
    own_ready : IsReadyAs version (state g old) → IsReadyAs own (state g old)
    own_ready ready = record { ours = sym same ∙ is; settled = ready.settled }

-- what was only looked at is quiet
pub quiet_still : {S : Type 0} (g : Ghosts S) (a : Held S) → (version : Version) → QuietAs version g a a
quiet_still g a version = record { idle = λ i. i; clean = omega arith; rests = λ clean ready o. (o, refl, refl); crash = λ clean ready db left. left }

-- ---- what a test tells

pub none_damaged : (cell : List ℕ) (s : State) (schema : Schema) → ((version : Version) → schema ≢ schema_of version) → schema ≡ s.now.schema → IsDamaged cell s
none_damaged cell s schema none same = inl (has_no_version s schema none same)

module _ (cell : List ℕ) (s : State) (schema : Schema) (version : Version) (is : schema ≡ schema_of version) (same : schema ≡ s.now.schema) where
  pub unsaid_damaged : ((rows : Rows) → ¬ SaysAs version (tables_as version s.now.trees) rows) → IsDamaged cell s
  unsaid_damaged none = inr (version, sym same ∙ is, inl none)

  pub said_damaged : (rows : Rows) → SaysAs version (tables_as version s.now.trees) rows → sound cell rows ≡ false → IsDamaged cell s
  said_damaged rows said unfit = inr (version, sym same ∙ is, inr (rows, said, unfit))

  pub is_sound_as : (rows : Rows) → SaysAs version (tables_as version s.now.trees) rows → sound cell rows ≡ true → HasSound cell s rows
  is_sound_as rows said fit = record { version = version; ours = sym same ∙ is; said = said; sound_rows = fit }
