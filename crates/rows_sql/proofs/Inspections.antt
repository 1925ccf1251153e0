-- What the test of two files finds.
use Rattle.std.proofs.Common.{◌≡◌, ◌≢◌, inl, inr, ℕ, ◌≤◌, ◌<◌, ◌+◌, Bool, true, false, List, [], ◌∷◌, length, Result, Ok, Err, refl, sym, ap, ◌∙◌, subst, arith, true≢false, ext_get_or, zero-add}
use Rattle.std.specs.Prelude.{◌⊎◌, ◌==◌, if◌then◌else◌, IsTrue, IfOk, IfErr, slice_index}
use Rattle.std.proofs.lemmas.Bool.Decides.{nat_tests}
use Rattle.std.proofs.lemmas.Bool.{and_from}
use Rattle.sqlite_disk.specs.declared.Disk.{Ghosts}
use Rattle.sqlite_disk.specs.declared.Files.{Files}
use Rattle.sqlite_disk.specs.declared.tally.Tally.{Tally}
use Rattle.sqlite_disk.specs.Disk.{Holds, Torn}
use Rattle.sqlite_wal.specs.Recovery.{Image}
use Rattle.sqlite_wal.specs.Reads.{tally_of_files}
use Rattle.sqlite_pool.specs.Pool.{state}
use Rattle.sqlite_pool.specs.declared.pool.Pool.{Pool}
use Rattle.sqlite_store.specs.declared.store.FileStore.{FileStore}
use Rattle.sqlite_store.specs.FileStore.{view}
use Rattle.sqlite_store.specs.Report.{named}
use Rattle.sqlite_trees.specs.Tree.{Trees}
use Rattle.sqlite_trees.specs.View.{doubt}
use Rattle.sqlite.specs.Effect.{Database, IsDatabase}
use Rattle.sqlite.specs.State.{State, HasCleanDisk, store_error}
use Rattle.sqlite.specs.Held.{Held}
use Rattle.sqlite.specs.Files.{file_state, image_of, IsOpened, Finds, HoldsDatabase, tally_left, IsCleanLeft, FailsToOpenFiles}
use Rattle.sqlite.specs.Closing.{files_left}
use Rattle.sqlite.specs.Opening.{FailsAs}
use Rattle.sqlite_trees.specs.declared.error.StoreError.{StoreError}
use Rattle.sqlite_trees.specs.declared.error.StoreError.TheVariants as stored
use Rattle.sqlite.specs.declared.file.Leftover.{Leftover}
use Rattle.sqlite.specs.declared.file.Leftover.TheVariants as left
use Rattle.sqlite.specs.declared.error.Error.{Error}
use Rattle.sqlite.specs.declared.error.Error.TheVariants.{SqliteFailure}
use Rattle.sqlite.specs.declared.error.ErrorCode.TheVariants.{NotADatabase, DatabaseCorrupt}
use Rattle.rows_cell.specs.declared.tables.Rows.{Rows}
use Rattle.rows_cell.specs.declared.counts.Counts.{Counts}
use Rattle.rows_cell.specs.declared.records.StoreFault.{StoreFault}
use Rattle.rows_cell.specs.Counts.{counts_of}
use Rattle.rows_cell.specs.Sound.{sound}
use Rattle.rows_sql.specs.declared.schema.ours.Version.{Version}
use Rattle.rows_sql.specs.Versions.{schema_of}
use Rattle.rows_sql.specs.Children.{children_for}
use Rattle.rows_sql.specs.Held.{SaysAs}
use Rattle.rows_sql.specs.Ready.{tables_as}
use Rattle.rows_sql.specs.Inspected.{HasSound, SaysNoSound, IsDamaged}
use Rattle.rows_sql.proofs.InspectLemmas.{one_version}
use Rattle.rows_sql.proofs.OneSchema.{one_database}
use Rattle.rows_sql.proofs.SaidTables.{one_said}
use Rattle.rows_sql.specs.Found.{AreOfStore, FindsRows, HoldsRows, IsAlwaysClean}

-- ---- always clean

clean_doubt : (b : Bool) → IsTrue b → doubt b ≡ 0
unfolding doubt
clean_doubt true h = refl
clean_doubt false h = absurd (true≢false (sym h))

module _ {D : Type 0} {g : Ghosts D} (always : IsAlwaysClean g) where
  clean_pool : (it : Pool D g) → IsTrue (state it).is_clean
  unfolding state
  clean_pool it = and_from _ _ (always _) (always _)

  pub clean_conn : (c : Held (FileStore D g)) → HasCleanDisk (file_state c)
  clean_conn c = clean_doubt _ (clean_pool c.store.pool)

  pub clean_left : (rest : Leftover D g) → IsCleanLeft rest
  clean_left (left.Files files) = and_from _ _ (always _) (always _)
  clean_left (left.Unopened files) = clean_pool files.pool
  clean_left (left.Store it) = clean_pool it.pool

  module _ (files : Files D) (c : Held (FileStore D g)) (opened : HasCleanDisk (file_state c) → IsOpened c) (finds : HasCleanDisk (file_state c) → Finds files c) (cell : List ℕ) where
    at : IsOpened c
    at = opened (clean_conn c)

    found : Finds files c
    found = finds (clean_conn c)

    -- what is open is committed
    pub settled : IsTrue (file_state c).is_open → (file_state c).committed ≡ (file_state c).now
    settled _ = sym at.0.clean

    listed : IsDatabase (file_state c).now
    listed = (at.1 at.0.is_open).0

    same_trees : (file_state c).now.trees ≡ (file_state c).committed.trees
    same_trees = ap (λ (d : Database). d.trees) at.0.clean

    pub finds_rows : (counts : Counts) → ((rows : Rows) × HasSound cell (file_state c) rows × (counts ≡ counts_of rows)) → (rows : Rows) × FindsRows (image_of g files) rows × (sound cell rows ≡ true) × (counts ≡ counts_of rows)
    finds_rows counts h =
        let rows = h.0 in
        let has = h.1 in
        let it : FindsRows (image_of g files) rows = record {
          db = (file_state c).committed.trees;
          found = found.reads;
          only = λ other holds. found.holds other holds;
          store = record {
            version = has.version;
            listed = subst (λ (d : Database). IsDatabase (record { schema = schema_of has.version; trees = d.trees })) at.0.clean (subst (λ s. IsDatabase (record { schema = s; trees = (file_state c).now.trees })) has.ours listed);
            says = subst (λ (t : Trees). SaysAs has.version (tables_as has.version t) rows) same_trees has.said;
          };
        } in
        (rows, it, has.sound_rows, h.2)

    pub not_sound : IsDamaged cell (file_state c) → (rows : Rows) → HoldsRows (image_of g files) rows → sound cell rows ≡ false
    not_sound damaged rows holds =
        let db = holds.0 in
        let same : (file_state c).now.trees ≡ db = same_trees ∙ found.holds db holds.1 in
        let store = holds.2 in
        let version = store.version in
        let one : (file_state c).now ≡ record { schema = schema_of version; trees = db } = one_database (file_state c).now (record { schema = schema_of version; trees = db }) same listed store.listed in
        let schema : (file_state c).now.schema ≡ schema_of version = ap (λ (d : Database). d.schema) one in
        let says : SaysAs version (tables_as version (file_state c).now.trees) rows = subst (λ (t : Trees). SaysAs version (tables_as version t) rows) (sym same) store.says in
        elim damaged [
          | inl other ↦ absurd (other version schema)
          | inr by ↦
              let own : by.0 ≡ version = one_version by.0 version (sym by.1 ∙ schema) in
              elim (subst (λ (v : Version). SaysNoSound cell v (file_state c)) own by.2) [
                | inl none ↦ absurd (none rows says)
                | inr read ↦ subst (λ (r : Rows). sound cell r ≡ false) (one_said version (tables_as version (file_state c).now.trees) read.0 rows (children_for version read.0.nodes) (children_for version rows.nodes) read.1 says) read.2
              ]
        ]

    pub finds_in : (r : Result Counts StoreFault) → IfOk r (λ counts. (rows : Rows) × HasSound cell (file_state c) rows × (counts ≡ counts_of rows))
        → IfOk r (λ counts. (rows : Rows) × FindsRows (image_of g files) rows × (sound cell rows ≡ true) × (counts ≡ counts_of rows))
    finds_in (Ok counts) h = finds_rows counts h
    finds_in (Err fault) h = tt

-- ---- not opened

pub caught_of : {D : Type 0} (g : Ghosts D) (rest : Leftover D g) (log db : D) → (log, db) ≡ files_left rest → (tally_of_files g (log, db)).caught ≡ (tally_left rest).caught
caught_of g (left.Files files) log db is = ap (λ p. (tally_of_files g p).caught) is
caught_of g (left.Unopened files) log db is = ap (λ p. (tally_of_files g p).caught) is
caught_of g (left.Store it) log db is = ap (λ p. (tally_of_files g p).caught) is

no_fault : (kind : StoreError) → SqliteFailure NotADatabase ≡ store_error kind → ⊥
no_fault stored.OutOfMemory e = cc
no_fault stored.Io e = cc
no_fault stored.Corrupt e = cc
no_fault stored.Full e = cc
no_fault stored.Broken e = cc
no_fault stored.Unstorable e = cc

no_damage : (a b : Bool) → a ≡ true → SqliteFailure DatabaseCorrupt ≡ store_error (if a then (if b then stored.Io else stored.Full) else stored.Corrupt) → ⊥
no_damage true true h e = cc
no_damage true false h e = cc
no_damage false b h e = true≢false (sym h)

-- what isn't opened for these causes holds no database
abbrev pub IsNone : Tally → Tally → Error → Type 0
IsNone before after e = (e ≡ SqliteFailure NotADatabase) ⊎ ((e ≡ SqliteFailure DatabaseCorrupt) × (after.caught ≡ before.caught))

module _ (before after : Tally) (n m : ℕ) (AtLimit Wanted : Type 0) where
  none_by : (e : Error) → IsNone before after e → FailsAs (named before after) n m AtLimit Wanted e → ¬ Wanted
  none_by e why (inl memory) = elim why [ inl a ↦ absurd (cc) | inr b ↦ let c = b.0 in absurd (cc) ]
  none_by e why (inr (inl refuses)) = refuses.1
  none_by e why (inr (inr (inl fault))) = elim why [
    | inl a ↦ absurd (no_fault (named before after) (sym a ∙ fault.0))
    | inr b ↦
        let same : (after.caught == before.caught) ≡ true = let c = b.1 in grind (arith, nat_tests) in
        absurd (no_damage (after.caught == before.caught) (after.refused == before.refused) same (sym b.0 ∙ fault.0))
  ]
  none_by e why (inr (inr (inr full))) = let f = full.0 in elim why [ inl a ↦ absurd (cc) | inr b ↦ let c = b.0 in absurd (cc) ]

pub holds_none : {D : Type 0} (g : Ghosts D) (files : Files D) (rest : Leftover D g) (e : Error) (cell : List ℕ) → FailsToOpenFiles files rest e → IsNone (tally_of_files g (files.log, files.db)) (tally_left rest) e
    → (rows : Rows) → HoldsRows (image_of g files) rows → sound cell rows ≡ false
holds_none g files rest e cell fails why rows holds =
    absurd (none_by (tally_of_files g (files.log, files.db)) (tally_left rest) _ _ _ _ e why fails (inl (holds.0, holds.1)))

pub none_of : (before counted after : Tally) (e : Error) → before ≡ counted → IsNone before after e → IsNone counted after e
none_of before counted after e is = subst (λ (t : Tally). IsNone t after e) is

-- ---- a copy in memory

pub at_bytes : (P : Image → Type 0) (seen read log db : List ℕ) → seen ≡ log → read ≡ db → P (record { log = seen; db = read }) → P (record { log = log; db = db })
at_bytes P seen read log db is was = subst P (λ i. record { log = is i; db = was i })

pub is_copy : (bytes old file : List ℕ) → old ≡ [] → (0 < length bytes → Holds file 0 bytes) → Torn 0 (length bytes) old file → file ≡ bytes
is_copy [] old file empty holds torn =
    let short : length file ≡ 0 = let n = torn.no_longer in let e = ap length empty in omega (arith, n, e) in
    ext_get_or 0 file [] short (λ i low. absurd (omega (arith, short, low)))
is_copy (b ∷ bytes) old file empty holds torn =
    let at = holds (omega arith) in
    let long : length file ≡ length (b ∷ bytes) = let n = torn.no_longer in let w = at.within in let e = ap length empty in omega (arith, n, w, e) in
    ext_get_or 0 file (b ∷ bytes) long (λ i low. subst (λ k. slice_index file k ≡ slice_index (b ∷ bytes) i) (zero-add i) (at.each i (omega (arith, low, long))))
