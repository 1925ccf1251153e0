-- What closing a store leaves.
use Rattle.std.proofs.Common.{◌≡◌, ◌≤◌, ℕ, List, refl, sym, ap, ◌∙◌, subst, arith}
use Rattle.std.specs.Prelude.{IsTrue}
use Rattle.sqlite_disk.specs.declared.Disk.{Ghosts}
use Rattle.sqlite_disk.specs.declared.Files.{Files}
use Rattle.sqlite_store.specs.declared.store.FileStore.{FileStore}
use Rattle.sqlite_store.specs.FileStore.{view, recovers}
use Rattle.sqlite_trees.specs.View.{doubt, IsClean}
use Rattle.sqlite_trees.specs.Tree.{Trees}
use Rattle.sqlite.specs.Effect.{Database}
use Rattle.sqlite.specs.State.{HasCleanDisk}
use Rattle.sqlite.specs.Held.{Held}
use Rattle.sqlite.specs.Files.{file_state, IsClosed}
use Rattle.sqlite.specs.Closing.{IsCopied}
use Rattle.rows_cell.specs.declared.tables.Rows.{Rows}
use Rattle.rows_sql.specs.Held.{Says}
use Rattle.rows_sql.specs.Ready.{tables_of}
use Rattle.rows_sql.specs.Keeping.{IsLeft}
use Rattle.rows_sql.specs.Closed.{StandsAlone}

module _ {D : Type 0} (g : Ghosts D) (c : Held (FileStore D g)) where
  pub stands : (files : Files D) (owed : ℕ) (rows : Rows) → doubt (file_state c).is_clean ≡ owed → (HasCleanDisk (file_state c) → IsTrue (file_state c).is_open → (file_state c).committed ≡ (file_state c).now)
      → (HasCleanDisk (file_state c) → IsTrue (file_state c).is_open → Says (tables_of (file_state c).now.trees) rows) → IsCopied c files → (owed ≡ 0) × StandsAlone g files rows
  stands files owed rows owes settled says copied =
      let clean = copied.was_clean in
      let there = copied.was_open in (
        sym owes ∙ clean,
        record {
          db = (file_state c).committed.trees;
          says = subst (λ (db : Database). Says (tables_of db.trees) rows) (sym (settled clean there)) (says clean there);
          now = copied.seen;
          left = copied.left;
        },
      )

  -- nothing was in doubt, if the store that comes back is clean
  pub was_sure : (last : FileStore D g) (owed : ℕ) → doubt (file_state c).is_clean ≡ owed → IsClosed c last → IsClean (view last) → owed ≡ 0
  was_sure last owed owes closed clean =
      let was : HasCleanDisk (file_state c) = omega (arith, closed.quiet.clean, clean) in
      sym owes ∙ was

  pub left_by : (last : FileStore D g) (left : List Rows) → (HasCleanDisk (file_state c) → (db : Trees) → (file_state c).may_leave db → IsLeft left db) → IsClosed c last → IsClean (view last) → (db : Trees) → recovers last db → IsLeft left db
  left_by last left owes closed clean db may =
      let was : HasCleanDisk (file_state c) = omega (arith, closed.quiet.clean, clean) in
      owes was db (closed.quiet.outcomes db may)
