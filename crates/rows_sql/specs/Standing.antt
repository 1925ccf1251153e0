-- The stores of the kit stand in order.
use Rattle.std.specs.Prelude.{ℕ, zero, suc, true, false, if◌then◌else◌, ◌==◌, List, [], ◌∷◌, map, IsTrue, refl}
use Rattle.std.proofs.Math.Logic.{∥∥₁_elim}
use Rattle.sqlite_disk.specs.declared.Disk.{Ghosts}
use Rattle.sqlite_wal.proofs.StateLemmas.{clean_of}
use Rattle.sqlite_pool.specs.File.{in_use}
use Rattle.sqlite_trees.specs.declared.memory.MemStore.{MemStore}
use Rattle.sqlite_trees.specs.declared.memory.tree.Tree.{Tree}
use Rattle.sqlite_trees.specs.declared.store.Shape.TheVariants.{Table}
use Rattle.sqlite_trees.specs.Listing.{objects_are_ordered, objects_are_listed}
use Rattle.sqlite_trees.specs.Memory.{heading, rows_of, shape_of, objects_of, forest, shapes, all_shapes, memory_view}
use Rattle.sqlite_trees.specs.Objects.{catalog_tree, version_tree, version_rows, with_version, IsListed}
use Rattle.sqlite_trees.specs.Props.{IsShaped-prop, IsOrdered-prop}
use Rattle.sqlite_trees.specs.View.{IsShaped, IsOrdered}
use Rattle.sqlite_store.specs.declared.store.FileStore.{FileStore}
use Rattle.sqlite_store.specs.FileStore.{state, view}
use Rattle.sqlite_store.specs.Listed.{catalog_rows, is_listed}
use Rattle.sqlite_store.specs.Saved.{kept_schema}
use Rattle.sqlite_store.proofs.ListingLemmas.{all_ordered}
use Rattle.rows_sql.specs.Orders.{StandsInOrder}

-- ---- files: a store carries the proof that its committed pages are those of a sound file

module _ {D : Type 0} {g : Ghosts D} (it : FileStore D g) where
  files_ordered : IsTrue (view it).is_open → IsOrdered (view it).committed_shape (view it).committed
  files_ordered is_open =
      rw (clean_of (state it) is_open) (∥∥₁_elim (it.stored is_open) (IsOrdered-prop _ _) (λ stored. all_ordered stored.ours.file.db _))

  files_listed : IsTrue (view it).is_open → IsListed ((view it).committed catalog_tree) (view it).committed_shape (view it).committed_reals
  files_listed is_open =
      rw (clean_of (state it) is_open, catalog_rows (state it).page_size (kept_schema it.saved it.schema.items) (in_use (state it).page_size (state it).committed))
      (is_listed (kept_schema it.saved it.schema.items))

  pub files_stand : IsTrue (view it).is_open → StandsInOrder (view it)
  files_stand is_open = record { listed = files_listed is_open; ordered = files_ordered is_open }

-- ---- memory: each tree carries the proof that its rows are in order

trees_stand : (trees : List Tree) → IsOrdered (shape_of trees) (rows_of trees)
trees_stand [] t = refl
trees_stand (x ∷ trees) zero = ∥∥₁_elim x.ordered (IsShaped-prop x.shape x.rows.items) (λ h. h)
trees_stand (x ∷ trees) (suc t) = trees_stand trees t

forest_stands : (trees : List Tree) (version : ℕ) → IsOrdered (all_shapes trees) (with_version (forest trees) version)
forest_stands trees version t =
    let below : IsShaped (shapes trees t) (forest trees t) =
    elim (t == catalog_tree) as (λ b. IsShaped (if b then Table else shape_of trees t) (if b then objects_of trees else rows_of trees t))
    [ true ↦ objects_are_ordered (map heading trees) 0 | false ↦ trees_stand trees t ] in
    elim (t == version_tree) as (λ b. IsShaped (if b then Table else shapes trees t) (if b then version_rows version else forest trees t))
    [ true ↦ ((tt, tt), (refl, tt)) | false ↦ below ]

pub memory_stands : (s : MemStore) → StandsInOrder (memory_view s)
memory_stands s = record { listed = objects_are_listed (map heading s.base.items); ordered = forest_stands s.base.items s.base_version }
