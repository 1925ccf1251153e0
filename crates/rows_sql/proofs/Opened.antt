-- A store over trees that some program made.
use Rattle.std.proofs.Common.{◌≡◌, ◌≤◌, false, arith, Result, Ok, Err, IfOk}
use Rattle.sqlite_trees.specs.declared.store.Store.{Ghosts}
use Rattle.sqlite_trees.specs.Objects.{catalog_tree, IsListed}
use Rattle.sqlite_trees.specs.View.{IsClean, IsOrdered, doubt}
use Rattle.sqlite.specs.State.{HasCleanDisk, Opens, IsLive}
use Rattle.sqlite.specs.Held.{Held, state}
use Rattle.sqlite.specs.Steps.{IsFresh}
use Rattle.rows_sql.specs.declared.schema.ours.Version.{Version}
use Rattle.rows_sql.specs.Versions.{schema_of}
use Rattle.rows_sql.specs.Ongoing.{IsStoreBy}
use Rattle.rows_sql.proofs.Shaped.{is_store_of}

-- what is known of an unbroken store that was opened anew
module _ {S E : Type 0} (g : Ghosts S) (store : S) (ordered : (s : S) → (g.view s).is_broken ≡ false → IsOrdered (g.view s).shape (g.view s).trees)
    (listed : (s : S) → (g.view s).is_broken ≡ false → IsListed ((g.view s).trees catalog_tree) (g.view s).shape (g.view s).reals) (fresh : IsClean (g.view store) → IsFresh (g.view store)) where
  pub opened : (r : Result (Held S) E) → IfOk r (λ c. HasCleanDisk (state g c) → Opens (state g c) × IsLive (state g c)) → IfOk r (λ c. doubt (g.view store).is_clean ≤ doubt (state g c).is_clean) → IfOk r (λ c. HasCleanDisk (state g c) → (state g c).now.trees ≡ (g.view store).trees)
      → IfOk r (λ c. HasCleanDisk (state g c) → (version : Version) → (state g c).now.schema ≡ schema_of version → IsStoreBy (schema_of version) (state g c).now)
  opened (Err e) opens cleaner trees = tt
  opened (Ok c) opens cleaner trees = λ clean version ours.
      let was : IsClean (g.view store) = omega (arith, clean, cleaner) in
      let at = opens clean in
      is_store_of version (g.view store) (state g c).now (trees clean) ours (at.1 at.0.is_open).0 (listed store (fresh was).sound) (ordered store (fresh was).sound)
