-- The tables over the instances by which rows are tested.
use Rattle.std.specs.Prelude.{◌≡◌, ℕ, Bool, true, false, ◌&&◌, ◌==◌, List, length, map, filter, Option, Some, None}
use Rattle.std.specs.Option.{option_map_or}
use Rattle.std.specs.List.{list_all}
use Rattle.std.specs.Map.{lookup}
use Rattle.std.specs.BTreeMap.{is_at}
use Rattle.std.specs.Ordering.{nat_cmp}
use Rattle.std.specs.Str.{bytes_eq}
use Rattle.rows_cell.specs.declared.tables.LockState.{LockState}
use Rattle.rows_cell.specs.declared.tables.Rows.{Rows}
use Rattle.rows_cell.specs.declared.soundness.NodeLocks.{NodeLocks}
use Rattle.rows_cell.specs.declared.soundness.Index.{Index}
use Rattle.rows_cell.specs.Rows.{StoredNodes, StoredLocks}
use Rattle.rows_cell.specs.Sound.{is_number, is_shared, are_distinct}

-- the name of the cell, its numbers and those of its clients
abbrev pub numbers_are_sound : List ℕ → Rows → Bool
numbers_are_sound cell rows = bytes_eq rows.cell cell && is_number rows.epoch && is_number rows.next_instance && list_all (λ e. is_number e.0) rows.sessions

-- no two nodes have the same instance
abbrev pub are_apart : StoredNodes → Bool
are_apart nodes = are_distinct (map (λ e. e.1.node.instance) nodes)

-- the generation of the lock of the first node with the instance
abbrev pub lock_generation_in : StoredNodes → ℕ → Option ℕ
lock_generation_in nodes n = lookup (λ m. m == n) (map (λ e. (e.1.node.instance, e.1.lock_generation)) nodes)

-- each node has an instance of its own, by which the generation of its lock is found
pub record HasGenerations (nodes : StoredNodes) (table : List (ℕ × ℕ)) : Type 0 where
  pub apart : are_apart nodes ≡ true
  pub found : (n : ℕ) → lookup (is_at (nat_cmp n)) table ≡ lock_generation_in nodes n

-- what some locks are together, with one more
abbrev pub joined : Option NodeLocks → LockState → NodeLocks
joined None state = record { is_alone = true; are_shared = is_shared state }
joined (Some group) state = record { is_alone = false; are_shared = group.are_shared && is_shared state }

abbrev pub alone_in : Option NodeLocks → Bool
alone_in group = option_map_or (λ g. g.is_alone) group false

abbrev pub shared_in : Option NodeLocks → Bool
shared_in group = option_map_or (λ g. g.are_shared) group true

-- the locks on the node of an instance
abbrev pub locks_at : StoredLocks → ℕ → StoredLocks
locks_at locks n = filter (λ e. e.0.instance == n) locks

-- by an instance it is found whether it has one lock alone, and whether all that it has are shared
pub record HasGroups (locks : StoredLocks) (table : List (ℕ × NodeLocks)) : Type 0 where
  pub alone : (n : ℕ) → alone_in (lookup (is_at (nat_cmp n)) table) ≡ (length (locks_at locks n) == 1)
  pub shared : (n : ℕ) → shared_in (lookup (is_at (nat_cmp n)) table) ≡ list_all (λ e. is_shared e.1.state) (locks_at locks n)

pub record IsIndexed (rows : Rows) (index : Index) : Type 0 where
  pub generations : HasGenerations rows.nodes index.generations
  pub groups : HasGroups rows.locks index.groups
