pub use Rattle.lock_core.specs.Locks as LockTables
pub use Rattle.master_state.specs.State
pub use Rattle.master_state.specs.Lookups
pub use Rattle.cell_core.specs.Ephemerals
pub use Rattle.master_state.specs.Updates
pub use Rattle.master_state.specs.Replies
pub use Rattle.master_state.specs.Lapses
pub use Rattle.cell_core.specs.Effect
pub use Rattle.cell_core.specs.Room
pub use Rattle.cell_core.specs.Outcomes
pub use Rattle.cell_core.specs.ChangeNotices as Notices
pub use Rattle.collections.specs.Results
pub use Rattle.names_cell.specs.Text
pub use Rattle.node_core.specs.Nodes
pub use Rattle.node_core.specs.Room as NodeRoom
pub use Rattle.rows_cell.specs.Rows
pub use Rattle.rows_cell.specs.Sound
pub use Rattle.rows_cell.specs.Stores
pub use Rattle.rows_cell.specs.LockRows
pub use Rattle.rows_cell.specs.Indexes
pub use Rattle.rights_core.specs.Rights
pub use Rattle.rights_core.specs.Grants
pub use Rattle.lock_core.specs.State as LockStates
pub use Rattle.lock_core.specs.Turns
pub use Rattle.lock_core.specs.Counted
pub use Rattle.master_parts.specs.Locks
pub use Rattle.cell_core.specs.Step
pub use Rattle.cell_core.specs.Cases
pub mod Plans
pub mod Kept
pub mod Sweep
pub mod SweepCase
pub mod Up
pub mod Deadlines
pub mod Within
