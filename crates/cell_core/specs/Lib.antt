pub use Rattle.collections.specs.Results
pub use Rattle.names_cell.specs.Text
pub use Rattle.node_core.specs.Nodes
pub use Rattle.node_core.specs.Room as NodeRoom
pub use Rattle.rights_core.specs.Rights
pub use Rattle.gate_core.specs.Gate
pub use Rattle.lease_core.specs.Lease
pub use Rattle.session_core.specs.Session
pub use Rattle.session_core.specs.Sessions
pub use Rattle.master_parts.specs.Keys
pub use Rattle.master_parts.specs.EphemeralNames
pub use Rattle.master_parts.specs.Notes
pub use Rattle.master_parts.specs.Answered
pub use Rattle.master_state.specs.State
pub use Rattle.master_state.specs.Lookups
pub use Rattle.master_state.specs.CallsWaiting
pub use Rattle.master_parts.specs.Locks
pub use Rattle.master_parts.specs.Calls
pub use Rattle.master_state.specs.Notices
pub use Rattle.master_state.specs.Updates
pub use Rattle.lock_core.specs.State as LockStates
pub use Rattle.lock_core.specs.Turns
pub use Rattle.lock_core.specs.Locks as LockTables
pub use Rattle.lock_core.specs.Counted
pub use Rattle.master_state.specs.Replies
pub mod Step
pub mod Names
pub mod Cases
pub mod Ephemerals
pub mod Effect
pub mod Outcomes
pub mod ChangeNotices
pub mod Room
