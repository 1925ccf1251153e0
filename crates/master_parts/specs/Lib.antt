pub use Rattle.collections.specs.Results
pub use Rattle.node_core.specs.Nodes
pub use Rattle.rows_cell.specs.LockRows
pub use Rattle.session_core.specs.Session
pub use Rattle.session_core.specs.Sessions
pub use Rattle.lease_core.specs.Lease
pub use Rattle.lock_core.specs.Locks as LockTables
pub use Rattle.tags_cell.specs.Handles as HandleBytes
pub use Rattle.collections.specs.Tables
pub mod Handles
pub mod Keys
pub mod Claims
pub mod OpenHandles
pub mod Listeners
pub mod EphemeralNames
pub mod NameIndex
pub mod Notes
pub mod Answered
pub mod Calls
pub mod Events
pub mod Locks
pub mod StoredSessions
pub mod State
pub mod Ephemerals
pub mod Candidates
pub mod Tasks
