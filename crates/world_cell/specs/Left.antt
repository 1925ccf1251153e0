-- Which rows a crash may leave of a world: those that stand, and of refused commits rows that the master may still make of them.
use Rattle.std.specs.Prelude.{◌≡◌, ◌⊎◌, ◌<◌, ◌≤◌, ℕ, true, false, List, Option, Some, None}
use Rattle.coherence.specs.Slice.{IsIn, Live, Never, Ended}
use Rattle.node_core.specs.declared.events.Event.{Event}
use Rattle.node_core.specs.Nodes.{view_at}
use Rattle.rows_cell.specs.declared.tables.Rows.{Rows}
use Rattle.rows_cell.specs.Rows.{map_of}
use Rattle.rights_core.specs.Rights.{holds}
use Rattle.gate_core.specs.Laws.{touching}
use Rattle.master_state.specs.State.{MasterState}
use Rattle.master_state.specs.Lookups.{session_of}
use Rattle.world_steps.specs.declared.members.WorldClient.{WorldClient}
use Rattle.world_steps.specs.World.{WorldState, WorldView, member_of, without_master}
use Rattle.world_cell.specs.Slices.{Seen, seen_of, standing_in}
use Rattle.world_cell.specs.Contents.{IsTrue}
use Rattle.world_cell.specs.Consistent.{IsConsistent}

-- the world after a step that a crash cuts after its commit: the commit stands
abbrev pub behind_cut : WorldState → Rows → WorldState
behind_cut w rows = record (without_master w) { rows = rows }

-- ---- beside a master that is up

-- the master may end the session
abbrev pub IsOverAs : ℕ → Seen → Type 0
IsOverAs now seen = (seen.live ≡ true) × (seen.timeout ≤ now)

abbrev pub IsOver : ℕ → MasterState → ℕ → Type 0
IsOver now s c = IsOverAs now (seen_of (session_of s c))

-- the client has asked for the end of its session
abbrev pub IsLeaving : WorldState → ℕ → Type 0
IsLeaving w c = (member : WorldClient) × (member_of w c ≡ Some member) × (member.client.leaving ≡ true)

-- a change of the name waits, and nobody holds a right to it
abbrev pub IsFreeToChange : MasterState → List ℕ → Type 0
IsFreeToChange s x = (0 < touching x s.gate.waiting) × ((c : ℕ) → holds c x s.rights ≡ false)

-- a session may end, a new one may begin, and one that never began may be late
abbrev pub StandsBeside : WorldState → MasterState → Rows → ℕ → Type 0
StandsBeside w s rows c =
    (standing_in rows c ≡ standing_in w.rows c)
    ⊎ (((standing_in rows c ≡ Ended) × (standing_in w.rows c ≡ Live) × (IsOver w.clock s c ⊎ IsLeaving w c))
    ⊎ (((standing_in rows c ≡ Live) × (standing_in w.rows c ≡ Never)) ⊎ ((standing_in rows c ≡ Ended) × (standing_in w.rows c ≡ Never))))

-- where the rows differ from those that stand, the master may still make the difference
pub record GoesBeside (w : WorldState) (s : MasterState) (rows : Rows) : Type 0 where
  pub shows : (x : List ℕ) → (view_at (map_of rows) x ≡ view_at (map_of w.rows) x) ⊎ IsFreeToChange s x
  pub stands : (c : ℕ) → StandsBeside w s rows c

-- what the rows keep of those that stood
pub record Follows (old rows : Rows) : Type 0 where
  pub epoch : rows.epoch ≡ old.epoch
  pub secret : rows.secret ≡ old.secret
  pub stands : (event : Event) → IsTrue old event → IsTrue rows event

-- ---- each of the rows

-- of rows that a crash may leave: beside a master that is up what it may still do, and else that the world after the crash is consistent
abbrev pub MayLeaveBy : WorldState → Option MasterState → Rows → Type 0
MayLeaveBy w None rows = IsConsistent (behind_cut w rows)
MayLeaveBy w (Some s) rows = GoesBeside w s rows × Follows w.rows rows

abbrev pub MayBeLeft : WorldState → Rows → Type 0
MayBeLeft w rows = MayLeaveBy w w.master rows

abbrev pub EachIsLeft : WorldView → Type 0
EachIsLeft w = (rows : Rows) → IsIn rows w.may_leave → MayBeLeft w.world rows
