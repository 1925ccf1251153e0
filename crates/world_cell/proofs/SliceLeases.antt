-- A client whose lease runs by its own clock has its session: a reached slice has it so, of whichever name.
use Rattle.std.proofs.Common.{◌≡◌, ℕ, ◌<◌, List, [], Bool, true, false, Option, Some, None, refl, sym, subst}
use Rattle.std.specs.Option.{option_map_or}
use Rattle.std.specs.Map.{lookup}
use Rattle.std.specs.BTreeMap.{is_at}
use Rattle.std.specs.Ordering.{nat_cmp}
use Rattle.lease_core.specs.Lease.{IsUnexpired}
use Rattle.coherence.specs.Slice.{Live}
use Rattle.coherence.proofs.Reached.{reached_is_joint}
use Rattle.rows_cell.specs.declared.tables.SessionRow as of_rows
use Rattle.tags_cell.specs.declared.messages.outs.Reply.{Reply}
use Rattle.session_core.specs.declared.records.Session.{Session}
use Rattle.master_state.specs.State.{MasterState}
use Rattle.master_state.specs.Lookups.{session_of}
use Rattle.world_steps.specs.declared.members.WorldClient.{WorldClient}
use Rattle.world_steps.specs.World.{WorldState, member_of}
use Rattle.world_cell.specs.Slices.{slice, standing_so, standing_of, is_late, seen_of, client_of, master_of, lease_shown}
use Rattle.world_cell.specs.Consistent.{IsConsistent}
use Rattle.world_cell.specs.Runs.{LeasesKeepSessions, AreJoint}

is_live : (live : Bool) → standing_so live ≡ Live → live ≡ true
is_live true h = refl
is_live false h = cc

live_row : (late : Bool) (row : Option of_rows.SessionRow) → standing_of late row ≡ Live → option_map_or (λ session. session.live) row false ≡ true
live_row true None h = cc
live_row false None h = cc
live_row late (Some session) h = is_live session.live h

-- where the master is up, it may not end the session yet
in_time : (w : WorldState) (number : ℕ) (name : List ℕ) (master : MasterState) (session : Session Reply) → ((slice number name w).master.up ≡ true → (slice number name w).master.now < (slice number name w).master.timeout) → w.master ≡ Some master → session_of master number ≡ Some session → w.clock < session.timeout
in_time w number name master session before up found =
    let here = subst (λ (m : Option MasterState). (master_of number name w.clock (member_of w number) m).up ≡ true → (master_of number name w.clock (member_of w number) m).now < (master_of number name w.clock (member_of w number) m).timeout) up before in
    subst (λ (o : Option (Session Reply)). w.clock < (seen_of o).timeout) found (here refl)

pub leases_keep_sessions : (w : WorldState) → IsConsistent w → LeasesKeepSessions w
leases_keep_sessions w fits number member found on unexpired =
    let joint = reached_is_joint (slice number [] w) (fits.reached number []) in
    let shown : IsUnexpired (lease_shown member.client.leaving member.client.cache.lease).sent (lease_shown member.client.leaving member.client.cache.lease).span member.clock =
    subst (λ (b : Bool). IsUnexpired (lease_shown b member.client.cache.lease).sent (lease_shown b member.client.cache.lease).span member.clock) (sym on) unexpired in
    let lives = joint.session_outlives_lease (subst (λ (o : Option WorldClient). IsUnexpired (client_of [] o).lease_sent (client_of [] o).lease_span (client_of [] o).now) (sym found) shown) in
    record {
      live = live_row (is_late w.rows number) (lookup (is_at (nat_cmp number)) w.rows.sessions) lives.live;
      in_time = λ master session up there. in_time w number [] master session lives.before_timeout up there;
    }

pub joint_everywhere : (w : WorldState) → IsConsistent w → AreJoint w
joint_everywhere w fits client name = reached_is_joint (slice client name w) (fits.reached client name)
