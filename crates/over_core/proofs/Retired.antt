-- A session that has ended goes, and leaves the master beside its rows.
use Rattle.std.proofs.Common.{◌≡◌, ◌≢◌, ℕ, ◌+◌, ◌<◌, ◌≤◌, List, [], Bool, true, false, cond, Option, Some, None, refl, sym, ap, subst, ◌∙◌, arith}
use Rattle.std.specs.Prelude.{◌&&◌, not, nat_lt, max}
use Rattle.std.specs.Option.{option_map_or}
use Rattle.std.specs.List.{sum_by}
use Rattle.std.specs.List.Sorted.{IsStrictlySortedBy}
use Rattle.std.specs.Map.{keys_of, values_of, lookup, remove_entry}
use Rattle.std.specs.BTreeMap.{is_at}
use Rattle.std.specs.Ordering.{nat_cmp}
use Rattle.std.proofs.lemmas.Bool.{and_parts, not-true}
use Rattle.std.proofs.lemmas.Bool.Decides.{nat_tests}
use Rattle.collections.proofs.OneKey.{lookup_removed_apart}
use Rattle.rows_cell.specs.declared.tables.SessionRow as stored
use Rattle.rows_cell.specs.declared.tables.Rows.{Rows}
use Rattle.rows_cell.specs.Rows.{changed_rows}
use Rattle.rows_cell.specs.Sound.{is_live_in}
use Rattle.rows_cell.proofs.EntriesInOrder.{sorted_gone}
use Rattle.rows_cell.proofs.SoundForgets.{forgets_sound}
use Rattle.tags_cell.specs.Numbers.{is_client_number}
use Rattle.tags_cell.specs.declared.messages.outs.Reply.{Reply}
use Rattle.session_core.specs.declared.records.Session.{Session}
use Rattle.session_core.specs.Sessions.{session_of, with_new, without, is_live}
use Rattle.session_core.proofs.OneClient.{lookup_put_apart}
use Rattle.session_core.proofs.RowsOfSessions.{rows_of-remove_entry, lookup-rows_of}
use Rattle.master_parts.specs.StoredSessions.{row_of}
use Rattle.master_state.specs.State.{MasterState}
use Rattle.master_state.specs.Departed.{first_due}
use Rattle.master_state.specs.Lookups.{has_ended, may_go, going, retiring}
use Rattle.master_state.specs.CallsWaiting.{is_call, has_call}
use Rattle.master_state.specs.Updates.{retired, retire_edits}
use Rattle.over_core.specs.Kept.{IsKept, AreLocksKept, AreOwned, work_count, waits_count}
use Rattle.over_core.proofs.EachSession.{gone_each}
use Rattle.over_core.proofs.KeptByTakes.{IsByBeats, IsIssued}
use Rattle.over_core.proofs.LocksKept.{locks_stay}
use Rattle.over_core.proofs.LocksSwept.{dead_waits}
use Rattle.over_core.proofs.NamedLocks.{own_locks}
use Rattle.over_core.proofs.OneCall.{one_retired}
use Rattle.over_core.proofs.SessionReads.{lives_in, reads_gone}

-- ---- whose session goes

pub record IsGone (s : MasterState) (client : ℕ) : Type 0 where
  pub session : Session Reply
  pub found : session_of s.sessions client ≡ Some session
  pub ended : session.live ≡ false
  pub number : is_client_number client ≡ true
  pub quiet : has_call client s.gate.waiting ≡ false

ended_session : (o : Option (Session Reply)) → option_map_or (λ (session : Session Reply). not session.live) o false ≡ true → (session : Session Reply) × (o ≡ Some session) × (session.live ≡ false)
ended_session None h = absurd (cc)
ended_session (Some session) h = (session, refl, not-true session.live h)

gone_of : (s : MasterState) (client : ℕ) → may_go s client ≡ true → IsGone s client
gone_of s client h =
    let t = and_parts (is_client_number client && has_ended s client) (not (has_call client s.gate.waiting)) h in
    let u = and_parts (is_client_number client) (has_ended s client) t.0 in
    let v = ended_session (session_of s.sessions client) u.1 in
    record { session = v.0; found = v.1; ended = v.2; number = u.0; quiet = not-true (has_call client s.gate.waiting) t.1 }

pub is_gone : (s : MasterState) (o : Option ℕ) (client : ℕ) → going s o ≡ Some client → IsGone s client
is_gone s None client h = absurd (cc)
is_gone s (Some first) client h =
    (elim (may_go s first) as (λ b. may_go s first ≡ b → cond b (Some first) None ≡ Some client → IsGone s client) [
      | true ↦ (λ may is. let same : first ≡ client = cc in subst (IsGone s) same (gone_of s first may))
      | false ↦ (λ may is. absurd (cc))
    ]) refl h

-- what holds where nobody goes, and whoever goes, holds
pub by_retiring : (s : MasterState) (P : Option ℕ → Type 0) → P None → ((client : ℕ) → IsGone s client → P (Some client)) → P (retiring s)
by_retiring s P none some = on (retiring s) refl
  where
    on : (o : Option ℕ) → retiring s ≡ o → P o
    on None is = none
    on (Some client) is = some client (is_gone s (first_due s.departed) client is)

-- it isn't the one whose session begins
pub other_begins : (s : MasterState) (client begins : ℕ) → IsGone s client → session_of s.sessions begins ≡ None → client ≢ begins
other_begins s client begins gone none same =
    let absent : session_of s.sessions client ≡ None = ap (λ q. session_of s.sessions q) same ∙ none in
    let stands = gone.found in
    absurd (cc)

pub still_there : (s : MasterState) (client begins : ℕ) (new : Session Reply) (gone : IsGone s client) → session_of s.sessions begins ≡ None → session_of (with_new s.sessions begins new) client ≡ Some gone.session
still_there s client begins new gone none = lookup_put_apart begins client (other_begins s client begins gone none) s.sessions.sessions new ∙ gone.found

-- ---- what is kept

both_none : (a b : ℕ) → a ≡ 0 → b ≡ 0 → a + b ≡ 0
both_none a b h k = omega (arith, h, k)

pub not_below : (a b : ℕ) → nat_lt a b ≡ false → b ≤ a
not_below a b h = grind (arith, nat_tests)

pub at_least : (a b : ℕ) → b ≤ a → nat_lt a b ≡ false
at_least a b h = grind (arith, nat_tests)

above : (q least client : ℕ) → max least (client + 1) ≤ q → client < q
above q least client h = omega (arith, h)

pub above_least : (q least client : ℕ) → max least (client + 1) ≤ q → least ≤ q
above_least q least client h = omega (arith, h)

differs : (q client : ℕ) → client < q → q ≢ client
differs q client h same = absurd (omega (arith, h, same))

module _ (cell : List ℕ) (rows : Rows) (s : MasterState) (client : ℕ) (session : Session Reply) (found : session_of s.sessions client ≡ Some session) (ended : session.live ≡ false) (order : IsStrictlySortedBy nat_cmp (keys_of s.sessions.sessions)) (k : IsKept cell rows s) where
  abbrev left : MasterState
  left = retired s (Some client)

  dead : is_live s.sessions client ≡ false
  dead = ap lives_in found ∙ ended

  -- the rows know that it has ended
  pub dead_row : is_live_in rows client ≡ false
  dead_row =
      let at : ℕ → Bool = is_at (nat_cmp client) in
      ap (λ (es : List (ℕ × stored.SessionRow)). option_map_or (λ (x : stored.SessionRow). x.live) (lookup at es) false) (sym k.sessions)
      ∙ ap (λ o. option_map_or (λ (x : stored.SessionRow). x.live) o false) (lookup-rows_of row_of at s.sessions.sessions session found)
      ∙ ended

  lives : (q : ℕ) → is_live s.sessions q ≡ true → is_live (without s.sessions client) q ≡ true
  lives q live = reads_gone lives_in s.sessions client session order found ended q ∙ live

  -- who may still begin a session was granted nothing
  owned_left : AreOwned (without s.sessions client) (max s.ended_below (client + 1)) s.rights
  owned_left q none new =
      let least : max s.ended_below (client + 1) ≤ q = not_below q (max s.ended_below (client + 1)) new in
      let other : q ≢ client = differs q client (above q s.ended_below client least) in
      k.owned q (sym (lookup_removed_apart client q other s.sessions.sessions) ∙ none) (at_least q s.ended_below (above_least q s.ended_below client least))

  pub retired_kept : sum_by (work_count is_call client) s.gate.waiting ≡ 0 → IsKept cell (changed_rows rows (retire_edits s.ended_below (Some client))) left
  retired_kept quiet =
      let locks : AreLocksKept rows left = locks_stay rows s left refl refl lives k.locks in
      record {
        name = k.name;
        secret = k.secret;
        epoch = k.epoch;
        next_instance = k.next_instance;
        ended_below = refl;
        nodes = k.nodes;
        sessions = rows_of-remove_entry row_of (is_at (nat_cmp client)) s.sessions.sessions ∙ ap (λ (es : List (ℕ × stored.SessionRow)). remove_entry (is_at (nat_cmp client)) es) k.sessions;
        sound_rows = forgets_sound cell rows client (max s.ended_below (client + 1)) k.sound_rows dead_row;
        waiting = k.waiting;
        locks = record { generations = locks.generations; rows_of_locks = locks.rows_of_locks; in_order = locks.in_order; each = locks.each };
        one_call = one_retired s.gate.waiting s.locks s.sessions client
            (both_none (sum_by (work_count is_call client) s.gate.waiting) (sum_by (waits_count client) (values_of s.locks)) quiet
            (dead_waits s.sessions client dead s.locks (own_locks s.locks k.locks.in_order) (λ n. (k.locks.each n).waiters))) k.one_call;
        names_in_order = k.names_in_order;
        sessions_in_order = sorted_gone nat_cmp (is_at (nat_cmp client)) rows.sessions k.sessions_in_order;
        locks_in_order = k.locks_in_order;
        recovery_is_empty = k.recovery_is_empty;
        by_beats = gone_each IsByBeats s.sessions client order k.by_beats;
        recorded = k.recorded;
        issued = gone_each (IsIssued s.rights) s.sessions client order k.issued;
        owned = owned_left;
        orderly = k.orderly;
        touching = k.touching;
        own = k.own;
      }
