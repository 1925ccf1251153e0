-- Which rows a crash may leave beside a master that is up, and why the world after it is consistent.
use Rattle.std.proofs.Common.{◌≡◌, ◌≢◌, ℕ, ◌+◌, ◌<◌, ◌≤◌, max, Bool, true, false, List, [], ◌∷◌, ◌++◌, Option, Some, None, inl, inr, arith, refl, sym, ap, ◌∙◌, subst}
use Rattle.std.specs.Prelude.{◌⊎◌, ◌==◌, nat_lt}
use Rattle.std.specs.Option.{option_map}
use Rattle.std.specs.Map.{lookup}
use Rattle.std.specs.BTreeMap.{is_at, insert_entry}
use Rattle.std.specs.Ordering.{nat_cmp}
use Rattle.std.specs.Cmp.{nat_cmp_total}
use Rattle.coherence.specs.Slice.{Slice, Reached, Live, Never}
use Rattle.node_core.specs.declared.views.Mod.TheVariants.{Gone}
use Rattle.node_core.specs.Nodes.{view_at}
use Rattle.rows_cell.specs.declared.tables.SessionRow as of_rows
use Rattle.rows_cell.specs.declared.tables.Rows.{Rows}
use Rattle.rows_cell.specs.declared.tables.Edit.TheVariants.{NextInstance, PutSession}
use Rattle.rows_cell.specs.Rows.{changed_rows, map_of}
use Rattle.rows_cell.specs.LockRows.{LockChange, locks_edits}
use Rattle.rows_cell.proofs.EntriesInOrder.{sorted_put}
use Rattle.collections.proofs.OneKey.{lookup_removed, lookup_removed_apart}
use Rattle.tags_cell.specs.declared.messages.calls.Call.{Call}
use Rattle.tags_cell.specs.declared.messages.outs.Reply.{Reply}
use Rattle.tags_cell.specs.Messages.{is_leave}
use Rattle.rights_core.specs.Rights.{holds}
use Rattle.session_core.specs.declared.records.Session.{Session}
use Rattle.session_core.proofs.OneClient.{lookup_put, lookup_put_apart}
use Rattle.gate_core.specs.declared.pending.Waiting.{Waiting}
use Rattle.gate_core.specs.Gate.{touches}
use Rattle.gate_core.specs.Laws.{touching}
use Rattle.master_parts.specs.declared.pending.Task.{Task}
use Rattle.master_parts.specs.declared.pending.Task.TheVariants as tasks
use Rattle.master_parts.specs.declared.pending.Work.TheVariants as works
use Rattle.master_parts.specs.declared.pending.WaitingRequest.{WaitingRequest}
use Rattle.master_parts.specs.StoredSessions.{row_of}
use Rattle.master_state.specs.declared.updates.Change.{Change}
use Rattle.master_state.specs.Lapses.{lapses_of, lapses_puts}
use Rattle.master_state.specs.Lookups.{session_of, IsUnused, retiring}
use Rattle.master_state.specs.Replies.{puts_of}
use Rattle.master_state.specs.State.{MasterState}
use Rattle.master_state.specs.Updates.{edit_of, lock_changes, retire_edits}
use Rattle.cell_core.specs.Outcomes.{left_put}
use Rattle.lock_core.specs.Turns.{reopened}
use Rattle.lock_core.specs.Locks.{lock_at}
use Rattle.lock_core.specs.declared.partings.Parting.TheVariants as partings
use Rattle.over_core.specs.SweepCase.{IsNextApplied, SweepCase, gone_change, swept_edits}
use Rattle.over_core.specs.SweepCase.SweepCase.{Expires, Reopens, Tidied, Started, Applied, Deleted, Locked, Awaited, Left, Departed}
use Rattle.over_core.proofs.Retired.{IsGone, by_retiring, other_begins, not_below, at_least, above_least}
use Rattle.world_steps.specs.declared.members.WorldClient.{WorldClient}
use Rattle.world_steps.specs.World.{WorldState, member_of}
use Rattle.world_cell.specs.Consistent.{IsConsistent}
use Rattle.world_cell.specs.Contents.{IsTrue}
use Rattle.world_cell.specs.Left.{behind_cut, IsOverAs, IsOver, IsLeaving, StandsBeside, GoesBeside, Follows}
use Rattle.world_cell.specs.Slices.{Shown, slice, standing_so, standing_late, standing_of, is_late, standing_in, Seen, seen_of, grants_of, client_of}
use Rattle.world_cell.proofs.ConsistentSteps.{once_served, cut_holds}
use Rattle.world_cell.proofs.CrashSlices.{MayShow, MayStand, fallen, fallen_reached}
use Rattle.world_cell.proofs.RelockedRows.{HasRow, let_go, relocked_rows}
use Rattle.world_cell.proofs.RepliesSent.{AllAnswer}
use Rattle.world_cell.proofs.Slices.{IsKnown, by_test, is_same, is_other, standing_kept}
use Rattle.world_cell.proofs.SliceSweeps.{standing_by, one_goes, is_below, below_next, HasRows, pending_by, touched_is, untouched, mapped_rows_of, changed_rows_of}
use Rattle.world_cell.proofs.SweptNames.{free_of_holders}
use Rattle.world_cell.proofs.TellsOn.{each_stays}

-- ---- which rows

pub same_beside : (w : WorldState) (s : MasterState) → GoesBeside w s w.rows
same_beside w s = record { shows = λ x. inl refl; stands = λ c. inl refl }

pub same_follows : (rows : Rows) → Follows rows rows
same_follows rows = record { epoch = refl; secret = refl; stands = λ event true. true }

-- ---- a crash that leaves them

module _ (w : WorldState) (s : MasterState) (rows : Rows) (h : IsConsistent w) (up : w.master ≡ Some s) (g : GoesBeside w s rows) (f : Follows w.rows rows) where
  abbrev with_up : WorldState
  with_up = record w { master = Some s }

  shows_here : (c : ℕ) (x : List ℕ) → MayShow (slice c x with_up) (view_at (map_of rows) x)
  shows_here c x = elim (g.shows x) [
    | inl same ↦ inl same
    | inr free ↦ inr (free.0, free.1 c)
  ]

  off_here : (c : ℕ) (x : List ℕ) → IsLeaving w c → (client_of x (member_of w c)).off ≡ true
  off_here c x leaving = ap (λ (o : Option WorldClient). (client_of x o).off) leaving.1 ∙ leaving.2

  stands_here : (c : ℕ) (x : List ℕ) → StandsBeside w s rows c → MayStand (slice c x with_up) (standing_in rows c)
  stands_here c x (inl same) = inl same
  stands_here c x (inr (inl e)) = inr (inl (
    e.0,
    e.1,
    (elim e.2 [
      | inl over ↦ inl over.1
      | inr leaving ↦ inr (off_here c x leaving)
    ]),
  ))
  stands_here c x (inr (inr b)) = inr (inr b)

  reached_here : (c : ℕ) (x : List ℕ) → Reached (slice c x (behind_cut w rows))
  reached_here c x =
      let here : Slice Shown = slice c x with_up in
      let P : ℕ → List ℕ → Type 0 = λ epoch secret. Reached (record (fallen here (view_at (map_of rows) x) (standing_in rows c)) { epoch = epoch; grants = grants_of c x secret w.messages }) in
      let before : Reached here = subst (λ (m : Option MasterState). Reached (slice c x (record w { master = m }))) up (h.reached c x) in
      let base : P w.rows.epoch w.rows.secret = fallen_reached here (view_at (map_of rows) x) (standing_in rows c) refl (shows_here c x) (stands_here c x (g.stands c)) before in
      subst (λ epoch. P epoch rows.secret) (sym f.epoch) (subst (λ secret. P w.rows.epoch secret) (sym f.secret) base)

  pub crash_holds : IsConsistent (behind_cut w rows)
  crash_holds =
      let epoch = f.epoch in
      once_served (behind_cut w rows) (cut_holds w h rows (omega (arith, epoch))) tt (record {
        holds = h.holds;
        answers = subst (AllAnswer w.messages) (sym f.secret) h.answers;
        reached = reached_here;
        tells = record { sent = λ at alive is. each_stays (IsTrue w.rows) (IsTrue rows) f.stands alive.events (h.tells.sent at alive is); queued = tt };
      })

-- ---- the rows of a sweep

positive : (n k : ℕ) → n ≡ k + 1 → 0 < n
positive n k h = omega (arith, h)

module _ (w : WorldState) (s : MasterState) (knows : IsKnown w s) (leaves : (front back : List (Waiting Task)) (asked : WaitingRequest) (call : Call) (sequencer : Option (List ℕ)) → IsNextApplied s front (tasks.Asked asked) back → asked.work ≡ works.Calls call sequencer → is_leave call ≡ true → IsLeaving w asked.client) where
  -- a session that ends
  live_there : (c : ℕ) (session : Session Reply) → session_of s c ≡ Some session → session.live ≡ true → standing_in w.rows c ≡ Live
  live_there c session found live = standing_kept c [] w s knows.sessions ∙ ap (λ (o : Option (Session Reply)). standing_of (is_late w.rows c) (option_map row_of o)) found ∙ ap standing_so live

  parted_beside : (rows : Rows) (client : ℕ) (principal : List ℕ) (session : Session Reply) → HasRow w.rows rows client (record { principal = principal; live = false }) → session_of s client ≡ Some session → session.live ≡ true → IsOver w.clock s client ⊎ IsLeaving w client → GoesBeside w s rows
  parted_beside rows client principal session r found live why =
      let row : of_rows.SessionRow = record { principal = principal; live = false } in
      record {
        shows = λ x. inl (ap (λ m. view_at m x) r.beside.map);
        stands = λ c. by_test (c == client)
            (λ own. subst (λ (z : ℕ). StandsBeside w s rows z) (sym (is_same c client own))
            (inr (inl (standing_by client w.rows rows (insert_entry nat_cmp w.rows.sessions client row) r.beside.ended_below r.sessions ∙ ap (standing_of (is_late w.rows client)) (lookup_put client w.rows.sessions row), live_there client session found live, why))))
            (λ other. inl (standing_by c w.rows rows (insert_entry nat_cmp w.rows.sessions client row) r.beside.ended_below r.sessions ∙ ap (standing_of (is_late w.rows c)) (lookup_put_apart client c (is_other c client other) w.rows.sessions row)));
      }

  over_now : (client : ℕ) (session : Session Reply) → session_of s client ≡ Some session → session.live ≡ true → session.timeout ≤ s.clock → IsOver w.clock s client
  over_now client session found live over =
      let seen : seen_of (session_of s client) ≡ seen_of (Some session) = ap seen_of found in
      subst (λ (z : Seen). IsOverAs w.clock z) (sym seen) (live, subst (λ (now : ℕ). session.timeout ≤ now) knows.clock over)

  -- one that begins, and one that goes
  module _ (client : ℕ) (principal : List ℕ) (none : IsUnused s client) where
    abbrev live_row : of_rows.SessionRow
    live_row = record { principal = principal; live = true }

    abbrev begun_rows : Option ℕ → Rows
    begun_rows gone = changed_rows w.rows (PutSession client live_row ∷ retire_edits s.ended_below gone)

    -- its row
    new_row : (gone : Option ℕ) → ((q : ℕ) → gone ≡ Some q → client ≢ q) → lookup (is_at (nat_cmp client)) (begun_rows gone).sessions ≡ Some live_row
    new_row None apart = lookup_put client w.rows.sessions live_row
    new_row (Some q) apart = lookup_removed_apart q client (apart q refl) (insert_entry nat_cmp w.rows.sessions client live_row) ∙ lookup_put client w.rows.sessions live_row

    -- the row of another one
    old_row : (c : ℕ) → (c == client) ≡ false → (gone : Option ℕ) → ((q : ℕ) → gone ≡ Some q → c ≢ q) → lookup (is_at (nat_cmp c)) (begun_rows gone).sessions ≡ lookup (is_at (nat_cmp c)) w.rows.sessions
    old_row c other None apart = lookup_put_apart client c (is_other c client other) w.rows.sessions live_row
    old_row c other (Some q) apart =
        lookup_removed_apart q c (apart q refl) (insert_entry nat_cmp w.rows.sessions client live_row) ∙ lookup_put_apart client c (is_other c client other) w.rows.sessions live_row

    begins_there : (gone : Option ℕ) → ((q : ℕ) → gone ≡ Some q → client ≢ q) → StandsBeside w s (begun_rows gone) client
    begins_there gone apart =
        let never : standing_late (is_late w.rows client) ≡ Never = ap (λ n. standing_late (nat_lt client n)) (sym knows.ended_below) ∙ ap standing_late none.1 in
        inr (inr (inl (
          ap (standing_of (is_late (begun_rows gone) client)) (new_row gone apart),
          standing_kept client [] w s knows.sessions ∙ ap (λ (o : Option (Session Reply)). standing_of (is_late w.rows client) (option_map row_of o)) none.0 ∙ never,
        )))

    -- a client without a row is late from now on, if it wasn't
    late_there : (c : ℕ) (rows : Rows) → lookup (is_at (nat_cmp c)) rows.sessions ≡ lookup (is_at (nat_cmp c)) w.rows.sessions → (late soon : Bool) → is_late rows c ≡ late → is_late w.rows c ≡ soon → (late ≡ false → soon ≡ false) → (found : Option of_rows.SessionRow) → lookup (is_at (nat_cmp c)) w.rows.sessions ≡ found → StandsBeside w s rows c
    late_there c rows same late soon is was sooner (Some row) found =
        inl (ap (standing_of (is_late rows c)) (same ∙ found) ∙ sym (ap (standing_of (is_late w.rows c)) found))
    late_there c rows same true false is was sooner None found =
        inr (inr (inr (ap (standing_of (is_late rows c)) (same ∙ found) ∙ ap standing_late is, ap (standing_of (is_late w.rows c)) found ∙ ap standing_late was)))
    late_there c rows same true true is was sooner None found =
        inl (ap (standing_of (is_late rows c)) (same ∙ found) ∙ ap standing_late (is ∙ sym was) ∙ sym (ap (standing_of (is_late w.rows c)) found))
    late_there c rows same false soon is was sooner None found =
        inl (ap (standing_of (is_late rows c)) (same ∙ found) ∙ ap standing_late (is ∙ sym (was ∙ sooner refl)) ∙ sym (ap (standing_of (is_late w.rows c)) found))

    others_there : (c : ℕ) → (c == client) ≡ false → (q : ℕ) → IsGone s q → StandsBeside w s (begun_rows (Some q)) c
    others_there c other q gone = by_test (c == q)
        (λ own. subst (λ (z : ℕ). StandsBeside w s (begun_rows (Some q)) z) (sym (is_same c q own)) (gone_there q gone))
        (λ apart.
        late_there c (begun_rows (Some q)) (old_row c other (Some q) (λ z is. subst (λ (n : ℕ). c ≢ n) (one_goes q z is) (is_other c q apart)))
        (is_late (begun_rows (Some q)) c) (is_late w.rows c) refl refl
        (λ early. ap (λ n. nat_lt c n) (sym knows.ended_below) ∙ at_least c s.ended_below (above_least c s.ended_below q (not_below c (max s.ended_below (q + 1)) early)))
        (lookup (is_at (nat_cmp c)) w.rows.sessions) refl)
      where
        gone_there : (q : ℕ) → IsGone s q → StandsBeside w s (begun_rows (Some q)) q
        gone_there q gone =
            let entries = insert_entry nat_cmp w.rows.sessions client live_row in
            inl (
            ap (standing_of (is_late (begun_rows (Some q)) q)) (lookup_removed q entries (sorted_put nat_cmp nat_cmp_total w.rows.sessions client live_row knows.rows_ordered)) ∙ ap standing_late (is_below q (max s.ended_below (q + 1)) (below_next s.ended_below q))
            ∙ sym (standing_kept q [] w s knows.sessions ∙ ap (λ (o : Option (Session Reply)). standing_of (is_late w.rows q) (option_map row_of o)) gone.found ∙ ap standing_so gone.ended)
            )

    begun_beside : GoesBeside w s (begun_rows (retiring s))
    begun_beside = by_retiring s (λ gone. GoesBeside w s (begun_rows gone))
        (record {
          shows = λ x. inl refl;
          stands = λ c. by_test (c == client)
              (λ own. subst (λ (z : ℕ). StandsBeside w s (begun_rows None) z) (sym (is_same c client own)) (begins_there None (λ q is. absurd (cc))))
              (λ other. inl (ap (standing_of (is_late w.rows c)) (old_row c other None (λ q is. absurd (cc)))));
        })
        (λ q gone. record {
          shows = λ x. inl refl;
          stands = λ c. by_test (c == client)
              (λ own. subst (λ (z : ℕ). StandsBeside w s (begun_rows (Some q)) z) (sym (is_same c client own)) (begins_there (Some q) (λ z is same. other_begins s q client gone none.0 (one_goes q z is ∙ sym same))))
              (λ other. others_there c other q gone);
        })

  -- locks alone
  relocked_beside : (changes : List LockChange) → GoesBeside w s (changed_rows w.rows (locks_edits changes))
  relocked_beside changes =
      let r = relocked_rows w.rows changes in
      record {
        shows = λ x. inl (ap (λ m. view_at m x) r.beside.map);
        stands = λ c. inl (standing_by c w.rows (changed_rows w.rows (locks_edits changes)) w.rows.sessions r.beside.ended_below r.sessions);
      }

  -- a change of the map
  module _ (front back : List (Waiting Task)) (task : Task) (turn : IsNextApplied s front task back) where
    abbrev in_turn : Waiting Task
    in_turn = record { number = turn.number; change = record { touched = turn.touched; body = task } }

    mapped_beside : (rows : Rows) → ((x : List ℕ) → HasRows x w s knows front back task turn 0 rows) → ((c : ℕ) → standing_in rows c ≡ standing_in w.rows c) → GoesBeside w s rows
    mapped_beside rows has same = record {
      shows = λ x. by_test (touches x in_turn)
          (λ touched. inr (positive (touching x s.gate.waiting) (touching x (front ++ back)) (pending_by x w s knows front back task turn true touched), λ c. free_of_holders s.rights in_turn c x turn.free touched))
          (λ apart. inl ((has x).present apart));
      stands = λ c. inl (same c);
    }

  pub go_beside : (case : SweepCase s) → GoesBeside w s (changed_rows w.rows (swept_edits s case))
  go_beside (Expires client session due) =
      let row : of_rows.SessionRow = record { principal = session.principal; live = false } in
      let changes : List LockChange = lock_changes s (lapses_puts s (lapses_of partings.Expiry s client)) in
      parted_beside (changed_rows w.rows (locks_edits changes ++ PutSession client row ∷ [])) client session.principal session (let_go w.rows changes client row) due.found due.live (inl (over_now client session due.found due.live due.over))
  go_beside (Departed front back asked call sequencer session turn work leave found live) =
      let row : of_rows.SessionRow = record { principal = session.principal; live = false } in
      let changes : List LockChange = lock_changes s (lapses_puts s (lapses_of partings.Leave s asked.client)) in
      parted_beside (changed_rows w.rows (locks_edits changes ++ PutSession asked.client row ∷ [])) asked.client session.principal session (let_go w.rows changes asked.client row) found live (inr (leaves front back asked call sequencer turn work leave))
  go_beside (Started front back asked principal received turn work none) = begun_beside asked.client principal none
  go_beside (Reopens instance due) = relocked_beside (lock_changes s (puts_of s instance (reopened (lock_at s.locks instance)).lock))
  go_beside (Applied front back asked call sequencer _ change answer turn work stays live made) =
      let rows : Rows = changed_rows w.rows (edit_of change.change ∷ NextInstance change.next_instance ∷ []) in
      mapped_beside front back (tasks.Asked asked) turn rows (λ x. changed_rows_of x w s knows front back asked turn 0 call sequencer change work (ap (λ e. e.change) made))
      (λ c. (changed_rows_of [] w s knows front back asked turn c call sequencer change work (ap (λ e. e.change) made)).session)
  go_beside (Deleted front back asked call sequencer change instance waiters answer turn work stays live made) =
      let rows : Rows = changed_rows w.rows (edit_of change.change ∷ NextInstance change.next_instance ∷ []) in
      mapped_beside front back (tasks.Asked asked) turn rows (λ x. changed_rows_of x w s knows front back asked turn 0 call sequencer change work (ap (λ e. e.change) made))
      (λ c. (changed_rows_of [] w s knows front back asked turn c call sequencer change work (ap (λ e. e.change) made)).session)
  go_beside (Tidied front back idle turn still) =
      let change : Change = gone_change s idle in
      let rows : Rows = changed_rows w.rows (edit_of change.change ∷ NextInstance change.next_instance ∷ []) in
      let task : Task = tasks.Tidies idle in
      mapped_beside front back task turn rows (λ x. mapped_rows_of x w s knows front back task turn 0 change (untouched x w s knows front back task turn (Gone idle.name) (touched_is x w s knows front back task turn)))
      (λ c. (mapped_rows_of [] w s knows front back task turn c change (untouched [] w s knows front back task turn (Gone idle.name) (touched_is [] w s knows front back task turn))).session)
  go_beside (Locked front back asked call sequencer put claim answer turn work stays live made) = relocked_beside (lock_changes s (put ∷ []))
  go_beside (Awaited front back asked call sequencer put turn work stays live made) = relocked_beside (lock_changes s (put ∷ []))
  go_beside (Left front back asked call sequencer _ leave answer turn work stays live made) = relocked_beside (lock_changes s (left_put leave ∷ []))
  go_beside _ = same_beside w s
