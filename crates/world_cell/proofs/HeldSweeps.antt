-- What a sweep prints of locks is what it makes of them.
use Rattle.std.proofs.Common.{◌≡◌, ℕ, ◌+◌, ◌-◌, ◌<◌, ◌≤◌, max, List, [], ◌∷◌, ◌++◌, Bool, true, false, cond, Less, Equal, Greater, Option, Some, None, refl, sym, ap, subst, ◌∙◌, inl, inr, arith, map}
use Rattle.std.specs.Prelude.{◌⊎◌, ◌&&◌, ◌||◌, ◌==◌, not, nat_le, filter, find, fold, is_none, is_some, unwrap_or}
use Rattle.std.specs.Option.{option_map, option_map_or}
use Rattle.std.specs.List.{AllByRecursion, list_all, list_any, count_by}
use Rattle.std.specs.List.Sorted.{IsStrictlySortedBy}
use Rattle.std.specs.Map.{keys_of, lookup, remove_entry}
use Rattle.std.specs.BTreeMap.{is_at, insert_entry}
use Rattle.std.specs.Ordering.{nat_cmp, is_eq, match_ordering}
use Rattle.std.specs.Cmp.Lexicographic.{slice_cmp}
use Rattle.std.proofs.lemmas.Bool.{and_parts, or_left, or_right, eqb-true}
use Rattle.std.proofs.lemmas.Bool.Decides.{nat_tests}
use Rattle.node_core.specs.declared.kinds.LockMode.{LockMode}
use Rattle.node_core.specs.declared.kinds.LockMode.TheVariants as modes
use Rattle.node_core.specs.declared.lines.Line.{Line}
use Rattle.node_core.specs.declared.lines.Line.TheVariants as lines
use Rattle.node_core.specs.declared.nodes.Node.{Node}
use Rattle.node_core.specs.declared.views.Mod.{Mod}
use Rattle.node_core.specs.declared.views.Mod.TheVariants.{Put, Gone}
use Rattle.node_core.specs.Nodes.{Nodes, get_node, changed, with_parent}
use Rattle.node_core.specs.Limits.{lock_delay_limit}
use Rattle.rows_cell.specs.declared.keys.LockKey.{LockKey}
use Rattle.rows_cell.specs.declared.tables.LockRow.{LockRow}
use Rattle.rows_cell.specs.declared.tables.LockState as stored
use Rattle.rows_cell.specs.declared.tables.LockState.TheVariants.{Lapsed, Exclusive, Shared}
use Rattle.rows_cell.specs.declared.tables.StoredNode.{StoredNode}
use Rattle.rows_cell.specs.declared.tables.Rows.{Rows}
use Rattle.rows_cell.specs.declared.tables.Edit.TheVariants.{NextInstance, RemoveNode}
use Rattle.rows_cell.specs.Rows.{StoredNodes, StoredLocks, stored_node, changed_rows, map_of, nodes_of, without_locks_of}
use Rattle.rows_cell.specs.Sound.{is_number, is_live_in, are_distinct, node_fits}
use Rattle.rows_cell.specs.Indexes.{lock_generation_in, locks_at}
use Rattle.rows_cell.specs.LockRows.{is_state, client_fits, row_fits, are_together}
use Rattle.rows_cell.proofs.RowNodes.{nodes_gone, nodes_get}
use Rattle.rows_cell.proofs.SoundLocks.{sound_legal}
use Rattle.rows_cell.proofs.SoundParts.{instances, has_instance, five_parts, parts_of}
use Rattle.lock_core.specs.declared.claims.Claim.{Claim}
use Rattle.lock_core.specs.declared.claims.Closing.{Closing}
use Rattle.lock_core.specs.declared.claims.Owner.{Owner}
use Rattle.lock_core.specs.declared.partings.Parting.{Parting}
use Rattle.lock_core.specs.declared.partings.Parting.TheVariants as partings
use Rattle.lock_core.specs.declared.turns.Lapse.{Lapse}
use Rattle.lock_core.specs.declared.turns.Turn.{Turn}
use Rattle.lock_core.specs.State.{LockState, Holders, owner_order, mode_of, nobody_holds, stand_together, hold_of}
use Rattle.lock_core.specs.Turns.{is_nobody, time_left, held_by, settled, without, is_owner, is_of_client, claims_of, closed_for, delay_of, is_abandoned, lapsed, concerns, reopened}
use Rattle.lock_core.specs.Locks.{LockTable, lock_at, with_lock, due, is_due}
use Rattle.master_state.specs.declared.updates.LockPut.{LockPut}
use Rattle.master_parts.specs.Claims.{owner_of}
use Rattle.master_parts.specs.Locks.{stored_mode, holder_key, holder_row, holder_rows, lapsed_key, closing_rows}
use Rattle.master_parts.specs.declared.pending.Task.TheVariants as tasks
use Rattle.master_parts.specs.declared.pending.WaitingRequest.{WaitingRequest}
use Rattle.master_parts.specs.declared.pending.Work.{Work}
use Rattle.master_parts.specs.declared.pending.Work.TheVariants as works
use Rattle.master_parts.specs.NameIndex.{name_of}
use Rattle.master_parts.proofs.FirstEntries.{all_of_found}
use Rattle.gate_core.specs.declared.pending.Waiting.{Waiting}
use Rattle.master_parts.specs.declared.pending.Task.{Task}
use Rattle.tags_cell.specs.declared.messages.calls.Call.{Call}
use Rattle.rights_core.specs.Rights.{numbers_ending}
use Rattle.master_state.specs.NameSpace.{name_space, caller}
use Rattle.master_state.specs.State.{MasterState}
use Rattle.master_state.specs.Updates.{edit_of, with_lock_put}
use Rattle.master_state.specs.Replies.{locked_line, locked_lines, line_if, puts_of}
use Rattle.master_state.specs.Partings.{right_line, lock_line, ending_by}
use Rattle.master_state.specs.Lapses.{lapse_lines, lapses_lines, lapses_puts, lapses_of, parting_lines}
use Rattle.cell_core.specs.declared.effects.Effect.{Effect}
use Rattle.cell_core.specs.Effect.{effect}
use Rattle.cell_core.specs.declared.effects.Leave.{Leave}
use Rattle.cell_core.specs.Outcomes.{put_listing, leave_lines}
use Rattle.cell_core.specs.Step.{queued}
use Rattle.cell_core.proofs.AskedFor.{asks_only}
use Rattle.over_core.specs.Kept.{IsKept, IsOwnCall, is_there, is_idle}
use Rattle.over_core.specs.SweepCase.{SweepCase, IsNextApplied, swept_by, swept_edits, parting_edits}
use Rattle.over_core.specs.SweepCase.SweepCase.{Quiet, Recovers, Expires, Tidies, Spared, Tidied, AnswersBeat, TurnedAway, StartedAgain, Started, Reopens, OfEnded, Ended, Applied, Deleted, Locked, Awaited, Left, Departed}
use Rattle.over_core.proofs.KeptByApplications.{application_own}
use Rattle.over_core.proofs.LockPuts.{at_number, lock_at_put}
use Rattle.over_core.proofs.NamedLocks.{IsNamed, named_put, puts_are, not_idle, own_locks}
use Rattle.world_cell.specs.HeldLocks.{LockSeen, is_mode, is_hold_of, seen_in, with_put, with_gone, with_change, seen_by}
use Rattle.world_cell.specs.Locks.{instance_in}
use Rattle.world_cell.specs.Runs.{live_at}
use Rattle.world_cell.proofs.EffectHolds.{IsTaken, IsAwaited, IsGivenBack, IsCounted, TellsBy, effect_tells}
use Rattle.world_cell.proofs.HeldTurns.{one_where, count_cons, holds_so, claims_so, seen_so, so, same_seen, seen_more, TellsOf, tells_more, tells_nothing, IsGranted, settled_granted, turn_tells, held_tells, left_tells, freed_other, another_line, count_others}
use Rattle.world_cell.proofs.EffectInstances.{named_there}
use Rattle.world_cell.proofs.EffectLocks.{IsGone, Raises, effect_raises}
use Rattle.world_cell.proofs.InstancesKept.{there_by_rows, has_of, has_none, was_given, own_gone, others_stay}
use Rattle.world_cell.proofs.LockLines.{lapses_of_locks}
use Rattle.world_cell.proofs.SessionsByRuns.{swept_tells as lives_by_sweep, parting_lives}
use Rattle.world_cell.proofs.SilentLines.{quiet_silent}

-- ---- a lock that the end of another session changes

module _ (client : ℕ) (mode : LockMode) (parting : Parting) (at : ℕ) (lock : LockState) (whose now : ℕ) (other : (whose == client) ≡ false) where
  abbrev left : LockState
  left = without (is_of_client whose) lock

  abbrev lapse : Lapse
  lapse = lapsed parting at lock whose now

  closed_granted : (b : Bool) (closing : Closing) → IsGranted client mode left (cond b (settled left) (record { lock = record left { closed = Some closing }; granted = []; exhausted = [] }))
  closed_granted true closing = settled_granted client mode left
  closed_granted false closing = record { holds = omega arith; stays = λ nobody. refl }

  abandoned_granted : (b : Bool) → IsGranted client mode left (cond b (closed_for left now (delay_of parting (claims_of whose lock.holders))) (settled left))
  abandoned_granted true = closed_granted (delay_of parting (claims_of whose lock.holders) == 0) (record { from = now; delay = delay_of parting (claims_of whose lock.holders) })
  abandoned_granted false = settled_granted client mode left

  same_holds : count_by (holds_so client mode) left.holders ≡ count_by (holds_so client mode) lock.holders
  same_holds = count_others client mode lock whose other

  own_line : (p : Parting) → TellsOf client mode at lock left (lock_line p whose at ∷ [])
  own_line partings.Expiry = another_line client mode at lock left (lines.Lapsed whose at) (λ instance seen. refl) refl same_holds
  own_line partings.Leave = freed_other client mode whose at lock left other refl same_holds

  ends : (b : Bool) → TellsOf client mode at lock left (line_if b (lock_line parting whose at))
  ends true = own_line parting
  ends false = tells_nothing client mode at lock left refl same_holds

  opens : (b : Bool) → TellsOf client mode at left left (line_if b (lines.Reopened at))
  opens true = another_line client mode at left left (lines.Reopened at) (λ instance seen. refl) refl refl
  opens false = tells_nothing client mode at left left refl refl

  pub lapse_tells : TellsOf client mode at lock (lapsed parting at lock whose now).turn.lock (lapse_lines parting whose (lapsed parting at lock whose now))
  lapse_tells =
      let first : List Line = line_if (not (is_nobody lapse.ended)) (lock_line parting whose at) in
      let second : List Line = line_if lapse.reopens (lines.Reopened at) in
      tells_more client mode at lock left lapse.turn.lock (first ++ second) (locked_lines at lapse.turn)
      (tells_more client mode at lock left left first second (ends (not (is_nobody lapse.ended))) (opens lapse.reopens))
      (turn_tells client mode at left lapse.turn (abandoned_granted (is_abandoned (claims_of whose lock.holders) left)))

-- a handle of the client leaves it, and those that wait get it
pub leaving_tells : (client : ℕ) (mode : LockMode) (at whose : ℕ) (lock : LockState) (owner : Owner) (held : Bool) (turn : Turn) → owner.client ≡ whose → turn ≡ settled (without (is_owner owner) lock) → held ≡ is_some (hold_of lock owner)
    → stand_together lock.holders ≡ true → IsStrictlySortedBy owner_order (keys_of lock.holders) → TellsOf client mode at lock turn.lock (line_if held (lines.Freed whose at) ++ locked_lines at turn)
leaving_tells client mode at whose lock owner held turn own is_turn is_held stand sorted =
    let left : LockState = without (is_owner owner) lock in
    let P : ℕ → Bool → Turn → Type 0 = λ w h t. TellsOf client mode at lock t.lock (line_if h (lines.Freed w at) ++ locked_lines at t) in
    let base : P owner.client (is_some (hold_of lock owner)) (settled left) =
    tells_more client mode at lock left (settled left).lock (line_if (is_some (hold_of lock owner)) (lines.Freed owner.client at)) (locked_lines at (settled left))
    (left_tells client mode at lock owner stand sorted) (turn_tells client mode at left (settled left) (settled_granted client mode left)) in
    subst (λ (w : ℕ). P w held turn) own (subst (λ (h : Bool). P owner.client h turn) (sym is_held) (subst (λ (t : Turn). P owner.client (is_some (hold_of lock owner)) t) (sym is_turn) base))

-- ---- rows beside a master

no_lapsed : (mode : LockMode) → is_state Lapsed (stored_mode mode) ≡ false
no_lapsed modes.Exclusive = refl
no_lapsed modes.Shared = refl

and_none : (a b : Bool) → b ≡ false → (a && b) ≡ false
and_none true b h = h
and_none false b h = refl

none_lapsed : (client : ℕ) (mode : LockMode) → ((0 == client) && is_state Lapsed (stored_mode mode)) ≡ false
none_lapsed client mode = and_none (0 == client) (is_state Lapsed (stored_mode mode)) (no_lapsed mode)

count_rows : (client : ℕ) (mode : LockMode) (at : ℕ) (holders : Holders) → count_by (is_hold_of client mode) (holder_rows at holders) ≡ count_by (holds_so client mode) holders
count_rows client mode at [] = refl
count_rows client mode at (e ∷ es) =
    count_cons (is_hold_of client mode) (holder_key at e.0, holder_row e.1) (holder_rows at es)
    ∙ ap (λ n. one_where (holds_so client mode e) + n) (count_rows client mode at es) ∙ sym (count_cons (holds_so client mode) e es)

count_lock : (client : ℕ) (mode : LockMode) (at : ℕ) (closed : Option Closing) (holders : Holders) → count_by (is_hold_of client mode) (closing_rows at closed ++ holder_rows at holders) ≡ count_by (holds_so client mode) holders
count_lock client mode at None holders = count_rows client mode at holders
count_lock client mode at (Some closing) holders =
    let row : LockKey × LockRow = (lapsed_key at, record { state = Lapsed; delay = closing.delay }) in
    let whole = count_cons (is_hold_of client mode) row (holder_rows at holders) in
    let none : one_where (is_hold_of client mode row) ≡ 0 = ap one_where (none_lapsed client mode) in
    let rest = count_rows client mode at holders in
    omega (arith, whole, none, rest)

equal_seen : (a b : LockSeen) → a.nodes ≡ b.nodes → a.next_instance ≡ b.next_instance → a.generation ≡ b.generation → a.holds ≡ b.holds → a ≡ b
equal_seen a b n x g h = λ j. record { nodes = n j; next_instance = x j; generation = g j; holds = h j }

module _ (instance client : ℕ) (mode : LockMode) where
  abbrev told : LockSeen → List Line → LockSeen
  told seen printed = fold (seen_by instance client mode) seen printed

  -- by a master's map, next instance and locks
  abbrev seen_with : Nodes → ℕ → LockTable → LockSeen
  seen_with nodes next locks = record {
    nodes = nodes;
    next_instance = next;
    generation = cond (is_there nodes instance) (Some (lock_at locks instance).generation) None;
    holds = count_by (holds_so client mode) (lock_at locks instance).holders;
  }

  abbrev seen_of : MasterState → LockSeen
  seen_of s = seen_with s.nodes s.next_instance s.locks

  pub kept_generation : (cell : List ℕ) (rows : Rows) (s : MasterState) → IsKept cell rows s → lock_generation_in rows.nodes instance ≡ cond (is_there s.nodes instance) (Some (lock_at s.locks instance).generation) None
  kept_generation cell rows s k = by_found (lock_generation_in rows.nodes instance) refl
    where
      there : is_there s.nodes instance ≡ has_instance rows.nodes instance
      there = ap (λ (ns : Nodes). is_there ns instance) k.nodes ∙ there_by_rows rows.nodes instance

      by_found : (o : Option ℕ) → lock_generation_in rows.nodes instance ≡ o → lock_generation_in rows.nodes instance ≡ cond (is_there s.nodes instance) (Some (lock_at s.locks instance).generation) None
      by_found None is = is ∙ sym (ap (λ b. cond {A = Option ℕ} b (Some (lock_at s.locks instance).generation) None) (there ∙ has_none rows.nodes instance is))
      by_found (Some g) is =
          is ∙ ap (λ (n : ℕ). Some n) (k.locks.generations instance g is)
          ∙ sym (ap (λ b. cond {A = Option ℕ} b (Some (lock_at s.locks instance).generation) None) (there ∙ has_of rows.nodes instance g is))

  -- rows and the master beside them show the same
  kept_seen : (cell : List ℕ) (rows : Rows) (s : MasterState) → IsKept cell rows s → seen_in instance client mode rows ≡ seen_of s
  kept_seen cell rows s k =
      equal_seen (seen_in instance client mode rows) (seen_of s) (sym k.nodes) (sym k.next_instance) (kept_generation cell rows s k)
      (ap (count_by (is_hold_of client mode)) (k.locks.rows_of_locks instance) ∙ count_lock client mode instance (lock_at s.locks instance).closed (lock_at s.locks instance).holders)

  -- ---- one lock is put

  group_told : (nodes : Nodes) (next : ℕ) (locks : LockTable) (at : ℕ) (lock : LockState) (printed : List Line) → is_there nodes at ≡ true → TellsOf client mode at (lock_at locks at) lock printed → told (seen_with nodes next locks) printed ≡ seen_with nodes next (with_lock locks at lock)
  group_told nodes next locks at lock printed there h =
      let new : LockTable = with_lock locks at lock in
      let put = lock_at_put locks at lock instance in
      (elim (at == instance) as (λ b. (at == instance) ≡ b → told (seen_with nodes next locks) printed ≡ seen_with nodes next new) [
        | true ↦ (λ is.
            let same : at ≡ instance = eqb-true at instance is in
            let P : ℕ → Type 0 = λ n. is_there nodes n ≡ true in
            let here : is_there nodes instance ≡ true = subst P same there in
            let found : lock_at new instance ≡ lock = put ∙ ap (λ b. cond b lock (lock_at locks instance)) is in
            let was : seen_with nodes next locks ≡ seen_so client mode nodes next (lock_at locks at) =
            ap (λ b. so client mode nodes next (cond {A = Option ℕ} b (Some (lock_at locks instance).generation) None) (count_by (holds_so client mode) (lock_at locks instance).holders)) here
            ∙ ap (λ (n : ℕ). seen_so client mode nodes next (lock_at locks n)) (sym same) in
            let will : seen_with nodes next new ≡ seen_so client mode nodes next lock =
            ap (λ b. so client mode nodes next (cond {A = Option ℕ} b (Some (lock_at new instance).generation) None) (count_by (holds_so client mode) (lock_at new instance).holders)) here
            ∙ ap (λ (l : LockState). seen_so client mode nodes next l) found in
            ap (λ (seen : LockSeen). told seen printed) was ∙ h.own instance nodes next is ∙ sym will)
        | false ↦ (λ apart.
            let found : lock_at new instance ≡ lock_at locks instance = put ∙ ap (λ b. cond b lock (lock_at locks instance)) apart in
            h.apart instance (seen_with nodes next locks) apart
            ∙ ap (λ (l : LockState). so client mode nodes next (cond {A = Option ℕ} (is_there nodes instance) (Some l.generation) None) (count_by (holds_so client mode) l.holders)) (sym found))
      ]) refl

  -- ---- the end of a session

  behind_apart : (a b : ℕ) → nat_cmp a b ≡ Less → (a == b) ≡ false
  behind_apart a b h = turned b a (sym (at_number a b) ∙ ap is_eq h)
    where
      turned : (x y : ℕ) → (x == y) ≡ false → (y == x) ≡ false
      turned x y k = grind (arith, nat_tests)

  -- the node of a lock is there, under a name
  pub record IsPlaced (s : MasterState) (at : ℕ) : Type 0 where
    pub name : List ℕ
    pub is : name_of s.nodes at ≡ Some name
    pub there : is_there s.nodes at ≡ true

  busy_by : (a : Bool) (holders : Holders) (waiters : List Claim) (whose : ℕ) → (list_any (λ entry. is_of_client whose entry.0) holders || list_any (λ claim. is_of_client whose claim.owner) waiters) ≡ true → (a && is_none (mode_of holders) && is_nobody waiters) ≡ false
  busy_by a [] [] whose h = absurd cc
  busy_by a [] (w ∷ ws) whose h = and_none (a && true) false refl
  busy_by a (e ∷ es) ws whose h = ap (λ b. b && is_nobody ws) (and_none a false refl)

  concerned_busy : (whose : ℕ) (lock : LockState) → concerns whose lock ≡ true → is_idle lock ≡ false
  concerned_busy whose lock h = busy_by (lock.generation == 0 && is_none lock.closed) lock.holders lock.waiters whose h

  there_of : (idle there : Bool) → (idle || there) ≡ true → idle ≡ false → there ≡ true
  there_of true there h k = absurd cc
  there_of false there h k = h

  pub busy_placed : (cell : List ℕ) (rows : Rows) (s : MasterState) (at : ℕ) → IsKept cell rows s → is_idle (lock_at s.locks at) ≡ false → IsPlaced s at
  busy_placed cell rows s at k busy =
      let named = not_idle cell rows s at k busy in
      record { name = named.name; is = named.is; there = there_of (is_idle (lock_at s.locks at)) (is_there s.nodes at) (k.locks.each at).there busy }

  pub all_placed : (cell : List ℕ) (rows : Rows) (s : MasterState) (whose : ℕ) (es : LockTable) → IsKept cell rows s → AllByRecursion (λ (e : ℕ × LockState). lock_at s.locks e.0 ≡ e.1) es → AllByRecursion (λ (e : ℕ × LockState). concerns whose e.1 ≡ true → IsPlaced s e.0) es
  all_placed cell rows s whose [] k all = tt
  all_placed cell rows s whose (e ∷ es) k all = (
    λ h. busy_placed cell rows s e.0 k (concerned_busy whose (lock_at s.locks e.0) (ap (concerns whose) all.0 ∙ h)),
    all_placed cell rows s whose es k all.1,
  )

  -- those that stand behind it stay where they are found
  pub still_found : (locks : LockTable) (at : ℕ) (lock : LockState) (es : LockTable) → AllByRecursion (λ n. nat_cmp at n ≡ Less) (keys_of es) → AllByRecursion (λ (e : ℕ × LockState). lock_at locks e.0 ≡ e.1) es → AllByRecursion (λ (e : ℕ × LockState). lock_at (with_lock locks at lock) e.0 ≡ e.1) es
  still_found locks at lock [] less all = tt
  still_found locks at lock (e ∷ es) less all = (
    lock_at_put locks at lock e.0 ∙ ap (λ b. cond b lock (lock_at locks e.0)) (behind_apart at e.0 less.0) ∙ all.0,
    still_found locks at lock es less.1 all.1,
  )

  module _ (s : MasterState) (parting : Parting) (whose : ℕ) where
    abbrev those : LockTable → List Lapse
    those es = map (λ (entry : ℕ × LockState). lapsed parting entry.0 entry.1 whose s.clock) es

    abbrev of_it : LockTable → LockTable
    of_it es = filter (λ (entry : ℕ × LockState). concerns whose entry.1) es

    each_told : (es there : LockTable) → (whose == client) ≡ false → IsStrictlySortedBy nat_cmp (keys_of es) → AllByRecursion (λ (e : ℕ × LockState). lock_at there e.0 ≡ e.1) es → AllByRecursion (λ (e : ℕ × LockState). concerns whose e.1 ≡ true → IsPlaced s e.0) es
        → told (seen_with s.nodes s.next_instance there) (lapses_lines parting whose (those (of_it es))) ≡ seen_with s.nodes s.next_instance (fold with_lock_put there (lapses_puts s (those (of_it es))))
    unfolding IsStrictlySortedBy
    each_told [] there other sorted found placed = refl
    each_told (e ∷ es) there other sorted found placed =
        (elim (concerns whose e.1) as (λ b. concerns whose e.1 ≡ b → told (seen_with s.nodes s.next_instance there) (lapses_lines parting whose (those (cond b (e ∷ of_it es) (of_it es)))) ≡ seen_with s.nodes s.next_instance (fold with_lock_put there (lapses_puts s (those (cond b (e ∷ of_it es) (of_it es)))))) [
          | true ↦ (λ is.
              let lapse : Lapse = lapsed parting e.0 e.1 whose s.clock in
              let lock : LockState = lapse.turn.lock in
              let at = placed.0 is in
              let first : List Line = lapse_lines parting whose lapse in
              let rest : List Line = lapses_lines parting whose (those (of_it es)) in
              let P : LockState → Type 0 = λ old. TellsOf client mode e.0 old lock first in
              let tells : P (lock_at there e.0) = subst P (sym found.0) (lapse_tells client mode parting e.0 e.1 whose s.clock other) in
              let one = group_told s.nodes s.next_instance there e.0 lock first at.there tells in
              let others = each_told es (with_lock there e.0 lock) other sorted.1 (still_found there e.0 lock es sorted.0 found.1) placed.1 in
              seen_more client mode instance (seen_with s.nodes s.next_instance there) first rest
              ∙ ap (λ (seen : LockSeen). told seen rest) one ∙ others
              ∙ ap (λ (puts : List LockPut). seen_with s.nodes s.next_instance (fold with_lock_put there (puts ++ lapses_puts s (those (of_it es))))) (sym (puts_are s e.0 lock at.name at.is)))
          | false ↦ (λ is. each_told es there other sorted.1 found.1 placed.1)
        ]) refl

  -- the lines of rights, those of locks, and that of the session
  parting_fold : (parting : Parting) (seen : LockSeen) (numbers : List ℕ) (others : List Line) (whose : ℕ) → told seen (map (right_line parting) numbers ++ others ++ lines.Ended whose ∷ []) ≡ seen_by instance client mode (told seen others) (lines.Ended whose)
  parting_fold parting seen [] others whose = seen_more client mode instance seen others (lines.Ended whose ∷ [])
  parting_fold partings.Expiry seen (number ∷ numbers) others whose = parting_fold partings.Expiry seen numbers others whose
  parting_fold partings.Leave seen (number ∷ numbers) others whose = parting_fold partings.Leave seen numbers others whose

  -- ---- a client whose session has ended holds nothing

  dead_state : (rows : Rows) (key : LockKey) (state : stored.LockState) → client_fits rows key state ≡ true → is_live_in rows key.client ≡ false → is_state state (stored_mode mode) ≡ false
  dead_state rows key Lapsed fit dead = no_lapsed mode
  dead_state rows key Exclusive fit dead = absurd cc
  dead_state rows key Shared fit dead = absurd cc

  dead_row : (rows : Rows) (row : LockKey × LockRow) → client_fits rows row.0 row.1.state ≡ true → is_live_in rows client ≡ false → is_hold_of client mode row ≡ false
  dead_row rows row fit dead =
      (elim (row.0.client == client) as (λ b. (row.0.client == client) ≡ b → (b && is_state row.1.state (stored_mode mode)) ≡ false) [
        | true ↦ (λ is. dead_state rows row.0 row.1.state fit (ap (is_live_in rows) (eqb-true row.0.client client is) ∙ dead))
        | false ↦ (λ is. refl)
      ]) refl

  none_of_dead : (rows : Rows) (all : StoredLocks) → list_all (row_fits rows instance) all ≡ true → is_live_in rows client ≡ false → count_by (is_hold_of client mode) all ≡ 0
  none_of_dead rows [] fit dead = refl
  none_of_dead rows (row ∷ rest) fit dead =
      let t = and_parts (row_fits rows instance row) (list_all (row_fits rows instance) rest) fit in
      let parts = five_parts (row.0.instance == instance) (is_number row.0.client) (is_number row.0.handle) (nat_le row.1.delay lock_delay_limit) (client_fits rows row.0 row.1.state) t.0 in
      let whole = count_cons (is_hold_of client mode) row rest in
      let none : one_where (is_hold_of client mode row) ≡ 0 = ap one_where (dead_row rows row parts.4 dead) in
      let others = none_of_dead rows rest t.1 dead in
      omega (arith, whole, none, others)

  dead_holds : (cell : List ℕ) (rows : Rows) (s : MasterState) → IsKept cell rows s → is_live_in rows client ≡ false → count_by (is_hold_of client mode) (locks_at rows.locks instance) ≡ 0
  dead_holds cell rows s k dead =
      none_of_dead rows (locks_at rows.locks instance) (and_parts (list_all (row_fits rows instance) (locks_at rows.locks instance)) (are_together (locks_at rows.locks instance)) (sound_legal cell rows instance k.sound_rows)).0 dead

-- ---- what is seen but for the holds is the same whoever the client is

record IsAlike (a b : LockSeen) : Type 0 where
  nodes : a.nodes ≡ b.nodes
  next : a.next_instance ≡ b.next_instance
  generation : a.generation ≡ b.generation

either_alike : (b c : Bool) (x y u v : LockSeen) → IsAlike x y → IsAlike x v → IsAlike u y → IsAlike u v → IsAlike (cond b u x) (cond c v y)
either_alike true true x y u v h xv uy uv = uv
either_alike true false x y u v h xv uy uv = uy
either_alike false true x y u v h xv uy uv = xv
either_alike false false x y u v h xv uy uv = h

module _ (instance client whose : ℕ) (mode : LockMode) where
  line_alike : (a b : LockSeen) (line : Line) → IsAlike a b → IsAlike (seen_by instance client mode a line) (seen_by instance whose mode b line)
  line_alike a b (lines.Locked someone at how generation) h = elim (at == instance) as (λ c. IsAlike (cond c (record a { generation = Some generation; holds = a.holds + cond ((someone == client) && is_mode how mode) 1 0 }) a) (cond c (record b { generation = Some generation; holds = b.holds + cond ((someone == whose) && is_mode how mode) 1 0 }) b)) [
    | true ↦ record { nodes = h.nodes; next = h.next; generation = refl }
    | false ↦ h
  ]
  line_alike a b (lines.Freed someone at) h =
      let same : (x y : ℕ) → IsAlike (record a { holds = x }) (record b { holds = y }) = λ x y. record { nodes = h.nodes; next = h.next; generation = h.generation } in
      either_alike ((at == instance) && (someone == client)) ((at == instance) && (someone == whose)) a b (record a { holds = a.holds - 1 }) (record b { holds = b.holds - 1 }) h (same a.holds (b.holds - 1)) (same (a.holds - 1) b.holds) (same (a.holds - 1) (b.holds - 1))
  line_alike a b (lines.Ended someone) h =
      let same : (x y : ℕ) → IsAlike (record a { holds = x }) (record b { holds = y }) = λ x y. record { nodes = h.nodes; next = h.next; generation = h.generation } in
      either_alike (someone == client) (someone == whose) a b (record a { holds = 0 }) (record b { holds = 0 }) h (same a.holds 0) (same 0 b.holds) (same 0 0)
  line_alike a b (lines.Applied someone number (Put name view) names) h = record {
    nodes = ap (λ (ns : Nodes). changed ns (Put name view)) h.nodes;
    next = ap (λ (n : ℕ). max n (view.instance + 1)) h.next;
    generation = ap (λ (g : Option ℕ). cond (view.instance == instance) (Some (unwrap_or g 0)) g) h.generation;
  }
  line_alike a b (lines.Applied someone number (Gone name) names) h = record {
    nodes = ap (λ (ns : Nodes). changed ns (Gone name)) h.nodes;
    next = h.next;
    generation =
        ap (λ (ns : Nodes). cond {A = Option ℕ} (option_map_or (λ at. at == instance) (instance_in ns name) false) None a.generation) h.nodes
        ∙ ap (λ (g : Option ℕ). cond (option_map_or (λ at. at == instance) (instance_in b.nodes name) false) None g) h.generation;
  }
  line_alike a b _ h = h

  fold_alike : (a b : LockSeen) (printed : List Line) → IsAlike a b → IsAlike (fold (seen_by instance client mode) a printed) (fold (seen_by instance whose mode) b printed)
  fold_alike a b [] h = h
  fold_alike a b (line ∷ rest) h = fold_alike (seen_by instance client mode a line) (seen_by instance whose mode b line) rest (line_alike a b line h)

-- ---- a node that is put

or_last : (a : Bool) → (a || false) ≡ (false || a)
or_last true = refl
or_last false = refl

or_moved : (a b c : Bool) → (a || (b || c)) ≡ ((b || c) || a)
or_moved true true c = refl
or_moved true false true = refl
or_moved true false false = refl
or_moved false true c = refl
or_moved false false true = refl
or_moved false false false = refl

or_twice : (a c : Bool) → (a || c) ≡ ((a || c) || a)
or_twice true c = refl
or_twice false true = refl
or_twice false false = refl

or_behind : (a b c d : Bool) → d ≡ (b || c) → (a || d) ≡ ((a || b) || c)
or_behind true b c d h = refl
or_behind false b c d h = h

-- the node of the name, if one is there, has this instance
abbrev Keeps : Option Node → ℕ → Type 0
Keeps None n = Unit {0}
Keeps (Some view) n = view.instance ≡ n

there_put : (nodes : Nodes) (name : List ℕ) (view : Node) (n : ℕ) → Keeps (get_node nodes name) view.instance → is_there (insert_entry (slice_cmp nat_cmp) nodes name view) n ≡ (is_there nodes n || (view.instance == n))
there_put [] name view n h = or_last (view.instance == n)
there_put (e ∷ es) name view n h =
    let own : Bool = e.1.instance == n in
    let new : Bool = view.instance == n in
    (elim (slice_cmp nat_cmp name e.0) as (λ o. Keeps (cond (is_eq o) (Some e.1) (get_node es name)) view.instance → is_there (match_ordering o ((name, view) ∷ e ∷ es) ((e.0, view) ∷ es) (e ∷ insert_entry (slice_cmp nat_cmp) es name view)) n ≡ ((own || is_there es n) || new)) [
      | Less ↦ (λ k. or_moved new own (is_there es n))
      | Equal ↦ (λ k. or_twice new (is_there es n) ∙ ap (λ (i : ℕ). (((i == n) || is_there es n) || new)) (sym k))
      | Greater ↦ (λ k. or_behind own (is_there es n) new (is_there (insert_entry (slice_cmp nat_cmp) es name view) n) (there_put es name view n k))
    ]) h

keeps_of : (o : Option Node) (n : ℕ) → option_map (λ (view : Node). view.instance) o ≡ Some n → Keeps o n
keeps_of None n h = tt
keeps_of (Some view) n h = cc

keeps_none : (o : Option Node) (n : ℕ) → o ≡ None → Keeps o n
keeps_none None n h = tt
keeps_none (Some view) n h = absurd cc

-- the generation of a lock whose node is put: of a new one it is 0
put_generation : (there own : Bool) (generation : ℕ) → (there ≡ false → generation ≡ 0) → cond {A = Option ℕ} (there || own) (Some generation) None ≡ cond own (Some (unwrap_or (cond {A = Option ℕ} there (Some generation) None) 0)) (cond {A = Option ℕ} there (Some generation) None)
put_generation true true generation h = refl
put_generation true false generation h = refl
put_generation false true generation h = ap (λ (n : ℕ). Some n) (h refl)
put_generation false false generation h = refl

-- a lock without a node was never held
idle_generation : (cell : List ℕ) (rows : Rows) (s : MasterState) (at : ℕ) → IsKept cell rows s → is_there s.nodes at ≡ false → (lock_at s.locks at).generation ≡ 0
idle_generation cell rows s at k gone =
    zero_of (lock_at s.locks at).generation (first_of ((lock_at s.locks at).generation == 0) (is_none (lock_at s.locks at).closed) (nobody_holds (lock_at s.locks at)) (is_nobody (lock_at s.locks at).waiters) (idle_of (is_idle (lock_at s.locks at)) (is_there s.nodes at) (k.locks.each at).there gone))
  where
    idle_of : (idle there : Bool) → (idle || there) ≡ true → there ≡ false → idle ≡ true
    idle_of true there h l = refl
    idle_of false there h l = sym l ∙ h

    first_of : (a b c d : Bool) → (a && b && c && d) ≡ true → a ≡ true
    first_of true b c d h = refl
    first_of false b c d h = absurd cc

    zero_of : (n : ℕ) → (n == 0) ≡ true → n ≡ 0
    zero_of n h = eqb-true n 0 h

next_kept : (next new at : ℕ) → at < next → new ≡ next → new ≡ max next (at + 1)
next_kept next new at less same = omega (arith, less, same)

next_new : (next new at : ℕ) → at ≡ next → new ≡ next + 1 → new ≡ max next (at + 1)
next_new next new at h k = omega (arith, h, k)

-- ---- a node that goes

found_has : (test : List ℕ → Bool) (nodes : StoredNodes) (n : ℕ) → option_map_or (λ (node : StoredNode). node.node.instance == n) (lookup test nodes) false ≡ true → has_instance nodes n ≡ true
found_has test [] n h = absurd cc
found_has test (e ∷ es) n h =
    (elim (test e.0) as (λ b. option_map_or (λ (node : StoredNode). node.node.instance == n) (cond b (Some e.1) (lookup test es)) false ≡ true → (e.1.node.instance == n || has_instance es n) ≡ true) [
      | true ↦ (λ k. or_left (e.1.node.instance == n) (has_instance es n) k)
      | false ↦ (λ k. or_right (e.1.node.instance == n) (has_instance es n) (found_has test es n k))
    ]) h

has_among : (nodes : StoredNodes) (n : ℕ) → has_instance nodes n ≡ list_any (λ m. m == n) (instances nodes)
has_among [] n = refl
has_among (e ∷ es) n = ap (λ b. e.1.node.instance == n || b) (has_among es n)

opposite : (b : Bool) → b ≡ true → not b ≡ true → ⊥
opposite b h k = absurd cc

is_false : (b : Bool) → (b ≡ true → ⊥) → b ≡ false
is_false true h = absurd (h refl)
is_false false h = refl

-- no other node has the instance of the first
alone : (e : List ℕ × StoredNode) (es : StoredNodes) (n : ℕ) → are_distinct (instances (e ∷ es)) ≡ true → (e.1.node.instance == n) ≡ true → has_instance es n ≡ false
alone e es n distinct is =
    let any : Bool = list_any (λ m. m == e.1.node.instance) (instances es) in
    let t = and_parts (not any) (are_distinct (instances es)) distinct in
    let P : ℕ → Type 0 = λ m. has_instance es m ≡ true in
    is_false (has_instance es n) (λ twice. opposite any (sym (has_among es e.1.node.instance) ∙ subst P (sym (eqb-true e.1.node.instance n is)) twice) t.0)

none_then : (nodes : StoredNodes) (n : ℕ) → has_instance nodes n ≡ false → lock_generation_in nodes n ≡ None
none_then [] n h = refl
none_then (e ∷ es) n h =
    (elim (e.1.node.instance == n) as (λ b. (b || has_instance es n) ≡ false → cond b (Some e.1.lock_generation) (lock_generation_in es n) ≡ None) [
      | true ↦ (λ k. absurd cc)
      | false ↦ (λ k. none_then es n k)
    ]) h

gone_generation : (test : List ℕ → Bool) (nodes : StoredNodes) (n : ℕ) → are_distinct (instances nodes) ≡ true
    → lock_generation_in (remove_entry test nodes) n ≡ cond {A = Option ℕ} (option_map_or (λ (node : StoredNode). node.node.instance == n) (lookup test nodes) false) None (lock_generation_in nodes n)
gone_generation test [] n distinct = refl
gone_generation test (e ∷ es) n distinct =
    let own : Bool = e.1.node.instance == n in
    let behind : Bool = option_map_or (λ (node : StoredNode). node.node.instance == n) (lookup test es) false in
    let t = and_parts (not (list_any (λ m. m == e.1.node.instance) (instances es))) (are_distinct (instances es)) distinct in
    elim (test e.0) as (λ b. lock_generation_in (cond b es (e ∷ remove_entry test es)) n ≡ cond {A = Option ℕ} (option_map_or (λ (node : StoredNode). node.node.instance == n) (cond b (Some e.1) (lookup test es)) false) None (cond own (Some e.1.lock_generation) (lock_generation_in es n))) [
      | true ↦ (elim own as (λ b. own ≡ b → lock_generation_in es n ≡ cond {A = Option ℕ} b None (cond b (Some e.1.lock_generation) (lock_generation_in es n))) [
        | true ↦ (λ is. none_then es n (alone e es n distinct is))
        | false ↦ (λ is. refl)
      ]) refl
      | false ↦ (elim own as (λ b. own ≡ b → cond b (Some e.1.lock_generation) (lock_generation_in (remove_entry test es) n) ≡ cond {A = Option ℕ} behind None (cond b (Some e.1.lock_generation) (lock_generation_in es n))) [
        | true ↦ (λ is.
            let none : behind ≡ false = is_false behind (λ found. let twice = found_has test es n found in let alone_there = alone e es n distinct is in absurd cc) in
            sym (ap (λ b. cond {A = Option ℕ} b None (Some e.1.lock_generation)) none))
        | false ↦ (λ is. gone_generation test es n t.1)
      ]) refl
    ]

gone_holds : (client : ℕ) (mode : LockMode) (o : Option StoredNode) (locks : StoredLocks) (n : ℕ)
    → count_by (is_hold_of client mode) (locks_at (without_locks_of o locks) n) ≡ cond (option_map_or (λ (node : StoredNode). node.node.instance == n) o false) 0 (count_by (is_hold_of client mode) (locks_at locks n))
gone_holds client mode None locks n = refl
gone_holds client mode (Some node) locks n =
    let m : ℕ = node.node.instance in
    let left : StoredLocks = filter (λ (e : LockKey × LockRow). not (e.0.instance == m)) locks in
    (elim (m == n) as (λ b. (m == n) ≡ b → count_by (is_hold_of client mode) (locks_at left n) ≡ cond b 0 (count_by (is_hold_of client mode) (locks_at locks n))) [
      | true ↦ (λ is.
          let P : ℕ → Type 0 = λ i. locks_at left i ≡ [] in
          ap (count_by (is_hold_of client mode)) (subst P (eqb-true m n is) (own_gone locks m)))
      | false ↦ (λ is. ap (count_by (is_hold_of client mode)) (others_stay locks m n is))
    ]) refl

-- the node that goes is that of its name
named_goes : (nodes : StoredNodes) (name : List ℕ) (n : ℕ) → option_map_or (λ (node : StoredNode). node.node.instance == n) (stored_node nodes name) false ≡ option_map_or (λ at. at == n) (instance_in (nodes_of nodes) name) false
named_goes nodes name n =
    by_found (stored_node nodes name)
    ∙ sym (ap (λ (o : Option Node). option_map_or (λ (at : ℕ). at == n) (option_map (λ (view : Node). view.instance) o) false) (nodes_get nodes name))
  where
    by_found : (o : Option StoredNode) → option_map_or (λ (node : StoredNode). node.node.instance == n) o false ≡ option_map_or (λ (at : ℕ). at == n) (option_map (λ (view : Node). view.instance) (option_map (λ (node : StoredNode). node.node) o)) false
    by_found None = refl
    by_found (Some node) = refl

gone_seen : (instance client : ℕ) (mode : LockMode) (rows : Rows) (name : List ℕ) (next : ℕ) → are_distinct (instances rows.nodes) ≡ true → next ≡ rows.next_instance
    → seen_in instance client mode (changed_rows rows (RemoveNode name ∷ NextInstance next ∷ [])) ≡ with_change instance (seen_in instance client mode rows) (Gone name)
gone_seen instance client mode rows name next distinct same =
    let new : Rows = changed_rows rows (RemoveNode name ∷ NextInstance next ∷ []) in
    let own = named_goes rows.nodes name instance in
    equal_seen (seen_in instance client mode new) (with_change instance (seen_in instance client mode rows) (Gone name)) (nodes_gone rows.nodes name) same
    (gone_generation (is_at (slice_cmp nat_cmp name)) rows.nodes instance distinct ∙ ap (λ b. cond {A = Option ℕ} b None (lock_generation_in rows.nodes instance)) own)
    (gone_holds client mode (stored_node rows.nodes name) rows.locks instance ∙ ap (λ b. cond b 0 (count_by (is_hold_of client mode) (locks_at rows.locks instance))) own)

-- ---- a sweep

module _ (instance client : ℕ) (mode : LockMode) (cell : List ℕ) (rows : Rows) (s : MasterState) (k : IsKept cell rows s) where
  abbrev IsToldBy : SweepCase s → Type 0
  IsToldBy c = IsKept cell (changed_rows rows (swept_edits s c)) (swept_by s c).0
      → seen_in instance client mode (changed_rows rows (swept_edits s c)) ≡ fold (seen_by instance client mode) (seen_in instance client mode rows) (swept_by s c).1.lines

  -- by the masters before it and behind it
  by_masters : (c : SweepCase s) → seen_of instance client mode (swept_by s c).0 ≡ fold (seen_by instance client mode) (seen_of instance client mode s) (swept_by s c).1.lines → IsToldBy c
  by_masters c h l =
      kept_seen instance client mode cell (changed_rows rows (swept_edits s c)) (swept_by s c).0 l ∙ h
      ∙ ap (λ (seen : LockSeen). fold (seen_by instance client mode) seen (swept_by s c).1.lines) (sym (kept_seen instance client mode cell rows s k))

  same_with : (t : MasterState) → t.nodes ≡ s.nodes → t.next_instance ≡ s.next_instance → t.locks ≡ s.locks → seen_of instance client mode t ≡ seen_of instance client mode s
  same_with t nodes next locks = λ j. seen_with instance client mode (nodes j) (next j) (locks j)

  pub effect_of : (front back : List (Waiting Task)) (asked : WaitingRequest) (call : Call) (sequencer : Option (List ℕ)) (effected : Effect) → IsNextApplied s front (tasks.Asked asked) back → asked.work ≡ works.Calls call sequencer → effect (name_space s) (caller s asked.client) s.clock asked.number call sequencer ≡ effected → TellsBy s asked.client call effected
  effect_of front back asked call sequencer effected turn work made =
      let P : Effect → Type 0 = TellsBy s asked.client call in
      let Q : Work → Type 0 = IsOwnCall s.secret asked.client in
      subst P made (effect_tells s (λ at. (k.locks.each at).legal) asked.client asked.number call sequencer (subst Q work (application_own cell rows s k front back asked turn)))

  -- ---- a session ends

  -- of another client
  ended_apart : (parting : Parting) (whose : ℕ) → (whose == client) ≡ false → seen_with instance client mode s.nodes s.next_instance (fold with_lock_put s.locks (lapses_puts s (lapses_of parting s whose))) ≡ fold (seen_by instance client mode) (seen_of instance client mode s) (parting_lines parting s whose (lapses_of parting s whose))
  ended_apart parting whose other =
      let own = own_locks s.locks k.locks.in_order in
      let others : List Line = lapses_lines parting whose (lapses_of parting s whose) in
      let each = each_told instance client mode s parting whose s.locks s.locks other k.locks.in_order own (all_placed instance client mode cell rows s whose s.locks k own) in
      sym (parting_fold instance client mode parting (seen_of instance client mode s) (numbers_ending whose (ending_by parting) s.rights) others whose
      ∙ ap (λ b. cond b (record (fold (seen_by instance client mode) (seen_of instance client mode s) others) { holds = 0 }) (fold (seen_by instance client mode) (seen_of instance client mode s) others)) other
      ∙ each)

later : (n : ℕ) → (n == n + 1) ≡ false
later n = grind (arith, nat_tests)

-- ---- a lock that is open again

due_entry : (o : Option (ℕ × LockState)) (at : ℕ) → option_map (λ (e : ℕ × LockState). e.0) o ≡ Some at → (e : ℕ × LockState) × (o ≡ Some e) × (e.0 ≡ at)
due_entry None at h = absurd cc
due_entry (Some e) at h = let same : e.0 ≡ at = cc in (e, refl, same)

busy_by_closing : (a b c : Bool) (closed : Option Closing) (now : ℕ) → option_map_or (λ closing. time_left closing now == 0) closed false ≡ true → (a && is_none closed && b && c) ≡ false
busy_by_closing a b c None now h = absurd cc
busy_by_closing true b c (Some closing) now h = refl
busy_by_closing false b c (Some closing) now h = refl

due_is : (locks : LockTable) (now at : ℕ) → IsStrictlySortedBy nat_cmp (keys_of locks) → due locks now ≡ Some at → is_due now (lock_at locks at) ≡ true
due_is locks now at sorted h =
    let t = due_entry (find (λ (e : ℕ × LockState). is_due now e.1) locks) at h in
    let u = all_of_found (λ (e : ℕ × LockState). lock_at locks e.0 ≡ e.1) (λ e. is_due now e.1) locks t.0 (own_locks locks sorted) t.1 in
    ap (λ n. is_due now (lock_at locks n)) (sym t.2) ∙ ap (is_due now) u.0 ∙ u.1

-- a lock that is to be open again isn't idle
pub due_busy : (cell : List ℕ) (rows : Rows) (s : MasterState) → IsKept cell rows s → (at : ℕ) → due s.locks s.clock ≡ Some at → is_idle (lock_at s.locks at) ≡ false
due_busy cell rows s k at lowest =
    let lock : LockState = lock_at s.locks at in
    busy_by_closing (lock.generation == 0) (nobody_holds lock) (is_nobody lock.waiters) lock.closed s.clock (due_is s.locks s.clock at k.locks.in_order lowest)

-- ---- every arm

module _ (instance client : ℕ) (mode : LockMode) (cell : List ℕ) (rows : Rows) (s : MasterState) (k : IsKept cell rows s) where
  abbrev Tells : SweepCase s → Type 0
  Tells c = IsToldBy instance client mode cell rows s k c

  -- the session of the client itself ends
  ended_own : (c : SweepCase s) (parting : Parting) (whose : ℕ) → (whose == client) ≡ true → IsKept cell (changed_rows rows (swept_edits s c)) (swept_by s c).0
      → (swept_by s c).1.lines ≡ parting_lines parting s whose (lapses_of parting s whose)
      → (d : ℕ) → seen_of instance d mode (swept_by s c).0 ≡ fold (seen_by instance d mode) (seen_of instance d mode s) (parting_lines parting s whose (lapses_of parting s whose))
      → seen_in instance client mode (changed_rows rows (swept_edits s c)) ≡ fold (seen_by instance client mode) (seen_in instance client mode rows) (parting_lines parting s whose (lapses_of parting s whose))
  ended_own c parting whose own l printed d apart =
      let new : Rows = changed_rows rows (swept_edits s c) in
      let all : List Line = parting_lines parting s whose (lapses_of parting s whose) in
      let others : List Line = lapses_lines parting whose (lapses_of parting s whose) in
      let alike = fold_alike instance client d mode (seen_in instance client mode rows) (seen_of instance d mode s) all
      (record { nodes = sym k.nodes; next = sym k.next_instance; generation = kept_generation instance client mode cell rows s k }) in
      let ended : fold (seen_by instance client mode) (seen_in instance client mode rows) all ≡ record (fold (seen_by instance client mode) (seen_in instance client mode rows) others) { holds = 0 } =
      parting_fold instance client mode parting (seen_in instance client mode rows) (numbers_ending whose (ending_by parting) s.rights) others whose
      ∙ ap (λ b. cond b (record (fold (seen_by instance client mode) (seen_in instance client mode rows) others) { holds = 0 }) (fold (seen_by instance client mode) (seen_in instance client mode rows) others)) own in
      let dead : is_live_in new client ≡ false =
      lives_by_sweep client cell rows s k c ∙ ap (λ (all_lines : List Line). live_at client (is_live_in rows client) all_lines) printed
      ∙ parting_lives parting client (is_live_in rows client) (numbers_ending whose (ending_by parting) s.rights) others whose (quiet_silent others (lapses_of_locks parting whose (lapses_of parting s whose)).quiet)
      ∙ ap (λ b. cond b false (is_live_in rows client)) own in
      equal_seen (seen_in instance client mode new) (fold (seen_by instance client mode) (seen_in instance client mode rows) all)
      (sym l.nodes ∙ ap (λ (seen : LockSeen). seen.nodes) apart ∙ sym alike.nodes)
      (sym l.next_instance ∙ ap (λ (seen : LockSeen). seen.next_instance) apart ∙ sym alike.next)
      (kept_generation instance client mode cell new (swept_by s c).0 l ∙ ap (λ (seen : LockSeen). seen.generation) apart ∙ sym alike.generation)
      (dead_holds instance client mode cell new (swept_by s c).0 l dead ∙ sym (ap (λ (seen : LockSeen). seen.holds) ended))

  -- it is that of another client, or its own
  ended_told : (c : SweepCase s) (parting : Parting) (whose : ℕ) → (swept_by s c).1.lines ≡ parting_lines parting s whose (lapses_of parting s whose)
      → ((d : ℕ) → seen_of instance d mode (swept_by s c).0 ≡ seen_with instance d mode s.nodes s.next_instance (fold with_lock_put s.locks (lapses_puts s (lapses_of parting s whose)))) → Tells c
  ended_told c parting whose printed put l =
      let new : Rows = changed_rows rows (swept_edits s c) in
      let all : List Line = parting_lines parting s whose (lapses_of parting s whose) in
      let P : List Line → Type 0 = λ told_lines. seen_in instance client mode new ≡ fold (seen_by instance client mode) (seen_in instance client mode rows) told_lines in
      subst P (sym printed)
      ((elim (whose == client) as (λ b. (whose == client) ≡ b → P all) [
        | true ↦ (λ own. ended_own c parting whose own l printed (whose + 1) (put (whose + 1) ∙ ended_apart instance (whose + 1) mode cell rows s k parting whose (later whose)))
        | false ↦ (λ other.
            kept_seen instance client mode cell new (swept_by s c).0 l ∙ put client ∙ ended_apart instance client mode cell rows s k parting whose other
            ∙ ap (λ (seen : LockSeen). fold (seen_by instance client mode) seen all) (sym (kept_seen instance client mode cell rows s k)))
      ]) refl)

  -- ---- one lock changes

  locked_group : (put : LockPut) (claim : Claim) → IsTaken s put claim → fold (seen_by instance client mode) (seen_of instance client mode s) (locked_line put.instance put.lock.generation claim ∷ []) ≡ seen_with instance client mode s.nodes s.next_instance (with_lock s.locks put.instance put.lock)
  locked_group put claim taken =
      let lock : LockState = lock_at s.locks put.instance in
      let P : LockState → Type 0 = λ l. TellsOf client mode put.instance lock l (locked_line put.instance l.generation claim ∷ []) in
      group_told instance client mode s.nodes s.next_instance s.locks put.instance put.lock (locked_line put.instance put.lock.generation claim ∷ []) taken.there (subst P (sym taken.is) (held_tells client mode put.instance lock claim taken.fit))

  awaited_group : (put : LockPut) → IsAwaited s put → seen_of instance client mode s ≡ seen_with instance client mode s.nodes s.next_instance (with_lock s.locks put.instance put.lock)
  awaited_group put awaited =
      group_told instance client mode s.nodes s.next_instance s.locks put.instance put.lock [] awaited.there
      (tells_nothing client mode put.instance (lock_at s.locks put.instance) put.lock awaited.generation (ap (count_by (holds_so client mode)) awaited.holders))

  left_group : (whose : ℕ) (call : Call) (leave : Leave) → IsGivenBack s whose call leave → fold (seen_by instance client mode) (seen_of instance client mode s) (leave_lines whose leave) ≡ seen_with instance client mode s.nodes s.next_instance (with_lock s.locks leave.instance leave.turn.lock)
  left_group whose call leave given =
      let each = k.locks.each leave.instance in
      group_told instance client mode s.nodes s.next_instance s.locks leave.instance leave.turn.lock (leave_lines whose leave) given.there
      (leaving_tells client mode leave.instance whose (lock_at s.locks leave.instance) (owner_of given.handle) leave.held leave.turn given.own given.turn given.held each.legal.holders each.holders_in_order)

  reopened_group : (at : ℕ) → due s.locks s.clock ≡ Some at → fold (seen_by instance client mode) (seen_of instance client mode s) (lines.Reopened at ∷ locked_lines at (reopened (lock_at s.locks at))) ≡ seen_with instance client mode s.nodes s.next_instance (fold with_lock_put s.locks (puts_of s at (reopened (lock_at s.locks at)).lock))
  reopened_group at lowest =
      let lock : LockState = lock_at s.locks at in
      let left : LockState = record lock { closed = None } in
      let turn : Turn = settled left in
      let placed = busy_placed instance client mode cell rows s at k (due_busy cell rows s k at lowest) in
      let tells : TellsOf client mode at lock turn.lock (lines.Reopened at ∷ locked_lines at turn) =
      tells_more client mode at lock left turn.lock (lines.Reopened at ∷ []) (locked_lines at turn) (another_line client mode at lock left (lines.Reopened at) (λ i seen. refl) refl refl) (turn_tells client mode at left turn (settled_granted client mode left)) in
      group_told instance client mode s.nodes s.next_instance s.locks at turn.lock (lines.Reopened at ∷ locked_lines at turn) placed.there tells
      ∙ ap (λ (puts : List LockPut). seen_with instance client mode s.nodes s.next_instance (fold with_lock_put s.locks puts)) (sym (puts_are s at turn.lock placed.name placed.is))

  -- ---- the map changes

  put_keeps : (name : List ℕ) (view : Node) (next : ℕ) → IsCounted s (Put name view) next → Keeps (get_node s.nodes name) view.instance
  put_keeps name view next (inl kept) = keeps_of (get_node s.nodes name) view.instance kept.0
  put_keeps name view next (inr new) = keeps_none (get_node s.nodes name) view.instance new.0

  -- an instance that is there was given out
  was_below : (name : List ℕ) (n : ℕ) → instance_in s.nodes name ≡ Some n → n < s.next_instance
  was_below name n at =
      let there : is_there s.nodes n ≡ true = named_there s.nodes name n (get_node s.nodes name) refl at in
      let has : has_instance rows.nodes n ≡ true = sym (ap (λ (ns : Nodes). is_there ns n) k.nodes ∙ there_by_rows rows.nodes n) ∙ there in
      let P : ℕ → Type 0 = λ m. n < m in
      subst P (sym k.next_instance) (was_given cell rows.next_instance rows.nodes rows.nodes n (parts_of cell rows k.sound_rows).nodes has)

  put_next : (name : List ℕ) (view : Node) (next : ℕ) → IsCounted s (Put name view) next → next ≡ max s.next_instance (view.instance + 1)
  put_next name view next (inl kept) = next_kept s.next_instance next view.instance (was_below name view.instance kept.0) kept.1
  put_next name view next (inr new) = next_new s.next_instance next view.instance new.1 new.2

  put_told : (name : List ℕ) (view : Node) (next : ℕ) → IsCounted s (Put name view) next → seen_with instance client mode (changed s.nodes (Put name view)) next s.locks ≡ with_change instance (seen_of instance client mode s) (Put name view)
  put_told name view next counted =
      equal_seen (seen_with instance client mode (changed s.nodes (Put name view)) next s.locks) (with_change instance (seen_of instance client mode s) (Put name view)) refl (put_next name view next counted)
      (ap (λ b. cond {A = Option ℕ} b (Some (lock_at s.locks instance).generation) None) (there_put s.nodes name view instance (put_keeps name view next counted))
      ∙ put_generation (is_there s.nodes instance) (view.instance == instance) (lock_at s.locks instance).generation (λ gone. idle_generation cell rows s instance k gone))
      refl

  changed_told : (c : SweepCase s) (change : Mod) (next whose number : ℕ) (names : List (List ℕ)) → IsCounted s change next → seen_of instance client mode (swept_by s c).0 ≡ seen_with instance client mode (changed s.nodes change) next s.locks
      → (swept_by s c).1.lines ≡ lines.Applied whose number change names ∷ [] → swept_edits s c ≡ edit_of change ∷ NextInstance next ∷ [] → Tells c
  changed_told c (Put name view) next whose number names counted behind printed edits l =
      by_masters instance client mode cell rows s k c (behind ∙ put_told name view next counted ∙ ap (λ (told_lines : List Line). fold (seen_by instance client mode) (seen_of instance client mode s) told_lines) (sym printed)) l
  changed_told c (Gone name) next whose number names counted behind printed edits l =
      ap (λ es. seen_in instance client mode (changed_rows rows es)) edits ∙ gone_seen instance client mode rows name next (parts_of cell rows k.sound_rows).distinct (counted ∙ k.next_instance)
      ∙ ap (λ (told_lines : List Line). fold (seen_by instance client mode) (seen_in instance client mode rows) told_lines) (sym printed)

  gone_told : (c : SweepCase s) (change : Mod) (next whose number : ℕ) (names : List (List ℕ)) → IsGone change → IsCounted s change next → (swept_by s c).1.lines ≡ lines.Applied whose number change names ∷ [] → swept_edits s c ≡ edit_of change ∷ NextInstance next ∷ [] → Tells c
  gone_told c (Put name view) next whose number names gone counted printed edits l = absurd gone
  gone_told c (Gone name) next whose number names gone counted printed edits l =
      ap (λ es. seen_in instance client mode (changed_rows rows es)) edits ∙ gone_seen instance client mode rows name next (parts_of cell rows k.sound_rows).distinct (counted ∙ k.next_instance)
      ∙ ap (λ (told_lines : List Line). fold (seen_by instance client mode) (seen_in instance client mode rows) told_lines) (sym printed)

  pub case_told : (c : SweepCase s) → Tells c
  case_told (Quiet none) = by_masters instance client mode cell rows s k (Quiet none) refl
  case_told (Recovers recovering heard) = by_masters instance client mode cell rows s k (Recovers recovering heard) refl
  case_told (Expires whose session due) = ended_told (Expires whose session due) partings.Expiry whose refl (λ d. refl)
  case_told (Departed front back asked call sequencer session turn work leave found live) =
      ended_told (Departed front back asked call sequencer session turn work leave found live) partings.Leave asked.client refl (λ d. refl)
  case_told (Reopens at due) = by_masters instance client mode cell rows s k (Reopens at due) (sym (reopened_group at due.lowest_due))
  case_told (Tidies idle due) =
      let only = asks_only (with_parent idle.name) (queued s (with_parent idle.name) (tasks.Tidies idle)) in
      by_masters instance client mode cell rows s k (Tidies idle due)
      (same_with instance client mode cell rows s k (swept_by s (Tidies idle due)).0 (ap (λ (t : MasterState). t.nodes) only) (ap (λ (t : MasterState). t.next_instance) only) (ap (λ (t : MasterState). t.locks) only))
  case_told (Spared front back idle turn held) = by_masters instance client mode cell rows s k (Spared front back idle turn held) refl
  case_told (Tidied front back idle turn still) = gone_told (Tidied front back idle turn still) (Gone idle.name) s.next_instance 0 0 [] tt refl refl refl
  case_told (AnswersBeat whose session beat due) = by_masters instance client mode cell rows s k (AnswersBeat whose session beat due) refl
  case_told (TurnedAway front back asked principal received turn work may) = by_masters instance client mode cell rows s k (TurnedAway front back asked principal received turn work may) refl
  case_told (StartedAgain front back asked principal received session turn work found live) = by_masters instance client mode cell rows s k (StartedAgain front back asked principal received session turn work found live) refl
  case_told (Started front back asked principal received turn work none) = by_masters instance client mode cell rows s k (Started front back asked principal received turn work none) refl
  case_told (OfEnded front back asked call sequencer turn work gone) = by_masters instance client mode cell rows s k (OfEnded front back asked call sequencer turn work gone) refl
  case_told (Ended front back asked call sequencer None answer turn work stays live made) = by_masters instance client mode cell rows s k (Ended front back asked call sequencer None answer turn work stays live made) refl
  case_told (Ended front back asked call sequencer (Some note) answer turn work stays live made) = by_masters instance client mode cell rows s k (Ended front back asked call sequencer (Some note) answer turn work stays live made) refl
  case_told (Applied front back asked call sequencer None change answer turn work stays live made) =
      let tells = effect_of instance client mode cell rows s k front back asked call sequencer _ turn work made in
      changed_told (Applied front back asked call sequencer None change answer turn work stays live made) change.change change.next_instance asked.client asked.number (put_listing s.nodes change.change) tells.1 refl refl refl
  case_told (Applied front back asked call sequencer (Some note) change answer turn work stays live made) =
      let tells = effect_of instance client mode cell rows s k front back asked call sequencer _ turn work made in
      changed_told (Applied front back asked call sequencer (Some note) change answer turn work stays live made) change.change change.next_instance asked.client asked.number (put_listing s.nodes change.change) tells.1 refl refl refl
  case_told (Deleted front back asked call sequencer change at waiters answer turn work stays live made) =
      let tells = effect_of instance client mode cell rows s k front back asked call sequencer _ turn work made in
      let Q : Effect → Type 0 = Raises s in
      let gone = subst Q made (effect_raises s asked.client asked.number call sequencer) in
      gone_told (Deleted front back asked call sequencer change at waiters answer turn work stays live made) change.change change.next_instance asked.client asked.number (put_listing s.nodes change.change) gone tells.1 refl refl
  case_told (Locked front back asked call sequencer put claim answer turn work stays live made) =
      let tells = effect_of instance client mode cell rows s k front back asked call sequencer _ turn work made in
      by_masters instance client mode cell rows s k (Locked front back asked call sequencer put claim answer turn work stays live made) (sym (locked_group put claim tells.0))
  case_told (Awaited front back asked call sequencer put turn work stays live made) =
      let tells = effect_of instance client mode cell rows s k front back asked call sequencer _ turn work made in
      by_masters instance client mode cell rows s k (Awaited front back asked call sequencer put turn work stays live made) (sym (awaited_group put tells.0))
  case_told (Left front back asked call sequencer None leave answer turn work stays live made) =
      let tells = effect_of instance client mode cell rows s k front back asked call sequencer _ turn work made in
      by_masters instance client mode cell rows s k (Left front back asked call sequencer None leave answer turn work stays live made) (sym (left_group asked.client call leave tells.0))
  case_told (Left front back asked call sequencer (Some note) leave answer turn work stays live made) =
      let tells = effect_of instance client mode cell rows s k front back asked call sequencer _ turn work made in
      by_masters instance client mode cell rows s k (Left front back asked call sequencer (Some note) leave answer turn work stays live made) (sym (left_group asked.client call leave tells.0))
