-- Who gets and who loses a lock by a sweep, and what is printed of it.
use Rattle.std.proofs.Common.{◌≡◌, ℕ, List, [], ◌∷◌, ◌++◌, Bool, true, false, cond, Less, Option, Some, None, refl, sym, ap, subst, ◌∙◌, inl, inr, arith, map}
use Rattle.std.specs.Prelude.{◌⊎◌, ◌&&◌, ◌||◌, ◌==◌, not, filter, fold, is_none, is_some}
use Rattle.std.specs.Option.{option_map, option_map_or}
use Rattle.std.specs.List.{AllByRecursion, list_any}
use Rattle.std.specs.List.Sorted.{IsStrictlySortedBy}
use Rattle.std.specs.Map.{keys_of, lookup}
use Rattle.std.specs.BTreeMap.{is_at}
use Rattle.std.specs.Ordering.{nat_cmp, is_eq}
use Rattle.std.specs.Cmp.{nat_cmp_total, tied_itself}
use Rattle.std.proofs.lemmas.Bool.{eqb-true}
use Rattle.std.proofs.lemmas.Bool.Decides.{nat_tests}
use Rattle.node_core.specs.declared.kinds.LockMode.TheVariants as modes
use Rattle.node_core.specs.declared.lines.Line.{Line}
use Rattle.node_core.specs.declared.lines.Line.TheVariants as lines
use Rattle.node_core.specs.declared.nodes.Node.{Node}
use Rattle.node_core.specs.declared.views.Mod.{Mod}
use Rattle.node_core.specs.declared.views.Mod.TheVariants.{Put, Gone}
use Rattle.node_core.specs.Nodes.{Nodes, with_parent}
use Rattle.rows_cell.specs.declared.keys.LockKey.{LockKey}
use Rattle.rows_cell.specs.declared.tables.LockRow.{LockRow}
use Rattle.rows_cell.specs.declared.tables.StoredNode.{StoredNode}
use Rattle.rows_cell.specs.declared.tables.Rows.{Rows}
use Rattle.rows_cell.specs.declared.tables.Edit.{Edit}
use Rattle.rows_cell.specs.declared.tables.Edit.TheVariants.{NextInstance, RemoveNode}
use Rattle.rows_cell.specs.Rows.{StoredNodes, StoredLocks, stored_node, changed_rows, map_of, nodes_of, without_locks_of}
use Rattle.rows_cell.specs.Indexes.{lock_generation_in, locks_at}
use Rattle.rows_cell.specs.Keys.{lock_order}
use Rattle.rows_cell.proofs.RowNodes.{nodes_get}
use Rattle.lock_core.specs.declared.claims.Claim.{Claim}
use Rattle.lock_core.specs.declared.claims.Closing.{Closing}
use Rattle.lock_core.specs.declared.claims.Hold.{Hold}
use Rattle.lock_core.specs.declared.claims.Owner.{Owner}
use Rattle.lock_core.specs.declared.partings.Parting.{Parting}
use Rattle.lock_core.specs.declared.partings.Parting.TheVariants as partings
use Rattle.lock_core.specs.declared.turns.Lapse.{Lapse}
use Rattle.lock_core.specs.declared.turns.Turn.{Turn}
use Rattle.lock_core.specs.State.{LockState, Holders, owner_order, mode_of, nobody_holds, hold_of}
use Rattle.lock_core.specs.Turns.{is_nobody, held_by, settled, without, is_owner, is_of_client, lapsed, concerns, reopened}
use Rattle.lock_core.specs.Locks.{LockTable, lock_at, with_lock, due}
use Rattle.gate_core.specs.declared.pending.Waiting.{Waiting}
use Rattle.tags_cell.specs.Handles.{read_handle}
use Rattle.tags_cell.specs.declared.handles.Handle.{Handle}
use Rattle.tags_cell.specs.declared.messages.calls.Call.{Call}
use Rattle.master_state.specs.declared.updates.LockPut.{LockPut}
use Rattle.master_parts.specs.Calls.{bytes_of}
use Rattle.master_parts.specs.Claims.{owner_of}
use Rattle.master_parts.specs.Locks.{stored_mode, holder_key, holder_row, holder_rows, closing_rows}
use Rattle.master_parts.specs.NameIndex.{name_of}
use Rattle.master_parts.specs.declared.pending.Task.{Task}
use Rattle.master_parts.specs.declared.pending.Task.TheVariants as tasks
use Rattle.master_parts.specs.declared.pending.WaitingRequest.{WaitingRequest}
use Rattle.master_parts.specs.declared.pending.Work.TheVariants as works
use Rattle.rights_core.specs.Rights.{numbers_ending}
use Rattle.master_state.specs.State.{MasterState}
use Rattle.master_state.specs.Updates.{edit_of, with_lock_put}
use Rattle.master_state.specs.Replies.{locked_line, locked_lines, line_if, puts_of}
use Rattle.master_state.specs.Partings.{right_line, lock_line, ending_by}
use Rattle.master_state.specs.Lapses.{lapse_lines, lapses_lines, lapses_puts, lapses_of, parting_lines}
use Rattle.cell_core.specs.declared.effects.Effect.{Effect}
use Rattle.cell_core.specs.declared.effects.Leave.{Leave}
use Rattle.cell_core.specs.Outcomes.{put_listing, leave_lines}
use Rattle.cell_core.specs.Step.{queued}
use Rattle.cell_core.proofs.AskedFor.{asks_only}
use Rattle.over_core.specs.Kept.{IsKept, is_there, is_idle}
use Rattle.over_core.specs.SweepCase.{SweepCase, IsNextApplied, swept_by, swept_edits}
use Rattle.over_core.specs.SweepCase.SweepCase.{Quiet, Recovers, Expires, Tidies, Spared, Tidied, AnswersBeat, TurnedAway, StartedAgain, Started, Reopens, OfEnded, Ended, Applied, Deleted, Locked, Awaited, Left, Departed}
use Rattle.over_core.proofs.LockPuts.{at_number, lock_at_put}
use Rattle.over_core.proofs.NamedLocks.{named_put, puts_are, own_locks}
use Rattle.world_cell.specs.HolderSteps.{is_held, lets_go}
use Rattle.world_cell.specs.Locks.{holds_by, instance_in}
use Rattle.world_cell.proofs.EffectHolds.{IsTaken, IsAwaited, IsGivenBack, TellsBy}
use Rattle.world_cell.proofs.EffectLocks.{IsGone, Raises, effect_raises}
use Rattle.world_cell.proofs.HeldSweeps.{IsPlaced, all_placed, busy_placed, still_found, kept_generation, effect_of, due_busy}
use Rattle.world_cell.proofs.HeldTurns.{own_key}
use Rattle.world_cell.proofs.HolderTurns.{IsAmong, both_ways, among_left, among_right, among_map, same_owner, held_found, GotIt, IsTold, same_told, held_told, settled_told, more_told, left_told, lapse_told}
use Rattle.world_cell.proofs.InstancesKept.{own_gone, others_stay}
use Rattle.world_cell.proofs.LockHolders.{rows_hold}
use Rattle.world_cell.proofs.LocksRise.{holds_in}

-- ---- what is told of one lock

-- what is told behind it
told_before : (Loses : Owner → Type 0) (at : ℕ) (old new : LockState) (xs ys : List Line) → IsTold Loses at old new xs → IsTold Loses at old new (xs ++ ys)
told_before Loses at old new xs ys h = record {
  gets = λ owner none some. let t = h.gets owner none some in (t.0, t.1, among_left (lines.Locked owner.client at t.0.mode new.generation) xs ys t.2);
  loses = h.loses;
}

weaker_told : (Loses Lost : Owner → Type 0) (at : ℕ) (old new : LockState) (printed : List Line) → ((owner : Owner) → holds_in old.holders owner ≡ true → Loses owner → Lost owner) → IsTold Loses at old new printed → IsTold Lost at old new printed
weaker_told Loses Lost at old new printed f h = record { gets = h.gets; loses = λ owner some none. f owner some (h.loses owner some none) }

same_number : (n : ℕ) → (n == n) ≡ true
same_number n = grind (arith, nat_tests)

-- one lock is put
put_told : (Loses : ℕ → Owner → Type 0) (locks : LockTable) (at : ℕ) (lock : LockState) (printed : List Line) → IsTold (Loses at) at (lock_at locks at) lock printed → (n : ℕ) → IsTold (Loses n) n (lock_at locks n) (lock_at (with_lock locks at lock) n) printed
put_told Loses locks at lock printed h n =
    let new : LockTable = with_lock locks at lock in
    (elim (at == n) as (λ b. (at == n) ≡ b → IsTold (Loses n) n (lock_at locks n) (lock_at new n) printed) [
      | true ↦ (λ is.
          let own : lock_at new at ≡ lock = lock_at_put locks at lock at ∙ ap (λ b. cond b lock (lock_at locks at)) (same_number at) in
          let P : LockState → Type 0 = λ l. IsTold (Loses at) at (lock_at locks at) l printed in
          let Q : ℕ → Type 0 = λ i. IsTold (Loses i) i (lock_at locks i) (lock_at new i) printed in
          subst Q (eqb-true at n is) (subst P (sym own) h))
      | false ↦ (λ apart.
          let found : lock_at new n ≡ lock_at locks n = lock_at_put locks at lock n ∙ ap (λ b. cond b lock (lock_at locks n)) apart in
          same_told (Loses n) n (lock_at locks n) (lock_at new n) printed (ap (λ (l : LockState). l.holders) found))
    ]) refl

-- ---- the end of a session

module _ (s : MasterState) (parting : Parting) (whose : ℕ) where
  abbrev those : LockTable → List Lapse
  those es = map (λ (entry : ℕ × LockState). lapsed parting entry.0 entry.1 whose s.clock) es

  abbrev of_it : LockTable → LockTable
  of_it es = filter (λ (entry : ℕ × LockState). concerns whose entry.1) es

  abbrev OfIt : Owner → Type 0
  OfIt owner = is_of_client whose owner ≡ true

  -- those behind an instance leave it
  rest_stays : (at : ℕ) (es locks : LockTable) → AllByRecursion (λ n. nat_cmp at n ≡ Less) (keys_of es) → lock_at (fold with_lock_put locks (lapses_puts s (those (of_it es)))) at ≡ lock_at locks at
  rest_stays at [] locks less = refl
  rest_stays at (e ∷ es) locks less =
      let lock : LockState = (lapsed parting e.0 e.1 whose s.clock).turn.lock in
      let rest : List LockPut = lapses_puts s (those (of_it es)) in
      let apart : (e.0 == at) ≡ false = sym (at_number at e.0) ∙ ap is_eq less.0 in
      (elim (concerns whose e.1) as (λ b. lock_at (fold with_lock_put locks (lapses_puts s (those (cond b (e ∷ of_it es) (of_it es))))) at ≡ lock_at locks at) [
        | true ↦ (elim (name_of s.nodes e.0) as (λ o. lock_at (fold with_lock_put locks (option_map_or (λ name. named_put name e.0 lock ∷ []) o [] ++ rest)) at ≡ lock_at locks at) [
          | None ↦ rest_stays at es locks less.1
          | Some name ↦ rest_stays at es (with_lock locks e.0 lock) less.1 ∙ lock_at_put locks e.0 lock at ∙ ap (λ b. cond b lock (lock_at locks at)) apart
        ])
        | false ↦ rest_stays at es locks less.1
      ])

  lapse_lines_told : (at : ℕ) (lock : LockState) → IsTold OfIt at lock (lapsed parting at lock whose s.clock).turn.lock (lapse_lines parting whose (lapsed parting at lock whose s.clock))
  lapse_lines_told at lock =
      let lapse : Lapse = lapsed parting at lock whose s.clock in
      more_told OfIt at lock lapse.turn.lock (line_if (not (is_nobody lapse.ended)) (lock_line parting whose at) ++ line_if lapse.reopens (lines.Reopened at)) (locked_lines at lapse.turn) (lapse_told parting at lock whose s.clock)

  each_told : (es there : LockTable) → IsStrictlySortedBy nat_cmp (keys_of es) → AllByRecursion (λ (e : ℕ × LockState). lock_at there e.0 ≡ e.1) es → AllByRecursion (λ (e : ℕ × LockState). concerns whose e.1 ≡ true → IsPlaced 0 0 modes.Shared s e.0) es
      → (n : ℕ) → IsTold OfIt n (lock_at there n) (lock_at (fold with_lock_put there (lapses_puts s (those (of_it es)))) n) (lapses_lines parting whose (those (of_it es)))
  unfolding IsStrictlySortedBy
  each_told [] there sorted found placed n = same_told OfIt n (lock_at there n) (lock_at there n) [] refl
  each_told (e ∷ es) there sorted found placed n =
      (elim (concerns whose e.1) as (λ b. concerns whose e.1 ≡ b → IsTold OfIt n (lock_at there n) (lock_at (fold with_lock_put there (lapses_puts s (those (cond b (e ∷ of_it es) (of_it es))))) n) (lapses_lines parting whose (those (cond b (e ∷ of_it es) (of_it es))))) [
        | true ↦ (λ is.
            let lapse : Lapse = lapsed parting e.0 e.1 whose s.clock in
            let lock : LockState = lapse.turn.lock in
            let at = placed.0 is in
            let first : List Line = lapse_lines parting whose lapse in
            let rest : List Line = lapses_lines parting whose (those (of_it es)) in
            let puts : List LockPut = lapses_puts s (those (of_it es)) in
            let put : LockTable = with_lock there e.0 lock in
            let final : LockTable = fold with_lock_put put puts in
            let P : LockState → Type 0 = λ old. IsTold OfIt e.0 old lock first in
            let one : P (lock_at there e.0) = subst P (sym found.0) (lapse_lines_told e.0 e.1) in
            let own : lock_at put e.0 ≡ lock = lock_at_put there e.0 lock e.0 ∙ ap (λ b. cond b lock (lock_at there e.0)) (same_number e.0) in
            let R : List LockPut → Type 0 = λ ps. IsTold OfIt n (lock_at there n) (lock_at (fold with_lock_put there (ps ++ puts)) n) (first ++ rest) in
            let here : R (named_put at.name e.0 lock ∷ []) =
            (elim (e.0 == n) as (λ b. (e.0 == n) ≡ b → IsTold OfIt n (lock_at there n) (lock_at final n) (first ++ rest)) [
              | true ↦ (λ same.
                  let last : lock_at final e.0 ≡ lock = rest_stays e.0 es put sorted.0 ∙ own in
                  let S : LockState → Type 0 = λ l. IsTold OfIt e.0 (lock_at there e.0) l (first ++ rest) in
                  let T : ℕ → Type 0 = λ i. IsTold OfIt i (lock_at there i) (lock_at final i) (first ++ rest) in
                  subst T (eqb-true e.0 n same) (subst S (sym last) (told_before OfIt e.0 (lock_at there e.0) lock first rest one)))
              | false ↦ (λ apart.
                  let stays : lock_at put n ≡ lock_at there n = lock_at_put there e.0 lock n ∙ ap (λ b. cond b lock (lock_at there n)) apart in
                  let S : LockState → Type 0 = λ l. IsTold OfIt n l (lock_at final n) (first ++ rest) in
                  subst S stays (more_told OfIt n (lock_at put n) (lock_at final n) first rest (each_told es put sorted.1 (still_found 0 0 modes.Shared there e.0 lock es sorted.0 found.1) placed.1 n)))
            ]) refl in
            subst R (sym (puts_are s e.0 lock at.name at.is)) here)
        | false ↦ (λ is. each_told es there sorted.1 found.1 placed.1 n)
      ]) refl

-- ---- why a handle no longer holds a lock

-- a Release or a Close of it has its turn
pub record IsLetGo (s : MasterState) (printed : List Line) (at : ℕ) (owner : Owner) : Type 0 where
  pub asked : WaitingRequest
  pub waited : IsAmong (tasks.Asked asked) (map (λ (w : Waiting Task). w.change.body) s.gate.waiting)
  pub call : Call
  pub sequencer : Option (List ℕ)
  pub work : asked.work ≡ works.Calls call sequencer
  pub lets : lets_go call ≡ true
  pub handle : Handle
  pub reads : read_handle s.secret (bytes_of call) ≡ Some handle
  pub instance : handle.instance ≡ at
  pub own : owner_of handle ≡ owner
  pub told : IsAmong (lines.Freed owner.client at) printed

-- its node goes
pub record IsGoing (rows : Rows) (printed : List Line) (at : ℕ) : Type 0 where
  pub client : ℕ
  pub number : ℕ
  pub name : List ℕ
  pub names : List (List ℕ)
  pub told : IsAmong (lines.Applied client number (Gone name) names) printed
  pub found : instance_in (map_of rows) name ≡ Some at

abbrev pub IsLost : MasterState → Rows → List Line → ℕ → Owner → Type 0
IsLost s rows printed at owner = IsLetGo s printed at owner ⊎ IsAmong (lines.Ended owner.client) printed ⊎ IsGoing rows printed at

-- by the rows: who gets a lock, and with which line
pub record IsGot (new : Rows) (printed : List Line) (key : LockKey) : Type 0 where
  pub hold : Hold
  pub generation : ℕ
  pub found : lookup (is_at (lock_order key)) (locks_at new.locks key.instance) ≡ Some (holder_row hold)
  pub counted : lock_generation_in new.nodes key.instance ≡ Some generation
  pub told : IsAmong (lines.Locked key.client key.instance hold.mode generation) printed

abbrev pub owner_at : LockKey → Owner
owner_at key = record { client = key.client; handle = key.handle }

-- ---- rows beside a master

same_key : (instance : ℕ) (owner other : Owner) → is_at (lock_order (holder_key instance owner)) (holder_key instance other) ≡ is_at (owner_order owner) other
same_key instance owner other = rw (tied_itself nat_cmp_total instance) refl

holder_found : (instance : ℕ) (owner : Owner) (holders : Holders) → lookup (is_at (lock_order (holder_key instance owner))) (holder_rows instance holders) ≡ option_map holder_row (lookup (is_at (owner_order owner)) holders)
holder_found instance owner [] = refl
holder_found instance owner (e ∷ es) =
    ap (λ b. cond b (Some (holder_row e.1)) (lookup (is_at (lock_order (holder_key instance owner))) (holder_rows instance es))) (same_key instance owner e.0)
    ∙ (elim (is_at (owner_order owner) e.0) as (λ b. cond b (Some (holder_row e.1)) (lookup (is_at (lock_order (holder_key instance owner))) (holder_rows instance es)) ≡ option_map holder_row (cond b (Some e.1) (lookup (is_at (owner_order owner)) es))) [
      | true ↦ refl
      | false ↦ holder_found instance owner es
    ])

some_holder : (holders : Holders) (owner : Owner) (hold : Hold) → lookup (is_at (owner_order owner)) holders ≡ Some hold → is_none (mode_of holders) ≡ false
some_holder [] owner hold h = absurd cc
some_holder (e ∷ es) owner hold h = refl

row_found : (instance : ℕ) (owner : Owner) (hold : Hold) (closed : Option Closing) (holders : Holders) → (is_none closed || is_none (mode_of holders)) ≡ true → lookup (is_at (owner_order owner)) holders ≡ Some hold
    → lookup (is_at (lock_order (holder_key instance owner))) (closing_rows instance closed ++ holder_rows instance holders) ≡ Some (holder_row hold)
row_found instance owner hold None holders unclosed found = holder_found instance owner holders ∙ ap (option_map holder_row) found
row_found instance owner hold (Some closing) holders unclosed found = let some = some_holder holders owner hold found in absurd cc

held_busy : (a b c : Bool) (holders : Holders) → is_none (mode_of holders) ≡ false → (a && b && is_none (mode_of holders) && c) ≡ false
held_busy a b c holders h = ap (λ n. a && b && n && c) h ∙ none_of (a && b) c
  where
    none_of : (x y : Bool) → (x && false && y) ≡ false
    none_of true y = refl
    none_of false y = refl

kept_held : (cell : List ℕ) (rows : Rows) (s : MasterState) → IsKept cell rows s → (key : LockKey) → is_held rows key ≡ holds_in (lock_at s.locks key.instance).holders (owner_at key)
kept_held cell rows s k key =
    ap (λ (ls : StoredLocks). holds_by ls key) (k.locks.rows_of_locks key.instance) ∙ rows_hold key.instance (lock_at s.locks key.instance).closed (lock_at s.locks key.instance).holders (owner_at key)

kept_got : (cell : List ℕ) (rows : Rows) (s : MasterState) → IsKept cell rows s → (printed : List Line) (key : LockKey) → GotIt (lock_at s.locks key.instance) key.instance (owner_at key) printed → IsGot rows printed key
kept_got cell rows s k printed key h =
    let lock : LockState = lock_at s.locks key.instance in
    let busy : is_idle lock ≡ false = held_busy (lock.generation == 0) (is_none lock.closed) (is_nobody lock.waiters) lock.holders (some_holder lock.holders (owner_at key) h.0 h.1) in
    let placed = busy_placed 0 0 modes.Shared cell rows s key.instance k busy in
    record {
      hold = h.0;
      generation = lock.generation;
      found =
          ap (λ (ls : StoredLocks). lookup (is_at (lock_order key)) ls) (k.locks.rows_of_locks key.instance)
          ∙ row_found key.instance (owner_at key) h.0 lock.closed lock.holders (k.locks.each key.instance).legal.closed h.1;
      counted = kept_generation key.instance 0 modes.Shared cell rows s k ∙ ap (λ b. cond {A = Option ℕ} b (Some lock.generation) None) placed.there;
      told = h.2;
    }

-- ---- a node that goes

gone_rows : (rows : Rows) (name : List ℕ) (n : ℕ) → (locks_at (without_locks_of (stored_node rows.nodes name) rows.locks) n ≡ locks_at rows.locks n) ⊎ ((locks_at (without_locks_of (stored_node rows.nodes name) rows.locks) n ≡ []) × (instance_in (map_of rows) name ≡ Some n))
gone_rows rows name n = by_node (stored_node rows.nodes name) (ap (λ o. option_map (λ (view : Node). view.instance) o) (nodes_get rows.nodes name))
  where
    by_node : (o : Option StoredNode) → instance_in (map_of rows) name ≡ option_map (λ (view : Node). view.instance) (option_map (λ (node : StoredNode). node.node) o)
        → (locks_at (without_locks_of o rows.locks) n ≡ locks_at rows.locks n) ⊎ ((locks_at (without_locks_of o rows.locks) n ≡ []) × (instance_in (map_of rows) name ≡ Some n))
    by_node None named = inl refl
    by_node (Some node) named =
        let m : ℕ = node.node.instance in
        let left : StoredLocks = filter (λ (e : LockKey × LockRow). not (e.0.instance == m)) rows.locks in
        (elim (m == n) as (λ b. (m == n) ≡ b → (locks_at left n ≡ locks_at rows.locks n) ⊎ ((locks_at left n ≡ []) × (instance_in (map_of rows) name ≡ Some n))) [
          | true ↦ (λ is.
              let P : ℕ → Type 0 = λ i. locks_at left i ≡ [] in
              inr (subst P (eqb-true m n is) (own_gone rows.locks m), named ∙ ap (λ (i : ℕ). Some i) (eqb-true m n is)))
          | false ↦ (λ is. inl (others_stay rows.locks m n is))
        ]) refl

-- ---- a sweep

module _ (cell : List ℕ) (rows : Rows) (s : MasterState) (k : IsKept cell rows s) where
  abbrev Gets : SweepCase s → LockKey → Type 0
  Gets c key = is_held rows key ≡ false → is_held (changed_rows rows (swept_edits s c)) key ≡ true → IsGot (changed_rows rows (swept_edits s c)) (swept_by s c).1.lines key

  abbrev Loses : SweepCase s → LockKey → Type 0
  Loses c key = is_held rows key ≡ true → is_held (changed_rows rows (swept_edits s c)) key ≡ false → IsLost s rows (swept_by s c).1.lines key.instance (owner_at key)

  abbrev IsToldOf : SweepCase s → Type 0
  IsToldOf c = IsKept cell (changed_rows rows (swept_edits s c)) (swept_by s c).0 → (key : LockKey) → Gets c key × Loses c key

  -- by the locks before it and behind it
  by_locks : (c : SweepCase s) → ((n : ℕ) → IsTold (IsLost s rows (swept_by s c).1.lines n) n (lock_at s.locks n) (lock_at (swept_by s c).0.locks n) (swept_by s c).1.lines) → IsToldOf c
  by_locks c h l key =
      let new : Rows = changed_rows rows (swept_edits s c) in
      let was = kept_held cell rows s k key in
      let is = kept_held cell new (swept_by s c).0 l key in (
        λ none some. kept_got cell new (swept_by s c).0 l (swept_by s c).1.lines key ((h key.instance).gets (owner_at key) (sym was ∙ none) (sym is ∙ some)),
        λ some none. (h key.instance).loses (owner_at key) (sym was ∙ some) (sym is ∙ none),
      )

  same_locks : (c : SweepCase s) → (swept_by s c).0.locks ≡ s.locks → IsToldOf c
  same_locks c same = by_locks c (λ n. same_told (IsLost s rows (swept_by s c).1.lines n) n (lock_at s.locks n) (lock_at (swept_by s c).0.locks n) (swept_by s c).1.lines (ap (λ (ls : LockTable). (lock_at ls n).holders) same))

  -- a node goes
  gone_told : (c : SweepCase s) (change : Mod) (next whose number : ℕ) (names : List (List ℕ)) → IsGone change → (swept_by s c).1.lines ≡ lines.Applied whose number change names ∷ [] → swept_edits s c ≡ edit_of change ∷ NextInstance next ∷ [] → IsToldOf c
  gone_told c (Put name view) next whose number names gone printed edits l key = absurd gone
  gone_told c (Gone name) next whose number names gone printed edits l key =
      let left : StoredLocks = without_locks_of (stored_node rows.nodes name) rows.locks in
      let now : is_held (changed_rows rows (swept_edits s c)) key ≡ holds_by (locks_at left key.instance) key = ap (λ (es : List Edit). is_held (changed_rows rows es) key) edits in
      let told : IsAmong (lines.Applied whose number (Gone name) names) (swept_by s c).1.lines = let P : List Line → Type 0 = IsAmong (lines.Applied whose number (Gone name) names) in subst P (sym printed) (inl refl) in
      by_rows (gone_rows rows name key.instance) now told
    where
      by_rows : (locks_at (without_locks_of (stored_node rows.nodes name) rows.locks) key.instance ≡ locks_at rows.locks key.instance) ⊎ ((locks_at (without_locks_of (stored_node rows.nodes name) rows.locks) key.instance ≡ []) × (instance_in (map_of rows) name ≡ Some key.instance))
          → is_held (changed_rows rows (swept_edits s c)) key ≡ holds_by (locks_at (without_locks_of (stored_node rows.nodes name) rows.locks) key.instance) key
          → IsAmong (lines.Applied whose number (Gone name) names) (swept_by s c).1.lines → Gets c key × Loses c key
      by_rows (inl same) now told =
          let stays : is_held (changed_rows rows (swept_edits s c)) key ≡ is_held rows key = now ∙ ap (λ (ls : StoredLocks). holds_by ls key) same in
          (λ none some. absurd (both_ways (is_held rows key) none (sym stays ∙ some)), λ some none. absurd (both_ways (is_held rows key) (sym stays ∙ none) some))
      by_rows (inr went) now told =
          let none_left : is_held (changed_rows rows (swept_edits s c)) key ≡ false = now ∙ ap (λ (ls : StoredLocks). holds_by ls key) went.0 in
          (λ none some. absurd (both_ways (is_held (changed_rows rows (swept_edits s c)) key) none_left some), λ some none. inr (inr (record { client = whose; number = number; name = name; names = names; told = told; found = went.1 })))

  -- a change that leaves the locks, or by which a node goes
  changed_told : (c : SweepCase s) (change : Mod) (next whose number : ℕ) (names : List (List ℕ)) → (swept_by s c).0.locks ≡ s.locks → (swept_by s c).1.lines ≡ lines.Applied whose number change names ∷ [] → swept_edits s c ≡ edit_of change ∷ NextInstance next ∷ [] → IsToldOf c
  changed_told c (Put name view) next whose number names same printed edits = same_locks c same
  changed_told c (Gone name) next whose number names same printed edits = gone_told c (Gone name) next whose number names tt printed edits

  -- a session ends
  ended_told : (c : SweepCase s) (parting : Parting) (whose : ℕ) → (swept_by s c).1.lines ≡ parting_lines parting s whose (lapses_of parting s whose) → (swept_by s c).0.locks ≡ fold with_lock_put s.locks (lapses_puts s (lapses_of parting s whose)) → IsToldOf c
  ended_told c parting whose printed locks =
      let own = own_locks s.locks k.locks.in_order in
      let others : List Line = lapses_lines parting whose (lapses_of parting s whose) in
      let rights : List Line = map (right_line parting) (numbers_ending whose (ending_by parting) s.rights) in
      let final : LockTable = fold with_lock_put s.locks (lapses_puts s (lapses_of parting s whose)) in
      let all : List Line = rights ++ others ++ lines.Ended whose ∷ [] in
      let each = each_told s parting whose s.locks s.locks k.locks.in_order own (all_placed 0 0 modes.Shared cell rows s whose s.locks k own) in
      let last : IsAmong (lines.Ended whose) all = among_right (lines.Ended whose) (rights ++ others) (lines.Ended whose ∷ []) (inl refl) in
      let E : Owner → Type 0 = λ owner. is_of_client whose owner ≡ true in
      let told : (n : ℕ) → IsTold (IsLost s rows all n) n (lock_at s.locks n) (lock_at final n) all = λ n.
      weaker_told E (IsLost s rows all n) n (lock_at s.locks n) (lock_at final n) all
      (λ owner some of_it. inr (inl (let P : ℕ → Type 0 = λ i. IsAmong (lines.Ended i) all in subst P (sym (eqb-true owner.client whose of_it)) last)))
      (told_before E n (lock_at s.locks n) (lock_at final n) (rights ++ others) (lines.Ended whose ∷ []) (more_told E n (lock_at s.locks n) (lock_at final n) rights others (each n))) in
      let P : List Line → Type 0 = λ ls. (n : ℕ) → IsTold (IsLost s rows ls n) n (lock_at s.locks n) (lock_at final n) ls in
      let Q : LockTable → Type 0 = λ t. (n : ℕ) → IsTold (IsLost s rows (swept_by s c).1.lines n) n (lock_at s.locks n) (lock_at t n) (swept_by s c).1.lines in
      by_locks c (subst Q (sym locks) (subst P (sym printed) told))

  -- a handle leaves a lock
  left_group : (front back : List (Waiting Task)) (asked : WaitingRequest) (call : Call) (sequencer : Option (List ℕ)) (leave : Leave) → IsNextApplied s front (tasks.Asked asked) back → asked.work ≡ works.Calls call sequencer → IsGivenBack s asked.client call leave
      → (n : ℕ) → IsTold (IsLost s rows (leave_lines asked.client leave) n) n (lock_at s.locks n) (lock_at (with_lock s.locks leave.instance leave.turn.lock) n) (leave_lines asked.client leave)
  left_group front back asked call sequencer leave turn work given =
      let lock : LockState = lock_at s.locks leave.instance in
      let owner : Owner = owner_of given.handle in
      let printed : List Line = leave_lines asked.client leave in
      let E : Owner → Type 0 = λ o. is_owner owner o ≡ true in
      let one : IsTold E leave.instance lock leave.turn.lock printed =
      more_told E leave.instance lock leave.turn.lock (line_if leave.held (lines.Freed asked.client leave.instance)) (locked_lines leave.instance leave.turn) (left_told (is_owner owner) leave.instance lock leave.turn (inr given.turn)) in
      put_told (IsLost s rows printed) s.locks leave.instance leave.turn.lock printed
      (weaker_told E (IsLost s rows printed leave.instance) leave.instance lock leave.turn.lock printed
      (λ o some is.
      let same : owner ≡ o = same_owner owner o (own_key owner o ∙ is) in
      let found = held_found lock.holders o some in
      let held : leave.held ≡ true = given.held ∙ ap is_some (ap (hold_of lock) same ∙ found.1) in
      let client : asked.client ≡ o.client = sym given.own ∙ ap (λ (x : Owner). x.client) same in
      let freed : IsAmong (lines.Freed asked.client leave.instance) printed =
      among_left (lines.Freed asked.client leave.instance) (line_if leave.held (lines.Freed asked.client leave.instance)) (locked_lines leave.instance leave.turn)
      (let P : Bool → Type 0 = λ b. IsAmong (lines.Freed asked.client leave.instance) (line_if b (lines.Freed asked.client leave.instance)) in subst P (sym held) (inl refl)) in
      let P : ℕ → Type 0 = λ i. IsAmong (lines.Freed i leave.instance) printed in
      let w : Waiting Task = record { number = turn.number; change = record { touched = turn.touched; body = tasks.Asked asked } } in
      let Q : List (Waiting Task) → Type 0 = λ ws. IsAmong w ws in
      let stood : Q s.gate.waiting = subst Q (sym turn.waited) (among_right w front (w ∷ back) (inl refl)) in
      inl (record {
        asked = asked;
        waited = among_map (λ (x : Waiting Task). x.change.body) w s.gate.waiting stood;
        call = call;
        sequencer = sequencer;
        work = work;
        lets = given.lets;
        handle = given.handle;
        reads = given.reads;
        instance = sym given.at;
        own = same;
        told = subst P client freed;
      }))
      one)

  locked_group : (put : LockPut) (claim : Claim) → IsTaken s put claim
      → (n : ℕ) → IsTold (IsLost s rows (locked_line put.instance put.lock.generation claim ∷ []) n) n (lock_at s.locks n) (lock_at (with_lock s.locks put.instance put.lock) n) (locked_line put.instance put.lock.generation claim ∷ [])
  locked_group put claim taken =
      let lock : LockState = lock_at s.locks put.instance in
      let P : LockState → Type 0 = λ l. IsTold (IsLost s rows (locked_line put.instance l.generation claim ∷ []) put.instance) put.instance lock l (locked_line put.instance l.generation claim ∷ []) in
      put_told (IsLost s rows (locked_line put.instance put.lock.generation claim ∷ [])) s.locks put.instance put.lock (locked_line put.instance put.lock.generation claim ∷ [])
      (subst P (sym taken.is) (held_told (IsLost s rows (locked_line put.instance (held_by lock claim).generation claim ∷ []) put.instance) put.instance lock claim taken.fit))

  reopened_group : (at : ℕ) → due s.locks s.clock ≡ Some at → (n : ℕ) → IsTold (IsLost s rows (lines.Reopened at ∷ locked_lines at (reopened (lock_at s.locks at))) n) n (lock_at s.locks n) (lock_at (fold with_lock_put s.locks (puts_of s at (reopened (lock_at s.locks at)).lock)) n) (lines.Reopened at ∷ locked_lines at (reopened (lock_at s.locks at)))
  reopened_group at lowest n =
      let lock : LockState = lock_at s.locks at in
      let left : LockState = record lock { closed = None } in
      let turn : Turn = settled left in
      let printed : List Line = lines.Reopened at ∷ locked_lines at turn in
      let placed = busy_placed 0 0 modes.Shared cell rows s at k (due_busy cell rows s k at lowest) in
      let one : IsTold (IsLost s rows printed at) at lock turn.lock printed = more_told (IsLost s rows printed at) at lock turn.lock (lines.Reopened at ∷ []) (locked_lines at turn) (settled_told (IsLost s rows printed at) at lock left refl) in
      let P : List LockPut → Type 0 = λ puts. IsTold (IsLost s rows printed n) n (lock_at s.locks n) (lock_at (fold with_lock_put s.locks puts) n) printed in
      subst P (sym (puts_are s at turn.lock placed.name placed.is)) (put_told (IsLost s rows printed) s.locks at turn.lock printed one n)

  pub case_keys : (c : SweepCase s) → IsToldOf c
  case_keys (Quiet none) = same_locks (Quiet none) refl
  case_keys (Recovers recovering heard) = same_locks (Recovers recovering heard) refl
  case_keys (Expires whose session due) = ended_told (Expires whose session due) partings.Expiry whose refl refl
  case_keys (Departed front back asked call sequencer session turn work leave found live) = ended_told (Departed front back asked call sequencer session turn work leave found live) partings.Leave asked.client refl refl
  case_keys (Reopens at due) = by_locks (Reopens at due) (reopened_group at due.lowest_due)
  case_keys (Tidies idle due) =
      let only = asks_only (with_parent idle.name) (queued s (with_parent idle.name) (tasks.Tidies idle)) in
      same_locks (Tidies idle due) (ap (λ (t : MasterState). t.locks) only)
  case_keys (Spared front back idle turn held) = same_locks (Spared front back idle turn held) refl
  case_keys (Tidied front back idle turn still) = gone_told (Tidied front back idle turn still) (Gone idle.name) s.next_instance 0 0 [] tt refl refl
  case_keys (AnswersBeat whose session beat due) = same_locks (AnswersBeat whose session beat due) refl
  case_keys (TurnedAway front back asked principal received turn work may) = same_locks (TurnedAway front back asked principal received turn work may) refl
  case_keys (StartedAgain front back asked principal received session turn work found live) = same_locks (StartedAgain front back asked principal received session turn work found live) refl
  case_keys (Started front back asked principal received turn work none) = same_locks (Started front back asked principal received turn work none) refl
  case_keys (OfEnded front back asked call sequencer turn work gone) = same_locks (OfEnded front back asked call sequencer turn work gone) refl
  case_keys (Ended front back asked call sequencer None answer turn work stays live made) = same_locks (Ended front back asked call sequencer None answer turn work stays live made) refl
  case_keys (Ended front back asked call sequencer (Some note) answer turn work stays live made) = same_locks (Ended front back asked call sequencer (Some note) answer turn work stays live made) refl
  case_keys (Applied front back asked call sequencer None change answer turn work stays live made) =
      changed_told (Applied front back asked call sequencer None change answer turn work stays live made) change.change change.next_instance asked.client asked.number (put_listing s.nodes change.change) refl refl refl
  case_keys (Applied front back asked call sequencer (Some note) change answer turn work stays live made) =
      changed_told (Applied front back asked call sequencer (Some note) change answer turn work stays live made) change.change change.next_instance asked.client asked.number (put_listing s.nodes change.change) refl refl refl
  case_keys (Deleted front back asked call sequencer change at waiters answer turn work stays live made) =
      let Q : Effect → Type 0 = Raises s in
      let gone = subst Q made (effect_raises s asked.client asked.number call sequencer) in
      gone_told (Deleted front back asked call sequencer change at waiters answer turn work stays live made) change.change change.next_instance asked.client asked.number (put_listing s.nodes change.change) gone refl refl
  case_keys (Locked front back asked call sequencer put claim answer turn work stays live made) =
      let tells = effect_of 0 0 modes.Shared cell rows s k front back asked call sequencer _ turn work made in
      by_locks (Locked front back asked call sequencer put claim answer turn work stays live made) (locked_group put claim tells.0)
  case_keys (Awaited front back asked call sequencer put turn work stays live made) =
      let tells = effect_of 0 0 modes.Shared cell rows s k front back asked call sequencer _ turn work made in
      by_locks (Awaited front back asked call sequencer put turn work stays live made)
      (put_told (IsLost s rows []) s.locks put.instance put.lock [] (same_told (IsLost s rows [] put.instance) put.instance (lock_at s.locks put.instance) put.lock [] tells.0.holders))
  case_keys (Left front back asked call sequencer None leave answer turn work stays live made) =
      let tells = effect_of 0 0 modes.Shared cell rows s k front back asked call sequencer _ turn work made in
      by_locks (Left front back asked call sequencer None leave answer turn work stays live made) (left_group front back asked call sequencer leave turn work tells.0)
  case_keys (Left front back asked call sequencer (Some note) leave answer turn work stays live made) =
      let tells = effect_of 0 0 modes.Shared cell rows s k front back asked call sequencer _ turn work made in
      by_locks (Left front back asked call sequencer (Some note) leave answer turn work stays live made) (left_group front back asked call sequencer leave turn work tells.0)
