-- A master that comes up stands beside its rows.
use Rattle.std.proofs.Common.{◌≡◌, ℕ, List, [], ◌∷◌, Bool, true, false, cond, Some, refl, sym, ap, subst, ◌∙◌, arith}
use Rattle.std.specs.Prelude.{◌+◌, ◌≤◌, map}
use Rattle.std.specs.Option.{unwrap_or}
use Rattle.std.specs.List.{sum_by}
use Rattle.std.specs.List.Sorted.{IsStrictlySortedBy}
use Rattle.std.specs.Map.{keys_of, lookup, values_of}
use Rattle.std.specs.BTreeMap.{is_at}
use Rattle.std.specs.Cmp.Lexicographic.{slice_cmp}
use Rattle.std.specs.Ordering.{nat_cmp}
use Rattle.std.proofs.lemmas.List.Elements.{All-nil}
use Rattle.rows_cell.specs.declared.settings.MasterTerms.{MasterTerms}
use Rattle.rows_cell.specs.declared.tables.SessionRow as stored
use Rattle.rows_cell.specs.declared.tables.Rows.{Rows}
use Rattle.rows_cell.specs.Keys.{lock_order}
use Rattle.rows_cell.specs.declared.tables.Edit.TheVariants.{Epoch}
use Rattle.rows_cell.specs.Rows.{changed_rows}
use Rattle.rows_cell.specs.Sound.{sound}
use Rattle.rows_cell.specs.Stores.{Store, IsCommitted}
use Rattle.tags_cell.specs.declared.messages.outs.Reply.{Reply}
use Rattle.gate_core.specs.declared.pending.Waiting.{Waiting}
use Rattle.session_core.specs.declared.records.Session.{Session}
use Rattle.event_core.specs.Queue.{empty_queue}
use Rattle.session_core.specs.Session.{first_events, events_of}
use Rattle.session_core.specs.Sessions.{kept_of}
use Rattle.session_core.proofs.RowsOfSessions.{rows_of}
use Rattle.master_parts.specs.declared.pending.Task.{Task}
use Rattle.master_parts.specs.Locks.{locks_of}
use Rattle.master_state.specs.State.{MasterState, master_of}
use Rattle.master_parts.specs.StoredSessions.{taken_over, sessions_of, row_of}
use Rattle.cell_core.specs.Names.{names_touched}
use Rattle.over_core.specs.Kept.{IsKept, IsOwnTask, waits_count, unanswered}
use Rattle.over_core.specs.Up.{up_edits}
use Rattle.over_core.proofs.LocksRebuilt.{nobody_outstanding, locks_rebuilt}

-- the sessions that a master takes over are those of its rows
same_rows : (now : ℕ) (es : List (ℕ × stored.SessionRow)) → rows_of row_of (map (taken_over now) es) ≡ es
same_rows now [] = refl
same_rows now (e ∷ es) = ap (λ (xs : List (ℕ × stored.SessionRow)). e ∷ xs) (same_rows now es)

-- none of them has acknowledged an event or was issued an invalidation
none_counted : (f : Session Reply → ℕ) (now : ℕ) → ((e : ℕ × stored.SessionRow) → f (taken_over now e).1 ≡ 0) → (es : List (ℕ × stored.SessionRow)) (client : ℕ) (session : Session Reply) → lookup (is_at (nat_cmp client)) (map (taken_over now) es) ≡ Some session → f session ≡ 0
none_counted f now none [] client session h = absurd (cc)
none_counted f now none (e ∷ es) client session h =
    (elim (is_at (nat_cmp client) e.0) as (λ b. cond b (Some (taken_over now e).1) (lookup (is_at (nat_cmp client)) (map (taken_over now) es)) ≡ Some session → f session ≡ 0) [
      | true ↦ (λ k. let same : (taken_over now e).1 ≡ session = cc in ap f (sym same) ∙ none e)
      | false ↦ (λ k. none_counted f now none es client session k)
    ]) h

-- the first event waits
nothing_heard : (live : Bool) → (unwrap_or (first_events live) empty_queue).acknowledged ≡ 0
nothing_heard true = refl
nothing_heard false = refl

none_counts : {P : Type 0} (n : ℕ) → n ≡ 0 → 1 ≤ n → P
none_counts n none some = absurd (omega arith)

at_most : (a b : ℕ) → a ≡ 0 → 0 + a ≤ b
at_most a b none = omega (arith, none)

-- ---- the master

pub up_kept : (cell : List ℕ) (rows : Rows) (terms : MasterTerms) (now : ℕ) → sound cell rows ≡ true → IsStrictlySortedBy nat_cmp (keys_of rows.sessions) → IsStrictlySortedBy lock_order (keys_of rows.locks) → IsStrictlySortedBy (slice_cmp nat_cmp) (keys_of rows.nodes) → IsKept cell rows (master_of rows terms now)
up_kept cell rows terms now h sessions locks names = record {
  name = refl;
  secret = refl;
  epoch = refl;
  next_instance = refl;
  ended_below = refl;
  nodes = refl;
  sessions = same_rows now rows.sessions;
  sound_rows = h;
  waiting = refl;
  locks = locks_rebuilt cell rows terms now h locks;
  one_call = (
    λ client. at_most 0 (unanswered (kept_of (sessions_of rows terms.lease now) client)) refl,
    λ client. at_most (sum_by (waits_count client) (values_of (locks_of rows now))) (unanswered (kept_of (sessions_of rows terms.lease now) client)) (nobody_outstanding rows now client),
  );
  names_in_order = names;
  sessions_in_order = sessions;
  locks_in_order = locks;
  recovery_is_empty = λ recovering. refl;
  by_beats = λ client session found some. none_counts (events_of session).acknowledged (none_counted (λ x. (events_of x).acknowledged) now (λ e. nothing_heard e.1.live) rows.sessions client session found) some;
  recorded = record { numbered = tt; counted = omega arith; few = omega arith; once = tt; called = tt; within = tt };
  issued = λ client session found. none_counted (λ x. x.invalidations.issued) now (λ e. refl) rows.sessions client session found;
  owned = λ client none new. refl;
  orderly = record { rising = omega arith; counted = omega arith; few = omega arith };
  touching = All-nil (λ (w : Waiting Task). w.change.touched ≡ names_touched rows.secret w.change.body);
  own = All-nil (λ (w : Waiting Task). IsOwnTask rows.secret w.change.body);
}

-- the same of a store that was read and then commits the epoch
pub up_stands : (read new : Store) (rows : Rows) (s : MasterState) (terms : MasterTerms) (now : ℕ) → sound read.cell (changed_rows read.rows (up_edits read.rows)) ≡ true → rows ≡ changed_rows read.rows (up_edits read.rows) → IsStrictlySortedBy nat_cmp (keys_of rows.sessions) → IsStrictlySortedBy lock_order (keys_of rows.locks) → IsStrictlySortedBy (slice_cmp nat_cmp) (keys_of rows.nodes) → s ≡ master_of rows terms now → IsCommitted (Epoch rows.epoch ∷ []) read new → IsKept new.cell new.rows s
up_stands read new rows s terms now h next sessions locks names is committed =
    let epoch : rows.epoch ≡ read.rows.epoch + 1 = ap (λ (r : Rows). r.epoch) next in
    let same : new.rows ≡ rows =
    committed.rows
    ∙ ap (λ n. changed_rows read.rows (Epoch n ∷ [])) epoch
    ∙ sym next in
    let P : Rows → Type 0 = λ r. sound read.cell r ≡ true in
    let C : List ℕ → Type 0 = λ cell. IsKept cell new.rows s in
    let Q : Rows → Type 0 = λ r. IsKept read.cell r s in
    let T : MasterState → Type 0 = IsKept read.cell rows in
    subst C (sym committed.cell) (subst Q (sym same) (subst T (sym is) (up_kept read.cell rows terms now (subst P (sym next) h) sessions locks names)))
