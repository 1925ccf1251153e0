-- A client number below the mark that has no row gets none any more; and what a sweep keeps of calls, but of a client that goes.
use Rattle.std.proofs.Common.{◌≡◌, ◌≢◌, ℕ, ◌+◌, ◌<◌, max, List, [], ◌∷◌, ◌++◌, true, false, Option, Some, None, inl, inr, refl, sym, ap, ◌∙◌, subst, arith}
use Rattle.std.specs.Prelude.{◌⊎◌, ◌==◌, nat_lt}
use Rattle.std.specs.Option.{option_map}
use Rattle.std.specs.List.Sorted.{IsStrictlySortedBy}
use Rattle.std.specs.Map.{lookup, keys_of, remove_entry}
use Rattle.std.specs.BTreeMap.{is_at, insert_entry}
use Rattle.std.specs.Ordering.{nat_cmp}
use Rattle.std.specs.Cmp.{nat_cmp_total}
use Rattle.std.proofs.lemmas.Bool.Decides.{nat_tests}
use Rattle.collections.proofs.OneKey.{lookup_put_apart, lookup_removed, lookup_removed_apart}
use Rattle.node_core.specs.declared.lines.Line.TheVariants as lines
use Rattle.node_core.specs.declared.views.Mod.{Mod}
use Rattle.node_core.specs.declared.views.Mod.TheVariants.{Put, Gone}
use Rattle.rows_cell.specs.declared.tables.Rows.{Rows}
use Rattle.rows_cell.specs.declared.tables.SessionRow.{SessionRow}
use Rattle.rows_cell.specs.declared.tables.Edit.TheVariants.{NextInstance, PutSession}
use Rattle.rows_cell.specs.Rows.{changed_rows}
use Rattle.rows_cell.specs.LockRows.{LockChange, locks_edits}
use Rattle.rows_cell.proofs.EntriesInOrder.{sorted_put}
use Rattle.tags_cell.specs.declared.messages.outs.Reply.{Reply}
use Rattle.session_core.specs.declared.records.Session.{Session}
use Rattle.session_core.specs.Sessions.{with_new, kept_of as kept_in_table}
use Rattle.lock_core.specs.Turns.{reopened}
use Rattle.lock_core.specs.Locks.{lock_at}
use Rattle.lock_core.specs.declared.partings.Parting.TheVariants as partings
use Rattle.master_parts.specs.StoredSessions.{row_of}
use Rattle.master_state.specs.State.{MasterState}
use Rattle.master_state.specs.Lookups.{session_of, retiring, noted}
use Rattle.master_state.specs.Lapses.{lapses_of, lapses_puts}
use Rattle.master_state.specs.Replies.{puts_of}
use Rattle.master_state.specs.Updates.{edit_of, retire_edits, without_ended, lock_changes}
use Rattle.cell_core.specs.Outcomes.{left_put}
use Rattle.over_core.specs.Kept.{IsKept}
use Rattle.over_core.specs.SweepCase.{SweepCase, swept_by, swept_edits}
use Rattle.over_core.specs.SweepCase.SweepCase.{Expires, Reopens, Tidied, Started, Applied, Deleted, Locked, Awaited, Left, Departed}
use Rattle.world_steps.specs.declared.steps.Step.{Step}
use Rattle.world_steps.specs.World.{Agrees, WorldState}
use Rattle.node_core.specs.declared.lines.Line.{Line}
use Rattle.world_cell.specs.Slices.{is_late}
use Rattle.world_cell.proofs.ConsistentSteps.{agrees_at}
use Rattle.world_cell.proofs.LocksByCases.{noted_kept}
use Rattle.world_cell.proofs.OneSession.{kept_in, kept_begins}
use Rattle.world_cell.proofs.OwnSteps.{asks_own, beats_own, gives_own}
use Rattle.world_cell.proofs.RelockedRows.{HasRow, let_go, relocked_rows}
use Rattle.world_cell.proofs.Slices.{by_test, is_same, is_other, lookup_rows}
use Rattle.world_cell.proofs.WorldCases.{WorldCase}
use Rattle.world_cell.proofs.WorldCases.WorldCase.{ComesUp, Joins, Asks, Beats, Gives, Ticks, Takes, Sweeps, GoesDown, CutsSweep, CutsUp, LosesUp}

less_of : (a b : ℕ) → nat_lt a b ≡ true → a < b
less_of a b h = grind (arith, nat_tests, h)

late_of : (a b : ℕ) → a < b → nat_lt a b ≡ true
late_of a b h = grind (arith, nat_tests, h)

more_late : (client a b : ℕ) → nat_lt client a ≡ true → nat_lt client (max a b) ≡ true
more_late client a b h = let less = less_of client a h in late_of client (max a b) (omega (arith, less))

-- the client has no row, and gets none any more
abbrev pub IsGoneIn : Rows → ℕ → Type 0
IsGoneIn rows client = (lookup (is_at (nat_cmp client)) rows.sessions ≡ None) × (is_late rows client ≡ true)

none_of : (o : Option (Session Reply)) → option_map row_of o ≡ None → o ≡ None
none_of None h = refl
none_of (Some session) h = absurd (cc)

-- so a master that is kept beside the rows knows of no session
pub gone_session : (cell : List ℕ) (rows : Rows) (s : MasterState) → IsKept cell rows s → (client : ℕ) → IsGoneIn rows client → session_of s client ≡ None
gone_session cell rows s k client gone =
    let at = is_at (nat_cmp client) in
    none_of (session_of s client) (sym (lookup_rows row_of at s.sessions.sessions) ∙ ap (λ es. lookup at es) k.sessions ∙ gone.0)

-- ---- its rows

module _ (client : ℕ) (rows : Rows) (gone : IsGoneIn rows client) where
  same_gone : (new : Rows) → new.sessions ≡ rows.sessions → new.ended_below ≡ rows.ended_below → IsGoneIn new client
  same_gone new sessions ended = (ap (λ es. lookup (is_at (nat_cmp client)) es) sessions ∙ gone.0, ap (λ n. nat_lt client n) ended ∙ gone.1)

  put_gone : (new : Rows) (whose : ℕ) (row : SessionRow) → client ≢ whose → HasRow rows new whose row → IsGoneIn new client
  put_gone new whose row apart r = (
    ap (λ es. lookup (is_at (nat_cmp client)) es) r.sessions ∙ lookup_put_apart whose client apart rows.sessions row ∙ gone.0,
    ap (λ n. nat_lt client n) r.beside.ended_below ∙ gone.1,
  )

  mod_gone : (change : Mod) (next : ℕ) → IsGoneIn (changed_rows rows (edit_of change ∷ NextInstance next ∷ [])) client
  mod_gone (Put name view) next = gone
  mod_gone (Gone name) next = gone

  relocked_gone : (changes : List LockChange) → IsGoneIn (changed_rows rows (locks_edits changes)) client
  relocked_gone changes = let r = relocked_rows rows changes in same_gone (changed_rows rows (locks_edits changes)) r.sessions r.beside.ended_below

  begun_gone : (whose ended : ℕ) (row : SessionRow) → client ≢ whose → ended ≡ rows.ended_below → IsStrictlySortedBy nat_cmp (keys_of rows.sessions) → (goes : Option ℕ) → IsGoneIn (changed_rows rows (PutSession whose row ∷ retire_edits ended goes)) client
  begun_gone whose ended row apart is order None = (lookup_put_apart whose client apart rows.sessions row ∙ gone.0, gone.1)
  begun_gone whose ended row apart is order (Some q) =
      let entries = insert_entry nat_cmp rows.sessions whose row in
      let late : nat_lt client (max ended (q + 1)) ≡ true = more_late client ended (q + 1) (ap (λ n. nat_lt client n) is ∙ gone.1) in
      by_test (client == q)
      (λ own. (ap (λ n. lookup (is_at (nat_cmp n)) (remove_entry (is_at (nat_cmp q)) entries)) (is_same client q own) ∙ lookup_removed q entries (sorted_put nat_cmp nat_cmp_total rows.sessions whose row order), late))
      (λ other. (lookup_removed_apart q client (is_other client q other) entries ∙ lookup_put_apart whose client apart rows.sessions row ∙ gone.0, late))

-- ---- a sweep

differs : (client whose : ℕ) (o p : Option (Session Reply)) (session : Session Reply) → o ≡ None → p ≡ Some session → (client ≡ whose → o ≡ p) → client ≢ whose
differs client whose o p session none some same e = let both : None ≡ Some session = sym none ∙ same e ∙ some in cc

module _ (cell : List ℕ) (rows : Rows) (s : MasterState) (k : IsKept cell rows s) (client : ℕ) where
  apart_from : IsGoneIn rows client → (whose : ℕ) (session : Session Reply) → session_of s whose ≡ Some session → client ≢ whose
  apart_from gone whose session found =
      differs client whose (session_of s client) (session_of s whose) session (gone_session cell rows s k client gone) found (λ e. ap (λ q. session_of s q) e)

  not_late : IsGoneIn rows client → (whose : ℕ) → nat_lt whose s.ended_below ≡ false → client ≢ whose
  not_late gone whose early e =
      let late : nat_lt whose s.ended_below ≡ true = ap (λ q. nat_lt q s.ended_below) (sym e) ∙ ap (λ n. nat_lt client n) k.ended_below ∙ gone.1 in
      let both : true ≡ false = sym late ∙ early in
      cc

  pub gone_by_sweep : IsGoneIn rows client → (c : SweepCase s) → IsGoneIn (changed_rows rows (swept_edits s c)) client
  gone_by_sweep gone (Expires whose session due) =
      let row : SessionRow = record { principal = session.principal; live = false } in
      let changes : List LockChange = lock_changes s (lapses_puts s (lapses_of partings.Expiry s whose)) in
      put_gone client rows gone (changed_rows rows (locks_edits changes ++ PutSession whose row ∷ [])) whose row (apart_from gone whose session due.found) (let_go rows changes whose row)
  gone_by_sweep gone (Departed front back asked call sequencer session turn work leave found live) =
      let row : SessionRow = record { principal = session.principal; live = false } in
      let changes : List LockChange = lock_changes s (lapses_puts s (lapses_of partings.Leave s asked.client)) in
      put_gone client rows gone (changed_rows rows (locks_edits changes ++ PutSession asked.client row ∷ [])) asked.client row (apart_from gone asked.client session found) (let_go rows changes asked.client row)
  gone_by_sweep gone (Started front back asked principal received turn work none) =
      begun_gone client rows gone asked.client s.ended_below (record { principal = principal; live = true }) (not_late gone asked.client none.1) k.ended_below k.sessions_in_order (retiring s)
  gone_by_sweep gone (Reopens instance due) = relocked_gone client rows gone (lock_changes s (puts_of s instance (reopened (lock_at s.locks instance)).lock))
  gone_by_sweep gone (Applied front back asked call sequencer _ change answer turn work stays live made) = mod_gone client rows gone change.change change.next_instance
  gone_by_sweep gone (Deleted front back asked call sequencer change instance waiters answer turn work stays live made) = mod_gone client rows gone change.change change.next_instance
  gone_by_sweep gone (Tidied front back idle turn still) = mod_gone client rows gone (Gone idle.name) s.next_instance
  gone_by_sweep gone (Locked front back asked call sequencer put claim answer turn work stays live made) = relocked_gone client rows gone (lock_changes s (put ∷ []))
  gone_by_sweep gone (Awaited front back asked call sequencer put turn work stays live made) = relocked_gone client rows gone (lock_changes s (put ∷ []))
  gone_by_sweep gone (Left front back asked call sequencer _ leave answer turn work stays live made) = relocked_gone client rows gone (lock_changes s (left_put leave ∷ []))
  gone_by_sweep gone _ = gone

-- ---- every step

pub gone_on : (client : ℕ) (old : WorldState) (step : Step) (new : WorldState) (printed : List Line) → Agrees old old.master → IsGoneIn old.rows client → WorldCase old step new printed → IsGoneIn new.rows client
gone_on client old step new printed agrees gone c = on c
  where
    same_rows : new.rows ≡ old.rows → IsGoneIn new.rows client
    same_rows is = subst (λ (r : Rows). IsGoneIn r client) (sym is) gone

    on : WorldCase old step new printed → IsGoneIn new.rows client
    on (ComesUp u) = subst (λ (w : WorldState). IsGoneIn w.rows client) (sym u.is) gone
    on (Joins j) = same_rows (ap (λ (w : WorldState). w.rows) j.is)
    on (Asks a) = same_rows (ap (λ (w : WorldState). w.rows) (asks_own old step new printed a).is)
    on (Beats b) = same_rows (ap (λ (w : WorldState). w.rows) (beats_own old step new printed b).is)
    on (Gives g) = same_rows (ap (λ (w : WorldState). w.rows) (gives_own old step new printed g).is)
    on (Ticks t) = same_rows (ap (λ (w : WorldState). w.rows) t.is)
    on (Takes t) = same_rows (ap (λ (w : WorldState). w.rows) t.is)
    on (Sweeps t) =
        let k = noted_kept old.cell old.rows t.master old.clock (agrees_at old old.master t.master t.is_up agrees) in
        subst (λ (w : WorldState). IsGoneIn w.rows client) (sym t.is) (gone_by_sweep old.cell old.rows (noted t.master old.clock) k client gone t.case)
    on (GoesDown d) = same_rows (ap (λ (w : WorldState). w.rows) d.is)
    on (CutsSweep c) =
        let t = c.sweeps in
        let k = noted_kept old.cell old.rows t.master old.clock (agrees_at old old.master t.master t.is_up agrees) in
        let there : IsGoneIn c.mid.rows client = subst (λ (w : WorldState). IsGoneIn w.rows client) (sym t.is) (gone_by_sweep old.cell old.rows (noted t.master old.clock) k client gone t.case) in
        subst (λ (w : WorldState). IsGoneIn w.rows client) (sym c.is) there
    on (CutsUp c) =
        let there : IsGoneIn c.mid.rows client = subst (λ (w : WorldState). IsGoneIn w.rows client) (sym c.comes.is) gone in
        subst (λ (w : WorldState). IsGoneIn w.rows client) (sym c.is) there
    on (LosesUp c) = same_rows (ap (λ (w : WorldState). w.rows) c.is)

-- ---- what holds after a sweep of each client but of one that goes

abbrev pub UnlessGone : (s : MasterState) → ℕ → SweepCase s → Type 0 → Type 0
UnlessGone s client (Started front back asked principal received turn work none) P = (retiring s ≡ Some client → ⊥) → P
UnlessGone s client _ P = P

goes_or : (o : Option ℕ) (client : ℕ) → (o ≡ Some client) ⊎ (o ≡ Some client → ⊥)
goes_or None client = inr (λ is. cc)
goes_or (Some q) client = by_test (q == client)
    (λ own. inl (ap (λ n. Some n) (is_same q client own)))
    (λ other. inr (λ is. let same : q ≡ client = cc in is_other q client other same))

-- the client goes, and another session begins
pub record HasGone (rows : Rows) (s : MasterState) (client : ℕ) (c : SweepCase s) : Type 0 where
  pub begins : ℕ
  pub printed : (swept_by s c).1.lines ≡ lines.Started begins ∷ []
  pub gone : IsGoneIn (changed_rows rows (swept_edits s c)) client

pub settled : (cell : List ℕ) (rows : Rows) (s : MasterState) → IsKept cell rows s → (client : ℕ) (c : SweepCase s) (P : Type 0) → UnlessGone s client c P → P ⊎ HasGone rows s client c
settled cell rows s k client (Started front back asked principal received turn work none) P p = elim (goes_or (retiring s) client) [
  | inl is ↦ (
      let row : SessionRow = record { principal = principal; live = true } in
      let entries = insert_entry nat_cmp rows.sessions asked.client row in
      let there : IsGoneIn (changed_rows rows (PutSession asked.client row ∷ retire_edits s.ended_below (Some client))) client =
      (lookup_removed client entries (sorted_put nat_cmp nat_cmp_total rows.sessions asked.client row k.sessions_in_order), late_of client (max s.ended_below (client + 1)) (omega arith)) in
      inr (record {
        begins = asked.client;
        printed = refl;
        gone = subst (λ o. IsGoneIn (changed_rows rows (PutSession asked.client row ∷ retire_edits s.ended_below o)) client) (sym is) there;
      }))
  | inr stays ↦ inl (p stays)
]
settled cell rows s k client _ P p = inl p

-- what is kept of its calls, where a session begins
pub kept_unless : (s : MasterState) (begins client : ℕ) (session : Session Reply) → session_of s begins ≡ None → session.kept ≡ None → (retiring s ≡ Some client → ⊥) → kept_in_table (without_ended (with_new s.sessions begins session) (retiring s)) client ≡ kept_in_table s.sessions client
kept_unless s begins client session none nothing stays = by_option (retiring s) refl
  where
    by_option : (o : Option ℕ) → retiring s ≡ o → kept_in_table (without_ended (with_new s.sessions begins session) o) client ≡ kept_in_table s.sessions client
    by_option None is = kept_begins s.sessions begins session none nothing client
    by_option (Some q) is =
        ap kept_in (lookup_removed_apart q client (λ same. stays (is ∙ ap (λ n. Some n) (sym same))) (with_new s.sessions begins session).sessions) ∙ kept_begins s.sessions begins session none nothing client
