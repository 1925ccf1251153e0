-- A history of parts is a run of a world.
use Rattle.std.proofs.Common.{◌≡◌, ℕ, ◌+◌, ◌≤◌, List, [], ◌∷◌, ◌++◌, Bool, true, false, cond, Option, Some, None, refl, sym, ap, ◌∙◌, subst, arith, append_assoc}
use Rattle.std.proofs.lemmas.List.{append-nil}
use Rattle.std.specs.Prelude.{Ok, ◌&&◌, ◌<◌, nat_lt}
use Rattle.std.proofs.lemmas.Bool.Decides.{nat_tests}
use Rattle.lease_core.specs.Lease.{IsMoment, longest_lease, LeaseTerms, IsUnexpired}
use Rattle.cache_core.specs.Caches.{answer, entry_of, is_leased}
use Rattle.client_core.specs.State.{ClientState, lease_of}
use Rattle.node_core.specs.declared.views.View.{View}
use Rattle.world_steps.specs.declared.members.WorldClient.{WorldClient}
use Rattle.world_cell.specs.Slices.{lease_shown, client_of as seen_as}
use Rattle.world_cell.proofs.SliceLeases.{joint_everywhere}
use Rattle.world_cell.proofs.MembersFound.{member_at}
use Rattle.node_core.specs.declared.lines.Line.{Line}
use Rattle.rows_cell.specs.declared.settings.MasterTerms.{MasterTerms}
use Rattle.rows_cell.specs.declared.tables.Rows.{Rows}
use Rattle.rows_cell.specs.Rows.{map_of}
use Rattle.node_core.specs.Nodes.{Nodes, view_at}
use Rattle.over_core.specs.Sweep.{left_after}
use Rattle.master_state.specs.State.{MasterState}
use Rattle.world_steps.specs.declared.steps.Step.{Step}
use Rattle.world_steps.specs.declared.steps.Step.TheVariants as steps
use Rattle.world_steps.specs.World.{WorldState, WorldView, IsUndoubted, new_world, member_of, world_step, ticked, step_edits, step_frees, IsAt}
use Rattle.world_steps.specs.Made.{IsTyped, Does as StepDoes, AnyStep}
use Rattle.world_cell.specs.Runs.{AnyRun, Run}
use Rattle.world_cell.specs.Served.{ServesPresent}
use Rattle.world_cell.specs.Consistent.{IsConsistent}
use Rattle.world_cell.specs.RunLaws.{HoldsOfRun}
use Rattle.world_cell.proofs.ConsistentSteps.{new_holds}
use Rattle.world_cell.proofs.LawsOfRuns.{runs_hold}
use Rattle.world_cell.proofs.SureRuns.{run_sure}
use Rattle.world_cell.proofs.ClocksByRuns.{run_consistent}
use Rattle.world_cell.proofs.ServedLines.{step_serves}
use Rattle.history_laws.specs.Parts.{Parts, nothing_yet, Deed, ComesUp, FallsComingUp, Takes, Sweeps, FallsSweeping, AnswersBeat, Goes, Begins, Asks, Beats, Hears, BeginsBy}
use Rattle.history_laws.specs.Histories.{Clocks, Entry, Does, History, KeepFair, GoOn, AreMoments, AreFair, begins_life}
use Rattle.history_laws.specs.Laws.{new_view, HoldsParts, ShowsClocks, GoesAlong, IsRunOf, HistoriesAreRuns, HistoriesHold, CachesShowTheRows, CachesAnswerTheRows}
use Rattle.history_laws.proofs.Ticking.{IsTimely, IsTimelyWorld, IsMastersClock, Ticks, ticks_by, alone_on, beside_on}
use Rattle.history_laws.proofs.Entries.{each_found_in}
use Rattle.history_laws.proofs.Mirrored.{Mirrors, view, makes, ticked_mirrors, found_client}
use Rattle.history_laws.proofs.Deeds.{Follows, takes, sweeps, falls_sweeping, answers_beat, goes, asks, beats, hears, comes_up, falls_coming_up, joined, joins_step, joins_mirrors, joins_ticks}

-- ---- an entry

-- the steps of a world that the entry is, from one that holds what the parts hold
pub record Enters (w : WorldState) (leave : List Rows) (entries : List Entry) (now : Clocks) (new : Parts) (printed : List Line) : Type 0 where
  pub made : List Step
  pub behind : WorldState
  pub left : List Rows
  pub run : AnyRun (view w leave) made printed (view behind left)
  pub mirrors : Mirrors new behind
  pub timely : IsTimelyWorld behind entries now
  pub serves : IsConsistent w → ServesPresent (map_of behind.rows) printed

-- what fits goes on to fit
run_fits : (old : WorldView) (made : List Step) (printed : List Line) (new : WorldView) → IsConsistent old.world → AnyRun old made printed new → IsUndoubted new → IsConsistent new.world
run_fits old made printed new fits run sure = run_consistent old made printed new fits (run_sure old made printed new run sure)

nothing_served : (nodes : Nodes) (printed : List Line) → printed ≡ [] → ServesPresent nodes printed
nothing_served nodes printed none [] rest client name entry is = cc
nothing_served nodes printed none (line ∷ before) rest client name entry is = cc

module _ (p : Parts) (w : WorldState) (leave : List Rows) (here : Clocks) (entry : Entry) (entries : List Entry) (same : Mirrors p w) (timely : IsTimelyWorld w (entry ∷ entries) here) (on : GoOn here (entry ∷ entries)) (fair : AreFair (entry ∷ entries)) where
  abbrev now : Clocks
  now = entry.clocks

  pub alone : w.master ≡ None → Ticks w entries now
  alone none = alone_on w here entry entries timely on fair.0 fair.2 none

  beside_by : (m : Option MasterState) → w.master ≡ m → begins_life entry.deed ≡ false → Ticks w entries now
  beside_by None none not = alone none
  beside_by (Some s) up not = beside_on w here entry entries timely on fair.0 fair.2 s up not

  pub beside : begins_life entry.deed ≡ false → Ticks w entries now
  beside not = beside_by w.master refl not

  module _ (ticks : Ticks w entries now) where
    abbrev there : WorldState
    there = ticked w (ticks_by w ticks.gain ticks.step)

    abbrev left_there : List Rows
    left_there = left_after (step_frees w (steps.Tick (ticks_by w ticks.gain ticks.step))) (step_edits w (steps.Tick (ticks_by w ticks.gain ticks.step))) leave there.rows

    tick_made : AnyStep (view w leave) (steps.Tick (ticks_by w ticks.gain ticks.step)) (view there left_there) []
    tick_made = makes w there leave (steps.Tick (ticks_by w ticks.gain ticks.step)) [] refl ticks.is_step tt

    there_mirrors : Mirrors p there
    there_mirrors = ticked_mirrors p w (ticks_by w ticks.gain ticks.step) same

    there_fits : IsConsistent w → IsConsistent there
    there_fits fits = run_fits (view w leave) (steps.Tick (ticks_by w ticks.gain ticks.step) ∷ []) [] (view there left_there) fits (view there left_there, [], [], tick_made, (refl, refl), refl) refl

    -- a tick, and the step
    enters : (deed : Deed) (new : Parts) (printed : List Line) → Follows there p deed entries now new printed → Enters w leave entries now new printed
    enters deed new printed f = record {
      made = steps.Tick (ticks_by w ticks.gain ticks.step) ∷ f.step ∷ [];
      behind = f.behind;
      left = left_after (step_frees there f.step) (step_edits there f.step) left_there f.behind.rows;
      run = (view there left_there, [], printed, tick_made, (view f.behind (left_after (step_frees there f.step) (step_edits there f.step) left_there f.behind.rows), printed, [], makes there f.behind left_there f.step printed (f.at left_there) f.is_step f.typed, (refl, refl), sym (append-nil printed)), refl);
      mirrors = f.mirrors;
      timely = f.timely;
      serves = λ fits. step_serves there f.step f.behind printed (there_fits fits) f.is_step;
    }

    -- a tick, a client that joins, and a tick that moves its clock
    begins : (number : ℕ) (principal : List ℕ) (new : Parts) (printed : List Line) → BeginsBy p number principal new printed → Enters w leave entries now new printed
    begins number principal new printed t =
        let next : WorldState = joined there entries now ticks.timely p there_mirrors number principal in
        let again = joins_ticks there entries now ticks.timely p there_mirrors fair.0 fair.2 number principal t.free in
        let last : WorldState = ticked next (ticks_by next again.gain again.step) in
        let left_next : List Rows = left_after (step_frees there (steps.Join number principal)) (step_edits there (steps.Join number principal)) left_there next.rows in
        let left_last : List Rows = left_after (step_frees next (steps.Tick (ticks_by next again.gain again.step))) (step_edits next (steps.Tick (ticks_by next again.gain again.step))) left_next last.rows in
        record {
          made = steps.Tick (ticks_by w ticks.gain ticks.step) ∷ steps.Join number principal ∷ steps.Tick (ticks_by next again.gain again.step) ∷ [];
          behind = last;
          left = left_last;
          run = (
            view there left_there,
            [],
            printed,
            tick_made,
            (
              view next left_next,
              [],
              printed,
              makes there next left_there (steps.Join number principal) [] refl (joins_step there entries now ticks.timely p there_mirrors number principal t.free) tt,
              (view last left_last, [], [], makes next last left_next (steps.Tick (ticks_by next again.gain again.step)) [] refl again.is_step tt, (refl, refl), t.prints),
              refl,
            ),
            refl,
          );
          mirrors = ticked_mirrors new next (ticks_by next again.gain again.step) (joins_mirrors there entries now ticks.timely p there_mirrors number principal new printed t);
          timely = again.timely;
          serves = λ fits. nothing_served (map_of last.rows) printed t.prints;
        }

  -- each deed
  enters_by : (deed : Deed) → entry.deed ≡ deed → (new : Parts) (printed : List Line) → Does p now deed new printed → Enters w leave entries now new printed
  enters_by ComesUp is new printed t =
      let ticks = alone (same.master ∙ t.none) in
      enters ticks ComesUp new printed (comes_up (there ticks) entries now ticks.timely p (there_mirrors ticks) fair.0 fair.2 new printed t)
  enters_by FallsComingUp is new printed t =
      let ticks = alone (same.master ∙ t.none) in
      enters ticks FallsComingUp new printed (falls_coming_up (there ticks) entries now ticks.timely p (there_mirrors ticks) new printed t)
  enters_by (Takes at) is new printed t =
      let ticks = beside (ap begins_life is) in
      enters ticks (Takes at) new printed (takes (there ticks) entries now ticks.timely p (there_mirrors ticks) at new printed t)
  enters_by Sweeps is new printed t =
      let ticks = beside (ap begins_life is) in
      enters ticks Sweeps new printed (sweeps (there ticks) entries now ticks.timely p (there_mirrors ticks) new printed t)
  enters_by FallsSweeping is new printed t =
      let ticks = beside (ap begins_life is) in
      enters ticks FallsSweeping new printed (falls_sweeping (there ticks) entries now ticks.timely p (there_mirrors ticks) new printed t)
  enters_by AnswersBeat is new printed t =
      let ticks = beside (ap begins_life is) in
      enters ticks AnswersBeat new printed (answers_beat (there ticks) entries now ticks.timely p (there_mirrors ticks) new printed t)
  enters_by Goes is new printed t =
      let ticks = beside (ap begins_life is) in
      enters ticks Goes new printed (goes (there ticks) entries now ticks.timely p (there_mirrors ticks) new printed t)
  enters_by (Begins number principal) is new printed t = begins (beside (ap begins_life is)) number principal new printed t
  enters_by (Asks number ask) is new printed t =
      let ticks = beside (ap begins_life is) in
      enters ticks (Asks number ask) new printed (asks (there ticks) entries now ticks.timely p (there_mirrors ticks) number ask new printed t)
  enters_by (Beats number) is new printed t =
      let ticks = beside (ap begins_life is) in
      enters ticks (Beats number) new printed (beats (there ticks) entries now ticks.timely p (there_mirrors ticks) number new printed t)
  enters_by (Hears at) is new printed t =
      let ticks = beside (ap begins_life is) in
      enters ticks (Hears at) new printed (hears (there ticks) entries now ticks.timely p (there_mirrors ticks) at new printed t)

-- ---- runs, one after the other

pub run_append : (old mid new : WorldView) (first second : List Step) (printed told : List Line) → AnyRun old first printed mid → AnyRun mid second told new → AnyRun old (first ++ second) (printed ++ told) new
run_append old mid new [] second printed told one two = rw (sym one.1, one.0) two
run_append old mid new (step ∷ first) second printed told one two =
    (one.0, one.1, one.2 ++ told, one.3, run_append one.0 mid new first second one.2 told one.4 two, ap (λ l. l ++ told) one.5 ∙ append_assoc one.1 one.2 told)

-- ---- a history

-- what the world holds, and its clocks
pub holds_so : (p : Parts) (w : WorldState) (leave : List Rows) → Mirrors p w → HoldsParts (view w leave) p
holds_so p w leave same = record { rows = same.rows; master = same.master; clients = same.clients; messages = same.messages; undoubted = refl }

pub masters_clock : (m : Option MasterState) (now : Clocks) (clock : ℕ) → IsMastersClock m now clock → (s : MasterState) → m ≡ Some s → clock ≡ now.master
masters_clock None now clock h s up = cc
masters_clock (Some other) now clock h s up = h

pub shows_clocks : (w : WorldState) (entries : List Entry) (now : Clocks) → IsTimelyWorld w entries now → ShowsClocks w now
shows_clocks w entries now timely = record {
  master = λ s up. masters_clock w.master now w.clock timely.master s up;
  client = λ number member found. (each_found_in (IsTimely w.master entries now) w.clients number member timely.each found).clock;
}

pub record Mirrored (w : WorldState) (leave : List Rows) (p : Parts) (entries : List Entry) (printed : List Line) (end : Parts) (h : History p entries printed end) : Type 0 where
  pub made : List Step
  pub behind : WorldState
  pub left : List Rows
  pub run : AnyRun (view w leave) made printed (view behind left)
  pub mirrors : Mirrors end behind
  pub along : GoesAlong (view w leave) made (view behind left) p entries printed end h

history_on : (p : Parts) (w : WorldState) (leave : List Rows) (here : Clocks) (entries : List Entry) (printed : List Line) (end : Parts) → Mirrors p w → IsTimelyWorld w entries here → GoOn here entries → AreFair entries → (h : History p entries printed end) → Mirrored w leave p entries printed end h
history_on p w leave here [] printed end same timely on fair h = record {
  made = [];
  behind = w;
  left = leave;
  run = (h.0, refl);
  mirrors = rw h.1 same;
  along = (holds_so p w leave same, refl, refl);
}
history_on p w leave here (entry ∷ entries) printed end same timely on fair h =
    let first = enters_by p w leave here entry entries same timely on fair entry.deed refl h.0 h.1 h.3 in
    let rest = history_on h.0 first.behind first.left entry.clocks entries h.2 end first.mirrors first.timely fair.1 fair.3 h.4 in
    record {
      made = first.made ++ rest.made;
      behind = rest.behind;
      left = rest.left;
      run = rw h.5 (run_append (view w leave) (view first.behind first.left) (view rest.behind rest.left) first.made rest.made h.1 h.2 first.run rest.run);
      mirrors = rest.mirrors;
      along = (
        holds_so p w leave same,
        first.made,
        rest.made,
        view first.behind first.left,
        refl,
        run_sure (view w leave) first.made h.1 (view first.behind first.left) first.run refl,
        shows_clocks first.behind entries entry.clocks first.timely,
        rest.along,
      );
    }

-- from nothing on: clocks that show no moment yet
abbrev pub no_clocks : Clocks
no_clocks = record { master = 0; client = λ number. 0 }

pub goes_on_from : (entries : List Entry) → GoOn no_clocks entries
goes_on_from [] = tt
goes_on_from (entry ∷ entries) = λ number. omega arith

pub began : (cell : List ℕ) (rows : Rows) (terms : MasterTerms) (entries : List Entry) → IsTimelyWorld (new_world cell rows terms) entries no_clocks
began cell rows terms entries = record { early = omega arith; master = tt; each = tt; fair = tt }

pub began_mirrors : (cell : List ℕ) (rows : Rows) (terms : MasterTerms) → Mirrors (nothing_yet cell rows terms) (new_world cell rows terms)
began_mirrors cell rows terms = record { cell = refl; rows = refl; master = refl; clients = λ n. refl; messages = refl; terms = refl }

whole : (cell : List ℕ) (rows : Rows) (terms : MasterTerms) (entries : List Entry) (printed : List Line) (end : Parts) → (h : History (nothing_yet cell rows terms) entries printed end) → AreFair entries → Mirrored (new_world cell rows terms) [] (nothing_yet cell rows terms) entries printed end h
whole cell rows terms entries printed end h fair =
    history_on (nothing_yet cell rows terms) (new_world cell rows terms) [] no_clocks entries printed end (began_mirrors cell rows terms) (began cell rows terms entries) (goes_on_from entries) fair h

pub are_runs : HistoriesAreRuns
are_runs cell rows terms entries printed end h fair =
    let all = whole cell rows terms entries printed end h fair in
    record { steps = all.made; new = view all.behind all.left; run = all.run; holds = holds_so end all.behind all.left all.mirrors; along = all.along }

pub hold : HistoriesHold
hold cell rows terms entries printed end range h fair =
    let is = are_runs cell rows terms entries printed end h fair in
    (is, runs_hold (new_view cell rows terms) (λ sure. new_holds cell rows terms range) is.steps printed is.new is.run is.holds.undoubted)

-- ---- the last entry of one

pub last_on : (p : Parts) (w : WorldState) (leave : List Rows) (here : Clocks) (entries : List Entry) (last : Entry) (printed : List Line) (mid new : Parts) (told : List Line) → Mirrors p w → IsTimelyWorld w (entries ++ last ∷ []) here → GoOn here (entries ++ last ∷ []) → AreFair (entries ++ last ∷ []) → IsConsistent w → History p entries printed mid → Does mid last.clocks last.deed new told → ServesPresent (map_of new.rows) told
last_on p w leave here [] last printed mid new told same timely on fair fits h does =
    let enters = enters_by p w leave here last [] same timely on fair last.deed refl new told (subst (λ q. Does q last.clocks last.deed new told) h.1 does) in
    subst (λ rows. ServesPresent (map_of rows) told) enters.mirrors.rows (enters.serves fits)
last_on p w leave here (entry ∷ entries) last printed mid new told same timely on fair fits h does =
    let first = enters_by p w leave here entry (entries ++ last ∷ []) same timely on fair entry.deed refl h.0 h.1 h.3 in
    let fits_there = run_fits (view w leave) first.made h.1 (view first.behind first.left) fits first.run refl in
    last_on h.0 first.behind first.left entry.clocks entries last h.2 mid new told first.mirrors first.timely fair.1 fair.3 fits_there h.4 does

pub caches_show : CachesShowTheRows
caches_show cell rows terms entries printed here new last told range h does fair =
    last_on (nothing_yet cell rows terms) (new_world cell rows terms) [] no_clocks entries last printed here new told (began_mirrors cell rows terms) (began cell rows terms (entries ++ last ∷ [])) (goes_on_from (entries ++ last ∷ [])) fair (new_holds cell rows terms range) h does

-- ---- what a cache would answer

answered_by : (enabled leased : Bool) (entry : Option (Option View)) (view : Option View) → cond (enabled && leased) entry None ≡ Some view → (enabled ≡ true) × (leased ≡ true) × (entry ≡ Some view)
answered_by true true entry view h = (refl, refl, h)
answered_by true false entry view h = cc
answered_by false leased entry view h = cc

leased_so : (lease : Option LeaseTerms) (now : ℕ) → is_leased lease now ≡ true → IsUnexpired (lease_of lease).sent (lease_of lease).span now
leased_so None now h = cc
leased_so (Some terms) now h = grind (arith, nat_tests, h)

stays_on : (leaving enabled : Bool) → (leaving ≡ true → enabled ≡ false) → enabled ≡ true → leaving ≡ false
stays_on true enabled off on = let e : enabled ≡ false = off refl in cc
stays_on false enabled off on = refl

module _ (w : WorldState) (fits : IsConsistent w) (number : ℕ) (member : WorldClient) (found : member_of w number ≡ Some member) where
  answered : (name : List ℕ) (entry : Option View) → answer member.client.cache member.clock name ≡ Some entry → entry ≡ view_at (map_of w.rows) name
  answered name entry is =
      let s = member.client in
      let a = answered_by s.cache.enabled (is_leased s.cache.lease member.clock) (entry_of s.cache.entries name) entry is in
      let off = (fits.holds number member found).off in
      let on = stays_on s.leaving s.cache.enabled off.shuts a.0 in
      let unexpired = leased_so s.cache.lease member.clock a.1 in
      let shown : IsUnexpired (lease_shown s.leaving s.cache.lease).sent (lease_shown s.leaving s.cache.lease).span member.clock =
      subst (λ (b : Bool). IsUnexpired (lease_shown b s.cache.lease).sent (lease_shown b s.cache.lease).span member.clock) (sym on) unexpired in
      let joint = joint_everywhere w fits number name in
      (joint.entry_is_present_and_held
      (subst (λ (o : Option WorldClient). IsUnexpired (seen_as name o).lease_sent (seen_as name o).lease_span (seen_as name o).now) (sym found) shown) entry
      (subst (λ (o : Option WorldClient). (seen_as name o).entry ≡ Some entry) (sym found) a.2)).present

pub answer_on : (p : Parts) (w : WorldState) (leave : List Rows) (here now : Clocks) (entries : List Entry) (printed : List Line) (end : Parts) (number : ℕ) (client : ClientState) (name : List ℕ) (entry : Option View) → Mirrors p w → IsTimelyWorld w (entries ++ record { clocks = now; deed = Goes } ∷ []) here → GoOn here (entries ++ record { clocks = now; deed = Goes } ∷ []) → AreFair (entries ++ record { clocks = now; deed = Goes } ∷ []) → IsConsistent w → History p entries printed end → end.clients number ≡ Some client → answer client.cache (now.client number) name ≡ Some entry → entry ≡ view_at (map_of end.rows) name
answer_on p w leave here now [] printed end number client name entry same timely on fair fits h there is =
    let last : Entry = record { clocks = now; deed = Goes } in
    let ticks = beside p w leave here last [] same timely on fair refl in
    let world : WorldState = ticked w (ticks_by w ticks.gain ticks.step) in
    let mirrors = there_mirrors p w leave here last [] same timely on fair ticks in
    let fits_there = there_fits p w leave here last [] same timely on fair ticks fits in
    let mine = found_client (member_at world.clients number) client (mirrors.clients number ∙ ap (λ (q : Parts). q.clients number) (sym h.1) ∙ there) in
    let clock = (each_found_in (IsTimely world.master [] now) world.clients number mine.0 ticks.timely.each mine.1).clock in
    let asked : answer mine.0.client.cache mine.0.clock name ≡ Some entry = ap (λ (c : ClientState). answer c.cache mine.0.clock name) mine.2 ∙ ap (λ (t : ℕ). answer client.cache t name) clock ∙ is in
    answered world fits_there number mine.0 mine.1 name entry asked ∙ ap (λ (rows : Rows). view_at (map_of rows) name) (mirrors.rows ∙ ap (λ (q : Parts). q.rows) (sym h.1))
answer_on p w leave here now (first ∷ entries) printed end number client name entry same timely on fair fits h there is =
    let enters = enters_by p w leave here first (entries ++ record { clocks = now; deed = Goes } ∷ []) same timely on fair first.deed refl h.0 h.1 h.3 in
    let fits_there = run_fits (view w leave) enters.made h.1 (view enters.behind enters.left) fits enters.run refl in
    answer_on h.0 enters.behind enters.left first.clocks now entries h.2 end number client name entry enters.mirrors enters.timely fair.1 fair.3 fits_there h.4 there is

pub caches_answer : CachesAnswerTheRows
caches_answer cell rows terms entries printed here now number client name entry range h fair there is =
    let all = entries ++ record { clocks = now; deed = Goes } ∷ [] in
    answer_on (nothing_yet cell rows terms) (new_world cell rows terms) [] no_clocks now entries printed here number client name entry (began_mirrors cell rows terms) (began cell rows terms all) (goes_on_from all) fair (new_holds cell rows terms range) h there is
