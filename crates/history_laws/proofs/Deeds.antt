-- Each deed of a part is a step of the world that holds what the parts hold, by clocks that show what those of this moment do.
use Rattle.std.proofs.Common.{◌≡◌, ◌≢◌, ℕ, ◌+◌, ◌-◌, ◌*◌, ◌≤◌, List, [], ◌∷◌, ◌++◌, Bool, true, false, cond, map, filter, Option, Some, None, refl, sym, ap, ◌∙◌, subst, arith}
use Rattle.std.specs.Prelude.{◌==◌, Result, Ok, Err, is_some, if◌then◌else◌}
use Rattle.std.specs.Option.{option_map, option_map_or}
use Rattle.std.specs.BTreeMap.{insert_entry}
use Rattle.std.specs.Ordering.{nat_cmp}
use Rattle.std.proofs.lemmas.List.{append-nil}
use Rattle.collections.proofs.Keys.{same_number}
use Rattle.lease_core.specs.Lease.{IsMoment}
use Rattle.node_core.specs.declared.lines.Line.{Line}
use Rattle.node_core.specs.declared.lines.Line.TheVariants as lines
use Rattle.node_core.specs.declared.refusals.Fault.{Fault}
use Rattle.node_core.specs.declared.refusals.Fault.TheVariants as faults
use Rattle.rows_cell.specs.declared.tables.Rows.{Rows}
use Rattle.rows_cell.specs.Rows.{changed_rows}
use Rattle.tags_cell.specs.declared.messages.requests.Request.{Request}
use Rattle.tags_cell.specs.declared.messages.outs.Out.{Out}
use Rattle.tags_cell.specs.Messages.{out_client}
use Rattle.master_parts.specs.declared.pending.Taken.{Taken}
use Rattle.master_state.specs.State.{MasterState}
use Rattle.cell_core.specs.Step.{take_step}
use Rattle.over_core.specs.declared.swept.Swept.{Swept}
use Rattle.over_core.specs.Sweep.{sweep_step, sweep_edits, sweep_frees, beats_step}
use Rattle.over_core.specs.Up.{up_step, up_edits, up_commit}
use Rattle.client_core.specs.declared.parts.asks.Ask.{Ask}
use Rattle.client_core.specs.declared.parts.asks.AskOutcome.{AskOutcome}
use Rattle.client_core.specs.declared.parts.asks.Outcome.{Outcome}
use Rattle.client_core.specs.declared.parts.asks.Outcome.TheVariants.{Sent, Served, Answered, Refused}
use Rattle.client_core.specs.declared.parts.steps.Beaten.{Beaten}
use Rattle.client_core.specs.declared.parts.steps.Given.{Given}
use Rattle.client_core.specs.State.{ClientState, new_client}
use Rattle.client_core.specs.Asks.{ask_step}
use Rattle.client_core.specs.Beats.{beat_step}
use Rattle.client_core.specs.Gives.{give_step}
use Rattle.world_steps.specs.declared.mail.Message.{Message}
use Rattle.world_steps.specs.declared.mail.Message.TheVariants.{ToMaster, ToClient}
use Rattle.world_steps.specs.declared.members.WorldClient.{WorldClient}
use Rattle.world_steps.specs.declared.steps.Step.{Step}
use Rattle.world_steps.specs.declared.steps.Step.TheVariants as steps
use Rattle.world_steps.specs.declared.steps.Commit.TheVariants.{Kept}
use Rattle.world_steps.specs.Members.{Clients, each_member, at_up, new_member, stepped}
use Rattle.world_steps.specs.Messages.{request_at, out_at}
use Rattle.world_steps.specs.World.{WorldState, world_step, world_up, came_up, member_of, asked, asked_by, ends_ask, beaten, beaten_by, ends_beat, gave, gave_by, given_to, took, world_take, swept, world_sweep, without_quiet, answered, world_beats, world_down, without_master, cut_sweep, world_cut_sweep, cut_up, world_cut_up, is_of_commit, IsAt, IsAtUp, store_in, step_edits, step_frees, came_up_edits}
use Rattle.world_steps.specs.Made.{IsTyped}
use Rattle.world_cell.proofs.MembersFound.{member_at}
use Rattle.world_cell.proofs.WorldCases.{step_takes, step_gives, step_sweeps, step_beats}
use Rattle.history_laws.specs.Parts.{Parts, Deed, ComesUp, FallsComingUp, Takes, Sweeps, FallsSweeping, AnswersBeat, Goes, Asks, Beats, Hears, ComesUpBy, FallsComingUpBy, TakesBy, SweepsBy, FallsSweepingBy, AnswersBeatBy, GoesBy, BeginsBy, AsksBy, BeatsBy, HearsBy, sent_by, ended_by, sent_as, with_client}
use Rattle.history_laws.specs.Histories.{Clocks, Entry, KeepFair, AreMoments}
use Rattle.history_laws.specs.Crashes.{deed_edits, deed_frees}
use Rattle.history_laws.proofs.Entries.{EachIs, each_so, each_both, each_moved, each_set, each_put, each_found_in, each_apart}
use Rattle.history_laws.proofs.Ticking.{IsTimely, IsTimelyWorld, Led, LedFrom, IsMastersClock, FairFrom, Reach, Ticks, at_once, alone_by, beside_by}
use Rattle.history_laws.proofs.Mirrored.{Mirrors, client_at, found_client, clients_stay, stepped_clients, put_clients, view}

-- a step is made, which commits what the deed does, and after which the world holds what the parts do, at the same moment
pub record Follows (w : WorldState) (p : Parts) (deed : Deed) (entries : List Entry) (now : Clocks) (new : Parts) (printed : List Line) : Type 0 where
  pub step : Step
  pub behind : WorldState
  pub is_step : world_step w step ≡ Ok (behind, printed)
  pub typed : IsTyped w step
  pub frees : step_frees w step ≡ deed_frees p now.master deed
  pub edits : step_edits w step ≡ deed_edits p now.master deed
  pub at : (leave : List Rows) → IsAt step (view w leave) (view w leave)
  pub mirrors : Mirrors new behind
  pub timely : IsTimelyWorld behind entries now

-- ---- what is told of a client

no_client : (o : Option WorldClient) → option_map (λ (m : WorldClient). m.client) o ≡ None → o ≡ None
no_client None h = refl
no_client (Some member) h = cc

-- a step of a client leaves its clock
client_kept : (m : Option MasterState) (entries : List Entry) (now : Clocks) (n : ℕ) (member : WorldClient) (next : ClientState) → IsTimely m entries now n member → IsTimely m entries now n (record member { client = next })
client_kept None entries now n member next h = record { clock = h.clock; led = tt }
client_kept (Some s) entries now n member next h =
    let led = h.led in
    record { clock = h.clock; led = record { from = led.from; least = led.least; before = led.before; moves = led.moves; fair = led.fair } }

each_there : (P : ℕ → WorldClient → Type 0) (clients : Clients) (n : ℕ) (member : WorldClient) → EachIs P clients → member_at clients n ≡ Some member → P n member
each_there P clients n member all found = each_found_in P clients n member all found

module _ (w : WorldState) (entries : List Entry) (now : Clocks) (timely : IsTimelyWorld w entries now) where
  clock_is : (s : MasterState) → w.master ≡ Some s → w.clock ≡ now.master
  clock_is s up = let h : IsMastersClock (Some s) now w.clock = rw up at timely.master in h

  member_clock : (n : ℕ) (member : WorldClient) → member_at w.clients n ≡ Some member → member.clock ≡ now.client n
  member_clock n member found = (each_there (IsTimely w.master entries now) w.clients n member timely.each found).clock

  -- another master, at the same clocks
  led_beside : (m : Option MasterState) (s next : MasterState) → m ≡ Some s → (n : ℕ) (member : WorldClient) → IsTimely m entries now n member → IsTimely (Some next) entries now n member
  led_beside None s next up n member h = cc
  led_beside (Some other) s next up n member h = record { clock = h.clock; led = h.led }

  led_alone : (m : Option MasterState) (n : ℕ) (member : WorldClient) → IsTimely m entries now n member → IsTimely None entries now n member
  led_alone m n member h = record { clock = h.clock; led = tt }

  fair_is : (m : Option MasterState) (s : MasterState) → m ≡ Some s → FairFrom m now entries → KeepFair now entries
  fair_is None s up h = cc
  fair_is (Some other) s up h = h

  -- a master that is up goes on as another one
  goes_on : (s next : MasterState) (rows : Rows) (messages : List Message) → w.master ≡ Some s → IsTimelyWorld (record w { rows = rows; master = Some next; messages = messages }) entries now
  goes_on s next rows messages up = record {
    early = timely.early;
    master = clock_is s up;
    each = each_so (IsTimely w.master entries now) (IsTimely (Some next) entries now) (led_beside w.master s next up) w.clients timely.each;
    fair = fair_is w.master s up timely.fair;
  }

  pub goes_alone : (rows : Rows) → IsTimelyWorld (record w { rows = rows; master = None }) entries now
  goes_alone rows = record {
    early = timely.early;
    master = tt;
    each = each_so (IsTimely w.master entries now) (IsTimely None entries now) (led_alone w.master) w.clients timely.each;
    fair = tt;
  }

  -- a client goes a step
  steps_on : (n : ℕ) (member : WorldClient) (next : ClientState) (messages : List Message) → member_at w.clients n ≡ Some member → IsTimelyWorld (record w { clients = stepped w.clients n member next; messages = messages }) entries now
  steps_on n member next messages found = record {
    early = timely.early;
    master = timely.master;
    each = each_set (IsTimely w.master entries now) n (record member { client = next }) w.clients (client_kept w.master entries now n member next (each_there (IsTimely w.master entries now) w.clients n member timely.each found)) timely.each;
    fair = timely.fair;
  }

  module _ (p : Parts) (same : Mirrors p w) where
    master_is : (s : MasterState) → p.master ≡ Some s → w.master ≡ Some s
    master_is s up = same.master ∙ up

    -- ---- a master

    takes_step : (at : ℕ) (new : Parts) (printed : List Line) (t : TakesBy p now.master at new printed) → world_step w (steps.Take at) ≡ Ok (record w { master = Some t.next; messages = w.messages ++ map ToClient t.taken.outs }, printed)
    takes_step at new printed t =
        step_takes w at ∙ ap (world_take w at) (master_is t.master t.up)
        ∙ ap (λ o. option_map_or (λ request. took w (take_step t.master w.clock request)) o (Err faults.NoSuchMessage)) (ap (λ told. request_at told at) same.messages ∙ t.was_told)
        ∙ ap (λ clock. took w (take_step t.master clock t.request)) (clock_is t.master (master_is t.master t.up))
        ∙ ap (took w) t.step ∙ ap (λ ls. Ok (record w { master = Some t.next; messages = w.messages ++ map ToClient t.taken.outs }, ls)) (sym t.prints)

    takes_typed : (at : ℕ) (new : Parts) (printed : List Line) (t : TakesBy p now.master at new printed) → IsTyped w (steps.Take at)
    takes_typed at new printed t request found =
        let one : ◌≡◌ {A = Option Request} (Some t.request) (Some request) = sym t.was_told ∙ ap (λ told. request_at told at) (sym same.messages) ∙ found in
        let is : t.request ≡ request = cc in
        rw (sym is) t.numbered

    pub takes : (at : ℕ) (new : Parts) (printed : List Line) → TakesBy p now.master at new printed → Follows w p (Takes at) entries now new printed
    takes at new printed t = record {
      step = steps.Take at;
      behind = record w { master = Some t.next; messages = w.messages ++ map ToClient t.taken.outs };
      is_step = takes_step at new printed t;
      typed = takes_typed at new printed t;
      frees = refl;
      edits = refl;
      at = λ leave. refl;
      mirrors = subst (λ q. Mirrors q (record w { master = Some t.next; messages = w.messages ++ map ToClient t.taken.outs })) (sym t.left)
          (record { cell = same.cell; rows = same.rows; master = refl; clients = same.clients; messages = ap (λ told. told ++ map ToClient t.taken.outs) same.messages; terms = same.terms });
      timely = goes_on t.master t.next w.rows (w.messages ++ map ToClient t.taken.outs) (master_is t.master t.up);
    }

    swept_at : (master next : MasterState) (done : Swept) → p.master ≡ Some master → sweep_step master now.master ≡ Ok (next, done) → world_sweep w w.master ≡ swept w master (Ok (next, done))
    swept_at master next done up step =
        ap (world_sweep w) (master_is master up) ∙ ap (λ clock. swept w master (sweep_step master clock)) (clock_is master (master_is master up)) ∙ ap (swept w master) step

    edits_at : (master : MasterState) → p.master ≡ Some master → changed_rows w.rows (sweep_edits master w.clock) ≡ changed_rows p.rows (sweep_edits master now.master)
    edits_at master up = ap (λ rows. changed_rows rows (sweep_edits master w.clock)) same.rows ∙ ap (λ clock. changed_rows p.rows (sweep_edits master clock)) (clock_is master (master_is master up))

    -- what a sweep commits, and whether a change leaves the gate by it
    sweeps_at : (master : MasterState) → p.master ≡ Some master → step_edits w steps.Sweep ≡ deed_edits p now.master Sweeps
    sweeps_at master up =
        ap (λ m. option_map_or (λ s. sweep_edits s w.clock) m []) (master_is master up) ∙ ap (λ clock. sweep_edits master clock) (clock_is master (master_is master up))
        ∙ ap (λ m. option_map_or (λ s. sweep_edits s now.master) m []) (sym up)

    frees_at : (master : MasterState) → p.master ≡ Some master → step_frees w steps.Sweep ≡ deed_frees p now.master Sweeps
    frees_at master up =
        ap (λ m. option_map_or (λ s. sweep_frees s w.clock) m false) (master_is master up) ∙ ap (λ clock. sweep_frees master clock) (clock_is master (master_is master up))
        ∙ ap (λ m. option_map_or (λ s. sweep_frees s now.master) m false) (sym up)

    pub sweeps : (new : Parts) (printed : List Line) → SweepsBy p now.master new printed → Follows w p Sweeps entries now new printed
    sweeps new printed t = record {
      step = steps.Sweep;
      behind = record w { rows = changed_rows w.rows (sweep_edits t.master w.clock); master = Some t.next; messages = w.messages ++ map ToClient t.swept.outs };
      is_step = step_sweeps w ∙ ap without_quiet (swept_at t.master t.next t.swept t.up t.step) ∙ ap (λ ls. Ok (record w { rows = changed_rows w.rows (sweep_edits t.master w.clock); master = Some t.next; messages = w.messages ++ map ToClient t.swept.outs }, ls)) (sym t.prints);
      typed = tt;
      frees = frees_at t.master t.up;
      edits = sweeps_at t.master t.up;
      at = λ leave. refl;
      mirrors = subst (λ q. Mirrors q (record w { rows = changed_rows w.rows (sweep_edits t.master w.clock); master = Some t.next; messages = w.messages ++ map ToClient t.swept.outs })) (sym t.left)
          (record { cell = same.cell; rows = edits_at t.master t.up; master = refl; clients = same.clients; messages = ap (λ told. told ++ map ToClient t.swept.outs) same.messages; terms = same.terms });
      timely = goes_on t.master t.next (changed_rows w.rows (sweep_edits t.master w.clock)) (w.messages ++ map ToClient t.swept.outs) (master_is t.master t.up);
    }

    step_cuts : world_step w (steps.CutSweep Kept) ≡ cut_sweep w (world_sweep w w.master)
    unfolding world_step
    step_cuts = refl

    pub falls_sweeping : (new : Parts) (printed : List Line) → FallsSweepingBy p now.master new printed → Follows w p FallsSweeping entries now new printed
    falls_sweeping new printed t = record {
      step = steps.CutSweep Kept;
      behind = record w { rows = changed_rows w.rows (sweep_edits t.master w.clock); master = None };
      is_step = step_cuts ∙ ap (cut_sweep w) (swept_at t.master t.next t.swept t.up t.step) ∙ ap (λ ls. Ok (record w { rows = changed_rows w.rows (sweep_edits t.master w.clock); master = None }, ls)) (sym t.prints);
      typed = tt;
      frees = frees_at t.master t.up;
      edits = sweeps_at t.master t.up;
      at = λ leave. refl;
      mirrors = subst (λ q. Mirrors q (record w { rows = changed_rows w.rows (sweep_edits t.master w.clock); master = None })) (sym t.left)
          (record { cell = same.cell; rows = edits_at t.master t.up; master = refl; clients = same.clients; messages = same.messages; terms = same.terms });
      timely = goes_alone (changed_rows w.rows (sweep_edits t.master w.clock));
    }

    pub answers_beat : (new : Parts) (printed : List Line) → AnswersBeatBy p now.master new printed → Follows w p AnswersBeat entries now new printed
    answers_beat new printed t = record {
      step = steps.Beats;
      behind = record w { master = Some t.next; messages = w.messages ++ map ToClient t.swept.outs };
      is_step = step_beats w ∙ ap (world_beats w) (master_is t.master t.up) ∙ ap (λ clock. answered w (beats_step t.master clock)) (clock_is t.master (master_is t.master t.up)) ∙ ap (answered w) t.step ∙ ap (λ ls. Ok (record w { master = Some t.next; messages = w.messages ++ map ToClient t.swept.outs }, ls)) (sym t.prints);
      typed = tt;
      frees = refl;
      edits = refl;
      at = λ leave. refl;
      mirrors = subst (λ q. Mirrors q (record w { master = Some t.next; messages = w.messages ++ map ToClient t.swept.outs })) (sym t.left)
          (record { cell = same.cell; rows = same.rows; master = refl; clients = same.clients; messages = ap (λ told. told ++ map ToClient t.swept.outs) same.messages; terms = same.terms });
      timely = goes_on t.master t.next w.rows (w.messages ++ map ToClient t.swept.outs) (master_is t.master t.up);
    }

    step_downs : world_step w steps.Down ≡ world_down w w.master
    unfolding world_step
    step_downs = refl

    pub goes : (new : Parts) (printed : List Line) → GoesBy p new printed → Follows w p Goes entries now new printed
    goes new printed t = record {
      step = steps.Down;
      behind = record w { master = None };
      is_step = step_downs ∙ ap (world_down w) (master_is t.master t.up) ∙ ap (λ ls. Ok (record w { master = None }, ls)) (sym t.prints);
      typed = tt;
      frees = refl;
      edits = refl;
      at = λ leave. refl;
      mirrors = subst (λ q. Mirrors q (record w { master = None })) (sym t.left)
          (record { cell = same.cell; rows = same.rows; master = refl; clients = same.clients; messages = same.messages; terms = same.terms });
      timely = goes_alone w.rows;
    }

    -- ---- a client

    step_asks : (n : ℕ) (ask : Ask) → world_step w (steps.Ask n ask) ≡ option_map_or (λ member. asked w n member (ask_step member.client member.clock ask)) (member_of w n) (Err faults.NoSession)
    unfolding world_step
    step_asks n ask = refl

    step_beaten : (n : ℕ) → world_step w (steps.Beat n) ≡ option_map_or (λ member. beaten w n member (beat_step member.client member.clock)) (member_of w n) (Err faults.NoSession)
    unfolding world_step
    step_beaten n = refl

    -- the client of the world that is that of the parts
    found_of : (n : ℕ) (client : ClientState) → p.clients n ≡ Some client → (member : WorldClient) × (member_at w.clients n ≡ Some member) × (member.client ≡ client)
    found_of n client there = found_client (member_at w.clients n) client (same.clients n ∙ there)

    ends_so : (n : ℕ) (member : WorldClient) (next : ClientState) (told : List Line) (outcome : Outcome) → ends_ask (record w { clients = stepped w.clients n member next }) told outcome ≡ (record w { clients = stepped w.clients n member next; messages = w.messages ++ sent_by outcome }, ended_by told outcome)
    ends_so n member next told (Sent request) = refl
    ends_so n member next told (Served answer) = ap (λ ms. (record w { clients = stepped w.clients n member next; messages = ms }, told)) (sym (append-nil w.messages))
    ends_so n member next told Answered = ap (λ ms. (record w { clients = stepped w.clients n member next; messages = ms }, told)) (sym (append-nil w.messages))
    ends_so n member next told (Refused fault) = ap (λ ms. (record w { clients = stepped w.clients n member next; messages = ms }, ended_by told (Refused fault))) (sym (append-nil w.messages))

    beats_so : (n : ℕ) (member : WorldClient) (next : ClientState) (told : List Line) (request : Option Request) → ends_beat (record w { clients = stepped w.clients n member next }) told request ≡ (record w { clients = stepped w.clients n member next; messages = w.messages ++ sent_as request }, told)
    beats_so n member next told (Some request) = refl
    beats_so n member next told None = ap (λ ms. (record w { clients = stepped w.clients n member next; messages = ms }, told)) (sym (append-nil w.messages))

    pub asks : (n : ℕ) (ask : Ask) (new : Parts) (printed : List Line) → AsksBy p (now.client n) n ask new printed → Follows w p (Asks n ask) entries now new printed
    asks n ask new printed t =
        let found = found_of n t.client t.there in
        let member = found.0 in
        let after : WorldState = record w { clients = stepped w.clients n member t.next; messages = w.messages ++ sent_by t.asked.outcome } in
        let stepped_so : ask_step member.client member.clock ask ≡ (t.next, Ok t.asked) = ap (λ c. ask_step c member.clock ask) found.2 ∙ ap (λ clock. ask_step t.client clock ask) (member_clock n member found.1) ∙ t.step in
        record {
          step = steps.Ask n ask;
          behind = after;
          is_step = step_asks n ask ∙ ap (λ o. option_map_or (λ m. asked w n m (ask_step m.client m.clock ask)) o (Err faults.NoSession)) found.1
              ∙ ap (asked w n member) stepped_so ∙ ap (λ end. Ok end) (ends_so n member t.next t.asked.lines t.asked.outcome) ∙ ap (λ ls. Ok (after, ls)) (sym t.prints);
          typed = tt;
          frees = refl;
          edits = refl;
          at = λ leave. refl;
          mirrors = subst (λ q. Mirrors q after) (sym t.left) (record {
            cell = same.cell;
            rows = same.rows;
            master = same.master;
            clients = stepped_clients w.clients p.clients n member t.next found.1 same.clients;
            messages = ap (λ told. told ++ sent_by t.asked.outcome) same.messages;
            terms = same.terms;
          });
          timely = steps_on n member t.next (w.messages ++ sent_by t.asked.outcome) found.1;
        }

    pub beats : (n : ℕ) (new : Parts) (printed : List Line) → BeatsBy p (now.client n) n new printed → Follows w p (Beats n) entries now new printed
    beats n new printed t =
        let found = found_of n t.client t.there in
        let member = found.0 in
        let after : WorldState = record w { clients = stepped w.clients n member t.next; messages = w.messages ++ sent_as t.beaten.request } in
        let stepped_so : beat_step member.client member.clock ≡ (t.next, Ok t.beaten) = ap (λ c. beat_step c member.clock) found.2 ∙ ap (λ clock. beat_step t.client clock) (member_clock n member found.1) ∙ t.step in
        record {
          step = steps.Beat n;
          behind = after;
          is_step = step_beaten n ∙ ap (λ o. option_map_or (λ m. beaten w n m (beat_step m.client m.clock)) o (Err faults.NoSession)) found.1
              ∙ ap (beaten w n member) stepped_so ∙ ap (λ end. Ok end) (beats_so n member t.next t.beaten.lines t.beaten.request) ∙ ap (λ ls. Ok (after, ls)) (sym t.prints);
          typed = tt;
          frees = refl;
          edits = refl;
          at = λ leave. refl;
          mirrors = subst (λ q. Mirrors q after) (sym t.left) (record {
            cell = same.cell;
            rows = same.rows;
            master = same.master;
            clients = stepped_clients w.clients p.clients n member t.next found.1 same.clients;
            messages = ap (λ told. told ++ sent_as t.beaten.request) same.messages;
            terms = same.terms;
          });
          timely = steps_on n member t.next (w.messages ++ sent_as t.beaten.request) found.1;
        }

    pub hears : (at : ℕ) (new : Parts) (printed : List Line) → HearsBy p now.client at new printed → Follows w p (Hears at) entries now new printed
    hears at new printed t =
        let n : ℕ = out_client t.out in
        let found = found_of n t.client t.there in
        let member = found.0 in
        let after : WorldState = record w { clients = stepped w.clients n member t.next } in
        let stepped_so : give_step member.client member.clock t.out ≡ (t.next, Ok t.given) = ap (λ c. give_step c member.clock t.out) found.2 ∙ ap (λ clock. give_step t.client clock t.out) (member_clock n member found.1) ∙ t.step in
        record {
          step = steps.Give at;
          behind = after;
          is_step = step_gives w at ∙ ap (λ o. option_map_or (λ out. given_to w out) o (Err faults.NoSuchMessage)) (ap (λ told. out_at told at) same.messages ∙ t.was_told)
              ∙ ap (λ o. option_map_or (λ m. gave w n m (give_step m.client m.clock t.out)) o (Err faults.NoSession)) found.1
              ∙ ap (gave w n member) stepped_so ∙ ap (λ ls. Ok (after, ls)) (sym t.prints);
          typed = tt;
          frees = refl;
          edits = refl;
          at = λ leave. refl;
          mirrors = subst (λ q. Mirrors q after) (sym t.left) (record {
            cell = same.cell;
            rows = same.rows;
            master = same.master;
            clients = stepped_clients w.clients p.clients n member t.next found.1 same.clients;
            messages = same.messages;
            terms = same.terms;
          });
          timely = steps_on n member t.next w.messages found.1;
        }

    -- ---- a master that comes up

    read_as_is : (now : ℕ) (m : Option MasterState) (leave : List Rows) → m ≡ None → IsAtUp m (view w leave) (view w leave)
    read_as_is now None leave none = (store_in (view w leave), record { cell = refl; counted = refl; doubted = omega arith; same = λ sure. refl }, refl)
    read_as_is now (Some s) leave none = cc

    step_ups : world_step w (steps.Up now.master) ≡ world_up w now.master w.master
    unfolding world_step
    step_ups = refl

    step_cut_ups : world_step w (steps.CutUp now.master Kept) ≡ world_cut_up w now.master Kept w.master
    unfolding world_step
    step_cut_ups = refl

    none_is : p.master ≡ None → w.master ≡ None
    none_is none = same.master ∙ none

    up_is : (master : MasterState) → up_step p.cell p.rows p.terms now.master ≡ Ok master → up_step w.cell w.rows w.terms now.master ≡ Ok master
    up_is master step = rw (same.cell, same.rows, same.terms) step

    -- what it commits
    ups_at : (master : MasterState) → p.master ≡ None → up_step p.cell p.rows p.terms now.master ≡ Ok master → came_up_edits w now.master w.master ≡ up_edits p.rows
    ups_at master none step = ap (came_up_edits w now.master) (none_is none) ∙ ap (λ r. up_commit r w.rows) (up_is master step) ∙ ap up_edits same.rows

    up_rows : changed_rows w.rows (up_edits w.rows) ≡ changed_rows p.rows (up_edits p.rows)
    up_rows = ap (λ rows. changed_rows rows (up_edits rows)) same.rows

    led_at_up : (fair : KeepFair now entries) (master : MasterState) (n : ℕ) (member : WorldClient) → IsTimely w.master entries now n member → IsTimely (Some master) entries now n (at_up now.master member)
    led_at_up fair master n member h =
        let at = h.clock in
        record { clock = at; led = record { from = now; least = omega (arith, at); before = omega arith; moves = at_once now; fair = fair } }

    pub comes_up : AreMoments now → KeepFair now entries → (new : Parts) (printed : List Line) → ComesUpBy p now.master new printed → Follows w p ComesUp entries now new printed
    comes_up moments fair new printed t =
        let after : WorldState = record w { rows = changed_rows w.rows (up_edits w.rows); master = Some t.master; clock = now.master; clients = each_member (λ number. at_up now.master) w.clients } in
        record {
          step = steps.Up now.master;
          behind = after;
          is_step = step_ups ∙ ap (world_up w now.master) (none_is t.none) ∙ ap (came_up w now.master) (up_is t.master t.step) ∙ ap (λ ls. Ok (after, ls)) (sym t.prints);
          typed = rw same.rows t.ordered;
          frees = refl;
          edits = ups_at t.master t.none t.step;
          at = λ leave. read_as_is now.master w.master leave (none_is t.none);
          mirrors = subst (λ q. Mirrors q after) (sym t.left) (record {
            cell = same.cell;
            rows = up_rows;
            master = refl;
            clients = λ n. clients_stay (λ number. at_up now.master) (λ number member. refl) w.clients n ∙ same.clients n;
            messages = same.messages;
            terms = same.terms;
          });
          timely = record {
            early = moments.master;
            master = refl;
            each = each_moved (IsTimely (Some t.master) entries now) (λ number. at_up now.master) w.clients
                (each_so (IsTimely w.master entries now) (λ n member. IsTimely (Some t.master) entries now n (at_up now.master member)) (led_at_up fair t.master) w.clients timely.each);
            fair = fair;
          };
        }

    pub falls_coming_up : (new : Parts) (printed : List Line) → FallsComingUpBy p now.master new printed → Follows w p FallsComingUp entries now new printed
    falls_coming_up new printed t =
        let after : WorldState = record w { rows = changed_rows w.rows (up_edits w.rows) } in
        record {
          step = steps.CutUp now.master Kept;
          behind = after;
          is_step = step_cut_ups ∙ ap (world_cut_up w now.master Kept) (none_is t.none) ∙ ap (cut_up w Kept) (up_is t.master t.step) ∙ ap (λ ls. Ok (after, ls)) (sym t.prints);
          typed = tt;
          frees = refl;
          edits = ups_at t.master t.none t.step;
          at = λ leave. read_as_is now.master w.master leave (none_is t.none);
          mirrors = subst (λ q. Mirrors q after) (sym t.left)
              (record { cell = same.cell; rows = up_rows; master = same.master; clients = same.clients; messages = same.messages; terms = same.terms });
          timely = record { early = timely.early; master = timely.master; each = timely.each; fair = timely.fair };
        }

    -- ---- a client begins: its clock shows no moment yet, and is then moved to this one

    step_joins : (n : ℕ) (principal : List ℕ) → world_step w (steps.Join n principal) ≡ (let r : Result (WorldState × List Line) Fault = cond (is_some (member_of w n)) (Err faults.Exists) (Ok (record w { clients = insert_entry nat_cmp w.clients n (new_member n principal w.clock) }, [])) in r)
    unfolding world_step
    step_joins n principal = refl

    free_is : (n : ℕ) → p.clients n ≡ None → member_at w.clients n ≡ None
    free_is n free = no_client (member_at w.clients n) (same.clients n ∙ free)

    abbrev pub joined : ℕ → List ℕ → WorldState
    joined n principal = record w { clients = insert_entry nat_cmp w.clients n (new_member n principal w.clock) }

    pub joins_step : (n : ℕ) (principal : List ℕ) → p.clients n ≡ None → world_step w (steps.Join n principal) ≡ Ok (joined n principal, [])
    joins_step n principal free = step_joins n principal ∙ ap (λ o. let r : Result (WorldState × List Line) Fault = cond (is_some o) (Err faults.Exists) (Ok (joined n principal, [])) in r) (free_is n free)

    pub joins_mirrors : (n : ℕ) (principal : List ℕ) (new : Parts) (printed : List Line) → BeginsBy p n principal new printed → Mirrors new (joined n principal)
    joins_mirrors n principal new printed t =
        subst (λ q. Mirrors q (joined n principal)) (sym t.left)
        (record { cell = same.cell; rows = same.rows; master = same.master; clients = put_clients w.clients p.clients n (new_member n principal w.clock) same.clients; messages = same.messages; terms = same.terms })

    -- its own clock alone moves
    abbrev alone_moves : ℕ → ℕ → ℕ
    alone_moves n q = if q == n then now.client n else 0

    moves_own : (n : ℕ) → 0 + alone_moves n n ≡ now.client n
    moves_own n = rw (same_number n) (omega arith)

    moves_other : (n q : ℕ) (member : WorldClient) → IsTimely w.master entries now q member → (q == n) ≡ false → member.clock + alone_moves n q ≡ now.client q
    moves_other n q member h apart = rw (apart, h.clock) (omega arith)

    pub joins_reach : (n : ℕ) (principal : List ℕ) → p.clients n ≡ None → Reach (joined n principal) 0 (alone_moves n) now.client (joined n principal).clients
    joins_reach n principal free =
        each_put (λ q member. member.clock + alone_moves n q ≡ now.client q) n (new_member n principal w.clock) w.clients (moves_own n)
        (each_both (IsTimely w.master entries now) (λ q member. (q == n) ≡ false) (λ q member. member.clock + alone_moves n q ≡ now.client q) (moves_other n) w.clients timely.each (each_apart n w.clients (free_is n free)))

    led_of : (m : Option MasterState) (s : MasterState) → m ≡ Some s → (q : ℕ) (member : WorldClient) → IsTimely m entries now q member → LedFrom entries now q member
    led_of None s up q member h = cc
    led_of (Some other) s up q member h = h.led

    led_new : KeepFair now entries → (n : ℕ) (principal : List ℕ) → w.clock ≡ now.master → LedFrom entries now n (new_member n principal w.clock)
    led_new fair n principal at = record { from = now; least = omega (arith, at); before = omega arith; moves = at_once now; fair = fair }

    joins_beside : AreMoments now → KeepFair now entries → (n : ℕ) (principal : List ℕ) → p.clients n ≡ None → (s : MasterState) → w.master ≡ Some s → Ticks (joined n principal) entries now
    joins_beside moments fair n principal free s up =
        let at = clock_is s up in
        beside_by entries now now fair (joined n principal) moments 0 (alone_moves n) (joins_reach n principal free) (omega (arith, at))
        (each_put (LedFrom entries now) n (new_member n principal w.clock) w.clients (led_new fair n principal at)
        (each_so (IsTimely w.master entries now) (LedFrom entries now) (led_of w.master s up) w.clients timely.each)) s up

    joins_by : AreMoments now → KeepFair now entries → (n : ℕ) (principal : List ℕ) → p.clients n ≡ None → (m : Option MasterState) → w.master ≡ m → Ticks (joined n principal) entries now
    joins_by moments fair n principal free None none = alone_by (joined n principal) entries now moments (alone_moves n) (joins_reach n principal free) w.master refl none timely.early
    joins_by moments fair n principal free (Some s) up = joins_beside moments fair n principal free s up

    pub joins_ticks : AreMoments now → KeepFair now entries → (n : ℕ) (principal : List ℕ) → p.clients n ≡ None → Ticks (joined n principal) entries now
    joins_ticks moments fair n principal free = joins_by moments fair n principal free w.master refl
