-- Why a step of a consistent world leads to a consistent one.
use Rattle.std.proofs.Common.{◌≡◌, ◌≢◌, ℕ, ◌+◌, ◌*◌, ◌<◌, ◌≤◌, max, List, [], ◌∷◌, ◌++◌, Bool, true, false, cond, Option, Some, None, Result, Ok, Err, refl, sym, ap, ◌∙◌, inl, inr, arith, subst, map, zero, suc}
use Rattle.std.specs.Prelude.{nat_le, nat_lt, IfOk, IfErr, OnOk, OnErr}
use Rattle.std.specs.List.{slice_get}
use Rattle.std.specs.Option.{option_map}
use Rattle.std.specs.Map.{lookup}
use Rattle.std.specs.BTreeMap.{is_at, insert_entry}
use Rattle.std.specs.Ordering.{nat_cmp}
use Rattle.std.proofs.lemmas.List.{append-nil}
use Rattle.collections.proofs.OneKey.{lookup_put, lookup_put_apart}
use Rattle.lease_core.specs.Lease.{longest_lease}
use Rattle.coherence.specs.Slice.{Reached}
use Rattle.coherence.proofs.Reached.{reached_at_start}
use Rattle.node_core.specs.Nodes.{view_at, with_parent}
use Rattle.node_core.specs.declared.refusals.Fault.{Fault}
use Rattle.node_core.specs.declared.refusals.Fault.TheVariants as faults
use Rattle.node_core.specs.declared.lines.Line.{Line}
use Rattle.node_core.specs.declared.lines.Line.TheVariants as lines
use Rattle.node_core.specs.declared.views.Mod.{Mod}
use Rattle.node_core.specs.declared.views.Mod.TheVariants.{Put, Gone}
use Rattle.rows_cell.specs.declared.settings.Limits.{Limits}
use Rattle.rows_cell.specs.declared.settings.MasterTerms.{MasterTerms}
use Rattle.rows_cell.specs.declared.tables.Rows.{Rows}
use Rattle.rows_cell.specs.declared.tables.SessionRow as stored
use Rattle.rows_cell.specs.declared.tables.Edit.TheVariants.{NextInstance, PutSession}
use Rattle.rows_cell.specs.Rows.{changed_rows, map_of}
use Rattle.tags_cell.specs.declared.messages.requests.Request.{Request}
use Rattle.tags_cell.specs.declared.messages.requests.Request.TheVariants as requests
use Rattle.tags_cell.specs.declared.messages.requests.CallMessage.{CallMessage}
use Rattle.tags_cell.specs.declared.messages.beats.Beat.{Beat}
use Rattle.tags_cell.specs.declared.messages.outs.Out.{Out}
use Rattle.tags_cell.specs.declared.messages.outs.Out.TheVariants as outs
use Rattle.tags_cell.specs.declared.messages.outs.Started.{Started}
use Rattle.tags_cell.specs.declared.messages.outs.CallResult.TheVariants as results
use Rattle.tags_cell.specs.declared.messages.outs.Refused.{Refused}
use Rattle.tags_cell.specs.declared.messages.outs.Reply.{Reply}
use Rattle.master_parts.specs.declared.handles.HandleNote.{HandleNote}
use Rattle.session_core.specs.declared.records.LastCall.{LastCall}
use Rattle.session_core.specs.declared.records.Session.{Session}
use Rattle.event_core.specs.Queue.{count_of}
use Rattle.session_core.specs.Session.{events_of, live_beat_fault, beat_fault}
use Rattle.lock_core.specs.Turns.{reopened}
use Rattle.lock_core.specs.Locks.{lock_at}
use Rattle.master_parts.specs.declared.pending.Task.TheVariants as tasks
use Rattle.master_state.specs.State.{MasterState, master_of}
use Rattle.master_parts.specs.StoredSessions.{taken_over}
use Rattle.master_state.specs.Lookups.{session_of, repeated_reply, retiring, noted}
use Rattle.master_state.specs.Updates.{with_note, edit_of, retire_edits, lock_changes}
use Rattle.cell_core.proofs.AskedFor.{asks_only}
use Rattle.cell_core.specs.Step.{with_call, asking_for, queued, names_of}
use Rattle.cell_core.specs.Cases.{TakeCase, taken_by}
use Rattle.over_core.proofs.KeptBySweeps.{sessions_ordered}
use Rattle.over_core.specs.SweepCase.{SweepCase, swept_by, swept_edits, gone_replies}
use Rattle.over_core.proofs.KeptByTakes.{clock_kept}
use Rattle.over_core.proofs.Limited.{taken_same, case_within}
use Rattle.over_core.proofs.SweepCases.{action_tellings}
use Rattle.cell_core.specs.Cases.TakeCase.{LeftBefore, Repeated, StartQueued, OldBeat, BeatRefused, BeatParked, OldEpoch, LeavesBeside, Answered, Granted, Waits}
use Rattle.cell_core.specs.Outcomes.{left_put}
use Rattle.master_state.specs.Replies.{turn_replies, puts_of, replies_to}
use Rattle.master_state.specs.Lapses.{lapses_of, lapses_puts, lapses_replies}
use Rattle.over_core.specs.SweepCase.SweepCase.{Quiet, Recovers, Expires, Reopens, Tidies, Spared, Tidied, StartedAgain, Started as StartedFirst, OfEnded, Ended, Applied, Deleted, Locked, Awaited, Left, Departed}
use Rattle.over_core.specs.Kept.{IsKept}
use Rattle.over_core.specs.Up.{up_edits}
use Rattle.client_core.specs.declared.parts.sessions.ClientStanding.TheVariants as sessions
use Rattle.client_core.specs.State.{ClientState}
use Rattle.world_steps.specs.declared.steps.Step.{Step}
use Rattle.world_steps.specs.declared.steps.Step.TheVariants as steps
use Rattle.world_steps.specs.declared.steps.Ticks.{Ticks as ClockSteps}
use Rattle.world_steps.specs.declared.parts.SweepResult.{SweepResult}
use Rattle.world_steps.specs.declared.mail.Message.{Message}
use Rattle.world_steps.specs.declared.mail.Message.TheVariants.{ToMaster, ToClient}
use Rattle.world_steps.specs.declared.members.WorldClient.{WorldClient}
use Rattle.world_steps.specs.Members.{Clients, new_member, stepped, each_member, at_up, clock_then}
use Rattle.world_steps.specs.Messages.{request_at, out_at, call_of}
use Rattle.world_steps.specs.World.{WorldState, WorldView, IsUndoubted, member_of, new_world, world_step, world_sweep, without_quiet, step_edits, step_frees, IsStored, IsLeft, stays_fair, are_fair, moved, ticked, without_master, Agrees}
use Rattle.world_cell.specs.Slices.{slice, standing_in}
use Rattle.world_cell.specs.Contents.{TellsTrue}
use Rattle.world_cell.specs.Consistent.{IsMember, Holds, HasSent, IsAnswer, FitsMessages, Fits, IsNoted, IsInTurn, IsFairSince, AreFair, IsLimited, IsConsistent}
use Rattle.world_cell.proofs.MessagesGrow.{none_sent, none_out, request_more, out_more, call_stays, call_more, call_new, no_call, no_request, one_call, its_call, one_request, one_no_out, out_among}
use Rattle.world_cell.proofs.OneSession.{at_each, kept_in}
use Rattle.world_cell.proofs.RelockedRows.{let_go, relocked_rows}
use Rattle.world_cell.proofs.MasterFits.{fits_stays, tellings_fit, take_fits, sweep_fits}
use Rattle.world_cell.proofs.MembersFound.{some_same, own_member, other_member, at_members, each_found, at_each_member, all_found, moves_so, fair_at_once, fair_beside}
use Rattle.world_steps.specs.Made.{WasMade, WasRefused}
use Rattle.world_steps.proofs.AsRead.{made_doubts, made_sure, refused_doubts, refused_sure}
use Rattle.world_cell.proofs.WorldCases.{step_sweeps, swept_master, IsUp, IsSweep, WorldCase, world_case}
use Rattle.world_cell.proofs.WorldCases.WorldCase.{ComesUp, Joins, Asks, Beats, Gives, Ticks, Takes, Sweeps, GoesDown, CutsSweep, CutsUp, LosesUp}
use Rattle.world_cell.proofs.OwnSteps.{IsNoCall, IsNextCall, Sends, OfEpoch, sending, IsOwn, asks_own, beats_own, gives_own}
use Rattle.world_cell.proofs.OwnSteps.Sends.{Nothing, NoCall, NextCall}
use Rattle.world_cell.proofs.OwnSteps.OfEpoch.{SameEpoch, GrantedEpoch, LearnedEpoch}
use Rattle.world_cell.proofs.Slices.{started_some}
use Rattle.lock_core.specs.declared.partings.Parting.TheVariants as partings
use Rattle.tags_cell.specs.Messages.{is_leave}
use Rattle.over_core.specs.declared.actions.Action.{Action}

least : (n : ℕ) → n ≤ n
least n = omega arith

zero_least : (n : ℕ) → 0 ≤ n
zero_least n = omega arith

no_more : (a b : ℕ) → 16 * a + 17 * b ≤ 16 * a + 17 * b
no_more a b = omega arith

-- ---- what only grows

-- a client is there later. While no other master has come up, the lead at the point of the least isn't more than it was
pub record HasLater (old new : WorldState) (client : ℕ) (member : WorldClient) : Type 0 where
  pub next : WorldClient
  pub there : member_of new client ≡ Some next
  pub calls : member.client.calls ≤ next.client.calls
  pub leaves : member.client.leaving ≡ true → next.client.leaving ≡ true
  pub clock : member.clock ≤ next.clock
  pub lead : new.rows.epoch ≡ old.rows.epoch → 16 * next.least_now + 17 * member.least_clock ≤ 16 * member.least_now + 17 * next.least_clock

-- clients stay, and neither their calls nor their clocks go back, nor the epoch, nor the clock of a master
pub record Later (old new : WorldState) : Type 0 where
  pub clients : (client : ℕ) (member : WorldClient) → member_of old client ≡ Some member → HasLater old new client member
  pub epoch : old.rows.epoch ≤ new.rows.epoch
  pub clock : new.rows.epoch ≡ old.rows.epoch → old.clock ≤ new.clock

-- the messages that a step adds
record AreFresh (old new : WorldState) (more : List Message) : Type 0 where
  grown : new.messages ≡ old.messages ++ more
  named : (j : ℕ) (call : CallMessage) → slice_get more j ≡ Some (ToMaster (requests.Call call)) → (call_of old.messages call.client call.number ≡ None) × (call_of more call.client call.number ≡ Some call)
  sent : (client number : ℕ) (call : CallMessage) → call_of more client number ≡ Some call → HasSent new client number call
  started : (j : ℕ) (started : Started) → slice_get more j ≡ Some (ToClient (outs.Started started)) → started.epoch ≤ new.rows.epoch
  told : (j present : ℕ) (refused : Refused) → slice_get more j ≡ Some (ToClient (outs.Refused refused)) → refused.fault ≡ faults.OldEpoch present → present ≤ new.rows.epoch

pub fits_more : (old new : WorldState) (more : List Message) (o : Option MasterState) → new.messages ≡ old.messages ++ more → Fits old o → Fits new o
fits_more old new more None e h = tt
fits_more old new more (Some s) e h = subst (λ (xs : List Message). FitsMessages xs s) (sym e) (fits_stays old.messages more s h)

-- what its clients hold, what they were replied, and how each sees each name
pub record IsServed (w : WorldState) : Type 0 where
  pub holds : (number : ℕ) (member : WorldClient) → member_of w number ≡ Some member → Holds w.messages member.client
  pub answers : (at : ℕ) (reply : Reply) → out_at w.messages at ≡ Some (outs.Reply reply) → IsAnswer w.messages w.rows.secret reply
  pub reached : (client : ℕ) (name : List ℕ) → Reached (slice client name w)
  pub tells : TellsTrue w

-- a world that agrees with its rows, and serves its clients, is consistent
pub data Becomes (w : WorldState) : Type 0 where
  OnceServed : (Agrees w w.master → IsServed w → IsConsistent w) → Becomes w

pub once_served : (w : WorldState) → Becomes w → Agrees w w.master → IsServed w → IsConsistent w
once_served w (Becomes.OnceServed consistent) = consistent

module _ (old new : WorldState) (more : List Message) (h : IsConsistent old) (later : Later old new) (fresh : AreFresh old new more) where
  sent_later : (client number : ℕ) (call : CallMessage) → HasSent old client number call → HasSent new client number call
  sent_later client number call x =
      let y = later.clients client x.member x.joined in
      let within = x.within in
      let at_least = y.calls in
      let past = x.past in
      let epoch = later.epoch in
      record { member = y.next; joined = y.there; within = omega arith; past = omega arith; leaves = λ leave. y.leaves (x.leaves leave) }

  all_named : (at : ℕ) (call : CallMessage) → request_at new.messages at ≡ Some (requests.Call call) → call_of new.messages call.client call.number ≡ Some call
  all_named at call is =
      let k : request_at (old.messages ++ more) at ≡ Some (requests.Call call) = rw fresh.grown at is in
      rw fresh.grown (elim (request_more old.messages more at (requests.Call call) k) [
        | inl a ↦ call_stays old.messages more call.client call.number call (h.named at call a)
        | inr b ↦ let t = fresh.named b.0 call b.1 in call_new old.messages more call.client call.number t.0 ∙ t.1
      ])

  all_sent : (client number : ℕ) (call : CallMessage) → call_of new.messages client number ≡ Some call → HasSent new client number call
  all_sent client number call is =
      let k : call_of (old.messages ++ more) client number ≡ Some call = rw fresh.grown at is in
      elim (call_more old.messages more client number call k) [
        | inl a ↦ sent_later client number call (h.sent client number call a)
        | inr b ↦ fresh.sent client number call b
      ]

  all_started : (at : ℕ) (started : Started) → out_at new.messages at ≡ Some (outs.Started started) → started.epoch ≤ new.rows.epoch
  all_started at started is =
      let k : out_at (old.messages ++ more) at ≡ Some (outs.Started started) = rw fresh.grown at is in
      elim (out_more old.messages more at (outs.Started started) k) [
        | inl a ↦ (let was = h.started at started a in let epoch = later.epoch in omega arith)
        | inr b ↦ fresh.started b.0 started b.1
      ]

  all_told : (at present : ℕ) (refused : Refused) → out_at new.messages at ≡ Some (outs.Refused refused) → refused.fault ≡ faults.OldEpoch present → present ≤ new.rows.epoch
  all_told at present refused is of =
      let k : out_at (old.messages ++ more) at ≡ Some (outs.Refused refused) = rw fresh.grown at is in
      elim (out_more old.messages more at (outs.Refused refused) k) [
        | inl a ↦ (let was = h.told at present refused a of in let epoch = later.epoch in omega arith)
        | inr b ↦ fresh.told b.0 present refused b.1 of
      ]

  all_consistent : ((number : ℕ) (member : WorldClient) → member_of new number ≡ Some member → IsMember new.rows.epoch number member) → Fits new new.master → new.terms ≡ old.terms → IsLimited new.terms.limits new.master → IsNoted new.clock new.master → AreFair new new.master → Becomes new
  all_consistent clients fits terms limits noted fair = Becomes.OnceServed (λ master served. record {
    clients = clients;
    holds = served.holds;
    named = all_named;
    sent = all_sent;
    started = all_started;
    told = all_told;
    answers = served.answers;
    master = master;
    fits = fits;
    lease = subst (λ (t : MasterTerms). t.lease ≤ longest_lease) (sym terms) h.lease;
    limits = limits;
    noted = noted;
    fair = fair;
    reached = served.reached;
    tells = served.tells;
  })

-- ---- messages that are no calls

none_fresh : (old new : WorldState) → new.messages ≡ old.messages → AreFresh old new []
none_fresh old new e = record {
  grown = e ∙ sym (append-nil old.messages);
  named = λ j call k. cc;
  sent = λ client number call k. cc;
  started = λ j started k. cc;
  told = λ j present refused k of. cc;
}

pub no_call_found : (request : Request) (client number : ℕ) → IsNoCall request → call_of (ToMaster request ∷ []) client number ≡ None
no_call_found (requests.Start start) client number none = refl
no_call_found (requests.Beat beat) client number none = refl
no_call_found (requests.Call call) client number none = absurd none

beat_fresh : (old new : WorldState) (request : Request) → IsNoCall request → new.messages ≡ old.messages ++ ToMaster request ∷ [] → AreFresh old new (ToMaster request ∷ [])
beat_fresh old new request none e = record {
  grown = e;
  named = λ j call k. absurd (subst IsNoCall (sym (one_request request (requests.Call call) j k)) none);
  sent = λ client number call k. let nothing = no_call_found request client number none in cc;
  started = λ j started k. absurd (one_no_out request (outs.Started started) j k);
  told = λ j present refused k of. absurd (one_no_out request (outs.Refused refused) j k);
}

-- what grants a session is of an epoch that was, and so is what tells of one
abbrev IsFaultIn : ℕ → Fault → Type 0
IsFaultIn epoch (faults.OldEpoch present) = present ≤ epoch
IsFaultIn epoch _ = Unit {0}

abbrev IsTellingIn : ℕ → Out → Type 0
IsTellingIn epoch (outs.Started started) = started.epoch ≤ epoch
IsTellingIn epoch (outs.Refused refused) = IsFaultIn epoch refused.fault
IsTellingIn epoch _ = Unit {0}

abbrev AreTellingIn : ℕ → List Out → Type 0
AreTellingIn epoch [] = Unit {0}
AreTellingIn epoch (out ∷ rest) = IsTellingIn epoch out × AreTellingIn epoch rest

told_at : (epoch : ℕ) (sent : List Out) (j present : ℕ) (refused : Refused) → AreTellingIn epoch sent → slice_get sent j ≡ Some (outs.Refused refused) → refused.fault ≡ faults.OldEpoch present → present ≤ epoch
told_at epoch [] j present refused h k of = cc
told_at epoch (out ∷ rest) zero present refused h k of =
    let e : out ≡ outs.Refused refused = cc in
    let g : IsTellingIn epoch (outs.Refused refused) = subst (IsTellingIn epoch) e h.0 in
    subst (IsFaultIn epoch) of g
told_at epoch (out ∷ rest) (suc j) present refused h k of = told_at epoch rest j present refused h.1 k of

grant_at : (epoch : ℕ) (sent : List Out) (j : ℕ) (started : Started) → AreTellingIn epoch sent → slice_get sent j ≡ Some (outs.Started started) → started.epoch ≤ epoch
grant_at epoch [] j started h k = cc
grant_at epoch (out ∷ rest) zero started h k =
    let e : out ≡ outs.Started started = cc in
    let g = h.0 in rw e at g
grant_at epoch (out ∷ rest) (suc j) started h k = grant_at epoch rest j started h.1 k

outs_fresh : (old new : WorldState) (sent : List Out) → new.messages ≡ old.messages ++ map ToClient sent → AreTellingIn new.rows.epoch sent → AreFresh old new (map ToClient sent)
outs_fresh old new sent e telling = record {
  grown = e;
  named = λ j call k. absurd (no_request sent j (requests.Call call) k);
  sent = λ client number call k. let none = no_call sent client number in cc;
  started = λ j started k. grant_at new.rows.epoch sent j started telling (out_among sent j (outs.Started started) k);
  told = λ j present refused k of. told_at new.rows.epoch sent j present refused telling (out_among sent j (outs.Refused refused) k) of;
}

-- ---- all clients as they were

same_clients : (old new : WorldState) → new.clients ≡ old.clients → old.rows.epoch ≤ new.rows.epoch → new.clock ≡ old.clock → Later old new
same_clients old new e epoch clock = record {
  clients = λ client member is. record {
    next = member;
    there = subst (λ (c : Clients). lookup (is_at (nat_cmp client)) c ≡ Some member) (sym e) is;
    calls = least member.client.calls;
    leaves = λ was. was;
    clock = least member.clock;
    lead = λ same. no_more member.least_now member.least_clock;
  };
  epoch = epoch;
  clock = λ same. omega (arith, clock);
}

stepped_later : (old new number : ℕ) (member : WorldClient) → old ≤ new → IsMember old number member → IsMember new number member
stepped_later old new number member more t = let past = t.past in record { own = t.own; past = omega arith; unstarted = t.unstarted; live = t.live; noted = t.noted }

same_members : (old new : WorldState) → IsConsistent old → new.clients ≡ old.clients → old.rows.epoch ≤ new.rows.epoch → (number : ℕ) (member : WorldClient) → member_of new number ≡ Some member → IsMember new.rows.epoch number member
same_members old new h e epoch number member is =
    let k : member_of old number ≡ Some member = subst (λ (c : Clients). lookup (is_at (nat_cmp number)) c ≡ Some member) e is in
    stepped_later old.rows.epoch new.rows.epoch number member epoch (h.clients number member k)

-- ---- the rows of the table: a master comes up

-- of a session as the new master finds it no call is kept, and none waits
abbrev pub IsFirst : Option (Session Reply) → Type 0
IsFirst o = (kept_in o ≡ None) × IsInTurn o []

pub all_first : (now : ℕ) (es : List (ℕ × stored.SessionRow)) (client : ℕ) → IsFirst (lookup (is_at (nat_cmp client)) (map (taken_over now) es))
all_first now [] client = (refl, refl)
all_first now (e ∷ es) client =
    elim (is_at (nat_cmp client) e.0) as (λ b. IsFirst (cond b (Some (taken_over now e).1) (lookup (is_at (nat_cmp client)) (map (taken_over now) es)))) [
      | true ↦ (refl, refl)
      | false ↦ all_first now es client
    ]

module _ (w : WorldState) (h : IsConsistent w) (now : ℕ) where
  abbrev up : WorldState
  up = record w {
    rows = changed_rows w.rows (up_edits w.rows);
    master = Some (master_of (changed_rows w.rows (up_edits w.rows)) w.terms now);
    clock = now;
    clients = each_member (λ number. at_up now) w.clients;
  }

  next_epoch : w.rows.epoch ≤ w.rows.epoch + 1
  next_epoch = omega arith

  not_next : {X : Type 0} → w.rows.epoch + 1 ≡ w.rows.epoch → X
  not_next e = absurd (omega arith)

  up_later : Later w up
  up_later = record {
    clients = λ client member is. record {
      next = at_up now member;
      there = each_found (λ number. at_up now) w.clients client ∙ ap (λ o. option_map (at_up now) o) is;
      calls = least member.client.calls;
      leaves = λ was. was;
      clock = least member.clock;
      lead = λ same. not_next same;
    };
    epoch = next_epoch;
    clock = λ same. not_next same;
  }

  -- it knows of no call
  no_kept : {X : Type 0} (client : ℕ) (kept : LastCall Reply) → kept_in (lookup (is_at (nat_cmp client)) (map (taken_over now) w.rows.sessions)) ≡ Some kept → X
  no_kept client kept is = let none = (all_first now w.rows.sessions client).0 in cc

  up_holds : Becomes up
  up_holds =
      all_consistent w up [] h up_later (none_fresh w up refl)
      (at_each_member (λ number. at_up now) w.clients (λ q x. IsMember (w.rows.epoch + 1) q x) (λ q x is.
      let t = stepped_later w.rows.epoch (w.rows.epoch + 1) q x next_epoch (h.clients q x is) in record { own = t.own; past = t.past; unstarted = t.unstarted; live = t.live; noted = t.noted }))
      (record { queue = tt; kept = λ client kept is. no_kept client kept is; replies = λ client kept reply is of. no_kept client kept is; answers = λ client kept reply is of. no_kept client kept is; turns = λ client. (all_first now w.rows.sessions client).1 }) refl refl (least now)
      (at_each_member (λ number. at_up now) w.clients (λ q x. IsFairSince now x) (λ q x is. fair_at_once now (at_up now x) refl refl))

-- ---- a client joins

module _ (w : WorldState) (h : IsConsistent w) (number : ℕ) (principal : List ℕ) (free : member_of w number ≡ None) where
  abbrev newcomer : WorldClient
  newcomer = new_member number principal w.clock

  abbrev joined : WorldState
  joined = record w { clients = insert_entry nat_cmp w.clients number newcomer }

  at_others : (q : ℕ) → q ≢ number → member_of joined q ≡ member_of w q
  at_others q apart = lookup_put_apart number q apart w.clients newcomer

  join_later : Later w joined
  join_later = record {
    clients = λ q x is. record {
      next = x;
      there = at_others q (λ e. let i : member_of w number ≡ Some x = rw e at is in cc) ∙ is;
      calls = least x.client.calls;
      leaves = λ was. was;
      clock = least x.clock;
      lead = λ same. no_more x.least_now x.least_clock;
    };
    epoch = least w.rows.epoch;
    clock = λ same. least w.clock;
  }

  -- what holds of the new client and of all others
  pub at_joined : (P : ℕ → WorldClient → Type 0) → P number newcomer → ((q : ℕ) (x : WorldClient) → member_of w q ≡ Some x → P q x) → (q : ℕ) (x : WorldClient) → member_of joined q ≡ Some x → P q x
  at_joined P own others q =
      at_each (λ n. (x : WorldClient) → member_of joined n ≡ Some x → P n x) number
      (λ x is. subst (λ y. P number y) (some_same newcomer x (sym (lookup_put number w.clients newcomer) ∙ is)) own)
      (λ n apart x is. others n x (sym (at_others n apart) ∙ is)) q

  fair_joined : (m : Option MasterState) → AreFair w m → AreFair joined m
  fair_joined None fair = tt
  fair_joined (Some s) fair = at_joined (λ q x. IsFairSince w.clock x) (fair_at_once w.clock newcomer refl refl) fair

  join_holds : Becomes joined
  join_holds =
      all_consistent w joined [] h join_later (none_fresh w joined refl)
      (at_joined (λ q x. IsMember w.rows.epoch q x) (record { own = refl; past = zero_least w.rows.epoch; unstarted = λ e. refl; live = λ e. cc; noted = least 0 }) h.clients)
      (fits_more w joined [] w.master (sym (append-nil w.messages)) h.fits) refl h.limits h.noted (fair_joined w.master h.fair)

-- ---- a client does a step

module _ (w : WorldState) (h : IsConsistent w) (number : ℕ) (member : WorldClient) (found : member_of w number ≡ Some member) (client : ClientState) (messages : List Message) where
  abbrev acted : WorldState
  acted = record w { clients = stepped w.clients number member client; messages = messages }

  own_later : member.client.calls ≤ client.calls → (member.client.leaving ≡ true → client.leaving ≡ true) → Later w acted
  own_later more keeps = record {
    clients = λ q x is. (at_each (λ n. (y : WorldClient) → member_of w n ≡ Some y → HasLater w acted n y) number
        (λ y at. subst (λ z. HasLater w acted number z) (some_same member y (sym found ∙ at)) (record {
          next = record member { client = client };
          there = own_member w.clients number member client found;
          calls = more;
          leaves = keeps;
          clock = least member.clock;
          lead = λ same. no_more member.least_now member.least_clock;
        }))
        (λ n apart y at. record {
          next = y;
          there = other_member w.clients number member client found n apart ∙ at;
          calls = least y.client.calls;
          leaves = λ was. was;
          clock = least y.clock;
          lead = λ same. no_more y.least_now y.least_clock;
        }) q) x is;
    epoch = least w.rows.epoch;
    clock = λ same. least w.clock;
  }

  fair_acted : (m : Option MasterState) → AreFair w m → AreFair acted m
  fair_acted None fair = tt
  fair_acted (Some s) fair =
      let own = fair number member found in
      at_members w.clients number member client found (λ q x. IsFairSince w.clock x) (record { fair = own.fair; least = own.least }) fair

  own_consistent : (more : List Message) → messages ≡ w.messages ++ more → Later w acted → AreFresh w acted more → IsMember w.rows.epoch number (record member { client = client }) → Becomes acted
  own_consistent more grown later fresh own =
      all_consistent w acted more h later fresh (at_members w.clients number member client found (λ q x. IsMember w.rows.epoch q x) own h.clients)
      (fits_more w acted more w.master grown h.fits) refl h.limits h.noted (fair_acted w.master h.fair)

-- the client's own member then
module _ (w : WorldState) (h : IsConsistent w) (number : ℕ) (member : WorldClient) (found : member_of w number ≡ Some member) (client : ClientState) where
  stepped_by : client.number ≡ member.client.number → client.clock ≡ max member.client.clock member.clock → OfEpoch w.messages member.client client → IsMember w.rows.epoch number (record member { client = client })
  stepped_by own notes (SameEpoch epoch unstarted live) =
      let t = h.clients number member found in
      let within = t.noted in
      let past = t.past in
      record {
        own = own ∙ t.own;
        past = omega (arith, epoch);
        unstarted = λ e. epoch ∙ t.unstarted (unstarted e);
        live = λ e. let some = t.live (live e) in omega (arith, epoch, some);
        noted = omega (arith, notes, within);
      }
  stepped_by own notes (GrantedEpoch at started sent epoch live) =
      let t = h.clients number member found in
      let within = t.noted in
      let past = h.started at started sent in
      record {
        own = own ∙ t.own;
        past = omega (arith, epoch, past);
        unstarted = λ e. let two : sessions.Live ≡ sessions.Unstarted = sym live ∙ e in cc;
        live = λ e. let some = started_some w h.reached at started sent in omega (arith, epoch, some);
        noted = omega (arith, notes, within);
      }
  stepped_by own notes (LearnedEpoch at present refused sent fault later epoch live) =
      let t = h.clients number member found in
      let within = t.noted in
      let past = h.told at present refused sent fault in
      record {
        own = own ∙ t.own;
        past = omega (arith, epoch, past);
        unstarted = λ e. let two : sessions.Live ≡ sessions.Unstarted = sym live ∙ e in cc;
        live = λ e. omega (arith, epoch, later);
        noted = omega (arith, notes, within);
      }

-- the number of the client's next call is new
pub unsent : (w : WorldState) → IsConsistent w → (number : ℕ) (member : WorldClient) → member_of w number ≡ Some member → (call : CallMessage) → IsNextCall member.client call → (o : Option CallMessage) → call_of w.messages call.client call.number ≡ o → o ≡ None
unsent w h number member found call m None is = refl
unsent w h number member found call m (Some other) is =
    let s = h.sent call.client call.number other is in
    let n : call.client ≡ number = m.client ∙ (h.clients number member found).own in
    let i : member_of w number ≡ Some s.member = subst (λ k. member_of w k ≡ Some s.member) n s.joined in
    let y : member ≡ s.member = some_same member s.member (sym found ∙ i) in
    let k : call.number ≤ member.client.calls = subst (λ (x : WorldClient). call.number ≤ x.client.calls) (sym y) s.within in
    let is_next = m.number in
    absurd (omega arith)

call_fresh : (w : WorldState) (h : IsConsistent w) (number : ℕ) (member : WorldClient) (found : member_of w number ≡ Some member) (client : ClientState) (call : CallMessage) → IsNextCall member.client call → client.calls ≡ member.client.calls + 1 → (is_leave call.call ≡ true → client.leaving ≡ true) → AreFresh w (record w { clients = stepped w.clients number member client; messages = w.messages ++ ToMaster (requests.Call call) ∷ [] }) (ToMaster (requests.Call call) ∷ [])
call_fresh w h number member found client call m calls departs =
    let new : WorldState = record w { clients = stepped w.clients number member client; messages = w.messages ++ ToMaster (requests.Call call) ∷ [] } in
    let t = h.clients number member found in
    let n : call.client ≡ number = m.client ∙ t.own in
    let is_next = m.number in
    let of_epoch = m.epoch in
    let past = t.past in
    let sent : HasSent new call.client call.number call = subst (λ k. HasSent new k call.number call) (sym n) (record {
      member = record member { client = client };
      joined = own_member w.clients number member client found;
      within = omega arith;
      past = omega arith;
      leaves = departs;
    }) in
    record {
      grown = refl;
      named = λ j other k.
          let e = one_request (requests.Call call) (requests.Call other) j k in
          let o : other ≡ call = cc in
          rw o (unsent w h number member found call m (call_of w.messages call.client call.number) refl, its_call call);
      sent = λ q k other is. let t = one_call call other q k is in rw (t.0, ← t.1, ← t.2) sent;
      started = λ j started k. absurd (one_no_out (requests.Call call) (outs.Started started) j k);
      told = λ j present refused k of. absurd (one_no_out (requests.Call call) (outs.Refused refused) j k);
    }

module _ (w : WorldState) (h : IsConsistent w) (number : ℕ) (member : WorldClient) (found : member_of w number ≡ Some member) (client : ClientState) (own : IsMember w.rows.epoch number (record member { client = client })) where
  sends_holds : (sent : Option Request) → Sends member.client client sent → (member.client.leaving ≡ true → client.leaving ≡ true) → ((call : CallMessage) → sent ≡ Some (requests.Call call) → is_leave call.call ≡ true → client.leaving ≡ true) → Becomes (record w { clients = stepped w.clients number member client; messages = w.messages ++ sending sent })
  sends_holds None (Nothing e calls) keeps departs =
      own_consistent w h number member found client (w.messages ++ []) [] refl (own_later w h number member found client (w.messages ++ []) (omega (arith, calls)) keeps)
      (none_fresh w (record w { clients = stepped w.clients number member client; messages = w.messages ++ [] }) (append-nil w.messages)) own
  sends_holds None (NoCall request e none calls) keeps departs = cc
  sends_holds None (NextCall call e m calls) keeps departs = cc
  sends_holds (Some request) (Nothing e calls) keeps departs = cc
  sends_holds (Some request) (NoCall sent e none calls) keeps departs =
      let is : sent ≡ request = sym (some_same request sent e) in
      own_consistent w h number member found client (w.messages ++ ToMaster request ∷ []) (ToMaster request ∷ []) refl (own_later w h number member found client (w.messages ++ ToMaster request ∷ []) (omega (arith, calls)) keeps)
      (beat_fresh w (record w { clients = stepped w.clients number member client; messages = w.messages ++ ToMaster request ∷ [] }) request (subst IsNoCall is none) refl) own
  sends_holds (Some request) (NextCall call e m calls) keeps departs =
      subst (λ r. Becomes (record w { clients = stepped w.clients number member client; messages = w.messages ++ ToMaster r ∷ [] })) (sym (some_same request (requests.Call call) e))
      (own_consistent w h number member found client (w.messages ++ ToMaster (requests.Call call) ∷ []) (ToMaster (requests.Call call) ∷ []) refl
      (own_later w h number member found client (w.messages ++ ToMaster (requests.Call call) ∷ []) (omega (arith, calls)) keeps) (call_fresh w h number member found client call m calls (departs call e)) own)

own_holds : (old new : WorldState) (printed : List Line) → IsConsistent old → IsOwn old new printed → Becomes new
own_holds old new printed h o =
    subst Becomes (sym (o.is ∙ ap (λ m. record old { clients = stepped old.clients o.number o.member o.client; messages = m }) o.grown))
    (sends_holds old h o.number o.member o.found o.client (stepped_by old h o.number o.member o.found o.client o.own o.notes o.epoch) o.sent o.sends o.keeps o.departs)

more_calls : (s new : ClientState) (sent : Option Request) → Sends s new sent → s.calls ≤ new.calls
more_calls s new sent (Nothing e calls) = omega (arith, calls)
more_calls s new sent (NoCall request e none calls) = omega (arith, calls)
more_calls s new sent (NextCall call e m calls) = omega (arith, calls)

pub own_goes : (old new : WorldState) (printed : List Line) → IsConsistent old → IsOwn old new printed → Later old new
own_goes old new printed h o = subst (Later old) (sym o.is) (own_later old h o.number o.member o.found o.client new.messages (more_calls o.member.client o.client o.sent o.sends) o.keeps)

-- ---- clocks move

module _ (w : WorldState) (h : IsConsistent w) (ticks : ClockSteps) where
  tick_later : Later w (ticked w ticks)
  tick_later = record {
    clients = λ q x is.
        let m = moves_so w.master w ticks q x in
        let same = m.client in
        let to = m.clock in
        record {
          next = moved w.master w ticks q x;
          there = each_found (moved w.master w ticks) w.clients q ∙ ap (λ o. option_map (moved w.master w ticks q) o) is;
          calls = subst (λ (c : ClientState). x.client.calls ≤ c.calls) (sym same) (least x.client.calls);
          leaves = λ was. ap (λ (c : ClientState). c.leaving) same ∙ was;
          clock = omega (arith, to);
          lead = λ epoch. m.least;
        };
    epoch = least w.rows.epoch;
    clock = λ same. omega arith;
  }

  tick_stepped : (q : ℕ) (x : WorldClient) → member_of w q ≡ Some x → IsMember w.rows.epoch q (moved w.master w ticks q x)
  tick_stepped q x is =
      let t = h.clients q x is in
      let m = moves_so w.master w ticks q x in
      let same = m.client in
      let to = m.clock in
      let within = t.noted in
      record {
        own = subst (λ (c : ClientState). c.number ≡ q) (sym same) t.own;
        past = subst (λ (c : ClientState). c.epoch ≤ w.rows.epoch) (sym same) t.past;
        unstarted = subst (λ (c : ClientState). c.session ≡ sessions.Unstarted → c.epoch ≡ 0) (sym same) t.unstarted;
        live = subst (λ (c : ClientState). c.session ≡ sessions.Live → 0 < c.epoch) (sym same) t.live;
        noted = subst (λ (c : ClientState). c.clock ≤ (moved w.master w ticks q x).clock) (sym same) (omega (arith, to, within));
      }

  noted_ticked : (m : Option MasterState) → IsNoted w.clock m → IsNoted (w.clock + ticks.master) m
  noted_ticked None noted = tt
  noted_ticked (Some s) noted = omega (arith, noted)

fair_ticked : (w : WorldState) (ticks : ClockSteps) (m : Option MasterState) → are_fair m w ticks ≡ true → AreFair (record w { clock = w.clock + ticks.master; clients = each_member (moved m w ticks) w.clients }) m
fair_ticked w ticks None fair = tt
fair_ticked w ticks (Some s) fair =
    at_each_member (moved (Some s) w ticks) w.clients (λ q x. IsFairSince (w.clock + ticks.master) x)
    (λ q x is. fair_beside (w.clock + ticks.master) (clock_then ticks q x) x (all_found (stays_fair w ticks) w.clients q x fair is))

tick_holds : (w : WorldState) → IsConsistent w → (ticks : ClockSteps) → are_fair w.master w ticks ≡ true → Becomes (ticked w ticks)
tick_holds w h ticks fair =
    all_consistent w (ticked w ticks) [] h (tick_later w h ticks) (none_fresh w (ticked w ticks) refl)
    (at_each_member (moved w.master w ticks) w.clients (λ q x. IsMember w.rows.epoch q x) (tick_stepped w h ticks))
    (fits_more w (ticked w ticks) [] w.master (sym (append-nil w.messages)) h.fits) refl h.limits (noted_ticked w h ticks w.master h.noted) (fair_ticked w ticks w.master fair)

-- ---- the master takes and sweeps

fits_at : (w : WorldState) (o : Option MasterState) (s : MasterState) → o ≡ Some s → Fits w o → FitsMessages w.messages s
fits_at w o s e k = rw e at k

pub agrees_at : (w : WorldState) (o : Option MasterState) (s : MasterState) → o ≡ Some s → Agrees w o → IsKept w.cell w.rows s
agrees_at w o s e k = rw e at k

pub fair_at : (w : WorldState) (o : Option MasterState) (s : MasterState) → o ≡ Some s → AreFair w o → (number : ℕ) (member : WorldClient) → member_of w number ≡ Some member → IsFairSince w.clock member
fair_at w o s e k = rw e at k

pub limits_at : (limits : Limits) (o : Option MasterState) (s : MasterState) → o ≡ Some s → IsLimited limits o → s.limits ≡ limits
limits_at limits o s e k = rw e at k

pub noted_at : (now : ℕ) (o : Option MasterState) (s : MasterState) → o ≡ Some s → IsNoted now o → s.clock ≤ now
noted_at now o s e k = rw e at k

pub noted_fits : (w : WorldState) → IsConsistent w → (s : MasterState) → w.master ≡ Some s → FitsMessages w.messages (noted s w.clock)
noted_fits w h s up = let f = fits_at w w.master s up h.fits in record { queue = f.queue; kept = f.kept; replies = f.replies; answers = f.answers; turns = f.turns }

repeated_tells : (epoch : ℕ) (reply : Option Reply) → AreTellingIn epoch (repeated_reply reply).outs
repeated_tells epoch None = tt
repeated_tells epoch (Some reply) = (tt, tt)

-- by the tests of a Beat
live_beat_tells : (epoch : ℕ) (old over above : Bool) (issued told : ℕ) (fault : Fault) → cond old (Some faults.Repeat) (cond over (Some (faults.BadAck issued)) (cond above (Some (faults.BadAck told)) None)) ≡ Some fault → IsFaultIn epoch fault
live_beat_tells epoch true over above issued told fault is = let e : faults.Repeat ≡ fault = cc in subst (IsFaultIn epoch) e tt
live_beat_tells epoch false true above issued told fault is = let e : faults.BadAck issued ≡ fault = cc in subst (IsFaultIn epoch) e tt
live_beat_tells epoch false false true issued told fault is = let e : faults.BadAck told ≡ fault = cc in subst (IsFaultIn epoch) e tt
live_beat_tells epoch false false false issued told fault is = cc

-- a Beat of the master's epoch isn't refused as one of an old epoch
beat_tells : {K : Type 0} (epoch : ℕ) (session : Option (Session K)) (beat : Beat) (fault : Fault) → beat_fault session beat ≡ Some fault → IsFaultIn epoch fault
beat_tells epoch None beat fault is = let e : faults.NoSession ≡ fault = cc in subst (IsFaultIn epoch) e tt
beat_tells epoch (Some session) beat fault is =
    elim session.live as (λ live. cond live (live_beat_fault session beat) (Some faults.NoSession) ≡ Some fault → IsFaultIn epoch fault) [
      | true ↦ live_beat_tells epoch (nat_le beat.number session.newest_beat) (nat_lt session.invalidations.issued beat.invalidations) (nat_lt (count_of (events_of session)) beat.events) session.invalidations.issued (count_of (events_of session)) fault
      | false ↦ (λ k. let e : faults.NoSession ≡ fault = cc in subst (IsFaultIn epoch) e tt)
    ] is

taken_tells : (s : MasterState) (request : Request) (c : TakeCase s request) → AreTellingIn s.epoch (taken_by s request c).1.outs
taken_tells s request (OldBeat beat is apart) = (least s.epoch, tt)
taken_tells s request (BeatRefused beat fault is same refused) = (beat_tells s.epoch (session_of s beat.client) beat fault refused, tt)
taken_tells s request (OldEpoch message is apart) = (least s.epoch, tt)
taken_tells s request (LeftBefore message kept request_is same_epoch ended is number) = repeated_tells s.epoch kept.reply
taken_tells s request (Repeated message kept heard is number) = repeated_tells s.epoch kept.reply
taken_tells s request (StartQueued start is may serving room) = tt
taken_tells s request (BeatParked beat is same taken) = tt
taken_tells s request (LeavesBeside message heard beside) = tt
taken_tells s request (Waits message _ touched new serving admitted) = tt
taken_tells s request _ = (tt, tt)

-- a reply tells of no epoch
replies_tell : (epoch : ℕ) (replies : List Reply) → AreTellingIn epoch (map outs.Reply replies)
replies_tell epoch [] = tt
replies_tell epoch (reply ∷ replies) = (tt, replies_tell epoch replies)

swept_tells : (s : MasterState) (c : SweepCase s) → AreTellingIn s.epoch (swept_by s c).1.outs
swept_tells s (Quiet none) = tt
swept_tells s (Recovers recovering heard) = tt
swept_tells s (Expires client session due) = replies_tell s.epoch (lapses_replies s (lapses_of partings.Expiry s client))
swept_tells s (Departed front back asked call sequencer session turn work leave found live) = (tt, replies_tell s.epoch (lapses_replies s (lapses_of partings.Leave s asked.client)))
swept_tells s (Reopens instance due) = replies_tell s.epoch (turn_replies s (reopened (lock_at s.locks instance)))
swept_tells s (Tidies idle due) = tt
swept_tells s (Spared front back idle turn held) = tt
swept_tells s (Tidied front back idle turn still) = replies_tell s.epoch (gone_replies s idle)
swept_tells s (StartedAgain front back asked principal received session turn work found live) = (least s.epoch, tt)
swept_tells s (StartedFirst front back asked principal received turn work none) = (least s.epoch, tt)
swept_tells s (OfEnded front back asked call sequencer turn work gone) = tt
swept_tells s (Deleted front back asked call sequencer change instance waiters answer turn work stays live made) = (tt, replies_tell s.epoch (replies_to s (results.Refused faults.StaleInstance) waiters))
swept_tells s (Awaited front back asked call sequencer put turn work stays live made) = tt
swept_tells s (Left front back asked call sequencer _ leave answer turn work stays live made) = (tt, replies_tell s.epoch (turn_replies s leave.turn))
swept_tells s _ = (tt, tt)

-- ---- the rows after a sweep

mod_epoch : (rows : Rows) (change : Mod) (next : ℕ) → (changed_rows rows (edit_of change ∷ NextInstance next ∷ [])).epoch ≡ rows.epoch
mod_epoch rows (Put name view) next = refl
mod_epoch rows (Gone name) next = refl

pub swept_epoch : (rows : Rows) (s : MasterState) (c : SweepCase s) → (changed_rows rows (swept_edits s c)).epoch ≡ rows.epoch
swept_epoch rows s (Expires client session due) =
    (let_go rows (lock_changes s (lapses_puts s (lapses_of partings.Expiry s client))) client (record { principal = session.principal; live = false })).beside.epoch
swept_epoch rows s (Departed front back asked call sequencer session turn work leave found live) =
    (let_go rows (lock_changes s (lapses_puts s (lapses_of partings.Leave s asked.client))) asked.client (record { principal = session.principal; live = false })).beside.epoch
swept_epoch rows s (Reopens instance due) = (relocked_rows rows (lock_changes s (puts_of s instance (reopened (lock_at s.locks instance)).lock))).beside.epoch
swept_epoch rows s (Applied front back asked call sequencer _ change answer turn work stays live made) = mod_epoch rows change.change change.next_instance
swept_epoch rows s (Deleted front back asked call sequencer change instance waiters answer turn work stays live made) = mod_epoch rows change.change change.next_instance
swept_epoch rows s (Tidied front back idle turn still) = mod_epoch rows (Gone idle.name) s.next_instance
swept_epoch rows s (Locked front back asked call sequencer put claim answer turn work stays live made) = (relocked_rows rows (lock_changes s (put ∷ []))).beside.epoch
swept_epoch rows s (Awaited front back asked call sequencer put turn work stays live made) = (relocked_rows rows (lock_changes s (put ∷ []))).beside.epoch
swept_epoch rows s (Left front back asked call sequencer _ leave answer turn work stays live made) = (relocked_rows rows (lock_changes s (left_put leave ∷ []))).beside.epoch
swept_epoch rows s (StartedFirst front back asked principal received turn work none) =
    elim (retiring s) as (λ gone. (changed_rows rows (PutSession asked.client (record { principal = principal; live = true }) ∷ retire_edits s.ended_below gone)).epoch ≡ rows.epoch) [ None ↦ refl | Some client ↦ refl ]
swept_epoch rows s _ = refl

-- ---- the moment that a master knows

note_clock : (s : MasterState) (note : Option HandleNote) → (with_note s note).clock ≡ s.clock
note_clock s None = refl
note_clock s (Some note) = refl

asking_clock : (s : MasterState) (names : List (List ℕ)) → (asking_for s names).clock ≡ s.clock
asking_clock s names = ap (λ (t : MasterState). t.clock) (asks_only names s)

pub taken_clock : (s : MasterState) (request : Request) (c : TakeCase s request) → (taken_by s request c).0.clock ≡ s.clock
taken_clock s request (Answered message note answer new serving answered) = note_clock s note
taken_clock s request (Granted message note answer name new serving may) = note_clock s note
taken_clock s request (Waits message note touched new serving admitted) =
    asking_clock (with_call (with_note s note) message touched) (names_of touched) ∙ note_clock s note
taken_clock s request _ = refl

pub swept_clock : (s : MasterState) (c : SweepCase s) → (swept_by s c).0.clock ≡ s.clock
swept_clock s (Tidies idle due) = asking_clock (queued s (with_parent idle.name) (tasks.Tidies idle)) (with_parent idle.name)
swept_clock s (Ended front back asked call sequencer None answer turn work stays live made) = refl
swept_clock s (Ended front back asked call sequencer (Some note) answer turn work stays live made) = refl
swept_clock s (Applied front back asked call sequencer None change answer turn work stays live made) = refl
swept_clock s (Applied front back asked call sequencer (Some note) change answer turn work stays live made) = refl
swept_clock s (Left front back asked call sequencer None leave answer turn work stays live made) = refl
swept_clock s (Left front back asked call sequencer (Some note) leave answer turn work stays live made) = refl
swept_clock s _ = refl

module _ (w : WorldState) (h : IsConsistent w) (s : MasterState) (up : w.master ≡ Some s) where
  -- the present moment is the last that it is told
  within : (noted s w.clock).clock ≤ w.clock
  within = let k = noted_at w.clock w.master s up h.noted in omega (arith, k)

  take_holds : (at : ℕ) (request : Request) (c : TakeCase (noted s w.clock) request) → request_at w.messages at ≡ Some request → Becomes (record w { master = Some (taken_by (noted s w.clock) request c).0; messages = w.messages ++ map ToClient (taken_by (noted s w.clock) request c).1.outs })
  take_holds at request c found =
      let sent : List Out = (taken_by (noted s w.clock) request c).1.outs in
      let new : WorldState = record w { master = Some (taken_by (noted s w.clock) request c).0; messages = w.messages ++ map ToClient sent } in
      let asked = λ (call : CallMessage) (e : request ≡ requests.Call call). h.named at call (found ∙ ap (λ r. Some r) e) in
      let fits = take_fits w.messages (noted s w.clock) request c (noted_fits w h s up) asked in
      let clock = taken_clock (noted s w.clock) request c in
      let telling : AreTellingIn w.rows.epoch sent = subst (λ n. AreTellingIn n sent) (agrees_at w w.master s up h.master).epoch (taken_tells (noted s w.clock) request c) in
      let early = within in
      let same = taken_same (noted s w.clock) request c in
      let limits : (taken_by (noted s w.clock) request c).0.limits ≡ w.terms.limits = same.0 ∙ limits_at w.terms.limits w.master s up h.limits in
      all_consistent w new (map ToClient sent) h (same_clients w new refl (least w.rows.epoch) refl) (outs_fresh w new sent refl telling) (same_members w new h refl (least w.rows.epoch))
      fits refl limits (omega (arith, clock, early)) (fair_at w w.master s up h.fair)

  sweep_holds : (c : SweepCase (noted s w.clock)) (action : Action) → Becomes (record w { rows = changed_rows w.rows (swept_edits (noted s w.clock) c); master = Some (swept_master (noted s w.clock) c action); messages = w.messages ++ map ToClient (swept_by (noted s w.clock) c).1.outs })
  sweep_holds c action =
      let sent : List Out = (swept_by (noted s w.clock) c).1.outs in
      let new : WorldState = record w { rows = changed_rows w.rows (swept_edits (noted s w.clock) c); master = Some (swept_master (noted s w.clock) c action); messages = w.messages ++ map ToClient sent } in
      let stays : new.rows.epoch ≡ w.rows.epoch = swept_epoch w.rows (noted s w.clock) c in
      let epoch : s.epoch ≡ new.rows.epoch = (agrees_at w w.master s up h.master).epoch ∙ sym stays in
      let telling : AreTellingIn new.rows.epoch sent = subst (λ n. AreTellingIn n sent) epoch (swept_tells (noted s w.clock) c) in
      let kept = clock_kept w.cell w.rows s (max s.clock w.clock) (agrees_at w w.master s up h.master) in
      let order = sessions_ordered w.cell w.rows (noted s w.clock) kept in
      let fits = tellings_fit w.messages (swept_by (noted s w.clock) c).0 (action_tellings (noted s w.clock) action) (sweep_fits w.messages (noted s w.clock) order c (noted_fits w h s up)) in
      let no_less : w.rows.epoch ≤ new.rows.epoch = omega (arith, stays) in
      let clock = swept_clock (noted s w.clock) c in
      let early = within in
      let swept = case_within w.cell w.rows (noted s w.clock) kept c in
      let limits : (swept_by (noted s w.clock) c).0.limits ≡ w.terms.limits = swept.limits ∙ limits_at w.terms.limits w.master s up h.limits in
      all_consistent w new (map ToClient sent) h (same_clients w new refl no_less refl) (outs_fresh w new sent refl telling) (same_members w new h refl no_less)
      (fits_stays w.messages (map ToClient sent) (swept_master (noted s w.clock) c action) fits) refl limits (omega (arith, clock, early)) (fair_at w w.master s up h.fair)

-- ---- the master goes down

down_later : (w : WorldState) → Later w (without_master w)
down_later w = same_clients w (without_master w) refl (least w.rows.epoch) refl

down_holds : (w : WorldState) → IsConsistent w → Becomes (without_master w)
down_holds w h =
    all_consistent w (without_master w) [] h (down_later w) (none_fresh w (without_master w) refl) (same_members w (without_master w) h refl (least w.rows.epoch)) tt refl tt tt tt

-- ---- a crash cuts a step after its commit

cut_later : (w : WorldState) (rows : Rows) → w.rows.epoch ≤ rows.epoch → Later w (record (without_master w) { rows = rows })
cut_later w rows more = same_clients w (record (without_master w) { rows = rows }) refl more refl

pub cut_holds : (w : WorldState) → IsConsistent w → (rows : Rows) → w.rows.epoch ≤ rows.epoch → Becomes (record (without_master w) { rows = rows })
cut_holds w h rows more =
    let new : WorldState = record (without_master w) { rows = rows } in
    all_consistent w new [] h (cut_later w rows more) (none_fresh w new refl) (same_members w new h refl more) tt refl tt tt tt

-- no master was up
pub rows_only : (w : WorldState) (rows : Rows) → w.master ≡ None → record w { rows = rows } ≡ record (without_master w) { rows = rows }
rows_only w rows none = ap (λ (m : Option MasterState). record w { rows = rows; master = m }) none

up_more : (old : WorldState) (step : Step) (mid : WorldState) (told : List Line) → IsUp old step mid told → old.rows.epoch ≤ mid.rows.epoch
up_more old step mid told u = subst (λ (w : WorldState). old.rows.epoch ≤ w.rows.epoch) (sym u.is) (omega arith)

sweep_more : (old : WorldState) (step : Step) (mid : WorldState) (told : List Line) → IsSweep old step mid told → old.rows.epoch ≤ mid.rows.epoch
sweep_more old step mid told t =
    let e = swept_epoch old.rows (noted t.master old.clock) t.case in
    subst (λ (w : WorldState). old.rows.epoch ≤ w.rows.epoch) (sym t.is) (omega (arith, e))

-- ---- a step

pub case_holds : (old : WorldState) (step : Step) (new : WorldState) (printed : List Line) → IsConsistent old → WorldCase old step new printed → Becomes new
case_holds old step new printed h (ComesUp u) = subst Becomes (sym u.is) (up_holds old h u.now)
case_holds old step new printed h (Joins j) = subst Becomes (sym j.is) (join_holds old h j.number j.principal j.free)
case_holds old step new printed h (Asks a) = own_holds old new printed h (asks_own old step new printed a)
case_holds old step new printed h (Beats b) = own_holds old new printed h (beats_own old step new printed b)
case_holds old step new printed h (Gives g) = own_holds old new printed h (gives_own old step new printed g)
case_holds old step new printed h (Ticks t) = subst Becomes (sym t.is) (tick_holds old h t.ticks t.fair)
case_holds old step new printed h (Takes t) = subst Becomes (sym t.is) (take_holds old h t.master t.is_up t.at t.request t.case t.was_sent)
case_holds old step new printed h (Sweeps t) = subst Becomes (sym t.is) (sweep_holds old h t.master t.is_up t.case t.action)
case_holds old step new printed h (GoesDown d) = subst Becomes (sym d.is) (down_holds old h)
case_holds old step new printed h (CutsSweep k) = subst Becomes (sym k.is) (cut_holds old h k.mid.rows (sweep_more old steps.Sweep k.mid k.told k.sweeps))
case_holds old step new printed h (CutsUp k) = subst Becomes (sym (k.is ∙ rows_only old k.mid.rows k.comes.none)) (cut_holds old h k.mid.rows (up_more old (steps.Up k.now) k.mid k.told k.comes))
case_holds old step new printed h (LosesUp k) = subst Becomes (sym k.is) (Becomes.OnceServed (λ agrees served. h))

pub case_later : (old : WorldState) (step : Step) (new : WorldState) (printed : List Line) → IsConsistent old → WorldCase old step new printed → Later old new
case_later old step new printed h (ComesUp u) = subst (Later old) (sym u.is) (up_later old h u.now)
case_later old step new printed h (Joins j) = subst (Later old) (sym j.is) (join_later old h j.number j.principal j.free)
case_later old step new printed h (Asks a) = own_goes old new printed h (asks_own old step new printed a)
case_later old step new printed h (Beats b) = own_goes old new printed h (beats_own old step new printed b)
case_later old step new printed h (Gives g) = own_goes old new printed h (gives_own old step new printed g)
case_later old step new printed h (Ticks t) = subst (Later old) (sym t.is) (tick_later old h t.ticks)
case_later old step new printed h (Takes t) = subst (Later old) (sym t.is) (same_clients old _ refl (least old.rows.epoch) refl)
case_later old step new printed h (Sweeps t) =
    let e = swept_epoch old.rows (noted t.master old.clock) t.case in
    let l : old.rows.epoch ≤ (changed_rows old.rows (swept_edits (noted t.master old.clock) t.case)).epoch = omega (arith, e) in
    subst (Later old) (sym t.is) (same_clients old _ refl l refl)
case_later old step new printed h (GoesDown d) = subst (Later old) (sym d.is) (down_later old)
case_later old step new printed h (CutsSweep k) = subst (Later old) (sym k.is) (cut_later old k.mid.rows (sweep_more old steps.Sweep k.mid k.told k.sweeps))
case_later old step new printed h (CutsUp k) = subst (Later old) (sym (k.is ∙ rows_only old k.mid.rows k.comes.none)) (cut_later old k.mid.rows (up_more old (steps.Up k.now) k.mid k.told k.comes))
case_later old step new printed h (LosesUp k) = subst (Later old) (sym k.is) (same_clients old old refl (least old.rows.epoch) refl)

-- the world after a step serves its clients
abbrev pub LeadsOn : Type 0
LeadsOn = (old : WorldState) (step : Step) (new : WorldState) (printed : List Line) → IsConsistent old → WorldCase old step new printed → IsServed new

pub step_keeps : LeadsOn → (old : WorldState) (step : Step) (new : WorldState) (printed : List Line) → IsConsistent old → Agrees new new.master → world_step old step ≡ Ok (new, printed) → IsConsistent new
step_keeps leads old step new printed h agrees made =
    let c = world_case old step new printed h.master made in
    once_served new (case_holds old step new printed h c) agrees (leads old step new printed h c)

pub step_holds : LeadsOn → (old new : WorldView) (step : Step) (r : Result (List Line) Fault) → (IsUndoubted old → IsConsistent old.world) → Agrees new.world new.world.master → IfOk r (λ printed. WasMade old step new printed) → IfErr r (λ e. WasRefused old step new (lines.Refused e ∷ [])) → IsUndoubted new → IsConsistent new.world
step_holds leads old new step (Ok printed) fits agrees made refused none =
    let rises = made_doubts old step new printed made in
    let sure : old.doubt ≡ 0 = omega arith in
    step_keeps leads old.world step new.world printed (fits sure) agrees (made_sure old step new printed made none).is_step
step_holds leads old new step (Err fault) fits agrees made refused none =
    let rises = refused_doubts old step new (lines.Refused fault ∷ []) refused in
    let sure : old.doubt ≡ 0 = omega arith in
    subst IsConsistent (sym (refused_sure old step new (lines.Refused fault ∷ []) refused none).left.same) (fits sure)

pub swept_holds : LeadsOn → (old new : WorldView) (r : Result SweepResult Fault) → (IsUndoubted old → IsConsistent old.world) → Agrees new.world new.world.master → IfOk r (λ turn. world_sweep old.world old.world.master ≡ Ok (new.world, turn)) → OnOk r (IsStored (step_frees old.world steps.Sweep) (step_edits old.world steps.Sweep) old new) → OnErr r (IsLeft (step_frees old.world steps.Sweep) (step_edits old.world steps.Sweep) old new) → IsUndoubted new → IsConsistent new.world
swept_holds leads old new (Ok turn) fits agrees made stored left none =
    let rises = stored.doubted in
    let sure : old.doubt ≡ 0 = omega arith in
    step_keeps leads old.world steps.Sweep new.world turn.lines (fits sure) agrees (step_sweeps old.world ∙ ap without_quiet made)
swept_holds leads old new (Err fault) fits agrees made stored left none =
    let rises = left.doubted in
    let sure : old.doubt ≡ 0 = omega arith in
    subst IsConsistent (sym left.same) (fits sure)

-- nothing was sent yet
pub new_holds : (cell : List ℕ) (rows : Rows) (terms : MasterTerms) → terms.lease ≤ longest_lease → IsConsistent (new_world cell rows terms)
new_holds cell rows terms range = record {
  clients = λ number member is. cc;
  holds = λ number member is. cc;
  named = λ at call is. none_sent at (requests.Call call) is;
  sent = λ client number call is. cc;
  started = λ at started is. none_out at (outs.Started started) is;
  told = λ at present refused is of. none_out at (outs.Refused refused) is;
  answers = λ at reply is. none_out at (outs.Reply reply) is;
  master = tt;
  fits = tt;
  lease = range;
  limits = tt;
  noted = tt;
  fair = tt;
  reached = λ client name. reached_at_start (view_at (map_of rows) name) (standing_in rows client) rows.epoch;
  tells = record { sent = λ at alive is. none_out at (outs.Alive alive) is; queued = tt };
}
