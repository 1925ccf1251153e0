-- What holds of replies and of events, of those that a master keeps and of those that were sent, holds of what a step prints of them.
use Rattle.std.proofs.Common.{◌≡◌, ℕ, Bool, true, false, cond, List, [], ◌∷◌, ◌++◌, map, Option, Some, None, Result, Ok, Err, refl, sym, subst, ap, ◌∙◌}
use Rattle.std.specs.Prelude.{◌&&◌, not, nat_lt, filter}
use Rattle.std.specs.Option.{option_to_list}
use Rattle.std.specs.List.{AllByRecursion}
use Rattle.lease_core.specs.Lease.{is_unexpired}
use Rattle.node_core.specs.declared.events.Event.{Event}
use Rattle.node_core.specs.declared.refusals.Fault.{Fault}
use Rattle.node_core.specs.declared.refusals.Fault.TheVariants as faults
use Rattle.node_core.specs.declared.answers.Answer.TheVariants as answers
use Rattle.node_core.specs.declared.lines.Line.{Line}
use Rattle.node_core.specs.declared.lines.Line.TheVariants as lines
use Rattle.cache_core.specs.Standings.{turn_line}
use Rattle.cache_core.specs.declared.standings.SessionTrust.{SessionTrust}
use Rattle.cache_core.specs.declared.standings.SessionTrust.TheVariants as standings
use Rattle.tags_cell.specs.declared.messages.outs.CallResult.{CallResult}
use Rattle.tags_cell.specs.declared.messages.outs.CallResult.TheVariants as results
use Rattle.tags_cell.specs.declared.messages.outs.Out.{Out}
use Rattle.tags_cell.specs.declared.messages.outs.Out.TheVariants as outs
use Rattle.tags_cell.specs.declared.messages.outs.Reply.{Reply}
use Rattle.tags_cell.specs.declared.messages.beats.Alive.{Alive}
use Rattle.tags_cell.specs.declared.messages.beats.NumberedEvent.{NumberedEvent}
use Rattle.tags_cell.specs.Messages.{request_number, out_client}
use Rattle.rights_core.specs.declared.grants.Grant.{Grant}
use Rattle.rights_core.specs.declared.grants.Grant.TheVariants as grants
use Rattle.rights_core.specs.Rights.{grant_answer, numbers_ending}
use Rattle.tags_cell.specs.declared.messages.requests.Request.{Request}
use Rattle.lock_core.specs.declared.claims.Claim.{Claim}
use Rattle.lock_core.specs.declared.turns.Lapse.{Lapse}
use Rattle.lock_core.specs.Turns.{is_nobody, reopened}
use Rattle.lock_core.specs.Locks.{lock_at}
use Rattle.master_state.specs.State.{MasterState}
use Rattle.master_state.specs.Lookups.{acknowledgement, granted_lines, repeated_reply, noted}
use Rattle.master_state.specs.Updates.{with_note}
use Rattle.cell_core.specs.Cases.{TakeCase, taken_by}
use Rattle.cell_core.specs.Cases.TakeCase.{StartRefused, OldBeat, BeatRefused, BeatParked, OldEpoch, NoSession, LeftBefore, Repeated, OlderCall, Outstanding as StillOutstanding, Granted}
use Rattle.cell_core.specs.declared.effects.Leave.{Leave}
use Rattle.master_state.specs.Replies.{locked_line, locked_lines, line_if}
use Rattle.cell_core.specs.Outcomes.{leave_lines}
use Rattle.master_state.specs.Lapses.{lapse_lines, lapses_lines, lapses_of, parting_lines}
use Rattle.over_core.specs.SweepCase.{SweepCase, swept_by}
use Rattle.over_core.specs.SweepCase.SweepCase.{Recovers, Expires, Reopens, Tidied, Started as StartedFirst, Applied, Deleted, Locked, Left, Departed as Leaves}
use Rattle.client_core.specs.declared.parts.asks.Ask.{Ask}
use Rattle.client_core.specs.declared.parts.sessions.ClientStanding.{ClientStanding}
use Rattle.client_core.specs.declared.parts.sessions.ClientStanding.TheVariants as sessions
use Rattle.client_core.specs.declared.parts.targets.Outstanding.{Outstanding}
use Rattle.client_core.specs.declared.parts.targets.Target.{Target}
use Rattle.client_core.specs.declared.parts.targets.Target.TheVariants as targets
use Rattle.client_core.specs.Targets.{is_on, unknown_line, unknown_lines}
use Rattle.client_core.specs.Events.{event_lines}
use Rattle.client_core.specs.State.{ClientState, standing_then, note_live, note_lines_in, note_lines}
use Rattle.client_core.specs.Poisons.{refused_lines}
use Rattle.client_core.specs.Gives.{with_processed, takes_offer, is_jeopardy, safe_lines, answer_of}
use Rattle.client_core.specs.Cases.{noted_moment, AskCase, asked_in, BeatCase, beaten_in, GiveCase, given_in}
use Rattle.client_core.specs.Cases.AskCase.{AskedTooLate, Unsafe, Refused, ReadServed, AbsenceServed, Shared, OutOfHandles, Released, OutOfCalls, Sent, Poisoned}
use Rattle.client_core.specs.Cases.BeatCase.{BeatTooLate, OutOfBeats, Starts, Beats as BeatSent, Quiet}
use Rattle.client_core.specs.Cases.GiveCase.{GivenTooLate, OfAnother, Started, StartedUnfit, StartedDropped, LeaseTaken, LeaseStays, AliveUnfit, AliveDropped, OutOfNumbers, Replied, Installed, Departed, ReplyDropped, NotAwaited, Learns, Lost, TurnedAway, RefusalDropped}
use Rattle.world_steps.specs.declared.steps.Step.{Step}
use Rattle.world_steps.specs.declared.members.WorldClient.{WorldClient}
use Rattle.world_steps.specs.World.{WorldState, is_of_commit, with_refusal, asked, beaten, gave}
use Rattle.world_cell.proofs.Carried.{OfOut}
use Rattle.world_cell.proofs.CutLines.{cut_lines}
use Rattle.world_cell.proofs.OwnSteps.{Comes, it_comes}
use Rattle.world_cell.proofs.TellsOn.{IsCarried}
use Rattle.world_cell.proofs.WorldCases.{WorldCase}
use Rattle.world_cell.proofs.WorldCases.WorldCase.{ComesUp, Joins, Asks, Beats, Gives, Ticks, Takes, Sweeps, GoesDown, CutsSweep, CutsUp, LosesUp}
use Rattle.lock_core.specs.declared.partings.Parting.{Parting}
use Rattle.lock_core.specs.declared.partings.Parting.TheVariants as partings
use Rattle.master_state.specs.Partings.{right_line, lock_line, ending_by}

module _ (R : Reply → Type 0) (E : Event → Type 0) where
  -- a call is told as it was replied, and an event as it was sent
  abbrev pub OfLine : Line → Type 0
  OfLine (lines.Told client event) = E event
  OfLine (lines.Done client number (answers.Viewed view)) = (reply : Reply) × R reply × (reply.client ≡ client) × (reply.number ≡ number) × (reply.result ≡ results.Viewed view)
  OfLine (lines.Done client number (answers.Stated stat)) = (reply : Reply) × R reply × (reply.client ≡ client) × (reply.number ≡ number) × (reply.result ≡ results.Stated stat)
  OfLine _ = Unit {0}

  abbrev pub OfLines : List Line → Type 0
  OfLines [] = Unit {0}
  OfLines (line ∷ rest) = OfLine line × OfLines rest

  pub both_lines : (xs ys : List Line) → OfLines xs → OfLines ys → OfLines (xs ++ ys)
  both_lines [] ys h k = k
  both_lines (x ∷ xs) ys h k = (h.0, both_lines xs ys h.1 k)

  each_line : (line : ℕ → Line) → ((number : ℕ) → OfLine (line number)) → (numbers : List ℕ) → OfLines (map line numbers)
  each_line line holds [] = tt
  each_line line holds (number ∷ numbers) = (holds number, each_line line holds numbers)

  if_line : (b : Bool) (line : Line) → OfLine line → OfLines (cond b (line ∷ []) [])
  if_line true line h = (h, tt)
  if_line false line h = tt

  -- ---- a client's lines

  turn_lines : (number : ℕ) (former now : SessionTrust) → OfLines (option_to_list (turn_line number former now))
  turn_lines number standings.Safe standings.Safe = tt
  turn_lines number standings.Safe (standings.Jeopardy since) = (tt, tt)
  turn_lines number standings.Safe standings.Lost = (tt, tt)
  turn_lines number (standings.Jeopardy since) standings.Safe = (tt, tt)
  turn_lines number (standings.Jeopardy since) (standings.Jeopardy later) = tt
  turn_lines number (standings.Jeopardy since) standings.Lost = (tt, tt)
  turn_lines number standings.Lost now = tt

  noted_lines : (s : ClientState) (session : ClientStanding) (moment : ℕ) → OfLines (note_lines_in session s moment)
  noted_lines s sessions.Unstarted moment = tt
  noted_lines s sessions.Live moment = turn_lines s.number s.standing (standing_then s moment)
  noted_lines s sessions.Lost moment = tt
  noted_lines s sessions.TurnedAway moment = tt

  told_lines : (s : ClientState) (moment : ℕ) (more : List Line) → OfLines more → OfLines (note_lines s moment ++ more)
  told_lines s moment more h = both_lines (note_lines s moment) more (noted_lines s s.session moment) h

  refusal_lines : (told : List Line) (fault : Fault) → OfLines told → OfLines (with_refusal told fault)
  refusal_lines told fault h = both_lines told (lines.Refused fault ∷ []) h (tt, tt)

  taken_offer_lines : (s : ClientState) (moment : ℕ) (message : Alive) → OfLines (safe_lines s moment message)
  taken_offer_lines s moment message = if_line (takes_offer s message && (is_unexpired s.sent message.span moment && is_jeopardy s.standing)) (lines.Safe s.number) tt

  told_if : (b : Bool) (client : ℕ) (event : Event) (more : List Line) → E event → OfLines more → OfLines (cond b (lines.Told client event ∷ more) more)
  told_if true client event more e h = (e, h)
  told_if false client event more e h = h

  all_told : (client processed : ℕ) (events : List NumberedEvent) → AllByRecursion (λ (next : NumberedEvent). E next.event) events → OfLines (event_lines client processed events)
  all_told client processed [] h = tt
  all_told client processed (next ∷ others) h = told_if (nat_lt processed next.number) client next.event (event_lines client processed others) h.0 (all_told client processed others h.1)

  target_lines : (client : ℕ) (call : Outstanding) (target : Target) → OfLines (unknown_line client call target)
  target_lines client call targets.Dropped = tt
  target_lines client call _ = (tt, tt)

  unknown_hold : (client : ℕ) (o : Option Outstanding) → OfLines (unknown_lines client o)
  unknown_hold client None = tt
  unknown_hold client (Some call) = target_lines client call call.target

  poisons_hold : (s : ClientState) (number : ℕ) (o : Option Outstanding) → OfLines (refused_lines s number o)
  poisons_hold s number None = tt
  poisons_hold s number (Some call) = if_line (is_on number call.target) (lines.Done s.number (request_number call.request) (answers.Refused faults.Poisoned)) tt

  -- a reply as it is told
  done_holds : (s : ClientState) (message : Reply) (result : CallResult) → message.result ≡ result → message.client ≡ s.number → R message → OfLine (lines.Done s.number message.number (answer_of s result))
  done_holds s message (results.Opened handle) is own h = tt
  done_holds s message results.Closed is own h = tt
  done_holds s message (results.Viewed view) is own h = (message, h, own, refl, is)
  done_holds s message (results.Stated stat) is own h = (message, h, own, refl, is)
  done_holds s message (results.Listed view) is own h = tt
  done_holds s message (results.Sequencer bytes) is own h = tt
  done_holds s message results.Done is own h = tt
  done_holds s message (results.Refused fault) is own h = tt

  abbrev IsTold : WorldState → List Line → Type 0
  IsTold new printed = OfLines printed

  module _ (w : WorldState) (number : ℕ) (member : WorldClient) where
    abbrev s : ClientState
    s = member.client

    abbrev then : ℕ
    then = noted_moment s member.clock

    ask_tells : (ask : Ask) (c : AskCase s member.clock ask) → Comes IsTold (asked w number member (asked_in s member.clock ask c))
    ask_tells ask (AskedTooLate late) = tt
    ask_tells ask (Unsafe fault early is) = refusal_lines (note_lines s then) fault (noted_lines s s.session then)
    ask_tells ask (Refused fault safe is) = (tt, tt)
    ask_tells ask (ReadServed handle mine call entry given safe is readable) = (tt, tt)
    ask_tells ask (AbsenceServed opening safe stays is plain cached) = (tt, tt)
    ask_tells ask (Shared opening view handle safe is shared room) = (tt, (tt, tt))
    ask_tells ask (OutOfHandles opening view handle safe is shared last) = tt
    ask_tells ask (Released handle mine safe is there shared) = (tt, tt)
    ask_tells ask (OutOfCalls call sequencer target sendable last) = tt
    ask_tells ask (Sent call sequencer target sendable room) = tt
    ask_tells ask (Poisoned handle mine safe is usable) = both_lines (refused_lines s handle s.outstanding) (lines.Done s.number 0 answers.Poisoned ∷ []) (poisons_hold s handle s.outstanding) (tt, tt)

    beat_tells : (c : BeatCase s member.clock) → Comes IsTold (beaten w number member (beaten_in s member.clock c))
    beat_tells (BeatTooLate late) = tt
    beat_tells (OutOfBeats early last) = tt
    beat_tells (Starts early unstarted room) = tt
    beat_tells (BeatSent early live safe room) = noted_lines s s.session then
    beat_tells (Quiet early started live) = noted_lines s s.session then

    nothing_told : OfLines (note_lines s then ++ [])
    nothing_told = told_lines s then [] tt

    own_reply : (out : Out) (message : Reply) → out ≡ outs.Reply message → out_client out ≡ s.number → message.client ≡ s.number
    own_reply out message is own = sym (ap out_client is) ∙ own

    replied_tells : (out : Out) (message : Reply) → OfOut R E out → out ≡ outs.Reply message → out_client out ≡ s.number → OfLines (note_lines s then ++ lines.Done s.number message.number (answer_of s message.result) ∷ [])
    replied_tells out message h is own =
        told_lines s then (lines.Done s.number message.number (answer_of s message.result) ∷ []) (done_holds s message message.result refl (own_reply out message is own) (subst (OfOut R E) is h), tt)

    give_tells : (out : Out) (c : GiveCase s member.clock out) → OfOut R E out → Comes IsTold (gave w number member (given_in s member.clock out c))
    give_tells out (GivenTooLate late) h = tt
    give_tells out (OfAnother early other) h = nothing_told
    give_tells out (Started message heard is standing fits) h = nothing_told
    give_tells out (StartedUnfit message heard is standing long) h = refusal_lines (note_lines s then ++ []) faults.ProtocolFault nothing_told
    give_tells out (StartedDropped message heard is old) h = nothing_told
    give_tells out (LeaseTaken message heard is fit taken) h =
        let behind = with_processed (note_live s then) message in
        let events = event_lines s.number s.heard message.events in
        told_lines s then (events ++ safe_lines behind then message)
        (both_lines events (safe_lines behind then message) (all_told s.number s.heard message.events (subst (OfOut R E) is h)) (taken_offer_lines behind then message))
    give_tells out (LeaseStays message heard is fit worse) h = told_lines s then (event_lines s.number s.heard message.events) (all_told s.number s.heard message.events (subst (OfOut R E) is h))
    give_tells out (AliveUnfit message heard is alive unfit) h = refusal_lines (note_lines s then ++ []) faults.ProtocolFault nothing_told
    give_tells out (AliveDropped message heard is strange) h = nothing_told
    give_tells out (OutOfNumbers message call heard is for last) h = tt
    give_tells out (Replied message call heard is for room kept plain) h = replied_tells out message h is heard.own
    give_tells out (Installed message call taught_it stamp heard is for learned) h = replied_tells out message h is heard.own
    give_tells out (Departed message call heard is for leaving done) h = told_lines s then (lines.Done s.number message.number answers.Okay ∷ []) (tt, tt)
    give_tells out (ReplyDropped message call heard is for dropped) h = nothing_told
    give_tells out (NotAwaited message heard is none) h = nothing_told
    give_tells out (Learns message present heard is later) h = told_lines s then (unknown_lines s.number s.outstanding) (unknown_hold s.number s.outstanding)
    give_tells out (Lost message heard is loss) h = told_lines s then (lines.Lost s.number ∷ []) (tt, tt)
    give_tells out (TurnedAway message heard is fault unstarted) h = told_lines s then (lines.Lost s.number ∷ []) (tt, tt)
    give_tells out (RefusalDropped message heard is earlier stays_so) h = nothing_told

  -- ---- a master's lines

  got_lines : (instance generation : ℕ) (claims : List Claim) → OfLines (map (locked_line instance generation) claims)
  got_lines instance generation [] = tt
  got_lines instance generation (claim ∷ claims) = (tt, got_lines instance generation claims)

  left_lines : (client : ℕ) (leave : Leave) → OfLines (leave_lines client leave)
  left_lines client leave =
      both_lines (line_if leave.held (lines.Freed client leave.instance)) (locked_lines leave.instance leave.turn) (if_line leave.held (lines.Freed client leave.instance) tt) (got_lines leave.instance leave.turn.lock.generation leave.turn.granted)

  own_line : (parting : Parting) (client instance : ℕ) → OfLine (lock_line parting client instance)
  own_line partings.Expiry client instance = tt
  own_line partings.Leave client instance = tt

  own_right : (parting : Parting) (number : ℕ) → OfLine (right_line parting number)
  own_right partings.Expiry number = tt
  own_right partings.Leave number = tt

  lapse_hold : (parting : Parting) (client : ℕ) (lapse : Lapse) → OfLines (lapse_lines parting client lapse)
  lapse_hold parting client lapse =
      let ends = line_if (not (is_nobody lapse.ended)) (lock_line parting client lapse.instance) in
      let opens = line_if lapse.reopens (lines.Reopened lapse.instance) in
      both_lines (ends ++ opens) (locked_lines lapse.instance lapse.turn)
      (both_lines ends opens (if_line (not (is_nobody lapse.ended)) (lock_line parting client lapse.instance) (own_line parting client lapse.instance)) (if_line lapse.reopens (lines.Reopened lapse.instance) tt))
      (got_lines lapse.instance lapse.turn.lock.generation lapse.turn.granted)

  lapses_hold : (parting : Parting) (client : ℕ) (lapses : List Lapse) → OfLines (lapses_lines parting client lapses)
  lapses_hold parting client [] = tt
  lapses_hold parting client (lapse ∷ lapses) = both_lines (lapse_lines parting client lapse) (lapses_lines parting client lapses) (lapse_hold parting client lapse) (lapses_hold parting client lapses)

  ended_tells : (parting : Parting) (s : MasterState) (client : ℕ) → OfLines (parting_lines parting s client (lapses_of parting s client))
  ended_tells parting s client =
      let ends = map (right_line parting) (numbers_ending client (ending_by parting) s.rights) in
      both_lines (ends ++ lapses_lines parting client (lapses_of parting s client)) (lines.Ended client ∷ [])
      (both_lines ends (lapses_lines parting client (lapses_of parting s client)) (each_line (right_line parting) (own_right parting) (numbers_ending client (ending_by parting) s.rights)) (lapses_hold parting client (lapses_of parting s client))) (tt, tt)

  repeated_lines : (o : Option Reply) → OfLines (repeated_reply o).lines
  repeated_lines None = tt
  repeated_lines (Some reply) = tt

  granted_hold : (client : ℕ) (name : List ℕ) (r : Result Grant Fault) → OfLines (granted_lines client name r)
  granted_hold client name (Ok (grants.Granted number)) = (tt, tt)
  granted_hold client name (Ok (grants.Already number)) = tt
  granted_hold client name (Ok grants.Full) = tt
  granted_hold client name (Err fault) = tt

  taken_tells : (s : MasterState) (request : Request) (c : TakeCase s request) → OfLines (taken_by s request c).1.lines
  taken_tells s request (StartRefused start is may) = (tt, tt)
  taken_tells s request (OldBeat beat is apart) = (tt, tt)
  taken_tells s request (BeatRefused beat fault is of refused) = (tt, tt)
  taken_tells s request (BeatParked beat is of taken) = each_line lines.Acked (λ number. tt) (numbers_ending beat.client (acknowledgement beat) s.rights)
  taken_tells s request (OldEpoch message is apart) = (tt, tt)
  taken_tells s request (NoSession message is of dead) = (tt, tt)
  taken_tells s request (LeftBefore message kept request_is same_epoch ended is number) = repeated_lines kept.reply
  taken_tells s request (Repeated message kept heard is number) = repeated_lines kept.reply
  taken_tells s request (OlderCall message kept heard is less) = (tt, tt)
  taken_tells s request (StillOutstanding message kept heard is more none) = (tt, tt)
  taken_tells s request (Granted message note answer name new serving may) = granted_hold message.client name (grant_answer message.client name (with_note s note).rights)
  taken_tells s request _ = tt

  swept_tells : (s : MasterState) (c : SweepCase s) → OfLines (swept_by s c).1.lines
  swept_tells s (Recovers recovering heard) = (tt, tt)
  swept_tells s (Expires client session due) = ended_tells partings.Expiry s client
  swept_tells s (Leaves front back asked call sequencer session turn work leave found live) = ended_tells partings.Leave s asked.client
  swept_tells s (Reopens instance due) = (tt, got_lines instance (reopened (lock_at s.locks instance)).lock.generation (reopened (lock_at s.locks instance)).granted)
  swept_tells s (StartedFirst front back asked principal received turn work none) = (tt, tt)
  swept_tells s (Applied front back asked call sequencer _ change answer turn work stays live made) = (tt, tt)
  swept_tells s (Deleted front back asked call sequencer change instance waiters answer turn work stays live made) = (tt, tt)
  swept_tells s (Tidied front back idle turn still) = (tt, tt)
  swept_tells s (Locked front back asked call sequencer put claim answer turn work stays live made) = (tt, tt)
  swept_tells s (Left front back asked call sequencer _ leave answer turn work stays live made) = left_lines asked.client leave
  swept_tells s _ = tt

  -- ---- a step

  cut_tells : (told : List Line) → OfLines told → OfLines (cut_lines told)
  cut_tells [] h = (tt, tt)
  cut_tells (line ∷ told) h =
      elim (is_of_commit line) as (λ b. OfLines (cond b (line ∷ filter is_of_commit told) (filter is_of_commit told) ++ lines.Down ∷ [])) [
        | true ↦ (h.0, cut_tells told h.1)
        | false ↦ cut_tells told h.1
      ]

  pub case_tells : (old : WorldState) (step : Step) (new : WorldState) (printed : List Line) → IsCarried R E old → WorldCase old step new printed → OfLines printed
  case_tells old step new printed h (ComesUp u) = subst OfLines (sym u.tells) (tt, tt)
  case_tells old step new printed h (Joins j) = subst OfLines (sym j.tells) tt
  case_tells old step new printed h (Asks a) = it_comes IsTold (asked old a.number a.member (asked_in a.member.client a.member.clock a.ask a.case)) new printed a.is (ask_tells old a.number a.member a.ask a.case)
  case_tells old step new printed h (Beats b) = it_comes IsTold (beaten old b.number b.member (beaten_in b.member.client b.member.clock b.case)) new printed b.is (beat_tells old b.number b.member b.case)
  case_tells old step new printed h (Gives g) =
      it_comes IsTold (gave old (out_client g.out) g.member (given_in g.member.client g.member.clock g.out g.case)) new printed g.is (give_tells old (out_client g.out) g.member g.out g.case (h.sent g.at g.out g.was_sent))
  case_tells old step new printed h (Ticks t) = subst OfLines (sym t.tells) tt
  case_tells old step new printed h (Takes t) = subst OfLines (sym t.tells) (taken_tells (noted t.master old.clock) t.request t.case)
  case_tells old step new printed h (Sweeps t) = subst OfLines (sym t.tells) (swept_tells (noted t.master old.clock) t.case)
  case_tells old step new printed h (GoesDown d) = subst OfLines (sym d.tells) (tt, tt)
  case_tells old step new printed h (CutsSweep k) =
      let t = k.sweeps in
      subst OfLines (sym k.tells) (cut_tells k.told (subst OfLines (sym t.tells) (swept_tells (noted t.master old.clock) t.case)))
  case_tells old step new printed h (CutsUp k) = subst OfLines (sym (k.tells ∙ ap (λ told. told ++ lines.Down ∷ []) k.comes.tells)) (tt, (tt, tt))
  case_tells old step new printed h (LosesUp k) = subst OfLines (sym k.tells) (tt, tt)
