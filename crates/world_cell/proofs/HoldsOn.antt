-- Of a consistent world, after each step, each client holds what it should.
use Rattle.std.proofs.Common.{◌≡◌, ℕ, ◌+◌, true, List, [], ◌∷◌, ◌++◌, Some, None, refl, sym, ap, ◌∙◌, subst}
use Rattle.node_core.specs.declared.lines.Line.{Line}
use Rattle.tags_cell.specs.declared.messages.calls.Call.TheVariants as calls
use Rattle.tags_cell.specs.declared.messages.requests.Request.{Request}
use Rattle.tags_cell.specs.declared.messages.outs.Out.{Out}
use Rattle.tags_cell.specs.declared.messages.outs.Out.TheVariants as outs
use Rattle.tags_cell.specs.declared.messages.outs.Reply.{Reply}
use Rattle.tags_cell.specs.Messages.{out_client}
use Rattle.client_core.specs.declared.parts.asks.Ask.{Ask}
use Rattle.client_core.specs.declared.parts.targets.Outstanding.{Outstanding}
use Rattle.client_core.specs.Opens.{kept_handle}
use Rattle.client_core.specs.State.{ClientState, note}
use Rattle.client_core.specs.Asks.{message_of}
use Rattle.client_core.specs.Cases.{noted_moment, IsAwaited, AskCase, asked_in, BeatCase, beaten_in, GiveCase, given_in}
use Rattle.client_core.specs.Cases.AskCase.{AskedTooLate, Unsafe, Refused, ReadServed, AbsenceServed, Shared, OutOfHandles, Released, OutOfCalls, Sent, Poisoned}
use Rattle.client_core.specs.Cases.BeatCase.{BeatTooLate, OutOfBeats, Starts, Beats as BeatSent, Quiet}
use Rattle.client_core.specs.Cases.GiveCase.{GivenTooLate, OfAnother, Started, StartedUnfit, StartedDropped, LeaseTaken, LeaseStays, AliveUnfit, AliveDropped, OutOfNumbers, Replied, Installed, Departed, ReplyDropped, NotAwaited, Learns, Lost, TurnedAway, RefusalDropped}
use Rattle.world_steps.specs.declared.steps.Step.{Step}
use Rattle.world_steps.specs.declared.mail.Message.{Message}
use Rattle.world_steps.specs.declared.mail.Message.TheVariants.{ToMaster}
use Rattle.world_steps.specs.declared.members.WorldClient.{WorldClient}
use Rattle.world_steps.specs.Members.{at_up}
use Rattle.world_steps.specs.Messages.{out_at, call_of}
use Rattle.world_steps.specs.World.{WorldState, member_of, with_client, sends, asked, beaten, gave, moved}
use Rattle.world_cell.specs.Consistent.{Holds, IsConsistent}
use Rattle.world_cell.proofs.MembersFound.{at_members, at_each_member, moves_so}
use Rattle.world_cell.proofs.ConsistentSteps.{unsent, at_joined}
use Rattle.world_cell.proofs.OwnSteps.{Comes, it_comes}
use Rattle.world_cell.proofs.ClientHolds.{Grips, grips, note_grips, grips_stay, grips_end, grips_shared, grips_released, grips_poisoned, grips_sent, grips_replied, serves_name, IsReplied, is_replied, asked_rest, beaten_rest, given_rest, holds_more, new_holds}
use Rattle.world_cell.proofs.WorldCases.{WorldCase}
use Rattle.world_cell.proofs.WorldCases.WorldCase.{ComesUp, Joins, Asks, Beats, Gives, Ticks, Takes, Sweeps, GoesDown, CutsSweep, CutsUp, LosesUp}

abbrev pub AllHold : WorldState → Type 0
AllHold w = (number : ℕ) (member : WorldClient) → member_of w number ≡ Some member → Holds w.messages member.client

-- ---- a client does a step

module _ (w : WorldState) (h : IsConsistent w) (number : ℕ) (member : WorldClient) (found : member_of w number ≡ Some member) where
  abbrev s : ClientState
  s = member.client

  -- the moment that is noted
  abbrev then : ℕ
  then = noted_moment s member.clock

  own : Holds w.messages s
  own = h.holds number member found

  stays : (client : ClientState) → Holds w.messages client → AllHold (with_client w number member client)
  stays client holds = at_members w.clients number member client found (λ q x. Holds w.messages x.client) holds h.holds

  sends_on : (client : ClientState) (request : Request) → Holds (w.messages ++ ToMaster request ∷ []) client → AllHold (sends (with_client w number member client) request)
  sends_on client request holds =
      at_members w.clients number member client found (λ q x. Holds (w.messages ++ ToMaster request ∷ []) x.client) holds
      (λ q x is. holds_more w.messages (ToMaster request ∷ []) x.client (h.holds q x is))

  ask_stays : (ask : Ask) (c : AskCase s member.clock ask) → Grips w.messages (asked_in s member.clock ask c).0 → AllHold (with_client w number member (asked_in s member.clock ask c).0)
  ask_stays ask c g = stays (asked_in s member.clock ask c).0 (asked_rest w.messages w.messages s member.clock own ask c g)

  held : Grips w.messages s
  held = grips w.messages s own

  -- the number of its next call is new
  next_is_new : call_of w.messages s.number (s.calls + 1) ≡ None
  next_is_new = unsent w h number member found (record { client = s.number; epoch = s.epoch; number = s.calls + 1; call = calls.Read []; sequencer = None }) (record { client = refl; number = refl; epoch = refl }) (call_of w.messages s.number (s.calls + 1)) refl

  ask_holds : (ask : Ask) (c : AskCase s member.clock ask) → Comes (λ new printed. AllHold new) (asked w number member (asked_in s member.clock ask c))
  ask_holds ask (AskedTooLate late) = tt
  ask_holds ask (Unsafe fault early is) = ask_stays ask (Unsafe fault early is) (grips_stay w.messages s _ held (note_grips s s.session then))
  ask_holds ask (Refused fault safe is) = ask_stays ask (Refused fault safe is) (grips_stay w.messages s _ held (record { number = refl; opened = refl; handles = refl; kept = refl; outstanding = refl }))
  ask_holds ask (ReadServed handle mine call entry given safe is readable) = ask_stays ask (ReadServed handle mine call entry given safe is readable) (grips_stay w.messages s _ held (record { number = refl; opened = refl; handles = refl; kept = refl; outstanding = refl }))
  ask_holds ask (AbsenceServed opening safe stays is plain cached) = ask_stays ask (AbsenceServed opening safe stays is plain cached) (grips_stay w.messages s _ held (record { number = refl; opened = refl; handles = refl; kept = refl; outstanding = refl }))
  ask_holds ask (Shared opening view handle safe is shared room) =
      ask_stays ask (Shared opening view handle safe is shared room)
      (grips_shared w.messages s then (kept_handle handle opening true) held (serves_name s.kept opening.name view.node.instance handle own.kept shared.kept))
  ask_holds ask (OutOfHandles opening view handle safe is shared last) = tt
  ask_holds ask (Released handle mine safe is there shared) = ask_stays ask (Released handle mine safe is there shared) (grips_released w.messages s then handle held)
  ask_holds ask (OutOfCalls call sequencer target sendable last) = tt
  ask_holds ask (Sent call sequencer target sendable room) =
      sends_on (asked_in s member.clock ask (Sent call sequencer target sendable room)).0 (message_of s call sequencer)
      (asked_rest w.messages (w.messages ++ ToMaster (message_of s call sequencer) ∷ []) s member.clock own ask (Sent call sequencer target sendable room)
      (grips_sent w.messages s then ask call sequencer target held sendable.is_plan next_is_new))
  ask_holds ask (Poisoned handle mine safe is usable) = ask_stays ask (Poisoned handle mine safe is usable) (grips_poisoned w.messages s then handle mine usable.found held)

  beat_sends : (c : BeatCase s member.clock) (request : Request) → Grips w.messages (beaten_in s member.clock c).0 → AllHold (sends (with_client w number member (beaten_in s member.clock c).0) request)
  beat_sends c request g = sends_on (beaten_in s member.clock c).0 request (holds_more w.messages (ToMaster request ∷ []) (beaten_in s member.clock c).0 (beaten_rest w.messages w.messages s member.clock own c g))

  beat_holds : (c : BeatCase s member.clock) → Comes (λ new printed. AllHold new) (beaten w number member (beaten_in s member.clock c))
  beat_holds (BeatTooLate late) = tt
  beat_holds (OutOfBeats early last) = tt
  beat_holds (Starts early unstarted room) = beat_sends (Starts early unstarted room) _ (grips_stay w.messages s _ held (record { number = refl; opened = refl; handles = refl; kept = refl; outstanding = refl }))
  beat_holds (BeatSent early live safe room) = beat_sends (BeatSent early live safe room) _ (grips_stay w.messages s _ held (record { number = refl; opened = refl; handles = refl; kept = refl; outstanding = refl }))
  beat_holds (Quiet early started live) =
      stays (beaten_in s member.clock (Quiet early started live)).0 (beaten_rest w.messages w.messages s member.clock own (Quiet early started live) (grips_stay w.messages s _ held (note_grips s s.session then)))

  module _ (at : ℕ) (out : Out) (sent : out_at w.messages at ≡ Some out) where
    give_stays : (c : GiveCase s member.clock out) → Grips w.messages (given_in s member.clock out c).0 → AllHold (with_client w number member (given_in s member.clock out c).0)
    give_stays c g = stays (given_in s member.clock out c).0 (given_rest w.messages w.messages s member.clock own out c g)

    noted_only : Grips w.messages (note s then)
    noted_only = grips_stay w.messages s (note s then) held (note_grips s s.session then)

    -- the reply is to the call that the client has asked
    pub the_reply : (message : Reply) (call : Outstanding) → out_client out ≡ s.number → out ≡ outs.Reply message → IsAwaited s member.clock message call → IsReplied w.messages w.rows.secret s message call
    the_reply message call mine is for =
        is_replied w.messages w.rows.secret s message call own (h.answers at message (sent ∙ ap (λ o. Some o) is)) (sym (ap out_client is) ∙ mine) for.outstanding for.number

    give_holds : (c : GiveCase s member.clock out) → Comes (λ new printed. AllHold new) (gave w number member (given_in s member.clock out c))
    give_holds (GivenTooLate late) = tt
    give_holds (OfAnother early other) = give_stays (OfAnother early other) noted_only
    give_holds (Started message heard is standing fits) = give_stays (Started message heard is standing fits) (grips_stay w.messages s _ held (record { number = refl; opened = refl; handles = refl; kept = refl; outstanding = refl }))
    give_holds (StartedUnfit message heard is standing long) = give_stays (StartedUnfit message heard is standing long) noted_only
    give_holds (StartedDropped message heard is old) = give_stays (StartedDropped message heard is old) noted_only
    give_holds (LeaseTaken message heard is fit taken) = give_stays (LeaseTaken message heard is fit taken) (grips_stay w.messages s _ held (record { number = refl; opened = refl; handles = refl; kept = refl; outstanding = refl }))
    give_holds (LeaseStays message heard is fit worse) = give_stays (LeaseStays message heard is fit worse) (grips_stay w.messages s _ held (record { number = refl; opened = refl; handles = refl; kept = refl; outstanding = refl }))
    give_holds (AliveUnfit message heard is alive unfit) = give_stays (AliveUnfit message heard is alive unfit) noted_only
    give_holds (AliveDropped message heard is strange) = give_stays (AliveDropped message heard is strange) noted_only
    give_holds (OutOfNumbers message call heard is for last) = tt
    give_holds (Replied message call heard is for room kept plain) =
        give_stays (Replied message call heard is for room kept plain) (grips_replied w.messages w.rows.secret s then message call message.result held (the_reply message call heard.own is for) refl)
    give_holds (Installed message call taught stamp heard is for learned) = give_stays (Installed message call taught stamp heard is for learned) (grips_end w.messages s _ own.handles own.kept refl)
    give_holds (Departed message call heard is for leaving done) = give_stays (Departed message call heard is for leaving done) (grips_end w.messages s _ own.handles own.kept refl)
    give_holds (ReplyDropped message call heard is for dropped) = give_stays (ReplyDropped message call heard is for dropped) (grips_end w.messages s _ own.handles own.kept refl)
    give_holds (NotAwaited message heard is none) = give_stays (NotAwaited message heard is none) noted_only
    give_holds (Learns message present heard is later) = give_stays (Learns message present heard is later) (grips_end w.messages s _ own.handles own.kept refl)
    give_holds (Lost message heard is loss) = give_stays (Lost message heard is loss) (grips_stay w.messages s _ held (record { number = refl; opened = refl; handles = refl; kept = refl; outstanding = refl }))
    give_holds (TurnedAway message heard is fault unstarted) = give_stays (TurnedAway message heard is fault unstarted) (grips_stay w.messages s _ held (record { number = refl; opened = refl; handles = refl; kept = refl; outstanding = refl }))
    give_holds (RefusalDropped message heard is earlier stays_so) = give_stays (RefusalDropped message heard is earlier stays_so) noted_only

-- ---- a step

-- with more messages
more_hold : (w : WorldState) (more : List Message) → AllHold w → (number : ℕ) (member : WorldClient) → member_of w number ≡ Some member → Holds (w.messages ++ more) member.client
more_hold w more h number member found = holds_more w.messages more member.client (h number member found)

pub holds_on : (old : WorldState) (step : Step) (new : WorldState) (printed : List Line) → IsConsistent old → WorldCase old step new printed → AllHold new
holds_on old step new printed h (ComesUp u) = subst AllHold (sym u.is) (at_each_member (λ number. at_up u.now) old.clients (λ q x. Holds old.messages x.client) (λ q x is. h.holds q x is))
holds_on old step new printed h (Joins j) = subst AllHold (sym j.is) (at_joined old h j.number j.principal j.free (λ q x. Holds old.messages x.client) (new_holds old.messages j.number j.principal) h.holds)
holds_on old step new printed h (Asks a) = it_comes (λ w lines. AllHold w) (asked old a.number a.member (asked_in a.member.client a.member.clock a.ask a.case)) new printed a.is (ask_holds old h a.number a.member a.found a.ask a.case)
holds_on old step new printed h (Beats b) = it_comes (λ w lines. AllHold w) (beaten old b.number b.member (beaten_in b.member.client b.member.clock b.case)) new printed b.is (beat_holds old h b.number b.member b.found b.case)
holds_on old step new printed h (Gives g) = it_comes (λ w lines. AllHold w) (gave old (out_client g.out) g.member (given_in g.member.client g.member.clock g.out g.case)) new printed g.is (give_holds old h (out_client g.out) g.member g.found g.at g.out g.was_sent g.case)
holds_on old step new printed h (Ticks t) =
    subst AllHold (sym t.is) (at_each_member (moved old.master old t.ticks) old.clients (λ q x. Holds old.messages x.client)
    (λ q x is. subst (λ (c : ClientState). Holds old.messages c) (sym (moves_so old.master old t.ticks q x).client) (h.holds q x is)))
holds_on old step new printed h (Takes t) = subst AllHold (sym t.is) (more_hold old _ h.holds)
holds_on old step new printed h (Sweeps t) = subst AllHold (sym t.is) (more_hold old _ h.holds)
holds_on old step new printed h (GoesDown d) = subst AllHold (sym d.is) h.holds
holds_on old step new printed h (CutsSweep k) = subst AllHold (sym k.is) h.holds
holds_on old step new printed h (CutsUp k) = subst AllHold (sym k.is) h.holds
holds_on old step new printed h (LosesUp k) = subst AllHold (sym k.is) h.holds
