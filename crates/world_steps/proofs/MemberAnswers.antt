-- A client's step among all clients.
use Rattle.std.proofs.Common.{◌≡◌, ℕ, ◌≤◌, [], ◌++◌, length, Some, Result, Ok, Err, refl, sym, ap, ◌∙◌, subst, arith}
use Rattle.std.specs.Option.{option_to_list}
use Rattle.std.specs.Map.{lookup}
use Rattle.std.specs.BTreeMap.{is_at}
use Rattle.std.specs.Ordering.{nat_cmp}
use Rattle.std.proofs.lemmas.List.{append-nil}
use Rattle.std.proofs.lemmas.Map.Steps.{set_value_same}
use Rattle.cache_core.specs.Standings.{turn_line}
use Rattle.cache_core.specs.declared.standings.SessionTrust.{SessionTrust}
use Rattle.cache_core.specs.declared.standings.SessionTrust.TheVariants as standings
use Rattle.node_core.specs.declared.refusals.Fault.{Fault}
use Rattle.node_core.specs.declared.refusals.Fault.TheVariants.{NoMemory}
use Rattle.tags_cell.specs.declared.messages.outs.Out.{Out}
use Rattle.client_core.specs.declared.parts.asks.Ask.{Ask}
use Rattle.client_core.specs.declared.parts.asks.AskOutcome.{AskOutcome as AskedFor}
use Rattle.client_core.specs.declared.parts.asks.Outcome.TheVariants as outcomes
use Rattle.client_core.specs.declared.parts.steps.Given.{Given}
use Rattle.client_core.specs.declared.parts.sessions.ClientStanding.{ClientStanding}
use Rattle.client_core.specs.declared.parts.sessions.ClientStanding.TheVariants as sessions
use Rattle.client_core.specs.State.{ClientState, standing_then, note_lines_in, note_lines, Does}
use Rattle.client_core.specs.Asks.{ask_step}
use Rattle.client_core.specs.Beats.{beat_step}
use Rattle.client_core.specs.Gives.{give_step}
use Rattle.client_core.specs.Cases.{noted_moment, AskCase, asked_in, BeatCase, beaten_in, GiveCase, given_in}
use Rattle.client_core.specs.Cases.AskCase.{AskedTooLate, Unsafe, Refused, OutOfHandles, OutOfCalls}
use Rattle.client_core.specs.Cases.BeatCase.{BeatTooLate, OutOfBeats}
use Rattle.client_core.specs.Cases.GiveCase.{GivenTooLate, StartedUnfit, AliveUnfit, OutOfNumbers}
use Rattle.client_core.proofs.AskCases.{ask_case, beat_case}
use Rattle.client_core.proofs.GiveCases.{give_case}
use Rattle.world_steps.specs.declared.members.WorldClient.{WorldClient}
use Rattle.world_steps.specs.Members.{Clients, stepped, Answers}

pair_first : {A B : Type 0} (p : A × B) (a : A) (b : B) → p ≡ (a, b) → p.0 ≡ a
pair_first p a b h = ap (λ q. q.0) h

pair_second : {A B : Type 0} (p : A × B) (a : A) (b : B) → p ≡ (a, b) → p.1 ≡ b
pair_second p a b h = ap (λ q. q.1) h

-- every refusal leaves the client
abbrev pub AllLeave : {X : Type 0} → ClientState → ClientState × Result X Fault → Type 0
AllLeave {X} client step = (fault : Fault) (new : ClientState) → step ≡ (new, Err fault) → new ≡ client

pub member_answers : {X : Type 0} (old new : Clients) (number : ℕ) (member : WorldClient) (next : ClientState) (r : Result X Fault) (step : ClientState × Result X Fault) → lookup (is_at (nat_cmp number)) old ≡ Some member → new ≡ stepped old number member next → Does member.client next r step → AllLeave member.client step → Answers old new number member r step
member_answers {X} old new number member next (Ok x) step found is h all =
    (pair_second step next (Ok x) h, is ∙ ap (stepped old number member) (sym (pair_first step next (Ok x) h)))
member_answers {X} old new number member next (Err NoMemory) step found is h all =
    is ∙ ap (stepped old number member) (h.1 refl) ∙ set_value_same (is_at (nat_cmp number)) old member found
member_answers {X} old new number member next (Err fault) step found is h all =
    let e = h.0 (λ k. cc) in
    (pair_second step next (Err fault) e, is ∙ ap (stepped old number member) (all fault next e) ∙ set_value_same (is_at (nat_cmp number)) old member found)

-- ---- refusals leave the client

asked_leaves : (s : ClientState) (now : ℕ) (ask : Ask) (c : AskCase s now ask) → AllLeave s (asked_in s now ask c)
asked_leaves s now ask (AskedTooLate late) fault new h = sym (ap (λ p. p.0) h)
asked_leaves s now ask (OutOfHandles opening view mine safe is shared last) fault new h = sym (ap (λ p. p.0) h)
asked_leaves s now ask (OutOfCalls call sequencer target sendable last) fault new h = sym (ap (λ p. p.0) h)
asked_leaves s now ask c fault new h = let e = ap (λ p. p.1) h in cc

pub ask_leaves : (s : ClientState) (now : ℕ) (ask : Ask) → AllLeave s (ask_step s now ask)
ask_leaves s now ask fault new h = let c = ask_case s now ask in asked_leaves s now ask c.0 fault new (sym c.1 ∙ h)

beaten_leaves : (s : ClientState) (now : ℕ) (c : BeatCase s now) → AllLeave s (beaten_in s now c)
beaten_leaves s now (BeatTooLate late) fault new h = sym (ap (λ p. p.0) h)
beaten_leaves s now (OutOfBeats early last) fault new h = sym (ap (λ p. p.0) h)
beaten_leaves s now c fault new h = let e = ap (λ p. p.1) h in cc

pub beat_leaves : (s : ClientState) (now : ℕ) → AllLeave s (beat_step s now)
beat_leaves s now fault new h = let c = beat_case s now in beaten_leaves s now c.0 fault new (sym c.1 ∙ h)

given_leaves : (s : ClientState) (now : ℕ) (out : Out) (c : GiveCase s now out) → AllLeave s (given_in s now out c)
given_leaves s now out (GivenTooLate late) fault new h = sym (ap (λ p. p.0) h)
given_leaves s now out (OutOfNumbers message call heard is for last) fault new h = sym (ap (λ p. p.0) h)
given_leaves s now out c fault new h = let e = ap (λ p. p.1) h in cc

pub give_leaves : (s : ClientState) (now : ℕ) (out : Out) → AllLeave s (give_step s now out)
give_leaves s now out fault new h = let c = give_case s now out in given_leaves s now out c.0 fault new (sym c.1 ∙ h)

-- ---- one line at most beside a refusal

turn_few : (number : ℕ) (before after : SessionTrust) → length (option_to_list (turn_line number before after)) ≤ 1
turn_few number standings.Safe standings.Safe = omega arith
turn_few number standings.Safe (standings.Jeopardy since) = omega arith
turn_few number standings.Safe standings.Lost = omega arith
turn_few number (standings.Jeopardy since) standings.Safe = omega arith
turn_few number (standings.Jeopardy since) (standings.Jeopardy later) = omega arith
turn_few number (standings.Jeopardy since) standings.Lost = omega arith
turn_few number standings.Lost after = omega arith

noted_in_few : (s : ClientState) (session : ClientStanding) (moment : ℕ) → length (note_lines_in session s moment) ≤ 1
noted_in_few s sessions.Unstarted moment = omega arith
noted_in_few s sessions.Live moment = turn_few s.number s.standing (standing_then s moment)
noted_in_few s sessions.Lost moment = omega arith
noted_in_few s sessions.TurnedAway moment = omega arith

noted_few : (s : ClientState) (moment : ℕ) → length (note_lines s moment) ≤ 1
noted_few s moment = noted_in_few s s.session moment

abbrev IsFewBeside : Result AskedFor Fault → Type 0
IsFewBeside r = (asked : AskedFor) (fault : Fault) → r ≡ Ok asked → asked.outcome ≡ outcomes.Refused fault → length asked.lines ≤ 1

asked_few : (s : ClientState) (now : ℕ) (ask : Ask) (c : AskCase s now ask) → IsFewBeside (asked_in s now ask c).1
asked_few s now ask (Unsafe fault early is) asked other e k =
    let l : note_lines s (noted_moment s now) ≡ asked.lines = cc in
    subst (λ xs. length xs ≤ 1) l (noted_few s (noted_moment s now))
asked_few s now ask (Refused fault safe is) asked other e k =
    let l : [] ≡ asked.lines = cc in
    subst (λ xs. length xs ≤ 1) l (omega arith)
asked_few s now ask c asked other e k = cc

pub ask_few : (s : ClientState) (now : ℕ) (ask : Ask) (asked : AskedFor) (fault : Fault) → (ask_step s now ask).1 ≡ Ok asked → asked.outcome ≡ outcomes.Refused fault → length asked.lines ≤ 1
ask_few s now ask asked fault e k = let c = ask_case s now ask in asked_few s now ask c.0 asked fault (ap (λ p. p.1) (sym c.1) ∙ e) k

abbrev IsFewGiven : Result Given Fault → Type 0
IsFewGiven r = (given : Given) (fault : Fault) → r ≡ Ok given → given.refused ≡ Some fault → length given.lines ≤ 1

rejected_few : (s : ClientState) (moment : ℕ) (given : Given) → (note_lines s moment ++ [] ≡ given.lines) → length given.lines ≤ 1
rejected_few s moment given l = subst (λ xs. length xs ≤ 1) (sym (append-nil (note_lines s moment)) ∙ l) (noted_few s moment)

given_few : (s : ClientState) (now : ℕ) (out : Out) (c : GiveCase s now out) → IsFewGiven (given_in s now out c).1
given_few s now out (StartedUnfit message heard is standing long) given other e k = rejected_few s (noted_moment s now) given cc
given_few s now out (AliveUnfit message heard is alive unfit) given other e k = rejected_few s (noted_moment s now) given cc
given_few s now out c given other e k = cc

pub give_few : (s : ClientState) (now : ℕ) (out : Out) (given : Given) (fault : Fault) → (give_step s now out).1 ≡ Ok given → given.refused ≡ Some fault → length given.lines ≤ 1
give_few s now out given fault e k = let c = give_case s now out in given_few s now out c.0 given fault (ap (λ p. p.1) (sym c.1) ∙ e) k
