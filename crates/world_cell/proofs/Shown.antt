-- What a client answers out of its cache is what it prints: by the cases of the step.
use Rattle.std.proofs.Common.{◌≡◌, ℕ, ◌+◌, List, [], ◌∷◌, Option, Some, None, Result, Ok, Err, refl, sym, ap, subst, ◌∙◌}
use Rattle.node_core.specs.declared.refusals.Fault.{Fault}
use Rattle.node_core.specs.declared.refusals.Fault.TheVariants as faults
use Rattle.node_core.specs.declared.answers.Answer.{Answer}
use Rattle.node_core.specs.declared.answers.Answer.TheVariants as answers
use Rattle.node_core.specs.declared.lines.Line.{Line}
use Rattle.client_core.specs.declared.parts.asks.Ask.{Ask}
use Rattle.client_core.specs.declared.parts.asks.AskOutcome.{AskOutcome}
use Rattle.client_core.specs.declared.parts.asks.Outcome.{Outcome}
use Rattle.client_core.specs.declared.parts.asks.Outcome.TheVariants as outcomes
use Rattle.client_core.specs.State.{ClientState}
use Rattle.client_core.specs.Cases.{AskCase, asked_in}
use Rattle.client_core.specs.Cases.AskCase.{AskedTooLate, Unsafe, Refused, ReadServed, AbsenceServed, Shared, OutOfHandles, Released, OutOfCalls, Sent, Poisoned}
use Rattle.client_core.proofs.AskCases.{ask_case}
use Rattle.world_cell.specs.Shown.{AnswersBy, IsShown, AnswersAreShown}

-- the lines of an answer, and what was served
abbrev lines_of : Result AskOutcome Fault → List Line
lines_of (Ok told) = told.lines
lines_of (Err fault) = []

abbrev served_as : Outcome → Option Answer
served_as (outcomes.Served given) = Some given
served_as outcome = None

abbrev served_of : Result AskOutcome Fault → Option Answer
served_of (Ok told) = served_as told.outcome
served_of (Err fault) = None

shown_in : (s : ClientState) (now : ℕ) (ask : Ask) (c : AskCase s now ask) (printed : List Line) (given : Answer) → lines_of (asked_in s now ask c).1 ≡ printed → served_of (asked_in s now ask c).1 ≡ Some given
    → IsShown s now ask printed given
shown_in s now ask (AskedTooLate late) printed given l g = cc
shown_in s now ask (Unsafe fault early is) printed given l g = cc
shown_in s now ask (Refused fault safe is) printed given l g = cc
shown_in s now ask (ReadServed number handle call entry mine safe is readable) printed given l g =
    record {
      name = handle.name;
      entry = entry;
      others = [];
      first = sym l;
      cached = readable.cached;
      answers = subst (λ (a : Ask). AnswersBy s a handle.name entry given) (sym is) (handle, readable.of_handle.found, refl, readable.answers ∙ g);
    }
shown_in s now ask (AbsenceServed opening safe stays is plain cached) printed given l g =
    let same : given ≡ answers.Refused faults.NotFound = cc in
    record {
      name = opening.name;
      entry = None;
      others = [];
      first = sym l;
      cached = cached;
      answers = subst (λ (a : Ask). AnswersBy s a opening.name None given) (sym is) (refl, same);
    }
shown_in s now ask (Shared opening view handle safe is shared room) printed given l g =
    let same : given ≡ answers.Opened (s.opened + 1) = cc in
    record {
      name = opening.name;
      entry = Some view;
      others = _;
      first = sym l;
      cached = shared.cached;
      answers = subst (λ (a : Ask). AnswersBy s a opening.name (Some view) given) (sym is) (handle, shared.kept, refl, same);
    }
shown_in s now ask (OutOfHandles opening view handle safe is shared last) printed given l g = cc
shown_in s now ask (Released number handle safe is found shared) printed given l g = cc
shown_in s now ask (OutOfCalls call sequencer target sendable last) printed given l g = cc
shown_in s now ask (Sent call sequencer target sendable room) printed given l g = cc
shown_in s now ask (Poisoned number handle safe is usable) printed given l g = cc

pub answers_are_shown : AnswersAreShown
answers_are_shown s new now ask printed given h =
    let asked = ask_case s now ask in
    let e = sym asked.1 ∙ h in
    shown_in s now ask asked.0 printed given (ap (λ p. lines_of p.1) e) (ap (λ p. served_of p.1) e)
