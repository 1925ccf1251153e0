-- What a client answers out of its cache is what it prints.
use Rattle.std.specs.Prelude.{◌≡◌, ℕ, ◌+◌, List, ◌∷◌, Option, Some, None, Ok}
use Rattle.cache_core.specs.Caches.{answer}
use Rattle.cache_core.specs.Kept.{serving}
use Rattle.node_core.specs.declared.refusals.Fault.TheVariants as faults
use Rattle.node_core.specs.declared.answers.Answer.{Answer}
use Rattle.node_core.specs.declared.answers.Answer.TheVariants as answers
use Rattle.node_core.specs.declared.lines.Line.{Line}
use Rattle.node_core.specs.declared.lines.Line.TheVariants as lines
use Rattle.node_core.specs.declared.views.View.{View}
use Rattle.tags_cell.specs.declared.messages.outs.NewHandle.{NewHandle}
use Rattle.client_core.specs.declared.parts.asks.Ask.{Ask}
use Rattle.client_core.specs.declared.parts.asks.Ask.TheVariants as asks
use Rattle.client_core.specs.declared.parts.asks.Outcome.TheVariants.{Served}
use Rattle.client_core.specs.declared.parts.handles.ClientHandle.{ClientHandle}
use Rattle.client_core.specs.State.{ClientState}
use Rattle.client_core.specs.Handles.{handle_of}
use Rattle.client_core.specs.Opens.{cached_answer}
use Rattle.client_core.specs.Asks.{asked_for, ask_step}
use Rattle.client_core.specs.Cases.{noted_moment}

-- this is asked of a name, and what is cached under it answers so: a call of a handle on it, as what is cached is the handle's node
-- or not; an Open of what isn't there; or one of what is there, by a handle that is kept on that instance, under the next number
abbrev pub AnswersBy : ClientState → Ask → List ℕ → Option View → Answer → Type 0
AnswersBy s (asks.Node number call) name entry given =
    (handle : ClientHandle) × (handle_of s.handles number ≡ Some handle) × (name ≡ handle.name) × (cached_answer handle call entry ≡ Some given)
AnswersBy s (asks.Open opening) name None given = (name ≡ opening.name) × (given ≡ answers.Refused faults.NotFound)
AnswersBy s (asks.Open opening) name (Some view) given =
    (kept : NewHandle) × (serving s.kept name view.node.instance ≡ Some kept) × (name ≡ opening.name) × (given ≡ answers.Opened (s.opened + 1))
AnswersBy s _ name entry given = ⊥

-- the first line shows what is cached under a name, and the answer is by that
pub record IsShown (s : ClientState) (now : ℕ) (ask : Ask) (printed : List Line) (given : Answer) : Type 0 where
  pub name : List ℕ
  pub entry : Option View
  pub others : List Line
  pub first : printed ≡ lines.Served s.number name entry ∷ others
  pub cached : answer s.cache (noted_moment s now) name ≡ Some entry
  pub answers : AnswersBy s ask name entry given

-- what the cache answers is what its line shows
abbrev pub AnswersAreShown : Type 0
AnswersAreShown =
    (s new : ClientState) (now : ℕ) (ask : Ask) (printed : List Line) (given : Answer) → ask_step s now ask ≡ (new, Ok (asked_for printed (Served given)))
    → IsShown s now ask printed given
