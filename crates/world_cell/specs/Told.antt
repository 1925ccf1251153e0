-- What clients are told of contents, and what they are shown from then on.
use Rattle.std.specs.Prelude.{◌≡◌, ℕ, ◌<◌, ◌≤◌, List, ◌∷◌, ◌++◌, Some}
use Rattle.std.specs.Option.{option_map_or}
use Rattle.node_core.specs.declared.answers.Answer.{Answer}
use Rattle.node_core.specs.declared.answers.Answer.TheVariants as answers
use Rattle.node_core.specs.declared.events.Event.TheVariants as events
use Rattle.node_core.specs.declared.lines.Line.{Line}
use Rattle.node_core.specs.declared.lines.Line.TheVariants as lines
use Rattle.node_core.specs.declared.views.View.{View}
use Rattle.world_steps.specs.declared.steps.Step.{Step}
use Rattle.world_steps.specs.World.{WorldState, WorldView, member_of}
use Rattle.world_cell.specs.Contents.{IsNoOlder}
use Rattle.world_cell.specs.Runs.{Run}

-- the lines tell a client of this content, by one of its handles
pub record TellsOf (printed : List Line) (client instance generation : ℕ) : Type 0 where
  pub before : List Line
  pub rest : List Line
  pub handle : ℕ
  pub is : printed ≡ before ++ lines.Told client (events.Contents handle instance generation) ∷ rest

-- what an answer shows of a node is of another one, or no older content of this one
abbrev pub IsNoOlderAnswer : ℕ → ℕ → Answer → Type 0
IsNoOlderAnswer instance generation (answers.Viewed view) = IsNoOlder instance generation view.node
IsNoOlderAnswer instance generation (answers.Stated stat) = stat.instance ≡ instance → generation ≤ stat.content_generation
IsNoOlderAnswer instance generation _ = Unit {0}

-- what each call of a client above this number is answered
abbrev pub AnswersNoOlder : ℕ → ℕ → ℕ → ℕ → List Line → Type 0
AnswersNoOlder client calls instance generation printed =
    (before rest : List Line) (number : ℕ) (answer : Answer) → printed ≡ before ++ lines.Done client number answer ∷ rest → calls < number → IsNoOlderAnswer instance generation answer

-- what any client serves from its cache
abbrev pub ServesNoOlder : ℕ → ℕ → List Line → Type 0
ServesNoOlder instance generation printed =
    (before rest : List Line) (client : ℕ) (name : List ℕ) (view : View) → printed ≡ before ++ lines.Served client name (Some view) ∷ rest → IsNoOlder instance generation view.node

-- how many calls a client has asked; none before it joins
abbrev pub calls_of : WorldState → ℕ → ℕ
calls_of w client = option_map_or (λ member. member.client.calls) (member_of w client) 0

-- from any point of a run on: where its lines so far told anybody of a content, no call that any client asks from then on shows one that is older, on whichever handle, and nobody serves
-- one from its cache
abbrev pub ShowsNoOlder : WorldView → List Step → WorldView → Type 0
ShowsNoOlder old steps new =
    (front rest : List Step) (here : WorldView) (before after : List Line) (told instance generation : ℕ) → steps ≡ front ++ rest → Run old front before here → Run here rest after new → TellsOf before told instance generation
    → ((client : ℕ) → AnswersNoOlder client (calls_of here.world client) instance generation after) × ServesNoOlder instance generation after
