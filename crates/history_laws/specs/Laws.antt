-- What holds of every history of parts that run apart.
use Rattle.std.specs.Prelude.{◌≡◌, ℕ, ◌≤◌, List, [], ◌∷◌, ◌++◌, Option, Some}
use Rattle.std.specs.Option.{option_map}
use Rattle.lease_core.specs.Lease.{longest_lease}
use Rattle.node_core.specs.declared.lines.Line.{Line}
use Rattle.node_core.specs.declared.views.View.{View}
use Rattle.node_core.specs.Nodes.{view_at}
use Rattle.rows_cell.specs.declared.settings.MasterTerms.{MasterTerms}
use Rattle.rows_cell.specs.declared.tables.Rows.{Rows}
use Rattle.rows_cell.specs.Rows.{map_of}
use Rattle.cache_core.specs.Caches.{answer}
use Rattle.client_core.specs.State.{ClientState}
use Rattle.master_state.specs.State.{MasterState}
use Rattle.world_steps.specs.declared.steps.Step.{Step}
use Rattle.world_steps.specs.declared.members.WorldClient.{WorldClient}
use Rattle.world_steps.specs.World.{WorldState, WorldView, IsUndoubted, opened, member_of}
use Rattle.world_cell.specs.Runs.{AnyRun, Run}
use Rattle.world_cell.specs.Served.{ServesPresent}
use Rattle.world_cell.specs.RunLaws.{HoldsOfRun}
use Rattle.history_laws.specs.Parts.{Parts, nothing_yet}
use Rattle.history_laws.specs.Histories.{Clocks, Entry, Does, History, AreFair, GoOnTo}

-- a world that has not begun, over these rows
abbrev pub new_view : List ℕ → Rows → MasterTerms → WorldView
new_view cell rows terms = opened (record { cell = cell; rows = rows; may_leave = []; refusals = 0; doubt = 0 }) terms

-- a world holds what the parts hold
pub record HoldsParts (w : WorldView) (p : Parts) : Type 0 where
  pub rows : w.world.rows ≡ p.rows
  pub master : w.world.master ≡ p.master
  pub clients : (number : ℕ) → option_map (λ member. member.client) (member_of w.world number) ≡ p.clients number
  pub messages : w.world.messages ≡ p.told
  pub undoubted : IsUndoubted w

-- the clocks of a world show what all clocks show at this moment: the master's, where one is up, and that of each client that has joined
pub record ShowsClocks (w : WorldState) (now : Clocks) : Type 0 where
  pub master : (s : MasterState) → w.master ≡ Some s → w.clock ≡ now.master
  pub client : (number : ℕ) (member : WorldClient) → member_of w number ≡ Some member → member.clock ≡ now.client number

-- a run goes along with a history: at each point of the history, in their order, the run has a point at which the world holds what the parts hold then; and from one to the next it makes steps that
-- print what happens there, after which the clocks show that moment
abbrev pub GoesAlong : (w : WorldView) (steps : List Step) (new : WorldView) (p : Parts) (entries : List Entry) (printed : List Line) (end : Parts) → History p entries printed end → Type 0
GoesAlong w steps new p [] printed end h = HoldsParts w p × (steps ≡ []) × (new ≡ w)
GoesAlong w steps new p (entry ∷ entries) printed end h =
    HoldsParts w p × (here : List Step) × (later : List Step) × (mid : WorldView) × (steps ≡ here ++ later) × Run w here h.1 mid × ShowsClocks mid.world entry.clocks × GoesAlong mid later new h.0 entries h.2 end h.4

-- steps of a world from its beginning that go along with a history and print the same lines
pub record IsRunOf (cell : List ℕ) (rows : Rows) (terms : MasterTerms) (entries : List Entry) (printed : List Line) (end : Parts) (h : History (nothing_yet cell rows terms) entries printed end) : Type 0 where
  pub steps : List Step
  pub new : WorldView
  pub run : AnyRun (new_view cell rows terms) steps printed new
  pub holds : HoldsParts new end
  pub along : GoesAlong (new_view cell rows terms) steps new (nothing_yet cell rows terms) entries printed end h

-- what parts that run apart do is what a world does
abbrev pub HistoriesAreRuns : Type 0
HistoriesAreRuns =
    (cell : List ℕ) (rows : Rows) (terms : MasterTerms) (entries : List Entry) (printed : List Line) (end : Parts)
    → (h : History (nothing_yet cell rows terms) entries printed end) → AreFair entries → IsRunOf cell rows terms entries printed end h

-- so all that holds of runs holds of histories
abbrev pub HistoriesHold : Type 0
HistoriesHold =
    (cell : List ℕ) (rows : Rows) (terms : MasterTerms) (entries : List Entry) (printed : List Line) (end : Parts)
    → terms.lease ≤ longest_lease → (h : History (nothing_yet cell rows terms) entries printed end) → AreFair entries
    → (is : IsRunOf cell rows terms entries printed end h) × HoldsOfRun (new_view cell rows terms) is.steps printed is.new

-- ---- from each point of a history on

-- a point of a run, at which the world holds these parts; from there on all holds that holds of runs
pub record IsPointOf (old : WorldView) (steps : List Step) (new : WorldView) (before after : List Line) (here : Parts) : Type 0 where
  pub front : List Step
  pub rest : List Step
  pub at : WorldView
  pub is : steps ≡ front ++ rest
  pub first : Run old front before at
  pub later : Run at rest after new
  pub holds : HoldsParts at here
  pub laws : HoldsOfRun at rest after new

-- the first entries of a history are a history, after which the others are one; and its end is a point of the run of all
pub record IsPrefix (cell : List ℕ) (rows : Rows) (terms : MasterTerms) (front rest : List Entry) (printed : List Line) (end : Parts) (steps : List Step) (new : WorldView) : Type 0 where
  pub here : Parts
  pub before : List Line
  pub after : List Line
  pub first : History (nothing_yet cell rows terms) front before here
  pub later : History here rest after end
  pub lines : printed ≡ before ++ after
  pub point : IsPointOf (new_view cell rows terms) steps new before after here

abbrev pub PrefixesArePoints : Type 0
PrefixesArePoints =
    (cell : List ℕ) (rows : Rows) (terms : MasterTerms) (front rest : List Entry) (printed : List Line) (end : Parts)
    → terms.lease ≤ longest_lease → (h : History (nothing_yet cell rows terms) (front ++ rest) printed end) → (is : IsRunOf cell rows terms (front ++ rest) printed end h)
    → IsPrefix cell rows terms front rest printed end is.steps is.new

-- ---- caches

-- whatever a client in a program of its own serves from its cache is what the rows hold of that name then
abbrev pub CachesShowTheRows : Type 0
CachesShowTheRows =
    (cell : List ℕ) (rows : Rows) (terms : MasterTerms) (entries : List Entry) (printed : List Line) (here new : Parts) (last : Entry) (told : List Line)
    → terms.lease ≤ longest_lease → History (nothing_yet cell rows terms) entries printed here → Does here last.clocks last.deed new told → AreFair (entries ++ last ∷ [])
    → ServesPresent (map_of new.rows) told

-- whatever the cache of a client would answer, at any moment by the client's clock, is what the rows hold of that name then
abbrev pub CachesAnswerTheRows : Type 0
CachesAnswerTheRows =
    (cell : List ℕ) (rows : Rows) (terms : MasterTerms) (entries : List Entry) (printed : List Line) (here : Parts) (now : Clocks) (number : ℕ) (client : ClientState) (name : List ℕ) (entry : Option View)
    → terms.lease ≤ longest_lease → History (nothing_yet cell rows terms) entries printed here → GoOnTo entries now → here.clients number ≡ Some client
    → answer client.cache (now.client number) name ≡ Some entry → entry ≡ view_at (map_of here.rows) name
