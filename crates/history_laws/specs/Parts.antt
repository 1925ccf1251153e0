-- Parts that run apart: a master over its rows, while one is up, and clients, each in a program of its own; what each of them does by its own contract, and what they have told one another.
use Rattle.std.specs.Prelude.{◌≡◌, ℕ, ◌==◌, true, List, [], ◌∷◌, ◌++◌, map, filter, Option, Some, None, Ok, if◌then◌else◌}
use Rattle.node_core.specs.declared.lines.Line.{Line}
use Rattle.node_core.specs.declared.lines.Line.TheVariants as lines
use Rattle.rows_cell.specs.declared.settings.MasterTerms.{MasterTerms}
use Rattle.rows_cell.specs.declared.tables.Rows.{Rows}
use Rattle.rows_cell.specs.Rows.{changed_rows}
use Rattle.tags_cell.specs.Numbers.{is_client_number}
use Rattle.tags_cell.specs.declared.messages.requests.Request.{Request}
use Rattle.tags_cell.specs.declared.messages.outs.Out.{Out}
use Rattle.tags_cell.specs.Messages.{request_client, out_client}
use Rattle.master_parts.specs.declared.pending.Taken.{Taken}
use Rattle.master_state.specs.State.{MasterState}
use Rattle.cell_core.specs.Step.{take_step}
use Rattle.over_core.specs.declared.swept.Swept.{Swept}
use Rattle.over_core.specs.Sweep.{sweep_step, sweep_edits, beats_step}
use Rattle.over_core.specs.Up.{up_step, up_edits}
use Rattle.client_core.specs.declared.parts.asks.Ask.{Ask}
use Rattle.client_core.specs.declared.parts.asks.AskOutcome.{AskOutcome}
use Rattle.client_core.specs.declared.parts.asks.Outcome.{Outcome}
use Rattle.client_core.specs.declared.parts.asks.Outcome.TheVariants.{Sent, Served, Answered, Refused}
use Rattle.client_core.specs.declared.parts.steps.Beaten.{Beaten}
use Rattle.client_core.specs.declared.parts.steps.Given.{Given}
use Rattle.client_core.specs.State.{ClientState, new_client}
use Rattle.client_core.specs.Asks.{ask_step}
use Rattle.client_core.specs.Beats.{beat_step}
use Rattle.client_core.specs.Gives.{give_step}
use Rattle.world_steps.specs.declared.mail.Message.{Message}
use Rattle.world_steps.specs.declared.mail.Message.TheVariants.{ToMaster, ToClient}
use Rattle.world_steps.specs.Messages.{request_at, out_at}
use Rattle.world_steps.specs.World.{with_refusal, given_lines, is_of_commit}
use Rattle.world_steps.specs.Made.{AreInOrder}

-- cell: its name, by the settings of its store. rows: those that stand. clients: by number. told: all messages that were told, in order; each may come late, more than once, or never. terms: what each master goes by
pub record Parts : Type 0 where
  pub cell : List ℕ
  pub rows : Rows
  pub master : Option MasterState
  pub clients : ℕ → Option ClientState
  pub told : List Message
  pub terms : MasterTerms

-- rows over which no master was up yet, no client has begun, nothing was told
abbrev pub nothing_yet : List ℕ → Rows → MasterTerms → Parts
nothing_yet cell rows terms = record { cell = cell; rows = rows; master = None; clients = λ number. None; told = []; terms = terms }

-- what a part does, or what becomes of one. A message comes by its place among those that were told, from 1
pub data Deed : Type 0 where
  -- a master comes up
  ComesUp : Deed
  -- and is gone after the commit of its epoch
  FallsComingUp : Deed
  -- it takes a message
  Takes : ℕ → Deed
  Sweeps : Deed
  -- it is gone after a sweep's commit, and has told nobody of it
  FallsSweeping : Deed
  -- it answers a Beat that is due, and commits nothing
  AnswersBeat : Deed
  -- it is gone, with a word or without one
  Goes : Deed
  -- a client of this number begins, for this principal
  Begins : ℕ → List ℕ → Deed
  -- it is asked for a call
  Asks : ℕ → Ask → Deed
  -- or for what keeps its session
  Beats : ℕ → Deed
  -- a message comes to the client that it is for
  Hears : ℕ → Deed

-- ---- a master. It comes up by rows in the order of their keys, as each store keeps them

pub record ComesUpBy (p : Parts) (now : ℕ) (new : Parts) (printed : List Line) : Type 0 where
  pub master : MasterState
  pub none : p.master ≡ None
  pub ordered : AreInOrder p.rows
  pub step : up_step p.cell p.rows p.terms now ≡ Ok master
  pub left : new ≡ record p { rows = changed_rows p.rows (up_edits p.rows); master = Some master }
  pub prints : printed ≡ lines.Up master.epoch ∷ []

pub record FallsComingUpBy (p : Parts) (now : ℕ) (new : Parts) (printed : List Line) : Type 0 where
  pub master : MasterState
  pub none : p.master ≡ None
  pub step : up_step p.cell p.rows p.terms now ≡ Ok master
  pub left : new ≡ record p { rows = changed_rows p.rows (up_edits p.rows) }
  pub prints : printed ≡ lines.Up master.epoch ∷ lines.Down ∷ []

-- it is given a message that was told, which is of a client's number, as messages are
pub record TakesBy (p : Parts) (now at : ℕ) (new : Parts) (printed : List Line) : Type 0 where
  pub master : MasterState
  pub request : Request
  pub next : MasterState
  pub taken : Taken
  pub up : p.master ≡ Some master
  pub was_told : request_at p.told at ≡ Some request
  pub numbered : is_client_number (request_client request) ≡ true
  pub step : take_step master now request ≡ Ok (next, taken)
  pub left : new ≡ record p { master = Some next; told = p.told ++ map ToClient taken.outs }
  pub prints : printed ≡ taken.lines

pub record SweepsBy (p : Parts) (now : ℕ) (new : Parts) (printed : List Line) : Type 0 where
  pub master : MasterState
  pub next : MasterState
  pub swept : Swept
  pub up : p.master ≡ Some master
  pub step : sweep_step master now ≡ Ok (next, swept)
  pub left : new ≡ record p { rows = changed_rows p.rows (sweep_edits master now); master = Some next; told = p.told ++ map ToClient swept.outs }
  pub prints : printed ≡ swept.lines

-- of its lines those that tell of the commit
pub record FallsSweepingBy (p : Parts) (now : ℕ) (new : Parts) (printed : List Line) : Type 0 where
  pub master : MasterState
  pub next : MasterState
  pub swept : Swept
  pub up : p.master ≡ Some master
  pub step : sweep_step master now ≡ Ok (next, swept)
  pub left : new ≡ record p { rows = changed_rows p.rows (sweep_edits master now); master = None }
  pub prints : printed ≡ filter is_of_commit swept.lines ++ lines.Down ∷ []

pub record AnswersBeatBy (p : Parts) (now : ℕ) (new : Parts) (printed : List Line) : Type 0 where
  pub master : MasterState
  pub next : MasterState
  pub swept : Swept
  pub up : p.master ≡ Some master
  pub step : beats_step master now ≡ Ok (next, swept)
  pub left : new ≡ record p { master = Some next; told = p.told ++ map ToClient swept.outs }
  pub prints : printed ≡ swept.lines

pub record GoesBy (p : Parts) (new : Parts) (printed : List Line) : Type 0 where
  pub master : MasterState
  pub up : p.master ≡ Some master
  pub left : new ≡ record p { master = None }
  pub prints : printed ≡ lines.Down ∷ []

-- ---- a client

-- the clients, with one in the place of what it was
abbrev pub with_client : (ℕ → Option ClientState) → ℕ → ClientState → ℕ → Option ClientState
with_client clients number client q = if q == number then Some client else clients q

-- a number is used once
pub record BeginsBy (p : Parts) (number : ℕ) (principal : List ℕ) (new : Parts) (printed : List Line) : Type 0 where
  pub free : p.clients number ≡ None
  pub left : new ≡ record p { clients = with_client p.clients number (new_client number principal) }
  pub prints : printed ≡ []

-- the message that an answer of a client's gives to be sent
abbrev pub sent_by : Outcome → List Message
sent_by (Sent request) = ToMaster request ∷ []
sent_by (Served answer) = []
sent_by Answered = []
sent_by (Refused fault) = []

-- what a client refuses by itself is its last line
abbrev pub ended_by : List Line → Outcome → List Line
ended_by told (Sent request) = told
ended_by told (Served answer) = told
ended_by told Answered = told
ended_by told (Refused fault) = with_refusal told fault

pub record AsksBy (p : Parts) (now number : ℕ) (ask : Ask) (new : Parts) (printed : List Line) : Type 0 where
  pub client : ClientState
  pub next : ClientState
  pub asked : AskOutcome
  pub there : p.clients number ≡ Some client
  pub step : ask_step client now ask ≡ (next, Ok asked)
  pub left : new ≡ record p { clients = with_client p.clients number next; told = p.told ++ sent_by asked.outcome }
  pub prints : printed ≡ ended_by asked.lines asked.outcome

abbrev pub sent_as : Option Request → List Message
sent_as (Some request) = ToMaster request ∷ []
sent_as None = []

pub record BeatsBy (p : Parts) (now number : ℕ) (new : Parts) (printed : List Line) : Type 0 where
  pub client : ClientState
  pub next : ClientState
  pub beaten : Beaten
  pub there : p.clients number ≡ Some client
  pub step : beat_step client now ≡ (next, Ok beaten)
  pub left : new ≡ record p { clients = with_client p.clients number next; told = p.told ++ sent_as beaten.request }
  pub prints : printed ≡ beaten.lines

-- it is given a message that was told, and that says that it is for it
pub record HearsBy (p : Parts) (clock : ℕ → ℕ) (at : ℕ) (new : Parts) (printed : List Line) : Type 0 where
  pub out : Out
  pub client : ClientState
  pub next : ClientState
  pub given : Given
  pub was_told : out_at p.told at ≡ Some out
  pub there : p.clients (out_client out) ≡ Some client
  pub step : give_step client (clock (out_client out)) out ≡ (next, Ok given)
  pub left : new ≡ record p { clients = with_client p.clients (out_client out) next }
  pub prints : printed ≡ given_lines given.lines given.refused
