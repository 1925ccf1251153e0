-- A master that a program hosts, and what it does by a frame.
use Rattle.std.specs.Prelude.{◌≡◌, ℕ, Option, Some, None, Result, Ok, Err}
use Rattle.node_core.specs.declared.refusals.Fault.TheVariants.{NoMemory, MasterDown, MasterUp}
use Rattle.rows_cell.specs.declared.settings.MasterTerms.{MasterTerms}
use Rattle.rows_cell.specs.Stores.{Store}
use Rattle.tags_cell.specs.declared.messages.requests.Request.{Request}
use Rattle.master_state.specs.State.{MasterState}
use Rattle.over_core.specs.Kept.{CellState}
use Rattle.over_core.specs.Up.{ComesUp, StaysDown}
use Rattle.over_core.specs.Deadlines.{IsDeadline}
use Rattle.codec.specs.declared.faults.WireFault.{WireFault}
use Rattle.hosting.specs.declared.frames.Frame.{Frame}
use Rattle.hosting.specs.declared.frames.Frame.TheVariants as frames
use Rattle.hosting.specs.declared.settling.Settled.{Settled}
use Rattle.hosting.specs.declared.standing.MasterStanding.{MasterStanding}
use Rattle.hosting.specs.Serving.{Settles, Answers}
use Rattle.hosting.specs.Standing.{standing_of}
use Rattle.hosting.specs.declared.seats.HostedMaster.{HostedMaster}
use Rattle.hosting.specs.declared.seats.HostedMaster.TheVariants as seats
use Rattle.hosting.specs.declared.seats.FrameReply.{FrameReply}
use Rattle.hosting.specs.declared.seats.FrameReply.TheVariants as replies

-- the store, and the master over it while one is up
pub record Hosted : Type 0 where
  pub master : Option MasterState
  pub store : Store

abbrev pub with_master : CellState → Hosted
with_master cell = record { master = Some cell.master; store = cell.store }

abbrev pub without_master : Store → Hosted
without_master store = record { master = None; store = store }

-- what is hosted
abbrev pub hosted : {R : Type 0} → (R → Store) → HostedMaster R → Hosted
hosted store (seats.Up cell) = with_master cell
hosted store (seats.Down records) = without_master (store records)

abbrev pub cell_of : MasterState → Store → CellState
cell_of master store = record { master = master; store = store }

-- ---- when there is something to do next

-- of the master that is up its deadline, and without one none
abbrev pub IsDue : Option MasterState → Option ℕ → Type 0
IsDue None deadline = deadline ≡ None
IsDue (Some master) deadline = IsDeadline master deadline

-- ---- what a frame does

-- it is refused so, and nothing changes
abbrev pub IsTurnedAway : Hosted → FrameReply → FrameReply → Hosted → Type 0
IsTurnedAway old wanted reply new = (reply ≡ wanted) × (new ≡ old)

-- the master came up, committed its epoch, and did what there was to do
pub record CameUp (terms : MasterTerms) (now : ℕ) (old : Store) (epoch : ℕ) (settled : Settled) (new : Hosted) : Type 0 where
  pub cell : CellState
  pub came : ComesUp terms now cell.master old cell.store
  pub told : epoch ≡ cell.master.epoch
  pub after : CellState
  pub swept : Settles now cell settled after
  pub up : new ≡ with_master after

-- one comes up, or it is told why none does
abbrev pub ComesIn : MasterTerms → ℕ → Store → FrameReply → Hosted → Type 0
ComesIn terms now old (replies.Came epoch settled) new = CameUp terms now old epoch settled new
ComesIn terms now old (replies.Refused fault) new = StaysDown terms now fault old new.store × (new.master ≡ None)
ComesIn terms now old _ new = ⊥

-- a message comes to the master
abbrev pub Hears : ℕ → Request → CellState → FrameReply → Hosted → Type 0
Hears now message old (replies.Answered answered) new = (after : CellState) × Answers now message old answered after × (new ≡ with_master after)
Hears now message old _ new = ⊥

-- it sweeps until one is quiet
abbrev pub Sweeps : ℕ → CellState → FrameReply → Hosted → Type 0
Sweeps now old (replies.Swept settled) new = (after : CellState) × Settles now old settled after × (new ≡ with_master after)
Sweeps now old _ new = ⊥

-- ---- with a master, or without one

abbrev pub Arrives : MasterTerms → ℕ → Option MasterState → Store → FrameReply → Hosted → Type 0
Arrives terms now None store reply new = ComesIn terms now store reply new
Arrives terms now (Some master) store reply new = IsTurnedAway (with_master (cell_of master store)) (replies.Refused MasterUp) reply new

abbrev pub Listens : ℕ → Request → Option MasterState → Store → FrameReply → Hosted → Type 0
Listens now message None store reply new = IsTurnedAway (without_master store) (replies.Refused MasterDown) reply new
Listens now message (Some master) store reply new = Hears now message (cell_of master store) reply new

abbrev pub Ticks : ℕ → Option MasterState → Store → FrameReply → Hosted → Type 0
Ticks now None store reply new = IsTurnedAway (without_master store) (replies.Refused MasterDown) reply new
Ticks now (Some master) store reply new = Sweeps now (cell_of master store) reply new

-- the master goes, and its store stays
abbrev pub Leaves : Option MasterState → Store → FrameReply → Hosted → Type 0
Leaves None store reply new = IsTurnedAway (without_master store) (replies.Refused MasterDown) reply new
Leaves (Some master) store reply new = (reply ≡ replies.Gone) × (new ≡ without_master store)

-- it is told how the master stands; memory alone may be wanting
abbrev pub Shows : MasterStanding → FrameReply → Type 0
Shows wanted (replies.Stands standing) = standing ≡ wanted
Shows wanted (replies.Refused fault) = fault ≡ NoMemory
Shows wanted _ = ⊥

-- which changes nothing
abbrev pub Stands : Option MasterState → Store → FrameReply → Hosted → Type 0
Stands None store reply new = IsTurnedAway (without_master store) (replies.Refused MasterDown) reply new
Stands (Some master) store reply new = Shows (standing_of master) reply × (new ≡ with_master (cell_of master store))

abbrev pub DoesFrame : MasterTerms → Frame → Hosted → FrameReply → Hosted → Type 0
DoesFrame terms (frames.Up now) old reply new = Arrives terms now old.master old.store reply new
DoesFrame terms (frames.Message now message) old reply new = Listens now message old.master old.store reply new
DoesFrame terms (frames.Tick now) old reply new = Ticks now old.master old.store reply new
DoesFrame terms frames.Down old reply new = Leaves old.master old.store reply new
DoesFrame terms frames.State old reply new = Stands old.master old.store reply new

-- what was sent is a frame, and is done; or it is none, which is told, and nothing changes
abbrev pub Does : MasterTerms → Result Frame WireFault → Hosted → FrameReply → Hosted → Type 0
Does terms (Ok frame) old reply new = DoesFrame terms frame old reply new
Does terms (Err fault) old reply new = (reply ≡ replies.Bad fault) × (new ≡ old)
