-- Where what a group changes is parted: after which steps of its master each piece ends.
use Rattle.std.specs.Prelude.{◌≡◌, ◌⊎◌, ⊤, ℕ, List, [], ◌∷◌, ◌++◌, Option, Result, Ok}
use Rattle.rows_cell.specs.declared.settings.MasterTerms.{MasterTerms}
use Rattle.rows_cell.specs.declared.tables.Edit.{Edit}
use Rattle.rows_cell.specs.Stores.{Store}
use Rattle.tags_cell.specs.declared.messages.requests.Request.{Request}
use Rattle.master_parts.specs.declared.pending.Taken.{Taken}
use Rattle.cell_core.specs.Step.{take_step}
use Rattle.over_core.specs.declared.swept.Swept.{Swept}
use Rattle.over_core.specs.Kept.{CellState}
use Rattle.codec.specs.declared.faults.WireFault.{WireFault}
use Rattle.hosting.specs.declared.frames.Frame.{Frame}
use Rattle.hosting.specs.declared.frames.Frame.TheVariants as frames
use Rattle.hosting.specs.Serving.{SweepsOnce, StepsTo}
use Rattle.hosting.specs.Seats.{Hosted, with_master}
use Rattle.hosting.specs.Streams.{FrameIs, Answer, Turns}
use Rattle.hosting.specs.Pieces.{HeldPieces, joined}
use Rattle.hosting.specs.Held.{GroupState, store_behind, seen}

-- ---- the first steps of a frame

-- some sweeps were done at a moment, and the store is so then
abbrev pub SweptTo : ℕ → CellState → Store → Type 0
SweptTo now old store = (sweeps : List Swept) × (new : CellState) × StepsTo (SweepsOnce now) old sweeps new × (store ≡ new.store)

-- a message was taken and some sweeps were done, and the store is so then
abbrev pub TakenTo : ℕ → Request → CellState → Store → Type 0
TakenTo now message old store = (mid : CellState) × (taken : Taken) × (take_step old.master now message ≡ Ok (mid.master, taken)) × (mid.store ≡ old.store) × SweptTo now mid store

-- of what a frame does the first steps were done, and the store is so then
abbrev pub BeginsFrame : Result Frame WireFault → CellState → Store → Type 0
BeginsFrame (Ok (frames.Message now message)) old store = TakenTo now message old store
BeginsFrame (Ok (frames.Tick now)) old store = SweptTo now old store
BeginsFrame _ old store = ⊥

-- ---- the first steps of some frames

-- the first steps of the next frame were done
pub record BeginsNext (text : Option (List ℕ)) (old : CellState) (store : Store) : Type 0 where
  pub sent : Result Frame WireFault
  pub rest : Option (List ℕ)
  pub next : FrameIs text sent rest
  pub begun : BeginsFrame sent old store

-- some frames were done, and perhaps the first steps of the next one, and the store is so then
pub record StandsSo (terms : MasterTerms) (text : Option (List ℕ)) (old : Hosted) (store : Store) : Type 0 where
  pub cell : CellState
  pub answers : List Answer
  pub rest : Option (List ℕ)
  pub turns : Turns terms text old answers (with_master cell) rest
  pub so : (store ≡ cell.store) ⊎ BeginsNext rest cell store

-- ---- pieces

-- what a store would be, were these pieces committed
abbrev pub store_with : Store → List (List Edit) → Store
store_with store pieces = store_behind store (joined pieces)

-- pieces come after others, and this holds of each with all before it
abbrev pub EachAfter : (List (List Edit) → Type 0) → List (List Edit) → List (List Edit) → Type 0
EachAfter Holds before [] = ⊤
EachAfter Holds before (piece ∷ more) = Holds (before ++ piece ∷ []) × EachAfter Holds (before ++ piece ∷ []) more

-- pieces became full, and this holds of each with all before it
abbrev pub BecomeFull : (List (List Edit) → Type 0) → HeldPieces → HeldPieces → Type 0
BecomeFull Holds old new = (more : List (List Edit)) × (new.full ≡ old.full ++ more) × EachAfter Holds old.full more

-- what is held back was parted between sweeps
abbrev pub PartsSweeps : ℕ → GroupState → GroupState → Type 0
PartsSweeps now old new = BecomeFull (λ full. SweptTo now (seen old) (store_with old.store full)) old.held new.held

abbrev pub PartsAnswer : ℕ → Request → GroupState → GroupState → Type 0
PartsAnswer now message old new = BecomeFull (λ full. TakenTo now message (seen old) (store_with old.store full)) old.held new.held

-- between the steps of a frame
abbrev pub PartsFrame : Result Frame WireFault → GroupState → GroupState → Type 0
PartsFrame sent old new = BecomeFull (λ full. BeginsFrame sent (seen old) (store_with old.store full)) old.held new.held

-- between the steps of some frames
abbrev pub PartsFrames : MasterTerms → Option (List ℕ) → GroupState → GroupState → Type 0
PartsFrames terms text old new = BecomeFull (λ full. StandsSo terms text (with_master (seen old)) (store_with old.store full)) old.held new.held

-- whichever of the pieces are committed, from the first on, the store is as some steps of the master left it
abbrev pub ArePartedBySteps : MasterTerms → Option (List ℕ) → Hosted → List (List Edit) → Type 0
ArePartedBySteps terms text old pieces = (front back : List (List Edit)) → pieces ≡ front ++ back → StandsSo terms text old (store_with old.store front)
