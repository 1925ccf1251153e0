-- Histories over a store that may refuse what it is to commit, with crashes between them, each of which leaves some of the rows that the store may leave.
use Rattle.std.specs.Prelude.{◌≡◌, ◌≢◌, ◌⊎◌, ℕ, ◌≤◌, Bool, false, List, [], ◌∷◌, ◌++◌, map, Option, Some, None, Err}
use Rattle.std.specs.Option.{option_map_or}
use Rattle.lease_core.specs.Lease.{longest_lease}
use Rattle.coherence.specs.Slice.{IsIn}
use Rattle.node_core.specs.declared.lines.Line.{Line}
use Rattle.node_core.specs.declared.lines.Line.TheVariants as lines
use Rattle.node_core.specs.declared.refusals.Fault.{Fault}
use Rattle.node_core.specs.declared.refusals.Fault.TheVariants as faults
use Rattle.node_core.specs.declared.views.View.{View}
use Rattle.node_core.specs.Nodes.{view_at}
use Rattle.rows_cell.specs.declared.settings.MasterTerms.{MasterTerms}
use Rattle.rows_cell.specs.declared.tables.Rows.{Rows}
use Rattle.rows_cell.specs.declared.tables.Edit.{Edit}
use Rattle.rows_cell.specs.Rows.{changed_rows, map_of}
use Rattle.rows_cell.specs.Stores.{Store}
use Rattle.cache_core.specs.Caches.{answer}
use Rattle.client_core.specs.State.{ClientState}
use Rattle.master_state.specs.State.{MasterState}
use Rattle.over_core.specs.Sweep.{sweep_step, sweep_edits, sweep_frees, IsSwept, IsHeldUp}
use Rattle.over_core.specs.Up.{up_edits, StaysDown}
use Rattle.world_steps.specs.declared.steps.Step.{Step}
use Rattle.world_steps.specs.World.{WorldView, opened}
use Rattle.world_cell.specs.Crashes.{CrashedRuns}
use Rattle.world_cell.specs.RunLaws.{HoldsOfRun}
use Rattle.world_cell.specs.Runs.{AnyRun, Run}
use Rattle.world_cell.specs.Served.{ServesPresent}
use Rattle.history_laws.specs.Parts.{Parts, nothing_yet, Deed, ComesUp, FallsComingUp, Sweeps, FallsSweeping, Goes}
use Rattle.history_laws.specs.Histories.{Clocks, Entry, Does, AreFair}
use Rattle.history_laws.specs.Laws.{HoldsParts, ShowsClocks}

-- parts, and the store of their masters. Its may_leave are the rows that a crash may leave: those that stand, and those of commits that it refused since one stood
pub record StoredParts : Type 0 where
  pub parts : Parts
  pub store : Store

-- no master was up yet over this store, no client has begun, nothing was told
abbrev pub nothing_over : Store → MasterTerms → StoredParts
nothing_over store terms = record { parts = nothing_yet store.cell store.rows terms; store = store }

-- ---- what is committed

-- by a deed: a master that comes up commits its epoch, and a sweep the change whose turn it is
abbrev pub deed_edits : Parts → ℕ → Deed → List Edit
deed_edits p now ComesUp = up_edits p.rows
deed_edits p now FallsComingUp = up_edits p.rows
deed_edits p now Sweeps = option_map_or (λ master. sweep_edits master now) p.master []
deed_edits p now FallsSweeping = option_map_or (λ master. sweep_edits master now) p.master []
deed_edits p now _ = []

-- whether a change leaves the gate by it: then what was refused before is decided
abbrev pub deed_frees : Parts → ℕ → Deed → Bool
deed_frees p now Sweeps = option_map_or (λ master. sweep_frees master now) p.master false
deed_frees p now FallsSweeping = option_map_or (λ master. sweep_frees master now) p.master false
deed_frees p now _ = false

-- ---- deeds over a store

pub data StoredDeed : Type 0 where
  -- a deed is done, and what it commits stands
  Done : Deed → StoredDeed
  -- the master would sweep, and is refused: so may its store, which then may leave those rows after a crash. It stays up
  SweepRefused : StoredDeed
  -- one would come up, and is refused in the same way
  UpRefused : StoredDeed

-- the store does what the master's contract says
pub record DoneBy (o : StoredParts) (clocks : Clocks) (deed : Deed) (new : StoredParts) (printed : List Line) : Type 0 where
  pub does : Does o.parts clocks deed new.parts printed
  pub stands : IsSwept (deed_frees o.parts clocks.master deed) (deed_edits o.parts clocks.master deed) o.store new.store

-- as the contract of its sweep says it
pub record SweepRefusedBy (o : StoredParts) (now : ℕ) (new : StoredParts) (printed : List Line) : Type 0 where
  pub master : MasterState
  pub fault : Fault
  pub store : Store
  pub up : o.parts.master ≡ Some master
  pub why : ((sweep_step master now ≡ Err fault) × (store ≡ o.store)) ⊎ IsHeldUp fault (sweep_frees master now) (sweep_edits master now) o.store store
  pub left : new ≡ record o { store = store }
  pub prints : printed ≡ lines.Refused fault ∷ []

-- as the contract of what brings it up says it
pub record UpRefusedBy (o : StoredParts) (now : ℕ) (new : StoredParts) (printed : List Line) : Type 0 where
  pub fault : Fault
  pub store : Store
  pub none : o.parts.master ≡ None
  pub why : StaysDown o.parts.terms now fault o.store store
  pub left : new ≡ record o { store = store }
  pub prints : printed ≡ lines.Refused fault ∷ []

abbrev pub DoesStored : StoredParts → Clocks → StoredDeed → StoredParts → List Line → Type 0
DoesStored o clocks (Done deed) new printed = DoneBy o clocks deed new printed
DoesStored o clocks SweepRefused new printed = SweepRefusedBy o clocks.master new printed
DoesStored o clocks UpRefused new printed = UpRefusedBy o clocks.master new printed

pub record StoredEntry : Type 0 where
  pub clocks : Clocks
  pub deed : StoredDeed

-- in the order of true time, with all lines that they print
abbrev pub StoredHistory : StoredParts → List StoredEntry → List Line → StoredParts → Type 0
StoredHistory old [] printed new = (printed ≡ []) × (new ≡ old)
StoredHistory old (entry ∷ entries) printed new =
    (mid : StoredParts) × (here : List Line) × (rest : List Line) × DoesStored old entry.clocks entry.deed mid here × StoredHistory mid entries rest new × (printed ≡ here ++ rest)

-- clocks go on by them as by deeds: a sweep that is refused begins no life, and a master that doesn't come up had a clock of its own
abbrev pub life_of : StoredDeed → Deed
life_of (Done deed) = deed
life_of SweepRefused = Goes
life_of UpRefused = FallsComingUp

abbrev pub as_clocked : StoredEntry → Entry
as_clocked entry = record { clocks = entry.clocks; deed = life_of entry.deed }

-- ---- crashes

-- after one that leaves these rows: no master is up, they stand, and nothing else may be left. Clients, and what was told, stay
abbrev pub crashed_over : StoredParts → Rows → StoredParts
crashed_over o rows = record { parts = record o.parts { rows = rows; master = None }; store = record o.store { rows = rows; may_leave = rows ∷ [] } }

-- histories one after the other, with a crash after each, which leaves some of the rows that it may
abbrev pub CrashedHistories : StoredParts → List (List StoredEntry) → List (List Line) → StoredParts → Type 0
CrashedHistories old [] printed new = (printed ≡ []) × (new ≡ old)
CrashedHistories old (entries ∷ others) printed new =
    (mid : StoredParts) × (here : List Line) × (rest : List (List Line)) × (rows : Rows) × StoredHistory old entries here mid × IsIn rows mid.store.may_leave × CrashedHistories (crashed_over mid rows) others rest new × (printed ≡ here ∷ rest)

-- all entries of these histories, and then others
abbrev pub entries_then : List (List StoredEntry) → List Entry → List Entry
entries_then [] rest = rest
entries_then (entries ∷ others) rest = map as_clocked entries ++ entries_then others rest

-- whatever a master would commit by a sweep, its store may refuse; the master stays up and goes on, and a crash may leave those rows all the same
abbrev pub RefusedRowsMayStand : Type 0
RefusedRowsMayStand =
    (o : StoredParts) (clocks : Clocks) (master : MasterState)
    → o.parts.master ≡ Some master → sweep_edits master clocks.master ≢ []
    → (store : Store) × DoesStored o clocks SweepRefused (record o { store = store }) (lines.Refused faults.StoreRefused ∷ []) × IsIn (changed_rows o.store.rows (sweep_edits master clocks.master)) store.may_leave

-- ---- they are what a world does

-- a world holds what the parts hold, and a crash may leave the same of both
pub record HoldsStored (w : WorldView) (o : StoredParts) : Type 0 where
  pub parts : HoldsParts w o.parts
  pub leave : w.may_leave ≡ o.store.may_leave

-- as GoesAlong says it of a history
abbrev pub GoesAlongStored : (w : WorldView) (steps : List Step) (new : WorldView) (o : StoredParts) (entries : List StoredEntry) (printed : List Line) (end : StoredParts) → StoredHistory o entries printed end → Type 0
GoesAlongStored w steps new o [] printed end h = HoldsStored w o × (steps ≡ []) × (new ≡ w)
GoesAlongStored w steps new o (entry ∷ entries) printed end h =
    HoldsStored w o × (here : List Step) × (later : List Step) × (mid : WorldView) × (steps ≡ here ++ later) × Run w here h.1 mid × ShowsClocks mid.world entry.clocks × GoesAlongStored mid later new h.0 entries h.2 end h.4

-- runs of a world over the store, with crashes between them, print the same lines, and lead to one that holds what the last crash left of the parts; from there on a run goes along with what happens since
pub record IsBehindCrashes (store : Store) (terms : MasterTerms) (printed : List (List Line)) (begun : StoredParts) (entries : List StoredEntry) (told : List Line) (end : StoredParts) (h : StoredHistory begun entries told end) : Type 0 where
  pub runs : List (List Step)
  pub here : WorldView
  pub crashed : CrashedRuns (opened store terms) runs printed here
  pub begins : HoldsStored here begun
  pub steps : List Step
  pub new : WorldView
  pub run : AnyRun here steps told new
  pub holds : HoldsStored new end
  pub along : GoesAlongStored here steps new begun entries told end h

-- histories with crashes between them, and what happens since the last one, are such runs, if nobody else writes the store
abbrev pub CrashedHistoriesAreRuns : Type 0
CrashedHistoriesAreRuns =
    (store : Store) (terms : MasterTerms) (histories : List (List StoredEntry)) (printed : List (List Line)) (begun : StoredParts) (entries : List StoredEntry) (told : List Line) (end : StoredParts)
    → CrashedHistories (nothing_over store terms) histories printed begun → (h : StoredHistory begun entries told end) → AreFair (entries_then histories (map as_clocked entries)) → end.store.doubt ≡ 0
    → IsBehindCrashes store terms printed begun entries told end h

-- so all that holds of runs holds after each crash, whichever rows it left
abbrev pub CrashedHistoriesHold : Type 0
CrashedHistoriesHold =
    (store : Store) (terms : MasterTerms) (histories : List (List StoredEntry)) (printed : List (List Line)) (begun : StoredParts) (entries : List StoredEntry) (told : List Line) (end : StoredParts)
    → terms.lease ≤ longest_lease
    → CrashedHistories (nothing_over store terms) histories printed begun → (h : StoredHistory begun entries told end) → AreFair (entries_then histories (map as_clocked entries)) → end.store.doubt ≡ 0
    → (is : IsBehindCrashes store terms printed begun entries told end h) × HoldsOfRun is.here is.steps told is.new

-- ---- caches

-- whatever a client serves from its cache is what the rows hold of that name then, whatever was refused before, and whichever rows crashes left
abbrev pub CachesShowWhatCrashesLeave : Type 0
CachesShowWhatCrashesLeave =
    (store : Store) (terms : MasterTerms) (histories : List (List StoredEntry)) (printed : List (List Line)) (begun : StoredParts) (entries : List StoredEntry) (before : List Line) (here new : StoredParts) (last : StoredEntry) (told : List Line)
    → terms.lease ≤ longest_lease
    → CrashedHistories (nothing_over store terms) histories printed begun → StoredHistory begun entries before here → DoesStored here last.clocks last.deed new told
    → AreFair (entries_then histories (map as_clocked entries ++ as_clocked last ∷ [])) → new.store.doubt ≡ 0
    → ServesPresent (map_of new.parts.rows) told

-- and so is whatever its cache would answer, at any moment by the client's clock
abbrev pub CachesAnswerWhatCrashesLeave : Type 0
CachesAnswerWhatCrashesLeave =
    (store : Store) (terms : MasterTerms) (histories : List (List StoredEntry)) (printed : List (List Line)) (begun : StoredParts) (entries : List StoredEntry) (before : List Line) (here : StoredParts)
    (now : Clocks) (number : ℕ) (client : ClientState) (name : List ℕ) (entry : Option View)
    → terms.lease ≤ longest_lease
    → CrashedHistories (nothing_over store terms) histories printed begun → StoredHistory begun entries before here
    → AreFair (entries_then histories (map as_clocked entries ++ record { clocks = now; deed = Goes } ∷ [])) → here.store.doubt ≡ 0
    → here.parts.clients number ≡ Some client → answer client.cache (now.client number) name ≡ Some entry → entry ≡ view_at (map_of here.parts.rows) name
