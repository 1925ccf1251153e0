-- A client that a keeper keeps, among parts over a store, also where a crash leaves the rows of a commit that was refused.
use Rattle.std.specs.Prelude.{◌≡◌, ℕ, ◌≤◌, Bool, true, false, List, [], ◌∷◌, ◌++◌, map, Option, Some}
use Rattle.lease_core.specs.Lease.{longest_lease}
use Rattle.coherence.specs.Slice.{IsIn}
use Rattle.node_core.specs.declared.lines.Line.{Line}
use Rattle.node_core.specs.declared.views.View.{View}
use Rattle.node_core.specs.Nodes.{view_at}
use Rattle.rows_cell.specs.declared.settings.MasterTerms.{MasterTerms}
use Rattle.rows_cell.specs.declared.tables.Rows.{Rows}
use Rattle.rows_cell.specs.Rows.{map_of}
use Rattle.rows_cell.specs.Stores.{Store}
use Rattle.cache_core.specs.Caches.{CacheState, new_cache, answer}
use Rattle.client_core.specs.State.{ClientState}
use Rattle.world_steps.specs.declared.mail.Message.{Message}
use Rattle.share_cell.specs.Published.{EndsWith}
use Rattle.history_laws.specs.Parts.{Deed, Goes}
use Rattle.history_laws.specs.Histories.{Clocks, Entry, GoOnTo}
use Rattle.history_laws.specs.Kept.{KeptParts, KeptDeed, Others, KeeperAsks, KeeperBeats, KeeperHears, Resumes, SendsAgain, IsOfOthers, DoesKept, new_keeper}
use Rattle.history_laws.specs.Crashes.{StoredParts, nothing_over, StoredDeed, Done, SweepRefused, UpRefused, DoesStored, StoredEntry, StoredHistory, life_of, as_clocked, crashed_over, CrashedHistories, entries_then}

-- parts, one of whose clients is kept, and the store of their masters
pub record StoredKept : Type 0 where
  pub kept : KeptParts
  pub store : Store

abbrev pub parts_over : StoredKept → StoredParts
parts_over k = record { parts = k.kept.parts; store = k.store }

pub data StoredKeptDeed : Type 0 where
  -- a part does something, or is refused, and the client that is kept does nothing
  OthersDo : StoredDeed → StoredKeptDeed
  -- the keeper does something
  KeeperDoes : KeptDeed → StoredKeptDeed
  -- a crash leaves these rows
  CrashLeaves : Rows → StoredKeptDeed

abbrev pub AreOthers : ℕ → List Message → StoredDeed → Type 0
AreOthers number told (Done deed) = IsOfOthers number told deed
AreOthers number told SweepRefused = Unit {0}
AreOthers number told UpRefused = Unit {0}

abbrev pub is_keepers : KeptDeed → Bool
is_keepers (Others deed) = false
is_keepers (KeeperAsks ask) = true
is_keepers KeeperBeats = true
is_keepers (KeeperHears at) = true
is_keepers Resumes = true
is_keepers SendsAgain = true

pub record OthersDoBy (number : ℕ) (k : StoredKept) (clocks : Clocks) (deed : StoredDeed) (new : StoredKept) : Type 0 where
  pub printed : List Line
  pub over : StoredParts
  pub others : AreOthers number k.kept.parts.told deed
  pub does : DoesStored (parts_over k) clocks deed over printed
  pub left : new ≡ record { kept = record { parts = over.parts; keeper = k.kept.keeper }; store = over.store }

pub record KeeperDoesBy (number : ℕ) (k : StoredKept) (clocks : Clocks) (deed : KeptDeed) (new : StoredKept) : Type 0 where
  pub own : is_keepers deed ≡ true
  pub does : DoesKept number k.kept clocks deed new.kept
  pub store : new.store ≡ k.store

-- the keeper stays, and all that it published
pub record CrashLeavesBy (k : StoredKept) (rows : Rows) (new : StoredKept) : Type 0 where
  pub may : IsIn rows k.store.may_leave
  pub left : new ≡ record { kept = record { parts = (crashed_over (parts_over k) rows).parts; keeper = k.kept.keeper }; store = (crashed_over (parts_over k) rows).store }

abbrev pub DoesStoredKept : ℕ → StoredKept → Clocks → StoredKeptDeed → StoredKept → Type 0
DoesStoredKept number k clocks (OthersDo deed) new = OthersDoBy number k clocks deed new
DoesStoredKept number k clocks (KeeperDoes deed) new = KeeperDoesBy number k clocks deed new
DoesStoredKept number k clocks (CrashLeaves rows) new = CrashLeavesBy k rows new

pub record StoredKeptEntry : Type 0 where
  pub clocks : Clocks
  pub deed : StoredKeptDeed

-- in the order of true time
abbrev pub StoredKeptHistory : ℕ → StoredKept → List StoredKeptEntry → StoredKept → Type 0
StoredKeptHistory number old [] new = new ≡ old
StoredKeptHistory number old (entry ∷ entries) new = (mid : StoredKept) × DoesStoredKept number old entry.clocks entry.deed mid × StoredKeptHistory number mid entries new

-- clocks go on by what happens as by deeds, of which those of the keeper, and crashes, begin no master's life
abbrev pub life_beside : StoredKeptDeed → Deed
life_beside (OthersDo deed) = life_of deed
life_beside (KeeperDoes deed) = Goes
life_beside (CrashLeaves rows) = Goes

abbrev pub as_beside : StoredKeptEntry → Entry
as_beside entry = record { clocks = entry.clocks; deed = life_beside entry.deed }

-- Whatever the view that was published last would answer, at any moment by the client's clock, is what the rows hold of that name then: whatever was refused, whichever rows crashes left, and also
-- while the keeper is late
abbrev pub ViewsAnswerWhatCrashesLeave : Type 0
ViewsAnswerWhatCrashesLeave =
    (store : Store) (terms : MasterTerms) (histories : List (List StoredEntry)) (printed : List (List Line)) (begun : StoredParts) (entries : List StoredEntry) (told : List Line) (here : StoredParts)
    (number : ℕ) (client : ClientState) (kept : List StoredKeptEntry) (end : StoredKept) (now : Clocks) (shown : CacheState) (name : List ℕ) (entry : Option View)
    → terms.lease ≤ longest_lease
    → CrashedHistories (nothing_over store terms) histories printed begun → StoredHistory begun entries told here → here.parts.clients number ≡ Some client → client.cache ≡ new_cache
    → StoredKeptHistory number (record { kept = record { parts = here.parts; keeper = new_keeper client }; store = here.store }) kept end
    → GoOnTo (entries_then histories (map as_clocked entries) ++ map as_beside kept) now → end.store.doubt ≡ 0
    → EndsWith end.kept.keeper.views shown → answer shown (now.client number) name ≡ Some entry → entry ≡ view_at (map_of end.kept.parts.rows) name
