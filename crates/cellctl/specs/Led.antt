-- What leads from one store to another.
use Rattle.std.specs.Prelude.{◌≡◌, ◌⊎◌, ℕ, List, Option, Result, Ok, Err}
use Rattle.rows_cell.specs.declared.settings.MasterTerms.{MasterTerms}
use Rattle.rows_cell.specs.Stores.{Store}
use Rattle.world_steps.specs.World.{WorldView, opened, store_in}
use Rattle.scripts.specs.Ran.{EndsWith, EndsWell, EndsSurely}
use Rattle.hosting.specs.declared.stops.StreamStop.TheVariants as stops
use Rattle.hosting.specs.declared.stops.GroupStop.{GroupStop}
use Rattle.hosting.specs.declared.stops.GroupStop.TheVariants.{Stopped, Refused}
use Rattle.hosting.specs.Seats.{Hosted, without_master}
use Rattle.hosting.specs.Groups.{EndsGroups}
use Rattle.hosting.specs.declared.pieces.GroupLimits.{GroupLimits}
use Rattle.hosting.specs.declared.pieces.GroupTerms.{GroupTerms}
use Rattle.rows_cell.specs.Settings.{Settled, terms_of}
use Rattle.cellctl.specs.Exits.{IsUnset, IsShut}
use Rattle.cellctl.specs.Taken.{IsLease}

-- bytes that are left in a stream, or that one holds, where they are known
abbrev pub Known : Type 0
Known = Option (List ℕ)

-- ---- a script

-- with this status a script ended on a new world over a store, which is what it left of it: the laws of runs hold, where nothing
-- is in doubt
abbrev pub ScriptLeads : MasterTerms → Known → Known → Known → ℕ → Store → Store → Type 0
ScriptLeads terms text before after status first last =
    (new : WorldView) × EndsWith status (EndsWell text (opened first terms) new) before after × (last ≡ store_in new)

-- the same where nothing is in doubt: they hold
abbrev pub ScriptLeadsSurely : MasterTerms → Known → Known → Known → ℕ → Store → Store → Type 0
ScriptLeadsSurely terms text before after status first last =
    (new : WorldView) × EndsWith status (EndsSurely text (opened first terms) new) before after × (last ≡ store_in new)

-- ---- frames

-- 0 after the last frame; 1 where frames can't be read or their answers can't be written; 4 where memory ran out; 3 where the
-- store refused what a group of them changed
abbrev pub served_status : Result (Unit {0}) GroupStop → ℕ
served_status (Ok x) = 0
served_status (Err (Stopped stops.Unread)) = 1
served_status (Err (Stopped stops.Unwritten)) = 1
served_status (Err (Stopped stops.NoMemory)) = 4
served_status (Err (Refused fault)) = 3

-- with this status the frames of a text were served over what was hosted
abbrev pub EndsServing : GroupTerms → Known → Known → Known → ℕ → Hosted → Hosted → Type 0
EndsServing terms text before after status old new =
    (ended : Result (Unit {0}) GroupStop) × (status ≡ served_status ended) × EndsGroups terms text old ended new before after

-- the same over a store with no master, and what they left of it
abbrev pub FramesLead : GroupTerms → Known → Known → Known → ℕ → Store → Store → Type 0
FramesLead terms text before after status first last = (new : Hosted) × EndsServing terms text before after status (without_master first) new × (last ≡ new.store)

-- ---- what a command comes to that is given all of an input, and an output

-- from a store with which it may begin it led to some other
abbrev pub LedOn : (Store → Type 0) → (Store → Store → Type 0) → Type 0
LedOn Begins Leads = (first : Store) × (last : Store) × Begins first × Leads first last

-- with this status it ended as what was to be done did; or its store couldn't be closed after that, or it was shut and nothing was
-- done, nor written
abbrev pub EndsLed : (Store → Type 0) → (ℕ → Store → Store → Type 0) → ℕ → Known → Known → Type 0
EndsLed Begins Leads status before after = LedOn Begins (Leads status) ⊎ (IsShut status × (((done : ℕ) × LedOn Begins (Leads done)) ⊎ (after ≡ before)))

-- a script was run so, and frames were served so
abbrev pub EndsScript : (Store → Type 0) → MasterTerms → Known → ℕ → Known → Known → Type 0
EndsScript Begins terms text status before after = EndsLed Begins (ScriptLeads terms text before after) status before after

abbrev pub EndsFrames : (Store → Type 0) → GroupTerms → Known → ℕ → Known → Known → Type 0
EndsFrames Begins terms text status before after = EndsLed Begins (FramesLead terms text before after) status before after

-- frames are served so with these settings, and these limits of what is committed as one change
abbrev pub group_terms : GroupLimits → Settled → GroupTerms
group_terms limits settings = record { master = terms_of settings; limits = limits }

-- with the settings of a file they were; or these are none, and nothing was written
abbrev pub EndsAnyFrames : (Settled → Store → Type 0) → GroupLimits → Known → ℕ → Known → Known → Type 0
EndsAnyFrames Begins limits text status before after =
    ((settings : Settled) × IsLease settings.lease × EndsFrames (Begins settings) (group_terms limits settings) text status before after) ⊎ (IsUnset status × (after ≡ before))

-- the same with whatever limits
abbrev pub EndsSomeFrames : (Settled → Store → Type 0) → Known → ℕ → Known → Known → Type 0
EndsSomeFrames Begins text status before after = (limits : GroupLimits) × EndsAnyFrames Begins limits text status before after
