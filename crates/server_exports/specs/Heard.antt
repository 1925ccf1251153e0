-- What a master tells, by its parts.
use Rattle.std.specs.Prelude.{ℕ, ◌+◌, List, [], length, Option, Some, None, Result, Ok, Err}
use Rattle.node_core.specs.declared.kinds.Kind.TheVariants as kinds
use Rattle.node_core.specs.declared.views.Mod.{Mod}
use Rattle.node_core.specs.declared.views.Mod.TheVariants as mods
use Rattle.node_core.specs.declared.lines.Line.{Line}
use Rattle.node_core.specs.declared.lines.Line.TheVariants as lines
use Rattle.node_core.specs.Refusals.{fault_number}
use Rattle.node_core.specs.Texts.{line_text}
use Rattle.codec.specs.declared.faults.WireFault.{WireFault}
use Rattle.codec.specs.declared.faults.WireFault.TheVariants.{BadKind}
use Rattle.codec.specs.Forms.{◌>>=◌, read_whole}
use Rattle.codec.specs.Fields.{kind_place, life_place, lock_mode_place}
use Rattle.codec.specs.Lines.{line_kind, line_place, mod_kind, mod_place}
use Rattle.hosting.specs.declared.standing.MasterCounts.{MasterCounts}
use Rattle.hosting.specs.declared.tellings.MasterFrame.{MasterFrame}
use Rattle.hosting.specs.declared.tellings.MasterFrame.TheVariants as tells
use Rattle.hosting.specs.Told.{told, told_kind, told_place, fault_place}
use Rattle.server_exports.specs.declared.said.Said.{Said}
use Rattle.server_exports.specs.declared.heard.Heard.{Heard}
use Rattle.server_exports.specs.Said.{said_parts}

-- no message
abbrev pub nothing_said : Said
nothing_said = record { what = 0; fault = 0; client = 0; epoch = 0; number = 0; span = 0; brings = 0 }

-- of this kind, and nothing else
abbrev pub bare : ℕ → ℕ → Heard
bare what line = record {
  what = what;
  line = line;
  change = 0;
  kind = 0;
  life = 0;
  mode = 0;
  fault = 0;
  is_timed = 0;
  client = 0;
  call = 0;
  number = 0;
  instance = 0;
  generation = 0;
  length = 0;
  moment = 0;
  epoch = 0;
  sessions = 0;
  nodes = 0;
  rights = 0;
  changes = 0;
  name_length = 0;
  said = nothing_said;
}

-- what is told: one above the byte of its kind
abbrev pub told_number : MasterFrame → ℕ
told_number given = told_place (told_kind given) + 1

-- which line it is: one above the byte of its kind
abbrev pub line_number : Line → ℕ
line_number printed = line_place (line_kind printed) + 1

-- a line of this kind, and nothing else
abbrev pub bare_line : Line → Heard
bare_line printed = bare (told_number (tells.Line printed)) (line_number printed)

-- what a change says of a node that is put
abbrev pub changed : Heard → Mod → Heard
changed heard (mods.Put name node) = record heard {
  change = mod_place (mod_kind (mods.Put name node)) + 1;
  kind = kind_place node.kind;
  life = life_place node.life;
  instance = node.instance;
  generation = node.content_generation;
  length = length node.content;
  name_length = length name;
}
changed heard (mods.Gone name) = record heard { change = mod_place (mod_kind (mods.Gone name)) + 1; name_length = length name }

-- a line that only a client prints is told of by its kind alone
abbrev pub line_parts : Line → Heard
line_parts (lines.Up epoch) = record (bare_line (lines.Up epoch)) { epoch = epoch }
line_parts lines.Down = bare_line lines.Down
line_parts lines.Recovered = bare_line lines.Recovered
line_parts (lines.Started client) = record (bare_line (lines.Started client)) { client = client }
line_parts (lines.Ended client) = record (bare_line (lines.Ended client)) { client = client }
line_parts (lines.Applied client call change names) = changed (record (bare_line (lines.Applied client call change names)) { client = client; call = call }) change
line_parts (lines.Granted right client name) = record (bare_line (lines.Granted right client name)) { number = right; client = client; name_length = length name }
line_parts (lines.Acked right) = record (bare_line (lines.Acked right)) { number = right }
line_parts (lines.Expired right) = record (bare_line (lines.Expired right)) { number = right }
line_parts (lines.Locked client instance mode generation) =
    record (bare_line (lines.Locked client instance mode generation)) { client = client; instance = instance; mode = lock_mode_place mode; generation = generation }
line_parts (lines.Freed client instance) = record (bare_line (lines.Freed client instance)) { client = client; instance = instance }
line_parts (lines.Lapsed client instance) = record (bare_line (lines.Lapsed client instance)) { client = client; instance = instance }
line_parts (lines.Reopened instance) = record (bare_line (lines.Reopened instance)) { instance = instance }
line_parts (lines.Refused why) = record (bare_line (lines.Refused why)) { fault = fault_number why }
line_parts printed = bare_line printed

abbrev pub mark_parts : ℕ → Option ℕ → Heard
mark_parts what None = bare what 0
mark_parts what (Some moment) = record (bare what 0) { is_timed = 1; moment = moment }

abbrev pub count_parts : ℕ → MasterCounts → Heard
count_parts what counts = record (bare what 0) { epoch = counts.epoch; sessions = counts.sessions; nodes = counts.nodes; rights = counts.rights; changes = counts.changes }

abbrev pub heard_parts : MasterFrame → Heard
heard_parts (tells.Line printed) = line_parts printed
heard_parts (tells.Message client message) = record (bare (told_number (tells.Message client message)) 0) { client = client; said = said_parts message }
heard_parts (tells.Bad fault) = record (bare (told_number (tells.Bad fault)) 0) { fault = fault_place fault }
heard_parts (tells.End deadline) = mark_parts (told_number (tells.End deadline)) deadline
heard_parts (tells.Counts counts) = count_parts (told_number (tells.Counts counts)) counts
heard_parts (tells.Recovers until) = record (bare (told_number (tells.Recovers until)) 0) { moment = until }
heard_parts (tells.Waits number) = record (bare (told_number (tells.Waits number)) 0) { number = number }
heard_parts (tells.Touches name) = record (bare (told_number (tells.Touches name)) 0) { name_length = length name }
heard_parts (tells.Awaited client) = record (bare (told_number (tells.Awaited client)) 0) { client = client }

-- ---- names

abbrev pub changed_name : Mod → List ℕ
changed_name (mods.Put name node) = name
changed_name (mods.Gone name) = name

abbrev pub line_name : Line → List ℕ
line_name (lines.Applied client call change names) = changed_name change
line_name (lines.Granted right client name) = name
line_name printed = []

abbrev pub heard_name : MasterFrame → List ℕ
heard_name (tells.Line printed) = line_name printed
heard_name (tells.Touches name) = name
heard_name given = []

-- ---- texts

-- a line as it is printed; nothing else has a text
abbrev pub told_text : MasterFrame → Result (List ℕ) WireFault
told_text (tells.Line printed) = Ok (line_text printed)
told_text given = Err BadKind

abbrev pub block_text : List ℕ → Result (List ℕ) WireFault
block_text block = read_whole told block >>= told_text
