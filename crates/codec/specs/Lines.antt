-- The forms of the lines that are printed.
use Rattle.std.specs.Prelude.{ℕ, List, [], ◌∷◌, Option, Result}
use Rattle.node_core.specs.declared.kinds.LockMode.{LockMode}
use Rattle.node_core.specs.declared.nodes.Node.{Node}
use Rattle.node_core.specs.declared.views.View.{View}
use Rattle.node_core.specs.declared.views.Mod.{Mod}
use Rattle.node_core.specs.declared.views.Mod.TheVariants as mods
use Rattle.node_core.specs.declared.events.Event.{Event}
use Rattle.node_core.specs.declared.answers.Answer.{Answer}
use Rattle.node_core.specs.declared.answers.Answer.TheVariants as answers
use Rattle.node_core.specs.declared.lines.Line.{Line}
use Rattle.node_core.specs.declared.lines.Line.TheVariants as lines
use Rattle.codec.specs.declared.faults.WireFault.{WireFault}
use Rattle.codec.specs.declared.kinds.ModKind.{ModKind}
use Rattle.codec.specs.declared.kinds.ModKind.TheVariants as mod_of
use Rattle.codec.specs.declared.kinds.AnswerKind.{AnswerKind}
use Rattle.codec.specs.declared.kinds.AnswerKind.TheVariants as answer_of
use Rattle.codec.specs.declared.kinds.LineKind.{LineKind}
use Rattle.codec.specs.declared.kinds.LineKind.TheVariants as of
use Rattle.codec.specs.Forms.{Form, nothing, ◌⊗◌, made, choice, of_kind, behind, optional}
use Rattle.codec.specs.Fields.{word, block, name, lock_mode}
use Rattle.codec.specs.Faults.{fault}
use Rattle.codec.specs.Beats.{event}
use Rattle.codec.specs.Outs.{node, stat, components}

-- ---- changes of the map

-- a name, and the node that is there from now on
abbrev pub put_fields : Form (List ℕ × Node)
put_fields = name ⊗ node

abbrev pub all_mods : List ModKind
all_mods = mod_of.Put ∷ mod_of.Gone ∷ []

abbrev pub mod_place : ModKind → ℕ
mod_place mod_of.Put = 0
mod_place mod_of.Gone = 1

abbrev pub mod_kind : Mod → ModKind
mod_kind (mods.Put at there) = mod_of.Put
mod_kind (mods.Gone at) = mod_of.Gone

abbrev pub mod_is : Mod → Type 0
mod_is (mods.Put at there) = put_fields.is (at, there)
mod_is (mods.Gone at) = name.is at

abbrev pub mod_bytes : Mod → List ℕ
mod_bytes (mods.Put at there) = put_fields.write (at, there)
mod_bytes (mods.Gone at) = name.write at

abbrev pub mod_behind : ModKind → List ℕ → Result (Mod × List ℕ) WireFault
mod_behind mod_of.Put rest = behind (λ x. mods.Put x.0 x.1) put_fields rest
mod_behind mod_of.Gone rest = behind mods.Gone name rest

-- the kind of a change, and its fields
unfoldable pub change : Form Mod
change = of_kind (choice all_mods mod_place) mod_kind mod_is mod_bytes mod_behind

-- ---- how a call ended

-- a node and the names that are listed of it, whatever it is
unfoldable pub seen : Form View
seen = made (λ x. record { node = x.0; children = x.1 }) (λ v. (v.node, v.children)) (node ⊗ components)

unfoldable pub optional_seen : Form (Option View)
optional_seen = optional seen

abbrev pub all_answers : List AnswerKind
all_answers =
    answer_of.Opened ∷ answer_of.Closed ∷ answer_of.Poisoned ∷ answer_of.Viewed ∷ answer_of.Stated ∷ answer_of.Names ∷ answer_of.Sequencer ∷ answer_of.Okay
    ∷ answer_of.Refused ∷ []

abbrev pub answer_place : AnswerKind → ℕ
answer_place answer_of.Opened = 0
answer_place answer_of.Closed = 1
answer_place answer_of.Poisoned = 2
answer_place answer_of.Viewed = 3
answer_place answer_of.Stated = 4
answer_place answer_of.Names = 5
answer_place answer_of.Sequencer = 6
answer_place answer_of.Okay = 7
answer_place answer_of.Refused = 8

abbrev pub answer_kind : Answer → AnswerKind
answer_kind (answers.Opened handle) = answer_of.Opened
answer_kind answers.Closed = answer_of.Closed
answer_kind answers.Poisoned = answer_of.Poisoned
answer_kind (answers.Viewed view) = answer_of.Viewed
answer_kind (answers.Stated told) = answer_of.Stated
answer_kind (answers.Names names) = answer_of.Names
answer_kind (answers.Sequencer bytes) = answer_of.Sequencer
answer_kind answers.Okay = answer_of.Okay
answer_kind (answers.Refused why) = answer_of.Refused

abbrev pub answer_is : Answer → Type 0
answer_is (answers.Opened handle) = word.is handle
answer_is answers.Closed = nothing.is tt
answer_is answers.Poisoned = nothing.is tt
answer_is (answers.Viewed view) = seen.is view
answer_is (answers.Stated told) = stat.is told
answer_is (answers.Names names) = components.is names
answer_is (answers.Sequencer bytes) = block.is bytes
answer_is answers.Okay = nothing.is tt
answer_is (answers.Refused why) = fault.is why

abbrev pub answer_bytes : Answer → List ℕ
answer_bytes (answers.Opened handle) = word.write handle
answer_bytes answers.Closed = nothing.write tt
answer_bytes answers.Poisoned = nothing.write tt
answer_bytes (answers.Viewed view) = seen.write view
answer_bytes (answers.Stated told) = stat.write told
answer_bytes (answers.Names names) = components.write names
answer_bytes (answers.Sequencer bytes) = block.write bytes
answer_bytes answers.Okay = nothing.write tt
answer_bytes (answers.Refused why) = fault.write why

abbrev pub answer_behind : AnswerKind → List ℕ → Result (Answer × List ℕ) WireFault
answer_behind answer_of.Opened rest = behind answers.Opened word rest
answer_behind answer_of.Closed rest = behind (λ _. answers.Closed) nothing rest
answer_behind answer_of.Poisoned rest = behind (λ _. answers.Poisoned) nothing rest
answer_behind answer_of.Viewed rest = behind answers.Viewed seen rest
answer_behind answer_of.Stated rest = behind answers.Stated stat rest
answer_behind answer_of.Names rest = behind answers.Names components rest
answer_behind answer_of.Sequencer rest = behind answers.Sequencer block rest
answer_behind answer_of.Okay rest = behind (λ _. answers.Okay) nothing rest
answer_behind answer_of.Refused rest = behind answers.Refused fault rest

-- the kind of an answer, and what it gives
unfoldable pub answer : Form Answer
answer = of_kind (choice all_answers answer_place) answer_kind answer_is answer_bytes answer_behind

-- ---- lines

-- client, number of the call, change, and the names that are listed of what is put
abbrev pub applied_fields : Form (ℕ × (ℕ × (Mod × List (List ℕ))))
applied_fields = word ⊗ word ⊗ change ⊗ components

-- right, client and name
abbrev pub granted_fields : Form (ℕ × (ℕ × List ℕ))
granted_fields = word ⊗ word ⊗ name

-- client, instance, mode and generation
abbrev pub locked_fields : Form (ℕ × (ℕ × (LockMode × ℕ)))
locked_fields = word ⊗ word ⊗ lock_mode ⊗ word

-- client and instance
abbrev pub two_words : Form (ℕ × ℕ)
two_words = word ⊗ word

-- client, name, and what is there
abbrev pub served_fields : Form (ℕ × (List ℕ × Option View))
served_fields = word ⊗ name ⊗ optional_seen

-- client, number of the call, and answer
abbrev pub done_fields : Form (ℕ × (ℕ × Answer))
done_fields = word ⊗ word ⊗ answer

-- client and event
abbrev pub told_fields : Form (ℕ × Event)
told_fields = word ⊗ event

abbrev pub all_lines : List LineKind
all_lines =
    of.Up ∷ of.Down ∷ of.Recovered ∷ of.Started ∷ of.Ended ∷ of.Applied ∷ of.Granted ∷ of.Acked ∷ of.Expired ∷ of.Locked
    ∷ of.Freed ∷ of.Lapsed ∷ of.Reopened ∷ of.Served ∷ of.Done ∷ of.Told ∷ of.Jeopardy ∷ of.Safe ∷ of.Lost ∷ of.Refused ∷ []

abbrev pub line_place : LineKind → ℕ
line_place of.Up = 0
line_place of.Down = 1
line_place of.Recovered = 2
line_place of.Started = 3
line_place of.Ended = 4
line_place of.Applied = 5
line_place of.Granted = 6
line_place of.Acked = 7
line_place of.Expired = 8
line_place of.Locked = 9
line_place of.Freed = 10
line_place of.Lapsed = 11
line_place of.Reopened = 12
line_place of.Served = 13
line_place of.Done = 14
line_place of.Told = 15
line_place of.Jeopardy = 16
line_place of.Safe = 17
line_place of.Lost = 18
line_place of.Refused = 19

abbrev pub line_kind : Line → LineKind
line_kind (lines.Up epoch) = of.Up
line_kind lines.Down = of.Down
line_kind lines.Recovered = of.Recovered
line_kind (lines.Started client) = of.Started
line_kind (lines.Ended client) = of.Ended
line_kind (lines.Applied client call made names) = of.Applied
line_kind (lines.Granted right client at) = of.Granted
line_kind (lines.Acked right) = of.Acked
line_kind (lines.Expired right) = of.Expired
line_kind (lines.Locked client instance mode generation) = of.Locked
line_kind (lines.Freed client instance) = of.Freed
line_kind (lines.Lapsed client instance) = of.Lapsed
line_kind (lines.Reopened instance) = of.Reopened
line_kind (lines.Served client at view) = of.Served
line_kind (lines.Done client call end) = of.Done
line_kind (lines.Told client happened) = of.Told
line_kind (lines.Jeopardy client) = of.Jeopardy
line_kind (lines.Safe client) = of.Safe
line_kind (lines.Lost client) = of.Lost
line_kind (lines.Refused why) = of.Refused

abbrev pub line_is : Line → Type 0
line_is (lines.Up epoch) = word.is epoch
line_is lines.Down = nothing.is tt
line_is lines.Recovered = nothing.is tt
line_is (lines.Started client) = word.is client
line_is (lines.Ended client) = word.is client
line_is (lines.Applied client call made names) = applied_fields.is (client, (call, (made, names)))
line_is (lines.Granted right client at) = granted_fields.is (right, (client, at))
line_is (lines.Acked right) = word.is right
line_is (lines.Expired right) = word.is right
line_is (lines.Locked client instance mode generation) = locked_fields.is (client, (instance, (mode, generation)))
line_is (lines.Freed client instance) = two_words.is (client, instance)
line_is (lines.Lapsed client instance) = two_words.is (client, instance)
line_is (lines.Reopened instance) = word.is instance
line_is (lines.Served client at view) = served_fields.is (client, (at, view))
line_is (lines.Done client call end) = done_fields.is (client, (call, end))
line_is (lines.Told client happened) = told_fields.is (client, happened)
line_is (lines.Jeopardy client) = word.is client
line_is (lines.Safe client) = word.is client
line_is (lines.Lost client) = word.is client
line_is (lines.Refused why) = fault.is why

abbrev pub line_bytes : Line → List ℕ
line_bytes (lines.Up epoch) = word.write epoch
line_bytes lines.Down = nothing.write tt
line_bytes lines.Recovered = nothing.write tt
line_bytes (lines.Started client) = word.write client
line_bytes (lines.Ended client) = word.write client
line_bytes (lines.Applied client call made names) = applied_fields.write (client, (call, (made, names)))
line_bytes (lines.Granted right client at) = granted_fields.write (right, (client, at))
line_bytes (lines.Acked right) = word.write right
line_bytes (lines.Expired right) = word.write right
line_bytes (lines.Locked client instance mode generation) = locked_fields.write (client, (instance, (mode, generation)))
line_bytes (lines.Freed client instance) = two_words.write (client, instance)
line_bytes (lines.Lapsed client instance) = two_words.write (client, instance)
line_bytes (lines.Reopened instance) = word.write instance
line_bytes (lines.Served client at view) = served_fields.write (client, (at, view))
line_bytes (lines.Done client call end) = done_fields.write (client, (call, end))
line_bytes (lines.Told client happened) = told_fields.write (client, happened)
line_bytes (lines.Jeopardy client) = word.write client
line_bytes (lines.Safe client) = word.write client
line_bytes (lines.Lost client) = word.write client
line_bytes (lines.Refused why) = fault.write why

abbrev pub line_behind : LineKind → List ℕ → Result (Line × List ℕ) WireFault
line_behind of.Up rest = behind lines.Up word rest
line_behind of.Down rest = behind (λ _. lines.Down) nothing rest
line_behind of.Recovered rest = behind (λ _. lines.Recovered) nothing rest
line_behind of.Started rest = behind lines.Started word rest
line_behind of.Ended rest = behind lines.Ended word rest
line_behind of.Applied rest = behind (λ x. lines.Applied x.0 x.1.0 x.1.1.0 x.1.1.1) applied_fields rest
line_behind of.Granted rest = behind (λ x. lines.Granted x.0 x.1.0 x.1.1) granted_fields rest
line_behind of.Acked rest = behind lines.Acked word rest
line_behind of.Expired rest = behind lines.Expired word rest
line_behind of.Locked rest = behind (λ x. lines.Locked x.0 x.1.0 x.1.1.0 x.1.1.1) locked_fields rest
line_behind of.Freed rest = behind (λ x. lines.Freed x.0 x.1) two_words rest
line_behind of.Lapsed rest = behind (λ x. lines.Lapsed x.0 x.1) two_words rest
line_behind of.Reopened rest = behind lines.Reopened word rest
line_behind of.Served rest = behind (λ x. lines.Served x.0 x.1.0 x.1.1) served_fields rest
line_behind of.Done rest = behind (λ x. lines.Done x.0 x.1.0 x.1.1) done_fields rest
line_behind of.Told rest = behind (λ x. lines.Told x.0 x.1) told_fields rest
line_behind of.Jeopardy rest = behind lines.Jeopardy word rest
line_behind of.Safe rest = behind lines.Safe word rest
line_behind of.Lost rest = behind lines.Lost word rest
line_behind of.Refused rest = behind lines.Refused fault rest

-- the kind of a line, and its fields
unfoldable pub line : Form Line
line = of_kind (choice all_lines line_place) line_kind line_is line_bytes line_behind
