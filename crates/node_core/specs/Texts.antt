-- The texts of views, events, answers and lines.
use Rattle.std.specs.Prelude.{ℕ, List, [], ◌∷◌, ◌++◌, length, take, codes, decimal, ◌/◌, ◌%◌, false, Option, Some, None}
use Rattle.std.specs.List.{flat_map}
use Rattle.std.specs.Fmt.{digit_glyph}
use Rattle.node_core.specs.declared.kinds.Kind.{Kind}
use Rattle.node_core.specs.declared.kinds.Kind.TheVariants.{File, Directory}
use Rattle.node_core.specs.declared.nodes.Node.{Node}
use Rattle.node_core.specs.declared.views.View.{View}
use Rattle.node_core.specs.declared.stats.Stat.{Stat}
use Rattle.node_core.specs.declared.views.Mod.{Mod}
use Rattle.node_core.specs.declared.views.Mod.TheVariants.{Put, Gone}
use Rattle.node_core.specs.declared.events.Event.{Event}
use Rattle.node_core.specs.declared.events.Event.TheVariants as events
use Rattle.node_core.specs.declared.answers.Answer.{Answer}
use Rattle.node_core.specs.declared.answers.Answer.TheVariants as answers
use Rattle.node_core.specs.declared.lines.Line.{Line}
use Rattle.node_core.specs.declared.lines.Line.TheVariants as lines
use Rattle.node_core.specs.Words.{kind_text, life_text, lock_mode_text}
use Rattle.node_core.specs.Refusals.{fault_text}

-- a byte as two lower case hexadecimal digits
abbrev pub hex_pair : ℕ → List ℕ
hex_pair b = digit_glyph false (b / 16) ∷ digit_glyph false (b % 16) ∷ []

-- the first 16 bytes, or a dash for none
abbrev pub hex_text : List ℕ → List ℕ
hex_text [] = codes "-"
hex_text (b ∷ bs) = flat_map hex_pair (take 16 (b ∷ bs))

-- the kind, the instance, and the generations of the content and of the ACL names
abbrev pub header_text : Kind → ℕ → ℕ → ℕ → List ℕ
header_text kind instance content acl = kind_text kind ++ (codes " " ++ (decimal instance ++ (codes " " ++ (decimal content ++ (codes " " ++ decimal acl)))))

-- the ACLs for reading, writing and changing, in this order
abbrev pub acls_text : List ℕ → List ℕ → List ℕ → List ℕ
acls_text read write change = read ++ (codes " " ++ (write ++ (codes " " ++ change)))

-- the names, a space before each
abbrev pub names_text : List (List ℕ) → List ℕ
names_text names = flat_map (λ name. codes " " ++ name) names

-- of a file its content, of a directory the names that are listed of it
abbrev pub rest_text : Kind → List ℕ → List (List ℕ) → List ℕ
rest_text Directory content names = codes " " ++ (decimal (length names) ++ names_text names)
rest_text File content names = codes " " ++ (decimal (length content) ++ (codes " " ++ hex_text content))

abbrev pub node_text : Node → List (List ℕ) → List ℕ
node_text node names =
    (header_text node.kind node.instance node.content_generation node.acl_generation ++ (codes " " ++ (acls_text node.read node.write node.change ++ (codes " " ++ life_text node.life))))
    ++ rest_text node.kind node.content names

abbrev pub view_text : View → List ℕ
view_text view = node_text view.node view.children

abbrev pub stat_text : Stat → List ℕ
stat_text stat =
    header_text stat.kind stat.instance stat.content_generation stat.acl_generation
    ++ (codes " " ++ (decimal stat.lock_generation ++ (codes " " ++ (acls_text stat.read stat.write stat.change ++ (codes " " ++ (life_text stat.life ++ (codes " " ++ decimal stat.length)))))))

-- a change, with the names that are listed of what is put
abbrev pub mod_text : Mod → List (List ℕ) → List ℕ
mod_text (Put name node) names = codes "put " ++ (name ++ (codes " " ++ node_text node names))
mod_text (Gone name) names = codes "gone " ++ name

abbrev pub event_text : Event → List ℕ
event_text events.FailOver = codes "failover"
event_text (events.Contents handle instance generation) = codes "contents " ++ (decimal handle ++ (codes " " ++ (decimal instance ++ (codes " " ++ decimal generation))))
event_text (events.ChildAdded handle name) = codes "child-added " ++ (decimal handle ++ (codes " " ++ name))
event_text (events.ChildRemoved handle name) = codes "child-removed " ++ (decimal handle ++ (codes " " ++ name))
event_text (events.ChildModified handle name) = codes "child-modified " ++ (decimal handle ++ (codes " " ++ name))
event_text (events.Invalid handle) = codes "invalid " ++ decimal handle
event_text (events.Locked handle) = codes "locked " ++ decimal handle
event_text (events.Conflict handle) = codes "conflict " ++ decimal handle
event_text events.Lost = codes "lost"

abbrev pub answer_text : Answer → List ℕ
answer_text (answers.Opened handle) = codes "opened " ++ decimal handle
answer_text answers.Closed = codes "closed"
answer_text answers.Poisoned = codes "poisoned"
answer_text (answers.Viewed view) = codes "view " ++ view_text view
answer_text (answers.Stated stat) = codes "stat " ++ stat_text stat
answer_text (answers.Names names) = codes "names" ++ names_text names
answer_text (answers.Sequencer bytes) = codes "sequencer " ++ flat_map hex_pair bytes
answer_text answers.Okay = codes "ok"
answer_text (answers.Refused fault) = codes "refused " ++ fault_text fault

-- what a cache holds for a name
abbrev pub seen_text : Option View → List ℕ
seen_text None = codes "absent"
seen_text (Some view) = view_text view

abbrev pub line_text : Line → List ℕ
line_text (lines.Up epoch) = codes "up " ++ decimal epoch
line_text lines.Down = codes "down"
line_text lines.Recovered = codes "recovered"
line_text (lines.Started client) = codes "started " ++ decimal client
line_text (lines.Ended client) = codes "ended " ++ decimal client
line_text (lines.Applied client call change names) = codes "applied " ++ (decimal client ++ (codes " " ++ (decimal call ++ (codes " " ++ mod_text change names))))
line_text (lines.Granted right client name) = codes "granted " ++ (decimal right ++ (codes " " ++ (decimal client ++ (codes " " ++ name))))
line_text (lines.Acked right) = codes "acked " ++ decimal right
line_text (lines.Expired right) = codes "expired " ++ decimal right
line_text (lines.Locked client instance mode generation) = codes "locked " ++ (decimal client ++ (codes " " ++ (decimal instance ++ (codes " " ++ (lock_mode_text mode ++ (codes " " ++ decimal generation))))))
line_text (lines.Freed client instance) = codes "freed " ++ (decimal client ++ (codes " " ++ decimal instance))
line_text (lines.Lapsed client instance) = codes "lapsed " ++ (decimal client ++ (codes " " ++ decimal instance))
line_text (lines.Reopened instance) = codes "reopened " ++ decimal instance
line_text (lines.Served client name seen) = codes "served " ++ (decimal client ++ (codes " " ++ (name ++ (codes " " ++ seen_text seen))))
line_text (lines.Done client call answer) = codes "done " ++ (decimal client ++ (codes " " ++ (decimal call ++ (codes " " ++ answer_text answer))))
line_text (lines.Told client event) = codes "event " ++ (decimal client ++ (codes " " ++ event_text event))
line_text (lines.Jeopardy client) = codes "jeopardy " ++ decimal client
line_text (lines.Safe client) = codes "safe " ++ decimal client
line_text (lines.Lost client) = codes "lost " ++ decimal client
line_text (lines.Refused fault) = codes "refused " ++ fault_text fault
