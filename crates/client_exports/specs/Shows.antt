-- What a holder is shown of the last step, as bytes.
use Rattle.std.specs.Prelude.{ℕ, ◌-◌, List, [], ◌∷◌, ◌++◌, length, slice_get, Option, Some, None, Result, Ok}
use Rattle.node_core.specs.declared.lines.Line.{Line}
use Rattle.node_core.specs.declared.lines.Line.TheVariants as lines
use Rattle.node_core.specs.declared.answers.Answer.{Answer}
use Rattle.node_core.specs.declared.answers.Answer.TheVariants as answers
use Rattle.node_core.specs.declared.views.View.{View}
use Rattle.node_core.specs.Texts.{line_text}
use Rattle.tags_cell.specs.declared.messages.requests.Request.{Request}
use Rattle.codec.specs.declared.faults.WireFault.{WireFault}
use Rattle.codec.specs.Forms.{written}
use Rattle.codec.specs.Requests.{request}

-- the bytes of a message, none where there is none
abbrev pub message_bytes : Option Request → Result (List ℕ) WireFault
message_bytes None = Ok []
message_bytes (Some message) = written request message

-- the lines, each with an LF after it
abbrev pub lines_bytes : List Line → List ℕ
lines_bytes [] = []
lines_bytes (line ∷ rest) = line_text line ++ (10 ∷ lines_bytes rest)

-- ---- the content that is shown

abbrev pub answer_content : Answer → List ℕ
answer_content (answers.Viewed view) = view.node.content
answer_content answer = []

abbrev pub seen_content : Option View → List ℕ
seen_content None = []
seen_content (Some view) = view.node.content

abbrev pub line_content : Line → List ℕ
line_content (lines.Served client name seen) = seen_content seen
line_content (lines.Done client call answer) = answer_content answer
line_content line = []

abbrev pub content_in : Option Line → List ℕ
content_in None = []
content_in (Some line) = line_content line

-- of the view that the last line shows; empty where it shows none
abbrev pub last_content : List Line → List ℕ
last_content lines = content_in (slice_get lines (length lines - 1))
