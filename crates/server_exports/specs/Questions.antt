-- What a master asks of the program that keeps its rows, by its parts.
use Rattle.std.specs.Prelude.{ℕ, ◌+◌, List, [], length}
use Rattle.rows_remote.specs.declared.frames.KeeperQuestion.{KeeperQuestion}
use Rattle.rows_remote.specs.declared.frames.KeeperQuestion.TheVariants as asks
use Rattle.rows_remote.specs.Frames.{asked_kind, asked_place, edits_place}
use Rattle.server_exports.specs.declared.questions.Question.{Question}

-- what is asked: one above the byte of its kind
abbrev pub question_number : KeeperQuestion → ℕ
question_number question = asked_place (asked_kind question) + 1

abbrev pub question_parts : KeeperQuestion → Question
question_parts asks.Load = record { what = question_number asks.Load; edits_at = 0; number = 0; edits = 0 }
question_parts (asks.Commit number edits) = record {
  what = question_number (asks.Commit number edits);
  edits_at = edits_place;
  number = number;
  edits = length edits;
}

-- no name is told of it
abbrev pub question_name : KeeperQuestion → List ℕ
question_name question = []
