-- What holds of the bytes of what is asked and answered.
use Rattle.std.specs.Prelude.{◌≡◌, ℕ, List, ◌++◌, length, drop, Ok}
use Rattle.rows_cell.specs.declared.tables.Edit.{Edit}
use Rattle.codec.specs.Forms.{◌>>=◌, Form, write_all, written, read_whole}
use Rattle.codec.specs.Laws.{AreBytes}
use Rattle.rows_remote.specs.declared.frames.KeeperQuestion.{KeeperQuestion}
use Rattle.rows_remote.specs.declared.frames.KeeperQuestion.TheVariants as asks
use Rattle.rows_remote.specs.declared.frames.KeeperAnswer.{KeeperAnswer}
use Rattle.rows_remote.specs.declared.frames.KeeperAnswer.TheVariants as answers
use Rattle.rows_remote.specs.declared.frames.Whole.{Whole}
use Rattle.rows_remote.specs.Forms.{row}
use Rattle.rows_remote.specs.Frames.{asked, answer, framed, edits_from, edits_place, own_of, rows_front}

-- what is asked is read as it was written
abbrev pub WrittenAskedIsRead : Type 0
WrittenAskedIsRead = (sent : KeeperQuestion) (bytes : List ℕ) → asked.is sent → written asked sent ≡ Ok bytes → read_whole asked bytes ≡ Ok sent

-- what is read of it is what would be written, and in its ranges
abbrev pub ReadAskedWasWritten : Type 0
ReadAskedWasWritten = (bytes : List ℕ) (sent : KeeperQuestion) → AreBytes bytes → read_whole asked bytes ≡ Ok sent → asked.is sent × (written asked sent ≡ Ok bytes)

-- the same of what is answered
abbrev pub WrittenAnswerIsRead : Type 0
WrittenAnswerIsRead = (told : KeeperAnswer) (bytes : List ℕ) → answer.is told → written answer told ≡ Ok bytes → read_whole answer bytes ≡ Ok told

abbrev pub ReadAnswerWasWritten : Type 0
ReadAnswerWasWritten = (bytes : List ℕ) (told : KeeperAnswer) → AreBytes bytes → read_whole answer bytes ≡ Ok told → answer.is told × (written answer told ≡ Ok bytes)

-- the edits of a commit are read one by one from their place on
abbrev pub EditsStandBehind : Type 0
EditsStandBehind =
    (block : List ℕ) (number : ℕ) (edits : List Edit) → AreBytes block → read_whole asked block ≡ Ok (asks.Commit number edits)
    → edits_from (length edits) (drop edits_place block) ≡ Ok edits

-- an answer that tells rows is what stands in front of them, and then the bytes of each; or it has too many
abbrev pub RowsStandBehind : Type 0
RowsStandBehind =
    (all : Whole) → framed answer (answers.Rows all)
    ≡ (rows_front (own_of all) (length all.rows) (length (write_all row.write all.rows)) >>= λ front. Ok (front ++ write_all row.write all.rows))
