-- The forms of what is asked and of what is answered.
use Rattle.std.specs.Prelude.{◌≡◌, ⊤, ℕ, zero, suc, ◌+◌, ◌-◌, nat_lt, List, [], ◌∷◌, ◌++◌, length, drop, Option, Some, None, Result, Ok, Err, if◌then◌else◌}
use Rattle.byteorder.specs.Endian.{big_bytes}
use Rattle.rows_cell.specs.declared.tables.Edit.{Edit}
use Rattle.codec.specs.declared.faults.WireFault.{WireFault}
use Rattle.codec.specs.declared.faults.WireFault.TheVariants.{TooLong}
use Rattle.codec.specs.Forms.{◌>>=◌, Form, nothing, ◌⊗◌, choice, of_kind, behind, counted, version, length_end, short_of, written, read_whole}
use Rattle.codec.specs.Fields.{word}
use Rattle.rows_remote.specs.declared.frames.KeeperQuestion.{KeeperQuestion}
use Rattle.rows_remote.specs.declared.frames.KeeperQuestion.TheVariants as asks
use Rattle.rows_remote.specs.declared.frames.KeeperAnswer.{KeeperAnswer}
use Rattle.rows_remote.specs.declared.frames.KeeperAnswer.TheVariants as answers
use Rattle.rows_remote.specs.declared.frames.Own.{Own}
use Rattle.rows_remote.specs.declared.frames.Row.{Row}
use Rattle.rows_remote.specs.declared.frames.Whole.{Whole}
use Rattle.rows_remote.specs.declared.kinds.AskedKind.{AskedKind}
use Rattle.rows_remote.specs.declared.kinds.AskedKind.TheVariants as ask_of
use Rattle.rows_remote.specs.declared.kinds.KeeperAnswerKind.{KeeperAnswerKind}
use Rattle.rows_remote.specs.declared.kinds.KeeperAnswerKind.TheVariants as answer_of
use Rattle.rows_remote.specs.Forms.{own, row, whole, edit, all_of_edits}

-- ---- what is asked

-- the number of a commit, and its edits
unfoldable pub change : Form (ℕ × List Edit)
change = word ⊗ all_of_edits

abbrev pub all_asked : List AskedKind
all_asked = ask_of.Load ∷ ask_of.Commit ∷ []

abbrev pub asked_place : AskedKind → ℕ
asked_place ask_of.Load = 0
asked_place ask_of.Commit = 1

abbrev pub asked_kind : KeeperQuestion → AskedKind
asked_kind asks.Load = ask_of.Load
asked_kind (asks.Commit number edits) = ask_of.Commit

abbrev pub asked_is : KeeperQuestion → Type 0
asked_is asks.Load = Unit {0}
asked_is (asks.Commit number edits) = change.is (number, edits)

abbrev pub asked_bytes : KeeperQuestion → List ℕ
asked_bytes asks.Load = []
asked_bytes (asks.Commit number edits) = change.write (number, edits)

abbrev pub asked_behind : AskedKind → List ℕ → Result (KeeperQuestion × List ℕ) WireFault
asked_behind ask_of.Load rest = behind (λ _. asks.Load) nothing rest
asked_behind ask_of.Commit rest = behind (λ x. asks.Commit x.0 x.1) change rest

-- the kind of it, and its fields
unfoldable pub asked : Form KeeperQuestion
asked = of_kind (choice all_asked asked_place) asked_kind asked_is asked_bytes asked_behind

-- ---- what is answered

abbrev pub all_answers : List KeeperAnswerKind
all_answers = answer_of.Rows ∷ answer_of.Kept ∷ answer_of.Refused ∷ []

abbrev pub answer_place : KeeperAnswerKind → ℕ
answer_place answer_of.Rows = 0
answer_place answer_of.Kept = 1
answer_place answer_of.Refused = 2

abbrev pub answer_kind : KeeperAnswer → KeeperAnswerKind
answer_kind (answers.Rows all) = answer_of.Rows
answer_kind answers.Kept = answer_of.Kept
answer_kind answers.Refused = answer_of.Refused

abbrev pub answer_is : KeeperAnswer → Type 0
answer_is (answers.Rows all) = whole.is all
answer_is answers.Kept = Unit {0}
answer_is answers.Refused = Unit {0}

abbrev pub answer_bytes : KeeperAnswer → List ℕ
answer_bytes (answers.Rows all) = whole.write all
answer_bytes answers.Kept = []
answer_bytes answers.Refused = []

abbrev pub answer_behind : KeeperAnswerKind → List ℕ → Result (KeeperAnswer × List ℕ) WireFault
answer_behind answer_of.Rows rest = behind answers.Rows whole rest
answer_behind answer_of.Kept rest = behind (λ _. answers.Kept) nothing rest
answer_behind answer_of.Refused rest = behind (λ _. answers.Refused) nothing rest

-- the kind of it, and its fields
unfoldable pub answer : Form KeeperAnswer
answer = of_kind (choice all_answers answer_place) answer_kind answer_is answer_bytes answer_behind

-- ---- in a stream

-- bytes with their number in front; or that there would be too many
abbrev pub framed_bytes : List ℕ → Result (List ℕ) WireFault
framed_bytes bytes = short_of bytes >>= λ short. Ok (counted.write short)

-- all bytes of it with their number in front; or that there would be too many
abbrev pub framed : {X : Type 0} → Form X → X → Result (List ℕ) WireFault
framed f x = written f x >>= λ bytes. Ok (counted.write bytes)

-- the answer that stands at the front, and what stands after it
abbrev pub answer_at : List ℕ → Result (KeeperAnswer × List ℕ) WireFault
answer_at bytes = counted.read bytes >>= λ block. read_whole answer block.0 >>= λ told. Ok (told, block.1)

-- a block stands at the front of the text, and after it stands the rest, where it is known
abbrev pub HoldsBlock : Option (List ℕ) → List ℕ → Option (List ℕ) → Type 0
HoldsBlock None block after = ⊤
HoldsBlock (Some text) block None = ⊥
HoldsBlock (Some text) block (Some rest) = counted.read text ≡ Ok (block, rest)

-- ---- piece by piece

-- the edit at the front, and how many of the bytes are its own
abbrev pub edit_at : List ℕ → Result (Edit × ℕ) WireFault
edit_at bytes = edit.read bytes >>= λ x. Ok (x.0, length bytes - length x.1)

-- so many edits, each where the one before it ends
abbrev pub edits_from : ℕ → List ℕ → Result (List Edit) WireFault
edits_from zero bytes = Ok []
edits_from (suc n) bytes = edit_at bytes >>= λ x. edits_from n (drop x.1 bytes) >>= λ others. Ok (x.0 ∷ others)

-- where the first edit of a commit stands: after the version, the kind, the number and the count
abbrev pub edits_place : ℕ
edits_place = 14

-- a row among those that are told; or that it has too many bytes
abbrev pub row_written : Row → Result (List ℕ) WireFault
row_written told = short_of (row.write told)

-- what is told before the rows
abbrev pub own_of : Whole → Own
own_of all = record { number = all.number; cell = all.cell; secret = all.secret; epoch = all.epoch; next_instance = all.next_instance; ended_below = all.ended_below }

-- bytes with their number in front, to which so many more belong that stand after; or that there would be too many
abbrev pub framed_front : List ℕ → ℕ → Result (List ℕ) WireFault
framed_front front size = if nat_lt (length front + size) length_end then Ok (big_bytes 4 (length front + size) ++ front) else Err TooLong

abbrev pub front_before : Own → ℕ → List ℕ
front_before told count = version ∷ (answer_place answer_of.Rows ∷ (own.write told ++ big_bytes 4 count))

-- what stands in front of rows that are told: so many rows, which have so many bytes together
abbrev pub rows_front : Own → ℕ → ℕ → Result (List ℕ) WireFault
rows_front told count size = framed_front (front_before told count) size
