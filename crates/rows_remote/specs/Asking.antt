-- What is asked of the program that keeps the rows, what it answers, and what becomes of the store by it.
use Rattle.std.specs.Prelude.{◌≡◌, ◌≢◌, ◌⊎◌, ⊤, ℕ, ◌+◌, ◌^◌, ◌-◌, ◌<◌, ◌==◌, if◌then◌else◌, Bool, true, false, List, [], ◌∷◌, ◌++◌, length, Option, Some, None, Result, Ok, Err}
use Rattle.std.specs.Io.KnownBytes.{Appends, Consumes, Keeps}
use Rattle.output.specs.Fronts.{AppendsFront}
use Rattle.node_core.specs.Limits.{number_limit}
use Rattle.node_core.specs.declared.refusals.Fault.{Fault}
use Rattle.node_core.specs.declared.refusals.Fault.TheVariants as faults
use Rattle.rows_cell.specs.declared.tables.Rows.{Rows}
use Rattle.rows_cell.specs.declared.tables.Edit.{Edit}
use Rattle.rows_cell.specs.Rows.{changed_rows}
use Rattle.rows_cell.specs.Sound.{sound}
use Rattle.rows_cell.specs.Stores.{Store}
use Rattle.codec.specs.declared.faults.WireFault.TheVariants.{TooLong}
use Rattle.codec.specs.Forms.{version, written, read_whole}
use Rattle.rows_remote.specs.declared.frames.KeeperQuestion.{KeeperQuestion}
use Rattle.rows_remote.specs.declared.frames.KeeperQuestion.TheVariants as asks
use Rattle.rows_remote.specs.declared.frames.KeeperAnswer.{KeeperAnswer}
use Rattle.rows_remote.specs.declared.frames.KeeperAnswer.TheVariants as answers
use Rattle.rows_remote.specs.declared.frames.Whole.{Whole}
use Rattle.rows_remote.specs.declared.records.KeeperStanding.{KeeperStanding}
use Rattle.rows_remote.specs.declared.records.KeeperStanding.TheVariants.{Ready, Behind, Shut}
use Rattle.rows_remote.specs.Frames.{asked, answer, framed, answer_at}
use Rattle.rows_remote.specs.Keeping.{told_rows, doubt_of}

-- the store, the number of the last commit, how it stands with the other program, the first rows while nobody has loaded
-- them, what was asked so far, and what will be answered, where these are known
pub record Framed : Type 0 where
  pub store : Store
  pub number : ℕ
  pub standing : KeeperStanding
  pub first : Option Rows
  pub asked : Option (List ℕ)
  pub coming : Option (List ℕ)

-- ---- one question, and its answer

-- this answer stands at the front of the text, and after it stands the rest, where it is known
abbrev pub Hears : Option (List ℕ) → KeeperAnswer → Option (List ℕ) → Type 0
Hears None told after = ⊤
Hears (Some text) told None = ⊥
Hears (Some text) told (Some rest) = answer_at text ≡ Ok (told, rest)

-- this was asked, all of it, and this was answered
pub record IsAnswered (question : KeeperQuestion) (told : KeeperAnswer) (asked_before asked_after coming_before coming_after : Option (List ℕ)) : Type 0 where
  pub bytes : List ℕ
  pub written : framed asked question ≡ Ok bytes
  pub sent : Appends asked_before asked_after bytes
  pub heard : Hears coming_before told coming_after

-- the same of a store
abbrev pub Answers : KeeperQuestion → KeeperAnswer → Framed → Framed → Type 0
Answers question told old new = IsAnswered question told old.asked new.asked old.coming new.coming

-- ---- a question that isn't answered

-- the answers to a question: all rows, or whether the edits stand
abbrev pub is_answer_to : KeeperQuestion → KeeperAnswer → Bool
is_answer_to asks.Load (answers.Rows whole) = true
is_answer_to asks.Load told = false
is_answer_to (asks.Commit number edits) (answers.Rows whole) = false
is_answer_to (asks.Commit number edits) told = true

-- this was taken of what comes, and it is none of the two answers that have no rows. So it ended too early, or is no answer; or it tells rows, and memory was wanting
pub record IsUnheard (before after : Option (List ℕ)) : Type 0 where
  pub taken : List ℕ
  pub gone : Consumes before after taken
  pub not_kept : framed answer answers.Kept ≢ Ok taken
  pub not_refused : framed answer answers.Refused ≢ Ok taken

-- after the number in front of an answer: it has so many bytes, and this was told by them
abbrev pub HearsIn : ℕ → Option (List ℕ) → KeeperAnswer → Option (List ℕ) → Type 0
HearsIn count before told after = (block : List ℕ) × Consumes before after block × (length block ≡ count) × (read_whole answer block ≡ Ok told)

-- what two bytes tell that stand after their number: an answer without rows, if they are one
abbrev pub kind_told : ℕ → Option KeeperAnswer
kind_told kind = if kind == 1 then Some answers.Kept else (if kind == 2 then Some answers.Refused else None)

abbrev pub short_told : List ℕ → Option KeeperAnswer
short_told (first ∷ (kind ∷ [])) = if first == version then kind_told kind else None
short_told _ = None

-- some bytes were taken, whichever
abbrev pub LosesSome : Option (List ℕ) → Option (List ℕ) → Type 0
LosesSome before after = (taken : List ℕ) × Consumes before after taken

-- some were taken, and they are none of the two answers that have no rows
abbrev pub LosesShort : Option (List ℕ) → Option (List ℕ) → Type 0
LosesShort before after = (taken : List ℕ) × Consumes before after taken × (written answer answers.Kept ≢ Ok taken) × (written answer answers.Refused ≢ Ok taken)

-- some were taken after a number; if the number is that of these two answers, they are none of them
abbrev pub LosesCounted : ℕ → Option (List ℕ) → Option (List ℕ) → Type 0
LosesCounted count before after = ((count ≡ 2) × LosesShort before after) ⊎ ((count ≢ 2) × LosesSome before after)

-- these bytes weren't all written, or not flushed, and nothing was read; or they were, and no answer was heard
abbrev pub IsSilence : List ℕ → Option (List ℕ) → Option (List ℕ) → Option (List ℕ) → Option (List ℕ) → Type 0
IsSilence bytes asked_before asked_after coming_before coming_after =
    (AppendsFront asked_before asked_after bytes × Keeps coming_before coming_after) ⊎ (Appends asked_before asked_after bytes × IsUnheard coming_before coming_after)

-- the question was asked, or a front of it, and no answer was heard
abbrev pub StaysSilent : KeeperQuestion → Framed → Framed → Type 0
StaysSilent question old new = (bytes : List ℕ) × (framed asked question ≡ Ok bytes) × IsSilence bytes old.asked new.asked old.coming new.coming

-- it was answered by what is no answer to it
abbrev pub AnswersOtherwise : KeeperQuestion → Framed → Framed → Type 0
AnswersOtherwise question old new = (told : KeeperAnswer) × (is_answer_to question told ≡ false) × Answers question told old new

abbrev pub IsUnanswered : KeeperQuestion → Framed → Framed → Type 0
IsUnanswered question old new = StaysSilent question old new ⊎ AnswersOtherwise question old new

-- ---- what a question leaves

-- as before, but for what has gone through both streams, and without the first rows
abbrev pub since : Framed → Framed → Framed
since old new = record old { first = None; asked = new.asked; coming = new.coming }

-- after a commit that was kept
abbrev pub with_kept : List Edit → Framed → Framed
with_kept edits s = record s {
  store = record s.store { rows = changed_rows s.store.rows edits; may_leave = changed_rows s.store.rows edits ∷ [] };
  number = s.number + 1;
}

-- after one that was refused, or not answered: the rows and the number of the last commit stay, and a crash may leave its rows
abbrev pub with_tried : KeeperStanding → List Edit → Framed → Framed
with_tried standing edits s = record s {
  store = record s.store { may_leave = s.store.may_leave ++ changed_rows s.store.rows edits ∷ []; refusals = s.store.refusals + 1 };
  standing = standing;
}

-- after all rows were told, which stand
abbrev pub with_told : Whole → Framed → Framed
with_told whole s = record s {
  store = record s.store { rows = told_rows whole; doubt = s.store.doubt + doubt_of s.store.rows (told_rows whole) };
  number = whole.number;
  standing = Ready;
}

-- after rows were told that a cell may not have
abbrev pub with_damaged : Whole → Framed → Framed
with_damaged whole s = record s { store = record s.store { doubt = s.store.doubt + doubt_of s.store.rows (told_rows whole) } }

abbrev pub refused_again : Framed → Framed
refused_again s = record s { store = record s.store { refusals = s.store.refusals + 1 } }

-- ---- a commit

-- it was asked as the next commit, and it was answered that the edits stand
pub record IsKept (edits : List Edit) (old new : Framed) : Type 0 where
  pub ready : old.standing ≡ Ready
  pub counted : old.store.refusals < number_limit
  pub answered : Answers (asks.Commit (old.number + 1) edits) answers.Kept old new
  pub stands : new ≡ with_kept edits (since old new)

-- it has no bytes or no number, and isn't asked
abbrev pub HasNoFrame : List Edit → Framed → Framed → Type 0
HasNoFrame edits old new = (new ≡ refused_again old) × ((framed asked (asks.Commit (old.number + 1) edits) ≡ Err TooLong) ⊎ (old.number ≡ 2 ^ 64 - 1))

-- it was asked, and refused: from then on nothing is committed until all rows are loaded
pub record IsRefusedThere (edits : List Edit) (old new : Framed) : Type 0 where
  pub answered : Answers (asks.Commit (old.number + 1) edits) answers.Refused old new
  pub stands : new ≡ with_tried Behind edits (since old new)

-- it was asked, and not answered: from then on nothing is asked
pub record IsLost (edits : List Edit) (old new : Framed) : Type 0 where
  pub unanswered : IsUnanswered (asks.Commit (old.number + 1) edits) old new
  pub stands : new ≡ with_tried Shut edits (since old new)

-- by a standing: after a refused commit, and if nothing is answered any more, nothing is asked
abbrev pub IsTurnedDown : KeeperStanding → List Edit → Framed → Framed → Type 0
IsTurnedDown Ready edits old new = HasNoFrame edits old new ⊎ IsRefusedThere edits old new ⊎ IsLost edits old new
IsTurnedDown Behind edits old new = new ≡ refused_again old
IsTurnedDown Shut edits old new = new ≡ refused_again old

-- what becomes of a commit: it is kept just if that was answered. If there are no edits nothing is asked, nor if memory
-- is wanting or the count of refusals is at its end
abbrev pub CommitsBy : List Edit → Framed → Framed → Result (Unit {0}) Fault → Type 0
CommitsBy [] old new result = (result ≡ Ok tt) × (new ≡ old)
CommitsBy (edit ∷ edits) old new (Ok x) = IsKept (edit ∷ edits) old new
CommitsBy (edit ∷ edits) old new (Err faults.StoreRefused) = IsTurnedDown old.standing (edit ∷ edits) old new
CommitsBy (edit ∷ edits) old new (Err fault) = new ≡ old

-- ---- a load

-- a load may give rows: something is answered still, and the count of refusals isn't at its end
abbrev pub MayLoad : Framed → Type 0
MayLoad s = (s.standing ≢ Shut) × (s.store.refusals < number_limit)

-- all rows were asked for, and these were told
pub record IsToldAll (rows : Rows) (old new : Framed) : Type 0 where
  pub whole : Whole
  pub answered : Answers asks.Load (answers.Rows whole) old new
  pub same : rows ≡ told_rows whole
  pub stands : new ≡ with_told whole (since old new)

-- the first rows, which were told as the store was opened, are given once, without another question
abbrev pub GivesRows : Option Rows → Rows → Framed → Framed → Type 0
GivesRows (Some first) rows old new = (rows ≡ first) × (new ≡ record old { first = None })
GivesRows None rows old new = IsToldAll rows old new

-- all rows were asked for, and a cell of this name may not have those that were told
pub record IsToldDamaged (old new : Framed) : Type 0 where
  pub whole : Whole
  pub answered : Answers asks.Load (answers.Rows whole) old new
  pub unsound : sound old.store.cell (told_rows whole) ≡ false
  pub stands : new ≡ with_damaged whole (since old new)

-- it may not have the first rows, which are given up; or not those that are told
abbrev pub GivesDamaged : Option Rows → Framed → Framed → Type 0
GivesDamaged (Some first) old new = (sound old.store.cell first ≡ false) × (new ≡ record old { first = None })
GivesDamaged None old new = IsToldDamaged old new

-- all rows were asked for and told, and nothing else has changed
pub record IsToldUntaken (old new : Framed) : Type 0 where
  pub whole : Whole
  pub answered : Answers asks.Load (answers.Rows whole) old new
  pub stands : new ≡ since old new

-- memory was wanting, before all rows were asked for or after they were told
abbrev pub Wants : Option Rows → Framed → Framed → Type 0
Wants (Some first) old new = new ≡ old
Wants None old new = (new ≡ old) ⊎ IsToldUntaken old new

-- all rows were asked for, and not told: from then on nothing is asked
pub record IsUntold (old new : Framed) : Type 0 where
  pub first : old.first ≡ None
  pub unanswered : IsUnanswered asks.Load old new
  pub stands : new ≡ record (refused_again (since old new)) { standing = Shut }

-- if nothing is answered any more, nothing is asked; else that begins here
abbrev pub IsSilent : KeeperStanding → Framed → Framed → Type 0
IsSilent Shut old new = new ≡ refused_again old
IsSilent _ old new = IsUntold old new

abbrev pub LoadsBy : Framed → Framed → Result Rows Fault → Type 0
LoadsBy old new (Ok rows) = MayLoad old × GivesRows old.first rows old new
LoadsBy old new (Err faults.StoreRefused) = IsSilent old.standing old new
LoadsBy old new (Err faults.StoreDamaged) = MayLoad old × GivesDamaged old.first old new
LoadsBy old new (Err faults.NoMemory) = Wants old.first old new
LoadsBy old new (Err fault) = new ≡ old

-- ---- the beginning

-- over rows that were told, of which nobody has loaded any
abbrev pub begun : List ℕ → ℕ → Rows → Option (List ℕ) → Option (List ℕ) → Framed
begun cell number rows asked coming = record {
  store = record { cell = cell; rows = rows; may_leave = rows ∷ []; refusals = 0; doubt = 0 };
  number = number;
  standing = Ready;
  first = Some rows;
  asked = asked;
  coming = coming;
}

-- all rows were asked for, and those that were told stand
pub record IsOpened (cell : List ℕ) (asked_before coming_before : Option (List ℕ)) (new : Framed) : Type 0 where
  pub whole : Whole
  pub answered : IsAnswered asks.Load (answers.Rows whole) asked_before new.asked coming_before new.coming
  pub store : new.store ≡ record { cell = cell; rows = told_rows whole; may_leave = told_rows whole ∷ []; refusals = 0; doubt = 0 }
  pub number : new.number ≡ whole.number
  pub ready : new.standing ≡ Ready
  pub first : new.first ≡ Some (told_rows whole)

-- of the first rows, which were taken out: they are given, or a cell may not have them, or memory is wanting and they are put back
abbrev pub GivesFirst : Rows → Framed → Framed → Result Rows Fault → Type 0
GivesFirst first old new (Ok rows) = (rows ≡ first) × (new ≡ old)
GivesFirst first old new (Err faults.StoreDamaged) = (sound old.store.cell first ≡ false) × (new ≡ old)
GivesFirst first old new (Err faults.NoMemory) = new ≡ record old { first = Some first }
GivesFirst first old new (Err fault) = ⊥

-- of rows that were told in answer to a question: they stand, or they aren't sound, or memory is wanting
abbrev pub TakesRows : Whole → Framed → Framed → Result Rows Fault → Type 0
TakesRows whole old new (Ok rows) = (rows ≡ told_rows whole) × (new ≡ with_told whole old)
TakesRows whole old new (Err faults.StoreDamaged) = (sound old.store.cell (told_rows whole) ≡ false) × (new ≡ with_damaged whole old)
TakesRows whole old new (Err faults.NoMemory) = new ≡ old
TakesRows whole old new (Err fault) = ⊥
