-- What is asked and answered is read as it was written.
use Rattle.std.proofs.Common.{◌≡◌, ℕ, List, ◌++◌, Ok, refl}
use Rattle.codec.specs.Forms.{choice}
use Rattle.codec.proofs.FormLaws.{IsBytes, IsShort, IsForm, TakesKind, nothing_form, pair_form, choice_form, of_kind_form, behind_takes, behind_again}
use Rattle.codec.proofs.FieldLaws.{word_form}
use Rattle.rows_remote.specs.declared.frames.KeeperQuestion.{KeeperQuestion}
use Rattle.rows_remote.specs.declared.frames.KeeperQuestion.TheVariants as asks
use Rattle.rows_remote.specs.declared.frames.KeeperAnswer.{KeeperAnswer}
use Rattle.rows_remote.specs.declared.frames.KeeperAnswer.TheVariants as answers
use Rattle.rows_remote.specs.declared.kinds.AskedKind.{AskedKind}
use Rattle.rows_remote.specs.declared.kinds.AskedKind.TheVariants as ask_of
use Rattle.rows_remote.specs.declared.kinds.KeeperAnswerKind.{KeeperAnswerKind}
use Rattle.rows_remote.specs.declared.kinds.KeeperAnswerKind.TheVariants as answer_of
use Rattle.rows_remote.specs.Frames.{change, all_asked, asked_place, asked_kind, asked_is, asked_bytes, asked_behind, asked, all_answers, answer_place, answer_kind, answer_is, answer_bytes, answer_behind, answer}
use Rattle.rows_remote.proofs.RowForms.{whole_form, all_of_edits_form}

change_form : IsForm change
unfolding change
change_form = pair_form word_form all_of_edits_form

asked_any : (x : KeeperQuestion) → (choice all_asked asked_place).is (asked_kind x)
asked_any asks.Load = refl
asked_any (asks.Commit number edits) = refl

asked_takes : (k : AskedKind) (bytes : List ℕ) (x : KeeperQuestion) (rest : List ℕ) → (choice all_asked asked_place).is k → IsBytes bytes → asked_behind k bytes ≡ Ok (x, rest)
    → TakesKind asked_kind asked_is asked_bytes k bytes x rest
asked_takes ask_of.Load bytes x rest placed fits e = behind_takes (λ _. asks.Load) ask_of.Load nothing_form (λ a. refl) (λ a h. h) (λ a. refl) bytes x rest fits e
asked_takes ask_of.Commit bytes x rest placed fits e = behind_takes (λ x. asks.Commit x.0 x.1) ask_of.Commit change_form (λ a. refl) (λ a h. h) (λ a. refl) bytes x rest fits e

asked_again : (x : KeeperQuestion) (rest : List ℕ) → asked_is x → IsShort (asked_bytes x) → asked_behind (asked_kind x) (asked_bytes x ++ rest) ≡ Ok (x, rest)
asked_again asks.Load rest holds short = behind_again (λ _. asks.Load) nothing_form tt rest holds short
asked_again (asks.Commit number edits) rest holds short = behind_again (λ x. asks.Commit x.0 x.1) change_form (number, edits) rest holds short

pub asked_form : IsForm asked
unfolding asked
asked_form = of_kind_form asked_kind asked_is asked_bytes asked_behind (choice_form all_asked asked_place refl) asked_any asked_takes asked_again

answer_any : (x : KeeperAnswer) → (choice all_answers answer_place).is (answer_kind x)
answer_any (answers.Rows all) = refl
answer_any answers.Kept = refl
answer_any answers.Refused = refl

answer_takes : (k : KeeperAnswerKind) (bytes : List ℕ) (x : KeeperAnswer) (rest : List ℕ) → (choice all_answers answer_place).is k → IsBytes bytes → answer_behind k bytes ≡ Ok (x, rest)
    → TakesKind answer_kind answer_is answer_bytes k bytes x rest
answer_takes answer_of.Rows bytes x rest placed fits e = behind_takes answers.Rows answer_of.Rows whole_form (λ a. refl) (λ a h. h) (λ a. refl) bytes x rest fits e
answer_takes answer_of.Kept bytes x rest placed fits e = behind_takes (λ _. answers.Kept) answer_of.Kept nothing_form (λ a. refl) (λ a h. h) (λ a. refl) bytes x rest fits e
answer_takes answer_of.Refused bytes x rest placed fits e = behind_takes (λ _. answers.Refused) answer_of.Refused nothing_form (λ a. refl) (λ a h. h) (λ a. refl) bytes x rest fits e

answer_again : (x : KeeperAnswer) (rest : List ℕ) → answer_is x → IsShort (answer_bytes x) → answer_behind (answer_kind x) (answer_bytes x ++ rest) ≡ Ok (x, rest)
answer_again (answers.Rows all) rest holds short = behind_again answers.Rows whole_form all rest holds short
answer_again answers.Kept rest holds short = behind_again (λ _. answers.Kept) nothing_form tt rest holds short
answer_again answers.Refused rest holds short = behind_again (λ _. answers.Refused) nothing_form tt rest holds short

pub answer_form : IsForm answer
unfolding answer
answer_form = of_kind_form answer_kind answer_is answer_bytes answer_behind (choice_form all_answers answer_place refl) answer_any answer_takes answer_again
