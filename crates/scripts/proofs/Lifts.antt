-- A part that is wrong, or written by no words, makes the whole so.
use Rattle.std.proofs.Common.{◌≡◌, ◌∷◌, [], ◌≤◌, ◌<◌, List, ℕ, length, get_or, take, drop, ◌-◌, Option, None, Some, Result, Err, sym, ap, arith, ◌∙◌, Bor}
use Rattle.std.proofs.lemmas.List.{take_all}
use Rattle.std.specs.Result.{IsErr, IsErrAnd}
use Rattle.std.proofs.lemmas.Result.{err_from_is_err_and}
use Rattle.node_core.specs.declared.refusals.Fault.{Fault}
use Rattle.scripts.specs.declared.steps.Flaw.{Flaw}
use Rattle.scripts.specs.declared.steps.Flaw.TheVariants.{Bad, Refused, NoMemory}
use Rattle.scripts.specs.Readings.{Reads}
use Rattle.scripts.specs.Steps.{texts}

-- what the whole writes holds a part that the part's words write, and the other way round; the part's fault is the whole's
pub record IsPart {A B : Type 0} (P : A → Type 0) (part_fault : A → Option Fault) (Q : B → Type 0) (whole_fault : B → Option Fault) : Type 0 where
  pub out : (b : B) → Q b → (a : A) × P a
  pub make : (a : A) → P a → (b : B) × Q b × ((fault : Fault) → part_fault a ≡ Some fault → whole_fault b ≡ Some fault)

pub lifted : {A B : Type 0} {P : A → Type 0} {part_fault : A → Option Fault} {Q : B → Type 0} {whole_fault : B → Option Fault} → IsPart P part_fault Q whole_fault → (flaw : Flaw) → Reads P part_fault (Err flaw) → Reads Q whole_fault (Err flaw)
lifted part Bad none = λ b q. let a = part.out b q in none a.0 a.1
lifted part (Refused fault) found = let b = part.make found.0 found.1 in (b.0, b.1, b.2 fault found.2)
lifted part NoMemory _ = tt

-- the exit of a `?`
pub passed : {A B : Type 0} {P : A → Type 0} {part_fault : A → Option Fault} {Q : B → Type 0} {whole_fault : B → Option Fault} (r : Result B Flaw) (flaw : Flaw) → IsErr r × IsErrAnd r (λ y. y ≡ flaw) → IsPart P part_fault Q whole_fault → Reads P part_fault (Err flaw) → Reads Q whole_fault r
passed {Q = Q} {whole_fault = whole_fault} r flaw h part reads =
    let e = err_from_is_err_and r h.1 in
    let is : r ≡ Err flaw = e.1 ∙ ap Err e.2 in
    rw is (lifted part flaw reads)

plainly : {A B : Type 0} {P : A → Type 0} {Q : B → Type 0} (whole_fault : B → Option Fault) → ((b : B) → Q b → (a : A) × P a) → (flaw : Flaw) → Reads P (λ _. None) (Err flaw) → Reads Q whole_fault (Err flaw)
plainly whole_fault out Bad none = λ b q. let a = out b q in none a.0 a.1
plainly whole_fault out (Refused fault) found = let never : None ≡ Some fault = found.2 in cc
plainly whole_fault out NoMemory _ = tt

-- the same, where nothing can be wrong with the part
pub plain : {A B : Type 0} {P : A → Type 0} {Q : B → Type 0} (whole_fault : B → Option Fault) (r : Result B Flaw) (flaw : Flaw) → IsErr r × IsErrAnd r (λ y. y ≡ flaw) → ((b : B) → Q b → (a : A) × P a) → Reads P (λ _. None) (Err flaw) → Reads Q whole_fault r
plain whole_fault r flaw h out reads =
    let e = err_from_is_err_and r h.1 in
    let is : r ≡ Err flaw = e.1 ∙ ap Err e.2 in
    rw is (plainly whole_fault out flaw reads)

-- the words of a slice, one by one
abbrev pub none : Bor (List ℕ)
none = record { ref_ptr = (0, 0); now = [] }

pub one_word : (words : List (Bor (List ℕ))) → 1 ≤ length words → length words < 2 → texts words ≡ (get_or words 0 none).now ∷ []
one_word (a ∷ []) l h = λ _. (a.now ∷ [])
one_word [] l h = absurd (omega arith)
one_word (a ∷ b ∷ words) l h = absurd (omega arith)

pub two_words : (words : List (Bor (List ℕ))) → 2 ≤ length words → length words < 3 → texts words ≡ (get_or words 0 none).now ∷ ((get_or words 1 none).now ∷ [])
two_words (a ∷ b ∷ []) l h = λ _. (a.now ∷ (b.now ∷ []))
two_words [] l h = absurd (omega arith)
two_words (a ∷ []) l h = absurd (omega arith)
two_words (a ∷ b ∷ c ∷ words) l h = absurd (omega arith)

pub four_words : (words : List (Bor (List ℕ))) → 4 ≤ length words → length words < 5 → texts words ≡ (get_or words 0 none).now ∷ ((get_or words 1 none).now ∷ ((get_or words 2 none).now ∷ ((get_or words 3 none).now ∷ [])))
four_words (a ∷ b ∷ c ∷ d ∷ []) l h = λ _. (a.now ∷ (b.now ∷ (c.now ∷ (d.now ∷ []))))
four_words [] l h = absurd (omega arith)
four_words (a ∷ []) l h = absurd (omega arith)
four_words (a ∷ b ∷ []) l h = absurd (omega arith)
four_words (a ∷ b ∷ c ∷ []) l h = absurd (omega arith)
four_words (a ∷ b ∷ c ∷ d ∷ e ∷ words) l h = absurd (omega arith)

rest_all : (words : List (Bor (List ℕ))) (n : ℕ) → n ≡ length words → texts (take n words) ≡ texts words
rest_all words n e = ap texts (take_all n words (omega arith))

-- some words, and the rest
pub after_one : (words : List (Bor (List ℕ))) → 1 ≤ length words → texts words ≡ (get_or words 0 none).now ∷ texts (take (length words - 1) (drop 1 words))
after_one (a ∷ words) l = ap (λ rest. a.now ∷ rest) (sym (rest_all words (length (a ∷ words) - 1) (omega arith)))
after_one [] l = absurd (omega arith)

pub after_two : (words : List (Bor (List ℕ))) → 2 ≤ length words → texts words ≡ (get_or words 0 none).now ∷ ((get_or words 1 none).now ∷ texts (take (length words - 2) (drop 2 words)))
after_two (a ∷ b ∷ words) l = ap (λ rest. a.now ∷ (b.now ∷ rest)) (sym (rest_all words (length (a ∷ b ∷ words) - 2) (omega arith)))
after_two [] l = absurd (omega arith)
after_two (a ∷ []) l = absurd (omega arith)

pub after_three : (words : List (Bor (List ℕ))) → 3 ≤ length words → texts words ≡ (get_or words 0 none).now ∷ ((get_or words 1 none).now ∷ ((get_or words 2 none).now ∷ texts (take (length words - 3) (drop 3 words))))
after_three (a ∷ b ∷ c ∷ words) l = ap (λ rest. a.now ∷ (b.now ∷ (c.now ∷ rest))) (sym (rest_all words (length (a ∷ b ∷ c ∷ words) - 3) (omega arith)))
after_three [] l = absurd (omega arith)
after_three (a ∷ []) l = absurd (omega arith)
after_three (a ∷ b ∷ []) l = absurd (omega arith)
