-- The words of a line.
use Rattle.std.proofs.Common.{◌≡◌, ◌∷◌, [], suc, List, ℕ, Bool, true, false, length, Result, Ok, Err, refl, sym, ap, subst, arith, ◌∙◌, Bor}
use Rattle.std.specs.Prelude.{◌==◌, ◌||◌}
use Rattle.std.specs.List.{list_any, slice_split}
use Rattle.std.proofs.lemmas.Bool.{eqb-true}
use Rattle.world_steps.specs.declared.steps.Step.{Step}
use Rattle.scripts.specs.declared.steps.Flaw.{Flaw}
use Rattle.scripts.specs.declared.steps.Flaw.TheVariants.{Bad, Refused, NoMemory}
use Rattle.scripts.specs.Steps.{WritesStep, WritesWords, WritesLine, texts, is_blank, is_space, step_fault}
use Rattle.scripts.specs.Readings.{Reads}

not_zero : (n : ℕ) (b : Bool) → (suc n == 0) ≡ b → b ≡ false
not_zero n false e = refl
not_zero n true e = let zero = eqb-true (suc n) 0 e in absurd (omega arith)

blank_is : (bytes : List ℕ) → (length bytes == 0) ≡ is_blank bytes
blank_is [] = refl
blank_is (b ∷ bs) = not_zero (length bs) (suc (length bs) == 0) refl

pub any_blank : (words : List (Bor (List ℕ))) → list_any (λ word. length word.now == 0) words ≡ list_any is_blank (texts words)
any_blank [] = refl
any_blank (word ∷ words) = (λ i. blank_is word.now i || any_blank words i)

-- a word without a byte
pub blank_line : (line : List ℕ) (words : List (List ℕ)) → words ≡ slice_split is_space line → list_any is_blank words ≡ true → (step : Step) → WritesLine line step → ⊥
blank_line line words are blank step w =
    let there : list_any is_blank (slice_split is_space line) ≡ true = ap (list_any is_blank) (sym are) ∙ blank in
    let none = w.0 in
    cc

line_out : (parts words rest : List (List ℕ)) (word : List ℕ) → words ≡ parts → words ≡ word ∷ rest → (step : Step) → WritesWords parts step → WritesStep word rest step
line_out parts words rest word are shape step w = subst (λ x. WritesWords x step) (sym are ∙ shape) w

line_in : (parts words rest : List (List ℕ)) (word : List ℕ) → words ≡ parts → words ≡ word ∷ rest → list_any is_blank words ≡ false → (step : Step) → WritesStep word rest step → (list_any is_blank parts ≡ false) × WritesWords parts step
line_in parts words rest word are shape full step w =
    (ap (list_any is_blank) (sym are) ∙ full, subst (λ x. WritesWords x step) (sym shape ∙ are) w)

pub line_read : (line : List ℕ) (words rest : List (List ℕ)) (word : List ℕ) → words ≡ slice_split is_space line → words ≡ word ∷ rest → list_any is_blank words ≡ false → (r : Result Step Flaw) → Reads (WritesStep word rest) step_fault r → Reads (WritesLine line) step_fault r
line_read line words rest word are shape full (Ok step) h = (line_in (slice_split is_space line) words rest word are shape full step h.0, h.1)
line_read line words rest word are shape full (Err Bad) h = λ step w. h step (line_out (slice_split is_space line) words rest word are shape step w.1)
line_read line words rest word are shape full (Err (Refused fault)) h = (h.0, line_in (slice_split is_space line) words rest word are shape full h.0 h.1, h.2)
line_read line words rest word are shape full (Err NoMemory) h = tt
