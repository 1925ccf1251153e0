-- Counting the live sessions.
use Rattle.std.proofs.Common.{◌≡◌, ℕ, ◌+◌, ◌≤◌, List, [], ◌∷◌, length, true, false, cond, ap, ◌∙◌, arith}
use Rattle.std.specs.Prelude.{filter}
use Rattle.rows_cell.specs.declared.tables.SessionRow.{SessionRow}

abbrev pub live_in : List (ℕ × SessionRow) → ℕ
live_in sessions = length (filter (λ e. e.1.live) sessions)

-- those that were counted, and those that are left
pub record IsCounted (all left : List (ℕ × SessionRow)) (live : ℕ) : Type 0 where
  pub sum : live + live_in left ≡ live_in all

pub count_start : (all left : List (ℕ × SessionRow)) (live : ℕ) → left ≡ all → live ≡ 0 → IsCounted all left live
count_start all left live l n =
    let same : live_in left ≡ live_in all = ap (λ xs. live_in xs) l in
    record { sum = omega (arith, same, n) }

one_live : (k : ℕ) (s : SessionRow) (next : List (ℕ × SessionRow)) → s.live ≡ true → live_in ((k, s) ∷ next) ≡ live_in next + 1
one_live k s next h = ap (λ b. length (cond b ((k, s) ∷ filter (λ e. e.1.live) next) (filter (λ e. e.1.live) next))) h ∙ (let e : length ((k, s) ∷ filter (λ x. x.1.live) next) ≡ live_in next + 1 = omega arith in e)

none_live : (k : ℕ) (s : SessionRow) (next : List (ℕ × SessionRow)) → s.live ≡ false → live_in ((k, s) ∷ next) ≡ live_in next
none_live k s next h = ap (λ b. length (cond b ((k, s) ∷ filter (λ e. e.1.live) next) (filter (λ e. e.1.live) next))) h

pub count_more : (all left next : List (ℕ × SessionRow)) (k : ℕ) (s : SessionRow) (live : ℕ) → IsCounted all left live → left ≡ (k, s) ∷ next → s.live ≡ true → IsCounted all next (live + 1)
count_more all left next k s live h l e =
    let here : live_in left ≡ live_in next + 1 = ap (λ xs. live_in xs) l ∙ one_live k s next e in
    let sum = h.sum in
    record { sum = omega (arith, here, sum) }

pub count_none : (all left next : List (ℕ × SessionRow)) (k : ℕ) (s : SessionRow) (live : ℕ) → IsCounted all left live → left ≡ (k, s) ∷ next → s.live ≡ false → IsCounted all next live
count_none all left next k s live h l e =
    let here : live_in left ≡ live_in next = ap (λ xs. live_in xs) l ∙ none_live k s next e in
    let sum = h.sum in
    record { sum = omega (arith, here, sum) }

most_live : (xs : List (ℕ × SessionRow)) → live_in xs ≤ length xs
most_live [] = omega arith
most_live (e ∷ es) =
    let rest = most_live es in
    elim e.1.live as (λ b. length (cond b (e ∷ filter (λ x. x.1.live) es) (filter (λ x. x.1.live) es)) ≤ length (e ∷ es)) [
      | true ↦ omega (arith, rest)
      | false ↦ omega (arith, rest)
    ]

-- one more fits where the count of all does
pub count_fits : (all left next : List (ℕ × SessionRow)) (k : ℕ) (s : SessionRow) (live : ℕ) → IsCounted all left live → left ≡ (k, s) ∷ next → s.live ≡ true → live + 1 ≤ length all
count_fits all left next k s live h l e =
    let here : live_in left ≡ live_in next + 1 = ap (λ xs. live_in xs) l ∙ one_live k s next e in
    let sum = h.sum in
    let most = most_live all in
    omega (arith, here, sum, most)

pub count_done : (all left : List (ℕ × SessionRow)) (live : ℕ) → IsCounted all left live → left ≡ [] → live ≡ live_in all
count_done all left live h l =
    let none : live_in left ≡ 0 = ap (λ xs. live_in xs) l in
    let sum = h.sum in
    omega (arith, none, sum)
