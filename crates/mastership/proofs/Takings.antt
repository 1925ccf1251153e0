-- Takings are of numbers that lie apart.
use Rattle.std.proofs.Common.{◌≡◌, inl, inr, ℕ, ◌+◌, ◌<◌, ◌≤◌, List, [], ◌∷◌, ap, sym, ◌∙◌, refl, arith}
use Rattle.mastership.specs.Numbers.{Taking, Has, AreTakings, Gives, GivenOnce}

same_from : (one other : Taking) → one ≡ other → one.from ≡ other.from
same_from one other e = let f : Taking → ℕ = λ x. x.from in ap f e

same_to : (one other : Taking) → one ≡ other → one.to ≡ other.to
same_to one other e = let f : Taking → ℕ = λ x. x.to in ap f e

-- each ends where the next begins, or before
pub ends_before : (taking : Taking) (before : List Taking) (other : Taking) → AreTakings (taking ∷ before) → Has other before → other.to ≤ taking.from
ends_before taking [] other h k = absurd k
ends_before taking (last ∷ before) other h (inl e) =
    let same : last.to ≡ other.to = same_to last other e in let begins : taking.from ≡ last.to = h.3 last (inl refl) (sym h.0) in omega arith
ends_before taking (last ∷ before) other h (inr k) =
    let least : other.to ≤ last.from = ends_before last before other h.4 k in
    let long : last.from ≤ last.to = h.4.2 in
    let begins : taking.from ≡ last.to = h.3 last (inl refl) (sym h.0) in
    omega arith

apart : (one other : Taking) (given given_there number : ℕ) → other.to ≤ one.from → Gives one.from one.to given number → Gives other.from other.to given_there number → ⊥
apart one other given given_there number less here there =
    let at : number ≡ one.from + given = here.1 in
    let within : other.from + given_there < other.to = there.0 in
    let at_there : number ≡ other.from + given_there = there.1 in
    omega arith

within_one : (one other : Taking) (given given_there number : ℕ) → one ≡ other → Gives one.from one.to given number → Gives other.from other.to given_there number → (one ≡ other) × (given ≡ given_there)
within_one one other given given_there number e here there =
    let same : one.from ≡ other.from = same_from one other e in
    let at : number ≡ one.from + given = here.1 in
    let at_there : number ≡ other.from + given_there = there.1 in
    (e, omega arith)

pub given_once : GivenOnce
given_once [] one other given given_there number h k l here there = absurd k
given_once (last ∷ before) one other given given_there number h (inl e) (inl f) here there =
    within_one one other given given_there number (sym e ∙ f) here there
given_once (last ∷ before) one other given given_there number h (inl e) (inr l) here there =
    let least : other.to ≤ last.from = ends_before last before other h l in
    let same : last.from ≡ one.from = same_from last one e in
    absurd (apart one other given given_there number (omega arith) here there)
given_once (last ∷ before) one other given given_there number h (inr k) (inl f) here there =
    let least : one.to ≤ last.from = ends_before last before one h k in
    let same : last.from ≡ other.from = same_from last other f in
    absurd (apart other one given_there given number (omega arith) there here)
given_once (last ∷ before) one other given given_there number h (inr k) (inr l) here there =
    given_once before one other given given_there number h.4 k l here there
