-- The numbers of clients: they are taken many at once, by compare and swap at one register, and given one by one.
use Rattle.std.specs.Prelude.{◌≡◌, ◌⊎◌, ℕ, ◌+◌, ◌<◌, ◌≤◌, List, [], ◌∷◌}

-- a taking: over which revision it was done, and which it made; from which number on, and up to which one that it leaves to the next
pub record Taking : Type 0 where
  pub over : ℕ
  pub made : ℕ
  pub from : ℕ
  pub to : ℕ

-- where the register stands after these, the last of them first; 0 before the first
abbrev pub revision : List Taking → ℕ
revision [] = 0
revision (taking ∷ before) = taking.made

abbrev pub Has : Taking → List Taking → Type 0
Has taking [] = ⊥
Has taking (last ∷ before) = (last ≡ taking) ⊎ Has taking before

-- who takes begins where the one ended that made the revision over which it takes: that is what it has read
abbrev pub HasRead : Taking → List Taking → Type 0
HasRead taking before = (other : Taking) → Has other before → other.made ≡ taking.over → taking.from ≡ other.to

-- takings by compare and swap, the last first
abbrev pub AreTakings : List Taking → Type 0
AreTakings [] = Unit {0}
AreTakings (taking ∷ before) = (taking.over ≡ revision before) × (taking.over < taking.made) × (taking.from ≤ taking.to) × HasRead taking before × AreTakings before

-- so many of a taking are given already, and this number is the next
abbrev pub Gives : ℕ → ℕ → ℕ → ℕ → Type 0
Gives from to given number = (from + given < to) × (number ≡ from + given)

-- a number is given once: by one taking of all that there ever are, and of that one in one place
abbrev pub GivenOnce : Type 0
GivenOnce =
    (takings : List Taking) (one other : Taking) (given given_there number : ℕ) →
    AreTakings takings →
    Has one takings →
    Has other takings →
    Gives one.from one.to given number →
    Gives other.from other.to given_there number →
    (one ≡ other) × (given ≡ given_there)
