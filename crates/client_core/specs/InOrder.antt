-- The numbers of what an Alive carries.
use Rattle.std.specs.Prelude.{ℕ, ◌+◌, ◌==◌, ◌&&◌, nat_le, Bool, true, List, [], ◌∷◌}

-- each number is one more than the one before
abbrev pub follow : ℕ → List ℕ → Bool
follow last [] = true
follow last (next ∷ others) = next == last + 1 && follow next others

-- they rise by one, and begin at most one above what was processed
abbrev pub are_in_order : ℕ → List ℕ → Bool
are_in_order processed [] = true
are_in_order processed (first ∷ others) = nat_le first (processed + 1) && follow first others
