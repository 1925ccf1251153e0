-- What the bytes of a handle show to who doesn't know the secret: only a master tests their check digits.
use Rattle.std.specs.Prelude.{ℕ, nat_lt, List, length, if◌then◌else◌}
use Rattle.tags_cell.specs.Handles.{number_at, name_in}

-- the instance that stands in its place; 0 where the bytes end before
abbrev pub shown_instance : List ℕ → ℕ
shown_instance bytes = if nat_lt (length bytes) 50 then 0 else number_at 25 bytes

-- the name that stands in its place, whatever it is; empty where the bytes end before
abbrev pub shown_name : List ℕ → List ℕ
shown_name bytes = name_in bytes
