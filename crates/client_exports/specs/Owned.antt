-- What a place for a handle owns.
use base.Fml.{Fml, ftrue}
use Rattle.std.specs.Prelude.{Option, Some, None}

-- what is owned of a value, if there is one
abbrev pub owns_if : {X : Type 0} → (X → Fml) → Option X → Fml
owns_if owns None = ftrue
owns_if owns (Some x) = owns x
