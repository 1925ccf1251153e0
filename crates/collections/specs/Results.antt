-- What a call answers, where want of memory may stand in the place of the answer.
use Rattle.std.specs.Prelude.{◌≡◌, ◌≢◌, Result, Ok, Err}

-- the answer is the wanted one, unless memory ran out
abbrev pub Gives : {X E : Type 0} → E → Result X E → Result X E → Type 0
Gives no_memory (Ok x) wanted = wanted ≡ Ok x
Gives no_memory (Err e) wanted = e ≢ no_memory → wanted ≡ Err e
