-- Putting a value, and taking it back.
use Rattle.std.specs.Prelude.{List, Option, Some, None}
use Rattle.std.specs.declared.cmp.Ordering.{Ordering}
use Rattle.std.specs.Map.{remove_entry, set_value}
use Rattle.std.specs.BTreeMap.{is_at}

-- a key with the value that it had once, or without one where it had none
abbrev pub with_former : {K V : Type 0} → (K → K → Ordering) → List (K × V) → K → Option V → List (K × V)
with_former cmp entries key None = remove_entry (is_at (cmp key)) entries
with_former cmp entries key (Some value) = set_value (is_at (cmp key)) entries value
