-- Where the bytes of a component lie.
use Rattle.std.specs.Prelude.{ℕ, List, string_bytes}
use Rattle.names_cell.specs.declared.components.Kept.{Kept}
use Rattle.names_cell.specs.declared.components.Kept.TheVariants.{Here, Apart}

abbrev pub kept_text : Kept → List ℕ
kept_text (Here text) = text.bytes
kept_text (Apart text) = string_bytes text
