-- The clients that hold one name, as they are kept: one alone needs no table.
use Rattle.std.specs.Prelude.{ℕ, List, [], ◌∷◌}
use Rattle.rights_core.specs.declared.clients.Holders.{Holders}
use Rattle.rights_core.specs.declared.clients.Holders.TheVariants as holders

-- in the order of their numbers, each with its right's number
abbrev pub listed : Holders → List (ℕ × ℕ)
listed holders.Nobody = []
listed (holders.One client number) = (client, number) ∷ []
listed (holders.Many table) = table
