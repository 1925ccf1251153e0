-- What becomes of a table once a borrow of one of its values ends.
use Rattle.std.specs.Prelude.{List, Option}
use Rattle.std.specs.Borrow.{LendsIf, MutBor, Fml, RattleType}
use Rattle.std.specs.Map.{set_value}
use Rattle.std.specs.BTreeMap.{is_at}
use Rattle.std.specs.BTreeMap.Lent.{OrdMembers}
use Rattle.collections.specs.contracts.tables.Table.{the_row}

-- the key has the value that is left behind the borrow; where the key isn't there, the table stays
abbrev pub LendsValue : (K V : RattleType) (g : OrdMembers K.Denot) → MutBor (List (K.Denot × V.Denot)) → K.Denot → Option (MutBor V.Denot) → Fml
LendsValue K V g table key r =
    LendsIf (the_row K V (record { cmp = g.cmp }) (record { eq = g.eq }) (record { partial_cmp = g.partial_cmp })) V table r (set_value (is_at (g.cmp key)) table.now) table.now
