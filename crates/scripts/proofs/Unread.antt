-- What is wrong with the table of a text is why the text says no settings.
use Rattle.std.proofs.Common.{◌≡◌, List, ℕ, Some, Ok, Err}
use Rattle.std.specs.Prelude.{Result, IfErr}
use Rattle.toml.specs.Data.{Members}
use Rattle.toml.specs.Parse.{parse_document}
use Rattle.rows_cell.specs.Settings.{Settled}
use Rattle.scripts.specs.declared.faults.TextFault.{TextFault}
use Rattle.scripts.specs.declared.faults.TextFault.TheVariants.{NoMemory, NotToml, UnknownKey, WrongCell, WrongLease, WrongPrincipals, WrongSecret, WrongLimits}
use Rattle.scripts.specs.Said.{IsFault, IsUnread}

unread_by : (text : List ℕ) (said : Members) → parse_document text ≡ Some said → (fault : TextFault) → IsFault said fault → IsUnread text fault
unread_by text said parsed NoMemory h = h
unread_by text said parsed (NotToml error) h = absurd h
unread_by text said parsed (UnknownKey key) h = (said, parsed, h)
unread_by text said parsed WrongCell h = (said, parsed, h)
unread_by text said parsed WrongLease h = (said, parsed, h)
unread_by text said parsed WrongPrincipals h = (said, parsed, h)
unread_by text said parsed WrongSecret h = (said, parsed, h)
unread_by text said parsed WrongLimits h = (said, parsed, h)

pub unread : {X : Type 0} (text : List ℕ) (said : Members) → parse_document text ≡ Some said → (r : Result X TextFault) → IfErr r (λ fault. IsFault said fault) → IfErr r (λ fault. IsUnread text fault)
unread text said parsed (Ok x) h = h
unread text said parsed (Err fault) h = unread_by text said parsed fault h
