-- What an Open of a present node gives, by the first right of its mode that is missing.
use Rattle.std.proofs.Common.{◌≡◌, Option, Some, None, Result, Ok, Err, refl}
use Rattle.std.specs.Option.{option_map_or}
use Rattle.std.specs.Result.{IfOk}
use Rattle.node_core.specs.declared.kinds.Right.{Right}
use Rattle.node_core.specs.declared.refusals.Fault.{Fault}
use Rattle.node_core.specs.declared.refusals.Fault.TheVariants.{Denied}
use Rattle.tags_cell.specs.declared.handles.Handle.{Handle}

-- the refusal by a missing right, or what is given where none is
abbrev pub given : Option Right → Result Handle Fault → Result Handle Fault
given missing opened = option_map_or (λ right. Err (Denied right)) missing opened

pub refused : (missing : Option Right) (right : Right) (opened : Result Handle Fault) → missing ≡ Some right → Err (Denied right) ≡ given missing opened
refused missing right opened is = rw is refl

pub opens : (missing : Option Right) (opened : Result Handle Fault) → missing ≡ None → opened ≡ given missing opened
opens missing opened is = rw is refl

-- what is true of every value that a result may hold
pub by_value : (A E : Type 0) (r : Result A E) (P Q : A → Type 0) → IfOk r P → ((a : A) → P a → Q a) → IfOk r Q
by_value A E (Ok a) P Q h f = f a h
by_value A E (Err e) P Q h f = tt
