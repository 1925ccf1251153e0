-- The words for the small choices.
use Rattle.std.specs.Prelude.{ℕ, List, codes}
use Rattle.node_core.specs.declared.kinds.Kind.{Kind}
use Rattle.node_core.specs.declared.kinds.Kind.TheVariants.{File, Directory}
use Rattle.node_core.specs.declared.kinds.Life.{Life}
use Rattle.node_core.specs.declared.kinds.Life.TheVariants.{Permanent, Ephemeral}
use Rattle.node_core.specs.declared.kinds.Right.{Right}
use Rattle.node_core.specs.declared.kinds.Right.TheVariants.{Read, Write, Change}
use Rattle.node_core.specs.declared.kinds.LockMode.{LockMode}
use Rattle.node_core.specs.declared.kinds.LockMode.TheVariants.{Exclusive, Shared}

abbrev pub kind_text : Kind → List ℕ
kind_text File = codes "file"
kind_text Directory = codes "dir"

abbrev pub life_text : Life → List ℕ
life_text Permanent = codes "permanent"
life_text Ephemeral = codes "ephemeral"

abbrev pub right_text : Right → List ℕ
right_text Read = codes "read"
right_text Write = codes "write"
right_text Change = codes "change"

abbrev pub lock_mode_text : LockMode → List ℕ
lock_mode_text Exclusive = codes "x"
lock_mode_text Shared = codes "s"
