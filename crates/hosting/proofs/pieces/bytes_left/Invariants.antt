use Rattle.std.proofs.Common.{◌≡◌, drop}
use Rattle.hosting.specs.Pieces.{bytes_left}
use Rattle.hosting.proofs.pieces.bytes_left.Given as goal

abbrev pub invariant-loop-edit : goal.invariant-loop-edit
invariant-loop-edit l = bytes_left l.left (drop l.edit-index l.edits) ≡ bytes_left l.room l.edits
