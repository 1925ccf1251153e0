use Rattle.std.proofs.Common.{◌≡◌, subst, ◌∙◌, arith}
use Rattle.hosting.specs.Pieces.{HeldPieces, room_beside}
use Rattle.hosting.proofs.PieceLaws.{room_is}
use Rattle.hosting.proofs.pieces.Pieces.room_beside.Goals as goal

pub returns : goal.returns
returns c =
    let P : HeldPieces → Type 0 = λ h. c.bytes_left.result ≡ room_beside h c.args.edits.now in
    subst P c.self.view_is (c.bytes_left.ensures ∙ room_is (record { limits = c.self.inside.limits; full = c.self.inside.full.items; last = c.self.inside.last }) c.args.edits.now c.self.inside.left c.self.invariant c.requires c.if-more-self.false
    (omega (arith, c.len.ensures, c.if-len-self.false)))
