use Rattle.std.proofs.Common.{◌≡◌, All, vec_len}
use Rattle.share_cell.specs.Published.{opening}
use Rattle.share_cell.proofs.keeper.seats.Given as goal

abbrev pub invariant-loop : goal.invariant-loop
invariant-loop l = (vec_len l.seats ≡ l.counter) × All (λ x. x ≡ opening) l.seats.items
