use Rattle.std.proofs.Common.{◌≡◌, length, take}
use Rattle.std.specs.Vec.{vec_len, vec_capacity}
use Rattle.hosting.specs.Runs.{Serves}
use Rattle.hosting.proofs.runs.serve.Given as goal

abbrev pub invariant-loop-message : goal.invariant-loop-message
invariant-loop-message g l = record {
  served : Serves l.fn.cell (take l.message-index l.asked) l.answers.items l.cell;
  many : vec_len l.answers ≡ l.message-index;
  room : vec_capacity l.answers ≡ length l.asked;
}
