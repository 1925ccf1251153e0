use Rattle.std.proofs.Common.{◌≡◌, drop}
use Rattle.cell_core.specs.Step.{asking_for}
use Rattle.cell_core.proofs.asking.ask_all.Given as goal

abbrev pub invariant-loop-name : goal.invariant-loop-name
invariant-loop-name l = asking_for l.master (drop l.name-index l.names) ≡ asking_for l.fn.master l.names
