use Rattle.std.proofs.Common.{take}
use Rattle.scripts.specs.Steps.{WritesOwn, texts}
use Rattle.scripts.proofs.steps.own_ticks.Given as goal

abbrev pub invariant-loop-word : goal.invariant-loop-word
invariant-loop-word l = WritesOwn (texts (take l.word-index l.words)) l.own
