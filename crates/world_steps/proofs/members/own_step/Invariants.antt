use Rattle.std.proofs.Common.{◌≡◌, drop}
use Rattle.std.specs.Map.{lookup}
use Rattle.std.specs.BTreeMap.{is_at}
use Rattle.std.specs.Ordering.{nat_cmp}
use Rattle.world_steps.proofs.members.own_step.Given as goal

-- what is left finds the same step
abbrev pub invariant-loop-entry : goal.invariant-loop-entry
invariant-loop-entry l =
    lookup (is_at (nat_cmp l.number)) (drop l.entry-index l.fn.ticks.own) ≡ lookup (is_at (nat_cmp l.number)) l.fn.ticks.own
