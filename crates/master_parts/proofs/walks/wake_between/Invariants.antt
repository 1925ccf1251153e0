use Rattle.std.specs.declared.ops.Bound.TheVariants.{Included, Excluded}
use Rattle.std.specs.BTreeMap.Range.{entries_between}
use Rattle.master_parts.specs.Keys.{handle_order}
use Rattle.master_parts.proofs.Looked.{Woken}
use Rattle.master_parts.proofs.walks.wake_between.Given as goal

abbrev pub invariant-loop-state : goal.invariant-loop-state
invariant-loop-state l = Woken (entries_between handle_order (Included l.fn.first) (Excluded l.fn.end) l.handles) l.state-iterator l.initial.candidates l.candidates
