use Rattle.std.proofs.Common.{◌≡◌}
use Rattle.std.specs.Prelude.{find}
use Rattle.std.specs.declared.ops.Bound.TheVariants.{Included, Excluded}
use Rattle.std.specs.BTreeMap.Range.{entries_between}
use Rattle.master_parts.specs.Keys.{handle_order}
use Rattle.master_parts.specs.OpenHandles.{goes_with}
use Rattle.master_parts.proofs.open_handles.Handles.first_between.Given as goal

abbrev pub invariant-loop-key : goal.invariant-loop-key
invariant-loop-key l = find (goes_with l.client) l.key-iterator ≡ find (goes_with l.client) (entries_between handle_order (Included l.first) (Excluded l.end) l.self)
