use Rattle.std.proofs.Common.{◌≡◌, rules, ap, ◌∙◌}
use Rattle.std.specs.declared.ops.Bound.TheVariants.{Included, Excluded}
use Rattle.std.specs.BTreeMap.Range.{entries_between}
use Rattle.master_parts.specs.Keys.{handle_order}
use Rattle.master_parts.proofs.Looked.{wake_first, wake_more, wake_last}
use Rattle.master_parts.proofs.walks.wake_between.Goals as goal

pub loop-state-init : goal.loop-state-init
loop-state-init c =
    let between : c.range-state-items.result ≡ entries_between handle_order (Included c.args.first) (Excluded c.args.end) c.as_map.result.now.entries = search rules in
    wake_first (entries_between handle_order (Included c.args.first) (Excluded c.args.end) c.args.handles.now) c.into_iter-state-iterator.result c.args.candidates.now
    (c.into_iter-state-iterator.ensures.into_iter_gives ∙ between ∙ ap (λ l. entries_between handle_order (Included c.args.first) (Excluded c.args.end) l) (c.as_map.ensures ∙ c.states.ensures))

pub loop-state-preserved : goal.loop-state-preserved
loop-state-preserved c =
    wake_more (entries_between handle_order (Included c.args.first) (Excluded c.args.end) c.args.handles.now) c.loop-state.state-iterator c.next.new.self c.in-Some.field-0-0.now c.in-Some.state.now c.args.candidates.now c.loop-state.candidates c.wake_open.new.candidates c.in-Some.ensures.steps c.wake_open.ensures.own c.wake_open.ensures.leads c.wake_open.ensures.kept c.loop-state.invariant

pub returns-clause-own : goal.returns-clause-own
returns-clause-own c = wake_last (entries_between handle_order (Included c.args.first) (Excluded c.args.end) c.args.handles.now) c.loop-state.state-iterator c.args.candidates.now c.loop-state.candidates c.in-None.ensures.steps.0 c.loop-state.invariant
