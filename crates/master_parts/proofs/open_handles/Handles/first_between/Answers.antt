use Rattle.std.proofs.Common.{◌≡◌, rules, sym, ap, ◌∙◌}
use Rattle.std.specs.Prelude.{find}
use Rattle.std.specs.declared.ops.Bound.TheVariants.{Included, Excluded}
use Rattle.std.specs.BTreeMap.Range.{entries_between}
use Rattle.master_parts.specs.Keys.{handle_order}
use Rattle.master_parts.specs.OpenHandles.{goes_with}
use Rattle.master_parts.proofs.Parted.{walked_here, walked_on, walked_out}
use Rattle.master_parts.proofs.open_handles.Handles.first_between.Goals as goal

pub loop-key-init : goal.loop-key-init
loop-key-init c =
    let between : c.range-key-items.result ≡ entries_between handle_order (Included c.args.first.now) (Excluded c.args.end.now) c.as_map.result.now.entries = search rules in
    ap (find (goes_with c.args.client)) (c.into_iter-key-iterator.ensures.into_iter_gives ∙ between ∙ ap (λ l. entries_between handle_order (Included c.args.first.now) (Excluded c.args.end.now) l) (c.as_map.ensures ∙ c.self.view_is))

pub returns-then-goes_with-clause-found : goal.returns-then-goes_with-clause-found
returns-then-goes_with-clause-found c =
    walked_here (goes_with c.args.client) (entries_between handle_order (Included c.args.first.now) (Excluded c.args.end.now) c.args.self.now) c.loop-key.key-iterator c.loop-key.invariant c.next.new.self c.in-Some.key.now c.in-Some.state.now c.in-Some.ensures.steps (sym c.goes_with.ensures ∙ c.if-goes_with.true)

pub loop-key-preserved : goal.loop-key-preserved
loop-key-preserved c =
    walked_on (goes_with c.args.client) (entries_between handle_order (Included c.args.first.now) (Excluded c.args.end.now) c.args.self.now) c.loop-key.key-iterator c.loop-key.invariant c.next.new.self c.in-Some.key.now c.in-Some.state.now c.in-Some.ensures.steps (sym c.goes_with.ensures ∙ c.if-goes_with.false)

pub returns-clause-found : goal.returns-clause-found
returns-clause-found c =
    walked_out (goes_with c.args.client) (entries_between handle_order (Included c.args.first.now) (Excluded c.args.end.now) c.args.self.now) c.loop-key.key-iterator c.loop-key.invariant c.in-None.ensures.steps.0
