use Rattle.std.proofs.Common.{List, subst}
use Rattle.std.specs.List.Sorted.{IsStrictlySortedBy}
use Rattle.std.specs.Map.{keys_of}
use Rattle.master_parts.specs.declared.handles.HandleKey.{HandleKey}
use Rattle.master_parts.specs.declared.handles.HandleState.{HandleState}
use Rattle.master_parts.specs.Keys.{handle_order}
use Rattle.master_state.proofs.ToldHandles.{told_all}
use Rattle.master_state.proofs.masters.Master.tellings_among.Goals as goal

pub returns : goal.returns
returns c =
    let P : List (HandleKey × Unit {0}) → Type 0 = λ l. IsStrictlySortedBy handle_order (keys_of l) in
    let Q : List (HandleKey × HandleState) → Type 0 = λ l. IsStrictlySortedBy handle_order (keys_of l) in
    let sorted : P c.args.keys.now = subst P c.as_map-key-items.ensures c.into_iter-key-iterator.ensures.into_iter_gives.5 in
    told_all c.args.self.now c.args.note.now c.args.notices.now c.args.keys.now c.loop-key.key-iterator c.loop-key.tellings (subst Q c.handles.ensures c.len-count.ensures.ordered) sorted c.requires c.in-None.ensures.steps.0 c.loop-key.invariant
