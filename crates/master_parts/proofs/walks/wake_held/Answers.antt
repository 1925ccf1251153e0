use Rattle.std.proofs.Common.{List, rules}
use Rattle.std.specs.List.Sorted.{IsStrictlySortedBy}
use Rattle.std.specs.Map.{keys_of}
use Rattle.master_parts.specs.declared.handles.HandleKey.{HandleKey}
use Rattle.master_parts.specs.declared.handles.HandleState.{HandleState}
use Rattle.master_parts.specs.declared.handles.HandleState.TheVariants.{Open}
use Rattle.master_parts.specs.Keys.{handle_order}
use Rattle.master_parts.proofs.Looked.{of_client}
use Rattle.master_parts.proofs.walks.wake_held.Goals as goal

pub returns-in-Some-Some-clause-own : goal.returns-in-Some-Some-clause-own
returns-in-Some-Some-clause-own c = λ key noted q there mine led.
    let P : List (HandleKey × HandleState) → Type 0 = λ l. IsStrictlySortedBy handle_order (keys_of l) in
    let sorted : P c.args.handles.now = search rules in
    c.wake_between.ensures.own key noted q
    (of_client c.args.handles.now c.args.client c.in-Some.next c.in-Some-Some.first c.in-Some-Some.end key (Open noted) sorted c.in-Some-Some.ensures c.in-Some-Some.ensures' c.in-Some.ensures.1 mine (c.requires key (Open noted) there) there)
    led
