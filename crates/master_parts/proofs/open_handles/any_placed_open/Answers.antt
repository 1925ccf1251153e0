use Rattle.std.proofs.Common.{List, rules, sym, ◌∙◌}
use Rattle.std.specs.List.Sorted.{IsStrictlySortedBy}
use Rattle.std.specs.Map.{keys_of}
use Rattle.master_parts.specs.declared.handles.HandleKey.{HandleKey}
use Rattle.master_parts.specs.declared.handles.HandleState.{HandleState}
use Rattle.master_parts.specs.declared.open_handles.PlaceOnNode.{PlaceOnNode}
use Rattle.master_parts.specs.Keys.{handle_order}
use Rattle.master_parts.specs.OpenHandles.{place_order}
use Rattle.master_parts.proofs.OpenOn.{open_found, open_none}
use Rattle.master_parts.proofs.open_handles.any_placed_open.Goals as goal

pub returns-then-is_known_open : goal.returns-then-is_known_open
returns-then-is_known_open c =
    let P : List (HandleKey × HandleState) → Type 0 = λ l. IsStrictlySortedBy handle_order (keys_of l) in
    let Q : List (PlaceOnNode × HandleKey) → Type 0 = λ l. IsStrictlySortedBy place_order (keys_of l) in
    let sorted : P c.args.states.now = search rules in
    let in_order : Q c.args.places.now = search rules in
    open_found c.args.states.now c.args.places.now c.args.sessions.now c.args.instance sorted in_order c.requires.placed c.loop-key.key-iterator c.next.new.self c.in-Some.field-0-0.now c.in-Some.key.now c.in-Some.ensures.steps c.loop-key.invariant (sym c.is_known_open.ensures ∙ c.if-is_known_open.true)

pub returns : goal.returns
returns c =
    let P : List (HandleKey × HandleState) → Type 0 = λ l. IsStrictlySortedBy handle_order (keys_of l) in
    let Q : List (PlaceOnNode × HandleKey) → Type 0 = λ l. IsStrictlySortedBy place_order (keys_of l) in
    let sorted : P c.args.states.now = search rules in
    let in_order : Q c.args.places.now = search rules in
    open_none c.args.states.now c.args.places.now c.args.sessions.now c.args.instance sorted in_order c.requires.placed c.loop-key.key-iterator c.in-None.ensures.steps.0 c.loop-key.invariant
