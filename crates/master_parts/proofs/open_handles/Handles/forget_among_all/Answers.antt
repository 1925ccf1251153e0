use Rattle.std.proofs.Common.{sym, ap, ◌∙◌, arith}
use Rattle.std.specs.Prelude.{length, ◌+◌}
use Rattle.master_parts.specs.OpenHandles.{without_client}
use Rattle.master_parts.proofs.Parted.{open_first, left_none, taken_same, one_less}
use Rattle.master_parts.proofs.open_handles.Handles.forget_among_all.Goals as goal

pub loop-key-preserved : goal.loop-key-preserved
loop-key-preserved c =
    let taken = open_first c.args.client c.loop-key.self c.in-Some.key c.first_of_client.result c.first_of_client.ensures.ordered c.first_of_client.ensures.found c.in-Some.is in
    ap (λ es. without_client es c.args.client) c.take.ensures ∙ taken_same c.args.client c.loop-key.self c.in-Some.key taken.state taken.there taken.goes ∙ c.loop-key.invariant

pub loop-key-smaller : goal.loop-key-smaller
loop-key-smaller c =
    let taken = open_first c.args.client c.loop-key.self c.in-Some.key c.first_of_client.result c.first_of_client.ensures.ordered c.first_of_client.ensures.found c.in-Some.is in
    let less = ap (λ es. length es + 1) c.take.ensures ∙ one_less c.loop-key.self c.in-Some.key taken.state taken.there in
    omega (arith, less)

pub returns : goal.returns
returns c = sym (left_none c.args.client c.loop-key.self c.first_of_client.result c.first_of_client.ensures.ordered c.first_of_client.ensures.found c.in_default.is) ∙ c.loop-key.invariant
