use Rattle.std.proofs.Common.{refl, ap, ◌∙◌, arith}
use Rattle.std.specs.Prelude.{length, ◌+◌}
use Rattle.master_parts.proofs.Parted.{leaving_first, leaving_more, leaving_last, first_open, one_less}
use Rattle.master_parts.proofs.open_handles.Handles.forget_between.Goals as goal

pub loop-key-init : goal.loop-key-init
loop-key-init c = leaving_first c.args.client c.args.end c.args.first c.args.self.now c.args.self.now refl c.requires.order c.requires.inside

pub first_between-requires : goal.first_between-requires
first_between-requires c = c.loop-key.invariant.order

pub loop-key-preserved : goal.loop-key-preserved
loop-key-preserved c =
    leaving_more c.args.client c.args.end c.loop-key.from c.args.self.now c.loop-key.self c.first_between.ensures.ordered c.loop-key.invariant c.first_between.result c.first_between.ensures.found c.in-Some.key c.in-Some.is c.take.new.self c.take.ensures

pub loop-key-smaller : goal.loop-key-smaller
loop-key-smaller c =
    let taken =
    first_open c.args.client c.args.end c.loop-key.from c.args.self.now c.loop-key.self c.first_between.ensures.ordered c.loop-key.invariant c.first_between.result c.first_between.ensures.found c.in-Some.key c.in-Some.is in
    let less = ap (λ es. length es + 1) c.take.ensures ∙ one_less c.loop-key.self c.in-Some.key taken.state taken.there in
    omega (arith, less)

pub returns : goal.returns
returns c =
    leaving_last c.args.client c.args.end c.loop-key.from c.args.self.now c.loop-key.self c.first_between.ensures.ordered c.loop-key.invariant c.first_between.result c.first_between.ensures.found c.in_default.is
