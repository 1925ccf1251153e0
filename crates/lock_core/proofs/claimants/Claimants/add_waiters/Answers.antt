use Rattle.std.proofs.Common.{get_or, drop, ◌+◌}
use Rattle.std.proofs.lemmas.List.{drop_more}
use Rattle.node_core.specs.declared.kinds.LockMode.TheVariants.{Exclusive}
use Rattle.lock_core.specs.declared.claims.Claim.{Claim}
use Rattle.lock_core.specs.Turns.{is_of_client}
use Rattle.lock_core.proofs.Listed.{added_more, of_its_client}
use Rattle.lock_core.proofs.claimants.Claimants.add_waiters.Goals as goal

pub loop-claim-preserved : goal.loop-claim-preserved
loop-claim-preserved c =
    let none : Claim = record { owner = record { client = 0; handle = 0 }; hold = record { mode = Exclusive; delay = 0 } } in
    let claim : Claim = get_or c.args.waiters.now c.loop-claim.claim-index none in
    added_more (λ n x. is_of_client n x.owner) c.args.instance c.args.self.now c.loop-claim.self c.add.new.self claim (drop c.loop-claim.claim-index c.args.waiters.now) (drop (c.loop-claim.claim-index + 1) c.args.waiters.now) c.args.waiters.now
    (drop_more c.args.waiters.now c.loop-claim.claim-index none c.loop-claim-test.true) (of_its_client c.add.new.self claim.owner.client c.args.instance c.add.ensures.own) c.add.ensures.kept c.loop-claim.invariant
