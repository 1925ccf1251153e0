use Rattle.std.proofs.Common.{◌≡◌, ℕ, true, subst}
use Rattle.collections.specs.Timers.{has_key}
use Rattle.node_core.specs.Room.{Counts}
use Rattle.lock_core.specs.Claimants.{has}
use Rattle.lock_core.proofs.Firsts.{in_order}
use Rattle.lock_core.proofs.Gathered.{some_of}
use Rattle.lock_core.proofs.ClaimSums.{all_counted}
use Rattle.lock_core.proofs.tables.Locks.claim_count.Goals as goal

pub returns-in-Some : goal.returns-in-Some
returns-in-Some c =
    let P : ℕ → Type 0 = λ count. Counts c.claims_among.result count in
    subst P
    (all_counted c.args.client c.self.inside.locks c.args.self.now c.self.inside.claimants c.in-Some.instances.keys c.self.view_is c.self.invariant.2 (in_order _ _ c.as_map.ensures c.len-ordered.ensures.ordered) c.len-sorted.ensures.ordered
    (some_of _ c.in-Some.instances (λ found. (i : ℕ) → has c.self.inside.claimants c.args.client i ≡ true → has_key found.keys i ≡ true) c.in-Some.is c.in_ok-instances.ensures))
    c.claims_among.ensures
