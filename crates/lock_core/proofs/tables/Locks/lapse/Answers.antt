use Rattle.std.proofs.Common.{◌≡◌, ℕ, true, List, subst}
use Rattle.std.specs.Prelude.{IfOk}
use Rattle.collections.specs.Timers.{has_key}
use Rattle.lock_core.specs.declared.turns.Lapse.{Lapse}
use Rattle.lock_core.specs.Claimants.{has}
use Rattle.lock_core.proofs.Firsts.{in_order}
use Rattle.lock_core.proofs.Gathered.{all_gathered, some_of}
use Rattle.lock_core.proofs.tables.Locks.lapse.Goals as goal

pub returns-in-Some : goal.returns-in-Some
returns-in-Some c =
    let P : List Lapse → Type 0 = λ all. IfOk c.lapse_among.result (λ ended. ended ≡ all) in
    subst P
    (all_gathered c.args.parting c.args.client c.args.now c.self.inside.locks c.args.self.now c.self.inside.claimants c.in-Some.instances.keys c.self.view_is c.self.invariant.2 (in_order _ _ c.as_map.ensures c.len-ordered.ensures.ordered) c.len-sorted.ensures.ordered
    (some_of _ c.in-Some.instances (λ found. (i : ℕ) → has c.self.inside.claimants c.args.client i ≡ true → has_key found.keys i ≡ true) c.in-Some.is c.in_ok-instances.ensures))
    c.lapse_among.ensures
