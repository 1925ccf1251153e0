use Rattle.std.proofs.Common.{◌∙◌, rules}
use Rattle.over_core.proofs.KeptByTakes.{taken_kept, client_is_number}
use Rattle.hosting.proofs.holds.Group.take.Goals as goal

pub invariant_of-self : goal.invariant_of-self
invariant_of-self g c =
    let in_range = client_is_number _ c.get-client.result (c.get-client.ensures.value ∙ c.client.ensures) c.get-client.ensures.range in
    record { kept = taken_kept _ _ c.self.inside.master c.take.new.self _ c.args.request.now c.take.result c.self.invariant.kept in_range c.take.ensures.ok c.take.ensures.err; settled = c.self.invariant.settled; sound = c.self.invariant.sound; taken = c.self.invariant.taken }

pub returns-clause-ok : goal.returns-clause-ok
returns-clause-ok g c = search rules
