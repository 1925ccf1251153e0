use Rattle.std.proofs.Common.{rules}
use Rattle.world_steps.specs.Members.{at_up}
use Rattle.world_steps.proofs.MembersMove.{each_written}
use Rattle.world_steps.proofs.members.WorldClients.come_up.Goals as goal

pub returns : goal.returns
returns c = rw (← c.self.view_is) (each_written _ (λ number. at_up c.args.now) _ (λ k v b w f h. search rules) _ _ c.retain.ensures.filtered)
