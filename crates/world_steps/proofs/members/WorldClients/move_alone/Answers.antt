use Rattle.std.proofs.Common.{rules}
use Rattle.std.specs.Prelude.{nat_le}
use Rattle.lease_core.specs.Lease.{moment_limit}
use Rattle.world_steps.specs.Members.{moved_alone, clock_then}
use Rattle.world_steps.proofs.MembersMove.{each_written_early}
use Rattle.world_steps.proofs.members.WorldClients.move_alone.Goals as goal

pub returns : goal.returns
returns c = rw (← c.self.view_is) (λ early. each_written_early _ (λ number member. moved_alone (clock_then c.args.ticks.now number member) member) _ (λ entry. nat_le moment_limit (clock_then c.args.ticks.now entry.0 entry.1)) (λ k v b w f in_time h. search rules) _ _ early c.retain.ensures.filtered)
