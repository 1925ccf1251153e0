use Rattle.std.proofs.Common.{[], ◌∷◌}
use Rattle.hosting.specs.declared.tellings.MasterFrame.TheVariants.{Counts}
use Rattle.hosting.specs.Replies.{recovery_told, delays_told}
use Rattle.hosting.proofs.Streaming.{puts_behind, then_puts, delays_if_at}
use Rattle.hosting.proofs.outputs.put_standing.Goals as goal

pub returns : goal.returns
returns c =
    let standing = c.args.standing.now in
    then_puts _ (Counts standing.counts ∷ recovery_told standing.recovery) (delays_told standing.longest) _ _ _
    (puts_behind (Counts standing.counts ∷ []) (recovery_told standing.recovery) _ _ _ c.in_ok-put_counts.ensures c.in_ok-put_recovery.ensures)
    (delays_if_at _ _ _ _ _ c.as_slice.ensures c.put_delays.ensures)
