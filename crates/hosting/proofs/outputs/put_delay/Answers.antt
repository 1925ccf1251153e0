use Rattle.std.proofs.Common.{[], ◌∷◌, map}
use Rattle.hosting.specs.declared.tellings.MasterFrame.TheVariants.{Waits, Touches, Awaited}
use Rattle.hosting.proofs.Streaming.{puts_behind, then_puts, puts_at, puts_if_at}
use Rattle.hosting.proofs.outputs.put_delay.Goals as goal

pub returns : goal.returns
returns c =
    let delay = c.args.delay.now in
    then_puts _ (Waits delay.number ∷ map Touches delay.touched) (map Awaited delay.awaited) _ _ _
    (puts_behind (Waits delay.number ∷ []) (map Touches delay.touched) _ _ _ c.in_ok-put_number.ensures (puts_at Touches _ _ _ _ c.as_slice.ensures c.in_ok-put_names.ensures))
    (puts_if_at _ Awaited _ _ _ _ c.as_slice-2.ensures c.put_awaited.ensures)
