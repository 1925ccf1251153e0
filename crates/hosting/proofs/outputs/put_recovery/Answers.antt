use Rattle.std.proofs.Common.{[], ◌∷◌, map, Option, sym, subst}
use Rattle.std.specs.Prelude.{OnOk}
use Rattle.hosting.specs.declared.standing.Recovery.{Recovery}
use Rattle.hosting.specs.declared.tellings.MasterFrame.TheVariants.{Recovers, Awaited}
use Rattle.hosting.specs.Replies.{Puts, recovery_told}
use Rattle.hosting.proofs.Streaming.{then_puts, puts_if_at}
use Rattle.hosting.proofs.outputs.put_recovery.Goals as goal

pub returns-in_ok-put_until-in-Some : goal.returns-in_ok-put_until-in-Some
returns-in_ok-put_until-in-Some c =
    let P : Option Recovery → Type 0 = λ asked. OnOk c.put_awaited.result (Puts (recovery_told asked) c.args.out.now.items c.put_awaited.new.out.items) in
    subst P (sym c.in-Some.is)
    (then_puts _ (Recovers c.in-Some.recovery.until ∷ []) (map Awaited c.in-Some.recovery.awaited) _ _ _ c.in_ok-put_until-in-Some.ensures (puts_if_at _ Awaited _ _ _ _ c.as_slice.ensures c.put_awaited.ensures))
