use Rattle.std.proofs.Common.{rules, ◌≡◌, true, false, ◌++◌, ap, ◌∙◌}
use Rattle.cache_core.specs.Changes.{applied_all}
use Rattle.client_core.specs.PartOps.{losses, with_flushes, lease_ops}
use Rattle.client_core.specs.State.{note}
use Rattle.client_core.specs.Gives.{takes_offer}
use Rattle.client_core.proofs.Leading.{if_ok, stays_under, goes_shut, goes_on}
use Rattle.client_core.proofs.client.Client.ops_kept.Goals as goal

pub returns-then-not-takes_offer : goal.returns-then-not-takes_offer
returns-then-not-takes_offer c =
    let s = c.args.self.now in let all = c.args.alive.now.invalidations in let ops = c.in_ok-noted.noted.items in
    let is : c.in_ok-flushed.flushed.items ≡ with_flushes s.processed ops all = search rules in
    let leads : applied_all s.cache ops ≡ (note s c.args.moment).cache = search rules in
    let worse : takes_offer s c.args.alive.now ≡ false = search rules in
    ap (applied_all s.cache) is ∙ stays_under s c.args.moment c.args.alive.now ops leads worse

pub returns-then-self : goal.returns-then-self
returns-then-self c =
    let s = c.args.self.now in let all = c.args.alive.now.invalidations in let ops = c.in_ok-noted.noted.items in
    let is : c.in_ok-flushed.flushed.items ≡ with_flushes s.processed ops all = search rules in
    let leads : applied_all s.cache ops ≡ (note s c.args.moment).cache = search rules in
    let better : takes_offer s c.args.alive.now ≡ true = search rules in
    let leaves : s.leaving ≡ true = search rules in
    let given : c.in_ok-leased.leased.items ≡ c.in_ok-flushed.flushed.items ++ lease_ops c.args.lease c.args.moment = search rules in
    if_ok c.with_losses.result _ _ (λ more h.
    ap (applied_all s.cache) (h ∙ ap (λ l. l ++ losses) (given ∙ (ap (λ l. l ++ lease_ops c.args.lease c.args.moment) is ∙ ap (λ x. with_flushes s.processed ops all ++ lease_ops x c.args.moment) c.requires.lease)))
    ∙ goes_shut s c.args.moment c.args.alive.now ops leads better leaves) c.with_losses.ensures

pub returns : goal.returns
returns c =
    let s = c.args.self.now in let all = c.args.alive.now.invalidations in let ops = c.in_ok-noted.noted.items in
    let is : c.in_ok-flushed.flushed.items ≡ with_flushes s.processed ops all = search rules in
    let leads : applied_all s.cache ops ≡ (note s c.args.moment).cache = search rules in
    let better : takes_offer s c.args.alive.now ≡ true = search rules in
    let stays : s.leaving ≡ false = search rules in
    let given : c.in_ok-leased.leased.items ≡ c.in_ok-flushed.flushed.items ++ lease_ops c.args.lease c.args.moment = search rules in
    ap (applied_all s.cache) (given ∙ (ap (λ l. l ++ lease_ops c.args.lease c.args.moment) is ∙ ap (λ x. with_flushes s.processed ops all ++ lease_ops x c.args.moment) c.requires.lease))
    ∙ goes_on s c.args.moment c.args.alive.now ops leads better stays
