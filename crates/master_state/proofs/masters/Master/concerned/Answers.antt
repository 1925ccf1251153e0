use Rattle.std.proofs.Common.{◌≡◌, ◌+◌, ◌<◌, suc, length, rules, [], ◌∷◌, drop, drop-cons, add-one, sym, ap, ◌∙◌, arith}
use Rattle.std.proofs.lemmas.List.{drop_all}
use Rattle.master_state.proofs.ToldHandles.{concern_more, concern_last}
use Rattle.master_state.proofs.masters.Master.concerned.Goals as goal

pub loop-notice-preserved : goal.loop-notice-preserved
loop-notice-preserved c =
    let all = c.args.notices.now in
    let i = c.loop-notice.notice-index in
    let rest = drop (i + 1) all in
    let within : i < length all = search rules in
    let step : drop i all ≡ c.notice-item.result ∷ rest = rw add-one (drop-cons all i c.notice-item.result within ∙ ap (λ x. x ∷ drop (suc i) all) (sym c.notice-item.is)) in
    concern_more c.args.self.now all (drop i all) rest c.notice-item.result c.loop-notice.keys c.add_concerned.new.keys step c.in_ok-add_concerned.ensures.kept c.in_ok-add_concerned.ensures.found c.loop-notice.invariant

pub returns : goal.returns
returns c =
    let none : drop c.loop-notice.notice-index c.args.notices.now ≡ [] = drop_all c.loop-notice.notice-index c.args.notices.now (grind (arith, c.loop-notice-test.false)) in
    concern_last c.args.self.now c.args.notices.now (drop c.loop-notice.notice-index c.args.notices.now) c.loop-notice.keys none c.loop-notice.invariant
