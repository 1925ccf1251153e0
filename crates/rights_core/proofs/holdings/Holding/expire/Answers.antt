use Rattle.std.proofs.Common.{◌≡◌, false, [], length, rules, tests, ap, ◌∙◌, arith}
use Rattle.std.specs.Prelude.{filter}
use Rattle.std.specs.VecDeque.{deque_capacity}
use Rattle.std.proofs.lemmas.Map.Made.{filter_same_pairs}
use Rattle.rights_core.specs.declared.endings.Ending.TheVariants as endings
use Rattle.rights_core.specs.Holds.{Holds}
use Rattle.rights_core.specs.Indexes.{left_by}
use Rattle.rights_core.proofs.Waiting.{none_called, none_left}
use Rattle.rights_core.proofs.holdings.Holding.expire.Goals as goal

pub invariant_of-self : goal.invariant_of-self
invariant_of-self c =
    let kept : c.retain.new.self ≡ filter (λ e. false) c.self.inside.rights = filter_same_pairs _ (λ e. false) _ (λ k v b w f h. search (rules, tests)) _ _ c.retain.ensures in
    none_called c.self.inside.invalidations (deque_capacity c.clear.new.self) c.retain.new.self c.clear.new.self.items (kept ∙ none_left c.self.inside.rights) c.clear.ensures.items

pub returns-clause-left : goal.returns-clause-left
returns-clause-left c =
    let kept : c.retain.new.self ≡ filter (λ e. false) c.self.inside.rights = filter_same_pairs _ (λ e. false) _ (λ k v b w f h. search (rules, tests)) _ _ c.retain.ensures in
    let now : ◌≡◌ {A = Holds} (record { invalidations = c.self.inside.invalidations; rights = c.retain.new.self }) (record { invalidations = c.self.inside.invalidations; rights = filter (λ e. false) c.self.inside.rights }) = ap (λ rs. record { invalidations = c.self.inside.invalidations; rights = rs }) kept in
    now ∙ ap (left_by endings.Expiry) c.self.view_is

pub returns-clause-count : goal.returns-clause-count
returns-clause-count c =
    let kept : c.retain.new.self ≡ filter (λ e. false) c.self.inside.rights = filter_same_pairs _ (λ e. false) _ (λ k v b w f h. search (rules, tests)) _ _ c.retain.ensures in
    let before : c.len-count.result ≡ length c.self.inside.rights = c.len-count.ensures.len ∙ ap length c.as_map.ensures in
    let none : length c.retain.new.self ≡ 0 = ap length (kept ∙ none_left c.self.inside.rights) in
    let same : length c.self.inside.rights ≡ length c.args.self.now.rights = ap {A = Holds} (λ h. length h.rights) c.self.view_is in
    omega arith
