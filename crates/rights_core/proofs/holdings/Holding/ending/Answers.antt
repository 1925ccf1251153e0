use Rattle.std.proofs.Common.{◌≡◌, ℕ, List, sym, subst, ap, ◌∙◌}
use Rattle.std.specs.Prelude.{map, filter, IfOk}
use Rattle.rights_core.specs.declared.cache_rights.CacheRight.{CacheRight}
use Rattle.rights_core.specs.declared.endings.Ending.{Ending}
use Rattle.rights_core.specs.Rights.{is_ended_by}
use Rattle.rights_core.proofs.Waiting.{all_expire, all_leave}
use Rattle.rights_core.proofs.holdings.Holding.ending.Goals as goal

pub returns-in-Expiry : goal.returns-in-Expiry
returns-in-Expiry c =
    let Q : List ℕ → Type 0 = λ l. IfOk c.all.result (λ numbers. numbers.items ≡ l) in
    subst Q
    (all_expire c.args.self.now.rights
    ∙ ap {A = Ending} (λ e. map (λ (p : ℕ × CacheRight). p.0) (filter (λ (p : ℕ × CacheRight). is_ended_by e p.1.invalidation) c.args.self.now.rights)) (sym c.in-Expiry.is))
    c.all.ensures

pub returns-in-Leave : goal.returns-in-Leave
returns-in-Leave c =
    let Q : List ℕ → Type 0 = λ l. IfOk c.all-in-Leave.result (λ numbers. numbers.items ≡ l) in
    subst Q
    (all_leave c.args.self.now.rights
    ∙ ap {A = Ending} (λ e. map (λ (p : ℕ × CacheRight). p.0) (filter (λ (p : ℕ × CacheRight). is_ended_by e p.1.invalidation) c.args.self.now.rights)) (sym c.in-Leave.is))
    c.all-in-Leave.ensures
