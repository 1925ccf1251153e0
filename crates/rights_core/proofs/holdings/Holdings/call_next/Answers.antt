use Rattle.std.proofs.Common.{◌≤◌, refl, sym, subst, ap, ◌∙◌, cond, Some}
use Rattle.std.specs.Prelude.{◌==◌}
use Rattle.node_core.specs.Limits.{number_limit}
use Rattle.rights_core.specs.declared.holdings.Holding.{Holding}
use Rattle.rights_core.specs.Indexes.{or_empty, holding_in, next_asked, asked_once}
use Rattle.rights_core.proofs.Places.{holding_set, holding_none}
use Rattle.rights_core.proofs.Asks.{once_alone}
use Rattle.rights_core.proofs.holdings.Holdings.call_next.Goals as goal

pub call_next-requires : goal.call_next-requires
call_next-requires c =
    let P : Holding → Type 0 = λ h. h.invalidations ≤ number_limit in
    subst P (sym (ap or_empty c.in-Some.ensures.value ∙ ap (λ es. holding_in c.args.client es) c.self.view_is)) c.requires

pub returns-in_default-clause-asked : goal.returns-in_default-clause-asked
returns-in_default-clause-asked c =
    ap (λ o. next_asked c.args.number (or_empty o)) c.in_default.ensures.value ∙ ap (λ es. next_asked c.args.number (holding_in c.args.client es)) c.self.view_is

pub returns-in_default-clause-holdings : goal.returns-in_default-clause-holdings
returns-in_default-clause-holdings c = λ other.
    holding_none c.self.inside.map c.args.client (λ h. asked_once (Some c.args.number) h) (sym c.in_default.ensures.value) refl other
    ∙ (ap (λ es. cond (other == c.args.client) (asked_once (Some c.args.number) (holding_in other es)) (holding_in other es)) c.self.view_is
    ∙ sym (once_alone other c.args.client c.args.number (holding_in other c.args.self.now)))

pub returns-clause-asked : goal.returns-clause-asked
returns-clause-asked c =
    c.call_next.ensures.asked
    ∙ (ap (λ o. next_asked c.args.number (or_empty o)) c.in-Some.ensures.value ∙ ap (λ es. next_asked c.args.number (holding_in c.args.client es)) c.self.view_is)

pub returns-clause-holdings : goal.returns-clause-holdings
returns-clause-holdings c = λ other.
    holding_set c.self.inside.map c.args.client c.in-Some.holding.now c.call_next.new.self (sym c.in-Some.ensures.value) (λ h. asked_once (Some c.args.number) h) c.call_next.ensures.holding other
    ∙ (ap (λ es. cond (other == c.args.client) (asked_once (Some c.args.number) (holding_in other es)) (holding_in other es)) c.self.view_is
    ∙ sym (once_alone other c.args.client c.args.number (holding_in other c.args.self.now)))
