use Rattle.std.proofs.Common.{ℕ, List, sym, subst, ap, ◌∙◌}
use Rattle.std.specs.Prelude.{fold}
use Rattle.std.specs.Ordering.{nat_cmp}
use Rattle.std.specs.List.Sorted.{IsStrictlySortedBy}
use Rattle.std.specs.Map.{lookup, keys_of}
use Rattle.std.specs.BTreeMap.{is_at}
use Rattle.rights_core.specs.Indexes.{or_nobody, holding_in, asked_once, asks_among}
use Rattle.rights_core.proofs.Places.{nobody_ordered}
use Rattle.rights_core.proofs.rights.ask_keepers.Goals as goal

pub returns-in-Some-clause-ordered : goal.returns-in-Some-clause-ordered
returns-in-Some-clause-ordered g c = subst (λ (l : List (ℕ × ℕ)). IsStrictlySortedBy nat_cmp (keys_of l)) (ap or_nobody c.in-Some.ensures) c.ask_clients.ensures.ordered

pub returns-in-Some-clause-holdings : goal.returns-in-Some-clause-holdings
returns-in-Some-clause-holdings g c = λ other.
    c.ask_clients.ensures.holdings other ∙ ap (λ o. asked_once (lookup (is_at (nat_cmp other)) (or_nobody o)) (holding_in other c.args.holdings.now)) c.in-Some.ensures

pub returns-in-Some-clause-issued : goal.returns-in-Some-clause-issued
returns-in-Some-clause-issued g c =
    c.ask_clients.ensures.issued ∙ ap (λ o. fold g.I.Issues.issued c.args.issues.now (asks_among c.args.holdings.now (or_nobody o))) c.in-Some.ensures

pub returns-in-None-clause-ordered : goal.returns-in-None-clause-ordered
returns-in-None-clause-ordered g c = nobody_ordered _ (sym c.in-None.ensures)

pub returns-in-None-clause-holdings : goal.returns-in-None-clause-holdings
returns-in-None-clause-holdings g c = λ other. ap (λ o. asked_once (lookup (is_at (nat_cmp other)) (or_nobody o)) (holding_in other c.args.holdings.now)) c.in-None.ensures

pub returns-in-None-clause-issued : goal.returns-in-None-clause-issued
returns-in-None-clause-issued g c = ap (λ o. fold g.I.Issues.issued c.args.issues.now (asks_among c.args.holdings.now (or_nobody o))) c.in-None.ensures
