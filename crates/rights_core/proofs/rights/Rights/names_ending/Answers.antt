use Rattle.std.proofs.Common.{◌≡◌, List, ℕ, None, subst, ap, ◌∙◌}
use Rattle.std.specs.Prelude.{IfOk}
use Rattle.rights_core.specs.Rights.{names_ending}
use Rattle.rights_core.specs.Indexes.{or_empty}
use Rattle.rights_core.proofs.Named.{told_names_ending}
use Rattle.rights_core.proofs.rights.Rights.names_ending.Goals as goal

pub returns-in-Some : goal.returns-in-Some
returns-in-Some c =
    let Q : List (List ℕ) → Type 0 = λ l. IfOk c.names_ending.result (λ names. names ≡ l) in
    subst Q
    (told_names_ending c.in-Some.holding.now c.self.inside.history.rights c.args.client c.args.ending (ap or_empty c.in-Some.ensures ∙ c.self.invariant.indexed.owned c.args.client)
    ∙ ap (names_ending c.args.client c.args.ending) c.self.view_is)
    c.names_ending.ensures

pub returns-in-None : goal.returns-in-None
returns-in-None c =
    c.new.ensures
    ∙ (told_names_ending (or_empty None) c.self.inside.history.rights c.args.client c.args.ending (ap or_empty c.in-None.ensures ∙ c.self.invariant.indexed.owned c.args.client)
    ∙ ap (names_ending c.args.client c.args.ending) c.self.view_is)
