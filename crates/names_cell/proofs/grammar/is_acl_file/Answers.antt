use Rattle.std.proofs.Common.{◌≡◌, ◌∙◌, ℕ, ◌+◌, ◌-◌, ◌==◌, false, ap, sym, arith, length}
use Rattle.std.specs.List.{list_all}
use Rattle.std.proofs.lemmas.Bool.Decides.{nat_tests}
use Rattle.names_cell.specs.Text.{is_component}
use Rattle.names_cell.proofs.Lines.{ended_at, not_ended}
use Rattle.names_cell.proofs.grammar.is_acl_file.Goals as goal

one_less : (n : ℕ) → false ≡ (n == 0) → n - 1 + 1 ≡ n
one_less n h = grind (arith, nat_tests)

pub returns-then-content-last-eq10 : goal.returns-then-content-last-eq10
returns-then-content-last-eq10 c =
    c.are_principals.ensures
    ∙ sym (ap (list_all is_component) (ended_at c.args.content.now _ (one_less (length c.args.content.now) c.if-is_empty.ensures) c.if-content-last-eq10.true))

pub returns-else-content-last-eq10 : goal.returns-else-content-last-eq10
returns-else-content-last-eq10 c =
    c.are_principals-else-content-last-eq10.ensures
    ∙ sym (ap (list_all is_component) (not_ended c.args.content.now (length c.args.content.now - 1) (one_less (length c.args.content.now) c.if-is_empty.ensures) c.if-content-last-eq10.false))
