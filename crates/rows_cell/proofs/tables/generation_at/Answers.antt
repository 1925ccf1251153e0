use Rattle.std.proofs.Common.{◌≡◌, ◌∙◌, ap, sym, Some, None}
use Rattle.std.specs.Option.{option_map_or, option_copied}
use Rattle.rows_cell.specs.Rows.{stored_node}
use Rattle.rows_cell.proofs.tables.generation_at.Goals as goal

pub returns-in-Some : goal.returns-in-Some
returns-in-Some c =
    let there : stored_node c.args.nodes.now c.args.name.now ≡ Some c.in-Some.node.now = sym c.get.ensures ∙ ap option_copied c.in-Some.is in
    sym (ap (λ found. option_map_or (λ node. node.lock_generation) found 0) there)

pub returns-in-None : goal.returns-in-None
returns-in-None c =
    let absent : stored_node c.args.nodes.now c.args.name.now ≡ None = sym c.get.ensures ∙ ap option_copied c.in-None.is in
    sym (ap (λ found. option_map_or (λ node. node.lock_generation) found 0) absent)
