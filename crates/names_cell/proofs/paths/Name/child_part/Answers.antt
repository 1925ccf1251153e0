use Rattle.std.proofs.Common.{Some, sym, ap, ◌∙◌}
use Rattle.names_cell.proofs.Children.{part_is_component, a_part, no_part}
use Rattle.names_cell.proofs.paths.Name.child_part.Goals as goal

pub known-requires : goal.known-requires
known-requires c = part_is_component c.args.top.now c.args.self.now c.behind-part.result.now c.behind-part.ensures.name c.behind-part.ensures.joined (sym c.in-None.ensures)

pub returns-in-Some : goal.returns-in-Some
returns-in-Some c = sym (no_part c.args.top.now c.args.self.now c.behind-part.result.now _ c.behind-part.ensures.above c.behind-part.ensures.joined (sym c.in-Some.ensures))

pub returns-in_ok-known-in-None : goal.returns-in_ok-known-in-None
returns-in_ok-known-in-None c = ap Some c.in_ok-known-in-None.ensures ∙ sym (a_part c.args.top.now c.args.self.now c.behind-part.result.now c.behind-part.ensures.above c.behind-part.ensures.joined (sym c.in-None.ensures))
