use Rattle.std.proofs.Common.{◌≡◌, sym, ap, ◌∙◌}
use Rattle.names_cell.specs.Text.{last_of}
use Rattle.names_cell.proofs.Parts.{last_is_component, last_of_path}
use Rattle.names_cell.proofs.paths.Name.last_component.Goals as goal

pub known-requires : goal.known-requires
known-requires c = rw c.last_of.ensures (last_is_component c.path.result.now c.path.ensures.components)

pub returns : goal.returns
returns c =
    let e : c.last_of.result.now ≡ last_of c.args.self.now = c.last_of.ensures ∙ sym (last_of_path c.path.result.now) ∙ ap last_of (sym c.path.ensures.path) in
    rw e at c.known.ensures
