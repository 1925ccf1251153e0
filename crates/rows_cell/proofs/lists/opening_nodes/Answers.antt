use Rattle.std.proofs.Common.{◌≡◌, [], rules}
use Rattle.std.specs.Prelude.{codes}
use Rattle.node_core.specs.declared.kinds.Kind.TheVariants.{File, Directory}
use Rattle.rows_cell.specs.Opening.{opening_node}
use Rattle.rows_cell.proofs.OpeningRows.{put_as}
use Rattle.rows_cell.proofs.lists.opening_nodes.Goals as goal

pub returns : goal.returns
returns c =
    let root : opening_node Directory 1 c.args.base.now c.in_ok-nothing.nothing ≡ opening_node Directory 1 (codes "base") [] = cc (c.in_ok-nothing.ensures, c.requires) in
    let directory : opening_node Directory 2 c.args.base.now c.in_ok-nothing-2.nothing ≡ opening_node Directory 2 (codes "base") [] = cc (c.in_ok-nothing-2.ensures, c.requires) in
    let file : opening_node File 3 c.args.base.now c.in_ok-content.content ≡ opening_node File 3 (codes "base") c.args.settings.now.base = cc (c.in_ok-content.ensures.cases, c.base.ensures.base, c.requires) in
    put_as c.args.settings.now.cell c.in_ok-root.root c.in_ok-root.directory c.in_ok-root.file _ _ _ _ _ _ c.put_opening.new.nodes c.put_opening-2.new.nodes c.put_opening-3.new.nodes (search rules) (search rules) (search rules) (search rules) (search rules) (search rules) root directory file
