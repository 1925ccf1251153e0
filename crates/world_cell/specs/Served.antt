-- What clients serve from their caches, by the lines of a world.
use Rattle.std.specs.Prelude.{◌≡◌, ℕ, List, ◌∷◌, ◌++◌, Option}
use Rattle.node_core.specs.declared.lines.Line.{Line}
use Rattle.node_core.specs.declared.lines.Line.TheVariants as lines
use Rattle.node_core.specs.declared.views.View.{View}
use Rattle.node_core.specs.Nodes.{Nodes, view_at}
use Rattle.world_cell.specs.Runs.{map_at}

-- each served line shows what this map holds of its name: the view of a node, or that there is none
abbrev pub ServesPresent : Nodes → List Line → Type 0
ServesPresent nodes printed =
    (before rest : List Line) (client : ℕ) (name : List ℕ) (entry : Option View) → printed ≡ before ++ lines.Served client name entry ∷ rest → entry ≡ view_at nodes name

-- each served line shows what the map holds of its name by then: that which the lines before it make of the opening one
abbrev pub ServesPresentByThen : Nodes → List Line → Type 0
ServesPresentByThen opening printed =
    (before rest : List Line) (client : ℕ) (name : List ℕ) (entry : Option View) → printed ≡ before ++ lines.Served client name entry ∷ rest → entry ≡ view_at (map_at opening before) name
