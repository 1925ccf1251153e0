-- A store whose last commit stands in order.
use Rattle.sqlite_trees.specs.Objects.{catalog_tree, IsListed}
use Rattle.sqlite_trees.specs.View.{View, IsOrdered}

-- the trees of the last commit are listed, and the rows of each are in order
pub record StandsInOrder (v : View) : Type 0 where
  pub listed : IsListed (v.committed catalog_tree) v.committed_shape v.committed_reals
  pub ordered : IsOrdered v.committed_shape v.committed
