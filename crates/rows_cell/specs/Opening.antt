-- The rows of a new store.
use Rattle.std.specs.Prelude.{ℕ, List, [], ◌∷◌, ◌++◌, codes}
use Rattle.names_cell.specs.Text.{root_of}
use Rattle.node_core.specs.declared.kinds.Kind.{Kind}
use Rattle.node_core.specs.declared.kinds.Kind.TheVariants.{File, Directory}
use Rattle.node_core.specs.declared.kinds.Life.TheVariants.{Permanent}
use Rattle.rows_cell.specs.Settings.{Settled}
use Rattle.rows_cell.specs.declared.tables.StoredNode.{StoredNode}
use Rattle.rows_cell.specs.declared.tables.Rows.{Rows}

abbrev pub first_content_generation : Kind → ℕ
first_content_generation File = 1
first_content_generation Directory = 0

-- a new node under one ACL
abbrev pub opening_node : Kind → ℕ → List ℕ → List ℕ → StoredNode
opening_node kind instance acl content = record {
  node = record {
    kind = kind;
    instance = instance;
    content_generation = first_content_generation kind;
    acl_generation = 1;
    read = acl;
    write = acl;
    change = acl;
    life = Permanent;
    content = content;
  };
  lock_generation = 0;
}

-- the rows of a new store: the root, the directory of the ACLs, and the ACL `base`
abbrev pub opening : Settled → Rows
opening settings = record {
  cell = settings.cell;
  secret = settings.secret;
  epoch = 0;
  next_instance = 4;
  nodes = (root_of settings.cell, opening_node Directory 1 (codes "base") [])
      ∷ (root_of settings.cell ++ codes "/acl", opening_node Directory 2 (codes "base") [])
      ∷ (root_of settings.cell ++ codes "/acl/base", opening_node File 3 (codes "base") settings.base) ∷ [];
  sessions = [];
  ended_below = 0;
  locks = [];
}
