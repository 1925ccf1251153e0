-- The statements that read the tables.
use Rattle.std.specs.Prelude.{List, ℕ, codes}

abbrev pub read_meta_text : List ℕ
read_meta_text = codes "SELECT id, version, cell, secret, epoch, next_instance FROM meta ORDER BY id"

abbrev pub read_nodes_text : List ℕ
read_nodes_text = codes "SELECT name, instance, kind, life, content_gen, acl_gen, lock_gen, acl_read, acl_write, acl_change, content FROM nodes ORDER BY name"

abbrev pub read_sessions_text : List ℕ
read_sessions_text = codes "SELECT client, principal, live FROM sessions ORDER BY client"

abbrev pub read_locks_text : List ℕ
read_locks_text = codes "SELECT instance, client, handle, mode, delay FROM locks ORDER BY instance, client, handle"

abbrev pub read_children_text : List ℕ
read_children_text = codes "SELECT parent, child FROM children ORDER BY parent, child"
