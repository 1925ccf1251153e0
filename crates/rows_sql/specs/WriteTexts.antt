-- The statements that do the ten edits.
use Rattle.std.specs.Prelude.{List, ℕ, codes}

abbrev pub set_epoch_text : List ℕ
set_epoch_text = codes "UPDATE meta SET epoch = ?1 WHERE id = 1"

abbrev pub set_next_instance_text : List ℕ
set_next_instance_text = codes "UPDATE meta SET next_instance = ?1 WHERE id = 1 AND next_instance <> ?1"

abbrev pub set_ended_below_text : List ℕ
set_ended_below_text = codes "UPDATE meta SET version = ?1 WHERE id = 1"

abbrev pub renew_node_text : List ℕ
renew_node_text = codes "UPDATE nodes SET instance = ?2, kind = ?3, life = ?4, content_gen = ?5, acl_gen = ?6, acl_read = ?7, acl_write = ?8, acl_change = ?9, content = ?10 WHERE name = ?1"

abbrev pub add_node_text : List ℕ
add_node_text = codes "INSERT INTO nodes (name, instance, kind, life, content_gen, acl_gen, lock_gen, acl_read, acl_write, acl_change, content) VALUES (?1, ?2, ?3, ?4, ?5, ?6, 0, ?7, ?8, ?9, ?10)"

abbrev pub set_lock_generation_text : List ℕ
set_lock_generation_text = codes "UPDATE nodes SET lock_gen = ?2 WHERE name = ?1"

abbrev pub remove_node_text : List ℕ
remove_node_text = codes "DELETE FROM nodes WHERE name = ?1"

abbrev pub put_session_text : List ℕ
put_session_text = codes "INSERT INTO sessions (client, principal, live) VALUES (?1, ?2, ?3) ON CONFLICT (client) DO UPDATE SET principal = excluded.principal, live = excluded.live"

abbrev pub remove_session_text : List ℕ
remove_session_text = codes "DELETE FROM sessions WHERE client = ?1"

abbrev pub put_lock_text : List ℕ
put_lock_text = codes "INSERT INTO locks (instance, client, handle, mode, delay) VALUES (?1, ?2, ?3, ?4, ?5) ON CONFLICT (instance, client, handle) DO UPDATE SET mode = excluded.mode, delay = excluded.delay"

abbrev pub remove_lock_text : List ℕ
remove_lock_text = codes "DELETE FROM locks WHERE instance = ?1 AND client = ?2 AND handle = ?3"
