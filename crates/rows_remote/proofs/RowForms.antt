-- Rows and edits are read as they were written.
use Rattle.std.proofs.Common.{◌≡◌, ℕ, List, [], ◌∷◌, ◌++◌, Ok, refl, arith}
use Rattle.rows_cell.specs.declared.tables.Edit.{Edit}
use Rattle.rows_cell.specs.declared.tables.Edit.TheVariants as edits
use Rattle.rows_cell.specs.declared.tables.LockState.TheVariants.{Lapsed, Exclusive, Shared}
use Rattle.codec.specs.declared.faults.WireFault.TheVariants.{BadNumber}
use Rattle.codec.specs.Forms.{choice}
use Rattle.codec.specs.Fields.{name, block}
use Rattle.codec.proofs.FormLaws.{IsBytes, IsShort, IsForm, TakesKind, TakesRoom, flags_form, pair_form, made_form, tested_form, choice_form, of_kind_form, behind_takes, behind_again, listed_form}
use Rattle.codec.proofs.FieldLaws.{word_form, block_form, name_form, component_form}
use Rattle.codec.proofs.OutLaws.{node_form}
use Rattle.rows_remote.specs.declared.frames.Row.{Row}
use Rattle.rows_remote.specs.declared.frames.Row.TheVariants as rows
use Rattle.rows_remote.specs.declared.kinds.RowKind.{RowKind}
use Rattle.rows_remote.specs.declared.kinds.RowKind.TheVariants as row_of
use Rattle.rows_remote.specs.declared.kinds.EditKind.{EditKind}
use Rattle.rows_remote.specs.declared.kinds.EditKind.TheVariants as edit_of
use Rattle.rows_remote.specs.Forms.{stored, session, lock_key, state_place, lock_state, lock_row, is_secret, secret, named, numbered, keyed, all_rows, row_place, row_kind, row_is, row_bytes, row_behind, row, all_of_rows, whole, node_put, generation_set, all_edits, edit_place, edit_kind, edit_is, edit_bytes, edit_behind, edit, all_of_edits}

pub stored_form : IsForm stored
unfolding stored
stored_form = made_form (λ x. record { node = x.0; lock_generation = x.1 }) (λ s. (s.node, s.lock_generation)) (λ a h. refl) (λ b. refl) (pair_form node_form word_form)

pub session_form : IsForm session
unfolding session
session_form = made_form (λ x. record { principal = x.0; live = x.1 }) (λ s. (s.principal, s.live)) (λ a h. refl) (λ b. refl) (pair_form component_form flags_form)

pub lock_key_form : IsForm lock_key
unfolding lock_key
lock_key_form =
    made_form (λ x. record { instance = x.0; client = x.1.0; handle = x.1.1 }) (λ k. (k.instance, (k.client, k.handle))) (λ a h. refl) (λ b. refl)
    (pair_form word_form (pair_form word_form word_form))

pub lock_state_form : IsForm lock_state
unfolding lock_state
lock_state_form = choice_form (Lapsed ∷ Exclusive ∷ Shared ∷ []) state_place refl

pub lock_row_form : IsForm lock_row
unfolding lock_row
lock_row_form = made_form (λ x. record { state = x.0; delay = x.1 }) (λ r. (r.state, r.delay)) (λ a h. refl) (λ b. refl) (pair_form lock_state_form word_form)

pub secret_form : IsForm secret
unfolding secret
secret_form = tested_form BadNumber is_secret block_form

pub named_form : IsForm named
unfolding named
named_form = pair_form name_form stored_form

pub numbered_form : IsForm numbered
unfolding numbered
numbered_form = pair_form word_form session_form

pub keyed_form : IsForm keyed
unfolding keyed
keyed_form = pair_form lock_key_form lock_row_form

-- ---- rows

row_any : (x : Row) → (choice all_rows row_place).is (row_kind x)
row_any (rows.Node text stands) = refl
row_any (rows.Session client stands) = refl
row_any (rows.Lock key stands) = refl

row_takes : (k : RowKind) (bytes : List ℕ) (x : Row) (rest : List ℕ) → (choice all_rows row_place).is k → IsBytes bytes → row_behind k bytes ≡ Ok (x, rest)
    → TakesKind row_kind row_is row_bytes k bytes x rest
row_takes row_of.Node bytes x rest placed fits e = behind_takes (λ x. rows.Node x.0 x.1) row_of.Node named_form (λ a. refl) (λ a h. h) (λ a. refl) bytes x rest fits e
row_takes row_of.Session bytes x rest placed fits e = behind_takes (λ x. rows.Session x.0 x.1) row_of.Session numbered_form (λ a. refl) (λ a h. h) (λ a. refl) bytes x rest fits e
row_takes row_of.Lock bytes x rest placed fits e = behind_takes (λ x. rows.Lock x.0 x.1) row_of.Lock keyed_form (λ a. refl) (λ a h. h) (λ a. refl) bytes x rest fits e

row_again : (x : Row) (rest : List ℕ) → row_is x → IsShort (row_bytes x) → row_behind (row_kind x) (row_bytes x ++ rest) ≡ Ok (x, rest)
row_again (rows.Node text stands) rest holds short = behind_again (λ x. rows.Node x.0 x.1) named_form (text, stands) rest holds short
row_again (rows.Session client stands) rest holds short = behind_again (λ x. rows.Session x.0 x.1) numbered_form (client, stands) rest holds short
row_again (rows.Lock key stands) rest holds short = behind_again (λ x. rows.Lock x.0 x.1) keyed_form (key, stands) rest holds short

pub row_form : IsForm row
unfolding row
row_form = of_kind_form row_kind row_is row_bytes row_behind (choice_form all_rows row_place refl) row_any row_takes row_again

row_room : TakesRoom row
unfolding row
row_room x = omega arith

pub all_of_rows_form : IsForm all_of_rows
unfolding all_of_rows
all_of_rows_form = listed_form row_room row_form

pub whole_form : IsForm whole
unfolding whole
whole_form =
    made_form (λ x. record { number = x.0; cell = x.1.0; secret = x.1.1.0; epoch = x.1.1.1.0; next_instance = x.1.1.1.1.0; ended_below = x.1.1.1.1.1.0; rows = x.1.1.1.1.1.1 })
    (λ w. (w.number, (w.cell, (w.secret, (w.epoch, (w.next_instance, (w.ended_below, w.rows))))))) (λ a h. refl) (λ b. refl)
    (pair_form word_form (pair_form component_form (pair_form secret_form (pair_form word_form (pair_form word_form (pair_form word_form all_of_rows_form))))))

-- ---- edits

pub node_put_form : IsForm node_put
unfolding node_put
node_put_form = pair_form name_form node_form

pub generation_set_form : IsForm generation_set
unfolding generation_set
generation_set_form = pair_form name_form word_form

edit_any : (x : Edit) → (choice all_edits edit_place).is (edit_kind x)
edit_any (edits.Epoch epoch) = refl
edit_any (edits.NextInstance next) = refl
edit_any (edits.PutNode text stands) = refl
edit_any (edits.LockGeneration text generation) = refl
edit_any (edits.RemoveNode text) = refl
edit_any (edits.PutSession client stands) = refl
edit_any (edits.PutLock key stands) = refl
edit_any (edits.RemoveLock key) = refl
edit_any (edits.RemoveSession client) = refl
edit_any (edits.EndedBelow next) = refl

edit_takes : (k : EditKind) (bytes : List ℕ) (x : Edit) (rest : List ℕ) → (choice all_edits edit_place).is k → IsBytes bytes → edit_behind k bytes ≡ Ok (x, rest)
    → TakesKind edit_kind edit_is edit_bytes k bytes x rest
edit_takes edit_of.Epoch bytes x rest placed fits e = behind_takes edits.Epoch edit_of.Epoch word_form (λ a. refl) (λ a h. h) (λ a. refl) bytes x rest fits e
edit_takes edit_of.NextInstance bytes x rest placed fits e = behind_takes edits.NextInstance edit_of.NextInstance word_form (λ a. refl) (λ a h. h) (λ a. refl) bytes x rest fits e
edit_takes edit_of.PutNode bytes x rest placed fits e = behind_takes (λ x. edits.PutNode x.0 x.1) edit_of.PutNode node_put_form (λ a. refl) (λ a h. h) (λ a. refl) bytes x rest fits e
edit_takes edit_of.LockGeneration bytes x rest placed fits e = behind_takes (λ x. edits.LockGeneration x.0 x.1) edit_of.LockGeneration generation_set_form (λ a. refl) (λ a h. h) (λ a. refl) bytes x rest fits e
edit_takes edit_of.RemoveNode bytes x rest placed fits e = behind_takes edits.RemoveNode edit_of.RemoveNode name_form (λ a. refl) (λ a h. h) (λ a. refl) bytes x rest fits e
edit_takes edit_of.PutSession bytes x rest placed fits e = behind_takes (λ x. edits.PutSession x.0 x.1) edit_of.PutSession numbered_form (λ a. refl) (λ a h. h) (λ a. refl) bytes x rest fits e
edit_takes edit_of.PutLock bytes x rest placed fits e = behind_takes (λ x. edits.PutLock x.0 x.1) edit_of.PutLock keyed_form (λ a. refl) (λ a h. h) (λ a. refl) bytes x rest fits e
edit_takes edit_of.RemoveLock bytes x rest placed fits e = behind_takes edits.RemoveLock edit_of.RemoveLock lock_key_form (λ a. refl) (λ a h. h) (λ a. refl) bytes x rest fits e
edit_takes edit_of.RemoveSession bytes x rest placed fits e = behind_takes edits.RemoveSession edit_of.RemoveSession word_form (λ a. refl) (λ a h. h) (λ a. refl) bytes x rest fits e
edit_takes edit_of.EndedBelow bytes x rest placed fits e = behind_takes edits.EndedBelow edit_of.EndedBelow word_form (λ a. refl) (λ a h. h) (λ a. refl) bytes x rest fits e

edit_again : (x : Edit) (rest : List ℕ) → edit_is x → IsShort (edit_bytes x) → edit_behind (edit_kind x) (edit_bytes x ++ rest) ≡ Ok (x, rest)
edit_again (edits.Epoch epoch) rest holds short = behind_again edits.Epoch word_form epoch rest holds short
edit_again (edits.NextInstance next) rest holds short = behind_again edits.NextInstance word_form next rest holds short
edit_again (edits.PutNode text stands) rest holds short = behind_again (λ x. edits.PutNode x.0 x.1) node_put_form (text, stands) rest holds short
edit_again (edits.LockGeneration text generation) rest holds short = behind_again (λ x. edits.LockGeneration x.0 x.1) generation_set_form (text, generation) rest holds short
edit_again (edits.RemoveNode text) rest holds short = behind_again edits.RemoveNode name_form text rest holds short
edit_again (edits.PutSession client stands) rest holds short = behind_again (λ x. edits.PutSession x.0 x.1) numbered_form (client, stands) rest holds short
edit_again (edits.PutLock key stands) rest holds short = behind_again (λ x. edits.PutLock x.0 x.1) keyed_form (key, stands) rest holds short
edit_again (edits.RemoveLock key) rest holds short = behind_again edits.RemoveLock lock_key_form key rest holds short
edit_again (edits.RemoveSession client) rest holds short = behind_again edits.RemoveSession word_form client rest holds short
edit_again (edits.EndedBelow next) rest holds short = behind_again edits.EndedBelow word_form next rest holds short

pub edit_form : IsForm edit
unfolding edit
edit_form = of_kind_form edit_kind edit_is edit_bytes edit_behind (choice_form all_edits edit_place refl) edit_any edit_takes edit_again

edit_room : TakesRoom edit
unfolding edit
edit_room x = omega arith

pub all_of_edits_form : IsForm all_of_edits
unfolding all_of_edits
all_of_edits_form = listed_form edit_room edit_form
