-- What a change that waits puts or takes away, when its turn comes, fits the rows.
use Rattle.std.proofs.Common.{◌≡◌, ℕ, ◌+◌, ◌≤◌, List, [], length, Bool, true, false, cond, Option, Some, None, Result, Ok, Err, refl, sym, ◌∙◌, ap, subst, arith}
use Rattle.std.specs.Prelude.{◌&&◌, ◌||◌, ◌==◌, not, nat_lt, nat_le, is_none}
use Rattle.std.specs.Option.{option_map, option_map_or}
use Rattle.std.specs.Str.{bytes_eq}
use Rattle.std.proofs.lemmas.Bool.{and_parts, not-true, eq-eqb, eqb-true}
use Rattle.std.proofs.lemmas.Bool.Decides.{nat_tests}
use Rattle.std.proofs.lemmas.Slice.Eq.{bytes_eq-Decides}
use Rattle.names_cell.specs.Text.{parent_of, cell_of}
use Rattle.node_core.specs.declared.refusals.Fault.{Fault}
use Rattle.node_core.specs.declared.refusals.Fault.TheVariants as faults
use Rattle.node_core.specs.declared.nodes.Node.{Node}
use Rattle.node_core.specs.declared.views.Mod.TheVariants.{Put, Gone}
use Rattle.node_core.specs.declared.kinds.Kind.{Kind}
use Rattle.node_core.specs.declared.kinds.Kind.TheVariants.{File, Directory}
use Rattle.node_core.specs.declared.kinds.Life.{Life}
use Rattle.node_core.specs.declared.kinds.Right.{Right}
use Rattle.node_core.specs.declared.kinds.Right.TheVariants as rights
use Rattle.node_core.specs.Nodes.{Nodes, get_node, has_children}
use Rattle.rows_cell.specs.declared.tables.StoredNode.{StoredNode}
use Rattle.rows_cell.specs.declared.tables.Rows.{Rows}
use Rattle.rows_cell.specs.Rows.{stored_node}
use Rattle.rows_cell.specs.Sound.{sound, is_number, is_directory, numbers_fit, content_fits, parent_fits}
use Rattle.rows_cell.proofs.RowNodes.{nodes_get}
use Rattle.rows_cell.proofs.SoundChanges.{PutFits, found_fits, sound_numbers}
use Rattle.rows_cell.proofs.SoundParts.{five_parts}
use Rattle.tags_cell.specs.Modes.{has_right}
use Rattle.tags_cell.specs.Handles.{read_handle}
use Rattle.tags_cell.specs.declared.handles.Handle.{Handle}
use Rattle.tags_cell.specs.declared.messages.calls.AclNames.{AclNames}
use Rattle.tags_cell.specs.declared.messages.calls.NewNode.{NewNode}
use Rattle.tags_cell.specs.declared.messages.calls.NewNode.TheVariants as made
use Rattle.tags_cell.specs.declared.messages.calls.Open.{Open}
use Rattle.tags_cell.specs.declared.messages.calls.Create.{Create}
use Rattle.tags_cell.specs.declared.messages.calls.Disposition.{Disposition}
use Rattle.tags_cell.specs.declared.messages.calls.Disposition.TheVariants.{May, Must}
use Rattle.tags_cell.specs.declared.messages.calls.Call.{Call}
use Rattle.tags_cell.specs.declared.messages.calls.Call.TheVariants as calls
use Rattle.tags_cell.specs.declared.messages.outs.CallResult.{CallResult}
use Rattle.tags_cell.specs.declared.messages.outs.CallResult.TheVariants as results
use Rattle.tags_cell.specs.Numbers.{is_client_number}
use Rattle.lock_core.specs.Locks.{lock_at}
use Rattle.master_parts.specs.declared.pending.Orphan.{Orphan}
use Rattle.master_parts.specs.declared.pending.Work.TheVariants as works
use Rattle.cell_core.specs.declared.effects.Effect.{Effect}
use Rattle.master_state.specs.NameSpace.{name_space, caller}
use Rattle.master_state.specs.State.{MasterState}
use Rattle.master_state.specs.Lookups.{is_live, may, missing_right, is_of_cell, node_of_handle, new_handle, sequencer_fault, answer_on_node, answer_under, has_open, has_to_stay}
use Rattle.master_parts.specs.Calls.{content_fault, node_fault, delay_fault, create_fault, write_fault, needing}
use Rattle.master_parts.specs.EphemeralNames.{is_ephemeral}
use Rattle.cell_core.specs.Ephemerals.{is_idle_node, is_still_idle}
use Rattle.cell_core.specs.Effect.{answered, refused, changes_to, is_last, new_node_fault, unless, new_node, acls_of, create_put, create_made, create_numbered, create_permitted, create_in, create_under, create_new, create_over, create_effect, create_under_sequencer, open_effect, generation_fits, with_content, with_acls, put_at, deleted, delete_at, change_at, close_under, effect_on, handle_effect, effect}
use Rattle.cell_core.specs.Effect as effects
use Rattle.over_core.specs.Kept.{IsKept, IsOwnCall}
use Rattle.over_core.proofs.LockEffects.{IsOwnHandle, own_handle_read, acquire_fits, try_fits, release_fits, close_fits}
use Rattle.over_core.specs.SweepCase.{gone_change}
use Rattle.over_core.proofs.LockingFits.{GoesFit, ApplicationFits, EffectFits}

-- ---- the node that stands at a name

no_node : (o : Option StoredNode) → option_map (λ (node : StoredNode). node.node) o ≡ None → o ≡ None
no_node None h = refl
no_node (Some w) h = cc

some_node : (o : Option StoredNode) (view : Node) → option_map (λ (node : StoredNode). node.node) o ≡ Some view → (w : StoredNode) × (o ≡ Some w) × (w.node ≡ view)
some_node None view h = cc
some_node (Some w) view h = let same : w.node ≡ view = cc in (w, refl, same)

-- the parts of a node that fits
record NodeParts (cell : List ℕ) (rows : Rows) (name : List ℕ) (view : Node) : Type 0 where
  named : bytes_eq (cell_of name) cell ≡ true
  parent : parent_fits rows.nodes name ≡ true
  first : nat_le 1 view.instance ≡ true
  given : nat_lt view.instance rows.next_instance ≡ true
  written : is_number view.content_generation ≡ true
  acl : is_number view.acl_generation ≡ true
  content : content_fits view.kind view ≡ true

four_parts : (a b c d : Bool) → (a && b && c && d) ≡ true → (a ≡ true) × (b ≡ true) × (c ≡ true) × (d ≡ true)
four_parts true true true true h = (refl, refl, refl, refl)
four_parts _ _ _ _ h = cc

parts_of_node : (cell : List ℕ) (rows : Rows) (name : List ℕ) (node : StoredNode) → sound cell rows ≡ true → stored_node rows.nodes name ≡ Some node → NodeParts cell rows name node.node
parts_of_node cell rows name node h found =
    let t = four_parts (bytes_eq (cell_of name) cell) (parent_fits rows.nodes name) (numbers_fit rows.next_instance node) (content_fits node.node.kind node.node) (found_fits cell rows name node h found) in
    let n = five_parts (nat_le 1 node.node.instance) (nat_lt node.node.instance rows.next_instance) (is_number node.node.content_generation) (is_number node.node.acl_generation) (is_number node.lock_generation) t.2 in
    record { named = t.0; parent = t.1; first = n.0; given = n.1; written = n.2; acl = n.3; content = t.3 }

-- ---- what an effect puts or takes away

module _ (rows : Rows) (s : MasterState) (client : ℕ) where
  else_fits : (b : Bool) (x y : Effect) → EffectFits rows s client x → (b ≡ false → EffectFits rows s client y) → EffectFits rows s client (cond b x y)
  else_fits true x y a k = a
  else_fits false x y a k = k refl

  then_fits : (b : Bool) (x y : Effect) → (b ≡ true → EffectFits rows s client x) → EffectFits rows s client y → EffectFits rows s client (cond b x y)
  then_fits true x y k a = k refl
  then_fits false x y k a = a

  -- where something refuses
  unless_fits : {X : Type 0} (o : Option X) (f : X → Effect) (y : Effect) → ((x : X) → EffectFits rows s client (f x)) → (o ≡ None → EffectFits rows s client y) → EffectFits rows s client (option_map_or f o y)
  unless_fits None f y a k = k refl
  unless_fits (Some x) f y a k = a x

rises : (n m : ℕ) → m ≡ n → n ≤ m + 1
rises n m same = omega arith

next_number : (n : ℕ) → is_last n ≡ false → is_number (n + 1) ≡ true
next_number n room = grind (arith, nat_tests)

above_first : (a n m : ℕ) → m ≡ n → nat_lt a n ≡ true → nat_le 1 m ≡ true
above_first a n m same below = grind (arith, nat_tests)

just_given : (n : ℕ) → nat_lt n (n + 1) ≡ true
just_given n = grind (arith, nat_tests)

not_given : (n m : ℕ) → m ≡ n → nat_le n m ≡ true
not_given n m same = grind (arith, nat_tests)

not_less : (n m : ℕ) → m ≡ n → n ≤ m
not_less n m same = omega arith

directory_kind : (kind : Kind) → kind ≡ Directory → is_directory kind ≡ true
directory_kind kind same = rw same refl

no_directory : (o : Option StoredNode) → o ≡ None → option_map_or (λ (node : StoredNode). is_directory node.node.kind) o false ≡ true → ⊥
no_directory None h k = cc
no_directory (Some w) h k = cc

within : (content : List ℕ) → content_fault content ≡ None → nat_le (length content) 262144 ≡ true
within content h = grind (arith, nat_tests)

-- what a new node holds fits
new_content : (node : NewNode) (instance : ℕ) (life : Life) (acls : AclNames) → node_fault node ≡ None → content_fits (new_node instance node life acls).kind (new_node instance node life acls) ≡ true
new_content (made.File content) instance life acls h = within content h
new_content made.Directory instance life acls h = refl

new_number : (node : NewNode) (instance : ℕ) (life : Life) (acls : AclNames) → is_number (new_node instance node life acls).content_generation ≡ true
new_number (made.File content) instance life acls = refl
new_number made.Directory instance life acls = refl

-- another content of a file fits
written_content : (kind : Kind) (view : Node) (content : List ℕ) → write_fault kind content ≡ None → content_fits kind (with_content view content) ≡ true
written_content File view content h = within content h
written_content Directory view content h = cc

acl_content : (kind : Kind) (view : Node) (acls : AclNames) → content_fits kind view ≡ true → content_fits kind (with_acls view acls) ≡ true
acl_content File view acls h = h
acl_content Directory view acls h = h

needed : (handle : Handle) (right : Right) (answer : Option CallResult) → needing handle right answer ≡ None → answer ≡ None
needed handle right answer h =
    (elim (has_right handle.mode right) as (λ b. cond b answer (Some (results.Refused (faults.Denied right))) ≡ None → answer ≡ None) [ true ↦ (λ e. e) | false ↦ (λ e. cc) ]) h

neither : (a b : Bool) → (a || b) ≡ false → (a ≡ false) × (b ≡ false)
neither false false h = (refl, refl)
neither _ _ h = cc

no_fault : (o p : Option CallResult) → option_map_or (λ answer. Some answer) o p ≡ None → o ≡ None
no_fault None p h = refl
no_fault (Some answer) p h = cc

node_here : (view found : Node) (instance : ℕ) → cond (view.instance == instance) (Some view) None ≡ Some found → (view ≡ found) × (found.instance ≡ instance)
node_here view found instance h =
    (elim (view.instance == instance) as (λ b. (view.instance == instance) ≡ b → cond b (Some view) None ≡ Some found → (view ≡ found) × (found.instance ≡ instance)) [
      | true ↦ (λ c e.
          let same : view ≡ found = cc in
          (same, ap (λ (v : Node). v.instance) (sym same) ∙ eqb-true view.instance instance c))
      | false ↦ (λ c e. absurd cc)
    ]) refl h

module _ (cell : List ℕ) (rows : Rows) (s : MasterState) (k : IsKept cell rows s) where
  stored : (name : List ℕ) (o : Option Node) → get_node s.nodes name ≡ o → option_map (λ (node : StoredNode). node.node) (stored_node rows.nodes name) ≡ o
  stored name o h = sym (nodes_get rows.nodes name) ∙ (sym (ap (λ (n : Nodes). get_node n name) k.nodes) ∙ h)

  -- ---- a node that goes, and its lock with it

  goes_fits : (name : List ℕ) (instance : ℕ) (w : StoredNode) → stored_node rows.nodes name ≡ Some w → w.node.instance ≡ instance → has_to_stay s name ≡ false → GoesFit rows s (record { change = Gone name; next_instance = s.next_instance }) instance (lock_at s.locks instance).waiters
  goes_fits name instance w found present free =
      let t = neither (has_children s.nodes name) (is_none (parent_of name)) free in
      let next = k.next_instance in
      let P : Nodes → Type 0 = λ n. has_children n name ≡ false in
      record {
        name = name;
        node = w;
        is = refl;
        found = found;
        of_node = present;
        all = refl;
        fits = record {
          least = not_less rows.next_instance s.next_instance k.next_instance;
          most = rw next (sound_numbers cell rows k.sound_rows).2;
          no_children = subst P k.nodes t.0;
          no_root = t.1;
        };
      }

  -- an ephemeral node that nobody holds open
  still_fits : (idle : Orphan) (o : Option Node) → get_node s.nodes idle.name ≡ o → option_map_or (λ view. view.instance == idle.instance && is_idle_node s idle.name view) o false ≡ true → GoesFit rows s (gone_change s idle) idle.instance (lock_at s.locks idle.instance).waiters
  still_fits idle None found h = absurd cc
  still_fits idle (Some view) found h =
      let t = and_parts (view.instance == idle.instance) (is_idle_node s idle.name view) h in
      let stays : Bool = has_to_stay s idle.name in
      let goes = (and_parts (is_ephemeral view.life && not (has_open s view.instance)) (not stays) t.1).1 in
      let w = some_node (stored_node rows.nodes idle.name) view (stored idle.name (Some view) found) in
      goes_fits idle.name idle.instance w.0 w.1 (ap (λ (v : Node). v.instance) w.2 ∙ eqb-true view.instance idle.instance t.0) (not-true stays goes)

  pub tidied_fits : (idle : Orphan) → is_still_idle s idle ≡ true → GoesFit rows s (gone_change s idle) idle.instance (lock_at s.locks idle.instance).waiters
  tidied_fits idle still = still_fits idle (get_node s.nodes idle.name) refl still

module _ (cell : List ℕ) (rows : Rows) (s : MasterState) (k : IsKept cell rows s) (client : ℕ) (live : is_live s client ≡ true) (numbered : is_client_number client ≡ true) where
  abbrev Fits : Effect → Type 0
  Fits effected = EffectFits rows s client effected

  of_cell : (name : List ℕ) → is_of_cell (name_space s) name ≡ true → bytes_eq (cell_of name) rows.cell ≡ true
  of_cell name h = let same = k.name in rw same at h

  of_cell_named : (name : List ℕ) → bytes_eq (cell_of name) cell ≡ true → bytes_eq (cell_of name) rows.cell ≡ true
  of_cell_named name h =
      let named : bytes_eq rows.cell cell ≡ true = (sound_numbers cell rows k.sound_rows).0 in
      let same : rows.cell ≡ cell = (bytes_eq-Decides rows.cell cell).0 named in
      rw same h

  -- ---- a new node under a directory

  node_put_fits : (name parent : List ℕ) (node : NewNode) (life : Life) (acls : AclNames) (w : StoredNode) → is_of_cell (name_space s) name ≡ true → node_fault node ≡ None → stored_node rows.nodes name ≡ None → parent_of name ≡ Some parent → stored_node rows.nodes parent ≡ Some w → w.node.kind ≡ Directory → is_last s.next_instance ≡ false → PutFits rows name (new_node s.next_instance node life acls) (s.next_instance + 1)
  node_put_fits name parent node life acls w named short absent p found kind room =
      let parts = parts_of_node cell rows parent w k.sound_rows found in
      record {
        least = rises rows.next_instance s.next_instance k.next_instance;
        most = next_number s.next_instance room;
        cell = of_cell name named;
        parent = rw (p, found) (directory_kind w.node.kind kind);
        first = above_first w.node.instance rows.next_instance s.next_instance k.next_instance parts.given;
        given = just_given s.next_instance;
        content_number = new_number node s.next_instance life acls;
        acl_number = refl;
        content = new_content node s.next_instance life acls short;
        kind = λ d. absurd (no_directory (stored_node rows.nodes name) absent d);
        own = rw absent (not_given rows.next_instance s.next_instance k.next_instance);
      }

  made_fits : (opening : Open) (view : Node) (r : Result Handle Fault) → PutFits rows opening.name view (s.next_instance + 1) → Fits (create_made (name_space s) opening view r)
  made_fits opening view (Err fault) h = tt
  made_fits opening view (Ok handle) h =
      unless_fits rows s client (new_node_fault (name_space s) view) (λ fault. refused fault) (create_put (name_space s) opening view handle) (λ fault. tt) (λ none. record { name = opening.name; view = view; is = refl; fits = h })

  permitted_fits : (number : ℕ) (opening : Open) (view : Node) → (is_last s.next_instance ≡ false → PutFits rows opening.name view (s.next_instance + 1)) → Fits (create_permitted (name_space s) (caller s client) number opening view)
  permitted_fits number opening view h =
      unless_fits rows s client (missing_right (name_space s) (caller s client) opening.mode view) (λ right. refused (faults.Denied right)) (create_numbered (name_space s) (caller s client) number opening view) (λ right. tt)
      (λ none. else_fits rows s client (is_last s.next_instance) (refused faults.Exhausted) (create_made (name_space s) opening view (new_handle (name_space s) (caller s client) number opening view)) tt
      (λ room. made_fits opening view (new_handle (name_space s) (caller s client) number opening view) (h room)))

  in_fits : (number : ℕ) (opening : Open) (create : Create) (parent : List ℕ) (w : StoredNode) (kind : Kind) → is_of_cell (name_space s) opening.name ≡ true → node_fault create.node ≡ None → stored_node rows.nodes opening.name ≡ None → parent_of opening.name ≡ Some parent → stored_node rows.nodes parent ≡ Some w → w.node.kind ≡ kind → Fits (create_in (name_space s) (caller s client) number opening create w.node kind)
  in_fits number opening create parent w File named short absent p found kind = tt
  in_fits number opening create parent w Directory named short absent p found kind =
      let view : Node = new_node s.next_instance create.node create.life (acls_of w.node create.acls) in
      then_fits rows s client (may (name_space s) (caller s client) w.node rights.Write) (create_permitted (name_space s) (caller s client) number opening view) (refused (faults.Denied rights.Write))
      (λ allowed. permitted_fits number opening view (λ room. node_put_fits opening.name parent create.node create.life (acls_of w.node create.acls) w named short absent p found kind room)) tt

  under_fits : (number : ℕ) (opening : Open) (create : Create) (parent : List ℕ) (o : Option Node) → is_of_cell (name_space s) opening.name ≡ true → node_fault create.node ≡ None → stored_node rows.nodes opening.name ≡ None → parent_of opening.name ≡ Some parent → get_node s.nodes parent ≡ o → Fits (create_under (name_space s) (caller s client) number opening create o)
  under_fits number opening create parent None named short absent p found = tt
  under_fits number opening create parent (Some above) named short absent p found =
      let t = some_node (stored_node rows.nodes parent) above (stored cell rows s k parent (Some above) found) in
      let P : Node → Type 0 = λ view. Fits (create_in (name_space s) (caller s client) number opening create view view.kind) in
      subst P t.2 (in_fits number opening create parent t.0 t.0.node.kind named short absent p t.1 refl)

  new_fits : (number : ℕ) (opening : Open) (create : Create) (o : Option (List ℕ)) → is_of_cell (name_space s) opening.name ≡ true → node_fault create.node ≡ None → stored_node rows.nodes opening.name ≡ None → parent_of opening.name ≡ o → Fits (option_map_or (λ parent. create_under (name_space s) (caller s client) number opening create (get_node s.nodes parent)) o (refused faults.NotFound))
  new_fits number opening create None named short absent p = tt
  new_fits number opening create (Some parent) named short absent p =
      under_fits number opening create parent (get_node s.nodes parent) named short absent p refl

  over_fits : (number : ℕ) (opening : Open) (disposition : Disposition) (view : Node) → Fits (create_over (name_space s) (caller s client) number opening disposition view)
  over_fits number opening Must view = tt
  over_fits number opening May view = tt

  create_fits : (number : ℕ) (opening : Open) (create : Create) (o : Option Node) → is_of_cell (name_space s) opening.name ≡ true → node_fault create.node ≡ None → get_node s.nodes opening.name ≡ o → Fits (option_map_or (λ view. create_over (name_space s) (caller s client) number opening create.disposition view) o (create_new (name_space s) (caller s client) number opening create))
  create_fits number opening create None named short found =
      let absent = no_node (stored_node rows.nodes opening.name) (stored cell rows s k opening.name None found) in
      new_fits number opening create (parent_of opening.name) named short absent refl
  create_fits number opening create (Some view) named short found = over_fits number opening create.disposition view

  under_sequencer_fits : (number : ℕ) (opening : Open) (create : Create) (f : Option Fault) → is_of_cell (name_space s) opening.name ≡ true → Fits (create_under_sequencer (name_space s) (caller s client) number opening create f)
  under_sequencer_fits number opening create (Some fault) named = tt
  under_sequencer_fits number opening create None named =
      unless_fits rows s client (create_fault opening create.node) (λ answer. answered answer) (create_effect (name_space s) (caller s client) number opening create) (λ answer. tt)
      (λ none. create_fits number opening create (get_node s.nodes opening.name) named (no_fault (node_fault create.node) (delay_fault opening.delay) none) refl)

  open_fits : (number : ℕ) (opening : Open) (sequencer : Option (List ℕ)) (o : Option Create) → Fits (open_effect (name_space s) (caller s client) number opening sequencer o)
  open_fits number opening sequencer None = tt
  open_fits number opening sequencer (Some create) =
      then_fits rows s client (is_of_cell (name_space s) opening.name) (create_under_sequencer (name_space s) (caller s client) number opening create (sequencer_fault (name_space s) sequencer)) (refused faults.OtherCell)
      (under_sequencer_fits number opening create (sequencer_fault (name_space s) sequencer)) tt

  -- ---- a node that stands

  again_fits : (name : List ℕ) (w : StoredNode) (view : Node) → stored_node rows.nodes name ≡ Some w → view.instance ≡ w.node.instance → view.kind ≡ w.node.kind → is_number view.content_generation ≡ true → is_number view.acl_generation ≡ true → content_fits view.kind view ≡ true → PutFits rows name view s.next_instance
  again_fits name w view found instance kind written acl content =
      let parts = parts_of_node cell rows name w k.sound_rows found in
      let next = k.next_instance in
      let same : (w.node.instance == view.instance) ≡ true = eq-eqb w.node.instance view.instance (sym instance) in
      record {
        least = not_less rows.next_instance s.next_instance k.next_instance;
        most = rw next (sound_numbers cell rows k.sound_rows).2;
        cell = of_cell_named name parts.named;
        parent = parts.parent;
        first = rw instance parts.first;
        given = rw (next, instance) parts.given;
        content_number = written;
        acl_number = acl;
        content = content;
        kind = λ d. let there : is_directory w.node.kind ≡ true = rw found at d in rw kind there;
        own = rw found same;
      }

  put_fits : (handle : Handle) (present : ℕ) (wanted : Option ℕ) (full : Option Fault) (view : Node) → (is_last present ≡ false → PutFits rows handle.name view s.next_instance) → Fits (put_at (name_space s) handle present wanted full view)
  put_fits handle present wanted full view h =
      let changed : Effect = changes_to (Put handle.name view) s.next_instance results.Done in
      let written : Effect = unless full changed in
      then_fits rows s client (generation_fits wanted present) (cond (is_last present) (refused faults.Exhausted) written) (refused (faults.WrongGeneration present))
      (λ fits. else_fits rows s client (is_last present) (refused faults.Exhausted) written tt
      (λ room. unless_fits rows s client full (λ fault. refused fault) changed (λ fault. tt) (λ none. record { name = handle.name; view = view; is = refl; fits = h room }))) tt

  set_fits : (handle : Handle) (content : List ℕ) (generation : Option ℕ) (w : StoredNode) → stored_node rows.nodes handle.name ≡ Some w → write_fault w.node.kind content ≡ None
      → Fits (put_at (name_space s) handle w.node.content_generation generation (effects.content_fault (name_space s) w.node content) (with_content w.node content))
  set_fits handle content generation w found h =
      let parts = parts_of_node cell rows handle.name w k.sound_rows found in
      put_fits handle w.node.content_generation generation (effects.content_fault (name_space s) w.node content) (with_content w.node content)
      (λ room. again_fits handle.name w (with_content w.node content) found refl refl (next_number w.node.content_generation room) parts.acl (written_content w.node.kind w.node content h))

  acl_fits : (handle : Handle) (acls : AclNames) (generation : Option ℕ) (w : StoredNode) → stored_node rows.nodes handle.name ≡ Some w → Fits (put_at (name_space s) handle w.node.acl_generation generation None (with_acls w.node acls))
  acl_fits handle acls generation w found =
      let parts = parts_of_node cell rows handle.name w k.sound_rows found in
      put_fits handle w.node.acl_generation generation None (with_acls w.node acls)
      (λ room. again_fits handle.name w (with_acls w.node acls) found refl refl parts.written (next_number w.node.acl_generation room) (acl_content w.node.kind w.node acls parts.content))

  -- its lock goes with it
  delete_fits : (handle : Handle) (w : StoredNode) → stored_node rows.nodes handle.name ≡ Some w → w.node.instance ≡ handle.instance → Fits (delete_at (name_space s) handle)
  delete_fits handle w found present =
      else_fits rows s client (has_children s.nodes handle.name || is_none (parent_of handle.name)) (refused faults.NotEmpty) (deleted (name_space s) handle) tt
      (λ free. goes_fits cell rows s k handle.name handle.instance w found present free)

  change_fits : (handle : Handle) (call : Call) (w : StoredNode) → IsOwnHandle client handle → stored_node rows.nodes handle.name ≡ Some w → w.node.instance ≡ handle.instance → answer_on_node (name_space s) handle call w.node ≡ None → Fits (change_at (name_space s) s.clock handle call w.node)
  change_fits handle (calls.Set bytes content generation) w shown found present h =
      set_fits handle content generation w found (needed handle rights.Write (write_fault w.node.kind content) h)
  change_fits handle (calls.SetAcl bytes acls generation) w shown found present h = acl_fits handle acls generation w found
  change_fits handle (calls.Delete bytes) w shown found present h = delete_fits handle w found present
  change_fits handle (calls.Acquire bytes mode) w shown found present h = acquire_fits cell rows s k client live numbered handle shown w found present mode
  change_fits handle (calls.TryAcquire bytes mode) w shown found present h = try_fits cell rows s k client live numbered handle shown w found present mode
  change_fits handle (calls.Release bytes) w shown found present h = release_fits cell rows s k client live numbered handle shown w found present
  change_fits handle (calls.Open opening) w shown found present h = tt
  change_fits handle (calls.Close bytes) w shown found present h = tt
  change_fits handle (calls.Read bytes) w shown found present h = tt
  change_fits handle (calls.Stat bytes) w shown found present h = tt
  change_fits handle (calls.List bytes) w shown found present h = tt
  change_fits handle (calls.GetSequencer bytes) w shown found present h = tt
  change_fits handle (calls.SetSequencer bytes) w shown found present h = tt
  change_fits handle (calls.CheckSequencer bytes) w shown found present h = tt
  change_fits handle calls.Leave w shown found present h = tt

  -- what would be answered at once is answered, and else the change is made
  view_fits : (handle : Handle) (call : Call) (view : Node) (f : Option Fault) → IsOwnHandle client handle → get_node s.nodes handle.name ≡ Some view → view.instance ≡ handle.instance → Fits (option_map_or (λ answer. answered answer) (answer_under (name_space s) handle call view f) (change_at (name_space s) s.clock handle call view))
  view_fits handle call view (Some fault) shown found present = tt
  view_fits handle call view None shown found present =
      let t = some_node (stored_node rows.nodes handle.name) view (stored cell rows s k handle.name (Some view) found) in
      let P : Node → Type 0 = λ v. Fits (option_map_or (λ answer. answered answer) (answer_on_node (name_space s) handle call v) (change_at (name_space s) s.clock handle call v)) in
      subst P t.2
      (unless_fits rows s client (answer_on_node (name_space s) handle call t.0.node) (λ answer. answered answer) (change_at (name_space s) s.clock handle call t.0.node) (λ answer. tt)
      (λ none. change_fits handle call t.0 shown t.1 (ap (λ (v : Node). v.instance) t.2 ∙ present) none))

  present_fits : (handle : Handle) (call : Call) (f : Option Fault) (o p : Option Node) → IsOwnHandle client handle → get_node s.nodes handle.name ≡ p → option_map_or (λ (view : Node). cond (view.instance == handle.instance) (Some view) None) p None ≡ o
      → Fits (option_map_or (λ answer. answered answer) (option_map_or (λ view. answer_under (name_space s) handle call view f) o (Some (results.Refused faults.StaleInstance))) (option_map_or (λ view. change_at (name_space s) s.clock handle call view) o (refused faults.StaleInstance)))
  present_fits handle call f None p shown found is = tt
  present_fits handle call f (Some view) None shown found is = cc
  present_fits handle call f (Some view) (Some there) shown found is =
      let t = node_here there view handle.instance is in
      view_fits handle call view f shown (found ∙ ap (λ v. Some v) t.0) t.1

  -- a handle that is closed leaves the lock of its node, where that is there
  close_here : (handle : Handle) (o p : Option Node) → IsOwnHandle client handle → get_node s.nodes handle.name ≡ p → option_map_or (λ (view : Node). cond (view.instance == handle.instance) (Some view) None) p None ≡ o → ApplicationFits rows s client None (close_under (name_space s) handle o)
  close_here handle None p shown found is = tt
  close_here handle (Some view) None shown found is = cc
  close_here handle (Some view) (Some there) shown found is =
      let t = node_here there view handle.instance is in
      let u = some_node (stored_node rows.nodes handle.name) view (stored cell rows s k handle.name (Some view) (found ∙ ap (λ v. Some v) t.0)) in
      close_fits cell rows s k client live numbered handle shown u.0 u.1 (ap (λ (v : Node). v.instance) u.2 ∙ t.1)

  call_fits : (handle : Handle) (call : Call) (sequencer : Option (List ℕ)) → IsOwnHandle client handle → Fits (effect_on (name_space s) s.clock handle call sequencer)
  call_fits handle (calls.Close bytes) sequencer shown = close_here handle (node_of_handle (name_space s) handle) (get_node s.nodes handle.name) shown refl refl
  call_fits handle (calls.Open opening) sequencer shown = present_fits handle (calls.Open opening) (sequencer_fault (name_space s) sequencer) (node_of_handle (name_space s) handle) (get_node s.nodes handle.name) shown refl refl
  call_fits handle (calls.Read bytes) sequencer shown = present_fits handle (calls.Read bytes) (sequencer_fault (name_space s) sequencer) (node_of_handle (name_space s) handle) (get_node s.nodes handle.name) shown refl refl
  call_fits handle (calls.Stat bytes) sequencer shown = present_fits handle (calls.Stat bytes) (sequencer_fault (name_space s) sequencer) (node_of_handle (name_space s) handle) (get_node s.nodes handle.name) shown refl refl
  call_fits handle (calls.List bytes) sequencer shown = present_fits handle (calls.List bytes) (sequencer_fault (name_space s) sequencer) (node_of_handle (name_space s) handle) (get_node s.nodes handle.name) shown refl refl
  call_fits handle (calls.Set bytes content generation) sequencer shown = present_fits handle (calls.Set bytes content generation) (sequencer_fault (name_space s) sequencer) (node_of_handle (name_space s) handle) (get_node s.nodes handle.name) shown refl refl
  call_fits handle (calls.SetAcl bytes acls generation) sequencer shown = present_fits handle (calls.SetAcl bytes acls generation) (sequencer_fault (name_space s) sequencer) (node_of_handle (name_space s) handle) (get_node s.nodes handle.name) shown refl refl
  call_fits handle (calls.Delete bytes) sequencer shown = present_fits handle (calls.Delete bytes) (sequencer_fault (name_space s) sequencer) (node_of_handle (name_space s) handle) (get_node s.nodes handle.name) shown refl refl
  call_fits handle (calls.Acquire bytes mode) sequencer shown = present_fits handle (calls.Acquire bytes mode) (sequencer_fault (name_space s) sequencer) (node_of_handle (name_space s) handle) (get_node s.nodes handle.name) shown refl refl
  call_fits handle (calls.TryAcquire bytes mode) sequencer shown = present_fits handle (calls.TryAcquire bytes mode) (sequencer_fault (name_space s) sequencer) (node_of_handle (name_space s) handle) (get_node s.nodes handle.name) shown refl refl
  call_fits handle (calls.Release bytes) sequencer shown = present_fits handle (calls.Release bytes) (sequencer_fault (name_space s) sequencer) (node_of_handle (name_space s) handle) (get_node s.nodes handle.name) shown refl refl
  call_fits handle (calls.GetSequencer bytes) sequencer shown = present_fits handle (calls.GetSequencer bytes) (sequencer_fault (name_space s) sequencer) (node_of_handle (name_space s) handle) (get_node s.nodes handle.name) shown refl refl
  call_fits handle (calls.SetSequencer bytes) sequencer shown = present_fits handle (calls.SetSequencer bytes) (sequencer_fault (name_space s) sequencer) (node_of_handle (name_space s) handle) (get_node s.nodes handle.name) shown refl refl
  call_fits handle (calls.CheckSequencer bytes) sequencer shown = present_fits handle (calls.CheckSequencer bytes) (sequencer_fault (name_space s) sequencer) (node_of_handle (name_space s) handle) (get_node s.nodes handle.name) shown refl refl
  call_fits handle calls.Leave sequencer shown = present_fits handle calls.Leave (sequencer_fault (name_space s) sequencer) (node_of_handle (name_space s) handle) (get_node s.nodes handle.name) shown refl refl

  handle_fits : (call : Call) (sequencer : Option (List ℕ)) (bytes : List ℕ) (o : Option Handle) → read_handle s.secret bytes ≡ o → ((handle : Handle) → read_handle s.secret bytes ≡ Some handle → handle.client ≡ client) → Fits (handle_effect (name_space s) s.clock call sequencer o)
  handle_fits call sequencer bytes None is own = tt
  handle_fits call sequencer bytes (Some handle) is own = call_fits handle call sequencer (own_handle_read s.secret bytes client handle is (own handle is))

-- what a call does fits
pub effect_fits : (cell : List ℕ) (rows : Rows) (s : MasterState) → IsKept cell rows s → (client number : ℕ) (call : Call) (sequencer : Option (List ℕ)) → is_live s client ≡ true → is_client_number client ≡ true → IsOwnCall s.secret client (works.Calls call sequencer) → EffectFits rows s client (effect (name_space s) (caller s client) s.clock number call sequencer)
unfolding effect
effect_fits cell rows s k client number (calls.Open opening) sequencer live numbered own = open_fits cell rows s k client live numbered number opening sequencer opening.create
effect_fits cell rows s k client number (calls.Close bytes) sequencer live numbered own = handle_fits cell rows s k client live numbered (calls.Close bytes) sequencer bytes (read_handle s.secret bytes) refl own
effect_fits cell rows s k client number (calls.Read bytes) sequencer live numbered own = handle_fits cell rows s k client live numbered (calls.Read bytes) sequencer bytes (read_handle s.secret bytes) refl own
effect_fits cell rows s k client number (calls.Stat bytes) sequencer live numbered own = handle_fits cell rows s k client live numbered (calls.Stat bytes) sequencer bytes (read_handle s.secret bytes) refl own
effect_fits cell rows s k client number (calls.List bytes) sequencer live numbered own = handle_fits cell rows s k client live numbered (calls.List bytes) sequencer bytes (read_handle s.secret bytes) refl own
effect_fits cell rows s k client number (calls.Set bytes content generation) sequencer live numbered own = handle_fits cell rows s k client live numbered (calls.Set bytes content generation) sequencer bytes (read_handle s.secret bytes) refl own
effect_fits cell rows s k client number (calls.SetAcl bytes acls generation) sequencer live numbered own = handle_fits cell rows s k client live numbered (calls.SetAcl bytes acls generation) sequencer bytes (read_handle s.secret bytes) refl own
effect_fits cell rows s k client number (calls.Delete bytes) sequencer live numbered own = handle_fits cell rows s k client live numbered (calls.Delete bytes) sequencer bytes (read_handle s.secret bytes) refl own
effect_fits cell rows s k client number (calls.Acquire bytes mode) sequencer live numbered own = handle_fits cell rows s k client live numbered (calls.Acquire bytes mode) sequencer bytes (read_handle s.secret bytes) refl own
effect_fits cell rows s k client number (calls.TryAcquire bytes mode) sequencer live numbered own = handle_fits cell rows s k client live numbered (calls.TryAcquire bytes mode) sequencer bytes (read_handle s.secret bytes) refl own
effect_fits cell rows s k client number (calls.Release bytes) sequencer live numbered own = handle_fits cell rows s k client live numbered (calls.Release bytes) sequencer bytes (read_handle s.secret bytes) refl own
effect_fits cell rows s k client number (calls.GetSequencer bytes) sequencer live numbered own = handle_fits cell rows s k client live numbered (calls.GetSequencer bytes) sequencer bytes (read_handle s.secret bytes) refl own
effect_fits cell rows s k client number (calls.SetSequencer bytes) sequencer live numbered own = handle_fits cell rows s k client live numbered (calls.SetSequencer bytes) sequencer bytes (read_handle s.secret bytes) refl own
effect_fits cell rows s k client number (calls.CheckSequencer bytes) sequencer live numbered own = handle_fits cell rows s k client live numbered (calls.CheckSequencer bytes) sequencer [] (read_handle s.secret []) refl own
effect_fits cell rows s k client number calls.Leave sequencer live numbered own = handle_fits cell rows s k client live numbered calls.Leave sequencer [] (read_handle s.secret []) refl own
