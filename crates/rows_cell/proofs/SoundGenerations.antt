-- Another generation of a node's lock leaves the rows sound.
use Rattle.std.proofs.Common.{◌≡◌, ℕ, ◌≤◌, List, [], ◌∷◌, length, Bool, true, false, cond, Option, Some, None, Ordering, refl, sym, ap, subst, ◌∙◌, arith}
use Rattle.std.specs.Prelude.{◌&&◌, ◌||◌, ◌==◌, not, nat_lt, nat_le, map}
use Rattle.std.specs.Option.{option_map, option_map_or, unwrap_or}
use Rattle.std.specs.Ordering.{nat_cmp}
use Rattle.std.specs.Cmp.Lexicographic.{slice_cmp}
use Rattle.std.specs.List.{list_all, list_any}
use Rattle.std.specs.Map.{lookup, set_value}
use Rattle.std.specs.BTreeMap.{is_at}
use Rattle.std.specs.Str.{bytes_eq}
use Rattle.std.proofs.lemmas.Bool.{and_parts, and_from, or_left, or_right, eqb-true}
use Rattle.std.proofs.lemmas.Bool.Decides.{nat_tests}
use Rattle.std.proofs.lemmas.Map.Lookups.{CmpEqualImpliesEq, exact_bytes}
use Rattle.names_cell.specs.Text.{parent_of, cell_of, root_of}
use Rattle.node_core.specs.declared.nodes.Node.{Node}
use Rattle.node_core.specs.Nodes.{Nodes, get_node}
use Rattle.collections.proofs.Entries.{eq_at, cond_twice, cond_apart}
use Rattle.rows_cell.specs.declared.tables.StoredNode.{StoredNode}
use Rattle.rows_cell.specs.declared.tables.LockRow.{LockRow}
use Rattle.rows_cell.specs.declared.tables.LockState.{LockState}
use Rattle.rows_cell.specs.declared.tables.LockState.TheVariants.{Lapsed, Exclusive, Shared}
use Rattle.rows_cell.specs.declared.keys.LockKey.{LockKey}
use Rattle.rows_cell.specs.declared.tables.Rows.{Rows}
use Rattle.rows_cell.specs.declared.tables.Edit.TheVariants.{LockGeneration}
use Rattle.rows_cell.specs.Rows.{StoredNodes, StoredLocks, stored_node, nodes_of, map_of, at_generation, edited}
use Rattle.rows_cell.specs.Sound.{sound, is_number, is_directory, is_directory_at, content_fits, parent_fits, node_fits, are_distinct, is_live_in, holder_fits, is_shared, beside, state_fits, lock_fits}
use Rattle.rows_cell.specs.Indexes.{locks_at, lock_generation_in}
use Rattle.rows_cell.specs.LockRows.{is_holding, has_holder, has_generation}
use Rattle.rows_cell.proofs.PutEntries.{all_more, all_found}
use Rattle.rows_cell.proofs.RowNodes.{nodes_get}
use Rattle.rows_cell.proofs.SoundParts.{five_parts, instances, has_instance, parts_of, sound_of, node_stays}
use Rattle.rows_cell.proofs.SoundRemovals.{all_from_both}

-- ---- a value that is set

pub all_set : {K V : Type 0} (cmp : K → K → Ordering) → CmpEqualImpliesEq cmp → (p : K × V → Bool) (es : List (K × V)) (k : K) (v : V) → list_all p es ≡ true → p (k, v) ≡ true → list_all p (set_value (is_at (cmp k)) es v) ≡ true
all_set cmp exact p [] k v h new = refl
all_set {K} {V} cmp exact p (e ∷ es) k v h new =
    let t = and_parts (p e) (list_all p es) h in
    (elim (is_at (cmp k) e.0) as (λ b. is_at (cmp k) e.0 ≡ b → list_all p (cond b ((e.0, v) ∷ es) (e ∷ set_value (is_at (cmp k)) es v)) ≡ true) [
      | true ↦ (λ c. let s : k ≡ e.0 = exact k e.0 (eq_at (cmp k e.0) c) in and_from (p (e.0, v)) (list_all p es) (rw s at new) t.1)
      | false ↦ (λ c. and_from (p e) (list_all p (set_value (is_at (cmp k)) es v)) t.0 (all_set cmp exact p es k v t.1 new))
    ]) refl

-- some value still passes, where the new one does if the old one did
pub any_set : {K V : Type 0} (test : K → Bool) (p : V → Bool) (es : List (K × V)) (v w : V) → lookup test es ≡ Some v → (p v ≡ true → p w ≡ true) → list_any (λ e. p e.1) es ≡ true → list_any (λ e. p e.1) (set_value test es w) ≡ true
any_set test p [] v w found kept h = absurd cc
any_set {K} {V} test p (e ∷ es) v w found kept h =
    let any : List (K × V) → Bool = list_any (λ x. p x.1) in
    (elim (test e.0) as (λ b. cond b (Some e.1) (lookup test es) ≡ Some v → any (cond b ((e.0, w) ∷ es) (e ∷ set_value test es w)) ≡ true) [
      | true ↦ (λ f.
          let same : e.1 ≡ v = cc in
          (elim (p e.1) as (λ b. p e.1 ≡ b → (b || any es) ≡ true → (p w || any es) ≡ true) [
            | true ↦ (λ c k. or_left (p w) (any es) (kept (ap p (sym same) ∙ c)))
            | false ↦ (λ c k. or_right (p w) (any es) k)
          ]) refl h)
      | false ↦ (λ f.
          (elim (p e.1) as (λ b. (b || any es) ≡ true → (b || any (set_value test es w)) ≡ true) [
            | true ↦ (λ k. refl)
            | false ↦ (λ k. any_set test p es v w f kept k)
          ]) h)
    ]) found

-- ---- what depends on the map alone

nodes_set : (nodes : StoredNodes) (name : List ℕ) (node : StoredNode) (generation : ℕ) → stored_node nodes name ≡ Some node → nodes_of (set_value (is_at (slice_cmp nat_cmp name)) nodes (record node { lock_generation = generation })) ≡ nodes_of nodes
nodes_set [] name node generation found = refl
nodes_set (e ∷ es) name node generation found =
    let at : List ℕ → Bool = is_at (slice_cmp nat_cmp name) in
    let new : StoredNode = record node { lock_generation = generation } in
    (elim (at e.0) as (λ b. cond b (Some e.1) (stored_node es name) ≡ Some node → nodes_of (cond b ((e.0, new) ∷ es) (e ∷ set_value at es new)) ≡ (e.0, e.1.node) ∷ nodes_of es) [
      | true ↦ (λ f. let same : node ≡ e.1 = cc in ap (λ (n : StoredNode). (e.0, n.node) ∷ nodes_of es) same)
      | false ↦ (λ f. ap (λ vs. (e.0, e.1.node) ∷ vs) (nodes_set es name node generation f))
    ]) found

directory_seen : (o : Option StoredNode) → option_map_or (λ (n : StoredNode). is_directory n.node.kind) o false ≡ option_map_or (λ (v : Node). is_directory v.kind) (option_map (λ (n : StoredNode). n.node) o) false
directory_seen None = refl
directory_seen (Some n) = refl

directory_by : (nodes : StoredNodes) (q : List ℕ) → is_directory_at nodes q ≡ option_map_or (λ (v : Node). is_directory v.kind) (get_node (nodes_of nodes) q) false
directory_by nodes q = directory_seen (stored_node nodes q) ∙ ap (λ o. option_map_or (λ (v : Node). is_directory v.kind) o false) (sym (nodes_get nodes q))

same_directories : (nodes new : StoredNodes) → nodes_of new ≡ nodes_of nodes → (q : List ℕ) → is_directory_at new q ≡ is_directory_at nodes q
same_directories nodes new same q =
    directory_by new q ∙ ap (λ vs. option_map_or (λ (v : Node). is_directory v.kind) (get_node vs q) false) same ∙ sym (directory_by nodes q)

same_parents : (nodes new : StoredNodes) → nodes_of new ≡ nodes_of nodes → (q : List ℕ) → parent_fits nodes q ≡ true → parent_fits new q ≡ true
same_parents nodes new same q h =
    (elim (parent_of q) as (λ o. option_map_or (λ parent. is_directory_at nodes parent) o true ≡ true → option_map_or (λ parent. is_directory_at new parent) o true ≡ true)
    [ None ↦ (λ k. k) | Some parent ↦ (λ k. same_directories nodes new same parent ∙ k) ]) h

instances_by : (nodes : StoredNodes) → instances nodes ≡ map (λ e. e.1.instance) (nodes_of nodes)
instances_by [] = refl
instances_by (e ∷ es) = ap (λ ns. e.1.node.instance ∷ ns) (instances_by es)

pub same_instances : (nodes new : StoredNodes) → nodes_of new ≡ nodes_of nodes → instances new ≡ instances nodes
same_instances nodes new same = instances_by new ∙ ap (λ (vs : Nodes). map (λ e. e.1.instance) vs) same ∙ sym (instances_by nodes)

has_by : (nodes : StoredNodes) (n : ℕ) → has_instance nodes n ≡ list_any (λ m. m == n) (instances nodes)
has_by [] n = refl
has_by (e ∷ es) n = ap (λ b. e.1.node.instance == n || b) (has_by es n)

pub same_nodes : (nodes new : StoredNodes) → nodes_of new ≡ nodes_of nodes → (n : ℕ) → has_instance new n ≡ has_instance nodes n
same_nodes nodes new same n = has_by new n ∙ ap (λ ns. list_any (λ m. m == n) ns) (same_instances nodes new same) ∙ sym (has_by nodes n)

-- ---- each holder's lock has a holder

same_number : (n : ℕ) → (n == n) ≡ true
same_number n = grind (arith, nat_tests)

holder_grows : (e : LockKey × LockRow) (es : StoredLocks) (n : ℕ) → has_holder (locks_at es n) ≡ true → has_holder (locks_at (e ∷ es) n) ≡ true
holder_grows e es n h =
    elim (e.0.instance == n) as (λ b. has_holder (cond b (e ∷ locks_at es n) (locks_at es n)) ≡ true) [ true ↦ or_right (is_holding e.1.state) (has_holder (locks_at es n)) h | false ↦ h ]

or_more : (a b c : Bool) → (b ≡ true → c ≡ true) → (not a || b) ≡ true → (not a || c) ≡ true
or_more true b c f h = f h
or_more false b c f h = refl

own_held : (a b : Bool) → (not a || (a || b)) ≡ true
own_held true b = refl
own_held false b = refl

each_held_at : (locks : StoredLocks) → list_all (λ e. not (is_holding e.1.state) || has_holder (locks_at locks e.0.instance)) locks ≡ true
each_held_at [] = refl
each_held_at (e ∷ es) =
    let held : StoredLocks → LockKey × LockRow → Bool = λ locks x. not (is_holding x.1.state) || has_holder (locks_at locks x.0.instance) in
    let own : held (e ∷ es) e ≡ true = rw (same_number e.0.instance) (own_held (is_holding e.1.state) (has_holder (locks_at es e.0.instance))) in
    and_from (held (e ∷ es) e) (list_all (held (e ∷ es)) es) own
    (all_more (held es) (held (e ∷ es)) es (λ x. or_more (is_holding x.1.state) (has_holder (locks_at es x.0.instance)) (has_holder (locks_at (e ∷ es) x.0.instance)) (holder_grows e es x.0.instance)) (each_held_at es))

-- ---- the whole test

-- what another generation needs: the node, a number, and at least 1 where somebody holds the lock
pub record GenerationFits (rows : Rows) (name : List ℕ) (node : StoredNode) (generation : ℕ) : Type 0 where
  pub found : stored_node rows.nodes name ≡ Some node
  pub number : is_number generation ≡ true
  pub held : has_holder (locks_at rows.locks node.node.instance) ≡ true → nat_le 1 generation ≡ true

other_last : (a b c d f g m n h : Bool) → (a && b && (c && d && f && g && m) && h) ≡ true → n ≡ true → (a && b && (c && d && f && g && n) && h) ≡ true
other_last a b c d f g m n h all new =
    let t = and_parts (a && b && (c && d && f && g && m)) h all in
    let u = and_parts (a && b) (c && d && f && g && m) t.0 in
    let v = and_parts (c && d && f && g) m u.1 in
    and_from (a && b && (c && d && f && g && n)) h (and_from (a && b) (c && d && f && g && n) u.0 (and_from (c && d && f && g) n v.0 new)) t.1

itself : (n : ℕ) → n ≤ n
itself n = omega arith

held_of : (a b : Bool) → (not a || b) ≡ true → a ≡ true → b ≡ true
held_of true b h k = h
held_of false b h k = absurd cc

module _ (cell : List ℕ) (rows : Rows) (name : List ℕ) (node : StoredNode) (generation : ℕ) (fits : GenerationFits rows name node generation) where
  abbrev new_node : StoredNode
  new_node = record node { lock_generation = generation }

  abbrev new_nodes : StoredNodes
  new_nodes = set_value (is_at (slice_cmp nat_cmp name)) rows.nodes new_node

  abbrev new_rows : Rows
  new_rows = record rows { nodes = new_nodes }

  kept_map : nodes_of new_nodes ≡ nodes_of rows.nodes
  kept_map = nodes_set rows.nodes name node generation fits.found

  nodes_stay : list_all (node_fits cell rows.next_instance rows.nodes) rows.nodes ≡ true → list_all (node_fits cell rows.next_instance new_nodes) new_nodes ≡ true
  nodes_stay h =
      let stay = λ (e : List ℕ × StoredNode). node_stays cell rows.next_instance rows.next_instance rows.nodes new_nodes e (itself rows.next_instance) (same_parents rows.nodes new_nodes kept_map e.0) in
      let was = stay (name, node) (all_found (slice_cmp nat_cmp) exact_bytes (node_fits cell rows.next_instance rows.nodes) rows.nodes name node h fits.found) in
      let v : Node = node.node in
      let next : ℕ = rows.next_instance in
      let is : node_fits cell next new_nodes (name, new_node) ≡ true =
      other_last (bytes_eq (cell_of name) cell) (parent_fits new_nodes name) (nat_le 1 v.instance) (nat_lt v.instance next) (is_number v.content_generation) (is_number v.acl_generation)
      (is_number node.lock_generation) (is_number generation) (content_fits v.kind v) was fits.number in
      all_set (slice_cmp nat_cmp) exact_bytes (node_fits cell next new_nodes) rows.nodes name new_node (all_more (node_fits cell next rows.nodes) (node_fits cell next new_nodes) rows.nodes stay h) is

  holder_stays : (key : LockKey) → has_holder (locks_at rows.locks key.instance) ≡ true → holder_fits rows key ≡ true → holder_fits new_rows key ≡ true
  holder_stays key held h =
      let t = and_parts (has_generation rows.nodes key.instance) (is_live_in rows key.client) h in
      let P : ℕ → Type 0 = λ n. has_holder (locks_at rows.locks n) ≡ true in
      let first : (node.node.instance == key.instance && nat_le 1 node.lock_generation) ≡ true → (node.node.instance == key.instance && nat_le 1 generation) ≡ true = λ k.
      let u = and_parts (node.node.instance == key.instance) (nat_le 1 node.lock_generation) k in
      and_from (node.node.instance == key.instance) (nat_le 1 generation) u.0 (fits.held (subst P (sym (eqb-true node.node.instance key.instance u.0)) held)) in
      and_from (has_generation new_nodes key.instance) (is_live_in rows key.client)
      (any_set (is_at (slice_cmp nat_cmp name)) (λ (n : StoredNode). n.node.instance == key.instance && nat_le 1 n.lock_generation) rows.nodes node new_node fits.found first t.0) t.1

  state_stays : (key : LockKey) (state : LockState) → (is_holding state ≡ true → holder_fits rows key ≡ true → holder_fits new_rows key ≡ true) → state_fits rows key state ≡ true → state_fits new_rows key state ≡ true
  state_stays key Lapsed holder h = h
  state_stays key Exclusive holder h =
      let t = and_parts (length (beside rows.locks key) == 1) (holder_fits rows key) h in
      and_from (length (beside rows.locks key) == 1) (holder_fits new_rows key) t.0 (holder refl t.1)
  state_stays key Shared holder h =
      let t = and_parts (list_all (λ e. is_shared e.1.state) (beside rows.locks key)) (holder_fits rows key) h in
      and_from (list_all (λ e. is_shared e.1.state) (beside rows.locks key)) (holder_fits new_rows key) t.0 (holder refl t.1)

  lock_stays : (e : LockKey × LockRow) → lock_fits rows e ≡ true → (not (is_holding e.1.state) || has_holder (locks_at rows.locks e.0.instance)) ≡ true → lock_fits new_rows e ≡ true
  lock_stays e h held =
      let t = five_parts (has_instance rows.nodes e.0.instance) (is_number e.0.client) (is_number e.0.handle) (nat_le e.1.delay 60000) (state_fits rows e.0 e.1.state) h in
      let there : has_instance new_nodes e.0.instance ≡ true = same_nodes rows.nodes new_nodes kept_map e.0.instance ∙ t.0 in
      rw (there, t.1, t.2, t.3) (state_stays e.0 e.1.state (λ is. holder_stays e.0 (held_of (is_holding e.1.state) (has_holder (locks_at rows.locks e.0.instance)) held is)) t.4)

  generation_set : sound cell rows ≡ true → sound cell new_rows ≡ true
  generation_set h =
      let p = parts_of cell rows h in
      sound_of cell new_rows (record {
        named = p.named;
        epoch = p.epoch;
        next = p.next;
        root = same_directories rows.nodes new_nodes kept_map (root_of cell) ∙ p.root;
        nodes = nodes_stay p.nodes;
        distinct = ap are_distinct (same_instances rows.nodes new_nodes kept_map) ∙ p.distinct;
        sessions = p.sessions;
        locks = all_from_both (lock_fits rows) (λ e. not (is_holding e.1.state) || has_holder (locks_at rows.locks e.0.instance)) (lock_fits new_rows) rows.locks lock_stays p.locks (each_held_at rows.locks);
      })

  -- another generation of a node's lock, at least 1 where somebody holds it
  pub generation_sound : sound cell rows ≡ true → sound cell (edited rows (LockGeneration name generation)) ≡ true
  generation_sound h =
      let P : Option StoredNode → Type 0 = λ o. sound cell (record rows { nodes = at_generation rows.nodes name o generation }) ≡ true in
      subst P (sym fits.found) (generation_set h)

-- ---- the node at a name, and generations by instance

pub any_found : {K V : Type 0} (test : K → Bool) (p : V → Bool) (es : List (K × V)) (v : V) → lookup test es ≡ Some v → p v ≡ true → list_any (λ e. p e.1) es ≡ true
any_found test p [] v found h = absurd cc
any_found {K} {V} test p (e ∷ es) v found h =
    let any : List (K × V) → Bool = list_any (λ x. p x.1) in
    (elim (test e.0) as (λ b. cond b (Some e.1) (lookup test es) ≡ Some v → any (e ∷ es) ≡ true) [
      | true ↦ (λ f. let same : v ≡ e.1 = cc in or_left (p e.1) (any es) (ap p (sym same) ∙ h))
      | false ↦ (λ f. or_right (p e.1) (any es) (any_found test p es v f h))
    ]) found

-- a node that is found is there
pub found_there : (nodes : StoredNodes) (name : List ℕ) (node : StoredNode) (instance : ℕ) → stored_node nodes name ≡ Some node → node.node.instance ≡ instance → has_instance nodes instance ≡ true
found_there nodes name node instance found is =
    let own : (node.node.instance == instance) ≡ true = rw is (same_number instance) in
    any_found (is_at (slice_cmp nat_cmp name)) (λ (n : StoredNode). n.node.instance == instance) nodes node found own

-- and so is the generation of its lock
pub found_generation : (nodes : StoredNodes) (name : List ℕ) (node : StoredNode) (instance : ℕ) → stored_node nodes name ≡ Some node → node.node.instance ≡ instance → nat_le 1 node.lock_generation ≡ true → has_generation nodes instance ≡ true
found_generation nodes name node instance found is some =
    let own : (node.node.instance == instance) ≡ true = rw is (same_number instance) in
    any_found (is_at (slice_cmp nat_cmp name)) (λ (n : StoredNode). n.node.instance == instance && nat_le 1 n.lock_generation) nodes node found (and_from (node.node.instance == instance) (nat_le 1 node.lock_generation) own some)

pub found_set : {K V : Type 0} (test : K → Bool) (es : List (K × V)) (v w : V) → lookup test es ≡ Some v → lookup test (set_value test es w) ≡ Some w
found_set test [] v w found = absurd cc
found_set {K} {V} test (e ∷ es) v w found =
    (elim (test e.0) as (λ b. test e.0 ≡ b → cond b (Some e.1) (lookup test es) ≡ Some v → lookup test (cond b ((e.0, w) ∷ es) (e ∷ set_value test es w)) ≡ Some w) [
      | true ↦ (λ c f. rw c refl)
      | false ↦ (λ c f. rw c (found_set test es v w f))
    ]) refl found

pub found_apart : {K V : Type 0} (cmp : K → K → Ordering) → CmpEqualImpliesEq cmp → (es : List (K × V)) (k q : K) (w : V) → (q ≡ k → ⊥) → lookup (is_at (cmp q)) (set_value (is_at (cmp k)) es w) ≡ lookup (is_at (cmp q)) es
found_apart cmp exact [] k q w other = refl
found_apart {K} {V} cmp exact (e ∷ es) k q w other =
    let find : List (K × V) → Option V = lookup (is_at (cmp q)) in
    let at : K → Bool = is_at (cmp q) in
    (elim (is_at (cmp k) e.0) as (λ b. is_at (cmp k) e.0 ≡ b → find (cond b ((e.0, w) ∷ es) (e ∷ set_value (is_at (cmp k)) es w)) ≡ cond (at e.0) (Some e.1) (find es)) [
      | true ↦ (λ c.
          (elim (at e.0) as (λ b. at e.0 ≡ b → cond b (Some w) (find es) ≡ cond b (Some e.1) (find es)) [
            | true ↦ (λ d. absurd (other (exact q e.0 (eq_at (cmp q e.0) d) ∙ sym (exact k e.0 (eq_at (cmp k e.0) c)))))
            | false ↦ (λ d. refl)
          ]) refl)
      | false ↦ (λ c. ap (λ o. cond (at e.0) (Some e.1) o) (found_apart cmp exact es k q w other))
    ]) refl

-- the nodes with another generation at a name, where there is one
abbrev pub with_generation : StoredNodes → List ℕ → Option ℕ → StoredNodes
with_generation nodes name None = nodes
with_generation nodes name (Some generation) = at_generation nodes name (stored_node nodes name) generation

-- the node at the name has it
pub generation_here : (nodes : StoredNodes) (name : List ℕ) (node : StoredNode) (generation : Option ℕ) → stored_node nodes name ≡ Some node → stored_node (with_generation nodes name generation) name ≡ Some (record node { lock_generation = unwrap_or generation node.lock_generation })
generation_here nodes name node None found = found
generation_here nodes name node (Some generation) found =
    let P : Option StoredNode → Type 0 = λ o. stored_node (at_generation nodes name o generation) name ≡ Some (record node { lock_generation = generation }) in
    subst P (sym found) (found_set (is_at (slice_cmp nat_cmp name)) nodes node (record node { lock_generation = generation }) found)

-- all others stay
pub generation_elsewhere : (nodes : StoredNodes) (name q : List ℕ) (generation : Option ℕ) → (q ≡ name → ⊥) → stored_node (with_generation nodes name generation) q ≡ stored_node nodes q
generation_elsewhere nodes name q None other = refl
generation_elsewhere nodes name q (Some generation) other =
    (elim (stored_node nodes name) as (λ o. stored_node (at_generation nodes name o generation) q ≡ stored_node nodes q) [
      | None ↦ refl
      | Some node ↦ found_apart (slice_cmp nat_cmp) exact_bytes nodes name q (record node { lock_generation = generation }) other
    ])

-- the map stays
pub same_map : (nodes : StoredNodes) (name : List ℕ) (generation : Option ℕ) → nodes_of (with_generation nodes name generation) ≡ nodes_of nodes
same_map nodes name None = refl
same_map nodes name (Some generation) =
    (elim (stored_node nodes name) as (λ o. stored_node nodes name ≡ o → nodes_of (at_generation nodes name o generation) ≡ nodes_of nodes) [
      | None ↦ (λ e. refl)
      | Some node ↦ (λ e. nodes_set nodes name node generation e)
    ]) refl

-- the edit leaves the map; the sessions and the locks it doesn't touch
pub generation_map : (rows : Rows) (name : List ℕ) (generation : ℕ) → map_of (edited rows (LockGeneration name generation)) ≡ map_of rows
generation_map rows name generation = same_map rows.nodes name (Some generation)

not_both : (a b n : ℕ) → (a == n) ≡ true → (b == n) ≡ true → (b == a) ≡ true
not_both a b n h k = grind (arith, nat_tests)

opposite : (b : Bool) → b ≡ true → not b ≡ true → ⊥
opposite b h k = absurd (cc)

set_by_instance : (nodes : StoredNodes) (name : List ℕ) (node : StoredNode) (generation n : ℕ) → stored_node nodes name ≡ Some node → are_distinct (instances nodes) ≡ true
    → lock_generation_in (set_value (is_at (slice_cmp nat_cmp name)) nodes (record node { lock_generation = generation })) n ≡ cond (node.node.instance == n) (Some generation) (lock_generation_in nodes n)
set_by_instance [] name node generation n found distinct = absurd cc
set_by_instance (e ∷ es) name node generation n found distinct =
    let at : List ℕ → Bool = is_at (slice_cmp nat_cmp name) in
    let new : StoredNode = record node { lock_generation = generation } in
    let any : Bool = list_any (λ m. m == e.1.node.instance) (instances es) in
    let t = and_parts (not any) (are_distinct (instances es)) distinct in
    let old : Option ℕ = cond (e.1.node.instance == n) (Some e.1.lock_generation) (lock_generation_in es n) in
    (elim (at e.0) as (λ b. cond b (Some e.1) (stored_node es name) ≡ Some node → lock_generation_in (cond b ((e.0, new) ∷ es) (e ∷ set_value at es new)) n ≡ cond (node.node.instance == n) (Some generation) old) [
      | true ↦ (λ f.
          let same : e.1 ≡ node = cc in
          rw same (cond_twice (node.node.instance == n) (Some generation) (Some node.lock_generation) (lock_generation_in es n)))
      | false ↦ (λ f.
          ap (λ o. cond (e.1.node.instance == n) (Some e.1.lock_generation) o) (set_by_instance es name node generation n f t.1)
          ∙ cond_apart (e.1.node.instance == n) (node.node.instance == n) (Some e.1.lock_generation) (Some generation) (lock_generation_in es n) (λ a b.
          let both : (node.node.instance == e.1.node.instance) ≡ true = not_both e.1.node.instance node.node.instance n a b in
          let is : has_instance es e.1.node.instance ≡ true = any_found at (λ (x : StoredNode). x.node.instance == e.1.node.instance) es node f both in
          opposite any (sym (has_by es e.1.node.instance) ∙ is) t.0))
    ]) found

-- by instance: the node's lock has the generation, and all others have theirs
pub generation_by_instance : (nodes : StoredNodes) (name : List ℕ) (node : StoredNode) (generation n : ℕ) → stored_node nodes name ≡ Some node → are_distinct (instances nodes) ≡ true
    → lock_generation_in (with_generation nodes name (Some generation)) n ≡ cond (node.node.instance == n) (Some generation) (lock_generation_in nodes n)
generation_by_instance nodes name node generation n found distinct =
    let P : Option StoredNode → Type 0 = λ o. lock_generation_in (at_generation nodes name o generation) n ≡ cond (node.node.instance == n) (Some generation) (lock_generation_in nodes n) in
    subst P (sym found) (set_by_instance nodes name node generation n found distinct)

-- the node's own, which no other node's hides
pub found_by_instance : (nodes : StoredNodes) (name : List ℕ) (node : StoredNode) → stored_node nodes name ≡ Some node → are_distinct (instances nodes) ≡ true → lock_generation_in nodes node.node.instance ≡ Some node.lock_generation
found_by_instance [] name node found distinct = absurd cc
found_by_instance (e ∷ es) name node found distinct =
    let at : List ℕ → Bool = is_at (slice_cmp nat_cmp name) in
    let any : Bool = list_any (λ m. m == e.1.node.instance) (instances es) in
    let t = and_parts (not any) (are_distinct (instances es)) distinct in
    (elim (at e.0) as (λ b. cond b (Some e.1) (stored_node es name) ≡ Some node → lock_generation_in (e ∷ es) node.node.instance ≡ Some node.lock_generation) [
      | true ↦ (λ f. let same : e.1 ≡ node = cc in rw (same, same_number node.node.instance) refl)
      | false ↦ (λ f.
          (elim (e.1.node.instance == node.node.instance) as (λ b. (e.1.node.instance == node.node.instance) ≡ b → cond b (Some e.1.lock_generation) (lock_generation_in es node.node.instance) ≡ Some node.lock_generation) [
            | true ↦ (λ c.
                let both : (node.node.instance == e.1.node.instance) ≡ true = not_both e.1.node.instance node.node.instance node.node.instance c (same_number node.node.instance) in
                let is : has_instance es e.1.node.instance ≡ true = any_found at (λ (x : StoredNode). x.node.instance == e.1.node.instance) es node f both in
                absurd (opposite any (sym (has_by es e.1.node.instance) ∙ is) t.0))
            | false ↦ (λ c. found_by_instance es name node f t.1)
          ]) refl)
    ]) found

-- the same where the generation may stay
pub kept_or_new : (nodes : StoredNodes) (name : List ℕ) (node : StoredNode) (generation : Option ℕ) (n : ℕ) → stored_node nodes name ≡ Some node → are_distinct (instances nodes) ≡ true
    → lock_generation_in (with_generation nodes name generation) n ≡ cond (node.node.instance == n) (Some (unwrap_or generation node.lock_generation)) (lock_generation_in nodes n)
kept_or_new nodes name node (Some generation) n found distinct = generation_by_instance nodes name node generation n found distinct
kept_or_new nodes name node None n found distinct =
    (elim (node.node.instance == n) as (λ b. (node.node.instance == n) ≡ b → lock_generation_in nodes n ≡ cond b (Some node.lock_generation) (lock_generation_in nodes n)) [
      | true ↦ (λ c. let is : node.node.instance ≡ n = eqb-true node.node.instance n c in ap (λ m. lock_generation_in nodes m) (sym is) ∙ found_by_instance nodes name node found distinct)
      | false ↦ (λ c. refl)
    ]) refl
