-- A sequencer that a holder gets shows what the rows hold of its lock.
use Rattle.std.proofs.Common.{◌≡◌, ℕ, List, [], ◌∷◌, ◌++◌, Bool, true, false, cond, Option, Some, None, refl, sym, ap, subst, ◌∙◌, map}
use Rattle.std.specs.Prelude.{◌&&◌, ◌||◌, ◌==◌, is_none}
use Rattle.std.specs.Option.{option_map, option_map_or}
use Rattle.std.specs.Map.{lookup}
use Rattle.std.specs.BTreeMap.{is_at}
use Rattle.std.specs.Ordering.{nat_cmp}
use Rattle.std.specs.Cmp.{nat_cmp_total, tied_itself}
use Rattle.std.proofs.lemmas.Bool.{and_parts, eqb-true}
use Rattle.node_core.specs.declared.nodes.Node.{Node}
use Rattle.node_core.specs.declared.refusals.Fault.{Fault}
use Rattle.node_core.specs.declared.refusals.Fault.TheVariants as faults
use Rattle.node_core.specs.Nodes.{get_node}
use Rattle.rows_cell.specs.declared.tables.Rows.{Rows}
use Rattle.rows_cell.specs.declared.tables.StoredNode.{StoredNode}
use Rattle.rows_cell.specs.Indexes.{lock_generation_in, locks_at}
use Rattle.rows_cell.specs.Keys.{lock_order}
use Rattle.rows_cell.specs.Rows.{StoredNodes, StoredLocks, stored_node, map_of}
use Rattle.rows_cell.proofs.RowNodes.{nodes_get}
use Rattle.rows_cell.proofs.SoundGenerations.{found_there}
use Rattle.rows_cell.proofs.SoundParts.{has_instance}
use Rattle.tags_cell.specs.Handles.{read_handle}
use Rattle.tags_cell.specs.Sequencers.{sequencer_bytes}
use Rattle.tags_cell.specs.declared.handles.Handle.{Handle}
use Rattle.tags_cell.specs.declared.messages.calls.Call.{Call}
use Rattle.tags_cell.specs.declared.messages.calls.Call.TheVariants as calls
use Rattle.tags_cell.specs.declared.messages.outs.CallResult.{CallResult}
use Rattle.tags_cell.specs.declared.messages.outs.CallResult.TheVariants as results
use Rattle.tags_cell.specs.declared.messages.requests.CallMessage.{CallMessage}
use Rattle.tags_cell.specs.declared.sequencers.Sequencer.{Sequencer}
use Rattle.lock_core.specs.declared.claims.Closing.{Closing}
use Rattle.lock_core.specs.declared.claims.Hold.{Hold}
use Rattle.lock_core.specs.declared.claims.Owner.{Owner}
use Rattle.lock_core.specs.State.{LockState, Holders, owner_order, mode_of, hold_of}
use Rattle.lock_core.specs.Locks.{lock_at, sequencer_by}
use Rattle.master_parts.specs.Claims.{owner_of}
use Rattle.master_parts.specs.Locks.{holder_key, holder_row, holder_rows, closing_rows}
use Rattle.master_parts.specs.declared.pending.Taken.{Taken}
use Rattle.master_state.specs.NameSpace.{name_space}
use Rattle.master_state.specs.State.{MasterState}
use Rattle.master_state.specs.Lookups.{noted, own_handle, shown_handle, is_usable, handle_state_of, node_of_handle, sequencer_fault, sequencer_result, answer_under}
use Rattle.master_parts.specs.Keys.{key_of}
use Rattle.cell_core.specs.Step.{admission_for, admission_of, handle_admission}
use Rattle.over_core.specs.Kept.{IsKept}
use Rattle.master_laws.specs.Sequencers.{ShowsRows, SequencersShowTheRows}
use Rattle.master_laws.proofs.Answered.{same_answer, sent_at_once}
use Rattle.master_laws.proofs.NewCalls.{new_case}

-- ---- the row of a holder

same_key : (instance : ℕ) (owner other : Owner) → is_at (lock_order (holder_key instance owner)) (holder_key instance other) ≡ is_at (owner_order owner) other
same_key instance owner other = rw (tied_itself nat_cmp_total instance) refl

holder_found : (instance : ℕ) (owner : Owner) (holders : Holders) → lookup (is_at (lock_order (holder_key instance owner))) (holder_rows instance holders) ≡ option_map holder_row (lookup (is_at (owner_order owner)) holders)
holder_found instance owner [] = refl
holder_found instance owner (e ∷ es) =
    ap (λ b. cond b (Some (holder_row e.1)) (lookup (is_at (lock_order (holder_key instance owner))) (holder_rows instance es))) (same_key instance owner e.0)
    ∙ (elim (is_at (owner_order owner) e.0) as (λ b. cond b (Some (holder_row e.1)) (lookup (is_at (lock_order (holder_key instance owner))) (holder_rows instance es)) ≡ option_map holder_row (cond b (Some e.1) (lookup (is_at (owner_order owner)) es))) [
      | true ↦ refl
      | false ↦ holder_found instance owner es
    ])

some_holder : (holders : Holders) (owner : Owner) (hold : Hold) → lookup (is_at (owner_order owner)) holders ≡ Some hold → is_none (mode_of holders) ≡ false
some_holder [] owner hold h = absurd cc
some_holder (e ∷ es) owner hold h = refl

-- a lock that is held isn't closed
row_found : (instance : ℕ) (owner : Owner) (hold : Hold) (closed : Option Closing) (holders : Holders) → (is_none closed || is_none (mode_of holders)) ≡ true → lookup (is_at (owner_order owner)) holders ≡ Some hold
    → lookup (is_at (lock_order (holder_key instance owner))) (closing_rows instance closed ++ holder_rows instance holders) ≡ Some (holder_row hold)
row_found instance owner hold None holders unclosed found = holder_found instance owner holders ∙ ap (option_map holder_row) found
row_found instance owner hold (Some closing) holders unclosed found = let some = some_holder holders owner hold found in absurd cc

-- ---- the generation of a node that is there

has_generation : (nodes : StoredNodes) (n : ℕ) → has_instance nodes n ≡ true → (generation : ℕ) × (lock_generation_in nodes n ≡ Some generation)
has_generation [] n h = absurd cc
has_generation (e ∷ es) n h =
    (elim (e.1.node.instance == n) as (λ b. (b || has_instance es n) ≡ true → (generation : ℕ) × (cond b (Some e.1.lock_generation) (lock_generation_in es n) ≡ Some generation)) [
      | true ↦ (λ k. (e.1.lock_generation, refl))
      | false ↦ (λ k. has_generation es n k)
    ]) h

stored_at : (o : Option StoredNode) (view : Node) → option_map (λ (node : StoredNode). node.node) o ≡ Some view → (node : StoredNode) × (o ≡ Some node) × (node.node.instance ≡ view.instance)
stored_at None view h = absurd cc
stored_at (Some node) view h = let same : node.node ≡ view = cc in (node, refl, ap (λ (v : Node). v.instance) same)

-- ---- what a GetSequencer is answered

-- an answer, and what a sequencer shows that it may be
abbrev Shows : Rows → Handle → Option CallResult → Type 0
Shows rows handle answer = (result : CallResult) × (answer ≡ Some result) × ((given : List ℕ) → results.Sequencer given ≡ result → (sequencer : Sequencer) × (given ≡ sequencer_bytes sequencer) × ShowsRows rows handle sequencer)

refused_shows : (rows : Rows) (handle : Handle) (fault : Fault) → Shows rows handle (Some (results.Refused fault))
refused_shows rows handle fault = (results.Refused fault, refl, λ given is. absurd cc)

module _ (cell : List ℕ) (rows : Rows) (s : MasterState) (k : IsKept cell rows s) (bytes : List ℕ) (handle : Handle) where
  abbrev lock : LockState
  lock = lock_at s.locks handle.instance

  stands : (view : Node) (name : List ℕ) → get_node s.nodes name ≡ Some view → (view.instance == handle.instance) ≡ true → has_instance rows.nodes handle.instance ≡ true
  stands view name found own =
      let stored : option_map (λ (node : StoredNode). node.node) (stored_node rows.nodes name) ≡ Some view = sym (nodes_get rows.nodes name) ∙ ap (λ ns. get_node ns name) (sym k.nodes) ∙ found in
      let t = stored_at (stored_node rows.nodes name) view stored in
      found_there rows.nodes name t.0 handle.instance t.1 (t.2 ∙ eqb-true view.instance handle.instance own)

  held_shows : has_instance rows.nodes handle.instance ≡ true → (o : Option Hold) → hold_of lock (owner_of handle) ≡ o → Shows rows handle (Some (sequencer_result (sequencer_by lock handle.instance handle.name o)))
  held_shows there None is = refused_shows rows handle faults.NotHolder
  held_shows there (Some hold) is =
      let sequencer : Sequencer = record { mode = hold.mode; instance = handle.instance; generation = lock.generation; name = handle.name } in
      let g = has_generation rows.nodes handle.instance there in
      let row : lookup (is_at (lock_order (holder_key handle.instance (owner_of handle)))) (locks_at rows.locks handle.instance) ≡ Some (holder_row hold) =
      ap (λ (ls : StoredLocks). lookup (is_at (lock_order (holder_key handle.instance (owner_of handle)))) ls) (k.locks.rows_of_locks handle.instance)
      ∙ row_found handle.instance (owner_of handle) hold lock.closed lock.holders (k.locks.each handle.instance).legal.closed is in (
        results.Sequencer (sequencer_bytes sequencer),
        refl,
        λ given same. (
          sequencer,
          cc,
          record { name = refl; instance = refl; generation = g.1 ∙ ap (λ (n : ℕ). Some n) (k.locks.generations handle.instance g.0 g.1); row = holder_row hold; holds = row; mode = refl },
        ),
      )

  under_shows : (view : Node) (fault : Option Fault) → has_instance rows.nodes handle.instance ≡ true → Shows rows handle (answer_under (name_space s) handle (calls.GetSequencer bytes) view fault)
  under_shows view (Some fault) there = refused_shows rows handle fault
  under_shows view None there = held_shows there (hold_of lock (owner_of handle)) refl

  node_shows : (sequencer : Option (List ℕ)) (o : Option Node) → get_node s.nodes handle.name ≡ o → Shows rows handle (option_map_or (λ view. answer_under (name_space s) handle (calls.GetSequencer bytes) view (sequencer_fault (name_space s) sequencer)) (option_map_or (λ (view : Node). cond (view.instance == handle.instance) (Some view) None) o None) (Some (results.Refused faults.StaleInstance)))
  node_shows sequencer None is = refused_shows rows handle faults.StaleInstance
  node_shows sequencer (Some view) is =
      (elim (view.instance == handle.instance) as (λ b. (view.instance == handle.instance) ≡ b → Shows rows handle (option_map_or (λ v. answer_under (name_space s) handle (calls.GetSequencer bytes) v (sequencer_fault (name_space s) sequencer)) (cond {A = Option Node} b (Some view) None) (Some (results.Refused faults.StaleInstance)))) [
        | true ↦ (λ own. under_shows view (sequencer_fault (name_space s) sequencer) (stands view handle.name is own))
        | false ↦ (λ own. refused_shows rows handle faults.StaleInstance)
      ]) refl

-- the handle that is shown is the one that stands in the bytes
shown_is : (s : MasterState) (client : ℕ) (o : Option Handle) (shown handle : Handle) → o ≡ Some handle → option_map_or (λ h. own_handle s client h) o None ≡ Some shown → shown ≡ handle
shown_is s client None shown handle is h = absurd cc
shown_is s client (Some own) shown handle is h =
    let same : own ≡ handle = cc in
    (elim (own.client == client && is_usable s own (handle_state_of s (key_of own))) as (λ b. cond {A = Option Handle} b (Some own) None ≡ Some shown → shown ≡ handle) [
      | true ↦ (λ k. let e : own ≡ shown = cc in sym e ∙ same)
      | false ↦ (λ k. absurd cc)
    ]) h

module _ (cell : List ℕ) (rows : Rows) (s : MasterState) (k : IsKept cell rows s) (now client : ℕ) (bytes : List ℕ) (handle : Handle) (reads : read_handle s.secret bytes ≡ Some handle) (sequencer : Option (List ℕ)) where
  shown_shows : (o : Option Handle) → shown_handle (noted s now) client bytes ≡ o → Shows rows handle (handle_admission (noted s now) (calls.GetSequencer bytes) sequencer o).answer
  shown_shows None is = refused_shows rows handle faults.BadHandle
  shown_shows (Some shown) is =
      let same : shown ≡ handle = shown_is (noted s now) client (read_handle s.secret bytes) shown handle reads is in
      let P : Handle → Type 0 = λ h. Shows rows handle (handle_admission (noted s now) (calls.GetSequencer bytes) sequencer (Some h)).answer in
      subst P (sym same) (node_shows cell rows s k bytes handle sequencer (get_node s.nodes handle.name) refl)

pub sequencers_show_the_rows : SequencersShowTheRows
sequencers_show_the_rows cell rows s new now message bytes given handle taken k takes is reads answered =
    let there : MasterState = noted s now in
    let P : Call → Type 0 = λ call. Shows rows handle (admission_of there message.client message.number call message.sequencer).answer in
    let t = subst P (sym is) (shown_shows cell rows s k now message.client bytes handle reads message.sequencer (shown_handle there message.client bytes) refl) in
    let sent = sent_at_once there message new taken t.0 takes.serving t.1 (new_case s new now message taken takes.step takes.is_new) in
    t.2 given (same_answer taken message t.0 (results.Sequencer given) sent answered)
