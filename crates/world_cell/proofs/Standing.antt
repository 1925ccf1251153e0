-- What stands of a content in the rows stands after each step, and so does what a sweep tells of.
use Rattle.std.proofs.Common.{◌≡◌, ℕ, ◌≤◌, List, [], ◌∷◌, ◌++◌, Bool, true, false, cond, Option, Some, None, Equal, refl, sym, ap, subst, ◌∙◌, inl, inr, arith}
use Rattle.std.specs.Prelude.{◌⊎◌, ◌&&◌, ◌||◌, ◌==◌, not, is_none}
use Rattle.std.specs.Option.{option_map, option_map_or, option_and_then, option_or}
use Rattle.std.specs.List.{AllByRecursion, list_any, filter_map, cons_option}
use Rattle.std.specs.List.Sorted.{IsStrictlySortedBy}
use Rattle.std.specs.Map.{keys_of, remove_entry}
use Rattle.std.specs.BTreeMap.{is_at, insert_entry}
use Rattle.std.specs.Ordering.{is_eq, nat_cmp}
use Rattle.std.specs.Cmp.{eq_by_cmp_equiv, tied_itself}
use Rattle.std.specs.Cmp.Lexicographic.{slice_cmp, nat_list_cmp_total}
use Rattle.std.proofs.lemmas.Bool.{and_parts, or_left, or_right}
use Rattle.std.proofs.lemmas.Bool.Decides.{nat_tests}
use Rattle.std.proofs.lemmas.Map.{lookup-remove_entry}
use Rattle.std.proofs.lemmas.Map.Keys.{IsDistinct-from_sorted}
use Rattle.std.proofs.lemmas.Map.Lookups.{exact_bytes}
use Rattle.collections.proofs.Entries.{lookup_put, eq_at}
use Rattle.names_cell.specs.Text.{parent_of}
use Rattle.node_core.specs.declared.events.Event.{Event}
use Rattle.node_core.specs.declared.events.Event.TheVariants as events
use Rattle.node_core.specs.declared.nodes.Node.{Node}
use Rattle.node_core.specs.declared.views.Mod.{Mod}
use Rattle.node_core.specs.declared.views.Mod.TheVariants.{Put, Gone}
use Rattle.node_core.specs.Nodes.{Nodes, get_node, changed, with_parent}
use Rattle.rows_cell.specs.declared.tables.Rows.{Rows}
use Rattle.rows_cell.specs.Rows.{StoredNodes, nodes_of, map_of, changed_rows}
use Rattle.rows_cell.specs.Sound.{sound, are_distinct}
use Rattle.rows_cell.proofs.RowNodes.{keys_of_nodes}
use Rattle.rows_cell.proofs.SoundParts.{instances, has_instance, parts_of}
use Rattle.tags_cell.specs.declared.handles.Handle.{Handle}
use Rattle.master_state.specs.declared.updates.Change.{Change}
use Rattle.master_state.specs.declared.updates.Update.{Update}
use Rattle.master_state.specs.declared.updates.LockPut.{LockPut}
use Rattle.master_state.specs.declared.updates.SessionUpdate.{SessionUpdate}
use Rattle.master_state.specs.declared.updates.SessionUpdate.TheVariants.{Begins, Prolongs, Ends, Answers}
use Rattle.master_parts.specs.declared.handles.HandleKey.{HandleKey}
use Rattle.master_parts.specs.declared.handles.HandleState.{HandleState}
use Rattle.master_parts.specs.declared.handles.HandleState.TheVariants as states
use Rattle.master_parts.specs.declared.handles.HandleNote.{HandleNote}
use Rattle.master_parts.specs.declared.notices.Notice.{Notice}
use Rattle.master_parts.specs.declared.notices.Notice.TheVariants as notices
use Rattle.master_parts.specs.declared.notices.SessionEvent.{SessionEvent}
use Rattle.master_parts.specs.Events.{instance_of}
use Rattle.master_parts.specs.declared.pending.Task.TheVariants as tasks
use Rattle.master_state.specs.NameSpace.{name_space}
use Rattle.master_state.specs.Notices.{event_if, event_here, event_on, event_for, is_noted, telling_as, telling_by}
use Rattle.master_state.specs.State.{MasterState}
use Rattle.master_state.specs.Updates.{with_standing, without_handle, retired, forgets_of, new_generation, with_begun, with_put, with_locks, gone_of, session_rest, with_session_rest, with_kept, with_map, without_lock, recovered, left, done}
use Rattle.master_state.specs.Lookups.{holds_lock}
use Rattle.lock_core.specs.Locks.{LockTable, lock_at}
use Rattle.cell_core.specs.declared.effects.Effect.{Effect}
use Rattle.over_core.specs.declared.plans.Plan.{Plan}
use Rattle.cell_core.proofs.AskedFor.{asks_only}
use Rattle.cell_core.specs.Step.{queued}
use Rattle.over_core.specs.Kept.{IsKept}
use Rattle.cell_core.specs.ChangeNotices.{above, put_notices, gone_notices, mod_notices, change_notices, lock_notices, locks_notices, contest_notices}
use Rattle.over_core.specs.Plans.{notices_of, tellings_of}
use Rattle.over_core.specs.SweepCase.{SweepCase, swept_by, swept_edits, gone_change}
use Rattle.over_core.specs.SweepCase.SweepCase.{Quiet, Recovers, Expires, Reopens, Tidies, Spared, Tidied, AnswersBeat, TurnedAway, StartedAgain, Started, OfEnded, Ended, Applied, Deleted, Locked, Awaited, Left, Departed}
use Rattle.world_cell.specs.Contents.{IsNoOlder, Stands, IsTrue}
use Rattle.world_cell.proofs.EffectContents.{IsRenewed, Renews, IsFaithful, effect_faithful}
use Rattle.world_cell.proofs.EffectInstances.{GivesBy, effect_gives}
use Rattle.world_cell.proofs.InstancesKept.{was_given}

least : (n : ℕ) → n ≤ n
least n = omega arith

itself : (n : ℕ) → (n == n) ≡ true
itself n = grind (arith, nat_tests)

-- ---- the node of an instance

found_has : (nodes : StoredNodes) (name : List ℕ) (view : Node) → get_node (nodes_of nodes) name ≡ Some view → has_instance nodes view.instance ≡ true
found_has [] name view h = cc
found_has (e ∷ es) name view h =
    (elim (is_at (slice_cmp nat_cmp name) e.0) as (λ b. cond b (Some e.1.node) (get_node (nodes_of es) name) ≡ Some view → has_instance (e ∷ es) view.instance ≡ true) [
      | true ↦ (λ k.
          let same : e.1.node ≡ view = cc in
          let P : Node → Type 0 = λ v. has_instance (e ∷ es) v.instance ≡ true in
          subst P same (or_left (e.1.node.instance == e.1.node.instance) (has_instance es e.1.node.instance) (itself e.1.node.instance)))
      | false ↦ (λ k. or_right (e.1.node.instance == view.instance) (has_instance es view.instance) (found_has es name view k))
    ]) h

has_by : (nodes : StoredNodes) (n : ℕ) → has_instance nodes n ≡ list_any (λ m. m == n) (instances nodes)
has_by [] n = refl
has_by (e ∷ es) n = ap (λ b. e.1.node.instance == n || b) (has_by es n)

opposite : (b : Bool) → b ≡ true → not b ≡ true → ⊥
opposite b h k = absurd cc

-- none after it has its instance
not_twice : (nodes : StoredNodes) (n : ℕ) → not (list_any (λ m. m == n) (instances nodes)) ≡ true → has_instance nodes n ≡ true → ⊥
not_twice nodes n none has = opposite (list_any (λ m. m == n) (instances nodes)) (sym (has_by nodes n) ∙ has) none

one_node : (nodes : StoredNodes) (name other : List ℕ) (view seen : Node) → are_distinct (instances nodes) ≡ true → get_node (nodes_of nodes) name ≡ Some view → get_node (nodes_of nodes) other ≡ Some seen → seen.instance ≡ view.instance → seen ≡ view
one_node [] name other view seen distinct h k same = cc
one_node (e ∷ es) name other view seen distinct h k same =
    let t = and_parts (not (list_any (λ m. m == e.1.node.instance) (instances es))) (are_distinct (instances es)) distinct in
    let P : ℕ → Type 0 = λ n. has_instance es n ≡ true in
    (elim (is_at (slice_cmp nat_cmp name) e.0) as (λ b. cond b (Some e.1.node) (get_node (nodes_of es) name) ≡ Some view → seen ≡ view) [
      | true ↦ (λ at_name.
          let own : e.1.node ≡ view = cc in
          (elim (is_at (slice_cmp nat_cmp other) e.0) as (λ b. cond b (Some e.1.node) (get_node (nodes_of es) other) ≡ Some seen → seen ≡ view) [
            | true ↦ (λ at_other. let here : e.1.node ≡ seen = cc in sym here ∙ own)
            | false ↦ (λ at_other. absurd (not_twice es e.1.node.instance t.0 (subst P (same ∙ ap (λ (v : Node). v.instance) (sym own)) (found_has es other seen at_other))))
          ]) k)
      | false ↦ (λ at_name.
          (elim (is_at (slice_cmp nat_cmp other) e.0) as (λ b. cond b (Some e.1.node) (get_node (nodes_of es) other) ≡ Some seen → seen ≡ view) [
            | true ↦ (λ at_other.
                let here : e.1.node ≡ seen = cc in
                absurd (not_twice es e.1.node.instance t.0 (subst P (sym same ∙ ap (λ (v : Node). v.instance) (sym here)) (found_has es name view at_name))))
            | false ↦ (λ at_other. one_node es name other view seen t.1 at_name at_other same)
          ]) k)
    ]) h

no_older_same : (view seen : Node) → seen ≡ view → view.content_generation ≤ seen.content_generation
no_older_same view seen same = let P : Node → Type 0 = λ v. view.content_generation ≤ v.content_generation in subst P (sym same) (least view.content_generation)

-- what the rows hold stands
pub present_stands : (cell : List ℕ) (rows : Rows) (name : List ℕ) (view : Node) → sound cell rows ≡ true → get_node (map_of rows) name ≡ Some view → Stands rows view.instance view.content_generation
present_stands cell rows name view fit found =
    let p = parts_of cell rows fit in
    record {
      given = was_given cell rows.next_instance rows.nodes rows.nodes view.instance p.nodes (found_has rows.nodes name view found);
      present = λ other seen is same. no_older_same view seen (one_node rows.nodes name other view seen p.distinct found is same);
    }

-- ---- a change of the map

name_itself : (name : List ℕ) → slice_cmp nat_cmp name name ≡ Equal
name_itself name = tied_itself nat_list_cmp_total name

put_at_name : (nodes : Nodes) (name other : List ℕ) (view : Node) → get_node (insert_entry (slice_cmp nat_cmp) nodes name view) other ≡ cond (is_at (slice_cmp nat_cmp other) name) (Some view) (get_node nodes other)
put_at_name nodes name other view = lookup_put (slice_cmp nat_cmp) exact_bytes name_itself nodes name view other

put_there : (nodes : Nodes) (name : List ℕ) (view : Node) → get_node (insert_entry (slice_cmp nat_cmp) nodes name view) name ≡ Some view
put_there nodes name view = put_at_name nodes name name view ∙ rw (name_itself name) refl

put_found : (nodes : Nodes) (name other : List ℕ) (view seen : Node) → get_node (insert_entry (slice_cmp nat_cmp) nodes name view) other ≡ Some seen → (seen ≡ view) ⊎ (get_node nodes other ≡ Some seen)
put_found nodes name other view seen h =
    (elim (is_at (slice_cmp nat_cmp other) name) as (λ b. cond b (Some view) (get_node nodes other) ≡ Some seen → (seen ≡ view) ⊎ (get_node nodes other ≡ Some seen)) [
      | true ↦ (λ k. let same : view ≡ seen = cc in inl (sym same))
      | false ↦ (λ k. inr k)
    ]) (sym (put_at_name nodes name other view) ∙ h)

gone_found : (nodes : Nodes) (name other : List ℕ) (seen : Node) → IsStrictlySortedBy (slice_cmp nat_cmp) (keys_of nodes) → get_node (remove_entry (is_at (slice_cmp nat_cmp name)) nodes) other ≡ Some seen → get_node nodes other ≡ Some seen
gone_found nodes name other seen sorted h =
    let left : get_node (remove_entry (is_at (slice_cmp nat_cmp name)) nodes) other ≡ cond (is_at (slice_cmp nat_cmp name) other) None (get_node nodes other) =
    lookup-remove_entry (eq_by_cmp_equiv nat_list_cmp_total) (is_at (slice_cmp nat_cmp name))
    (λ x y e. ap is_eq (nat_list_cmp_total.congr name x y (eq_at (slice_cmp nat_cmp name x) e)))
    other nodes (IsDistinct-from_sorted (slice_cmp nat_cmp) (keys_of nodes) sorted) in
    (elim (is_at (slice_cmp nat_cmp name) other) as (λ b. cond b None (get_node nodes other) ≡ Some seen → get_node nodes other ≡ Some seen) [
      | true ↦ (λ k. cc)
      | false ↦ (λ k. k)
    ]) (sym left ∙ h)

still_renewed : (s : MasterState) (name : List ℕ) (view : Node) → get_node s.nodes name ≡ Some view → IsRenewed s view
still_renewed s name view found = inr (name, view, found, refl, least view.content_generation)

change_renews : (s : MasterState) (change : Mod) → IsStrictlySortedBy (slice_cmp nat_cmp) (keys_of s.nodes) → Renews s change → (name : List ℕ) (view : Node) → get_node (changed s.nodes change) name ≡ Some view → IsRenewed s view
change_renews s (Put at new) sorted renews name view found =
    elim (put_found s.nodes at name new view found) [
      | inl same ↦ subst (IsRenewed s) (sym same) renews
      | inr kept ↦ still_renewed s name view kept
    ]
change_renews s (Gone at) sorted renews name view found = still_renewed s name view (gone_found s.nodes at name view sorted found)

-- ---- from rows to later ones

module _ (cell : List ℕ) (old new : Rows) (s t : MasterState) (k : IsKept cell old s) (l : IsKept cell new t) (instance generation : ℕ) (h : Stands old instance generation) where
  renewed_later : (view : Node) → s.next_instance ≤ t.next_instance → IsRenewed s view → IsNoOlder instance generation view
  renewed_later view more (inl above) = λ same. let a = h.given in let b = k.next_instance in absurd (omega arith)
  renewed_later view more (inr r) = λ same.
      let found : get_node (map_of old) r.0 ≡ Some r.1 = ap (λ (ns : Nodes). get_node ns r.0) (sym k.nodes) ∙ r.2 in
      let before = h.present r.0 r.1 found (r.3 ∙ same) in
      let no_less = r.4 in
      omega arith

  stands_later : s.next_instance ≤ t.next_instance → ((name : List ℕ) (view : Node) → get_node t.nodes name ≡ Some view → IsRenewed s view) → Stands new instance generation
  stands_later more renewed = record {
    given = let a = h.given in let b = k.next_instance in let c = l.next_instance in omega arith;
    present = λ name view is. renewed_later view more (renewed name view (ap (λ (ns : Nodes). get_node ns name) l.nodes ∙ is));
  }

in_order_of : (cell : List ℕ) (rows : Rows) (s : MasterState) → IsKept cell rows s → IsStrictlySortedBy (slice_cmp nat_cmp) (keys_of s.nodes)
in_order_of cell rows s k =
    let P : List (List ℕ) → Type 0 = IsStrictlySortedBy (slice_cmp nat_cmp) in
    subst P (sym (ap (λ (ns : Nodes). keys_of ns) k.nodes ∙ keys_of_nodes rows.nodes)) k.names_in_order

module _ (cell : List ℕ) (rows : Rows) (s : MasterState) (k : IsKept cell rows s) (instance generation : ℕ) where
  abbrev IsStanding : SweepCase s → Type 0
  IsStanding c = IsKept cell (changed_rows rows (swept_edits s c)) (swept_by s c).0 → Stands rows instance generation → Stands (changed_rows rows (swept_edits s c)) instance generation

  same_stands : (c : SweepCase s) → (swept_by s c).0.nodes ≡ s.nodes → (swept_by s c).0.next_instance ≡ s.next_instance → IsStanding c
  same_stands c nodes next l h =
      stands_later cell rows (changed_rows rows (swept_edits s c)) s (swept_by s c).0 k l instance generation h (omega (arith, next))
      (λ name view found. still_renewed s name view (ap (λ (ns : Nodes). get_node ns name) (sym nodes) ∙ found))

  changed_stands : (c : SweepCase s) (change : Change) → (swept_by s c).0.nodes ≡ changed s.nodes change.change → (swept_by s c).0.next_instance ≡ change.next_instance → Renews s change.change → s.next_instance ≤ change.next_instance → IsStanding c
  changed_stands c change nodes next renews more l h =
      stands_later cell rows (changed_rows rows (swept_edits s c)) s (swept_by s c).0 k l instance generation h (omega (arith, next, more))
      (λ name view found. change_renews s change.change (in_order_of cell rows s k) renews name view (ap (λ (ns : Nodes). get_node ns name) (sym nodes) ∙ found))

  pub case_stands : (c : SweepCase s) → IsStanding c
  case_stands (Quiet none) = same_stands (Quiet none) refl refl
  case_stands (Recovers recovering heard) = same_stands (Recovers recovering heard) refl refl
  case_stands (Expires client session due) = same_stands (Expires client session due) refl refl
  case_stands (Departed front back asked call sequencer session turn work leave found live) = same_stands (Departed front back asked call sequencer session turn work leave found live) refl refl
  case_stands (Reopens at due) = same_stands (Reopens at due) refl refl
  case_stands (Tidies idle due) =
      let only = asks_only (with_parent idle.name) (queued s (with_parent idle.name) (tasks.Tidies idle)) in
      same_stands (Tidies idle due) (ap (λ (t : MasterState). t.nodes) only) (ap (λ (t : MasterState). t.next_instance) only)
  case_stands (Spared front back idle turn held) = same_stands (Spared front back idle turn held) refl refl
  case_stands (Tidied front back idle turn still) = changed_stands (Tidied front back idle turn still) (gone_change s idle) refl refl tt (least s.next_instance)
  case_stands (AnswersBeat client session beat due) = same_stands (AnswersBeat client session beat due) refl refl
  case_stands (TurnedAway front back asked principal received turn work may) = same_stands (TurnedAway front back asked principal received turn work may) refl refl
  case_stands (StartedAgain front back asked principal received session turn work found live) = same_stands (StartedAgain front back asked principal received session turn work found live) refl refl
  case_stands (Started front back asked principal received turn work none) = same_stands (Started front back asked principal received turn work none) refl refl
  case_stands (OfEnded front back asked call sequencer turn work gone) = same_stands (OfEnded front back asked call sequencer turn work gone) refl refl
  case_stands (Ended front back asked call sequencer None answer turn work stays live made) = same_stands (Ended front back asked call sequencer None answer turn work stays live made) refl refl
  case_stands (Ended front back asked call sequencer (Some note) answer turn work stays live made) = same_stands (Ended front back asked call sequencer (Some note) answer turn work stays live made) refl refl
  case_stands (Applied front back asked call sequencer None change answer turn work stays live made) =
      let P : Effect → Type 0 = GivesBy s in
      let Q : Effect → Type 0 = IsFaithful s in
      let gives = subst P made (effect_gives s asked.client asked.number call sequencer) in
      let faithful = subst Q made (effect_faithful s asked.client asked.number call sequencer) in
      changed_stands (Applied front back asked call sequencer None change answer turn work stays live made) change refl refl faithful.0 gives.next
  case_stands (Applied front back asked call sequencer (Some note) change answer turn work stays live made) =
      let P : Effect → Type 0 = GivesBy s in
      let Q : Effect → Type 0 = IsFaithful s in
      let gives = subst P made (effect_gives s asked.client asked.number call sequencer) in
      let faithful = subst Q made (effect_faithful s asked.client asked.number call sequencer) in
      changed_stands (Applied front back asked call sequencer (Some note) change answer turn work stays live made) change refl refl faithful.0 gives.next
  case_stands (Deleted front back asked call sequencer change at waiters answer turn work stays live made) =
      let P : Effect → Type 0 = GivesBy s in
      let Q : Effect → Type 0 = IsFaithful s in
      let gives = subst P made (effect_gives s asked.client asked.number call sequencer) in
      let faithful = subst Q made (effect_faithful s asked.client asked.number call sequencer) in
      changed_stands (Deleted front back asked call sequencer change at waiters answer turn work stays live made) change refl refl faithful.0 gives.next
  case_stands (Locked front back asked call sequencer put claim answer turn work stays live made) = same_stands (Locked front back asked call sequencer put claim answer turn work stays live made) refl refl
  case_stands (Awaited front back asked call sequencer put turn work stays live made) = same_stands (Awaited front back asked call sequencer put turn work stays live made) refl refl
  case_stands (Left front back asked call sequencer None leave answer turn work stays live made) = same_stands (Left front back asked call sequencer None leave answer turn work stays live made) refl refl
  case_stands (Left front back asked call sequencer (Some note) leave answer turn work stays live made) = same_stands (Left front back asked call sequencer (Some note) leave answer turn work stays live made) refl refl

-- ---- what an update puts is there

left_nodes : (s : MasterState) (o : Option ℕ) → (left s o).nodes ≡ s.nodes
left_nodes s None = refl
left_nodes s (Some number) = refl

recovered_nodes : (s : MasterState) (b : Bool) → (recovered s b).nodes ≡ s.nodes
recovered_nodes s false = refl
recovered_nodes s true = refl

unlocked_nodes : (s : MasterState) (o : Option ℕ) → (without_lock s o).nodes ≡ s.nodes
unlocked_nodes s None = refl
unlocked_nodes s (Some instance) = refl

rest_nodes : (s : MasterState) (o : Option SessionUpdate) → (with_session_rest s o).nodes ≡ s.nodes
rest_nodes s None = refl
rest_nodes s (Some (Begins client principal)) = refl
rest_nodes s (Some (Prolongs client)) = refl
rest_nodes s (Some (Ends client principal parting)) = refl
rest_nodes s (Some (Answers client)) = refl

module _ (s : MasterState) (update : Update) where
  -- the map is changed so
  abbrev done_by : Mod → ℕ → MasterState
  done_by change next =
      left (recovered (without_lock (with_map (with_kept (with_session_rest (retired (without_handle (with_locks (with_put (with_standing (with_begun s update.session) update.note) change) update.locks) (forgets_of update.note)) update.retires) (session_rest update.session)) update.kept) (Some (record { gone = gone_of change; next_instance = next }))) update.ends_lock) update.recovers) update.leaves

  put_stays : (name : List ℕ) (view : Node) (next : ℕ) → get_node (done_by (Put name view) next).nodes name ≡ Some view
  put_stays name view next =
      let begun : MasterState = with_standing (with_begun s update.session) update.note in
      let placed : MasterState = retired (without_handle (with_locks (with_put begun (Put name view)) update.locks) (forgets_of update.note)) update.retires in
      let kept : MasterState = with_kept (with_session_rest placed (session_rest update.session)) update.kept in
      let mapped : MasterState = with_map kept (Some (record { gone = None; next_instance = next })) in
      let unlocked : MasterState = without_lock mapped update.ends_lock in
      let nodes : (done_by (Put name view) next).nodes ≡ insert_entry (slice_cmp nat_cmp) begun.nodes name view =
      left_nodes (recovered unlocked update.recovers) update.leaves ∙ recovered_nodes unlocked update.recovers ∙ unlocked_nodes mapped update.ends_lock ∙ rest_nodes placed (session_rest update.session) in
      ap (λ (ns : Nodes). get_node ns name) nodes ∙ put_there begun.nodes name view

  whole : (o : Option Change) → update.change ≡ o → (change : Change) → o ≡ Some change → done s update ≡ done_by change.change change.next_instance
  whole o is change some = rw (is ∙ some) refl

  pub put_is_there : (change : Change) (name : List ℕ) (view : Node) → update.change ≡ Some change → change.change ≡ Put name view → get_node (done s update).nodes name ≡ Some view
  put_is_there change name view is puts =
      let P : Mod → Type 0 = λ m. get_node (done_by m change.next_instance).nodes name ≡ Some view in
      ap (λ (m : MasterState). get_node m.nodes name) (whole update.change refl change is) ∙ subst P (sym puts) (put_stays name view change.next_instance)

-- ---- what clients are told

abbrev pub IsTrueNotice : Rows → Notice → Type 0
IsTrueNotice rows (notices.Contents instance generation) = Stands rows instance generation
IsTrueNotice rows _ = Unit {0}

module _ (rows : Rows) where
  abbrev IfTrue : Option Event → Type 0
  IfTrue None = Unit {0}
  IfTrue (Some event) = IsTrue rows event

  abbrev IfTold : Option SessionEvent → Type 0
  IfTold None = Unit {0}
  IfTold (Some telling) = IsTrue rows telling.event

  if_true : (b : Bool) (event : Event) → IsTrue rows event → IfTrue (event_if b event)
  if_true true event h = h
  if_true false event h = tt

  here_true : (s : MasterState) (handle : Handle) (notice : Notice) → IsTrueNotice rows notice → IfTrue (event_here s handle notice)
  here_true s handle (notices.Contents instance generation) h = if_true handle.events.contents (events.Contents handle.number instance generation) h
  here_true s handle (notices.ChildAdded instance name) h = if_true handle.events.children (events.ChildAdded handle.number name) tt
  here_true s handle (notices.ChildRemoved instance name) h = if_true handle.events.children (events.ChildRemoved handle.number name) tt
  here_true s handle (notices.ChildModified instance name) h = if_true handle.events.children (events.ChildModified handle.number name) tt
  here_true s handle (notices.Invalid instance) h = tt
  here_true s handle (notices.Locked instance) h = if_true handle.events.lock (events.Locked handle.number) tt
  here_true s handle (notices.Conflict instance) h = if_true (handle.events.conflict && holds_lock (name_space s) handle) (events.Conflict handle.number) tt

  on_true : (s : MasterState) (handle : Handle) (notice : Notice) → IsTrueNotice rows notice → IfTrue (event_on s handle notice)
  on_true s handle notice h =
      elim (instance_of notice == handle.instance) as (λ b. IfTrue (cond b (event_here s handle notice) None)) [ true ↦ here_true s handle notice h | false ↦ tt ]

  first_true : (a b : Option Event) → IfTrue a → IfTrue b → IfTrue (option_or a b)
  first_true None b h k = k
  first_true (Some event) b h k = h

  for_true : (s : MasterState) (handle : Handle) (all : List Notice) → AllByRecursion (IsTrueNotice rows) all → IfTrue (event_for s handle all)
  for_true s handle [] h = tt
  for_true s handle (notice ∷ rest) h = first_true (event_on s handle notice) (event_for s handle rest) (on_true s handle notice h.0) (for_true s handle rest h.1)

  told_true : (client : ℕ) (o : Option Event) → IfTrue o → IfTold (option_map (λ event. record { client = client; event = event }) o)
  told_true client None h = tt
  told_true client (Some event) h = h

  as_true : (s : MasterState) (all : List Notice) (key : HandleKey) (state : HandleState) → AllByRecursion (IsTrueNotice rows) all → IfTold (telling_as s all key state)
  as_true s all key (states.Open noted) h = told_true key.client (event_for s noted.handle all) (for_true s noted.handle all h)
  as_true s all key states.Closed h = tt

  by_true : (s : MasterState) (note : Option HandleNote) (all : List Notice) (entry : HandleKey × HandleState) → AllByRecursion (IsTrueNotice rows) all → IfTold (telling_by s note all entry)
  by_true s note all entry h = elim (is_noted note entry.0) as (λ b. IfTold (cond b None (telling_as s all entry.0 entry.1))) [ true ↦ tt | false ↦ as_true s all entry.0 entry.1 h ]

  one_true : (o : Option SessionEvent) (rest : List SessionEvent) → IfTold o → AllByRecursion (λ (telling : SessionEvent). IsTrue rows telling.event) rest → AllByRecursion (λ (telling : SessionEvent). IsTrue rows telling.event) (cons_option o rest)
  one_true None rest h k = k
  one_true (Some telling) rest h k = (h, k)

  each_true : (s : MasterState) (note : Option HandleNote) (all : List Notice) (handles : List (HandleKey × HandleState)) → AllByRecursion (IsTrueNotice rows) all → AllByRecursion (λ (telling : SessionEvent). IsTrue rows telling.event) (filter_map (telling_by s note all) handles)
  each_true s _ all [] h = tt
  each_true s note all (entry ∷ rest) h = one_true (telling_by s note all entry) (filter_map (telling_by s note all) rest) (by_true s note all entry h) (each_true s note all rest h)

  both_true : (xs ys : List Notice) → AllByRecursion (IsTrueNotice rows) xs → AllByRecursion (IsTrueNotice rows) ys → AllByRecursion (IsTrueNotice rows) (xs ++ ys)
  both_true [] ys h k = k
  both_true (x ∷ xs) ys h k = (h.0, both_true xs ys h.1 k)

  above_true : (notice : ℕ → Notice) (o : Option Node) → ((n : ℕ) → IsTrueNotice rows (notice n)) → AllByRecursion (IsTrueNotice rows) (option_map_or (λ directory. notice directory.instance ∷ []) o [])
  above_true notice None h = tt
  above_true notice (Some directory) h = (h directory.instance, tt)

  put_true : (s : MasterState) (name : List ℕ) (view : Node) (former : Option Node) → Stands rows view.instance view.content_generation → AllByRecursion (IsTrueNotice rows) (put_notices s name view former)
  put_true s name view None h = above_true (λ directory. notices.ChildAdded directory name) (option_and_then (get_node s.nodes) (parent_of name)) (λ n. tt)
  put_true s name view (Some former) h =
      elim (former.content_generation == view.content_generation) as (λ b. AllByRecursion (IsTrueNotice rows) (cond b [] (notices.Contents view.instance view.content_generation ∷ above s name (λ directory. notices.ChildModified directory name)))) [
        | true ↦ tt
        | false ↦ (h, above_true (λ directory. notices.ChildModified directory name) (option_and_then (get_node s.nodes) (parent_of name)) (λ n. tt))
      ]

  gone_true : (s : MasterState) (name : List ℕ) (former : Option Node) → AllByRecursion (IsTrueNotice rows) (gone_notices s name former)
  gone_true s name None = tt
  gone_true s name (Some former) = (tt, above_true (λ directory. notices.ChildRemoved directory name) (option_and_then (get_node s.nodes) (parent_of name)) (λ n. tt))

  locks_true : (locks : LockTable) (puts : List LockPut) → AllByRecursion (IsTrueNotice rows) (locks_notices locks puts)
  locks_true locks [] = tt
  locks_true locks (put ∷ puts) = both_true (lock_notices locks put) (locks_notices locks puts) own (locks_true locks puts)
    where
      own : AllByRecursion (IsTrueNotice rows) (lock_notices locks put)
      own = elim (is_none (new_generation (lock_at locks put.instance) put.lock)) as (λ b. AllByRecursion (IsTrueNotice rows) (cond b [] (notices.Locked put.instance ∷ []))) [ true ↦ tt | false ↦ (tt, tt) ]

  contest_true : (o : Option ℕ) → AllByRecursion (IsTrueNotice rows) (contest_notices o)
  contest_true None = tt
  contest_true (Some instance) = (tt, tt)

  -- by what is planned, where what it puts stands in the rows
  module _ (s : MasterState) (plan : Plan) (stands : (name : List ℕ) (view : Node) → get_node (done s plan.update).nodes name ≡ Some view → Stands rows view.instance view.content_generation) where
    mod_true : (m : Mod) (change : Change) → plan.update.change ≡ Some change → change.change ≡ m → AllByRecursion (IsTrueNotice rows) (mod_notices s m)
    mod_true (Put name view) change is puts = put_true s name view (get_node s.nodes name) (stands name view (put_is_there s plan.update change name view is puts))
    mod_true (Gone name) change is puts = gone_true s name (get_node s.nodes name)

    change_true : (o : Option Change) → plan.update.change ≡ o → AllByRecursion (IsTrueNotice rows) (change_notices s o)
    change_true None is = tt
    change_true (Some change) is = mod_true change.change change is refl

    all_true : AllByRecursion (IsTrueNotice rows) (notices_of s plan)
    all_true =
        both_true (change_notices s plan.update.change ++ locks_notices s.locks plan.update.locks) (contest_notices plan.contested)
        (both_true (change_notices s plan.update.change) (locks_notices s.locks plan.update.locks) (change_true plan.update.change refl) (locks_true s.locks plan.update.locks)) (contest_true plan.contested)

    pub tellings_true : AllByRecursion (λ (telling : SessionEvent). IsTrue rows telling.event) (tellings_of s plan)
    tellings_true = each_true s plan.update.note (notices_of s plan) s.handles all_true
