-- What each step leaves of the candidates.
use Rattle.std.proofs.Common.{◌≡◌, ◌≢◌, ◌≤◌, ℕ, List, [], ◌∷◌, Bool, ◌⊎◌, inl, inr, ⊎_elim, true, false, cond, Option, Some, None, Result, Ok, Err, Ordering, Less, Equal, Greater, refl, sym, ap, subst, ◌∙◌, arith}
use Rattle.std.specs.Prelude.{◌+◌, ◌++◌, ◌&&◌, ◌||◌, ◌==◌, not, find, is_none, OnOk, OnErr}
use Rattle.std.specs.List.{list_any}
use Rattle.std.specs.Str.{bytes_eq}
use Rattle.std.specs.Option.{option_map, option_map_or}
use Rattle.std.specs.Ordering.{nat_cmp, match_ordering}
use Rattle.std.specs.Cmp.{tied_itself}
use Rattle.std.specs.Cmp.Lexicographic.{slice_cmp, nat_list_cmp_total}
use Rattle.std.specs.List.Sorted.{IsStrictlySortedBy}
use Rattle.std.specs.Map.{keys_of, lookup, remove_entry, set_value}
use Rattle.std.specs.BTreeMap.{is_at, insert_entry}
use Rattle.std.proofs.lemmas.Bool.Decides.{nat_tests}
use Rattle.std.proofs.lemmas.Map.Lookups.{CmpEqualImpliesEq, exact_bytes}
use Rattle.std.proofs.lemmas.Slice.Eq.{bytes_eq-Decides}
use Rattle.collections.specs.Tables.{with_former}
use Rattle.collections.proofs.Entries.{lookup_put}
use Rattle.rows_cell.proofs.SortedLookups.{lookup_gone}
use Rattle.names_cell.specs.Text.{parent_of, is_child}
use Rattle.tags_cell.specs.declared.messages.outs.Reply.{Reply}
use Rattle.node_core.specs.declared.nodes.Node.{Node}
use Rattle.node_core.specs.Nodes.{Nodes, get_node, has_children}
use Rattle.gate_core.specs.declared.pending.Pending.{Pending}
use Rattle.gate_core.specs.declared.pending.Waiting.{Waiting}
use Rattle.gate_core.specs.Gate.{is_numbered, change_at, without}
use Rattle.gate_core.specs.Queue.{QueueState}
use Rattle.session_core.specs.Session.{ended}
use Rattle.session_core.specs.Sessions.{SessionTable, is_live, with_session}
use Rattle.session_core.proofs.Keys.{same_key as same_number}
use Rattle.master_parts.specs.declared.handles.HandleKey.{HandleKey}
use Rattle.master_parts.specs.declared.handles.HandleState.{HandleState}
use Rattle.master_parts.specs.declared.handles.HandleState.TheVariants.{Open, Closed}
use Rattle.master_parts.specs.declared.pending.Task.{Task}
use Rattle.master_parts.specs.declared.pending.Task.TheVariants.{Asked, Tidies}
use Rattle.master_parts.specs.Handles.{NotedHandle}
use Rattle.master_parts.specs.Keys.{handle_order}
use Rattle.master_parts.specs.OpenHandles.{is_open_in, state_at, is_shut, forgotten, without_client}
use Rattle.master_parts.specs.EphemeralNames.{is_ephemeral}
use Rattle.master_parts.proofs.Found.{first_of_both, same_key, any_found, found_any}
use Rattle.master_parts.proofs.PlacedHandles.{exact_handle, handle_total, same_handle}
use Rattle.master_parts.proofs.Forgotten.{lookup_forgotten}
use Rattle.master_parts.proofs.Parted.{other_kept, was_known}
use Rattle.master_parts.specs.State.{TableState}
use Rattle.master_parts.specs.Ephemerals.{is_held_open, must_stay, has_its_turn, tidies, goes}
use Rattle.master_parts.specs.Candidates.{CandidateState, Has, Leads, HaveToGo, AreFound, HaveNumbers, AreCandidates, instance_open, instance_of_task, instance_tidied}
use Rattle.master_parts.proofs.Kept.{State, or_first, or_rest, second_of_both, went, is_closed, is_childless, has_no_turn, is_short_lived, open_more, other_live}

abbrev At : List ℕ → List ℕ → Bool
At q = is_at (slice_cmp nat_cmp q)

abbrev Handles : Type 0
Handles = List (HandleKey × HandleState)

abbrev Sessions : Type 0
Sessions = SessionTable Reply

abbrev Queue : Type 0
Queue = QueueState Task

same_names : (name : List ℕ) → slice_cmp nat_cmp name name ≡ Equal
same_names = tied_itself nat_list_cmp_total

-- ---- entries

module _ {K V : Type 0} (cmp : K → K → Ordering) (exact : CmpEqualImpliesEq cmp) where
  -- what is found once the value of a key was set
  found_set : (es : List (K × V)) (k : K) (v w : V) (q : K) → lookup (is_at (cmp q)) (set_value (is_at (cmp k)) es v) ≡ Some w → (lookup (is_at (cmp q)) es ≡ Some w) ⊎ ((q ≡ k) × (v ≡ w))
  found_set [] k v w q h = inl h
  found_set (e ∷ es) k v w q h =
      (elim (is_at (cmp k) e.0) as (λ b. is_at (cmp k) e.0 ≡ b → lookup (is_at (cmp q)) (cond b ((e.0, v) ∷ es) (e ∷ set_value (is_at (cmp k)) es v)) ≡ Some w → (lookup (is_at (cmp q)) (e ∷ es) ≡ Some w) ⊎ ((q ≡ k) × (v ≡ w))) [
        | true ↦ (λ c r.
            (elim (is_at (cmp q) e.0) as (λ b. is_at (cmp q) e.0 ≡ b → cond b (Some v) (lookup (is_at (cmp q)) es) ≡ Some w → (cond b (Some e.1) (lookup (is_at (cmp q)) es) ≡ Some w) ⊎ ((q ≡ k) × (v ≡ w))) [
              | true ↦ (λ d l. let is : v ≡ w = cc in inr (same_key cmp exact q e.0 d ∙ sym (same_key cmp exact k e.0 c), is))
              | false ↦ (λ d l. inl l)
            ]) refl r)
        | false ↦ (λ c r.
            (elim (is_at (cmp q) e.0) as (λ b. is_at (cmp q) e.0 ≡ b → cond b (Some e.1) (lookup (is_at (cmp q)) (set_value (is_at (cmp k)) es v)) ≡ Some w → (cond b (Some e.1) (lookup (is_at (cmp q)) es) ≡ Some w) ⊎ ((q ≡ k) × (v ≡ w))) [
              | true ↦ (λ d l. inl l)
              | false ↦ (λ d l. found_set es k v w q l)
            ]) refl r)
      ]) refl h

-- a key that passes is there also once another was put
any_put : {V : Type 0} (test : List ℕ → Bool) (es : List (List ℕ × V)) (k : List ℕ) (v : V) → list_any test (keys_of es) ≡ true → list_any test (keys_of (insert_entry (slice_cmp nat_cmp) es k v)) ≡ true
any_put test [] k v h = absurd (cc)
any_put {V} test (e ∷ es) k v h =
    elim (slice_cmp nat_cmp k e.0) as (λ o. list_any test (keys_of (match_ordering o ((k, v) ∷ e ∷ es) ((e.0, v) ∷ es) (e ∷ insert_entry (slice_cmp nat_cmp) es k v))) ≡ true) [
      | Less ↦ or_rest (test k) (list_any test (keys_of (e ∷ es))) h
      | Equal ↦ h
      | Greater ↦
          (elim (test e.0) as (λ b. (b || list_any test (keys_of es)) ≡ true → (b || list_any test (keys_of (insert_entry (slice_cmp nat_cmp) es k v))) ≡ true) [
            | true ↦ (λ r. refl)
            | false ↦ (λ r. any_put test es k v r)
          ]) h
    ]

-- and once another is gone, or else it is that one
any_gone : {V : Type 0} (test : List ℕ → Bool) (es : List (List ℕ × V)) (k : List ℕ) → list_any test (keys_of es) ≡ true → (list_any test (keys_of (remove_entry (At k) es)) ≡ true) ⊎ (test k ≡ true)
any_gone test [] k h = absurd (cc)
any_gone {V} test (e ∷ es) k h =
    (elim (At k e.0) as (λ b. At k e.0 ≡ b → (list_any test (keys_of (cond b es (e ∷ remove_entry (At k) es))) ≡ true) ⊎ (test k ≡ true)) [
      | true ↦ (λ c.
          (elim (test e.0) as (λ b. test e.0 ≡ b → (b || list_any test (keys_of es)) ≡ true → (list_any test (keys_of es) ≡ true) ⊎ (test k ≡ true)) [
            | true ↦ (λ d r. inr (ap test (same_key (slice_cmp nat_cmp) exact_bytes k e.0 c) ∙ d))
            | false ↦ (λ d r. inl r)
          ]) refl h)
      | false ↦ (λ c.
          (elim (test e.0) as (λ b. test e.0 ≡ b → (b || list_any test (keys_of es)) ≡ true → ((b || list_any test (keys_of (remove_entry (At k) es))) ≡ true) ⊎ (test k ≡ true)) [
            | true ↦ (λ d r. inl refl)
            | false ↦ (λ d r. any_gone test es k r)
          ]) refl h)
    ]) refl

-- ---- nodes

or_more : (a b c : Bool) → (a ≡ true → b ≡ true) → (a || c) ≡ true → (b || c) ≡ true
or_more true b c f h = or_first b c (f refl)
or_more false b c f h = or_rest b c h

module _ (handles : Handles) (sessions : Sessions) (queue : Queue) where
  put_node : (old : Nodes) (c d : CandidateState) (name : List ℕ) (node : Node) → (is_ephemeral node.life ≡ true → Has d name) → (is_ephemeral node.life ≡ true → Leads d node.instance name) → ((i : ℕ) (q : List ℕ) → Leads c i q → Leads d i q) → ((q : List ℕ) → Has c q → Has d q) → AreCandidates (State old handles sessions queue) c → AreCandidates (State (insert_entry (slice_cmp nat_cmp) old name node) handles sessions queue) d
  put_node old c d name node has found leads kept h =
      let new : Nodes = insert_entry (slice_cmp nat_cmp) old name node in
      record {
        to_go = λ q w there is.
            let short : is_ephemeral w.life ≡ true = is_short_lived (State new handles sessions queue) q w is in
            (elim (At q name) as (λ b. At q name ≡ b → cond b (Some node) (lookup (At q) old) ≡ Some w → Has d q) [
              | true ↦ (λ e k.
                  let value : node ≡ w = cc in
                  let P : List ℕ → Type 0 = λ x. Has d x in
                  subst P (sym (same_key (slice_cmp nat_cmp) exact_bytes q name e)) (has (ap (λ v. is_ephemeral v.life) value ∙ short)))
              | false ↦ (λ e k.
                  let stays : must_stay old q ≡ true → must_stay new q ≡ true = or_more (has_children old q) (has_children new q) (is_none (parent_of q)) (any_put (λ child. is_child child q) old name node) in
                  kept q (h.to_go q w k (went (State old handles sessions queue) (State new handles sessions queue) q w (λ x. x) stays (λ x. x) is)))
            ]) refl (sym (lookup_put (slice_cmp nat_cmp) exact_bytes same_names old name node q) ∙ there);
        found = λ q w there short.
            (elim (At q name) as (λ b. At q name ≡ b → cond b (Some node) (lookup (At q) old) ≡ Some w → Leads d w.instance q) [
              | true ↦ (λ e k.
                  let value : node ≡ w = cc in
                  let P : List ℕ → Type 0 = λ x. Leads d w.instance x in
                  let Q : ℕ → Type 0 = λ i. Leads d i name in
                  subst P (sym (same_key (slice_cmp nat_cmp) exact_bytes q name e)) (subst Q (ap (λ v. v.instance) value) (found (ap (λ v. is_ephemeral v.life) value ∙ short))))
              | false ↦ (λ e k. leads w.instance q (h.found q w k short))
            ]) refl (sym (lookup_put (slice_cmp nat_cmp) exact_bytes same_names old name node q) ∙ there);
        numbered = h.numbered;
      }

  pub by_set : {X E : Type 0} (r : Result X E) (old new : Nodes) (c d : CandidateState) (name : List ℕ) (node : Node) → (is_ephemeral node.life ≡ true → Has d name) → (is_ephemeral node.life ≡ true → Leads d node.instance name) → ((i : ℕ) (q : List ℕ) → Leads c i q → Leads d i q) → ((q : List ℕ) → Has c q → Has d q) → OnOk r (new ≡ insert_entry (slice_cmp nat_cmp) old name node) → OnErr r (new ≡ old) → AreCandidates (State old handles sessions queue) c → AreCandidates (State new handles sessions queue) d
  by_set (Ok x) old new c d name node has found leads kept ok err h =
      let P : Nodes → Type 0 = λ ns. AreCandidates (State ns handles sessions queue) d in
      subst P (sym ok) (put_node old c d name node has found leads kept h)
  by_set (Err x) old new c d name node has found leads kept ok err h =
      let P : Nodes → Type 0 = λ ns. AreCandidates (State ns handles sessions queue) d in
      subst P (sym err) (record {
        to_go = λ q w there is. kept q (h.to_go q w there is);
        found = λ q w there short. leads w.instance q (h.found q w there short);
        numbered = h.numbered;
      })

  restore_node : (old : Nodes) (c d : CandidateState) (name : List ℕ) (former : Option Node) → IsStrictlySortedBy (slice_cmp nat_cmp) (keys_of old) → ((w : Node) → former ≡ Some w → is_ephemeral w.life ≡ true → Leads d w.instance name) → ((q : List ℕ) → (former ≡ None → At q name ≡ false) → Has d q) → ((i : ℕ) (q : List ℕ) → At q name ≡ false → Leads c i q → Leads d i q) → AreCandidates (State old handles sessions queue) c → AreCandidates (State (with_former (slice_cmp nat_cmp) old name former) handles sessions queue) d
  restore_node old c d name None sorted found has leads h =
      let apart : (q : List ℕ) (w : Node) → lookup (At q) (remove_entry (At name) old) ≡ Some w → (At q name ≡ false) × (lookup (At q) old ≡ Some w) = λ q w there.
      (elim (At q name) as (λ b. At q name ≡ b → cond b None (lookup (At q) old) ≡ Some w → (At q name ≡ false) × (lookup (At q) old ≡ Some w)) [
        | true ↦ (λ e k. absurd (cc))
        | false ↦ (λ e k. (e, k))
      ]) refl (sym (lookup_gone (slice_cmp nat_cmp) nat_list_cmp_total exact_bytes old name q sorted) ∙ there) in
      record {
        to_go = λ q w there is. has q (λ e. (apart q w there).0);
        found = λ q w there short. leads w.instance q (apart q w there).0 (h.found q w (apart q w there).1 short);
        numbered = h.numbered;
      }
  restore_node old c d name (Some node) sorted found has leads h = record {
    to_go = λ q w there is. has q (λ e. absurd (cc));
    found = λ q w there short.
        (elim (At q name) as (λ b. At q name ≡ b → Leads d w.instance q) [
          | true ↦ (λ e.
              let same : q ≡ name = same_key (slice_cmp nat_cmp) exact_bytes q name e in
              let P : List ℕ → Type 0 = λ x. Leads d w.instance x in
              let R : List ℕ → Type 0 = λ x. lookup (At x) (set_value (At name) old node) ≡ Some w in
              let value : node ≡ w = set_there old name node w (subst R same there) in
              subst P (sym same) (found w (ap (λ x. Some x) value) short))
          | false ↦ (λ e.
              ⊎_elim (λ l. leads w.instance q e (h.found q w l short))
              (λ r.
              let P : List ℕ → Type 0 = λ x. At x name ≡ false in
              let t : At name name ≡ false = subst P r.0 e in
              let u : At name name ≡ true = itself name in
              absurd (cc))
              (found_set (slice_cmp nat_cmp) exact_bytes old name node w q there))
        ]) refl;
    numbered = h.numbered;
  }
    where
      itself : (x : List ℕ) → At x x ≡ true
      itself x = rw (same_names x) refl

      set_there : (es : Nodes) (k : List ℕ) (v w : Node) → lookup (At k) (set_value (At k) es v) ≡ Some w → v ≡ w
      set_there [] k v w g = absurd (cc)
      set_there (e ∷ es) k v w g =
          (elim (At k e.0) as (λ b. At k e.0 ≡ b → lookup (At k) (cond b ((e.0, v) ∷ es) (e ∷ set_value (At k) es v)) ≡ Some w → v ≡ w) [
            | true ↦ (λ b j. let t : lookup (At k) ((e.0, v) ∷ es) ≡ Some v = rw b refl in cc)
            | false ↦ (λ b j. let t : lookup (At k) (e ∷ set_value (At k) es v) ≡ lookup (At k) (set_value (At k) es v) = rw b refl in set_there es k v w (sym t ∙ j))
          ]) refl g

  pub by_restore : (old new : Nodes) (c d : CandidateState) (name : List ℕ) (former : Option Node) → IsStrictlySortedBy (slice_cmp nat_cmp) (keys_of old) → new ≡ with_former (slice_cmp nat_cmp) old name former → ((w : Node) → former ≡ Some w → is_ephemeral w.life ≡ true → Leads d w.instance name) → ((q : List ℕ) → (former ≡ None → At q name ≡ false) → Has d q) → ((i : ℕ) (q : List ℕ) → At q name ≡ false → Leads c i q → Leads d i q) → AreCandidates (State old handles sessions queue) c → AreCandidates (State new handles sessions queue) d
  by_restore old new c d name former sorted e found has leads h =
      let P : Nodes → Type 0 = λ ns. AreCandidates (State ns handles sessions queue) d in
      subst P (sym e) (restore_node old c d name former sorted found has leads h)

  -- the parent of a name
  above : (name q : List ℕ) → is_child name q ≡ true → parent_of name ≡ Some q
  above name q h =
      (elim (parent_of name) as (λ o. option_map_or (λ front. bytes_eq front q) o false ≡ true → o ≡ Some q) [
        | None ↦ (λ k. absurd (cc))
        | Some front ↦ (λ k. ap (λ x. Some x) (same front q k))
      ]) h
    where
      same : (x y : List ℕ) → bytes_eq x y ≡ true → x ≡ y
      same x y k = (bytes_eq-Decides x y).0 k

  pub by_unset : (old new : Nodes) (c d : CandidateState) (name : List ℕ) → IsStrictlySortedBy (slice_cmp nat_cmp) (keys_of old) → new ≡ remove_entry (At name) old → ((q : List ℕ) → parent_of name ≡ Some q → Has d q) → ((i : ℕ) (q : List ℕ) → At q name ≡ false → Leads c i q → Leads d i q) → ((q : List ℕ) → At q name ≡ false → Has c q → Has d q) → AreCandidates (State old handles sessions queue) c → AreCandidates (State new handles sessions queue) d
  by_unset old new c d name sorted e parent leads kept h =
      let P : Nodes → Type 0 = λ ns. AreCandidates (State ns handles sessions queue) d in
      let gone : Nodes = remove_entry (At name) old in
      let apart : (q : List ℕ) (w : Node) → lookup (At q) gone ≡ Some w → (At q name ≡ false) × (lookup (At q) old ≡ Some w) = λ q w there.
      (elim (At q name) as (λ b. At q name ≡ b → cond b None (lookup (At q) old) ≡ Some w → (At q name ≡ false) × (lookup (At q) old ≡ Some w)) [
        | true ↦ (λ t k. absurd (cc))
        | false ↦ (λ t k. (t, k))
      ]) refl (sym (lookup_gone (slice_cmp nat_cmp) nat_list_cmp_total exact_bytes old name q sorted) ∙ there) in
      subst P (sym e) (record {
        to_go = λ q w there is.
            (elim (must_stay old q) as (λ b. must_stay old q ≡ b → Has d q) [
              | true ↦ (λ t.
                  let free : must_stay gone q ≡ false = is_childless (State gone handles sessions queue) q w is in
                  ⊎_elim (λ l. absurd (let k : must_stay gone q ≡ true = or_first (has_children gone q) (is_none (parent_of q)) l in cc))
                  (λ r. parent q (above name q r))
                  (any_gone (λ child. is_child child q) old name (childed (has_children old q) (has_children gone q) (is_none (parent_of q)) t free)))
              | false ↦ (λ t.
                  let stays : must_stay old q ≡ true → must_stay gone q ≡ true = λ k. absurd (cc) in
                  kept q (apart q w there).0 (h.to_go q w (apart q w there).1 (went (State old handles sessions queue) (State gone handles sessions queue) q w (λ x. x) stays (λ x. x) is)))
            ]) refl;
        found = λ q w there short. leads w.instance q (apart q w there).0 (h.found q w (apart q w there).1 short);
        numbered = h.numbered;
      })
    where
      childed : (a b root : Bool) → (a || root) ≡ true → (b || root) ≡ false → a ≡ true
      childed true b root s t = refl
      childed false true root s t = absurd (cc)
      childed false false root s t = absurd (cc)

-- ---- handles

same_instance : (n m : ℕ) → (n == m) ≡ true → n ≡ m
same_instance n m h = grind (arith, nat_tests)

opened : (sessions : Sessions) (i : ℕ) (key : HandleKey) (state : HandleState) → is_open_in sessions i key state ≡ true → (instance_open (Some state) ≡ Some i) × (is_live sessions key.client ≡ true)
opened sessions i key Closed h = absurd (cc)
opened sessions i key (Open noted) h =
    let on : Bool = noted.handle.instance == i in
    (ap (λ x. Some x) (same_instance noted.handle.instance i (first_of_both on (is_live sessions key.client) h)), second_of_both on (is_live sessions key.client) h)

module _ (nodes : Nodes) (sessions : Sessions) (queue : Queue) where
  put_handle : (old : Handles) (c d : CandidateState) (key : HandleKey) (state : HandleState) → IsStrictlySortedBy handle_order (keys_of old) → 1 ≤ key.number → ((i : ℕ) (q : List ℕ) → instance_open (state_at old key) ≡ Some i → Leads c i q → Has d q) → ((i : ℕ) (q : List ℕ) → Leads c i q → Leads d i q) → ((q : List ℕ) → Has c q → Has d q) → AreCandidates (State nodes old sessions queue) c → AreCandidates (State nodes (insert_entry handle_order old key state) sessions queue) d
  put_handle old c d key state sorted number own leads kept h =
      let new : Handles = insert_entry handle_order old key state in
      let opens : ℕ → HandleKey × HandleState → Bool = λ i e. is_open_in sessions i e.0 e.1 in
      record {
        to_go = λ q w there is.
            let closed : is_held_open (State nodes new sessions queue) w.instance ≡ false = is_closed (State nodes new sessions queue) q w is in
            let short : is_ephemeral w.life ≡ true = is_short_lived (State nodes new sessions queue) q w is in
            (elim (list_any (opens w.instance) old) as (λ b. list_any (opens w.instance) old ≡ b → Has d q) [
              | true ↦ (λ t.
                  let one = found_any handle_order handle_total exact_handle (opens w.instance) old sorted t in
                  (elim (is_at (handle_order one.0) key) as (λ b. is_at (handle_order one.0) key ≡ b → cond b (Some state) (lookup (is_at (handle_order one.0)) old) ≡ lookup (is_at (handle_order one.0)) new → Has d q) [
                    | true ↦ (λ e k.
                        let P : HandleKey → Type 0 = λ x. state_at old x ≡ Some one.1 in
                        let mine : state_at old key ≡ Some one.1 = subst P (same_key handle_order exact_handle one.0 key e) one.2 in
                        own w.instance q (ap instance_open mine ∙ (opened sessions w.instance one.0 one.1 one.3).0) (h.found q w there short))
                    | false ↦ (λ e k.
                        let still : list_any (opens w.instance) new ≡ true = any_found handle_order handle_total exact_handle (opens w.instance) new one.0 one.1 (sym k ∙ one.2) one.3 in
                        absurd (cc))
                  ]) refl (sym (lookup_put handle_order exact_handle same_handle old key state one.0)))
              | false ↦ (λ t.
                  let held : is_held_open (State nodes old sessions queue) w.instance ≡ true → is_held_open (State nodes new sessions queue) w.instance ≡ true = λ k. absurd (cc) in
                  kept q (h.to_go q w there (went (State nodes old sessions queue) (State nodes new sessions queue) q w held (λ x. x) (λ x. x) is)))
            ]) refl;
        found = λ q w there short. leads w.instance q (h.found q w there short);
        numbered = λ k s there.
            (elim (is_at (handle_order k) key) as (λ b. is_at (handle_order k) key ≡ b → cond b (Some state) (lookup (is_at (handle_order k)) old) ≡ Some s → 1 ≤ k.number) [
              | true ↦ (λ e g. let P : HandleKey → Type 0 = λ x. 1 ≤ x.number in subst P (sym (same_key handle_order exact_handle k key e)) number)
              | false ↦ (λ e g. h.numbered k s g)
            ]) refl (sym (lookup_put handle_order exact_handle same_handle old key state k) ∙ there);
      }

  pub by_put : {X E : Type 0} (r : Result X E) (old new : Handles) (c d : CandidateState) (key : HandleKey) (state : HandleState) → IsStrictlySortedBy handle_order (keys_of old) → 1 ≤ key.number → ((i : ℕ) (q : List ℕ) → instance_open (state_at old key) ≡ Some i → Leads c i q → Has d q) → ((i : ℕ) (q : List ℕ) → Leads c i q → Leads d i q) → ((q : List ℕ) → Has c q → Has d q) → OnOk r (new ≡ insert_entry handle_order old key state) → OnErr r (new ≡ old) → AreCandidates (State nodes old sessions queue) c → AreCandidates (State nodes new sessions queue) d
  by_put (Ok x) old new c d key state sorted number own leads kept ok err h =
      let P : Handles → Type 0 = λ hs. AreCandidates (State nodes hs sessions queue) d in
      subst P (sym ok) (put_handle old c d key state sorted number own leads kept h)
  by_put (Err x) old new c d key state sorted number own leads kept ok err h =
      let P : Handles → Type 0 = λ hs. AreCandidates (State nodes hs sessions queue) d in
      subst P (sym err) (record {
        to_go = λ q w there is. kept q (h.to_go q w there is);
        found = λ q w there short. leads w.instance q (h.found q w there short);
        numbered = h.numbered;
      })

  numbers : (old : Handles) (key : HandleKey) (former : Option HandleState) → IsStrictlySortedBy handle_order (keys_of old) → 1 ≤ key.number → HaveNumbers old → HaveNumbers (with_former handle_order old key former)
  numbers old key None sorted number h = λ k s there.
      (elim (is_at (handle_order k) key) as (λ b. cond b None (lookup (is_at (handle_order k)) old) ≡ Some s → 1 ≤ k.number) [
        | true ↦ (λ g. absurd (cc))
        | false ↦ (λ g. h k s g)
      ]) (sym (lookup_gone handle_order handle_total exact_handle old key k sorted) ∙ there)
  numbers old key (Some state) sorted number h = λ k s there.
      ⊎_elim (λ l. h k s l) (λ r. let P : HandleKey → Type 0 = λ x. 1 ≤ x.number in subst P (sym r.0) number) (found_set handle_order exact_handle old key state s k there)

  pub by_former : (old new : Handles) (c d : CandidateState) (key : HandleKey) (former : Option HandleState) → IsStrictlySortedBy handle_order (keys_of old) → 1 ≤ key.number → new ≡ with_former handle_order old key former → ((q : List ℕ) → Has d q) → ((i : ℕ) (q : List ℕ) → Leads c i q → Leads d i q) → AreCandidates (State nodes old sessions queue) c → AreCandidates (State nodes new sessions queue) d
  by_former old new c d key former sorted number e has leads h =
      let P : Handles → Type 0 = λ hs. AreCandidates (State nodes hs sessions queue) d in
      subst P (sym e) (record {
        to_go = λ q w there is. has q;
        found = λ q w there short. leads w.instance q (h.found q w there short);
        numbered = numbers old key former sorted number h.numbered;
      })

  -- a handle is forgotten: whoever was to go, or held open by it alone, is looked at
  forget_handle : (old : Handles) (c d : CandidateState) (key : HandleKey) → IsStrictlySortedBy handle_order (keys_of old) → ((i : ℕ) (q : List ℕ) → instance_open (state_at old key) ≡ Some i → Leads c i q → Has d q) → ((i : ℕ) (q : List ℕ) → Leads c i q → Leads d i q) → ((q : List ℕ) → Has c q → Has d q) → AreCandidates (State nodes old sessions queue) c → AreCandidates (State nodes (forgotten old key) sessions queue) d
  forget_handle old c d key sorted own leads kept h =
      let new : Handles = forgotten old key in
      let opens : ℕ → HandleKey × HandleState → Bool = λ i e. is_open_in sessions i e.0 e.1 in
      record {
        to_go = λ q w there is.
            let closed : is_held_open (State nodes new sessions queue) w.instance ≡ false = is_closed (State nodes new sessions queue) q w is in
            let short : is_ephemeral w.life ≡ true = is_short_lived (State nodes new sessions queue) q w is in
            (elim (list_any (opens w.instance) old) as (λ b. list_any (opens w.instance) old ≡ b → Has d q) [
              | true ↦ (λ t.
                  let one = found_any handle_order handle_total exact_handle (opens w.instance) old sorted t in
                  (elim (is_at (handle_order one.0) key) as (λ b. is_at (handle_order one.0) key ≡ b → state_at new one.0 ≡ cond (is_shut (state_at old key)) (state_at old one.0) (cond b None (state_at old one.0)) → Has d q) [
                    | true ↦ (λ e k.
                        let P : HandleKey → Type 0 = λ x. state_at old x ≡ Some one.1 in
                        let mine : state_at old key ≡ Some one.1 = subst P (same_key handle_order exact_handle one.0 key e) one.2 in
                        own w.instance q (ap instance_open mine ∙ (opened sessions w.instance one.0 one.1 one.3).0) (h.found q w there short))
                    | false ↦ (λ e k.
                        let same : state_at new one.0 ≡ state_at old one.0 = k ∙ either_one (is_shut (state_at old key)) (state_at old one.0) in
                        let still : list_any (opens w.instance) new ≡ true = any_found handle_order handle_total exact_handle (opens w.instance) new one.0 one.1 (same ∙ one.2) one.3 in
                        absurd (cc))
                  ]) refl (lookup_forgotten old key one.0))
              | false ↦ (λ t.
                  let held : is_held_open (State nodes old sessions queue) w.instance ≡ true → is_held_open (State nodes new sessions queue) w.instance ≡ true = λ k. absurd (cc) in
                  kept q (h.to_go q w there (went (State nodes old sessions queue) (State nodes new sessions queue) q w held (λ x. x) (λ x. x) is)))
            ]) refl;
        found = λ q w there short. leads w.instance q (h.found q w there short);
        numbered = λ k s there. h.numbered k s (was_there (is_shut (state_at old key)) (is_at (handle_order k) key) (state_at old k) s (sym (lookup_forgotten old key k) ∙ there));
      }
    where
      either_one : {X : Type 0} (b : Bool) (x : X) → cond b x x ≡ x
      either_one true x = refl
      either_one false x = refl

      was_there : (a b : Bool) (o : Option HandleState) (s : HandleState) → cond a o (cond b None o) ≡ Some s → o ≡ Some s
      was_there true b o s k = k
      was_there false true o s k = absurd (cc)
      was_there false false o s k = k

  pub by_forget : (old new : Handles) (c d : CandidateState) (key : HandleKey) → IsStrictlySortedBy handle_order (keys_of old) → new ≡ forgotten old key → ((i : ℕ) (q : List ℕ) → instance_open (state_at old key) ≡ Some i → Leads c i q → Has d q) → ((i : ℕ) (q : List ℕ) → Leads c i q → Leads d i q) → ((q : List ℕ) → Has c q → Has d q) → AreCandidates (State nodes old sessions queue) c → AreCandidates (State nodes new sessions queue) d
  by_forget old new c d key sorted e own leads kept h =
      let P : Handles → Type 0 = λ hs. AreCandidates (State nodes hs sessions queue) d in
      subst P (sym e) (forget_handle old c d key sorted own leads kept h)

  pub by_settle : (old new : Handles) (c : CandidateState) → new ≡ old → AreCandidates (State nodes old sessions queue) c → AreCandidates (State nodes new sessions queue) c
  by_settle old new c e h = let P : Handles → Type 0 = λ hs. AreCandidates (State nodes hs sessions queue) c in subst P (sym e) h

-- ---- the end of a session

pub by_end : (nodes : Nodes) (handles after : Handles) (queue : Queue) (old new : Sessions) (c d : CandidateState) (client : ℕ) → IsStrictlySortedBy handle_order (keys_of handles) → after ≡ without_client handles client → new ≡ with_session old client ended → ((key : HandleKey) (noted : NotedHandle) (q : List ℕ) → state_at handles key ≡ Some (Open noted) → key.client ≡ client → Leads c noted.handle.instance q → Has d q) → ((i : ℕ) (q : List ℕ) → Leads c i q → Leads d i q) → ((q : List ℕ) → Has c q → Has d q) → AreCandidates (State nodes handles old queue) c → AreCandidates (State nodes after new queue) d
by_end nodes handles after queue old new c d client sorted less e own leads kept h =
    let P : Sessions → Type 0 = λ s. AreCandidates (State nodes after s queue) d in
    let fewer : Handles = without_client handles client in
    let R : Handles → Type 0 = λ hs. AreCandidates (State nodes hs (with_session old client ended) queue) d in
    let left : Sessions = with_session old client ended in
    let was : ℕ → HandleKey × HandleState → Bool = λ i x. is_open_in old i x.0 x.1 in
    let still : ℕ → HandleKey × HandleState → Bool = λ i x. is_open_in left i x.0 x.1 in
    subst P (sym e) (subst R (sym less) (record {
      to_go = λ q w there is.
          let closed : list_any (still w.instance) fewer ≡ false = is_closed (State nodes fewer left queue) q w is in
          let short : is_ephemeral w.life ≡ true = is_short_lived (State nodes fewer left queue) q w is in
          (elim (list_any (was w.instance) handles) as (λ b. list_any (was w.instance) handles ≡ b → Has d q) [
            | true ↦ (λ t.
                let one = found_any handle_order handle_total exact_handle (was w.instance) handles sorted t in
                (elim (is_at (nat_cmp one.0.client) client) as (λ b. is_at (nat_cmp one.0.client) client ≡ b → Has d q) [
                  | true ↦ (λ u. woken q w one.0 one.1 (same_number one.0.client client u) one.2 one.3 (h.found q w there short))
                  | false ↦ (λ u.
                      let stays : still w.instance (one.0, one.1) ≡ true = open_more old left w.instance one.0 one.1 (other_live old client ended one.0.client u) one.3 in
                      let kept_there : state_at fewer one.0 ≡ Some one.1 = other_kept handles client one.0 one.1 sorted u one.2 in
                      let held : list_any (still w.instance) fewer ≡ true = any_found handle_order handle_total exact_handle (still w.instance) fewer one.0 one.1 kept_there stays in
                      absurd (cc))
                ]) refl)
            | false ↦ (λ t.
                let held : is_held_open (State nodes handles old queue) w.instance ≡ true → is_held_open (State nodes fewer left queue) w.instance ≡ true = λ k. absurd (cc) in
                kept q (h.to_go q w there (went (State nodes handles old queue) (State nodes fewer left queue) q w held (λ x. x) (λ x. x) is)))
          ]) refl;
      found = λ q w there short. leads w.instance q (h.found q w there short);
      numbered = λ k s there. h.numbered k s (was_known handles client k s sorted there);
    }))
  where
    woken : (q : List ℕ) (w : Node) (key : HandleKey) (state : HandleState) → key.client ≡ client → state_at handles key ≡ Some state → is_open_in old w.instance key state ≡ true → Leads c w.instance q → Has d q
    woken q w key Closed mine there holding led = absurd (cc)
    woken q w key (Open noted) mine there holding led =
        let on : noted.handle.instance ≡ w.instance = same_instance noted.handle.instance w.instance (first_of_both (noted.handle.instance == w.instance) (is_live old key.client) holding) in
        let Q : ℕ → Type 0 = λ i. Leads c i q in
        own key noted q there mine (subst Q (sym on) led)

-- ---- what waits

tidied : (i : ℕ) (task : Task) → tidies i task ≡ true → instance_of_task task ≡ Some i
tidied i (Asked asked) h = absurd (cc)
tidied i (Tidies idle) h = ap (λ x. Some x) (same_instance idle.instance i h)

-- who has its turn no more once a change is taken out is that change's
taken_one : (i number : ℕ) (ws : List (Waiting Task)) → list_any (λ w. tidies i w.change.body) ws ≡ true → list_any (λ w. tidies i w.change.body) (without number ws) ≡ false → instance_tidied (change_at number ws) ≡ Some i
taken_one i number [] h k = absurd (cc)
taken_one i number (w ∷ ws) h k =
    (elim (is_numbered number w) as (λ b. is_numbered number w ≡ b → list_any (λ x. tidies i x.change.body) (cond b ws (w ∷ without number ws)) ≡ false → instance_tidied (option_map (λ x. x.change) (cond b (Some w) (find (is_numbered number) ws))) ≡ Some i) [
      | true ↦ (λ e g.
          (elim (tidies i w.change.body) as (λ b. tidies i w.change.body ≡ b → (b || list_any (λ x. tidies i x.change.body) ws) ≡ true → instance_of_task w.change.body ≡ Some i) [
            | true ↦ (λ t u. tidied i w.change.body t)
            | false ↦ (λ t u. absurd (cc))
          ]) refl h)
      | false ↦ (λ e g.
          (elim (tidies i w.change.body) as (λ b. tidies i w.change.body ≡ b → (b || list_any (λ x. tidies i x.change.body) ws) ≡ true → (b || list_any (λ x. tidies i x.change.body) (without number ws)) ≡ false → instance_tidied (change_at number ws) ≡ Some i) [
            | true ↦ (λ t u v. absurd (cc))
            | false ↦ (λ t u v. taken_one i number ws u v)
          ]) refl h g)
    ]) refl k

pub by_take : (nodes : Nodes) (handles : Handles) (sessions : Sessions) (old new : Queue) (c d : CandidateState) (number : ℕ) (taken : Option (Pending Task)) → new ≡ record old { gate = record old.gate { waiting = without number old.gate.waiting } } → taken ≡ change_at number old.gate.waiting → ((i : ℕ) (q : List ℕ) → instance_tidied taken ≡ Some i → Leads c i q → Has d q) → ((i : ℕ) (q : List ℕ) → Leads c i q → Leads d i q) → ((q : List ℕ) → Has c q → Has d q) → AreCandidates (State nodes handles sessions old) c → AreCandidates (State nodes handles sessions new) d
by_take nodes handles sessions old new c d number taken e is_taken own leads kept h =
    let P : Queue → Type 0 = λ s. AreCandidates (State nodes handles sessions s) d in
    let left : Queue = record old { gate = record old.gate { waiting = without number old.gate.waiting } } in
    subst P (sym e) (record {
      to_go = λ q w there is.
          let short : is_ephemeral w.life ≡ true = is_short_lived (State nodes handles sessions left) q w is in
          (elim (has_its_turn (State nodes handles sessions old) w.instance) as (λ b. has_its_turn (State nodes handles sessions old) w.instance ≡ b → Has d q) [
            | true ↦ (λ t. own w.instance q (ap instance_tidied is_taken ∙ taken_one w.instance number old.gate.waiting t (has_no_turn (State nodes handles sessions left) q w is)) (h.found q w there short))
            | false ↦ (λ t.
                let turn : has_its_turn (State nodes handles sessions old) w.instance ≡ true → has_its_turn (State nodes handles sessions left) w.instance ≡ true = λ k. absurd (cc) in
                kept q (h.to_go q w there (went (State nodes handles sessions old) (State nodes handles sessions left) q w (λ x. x) (λ x. x) turn is)))
          ]) refl;
      found = λ q w there short. leads w.instance q (h.found q w there short);
      numbered = h.numbered;
    })

-- ---- candidates that are none

pub by_pass : (t : TableState) (c d : CandidateState) (name : List ℕ) → ((w : Node) → get_node t.nodes name ≡ Some w → goes t (name, w) ≡ false) → ((q : List ℕ) → At q name ≡ false → Has c q → Has d q) → ((i : ℕ) (q : List ℕ) → Leads c i q → Leads d i q) → AreCandidates t c → AreCandidates t d
by_pass t c d name stays kept leads h = record {
  to_go = λ q w there is.
      (elim (At q name) as (λ b. At q name ≡ b → Has d q) [
        | true ↦ (λ e.
            let P : List ℕ → Type 0 = λ x. (get_node t.nodes x ≡ Some w) × (goes t (x, w) ≡ true) in
            let mine : P name = subst P (same_key (slice_cmp nat_cmp) exact_bytes q name e) (there, is) in
            let no : goes t (name, w) ≡ false = stays w mine.0 in
            absurd (let yes : goes t (name, w) ≡ true = mine.1 in cc))
        | false ↦ (λ e. kept q e (h.to_go q w there is))
      ]) refl;
  found = λ q w there short. leads w.instance q (h.found q w there short);
  numbered = h.numbered;
}

pub by_none : (t : TableState) (c d : CandidateState) → ((q : List ℕ) (w : Node) → get_node t.nodes q ≡ Some w → goes t (q, w) ≡ true → ⊥) → ((i : ℕ) (q : List ℕ) → Leads c i q → Leads d i q) → AreCandidates t c → AreCandidates t d
by_none t c d none leads h = record {
  to_go = λ q w there is. absurd (none q w there is);
  found = λ q w there short. leads w.instance q (h.found q w there short);
  numbered = h.numbered;
}
