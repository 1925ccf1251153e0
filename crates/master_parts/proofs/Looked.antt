-- What a walk tells the candidates.
use Rattle.std.specs.Prelude.{◌+◌, nat_lt}
use Rattle.std.specs.Cmp.{tied_itself, nat_cmp_total}
use Rattle.std.specs.List.Sorted.{IsStrictlySortedBy}
use Rattle.std.specs.Map.{keys_of}
use Rattle.std.specs.Ordering.{is_le}
use Rattle.std.specs.declared.ops.Bound.TheVariants.{Included, Excluded}
use Rattle.std.specs.BTreeMap.Range.{entries_between, range_contains}
use Rattle.std.proofs.lemmas.Bool.Decides.{nat_tests}
use Rattle.rows_cell.proofs.SortedLookups.{lookup_kept}
use Rattle.std.proofs.Common.{◌≡◌, ℕ, List, [], ◌∷◌, Bool, ◌⊎◌, inl, inr, ⊎_elim, true, false, cond, Option, Some, None, Ordering, Less, Equal, Greater, ◌≤◌, nat_eq, refl, sym, ap, subst, ◌∙◌, arith}
use Rattle.std.specs.Ordering.{nat_cmp}
use Rattle.std.specs.Cmp.Lexicographic.{slice_cmp}
use Rattle.std.specs.Map.{lookup}
use Rattle.std.specs.BTreeMap.{is_at}
use Rattle.node_core.specs.declared.nodes.Node.{Node}
use Rattle.node_core.specs.Nodes.{Nodes, get_node}
use Rattle.master_parts.specs.declared.handles.HandleKey.{HandleKey}
use Rattle.master_parts.specs.declared.handles.HandleState.{HandleState}
use Rattle.master_parts.specs.declared.handles.HandleState.TheVariants.{Open, Closed}
use Rattle.master_parts.specs.Handles.{NotedHandle}
use Rattle.master_parts.specs.Keys.{handle_order}
use Rattle.master_parts.specs.EphemeralNames.{is_ephemeral}
use Rattle.master_parts.specs.OpenHandles.{state_at}
use Rattle.master_parts.proofs.Found.{same_key}
use Rattle.master_parts.proofs.PlacedHandles.{exact_handle, handle_total}
use Rattle.std.proofs.lemmas.Map.Lookups.{exact_bytes}
use Rattle.master_parts.specs.Candidates.{CandidateState, Has, Leads, AreFound, instance_open}

abbrev At : List ℕ → List ℕ → Bool
At q = is_at (slice_cmp nat_cmp q)

-- ---- nodes

-- `left` of `all` are still to be looked at
pub record Looked (all left : Nodes) (c : CandidateState) : Type 0 where
  pub at : (q : List ℕ) (w : Node) → get_node all q ≡ Some w → is_ephemeral w.life ≡ true → ((Has c q) × (Leads c w.instance q)) ⊎ (get_node left q ≡ Some w)

pub look_first : (all left : Nodes) (c : CandidateState) → left ≡ all → Looked all left c
look_first all left c e = record { at = λ q w h is. inr (ap (lookup (At q)) e ∙ h) }

pub look_more : (all left rest : Nodes) (name : List ℕ) (node : Node) (c d : CandidateState) → left ≡ (name, node) ∷ rest → (is_ephemeral node.life ≡ true → Has d name) → (is_ephemeral node.life ≡ true → Leads d node.instance name) → ((i : ℕ) (q : List ℕ) → Leads c i q → Leads d i q) → ((q : List ℕ) → Has c q → Has d q) → Looked all left c → Looked all rest d
look_more all left rest name node c d step has found leads kept l = record {
  at = λ q w h is.
      ⊎_elim (λ t. inl (kept q t.0, leads w.instance q t.1))
      (λ r.
      (elim (At q name) as (λ b. At q name ≡ b → cond b (Some node) (lookup (At q) rest) ≡ Some w → ((Has d q) × (Leads d w.instance q)) ⊎ (lookup (At q) rest ≡ Some w)) [
        | true ↦ (λ e k.
            let value : node ≡ w = cc in
            let short : is_ephemeral node.life ≡ true = ap (λ v. is_ephemeral v.life) value ∙ is in
            let P : List ℕ → Type 0 = λ x. (Has d x) × (Leads d w.instance x) in
            let Q : ℕ → Type 0 = λ i. Leads d i name in
            let mine : P name = (has short, subst Q (ap (λ v. v.instance) value) (found short)) in
            inl (subst P (sym (same_key (slice_cmp nat_cmp) exact_bytes q name e)) mine))
        | false ↦ (λ e k. inr k)
      ]) refl (ap (lookup (At q)) (sym step) ∙ r))
      (l.at q w h is);
}

looked_at : (all left : Nodes) (c : CandidateState) → left ≡ [] → Looked all left c → (q : List ℕ) (w : Node) → get_node all q ≡ Some w → is_ephemeral w.life ≡ true → (Has c q) × (Leads c w.instance q)
looked_at all left c none l q w h is = ⊎_elim (λ t. t) (λ r. let n : lookup (At q) left ≡ None = ap (lookup (At q)) none in absurd (cc)) (l.at q w h is)

pub look_last : (all left : Nodes) (c : CandidateState) → left ≡ [] → Looked all left c → (q : List ℕ) (w : Node) → get_node all q ≡ Some w → is_ephemeral w.life ≡ true → Has c q
look_last all left c none l q w h is = (looked_at all left c none l q w h is).0

pub found_last : (all left : Nodes) (c : CandidateState) → left ≡ [] → Looked all left c → AreFound all c
found_last all left c none l q w h is = (looked_at all left c none l q w h is).1

-- ---- handles

abbrev Handles : Type 0
Handles = List (HandleKey × HandleState)

-- of the nodes that these handles are open on, those may be to go, but for the handles that are left
pub record Woken (all left : Handles) (c d : CandidateState) : Type 0 where
  pub own : (key : HandleKey) (noted : NotedHandle) (q : List ℕ) → state_at all key ≡ Some (Open noted) → Leads c noted.handle.instance q → (Has d q) ⊎ (state_at left key ≡ Some (Open noted))
  pub leads : (i : ℕ) (q : List ℕ) → Leads c i q → Leads d i q
  pub kept : (q : List ℕ) → Has c q → Has d q

pub wake_first : (all left : Handles) (c : CandidateState) → left ≡ all → Woken all left c c
wake_first all left c e = record {
  own = λ key noted q h leads. inr (ap (λ l. state_at l key) e ∙ h);
  leads = λ i q h. h;
  kept = λ q h. h;
}

pub wake_more : (all left rest : Handles) (at : HandleKey) (state : HandleState) (c d e : CandidateState) → left ≡ (at, state) ∷ rest → ((i : ℕ) (q : List ℕ) → instance_open (Some state) ≡ Some i → Leads d i q → Has e q) → ((i : ℕ) (q : List ℕ) → Leads d i q → Leads e i q) → ((q : List ℕ) → Has d q → Has e q) → Woken all left c d → Woken all rest c e
wake_more all left rest at state c d e step own leads kept w = record {
  own = λ key noted q h led.
      ⊎_elim (λ t. inl (kept q t))
      (λ r.
      (elim (is_at (handle_order key) at) as (λ b. is_at (handle_order key) at ≡ b → cond b (Some state) (lookup (is_at (handle_order key)) rest) ≡ Some (Open noted) → (Has e q) ⊎ (lookup (is_at (handle_order key)) rest ≡ Some (Open noted))) [
        | true ↦ (λ t k. inl (own noted.handle.instance q (ap instance_open k) (w.leads noted.handle.instance q led)))
        | false ↦ (λ t k. inr k)
      ]) refl (ap (λ l. state_at l key) (sym step) ∙ r))
      (w.own key noted q h led);
  leads = λ i q h. leads i q (w.leads i q h);
  kept = λ q h. kept q (w.kept q h);
}

pub wake_last : (all left : Handles) (c d : CandidateState) → left ≡ [] → Woken all left c d → (key : HandleKey) (noted : NotedHandle) (q : List ℕ) → state_at all key ≡ Some (Open noted) → Leads c noted.handle.instance q → Has d q
wake_last all left c d none w key noted q h led = ⊎_elim (λ t. t) (λ r. let n : state_at left key ≡ None = ap (λ l. state_at l key) none in absurd (cc)) (w.own key noted q h led)

-- ---- the handles of a client

abbrev Key : ℕ → ℕ → HandleKey
Key client number = record { client = client; number = number }

from_one : (n : ℕ) → 1 ≤ n → is_le (nat_cmp 1 n) ≡ true
from_one n le =
    (elim (nat_lt 1 n) as (λ b. nat_lt 1 n ≡ b → is_le (cond b Less (cond (nat_eq 1 n) Equal Greater)) ≡ true) [
      | true ↦ (λ e. refl)
      | false ↦ (λ e. let q : nat_eq 1 n ≡ true = grind (arith, nat_tests) in rw q refl)
    ]) refl

next_greater : (n : ℕ) → nat_cmp (n + 1) n ≡ Greater
next_greater n = grind (arith, nat_tests)

pub on_client : (client number : ℕ) → 1 ≤ number → range_contains handle_order (Included (Key client 1)) (Excluded (Key (client + 1) 1)) (Key client number) ≡ true
on_client client number le = rw (tied_itself nat_cmp_total client, next_greater client, from_one number le) refl

pub of_client : (handles : Handles) (client next : ℕ) (first end key : HandleKey) (state : HandleState) → IsStrictlySortedBy handle_order (keys_of handles) → first ≡ Key client 1 → end ≡ Key next 1 → next ≡ client + 1 → key.client ≡ client → 1 ≤ key.number → state_at handles key ≡ Some state → state_at (entries_between handle_order (Included first) (Excluded end) handles) key ≡ Some state
of_client handles client next first end key state sorted f l n mine le there =
    let P : HandleKey → HandleKey → Type 0 = λ a b. state_at (entries_between handle_order (Included a) (Excluded b) handles) key ≡ Some state in
    let is : key ≡ Key client key.number = ap (λ x. Key x key.number) mine in
    let Q : HandleKey → Type 0 = λ x. range_contains handle_order (Included (Key client 1)) (Excluded (Key (client + 1) 1)) x ≡ true in
    let inside : Q key = subst Q (sym is) (on_client client key.number le) in
    let at : P (Key client 1) (Key (client + 1) 1) =
    lookup_kept handle_order handle_total exact_handle (λ e. range_contains handle_order (Included (Key client 1)) (Excluded (Key (client + 1) 1)) e.0) handles key sorted ∙ rw (there, inside) refl in
    let last : end ≡ Key (client + 1) 1 = l ∙ ap (λ x. Key x 1) n in
    let R : HandleKey → Type 0 = λ b. P (Key client 1) b in
    let S : HandleKey → Type 0 = λ a. P a end in
    subst S (sym f) (subst R (sym last) at)
