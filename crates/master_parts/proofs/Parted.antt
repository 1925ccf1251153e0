-- The handles that a client has open are forgotten.
use Rattle.std.proofs.Common.{◌≡◌, ℕ, ◌+◌, List, [], ◌∷◌, Bool, true, false, cond, Option, Some, None, Ordering, Less, Equal, Greater, length, refl, sym, ap, subst, ◌∙◌, arith}
use Rattle.std.specs.Prelude.{◌&&◌, ◌==◌, not, find}
use Rattle.std.specs.Option.{option_map}
use Rattle.std.specs.Ordering.{nat_cmp, is_le, ordering_reverse}
use Rattle.std.specs.List.Sorted.{IsStrictlySortedBy}
use Rattle.std.specs.Map.{keys_of, remove_entry}
use Rattle.std.specs.BTreeMap.{is_at}
use Rattle.std.specs.BTreeMap.Range.{entries_between, range_contains}
use Rattle.std.specs.declared.ops.Bound.TheVariants.{Included, Excluded}
use Rattle.std.proofs.lemmas.Bool.{and_parts}
use Rattle.std.proofs.lemmas.Map.Entries.{option_filter}
use Rattle.collections.proofs.Keys.{number_same, at_itself}
use Rattle.rows_cell.proofs.SortedLookups.{lookup_gone, lookup_kept}
use Rattle.rows_cell.proofs.EntriesInOrder.{sorted_kept}
use Rattle.master_parts.specs.declared.handles.HandleKey.{HandleKey}
use Rattle.master_parts.specs.declared.handles.HandleState.{HandleState}
use Rattle.master_parts.specs.Keys.{handle_order}
use Rattle.master_parts.specs.Candidates.{HaveNumbers}
use Rattle.master_parts.specs.OpenHandles.{state_at, is_shut, outlasts, goes_with, without_client, AreBetween}
use Rattle.master_parts.proofs.Found.{same_key, at_head, found_behind, above_head}
use Rattle.master_parts.proofs.PlacedHandles.{exact_handle, handle_total, same_handle, At}
use Rattle.master_parts.proofs.Looked.{on_client}

abbrev Handles : Type 0
Handles = List (HandleKey × HandleState)

abbrev Entry : Type 0
Entry = HandleKey × HandleState

abbrev Key : ℕ → ℕ → HandleKey
Key client number = record { client = client; number = number }

turned : (b : Bool) → not b ≡ false → b ≡ true
turned true h = refl
turned false h = absurd (cc)

-- ---- one that goes

own_parts : (own shut : Bool) → (own && not shut) ≡ true → (own ≡ true) × (shut ≡ false)
own_parts true true h = absurd (cc)
own_parts true false h = (refl, refl)
own_parts false shut h = absurd (cc)

-- it is of the client
pub goes_own : (client : ℕ) (key : HandleKey) (state : HandleState) → goes_with client (key, state) ≡ true → key.client ≡ client
goes_own client key state h = number_same key.client client (own_parts (key.client == client) (is_shut (Some state)) h).0

-- another client's outlasts its session
pub other_outlasts : (client : ℕ) (key : HandleKey) (state : HandleState) → (key.client == client) ≡ false → outlasts client (key, state) ≡ true
other_outlasts client key state other = ap (λ b. not (b && not (is_shut (Some state)))) other

-- ---- the first entry that passes a test

module _ (test : Entry → Bool) where
  none_passes : (es : Handles) → find test es ≡ None → (q : HandleKey) (w : HandleState) → state_at es q ≡ Some w → test (q, w) ≡ false
  none_passes [] h q w there = absurd (cc)
  none_passes (e ∷ es) h q w there =
      (elim (test e) as (λ b. test e ≡ b → cond b (Some e) (find test es) ≡ None → test (q, w) ≡ false) [
        | true ↦ (λ t is. absurd (cc))
        | false ↦ (λ t is.
            (elim (At q e.0) as (λ b. At q e.0 ≡ b → cond b (Some e.1) (state_at es q) ≡ Some w → test (q, w) ≡ false) [
              | true ↦ (λ at found.
                  let value : w ≡ e.1 = cc in
                  ap (λ k. test (k, w)) (same_key handle_order exact_handle q e.0 at) ∙ ap (λ v. test (e.0, v)) value ∙ t)
              | false ↦ (λ at found. none_passes es is q w found)
            ]) refl there)
      ]) refl h

  first_is : (es : Handles) (x : Entry) → IsStrictlySortedBy handle_order (keys_of es) → find test es ≡ Some x → (state_at es x.0 ≡ Some x.1) × (test x ≡ true)
  unfolding IsStrictlySortedBy
  first_is [] x sorted h = absurd (cc)
  first_is (e ∷ es) x sorted h =
      let P : Entry → Type 0 = λ y. (state_at (e ∷ es) y.0 ≡ Some y.1) × (test y ≡ true) in
      (elim (test e) as (λ b. test e ≡ b → cond b (Some e) (find test es) ≡ Some x → P x) [
        | true ↦ (λ t is.
            let same : e ≡ x = cc in
            let here : P e = (at_head handle_order handle_total exact_handle e es, t) in
            subst P same here)
        | false ↦ (λ t is.
            let r = first_is es x sorted.1 is in
            (found_behind handle_order handle_total exact_handle e es x.0 x.1 sorted.0 r.0, r.1))
      ]) refl h

  first_least : (es : Handles) (x : Entry) → IsStrictlySortedBy handle_order (keys_of es) → find test es ≡ Some x → (q : HandleKey) (w : HandleState) → state_at es q ≡ Some w → test (q, w) ≡ true → is_le (handle_order x.0 q) ≡ true
  unfolding IsStrictlySortedBy
  first_least [] x sorted h q w there passes = absurd (cc)
  first_least (e ∷ es) x sorted h q w there passes =
      let Q : HandleKey → Type 0 = λ k. is_le (handle_order k q) ≡ true in
      (elim (test e) as (λ b. test e ≡ b → cond b (Some e) (find test es) ≡ Some x → Q x.0) [
        | true ↦ (λ t is.
            let same : e ≡ x = cc in
            let from_head : Q e.0 =
            (elim (At q e.0) as (λ b. At q e.0 ≡ b → cond b (Some e.1) (state_at es q) ≡ Some w → Q e.0) [
              | true ↦ (λ at found.
                  let R : HandleKey → Type 0 = λ k. is_le (handle_order e.0 k) ≡ true in
                  let here : R e.0 = ap is_le (same_handle e.0) in
                  subst R (sym (same_key handle_order exact_handle q e.0 at)) here)
              | false ↦ (λ at found. ap is_le (above_head handle_order handle_total exact_handle e.0 es q w sorted.0 found))
            ]) refl there in
            subst (λ (y : Entry). Q y.0) same from_head)
        | false ↦ (λ t is.
            (elim (At q e.0) as (λ b. At q e.0 ≡ b → cond b (Some e.1) (state_at es q) ≡ Some w → Q x.0) [
              | true ↦ (λ at found.
                  let value : e.1 ≡ w = cc in
                  let here : test e ≡ true = ap (λ v. test (e.0, v)) value ∙ ap (λ k. test (k, w)) (sym (same_key handle_order exact_handle q e.0 at)) ∙ passes in
                  absurd (cc))
              | false ↦ (λ at found. first_least es x sorted.1 is q w found passes)
            ]) refl there)
      ]) refl h

-- ---- it is taken out

module _ (client : ℕ) where
  pub taken_same : (es : Handles) (key : HandleKey) (state : HandleState) → state_at es key ≡ Some state → goes_with client (key, state) ≡ true → without_client (remove_entry (At key) es) client ≡ without_client es client
  taken_same [] key state there goes = refl
  taken_same (e ∷ es) key state there goes =
      let less : Handles = without_client es client in
      (elim (At key e.0) as (λ b. At key e.0 ≡ b → cond b (Some e.1) (state_at es key) ≡ Some state → without_client (cond b es (e ∷ remove_entry (At key) es)) client ≡ cond (outlasts client e) (e ∷ less) less) [
        | true ↦ (λ at found.
            let value : e.1 ≡ state = cc in
            let gone : outlasts client e ≡ false =
            ap not (ap (λ v. goes_with client (e.0, v)) value ∙ ap (λ k. goes_with client (k, state)) (sym (same_key handle_order exact_handle key e.0 at)) ∙ goes) in
            sym (ap (λ b. cond b (e ∷ less) less) gone))
        | false ↦ (λ at found. ap (λ l. cond (outlasts client e) (e ∷ l) l) (taken_same es key state found goes))
      ]) refl there

  -- where none goes all stay
  pub none_goes : (es : Handles) → IsStrictlySortedBy handle_order (keys_of es) → ((q : HandleKey) (w : HandleState) → state_at es q ≡ Some w → goes_with client (q, w) ≡ true → ⊥) → without_client es client ≡ es
  unfolding IsStrictlySortedBy
  none_goes [] sorted none = refl
  none_goes (e ∷ es) sorted none =
      let less : Handles = without_client es client in
      (elim (outlasts client e) as (λ b. outlasts client e ≡ b → cond b (e ∷ less) less ≡ e ∷ es) [
        | true ↦ (λ stays. ap (λ l. e ∷ l) (none_goes es sorted.1 (λ q w found goes. none q w (found_behind handle_order handle_total exact_handle e es q w sorted.0 found) goes)))
        | false ↦ (λ goes. absurd (none e.0 e.1 (at_head handle_order handle_total exact_handle e es) (turned (goes_with client e) goes)))
      ]) refl

  -- what is known of a handle then, in order
  pub lookup_parted : (es : Handles) (q : HandleKey) → IsStrictlySortedBy handle_order (keys_of es) → state_at (without_client es client) q ≡ option_filter (λ v. outlasts client (q, v)) (state_at es q)
  lookup_parted es q sorted = lookup_kept handle_order handle_total exact_handle (outlasts client) es q sorted

kept_by : (o : Option HandleState) (state : HandleState) (f : HandleState → Bool) → o ≡ Some state → f state ≡ true → option_filter f o ≡ Some state
kept_by o state f is passes = ap (option_filter f) is ∙ ap (λ b. cond b (Some state) None) passes

was_there : (o : Option HandleState) (state : HandleState) (f : HandleState → Bool) → option_filter f o ≡ Some state → o ≡ Some state
was_there None state f h = absurd (cc)
was_there (Some w) state f h =
    (elim (f w) as (λ b. cond b (Some w) None ≡ Some state → ◌≡◌ {A = Option HandleState} (Some w) (Some state)) [ true ↦ (λ k. k) | false ↦ (λ k. absurd (cc)) ]) h

-- another client's handle is known as before
pub other_kept : (es : Handles) (client : ℕ) (key : HandleKey) (state : HandleState) → IsStrictlySortedBy handle_order (keys_of es) → is_at (nat_cmp key.client) client ≡ false → state_at es key ≡ Some state → state_at (without_client es client) key ≡ Some state
other_kept es client key state sorted other there =
    let apart : (key.client == client) ≡ false =
    (elim (key.client == client) as (λ b. (key.client == client) ≡ b → b ≡ false) [
      | true ↦ (λ same. let mine : is_at (nat_cmp key.client) client ≡ true = ap (is_at (nat_cmp key.client)) (sym (number_same key.client client same)) ∙ at_itself key.client in absurd (cc))
      | false ↦ (λ same. refl)
    ]) refl in
    lookup_parted client es key sorted ∙ kept_by (state_at es key) state (λ v. outlasts client (key, v)) there (other_outlasts client key state apart)

-- what is known then was known
pub was_known : (es : Handles) (client : ℕ) (key : HandleKey) (state : HandleState) → IsStrictlySortedBy handle_order (keys_of es) → state_at (without_client es client) key ≡ Some state → state_at es key ≡ Some state
was_known es client key state sorted there = was_there (state_at es key) state (λ v. outlasts client (key, v)) (sym (lookup_parted client es key sorted) ∙ there)

-- ---- fewer are left

pub one_less : (es : Handles) (key : HandleKey) (state : HandleState) → state_at es key ≡ Some state → length (remove_entry (At key) es) + 1 ≡ length es
one_less [] key state there = absurd (cc)
one_less (e ∷ es) key state there =
    (elim (At key e.0) as (λ b. cond b (Some e.1) (state_at es key) ≡ Some state → length (cond b es (e ∷ remove_entry (At key) es)) + 1 ≡ length (e ∷ es)) [
      | true ↦ (λ found. omega (arith))
      | false ↦ (λ found. let rest : length (remove_entry (At key) es) + 1 ≡ length es = one_less es key state found in omega (arith, rest))
    ]) there

-- ---- the loops

some_first : (o : Option Entry) (key : HandleKey) → option_map (λ (e : Entry). e.0) o ≡ Some key → (x : Entry) × (o ≡ Some x) × (x.0 ≡ key)
some_first None key h = absurd (cc)
some_first (Some x) key h = (x, refl, (let same : x.0 ≡ key = cc in same))

none_first : (o : Option Entry) → option_map (λ (e : Entry). e.0) o ≡ None → o ≡ None
none_first None h = refl
none_first (Some x) h = absurd (cc)

-- the client has the handle of a key open
pub record IsOpenOf (client : ℕ) (es : Handles) (key : HandleKey) : Type 0 where
  pub state : HandleState
  pub there : state_at es key ≡ Some state
  pub goes : goes_with client (key, state) ≡ true

of_first : (client : ℕ) (es : Handles) (x : Entry) (key : HandleKey) → x.0 ≡ key → state_at es x.0 ≡ Some x.1 → goes_with client x ≡ true → IsOpenOf client es key
of_first client es x key same there goes = record {
  state = x.1;
  there = ap (state_at es) (sym same) ∙ there;
  goes = ap (λ k. goes_with client (k, x.1)) (sym same) ∙ goes;
}

-- among all
pub open_first : (client : ℕ) (es : Handles) (key : HandleKey) (o : Option HandleKey) → IsStrictlySortedBy handle_order (keys_of es) → o ≡ option_map (λ (e : Entry). e.0) (find (goes_with client) es) → o ≡ Some key → IsOpenOf client es key
open_first client es key o sorted found is =
    let t = some_first (find (goes_with client) es) key (sym found ∙ is) in
    let r = first_is (goes_with client) es t.0 sorted t.1 in
    of_first client es t.0 key t.2 r.0 r.1

pub left_none : (client : ℕ) (es : Handles) (o : Option HandleKey) → IsStrictlySortedBy handle_order (keys_of es) → o ≡ option_map (λ (e : Entry). e.0) (find (goes_with client) es) → o ≡ None → without_client es client ≡ es
left_none client es o sorted found is =
    none_goes client es sorted (λ q w there goes.
    let stays : goes_with client (q, w) ≡ false = none_passes (goes_with client) es (none_first (find (goes_with client) es) (sym found ∙ is)) q w there in
    absurd (cc))

-- from a key on
filtered : (b : Bool) (o : Option HandleState) (v : HandleState) → option_filter (λ w. b) o ≡ Some v → (o ≡ Some v) × (b ≡ true)
filtered b None v h = absurd (cc)
filtered true (Some w) v h = (h, refl)
filtered false (Some w) v h = absurd (cc)

not_past : (o : Ordering) → not (is_le o) ≡ true → o ≡ Greater
not_past Less h = absurd (cc)
not_past Equal h = absurd (cc)
not_past Greater h = refl

reversed : (a b : HandleKey) → handle_order b a ≡ Greater → is_le (handle_order a b) ≡ true
reversed a b h = ap is_le (handle_total.antisymm a b ∙ ap ordering_reverse h)

-- what is left of a client's handles stands from a key on
pub record Leaving (client : ℕ) (end from : HandleKey) (start now : Handles) : Type 0 where
  pub same : without_client now client ≡ without_client start client
  pub order : is_le (handle_order from end) ≡ true
  pub inside : AreBetween client from end now

pub leaving_first : (client : ℕ) (end from : HandleKey) (start now : Handles) → now ≡ start → is_le (handle_order from end) ≡ true → AreBetween client from end start → Leaving client end from start now
leaving_first client end from start now is order inside =
    let P : Handles → Type 0 = λ es. Leaving client end from start es in
    subst P (sym is) (record { same = refl; order = order; inside = inside })

module _ (client : ℕ) (end from : HandleKey) (start now : Handles) (sorted : IsStrictlySortedBy handle_order (keys_of now)) (l : Leaving client end from start now) where
  abbrev In : HandleKey → Bool
  In q = range_contains handle_order (Included from) (Excluded end) q

  abbrev Between : Handles
  Between = entries_between handle_order (Included from) (Excluded end) now

  between_sorted : IsStrictlySortedBy handle_order (keys_of Between)
  between_sorted = sorted_kept handle_order (λ e. In e.0) now sorted

  lookup_between : (q : HandleKey) → state_at Between q ≡ option_filter (λ v. In q) (state_at now q)
  lookup_between q = lookup_kept handle_order handle_total exact_handle (λ e. In e.0) now q sorted

  stands_in : (q : HandleKey) (w : HandleState) → state_at now q ≡ Some w → goes_with client (q, w) ≡ true → state_at Between q ≡ Some w
  stands_in q w there goes = lookup_between q ∙ ap (option_filter (λ v. In q)) there ∙ ap (λ b. cond b (Some w) None) (l.inside q w there goes)

  module _ (o : Option HandleKey) (found : o ≡ option_map (λ (e : Entry). e.0) (find (goes_with client) Between)) where
    module _ (key : HandleKey) (is : o ≡ Some key) where
      abbrev First : (x : Entry) × (find (goes_with client) Between ≡ Some x) × (x.0 ≡ key)
      First = some_first (find (goes_with client) Between) key (sym found ∙ is)

      passes : (state_at Between First.0.0 ≡ Some First.0.1) × (goes_with client First.0 ≡ true)
      passes = first_is (goes_with client) Between First.0 between_sorted First.1

      there_in : (state_at now First.0.0 ≡ Some First.0.1) × (In First.0.0 ≡ true)
      there_in = filtered (In First.0.0) (state_at now First.0.0) First.0.1 (sym (lookup_between First.0.0) ∙ passes.0)

      pub first_open : IsOpenOf client now key
      first_open = of_first client now First.0 key First.2 there_in.0 passes.1

      pub leaving_more : (after : Handles) → after ≡ remove_entry (At key) now → Leaving client end key start after
      leaving_more after taken =
          let less : Handles = remove_entry (At key) now in
          let P : Handles → Type 0 = λ es. Leaving client end key start es in
          let in_range : In key ≡ true = ap In (sym First.2) ∙ there_in.1 in
          subst P (sym taken) (record {
            same = taken_same client now key first_open.state first_open.there first_open.goes ∙ l.same;
            order = reversed key end (not_past (handle_order end key) (and_parts (is_le (handle_order from key)) (not (is_le (handle_order end key))) in_range).1);
            inside = λ q w there goes.
                (elim (At q key) as (λ b. cond b None (state_at now q) ≡ Some w → range_contains handle_order (Included key) (Excluded end) q ≡ true) [
                  | true ↦ (λ g. absurd (cc))
                  | false ↦ (λ g.
                      let Q : HandleKey → Type 0 = λ k. is_le (handle_order k q) ≡ true in
                      let least : Q key = subst Q First.2 (first_least (goes_with client) Between First.0 between_sorted First.1 q w (stands_in q w g goes) goes) in
                      let last : not (is_le (handle_order end q)) ≡ true = (and_parts (is_le (handle_order from q)) (not (is_le (handle_order end q))) (l.inside q w g goes)).1 in
                      both (is_le (handle_order key q)) (not (is_le (handle_order end q))) least last)
                ]) (sym (lookup_gone handle_order handle_total exact_handle now key q sorted) ∙ there);
          })
        where
          both : (a b : Bool) → a ≡ true → b ≡ true → (a && b) ≡ true
          both true true h k = refl
          both true false h k = k
          both false b h k = h

    pub leaving_last : o ≡ None → now ≡ without_client start client
    leaving_last is =
        sym (none_goes client now sorted (λ q w there goes.
        let stays : goes_with client (q, w) ≡ false = none_passes (goes_with client) Between (none_first (find (goes_with client) Between) (sym found ∙ is)) q w (stands_in q w there goes) in
        absurd (cc)))
        ∙ l.same

-- all of a client's handles stand from its first key to the next one's
pub client_between : (client next : ℕ) (first end : HandleKey) (es : Handles) → HaveNumbers es → next ≡ client + 1 → first ≡ Key client 1 → end ≡ Key next 1 → AreBetween client first end es
client_between client next first end es numbers n f l = λ key state there goes.
    let In : HandleKey → HandleKey → HandleKey → Type 0 = λ a b k. range_contains handle_order (Included a) (Excluded b) k ≡ true in
    let own : HandleKey = Key client key.number in
    let is : own ≡ key = ap (λ c. Key c key.number) (sym (goes_own client key state goes)) in
    let last : Key (client + 1) 1 ≡ end = ap (λ c. Key c 1) (sym n) ∙ sym l in
    let A : HandleKey → Type 0 = λ a. In a (Key (client + 1) 1) own in
    let B : HandleKey → Type 0 = λ b. In first b own in
    let C : HandleKey → Type 0 = λ k. In first end k in
    subst C is (subst B last (subst A (sym f) (on_client client key.number (numbers key state there))))

-- ---- the walks

module _ (test : Entry → Bool) (all left : List Entry) (same : find test left ≡ find test all) where
  pub walked_here : (rest : List Entry) (key : HandleKey) (state : HandleState) → left ≡ (key, state) ∷ rest → test (key, state) ≡ true → Some key ≡ option_map (λ (e : Entry). e.0) (find test all)
  walked_here rest key state step passes =
      sym (ap (option_map (λ (e : Entry). e.0)) (sym same ∙ ap (find test) step ∙ ap (λ b. cond b (Some (key, state)) (find test rest)) passes))

  pub walked_on : (rest : List Entry) (key : HandleKey) (state : HandleState) → left ≡ (key, state) ∷ rest → test (key, state) ≡ false → find test rest ≡ find test all
  walked_on rest key state step passes = sym (ap (find test) step ∙ ap (λ b. cond b (Some (key, state)) (find test rest)) passes) ∙ same

  pub walked_out : left ≡ [] → None ≡ option_map (λ (e : Entry). e.0) (find test all)
  walked_out none = sym (ap (option_map (λ (e : Entry). e.0)) (sym same ∙ ap (find test) none))
