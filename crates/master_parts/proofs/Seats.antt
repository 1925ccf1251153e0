-- The handles that asked to be told of events, by their seats.
use Rattle.std.proofs.Common.{◌≡◌, ℕ, Result, Ok, Err, List, Bool, ⊎_elim, true, false, cond, Option, Some, None, Equal, refl, sym, ap, subst, ◌∙◌}
use Rattle.std.specs.Prelude.{◌+◌, OnOk, OnErr}
use Rattle.std.specs.Ordering.{nat_cmp, ordering_then, is_le}
use Rattle.std.specs.List.Sorted.{IsStrictlySortedBy}
use Rattle.std.specs.Cmp.{IsTotalOrder, nat_cmp_total}
use Rattle.std.proofs.lemmas.Cmp.{then_total, on_total}
use Rattle.std.specs.Map.{keys_of, lookup, remove_entry}
use Rattle.std.specs.BTreeMap.{is_at, insert_entry}
use Rattle.std.specs.declared.ops.Bound.TheVariants.{Included, Excluded}
use Rattle.std.specs.BTreeMap.Range.{entries_between, range_contains}
use Rattle.std.proofs.lemmas.Map.Lookups.{CmpEqualImpliesEq, exact_unsigned}
use Rattle.collections.specs.Tables.{with_former}
use Rattle.collections.proofs.Entries.{eq_at, lookup_put}
use Rattle.rows_cell.proofs.SortedLookups.{lookup_gone, lookup_kept}
use Rattle.tags_cell.specs.declared.handles.Handle.{Handle}
use Rattle.master_parts.specs.declared.handles.HandleKey.{HandleKey}
use Rattle.master_parts.specs.declared.handles.HandleState.{HandleState}
use Rattle.master_parts.specs.declared.handles.HandleState.TheVariants.{Open, Closed}
use Rattle.master_parts.specs.declared.listeners.ListenerPlace.{ListenerPlace}
use Rattle.master_parts.specs.declared.listeners.ListenSubject.{ListenSubject}
use Rattle.master_parts.specs.declared.listeners.ListenSubject.TheVariants.{Contents, Children, Lock}
use Rattle.master_parts.specs.Keys.{handle_order}
use Rattle.master_parts.specs.OpenHandles.{state_at, is_among, IsNotOpenOn}
use Rattle.master_parts.specs.Listeners.{rank_of, seat_order, seat_of, asks, IsSeated, HasSeats, AreSeated, HasAsking}
use Rattle.master_parts.proofs.PlacedHandles.{both_equal, exact_handle, handle_total, same_handle, same_number, found_apart, found_put, found_set, zero_first, from_zero, next_greater, At}

-- ---- the order tells seats apart

pub exact_seat : CmpEqualImpliesEq seat_order
exact_seat x y h =
    let i = nat_cmp x.post.instance y.post.instance in
    let r = nat_cmp x.post.rank y.post.rank in
    let c = nat_cmp x.client y.client in
    let n = nat_cmp x.number y.number in
    let a = both_equal (ordering_then i r) (ordering_then c n) h in
    let b = both_equal i r a.0 in
    let d = both_equal c n a.1 in
    let instances = exact_unsigned x.post.instance y.post.instance b.0 in
    let ranks = exact_unsigned x.post.rank y.post.rank b.1 in
    let clients = exact_unsigned x.client y.client d.0 in
    let numbers = exact_unsigned x.number y.number d.1 in
    λ j. record { post = record { instance = instances j; rank = ranks j }; client = clients j; number = numbers j }

pub seat_total : IsTotalOrder seat_order
seat_total = then_total (then_total (on_total (λ (s : ListenerPlace). s.post.instance) nat_cmp_total) (on_total (λ (s : ListenerPlace). s.post.rank) nat_cmp_total)) (then_total (on_total (λ (s : ListenerPlace). s.client) nat_cmp_total) (on_total (λ (s : ListenerPlace). s.number) nat_cmp_total))

pub same_seat : (s : ListenerPlace) → seat_order s s ≡ Equal
same_seat s = rw (same_number s.post.instance, same_number s.post.rank, same_number s.client, same_number s.number) refl

abbrev pub Sits : ListenerPlace → ListenerPlace → Bool
Sits s = is_at (seat_order s)

-- a seat tells its handle, and its node
seat_tells : (i j : ℕ) (a b : ListenSubject) (q k : HandleKey) → Sits (seat_of i a q) (seat_of j b k) ≡ true → (i ≡ j) × (q ≡ k)
seat_tells i j a b q k h =
    let e = exact_seat (seat_of i a q) (seat_of j b k) (eq_at (seat_order (seat_of i a q) (seat_of j b k)) h) in
    (ap (λ s. s.post.instance) e, ap (λ s. record { client = s.client; number = s.number }) e)

-- ---- a seat is taken, or given up

pub seated_more : (seats more : List (ListenerPlace × HandleKey)) (instance : ℕ) (subject : ListenSubject) (seat : ListenerPlace) (key put : HandleKey) → more ≡ insert_entry seat_order seats seat put → seat ≡ seat_of instance subject key → put ≡ key → (s : ListenSubject) (i : ℕ) (q : HandleKey) → IsSeated seats s i q → IsSeated more s i q
seated_more seats more instance subject seat key put e f g s i q h =
    let P : List (ListenerPlace × HandleKey) → Type 0 = λ l. IsSeated l s i q in
    let Q : ListenerPlace → Type 0 = λ x. P (insert_entry seat_order seats x put) in
    let R : HandleKey → Type 0 = λ x. P (insert_entry seat_order seats (seat_of instance subject key) x) in
    subst P (sym e) (subst Q (sym f) (subst R (sym g) (found_apart seat_order exact_seat same_seat seats (seat_of instance subject key) key q (seat_of i s q) h (λ t. sym (seat_tells i instance s subject q key t).1))))

pub seated_new : (seats more : List (ListenerPlace × HandleKey)) (instance : ℕ) (subject : ListenSubject) (seat : ListenerPlace) (key put : HandleKey) → more ≡ insert_entry seat_order seats seat put → seat ≡ seat_of instance subject key → put ≡ key → IsSeated more subject instance key
seated_new seats more instance subject seat key put e f g =
    let P : List (ListenerPlace × HandleKey) → Type 0 = λ l. IsSeated l subject instance key in
    let Q : ListenerPlace → Type 0 = λ x. P (insert_entry seat_order seats x put) in
    let R : HandleKey → Type 0 = λ x. P (insert_entry seat_order seats (seat_of instance subject key) x) in
    subst P (sym e) (subst Q (sym f) (subst R (sym g) (found_put seat_order exact_seat same_seat seats (seat_of instance subject key) key)))

pub seated_less : (seats less : List (ListenerPlace × HandleKey)) (instance : ℕ) (subject : ListenSubject) (seat : ListenerPlace) (key : HandleKey) → less ≡ remove_entry (Sits seat) seats → seat ≡ seat_of instance subject key → IsStrictlySortedBy seat_order (keys_of seats) → (s : ListenSubject) (i : ℕ) (q : HandleKey) → (i ≡ instance → q ≡ key → ⊥) → IsSeated seats s i q → IsSeated less s i q
seated_less seats less instance subject seat key e f sorted s i q other h =
    let P : List (ListenerPlace × HandleKey) → Type 0 = λ l. IsSeated l s i q in
    let Q : ListenerPlace → Type 0 = λ x. P (remove_entry (Sits x) seats) in
    let own : ListenerPlace = seat_of instance subject key in
    let p : ListenerPlace = seat_of i s q in
    subst P (sym e) (subst Q (sym f)
    (lookup_gone seat_order seat_total exact_seat seats own p sorted ∙
    ((elim (Sits p own) as (λ b. Sits p own ≡ b → cond b None (lookup (Sits p) seats) ≡ Some q) [
      | true ↦ (λ c. let t = seat_tells i instance s subject q key c in absurd (other t.0 t.1))
      | false ↦ (λ c. h)
    ]) refl)))

-- ---- a handle has its seats

-- all subjects
pub each_subject : (P : ListenSubject → Type 0) → P Contents → P Children → P Lock → (s : ListenSubject) → P s
each_subject P a b c Contents = a
each_subject P a b c Children = b
each_subject P a b c Lock = c

pub seats_more : (seats more : List (ListenerPlace × HandleKey)) → ((s : ListenSubject) (i : ℕ) (q : HandleKey) → IsSeated seats s i q → IsSeated more s i q) → (key : HandleKey) (state : HandleState) → HasSeats seats key state → HasSeats more key state
seats_more seats more kept key (Open noted) h = λ s asked. kept s noted.handle.instance key (h s asked)
seats_more seats more kept key Closed h = tt

-- ---- what the steps of the table come to

pub seated_after : {X E : Type 0} (result : Result X E) (entries after : List (HandleKey × HandleState)) (seats more : List (ListenerPlace × HandleKey)) (key : HandleKey) (state : HandleState) → HasSeats more key state → ((s : ListenSubject) (i : ℕ) (q : HandleKey) → IsSeated seats s i q → IsSeated more s i q) → OnOk result (after ≡ insert_entry handle_order entries key state) → OnErr result (after ≡ entries) → AreSeated entries seats → AreSeated after more
seated_after (Ok x) entries after seats more key state own kept ok err seated =
    let P : List (HandleKey × HandleState) → Type 0 = λ es. AreSeated es more in
    let put : AreSeated (insert_entry handle_order entries key state) more = λ q st h.
    (elim (At q key) as (λ b. At q key ≡ b → cond b (Some state) (state_at entries q) ≡ Some st → HasSeats more q st) [
      | true ↦ (λ c k.
          let same : key ≡ q = sym (exact_handle q key (eq_at (handle_order q key) c)) in
          let is : state ≡ st = cc in
          let Q : HandleKey → Type 0 = λ x. HasSeats more x st in
          let R : HandleState → Type 0 = λ x. HasSeats more key x in
          subst Q same (subst R is own))
      | false ↦ (λ c k. seats_more seats more kept q st (seated q st k))
    ]) refl (sym (lookup_put handle_order exact_handle same_handle entries key state q) ∙ h) in
    subst P (sym ok) put
seated_after (Err e) entries after seats more key state own kept ok err seated =
    let P : List (HandleKey × HandleState) → Type 0 = λ es. AreSeated es more in
    subst P (sym err) (λ q st h. seats_more seats more kept q st (seated q st h))

pub seated_still : (entries : List (HandleKey × HandleState)) (seats more : List (ListenerPlace × HandleKey)) → ((s : ListenSubject) (i : ℕ) (q : HandleKey) → IsSeated seats s i q → IsSeated more s i q) → AreSeated entries seats → AreSeated entries more
seated_still entries seats more kept seated = λ q st h. seats_more seats more kept q st (seated q st h)

-- a state is noted again
seated_restored : (entries : List (HandleKey × HandleState)) (seats : List (ListenerPlace × HandleKey)) (key : HandleKey) (former : Option HandleState) → IsStrictlySortedBy handle_order (keys_of entries) → ((st : HandleState) → former ≡ Some st → HasSeats seats key st) → AreSeated entries seats → AreSeated (with_former handle_order entries key former) seats
seated_restored entries seats key None sorted own seated = λ q st h.
    (elim (At q key) as (λ b. cond b None (state_at entries q) ≡ Some st → HasSeats seats q st) [
      | true ↦ (λ k. absurd (cc))
      | false ↦ (λ k. seated q st k)
    ]) (sym (lookup_gone handle_order handle_total exact_handle entries key q sorted) ∙ h)
seated_restored entries seats key (Some state) sorted own seated = λ q st h.
    ⊎_elim (λ l. seated q st l)
    (λ r.
    let P : HandleKey → Type 0 = λ x. HasSeats seats x st in
    subst P (sym r.0) (own st (ap (λ x. Some x) r.1)))
    (found_set entries key state st q h)

pub seated_again : (entries same after : List (HandleKey × HandleState)) (seats there : List (ListenerPlace × HandleKey)) (key : HandleKey) (former : Option HandleState) → same ≡ entries → there ≡ seats → after ≡ with_former handle_order same key former → IsStrictlySortedBy handle_order (keys_of entries) → ((st : HandleState) → former ≡ Some st → HasSeats seats key st) → AreSeated entries seats → AreSeated after there
seated_again entries same after seats there key former e f g sorted own seated =
    let P : List (HandleKey × HandleState) → Type 0 = λ es. AreSeated es there in
    let Q : List (ListenerPlace × HandleKey) → Type 0 = λ ss. AreSeated (with_former handle_order entries key former) ss in
    subst P (sym (g ∙ ap (λ l. with_former handle_order l key former) e)) (subst Q (sym f) (seated_restored entries seats key former sorted own seated))

-- the seats on a node are given up, which the handle isn't open on
pub seated_settled : (entries : List (HandleKey × HandleState)) (seats less : List (ListenerPlace × HandleKey)) (key : HandleKey) (instance : ℕ) (state : Option HandleState) → ((s : ListenSubject) (i : ℕ) (q : HandleKey) → (i ≡ instance → q ≡ key → ⊥) → IsSeated seats s i q → IsSeated less s i q) → state ≡ state_at entries key → IsNotOpenOn state instance → AreSeated entries seats → AreSeated entries less
seated_settled entries seats less key instance state kept e other seated = each
  where
    not_on : IsNotOpenOn (state_at entries key) instance
    not_on = let P : Option HandleState → Type 0 = λ o. IsNotOpenOn o instance in subst P e other

    each : (q : HandleKey) (st : HandleState) → state_at entries q ≡ Some st → HasSeats less q st
    each q (Open noted) h = λ s asked.
        kept s noted.handle.instance q (λ on same. let P : HandleKey → Type 0 = λ x. state_at entries x ≡ Some (Open noted) in not_on noted (subst P same h) on) (seated q (Open noted) h s asked)
    each q Closed h = tt

-- ---- keys are collected

abbrev pub first_seat : ℕ → ℕ → ListenerPlace
first_seat instance rank = record { post = record { instance = instance; rank = rank }; client = 0; number = 0 }

abbrev pub seats_on : ℕ → ListenSubject → List (ListenerPlace × HandleKey) → List (ListenerPlace × HandleKey)
seats_on instance subject seats = entries_between seat_order (Included (first_seat instance (rank_of subject))) (Excluded (first_seat instance (rank_of subject + 1))) seats

sits_on : (instance : ℕ) (subject : ListenSubject) (key : HandleKey) → range_contains seat_order (Included (first_seat instance (rank_of subject))) (Excluded (first_seat instance (rank_of subject + 1))) (seat_of instance subject key) ≡ true
sits_on instance subject key =
    let from : is_le (ordering_then (nat_cmp 0 key.client) (nat_cmp 0 key.number)) ≡ true = zero_first (nat_cmp 0 key.client) (nat_cmp 0 key.number) (from_zero key.client) (from_zero key.number) in
    rw (same_number instance, same_number (rank_of subject), next_greater (rank_of subject), from) refl

pub seated_on : (instance : ℕ) (subject : ListenSubject) (seats : List (ListenerPlace × HandleKey)) (keys : List (HandleKey × Unit {0})) → IsStrictlySortedBy seat_order (keys_of seats) → ((s : ListenerPlace) (k : HandleKey) → lookup (Sits s) (seats_on instance subject seats) ≡ Some k → is_among keys k ≡ true) → (q : HandleKey) → IsSeated seats subject instance q → is_among keys q ≡ true
seated_on instance subject seats keys sorted h = λ q found.
    let s : ListenerPlace = seat_of instance subject q in
    h s q
    (lookup_kept seat_order seat_total exact_seat (λ e. range_contains seat_order (Included (first_seat instance (rank_of subject))) (Excluded (first_seat instance (rank_of subject + 1))) e.0) seats s sorted
    ∙ rw (found, sits_on instance subject q) refl)

pub range_on_seats : (instance rank next : ℕ) (subject : ListenSubject) (first end : ListenerPlace) (seats stored items it : List (ListenerPlace × HandleKey)) → it ≡ items → items ≡ entries_between seat_order (Included first) (Excluded end) stored → stored ≡ seats → first ≡ first_seat instance rank → end ≡ first_seat instance next → next ≡ rank + 1 → rank ≡ rank_of subject → it ≡ seats_on instance subject seats
range_on_seats instance rank next subject first end seats stored items it a b c d e f g =
    let from : first ≡ first_seat instance (rank_of subject) = d ∙ ap (first_seat instance) g in
    let to : end ≡ first_seat instance (rank_of subject + 1) = e ∙ ap (first_seat instance) (f ∙ ap (λ r. r + 1) g) in
    a ∙ b
    ∙ ap (λ l. entries_between seat_order (Included first) (Excluded end) l) c
    ∙ ap (λ p. entries_between seat_order (Included p) (Excluded end) seats) from
    ∙ ap (λ p. entries_between seat_order (Included (first_seat instance (rank_of subject))) (Excluded p) seats) to

-- ---- the handles that asked

asking_seated : (entries : List (HandleKey × HandleState)) (seats : List (ListenerPlace × HandleKey)) (subject : ListenSubject) (instance : ℕ) (keys : List (HandleKey × Unit {0})) → AreSeated entries seats → ((q : HandleKey) → IsSeated seats subject instance q → is_among keys q ≡ true) → HasAsking entries subject instance keys
asking_seated entries seats subject instance keys seated has = λ key noted h on asked.
    let P : ℕ → Type 0 = λ i. IsSeated seats subject i key in
    has key (subst P on (seated key (Open noted) h subject asked))

pub asking_if : {X E : Type 0} (result : Result X E) (entries view : List (HandleKey × HandleState)) (seats : List (ListenerPlace × HandleKey)) (subject : ListenSubject) (instance : ℕ) (keys : List (HandleKey × Unit {0})) → entries ≡ view → AreSeated entries seats → OnOk result ((q : HandleKey) → IsSeated seats subject instance q → is_among keys q ≡ true) → OnOk result (HasAsking view subject instance keys)
asking_if (Ok x) entries view seats subject instance keys e seated has = let P : List (HandleKey × HandleState) → Type 0 = λ es. HasAsking es subject instance keys in subst P e (asking_seated entries seats subject instance keys seated has)
asking_if (Err x) entries view seats subject instance keys e seated has = tt

-- the seats of all that a handle asked for, one after the other
pub all_seats : {X E : Type 0} (result : Result X E) (handle : Handle) (instance : ℕ) (key : HandleKey) (one two all : List (ListenerPlace × HandleKey)) → instance ≡ handle.instance
    → (asks Contents handle ≡ true → IsSeated one Contents instance key) → ((s : ListenSubject) (i : ℕ) (q : HandleKey) → IsSeated one s i q → IsSeated two s i q)
    → (asks Children handle ≡ true → IsSeated two Children instance key) → ((s : ListenSubject) (i : ℕ) (q : HandleKey) → IsSeated two s i q → IsSeated all s i q)
    → OnOk result (asks Lock handle ≡ true → IsSeated all Lock instance key) → OnOk result ((s : ListenSubject) → asks s handle ≡ true → IsSeated all s handle.instance key)
all_seats (Ok x) handle instance key one two all e contents more children most lock =
    let P : ListenSubject → Type 0 = λ s. asks s handle ≡ true → IsSeated all s instance key in
    let Q : ℕ → Type 0 = λ i. (s : ListenSubject) → asks s handle ≡ true → IsSeated all s i key in
    subst Q e (each_subject P (λ h. most Contents instance key (more Contents instance key (contents h))) (λ h. most Children instance key (children h)) lock)
all_seats (Err x) handle instance key one two all e contents more children most lock = tt
