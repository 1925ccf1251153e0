-- What the lines of one lock tell of it, as it changes.
use Rattle.std.proofs.Common.{◌≡◌, ℕ, ◌+◌, ◌-◌, List, [], ◌∷◌, ◌++◌, Bool, true, false, cond, Ordering, Less, Equal, Greater, Option, Some, None, refl, sym, ap, subst, ◌∙◌, arith, map}
use Rattle.std.specs.Prelude.{◌&&◌, ◌||◌, ◌==◌, not, filter, fold, is_none, is_some}
use Rattle.std.specs.List.{AllByRecursion, list_all, count_by}
use Rattle.std.specs.List.Sorted.{IsStrictlySortedBy}
use Rattle.std.specs.Map.{keys_of, lookup}
use Rattle.std.specs.BTreeMap.{is_at, insert_entry}
use Rattle.std.specs.Ordering.{nat_cmp, is_eq, match_ordering, ordering_then}
use Rattle.std.proofs.lemmas.Bool.{and_parts, eqb-true}
use Rattle.std.proofs.lemmas.Bool.Decides.{nat_tests}
use Rattle.std.proofs.lemmas.List.Sums.{sum_by-cons, sum_by-append}
use Rattle.std.proofs.lemmas.Map.Lookups.{CmpEqualImpliesEq, exact_unsigned}
use Rattle.collections.proofs.Entries.{eq_at}
use Rattle.node_core.specs.declared.kinds.LockMode.{LockMode}
use Rattle.node_core.specs.declared.kinds.LockMode.TheVariants as modes
use Rattle.node_core.specs.declared.lines.Line.{Line}
use Rattle.node_core.specs.declared.lines.Line.TheVariants as lines
use Rattle.node_core.specs.Nodes.{Nodes}
use Rattle.lock_core.specs.declared.claims.Owner.{Owner}
use Rattle.lock_core.specs.declared.claims.Hold.{Hold}
use Rattle.lock_core.specs.declared.claims.Claim.{Claim}
use Rattle.lock_core.specs.declared.turns.Turn.{Turn}
use Rattle.lock_core.specs.State.{LockState, Holders, IsLegal, owner_order, is_shared, mode_of, hold_of, nobody_holds, stand_together, fits, fits_mode, is_exhausted}
use Rattle.lock_core.specs.Turns.{is_nobody, held_by, served_from, served, turned_away, settled, without, is_owner, is_of_client}
use Rattle.lock_core.proofs.Generations.{rise_of, settled_rises}
use Rattle.over_core.proofs.LockPuts.{at_number}
use Rattle.master_state.specs.Replies.{locked_line, line_if}
use Rattle.world_cell.specs.HeldLocks.{LockSeen, is_mode, with_hold, seen_by}

abbrev pub one_where : Bool → ℕ
one_where b = cond b 1 0

pub count_cons : {X : Type 0} (p : X → Bool) (x : X) (xs : List X) → count_by p (x ∷ xs) ≡ one_where (p x) + count_by p xs
count_cons p x xs = sum_by-cons (λ y. one_where (p y)) x xs

same_number : (n : ℕ) → (n == n) ≡ true
same_number n = grind (arith, nat_tests)

-- ---- handles and numbers of clients

then_is : (a b : Ordering) → is_eq (ordering_then a b) ≡ (is_eq a && is_eq b)
then_is Less b = refl
then_is Equal b = refl
then_is Greater b = refl

-- the key of a handle is met by the handle alone
pub own_key : (owner other : Owner) → is_at (owner_order owner) other ≡ is_owner owner other
own_key owner other =
    then_is (nat_cmp owner.client other.client) (nat_cmp owner.handle other.handle)
    ∙ ap (λ b. b && is_at (nat_cmp owner.handle) other.handle) (at_number owner.client other.client)
    ∙ ap (λ b. (other.client == owner.client) && b) (at_number owner.handle other.handle)

both_equal : (a b : Ordering) → ordering_then a b ≡ Equal → (a ≡ Equal) × (b ≡ Equal)
both_equal Less b e = absurd cc
both_equal Equal b e = (refl, e)
both_equal Greater b e = absurd cc

pub exact_owner : CmpEqualImpliesEq owner_order
exact_owner x y h =
    let t = both_equal (nat_cmp x.client y.client) (nat_cmp x.handle y.handle) h in
    let c = exact_unsigned x.client y.client t.0 in
    let n = exact_unsigned x.handle y.handle t.1 in
    λ j. record { client = c j; handle = n j }

-- ---- a claim that fits is of a handle that doesn't hold the lock

absent : (holders : Holders) (owner : Owner) → mode_of holders ≡ None → lookup (is_at (owner_order owner)) holders ≡ None
absent [] owner h = refl
absent (e ∷ es) owner h = absurd cc

none_of : {X : Type 0} (o : Option X) → is_none o ≡ true → o ≡ None
none_of None h = refl
none_of (Some x) h = absurd cc

pub new_owner : (lock : LockState) (claim : Claim) → fits lock claim ≡ true → hold_of lock claim.owner ≡ None
new_owner lock claim fit = by_mode (mode_of lock.holders) refl fit
  where
    by_mode : (o : Option LockMode) → mode_of lock.holders ≡ o → fits_mode lock claim o ≡ true → hold_of lock claim.owner ≡ None
    by_mode None is f = absent lock.holders claim.owner is
    by_mode (Some modes.Exclusive) is f = absurd cc
    by_mode (Some modes.Shared) is f = none_of (hold_of lock claim.owner) (and_parts (is_shared claim.hold.mode) (is_none (hold_of lock claim.owner)) f).1

-- ---- one lock, one client and one mode

module _ (client : ℕ) (mode : LockMode) where
  abbrev pub holds_so : Owner × Hold → Bool
  holds_so entry = entry.0.client == client && is_mode entry.1.mode mode

  abbrev pub claims_so : Claim → Bool
  claims_so claim = claim.owner.client == client && is_mode claim.hold.mode mode

  -- ---- who gets it

  count_new : (holders : Holders) (owner : Owner) (hold : Hold) → lookup (is_at (owner_order owner)) holders ≡ None → count_by holds_so (insert_entry owner_order holders owner hold) ≡ count_by holds_so holders + one_where (holds_so (owner, hold))
  count_new [] owner hold none = let one = count_cons holds_so (owner, hold) [] in omega (arith, one)
  count_new (e ∷ es) owner hold none =
      let whole = count_cons holds_so e es in
      let new = count_cons holds_so (owner, hold) (e ∷ es) in
      let behind = count_cons holds_so e (insert_entry owner_order es owner hold) in
      (elim (owner_order owner e.0) as (λ o. cond (is_eq o) (Some e.1) (lookup (is_at (owner_order owner)) es) ≡ None → count_by holds_so (match_ordering o ((owner, hold) ∷ e ∷ es) ((e.0, hold) ∷ es) (e ∷ insert_entry owner_order es owner hold)) ≡ count_by holds_so (e ∷ es) + one_where (holds_so (owner, hold))) [
        | Less ↦ (λ k. omega (arith, new))
        | Equal ↦ (λ k. absurd cc)
        | Greater ↦ (λ k. let rest = count_new es owner hold k in omega (arith, whole, rest, behind))
      ]) none

  pub count_held : (lock : LockState) (claim : Claim) → fits lock claim ≡ true → count_by holds_so (held_by lock claim).holders ≡ count_by holds_so lock.holders + one_where (claims_so claim)
  count_held lock claim fit = count_new lock.holders claim.owner claim.hold (new_owner lock claim fit)

  count_served : (lock : LockState) (granted waiters : List Claim) → count_by holds_so (served_from lock granted waiters).lock.holders + count_by claims_so granted ≡ count_by holds_so lock.holders + count_by claims_so (served_from lock granted waiters).granted
  count_served lock granted [] = refl
  count_served lock granted (first ∷ rest) =
      (elim (fits lock first) as (λ b. fits lock first ≡ b → count_by holds_so (cond b (served_from (held_by lock first) (granted ++ first ∷ []) rest) (record { lock = record lock { waiters = first ∷ rest }; granted = granted; exhausted = [] })).lock.holders + count_by claims_so granted
      ≡ count_by holds_so lock.holders + count_by claims_so (cond b (served_from (held_by lock first) (granted ++ first ∷ []) rest) (record { lock = record lock { waiters = first ∷ rest }; granted = granted; exhausted = [] })).granted) [
        | true ↦ (λ is.
            let later = count_served (held_by lock first) (granted ++ first ∷ []) rest in
            let more = count_held lock first is in
            let all = sum_by-append (λ (x : Claim). one_where (claims_so x)) granted (first ∷ []) in
            let one = count_cons claims_so first [] in
            omega (arith, later, more, all, one))
        | false ↦ (λ is. refl)
      ]) refl

  pub count_settled : (lock : LockState) → count_by holds_so (settled lock).lock.holders ≡ count_by holds_so lock.holders + count_by claims_so (settled lock).granted
  count_settled lock =
      let all = count_served (record lock { waiters = [] }) [] lock.waiters in
      elim (is_exhausted lock) as (λ b. count_by holds_so (cond b (turned_away lock) (served lock)).lock.holders ≡ count_by holds_so lock.holders + count_by claims_so (cond b (turned_away lock) (served lock)).granted) [
        | true ↦ omega arith
        | false ↦ omega (arith, all)
      ]

  -- ---- who leaves it

  -- where none of the handles is the one that leaves
  none_leaves : (owner : Owner) (holders : Holders) → AllByRecursion (λ (e : Owner × Hold). is_owner owner e.0 ≡ false) holders → filter (λ (entry : Owner × Hold). not (is_owner owner entry.0)) holders ≡ holders
  none_leaves owner [] all = refl
  none_leaves owner (e ∷ es) all = rw all.0 (ap (λ rest. e ∷ rest) (none_leaves owner es all.1))

  all_behind : (owner : Owner) (es : Holders) → AllByRecursion (λ o. owner_order owner o ≡ Less) (keys_of es) → AllByRecursion (λ (e : Owner × Hold). is_owner owner e.0 ≡ false) es
  all_behind owner [] h = tt
  all_behind owner (e ∷ es) h = (sym (own_key owner e.0) ∙ ap is_eq h.0, all_behind owner es h.1)

  all_absent : (owner : Owner) (es : Holders) → lookup (is_at (owner_order owner)) es ≡ None → AllByRecursion (λ (e : Owner × Hold). is_owner owner e.0 ≡ false) es
  all_absent owner [] h = tt
  all_absent owner (e ∷ es) h =
      (elim (is_at (owner_order owner) e.0) as (λ b. is_at (owner_order owner) e.0 ≡ b → cond b (Some e.1) (lookup (is_at (owner_order owner)) es) ≡ None → AllByRecursion (λ (x : Owner × Hold). is_owner owner x.0 ≡ false) (e ∷ es)) [
        | true ↦ (λ is k. absurd cc)
        | false ↦ (λ is k. (sym (own_key owner e.0) ∙ is, all_absent owner es k))
      ]) refl h

  -- of a handle that doesn't hold it
  pub count_absent : (lock : LockState) (owner : Owner) → hold_of lock owner ≡ None → (without (is_owner owner) lock).holders ≡ lock.holders
  count_absent lock owner none = none_leaves owner lock.holders (all_absent owner lock.holders none)

  -- of one that does
  count_leaves : (holders : Holders) (owner : Owner) (hold : Hold) → IsStrictlySortedBy owner_order (keys_of holders) → lookup (is_at (owner_order owner)) holders ≡ Some hold
      → count_by holds_so (filter (λ entry. not (is_owner owner entry.0)) holders) + one_where (holds_so (owner, hold)) ≡ count_by holds_so holders
  unfolding IsStrictlySortedBy
  count_leaves [] owner hold sorted found = absurd cc
  count_leaves (e ∷ es) owner hold sorted found =
      let left : Holders = filter (λ (entry : Owner × Hold). not (is_owner owner entry.0)) es in
      let whole = count_cons holds_so e es in
      let found_by : cond (is_owner owner e.0) (Some e.1) (lookup (is_at (owner_order owner)) es) ≡ Some hold = sym (ap (λ b. cond b (Some e.1) (lookup (is_at (owner_order owner)) es)) (own_key owner e.0)) ∙ found in
      (elim (is_owner owner e.0) as (λ b. is_owner owner e.0 ≡ b → cond b (Some e.1) (lookup (is_at (owner_order owner)) es) ≡ Some hold → count_by holds_so (cond (not b) (e ∷ left) left) + one_where (holds_so (owner, hold)) ≡ count_by holds_so (e ∷ es)) [
        | true ↦ (λ own k.
            let same : owner ≡ e.0 = exact_owner owner e.0 (eq_at (owner_order owner e.0) (own_key owner e.0 ∙ own)) in
            let kept : e.1 ≡ hold = cc in
            let P : Owner → Type 0 = λ o. AllByRecursion (λ x. owner_order o x ≡ Less) (keys_of es) in
            let none = none_leaves owner es (all_behind owner es (subst P (sym same) sorted.0)) in
            let own_one : one_where (holds_so (owner, hold)) ≡ one_where (holds_so e) = ap (λ (o : Owner). one_where (holds_so (o, hold))) same ∙ ap (λ (h : Hold). one_where (holds_so (e.0, h))) (sym kept) in
            let rest : count_by holds_so left ≡ count_by holds_so es = ap (count_by holds_so) none in
            omega (arith, whole, own_one, rest))
        | false ↦ (λ own k.
            let rest = count_leaves es owner hold sorted.1 k in
            let kept = count_cons holds_so e left in
            omega (arith, whole, rest, kept))
      ]) refl found_by

  -- all who hold a legal lock hold it in one mode
  shared_by : (test : Owner → Bool) (holders : Holders) (hold : Hold) → list_all (λ entry. is_shared entry.1.mode) holders ≡ true → lookup test holders ≡ Some hold → is_shared hold.mode ≡ true
  shared_by test [] hold all found = absurd cc
  shared_by test (e ∷ es) hold all found =
      let t = and_parts (is_shared e.1.mode) (list_all (λ (entry : Owner × Hold). is_shared entry.1.mode) es) all in
      (elim (test e.0) as (λ b. cond b (Some e.1) (lookup test es) ≡ Some hold → is_shared hold.mode ≡ true) [
        | true ↦ (λ k. let same : e.1 ≡ hold = cc in ap (λ (h : Hold). is_shared h.mode) (sym same) ∙ t.0)
        | false ↦ (λ k. shared_by test es hold t.1 k)
      ]) found

  other_shared : (a b : LockMode) → is_shared a ≡ true → is_shared b ≡ true → is_mode a mode ≡ false → is_mode b mode ≡ false
  other_shared modes.Exclusive b h k e = absurd cc
  other_shared modes.Shared modes.Exclusive h k e = absurd cc
  other_shared modes.Shared modes.Shared h k e = e

  and_false : (a b : Bool) → b ≡ false → (a && b) ≡ false
  and_false true b h = h
  and_false false b h = refl

  none_shared : (hold : LockMode) (holders : Holders) → is_shared hold ≡ true → is_mode hold mode ≡ false → list_all (λ entry. is_shared entry.1.mode) holders ≡ true → count_by holds_so holders ≡ 0
  none_shared hold [] h other all = refl
  none_shared hold (e ∷ es) h other all =
      let t = and_parts (is_shared e.1.mode) (list_all (λ (entry : Owner × Hold). is_shared entry.1.mode) es) all in
      let whole = count_cons holds_so e es in
      let none : one_where (holds_so e) ≡ 0 = ap one_where (and_false (e.0.client == client) (is_mode e.1.mode mode) (other_shared hold e.1.mode h t.0 other)) in
      let rest = none_shared hold es h other t.1 in
      omega (arith, whole, none, rest)

  none_else : (holders : Holders) (owner : Owner) (hold : Hold) → stand_together holders ≡ true → lookup (is_at (owner_order owner)) holders ≡ Some hold → is_mode hold.mode mode ≡ false → count_by holds_so holders ≡ 0
  none_else [] owner hold stand found other = absurd cc
  none_else (only ∷ []) owner hold stand found other =
      let whole = count_cons holds_so only [] in
      (elim (is_at (owner_order owner) only.0) as (λ b. cond {A = Option Hold} b (Some only.1) None ≡ Some hold → count_by holds_so (only ∷ []) ≡ 0) [
        | true ↦ (λ k.
            let same : only.1 ≡ hold = cc in
            let none : one_where (holds_so only) ≡ 0 = ap one_where (and_false (only.0.client == client) (is_mode only.1.mode mode) (ap (λ (h : Hold). is_mode h.mode mode) same ∙ other)) in
            omega (arith, whole, none))
        | false ↦ (λ k. absurd cc)
      ]) found
  none_else (first ∷ second ∷ rest) owner hold stand found other =
      none_shared hold.mode (first ∷ second ∷ rest) (shared_by (is_at (owner_order owner)) (first ∷ second ∷ rest) hold stand found) other stand

  -- it is one handle less of its client
  pub count_freed : (lock : LockState) (owner : Owner) (hold : Hold) → stand_together lock.holders ≡ true → IsStrictlySortedBy owner_order (keys_of lock.holders) → hold_of lock owner ≡ Some hold
      → count_by holds_so (without (is_owner owner) lock).holders ≡ cond (owner.client == client) (count_by holds_so lock.holders - 1) (count_by holds_so lock.holders)
  count_freed lock owner hold stand sorted found =
      let all = count_leaves lock.holders owner hold sorted found in
      let left : ℕ = count_by holds_so (without (is_owner owner) lock).holders in
      (elim (owner.client == client) as (λ b. left + one_where (b && is_mode hold.mode mode) ≡ count_by holds_so lock.holders → left ≡ cond b (count_by holds_so lock.holders - 1) (count_by holds_so lock.holders)) [
        | true ↦ (λ k.
            (elim (is_mode hold.mode mode) as (λ b. is_mode hold.mode mode ≡ b → left + one_where b ≡ count_by holds_so lock.holders → left ≡ count_by holds_so lock.holders - 1) [
              | true ↦ (λ is l. omega (arith, l))
              | false ↦ (λ is l. let none = none_else lock.holders owner hold stand found is in omega (arith, l, none))
            ]) refl k)
        | false ↦ (λ k. omega (arith, k))
      ]) all

  -- the end of another session leaves it
  others_kept : (whose : ℕ) (holders : Holders) → (whose == client) ≡ false → count_by holds_so (filter (λ (entry : Owner × Hold). not (is_of_client whose entry.0)) holders) ≡ count_by holds_so holders
  others_kept whose [] h = refl
  others_kept whose (e ∷ es) h =
      let left : Holders = filter (λ (entry : Owner × Hold). not (is_of_client whose entry.0)) es in
      let whole = count_cons holds_so e es in
      let rest = others_kept whose es h in
      (elim (e.0.client == whose) as (λ b. (e.0.client == whose) ≡ b → count_by holds_so (cond (not b) (e ∷ left) left) ≡ count_by holds_so (e ∷ es)) [
        | true ↦ (λ is.
            let P : ℕ → Type 0 = λ n. (n == client) ≡ false in
            let other : (e.0.client == client) ≡ false = subst P (sym (eqb-true e.0.client whose is)) h in
            let none : one_where (holds_so e) ≡ 0 = ap (λ b. one_where (b && is_mode e.1.mode mode)) other in
            omega (arith, whole, none, rest))
        | false ↦ (λ is. let kept = count_cons holds_so e left in omega (arith, whole, kept, rest))
      ]) refl

  pub count_others : (lock : LockState) (whose : ℕ) → (whose == client) ≡ false → count_by holds_so (without (is_of_client whose) lock).holders ≡ count_by holds_so lock.holders
  count_others lock whose h = others_kept whose lock.holders h

  -- ---- what is seen of it

  -- of a lock whose node is there
  abbrev pub seen_so : Nodes → ℕ → LockState → LockSeen
  seen_so nodes next lock = record { nodes = nodes; next_instance = next; generation = Some lock.generation; holds = count_by holds_so lock.holders }

  abbrev pub so : Nodes → ℕ → Option ℕ → ℕ → LockSeen
  so nodes next generation holds = record { nodes = nodes; next_instance = next; generation = generation; holds = holds }

  pub same_seen : (nodes : Nodes) (next : ℕ) (g h : Option ℕ) (n m : ℕ) → g ≡ h → n ≡ m → so nodes next g n ≡ so nodes next h m
  same_seen nodes next g h n m is same = cc

  pub seen_more : (instance : ℕ) (seen : LockSeen) (xs ys : List Line) → fold (seen_by instance client mode) seen (xs ++ ys) ≡ fold (seen_by instance client mode) (fold (seen_by instance client mode) seen xs) ys
  seen_more instance seen [] ys = refl
  seen_more instance seen (x ∷ xs) ys = seen_more instance (seen_by instance client mode seen x) xs ys

  -- by what is told of one lock: of its own instance what becomes of it, and of others nothing
  pub record TellsOf (at : ℕ) (old new : LockState) (printed : List Line) : Type 0 where
    pub own : (instance : ℕ) (nodes : Nodes) (next : ℕ) → (at == instance) ≡ true → fold (seen_by instance client mode) (seen_so nodes next old) printed ≡ seen_so nodes next new
    pub apart : (instance : ℕ) (seen : LockSeen) → (at == instance) ≡ false → fold (seen_by instance client mode) seen printed ≡ seen

  pub tells_more : (at : ℕ) (old mid new : LockState) (xs ys : List Line) → TellsOf at old mid xs → TellsOf at mid new ys → TellsOf at old new (xs ++ ys)
  tells_more at old mid new xs ys h k = record {
    own = λ instance nodes next is. seen_more instance (seen_so nodes next old) xs ys ∙ ap (λ seen. fold (seen_by instance client mode) seen ys) (h.own instance nodes next is) ∙ k.own instance nodes next is;
    apart = λ instance seen other. seen_more instance seen xs ys ∙ ap (λ s. fold (seen_by instance client mode) s ys) (h.apart instance seen other) ∙ k.apart instance seen other;
  }

  pub tells_nothing : (at : ℕ) (old new : LockState) → new.generation ≡ old.generation → count_by holds_so new.holders ≡ count_by holds_so old.holders → TellsOf at old new []
  tells_nothing at old new generation holds = record {
    own = λ instance nodes next is. same_seen nodes next (Some old.generation) (Some new.generation) (count_by holds_so old.holders) (count_by holds_so new.holders) (ap (λ g. Some g) (sym generation)) (sym holds);
    apart = λ instance seen other. refl;
  }

  -- ---- those that get it

  locked_own : (at instance generation : ℕ) (seen : LockSeen) (claim : Claim) → (at == instance) ≡ true → seen_by instance client mode seen (locked_line at generation claim) ≡ with_hold seen generation (claims_so claim)
  locked_own at instance generation seen claim is = ap (λ b. cond b (with_hold seen generation (claims_so claim)) seen) is

  locked_apart : (at instance generation : ℕ) (seen : LockSeen) (claim : Claim) → (at == instance) ≡ false → seen_by instance client mode seen (locked_line at generation claim) ≡ seen
  locked_apart at instance generation seen claim other = ap (λ b. cond b (with_hold seen generation (claims_so claim)) seen) other

  either_same : (b : Bool) (generation : ℕ) → cond b (Some generation) (Some generation) ≡ Some generation
  either_same true generation = refl
  either_same false generation = refl

  all_locked : (at instance generation : ℕ) (nodes : Nodes) (next : ℕ) (g : Option ℕ) (n : ℕ) (claims : List Claim) → (at == instance) ≡ true
      → fold (seen_by instance client mode) (so nodes next g n) (map (locked_line at generation) claims) ≡ so nodes next (cond (is_nobody claims) g (Some generation)) (n + count_by claims_so claims)
  all_locked at instance generation nodes next g n [] is = same_seen nodes next g g n (n + 0) refl (omega arith)
  all_locked at instance generation nodes next g n (first ∷ rest) is =
      let whole = count_cons claims_so first rest in
      ap (λ seen. fold (seen_by instance client mode) seen (map (locked_line at generation) rest)) (locked_own at instance generation (so nodes next g n) first is)
      ∙ all_locked at instance generation nodes next (Some generation) (n + one_where (claims_so first)) rest is
      ∙ same_seen nodes next (cond (is_nobody rest) (Some generation) (Some generation)) (Some generation) (n + one_where (claims_so first) + count_by claims_so rest) (n + count_by claims_so (first ∷ rest)) (either_same (is_nobody rest) generation) (omega (arith, whole))

  none_locked : (at instance generation : ℕ) (seen : LockSeen) (claims : List Claim) → (at == instance) ≡ false → fold (seen_by instance client mode) seen (map (locked_line at generation) claims) ≡ seen
  none_locked at instance generation seen [] other = refl
  none_locked at instance generation seen (first ∷ rest) other =
      ap (λ s. fold (seen_by instance client mode) s (map (locked_line at generation) rest)) (locked_apart at instance generation seen first other) ∙ none_locked at instance generation seen rest other

  -- those that got a lock are those that hold it more, and where nobody got it its generation stays
  pub record IsGranted (left : LockState) (turn : Turn) : Type 0 where
    pub holds : count_by holds_so turn.lock.holders ≡ count_by holds_so left.holders + count_by claims_so turn.granted
    pub stays : is_nobody turn.granted ≡ true → turn.lock.generation ≡ left.generation

  no_rise : (free : Bool) (granted : List Claim) → is_nobody granted ≡ true → rise_of free granted ≡ 0
  no_rise true granted h = rw h refl
  no_rise false granted h = refl

  pub settled_granted : (left : LockState) → IsGranted left (settled left)
  settled_granted left = record {
    holds = count_settled left;
    stays = λ nobody. let rises = settled_rises left in let none = no_rise (nobody_holds left) (settled left).granted nobody in omega (arith, rises, none);
  }

  generation_told : (b : Bool) (old new : ℕ) → (b ≡ true → new ≡ old) → cond b (Some old) (Some new) ≡ Some new
  generation_told true old new h = ap (λ g. Some g) (sym (h refl))
  generation_told false old new h = refl

  pub turn_tells : (at : ℕ) (left : LockState) (turn : Turn) → IsGranted left turn → TellsOf at left turn.lock (map (locked_line at turn.lock.generation) turn.granted)
  turn_tells at left turn h = record {
    own = λ instance nodes next is.
        all_locked at instance turn.lock.generation nodes next (Some left.generation) (count_by holds_so left.holders) turn.granted is
        ∙ same_seen nodes next (cond (is_nobody turn.granted) (Some left.generation) (Some turn.lock.generation)) (Some turn.lock.generation) (count_by holds_so left.holders + count_by claims_so turn.granted) (count_by holds_so turn.lock.holders)
        (generation_told (is_nobody turn.granted) left.generation turn.lock.generation h.stays) (sym h.holds);
    apart = λ instance seen other. none_locked at instance turn.lock.generation seen turn.granted other;
  }

  -- one that asks for it and gets it
  pub held_tells : (at : ℕ) (lock : LockState) (claim : Claim) → fits lock claim ≡ true → TellsOf at lock (held_by lock claim) (locked_line at (held_by lock claim).generation claim ∷ [])
  held_tells at lock claim fit = record {
    own = λ instance nodes next is.
        locked_own at instance (held_by lock claim).generation (seen_so nodes next lock) claim is
        ∙ same_seen nodes next (Some (held_by lock claim).generation) (Some (held_by lock claim).generation) (count_by holds_so lock.holders + one_where (claims_so claim)) (count_by holds_so (held_by lock claim).holders) refl (sym (count_held lock claim fit));
    apart = λ instance seen other. locked_apart at instance (held_by lock claim).generation seen claim other;
  }

  -- ---- those that leave it

  freed_own : (whose : ℕ) (at instance : ℕ) (nodes : Nodes) (next : ℕ) (g : Option ℕ) (n : ℕ) → (at == instance) ≡ true → seen_by instance client mode (so nodes next g n) (lines.Freed whose at) ≡ so nodes next g (cond (whose == client) (n - 1) n)
  freed_own whose at instance nodes next g n is =
      ap (λ b. cond (b && (whose == client)) (so nodes next g (n - 1)) (so nodes next g n)) is
      ∙ (elim (whose == client) as (λ b. cond b (so nodes next g (n - 1)) (so nodes next g n) ≡ so nodes next g (cond b (n - 1) n)) [ true ↦ refl | false ↦ refl ])

  freed_apart : (whose : ℕ) (at instance : ℕ) (seen : LockSeen) → (at == instance) ≡ false → seen_by instance client mode seen (lines.Freed whose at) ≡ seen
  freed_apart whose at instance seen other = ap (λ b. cond (b && (whose == client)) (record seen { holds = seen.holds - 1 }) seen) other

  -- a handle leaves it
  pub left_tells : (at : ℕ) (lock : LockState) (owner : Owner) → stand_together lock.holders ≡ true → IsStrictlySortedBy owner_order (keys_of lock.holders)
      → TellsOf at lock (without (is_owner owner) lock) (line_if (is_some (hold_of lock owner)) (lines.Freed owner.client at))
  left_tells at lock owner stand sorted = by_hold (hold_of lock owner) refl
    where
      by_hold : (o : Option Hold) → hold_of lock owner ≡ o → TellsOf at lock (without (is_owner owner) lock) (line_if (is_some o) (lines.Freed owner.client at))
      by_hold None is = tells_nothing at lock (without (is_owner owner) lock) refl (ap (count_by holds_so) (count_absent lock owner is))
      by_hold (Some hold) is = record {
        own = λ instance nodes next own.
            freed_own owner.client at instance nodes next (Some lock.generation) (count_by holds_so lock.holders) own
            ∙ same_seen nodes next (Some lock.generation) (Some lock.generation) (cond (owner.client == client) (count_by holds_so lock.holders - 1) (count_by holds_so lock.holders)) (count_by holds_so (without (is_owner owner) lock).holders) refl (sym (count_freed lock owner hold stand sorted is));
        apart = λ instance seen other. freed_apart owner.client at instance seen other;
      }

  -- another client does
  pub freed_other : (whose at : ℕ) (old new : LockState) → (whose == client) ≡ false → new.generation ≡ old.generation → count_by holds_so new.holders ≡ count_by holds_so old.holders → TellsOf at old new (lines.Freed whose at ∷ [])
  freed_other whose at old new other generation holds = record {
    own = λ instance nodes next is.
        freed_own whose at instance nodes next (Some old.generation) (count_by holds_so old.holders) is
        ∙ ap (λ b. so nodes next (Some old.generation) (cond b (count_by holds_so old.holders - 1) (count_by holds_so old.holders))) other
        ∙ same_seen nodes next (Some old.generation) (Some new.generation) (count_by holds_so old.holders) (count_by holds_so new.holders) (ap (λ g. Some g) (sym generation)) (sym holds);
    apart = λ instance seen apart. freed_apart whose at instance seen apart;
  }

  -- a line that tells nothing of it
  pub another_line : (at : ℕ) (old new : LockState) (line : Line) → ((instance : ℕ) (seen : LockSeen) → seen_by instance client mode seen line ≡ seen) → new.generation ≡ old.generation → count_by holds_so new.holders ≡ count_by holds_so old.holders → TellsOf at old new (line ∷ [])
  another_line at old new line silent generation holds = record {
    own = λ instance nodes next is. silent instance (seen_so nodes next old) ∙ (tells_nothing at old new generation holds).own instance nodes next is;
    apart = λ instance seen other. silent instance seen;
  }
