-- What a sweep does to the generations of locks, arm by arm of its table.
use Rattle.std.proofs.Common.{◌≡◌, ◌≢◌, ℕ, ◌+◌, ◌<◌, ◌≤◌, List, [], ◌∷◌, ◌++◌, Bool, true, false, cond, Less, Equal, Greater, Option, Some, None, refl, sym, ap, subst, ◌∙◌, inl, inr, arith}
use Rattle.std.specs.Prelude.{◌⊎◌, ◌||◌, ◌==◌, map, filter, fold, unwrap_or, if◌then◌else◌}
use Rattle.std.specs.Option.{option_map_or}
use Rattle.std.specs.List.{AllByRecursion}
use Rattle.std.specs.List.Sorted.{IsStrictlySortedBy}
use Rattle.std.specs.Map.{keys_of, lookup}
use Rattle.std.specs.BTreeMap.{is_at, insert_entry}
use Rattle.std.specs.Ordering.{nat_cmp, match_ordering}
use Rattle.std.specs.Cmp.{nat_cmp_total, tied_itself}
use Rattle.std.specs.Cmp.Lexicographic.{slice_cmp}
use Rattle.std.proofs.lemmas.Bool.{eqb-true}
use Rattle.std.proofs.lemmas.Bool.Decides.{nat_tests}
use Rattle.collections.proofs.Keys.{at_itself, apart}
use Rattle.collections.proofs.OneKey.{lookup_put, lookup_put_apart}
use Rattle.node_core.specs.declared.nodes.Node.{Node}
use Rattle.node_core.specs.declared.views.Mod.{Mod}
use Rattle.node_core.specs.declared.views.Mod.TheVariants.{Put, Gone}
use Rattle.node_core.specs.Nodes.{Nodes, get_node, changed, with_parent}
use Rattle.rows_cell.specs.declared.tables.Rows.{Rows}
use Rattle.rows_cell.specs.declared.tables.Edit.TheVariants.{NextInstance, RemoveNode}
use Rattle.rows_cell.specs.Rows.{stored_node, changed_rows}
use Rattle.rows_cell.specs.Sound.{sound}
use Rattle.rows_cell.specs.Indexes.{locks_at}
use Rattle.rows_cell.specs.LockRows.{are_together}
use Rattle.rows_cell.proofs.SoundParts.{has_instance, parts_of}
use Rattle.lock_core.specs.State.{LockState, lock_of}
use Rattle.lock_core.specs.Turns.{lapsed, concerns, reopened}
use Rattle.lock_core.specs.Locks.{LockTable, lock_at, with_lock}
use Rattle.master_state.specs.declared.updates.LockPut.{LockPut}
use Rattle.master_parts.specs.Locks.{lock_rows}
use Rattle.master_parts.specs.declared.pending.Task.TheVariants as tasks
use Rattle.master_state.specs.State.{MasterState}
use Rattle.master_state.specs.Updates.{edit_of, with_lock_put}
use Rattle.cell_core.specs.declared.effects.Effect.{Effect}
use Rattle.master_parts.specs.NameIndex.{name_of}
use Rattle.master_state.specs.Replies.{puts_of}
use Rattle.cell_core.specs.Outcomes.{left_put}
use Rattle.master_state.specs.Lapses.{lapses_of, lapses_puts}
use Rattle.cell_core.proofs.AskedFor.{asks_only}
use Rattle.cell_core.specs.Step.{queued}
use Rattle.over_core.specs.SweepCase.{SweepCase, swept_by, swept_edits}
use Rattle.over_core.specs.SweepCase.SweepCase.{Quiet, Recovers, Expires, Tidies, Spared, Tidied, AnswersBeat, TurnedAway, StartedAgain, Started, Reopens, OfEnded, Ended, Applied, Deleted, Locked, Awaited, Left, Departed}
use Rattle.master_state.specs.Lookups.{noted}
use Rattle.over_core.specs.Kept.{IsKept, is_there}
use Rattle.world_cell.specs.Locks.{AreLegalRows, begins_in, CountsHolds}
use Rattle.world_cell.proofs.LocksRise.{RisesTo, begins, rises_same, rises_reopened, rises_lapsed}
use Rattle.world_cell.proofs.LockHolders.{begins_by_rows, legal_rows}
use Rattle.world_cell.proofs.EffectLocks.{IsGone, Raises, effect_raises}
use Rattle.world_cell.proofs.EffectInstances.{IsGiven, GivesBy, named_there, effect_gives}
use Rattle.world_cell.proofs.InstancesKept.{there_by_rows, was_given, has_left, generation_left, rows_left, begins_by, left_begin}
use Rattle.lock_core.specs.declared.partings.Parting.{Parting}
use Rattle.lock_core.specs.declared.partings.Parting.TheVariants as partings

-- ---- rows beside rows

-- the instances that are new were never given out, and the new rows of locks are legal; the generations as this tells
pub record Grows (Tells : Rows → Rows → Type 0) (old new : Rows) : Type 0 where
  pub tells : Tells old new
  pub known : (n : ℕ) → has_instance new.nodes n ≡ true → (has_instance old.nodes n ≡ true) ⊎ (old.next_instance ≤ n)
  pub given : (n : ℕ) → has_instance old.nodes n ≡ true → n < old.next_instance
  pub next : old.next_instance ≤ new.next_instance
  pub legal : AreLegalRows new

-- ---- a master beside another

-- the locks, the instances and the next instance of a master after a step
record Moves (s t : MasterState) : Type 0 where
  locks : (n : ℕ) → RisesTo (lock_at s.locks n) (lock_at t.locks n)
  nodes : (n : ℕ) → is_there t.nodes n ≡ true → (is_there s.nodes n ≡ true) ⊎ (s.next_instance ≤ n)
  next : s.next_instance ≤ t.next_instance

not_less : (a b : ℕ) → b ≡ a → a ≤ b
not_less a b h = omega (arith, h)

same_moves : (s t : MasterState) → t.nodes ≡ s.nodes → t.locks ≡ s.locks → t.next_instance ≡ s.next_instance → Moves s t
same_moves s t nodes locks next = record {
  locks = λ n. rises_same (lock_at s.locks n) (lock_at t.locks n) (ap (λ (ls : LockTable). (lock_at ls n).generation) locks) (ap (λ (ls : LockTable). (lock_at ls n).holders) locks);
  nodes = λ n there. inl (ap (λ (ns : Nodes). is_there ns n) (sym nodes) ∙ there);
  next = not_less s.next_instance t.next_instance next;
}

-- ---- locks that are put

abbrev pub RisesPut : LockTable → LockPut → Type 0
RisesPut locks put = RisesTo (lock_at locks put.instance) put.lock

not_equal : (a b : ℕ) → (a == b) ≡ false → b ≢ a
not_equal a b h e = grind (arith, nat_tests)

put_rises : (locks there : LockTable) (put : LockPut) → RisesPut locks put → ((n : ℕ) → RisesTo (lock_at locks n) (lock_at there n)) → (n : ℕ) → RisesTo (lock_at locks n) (lock_at (with_lock there put.instance put.lock) n)
put_rises locks there put own h n =
    let new : LockTable = with_lock there put.instance put.lock in
    (elim (put.instance == n) as (λ b. (put.instance == n) ≡ b → RisesTo (lock_at locks n) (lock_at new n)) [
      | true ↦ (λ c.
          let P : ℕ → Type 0 = λ i. RisesTo (lock_at locks i) (lock_at new i) in
          let Q : LockState → Type 0 = RisesTo (lock_at locks put.instance) in
          let here : lock_at new put.instance ≡ put.lock = ap (λ o. unwrap_or o (lock_of 0)) (lookup_put put.instance there put.lock) in
          let is : P put.instance = subst Q (sym here) own in
          subst P (eqb-true put.instance n c) is)
      | false ↦ (λ c.
          let Q : LockState → Type 0 = RisesTo (lock_at locks n) in
          let elsewhere : lock_at new n ≡ lock_at there n = ap (λ o. unwrap_or o (lock_of 0)) (lookup_put_apart put.instance n (not_equal put.instance n c) there put.lock) in
          subst Q (sym elsewhere) (h n))
    ]) refl

each_rises : (locks there : LockTable) (puts : List LockPut) → ((n : ℕ) → RisesTo (lock_at locks n) (lock_at there n)) → AllByRecursion (RisesPut locks) puts → (n : ℕ) → RisesTo (lock_at locks n) (lock_at (fold with_lock_put there puts) n)
each_rises locks there [] h all n = h n
each_rises locks there (put ∷ puts) h all n = each_rises locks (with_lock there put.instance put.lock) puts (put_rises locks there put all.0 h) all.1 n

put_moves : (s t : MasterState) (puts : List LockPut) → t.nodes ≡ s.nodes → t.locks ≡ fold with_lock_put s.locks puts → t.next_instance ≡ s.next_instance → AllByRecursion (RisesPut s.locks) puts → Moves s t
put_moves s t puts nodes locks next all = record {
  locks = λ n.
      let P : LockTable → Type 0 = λ ls. RisesTo (lock_at s.locks n) (lock_at ls n) in
      subst P (sym locks) (each_rises s.locks s.locks puts (λ m. rises_same (lock_at s.locks m) (lock_at s.locks m) refl refl) all n);
  nodes = λ n there. inl (ap (λ (ns : Nodes). is_there ns n) (sym nodes) ∙ there);
  next = not_less s.next_instance t.next_instance next;
}

-- of a node that is there
one_put : (locks : LockTable) (o : Option (List ℕ)) (instance : ℕ) (lock : LockState) (rest : List LockPut) → RisesTo (lock_at locks instance) lock → AllByRecursion (RisesPut locks) rest
    → AllByRecursion (RisesPut locks) (option_map_or (λ name. record { name = name; instance = instance; lock = lock } ∷ []) o [] ++ rest)
one_put locks None instance lock rest own all = all
one_put locks (Some name) instance lock rest own all = (own, all)

only_put : (locks : LockTable) (o : Option (List ℕ)) (instance : ℕ) (lock : LockState) → RisesTo (lock_at locks instance) lock
    → AllByRecursion (RisesPut locks) (option_map_or (λ name. record { name = name; instance = instance; lock = lock } ∷ []) o [])
only_put locks None instance lock own = tt
only_put locks (Some name) instance lock own = (own, tt)

-- ---- locks of a session that ends

less_apart : (a b : ℕ) → nat_cmp a b ≡ Less → b ≢ a
less_apart a b h e =
    let P : ℕ → Type 0 = λ y. nat_cmp a y ≡ Less in
    let less : P a = subst P e h in
    let same = tied_itself nat_cmp_total a in
    absurd cc

found_behind : (e : ℕ × LockState) (es rest : LockTable) → AllByRecursion (λ y. nat_cmp e.0 y ≡ Less) (keys_of rest) → AllByRecursion (λ x. lookup (is_at (nat_cmp x.0)) es ≡ Some x.1) rest → AllByRecursion (λ x. lookup (is_at (nat_cmp x.0)) (e ∷ es) ≡ Some x.1) rest
found_behind e es [] less all = tt
found_behind e es (x ∷ xs) less all = (rw (apart x.0 e.0 (less_apart e.0 x.0 less.0)) all.0, found_behind e es xs less.1 all.1)

each_found : (es : LockTable) → IsStrictlySortedBy nat_cmp (keys_of es) → AllByRecursion (λ x. lookup (is_at (nat_cmp x.0)) es ≡ Some x.1) es
unfolding IsStrictlySortedBy
each_found [] sorted = tt
each_found (e ∷ es) sorted = (rw (at_itself e.0) refl, found_behind e es es sorted.0 (each_found es sorted.1))

module _ (s : MasterState) (parting : Parting) (client : ℕ) where
  entries_rise : (es : LockTable) → AllByRecursion (λ x. lookup (is_at (nat_cmp x.0)) s.locks ≡ Some x.1) es
      → AllByRecursion (RisesPut s.locks) (lapses_puts s (map (λ entry. lapsed parting entry.0 entry.1 client s.clock) (filter (λ entry. concerns client entry.1) es)))
  entries_rise [] all = tt
  entries_rise (e ∷ es) all =
      let others : LockTable = filter (λ entry. concerns client entry.1) es in
      let rest = entries_rise es all.1 in
      (elim (concerns client e.1) as (λ b. AllByRecursion (RisesPut s.locks) (lapses_puts s (map (λ entry. lapsed parting entry.0 entry.1 client s.clock) (cond b (e ∷ others) others)))) [
        | true ↦
            let lock : LockState = (lapsed parting e.0 e.1 client s.clock).turn.lock in
            let P : LockState → Type 0 = λ old. RisesTo old lock in
            let here : lock_at s.locks e.0 ≡ e.1 = ap (λ o. unwrap_or o (lock_of 0)) all.0 in
            one_put s.locks (name_of s.nodes e.0) e.0 lock (lapses_puts s (map (λ entry. lapsed parting entry.0 entry.1 client s.clock) others)) (subst P (sym here) (rises_lapsed parting e.0 e.1 client s.clock)) rest
        | false ↦ rest
      ])

  lapses_rise : IsStrictlySortedBy nat_cmp (keys_of s.locks) → AllByRecursion (RisesPut s.locks) (lapses_puts s (lapses_of parting s client))
  lapses_rise sorted = entries_rise s.locks (each_found s.locks sorted)

-- ---- a node that is put

put_known : (nodes : Nodes) (name : List ℕ) (view : Node) (n : ℕ) → is_there (insert_entry (slice_cmp nat_cmp) nodes name view) n ≡ true → (is_there nodes n ≡ true) ⊎ ((view.instance == n) ≡ true)
put_known [] name view n h =
    (elim (view.instance == n) as (λ b. (b || false) ≡ true → (false ≡ true) ⊎ (b ≡ true)) [ true ↦ (λ k. inr refl) | false ↦ (λ k. inl k) ]) h
put_known (e ∷ es) name view n h =
    let own : Bool = e.1.instance == n in
    let new : Bool = view.instance == n in
    (elim (slice_cmp nat_cmp name e.0) as (λ o. is_there (match_ordering o ((name, view) ∷ e ∷ es) ((e.0, view) ∷ es) (e ∷ insert_entry (slice_cmp nat_cmp) es name view)) n ≡ true → ((own || is_there es n) ≡ true) ⊎ (new ≡ true)) [
      | Less ↦ (λ k. first new (own || is_there es n) k)
      | Equal ↦ (λ k. second new own (is_there es n) k)
      | Greater ↦ (λ k. third own new (is_there (insert_entry (slice_cmp nat_cmp) es name view) n) (is_there es n) k (λ l. put_known es name view n l))
    ]) h
  where
    first : (a b : Bool) → (a || b) ≡ true → (b ≡ true) ⊎ (a ≡ true)
    first true b k = inr refl
    first false b k = inl k

    second : (a b c : Bool) → (a || c) ≡ true → ((b || c) ≡ true) ⊎ (a ≡ true)
    second true b c k = inr refl
    second false true c k = inl refl
    second false false c k = inl k

    third : (a b c d : Bool) → (a || c) ≡ true → (c ≡ true → (d ≡ true) ⊎ (b ≡ true)) → ((a || d) ≡ true) ⊎ (b ≡ true)
    third true b c d k f = inl refl
    third false b c d k f = f k

given_now : (s : MasterState) (name : List ℕ) (view : Node) (n : ℕ) → IsGiven s (Put name view) → (is_there s.nodes n ≡ true) ⊎ ((view.instance == n) ≡ true) → (is_there s.nodes n ≡ true) ⊎ (s.next_instance ≤ n)
given_now s name view n given (inl there) = inl there
given_now s name view n (inl at) (inr is) =
    let P : ℕ → Type 0 = λ i. is_there s.nodes i ≡ true in
    inl (subst P (eqb-true view.instance n is) (named_there s.nodes name view.instance (get_node s.nodes name) refl at))
given_now s name view n (inr new) (inr is) =
    let P : ℕ → Type 0 = λ i. s.next_instance ≤ i in
    inr (subst P (eqb-true view.instance n is) new)

-- ---- the rows of both

module _ (cell : List ℕ) (old new : Rows) (s t : MasterState) (k : IsKept cell old s) (l : IsKept cell new t) where
  begins_same : (n : ℕ) → begins_in old new n ≡ begins (lock_at s.locks n) (lock_at t.locks n)
  begins_same n =
      ap (λ rows. begins_by rows (locks_at new.locks n)) (k.locks.rows_of_locks n)
      ∙ ap (λ rows. begins_by (lock_rows n (lock_at s.locks n)) rows) (l.locks.rows_of_locks n)
      ∙ begins_by_rows n (lock_at s.locks n) (lock_at t.locks n)

  legal_behind : AreLegalRows new
  legal_behind n = ap are_together (l.locks.rows_of_locks n) ∙ legal_rows n (lock_at t.locks n) (l.locks.each n).legal

  moved_counts : Moves s t → CountsHolds old new
  moved_counts m n before behind was is =
      l.locks.generations n behind is ∙ m.locks n
      ∙ ap (λ (b : Bool). (lock_at s.locks n).generation + (if b then 1 else 0)) (sym (begins_same n))
      ∙ ap (λ g. g + (if begins_in old new n then 1 else 0)) (sym (k.locks.generations n before was))

  there_old : (n : ℕ) → is_there s.nodes n ≡ has_instance old.nodes n
  there_old n = ap (λ (ns : Nodes). is_there ns n) k.nodes ∙ there_by_rows old.nodes n

  there_new : (n : ℕ) → is_there t.nodes n ≡ has_instance new.nodes n
  there_new n = ap (λ (ns : Nodes). is_there ns n) l.nodes ∙ there_by_rows new.nodes n

  known_by : (n : ℕ) → (is_there s.nodes n ≡ true) ⊎ (s.next_instance ≤ n) → (has_instance old.nodes n ≡ true) ⊎ (old.next_instance ≤ n)
  known_by n (inl there) = inl (sym (there_old n) ∙ there)
  known_by n (inr above) = let P : ℕ → Type 0 = λ next. next ≤ n in inr (subst P k.next_instance above)

  moved_grows : Moves s t → Grows CountsHolds old new
  moved_grows m = record {
    tells = moved_counts m;
    known = λ n has. known_by n (m.nodes n (there_new n ∙ has));
    given = λ n has. was_given cell old.next_instance old.nodes old.nodes n (parts_of cell old k.sound_rows).nodes has;
    next = let a = m.next in let b = k.next_instance in let c = l.next_instance in omega arith;
    legal = legal_behind;
  }

-- ---- the map changes

plus_none : (n : ℕ) (b : Bool) → b ≡ false → n ≡ n + (if b then 1 else 0)
plus_none n true h = absurd cc
plus_none n false h = omega arith

same_some : (a b : ℕ) → ◌≡◌ {A = Option ℕ} (Some a) (Some b) → a ≡ b
same_some a b h = cc

gone_grows : (cell : List ℕ) (rows : Rows) (name : List ℕ) (next : ℕ) → sound cell rows ≡ true → rows.next_instance ≤ next → AreLegalRows (changed_rows rows (RemoveNode name ∷ NextInstance next ∷ [])) → Grows CountsHolds rows (changed_rows rows (RemoveNode name ∷ NextInstance next ∷ []))
gone_grows cell rows name next h more legal =
    let p = parts_of cell rows h in
    let at : List ℕ → Bool = is_at (slice_cmp nat_cmp name) in
    let new : Rows = changed_rows rows (RemoveNode name ∷ NextInstance next ∷ []) in
    record {
      tells = λ n before behind was is.
          let same : behind ≡ before = same_some behind before (sym (generation_left at rows.nodes n behind p.distinct is) ∙ was) in
          same ∙ plus_none before (begins_in rows new n) (left_begin (locks_at rows.locks n) (locks_at new.locks n) (rows_left (stored_node rows.nodes name) rows.locks n));
      known = λ n has. inl (has_left at rows.nodes n has);
      given = λ n has. was_given cell rows.next_instance rows.nodes rows.nodes n p.nodes has;
      next = more;
      legal = legal;
    }

module _ (cell : List ℕ) (rows : Rows) (s t : MasterState) (k : IsKept cell rows s) where
  not_fewer : (next : ℕ) → s.next_instance ≤ next → rows.next_instance ≤ next
  not_fewer next h = let P : ℕ → Type 0 = λ m. m ≤ next in subst P k.next_instance h

  removed_grows : (name : List ℕ) (next : ℕ) → s.next_instance ≤ next → IsKept cell (changed_rows rows (RemoveNode name ∷ NextInstance next ∷ [])) t → Grows CountsHolds rows (changed_rows rows (RemoveNode name ∷ NextInstance next ∷ []))
  removed_grows name next more l =
      gone_grows cell rows name next k.sound_rows (not_fewer next more) (legal_behind cell rows (changed_rows rows (RemoveNode name ∷ NextInstance next ∷ [])) s t k l)

  -- a change that leaves the locks
  changed_grows : (change : Mod) (next : ℕ) → IsGiven s change → s.next_instance ≤ next → t.nodes ≡ changed s.nodes change → t.locks ≡ s.locks → t.next_instance ≡ next → IsKept cell (changed_rows rows (edit_of change ∷ NextInstance next ∷ [])) t → Grows CountsHolds rows (changed_rows rows (edit_of change ∷ NextInstance next ∷ []))
  changed_grows (Gone name) next given more nodes locks is l = removed_grows name next more l
  changed_grows (Put name view) next given more nodes locks is l =
      moved_grows cell rows (changed_rows rows (edit_of (Put name view) ∷ NextInstance next ∷ [])) s t k l (record {
        locks = λ n. rises_same (lock_at s.locks n) (lock_at t.locks n) (ap (λ (ls : LockTable). (lock_at ls n).generation) locks) (ap (λ (ls : LockTable). (lock_at ls n).holders) locks);
        nodes = λ n there. given_now s name view n given (put_known s.nodes name view n (ap (λ (ns : Nodes). is_there ns n) (sym nodes) ∙ there));
        next = let P : ℕ → Type 0 = λ m. s.next_instance ≤ m in subst P (sym is) more;
      })

  -- one by which a node goes
  deleted_grows : (change : Mod) (next : ℕ) → IsGone change → s.next_instance ≤ next → IsKept cell (changed_rows rows (edit_of change ∷ NextInstance next ∷ [])) t → Grows CountsHolds rows (changed_rows rows (edit_of change ∷ NextInstance next ∷ []))
  deleted_grows (Put name view) next gone more l = absurd gone
  deleted_grows (Gone name) next gone more l = removed_grows name next more l

-- ---- a sweep

module _ (cell : List ℕ) (rows : Rows) (s : MasterState) (k : IsKept cell rows s) where
  abbrev IsGrown : SweepCase s → Type 0
  IsGrown c = IsKept cell (changed_rows rows (swept_edits s c)) (swept_by s c).0 → Grows CountsHolds rows (changed_rows rows (swept_edits s c))

  same_grown : (c : SweepCase s) → (swept_by s c).0.nodes ≡ s.nodes → (swept_by s c).0.locks ≡ s.locks → (swept_by s c).0.next_instance ≡ s.next_instance → IsGrown c
  same_grown c nodes locks next l =
      moved_grows cell rows (changed_rows rows (swept_edits s c)) s (swept_by s c).0 k l (same_moves s (swept_by s c).0 nodes locks next)

  put_grown : (c : SweepCase s) (puts : List LockPut) → (swept_by s c).0.nodes ≡ s.nodes → (swept_by s c).0.locks ≡ fold with_lock_put s.locks puts → (swept_by s c).0.next_instance ≡ s.next_instance → AllByRecursion (RisesPut s.locks) puts → IsGrown c
  put_grown c puts nodes locks next all l =
      moved_grows cell rows (changed_rows rows (swept_edits s c)) s (swept_by s c).0 k l (put_moves s (swept_by s c).0 puts nodes locks next all)

  pub case_grows : (c : SweepCase s) → IsGrown c
  case_grows (Quiet none) l = same_grown (Quiet none) refl refl refl l
  case_grows (Recovers recovering heard) l = same_grown (Recovers recovering heard) refl refl refl l
  case_grows (Expires client session due) l = put_grown (Expires client session due) (lapses_puts s (lapses_of partings.Expiry s client)) refl refl refl (lapses_rise s partings.Expiry client k.locks.in_order) l
  case_grows (Departed front back asked call sequencer session turn work leave found live) l =
      put_grown (Departed front back asked call sequencer session turn work leave found live) (lapses_puts s (lapses_of partings.Leave s asked.client)) refl refl refl (lapses_rise s partings.Leave asked.client k.locks.in_order) l
  case_grows (Reopens instance due) l =
      put_grown (Reopens instance due) (puts_of s instance (reopened (lock_at s.locks instance)).lock) refl refl refl
      (only_put s.locks (name_of s.nodes instance) instance (reopened (lock_at s.locks instance)).lock (rises_reopened (lock_at s.locks instance))) l
  case_grows (Tidies idle due) l =
      let only = asks_only (with_parent idle.name) (queued s (with_parent idle.name) (tasks.Tidies idle)) in
      same_grown (Tidies idle due) (ap (λ (t : MasterState). t.nodes) only) (ap (λ (t : MasterState). t.locks) only) (ap (λ (t : MasterState). t.next_instance) only) l
  case_grows (Spared front back idle turn held) l = same_grown (Spared front back idle turn held) refl refl refl l
  case_grows (Tidied front back idle turn still) l = deleted_grows cell rows s (swept_by s (Tidied front back idle turn still)).0 k (Gone idle.name) s.next_instance tt (not_less s.next_instance s.next_instance refl) l
  case_grows (AnswersBeat client session beat due) l = same_grown (AnswersBeat client session beat due) refl refl refl l
  case_grows (TurnedAway front back asked principal received turn work may) l = same_grown (TurnedAway front back asked principal received turn work may) refl refl refl l
  case_grows (StartedAgain front back asked principal received session turn work found live) l = same_grown (StartedAgain front back asked principal received session turn work found live) refl refl refl l
  case_grows (Started front back asked principal received turn work none) l = same_grown (Started front back asked principal received turn work none) refl refl refl l
  case_grows (OfEnded front back asked call sequencer turn work gone) l = same_grown (OfEnded front back asked call sequencer turn work gone) refl refl refl l
  case_grows (Ended front back asked call sequencer None answer turn work stays live made) l = same_grown (Ended front back asked call sequencer None answer turn work stays live made) refl refl refl l
  case_grows (Ended front back asked call sequencer (Some note) answer turn work stays live made) l = same_grown (Ended front back asked call sequencer (Some note) answer turn work stays live made) refl refl refl l
  case_grows (Applied front back asked call sequencer None change answer turn work stays live made) l =
      let P : Effect → Type 0 = GivesBy s in
      let gives = subst P made (effect_gives s asked.client asked.number call sequencer) in
      changed_grows cell rows s (swept_by s (Applied front back asked call sequencer None change answer turn work stays live made)).0 k change.change change.next_instance gives.given gives.next refl refl refl l
  case_grows (Applied front back asked call sequencer (Some note) change answer turn work stays live made) l =
      let P : Effect → Type 0 = GivesBy s in
      let gives = subst P made (effect_gives s asked.client asked.number call sequencer) in
      changed_grows cell rows s (swept_by s (Applied front back asked call sequencer (Some note) change answer turn work stays live made)).0 k change.change change.next_instance gives.given gives.next refl refl refl l
  case_grows (Deleted front back asked call sequencer change instance waiters answer turn work stays live made) l =
      let P : Effect → Type 0 = GivesBy s in
      let Q : Effect → Type 0 = Raises s in
      let gives = subst P made (effect_gives s asked.client asked.number call sequencer) in
      let gone = subst Q made (effect_raises s asked.client asked.number call sequencer) in
      deleted_grows cell rows s (swept_by s (Deleted front back asked call sequencer change instance waiters answer turn work stays live made)).0 k change.change change.next_instance gone gives.next l
  case_grows (Locked front back asked call sequencer put claim answer turn work stays live made) l =
      let Q : Effect → Type 0 = Raises s in
      let rises = subst Q made (effect_raises s asked.client asked.number call sequencer) in
      put_grown (Locked front back asked call sequencer put claim answer turn work stays live made) (put ∷ []) refl refl refl (rises, tt) l
  case_grows (Awaited front back asked call sequencer put turn work stays live made) l =
      let Q : Effect → Type 0 = Raises s in
      let rises = subst Q made (effect_raises s asked.client asked.number call sequencer) in
      put_grown (Awaited front back asked call sequencer put turn work stays live made) (put ∷ []) refl refl refl (rises, tt) l
  case_grows (Left front back asked call sequencer None leave answer turn work stays live made) l =
      let Q : Effect → Type 0 = Raises s in
      let rises = subst Q made (effect_raises s asked.client asked.number call sequencer) in
      put_grown (Left front back asked call sequencer None leave answer turn work stays live made) (left_put leave ∷ []) refl refl refl (rises, tt) l
  case_grows (Left front back asked call sequencer (Some note) leave answer turn work stays live made) l =
      let Q : Effect → Type 0 = Raises s in
      let rises = subst Q made (effect_raises s asked.client asked.number call sequencer) in
      put_grown (Left front back asked call sequencer (Some note) leave answer turn work stays live made) (left_put leave ∷ []) refl refl refl (rises, tt) l

-- ---- the moment is noted

-- a master that was told the moment stands beside its rows too
pub noted_kept : (cell : List ℕ) (rows : Rows) (s : MasterState) (now : ℕ) → IsKept cell rows s → IsKept cell rows (noted s now)
noted_kept cell rows s now k = record {
  name = k.name;
  secret = k.secret;
  epoch = k.epoch;
  next_instance = k.next_instance;
  ended_below = k.ended_below;
  nodes = k.nodes;
  sessions = k.sessions;
  sound_rows = k.sound_rows;
  waiting = k.waiting;
  locks = record { generations = k.locks.generations; rows_of_locks = k.locks.rows_of_locks; in_order = k.locks.in_order; each = k.locks.each };
  one_call = k.one_call;
  names_in_order = k.names_in_order;
  sessions_in_order = k.sessions_in_order;
  locks_in_order = k.locks_in_order;
  recovery_is_empty = k.recovery_is_empty;
  by_beats = k.by_beats;
  recorded = k.recorded;
  issued = k.issued;
  owned = k.owned;
  orderly = k.orderly;
  touching = k.touching;
  own = k.own;
}
