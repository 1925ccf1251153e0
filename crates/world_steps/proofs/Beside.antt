-- Records over lists that refuse one commit: what they keep beside the rows that stand.
use Rattle.std.proofs.Common.{◌≡◌, ℕ, ◌+◌, Bool, true, false, List, [], ◌∷◌, ◌++◌, Option, Some, None, Result, Ok, Err, inl, inr, arith, refl, sym, ap, ◌∙◌, subst}
use Rattle.std.proofs.lemmas.Bool.Decides.{nat_tests}
use Rattle.std.specs.Prelude.{◌⊎◌, ◌==◌, ◌-◌, ◌||◌, ◌&&◌, length, is_some, if◌then◌else◌}
use Rattle.node_core.specs.Limits.{number_limit}
use Rattle.node_core.specs.declared.refusals.Fault.{Fault}
use Rattle.node_core.specs.declared.refusals.Fault.TheVariants as faults
use Rattle.rows_cell.specs.declared.tables.Rows.{Rows}
use Rattle.rows_cell.specs.declared.tables.Edit.{Edit}
use Rattle.rows_cell.specs.Rows.{changed_rows}
use Rattle.rows_cell.specs.Stores.{Store, IsCommitted, IsRefused, Commits, MayLeave, MayRefuse, StoreRefuses, MayNotRead, Loads}
use Rattle.world_steps.specs.Crash.{left_at, LeavesOne, CrashState, left_beside, with_more, kept_beside, IsOfLists, IsSame, IsBeside, AreBeside, IsChanged, MayChange, KeepsOther}

-- ---- lists

store_by : (old new : Store) → new.cell ≡ old.cell → new.rows ≡ old.rows → new.may_leave ≡ old.may_leave → new.refusals ≡ old.refusals → new.doubt ≡ old.doubt → new ≡ old
store_by old new c r l n d =
    let made : List ℕ → Rows → List Rows → ℕ → ℕ → Store = λ cell rows leave count doubt. record { cell = cell; rows = rows; may_leave = leave; refusals = count; doubt = doubt } in
    ap (λ x. made x new.rows new.may_leave new.refusals new.doubt) c
    ∙ ap (λ x. made old.cell x new.may_leave new.refusals new.doubt) r
    ∙ ap (λ x. made old.cell old.rows x new.refusals new.doubt) l
    ∙ ap (λ x. made old.cell old.rows old.may_leave x new.doubt) n
    ∙ ap (λ x. made old.cell old.rows old.may_leave old.refusals x) d

-- lists are their cell and their rows
lists_by : (old new : Store) → IsOfLists old → IsOfLists new → new.cell ≡ old.cell → new.rows ≡ old.rows → new ≡ old
lists_by old new h k cell rows =
    store_by old new cell rows (k.left ∙ ap (λ (r : Rows). r ∷ []) rows ∙ sym h.left) (k.none ∙ sym h.none) (k.sure ∙ sym h.sure)

-- ---- they are read

why_unread : (fault : Fault) (old new : Store) (more : List Rows) (count : ℕ) → IsOfLists old → IsOfLists new → MayNotRead fault old new → MayNotRead fault (with_more old more count) (with_more new more count)
why_unread faults.StoreDamaged old new more count h k why = (why.0, refl)
why_unread faults.NoMemory old new more count h k why = refl
why_unread faults.Exhausted old new more count h k why =
    let at : old.refusals ≡ number_limit = why.0 in
    let none : old.refusals ≡ 0 = h.none in
    absurd (omega (arith, at, none))
why_unread faults.StoreRefused old new more count h k why =
    let one : new.refusals ≡ old.refusals + 1 = why in
    let none : new.refusals ≡ 0 = k.none in
    absurd (omega (arith, one, none))
why_unread _ old new more count h k why = absurd why

pub loads_beside : (old new : Store) (more : List Rows) (count : ℕ) (r : Result Rows Fault) → IsOfLists old → IsOfLists new → Loads old new r → Loads (with_more old more count) (with_more new more count) r
loads_beside old new more count (Ok rows) h k loads =
    (loads.0, loads.1, record { cell = loads.2.cell; counted = refl; doubted = loads.2.doubted; same = λ none. ap (λ (s : Store). with_more s more count) (loads.2.same none) })
loads_beside old new more count (Err fault) h k loads = record {
  cell = loads.cell;
  rows = loads.rows;
  leave = ap (λ (l : List Rows). l ++ more) loads.leave;
  doubted = loads.doubted;
  why = why_unread fault old new more count h k loads.why;
}

-- and stay as they were
loads_same : (old new : Store) (r : Result Rows Fault) → IsOfLists old → IsOfLists new → Loads old new r → new ≡ old
loads_same old new (Ok rows) h k loads = loads.2.same k.sure
loads_same old new (Err fault) h k loads = lists_by old new h k loads.cell loads.rows

pub read_beside : (old : CrashState) (new : Store) (r : Result Rows Fault) → AreBeside old → IsOfLists new → Loads old.lists new r → AreBeside (record old { lists = new })
read_beside old new r h k loads =
    let same : new ≡ old.lists = loads_same old.lists new r h.lists k loads in
    subst (λ (s : Store). AreBeside (record old { lists = s })) (sym same) h

-- ---- a change of lists

-- the same lists may make it
pub may_same : (edits : List Edit) (lists : Store) (same : Option Store) → IsSame lists same → MayChange edits (Some lists) → MayChange edits same
may_same edits lists None is may = tt
may_same edits lists (Some store) is may = subst (λ (s : Store). MayChange edits (Some s)) (sym is) may

-- what it leaves is of the same cell
pub changed_beside : (edits : List Edit) (lists : Store) (same other : Option Store) → IsSame lists same → IsChanged edits same other → IsBeside lists other
changed_beside edits lists same None is changed = tt
changed_beside edits lists None (Some new) is changed = absurd changed
changed_beside edits lists (Some old) (Some new) is changed = (changed.0, changed.1 ∙ ap (λ (s : Store). s.cell) is)

-- and are its rows
changed_left : (edits : List Edit) (lists : Store) (same other : Option Store) → IsSame lists same → IsChanged edits same other → (left_beside other ≡ []) ⊎ (left_beside other ≡ changed_rows lists.rows edits ∷ [])
changed_left edits lists same None is changed = inl refl
changed_left edits lists None (Some new) is changed = absurd changed
changed_left edits lists (Some old) (Some new) is changed =
    inr (ap (λ (r : Rows). r ∷ []) (changed.2 ∙ ap (λ (s : Store). changed_rows s.rows edits) is))

-- where those that stand make it too, the same stand
pub changed_same : (edits : List Edit) (lists new : Store) (same other : Option Store) → IsOfLists new → IsSame lists same → IsChanged edits same other → IsCommitted edits lists new → IsSame new other
changed_same edits lists new same None k is changed done = tt
changed_same edits lists new None (Some store) k is changed done = absurd changed
changed_same edits lists new (Some old) (Some store) k is changed done =
    lists_by new store k changed.0 (changed.1 ∙ ap (λ (s : Store). s.cell) is ∙ sym done.cell) (changed.2 ∙ ap (λ (s : Store). changed_rows s.rows edits) is ∙ sym done.rows)

-- ---- the refused commit

no_more : (leave : List Rows) → leave ++ [] ≡ leave
no_more [] = refl
no_more (rows ∷ others) = ap (λ (l : List Rows). rows ∷ l) (no_more others)

-- what was kept beside before, or the rows of the refused commit
kept_more : (edits : List Edit) (lists : Store) (same : Option Store) (refused : Option Store) (old new : CrashState) → old.lists ≡ lists → IsSame lists same → IsChanged edits same refused → KeepsOther refused old new
    → ((kept_beside new).may_leave ≡ (kept_beside old).may_leave) ⊎ ((kept_beside new).may_leave ≡ (kept_beside old).may_leave ++ changed_rows lists.rows edits ∷ [])
kept_more edits lists same refused old new at is changed (inl stays) = inl (ap (λ (c : CrashState). (kept_beside c).may_leave) stays)
kept_more edits lists same refused old new at is changed (inr keeps) =
    let leave : List Rows = old.lists.may_leave in
    let now : (kept_beside new).may_leave ≡ leave ++ left_beside refused = ap (λ (c : CrashState). (kept_beside c).may_leave) keeps.1 in
    let before : (kept_beside old).may_leave ≡ leave = ap (λ (o : Option Store). leave ++ left_beside o) keeps.0 ∙ no_more leave in
    elim (changed_left edits lists same refused is changed) [
      | inl none ↦ inl (now ∙ ap (λ (l : List Rows). leave ++ l) none ∙ no_more leave ∙ sym before)
      | inr some ↦ inr (now ∙ ap (λ (l : List Rows). leave ++ l) some ∙ ap (λ (l : List Rows). l ++ changed_rows lists.rows edits ∷ []) (sym before))
    ]

-- what is left after a refusal with an edit
may_leave_more : (edits : List Edit) (rows : Rows) (old new : List Rows) → (length edits == 0) ≡ false → (new ≡ old) ⊎ (new ≡ old ++ changed_rows rows edits ∷ []) → MayLeave edits rows old new
may_leave_more [] rows old new some h = cc
may_leave_more (edit ∷ edits) rows old new some h = h

why_refused : (edits : List Edit) (before after : ℕ) → (length edits == 0) ≡ false → after ≡ before + 1 → MayRefuse edits faults.StoreRefused before after
why_refused [] before after some h = cc
why_refused (edit ∷ edits) before after some h = h

-- from the state of before, by that without the same lists and with the refusal counted
pub refused_beside : (edits : List Edit) (old new : CrashState) (refused : Option Store) → (length edits == 0) ≡ false → IsSame old.lists old.same → IsChanged edits old.same refused → KeepsOther refused (record old { same = None; left = 0; refusals = old.refusals + 1 }) new → IsRefused faults.StoreRefused edits (kept_beside old) (kept_beside new)
refused_beside edits old new refused some is changed keeps =
    let mid : CrashState = record old { same = None; left = 0; refusals = old.refusals + 1 } in
    let lists : new.lists ≡ old.lists = elim keeps [
      | inl stays ↦ ap (λ (c : CrashState). c.lists) stays
      | inr kept ↦ ap (λ (c : CrashState). c.lists) kept.1
    ] in
    let counted : new.refusals ≡ old.refusals + 1 = elim keeps [
      | inl stays ↦ ap (λ (c : CrashState). c.refusals) stays
      | inr kept ↦ ap (λ (c : CrashState). c.refusals) kept.1
    ] in
    let doubt : new.lists.doubt ≡ old.lists.doubt = ap (λ (s : Store). s.doubt) lists in
    record {
      cell = ap (λ (s : Store). s.cell) lists;
      rows = ap (λ (s : Store). s.rows) lists;
      leave = may_leave_more edits old.lists.rows (kept_beside old).may_leave (kept_beside new).may_leave some (kept_more edits old.lists old.same refused mid new refl is changed keeps);
      why = why_refused edits old.refusals new.refusals some counted;
      doubted = omega (arith, doubt);
    }

-- ---- any other commit

why_want : (fault : Fault) (old new : Store) (count : ℕ) → IsOfLists old → IsOfLists new → StoreRefuses fault old.refusals new.refusals → StoreRefuses fault count count
why_want faults.NoMemory old new count h k why = refl
why_want faults.Exhausted old new count h k why =
    let at : old.refusals ≡ number_limit = why.0 in
    let none : old.refusals ≡ 0 = h.none in
    absurd (omega (arith, at, none))
why_want faults.StoreRefused old new count h k why =
    let one : new.refusals ≡ old.refusals + 1 = why in
    let none : new.refusals ≡ 0 = k.none in
    absurd (omega (arith, one, none))
why_want _ old new count h k why = absurd why

stands_by : (edits : List Edit) (old new : Store) (more : List Rows) (count : ℕ) → (length edits == 0) ≡ false → IsCommitted edits old new → IsCommitted edits (with_more old more count) (with_more new [] count)
stands_by [] old new more count some done = cc
stands_by (edit ∷ edits) old new more count some done =
    record { cell = done.cell; rows = done.rows; leave = no_more new.may_leave ∙ done.leave; counted = refl; doubted = done.doubted }

want_by : (edits : List Edit) (fault : Fault) (old new : Store) (more : List Rows) (count : ℕ) → (length edits == 0) ≡ false → IsOfLists old → IsOfLists new → IsRefused fault edits old new → IsRefused fault edits (with_more old more count) (with_more new more count)
want_by [] fault old new more count some h k refused = cc
want_by (edit ∷ edits) fault old new more count some h k refused =
    let same : new ≡ old = lists_by old new h k refused.cell refused.rows in
    record {
      cell = refused.cell;
      rows = refused.rows;
      leave = inl (ap (λ (s : Store). s.may_leave ++ more) same);
      why = why_want fault old new count h k refused.why;
      doubted = refused.doubted;
    }

-- what became of what was kept beside
abbrev pub left_then : {X : Type 0} → Result X Fault → Option Store → Option Store
left_then (Ok x) other = None
left_then (Err fault) other = other

pub commits_beside : {X : Type 0} (edits : List Edit) (old new : Store) (other : Option Store) (count : ℕ) (r : Result X Fault) → (length edits == 0) ≡ false → IsOfLists old → IsOfLists new → Commits edits old new r
    → Commits edits (with_more old (left_beside other) count) (with_more new (left_beside (left_then r other)) count) r
commits_beside edits old new other count (Ok x) some h k done = stands_by edits old new (left_beside other) count some done
commits_beside edits old new other count (Err fault) some h k done = want_by edits fault old new (left_beside other) count some h k done

-- ---- which rows a crash leaves

one_of : (first : Rows) (one two : Bool) → (one || (two && false)) ≡ is_some (if one then Some first else None)
one_of first true two = refl
one_of first false true = refl
one_of first false false = refl

more_of : (first second : Rows) (one two next : Bool) → next ≡ two → (one || (two && true)) ≡ is_some (if one then Some first else (if next then Some second else None))
more_of first second true two next is = refl
more_of first second false true next is = subst (λ (b : Bool). true ≡ is_some (if b then Some second else None)) (sym is) refl
more_of first second false false next is = subst (λ (b : Bool). false ≡ is_some (if b then Some second else None)) (sym is) refl

second_number : (number : ℕ) → (number - 1 == 1) ≡ (number == 2)
second_number number = grind (arith, nat_tests)

two_of : (first : Rows) (other : Option Store) (number : ℕ) → ((number == 1) || ((number == 2) && is_some other)) ≡ is_some (left_at (first ∷ left_beside other) number)
two_of first None number = one_of first (number == 1) (number == 2)
two_of first (Some store) number = more_of first store.rows (number == 1) (number == 2) (number - 1 == 1) (second_number number)

-- of one or two
pub two_left : (lists : Store) (other : Option Store) (number : ℕ) → lists.may_leave ≡ lists.rows ∷ [] → ((number == 1) || ((number == 2) && is_some other)) ≡ is_some (left_at (lists.may_leave ++ left_beside other) number)
two_left lists other number one =
    subst (λ (l : List Rows). ((number == 1) || ((number == 2) && is_some other)) ≡ is_some (left_at (l ++ left_beside other) number)) (sym one) (two_of lists.rows other number)

first_of : (one two : Bool) (other : Option Store) → (one || (two && is_some other)) ≡ true → (other ≡ None) ⊎ (two ≡ false) → one ≡ true
first_of true two other may which = refl
first_of false true None may which = may
first_of false true (Some store) may (inl none) = cc
first_of false true (Some store) may (inr two) = cc
first_of false false other may which = may

second_of : (first second : Rows) (one next : Bool) → one ≡ false → next ≡ true → (if one then Some first else (if next then Some second else None)) ≡ Some second
second_of first second true next is at = cc
second_of first second false true is at = refl
second_of first second false false is at = cc

-- other lists stand in the place of these
crashed_by : (lists other : Store) (count : ℕ) (leave : List Rows) → IsOfLists other → other.cell ≡ lists.cell → 0 ≡ lists.doubt → with_more other [] count ≡ record (record lists { may_leave = leave; refusals = count }) { rows = other.rows; may_leave = other.rows ∷ [] }
crashed_by lists other count leave k cell sure =
    store_by (record (record lists { may_leave = leave; refusals = count }) { rows = other.rows; may_leave = other.rows ∷ [] }) (with_more other [] count) cell refl (no_more other.may_leave ∙ k.left) refl (k.sure ∙ sure)

abbrev lists_with : Store → ℕ → List Rows → Store
lists_with lists count leave = record lists { may_leave = leave; refusals = count }

stays_by : (old : CrashState) (number : ℕ) → IsOfLists old.lists → is_some (left_at (kept_beside old).may_leave number) ≡ true → (old.other ≡ None) ⊎ ((number == 2) ≡ false) → LeavesOne number (kept_beside old) (kept_beside (record old { other = None }))
stays_by old number h there which =
    let may : ((number == 1) || ((number == 2) && is_some old.other)) ≡ true = two_left old.lists old.other number h.left ∙ there in
    let one : (number == 1) ≡ true = first_of (number == 1) (number == 2) old.other may which in
    let lone : (kept_beside (record old { other = None })).may_leave ≡ old.lists.rows ∷ [] = no_more old.lists.may_leave ∙ h.left in (
      old.lists.rows,
      ap (λ (l : List Rows). left_at (l ++ left_beside old.other) number) h.left ∙ ap (λ (b : Bool). if b then Some old.lists.rows else left_at (left_beside old.other) (number - 1)) one,
      ap (lists_with old.lists old.refusals) lone,
    )

-- the rows that stand
pub first_stays : (old : CrashState) (number : ℕ) → IsOfLists old.lists → is_some (left_at (kept_beside old).may_leave number) ≡ true → (number ≡ 2 → ⊥) → LeavesOne number (kept_beside old) (kept_beside (record old { other = None }))
first_stays old number h there differs =
    let second : (number == 2) ≡ false = grind (arith, nat_tests) in stays_by old number h there (inr second)

pub first_alone : (old : CrashState) (number : ℕ) → IsOfLists old.lists → is_some (left_at (kept_beside old).may_leave number) ≡ true → old.other ≡ None → LeavesOne number (kept_beside old) (kept_beside (record old { other = None }))
first_alone old number h there none = stays_by old number h there (inl none)

-- those of the refused commit
pub second_stands : (old : CrashState) (other : Store) (number : ℕ) → IsOfLists old.lists → IsOfLists other → other.cell ≡ old.lists.cell → old.other ≡ Some other → (number == 2) ≡ true → LeavesOne number (kept_beside old) (kept_beside (record old { lists = other; same = None; other = None }))
second_stands old other number h k cell is two =
    let first : (number == 1) ≡ false = grind (arith, nat_tests) in
    let next : (number - 1 == 1) ≡ true = second_number number ∙ two in
    let at : left_at (kept_beside old).may_leave number ≡ left_at (old.lists.rows ∷ (other.rows ∷ [])) number =
    ap (λ (l : List Rows). left_at (l ++ left_beside old.other) number) h.left ∙ ap (λ (o : Option Store). left_at (old.lists.rows ∷ left_beside o) number) is in (
      other.rows,
      at ∙ second_of old.lists.rows other.rows (number == 1) (number - 1 == 1) first next,
      crashed_by old.lists other old.refusals (kept_beside old).may_leave k cell (sym h.sure),
    )
