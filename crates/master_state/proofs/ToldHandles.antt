-- What is told by handles that are looked up, and by all.
use Rattle.std.proofs.Common.{◌≡◌, ◌⊎◌, inl, inr, ⊎_elim, append-nil, List, [], ◌∷◌, ◌++◌, Bool, true, false, cond, Option, Some, None, Ordering, Less, refl, sym, ap, ◌∙◌, append_assoc}
use Rattle.std.specs.Prelude.{map, is_some}
use Rattle.std.specs.Option.{option_and_then, option_map, option_or}
use Rattle.std.specs.List.{AllByRecursion, filter_map, cons_option}
use Rattle.std.specs.List.Sorted.{IsStrictlySortedBy}
use Rattle.std.specs.Cmp.{IsTotalOrder}
use Rattle.std.specs.Map.{keys_of, lookup}
use Rattle.std.specs.BTreeMap.{is_at}
use Rattle.std.proofs.lemmas.Map.Lookups.{CmpEqualImpliesEq}
use Rattle.collections.proofs.Entries.{eq_at}
use Rattle.rows_cell.proofs.SortedLookups.{same_lookups, found_none}
use Rattle.master_parts.specs.declared.handles.HandleKey.{HandleKey}
use Rattle.master_parts.specs.declared.handles.HandleState.{HandleState}
use Rattle.master_parts.specs.declared.handles.HandleState.TheVariants.{Open, Closed}
use Rattle.master_parts.specs.declared.handles.HandleNote.{HandleNote}
use Rattle.master_parts.specs.declared.notices.Notice.{Notice}
use Rattle.master_parts.specs.declared.notices.SessionEvent.{SessionEvent}
use Rattle.master_state.specs.Concerned.{HasTold, HasConcerned, telling_at}
use Rattle.master_parts.specs.Handles.{NotedHandle}
use Rattle.master_parts.specs.Keys.{handle_order}
use Rattle.master_state.specs.Notices.{event_on, event_for, is_noted, telling_by, tellings_to}
use Rattle.master_parts.specs.OpenHandles.{state_at, is_among, AreAmong}
use Rattle.master_state.specs.State.{MasterState}
use Rattle.master_parts.proofs.PlacedHandles.{handle_total, exact_handle}

-- the entries of what is found, by key
one : {K T : Type 0} → K → Option T → List (K × T) → List (K × T)
one k None rest = rest
one k (Some t) rest = (k, t) ∷ rest

given : {K V T : Type 0} → (K × V → Option T) → List (K × V) → List (K × T)
given f [] = []
given f (e ∷ es) = one e.0 (f e) (given f es)

module _ {K : Type 0} (cmp : K → K → Ordering) (total : IsTotalOrder cmp) (exact : CmpEqualImpliesEq cmp) where
  given_behind : {V T : Type 0} (f : K × V → Option T) (x : K) (es : List (K × V)) → AllByRecursion (λ y. cmp x y ≡ Less) (keys_of es) → AllByRecursion (λ y. cmp x y ≡ Less) (keys_of (given f es))
  unfolding given one
  given_behind f x [] h = tt
  given_behind f x (e ∷ es) h =
      elim (f e) as (λ o. AllByRecursion (λ y. cmp x y ≡ Less) (keys_of (one e.0 o (given f es)))) [ None ↦ given_behind f x es h.1 | Some t ↦ (h.0, given_behind f x es h.1) ]

  given_sorted : {V T : Type 0} (f : K × V → Option T) (es : List (K × V)) → IsStrictlySortedBy cmp (keys_of es) → IsStrictlySortedBy cmp (keys_of (given f es))
  unfolding given one IsStrictlySortedBy
  given_sorted f [] h = tt
  given_sorted f (e ∷ es) h =
      elim (f e) as (λ o. IsStrictlySortedBy cmp (keys_of (one e.0 o (given f es)))) [ None ↦ given_sorted f es h.1 | Some t ↦ (given_behind f e.0 es h.0, given_sorted f es h.1) ]

  lookup_given : {V T : Type 0} (f : K × V → Option T) (es : List (K × V)) (q : K) → IsStrictlySortedBy cmp (keys_of es) → lookup (is_at (cmp q)) (given f es) ≡ option_and_then (λ v. f (q, v)) (lookup (is_at (cmp q)) es)
  unfolding given one IsStrictlySortedBy
  lookup_given f [] q sorted = refl
  lookup_given {V} {T} f (e ∷ es) q sorted =
      let at : K → Bool = is_at (cmp q) in
      let find : List (K × V) → Option V = lookup at in
      let rest = lookup_given f es q sorted.1 in
      (elim (at e.0) as (λ b. at e.0 ≡ b → lookup at (one e.0 (f e) (given f es)) ≡ option_and_then (λ v. f (q, v)) (cond b (Some e.1) (find es))) [
        | true ↦ (λ c.
            let same : q ≡ e.0 = exact q e.0 (eq_at (cmp q e.0) c) in
            let none : lookup at (given f es) ≡ None = rest ∙ ap (option_and_then (λ v. f (q, v))) (found_none cmp total exact q e.0 es sorted.0 c) in
            let own : f (q, e.1) ≡ f e = ap (λ k. f (k, e.1)) same in
            (elim (f e) as (λ o. lookup at (one e.0 o (given f es)) ≡ o) [ None ↦ none | Some t ↦ rw c refl ]) ∙ sym own)
        | false ↦ (λ c. (elim (f e) as (λ o. lookup at (one e.0 o (given f es)) ≡ lookup at (given f es)) [ None ↦ refl | Some t ↦ rw c refl ]) ∙ rest)
      ]) refl

values_given : {K V T : Type 0} (f : K × V → Option T) (es : List (K × V)) → map (λ e. e.1) (given f es) ≡ filter_map f es
unfolding given one
values_given f [] = refl
values_given f (e ∷ es) =
    let rest = values_given f es in
    elim (f e) as (λ o. map (λ e. e.1) (one e.0 o (given f es)) ≡ cons_option o (filter_map f es)) [ None ↦ rest | Some t ↦ ap (λ l. t ∷ l) rest ]

-- what the value of a key gives is the same, where the key is among the others if it gives something
either : {V U T : Type 0} (value : Option V) (key : Option U) (f : V → Option T) → ((v : V) → value ≡ Some v → is_some (f v) ≡ true → is_some key ≡ true) → option_and_then (λ u. option_and_then f value) key ≡ option_and_then f value
either None None f h = refl
either None (Some u) f h = refl
either (Some v) (Some u) f h = refl
either {V} {U} {T} (Some v) None f h =
    (elim (f v) as (λ o. (is_some o ≡ true → ◌≡◌ {A = Bool} false true) → ◌≡◌ {A = Option T} None o) [
      | None ↦ (λ k. refl)
      | Some t ↦ (λ k. let bad = k refl in absurd (cc))
    ]) (h v refl)

-- where the keys that give something are among others, looking these up gives the same
pub looked_up : {K V U T : Type 0} (cmp : K → K → Ordering) → IsTotalOrder cmp → CmpEqualImpliesEq cmp → (f : K × V → Option T) (es : List (K × V)) (ks : List (K × U)) → IsStrictlySortedBy cmp (keys_of es) → IsStrictlySortedBy cmp (keys_of ks) → ((q : K) (v : V) → lookup (is_at (cmp q)) es ≡ Some v → is_some (f (q, v)) ≡ true → is_some (lookup (is_at (cmp q)) ks) ≡ true) → filter_map (λ (k : K × U). option_and_then (λ v. f (k.0, v)) (lookup (is_at (cmp k.0)) es)) ks ≡ filter_map f es
looked_up {K} {V} {U} {T} cmp total exact f es ks sorted keys_sorted covered =
    let g : K × U → Option T = λ k. option_and_then (λ v. f (k.0, v)) (lookup (is_at (cmp k.0)) es) in
    let found : (q : K) → lookup (is_at (cmp q)) (given g ks) ≡ lookup (is_at (cmp q)) (given f es) = λ q.
    lookup_given cmp total exact g ks q keys_sorted
    ∙ either (lookup (is_at (cmp q)) es) (lookup (is_at (cmp q)) ks) (λ v. f (q, v)) (covered q)
    ∙ sym (lookup_given cmp total exact f es q sorted) in
    sym (values_given g ks)
    ∙ ap (map (λ e. e.1)) (same_lookups cmp total exact (given g ks) (given f es) (given_sorted cmp total exact g ks keys_sorted) (given_sorted cmp total exact f es sorted) found)
    ∙ values_given f es

-- ---- what is told by handles that are looked up

-- what a key gives
abbrev pub told_by : MasterState → Option HandleNote → List Notice → HandleKey × Unit {0} → Option SessionEvent
told_by s note notices entry = telling_at s note notices entry.0

pub tell_start : {X Y : Type 0} (f : X → Option Y) (all left : List X) (told : List Y) → told ≡ [] → left ≡ all → told ++ filter_map f left ≡ filter_map f all
tell_start f all left told none e = rw (none, e) refl

pub tell_skip : {X Y : Type 0} (f : X → Option Y) (left rest : List X) (e : X) (told whole : List Y) → left ≡ e ∷ rest → f e ≡ None → told ++ filter_map f left ≡ whole → told ++ filter_map f rest ≡ whole
tell_skip f left rest e told whole step none h = ap (λ o. told ++ cons_option o (filter_map f rest)) (sym none) ∙ ap (λ l. told ++ filter_map f l) (sym step) ∙ h

pub tell_push : {X Y : Type 0} (f : X → Option Y) (left rest : List X) (e : X) (told more whole : List Y) (y : Y) → left ≡ e ∷ rest → f e ≡ Some y → more ≡ told ++ y ∷ [] → told ++ filter_map f left ≡ whole → more ++ filter_map f rest ≡ whole
tell_push f left rest e told more whole y step some put h =
    ap (λ l. l ++ filter_map f rest) put
    ∙ append_assoc told (y ∷ []) (filter_map f rest)
    ∙ ap (λ o. told ++ cons_option o (filter_map f rest)) (sym some)
    ∙ ap (λ l. told ++ filter_map f l) (sym step)
    ∙ h

tell_end : {X Y : Type 0} (f : X → Option Y) (left : List X) (told whole : List Y) → left ≡ [] → told ++ filter_map f left ≡ whole → told ≡ whole
tell_end f left told whole none h = sym (append-nil told) ∙ ap (λ l. told ++ filter_map f l) (sym none) ∙ h

some_told : {X Y : Type 0} (f : X → Y) (b : Bool) (o : Option X) → is_some (cond b None (option_map f o)) ≡ true → is_some o ≡ true
some_told f true o h = absurd (cc)
some_told f false None h = absurd (cc)
some_told f false (Some x) h = refl

nobody : (b : Bool) → is_some (cond b None (let none : Option SessionEvent = None in none)) ≡ true → ⊥
nobody true h = cc
nobody false h = cc

covered : (s : MasterState) (note : Option HandleNote) (notices : List Notice) (keys : List (HandleKey × Unit {0})) → HasConcerned s notices keys → (q : HandleKey) (state : HandleState) → state_at s.handles q ≡ Some state → is_some (telling_by s note notices (q, state)) ≡ true → is_among keys q ≡ true
covered s note notices keys has q (Open noted) h told =
    has q noted h (some_told (λ event. record { client = q.client; event = event }) (is_noted note q) (event_for s noted.handle notices) told)
covered s note notices keys has q Closed h told = absurd (nobody (is_noted note q) told)

-- all that is told
pub told_all : (s : MasterState) (note : Option HandleNote) (notices : List Notice) (keys left : List (HandleKey × Unit {0})) (told : List SessionEvent) → IsStrictlySortedBy handle_order (keys_of s.handles) → IsStrictlySortedBy handle_order (keys_of keys) → HasConcerned s notices keys → left ≡ [] → told ++ filter_map (told_by s note notices) left ≡ filter_map (told_by s note notices) keys → told ≡ tellings_to s note notices
told_all s note notices keys left told sorted keys_sorted has none h =
    tell_end (told_by s note notices) left told (filter_map (told_by s note notices) keys) none h
    ∙ looked_up handle_order handle_total exact_handle (telling_by s note notices) s.handles keys sorted keys_sorted (covered s note notices keys has)

-- ---- the keys of the handles that notices concern

-- the notices `left` of `all` are still to be looked at
pub record Concerns (s : MasterState) (all left : List Notice) (keys : List (HandleKey × Unit {0})) : Type 0 where
  pub found : (key : HandleKey) (noted : NotedHandle) → state_at s.handles key ≡ Some (Open noted) → is_some (event_for s noted.handle all) ≡ true → (is_among keys key ≡ true) ⊎ (is_some (event_for s noted.handle left) ≡ true)

pub concern_first : (s : MasterState) (all left : List Notice) (keys : List (HandleKey × Unit {0})) → left ≡ all → Concerns s all left keys
concern_first s all left keys e = record { found = λ key noted h told. inr (ap (λ l. is_some (event_for s noted.handle l)) e ∙ told) }

first_or : {X : Type 0} (a b : Option X) → is_some (option_or a b) ≡ true → (is_some a ≡ true) ⊎ (is_some b ≡ true)
first_or None b h = inr h
first_or (Some x) b h = inl refl

pub concern_more : (s : MasterState) (all left rest : List Notice) (notice : Notice) (keys more : List (HandleKey × Unit {0})) → left ≡ notice ∷ rest → AreAmong keys more → HasTold s notice more → Concerns s all left keys → Concerns s all rest more
concern_more s all left rest notice keys more step among here c = record {
  found = λ key noted h told.
      ⊎_elim (λ l. inl (among key l))
      (λ r.
      ⊎_elim (λ a. inl (here key noted h a)) (λ b. inr b)
      (first_or (event_on s noted.handle notice) (event_for s noted.handle rest) (ap (λ l. is_some (event_for s noted.handle l)) (sym step) ∙ r)))
      (c.found key noted h told);
}

pub concern_last : (s : MasterState) (all left : List Notice) (keys : List (HandleKey × Unit {0})) → left ≡ [] → Concerns s all left keys → HasConcerned s all keys
concern_last s all left keys none c = λ key noted h told.
    ⊎_elim (λ l. l) (λ r. let n : is_some (event_for s noted.handle left) ≡ false = ap (λ l. is_some (event_for s noted.handle l)) none in absurd (cc)) (c.found key noted h told)
