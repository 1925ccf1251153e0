-- What lines tell of rights.
use Rattle.std.proofs.Common.{◌≡◌, ℕ, ◌+◌, ◌<◌, List, [], ◌∷◌, ◌++◌, length, Bool, true, false, cond, Option, Some, None, Result, Ok, Err, refl, sym, ap, ◌∙◌, arith, append_assoc, length-append, subst, map}
use Rattle.std.specs.Prelude.{◌==◌, ◌&&◌, ◌||◌, filter, count_by}
use Rattle.std.specs.Option.{option_and_then}
use Rattle.std.specs.List.{list_any}
use Rattle.std.proofs.lemmas.Bool.Decides.{nat_tests}
use Rattle.std.proofs.lemmas.List.{map-append, length-map}
use Rattle.std.proofs.lemmas.List.Sums.{sum_by-cons, sum_by-append}
use Rattle.node_core.specs.declared.lines.Line.{Line}
use Rattle.node_core.specs.declared.lines.Line.TheVariants as lines
use Rattle.rights_core.specs.declared.cache_rights.CacheRight.{CacheRight}
use Rattle.rights_core.specs.declared.cache_rights.RightStatus.{RightStatus}
use Rattle.rights_core.specs.declared.cache_rights.RightStatus.TheVariants as statuses
use Rattle.rights_core.specs.declared.endings.Ending.{Ending}
use Rattle.rights_core.specs.declared.endings.Ending.TheVariants as endings
use Rattle.rights_core.specs.declared.totals.Totals.{Totals}
use Rattle.rights_core.specs.Rights.{stands, was_acknowledged, has_expired, is_held, is_acknowledged, is_expired, count_held, new_right, is_to_ask, next_invalidation, with_next, is_ended_by, ends, status_after, ended, numbers_ending, totals_of, AreNumbered, IsRecorded}
use Rattle.rights_core.specs.Grants.{Told, is_held_as, with_status, told_more, told_ended, rights_by, rights_at, told_of, is_held_told, is_acknowledged_told, is_expired_told, totals_by, is_granted_line, is_acked_line, is_expired_line, Tells}

-- ---- lines

-- no master comes up or goes down, and no right is granted or ends
abbrev pub IsOfNoRight : Line → Type 0
IsOfNoRight (lines.Up epoch) = ⊥
IsOfNoRight lines.Down = ⊥
IsOfNoRight (lines.Granted number client name) = ⊥
IsOfNoRight (lines.Acked number) = ⊥
IsOfNoRight (lines.Expired number) = ⊥
IsOfNoRight _ = Unit {0}

abbrev pub AreOfNoRight : List Line → Type 0
AreOfNoRight [] = Unit {0}
AreOfNoRight (line ∷ rest) = IsOfNoRight line × AreOfNoRight rest

pub both_of_no_right : (xs ys : List Line) → AreOfNoRight xs → AreOfNoRight ys → AreOfNoRight (xs ++ ys)
both_of_no_right [] ys h k = k
both_of_no_right (x ∷ xs) ys h k = (h.0, both_of_no_right xs ys h.1 k)

-- lines, and others behind them
rights_more : (rights : List Told) (xs ys : List Line) → rights_at rights (xs ++ ys) ≡ option_and_then (λ next. rights_at next ys) (rights_at rights xs)
rights_more rights [] ys = refl
rights_more rights (x ∷ xs) ys =
    elim (rights_by rights x) as (λ o. option_and_then (λ next. rights_at next (xs ++ ys)) o ≡ option_and_then (λ next. rights_at next ys) (option_and_then (λ next. rights_at next xs) o)) [
      | None ↦ refl
      | Some next ↦ rights_more next xs ys
    ]

pub told_both : (rights mid later : List Told) (xs ys : List Line) → rights_at rights xs ≡ Some mid → rights_at mid ys ≡ Some later → rights_at rights (xs ++ ys) ≡ Some later
told_both rights mid later xs ys h k = rights_more rights xs ys ∙ ap (option_and_then (λ next. rights_at next ys)) h ∙ k

line_rights : (rights : List Told) (line : Line) → IsOfNoRight line → rights_by rights line ≡ Some rights
line_rights rights (lines.Up epoch) h = absurd h
line_rights rights lines.Down h = absurd h
line_rights rights (lines.Granted number client name) h = absurd h
line_rights rights (lines.Acked number) h = absurd h
line_rights rights (lines.Expired number) h = absurd h
line_rights rights _ h = refl

pub same_rights : (rights : List Told) (printed : List Line) → AreOfNoRight printed → rights_at rights printed ≡ Some rights
same_rights rights [] h = refl
same_rights rights (line ∷ rest) h = ap (option_and_then (λ next. rights_at next rest)) (line_rights rights line h.0) ∙ same_rights rights rest h.1

-- ---- a right is granted

is_same : (n m : ℕ) → n ≡ m → (n == m) ≡ true
is_same n m h = grind (arith, nat_tests)

one_more : (rights : List Told) (number client : ℕ) (name : List ℕ) → number ≡ length rights + 1 → told_more rights number client name ≡ Some (rights ++ record { number = number; client = client; name = name; status = statuses.Held } ∷ [])
one_more rights number client name is =
    ap (λ b. cond b (Some (rights ++ record { number = number; client = client; name = name; status = statuses.Held } ∷ [])) None) (is_same number (length rights + 1) is)

pub new_told : (client : ℕ) (name : List ℕ) (rights : List CacheRight) → rights_at (map told_of rights) (lines.Granted (length rights + 1) client name ∷ []) ≡ Some (map told_of (rights ++ new_right (length rights + 1) client name ∷ []))
new_told client name rights =
    let next : length rights + 1 ≡ length (map told_of rights) + 1 = ap (λ n. n + 1) (sym (length-map rights told_of)) in
    ap (option_and_then (λ told. rights_at told [])) (one_more (map told_of rights) (length rights + 1) client name next)
    ∙ ap (λ told. Some told) (sym (map-append told_of rights (new_right (length rights + 1) client name ∷ [])))

-- ---- rights end

-- none has this number, or all have smaller ones
abbrev AreApart : ℕ → List Told → Type 0
AreApart number [] = Unit {0}
AreApart number (right ∷ rights) = ((right.number == number) ≡ false) × AreApart number rights

abbrev AreBelow : ℕ → List Told → Type 0
AreBelow number [] = Unit {0}
AreBelow number (right ∷ rights) = (right.number < number) × AreBelow number rights

less_apart : (n m : ℕ) → n < m → (n == m) ≡ false
less_apart n m h = grind (arith, nat_tests, h)

more_apart : (n m : ℕ) → m < n → (n == m) ≡ false
more_apart n m h = grind (arith, nat_tests, h)

below_apart : (number : ℕ) (rights : List Told) → AreBelow number rights → AreApart number rights
below_apart number [] h = tt
below_apart number (right ∷ rights) h = (less_apart right.number number h.0, below_apart number rights h.1)

below_push : (number : ℕ) (rights : List Told) (right : Told) → right.number ≡ number → AreBelow number rights → AreBelow (number + 1) (rights ++ right ∷ [])
below_push number [] right is h = (omega (arith, is), tt)
below_push number (first ∷ rights) right is h = let less = h.0 in (omega (arith, less), below_push number rights right is h.1)

above_apart : (number first : ℕ) (rights : List CacheRight) → number < first → AreNumbered first rights → AreApart number (map told_of rights)
above_apart number first [] less h = tt
above_apart number first (right ∷ rights) less h =
    let is : right.number ≡ first = h.number in
    (more_apart right.number number (omega (arith, is, less)), above_apart number (first + 1) rights (omega (arith, less)) h.rest)

apart_stay : (number : ℕ) (status : RightStatus) (rights : List Told) → AreApart number rights → map (with_status number status) rights ≡ rights
apart_stay number status [] h = refl
apart_stay number status (right ∷ rights) h =
    ap (λ b. cond b (record right { status = status }) right ∷ map (with_status number status) rights) h.0 ∙ ap (λ rest. right ∷ rest) (apart_stay number status rights h.1)

or_true : (a : Bool) → (a || true) ≡ true
or_true true = refl
or_true false = refl

any_among : (test : Told → Bool) (front back : List Told) (right : Told) → test right ≡ true → list_any test (front ++ right ∷ back) ≡ true
any_among test [] back right h = ap (λ b. b || list_any test back) h
any_among test (first ∷ front) back right h = ap (λ b. test first || b) (any_among test front back right h) ∙ or_true (test first)

-- the one of that number ends
one_ends : (front back : List Told) (right : Told) (status : RightStatus) → stands right.status ≡ true → AreApart right.number front → AreApart right.number back → told_ended (front ++ right ∷ back) right.number status ≡ Some (front ++ record right { status = status } ∷ back)
one_ends front back right status held before behind =
    let own : (right.number == right.number) ≡ true = is_same right.number right.number refl in
    let is : is_held_as right.number right ≡ true = rw (held, own) refl in
    let at : with_status right.number status right ≡ record right { status = status } = rw own refl in
    let all : map (with_status right.number status) (front ++ right ∷ back) ≡ front ++ record right { status = status } ∷ back =
    map-append (with_status right.number status) front (right ∷ back) ∙ ap (λ xs. xs ++ with_status right.number status right ∷ map (with_status right.number status) back) (apart_stay right.number status front before)
    ∙ ap (λ x. front ++ x ∷ map (with_status right.number status) back) at ∙ ap (λ xs. front ++ record right { status = status } ∷ xs) (apart_stay right.number status back behind) in
    ap (λ b. cond b (Some (map (with_status right.number status) (front ++ right ∷ back))) None) (any_among (is_held_as right.number) front back right is) ∙ ap (λ xs. Some xs) all

first_true : (a b c : Bool) → ((a && b) && c) ≡ true → a ≡ true
first_true true b c h = refl
first_true false b c h = cc

-- each right that ends has its line
module _ (client : ℕ) (ending : Ending) (line : ℕ → Line) (tells : (rights : List Told) (number : ℕ) → rights_by rights (line number) ≡ told_ended rights number (status_after ending)) where
  endings_told : (first : ℕ) (front : List Told) (rights : List CacheRight) → AreBelow first front → AreNumbered first rights → rights_at (front ++ map told_of rights) (map line (numbers_ending client ending rights)) ≡ Some (front ++ map told_of (ended client ending rights))
  endings_told first front [] below numbered = refl
  endings_told first front (right ∷ rights) below numbered =
      let is : right.number ≡ first = numbered.number in
      let apart : AreApart right.number front = below_apart right.number front (subst (λ n. AreBelow n front) (sym is) below) in
      let behind : AreApart right.number (map told_of rights) = above_apart right.number (first + 1) rights (omega (arith, is)) numbered.rest in
      let on = λ (told : Told) (same : told.number ≡ first).
      ap (λ xs. rights_at xs (map line (numbers_ending client ending rights))) (sym (append_assoc front (told ∷ []) (map told_of rights)))
      ∙ endings_told (first + 1) (front ++ told ∷ []) rights (below_push first front told same below) numbered.rest
      ∙ ap (λ xs. Some xs) (append_assoc front (told ∷ []) (map told_of (ended client ending rights))) in
      (elim (ends client ending right) as (λ b. ends client ending right ≡ b → rights_at (front ++ told_of right ∷ map told_of rights) (map line (map (λ r. r.number) (cond b (right ∷ filter (ends client ending) rights) (filter (ends client ending) rights)))) ≡ Some (front ++ told_of (cond b (record right { status = status_after ending }) right) ∷ map told_of (ended client ending rights))) [
        | true ↦ (λ it.
            let held : stands right.status ≡ true = first_true (is_held right) (client == right.client) (is_ended_by ending right.invalidation) it in
            ap (option_and_then (λ next. rights_at next (map line (numbers_ending client ending rights))))
            (tells (front ++ told_of right ∷ map told_of rights) right.number ∙ one_ends front (map told_of rights) (told_of right) (status_after ending) held apart behind)
            ∙ on (record (told_of right) { status = status_after ending }) is)
        | false ↦ (λ it. on (told_of right) is)
      ]) refl

pub acked_told : (client upto : ℕ) (rights : List CacheRight) → IsRecorded rights → rights_at (map told_of rights) (map lines.Acked (numbers_ending client (endings.Acknowledgement upto) rights)) ≡ Some (map told_of (ended client (endings.Acknowledgement upto) rights))
acked_told client upto rights h = endings_told client (endings.Acknowledgement upto) lines.Acked (λ told number. refl) 1 [] rights tt h.numbered

pub left_told : (client : ℕ) (rights : List CacheRight) → IsRecorded rights → rights_at (map told_of rights) (map lines.Acked (numbers_ending client endings.Leave rights)) ≡ Some (map told_of (ended client endings.Leave rights))
left_told client rights h = endings_told client endings.Leave lines.Acked (λ told number. refl) 1 [] rights tt h.numbered

pub expired_told : (client : ℕ) (rights : List CacheRight) → IsRecorded rights → rights_at (map told_of rights) (map lines.Expired (numbers_ending client endings.Expiry rights)) ≡ Some (map told_of (ended client endings.Expiry rights))
expired_told client rights h = endings_told client endings.Expiry lines.Expired (λ told number. refl) 1 [] rights tt h.numbered

-- ---- rights are asked back

-- of which no line tells
pub asked_told : (name : List ℕ) (all rights : List CacheRight) → map told_of (map (with_next name all) rights) ≡ map told_of rights
asked_told name all [] = refl
asked_told name all (right ∷ rights) =
    let here : told_of (with_next name all right) ≡ told_of right =
    elim (is_to_ask name right) as (λ b. told_of (cond b (record right { invalidation = Some (next_invalidation right.client all) }) right) ≡ told_of right) [ true ↦ refl | false ↦ refl ] in
    ap (λ x. x ∷ map told_of (map (with_next name all) rights)) here ∙ ap (λ xs. told_of right ∷ xs) (asked_told name all rights)

-- ---- totals

pub count_told : (test : Told → Bool) (rights : List CacheRight) → count_by (λ r. test (told_of r)) rights ≡ count_by test (map told_of rights)
count_told test [] = refl
count_told test (right ∷ rights) =
    omega (arith, count_told test rights, sum_by-cons (λ r. cond (test (told_of r)) 1 0) right rights, sum_by-cons (λ r. cond (test r) 1 0) (told_of right) (map told_of rights))

same_totals : (i h a e j k b f : ℕ) → i ≡ j → h ≡ k → a ≡ b → e ≡ f → ◌≡◌ {A = Totals} (record { issued = i; held = h; acknowledged = a; expired = e }) (record { issued = j; held = k; acknowledged = b; expired = f })
same_totals i h a e j k b f p q s t = rw (p, q, s, t) refl

pub totals_told : (rights : List CacheRight) → totals_of rights ≡ totals_by (map told_of rights)
totals_told rights =
    same_totals (length rights) (count_held rights) (count_by is_acknowledged rights) (count_by is_expired rights)
    (length (map told_of rights)) (count_by is_held_told (map told_of rights)) (count_by is_acknowledged_told (map told_of rights)) (count_by is_expired_told (map told_of rights))
    (sym (length-map rights told_of)) (count_told is_held_told rights) (count_told is_acknowledged_told rights) (count_told is_expired_told rights)

-- ---- how the totals rise by lines of one epoch

-- no master comes up or goes down
abbrev pub IsOfEpoch : Line → Type 0
IsOfEpoch (lines.Up epoch) = ⊥
IsOfEpoch lines.Down = ⊥
IsOfEpoch _ = Unit {0}

abbrev pub AreOfEpoch : List Line → Type 0
AreOfEpoch [] = Unit {0}
AreOfEpoch (line ∷ rest) = IsOfEpoch line × AreOfEpoch rest

pub both_of_epoch : (xs ys : List Line) → AreOfEpoch xs → AreOfEpoch ys → AreOfEpoch (xs ++ ys)
both_of_epoch [] ys h k = k
both_of_epoch (x ∷ xs) ys h k = (h.0, both_of_epoch xs ys h.1 k)

epoch_line : (line : Line) → IsOfNoRight line → IsOfEpoch line
epoch_line (lines.Up epoch) h = h
epoch_line lines.Down h = h
epoch_line _ h = tt

pub epoch_lines : (printed : List Line) → AreOfNoRight printed → AreOfEpoch printed
epoch_lines [] h = tt
epoch_lines (line ∷ rest) h = (epoch_line line h.0, epoch_lines rest h.1)

pub numbered_lines : (line : ℕ → Line) → ((number : ℕ) → IsOfEpoch (line number)) → (numbers : List ℕ) → AreOfEpoch (map line numbers)
numbered_lines line of_epoch [] = tt
numbered_lines line of_epoch (number ∷ numbers) = (of_epoch number, numbered_lines line of_epoch numbers)

-- the numbers rise by one from this one on
abbrev AreToldFrom : ℕ → List Told → Type 0
AreToldFrom first [] = Unit {0}
AreToldFrom first (right ∷ rights) = (right.number ≡ first) × AreToldFrom (first + 1) rights

numbered_told : (first : ℕ) (rights : List CacheRight) → AreNumbered first rights → AreToldFrom first (map told_of rights)
numbered_told first [] h = tt
numbered_told first (right ∷ rights) h = (h.number, numbered_told (first + 1) rights h.rest)

told_push : (first : ℕ) (rights : List Told) (right : Told) → right.number ≡ first + length rights → AreToldFrom first rights → AreToldFrom first (rights ++ right ∷ [])
told_push first [] right is h = (omega (arith, is), tt)
told_push first (one ∷ rights) right is h = (h.0, told_push (first + 1) rights right (omega (arith, is)) h.1)

same_number : (number : ℕ) (status : RightStatus) (right : Told) → (with_status number status right).number ≡ right.number
same_number number status right = elim (right.number == number) as (λ b. (cond b (record right { status = status }) right).number ≡ right.number) [ true ↦ refl | false ↦ refl ]

told_with : (first number : ℕ) (status : RightStatus) (rights : List Told) → AreToldFrom first rights → AreToldFrom first (map (with_status number status) rights)
told_with first number status [] h = tt
told_with first number status (right ∷ rights) h = (same_number number status right ∙ h.0, told_with (first + 1) number status rights h.1)

told_apart : (number first : ℕ) (rights : List Told) → number < first → AreToldFrom first rights → AreApart number rights
told_apart number first [] less h = tt
told_apart number first (right ∷ rights) less h =
    let is : right.number ≡ first = h.0 in (more_apart right.number number (omega (arith, is, less)), told_apart number (first + 1) rights (omega (arith, less)) h.1)

none_held : (number : ℕ) (rights : List Told) → AreApart number rights → list_any (is_held_as number) rights ≡ false
none_held number [] h = refl
none_held number (right ∷ rights) h =
    let apart = h.0 in let rest = none_held number rights h.1 in
    elim (stands right.status) as (λ b. ((b && (right.number == number)) || list_any (is_held_as number) rights) ≡ false) [ true ↦ rw apart rest | false ↦ rest ]

held_is : (status : RightStatus) → stands status ≡ true → status ≡ statuses.Held
held_is statuses.Held h = refl
held_is statuses.Acknowledged h = absurd cc
held_is statuses.Expired h = absurd cc

abbrev one_if : Bool → ℕ
one_if b = cond b 1 0

-- how many have a status that passes
abbrev count_as : (RightStatus → Bool) → List Told → ℕ
count_as test rights = count_by (λ r. test r.status) rights

count_cons : (test : RightStatus → Bool) (right : Told) (rights : List Told) → count_as test (right ∷ rights) ≡ cond (test right.status) 1 0 + count_as test rights
count_cons test right rights = sum_by-cons (λ r. cond (test r.status) 1 0) right rights

count_push : (test : RightStatus → Bool) (rights : List Told) (right : Told) → count_as test (rights ++ right ∷ []) ≡ count_as test rights + cond (test right.status) 1 0
count_push test rights right = sum_by-append (λ r. cond (test r.status) 1 0) rights (right ∷ []) ∙ omega (arith, count_cons test right [])

or_held : (a b : Bool) → (a || b) ≡ true → b ≡ false → a ≡ true
or_held true b h k = refl
or_held false b h k = absurd cc

and_first : (a b : Bool) → (a && b) ≡ true → a ≡ true
and_first true b h = refl
and_first false b h = absurd cc

and_false : (a b : Bool) → b ≡ false → (a && b) ≡ false
and_false true b h = h
and_false false b h = refl

-- one that was held has another status
count_with : (test : RightStatus → Bool) (number first : ℕ) (status : RightStatus) (rights : List Told) → test statuses.Held ≡ false → AreToldFrom first rights → list_any (is_held_as number) rights ≡ true
    → count_as test (map (with_status number status) rights) ≡ count_as test rights + cond (test status) 1 0
count_with test number first status [] off told held = absurd cc
count_with test number first status (right ∷ rights) off told held =
    let is : right.number ≡ first = told.0 in
    elim (right.number == number) as (λ b. (right.number == number) ≡ b → count_as test (cond b (record right { status = status }) right ∷ map (with_status number status) rights) ≡ count_as test (right ∷ rights) + cond (test status) 1 0) [
      | true ↦ (λ e.
          let own : right.number ≡ number = grind (arith, nat_tests, e) in
          let apart : AreApart number rights = told_apart number (first + 1) rights (omega (arith, is, own)) told.1 in
          let at : is_held_as number right ≡ true = or_held (is_held_as number right) (list_any (is_held_as number) rights) held (none_held number rights apart) in
          let was : test right.status ≡ false = ap test (held_is right.status (and_first (stands right.status) (right.number == number) at)) ∙ off in
          let zero : one_if (test right.status) ≡ 0 = ap one_if was in
          let before : count_as test (right ∷ rights) ≡ count_as test rights = omega (arith, count_cons test right rights, zero) in
          count_cons test (record right { status = status }) (map (with_status number status) rights) ∙ ap (λ xs. cond (test status) 1 0 + count_as test xs) (apart_stay number status rights apart) ∙ omega (arith, before))
      | false ↦ (λ e.
          let none : is_held_as number right ≡ false = and_false (stands right.status) (right.number == number) e in
          let rest : list_any (is_held_as number) rights ≡ true = sym (ap (λ b. b || list_any (is_held_as number) rights) none) ∙ held in
          let ih : count_as test (map (with_status number status) rights) ≡ count_as test rights + cond (test status) 1 0 = count_with test number (first + 1) status rights off told.1 rest in
          omega (arith, ih, count_cons test right rights, count_cons test right (map (with_status number status) rights)))
    ] refl

-- what is counted of rights, before and behind some lines
record Counted (old : List Told) (granted acked gone : ℕ) (new : List Told) : Type 0 where
  pub from_one : AreToldFrom 1 new
  pub issued : length new ≡ length old + granted
  pub acknowledged : count_as was_acknowledged new ≡ count_as was_acknowledged old + acked
  pub expired : count_as has_expired new ≡ count_as has_expired old + gone

same_counted : (old new : List Told) → AreToldFrom 1 old → Some old ≡ Some new → Counted old 0 0 0 new
same_counted old new told is =
    let same : old ≡ new = cc in
    subst (λ (w : List Told). Counted old 0 0 0 w) same (record { from_one = told; issued = omega arith; acknowledged = omega arith; expired = omega arith })

more_counted : (old new : List Told) (number client : ℕ) (name : List ℕ) → AreToldFrom 1 old → told_more old number client name ≡ Some new → Counted old 1 0 0 new
more_counted old new number client name told is =
    let right : Told = record { number = number; client = client; name = name; status = statuses.Held } in
    (elim (number == length old + 1) as (λ b. (number == length old + 1) ≡ b → cond b (Some (old ++ right ∷ [])) None ≡ Some new → Counted old 1 0 0 new) [
      | true ↦ (λ e h.
          let next : number ≡ length old + 1 = grind (arith, nat_tests, e) in
          let same : old ++ right ∷ [] ≡ new = cc in
          subst (λ (w : List Told). Counted old 1 0 0 w) same (record {
            from_one = told_push 1 old right (omega (arith, next)) told;
            issued = length-append old (right ∷ []);
            acknowledged = count_push was_acknowledged old right;
            expired = count_push has_expired old right;
          }))
      | false ↦ (λ e h. absurd cc)
    ]) refl is

ended_counted : (old new : List Told) (number : ℕ) (status : RightStatus) → AreToldFrom 1 old → told_ended old number status ≡ Some new → Counted old 0 (one_if (was_acknowledged status)) (one_if (has_expired status)) new
ended_counted old new number status told is =
    (elim (list_any (is_held_as number) old) as (λ b. list_any (is_held_as number) old ≡ b → cond b (Some (map (with_status number status) old)) None ≡ Some new → Counted old 0 (one_if (was_acknowledged status)) (one_if (has_expired status)) new) [
      | true ↦ (λ e h.
          let same : map (with_status number status) old ≡ new = cc in
          subst (λ (w : List Told). Counted old 0 (one_if (was_acknowledged status)) (one_if (has_expired status)) w) same (record {
            from_one = told_with 1 number status old told;
            issued = omega (arith, length-map old (with_status number status));
            acknowledged = count_with was_acknowledged number 1 status old refl told e;
            expired = count_with has_expired number 1 status old refl told e;
          }))
      | false ↦ (λ e h. absurd cc)
    ]) refl is

line_counted : (old new : List Told) (line : Line) → IsOfEpoch line → AreToldFrom 1 old → rights_by old line ≡ Some new → Counted old (one_if (is_granted_line line)) (one_if (is_acked_line line)) (one_if (is_expired_line line)) new
line_counted old new (lines.Up epoch) of_epoch told is = absurd of_epoch
line_counted old new lines.Down of_epoch told is = absurd of_epoch
line_counted old new (lines.Granted number client name) of_epoch told is = more_counted old new number client name told is
line_counted old new (lines.Acked number) of_epoch told is = ended_counted old new number statuses.Acknowledged told is
line_counted old new (lines.Expired number) of_epoch told is = ended_counted old new number statuses.Expired told is
line_counted old new _ of_epoch told is = same_counted old new told is

lines_counted : (old new : List Told) (printed : List Line) → AreOfEpoch printed → AreToldFrom 1 old → rights_at old printed ≡ Some new → Counted old (count_by is_granted_line printed) (count_by is_acked_line printed) (count_by is_expired_line printed) new
lines_counted old new [] of_epoch told is = same_counted old new told is
lines_counted old new (line ∷ rest) of_epoch told is =
    (elim (rights_by old line) as (λ o. rights_by old line ≡ o → option_and_then (λ next. rights_at next rest) o ≡ Some new → Counted old (count_by is_granted_line (line ∷ rest)) (count_by is_acked_line (line ∷ rest)) (count_by is_expired_line (line ∷ rest)) new) [
      | None ↦ (λ e h. absurd cc)
      | Some mid ↦ (λ e h.
          let one = line_counted old mid line of_epoch.0 told e in
          let more = lines_counted mid new rest of_epoch.1 one.from_one h in
          record {
            from_one = more.from_one;
            issued = omega (arith, one.issued, more.issued, sum_by-cons (λ l. cond (is_granted_line l) 1 0) line rest);
            acknowledged = omega (arith, one.acknowledged, more.acknowledged, sum_by-cons (λ l. cond (is_acked_line l) 1 0) line rest);
            expired = omega (arith, one.expired, more.expired, sum_by-cons (λ l. cond (is_expired_line l) 1 0) line rest);
          })
    ]) refl is

-- rights that are recorded, and what the lines of one epoch make of them
pub tells : (old : List CacheRight) (printed : List Line) (new : List CacheRight) → IsRecorded old → AreOfEpoch printed → rights_at (map told_of old) printed ≡ Some (map told_of new) → Tells old printed new
tells old printed new h of_epoch is =
    let c = lines_counted (map told_of old) (map told_of new) printed of_epoch (numbered_told 1 old h.numbered) is in
    record {
      rights = is;
      issued = omega (arith, c.issued, length-map old told_of, length-map new told_of);
      acknowledged = omega (arith, c.acknowledged, count_told is_acknowledged_told old, count_told is_acknowledged_told new);
      expired = omega (arith, c.expired, count_told is_expired_told old, count_told is_expired_told new);
    }

-- each right is held, acknowledged or expired
pub told_balanced : (rights : List Told) → length rights ≡ count_as stands rights + count_as was_acknowledged rights + count_as has_expired rights
told_balanced [] = refl
told_balanced (right ∷ rights) =
    let ih = told_balanced rights in
    let all : length (right ∷ rights) ≡ (cond (stands right.status) 1 0 + count_as stands rights) + (cond (was_acknowledged right.status) 1 0 + count_as was_acknowledged rights) + (cond (has_expired right.status) 1 0 + count_as has_expired rights) =
    elim right.status as (λ s. length (right ∷ rights) ≡ (cond (stands s) 1 0 + count_as stands rights) + (cond (was_acknowledged s) 1 0 + count_as was_acknowledged rights) + (cond (has_expired s) 1 0 + count_as has_expired rights)) [
      | statuses.Held ↦ omega (arith, ih)
      | statuses.Acknowledged ↦ omega (arith, ih)
      | statuses.Expired ↦ omega (arith, ih)
    ] in
    omega (arith, all, count_cons stands right rights, count_cons was_acknowledged right rights, count_cons has_expired right rights)
