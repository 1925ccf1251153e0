-- What each step of the two sets does to when a key is looked at.
use Rattle.std.proofs.Common.{◌≡◌, ◌≢◌, ℕ, ◌<◌, ◌≤◌, List, [], ◌∷◌, Bool, true, false, cond, Some, refl, sym, ap, ◌∙◌, arith, nat_eq}
use Rattle.std.specs.Prelude.{◌||◌, ◌&&◌, ◌^◌, ◌+◌, nat_le, All, length, slice_get, if◌then◌else◌}
use Rattle.std.specs.Ordering.{nat_cmp, is_eq, is_gt}
use Rattle.std.specs.Cmp.{unsigned_tied, tied_then}
use Rattle.std.specs.BTreeMap.{is_at}
use Rattle.std.specs.BTreeMap.Range.{IsLeBy}
use Rattle.std.proofs.lemmas.Bool.Decides.{nat_tests}
use Rattle.std.proofs.lemmas.List.Elements.{All-head, All-tail}
use Rattle.collections.proofs.Keys.{at_itself}
use Rattle.collections.specs.Timers.{TimerState, by_moment, never, has_key, has_moment, wakes, has_come}

-- ---- keys and moments

is_same : (k key : ℕ) → is_at (nat_cmp key) k ≡ nat_eq key k
is_same k key = unsigned_tied key k

apart : (k key : ℕ) → nat_eq k key ≡ false → is_at (nat_cmp key) k ≡ false
apart k key h = is_same k key ∙ grind (arith, nat_tests)

and_true : (a b : Bool) → (a && b) ≡ true → b ≡ true
and_true true b h = h
and_true false b h = absurd (cc)

and_false : (a b : Bool) → b ≡ false → (a && b) ≡ false
and_false true b h = h
and_false false b h = refl

moment_apart : (k m key moment : ℕ) → nat_eq k key ≡ false → is_at (by_moment (moment, key)) (m, k) ≡ false
moment_apart k m key moment h = sym (tied_then (nat_cmp moment m) (nat_cmp key k)) ∙ and_false (is_eq (nat_cmp moment m)) (is_eq (nat_cmp key k)) (apart k key h)

moment_same : (k m key moment : ℕ) → is_at (by_moment (moment, key)) (m, k) ≡ true → is_at (nat_cmp key) k ≡ true
moment_same k m key moment h = and_true (is_eq (nat_cmp moment m)) (is_eq (nat_cmp key k)) (tied_then (nat_cmp moment m) (nat_cmp key k) ∙ h)

-- ---- the two sets as functions

abbrev pub KeyUpdates : ℕ → Bool → List ℕ → List ℕ → Type 0
KeyUpdates key there old new = (q : ℕ) → has_key new q ≡ cond (is_at (nat_cmp key) q) there (has_key old q)

abbrev pub MomentUpdates : ℕ × ℕ → Bool → List (ℕ × ℕ) → List (ℕ × ℕ) → Type 0
MomentUpdates found there old new = (q : ℕ × ℕ) → has_moment new q.1 q.0 ≡ cond (is_at (by_moment found) q) there (has_moment old q.1 q.0)

stays : (b x : Bool) → x ≡ true → cond b true x ≡ true
stays true x h = refl
stays false x h = h

pub key_stays : (key q : ℕ) (old new : List ℕ) → KeyUpdates key true old new → has_key old q ≡ true → has_key new q ≡ true
key_stays key q old new h there = h q ∙ stays (is_at (nat_cmp key) q) (has_key old q) there

pub key_left : (key q : ℕ) (old new : List ℕ) → KeyUpdates key false old new → nat_eq q key ≡ false → has_key old q ≡ true → has_key new q ≡ true
key_left key q old new h differs there = h q ∙ (ap (λ b. cond b false (has_key old q)) (apart q key differs) ∙ there)

pub moment_stays : (found : ℕ × ℕ) (k m : ℕ) (old new : List (ℕ × ℕ)) → MomentUpdates found true old new → has_moment old k m ≡ true → has_moment new k m ≡ true
moment_stays found k m old new h there = h (m, k) ∙ stays (is_at (by_moment found) (m, k)) (has_moment old k m) there

pub moment_left : (key moment k m : ℕ) (old new : List (ℕ × ℕ)) → MomentUpdates (moment, key) false old new → nat_eq k key ≡ false → has_moment old k m ≡ true → has_moment new k m ≡ true
moment_left key moment k m old new h differs there = h (m, k) ∙ (ap (λ b. cond b false (has_moment old k m)) (moment_apart k m key moment differs) ∙ there)

-- ---- when a key is looked at

-- where each way of before leads to one of now
more : (lost late a b c : Bool) → (a ≡ true → c ≡ true) → (b ≡ true → c ≡ true) → (lost || (late || (a || b))) ≡ true → (lost || (late || c)) ≡ true
more true late a b c f g h = refl
more false true a b c f g h = refl
more false false true b c f g h = f refl
more false false false true c f g h = g refl
more false false false false c f g h = absurd (cc)

left : (a b : Bool) → a ≡ true → (a || b) ≡ true
left true b h = refl
left false b h = absurd (cc)

right : (a b : Bool) → b ≡ true → (a || b) ≡ true
right true b h = refl
right false b h = h

both : (lost : Bool) (k m : ℕ) (soon soon' : List ℕ) (later later' : List (ℕ × ℕ)) → (has_key soon k ≡ true → has_key soon' k ≡ true) → (has_moment later k m ≡ true → has_moment later' k m ≡ true) → wakes (record { soon = soon; later = later; lost = lost }) k m ≡ true → wakes (record { soon = soon'; later = later'; lost = lost }) k m ≡ true
both lost k m soon soon' later later' f g h =
    more lost (nat_le never m) (has_key soon k) (has_moment later k m) (has_key soon' k || has_moment later' k m)
    (λ e. left (has_key soon' k) (has_moment later' k m) (f e)) (λ e. right (has_key soon' k) (has_moment later' k m) (g e)) h

of_view : (view now : TimerState) (k m : ℕ) → view ≡ now → wakes now k m ≡ true → wakes view k m ≡ true
of_view view now k m same h = ap (λ t. wakes t k m) same ∙ h

pub kept_with : (lost : Bool) (soon : List ℕ) (later later' : List (ℕ × ℕ)) (now : TimerState) (found : ℕ × ℕ) → record { soon = soon; later = later; lost = lost } ≡ now → MomentUpdates found true later later' → (k m : ℕ) → wakes now k m ≡ true → wakes (record { soon = soon; later = later'; lost = lost }) k m ≡ true
kept_with lost soon later later' now found same h k m old =
    both lost k m soon soon later later' (λ e. e) (moment_stays found k m later later' h) (of_view (record { soon = soon; later = later; lost = lost }) now k m same old)

pub kept_with_key : (lost : Bool) (soon soon' : List ℕ) (later : List (ℕ × ℕ)) (now : TimerState) (key : ℕ) → record { soon = soon; later = later; lost = lost } ≡ now → KeyUpdates key true soon soon' → (k m : ℕ) → wakes now k m ≡ true → wakes (record { soon = soon'; later = later; lost = lost }) k m ≡ true
kept_with_key lost soon soon' later now key same h k m old =
    both lost k m soon soon' later later (key_stays key k soon soon' h) (λ e. e) (of_view (record { soon = soon; later = later; lost = lost }) now k m same old)

shown : (lost late a b : Bool) → a ≡ true → (lost || (late || (a || b))) ≡ true
shown true late a b h = refl
shown false true a b h = refl
shown false false true b h = refl
shown false false false b h = absurd (cc)

-- a key to look at is looked at from each moment on
pub woken_now : (lost : Bool) (soon soon' : List ℕ) (later : List (ℕ × ℕ)) (key : ℕ) → KeyUpdates key true soon soon' → (m : ℕ) → wakes (record { soon = soon'; later = later; lost = lost }) key m ≡ true
woken_now lost soon soon' later key h m =
    shown lost (nat_le never m) (has_key soon' key) (has_moment later key m) (h key ∙ ap (λ b. cond b true (has_key soon key)) (at_itself key))

pub kept_without_moment : (lost : Bool) (soon : List ℕ) (later later' : List (ℕ × ℕ)) (now : TimerState) (key moment : ℕ) → record { soon = soon; later = later; lost = lost } ≡ now → MomentUpdates (moment, key) false later later' → (k m : ℕ) → nat_eq k key ≡ false → wakes now k m ≡ true → wakes (record { soon = soon; later = later'; lost = lost }) k m ≡ true
kept_without_moment lost soon later later' now key moment same h k m differs old =
    both lost k m soon soon later later' (λ e. e) (moment_left key moment k m later later' h differs) (of_view (record { soon = soon; later = later; lost = lost }) now k m same old)

pub kept_without_key : (lost : Bool) (soon soon' : List ℕ) (later : List (ℕ × ℕ)) (now : TimerState) (key : ℕ) → record { soon = soon; later = later; lost = lost } ≡ now → KeyUpdates key false soon soon' → (k m : ℕ) → nat_eq k key ≡ false → wakes now k m ≡ true → wakes (record { soon = soon'; later = later; lost = lost }) k m ≡ true
kept_without_key lost soon soon' later now key same h k m differs old =
    both lost k m soon soon' later later (key_left key k soon soon' h differs) (λ e. e) (of_view (record { soon = soon; later = later; lost = lost }) now k m same old)

pub kept_without : (lost : Bool) (soon soon' : List ℕ) (later later' : List (ℕ × ℕ)) (now : TimerState) (key moment : ℕ) → record { soon = soon; later = later; lost = lost } ≡ now → KeyUpdates key false soon soon' → MomentUpdates (moment, key) false later later' → (k m : ℕ) → nat_eq k key ≡ false → wakes now k m ≡ true → wakes (record { soon = soon'; later = later'; lost = lost }) k m ≡ true
kept_without lost soon soon' later later' now key moment same h g k m differs old =
    both lost k m soon soon' later later' (key_left key k soon soon' h differs) (moment_left key moment k m later later' g differs) (of_view (record { soon = soon; later = later; lost = lost }) now k m same old)

-- a key that is found is among those to look at
woken : (lost late a b b' a' at at_key : Bool) → (at ≡ true → at_key ≡ true) → a' ≡ cond at_key true a → b' ≡ cond at false b → (lost || (late || (a || b))) ≡ true → (lost || (late || (a' || b'))) ≡ true
woken true late a b b' a' at at_key f g h old = refl
woken false true a b b' a' at at_key f g h old = refl
woken false false true b b' a' at at_key f g h old = left a' b' (g ∙ stays at_key true refl)
woken false false false b b' a' true at_key f g h old = left a' b' (g ∙ ap (λ x. cond x true false) (f refl))
woken false false false b b' a' false at_key f g h old = right a' b' (h ∙ old)

pub kept_woken : (lost : Bool) (soon soon' : List ℕ) (later later' : List (ℕ × ℕ)) (now : TimerState) (found : ℕ × ℕ) → record { soon = soon; later = later; lost = lost } ≡ now → KeyUpdates found.1 true soon soon' → MomentUpdates found false later later' → (k m : ℕ) → wakes now k m ≡ true → wakes (record { soon = soon'; later = later'; lost = lost }) k m ≡ true
kept_woken lost soon soon' later later' now found same h g k m old =
    woken lost (nat_le never m) (has_key soon k) (has_moment later k m) (has_moment later' k m) (has_key soon' k) (is_at (by_moment found) (m, k)) (is_at (nat_cmp found.1) k)
    (moment_same k m found.1 found.0) (h k) (g (m, k)) (of_view (record { soon = soon; later = later; lost = lost }) now k m same old)

pub fewer : (later later' : List (ℕ × ℕ)) (timers : TimerState) (view : TimerState) (moment key : ℕ) (was : Bool) → view ≡ timers → view.later ≡ later → has_moment timers.later key moment ≡ true → was ≡ has_moment later key moment → length later' + (if was then 1 else 0) ≡ length later → length later' + 1 ≡ length timers.later
fewer later later' timers view moment key was same is there found len =
    let all : later ≡ timers.later = sym is ∙ ap (λ (t : TimerState). t.later) same in
    let yes : was ≡ true = found ∙ (ap (λ l. has_moment l key moment) all ∙ there) in
    sym (ap (λ (b : Bool). length later' + (if b then 1 else 0)) yes) ∙ (len ∙ ap length all)

-- ---- which keys there are to look at

nothing : (none late a b : Bool) → late ≡ false → b ≡ false → (false || (late || (a || b))) ≡ true → a ≡ true
nothing none late true b f g h = refl
nothing none late false b f g h = absurd (cc)

below_never : (now : ℕ) → now < 2 ^ 64 → now ≢ never → now < never
below_never now fits differs = omega arith

not_late : (m now : ℕ) → m ≤ now → now < never → nat_le never m ≡ false
not_late m now le lt = grind (arith, nat_tests)

pub among : (lost : Bool) (soon : List ℕ) (later : List (ℕ × ℕ)) (timers : TimerState) (now : ℕ) → record { soon = soon; later = later; lost = lost } ≡ timers → lost ≡ false → now < 2 ^ 64 → now ≢ never → ((q n : ℕ) → has_moment timers.later q n ≡ true → now < n) → (k m : ℕ) → wakes timers k m ≡ true → m ≤ now → has_key soon k ≡ true
among lost soon later timers now same known fits early h k m old le =
    let mine : wakes (record { soon = soon; later = later; lost = lost }) k m ≡ true = of_view (record { soon = soon; later = later; lost = lost }) timers k m same old in
    let found : (false || (nat_le never m || (has_key soon k || has_moment later k m))) ≡ true = sym (ap (λ b. b || (nat_le never m || (has_key soon k || has_moment later k m))) known) ∙ mine in
    let late : nat_le never m ≡ false = not_late m now le (below_never now fits early) in
    (elim (has_moment later k m) as (λ b. has_moment later k m ≡ b → has_key soon k ≡ true) [
      | true ↦ (λ e. absurd (let less : now < m = h k m (sym (ap (λ t. has_moment t.later k m) same) ∙ e) in omega arith))
      | false ↦ (λ e. nothing false (nat_le never m) (has_key soon k) (has_moment later k m) late e found)
    ]) refl

pub not_above : (first_moment first_key m k now : ℕ) → now < first_moment → is_gt (by_moment (first_moment, first_key) (m, k)) ≡ false → now < m
not_above first_moment first_key m k now lt h = grind (arith, nat_tests)

-- ---- whether all keys to look at are known

pub first_come : (later : List (ℕ × ℕ)) (first : ℕ × ℕ) (now : ℕ) → slice_get later 0 ≡ Some first → first.0 ≤ now → has_come later now ≡ true
first_come [] first now is le = absurd (cc)
first_come (e ∷ es) first now is le =
    let same : e ≡ first = cc in
    left (nat_le e.0 now) (has_come es now) (ap (λ (x : ℕ × ℕ). nat_le x.0 now) same ∙ grind (arith, nat_tests))

later_than : (first e : ℕ × ℕ) (now : ℕ) → now < first.0 → is_gt (by_moment first e) ≡ false → nat_le e.0 now ≡ false
later_than first e now lt h =
    let over : now < e.0 = not_above first.0 first.1 e.0 e.1 now lt h in
    grind (arith, nat_tests)

pub none_come : (later : List (ℕ × ℕ)) (first : ℕ × ℕ) (now : ℕ) → now < first.0 → All (IsLeBy by_moment first) later → has_come later now ≡ false
none_come [] first now lt h = refl
none_come (e ∷ es) first now lt h =
    rw (later_than first e now lt (All-head (IsLeBy by_moment first) e es h)) (none_come es first now lt (All-tail (IsLeBy by_moment first) e es h))
