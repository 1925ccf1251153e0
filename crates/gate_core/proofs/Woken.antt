-- Which changes may be ready is known through each step.
use Rattle.std.proofs.Common.{◌≡◌, ℕ, ◌+◌, ◌<◌, ◌≤◌, Bool, true, false, cond, not, List, [], ◌∷◌, ◌++◌, length, Option, Some, None, Result, Ok, Err, Less, Equal, Greater, arith, refl, sym, subst, ap, ◌∙◌}
use Rattle.std.specs.Prelude.{◌==◌, ◌&&◌, ◌||◌, nat_le, find, is_some, OnOk, OnErr}
use Rattle.std.specs.Result.{is_ok}
use Rattle.std.specs.List.{list_any, list_all, AllByRecursion}
use Rattle.std.specs.List.Sorted.{IsStrictlySortedBy}
use Rattle.std.specs.Option.{option_map, option_map_or}
use Rattle.std.specs.Str.{bytes_eq}
use Rattle.std.specs.Ordering.{nat_cmp}
use Rattle.std.specs.Cmp.{nat_cmp_total}
use Rattle.std.specs.Map.{lookup, keys_of}
use Rattle.std.specs.BTreeMap.{is_at}
use Rattle.std.proofs.lemmas.Bool.Decides.{nat_tests}
use Rattle.collections.proofs.Keys.{apart, number_same}
use Rattle.node_core.specs.Limits.{number_limit}
use Rattle.rights_core.specs.declared.cache_rights.CacheRight.{CacheRight}
use Rattle.rights_core.specs.declared.endings.Ending.{Ending}
use Rattle.rights_core.specs.Rights.{held_on, granted, asked_back, ended, names_ending}
use Rattle.rights_core.proofs.Asks.{below_none}
use Rattle.gate_core.specs.declared.pending.Pending.{Pending}
use Rattle.gate_core.specs.declared.pending.Waiting.{Waiting}
use Rattle.gate_core.specs.Gate.{GateState, touches, is_free, ready, pending_limit, is_numbered, push_answer, without, with_change, AreRising, IsOrderly}
use Rattle.gate_core.specs.Queue.{QueueState}
use Rattle.gate_core.specs.Waking.{is_listed, leads, wakes, is_free_at, AreListed, IsWoken}
use Rattle.gate_core.proofs.OneChange.{found, by_number, before}
use Rattle.gate_core.proofs.Orderly.{answered}
use Rattle.gate_core.proofs.Freed.{freed_named, all_at, not_all, any_at, free_granted, free_asked}

-- ---- the lowest that is free is found among the numbers

none_found : {X : Type 0} (p : X → Bool) (xs : List X) → ((x : X) → p x ≡ false) → find p xs ≡ None
none_found p [] none = refl
none_found p (x ∷ xs) none = ap (λ b. cond b (Some x) (find p xs)) (none x) ∙ none_found p xs none

farther : (a b : ℕ) (fs : List (ℕ × Unit {0})) → nat_cmp a b ≡ Less → AllByRecursion (λ z. nat_cmp b z ≡ Less) (keys_of fs) → AllByRecursion (λ z. nat_cmp a z ≡ Less) (keys_of fs)
farther a b [] k all = tt
farther a b (f ∷ fs) k all = (nat_cmp_total.trans a b f.0 k all.0, farther a b fs k all.1)

first_found : (p : ℕ → Bool) (m : ℕ) (es : List (ℕ × Unit {0})) → IsStrictlySortedBy nat_cmp (keys_of es) → is_listed m es ≡ true → p m ≡ true → ((k : ℕ) → k < m → p k ≡ false) → find p (keys_of es) ≡ Some m
unfolding IsStrictlySortedBy
first_found p m [] sorted listed yes_m low = cc
first_found p m (e ∷ es) sorted listed yes_m low =
    (elim (nat_cmp m e.0) as (λ o. nat_cmp m e.0 ≡ o → cond (p e.0) (Some e.0) (find p (keys_of es)) ≡ Some m) [
      | Less ↦ (λ k.
          let none : lookup (is_at (nat_cmp m)) (e ∷ es) ≡ None = below_none m (e ∷ es) (k, farther m e.0 es k sorted.0) in
          absurd (never (sym listed ∙ ap is_some none)))
      | Equal ↦ (λ k.
          let key : e.0 ≡ m = grind (arith, nat_tests, k) in
          ap (λ b. cond b (Some e.0) (find p (keys_of es))) (ap p key ∙ yes_m) ∙ ap Some key)
      | Greater ↦ (λ k.
          let less : e.0 < m = grind (arith, nat_tests, k) in
          let skipped : is_listed m es ≡ true = ap (λ b. is_some (cond b (Some e.1) (lookup (is_at (nat_cmp m)) es))) (sym (apart m e.0 (omega (arith, less)))) ∙ listed in
          ap (λ b. cond b (Some e.0) (find p (keys_of es))) (low e.0 less) ∙ first_found p m es sorted.1 skipped yes_m low)
    ]) refl
  where
    never : true ≡ false → ⊥
    never h = cc

module _ {T : Type 0} where
  -- what is listed of a change that is found
  at_found : (P : Waiting T → Type 0) (p : Waiting T → Bool) (ws : List (Waiting T)) (w : Waiting T) → AllByRecursion P ws → find p ws ≡ Some w → P w
  at_found P p [] w all h = cc
  at_found P p (v ∷ vs) w all h =
      (elim (p v) as (λ b. cond b (Some v) (find p vs) ≡ Some w → P w) [
        | true ↦ (λ k. let same : v ≡ w = cc in subst P same all.0)
        | false ↦ (λ k. at_found P p vs w all.1 k)
      ]) h

  -- a change that is found by its number isn't free, where none is
  not_free_at : (rights : List CacheRight) (ws : List (Waiting T)) (n : ℕ) → ((w : Waiting T) → find (is_numbered n) ws ≡ Some w → is_free rights w ≡ false) → is_free_at rights ws n ≡ false
  not_free_at rights ws n none =
      (elim (find (is_numbered n) ws) as (λ o. find (is_numbered n) ws ≡ o → option_map_or (is_free rights) o false ≡ false) [
        | None ↦ (λ e. refl)
        | Some w ↦ (λ e. none w e)
      ]) refl

  none_free : (p q : Waiting T → Bool) (ws : List (Waiting T)) (w : Waiting T) → find p ws ≡ None → find q ws ≡ Some w → p w ≡ false
  none_free p q [] w h k = cc
  none_free p q (v ∷ vs) w h k =
      (elim (p v) as (λ b. p v ≡ b → cond b (Some v) (find p vs) ≡ None → p w ≡ false) [
        | true ↦ (λ e t. cc)
        | false ↦ (λ e t.
            (elim (q v) as (λ b. cond b (Some v) (find q vs) ≡ Some w → p w ≡ false) [
              | true ↦ (λ f. let same : v ≡ w = cc in ap p (sym same) ∙ e)
              | false ↦ (λ f. none_free p q vs w t f)
            ]) k)
      ]) refl h

  -- the lowest change that is free is the first of the numbers whose change is
  pub first_ready : (rights : List CacheRight) (free : List (ℕ × Unit {0})) (ws : List (Waiting T)) (low high : ℕ) → AreRising low ws high → IsStrictlySortedBy nat_cmp (keys_of free) → AreListed rights free ws → find (is_free_at rights ws) (keys_of free) ≡ ready rights ws
  first_ready rights free ws low high rising sorted listed =
      (elim (find (is_free rights) ws) as (λ o. find (is_free rights) ws ≡ o → find (is_free_at rights ws) (keys_of free) ≡ option_map (λ (w : Waiting T). w.number) o) [
        | None ↦ (λ e. none_found (is_free_at rights ws) (keys_of free) (λ n. not_free_at rights ws n (λ w h. none_free (is_free rights) (is_numbered n) ws w e h)))
        | Some w ↦ (λ e.
            let is : is_free rights w ≡ true = found (is_free rights) ws w e in
            let here : find (is_numbered w.number) ws ≡ Some w = by_number (is_free rights) low high ws w rising e in
            first_found (is_free_at rights ws) w.number free sorted
            (at_found (λ v. is_free rights v ≡ true → is_listed v.number free ≡ true) (is_free rights) ws w listed e is)
            (ap (λ o. option_map_or (is_free rights) o false) here ∙ is)
            (λ k less. not_free_at rights ws k (λ v h. before (is_free rights) k low high ws v w rising e less h)))
      ]) refl

  -- ---- what holds of all that wait

  all_map : (P Q : Waiting T → Type 0) → ((w : Waiting T) → P w → Q w) → (ws : List (Waiting T)) → AllByRecursion P ws → AllByRecursion Q ws
  all_map P Q f [] all = tt
  all_map P Q f (w ∷ ws) all = (f w all.0, all_map P Q f ws all.1)

  all_both : (P Q R : Waiting T → Type 0) → ((w : Waiting T) → P w → Q w → R w) → (ws : List (Waiting T)) → AllByRecursion P ws → AllByRecursion Q ws → AllByRecursion R ws
  all_both P Q R f [] all too = tt
  all_both P Q R f (w ∷ ws) all too = (f w all.0 too.0, all_both P Q R f ws all.1 too.1)

  all_end : (P : Waiting T → Type 0) (ws : List (Waiting T)) (w : Waiting T) → AllByRecursion P ws → P w → AllByRecursion P (ws ++ w ∷ [])
  all_end P [] w all last = (last, tt)
  all_end P (v ∷ vs) w all last = (all.0, all_end P vs w all.1 last)

  -- none of them has this number
  abbrev AreOthers : ℕ → List (Waiting T) → Type 0
  AreOthers number ws = AllByRecursion (λ w. (w.number == number) ≡ false) ws

  others_above : (number low high : ℕ) (ws : List (Waiting T)) → number ≤ low → AreRising low ws high → AreOthers number ws
  others_above number low high [] le rising = tt
  others_above number low high (w ∷ ws) le rising =
      let less : low < w.number = rising.above in
      (grind (arith, nat_tests, le, less), others_above number w.number high ws (omega (arith, le, less)) rising.rest)

  high_above : (low high : ℕ) (ws : List (Waiting T)) → AreRising low ws high → low ≤ high
  high_above low high [] rising = rising
  high_above low high (w ∷ ws) rising = omega (arith, rising.above, high_above w.number high ws rising.rest)

  others_below : (number low high : ℕ) (ws : List (Waiting T)) → high < number → AreRising low ws high → AreOthers number ws
  others_below number low high [] less rising = tt
  others_below number low high (w ∷ ws) less rising =
      let most : w.number ≤ high = high_above w.number high ws rising.rest in
      (grind (arith, nat_tests, less, most), others_below number w.number high ws less rising.rest)

  all_without : (P Q : Waiting T → Type 0) (number low high : ℕ) → ((w : Waiting T) → P w → (w.number == number) ≡ false → Q w) → (ws : List (Waiting T)) → AreRising low ws high → AllByRecursion P ws → AllByRecursion Q (without number ws)
  all_without P Q number low high f [] rising all = tt
  all_without P Q number low high f (w ∷ ws) rising all =
      (elim (is_numbered number w) as (λ b. is_numbered number w ≡ b → AllByRecursion Q (cond b ws (w ∷ without number ws))) [
        | true ↦ (λ e.
            let same : number ≡ w.number = number_same number w.number e in
            all_both P (λ v. (v.number == number) ≡ false) Q f ws all.1 (others_above number w.number high ws (omega (arith, same)) rising.rest))
        | false ↦ (λ e. (f w all.0 (swap w.number e), all_without P Q number w.number high f ws rising.rest all.1))
      ]) refl
    where
      swap : (n : ℕ) → (number == n) ≡ false → (n == number) ≡ false
      swap n e = grind (arith, nat_tests, e)

  -- ---- each step

  -- rights that free no change
  woken_fewer : (rights later : List CacheRight) (ws : List (Waiting T)) (free : List (ℕ × Unit {0})) (complete : Bool) (touching : List (List ℕ × List (ℕ × Unit {0})))
      → ((w : Waiting T) → is_free later w ≡ true → is_free rights w ≡ true) → IsWoken rights ws free complete touching → IsWoken later ws free complete touching
  woken_fewer rights later ws free complete touching fewer k = record {
    listed = λ h. all_map (λ w. is_free rights w ≡ true → is_listed w.number free ≡ true) (λ w. is_free later w ≡ true → is_listed w.number free ≡ true) (λ w f e. f (fewer w e)) ws (k.listed h);
    led = k.led;
  }

  pub woken_granted : {A E : Type 0} (r : Result A E) (c : ℕ) (x : List ℕ) (rights later : List CacheRight) (ws : List (Waiting T)) (free : List (ℕ × Unit {0})) (complete : Bool) (touching : List (List ℕ × List (ℕ × Unit {0})))
      → OnOk r (later ≡ granted c x rights) → OnErr r (later ≡ rights) → IsWoken rights ws free complete touching → IsWoken later ws free complete touching
  woken_granted (Ok a) c x rights later ws free complete touching is same k = rw is (woken_fewer rights (granted c x rights) ws free complete touching (free_granted c x rights) k)
  woken_granted (Err e) c x rights later ws free complete touching is same k = rw same k

  pub woken_asked : (x : List ℕ) (rights later : List CacheRight) (ws : List (Waiting T)) (free : List (ℕ × Unit {0})) (complete : Bool) (touching : List (List ℕ × List (ℕ × Unit {0})))
      → later ≡ asked_back x rights → IsWoken rights ws free complete touching → IsWoken later ws free complete touching
  woken_asked x rights later ws free complete touching is k = rw is (woken_fewer rights (asked_back x rights) ws free complete touching (free_asked x rights) k)

  -- where the numbers aren't those of all changes
  pub woken_unknown : (rights later : List CacheRight) (ws : List (Waiting T)) (free free' : List (ℕ × Unit {0})) (complete complete' : Bool) (touching : List (List ℕ × List (ℕ × Unit {0})))
      → complete' ≡ false → IsWoken rights ws free complete touching → IsWoken later ws free' complete' touching
  woken_unknown rights later ws free free' complete complete' touching none k = record { listed = λ h. let never : true ≡ false = sym h ∙ none in cc; led = k.led }

  -- a change that is free once rights have ended
  freed_listed : (c : ℕ) (e : Ending) (rights : List CacheRight) (free free' : List (ℕ × Unit {0})) (touching : List (List ℕ × List (ℕ × Unit {0}))) (w : Waiting T)
      → ((n : ℕ) → is_listed n free' ≡ (list_any (wakes (ended c e rights) touching n) (names_ending c e rights) || is_listed n free))
      → (is_free rights w ≡ true → is_listed w.number free ≡ true) → ((name : List ℕ) → touches name w ≡ true → leads name w.number touching ≡ true)
      → is_free (ended c e rights) w ≡ true → is_listed w.number free' ≡ true
  freed_listed c e rights free free' touching w woken listed led now =
      (elim (is_free rights w) as (λ b. is_free rights w ≡ b → is_listed w.number free' ≡ true) [
        | true ↦ (λ h. woken w.number ∙ too (list_any (wakes (ended c e rights) touching w.number) (names_ending c e rights)) (is_listed w.number free) (listed h))
        | false ↦ (λ h.
            let held = not_all (λ y. held_on y rights == 0) w.change.touched h in
            let y : List ℕ = held.0 in
            let none : (held_on y (ended c e rights) == 0) ≡ true = all_at (λ z. held_on z (ended c e rights) == 0) y w.change.touched now held.1 in
            let named : list_any (bytes_eq y) (names_ending c e rights) ≡ true = freed_named c e y rights held.2 none in
            woken w.number
            ∙ ap (λ b. b || is_listed w.number free) (any_at (wakes (ended c e rights) touching w.number) y (names_ending c e rights) named (both (held_on y (ended c e rights) == 0) (leads y w.number touching) none (led y held.1))))
      ]) refl
    where
      too : (a b : Bool) → b ≡ true → (a || b) ≡ true
      too true b h = refl
      too false b h = h

      both : (a b : Bool) → a ≡ true → b ≡ true → (a && b) ≡ true
      both a b h k = rw (h, k) refl

  pub woken_ended : {E : Type 0} (r : Result (Unit {0}) E) (c : ℕ) (e : Ending) (rights later : List CacheRight) (names : List (List ℕ)) (ws : List (Waiting T)) (free free' : List (ℕ × Unit {0})) (complete complete' : Bool) (touching : List (List ℕ × List (ℕ × Unit {0})))
      → later ≡ ended c e rights → names ≡ names_ending c e rights → complete ≡ true → complete' ≡ is_ok r
      → OnOk r ((n : ℕ) → is_listed n free' ≡ (list_any (wakes later touching n) names || is_listed n free)) → IsWoken rights ws free complete touching → IsWoken later ws free' complete' touching
  woken_ended (Ok u) c e rights later names ws free free' complete complete' touching is named all was woken k = record {
    listed = λ h.
        all_both (λ w. is_free rights w ≡ true → is_listed w.number free ≡ true) (λ w. (name : List ℕ) → touches name w ≡ true → leads name w.number touching ≡ true) (λ w. is_free later w ≡ true → is_listed w.number free' ≡ true)
        (λ w listed led now. freed_listed c e rights free free' touching w (λ n. woken n ∙ (ap (λ rs. list_any (wakes rs touching n) names || is_listed n free) is ∙ ap (λ l. list_any (wakes (ended c e rights) touching n) l || is_listed n free) named)) listed led (ap (λ rs. is_free rs w) (sym is) ∙ now))
        ws (k.listed all) k.led;
    led = k.led;
  }
  woken_ended (Err x) c e rights later names ws free free' complete complete' touching is named all was woken k = woken_unknown rights later ws free free' complete complete' touching was k

  -- where no change is ready
  pub woken_quiet : (state : QueueState T) (rights : List CacheRight) (gate : GateState T) (result : Option ℕ) (free free' : List (ℕ × Unit {0})) (complete complete' : Bool) (touching : List (List ℕ × List (ℕ × Unit {0})))
      → record { rights = rights; gate = gate } ≡ state → result ≡ ready state.rights state.gate.waiting → is_some result ≡ false → IsWoken rights gate.waiting free complete touching → IsWoken rights gate.waiting free' complete' touching
  woken_quiet state rights gate result free free' complete complete' touching view is none k =
      let here : ready rights gate.waiting ≡ result = ap {A = QueueState T} (λ s. ready s.rights s.gate.waiting) view ∙ sym is in
      record { listed = λ h. no_free gate.waiting (nothing (find (is_free rights) gate.waiting) (here ∙ without_value result none)); led = k.led }
    where
      without_value : (o : Option ℕ) → is_some o ≡ false → o ≡ None
      without_value None h = refl
      without_value (Some n) h = cc

      nothing : (o : Option (Waiting T)) → option_map (λ (w : Waiting T). w.number) o ≡ None → o ≡ None
      nothing None h = refl
      nothing (Some w) h = cc

      no_free : (vs : List (Waiting T)) → find (is_free rights) vs ≡ None → AllByRecursion (λ w. is_free rights w ≡ true → is_listed w.number free' ≡ true) vs
      no_free [] h = tt
      no_free (v ∷ vs) h =
          (elim (is_free rights v) as (λ b. is_free rights v ≡ b → cond b (Some v) (find (is_free rights) vs) ≡ None → AllByRecursion (λ w. is_free rights w ≡ true → is_listed w.number free' ≡ true) (v ∷ vs)) [
            | true ↦ (λ e t. cc)
            | false ↦ (λ e t. (λ f. let never : true ≡ false = sym f ∙ e in cc, no_free vs t))
          ]) refl h

  -- a change that comes
  pub woken_pushed : (rights : List CacheRight) (ws : List (Waiting T)) (free free' : List (ℕ × Unit {0})) (complete : Bool) (touching touching' : List (List ℕ × List (ℕ × Unit {0}))) (w : Waiting T)
      → ((x : List ℕ) (n : ℕ) → leads x n touching' ≡ ((list_any (bytes_eq x) w.change.touched && (n == w.number)) || leads x n touching))
      → ((n : ℕ) → is_listed n free' ≡ ((list_all (λ x. held_on x rights == 0) w.change.touched && (n == w.number)) || is_listed n free))
      → IsWoken rights ws free complete touching → IsWoken rights (ws ++ w ∷ []) free' complete touching'
  woken_pushed rights ws free free' complete touching touching' w led listed k = record {
    listed = λ h.
        all_end (λ v. is_free rights v ≡ true → is_listed v.number free' ≡ true) ws w
        (all_map (λ v. is_free rights v ≡ true → is_listed v.number free ≡ true) (λ v. is_free rights v ≡ true → is_listed v.number free' ≡ true) (λ v f e. listed v.number ∙ too (is_free rights w && (v.number == w.number)) (is_listed v.number free) (f e)) ws (k.listed h))
        (λ e. listed w.number ∙ own (is_free rights w) (w.number == w.number) (is_listed w.number free) e (itself w.number));
    led =
        all_end (λ v. (x : List ℕ) → touches x v ≡ true → leads x v.number touching' ≡ true) ws w
        (all_map (λ v. (x : List ℕ) → touches x v ≡ true → leads x v.number touching ≡ true) (λ v. (x : List ℕ) → touches x v ≡ true → leads x v.number touching' ≡ true) (λ v f x e. led x v.number ∙ too (touches x w && (v.number == w.number)) (leads x v.number touching) (f x e)) ws k.led)
        (λ x e. led x w.number ∙ own (touches x w) (w.number == w.number) (leads x w.number touching) e (itself w.number));
  }
    where
      too : (a b : Bool) → b ≡ true → (a || b) ≡ true
      too true b h = refl
      too false b h = h

      own : (a b c : Bool) → a ≡ true → b ≡ true → ((a && b) || c) ≡ true
      own a b c h k = rw (h, k) refl

      itself : (n : ℕ) → (n == n) ≡ true
      itself n = grind (arith, nat_tests)

  -- where nothing changed but at a number that no change has
  pub woken_others : (rights : List CacheRight) (ws : List (Waiting T)) (free free' : List (ℕ × Unit {0})) (complete : Bool) (touching touching' : List (List ℕ × List (ℕ × Unit {0}))) (number low high : ℕ)
      → AreRising low ws high → high < number
      → ((x : List ℕ) (n : ℕ) → (n == number) ≡ false → leads x n touching' ≡ leads x n touching) → ((n : ℕ) → (n == number) ≡ false → is_listed n free' ≡ is_listed n free)
      → IsWoken rights ws free complete touching → IsWoken rights ws free' complete touching'
  woken_others rights ws free free' complete touching touching' number low high rising less led listed k =
      let others : AreOthers number ws = others_below number low high ws less rising in
      record {
        listed = λ h. all_both (λ w. is_free rights w ≡ true → is_listed w.number free ≡ true) (λ w. (w.number == number) ≡ false) (λ w. is_free rights w ≡ true → is_listed w.number free' ≡ true) (λ w f o e. listed w.number o ∙ f e) ws (k.listed h) others;
        led = all_both (λ w. (x : List ℕ) → touches x w ≡ true → leads x w.number touching ≡ true) (λ w. (w.number == number) ≡ false) (λ w. (x : List ℕ) → touches x w ≡ true → leads x w.number touching' ≡ true) (λ w f o x e. led x w.number o ∙ f x e) ws k.led others;
      }

  -- a change that is taken out
  pub woken_taken : (rights : List CacheRight) (ws : List (Waiting T)) (free free' : List (ℕ × Unit {0})) (complete : Bool) (touching touching' : List (List ℕ × List (ℕ × Unit {0}))) (number low high : ℕ) (names : List (List ℕ))
      → AreRising low ws high
      → ((x : List ℕ) (n : ℕ) → leads x n touching' ≡ (not (list_any (bytes_eq x) names && (n == number)) && leads x n touching)) → ((n : ℕ) → is_listed n free' ≡ (not (n == number) && is_listed n free))
      → IsWoken rights ws free complete touching → IsWoken rights (without number ws) free' complete touching'
  woken_taken rights ws free free' complete touching touching' number low high names rising led listed k = record {
    listed = λ h. all_without (λ w. is_free rights w ≡ true → is_listed w.number free ≡ true) (λ w. is_free rights w ≡ true → is_listed w.number free' ≡ true) number low high (λ w f o e. listed w.number ∙ left (w.number == number) (is_listed w.number free) o (f e)) ws rising (k.listed h);
    led = all_without (λ w. (x : List ℕ) → touches x w ≡ true → leads x w.number touching ≡ true) (λ w. (x : List ℕ) → touches x w ≡ true → leads x w.number touching' ≡ true) number low high (λ w f o x e. led x w.number ∙ spared (list_any (bytes_eq x) names) (w.number == number) (leads x w.number touching) o (f x e)) ws rising k.led;
  }
    where
      left : (a b : Bool) → a ≡ false → b ≡ true → (not a && b) ≡ true
      left a b h k = rw (h, k) refl

      spared : (a b c : Bool) → b ≡ false → c ≡ true → (not (a && b) && c) ≡ true
      spared true b c h k = rw (h, k) refl
      spared false b c h k = k

  -- ---- steps on the gate

  pub woken_push : (rights : List CacheRight) (gate gate' : GateState T) (change : Pending T) (names : List (List ℕ)) (number : ℕ) (free free' : List (ℕ × Unit {0})) (complete : Bool) (touching touching' : List (List ℕ × List (ℕ × Unit {0})))
      → push_answer gate ≡ Ok number → names ≡ change.touched → gate' ≡ with_change change gate
      → ((x : List ℕ) (n : ℕ) → leads x n touching' ≡ ((list_any (bytes_eq x) names && (n == number)) || leads x n touching))
      → ((n : ℕ) → is_listed n free' ≡ ((list_all (λ x. held_on x rights == 0) names && (n == number)) || is_listed n free))
      → IsWoken rights gate.waiting free complete touching → IsWoken rights gate'.waiting free' complete touching'
  woken_push rights gate gate' change names number free free' complete touching touching' answer same is led listed k =
      let next : number ≡ gate.pushed + 1 = (answered (nat_le pending_limit (length gate.waiting)) (nat_le number_limit gate.pushed) (gate.pushed + 1) number (sym answer)).2 in
      let w : Waiting T = record { number = gate.pushed + 1; change = change } in
      rw is
      (woken_pushed rights gate.waiting free free' complete touching touching' w
      (λ x n. led x n ∙ ap (λ m. (list_any (bytes_eq x) names && (n == m)) || leads x n touching) next ∙ ap (λ l. (list_any (bytes_eq x) l && (n == w.number)) || leads x n touching) same)
      (λ n. listed n ∙ ap (λ m. (list_all (λ x. held_on x rights == 0) names && (n == m)) || is_listed n free) next ∙ ap (λ l. (list_all (λ x. held_on x rights == 0) l && (n == w.number)) || is_listed n free) same)
      k)

  -- a change that is refused
  pub woken_refused : (rights : List CacheRight) (gate gate' : GateState T) (number : ℕ) (free free' : List (ℕ × Unit {0})) (complete : Bool) (touching touching' : List (List ℕ × List (ℕ × Unit {0})))
      → IsOrderly gate → push_answer gate ≡ Ok number → gate' ≡ gate
      → ((x : List ℕ) (n : ℕ) → (n == number) ≡ false → leads x n touching' ≡ leads x n touching) → ((n : ℕ) → (n == number) ≡ false → is_listed n free' ≡ is_listed n free)
      → IsWoken rights gate.waiting free complete touching → IsWoken rights gate'.waiting free' complete touching'
  woken_refused rights gate gate' number free free' complete touching touching' orderly answer same led listed k =
      let next : number ≡ gate.pushed + 1 = (answered (nat_le pending_limit (length gate.waiting)) (nat_le number_limit gate.pushed) (gate.pushed + 1) number (sym answer)).2 in
      rw same (woken_others rights gate.waiting free free' complete touching touching' number 0 gate.pushed orderly.rising (omega (arith, next)) led listed k)

  pub woken_take : (rights : List CacheRight) (gate gate' : GateState T) (number : ℕ) (names : List (List ℕ)) (free free' : List (ℕ × Unit {0})) (complete : Bool) (touching touching' : List (List ℕ × List (ℕ × Unit {0})))
      → IsOrderly gate → gate' ≡ record gate { waiting = without number gate.waiting }
      → ((x : List ℕ) (n : ℕ) → leads x n touching' ≡ (not (list_any (bytes_eq x) names && (n == number)) && leads x n touching)) → ((n : ℕ) → is_listed n free' ≡ (not (n == number) && is_listed n free))
      → IsWoken rights gate.waiting free complete touching → IsWoken rights gate'.waiting free' complete touching'
  woken_take rights gate gate' number names free free' complete touching touching' orderly is led listed k =
      rw is (woken_taken rights gate.waiting free free' complete touching touching' number 0 gate.pushed names orderly.rising led listed k)

  -- where no change was taken out
  pub woken_left : (rights : List CacheRight) (gate gate' : GateState T) (number : ℕ) (free : List (ℕ × Unit {0})) (complete : Bool) (touching : List (List ℕ × List (ℕ × Unit {0})))
      → IsOrderly gate → gate' ≡ record gate { waiting = without number gate.waiting } → IsWoken rights gate.waiting free complete touching → IsWoken rights gate'.waiting free complete touching
  woken_left rights gate gate' number free complete touching orderly is k =
      let P : Waiting T → Type 0 = λ w. is_free rights w ≡ true → is_listed w.number free ≡ true in
      let Q : Waiting T → Type 0 = λ w. (x : List ℕ) → touches x w ≡ true → leads x w.number touching ≡ true in
      rw is
      (record {
        listed = λ h. all_without P P number 0 gate.pushed (λ w p o. p) gate.waiting orderly.rising (k.listed h);
        led = all_without Q Q number 0 gate.pushed (λ w q o. q) gate.waiting orderly.rising k.led;
      })

-- what was noted and forgotten
pub others_back : (any more q now noted was : Bool) → now ≡ (not (any && q) && noted) → noted ≡ ((more && q) || was) → q ≡ false → now ≡ was
others_back true more true now noted was e f h = cc
others_back false more true now noted was e f h = cc
others_back true true false now noted was e f h = e ∙ f
others_back true false false now noted was e f h = e ∙ f
others_back false true false now noted was e f h = e ∙ f
others_back false false false now noted was e f h = e ∙ f

pub other_back : (more q now noted was : Bool) → now ≡ (not q && noted) → noted ≡ ((more && q) || was) → q ≡ false → now ≡ was
other_back more true now noted was e f h = cc
other_back true false now noted was e f h = e ∙ f
other_back false false now noted was e f h = e ∙ f
