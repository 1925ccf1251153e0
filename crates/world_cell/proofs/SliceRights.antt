-- What is seen of a client's right to a name, where a step on the rights leaves it.
use Rattle.std.proofs.Common.{◌≡◌, ◌≢◌, ◌⊎◌, inl, inr, ℕ, ◌+◌, ◌<◌, ◌≤◌, max, Bool, true, false, cond, List, Option, Some, None, Result, Ok, Err, arith, refl, ap, ◌∙◌}
use Rattle.std.specs.Prelude.{◌==◌, ◌&&◌, ◌||◌, not, is_none}
use Rattle.std.specs.List.{list_any}
use Rattle.std.specs.Str.{bytes_eq}
use Rattle.std.proofs.lemmas.Bool.Decides.{nat_tests}
use Rattle.node_core.specs.declared.refusals.Fault.{Fault}
use Rattle.collections.proofs.Keys.{same_number, bytes_self}
use Rattle.rights_core.specs.declared.cache_rights.CacheRight.{CacheRight}
use Rattle.rights_core.specs.declared.endings.Ending.{Ending}
use Rattle.rights_core.specs.declared.endings.Ending.TheVariants as endings
use Rattle.rights_core.specs.declared.grants.Grant.{Grant}
use Rattle.rights_core.specs.declared.grants.Grant.TheVariants as grants
use Rattle.rights_core.specs.Rights.{is_ended_by, holds, grant_answer, with_granted, granted, invalidations_of, next_invalidation, asked_back, ended, IsRecorded}
use Rattle.rights_core.specs.Laws.{asked_for, given_back_of, number_or_0}
use Rattle.rights_core.proofs.OneName.{new_right_is_held, known_right_is_held, asking_numbers_rights, asking_counts, ending_frees}
use Rattle.rights_core.proofs.GivenBack.{asking_gives_nothing_back, leave_gives_back, expiry_gives_nothing_back, acknowledgement_gives_back, granting_gives_nothing_back}
use Rattle.rights_core.proofs.Unacked.{asked_is_issued}
use Rattle.over_core.specs.Kept.{is_of}
use Rattle.over_core.proofs.OwnedRights.{none_issued, none_held, none_asked, none_given_back}
use Rattle.world_cell.specs.Slices.{SeenRight, right_of}

pub four_same : {A B C D X : Type 0} (f : A → B → C → D → X) (a e : A) (b g : B) (c h : C) (d i : D) → a ≡ e → b ≡ g → c ≡ h → d ≡ i → f a b c d ≡ f e g h i
four_same f a e b g c h d i j k l m = cc

abbrev seen_right : ℕ → Bool → ℕ → ℕ → SeenRight
seen_right issued held asked_back given_back = record { issued = issued; held = held; asked_back = asked_back; given_back = given_back }

right_is : (c : ℕ) (x : List ℕ) (rights : List CacheRight) (issued : ℕ) (held : Bool) (asked given : ℕ)
    → invalidations_of c rights ≡ issued → holds c x rights ≡ held → number_or_0 (asked_for c x rights) ≡ asked → given_back_of c x rights ≡ given
    → right_of c x rights ≡ seen_right issued held asked given
right_is c x rights issued held asked given i h a g = four_same seen_right (invalidations_of c rights) issued (holds c x rights) held (number_or_0 (asked_for c x rights)) asked (given_back_of c x rights) given i h a g

-- nothing is held, and nothing was issued
abbrev pub no_right : SeenRight
no_right = record { issued = 0; held = false; asked_back = 0; given_back = 0 }

pub unowned_right : (c : ℕ) (x : List ℕ) (rights : List CacheRight) → list_any (is_of c) rights ≡ false → right_of c x rights ≡ no_right
unowned_right c x rights none = right_is c x rights 0 false 0 0 (none_issued c rights none) (none_held c x rights none) (ap number_or_0 (none_asked c x rights none)) (none_given_back c x rights none)

-- ---- an asked name

-- the number of a name's invalidation is above 0, and at most the count of those that were issued
pub asked_above : (c : ℕ) (x : List ℕ) (rights : List CacheRight) → IsRecorded rights → (o : Option ℕ) → asked_for c x rights ≡ o → (number_or_0 o ≡ 0) ⊎ (0 < number_or_0 o)
asked_above c x rights recorded None is = inl refl
asked_above c x rights recorded (Some number) is = inr ((asked_is_issued c number x rights recorded is).1)

covered_number : (o : Option ℕ) (upto : ℕ) → is_ended_by (endings.Acknowledgement upto) o ≡ true → number_or_0 o ≤ upto
covered_number None upto h = absurd (let e : false ≡ true = h in cc)
covered_number (Some number) upto h = grind (arith, nat_tests, h)

covered_above : (c : ℕ) (x : List ℕ) (rights : List CacheRight) → IsRecorded rights → (o : Option ℕ) (upto : ℕ) → asked_for c x rights ≡ o → is_ended_by (endings.Acknowledgement upto) o ≡ true → 0 < number_or_0 o
covered_above c x rights recorded None upto is h = absurd (let e : false ≡ true = h in cc)
covered_above c x rights recorded (Some number) upto is h = (asked_is_issued c number x rights recorded is).1

-- ---- rights end

freed : (held q b : Bool) → (q && b) ≡ true → (held && not (q && b)) ≡ false
freed true q b e = rw e refl
freed false q b e = refl

unfreed : (held q b : Bool) → (q && b) ≡ false → (held && not (q && b)) ≡ held
unfreed true q b e = rw e refl
unfreed false q b e = refl

no_and : (a b : Bool) → a ≡ false → (a && b) ≡ false
no_and true b h = cc
no_and false b h = refl

yes_and : (a b : Bool) → a ≡ true → (a && b) ≡ b
yes_and true b h = refl
yes_and false b h = cc

abbrev ends_here : ℕ → ℕ → List ℕ → Ending → List CacheRight → Bool
ends_here client c x ending rights = client == c && is_ended_by ending (asked_for c x rights)

without_true : (b : Bool) → (b && true) ≡ false → b ≡ false
without_true true e = e
without_true false e = refl

module _ (client c : ℕ) (x : List ℕ) (rights : List CacheRight) (recorded : IsRecorded rights) where
  given_at : (ending : Ending) → ends_here client c x ending rights ≡ false → given_back_of c x (ended client ending rights) ≡ given_back_of c x rights
  given_at (endings.Acknowledgement upto) e = acknowledgement_gives_back client upto c x rights recorded.once ∙ ap (λ b. cond b (max (given_back_of c x rights) (number_or_0 (asked_for c x rights))) (given_back_of c x rights)) e
  given_at endings.Expiry e = expiry_gives_nothing_back client c x rights
  given_at endings.Leave e =
      leave_gives_back client c x rights recorded.once ∙ ap (λ b. cond b (max (given_back_of c x rights) (number_or_0 (asked_for c x rights))) (given_back_of c x rights)) (without_true (client == c) e)

  -- where it isn't this client's, or not covered, it stays as it is
  right_stays : (ending : Ending) → ends_here client c x ending rights ≡ false → right_of c x (ended client ending rights) ≡ right_of c x rights
  right_stays ending e =
      let frees = ending_frees client c x ending rights recorded.once in
      right_is c x (ended client ending rights) (invalidations_of c rights) (holds c x rights) (number_or_0 (asked_for c x rights)) (given_back_of c x rights)
      frees.2
      (frees.0 ∙ unfreed (holds c x rights) (client == c) (is_ended_by ending (asked_for c x rights)) e)
      (ap number_or_0 (frees.1 ∙ ap (λ b. cond b None (asked_for c x rights)) e))
      (given_at ending e)

  pub right_of_another : (ending : Ending) → (client == c) ≡ false → right_of c x (ended client ending rights) ≡ right_of c x rights
  right_of_another ending other = right_stays ending (no_and (client == c) (is_ended_by ending (asked_for c x rights)) other)

-- what an ending leaves of a right
abbrev pub freed_right : SeenRight → SeenRight
freed_right right = record right { held = false; asked_back = 0 }

abbrev pub given_back_right : SeenRight → SeenRight
given_back_right right = record right { held = false; asked_back = 0; given_back = max right.given_back right.asked_back }

-- the Beat acknowledges the name's invalidation
abbrev pub acknowledges : ℕ → List ℕ → ℕ → List CacheRight → Bool
acknowledges c x upto rights = is_ended_by (endings.Acknowledgement upto) (asked_for c x rights)

module _ (c : ℕ) (x : List ℕ) (rights : List CacheRight) (recorded : IsRecorded rights) where
  own_ends : (ending : Ending) → is_ended_by ending (asked_for c x rights) ≡ true → ends_here c c x ending rights ≡ true
  own_ends ending t = yes_and (c == c) (is_ended_by ending (asked_for c x rights)) (same_number c) ∙ t

  right_is_freed : (ending : Ending) (given : ℕ) → is_ended_by ending (asked_for c x rights) ≡ true → given_back_of c x (ended c ending rights) ≡ given
      → right_of c x (ended c ending rights) ≡ seen_right (invalidations_of c rights) false 0 given
  right_is_freed ending given t g =
      let frees = ending_frees c c x ending rights recorded.once in
      right_is c x (ended c ending rights) (invalidations_of c rights) false 0 given
      frees.2
      (frees.0 ∙ freed (holds c x rights) (c == c) (is_ended_by ending (asked_for c x rights)) (own_ends ending t))
      (ap number_or_0 (frees.1 ∙ ap (λ b. cond b None (asked_for c x rights)) (own_ends ending t)))
      g

  pub expiry_frees : right_of c x (ended c endings.Expiry rights) ≡ freed_right (right_of c x rights)
  expiry_frees = right_is_freed endings.Expiry (given_back_of c x rights) refl (expiry_gives_nothing_back c c x rights)

  pub leave_frees : right_of c x (ended c endings.Leave rights) ≡ given_back_right (right_of c x rights)
  leave_frees =
      right_is_freed endings.Leave (max (given_back_of c x rights) (number_or_0 (asked_for c x rights))) refl
      (leave_gives_back c c x rights recorded.once ∙ ap (λ b. cond b (max (given_back_of c x rights) (number_or_0 (asked_for c x rights))) (given_back_of c x rights)) (same_number c))

  module _ (upto : ℕ) where
    pub beat_gives_back : acknowledges c x upto rights ≡ true → right_of c x (ended c (endings.Acknowledgement upto) rights) ≡ given_back_right (right_of c x rights)
    beat_gives_back t = right_is_freed (endings.Acknowledgement upto) (max (given_back_of c x rights) (number_or_0 (asked_for c x rights))) t
        (acknowledgement_gives_back c upto c x rights recorded.once ∙ ap (λ b. cond b (max (given_back_of c x rights) (number_or_0 (asked_for c x rights))) (given_back_of c x rights)) (own_ends (endings.Acknowledgement upto) t))

    pub beat_leaves : acknowledges c x upto rights ≡ false → right_of c x (ended c (endings.Acknowledgement upto) rights) ≡ right_of c x rights
    beat_leaves t = right_stays c c x rights recorded (endings.Acknowledgement upto) (yes_and (c == c) (acknowledges c x upto rights) (same_number c) ∙ t)

    pub is_asked : acknowledges c x upto rights ≡ true → 0 < number_or_0 (asked_for c x rights)
    is_asked t = covered_above c x rights recorded (asked_for c x rights) upto refl t

    pub is_processed : acknowledges c x upto rights ≡ true → number_or_0 (asked_for c x rights) ≤ upto
    is_processed t = covered_number (asked_for c x rights) upto t

-- ---- a name is asked back

-- the client has to be asked for the name
abbrev pub is_asked_now : ℕ → List ℕ → List CacheRight → Bool
is_asked_now c name rights = holds c name rights && is_none (asked_for c name rights)

own_name : (b held new : Bool) (o p : Option ℕ) → b ≡ true → cond ((b && held) && new) o p ≡ cond (held && new) o p
own_name b held new o p e = rw e refl

other_name : (b held new : Bool) (o p : Option ℕ) → b ≡ false → cond ((b && held) && new) o p ≡ p
other_name b held new o p e = rw e refl

module _ (c : ℕ) (x name : List ℕ) (rights : List CacheRight) (recorded : IsRecorded rights) where
  asked_right : (issued asked : ℕ) → invalidations_of c (asked_back name rights) ≡ issued → number_or_0 (asked_for c x (asked_back name rights)) ≡ asked → right_of c x (asked_back name rights) ≡ seen_right issued (holds c x rights) asked (given_back_of c x rights)
  asked_right issued asked i a = right_is c x (asked_back name rights) issued (holds c x rights) asked (given_back_of c x rights) i (asking_numbers_rights c name x rights).0 a (asking_gives_nothing_back c x name rights)

  counts : (b : Bool) → is_asked_now c name rights ≡ b → invalidations_of c (asked_back name rights) ≡ invalidations_of c rights + cond b 1 0
  counts b t = asking_counts c name rights recorded.once ∙ ap (λ (z : Bool). invalidations_of c rights + cond z 1 0) t

  of_other : bytes_eq x name ≡ false → asked_for c x (asked_back name rights) ≡ asked_for c x rights
  of_other e = (asking_numbers_rights c name x rights).1 ∙ other_name (bytes_eq x name) (holds c x rights) (is_none (asked_for c x rights)) (Some (next_invalidation c rights)) (asked_for c x rights) e

  pub other_is_issued : is_asked_now c name rights ≡ true → bytes_eq x name ≡ false → right_of c x (asked_back name rights) ≡ record (right_of c x rights) { issued = next_invalidation c rights }
  other_is_issued t e = asked_right (next_invalidation c rights) (number_or_0 (asked_for c x rights)) (counts true t) (ap number_or_0 (of_other e))

  pub other_stays : is_asked_now c name rights ≡ false → bytes_eq x name ≡ false → right_of c x (asked_back name rights) ≡ right_of c x rights
  other_stays t e = asked_right (invalidations_of c rights) (number_or_0 (asked_for c x rights)) (omega (arith, counts false t)) (ap number_or_0 (of_other e))

module _ (c : ℕ) (name : List ℕ) (rights : List CacheRight) (recorded : IsRecorded rights) where
  of_own : (b : Bool) → is_asked_now c name rights ≡ b → asked_for c name (asked_back name rights) ≡ cond b (Some (next_invalidation c rights)) (asked_for c name rights)
  of_own b t =
      (asking_numbers_rights c name name rights).1
      ∙ own_name (bytes_eq name name) (holds c name rights) (is_none (asked_for c name rights)) (Some (next_invalidation c rights)) (asked_for c name rights) (bytes_self name)
      ∙ ap (λ (z : Bool). cond z (Some (next_invalidation c rights)) (asked_for c name rights)) t

  pub own_is_asked : is_asked_now c name rights ≡ true → right_of c name (asked_back name rights) ≡ record (right_of c name rights) { issued = next_invalidation c rights; asked_back = next_invalidation c rights }
  own_is_asked t = asked_right c name name rights recorded (next_invalidation c rights) (next_invalidation c rights) (counts c name name rights recorded true t) (ap number_or_0 (of_own true t))

  pub own_stays : is_asked_now c name rights ≡ false → right_of c name (asked_back name rights) ≡ right_of c name rights
  own_stays t = asked_right c name name rights recorded (invalidations_of c rights) (number_or_0 (asked_for c name rights)) (omega (arith, counts c name name rights recorded false t)) (ap number_or_0 (of_own false t))

-- ---- a right is granted

or_true : (a b : Bool) → b ≡ true → (a || b) ≡ true
or_true true b h = refl
or_true false b h = h

or_false : (a b : Bool) → b ≡ false → (a || b) ≡ a
or_false true b h = refl
or_false false b h = h

module _ (c : ℕ) (x : List ℕ) (client : ℕ) (name : List ℕ) (rights : List CacheRight) where
  granted_right : (number : ℕ) (held : Bool) → grant_answer client name rights ≡ Ok (grants.Granted number) → (holds c x rights || (bytes_eq x name && c == client)) ≡ held
      → right_of c x (granted client name rights) ≡ record (right_of c x rights) { held = held }
  granted_right number held answer h =
      let new = new_right_is_held client c number name x rights answer in
      right_is c x (granted client name rights) (invalidations_of c rights) held (number_or_0 (asked_for c x rights)) (given_back_of c x rights)
      new.2
      (new.0 ∙ h)
      (ap number_or_0 new.1)
      (granting_gives_nothing_back client c x name rights)

  -- whatever is answered, a right of another client or to another name stays
  pub granted_to_another : (bytes_eq x name && c == client) ≡ false → right_of c x (granted client name rights) ≡ right_of c x rights
  granted_to_another other = by_answer (grant_answer client name rights) refl
    where
      by_answer : (answer : Result Grant Fault) → grant_answer client name rights ≡ answer → right_of c x (granted client name rights) ≡ right_of c x rights
      by_answer (Ok (grants.Granted number)) is = granted_right number (holds c x rights) is (or_false (holds c x rights) (bytes_eq x name && c == client) other)
      by_answer (Ok (grants.Already number)) is = ap (λ a. right_of c x (with_granted a client name rights)) is
      by_answer (Ok grants.Full) is = ap (λ a. right_of c x (with_granted a client name rights)) is
      by_answer (Err fault) is = ap (λ a. right_of c x (with_granted a client name rights)) is

module _ (c : ℕ) (x : List ℕ) (rights : List CacheRight) where
  -- who is granted a right, or told of the one that it has, holds the name
  pub granted_to_own : (answer : Result Grant Fault) → grant_answer c x rights ≡ answer → answer ≢ Ok grants.Full → ((fault : Fault) → answer ≢ Err fault) → right_of c x (granted c x rights) ≡ record (right_of c x rights) { held = true }
  granted_to_own (Ok (grants.Granted number)) is full spent = granted_right c x c x rights number true is (or_true (holds c x rights) (bytes_eq x x && c == c) (yes_and (bytes_eq x x) (c == c) (bytes_self x) ∙ same_number c))
  granted_to_own (Ok (grants.Already number)) is full spent =
      ap (λ a. right_of c x (with_granted a c x rights)) is
      ∙ right_is c x rights (invalidations_of c rights) true (number_or_0 (asked_for c x rights)) (given_back_of c x rights) refl (known_right_is_held c number x rights is) refl refl
  granted_to_own (Ok grants.Full) is full spent = absurd (full refl)
  granted_to_own (Err fault) is full spent = absurd (spent fault refl)
