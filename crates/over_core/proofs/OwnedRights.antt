-- The rights of one client: whether there are any, and what follows where there are none.
use Rattle.std.proofs.Common.{◌≡◌, ℕ, ◌+◌, Bool, true, false, cond, List, [], ◌∷◌, ◌++◌, None, Result, Ok, Err, arith, refl, ap, ◌∙◌}
use Rattle.std.specs.Prelude.{◌&&◌, ◌||◌, ◌==◌, max, map, is_some}
use Rattle.std.specs.List.{list_any}
use Rattle.std.proofs.lemmas.List.Sums.{sum_by-cons}
use Rattle.node_core.specs.declared.refusals.Fault.{Fault}
use Rattle.rights_core.specs.declared.cache_rights.CacheRight.{CacheRight}
use Rattle.rights_core.specs.declared.endings.Ending.{Ending}
use Rattle.rights_core.specs.declared.grants.Grant.{Grant}
use Rattle.rights_core.specs.declared.grants.Grant.TheVariants as grants
use Rattle.rights_core.specs.Rights.{is_held_on, holds, new_right, grant_answer, with_granted, granted, was_asked, invalidations_of, with_next, asked_back, with_end, ended}
use Rattle.rights_core.specs.Laws.{asked_for, number_or_0, given_back_of}
use Rattle.rights_core.proofs.OneName.{asked_unheld, new_right_is_held}
use Rattle.rights_core.proofs.Recorded.{next_keeps, end_keeps, none_of, or_none}
use Rattle.over_core.specs.Kept.{is_of}

-- ---- whether there are any

owners_map : (f : CacheRight → CacheRight) → ((r : CacheRight) → (f r).client ≡ r.client) → (client : ℕ) (rights : List CacheRight) → list_any (is_of client) (map f rights) ≡ list_any (is_of client) rights
owners_map f same client [] = refl
owners_map f same client (r ∷ rs) = rw (same r, owners_map f same client rs) refl

pub owners_asked : (client : ℕ) (name : List ℕ) (rights : List CacheRight) → list_any (is_of client) (asked_back name rights) ≡ list_any (is_of client) rights
owners_asked client name rights = owners_map (with_next name rights) (next_keeps name rights).client client rights

pub owners_ended : (client other : ℕ) (ending : Ending) (rights : List CacheRight) → list_any (is_of client) (ended other ending rights) ≡ list_any (is_of client) rights
owners_ended client other ending rights = owners_map (with_end other ending) (end_keeps other ending).client client rights

none_behind : {X : Type 0} (test : X → Bool) (xs : List X) (x : X) → test x ≡ false → list_any test (xs ++ x ∷ []) ≡ list_any test xs
none_behind test [] x h = or_none (test x) false h refl
none_behind test (y ∷ ys) x h = ap (λ b. test y || b) (none_behind test ys x h)

-- by the answer to who asks for a right
by_answer : (P : List CacheRight → Type 0) (client : ℕ) (name : List ℕ) (rights : List CacheRight) → P rights → ((number : ℕ) → grant_answer client name rights ≡ Ok (grants.Granted number) → P (rights ++ new_right number client name ∷ [])) → P (granted client name rights)
by_answer P client name rights same new = answered (grant_answer client name rights) refl
  where
    answered : (answer : Result Grant Fault) → grant_answer client name rights ≡ answer → P (with_granted answer client name rights)
    answered (Ok (grants.Granted number)) is = new number is
    answered (Ok (grants.Already number)) is = same
    answered (Ok grants.Full) is = same
    answered (Err fault) is = same

pub owners_granted : (client other : ℕ) (name : List ℕ) (rights : List CacheRight) → (client == other) ≡ false → list_any (is_of client) (granted other name rights) ≡ list_any (is_of client) rights
owners_granted client other name rights apart =
    by_answer (λ rs. list_any (is_of client) rs ≡ list_any (is_of client) rights) other name rights refl (λ number is. none_behind (is_of client) rights (new_right number other name) apart)

-- a grant issues no invalidation
pub issued_granted : (client other : ℕ) (name : List ℕ) (rights : List CacheRight) → invalidations_of client (granted other name rights) ≡ invalidations_of client rights
issued_granted client other name rights = answered (grant_answer other name rights) refl
  where
    answered : (answer : Result Grant Fault) → grant_answer other name rights ≡ answer → invalidations_of client (granted other name rights) ≡ invalidations_of client rights
    answered (Ok (grants.Granted number)) is = (new_right_is_held other client number name name rights is).2
    answered (Ok (grants.Already number)) is = ap (λ answer. invalidations_of client (with_granted answer other name rights)) is
    answered (Ok grants.Full) is = ap (λ answer. invalidations_of client (with_granted answer other name rights)) is
    answered (Err fault) is = ap (λ answer. invalidations_of client (with_granted answer other name rights)) is

-- ---- where there are none

uncounted : (a b : Bool) (n : ℕ) → a ≡ false → n ≡ 0 → cond (a && b) 1 0 + n ≡ 0
uncounted true b n h k = absurd (cc)
uncounted false b n h k = omega (arith, k)

pub none_issued : (client : ℕ) (rights : List CacheRight) → list_any (is_of client) rights ≡ false → invalidations_of client rights ≡ 0
none_issued client [] h = refl
none_issued client (r ∷ rs) h =
    let t = none_of (is_of client r) (list_any (is_of client) rs) h in
    sum_by-cons (λ s. cond (was_asked client s) 1 0) r rs
    ∙ uncounted (client == r.client) (is_some r.invalidation) (invalidations_of client rs) t.0 (none_issued client rs t.1)

and_none : (a b : Bool) → b ≡ false → (a && b) ≡ false
and_none true b h = h
and_none false b h = refl

pub none_held : (client : ℕ) (name : List ℕ) (rights : List CacheRight) → list_any (is_of client) rights ≡ false → holds client name rights ≡ false
none_held client name [] h = refl
none_held client name (r ∷ rs) h =
    let t = none_of (is_of client r) (list_any (is_of client) rs) h in
    or_none (is_held_on name r && (client == r.client)) (holds client name rs) (and_none (is_held_on name r) (client == r.client) t.0) (none_held client name rs t.1)

pub none_asked : (client : ℕ) (name : List ℕ) (rights : List CacheRight) → list_any (is_of client) rights ≡ false → asked_for client name rights ≡ None
none_asked client name rights h = asked_unheld client name rights (none_held client name rights h)

ungiven : (a b : Bool) (m n : ℕ) → b ≡ false → n ≡ 0 → max (cond (a && b) m 0) n ≡ 0
ungiven true b m n h k = rw (h, k) refl
ungiven false b m n h k = rw k refl

pub none_given_back : (client : ℕ) (name : List ℕ) (rights : List CacheRight) → list_any (is_of client) rights ≡ false → given_back_of client name rights ≡ 0
none_given_back client name [] h = refl
none_given_back client name (r ∷ rs) h =
    let t = none_of (is_of client r) (list_any (is_of client) rs) h in
    ungiven _ (client == r.client) (number_or_0 r.invalidation) (given_back_of client name rs) t.0 (none_given_back client name rs t.1)
