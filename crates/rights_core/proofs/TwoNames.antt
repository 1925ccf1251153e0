-- Asking for one name, and then for another.
use Rattle.std.proofs.Common.{◌≡◌, ◌≢◌, ℕ, Bool, true, false, cond, List, [], ◌∷◌, Some, Less, Equal, Greater, refl, sym, ap, ◌∙◌}
use Rattle.std.specs.Prelude.{◌&&◌, map, fold, is_none}
use Rattle.std.specs.Str.{bytes_eq}
use Rattle.std.specs.declared.cmp.Ordering.{Ordering}
use Rattle.std.specs.Ordering.{nat_cmp, match_ordering}
use Rattle.std.specs.Map.{keys_of}
use Rattle.std.specs.BTreeMap.{insert_entry}
use Rattle.collections.proofs.Keys.{bytes_same}
use Rattle.rights_core.specs.declared.cache_rights.CacheRight.{CacheRight}
use Rattle.rights_core.specs.Rights.{is_held, is_held_on, next_invalidation, is_to_ask, with_asked, with_next, asked_back}
use Rattle.rights_core.specs.Laws.{AskingLeavesOthers}
use Rattle.rights_core.proofs.OneName.{and_no, next_client}

-- ---- who is to be asked for another name

apart_names : (x y z : List ℕ) → x ≢ y → bytes_eq x z ≡ true → bytes_eq y z ≡ false
apart_names x y z differs at =
    (elim (bytes_eq y z) as (λ b. bytes_eq y z ≡ b → b ≡ false) [
      | true ↦ (λ h. absurd (differs (bytes_same x z at ∙ sym (bytes_same y z h))))
      | false ↦ (λ h. refl)
    ]) refl

never : (h n i m : Bool) → ((h && n) && i) ≡ true → (n ≡ true → m ≡ false) → ((h && m) && i) ≡ false
never true true true m e f = rw (f refl) refl
never true true false m e f = cc
never true false i m e f = cc
never false n i m e f = cc

other_asks : (b : Bool) (y : List ℕ) (r : CacheRight) (n : ℕ) → (b ≡ true → is_to_ask y r ≡ false) → is_to_ask y (cond b (record r { invalidation = Some n }) r) ≡ is_to_ask y r
other_asks true y r n f = and_no (is_held_on y r) ∙ sym (f refl)
other_asks false y r n f = refl

still_asks : (x y : List ℕ) (all : List CacheRight) (r : CacheRight) → x ≢ y → is_to_ask y (with_next x all r) ≡ is_to_ask y r
still_asks x y all r differs =
    other_asks (is_to_ask x r) y r (next_invalidation r.client all) (λ e. never (is_held r) (bytes_eq x r.name) (is_none r.invalidation) (bytes_eq y r.name) e (apart_names x y r.name differs))

-- ---- a table's keys, whatever its values

put_key : (k v w : ℕ) (es fs : List (ℕ × ℕ)) → keys_of es ≡ keys_of fs → keys_of (insert_entry nat_cmp es k v) ≡ keys_of (insert_entry nat_cmp fs k w)
put_key k v w [] [] h = refl
put_key k v w [] (f ∷ fs) h = cc
put_key k v w (e ∷ es) [] h = cc
put_key k v w (e ∷ es) (f ∷ fs) h =
    let first : e.0 ≡ f.0 = cc in
    let rest : keys_of es ≡ keys_of fs = cc in
    places (nat_cmp k e.0) (nat_cmp k f.0) (ap (nat_cmp k) first) first rest (put_key k v w es fs rest)
  where
    ahead : (a b : ℕ) (ks ls : List ℕ) → a ≡ b → ks ≡ ls → a ∷ ks ≡ b ∷ ls
    ahead a b ks ls p q = rw (p, q) refl

    places : (o p : Ordering) → o ≡ p → e.0 ≡ f.0 → keys_of es ≡ keys_of fs → keys_of (insert_entry nat_cmp es k v) ≡ keys_of (insert_entry nat_cmp fs k w)
        → keys_of (match_ordering o ((k, v) ∷ e ∷ es) ((e.0, v) ∷ es) (e ∷ insert_entry nat_cmp es k v)) ≡ keys_of (match_ordering p ((k, w) ∷ f ∷ fs) ((f.0, w) ∷ fs) (f ∷ insert_entry nat_cmp fs k w))
    places Less Less same a b c = ahead k k (keys_of (e ∷ es)) (keys_of (f ∷ fs)) refl (ahead e.0 f.0 (keys_of es) (keys_of fs) a b)
    places Equal Equal same a b c = ahead e.0 f.0 (keys_of es) (keys_of fs) a b
    places Greater Greater same a b c = ahead e.0 f.0 (keys_of (insert_entry nat_cmp es k v)) (keys_of (insert_entry nat_cmp fs k w)) a c
    places Less Equal same a b c = cc
    places Less Greater same a b c = cc
    places Equal Less same a b c = cc
    places Equal Greater same a b c = cc
    places Greater Less same a b c = cc
    places Greater Equal same a b c = cc

same_keys : (x y : List ℕ) (all later rs : List CacheRight) → x ≢ y → (es fs : List (ℕ × ℕ)) → keys_of es ≡ keys_of fs → keys_of (fold (with_asked y later) es (map (with_next x all) rs)) ≡ keys_of (fold (with_asked y all) fs rs)
same_keys x y all later [] differs es fs h = h
same_keys x y all later (r ∷ rs) differs es fs h =
    same_keys x y all later rs differs (with_asked y later es (with_next x all r)) (with_asked y all fs r)
    (one (is_to_ask y (with_next x all r)) (is_to_ask y r) (with_next x all r).client r.client (still_asks x y all r differs) (next_client (is_to_ask x r) r (Some (next_invalidation r.client all))))
  where
    one : (b d : Bool) (k l : ℕ) → b ≡ d → k ≡ l → keys_of (cond b (insert_entry nat_cmp es k (next_invalidation k later)) es) ≡ keys_of (cond d (insert_entry nat_cmp fs l (next_invalidation l all)) fs)
    one true true k l same e = put_key k (next_invalidation k later) (next_invalidation l all) es fs h ∙ ap (λ z. keys_of (insert_entry nat_cmp fs z (next_invalidation l all))) e
    one false false k l same e = h
    one true false k l same e = cc
    one false true k l same e = cc

pub asking_leaves_others : AskingLeavesOthers
asking_leaves_others x y rs differs = same_keys x y rs (asked_back x rs) rs differs [] [] refl
