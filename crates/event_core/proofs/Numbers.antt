-- The numbers of a list of events.
use Rattle.std.proofs.Common.{◌≡◌, ℕ, zero, suc, ◌+◌, ◌-◌, ◌<◌, ◌≤◌, List, [], ◌∷◌, ◌++◌, length, drop, true, false, refl, sym, ap, ◌∙◌, arith}
use Rattle.std.specs.Prelude.{nat_lt, filter}
use Rattle.std.proofs.lemmas.Bool.Decides.{nat_tests}
use Rattle.node_core.specs.declared.events.Event.{Event}
use Rattle.tags_cell.specs.declared.messages.beats.NumberedEvent.{NumberedEvent}
use Rattle.event_core.specs.Queue.{numbered_from}

abbrev numbered : ℕ → Event → NumberedEvent
numbered n x = record { number = n; event = x }

pub numbered_push : (n : ℕ) (xs : List Event) (x : Event) → numbered_from n (xs ++ x ∷ []) ≡ numbered_from n xs ++ numbered (n + length xs) x ∷ []
numbered_push n [] x = ap (λ m. numbered m x ∷ []) (omega arith)
numbered_push n (y ∷ ys) x =
    let e : (n + 1) + length ys ≡ n + length (y ∷ ys) = omega arith in
    ap (λ es. numbered n y ∷ es) (numbered_push (n + 1) ys x ∙ ap (λ m. numbered_from (n + 1) ys ++ numbered m x ∷ []) e)

-- numbers that are all greater
all_greater : (number n : ℕ) (xs : List Event) → number < n → filter (λ e. nat_lt number e.number) (numbered_from n xs) ≡ numbered_from n xs
all_greater number n [] h = refl
all_greater number n (x ∷ xs) h =
    let over : nat_lt number n ≡ true = grind (arith, nat_tests) in
    rw over (ap (λ es. numbered n x ∷ es) (all_greater number (n + 1) xs (omega arith)))

-- the first k numbers are not
first_dropped : (number k n : ℕ) (xs : List Event) → n + k ≡ number + 1 → filter (λ e. nat_lt number e.number) (numbered_from n xs) ≡ numbered_from (n + k) (drop k xs)
first_dropped number zero n xs h =
    let same : n ≡ n + zero = omega arith in
    all_greater number n xs (omega arith) ∙ ap (λ m. numbered_from m xs) same
first_dropped number (suc k) n [] h = refl
first_dropped number (suc k) n (x ∷ xs) h =
    let under : nat_lt number n ≡ false = grind (arith, nat_tests) in
    let same : (n + 1) + k ≡ n + suc k = omega arith in
    rw under (first_dropped number k (n + 1) xs (omega arith) ∙ ap (λ m. numbered_from m (drop k xs)) same)

pub rest_is_greater : (number acknowledged : ℕ) (xs : List Event) → numbered_from ((acknowledged + (number - acknowledged)) + 1) (drop (number - acknowledged) xs) ≡ filter (λ e. nat_lt number e.number) (numbered_from (acknowledged + 1) xs)
rest_is_greater number acknowledged xs =
    (elim (nat_lt acknowledged number) as (λ b. nat_lt acknowledged number ≡ b → numbered_from ((acknowledged + (number - acknowledged)) + 1) (drop (number - acknowledged) xs) ≡ filter (λ e. nat_lt number e.number) (numbered_from (acknowledged + 1) xs)) [
      | true ↦ (λ h.
          let less : acknowledged < number = grind (arith, nat_tests) in
          let same : (acknowledged + (number - acknowledged)) + 1 ≡ (acknowledged + 1) + (number - acknowledged) = omega arith in
          ap (λ m. numbered_from m (drop (number - acknowledged) xs)) same ∙ sym (first_dropped number (number - acknowledged) (acknowledged + 1) xs (omega arith)))
      | false ↦ (λ h.
          let most : number ≤ acknowledged = grind (arith, nat_tests) in
          let none : number - acknowledged ≡ 0 = omega arith in
          let same : acknowledged + 0 ≡ acknowledged = omega arith in
          ap (λ k. numbered_from ((acknowledged + k) + 1) (drop k xs)) none ∙ ap (λ m. numbered_from (m + 1) xs) same ∙ sym (all_greater number (acknowledged + 1) xs (omega arith)))
    ]) refl
