-- The changes that wait, found by their numbers, and how often each name is touched.
use Rattle.std.proofs.Common.{◌≡◌, ℕ, zero, suc, ◌+◌, ◌-◌, ◌<◌, ◌≤◌, Bool, true, false, cond, List, [], ◌∷◌, ◌++◌, length, Some, None, Ok, Greater, arith, refl, sym, ap, ◌∙◌}
use Rattle.std.specs.Prelude.{◌==◌, ◌||◌, nat_le, nat_lt, find, count_by}
use Rattle.std.specs.List.{list_any}
use Rattle.std.specs.Option.{option_map}
use Rattle.std.specs.Str.{bytes_eq}
use Rattle.std.specs.Ordering.{nat_cmp}
use Rattle.std.specs.Cmp.{unsigned_tied}
use Rattle.std.specs.Map.{lookup, set_value, remove_entry, values_of}
use Rattle.std.specs.BTreeMap.{is_at, insert_entry}
use Rattle.std.proofs.lemmas.Bool.Decides.{nat_tests}
use Rattle.std.proofs.lemmas.List.Sums.{sum_by-cons}
use Rattle.collections.proofs.Keys.{bytes_same, bytes_swap}
use Rattle.rights_core.proofs.Places.{looked_text}
use Rattle.node_core.specs.Limits.{number_limit}
use Rattle.gate_core.specs.declared.pending.Pending.{Pending}
use Rattle.gate_core.specs.declared.pending.Waiting.{Waiting}
use Rattle.gate_core.specs.Gate.{GateState, AreRising, is_numbered, without, touches, uncachable, change_at, push_answer, pending_limit, with_change}
use Rattle.gate_core.specs.Filing.{or_zero, count_in, occurring, AreKeyed, IsFiled}
use Rattle.gate_core.proofs.Orderly.{answered, under_limit, orderly_push, orderly_take}

-- ---- one name, counted

some_left : (b : Bool) (n m : ℕ) → nat_lt 0 (cond b 1 0 + n) ≡ (b || nat_lt 0 n)
some_left true n m = grind (arith, nat_tests)
some_left false n m = grind (arith, nat_tests)

pub any_counted : {X : Type 0} (p : X → Bool) (xs : List X) → list_any p xs ≡ nat_lt 0 (count_by p xs)
any_counted p [] = refl
any_counted p (x ∷ xs) =
    ap (λ b. p x || b) (any_counted p xs)
    ∙ (sym (some_left (p x) (count_by p xs) 0) ∙ ap (nat_lt 0) (sym (sum_by-cons (λ y. cond (p y) 1 0) x xs)))

both_left : (n m : ℕ) → nat_lt 0 (n + m) ≡ (nat_lt 0 n || nat_lt 0 m)
both_left zero m = let e : 0 + m ≡ m = omega arith in ap (nat_lt 0) e
both_left (suc n) m = grind (arith, nat_tests)

module _ {T : Type 0} where
  pub uncachable_counted : (name : List ℕ) (ws : List (Waiting T)) → uncachable name ws ≡ nat_lt 0 (occurring name ws)
  uncachable_counted name [] = refl
  uncachable_counted name (w ∷ ws) =
      ap (λ b. touches name w || b) (uncachable_counted name ws)
      ∙ (ap (λ b. b || nat_lt 0 (occurring name ws)) (any_counted (bytes_eq name) w.change.touched)
      ∙ sym (both_left (count_by (bytes_eq name) w.change.touched) (occurring name ws)))

  occurring_end : (name : List ℕ) (ws : List (Waiting T)) (w : Waiting T) → occurring name (ws ++ w ∷ []) ≡ occurring name ws + count_by (bytes_eq name) w.change.touched
  occurring_end name [] w = omega arith
  occurring_end name (v ∷ vs) w = omega (arith, occurring_end name vs w)

  occurring_taken : (number : ℕ) (name : List ℕ) (ws : List (Waiting T)) (w : Waiting T) → find (is_numbered number) ws ≡ Some w → occurring name (without number ws) + count_by (bytes_eq name) w.change.touched ≡ occurring name ws
  occurring_taken number name [] w h = cc
  occurring_taken number name (v ∷ vs) w h =
      (elim (is_numbered number v) as (λ b. cond b (Some v) (find (is_numbered number) vs) ≡ Some w → occurring name (cond b vs (v ∷ without number vs)) + count_by (bytes_eq name) w.change.touched ≡ occurring name (v ∷ vs)) [
        | true ↦ (λ k.
            let same : v ≡ w = cc in
            let here : ◌≡◌ {A = ℕ} (count_by (bytes_eq name) v.change.touched) (count_by (bytes_eq name) w.change.touched) = ap (λ (x : Waiting T). count_by (bytes_eq name) x.change.touched) same in
            omega (arith, here))
        | false ↦ (λ k. omega (arith, occurring_taken number name vs w k))
      ]) h

  none_without : (number : ℕ) (ws : List (Waiting T)) → find (is_numbered number) ws ≡ None → without number ws ≡ ws
  none_without number [] h = refl
  none_without number (w ∷ ws) h =
      (elim (is_numbered number w) as (λ b. cond b (Some w) (find (is_numbered number) ws) ≡ None → cond b ws (w ∷ without number ws) ≡ w ∷ ws) [
        | true ↦ (λ k. cc)
        | false ↦ (λ k. ap (λ l. w ∷ l) (none_without number ws k))
      ]) h

  -- ---- by number

  pub at_number : (number : ℕ) (es : List (ℕ × Waiting T)) → AreKeyed es → lookup (is_at (nat_cmp number)) es ≡ find (is_numbered number) (values_of es)
  at_number number [] k = refl
  at_number number (e ∷ es) k =
      let here : is_at (nat_cmp number) e.0 ≡ is_numbered number e.1 = unsigned_tied number e.0 ∙ ap (λ m. number == m) k.same in
      ap (λ b. cond b (Some e.1) (lookup (is_at (nat_cmp number)) es)) here ∙ ap (λ o. cond (is_numbered number e.1) (Some e.1) o) (at_number number es k.rest)

  taken_out : (number : ℕ) (es : List (ℕ × Waiting T)) → AreKeyed es → (values_of (remove_entry (is_at (nat_cmp number)) es) ≡ without number (values_of es)) × AreKeyed (remove_entry (is_at (nat_cmp number)) es)
  taken_out number [] k = (refl, k)
  taken_out number (e ∷ es) k =
      let here : is_at (nat_cmp number) e.0 ≡ is_numbered number e.1 = unsigned_tied number e.0 ∙ ap (λ m. number == m) k.same in
      let tail = taken_out number es k.rest in
      (elim (is_at (nat_cmp number) e.0) as (λ b. b ≡ is_numbered number e.1 → (values_of (cond b es (e ∷ remove_entry (is_at (nat_cmp number)) es)) ≡ without number (values_of (e ∷ es))) × AreKeyed (cond b es (e ∷ remove_entry (is_at (nat_cmp number)) es))) [
        | true ↦ (λ b. (ap (λ t. cond t (values_of es) (e.1 ∷ without number (values_of es))) b, k.rest))
        | false ↦ (λ b. (ap (λ l. e.1 ∷ l) tail.0 ∙ ap (λ t. cond t (values_of es) (e.1 ∷ without number (values_of es))) b, record { same = k.same; rest = tail.1 }))
      ]) here

  highest : (low high : ℕ) (ws : List (Waiting T)) → AreRising low ws high → low ≤ high
  highest low high [] r = r
  highest low high (w ∷ ws) r = omega (arith, r.above, highest w.number high ws r.rest)

  put_last : (number low high : ℕ) (es : List (ℕ × Waiting T)) (w : Waiting T) → AreKeyed es → AreRising low (values_of es) high → high < number → w.number ≡ number
      → (values_of (insert_entry nat_cmp es number w) ≡ values_of es ++ w ∷ []) × AreKeyed (insert_entry nat_cmp es number w)
  put_last number low high [] w k r above is = (refl, record { same = sym is; rest = tt })
  put_last number low high (e ∷ es) w k r above is =
      let below : e.1.number ≤ high = highest e.1.number high (values_of es) r.rest in
      let key : e.0 ≡ e.1.number = k.same in
      let behind : nat_cmp number e.0 ≡ Greater = let less : e.0 < number = omega arith in grind (arith, nat_tests, less) in
      let tail = put_last number e.1.number high es w k.rest r.rest above is in
      rw behind (ap (λ l. e.1 ∷ l) tail.0, record { same = k.same; rest = tail.1 })

  -- ---- the steps

  -- a change that came
  pub filed_more : (gate : GateState T) (es es' : List (ℕ × Waiting T)) (touched touched' : List (List ℕ × ℕ)) (pushed number : ℕ) (change : Pending T) (names : List (List ℕ))
      → record { waiting = values_of es; pushed = pushed } ≡ gate → push_answer gate ≡ Ok number → names ≡ change.touched
      → es' ≡ insert_entry nat_cmp es number (record { number = number; change = change }) → ((x : List ℕ) → count_in x touched' ≡ count_in x touched + count_by (bytes_eq x) names)
      → IsFiled es touched pushed → IsFiled es' touched' number × (◌≡◌ {A = GateState T} (record { waiting = values_of es'; pushed = number }) (with_change change gate))
  filed_more gate es es' touched touched' pushed number change names view answer same put added k =
      let t : (nat_le pending_limit (length gate.waiting) ≡ false) × (nat_le number_limit gate.pushed ≡ false) × (number ≡ gate.pushed + 1) =
      answered (nat_le pending_limit (length gate.waiting)) (nat_le number_limit gate.pushed) (gate.pushed + 1) number (sym answer) in
      let w : Waiting T = record { number = number; change = change } in
      let here : values_of es ≡ gate.waiting = ap (λ g. g.waiting) view in
      let count : pushed ≡ gate.pushed = ap (λ g. g.pushed) view in
      let short : length gate.waiting < pending_limit = under_limit (length gate.waiting) pending_limit t.0 in
      let long : length (values_of es) ≡ length gate.waiting = ap length here in
      let room : gate.pushed < number_limit = under_limit gate.pushed number_limit t.1 in
      let next : number ≡ gate.pushed + 1 = t.2 in
      let last = put_last number 0 pushed es w k.keyed k.orderly.rising (omega arith) refl in
      let all : values_of es' ≡ values_of es ++ w ∷ [] = ap values_of put ∙ last.0 in (
        record {
          orderly = orderly_push (values_of es) (values_of es') pushed number change (omega arith) (omega arith) (omega arith) all k.orderly;
          keyed = rw put last.1;
          counted = λ x.
              let one : count_by (bytes_eq x) names ≡ count_by (bytes_eq x) change.touched = ap (count_by (bytes_eq x)) same in
              let more : occurring x (values_of es') ≡ occurring x (values_of es ++ w ∷ []) = ap (occurring x) all in
              omega (arith, added x, k.counted x, one, more, occurring_end x (values_of es) w);
        },
        ends gate number (values_of es') (all ∙ ap (λ l. l ++ w ∷ []) here) next,
      )
    where
      ends : (gate : GateState T) (number : ℕ) (now : List (Waiting T)) → now ≡ gate.waiting ++ record { number = number; change = change } ∷ [] → number ≡ gate.pushed + 1 → ◌≡◌ {A = GateState T} (record { waiting = now; pushed = number }) (with_change change gate)
      ends gate number now e n = rw (e, n) refl

  -- a change that was taken out
  pub filed_less : (es es' : List (ℕ × Waiting T)) (touched touched' : List (List ℕ × ℕ)) (pushed number : ℕ) (w : Waiting T)
      → lookup (is_at (nat_cmp number)) es ≡ Some w → es' ≡ remove_entry (is_at (nat_cmp number)) es → ((x : List ℕ) → count_in x touched' ≡ count_in x touched - count_by (bytes_eq x) w.change.touched)
      → IsFiled es touched pushed → IsFiled es' touched' pushed × (values_of es' ≡ without number (values_of es))
  filed_less es es' touched touched' pushed number w found removed less k =
      let there : find (is_numbered number) (values_of es) ≡ Some w = sym (at_number number es k.keyed) ∙ found in
      let out = taken_out number es k.keyed in
      let all : values_of es' ≡ without number (values_of es) = ap values_of removed ∙ out.0 in (
        record {
          orderly = orderly_take number (values_of es) (values_of es') pushed all k.orderly;
          keyed = rw removed out.1;
          counted = λ x.
              let now : occurring x (values_of es') ≡ occurring x (without number (values_of es)) = ap (occurring x) all in
              omega (arith, less x, k.counted x, now, occurring_taken number x (values_of es) w there);
        },
        all,
      )

  -- where no change has the number
  pub filed_same : (es es' : List (ℕ × Waiting T)) (touched : List (List ℕ × ℕ)) (pushed number : ℕ) → lookup (is_at (nat_cmp number)) es ≡ None → es' ≡ remove_entry (is_at (nat_cmp number)) es
      → IsFiled es touched pushed → IsFiled es' touched pushed × (values_of es' ≡ without number (values_of es))
  filed_same es es' touched pushed number absent removed k =
      let there : find (is_numbered number) (values_of es) ≡ None = sym (at_number number es k.keyed) ∙ absent in
      let out = taken_out number es k.keyed in
      let all : values_of es' ≡ without number (values_of es) = ap values_of removed ∙ out.0 in
      let same : values_of es' ≡ values_of es = all ∙ none_without number (values_of es) there in (
        record {
          orderly = orderly_take number (values_of es) (values_of es') pushed all k.orderly;
          keyed = rw removed out.1;
          counted = λ x. k.counted x ∙ ap (occurring x) (sym same);
        },
        all,
      )

  -- a change that came and was refused
  pub filed_back : (es es' : List (ℕ × Waiting T)) (touched added back : List (List ℕ × ℕ)) (pushed : ℕ) (names : List (List ℕ)) → es' ≡ es
      → ((x : List ℕ) → count_in x added ≡ count_in x touched + count_by (bytes_eq x) names) → ((x : List ℕ) → count_in x back ≡ count_in x added - count_by (bytes_eq x) names)
      → IsFiled es touched pushed → IsFiled es' back pushed
  filed_back es es' touched added back pushed names same more less k =
      rw same (record { orderly = k.orderly; keyed = k.keyed; counted = λ x. let e : count_in x back ≡ count_in x touched = omega (arith, more x, less x) in e ∙ k.counted x })

  -- what is taken out, and what is left
  pub absent_change : (number : ℕ) (es : List (ℕ × Waiting T)) (gate : GateState T) (pushed : ℕ) → record { waiting = values_of es; pushed = pushed } ≡ gate → AreKeyed es → lookup (is_at (nat_cmp number)) es ≡ None → None ≡ change_at number gate.waiting
  absent_change number es gate pushed view k absent =
      let found : find (is_numbered number) (values_of es) ≡ None = sym (at_number number es k) ∙ absent in
      ap (option_map (λ (w : Waiting T). w.change)) (sym found) ∙ ap (λ (g : GateState T). change_at number g.waiting) view

  pub present_change : (number : ℕ) (es : List (ℕ × Waiting T)) (gate : GateState T) (pushed : ℕ) (w : Waiting T) → record { waiting = values_of es; pushed = pushed } ≡ gate → AreKeyed es → lookup (is_at (nat_cmp number)) es ≡ Some w → Some w.change ≡ change_at number gate.waiting
  present_change number es gate pushed w view k there =
      let found : find (is_numbered number) (values_of es) ≡ Some w = sym (at_number number es k) ∙ there in
      ap (option_map (λ (w : Waiting T). w.change)) (sym found) ∙ ap (λ (g : GateState T). change_at number g.waiting) view

  pub others_left : (number : ℕ) (es es' : List (ℕ × Waiting T)) (gate : GateState T) (pushed : ℕ) → record { waiting = values_of es; pushed = pushed } ≡ gate → values_of es' ≡ without number (values_of es) → record { waiting = values_of es'; pushed = pushed } ≡ record gate { waiting = without number gate.waiting }
  others_left number es es' gate pushed view e =
      let left : values_of es' ≡ without number gate.waiting = e ∙ ap (λ (g : GateState T). without number g.waiting) view in
      let count : pushed ≡ gate.pushed = ap (λ (g : GateState T). g.pushed) view in
      rw (left, count) refl

-- ---- how often a name is touched

pub counted_more : (old new : List (List ℕ × ℕ)) (name : List ℕ) (before : ℕ) → before ≡ count_in name old → ((q : List ℕ) → lookup (bytes_eq q) new ≡ cond (bytes_eq name q) (Some (before + 1)) (lookup (bytes_eq q) old))
    → (x : List ℕ) → count_in x new ≡ count_in x old + cond (bytes_eq x name) 1 0
counted_more old new name before is put x =
    let p : lookup (bytes_eq x) new ≡ cond (bytes_eq x name) (Some (before + 1)) (lookup (bytes_eq x) old) = put x ∙ ap (λ b. cond b (Some (before + 1)) (lookup (bytes_eq x) old)) (bytes_swap name x) in
    (elim (bytes_eq x name) as (λ b. bytes_eq x name ≡ b → lookup (bytes_eq x) new ≡ cond b (Some (before + 1)) (lookup (bytes_eq x) old) → count_in x new ≡ count_in x old + cond b 1 0) [
      | true ↦ (λ h e.
          let now : count_in x new ≡ before + 1 = ap or_zero e in
          let same : count_in x old ≡ before = ap (λ n. count_in n old) (bytes_same x name h) ∙ sym is in
          omega arith)
      | false ↦ (λ h e. let now : count_in x new ≡ count_in x old = ap or_zero e in omega arith)
    ]) refl p

pub counted_less : (old new : List (List ℕ × ℕ)) (name : List ℕ) (before former after : ℕ) → before ≡ count_in name old → lookup (bytes_eq name) old ≡ Some former → after + 1 ≡ before → new ≡ set_value (bytes_eq name) old after
    → (x : List ℕ) → count_in x new ≡ count_in x old - cond (bytes_eq x name) 1 0
counted_less old new name before former after is found less set x =
    let p : lookup (bytes_eq x) new ≡ cond (bytes_eq x name) (Some after) (lookup (bytes_eq x) old) = ap (lookup (bytes_eq x)) set ∙ looked_text old name former after x found in
    (elim (bytes_eq x name) as (λ b. bytes_eq x name ≡ b → lookup (bytes_eq x) new ≡ cond b (Some after) (lookup (bytes_eq x) old) → count_in x new ≡ count_in x old - cond b 1 0) [
      | true ↦ (λ h e.
          let now : count_in x new ≡ after = ap or_zero e in
          let same : count_in x old ≡ before = ap (λ n. count_in n old) (bytes_same x name h) ∙ sym is in
          omega arith)
      | false ↦ (λ h e. let now : count_in x new ≡ count_in x old = ap or_zero e in omega arith)
    ]) refl p

pub counted_last : (old new : List (List ℕ × ℕ)) (name : List ℕ) (before : ℕ) → before ≡ count_in name old → before ≤ 1 → ((q : List ℕ) → lookup (bytes_eq q) new ≡ cond (bytes_eq name q) None (lookup (bytes_eq q) old))
    → (x : List ℕ) → count_in x new ≡ count_in x old - cond (bytes_eq x name) 1 0
counted_last old new name before is few gone x =
    let p : lookup (bytes_eq x) new ≡ cond (bytes_eq x name) None (lookup (bytes_eq x) old) = gone x ∙ ap (λ b. cond b None (lookup (bytes_eq x) old)) (bytes_swap name x) in
    (elim (bytes_eq x name) as (λ b. bytes_eq x name ≡ b → lookup (bytes_eq x) new ≡ cond b None (lookup (bytes_eq x) old) → count_in x new ≡ count_in x old - cond b 1 0) [
      | true ↦ (λ h e.
          let now : count_in x new ≡ 0 = ap or_zero e in
          let same : count_in x old ≡ before = ap (λ n. count_in n old) (bytes_same x name h) ∙ sym is in
          omega arith)
      | false ↦ (λ h e. let now : count_in x new ≡ count_in x old = ap or_zero e in omega arith)
    ]) refl p

pub counted_none : (old new : List (List ℕ × ℕ)) (name : List ℕ) → new ≡ old → lookup (bytes_eq name) old ≡ None → (x : List ℕ) → count_in x new ≡ count_in x old - cond (bytes_eq x name) 1 0
counted_none old new name same absent x =
    let here : count_in x new ≡ count_in x old = ap (count_in x) same in
    (elim (bytes_eq x name) as (λ b. bytes_eq x name ≡ b → count_in x new ≡ count_in x old - cond b 1 0) [
      | true ↦ (λ h. let zero_there : count_in x old ≡ 0 = ap (λ n. count_in n old) (bytes_same x name h) ∙ ap or_zero absent in omega arith)
      | false ↦ (λ h. omega arith)
    ]) refl
