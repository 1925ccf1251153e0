-- The changes that wait stay in order, and each on the name that it may change, where one comes and where one goes.
use Rattle.std.proofs.Common.{◌≡◌, ℕ, ◌+◌, ◌≤◌, false, List, [], ◌∷◌, ◌++◌, length, length-append, refl, arith}
use Rattle.std.specs.Prelude.{nat_le, All}
use Rattle.std.proofs.lemmas.List.Elements.{All-cons, All-head, All-tail}
use Rattle.node_core.specs.Limits.{number_limit}
use Rattle.gate_core.specs.declared.pending.Pending.{Pending}
use Rattle.gate_core.specs.declared.pending.Waiting.{Waiting}
use Rattle.gate_core.specs.Gate.{GateState, pending_limit, with_change, AreRising, IsOrderly}
use Rattle.gate_core.proofs.Orderly.{orderly_push, under_limit}
use Rattle.master_parts.specs.declared.pending.Task.{Task}

-- one that comes
pub orderly_more : (gate : GateState Task) (change : Pending Task) → nat_le pending_limit (length gate.waiting) ≡ false → nat_le number_limit gate.pushed ≡ false → IsOrderly gate → IsOrderly (with_change change gate)
orderly_more gate change room spare h =
    orderly_push gate.waiting (with_change change gate).waiting gate.pushed (gate.pushed + 1) change refl (under_limit gate.pushed number_limit spare) (under_limit (length gate.waiting) pending_limit room) refl h

-- one that goes
lower : (low below high : ℕ) (ws : List (Waiting Task)) → below ≤ low → AreRising low ws high → AreRising below ws high
lower low below high [] h r = omega arith
lower low below high (w ∷ ws) h r = record { above = omega (arith, r.above); rest = r.rest }

rising_less : (low high : ℕ) (front : List (Waiting Task)) (w : Waiting Task) (back : List (Waiting Task)) → AreRising low (front ++ w ∷ back) high → AreRising low (front ++ back) high
rising_less low high [] w back r = lower w.number low high back (omega (arith, r.above)) r.rest
rising_less low high (v ∷ vs) w back r = record { above = r.above; rest = rising_less v.number high vs w back r.rest }

pub orderly_less : (waiting front : List (Waiting Task)) (w : Waiting Task) (back : List (Waiting Task)) (pushed : ℕ) → waiting ≡ front ++ w ∷ back → IsOrderly (record { waiting = waiting; pushed = pushed }) → IsOrderly (record { waiting = front ++ back; pushed = pushed })
orderly_less waiting front w back pushed stands h =
    let rising : AreRising 0 (front ++ w ∷ back) pushed = rw stands at h.rising in
    let few : length (front ++ w ∷ back) ≤ pending_limit = rw stands at h.few in
    record {
      rising = rising_less 0 pushed front w back rising;
      counted = h.counted;
      few = omega (arith, few, length-append front (w ∷ back), length-append front back);
    }

pub all_less : {X : Type 0} (P : X → Type 0) (front : List X) (x : X) (back : List X) → All P (front ++ x ∷ back) → All P (front ++ back)
all_less P [] x back h = All-tail P x back h
all_less P (y ∷ ys) x back h = All-cons P y (ys ++ back) (All-head P y (ys ++ x ∷ back) h) (all_less P ys x back (All-tail P y (ys ++ x ∷ back) h))
