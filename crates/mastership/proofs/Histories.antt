-- A revision is written over once.
use Rattle.std.proofs.Common.{◌≡◌, inl, inr, ℕ, ◌<◌, ◌≤◌, List, [], ◌∷◌, ◌++◌, ap, arith}
use Rattle.mastership.specs.Register.{Transaction, Write, revision, IsHistory, Happened, NothingEarlier}

pub same_over : (one other : Transaction) → one ≡ other → one.over ≡ other.over
same_over one other e = let f : Transaction → ℕ = λ x. x.over in ap f e

pub same_turn : (one other : Transaction) → one ≡ other → one.turn ≡ other.turn
same_turn one other e = let f : Transaction → ℕ = λ x. x.turn in ap f e

-- what was done was done over an earlier revision than the present one
pub done_over_less : (transaction : Transaction) (writes : List Write) → IsHistory writes → Happened transaction writes → transaction.over < revision writes
done_over_less t [] h k = absurd k
done_over_less t (write ∷ before) h (inl e) =
    let same : write.done.over ≡ t.over = same_over write.done t e in let rises : write.done.over < write.made = h.1 in omega arith
done_over_less t (write ∷ before) h (inr k) =
    let less : t.over < revision before = done_over_less t before h.2 k in
    let at : write.done.over ≡ revision before = h.0 in
    let rises : write.done.over < write.made = h.1 in
    omega arith

-- revisions rise
pub revision_rises : (later : List Write) (write : Write) (before : List Write) → IsHistory (later ++ (write ∷ before)) → write.made ≤ revision (later ++ (write ∷ before))
revision_rises [] write before h = omega arith
revision_rises (next ∷ later) write before h =
    let less : write.made ≤ revision (later ++ (write ∷ before)) = revision_rises later write before h.2 in
    let at : next.done.over ≡ revision (later ++ (write ∷ before)) = h.0 in
    let rises : next.done.over < next.made = h.1 in
    omega arith

pub write_rises : (later : List Write) (write : Write) (before : List Write) → IsHistory (later ++ (write ∷ before)) → write.done.over < write.made
write_rises [] write before h = h.1
write_rises (next ∷ later) write before h = write_rises later write before h.2

-- what was sent over the same revision as a write that stands, and isn't that one, is off
pub off_for_good :
    (transaction : Transaction) (later : List Write) (write : Write) (before : List Write) →
    IsHistory (later ++ (write ∷ before)) →
    transaction.over ≡ write.done.over →
    (write.done ≡ transaction → ⊥) →
    Happened transaction (later ++ (write ∷ before)) →
    ⊥
off_for_good t [] write before h same other (inl e) = other e
off_for_good t [] write before h same other (inr k) =
    let less : t.over < revision before = done_over_less t before h.2 k in let at : write.done.over ≡ revision before = h.0 in omega arith
off_for_good t (next ∷ later) write before h same other (inl e) =
    let over : next.done.over ≡ t.over = same_over next.done t e in
    let at : next.done.over ≡ revision (later ++ (write ∷ before)) = h.0 in
    let least : write.made ≤ revision (later ++ (write ∷ before)) = revision_rises later write before h.2 in
    let rises : write.done.over < write.made = write_rises later write before h.2 in
    omega arith
off_for_good t (next ∷ later) write before h same other (inr k) = off_for_good t later write before h.2 same other k

pub nothing_earlier : NothingEarlier
nothing_earlier write before [] t h k = absurd k
nothing_earlier write before (next ∷ later) t h (inl e) =
    let over : next.done.over ≡ t.over = same_over next.done t e in
    let at : next.done.over ≡ revision (later ++ (write ∷ before)) = h.0 in
    let least : write.made ≤ revision (later ++ (write ∷ before)) = revision_rises later write before h.2 in
    omega arith
nothing_earlier write before (next ∷ later) t h (inr k) = nothing_earlier write before later t h.2 k
