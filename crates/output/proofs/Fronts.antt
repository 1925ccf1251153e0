-- Bytes of which a front was written.
use Rattle.std.proofs.Common.{◌≡◌, ℕ, ◌+◌, ◌-◌, List, [], ◌++◌, length, take, drop, Option, sym, ap, subst, ◌∙◌, append-nil, append_assoc, take-append-drop, take_all, length-drop, arith}
use Rattle.std.specs.Prelude.{slice_range}
use Rattle.std.specs.Io.KnownBytes.{Appends, Keeps}
use Rattle.std.proofs.KnownBytes.{Appends-kept, Appends-trans}
use lib.Seq.{take-add}
use Rattle.output.specs.Fronts.{AppendsFront}

abbrev Known : Type 0
Known = Option (List ℕ)

-- all of them are a front
pub front_all : (before after : Known) (bytes : List ℕ) → Appends before after bytes → AppendsFront before after bytes
front_all before after bytes p = (bytes, [], sym (append-nil bytes), p)

pub front_kept : (before between after : Known) (bytes : List ℕ) → Appends before between bytes → Keeps between after → AppendsFront before after bytes
front_kept before between after bytes p k = front_all before after bytes (Appends-kept before between after bytes p k)

pub front_at : (before after : Known) (bytes : List ℕ) (at : ℕ) → Appends before after (take at bytes) → AppendsFront before after bytes
front_at before after bytes at p = (take at bytes, drop at bytes, sym (take-append-drop at bytes), p)

pub front_stops : (before between after : Known) (bytes : List ℕ) (at : ℕ) → Appends before between (take at bytes) → Keeps between after → AppendsFront before after bytes
front_stops before between after bytes at p k = front_at before after bytes at (Appends-kept before between after (take at bytes) p k)

-- a front of those that are left was written too
pub front_more : (before between after : Known) (bytes : List ℕ) (at count : ℕ) → Appends before between (take at bytes) → Appends between after (take count (slice_range bytes at (length bytes)))
    → Appends before after (take (at + count) bytes)
front_more before between after bytes at count p q =
    let left : slice_range bytes at (length bytes) ≡ drop at bytes = take_all (length bytes - at) (drop at bytes) (omega (arith, length-drop at bytes)) in
    let joined : take at bytes ++ take count (slice_range bytes at (length bytes)) ≡ take (at + count) bytes =
    ap (λ (u : List ℕ). take at bytes ++ take count u) left ∙ sym (take-add at count bytes) in
    let P : List ℕ → Type 0 = λ u. Appends before after u in
    subst P joined (Appends-trans before between after _ _ p q)

-- a front of some is one of these and more
pub front_before : (before after : Known) (bytes more : List ℕ) → AppendsFront before after bytes → AppendsFront before after (bytes ++ more)
front_before before after bytes more p = (p.0, p.1 ++ more, ap (λ (l : List ℕ). l ++ more) p.2 ∙ append_assoc p.0 p.1 more, p.3)

-- some were written, and a front of more
pub front_behind : (before between after : Known) (bytes more : List ℕ) → Appends before between bytes → AppendsFront between after more → AppendsFront before after (bytes ++ more)
front_behind before between after bytes more p q =
    (bytes ++ q.0, q.1, ap (λ (l : List ℕ). bytes ++ l) q.2 ∙ sym (append_assoc bytes q.0 q.1), Appends-trans before between after bytes q.0 p q.3)

pub front_keeps : (before between after : Known) (bytes : List ℕ) → AppendsFront before between bytes → Keeps between after → AppendsFront before after bytes
front_keeps before between after bytes p k = (p.0, p.1, p.2, Appends-kept before between after p.0 p.3 k)
