-- A lock-delay and events, and the words that write them.
use Rattle.std.proofs.Common.{◌≡◌, inl, inr, ◌∷◌, ◌<◌, List, ℕ, length, refl, sym, ap, subst, arith, ◌∙◌, codes, Bor}
use Rattle.std.specs.Prelude.{decimal}
use Rattle.tags_cell.specs.declared.masks.Events.{Events}
use Rattle.scripts.specs.Steps.{WritesOptions, WritesEvents, IsNumber, texts}
use Rattle.scripts.proofs.Cuts.{length_texts}
use Rattle.scripts.proofs.Written.{head, tail, no_word, other}

-- what the words write
abbrev pub Asked : Type 0
Asked = ℕ × Events

abbrev pub WritesAsked : List (List ℕ) → Asked → Type 0
WritesAsked words asked = WritesOptions words asked.0 asked.1

-- ---- events alone

too_few : (words rest : List (List ℕ)) (first word : List ℕ) → words ≡ first ∷ (word ∷ rest) → length words < 2 → ⊥
too_few words rest first word shape few = let long = ap length shape in absurd (omega (arith, long, few))

pub few_words : (words : List (Bor (List ℕ))) → length words < 2 → (b : Asked) → WritesAsked (texts words) b → (events : Events) × WritesEvents (texts words) events
few_words words few b (rest, inl none, w) = (b.1, subst (λ x. WritesEvents x b.1) (sym none.0) w)
few_words words few b (rest, inr told, w) = let long = length_texts words in absurd (too_few (texts words) rest (codes "delay") (decimal b.0) told.0 (omega (arith, long, few)))

-- ---- a lock-delay, and events after it

no_events : (words rest : List (List ℕ)) (first : List ℕ) (events : Events) → words ≡ first ∷ rest → first ≡ codes "delay" → WritesEvents words events → ⊥
no_events words rest first events shape is (inl none) = no_word (sym none.0 ∙ shape)
no_events words rest first events shape is (inr some) = other (codes "delay") (codes "events") refl is (ap head (sym shape ∙ some.0))

pub events_out : (words rest : List (List ℕ)) (first word : List ℕ) → words ≡ first ∷ (word ∷ rest) → first ≡ codes "delay" → (b : Asked) → WritesAsked words b → (events : Events) × WritesEvents rest events
events_out words rest first word shape is b (behind, inl none, w) = absurd (no_events words (word ∷ rest) first b.1 shape is (subst (λ x. WritesEvents x b.1) (sym none.0) w))
events_out words rest first word shape is b (behind, inr told, w) = (b.1, subst (λ x. WritesEvents x b.1) (ap (λ x. tail (tail x)) (sym told.0 ∙ shape)) w)

pub delayed : (words rest : List (List ℕ)) (first word : List ℕ) (delay : ℕ) (events : Events) → words ≡ first ∷ (word ∷ rest) → first ≡ codes "delay" → decimal delay ≡ word → IsNumber delay → WritesEvents rest events → WritesOptions words delay events
delayed words rest first word delay events shape is told small w =
    (rest, inr (shape ∙ ap (λ x. x ∷ (word ∷ rest)) is ∙ ap (λ x. codes "delay" ∷ (x ∷ rest)) (sym told), small), w)
