-- One message more is answered.
use Rattle.std.proofs.Common.{◌≡◌, ℕ, suc, ◌+◌, ◌<◌, ◌≤◌, List, [], ◌∷◌, ◌++◌, length, get_or, take, refl, sym, ap, ◌∙◌, subst, arith}
use Rattle.std.proofs.lemmas.List.{take_all}
use Rattle.std.proofs.Math.Seq.{take-suc}
use Rattle.over_core.specs.Kept.{CellState}
use Rattle.hosting.specs.declared.runs.TimedRequest.{TimedRequest}
use Rattle.hosting.specs.declared.answers.Answered.{Answered}
use Rattle.hosting.specs.Serving.{Answers}
use Rattle.hosting.specs.Runs.{Serves}

one_answer_more : (old mid new : CellState) (asked : List TimedRequest) (given : List Answered) (message : TimedRequest) (answered : Answered) → Serves old asked given mid
    → Answers message.now message.request mid answered new → Serves old (asked ++ message ∷ []) (given ++ answered ∷ []) new
one_answer_more old mid new [] [] message answered p q =
    let P : CellState → Type 0 = λ s. Answers message.now message.request s answered new in
    (new, subst P p q, refl)
one_answer_more old mid new [] (x ∷ xs) message answered p q = absurd p
one_answer_more old mid new (m ∷ ms) [] message answered p q = absurd p
one_answer_more old mid new (m ∷ ms) (x ∷ xs) message answered p q = (p.0, p.1, one_answer_more p.0 mid new ms xs message answered p.2 q)

pub serves_more : (asked : List TimedRequest) (i : ℕ) (message : TimedRequest) (old mid new : CellState) (given after : List Answered) (answered : Answered) → i < length asked
    → message ≡ get_or asked i message → Serves old (take i asked) given mid → Answers message.now message.request mid answered new → after ≡ given ++ answered ∷ []
    → Serves old (take (i + 1) asked) after new
serves_more asked i message old mid new given after answered lt at before now e =
    let next : i + 1 ≡ suc i = omega arith in
    let longer : take (i + 1) asked ≡ take i asked ++ message ∷ [] =
    ap (λ (n : ℕ). take n asked) next ∙ take-suc asked i message lt ∙ ap (λ (y : TimedRequest). take i asked ++ y ∷ []) (sym at) in
    let P : List TimedRequest → Type 0 = λ u. Serves old u after new in
    let Q : List Answered → Type 0 = λ u. Serves old (take i asked ++ message ∷ []) u new in
    subst P (sym longer) (subst Q (sym e) (one_answer_more old mid new (take i asked) given message answered before now))

pub begins_serving : (old : CellState) (asked : List TimedRequest) (given : List Answered) → given ≡ [] → Serves old (take 0 asked) given old
begins_serving old asked given empty =
    let P : List Answered → Type 0 = λ u. Serves old [] u old in
    subst P (sym empty) refl

pub ends_serving : (old new : CellState) (asked : List TimedRequest) (i : ℕ) (given result : List Answered) → length asked ≤ i → Serves old (take i asked) given new → result ≡ given
    → Serves old asked result new
ends_serving old new asked i given result le served same =
    let P : List TimedRequest → Type 0 = λ u. Serves old u given new in
    let Q : List Answered → Type 0 = λ u. Serves old asked u new in
    subst Q (sym same) (subst P (take_all i asked le) served)
