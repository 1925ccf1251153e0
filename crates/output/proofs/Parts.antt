-- A text that is written in parts.
use Rattle.std.proofs.Common.{◌≡◌, ℕ, ◌+◌, List, [], ◌∷◌, ◌++◌, length, take, drop, Option, None, Some, Result, Ok, Err, refl, sym, ap, subst, ◌∙◌, append-nil, take-append-drop, arith}
use Rattle.std.specs.Prelude.{IfSome, OnOk, OnErr}
use Rattle.std.specs.Io.KnownBytes.{Appends}
use Rattle.std.proofs.KnownBytes.{Appends-nil, Appends-trans}
use Rattle.std.proofs.lemmas.List.{append_assoc, length-take, take_min}
use lib.Seq.{take-add}
use Rattle.output.specs.Fronts.{AppendsFront, IsPart}
use Rattle.output.proofs.Fronts.{front_at, front_before, front_behind}

abbrev Known : Type 0
Known = Option (List ℕ)

pub on_err : {T E P : Type 0} (r : Result T E) → P → OnErr r P
on_err (Ok x) p = tt
on_err (Err e) p = p

-- ---- a part

pub part_of : (o before after : Known) (at count : ℕ) (bytes : List ℕ) → IfSome o (λ text. bytes ≡ take 4096 (drop at text)) → count ≡ length bytes → Appends before after bytes → IfSome o (IsPart before after at count)
part_of None before after at count bytes is counted p = tt
part_of (Some text) before after at count bytes is counted p = (counted ∙ ap length is, subst (Appends before after) is p)

pub front_of_part : (o before after : Known) (at : ℕ) (bytes : List ℕ) → IfSome o (λ text. bytes ≡ take 4096 (drop at text)) → AppendsFront before after bytes → IfSome o (λ text. AppendsFront before after (drop at text))
front_of_part None before after at bytes is p = tt
front_of_part (Some text) before after at bytes is p =
    let rest : List ℕ = drop 4096 (drop at text) in
    let all : drop at text ≡ p.0 ++ (p.1 ++ rest) =
    sym (take-append-drop 4096 (drop at text)) ∙ ap (λ (l : List ℕ). l ++ rest) (sym is ∙ p.2) ∙ append_assoc p.0 p.1 rest in
    (p.0, p.1 ++ rest, all, p.3)

-- ---- the parts so far

pub none_so_far : (o before : Known) → IfSome o (λ text. Appends before before (take 0 text))
none_so_far None before = tt
none_so_far (Some text) before = Appends-nil before

-- the next can't be written
pub stops_in_part : (o before between after : Known) (at : ℕ) → IfSome o (λ text. Appends before between (take at text)) → IfSome o (λ text. AppendsFront between after (drop at text)) → IfSome o (AppendsFront before after)
stops_in_part None before between after at p q = tt
stops_in_part (Some text) before between after at p q =
    let all : text ≡ (take at text ++ q.0) ++ q.1 =
    sym (take-append-drop at text) ∙ ap (λ (l : List ℕ). take at text ++ l) q.2 ∙ sym (append_assoc (take at text) q.0 q.1) in
    (take at text ++ q.0, q.1, all, Appends-trans before between after (take at text) q.0 p q.3)

one_more : (text : List ℕ) (at count : ℕ) → count ≡ length (take 4096 (drop at text)) → take at text ++ take 4096 (drop at text) ≡ take (at + count) text
one_more text at count is =
    let few : take count (drop at text) ≡ take 4096 (drop at text) = ap (λ n. take n (drop at text)) (is ∙ length-take 4096 (drop at text)) ∙ take_min 4096 (drop at text) in
    ap (λ (l : List ℕ). take at text ++ l) (sym few) ∙ sym (take-add at count text)

pub part_more : (o before between after : Known) (at count next : ℕ) → next ≡ at + count → IfSome o (λ text. Appends before between (take at text)) → IfSome o (IsPart between after at count) → IfSome o (λ text. Appends before after (take next text))
part_more None before between after at count next sum p q = tt
part_more (Some text) before between after at count next sum p q =
    subst (Appends before after) (one_more text at count q.0 ∙ ap (λ n. take n text) (sym sum)) (Appends-trans before between after (take at text) (take 4096 (drop at text)) p q.1)

pub stops_behind_part : (o before between after : Known) (at count : ℕ) → IfSome o (λ text. Appends before between (take at text)) → IfSome o (IsPart between after at count) → IfSome o (AppendsFront before after)
stops_behind_part None before between after at count p q = tt
stops_behind_part (Some text) before between after at count p q =
    front_at before after text (at + count) (part_more (Some text) before between after at count (at + count) refl p q)

pub stops_so_far : (o before after : Known) (at : ℕ) → IfSome o (λ text. Appends before after (take at text)) → IfSome o (AppendsFront before after)
stops_so_far None before after at p = tt
stops_so_far (Some text) before after at p = front_at before after text at p

none_left : (text : List ℕ) → 0 ≡ length (take 4096 text) → text ≡ []
none_left [] is = refl
none_left (x ∷ text) is = absurd (omega (arith, is))

-- none is left
pub part_last : (o before between after : Known) (at count : ℕ) → count ≡ 0 → IfSome o (λ text. Appends before between (take at text)) → IfSome o (IsPart between after at count) → IfSome o (Appends before after)
part_last None before between after at count zero p q = tt
part_last (Some text) before between after at count zero p q =
    let left : drop at text ≡ [] = none_left (drop at text) (sym zero ∙ q.0) in
    let all : take at text ++ take 4096 (drop at text) ≡ text =
    ap (λ (l : List ℕ). take at text ++ take 4096 l) left ∙ append-nil (take at text) ∙ sym (append-nil (take at text)) ∙ ap (λ (l : List ℕ). take at text ++ l) (sym left) ∙ take-append-drop at text in
    subst (Appends before after) all (Appends-trans before between after (take at text) (take 4096 (drop at text)) p q.1)

-- ---- with LF behind it

pub line_whole : {E : Type 0} (r : Result (Unit {0}) E) (o before between after : Known) → IfSome o (Appends before between) → OnOk r (Appends between after (10 ∷ [])) → OnOk r (IfSome o (λ text. Appends before after (text ++ (10 ∷ []))))
line_whole (Ok x) None before between after p q = tt
line_whole (Ok x) (Some text) before between after p q = Appends-trans before between after text (10 ∷ []) p q
line_whole (Err e) o before between after p q = tt

pub line_stops : (o before after : Known) → IfSome o (AppendsFront before after) → IfSome o (λ text. AppendsFront before after (text ++ (10 ∷ [])))
line_stops None before after p = tt
line_stops (Some text) before after p = front_before before after text (10 ∷ []) p

pub line_unended : {E : Type 0} (r : Result (Unit {0}) E) (o before between after : Known) → IfSome o (Appends before between) → OnErr r (AppendsFront between after (10 ∷ [])) → OnErr r (IfSome o (λ text. AppendsFront before after (text ++ (10 ∷ []))))
line_unended (Ok x) o before between after p q = tt
line_unended (Err e) None before between after p q = tt
line_unended (Err e) (Some text) before between after p q = front_behind before between after text (10 ∷ []) p q
