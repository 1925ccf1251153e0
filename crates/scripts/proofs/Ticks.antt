-- The words that write a tick.
use Rattle.std.proofs.Common.{◌≡◌, ◌∷◌, [], ◌++◌, ◌<◌, ◌+◌, zero, suc, List, ℕ, length, get_or, take, map, arith, lit<, refl, sym, ap, subst, ◌∙◌, codes, Option, Bor}
use Rattle.std.specs.Prelude.{decimal, MatchOption}
use Rattle.std.proofs.lemmas.List.{map-append, take_more}
use Rattle.std.proofs.lemmas.Str.Pattern.{IsSplitOnceResult, split_after}
use Rattle.std.proofs.lemmas.Str.Parse.{not_in_digits}
use Rattle.std.proofs.lemmas.Fmt.{digits_decimal}
use Rattle.world_steps.specs.declared.steps.Step.{Step}
use Rattle.world_steps.specs.declared.steps.Step.TheVariants as steps
use Rattle.world_steps.specs.declared.steps.Ticks.{Ticks}
use Rattle.scripts.specs.Steps.{WritesStep, WritesTicks, WritesOwn, AreOwn, IsOwn, IsNumber, own_word, texts}
use Rattle.scripts.proofs.Decimals.{own}
use Rattle.scripts.proofs.Lifts.{none}
use Rattle.scripts.proofs.Written.{head, tail, no_word, other}

-- ---- a client's own step

-- a word that writes one is cut at its colon
pub own_parts : (word : List ℕ) (r : Option (Bor (List ℕ) × Bor (List ℕ))) → IsSplitOnceResult 58 word r → (entry : ℕ × ℕ) → (own_word entry ≡ word) × IsOwn entry → MatchOption r ⊥ (λ x. (x.0.now ≡ decimal entry.0) × (x.1.now ≡ decimal entry.1))
own_parts word r split entry w =
    let digits = digits_decimal own entry.0 w.1.0 in
    split_after 58 word (decimal entry.0) (decimal entry.1) r split (lit< tt) (sym w.0) (not_in_digits own (decimal entry.0) 58 digits (λ r. absurd (omega (arith, r.1))))

pub own_written : (word client step : List ℕ) (n m : ℕ) → word ≡ client ++ (58 ∷ step) → (decimal n ≡ client) × IsNumber n → (decimal m ≡ step) × IsNumber m → (own_word (n, m) ≡ word) × IsOwn (n, m)
own_written word client step n m cut a b =
    (ap (λ x. x ++ (58 ∷ decimal m)) a.0 ∙ ap (λ x. client ++ (58 ∷ x)) b.0 ∙ sym cut, (a.1, b.1))

-- ---- steps of single clients

are_more : (own : List (ℕ × ℕ)) (entry : ℕ × ℕ) → AreOwn own → IsOwn entry → AreOwn (own ++ entry ∷ [])
are_more [] entry h k = (k, tt)
are_more (x ∷ own) entry h k = (h.0, are_more own entry h.1 k)

-- one word more
pub own_more : (words : List (Bor (List ℕ))) (i : ℕ) (word : List ℕ) (own new : List (ℕ × ℕ)) (entry : ℕ × ℕ) → i < length words → word ≡ (get_or words i none).now → WritesOwn (texts (take i words)) own → (own_word entry ≡ word) × IsOwn entry → new ≡ own ++ entry ∷ [] → WritesOwn (texts (take (i + 1) words)) new
own_more words i word own new entry h is w e grown =
    let before : texts (take (i + 1) words) ≡ texts (take i words) ++ word ∷ [] =
    ap texts (take_more words i none h) ∙ map-append (λ word. word.now) (take i words) (get_or words i none ∷ []) ∙ ap (λ x. texts (take i words) ++ x ∷ []) (sym is) in
    let after : map own_word (own ++ entry ∷ []) ≡ map own_word own ++ word ∷ [] =
    map-append own_word own (entry ∷ []) ∙ ap (λ x. map own_word own ++ x ∷ []) e.0 in
    subst (WritesOwn (texts (take (i + 1) words))) (sym grown) (before ∙ ap (λ x. x ++ word ∷ []) w.0 ∙ sym after, are_more own entry w.1 e.1)

-- where words write steps, each word writes one
pub own_at : (words : List (Bor (List ℕ))) (i : ℕ) → i < length words → (b : List (ℕ × ℕ)) → WritesOwn (texts words) b → (entry : ℕ × ℕ) × ((own_word entry ≡ (get_or words i none).now) × IsOwn entry)
own_at [] i h b w = absurd (omega arith)
own_at (word ∷ words) i h [] w = absurd (no_word (sym w.0))
own_at (word ∷ words) zero h (entry ∷ rest) w = (entry, (sym (ap head w.0), w.1.0))
own_at (word ∷ words) (suc i) h (entry ∷ rest) w = own_at words i (omega arith) rest (ap tail w.0, w.1.1)

-- ---- the whole

pub master_out : (words rest : List (List ℕ)) (master clients : List ℕ) → words ≡ master ∷ (clients ∷ rest) → (b : Ticks) → WritesTicks words b → (n : ℕ) × ((decimal n ≡ master) × IsNumber n)
master_out words rest master clients shape b w = (b.master, (ap head (sym w.1 ∙ shape), w.2.0))

pub clients_out : (words rest : List (List ℕ)) (master clients : List ℕ) → words ≡ master ∷ (clients ∷ rest) → (b : Ticks) → WritesTicks words b → (n : ℕ) × ((decimal n ≡ clients) × IsNumber n)
clients_out words rest master clients shape b w = (b.clients, (ap (λ x. head (tail x)) (sym w.1 ∙ shape), w.2.1.0))

pub own_out : (words rest : List (List ℕ)) (master clients : List ℕ) → words ≡ master ∷ (clients ∷ rest) → (b : Ticks) → WritesTicks words b → (entries : List (ℕ × ℕ)) × WritesOwn rest entries
own_out words rest master clients shape b w = (b.own, subst (λ x. WritesOwn x b.own) (ap (λ x. tail (tail x)) (sym w.1 ∙ shape)) w.2.1.1)

pub ticks_written : (words rest : List (List ℕ)) (master clients : List ℕ) (n m : ℕ) (entries : List (ℕ × ℕ)) → words ≡ master ∷ (clients ∷ rest) → (decimal n ≡ master) × IsNumber n → (decimal m ≡ clients) × IsNumber m → WritesOwn rest entries → WritesTicks words (record { master = n; clients = m; own = entries })
ticks_written words rest master clients n m entries shape a b w =
    (rest, shape ∙ ap (λ x. x ∷ (clients ∷ rest)) (sym a.0) ∙ ap (λ x. decimal n ∷ (x ∷ rest)) (sym b.0), (a.1, (b.1, w)))

pub tick_out : (word : List ℕ) (rest : List (List ℕ)) → word ≡ codes "tick" → (b : Step) → WritesStep word rest b → (ticks : Ticks) × WritesTicks rest ticks
tick_out word rest is (steps.Tick ticks) w = (ticks, w.1)
tick_out word rest is (steps.Up n) w = absurd (other (codes "tick") (codes "up") refl is w.0)
tick_out word rest is (steps.Join n principal) w = absurd (other (codes "tick") (codes "join") refl is w.0)
tick_out word rest is (steps.Ask n call) w = absurd (other (codes "tick") (codes "ask") refl is w.0)
tick_out word rest is (steps.Beat n) w = absurd (other (codes "tick") (codes "beat") refl is w.0)
tick_out word rest is (steps.Take n) w = absurd (other (codes "tick") (codes "take") refl is w.0)
tick_out word rest is (steps.Give n) w = absurd (other (codes "tick") (codes "give") refl is w.0)
tick_out word rest is steps.Sweep w = absurd (other (codes "tick") (codes "sweep") refl is w.0)
tick_out word rest is steps.Beats w = absurd (other (codes "tick") (codes "beats") refl is w.0)
tick_out word rest is steps.Down w = absurd (other (codes "tick") (codes "down") refl is w.0)
tick_out word rest is (steps.CutSweep commit) w = absurd (other (codes "tick") (codes "cut") refl is w.0)
tick_out word rest is (steps.CutUp m commit) w = absurd (other (codes "tick") (codes "cut") refl is w.0)
