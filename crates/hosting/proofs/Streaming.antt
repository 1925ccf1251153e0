-- What is told, put one after the other.
use Rattle.std.proofs.Common.{◌≡◌, ℕ, suc, ◌+◌, ◌<◌, ◌≤◌, List, [], ◌∷◌, ◌++◌, length, get_or, take, map, Result, Ok, Err, refl, sym, ap, subst, ◌∙◌, append_assoc, arith}
use Rattle.std.specs.Prelude.{OnOk}
use Rattle.std.proofs.lemmas.List.{append-nil, take_all}
use Rattle.std.proofs.Math.Seq.{take-suc}
use Rattle.node_core.specs.declared.lines.Line.{Line}
use Rattle.tags_cell.specs.declared.messages.outs.Out.{Out}
use Rattle.over_core.specs.declared.swept.Swept.{Swept}
use Rattle.hosting.specs.declared.tellings.MasterFrame.{MasterFrame}
use Rattle.hosting.specs.Blocks.{framed}
use Rattle.hosting.specs.Told.{told}
use Rattle.hosting.specs.declared.standing.Delay.{Delay}
use Rattle.hosting.specs.declared.answers.Answered.{Answered}
use Rattle.hosting.specs.Replies.{step_told, sweeps_told, delay_told, delays_told, answered_told, AreBlocks, Puts}

blocks_behind : (front back : List MasterFrame) (xs ys : List ℕ) → AreBlocks front xs → AreBlocks back ys → AreBlocks (front ++ back) (xs ++ ys)
blocks_behind [] back xs ys p q = let P : List ℕ → Type 0 = λ u. AreBlocks back (u ++ ys) in subst P (sym p) q
blocks_behind (given ∷ front) back xs ys p q =
    (p.0, p.1 ++ ys, p.2, blocks_behind front back p.1 ys p.3 q, ap (λ (u : List ℕ). u ++ ys) p.4 ∙ append_assoc p.0 p.1 ys)

pub puts_none : (bytes : List ℕ) → Puts [] bytes bytes
puts_none bytes = ([], refl, sym (append-nil bytes))

pub puts_one : (given : MasterFrame) (block old new : List ℕ) → framed told given ≡ Ok block → new ≡ old ++ block → Puts (given ∷ []) old new
puts_one given block old new is e = (block, (block, [], is, refl, sym (append-nil block)), e)

pub puts_behind : (front back : List MasterFrame) (old mid new : List ℕ) → Puts front old mid → Puts back mid new → Puts (front ++ back) old new
puts_behind front back old mid new p q =
    (p.0 ++ q.0, blocks_behind front back p.0 q.0 p.1 q.1, q.2 ∙ ap (λ (u : List ℕ). u ++ q.0) p.2 ∙ append_assoc old p.0 q.0)

pub then_puts : {X E : Type 0} (r : Result X E) (front back : List MasterFrame) (old mid new : List ℕ) → Puts front old mid → OnOk r (Puts back mid new) → OnOk r (Puts (front ++ back) old new)
then_puts (Ok x) front back old mid new p q = puts_behind front back old mid new p q
then_puts (Err e) front back old mid new p q = tt

-- all of a reply stands in a list that was empty
pub all_put : (given : List MasterFrame) (old new : List ℕ) → old ≡ [] → Puts given old new → AreBlocks given new
all_put given old new empty p =
    let P : List ℕ → Type 0 = λ u. AreBlocks given u in
    subst P (sym (p.2 ∙ ap (λ (u : List ℕ). u ++ p.0) empty)) p.1

-- ---- loops

take_next : {X : Type 0} (xs : List X) (i : ℕ) (x : X) → i < length xs → x ≡ get_or xs i x → take (i + 1) xs ≡ take i xs ++ x ∷ []
take_next {X = X} xs i x lt at =
    let next : i + 1 ≡ suc i = omega arith in
    ap (λ (n : ℕ). take n xs) next ∙ take-suc xs i x lt ∙ ap (λ (y : X). take i xs ++ y ∷ []) (sym at)

map_next : {X : Type 0} (f : X → MasterFrame) (xs : List X) (x : X) → map f (xs ++ x ∷ []) ≡ map f xs ++ f x ∷ []
map_next f [] x = refl
map_next f (y ∷ xs) x = ap (λ (u : List MasterFrame). f y ∷ u) (map_next f xs x)

pub puts_next : {X : Type 0} (f : X → MasterFrame) (xs : List X) (i : ℕ) (x : X) (old mid new : List ℕ) → i < length xs → x ≡ get_or xs i x → Puts (map f (take i xs)) old mid
    → Puts (f x ∷ []) mid new → Puts (map f (take (i + 1) xs)) old new
puts_next {X = X} f xs i x old mid new lt at p q =
    let P : List MasterFrame → Type 0 = λ u. Puts u old new in
    subst P (sym (ap (λ (u : List X). map f u) (take_next xs i x lt at) ∙ map_next f (take i xs) x)) (puts_behind (map f (take i xs)) (f x ∷ []) old mid new p q)

pub puts_all : {X : Type 0} (f : X → MasterFrame) (xs : List X) (i : ℕ) (old new : List ℕ) → length xs ≤ i → Puts (map f (take i xs)) old new → Puts (map f xs) old new
puts_all {X = X} f xs i old new le p = let P : List X → Type 0 = λ u. Puts (map f u) old new in subst P (take_all i xs le) p

sweeps_next : (xs : List Swept) (x : Swept) → sweeps_told (xs ++ x ∷ []) ≡ sweeps_told xs ++ step_told x.lines x.outs
sweeps_next [] x = append-nil (step_told x.lines x.outs)
sweeps_next (y ∷ xs) x =
    ap (λ (u : List MasterFrame). step_told y.lines y.outs ++ u) (sweeps_next xs x) ∙ sym (append_assoc (step_told y.lines y.outs) (sweeps_told xs) (step_told x.lines x.outs))

pub puts_sweep : (xs : List Swept) (i : ℕ) (x : Swept) (old mid new : List ℕ) → i < length xs → x ≡ get_or xs i x → Puts (sweeps_told (take i xs)) old mid
    → Puts (step_told x.lines x.outs) mid new → Puts (sweeps_told (take (i + 1) xs)) old new
puts_sweep xs i x old mid new lt at p q =
    let P : List MasterFrame → Type 0 = λ u. Puts u old new in
    subst P (sym (ap (λ (u : List Swept). sweeps_told u) (take_next xs i x lt at) ∙ sweeps_next (take i xs) x))
    (puts_behind (sweeps_told (take i xs)) (step_told x.lines x.outs) old mid new p q)

pub puts_sweeps : (xs : List Swept) (i : ℕ) (old new : List ℕ) → length xs ≤ i → Puts (sweeps_told (take i xs)) old new → Puts (sweeps_told xs) old new
puts_sweeps xs i old new le p = let P : List Swept → Type 0 = λ u. Puts (sweeps_told u) old new in subst P (take_all i xs le) p

delays_next : (xs : List Delay) (x : Delay) → delays_told (xs ++ x ∷ []) ≡ delays_told xs ++ delay_told x
delays_next [] x = append-nil (delay_told x)
delays_next (y ∷ xs) x = ap (λ (u : List MasterFrame). delay_told y ++ u) (delays_next xs x) ∙ sym (append_assoc (delay_told y) (delays_told xs) (delay_told x))

pub puts_delay : (xs : List Delay) (i : ℕ) (x : Delay) (old mid new : List ℕ) → i < length xs → x ≡ get_or xs i x → Puts (delays_told (take i xs)) old mid
    → Puts (delay_told x) mid new → Puts (delays_told (take (i + 1) xs)) old new
puts_delay xs i x old mid new lt at p q =
    let P : List MasterFrame → Type 0 = λ u. Puts u old new in
    subst P (sym (ap (λ (u : List Delay). delays_told u) (take_next xs i x lt at) ∙ delays_next (take i xs) x))
    (puts_behind (delays_told (take i xs)) (delay_told x) old mid new p q)

pub puts_delays : (xs : List Delay) (i : ℕ) (old new : List ℕ) → length xs ≤ i → Puts (delays_told (take i xs)) old new → Puts (delays_told xs) old new
puts_delays xs i old new le p = let P : List Delay → Type 0 = λ u. Puts (delays_told u) old new in subst P (take_all i xs le) p

-- ---- the same lists

pub puts_at : {X : Type 0} (f : X → MasterFrame) (xs ys : List X) (old new : List ℕ) → xs ≡ ys → Puts (map f xs) old new → Puts (map f ys) old new
puts_at {X = X} f xs ys old new e p = let P : List X → Type 0 = λ u. Puts (map f u) old new in subst P e p

pub puts_if_at : {X Y E : Type 0} (r : Result Y E) (f : X → MasterFrame) (xs ys : List X) (old new : List ℕ) → xs ≡ ys → OnOk r (Puts (map f xs) old new) → OnOk r (Puts (map f ys) old new)
puts_if_at {X = X} r f xs ys old new e p = let P : List X → Type 0 = λ u. OnOk r (Puts (map f u) old new) in subst P e p

pub delays_if_at : {Y E : Type 0} (r : Result Y E) (xs ys : List Delay) (old new : List ℕ) → xs ≡ ys → OnOk r (Puts (delays_told xs) old new) → OnOk r (Puts (delays_told ys) old new)
delays_if_at r xs ys old new e p = let P : List Delay → Type 0 = λ u. OnOk r (Puts (delays_told u) old new) in subst P e p

pub step_at : (lines printed : List Line) (outs sent : List Out) (old new : List ℕ) → lines ≡ printed → outs ≡ sent → Puts (step_told lines outs) old new
    → Puts (step_told printed sent) old new
step_at lines printed outs sent old new e f p =
    let P : List Line → Type 0 = λ u. Puts (step_told u sent) old new in
    let Q : List Out → Type 0 = λ u. Puts (step_told lines u) old new in
    subst P e (subst Q f p)

pub sweeps_at : (xs ys : List Swept) (old new : List ℕ) → xs ≡ ys → Puts (sweeps_told xs) old new → Puts (sweeps_told ys) old new
sweeps_at xs ys old new e p = let P : List Swept → Type 0 = λ u. Puts (sweeps_told u) old new in subst P e p

pub same_answer : {X E : Type 0} (r : Result X E) (answered given : Answered) (old new : List ℕ) → answered ≡ given → OnOk r (Puts (answered_told given) old new)
    → OnOk r (Puts (answered_told answered) old new)
same_answer r answered given old new e p =
    let P : Answered → Type 0 = λ a. OnOk r (Puts (answered_told a) old new) in
    subst P (sym e) p
