-- One sweep more, or one answer to a Beat.
use Rattle.std.proofs.Common.{◌≡◌, ℕ, ◌+◌, List, [], ◌∷◌, ◌++◌, length, Bool, true, false, refl, sym, ap, ◌∙◌, subst, arith}
use Rattle.std.proofs.lemmas.List.{length_push}
use Rattle.std.specs.Prelude.{◌≢◌, Ok, Err}
use Rattle.node_core.specs.declared.refusals.Fault.{Fault}
use Rattle.node_core.specs.declared.refusals.Fault.TheVariants.{NoMemory}
use Rattle.over_core.specs.declared.swept.Swept.{Swept}
use Rattle.over_core.specs.Kept.{CellState}
use Rattle.over_core.specs.Sweep.{beats_step}
use Rattle.hosting.specs.declared.settling.Round.{Round}
use Rattle.hosting.specs.declared.settling.End.TheVariants.{Quiet, Refused, Unfinished}
use Rattle.hosting.specs.Serving.{StepsTo, AreBusy, sweep_limit, EndsBy, BeatsOnce, BeatStops, BeatsBehind}

abbrev Step : Type 1
Step = CellState → Swept → CellState → Type 0

abbrev Stop : Type 1
Stop = CellState → Fault → CellState → Type 0

pub one_more : (Once : Step) (old mid new : CellState) (sweeps : List Swept) (swept : Swept) → StepsTo Once old sweeps mid → Once mid swept new → StepsTo Once old (sweeps ++ swept ∷ []) new
one_more Once old mid new [] swept p q =
    let P : CellState → Type 0 = λ s. Once s swept new in
    (new, subst P p q, refl)
one_more Once old mid new (first ∷ sweeps) swept p q = (p.0, p.1, one_more Once p.0 mid new sweeps swept p.2 q)

pub busy_more : (sweeps : List Swept) (swept : Swept) → AreBusy sweeps → swept.quiet ≡ false → AreBusy (sweeps ++ swept ∷ [])
busy_more [] swept p q = (q, tt)
busy_more (first ∷ sweeps) swept p q = (p.0, busy_more sweeps swept p.1 q)

-- what a loop keeps: steps that found something to do
pub record Going (Once : Step) (old : CellState) (sweeps : List Swept) (new : CellState) : Type 0 where
  pub done : StepsTo Once old sweeps new
  pub busy : AreBusy sweeps

pub goes_on : (Once : Step) (old mid new : CellState) (before room after : List Swept) (swept : Swept) → Going Once old before mid → Once mid swept new → swept.quiet ≡ false → room ≡ before
    → after ≡ room ++ swept ∷ [] → Going Once old after new
goes_on Once old mid new before room after swept g once busy same e =
    let P : List Swept → Type 0 = λ u. Going Once old u new in
    subst P (sym (e ∙ ap (λ (u : List Swept). u ++ swept ∷ []) same)) (record { done = one_more Once old mid new before swept g.done once; busy = busy_more before swept g.busy busy })

-- the last one was quiet
pub ends_quiet : (Once : Step) (Stops : Stop) (old mid new : CellState) (before room after : List Swept) (swept : Swept) (result : Round) → Going Once old before mid → Once mid swept new
    → swept.quiet ≡ true → room ≡ before → after ≡ room ++ swept ∷ [] → result ≡ record { sweeps = after; end = Quiet } → EndsBy Once Stops old result.sweeps result.end new
ends_quiet Once Stops old mid new before room after swept result g once quiet same e given =
    let told : after ≡ before ++ swept ∷ [] = e ∙ ap (λ (u : List Swept). u ++ swept ∷ []) same in
    let Q : List Swept → Type 0 = λ u. StepsTo Once old u new in
    let P : Round → Type 0 = λ r. EndsBy Once Stops old r.sweeps r.end new in
    subst P (sym given) (before, swept, told, g.busy, quiet, subst Q (sym told) (one_more Once old mid new before swept g.done once))

-- the next one was refused
pub ends_refused : (Once : Step) (Stops : Stop) (old mid new : CellState) (before room : List Swept) (fault : Fault) (result : Round) → Going Once old before mid → Stops mid fault new → room ≡ before
    → result ≡ record { sweeps = room; end = Refused fault } → EndsBy Once Stops old result.sweeps result.end new
ends_refused Once Stops old mid new before room fault result g stops same given =
    let Q : List Swept → Type 0 = λ u. StepsTo Once old u mid × AreBusy u in
    let told = subst Q (sym same) (g.done, g.busy) in
    let P : Round → Type 0 = λ r. EndsBy Once Stops old r.sweeps r.end new in
    subst P (sym given) (mid, told.0, told.1, stops)

-- one sweep more was counted
pub counts_more : (before room after : List Swept) (swept : Swept) (count : ℕ) → length before ≡ count → room ≡ before → after ≡ room ++ swept ∷ [] → length after ≡ count + 1
counts_more before room after swept count many same e =
    let longer : length after ≡ length (before ++ swept ∷ []) = ap (λ (u : List Swept). length u) (e ∙ ap (λ (u : List Swept). u ++ swept ∷ []) same) in
    let one : length (before ++ swept ∷ []) ≡ length before + 1 = length_push before swept in
    omega arith

pub begins_counting : (sweeps : List Swept) → sweeps ≡ [] → length sweeps ≡ 0
begins_counting sweeps empty = ap (λ (u : List Swept). length u) empty

-- as many were made as are made
pub ends_late : (Once : Step) (Stops : Stop) (old new : CellState) (sweeps : List Swept) (result : Round) → Going Once old sweeps new → length sweeps ≡ sweep_limit
    → result ≡ record { sweeps = sweeps; end = Unfinished } → EndsBy Once Stops old result.sweeps result.end new
ends_late Once Stops old new sweeps result g many given =
    let P : Round → Type 0 = λ r. EndsBy Once Stops old r.sweeps r.end new in
    subst P (sym given) (g.done, g.busy, many)

-- the same of a master that is told apart from the one that made them
pub ends_late_as : (Once : Step) (Stops : Stop) (old mid new : CellState) (sweeps : List Swept) (result : Round) → new ≡ mid → Going Once old sweeps mid → length sweeps ≡ sweep_limit
    → result ≡ record { sweeps = sweeps; end = Unfinished } → EndsBy Once Stops old result.sweeps result.end new
ends_late_as Once Stops old mid new sweeps result same g many given =
    let P : CellState → Type 0 = λ s. EndsBy Once Stops old result.sweeps result.end s in
    subst P (sym same) (ends_late Once Stops old mid sweeps result g many given)

pub begins : (Once : Step) (old : CellState) (sweeps : List Swept) → sweeps ≡ [] → Going Once old sweeps old
begins Once old sweeps empty =
    let P : List Swept → Type 0 = λ u. Going Once old u old in
    subst P (sym empty) (record { done = refl; busy = tt })

-- ---- Beats

pub beats_once : (now : ℕ) (old new : CellState) (swept : Swept) → beats_step old.master now ≡ Ok (new.master, swept) → new ≡ record old { master = new.master } → BeatsOnce now old swept new
beats_once now old new swept step same = record { step = step; store = ap (λ (s : CellState). s.store) same }

pub beat_stops : (now : ℕ) (old new : CellState) (fault : Fault) → (fault ≢ NoMemory → beats_step old.master now ≡ Err fault) → new ≡ old → BeatStops now old fault new
beat_stops now old new fault why same = record { why = why; same = same }

-- after sweeps that ended so
pub behind_shut : (now : ℕ) (shut : Bool) (old new : CellState) (beats : Round) → shut ≡ true → BeatsBehind now true old beats new → BeatsBehind now shut old beats new
behind_shut now shut old new beats is answered =
    let P : Bool → Type 0 = λ b. BeatsBehind now b old beats new in
    subst P (sym is) answered

pub behind_open : (now : ℕ) (shut : Bool) (old new : CellState) (beats : Round) → shut ≡ false → beats ≡ record { sweeps = []; end = Quiet } → new ≡ old → BeatsBehind now shut old beats new
behind_open now shut old new beats is none same =
    let P : Bool → Type 0 = λ b. BeatsBehind now b old beats new in
    subst P (sym is) (none, same)
