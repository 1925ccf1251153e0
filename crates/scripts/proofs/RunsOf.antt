-- What a script does is a run of its world, and what its lines tell.
use Rattle.std.proofs.Common.{◌≡◌, ◌⊎◌, inl, inr, ℕ, zero, suc, ◌+◌, ◌≤◌, min, arith, List, [], ◌∷◌, ◌++◌, Bool, true, false, Option, None, Some, Result, Ok, Err, refl, sym, ap, subst, ◌∙◌}
use Rattle.std.specs.Prelude.{is_some, not, ◌&&◌, length, IfOk, IfErr}
use Rattle.std.specs.Option.{option_and_then}
use Rattle.std.specs.Io.KnownBytes.{IsAtEnd, Keeps}
use Rattle.std.specs.Str.Lossy.{utf8_lossy}
use Rattle.std.specs.Result.{IsErr, IsErrAnd}
use Rattle.std.proofs.lemmas.List.{append-nil, append_assoc}
use Rattle.node_core.specs.declared.refusals.Fault.{Fault}
use Rattle.node_core.specs.declared.refusals.Fault.TheVariants.{MasterDown}
use Rattle.node_core.specs.declared.lines.Line.{Line}
use Rattle.node_core.specs.declared.lines.Line.TheVariants as lines
use Rattle.node_core.specs.Nodes.{Nodes, view_at}
use Rattle.rows_cell.specs.Rows.{map_of}
use Rattle.rows_cell.specs.Sound.{is_live_in}
use Rattle.world_steps.specs.declared.steps.Step.{Step}
use Rattle.world_steps.specs.World.{WorldView, IsUndoubted}
use Rattle.world_cell.specs.Runs.{AnyRun, map_by, map_at, after_line, after_lines, epoch_by, epoch_at, live_by, live_at, put_number, applied, Rises}
use Rattle.world_cell.specs.Served.{ServesPresentByThen}
use Rattle.world_cell.specs.RunLaws.{HoldsOfRun, HoldsOfRuns}
use Rattle.world_cell.proofs.SureRuns.{run_doubts}
use Rattle.scripts.specs.declared.steps.Parsed.{Parsed}
use Rattle.scripts.specs.declared.steps.Parsed.TheVariants as parsed
use Rattle.scripts.specs.Readings.{IsParsed}
use Rattle.scripts.specs.declared.stops.ScriptStop.{ScriptStop}
use Rattle.scripts.specs.declared.stops.ScriptStop.TheVariants.{BadStep, Unread, NoMemory, Unwritten}
use Rattle.scripts.specs.Settling.{Played, played, PlaysMade, PlaysRefused, turn_step, is_waiting, is_idle, TakesTurn, Turns, SettlesBy, Settles, SettlesSomeBy, SettlesSome}
use Rattle.output.specs.Fronts.{AppendsFront}
use Rattle.scripts.specs.Scripts.{lines_text, told, DoesParsed, DoesLine, DoesLines, IsOfPart, IsOfScript, Wrote, WroteFront}
use Rattle.scripts.specs.Stops.{status_of}
use Rattle.scripts.specs.Texts.{Reading, Advances}
use Rattle.scripts.specs.Ran.{Adds, Ran, TellsOfRun, RanWell, IsNoStep, StopsReading, IsDoneBefore, Begins, BeginsLine, BeginsNext, IsDoneInto, Ends, EndsWell, EndsSurely, EndsAs, EndsIn, EndsWith, Breaks, BreaksTurn, BreaksLine, Writes, Obeys}
use Rattle.scripts.proofs.FirstLines.{passes_none, passes_whole}
use Rattle.scripts.proofs.Doings.{wrote_as, wrote_then, wrote_none, wrote_kept, front_of, front_as, front_then, front_kept, part_whole}

-- ---- lines of a run, with refusals between them

adds_all : (told : List Line) → Adds told told
adds_all [] = refl
adds_all (line ∷ told) = inl (told, refl, adds_all told)

adds_more : (a b c d : List Line) → Adds a b → Adds c d → Adds (a ++ c) (b ++ d)
adds_more a [] c d h k = subst (λ xs. Adds (xs ++ c) d) (sym h) k
adds_more a (line ∷ b) c d (inl h) k = inl (h.0 ++ c, ap (λ xs. xs ++ c) h.1, adds_more h.0 b c d h.2 k)
adds_more a (line ∷ b) c d (inr h) k = inr (h.0, h.1, adds_more a b c d h.2 k)

-- ---- steps

any_then : (old mid new : WorldView) (front back : List Step) (told more : List Line) → AnyRun old front told mid → AnyRun mid back more new → AnyRun old (front ++ back) (told ++ more) new
any_then old mid new [] back told more h k =
    subst (λ xs. AnyRun old back (xs ++ more) new) (sym h.0) (subst (λ w. AnyRun w back more new) h.1 k)
any_then old mid new (step ∷ front) back told more h k =
    (h.0, h.1, h.2 ++ more, h.3, any_then h.0 mid new front back h.2 more h.4 k, ap (λ xs. xs ++ more) h.5 ∙ append_assoc h.1 h.2 more)

pub ran_none : (w : WorldView) → Ran w w []
ran_none w = record { steps = []; told = []; run = (refl, refl); tells = refl }

pub ran_then : (old mid new : WorldView) (front back : List Line) → Ran old mid front → Ran mid new back → Ran old new (front ++ back)
ran_then old mid new front back h k = record {
  steps = h.steps ++ k.steps;
  told = h.told ++ k.told;
  run = any_then old mid new h.steps k.steps h.told k.told h.run k.run;
  tells = adds_more h.told front k.told back h.tells k.tells;
}

pub refusal_ran : (old new : WorldView) (fault : Fault) (printed : List Line) → printed ≡ lines.Refused fault ∷ [] → new ≡ old → Ran old new printed
refusal_ran old new fault printed is same =
    subst (λ xs. Ran old new xs) (sym is) (record { steps = []; told = []; run = (refl, same); tells = inr (fault, refl, refl) })

pub made_ran : (old new : Played) (step : Step) (printed : List Line) → PlaysMade old step new printed → Ran old.view new.view printed
made_ran old new step printed h =
    record { steps = step ∷ []; told = printed; run = (new.view, printed, [], inl h.made, (refl, refl), sym (append-nil printed)); tells = adds_all printed }

pub refused_ran : (old new : Played) (step : Step) (printed : List Line) → PlaysRefused old step new printed → Ran old.view new.view printed
refused_ran old new step printed h =
    record { steps = step ∷ []; told = printed; run = (new.view, printed, [], inr h.refused, (refl, refl), sym (append-nil printed)); tells = adds_all printed }

pub same_ran : (old new : Played) (printed : List Line) → printed ≡ [] → new ≡ old → Ran old.view new.view printed
same_ran old new printed none same = subst (λ xs. Ran old.view new.view xs) (sym none) (subst (λ (w : Played). Ran old.view w.view []) (sym same) (ran_none old.view))

pub turn_ran : (more : Bool) (old new : Played) (printed : List Line) → TakesTurn more old printed new → Ran old.view new.view printed
turn_ran true old new printed h = made_ran old new _ printed h.made
turn_ran false old new printed (inl h) = made_ran old new _ printed h.made
turn_ran false old new printed (inr h) = refused_ran old new _ printed h

pub turns_ran : (count : ℕ) (old new : Played) (printed : List Line) → Turns count old printed new → Ran old.view new.view printed
turns_ran zero old new printed h = same_ran old new printed h.0 h.1
turns_ran (suc count) old new printed h =
    subst (λ xs. Ran old.view new.view xs) (sym h.5) (ran_then old.view h.0.view new.view h.1 h.2 (turn_ran true old h.0 h.1 h.3) (turns_ran count h.0 new h.2 h.4))

settled_ran : (up : Bool) (old new : Played) (printed : List Line) → SettlesBy up old printed new → Ran old.view new.view printed
settled_ran true old new printed h =
    subst (λ xs. Ran old.view new.view xs) (sym h.tells) (ran_then old.view h.mid.view new.view h.here h.later (turns_ran h.count old h.mid h.here h.first) (turn_ran false h.mid new h.later h.last))
settled_ran false old new printed h = refusal_ran old.view new.view MasterDown printed h.0 (ap (λ (w : Played). w.view) h.1)

pub settles_ran : (old new : Played) (printed : List Line) → Settles old printed new → Ran old.view new.view printed
settles_ran old new printed h = settled_ran (is_some old.view.world.master) old new printed h

pub parsed_ran : (old new : Played) (meant : Parsed) (printed : List Line) → DoesParsed old meant printed new → Ran old.view new.view printed
parsed_ran old new parsed.Nothing printed h = same_ran old new printed h.0 h.1
parsed_ran old new (parsed.Step step) printed (inl h) = made_ran old new step printed h
parsed_ran old new (parsed.Step step) printed (inr h) = refused_ran old new step printed h
parsed_ran old new parsed.Settle printed h = settles_ran old new printed h
parsed_ran old new (parsed.Refused fault) printed h = refusal_ran old.view new.view fault printed h.0 (ap (λ (w : Played). w.view) h.1)
parsed_ran old new parsed.Bad printed h = absurd h

last_ran : (mid new : Played) (later : List Line) → ((later ≡ []) × (new ≡ mid)) ⊎ ((more : Bool) × TakesTurn more mid later new) → Ran mid.view new.view later
last_ran mid new later (inl h) = same_ran mid new later h.0 h.1
last_ran mid new later (inr h) = turn_ran h.0 mid new later h.1

begun_ran : (up : Bool) (old new : Played) (printed : List Line) → SettlesSomeBy up old printed new → Ran old.view new.view printed
begun_ran true old new printed h =
    subst (λ xs. Ran old.view new.view xs) (sym h.tells) (ran_then old.view h.mid.view new.view h.here h.later (turns_ran h.count old h.mid h.here h.first) (last_ran h.mid new h.later h.last))
begun_ran false old new printed h = refusal_ran old.view new.view MasterDown printed h.0 (ap (λ (w : Played). w.view) h.1)

pub begins_ran : (old new : Played) (meant : Parsed) (printed : List Line) → Begins old meant printed new → Ran old.view new.view printed
begins_ran old new parsed.Nothing printed h = parsed_ran old new parsed.Nothing printed h
begins_ran old new (parsed.Step step) printed h = parsed_ran old new (parsed.Step step) printed h
begins_ran old new parsed.Settle printed h = begun_ran (is_some old.view.world.master) old new printed h
begins_ran old new (parsed.Refused fault) printed h = parsed_ran old new (parsed.Refused fault) printed h
begins_ran old new parsed.Bad printed h = absurd h

next_ran : (rest : Option (List ℕ)) (old new : Played) (printed : List Line) → BeginsNext rest old printed new → Ran old.view new.view printed
next_ran rest old new printed (inl h) = same_ran old new printed h.0 h.1
next_ran rest old new printed (inr h) = begins_ran old new h.3.1.0 printed h.3.1.2

pub lines_ran : (old new : Played) (texts : List (List ℕ)) (printed : List Line) → DoesLines old texts printed new → Ran old.view new.view printed
lines_ran old new [] printed h = same_ran old new printed h.0 h.1
lines_ran old new (line ∷ texts) printed h =
    subst (λ xs. Ran old.view new.view xs) (sym h.5) (ran_then old.view h.0.view new.view h.1 h.2 (parsed_ran old h.0 h.3.1.0 h.1 h.3.1.2) (lines_ran h.0 new texts h.2 h.4))

-- ---- what the lines tell is what those of the run tell

map_adds : (nodes : Nodes) (told printed : List Line) → Adds told printed → map_at nodes told ≡ map_at nodes printed
map_adds nodes told [] h = ap (map_at nodes) h
map_adds nodes told (line ∷ printed) (inl h) = ap (map_at nodes) h.1 ∙ map_adds (map_by nodes line) h.0 printed h.2
map_adds nodes told (line ∷ printed) (inr h) = map_adds nodes told printed h.2 ∙ ap (λ n. map_at n printed) (ap (map_by nodes) (sym h.1))

epoch_adds : (epoch : ℕ) (told printed : List Line) → Adds told printed → epoch_at epoch told ≡ epoch_at epoch printed
epoch_adds epoch told [] h = ap (epoch_at epoch) h
epoch_adds epoch told (line ∷ printed) (inl h) = ap (epoch_at epoch) h.1 ∙ epoch_adds (epoch_by epoch line) h.0 printed h.2
epoch_adds epoch told (line ∷ printed) (inr h) = epoch_adds epoch told printed h.2 ∙ ap (λ n. epoch_at n printed) (ap (epoch_by epoch) (sym h.1))

live_adds : (client : ℕ) (live : Bool) (told printed : List Line) → Adds told printed → live_at client live told ≡ live_at client live printed
live_adds client live told [] h = ap (live_at client live) h
live_adds client live told (line ∷ printed) (inl h) = ap (live_at client live) h.1 ∙ live_adds client (live_by client live line) h.0 printed h.2
live_adds client live told (line ∷ printed) (inr h) = live_adds client live told printed h.2 ∙ ap (λ b. live_at client b printed) (ap (live_by client live) (sym h.1))

applied_adds : (client : ℕ) (told printed : List Line) → Adds told printed → applied client told ≡ applied client printed
applied_adds client told [] h = ap (applied client) h
applied_adds client told (line ∷ printed) (inl h) = ap (applied client) h.1 ∙ ap (put_number client line) (applied_adds client h.0 printed h.2)
applied_adds client told (line ∷ printed) (inr h) = applied_adds client told printed h.2 ∙ ap (λ l. put_number client l (applied client printed)) (sym h.1)

after_both : (o : Option Nodes) (told printed : List Line) → ((nodes : Nodes) → after_lines nodes told ≡ after_lines nodes printed) → option_and_then (λ next. after_lines next told) o ≡ option_and_then (λ next. after_lines next printed) o
after_both None told printed same = refl
after_both (Some nodes) told printed same = same nodes

after_adds : (nodes : Nodes) (told printed : List Line) → Adds told printed → after_lines nodes told ≡ after_lines nodes printed
after_adds nodes told [] h = ap (after_lines nodes) h
after_adds nodes told (line ∷ printed) (inl h) =
    ap (after_lines nodes) h.1 ∙ after_both (after_line nodes line) h.0 printed (λ next. after_adds next h.0 printed h.2)
after_adds nodes told (line ∷ printed) (inr h) =
    after_adds nodes told printed h.2 ∙ ap (λ o. option_and_then (λ next. after_lines next printed) o) (ap (after_line nodes) (sym h.1))

head_of : (x y : Line) (xs ys : List Line) → x ∷ xs ≡ y ∷ ys → (x ≡ y) × (xs ≡ ys)
head_of x y xs ys e = (cc, cc)

serves_adds : (opening : Nodes) (told printed : List Line) → Adds told printed → ServesPresentByThen opening told → ServesPresentByThen opening printed
serves_adds opening told [] h serves [] rest client name entry is = cc
serves_adds opening told [] h serves (x ∷ before) rest client name entry is = cc
serves_adds opening told (line ∷ printed) (inl h) serves [] rest client name entry is =
    let e = head_of line (lines.Served client name entry) printed rest is in
    serves [] h.0 client name entry (h.1 ∙ ap (λ l. l ∷ h.0) e.0)
serves_adds opening told (line ∷ printed) (inl h) serves (x ∷ before) rest client name entry is =
    let e = head_of line x printed (before ++ lines.Served client name entry ∷ rest) is in
    subst (λ l. entry ≡ view_at (map_at (map_by opening l) before) name) e.0
    (serves_adds (map_by opening line) h.0 printed h.2 (λ front back c n v at. serves (line ∷ front) back c n v (h.1 ∙ ap (λ xs. line ∷ xs) at)) before rest client name entry e.1)
serves_adds opening told (line ∷ printed) (inr h) serves [] rest client name entry is =
    let e = head_of line (lines.Served client name entry) printed rest is in
    let two : lines.Refused h.0 ≡ lines.Served client name entry = sym h.1 ∙ e.0 in cc
serves_adds opening told (line ∷ printed) (inr h) serves (x ∷ before) rest client name entry is =
    let e = head_of line x printed (before ++ lines.Served client name entry ∷ rest) is in
    let same : map_by opening x ≡ opening = ap (map_by opening) (sym e.0 ∙ h.1) in
    subst (λ n. entry ≡ view_at (map_at n before) name) (sym same) (serves_adds opening told printed h.2 serves before rest client name entry e.1)

pub tells_of : (old new : WorldView) (printed : List Line) (r : Ran old new printed) → HoldsOfRun old r.steps r.told new → TellsOfRun old new printed
tells_of old new printed r h = record {
  served = serves_adds (map_of old.world.rows) r.told printed r.tells h.served;
  once = λ client some. subst Rises (applied_adds client r.told printed r.tells) (h.once client some);
  map = h.map ∙ map_adds (map_of old.world.rows) r.told printed r.tells;
  fits = sym (after_adds (map_of old.world.rows) r.told printed r.tells) ∙ h.fits;
  epoch = h.epoch ∙ epoch_adds old.world.rows.epoch r.told printed r.tells;
  sessions = λ client. h.sessions client ∙ live_adds client (is_live_in old.world.rows client) r.told printed r.tells;
}

pub ran_well : (old new : WorldView) → HoldsOfRuns old → (printed : List Line) → Ran old new printed → RanWell old new printed
ran_well old new laws printed r = record {
  ran = r;
  holds = λ none. laws r.steps r.told new r.run none;
  tells = λ none. tells_of old new printed r (laws r.steps r.told new r.run none);
}

-- ---- ends

pub part_ran : (text after : Option (List ℕ)) (count : ℕ) (old : WorldView) (printed : List Line) (new : Played) → IsOfPart text after count old printed new → Ran old new.view printed
part_ran text after count old printed new h = lines_ran (played old []) new h.texts printed h.does

-- the text was done to its end
pub all_done : (there : Bool) (text : Option (List ℕ)) (mid after : Reading) (old : WorldView) (new : Played) (a b : Option (List ℕ)) → there ≡ false → Advances there mid after → Wrote (λ printed. IsOfPart text mid.rest mid.number old printed new) a b → Wrote (Ends text old new.view (Ok tt)) a b
all_done there text mid after old new a b none next h =
    let ended : IsAtEnd mid.rest = subst (λ b. Advances b mid after) none next in
    wrote_as (λ printed. IsOfPart text mid.rest mid.number old printed new) (Ends text old new.view (Ok tt)) a b
    (λ printed f. part_whole text mid.rest mid.number old new printed ended f) h

-- so far, and nothing of the next line
into_none : (text rest : Option (List ℕ)) (count : ℕ) (old : WorldView) (new : Played) (printed : List Line) → IsOfPart text rest count old printed new → IsDoneInto text old new.view printed
into_none text rest count old new printed h =
    record { rest = rest; count = count; mid = new; marks = new.delivered; front = printed; back = []; before = h; next = inl (refl, refl); tells = sym (append-nil printed) }

-- to the end, and no line is left
into_all : (text : Option (List ℕ)) (old : WorldView) (printed : List Line) (h : IsOfScript text old printed) → IsDoneInto text old h.new.view printed
into_all text old printed h =
    into_none text (Some []) (length h.texts) old h.new printed (record { texts = h.texts; first = passes_whole text h.texts h.whole; counted = refl; few = h.few; does = h.does })

-- nothing at all
into_nothing : (text : Option (List ℕ)) (old : WorldView) → IsDoneInto text old old []
into_nothing text old =
    into_none text text 0 old (played old []) [] (record { texts = []; first = passes_none text; counted = refl; few = omega arith; does = (refl, refl) })

into_ran : (text : Option (List ℕ)) (old new : WorldView) (printed : List Line) → IsDoneInto text old new printed → Ran old new printed
into_ran text old new printed h =
    subst (λ xs. Ran old new xs) (sym h.tells) (ran_then old h.mid.view new h.front h.back (part_ran text h.rest h.count old h.front h.mid h.before) (next_ran h.rest h.mid (played new h.marks) h.back h.next))

parts_into : (text after : Option (List ℕ)) (count : ℕ) (old : WorldView) (new : Played) (a b : Option (List ℕ)) → Wrote (λ printed. IsOfPart text after count old printed new) a b → Wrote (IsDoneInto text old new.view) a b
parts_into text after count old new a b h =
    wrote_as (λ printed. IsOfPart text after count old printed new) (IsDoneInto text old new.view) a b (λ printed f. into_none text after count old new printed f) h

-- ---- a part of a line

-- turns so far, and no more
pub turns_so_far : (up : Bool) (old new : Played) (a b : Option (List ℕ)) → up ≡ is_some old.view.world.master → up ≡ true → Wrote (λ printed. (count : ℕ) × Turns count old printed new) a b → Wrote (λ printed. SettlesSome old printed new) a b
turns_so_far up old new a b is on h =
    wrote_as (λ printed. (count : ℕ) × Turns count old printed new) (λ printed. SettlesSome old printed new) a b
    (λ printed f. subst (λ up. SettlesSomeBy up old printed new) (sym on ∙ is) (record { count = f.0; mid = new; here = printed; later = []; first = f.1; last = inl (refl, refl); tells = sym (append-nil printed) })) h

turn_by : (over : Bool) (old new : Played) (printed : List Line) → PlaysMade old (turn_step old) new printed → (is_idle old && not (is_waiting new)) ≡ over → (more : Bool) × TakesTurn more old printed new
turn_by true old new printed made e = (false, inl (record { made = made; ends = e }))
turn_by false old new printed made e = (true, record { made = made; ends = e })

-- a turn that was made, whichever
pub turn_made : (old new : Played) (printed : List Line) → PlaysMade old (turn_step old) new printed → (more : Bool) × TakesTurn more old printed new
turn_made old new printed made = turn_by (is_idle old && not (is_waiting new)) old new printed made refl

pub turn_unmade : (old new : Played) (printed : List Line) → PlaysRefused old (turn_step old) new printed → (more : Bool) × TakesTurn more old printed new
turn_unmade old new printed refused = (false, inr refused)

-- what a step printed, or its refusal
step_done : (old new : Played) (step : Step) (r : Result (List Line) Fault) → IfOk r (λ printed. PlaysMade old step new printed) → IfErr r (λ e. PlaysRefused old step new (lines.Refused e ∷ [])) → DoesParsed old (parsed.Step step) (told r) new
step_done old new step (Ok printed) made refused = inl made
step_done old new step (Err fault) made refused = inr refused

pub step_begun : (meant : Parsed) (old new : Played) (step : Step) (r : Result (List Line) Fault) → meant ≡ parsed.Step step → IfOk r (λ printed. PlaysMade old step new printed) → IfErr r (λ e. PlaysRefused old step new (lines.Refused e ∷ []))
    → Begins old meant (told r) new
step_begun meant old new step r is made refused = subst (λ m. Begins old m (told r) new) (sym is) (step_done old new step r made refused)

pub refusal_begun : (meant : Parsed) (w : Played) (fault : Fault) → meant ≡ parsed.Refused fault → Begins w meant (lines.Refused fault ∷ []) w
refusal_begun meant w fault is = subst (λ m. Begins w m (lines.Refused fault ∷ []) w) (sym is) (refl, refl)

module _ {Y : Type 0} (P : Y → List Line → Type 0) (Q : ScriptStop → List Line → Type 0) (a c : Option (List ℕ)) where
  pub unwritten : (stop : ScriptStop) (printed : List Line) → stop ≡ Unwritten → Q Unwritten printed → AppendsFront a c (lines_text printed) → (let r : Result Y ScriptStop = Err stop in EndsAs r P Q a c)
  unwritten stop printed is h k = subst (λ s. (let r : Result Y ScriptStop = Err s in EndsAs r P Q a c)) (sym is) (printed, h, k)

  -- lines can't be written
  pub exit_unwritten : (r : Result Y ScriptStop) (stop : ScriptStop) (printed : List Line) → IsErr r × IsErrAnd r (λ e. e ≡ stop) → (stop ≡ Unwritten) × AppendsFront a c (lines_text printed) → Q Unwritten printed → EndsAs r P Q a c
  exit_unwritten (Ok y) stop printed exit is h = let none = exit.0 in cc
  exit_unwritten (Err e) stop printed exit is h = unwritten e printed (exit.1 ∙ is.0) h is.1

-- turns were made and their lines written, and then another whose lines can't be written
module _ {X Y : Type 0} (O : X → List Line → Type 0) (P : Y → List Line → Type 0) (up : Bool) (old mid new : Played) (a b c : Option (List ℕ)) where
  broken_turn : (stop : ScriptStop) → up ≡ is_some old.view.world.master → up ≡ true → Wrote (λ printed. (count : ℕ) × Turns count old printed mid) a b → (let q : Result X ScriptStop = Err stop in EndsAs q O (BreaksTurn mid new) b c)
      → (let r : Result Y ScriptStop = Err stop in EndsAs r P (Breaks parsed.Settle old new) a c)
  broken_turn Unwritten is on h k =
      front_then (λ printed. (count : ℕ) × Turns count old printed mid) (λ printed. (more : Bool) × TakesTurn more mid printed new) (λ printed. SettlesSome old printed new) a b c
      (λ front back f g. subst (λ up. SettlesSomeBy up old (front ++ back) new) (sym on ∙ is) (record { count = f.0; mid = mid; here = front; later = back; first = f.1; last = inr g; tells = refl })) h k
  broken_turn NoMemory is on h k = absurd k.1
  broken_turn (BadStep line) is on h k = absurd k.1
  broken_turn (Unread line) is on h k = absurd k.1

  pub exit_turn : (r : Result Y ScriptStop) (stop : ScriptStop) → IsErr r × IsErrAnd r (λ e. e ≡ stop) → up ≡ is_some old.view.world.master → up ≡ true → Wrote (λ printed. (count : ℕ) × Turns count old printed mid) a b
      → (let q : Result X ScriptStop = Err stop in EndsAs q O (BreaksTurn mid new) b c) → EndsAs r P (Breaks parsed.Settle old new) a c
  exit_turn (Ok y) stop exit is on h k = let none = exit.0 in cc
  exit_turn (Err e) stop exit is on h k =
      broken_turn e is on h (subst (λ s. (let q : Result X ScriptStop = Err s in EndsAs q O (BreaksTurn mid new) b c)) (sym exit.1) k)

-- what breaks off a part breaks off the whole
module _ {X Y : Type 0} (O : X → List Line → Type 0) (P : Y → List Line → Type 0) (Q : ScriptStop → List Line → Type 0) (a b : Option (List ℕ)) where
  same_break : (stop : ScriptStop) → (let q : Result X ScriptStop = Err stop in EndsAs q O Q a b) → (let r : Result Y ScriptStop = Err stop in EndsAs r P Q a b)
  same_break Unwritten h = h
  same_break NoMemory h = h
  same_break (BadStep line) h = h
  same_break (Unread line) h = h

  pub exit_same : (r : Result Y ScriptStop) (stop : ScriptStop) → IsErr r × IsErrAnd r (λ e. e ≡ stop) → (let q : Result X ScriptStop = Err stop in EndsAs q O Q a b) → EndsAs r P Q a b
  exit_same (Ok y) stop exit h = let none = exit.0 in cc
  exit_same (Err e) stop exit h = same_break e (subst (λ s. (let q : Result X ScriptStop = Err s in EndsAs q O Q a b)) (sym exit.1) h)

-- and so a line that is a settle
pub exit_settle : {X Y : Type 0} (O : X → List Line → Type 0) (P : Y → List Line → Type 0) (meant : Parsed) (old new : Played) (a b : Option (List ℕ)) (r : Result Y ScriptStop) (stop : ScriptStop) → meant ≡ parsed.Settle → IsErr r × IsErrAnd r (λ e. e ≡ stop)
    → (let q : Result X ScriptStop = Err stop in EndsAs q O (Breaks parsed.Settle old new) a b) → EndsAs r P (Breaks meant old new) a b
exit_settle O P meant old new a b r stop is exit h = subst (λ m. EndsAs r P (Breaks m old new) a b) (sym is) (exit_same O P (Breaks parsed.Settle old new) a b r stop exit h)

-- without a master nothing is settled
pub settles_down : (w : Played) (up : Bool) (a b : Option (List ℕ)) (r : Result (Unit {0}) ScriptStop) → up ≡ is_some w.view.world.master → up ≡ false → Writes r (lines.Refused MasterDown ∷ []) a b → EndsAs r (λ _ printed. Settles w printed w) (Breaks parsed.Settle w w) a b
settles_down w up a b (Ok x) is down h = (lines.Refused MasterDown ∷ [], subst (λ up. SettlesBy up w (lines.Refused MasterDown ∷ []) w) (sym down ∙ is) (refl, refl), h)
settles_down w up a b (Err e) is down h =
    unwritten (λ (x : Unit {0}) printed. Settles w printed w) (Breaks parsed.Settle w w) a b e (lines.Refused MasterDown ∷ []) h.0 (subst (λ up. SettlesSomeBy up w (lines.Refused MasterDown ∷ []) w) (sym down ∙ is) (refl, refl)) h.1

-- ---- lines

-- a line that is a step
pub obeyed : (done : Bool) (old new : Played) (meant : Parsed) (a b : Option (List ℕ)) → done ≡ true → Wrote (λ printed. Obeys done old meant printed new) a b → Wrote (λ printed. DoesParsed old meant printed new) a b
obeyed done old new meant a b is h = subst (λ x. Wrote (λ printed. Obeys x old meant printed new) a b) is h

-- a line that is no step
pub disobeyed : (done : Bool) (number at : ℕ) (line text : List ℕ) (old new : Played) (meant : Parsed) (a b : Option (List ℕ)) → done ≡ false → at ≡ number → text ≡ line → IsParsed (utf8_lossy text) meant → Wrote (λ printed. Obeys done old meant printed new) a b → Wrote (BreaksLine line number old new (BadStep at)) a b
disobeyed done number at line text old new meant a b is same this read h =
    let k = subst (λ x. Wrote (λ printed. Obeys x old meant printed new) a b) is h in
    let bad : IsParsed (utf8_lossy line) parsed.Bad = subst (λ t. IsParsed (utf8_lossy t) parsed.Bad) this (subst (IsParsed (utf8_lossy text)) k.1.0 read) in
    (k.0, (same, bad, k.1.1, k.1.2), k.2)

-- no memory to read a line's words
line_unread : (line : List ℕ) (number : ℕ) (w : Played) (a : Option (List ℕ)) → Wrote (BreaksLine line number w w NoMemory) a a
line_unread line number w a = wrote_none (BreaksLine line number w w NoMemory) a (inl (refl, refl))

pub exit_unparsed : (P : Unit {0} → List Line → Type 0) (line : List ℕ) (number : ℕ) (w : Played) (a : Option (List ℕ)) (r : Result (Unit {0}) ScriptStop) → IsErr r × IsErrAnd r (λ e. e ≡ NoMemory) → EndsAs r P (BreaksLine line number w w) a a
exit_unparsed P line number w a (Ok y) exit = let none = exit.0 in cc
exit_unparsed P line number w a (Err e) exit = subst (λ s. (let r : Result (Unit {0}) ScriptStop = Err s in EndsAs r P (BreaksLine line number w w) a a)) (sym exit.1) (line_unread line number w a)

-- what breaks off a step breaks off its line
module _ {X : Type 0} (O : X → List Line → Type 0) (P : Unit {0} → List Line → Type 0) (line text : List ℕ) (number : ℕ) (meant : Parsed) (old new : Played) (a b : Option (List ℕ)) where
  line_begun : text ≡ line → length line ≤ 1048576 → IsParsed (utf8_lossy text) meant → (printed : List Line) → Begins old meant printed new → ((printed ≡ []) × (new ≡ old)) ⊎ BeginsLine old line printed new
  line_begun same fits is printed f = inr (fits, (meant, subst (λ t. IsParsed (utf8_lossy t) meant) same is, f))

  line_breaks : (stop : ScriptStop) → text ≡ line → length line ≤ 1048576 → IsParsed (utf8_lossy text) meant → (let q : Result X ScriptStop = Err stop in EndsAs q O (Breaks meant old new) a b) → (let r : Result (Unit {0}) ScriptStop = Err stop in EndsAs r P (BreaksLine line number old new) a b)
  line_breaks Unwritten same fits is h = front_as (λ printed. Begins old meant printed new) (BreaksLine line number old new Unwritten) a b (line_begun same fits is) h
  line_breaks NoMemory same fits is h = wrote_as (λ printed. Begins old meant printed new) (BreaksLine line number old new NoMemory) a b (line_begun same fits is) h
  line_breaks (BadStep at) same fits is h = absurd h.1
  line_breaks (Unread at) same fits is h = absurd h.1

  pub exit_line : (r : Result (Unit {0}) ScriptStop) (stop : ScriptStop) → IsErr r × IsErrAnd r (λ e. e ≡ stop) → text ≡ line → length line ≤ 1048576 → IsParsed (utf8_lossy text) meant → (let q : Result X ScriptStop = Err stop in EndsAs q O (Breaks meant old new) a b)
      → EndsAs r P (BreaksLine line number old new) a b
  exit_line (Ok y) stop exit same fits is h = let none = exit.0 in cc
  exit_line (Err e) stop exit same fits is h = line_breaks e same fits is (subst (λ s. (let q : Result X ScriptStop = Err s in EndsAs q O (Breaks meant old new) a b)) (sym exit.1) h)

-- ---- the whole script

abbrev done_before : (text rest : Option (List ℕ)) (count number : ℕ) (old : WorldView) (new : Played) (printed : List Line) → number ≡ count + 1 → IsOfPart text rest count old printed new → IsDoneBefore text number old new.view printed
done_before text rest count number old new printed next h = record { rest = rest; marks = new.delivered; count = count; next = next; before = h }

-- the next line isn't read
next_line : (at number count : ℕ) → number ≡ count → at ≡ min (number + 1) 18446744073709551615 → count ≤ 1000000 → at ≡ count + 1
next_line at number count is next few = grind arith

module _ (text rest : Option (List ℕ)) (count : ℕ) (old : WorldView) (new : Played) (a b : Option (List ℕ)) where
  unread_by : (stop : ScriptStop) → (count ≤ 1000000 → StopsReading rest count stop) → Wrote (λ printed. IsOfPart text rest count old printed new) a b → (let r : Result (Unit {0}) ScriptStop = Err stop in EndsIn r (Ends text old new.view r) a b)
  unread_by Unwritten h k = front_of (IsDoneInto text old new.view) a b (parts_into text rest count old new a b k)
  unread_by NoMemory h k = parts_into text rest count old new a b k
  unread_by (BadStep at) h k =
      wrote_as (λ printed. IsOfPart text rest count old printed new) (Ends text old new.view (Err (BadStep at))) a b
      (λ printed f. let s = h f.few in (done_before text rest count at old new printed s.0 f, s.1)) k
  unread_by (Unread at) h k =
      wrote_as (λ printed. IsOfPart text rest count old printed new) (Ends text old new.view (Err (Unread at))) a b
      (λ printed f. done_before text rest count at old new printed (h f.few) f) k

  pub exit_unread : (r : Result (Unit {0}) ScriptStop) (stop : ScriptStop) → IsErr r × IsErrAnd r (λ e. e ≡ stop) → (count ≤ 1000000 → StopsReading rest count stop) → Wrote (λ printed. IsOfPart text rest count old printed new) a b → EndsIn r (Ends text old new.view r) a b
  exit_unread (Ok x) stop exit h k = let none = exit.0 in cc
  exit_unread (Err e) stop exit h k = unread_by e (λ few. subst (StopsReading rest count) (sym exit.1) (h few)) k

  -- that after the last of them
  pub last_unread : (at number : ℕ) → number ≡ count → at ≡ min (number + 1) 18446744073709551615 → Wrote (λ printed. IsOfPart text rest count old printed new) a b → Wrote (IsDoneBefore text at old new.view) a b
  last_unread at number is next k =
      wrote_as (λ printed. IsOfPart text rest count old printed new) (IsDoneBefore text at old new.view) a b
      (λ printed f. done_before text rest count at old new printed (next_line at number count is next f.few) f) k

-- a line breaks off after the others
module _ (text : Option (List ℕ)) (mid after : Reading) (old : WorldView) (w new : Played) (a b c : Option (List ℕ)) where
  bad_line : (at : ℕ) (front back : List Line) → Advances true mid after → IsOfPart text mid.rest mid.number old front w → BreaksLine after.line after.number w new (BadStep at) back → Ends text old new.view (Err (BadStep at)) (front ++ back)
  bad_line at front back next f g =
      let same : front ≡ front ++ back = sym (append-nil front) ∙ ap (λ xs. front ++ xs) (sym g.2) in
      let stands : IsOfPart text mid.rest mid.number old (front ++ back) new = subst (IsOfPart text mid.rest mid.number old (front ++ back)) (sym g.3) (subst (λ xs. IsOfPart text mid.rest mid.number old xs w) same f) in
      (done_before text mid.rest mid.number at old new (front ++ back) (g.0 ∙ next.1.0) stands, (after.line, after.rest, next.0, inl g.1))

  into_line : (front back : List Line) → Advances true mid after → IsOfPart text mid.rest mid.number old front w → ((back ≡ []) × (new ≡ w)) ⊎ BeginsLine w after.line back new → IsDoneInto text old new.view (front ++ back)
  into_line front back next f g =
      let begun : BeginsNext mid.rest w back new = elim g [ inl none ↦ inl none | inr some ↦ inr (after.line, after.rest, next.0, some) ] in
      record { rest = mid.rest; count = mid.number; mid = w; marks = new.delivered; front = front; back = back; before = f; next = begun; tells = refl }

  broken : (stop : ScriptStop) → Advances true mid after → Wrote (λ printed. IsOfPart text mid.rest mid.number old printed w) a b → (let q : Result (Unit {0}) ScriptStop = Err stop in EndsAs q (λ _ printed. DoesLine w after.line printed new) (BreaksLine after.line after.number w new) b c) → (let r : Result (Unit {0}) ScriptStop = Err stop in EndsIn r (Ends text old new.view r) a c)
  broken Unwritten next h k =
      front_then (λ p. IsOfPart text mid.rest mid.number old p w) (BreaksLine after.line after.number w new Unwritten) (IsDoneInto text old new.view) a b c (λ front back f g. into_line front back next f g) h k
  broken NoMemory next h k =
      wrote_then (λ p. IsOfPart text mid.rest mid.number old p w) (BreaksLine after.line after.number w new NoMemory) (IsDoneInto text old new.view) a b c (λ front back f g. into_line front back next f g) h k
  broken (BadStep at) next h k =
      wrote_then (λ p. IsOfPart text mid.rest mid.number old p w) (BreaksLine after.line after.number w new (BadStep at)) (Ends text old new.view (Err (BadStep at))) a b c (λ front back f g. bad_line at front back next f g) h k
  broken (Unread at) next h k = absurd k.1

  pub exit_broken : (there : Bool) (r : Result (Unit {0}) ScriptStop) (stop : ScriptStop) → IsErr r × IsErrAnd r (λ e. e ≡ stop) → there ≡ true → Advances there mid after → Wrote (λ printed. IsOfPart text mid.rest mid.number old printed w) a b → (let q : Result (Unit {0}) ScriptStop = Err stop in EndsAs q (λ _ printed. DoesLine w after.line printed new) (BreaksLine after.line after.number w new) b c) → EndsIn r (Ends text old new.view r) a c
  exit_broken there (Ok x) stop exit is next h k = let none = exit.0 in cc
  exit_broken there (Err e) stop exit is next h k =
      broken e (subst (λ t. Advances t mid after) is next) h
      (subst (λ s. (let q : Result (Unit {0}) ScriptStop = Err s in EndsAs q (λ _ printed. DoesLine w after.line printed new) (BreaksLine after.line after.number w new) b c)) (sym exit.1) k)

-- whatever the end, what was done is a run
module _ (text : Option (List ℕ)) (old new : WorldView) where
  ends_ran : (r : Result (Unit {0}) ScriptStop) (printed : List Line) → Ends text old new r printed → Ran old new printed
  ends_ran (Ok x) printed h = subst (λ w. Ran old w printed) h.1 (lines_ran (played old []) h.0.new h.0.texts printed h.0.does)
  ends_ran (Err (BadStep at)) printed h = part_ran text h.0.rest h.0.count old printed (played new h.0.marks) h.0.before
  ends_ran (Err (Unread at)) printed h = part_ran text h.rest h.count old printed (played new h.marks) h.before
  ends_ran (Err NoMemory) printed h = into_ran text old new printed h
  ends_ran (Err Unwritten) printed h = into_ran text old new printed h

  ends_into : (r : Result (Unit {0}) ScriptStop) (printed : List Line) → Ends text old new r printed → IsDoneInto text old new printed
  ends_into (Ok x) printed h = subst (λ w. IsDoneInto text old w printed) h.1 (into_all text old printed h.0)
  ends_into (Err (BadStep at)) printed h = into_none text h.0.rest h.0.count old (played new h.0.marks) printed h.0.before
  ends_into (Err (Unread at)) printed h = into_none text h.rest h.count old (played new h.marks) printed h.before
  ends_into (Err NoMemory) printed h = h
  ends_into (Err Unwritten) printed h = h

  -- there is no memory for a line
  pub exit_unbegun : (a : Option (List ℕ)) (r : Result (Unit {0}) ScriptStop) (stop : ScriptStop) → new ≡ old → IsErr r × IsErrAnd r (λ e. e ≡ stop) → stop ≡ NoMemory → EndsIn r (Ends text old new r) a a
  exit_unbegun a (Ok x) stop same exit is = let none = exit.0 in cc
  exit_unbegun a (Err e) stop same exit is =
      subst (λ s. (let r : Result (Unit {0}) ScriptStop = Err s in EndsIn r (Ends text old new r) a a)) (sym (exit.1 ∙ is))
      (wrote_none (IsDoneInto text old new) a (subst (λ w. IsDoneInto text old w []) (sym same) (into_nothing text old)))

  all_front : (a b c : Option (List ℕ)) (r : Result (Unit {0}) ScriptStop) → Wrote (Ends text old new r) a b → Keeps b c → WroteFront (IsDoneInto text old new) a c
  all_front a b c r h k = front_of (IsDoneInto text old new) a c (wrote_kept (IsDoneInto text old new) a b c (wrote_as (Ends text old new r) (IsDoneInto text old new) a b (ends_into r) h) k)

  -- a front of it is written, if the writer can't be flushed
  some_front : (a b c : Option (List ℕ)) (r : Result (Unit {0}) ScriptStop) → EndsIn r (Ends text old new r) a b → Keeps b c → WroteFront (IsDoneInto text old new) a c
  some_front a b c (Ok x) h k = all_front a b c (Ok x) h k
  some_front a b c (Err (BadStep at)) h k = all_front a b c (Err (BadStep at)) h k
  some_front a b c (Err (Unread at)) h k = all_front a b c (Err (Unread at)) h k
  some_front a b c (Err NoMemory) h k = all_front a b c (Err NoMemory) h k
  some_front a b c (Err Unwritten) h k = front_kept (IsDoneInto text old new) a b c h k

  -- what was written stays written
  pub ends_kept : (a b c : Option (List ℕ)) (r : Result (Unit {0}) ScriptStop) → EndsIn r (Ends text old new r) a b → Keeps b c → EndsIn r (Ends text old new r) a c
  ends_kept a b c (Ok x) h k = wrote_kept (Ends text old new (Ok x)) a b c h k
  ends_kept a b c (Err (BadStep at)) h k = wrote_kept (Ends text old new (Err (BadStep at))) a b c h k
  ends_kept a b c (Err (Unread at)) h k = wrote_kept (Ends text old new (Err (Unread at))) a b c h k
  ends_kept a b c (Err NoMemory) h k = wrote_kept (Ends text old new (Err NoMemory)) a b c h k
  ends_kept a b c (Err Unwritten) h k = front_kept (Ends text old new (Err Unwritten)) a b c h k

  -- and the laws of runs hold of it
  well : HoldsOfRuns old → (r : Result (Unit {0}) ScriptStop) (printed : List Line) → Ends text old new r printed → EndsWell text old new r printed
  well laws r printed h = (h, ran_well old new laws printed (ends_ran r printed h))

  pub ends_well : HoldsOfRuns old → (a b : Option (List ℕ)) → Wrote (Ends text old new (Ok tt)) a b → EndsWith 0 (EndsWell text old new) a b
  ends_well laws a b h = (Ok tt, refl, wrote_as (Ends text old new (Ok tt)) (EndsWell text old new (Ok tt)) a b (well laws (Ok tt)) h)

  stops_in : HoldsOfRuns old → (a b : Option (List ℕ)) (stop : ScriptStop) → (let r : Result (Unit {0}) ScriptStop = Err stop in EndsIn r (Ends text old new r) a b) → (let r : Result (Unit {0}) ScriptStop = Err stop in EndsIn r (EndsWell text old new r) a b)
  stops_in laws a b Unwritten h = front_as (Ends text old new (Err Unwritten)) (EndsWell text old new (Err Unwritten)) a b (well laws (Err Unwritten)) h
  stops_in laws a b NoMemory h = wrote_as (Ends text old new (Err NoMemory)) (EndsWell text old new (Err NoMemory)) a b (well laws (Err NoMemory)) h
  stops_in laws a b (BadStep at) h = wrote_as (Ends text old new (Err (BadStep at))) (EndsWell text old new (Err (BadStep at))) a b (well laws (Err (BadStep at))) h
  stops_in laws a b (Unread at) h = wrote_as (Ends text old new (Err (Unread at))) (EndsWell text old new (Err (Unread at))) a b (well laws (Err (Unread at))) h

  pub stops_well : HoldsOfRuns old → (a b : Option (List ℕ)) (status : ℕ) (stop : ScriptStop) → status ≡ status_of stop → (let r : Result (Unit {0}) ScriptStop = Err stop in EndsIn r (Ends text old new r) a b) → EndsWith status (EndsWell text old new) a b
  stops_well laws a b status stop is h = (Err stop, is, stops_in laws a b stop h)

  -- a script that came to its end
  pub all_written : (a b : Option (List ℕ)) → Wrote (Ends text old new (Ok tt)) a b → Wrote (IsOfScript text old) a b
  all_written a b h = wrote_as (Ends text old new (Ok tt)) (IsOfScript text old) a b (λ printed f. f.0) h

-- the last lines can't be written
pub exit_unflushed : (text other : Option (List ℕ)) (old new : WorldView) (a b c : Option (List ℕ)) (ended r : Result (Unit {0}) ScriptStop) → other ≡ text → IsErr r × IsErrAnd r (λ e. e ≡ Unwritten) → EndsIn ended (Ends other old new ended) a b → Keeps b c
    → EndsIn r (Ends text old new r) a c
exit_unflushed text other old new a b c ended (Ok x) same exit h k = let none = exit.0 in cc
exit_unflushed text other old new a b c ended (Err e) same exit h k =
    subst (λ s. (let r : Result (Unit {0}) ScriptStop = Err s in EndsIn r (Ends text old new r) a c)) (sym exit.1) (subst (λ t. WroteFront (IsDoneInto t old new) a c) same (some_front other old new a b c ended h k))

-- ---- where nothing is in doubt

module _ (text : Option (List ℕ)) (old new : WorldView) (none : IsUndoubted new) where
  surely : (r : Result (Unit {0}) ScriptStop) (printed : List Line) → EndsWell text old new r printed → EndsSurely text old new r printed
  surely r printed h = record { ends = h.0; ran = h.1.ran; holds = h.1.holds none; tells = h.1.tells none }

  sure_in : (a b : Option (List ℕ)) (r : Result (Unit {0}) ScriptStop) → EndsIn r (EndsWell text old new r) a b → EndsIn r (EndsSurely text old new r) a b
  sure_in a b (Ok x) h = wrote_as (EndsWell text old new (Ok x)) (EndsSurely text old new (Ok x)) a b (surely (Ok x)) h
  sure_in a b (Err Unwritten) h = front_as (EndsWell text old new (Err Unwritten)) (EndsSurely text old new (Err Unwritten)) a b (surely (Err Unwritten)) h
  sure_in a b (Err NoMemory) h = wrote_as (EndsWell text old new (Err NoMemory)) (EndsSurely text old new (Err NoMemory)) a b (surely (Err NoMemory)) h
  sure_in a b (Err (BadStep at)) h = wrote_as (EndsWell text old new (Err (BadStep at))) (EndsSurely text old new (Err (BadStep at))) a b (surely (Err (BadStep at))) h
  sure_in a b (Err (Unread at)) h = wrote_as (EndsWell text old new (Err (Unread at))) (EndsSurely text old new (Err (Unread at))) a b (surely (Err (Unread at))) h

  sure_before : (printed : List Line) → Ran old new printed → IsUndoubted old
  sure_before printed r =
      let less : old.doubt ≤ new.doubt = run_doubts old r.steps r.told new r.run in
      let last : new.doubt ≡ 0 = none in
      let first : old.doubt ≡ 0 = omega arith in first

  some_ran : (a b : Option (List ℕ)) (r : Result (Unit {0}) ScriptStop) → EndsIn r (EndsWell text old new r) a b → (printed : List Line) × Ran old new printed
  some_ran a b (Ok x) h = (h.0, h.1.1.ran)
  some_ran a b (Err Unwritten) h = (h.0, h.1.1.ran)
  some_ran a b (Err NoMemory) h = (h.0, h.1.1.ran)
  some_ran a b (Err (BadStep at)) h = (h.0, h.1.1.ran)
  some_ran a b (Err (Unread at)) h = (h.0, h.1.1.ran)

  pub sure_end : (status : ℕ) (a b : Option (List ℕ)) → EndsWith status (EndsWell text old new) a b → IsUndoubted old × EndsWith status (EndsSurely text old new) a b
  sure_end status a b h =
      let ran = some_ran a b h.0 h.2 in
      (sure_before ran.0 ran.1, (h.0, h.1, sure_in a b h.0 h.2))
