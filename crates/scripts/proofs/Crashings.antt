-- What a script with crashes does are runs with crashes between, and what its lines print.
use Rattle.std.proofs.Common.{◌≡◌, ◌⊎◌, inl, inr, ℕ, ◌+◌, ◌≤◌, arith, List, [], ◌∷◌, ◌++◌, Bool, true, false, Option, None, Some, Result, Ok, Err, refl, sym, ap, subst, ◌∙◌}
use Rattle.std.specs.Prelude.{is_some, length, IfOk, IfErr}
use Rattle.std.specs.Io.KnownBytes.{IsAtEnd, Keeps}
use Rattle.std.specs.Result.{IsErr, IsErrAnd}
use Rattle.std.proofs.lemmas.List.{append-nil, append_assoc, length-append}
use Rattle.node_core.specs.declared.refusals.Fault.{Fault}
use Rattle.node_core.specs.declared.lines.Line.{Line}
use Rattle.node_core.specs.declared.lines.Line.TheVariants as lines
use Rattle.rows_cell.specs.declared.tables.Rows.{Rows}
use Rattle.world_steps.specs.World.{WorldView, IsUndoubted}
use Rattle.world_steps.specs.Crash.{left_at, crashed, gone_lines, IsCrash, IsNoCrash}
use Rattle.world_cell.specs.RunLaws.{HoldsOfRun}
use Rattle.world_cell.specs.Crashes.{HoldsBehindCrashes}
use Rattle.world_cell.proofs.SureRuns.{run_doubts}
use Rattle.world_cell.proofs.CrashLaws.{behind_crash}
use Rattle.scripts.specs.declared.stops.ScriptStop.{ScriptStop}
use Rattle.scripts.specs.declared.stops.ScriptStop.TheVariants.{BadStep, Unread, NoMemory, Unwritten}
use Rattle.scripts.specs.Settling.{Played, played}
use Rattle.scripts.specs.Scripts.{lines_text, told, DoesLine, Wrote, WroteFront}
use Rattle.scripts.specs.Stops.{status_of}
use Rattle.scripts.specs.Texts.{Reading, Advances}
use Rattle.scripts.specs.Ran.{Ran, RanWell, BreaksLine, EndsAs, EndsIn, EndsWith, Writes}
use Rattle.scripts.specs.Crashing.{WritesCrash, CrashesTo, PlaysCrash, DoesOrCrashes, DoesCrashing, IsOfCrashes, IsOfCrashPart, RunsBetween, Between, RunsThrough, Through}
use Rattle.scripts.proofs.FirstLines.{passes_none, passes_more, passes_all}
use Rattle.scripts.proofs.Doings.{wrote_as, wrote_then, wrote_none, wrote_kept, front_of, front_as, front_then, front_kept}
use Rattle.scripts.proofs.RunsOf.{ran_none, ran_then, same_ran, refusal_ran, parsed_ran, begins_ran, tells_of, unwritten}

-- ---- runs with crashes between

pub between_none : (w : WorldView) → Between w w []
between_none w = ([], ran_none w)

-- a run before them
run_between : (crashes : List ℕ) (old mid new : WorldView) (front back : List Line) → Ran old mid front → RunsBetween mid crashes back new → Between old new (front ++ back)
run_between [] old mid new front back r h = ([], ran_then old mid new front back r h)
run_between (number ∷ others) old mid new front back r h =
    let gone : List Line = gone_lines (is_some h.0.world.master) in
    (number ∷ others, (h.0, front ++ h.1, h.2, h.3, ran_then old mid h.0 front h.1 r h.4, h.5, h.6, ap (λ (xs : List Line). front ++ xs) h.7 ∙ sym (append_assoc front h.1 (gone ++ h.2))))

more_between : (crashes : List ℕ) (old mid new : WorldView) (front back : List Line) → RunsBetween old crashes front mid → Between mid new back → Between old new (front ++ back)
more_between [] old mid new front back h k = run_between k.0 old mid new front back h k.1
more_between (number ∷ others) old mid new front back h k =
    let gone : List Line = gone_lines (is_some h.0.world.master) in
    let next : Between (crashed h.0 h.3) new (h.2 ++ back) = more_between others (crashed h.0 h.3) mid new h.2 back h.6 k in (
      number ∷ next.0,
      (h.0, h.1, h.2 ++ back, h.3, h.4, h.5, next.1, ap (λ (xs : List Line). xs ++ back) h.7 ∙ append_assoc h.1 (gone ++ h.2) back ∙ ap (λ (xs : List Line). h.1 ++ xs) (append_assoc gone h.2 back)),
    )

pub between_then : (old mid new : WorldView) (front back : List Line) → Between old mid front → Between mid new back → Between old new (front ++ back)
between_then old mid new front back h k = more_between h.0 old mid new front back h.1 k

crash_between : (number : ℕ) (old new : WorldView) (printed : List Line) → CrashesTo number old new printed → Between old new printed
crash_between number old new printed (inl c) =
    let gone : List Line = gone_lines (is_some old.world.master) in
    let last : Ran (crashed old c.0) new [] = subst (λ (w : WorldView). Ran (crashed old c.0) w []) (sym c.2) (ran_none (crashed old c.0)) in
    (number ∷ [], (old, [], [], c.0, ran_none old, c.1, last, c.3 ∙ sym (append-nil gone)))
crash_between number old new printed (inr r) = ([], refusal_ran old new r.0 printed r.2 r.1.0)

line_between : (old new : Played) (line : List ℕ) (printed : List Line) → DoesOrCrashes old line printed new → Between old.view new.view printed
line_between old new line printed (inl h) = ([], parsed_ran old new h.1.0 printed h.1.2)
line_between old new line printed (inr h) = crash_between h.0 old.view new.view printed h.2.0

lines_between : (old new : Played) (texts : List (List ℕ)) (printed : List Line) → DoesCrashing old texts printed new → Between old.view new.view printed
lines_between old new [] printed h = ([], same_ran old new printed h.0 h.1)
lines_between old new (line ∷ texts) printed h =
    subst (Between old.view new.view) (sym h.5) (between_then old.view h.0.view new.view h.1 h.2 (line_between old h.0 line h.1 h.3) (lines_between h.0 new texts h.2 h.4))

part_between : (text after : Option (List ℕ)) (count : ℕ) (old : WorldView) (new : Played) (printed : List Line) → IsOfCrashPart text after count old printed new → Between old new.view printed
part_between text after count old new printed h = lines_between (played old []) new h.texts printed h.does

whole_between : (text : Option (List ℕ)) (old new : WorldView) (printed : List Line) → IsOfCrashes text old new printed → Between old new printed
whole_between text old new printed h = subst (λ (w : WorldView). Between old w printed) h.is (lines_between (played old []) h.last h.texts printed h.does)

-- a line that breaks off
broken_between : (line : List ℕ) (number : ℕ) (old new : Played) (stop : ScriptStop) (printed : List Line) → BreaksLine line number old new stop printed → Between old.view new.view printed
broken_between line number old new (BadStep at) printed h = ([], same_ran old new printed h.2 h.3)
broken_between line number old new (Unread at) printed h = absurd h
broken_between line number old new NoMemory printed (inl h) = ([], same_ran old new printed h.0 h.1)
broken_between line number old new NoMemory printed (inr h) = ([], begins_ran old new h.1.0 printed h.1.2)
broken_between line number old new Unwritten printed (inl h) = ([], same_ran old new printed h.0 h.1)
broken_between line number old new Unwritten printed (inr h) = ([], begins_ran old new h.1.0 printed h.1.2)

-- ---- the laws of each run

undoubted_before : (old new : WorldView) (printed : List Line) (r : Ran old new printed) → IsUndoubted new → IsUndoubted old
undoubted_before old new printed r none =
    let less : old.doubt ≤ new.doubt = run_doubts old r.steps r.told new r.run in
    let last : new.doubt ≡ 0 = none in
    let first : old.doubt ≡ 0 = omega arith in first

ran_lawfully : (old new : WorldView) (printed : List Line) → HoldsBehindCrashes old → Ran old new printed → RanWell old new printed
ran_lawfully old new printed laws r =
    let holds : IsUndoubted new → HoldsOfRun old r.steps r.told new = λ none. laws [] [] old (refl, refl) (undoubted_before old new printed r none) r.steps r.told new r.run none in
    record { ran = r; holds = holds; tells = λ none. tells_of old new printed r (holds none) }

runs_through : (crashes : List ℕ) (old new : WorldView) (printed : List Line) → HoldsBehindCrashes old → RunsBetween old crashes printed new → RunsThrough old crashes printed new
runs_through [] old new printed laws h = ran_lawfully old new printed laws h
runs_through (number ∷ others) old new printed laws h =
    let next : HoldsBehindCrashes (crashed h.0 h.3) = behind_crash old h.4.steps h.4.told h.0 number h.3 laws h.4.run h.5 in
    (h.0, h.1, h.2, h.3, ran_lawfully old h.0 h.1 laws h.4, h.5, runs_through others (crashed h.0 h.3) new h.2 next h.6, h.7)

through : (old new : WorldView) (printed : List Line) → HoldsBehindCrashes old → Between old new printed → Through old new printed
through old new printed laws h = (h.0, runs_through h.0 old new printed laws h.1)

-- ---- what is written of them

-- what came to an end, or broke off, did something else too
pub ends_as : {X : Type 0} (P O : X → List Line → Type 0) (Q B : ScriptStop → List Line → Type 0) (a b : Option (List ℕ)) (r : Result X ScriptStop) → ((x : X) (printed : List Line) → P x printed → O x printed) → ((stop : ScriptStop) (printed : List Line) → Q stop printed → B stop printed) → EndsAs r P Q a b → EndsAs r O B a b
ends_as P O Q B a b (Ok x) does breaks h = wrote_as (P x) (O x) a b (does x) h
ends_as P O Q B a b (Err Unwritten) does breaks h = front_as (Q Unwritten) (B Unwritten) a b (breaks Unwritten) h
ends_as P O Q B a b (Err NoMemory) does breaks h = wrote_as (Q NoMemory) (B NoMemory) a b (breaks NoMemory) h
ends_as P O Q B a b (Err (BadStep at)) does breaks h = wrote_as (Q (BadStep at)) (B (BadStep at)) a b (breaks (BadStep at)) h
ends_as P O Q B a b (Err (Unread at)) does breaks h = wrote_as (Q (Unread at)) (B (Unread at)) a b (breaks (Unread at)) h

-- a crash, and what it prints
crashed_to : (number : ℕ) (old new : WorldView) (answer : Result (List Line) Fault) → IfOk answer (λ printed. IsCrash number old new printed) → IfErr answer (λ e. IsNoCrash number e old new) → CrashesTo number old new (told answer)
crashed_to number old new (Ok printed) made refused = inl made
crashed_to number old new (Err fault) made refused = inr (fault, refused, refl)

pub crash_written : (number : ℕ) (old new : WorldView) (answer : Result (List Line) Fault) (a b : Option (List ℕ)) (r : Result (Unit {0}) ScriptStop) → IfOk answer (λ printed. IsCrash number old new printed) → IfErr answer (λ e. IsNoCrash number e old new) → Writes r (told answer) a b
    → EndsAs r (λ _ printed. CrashesTo number old new printed) (λ _ printed. Between old new printed) a b
crash_written number old new answer a b (Ok x) made refused h = (told answer, crashed_to number old new answer made refused, h)
crash_written number old new answer a b (Err e) made refused h =
    unwritten (λ (x : Unit {0}) printed. CrashesTo number old new printed) (λ _ printed. Between old new printed) a b e (told answer) h.0 (crash_between number old new (told answer) (crashed_to number old new answer made refused)) h.1

-- a line that is a crash
pub crash_line : (line : List ℕ) (number : ℕ) (old new : WorldView) (marks : List Bool) (a b : Option (List ℕ)) (r : Result (Unit {0}) ScriptStop) → WritesCrash line number → EndsAs r (λ _ printed. CrashesTo number old new printed) (λ _ printed. Between old new printed) a b
    → EndsAs r (λ _ printed. DoesOrCrashes (played old marks) line printed (played new marks)) (λ _ printed. Between old new printed) a b
crash_line line number old new marks a b r is h =
    ends_as (λ (x : Unit {0}) printed. CrashesTo number old new printed) (λ (x : Unit {0}) printed. DoesOrCrashes (played old marks) line printed (played new marks)) (λ _ printed. Between old new printed) (λ _ printed. Between old new printed) a b r
    (λ x printed made. inr (number, is, (made, refl))) (λ stop printed between. between) h

-- any other line
pub plain_line : (line : List ℕ) (number : ℕ) (old new : Played) (a b : Option (List ℕ)) (r : Result (Unit {0}) ScriptStop) → EndsAs r (λ _ printed. DoesLine old line printed new) (BreaksLine line number old new) a b
    → EndsAs r (λ _ printed. DoesOrCrashes old line printed new) (λ _ printed. Between old.view new.view printed) a b
plain_line line number old new a b r h =
    ends_as (λ (x : Unit {0}) printed. DoesLine old line printed new) (λ (x : Unit {0}) printed. DoesOrCrashes old line printed new) (BreaksLine line number old new) (λ _ printed. Between old.view new.view printed) a b r
    (λ x printed does. inl does) (λ stop printed breaks. broken_between line number old new stop printed breaks) h

-- ---- lines so far

pub part_none : (reading : Reading) (w : WorldView) (marks : List Bool) (a : Option (List ℕ)) → reading.number ≡ 0 → marks ≡ [] → Wrote (λ printed. IsOfCrashPart reading.rest reading.rest reading.number w printed (played w marks)) a a
part_none reading w marks a none unmarked =
    wrote_none (λ printed. IsOfCrashPart reading.rest reading.rest reading.number w printed (played w marks)) a
    (record { texts = []; first = passes_none reading.rest; counted = sym none; few = omega arith; does = (refl, ap (played w) unmarked) })

lines_more : (old mid new : Played) (texts : List (List ℕ)) (line : List ℕ) (front back : List Line) → DoesCrashing old texts front mid → DoesOrCrashes mid line back new → DoesCrashing old (texts ++ line ∷ []) (front ++ back) new
lines_more old mid new [] line front back h k =
    let none : front ++ back ≡ back ++ [] = ap (λ xs. xs ++ back) h.0 ∙ sym (append-nil back) in
    (new, back, [], subst (λ w. DoesOrCrashes w line back new) h.1 k, (refl, refl), none)
lines_more old mid new (text ∷ texts) line front back h k =
    (h.0, h.1, h.2 ++ back, h.3, lines_more h.0 mid new texts line h.2 back h.4 k, ap (λ xs. xs ++ back) h.5 ∙ append_assoc h.1 h.2 back)

part_then : (text : Option (List ℕ)) (mid after : Reading) (old : WorldView) (w new : Played) (front back : List Line) → Advances true mid after → IsOfCrashPart text mid.rest mid.number old front w → DoesOrCrashes w after.line back new → IsOfCrashPart text after.rest after.number old (front ++ back) new
part_then text mid after old w new front back next h k = record {
  texts = h.texts ++ after.line ∷ [];
  first = passes_more text mid.rest after.rest h.texts (after.line ∷ []) h.first next.0;
  counted = length-append h.texts (after.line ∷ []) ∙ ap (λ n. n + 1) h.counted ∙ sym next.1.0;
  few = next.1.1.0;
  does = lines_more (played old []) w new h.texts after.line front back h.does k;
}

pub part_more : (there : Bool) (text : Option (List ℕ)) (mid after : Reading) (old : WorldView) (w new : Played) (a b c : Option (List ℕ)) → there ≡ true → Advances there mid after → Wrote (λ printed. IsOfCrashPart text mid.rest mid.number old printed w) a b → Wrote (λ printed. DoesOrCrashes w after.line printed new) b c
    → Wrote (λ printed. IsOfCrashPart text after.rest after.number old printed new) a c
part_more there text mid after old w new a b c is next h k =
    wrote_then (λ p. IsOfCrashPart text mid.rest mid.number old p w) (λ p. DoesOrCrashes w after.line p new) (λ p. IsOfCrashPart text after.rest after.number old p new) a b c
    (λ front back f g. part_then text mid after old w new front back (subst (λ b. Advances b mid after) is next) f g) h k

part_whole : (text rest : Option (List ℕ)) (count : ℕ) (old : WorldView) (new : Played) (printed : List Line) → IsAtEnd rest → IsOfCrashPart text rest count old printed new → IsOfCrashes text old new.view printed
part_whole text rest count old new printed ended h =
    let few : length h.texts ≤ 1000000 = rw h.counted h.few in
    record { texts = h.texts; whole = passes_all text rest h.texts h.first ended; few = few; last = new; is = refl; does = h.does }

-- the text was done to its end
pub all_done : (there : Bool) (text : Option (List ℕ)) (mid after : Reading) (old : WorldView) (new : Played) (a b : Option (List ℕ)) → there ≡ false → Advances there mid after → Wrote (λ printed. IsOfCrashPart text mid.rest mid.number old printed new) a b → Wrote (IsOfCrashes text old new.view) a b
all_done there text mid after old new a b none next h =
    let ended : IsAtEnd mid.rest = subst (λ b. Advances b mid after) none next in
    wrote_as (λ printed. IsOfCrashPart text mid.rest mid.number old printed new) (IsOfCrashes text old new.view) a b
    (λ printed f. part_whole text mid.rest mid.number old new printed ended f) h

-- ---- where it breaks off

pub parts_between : (text rest : Option (List ℕ)) (count : ℕ) (old : WorldView) (w : Played) (a b : Option (List ℕ)) → Wrote (λ printed. IsOfCrashPart text rest count old printed w) a b → Wrote (Between old w.view) a b
parts_between text rest count old w a b h = wrote_as (λ printed. IsOfCrashPart text rest count old printed w) (Between old w.view) a b (λ printed f. part_between text rest count old w printed f) h

module _ {Y : Type 0} (P : Y → List Line → Type 0) (text rest : Option (List ℕ)) (count : ℕ) (old : WorldView) (w : Played) (a b : Option (List ℕ)) where
  part_stops : (stop : ScriptStop) → Wrote (λ printed. IsOfCrashPart text rest count old printed w) a b → (let r : Result Y ScriptStop = Err stop in EndsAs r P (λ _ printed. Between old w.view printed) a b)
  part_stops Unwritten h = front_of (Between old w.view) a b (parts_between text rest count old w a b h)
  part_stops NoMemory h = parts_between text rest count old w a b h
  part_stops (BadStep at) h = parts_between text rest count old w a b h
  part_stops (Unread at) h = parts_between text rest count old w a b h

  -- the next line isn't read
  pub exit_part : (r : Result Y ScriptStop) (stop : ScriptStop) → IsErr r × IsErrAnd r (λ e. e ≡ stop) → Wrote (λ printed. IsOfCrashPart text rest count old printed w) a b → EndsAs r P (λ _ printed. Between old w.view printed) a b
  exit_part (Ok y) stop exit h = let none = exit.0 in cc
  exit_part (Err e) stop exit h = part_stops e h

-- a line breaks off after the others
module _ {X Y : Type 0} (O : X → List Line → Type 0) (P : Y → List Line → Type 0) (text rest : Option (List ℕ)) (count : ℕ) (old : WorldView) (w : Played) (new : WorldView) (a b c : Option (List ℕ)) where
  joins : (front back : List Line) → IsOfCrashPart text rest count old front w → Between w.view new back → Between old new (front ++ back)
  joins front back f g = between_then old w.view new front back (part_between text rest count old w front f) g

  breaks : (stop : ScriptStop) → Wrote (λ printed. IsOfCrashPart text rest count old printed w) a b → (let q : Result X ScriptStop = Err stop in EndsAs q O (λ _ printed. Between w.view new printed) b c) → (let r : Result Y ScriptStop = Err stop in EndsAs r P (λ _ printed. Between old new printed) a c)
  breaks Unwritten h k = front_then (λ p. IsOfCrashPart text rest count old p w) (Between w.view new) (Between old new) a b c joins h k
  breaks NoMemory h k = wrote_then (λ p. IsOfCrashPart text rest count old p w) (Between w.view new) (Between old new) a b c joins h k
  breaks (BadStep at) h k = wrote_then (λ p. IsOfCrashPart text rest count old p w) (Between w.view new) (Between old new) a b c joins h k
  breaks (Unread at) h k = wrote_then (λ p. IsOfCrashPart text rest count old p w) (Between w.view new) (Between old new) a b c joins h k

  pub exit_line : (r : Result Y ScriptStop) (stop : ScriptStop) → IsErr r × IsErrAnd r (λ e. e ≡ stop) → Wrote (λ printed. IsOfCrashPart text rest count old printed w) a b → (let q : Result X ScriptStop = Err stop in EndsAs q O (λ _ printed. Between w.view new printed) b c) → EndsAs r P (λ _ printed. Between old new printed) a c
  exit_line (Ok y) stop exit h k = let none = exit.0 in cc
  exit_line (Err e) stop exit h k = breaks e h (subst (λ s. (let q : Result X ScriptStop = Err s in EndsAs q O (λ _ printed. Between w.view new printed) b c)) (sym exit.1) k)

-- ---- the whole script

module _ (text : Option (List ℕ)) (old new : WorldView) where
  -- there is no memory for a line
  pub exit_unbegun : (a : Option (List ℕ)) (r : Result (Unit {0}) ScriptStop) (stop : ScriptStop) → new ≡ old → IsErr r × IsErrAnd r (λ e. e ≡ stop) → stop ≡ NoMemory → EndsAs r (λ _ printed. IsOfCrashes text old new printed) (λ _ printed. Between old new printed) a a
  exit_unbegun a (Ok x) stop same exit is = let none = exit.0 in cc
  exit_unbegun a (Err e) stop same exit is =
      subst (λ s. (let r : Result (Unit {0}) ScriptStop = Err s in EndsAs r (λ _ printed. IsOfCrashes text old new printed) (λ _ printed. Between old new printed) a a)) (sym (exit.1 ∙ is))
      (wrote_none (Between old new) a (subst (λ w. Between old w []) (sym same) (between_none old)))

  some_front : (a b c : Option (List ℕ)) (r : Result (Unit {0}) ScriptStop) → EndsAs r (λ _ printed. IsOfCrashes text old new printed) (λ _ printed. Between old new printed) a b → Keeps b c → WroteFront (Between old new) a c
  some_front a b c (Ok x) h k = front_of (Between old new) a c (wrote_kept (Between old new) a b c (wrote_as (IsOfCrashes text old new) (Between old new) a b (whole_between text old new) h) k)
  some_front a b c (Err (BadStep at)) h k = front_of (Between old new) a c (wrote_kept (Between old new) a b c h k)
  some_front a b c (Err (Unread at)) h k = front_of (Between old new) a c (wrote_kept (Between old new) a b c h k)
  some_front a b c (Err NoMemory) h k = front_of (Between old new) a c (wrote_kept (Between old new) a b c h k)
  some_front a b c (Err Unwritten) h k = front_kept (Between old new) a b c h k

  -- the last lines can't be written
  pub exit_unflushed : (a b c : Option (List ℕ)) (ended r : Result (Unit {0}) ScriptStop) → IsErr r × IsErrAnd r (λ e. e ≡ Unwritten) → EndsAs ended (λ _ printed. IsOfCrashes text old new printed) (λ _ printed. Between old new printed) a b → Keeps b c
      → EndsAs r (λ _ printed. IsOfCrashes text old new printed) (λ _ printed. Between old new printed) a c
  exit_unflushed a b c ended (Ok x) exit h k = let none = exit.0 in cc
  exit_unflushed a b c ended (Err e) exit h k =
      subst (λ s. (let r : Result (Unit {0}) ScriptStop = Err s in EndsAs r (λ _ printed. IsOfCrashes text old new printed) (λ _ printed. Between old new printed) a c)) (sym exit.1) (some_front a b c ended h k)

  -- what was written stays written
  pub ends_kept : (a b c : Option (List ℕ)) (r : Result (Unit {0}) ScriptStop) → EndsAs r (λ _ printed. IsOfCrashes text old new printed) (λ _ printed. Between old new printed) a b → Keeps b c → EndsAs r (λ _ printed. IsOfCrashes text old new printed) (λ _ printed. Between old new printed) a c
  ends_kept a b c (Ok x) h k = wrote_kept (IsOfCrashes text old new) a b c h k
  ends_kept a b c (Err (BadStep at)) h k = wrote_kept (Between old new) a b c h k
  ends_kept a b c (Err (Unread at)) h k = wrote_kept (Between old new) a b c h k
  ends_kept a b c (Err NoMemory) h k = wrote_kept (Between old new) a b c h k
  ends_kept a b c (Err Unwritten) h k = front_kept (Between old new) a b c h k

  -- and the laws hold of each run
  pub ends_through : HoldsBehindCrashes old → (a b : Option (List ℕ)) → Wrote (IsOfCrashes text old new) a b → EndsWith 0 (λ _ printed. Through old new printed) a b
  ends_through laws a b h = (Ok tt, refl, wrote_as (IsOfCrashes text old new) (Through old new) a b (λ printed f. through old new printed laws (whole_between text old new printed f)) h)

  stops_in : HoldsBehindCrashes old → (a b : Option (List ℕ)) (stop : ScriptStop) → (let r : Result (Unit {0}) ScriptStop = Err stop in EndsAs r (λ _ printed. IsOfCrashes text old new printed) (λ _ printed. Between old new printed) a b) → (let r : Result (Unit {0}) ScriptStop = Err stop in EndsIn r (Through old new) a b)
  stops_in laws a b Unwritten h = front_as (Between old new) (Through old new) a b (λ printed f. through old new printed laws f) h
  stops_in laws a b NoMemory h = wrote_as (Between old new) (Through old new) a b (λ printed f. through old new printed laws f) h
  stops_in laws a b (BadStep at) h = wrote_as (Between old new) (Through old new) a b (λ printed f. through old new printed laws f) h
  stops_in laws a b (Unread at) h = wrote_as (Between old new) (Through old new) a b (λ printed f. through old new printed laws f) h

  pub stops_through : HoldsBehindCrashes old → (a b : Option (List ℕ)) (status : ℕ) (stop : ScriptStop) → status ≡ status_of stop → (let r : Result (Unit {0}) ScriptStop = Err stop in EndsAs r (λ _ printed. IsOfCrashes text old new printed) (λ _ printed. Between old new printed) a b) → EndsWith status (λ _ printed. Through old new printed) a b
  stops_through laws a b status stop is h = (Err stop, is, stops_in laws a b stop h)
