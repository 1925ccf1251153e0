-- What is done and written, step after step.
use Rattle.std.proofs.Common.{◌≡◌, inl, inr, ◌∷◌, [], ◌++◌, ◌≤◌, ◌<◌, ◌+◌, zero, suc, List, ℕ, Bool, true, false, length, take, drop, slice_index_or, Option, None, Some, Result, Ok, Err, refl, sym, ap, subst, arith, ◌∙◌}
use Rattle.std.specs.Prelude.{IfOk, IfErr, OnOk, OnErr, is_some, not, ◌&&◌}
use Rattle.std.specs.Io.KnownBytes.{Appends, Keeps, IsAtEnd}
use Rattle.std.specs.Str.Lossy.{utf8_lossy}
use Rattle.std.specs.Result.{IsErr, IsErrAnd}
use Rattle.std.proofs.lemmas.List.{append-nil, append_assoc, length-append, take_all, take-append-drop}
use Rattle.node_core.specs.declared.refusals.Fault.{Fault}
use Rattle.node_core.specs.declared.refusals.Fault.TheVariants.{MasterDown}
use Rattle.node_core.specs.declared.lines.Line.{Line}
use Rattle.node_core.specs.declared.lines.Line.TheVariants as lines
use Rattle.node_core.specs.Texts.{line_text}
use Rattle.world_steps.specs.declared.parts.SweepResult.{SweepResult}
use Rattle.world_steps.specs.declared.steps.Step.{Step}
use Rattle.world_steps.specs.World.{WorldView}
use Rattle.world_cell.proofs.PartsOfRuns.{take_more}
use Rattle.scripts.specs.declared.steps.Parsed.{Parsed}
use Rattle.scripts.specs.declared.steps.Parsed.TheVariants as parsed
use Rattle.scripts.specs.Readings.{IsParsed}
use Rattle.scripts.specs.declared.stops.ScriptStop.{ScriptStop}
use Rattle.scripts.specs.declared.stops.ScriptStop.TheVariants.{Unwritten}
use Rattle.scripts.specs.Ran.{Writes}
use Rattle.scripts.specs.Settling.{Played, played, PlaysMade, PlaysRefused, turn_step, is_waiting, is_idle, Turns, TakesTurn, SettlesBy, Settles}
use Rattle.scripts.specs.Texts.{Reading, Advances}
use Rattle.output.specs.Fronts.{AppendsFront}
use Rattle.output.proofs.Fronts.{front_all, front_behind, front_before, front_keeps}
use Rattle.scripts.specs.Scripts.{lines_text, told, DoesParsed, DoesLine, DoesLines, IsOfPart, IsOfScript, Wrote, WroteFront}
use Rattle.scripts.proofs.FirstLines.{passes_none, passes_more, passes_all}

-- ---- bytes

pub appends_none : (a : Option (List ℕ)) → Appends a a []
appends_none None = tt
appends_none (Some bytes) = sym (append-nil bytes)

pub appends_then : (a b c : Option (List ℕ)) (front back : List ℕ) → Appends a b front → Appends b c back → Appends a c (front ++ back)
appends_then None b c front back h k = tt
appends_then (Some x) None c front back h k = absurd h
appends_then (Some x) (Some y) None front back h k = absurd k
appends_then (Some x) (Some y) (Some z) front back h k = k ∙ ap (λ bytes. bytes ++ back) h ∙ append_assoc x front back

pub both_texts : (a b : List Line) → lines_text (a ++ b) ≡ lines_text a ++ lines_text b
both_texts [] b = refl
both_texts (line ∷ a) b = ap (λ rest. line_text line ++ (10 ∷ rest)) (both_texts a b) ∙ sym (append_assoc (line_text line) (10 ∷ lines_text a) (lines_text b))

pub written_more : (xs : List Line) (i : ℕ) (x : Line) (a b c : Option (List ℕ)) → i < length xs → x ≡ slice_index_or xs i x → Appends a b (lines_text (take i xs)) → Appends b c (lines_text (x ∷ [])) → Appends a c (lines_text (take (i + 1) xs))
written_more xs i x a b c less is h k =
    let same : lines_text (take (i + 1) xs) ≡ lines_text (take i xs) ++ lines_text (x ∷ []) = ap lines_text (take_more xs i x less is) ∙ both_texts (take i xs) (x ∷ []) in
    subst (Appends a c) (sym same) (appends_then a b c (lines_text (take i xs)) (lines_text (x ∷ [])) h k)

pub written_all : (xs : List Line) (i : ℕ) (a b : Option (List ℕ)) → length xs ≤ i → Appends a b (lines_text (take i xs)) → Appends a b (lines_text xs)
written_all xs i a b all h = subst (λ ys. Appends a b (lines_text ys)) (take_all i xs all) h

-- of the next line a front is written, after those before
written_front : (xs : List Line) (i : ℕ) (x : Line) (a b c : Option (List ℕ)) → i < length xs → x ≡ slice_index_or xs i x → Appends a b (lines_text (take i xs)) → AppendsFront b c (lines_text (x ∷ [])) → AppendsFront a c (lines_text xs)
written_front xs i x a b c less is h k =
    let rest : List Line = drop (i + 1) xs in
    let first : lines_text (take i xs) ++ lines_text (x ∷ []) ≡ lines_text (take (i + 1) xs) =
    sym (ap lines_text (take_more xs i x less is) ∙ both_texts (take i xs) (x ∷ [])) in
    let all : (lines_text (take i xs) ++ lines_text (x ∷ [])) ++ lines_text rest ≡ lines_text xs =
    ap (λ bytes. bytes ++ lines_text rest) first ∙ sym (both_texts (take (i + 1) xs) rest) ∙ ap lines_text (take-append-drop (i + 1) xs) in
    subst (AppendsFront a c) all (front_before a c _ (lines_text rest) (front_behind a b c (lines_text (take i xs)) (lines_text (x ∷ [])) h k))

pub exit_written : (r : Result (Unit {0}) ScriptStop) (stop : ScriptStop) (xs : List Line) (i : ℕ) (x : Line) (a b c : Option (List ℕ)) → IsErr r × IsErrAnd r (λ e. e ≡ stop) → i < length xs → x ≡ slice_index_or xs i x → Appends a b (lines_text (take i xs))
    → (stop ≡ Unwritten) × AppendsFront b c (lines_text (x ∷ [])) → Writes r xs a c
exit_written (Ok y) stop xs i x a b c exit less is h k = let none = exit.0 in cc
exit_written (Err e) stop xs i x a b c exit less is h k = (exit.1 ∙ k.0, written_front xs i x a b c less is h k.1)

pub wrote_then : (P Q R : List Line → Type 0) (a b c : Option (List ℕ)) → ((front back : List Line) → P front → Q back → R (front ++ back)) → Wrote P a b → Wrote Q b c → Wrote R a c
wrote_then P Q R a b c join h k =
    (h.0 ++ k.0, join h.0 k.0 h.1 k.1, subst (Appends a c) (sym (both_texts h.0 k.0)) (appends_then a b c (lines_text h.0) (lines_text k.0) h.2 k.2))

pub wrote_none : (P : List Line → Type 0) (a : Option (List ℕ)) → P [] → Wrote P a a
wrote_none P a h = ([], h, appends_none a)

pub wrote_as : (P Q : List Line → Type 0) (a b : Option (List ℕ)) → ((printed : List Line) → P printed → Q printed) → Wrote P a b → Wrote Q a b
wrote_as P Q a b gives h = (h.0, gives h.0 h.1, h.2)

-- ---- fronts

pub front_of : (P : List Line → Type 0) (a b : Option (List ℕ)) → Wrote P a b → WroteFront P a b
front_of P a b h = (h.0, h.1, front_all a b (lines_text h.0) h.2)

pub front_as : (P Q : List Line → Type 0) (a b : Option (List ℕ)) → ((printed : List Line) → P printed → Q printed) → WroteFront P a b → WroteFront Q a b
front_as P Q a b gives h = (h.0, gives h.0 h.1, h.2)

pub front_then : (P Q R : List Line → Type 0) (a b c : Option (List ℕ)) → ((front back : List Line) → P front → Q back → R (front ++ back)) → Wrote P a b → WroteFront Q b c → WroteFront R a c
front_then P Q R a b c join h k =
    (h.0 ++ k.0, join h.0 k.0 h.1 k.1, subst (AppendsFront a c) (sym (both_texts h.0 k.0)) (front_behind a b c (lines_text h.0) (lines_text k.0) h.2 k.2))

pub front_kept : (P : List Line → Type 0) (a b c : Option (List ℕ)) → WroteFront P a b → Keeps b c → WroteFront P a c
front_kept P a b c h k = (h.0, h.1, front_keeps a b c (lines_text h.0) h.2 k)

-- ---- settle

turns_more : (count : ℕ) (old mid new : Played) (front back : List Line) → Turns count old front mid → TakesTurn true mid back new → Turns (suc count) old (front ++ back) new
turns_more zero old mid new front back h k =
    let none : front ++ back ≡ back ++ [] = ap (λ xs. xs ++ back) h.0 ∙ sym (append-nil back) in
    (new, back, [], subst (λ w. TakesTurn true w back new) h.1 k, (refl, refl), none)
turns_more (suc count) old mid new front back h k =
    (h.0, h.1, h.2 ++ back, h.3, turns_more count h.0 mid new h.2 back h.4 k, ap (λ xs. xs ++ back) h.5 ∙ append_assoc h.1 h.2 back)

pub no_turns : (w : Played) → (count : ℕ) × Turns count w [] w
no_turns w = (0, (refl, refl))

pub more_turns : (more : Bool) (old mid new : Played) (a b c : Option (List ℕ)) → more ≡ true → Wrote (λ printed. (count : ℕ) × Turns count old printed mid) a b → Wrote (λ printed. TakesTurn more mid printed new) b c → Wrote (λ printed. (count : ℕ) × Turns count old printed new) a c
more_turns more old mid new a b c is h k =
    wrote_then (λ p. (count : ℕ) × Turns count old p mid) (λ p. TakesTurn more mid p new) (λ p. (count : ℕ) × Turns count old p new) a b c
    (λ front back f g. (suc f.0, turns_more f.0 old mid new front back f.1 (subst (λ m. TakesTurn m mid back new) is g))) h k

pub all_turns : (up more : Bool) (old mid new : Played) (a b c : Option (List ℕ)) → up ≡ is_some old.view.world.master → up ≡ true → more ≡ false → Wrote (λ printed. (count : ℕ) × Turns count old printed mid) a b → Wrote (λ printed. TakesTurn more mid printed new) b c → Wrote (λ printed. Settles old printed new) a c
all_turns up more old mid new a b c is on last h k =
    wrote_then (λ p. (count : ℕ) × Turns count old p mid) (λ p. TakesTurn more mid p new) (λ p. Settles old p new) a b c
    (λ front back f g. subst (λ up. SettlesBy up old (front ++ back) new) (sym on ∙ is) (record { count = f.0; mid = mid; here = front; later = back; first = f.1; last = subst (λ m. TakesTurn m mid back new) last g; tells = refl })) h k

turn_by : (more waits quiet : Bool) (old new : Played) (printed : List Line) → PlaysMade old (turn_step old) new printed → quiet ≡ is_idle old → waits ≡ is_waiting new → more ≡ waits → quiet ≡ true → TakesTurn more old printed new
turn_by true waits quiet old new printed made idle is e q =
    record { made = made; ends = ap (λ b. b && not (is_waiting new)) (sym idle ∙ q) ∙ ap not (sym is ∙ sym e) }
turn_by false waits quiet old new printed made idle is e q =
    inl (record { made = made; ends = ap (λ b. b && not (is_waiting new)) (sym idle ∙ q) ∙ ap not (sym is ∙ sym e) })

-- a sweep that found nothing to do
pub turn_quiet : (more waits : Bool) (old new : Played) (turn : SweepResult) (texts : List Line) (a b : Option (List ℕ)) → texts ≡ turn.lines → PlaysMade old (turn_step old) new turn.lines → turn.quiet ≡ is_idle old → waits ≡ is_waiting new → more ≡ waits → turn.quiet ≡ true → Appends a b (lines_text texts) → Wrote (λ printed. TakesTurn more old printed new) a b
turn_quiet more waits old new turn texts a b same made idle is e quiet h =
    (turn.lines, turn_by more waits turn.quiet old new turn.lines made idle is e quiet, subst (λ xs. Appends a b (lines_text xs)) same h)

-- any other turn
pub turn_loud : (more : Bool) (old new : Played) (turn : SweepResult) (texts : List Line) (a b : Option (List ℕ)) → texts ≡ turn.lines → PlaysMade old (turn_step old) new turn.lines → turn.quiet ≡ is_idle old → more ≡ not turn.quiet → turn.quiet ≡ false → Appends a b (lines_text texts) → Wrote (λ printed. TakesTurn more old printed new) a b
turn_loud more old new turn texts a b same made idle e loud h =
    (turn.lines, subst (λ more. TakesTurn more old turn.lines new) (sym (e ∙ ap not loud)) (record { made = made; ends = ap (λ b. b && not (is_waiting new)) (sym idle ∙ loud) }), subst (λ xs. Appends a b (lines_text xs)) same h)

pub turn_refused : (old new : Played) (fault : Fault) (a b : Option (List ℕ)) → PlaysRefused old (turn_step old) new (lines.Refused fault ∷ []) → Appends a b (lines_text (lines.Refused fault ∷ [])) → Wrote (λ printed. TakesTurn false old printed new) a b
turn_refused old new fault a b refused h = (lines.Refused fault ∷ [], inr refused, h)

-- ---- lines

lines_more : (old mid new : Played) (texts : List (List ℕ)) (line : List ℕ) (front back : List Line) → DoesLines old texts front mid → DoesLine mid line back new → DoesLines old (texts ++ line ∷ []) (front ++ back) new
lines_more old mid new [] line front back h k =
    let none : front ++ back ≡ back ++ [] = ap (λ xs. xs ++ back) h.0 ∙ sym (append-nil back) in
    (new, back, [], subst (λ w. DoesLine w line back new) h.1 k, (refl, refl), none)
lines_more old mid new (text ∷ texts) line front back h k =
    (h.0, h.1, h.2 ++ back, h.3, lines_more h.0 mid new texts line h.2 back h.4 k, ap (λ xs. xs ++ back) h.5 ∙ append_assoc h.1 h.2 back)

pub part_none : (reading : Reading) (w : WorldView) (marks : List Bool) (a : Option (List ℕ)) → reading.number ≡ 0 → marks ≡ [] → Wrote (λ printed. IsOfPart reading.rest reading.rest reading.number w printed (played w marks)) a a
part_none reading w marks a none unmarked =
    wrote_none (λ printed. IsOfPart reading.rest reading.rest reading.number w printed (played w marks)) a
    (record { texts = []; first = passes_none reading.rest; counted = sym none; few = omega arith; does = (refl, ap (played w) unmarked) })

one_more : (xs : List (List ℕ)) (x : List ℕ) → length (xs ++ x ∷ []) ≡ length xs + 1
one_more xs x = length-append xs (x ∷ [])

part_then : (text : Option (List ℕ)) (mid after : Reading) (old : WorldView) (w new : Played) (front back : List Line) → Advances true mid after → IsOfPart text mid.rest mid.number old front w → DoesLine w after.line back new → IsOfPart text after.rest after.number old (front ++ back) new
part_then text mid after old w new front back next h k = record {
  texts = h.texts ++ after.line ∷ [];
  first = passes_more text mid.rest after.rest h.texts (after.line ∷ []) h.first next.0;
  counted = one_more h.texts after.line ∙ ap (λ n. n + 1) h.counted ∙ sym next.1.0;
  few = next.1.1.0;
  does = lines_more (played old []) w new h.texts after.line front back h.does k;
}

pub part_more : (there : Bool) (text : Option (List ℕ)) (mid after : Reading) (old : WorldView) (w new : Played) (a b c : Option (List ℕ)) → there ≡ true → Advances there mid after → Wrote (λ printed. IsOfPart text mid.rest mid.number old printed w) a b → Wrote (λ printed. DoesLine w after.line printed new) b c → Wrote (λ printed. IsOfPart text after.rest after.number old printed new) a c
part_more there text mid after old w new a b c is next h k =
    wrote_then (λ p. IsOfPart text mid.rest mid.number old p w) (λ p. DoesLine w after.line p new) (λ p. IsOfPart text after.rest after.number old p new) a b c
    (λ front back f g. part_then text mid after old w new front back (subst (λ b. Advances b mid after) is next) f g) h k

pub part_whole : (text : Option (List ℕ)) (rest : Option (List ℕ)) (count : ℕ) (old : WorldView) (new : Played) (printed : List Line) → IsAtEnd rest → IsOfPart text rest count old printed new → (all : IsOfScript text old printed) × (all.new.view ≡ new.view)
part_whole text rest count old new printed ended h =
    let few : length h.texts ≤ 1000000 = rw h.counted h.few in
    (record { texts = h.texts; whole = passes_all text rest h.texts h.first ended; few = few; new = new; does = h.does }, refl)

-- the line that was read fits
pub line_fits : (there : Bool) (mid after : Reading) → there ≡ true → Advances there mid after → length after.line ≤ 1048576
line_fits there mid after is next = let h = subst (λ b. Advances b mid after) is next in h.1.1.1

pub wrote_line : (old new : Played) (line text : List ℕ) (meant : Parsed) (a b : Option (List ℕ)) → text ≡ line → length line ≤ 1048576 → IsParsed (utf8_lossy text) meant → Wrote (λ printed. DoesParsed old meant printed new) a b → Wrote (λ printed. DoesLine old line printed new) a b
wrote_line old new line text meant a b same fits is h = (h.0, (fits, (meant, subst (λ t. IsParsed (utf8_lossy t) meant) same is, h.1)), h.2)

pub wrote_refusal : (w : Played) (meant : Parsed) (fault : Fault) (a b : Option (List ℕ)) → meant ≡ parsed.Refused fault → Appends a b (lines_text (lines.Refused fault ∷ [])) → Wrote (λ printed. DoesParsed w meant printed w) a b
wrote_refusal w meant fault a b is h = subst (λ x. Wrote (λ printed. DoesParsed w x printed w) a b) (sym is) (lines.Refused fault ∷ [], (refl, refl), h)

appends_kept : (a b c : Option (List ℕ)) (bytes : List ℕ) → Appends a b bytes → Keeps b c → Appends a c bytes
appends_kept None b c bytes h k = tt
appends_kept (Some x) None c bytes h k = absurd h
appends_kept (Some x) (Some y) None bytes h k = absurd k
appends_kept (Some x) (Some y) (Some z) bytes h k = k ∙ h

-- what was written stays written where the writer is flushed
pub wrote_kept : (P : List Line → Type 0) (a b c : Option (List ℕ)) → Wrote P a b → Keeps b c → Wrote P a c
wrote_kept P a b c h k = (h.0, h.1, appends_kept a b c (lines_text h.0) h.2 k)
