-- Groups of frames, one after the other.
use Rattle.std.proofs.Common.{◌≡◌, inl, inr, ℕ, List, [], ◌∷◌, ◌++◌, Option, None, Some, Result, Ok, Err, refl, sym, ap, subst, ◌∙◌, append-nil, append_assoc}
use Rattle.std.specs.Io.KnownBytes.{Appends}
use Rattle.std.proofs.KnownBytes.{Appends-nil, Appends-trans}
use Rattle.node_core.specs.declared.refusals.Fault.{Fault}
use Rattle.rows_cell.specs.declared.settings.MasterTerms.{MasterTerms}
use Rattle.rows_cell.specs.Stores.{Store}
use Rattle.codec.specs.declared.faults.WireFault.{WireFault}
use Rattle.output.specs.Fronts.{AppendsFront}
use Rattle.hosting.specs.Held.{GroupState, ground, store_behind, seen}
use Rattle.hosting.specs.Pieces.{HeldPieces, AreTaken, CommitsEach, IsCutShort, all_held, all_pieces, joined, no_pieces}
use Rattle.hosting.specs.declared.pieces.GroupLimits.{GroupLimits}
use Rattle.hosting.specs.declared.pieces.GroupTerms.{GroupTerms}
use Rattle.hosting.proofs.HeldBack.{behind_none}
use Rattle.hosting.proofs.PartedLaws.{parted_fronts}
use Rattle.hosting.specs.declared.frames.Frame.{Frame}
use Rattle.hosting.specs.declared.stops.StreamStop.{StreamStop}
use Rattle.hosting.specs.declared.stops.StreamStop.TheVariants.{Unread, Unwritten, NoMemory}
use Rattle.hosting.specs.declared.stops.GroupStop.{GroupStop}
use Rattle.hosting.specs.declared.stops.GroupStop.TheVariants.{Stopped, Refused}
use Rattle.hosting.specs.declared.streams.Turned.{Turned}
use Rattle.hosting.specs.declared.streams.Turned.TheVariants as turned_as
use Rattle.hosting.specs.declared.groups.Course.{Course}
use Rattle.hosting.specs.declared.groups.Course.TheVariants as courses
use Rattle.over_core.specs.Kept.{CellState}
use Rattle.over_core.specs.Sweep.{IsSettled}
use Rattle.rows_cell.specs.declared.tables.Edit.{Edit}
use Rattle.hosting.specs.Parted.{StandsSo, ArePartedBySteps, store_with}
use Rattle.hosting.specs.Seats.{Hosted, with_master, without_master}
use Rattle.hosting.specs.Streams.{FoundFrame, Answer, Turns, AreAnswers, TakesTurn, DoesFound}
use Rattle.hosting.specs.Groups.{group_limit, KeptGroup, LostGroup, TakesGroup, Groups, all_answers, ServedGroups, EndsGroups, Goes, GoesBy, course_of, ServesBehind, together, IsLosing, Gathered, IsKeptAs, IsLostAs, Keeps}
use Rattle.hosting.proofs.Served.{found_turn}

abbrev Known : Type 0
Known = Option (List ℕ)

groups_behind : (terms : GroupTerms) (text there rest : Known) (old mid new : Hosted) (front back : List (List Answer)) → Groups terms text old front mid there → Groups terms there mid back new rest
    → Groups terms text old (front ++ back) new rest
groups_behind terms text there rest old mid new [] back p q =
    let P : Hosted → Type 0 = λ h. Groups terms there h back new rest in
    let Q : Known → Type 0 = λ u. Groups terms u old back new rest in
    subst Q p.1 (subst P p.0 q)
groups_behind terms text there rest old mid new (group ∷ front) back p q = (p.0, p.1, p.2, groups_behind terms p.1 there rest p.0 mid new front back p.3 q)

pub turns_behind : (terms : MasterTerms) (text there rest : Known) (old mid new : Hosted) (front back : List Answer) → Turns terms text old front mid there → Turns terms there mid back new rest
    → Turns terms text old (front ++ back) new rest
turns_behind terms text there rest old mid new [] back p q =
    let P : Hosted → Type 0 = λ h. Turns terms there h back new rest in
    let Q : Known → Type 0 = λ u. Turns terms u old back new rest in
    subst Q p.1 (subst P p.0 q)
turns_behind terms text there rest old mid new (answer ∷ front) back p q = (p.0, p.1, p.2, turns_behind terms p.1 there rest p.0 mid new front back p.3 q)

pub answers_behind : (front back : List Answer) (xs ys : List ℕ) → AreAnswers front xs → AreAnswers back ys → AreAnswers (front ++ back) (xs ++ ys)
answers_behind [] back xs ys p q = let P : List ℕ → Type 0 = λ u. AreAnswers back (u ++ ys) in subst P (sym p) q
answers_behind (answer ∷ front) back xs ys p q =
    (p.0, p.1 ++ ys, p.2, answers_behind front back p.1 ys p.3 q, ap (λ (u : List ℕ). u ++ ys) p.4 ∙ append_assoc p.0 p.1 ys)

all_behind : (front back : List (List Answer)) → all_answers (front ++ back) ≡ all_answers front ++ all_answers back
all_behind [] back = refl
all_behind (group ∷ front) back = ap (λ (u : List Answer). group ++ u) (all_behind front back) ∙ sym (append_assoc group (all_answers front) (all_answers back))

pub served_none : (terms : GroupTerms) (text : Known) (old : Hosted) (before : Known) → ServedGroups terms text old old text before before
served_none terms text old before = record { groups = []; bytes = []; done = (refl, refl); told = refl; written = Appends-nil before }

served_then : (terms : GroupTerms) (text there rest before between after : Known) (old mid new : Hosted) → ServedGroups terms text old mid there before between
    → ServedGroups terms there mid new rest between after → ServedGroups terms text old new rest before after
served_then terms text there rest before between after old mid new s t =
    let P : List Answer → Type 0 = λ u. AreAnswers u (s.bytes ++ t.bytes) in
    record {
      groups = s.groups ++ t.groups;
      bytes = s.bytes ++ t.bytes;
      done = groups_behind terms text there rest old mid new s.groups t.groups s.done t.done;
      told = subst P (sym (all_behind s.groups t.groups)) (answers_behind (all_answers s.groups) (all_answers t.groups) s.bytes t.bytes s.told t.told);
      written = Appends-trans before between after s.bytes t.bytes s.written t.written;
    }

served_as : (terms : GroupTerms) (text rest before between after : Known) (old mid new : Hosted) → ServedGroups terms text old mid rest before between → new ≡ mid → after ≡ between
    → ServedGroups terms text old new rest before after
served_as terms text rest before between after old mid new s same kept =
    let P : Hosted → Type 0 = λ h. ServedGroups terms text old h rest before after in
    let Q : Known → Type 0 = λ u. ServedGroups terms text old mid rest before u in
    subst P (sym same) (subst Q (sym kept) s)

ends_then : (result : Result (Unit {0}) GroupStop) (terms : GroupTerms) (text there before between after : Known) (old mid new : Hosted) → ServedGroups terms text old mid there before between
    → EndsGroups terms there mid result new between after → EndsGroups terms text old result new before after
ends_then (Ok x) terms text there before between after old mid new s e = (e.0, served_then terms text there e.0 before between after old mid new s e.1, e.2)
ends_then (Err (Stopped Unread)) terms text there before between after old mid new s e =
    (e.0, e.1, served_then terms text there e.1 before between after old mid e.0 s e.2, e.3)
ends_then (Err (Stopped NoMemory)) terms text there before between after old mid new s e =
    (e.0, e.1, served_then terms text there e.1 before between after old mid e.0 s e.2, e.3)
ends_then (Err (Stopped Unwritten)) terms text there before between after old mid new s e =
    (e.0, e.1, e.2, e.3, served_then terms text there e.1 before between e.3 old mid e.0 s e.4, e.5)
ends_then (Err (Refused fault)) terms text there before between after old mid new s e =
    (e.0, e.1, served_then terms text there e.1 before between after old mid e.0 s e.2, e.3)

pub goes_then : (course : Course) (terms : GroupTerms) (text there rest before between after : Known) (old mid new : Hosted) → ServedGroups terms text old mid there before between
    → Goes terms there mid course new rest between after → Goes terms text old course new rest before after
goes_then courses.On terms text there rest before between after old mid new s g = served_then terms text there rest before between after old mid new s g
goes_then courses.Over terms text there rest before between after old mid new s g = ends_then (Ok tt) terms text there before between after old mid new s g
goes_then (courses.Ends stop) terms text there rest before between after old mid new s g = ends_then (Err stop) terms text there before between after old mid new s g

-- ---- by what a group comes to

pub served_on : (course : Course) (terms : GroupTerms) (text there rest before between after : Known) (old mid new : Hosted) → course ≡ courses.On → ServedGroups terms text old mid there before between
    → Goes terms there mid course new rest between after → ServedGroups terms text old new rest before after
served_on course terms text there rest before between after old mid new e s g =
    let P : Course → Type 0 = λ u. Goes terms there mid u new rest between after in
    served_then terms text there rest before between after old mid new s (subst P e g)

pub ends_over : (course : Course) (terms : GroupTerms) (text there rest before between after : Known) (old mid new : Hosted) → course ≡ courses.Over → ServedGroups terms text old mid there before between
    → Goes terms there mid course new rest between after → EndsGroups terms text old (Ok tt) new before after
ends_over course terms text there rest before between after old mid new e s g =
    let P : Course → Type 0 = λ u. Goes terms there mid u new rest between after in
    ends_then (Ok tt) terms text there before between after old mid new s (subst P e g)

pub ends_so : (course : Course) (stop : GroupStop) (terms : GroupTerms) (text there rest before between after : Known) (old mid new : Hosted) → course ≡ courses.Ends stop
    → ServedGroups terms text old mid there before between → Goes terms there mid course new rest between after → EndsGroups terms text old (Err stop) new before after
ends_so course stop terms text there rest before between after old mid new e s g =
    let P : Course → Type 0 = λ u. Goes terms there mid u new rest between after in
    ends_then (Err stop) terms text there before between after old mid new s (subst P e g)

pub ends_late : (terms : GroupTerms) (text rest before after : Known) (old new : Hosted) → ServedGroups terms text old new rest before after → EndsGroups terms text old (Err (Stopped Unread)) new before after
ends_late terms text rest before after old new s = (new, rest, s, inl refl)

pub ends_roomless : (terms : GroupTerms) (text : Known) (old : Hosted) (before : Known) → EndsGroups terms text old (Err (Stopped NoMemory)) old before before
ends_roomless terms text old before = (old, text, served_none terms text old before, inr (inl refl))

-- ---- a frame by itself

turn_goes : (turned : Turned) (terms : GroupTerms) (text rest before after : Known) (old new : Hosted) → TakesTurn terms.master text old turned new rest before after
    → Goes terms text old (course_of turned) new rest before after
turn_goes turned_as.On terms text rest before after old new t = record {
  groups = (t.0 ∷ []) ∷ [];
  bytes = t.1;
  done = (new, rest, inl (new, rest, t.2, (refl, refl)), (refl, refl));
  told = (t.1, [], t.3, refl, sym (append-nil t.1));
  written = t.4;
}
turn_goes turned_as.Over terms text rest before after old new t =
    (text, served_as terms text text before before after old old new (served_none terms text old before) t.1 t.2, t.0)
turn_goes (turned_as.Stopped Unread) terms text rest before after old new t =
    (old, text, served_as terms text text before before after old old old (served_none terms text old before) refl t.1, inl t.0)
turn_goes (turned_as.Stopped NoMemory) terms text rest before after old new t =
    (old, text, served_as terms text text before before after old old old (served_none terms text old before) refl t.1, inl t.0)
turn_goes (turned_as.Stopped Unwritten) terms text rest before after old new t =
    let group : TakesGroup terms text old (t.0 ∷ []) new rest = inl (new, rest, t.2, (refl, refl)) in
    let told : AreAnswers (t.0 ∷ []) t.1 = (t.1, [], t.3, refl, sym (append-nil t.1)) in
    (old, text, rest, before, served_none terms text old before, (t.0 ∷ [], t.1, group, told, t.4))

pub alone_goes : (terms : GroupTerms) (found : Option (Result Frame WireFault)) (turned : Turned) (course : Course) (here before after : Known) (old new : Hosted) → course ≡ course_of turned
    → DoesFound terms.master found old turned new before after → GoesBy terms found here old course new here before after
alone_goes terms found turned course here before after old new is does text f =
    let P : Course → Type 0 = λ u. Goes terms text old u new here before after in
    subst P (sym is) (turn_goes turned terms text here before after old new (found_turn found turned terms.master text here before after old new f does))

pub unread_goes : (stop : StreamStop) (terms : GroupTerms) (text rest before : Known) (old : Hosted) → stop ≡ Unread → Goes terms text old (courses.Ends (Stopped stop)) old rest before before
unread_goes stop terms text rest before old is =
    let P : StreamStop → Type 0 = λ u. Goes terms text old (courses.Ends (Stopped u)) old rest before before in
    subst P (sym is) (old, text, served_none terms text old before, inl refl)

-- ---- a group

begun : (limits : GroupLimits) (first : GroupState) → first.held ≡ no_pieces limits → (together first).store ≡ first.store
begun limits first none = ap (λ (h : HeldPieces). store_behind first.store (all_held h)) none ∙ behind_none first.store

-- from its first frame on it is over the store as it was, within the limits
from_first : (limits : GroupLimits) (first group : GroupState) → first.held ≡ no_pieces limits → ground group ≡ ground first → group.store ≡ (together first).store
from_first limits first group none same = ap (λ (g : Store × GroupLimits). g.0) same ∙ sym (begun limits first none)

limits_kept : (limits : GroupLimits) (first group : GroupState) → first.held ≡ no_pieces limits → ground group ≡ ground first → group.held.limits ≡ limits
limits_kept limits first group none same = ap (λ (g : Store × GroupLimits). g.1) same ∙ ap (λ (h : HeldPieces). h.limits) none

kept_group : (terms : GroupTerms) (text there : Known) (first group : GroupState) (told : List ℕ) (new : Hosted) → first.held ≡ no_pieces terms.limits → (g : Gathered group_limit terms.master text first group there [] told) → IsKeptAs group new
    → KeptGroup terms text (together first) g.answers new there
kept_group terms text there first group told new none g k =
    let same = from_first terms.limits first group none g.store in
    let pieces = all_pieces group.held in
    let P : Store → Type 0 = λ s. CommitsEach pieces s new.store in
    let Q : GroupLimits → Type 0 = λ l. AreTaken l pieces in
    record {
      done = together group;
      turns = g.turns;
      few = g.few;
      kinds = g.kinds;
      pieces = pieces;
      taken = subst Q (limits_kept terms.limits first group none g.store) k.taken;
      held = ap (λ (s : Store). store_behind s (joined pieces)) same;
      committed = subst P same k.committed;
      master = k.master;
    }

kept_groups : (terms : GroupTerms) (text there : Known) (first group : GroupState) (told : List ℕ) (new : Hosted) → first.held ≡ no_pieces terms.limits → (g : Gathered group_limit terms.master text first group there [] told) → IsKeptAs group new
    → Groups terms text (together first) (g.answers ∷ []) new there
kept_groups terms text there first group told new none g k = (new, there, inr (kept_group terms text there first group told new none g k), (refl, refl))

parted_so : (terms : GroupTerms) (text there : Known) (first group : GroupState) (told : List ℕ) → first.held ≡ no_pieces terms.limits → Gathered group_limit terms.master text first group there [] told
    → ArePartedBySteps terms.master text (together first) (all_pieces group.held)
parted_so terms text there first group told none g front back is =
    let old = together first in
    let Holds : List (List Edit) → Type 0 = λ full. StandsSo terms.master text old (store_with first.store full) in
    let start : Holds [] = record { cell = seen first; answers = []; rest = text; turns = (refl, refl); so = inl (sym (begun terms.limits first none)) } in
    let same : store_with first.store (all_pieces group.held) ≡ (together group).store = ap (λ (s : Store × GroupLimits). store_behind s.0 (all_held group.held)) (sym g.store) in
    let whole : Holds (all_pieces group.held) = record { cell = seen group; answers = g.answers; rest = there; turns = g.turns; so = inl same } in
    subst (λ (s : Store). StandsSo terms.master text old (store_with s front)) (sym (begun terms.limits first none))
    (parted_fronts Holds first.held group.held (ap (λ (h : HeldPieces). h.full) none) g.parted start whole front back is)

lost_group : (fault : Fault) (terms : GroupTerms) (text there : Known) (first group : GroupState) (told : List ℕ) (new : Hosted) → first.held ≡ no_pieces terms.limits → IsSettled first.store
    → Gathered group_limit terms.master text first group there [] told → IsLostAs fault group new → LostGroup terms text (together first) fault new
lost_group fault terms text there first group told new none sure g k =
    let same = from_first terms.limits first group none g.store in
    let pieces = all_pieces group.held in
    let P : Store → Type 0 = λ s. IsCutShort fault pieces s new.store in
    let Q : GroupLimits → Type 0 = λ l. AreTaken l pieces in
    record {
      done = together group;
      answers = g.answers;
      rest = there;
      turns = g.turns;
      few = g.few;
      kinds = g.kinds;
      pieces = pieces;
      taken = subst Q (limits_kept terms.limits first group none g.store) k.taken;
      settled = subst IsSettled (sym (begun terms.limits first none)) sure;
      held = ap (λ (s : Store). store_behind s (joined pieces)) same;
      parted = parted_so terms text there first group told none g;
      refused = subst P same k.refused;
      gone = k.gone;
    }

pub kept_goes : (course : Course) (terms : GroupTerms) (text there before after : Known) (first group : GroupState) (told : List ℕ) (new : Hosted) → first.held ≡ no_pieces terms.limits → IsSettled first.store
    → Gathered group_limit terms.master text first group there [] told → Keeps group told course new before after → Goes terms text (together first) course new there before after
kept_goes courses.On terms text there before after first group told new none sure g k =
    let P : List ℕ → Type 0 = λ u. Appends before after u in
    let Q : List Answer → Type 0 = λ u. AreAnswers u g.bytes in
    record {
      groups = g.answers ∷ [];
      bytes = g.bytes;
      done = kept_groups terms text there first group told new none g k.0;
      told = subst Q (sym (append-nil g.answers)) g.told;
      written = subst P g.behind k.1;
    }
kept_goes courses.Over terms text there before after first group told new none sure g k = absurd k
kept_goes (courses.Ends (Stopped Unread)) terms text there before after first group told new none sure g k = absurd k
kept_goes (courses.Ends (Stopped NoMemory)) terms text there before after first group told new none sure g k = absurd k
kept_goes (courses.Ends (Stopped Unwritten)) terms text there before after first group told new none sure g k =
    let old = together first in
    let P : List ℕ → Type 0 = λ u. AppendsFront before after u in
    (old, text, there, before, served_none terms text old before, (g.answers, g.bytes, inr (kept_group terms text there first group told new none g k.0), g.told, subst P g.behind k.1))
kept_goes (courses.Ends (Refused fault)) terms text there before after first group told new none sure g k =
    let old = together first in
    (old, text, served_as terms text text before before after old old old (served_none terms text old before) refl k.1, lost_group fault terms text there first group told new none sure g k.0)

-- what was found after it is done by itself
pub behind_goes : (kept course : Course) (terms : GroupTerms) (found : Option (Result Frame WireFault)) (text there here before between after : Known) (old mid new : Hosted)
    → Goes terms text old kept mid there before between → ServesBehind terms kept found here mid course new between after → FoundFrame found there here
    → Goes terms text old course new here before after
behind_goes courses.On course terms found text there here before between after old mid new g s f =
    goes_then course terms text there here before between after old mid new g (s there f)
behind_goes courses.Over course terms found text there here before between after old mid new g s f =
    let P : Course → Type 0 = λ u. Goes terms text old u new here before after in
    let Q : Hosted → Type 0 = λ h. Goes terms text old courses.Over h here before after in
    let W : Known → Type 0 = λ u. Goes terms text old courses.Over mid here before u in
    subst P (sym s.0) (subst Q (sym s.1) (subst W (sym s.2) g))
behind_goes (courses.Ends stop) course terms found text there here before between after old mid new g s f =
    let P : Course → Type 0 = λ u. Goes terms text old u new here before after in
    let Q : Hosted → Type 0 = λ h. Goes terms text old (courses.Ends stop) h here before after in
    let W : Known → Type 0 = λ u. Goes terms text old (courses.Ends stop) mid here before u in
    subst P (sym s.0) (subst Q (sym s.1) (subst W (sym s.2) g))

pub lost_goes : (stop : StreamStop) (terms : GroupTerms) (text here before : Known) (first group : GroupState) (store : Store) → first.held ≡ no_pieces terms.limits → IsLosing stop → ground group ≡ ground first → store ≡ group.store
    → Goes terms text (together first) (courses.Ends (Stopped stop)) (without_master store) here before before
lost_goes Unread terms text here before first group store none losing same is =
    let old = together first in
    (old, text, served_none terms text old before, inr (ap without_master (is ∙ from_first terms.limits first group none same)))
lost_goes NoMemory terms text here before first group store none losing same is =
    let old = together first in
    (old, text, served_none terms text old before, inr (inr (ap without_master (is ∙ from_first terms.limits first group none same))))
lost_goes Unwritten terms text here before first group store none losing same is = absurd losing

-- ---- what a program hosts

pub behind_on : (kept course : Course) (terms : GroupTerms) (found : Option (Result Frame WireFault)) (before after : Known) (old new : Hosted) → kept ≡ courses.On
    → ((here : Known) → GoesBy terms found here old course new here before after) → (here : Known) → ServesBehind terms kept found here old course new before after
behind_on kept course terms found before after old new is g here =
    let P : Course → Type 0 = λ u. ServesBehind terms u found here old course new before after in
    subst P (sym is) (g here)

pub behind_over : (kept : Course) (terms : GroupTerms) (found : Option (Result Frame WireFault)) (before : Known) (old : Hosted) → kept ≡ courses.Over
    → (here : Known) → ServesBehind terms kept found here old courses.Over old before before
behind_over kept terms found before old is here =
    let P : Course → Type 0 = λ u. ServesBehind terms u found here old courses.Over old before before in
    subst P (sym is) (refl, refl, refl)

pub behind_ends : (kept : Course) (stop : GroupStop) (terms : GroupTerms) (found : Option (Result Frame WireFault)) (before : Known) (old : Hosted) → kept ≡ courses.Ends stop
    → (here : Known) → ServesBehind terms kept found here old (courses.Ends stop) old before before
behind_ends kept stop terms found before old is here =
    let P : Course → Type 0 = λ u. ServesBehind terms u found here old (courses.Ends stop) old before before in
    subst P (sym is) (refl, refl, refl)

pub kept_as : (cell : CellState) (group : GroupState) → (cell.master ≡ group.master) × CommitsEach (all_pieces group.held) group.store cell.store → AreTaken group.held.limits (all_pieces group.held)
    → IsKeptAs group (with_master cell)
kept_as cell group k taken = record { taken = taken; committed = k.1; master = ap Some k.0 }

pub lost_as : (fault : Fault) (group : GroupState) (store : Store) → IsCutShort fault (all_pieces group.held) group.store store → AreTaken group.held.limits (all_pieces group.held) → IsLostAs fault group (without_master store)
lost_as fault group store r taken = record { taken = taken; refused = r; gone = refl }

pub found_some : (found : Option (Result Frame WireFault)) (sent : Result Frame WireFault) (terms : GroupTerms) (here rest before after : Known) (old new : Hosted) (course : Course) → found ≡ Some sent
    → GoesBy terms (Some sent) here old course new rest before after → GoesBy terms found here old course new rest before after
found_some found sent terms here rest before after old new course is g =
    let P : Option (Result Frame WireFault) → Type 0 = λ u. GoesBy terms u here old course new rest before after in
    subst P (sym is) g

pub found_none : (found : Option (Result Frame WireFault)) (terms : GroupTerms) (here rest before after : Known) (old new : Hosted) (course : Course) → found ≡ None
    → GoesBy terms None here old course new rest before after → GoesBy terms found here old course new rest before after
found_none found terms here rest before after old new course is g =
    let P : Option (Result Frame WireFault) → Type 0 = λ u. GoesBy terms u here old course new rest before after in
    subst P (sym is) g

together_of : (limits : GroupLimits) (first : GroupState) (cell : CellState) → first ≡ record { master = cell.master; store = cell.store; held = no_pieces limits } → together first ≡ with_master cell
together_of limits first cell is = ap together is ∙ ap (λ (s : Store). with_master (record { master = cell.master; store = s })) (behind_none cell.store)

pub seat_up : (first : GroupState) (cell : CellState) (seat : Hosted) (found : Option (Result Frame WireFault)) (terms : GroupTerms) (here rest before after : Known) (new : Hosted) (course : Course)
    → first ≡ record { master = cell.master; store = cell.store; held = no_pieces terms.limits } → seat ≡ with_master cell → GoesBy terms found here (together first) course new rest before after
    → GoesBy terms found here seat course new rest before after
seat_up first cell seat found terms here rest before after new course is up g =
    let P : Hosted → Type 0 = λ h. GoesBy terms found here h course new rest before after in
    subst P (together_of terms.limits first cell is ∙ sym up) g

pub seat_as : (old seat : Hosted) (found : Option (Result Frame WireFault)) (terms : GroupTerms) (here rest before after : Known) (new : Hosted) (course : Course) → seat ≡ old
    → GoesBy terms found here old course new rest before after → GoesBy terms found here seat course new rest before after
seat_as old seat found terms here rest before after new course is g =
    let P : Hosted → Type 0 = λ h. GoesBy terms found here h course new rest before after in
    subst P (sym is) g
