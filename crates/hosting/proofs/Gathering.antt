-- Frames that are done in a group, one after the other.
use Rattle.std.proofs.Common.{◌≡◌, ◌≤◌, ◌<◌, ◌+◌, ℕ, arith, List, [], ◌∷◌, ◌++◌, length, length-append, Option, None, Some, Result, Ok, refl, sym, ap, subst, ◌∙◌, append-nil, append_assoc}
use Rattle.codec.specs.declared.faults.WireFault.{WireFault}
use Rattle.master_state.specs.State.{MasterState}
use Rattle.hosting.specs.Held.{GroupState, ground, seen}
use Rattle.hosting.specs.Pieces.{no_pieces}
use Rattle.hosting.specs.declared.pieces.GroupTerms.{GroupTerms}
use Rattle.tags_cell.specs.declared.messages.requests.Request.{Request}
use Rattle.hosting.specs.declared.frames.Frame.{Frame}
use Rattle.hosting.specs.declared.frames.Frame.TheVariants as frames
use Rattle.hosting.specs.declared.answers.Answered.{Answered}
use Rattle.hosting.specs.declared.settling.Settled.{Settled}
use Rattle.hosting.specs.declared.seats.FrameReply.{FrameReply}
use Rattle.hosting.specs.declared.seats.FrameReply.TheVariants as replies
use Rattle.hosting.specs.Serving.{Answers, Settles}
use Rattle.hosting.specs.declared.stops.StreamStop.{StreamStop}
use Rattle.hosting.specs.declared.gathers.Behind.{Behind}
use Rattle.hosting.specs.declared.gathers.Behind.TheVariants as behinds
use Rattle.hosting.specs.declared.gathers.Onward.{Onward}
use Rattle.hosting.specs.declared.gathers.Onward.TheVariants as onwards
use Rattle.hosting.specs.declared.gathers.Tried.{Tried}
use Rattle.hosting.specs.declared.gathers.Tried.TheVariants as tries
use Rattle.hosting.specs.Streams.{FrameIs, Answer, Turns}
use Rattle.rows_cell.specs.declared.tables.Edit.{Edit}
use Rattle.over_core.specs.Sweep.{IsSettled}
use Rattle.hosting.specs.Parted.{StandsSo, store_with, PartsSweeps, PartsAnswer, PartsFrames}
use Rattle.hosting.proofs.PartedLaws.{full_then, full_as, store_of, frames_none, frames_one}
use Rattle.hosting.specs.Groups.{group_limit, IsOfGroup, AreOfGroup, together, HeldTurn, DoesHeld, PutsTold, PutsReply, Tries, StandsBehind, NextThere, Gathered, Gathers, GathersOn, GathersBy, GathersOnBy, Goes, GoesBy, Keeps, ServesBehind}
use Rattle.rows_cell.specs.declared.settings.MasterTerms.{MasterTerms}
use Rattle.rows_cell.specs.Stores.{Store}
use Rattle.hosting.specs.declared.stops.GroupStop.TheVariants.{Stopped}
use Rattle.hosting.specs.declared.groups.Course.{Course}
use Rattle.hosting.specs.declared.groups.Course.TheVariants as courses
use Rattle.hosting.specs.Seats.{Hosted, with_master, without_master, IsDue}
use Rattle.hosting.proofs.Grouped.{turns_behind, answers_behind, kept_goes, behind_goes, lost_goes}

abbrev Known : Type 0
Known = Option (List ℕ)

-- from the first frames on
stands_behind : (terms : MasterTerms) (text there : Known) (old mid : Hosted) (front : List Answer) (store : Store) → Turns terms text old front mid there → StandsSo terms there mid store → StandsSo terms text old store
stands_behind terms text there old mid front store turns s = record {
  cell = s.cell;
  answers = front ++ s.answers;
  rest = s.rest;
  turns = turns_behind terms text there s.rest old mid (with_master s.cell) front s.answers turns s.turns;
  so = s.so;
}

parts_then : (terms : MasterTerms) (text there : Known) (old mid new : GroupState) (front : List Answer) → Turns terms text (together old) front (together mid) there → ground mid ≡ ground old → PartsFrames terms text old mid
    → PartsFrames terms there mid new → PartsFrames terms text old new
parts_then terms text there old mid new front turns same one two =
    let Holds : List (List Edit) → Type 0 = λ full. StandsSo terms text (together old) (store_with old.store full) in
    let Later : List (List Edit) → Type 0 = λ full. StandsSo terms there (together mid) (store_with mid.store full) in
    full_then Holds old.held mid.held new.held one
    (full_as Later Holds (λ full s. stands_behind terms text there (together old) (together mid) front (store_with old.store full) turns
    (subst (λ (u : Store). StandsSo terms there (together mid) (store_with u full)) (store_of old mid same) s)) mid.held new.held two)

none_few : 0 ≤ 0
none_few = omega (arith)

-- so many at most, then so many more
few_then : (front back : List Answer) (most more : ℕ) → length front ≤ most → length back ≤ more → length (front ++ back) ≤ most + more
few_then front back most more f b = subst (λ (n : ℕ). n ≤ most + more) (sym (length-append front back)) (sum_few (length front) (length back) most more f b)
  where
    sum_few : (a b m n : ℕ) → a ≤ m → b ≤ n → a + b ≤ m + n
    sum_few a b m n f g = omega (arith, f, g)

of_group_then : (front back : List Answer) → AreOfGroup front → AreOfGroup back → AreOfGroup (front ++ back)
of_group_then [] back f b = b
of_group_then (answer ∷ front) back f b = (f.0, of_group_then front back f.1 b)

gathered_none : (terms : MasterTerms) (text : Known) (group : GroupState) (told : List ℕ) → Gathered 0 terms text group group text told told
gathered_none terms text group told = record { answers = []; bytes = []; turns = (refl, refl); few = none_few; kinds = tt; told = refl; behind = sym (append-nil told); store = refl; parted = frames_none terms text group }

gathered_then : (most more : ℕ) (terms : MasterTerms) (text there rest : Known) (old mid new : GroupState) (before between after : List ℕ) → Gathered most terms text old mid there before between
    → Gathered more terms there mid new rest between after → Gathered (most + more) terms text old new rest before after
gathered_then most more terms text there rest old mid new before between after g h = record {
  answers = g.answers ++ h.answers;
  bytes = g.bytes ++ h.bytes;
  turns = turns_behind terms text there rest (together old) (together mid) (together new) g.answers h.answers g.turns h.turns;
  few = few_then g.answers h.answers most more g.few h.few;
  kinds = of_group_then g.answers h.answers g.kinds h.kinds;
  told = answers_behind g.answers h.answers g.bytes h.bytes g.told h.told;
  behind = h.behind ∙ ap (λ (u : List ℕ). u ++ h.bytes) g.behind ∙ append_assoc before g.bytes h.bytes;
  store = h.store ∙ g.store;
  parted = parts_then terms text there old mid new g.answers g.turns g.store g.parted h.parted;
}

-- ---- one frame

one_few : 1 ≤ 1
one_few = omega (arith)

-- fewer than so many
gathered_few : (most more : ℕ) (terms : MasterTerms) (text rest : Known) (old new : GroupState) (before after : List ℕ) → most ≤ more → Gathered most terms text old new rest before after
    → Gathered more terms text old new rest before after
gathered_few most more terms text rest old new before after order g = record {
  answers = g.answers;
  bytes = g.bytes;
  turns = g.turns;
  few = less (length g.answers) most more g.few order;
  kinds = g.kinds;
  told = g.told;
  behind = g.behind;
  store = g.store;
  parted = g.parted;
}
  where
    less : (a m n : ℕ) → a ≤ m → m ≤ n → a ≤ n
    less a m n f g = omega (arith, f, g)

gathered_one : (terms : MasterTerms) (sent : Result Frame WireFault) (text here : Known) (old new : GroupState) (before after : List ℕ) → FrameIs text sent here → HeldTurn sent old new before after
    → Gathered 1 terms text old new here before after
gathered_one terms sent text here old new before after f h = record {
  answers = h.answer ∷ [];
  bytes = h.bytes;
  turns = (together new, here, record { done = record { sent = sent; next = f; does = h.does terms }; due = h.due }, (refl, refl));
  few = one_few;
  kinds = (h.kind, tt);
  told = (h.bytes, [], h.blocks, refl, sym (append-nil h.bytes));
  behind = h.told;
  store = h.store;
  parted = frames_one terms sent text here old new f h.parted;
}

-- what stands after what was done
gathers_to : (most : ℕ) (behind : Behind) (terms : MasterTerms) (text there rest : Known) (old new : GroupState) (before after : List ℕ) → Gathered most terms text old new there before after → StandsBehind behind there rest
    → Gathers most terms text old behind new rest before after
gathers_to most behinds.Nothing terms text there rest old new before after g s = (there, g, s)
gathers_to most (behinds.Found found) terms text there rest old new before after g s = (there, g, s)
gathers_to most (behinds.Lost stop) terms text there rest old new before after g s = (s, g.store)

pub done_on : (onward : Onward) (tried : Tried) (sent : Result Frame WireFault) (here rest : Known) (old new : GroupState) (before after : List ℕ) → tried ≡ tries.Done
    → Tries sent old tried new before after → NextThere onward here rest → GathersOnBy 1 sent here old onward new rest before after
done_on onward tried sent here rest old new before after is t n terms text f =
    let P : Tried → Type 0 = λ u. Tries sent old u new before after in
    by_next onward (gathered_one terms sent text here old new before after f (subst P is t)) n
  where
    by_next : (onward : Onward) → Gathered 1 terms text old new here before after → NextThere onward here rest → GathersOn 1 terms text old onward new rest before after
    by_next (onwards.Next next) g n = (here, g, n)
    by_next (onwards.Ends behind) g n = gathers_to 1 behind terms text here rest old new before after g n

none_one : 0 ≤ 1
none_one = omega (arith)

pub alone_on : (tried : Tried) (sent : Result Frame WireFault) (here : Known) (old new : GroupState) (before after : List ℕ) → tried ≡ tries.Alone → Tries sent old tried new before after
    → GathersOnBy 1 sent here old (onwards.Ends (behinds.Found (Some sent))) new here before after
alone_on tried sent here old new before after is t terms text f =
    let P : Tried → Type 0 = λ u. Tries sent old u new before after in
    let same = subst P is t in
    let Q : GroupState → Type 0 = λ g. Gathered 1 terms text old g text before after in
    let W : List ℕ → Type 0 = λ u. Gathered 1 terms text old old text before u in
    (text, subst Q (sym same.0) (subst W (sym same.1) (gathered_few 0 1 terms text text old old before before none_one (gathered_none terms text old before))), f)

pub stopped_on : (tried : Tried) (stop : StreamStop) (sent : Result Frame WireFault) (here : Known) (old new : GroupState) (before after : List ℕ) → tried ≡ tries.Stopped stop → Tries sent old tried new before after
    → GathersOnBy 1 sent here old (onwards.Ends (behinds.Lost stop)) new here before after
stopped_on tried stop sent here old new before after is t terms text f =
    let P : Tried → Type 0 = λ u. Tries sent old u new before after in
    subst P is t

-- ---- many

-- what a group did so far, from its first frame on, so many frames at most, and the next frame
abbrev pub SoFar : ℕ → Result Frame WireFault → Known → GroupState → Result Frame WireFault → GroupState → Known → List ℕ → List ℕ → Type 0
SoFar most begun here old sent new rest before after = GathersOnBy most begun here old (onwards.Next sent) new rest before after

none_many : 0 ≤ 256
none_many = omega (arith)

pub so_far_none : (begun : Result Frame WireFault) (here : Known) (group : GroupState) (told : List ℕ) → (0 ≤ 256) × SoFar 0 begun here group begun group here told told
so_far_none begun here group told = (none_many, λ terms text f. (text, gathered_none terms text group told, f))

one_more : (count : ℕ) → count < 256 → count + 1 ≤ 256
one_more count less = omega (arith, less)

pub so_far_on : (count : ℕ) (onward : Onward) (begun sent next : Result Frame WireFault) (here there rest : Known) (old mid new : GroupState) (before between after : List ℕ) → count < 256 → onward ≡ onwards.Next next
    → (count ≤ 256) × SoFar count begun here old sent mid there before between → GathersOnBy 1 sent there mid onward new rest between after
    → (count + 1 ≤ 256) × SoFar (count + 1) begun here old next new rest before after
so_far_on count onward begun sent next here there rest old mid new before between after less is s g = (
  one_more count less,
  λ terms text f.
      let P : Onward → Type 0 = λ u. GathersOnBy 1 sent there mid u new rest between after in
      let front = s.1 terms text f in
      let back = subst P is g terms front.0 front.2 in
      (back.0, gathered_then count 1 terms text front.0 back.0 old mid new before between after front.1 back.1, back.2),
)

then_gathers : (most : ℕ) (behind : Behind) (terms : MasterTerms) (text there rest : Known) (old mid new : GroupState) (before between after : List ℕ) → Gathered most terms text old mid there before between
    → Gathers 1 terms there mid behind new rest between after → Gathers (most + 1) terms text old behind new rest before after
then_gathers most behinds.Nothing terms text there rest old mid new before between after g h =
    (h.0, gathered_then most 1 terms text there h.0 old mid new before between after g h.1, h.2)
then_gathers most (behinds.Found found) terms text there rest old mid new before between after g h =
    (h.0, gathered_then most 1 terms text there h.0 old mid new before between after g h.1, h.2)
then_gathers most (behinds.Lost stop) terms text there rest old mid new before between after g h = (h.0, h.1 ∙ g.store)

-- a group has so many frames at most
gathers_few : (most : ℕ) (behind : Behind) (terms : MasterTerms) (text rest : Known) (old new : GroupState) (before after : List ℕ) → most ≤ group_limit → Gathers most terms text old behind new rest before after
    → Gathers group_limit terms text old behind new rest before after
gathers_few most behinds.Nothing terms text rest old new before after order g = (g.0, gathered_few most group_limit terms text g.0 old new before after order g.1, g.2)
gathers_few most (behinds.Found found) terms text rest old new before after order g = (g.0, gathered_few most group_limit terms text g.0 old new before after order g.1, g.2)
gathers_few most (behinds.Lost stop) terms text rest old new before after order g = g

pub so_far_ends : (count : ℕ) (onward : Onward) (behind : Behind) (begun sent : Result Frame WireFault) (here there rest : Known) (old mid new : GroupState) (before between after : List ℕ) → count < 256
    → onward ≡ onwards.Ends behind → (count ≤ 256) × SoFar count begun here old sent mid there before between → GathersOnBy 1 sent there mid onward new rest between after
    → GathersBy group_limit begun here old behind new rest before after
so_far_ends count onward behind begun sent here there rest old mid new before between after less is s g terms text f =
    let P : Onward → Type 0 = λ u. GathersOnBy 1 sent there mid u new rest between after in
    let front = s.1 terms text f in
    gathers_few (count + 1) behind terms text rest old new before after (one_more count less)
    (then_gathers count behind terms text front.0 rest old mid new before between after front.1 (subst P is g terms front.0 front.2))

pub so_far_full : (count : ℕ) (begun sent : Result Frame WireFault) (here rest : Known) (old new : GroupState) (before after : List ℕ) → (count ≤ 256) × SoFar count begun here old sent new rest before after
    → GathersBy group_limit begun here old (behinds.Found (Some sent)) new rest before after
so_far_full count begun sent here rest old new before after s terms text f =
    let whole = s.1 terms text f in
    (whole.0, gathered_few count group_limit terms text whole.0 old new before after s.0 whole.1, whole.2)

-- ---- what a frame does in a group

pub does_message : (frame : Frame) (now : ℕ) (message : Request) (answered : Answered) (old new : GroupState) → frame ≡ frames.Message now message
    → Answers now message (seen old) answered (seen new) → ground new ≡ ground old → PartsAnswer now message old new → DoesHeld (Ok frame) old (Some (replies.Answered answered)) new
does_message frame now message answered old new is answers store parted =
    let P : Frame → Type 0 = λ f. DoesHeld (Ok f) old (Some (replies.Answered answered)) new in
    subst P (sym is) ((λ terms. (seen new, answers, refl)), store, parted, tt)

pub does_tick : (frame : Frame) (now : ℕ) (settled : Settled) (old new : GroupState) → frame ≡ frames.Tick now
    → Settles now (seen old) settled (seen new) → ground new ≡ ground old → PartsSweeps now old new → DoesHeld (Ok frame) old (Some (replies.Swept settled)) new
does_tick frame now settled old new is settles store parted =
    let P : Frame → Type 0 = λ f. DoesHeld (Ok f) old (Some (replies.Swept settled)) new in
    subst P (sym is) ((λ terms. (seen new, settles, refl)), store, parted, tt)

pub does_sent : (sent : Result Frame WireFault) (frame : Frame) (done : Option FrameReply) (old new : GroupState) → sent ≡ Ok frame → DoesHeld (Ok frame) old done new → DoesHeld sent old done new
does_sent sent frame done old new is does =
    let P : Result Frame WireFault → Type 0 = λ u. DoesHeld u old done new in
    subst P (sym is) does

-- ---- what is told of a frame

pub tries_by : (tried : Tried) (sent : Result Frame WireFault) (old mid new : GroupState) (reply : FrameReply) (before after : List ℕ) → DoesHeld sent old (Some reply) mid
    → PutsReply tried mid.master reply before after → new ≡ mid → Tries sent old tried new before after
tries_by tries.Done sent old mid new reply before after d p same =
    let P : GroupState → Type 0 = λ g. HeldTurn sent old g before after in
    subst P (sym same) (record {
      answer = record { reply = reply; deadline = p.0 };
      bytes = p.2.0;
      does = d.0;
      due = p.1;
      blocks = p.2.1;
      told = p.2.2;
      store = d.1;
      parted = d.2;
      kind = d.3;
    })
tries_by tries.Alone sent old mid new reply before after d p same = absurd p
tries_by (tries.Stopped stop) sent old mid new reply before after d p same = (p, ap ground same ∙ d.1)

pub tries_some : (done : Option FrameReply) (tried : Tried) (sent : Result Frame WireFault) (old mid new : GroupState) (reply : FrameReply) (before after : List ℕ) → done ≡ Some reply → DoesHeld sent old done mid
    → PutsReply tried mid.master reply before after → new ≡ mid → Tries sent old tried new before after
tries_some done tried sent old mid new reply before after is d p same =
    let P : Option FrameReply → Type 0 = λ u. DoesHeld sent old u mid in
    tries_by tried sent old mid new reply before after (subst P is d) p same

pub tries_none : (done : Option FrameReply) (sent : Result Frame WireFault) (old new : GroupState) (before : List ℕ) → done ≡ None → DoesHeld sent old done new → Tries sent old tries.Alone new before before
tries_none done sent old new before is d =
    let P : Option FrameReply → Type 0 = λ u. DoesHeld sent old u new in
    (subst P is d, refl)

pub puts_by : (tried : Tried) (master : MasterState) (reply : FrameReply) (deadline : Option ℕ) (before after : List ℕ) → IsDue (Some master) deadline → PutsTold tried reply deadline before after
    → PutsReply tried master reply before after
puts_by tries.Done master reply deadline before after due p = (deadline, due, p)
puts_by tries.Alone master reply deadline before after due p = absurd p
puts_by (tries.Stopped stop) master reply deadline before after due p = p

-- ---- the group as a whole

from_none : (t0 t1 : List ℕ) (begun : Result Frame WireFault) (here rest : Known) (first group : GroupState) (behind : Behind) → t0 ≡ [] → GathersBy group_limit begun here first behind group rest t0 t1
    → GathersBy group_limit begun here first behind group rest [] t1
from_none t0 t1 begun here rest first group behind empty g =
    let P : List ℕ → Type 0 = λ u. GathersBy group_limit begun here first behind group rest u t1 in
    subst P empty g

pub together_nothing : (behind : Behind) (course : Course) (terms : GroupTerms) (begun : Result Frame WireFault) (here rest before after : Known) (first group : GroupState) (t0 told slice : List ℕ) (new : Hosted)
    → behind ≡ behinds.Nothing → t0 ≡ [] → slice ≡ told → first.held ≡ no_pieces terms.limits → IsSettled first.store → GathersBy group_limit begun here first behind group rest t0 told → Keeps group slice course new before after
    → GoesBy terms (Some begun) here (together first) course new rest before after
together_nothing behind course terms begun here rest before after first group t0 told slice new is empty same none sure g k text f =
    let P : Behind → Type 0 = λ u. GathersBy group_limit begun here first u group rest [] told in
    let done = subst P is (from_none t0 told begun here rest first group behind empty g) terms.master text f in
    let Q : List ℕ → Type 0 = λ u. Keeps group u course new before after in
    let W : Known → Type 0 = λ u. Goes terms text (together first) course new u before after in
    subst W (sym done.2) (kept_goes course terms text done.0 before after first group told new none sure done.1 (subst Q same k))

pub together_found : (behind : Behind) (found : Option (Result Frame WireFault)) (kept course : Course) (terms : GroupTerms) (begun : Result Frame WireFault) (here rest before between after : Known)
    (first group : GroupState) (t0 told slice : List ℕ) (mid new : Hosted) → behind ≡ behinds.Found found → t0 ≡ [] → slice ≡ told → first.held ≡ no_pieces terms.limits → IsSettled first.store
    → GathersBy group_limit begun here first behind group rest t0 told → Keeps group slice kept mid before between
    → ((there : Known) → ServesBehind terms kept found there mid course new between after) → GoesBy terms (Some begun) here (together first) course new rest before after
together_found behind found kept course terms begun here rest before between after first group t0 told slice mid new is empty same none sure g k s text f =
    let P : Behind → Type 0 = λ u. GathersBy group_limit begun here first u group rest [] told in
    let done = subst P is (from_none t0 told begun here rest first group behind empty g) terms.master text f in
    let Q : List ℕ → Type 0 = λ u. Keeps group u kept mid before between in
    behind_goes kept course terms found text done.0 rest before between after (together first) mid new
    (kept_goes kept terms text done.0 before between first group told mid none sure done.1 (subst Q same k)) (s rest) done.2

pub together_lost : (behind : Behind) (stop : StreamStop) (terms : GroupTerms) (begun : Result Frame WireFault) (here rest before : Known) (first group : GroupState) (t0 told : List ℕ) (store : Store)
    → behind ≡ behinds.Lost stop → first.held ≡ no_pieces terms.limits → GathersBy group_limit begun here first behind group rest t0 told → store ≡ group.store
    → GoesBy terms (Some begun) here (together first) (courses.Ends (Stopped stop)) (without_master store) rest before before
together_lost behind stop terms begun here rest before first group t0 told store is none g kept text f =
    let P : Behind → Type 0 = λ u. GathersBy group_limit begun here first u group rest t0 told in
    let done = subst P is g terms.master text f in
    lost_goes stop terms text rest before first group store none done.0 done.1 kept
