-- Frames answered one after the other.
use Rattle.rows_cell.specs.declared.settings.MasterTerms.{MasterTerms}
use Rattle.std.proofs.Common.{◌≡◌, inl, inr, ℕ, List, [], ◌∷◌, ◌++◌, Option, None, Some, Result, Ok, Err, refl, sym, ap, subst, ◌∙◌, append-nil, append_assoc}
use Rattle.std.specs.Io.KnownBytes.{Appends, Keeps}
use Rattle.std.proofs.KnownBytes.{Appends-nil, Appends-trans}
use Rattle.codec.specs.declared.faults.WireFault.{WireFault}
use Rattle.hosting.specs.declared.frames.Frame.{Frame}
use Rattle.hosting.specs.declared.seats.FrameReply.{FrameReply}
use Rattle.hosting.specs.declared.stops.StreamStop.{StreamStop}
use Rattle.hosting.specs.declared.stops.StreamStop.TheVariants.{Unread, Unwritten, NoMemory}
use Rattle.hosting.specs.declared.streams.Turned.{Turned}
use Rattle.hosting.specs.declared.streams.Turned.TheVariants.{On, Over, Stopped}
use Rattle.master_state.specs.State.{MasterState}
use Rattle.hosting.specs.Seats.{Hosted, IsDue}
use Rattle.hosting.specs.Replies.{AreBlocks}
use Rattle.hosting.specs.Streams.{FoundFrame, Answer, answer_told, Done, Turn, Turns, AreAnswers, Served, Ends, TakesTurn, IsWritten, IsTold, DoesFound}

abbrev Known : Type 0
Known = Option (List ℕ)

pub appends_kept : (a b c : Known) (bytes : List ℕ) → Appends a b bytes → Keeps b c → Appends a c bytes
appends_kept None b c bytes p q = tt
appends_kept (Some x) None c bytes p q = absurd p
appends_kept (Some x) (Some y) None bytes p q = absurd q
appends_kept (Some x) (Some y) (Some z) bytes p q = q ∙ p

turns_more : (terms : MasterTerms) (text there rest : Known) (old mid new : Hosted) (answers : List Answer) (answer : Answer) → Turns terms text old answers mid there
    → Turn terms there mid answer new rest → Turns terms text old (answers ++ answer ∷ []) new rest
turns_more terms text there rest old mid new [] answer p t =
    let P : Hosted → Type 0 = λ h. Turn terms there h answer new rest in
    let Q : Known → Type 0 = λ u. Turn terms u old answer new rest in
    (new, rest, subst Q p.1 (subst P p.0 t), (refl, refl))
turns_more terms text there rest old mid new (first ∷ answers) answer p t = (p.0, p.1, p.2, turns_more terms p.1 there rest p.0 mid new answers answer p.3 t)

answers_more : (answers : List Answer) (answer : Answer) (bytes here : List ℕ) → AreAnswers answers bytes → AreBlocks (answer_told answer) here → AreAnswers (answers ++ answer ∷ []) (bytes ++ here)
answers_more [] answer bytes here p b = (here, [], b, refl, ap (λ (u : List ℕ). u ++ here) p ∙ sym (append-nil here))
answers_more (first ∷ answers) answer bytes here p b =
    (p.0, p.1 ++ here, p.2, answers_more answers answer p.1 here p.3 b, ap (λ (u : List ℕ). u ++ here) p.4 ∙ append_assoc p.0 p.1 here)

pub served_none : (terms : MasterTerms) (text : Known) (old : Hosted) (before : Known) → Served terms text old old text before before
served_none terms text old before = record { answers = []; bytes = []; turns = (refl, refl); told = refl; written = Appends-nil before }

pub served_more : (terms : MasterTerms) (text there rest before between after : Known) (old mid new : Hosted) → Served terms text old mid there before between
    → TakesTurn terms there mid On new rest between after → Served terms text old new rest before after
served_more terms text there rest before between after old mid new s t = record {
  answers = s.answers ++ t.0 ∷ [];
  bytes = s.bytes ++ t.1;
  turns = turns_more terms text there rest old mid new s.answers t.0 s.turns t.2;
  told = answers_more s.answers t.0 s.bytes t.1 s.told t.3;
  written = Appends-trans before between after s.bytes t.1 s.written t.4;
}

-- nothing more was written
served_kept : (terms : MasterTerms) (text there before between after : Known) (old mid : Hosted) → Served terms text old mid there before between → after ≡ between
    → Served terms text old mid there before after
served_kept terms text there before between after old mid s e =
    let P : Known → Type 0 = λ u. Served terms text old mid there before u in subst P (sym e) s

served_as : (terms : MasterTerms) (text there before after : Known) (old mid new : Hosted) → Served terms text old mid there before after → new ≡ mid
    → Served terms text old new there before after
served_as terms text there before after old mid new s e =
    let P : Hosted → Type 0 = λ h. Served terms text old h there before after in subst P (sym e) s

pub ends_over : (terms : MasterTerms) (text there rest before between after : Known) (old mid new : Hosted) → Served terms text old mid there before between
    → TakesTurn terms there mid Over new rest between after → Ends terms text old (Ok tt) new before after
ends_over terms text there rest before between after old mid new s t =
    (there, served_as terms text there before after old mid new (served_kept terms text there before between after old mid s t.2) t.1, t.0)

pub ends_stopped : (stop : StreamStop) (terms : MasterTerms) (text there rest before between after : Known) (old mid new : Hosted) → Served terms text old mid there before between
    → TakesTurn terms there mid (Stopped stop) new rest between after → Ends terms text old (Err stop) new before after
ends_stopped Unread terms text there rest before between after old mid new s t =
    (there, served_as terms text there before after old mid new (served_kept terms text there before between after old mid s t.1) t.0)
ends_stopped NoMemory terms text there rest before between after old mid new s t =
    (mid, there, served_kept terms text there before between after old mid s t.1, t.0)
ends_stopped Unwritten terms text there rest before between after old mid new s t =
    (mid, there, rest, between, s, t)

pub ends_roomless : (terms : MasterTerms) (text : Known) (old : Hosted) (before : Known) → Ends terms text old (Err NoMemory) old before before
ends_roomless terms text old before = (old, text, served_none terms text old before, inl refl)

pub ends_late : (terms : MasterTerms) (text rest before after : Known) (old new : Hosted) → Served terms text old new rest before after → Ends terms text old (Err Unread) new before after
ends_late terms text rest before after old new s = (rest, s)

-- ---- one turn

turn_of : (terms : MasterTerms) (text rest : Known) (old new : Hosted) (reply : FrameReply) (deadline : Option ℕ) → Done terms text old reply new rest → IsDue new.master deadline
    → Turn terms text old (record { reply = reply; deadline = deadline }) new rest
turn_of terms text rest old new reply deadline done due = record { done = done; due = due }

pub turn_told : (turned : Turned) (terms : MasterTerms) (text rest before after : Known) (old new : Hosted) (reply : FrameReply) → Done terms text old reply new rest → IsTold turned new.master reply before after
    → TakesTurn terms text old turned new rest before after
turn_told On terms text rest before after old new reply d told =
    (record { reply = reply; deadline = told.0 }, told.2.0, turn_of terms text rest old new reply told.0 d told.1, told.2.1, told.2.2)
turn_told Over terms text rest before after old new reply d told = absurd told
turn_told (Stopped Unread) terms text rest before after old new reply d told = absurd told
turn_told (Stopped NoMemory) terms text rest before after old new reply d told = (inr (reply, rest, d), told)
turn_told (Stopped Unwritten) terms text rest before after old new reply d told =
    (record { reply = reply; deadline = told.0 }, told.2.0, turn_of terms text rest old new reply told.0 d told.1, told.2.1, told.2.2)

-- with a deadline that there is
pub told_due : (turned : Turned) (master : Option MasterState) (reply : FrameReply) (deadline : Option ℕ) (before after : Known) → IsDue master deadline → IsWritten turned reply deadline before after
    → IsTold turned master reply before after
told_due On master reply deadline before after due w = (deadline, due, w)
told_due Over master reply deadline before after due w = absurd w
told_due (Stopped Unread) master reply deadline before after due w = absurd w
told_due (Stopped NoMemory) master reply deadline before after due w = w
told_due (Stopped Unwritten) master reply deadline before after due w = (deadline, due, w)

-- where the seat that was told of is the one that did the frame
pub told_same : (turned : Turned) (done told : Hosted) (reply : FrameReply) (before after : Known) → told ≡ done → IsTold turned done.master reply before after → IsTold turned told.master reply before after
told_same turned done told reply before after e t = let P : Hosted → Type 0 = λ h. IsTold turned h.master reply before after in subst P (sym e) t

-- ---- by what a turn answers

pub served_on : (turned : Turned) (terms : MasterTerms) (text there rest before between after : Known) (old mid new : Hosted) → turned ≡ On → Served terms text old mid there before between
    → TakesTurn terms there mid turned new rest between after → Served terms text old new rest before after
served_on turned terms text there rest before between after old mid new e s t =
    let P : Turned → Type 0 = λ u. TakesTurn terms there mid u new rest between after in
    served_more terms text there rest before between after old mid new s (subst P e t)

pub ends_at : (turned : Turned) (terms : MasterTerms) (text there rest before between after : Known) (old mid new : Hosted) → turned ≡ Over → Served terms text old mid there before between
    → TakesTurn terms there mid turned new rest between after → Ends terms text old (Ok tt) new before after
ends_at turned terms text there rest before between after old mid new e s t =
    let P : Turned → Type 0 = λ u. TakesTurn terms there mid u new rest between after in
    ends_over terms text there rest before between after old mid new s (subst P e t)

pub stops_at : (turned : Turned) (stop : StreamStop) (terms : MasterTerms) (text there rest before between after : Known) (old mid new : Hosted) → turned ≡ Stopped stop
    → Served terms text old mid there before between → TakesTurn terms there mid turned new rest between after → Ends terms text old (Err stop) new before after
stops_at turned stop terms text there rest before between after old mid new e s t =
    let P : Turned → Type 0 = λ u. TakesTurn terms there mid u new rest between after in
    ends_stopped stop terms text there rest before between after old mid new s (subst P e t)

pub found_turn : (found : Option (Result Frame WireFault)) (turned : Turned) (terms : MasterTerms) (text rest before after : Known) (old new : Hosted) → FoundFrame found text rest
    → DoesFound terms found old turned new before after → TakesTurn terms text old turned new rest before after
found_turn None turned terms text rest before after old new f d =
    let P : Turned → Type 0 = λ u. TakesTurn terms text old u new rest before after in
    subst P (sym d.0) (f, d.1, d.2)
found_turn (Some sent) turned terms text rest before after old new f d =
    turn_told turned terms text rest before after old new d.0 (record { sent = sent; next = f; does = d.1 }) d.2

pub stopped_turn : (stop : StreamStop) (terms : MasterTerms) (text rest before : Known) (old : Hosted) → stop ≡ Unread → TakesTurn terms text old (Stopped stop) old rest before before
stopped_turn stop terms text rest before old e =
    let P : StreamStop → Type 0 = λ u. TakesTurn terms text old (Stopped u) old rest before before in
    subst P (sym e) (refl, refl)
