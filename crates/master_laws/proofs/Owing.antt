-- Whatever a client sends, but a Start, what it was asked for comes back.
use Rattle.std.proofs.Common.{◌≡◌, ℕ, ◌+◌, ◌<◌, ◌≤◌, Bool, true, false, cond, Option, Some, None, refl, sym, ap, subst, inl, inr, arith}
use Rattle.std.specs.Prelude.{◌&&◌, ◌||◌, ◌==◌, not, max, nat_le, nat_lt}
use Rattle.std.specs.Option.{option_map_or, option_or}
use Rattle.std.proofs.lemmas.Bool.{and_parts, cases_lt}
use Rattle.std.proofs.lemmas.Bool.Decides.{nat_tests}
use Rattle.tags_cell.specs.declared.messages.beats.Beat.{Beat}
use Rattle.tags_cell.specs.declared.messages.outs.Reply.{Reply}
use Rattle.rights_core.proofs.Unacked.{asked_is_issued}
use Rattle.session_core.specs.declared.records.Mark.{Mark}
use Rattle.session_core.specs.declared.records.Parked.{Parked}
use Rattle.session_core.specs.declared.records.Session.{Session}
use Rattle.session_core.specs.Session.{patience, is_given_up, owes_fail_over, holds_up, mark_at, meets, acknowledging, beaten, prolonged, unparked}
use Rattle.session_core.specs.Sessions.{session_of}
use Rattle.session_core.specs.Laws.{issued_at}
use Rattle.master_state.specs.State.{MasterState}
use Rattle.master_laws.specs.Waits.{asks_to_start, longest_hold, RightsComeBack}
use Rattle.master_laws.proofs.Answerable.{tally_in}
use Rattle.master_laws.proofs.SessionSteps.{IsCarried}
use Rattle.master_laws.proofs.Timely.{IsTimely, answered_is}
use Rattle.master_laws.proofs.Reached.{IsReached, by_steps, reached}
use Rattle.master_laws.proofs.HeldUp.{live_session, later_than}
use Rattle.master_laws.proofs.StartsWait.{turn_starts}
use Rattle.master_laws.proofs.Unstarted.{Unstarted, Always, always_before, unstarted_left, begins_unstarted}
use Rattle.master_laws.proofs.Lasting.{IsLasting, Lasts, lasts}
use Rattle.master_laws.proofs.Marks.{last_of, first_of, IsNear, near_later, near_beaten, near_answered, in_time, first_mark, next_answer, old_answer}

-- it has a mark for what it was asked for by then, or one of before, or none
record IsStaged (lease from number timeout : ℕ) (mark : Mark) : Type 0 where
  before : mark.invalidations < number → (mark.since ≤ from) × (timeout ≤ first_of lease from)
  since : number ≤ mark.invalidations → (mark.since < first_of lease from) × (timeout ≤ last_of lease (first_of lease from))

abbrev Staged : ℕ → ℕ → ℕ → ℕ → Option Mark → Type 0
Staged lease from number timeout None = timeout ≤ first_of lease from
Staged lease from number timeout (Some mark) = IsStaged lease from number timeout mark

record IsOwed (lease from number clock issued timeout : ℕ) (parked : Option Parked) (mark : Option Mark) : Type 0 where
  asked : number ≤ issued
  near : IsNear lease from clock timeout parked
  staged : Staged lease from number timeout mark

-- while the client hasn't acknowledged it
abbrev Owes : ℕ → ℕ → ℕ → ℕ → ℕ → ℕ → Session Reply → Type 0
Owes lease from number client clock q session = q ≡ client → session.invalidations.acknowledged < number → IsOwed lease from number clock session.invalidations.issued session.timeout session.parked session.mark

more_issued : (number issued more : ℕ) → number ≤ issued → number ≤ max issued more
more_issued number issued more h = omega (arith, h)

owes_issued : (lease from number client clock q : ℕ) (o : Option ℕ) (before : Session Reply) → Owes lease from number client clock q before → Owes lease from number client clock q (issued_at o before)
owes_issued lease from number client clock q None before h = h
owes_issued lease from number client clock q (Some more) before h = λ same owing. let was = h same owing in record { asked = more_issued number before.invalidations.issued more was.asked; near = was.near; staged = was.staged }

owes_carried : (lease from number client clock : ℕ) → IsCarried (Owes lease from number client clock)
owes_carried lease from number client clock = record {
  keeps = λ q kept before h. h;
  issues = owes_issued lease from number client clock;
  tells = λ q event before h. h;
}

-- ---- a Beat by which it isn't acknowledged

less_before : (a b number : ℕ) → max a b < number → a < number
less_before a b number h = omega (arith, h)

met_before : (mark acknowledged number : ℕ) (other : Bool) → (nat_le mark acknowledged && other) ≡ true → acknowledged < number → mark < number
met_before mark acknowledged number other h k =
    let t = and_parts (nat_le mark acknowledged) other h in
    let le : nat_le mark acknowledged ≡ true = t.0 in
    grind (arith, nat_tests, le, k)

staged_beaten : (lease from number timeout : ℕ) (session : Session Reply) (o : Option Mark) → session.invalidations.acknowledged < number → Staged lease from number timeout o → Staged lease from number timeout (cond (option_map_or (λ mark. meets mark session) o false) None o)
staged_beaten lease from number timeout session None owing h = h
staged_beaten lease from number timeout session (Some mark) owing h =
    (elim (meets mark session) as (λ b. meets mark session ≡ b → Staged lease from number timeout (cond b None (Some mark))) [
      | true ↦ (λ met. (h.before (met_before mark.invalidations session.invalidations.acknowledged number (not (owes_fail_over session)) met owing)).1)
      | false ↦ (λ unmet. h)
    ]) refl

owes_beaten : (lease from number client clock q : ℕ) (beat : Beat) (before : Session Reply) → Owes lease from number client clock q before → Owes lease from number client clock q (beaten beat clock before)
owes_beaten lease from number client clock q beat before h same owing =
    let was = h same (less_before before.invalidations.acknowledged beat.invalidations number owing) in
    record { asked = was.asked; near = near_beaten lease from clock before.timeout beat.number before.parked was.near; staged = staged_beaten lease from number before.timeout (acknowledging beat clock before) before.mark owing was.staged }

-- ---- an answer

first_soon : (lease from : ℕ) → from + 60002 ≤ first_of lease from
first_soon lease from = omega arith

holds_by : (acknowledged issued number : ℕ) (other : Bool) → acknowledged < number → number ≤ issued → (nat_lt acknowledged issued || other) ≡ true
holds_by acknowledged issued number other h k = let lt : nat_lt acknowledged issued ≡ true = grind (arith, nat_tests, h, k) in rw lt refl

apart : {P : Type 0} (a b : ℕ) → a < b → b ≤ a → P
apart a b h k = absurd (omega (arith, h, k))

staged_answered : (lease from number clock : ℕ) (session : Session Reply) (beat : Parked) (o : Option Mark) → session.mark ≡ o → session.parked ≡ Some beat → clock < session.timeout → is_given_up lease beat session ≡ false → session.invalidations.acknowledged < number → IsOwed lease from number clock session.invalidations.issued session.timeout session.parked o
    → Staged lease from number (max session.timeout (clock + lease)) (option_or o (mark_at clock session))
staged_answered lease from number clock session beat None is is_parked early spared owing h =
    let holds : holds_up session ≡ true = holds_by session.invalidations.acknowledged session.invalidations.issued number (owes_fail_over session) owing h.asked in
    let new : Mark = record { invalidations = session.invalidations.issued; since = clock } in
    let M : Bool → Type 0 = λ b. Staged lease from number (max session.timeout (clock + lease)) (cond b (Some new) None) in
    let marked : IsStaged lease from number (max session.timeout (clock + lease)) new = record {
      before = λ less. apart session.invalidations.issued number less h.asked;
      since = λ asked. first_mark lease (first_of lease from) clock session.timeout early h.staged;
    } in
    subst M (sym holds) marked
staged_answered lease from number clock session beat (Some mark) is is_parked early spared owing h =
    let near = h.near in
    let stage = h.staged in
    let received = near.received beat is_parked in
    let came = in_time lease session beat mark is spared in
    record {
      before = λ less. ((stage.before less).0, old_answer lease from clock session.timeout mark.since beat.received early received (stage.before less).0 came);
      since = λ asked. ((stage.since asked).0, next_answer lease from (first_of lease from) clock session.timeout mark.since beat.received early received (first_soon lease from) (stage.since asked).0 came (stage.since asked).1);
    }

owes_answered : (lease from number client clock q : ℕ) (session : Session Reply) (beat : Parked) → session.parked ≡ Some beat → clock < session.timeout → is_given_up lease beat session ≡ false → Owes lease from number client clock q session → Owes lease from number client clock q (prolonged (clock + lease) (unparked clock session))
owes_answered lease from number client clock q session beat is_parked early spared h same owing =
    let was = h same owing in
    record { asked = was.asked; near = near_answered lease from clock session.timeout session.parked was.near; staged = staged_answered lease from number clock session beat session.mark refl is_parked early spared owing was }

-- ---- over all steps

itself : (a b : ℕ) → a ≡ b → (a == b) ≡ true
itself a b h = grind (arith, nat_tests)

owes_lasts : (lease from number client : ℕ) → IsLasting lease (asks_to_start client) (Owes lease from number client) (Unstarted client) Always
owes_lasts lease from number client = record {
  later = λ a b q session le h same owing. let was = h same owing in record { asked = was.asked; near = near_later lease from a b session.timeout session.parked le was.near; staged = was.staged };
  left = unstarted_left lease client (asks_to_start client) (λ request other. other);
  was = always_before;
  takes = λ s request r other. record { carried = owes_carried lease from number client s.clock; beats = λ beat before is found fits h. owes_beaten lease from number client s.clock beat.client beat before h };
  sweeps = λ s r unstarted always. record {
    carried = owes_carried lease from number client s.clock;
    ends = λ q before h. h;
    answers = λ q session beat due timed h.
        let L : ℕ → Type 0 = λ n. is_given_up n beat session ≡ false in
        let here = owes_answered lease from number client s.clock q session beat due.is_parked timed.early (subst L r.is_lease timed.patient) h in
        let T : ℕ → Type 0 = λ n. Owes lease from number client s.clock q (prolonged (s.clock + n) (unparked s.clock session)) in
        let P : Session Reply → Type 0 = Owes lease from number client s.clock q in
        subst P (sym (answered_is s.sessions.lease s.clock session beat due.is_parked)) (subst T (sym r.is_lease) here);
    prolongs = λ front back asked principal received session turn work found h same.
        let other = turn_starts client s front back asked principal received turn work unstarted in
        let at = itself asked.client client same in
        absurd (cc);
    begins = λ front back asked principal received turn work none same.
        let other = turn_starts client s front back asked principal received turn work unstarted in
        let at = itself asked.client client same in
        absurd (cc);
  };
}

-- ---- where it begins

at_first : (lease from timeout : ℕ) → timeout ≤ from + 60002 → timeout ≤ first_of lease from
at_first lease from timeout h = omega (arith, h)

at_last : (lease from timeout : ℕ) → timeout ≤ from + 60002 → timeout ≤ last_of lease (first_of lease from)
at_last lease from timeout h = omega (arith, h)

within : (lease from since : ℕ) → since ≤ from → since < first_of lease from
within lease from since h = omega (arith, h)

near_at : (a b c d : ℕ) → a ≤ b + 60002 → a ≤ max (b + 60002) (c + d)
near_at a b c d h = omega (arith, h)

staged_at : (lease number clock : ℕ) (session : Session Reply) (o : Option Mark) → session.mark ≡ o → IsTimely clock 0 session → Staged lease clock number session.timeout o
staged_at lease number clock session None is h = at_first lease clock session.timeout h.timeout
staged_at lease number clock session (Some mark) is h = record {
  before = λ less. (h.marked mark is, at_first lease clock session.timeout h.timeout);
  since = λ asked. (within lease clock mark.since (h.marked mark is), at_last lease clock session.timeout h.timeout);
}

of_any : (clock client : ℕ) (session : Session Reply) → IsTimely clock client session → IsTimely clock 0 session
of_any clock client session h = record { timeout = h.timeout; marked = h.marked; received = h.received }

owed_at : (lease number clock client : ℕ) (session : Session Reply) → number ≤ session.invalidations.issued → IsTimely clock client session → IsOwed lease clock number clock session.invalidations.issued session.timeout session.parked session.mark
owed_at lease number clock client session asked h = record {
  asked = asked;
  near = record { near = near_at session.timeout clock clock lease h.timeout; received = λ beat is. near_at session.timeout clock beat.received lease h.timeout };
  staged = staged_at lease number clock session session.mark refl (of_any clock client session h);
}

-- ---- and where it ends

staged_ends : (lease from number timeout : ℕ) (o : Option Mark) → Staged lease from number timeout o → timeout ≤ last_of lease (first_of lease from)
staged_ends lease from number timeout None h = more timeout (first_of lease from) (patience lease) lease h
  where
    more : (a b c d : ℕ) → a ≤ b → a ≤ b + c + d + d
    more a b c d h = omega (arith, h)
staged_ends lease from number timeout (Some mark) h = elim (cases_lt mark.invalidations number) [
  | inl less ↦ more timeout (first_of lease from) (patience lease) lease (h.before less).1
  | inr asked ↦ (h.since asked).1
]
  where
    more : (a b c d : ℕ) → a ≤ b → a ≤ b + c + d + d
    more a b c d h = omega (arith, h)

in_all : (now timeout from lease : ℕ) → now < timeout → timeout ≤ last_of lease (first_of lease from) → now < from + longest_hold lease
in_all now timeout from lease h k = omega (arith, h, k)

pub rights_come_back : RightsComeBack
rights_come_back lease up client now number s new steps session name g found asked held quiet =
    let here = reached lease up g.before s g.came in
    let all = by_steps lease s steps g.of_clients here in
    let there : IsReached lease new = subst (IsReached lease) (sym g.is) all in
    let E : ℕ → Session Reply → Type 0 = λ q x. session_of s.sessions q ≡ Some x in
    let P : Session Reply → Type 0 = λ x. IsOwed lease s.clock number s.clock x.invalidations.issued x.timeout x.parked x.mark in
    let first : P session = owed_at lease number s.clock client session asked (here.timely client session found) in
    let T : MasterState → Type 0 = Lasts lease (Owes lease s.clock number client) (Unstarted client) Always in
    let lasting : T new = subst T (sym g.is) (lasts lease (asks_to_start client) (Owes lease s.clock number client) (Unstarted client) Always (owes_lasts lease s.clock number client) s steps g.of_clients g.without (record {
      reached = here;
      left = begins_unstarted lease client g.from s here g.quiet;
      each = λ always q x is same owing. let own : E client x = subst (λ n. E n x) same is in let one : session ≡ x = cc in subst P one first;
    })) in
    let live = live_session (session_of new.sessions client) (there.answerable.live client name (asked_is_issued client number name new.rights there.kept.recorded held).0) in
    let owing = there.answerable.unacked client name number live.0.invalidations held (ap tally_in live.1) in
    let last = lasting.each tt client live.0 live.1 refl owing in
    in_all now live.0.timeout s.clock lease (later_than lease now new there quiet client live.0 live.1 live.2) (staged_ends lease s.clock number live.0.timeout live.0.mark last.staged)
