-- A session of which nothing is heard ends in time.
use Rattle.std.proofs.Common.{◌≡◌, ℕ, ◌+◌, ◌<◌, ◌≤◌, List, Bool, true, false, cond, Option, Some, None, refl, sym, ap, subst, ◌∙◌, arith}
use Rattle.std.specs.Prelude.{◌==◌, max, is_some}
use Rattle.std.proofs.lemmas.Bool.Decides.{nat_tests}
use Rattle.lease_core.specs.Lease.{recovery_timeout}
use Rattle.tags_cell.specs.declared.messages.beats.Beat.{Beat}
use Rattle.tags_cell.specs.declared.messages.outs.Reply.{Reply}
use Rattle.tags_cell.specs.declared.messages.requests.Request.{Request}
use Rattle.tags_cell.specs.declared.messages.requests.Request.TheVariants as requests
use Rattle.rights_core.specs.Rights.{holds}
use Rattle.session_core.specs.declared.records.Session.{Session}
use Rattle.session_core.specs.Session.{prolonged, unparked}
use Rattle.session_core.specs.Sessions.{session_of}
use Rattle.session_core.specs.Laws.{issued_at}
use Rattle.master_state.specs.State.{MasterState}
use Rattle.over_core.specs.Deadlines.{quiet_at}
use Rattle.master_laws.specs.Waits.{is_by, asks_to_start, lives_until, GoesOnWithout, SilentSessionsEnd, SilentClientsHoldNothing}
use Rattle.master_laws.proofs.Reached.{IsReached, by_steps, reached}
use Rattle.master_laws.specs.Closed.{MasterStep}
use Rattle.master_laws.proofs.SessionSteps.{IsCarried}
use Rattle.master_laws.proofs.Unstarted.{Unstarted, Always, always_before, unstarted_left, begins_unstarted}
use Rattle.master_laws.proofs.StartsWait.{turn_starts}
use Rattle.master_laws.proofs.HeldUp.{live_session, later_than}
use Rattle.master_laws.proofs.Timely.{answered_is}
use Rattle.master_laws.proofs.Lasting.{IsLasting, Lasts, lasts}

-- it ends by this moment, also where its Beat is answered
pub record EndsBy (bound lease : ℕ) (session : Session Reply) : Type 0 where
  pub timeout : session.timeout ≤ bound
  pub answered : is_some session.parked ≡ true → session.timeout + lease ≤ bound

abbrev Bounded : ℕ → ℕ → ℕ → ℕ → ℕ → Session Reply → Type 0
Bounded bound lease client clock q session = q ≡ client → EndsBy bound lease session

bounded_issued : (bound lease client clock q : ℕ) (o : Option ℕ) (before : Session Reply) → Bounded bound lease client clock q before → Bounded bound lease client clock q (issued_at o before)
bounded_issued bound lease client clock q None before h = h
bounded_issued bound lease client clock q (Some number) before h = λ same. record { timeout = (h same).timeout; answered = (h same).answered }

bounded_carried : (bound lease client clock : ℕ) → IsCarried (Bounded bound lease client clock)
bounded_carried bound lease client clock = record {
  keeps = λ q kept before h same. record { timeout = (h same).timeout; answered = (h same).answered };
  issues = bounded_issued bound lease client clock;
  tells = λ q event before h same. record { timeout = (h same).timeout; answered = (h same).answered };
}

itself : (a b : ℕ) → a ≡ b → (a == b) ≡ true
itself a b h = grind (arith, nat_tests)

answer_in : (timeout clock lease given bound : ℕ) → clock < timeout → lease ≡ given → timeout + given ≤ bound → max timeout (clock + lease) ≤ bound
answer_in timeout clock lease given bound h k l = omega (arith, h, k, l)

silent_starts : (client : ℕ) (request : Request) → is_by client request ≡ false → asks_to_start client request ≡ false
silent_starts client (requests.Start start) h = h
silent_starts client (requests.Beat beat) h = refl
silent_starts client (requests.Call message) h = refl

silent_beat : (client : ℕ) (request : Request) (beat : Beat) → request ≡ requests.Beat beat → is_by client request ≡ false → (beat.client == client) ≡ false
silent_beat client request beat is h = ap (is_by client) (sym is) ∙ h

bounded_lasts : (bound lease client : ℕ) → IsLasting lease (is_by client) (Bounded bound lease client) (Unstarted client) Always
bounded_lasts bound lease client = record {
  later = λ from to q session le h. h;
  left = unstarted_left lease client (is_by client) (silent_starts client);
  was = always_before;
  takes = λ s request r other. record {
    carried = bounded_carried bound lease client s.clock;
    beats = λ beat before is found fits h same. let apart = silent_beat client request beat is other in let at = itself beat.client client same in absurd (cc);
  };
  sweeps = λ s r unstarted always. record {
    carried = bounded_carried bound lease client s.clock;
    ends = λ q before h same. record { timeout = (h same).timeout; answered = (h same).answered };
    answers = λ q session beat due timed h same.
        let before = h same in
        let some : is_some session.parked ≡ true = ap is_some due.is_parked in
        let after : EndsBy bound lease (prolonged (s.clock + s.sessions.lease) (unparked s.clock session)) = record {
          timeout = answer_in session.timeout s.clock s.sessions.lease lease bound timed.early r.is_lease (before.answered some);
          answered = λ is. absurd (cc);
        } in
        subst (EndsBy bound lease) (sym (answered_is s.sessions.lease s.clock session beat due.is_parked)) after;
    prolongs = λ front back asked principal received session turn work found h same.
        let apart = turn_starts client s front back asked principal received turn work unstarted in
        let at = itself asked.client client same in
        absurd (cc);
    begins = λ front back asked principal received turn work none same.
        let apart = turn_starts client s front back asked principal received turn work unstarted in
        let at = itself asked.client client same in
        absurd (cc);
  };
}

covers : (b : Bool) (timeout lease : ℕ) → timeout ≤ cond b (timeout + lease) timeout
covers true timeout lease = omega arith
covers false timeout lease = omega arith

covered : (b : Bool) (timeout lease : ℕ) → b ≡ true → timeout + lease ≤ cond b (timeout + lease) timeout
covered true timeout lease h = omega arith
covered false timeout lease h = absurd (cc)

at_most : (b : Bool) (timeout lease clock : ℕ) → timeout ≤ clock + 60002 → cond b (timeout + lease) timeout ≤ clock + 60002 + lease
at_most true timeout lease clock h = omega (arith, h)
at_most false timeout lease clock h = omega (arith, h)

over : {P : Type 0} (timeout bound limit now : ℕ) → now < timeout → timeout ≤ bound → bound ≤ limit → limit ≤ now → P
over timeout bound limit now h k l m = absurd (omega (arith, h, k, l, m))

nothing_until : (limit : ℕ) → 0 ≤ limit
nothing_until limit = omega arith

false_of : (b : Bool) → (b ≡ true → ⊥) → b ≡ false
false_of true h = absurd (h refl)
false_of false h = refl

module _ (lease up client : ℕ) (s new : MasterState) (steps : List MasterStep) (g : GoesOnWithout (is_by client) lease up s steps new) where
  here : IsReached lease s
  here = reached lease up g.before s g.came

  bounded : (bound : ℕ) → ((session : Session Reply) → session_of s.sessions client ≡ Some session → EndsBy bound lease session) → Lasts lease (Bounded bound lease client) (Unstarted client) Always new
  bounded bound first =
      let T : MasterState → Type 0 = Lasts lease (Bounded bound lease client) (Unstarted client) Always in
      let E : ℕ → Session Reply → Type 0 = λ q x. session_of s.sessions q ≡ Some x in
      subst T (sym g.is) (lasts lease (is_by client) (Bounded bound lease client) (Unstarted client) Always (bounded_lasts bound lease client) s steps g.of_clients g.without (record {
        reached = here;
        left = begins_unstarted lease client g.from s here g.quiet;
        each = λ always q session found same. first session (subst (λ n. E n session) same found);
      }))

  ends : (session later : Session Reply) → session_of s.sessions client ≡ Some session → session_of new.sessions client ≡ Some later → later.timeout ≤ lives_until lease session
  ends session later found then =
      let bound = lives_until lease session in
      let first : EndsBy bound lease session = record { timeout = covers (is_some session.parked) session.timeout lease; answered = λ is. covered (is_some session.parked) session.timeout lease is } in
      let all = bounded bound (λ x there. let same : session ≡ x = let both = found in cc in subst (EndsBy bound lease) same first) in
      (all.each tt client later then refl).timeout

  -- where there was no session there is none
  none_ends : (later : Session Reply) → session_of s.sessions client ≡ None → session_of new.sessions client ≡ Some later → later.timeout ≤ 0
  none_ends later none then =
      let all = bounded 0 (λ x there. absurd (cc)) in
      (all.each tt client later then refl).timeout

  module _ (now : ℕ) (quiet : quiet_at new now ≡ true) (late : s.clock + recovery_timeout + lease ≤ now) where
    by_session : {P : Type 0} (o : Option (Session Reply)) (later : Session Reply) → session_of s.sessions client ≡ o → session_of new.sessions client ≡ Some later → now < later.timeout → P
    by_session None later none then ahead = over later.timeout 0 (s.clock + recovery_timeout + lease) now ahead (none_ends later none then) (nothing_until (s.clock + recovery_timeout + lease)) late
    by_session (Some session) later found then ahead =
        let timely = here.timely client session found in
        over later.timeout (lives_until lease session) (s.clock + recovery_timeout + lease) now ahead (ends session later found then) (at_most (is_some session.parked) session.timeout lease s.clock timely.timeout) late

    unheld : (name : List ℕ) → holds client name new.rights ≡ true → ⊥
    unheld name held =
        let all = bounded_reached in
        let l = live_session (session_of new.sessions client) (all.answerable.live client name held) in
        by_session (session_of s.sessions client) l.0 refl l.1 (later_than lease now new all quiet client l.0 l.1 l.2)
      where
        bounded_reached : IsReached lease new
        bounded_reached = subst (IsReached lease) (sym g.is) (by_steps lease s steps g.of_clients here)

pub silent_sessions_end : SilentSessionsEnd
silent_sessions_end lease up client s new steps session later g found then = ends lease up client s new steps g session later found then

pub silent_clients_hold_nothing : SilentClientsHoldNothing
silent_clients_hold_nothing lease up client now s new steps name g quiet late = false_of (holds client name new.rights) (unheld lease up client s new steps g now quiet late name)
