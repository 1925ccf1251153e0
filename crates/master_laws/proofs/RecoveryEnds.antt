-- Who holds up a recovery, and that it ends.
use Rattle.std.proofs.Common.{◌≡◌, ℕ, ◌+◌, ◌-◌, ◌<◌, ◌≤◌, List, [], ◌∷◌, ◌++◌, Bool, true, false, cond, Option, Some, None, refl, sym, subst, ◌∙◌, arith}
use Rattle.std.specs.Prelude.{◌&&◌, ◌||◌, not, max, nat_le, find, unwrap_or}
use Rattle.std.specs.Option.{option_map, option_map_or, option_or}
use Rattle.std.specs.List.{list_all, list_any}
use Rattle.std.proofs.lemmas.Bool.{not-true}
use Rattle.std.proofs.lemmas.Bool.Decides.{nat_tests}
use Rattle.rows_cell.specs.declared.tables.SessionRow as stored
use Rattle.node_core.specs.declared.events.Event.TheVariants as events
use Rattle.tags_cell.specs.declared.messages.beats.Beat.{Beat}
use Rattle.tags_cell.specs.declared.messages.outs.Reply.{Reply}
use Rattle.tags_cell.specs.declared.messages.requests.Request.{Request}
use Rattle.event_core.specs.Queue.{EventQueue, empty_queue, queued, has_lost, behind, acknowledged_to}
use Rattle.session_core.specs.declared.records.Mark.{Mark}
use Rattle.session_core.specs.declared.records.Parked.{Parked}
use Rattle.session_core.specs.declared.records.Session.{Session}
use Rattle.session_core.specs.Session.{patience, is_given_up, has_heard, is_owing, holds_up, mark_at, meets, meets_its_mark, acknowledging, beaten, prolonged, unparked}
use Rattle.session_core.specs.Sessions.{session_of, all_heard, lowest, passes}
use Rattle.session_core.specs.Quiet.{is_client_unheard}
use Rattle.session_core.specs.Laws.{issued_at}
use Rattle.session_core.proofs.Lowest.{lowest_is}
use Rattle.master_parts.specs.StoredSessions.{taken_over}
use Rattle.master_state.specs.State.{MasterState, master_of}
use Rattle.master_state.specs.Lookups.{noted}
use Rattle.over_core.specs.Deadlines.{quiet_at}
use Rattle.over_core.proofs.KeptBySweeps.{sessions_ordered}
use Rattle.over_core.proofs.SweepCases.{HasSessionsInOrder}
use Rattle.over_core.proofs.ToldSessions.{told_heard}
use Rattle.master_laws.specs.Closed.{MasterStep}
use Rattle.master_laws.specs.Closed.MasterStep.{Takes, Sweeps, Beats}
use Rattle.master_laws.specs.Waits.{takes_one, HasComeUp, HoldsUpRecovery, RecoveryIsHeldUp, RecoveriesEnd}
use Rattle.master_laws.proofs.QuietParts.{quiet_has_nothing}
use Rattle.master_laws.proofs.SessionSteps.{IsCarried, each_taken}
use Rattle.master_laws.proofs.Timely.{answered_is}
use Rattle.master_laws.proofs.Reached.{IsReached, up_reached, reached}
use Rattle.master_laws.proofs.HeldUp.{later_than}
use Rattle.master_laws.proofs.Lasting.{IsLeft, IsLasting, Lasts, lasts}
use Rattle.master_laws.proofs.Unstarted.{Always}
use Rattle.master_laws.proofs.Recovering.{IsRecovering, recovered_before}
use Rattle.master_laws.proofs.Marks.{last_of, IsNear, near_later, near_beaten, near_answered, in_time, first_mark, next_answer}

-- ---- who holds it up

none_found : {A : Type 0} (f : A → Bool) (xs : List A) → find (λ x. not (f x)) xs ≡ None → list_all f xs ≡ true
none_found f [] h = refl
none_found f (x ∷ xs) h =
    (elim (f x) as (λ b. cond (not b) (Some x) (find (λ y. not (f y)) xs) ≡ None → (b && list_all f xs) ≡ true) [
      | true ↦ (λ k. none_found f xs k)
      | false ↦ (λ k. absurd (cc))
    ]) h

unmapped : {A B : Type 0} (f : A → B) (o : Option A) → option_map f o ≡ None → o ≡ None
unmapped f None e = refl
unmapped f (Some x) e = absurd (cc)

found_passes : (test : Session Reply → Bool) (o : Option (Session Reply)) → option_map_or test o false ≡ true → (session : Session Reply) × (o ≡ Some session) × (test session ≡ true)
found_passes test None h = absurd (cc)
found_passes test (Some session) h = (session, refl, h)

second : (a b : Bool) → a ≡ true → (a && b) ≡ false → b ≡ false
second true b h k = k
second false b h k = absurd (cc)

unheard_lives : (live heard : Bool) → (not live || heard) ≡ false → live ≡ true
unheard_lives true heard h = refl
unheard_lives false heard h = absurd (cc)

-- a session that hasn't heard of the master
some_unheard : (s : MasterState) → HasSessionsInOrder s → all_heard s.sessions ≡ false → (client : ℕ) × (session : Session Reply) × (session_of s.sessions client ≡ Some session) × (has_heard session ≡ false)
some_unheard s order unheard =
    (elim (lowest s.sessions is_client_unheard) as (λ o. lowest s.sessions is_client_unheard ≡ o → (client : ℕ) × (session : Session Reply) × (session_of s.sessions client ≡ Some session) × (has_heard session ≡ false)) [
      | None ↦ (λ none.
          let all : all_heard s.sessions ≡ true = none_found (λ (entry : ℕ × Session Reply). has_heard entry.1) s.sessions.sessions (unmapped (λ (entry : ℕ × Session Reply). entry.0) _ none) in
          absurd (cc))
      | Some client ↦ (λ is.
          let first : passes s.sessions is_client_unheard client ≡ true = (lowest_is s.sessions s.sessions is_client_unheard (Some client) refl order (sym is)).0 in
          let t = found_passes (is_client_unheard client) (session_of s.sessions client) first in
          (client, t.0, t.1, not-true (has_heard t.0) t.2))
    ]) refl

held_up : (lease now : ℕ) (s : MasterState) → IsReached lease s → quiet_at s now ≡ true → s.recovering ≡ true → (client : ℕ) × HoldsUpRecovery s now client
held_up lease now s r quiet recovering =
    let nothing = quiet_has_nothing (noted s now) quiet in
    let t = some_unheard s (sessions_ordered r.cell r.rows s r.kept) (second s.recovering (all_heard s.sessions) recovering nothing.over) in
    let live = unheard_lives t.1.live _ t.3 in
    (t.0, record { session = t.1; found = t.2; unheard = t.3; live = live; later = later_than lease now s r quiet t.0 t.1 t.2 live })

pub recovery_is_held_up : RecoveryIsHeldUp
recovery_is_held_up lease up now steps s h quiet recovering = held_up lease now s (reached lease up steps s h) quiet recovering

-- ---- until when

-- since a session was told that a new master is up it ends in time
abbrev Staged : ℕ → ℕ → ℕ → Option Mark → Type 0
Staged lease first timeout None = timeout ≤ first
Staged lease first timeout (Some mark) = (mark.since < first) × (timeout ≤ last_of lease first)

record IsStuck (lease up clock : ℕ) (takes_over : Bool) (timeout : ℕ) (parked : Option Parked) (mark : Option Mark) : Type 0 where
  taken : takes_over ≡ true
  near : IsNear lease up clock timeout parked
  staged : Staged lease (up + 60002) timeout mark

-- while it hasn't acknowledged that
abbrev Stuck : ℕ → ℕ → ℕ → ℕ → Session Reply → Type 0
Stuck lease up clock q session = has_heard session ≡ false → IsStuck lease up clock session.taken_over session.timeout session.parked session.mark

stuck_issued : (lease up clock q : ℕ) (o : Option ℕ) (before : Session Reply) → Stuck lease up clock q before → Stuck lease up clock q (issued_at o before)
stuck_issued lease up clock q None before h = h
stuck_issued lease up clock q (Some number) before h = h

stuck_carried : (lease up clock : ℕ) → IsCarried (Stuck lease up clock)
stuck_carried lease up clock = record {
  keeps = λ q kept before h. h;
  issues = stuck_issued lease up clock;
  tells = λ q event before h unheard. h (sym (told_heard event before) ∙ unheard);
}

-- a Beat by which it isn't acknowledged
queue_less : (number : ℕ) (queue : EventQueue) → nat_le 1 (acknowledged_to number queue).acknowledged ≡ false → nat_le 1 queue.acknowledged ≡ false
queue_less number queue h =
    (elim (has_lost (behind number queue)) as (λ b. nat_le 1 (cond b (record (queued events.Lost (behind number queue)) { missed = false }) (behind number queue)).acknowledged ≡ false → nat_le 1 queue.acknowledged ≡ false) [
      | true ↦ (λ k. less queue.acknowledged (number - queue.acknowledged) k)
      | false ↦ (λ k. less queue.acknowledged (number - queue.acknowledged) k)
    ]) h
  where
    less : (a b : ℕ) → nat_le 1 (a + b) ≡ false → nat_le 1 a ≡ false
    less a b h = grind (arith, nat_tests)

heard_less : (live : Bool) (number : ℕ) (o : Option EventQueue) → (not live || nat_le 1 (unwrap_or (option_map (acknowledged_to number) o) empty_queue).acknowledged) ≡ false → (not live || nat_le 1 (unwrap_or o empty_queue).acknowledged) ≡ false
heard_less true number None h = h
heard_less true number (Some queue) h = queue_less number queue h
heard_less false number o h = absurd (cc)

unmet : (met taken heard : Bool) → taken ≡ true → heard ≡ false → (met && not (taken && not heard)) ≡ false
unmet true taken heard h k = rw (h, k) refl
unmet false taken heard h k = refl

none_met : (session : Session Reply) (o : Option Mark) → session.taken_over ≡ true → has_heard session ≡ false → option_map_or (λ mark. meets mark session) o false ≡ false
none_met session None taken unheard = refl
none_met session (Some mark) taken unheard = unmet (nat_le mark.invalidations session.invalidations.acknowledged) session.taken_over (has_heard session) taken unheard

stuck_beaten : (lease up clock q : ℕ) (beat : Beat) (before : Session Reply) → Stuck lease up clock q before → Stuck lease up clock q (beaten beat clock before)
stuck_beaten lease up clock q beat before h unheard =
    let was = h (heard_less before.live beat.events before.events unheard) in
    let same : meets_its_mark (acknowledging beat clock before) ≡ false = none_met (acknowledging beat clock before) before.mark was.taken unheard in
    let M : Bool → Type 0 = λ b. Staged lease (up + 60002) before.timeout (cond b None before.mark) in
    record { taken = was.taken; near = near_beaten lease up clock before.timeout beat.number before.parked was.near; staged = subst M (sym same) was.staged }

holds_by : (owing taken heard : Bool) → taken ≡ true → heard ≡ false → (owing || (taken && not heard)) ≡ true
holds_by true taken heard h k = refl
holds_by false taken heard h k = rw (h, k) refl

soon : (up : ℕ) → up + 60002 ≤ up + 60002
soon up = omega arith

staged_answered : (lease up clock : ℕ) (session : Session Reply) (beat : Parked) (o : Option Mark) → session.mark ≡ o → session.parked ≡ Some beat → clock < session.timeout → is_given_up lease beat session ≡ false → has_heard session ≡ false → IsStuck lease up clock session.taken_over session.timeout session.parked o → Staged lease (up + 60002) (max session.timeout (clock + lease)) (option_or o (mark_at clock session))
staged_answered lease up clock session beat None is is_parked early spared unheard h =
    let holds : holds_up session ≡ true = holds_by (is_owing session.invalidations) session.taken_over (has_heard session) h.taken unheard in
    let M : Bool → Type 0 = λ b. Staged lease (up + 60002) (max session.timeout (clock + lease)) (cond b (Some (record { invalidations = session.invalidations.issued; since = clock })) None) in
    subst M (sym holds) (first_mark lease (up + 60002) clock session.timeout early h.staged)
staged_answered lease up clock session beat (Some mark) is is_parked early spared unheard h =
    let near = h.near in
    (h.staged.0, next_answer lease up (up + 60002) clock session.timeout mark.since beat.received early (near.received beat is_parked) (soon up) h.staged.0 (in_time lease session beat mark is spared) h.staged.1)

stuck_answered : (lease up clock q : ℕ) (session : Session Reply) (beat : Parked) → session.parked ≡ Some beat → clock < session.timeout → is_given_up lease beat session ≡ false → Stuck lease up clock q session → Stuck lease up clock q (prolonged (clock + lease) (unparked clock session))
stuck_answered lease up clock q session beat is_parked early spared h unheard =
    let was = h unheard in
    record { taken = was.taken; near = near_answered lease up clock session.timeout session.parked was.near; staged = staged_answered lease up clock session beat session.mark refl is_parked early spared unheard was }

some_wait : {X : Type 0} {P : Type 0} (front : List X) (x : X) (back : List X) → front ++ x ∷ back ≡ [] → P
some_wait [] x back h = absurd (cc)
some_wait (y ∷ ys) x back h = absurd (cc)

abbrev pub no_message : Request → Bool
no_message request = false

always_left : (lease : ℕ) → IsLeft lease no_message Always
always_left lease = record { clock = λ s now a. tt; takes = λ s request c r other a. tt; sweeps = λ s c r a. tt; tells = λ s tellings a. tt }

stuck_lasts : (lease up : ℕ) → IsLasting lease no_message (Stuck lease up) Always IsRecovering
stuck_lasts lease up = record {
  later = λ from to q session le h unheard. let was = h unheard in record { taken = was.taken; near = near_later lease up from to session.timeout session.parked le was.near; staged = was.staged };
  left = always_left lease;
  was = recovered_before;
  takes = λ s request r other. record { carried = stuck_carried lease up s.clock; beats = λ beat before is found fits h. stuck_beaten lease up s.clock beat.client beat before h };
  sweeps = λ s r always recovering. record {
    carried = stuck_carried lease up s.clock;
    ends = λ q before h unheard. absurd (cc);
    answers = λ q session beat due timed h.
        let L : ℕ → Type 0 = λ n. is_given_up n beat session ≡ false in
        let here = stuck_answered lease up s.clock q session beat due.is_parked timed.early (subst L r.is_lease timed.patient) h in
        let T : ℕ → Type 0 = λ n. Stuck lease up s.clock q (prolonged (s.clock + n) (unparked s.clock session)) in
        let P : Session Reply → Type 0 = Stuck lease up s.clock q in
        subst P (sym (answered_is s.sessions.lease s.clock session beat due.is_parked)) (subst T (sym r.is_lease) here);
    prolongs = λ front back asked principal received session turn work found h. some_wait front _ back (sym turn.waited ∙ r.kept.recovery_is_empty recovering);
    begins = λ front back asked principal received turn work none. some_wait front _ back (sym turn.waited ∙ r.kept.recovery_is_empty recovering);
  };
}

by_liveness : (lease up q : ℕ) (e : ℕ × stored.SessionRow) → Stuck lease up up q (taken_over up e).1
by_liveness lease up q e unheard = record { taken = refl; near = record { near = at_once up lease; received = λ beat is. absurd (cc) }; staged = soon up }
  where
    at_once : (a l : ℕ) → a + 60002 ≤ max (a + 60002) (a + l)
    at_once a l = omega arith

pub none_taken : (steps : List MasterStep) → list_any (takes_one no_message) steps ≡ false
none_taken [] = refl
none_taken (step ∷ steps) = by_one step (none_taken steps)
  where
    by_one : (step : MasterStep) → list_any (takes_one no_message) steps ≡ false → (takes_one no_message step || list_any (takes_one no_message) steps) ≡ false
    by_one step h = elim step as (λ x. (takes_one no_message x || list_any (takes_one no_message) steps) ≡ false) [ Takes now request ↦ h | Sweeps now ↦ h | Beats now ↦ h ]

staged_ends : (lease first timeout : ℕ) (o : Option Mark) → Staged lease first timeout o → timeout ≤ last_of lease first
staged_ends lease first timeout None h = more timeout first (patience lease) lease h
  where
    more : (a b c d : ℕ) → a ≤ b → a ≤ b + c + d + d
    more a b c d h = omega (arith, h)
staged_ends lease first timeout (Some mark) h = h.1

false_of : (b : Bool) → (b ≡ true → ⊥) → b ≡ false
false_of true h = absurd (h refl)
false_of false h = refl

over : {P : Type 0} (timeout up patient lease now : ℕ) → timeout ≤ up + 60002 + patient + lease + lease → now < timeout → up + (60002 + patient + lease + lease) ≤ now → P
over timeout up patient lease now h k l = absurd (omega (arith, h, k, l))

stuck_at : (lease up : ℕ) (steps : List MasterStep) (s : MasterState) → HasComeUp lease up steps s → Lasts lease (Stuck lease up) Always IsRecovering s
stuck_at lease up steps s h =
    let first = master_of h.rows (record { lease = lease; limits = h.limits }) up in
    let T : MasterState → Type 0 = Lasts lease (Stuck lease up) Always IsRecovering in
    subst T (sym h.is) (lasts lease no_message (Stuck lease up) Always IsRecovering (stuck_lasts lease up) first steps h.of_clients (none_taken steps) (record {
      reached = up_reached h.cell h.rows h.limits lease up h.is_lease h.kept;
      left = tt;
      each = λ recovering client session found. each_taken (Stuck lease up up) up (by_liveness lease up) h.rows.sessions client session found;
    }))

pub recoveries_end : RecoveriesEnd
recoveries_end lease up now steps s h quiet late = false_of s.recovering (λ recovering.
    let w = held_up lease now s (reached lease up steps s h) quiet recovering in
    let holder = w.1 in
    let stuck = (stuck_at lease up steps s h).each recovering w.0 holder.session holder.found holder.unheard in
    over holder.session.timeout up (patience lease) lease now (staged_ends lease (up + 60002) holder.session.timeout holder.session.mark stuck.staged) holder.later late)
