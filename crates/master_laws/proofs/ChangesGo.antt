-- A change that has waited so long isn't held up by a client any more.
use Rattle.std.proofs.Common.{◌≡◌, ℕ, ◌+◌, ◌<◌, ◌≤◌, List, [], ◌∷◌, Bool, true, false, Option, Some, None, refl, sym, ap, subst, inl, inr, arith}
use Rattle.std.specs.Prelude.{Contains}
use Rattle.std.specs.Option.{option_map_or}
use Rattle.tags_cell.specs.declared.messages.outs.Reply.{Reply}
use Rattle.tags_cell.specs.declared.messages.requests.Request.{Request}
use Rattle.rights_core.specs.Rights.{holds, invalidations_of}
use Rattle.rights_core.specs.Laws.{asked_for}
use Rattle.rights_core.proofs.Unacked.{asked_is_issued}
use Rattle.gate_core.specs.declared.pending.Waiting.{Waiting}
use Rattle.gate_core.specs.Gate.{touches, AreRising}
use Rattle.session_core.specs.declared.records.Session.{Session}
use Rattle.session_core.specs.Sessions.{session_of, is_live}
use Rattle.master_parts.specs.declared.pending.Task.{Task}
use Rattle.master_state.specs.State.{MasterState}
use Rattle.over_core.specs.Deadlines.{quiet_at}
use Rattle.rights_core.proofs.OneName.{asked_unheld}
use Rattle.master_laws.specs.Closed.{MasterStep}
use Rattle.master_laws.specs.Waits.{asks_to_start, GoesOnWithout, longest_hold, ChangesGoOn}
use Rattle.master_laws.proofs.Following.{IsFollowed, any_in, only_one, followed_by_case, followed_by_sweep}
use Rattle.master_laws.proofs.Reached.{IsReached, by_steps, reached}
use Rattle.master_laws.proofs.HeldUp.{the_number}
use Rattle.master_laws.proofs.Unstarted.{Always, always_before}
use Rattle.master_laws.proofs.SessionSteps.{IsCarried}
use Rattle.master_laws.proofs.Lasting.{IsLeft, IsLasting, Lasts, lasts}
use Rattle.master_laws.proofs.Owing.{rights_come_back}
use Rattle.std.proofs.lemmas.List.Elements.{Contains-append_cases}

-- whoever is asked for what it touches was so by then
record IsAskedBy (client most : ℕ) (change : Waiting Task) (s : MasterState) : Type 0 where
  came : change.number ≤ s.gate.pushed
  most_asked : Contains s.gate.waiting change → (name : List ℕ) (number : ℕ) → touches name change ≡ true → asked_for client name s.rights ≡ Some number → number ≤ most

followed : (client most : ℕ) (change : Waiting Task) (s new : MasterState) → IsFollowed client change s new → IsAskedBy client most change s → IsAskedBy client most change new
followed client most change s new f h = record {
  came = f.pushed h.came;
  most_asked = λ waits name number touched is. h.most_asked (f.waited h.came waits) name number touched (f.asked h.came waits name number touched is);
}

asked_left : (lease client most : ℕ) (change : Waiting Task) (kind : Request → Bool) → IsLeft lease kind (IsAskedBy client most change)
asked_left lease client most change kind = record {
  clock = λ s now h. record { came = h.came; most_asked = h.most_asked };
  takes = λ s request c r other h. followed client most change s _ (followed_by_case client change r.cell r.rows s request c r.kept r.answerable) h;
  sweeps = λ s c r h. followed client most change s _ (followed_by_sweep client change r.cell r.rows s c r.kept r.answerable) h;
  tells = λ s tellings h. record { came = h.came; most_asked = h.most_asked };
}

abbrev Nothing : ℕ → ℕ → Session Reply → Type 0
Nothing clock q session = Unit {0}

nothing_carried : (clock : ℕ) → IsCarried (Nothing clock)
nothing_carried clock = record { keeps = λ q kept before h. tt; issues = λ q o before h. tt; tells = λ q event before h. tt }

asked_lasts : (lease client most : ℕ) (change : Waiting Task) → IsLasting lease (asks_to_start client) Nothing (IsAskedBy client most change) Always
asked_lasts lease client most change = record {
  later = λ from to q session le h. tt;
  left = asked_left lease client most change (asks_to_start client);
  was = always_before;
  takes = λ s request r other. record { carried = nothing_carried s.clock; beats = λ beat before is found fits h. tt };
  sweeps = λ s r left always. record {
    carried = nothing_carried s.clock;
    ends = λ q before h. tt;
    answers = λ q session beat due timed h. tt;
    prolongs = λ front back asked principal received session turn work found h. tt;
    begins = λ front back asked principal received turn work none. tt;
  };
}

-- its number is one of those that came
number_in : (low high : ℕ) (ws : List (Waiting Task)) (w : Waiting Task) → AreRising low ws high → Contains ws w → w.number ≤ high
number_in low high [] w rising h = absurd (let less = h.1 in omega (arith, less))
number_in low high (v ∷ ws) w rising h = elim (Contains-append_cases (v ∷ []) ws w h) [
  | inl here ↦ (let same : v ≡ w = only_one v w here in let P : Waiting Task → Type 0 = λ x. x.number ≤ high in subst P same (up_to v.number high ws rising.rest))
  | inr there ↦ number_in v.number high ws w rising.rest there
]
  where
    up_to : (low high : ℕ) (ws : List (Waiting Task)) → AreRising low ws high → low ≤ high
    up_to low high [] h = h
    up_to low high (w ∷ ws) h = let above = h.above in let rest = up_to w.number high ws h.rest in omega (arith, above, rest)

false_of : (b : Bool) → (b ≡ true → ⊥) → b ≡ false
false_of true h = absurd (h refl)
false_of false h = refl

too_late : {P : Type 0} (a b : ℕ) → a < b → b ≤ a → P
too_late a b h k = absurd (omega (arith, h, k))

as_many : (a b c : ℕ) → a ≤ b → c ≡ b → a ≤ c
as_many a b c h k = omega (arith, h, k)

none_asked_yet : {P : Type 0} (n : ℕ) → 0 < n → n ≤ 0 → P
none_asked_yet n h k = absurd (omega (arith, h, k))

module _ (lease up client now : ℕ) (s new : MasterState) (steps : List MasterStep) (change : Waiting Task) (g : GoesOnWithout (asks_to_start client) lease up s steps new) (before : Contains s.gate.waiting change) (behind : Contains new.gate.waiting change) (quiet : quiet_at new now ≡ true) (late : s.clock + longest_hold lease ≤ now) where
  here : IsReached lease s
  here = reached lease up g.before s g.came

  there : IsReached lease new
  there = subst (IsReached lease) (sym g.is) (by_steps lease s steps g.of_clients here)

  most_of : (most : ℕ) → ((name : List ℕ) (number : ℕ) → asked_for client name s.rights ≡ Some number → number ≤ most) → IsAskedBy client most change new
  most_of most first =
      let T : MasterState → Type 0 = Lasts lease Nothing (IsAskedBy client most change) Always in
      let all : T new = subst T (sym g.is) (lasts lease (asks_to_start client) Nothing (IsAskedBy client most change) Always (asked_lasts lease client most change) s steps g.of_clients g.without (record {
        reached = here;
        left = record { came = number_in 0 s.gate.pushed s.gate.waiting change here.kept.orderly.rising before; most_asked = λ waits name number touched is. first name number is };
        each = λ always q session found. tt;
      })) in
      all.left

  -- a client without a session holds nothing
  unheld : session_of s.sessions client ≡ None → (theirs : List ℕ) → holds client theirs s.rights ≡ false
  unheld none theirs = false_of (holds client theirs s.rights) (λ held.
      let live : is_live s.sessions client ≡ true = here.answerable.live client theirs held in
      let dead : is_live s.sessions client ≡ false = ap (λ (o : Option (Session Reply)). option_map_or (λ (x : Session Reply). x.live) o false) none in
      absurd (cc))

  by_session : {P : Type 0} (o : Option (Session Reply)) (name : List ℕ) (number : ℕ) → session_of s.sessions client ≡ o → touches name change ≡ true → asked_for client name new.rights ≡ Some number → P
  by_session None name number none touched is =
      let all = most_of 0 (λ theirs n asked. let nothing : asked_for client theirs s.rights ≡ None = asked_unheld client theirs s.rights (unheld none theirs) in absurd (cc)) in
      none_asked_yet number (asked_is_issued client number name new.rights there.kept.recorded is).1 (all.most_asked behind name number touched is)
  by_session (Some session) name number found touched is =
      let all = most_of session.invalidations.issued (λ theirs n asked. as_many n (invalidations_of client s.rights) session.invalidations.issued (asked_is_issued client n theirs s.rights here.kept.recorded asked).2 (here.kept.issued client session found)) in
      too_late now (s.clock + longest_hold lease) (rights_come_back lease up client now number s new steps session name g found (all.most_asked behind name number touched is) is quiet) late

  goes_on : (name : List ℕ) → touches name change ≡ true → holds client name new.rights ≡ true → ⊥
  goes_on name touched held =
      let n = the_number (asked_for client name new.rights) (there.answerable.asked client name held (any_in (touches name) new.gate.waiting change behind touched) refl) in
      by_session (session_of s.sessions client) name n.0 refl touched n.1

pub changes_go_on : ChangesGoOn
changes_go_on lease up client now s new steps change name g before behind quiet late touched = false_of (holds client name new.rights) (goes_on lease up client now s new steps change g before behind quiet late name touched)
