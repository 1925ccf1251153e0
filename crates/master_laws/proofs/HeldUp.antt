-- Where a sweep is quiet each change that waits is held up by a client.
use Rattle.std.proofs.Common.{◌≡◌, ℕ, ◌+◌, ◌<◌, List, [], ◌∷◌, Bool, true, false, cond, Option, Some, None, refl, sym, ap, ◌∙◌, arith}
use Rattle.std.specs.Prelude.{◌&&◌, ◌||◌, ◌==◌, max, find, is_some, All}
use Rattle.std.specs.List.{AllByRecursion, list_any, list_all}
use Rattle.std.specs.Str.{bytes_eq}
use Rattle.std.proofs.lemmas.Bool.Decides.{nat_tests}
use Rattle.std.proofs.lemmas.List.Elements.{All-from_recursion}
use Rattle.std.proofs.lemmas.List.Sums.{sum_by-cons}
use Rattle.collections.proofs.Keys.{bytes_self}
use Rattle.tags_cell.specs.declared.messages.outs.Reply.{Reply}
use Rattle.rights_core.specs.declared.cache_rights.CacheRight.{CacheRight}
use Rattle.rights_core.specs.Rights.{is_held_on, is_held_at, held_on, holds}
use Rattle.rights_core.specs.Laws.{asked_for}
use Rattle.gate_core.specs.declared.pending.Waiting.{Waiting}
use Rattle.gate_core.specs.Gate.{touches, uncachable, is_free}
use Rattle.session_core.specs.declared.records.Session.{Session}
use Rattle.session_core.specs.Sessions.{session_of}
use Rattle.master_parts.specs.declared.pending.Task.{Task}
use Rattle.master_state.specs.State.{MasterState}
use Rattle.master_state.specs.Lookups.{noted}
use Rattle.over_core.specs.Deadlines.{quiet_at}
use Rattle.over_core.proofs.KeptBySweeps.{sessions_ordered}
use Rattle.over_core.proofs.SessionReads.{lives_in}
use Rattle.master_laws.specs.Waits.{HoldsUp, EachIsHeldUp, SessionsEndInTime}
use Rattle.master_laws.proofs.Answerable.{tally_in}
use Rattle.master_laws.proofs.QuietParts.{HasNothing, quiet_has_nothing, none_expired, none_free}
use Rattle.master_laws.proofs.Reached.{IsReached, noted_reached, reached}

-- ---- a name that is held

itself : (n : ℕ) → (n == n) ≡ true
itself n = grind (arith, nat_tests)

count_none : (n m : ℕ) → n ≡ 0 + m → (n == 0) ≡ false → (m == 0) ≡ false
count_none n m is h = let same : n ≡ m = omega (arith, is) in ap (λ x. x == 0) (sym same) ∙ h

first_holds : (a b c : Bool) → a ≡ true → b ≡ true → ((a && b) || c) ≡ true
first_holds a b c h k = rw (h, k) refl

or_later : (a b : Bool) → b ≡ true → (a || b) ≡ true
or_later true b h = refl
or_later false b h = h

pub holder : (name : List ℕ) (rights : List CacheRight) → (held_on name rights == 0) ≡ false → (client : ℕ) × (holds client name rights ≡ true)
holder name [] h = absurd (cc)
holder name (r ∷ rs) h =
    let parts : held_on name (r ∷ rs) ≡ cond (is_held_on name r) 1 0 + held_on name rs = sum_by-cons (λ s. cond (is_held_on name s) 1 0) r rs in
    (elim (is_held_on name r) as (λ b. is_held_on name r ≡ b → held_on name (r ∷ rs) ≡ cond b 1 0 + held_on name rs → (client : ℕ) × (holds client name (r ∷ rs) ≡ true)) [
      | true ↦ (λ is all. (r.client, first_holds (is_held_on name r) (r.client == r.client) (holds r.client name rs) is (itself r.client)))
      | false ↦ (λ is all.
          let t = holder name rs (count_none (held_on name (r ∷ rs)) (held_on name rs) all h) in
          (t.0, or_later (is_held_at t.0 name r) (holds t.0 name rs) t.1))
    ]) refl parts

-- a name that keeps a change from being free
held_name : (rights : List CacheRight) (touched : List (List ℕ)) → list_all (λ name. held_on name rights == 0) touched ≡ false → (name : List ℕ) × (list_any (bytes_eq name) touched ≡ true) × ((held_on name rights == 0) ≡ false)
held_name rights [] h = absurd (cc)
held_name rights (x ∷ xs) h =
    (elim (held_on x rights == 0) as (λ b. (held_on x rights == 0) ≡ b → (b && list_all (λ name. held_on name rights == 0) xs) ≡ false → (name : List ℕ) × (list_any (bytes_eq name) (x ∷ xs) ≡ true) × ((held_on name rights == 0) ≡ false)) [
      | true ↦ (λ is k. let t = held_name rights xs k in (t.0, or_later (bytes_eq t.0 x) (list_any (bytes_eq t.0) xs) t.1, t.2))
      | false ↦ (λ is k. (x, rw (bytes_self x) refl, is))
    ]) refl h

-- ---- the client

pub live_session : (o : Option (Session Reply)) → lives_in o ≡ true → (session : Session Reply) × (o ≡ Some session) × (session.live ≡ true)
live_session None h = absurd (cc)
live_session (Some session) h = (session, refl, h)

pub the_number : (o : Option ℕ) → is_some o ≡ true → (number : ℕ) × (o ≡ Some number)
the_number None h = absurd (cc)
the_number (Some number) h = (number, refl)

at_moment : (a b c : ℕ) → max a b < c → b < c
at_moment a b c h = omega (arith, h)

found_first : {X : Type 0} (test : X → Bool) (x : X) (xs : List X) → find test (x ∷ xs) ≡ None → (test x ≡ false) × (find test xs ≡ None)
found_first test x xs h =
    (elim (test x) as (λ b. test x ≡ b → cond b (Some x) (find test xs) ≡ None → (test x ≡ false) × (find test xs ≡ None)) [
      | true ↦ (λ is k. absurd (cc))
      | false ↦ (λ is k. (is, k))
    ]) refl h

module _ (lease now : ℕ) (s : MasterState) (r : IsReached lease s) (quiet : quiet_at s now ≡ true) where
  abbrev there : MasterState
  there = noted s now

  nothing : HasNothing there
  nothing = quiet_has_nothing there quiet

  pub later_than : (client : ℕ) (session : Session Reply) → session_of s.sessions client ≡ Some session → session.live ≡ true → now < session.timeout
  later_than client session found live =
      let n = noted_reached lease s now r in
      at_moment s.clock now session.timeout (none_expired there client session (sessions_ordered n.cell n.rows there n.kept) nothing.expired found live)

  held_up : (change : Waiting Task) → ((name : List ℕ) → touches name change ≡ true → uncachable name s.gate.waiting ≡ true) → is_free s.rights change ≡ false → (client : ℕ) × HoldsUp s now client change
  held_up change waits busy =
      let t = held_name s.rights change.change.touched busy in
      let h = holder t.0 s.rights t.2 in
      let l = live_session (session_of s.sessions h.0) (r.answerable.live h.0 t.0 h.1) in
      let n = the_number (asked_for h.0 t.0 s.rights) (r.answerable.asked h.0 t.0 h.1 (waits t.0 t.1) refl) in (
        h.0,
        record {
          name = t.0;
          number = n.0;
          session = l.0;
          touched = t.1;
          held = h.1;
          asked = n.1;
          found = l.1;
          unacknowledged = r.answerable.unacked h.0 t.0 n.0 l.0.invalidations n.1 (ap tally_in l.1);
          live = l.2;
          later = later_than h.0 l.0 l.1 l.2;
        },
      )

  each_of : (ws : List (Waiting Task)) → ((name : List ℕ) → uncachable name ws ≡ true → uncachable name s.gate.waiting ≡ true) → find (is_free s.rights) ws ≡ None → AllByRecursion (λ change. (client : ℕ) × HoldsUp s now client change) ws
  each_of [] all none = tt
  each_of (w ∷ ws) all none =
      let t = found_first (is_free s.rights) w ws none in
      (held_up w (λ name touched. all name (rw touched refl)) t.0, each_of ws (λ name waits. all name (or_later (touches name w) (uncachable name ws) waits)) t.1)

  pub all_held_up : All (λ change. (client : ℕ) × HoldsUp s now client change) s.gate.waiting
  all_held_up = All-from_recursion (λ change. (client : ℕ) × HoldsUp s now client change) s.gate.waiting (each_of s.gate.waiting (λ name waits. waits) (none_free there nothing.change))

pub each_is_held_up : EachIsHeldUp
each_is_held_up lease up now steps s h quiet = all_held_up lease now s (reached lease up steps s h) quiet

pub sessions_end_in_time : SessionsEndInTime
sessions_end_in_time lease up client steps s session h found = let t = (reached lease up steps s h).timely client session found in t.timeout
