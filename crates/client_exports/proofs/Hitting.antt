-- What a hit gives stays while the lease of then lasts, and goes with it.
use Rattle.std.proofs.Common.{◌≡◌, ◌⊎◌, ℕ, ◌≤◌, max, Bool, true, false, cond, List, Option, Some, None, refl, sym, ap, ◌∙◌, inl, inr, arith}
use Rattle.std.specs.Prelude.{nat_lt, ◌&&◌}
use Rattle.std.proofs.lemmas.Bool.{lt-ltb}
use Rattle.lease_core.specs.Lease.{IsMoment, moment_limit}
use Rattle.cache_core.specs.Caches.{CacheState, is_leased, entry_of}
use Rattle.cache_core.specs.Standings.{standing_at}
use Rattle.cache_core.specs.declared.standings.SessionTrust.{SessionTrust}
use Rattle.cache_core.specs.declared.standings.SessionTrust.TheVariants as standings
use Rattle.client_core.specs.declared.parts.sessions.ClientStanding.{ClientStanding}
use Rattle.client_core.specs.declared.parts.sessions.ClientStanding.TheVariants as sessions
use Rattle.client_core.specs.Sessions.{session_fault}
use Rattle.node_core.specs.declared.refusals.Fault.{Fault}
use Rattle.node_core.specs.declared.refusals.Fault.TheVariants as faults
use Rattle.client_core.specs.declared.parts.handles.ClientHandle.{ClientHandle}
use Rattle.client_core.specs.Handles.{handle_of}
use Rattle.client_core.specs.Asks.{fault_then, ask_in}
use Rattle.client_core.specs.State.{ClientState, standing_then}
use Rattle.client_core.proofs.Noting.{less, not_less, stays_safe}
use Rattle.client_exports.specs.States.{HeldState}
use Rattle.client_exports.specs.Leases.{EndsAt}
use Rattle.client_exports.specs.Hits.{hit, readable, found, shown, HitLasts}
use Rattle.client_exports.proofs.Lasting.{was_leased}
use Rattle.client_exports.proofs.Looking.{told, read_of, late, in_time, faulty, by_number}

-- ---- what is found at a moment of the client's clock

abbrev looked : HeldState → ℕ → ℕ → Bool → Option Fault → Option (List ℕ)
looked held m n true fault = None
looked held m n false (Some fault) = None
looked held m n false None = found held.client.cache m (readable (handle_of held.client.handles n))

looked_by : (held : HeldState) (m n : ℕ) (leaving : Bool) (fault : Option Fault)
    → told held (ask_in held.client m (read_of n) (cond (leaving && true) (Some faults.NoSession) fault)) ≡ looked held m n leaving fault
looked_by held m n true fault = faulty held m n faults.NoSession true
looked_by held m n false (Some fault) = faulty held m n fault false
looked_by held m n false None = by_number held held.client m n (handle_of held.client.handles n)

hit_looked : (held : HeldState) (now n : ℕ) → nat_lt now moment_limit ≡ true
    → hit held now n ≡ looked held (max held.client.clock now) n held.client.leaving (fault_then held.client (max held.client.clock now))
hit_looked held now n early = in_time held now n early ∙ looked_by held (max held.client.clock now) n held.client.leaving (fault_then held.client (max held.client.clock now))

-- there was one: so the session is there, and the lease runs
record Looks (held : HeldState) (m n : ℕ) (content : List ℕ) : Type 0 where
  stays : held.client.leaving ≡ false
  safe : fault_then held.client m ≡ None
  there : found held.client.cache m (readable (handle_of held.client.handles n)) ≡ Some content

looks : (held : HeldState) (m n : ℕ) (content : List ℕ) (leaving : Bool) (fault : Option Fault) → held.client.leaving ≡ leaving → fault_then held.client m ≡ fault
    → looked held m n leaving fault ≡ Some content → Looks held m n content
looks held m n content true fault is safe h = cc
looks held m n content false (Some fault) is safe h = cc
looks held m n content false None is safe h = record { stays = is; safe = safe; there = h }

looks_at : (held : HeldState) (now n : ℕ) (content : List ℕ) (early : Bool) → nat_lt now moment_limit ≡ early → hit held now n ≡ Some content → Looks held (max held.client.clock now) n content
looks_at held now n content false is h = let none : hit held now n ≡ None = late held now n is in cc
looks_at held now n content true is h =
    looks held (max held.client.clock now) n content held.client.leaving (fault_then held.client (max held.client.clock now)) refl refl (sym (hit_looked held now n is) ∙ h)

-- ---- at a later moment

-- under a lease it doesn't matter when
same_found : (cache : CacheState) (m later : ℕ) (o : Option ClientHandle) → is_leased cache.lease m ≡ true → is_leased cache.lease later ≡ true → found cache later o ≡ found cache m o
same_found cache m later None is also = refl
same_found cache m later (Some h) is also = ap (λ b. shown h (cond (cache.enabled && b) (entry_of cache.entries h.name) None)) (also ∙ sym is)

relies : (session : ClientStanding) (standing : SessionTrust) → session_fault session standing ≡ None → (session ≡ sessions.Live) × (standing ≡ standings.Safe)
relies sessions.Unstarted standing h = cc
relies sessions.Live standings.Safe h = (refl, refl)
relies sessions.Live (standings.Jeopardy since) h = cc
relies sessions.Live standings.Lost h = cc
relies sessions.Lost standing h = cc
relies sessions.TurnedAway standing h = cc

safe_then : (s : ClientState) (m : ℕ) → fault_then s m ≡ None → is_leased s.cache.lease m ≡ true
safe_then s m h = (stays_safe s.standing (is_leased s.cache.lease m) m (relies s.session (standing_then s m) h).1).1

safe_later : (s : ClientState) (m later : ℕ) → fault_then s m ≡ None → is_leased s.cache.lease later ≡ true → fault_then s later ≡ None
safe_later s m later h leased =
    let r = relies s.session (standing_then s m) h in
    let safe = (stays_safe s.standing (is_leased s.cache.lease m) m r.1).0 in
    ap (λ x. session_fault x (standing_then s later)) r.0
    ∙ ap (λ x. session_fault sessions.Live (standing_at x (is_leased s.cache.lease later) later)) safe
    ∙ ap (λ b. session_fault sessions.Live (standing_at standings.Safe b later)) leased

not_leased : (b : Bool) → b ≡ true → b ≡ false → ⊥
not_leased b is isnt = cc

faulty_later : (s : ClientState) (later : ℕ) (o : Option Fault) → is_leased s.cache.lease later ≡ false → fault_then s later ≡ o → (o ≡ None → ⊥)
faulty_later s later o isnt is none = not_leased (is_leased s.cache.lease later) (safe_then s later (is ∙ none)) isnt

unlooked : (held : HeldState) (m n : ℕ) (leaving : Bool) (fault : Option Fault) → (fault ≡ None → ⊥) → looked held m n leaving fault ≡ None
unlooked held m n true fault some = refl
unlooked held m n false (Some fault) some = refl
unlooked held m n false None some = absurd (some refl)

-- the later moment, or the clock, by which the first hit was too
max_by : (clock now later : ℕ) (b : Bool) → now ≤ later → nat_lt later clock ≡ b → (max clock later ≡ later) ⊎ ((max clock later ≡ max clock now) × (later ≤ max clock now))
max_by clock now later true le h = let before = less later clock h in inr (omega (arith, before, le), omega (arith, before, le))
max_by clock now later false le h = let after = not_less later clock h in inl (omega (arith, after))

at_max : (clock now later : ℕ) → now ≤ later → (max clock later ≡ later) ⊎ ((max clock later ≡ max clock now) × (later ≤ max clock now))
at_max clock now later le = max_by clock now later (nat_lt later clock) le refl

lasts : (held : HeldState) (now later n : ℕ) (content : List ℕ) → Looks held (max held.client.clock now) n content → now ≤ later → IsMoment later → is_leased held.client.cache.lease later ≡ true
    → hit held later n ≡ Some content
lasts held now later n content l le moment leased =
    let s = held.client in
    let m = max s.clock now in
    let at = max s.clock later in
    let leased_at : is_leased s.cache.lease at ≡ true =
    elim (at_max s.clock now later le) as (λ _. is_leased s.cache.lease at ≡ true) [
      | inl same ↦ ap (λ t. is_leased s.cache.lease t) same ∙ leased
      | inr same ↦ ap (λ t. is_leased s.cache.lease t) same.0 ∙ safe_then s m l.safe
    ] in
    let early : nat_lt later moment_limit ≡ true = lt-ltb later moment_limit moment in
    hit_looked held later n early
    ∙ ap (λ b. looked held at n b (fault_then s at)) l.stays
    ∙ ap (λ f. looked held at n false f) (safe_later s m at l.safe leased_at)
    ∙ same_found s.cache m at (readable (handle_of s.handles n)) (safe_then s m l.safe) leased_at
    ∙ l.there

ends : (held : HeldState) (now later n : ℕ) (content : List ℕ) → Looks held (max held.client.clock now) n content → now ≤ later → IsMoment later → is_leased held.client.cache.lease later ≡ false
    → hit held later n ≡ None
ends held now later n content l le moment isnt =
    let s = held.client in
    let m = max s.clock now in
    let at = max s.clock later in
    let ended : is_leased s.cache.lease at ≡ false =
    elim (at_max s.clock now later le) as (λ _. is_leased s.cache.lease at ≡ false) [
      | inl same ↦ ap (λ t. is_leased s.cache.lease t) same ∙ isnt
      | inr same ↦ absurd (not_leased (is_leased s.cache.lease later) (was_leased s.cache.lease later m same.1 (safe_then s m l.safe)) isnt)
    ] in
    let early : nat_lt later moment_limit ≡ true = lt-ltb later moment_limit moment in
    hit_looked held later n early ∙ unlooked held at n s.leaving (fault_then s at) (faulty_later s at (fault_then s at) ended refl)

by_end : (held : HeldState) (now later n end : ℕ) (content : List ℕ) (b : Bool) → EndsAt held.client.cache.lease end → Looks held (max held.client.clock now) n content → now ≤ later → IsMoment later
    → nat_lt later end ≡ b → hit held later n ≡ cond b (Some content) None
by_end held now later n end content true e l le moment before = lasts held now later n content l le moment ((e later moment).1 (less later end before))
by_end held now later n end content false e l le moment after =
    let over : (b : Bool) → is_leased held.client.cache.lease later ≡ b → b ≡ false =
    λ b is. elim b as (λ b. is_leased held.client.cache.lease later ≡ b → b ≡ false) [
      | true ↦ λ leased. let early = (e later moment).0 leased in let from = not_less later end after in absurd (omega (arith, early, from))
      | false ↦ λ _. refl
    ] is in
    ends held now later n content l le moment (over (is_leased held.client.cache.lease later) refl)

pub hits_last : HitLasts
hits_last held now later n end content e h le moment =
    by_end held now later n end content (nat_lt later end) e (looks_at held now n content (nat_lt now moment_limit) refl h) le moment refl
