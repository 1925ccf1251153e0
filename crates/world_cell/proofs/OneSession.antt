-- What a step of one client's session leaves of all sessions of a master.
use Rattle.std.proofs.Common.{◌≡◌, ◌≢◌, ℕ, ◌+◌, List, [], ◌∷◌, true, false, Option, Some, None, refl, sym, ap, ◌∙◌, arith, eqb, subst}
use Rattle.std.specs.Prelude.{is_some}
use Rattle.std.specs.Option.{option_map, option_map_or, option_and_then}
use Rattle.std.proofs.lemmas.Bool.Decides.{nat_tests}
use Rattle.std.specs.List.Sorted.{IsStrictlySortedBy}
use Rattle.std.specs.Map.{keys_of}
use Rattle.std.specs.Ordering.{nat_cmp}
use Rattle.collections.proofs.OneKey.{lookup_put, lookup_put_apart, lookup_removed, lookup_removed_apart}
use Rattle.tags_cell.specs.declared.messages.outs.Reply.{Reply}
use Rattle.session_core.specs.declared.records.LastCall.{LastCall}
use Rattle.session_core.specs.declared.records.Session.{Session}
use Rattle.session_core.specs.Session.{keeping, answered, prolonged, issued_through, unparked}
use Rattle.session_core.specs.Sessions.{SessionTable, session_of, kept_of, is_live, with_session, with_new, without, with_issued, issued_by}
use Rattle.session_core.proofs.OneClient.{own_session, kept_session, other_session}

-- a master's sessions
abbrev pub Sessions : Type 0
Sessions = SessionTable Reply

pub same : (n m : ℕ) → eqb n m ≡ true → n ≡ m
same n m h = grind (arith, nat_tests)

pub other : (n m : ℕ) → eqb n m ≡ false → n ≢ m
other n m h = grind (arith, nat_tests)

-- what holds of one and of all others holds of all
pub at_each : (P : ℕ → Type 0) (client : ℕ) → P client → ((q : ℕ) → q ≢ client → P q) → (q : ℕ) → P q
at_each P client own others q =
    (elim (eqb q client) as (λ b. eqb q client ≡ b → P q) [
      | true ↦ (λ e. subst P (sym (same q client e)) own)
      | false ↦ (λ e. others q (other q client e))
    ]) refl

module _ (P : ℕ → Option (Session Reply) → Type 0) (table : Sessions) (client : ℕ) where
  -- one client's session as a step leaves it, and all others as they were
  pub each_apart : (step : Session Reply → Session Reply) → ((q : ℕ) → q ≢ client → P q (session_of table q)) → (session_of table client ≡ None → P client None) → ((session : Session Reply) → session_of table client ≡ Some session → P client (Some (step session))) → (q : ℕ) → P q (session_of (with_session table client step) q)
  each_apart step others none own q =
      let stepped : P client (option_map step (session_of table client)) =
      (elim (session_of table client) as (λ o. session_of table client ≡ o → P client (option_map step o)) [ None ↦ none | Some session ↦ own session ]) refl in
      at_each (λ n. P n (session_of (with_session table client step) n)) client
      (subst (λ o. P client o) (sym (own_session table client step)) stepped)
      (λ n apart. subst (λ o. P n o) (sym (other_session table client step n apart)) (others n apart)) q

  pub each_session : ((q : ℕ) → P q (session_of table q)) → (step : Session Reply → Session Reply) → ((session : Session Reply) → session_of table client ≡ Some session → P client (Some (step session))) → (q : ℕ) → P q (session_of (with_session table client step) q)
  each_session all step own q = each_apart step (λ n apart. all n) (λ none. subst (λ o. P client o) none (all client)) own q

  -- a new session
  pub each_with_new : ((q : ℕ) → P q (session_of table q)) → (session : Session Reply) → P client (Some session) → (q : ℕ) → P q (session_of (with_new table client session) q)
  each_with_new all session own q =
      at_each (λ n. P n (session_of (with_new table client session) n)) client
      (subst (λ o. P client o) (sym (lookup_put client table.sessions session)) own)
      (λ n apart. subst (λ o. P n o) (sym (lookup_put_apart client n apart table.sessions session)) (all n)) q

  -- one that goes
  pub each_gone : IsStrictlySortedBy nat_cmp (keys_of table.sessions) → ((q : ℕ) → P q (session_of table q)) → P client None → (q : ℕ) → P q (session_of (without table client) q)
  each_gone order all none q =
      at_each (λ n. P n (session_of (without table client) n)) client
      (subst (λ o. P client o) (sym (lookup_removed client table.sessions order)) none)
      (λ n apart. subst (λ o. P n o) (sym (lookup_removed_apart client n apart table.sessions)) (all n)) q

-- invalidations are issued to some clients
pub each_issued : (P : ℕ → Option (Session Reply) → Type 0) → ((q number : ℕ) (session : Session Reply) → P q (Some session) → P q (Some (issued_through number session))) → (asked : List (ℕ × ℕ)) (table : Sessions) → ((q : ℕ) → P q (session_of table q)) → (q : ℕ) → P q (session_of (issued_by asked table) q)
each_issued P step [] table all q = all q
each_issued P step (entry ∷ asked) table all q =
    each_issued P step asked (with_issued table entry)
    (each_session P table entry.0 all (issued_through entry.1) (λ session is. step entry.0 entry.1 session (subst (λ o. P entry.0 o) is (all entry.0)))) q

-- ---- what is kept of calls

abbrev pub kept_in : Option (Session Reply) → Option (LastCall Reply)
kept_in o = option_and_then (λ session. session.kept) o

-- a step that keeps it
pub kept_stays : (table : Sessions) (client : ℕ) (step : Session Reply → Session Reply) → ((session : Session Reply) → (step session).kept ≡ session.kept) → (q : ℕ) → kept_of (with_session table client step) q ≡ kept_of table q
kept_stays table client step stays q =
    each_session (λ n o. kept_in o ≡ kept_of table n) table client (λ n. refl) step (λ session is. stays session ∙ sym (ap kept_in is)) q

pub kept_issued : (asked : List (ℕ × ℕ)) (table : Sessions) (q : ℕ) → kept_of (issued_by asked table) q ≡ kept_of table q
kept_issued asked table q =
    each_issued (λ n o. kept_in o ≡ kept_of table n) (λ n number session same. same) asked table (λ n. refl) q

-- a session of a client without one
pub kept_begins : (table : Sessions) (client : ℕ) (session : Session Reply) → session_of table client ≡ None → session.kept ≡ None → (q : ℕ) → kept_of (with_new table client session) q ≡ kept_of table q
kept_begins table client session none nothing q =
    each_with_new (λ n o. kept_in o ≡ kept_of table n) table client (λ n. refl) session (nothing ∙ sym (ap kept_in none)) q

-- a live session is there
pub is_there : (table : Sessions) (client : ℕ) → is_live table client ≡ true → is_some (session_of table client) ≡ true
is_there table client live =
    (elim (session_of table client) as (λ (o : Option (Session Reply)). option_map_or (λ (session : Session Reply). session.live) o false ≡ true → is_some o ≡ true) [
      | None ↦ (λ h. cc)
      | Some session ↦ (λ h. refl)
    ]) live

-- what is kept of a call anew
pub kept_own : (table : Sessions) (client : ℕ) (kept : LastCall Reply) → is_live table client ≡ true → kept_of (with_session table client (keeping kept)) client ≡ Some kept
kept_own table client kept live = kept_session table client kept (is_there table client live)

pub kept_other : (table : Sessions) (client q : ℕ) (kept : LastCall Reply) → q ≢ client → kept_of (with_session table client (keeping kept)) q ≡ kept_of table q
kept_other table client q kept apart = ap kept_in (other_session table client (keeping kept) q apart)

-- ---- a parked Beat is answered

pub record Answers (session new : Session Reply) : Type 0 where
  pub kept : new.kept ≡ session.kept
  pub live : new.live ≡ session.live

pub answered_so : (lease now : ℕ) (session : Session Reply) → Answers session (answered lease now session)
answered_so lease now session =
    elim session.parked as (λ o. Answers session (option_map_or (λ beat. prolonged (now + lease) (unparked now session)) o session)) [
      | None ↦ record { kept = refl; live = refl }
      | Some beat ↦ record { kept = refl; live = refl }
    ]
