-- What a table of invalidations makes of each session.
use Rattle.std.proofs.Common.{◌≡◌, ◌≢◌, ℕ, List, [], ◌∷◌, true, false, cond, Option, Some, None, ◌≤◌, refl, ap, ◌∙◌, arith}
use Rattle.std.specs.Option.{option_map, option_map_or}
use Rattle.std.specs.Ordering.{nat_cmp}
use Rattle.std.specs.Map.{lookup, keys_of, set_value}
use Rattle.std.specs.BTreeMap.{is_at}
use Rattle.std.specs.List.Sorted.{IsStrictlySortedBy}
use Rattle.std.proofs.lemmas.Map.{keys-set_value}
use Rattle.session_core.specs.declared.records.Session.{Session}
use Rattle.session_core.specs.Session.{issued_through}
use Rattle.session_core.specs.Sessions.{SessionTable, session_of, with_session, with_issued, issued_by}
use Rattle.session_core.specs.Laws.{issued_at}
use Rattle.session_core.proofs.Keys.{at_itself, same_key}
use Rattle.session_core.proofs.OneClient.{own_session, other_session}
use Rattle.session_core.proofs.Lowest.{none_up_to}
use Rattle.session_core.proofs.RowsOfSessions.{rows_of, rows_stay}

pub lease_of_one : {K : Type 0} (s : SessionTable K) (client : ℕ) (step : Session K → Session K) → (with_session s client step).lease ≡ s.lease
lease_of_one {K} s client step = elim (session_of s client) as (λ (o : Option (Session K)). (option_map_or (λ session. record s { sessions = set_value (is_at (nat_cmp client)) s.sessions (step session) }) o s).lease ≡ s.lease) [
  | None ↦ refl
  | Some session ↦ refl
]

pub lease_stays_issued : {K : Type 0} (s : SessionTable K) (asked : List (ℕ × ℕ)) → (issued_by asked s).lease ≡ s.lease
lease_stays_issued s [] = refl
lease_stays_issued s (entry ∷ asked) = lease_stays_issued (with_issued s entry) asked ∙ lease_of_one s entry.0 (issued_through entry.1)

clients_of_one : {K : Type 0} (s : SessionTable K) (client : ℕ) (step : Session K → Session K) → keys_of (with_session s client step).sessions ≡ keys_of s.sessions
clients_of_one {K} s client step = elim (session_of s client) as (λ (o : Option (Session K)). keys_of (option_map_or (λ session. record s { sessions = set_value (is_at (nat_cmp client)) s.sessions (step session) }) o s).sessions ≡ keys_of s.sessions) [
  | None ↦ refl
  | Some session ↦ keys-set_value (is_at (nat_cmp client)) s.sessions (step session)
]

pub clients_stay_issued : {K : Type 0} (s : SessionTable K) (asked : List (ℕ × ℕ)) → keys_of (issued_by asked s).sessions ≡ keys_of s.sessions
clients_stay_issued s [] = refl
clients_stay_issued s (entry ∷ asked) = clients_stay_issued (with_issued s entry) asked ∙ clients_of_one s entry.0 (issued_through entry.1)

-- what no number of invalidations changes of a session stays in the table
pub rows_stay_issued : {K B : Type 0} (f : Session K → B) → ((number : ℕ) (session : Session K) → f (issued_through number session) ≡ f session) → (s : SessionTable K) (asked : List (ℕ × ℕ)) → rows_of f (issued_by asked s).sessions ≡ rows_of f s.sessions
rows_stay_issued f keeps s [] = refl
rows_stay_issued f keeps s (entry ∷ asked) = rows_stay_issued f keeps (with_issued s entry) asked ∙ rows_stay f s entry.0 (issued_through entry.1) (keeps entry.1)

same_at_none : {K : Type 0} (o : Option (Session K)) → o ≡ option_map (issued_at None) o
same_at_none None = refl
same_at_none (Some session) = refl

own_then_none : {K : Type 0} (number : ℕ) (o : Option (Session K)) → option_map (issued_at None) (option_map (issued_through number) o) ≡ option_map (issued_at (Some number)) o
own_then_none number None = refl
own_then_none number (Some session) = refl

no_further : (client key : ℕ) → client ≡ key → client ≤ key
no_further client key h = omega (arith, h)

other_key : (a b : ℕ) → is_at (nat_cmp a) b ≡ false → a ≢ b
other_key a b h same = let at = at_itself a in let here : is_at (nat_cmp a) a ≡ false = rw (← same) at h in absurd (cc)

pub issued_to_each : {K : Type 0} (s : SessionTable K) (asked : List (ℕ × ℕ)) (client : ℕ) → IsStrictlySortedBy nat_cmp (keys_of asked) → session_of (issued_by asked s) client ≡ option_map (issued_at (lookup (is_at (nat_cmp client)) asked)) (session_of s client)
unfolding IsStrictlySortedBy
issued_to_each s [] client order = same_at_none (session_of s client)
issued_to_each {K} s (entry ∷ asked) client order =
    issued_to_each (with_issued s entry) asked client order.1
    ∙ (elim (is_at (nat_cmp client) entry.0) as (λ b. is_at (nat_cmp client) entry.0 ≡ b → option_map (issued_at (lookup (is_at (nat_cmp client)) asked)) (session_of (with_issued s entry) client) ≡ option_map (issued_at (cond b (Some entry.1) (lookup (is_at (nat_cmp client)) asked))) (session_of s client)) [
      | true ↦ (λ h.
          let same : client ≡ entry.0 = same_key client entry.0 h in
          let none : lookup (is_at (nat_cmp client)) asked ≡ None = none_up_to entry.0 asked order.0 client (no_further client entry.0 same) in
          let own : session_of (with_session s entry.0 (issued_through entry.1)) client ≡ option_map (issued_through entry.1) (session_of s client) = rw same (own_session s entry.0 (issued_through entry.1)) in
          ap (λ (o : Option ℕ). option_map (issued_at o) (session_of (with_issued s entry) client)) none
          ∙ ap (option_map (issued_at None)) own
          ∙ own_then_none entry.1 (session_of s client))
      | false ↦ (λ h. ap (option_map (issued_at (lookup (is_at (nat_cmp client)) asked))) (other_session s entry.0 (issued_through entry.1) client (other_key client entry.0 h)))
    ]) refl
