-- What holds of each client's session, and of each client without one, after a step of one session, a new session, or a table of invalidations.
use Rattle.std.proofs.Common.{◌≡◌, ◌≢◌, ℕ, List, true, false, Option, Some, None, refl, sym, subst, ◌∙◌}
use Rattle.std.specs.Option.{option_map}
use Rattle.std.specs.List.Sorted.{IsStrictlySortedBy}
use Rattle.std.specs.Map.{keys_of, lookup}
use Rattle.std.specs.BTreeMap.{is_at}
use Rattle.std.specs.Ordering.{nat_cmp}
use Rattle.tags_cell.specs.declared.messages.outs.Reply.{Reply}
use Rattle.session_core.specs.declared.records.Session.{Session}
use Rattle.session_core.specs.Sessions.{SessionTable, session_of, with_session, with_new, without, issued_by}
use Rattle.collections.proofs.OneKey.{lookup_removed, lookup_removed_apart}
use Rattle.session_core.specs.Laws.{issued_at}
use Rattle.session_core.proofs.IssuedBy.{issued_to_each}
use Rattle.session_core.proofs.Keys.{at_itself, same_key}
use Rattle.session_core.proofs.OneClient.{own_session, other_session, lookup_put, lookup_put_apart}

abbrev pub Each : (ℕ → Session Reply → Type 0) → SessionTable Reply → Type 0
Each P table = (client : ℕ) (session : Session Reply) → session_of table client ≡ Some session → P client session

abbrev pub EachWithout : (ℕ → Type 0) → SessionTable Reply → Type 0
EachWithout P table = (client : ℕ) → session_of table client ≡ None → P client

stepped_by : (P : Session Reply → Type 0) (o : Option (Session Reply)) (step : Session Reply → Session Reply) (session : Session Reply) → ((before : Session Reply) → o ≡ Some before → P (step before)) → option_map step o ≡ Some session → P session
stepped_by P None step session keeps h = absurd (cc)
stepped_by P (Some before) step session keeps h = let is : step before ≡ session = cc in subst P is (keeps before refl)

none_before : (o : Option (Session Reply)) (step : Session Reply → Session Reply) → option_map step o ≡ None → o ≡ None
none_before None step h = refl
none_before (Some before) step h = absurd (cc)

pub other_key : (a b : ℕ) → is_at (nat_cmp a) b ≡ false → a ≢ b
other_key a b h same = let at = at_itself a in let here : is_at (nat_cmp a) a ≡ false = rw (← same) at h in absurd (cc)

-- ---- a step of one client's session

pub step_each : (P : ℕ → Session Reply → Type 0) (table : SessionTable Reply) (client : ℕ) (step : Session Reply → Session Reply) → ((before : Session Reply) → session_of table client ≡ Some before → P client before → P client (step before)) → Each P table → Each P (with_session table client step)
step_each P table client step keeps h = λ q session found.
    (elim (is_at (nat_cmp q) client) as (λ b. is_at (nat_cmp q) client ≡ b → P q session) [
      | true ↦ (λ c.
          let same : q ≡ client = same_key q client c in
          let own : session_of (with_session table client step) client ≡ Some session = rw same at found in
          let Q : ℕ → Type 0 = λ n. P n session in
          subst Q (sym same) (stepped_by (P client) (session_of table client) step session (λ before there. keeps before there (h client before there)) (sym (own_session table client step) ∙ own)))
      | false ↦ (λ c. h q session (sym (other_session table client step q (other_key q client c)) ∙ found))
    ]) refl

pub step_without : (P : ℕ → Type 0) (table : SessionTable Reply) (client : ℕ) (step : Session Reply → Session Reply) → EachWithout P table → EachWithout P (with_session table client step)
step_without P table client step h = λ q none.
    (elim (is_at (nat_cmp q) client) as (λ b. is_at (nat_cmp q) client ≡ b → P q) [
      | true ↦ (λ c.
          let same : q ≡ client = same_key q client c in
          let own : session_of (with_session table client step) client ≡ None = rw same at none in
          let Q : ℕ → Type 0 = λ n. P n in
          subst Q (sym same) (h client (none_before (session_of table client) step (sym (own_session table client step) ∙ own))))
      | false ↦ (λ c. h q (sym (other_session table client step q (other_key q client c)) ∙ none))
    ]) refl

-- ---- a new session

pub new_each : (P : ℕ → Session Reply → Type 0) (table : SessionTable Reply) (client : ℕ) (new : Session Reply) → P client new → Each P table → Each P (with_new table client new)
new_each P table client new fresh h = λ q session found.
    (elim (is_at (nat_cmp q) client) as (λ b. is_at (nat_cmp q) client ≡ b → P q session) [
      | true ↦ (λ c.
          let same : q ≡ client = same_key q client c in
          let own : session_of (with_new table client new) client ≡ Some session = rw same at found in
          let is : Some new ≡ Some session = sym (lookup_put client table.sessions new) ∙ own in
          let Q : ℕ → Type 0 = λ n. P n session in
          let R : Session Reply → Type 0 = P client in
          let one : new ≡ session = cc in subst Q (sym same) (subst R one fresh))
      | false ↦ (λ c. h q session (sym (lookup_put_apart client q (other_key q client c) table.sessions new) ∙ found))
    ]) refl

pub new_without : (P : ℕ → Type 0) (table : SessionTable Reply) (client : ℕ) (new : Session Reply) → EachWithout P table → EachWithout P (with_new table client new)
new_without P table client new h = λ q none.
    (elim (is_at (nat_cmp q) client) as (λ b. is_at (nat_cmp q) client ≡ b → P q) [
      | true ↦ (λ c.
          let same : q ≡ client = same_key q client c in
          let own : session_of (with_new table client new) client ≡ None = rw same at none in
          let put = lookup_put client table.sessions new in
          absurd (cc))
      | false ↦ (λ c. h q (sym (lookup_put_apart client q (other_key q client c) table.sessions new) ∙ none))
    ]) refl

-- ---- a session that goes

pub gone_each : (P : ℕ → Session Reply → Type 0) (table : SessionTable Reply) (client : ℕ) → IsStrictlySortedBy nat_cmp (keys_of table.sessions) → Each P table → Each P (without table client)
gone_each P table client order h = λ q session found.
    (elim (is_at (nat_cmp q) client) as (λ b. is_at (nat_cmp q) client ≡ b → P q session) [
      | true ↦ (λ c.
          let same : q ≡ client = same_key q client c in
          let own : session_of (without table client) client ≡ Some session = rw same at found in
          let none = lookup_removed client table.sessions order in
          absurd (cc))
      | false ↦ (λ c. h q session (sym (lookup_removed_apart client q (other_key q client c) table.sessions) ∙ found))
    ]) refl

-- ---- a table of invalidations that were issued

pub issued_each : (P Q : ℕ → Session Reply → Type 0) (asked : List (ℕ × ℕ)) (table : SessionTable Reply) → IsStrictlySortedBy nat_cmp (keys_of asked) → ((client : ℕ) (before : Session Reply) → P client before → Q client (issued_at (lookup (is_at (nat_cmp client)) asked) before)) → Each P table → Each Q (issued_by asked table)
issued_each P Q asked table order keeps h = λ q session found.
    stepped_by (Q q) (session_of table q) (issued_at (lookup (is_at (nat_cmp q)) asked)) session (λ before there. keeps q before (h q before there)) (sym (issued_to_each table asked q order) ∙ found)

pub issued_without : (P : ℕ → Type 0) (asked : List (ℕ × ℕ)) (table : SessionTable Reply) → IsStrictlySortedBy nat_cmp (keys_of asked) → EachWithout P table → EachWithout P (issued_by asked table)
issued_without P asked table order h = λ q none.
    h q (none_before (session_of table q) (issued_at (lookup (is_at (nat_cmp q)) asked)) (sym (issued_to_each table asked q order) ∙ none))
