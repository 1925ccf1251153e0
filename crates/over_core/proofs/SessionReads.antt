-- What is read of each client's session, where a step leaves it.
use Rattle.std.proofs.Common.{◌≡◌, ℕ, List, Bool, true, false, Option, Some, None, refl, sym, ap, subst, ◌∙◌}
use Rattle.std.specs.Option.{option_map, option_map_or, option_and_then}
use Rattle.std.specs.List.Sorted.{IsStrictlySortedBy}
use Rattle.std.specs.Map.{keys_of, lookup}
use Rattle.std.specs.BTreeMap.{is_at}
use Rattle.std.specs.Ordering.{nat_cmp}
use Rattle.tags_cell.specs.declared.messages.outs.Reply.{Reply}
use Rattle.session_core.specs.declared.records.LastCall.{LastCall}
use Rattle.session_core.specs.declared.records.Session.{Session}
use Rattle.session_core.specs.Sessions.{SessionTable, session_of, with_session, with_new, without, issued_by}
use Rattle.collections.proofs.OneKey.{lookup_removed, lookup_removed_apart}
use Rattle.session_core.specs.Laws.{issued_at}
use Rattle.session_core.proofs.IssuedBy.{issued_to_each}
use Rattle.session_core.proofs.Keys.{same_key}
use Rattle.session_core.proofs.OneClient.{own_session, other_session, lookup_put, lookup_put_apart}
use Rattle.over_core.proofs.EachSession.{other_key}

-- whether it lives, and its last call
abbrev pub lives_in : Option (Session Reply) → Bool
lives_in found = option_map_or (λ session. session.live) found false

abbrev pub keeps_in : Option (Session Reply) → Option (LastCall Reply)
keeps_in found = option_and_then (λ session. session.kept) found

stepped : {X : Type 0} (reads : Option (Session Reply) → X) (o : Option (Session Reply)) (step : Session Reply → Session Reply) → ((before : Session Reply) → reads (Some (step before)) ≡ reads (Some before)) → reads (option_map step o) ≡ reads o
stepped reads None step keeps = refl
stepped reads (Some before) step keeps = keeps before

pub reads_step : {X : Type 0} (reads : Option (Session Reply) → X) (table : SessionTable Reply) (client : ℕ) (step : Session Reply → Session Reply) → ((before : Session Reply) → reads (Some (step before)) ≡ reads (Some before)) → (q : ℕ) → reads (session_of (with_session table client step) q) ≡ reads (session_of table q)
reads_step reads table client step keeps q =
    (elim (is_at (nat_cmp q) client) as (λ b. is_at (nat_cmp q) client ≡ b → reads (session_of (with_session table client step) q) ≡ reads (session_of table q)) [
      | true ↦ (λ c.
          let P : ℕ → Type 0 = λ n. reads (session_of (with_session table client step) n) ≡ reads (session_of table n) in
          subst P (sym (same_key q client c)) (ap reads (own_session table client step) ∙ stepped reads (session_of table client) step keeps))
      | false ↦ (λ c. ap reads (other_session table client step q (other_key q client c)))
    ]) refl

-- a new session of which the same is read as of none
pub reads_new : {X : Type 0} (reads : Option (Session Reply) → X) (table : SessionTable Reply) (client : ℕ) (new : Session Reply) → session_of table client ≡ None → reads (Some new) ≡ reads None → (q : ℕ) → reads (session_of (with_new table client new) q) ≡ reads (session_of table q)
reads_new reads table client new none same q =
    (elim (is_at (nat_cmp q) client) as (λ b. is_at (nat_cmp q) client ≡ b → reads (session_of (with_new table client new) q) ≡ reads (session_of table q)) [
      | true ↦ (λ c.
          let P : ℕ → Type 0 = λ n. reads (session_of (with_new table client new) n) ≡ reads (session_of table n) in
          subst P (sym (same_key q client c)) (ap reads (lookup_put client table.sessions new) ∙ same ∙ ap reads (sym none)))
      | false ↦ (λ c. ap reads (lookup_put_apart client q (other_key q client c) table.sessions new))
    ]) refl

-- a session that goes, of which the same is read as of none
pub reads_gone : {X : Type 0} (reads : Option (Session Reply) → X) (table : SessionTable Reply) (client : ℕ) (session : Session Reply) → IsStrictlySortedBy nat_cmp (keys_of table.sessions) → session_of table client ≡ Some session → reads (Some session) ≡ reads None → (q : ℕ) → reads (session_of (without table client) q) ≡ reads (session_of table q)
reads_gone reads table client session order found same q =
    (elim (is_at (nat_cmp q) client) as (λ b. is_at (nat_cmp q) client ≡ b → reads (session_of (without table client) q) ≡ reads (session_of table q)) [
      | true ↦ (λ c.
          let P : ℕ → Type 0 = λ n. reads (session_of (without table client) n) ≡ reads (session_of table n) in
          subst P (sym (same_key q client c)) (ap reads (lookup_removed client table.sessions order) ∙ sym same ∙ ap reads (sym found)))
      | false ↦ (λ c. ap reads (lookup_removed_apart client q (other_key q client c) table.sessions))
    ]) refl

-- all others live on
pub lives_new : (table : SessionTable Reply) (client : ℕ) (new : Session Reply) → new.live ≡ true → (q : ℕ) → lives_in (session_of table q) ≡ true → lives_in (session_of (with_new table client new) q) ≡ true
lives_new table client new live q h =
    (elim (is_at (nat_cmp q) client) as (λ b. is_at (nat_cmp q) client ≡ b → lives_in (session_of (with_new table client new) q) ≡ true) [
      | true ↦ (λ c.
          let P : ℕ → Type 0 = λ n. lives_in (session_of (with_new table client new) n) ≡ true in
          subst P (sym (same_key q client c)) (ap lives_in (lookup_put client table.sessions new) ∙ live))
      | false ↦ (λ c. ap lives_in (lookup_put_apart client q (other_key q client c) table.sessions new) ∙ h)
    ]) refl

pub reads_issued : {X : Type 0} (reads : Option (Session Reply) → X) (asked : List (ℕ × ℕ)) (table : SessionTable Reply) → IsStrictlySortedBy nat_cmp (keys_of asked) → ((o : Option ℕ) (before : Session Reply) → reads (Some (issued_at o before)) ≡ reads (Some before)) → (q : ℕ) → reads (session_of (issued_by asked table) q) ≡ reads (session_of table q)
reads_issued reads asked table order keeps q =
    ap reads (issued_to_each table asked q order) ∙ stepped reads (session_of table q) (issued_at (lookup (is_at (nat_cmp q)) asked)) (keeps (lookup (is_at (nat_cmp q)) asked))
