-- What is known of all sessions at once, as each step leaves them.
use Rattle.std.proofs.Common.{◌≡◌, ◌≢◌, ℕ, nat_eq, ◌<◌, ◌≤◌, ◌+◌, ◌-◌, ◌/◌, List, [], ◌∷◌, Bool, true, false, cond, Option, Some, None, refl, sym, ap, ◌∙◌, ◌⊎◌, ⊎_elim, inl, inr, arith, subst}
use Rattle.std.specs.Prelude.{not, ◌&&◌, ◌||◌, nat_le, max, min, All}
use Rattle.std.specs.Option.{option_map, option_map_or}
use Rattle.std.specs.List.{list_all, list_any}
use Rattle.std.specs.Ordering.{nat_cmp}
use Rattle.std.specs.Map.{values_of, lookup, set_value, remove_entry}
use Rattle.std.specs.BTreeMap.{is_at, insert_entry}
use Rattle.std.proofs.lemmas.Bool.Decides.{nat_tests}
use Rattle.std.proofs.lemmas.List.Elements.{All-nil, All-head, All-tail, All-weaker}
use Rattle.std.proofs.lemmas.Map.Views.{All-values-insert_entry, All-values-set_value, All-map-remove_entry}
use Rattle.lease_core.specs.Lease.{least_lease, longest_lease}
use Rattle.session_core.specs.declared.records.Parked.{Parked}
use Rattle.session_core.specs.declared.records.Session.{Session}
use Rattle.node_core.specs.Limits.{number_limit}
use Rattle.event_core.specs.Queue.{count_of, is_exhausted}
use Rattle.session_core.specs.Session.{events_of, owes, has_heard, nears_end, is_given_up, is_due, is_client_expired, is_due_by, is_client_due_by}
use Rattle.session_core.specs.Sessions.{SessionTable, has_spent_events, all_heard, passes, AreAllAmong}
use Rattle.collections.specs.Timers.{TimerState, never, has_key, wakes}
use Rattle.session_core.specs.declared.bounds.Bounds.{Bounds}
use Rattle.session_core.specs.declared.bounds.Moments.{Moments}
use Rattle.session_core.specs.Quiet.{end_moment, due_moment, answer_moment, moments_of, IsNoted, AreNoted, is_client_unheard, HaveAtMost}
use Rattle.collections.proofs.Keys.{same_key}
use Rattle.session_core.proofs.OneClient.{lookup_set, lookup_set_apart, lookup_put, lookup_put_apart}

-- ---- what is noted, as sessions come, change and go

-- each step's own session, and all others
abbrev pub KeepsOthers : ℕ → TimerState → TimerState → TimerState → TimerState → Type 0
KeepsOthers client ends answers ends' answers' = (k : ℕ) (m : Moments) → nat_eq k client ≡ false → IsNoted ends answers k m → IsNoted ends' answers' k m

same_number : (a b : ℕ) → nat_eq a b ≡ true → a ≡ b
same_number a b h = grind (arith, nat_tests)

other_number : (a b : ℕ) → nat_eq a b ≡ false → a ≢ b
other_number a b h = λ e. absurd (grind (arith, nat_tests))

pub none_noted : {K : Type 0} (lease : ℕ) (ends answers : TimerState) → AreNoted K lease ends answers []
none_noted {K} lease ends answers = record { each = λ client session found. absurd (cc) }

some_same : {K : Type 0} (a b : Session K) (o : Option (Session K)) → o ≡ Some a → o ≡ Some b → a ≡ b
some_same a b o h g = cc

noted_as : {K : Type 0} (lease : ℕ) (ends answers : TimerState) (client k : ℕ) (own session : Session K) (m : Moments) → m ≡ moments_of lease own → own ≡ session → k ≡ client → IsNoted ends answers client m → IsNoted ends answers k (moments_of lease session)
noted_as {K} lease ends answers client k own session m is same at h =
    let P : Session K → Type 0 = λ s. IsNoted ends answers k (moments_of lease s) in
    let Q : ℕ → Type 0 = λ n. IsNoted ends answers n (moments_of lease own) in
    subst P same (subst Q (sym at) (subst (IsNoted ends answers client) is h))

pub noted_with_new : {K : Type 0} (lease : ℕ) (ends answers ends' answers' : TimerState) (client : ℕ) (session : Session K) (m : Moments) (old new : List (ℕ × Session K)) → AreNoted K lease ends answers old → m ≡ moments_of lease session → IsNoted ends' answers' client m → ((k : ℕ) (n : Moments) → IsNoted ends answers k n → IsNoted ends' answers' k n) → new ≡ insert_entry nat_cmp old client session → AreNoted K lease ends' answers' new
noted_with_new {K} lease ends answers ends' answers' client session m old new h is own kept put = record {
  each = λ k s found.
      let there : lookup (is_at (nat_cmp k)) (insert_entry nat_cmp old client session) ≡ Some s = sym (ap (lookup (is_at (nat_cmp k))) put) ∙ found in
      (elim (nat_eq k client) as (λ b. nat_eq k client ≡ b → IsNoted ends' answers' k (moments_of lease s)) [
        | true ↦ (λ e.
            let at : k ≡ client = same_number k client e in
            let mine : lookup (is_at (nat_cmp k)) (insert_entry nat_cmp old client session) ≡ Some session = ap (λ n. lookup (is_at (nat_cmp n)) (insert_entry nat_cmp old client session)) at ∙ lookup_put client old session in
            noted_as lease ends' answers' client k session s m is (some_same session s _ mine there) at own)
        | false ↦ (λ e. kept k (moments_of lease s) (h.each k s (sym (lookup_put_apart client k (other_number k client e) old session) ∙ there)))
      ]) refl;
}

pub noted_changed : {K : Type 0} (lease : ℕ) (ends answers ends' answers' : TimerState) (client : ℕ) (before after : Session K) (m n : Moments) (old new : List (ℕ × Session K)) → AreNoted K lease ends answers old → lookup (is_at (nat_cmp client)) old ≡ Some before → m ≡ moments_of lease before → n ≡ moments_of lease after → (IsNoted ends answers client m → IsNoted ends' answers' client n) → KeepsOthers client ends answers ends' answers' → new ≡ set_value (is_at (nat_cmp client)) old after → AreNoted K lease ends' answers' new
noted_changed {K} lease ends answers ends' answers' client before after m n old new h was m_is n_is own others put = record {
  each = λ k s found.
      let there : lookup (is_at (nat_cmp k)) (set_value (is_at (nat_cmp client)) old after) ≡ Some s = sym (ap (lookup (is_at (nat_cmp k))) put) ∙ found in
      (elim (nat_eq k client) as (λ b. nat_eq k client ≡ b → IsNoted ends' answers' k (moments_of lease s)) [
        | true ↦ (λ e.
            let at : k ≡ client = same_number k client e in
            let set : lookup (is_at (nat_cmp k)) (set_value (is_at (nat_cmp client)) old after) ≡ Some after =
            ap (λ x. lookup (is_at (nat_cmp x)) (set_value (is_at (nat_cmp client)) old after)) at ∙ (lookup_set client old after ∙ ap (option_map (λ (w : Session K). after)) was) in
            let mine : IsNoted ends answers client m = subst (IsNoted ends answers client) (sym m_is) (h.each client before was) in
            noted_as lease ends' answers' client k after s n n_is (some_same after s _ set there) at (own mine))
        | false ↦ (λ e. others k (moments_of lease s) e (h.each k s (sym (lookup_set_apart client k (other_number k client e) old after) ∙ there)))
      ]) refl;
}

unless : {K : Type 0} (b : Bool) (o : Option (Session K)) (s : Session K) → cond b None o ≡ Some s → o ≡ Some s
unless true o s h = absurd (cc)
unless false o s h = h

pub noted_without : {K : Type 0} (lease : ℕ) (ends answers : TimerState) (client : ℕ) (old new : List (ℕ × Session K)) → AreNoted K lease ends answers old → ((q : ℕ) → lookup (is_at (nat_cmp q)) new ≡ cond (is_at (nat_cmp client) q) None (lookup (is_at (nat_cmp q)) old)) → AreNoted K lease ends answers new
noted_without {K} lease ends answers client old new h is = record {
  each = λ k s found. h.each k s (unless (is_at (nat_cmp client) k) (lookup (is_at (nat_cmp k)) old) s (sym (is k) ∙ found));
}

pub noted_more : {K : Type 0} (lease : ℕ) (ends answers ends' answers' : TimerState) (entries : List (ℕ × Session K)) → AreNoted K lease ends answers entries → ((k : ℕ) (n : Moments) → IsNoted ends answers k n → IsNoted ends' answers' k n) → AreNoted K lease ends' answers' entries
noted_more {K} lease ends answers ends' answers' entries h kept = record { each = λ k s found. kept k (moments_of lease s) (h.each k s found) }

-- ---- all are noted, one behind the other

-- each session is noted, or is one of those that are left
pub record AreLeft (K : Type 0) (lease : ℕ) (ends answers : TimerState) (left all : List (ℕ × Session K)) : Type 0 where
  pub each : (k : ℕ) (s : Session K) → lookup (is_at (nat_cmp k)) all ≡ Some s → (lookup (is_at (nat_cmp k)) left ≡ Some s) ⊎ IsNoted ends answers k (moments_of lease s)

pub all_left : {K : Type 0} (lease : ℕ) (ends answers : TimerState) (left all : List (ℕ × Session K)) → left ≡ all → AreLeft K lease ends answers left all
all_left lease ends answers left all same = record { each = λ k s found. inl (ap (lookup (is_at (nat_cmp k))) same ∙ found) }

pub one_less : {K : Type 0} (lease : ℕ) (ends answers ends' answers' : TimerState) (left next all : List (ℕ × Session K)) (client : ℕ) (session : Session K) (m : Moments) → AreLeft K lease ends answers left all → left ≡ (client, session) ∷ next → m ≡ moments_of lease session → IsNoted ends' answers' client m → ((k : ℕ) (n : Moments) → IsNoted ends answers k n → IsNoted ends' answers' k n) → AreLeft K lease ends' answers' next all
one_less {K} lease ends answers ends' answers' left next all client session m h steps is own kept = record {
  each = λ k s found. ⊎_elim (λ there. here k s (sym (ap (lookup (is_at (nat_cmp k))) steps) ∙ there)) (λ noted. inr (kept k (moments_of lease s) noted)) (h.each k s found);
}
  where
    here : (k : ℕ) (s : Session K) → lookup (is_at (nat_cmp k)) ((client, session) ∷ next) ≡ Some s → (lookup (is_at (nat_cmp k)) next ≡ Some s) ⊎ IsNoted ends' answers' k (moments_of lease s)
    here k s there =
        (elim (is_at (nat_cmp k) client) as (λ b. is_at (nat_cmp k) client ≡ b → cond b (Some session) (lookup (is_at (nat_cmp k)) next) ≡ Some s → (lookup (is_at (nat_cmp k)) next ≡ Some s) ⊎ IsNoted ends' answers' k (moments_of lease s)) [
          | true ↦ (λ at found. inr (noted_as lease ends' answers' client k session s m is (some_same session s _ refl found) (same_key k client at) own))
          | false ↦ (λ differs found. inl found)
        ]) refl there

pub none_left : {K : Type 0} (lease : ℕ) (ends answers : TimerState) (left all : List (ℕ × Session K)) → AreLeft K lease ends answers left all → left ≡ [] → AreNoted K lease ends answers all
none_left {K} lease ends answers left all h steps = record {
  each = λ k s found.
      ⊎_elim (λ there. absurd (none_there k s (sym (ap (lookup (is_at (nat_cmp k))) steps) ∙ there))) (λ noted. noted) (h.each k s found);
}
  where
    none_there : (k : ℕ) (s : Session K) → lookup (is_at (nat_cmp k)) [] ≡ Some s → ⊥
    none_there k s e = absurd (cc)

-- ---- one session is put off to its own moment

pub noted_end : {K : Type 0} (lease : ℕ) (ends answers ends' : TimerState) (client moment : ℕ) (entries : List (ℕ × Session K)) → AreNoted K lease ends answers entries → moment ≡ option_map_or end_moment (lookup (is_at (nat_cmp client)) entries) never → wakes ends' client moment ≡ true → ((k m : ℕ) → nat_eq k client ≡ false → wakes ends k m ≡ true → wakes ends' k m ≡ true) → AreNoted K lease ends' answers entries
noted_end {K} lease ends answers ends' client moment entries h is own others = record {
  each = λ k s found.
      (elim (nat_eq k client) as (λ b. nat_eq k client ≡ b → IsNoted ends' answers k (moments_of lease s)) [
        | true ↦ (λ e.
            let at : k ≡ client = same_number k client e in
            let of_own : moment ≡ end_moment s = is ∙ (ap (λ n. option_map_or end_moment (lookup (is_at (nat_cmp n)) entries) never) (sym at) ∙ ap (λ (o : Option (Session K)). option_map_or end_moment o never) found) in
            (ap (λ n. wakes ends' n (end_moment s)) at ∙ (ap (wakes ends' client) (sym of_own) ∙ own), (h.each k s found).1))
        | false ↦ (λ e. (others k (end_moment s) e (h.each k s found).0, (h.each k s found).1))
      ]) refl;
}

pub noted_answer : {K : Type 0} (lease : ℕ) (ends answers answers' : TimerState) (client moment : ℕ) (entries : List (ℕ × Session K)) → AreNoted K lease ends answers entries → moment ≡ option_map_or (answer_moment lease) (lookup (is_at (nat_cmp client)) entries) never → wakes answers' client moment ≡ true → ((k m : ℕ) → nat_eq k client ≡ false → wakes answers k m ≡ true → wakes answers' k m ≡ true) → AreNoted K lease ends answers' entries
noted_answer {K} lease ends answers answers' client moment entries h is own others = record {
  each = λ k s found.
      (elim (nat_eq k client) as (λ b. nat_eq k client ≡ b → IsNoted ends answers' k (moments_of lease s)) [
        | true ↦ (λ e.
            let at : k ≡ client = same_number k client e in
            let of_own : moment ≡ answer_moment lease s = is ∙ (ap (λ n. option_map_or (answer_moment lease) (lookup (is_at (nat_cmp n)) entries) never) (sym at) ∙ ap (λ (o : Option (Session K)). option_map_or (answer_moment lease) o never) found) in
            ((h.each k s found).0, ap (λ n. wakes answers' n (answer_moment lease s)) at ∙ (ap (wakes answers' client) (sym of_own) ∙ own)))
        | false ↦ (λ e. ((h.each k s found).0, others k (answer_moment lease s) e (h.each k s found).1))
      ]) refl;
}

-- ---- how many events a session has, as sessions come, change and go

-- a session has no more events than this
abbrev Within : {K : Type 0} → ℕ → Session K → Type 0
Within most session = count_of (events_of session) ≤ most

within_more : {K : Type 0} (most more : ℕ) (entries : List (ℕ × Session K)) → most ≤ more → HaveAtMost K most entries → All (Within {K = K} more) (values_of entries)
within_more {K} most more entries le h = All-weaker (Within {K = K} most) (Within more) (λ session k. omega arith) (values_of entries) h.all

own_within : (most count own : ℕ) → count ≡ own → own ≤ max most count
own_within most count own h = omega arith

pub none_within : {K : Type 0} (most : ℕ) → HaveAtMost K most []
none_within {K} most = record { all = All-nil (Within {K = K} most) }

within_with_new : {K : Type 0} (most more client : ℕ) (session : Session K) (old new : List (ℕ × Session K)) → HaveAtMost K most old → more ≡ max most (count_of (events_of session)) → new ≡ insert_entry nat_cmp old client session → HaveAtMost K more new
within_with_new {K} most more client session old new h is put = record {
  all =
      let kept = within_more most more old (omega arith) h in
      let own : count_of (events_of session) ≤ more = omega arith in
      let P : List (ℕ × Session K) → Type 0 = λ es. All (Within {K = K} more) (values_of es) in
      subst P (sym put) (All-values-insert_entry nat_cmp client session (Within more) old kept own);
}

within_changed : {K : Type 0} (most more client : ℕ) (session : Session K) (old new : List (ℕ × Session K)) → HaveAtMost K most old → more ≡ max most (count_of (events_of session)) → new ≡ set_value (is_at (nat_cmp client)) old session → HaveAtMost K more new
within_changed {K} most more client session old new h is put = record {
  all =
      let kept = within_more most more old (omega arith) h in
      let own : count_of (events_of session) ≤ more = omega arith in
      let P : List (ℕ × Session K) → Type 0 = λ es. All (Within {K = K} more) (values_of es) in
      subst P (sym put) (All-values-set_value (is_at (nat_cmp client)) (Within more) old session kept own);
}

within_without : {K : Type 0} (most client : ℕ) (old new : List (ℕ × Session K)) → HaveAtMost K most old → new ≡ remove_entry (is_at (nat_cmp client)) old → HaveAtMost K most new
within_without {K} most client old new h is = record {
  all =
      let P : List (ℕ × Session K) → Type 0 = λ es. All (Within {K = K} most) (values_of es) in
      subst P (sym is) (All-map-remove_entry (is_at (nat_cmp client)) (λ (e : ℕ × Session K). e.1) (Within most) old h.all);
}

-- ---- what is kept of all sessions

abbrev pub IsKept : (K : Type 0) → ℕ → Bounds → List (ℕ × Session K) → Type 0
IsKept K lease bounds entries = (least_lease ≤ lease) × (lease ≤ longest_lease) × AreNoted K lease bounds.ends bounds.answers entries × HaveAtMost K bounds.most_events entries

pub kept_with_new : {K : Type 0} (lease : ℕ) (bounds new_bounds : Bounds) (client : ℕ) (session : Session K) (m : Moments) (count : ℕ) (old new : List (ℕ × Session K)) → IsKept K lease bounds old → m ≡ moments_of lease session → count ≡ count_of (events_of session) → new_bounds.most_events ≡ max bounds.most_events count → IsNoted new_bounds.ends new_bounds.answers client m → ((k : ℕ) (n : Moments) → IsNoted bounds.ends bounds.answers k n → IsNoted new_bounds.ends new_bounds.answers k n) → new ≡ insert_entry nat_cmp old client session → IsKept K lease new_bounds new
kept_with_new {K} lease bounds new_bounds client session m count old new h is count_is more own kept put =
    (h.0, h.1, noted_with_new lease bounds.ends bounds.answers new_bounds.ends new_bounds.answers client session m old new h.2 is own kept put, within_with_new bounds.most_events new_bounds.most_events client session old new h.3 (more ∙ ap (max bounds.most_events) count_is) put)

pub kept_changed : {K : Type 0} (lease : ℕ) (bounds new_bounds : Bounds) (client : ℕ) (before after : Session K) (m n : Moments) (count : ℕ) (old new : List (ℕ × Session K)) → IsKept K lease bounds old → lookup (is_at (nat_cmp client)) old ≡ Some before → m ≡ moments_of lease before → n ≡ moments_of lease after → count ≡ count_of (events_of after) → new_bounds.most_events ≡ max bounds.most_events count → (IsNoted bounds.ends bounds.answers client m → IsNoted new_bounds.ends new_bounds.answers client n) → KeepsOthers client bounds.ends bounds.answers new_bounds.ends new_bounds.answers → new ≡ set_value (is_at (nat_cmp client)) old after → IsKept K lease new_bounds new
kept_changed {K} lease bounds new_bounds client before after m n count old new h was m_is n_is count_is more own others put =
    (h.0, h.1, noted_changed lease bounds.ends bounds.answers new_bounds.ends new_bounds.answers client before after m n old new h.2 was m_is n_is own others put, within_changed bounds.most_events new_bounds.most_events client after old new h.3 (more ∙ ap (max bounds.most_events) count_is) put)

pub kept_without : {K : Type 0} (lease : ℕ) (bounds : Bounds) (client : ℕ) (old new : List (ℕ × Session K)) → IsKept K lease bounds old → ((q : ℕ) → lookup (is_at (nat_cmp q)) new ≡ cond (is_at (nat_cmp client) q) None (lookup (is_at (nat_cmp q)) old)) → new ≡ remove_entry (is_at (nat_cmp client)) old → IsKept K lease bounds new
kept_without lease bounds client old new h is put = (h.0, h.1, noted_without lease bounds.ends bounds.answers client old new h.2 is, within_without bounds.most_events client old new h.3 put)

pub kept_turned : {K : Type 0} (lease : ℕ) (bounds new_bounds : Bounds) (entries : List (ℕ × Session K)) → IsKept K lease bounds entries → new_bounds.most_events ≡ bounds.most_events → ((k : ℕ) (n : Moments) → IsNoted bounds.ends bounds.answers k n → IsNoted new_bounds.ends new_bounds.answers k n) → IsKept K lease new_bounds entries
kept_turned {K} lease bounds new_bounds entries h same kept =
    let P : ℕ → Type 0 = λ most. HaveAtMost K most entries in
    (h.0, h.1, noted_more lease bounds.ends bounds.answers new_bounds.ends new_bounds.answers entries h.2 kept, subst P (sym same) h.3)

-- all are noted anew, and then looked for
pub kept_again : {K : Type 0} (lease : ℕ) (bounds noted turned : Bounds) (entries : List (ℕ × Session K)) → IsKept K lease bounds entries → noted.most_events ≡ bounds.most_events → AreNoted K lease noted.ends noted.answers entries → turned.most_events ≡ noted.most_events → ((k : ℕ) (n : Moments) → IsNoted noted.ends noted.answers k n → IsNoted turned.ends turned.answers k n) → IsKept K lease turned entries
kept_again {K} lease bounds noted turned entries h same there again kept =
    let P : ℕ → Type 0 = λ most. HaveAtMost K most entries in
    kept_turned lease noted turned entries (h.0, h.1, there, subst P (sym same) h.3) again kept

-- ---- below that number no session's events are at their end

unspent : (most count : ℕ) → most < number_limit → count ≤ most → nat_le number_limit count ≡ false
unspent most count lt le = grind (arith, nat_tests)

none_spent : {K : Type 0} (most : ℕ) (es : List (ℕ × Session K)) → most < number_limit → All (Within {K = K} most) (values_of es) → list_any (λ e. is_exhausted (events_of e.1)) es ≡ false
none_spent most [] lt h = refl
none_spent {K} most (e ∷ es) lt h =
    rw (unspent most (count_of (events_of e.1)) lt (All-head (Within {K = K} most) e.1 (values_of es) h)) (none_spent most es lt (All-tail (Within {K = K} most) e.1 (values_of es) h))

pub nobody_is_spent : {K : Type 0} (view s : SessionTable K) (most : ℕ) → view ≡ s → HaveAtMost K most view.sessions → most < number_limit → false ≡ has_spent_events s
nobody_is_spent view s most same h lt = sym (none_spent most view.sessions lt h.all) ∙ ap has_spent_events same

-- ---- who is to be looked at by a moment

ends_by : (live : Bool) (timeout now : ℕ) → (live && nat_le timeout now) ≡ true → cond live timeout never ≤ now
ends_by true timeout now h = grind (arith, nat_tests)
ends_by false timeout now h = absurd (cc)

answers_by : (live up owing : Bool) (timeout limit now : ℕ) → (live && (not up && (owing || nat_le (timeout - now) limit))) ≡ true → cond (live && not up) (cond owing 0 (timeout - limit)) never ≤ now
answers_by true true owing timeout limit now h = absurd (cc)
answers_by true false true timeout limit now h = omega arith
answers_by true false false timeout limit now h = grind (arith, nat_tests)
answers_by false up owing timeout limit now h = absurd (cc)

due_by : {K : Type 0} (lease now : ℕ) (session : Session K) → is_due lease now session ≡ true → answer_moment lease session ≤ now
due_by {K} lease now session h =
    (elim session.parked as (λ (o : Option Parked). option_map_or (λ beat. session.live && (not (is_given_up lease beat session) && (owes session || nears_end lease now session))) o false ≡ true → option_map_or (λ beat. cond (session.live && not (is_given_up lease beat session)) (due_moment lease session) never) o never ≤ now) [
      | None ↦ (λ k. absurd (cc))
      | Some beat ↦ (λ k. answers_by session.live (is_given_up lease beat session) (owes session) (min session.timeout session.lease_end) (3000 + lease / 16) now k)
    ]) h

and_first : (a b : Bool) → (a && b) ≡ true → a ≡ true
and_first true b h = refl
and_first false b h = absurd (cc)

-- whether or not a session is spared
due_all : {K : Type 0} (spares : Bool) (lease now : ℕ) (session : Session K) → is_due_by spares lease now session ≡ true → is_due lease now session ≡ true
due_all false lease now session h = h
due_all true lease now session h = and_first (is_due lease now session) _ h

and_second : (a b : Bool) → (a && b) ≡ true → b ≡ true
and_second true b h = h
and_second false b h = absurd (cc)

-- the session of a client that passes
passing : {K : Type 0} (s : SessionTable K) (test : ℕ → Session K → Bool) (client : ℕ) (P : Type 0) → ((session : Session K) → lookup (is_at (nat_cmp client)) s.sessions ≡ Some session → test client session ≡ true → P) → passes s test client ≡ true → P
passing {K} s test client P f h =
    (elim (lookup (is_at (nat_cmp client)) s.sessions) as (λ o. lookup (is_at (nat_cmp client)) s.sessions ≡ o → option_map_or (test client) o false ≡ true → P) [
      | None ↦ (λ e k. absurd (cc))
      | Some session ↦ (λ e k. f session e k)
    ]) refl h

pub ends_among : {K : Type 0} (view s : SessionTable K) (ends answers : TimerState) (clients : List ℕ) (now : ℕ) → view ≡ s → AreNoted K view.lease ends answers view.sessions → ((k m : ℕ) → wakes ends k m ≡ true → m ≤ now → has_key clients k ≡ true) → AreAllAmong s (is_client_expired now) clients
ends_among {K} view s ends answers clients now same h known =
    let P : SessionTable K → Type 0 = λ x. AreAllAmong x (is_client_expired now) clients in
    subst P same (λ client. passing view (is_client_expired now) client (has_key clients client ≡ true) (λ session there holds. known client (end_moment session) (h.each client session there).0 (ends_by session.live session.timeout now holds)))

pub answers_among : {K : Type 0} (view s : SessionTable K) (ends answers : TimerState) (clients : List ℕ) (spares : Bool) (now : ℕ) → view ≡ s → AreNoted K view.lease ends answers view.sessions → ((k m : ℕ) → wakes answers k m ≡ true → m ≤ now → has_key clients k ≡ true) → AreAllAmong s (is_client_due_by spares s.lease now) clients
answers_among {K} view s ends answers clients spares now same h known =
    let P : SessionTable K → Type 0 = λ x. AreAllAmong x (is_client_due_by spares x.lease now) clients in
    subst P same (λ client. passing view (is_client_due_by spares view.lease now) client (has_key clients client ≡ true) (λ session there holds. known client (answer_moment view.lease session) (h.each client session there).1 (due_by view.lease now session (due_all spares view.lease now session (and_second _ (is_due_by spares view.lease now session) holds)))))

-- ---- one that wasn't heard from

first_false : (a b : Bool) → not a ≡ true → (a && b) ≡ false
first_false true b h = absurd (cc)
first_false false b h = refl

and_false : (a b : Bool) → b ≡ false → (a && b) ≡ false
and_false true b h = h
and_false false b h = refl

unheard_in : {K : Type 0} (test : ℕ → Bool) (es : List (ℕ × Session K)) → option_map_or (λ session. not (has_heard session)) (lookup test es) false ≡ true → list_all (λ e. has_heard e.1) es ≡ false
unheard_in test [] h = absurd (cc)
unheard_in {K} test (e ∷ es) h =
    (elim (test e.0) as (λ b. option_map_or (λ (session : Session K). not (has_heard session)) (cond b (Some e.1) (lookup test es)) false ≡ true → (has_heard e.1 && list_all (λ d. has_heard d.1) es) ≡ false) [
      | true ↦ (λ k. first_false (has_heard e.1) (list_all (λ d. has_heard d.1) es) k)
      | false ↦ (λ k. and_false (has_heard e.1) (list_all (λ d. has_heard d.1) es) (unheard_in test es k))
    ]) h

pub one_unheard : {K : Type 0} (s : SessionTable K) (client : ℕ) → passes s is_client_unheard client ≡ true → all_heard s ≡ false
one_unheard {K} s client h = unheard_in (is_at (nat_cmp client)) s.sessions h
