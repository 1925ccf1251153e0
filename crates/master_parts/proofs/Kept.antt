-- What leaves a node that isn't to go as it is.
use Rattle.std.proofs.Common.{◌≡◌, ◌≢◌, ℕ, List, [], ◌∷◌, Bool, ◌⊎◌, inl, inr, ⊎_elim, true, false, cond, Option, Some, None, Result, Ok, Err, Ordering, Less, Equal, Greater, refl, sym, ap, subst, ◌∙◌}
use Rattle.std.specs.Prelude.{◌+◌, ◌++◌, ◌&&◌, ◌||◌, ◌==◌, not, OnOk, OnErr}
use Rattle.std.specs.List.{list_any}
use Rattle.std.specs.Option.{option_map, option_map_or}
use Rattle.std.specs.Ordering.{nat_cmp, match_ordering}
use Rattle.std.specs.Map.{keys_of, lookup, remove_entry}
use Rattle.std.specs.BTreeMap.{is_at, insert_entry}
use Rattle.tags_cell.specs.declared.messages.outs.Reply.{Reply}
use Rattle.node_core.specs.declared.nodes.Node.{Node}
use Rattle.node_core.specs.Nodes.{Nodes}
use Rattle.rights_core.specs.declared.cache_rights.CacheRight.{CacheRight}
use Rattle.gate_core.specs.declared.pending.Pending.{Pending}
use Rattle.gate_core.specs.Gate.{with_change}
use Rattle.gate_core.specs.Queue.{QueueState}
use Rattle.session_core.specs.declared.records.Session.{Session}
use Rattle.session_core.specs.Session.{issued_through}
use Rattle.session_core.specs.Sessions.{SessionTable, session_of, is_live, with_session, with_new, without, with_issued, issued_by}
use Rattle.session_core.proofs.Keys.{at_itself, same_key, apart}
use Rattle.collections.proofs.OneKey.{lookup_removed_apart}
use Rattle.session_core.proofs.OneClient.{own_session, other_session, lookup_put_apart}
use Rattle.master_parts.specs.declared.handles.HandleKey.{HandleKey}
use Rattle.master_parts.specs.declared.handles.HandleState.{HandleState}
use Rattle.master_parts.specs.declared.handles.HandleState.TheVariants.{Open, Closed}
use Rattle.master_parts.specs.declared.pending.Task.{Task}
use Rattle.master_parts.specs.OpenHandles.{is_open_in}
use Rattle.master_parts.specs.EphemeralNames.{is_ephemeral}
use Rattle.master_parts.proofs.Found.{first_of_both}
use Rattle.master_parts.specs.State.{TableState}
use Rattle.master_parts.specs.Ephemerals.{is_held_open, must_stay, has_its_turn, tidies, goes}
use Rattle.master_parts.specs.Candidates.{CandidateState, Has, Leads, HaveToGo, AreFound, HaveNumbers, AreCandidates}

-- ---- tests

pub second_of_both : (a b : Bool) → (a && b) ≡ true → b ≡ true
second_of_both true b h = h
second_of_both false b h = absurd (cc)

pub both_of : (a b : Bool) → a ≡ true → b ≡ true → (a && b) ≡ true
both_of a b h k = rw h k

pub or_first : (a b : Bool) → a ≡ true → (a || b) ≡ true
or_first a b h = rw h refl

pub or_rest : (a b : Bool) → b ≡ true → (a || b) ≡ true
or_rest true b h = refl
or_rest false b h = h

-- whoever is not the more isn't the less
without_less : (a less more : Bool) → (less ≡ true → more ≡ true) → (a && not more) ≡ true → (a && not less) ≡ true
without_less false less more f h = h
without_less true true true f h = h
without_less true true false f h = f refl
without_less true false more f h = refl

pub any_more : {X : Type 0} (f g : X → Bool) (xs : List X) → ((x : X) → f x ≡ true → g x ≡ true) → list_any f xs ≡ true → list_any g xs ≡ true
any_more f g [] more h = h
any_more f g (x ∷ xs) more h =
    (elim (f x) as (λ b. f x ≡ b → (b || list_any f xs) ≡ true → list_any g (x ∷ xs) ≡ true) [
      | true ↦ (λ c k. or_first (g x) (list_any g xs) (more x c))
      | false ↦ (λ c k. or_rest (g x) (list_any g xs) (any_more f g xs more k))
    ]) refl h

pub any_before : {X : Type 0} (f : X → Bool) (xs : List X) (x : X) → list_any f xs ≡ true → list_any f (xs ++ x ∷ []) ≡ true
any_before f [] x h = absurd (cc)
any_before f (y ∷ ys) x h =
    (elim (f y) as (λ b. f y ≡ b → (b || list_any f ys) ≡ true → list_any f (y ∷ (ys ++ x ∷ [])) ≡ true) [
      | true ↦ (λ c k. or_first (f y) (list_any f (ys ++ x ∷ [])) c)
      | false ↦ (λ c k. or_rest (f y) (list_any f (ys ++ x ∷ [])) (any_before f ys x k))
    ]) refl h

-- ---- a node that is to go was to go before

pub went : (old new : TableState) (q : List ℕ) (w : Node) → (is_held_open old w.instance ≡ true → is_held_open new w.instance ≡ true) → (must_stay old.nodes q ≡ true → must_stay new.nodes q ≡ true) → (has_its_turn old w.instance ≡ true → has_its_turn new w.instance ≡ true) → goes new (q, w) ≡ true → goes old (q, w) ≡ true
went old new q w holding stay turn h =
    let e : Bool = is_ephemeral w.life in
    let o : Bool = is_held_open old w.instance in
    let p : Bool = is_held_open new w.instance in
    let s : Bool = must_stay old.nodes q in
    let t : Bool = must_stay new.nodes q in
    let free : (e && not p && not t) ≡ true = first_of_both (e && not p && not t) (not (has_its_turn new w.instance)) h in
    let closed : (e && not p) ≡ true = first_of_both (e && not p) (not t) free in
    let was_closed : (e && not o) ≡ true = without_less e o p holding closed in
    let was_free : (e && not o && not s) ≡ true = without_less (e && not o) s t stay (both_of (e && not o) (not t) was_closed (second_of_both (e && not p) (not t) free)) in
    without_less (e && not o && not s) (has_its_turn old w.instance) (has_its_turn new w.instance) turn (both_of (e && not o && not s) (not (has_its_turn new w.instance)) was_free (second_of_both (e && not p && not t) (not (has_its_turn new w.instance)) h))

pub is_closed : (t : TableState) (q : List ℕ) (w : Node) → goes t (q, w) ≡ true → is_held_open t w.instance ≡ false
is_closed t q w h =
    let e : Bool = is_ephemeral w.life in
    let p : Bool = is_held_open t w.instance in
    let s : Bool = must_stay t.nodes q in
    let closed : (e && not p) ≡ true = first_of_both (e && not p) (not s) (first_of_both (e && not p && not s) (not (has_its_turn t w.instance)) h) in
    turned p (second_of_both e (not p) closed)
  where
    turned : (p : Bool) → not p ≡ true → p ≡ false
    turned true k = sym k
    turned false k = refl

pub is_childless : (t : TableState) (q : List ℕ) (w : Node) → goes t (q, w) ≡ true → must_stay t.nodes q ≡ false
is_childless t q w h =
    let e : Bool = is_ephemeral w.life in
    let p : Bool = is_held_open t w.instance in
    let s : Bool = must_stay t.nodes q in
    turned s (second_of_both (e && not p) (not s) (first_of_both (e && not p && not s) (not (has_its_turn t w.instance)) h))
  where
    turned : (p : Bool) → not p ≡ true → p ≡ false
    turned true k = sym k
    turned false k = refl

pub has_no_turn : (t : TableState) (q : List ℕ) (w : Node) → goes t (q, w) ≡ true → has_its_turn t w.instance ≡ false
has_no_turn t q w h =
    let e : Bool = is_ephemeral w.life in
    let p : Bool = is_held_open t w.instance in
    let s : Bool = must_stay t.nodes q in
    turned (has_its_turn t w.instance) (second_of_both (e && not p && not s) (not (has_its_turn t w.instance)) h)
  where
    turned : (p : Bool) → not p ≡ true → p ≡ false
    turned true k = sym k
    turned false k = refl

pub is_short_lived : (t : TableState) (q : List ℕ) (w : Node) → goes t (q, w) ≡ true → is_ephemeral w.life ≡ true
is_short_lived t q w h =
    let e : Bool = is_ephemeral w.life in
    let p : Bool = is_held_open t w.instance in
    let s : Bool = must_stay t.nodes q in
    first_of_both e (not p) (first_of_both (e && not p) (not s) (first_of_both (e && not p && not s) (not (has_its_turn t w.instance)) h))

-- ---- sessions

-- who was live is live
abbrev pub LiveOn : SessionTable Reply → SessionTable Reply → Type 0
LiveOn old new = (client : ℕ) → is_live old client ≡ true → is_live new client ≡ true

abbrev live_of : Option (Session Reply) → Bool
live_of o = option_map_or (λ session. session.live) o false

stepped_live : (o : Option (Session Reply)) (step : Session Reply → Session Reply) → ((session : Session Reply) → (step session).live ≡ session.live) → live_of o ≡ true → live_of (option_map step o) ≡ true
stepped_live None step keeps h = h
stepped_live (Some session) step keeps h = keeps session ∙ h

-- who isn't this client
pub other_live : (s : SessionTable Reply) (client : ℕ) (step : Session Reply → Session Reply) (q : ℕ) → is_at (nat_cmp q) client ≡ false → is_live s q ≡ true → is_live (with_session s client step) q ≡ true
other_live s client step q differs live =
    let e : q ≢ client = λ same. let t : is_at (nat_cmp q) client ≡ true = ap (λ x. is_at (nat_cmp q) x) (sym same) ∙ at_itself q in absurd (cc) in
    ap live_of (other_session s client step q e) ∙ live

pub step_lives_on : (s : SessionTable Reply) (client : ℕ) (step : Session Reply → Session Reply) → ((session : Session Reply) → (step session).live ≡ session.live) → LiveOn s (with_session s client step)
step_lives_on s client step keeps q live =
    (elim (is_at (nat_cmp q) client) as (λ b. is_at (nat_cmp q) client ≡ b → is_live (with_session s client step) q ≡ true) [
      | true ↦ (λ c.
          let P : ℕ → Type 0 = λ x. is_live s x ≡ true in
          let Q : ℕ → Type 0 = λ x. is_live (with_session s client step) x ≡ true in
          let same : q ≡ client = same_key q client c in
          let mine : Q client = ap live_of (own_session s client step) ∙ stepped_live (session_of s client) step keeps (subst P same live) in
          subst Q (sym same) mine)
      | false ↦ (λ c. other_live s client step q c live)
    ]) refl

pub issued_lives_on : (s : SessionTable Reply) (asked : List (ℕ × ℕ)) → LiveOn s (issued_by asked s)
issued_lives_on s [] q live = live
issued_lives_on s (e ∷ es) q live = issued_lives_on (with_issued s e) es q (step_lives_on s e.0 (issued_through e.1) (λ session. refl) q live)

pub new_lives_on : (s : SessionTable Reply) (client : ℕ) (session : Session Reply) → session_of s client ≡ None → LiveOn s (with_new s client session)
new_lives_on s client session none q live =
    (elim (is_at (nat_cmp q) client) as (λ b. is_at (nat_cmp q) client ≡ b → is_live (with_new s client session) q ≡ true) [
      | true ↦ (λ c.
          let P : ℕ → Type 0 = λ x. is_live s x ≡ true in
          let same : q ≡ client = same_key q client c in
          let mine : is_live s client ≡ true = subst P same live in
          let dead : is_live s client ≡ false = ap live_of none in
          absurd (cc))
      | false ↦ (λ c.
          let e : q ≢ client = λ same. let t : is_at (nat_cmp q) client ≡ true = ap (λ x. is_at (nat_cmp q) x) (sym same) ∙ at_itself q in absurd (cc) in
          ap live_of (lookup_put_apart client q e s.sessions session) ∙ live)
    ]) refl

-- one that has ended goes
pub gone_lives_on : (s : SessionTable Reply) (client : ℕ) → is_live s client ≡ false → LiveOn s (without s client)
gone_lives_on s client ended q live =
    (elim (is_at (nat_cmp q) client) as (λ b. is_at (nat_cmp q) client ≡ b → is_live (without s client) q ≡ true) [
      | true ↦ (λ c.
          let P : ℕ → Type 0 = λ x. is_live s x ≡ true in
          let mine : is_live s client ≡ true = subst P (same_key q client c) live in
          absurd (cc))
      | false ↦ (λ c.
          let e : q ≢ client = λ same. let t : is_at (nat_cmp q) client ≡ true = ap (λ x. is_at (nat_cmp q) x) (sym same) ∙ at_itself q in absurd (cc) in
          ap live_of (lookup_removed_apart client q e s.sessions) ∙ live)
    ]) refl

-- ---- handles

pub open_more : (s new : SessionTable Reply) (i : ℕ) (key : HandleKey) (state : HandleState) → (is_live s key.client ≡ true → is_live new key.client ≡ true) → is_open_in s i key state ≡ true → is_open_in new i key state ≡ true
open_more s new i key Closed f h = h
open_more s new i key (Open noted) f h =
    let on : Bool = noted.handle.instance == i in
    both_of on (is_live new key.client) (first_of_both on (is_live s key.client) h) (f (second_of_both on (is_live s key.client) h))

held_on : (handles : List (HandleKey × HandleState)) (s new : SessionTable Reply) (i : ℕ) → LiveOn s new → list_any (λ e. is_open_in s i e.0 e.1) handles ≡ true → list_any (λ e. is_open_in new i e.0 e.1) handles ≡ true
held_on handles s new i on h = any_more (λ e. is_open_in s i e.0 e.1) (λ e. is_open_in new i e.0 e.1) handles (λ e k. open_more s new i e.0 e.1 (on e.0.client) k) h

-- ---- the candidates of before

abbrev pub State : Nodes → List (HandleKey × HandleState) → SessionTable Reply → QueueState Task → TableState
State nodes handles sessions queue = record { nodes = nodes; handles = handles; sessions = sessions; queue = queue }

module _ (nodes : Nodes) (handles : List (HandleKey × HandleState)) where
  pub by_sessions : (old new : SessionTable Reply) (queue : QueueState Task) (c : CandidateState) → LiveOn old new → AreCandidates (State nodes handles old queue) c → AreCandidates (State nodes handles new queue) c
  by_sessions old new queue c on h = record {
    to_go = λ q w there is. h.to_go q w there (went (State nodes handles old queue) (State nodes handles new queue) q w (held_on handles old new w.instance on) (λ k. k) (λ k. k) is);
    found = h.found;
    numbered = h.numbered;
  }

  pub by_step : (old new : SessionTable Reply) (queue : QueueState Task) (c : CandidateState) (client : ℕ) (step : Session Reply → Session Reply) → ((session : Session Reply) → (step session).live ≡ session.live) → new ≡ with_session old client step → AreCandidates (State nodes handles old queue) c → AreCandidates (State nodes handles new queue) c
  by_step old new queue c client step keeps e h =
      let P : SessionTable Reply → Type 0 = λ s. AreCandidates (State nodes handles s queue) c in
      subst P (sym e) (by_sessions old (with_session old client step) queue c (step_lives_on old client step keeps) h)

  pub by_same_sessions : (old new : SessionTable Reply) (queue : QueueState Task) (c : CandidateState) → new ≡ old → AreCandidates (State nodes handles old queue) c → AreCandidates (State nodes handles new queue) c
  by_same_sessions old new queue c e h = let P : SessionTable Reply → Type 0 = λ s. AreCandidates (State nodes handles s queue) c in subst P (sym e) h

  pub by_try : {X E : Type 0} (r : Result X E) (old new : SessionTable Reply) (queue : QueueState Task) (c : CandidateState) (client : ℕ) (step : Session Reply → Session Reply) → ((session : Session Reply) → (step session).live ≡ session.live) → OnOk r (new ≡ with_session old client step) → OnErr r (new ≡ old) → AreCandidates (State nodes handles old queue) c → AreCandidates (State nodes handles new queue) c
  by_try (Ok x) old new queue c client step keeps ok err h = by_step old new queue c client step keeps ok h
  by_try (Err e) old new queue c client step keeps ok err h = by_same_sessions old new queue c err h

  pub by_issues : (old new : SessionTable Reply) (queue : QueueState Task) (c : CandidateState) (asked : List (ℕ × ℕ)) → new ≡ issued_by asked old → AreCandidates (State nodes handles old queue) c → AreCandidates (State nodes handles new queue) c
  by_issues old new queue c asked e h =
      let P : SessionTable Reply → Type 0 = λ s. AreCandidates (State nodes handles s queue) c in
      subst P (sym e) (by_sessions old (issued_by asked old) queue c (issued_lives_on old asked) h)

  pub by_begin : {X E : Type 0} (r : Result X E) (old new : SessionTable Reply) (queue : QueueState Task) (c : CandidateState) (client : ℕ) (session : Session Reply) → session_of old client ≡ None → OnOk r (new ≡ with_new old client session) → OnErr r (new ≡ old) → AreCandidates (State nodes handles old queue) c → AreCandidates (State nodes handles new queue) c
  by_begin (Ok x) old new queue c client session none ok err h =
      let P : SessionTable Reply → Type 0 = λ s. AreCandidates (State nodes handles s queue) c in
      subst P (sym ok) (by_sessions old (with_new old client session) queue c (new_lives_on old client session none) h)
  by_begin (Err e) old new queue c client session none ok err h = by_same_sessions old new queue c err h

  pub by_forget : (old new : SessionTable Reply) (queue : QueueState Task) (c : CandidateState) (client : ℕ) → is_live old client ≡ false → new ≡ without old client → AreCandidates (State nodes handles old queue) c → AreCandidates (State nodes handles new queue) c
  by_forget old new queue c client ended e h =
      let P : SessionTable Reply → Type 0 = λ s. AreCandidates (State nodes handles s queue) c in
      subst P (sym e) (by_sessions old (without old client) queue c (gone_lives_on old client ended) h)

  -- all nodes are looked at
  pub by_loss : (old new : SessionTable Reply) (queue : QueueState Task) (c d : CandidateState) → ((q : List ℕ) → Has d q) → ((i : ℕ) (q : List ℕ) → Leads c i q → Leads d i q) → AreCandidates (State nodes handles old queue) c → AreCandidates (State nodes handles new queue) d
  by_loss old new queue c d has leads h = record {
    to_go = λ q w there is. has q;
    found = λ q w there is. leads w.instance q (h.found q w there is);
    numbered = h.numbered;
  }

  -- ---- what waits

  pub by_turns : (sessions : SessionTable Reply) (old new : QueueState Task) (c : CandidateState) → ((i : ℕ) → list_any (λ w. tidies i w.change.body) old.gate.waiting ≡ true → list_any (λ w. tidies i w.change.body) new.gate.waiting ≡ true) → AreCandidates (State nodes handles sessions old) c → AreCandidates (State nodes handles sessions new) c
  by_turns sessions old new c turns h = record {
    to_go = λ q w there is. h.to_go q w there (went (State nodes handles sessions old) (State nodes handles sessions new) q w (λ k. k) (λ k. k) (turns w.instance) is);
    found = h.found;
    numbered = h.numbered;
  }

  pub by_rights : (sessions : SessionTable Reply) (old new : QueueState Task) (c : CandidateState) (rights : List CacheRight) → new ≡ record old { rights = rights } → AreCandidates (State nodes handles sessions old) c → AreCandidates (State nodes handles sessions new) c
  by_rights sessions old new c rights e h =
      let P : QueueState Task → Type 0 = λ s. AreCandidates (State nodes handles sessions s) c in
      subst P (sym e) (by_turns sessions old (record old { rights = rights }) c (λ i k. k) h)

  pub by_same_queue : (sessions : SessionTable Reply) (old new : QueueState Task) (c : CandidateState) → new ≡ old → AreCandidates (State nodes handles sessions old) c → AreCandidates (State nodes handles sessions new) c
  by_same_queue sessions old new c e h = let P : QueueState Task → Type 0 = λ s. AreCandidates (State nodes handles sessions s) c in subst P (sym e) h

  pub by_grant : {X E : Type 0} (r : Result X E) (sessions : SessionTable Reply) (old new : QueueState Task) (c : CandidateState) (rights : List CacheRight) → OnOk r (new ≡ record old { rights = rights }) → OnErr r (new ≡ old) → AreCandidates (State nodes handles sessions old) c → AreCandidates (State nodes handles sessions new) c
  by_grant (Ok x) sessions old new c rights ok err h = by_rights sessions old new c rights ok h
  by_grant (Err e) sessions old new c rights ok err h = by_same_queue sessions old new c err h

  pub by_push : {X E : Type 0} (r : Result X E) (sessions : SessionTable Reply) (old new : QueueState Task) (c : CandidateState) (change : Pending Task) → OnOk r (new ≡ record old { gate = with_change change old.gate }) → OnErr r (new ≡ old) → AreCandidates (State nodes handles sessions old) c → AreCandidates (State nodes handles sessions new) c
  by_push (Ok x) sessions old new c change ok err h =
      let P : QueueState Task → Type 0 = λ s. AreCandidates (State nodes handles sessions s) c in
      let more : QueueState Task = record old { gate = with_change change old.gate } in
      subst P (sym ok) (by_turns sessions old more c (λ i k. any_before (λ w. tidies i w.change.body) old.gate.waiting (record { number = old.gate.pushed + 1; change = change }) k) h)
  by_push (Err e) sessions old new c change ok err h = by_same_queue sessions old new c err h
