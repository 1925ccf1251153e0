-- To each client, and of each name, what a call that the master takes is.
use Rattle.std.proofs.Common.{◌≡◌, ◌≢◌, ℕ, ◌+◌, ◌<◌, Bool, true, false, cond, List, [], ◌∷◌, ◌++◌, map, length, Option, Some, None, Result, Ok, Err, inl, inr, arith, refl, sym, ap, ◌∙◌, subst}
use Rattle.std.specs.Prelude.{◌==◌, ◌&&◌, ◌||◌, not, nat_le, fold, find, is_none}
use Rattle.std.specs.Option.{option_map, option_map_or}
use Rattle.std.specs.List.{list_any}
use Rattle.std.specs.Str.{bytes_eq}
use Rattle.coherence.specs.Slice as one
use Rattle.coherence.specs.Slice.{IsIn, Slice, Event, QueueChange, AskBack, IssueOthers, SendGrant, Reorder, Live, Leads}
use Rattle.coherence.proofs.Reached.{leads_both}
use Rattle.node_core.specs.declared.refusals.Fault.{Fault}
use Rattle.node_core.specs.declared.refusals.Fault.TheVariants as faults
use Rattle.node_core.specs.Limits.{number_limit}
use Rattle.node_core.specs.Nodes.{view_at, with_parent}
use Rattle.rows_cell.specs.Rows.{map_of}
use Rattle.collections.proofs.Keys.{same_number, bytes_self, bytes_same, bytes_swap}
use Rattle.tags_cell.specs.declared.messages.requests.CallMessage.{CallMessage}
use Rattle.tags_cell.specs.declared.messages.outs.Out.{Out}
use Rattle.tags_cell.specs.declared.messages.outs.Out.TheVariants as outs
use Rattle.tags_cell.specs.declared.messages.outs.CallResult.{CallResult}
use Rattle.tags_cell.specs.declared.messages.outs.Reply.{Reply}
use Rattle.session_core.specs.declared.records.LastCall.{LastCall}
use Rattle.session_core.specs.declared.records.Session.{Session}
use Rattle.session_core.specs.Session.{keeping, issued_through}
use Rattle.session_core.specs.Sessions.{SessionTable, has_spent_events, with_issued, issued_by, session_of as session_in}
use Rattle.session_core.proofs.IssuedBy.{lease_stays_issued}
use Rattle.rights_core.specs.declared.cache_rights.CacheRight.{CacheRight}
use Rattle.rights_core.specs.declared.grants.Grant.{Grant}
use Rattle.rights_core.specs.declared.grants.Grant.TheVariants as grants
use Rattle.rights_core.specs.Rights.{holds, held_limit, count_held, answer_beside, grant_answer, is_held_at, invalidations_of, next_invalidation, clients_to_ask, asked_back, IsRecorded}
use Rattle.rights_core.specs.Laws.{asked_for, number_or_0}
use Rattle.rights_core.proofs.Called.{recorded_asked}
use Rattle.gate_core.specs.declared.pending.Waiting.{Waiting}
use Rattle.gate_core.specs.Gate.{GateState, uncachable}
use Rattle.gate_core.specs.Laws.{touching}
use Rattle.gate_core.proofs.OneChange.{push_touches, uncachable_is_touched, cachable_is_granted}
use Rattle.master_parts.specs.declared.handles.HandleKey.{HandleKey}
use Rattle.master_parts.specs.declared.handles.HandleState.{HandleState}
use Rattle.master_parts.specs.declared.pending.Orphan.{Orphan}
use Rattle.master_parts.specs.declared.pending.Task.{Task}
use Rattle.master_parts.specs.declared.pending.Task.TheVariants as tasks
use Rattle.master_state.specs.State.{MasterState}
use Rattle.master_parts.specs.StoredSessions.{row_of}
use Rattle.master_state.specs.Lookups.{session_of, is_live, reply_of, issued_to, stamped_reply, is_spent}
use Rattle.master_parts.specs.Answered.{answered_by}
use Rattle.cell_core.specs.declared.asking.TouchedNames.{TouchedNames}
use Rattle.cell_core.specs.Step.{queued, replied, is_cachable, granting, asking, asking_for, names_of, task_of, with_call, waits}
use Rattle.cell_core.specs.Names.{name_asked, shown_by}
use Rattle.cell_core.specs.Ephemerals.{tidied}
use Rattle.over_core.specs.Kept.{AreIssued}
use Rattle.world_steps.specs.declared.mail.Message.TheVariants.{ToClient}
use Rattle.world_steps.specs.Messages.{call_of}
use Rattle.world_steps.specs.World.{WorldState}
use Rattle.world_cell.specs.Slices.{Shown, Grants, SeenRight, standing_so, standing_of, is_late, seen_of, heard_from, right_of, start_of, starts_of, put_offer, offers_of, asks_for, stamped_grant, grant_of, grants_of}
use Rattle.world_cell.specs.Consistent.{HasGranted, IsReplyTo}
use Rattle.world_cell.proofs.GrantsSent.{grant_front, unstamped}
use Rattle.world_cell.proofs.SliceRights.{is_asked_now, other_is_issued, other_stays, own_is_asked, own_stays, granted_to_another, granted_to_own}
use Rattle.world_cell.proofs.Slices.{by_test, both, is_same, two_same, three_same, in_either, beats_stay, offers_more, grants_then, grants_more, UpParts, alike, here, shown, Goes, goes, goes_unseen, standing_kept, lease_stays, seen_stays, IsKnown, first_of, none_more, no_start}

-- events lead from the one to the other
abbrev Led : Slice Shown → Slice Shown → Type 0
Led slice later = (events : List (Event Shown)) × Leads slice events later

led_both : (slice middle later : Slice Shown) → Led slice middle → Led middle later → Led slice later
led_both slice middle later first then = (first.0 ++ then.0, leads_both slice middle later first.0 then.0 first.1 then.1)

led_nowhere : (slice later : Slice Shown) → slice ≡ later → Led slice later
led_nowhere slice later same = ([], record { allowed = tt; leads_there = same })

-- ---- what a step leaves of which nothing is seen

module _ (c : ℕ) (x : List ℕ) (w : WorldState) (s : MasterState) where
  -- the rows stay as they are
  abbrev pub Comes : MasterState → List Out → Type 0
  Comes t sent = Goes c x w s w.rows t sent

  pub comes_unseen : (t : MasterState) (sent : List Out) → t.sessions.lease ≡ s.sessions.lease → t.recovering ≡ s.recovering → seen_of (session_of t c) ≡ seen_of (session_of s c) → starts_of c t.gate.waiting ≡ starts_of c s.gate.waiting → right_of c x t.rights ≡ right_of c x s.rights → touching x t.gate.waiting ≡ touching x s.gate.waiting
      → fold (put_offer c x) (offers_of c x w.messages) (map ToClient sent) ≡ offers_of c x w.messages → grants_then c x w.rows.secret w.messages sent ≡ grants_of c x w.rows.secret w.messages → Comes t sent
  comes_unseen t sent is_lease is_recovering is_seen is_starts is_right is_pending is_offers is_grants = goes_unseen c x w s w.rows t sent (record {
    present = refl;
    session = refl;
    epoch = refl;
    lease = is_lease;
    recovering = is_recovering;
    seen = is_seen;
    starts = is_starts;
    heard = two_same heard_from t.recovering s.recovering (seen_of (session_of t c)) (seen_of (session_of s c)) is_recovering is_seen;
    right = is_right;
    pending = is_pending;
    beats = beats_stay c w.messages sent;
    offers = offers_more c x w.messages sent ∙ is_offers;
    grants = grants_more c x w.rows.secret w.messages sent ∙ is_grants;
  })

  -- ---- a call that is answered at once, by what may not be kept

  pub call_replied : (handles : List (HandleKey × HandleState)) (client number : ℕ) (result : CallResult) → Comes (replied (record s { handles = handles }) client number result).0 (replied (record s { handles = handles }) client number result).1.outs
  call_replied handles client number result =
      comes_unseen (replied (record s { handles = handles }) client number result).0 (replied (record s { handles = handles }) client number result).1.outs
      (lease_stays s.sessions client (keeping (answered_by (reply_of s client number result))))
      refl
      (seen_stays (keeping (answered_by (reply_of s client number result))) (λ session. refl) s.sessions client c)
      refl refl refl refl
      (unstamped c x w.rows.secret w.messages (reply_of s client number result) (grants_of c x w.rows.secret w.messages) refl)

  -- ---- a reply that is sent again

  abbrev sent_again : Reply → Grants
  sent_again reply = grant_of c x w.rows.secret w.messages (outs.Reply reply) (grants_of c x w.rows.secret w.messages)

  module _ (client number : ℕ) (reply : Reply) (to : IsReplyTo client number reply) (granted : HasGranted w.messages w.rows.secret client reply) where
    abbrev granted_alone : Grants
    granted_alone = grant_of c x w.rows.secret w.messages (outs.Reply reply) []

    granted_own : c ≡ client → (grant : one.Grant Shown) → IsIn grant granted_alone → IsIn grant (grants_of c x w.rows.secret w.messages)
    granted_own own grant i =
        subst (λ (z : ℕ). IsIn grant (grants_of z x w.rows.secret w.messages)) (sym own)
        (granted x grant (subst (λ (z : ℕ). IsIn grant (grant_of z x w.rows.secret w.messages (outs.Reply reply) [])) own i))

    other_reply : (c == client) ≡ false → granted_alone ≡ []
    other_reply other = ap (λ (b : Bool). cond (b && asks_for w.rows.secret x (call_of w.messages reply.client reply.number)) (stamped_grant reply reply.stamp []) []) (ap (λ z. c == z) to.to ∙ other)

    -- all that it grants was granted
    granted_before : (grant : one.Grant Shown) → IsIn grant (sent_again reply) → IsIn grant (grants_of c x w.rows.secret w.messages)
    granted_before grant i = elim (in_either grant granted_alone (grants_of c x w.rows.secret w.messages) (subst (IsIn grant) (grant_front c x w.rows.secret w.messages (outs.Reply reply) (grants_of c x w.rows.secret w.messages)) i)) [
      | inl k ↦ by_test (c == client) (λ own. granted_own (is_same c client own) grant k) (λ other. absurd (subst (IsIn grant) (other_reply other) k))
      | inr k ↦ k
    ]

    pub reply_again : Comes s (outs.Reply reply ∷ [])
    reply_again = goes c x w s w.rows s (outs.Reply reply ∷ []) (Reorder (here c x w s).beats (here c x w s).offers (sent_again reply) ∷ []) (here c x w s) (record (here c x w s) { grants = sent_again reply }) (alike (here c x w s))
        (record {
          present = refl;
          session = refl;
          epoch = refl;
          lease = refl;
          recovering = refl;
          seen = refl;
          starts = refl;
          heard = refl;
          right = refl;
          pending = refl;
          beats = beats_stay c w.messages (outs.Reply reply ∷ []);
          offers = offers_more c x w.messages (outs.Reply reply ∷ []);
          grants = grants_more c x w.rows.secret w.messages (outs.Reply reply ∷ []);
        })
        (record { allowed = record { first = record { same_beats = λ beat i. i; same_offers = λ offer i. i; same_grants = granted_before }; rest = tt }; leads_there = refl })

-- ---- a call that waits

issued_seen : (entries : List (ℕ × ℕ)) (s : SessionTable Reply) (c : ℕ) → seen_of (session_in (issued_by entries s) c) ≡ seen_of (session_in s c)
issued_seen [] s c = refl
issued_seen (entry ∷ entries) s c = issued_seen entries (with_issued s entry) c ∙ seen_stays (issued_through entry.1) (λ session. refl) s entry.0 c

none_is_0 : (o : Option ℕ) → is_none o ≡ true → number_or_0 o ≡ 0
none_is_0 None h = refl
none_is_0 (Some number) h = cc

plus_none : (n : ℕ) → n ≡ n + 0
plus_none n = omega arith

-- one change more, if it touches that name
pushed_touches : (x : List ℕ) (gate : GateState Task) (names : List (List ℕ)) (waiting : Waiting Task) → waiting.number ≡ gate.pushed + 1 → waiting.change.touched ≡ names → touching x (gate.waiting ++ waiting ∷ []) ≡ touching x gate.waiting + cond (list_any (bytes_eq x) names) 1 0
pushed_touches x gate names waiting is_next is_touched =
    ap (λ number. touching x (gate.waiting ++ record waiting { number = number } ∷ [])) is_next ∙ (push_touches x waiting.change gate).1
    ∙ ap (λ (touched : List (List ℕ)). touching x gate.waiting + cond (list_any (bytes_eq x) touched) 1 0) is_touched

above_none : (n : ℕ) (b : Bool) → b ≡ true → 0 < n + cond b 1 0
above_none n b h = rw h (omega arith)

first_any : (a b : Bool) → a ≡ true → (a || b) ≡ true
first_any true b h = refl
first_any false b h = cc

later_any : (a b : Bool) → b ≡ true → (a || b) ≡ true
later_any true b h = refl
later_any false b h = h

-- ---- who is asked for names, one after the other

-- the rights then
abbrev pub asked_for_all : List (List ℕ) → List CacheRight → List CacheRight
asked_for_all [] rights = rights
asked_for_all (name ∷ names) rights = asked_for_all names (asked_back name rights)

pub asking_rights : (names : List (List ℕ)) (s : MasterState) → (asking_for s names).rights ≡ asked_for_all names s.rights
asking_rights [] s = refl
asking_rights (name ∷ names) s = asking_rights names (asking s name)

asking_recovering : (names : List (List ℕ)) (s : MasterState) → (asking_for s names).recovering ≡ s.recovering
asking_recovering [] s = refl
asking_recovering (name ∷ names) s = asking_recovering names (asking s name)

pub asking_waiting : (names : List (List ℕ)) (s : MasterState) → (asking_for s names).gate.waiting ≡ s.gate.waiting
asking_waiting [] s = refl
asking_waiting (name ∷ names) s = asking_waiting names (asking s name)

asking_lease : (names : List (List ℕ)) (s : MasterState) → (asking_for s names).sessions.lease ≡ s.sessions.lease
asking_lease [] s = refl
asking_lease (name ∷ names) s = asking_lease names (asking s name) ∙ lease_stays_issued s.sessions (clients_to_ask name s.rights)

pub asking_seen : (names : List (List ℕ)) (s : MasterState) (c : ℕ) → seen_of (session_of (asking_for s names) c) ≡ seen_of (session_of s c)
asking_seen [] s c = refl
asking_seen (name ∷ names) s c = asking_seen names (asking s name) c ∙ issued_seen (clients_to_ask name s.rights) s.sessions c

module _ (c : ℕ) (x : List ℕ) (w : WorldState) (s : MasterState) (knows : IsKnown w s) where
  -- with so many changes that touch the name
  abbrev with_pending : ℕ → UpParts
  with_pending n = record (here c x w s) { pending = n }

  -- a change comes
  queue_leads : (b : Bool) → s.recovering ≡ false → Led (shown c x w (here c x w s)) (shown c x w (with_pending (touching x s.gate.waiting + cond b 1 0)))
  queue_leads true serving = (QueueChange ∷ [], record { allowed = record { first = record { up = refl; serving = serving }; rest = tt }; leads_there = refl })
  queue_leads false serving = led_nowhere _ _ (ap (λ n. shown c x w (with_pending n)) (plus_none (touching x s.gate.waiting)))

  -- and with these rights
  abbrev with_rights : ℕ → List CacheRight → UpParts
  with_rights n rights = record (with_pending n) { right = right_of c x rights }

  module _ (n : ℕ) (name : List ℕ) (rights : List CacheRight) (recorded : IsRecorded rights) where
    abbrev asked_parts : SeenRight → UpParts
    asked_parts right = record (with_pending n) { right = right }

    abbrev AsksLeads : Type 0
    AsksLeads = Led (shown c x w (with_rights n rights)) (shown c x w (with_rights n (asked_back name rights)))

    by_right : (events : List (Event Shown)) (right : SeenRight) → right_of c x (asked_back name rights) ≡ right → Leads (shown c x w (with_rights n rights)) events (shown c x w (asked_parts right)) → AsksLeads
    by_right events right is led = (events, subst (λ r. Leads (shown c x w (with_rights n rights)) events (shown c x w (asked_parts r))) (sym is) led)

    is_own : bytes_eq x name ≡ true → is_asked_now c name rights ≡ true → right_of c x (asked_back name rights) ≡ record (right_of c x rights) { issued = next_invalidation c rights; asked_back = next_invalidation c rights }
    is_own e t = subst (λ (z : List ℕ). right_of c z (asked_back name rights) ≡ record (right_of c z rights) { issued = next_invalidation c rights; asked_back = next_invalidation c rights }) (sym (bytes_same x name e)) (own_is_asked c name rights recorded t)

    is_own_still : bytes_eq x name ≡ true → is_asked_now c name rights ≡ false → right_of c x (asked_back name rights) ≡ right_of c x rights
    is_own_still e t = subst (λ (z : List ℕ). right_of c z (asked_back name rights) ≡ right_of c z rights) (sym (bytes_same x name e)) (own_stays c name rights recorded t)

    asks_own : 0 < n → bytes_eq x name ≡ true → is_asked_now c name rights ≡ true → AsksLeads
    asks_own awaited e t =
        let now : is_asked_now c x rights ≡ true = ap (λ z. is_asked_now c z rights) (bytes_same x name e) ∙ t in
        let p = both (holds c x rights) _ now in
        by_right (AskBack (next_invalidation c rights) ∷ []) (record (right_of c x rights) { issued = next_invalidation c rights; asked_back = next_invalidation c rights }) (is_own e t) (record {
          allowed = record { first = record { up = refl; pending = awaited; held = p.0; once = none_is_0 (asked_for c x rights) p.1; new = omega arith }; rest = tt };
          leads_there = refl;
        })

    asks_other : bytes_eq x name ≡ false → is_asked_now c name rights ≡ true → AsksLeads
    asks_other e t = by_right (IssueOthers (next_invalidation c rights) ∷ []) (record (right_of c x rights) { issued = next_invalidation c rights }) (other_is_issued c x name rights recorded t e) (record {
      allowed = record { first = record { up = refl; more = omega arith }; rest = tt };
      leads_there = refl;
    })

    asks_nobody : is_asked_now c name rights ≡ false → AsksLeads
    asks_nobody t = by_right [] (right_of c x rights) (by_test (bytes_eq x name) (λ e. is_own_still e t) (λ e. other_stays c x name rights recorded t e)) (record { allowed = tt; leads_there = refl })

    asking_leads : (bytes_eq x name ≡ true → 0 < n) → AsksLeads
    asking_leads awaited = by_test (is_asked_now c name rights) (λ t. by_test (bytes_eq x name) (λ e. asks_own (awaited e) e t) (λ e. asks_other e t)) asks_nobody

  -- each of these names is touched by a change that waits
  all_lead : (n : ℕ) (names : List (List ℕ)) (rights : List CacheRight) → IsRecorded rights → (list_any (bytes_eq x) names ≡ true → 0 < n) → Led (shown c x w (with_rights n rights)) (shown c x w (with_rights n (asked_for_all names rights)))
  all_lead n [] rights recorded awaited = led_nowhere _ _ refl
  all_lead n (name ∷ names) rights recorded awaited =
      led_both (shown c x w (with_rights n rights)) (shown c x w (with_rights n (asked_back name rights))) (shown c x w (with_rights n (asked_for_all names (asked_back name rights))))
      (asking_leads n name rights recorded (λ e. awaited (first_any (bytes_eq x name) (list_any (bytes_eq x) names) e)))
      (all_lead n names (asked_back name rights) (recorded_asked name rights recorded) (λ e. awaited (later_any (bytes_eq x name) (list_any (bytes_eq x) names) e)))

  -- a change waits after all others, and who holds a name that it touches is asked for it
  change_waits : (names : List (List ℕ)) (waiting : Waiting Task) (t : MasterState) → s.recovering ≡ false → waiting.number ≡ s.gate.pushed + 1 → waiting.change.touched ≡ names → start_of c waiting.change.body ≡ [] → t.recovering ≡ s.recovering → t.gate.waiting ≡ s.gate.waiting ++ waiting ∷ [] → t.rights ≡ asked_for_all names s.rights
      → t.sessions.lease ≡ s.sessions.lease → seen_of (session_of t c) ≡ seen_of (session_of s c) → Comes c x w s t []
  change_waits names waiting t serving is_next is_touched is_no_start is_recovering is_waiting is_rights is_lease is_seen =
      let n : ℕ = touching x s.gate.waiting + cond (list_any (bytes_eq x) names) 1 0 in
      let led = led_both (shown c x w (here c x w s)) (shown c x w (with_pending n)) (shown c x w (with_rights n (asked_for_all names s.rights)))
      (queue_leads (list_any (bytes_eq x) names) serving)
      (all_lead n names s.rights knows.recorded (above_none (touching x s.gate.waiting) (list_any (bytes_eq x) names))) in
      goes c x w s w.rows t [] led.0 (here c x w s) (with_rights n (asked_for_all names s.rights)) (alike (here c x w s))
      (record {
        present = refl;
        session = refl;
        epoch = refl;
        lease = is_lease;
        recovering = is_recovering;
        seen = is_seen;
        starts = ap (starts_of c) is_waiting ∙ no_start c s.gate.waiting waiting is_no_start;
        heard = two_same heard_from t.recovering s.recovering (seen_of (session_of t c)) (seen_of (session_of s c)) is_recovering is_seen;
        right = ap (right_of c x) is_rights;
        pending = ap (touching x) is_waiting ∙ pushed_touches x s.gate names waiting is_next is_touched;
        beats = beats_stay c w.messages [];
        offers = offers_more c x w.messages [];
        grants = grants_more c x w.rows.secret w.messages [];
      })
      led.1

  -- what waits, and asks for all that it touches
  queued_asks : (names : List (List ℕ)) (waiting : Waiting Task) (t : MasterState) → s.recovering ≡ false → waiting.number ≡ s.gate.pushed + 1 → waiting.change.touched ≡ names → start_of c waiting.change.body ≡ [] → t.recovering ≡ s.recovering → t.gate.waiting ≡ s.gate.waiting ++ waiting ∷ [] → t.rights ≡ s.rights
      → t.sessions.lease ≡ s.sessions.lease → seen_of (session_of t c) ≡ seen_of (session_of s c) → Comes c x w s (asking_for t names) []
  queued_asks names waiting t serving is_next is_touched is_no_start is_recovering is_waiting is_rights is_lease is_seen =
      change_waits names waiting (asking_for t names) serving is_next is_touched is_no_start
      (asking_recovering names t ∙ is_recovering) (asking_waiting names t ∙ is_waiting) (asking_rights names t ∙ ap (asked_for_all names) is_rights)
      (asking_lease names t ∙ is_lease) (asking_seen names t c ∙ is_seen)

  -- the deletion of a node that nobody holds open
  pub tidy_asks : (idle : Orphan) → s.recovering ≡ false → Comes c x w s (tidied s idle) []
  tidy_asks idle serving =
      queued_asks (with_parent idle.name) (record { number = s.gate.pushed + 1; change = record { touched = with_parent idle.name; body = tasks.Tidies idle } }) (queued s (with_parent idle.name) (tasks.Tidies idle)) serving refl refl refl refl refl refl refl refl

  module _ (handles : List (HandleKey × HandleState)) (message : CallMessage) where
    abbrev call_waiting : Option TouchedNames → Waiting Task
    call_waiting touched = record { number = s.gate.pushed + 1; change = record { touched = names_of touched; body = tasks.Asked (task_of message) } }

    abbrev kept_call : LastCall Reply
    kept_call = record { number = message.number; reply = None }

    -- who holds a name that it touches is asked for it
    pub call_waits : (touched : Option TouchedNames) → s.recovering ≡ false → Comes c x w s (waits (record s { handles = handles }) message touched).0 []
    call_waits touched serving =
        queued_asks (names_of touched) (call_waiting touched) (with_call (record s { handles = handles }) message touched) serving refl refl refl refl refl refl
        (lease_stays s.sessions message.client (keeping kept_call))
        (seen_stays (keeping kept_call) (λ session. refl) s.sessions message.client c)

-- ---- a right is granted

-- what a grant comes of
pub record IsGranting (w : WorldState) (s : MasterState) (client number : ℕ) (message : CallMessage) (result : CallResult) (name : List ℕ) : Type 0 where
  pub live : is_live s client ≡ true
  pub serving : s.recovering ≡ false
  pub cachable : is_cachable s client name ≡ true
  pub room : is_spent s ≡ false
  pub found : call_of w.messages client number ≡ Some message
  pub asks : name_asked s.secret message.call ≡ Some name
  pub shows : shown_by result ≡ view_at s.nodes name

live_standing : (late : Bool) (o : Option (Session Reply)) → option_map_or (λ session. session.live) o false ≡ true → standing_of late (option_map row_of o) ≡ Live
live_standing late None h = absurd (let e : false ≡ true = h in cc)
live_standing late (Some session) h = ap standing_so h

no_change : (u r : Bool) → (not u && r) ≡ true → u ≡ false
no_change true r h = cc
no_change false r h = refl

no_room : (a b c : Bool) → (a || b || c) ≡ false → b ≡ false
no_room true b c h = cc
no_room false true c h = cc
no_room false false c h = refl

-- a grant is refused at the last number alone
never_spent : (o : Option CacheRight) (rights : List CacheRight) (fault : Fault) → nat_le number_limit (length rights) ≡ false → answer_beside o rights ≢ Err fault
never_spent (Some r) rights fault room h = cc
never_spent None rights fault room h = spent_at (nat_le held_limit (count_held rights)) (nat_le number_limit (length rights)) room h
  where
    spent_at : (a b : Bool) → b ≡ false → (let answer : Result Grant Fault = cond a (Ok grants.Full) (cond b (Err faults.Exhausted) (Ok (grants.Granted (length rights + 1)))) in answer) ≡ Err fault → ⊥
    spent_at true b room h = cc
    spent_at false true room h = cc
    spent_at false false room h = cc

grant_is : (e f : ℕ) (s t : ℕ) (u v : Shown) → e ≡ f → s ≡ t → u ≡ v → ◌≡◌ {A = one.Grant Shown} (record { epoch = e; stamp = s; view = u }) (record { epoch = f; stamp = t; view = v })
grant_is e f s t u v h k l = three_same (λ epoch stamp view. record { epoch = epoch; stamp = stamp; view = view }) e f s t u v h k l

no_both : (a b d : Bool) → b ≡ d → (d && a) ≡ false → (a && b) ≡ false
no_both true true true h k = cc
no_both true true false h k = cc
no_both true false d h k = refl
no_both false b d h k = refl

yes_both : (a b : Bool) → a ≡ true → b ≡ true → (a && b) ≡ true
yes_both true b h k = k
yes_both false b h k = cc

issued_is : (c : ℕ) (s : MasterState) → AreIssued s.sessions s.rights → (o : Option (Session Reply)) → session_of s c ≡ o → option_map_or (λ session. session.live) o false ≡ true → option_map_or (λ session. session.invalidations.issued) o 0 ≡ invalidations_of c s.rights
issued_is c s issued None is live = absurd (let e : false ≡ true = live in cc)
issued_is c s issued (Some session) is live = issued c session is

module _ (w : WorldState) (s : MasterState) (knows : IsKnown w s) (handles : List (HandleKey × HandleState)) (client number : ℕ) (message : CallMessage) (result : CallResult) (name : List ℕ) (g : IsGranting w s client number message result name) where
  abbrev granted_then : MasterState
  granted_then = (granting (record s { handles = handles }) client number result name).0

  abbrev reply_then : Reply
  reply_then = stamped_reply s client number result

  abbrev sent_then : List Out
  sent_then = outs.Reply reply_then ∷ []

  unpending : uncachable name s.gate.waiting ≡ false
  unpending = no_change (uncachable name s.gate.waiting) _ g.cachable

  not_full : grant_answer client name s.rights ≢ Ok grants.Full
  not_full h = let e : is_cachable s client name ≡ false = (cachable_is_granted client name s.rights s.gate.waiting unpending).1 h in let k = g.cachable in let z : false ≡ true = sym e ∙ k in cc

  not_spent : (fault : Fault) → grant_answer client name s.rights ≢ Err fault
  not_spent fault = never_spent (find (is_held_at client name) s.rights) s.rights fault (no_room (nat_le number_limit s.gate.pushed) (nat_le number_limit (length s.rights)) (has_spent_events s.sessions) g.room)

  -- the grant that is sent
  abbrev grant_sent : one.Grant Shown
  grant_sent = record { epoch = w.rows.epoch; stamp = invalidations_of client s.rights; view = view_at (map_of w.rows) name }

  -- it asks for that name
  asks_name : (x : List ℕ) → asks_for w.rows.secret x (call_of w.messages client number) ≡ bytes_eq name x
  asks_name x = ap (asks_for w.rows.secret x) g.found ∙ ap (λ (o : Option (List ℕ)). option_map_or (λ asked. bytes_eq asked x) o false) (ap (λ z. name_asked z message.call) (sym knows.secret) ∙ g.asks)

  lease_then : granted_then.sessions.lease ≡ s.sessions.lease
  lease_then = lease_stays s.sessions client (keeping (answered_by reply_then))

  seen_then : (c : ℕ) → seen_of (session_of granted_then c) ≡ seen_of (session_of s c)
  seen_then c = seen_stays (keeping (answered_by reply_then)) (λ session. refl) s.sessions client c

  own_grants : grants_then client name w.rows.secret w.messages sent_then ≡ grant_sent ∷ grants_of client name w.rows.secret w.messages
  own_grants =
      first_of (client == client && asks_for w.rows.secret name (call_of w.messages client number)) (record { epoch = s.epoch; stamp = issued_to s client; view = shown_by result }) (grants_of client name w.rows.secret w.messages)
      (yes_both (client == client) (asks_for w.rows.secret name (call_of w.messages client number)) (same_number client) (asks_name name ∙ bytes_self name))
      ∙ ap (λ z. z ∷ grants_of client name w.rows.secret w.messages)
      (grant_is s.epoch w.rows.epoch (issued_to s client) (invalidations_of client s.rights) (shown_by result) (view_at (map_of w.rows) name)
      knows.epoch (issued_is client s knows.issued (session_of s client) refl g.live) (g.shows ∙ ap (λ nodes. view_at nodes name) knows.nodes))

  own_grant : Comes client name w s granted_then sent_then
  own_grant = goes client name w s w.rows granted_then sent_then (SendGrant ∷ []) (here client name w s) (record (here client name w s) { right = record (right_of client name s.rights) { held = true }; grants = grant_sent ∷ grants_of client name w.rows.secret w.messages }) (alike (here client name w s))
      (record {
        present = refl;
        session = refl;
        epoch = refl;
        lease = lease_then;
        recovering = refl;
        seen = seen_then client;
        starts = refl;
        heard = ap (heard_from s.recovering) (seen_then client);
        right = granted_to_own client name s.rights (grant_answer client name s.rights) refl not_full not_spent;
        pending = refl;
        beats = beats_stay client w.messages sent_then;
        offers = offers_more client name w.messages sent_then;
        grants = grants_more client name w.rows.secret w.messages sent_then ∙ own_grants;
      })
      (record {
        allowed = record {
          first = record {
            up = refl;
            serving = g.serving;
            live = standing_kept client name w s knows.sessions ∙ live_standing (is_late w.rows client) (session_of s client) g.live;
            quiet = (uncachable_is_touched name s.gate.waiting).1 unpending;
          };
          rest = tt;
        };
        leads_there = refl;
      })

  other_grant : (c : ℕ) (x : List ℕ) → (bytes_eq x name && c == client) ≡ false → Comes c x w s granted_then sent_then
  other_grant c x other = comes_unseen c x w s granted_then sent_then lease_then refl (seen_then c) refl
      (granted_to_another c x client name s.rights other)
      refl refl
      (none_more (c == client && asks_for w.rows.secret x (call_of w.messages client number)) (record { epoch = s.epoch; stamp = issued_to s client; view = shown_by result }) (grants_of c x w.rows.secret w.messages)
      (no_both (c == client) (asks_for w.rows.secret x (call_of w.messages client number)) (bytes_eq x name) (asks_name x ∙ bytes_swap name x) other))

  pub call_granted : (c : ℕ) (x : List ℕ) → Comes c x w s granted_then sent_then
  call_granted c x = by_test (bytes_eq x name && c == client)
      (λ own.
      let p = both (bytes_eq x name) (c == client) own in
      subst (λ (z : ℕ). Comes z x w s granted_then sent_then) (sym (is_same c client p.1))
      (subst (λ (y : List ℕ). Comes client y w s granted_then sent_then) (sym (bytes_same x name p.0)) own_grant))
      (λ other. other_grant c x other)
