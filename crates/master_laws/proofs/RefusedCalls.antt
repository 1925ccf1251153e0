-- A call that is refused changes nothing but what is kept of it, unless it grants the right to cache that there is no node.
use Rattle.std.proofs.Common.{◌≡◌, ℕ, List, [], ◌∷◌, ◌++◌, true, false, cond, Option, Some, None, Result, Ok, Err, refl, sym, ap, subst, ◌∙◌, inl, inr, ⊎_elim}
use Rattle.std.specs.Prelude.{◌⊎◌, Contains}
use Rattle.node_core.specs.declared.refusals.Fault.{Fault}
use Rattle.node_core.specs.declared.refusals.Fault.TheVariants as faults
use Rattle.rights_core.specs.declared.cache_rights.CacheRight.{CacheRight}
use Rattle.rights_core.specs.declared.grants.Grant.{Grant}
use Rattle.rights_core.specs.declared.grants.Grant.TheVariants as grants
use Rattle.rights_core.specs.Rights.{grant_answer, granted, with_granted, new_right}
use Rattle.tags_cell.specs.declared.messages.calls.Call.TheVariants as calls
use Rattle.tags_cell.specs.declared.messages.calls.Open.{Open}
use Rattle.tags_cell.specs.declared.messages.outs.CallResult.{CallResult}
use Rattle.tags_cell.specs.declared.messages.outs.CallResult.TheVariants as results
use Rattle.tags_cell.specs.declared.messages.outs.Out.TheVariants as outs
use Rattle.tags_cell.specs.declared.messages.outs.Reply.{Reply}
use Rattle.tags_cell.specs.declared.messages.requests.CallMessage.{CallMessage}
use Rattle.master_parts.specs.declared.handles.HandleNote.{HandleNote}
use Rattle.master_parts.specs.declared.pending.Taken.{Taken}
use Rattle.cell_core.specs.Cases.{IsAnswered, IsGranted}
use Rattle.master_state.specs.State.{MasterState}
use Rattle.master_parts.specs.Answered.{answered_by}
use Rattle.cell_core.specs.Step.{recorded, replied, granting, with_right, admission_for}
use Rattle.master_state.specs.Lookups.{granted_lines, stamped_reply, reply_of, sends, noted}
use Rattle.master_state.specs.Updates.{with_note}
use Rattle.master_laws.specs.Refused.{first_shown, with_refusal, RefusesCall, RefusedCallChangesNothing, RefusalGrantsAbsenceAlone}
use Rattle.master_laws.proofs.Answered.{only_one, none_in}
use Rattle.master_laws.proofs.NewCalls.{NewCase, new_by, new_case}
use Rattle.master_laws.proofs.NewCalls.NewCase.{Recovers, Answers, Grants, Queues}
use Rattle.master_laws.proofs.RefusedAdmissions.{GivesNone, shown_first, notes_shown, TellsAbsence, tells_absence}

same_reply : (a b : Reply) → Contains (outs.Reply a ∷ []) (outs.Reply b) → a ≡ b
same_reply a b h = let same : outs.Reply a ≡ outs.Reply b = only_one (outs.Reply a) (outs.Reply b) h in cc

refusal_gives_none : (fault : Fault) → GivesNone (Some (results.Refused fault))
refusal_gives_none fault handle h = cc

nothing_gives_none : GivesNone None
nothing_gives_none handle h = cc

-- an Open shows no handle
none_by_open : (s : MasterState) (message : CallMessage) (opening : Open) → message.call ≡ calls.Open opening → s.recovering ≡ false → first_shown s message ≡ None
none_by_open s message opening is serving = ap (λ b. cond {A = Option HandleNote} b None (shown_first s message.client message.call)) serving ∙ ap (shown_first s message.client) is

-- ---- how it is refused

-- nothing is granted ..
pub record KeepsAlone (s : MasterState) (message : CallMessage) (p : MasterState × Taken) (reply : Reply) : Type 0 where
  pub master : p.0 ≡ with_refusal s message reply
  pub taken : p.1 ≡ sends reply

-- .. or the right to cache that there is no node
pub record KeepsAndGrants (s : MasterState) (message : CallMessage) (p : MasterState × Taken) (reply : Reply) (fault : Fault) : Type 0 where
  pub name : List ℕ
  pub tells : TellsAbsence message.call fault name
  pub master : p.0 ≡ with_refusal (with_right s message.client name) message reply
  pub taken : p.1 ≡ record { lines = granted_lines message.client name (grant_answer message.client name s.rights); outs = outs.Reply reply ∷ [] }

abbrev Refuses : (s : MasterState) (message : CallMessage) (p : MasterState × Taken) (reply : Reply) (fault : Fault) → Type 0
Refuses s message p reply fault = KeepsAlone s message p reply ⊎ KeepsAndGrants s message p reply fault

module _ (s : MasterState) (message : CallMessage) (reply : Reply) (fault : Fault) (refuses : reply.result ≡ results.Refused fault) where
  -- an answer that is a refusal
  is_refusal : (t : MasterState) (answer : CallResult) → reply_of t message.client message.number answer ≡ reply → answer ≡ results.Refused fault
  is_refusal t answer same = ap (λ r. r.result) same ∙ refuses

  is_stamped_refusal : (t : MasterState) (answer : CallResult) → stamped_reply t message.client message.number answer ≡ reply → answer ≡ results.Refused fault
  is_stamped_refusal t answer same = ap (λ r. r.result) same ∙ refuses

  recovering : s.recovering ≡ true → Contains (replied s message.client message.number (results.Refused faults.Recovering)).1.outs (outs.Reply reply) → Refuses s message (replied s message.client message.number (results.Refused faults.Recovering)) reply fault
  recovering down sent =
      let own : Reply = reply_of s message.client message.number (results.Refused faults.Recovering) in
      let same : own ≡ reply = same_reply own reply sent in
      let none : first_shown s message ≡ None = ap (λ b. cond {A = Option HandleNote} b None (shown_first s message.client message.call)) down in
      inl (record {
        master = ap (λ r. recorded s message.client (answered_by r)) same ∙ ap (λ n. recorded (with_note s n) message.client (answered_by reply)) (sym none);
        taken = ap sends same;
      })

  answered : (note : Option HandleNote) (answer : CallResult) → s.recovering ≡ false → IsAnswered s message note answer → Contains (replied (with_note s note) message.client message.number answer).1.outs (outs.Reply reply) → Refuses s message (replied (with_note s note) message.client message.number answer) reply fault
  answered note answer serving h sent =
      let own : Reply = reply_of (with_note s note) message.client message.number answer in
      let same : own ≡ reply = same_reply own reply sent in
      let refusal : answer ≡ results.Refused fault = is_refusal (with_note s note) answer same in
      let gives_none : GivesNone (admission_for s message).answer =
      ⊎_elim
      (λ l. subst GivesNone (sym (l.0 ∙ ap (λ a. Some a) refusal)) (refusal_gives_none fault))
      (λ r. subst GivesNone (sym r.0) nothing_gives_none)
      h.is_answer in
      let shown : note ≡ first_shown s message = h.is_noted ∙ notes_shown s message serving gives_none in
      inl (record {
        master = ap (λ r. recorded (with_note s note) message.client (answered_by r)) same ∙ ap (λ n. recorded (with_note s n) message.client (answered_by reply)) shown;
        taken = ap sends same;
      })

  granted_so : (note : Option HandleNote) (answer : CallResult) (name : List ℕ) → s.recovering ≡ false → IsGranted s message note answer name → Contains (granting (with_note s note) message.client message.number answer name).1.outs (outs.Reply reply) → Refuses s message (granting (with_note s note) message.client message.number answer name) reply fault
  granted_so note answer name serving h sent =
      let own : Reply = stamped_reply (with_note s note) message.client message.number answer in
      let same : own ≡ reply = same_reply own reply sent in
      let refusal : answer ≡ results.Refused fault = is_stamped_refusal (with_note s note) answer same in
      let at_once : (admission_for s message).answer ≡ Some (results.Refused fault) = h.is_answer ∙ ap (λ a. Some a) refusal in
      let tells = tells_absence s message fault name at_once h.is_told in
      let shown : note ≡ first_shown s message = h.is_noted ∙ notes_shown s message serving (subst GivesNone (sym at_once) (refusal_gives_none fault)) in
      let none : note ≡ None = shown ∙ none_by_open s message tells.opening tells.is_open serving in
      let right : MasterState = with_right s message.client name in
      let nothing : first_shown right message ≡ None = none_by_open right message tells.opening tells.is_open serving in
      let printed : MasterState → Reply → Taken = λ t r. record { lines = granted_lines message.client name (grant_answer message.client name t.rights); outs = outs.Reply r ∷ [] } in
      inr (record {
        name = name;
        tells = tells;
        master =
            ap (λ n. recorded (with_right (with_note s n) message.client name) message.client (answered_by own)) none
            ∙ ap (λ r. recorded right message.client (answered_by r)) same
            ∙ ap (λ n. recorded (with_note right n) message.client (answered_by reply)) (sym nothing);
        taken = ap (λ n. printed (with_note s n) own) none ∙ ap (printed s) same;
      })

  refused_by : (p : MasterState × Taken) (c : NewCase s message) → p ≡ new_by s message c → Contains p.1.outs (outs.Reply reply) → Refuses s message p reply fault
  refused_by p (Recovers down) is sent = subst (λ q. Contains q.1.outs (outs.Reply reply) → Refuses s message q reply fault) (sym is) (recovering down) sent
  refused_by p (Answers shown answer serving h) is sent = subst (λ q. Contains q.1.outs (outs.Reply reply) → Refuses s message q reply fault) (sym is) (answered shown answer serving h) sent
  refused_by p (Grants shown answer name serving h) is sent = subst (λ q. Contains q.1.outs (outs.Reply reply) → Refuses s message q reply fault) (sym is) (granted_so shown answer name serving h) sent
  refused_by p (Queues shown touched serving h) is sent = absurd (none_in (outs.Reply reply) (subst (λ q. Contains q.1.outs (outs.Reply reply)) is sent))

refused_so : (s new : MasterState) (now : ℕ) (message : CallMessage) (taken : Taken) (reply : Reply) (fault : Fault) → RefusesCall s now message new taken reply fault → Refuses (noted s now) message (new, taken) reply fault
refused_so s new now message taken reply fault h =
    let c = new_case s new now message taken h.step h.is_new in
    refused_by (noted s now) message reply fault h.refuses (new, taken) c.0 c.1 h.is_sent

pub refusal_grants_absence_alone : RefusalGrantsAbsenceAlone
refusal_grants_absence_alone s new now message taken reply fault h =
    ⊎_elim (λ l. inl l.master)
    (λ r.
    inr (record {
      opening = r.tells.opening;
      is_open = r.tells.is_open;
      not_found = r.tells.not_found;
      granted = r.master ∙ ap (λ name. with_refusal (with_right (noted s now) message.client name) message reply) r.tells.is_name;
    }))
    (refused_so s new now message taken reply fault h)

-- ---- where no right is granted

longer : (xs : List CacheRight) (x : CacheRight) → xs ++ x ∷ [] ≡ xs → ⊥
longer [] x h = cc
longer (y ∷ ys) x h = longer ys x (cc)

note_rights : (s : MasterState) (o : Option HandleNote) → (with_note s o).rights ≡ s.rights
note_rights s None = refl
note_rights s (Some note) = refl

-- nothing is printed of it
no_lines : (client : ℕ) (name : List ℕ) (rights : List CacheRight) (answer : Result Grant Fault) → with_granted answer client name rights ≡ rights → granted_lines client name answer ≡ []
no_lines client name rights (Ok (grants.Granted number)) h = absurd (longer rights (new_right number client name) h)
no_lines client name rights (Ok (grants.Already number)) h = refl
no_lines client name rights (Ok grants.Full) h = refl
no_lines client name rights (Err fault) h = refl

pub refused_call_changes_nothing : RefusedCallChangesNothing
refused_call_changes_nothing s new now message taken reply fault h stay =
    let there : MasterState = noted s now in
    ⊎_elim (λ l. (l.master, l.taken))
    (λ r.
    let right : MasterState = with_right there message.client r.name in
    let same : granted message.client r.name s.rights ≡ s.rights = sym (ap (λ m. m.rights) r.master ∙ note_rights right (first_shown right message)) ∙ stay in
    let with : List CacheRight → MasterState = λ rights. record there { rights = rights } in (
      r.master ∙ ap (λ rights. with_refusal (with rights) message reply) same,
      r.taken ∙ ap (λ printed. record { lines = printed; outs = outs.Reply reply ∷ [] }) (no_lines message.client r.name s.rights (grant_answer message.client r.name s.rights) same),
    ))
    (refused_so s new now message taken reply fault h)
