-- The arm of the table that a new call takes.
use Rattle.std.proofs.Common.{◌≡◌, ◌<◌, ℕ, List, Bool, true, false, Option, Some, None, Ok, sym, ap, subst, ◌∙◌, arith}
use Rattle.node_core.specs.declared.refusals.Fault.TheVariants as faults
use Rattle.tags_cell.specs.declared.messages.outs.CallResult.{CallResult}
use Rattle.tags_cell.specs.declared.messages.outs.CallResult.TheVariants as results
use Rattle.tags_cell.specs.declared.messages.requests.CallMessage.{CallMessage}
use Rattle.tags_cell.specs.declared.messages.requests.Request.TheVariants as requests
use Rattle.tags_cell.specs.declared.messages.outs.Reply.{Reply}
use Rattle.session_core.specs.declared.records.LastCall.{LastCall}
use Rattle.master_parts.specs.declared.handles.HandleNote.{HandleNote}
use Rattle.master_parts.specs.declared.pending.Taken.{Taken}
use Rattle.master_state.specs.State.{MasterState}
use Rattle.master_state.specs.Lookups.{kept_of, is_live, noted}
use Rattle.cell_core.specs.declared.asking.TouchedNames.{TouchedNames}
use Rattle.cell_core.specs.Step.{take_step, replied, granting, waits}
use Rattle.master_state.specs.Updates.{with_note}
use Rattle.cell_core.specs.Cases.{IsBehind, IsNew, IsAnswered, IsGranted, IsAdmitted, TakeCase, taken_by}
use Rattle.cell_core.specs.Cases.TakeCase.{StartRefused, StartRecovering, StartFull, StartQueued, OldBeat, BeatRefused, BeatParked, OldEpoch, NoSession, LeftBefore, Repeated, OlderCall, Outstanding, LeavesBeside, Recovering, Answered, Granted, Waits}
use Rattle.cell_core.proofs.TakeCases.{taken_case}

-- it is refused in a recovery, it is answered at once, it is answered by what may be kept in a cache, or it waits
pub data NewCase (s : MasterState) (message : CallMessage) : Type 0 where
  Recovers : s.recovering ≡ true → NewCase s message
  Answers : (note : Option HandleNote) (answer : CallResult) → s.recovering ≡ false → IsAnswered s message note answer → NewCase s message
  Grants : (note : Option HandleNote) (answer : CallResult) (name : List ℕ) → s.recovering ≡ false → IsGranted s message note answer name → NewCase s message
  Queues : (note : Option HandleNote) (touched : Option TouchedNames) → s.recovering ≡ false → IsAdmitted s message note touched → NewCase s message

abbrev pub new_by : (s : MasterState) (message : CallMessage) → NewCase s message → MasterState × Taken
new_by s message (Recovers recovering) = replied s message.client message.number (results.Refused faults.Recovering)
new_by s message (Answers note answer serving h) = replied (with_note s note) message.client message.number answer
new_by s message (Grants note answer name serving h) = granting (with_note s note) message.client message.number answer name
new_by s message (Queues note touched serving h) = waits (with_note s note) message touched

-- one of the cases is what is done
abbrev pub IsNewCase : (s : MasterState) → CallMessage → MasterState × Taken → Type 0
IsNewCase s message p = (c : NewCase s message) × (p ≡ new_by s message c)

not_ended : (b : Bool) → b ≡ false → b ≡ true → ⊥
not_ended b ended live = cc

-- a call isn't new where its client's last one has its number, a larger one, or no reply
not_same : (o : Option (LastCall Reply)) (kept : LastCall Reply) (number : ℕ) → o ≡ Some kept → number ≡ kept.number → IsBehind o number → ⊥
not_same None kept number is same h = cc
not_same (Some other) kept number is same h =
    let e : other ≡ kept = cc in
    let below : kept.number < number = subst (λ k. k.number < number) e h.2 in
    omega (arith, below, same)

not_older : (o : Option (LastCall Reply)) (kept : LastCall Reply) (number : ℕ) → o ≡ Some kept → number < kept.number → IsBehind o number → ⊥
not_older None kept number is less h = cc
not_older (Some other) kept number is less h =
    let e : other ≡ kept = cc in
    let below : kept.number < number = subst (λ k. k.number < number) e h.2 in
    omega (arith, below, less)

not_waiting : (o : Option (LastCall Reply)) (kept : LastCall Reply) (number : ℕ) → o ≡ Some kept → kept.reply ≡ None → IsBehind o number → ⊥
not_waiting None kept number is none h = cc
not_waiting (Some other) kept number is none h =
    let e : other ≡ kept = cc in
    let has : kept.reply ≡ Some h.0 = subst (λ k. k.reply ≡ Some h.0) e h.1 in
    cc

module _ (s : MasterState) (message : CallMessage) (new : IsNew s (requests.Call message) message) where
  -- the message of a case is the call
  abbrev IsOf : CallMessage → Type 0
  IsOf other = requests.Call message ≡ requests.Call other

  same : (other : CallMessage) → IsOf other → message ≡ other
  same other is = cc

  behind : (other : CallMessage) → IsOf other → IsBehind (kept_of s other.client) other.number
  behind other is = subst (λ m. IsBehind (kept_of s m.client) m.number) (same other is) new.behind

  of_case : (p : MasterState × Taken) (c : TakeCase s (requests.Call message)) → p ≡ taken_by s (requests.Call message) c → IsNewCase s message p
  of_case p (StartRefused start is may) h = absurd cc
  of_case p (StartRecovering start is may recovering) h = absurd cc
  of_case p (StartFull start is may going full) h = absurd cc
  of_case p (StartQueued start is may going room) h = absurd cc
  of_case p (OldBeat beat is other) h = absurd cc
  of_case p (BeatRefused beat fault is epoch refused) h = absurd cc
  of_case p (BeatParked beat is epoch passes) h = absurd cc
  of_case p (OldEpoch other is old) h = absurd (old (ap (λ m. m.epoch) (sym (same other is)) ∙ new.heard.epoch))
  of_case p (NoSession other is epoch ended) h =
      let e = same other is in
      let live = new.heard.live in
      absurd (not_ended (is_live s other.client) ended (subst (λ m. is_live s m.client ≡ true) e live))
  of_case p (LeftBefore other kept is epoch ended found equal) h =
      let e = same other is in
      let live = new.heard.live in
      absurd (not_ended (is_live s other.client) ended (subst (λ m. is_live s m.client ≡ true) e live))
  of_case p (Repeated other kept heard is equal) h = absurd (not_same (kept_of s other.client) kept other.number is equal (behind other heard.is_call))
  of_case p (OlderCall other kept heard is less) h = absurd (not_older (kept_of s other.client) kept other.number is less (behind other heard.is_call))
  of_case p (Outstanding other kept heard is more none) h = absurd (not_waiting (kept_of s other.client) kept other.number is none (behind other heard.is_call))
  of_case p (LeavesBeside other heard beside) h = absurd (not_waiting (kept_of s other.client) beside.kept other.number beside.found beside.none (behind other heard.is_call))
  of_case p (Recovering other fresh recovering) h =
      subst (λ m. p ≡ replied s m.client m.number (results.Refused faults.Recovering) → IsNewCase s message p) (same other fresh.heard.is_call) (λ e. (Recovers recovering, e)) h
  of_case p (Answered other note answer fresh going answered) h =
      subst (λ m. IsAnswered s m note answer → p ≡ replied (with_note s note) m.client m.number answer → IsNewCase s message p) (same other fresh.heard.is_call) (λ a e. (Answers note answer going a, e)) answered h
  of_case p (Granted other note answer name fresh going granted) h =
      subst (λ m. IsGranted s m note answer name → p ≡ granting (with_note s note) m.client m.number answer name → IsNewCase s message p) (same other fresh.heard.is_call) (λ a e. (Grants note answer name going a, e)) granted h
  of_case p (Waits other note touched fresh going admitted) h =
      subst (λ m. IsAdmitted s m note touched → p ≡ waits (with_note s note) m touched → IsNewCase s message p) (same other fresh.heard.is_call) (λ a e. (Queues note touched going a, e)) admitted h

pub new_case : (s new : MasterState) (now : ℕ) (message : CallMessage) (taken : Taken) → take_step s now (requests.Call message) ≡ Ok (new, taken) → IsNew (noted s now) (requests.Call message) message → IsNewCase (noted s now) message (new, taken)
new_case s new now message taken step is_new =
    let c = taken_case s new now (requests.Call message) taken step in
    of_case (noted s now) message is_new (new, taken) c.0 c.1
