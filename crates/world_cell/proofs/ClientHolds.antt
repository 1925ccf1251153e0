-- What a client holds of its cache, of its handles and of its call stays as it should, whatever it is asked for and given.
use Rattle.std.proofs.Common.{◌≡◌, ℕ, ◌+◌, ◌≤◌, Bool, true, false, cond, List, [], ◌∷◌, ◌++◌, Option, Some, None, Result, Ok, Err, refl, sym, ap, ◌∙◌, subst, arith, drop}
use Rattle.std.specs.Prelude.{◌&&◌, nat_lt, length, is_none, is_some}
use Rattle.std.specs.Cmp.{nat_cmp_total}
use Rattle.std.specs.List.{AllByRecursion, IsDistinct}
use Rattle.std.specs.List.Sorted.{IsStrictlySortedBy}
use Rattle.std.specs.Option.{option_map}
use Rattle.std.specs.Map.{keys_of, remove_entry, set_value}
use Rattle.std.specs.BTreeMap.{is_at, insert_entry}
use Rattle.std.specs.Ordering.{nat_cmp}
use Rattle.std.proofs.lemmas.Map.{keys-set_value}
use Rattle.collections.proofs.OneKey.{lookup_set, lookup_set_apart, lookup_put, lookup_put_apart, lookup_removed, lookup_removed_apart}
use Rattle.node_core.proofs.Orders.{sorted_insert, sorted_remove}
use Rattle.node_core.specs.declared.refusals.Fault.{Fault}
use Rattle.node_core.specs.declared.refusals.Fault.TheVariants as faults
use Rattle.node_core.specs.declared.answers.Answer.{Answer}
use Rattle.node_core.specs.declared.views.View.{View}
use Rattle.tags_cell.specs.Handles.{name_in}
use Rattle.tags_cell.specs.declared.messages.calls.Call.{Call}
use Rattle.tags_cell.specs.declared.messages.calls.Call.TheVariants as calls
use Rattle.tags_cell.specs.declared.messages.calls.Open.{Open}
use Rattle.tags_cell.specs.declared.messages.requests.CallMessage.{CallMessage}
use Rattle.tags_cell.specs.declared.messages.outs.Out.{Out}
use Rattle.tags_cell.specs.declared.messages.outs.Reply.{Reply}
use Rattle.tags_cell.specs.declared.messages.outs.CallResult.{CallResult}
use Rattle.tags_cell.specs.declared.messages.outs.CallResult.TheVariants as results
use Rattle.tags_cell.specs.declared.messages.outs.NewHandle.{NewHandle}
use Rattle.tags_cell.specs.Messages.{request_number}
use Rattle.cache_core.specs.Caches.{AreCacheEntries, entry_limit, entry_of, answer}
use Rattle.cache_core.specs.Kept.{serving, with_kept}
use Rattle.cache_core.specs.declared.kept.SharedHandle as shared
use Rattle.cache_core.proofs.Sharing.{served_is_kept}
use Rattle.client_core.specs.Calls.{call_on}
use Rattle.client_core.specs.Opens.{is_plain, only_reads, is_shareable, kept_handle, cached_answer}
use Rattle.client_core.specs.Targets.{is_on, opening_in, opening_by, dropped, opening_of, sequencer_of}
use Rattle.client_core.specs.declared.parts.asks.Ask.{Ask}
use Rattle.client_core.specs.declared.parts.asks.Ask.TheVariants as asks
use Rattle.client_core.specs.declared.parts.asks.NodeCall.{NodeCall}
use Rattle.client_core.specs.declared.parts.handles.ClientHandle.{ClientHandle}
use Rattle.client_core.specs.declared.parts.sessions.ClientStanding.{ClientStanding}
use Rattle.client_core.specs.declared.parts.sessions.ClientStanding.TheVariants as sessions
use Rattle.client_core.specs.declared.parts.targets.Outstanding.{Outstanding}
use Rattle.client_core.specs.declared.parts.targets.Target.{Target}
use Rattle.client_core.specs.declared.parts.targets.Target.TheVariants as targets
use Rattle.client_core.specs.declared.plans.AskPlan.{AskPlan}
use Rattle.client_core.specs.declared.plans.AskPlan.TheVariants as plans
use Rattle.client_core.specs.State.{ClientState, new_client, note_in, note_live}
use Rattle.client_core.specs.Handles.{handle_of, usable_handle, put_under, handles_behind, kept_behind}
use Rattle.client_core.specs.Serves.{serve_answer, cached_served, read_served, share, entry_served, open_served}
use Rattle.client_core.specs.Asks.{send_plan, may_leave, served_or, open_plan, close_plan, poison_plan, node_plan, sequencer_plan, plan_of, message_of, with_call, with_shared, without_handle}
use Rattle.client_core.specs.Poisons.{poisoned, with_poisoned}
use Rattle.client_core.specs.Gives.{closed, sequenced, ended_plainly}
use Rattle.client_core.specs.Cases.{AskCase, asked_in, BeatCase, beaten_in, GiveCase, given_in}
use Rattle.client_core.proofs.Leases.{LeaseDoes, asked_keeps, beaten_keeps_session, given_lease, unstarted_stays}
use Rattle.client_core.proofs.Leases.LeaseDoes.{LeaseKept, LeaseLeft, LeaseCarried, LeaseBegun, LeaseBettered, LeasePassed}
use Rattle.client_core.proofs.OneEntry.{EntryDoes, none_stays, asked_stays, beaten_stays, given_entry}
use Rattle.client_core.proofs.OneEntry.EntryDoes.{EntryStays, EntryInstalled}
use Rattle.world_steps.specs.declared.mail.Message.{Message}
use Rattle.world_steps.specs.declared.mail.Message.TheVariants.{ToMaster}
use Rattle.world_steps.specs.Messages.{call_of}
use Rattle.world_cell.specs.Consistent.{AreHandles, IsSharedByName, HasAsked, Holds, OpensAs, IsAnswer}
use Rattle.world_cell.proofs.MessagesGrow.{call_stays, call_new, its_call}
use Rattle.world_cell.proofs.OneSession.{at_each}
use Rattle.client_core.proofs.Leaving.{asked_off, beaten_off, given_off}

some_is : {A : Type 0} (x y : A) → Some x ≡ Some y → x ≡ y
some_is x y h = cc

-- ---- handles

abbrev pub Handles : Type 0
Handles = List (ℕ × ClientHandle)

least : (n : ℕ) → n ≤ n
least n = omega arith

zero_least : (n : ℕ) → 0 ≤ n
zero_least n = omega arith

-- what is found under a number then was found there before, poisoned or not
abbrev FoundBefore : Handles → ℕ → ClientHandle → Type 0
FoundBefore handles number handle = (before : ClientHandle) × (handle_of handles number ≡ Some before) × (handle.bytes ≡ before.bytes) × (handle.name ≡ before.name)

found_removed : (number : ℕ) (handles : Handles) → IsStrictlySortedBy nat_cmp (keys_of handles) → (q : ℕ) (x : ClientHandle) → handle_of (remove_entry (is_at (nat_cmp number)) handles) q ≡ Some x → FoundBefore handles q x
found_removed number handles in_order =
    at_each (λ q. (x : ClientHandle) → handle_of (remove_entry (is_at (nat_cmp number)) handles) q ≡ Some x → FoundBefore handles q x) number
    (λ x e. let none = lookup_removed number handles in_order in cc)
    (λ q apart x e. (x, sym (lookup_removed_apart number q apart handles) ∙ e, refl, refl))

found_changed : (number : ℕ) (handles : Handles) (handle v : ClientHandle) → handle_of handles number ≡ Some handle → v.bytes ≡ handle.bytes → v.name ≡ handle.name → (q : ℕ) (x : ClientHandle) → handle_of (set_value (is_at (nat_cmp number)) handles v) q ≡ Some x → FoundBefore handles q x
found_changed number handles handle v found bytes name =
    at_each (λ q. (x : ClientHandle) → handle_of (set_value (is_at (nat_cmp number)) handles v) q ≡ Some x → FoundBefore handles q x) number
    (λ x e.
    let is : v ≡ x = some_is v x (sym (lookup_set number handles v ∙ ap (option_map (λ (w : ClientHandle). v)) found) ∙ e) in
    (handle, found, sym (ap (λ (y : ClientHandle). y.bytes) is) ∙ bytes, sym (ap (λ (y : ClientHandle). y.name) is) ∙ name))
    (λ q apart x e. (x, sym (lookup_set_apart number q apart handles v) ∙ e, refl, refl))

found_poisoned : (number : ℕ) (handles : Handles) (handle : ClientHandle) → handle_of handles number ≡ Some handle → (q : ℕ) (x : ClientHandle) → handle_of (poisoned handles number handle) q ≡ Some x → FoundBefore handles q x
found_poisoned number handles handle found = found_changed number handles handle (record handle { poisoned = true }) found refl refl

-- no handle but those that were
fewer_handles : (opened : ℕ) (handles new : Handles) → AreHandles opened handles → IsStrictlySortedBy nat_cmp (keys_of new) → ((q : ℕ) (x : ClientHandle) → handle_of new q ≡ Some x → FoundBefore handles q x) → AreHandles opened new
fewer_handles opened handles new h in_order before = record {
  in_order = in_order;
  counted = λ q x is. let y = before q x is in h.counted q y.0 y.1;
  named = λ q x is. let y = before q x is in ap name_in y.2 ∙ h.named q y.0 y.1 ∙ sym y.3;
}

removed_handles : (opened number : ℕ) (handles : Handles) → AreHandles opened handles → AreHandles opened (remove_entry (is_at (nat_cmp number)) handles)
removed_handles opened number handles h =
    fewer_handles opened handles (remove_entry (is_at (nat_cmp number)) handles) h (sorted_remove nat_cmp_total (is_at (nat_cmp number)) handles h.in_order) (found_removed number handles h.in_order)

changed_handles : (opened number : ℕ) (handles : Handles) (handle v : ClientHandle) → handle_of handles number ≡ Some handle → v.bytes ≡ handle.bytes → v.name ≡ handle.name → AreHandles opened handles → AreHandles opened (set_value (is_at (nat_cmp number)) handles v)
changed_handles opened number handles handle v found bytes name h =
    fewer_handles opened handles (set_value (is_at (nat_cmp number)) handles v) h
    (subst (λ (ks : List ℕ). IsStrictlySortedBy nat_cmp ks) (sym (keys-set_value (is_at (nat_cmp number)) handles v)) h.in_order)
    (found_changed number handles handle v found bytes name)

poisoned_handles : (opened number : ℕ) (handles : Handles) (handle : ClientHandle) → handle_of handles number ≡ Some handle → AreHandles opened handles → AreHandles opened (poisoned handles number handle)
poisoned_handles opened number handles handle found h = changed_handles opened number handles handle (record handle { poisoned = true }) found refl refl h

-- one handle more, under the next number
put_handles : (opened : ℕ) (handles : Handles) (handle : ClientHandle) → AreHandles opened handles → name_in handle.bytes ≡ handle.name → AreHandles (opened + 1) (insert_entry nat_cmp handles (opened + 1) handle)
put_handles opened handles handle h named = record {
  in_order = sorted_insert nat_cmp_total handles (opened + 1) handle h.in_order;
  counted = at_each (λ q. (x : ClientHandle) → handle_of (insert_entry nat_cmp handles (opened + 1) handle) q ≡ Some x → q ≤ opened + 1) (opened + 1)
      (λ x e. least (opened + 1))
      (λ q apart x e. let k = h.counted q x (sym (lookup_put_apart (opened + 1) q apart handles handle) ∙ e) in omega (arith, k));
  named = at_each (λ q. (x : ClientHandle) → handle_of (insert_entry nat_cmp handles (opened + 1) handle) q ≡ Some x → name_in x.bytes ≡ x.name) (opened + 1)
      (λ x e. subst (λ (y : ClientHandle). name_in y.bytes ≡ y.name) (some_is handle x (sym (lookup_put (opened + 1) handles handle) ∙ e)) named)
      (λ q apart x e. h.named q x (sym (lookup_put_apart (opened + 1) q apart handles handle) ∙ e));
}

more_counted : (opened : ℕ) (handles : Handles) → AreHandles opened handles → AreHandles (opened + 1) handles
more_counted opened handles h = record { in_order = h.in_order; counted = λ q x is. let k = h.counted q x is in omega (arith, k); named = h.named }

-- ---- handles that are kept to be shared

all_appended : {A : Type 0} (P : A → Type 0) (xs : List A) (x : A) → AllByRecursion P xs → P x → AllByRecursion P (xs ++ x ∷ [])
all_appended P [] x h k = (k, tt)
all_appended P (y ∷ xs) x h k = (h.0, all_appended P xs x h.1 k)

all_but_first : {A : Type 0} (P : A → Type 0) (xs : List A) → AllByRecursion P xs → AllByRecursion P (drop 1 xs)
all_but_first P [] h = h
all_but_first P (x ∷ xs) h = h.1

without_first : {A : Type 0} (P : A → Type 0) (b : Bool) (xs : List A) → AllByRecursion P xs → AllByRecursion P (cond b (drop 1 xs) xs)
without_first P true xs h = all_but_first P xs h
without_first P false xs h = h

kept_more : (kept : List (shared.SharedHandle NewHandle)) (one : shared.SharedHandle NewHandle) → AllByRecursion IsSharedByName kept → IsSharedByName one → AllByRecursion IsSharedByName (with_kept kept one)
kept_more kept one h k = without_first IsSharedByName (nat_lt entry_limit (length (kept ++ one ∷ []))) (kept ++ one ∷ []) (all_appended IsSharedByName kept one h k)

kept_if : (b : Bool) (kept : List (shared.SharedHandle NewHandle)) (one : shared.SharedHandle NewHandle) → AllByRecursion IsSharedByName kept → IsSharedByName one → AllByRecursion IsSharedByName (cond b (with_kept kept one) kept)
kept_if true kept one h k = kept_more kept one h k
kept_if false kept one h k = h

-- one that serves is of the name that it serves
pub serves_name : (kept : List (shared.SharedHandle NewHandle)) (name : List ℕ) (instance : ℕ) (handle : NewHandle) → AllByRecursion IsSharedByName kept → serving kept name instance ≡ Some handle → name_in handle.bytes ≡ name
serves_name kept name instance handle all is =
    let found = served_is_kept IsSharedByName kept name instance handle all is in
    ap (λ (x : NewHandle). name_in x.bytes) (sym found.4) ∙ found.1 ∙ found.2

-- ---- handles and the call

-- what a client holds but its cache
pub record Grips (sent : List Message) (s : ClientState) : Type 0 where
  pub handles : AreHandles s.opened s.handles
  pub kept : AllByRecursion IsSharedByName s.kept
  pub asked : (call : Outstanding) → s.outstanding ≡ Some call → HasAsked sent s call

pub grips : (sent : List Message) (s : ClientState) → Holds sent s → Grips sent s
grips sent s h = record { handles = h.handles; kept = h.kept; asked = h.asked }

-- the call stays asked, where its handle stays if it is there
asked_then : (sent : List Message) (s new : ClientState) (call : Outstanding) → HasAsked sent s call → new.number ≡ s.number → s.opened ≤ new.opened → ((q : ℕ) (x : ClientHandle) → q ≤ s.opened → handle_of new.handles q ≡ Some x → FoundBefore s.handles q x) → HasAsked sent new call
asked_then sent s new call h same more before = record {
  message = h.message;
  is_call = h.is_call;
  found = subst (λ (n : ℕ). call_of sent n h.message.number ≡ Some h.message) (sym same) h.found;
  counted = λ number at. let k = h.counted number at in omega (arith, k, more);
  made = λ number handle at is.
      let y = before number handle (h.counted number at) is in
      let k = h.made number y.0 at y.1 in
      (k.0, k.1 ∙ ap (λ (bytes : List ℕ). call_on bytes k.0) (sym y.2));
}

-- nothing of it changes
pub record SameGrips (s new : ClientState) : Type 0 where
  pub number : new.number ≡ s.number
  pub opened : new.opened ≡ s.opened
  pub handles : new.handles ≡ s.handles
  pub kept : new.kept ≡ s.kept
  pub outstanding : new.outstanding ≡ s.outstanding

pub note_grips : (s : ClientState) (session : ClientStanding) (moment : ℕ) → SameGrips s (note_in session s moment)
note_grips s sessions.Unstarted moment = record { number = refl; opened = refl; handles = refl; kept = refl; outstanding = refl }
note_grips s sessions.Live moment = record { number = refl; opened = refl; handles = refl; kept = refl; outstanding = refl }
note_grips s sessions.Lost moment = record { number = refl; opened = refl; handles = refl; kept = refl; outstanding = refl }
note_grips s sessions.TurnedAway moment = record { number = refl; opened = refl; handles = refl; kept = refl; outstanding = refl }

pub same_grips : (s : ClientState) → SameGrips s s
same_grips s = record { number = refl; opened = refl; handles = refl; kept = refl; outstanding = refl }

handles_then : (opened then : ℕ) (handles new : Handles) → then ≡ opened → new ≡ handles → AreHandles opened handles → AreHandles then new
handles_then opened then handles new h k fits = subst (λ (n : ℕ). AreHandles n new) (sym h) (subst (λ (x : Handles). AreHandles opened x) (sym k) fits)

same_handles : (sent : List Message) (s new : ClientState) → SameGrips s new → (call : Outstanding) → HasAsked sent s call → HasAsked sent new call
same_handles sent s new same call h =
    let more = same.opened in
    asked_then sent s new call h same.number (omega (arith, more)) (λ q x within is. (x, subst (λ (y : Handles). handle_of y q ≡ Some x) same.handles is, refl, refl))

pub grips_stay : (sent : List Message) (s new : ClientState) → Grips sent s → SameGrips s new → Grips sent new
grips_stay sent s new h same = record {
  handles = handles_then s.opened new.opened s.handles new.handles same.opened same.handles h.handles;
  kept = subst (λ (kept : List (shared.SharedHandle NewHandle)). AllByRecursion IsSharedByName kept) (sym same.kept) h.kept;
  asked = λ call is. same_handles sent s new same call (h.asked call (sym same.outstanding ∙ is));
}

-- a call ends, and leaves these handles
pub grips_end : (sent : List Message) (s new : ClientState) → AreHandles new.opened new.handles → AllByRecursion IsSharedByName new.kept → new.outstanding ≡ None → Grips sent new
grips_end sent s new handles kept none = record { handles = handles; kept = kept; asked = λ call is. cc }

pub grips_shared : (sent : List Message) (s : ClientState) (moment : ℕ) (handle : ClientHandle) → Grips sent s → name_in handle.bytes ≡ handle.name → Grips sent (with_shared s moment handle)
grips_shared sent s moment handle h named = record {
  handles = put_handles s.opened s.handles handle h.handles named;
  kept = h.kept;
  asked = λ call is. asked_then sent s (with_shared s moment handle) call (h.asked call is) refl (omega arith)
      (λ q x within found. (x, sym (lookup_put_apart (s.opened + 1) q (λ e. absurd (omega (arith, e, within))) s.handles handle) ∙ found, refl, refl));
}

pub grips_released : (sent : List Message) (s : ClientState) (moment number : ℕ) → Grips sent s → Grips sent (without_handle s moment number)
grips_released sent s moment number h = record {
  handles = removed_handles s.opened number s.handles h.handles;
  kept = h.kept;
  asked = λ call is. asked_then sent s (without_handle s moment number) call (h.asked call is) refl (least s.opened) (λ q x within found. found_removed number s.handles h.handles.in_order q x found);
}

-- ---- a Poison

-- a call that is dropped is on no handle
dropped_asked : (sent : List Message) (s : ClientState) (call : Outstanding) (b : Bool) → HasAsked sent s call → HasAsked sent s (cond b (record call { target = targets.Dropped }) call)
dropped_asked sent s call true h = record { message = h.message; is_call = h.is_call; found = h.found; counted = λ number at. cc; made = λ number handle at is. cc }
dropped_asked sent s call false h = h

asked_dropped : (sent : List Message) (s new : ClientState) (number : ℕ) (o : Option Outstanding) → ((call : Outstanding) → o ≡ Some call → HasAsked sent s call) → ((call : Outstanding) → HasAsked sent s call → HasAsked sent new call) → (call : Outstanding) → dropped number o ≡ Some call → HasAsked sent new call
asked_dropped sent s new number None h k call is = cc
asked_dropped sent s new number (Some former) h k call is =
    subst (λ (x : Outstanding). HasAsked sent new x) (some_is (cond (is_on number former.target) (record former { target = targets.Dropped }) former) call is)
    (k (cond (is_on number former.target) (record former { target = targets.Dropped }) former) (dropped_asked sent s former (is_on number former.target) (h former refl)))

pub grips_poisoned : (sent : List Message) (s : ClientState) (moment number : ℕ) (handle : ClientHandle) → handle_of s.handles number ≡ Some handle → Grips sent s → Grips sent (with_poisoned s moment number handle)
grips_poisoned sent s moment number handle found h = record {
  handles = poisoned_handles s.opened number s.handles handle found h.handles;
  kept = h.kept;
  asked = asked_dropped sent s (with_poisoned s moment number handle) number s.outstanding h.asked
      (λ call k. asked_then sent s (with_poisoned s moment number handle) call k refl (least s.opened) (λ q x within is. found_poisoned number s.handles handle found q x is));
}

-- ---- a call is sent

-- one that is on a node's handle is made with the handle's bytes
record IsMade (s : ClientState) (call : Call) (number : ℕ) : Type 0 where
  handle : ClientHandle
  found : handle_of s.handles number ≡ Some handle
  node : NodeCall
  same : call ≡ call_on handle.bytes node

-- whatever the plan sends is made so
abbrev MadeBy : ClientState → Result AskPlan Fault → Type 0
MadeBy s (Ok (plans.Send call sequencer target)) = (number : ℕ) → target ≡ targets.Handle number → IsMade s call number
MadeBy s (Ok _) = Unit {0}
MadeBy s (Err fault) = Unit {0}

abbrev MadeIf : ClientState → Option AskPlan → Type 0
MadeIf s None = Unit {0}
MadeIf s (Some plan) = MadeBy s (Ok plan)

module _ (s : ClientState) where
  made_send : (call : Call) (sequencer : Option (List ℕ)) (target : Target) → ((number : ℕ) → target ≡ targets.Handle number → IsMade s call number) → MadeBy s (send_plan s call sequencer target)
  made_send call sequencer target h = elim (is_some s.outstanding) as (λ b. MadeBy s (cond b (Err faults.CallOutstanding) (Ok (plans.Send call sequencer target)))) [ true ↦ tt | false ↦ h ]

  made_or : (o : Option AskPlan) (sent : Result AskPlan Fault) → MadeIf s o → MadeBy s sent → MadeBy s (served_or o sent)
  made_or None sent h k = k
  made_or (Some plan) sent h k = h

  made_if : (b : Bool) (o : Option AskPlan) → MadeIf s o → MadeIf s (cond b o None)
  made_if true o h = h
  made_if false o h = tt

  made_share : (opening : Open) (view : View) (o : Option NewHandle) → MadeIf s (option_map (share s opening view) o)
  made_share opening view None = tt
  made_share opening view (Some handle) = tt

  made_entry : (opening : Open) (o : Option (Option View)) → MadeIf s (entry_served s opening o)
  made_entry opening None = tt
  made_entry opening (Some None) = tt
  made_entry opening (Some (Some view)) = made_if (only_reads opening) (option_map (share s opening view) (serving s.kept opening.name view.node.instance)) (made_share opening view (serving s.kept opening.name view.node.instance))

  made_open : (moment : ℕ) (opening : Open) → MadeBy s (open_plan s moment opening)
  made_open moment opening = made_or (open_served s moment opening) (send_plan s (calls.Open opening) None targets.NewHandle)
      (made_if (is_plain opening) (entry_served s opening (answer s.cache moment opening.name)) (made_entry opening (answer s.cache moment opening.name)))
      (made_send (calls.Open opening) None targets.NewHandle (λ number at. cc))

  made_close : (number : ℕ) (o : Option ClientHandle) → MadeBy s (close_plan s number o)
  made_close number None = tt
  made_close number (Some handle) = elim handle.shared as (λ b. MadeBy s (cond b (Ok (plans.Release number)) (send_plan s (calls.Close handle.bytes) None (targets.Closing number)))) [
    | true ↦ tt
    | false ↦ made_send (calls.Close handle.bytes) None (targets.Closing number) (λ other at. cc)
  ]

  made_poison : (number : ℕ) (r : Result ClientHandle Fault) → MadeBy s (poison_plan number r)
  made_poison number (Err fault) = tt
  made_poison number (Ok handle) = tt

  made_given : (handle : ClientHandle) (entry : Option View) (o : Option Answer) → MadeIf s (option_map (serve_answer s handle entry) o)
  made_given handle entry None = tt
  made_given handle entry (Some given) = tt

  made_cached : (handle : ClientHandle) (node : NodeCall) (o : Option (Option View)) → MadeIf s (cached_served s handle node o)
  made_cached handle node None = tt
  made_cached handle node (Some entry) = made_given handle entry (cached_answer handle node entry)

  made_served : (moment : ℕ) (handle : ClientHandle) (node : NodeCall) → MadeIf s (read_served s moment handle node)
  made_served moment handle node = made_if (handle.mode.read && is_none handle.sequencer) (cached_served s handle node (answer s.cache moment handle.name)) (made_cached handle node (answer s.cache moment handle.name))

  made_on : (moment number : ℕ) (handle : ClientHandle) (node : NodeCall) → handle_of s.handles number ≡ Some handle → MadeBy s (node_plan s moment number node (Ok handle))
  made_on moment number handle node found = made_or (read_served s moment handle node) (send_plan s (call_on handle.bytes node) handle.sequencer (targets.Handle number)) (made_served moment handle node)
      (made_send (call_on handle.bytes node) handle.sequencer (targets.Handle number) (λ other at. let same : number ≡ other = cc in subst (λ n. IsMade s (call_on handle.bytes node) n) same (record { handle = handle; found = found; node = node; same = refl })))

  made_node : (moment number : ℕ) (node : NodeCall) (o : Option ClientHandle) → handle_of s.handles number ≡ o → MadeBy s (node_plan s moment number node (usable_handle o))
  made_node moment number node None found = tt
  made_node moment number node (Some handle) found = elim handle.poisoned as (λ b. MadeBy s (node_plan s moment number node (cond b (Err faults.Poisoned) (Ok handle)))) [ true ↦ tt | false ↦ made_on moment number handle node found ]

  made_sequencer : (number : ℕ) (sequencer : List ℕ) (r : Result ClientHandle Fault) → MadeBy s (sequencer_plan s number sequencer r)
  made_sequencer number sequencer (Err fault) = tt
  made_sequencer number sequencer (Ok handle) = made_send (calls.SetSequencer handle.bytes) (Some sequencer) (targets.Sequencing number) (λ other at. cc)

  made_plan : (moment : ℕ) (ask : Ask) → MadeBy s (plan_of s moment ask)
  made_plan moment (asks.Open opening) = made_open moment opening
  made_plan moment (asks.Close number) = made_close number (handle_of s.handles number)
  made_plan moment (asks.Poison number) = made_poison number (usable_handle (handle_of s.handles number))
  made_plan moment (asks.Node number node) = made_node moment number node (handle_of s.handles number) refl
  made_plan moment (asks.SetSequencer number sequencer) = made_sequencer number sequencer (usable_handle (handle_of s.handles number))
  made_plan moment (asks.CheckSequencer bytes) = made_send (calls.CheckSequencer bytes) None targets.Checking (λ number at. cc)
  made_plan moment asks.Leave = elim (may_leave s) as (λ b. MadeBy s (cond b (Ok (plans.Send calls.Leave None targets.Leaving)) (Err faults.CallOutstanding))) [ true ↦ (λ number at. cc) | false ↦ tt ]

-- it is the next call, which nobody sent before
pub grips_sent : (sent : List Message) (s : ClientState) (moment : ℕ) (ask : Ask) (call : Call) (sequencer : Option (List ℕ)) (target : Target) → Grips sent s → plan_of s moment ask ≡ Ok (plans.Send call sequencer target) → call_of sent s.number (s.calls + 1) ≡ None → Grips (sent ++ ToMaster (message_of s call sequencer) ∷ []) (with_call s moment call sequencer target)
grips_sent sent s moment ask call sequencer target h is new =
    let message : CallMessage = record { client = s.number; epoch = s.epoch; number = s.calls + 1; call = call; sequencer = sequencer } in
    let made : MadeBy s (Ok (plans.Send call sequencer target)) = subst (MadeBy s) is (made_plan s moment ask) in
    let asked : HasAsked (sent ++ ToMaster (message_of s call sequencer) ∷ []) (with_call s moment call sequencer target) (record { request = message_of s call sequencer; target = target }) = record {
      message = message;
      is_call = refl;
      found = call_new sent (ToMaster (message_of s call sequencer) ∷ []) s.number (s.calls + 1) new ∙ its_call message;
      counted = λ number at. let m = made number at in h.handles.counted number m.handle m.found;
      made = λ number handle at found.
          let m = made number at in
          let same : m.handle ≡ handle = some_is m.handle handle (sym m.found ∙ found) in
          (m.node, m.same ∙ ap (λ (x : ClientHandle). call_on x.bytes m.node) same);
    } in
    record {
      handles = h.handles;
      kept = h.kept;
      asked = λ other is. subst (λ (x : Outstanding). HasAsked (sent ++ ToMaster (message_of s call sequencer) ∷ []) (with_call s moment call sequencer target) x) (some_is (record { request = message_of s call sequencer; target = target }) other is) asked;
    }

-- ---- a call ends

-- a reply to the outstanding call, and that call
pub record IsReplied (sent : List Message) (secret : List ℕ) (s : ClientState) (message : Reply) (call : Outstanding) : Type 0 where
  pub asked : HasAsked sent s call
  pub outstanding : s.outstanding ≡ Some call
  pub answer : IsAnswer sent secret message
  pub same : answer.call ≡ asked.message

pub is_replied : (sent : List Message) (secret : List ℕ) (s : ClientState) (message : Reply) (call : Outstanding) → Holds sent s → IsAnswer sent secret message → message.client ≡ s.number → s.outstanding ≡ Some call → message.number ≡ request_number call.request → IsReplied sent secret s message call
is_replied sent secret s message call h answer own outstanding number =
    let asked = h.asked call outstanding in
    let named : message.number ≡ asked.message.number = number ∙ ap request_number asked.is_call in
    let found : call_of sent message.client message.number ≡ Some asked.message = subst (λ (n : ℕ). call_of sent n message.number ≡ Some asked.message) (sym own) (subst (λ (n : ℕ). call_of sent s.number n ≡ Some asked.message) (sym named) asked.found) in
    record { asked = asked; outstanding = outstanding; answer = answer; same = some_is answer.call asked.message (sym answer.found ∙ found) }

-- the Open that was made
opening_is : (call : Call) (opening : Open) (handle : NewHandle) → opening_in call ≡ Some opening → OpensAs call (results.Opened handle) → name_in handle.bytes ≡ opening.name
opening_is call opening handle is opens =
    let same : opens.0 ≡ opening = some_is opens.0 opening (sym (ap opening_in opens.1) ∙ is) in
    opens.2 ∙ ap (λ (x : Open). x.name) same

opens_name : (sent : List Message) (secret : List ℕ) (s : ClientState) (message : Reply) (call : Outstanding) → IsReplied sent secret s message call → (handle : NewHandle) → message.result ≡ results.Opened handle → (opening : Open) → opening_of s.outstanding ≡ Some opening → name_in handle.bytes ≡ opening.name
opens_name sent secret s message call r handle result opening is =
    opening_is r.asked.message.call opening handle (sym (ap opening_by r.asked.is_call) ∙ sym (ap opening_of r.outstanding) ∙ is)
    (subst (λ (c : CallMessage). OpensAs c.call (results.Opened handle)) r.same (subst (OpensAs r.answer.call.call) result r.answer.opens))

behind_handles : (opened : ℕ) (handles : Handles) (handle : NewHandle) (o : Option Open) → AreHandles opened handles → ((opening : Open) → o ≡ Some opening → name_in handle.bytes ≡ opening.name) → AreHandles (opened + 1) (handles_behind handles (opened + 1) handle o)
behind_handles opened handles handle None h named = more_counted opened handles h
behind_handles opened handles handle (Some opening) h named = put_handles opened handles (kept_handle handle opening (is_shareable handle opening)) h (named opening refl)

behind_kept : (kept : List (shared.SharedHandle NewHandle)) (handle : NewHandle) (o : Option Open) → AllByRecursion IsSharedByName kept → ((opening : Open) → o ≡ Some opening → name_in handle.bytes ≡ opening.name) → AllByRecursion IsSharedByName (kept_behind kept handle o)
behind_kept kept handle None h named = h
behind_kept kept handle (Some opening) h named = kept_if (is_shareable handle opening) kept (record { name = opening.name; instance = handle.instance; handle = handle }) h (named opening refl)

closed_handles : (opened : ℕ) (handles : Handles) (target : Target) → AreHandles opened handles → AreHandles opened (closed handles target)
closed_handles opened handles (targets.Closing number) h = removed_handles opened number handles h
closed_handles opened handles _ h = h

-- one is under a sequencer from then on, or none
put_under_handles : (opened number : ℕ) (handles : Handles) (sequencer : Option (List ℕ)) (o : Option ClientHandle) → handle_of handles number ≡ o → AreHandles opened handles → AreHandles opened (put_under handles number sequencer o)
put_under_handles opened number handles sequencer None found h = h
put_under_handles opened number handles sequencer (Some handle) found h = changed_handles opened number handles handle (record handle { sequencer = sequencer }) found refl refl h

sequenced_handles : (opened : ℕ) (handles : Handles) (target : Target) (sequencer : Option (List ℕ)) → AreHandles opened handles → AreHandles opened (sequenced handles target sequencer)
sequenced_handles opened handles (targets.Sequencing number) sequencer h = put_under_handles opened number handles sequencer (handle_of handles number) refl h
sequenced_handles opened handles _ sequencer h = h

pub grips_replied : (sent : List Message) (secret : List ℕ) (s : ClientState) (moment : ℕ) (message : Reply) (call : Outstanding) (result : CallResult) → Grips sent s → IsReplied sent secret s message call → message.result ≡ result → Grips sent (ended_plainly (note_live s moment) call.target result)
grips_replied sent secret s moment message call (results.Opened handle) h r is =
    let named = opens_name sent secret s message call r handle is in
    grips_end sent s (ended_plainly (note_live s moment) call.target (results.Opened handle)) (behind_handles s.opened s.handles handle (opening_of s.outstanding) h.handles named) (behind_kept s.kept handle (opening_of s.outstanding) h.kept named) refl
grips_replied sent secret s moment message call results.Closed h r is =
    grips_end sent s (ended_plainly (note_live s moment) call.target results.Closed) (closed_handles s.opened s.handles call.target h.handles) h.kept refl
grips_replied sent secret s moment message call results.Done h r is =
    grips_end sent s (ended_plainly (note_live s moment) call.target results.Done) (sequenced_handles s.opened s.handles call.target (sequencer_of s.outstanding) h.handles) h.kept refl
grips_replied sent secret s moment message call _ h r is = grips_end sent s _ h.handles h.kept refl

-- ---- with its cache

module _ (sent later : List Message) (s : ClientState) (now : ℕ) (h : Holds sent s) where
  pub asked_rest : (ask : Ask) (c : AskCase s now ask) → Grips later (asked_in s now ask c).0 → Holds later (asked_in s now ask c).0
  asked_rest ask c g = record {
    entries = (asked_stays s now ask [] c h.entries).fits;
    none_before = λ e name. none_stays s.cache.entries (asked_in s now ask c).0.cache.entries name (asked_stays s now ask name c h.entries).entry (h.none_before (unstarted_stays s (asked_in s now ask c).0 (asked_keeps s now ask c).of_session.session e) name);
    handles = g.handles;
    kept = g.kept;
    asked = g.asked;
    off = asked_off s now ask c h.off;
  }

  pub beaten_rest : (c : BeatCase s now) → Grips later (beaten_in s now c).0 → Holds later (beaten_in s now c).0
  beaten_rest c g = record {
    entries = (beaten_stays s now [] c h.entries).fits;
    none_before = λ e name. none_stays s.cache.entries (beaten_in s now c).0.cache.entries name (beaten_stays s now name c h.entries).entry (h.none_before (unstarted_stays s (beaten_in s now c).0 (beaten_keeps_session s now c).session e) name);
    handles = g.handles;
    kept = g.kept;
    asked = g.asked;
    off = beaten_off s now c h.off;
  }

  -- who has no session then had none before
  session_back : (out : Out) (new : ClientState) → LeaseDoes s now out new → new.session ≡ sessions.Unstarted → s.session ≡ sessions.Unstarted
  session_back out new (LeaseKept kept) e = unstarted_stays s new kept.session e
  session_back out new (LeaseLeft standing live epoch processed lease) e = absurd (standing e)
  session_back out new (LeaseCarried message present is later session epoch processed lease) e = sym session ∙ e
  session_back out new (LeaseBegun message is standing fits live epoch processed lease) e = let two : sessions.Live ≡ sessions.Unstarted = sym live ∙ e in cc
  session_back out new (LeaseBettered message is fit taken session epoch processed lease) e = sym session ∙ e
  session_back out new (LeasePassed message is fit session epoch processed lease) e = sym session ∙ e

  entry_fits : (out : Out) (new : ClientState) → EntryDoes s now out [] new → AreCacheEntries new.cache.entries
  entry_fits out new (EntryStays stays) = stays.fits
  entry_fits out new (EntryInstalled message call entry stamp is for learned there fits) = fits

  -- nothing is installed before the session
  none_then : (out : Out) (new : ClientState) (name : List ℕ) → EntryDoes s now out name new → s.session ≡ sessions.Unstarted → entry_of new.cache.entries name ≡ None
  none_then out new name (EntryStays stays) e = none_stays s.cache.entries new.cache.entries name stays.entry (h.none_before e name)
  none_then out new name (EntryInstalled message call entry stamp is for learned there fits) e = let two : sessions.Live ≡ sessions.Unstarted = sym for.live.live ∙ e in cc

  pub given_rest : (out : Out) (c : GiveCase s now out) → Grips later (given_in s now out c).0 → Holds later (given_in s now out c).0
  given_rest out c g = record {
    entries = entry_fits out (given_in s now out c).0 (given_entry s now out [] c h.entries);
    none_before = λ e name. none_then out (given_in s now out c).0 name (given_entry s now out name c h.entries) (session_back out (given_in s now out c).0 (given_lease s now out c) e);
    handles = g.handles;
    kept = g.kept;
    asked = g.asked;
    off = given_off s now out c h.off;
  }

-- more messages take nothing of it
asked_stays_asked : (xs ys : List Message) (s : ClientState) (call : Outstanding) → HasAsked xs s call → HasAsked (xs ++ ys) s call
asked_stays_asked xs ys s call h = record {
  message = h.message;
  is_call = h.is_call;
  found = call_stays xs ys s.number h.message.number h.message h.found;
  counted = h.counted;
  made = h.made;
}

pub grips_more : (xs ys : List Message) (s : ClientState) → Grips xs s → Grips (xs ++ ys) s
grips_more xs ys s h = record { handles = h.handles; kept = h.kept; asked = λ call is. asked_stays_asked xs ys s call (h.asked call is) }

pub holds_more : (xs ys : List Message) (s : ClientState) → Holds xs s → Holds (xs ++ ys) s
holds_more xs ys s h = record { entries = h.entries; none_before = h.none_before; handles = h.handles; kept = h.kept; asked = λ call is. asked_stays_asked xs ys s call (h.asked call is); off = h.off }

-- a client that has done nothing yet
pub new_holds : (sent : List Message) (number : ℕ) (principal : List ℕ) → Holds sent (new_client number principal)
unfolding IsStrictlySortedBy IsDistinct
new_holds sent number principal = record {
  entries = record { fits = zero_least entry_limit; distinct = tt };
  none_before = λ e name. refl;
  handles = record { in_order = tt; counted = λ q x is. cc; named = λ q x is. cc };
  kept = tt;
  asked = λ call is. cc;
  off = record { shuts = λ leave. cc; begun = λ leave. cc };
}
