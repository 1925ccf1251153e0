-- What a client puts into its cache was granted to it: by the name that stands in the bytes of its handle, or that its Open names.
use Rattle.std.proofs.Common.{◌≡◌, ℕ, Bool, true, false, cond, List, [], Option, Some, None, inl, refl, sym, ap, ◌∙◌, subst}
use Rattle.std.specs.Prelude.{◌==◌, ◌&&◌, is_none}
use Rattle.std.specs.Option.{option_map, option_map_or}
use Rattle.coherence.specs.Slice as one
use Rattle.coherence.specs.Slice.{IsIn}
use Rattle.std.specs.Str.{bytes_eq}
use Rattle.collections.proofs.Keys.{bytes_self, same_number}
use Rattle.node_core.specs.declared.refusals.Fault.{Fault}
use Rattle.node_core.specs.declared.refusals.Fault.TheVariants as faults
use Rattle.node_core.specs.declared.views.View.{View}
use Rattle.tags_cell.specs.Handles.{name_in, fields_of, is_handle, handle_bytes, read_handle}
use Rattle.tags_cell.specs.declared.messages.calls.Call.{Call}
use Rattle.tags_cell.specs.declared.messages.calls.Call.TheVariants as calls
use Rattle.tags_cell.specs.declared.messages.calls.Open.{Open}
use Rattle.tags_cell.specs.declared.messages.requests.CallMessage.{CallMessage}
use Rattle.tags_cell.specs.declared.messages.outs.Reply.{Reply}
use Rattle.tags_cell.specs.declared.messages.outs.CallResult.{CallResult}
use Rattle.tags_cell.specs.declared.messages.outs.CallResult.TheVariants as results
use Rattle.cell_core.specs.Names.{name_asked, shown_by}
use Rattle.client_core.specs.Calls.{call_on}
use Rattle.client_core.specs.Opens.{is_plain, Lesson, absent}
use Rattle.client_core.specs.Targets.{opening_in, opening_by, opening_of}
use Rattle.client_core.specs.declared.parts.asks.NodeCall.{NodeCall}
use Rattle.client_core.specs.declared.parts.asks.NodeCall.TheVariants as node_calls
use Rattle.client_core.specs.declared.parts.handles.ClientHandle.{ClientHandle}
use Rattle.client_core.specs.declared.parts.targets.Outstanding.{Outstanding}
use Rattle.client_core.specs.declared.parts.targets.Target.{Target}
use Rattle.client_core.specs.declared.parts.targets.Target.TheVariants as targets
use Rattle.client_core.specs.State.{ClientState}
use Rattle.client_core.specs.Handles.{handle_of}
use Rattle.client_core.specs.Lessons.{viewed, view_taught, absence_taught, taught}
use Rattle.world_steps.specs.declared.mail.Message.{Message}
use Rattle.world_steps.specs.Messages.{call_of}
use Rattle.world_cell.specs.Slices.{Shown, asks_for, stamped_grant, grants_of}
use Rattle.world_cell.specs.Consistent.{AreHandles}
use Rattle.world_cell.proofs.ClientHolds.{IsReplied}

-- what is learned of a name
record Learned (name x : List ℕ) (shown entry : Option View) : Type 0 where
  of_name : name ≡ x
  shows : shown ≡ entry

pair_is : (a : List ℕ) (b : Option View) (x : List ℕ) (entry : Option View) → (let t : Option Lesson = Some (a, b) in t) ≡ Some (x, entry) → (a ≡ x) × (b ≡ entry)
pair_is a b x entry h = let e : ◌≡◌ {A = Lesson} (a, b) (x, entry) = cc in (ap (λ (t : Lesson). t.0) e, ap (λ (t : Lesson). t.1) e)

-- ---- by a read, or a ReadDir

read_by : (b : Bool) (bytes name : List ℕ) → option_map (λ handle. handle.name) (cond b (Some (fields_of bytes)) None) ≡ Some name → name ≡ name_in bytes
unfolding fields_of
read_by true bytes name h = cc
read_by false bytes name h = cc

read_name : (secret bytes name : List ℕ) → option_map (λ handle. handle.name) (read_handle secret bytes) ≡ Some name → name ≡ name_in bytes
unfolding read_handle
read_name secret bytes name h = read_by (is_handle (fields_of bytes) && bytes_eq (handle_bytes secret (fields_of bytes)) bytes) bytes name h

node_asked : (secret bytes name : List ℕ) (node : NodeCall) → name_asked secret (call_on bytes node) ≡ Some name → name ≡ name_in bytes
node_asked secret bytes name node_calls.Read h = read_name secret bytes name h
node_asked secret bytes name node_calls.List h = read_name secret bytes name h
node_asked secret bytes name node h = cc

-- ---- by an Open

open_asked : (b : Bool) (own name : List ℕ) → cond b (Some own) None ≡ Some name → name ≡ own
open_asked true own name h = cc
open_asked false own name h = cc

-- a call that opens this is the Open
is_open : (call : Call) (opening : Open) → opening_in call ≡ Some opening → call ≡ calls.Open opening
is_open (calls.Open own) opening h = let e : own ≡ opening = cc in ap (λ o. calls.Open o) e
is_open call opening h = cc

module _ (sent : List Message) (secret : List ℕ) (s : ClientState) (message : Reply) (call : Outstanding) (handles : AreHandles s.opened s.handles) (r : IsReplied sent secret s message call) (name x : List ℕ) (entry : Option View) (asks : name_asked secret r.asked.message.call ≡ Some name) where
  by_handle : (view : View) (number : ℕ) (o : Option ClientHandle) → call.target ≡ targets.Handle number → handle_of s.handles number ≡ o → viewed o view ≡ Some (x, entry) → Learned name x (Some view) entry
  by_handle view number None at found h = cc
  by_handle view number (Some handle) at found h =
      let p = pair_is handle.name (Some view) x entry h in
      let made = r.asked.made number handle at found in
      let read : name ≡ name_in handle.bytes = node_asked secret handle.bytes name made.0 (sym (ap (name_asked secret) made.1) ∙ asks) in
      record { of_name = read ∙ handles.named number handle found ∙ p.0; shows = p.1 }

  by_view : (view : View) (target : Target) → call.target ≡ target → view_taught s view target ≡ Some (x, entry) → Learned name x (Some view) entry
  by_view view targets.NewHandle at h = cc
  by_view view (targets.Closing number) at h = cc
  by_view view (targets.Handle number) at h = by_handle view number (handle_of s.handles number) at refl h
  by_view view (targets.Sequencing number) at h = cc
  by_view view targets.Checking at h = cc
  by_view view targets.Leaving at h = cc
  by_view view targets.Dropped at h = cc

  by_plain : (opening : Open) (b : Bool) → opening_in r.asked.message.call ≡ Some opening → cond {A = Option Lesson} b (Some (opening.name, None)) None ≡ Some (x, entry) → Learned name x None entry
  by_plain opening true is h =
      let p = pair_is opening.name None x entry h in
      let own : name ≡ opening.name = open_asked (is_none opening.create) opening.name name (sym (ap (name_asked secret) (is_open r.asked.message.call opening is)) ∙ asks) in
      record { of_name = own ∙ p.0; shows = p.1 }
  by_plain opening false is h = cc

  by_open : (o : Option Open) → opening_in r.asked.message.call ≡ o → absent o ≡ Some (x, entry) → Learned name x None entry
  by_open None is h = cc
  by_open (Some opening) is h = by_plain opening (is_plain opening) is h

  opening_now : opening_in r.asked.message.call ≡ opening_of s.outstanding
  opening_now = sym (ap opening_of r.outstanding ∙ ap opening_by r.asked.is_call)

  by_refusal : (fault : Fault) → absence_taught s fault ≡ Some (x, entry) → Learned name x None entry
  by_refusal faults.NotFound h = by_open (opening_of s.outstanding) opening_now h
  by_refusal fault h = cc

  by_result : (result : CallResult) → taught s call.target result ≡ Some (x, entry) → Learned name x (shown_by result) entry
  by_result (results.Opened handle) h = cc
  by_result results.Closed h = cc
  by_result (results.Viewed view) h = by_view view call.target refl h
  by_result (results.Stated stat) h = cc
  by_result (results.Listed view) h = by_view view call.target refl h
  by_result (results.Sequencer bytes) h = cc
  by_result results.Done h = cc
  by_result (results.Refused fault) h = by_refusal fault h

-- ---- the grant

asked_so : (a b : Bool) → a ≡ true → b ≡ true → (a && b) ≡ true
asked_so true b h k = k
asked_so false b h k = cc

module _ (sent : List Message) (secret : List ℕ) (s : ClientState) (message : Reply) (call : Outstanding) (handles : AreHandles s.opened s.handles) (r : IsReplied sent secret s message call) (x : List ℕ) (entry : Option View) (stamp : ℕ) where
  abbrev pub the_grant : one.Grant Shown
  the_grant = record { epoch = message.epoch; stamp = stamp; view = entry }

  -- what the reply teaches was granted
  pub was_granted : taught s call.target message.result ≡ Some (x, entry) → message.stamp ≡ Some stamp → IsIn the_grant (grants_of message.client x secret sent)
  was_granted teaches stamped =
      let told = r.answer.tells stamp stamped in
      let asks : name_asked secret r.asked.message.call ≡ Some told.0 = sym (ap (λ (c : CallMessage). name_asked secret c.call) r.same) ∙ told.1 in
      let learned = by_result sent secret s message call handles r told.0 x entry asks message.result teaches in
      let asked : asks_for secret x (call_of sent message.client message.number) ≡ true =
      ap (asks_for secret x) (r.answer.found ∙ ap (λ c. Some c) r.same) ∙ ap (λ o. option_map_or (λ asked. bytes_eq asked x) o false) asks ∙ ap (λ n. bytes_eq n x) learned.of_name ∙ bytes_self x in
      let here : IsIn the_grant (stamped_grant message message.stamp []) = subst (λ o. IsIn the_grant (stamped_grant message o [])) (sym stamped) (inl (ap (λ v. record { epoch = message.epoch; stamp = stamp; view = v }) (sym learned.shows))) in
      r.answer.granted x the_grant
      (subst (λ b. IsIn the_grant (cond b (stamped_grant message message.stamp []) [])) (sym (asked_so (message.client == message.client) (asks_for secret x (call_of sent message.client message.number)) (same_number message.client) asked)) here)
