-- Which handles and which changes that wait a sweep leaves.
use Rattle.std.proofs.Common.{◌≡◌, ℕ, List, Bool, true, false, Option, Some, None, refl, ap, ◌∙◌}
use Rattle.node_core.specs.declared.views.Mod.{Mod}
use Rattle.node_core.specs.declared.views.Mod.TheVariants.{Put, Gone}
use Rattle.gate_core.specs.Gate.{GateState, without}
use Rattle.master_parts.specs.OpenHandles.{without_key, with_state, without_client}
use Rattle.master_state.specs.Updates.{with_begun, with_put, with_node, with_standing, without_handle, retired, forgets_of, grown, session_rest, map_rest, with_session_rest, with_kept, without_gone, with_map, without_lock, recovered, left, done}
use Rattle.master_state.specs.State.{MasterState}
use Rattle.master_state.specs.Updates.{with_note}
use Rattle.master_state.specs.Lookups.{noted}
use Rattle.master_state.specs.declared.updates.Change.{Change}
use Rattle.master_state.specs.declared.updates.Update.{Update}
use Rattle.master_state.specs.declared.updates.MapRest.{MapRest}
use Rattle.master_state.specs.declared.updates.SessionUpdate.{SessionUpdate}
use Rattle.master_state.specs.declared.updates.SessionUpdate.TheVariants.{Begins, Prolongs, Ends, Answers}
use Rattle.master_parts.specs.declared.handles.HandleKey.{HandleKey}
use Rattle.master_parts.specs.declared.handles.HandleState.{HandleState}
use Rattle.master_parts.specs.declared.handles.HandleNote.{HandleNote}
use Rattle.master_parts.specs.declared.pending.Task.{Task}

-- the same handles are noted, and the same changes wait, in the same epoch
pub record IsSame (a b : MasterState) : Type 0 where
  pub handles : a.handles ≡ b.handles
  pub gate : a.gate ≡ b.gate
  pub epoch : a.epoch ≡ b.epoch

itself : (s : MasterState) → IsSame s s
itself s = record { handles = refl; gate = refl; epoch = refl }

then : (a b c : MasterState) → IsSame a b → IsSame b c → IsSame a c
then a b c h k = record { handles = h.handles ∙ k.handles; gate = h.gate ∙ k.gate; epoch = h.epoch ∙ k.epoch }

begun : (s : MasterState) (o : Option SessionUpdate) → IsSame (with_begun s o) s
begun s None = itself s
begun s (Some (Begins client principal)) = record { handles = refl; gate = refl; epoch = refl }
begun s (Some (Prolongs client)) = itself s
begun s (Some (Ends client principal parting)) = record { handles = refl; gate = refl; epoch = refl }
begun s (Some (Answers client)) = itself s

put : (s : MasterState) (change : Mod) → IsSame (with_put s change) s
put s (Put name view) = record { handles = refl; gate = refl; epoch = refl }
put s (Gone name) = itself s

node : (s : MasterState) (o : Option Change) → IsSame (with_node s o) s
node s None = itself s
node s (Some change) = put s change.change

-- the handles that are noted once a session's update is done: those that it had open are forgotten where it ends
abbrev pub parted_handles : Option SessionUpdate → List (HandleKey × HandleState) → List (HandleKey × HandleState)
parted_handles None entries = entries
parted_handles (Some (Begins client principal)) entries = entries
parted_handles (Some (Prolongs client)) entries = entries
parted_handles (Some (Ends client principal parting)) entries = without_client entries client
parted_handles (Some (Answers client)) entries = entries

session_handles : (s : MasterState) (o : Option SessionUpdate) → (with_session_rest s (session_rest o)).handles ≡ parted_handles o s.handles
session_handles s None = refl
session_handles s (Some (Begins client principal)) = refl
session_handles s (Some (Prolongs client)) = refl
session_handles s (Some (Ends client principal parting)) = refl
session_handles s (Some (Answers client)) = refl

session_gate : (s : MasterState) (o : Option SessionUpdate) → (with_session_rest s (session_rest o)).gate ≡ s.gate
session_gate s None = refl
session_gate s (Some (Begins client principal)) = refl
session_gate s (Some (Prolongs client)) = refl
session_gate s (Some (Ends client principal parting)) = refl
session_gate s (Some (Answers client)) = refl

session_epoch : (s : MasterState) (o : Option SessionUpdate) → (with_session_rest s (session_rest o)).epoch ≡ s.epoch
session_epoch s None = refl
session_epoch s (Some (Begins client principal)) = refl
session_epoch s (Some (Prolongs client)) = refl
session_epoch s (Some (Ends client principal parting)) = refl
session_epoch s (Some (Answers client)) = refl

gone : (s : MasterState) (o : Option (List ℕ)) → IsSame (without_gone s o) s
gone s None = itself s
gone s (Some name) = record { handles = refl; gate = refl; epoch = refl }

mapped : (s : MasterState) (o : Option MapRest) → IsSame (with_map s o) s
mapped s None = itself s
mapped s (Some rest) = let t = gone s rest.gone in record { handles = t.handles; gate = t.gate; epoch = t.epoch }

unlocked : (s : MasterState) (o : Option ℕ) → IsSame (without_lock s o) s
unlocked s None = itself s
unlocked s (Some instance) = record { handles = refl; gate = refl; epoch = refl }

over : (s : MasterState) (b : Bool) → IsSame (recovered s b) s
over s false = itself s
over s true = record { handles = refl; gate = refl; epoch = refl }

-- ---- an update

left_handles : (s : MasterState) (o : Option ℕ) → (left s o).handles ≡ s.handles
left_handles s None = refl
left_handles s (Some number) = refl

left_gate : (s t : MasterState) (o : Option ℕ) → s.gate ≡ t.gate → (left s o).gate ≡ (left t o).gate
left_gate s t None h = h
left_gate s t (Some number) h = let leaves : GateState Task → GateState Task = λ g. record g { waiting = without number g.waiting } in ap leaves h

left_epoch : (s : MasterState) (o : Option ℕ) → (left s o).epoch ≡ s.epoch
left_epoch s None = refl
left_epoch s (Some number) = refl

note_handles : (s t : MasterState) (o : Option HandleNote) → s.handles ≡ t.handles → without_key (with_standing s o).handles (forgets_of o) ≡ (with_note t o).handles
note_handles s t None h = h
note_handles s t (Some note) h = ap (λ entries. with_state entries note.key note.state) h

standing_gate : (s : MasterState) (o : Option HandleNote) → (with_standing s o).gate ≡ s.gate
standing_gate s None = refl
standing_gate s (Some note) = refl

standing_epoch : (s : MasterState) (o : Option HandleNote) → (with_standing s o).epoch ≡ s.epoch
standing_epoch s None = refl
standing_epoch s (Some note) = refl

module _ (s : MasterState) (update : Update) where
  abbrev begun_master : MasterState
  begun_master = with_begun s update.session

  abbrev standing_master : MasterState
  standing_master = with_standing begun_master update.note

  abbrev grown_master : MasterState
  grown_master = grown s update

  abbrev bare_master : MasterState
  bare_master = retired (without_handle grown_master (forgets_of update.note)) update.retires

  abbrev session_master : MasterState
  session_master = with_session_rest bare_master (session_rest update.session)

  abbrev kept_master : MasterState
  kept_master = with_kept session_master update.kept

  abbrev mapped_master : MasterState
  mapped_master = with_map kept_master (map_rest update.change)

  abbrev unlocked_master : MasterState
  unlocked_master = without_lock mapped_master update.ends_lock

  abbrev over_master : MasterState
  over_master = recovered unlocked_master update.recovers

  behind_session : IsSame over_master session_master
  behind_session =
      let a = over unlocked_master update.recovers in
      let b = unlocked mapped_master update.ends_lock in
      let c = mapped kept_master (map_rest update.change) in
      record { handles = a.handles ∙ b.handles ∙ c.handles; gate = a.gate ∙ b.gate ∙ c.gate; epoch = a.epoch ∙ b.epoch ∙ c.epoch }

  changed : IsSame (with_node standing_master update.change) standing_master
  changed = node standing_master update.change

  pub done_handles : (done s update).handles ≡ parted_handles update.session (with_note s update.note).handles
  done_handles =
      left_handles over_master update.leaves ∙ behind_session.handles ∙ session_handles bare_master update.session
      ∙ ap (parted_handles update.session) (ap (λ entries. without_key entries (forgets_of update.note)) changed.handles ∙ note_handles begun_master s update.note (begun s update.session).handles)

  pub done_gate : (done s update).gate ≡ (left s update.leaves).gate
  done_gate = left_gate over_master s update.leaves (behind_session.gate ∙ session_gate bare_master update.session ∙ changed.gate ∙ standing_gate begun_master update.note ∙ (begun s update.session).gate)

  pub done_epoch : (done s update).epoch ≡ s.epoch
  done_epoch = left_epoch over_master update.leaves ∙ behind_session.epoch ∙ session_epoch bare_master update.session ∙ changed.epoch ∙ standing_epoch begun_master update.note ∙ (begun s update.session).epoch
