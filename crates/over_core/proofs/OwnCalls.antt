-- A call that waits shows a handle of its client.
use Rattle.std.proofs.Common.{◌≡◌, ℕ, List, [], Bool, true, false, cond, Option, Some, None, refl, sym, ap, ◌∙◌}
use Rattle.std.specs.Prelude.{◌&&◌, ◌==◌}
use Rattle.std.specs.Option.{option_map_or}
use Rattle.std.proofs.lemmas.Bool.{and_parts, eqb-true}
use Rattle.node_core.specs.declared.refusals.Fault.{Fault}
use Rattle.tags_cell.specs.declared.messages.calls.Call.{Call}
use Rattle.tags_cell.specs.declared.messages.calls.Call.TheVariants as calls
use Rattle.tags_cell.specs.declared.handles.Handle.{Handle}
use Rattle.tags_cell.specs.Handles.{read_handle, is_handle, fields_of, number_at}
use Rattle.master_parts.specs.declared.pending.Work.TheVariants as works
use Rattle.master_state.specs.NameSpace.{name_space}
use Rattle.master_state.specs.State.{MasterState}
use Rattle.master_state.specs.Lookups.{own_handle, shown_handle, is_usable, handle_state_of, sequencer_fault}
use Rattle.master_parts.specs.Keys.{key_of}
use Rattle.cell_core.specs.Step.{check_admission, handle_admission, admission_of}
use Rattle.over_core.specs.Kept.{IsOwnCall}

-- a handle that is shown is the client's own
shown_own : (s : MasterState) (client : ℕ) (o : Option Handle) (shown : Handle) → option_map_or (λ h. own_handle s client h) o None ≡ Some shown → (handle : Handle) → o ≡ Some handle → handle.client ≡ client
shown_own s client None shown h handle is = absurd cc
shown_own s client (Some own) shown h handle is =
    let usable : Bool = is_usable s own (handle_state_of s (key_of own)) in
    let same : own ≡ handle = cc in
    (elim (own.client == client && usable) as (λ b. (own.client == client && usable) ≡ b → cond {A = Option Handle} b (Some own) None ≡ Some shown → handle.client ≡ client) [
      | true ↦ (λ e k. ap (λ (x : Handle). x.client) (sym same) ∙ eqb-true own.client client (and_parts (own.client == client) usable e).0)
      | false ↦ (λ e k. absurd cc)
    ]) refl h

handle_own : (s : MasterState) (client : ℕ) (call : Call) (sequencer : Option (List ℕ)) (bytes : List ℕ) (o : Option Handle) → shown_handle s client bytes ≡ o → (handle_admission s call sequencer o).answer ≡ None → (handle : Handle) → read_handle s.secret bytes ≡ Some handle → handle.client ≡ client
handle_own s client call sequencer bytes None is h = absurd cc
handle_own s client call sequencer bytes (Some shown) is h = shown_own s client (read_handle s.secret bytes) shown is

-- an Open and a Leave show none
no_handle : (secret : List ℕ) → read_handle secret [] ≡ None
unfolding read_handle is_handle fields_of number_at
no_handle secret = refl

shows_none : (secret : List ℕ) (client : ℕ) (handle : Handle) → read_handle secret [] ≡ Some handle → handle.client ≡ client
shows_none secret client handle h = let none = no_handle secret in absurd cc

checked_waits_never : (s : MasterState) (bytes : List ℕ) (o : Option Fault) → (check_admission s bytes o).answer ≡ None → ⊥
checked_waits_never s bytes None h = cc
checked_waits_never s bytes (Some fault) h = cc

pub own_call : (s : MasterState) (client number : ℕ) (call : Call) (sequencer : Option (List ℕ)) → (admission_of s client number call sequencer).answer ≡ None → IsOwnCall s.secret client (works.Calls call sequencer)
own_call s client number (calls.Open opening) sequencer h = shows_none s.secret client
own_call s client number (calls.CheckSequencer bytes) sequencer h = absurd (checked_waits_never s bytes (sequencer_fault (name_space s) sequencer) h)
own_call s client number calls.Leave sequencer h = shows_none s.secret client
own_call s client number (calls.Close bytes) sequencer h = handle_own s client (calls.Close bytes) sequencer bytes (shown_handle s client bytes) refl h
own_call s client number (calls.Read bytes) sequencer h = handle_own s client (calls.Read bytes) sequencer bytes (shown_handle s client bytes) refl h
own_call s client number (calls.Stat bytes) sequencer h = handle_own s client (calls.Stat bytes) sequencer bytes (shown_handle s client bytes) refl h
own_call s client number (calls.List bytes) sequencer h = handle_own s client (calls.List bytes) sequencer bytes (shown_handle s client bytes) refl h
own_call s client number (calls.Set bytes content generation) sequencer h = handle_own s client (calls.Set bytes content generation) sequencer bytes (shown_handle s client bytes) refl h
own_call s client number (calls.SetAcl bytes acls generation) sequencer h = handle_own s client (calls.SetAcl bytes acls generation) sequencer bytes (shown_handle s client bytes) refl h
own_call s client number (calls.Delete bytes) sequencer h = handle_own s client (calls.Delete bytes) sequencer bytes (shown_handle s client bytes) refl h
own_call s client number (calls.Acquire bytes mode) sequencer h = handle_own s client (calls.Acquire bytes mode) sequencer bytes (shown_handle s client bytes) refl h
own_call s client number (calls.TryAcquire bytes mode) sequencer h = handle_own s client (calls.TryAcquire bytes mode) sequencer bytes (shown_handle s client bytes) refl h
own_call s client number (calls.Release bytes) sequencer h = handle_own s client (calls.Release bytes) sequencer bytes (shown_handle s client bytes) refl h
own_call s client number (calls.GetSequencer bytes) sequencer h = handle_own s client (calls.GetSequencer bytes) sequencer bytes (shown_handle s client bytes) refl h
own_call s client number (calls.SetSequencer bytes) sequencer h = handle_own s client (calls.SetSequencer bytes) sequencer bytes (shown_handle s client bytes) refl h
