-- A handle that is given is the one of its call.
use Rattle.std.proofs.Common.{◌≡◌, ℕ, Bool, true, false, cond, Some, None, Result, Ok, Err, refl, subst, arith}
use Rattle.std.specs.Prelude.{◌&&◌, ◌==◌}
use Rattle.std.specs.Option.{option_map_or}
use Rattle.std.proofs.lemmas.Bool.Decides.{nat_tests}
use Rattle.node_core.specs.Nodes.{get_node}
use Rattle.node_core.specs.declared.refusals.Fault.{Fault}
use Rattle.node_core.specs.declared.refusals.Fault.TheVariants as faults
use Rattle.node_core.specs.declared.nodes.Node.{Node}
use Rattle.tags_cell.specs.Handles.{is_ordinal}
use Rattle.tags_cell.specs.declared.messages.calls.Open.{Open}
use Rattle.tags_cell.specs.declared.handles.Handle.{Handle}
use Rattle.master_parts.specs.Keys.{is_key}
use Rattle.master_state.specs.NameSpace.{name_space, caller}
use Rattle.master_state.specs.State.{MasterState}
use Rattle.master_parts.specs.Keys.{key_of}
use Rattle.master_state.specs.Lookups.{missing_right, numbered_handle, new_handle, open_present, plain_open}
use Rattle.master_parts.specs.Calls.{is_too_long}
use Rattle.master_laws.proofs.PlainOpens.{unless_missing}

itself : (n : ℕ) → (n == n) ≡ true
itself n = grind (arith, nat_tests)

-- it has the number of the call, and its client
abbrev pub IsOfCall : ℕ → ℕ → Handle → Type 0
IsOfCall client number handle = is_key (key_of handle) (record { client = client; number = number }) ≡ true

pub if_so : (b : Bool) (given handle : Handle) → cond b (Ok given) (Err faults.Exhausted) ≡ Ok handle → given ≡ handle
if_so true given handle h = cc
if_so false given handle h = absurd cc

unless_long : (b : Bool) (r : Result Handle Fault) (handle : Handle) → cond b (Err faults.DelayTooLong) r ≡ Ok handle → r ≡ Ok handle
unless_long true r handle h = absurd cc
unless_long false r handle h = h

module _ (s : MasterState) (client number : ℕ) (opening : Open) (handle : Handle) where
  pub numbered_key : (view : Node) → numbered_handle (name_space s) (caller s client) number opening view ≡ Ok handle → IsOfCall client number handle
  numbered_key view h =
      let given : Handle = record { epoch = s.epoch; client = client; number = number; instance = view.instance; mode = opening.mode; life = view.life; events = opening.events; delay = opening.delay; name = opening.name } in
      let same : given ≡ handle = if_so (is_ordinal s.epoch && is_ordinal view.instance) given handle h in
      subst (IsOfCall client number) same (rw (itself client, itself number) refl)

  pub new_key : (view : Node) → new_handle (name_space s) (caller s client) number opening view ≡ Ok handle → IsOfCall client number handle
  new_key view h = numbered_key view (unless_long (is_too_long opening.delay) (numbered_handle (name_space s) (caller s client) number opening view) handle h)

  pub present_key : (view : Node) → open_present (name_space s) (caller s client) number opening view ≡ Ok handle → IsOfCall client number handle
  present_key view h =
      let t = unless_missing (missing_right (name_space s) (caller s client) opening.mode view) (is_too_long opening.delay) (numbered_handle (name_space s) (caller s client) number opening view) handle h in
      numbered_key view t.2

  pub plain_key : plain_open (name_space s) (caller s client) number opening ≡ Ok handle → IsOfCall client number handle
  plain_key h =
      (elim (get_node s.nodes opening.name) as (λ o. option_map_or (λ view. open_present (name_space s) (caller s client) number opening view) o (Err faults.NotFound) ≡ Ok handle → IsOfCall client number handle) [
        | None ↦ (λ k. absurd cc)
        | Some view ↦ (λ k. present_key view k)
      ]) h
