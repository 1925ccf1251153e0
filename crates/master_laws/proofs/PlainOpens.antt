-- An Open that makes nothing is answered with a handle exactly if the client may open the node so.
use Rattle.std.proofs.Common.{◌≡◌, ◌≤◌, ℕ, Bool, true, false, cond, Option, Some, None, Result, Ok, Err, refl, ap, subst, arith}
use Rattle.std.specs.Prelude.{◌&&◌, not, nat_lt}
use Rattle.std.specs.Option.{option_map_or}
use Rattle.std.proofs.lemmas.Bool.Decides.{nat_tests}
use Rattle.node_core.specs.Limits.{lock_delay_limit}
use Rattle.node_core.specs.Nodes.{get_node}
use Rattle.node_core.specs.declared.kinds.Right.{Right}
use Rattle.node_core.specs.declared.kinds.Right.TheVariants.{Read, Write, Change}
use Rattle.node_core.specs.declared.refusals.Fault.{Fault}
use Rattle.node_core.specs.declared.refusals.Fault.TheVariants as faults
use Rattle.node_core.specs.declared.nodes.Node.{Node}
use Rattle.tags_cell.specs.Handles.{handle_bytes}
use Rattle.tags_cell.specs.Modes.{Rights, has_right}
use Rattle.tags_cell.specs.declared.messages.calls.Open.{Open}
use Rattle.tags_cell.specs.declared.handles.Handle.{Handle}
use Rattle.tags_cell.specs.declared.messages.outs.CallResult.TheVariants as results
use Rattle.tags_cell.specs.declared.messages.outs.NewHandle.{NewHandle}
use Rattle.tags_cell.specs.declared.messages.requests.CallMessage.{CallMessage}
use Rattle.master_state.specs.NameSpace.{name_space, caller}
use Rattle.master_state.specs.State.{MasterState}
use Rattle.master_state.specs.Lookups.{noted, may, missing_right, numbered_handle, open_present, plain_open, opened_answer}
use Rattle.master_parts.specs.Calls.{is_too_long}
use Rattle.cell_core.specs.Step.{admission_for, admission_of_open}
use Rattle.master_laws.specs.Opens.{ArePermitted, MayOpen, IsPlainOpen, AreCarried, OpensWherePermitted}
use Rattle.master_laws.proofs.Answered.{IsSent, is_answered, same_answer, sent_at_once}
use Rattle.master_laws.proofs.NewCalls.{new_case}

-- ---- the rights of a mode

-- the first of three that is missing
abbrev first_of : Bool → Bool → Bool → Option Right
first_of a b c = cond a (Some Read) (cond b (Some Write) (cond c (Some Change) None))

none_first : (a b c : Bool) → first_of a b c ≡ None → (a ≡ false) × (b ≡ false) × (c ≡ false)
none_first true b c h = cc
none_first false true c h = cc
none_first false false true h = cc
none_first false false false h = (refl, refl, refl)

permits : (wanted permitted : Bool) → (wanted && not permitted) ≡ false → wanted ≡ true → permitted ≡ true
permits true true h k = refl
permits true false h k = cc
permits false permitted h k = cc

lacks_nothing : (wanted permitted : Bool) → (wanted ≡ true → permitted ≡ true) → (wanted && not permitted) ≡ false
lacks_nothing false permitted h = refl
lacks_nothing true permitted h = rw (h refl) refl

pub permitted_by : (s : MasterState) (client : ℕ) (mode : Rights) (view : Node) → missing_right (name_space s) (caller s client) mode view ≡ None → ArePermitted s client mode view
permitted_by s client mode view h right =
    let t = none_first (has_right mode Read && not (may (name_space s) (caller s client) view Read)) (has_right mode Write && not (may (name_space s) (caller s client) view Write)) (has_right mode Change && not (may (name_space s) (caller s client) view Change)) h in
    elim right as (λ r. has_right mode r ≡ true → may (name_space s) (caller s client) view r ≡ true) [
      | Read ↦ permits (has_right mode Read) (may (name_space s) (caller s client) view Read) t.0
      | Write ↦ permits (has_right mode Write) (may (name_space s) (caller s client) view Write) t.1
      | Change ↦ permits (has_right mode Change) (may (name_space s) (caller s client) view Change) t.2
    ]

pub none_missing : (s : MasterState) (client : ℕ) (mode : Rights) (view : Node) → ArePermitted s client mode view → missing_right (name_space s) (caller s client) mode view ≡ None
none_missing s client mode view h =
    rw (lacks_nothing (has_right mode Read) (may (name_space s) (caller s client) view Read) (h Read), lacks_nothing (has_right mode Write) (may (name_space s) (caller s client) view Write) (h Write), lacks_nothing (has_right mode Change) (may (name_space s) (caller s client) view Change) (h Change)) refl

-- ---- the tests of an Open

pub within : (limit delay : ℕ) → nat_lt limit delay ≡ false → delay ≤ limit
within limit delay h = grind (arith, nat_tests)

pub not_beyond : (limit delay : ℕ) → delay ≤ limit → nat_lt limit delay ≡ false
not_beyond limit delay h = grind (arith, nat_tests)

-- a handle is given where no right is missing, and the lock-delay isn't too long
pub unless_missing : (missing : Option Right) (too_long : Bool) (opened : Result Handle Fault) (handle : Handle) → option_map_or (λ right. Err (faults.Denied right)) missing (cond too_long (Err faults.DelayTooLong) opened) ≡ Ok handle → (missing ≡ None) × (too_long ≡ false) × (opened ≡ Ok handle)
unless_missing None false opened handle h = (refl, refl, h)
unless_missing None true opened handle h = absurd cc
unless_missing (Some right) too_long opened handle h = absurd cc

pub opened_where : (s : MasterState) (client number : ℕ) (opening : Open) (handle : Handle) → plain_open (name_space s) (caller s client) number opening ≡ Ok handle → MayOpen s client opening
opened_where s client number opening handle =
    (elim (get_node s.nodes opening.name) as (λ o. get_node s.nodes opening.name ≡ o → option_map_or (λ view. open_present (name_space s) (caller s client) number opening view) o (Err faults.NotFound) ≡ Ok handle → MayOpen s client opening) [
      | None ↦ (λ is h. absurd cc)
      | Some view ↦ (λ is h.
          let t = unless_missing (missing_right (name_space s) (caller s client) opening.mode view) (is_too_long opening.delay) (numbered_handle (name_space s) (caller s client) number opening view) handle h in
          record { view = view; there = is; permitted = permitted_by s client opening.mode view t.0; delay = within lock_delay_limit opening.delay t.1 })
    ]) refl

pub opens_where : (s : MasterState) (client number : ℕ) (opening : Open) → AreCarried s opening.name → MayOpen s client opening → (handle : Handle) × (plain_open (name_space s) (caller s client) number opening ≡ Ok handle)
opens_where s client number opening carried h =
    let none : missing_right (name_space s) (caller s client) opening.mode h.view ≡ None = none_missing s client opening.mode h.view h.permitted in
    let short : is_too_long opening.delay ≡ false = not_beyond lock_delay_limit opening.delay h.delay in
    let handle : Handle = record { epoch = s.epoch; client = client; number = number; instance = h.view.instance; mode = opening.mode; life = h.view.life; events = opening.events; delay = opening.delay; name = opening.name } in
    (handle, rw (h.there, none, short, carried.epoch, carried.instance h.view h.there) refl)

-- ---- what it is answered

pub tested : (s : MasterState) (message : CallMessage) (opening : Open) → IsPlainOpen s message opening → admission_for s message ≡ admission_of_open s message.client message.number opening None
tested s message opening h = rw (h.is_open, h.under_none, h.of_cell, h.makes_nothing) refl

pub opened : (s : MasterState) (r : Result Handle Fault) (handle : NewHandle) → results.Opened handle ≡ opened_answer (name_space s) r → (given : Handle) × (r ≡ Ok given)
opened s (Ok given) handle h = (given, refl)
opened s (Err fault) handle h = absurd cc

pub opens_where_permitted : OpensWherePermitted
opens_where_permitted s new now message opening taken takes plain carried =
    let there : MasterState = noted s now in
    let result : Result Handle Fault = plain_open (name_space s) (caller s message.client) message.number opening in
    let at_once : (admission_for there message).answer ≡ Some (opened_answer (name_space there) result) = ap (λ a. a.answer) (tested there message opening (record { is_open = plain.is_open; makes_nothing = plain.makes_nothing; under_none = plain.under_none; of_cell = plain.of_cell })) in
    let sent : IsSent taken message (opened_answer (name_space there) result) = sent_at_once there message new taken (opened_answer (name_space there) result) takes.serving at_once (new_case s new now message taken takes.step takes.is_new) in (
      λ given.
          let t = opened there result given.0 (same_answer taken message (opened_answer (name_space there) result) (results.Opened given.0) sent given.1) in
          opened_where s message.client message.number opening t.0 t.1,
      λ may_open.
          let t = opens_where s message.client message.number opening carried may_open in (
            record { bytes = handle_bytes s.secret t.0; instance = t.0.instance; life = t.0.life },
            is_answered taken message (opened_answer (name_space there) (Ok t.0)) (subst (λ r. IsSent taken message (opened_answer (name_space there) r)) t.1 sent),
          ),
    )
