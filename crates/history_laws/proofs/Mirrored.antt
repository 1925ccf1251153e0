-- A world that holds what parts hold, and what its steps leave of that.
use Rattle.std.proofs.Common.{◌≡◌, ◌≢◌, ℕ, ◌+◌, ◌-◌, ◌*◌, ◌≤◌, List, [], ◌∷◌, ◌++◌, Bool, true, false, cond, Option, Some, None, refl, sym, ap, ◌∙◌, subst, arith, inl}
use Rattle.std.specs.Prelude.{◌==◌, nat_eq, Ok, is_some}
use Rattle.std.specs.Option.{option_map}
use Rattle.std.specs.Map.{set_value}
use Rattle.std.specs.BTreeMap.{is_at, insert_entry}
use Rattle.std.specs.Ordering.{nat_cmp}
use Rattle.std.proofs.lemmas.Bool.Decides.{nat_tests}
use Rattle.collections.proofs.Keys.{number_same, same_number}
use Rattle.collections.proofs.OneKey.{lookup_put, lookup_put_apart}
use Rattle.node_core.specs.declared.lines.Line.{Line}
use Rattle.rows_cell.specs.declared.tables.Rows.{Rows}
use Rattle.over_core.specs.Sweep.{left_after}
use Rattle.master_state.specs.State.{MasterState}
use Rattle.client_core.specs.State.{ClientState}
use Rattle.world_steps.specs.declared.members.WorldClient.{WorldClient}
use Rattle.world_steps.specs.declared.steps.Step.{Step}
use Rattle.world_steps.specs.declared.steps.Ticks.{Ticks as ClockSteps}
use Rattle.world_steps.specs.Members.{Clients, each_member, stepped, is_least, moved_beside, moved_alone, clock_then}
use Rattle.world_steps.specs.World.{WorldState, WorldView, world_step, moved, ticked, step_edits, step_frees, IsAt, IsStored}
use Rattle.world_steps.specs.Made.{IsTyped, AnyStep}
use Rattle.world_cell.proofs.MembersFound.{member_at, each_found, own_member, other_member}
use Rattle.history_laws.specs.Parts.{Parts, with_client}

-- the clients of a world, without their clocks
abbrev pub client_at : Clients → ℕ → Option ClientState
client_at clients n = option_map (λ member. member.client) (member_at clients n)

pub record Mirrors (p : Parts) (w : WorldState) : Type 0 where
  pub cell : w.cell ≡ p.cell
  pub rows : w.rows ≡ p.rows
  pub master : w.master ≡ p.master
  pub clients : (n : ℕ) → client_at w.clients n ≡ p.clients n
  pub messages : w.messages ≡ p.told
  pub terms : w.terms ≡ p.terms

-- the client that is found
pub found_client : (o : Option WorldClient) (client : ClientState) → option_map (λ (m : WorldClient). m.client) o ≡ Some client → (member : WorldClient) × (o ≡ Some member) × (member.client ≡ client)
found_client None client h = cc
found_client (Some member) client h = (member, refl, cc)

-- ---- a step that changes a client's clock alone

each_client : (step : ℕ → WorldClient → WorldClient) → ((n : ℕ) (m : WorldClient) → (step n m).client ≡ m.client) → (n : ℕ) (o : Option WorldClient) → option_map (λ (m : WorldClient). m.client) (option_map (step n) o) ≡ option_map (λ (m : WorldClient). m.client) o
each_client step same n None = refl
each_client step same n (Some member) = ap Some (same n member)

pub clients_stay : (step : ℕ → WorldClient → WorldClient) → ((n : ℕ) (m : WorldClient) → (step n m).client ≡ m.client) → (clients : Clients) (n : ℕ) → client_at (each_member step clients) n ≡ client_at clients n
clients_stay step same clients n = ap (option_map (λ (m : WorldClient). m.client)) (each_found step clients n) ∙ each_client step same n (member_at clients n)

moved_client : (m : Option MasterState) (w : WorldState) (ticks : ClockSteps) (n : ℕ) (member : WorldClient) → (moved m w ticks n member).client ≡ member.client
moved_client None w ticks n member = refl
moved_client (Some s) w ticks n member =
    elim (is_least (w.clock + ticks.master) (clock_then ticks n member) member) as (λ b. (cond b (record member { clock = clock_then ticks n member; least_now = w.clock + ticks.master; least_clock = clock_then ticks n member }) (record member { clock = clock_then ticks n member })).client ≡ member.client) [ true ↦ refl | false ↦ refl ]

pub ticked_mirrors : (p : Parts) (w : WorldState) (ticks : ClockSteps) → Mirrors p w → Mirrors p (ticked w ticks)
ticked_mirrors p w ticks h = record {
  cell = h.cell;
  rows = h.rows;
  master = h.master;
  clients = λ n. clients_stay (moved w.master w ticks) (moved_client w.master w ticks) w.clients n ∙ h.clients n;
  messages = h.messages;
  terms = h.terms;
}

-- ---- one client in the place of what it was

by_number : (P : Bool → Type 0) (q n : ℕ) → (q ≡ n → P true) → (q ≢ n → P false) → P (q == n)
by_number P q n same differs =
    (elim (q == n) as (λ b. (q == n) ≡ b → P b) [
      | true ↦ (λ h. same (number_same q n h))
      | false ↦ (λ h. differs (λ e. let t : (q == n) ≡ true = grind (arith, nat_tests, e) in cc))
    ]) refl

-- the clients of these parts and of a world are the same, once one of them has gone a step
pub stepped_clients : (clients : Clients) (of : ℕ → Option ClientState) (n : ℕ) (member : WorldClient) (next : ClientState) → member_at clients n ≡ Some member → ((q : ℕ) → client_at clients q ≡ of q) → (q : ℕ) → client_at (stepped clients n member next) q ≡ with_client of n next q
stepped_clients clients of n member next found same q =
    by_number (λ b. client_at (stepped clients n member next) q ≡ cond b (Some next) (of q)) q n
    (λ e. rw e (ap (option_map (λ (m : WorldClient). m.client)) (own_member clients n member next found)))
    (λ apart. ap (option_map (λ (m : WorldClient). m.client)) (other_member clients n member next found q apart) ∙ same q)

-- or once one has begun
pub put_clients : (clients : Clients) (of : ℕ → Option ClientState) (n : ℕ) (member : WorldClient) → ((q : ℕ) → client_at clients q ≡ of q) → (q : ℕ) → client_at (insert_entry nat_cmp clients n member) q ≡ with_client of n member.client q
put_clients clients of n member same q =
    by_number (λ b. client_at (insert_entry nat_cmp clients n member) q ≡ cond b (Some member.client) (of q)) q n
    (λ e. rw e (ap (option_map (λ (m : WorldClient). m.client)) (lookup_put n clients member)))
    (λ apart. ap (option_map (λ (m : WorldClient). m.client)) (lookup_put_apart n q apart clients member) ∙ same q)

-- ---- a world whose store refused nothing and is never in doubt

abbrev pub view : WorldState → List Rows → WorldView
view w leave = record { world = w; may_leave = leave; refusals = 0; doubt = 0 }

pub makes : (w new : WorldState) (leave : List Rows) (step : Step) (printed : List Line) → IsAt step (view w leave) (view w leave) → world_step w step ≡ Ok (new, printed) → IsTyped w step → AnyStep (view w leave) step (view new (left_after (step_frees w step) (step_edits w step) leave new.rows)) printed
makes w new leave step printed at is typed = inl (view w leave, at, record { is_step = is; typed = typed; stored = record { leave = refl; counted = refl; doubted = omega arith } })
