-- What is found of a client, once one client has done a step, or each member has changed.
use Rattle.std.proofs.Common.{◌≡◌, ◌≢◌, ℕ, ◌+◌, ◌*◌, ◌≤◌, [], ◌∷◌, Bool, true, false, cond, Option, Some, None, refl, sym, ap, ◌∙◌, arith, subst}
use Rattle.std.specs.Prelude.{nat_le, ◌&&◌}
use Rattle.std.specs.List.{list_all}
use Rattle.std.specs.Option.{option_map}
use Rattle.std.specs.Map.{lookup}
use Rattle.std.specs.BTreeMap.{is_at}
use Rattle.std.specs.Ordering.{nat_cmp}
use Rattle.std.proofs.lemmas.Bool.Decides.{nat_tests}
use Rattle.collections.proofs.Keys.{same_key}
use Rattle.collections.proofs.OneKey.{lookup_set, lookup_set_apart}
use Rattle.client_core.specs.State.{ClientState}
use Rattle.master_state.specs.State.{MasterState}
use Rattle.world_steps.specs.declared.members.WorldClient.{WorldClient}
use Rattle.world_steps.specs.declared.steps.Ticks.{Ticks as ClockSteps}
use Rattle.world_steps.specs.Members.{Clients, stepped, each_member, is_least, is_fair, moved_beside, clock_then}
use Rattle.world_steps.specs.World.{WorldState, moved}
use Rattle.world_cell.specs.Consistent.{IsFairSince}
use Rattle.world_cell.proofs.OneSession.{at_each}

pub some_same : {X : Type 0} (a b : X) → ◌≡◌ {A = Option X} (Some a) (Some b) → a ≡ b
some_same a b h = cc

abbrev pub member_at : Clients → ℕ → Option WorldClient
member_at clients number = lookup (is_at (nat_cmp number)) clients

-- ---- one client has done a step

module _ (clients : Clients) (number : ℕ) (member : WorldClient) (client : ClientState) (found : member_at clients number ≡ Some member) where
  -- the client's own member, and any other
  pub own_member : member_at (stepped clients number member client) number ≡ Some (record member { client = client })
  own_member = lookup_set number clients (record member { client = client }) ∙ ap (λ o. option_map (λ (x : WorldClient). record member { client = client }) o) found

  pub other_member : (q : ℕ) → q ≢ number → member_at (stepped clients number member client) q ≡ member_at clients q
  other_member q apart = lookup_set_apart number q apart clients (record member { client = client })

  pub at_members : (P : ℕ → WorldClient → Type 0) → P number (record member { client = client }) → ((q : ℕ) (x : WorldClient) → member_at clients q ≡ Some x → P q x) → (q : ℕ) (x : WorldClient) → member_at (stepped clients number member client) q ≡ Some x → P q x
  at_members P own others q =
      at_each (λ n. (x : WorldClient) → member_at (stepped clients number member client) n ≡ Some x → P n x) number
      (λ x is. subst (λ y. P number y) (some_same (record member { client = client }) x (sym own_member ∙ is)) own)
      (λ n apart x is. others n x (sym (other_member n apart) ∙ is)) q

-- ---- each member has changed

pub each_found : (step : ℕ → WorldClient → WorldClient) (clients : Clients) (number : ℕ) → member_at (each_member step clients) number ≡ option_map (step number) (member_at clients number)
each_found step [] number = refl
each_found step (e ∷ es) number =
    (elim (is_at (nat_cmp number) e.0) as (λ b. is_at (nat_cmp number) e.0 ≡ b → cond b (Some (step e.0 e.1)) (member_at (each_member step es) number) ≡ option_map (step number) (cond b (Some e.1) (member_at es number))) [
      | true ↦ (λ h. ap (λ n. Some (step n e.1)) (sym (same_key number e.0 h)))
      | false ↦ (λ h. each_found step es number)
    ]) refl

pub at_each_member : (step : ℕ → WorldClient → WorldClient) (clients : Clients) (P : ℕ → WorldClient → Type 0) → ((q : ℕ) (x : WorldClient) → member_at clients q ≡ Some x → P q (step q x)) → (q : ℕ) (y : WorldClient) → member_at (each_member step clients) q ≡ Some y → P q y
at_each_member step clients P all q y is =
    (elim (member_at clients q) as (λ o. member_at clients q ≡ o → option_map (step q) o ≡ Some y → P q y) [
      | None ↦ (λ at e. cc)
      | Some x ↦ (λ at e. subst (λ z. P q z) (some_same (step q x) y e) (all q x at))
    ]) refl (sym (each_found step clients q) ∙ is)

-- ---- what all pass

and_true : (a b : Bool) → (a && b) ≡ true → (a ≡ true) × (b ≡ true)
and_true true true h = (refl, refl)
and_true true false h = cc
and_true false b h = cc

pub all_found : (test : ℕ × WorldClient → Bool) (clients : Clients) (number : ℕ) (member : WorldClient) → list_all test clients ≡ true → member_at clients number ≡ Some member → test (number, member) ≡ true
all_found test [] number member all found = cc
all_found test (e ∷ es) number member all found =
    let both = and_true (test e) (list_all test es) all in
    (elim (is_at (nat_cmp number) e.0) as (λ b. is_at (nat_cmp number) e.0 ≡ b → cond b (Some e.1) (member_at es number) ≡ Some member → test (number, member) ≡ true) [
      | true ↦ (λ h k. ap (λ n. test (n, member)) (same_key number e.0 h) ∙ ap (λ x. test (e.0, x)) (sym (some_same e.1 member k)) ∙ both.0)
      | false ↦ (λ h k. all_found test es number member both.1 k)
    ]) refl found

-- ---- clocks

pub le_of : (a b : ℕ) → nat_le a b ≡ true → a ≤ b
le_of a b h = grind (arith, nat_tests)

pub is_le : (a b : ℕ) → a ≤ b → nat_le a b ≡ true
is_le a b h = grind (arith, nat_tests)

not_le : (a b : ℕ) → nat_le a b ≡ false → b ≤ a
not_le a b h = grind (arith, nat_tests)

-- a client's clock moves, and the lead at the point of the least isn't more than before
pub record Moves (to : ℕ) (member next : WorldClient) : Type 0 where
  pub client : next.client ≡ member.client
  pub clock : next.clock ≡ to
  pub least : 16 * next.least_now + 17 * member.least_clock ≤ 16 * member.least_now + 17 * next.least_clock

no_more : (a b : ℕ) → 16 * a + 17 * b ≤ 16 * a + 17 * b
no_more a b = omega arith

moves_beside : (now to : ℕ) (member : WorldClient) → Moves to member (moved_beside now to member)
moves_beside now to member =
    (elim (is_least now to member) as (λ b. is_least now to member ≡ b → Moves to member (cond b (record member { clock = to; least_now = now; least_clock = to }) (record member { clock = to }))) [
      | true ↦ (λ h. record { client = refl; clock = refl; least = le_of (16 * now + 17 * member.least_clock) (16 * member.least_now + 17 * to) h })
      | false ↦ (λ h. record { client = refl; clock = refl; least = no_more member.least_now member.least_clock })
    ]) refl

pub moves_so : (m : Option MasterState) (w : WorldState) (ticks : ClockSteps) (number : ℕ) (member : WorldClient) → Moves (clock_then ticks number member) member (moved m w ticks number member)
moves_so None w ticks number member = record { client = refl; clock = refl; least = no_more member.least_now member.least_clock }
moves_so (Some s) w ticks number member = moves_beside (w.clock + ticks.master) (clock_then ticks number member) member

-- where both clocks stand at the point of the least lead
pub fair_at_once : (now : ℕ) (member : WorldClient) → member.least_now ≡ now → member.least_clock ≡ member.clock → IsFairSince now member
fair_at_once now member at own = record {
  fair = is_le (16 * now + 17 * member.least_clock) (16 * member.least_now + 17 * member.clock + 17) (omega (arith, at, own));
  least = omega (arith, at, own);
}

pub fair_beside : (now to : ℕ) (member : WorldClient) → is_fair now to member ≡ true → IsFairSince now (moved_beside now to member)
fair_beside now to member fair =
    (elim (is_least now to member) as (λ b. is_least now to member ≡ b → IsFairSince now (cond b (record member { clock = to; least_now = now; least_clock = to }) (record member { clock = to }))) [
      | true ↦ (λ h. fair_at_once now (record member { clock = to; least_now = now; least_clock = to }) refl refl)
      | false ↦ (λ h. record { fair = fair; least = not_le (16 * now + 17 * member.least_clock) (16 * member.least_now + 17 * to) h })
    ]) refl
