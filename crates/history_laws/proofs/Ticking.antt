-- How the clocks of a world are moved to a moment of a history.
use Rattle.std.proofs.Common.{◌≡◌, ℕ, ◌+◌, ◌-◌, ◌*◌, ◌≤◌, List, [], ◌∷◌, Bool, true, false, cond, Option, Some, None, refl, sym, ap, ◌∙◌, subst, arith}
use Rattle.std.specs.Prelude.{◌<◌, nat_le, nat_lt, ◌||◌, Ok, is_some}
use Rattle.std.specs.Option.{option_map, option_map_or}
use Rattle.std.specs.List.{list_all, list_any, AllByRecursion}
use Rattle.std.proofs.lemmas.Bool.Decides.{nat_tests}
use Rattle.lease_core.specs.Lease.{IsMoment, moment_limit}
use Rattle.node_core.specs.declared.lines.Line.{Line}
use Rattle.master_state.specs.State.{MasterState}
use Rattle.client_core.specs.State.{ClientState}
use Rattle.world_steps.specs.declared.members.WorldClient.{WorldClient}
use Rattle.world_steps.specs.declared.steps.Ticks.{Ticks as ClockSteps}
use Rattle.world_steps.specs.declared.steps.Step.TheVariants as steps
use Rattle.world_steps.specs.Members.{Clients, each_member, is_least, is_fair, moved_beside, moved_alone, clock_then, own_step}
use Rattle.world_steps.specs.World.{WorldState, world_step, world_tick, moves_nobody, moved, are_joined, are_fair, stays_fair, goes_past_end, ticked}
use Rattle.world_cell.proofs.MembersFound.{member_at, each_found}
use Rattle.history_laws.specs.Histories.{Clocks, Entry, MoveFairly, KeepFair, AreMoments, UnlessBegun, GoOn, begins_life}
use Rattle.history_laws.proofs.Entries.{EachIs, each_so, each_both, each_moved, all_pass, none_passes, all_present, steps_of, step_found, steps_joined}

-- ---- over plain numbers

reaches : (a b : ℕ) → a ≤ b → a + (b - a) ≡ b
reaches a b h = omega arith

at_most : (a b : ℕ) → a ≤ b → nat_le a b ≡ true
at_most a b h = grind (arith, nat_tests)

above : (a b : ℕ) → b < a → nat_le a b ≡ false
above a b h = grind (arith, nat_tests)

le_of : (a b : ℕ) → nat_le a b ≡ true → a ≤ b
le_of a b h = grind (arith, nat_tests)

-- a client's least lead is that of a moment of this life or more, and the clocks are fair from that moment on: so they are from the least lead
leads_on : (am ac ln lc nm nc : ℕ) → am ≤ nm → 16 * am + 17 * lc ≤ 16 * ln + 17 * ac → 16 * (nm - am) ≤ 17 * ((nc - ac) + 1) → ac ≤ nc → 16 * nm + 17 * lc ≤ 16 * ln + 17 * nc + 17
leads_on am ac ln lc nm nc a b c d = omega arith

-- at one moment
pub at_once : (here : Clocks) → MoveFairly here here
at_once here = record { master = omega arith; fair = λ n. omega arith }

-- ---- where a client's clock and its least lead are

-- the least lead beside this master is that of a moment from which on the clocks are fair
pub record LedFrom (entries : List Entry) (here : Clocks) (n : ℕ) (member : WorldClient) : Type 0 where
  pub from : Clocks
  pub least : 16 * from.master + 17 * member.least_clock ≤ 16 * member.least_now + 17 * from.client n
  pub before : from.client n ≤ here.client n
  pub moves : MoveFairly from here
  pub fair : KeepFair from entries

abbrev pub Led : Option MasterState → List Entry → Clocks → ℕ → WorldClient → Type 0
Led None entries here n member = Unit {0}
Led (Some s) entries here n member = LedFrom entries here n member

pub record IsTimely (m : Option MasterState) (entries : List Entry) (here : Clocks) (n : ℕ) (member : WorldClient) : Type 0 where
  pub clock : member.clock ≡ here.client n
  pub led : Led m entries here n member

-- and where the master's is
abbrev pub IsMastersClock : Option MasterState → Clocks → ℕ → Type 0
IsMastersClock None here clock = Unit {0}
IsMastersClock (Some s) here clock = clock ≡ here.master

abbrev pub FairFrom : Option MasterState → Clocks → List Entry → Type 0
FairFrom None here entries = Unit {0}
FairFrom (Some s) here entries = KeepFair here entries

-- a world's clocks show what those of this moment do, and go on so
pub record IsTimelyWorld (w : WorldState) (entries : List Entry) (here : Clocks) : Type 0 where
  pub early : IsMoment w.clock
  pub master : IsMastersClock w.master here w.clock
  pub each : EachIs (IsTimely w.master entries here) w.clients
  pub fair : FairFrom w.master here entries

-- ---- a tick

module _ (w : WorldState) (gain : ℕ) (step : ℕ → ℕ) where
  abbrev pub ticks_by : ClockSteps
  ticks_by = record { master = gain; clients = 0; own = steps_of step w.clients }

  own_is : (n : ℕ) → is_some (member_at w.clients n) ≡ true → own_step ticks_by n ≡ step n
  own_is n there = ap (λ o. option_map_or (λ x. x) o 0) (step_found step w.clients n there)

  then_is : (n : ℕ) (member : WorldClient) → is_some (member_at w.clients n) ≡ true → clock_then ticks_by n member ≡ member.clock + step n
  then_is n member there = ap (λ x. member.clock + x) (own_is n there)

  -- each clock is where it is to be then
  abbrev pub Reach : (ℕ → ℕ) → Clients → Type 0
  Reach to clients = EachIs (λ n member. member.clock + step n ≡ to n) clients

  pub thens : (to : ℕ → ℕ) → Reach to w.clients → EachIs (λ n member. clock_then ticks_by n member ≡ to n) w.clients
  thens to reach = each_both (λ n member. is_some (member_at w.clients n) ≡ true) (λ n member. member.clock + step n ≡ to n) (λ n member. clock_then ticks_by n member ≡ to n) (λ n member there is. then_is n member there ∙ is) w.clients (all_present w.clients) reach

  ticked_when : moves_nobody w.master ticks_by ≡ false → are_fair w.master w ticks_by ≡ true → goes_past_end w ticks_by ≡ false → world_step w (steps.Tick ticks_by) ≡ Ok (ticked w ticks_by, [])
  unfolding world_step
  ticked_when somebody fair early = rw (somebody, steps_joined step w.clients, fair, early) refl

  early_all : (to : ℕ → ℕ) → ((n : ℕ) → IsMoment (to n)) → Reach to w.clients → list_any (λ entry. nat_le moment_limit (clock_then ticks_by entry.0 entry.1)) w.clients ≡ false
  early_all to moments reach =
      none_passes (λ entry. nat_le moment_limit (clock_then ticks_by entry.0 entry.1)) w.clients
      (each_so (λ n member. clock_then ticks_by n member ≡ to n) (λ n member. nat_le moment_limit (clock_then ticks_by n member) ≡ false) (λ n member is. ap (nat_le moment_limit) is ∙ above moment_limit (to n) (moments n)) w.clients (thens to reach))

  early_when : (to : ℕ → ℕ) → ((n : ℕ) → IsMoment (to n)) → Reach to w.clients → IsMoment (w.clock + gain) → goes_past_end w ticks_by ≡ false
  early_when to moments reach early = rw (above moment_limit (w.clock + gain) early, early_all to moments reach) refl

-- ---- beside no master

moved_alone_is : (entries : List Entry) (now : Clocks) (n clock : ℕ) (member : WorldClient) → clock ≡ now.client n → IsTimely None entries now n (moved_alone clock member)
moved_alone_is entries now n clock member is = record { clock = is; led = tt }

pub record Ticks (w : WorldState) (entries : List Entry) (now : Clocks) : Type 0 where
  pub gain : ℕ
  pub step : ℕ → ℕ
  pub is_step : world_step w (steps.Tick (ticks_by w gain step)) ≡ Ok (ticked w (ticks_by w gain step), [])
  pub timely : IsTimelyWorld (ticked w (ticks_by w gain step)) entries now

module _ (w : WorldState) (entries : List Entry) (now : Clocks) (moments : AreMoments now) (step : ℕ → ℕ) (reach : Reach w 0 step now.client w.clients) where
  same_clock : w.clock + 0 ≡ w.clock
  same_clock = omega arith

  pub alone_by : (m : Option MasterState) → w.master ≡ m → m ≡ None → IsMoment w.clock → Ticks w entries now
  alone_by (Some s) at none early = cc
  alone_by None at none early = record {
    gain = 0;
    step = step;
    is_step = ticked_when w 0 step (rw at refl) (rw at refl) (early_when w 0 step now.client moments.client reach (rw same_clock early));
    timely = record {
      early = rw same_clock early;
      master = rw at tt;
      each = rw at (each_moved (IsTimely None entries now) (moved None w (ticks_by w 0 step)) w.clients
          (each_so (λ n member. clock_then (ticks_by w 0 step) n member ≡ now.client n) (λ n member. IsTimely None entries now n (moved_alone (clock_then (ticks_by w 0 step) n member) member)) (λ n member is. moved_alone_is entries now n (clock_then (ticks_by w 0 step) n member) member is) w.clients (thens w 0 step now.client reach)));
      fair = rw at tt;
    };
  }

-- ---- beside a master

module _ (entries : List Entry) (here now : Clocks) (fair_now : KeepFair now entries) where
  abbrev LedTo : ℕ → WorldClient → Type 0
  LedTo n member = LedFrom entries now n member

  fair_then : (n : ℕ) (member : WorldClient) → LedTo n member → is_fair now.master (now.client n) member ≡ true
  fair_then n member led =
      let a = led.least in
      let b = led.before in
      let c = led.moves.master in
      let d = led.moves.fair n in
      at_most (16 * now.master + 17 * member.least_clock) (16 * member.least_now + 17 * now.client n + 17) (leads_on led.from.master (led.from.client n) member.least_now member.least_clock now.master (now.client n) c a d b)

  led_by : (b : Bool) (n : ℕ) (member : WorldClient) → LedTo n member → LedFrom entries now n (cond b (record member { clock = now.client n; least_now = now.master; least_clock = now.client n }) (record member { clock = now.client n }))
  led_by true n member led = record { from = now; least = omega arith; before = omega arith; moves = at_once now; fair = fair_now }
  led_by false n member led = record { from = led.from; least = led.least; before = led.before; moves = led.moves; fair = led.fair }

  clock_by : (b : Bool) (n : ℕ) (member : WorldClient) → (cond b (record member { clock = now.client n; least_now = now.master; least_clock = now.client n }) (record member { clock = now.client n })).clock ≡ now.client n
  clock_by true n member = refl
  clock_by false n member = refl

  moved_beside_is : (s : MasterState) (n : ℕ) (member : WorldClient) → LedTo n member → IsTimely (Some s) entries now n (moved_beside now.master (now.client n) member)
  moved_beside_is s n member led = record { clock = clock_by (is_least now.master (now.client n) member) n member; led = led_by (is_least now.master (now.client n) member) n member led }

  module _ (w : WorldState) (moments : AreMoments now) (gain : ℕ) (step : ℕ → ℕ) (reach : Reach w gain step now.client w.clients) (to : w.clock + gain ≡ now.master) (each : EachIs LedTo w.clients) where
    abbrev then_and_led : ℕ → WorldClient → Type 0
    then_and_led n member = (clock_then (ticks_by w gain step) n member ≡ now.client n) × LedTo n member

    boths : EachIs then_and_led w.clients
    boths = each_both (λ n member. clock_then (ticks_by w gain step) n member ≡ now.client n) LedTo then_and_led (λ n member is led. (is, led)) w.clients (thens w gain step now.client reach) each

    fair_all : list_all (stays_fair w (ticks_by w gain step)) w.clients ≡ true
    fair_all = all_pass (stays_fair w (ticks_by w gain step)) w.clients (each_so then_and_led (λ n member. stays_fair w (ticks_by w gain step) (n, member) ≡ true) (λ n member both. rw (to, both.0) (fair_then n member both.1)) w.clients boths)

    pub beside_by : (s : MasterState) → w.master ≡ Some s → Ticks w entries now
    beside_by s at = record {
      gain = gain;
      step = step;
      is_step = ticked_when w gain step (rw at refl) (rw at fair_all) (early_when w gain step now.client moments.client reach (rw to moments.master));
      timely = record {
        early = rw to moments.master;
        master = rw at to;
        each = rw at (each_moved (IsTimely (Some s) entries now) (moved (Some s) w (ticks_by w gain step)) w.clients
            (each_so then_and_led (λ n member. IsTimely (Some s) entries now n (moved_beside (w.clock + gain) (clock_then (ticks_by w gain step) n member) member)) (λ n member both. rw (to, both.0) (moved_beside_is s n member both.1)) w.clients boths));
        fair = rw at fair_now;
      };
    }

-- ---- from one moment of a history to the next

unless_begun : (b : Bool) (Rest : Type 0) → b ≡ false → UnlessBegun b Rest → Rest
unless_begun true Rest not h = cc
unless_begun false Rest not h = h

module _ (w : WorldState) (here : Clocks) (entry : Entry) (entries : List Entry) (timely : IsTimelyWorld w (entry ∷ entries) here) (on : GoOn here (entry ∷ entries)) (moments : AreMoments entry.clocks) (fair_now : KeepFair entry.clocks entries) where
  abbrev gone : ℕ → ℕ
  gone n = entry.clocks.client n - here.client n

  reached : (gain : ℕ) → Reach w gain gone entry.clocks.client w.clients
  reached gain = each_so (IsTimely w.master (entry ∷ entries) here) (λ n member. member.clock + gone n ≡ entry.clocks.client n) (λ n member is. rw is.clock (reaches (here.client n) (entry.clocks.client n) (on n))) w.clients timely.each

  pub alone_on : w.master ≡ None → Ticks w entries entry.clocks
  alone_on none = alone_by w entries entry.clocks moments gone (reached 0) w.master refl none timely.early

  led_on : (m : Option MasterState) (s : MasterState) → m ≡ Some s → begins_life entry.deed ≡ false → (n : ℕ) (member : WorldClient) → IsTimely m (entry ∷ entries) here n member → LedFrom entries entry.clocks n member
  led_on None s up not n member is = cc
  led_on (Some other) s up not n member is =
      let led = is.led in
      let keeps = unless_begun (begins_life entry.deed) (MoveFairly led.from entry.clocks × KeepFair led.from entries) not led.fair in
      let a = led.before in
      let b = on n in
      record { from = led.from; least = led.least; before = omega arith; moves = keeps.0; fair = keeps.1 }

  clock_on : (m : Option MasterState) (s : MasterState) → m ≡ Some s → begins_life entry.deed ≡ false → IsMastersClock m here w.clock → FairFrom m here (entry ∷ entries) → w.clock + (entry.clocks.master - w.clock) ≡ entry.clocks.master
  clock_on None s up not at fair = cc
  clock_on (Some other) s up not at fair =
      let keeps = unless_begun (begins_life entry.deed) (MoveFairly here entry.clocks × KeepFair here entries) not fair in
      let a = keeps.0.master in
      reaches w.clock entry.clocks.master (rw at a)

  pub beside_on : (s : MasterState) → w.master ≡ Some s → begins_life entry.deed ≡ false → Ticks w entries entry.clocks
  beside_on s up not =
      beside_by entries here entry.clocks fair_now w moments (entry.clocks.master - w.clock) gone (reached (entry.clocks.master - w.clock)) (clock_on w.master s up not timely.master timely.fair)
      (each_so (IsTimely w.master (entry ∷ entries) here) (LedFrom entries entry.clocks) (led_on w.master s up not) w.clients timely.each) s up
