-- Why comparing with the point of the least lead is comparing with each point of a master's life.
use Rattle.std.proofs.Common.{◌≡◌, ℕ, ◌+◌, ◌-◌, ◌*◌, ◌≤◌, List, [], ◌∷◌, Bool, true, false, cond, refl, sym, ap, ◌∙◌, subst, arith}
use Rattle.std.specs.Prelude.{◌<◌, nat_le}
use Rattle.std.proofs.lemmas.Bool.Decides.{nat_tests}
use Rattle.world_steps.specs.declared.members.WorldClient.{WorldClient}
use Rattle.world_steps.specs.Members.{is_least, is_fair, moved_beside}
use Rattle.world_steps.specs.Lives.{Point, IsLater, MoveFairly, MoveFairlyFromEach, AreInOrder, BeginsAt, lived, FairTicksAreTaken, TakenTicksAreFair}

at_most : (a b : ℕ) → nat_le a b ≡ true → a ≤ b
at_most a b h = grind (arith, nat_tests)

above : (a b : ℕ) → nat_le a b ≡ false → b < a
above a b h = grind (arith, nat_tests)

is_at_most : (a b : ℕ) → a ≤ b → nat_le a b ≡ true
is_at_most a b h = grind (arith, nat_tests)

-- ---- over plain numbers: a point, the point of the least lead, and where the clocks are then

moves : (now clock then to : ℕ) → now ≤ then → clock ≤ to → 16 * then + 17 * clock ≤ 16 * now + 17 * to + 17 → 16 * (then - now) ≤ 17 * ((to - clock) + 1)
moves now clock then to a b h = omega arith

moved : (now clock then to : ℕ) → now ≤ then → clock ≤ to → 16 * (then - now) ≤ 17 * ((to - clock) + 1) → 16 * then + 17 * clock ≤ 16 * now + 17 * to + 17
moved now clock then to a b h = omega arith

-- a point that is no further ahead is fair to where the other is
from_less : (now clock ln lc then to : ℕ) → 16 * now + 17 * lc ≤ 16 * ln + 17 * clock → 16 * then + 17 * clock ≤ 16 * now + 17 * to + 17 → 16 * then + 17 * lc ≤ 16 * ln + 17 * to + 17
from_less now clock ln lc then to a h = omega arith

-- and one that is further ahead is, where the least is
from_more : (now clock ln lc then to : ℕ) → 16 * ln + 17 * clock < 16 * now + 17 * lc → 16 * then + 17 * lc ≤ 16 * ln + 17 * to + 17 → 16 * then + 17 * clock ≤ 16 * now + 17 * to + 17
from_more now clock ln lc then to a h = omega arith

-- ---- the points of a life

all_before : (here : Point) (points : List Point) (then : Point) → AreInOrder here points then → IsLater here then
all_before here [] then h = h
all_before here (point ∷ points) then h =
    let first = h.0 in
    let rest = all_before point points then h.1 in
    let a = first.now in
    let b = rest.now in
    let c = first.clock in
    let d = rest.clock in
    record { now = omega arith; clock = omega arith }

-- the client is fair to the end of its life beside the master
abbrev IsFair : Point → WorldClient → Type 0
IsFair then member = 16 * then.now + 17 * member.least_clock ≤ 16 * member.least_now + 17 * then.clock + 17

fair_by : (b : Bool) (point then : Point) (member : WorldClient) → is_least point.now point.clock member ≡ b → IsFair then member → 16 * then.now + 17 * point.clock ≤ 16 * point.now + 17 * then.clock + 17 → IsFair then (cond b (record member { clock = point.clock; least_now = point.now; least_clock = point.clock }) (record member { clock = point.clock }))
fair_by true point then member is least here = here
fair_by false point then member is least here = least

taken_by : (b : Bool) (point then : Point) (member : WorldClient) → is_least point.now point.clock member ≡ b → IsFair then (cond b (record member { clock = point.clock; least_now = point.now; least_clock = point.clock }) (record member { clock = point.clock })) → IsFair then member × (16 * then.now + 17 * point.clock ≤ 16 * point.now + 17 * then.clock + 17)
taken_by true point then member is h =
    (from_less point.now point.clock member.least_now member.least_clock then.now then.clock (at_most (16 * point.now + 17 * member.least_clock) (16 * member.least_now + 17 * point.clock) is) h, h)
taken_by false point then member is h =
    (h, from_more point.now point.clock member.least_now member.least_clock then.now then.clock (above (16 * point.now + 17 * member.least_clock) (16 * member.least_now + 17 * point.clock) is) h)

fair_on : (member : WorldClient) (here : Point) (points : List Point) (then : Point) → AreInOrder here points then → IsFair then member → MoveFairlyFromEach points then → IsFair then (lived member points)
fair_on member here [] then order least fair = least
fair_on member here (point ∷ points) then order least fair =
    let before = all_before point points then order.1 in
    let reached = moved point.now point.clock then.now then.clock before.now before.clock fair.0 in
    fair_on (moved_beside point.now point.clock member) point points then order.1 (fair_by (is_least point.now point.clock member) point then member refl least reached) fair.1

taken_on : (member : WorldClient) (here : Point) (points : List Point) (then : Point) → AreInOrder here points then → IsFair then (lived member points) → IsFair then member × MoveFairlyFromEach points then
taken_on member here [] then order h = (h, tt)
taken_on member here (point ∷ points) then order h =
    let before = all_before point points then order.1 in
    let rest = taken_on (moved_beside point.now point.clock member) point points then order.1 h in
    let both = taken_by (is_least point.now point.clock member) point then member refl rest.0 in
    (both.0, (moves point.now point.clock then.now then.clock before.now before.clock both.1, rest.1))

-- ---- both directions

begins : (member : WorldClient) (first then : Point) → BeginsAt member first → 16 * then.now + 17 * first.clock ≤ 16 * first.now + 17 * then.clock + 17 → IsFair then member
begins member first then b h = let now = b.least_now in let clock = b.least_clock in omega (arith, now, clock, h)

began : (member : WorldClient) (first then : Point) → BeginsAt member first → IsFair then member → 16 * then.now + 17 * first.clock ≤ 16 * first.now + 17 * then.clock + 17
began member first then b h = let now = b.least_now in let clock = b.least_clock in omega (arith, now, clock, h)

pub fair_are_taken : FairTicksAreTaken
fair_are_taken member first points then b order fair =
    let before = all_before first points then order in
    let least = begins member first then b (moved first.now first.clock then.now then.clock before.now before.clock fair.0) in
    let then_fair = fair_on member first points then order least fair.1 in
    is_at_most (16 * then.now + 17 * (lived member points).least_clock) (16 * (lived member points).least_now + 17 * then.clock + 17) then_fair

pub taken_are_fair : TakenTicksAreFair
taken_are_fair member first points then b order h =
    let before = all_before first points then order in
    let all = taken_on member first points then order (at_most (16 * then.now + 17 * (lived member points).least_clock) (16 * (lived member points).least_now + 17 * then.clock + 17) h) in
    (moves first.now first.clock then.now then.clock before.now before.clock (began member first then b all.0), all.1)
