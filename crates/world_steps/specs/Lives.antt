-- The clocks of a master and of a client over the master's life, point by point.
use Rattle.std.specs.Prelude.{◌≡◌, ℕ, ◌+◌, ◌-◌, ◌*◌, ◌≤◌, true, List, [], ◌∷◌}
use Rattle.world_steps.specs.declared.members.WorldClient.{WorldClient}
use Rattle.world_steps.specs.Members.{is_fair, moved_beside}

-- where the two clocks stand: the master's, and the client's
pub record Point : Type 0 where
  pub now : ℕ
  pub clock : ℕ

-- no clock goes back from one point to the other
pub record IsLater (here later : Point) : Type 0 where
  pub now : here.now ≤ later.now
  pub clock : here.clock ≤ later.clock

-- from one point to a later one: 16 times what the master's clock moves is at most 17 times what the client's moves and a millisecond
abbrev pub MoveFairly : Point → Point → Type 0
MoveFairly here later = 16 * (later.now - here.now) ≤ 17 * ((later.clock - here.clock) + 1)

-- from each of these points
abbrev pub MoveFairlyFromEach : List Point → Point → Type 0
MoveFairlyFromEach [] later = Unit {0}
MoveFairlyFromEach (point ∷ points) later = MoveFairly point later × MoveFairlyFromEach points later

-- the points of a life in their order, and one after all of them
abbrev pub AreInOrder : Point → List Point → Point → Type 0
AreInOrder here [] then = IsLater here then
AreInOrder here (point ∷ points) then = IsLater here point × AreInOrder point points then

-- the life of a master beside a client begins: the master has come up, or the client joins
pub record BeginsAt (member : WorldClient) (point : Point) : Type 0 where
  pub least_now : member.least_now ≡ point.now
  pub least_clock : member.least_clock ≡ point.clock

-- and goes on, each point the next tick
abbrev pub lived : WorldClient → List Point → WorldClient
lived member [] = member
lived member (point ∷ points) = lived (moved_beside point.now point.clock member) points

-- a tick is taken as fair where the clocks move fairly to it from each point of the master's life
abbrev pub FairTicksAreTaken : Type 0
FairTicksAreTaken =
    (member : WorldClient) (first : Point) (points : List Point) (then : Point) → BeginsAt member first → AreInOrder first points then
    → MoveFairlyFromEach (first ∷ points) then → is_fair then.now then.clock (lived member points) ≡ true

-- and only there
abbrev pub TakenTicksAreFair : Type 0
TakenTicksAreFair =
    (member : WorldClient) (first : Point) (points : List Point) (then : Point) → BeginsAt member first → AreInOrder first points then
    → is_fair then.now then.clock (lived member points) ≡ true → MoveFairlyFromEach (first ∷ points) then
