-- A client that doesn't acknowledge what it has been told is answered for so long, and no longer: what follows of its timeout.
use Rattle.std.proofs.Common.{◌≡◌, ℕ, ◌+◌, ◌-◌, ◌<◌, ◌≤◌, false, Option, Some, None, sym, ap, subst, ◌∙◌, arith}
use Rattle.std.specs.Prelude.{max, nat_le}
use Rattle.std.specs.Option.{option_map_or}
use Rattle.std.proofs.lemmas.Bool.Decides.{nat_tests}
use Rattle.tags_cell.specs.declared.messages.outs.Reply.{Reply}
use Rattle.session_core.specs.declared.records.Mark.{Mark}
use Rattle.session_core.specs.declared.records.Parked.{Parked}
use Rattle.session_core.specs.declared.records.Session.{Session}
use Rattle.session_core.specs.Session.{patience, is_given_up}

-- by when a session ends at the latest that was told by then
abbrev pub last_of : ℕ → ℕ → ℕ
last_of lease first = first + patience lease + lease + lease

-- by when it ends at the latest that was told of something else before
abbrev pub first_of : ℕ → ℕ → ℕ
first_of lease from = max (from + 60002) (from + patience lease + lease) + lease

-- its timeout since a moment, by the clock, and by when its parked Beat came
pub record IsNear (lease from clock timeout : ℕ) (parked : Option Parked) : Type 0 where
  pub near : timeout ≤ max (from + 60002) (clock + lease)
  pub received : (beat : Parked) → parked ≡ Some beat → timeout ≤ max (from + 60002) (beat.received + lease)

later_near : (timeout from a b lease : ℕ) → a ≤ b → timeout ≤ max (from + 60002) (a + lease) → timeout ≤ max (from + 60002) (b + lease)
later_near timeout from a b lease h k = omega (arith, h, k)

pub near_later : (lease from a b timeout : ℕ) (parked : Option Parked) → a ≤ b → IsNear lease from a timeout parked → IsNear lease from b timeout parked
near_later lease from a b timeout parked le h = record { near = later_near timeout from a b lease le h.near; received = h.received }

-- a Beat that comes
pub near_beaten : (lease from clock timeout number : ℕ) (parked : Option Parked) → IsNear lease from clock timeout parked → IsNear lease from clock timeout (Some (record { number = number; received = clock }))
near_beaten lease from clock timeout number parked h = record {
  near = h.near;
  received = λ beat is.
      let now : clock ≡ beat.received = cc in
      let P : ℕ → Type 0 = λ t. timeout ≤ max (from + 60002) (t + lease) in
      subst P now h.near;
}

near_then : (clock timeout lease from : ℕ) → timeout ≤ max (from + 60002) (clock + lease) → max timeout (clock + lease) ≤ max (from + 60002) (clock + lease)
near_then clock timeout lease from h = omega (arith, h)

-- its answer
pub near_answered : (lease from clock timeout : ℕ) (parked : Option Parked) → IsNear lease from clock timeout parked → IsNear lease from clock (max timeout (clock + lease)) None
near_answered lease from clock timeout parked h = record { near = near_then clock timeout lease from h.near; received = λ beat is. absurd (cc) }

patient : (a b c : ℕ) → nat_le c (a - b) ≡ false → a < b + c
patient a b c h = grind (arith, nat_tests)

-- a Beat of a client that isn't given up came in time
pub in_time : (lease : ℕ) (session : Session Reply) (beat : Parked) (mark : Mark) → session.mark ≡ Some mark → is_given_up lease beat session ≡ false → beat.received < mark.since + patience lease
in_time lease session beat mark is spared =
    let late : nat_le (patience lease) (beat.received - mark.since) ≡ false = sym (ap (λ (o : Option Mark). option_map_or (λ (m : Mark). nat_le (patience lease) (beat.received - m.since)) o false) is) ∙ spared in
    patient beat.received mark.since (patience lease) late

pub first_mark : (lease first clock timeout : ℕ) → clock < timeout → timeout ≤ first → (clock < first) × (max timeout (clock + lease) ≤ last_of lease first)
first_mark lease first clock timeout h k = (omega (arith, h, k), omega (arith, h, k))

pub next_answer : (lease from first clock timeout since received : ℕ) → clock < timeout → timeout ≤ max (from + 60002) (received + lease) → from + 60002 ≤ first → since < first → received < since + patience lease → timeout ≤ last_of lease first → max timeout (clock + lease) ≤ last_of lease first
next_answer lease from first clock timeout since received h k l m n o = omega (arith, h, k, l, m, n, o)

pub old_answer : (lease from clock timeout since received : ℕ) → clock < timeout → timeout ≤ max (from + 60002) (received + lease) → since ≤ from → received < since + patience lease → max timeout (clock + lease) ≤ first_of lease from
old_answer lease from clock timeout since received h k l m = omega (arith, h, k, l, m)
