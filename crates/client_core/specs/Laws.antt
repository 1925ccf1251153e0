-- What holds of every client, whatever it is asked for and given.
use Rattle.std.specs.Prelude.{◌≡◌, ℕ, ◌<◌, ◌≤◌, max, true, List, [], ◌∷◌, ◌++◌, None, Ok}
use Rattle.lease_core.specs.Lease.{IsMoment}
use Rattle.cache_core.specs.Caches.{is_leased}
use Rattle.node_core.specs.declared.refusals.Fault.{Fault}
use Rattle.node_core.specs.declared.answers.Answer.TheVariants as answers
use Rattle.node_core.specs.declared.lines.Line.{Line}
use Rattle.node_core.specs.declared.lines.Line.TheVariants as lines
use Rattle.tags_cell.specs.declared.messages.outs.Out.{Out}
use Rattle.tags_cell.specs.declared.messages.outs.Out.TheVariants as outs
use Rattle.tags_cell.specs.declared.messages.outs.Reply.{Reply}
use Rattle.client_core.specs.declared.parts.asks.Ask.{Ask}
use Rattle.client_core.specs.declared.parts.asks.Outcome.TheVariants.{Served, Refused}
use Rattle.client_core.specs.declared.parts.steps.Given.{Given}
use Rattle.client_core.specs.State.{ClientState, at_moment, note, note_lines}
use Rattle.client_core.specs.Asks.{fault_then, asked_for, ask_step}
use Rattle.client_core.specs.Beats.{beat_step}
use Rattle.client_core.specs.Gives.{told, give_step}

-- a handle number that is given out is above all that were given out before, and counts from then on: of a handle that a master gave ..
abbrev pub HandleNumbersRise : Type 0
HandleNumbersRise =
    (s new : ClientState) (now client call handle : ℕ) (out : Out) (before : List Line) → give_step s now out ≡ (new, Ok (record { lines = before ++ lines.Done client call (answers.Opened handle) ∷ []; refused = None }))
    → (s.opened < handle) × (new.opened ≡ handle)

-- .. and of one that is shared
abbrev pub SharedNumbersRise : Type 0
SharedNumbersRise =
    (s new : ClientState) (now handle : ℕ) (ask : Ask) (printed : List Line) → ask_step s now ask ≡ (new, Ok (asked_for printed (Served (answers.Opened handle))))
    → (s.opened < handle) × (new.opened ≡ handle)

-- nothing takes a handle number back
abbrev pub HandleNumbersStay : Type 0
HandleNumbersStay =
    (s : ClientState) (now : ℕ) (ask : Ask) (out : Out) → (s.opened ≤ (ask_step s now ask).0.opened) × ((beat_step s now).0.opened ≡ s.opened) × (s.opened ≤ (give_step s now out).0.opened)

-- a reply that was given before changes nothing but what the noting of the time does
abbrev pub RepeatedReplyIsDropped : Type 0
RepeatedReplyIsDropped =
    (s new : ClientState) (now later : ℕ) (reply : Reply) (given : Given) → give_step s now (outs.Reply reply) ≡ (new, Ok given) → IsMoment later
    → give_step new later (outs.Reply reply) ≡ (note new (max new.clock later), Ok (told new (max new.clock later) [] None))

-- nor does a call that the client refuses by itself
abbrev pub RefusedCallChangesNothing : Type 0
RefusedCallChangesNothing =
    (s new : ClientState) (now : ℕ) (ask : Ask) (printed : List Line) (fault : Fault) → ask_step s now ask ≡ (new, Ok (asked_for printed (Refused fault)))
    → (new ≡ note s new.clock) × (printed ≡ note_lines s new.clock)

-- where a client may rely on its session its lease runs, and to note the time is to set the clock
abbrev pub SafeNoteSetsTheClock : Type 0
SafeNoteSetsTheClock =
    (s : ClientState) (moment : ℕ) → fault_then s moment ≡ None → (is_leased s.cache.lease moment ≡ true) × (note s moment ≡ at_moment s moment) × (note_lines s moment ≡ [])
