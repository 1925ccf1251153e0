-- Who is told of a lock, and what is printed of it.
use Rattle.std.specs.Prelude.{ℕ, Bool, not, ◌&&◌, List, [], ◌∷◌, ◌++◌, map, if◌then◌else◌}
use Rattle.std.specs.Option.{option_map_or}
use Rattle.node_core.specs.declared.lines.Line.{Line}
use Rattle.tags_cell.specs.declared.messages.outs.Out.{Out}
use Rattle.tags_cell.specs.declared.messages.outs.CallResult.{CallResult}
use Rattle.tags_cell.specs.declared.messages.outs.Reply.{Reply}
use Rattle.tags_cell.specs.Numbers.{is_client_number}
use Rattle.lock_core.specs.declared.claims.Claim.{Claim}
use Rattle.lock_core.specs.declared.turns.Turn.{Turn}
use Rattle.lock_core.specs.State.{LockState}
use Rattle.master_state.specs.declared.updates.KeptPut.{KeptPut}
use Rattle.master_state.specs.declared.updates.LockPut.{LockPut}
use Rattle.master_state.specs.State.{MasterState}
use Rattle.master_state.specs.Lookups.{kept_of, reply_of}
use Rattle.master_state.specs.CallsWaiting.{has_call}
use Rattle.master_parts.specs.Answered.{answered_by}
use Rattle.master_parts.specs.NameIndex.{name_of}
use Rattle.node_core.specs.declared.refusals.Fault.TheVariants as faults
use Rattle.node_core.specs.declared.lines.Line.TheVariants as lines
use Rattle.tags_cell.specs.declared.messages.outs.Out.TheVariants as outs
use Rattle.tags_cell.specs.declared.messages.outs.CallResult.TheVariants as results

-- ---- replies

-- a reply is kept, and sent
abbrev pub kept_put : Reply → KeptPut
kept_put reply = record { client = reply.client; kept = answered_by reply }

abbrev pub kept_puts : List Reply → List KeptPut
kept_puts replies = map kept_put replies

abbrev pub sent : List Reply → List Out
sent replies = map outs.Reply replies

-- the answer to the call of a client that waits for a lock; none where another call of it waits for its turn, by which the client gave that one up
abbrev pub reply_to : MasterState → CallResult → ℕ → List Reply
reply_to s answer client =
    if is_client_number client && not (has_call client s.gate.waiting) then option_map_or (λ kept. reply_of s client kept.number answer ∷ []) (kept_of s client) [] else []

-- to each of these, in order
abbrev pub replies_to : MasterState → CallResult → List Claim → List Reply
replies_to s answer [] = []
replies_to s answer (claim ∷ claims) = reply_to s answer claim.owner.client ++ replies_to s answer claims

-- who got the lock is told so, and who can't get it any more
abbrev pub turn_replies : MasterState → Turn → List Reply
turn_replies s turn = replies_to s results.Done turn.granted ++ replies_to s (results.Refused faults.Exhausted) turn.exhausted

-- ---- locks

abbrev pub locked_line : ℕ → ℕ → Claim → Line
locked_line instance generation claim = lines.Locked claim.owner.client instance claim.hold.mode generation

-- each that got the lock, in order
abbrev pub locked_lines : ℕ → Turn → List Line
locked_lines instance turn = map (locked_line instance turn.lock.generation) turn.granted

-- a line where this holds
abbrev pub line_if : Bool → Line → List Line
line_if holds line = if holds then line ∷ [] else []

-- what becomes of the lock of an instance, where its node is there
abbrev pub puts_of : MasterState → ℕ → LockState → List LockPut
puts_of s instance lock = option_map_or (λ name. record { name = name; instance = instance; lock = lock } ∷ []) (name_of s.nodes instance) []
