-- Replies to those that waited for a lock: each is to the call of its client that is kept, of a client of which no call waits for its turn.
use Rattle.std.proofs.Common.{◌≡◌, ℕ, List, [], ◌∷◌, ◌++◌, Bool, true, false, cond, Option, Some, None, refl}
use Rattle.std.specs.Prelude.{◌&&◌, not}
use Rattle.std.specs.Option.{option_map_or}
use Rattle.std.specs.List.{AllByRecursion}
use Rattle.node_core.specs.declared.refusals.Fault.TheVariants as faults
use Rattle.tags_cell.specs.Numbers.{is_client_number}
use Rattle.tags_cell.specs.declared.messages.calls.Call.{Call}
use Rattle.tags_cell.specs.declared.messages.outs.CallResult.{CallResult}
use Rattle.tags_cell.specs.declared.messages.outs.CallResult.TheVariants as results
use Rattle.tags_cell.specs.declared.messages.outs.Reply.{Reply}
use Rattle.session_core.specs.declared.records.LastCall.{LastCall}
use Rattle.lock_core.specs.declared.claims.Claim.{Claim}
use Rattle.lock_core.specs.declared.turns.Turn.{Turn}
use Rattle.lock_core.specs.declared.turns.Lapse.{Lapse}
use Rattle.master_state.specs.State.{MasterState}
use Rattle.master_state.specs.Lookups.{kept_of, reply_of}
use Rattle.master_state.specs.CallsWaiting.{has_call}
use Rattle.master_state.specs.Replies.{reply_to, replies_to, turn_replies}
use Rattle.master_state.specs.Lapses.{lapses_replies}
use Rattle.world_cell.specs.Consistent.{OpensAs}

-- it opens no handle, and may not be kept in a cache
pub record IsLate (s : MasterState) (reply : Reply) : Type 0 where
  pub kept : LastCall Reply
  pub is_kept : kept_of s reply.client ≡ Some kept
  pub same : reply.number ≡ kept.number
  pub unstamped : reply.stamp ≡ None
  pub opens : (call : Call) → OpensAs call reply.result
  pub quiet : has_call reply.client s.gate.waiting ≡ false

abbrev pub AreLate : MasterState → List Reply → Type 0
AreLate s replies = AllByRecursion (IsLate s) replies

module _ (s : MasterState) where
  late_both : (replies others : List Reply) → AreLate s replies → AreLate s others → AreLate s (replies ++ others)
  late_both [] others h k = k
  late_both (reply ∷ replies) others h k = (h.0, late_both replies others h.1 k)

  one_late : (answer : CallResult) (client : ℕ) → ((call : Call) → OpensAs call answer) → (b busy : Bool) (o : Option (LastCall Reply)) → has_call client s.gate.waiting ≡ busy → kept_of s client ≡ o → AreLate s (cond (b && not busy) (option_map_or (λ kept. reply_of s client kept.number answer ∷ []) o []) [])
  one_late answer client opens true true o quiet is = tt
  one_late answer client opens true false None quiet is = tt
  one_late answer client opens true false (Some kept) quiet is = (record { kept = kept; is_kept = is; same = refl; unstamped = refl; opens = opens; quiet = quiet }, tt)
  one_late answer client opens false busy o quiet is = tt

  pub replies_late : (answer : CallResult) (claims : List Claim) → ((call : Call) → OpensAs call answer) → AreLate s (replies_to s answer claims)
  replies_late answer [] opens = tt
  replies_late answer (claim ∷ claims) opens =
      let client = claim.owner.client in
      late_both (reply_to s answer client) (replies_to s answer claims)
      (one_late answer client opens (is_client_number client) (has_call client s.gate.waiting) (kept_of s client) refl refl)
      (replies_late answer claims opens)

  -- who got the lock, and who was turned away
  pub application_late : (turn : Turn) → AreLate s (turn_replies s turn)
  application_late turn =
      late_both (replies_to s results.Done turn.granted) (replies_to s (results.Refused faults.Exhausted) turn.exhausted)
      (replies_late results.Done turn.granted (λ call. tt))
      (replies_late (results.Refused faults.Exhausted) turn.exhausted (λ call. tt))

  pub lapses_late : (ended : List Lapse) → AreLate s (lapses_replies s ended)
  lapses_late [] = tt
  lapses_late (lapse ∷ ended) = late_both (turn_replies s lapse.turn) (lapses_replies s ended) (application_late lapse.turn) (lapses_late ended)
