-- Replies to those that waited for a lock, where none of their calls waits any longer.
use Rattle.std.proofs.Common.{◌≡◌, ℕ, ◌+◌, ◌≤◌, List, [], ◌∷◌, ◌++◌, true, false, cond, Some, None, refl, ap, arith}
use Rattle.std.specs.Prelude.{◌==◌, ◌&&◌, not}
use Rattle.std.specs.Option.{option_map_or}
use Rattle.std.specs.List.{AllByRecursion, sum_by}
use Rattle.std.proofs.lemmas.Bool.Decides.{nat_tests}
use Rattle.std.proofs.lemmas.List.Sums.{sum_by-cons}
use Rattle.node_core.specs.declared.refusals.Fault.TheVariants as faults
use Rattle.rows_cell.specs.declared.tables.Rows.{Rows}
use Rattle.tags_cell.specs.Numbers.{is_client_number}
use Rattle.tags_cell.specs.declared.messages.outs.CallResult.{CallResult}
use Rattle.tags_cell.specs.declared.messages.outs.CallResult.TheVariants as results
use Rattle.tags_cell.specs.declared.messages.outs.Reply.{Reply}
use Rattle.session_core.specs.declared.records.LastCall.{LastCall}
use Rattle.lock_core.specs.declared.claims.Claim.{Claim}
use Rattle.lock_core.specs.declared.turns.Turn.{Turn}
use Rattle.lock_core.specs.declared.turns.Lapse.{Lapse}
use Rattle.master_state.specs.State.{MasterState}
use Rattle.master_state.specs.Lookups.{kept_of, reply_of}
use Rattle.cell_core.specs.Step.{recorded}
use Rattle.master_parts.specs.Answered.{answered_by}
use Rattle.over_core.specs.Kept.{IsKept, claim_count, outstanding}
use Rattle.master_state.specs.CallsWaiting.{has_call}
use Rattle.master_state.specs.Replies.{reply_to, replies_to, turn_replies}
use Rattle.master_state.specs.Lapses.{lapses_replies}
use Rattle.over_core.specs.SweepCase.{told}
use Rattle.over_core.proofs.KeptByTakes.{recorded_kept}
use Rattle.over_core.proofs.OneCall.{one_if}

-- ---- to whom they are

pub all_append : {X : Type 0} (P : X → Type 0) (xs ys : List X) → AllByRecursion P xs → AllByRecursion P ys → AllByRecursion P (xs ++ ys)
all_append P [] ys h k = k
all_append P (x ∷ xs) ys h k = (h.0, all_append P xs ys h.1 k)

abbrev pub AreTo : (ℕ → Type 0) → List Reply → Type 0
AreTo P replies = AllByRecursion (λ (reply : Reply). P reply.client) replies

-- where none of the client's calls waits for its turn
reply_is_to : (P : ℕ → Type 0) (s : MasterState) (answer : CallResult) (client : ℕ) → (has_call client s.gate.waiting ≡ false → P client) → AreTo P (reply_to s answer client)
reply_is_to P s answer client h =
    let replies : List Reply = option_map_or (λ (kept : LastCall Reply). reply_of s client kept.number answer ∷ []) (kept_of s client) [] in
    elim (is_client_number client) as (λ b. AreTo P (cond (b && not (has_call client s.gate.waiting)) replies [])) [
      | true ↦ (elim (has_call client s.gate.waiting) as (λ b. has_call client s.gate.waiting ≡ b → AreTo P (cond (not b) replies [])) [
        | true ↦ (λ e. tt)
        | false ↦ (λ e. elim (kept_of s client) as (λ o. AreTo P (option_map_or (λ (kept : LastCall Reply). reply_of s client kept.number answer ∷ []) o [])) [ None ↦ tt | Some kept ↦ (h e, tt) ])
      ]) refl
      | false ↦ tt
    ]

-- how many of these claims a client has
abbrev pub claims_count : ℕ → List Claim → ℕ
claims_count q claims = sum_by (claim_count q) claims

one_own : (q : ℕ) (claim : Claim) (claims : List Claim) → claim.owner.client ≡ q → 1 ≤ claims_count q (claim ∷ claims)
one_own q claim claims own =
    first (claims_count q (claim ∷ claims)) (claim_count q claim) (claims_count q claims) (sum_by-cons (claim_count q) claim claims) (counts claim.owner.client q own)
  where
    counts : (a b : ℕ) → a ≡ b → one_if (a == b) ≡ 1
    counts a b h = let same : (a == b) ≡ true = grind (arith, nat_tests) in ap one_if same

    first : (all one rest : ℕ) → all ≡ one + rest → one ≡ 1 → 1 ≤ all
    first all one rest h k = omega (arith, h, k)

one_among : (q : ℕ) (claim : Claim) (claims : List Claim) → 1 ≤ claims_count q claims → 1 ≤ claims_count q (claim ∷ claims)
one_among q claim claims h =
    more (claims_count q (claim ∷ claims)) (claim_count q claim) (claims_count q claims) (sum_by-cons (claim_count q) claim claims) h
  where
    more : (all one rest : ℕ) → all ≡ one + rest → 1 ≤ rest → 1 ≤ all
    more all one rest h k = omega (arith, h, k)

-- each is to a client that has one of the claims, and of which no call waits for its turn
pub replies_are_to : (P : ℕ → Type 0) (s : MasterState) (answer : CallResult) (claims : List Claim) → ((q : ℕ) → 1 ≤ claims_count q claims → has_call q s.gate.waiting ≡ false → P q) → AreTo P (replies_to s answer claims)
replies_are_to P s answer [] h = tt
replies_are_to P s answer (claim ∷ claims) h =
    all_append (λ (reply : Reply). P reply.client) (reply_to s answer claim.owner.client) (replies_to s answer claims)
    (reply_is_to P s answer claim.owner.client (h claim.owner.client (one_own claim.owner.client claim claims refl)))
    (replies_are_to P s answer claims (λ q k quiet. h q (one_among q claim claims k) quiet))

-- who got the lock, or can't get it any more
abbrev pub told_of : ℕ → Turn → ℕ
told_of q turn = claims_count q turn.granted + claims_count q turn.exhausted

pub turn_replies_are_to : (P : ℕ → Type 0) (s : MasterState) (turn : Turn) → ((q : ℕ) → 1 ≤ told_of q turn → has_call q s.gate.waiting ≡ false → P q) → AreTo P (turn_replies s turn)
turn_replies_are_to P s turn h =
    all_append (λ (reply : Reply). P reply.client) (replies_to s results.Done turn.granted) (replies_to s (results.Refused faults.Exhausted) turn.exhausted)
    (replies_are_to P s results.Done turn.granted (λ q k quiet. h q (left (claims_count q turn.granted) (claims_count q turn.exhausted) k) quiet))
    (replies_are_to P s (results.Refused faults.Exhausted) turn.exhausted (λ q k quiet. h q (right (claims_count q turn.granted) (claims_count q turn.exhausted) k) quiet))
  where
    left : (a b : ℕ) → 1 ≤ a → 1 ≤ a + b
    left a b h = omega (arith, h)

    right : (a b : ℕ) → 1 ≤ b → 1 ≤ a + b
    right a b h = omega (arith, h)

abbrev pub told_of_all : ℕ → List Lapse → ℕ
told_of_all q [] = 0
told_of_all q (lapse ∷ lapses) = told_of q lapse.turn + told_of_all q lapses

pub lapses_replies_are_to : (P : ℕ → Type 0) (s : MasterState) (lapses : List Lapse) → ((q : ℕ) → 1 ≤ told_of_all q lapses → has_call q s.gate.waiting ≡ false → P q) → AreTo P (lapses_replies s lapses)
lapses_replies_are_to P s [] h = tt
lapses_replies_are_to P s (lapse ∷ lapses) h =
    all_append (λ (reply : Reply). P reply.client) (turn_replies s lapse.turn) (lapses_replies s lapses)
    (turn_replies_are_to P s lapse.turn (λ q k quiet. h q (left (told_of q lapse.turn) (told_of_all q lapses) k) quiet))
    (lapses_replies_are_to P s lapses (λ q k quiet. h q (right (told_of q lapse.turn) (told_of_all q lapses) k) quiet))
  where
    left : (a b : ℕ) → 1 ≤ a → 1 ≤ a + b
    left a b h = omega (arith, h)

    right : (a b : ℕ) → 1 ≤ b → 1 ≤ a + b
    right a b h = omega (arith, h)

-- ---- they are kept

pub told_kept : (cell : List ℕ) (rows : Rows) (replies : List Reply) (s : MasterState) → AreTo (λ q. outstanding s q ≡ 0) replies → IsKept cell rows s → IsKept cell rows (told s replies)
told_kept cell rows [] s none k = k
told_kept cell rows (reply ∷ replies) s none k =
    told_kept cell rows replies (recorded s reply.client (answered_by reply)) none.1 (recorded_kept cell rows s reply.client (answered_by reply) none.0 k)
