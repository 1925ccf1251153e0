-- Replies to those that waited for a lock: none may be kept in a cache, and a slice shows nothing of them.
use Rattle.std.proofs.Common.{◌≡◌, ℕ, Bool, true, false, cond, List, [], ◌∷◌, ◌++◌, map, Option, Some, None, refl, ◌∙◌}
use Rattle.std.specs.Prelude.{◌&&◌, not, fold}
use Rattle.std.specs.Option.{option_map_or}
use Rattle.std.specs.List.{AllByRecursion}
use Rattle.node_core.specs.declared.refusals.Fault.TheVariants as faults
use Rattle.coherence.specs.Slice as one
use Rattle.tags_cell.specs.Numbers.{is_client_number}
use Rattle.tags_cell.specs.declared.messages.outs.Out.TheVariants as outs
use Rattle.tags_cell.specs.declared.messages.outs.CallResult.{CallResult}
use Rattle.tags_cell.specs.declared.messages.outs.CallResult.TheVariants as results
use Rattle.tags_cell.specs.declared.messages.outs.Reply.{Reply}
use Rattle.session_core.specs.declared.records.LastCall.{LastCall}
use Rattle.session_core.specs.Session.{keeping}
use Rattle.session_core.specs.Sessions.{SessionTable, session_of as session_in}
use Rattle.lock_core.specs.declared.claims.Claim.{Claim}
use Rattle.lock_core.specs.declared.turns.Lapse.{Lapse}
use Rattle.lock_core.specs.declared.turns.Turn.{Turn}
use Rattle.master_state.specs.declared.updates.KeptPut.{KeptPut}
use Rattle.master_state.specs.State.{MasterState}
use Rattle.master_state.specs.Lookups.{kept_of, reply_of}
use Rattle.master_state.specs.CallsWaiting.{has_call}
use Rattle.master_state.specs.Updates.{with_kept_put}
use Rattle.master_state.specs.Replies.{sent, reply_to, replies_to, turn_replies}
use Rattle.master_state.specs.Lapses.{lapses_replies}
use Rattle.world_steps.specs.declared.mail.Message.TheVariants.{ToClient}
use Rattle.world_cell.specs.Slices.{GrantsSoFar, seen_of, put_offer, grant_of}
use Rattle.world_cell.proofs.GrantsSent.{unstamped, granted_by}
use Rattle.world_cell.proofs.Slices.{lease_stays, seen_stays}

-- ---- which may not be kept

abbrev pub AreUnstamped : List Reply → Type 0
AreUnstamped replies = AllByRecursion (λ reply. reply.stamp ≡ None) replies

unstamped_both : (replies others : List Reply) → AreUnstamped replies → AreUnstamped others → AreUnstamped (replies ++ others)
unstamped_both [] others h k = k
unstamped_both (reply ∷ replies) others h k = (h.0, unstamped_both replies others h.1 k)

one_unstamped : (s : MasterState) (answer : CallResult) (client : ℕ) (b : Bool) (o : Option (LastCall Reply)) → AreUnstamped (cond b (option_map_or (λ kept. reply_of s client kept.number answer ∷ []) o []) [])
one_unstamped s answer client true None = tt
one_unstamped s answer client true (Some kept) = (refl, tt)
one_unstamped s answer client false o = tt

pub waiters_unstamped : (s : MasterState) (answer : CallResult) (claims : List Claim) → AreUnstamped (replies_to s answer claims)
waiters_unstamped s answer [] = tt
waiters_unstamped s answer (claim ∷ claims) =
    unstamped_both (reply_to s answer claim.owner.client) (replies_to s answer claims)
    (one_unstamped s answer claim.owner.client (is_client_number claim.owner.client && not (has_call claim.owner.client s.gate.waiting)) (kept_of s claim.owner.client)) (waiters_unstamped s answer claims)

pub application_unstamped : (s : MasterState) (turn : Turn) → AreUnstamped (turn_replies s turn)
application_unstamped s turn =
    unstamped_both (replies_to s results.Done turn.granted) (replies_to s (results.Refused faults.Exhausted) turn.exhausted)
    (waiters_unstamped s results.Done turn.granted) (waiters_unstamped s (results.Refused faults.Exhausted) turn.exhausted)

pub lapses_unstamped : (s : MasterState) (lapses : List Lapse) → AreUnstamped (lapses_replies s lapses)
lapses_unstamped s [] = tt
lapses_unstamped s (lapse ∷ lapses) = unstamped_both (turn_replies s lapse.turn) (lapses_replies s lapses) (application_unstamped s lapse.turn) (lapses_unstamped s lapses)

-- ---- what is sent

pub replies_offer_none : (c : ℕ) (x : List ℕ) (offers : List one.Offer) (replies : List Reply) → fold (put_offer c x) offers (map ToClient (sent replies)) ≡ offers
replies_offer_none c x offers [] = refl
replies_offer_none c x offers (reply ∷ replies) = replies_offer_none c x offers replies

pub replies_grant_none : (c : ℕ) (x secret : List ℕ) (granted : GrantsSoFar) (replies : List Reply) → AreUnstamped replies → (granted_by c x secret granted (map ToClient (sent replies))).grants ≡ granted.grants
replies_grant_none c x secret granted [] h = refl
replies_grant_none c x secret granted (reply ∷ replies) h =
    replies_grant_none c x secret (record { before = granted.before ++ ToClient (outs.Reply reply) ∷ []; grants = grant_of c x secret granted.before (outs.Reply reply) granted.grants }) replies h.1
    ∙ unstamped c x secret granted.before reply granted.grants h.0

-- ---- what is kept

pub told_lease : (sessions : SessionTable Reply) (puts : List KeptPut) → (fold with_kept_put sessions puts).lease ≡ sessions.lease
told_lease sessions [] = refl
told_lease sessions (put ∷ puts) = told_lease (with_kept_put sessions put) puts ∙ lease_stays sessions put.client (keeping put.kept)

pub told_seen : (sessions : SessionTable Reply) (puts : List KeptPut) (c : ℕ) → seen_of (session_in (fold with_kept_put sessions puts) c) ≡ seen_of (session_in sessions c)
told_seen sessions [] c = refl
told_seen sessions (put ∷ puts) c = told_seen (with_kept_put sessions put) puts c ∙ seen_stays (keeping put.kept) (λ session. refl) sessions put.client c
