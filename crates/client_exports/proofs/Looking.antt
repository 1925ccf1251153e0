-- What is found by looking is what a read would be served with.
use Rattle.std.proofs.Common.{◌≡◌, ℕ, ◌+◌, max, Bool, true, false, cond, List, [], Option, Some, None, Result, Ok, Err, refl, sym, ap, ◌∙◌, subst}
use Rattle.std.specs.Prelude.{nat_lt, ◌==◌, ◌&&◌, not, is_some, is_none}
use Rattle.std.specs.Option.{option_map}
use Rattle.lease_core.specs.Lease.{moment_limit}
use Rattle.cache_core.specs.Caches.{CacheState, answer, is_leased, entry_of}
use Rattle.node_core.specs.Limits.{number_end}
use Rattle.node_core.specs.declared.refusals.Fault.{Fault}
use Rattle.node_core.specs.declared.refusals.Fault.TheVariants as faults
use Rattle.node_core.specs.declared.answers.Answer.TheVariants as answers
use Rattle.node_core.specs.declared.views.View.{View}
use Rattle.tags_cell.specs.declared.messages.calls.Call.{Call}
use Rattle.client_core.specs.declared.parts.asks.Ask.{Ask}
use Rattle.client_core.specs.declared.parts.asks.Ask.TheVariants as asks
use Rattle.client_core.specs.declared.parts.asks.AskOutcome.{AskOutcome}
use Rattle.client_core.specs.declared.parts.asks.NodeCall.TheVariants as nodes
use Rattle.client_core.specs.declared.parts.asks.Outcome.TheVariants as outcomes
use Rattle.client_core.specs.declared.parts.handles.ClientHandle.{ClientHandle}
use Rattle.client_core.specs.declared.parts.targets.Target.{Target}
use Rattle.client_core.specs.declared.parts.targets.Target.TheVariants as targets
use Rattle.client_core.specs.declared.plans.AskPlan.{AskPlan}
use Rattle.client_core.specs.declared.plans.AskPlan.TheVariants as plans
use Rattle.client_core.specs.Calls.{call_on}
use Rattle.client_core.specs.State.{ClientState, IsOff}
use Rattle.client_core.specs.Handles.{handle_of, usable_handle}
use Rattle.client_core.specs.Serves.{serve_answer, cached_served}
use Rattle.client_core.specs.Asks.{fault_then, send_plan, served_or, node_plan, with_call, message_of, asked_for, ask_by, ask_in, ask_at, ask_step}
use Rattle.client_exports.specs.States.{HeldState}
use Rattle.client_exports.specs.Steps.{asked}
use Rattle.client_exports.specs.Hits.{served_content, hit, readable, shown, found}

-- what the holder is served with by a step of its client
abbrev pub told : HeldState → ClientState × Result AskOutcome Fault → Option (List ℕ)
told held step = served_content (asked held step)

-- ---- after a plan

abbrev sent_read : ClientState → ℕ → ClientHandle → Result AskPlan Fault
sent_read s n h = send_plan s (call_on h.bytes nodes.Read) h.sequencer (targets.Handle n)

unserved : (held : HeldState) (s : ClientState) (m : ℕ) (call : Call) (sequencer : Option (List ℕ)) (target : Target) → told held (ask_by s m (send_plan s call sequencer target)) ≡ None
unserved held s m call sequencer target =
    elim (is_some s.outstanding) as (λ b. told held (ask_by s m (cond b (Err faults.CallOutstanding) (Ok (plans.Send call sequencer target)))) ≡ None) [
      | true ↦ refl
      | false ↦ elim (nat_lt (s.calls + 1) number_end)
          as (λ b. told held (cond b (with_call s m call sequencer target, Ok (asked_for [] (outcomes.Sent (message_of s call sequencer)))) (s, Err faults.Exhausted)) ≡ None)
          [ true ↦ refl | false ↦ refl ]
    ]

by_entry : (held : HeldState) (s : ClientState) (m n : ℕ) (h : ClientHandle) (entry : Option (Option View)) → told held (ask_by s m (served_or (cached_served s h nodes.Read entry) (sent_read s n h))) ≡ shown h entry
by_entry held s m n h None = unserved held s m (call_on h.bytes nodes.Read) h.sequencer (targets.Handle n)
by_entry held s m n h (Some None) = refl
by_entry held s m n h (Some (Some view)) =
    elim (view.node.instance == h.instance)
    as (λ b. told held (ask_by s m (served_or (option_map (serve_answer s h (Some view)) (Some (cond b (answers.Viewed view) (answers.Refused faults.StaleInstance)))) (sent_read s n h))) ≡ cond b (Some view.node.content) None)
    [ true ↦ refl | false ↦ refl ]

by_handle : (held : HeldState) (s : ClientState) (m n : ℕ) (h : ClientHandle) → told held (ask_by s m (node_plan s m n nodes.Read (usable_handle (Some h)))) ≡ found s.cache m (readable (Some h))
by_handle held s m n h =
    elim h.poisoned
    as (λ b. told held (ask_by s m (node_plan s m n nodes.Read (cond b (Err faults.Poisoned) (Ok h)))) ≡ found s.cache m (cond (not b && h.mode.read && is_none h.sequencer) (Some h) None)) [
      | true ↦ refl
      | false ↦ elim (h.mode.read && is_none h.sequencer)
          as (λ b. told held (ask_by s m (served_or (cond b (cached_served s h nodes.Read (answer s.cache m h.name)) None) (sent_read s n h))) ≡ found s.cache m (cond b (Some h) None))
          [ true ↦ by_entry held s m n h (answer s.cache m h.name) | false ↦ unserved held s m (call_on h.bytes nodes.Read) h.sequencer (targets.Handle n) ]
    ]

pub by_number : (held : HeldState) (s : ClientState) (m n : ℕ) (o : Option ClientHandle) → told held (ask_by s m (node_plan s m n nodes.Read (usable_handle o))) ≡ found s.cache m (readable o)
by_number held s m n None = refl
by_number held s m n (Some h) = by_handle held s m n h

-- ---- the time

abbrev pub read_of : ℕ → Ask
read_of n = asks.Node n nodes.Read

pub in_time : (held : HeldState) (now n : ℕ) → nat_lt now moment_limit ≡ true
    → hit held now n ≡ told held (ask_in held.client (max held.client.clock now) (read_of n) (cond (held.client.leaving && true) (Some faults.NoSession) (fault_then held.client (max held.client.clock now))))
unfolding ask_step
in_time held now n early = ap (λ b. told held (ask_at held.client (read_of n) (cond b (Ok (max held.client.clock now)) (Err faults.Exhausted)))) early

pub late : (held : HeldState) (now n : ℕ) → nat_lt now moment_limit ≡ false → hit held now n ≡ None
unfolding ask_step
late held now n h = ap (λ b. told held (ask_at held.client (read_of n) (cond b (Ok (max held.client.clock now)) (Err faults.Exhausted)))) h

-- by whether the end of the session was asked for
pub faulty : (held : HeldState) (m n : ℕ) (fault : Fault) (b : Bool) → told held (ask_in held.client m (read_of n) (cond (b && true) (Some faults.NoSession) (Some fault))) ≡ None
faulty held m n fault true = refl
faulty held m n fault false = refl

unsafe_by : (held : HeldState) (m n : ℕ) (fault : Option Fault) → is_none fault ≡ false
    → told held (ask_in held.client m (read_of n) (cond (held.client.leaving && true) (Some faults.NoSession) fault)) ≡ None
unsafe_by held m n None isnt = cc
unsafe_by held m n (Some fault) isnt = faulty held m n fault held.client.leaving

off_found : (cache : CacheState) (m : ℕ) (o : Option ClientHandle) → cache.enabled ≡ false → None ≡ found cache m o
off_found cache m None off = refl
off_found cache m (Some h) off = ap (λ b. shown h (cond (b && is_leased cache.lease m) (entry_of cache.entries h.name) None)) (sym off)

safe_by : (held : HeldState) (m n : ℕ) (b : Bool) → (b ≡ true → held.client.cache.enabled ≡ false)
    → told held (ask_in held.client m (read_of n) (cond (b && true) (Some faults.NoSession) None)) ≡ found held.client.cache m (readable (handle_of held.client.handles n))
safe_by held m n true off = off_found held.client.cache m (readable (handle_of held.client.handles n)) (off refl)
safe_by held m n false off = by_number held held.client m n (handle_of held.client.handles n)

safe_with : (held : HeldState) (m n : ℕ) (fault : Option Fault) → IsOff held.client → is_none fault ≡ true
    → told held (ask_in held.client m (read_of n) (cond (held.client.leaving && true) (Some faults.NoSession) fault)) ≡ found held.client.cache m (readable (handle_of held.client.handles n))
safe_with held m n None off is = safe_by held m n held.client.leaving off.shuts
safe_with held m n (Some fault) off is = cc

-- ---- the exits of a hit

pub too_late : (held : HeldState) (now n : ℕ) (early : Bool) → early ≡ nat_lt now moment_limit → early ≡ false → None ≡ hit held now n
too_late held now n early is isnt = sym (late held now n (sym is ∙ isnt))

not_safe_at : (held : HeldState) (now n : ℕ) → nat_lt now moment_limit ≡ true → is_none (fault_then held.client (max held.client.clock now)) ≡ false → None ≡ hit held now n
not_safe_at held now n early isnt =
    sym (in_time held now n early ∙ unsafe_by held (max held.client.clock now) n (fault_then held.client (max held.client.clock now)) isnt)

-- the time is noted by the client's clock
clock_of : (held : HeldState) (client : ClientState) (clock m now : ℕ) → client ≡ held.client → clock ≡ client.clock → m ≡ max clock now → m ≡ max held.client.clock now
clock_of held client clock m now same is noted = noted ∙ ap (λ t. max t now) (is ∙ ap (λ (s : ClientState). s.clock) same)

pub not_safe : (other held : HeldState) (client : ClientState) (clock m now n : ℕ) (early safe : Bool) → other ≡ held → client ≡ other.client → clock ≡ client.clock → m ≡ max clock now
    → early ≡ nat_lt now moment_limit → early ≡ true → safe ≡ is_none (fault_then client m) → safe ≡ false → None ≡ hit held now n
not_safe other held client clock m now n early safe view same is noted is_early holds is_safe isnt =
    let at : m ≡ max other.client.clock now = clock_of other client clock m now same is noted in
    let fault : is_none (fault_then other.client (max other.client.clock now)) ≡ false = sym (is_safe ∙ ap (λ (s : ClientState). is_none (fault_then s m)) same ∙ ap (λ t. is_none (fault_then other.client t)) at) ∙ isnt in
    subst (λ h. None ≡ hit h now n) view (not_safe_at other now n (sym is_early ∙ holds) fault)

safe_at : (held : HeldState) (now n : ℕ) → IsOff held.client → nat_lt now moment_limit ≡ true → is_none (fault_then held.client (max held.client.clock now)) ≡ true
    → found held.client.cache (max held.client.clock now) (readable (handle_of held.client.handles n)) ≡ hit held now n
safe_at held now n off early is =
    sym (in_time held now n early ∙ safe_with held (max held.client.clock now) n (fault_then held.client (max held.client.clock now)) off is)

pub finds : (other held : HeldState) (client : ClientState) (clock m now n : ℕ) (early safe : Bool) (handles : List (ℕ × ClientHandle)) (cache : CacheState) (handle : Option ClientHandle) (content : Option (List ℕ))
    → other ≡ held → client ≡ other.client → IsOff other.client → clock ≡ client.clock → m ≡ max clock now
    → early ≡ nat_lt now moment_limit → early ≡ true → safe ≡ is_none (fault_then client m) → safe ≡ true
    → handles ≡ client.handles → cache ≡ client.cache → handle ≡ readable (handle_of handles n) → content ≡ found cache m handle → content ≡ hit held now n
finds other held client clock m now n early safe handles cache handle content view same off is noted is_early holds is_safe safely of_handles of_cache is_handle is_content =
    let at : m ≡ max other.client.clock now = clock_of other client clock m now same is noted in
    let fault : is_none (fault_then other.client (max other.client.clock now)) ≡ true = sym (is_safe ∙ ap (λ (s : ClientState). is_none (fault_then s m)) same ∙ ap (λ t. is_none (fault_then other.client t)) at) ∙ safely in
    let its_cache : cache ≡ other.client.cache = of_cache ∙ ap (λ (s : ClientState). s.cache) same in
    let its_handles : handles ≡ other.client.handles = of_handles ∙ ap (λ (s : ClientState). s.handles) same in
    is_content
    ∙ ap (λ o. found cache m o) is_handle
    ∙ ap (λ (hs : List (ℕ × ClientHandle)). found cache m (readable (handle_of hs n))) its_handles
    ∙ ap (λ (c : CacheState). found c m (readable (handle_of other.client.handles n))) its_cache
    ∙ ap (λ t. found other.client.cache t (readable (handle_of other.client.handles n))) at
    ∙ safe_at other now n off (sym is_early ∙ holds) fault
    ∙ ap (λ (h : HeldState). hit h now n) view
