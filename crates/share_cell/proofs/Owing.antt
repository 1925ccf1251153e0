-- What the steps that the writer has make of a copy.
use Rattle.std.proofs.Common.{◌≡◌, ◌≢◌, Option, None, Some, ℕ, inl, inr, append-nil, suc, ◌<◌, Result, Ok, List, [], ◌∷◌, ◌++◌, length, fold, refl, sym, ap, ◌∙◌, subst, arith}
use Rattle.cache_core.specs.Caches.{CacheState, new_cache}
use Rattle.cache_core.specs.Changes.{applied_all}
use Rattle.share_cell.specs.declared.side.Side.{Side}
use Rattle.share_cell.specs.declared.side.SideStep.{SideStep}
use Rattle.share_cell.specs.Stepped.{stepped}
use Rattle.share_cell.specs.Published.{EndsWith, Shows}
use Rattle.share_cell.specs.declared.keeper.LateAnswer.{LateAnswer}
use Rattle.node_core.specs.declared.refusals.Fault.{Fault}
use Rattle.client_core.specs.State.{ClientState}
use Rattle.client_core.specs.Ops.{LeadTo}
use Rattle.share_cell.specs.Keeping.{IsShown}
use Rattle.cache_core.specs.declared.changes.CacheOp.{CacheOp}
use Rattle.share_cell.specs.Owed.{newest, ops_of, AllPlaced}

pub cache_after : (s : Side) (ts : List SideStep) → (fold stepped s ts).cache ≡ applied_all s.cache (ops_of ts)
cache_after s [] = refl
cache_after s (t ∷ ts) = cache_after (stepped s t) ts

tail_placed : (n : ℕ) (t : SideStep) (ts : List SideStep) → AllPlaced n (t ∷ ts) → AllPlaced n ts
tail_placed n t ts h k d in_range = h (suc k) d (omega arith)

place_from : (n : ℕ) (s : Side) (ts : List SideStep) → s.place ≡ n → AllPlaced n ts → (fold stepped s ts).place ≡ n
place_from n s [] is h = is
place_from n s (t ∷ ts) is h = place_from n (stepped s t) ts (h 0 t (omega arith)) (tail_placed n t ts h)

pub place_after : (n : ℕ) (s : Side) (ts : List SideStep) → 0 < length ts → AllPlaced n ts → (fold stepped s ts).place ≡ n
place_after n s [] some h = absurd (omega arith)
place_after n s (t ∷ ts) some h = place_from n (stepped s t) ts (h 0 t (omega arith)) (tail_placed n t ts h)

newest_from : (a : CacheState) (v : List CacheState) (c : CacheState) → fold (λ _ c. c) a (v ++ c ∷ []) ≡ c
newest_from a [] c = refl
newest_from a (x ∷ xs) c = newest_from x xs c

pub newest_more : (v : List CacheState) (c : CacheState) → newest (v ++ c ∷ []) ≡ c
newest_more v c = newest_from new_cache v c

ends_from : (x : CacheState) (xs : List CacheState) → EndsWith (x ∷ xs) (fold (λ _ c. c) x xs)
ends_from x [] = ([], refl)
ends_from x (y ∷ ys) = let r = ends_from y ys in (x ∷ r.0, ap (λ l. x ∷ l) r.1)

pub ends_newest : (v : List CacheState) → 0 < length v → EndsWith v (newest v)
ends_newest [] some = absurd (omega arith)
ends_newest (x ∷ xs) some = ends_from x xs

pub none_there : {X : Type 0} (xs : List X) → ¬ (0 < length xs) → xs ≡ []
none_there [] not = refl
none_there (x ∷ xs) not = absurd (not (omega arith))

-- where no operation is owed, the copy that is shown is the client's
pub up_to_date : (shown client : CacheState) (ops : List CacheOp) → applied_all shown ops ≡ client → ops ≡ [] → shown ≡ client
up_to_date shown client ops owed none = ap (applied_all shown) (sym none) ∙ owed

pub shows_same : (v w : List CacheState) (shown client : CacheState) → 0 < length v → newest v ≡ shown → shown ≡ client → w ≡ v → Shows v client w
shows_same v w shown client some last same is = (subst (λ l. EndsWith l client) (sym is) (subst (EndsWith v) (last ∙ same) (ends_newest v some)), inl is)

pub shows_next : (v w : List CacheState) (shown client : CacheState) → w ≡ v ++ shown ∷ [] → shown ≡ client → Shows v client w
shows_next v w shown client is same = let e = is ∙ ap (λ c. v ++ c ∷ []) same in ((v, e), inr e)

-- a publish brings the copy up to the client
pub brought_up : (x y : Side) (ts : List SideStep) (rest : List CacheOp) (client : CacheState) → applied_all x.cache (ops_of ts ++ rest) ≡ client → rest ≡ [] → y ≡ fold stepped x ts → y.cache ≡ client
brought_up x y ts rest client owed none is =
    ap (λ (s : Side). s.cache) is ∙ cache_after x ts ∙ ap (applied_all x.cache) (sym (append-nil (ops_of ts)) ∙ ap (λ l. ops_of ts ++ l) (sym none)) ∙ owed

pub is_shown : (late : Option LateAnswer) (v : List CacheState) (c : CacheState) (w : List CacheState) → late ≢ None → Shows v c w → IsShown late v c w
is_shown None v c w late h = absurd (late refl)
is_shown (Some n) v c w late h = h

-- a step that isn't refused leads to the client's cache after it
pub led : {X : Type 0} (cache : CacheState) (ops : List CacheOp) (new : ClientState) (answer : X) (step : ClientState × Result X Fault) → LeadTo cache ops step → step ≡ (new, Ok answer) → applied_all cache ops ≡ new.cache
led cache ops new answer step h e = subst (LeadTo cache ops) e h

-- a keeper that isn't late owes nothing, so that it then owes the changes of the step alone
pub owes_next : (shown old new : CacheState) (pending : List SideStep) (rest ops : List CacheOp) → length pending ≡ 0 → length rest ≡ 0 → applied_all shown (ops_of pending ++ rest) ≡ old → applied_all old ops ≡ new → applied_all shown (ops_of pending ++ ops) ≡ new
owes_next shown old new [] [] ops none bare owed leads = ap (λ c. applied_all c ops) owed ∙ leads
owes_next shown old new [] (op ∷ rest) ops none bare owed leads = absurd (omega (arith, bare))
owes_next shown old new (step ∷ pending) rest ops none bare owed leads = absurd (omega (arith, none))

-- so what is shown is the client's
pub shown_on_time : (shown client : CacheState) (pending : List SideStep) (rest : List CacheOp) → length pending ≡ 0 → length rest ≡ 0 → applied_all shown (ops_of pending ++ rest) ≡ client → shown ≡ client
shown_on_time shown client [] [] none bare owed = owed
shown_on_time shown client [] (op ∷ rest) none bare owed = absurd (omega (arith, bare))
shown_on_time shown client (step ∷ pending) rest none bare owed = absurd (omega (arith, none))
