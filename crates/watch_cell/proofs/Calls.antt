-- What a call on what lies under the lock shows of it, and what a pass notes.
use Rattle.std.proofs.Common.{◌≡◌, ◌⊎◌, inl, inr, ℕ, ◌+◌, ◌<◌, ◌≤◌, List, [], ◌∷◌, ◌++◌, length, reverse, Bool, Result, Ok, Err, refl, sym, ap, ◌∙◌, subst, arith, append_assoc}
use Rattle.std.specs.Prelude.{count_by, IfOk, IfErr, OnOk}
use Rattle.std.proofs.lemmas.List.{reverse-append}
use Rattle.node_core.specs.declared.lines.Line.{Line}
use Rattle.node_core.specs.declared.refusals.Fault.{Fault}
use Rattle.rights_core.specs.Grants.{is_granted_line, is_acked_line, is_expired_line}
use Rattle.watch_cell.specs.declared.events.WatchEvent.{WatchEvent}
use Rattle.watch_cell.specs.Views.{WatchedState, Ticket, Hand, Desk}
use Rattle.watch_cell.specs.Trail.{Lies, Served, Calls, CallRefuses, IsCallRefused, Retires, told_in, hand_of}

pub calls_so : (opening : WatchedState) (old new : Desk) (before after : Hand) (event : WatchEvent) (r : Result Ticket Fault) → Lies opening old → Lies opening new → IfOk r (λ t. Served old new before after event t) → IfOk r (λ t. Calls opening before after event t)
calls_so opening old new before after event (Ok t) h k s = (old, new, h, k, s)
calls_so opening old new before after event (Err e) h k s = tt

pub refused_so : (opening : WatchedState) (old new : Desk) (event : WatchEvent) (r : Result Ticket Fault) → Lies opening old → Lies opening new → IfErr r (λ e. CallRefuses old new event e) → IfErr r (λ e. IsCallRefused opening event e)
refused_so opening old new event (Ok t) h k s = tt
refused_so opening old new event (Err e) h k s = (old, new, h, k, s)

pub retires_so : {X Y : Type 0} (opening : WatchedState) (old new : Desk) (pass : Hand) (r : Result X Y) → Lies opening old → Lies opening new → OnOk r (new ≡ record old { retired = old.retired ++ pass ∷ [] }) → OnOk r (Retires opening pass)
retires_so opening old new pass (Ok t) h k s = (old, new, h, k, s)
retires_so opening old new pass (Err e) h k s = tt

-- one more receipt
pub told_more : (test : Line → Bool) (ts : List Ticket) (t : Ticket) → told_in test (ts ++ t ∷ []) ≡ told_in test ts + count_by test t.reply.lines
told_more test [] t = omega arith
told_more test (x ∷ ts) t = omega (arith, told_more test ts t)

-- the share that rises by what the lines of a receipt tell
pub told_after : (test : Line → Bool) (ts ts' : List Ticket) (t : Ticket) (lines : List Line) (a a' n : ℕ) → a ≡ told_in test ts → a' ≡ a + n → n ≡ count_by test lines → lines ≡ t.reply.lines → ts' ≡ ts ++ t ∷ [] → a' ≡ told_in test ts'
told_after test ts ts' t lines a a' n old new count same more =
    let c : n ≡ count_by test t.reply.lines = count ∙ ap (count_by test) same in omega (arith, told_more test ts t, ap (told_in test) more)

-- a pass is what its receipts tell
pub hand_is : (number issued acknowledged expired calls : ℕ) (receipts : List Ticket) (x : Hand) → ◌≡◌ {A = Hand} (record { number = number; issued = issued; acknowledged = acknowledged; expired = expired; calls = calls; receipts = receipts }) x → calls ≡ length receipts → issued ≡ told_in is_granted_line receipts → acknowledged ≡ told_in is_acked_line receipts → expired ≡ told_in is_expired_line receipts → hand_of number receipts ≡ x
hand_is number issued acknowledged expired calls receipts x is tc ti ta te = subst (λ (w : Hand). w ≡ x) (rw (tc, ti, ta, te) refl) is

-- the last of some passes goes to a list that is turned round in the end
pub spent_step : (xs ys all ss ss' : List Hand) (x s : Hand) → xs ≡ ys ++ x ∷ [] → ss' ≡ ss ++ s ∷ [] → s ≡ x → xs ++ reverse ss ≡ all → ys ++ reverse ss' ≡ all
spent_step xs ys all ss ss' x s is more same inv =
    let turned : reverse ss' ≡ x ∷ reverse ss = ap reverse more ∙ reverse-append ss (s ∷ []) ∙ ap (λ w. w ∷ reverse ss) same in
    ap (λ w. ys ++ w) turned ∙ sym (append_assoc ys (x ∷ []) (reverse ss)) ∙ ap (λ w. w ++ reverse ss) (sym is) ∙ inv
