use Rattle.std.proofs.Common.{◌≡◌, ℕ, ◌+◌, length, List, [], ◌∷◌, get_or, ap, subst, arith}
use Rattle.tags_cell.specs.declared.messages.beats.NumberedEvent.{NumberedEvent}
use Rattle.client_core.specs.Events.{last_event}
use Rattle.client_core.proofs.parts.events.last_event.Goals as goal

number_behind : (first : NumberedEvent) (others : List NumberedEvent) (last : NumberedEvent) → last ≡ get_or (first ∷ others) (length others) last → last.number ≡ last_event first.number others
number_behind first [] last is = ap (λ (x : NumberedEvent). x.number) is
number_behind first (next ∷ others) last is = number_behind next others last is

number_of_last : (all : List NumberedEvent) (at : ℕ) (last : NumberedEvent) → at + 1 ≡ length all → last ≡ get_or all at last → last.number ≡ last_event 0 all
number_of_last [] at last end is = absurd (omega (arith, end))
number_of_last (first ∷ others) at last end is =
    let behind : at ≡ length others = omega (arith, end) in
    number_behind first others last (subst (λ k. last ≡ get_or (first ∷ others) k last) behind is)

pub returns-in-len1-up : goal.returns-in-len1-up
returns-in-len1-up c = number_of_last c.args.events.now _ c.last-item.result (omega (arith, c.in-len1-up.len_at_least)) c.last-item.is
