use Rattle.std.proofs.Common.{◌≡◌, List, sym, subst, rules}
use Rattle.std.specs.List.Sorted.{IsStrictlySortedBy}
use Rattle.std.specs.Map.{keys_of, remove_entry}
use Rattle.std.specs.BTreeMap.{is_at}
use Rattle.master_parts.specs.declared.handles.HandleKey.{HandleKey}
use Rattle.master_parts.specs.declared.listeners.ListenerPlace.{ListenerPlace}
use Rattle.master_parts.specs.Listeners.{seat_order, IsSeated}
use Rattle.master_parts.proofs.Seats.{seated_less}
use Rattle.master_parts.proofs.listeners.Listeners.remove_seat.Goals as goal

pub returns : goal.returns
returns c =
    let P : List (ListenerPlace × HandleKey) → Type 0 = λ l. IsStrictlySortedBy seat_order (keys_of l) in
    let sorted : P c.self.inside.seats = search rules in
    let removed : c.remove.new.self ≡ remove_entry (is_at (seat_order c.of.result)) c.self.inside.seats = search rules in
    λ s i q other h.
    let Q : List (ListenerPlace × HandleKey) → Type 0 = λ l. IsSeated l s i q in
    seated_less c.self.inside.seats c.remove.new.self c.args.instance c.args.subject c.of.result c.args.key.now removed c.of.ensures sorted s i q other (subst Q (sym c.self.view_is) h)
