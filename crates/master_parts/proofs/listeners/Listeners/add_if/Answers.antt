use Rattle.std.proofs.Common.{List, refl, sym, subst}
use Rattle.master_parts.specs.declared.handles.HandleKey.{HandleKey}
use Rattle.master_parts.specs.declared.listeners.ListenerPlace.{ListenerPlace}
use Rattle.master_parts.specs.Listeners.{IsSeated}
use Rattle.master_parts.proofs.Seats.{seated_more, seated_new}
use Rattle.master_parts.proofs.listeners.Listeners.add_if.Goals as goal

pub returns-in_ok-put-clause-own : goal.returns-in_ok-put-clause-own
returns-in_ok-put-clause-own c = λ asked. seated_new c.self.inside.seats c.put.new.self c.args.instance c.args.subject c.of.result c.args.key.now c.args.key.now c.in_ok-put.ensures.ok c.of.ensures refl

pub returns-in_ok-put-clause-kept : goal.returns-in_ok-put-clause-kept
returns-in_ok-put-clause-kept c = λ s i q h.
    let P : List (ListenerPlace × HandleKey) → Type 0 = λ l. IsSeated l s i q in
    seated_more c.self.inside.seats c.put.new.self c.args.instance c.args.subject c.of.result c.args.key.now c.args.key.now c.in_ok-put.ensures.ok c.of.ensures refl s i q (subst P (sym c.self.view_is) h)
