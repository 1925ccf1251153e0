use Rattle.std.proofs.Common.{◌≡◌, Some, None, sym, ap, ◌∙◌, rules}
use Rattle.std.specs.List.{slice_get}
use Rattle.scripts.proofs.Turns.{first_place}
use Rattle.scripts.proofs.deliveries.Deliveries.next.Goals as goal

pub returns-in-None : goal.returns-in-None
returns-in-None c =
    let none : slice_get c.args.messages.now c.self.inside.first ≡ None = search rules in
    rw (← c.self.view_is) (sym (first_place c.args.messages.now c.self.inside.marks.items c.self.inside.first None c.self.invariant none))

pub returns-in-Some : goal.returns-in-Some
returns-in-Some c =
    let there : slice_get c.args.messages.now c.self.inside.first ≡ Some c.in-Some.message.now = search rules in
    rw (← c.self.view_is) (ap (λ s. Some s) c.step_of.ensures ∙ sym (first_place c.args.messages.now c.self.inside.marks.items c.self.inside.first (Some c.in-Some.message.now) c.self.invariant there))
