use Rattle.std.proofs.Common.{refl, sym, ap, ◌∙◌}
use Rattle.std.specs.Prelude.{◌==◌}
use Rattle.std.specs.List.{list_any, list_all}
use Rattle.std.specs.Str.{bytes_eq}
use Rattle.rights_core.specs.Rights.{held_on}
use Rattle.gate_core.specs.Waking.{is_listed, leads}
use Rattle.gate_core.proofs.Woken.{woken_push, woken_refused, others_back, other_back}
use Rattle.gate_core.proofs.queue.Queue.push.Goals as goal

pub invariant_of-self : goal.invariant_of-self
invariant_of-self g c =
    woken_refused c.self.inside.rights c.self.inside.gate c.self.inside.gate c.in_ok-number.number c.self.inside.free c.note.new.free c.self.inside.complete c.self.inside.leads c.note.new.by_name c.len-count.ensures.orderly (sym c.next_number.ensures ∙ c.in_ok-number.was) refl c.in_err-note.ensures.others
    (λ n o. ap (is_listed n) c.in_err-note.ensures.err) c.self.invariant

pub invariant_of-self-in-Ok : goal.invariant_of-self-in-Ok
invariant_of-self-in-Ok g c =
    woken_push c.self.inside.rights c.self.inside.gate c.push.new.self c.args.change c.as_slice.result.now c.in_ok-number.number c.self.inside.free c.note.new.free c.self.inside.complete c.self.inside.leads c.note.new.by_name (sym c.next_number.ensures ∙ c.in_ok-number.was) (c.as_slice.ensures ∙ c.in_ok-names.ensures.cases) c.in-Ok.ensures.ok c.in_ok-note.ensures.led c.in_ok-note.ensures.listed c.self.invariant

pub invariant_of-self-in-Err : goal.invariant_of-self-in-Err
invariant_of-self-in-Err g c =
    woken_refused c.self.inside.rights c.self.inside.gate c.push.new.self c.in_ok-number.number c.self.inside.free c.forget.new.free c.self.inside.complete c.self.inside.leads c.forget.new.by_name c.len-count.ensures.orderly (sym c.next_number.ensures ∙ c.in_ok-number.was) c.in-Err.ensures.err
    (λ x n o. others_back (list_any (bytes_eq x) c.as_slice-in-Err.result.now) (list_any (bytes_eq x) c.as_slice.result.now) (n == c.in_ok-number.number) (leads x n c.forget.new.by_name) (leads x n c.note.new.by_name) (leads x n c.self.inside.leads) (c.forget.ensures.led x n) (c.in_ok-note.ensures.led x n) o)
    (λ n o. other_back (list_all (λ x. held_on x c.self.inside.rights == 0) c.as_slice.result.now) (n == c.in_ok-number.number) (is_listed n c.forget.new.free) (is_listed n c.note.new.free) (is_listed n c.self.inside.free) (c.forget.ensures.listed n) (c.in_ok-note.ensures.listed n) o)
    c.self.invariant
