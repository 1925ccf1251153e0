use Rattle.std.proofs.Common.{◌≡◌, ◌-◌, ℕ, List, ap, sym, ◌∙◌}
use Rattle.std.specs.Prelude.{count_by}
use Rattle.std.specs.Str.{bytes_eq}
use Rattle.gate_core.specs.Filing.{count_in}
use Rattle.gate_core.proofs.Filed.{filed_more, filed_back}
use Rattle.gate_core.proofs.gate.Gate.file.Goals as goal

pub invariant_of-self-in-Ok : goal.invariant_of-self-in-Ok
invariant_of-self-in-Ok g c =
    (filed_more c.args.self.now c.self.inside.waiting c.put.new.self c.self.inside.touched c.add_all.new.self c.self.inside.pushed c.args.number c.args.change c.as_slice.result.now c.self.view_is c.requires
    (c.as_slice.ensures ∙ c.in_ok-names.ensures.cases) c.in-Ok.ensures.ok c.in_ok-add_all.ensures.ok c.self.invariant).0

pub returns-in-Ok-clause-ok : goal.returns-in-Ok-clause-ok
returns-in-Ok-clause-ok g c =
    (filed_more c.args.self.now c.self.inside.waiting c.put.new.self c.self.inside.touched c.add_all.new.self c.self.inside.pushed c.args.number c.args.change c.as_slice.result.now c.self.view_is c.requires
    (c.as_slice.ensures ∙ c.in_ok-names.ensures.cases) c.in-Ok.ensures.ok c.in_ok-add_all.ensures.ok c.self.invariant).1

pub invariant_of-self-in-Err : goal.invariant_of-self-in-Err
invariant_of-self-in-Err g c =
    let same : ◌≡◌ {A = List (List ℕ)} c.as_slice-in-Err.result.now c.as_slice.result.now = c.as_slice-in-Err.ensures ∙ sym c.as_slice.ensures in
    let less : (x : List ℕ) → count_in x c.remove_all.new.self ≡ count_in x c.add_all.new.self - count_by (bytes_eq x) c.as_slice.result.now = λ x.
    c.remove_all.ensures x ∙ ap (λ l. count_in x c.add_all.new.self - count_by (bytes_eq x) l) same in
    filed_back c.self.inside.waiting c.put.new.self c.self.inside.touched c.add_all.new.self c.remove_all.new.self c.self.inside.pushed c.as_slice.result.now c.in-Err.ensures.err c.in_ok-add_all.ensures.ok less c.self.invariant
