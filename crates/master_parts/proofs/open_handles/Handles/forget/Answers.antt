use Rattle.std.proofs.Common.{refl, sym, ap, ◌∙◌}
use Rattle.master_parts.specs.OpenHandles.{is_shut}
use Rattle.master_parts.proofs.Forgotten.{shut_stays, one_gone}
use Rattle.master_parts.proofs.open_handles.Handles.forget.Goals as goal

pub returns-then-is_shut : goal.returns-then-is_shut
returns-then-is_shut c = shut_stays c.args.self.now c.args.self.now c.args.key.now (sym (ap is_shut c.get.ensures) ∙ sym c.is_shut.ensures ∙ c.if-is_shut.true) refl

pub returns : goal.returns
returns c =
    one_gone c.args.self.now c.settle.new.self c.args.key.now (sym (ap is_shut c.get.ensures) ∙ sym c.is_shut.ensures ∙ c.if-is_shut.false) c.len-count.ensures.ordered (c.settle.ensures ∙ c.take_out-former.ensures)
