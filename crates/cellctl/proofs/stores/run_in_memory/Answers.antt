use Rattle.std.proofs.Common.{inl, inr}
use Rattle.cellctl.proofs.stores.run_in_memory.Goals as goal

pub returns-in-Ok-clause-ran : goal.returns-in-Ok-clause-ran
returns-in-Ok-clause-ran g c = inl c.in-Ok.ensures.ran

pub returns-in-Err-clause-ran : goal.returns-in-Err-clause-ran
returns-in-Err-clause-ran g c = inr (c.refused.ensures.shut, c.in-Err.ensures.none)
