use Rattle.hosting.specs.declared.answers.Answered.TheVariants.{Taken}
use Rattle.hosting.specs.Replies.{step_told, settled_told}
use Rattle.hosting.proofs.Streaming.{then_puts, step_at, same_answer}
use Rattle.hosting.proofs.outputs.put_answered.Goals as goal

pub returns-in_ok-put_step-in-Taken : goal.returns-in_ok-put_step-in-Taken
returns-in_ok-put_step-in-Taken c =
    same_answer _ _ (Taken c.in-Taken.taken c.in-Taken.settled) _ _ c.in-Taken.is (
    then_puts _ (step_told c.in-Taken.taken.lines c.in-Taken.taken.outs) (settled_told c.in-Taken.settled) _ _ _
    (step_at _ _ _ _ _ _ c.as_slice.ensures c.as_slice-in-Taken.ensures c.in_ok-put_step-in-Taken.ensures) c.put_settled.ensures
    )
