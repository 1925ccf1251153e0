use Rattle.std.proofs.Common.{◌∷◌, []}
use Rattle.node_core.specs.declared.lines.Line.TheVariants as lines
use Rattle.scripts.specs.Settling.{played}
use Rattle.scripts.specs.Scripts.{told}
use Rattle.scripts.proofs.Doings.{wrote_refusal}
use Rattle.scripts.proofs.RunsOf.{step_begun, refusal_begun, exit_unwritten, exit_settle}
use Rattle.scripts.proofs.scripts.obey.Goals as goal

pub returns-in_err-write_answer-in-Step : goal.returns-in_err-write_answer-in-Step
returns-in_err-write_answer-in-Step g c =
    exit_unwritten _ _ _ _ c.from_residual.result c.in_err-write_answer-in-Step.field-0.0 (told c.play.result) c.from_residual.ensures c.in_err-write_answer-in-Step.ensures
    (step_begun c.args.parsed.now (played c.args.world.now c.args.delivered.now) _ c.in-Step.step c.play.result c.in-Step.is c.play.ensures.made c.play.ensures.refused)

pub returns-in_ok-write_refusal-in-Refused : goal.returns-in_ok-write_refusal-in-Refused
returns-in_ok-write_refusal-in-Refused g c =
    wrote_refusal (played c.args.world.now c.args.delivered.now) c.args.parsed.now c.in-Refused.fault _ _ c.in-Refused.is c.in_ok-write_refusal-in-Refused.ensures

pub returns-in_err-write_refusal-in-Refused : goal.returns-in_err-write_refusal-in-Refused
returns-in_err-write_refusal-in-Refused g c =
    exit_unwritten _ _ _ _ c.from_residual-in_err-write_refusal-in-Refused.result c.in_err-write_refusal-in-Refused.field-0.0 (lines.Refused c.in-Refused.fault ∷ []) c.from_residual-in_err-write_refusal-in-Refused.ensures c.in_err-write_refusal-in-Refused.ensures
    (refusal_begun c.args.parsed.now (played c.args.world.now c.args.delivered.now) c.in-Refused.fault c.in-Refused.is)

pub returns-in_err-settle-in-Settle : goal.returns-in_err-settle-in-Settle
returns-in_err-settle-in-Settle g c =
    exit_settle _ _ c.args.parsed.now (played c.args.world.now c.args.delivered.now) _ _ _ c.from_residual-in_err-settle-in-Settle.result c.in_err-settle-in-Settle.field-0.0 c.in-Settle.is c.from_residual-in_err-settle-in-Settle.ensures c.in_err-settle-in-Settle.ensures
