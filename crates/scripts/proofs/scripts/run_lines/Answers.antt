use Rattle.scripts.proofs.Doings.{part_none, part_more, wrote_kept}
use Rattle.scripts.proofs.RunsOf.{all_done, exit_unread, exit_broken, last_unread}
use Rattle.scripts.proofs.scripts.run_lines.Goals as goal

pub loop-init : goal.loop-init
loop-init g c = part_none c.args.lines.now c.args.world.now _ _ c.requires c.new-delivered.ensures

pub returns-in_err-advance : goal.returns-in_err-advance
returns-in_err-advance g c =
    exit_unread _ _ _ _ _ _ _ c.from_residual.result c.in_err-advance.field-0.0 c.from_residual.ensures c.in_err-advance.ensures.stopped (wrote_kept _ _ _ _ c.loop.invariant c.advance.ensures.kept)

pub returns-then-not-branch : goal.returns-then-not-branch
returns-then-not-branch g c =
    all_done _ _ _ c.advance.new.lines _ _ _ _ c.if-not-branch.true c.in_ok-advance.ensures.advances (wrote_kept _ _ _ _ c.loop.invariant c.advance.ensures.kept)

pub returns-in_err-run_told : goal.returns-in_err-run_told
returns-in_err-run_told g c =
    exit_broken _ _ c.advance.new.lines _ _ _ _ _ _ _ c.from_residual-in_err-run_told.result c.in_err-run_told.field-0.0 c.from_residual-in_err-run_told.ensures c.if-not-branch.false
    c.in_ok-advance.ensures.advances (wrote_kept _ _ _ _ c.loop.invariant c.advance.ensures.kept) c.in_err-run_told.ensures

pub loop-preserved : goal.loop-preserved
loop-preserved g c =
    part_more _ _ _ c.advance.new.lines _ _ _ _ _ _ c.if-not-branch.false c.in_ok-advance.ensures.advances (wrote_kept _ _ _ _ c.loop.invariant c.advance.ensures.kept) c.in_ok-run_told.ensures

pub returns : goal.returns
returns g c = last_unread _ _ _ _ _ _ _ _ _ c.number.ensures c.saturating_add.ensures c.loop.invariant
