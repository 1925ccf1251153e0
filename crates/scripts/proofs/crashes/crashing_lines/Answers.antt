use Rattle.scripts.proofs.Doings.{wrote_kept}
use Rattle.scripts.proofs.Crashings.{part_none, part_more, all_done, parts_between, exit_part, exit_line}
use Rattle.scripts.proofs.crashes.crashing_lines.Goals as goal

pub loop-init : goal.loop-init
loop-init g c = part_none c.args.lines.now c.args.world.now _ _ c.requires c.new-delivered.ensures

pub returns-in_err-advance : goal.returns-in_err-advance
returns-in_err-advance g c =
    exit_part _ _ _ _ _ _ _ _ c.from_residual.result c.in_err-advance.field-0.0 c.from_residual.ensures (wrote_kept _ _ _ _ c.loop.invariant c.advance.ensures.kept)

pub returns-then-not-branch : goal.returns-then-not-branch
returns-then-not-branch g c =
    all_done _ _ _ c.advance.new.lines _ _ _ _ c.if-not-branch.true c.in_ok-advance.ensures.advances (wrote_kept _ _ _ _ c.loop.invariant c.advance.ensures.kept)

pub returns-in_err-run_or_crash : goal.returns-in_err-run_or_crash
returns-in_err-run_or_crash g c =
    exit_line _ _ _ _ _ _ _ _ _ _ _ c.from_residual-in_err-run_or_crash.result c.in_err-run_or_crash.field-0.0 c.from_residual-in_err-run_or_crash.ensures (wrote_kept _ _ _ _ c.loop.invariant c.advance.ensures.kept) c.in_err-run_or_crash.ensures

pub loop-preserved : goal.loop-preserved
loop-preserved g c =
    part_more _ _ _ c.advance.new.lines _ _ _ _ _ _ c.if-not-branch.false c.in_ok-advance.ensures.advances (wrote_kept _ _ _ _ c.loop.invariant c.advance.ensures.kept) c.in_ok-run_or_crash.ensures

pub returns : goal.returns
returns g c = parts_between _ _ _ _ _ _ _ c.loop.invariant
