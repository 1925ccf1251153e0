use Rattle.std.proofs.Common.{refl, arith}
use Rattle.over_core.proofs.Later.{after_of, ordered}
use Rattle.over_core.proofs.deadlines.search.Goals as goal

pub returns-clause-after : goal.returns-clause-after
returns-clause-after c =
    let kept = c.loop-quiet.invariant in
    after_of c.args.cell.now c.args.now c.loop-quiet.quiet c.loop-quiet.busy kept.from kept.order kept.most kept.before kept.behind c.loop-quiet-test.false

pub loop-quiet-init : goal.loop-quiet-init
loop-quiet-init c =
    let asked = c.requires in
    record {
      from = asked.quiet.later;
      order = ordered c.args.cell.now c.args.from c.args.until asked.quiet.quiet asked.busy.1;
      most = omega (arith, asked.busy.0);
      before = asked.quiet.quiet;
      behind = asked.busy.1;
      same = refl;
    }
