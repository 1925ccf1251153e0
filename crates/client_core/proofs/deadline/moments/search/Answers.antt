use Rattle.client_core.proofs.Firsts.{end_found}
use Rattle.client_core.proofs.deadline.moments.search.Goals as goal

pub returns : goal.returns
returns c =
    let kept = c.loop-runs.invariant in
    end_found c.args.cache.now.lease c.args.from c.loop-runs.runs c.loop-runs.over kept.from kept.order kept.most kept.before kept.behind c.loop-runs-test.false
