use Rattle.std.proofs.Common.{sym, ◌∙◌}
use Rattle.client_core.proofs.Firsts.{next_start, next_live, no_beat}
use Rattle.client_core.proofs.deadline.beats.next_beat.Goals as goal

pub returns-in-Unstarted : goal.returns-in-Unstarted
returns-in-Unstarted c =
    let seen = c.seen-seen.ensures in
    next_start c.args.client.now c.seen-seen.result.beats c.seen-seen.result.clock _ (sym seen.session ∙ c.in-Unstarted.is) seen.beats seen.clock c.now_or_never.ensures

pub returns-in-Live : goal.returns-in-Live
returns-in-Live c =
    let seen = c.seen-seen.ensures in
    next_live c.args.client.now c.seen-seen.result.standing c.seen-seen.result.beats c.seen-seen.result.clock _ (sym seen.session ∙ c.in-Live.is) seen.standing seen.beats seen.clock c.in_session.ensures

pub returns-in-Lost : goal.returns-in-Lost
returns-in-Lost c = no_beat c.args.client.now c.seen-seen.result.session c.seen-seen.ensures.session c.in-Lost.is
