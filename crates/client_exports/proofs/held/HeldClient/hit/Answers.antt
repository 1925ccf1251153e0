use Rattle.client_exports.proofs.Looking.{too_late, not_safe, finds}
use Rattle.client_exports.proofs.held.HeldClient.hit.Goals as goal

pub returns-then-not-is_moment : goal.returns-then-not-is_moment
returns-then-not-is_moment c = too_late c.args.self.now c.args.now c.args.number c.is_moment.result c.is_moment.ensures c.if-not-is_moment.true

pub returns-then-not-is_safe : goal.returns-then-not-is_safe
returns-then-not-is_safe c =
    not_safe _ c.args.self.now c.get-client.result.now c.seen-seen.result.clock c.max-moment.result c.args.now c.args.number c.is_moment.result c.is_safe.result c.self.view_is c.get-client.ensures.same
    c.seen-seen.ensures.clock c.max-moment.ensures c.is_moment.ensures c.if-not-is_moment.false c.is_safe.ensures c.if-not-is_safe.true

pub returns : goal.returns
returns c =
    finds _ c.args.self.now c.get-client.result.now c.seen-seen.result.clock c.max-moment.result c.args.now c.args.number c.is_moment.result c.is_safe.result _ _ _ _ c.self.view_is c.get-client.ensures.same
    c.get-client.ensures.off c.seen-seen.ensures.clock c.max-moment.ensures c.is_moment.ensures c.if-not-is_moment.false c.is_safe.ensures c.if-not-is_safe.false
    c.seen-seen.ensures.handles c.seen-seen.ensures.cache c.readable.ensures c.found.ensures
