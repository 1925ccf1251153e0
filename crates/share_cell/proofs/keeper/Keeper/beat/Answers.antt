use Rattle.std.proofs.Common.{rules, ◌+◌, ◌<◌, sym, ap, ◌∙◌}
use Rattle.client_core.specs.State.{ClientState}
use Rattle.client_core.specs.Beats.{beat_step}
use Rattle.left_right.specs.Sides.{view}
use Rattle.node_core.specs.Limits.{number_end}
use Rattle.share_cell.specs.declared.keeper.LateAnswer.TheVariants as kepts
use Rattle.share_cell.proofs.Refusing.{beat_stays, same_client, has_room, refused}
use Rattle.share_cell.proofs.keeper.Keeper.beat.Goals as goal

pub invariant_of-self : goal.invariant_of-self
invariant_of-self g c =
    let k = c.args.self.now in
    let same = same_client k.client c.beat.new.self c.in-Err.fault (beat_step k.client c.args.now) c.in-Err.ensures (beat_stays k.client c.args.now c.beat.new.self c.in-Err.fault) in
    record { counted = k.counted; last = k.last; owed = k.owed ∙ ap (λ (s : ClientState). s.cache) (sym same); placed = k.placed; room = k.room; on_time = k.on_time }

pub returns-in-Err : goal.returns-in-Err
returns-in-Err g c =
    let k = c.args.self.now in
    let below = c.if-self-ge-NUMBER_LIMIT.false in
    let free : k.published + 1 < number_end = search rules in
    let same = same_client k.client c.beat.new.self c.in-Err.fault (beat_step k.client c.args.now) c.in-Err.ensures (beat_stays k.client c.args.now c.beat.new.self c.in-Err.fault) in
    refused kepts.Beaten k.client c.beat.new.self k.late (view k.writer.desk.place) c.in-Err.fault (beat_step k.client c.args.now) (has_room k.client (view k.writer.desk.place) k.published (beat_step k.client c.args.now) k.counted.0 free) c.in-Err.ensures same
