use Rattle.std.proofs.Common.{rules, ◌≡◌, ◌++◌, ◌+◌, ◌<◌, Some, drop, sym, ap, ◌∙◌}
use Rattle.cache_core.specs.Changes.{applied_all}
use Rattle.client_core.specs.State.{ClientState}
use Rattle.client_core.specs.Asks.{ask_step}
use Rattle.left_right.specs.Sides.{view}
use Rattle.node_core.specs.Limits.{number_end}
use Rattle.share_cell.specs.Owed.{ops_of}
use Rattle.share_cell.specs.declared.keeper.LateAnswer.TheVariants as kepts
use Rattle.share_cell.proofs.Owing.{led, owes_next}
use Rattle.share_cell.proofs.Refusing.{ask_stays, same_client, has_room, refused}
use Rattle.share_cell.proofs.keeper.Keeper.ask.Goals as goal

pub invariant_of-self : goal.invariant_of-self
invariant_of-self g c =
    let k = c.args.self.now in
    let same = same_client k.client c.ask.new.self c.in-Err.fault (ask_step k.client c.args.now c.args.asked.now) c.in-Err.ensures (ask_stays k.client c.args.now c.args.asked.now c.ask.new.self c.in-Err.fault) in
    record { counted = k.counted; last = k.last; owed = k.owed ∙ ap (λ (s : ClientState). s.cache) (sym same); placed = k.placed; room = k.room; on_time = k.on_time }

pub returns-in-Err : goal.returns-in-Err
returns-in-Err g c =
    let k = c.args.self.now in
    let below = c.if-self-ge-NUMBER_LIMIT.false in
    let free : k.published + 1 < number_end = search rules in
    let same = same_client k.client c.ask.new.self c.in-Err.fault (ask_step k.client c.args.now c.args.asked.now) c.in-Err.ensures (ask_stays k.client c.args.now c.args.asked.now c.ask.new.self c.in-Err.fault) in
    refused kepts.Asked k.client c.ask.new.self k.late (view k.writer.desk.place) c.in-Err.fault (ask_step k.client c.args.now c.args.asked.now) (has_room k.client (view k.writer.desk.place) k.published (ask_step k.client c.args.now c.args.asked.now) k.counted.0 free) c.in-Err.ensures same

pub invariant_of-self-2 : goal.invariant_of-self-2
invariant_of-self-2 g c =
    let k = c.args.self.now in
    let below = c.if-self-ge-NUMBER_LIMIT.false in
    let free : k.published + 1 < number_end = search rules in
    let shown = k.writer.desk.shown.value.cache in let pending = drop k.writer.behind k.writer.log.items in
    let leads = led k.client.cache c.in-Ok.ops.items c.ask.new.self c.in-Ok-ask.answer (ask_step k.client c.args.now c.args.asked.now) c.in-Ok.ensures c.in-Ok-ask.ensures in
    let bare = k.on_time c.requires.on_time in
    let rest : c.replace.new.dest ≡ c.in-Ok.ops = c.replace.ensures.after in
    let late : c.replace-2.new.dest ≡ Some (kepts.Asked c.in-Ok-ask.answer) = c.replace-2.ensures.after in
    record {
      counted = k.counted;
      last = k.last;
      owed = ap (λ d. applied_all shown (ops_of pending ++ d.items)) rest ∙ owes_next shown k.client.cache c.ask.new.self.cache pending k.rest.items c.in-Ok.ops.items bare.0 bare.1 k.owed leads;
      placed = k.placed;
      room = λ is. free;
      on_time = λ none. absurd (cc);
    }
