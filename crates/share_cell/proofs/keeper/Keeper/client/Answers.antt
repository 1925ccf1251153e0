use Rattle.std.proofs.Common.{rules, ◌≡◌, None, ◌<◌, length, drop, refl, arith}
use Rattle.left_right.specs.Sides.{view}
use Rattle.share_cell.proofs.Owing.{shows_same, shown_on_time}
use Rattle.share_cell.proofs.keeper.Keeper.client.Goals as goal

pub returns : goal.returns
returns c =
    let k = c.args.self.now in
    let none : k.late ≡ None = search rules in
    let bare = k.on_time none in
    let views = view k.writer.desk.place in
    let some : 0 < length views = let n = k.counted in omega arith in
    let same = shown_on_time k.writer.desk.shown.value.cache k.client.cache (drop k.writer.behind k.writer.log.items) k.rest.items bare.0 bare.1 k.owed in
    (none, refl, (shows_same views views k.writer.desk.shown.value.cache k.client.cache some k.last same refl).0)
