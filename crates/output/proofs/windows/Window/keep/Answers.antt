use Rattle.std.proofs.Common.{rules}
use Rattle.output.proofs.Rooms.{kept_more}
use Rattle.output.proofs.windows.Window.keep.Goals as goal

pub returns-clause-kept : goal.returns-clause-kept
returns-clause-kept c = kept_more 4096 c.args.self.now.count c.min-count.result c.args.self.now.room c.args.bytes.now _ (search rules) (search rules) (search rules) (search rules)
