use Rattle.std.proofs.Common.{take, map}
use Rattle.hosting.specs.declared.tellings.MasterFrame.TheVariants.{Touches}
use Rattle.hosting.specs.Replies.{Puts}
use Rattle.hosting.proofs.outputs.put_names.Given as goal

abbrev pub invariant-loop-name : goal.invariant-loop-name
invariant-loop-name l = Puts (map Touches (take l.name-index l.names)) l.fn.out.items l.out.items
