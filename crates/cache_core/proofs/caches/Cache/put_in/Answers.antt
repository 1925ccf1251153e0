use Rattle.cache_core.proofs.Turns.{trimmed_over, trimmed_not}
use Rattle.cache_core.proofs.caches.Cache.put_in.Goals as goal

pub invariant_of-self : goal.invariant_of-self
invariant_of-self c = trimmed_over c.self.inside.held c.put.new.self c.remove_oldest.new.self c.args.name c.args.entry c.len.result c.self.invariant c.in-Ok.ensures.ok c.len.ensures c.if-len-gt-ENTRY_LIMIT.true c.remove_oldest.ensures

pub invariant_of-self-else-len-gt-ENTRY_LIMIT : goal.invariant_of-self-else-len-gt-ENTRY_LIMIT
invariant_of-self-else-len-gt-ENTRY_LIMIT c = trimmed_not c.self.inside.held c.put.new.self c.args.name c.args.entry c.len.result c.self.invariant c.in-Ok.ensures.ok c.len.ensures c.if-len-gt-ENTRY_LIMIT.false
