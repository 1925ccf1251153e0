use Rattle.master_parts.proofs.Noted.{of_has, own_name, kept_name}
use Rattle.master_parts.proofs.candidates.Candidates.put.Goals as goal

pub returns-in-Ok-clause-own : goal.returns-in-Ok-clause-own
returns-in-Ok-clause-own c = λ k. own_name c.self.inside.names c.put.new.self c.args.name c.in-Ok.ensures.ok

pub returns-in-Ok-clause-kept : goal.returns-in-Ok-clause-kept
returns-in-Ok-clause-kept c = λ q h k. kept_name c.self.inside.names c.put.new.self c.args.name q c.in-Ok.ensures.ok (of_has (record { names = c.self.inside.names; known = c.self.inside.known; instances = c.self.inside.instances; placed = c.self.inside.placed }) c.args.self.now q c.self.view_is h k)
