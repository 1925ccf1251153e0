use Rattle.master_parts.proofs.Looked.{Looked}
use Rattle.master_parts.proofs.walks.candidates_of.Given as goal

abbrev pub invariant-loop-name : goal.invariant-loop-name
invariant-loop-name l = Looked l.nodes l.name-iterator l.candidates
