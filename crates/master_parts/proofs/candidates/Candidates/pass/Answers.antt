use Rattle.std.proofs.Common.{rules}
use Rattle.std.specs.List.Sorted.{IsStrictlySortedBy}
use Rattle.std.specs.Map.{keys_of}
use Rattle.std.specs.Cmp.Lexicographic.{slice_cmp}
use Rattle.std.specs.Ordering.{nat_cmp}
use Rattle.master_parts.specs.EphemeralNames.{NameTable}
use Rattle.master_parts.proofs.Noted.{of_has, other_name}
use Rattle.master_parts.proofs.candidates.Candidates.pass.Goals as goal

pub returns-clause-kept : goal.returns-clause-kept
returns-clause-kept c = λ q apart h k.
    let P : NameTable → Type 0 = λ l. IsStrictlySortedBy (slice_cmp nat_cmp) (keys_of l) in
    let sorted : P c.self.inside.names = search rules in
    other_name c.self.inside.names c.remove.new.self c.args.name.now q sorted c.remove.ensures.removed apart (of_has (record { names = c.self.inside.names; known = c.self.inside.known; instances = c.self.inside.instances; placed = c.self.inside.placed }) c.args.self.now q c.self.view_is h k)
