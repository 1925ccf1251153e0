use Rattle.std.proofs.Common.{subst}
use Rattle.hosting.specs.Held.{GroupState}
use Rattle.hosting.specs.Pieces.{IsCutShort, all_held, all_pieces}
use Rattle.hosting.proofs.HeldBack.{settled_then}
use Rattle.hosting.proofs.HeldKept.{committed_kept}
use Rattle.hosting.proofs.PieceLaws.{each_committed}
use Rattle.hosting.proofs.holds.Group.commit.Goals as goal

pub of_parts-requires-clause-kept : goal.of_parts-requires-clause-kept
of_parts-requires-clause-kept g c =
    let old = g.R.Records.store c.self.inside.records in
    let new = g.R.Records.store c.commit.new.records in
    committed_kept old new (all_held c.self.inside.held) c.self.inside.master (each_committed (all_pieces c.self.inside.held) old new c.in-Ok.ensures.ok) c.self.invariant.kept

pub of_parts-requires-clause-settled : goal.of_parts-requires-clause-settled
of_parts-requires-clause-settled g c =
    let old = g.R.Records.store c.self.inside.records in
    let new = g.R.Records.store c.commit.new.records in
    settled_then (all_held c.self.inside.held) old new (each_committed (all_pieces c.self.inside.held) old new c.in-Ok.ensures.ok) c.self.invariant.settled

pub returns-in-Err-clause-refused : goal.returns-in-Err-clause-refused
returns-in-Err-clause-refused g c =
    let P : GroupState → Type 0 = λ s. IsCutShort c.in-Err.fault (all_pieces s.held) s.store (g.R.Records.store c.commit.new.records) in
    subst P c.self.view_is c.in-Err.ensures.err
