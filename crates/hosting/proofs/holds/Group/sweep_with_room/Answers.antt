use Rattle.std.proofs.Common.{subst}
use Rattle.std.specs.Prelude.{OnOk}
use Rattle.over_core.specs.Sweep.{IsSwept, sweep_edits, sweep_frees}
use Rattle.hosting.specs.Held.{GroupState, seen}
use Rattle.hosting.specs.Pieces.{all_held}
use Rattle.hosting.proofs.HeldKept.{held_as, held_kept, held_settled, held_swept, left_as, pieces_sound, pieces_taken}
use Rattle.hosting.proofs.holds.Group.sweep_with_room.Goals as goal

pub invariant_of-self : goal.invariant_of-self
invariant_of-self g c =
    let store = g.R.Records.store c.self.inside.records in
    let edits = sweep_edits c.self.inside.master c.args.now in
    let was = c.self.inside.held in
    let held = held_as was c.sweep_held.new.held edits c.sweep_held.result c.sweep_held.ensures.held in
    let left = left_as was c.sweep_held.new.held c.self.inside.master c.sweep_held.new.cell c.sweep_held.result c.sweep_held.ensures.err in
    let kept =
    held_kept store (all_held was) (all_held c.sweep_held.new.held) c.self.inside.master c.sweep_held.new.cell c.args.now c.sweep_held.result c.self.invariant.kept c.self.invariant.settled c.sweep_held.ensures.ok held left in
    record {
      kept = kept;
      settled = held_settled store (all_held was) (all_held c.sweep_held.new.held) c.self.inside.master c.sweep_held.new.cell c.args.now c.sweep_held.result c.self.invariant.settled held left;
      sound = pieces_sound store.cell store.rows was c.sweep_held.new.held edits c.self.inside.master c.sweep_held.new.cell c.sweep_held.result c.self.invariant.sound c.sweep_held.ensures.held c.sweep_held.ensures.err kept;
      taken = pieces_taken was c.sweep_held.new.held c.self.inside.master c.sweep_held.new.cell c.args.now c.sweep_held.result c.self.invariant.taken c.sweep_held.ensures.held c.sweep_held.ensures.err;
    }

pub returns-clause-swept : goal.returns-clause-swept
returns-clause-swept g c =
    let new : GroupState = record { master = c.sweep_held.new.cell; store = g.R.Records.store c.self.inside.records; held = c.sweep_held.new.held } in
    let P : GroupState → Type 0 = λ s. OnOk c.sweep_held.result (IsSwept (sweep_frees s.master c.args.now) (sweep_edits s.master c.args.now) (seen s).store (seen new).store) in
    let held = held_as c.self.inside.held c.sweep_held.new.held (sweep_edits c.self.inside.master c.args.now) c.sweep_held.result c.sweep_held.ensures.held in
    subst P c.self.view_is (held_swept (g.R.Records.store c.self.inside.records) (all_held c.self.inside.held) (all_held c.sweep_held.new.held) c.self.inside.master c.args.now c.sweep_held.result c.self.invariant.settled held)
