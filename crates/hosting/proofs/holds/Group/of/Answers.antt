use Rattle.std.proofs.Common.{◌≡◌, subst, sym}
use Rattle.rows_cell.specs.Rows.{changed_rows}
use Rattle.rows_cell.specs.Stores.{Store}
use Rattle.master_state.specs.State.{MasterState}
use Rattle.over_core.specs.Kept.{IsKept}
use Rattle.over_core.specs.Sweep.{IsSettled}
use Rattle.hosting.specs.Held.{store_behind}
use Rattle.hosting.specs.Pieces.{HeldPieces, AreSound, AreTaken, all_held, all_pieces, no_pieces}
use Rattle.hosting.proofs.PieceLaws.{none_sound, none_taken}
use Rattle.hosting.proofs.holds.Group.of.Goals as goal

pub invariant_of-result : goal.invariant_of-result
invariant_of-result g c =
    let store = g.R.Records.store c.into_parts-master.result.1 in
    let master = c.into_parts-master.result.0 in
    let none : no_pieces c.args.limits ≡ c.new.result = sym c.new.ensures in
    let P : HeldPieces → Type 0 = λ h. IsKept store.cell (changed_rows store.rows (all_held h)) master in
    let Q : HeldPieces → Type 0 = λ h. IsSettled (store_behind store (all_held h)) in
    let V : HeldPieces → Type 0 = λ h. AreSound store.cell store.rows (all_pieces h) in
    let W : HeldPieces → Type 0 = λ h. AreTaken h.limits (all_pieces h) in
    let S : Store → Type 0 = λ s. IsSettled s in
    let T : Store → Type 0 = λ s. IsKept s.cell s.rows c.args.cell.master in
    let M : MasterState → Type 0 = λ m. IsKept store.cell store.rows m in
    let kept : IsKept store.cell store.rows master = subst M (sym c.into_parts-master.ensures.master) (subst T (sym c.into_parts-master.ensures.store) c.into_parts-master.ensures.kept) in
    record {
      kept = subst P none kept;
      settled = subst Q none (subst S (sym c.into_parts-master.ensures.store) c.requires);
      sound = subst V none (none_sound store.cell store.rows c.args.limits kept.sound_rows);
      taken = subst W none (none_taken c.args.limits);
    }
