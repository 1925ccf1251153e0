use Rattle.std.proofs.Common.{◌≡◌, ◌≤◌, ◌+◌, None, refl, Bool, false, [], ◌∷◌, ◌++◌, List, not, rules, sym, ap, ◌∙◌, subst}
use Rattle.node_core.specs.Limits.{number_limit}
use Rattle.sqlite.specs.Held.{state}
use Rattle.rows_cell.specs.Rows.{changed_rows}
use Rattle.rows_cell.specs.declared.tables.Rows.{Rows}
use Rattle.rows_cell.specs.declared.tables.Edit.{Edit}
use Rattle.rows_sql.specs.Keeping.{Stood, stood, Keeps}
use Rattle.rows_sql.specs.Known.{HasNext}
use Rattle.rows_sql.proofs.Keepings.{keeps_tried, keeps_committed, none_kept}
use Rattle.rows_sql.proofs.NextKnown.{next_unknown}
use Rattle.rows_sql.proofs.records.SqlRecordsRecords.commit.Goals as goal

pub invariant_of-self-then-not-is_committed : goal.invariant_of-self-then-not-is_committed
invariant_of-self-then-not-is_committed g c =
    let old = c.self.inside.conn in
    let st = stood c.self.inside.past.items in
    let room : c.self.inside.refusals + 1 ≤ number_limit = search rules in
    let keeps = subst (λ (b : Bool). Keeps (state g.S.Store old) b st.rows st.left) c.if-self.false c.self.invariant.0 in
    let same : changed_rows st.rows c.needed.result.now ≡ changed_rows st.rows c.args.change.now = c.needed.ensures st.rows c.self.invariant.3 ∙ ap (changed_rows st.rows) c.as_slice-edits.ensures in
    let tried = keeps_tried g.S.Store old c.is_committed.new.conn st.rows st.left keeps c.needed.result.now c.goes_on.result c.goes_on.new.conn c.is_committed.ensures.survives (λ clean. c.is_committed.ensures.kept clean c.if-not-is_committed.true) c.goes_on.ensures in
    let kept = subst (λ (r : Rows). Keeps (state g.S.Store c.goes_on.new.conn) (not c.goes_on.result) st.rows (st.left ++ r ∷ [])) same tried in
    (subst (λ (t : Stood). Keeps (state g.S.Store c.goes_on.new.conn) (not c.goes_on.result) t.rows t.left) (sym c.noted-self-inside.ensures) kept, room, none_kept None _ refl, next_unknown (stood c.noted-self-inside.result.items).rows None refl)

pub invariant_of-self-2 : goal.invariant_of-self-2
invariant_of-self-2 g c =
    let old = c.self.inside.conn in
    let new = c.is_committed.new.conn in
    let st = stood c.self.inside.past.items in
    let change = c.args.change.now in
    let keeps = subst (λ (b : Bool). Keeps (state g.S.Store old) b st.rows st.left) c.if-self.false c.self.invariant.0 in
    let same : changed_rows st.rows c.needed.result.now ≡ changed_rows st.rows change = c.needed.ensures st.rows c.self.invariant.3 ∙ ap (changed_rows st.rows) c.as_slice-edits.ensures in
    let done = keeps_committed g.S.Store old new st.rows st.left keeps c.needed.result.now c.is_committed.ensures.ended c.is_committed.ensures.survives (λ clean. c.is_committed.ensures.done clean c.if-not-is_committed.false) (λ db o m. g.met.S.Store.settled new.store db o m) in
    let kept = subst (λ (r : Rows). Keeps (state g.S.Store new) false r (r ∷ [])) same done in
    let next : HasNext (changed_rows st.rows change) c.next_after-self-inside.result = subst (λ (es : List Edit). HasNext (changed_rows st.rows es) c.next_after-self-inside.result) c.as_slice-edits.ensures (c.next_after-self-inside.ensures st.rows c.self.invariant.3) in
    let open_still = subst (λ (b : Bool). Keeps (state g.S.Store new) b (changed_rows st.rows change) (changed_rows st.rows change ∷ [])) (sym c.if-self.false) kept in
    (subst (λ (t : Stood). Keeps (state g.S.Store new) c.self.inside.is_shut t.rows t.left) (sym c.noted-self-inside-2.ensures) open_still, c.self.invariant.1, none_kept None _ refl, subst (λ (t : Stood). HasNext t.rows c.next_after-self-inside.result) (sym c.noted-self-inside-2.ensures) next)
