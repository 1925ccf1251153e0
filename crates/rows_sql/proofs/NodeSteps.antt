-- A put of a node in its statements.
use Rattle.std.proofs.Common.{◌≡◌, ℕ, Bool, false, List, [], ◌∷◌, None, Ok, Err, Result, sym, subst}
use Rattle.std.specs.Prelude.{MatchBool, IsTrue, OnOk}
use Rattle.sqlite.specs.State.{State}
use Rattle.sqlite.specs.Effect.{Database}
use Rattle.rows_cell.specs.declared.tables.Edit.{Edit}
use Rattle.node_core.specs.declared.nodes.Node.{Node}
use Rattle.rows_cell.specs.declared.tables.Edit.TheVariants.{PutNode}
use Rattle.rows_cell.specs.declared.tables.Rows.{Rows}
use Rattle.rows_cell.specs.Rows.{edited, stored_node}
use Rattle.rows_sql.specs.Held.{Says}
use Rattle.rows_sql.specs.Ready.{tables_of}
use Rattle.rows_sql.specs.Ongoing.{IsStore, IsSpared, Changed, Renews}

abbrev Outcome : List ℕ → Node → Bool → State → Rows → Type 0
Outcome name node is_there after rows = MatchBool is_there (Says (tables_of after.now.trees) (edited rows (PutNode name node))) ((stored_node rows.nodes name ≡ None) × Says (tables_of after.now.trees) rows)

-- it isn't there, and so it is added
pub node_put_anew : (name : List ℕ) (node : Node) (is_there : Bool) (a b c : State) → is_there ≡ false → Renews name node is_there a b → Changed (PutNode name node ∷ []) b c → Changed (PutNode name node ∷ []) a c
node_put_anew name node is_there a b c is renewed added = record {
  store = λ store. added.store (renewed.store store);
  says = λ store rows h. added.says (renewed.store store) rows (subst (λ it. Outcome name node it b rows) is (renewed.says store rows h)).1;
}

-- it was refused first, which spared what was there
pub put_after_refusal : {E : Type 0} (change : List Edit) (r : Result (Unit {0}) E) (a b c : State) → IsSpared a b → OnOk r (IsTrue b.in_transaction) → OnOk r (Changed change b c) → OnOk r (Changed change a c)
put_after_refusal change (Ok done) a b c spared inside changed =
    let same : b.now ≡ a.now = spared inside in
    let before : IsStore a.now → IsStore b.now = subst IsStore (sym same) in
    record {
      store = λ store. changed.store (before store);
      says = λ store rows h. changed.says (before store) rows (subst (λ (d : Database). Says (tables_of d.trees) rows) (sym same) h);
    }
put_after_refusal change (Err e) a b c spared inside changed = tt
