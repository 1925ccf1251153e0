-- Tables in another order say the same rows.
use Rattle.std.proofs.Common.{◌≡◌, ◌↔◌, ap, Bool, false, List, [], ◌∷◌, map, Option, Some, Result, Ok, Err, IfOk, IsTrue, sym, ◌∙◌, subst, true≢false}
use Rattle.std.specs.List.Sorted.{IsPermutation}
use Rattle.std.specs.Ordering.{nat_cmp}
use Rattle.std.specs.Cmp.Lexicographic.{slice_cmp}
use Rattle.std.proofs.lemmas.Cmp.{nat_cmp_total, nat_list_cmp_total}
use Rattle.std.proofs.lemmas.List.Sorted.{IsPermutation-sym, IsPermutation-map}
use Rattle.sqlite.proofs.Callers.{one_permutation}
use Rattle.sqlite_value.specs.Order.{Row}
use Rattle.rows_cell.specs.Keys.{lock_order}
use Rattle.rows_cell.specs.declared.tables.Rows.{Rows}
use Rattle.rows_sql.specs.declared.reading.stored.Meta.{Meta}
use Rattle.rows_sql.specs.declared.schema.ours.Version.{Version}
use Rattle.rows_sql.specs.Children.{Parents, children_for}
use Rattle.rows_sql.specs.Decode.{meta_as, node_in, session_in, lock_in, child_in}
use Rattle.rows_sql.specs.Held.{Tables, HoldsChildren, IsRead, IsFour, SaysWith, SaysAs}
use Rattle.rows_sql.specs.Ready.{AreOf}
use Rattle.rows_sql.proofs.Held.{holds_permuted, one_held}
use Rattle.rows_sql.proofs.ReadLoops.{locks_total}

metas_permuted : (version : Version) (xs ys : List Row) (m : Meta) → IsPermutation xs ys → map (meta_as version) xs ≡ Some m ∷ [] → map (meta_as version) ys ≡ Some m ∷ []
metas_permuted version xs ys m p is = one_permutation (Some m) (map (meta_as version) ys) (subst (λ l. IsPermutation l (map (meta_as version) ys)) is (IsPermutation-map (meta_as version) xs ys p))

pub says_read : (version : Version) (tables read : Tables) (rows : Rows) (children : Parents) → AreOf tables read → SaysWith version tables rows children → SaysWith version read rows children
says_read version tables read rows children a s = record {
  meta = metas_permuted version tables.metas read.metas _ a.metas s.meta;
  nodes = holds_permuted (slice_cmp nat_cmp) nat_list_cmp_total node_in tables.nodes read.nodes rows.nodes a.nodes s.nodes;
  sessions = holds_permuted nat_cmp nat_cmp_total session_in tables.sessions read.sessions rows.sessions a.sessions s.sessions;
  locks = holds_permuted lock_order locks_total lock_in tables.locks read.locks rows.locks a.locks s.locks;
  children = holds_permuted (slice_cmp nat_cmp) nat_list_cmp_total child_in tables.children read.children children a.children s.children;
}

pub read_says : (version : Version) (tables read : Tables) (rows : Rows) (children : Parents) → AreOf tables read → SaysWith version read rows children → SaysWith version tables rows children
read_says version tables read rows children a s =
    says_read version read tables rows children (record {
      metas = IsPermutation-sym tables.metas read.metas a.metas;
      nodes = IsPermutation-sym tables.nodes read.nodes a.nodes;
      sessions = IsPermutation-sym tables.sessions read.sessions a.sessions;
      locks = IsPermutation-sym tables.locks read.locks a.locks;
      children = IsPermutation-sym tables.children read.children a.children;
    }) s

first_same : (a b : Meta) → Some a ∷ [] ≡ Some b ∷ [] → a ≡ b
first_same a b e = cc

-- tables say one list of rows
pub one_said : (version : Version) (tables : Tables) (a b : Rows) (c d : Parents) → SaysWith version tables a c → SaysWith version tables b d → a ≡ b
one_said version tables a b c d s t =
    let m = first_same _ _ (sym s.meta ∙ t.meta) in
    let n = one_held (slice_cmp nat_cmp) nat_list_cmp_total node_in tables.nodes a.nodes b.nodes s.nodes t.nodes in
    let k = one_held nat_cmp nat_cmp_total session_in tables.sessions a.sessions b.sessions s.sessions t.sessions in
    let l = one_held lock_order locks_total lock_in tables.locks a.locks b.locks s.locks t.locks in
    λ i. record {
      cell = (m i).cell;
      secret = (m i).secret;
      epoch = (m i).epoch;
      next_instance = (m i).next_instance;
      ended_below = (m i).ended_below;
      nodes = n i;
      sessions = k i;
      locks = l i;
    }

pub said_rows : {E : Type 0} (version : Version) (tables read : Tables) → AreOf tables read → (r : Result Rows E) → IfOk r (λ rows. SaysAs version read rows) → IfOk r (λ rows. SaysAs version tables rows)
said_rows version tables read a (Ok rows) h = read_says version tables read rows (children_for version rows.nodes) a h
said_rows version tables read a (Err e) h = tt

-- the fifth table says what the nodes make it, or the tables say no rows
pub other_children : (version : Version) (tables : Tables) (read : Parents) (rows : Rows) → HoldsChildren tables.children read → SaysWith version tables rows read → (read ≡ children_for version rows.nodes → ⊥) → (other : Rows) → ¬ SaysAs version tables other
other_children version tables read rows held said differ other says =
    let same = one_said version tables rows other read (children_for version other.nodes) said says in
    let one = one_held (slice_cmp nat_cmp) nat_list_cmp_total child_in tables.children read (children_for version other.nodes) held says.children in
    differ (one ∙ ap (λ (r : Rows). children_for version r.nodes) (sym same))

-- the children that were read aren't those that the nodes make
pub unlike_children : (version : Version) (tables : Tables) (read : Option Parents) (parents : Parents) (four : Option Rows) (rows : Rows) (are : Bool) (made : Parents) → IsRead (slice_cmp nat_cmp) child_in tables.children read → read ≡ Some parents
    → IsFour version tables four → four ≡ Some rows → (IsTrue are ↔ (parents ≡ made)) → are ≡ false → made ≡ children_for version rows.nodes → (other : Rows) → ¬ SaysAs version tables other
unlike_children version tables read parents four rows are made held read_is said four_is same differ made_is =
    let h : HoldsChildren tables.children parents = subst (λ o. IsRead (slice_cmp nat_cmp) child_in tables.children o) read_is held in
    let w : IsFour version tables (Some rows) = subst (IsFour version tables) four_is said in
    other_children version tables parents rows h (w parents h) (λ e. true≢false (sym (same.1 (e ∙ sym made_is)) ∙ differ))
