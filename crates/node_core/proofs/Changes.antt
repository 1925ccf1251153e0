-- What a change does to the views of names.
use Rattle.std.proofs.Common.{◌≡◌, ◌≢◌, ℕ, List, true, false, cond, Option, Some, None, Equal, refl, sym, ap}
use Rattle.std.specs.Prelude.{is_none}
use Rattle.std.specs.Ordering.{is_eq, nat_cmp}
use Rattle.std.specs.Cmp.{eq_by_cmp_equiv, tied_itself}
use Rattle.std.specs.Cmp.Lexicographic.{slice_cmp, nat_list_cmp_total}
use Rattle.std.specs.Map.{keys_of}
use Rattle.std.specs.BTreeMap.{is_at}
use Rattle.std.proofs.lemmas.Map.{lookup-remove_entry}
use Rattle.std.proofs.lemmas.Map.Keys.{IsDistinct-from_sorted}
use Rattle.std.proofs.lemmas.Map.Lookups.{exact_bytes}
use Rattle.collections.proofs.Entries.{lookup_put, eq_at}
use Rattle.node_core.specs.Nodes.{Nodes, HasNamesInOrder, get_node, after, changed, misfit}
use Rattle.node_core.specs.Laws.{PutNodeIsThere, GoneNodeIsAbsent, OtherNamesStay, NoPutWithoutParent, NamesStayInOrder}
use Rattle.node_core.proofs.Orders.{put_in_order, gone_in_order}
use Rattle.node_core.specs.declared.nodes.Node.{Node}
use Rattle.node_core.specs.declared.views.Mod.{Mod}
use Rattle.node_core.specs.declared.views.Mod.TheVariants.{Put, Gone}
use Rattle.node_core.specs.declared.faults.NodeFault.{NodeFault}

-- where a change fits, the map after it is what it makes of the map
made : (o : Option NodeFault) (made new : Nodes) → cond (is_none o) (Some made) None ≡ Some new → new ≡ made
made None m new h = cc
made (Some e) m new h = absurd (cc)

pub after_is : (nodes new : Nodes) (change : Mod) → after nodes change ≡ Some new → new ≡ changed nodes change
after_is nodes new change h = made (misfit nodes change) (changed nodes change) new h

pub itself : (name : List ℕ) → slice_cmp nat_cmp name name ≡ Equal
itself name = tied_itself nat_list_cmp_total name

-- what stands at a name after one was put
pub put_view : (nodes : Nodes) (name other : List ℕ) (view : Node) → get_node (changed nodes (Put name view)) other ≡ cond (is_at (slice_cmp nat_cmp other) name) (Some view) (get_node nodes other)
put_view nodes name other view = lookup_put (slice_cmp nat_cmp) exact_bytes itself nodes name view other

pub gone_view : (nodes : Nodes) (name other : List ℕ) → HasNamesInOrder nodes → get_node (changed nodes (Gone name)) other ≡ cond (is_at (slice_cmp nat_cmp name) other) None (get_node nodes other)
gone_view nodes name other h =
    lookup-remove_entry (eq_by_cmp_equiv nat_list_cmp_total) (is_at (slice_cmp nat_cmp name))
    (λ x y e. ap is_eq (nat_list_cmp_total.congr name x y (eq_at (slice_cmp nat_cmp name x) e)))
    other nodes (IsDistinct-from_sorted (slice_cmp nat_cmp) (keys_of nodes) h.in_order)

pub apart : (x y : List ℕ) → x ≢ y → is_at (slice_cmp nat_cmp x) y ≡ false
apart x y h =
    (elim (is_at (slice_cmp nat_cmp x) y) as (λ b. is_at (slice_cmp nat_cmp x) y ≡ b → is_at (slice_cmp nat_cmp x) y ≡ false) [
      | true ↦ (λ e. absurd (h (exact_bytes x y (eq_at (slice_cmp nat_cmp x y) e))))
      | false ↦ (λ e. e)
    ]) refl

pub put_node_is_there : PutNodeIsThere
put_node_is_there nodes new name view h =
    rw (after_is nodes new (Put name view) h) (rw (put_view nodes name name view, itself name) refl)

pub gone_node_is_absent : GoneNodeIsAbsent
gone_node_is_absent nodes new name order h =
    rw (after_is nodes new (Gone name) h) (rw (gone_view nodes name name order, itself name) refl)

pub other_names_stay : OtherNamesStay
other_names_stay nodes new (Put name view) other order h other_name =
    rw (after_is nodes new (Put name view) h) (rw (put_view nodes name other view, apart other name other_name) refl)
other_names_stay nodes new (Gone name) other order h other_name =
    rw (after_is nodes new (Gone name) h) (rw (gone_view nodes name other order, apart name other (λ e. other_name (sym e))) refl)

pub no_put_without_parent : NoPutWithoutParent
no_put_without_parent nodes name parent view p none = rw (p, none) (refl, refl)

pub names_stay_in_order : NamesStayInOrder
names_stay_in_order nodes new (Put name view) order named h = rw (after_is nodes new (Put name view) h) (put_in_order nodes name view order named)
names_stay_in_order nodes new (Gone name) order named h = rw (after_is nodes new (Gone name) h) (gone_in_order nodes name order)
