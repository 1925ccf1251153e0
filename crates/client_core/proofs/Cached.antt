-- What a call may be answered out of the cache: a view, a directory's children, or that the instance is another one.
use Rattle.std.proofs.Common.{◌≡◌, ℕ, Bool, true, false, cond, List, Option, Some, None, subst}
use Rattle.std.specs.Prelude.{◌==◌}
use Rattle.node_core.specs.declared.kinds.Kind.{Kind}
use Rattle.node_core.specs.declared.kinds.Kind.TheVariants as kinds
use Rattle.node_core.specs.declared.refusals.Fault.TheVariants as faults
use Rattle.node_core.specs.declared.answers.Answer.{Answer}
use Rattle.node_core.specs.declared.answers.Answer.TheVariants as answers
use Rattle.node_core.specs.declared.views.View.{View}
use Rattle.client_core.specs.declared.parts.asks.NodeCall.{NodeCall}
use Rattle.client_core.specs.declared.parts.asks.NodeCall.TheVariants as node_calls
use Rattle.client_core.specs.declared.parts.handles.ClientHandle.{ClientHandle}
use Rattle.client_core.specs.Opens.{names_in, cached_answer}

module _ (P : Answer → Type 0) (viewed : (view : View) → P (answers.Viewed view)) (listed : (names : List (List ℕ)) → P (answers.Names names)) (stale : P (answers.Refused faults.StaleInstance)) where
  abbrev Each : Option Answer → Type 0
  Each None = Unit {0}
  Each (Some given) = P given

  viewed_if : (b : Bool) (view : View) → P (cond b (answers.Viewed view) (answers.Refused faults.StaleInstance))
  viewed_if true view = viewed view
  viewed_if false view = stale

  listed_if : (b : Bool) (kind : Kind) (names : List (List ℕ)) → Each (cond b (names_in kind names) (Some (answers.Refused faults.StaleInstance)))
  listed_if true kinds.Directory names = listed names
  listed_if true kinds.File names = tt
  listed_if false kind names = stale

  each_cached : (handle : ClientHandle) (call : NodeCall) (entry : Option View) → Each (cached_answer handle call entry)
  each_cached handle node_calls.Read None = stale
  each_cached handle node_calls.Read (Some view) = viewed_if (view.node.instance == handle.instance) view
  each_cached handle node_calls.List None = stale
  each_cached handle node_calls.List (Some view) = listed_if (view.node.instance == handle.instance) view.node.kind view.children
  each_cached handle call entry = tt

  pub cached_is : (handle : ClientHandle) (call : NodeCall) (entry : Option View) (given : Answer) → cached_answer handle call entry ≡ Some given → P given
  cached_is handle call entry given e = subst Each e (each_cached handle call entry)
