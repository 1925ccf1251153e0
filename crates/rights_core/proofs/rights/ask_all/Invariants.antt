use Rattle.std.proofs.Common.{◌≡◌, ℕ, Some}
use Rattle.std.specs.Prelude.{fold}
use Rattle.std.specs.Ordering.{nat_cmp}
use Rattle.std.specs.List.Sorted.{IsStrictlySortedBy}
use Rattle.std.specs.Map.{lookup, keys_of}
use Rattle.std.specs.BTreeMap.{is_at}
use Rattle.rights_core.specs.Indexes.{holding_in, asked_once, asks_among}
use Rattle.rights_core.proofs.rights.ask_all.Given as goal

abbrev pub invariant-loop-client : goal.invariant-loop-client
invariant-loop-client g l = record {
  ordered : IsStrictlySortedBy nat_cmp (keys_of l.client-iterator);
  left : (other number : ℕ) → lookup (is_at (nat_cmp other)) l.client-iterator ≡ Some number → holding_in other l.holdings ≡ holding_in other l.fn.holdings;
  same : (other : ℕ) → asked_once (lookup (is_at (nat_cmp other)) l.client-iterator) (holding_in other l.holdings) ≡ asked_once (lookup (is_at (nat_cmp other)) l.clients) (holding_in other l.fn.holdings);
  issued : fold g.I.Issues.issued l.issues (asks_among l.fn.holdings l.client-iterator) ≡ fold g.I.Issues.issued l.fn.issues (asks_among l.fn.holdings l.clients);
}
