use Rattle.std.proofs.Common.{◌≡◌, ◌≤◌, ℕ, List, ◌∷◌, Some, cond, sym, subst, ap, ◌∙◌}
use Rattle.std.specs.Prelude.{fold}
use Rattle.std.specs.Ordering.{nat_cmp}
use Rattle.std.specs.List.Sorted.{IsStrictlySortedBy}
use Rattle.std.specs.Map.{lookup, keys_of}
use Rattle.std.specs.BTreeMap.{is_at}
use Rattle.collections.proofs.Keys.{at_itself}
use Rattle.node_core.specs.Limits.{number_limit}
use Rattle.rights_core.specs.declared.holdings.Holding.{Holding}
use Rattle.rights_core.specs.Indexes.{holding_in, asked_once, asks_among}
use Rattle.rights_core.proofs.Asks.{first_only, once_more, left_more, issued_more}
use Rattle.rights_core.proofs.rights.ask_all.Goals as goal

pub ask_one-requires : goal.ask_one-requires
ask_one-requires g c =
    let first : lookup (is_at (nat_cmp c.in-Some.client.now)) c.loop-client.client-iterator ≡ Some c.in-Some.number.now =
    ap (lookup (is_at (nat_cmp c.in-Some.client.now))) c.in-Some.ensures.steps ∙ ap (λ b. cond b (Some c.in-Some.number.now) (lookup (is_at (nat_cmp c.in-Some.client.now)) c.next.new.self)) (at_itself c.in-Some.client.now) in
    let P : Holding → Type 0 = λ h. h.invalidations ≤ number_limit in
    subst P (sym (c.loop-client.invariant.left c.in-Some.client.now c.in-Some.number.now first)) (c.requires c.in-Some.client.now)

pub loop-client-preserved : goal.loop-client-preserved
loop-client-preserved g c =
    let P : List (ℕ × ℕ) → Type 0 = λ l. IsStrictlySortedBy nat_cmp (keys_of l) in
    let ordered : P ((c.in-Some.client.now, c.in-Some.number.now) ∷ c.next.new.self) = subst P c.in-Some.ensures.steps c.loop-client.invariant.ordered in
    let first : lookup (is_at (nat_cmp c.in-Some.client.now)) c.loop-client.client-iterator ≡ Some c.in-Some.number.now =
    ap (lookup (is_at (nat_cmp c.in-Some.client.now))) c.in-Some.ensures.steps ∙ ap (λ b. cond b (Some c.in-Some.number.now) (lookup (is_at (nat_cmp c.in-Some.client.now)) c.next.new.self)) (at_itself c.in-Some.client.now) in
    record {
      ordered = (first_only c.in-Some.client.now c.in-Some.number.now c.next.new.self ordered).1;
      left = λ other number found.
          let more = left_more c.in-Some.client.now c.in-Some.number.now c.next.new.self other number (holding_in other c.loop-client.holdings) (holding_in other c.ask_one.new.holdings) ordered (c.ask_one.ensures.holdings other) found in
          more.0 ∙ c.loop-client.invariant.left other number (ap (lookup (is_at (nat_cmp other))) c.in-Some.ensures.steps ∙ more.1);
      same = λ other.
          once_more c.in-Some.client.now c.in-Some.number.now c.next.new.self other (holding_in other c.loop-client.holdings) (holding_in other c.ask_one.new.holdings) ordered (c.ask_one.ensures.holdings other)
          ∙ (ap (λ l. asked_once (lookup (is_at (nat_cmp other)) l) (holding_in other c.loop-client.holdings)) (sym c.in-Some.ensures.steps) ∙ c.loop-client.invariant.same other);
      issued =
          issued_more g.I.Issues.issued c.args.holdings.now c.loop-client.holdings c.in-Some.client.now c.in-Some.number.now c.next.new.self c.loop-client.issues c.ask_one.new.issues
          (c.loop-client.invariant.left c.in-Some.client.now c.in-Some.number.now first) c.ask_one.ensures.issued
          ∙ (ap (λ l. fold g.I.Issues.issued c.loop-client.issues (asks_among c.args.holdings.now l)) (sym c.in-Some.ensures.steps) ∙ c.loop-client.invariant.issued);
    }
