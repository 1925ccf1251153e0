-- Why of two holds of one name's lock the later one is above the earlier one, also if the node was made again between them.
use Rattle.std.proofs.Common.{◌≡◌, ℕ, ◌<◌, ◌≤◌, List, [], ◌∷◌, true, false, cond, Option, Some, None, refl, sym, ap, subst, ◌∙◌, inl, inr, ⊎_elim, arith}
use Rattle.std.specs.Prelude.{◌⊎◌}
use Rattle.std.specs.Option.{option_map}
use Rattle.std.specs.List.Sorted.{IsStrictlySortedBy}
use Rattle.std.specs.Map.{keys_of, remove_entry}
use Rattle.std.specs.BTreeMap.{is_at, insert_entry}
use Rattle.std.specs.Ordering.{nat_cmp}
use Rattle.std.specs.Cmp.{tied_itself}
use Rattle.std.specs.Cmp.Lexicographic.{slice_cmp, nat_list_cmp_total}
use Rattle.std.proofs.lemmas.Map.Lookups.{exact_bytes}
use Rattle.collections.proofs.Entries.{eq_at, lookup_put}
use Rattle.node_core.specs.declared.lines.Line.{Line}
use Rattle.node_core.specs.declared.nodes.Node.{Node}
use Rattle.node_core.specs.declared.views.Mod.{Mod}
use Rattle.node_core.specs.declared.views.Mod.TheVariants.{Put, Gone}
use Rattle.node_core.specs.Nodes.{Nodes, get_node, changed, with_parent}
use Rattle.rows_cell.specs.declared.tables.Rows.{Rows}
use Rattle.rows_cell.specs.Rows.{StoredNodes, changed_rows, map_of, nodes_of}
use Rattle.rows_cell.proofs.SortedLookups.{lookup_gone}
use Rattle.rows_cell.proofs.SoundParts.{has_instance}
use Rattle.master_parts.specs.declared.pending.Task.TheVariants as tasks
use Rattle.master_state.specs.State.{MasterState}
use Rattle.master_state.specs.Lookups.{noted}
use Rattle.cell_core.specs.declared.effects.Effect.{Effect}
use Rattle.cell_core.specs.Step.{queued}
use Rattle.cell_core.proofs.AskedFor.{asks_only}
use Rattle.over_core.specs.Kept.{IsKept}
use Rattle.over_core.specs.SweepCase.{SweepCase, swept_by, swept_edits}
use Rattle.over_core.specs.SweepCase.SweepCase.{Quiet, Recovers, Expires, Tidies, Spared, Tidied, AnswersBeat, TurnedAway, StartedAgain, Started, Reopens, OfEnded, Ended, Applied, Deleted, Locked, Awaited, Left, Departed}
use Rattle.over_core.proofs.KeptBySweeps.{case_kept}
use Rattle.over_core.proofs.NamedLocks.{nodes_in_order}
use Rattle.world_steps.specs.declared.steps.Step.{Step}
use Rattle.world_steps.specs.declared.steps.Step.TheVariants as steps
use Rattle.world_steps.specs.Made.{Does}
use Rattle.world_steps.specs.World.{WorldState, WorldView, Agrees}
use Rattle.world_cell.specs.Consistent.{IsConsistent}
use Rattle.world_cell.specs.Locks.{Begins, instance_in, HoldsRise}
use Rattle.world_cell.specs.Runs.{Run}
use Rattle.world_cell.proofs.ClocksByRuns.{run_consistent}
use Rattle.world_cell.proofs.ConsistentSteps.{agrees_at}
use Rattle.world_cell.proofs.EffectInstances.{IsGiven, GivesBy, effect_gives}
use Rattle.world_cell.proofs.InstancesKept.{has_of}
use Rattle.world_cell.proofs.LocksByCases.{noted_kept}
use Rattle.world_cell.proofs.LocksByRuns.{IsGivenOut, given_out, run_generations}
use Rattle.world_cell.proofs.OwnSteps.{IsOwn, asks_own, beats_own, gives_own}
use Rattle.world_cell.proofs.StepsHold.{does_holds}
use Rattle.world_cell.proofs.WorldCases.{WorldCase, IsSweep, world_case}
use Rattle.world_cell.proofs.WorldCases.WorldCase.{ComesUp, Joins, Asks, Beats, Gives, Ticks, Takes, Sweeps, GoesDown, CutsSweep, CutsUp, LosesUp}

-- ---- the node of a name

-- of another map: each name has the instance that it had, or one that wasn't given out before
abbrev KeepsNames : ℕ → Nodes → Nodes → Type 0
KeepsNames next old new = (name : List ℕ) (n : ℕ) → instance_in new name ≡ Some n → (instance_in old name ≡ Some n) ⊎ (next ≤ n)

same_names : (next : ℕ) (old new : Nodes) → new ≡ old → KeepsNames next old new
same_names next old new same name n is = inl (ap (λ (ns : Nodes). instance_in ns name) (sym same) ∙ is)

abbrev instance_of : Option Node → Option ℕ
instance_of o = option_map (λ (view : Node). view.instance) o

same_some : (a b : ℕ) → ◌≡◌ {A = Option ℕ} (Some a) (Some b) → a ≡ b
same_some a b h = cc

-- a node that is put
put_names : (next : ℕ) (nodes : Nodes) (name : List ℕ) (view : Node) → (instance_in nodes name ≡ Some view.instance) ⊎ (next ≤ view.instance) → KeepsNames next nodes (insert_entry (slice_cmp nat_cmp) nodes name view)
put_names next nodes name view given q n is =
    (elim (is_at (slice_cmp nat_cmp q) name) as (λ b. is_at (slice_cmp nat_cmp q) name ≡ b → instance_of (cond b (Some view) (get_node nodes q)) ≡ Some n → (instance_in nodes q ≡ Some n) ⊎ (next ≤ n)) [
      | true ↦ (λ c h. let own : view.instance ≡ n = same_some view.instance n h in let same : q ≡ name = exact_bytes q name (eq_at (slice_cmp nat_cmp q name) c) in by_given own same given)
      | false ↦ (λ c h. inl h)
    ]) refl (ap instance_of (sym (lookup_put (slice_cmp nat_cmp) exact_bytes (tied_itself nat_list_cmp_total) nodes name view q)) ∙ is)
  where
    by_given : view.instance ≡ n → q ≡ name → (instance_in nodes name ≡ Some view.instance) ⊎ (next ≤ view.instance) → (instance_in nodes q ≡ Some n) ⊎ (next ≤ n)
    by_given own same (inl at) = inl (ap (λ (x : List ℕ). instance_in nodes x) same ∙ at ∙ ap (λ (i : ℕ). Some i) own)
    by_given own same (inr new) = inr (subst (λ (i : ℕ). next ≤ i) own new)

-- a node that goes
gone_names : (next : ℕ) (nodes : Nodes) (name : List ℕ) → IsStrictlySortedBy (slice_cmp nat_cmp) (keys_of nodes) → KeepsNames next nodes (remove_entry (is_at (slice_cmp nat_cmp name)) nodes)
gone_names next nodes name sorted q n is =
    (elim (is_at (slice_cmp nat_cmp q) name) as (λ b. instance_of (cond b None (get_node nodes q)) ≡ Some n → (instance_in nodes q ≡ Some n) ⊎ (next ≤ n)) [
      | true ↦ (λ h. absurd cc)
      | false ↦ (λ h. inl h)
    ]) (ap instance_of (sym (lookup_gone (slice_cmp nat_cmp) nat_list_cmp_total exact_bytes nodes name q sorted)) ∙ is)

changed_names : (s : MasterState) (change : Mod) → IsStrictlySortedBy (slice_cmp nat_cmp) (keys_of s.nodes) → IsGiven s change → KeepsNames s.next_instance s.nodes (changed s.nodes change)
changed_names s (Put name view) sorted given = put_names s.next_instance s.nodes name view given
changed_names s (Gone name) sorted given = gone_names s.next_instance s.nodes name sorted

-- ---- a sweep

-- the names, and no instance is given out twice
record Goes (old new : Rows) : Type 0 where
  named : KeepsNames old.next_instance (map_of old) (map_of new)
  next : old.next_instance ≤ new.next_instance

itself : (n : ℕ) → n ≤ n
itself n = omega arith

module _ (cell : List ℕ) (rows : Rows) (s : MasterState) (k : IsKept cell rows s) where
  -- by the masters before and after
  moved : (new : Rows) (t : MasterState) → IsKept cell new t → KeepsNames s.next_instance s.nodes t.nodes → s.next_instance ≤ t.next_instance → Goes rows new
  moved new t l names more =
      let before = k.next_instance in
      let after = l.next_instance in
      let P : Nodes → Type 0 = λ ns. KeepsNames rows.next_instance ns (map_of new) in
      let Q : Nodes → Type 0 = λ ns. KeepsNames rows.next_instance s.nodes ns in
      let R : ℕ → Type 0 = λ next. KeepsNames next s.nodes t.nodes in
      record { named = subst P k.nodes (subst Q l.nodes (subst R before names)); next = omega (arith, before, after, more) }

  abbrev IsGoing : SweepCase s → Type 0
  IsGoing c = IsKept cell (changed_rows rows (swept_edits s c)) (swept_by s c).0 → Goes rows (changed_rows rows (swept_edits s c))

  same : (c : SweepCase s) → (swept_by s c).0.nodes ≡ s.nodes → (swept_by s c).0.next_instance ≡ s.next_instance → IsGoing c
  same c nodes next l = moved (changed_rows rows (swept_edits s c)) (swept_by s c).0 l (same_names s.next_instance s.nodes (swept_by s c).0.nodes nodes) (omega (arith, next))

  changes : (c : SweepCase s) (change : Mod) (next : ℕ) → (swept_by s c).0.nodes ≡ changed s.nodes change → (swept_by s c).0.next_instance ≡ next → IsGiven s change → s.next_instance ≤ next → IsGoing c
  changes c change next nodes is given more l =
      let P : Nodes → Type 0 = KeepsNames s.next_instance s.nodes in
      moved (changed_rows rows (swept_edits s c)) (swept_by s c).0 l (subst P (sym nodes) (changed_names s change (nodes_in_order rows s.nodes k.nodes k.names_in_order) given)) (omega (arith, is, more))

  case_goes : (c : SweepCase s) → IsGoing c
  case_goes (Quiet none) = same (Quiet none) refl refl
  case_goes (Recovers recovering heard) = same (Recovers recovering heard) refl refl
  case_goes (Expires client session due) = same (Expires client session due) refl refl
  case_goes (Departed front back asked call sequencer session turn work leave found live) = same (Departed front back asked call sequencer session turn work leave found live) refl refl
  case_goes (Reopens instance due) = same (Reopens instance due) refl refl
  case_goes (Tidies idle due) =
      let only = asks_only (with_parent idle.name) (queued s (with_parent idle.name) (tasks.Tidies idle)) in
      same (Tidies idle due) (ap (λ (t : MasterState). t.nodes) only) (ap (λ (t : MasterState). t.next_instance) only)
  case_goes (Spared front back idle turn held) = same (Spared front back idle turn held) refl refl
  case_goes (Tidied front back idle turn still) = changes (Tidied front back idle turn still) (Gone idle.name) s.next_instance refl refl tt (itself s.next_instance)
  case_goes (AnswersBeat client session beat due) = same (AnswersBeat client session beat due) refl refl
  case_goes (TurnedAway front back asked principal received turn work may) = same (TurnedAway front back asked principal received turn work may) refl refl
  case_goes (StartedAgain front back asked principal received session turn work found live) = same (StartedAgain front back asked principal received session turn work found live) refl refl
  case_goes (Started front back asked principal received turn work none) = same (Started front back asked principal received turn work none) refl refl
  case_goes (OfEnded front back asked call sequencer turn work gone) = same (OfEnded front back asked call sequencer turn work gone) refl refl
  case_goes (Ended front back asked call sequencer None answer turn work stays live made) = same (Ended front back asked call sequencer None answer turn work stays live made) refl refl
  case_goes (Ended front back asked call sequencer (Some note) answer turn work stays live made) = same (Ended front back asked call sequencer (Some note) answer turn work stays live made) refl refl
  case_goes (Applied front back asked call sequencer None change answer turn work stays live made) =
      let P : Effect → Type 0 = GivesBy s in
      let gives = subst P made (effect_gives s asked.client asked.number call sequencer) in
      changes (Applied front back asked call sequencer None change answer turn work stays live made) change.change change.next_instance refl refl gives.given gives.next
  case_goes (Applied front back asked call sequencer (Some note) change answer turn work stays live made) =
      let P : Effect → Type 0 = GivesBy s in
      let gives = subst P made (effect_gives s asked.client asked.number call sequencer) in
      changes (Applied front back asked call sequencer (Some note) change answer turn work stays live made) change.change change.next_instance refl refl gives.given gives.next
  case_goes (Deleted front back asked call sequencer change instance waiters answer turn work stays live made) =
      let P : Effect → Type 0 = GivesBy s in
      let gives = subst P made (effect_gives s asked.client asked.number call sequencer) in
      changes (Deleted front back asked call sequencer change instance waiters answer turn work stays live made) change.change change.next_instance refl refl gives.given gives.next
  case_goes (Locked front back asked call sequencer put claim answer turn work stays live made) = same (Locked front back asked call sequencer put claim answer turn work stays live made) refl refl
  case_goes (Awaited front back asked call sequencer put turn work stays live made) = same (Awaited front back asked call sequencer put turn work stays live made) refl refl
  case_goes (Left front back asked call sequencer None leave answer turn work stays live made) = same (Left front back asked call sequencer None leave answer turn work stays live made) refl refl
  case_goes (Left front back asked call sequencer (Some note) leave answer turn work stays live made) = same (Left front back asked call sequencer (Some note) leave answer turn work stays live made) refl refl

-- ---- a step

stays : (old new : Rows) → map_of new ≡ map_of old → new.next_instance ≡ old.next_instance → Goes old new
stays old new nodes next = record { named = same_names old.next_instance (map_of old) (map_of new) nodes; next = omega (arith, next) }

same_rows : (old new : Rows) → new ≡ old → Goes old new
same_rows old new same_now = stays old new (ap map_of same_now) (ap (λ (r : Rows). r.next_instance) same_now)

swept_goes : (old : WorldState) (step : Step) (new : WorldState) (printed : List Line) → Agrees old old.master → IsSweep old step new printed → Goes old.rows new.rows
swept_goes old step new printed agrees t =
    let s : MasterState = noted t.master old.clock in
    let k : IsKept old.cell old.rows s = noted_kept old.cell old.rows t.master old.clock (agrees_at old old.master t.master t.is_up agrees) in
    let P : Rows → Type 0 = Goes old.rows in
    subst P (sym (ap (λ (w : WorldState). w.rows) t.is)) (case_goes old.cell old.rows s k t.case (case_kept old.cell old.rows s t.case k))

own_goes : (old new : WorldState) (printed : List Line) → IsOwn old new printed → Goes old.rows new.rows
own_goes old new printed o = same_rows old.rows new.rows (ap (λ (w : WorldState). w.rows) o.is)

world_goes : (old : WorldState) (step : Step) (new : WorldState) (printed : List Line) → Agrees old old.master → WorldCase old step new printed → Goes old.rows new.rows
world_goes old step new printed agrees (ComesUp u) = let P : WorldState → Type 0 = λ w. Goes old.rows w.rows in subst P (sym u.is) (stays old.rows _ refl refl)
world_goes old step new printed agrees (Joins j) = same_rows old.rows new.rows (ap (λ (w : WorldState). w.rows) j.is)
world_goes old step new printed agrees (Asks a) = own_goes old new printed (asks_own old step new printed a)
world_goes old step new printed agrees (Beats b) = own_goes old new printed (beats_own old step new printed b)
world_goes old step new printed agrees (Gives g) = own_goes old new printed (gives_own old step new printed g)
world_goes old step new printed agrees (Ticks t) = same_rows old.rows new.rows (ap (λ (w : WorldState). w.rows) t.is)
world_goes old step new printed agrees (Takes t) = same_rows old.rows new.rows (ap (λ (w : WorldState). w.rows) t.is)
world_goes old step new printed agrees (Sweeps t) = swept_goes old step new printed agrees t
world_goes old step new printed agrees (GoesDown d) = same_rows old.rows new.rows (ap (λ (w : WorldState). w.rows) d.is)
world_goes old step new printed agrees (CutsSweep k) =
    let P : Rows → Type 0 = Goes old.rows in
    subst P (sym (ap (λ (w : WorldState). w.rows) k.is)) (swept_goes old steps.Sweep k.mid k.told agrees k.sweeps)
world_goes old step new printed agrees (CutsUp k) =
    let P : Rows → Type 0 = Goes old.rows in
    let up : new.rows ≡ _ = ap (λ (w : WorldState). w.rows) k.is ∙ ap (λ (w : WorldState). w.rows) k.comes.is in
    subst P (sym up) (stays old.rows _ refl refl)
world_goes old step new printed agrees (LosesUp k) = same_rows old.rows new.rows (ap (λ (w : WorldState). w.rows) k.is)

step_goes : (old : WorldView) (step : Step) (new : WorldView) (printed : List Line) → IsConsistent old.world → Does old step new printed → Goes old.world.rows new.world.rows
step_goes old step new printed h (inl m) = world_goes old.world step new.world printed h.master (world_case old.world step new.world printed h.master m.is_step)
step_goes old step new printed h (inr r) = same_rows old.world.rows new.world.rows (ap (λ (w : WorldState). w.rows) r.left.same)

-- ---- a run

goes_on : (old mid new : Rows) → Goes old mid → Goes mid new → Goes old new
goes_on old mid new g h = record { named = λ name n is. by_mid name n (h.named name n is); next = let a = g.next in let b = h.next in omega arith }
  where
    by_mid : (name : List ℕ) (n : ℕ) → (instance_in (map_of mid) name ≡ Some n) ⊎ (mid.next_instance ≤ n) → (instance_in (map_of old) name ≡ Some n) ⊎ (old.next_instance ≤ n)
    by_mid name n (inl there) = g.named name n there
    by_mid name n (inr new_one) = inr (let a = g.next in omega arith)

run_goes : (old : WorldView) (made : List Step) (printed : List Line) (new : WorldView) → IsConsistent old.world → Run old made printed new → Goes old.world.rows new.world.rows
run_goes old [] printed new h run = same_rows old.world.rows new.world.rows (ap (λ (w : WorldView). w.world.rows) run.1)
run_goes old (step ∷ made) printed new h run =
    goes_on old.world.rows run.0.world.rows new.world.rows (step_goes old step run.0 run.1 h run.3) (run_goes run.0 made run.2 new (does_holds old step run.0 run.1 h run.3) run.4)

-- the node of a name is the same, or a later one
later_node : (next there later : Rows) (name : List ℕ) (low high : ℕ) → instance_in (map_of next) name ≡ Some low → instance_in (map_of later) name ≡ Some high → has_instance next.nodes low ≡ true
    → IsGivenOut next there → IsGivenOut there later → (instance_in (map_of next) name ≡ Some high) ⊎ (next.next_instance ≤ high) → (low ≡ high) ⊎ (low < high)
later_node next there later name low high first last has a b (inl at) = inl (same_some low high (sym first ∙ at))
later_node next there later name low high first last has (inr given) b (inr new) = inr (let below = given low has in omega (arith, below, new))
later_node next there later name low high first last has (inl s) (inr given) (inr new) =
    let below = given low (ap (λ (ns : StoredNodes). has_instance ns low) s.0 ∙ has) in
    let same_next = s.1 in
    inr (omega (arith, below, same_next, new))
later_node next there later name low high first last has (inl s) (inl t) (inr new) =
    inl (same_some low high (sym first ∙ ap (λ (ns : StoredNodes). instance_in (nodes_of ns) name) (sym (t.0 ∙ s.0)) ∙ last))

pub run_rises : (old : WorldView) (made : List Step) (new : WorldView) → IsConsistent old.world → HoldsRise old made new
run_rises old made new h = record {
  rises = λ front part rest one two here next there later before told after name low high is first begun onward second last at_first at_last.
      let k = run_consistent old front before here h first in
      let l = run_consistent here (one ∷ []) begun.told next k begun.run in
      let m = run_consistent next part told there l onward in
      let names = goes_on next.world.rows there.world.rows later.world.rows (run_goes next part told there l onward) (run_goes there (two ∷ []) second.told later m second.run) in
      let again : low.0 ≡ high.0 → low.1 < high.1 = λ same_node.
      let P : ℕ → Type 0 = λ i. Begins there two later i high.1 in
      (run_generations old made new h).rises front part rest one two here next there later before told after low.0 low.1 high.1 is first begun onward (subst P (sym same_node) second) last in
      let node = later_node next.world.rows there.world.rows later.world.rows name low.0 high.0 at_first at_last (has_of next.world.rows.nodes low.0 low.1 begun.at)
      (given_out next part told there l onward) (given_out there (two ∷ []) second.told later m second.run) (names.named name high.0 at_last) in
      ⊎_elim (λ same_node. inr (same_node, again same_node)) (λ less. inl less) node;
}
