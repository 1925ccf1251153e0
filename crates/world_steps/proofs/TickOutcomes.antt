-- What a tick refuses, in the table's order, and what it leaves.
use Rattle.std.proofs.Common.{◌≡◌, ℕ, ◌+◌, ◌-◌, ◌^◌, min, List, Bool, true, false, Option, Some, None, refl, ap, ◌∙◌, inl, arith}
use Rattle.std.specs.Prelude.{nat_le, ◌||◌}
use Rattle.std.specs.List.{list_any}
use Rattle.std.proofs.lemmas.Bool.Decides.{nat_tests}
use Rattle.lease_core.specs.Lease.{moment_limit}
use Rattle.node_core.specs.declared.refusals.Fault.TheVariants as faults
use Rattle.rows_cell.specs.declared.settings.MasterTerms.{MasterTerms}
use Rattle.rows_cell.specs.Stores.{Store}
use Rattle.master_state.specs.State.{MasterState}
use Rattle.world_steps.specs.declared.mail.Message.{Message}
use Rattle.world_steps.specs.declared.steps.Step.TheVariants as steps
use Rattle.world_steps.specs.declared.steps.Ticks.{Ticks as ClockSteps}
use Rattle.world_steps.specs.Members.{Clients, each_member, moved_beside, moved_alone, clock_then}
use Rattle.world_steps.specs.World.{WorldView, world_tick, moves_nobody, are_joined, are_fair, goes_past_end, ticked, view_of, MayRefuseStep}

module _ (old : WorldView) (ticks : ClockSteps) (somebody : moves_nobody old.world.master ticks ≡ false) where
  pub refused_unjoined : are_joined old.world ticks.own ≡ false → MayRefuseStep (world_tick old.world ticks) (steps.Tick ticks) faults.NoSession old old
  refused_unjoined a = inl (rw (somebody, a) refl, refl)

  pub refused_unfair : are_joined old.world ticks.own ≡ true → are_fair old.world.master old.world ticks ≡ false → MayRefuseStep (world_tick old.world ticks) (steps.Tick ticks) faults.UnfairClock old old
  refused_unfair a b = inl (rw (somebody, a, b) refl, refl)

  pub refused_late : are_joined old.world ticks.own ≡ true → are_fair old.world.master old.world ticks ≡ true → goes_past_end old.world ticks ≡ true → MayRefuseStep (world_tick old.world ticks) (steps.Tick ticks) faults.Exhausted old old
  refused_late a b c = inl (rw (somebody, a, b, c) refl, refl)

neither : (a b : Bool) → (a || b) ≡ false → (a ≡ false) × (b ≡ false)
neither false false h = (refl, refl)
neither false true h = cc
neither true b h = cc

-- no sum below the end of moments is cut
uncut : (then now : ℕ) → now ≡ min then (2 ^ 64 - 1) → nat_le moment_limit then ≡ false → now ≡ then
uncut then now is early = grind (arith, nat_tests)

module _ (store : Store) (clock : ℕ) (clients : Clients) (messages : List Message) (terms : MasterTerms) (ticks : ClockSteps) (now : ℕ) (moving : Clients) (cut : now ≡ min (clock + ticks.master) (2 ^ 64 - 1)) where
  abbrev early_all : Bool
  early_all = list_any (λ entry. nat_le moment_limit (clock_then ticks entry.0 entry.1)) clients

  pub left_alone : (m : Option MasterState) → m ≡ None → (early_all ≡ false → moving ≡ each_member (λ number member. moved_alone (clock_then ticks number member) member) clients) → goes_past_end (view_of store m clock clients messages terms).world ticks ≡ false → view_of store m now moving messages terms ≡ record (view_of store m clock clients messages terms) { world = ticked (view_of store m clock clients messages terms).world ticks }
  left_alone None none moves early =
      let both = neither (nat_le moment_limit (clock + ticks.master)) early_all early in
      ap (λ n. view_of store None n moving messages terms) (uncut (clock + ticks.master) now cut both.0) ∙ ap (λ cs. view_of store None (clock + ticks.master) cs messages terms) (moves both.1)
  left_alone (Some master) none moves early = cc

  pub left_beside : (m : Option MasterState) (master : MasterState) → m ≡ Some master → (early_all ≡ false → moving ≡ each_member (λ number member. moved_beside now (clock_then ticks number member) member) clients) → goes_past_end (view_of store m clock clients messages terms).world ticks ≡ false → view_of store m now moving messages terms ≡ record (view_of store m clock clients messages terms) { world = ticked (view_of store m clock clients messages terms).world ticks }
  left_beside None master up moves early = cc
  left_beside (Some other) master up moves early =
      let both = neither (nat_le moment_limit (clock + ticks.master)) early_all early in
      let at : now ≡ clock + ticks.master = uncut (clock + ticks.master) now cut both.0 in
      ap (λ cs. view_of store (Some other) now cs messages terms) (moves both.1) ∙ ap (λ n. view_of store (Some other) n (each_member (λ number member. moved_beside n (clock_then ticks number member) member) clients) messages terms) at
