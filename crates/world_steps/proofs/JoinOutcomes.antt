-- For what a join is refused beside the table: for want of memory, under a number that nobody has.
use Rattle.std.proofs.Common.{◌≡◌, ℕ, List, Bool, false, Option, Some, None, refl, sym, ◌∙◌, ap, subst, inr, rules}
use Rattle.std.specs.Prelude.{is_some, Result, Ok, Err, IfErr}
use Rattle.node_core.specs.declared.refusals.Fault.{Fault}
use Rattle.node_core.specs.declared.refusals.Fault.TheVariants as faults
use Rattle.world_steps.specs.Members.{Clients}
use Rattle.world_steps.specs.declared.steps.Step.TheVariants as steps
use Rattle.world_steps.specs.World.{WorldView, world_join, member_of, MayRefuseStep}

none_there : {X : Type 0} (o : Option X) → is_some o ≡ false → o ≡ None
none_there None h = refl
none_there (Some x) h = cc

refused_same : (old : WorldView) (number : ℕ) (principal : List ℕ) (taken : Bool) → taken ≡ is_some (member_of old.world number) → taken ≡ false
    → MayRefuseStep (world_join old.world number principal) (steps.Join number principal) faults.NoMemory old old
refused_same old number principal taken is none = inr (none_there (member_of old.world number) (sym is ∙ none), (refl, refl))

-- by the world as it is made of its clients
pub refused_new : {X : Type 0} (r : Result X Fault) (old : WorldView) (number : ℕ) (principal : List ℕ) (taken : Bool)
    → (made : Clients → WorldView) (was clients : Clients) → clients ≡ was → made was ≡ old → IfErr r (λ e. e ≡ faults.NoMemory)
    → taken ≡ is_some (member_of old.world number) → taken ≡ false
    → IfErr r (λ e. MayRefuseStep (world_join old.world number principal) (steps.Join number principal) e old (made clients))
refused_new (Ok x) old number principal taken made was clients same view want is none = search rules
refused_new (Err fault) old number principal taken made was clients same view want is none =
    subst (λ (e : Fault). MayRefuseStep (world_join old.world number principal) (steps.Join number principal) e old (made clients)) (sym want)
    (subst (λ (new : WorldView). MayRefuseStep (world_join old.world number principal) (steps.Join number principal) faults.NoMemory old new) (sym (ap made same ∙ view))
    (refused_same old number principal taken is none))
