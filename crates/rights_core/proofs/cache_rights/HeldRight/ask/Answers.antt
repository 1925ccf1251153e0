use Rattle.std.proofs.Common.{◌≡◌, ◌<◌, ℕ, List, false, Some, refl, arith}
use Rattle.std.specs.Prelude.{◌==◌}
use Rattle.std.proofs.lemmas.Bool.Decides.{nat_tests}
use Rattle.rights_core.specs.declared.cache_rights.CacheRight.{CacheRight}
use Rattle.rights_core.specs.HeldRights.{kept_right}
use Rattle.rights_core.proofs.cache_rights.HeldRight.ask.Goals as goal

above : (n : ℕ) → 0 < n → (n == 0) ≡ false
above n more = grind (arith, nat_tests)

asked : (number client before after : ℕ) (name : List ℕ) (right : CacheRight) → kept_right number client name before ≡ right → 0 < after → kept_right number client name after ≡ record right { invalidation = Some after }
asked number client before after name right is more = rw (← is, above after more) refl

pub returns : goal.returns
returns c = asked c.self.inside.number c.self.inside.client c.self.inside.invalidation c.args.invalidation c.self.inside.name c.args.self.now c.self.view_is c.requires
