use Rattle.std.proofs.Common.{ℕ, List, None, false, cond, ap, ◌∙◌}
use Rattle.std.specs.Prelude.{◌==◌, ◌&&◌}
use Rattle.std.specs.Str.{bytes_eq}
use Rattle.std.specs.Option.{option_map_or}
use Rattle.rights_core.specs.declared.cache_rights.CacheRight.{CacheRight}
use Rattle.rights_core.specs.Indexes.{number_in}
use Rattle.rights_core.proofs.Queued.{swapped, nothing_free}
use Rattle.rights_core.proofs.keepers.Keepers.free_number.Goals as goal

pub returns-in-Some : goal.returns-in-Some
returns-in-Some c = λ other theirs.
    c.remove.ensures other theirs
    ∙ ap (λ (n : List ℕ). cond (bytes_eq theirs n && (other == c.args.client)) None (number_in other theirs c.args.self.now)) c.name.ensures
    ∙ (swapped (bytes_eq theirs c.in-Some.right.now.name) (other == c.args.client) (number_in other theirs c.args.self.now)
    ∙ ap (λ o. cond ((other == c.args.client) && option_map_or (λ (r : CacheRight). bytes_eq theirs r.name) o false) None (number_in other theirs c.args.self.now)) c.in-Some.ensures)

pub returns-in_default : goal.returns-in_default
returns-in_default c = λ other theirs.
    nothing_free (other == c.args.client) (number_in other theirs c.args.self.now)
    ∙ ap (λ o. cond ((other == c.args.client) && option_map_or (λ (r : CacheRight). bytes_eq theirs r.name) o false) None (number_in other theirs c.args.self.now)) c.in_default.ensures
