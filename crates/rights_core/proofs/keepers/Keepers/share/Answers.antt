use Rattle.std.proofs.Common.{◌≡◌, List, ℕ, rules, sym, ap, ◌∙◌}
use Rattle.std.specs.Str.{bytes_eq}
use Rattle.std.proofs.lemmas.Map.Made.{lookup_key_passes}
use Rattle.collections.proofs.Keys.{bytes_same}
use Rattle.rights_core.proofs.keepers.Keepers.share.Goals as goal

pub returns-in-Some : goal.returns-in-Some
returns-in-Some c =
    let same : c.args.name.now ≡ c.in-Some.known.now = bytes_same c.args.name.now c.in-Some.known.now (lookup_key_passes (bytes_eq c.args.name.now) c.self.inside.map.entries c.in-Some.known.now (sym c.in-Some.ensures.key)) in
    rw same c.share.ensures
