use Rattle.std.proofs.Common.{rules, tests}
use Rattle.std.specs.Prelude.{not, ◌==◌}
use Rattle.std.proofs.lemmas.Map.Made.{filter_same_pairs}
use Rattle.rows_cell.proofs.tables.remove_locks_of.Goals as goal

pub returns : goal.returns
returns c = filter_same_pairs _ (λ e. not (e.0.instance == c.args.instance)) _ (λ k v b w f h. search (rules, tests)) _ _ c.retain.ensures
