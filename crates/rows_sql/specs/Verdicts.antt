-- The line that a test of a store prints.
use Rattle.std.specs.Prelude.{ℕ, List, ◌++◌, codes, decimal, Result, Ok, Err}
use Rattle.node_core.specs.Texts.{line_text}
use Rattle.node_core.specs.declared.lines.Line.TheVariants as lines
use Rattle.rows_cell.specs.declared.counts.Counts.{Counts}
use Rattle.rows_cell.specs.declared.records.StoreFault.{StoreFault}
use Rattle.rows_cell.specs.Stores.{store_fault}

abbrev pub verdict_text : Result Counts StoreFault → List ℕ
verdict_text (Ok counts) =
    codes "sound epoch " ++ (decimal counts.epoch ++ (codes " nodes " ++ (decimal counts.nodes ++ (codes " sessions " ++ (decimal counts.sessions ++ (codes " locks " ++ decimal counts.locks))))))
verdict_text (Err fault) = line_text (lines.Refused (store_fault fault))
