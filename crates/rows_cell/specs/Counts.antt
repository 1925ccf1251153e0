-- How much rows hold.
use Rattle.std.specs.Prelude.{length, filter}
use Rattle.rows_cell.specs.declared.tables.Rows.{Rows}
use Rattle.rows_cell.specs.declared.counts.Counts.{Counts}

-- the epoch, and how many nodes, live sessions and rows of locks there are
abbrev pub counts_of : Rows → Counts
counts_of rows = record {
  epoch = rows.epoch;
  nodes = length rows.nodes;
  sessions = length (filter (λ e. e.1.live) rows.sessions);
  locks = length rows.locks;
}
