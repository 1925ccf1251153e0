-- The tables as they were read.
use Rattle.rows_sql.specs.declared.reading.reads.Raw.{Raw}
use Rattle.rows_sql.specs.Held.{Tables}

abbrev pub shown : Raw → Tables
shown raw = record { metas = raw.metas.items; nodes = raw.nodes.items; sessions = raw.sessions.items; locks = raw.locks.items; children = raw.children.items }
