use Rattle.rows_sql.specs.declared.schema.ours.Version.TheVariants.{Third}
use Rattle.std.specs.Prelude.{IsTrue}
use Rattle.rows_sql.proofs.ReadLemmas.{when_ok}
use Rattle.rows_sql.proofs.reading.reads.can_read.Goals as goal

pub returns-clause-quiet : goal.returns-clause-quiet
returns-clause-quiet g c = c.read_metas.ensures.quiet Third

pub returns-clause-ready : goal.returns-clause-ready
returns-clause-ready g c clean ready went = when_ok c.read_metas.result c.is_ok.result c.is_ok.ensures.value went (c.read_metas.ensures.ready Third clean ready)
