use Rattle.rows_cell.specs.Settings.{terms_of}
use Rattle.std.proofs.Common.{inl, inr, refl}
use Rattle.cellctl.specs.Led.{ScriptLeads}
use Rattle.cellctl.proofs.Lefts.{ends_left}
use Rattle.cellctl.proofs.stores.run_closing.Goals as goal

-- before the run
pub returns-in_default-clause-ran : goal.returns-in_default-clause-ran
returns-in_default-clause-ran g c = inr (inr refl, inr refl)

pub returns-in-Ok-run_path-clause-ran : goal.returns-in-Ok-run_path-clause-ran
returns-in-Ok-run_path-clause-ran g c = inl c.in-Ok-run_path.ensures.ran

pub returns-clause-ran : goal.returns-clause-ran
returns-clause-ran g c =
    ends_left c.args.chosen.now.settings _ (ScriptLeads (terms_of c.args.chosen.now.settings) (g.I.Read.remaining c.args.script.reader) (g.W.Write.contents c.args.writer.now) (g.W.Write.contents c.run_path.new.writer))
    (g.W.Write.contents c.args.writer.now) (g.W.Write.contents c.run_path.new.writer) c.in-Err.unclosed c.left_open.result c.left_open.ensures.shut c.in-Err.ensures.left
