use Rattle.rows_cell.specs.Settings.{terms_of}
use Rattle.sqlite.specs.Files.{file_state}
use Rattle.cellctl.specs.Led.{ScriptLeads, ScriptLeadsSurely}
use Rattle.cellctl.proofs.Overs.{done_over, script_led, script_led_surely}
use Rattle.cellctl.proofs.Lefts.{left_open, untaken_left}
use Rattle.cellctl.proofs.runs.run_files.Goals as goal

pub returns-in-Ok-close-clause-closed : goal.returns-in-Ok-close-clause-closed
returns-in-Ok-close-clause-closed g c clean =
    let terms = terms_of c.args.chosen.now.settings in
    let text = g.I.Read.remaining c.args.script.reader in
    let before = g.W.Write.contents c.args.writer.now in
    let after = g.W.Write.contents c.script_on-status.new.writer in
    let status = c.script_on-status.result in
    done_over g.D.Disk c.args.chosen.now.settings (file_state c.args.conn) c.in-Ok-close.files (ScriptLeadsSurely terms text before after status) c.in-Ok.records c.close.result
    c.in-Ok.ensures.ok
    (script_led_surely terms text before after status c.in-Ok.records c.close.result c.new-world.result c.script_on-status.new.world c.new-world.ensures c.close.ensures c.script_on-status.ensures.sure)
    (c.in-Ok-close.ensures.closed clean)

pub returns-in-Ok-close-clause-ran : goal.returns-in-Ok-close-clause-ran
returns-in-Ok-close-clause-ran g c = (
  c.in-Ok.records,
  c.close.result,
  c.in-Ok.ensures.ok,
  script_led (terms_of c.args.chosen.now.settings) (g.I.Read.remaining c.args.script.reader) (g.W.Write.contents c.args.writer.now) (g.W.Write.contents c.script_on-status.new.writer) c.script_on-status.result c.in-Ok.records c.close.result
      c.new-world.result c.script_on-status.new.world c.new-world.ensures c.close.ensures c.script_on-status.ensures.ran,
)

pub returns-in-Err-close-clause-left : goal.returns-in-Err-close-clause-left
returns-in-Err-close-clause-left g c =
    let terms = terms_of c.args.chosen.now.settings in
    let text = g.I.Read.remaining c.args.script.reader in
    let before = g.W.Write.contents c.args.writer.now in
    let after = g.W.Write.contents c.script_on-status.new.writer in
    let status = c.script_on-status.result in
    left_open c.args.chosen.now.settings (file_state c.args.conn) (ScriptLeads terms text before after status) c.in-Ok.records c.close.result c.in-Err-close.store
    c.in-Ok.ensures.ok
    (λ sure. (script_led_surely terms text before after status c.in-Ok.records c.close.result c.new-world.result c.script_on-status.new.world c.new-world.ensures c.close.ensures c.script_on-status.ensures.sure sure).0)
    (script_led terms text before after status c.in-Ok.records c.close.result c.new-world.result c.script_on-status.new.world c.new-world.ensures c.close.ensures c.script_on-status.ensures.ran)
    c.in-Err-close.ensures.sure c.in-Err-close.ensures.refused

pub returns-in-Err-clause-left : goal.returns-in-Err-clause-left
returns-in-Err-clause-left g c =
    let before = g.W.Write.contents c.args.writer.now in
    untaken_left c.args.chosen.now.settings c.args.conn (ScriptLeads (terms_of c.args.chosen.now.settings) (g.I.Read.remaining c.args.script.reader) before before) before c.in-Err.unclosed c.in-Err.ensures.err
