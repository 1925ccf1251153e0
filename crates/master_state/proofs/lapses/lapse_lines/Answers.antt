use Rattle.std.proofs.Common.{◌≡◌, ◌++◌, subst}
use Rattle.std.specs.Prelude.{not, IfOk}
use Rattle.node_core.specs.declared.lines.Line.{Line}
use Rattle.node_core.specs.declared.lines.Line.TheVariants as lines
use Rattle.lock_core.specs.Turns.{is_nobody}
use Rattle.master_state.specs.Replies.{line_if, locked_lines}
use Rattle.master_state.proofs.lapses.lapse_lines.Goals as goal

pub returns : goal.returns
returns c =
    let lapse = c.args.lapse.now in
    let P : Line → Type 0 = λ held. IfOk c.lines_behind.result (λ printed. printed ≡ line_if (not (is_nobody lapse.ended)) held ++ line_if lapse.reopens (lines.Reopened lapse.instance) ++ locked_lines lapse.instance lapse.turn) in
    subst P c.lock_line.ensures c.lines_behind.ensures
