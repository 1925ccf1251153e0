use Rattle.std.proofs.Common.{sym, ap, ◌∙◌, subst}
use Rattle.rows_cell.specs.Stores.{Store}
use Rattle.world_steps.specs.World.{WorldView}
use Rattle.scripts.specs.Ran.{EndsWith, EndsSurely}
use Rattle.scripts.proofs.scripts.script.Goals as goal

pub returns-clause-sure : goal.returns-clause-sure
returns-clause-sure g c never =
    let new = c.script_on-status.new.world in
    let ran = c.script_on-status.ensures.sure (sym (ap (λ (s : Store). s.doubt) c.close.ensures) ∙ never c.close.result) in
    let text = g.I.Read.remaining c.args.reader in
    let before = g.W.Write.contents c.args.writer.now in
    let after = g.W.Write.contents c.script_on-status.new.writer in
    (new, subst (λ (w : WorldView). EndsWith c.script_on-status.result (EndsSurely text w new) before after) c.new-world.ensures ran.1)
