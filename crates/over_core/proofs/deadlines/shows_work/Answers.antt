use Rattle.std.proofs.Common.{◌≡◌, ap, sym, ◌∙◌}
use Rattle.tags_cell.specs.declared.messages.outs.Reply.{Reply}
use Rattle.master_state.specs.State.{MasterState}
use Rattle.session_core.specs.Sessions.{SessionTable, has_work}
use Rattle.over_core.proofs.Later.{work_shown}
use Rattle.over_core.proofs.deadlines.shows_work.Goals as goal

pub returns : goal.returns
returns c =
    let same : c.sessions.result.now ≡ c.args.cell.now.sessions = c.sessions.ensures ∙ ap (λ (m : MasterState). m.sessions) c.master.ensures in
    λ shown. work_shown c.args.cell.now c.args.moment (sym (ap (λ (t : SessionTable Reply). has_work t c.args.moment) same) ∙ c.shows_work.ensures shown)
