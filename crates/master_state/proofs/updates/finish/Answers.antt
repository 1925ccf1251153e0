use Rattle.std.proofs.Common.{ap, ◌∙◌}
use Rattle.master_state.specs.Updates.{with_session_rest, with_kept, with_map, without_lock, recovered, left}
use Rattle.master_state.proofs.updates.finish.Goals as goal

pub returns : goal.returns
returns c =
    c.finish_last.ensures
    ∙ ap (λ s. left (recovered (without_lock s c.args.rest.ends_lock) c.args.rest.recovers) c.args.rest.leaves)
    (c.finish_map.ensures
    ∙ ap (λ s. with_map s c.args.rest.map)
    (c.keep.ensures ∙ ap (λ s. with_kept s c.args.rest.kept) (c.finish_session.ensures ∙ ap (λ s. with_session_rest s c.args.rest.session) c.forget_all.ensures)))
