use Rattle.scripts.proofs.Lifts.{passed, four_words}
use Rattle.scripts.proofs.Written.{new_acls_part, new_acls_written}
use Rattle.scripts.proofs.steps.new_acls.Goals as goal

pub returns-in_err-acl_names-in-acl : goal.returns-in_err-acl_names-in-acl
returns-in_err-acl_names-in-acl c =
    passed c.from_residual.result c.in_err-acl_names-in-acl.field-0.0 c.from_residual.ensures
    (new_acls_part _ _ _ _ _ c.in-acl.is-acl (four_words c.args.words.now c.in-acl.len_at_least c.in-acl.len_below)) c.in_err-acl_names-in-acl.ensures

pub returns-in_ok-acl_names-in-acl : goal.returns-in_ok-acl_names-in-acl
returns-in_ok-acl_names-in-acl c =
    (new_acls_written _ _ _ _ _ _ c.in-acl.is-acl (four_words c.args.words.now c.in-acl.len_at_least c.in-acl.len_below) c.in_ok-acl_names-in-acl.ensures.0, c.in_ok-acl_names-in-acl.ensures.1)
