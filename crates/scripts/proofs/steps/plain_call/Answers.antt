use Rattle.scripts.proofs.Lifts.{passed, plain, after_one, after_three}
use Rattle.scripts.proofs.Written.{set_content, set_written, set_generation, acl_generation, acl_part, acl_written}
use Rattle.scripts.proofs.steps.plain_call.Goals as goal

pub returns-in_err-content_of-in-set-len1-up : goal.returns-in_err-content_of-in-set-len1-up
returns-in_err-content_of-in-set-len1-up c =
    plain _ c.from_residual-in_err-content_of-in-set-len1-up.result c.in_err-content_of-in-set-len1-up.field-0.0 c.from_residual-in_err-content_of-in-set-len1-up.ensures
    (set_content _ _ _ _ c.in-set-len1-up.is-set-0 (after_one c.args.words.now c.in-set-len1-up.len_at_least)) c.in_err-content_of-in-set-len1-up.ensures

pub returns-in_err-generation-in-acl-len3-up : goal.returns-in_err-generation-in-acl-len3-up
returns-in_err-generation-in-acl-len3-up c =
    plain _ c.from_residual-in_err-generation-in-acl-len3-up.result c.in_err-generation-in-acl-len3-up.field-0.0 c.from_residual-in_err-generation-in-acl-len3-up.ensures
    (acl_generation _ _ _ _ _ _ c.in-acl-len3-up.is-acl-0 (after_three c.args.words.now c.in-acl-len3-up.len_at_least)) c.in_err-generation-in-acl-len3-up.ensures

pub returns-in_err-acls-in-acl-len3-up : goal.returns-in_err-acls-in-acl-len3-up
returns-in_err-acls-in-acl-len3-up c =
    passed c.from_residual-in_err-acls-in-acl-len3-up.result c.in_err-acls-in-acl-len3-up.field-0.0 c.from_residual-in_err-acls-in-acl-len3-up.ensures
    (acl_part _ _ _ _ _ _ c.in_ok-generation-in-acl-len3-up.generation c.in-acl-len3-up.is-acl-0 (after_three c.args.words.now c.in-acl-len3-up.len_at_least) c.in_ok-generation-in-acl-len3-up.ensures.0) c.in_err-acls-in-acl-len3-up.ensures

pub returns-in_ok-content_of-in-set-len1-up : goal.returns-in_ok-content_of-in-set-len1-up
returns-in_ok-content_of-in-set-len1-up c =
    (set_written _ _ _ _ _ c.in_ok-generation-in-set-len1-up.generation c.in-set-len1-up.is-set-0 (after_one c.args.words.now c.in-set-len1-up.len_at_least) c.in_ok-content_of-in-set-len1-up.ensures.0 c.in_ok-generation-in-set-len1-up.ensures.0, c.in_ok-content_of-in-set-len1-up.ensures.1)

pub returns-in_ok-acls-in-acl-len3-up : goal.returns-in_ok-acls-in-acl-len3-up
returns-in_ok-acls-in-acl-len3-up c =
    (acl_written _ _ _ _ _ _ c.in_ok-acls-in-acl-len3-up.acls c.in_ok-generation-in-acl-len3-up.generation c.in-acl-len3-up.is-acl-0 (after_three c.args.words.now c.in-acl-len3-up.len_at_least) c.in_ok-generation-in-acl-len3-up.ensures.0 c.in_ok-acls-in-acl-len3-up.ensures.0, c.in_ok-acls-in-acl-len3-up.ensures.1)

pub returns-in_err-generation-in-set-len1-up : goal.returns-in_err-generation-in-set-len1-up
returns-in_err-generation-in-set-len1-up c =
    plain _ c.from_residual.result c.in_err-generation-in-set-len1-up.field-0.0 c.from_residual.ensures
    (set_generation _ _ _ _ c.in-set-len1-up.is-set-0 (after_one c.args.words.now c.in-set-len1-up.len_at_least)) c.in_err-generation-in-set-len1-up.ensures
