use Rattle.std.proofs.Common.{sym, subst, ◌∙◌}
use Rattle.tags_cell.specs.Numbers.{IsClientNumber}
use Rattle.hosting.proofs.Hearings.{told_cut, told_stranger, told_reads, told_refuses}
use Rattle.hosting.proofs.heard.read_message.Goals as goal

pub returns-then-bytes-lt8 : goal.returns-then-bytes-lt8
returns-then-bytes-lt8 c = λ other. told_cut c.args.bytes.now c.if-bytes-lt8.true

pub returns-in_default : goal.returns-in_default
returns-in_default c = λ other. told_stranger _ _ _ c.if-bytes-lt8.false c.split_at.ensures.front c.read_u64.ensures c.in_default.ensures

pub returns-in-Ok : goal.returns-in-Ok
returns-in-Ok c =
    told_reads _ _ _ c.in-Some.client _ c.requires c.if-bytes-lt8.false c.split_at.ensures.front c.split_at.ensures.back (c.in-Some.ensures.1 ∙ c.read_u64.ensures) (subst IsClientNumber (sym c.in-Some.ensures.1) c.in-Some.ensures.0) c.in-Ok.ensures.message

pub returns-in-Err : goal.returns-in-Err
returns-in-Err c = λ other. told_refuses _ _ _ c.in-Some.client _ c.requires c.if-bytes-lt8.false c.split_at.ensures.front c.split_at.ensures.back (c.in-Some.ensures.1 ∙ c.read_u64.ensures) (subst IsClientNumber (sym c.in-Some.ensures.1) c.in-Some.ensures.0) (c.in-Err.ensures.message other)
