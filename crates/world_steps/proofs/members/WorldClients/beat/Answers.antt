use Rattle.std.proofs.Common.{◌≡◌, sym, rules, Some}
use Rattle.std.specs.Map.{lookup, set_value}
use Rattle.std.specs.BTreeMap.{is_at}
use Rattle.std.specs.Ordering.{nat_cmp}
use Rattle.client_core.specs.Beats.{beat_step}
use Rattle.world_steps.proofs.MemberAnswers.{member_answers, beat_leaves}
use Rattle.world_steps.proofs.members.WorldClients.beat.Goals as goal

pub returns-clause-some : goal.returns-clause-some
returns-clause-some c =
    let found : lookup (is_at (nat_cmp c.args.number)) c.self.inside.clients.entries ≡ Some c.in-Some.member.now = sym c.in-Some.ensures.value in
    let is : (c.get_mut.follows.lender (record c.in-Some.member.now { client = c.beat.new.self })).entries ≡ set_value (is_at (nat_cmp c.args.number)) c.self.inside.clients.entries (record c.in-Some.member.now { client = c.beat.new.self }) = search rules in
    rw (← c.self.view_is) (c.in-Some.member.now, found, member_answers c.self.inside.clients.entries _ c.args.number c.in-Some.member.now c.beat.new.self c.beat.result (beat_step c.in-Some.member.now.client c.in-Some.member.now.clock) found is c.beat.ensures (beat_leaves c.in-Some.member.now.client c.in-Some.member.now.clock))
