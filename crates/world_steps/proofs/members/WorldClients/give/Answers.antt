use Rattle.std.proofs.Common.{◌≡◌, rules, Some}
use Rattle.std.specs.Map.{lookup, set_value}
use Rattle.std.specs.BTreeMap.{is_at}
use Rattle.std.specs.Ordering.{nat_cmp}
use Rattle.client_core.specs.Gives.{give_step}
use Rattle.world_steps.proofs.MemberAnswers.{member_answers, give_leaves}
use Rattle.world_steps.proofs.members.WorldClients.give.Goals as goal

pub returns-clause-some : goal.returns-clause-some
returns-clause-some c =
    let found : lookup (is_at (nat_cmp c.args.number)) c.self.inside.clients.entries ≡ Some c.in-Some.member.now = search rules in
    let is : (c.get_mut.follows.lender (record c.in-Some.member.now { client = c.give.new.self })).entries ≡ set_value (is_at (nat_cmp c.args.number)) c.self.inside.clients.entries (record c.in-Some.member.now { client = c.give.new.self }) = search rules in
    rw (← c.self.view_is) (c.in-Some.member.now, found, member_answers c.self.inside.clients.entries _ c.args.number c.in-Some.member.now c.give.new.self c.give.result (give_step c.in-Some.member.now.client c.in-Some.member.now.clock c.args.out.now) found is c.give.ensures (give_leaves c.in-Some.member.now.client c.in-Some.member.now.clock c.args.out.now))
