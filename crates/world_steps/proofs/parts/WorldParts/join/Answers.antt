use denote.Param.{param}
use Rattle.std.proofs.Common.{◌≡◌, subst, rules}
use Rattle.std.specs.Prelude.{is_some}
use Rattle.world_steps.specs.Members.{Clients}
use Rattle.world_steps.specs.World.{WorldView, member_of}
use Rattle.world_steps.specs.contracts.parts.WorldParts.{the_view}
use Rattle.world_steps.proofs.JoinOutcomes.{refused_new}
use Rattle.world_steps.proofs.parts.WorldParts.join.Goals as goal

pub returns-clause-ok : goal.returns-clause-ok
returns-clause-ok g c = search rules

pub returns-in_err-join-clause-fault : goal.returns-in_err-join-clause-fault
returns-in_err-join-clause-fault g c =
    refused_new c.from_residual.result c.args.self.now c.args.number c.args.principal.now c.is_taken.result
    (λ (clients : Clients). the_view (param 0 g.row.R) g.R.Records (record { alloc = c.self.inside.alloc; master = c.self.inside.master; records = c.self.inside.records; clock = c.self.inside.clock; clients = clients; messages = c.self.inside.messages; terms = c.self.inside.terms }))
    c.self.inside.clients c.join.new.self c.in_err-join.ensures.err c.self.view_is (search rules)
    (subst (λ (v : WorldView). c.is_taken.result ≡ is_some (member_of v.world c.args.number)) c.self.view_is c.is_taken.ensures) c.if-is_taken.false
