use denote.Param.{param}
use Rattle.std.proofs.Common.{◌≡◌, None, true, subst, ap, ◌∙◌, rules}
use Rattle.std.specs.Prelude.{is_some}
use Rattle.std.specs.Option.{option_map}
use Rattle.over_core.specs.Kept.{CellState}
use Rattle.world_steps.specs.World.{WorldView}
use Rattle.world_steps.specs.contracts.parts.WorldParts.{the_view}
use Rattle.world_steps.proofs.RefusedUp.{of_records, with_master, came_up_made, refused_up, is_up_then, refused_twice, up_view}
use Rattle.world_steps.proofs.parts.WorldParts.up.Goals as goal

pub returns-in-Err-clause-refused : goal.returns-in-Err-clause-refused
returns-in-Err-clause-refused g c =
    let new : WorldView = the_view (param 0 g.row.R) g.R.Records (record { alloc = c.self.inside.alloc; master = c.self.inside.master; records = c.replace-in-Err.new.self; clock = c.self.inside.clock; clients = c.self.inside.clients; messages = c.self.inside.messages; terms = c.self.inside.terms }) in
    refused_up c.args.self.now new c.args.now c.self.inside.terms (g.R.Records.store c.in-Some.records) (g.R.Records.store c.in-Err.records) (search rules) (search rules) (search rules) c.in-Err.fault c.in-Err.ensures.fault (of_records (λ (c : CellState). c.master) (λ (c : CellState). c.store) g.R.Records.store c.self.inside.master c.replace-in-Err.new.self c.in-Err.records (search rules) c.replace-in-Err.ensures.after) (search rules)

pub returns-in-None-clause-refused : goal.returns-in-None-clause-refused
returns-in-None-clause-refused g c =
    let new : WorldView = the_view (param 0 g.row.R) g.R.Records (record { alloc = c.self.inside.alloc; master = c.self.inside.master; records = c.take.new.self; clock = c.self.inside.clock; clients = c.self.inside.clients; messages = c.self.inside.messages; terms = c.self.inside.terms }) in
    let gone : c.self.inside.records ≡ None = search rules in
    let same : c.take.new.self ≡ c.self.inside.records = search rules in
    let stays = ap (λ r. the_view (param 0 g.row.R) g.R.Records (record { alloc = c.self.inside.alloc; master = c.self.inside.master; records = r; clock = c.self.inside.clock; clients = c.self.inside.clients; messages = c.self.inside.messages; terms = c.self.inside.terms })) same in
    refused_twice c.args.self.now new c.args.now (subst (λ (v : WorldView). is_some v.world.master ≡ true) c.self.view_is (is_up_then (λ (c : CellState). c.master) c.self.inside.master c.self.inside.records c.self.invariant.0 gone)) (stays ∙ c.self.view_is)

pub returns-in-Ok-clause-made : goal.returns-in-Ok-clause-made
returns-in-Ok-clause-made g c =
    let new : WorldView = the_view (param 0 g.row.R) g.R.Records (record { alloc = c.self.inside.alloc; master = c.replace.new.self; records = c.take.new.self; clock = c.args.now; clients = c.come_up.new.self; messages = c.self.inside.messages; terms = c.self.inside.terms }) in
    let behind = up_view (λ (c : CellState). c.master) (λ (c : CellState). c.store) c.replace.new.self c.in-Ok.cell (option_map g.R.Records.store c.take.new.self) c.args.now c.come_up.new.self c.self.inside.clients c.self.inside.messages.items c.self.inside.terms c.replace.ensures.after c.come_up.ensures in
    came_up_made c.args.self.now new c.args.now c.self.inside.terms (g.R.Records.store c.in-Some.records) c.in-Ok.cell.store (search rules) (search rules) (search rules) c.in-Ok.cell.master c.set.new.self c.in-Ok.ensures.ok c.kept.ensures (subst (λ (v : WorldView). new ≡ with_master v c.args.now c.in-Ok.cell.store c.in-Ok.cell.master) c.self.view_is behind) (search rules)
