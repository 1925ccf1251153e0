use denote.Param.{param}
use Rattle.std.proofs.Common.{◌≡◌, false, subst, rules}
use Rattle.std.specs.Option.{option_map}
use Rattle.over_core.specs.Kept.{CellState}
use Rattle.world_steps.specs.World.{WorldView, goes_past_end, ticked, held}
use Rattle.world_steps.specs.contracts.parts.WorldParts.{the_view}
use Rattle.world_steps.proofs.TickOutcomes.{left_alone, left_beside}
use Rattle.world_steps.proofs.parts.WorldParts.move_clocks.Goals as goal

pub returns-in-None : goal.returns-in-None
returns-in-None g c =
    subst (λ (v : WorldView). goes_past_end v.world c.args.ticks.now ≡ false → the_view (param 0 g.row.R) g.R.Records (record { alloc = c.self.inside.alloc; master = c.self.inside.master; records = c.self.inside.records; clock = c.saturating_add-now.result; clients = c.move_alone.new.self; messages = c.self.inside.messages; terms = c.self.inside.terms }) ≡ record v { world = ticked v.world c.args.ticks.now }) c.self.view_is
    (left_alone (held (option_map (λ (x : CellState). x.store) c.self.inside.master) (option_map g.R.Records.store c.self.inside.records)) c.self.inside.clock c.self.inside.clients c.self.inside.messages.items c.self.inside.terms c.args.ticks.now c.saturating_add-now.result c.move_alone.new.self c.saturating_add-now.ensures (option_map (λ (x : CellState). x.master) c.self.inside.master) (search rules) c.move_alone.ensures)

pub returns-in-Some : goal.returns-in-Some
returns-in-Some g c =
    subst (λ (v : WorldView). goes_past_end v.world c.args.ticks.now ≡ false → the_view (param 0 g.row.R) g.R.Records (record { alloc = c.self.inside.alloc; master = c.self.inside.master; records = c.self.inside.records; clock = c.saturating_add-now.result; clients = c.move_beside.new.self; messages = c.self.inside.messages; terms = c.self.inside.terms }) ≡ record v { world = ticked v.world c.args.ticks.now }) c.self.view_is
    (left_beside (held (option_map (λ (x : CellState). x.store) c.self.inside.master) (option_map g.R.Records.store c.self.inside.records)) c.self.inside.clock c.self.inside.clients c.self.inside.messages.items c.self.inside.terms c.args.ticks.now c.saturating_add-now.result c.move_beside.new.self c.saturating_add-now.ensures (option_map (λ (x : CellState). x.master) c.self.inside.master) c.in-Some.field-0.master (search rules) c.move_beside.ensures)
