use denote.Param.{param}
use Rattle.std.proofs.Common.{false, [], Option, Some, List, subst, sym}
use Rattle.std.specs.Option.{option_map_or}
use Rattle.over_core.specs.Kept.{CellState}
use Rattle.over_core.specs.Sweep.{sweep_step, sweep_edits, sweep_frees}
use Rattle.world_steps.specs.declared.mail.Message.{Message}
use Rattle.world_steps.specs.World.{WorldView, IsLeft}
use Rattle.world_steps.specs.contracts.parts.WorldParts.{the_view}
use Rattle.world_steps.proofs.LeftSweeps.{sweep_left, whenever, world_of}
use Rattle.world_steps.proofs.parts.WorldParts.sweep.Goals as goal

pub returns-in_err-swept-clause-left : goal.returns-in_err-swept-clause-left
returns-in_err-swept-clause-left g c =
    let s = c.self.inside in
    let after : CellState = c.sweep_with_room.new.self in
    let view : Option CellState → WorldView = λ master. the_view (param 0 g.row.R) g.R.Records (record { alloc = s.alloc; master = master; records = s.records; clock = s.clock; clients = s.clients; messages = s.messages; terms = s.terms }) in
    let new : WorldView = the_view (param 0 g.row.R) g.R.Records (record { alloc = s.alloc; master = Some after; records = s.records; clock = s.clock; clients = s.clients; messages = c.sweep_with_room.new.room; terms = s.terms }) in
    let Left : WorldView → Type 0 = λ v. IsLeft (option_map_or (λ master. sweep_frees master v.world.clock) v.world.master false) (option_map_or (λ master. sweep_edits master v.world.clock) v.world.master []) v new in
    let here : Left (view (Some c.in-Some.cell)) =
    subst (λ (sent : List Message). IsLeft (sweep_frees c.in-Some.cell.master s.clock) (sweep_edits c.in-Some.cell.master s.clock) (view (Some c.in-Some.cell)) (world_of after.store after.master s.clock s.clients sent s.terms)) (sym c.in_err-swept.ensures.items) (sweep_left (sweep_frees c.in-Some.cell.master s.clock) (sweep_edits c.in-Some.cell.master s.clock) c.in_err-swept.field-0.0 (sweep_step c.in-Some.cell.master s.clock) c.in-Some.cell after s.clock s.clients s.messages.items s.terms c.in_err-swept.ensures.err c.in_err-swept.ensures.fault) in
    whenever c.from_residual.result _ (subst Left c.self.view_is (subst (λ (master : Option CellState). Left (view master)) (sym c.in-Some.is) here))
