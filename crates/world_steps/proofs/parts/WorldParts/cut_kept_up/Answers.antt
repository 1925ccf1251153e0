use denote.Param.{param}
use Rattle.std.proofs.Common.{◌≡◌, Some, None, true, subst, ap, ◌∙◌, rules}
use Rattle.std.specs.Prelude.{is_some}
use Rattle.over_core.specs.Kept.{CellState}
use Rattle.world_steps.specs.declared.steps.Commit.TheVariants.{Kept}
use Rattle.world_steps.specs.World.{WorldView, store_in}
use Rattle.world_steps.specs.contracts.parts.WorldParts.{the_view}
use Rattle.world_steps.proofs.RefusedUp.{of_records, is_up_then, none_up_then}
use Rattle.world_steps.proofs.CutUps.{cut_up_made, cut_up_refused, cut_twice}
use Rattle.world_steps.proofs.parts.WorldParts.cut_kept_up.Goals as goal

pub returns-in-None-clause-refused : goal.returns-in-None-clause-refused
returns-in-None-clause-refused g c =
    let new : WorldView = the_view (param 0 g.row.R) g.R.Records (record { alloc = c.self.inside.alloc; master = c.self.inside.master; records = c.take.new.self; clock = c.self.inside.clock; clients = c.self.inside.clients; messages = c.self.inside.messages; terms = c.self.inside.terms }) in
    let gone : c.self.inside.records ≡ None = search rules in
    let same : c.take.new.self ≡ c.self.inside.records = search rules in
    let stays = ap (λ r. the_view (param 0 g.row.R) g.R.Records (record { alloc = c.self.inside.alloc; master = c.self.inside.master; records = r; clock = c.self.inside.clock; clients = c.self.inside.clients; messages = c.self.inside.messages; terms = c.self.inside.terms })) same in
    cut_twice c.args.self.now new c.args.now Kept (subst (λ (v : WorldView). is_some v.world.master ≡ true) c.self.view_is (is_up_then (λ (c : CellState). c.master) c.self.inside.master c.self.inside.records c.self.invariant.0 gone)) (stays ∙ c.self.view_is)

pub returns-in-Ok-clause-made : goal.returns-in-Ok-clause-made
returns-in-Ok-clause-made g c =
    let new : WorldView = the_view (param 0 g.row.R) g.R.Records (record { alloc = c.self.inside.alloc; master = c.self.inside.master; records = c.replace.new.self; clock = c.self.inside.clock; clients = c.self.inside.clients; messages = c.self.inside.messages; terms = c.self.inside.terms }) in
    let there : c.self.inside.records ≡ Some c.in-Some.records = search rules in
    let none = none_up_then (λ (c : CellState). c.master) c.self.inside.master c.self.inside.records c.in-Some.records c.self.invariant.0 there in
    let behind : store_in new ≡ c.in-Ok.cell.store =
    of_records (λ (c : CellState). c.master) (λ (c : CellState). c.store) g.R.Records.store c.self.inside.master c.replace.new.self c.down-records.result none c.replace.ensures.after ∙ c.down-records.ensures in
    cut_up_made c.args.self.now new c.args.now (g.R.Records.store c.in-Some.records) c.in-Ok.cell.store (search rules) (search rules) behind (search rules) c.self.inside.terms (search rules) c.in-Ok.cell.master c.set.new.self c.in-Ok.ensures.ok (search rules)

pub returns-in-Err-clause-refused : goal.returns-in-Err-clause-refused
returns-in-Err-clause-refused g c =
    let new : WorldView = the_view (param 0 g.row.R) g.R.Records (record { alloc = c.self.inside.alloc; master = c.self.inside.master; records = c.replace-in-Err.new.self; clock = c.self.inside.clock; clients = c.self.inside.clients; messages = c.self.inside.messages; terms = c.self.inside.terms }) in
    let behind = of_records (λ (c : CellState). c.master) (λ (c : CellState). c.store) g.R.Records.store c.self.inside.master c.replace-in-Err.new.self c.in-Err.records (search rules) c.replace-in-Err.ensures.after in
    cut_up_refused c.args.self.now new c.args.now (g.R.Records.store c.in-Some.records) (g.R.Records.store c.in-Err.records) (search rules) (search rules) behind (search rules) c.self.inside.terms (search rules) c.in-Err.fault c.in-Err.ensures.fault
