use Rattle.std.proofs.Common.{◌≡◌, ℕ, Option, Some, None, refl}
use Rattle.std.specs.Prelude.{◌+◌}
use Rattle.std.specs.Option.{option_map_or}
use Rattle.tags_cell.specs.declared.messages.outs.Reply.{Reply}
use Rattle.session_core.specs.declared.records.Parked.{Parked}
use Rattle.session_core.specs.declared.records.Session.{Session}
use Rattle.session_core.specs.Session.{answered, prolonged, unparked}
use Rattle.master_parts.proofs.Kept.{by_step}
use Rattle.master_parts.proofs.tables.Tables.answer.Goals as goal

stays_live : (lease now : ℕ) (session : Session Reply) → (answered lease now session).live ≡ session.live
stays_live lease now session =
    elim session.parked as (λ (o : Option Parked). (option_map_or (λ beat. prolonged (now + lease) (unparked now session)) o session).live ≡ session.live) [ None ↦ refl | Some beat ↦ refl ]

pub invariant_of-self : goal.invariant_of-self
invariant_of-self c =
    by_step c.self.inside.nodes c.self.inside.handles c.self.inside.sessions c.answer.new.self c.self.inside.queue c.self.inside.candidates c.args.client (answered c.self.inside.sessions.lease c.args.now) (stays_live c.self.inside.sessions.lease c.args.now) c.answer.ensures c.self.invariant
