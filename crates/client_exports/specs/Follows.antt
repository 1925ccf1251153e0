-- What a handle holds once a loan of its client ends.
use base.Fml.{Fml}
use denote.Ref.{MutBor}
use denote.Follow.{follows}
use Rattle.client_exports.specs.States.{HeldState}
use Rattle.client_exports.specs.contracts.held.HeldClient as HeldClient
use Rattle.client_exports.specs.declared.handles.OwnedClient.{OwnedClient}
use Rattle.client_exports.specs.contracts.handles.OwnedClient as H

-- the handle with another value
abbrev pub with_value : OwnedClient → HeldState → OwnedClient
with_value h w = record { at = h.at; alloc = h.alloc; value = w }

-- once the borrow r ends, the handle behind h holds the last value written through r
abbrev pub handle_follows : MutBor OwnedClient → MutBor HeldState → Fml
handle_follows h r = follows H.the_row HeldClient.the_row h.ghost_name r.ghost_name (with_value h.now)
