-- A handle and its parts own what a box of the same client owns.
use mir.Syntax.{impl, tnil, dnil}
use mathlib.Core.List.{[]}
use denote.Signature.{Slot, plain}
use Rattle.std_alloc.proofs.BoxSteps.Form.{Bx}
use Rattle.std_heap.specs.contracts.Global as Heap
use Rattle.std_heap.specs.contracts.GlobalAllocator.TheImpl.{ghosts, dict}
use Rattle.std_heap.proofs.Global.TheLaws as heap
use Rattle.client_exports.specs.contracts.held.HeldClient as HeldClient
use Rattle.client_exports.proofs.held.HeldClient.TheLaws as held
use Rattle.client_exports.specs.contracts.parts.BoxParts as BoxParts
use Rattle.client_exports.specs.contracts.handles.OwnedClient as OwnedClient

abbrev pub E : Bx
E = record { row = HeldClient.the_row; laws = held.the_row_laws; al = record { row = Heap.the_row; laws = heap.the_row_laws; g = ghosts; d = dict; drops = impl [] tnil dnil } }

abbrev pub FromParts : Slot 0
FromParts = plain (λ _. BoxParts.the_row HeldClient.the_row Heap.the_row ghosts)

abbrev pub FromHandle : Slot 0
FromHandle = plain (λ _. OwnedClient.the_row)
