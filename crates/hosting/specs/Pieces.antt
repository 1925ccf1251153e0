-- What a group changes, in pieces that the store takes.
use Rattle.std.specs.Prelude.{◌≡◌, ◌⊎◌, ⊤, ℕ, Bool, true, ◌+◌, ◌-◌, ◌&&◌, nat_le, List, [], ◌∷◌, ◌++◌, length, Option, Some, None, if◌then◌else◌}
use Rattle.std.specs.List.{AllByRecursion}
use Rattle.node_core.specs.declared.refusals.Fault.{Fault}
use Rattle.rows_cell.specs.declared.tables.Edit.{Edit}
use Rattle.rows_cell.specs.declared.tables.Edit.TheVariants.{PutNode}
use Rattle.rows_cell.specs.declared.tables.Rows.{Rows}
use Rattle.rows_cell.specs.Rows.{changed_rows}
use Rattle.rows_cell.specs.Sound.{sound}
use Rattle.rows_cell.specs.Stores.{Store, IsCommitted, IsRefused}
use Rattle.master_state.specs.State.{MasterState}
use Rattle.over_core.specs.Sweep.{sweep_edits}
use Rattle.hosting.specs.declared.pieces.GroupLimits.{GroupLimits}

-- ---- what is within the limits

-- of a node its content; of all else nothing
abbrev pub content_bytes : Edit → ℕ
content_bytes (PutNode name node) = length node.content
content_bytes edit = 0

-- 2,048 bytes for an edit, beside the content that it writes
abbrev pub weight : Edit → ℕ
weight edit = 2048 + content_bytes edit

abbrev pub total_weight : List Edit → ℕ
total_weight [] = 0
total_weight (edit ∷ edits) = weight edit + total_weight edits

abbrev pub is_within : GroupLimits → List Edit → Bool
is_within limits edits = nat_le (length edits) limits.edits && nat_le (total_weight edits) limits.bytes

-- how many bytes are left after edits, where they fit
abbrev pub bytes_left : ℕ → List Edit → Option ℕ
bytes_left room edits = if nat_le (total_weight edits) room then Some (room - total_weight edits) else None

-- ---- the pieces

-- those that are full, and the last one
pub record HeldPieces : Type 0 where
  pub limits : GroupLimits
  pub full : List (List Edit)
  pub last : List Edit

abbrev pub no_pieces : GroupLimits → HeldPieces
no_pieces limits = record { limits = limits; full = []; last = [] }

-- how many bytes are left in the last piece after these edits, where they fit into it
abbrev pub room_beside : HeldPieces → List Edit → Option ℕ
room_beside held edits = if is_within held.limits (held.last ++ edits) then Some (held.limits.bytes - total_weight (held.last ++ edits)) else None

-- a last piece that holds something is full
abbrev pub full_with : List (List Edit) → List Edit → List (List Edit)
full_with full [] = full
full_with full (edit ∷ last) = full ++ (edit ∷ last) ∷ []

-- these edits begin a piece
abbrev pub begun : HeldPieces → List Edit → HeldPieces
begun held edits = record held { full = full_with held.full held.last; last = edits }

-- what one sweep changes goes into the last piece, where that stays within the limits
abbrev pub held_with : HeldPieces → List Edit → HeldPieces
held_with held [] = held
held_with held (edit ∷ edits) =
    if is_within held.limits (held.last ++ edit ∷ edits) then record held { last = held.last ++ edit ∷ edits } else begun held (edit ∷ edits)

abbrev pub all_pieces : HeldPieces → List (List Edit)
all_pieces held = held.full ++ held.last ∷ []

abbrev pub joined : List (List Edit) → List Edit
joined [] = []
joined (piece ∷ pieces) = piece ++ joined pieces

abbrev pub all_held : HeldPieces → List Edit
all_held held = joined (all_pieces held)

-- what one sweep commits
abbrev pub IsOneSweep : List Edit → Type 0
IsOneSweep edits = (s : MasterState) × (now : ℕ) × (edits ≡ sweep_edits s now)

-- each piece is within the limits, or is what one sweep commits
abbrev pub AreTaken : GroupLimits → List (List Edit) → Type 0
AreTaken limits pieces = AllByRecursion (λ piece. (is_within limits piece ≡ true) ⊎ IsOneSweep piece) pieces

-- ---- their commits

-- the rows are sound after each piece
abbrev pub AreSound : List ℕ → Rows → List (List Edit) → Type 0
AreSound cell rows [] = ⊤
AreSound cell rows (piece ∷ pieces) = (sound cell (changed_rows rows piece) ≡ true) × AreSound cell (changed_rows rows piece) pieces

-- each is committed, one after the other
abbrev pub CommitsEach : List (List Edit) → Store → Store → Type 0
CommitsEach [] old new = new ≡ old
CommitsEach (piece ∷ pieces) old new = (mid : Store) × IsCommitted piece old mid × CommitsEach pieces mid new

-- some were committed, and the store refused the next one
abbrev pub IsCutShort : Fault → List (List Edit) → Store → Store → Type 0
IsCutShort fault pieces old new =
    (front : List (List Edit)) × (piece : List Edit) × (back : List (List Edit)) × (mid : Store)
    × (pieces ≡ front ++ piece ∷ back) × CommitsEach front old mid × IsRefused fault piece mid new
