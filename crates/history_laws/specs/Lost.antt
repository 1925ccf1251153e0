-- A group of frames that is lost: the store refused a piece of what it changed, and nobody was told of any of it.
use Rattle.std.specs.Prelude.{◌≡◌, ◌⊎◌, ℕ, ◌+◌, nat_le, List, [], ◌∷◌, ◌++◌, map, length, Option, None, if◌then◌else◌}
use Rattle.std.proofs.Common.{inl, inr}
use Rattle.node_core.specs.declared.lines.Line.{Line}
use Rattle.node_core.specs.declared.lines.Line.TheVariants as lines
use Rattle.node_core.specs.declared.refusals.Fault.{Fault}
use Rattle.rows_cell.specs.declared.settings.MasterTerms.{MasterTerms}
use Rattle.rows_cell.specs.declared.tables.Rows.{Rows}
use Rattle.rows_cell.specs.Stores.{Store}
use Rattle.tags_cell.specs.declared.messages.outs.Out.{Out}
use Rattle.world_steps.specs.declared.mail.Message.{Message}
use Rattle.world_steps.specs.declared.mail.Message.TheVariants.{ToClient}
use Rattle.over_core.specs.Kept.{CellState}
use Rattle.hosting.specs.declared.pieces.GroupLimits.{GroupLimits}
use Rattle.hosting.specs.Seats.{Hosted, with_master}
use Rattle.hosting.specs.Parted.{BeginsNext, StandsSo}
use Rattle.hosting.specs.Groups.{LostGroup}
use Rattle.history_laws.specs.Parts.{Parts, Deed, Takes, Hears}
use Rattle.history_laws.specs.Histories.{Clocks, Entry, History}
use Rattle.history_laws.specs.Hosted.{Known, IsHostedIn, IsPossibleFrame, IsAtMoment, ComeAt, AreAtClocks, answers_outs, behind_frame}

-- rows are one of these
abbrev pub IsAmong : Rows → List Rows → Type 0
IsAmong rows [] = ⊥
IsAmong rows (first ∷ rest) = (rows ≡ first) ⊎ IsAmong rows rest

-- what the next master finds: the rows that stand, or some that a crash may leave
abbrev pub IsLeftBy : Store → Rows → Type 0
IsLeftBy store rows = (rows ≡ store.rows) ⊎ IsAmong rows store.may_leave

-- of the clocks after those of the frames that were done one belongs to the frame that was begun, if one was, and the last to the master's end
abbrev pub EndAt : Parts → List Clocks → (rest : Known) (cell : CellState) (store : Store) → (store ≡ cell.store) ⊎ BeginsNext rest cell store → Type 0
EndAt p clocks rest cell store (inl same) = (end : Clocks) × (clocks ≡ end ∷ [])
EndAt p clocks rest cell store (inr next) = (now : Clocks) × (end : Clocks) × (clocks ≡ now ∷ end ∷ []) × IsPossibleFrame p next.sent × IsAtMoment now next.sent

-- these clocks belong to the frames of a group up to this step of its master, one to each, and to the master's end: each frame is possible when its turn comes, and says the moment that the
-- master's clock shows
abbrev pub ComeTo : Parts → List Clocks → (terms : MasterTerms) (text : Known) (old : Hosted) (store : Store) → StandsSo terms text old store → Type 0
ComeTo p clocks terms text old store stands =
    (front : List Clocks) × (back : List Clocks) × (clocks ≡ front ++ back) × ComeAt p front terms text old stands.answers (with_master stands.cell) stands.rest stands.turns
    × EndAt (behind_frame p (with_master stands.cell) (answers_outs stands.answers)) back stands.rest stands.cell store stands.so

-- a history at these clocks in which the master is gone in the end, over these rows, and nobody hears of what it had to tell
pub record EndsUnheard (p : Parts) (clocks : List Clocks) (rows : Rows) : Type 0 where
  pub entries : List Entry
  pub printed : List Line
  pub unheard : List Out
  pub at : AreAtClocks clocks entries
  pub does : History p entries (printed ++ lines.Down ∷ []) (record p { rows = rows; master = None; told = p.told ++ map ToClient unheard })

-- the end of a lost group is an end of its master: whichever rows the next master finds, those that stand or those that the refused commit may leave after a crash, they are as a step of the
-- master left them, after which it is gone
abbrev pub LostGroupsAreEnds : Type 0
LostGroupsAreEnds =
    (p : Parts) (limits : GroupLimits) (text : Known) (old : Hosted) (fault : Fault) (new : Hosted) (rows : Rows)
    → LostGroup (record { master = p.terms; limits = limits }) text old fault new → IsHostedIn p old → new.store.doubt ≡ 0 → IsLeftBy new.store rows
    → (store : Store) × (stands : StandsSo p.terms text old store) × (store.rows ≡ rows) × ((clocks : List Clocks) → ComeTo p clocks p.terms text old store stands → EndsUnheard p clocks rows)

-- ---- messages of which nobody hears

-- the place of a message, if so many others stand after so many first ones
abbrev pub place_beside : (first more at : ℕ) → ℕ
place_beside first more at = if nat_le at first then at else at + more

abbrev pub deed_beside : (first more : ℕ) → Deed → Deed
deed_beside first more (Takes at) = Takes (place_beside first more at)
deed_beside first more (Hears at) = Hears (place_beside first more at)
deed_beside first more deed = deed

abbrev pub entry_beside : (first more : ℕ) → Entry → Entry
entry_beside first more entry = record entry { deed = deed_beside first more entry.deed }

-- what can be if some messages weren't told can be if they were told and nobody hears of them: the same deeds at the same clocks, with the same lines and messages
abbrev pub UnheardAreAsUntold : Type 0
UnheardAreAsUntold =
    (p new : Parts) (unheard : List Message) (entries : List Entry) (printed : List Line)
    → History p entries printed new
    → (more : List Message) × (new.told ≡ p.told ++ more)
    × History (record p { told = p.told ++ unheard }) (map (entry_beside (length p.told) (length unheard)) entries) printed (record new { told = p.told ++ (unheard ++ more) })
