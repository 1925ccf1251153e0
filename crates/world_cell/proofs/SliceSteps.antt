-- From a consistent world each step leads to where the slice of each client and name is reached.
use Rattle.std.proofs.Common.{◌≡◌, ℕ, true, false, List, Ok, Some, None, subst, ap, ◌∙◌}
use Rattle.coherence.specs.Slice.{Reached}
use Rattle.node_core.specs.declared.lines.Line.{Line}
use Rattle.tags_cell.specs.declared.messages.requests.Request.{Request}
use Rattle.tags_cell.specs.declared.messages.outs.Out.{Out}
use Rattle.tags_cell.specs.Messages.{out_client}
use Rattle.client_core.specs.declared.parts.asks.Ask.{Ask}
use Rattle.client_core.specs.Cases.{AskCase, asked_in, BeatCase, beaten_in, GiveCase, given_in}
use Rattle.master_state.specs.State.{MasterState}
use Rattle.master_state.specs.Lookups.{noted, is_spent}
use Rattle.cell_core.specs.Cases.{TakeCase}
use Rattle.over_core.specs.SweepCase.{SweepCase}
use Rattle.world_steps.specs.declared.members.WorldClient.{WorldClient}
use Rattle.world_steps.specs.declared.steps.Ticks.{Ticks}
use Rattle.world_steps.specs.Messages.{request_at, out_at}
use Rattle.world_steps.specs.World.{WorldState, member_of, asked, beaten, gave, ticked, are_fair, without_master, Agrees}
use Rattle.world_cell.specs.Slices.{slice, client_of}
use Rattle.world_cell.specs.Consistent.{IsConsistent, Fits, IsNoted, FitsMessages}
use Rattle.world_cell.proofs.SliceTicks.{behind_up, behind_join, reached_stays_at_ticks, reached_stays_at_up, reached_stays_at_down, reached_stays_at_join}
use Rattle.world_cell.proofs.SliceClients.{reached_stays_at_ask, reached_stays_at_beat, reached_stays_at_give}
use Rattle.world_cell.proofs.SliceTakes.{behind_take, reached_stays_at_take}
use Rattle.world_cell.proofs.SliceSweeps.{behind_sweep, reached_stays_at_sweep, LeavesOff}
use Rattle.world_cell.proofs.MasterFits.{application_sent}
use Rattle.over_core.specs.declared.actions.Action.{Action}

module _ (w : WorldState) (fits : IsConsistent w) (c : ℕ) (x : List ℕ) where
  pub reached_behind_ticks : (ticks : Ticks) → are_fair w.master w ticks ≡ true → Reached (slice c x (ticked w ticks))
  reached_behind_ticks ticks fair = reached_stays_at_ticks c x w ticks fair (fits.reached c x)

  pub reached_behind_up : (now : ℕ) → w.master ≡ None → Reached (slice c x (behind_up w now))
  reached_behind_up now down = reached_stays_at_up c x w now down fits.lease (fits.reached c x)

  pub reached_behind_join : (number : ℕ) (principal : List ℕ) → member_of w number ≡ None → Reached (slice c x (behind_join w number principal))
  reached_behind_join number principal free = reached_stays_at_join x w number principal c free (fits.reached c x)

  pub reached_behind_ask : (new : WorldState) (number : ℕ) (member : WorldClient) (printed : List Line) (ask : Ask) (case : AskCase member.client member.clock ask) → member_of w number ≡ Some member → asked w number member (asked_in member.client member.clock ask case) ≡ Ok (new, printed) → Reached (slice c x new)
  reached_behind_ask new number member printed ask case found made = reached_stays_at_ask c x w new fits member printed number ask case found made

  pub reached_behind_beat : (new : WorldState) (number : ℕ) (member : WorldClient) (printed : List Line) (case : BeatCase member.client member.clock) → member_of w number ≡ Some member → beaten w number member (beaten_in member.client member.clock case) ≡ Ok (new, printed) → Reached (slice c x new)
  reached_behind_beat new number member printed case found made = reached_stays_at_beat c x w new fits member printed number case found made

  pub reached_behind_give : (new : WorldState) (member : WorldClient) (at : ℕ) (out : Out) (printed : List Line) (case : GiveCase member.client member.clock out) → out_at w.messages at ≡ Some out → member_of w (out_client out) ≡ Some member → gave w (out_client out) member (given_in member.client member.clock out case) ≡ Ok (new, printed) → Reached (slice c x new)
  reached_behind_give new member at out printed case sent found made = reached_stays_at_give c x w new fits member printed at out case sent found made

  pub reached_behind_take : (s : MasterState) (at : ℕ) (request : Request) (case : TakeCase (noted s w.clock) request) → w.master ≡ Some s → request_at w.messages at ≡ Some request → is_spent s ≡ false → Reached (slice c x (behind_take w s request case))
  reached_behind_take s at request case up sent room =
      reached_stays_at_take c x w s at request case up (subst (IsNoted w.clock) up fits.noted) (subst (Agrees w) up fits.master)
      (record { fits = subst (Fits w) up fits.fits; named = fits.named; room = room })
      sent (fits.reached c x)

  -- who asked for the end of its session serves nothing any more
  leaves_off : (s : MasterState) → w.master ≡ Some s → LeavesOff x w (noted s w.clock)
  leaves_off s up front back asked call sequencer turn work leave =
      let there = noted s w.clock in
      let f : FitsMessages w.messages s = subst (Fits w) up fits.fits in
      let queue : FitsMessages w.messages there = record { queue = f.queue; kept = f.kept; replies = f.replies; answers = f.answers; turns = f.turns } in
      let sent = fits.sent asked.client asked.number (record { client = asked.client; epoch = s.epoch; number = asked.number; call = call; sequencer = sequencer }) (application_sent w.messages there front asked back turn queue call sequencer work) in
      ap (λ o. (client_of x o).off) sent.joined ∙ sent.leaves leave

  pub reached_behind_sweep : (s : MasterState) (case : SweepCase (noted s w.clock)) (action : Action) → w.master ≡ Some s → Reached (slice c x (behind_sweep w s case action))
  reached_behind_sweep s case action up = reached_stays_at_sweep c x w s case action up (subst (IsNoted w.clock) up fits.noted) (subst (Agrees w) up fits.master) (leaves_off s up) (fits.reached c x)

  pub reached_behind_down : (s : MasterState) → w.master ≡ Some s → Reached (slice c x (without_master w))
  reached_behind_down s up = reached_stays_at_down c x w s up (fits.reached c x)
