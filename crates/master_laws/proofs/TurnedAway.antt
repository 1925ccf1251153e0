-- A message that is turned away leaves the master as it was, but for the moment.
use Rattle.std.proofs.Common.{◌≡◌, [], ◌∷◌, refl, ap, subst, ◌∙◌}
use Rattle.std.specs.Prelude.{Contains}
use Rattle.tags_cell.specs.declared.messages.outs.Out.TheVariants as outs
use Rattle.tags_cell.specs.declared.messages.outs.Refused.{Refused}
use Rattle.tags_cell.specs.declared.messages.outs.Reply.{Reply}
use Rattle.tags_cell.specs.declared.messages.requests.Request.{Request}
use Rattle.master_state.specs.State.{MasterState}
use Rattle.cell_core.specs.Cases.{TakeCase, taken_by}
use Rattle.cell_core.specs.Cases.TakeCase.{StartRefused, StartRecovering, StartFull, StartQueued, OldBeat, BeatRefused, BeatParked, OldEpoch, NoSession, LeftBefore, Repeated, OlderCall, Outstanding, LeavesBeside, Recovering, Answered, Granted, Waits}
use Rattle.master_state.specs.Lookups.{noted}
use Rattle.cell_core.proofs.TakeCases.{taken_case}
use Rattle.master_laws.specs.Refused.{TurnedAwayChangesNothing}
use Rattle.master_laws.proofs.Answered.{only_one, none_in}

no_reply : (reply : Reply) (refused : Refused) → Contains (outs.Reply reply ∷ []) (outs.Refused refused) → ⊥
no_reply reply refused h = let same : outs.Reply reply ≡ outs.Refused refused = only_one (outs.Reply reply) (outs.Refused refused) h in cc

turned_away_by : (s : MasterState) (request : Request) (refused : Refused) (c : TakeCase s request) → Contains (taken_by s request c).1.outs (outs.Refused refused) → (taken_by s request c).0 ≡ s
turned_away_by s request refused (StartRefused start is may) h = refl
turned_away_by s request refused (StartRecovering start is may recovering) h = refl
turned_away_by s request refused (StartFull start is may going full) h = refl
turned_away_by s request refused (StartQueued start is may going room) h = absurd (none_in (outs.Refused refused) h)
turned_away_by s request refused (OldBeat beat is old) h = refl
turned_away_by s request refused (BeatRefused beat fault is epoch refuses) h = refl
turned_away_by s request refused (BeatParked beat is epoch passes) h = absurd (none_in (outs.Refused refused) h)
turned_away_by s request refused (OldEpoch message is old) h = refl
turned_away_by s request refused (NoSession message is epoch ended) h = refl
turned_away_by s request refused (LeftBefore message kept request_is same_epoch ended is equal) h = refl
turned_away_by s request refused (Repeated message kept heard is equal) h = refl
turned_away_by s request refused (OlderCall message kept heard is less) h = refl
turned_away_by s request refused (Outstanding message kept heard is more none) h = refl
turned_away_by s request refused (LeavesBeside message heard beside) h = absurd (none_in (outs.Refused refused) h)
turned_away_by s request refused (Recovering message new recovering) h = absurd (no_reply _ refused h)
turned_away_by s request refused (Answered message opened answer new going answered) h = absurd (no_reply _ refused h)
turned_away_by s request refused (Granted message opened answer name new going granted) h = absurd (no_reply _ refused h)
turned_away_by s request refused (Waits message opened touched new going admitted) h = absurd (none_in (outs.Refused refused) h)

pub turned_away_changes_nothing : TurnedAwayChangesNothing
turned_away_changes_nothing s new now request taken refused h sent =
    let c = taken_case s new now request taken h in
    ap (λ p. p.0) c.1 ∙ turned_away_by (noted s now) request refused c.0 (subst (λ p. Contains p.1.outs (outs.Refused refused)) c.1 sent)
