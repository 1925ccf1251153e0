-- Why from any point of a run on no content is shown that is older than one that somebody was told of before.
use Rattle.std.proofs.Common.{◌≡◌, ℕ, ◌≤◌, ◌<◌, List, [], ◌∷◌, ◌++◌, Option, Some, None, refl, sym, ap, subst, ◌∙◌, inl, inr, arith}
use Rattle.std.specs.Option.{option_map, option_map_or}
use Rattle.std.specs.List.{AllByRecursion}
use Rattle.node_core.specs.declared.answers.Answer.{Answer}
use Rattle.node_core.specs.declared.answers.Answer.TheVariants as answers
use Rattle.node_core.specs.declared.events.Event.{Event}
use Rattle.node_core.specs.declared.events.Event.TheVariants as events
use Rattle.node_core.specs.declared.lines.Line.{Line}
use Rattle.node_core.specs.declared.lines.Line.TheVariants as lines
use Rattle.node_core.specs.declared.nodes.Node.{Node}
use Rattle.node_core.specs.declared.views.View.{View}
use Rattle.node_core.specs.Nodes.{Nodes, get_node, view_of}
use Rattle.rows_cell.specs.declared.tables.Rows.{Rows}
use Rattle.rows_cell.specs.Rows.{map_of}
use Rattle.tags_cell.specs.declared.messages.beats.NumberedEvent.{NumberedEvent}
use Rattle.tags_cell.specs.declared.messages.requests.CallMessage.{CallMessage}
use Rattle.tags_cell.specs.declared.messages.outs.CallResult.{CallResult}
use Rattle.tags_cell.specs.declared.messages.outs.CallResult.TheVariants as results
use Rattle.tags_cell.specs.declared.messages.outs.Out.{Out}
use Rattle.tags_cell.specs.declared.messages.outs.Out.TheVariants as outs
use Rattle.tags_cell.specs.declared.messages.outs.Reply.{Reply}
use Rattle.event_core.specs.Queue.{EventQueue}
use Rattle.session_core.specs.declared.records.LastCall.{LastCall}
use Rattle.session_core.specs.declared.records.Session.{Session}
use Rattle.master_parts.specs.declared.notices.SessionEvent.{SessionEvent}
use Rattle.master_state.specs.State.{MasterState}
use Rattle.master_state.specs.Lookups.{session_of, kept_of, noted}
use Rattle.over_core.proofs.SweepCases.{action_tellings}
use Rattle.world_steps.specs.declared.members.WorldClient.{WorldClient}
use Rattle.world_steps.specs.declared.steps.Step.{Step}
use Rattle.world_steps.specs.Messages.{out_at, call_of}
use Rattle.world_steps.specs.World.{WorldState, WorldView, member_of, Agrees}
use Rattle.world_cell.proofs.StepsHold.{does_holds}
use Rattle.world_cell.specs.Contents.{IsNoOlder, Stands, IsTrue}
use Rattle.world_cell.specs.Consistent.{Fits, FitsMessages, IsConsistent}
use Rattle.world_cell.specs.Runs.{Run}
use Rattle.world_steps.specs.Made.{Does}
use Rattle.world_cell.specs.Served.{ServesPresent}
use Rattle.world_cell.specs.Told.{IsNoOlderAnswer, calls_of, ShowsNoOlder}
use Rattle.world_cell.proofs.Carried.{IfReply, IfKept, IfQueue, OfSession, OfOut}
use Rattle.world_cell.proofs.CarriedLines.{OfLine, OfLines, both_lines, case_tells}
use Rattle.world_cell.proofs.ClocksByRuns.{run_consistent}
use Rattle.over_core.proofs.KeptBySweeps.{sessions_ordered}
use Rattle.world_cell.proofs.ConsistentSteps.{agrees_at}
use Rattle.world_cell.proofs.EffectContents.{IsShown}
use Rattle.world_cell.proofs.OneSession.{kept_in}
use Rattle.world_cell.proofs.ServedLines.{step_serves}
use Rattle.world_cell.proofs.TellsOn.{NoReply, OfMaster, IsCarried, case_carries, world_stands, event_stays, tells_carried}
use Rattle.world_cell.proofs.WorldCases.{WorldCase, world_case}

-- ---- lines

at_line : (R : Reply → Type 0) (E : Event → Type 0) (before rest : List Line) (line : Line) → OfLines R E (before ++ line ∷ rest) → OfLine R E line
at_line R E [] rest line h = h.0
at_line R E (other ∷ before) rest line h = at_line R E before rest line h.1

module _ (R : Reply → Type 0) (E F : Event → Type 0) (stays : (event : Event) → E event → F event) where
  line_stays : (line : Line) → OfLine R E line → OfLine R F line
  line_stays (lines.Told client event) h = stays event h
  line_stays (lines.Done client number (answers.Viewed view)) h = h
  line_stays (lines.Done client number (answers.Stated stat)) h = h
  line_stays _ h = tt

  lines_stay : (printed : List Line) → OfLines R E printed → OfLines R F printed
  lines_stay [] h = tt
  lines_stay (line ∷ rest) h = (line_stays line h.0, lines_stay rest h.1)

-- ---- what clients are told stands

world_event : (old new : WorldView) (step : Step) (printed : List Line) → IsConsistent old.world → Does old step new printed → (event : Event) → IsTrue old.world.rows event → IsTrue new.world.rows event
world_event old new step printed h (inl m) event true = event_stays old.world step new.world printed h.master (world_case old.world step new.world printed h.master m.is_step) event true
world_event old new step printed h (inr r) event true = subst (λ (w : WorldState). IsTrue w.rows event) (sym r.left.same) true

run_event : (old : WorldView) (steps : List Step) (printed : List Line) (new : WorldView) → IsConsistent old.world → Run old steps printed new → (event : Event) → IsTrue old.world.rows event → IsTrue new.world.rows event
run_event old [] printed new h run event true = subst (λ (v : WorldView). IsTrue v.world.rows event) (sym run.1) true
run_event old (step ∷ steps) printed new h run event true = run_event run.0 steps run.2 new (does_holds old step run.0 run.1 h run.3) run.4 event (world_event old run.0 step run.1 h run.3 event true)

step_told : (old new : WorldView) (step : Step) (printed : List Line) → IsConsistent old.world → Does old step new printed → OfLines NoReply (IsTrue old.world.rows) printed
step_told old new step printed h (inl m) =
    case_tells NoReply (IsTrue old.world.rows) old.world step new.world printed (tells_carried old.world h.tells) (world_case old.world step new.world printed h.master m.is_step)
step_told old new step printed h (inr r) = subst (OfLines NoReply (IsTrue old.world.rows)) (sym r.line) (tt, tt)

run_told : (old : WorldView) (steps : List Step) (printed : List Line) (new : WorldView) → IsConsistent old.world → Run old steps printed new → OfLines NoReply (IsTrue new.world.rows) printed
run_told old [] printed new h run = subst (OfLines NoReply (IsTrue new.world.rows)) (sym run.0) tt
run_told old (step ∷ steps) printed new h run =
    let stays = λ (event : Event) (true : IsTrue old.world.rows event). run_event run.0 steps run.2 new (does_holds old step run.0 run.1 h run.3) run.4 event (world_event old run.0 step run.1 h run.3 event true) in
    subst (OfLines NoReply (IsTrue new.world.rows)) (sym run.5)
    (both_lines NoReply (IsTrue new.world.rows) run.1 run.2
    (lines_stay NoReply (IsTrue old.world.rows) (IsTrue new.world.rows) stays run.1 (step_told old run.0 step run.1 h run.3)) (run_told run.0 steps run.2 new (does_holds old step run.0 run.1 h run.3) run.4))

-- ---- replies to later calls

abbrev NoEvent : Event → Type 0
NoEvent event = Unit {0}

abbrev ShowsNoneOlder : ℕ → ℕ → CallResult → Type 0
ShowsNoneOlder instance generation (results.Viewed view) = IsNoOlder instance generation view.node
ShowsNoneOlder instance generation (results.Stated stat) = stat.instance ≡ instance → generation ≤ stat.content_generation
ShowsNoneOlder instance generation _ = Unit {0}

-- what the map shows
result_stands : (rows : Rows) (nodes : Nodes) (instance generation : ℕ) (result : CallResult) → Stands rows instance generation → nodes ≡ map_of rows → IsShown nodes result → ShowsNoneOlder instance generation result
result_stands rows nodes instance generation (results.Viewed view) h same shown = h.present shown.0 view.node (ap (λ (ns : Nodes). get_node ns shown.0) (sym same) ∙ shown.1)
result_stands rows nodes instance generation (results.Stated stat) h same shown = λ of.
    let before = h.present shown.0 shown.1 (ap (λ (ns : Nodes). get_node ns shown.0) (sym same) ∙ shown.2) (sym shown.3 ∙ of) in
    let tells = shown.4 in
    omega (arith, tells)
result_stands rows nodes instance generation _ h same shown = tt

-- a view is that of its node
node_seen : (nodes : Nodes) (name : List ℕ) (view : View) (o : Option Node) → option_map (view_of nodes name) o ≡ Some view → o ≡ Some view.node
node_seen nodes name view None h = cc
node_seen nodes name view (Some node) h = let e : view_of nodes name node ≡ view = cc in ap (λ (v : View). Some v.node) e

module _ (client calls instance generation : ℕ) where
  -- a reply to a call above this number
  abbrev Follows : Reply → Type 0
  Follows reply = reply.client ≡ client → calls < reply.number → ShowsNoneOlder instance generation reply.result

  all_silent : (es : List NumberedEvent) → AllByRecursion (λ (next : NumberedEvent). NoEvent next.event) es
  all_silent [] = tt
  all_silent (e ∷ es) = (tt, all_silent es)

  queue_silent : (es : List Event) → AllByRecursion NoEvent es
  queue_silent [] = tt
  queue_silent (e ∷ es) = (tt, queue_silent es)

  tellings_silent : (ts : List SessionEvent) → AllByRecursion (λ (telling : SessionEvent). NoEvent telling.event) ts
  tellings_silent [] = tt
  tellings_silent (t ∷ ts) = (tt, tellings_silent ts)

  -- ---- none is there yet

  module _ (w : WorldState) (h : IsConsistent w) (asked : calls_of w client ≡ calls) where
    unsent : (whose number : ℕ) (call : CallMessage) → call_of w.messages whose number ≡ Some call → whose ≡ client → calls < number → ⊥
    unsent whose number call is own above =
        let s = h.sent whose number call is in
        let there : member_of w client ≡ Some s.member = subst (λ n. member_of w n ≡ Some s.member) own s.joined in
        let counted : calls ≡ s.member.client.calls = sym asked ∙ ap (λ (o : Option WorldClient). option_map_or (λ (member : WorldClient). member.client.calls) o 0) there in
        let within = s.within in
        omega (arith, counted)

    out_follows : (at : ℕ) (out : Out) → out_at w.messages at ≡ Some out → OfOut Follows NoEvent out
    out_follows at (outs.Reply reply) is = λ own above. let a = h.answers at reply is in absurd (unsent reply.client reply.number a.call a.found own above)
    out_follows at (outs.Alive alive) is = all_silent alive.events
    out_follows at _ is = tt

    module _ (s : MasterState) (fits : FitsMessages w.messages s) where
      reply_follows : (whose : ℕ) (kept : LastCall Reply) (o : Option Reply) → kept_of s whose ≡ Some kept → kept.reply ≡ o → IfReply Follows NoEvent o
      reply_follows whose kept None is replied = tt
      reply_follows whose kept (Some reply) is replied = λ own above.
          let was = fits.kept whose kept is in
          let to = fits.replies whose kept reply is replied in
          let P : ℕ → Type 0 = λ n. calls < n in
          absurd (unsent whose kept.number was.call was.found (sym to.to ∙ own) (subst P to.answered above))

      kept_follows : (whose : ℕ) (o : Option (LastCall Reply)) → kept_of s whose ≡ o → IfKept Follows NoEvent o
      kept_follows whose None is = tt
      kept_follows whose (Some kept) is = reply_follows whose kept kept.reply is refl

      queue_follows : (o : Option EventQueue) → IfQueue Follows NoEvent o
      queue_follows None = tt
      queue_follows (Some queue) = queue_silent queue.waiting

      session_follows : (whose : ℕ) (o : Option (Session Reply)) → session_of s whose ≡ o → OfSession Follows NoEvent o
      session_follows whose None is = tt
      session_follows whose (Some session) is = (kept_follows whose session.kept (ap kept_in is), queue_follows session.events)

    master_follows : (o : Option MasterState) → Fits w o → OfMaster Follows NoEvent o
    master_follows None fits = tt
    master_follows (Some s) fits = λ whose. session_follows s fits whose (session_of s whose) refl

    begins : IsCarried Follows NoEvent w
    begins = record { sent = out_follows; master = master_follows w.master h.fits }

  -- ---- a step

  case_follows : (old : WorldState) (step : Step) (new : WorldState) (printed : List Line) → Agrees old old.master → Stands old.rows instance generation → WorldCase old step new printed → IsCarried Follows NoEvent old → IsCarried Follows NoEvent new
  case_follows old step new printed agrees stands case h =
      case_carries Follows NoEvent old step new printed (record {
        shows = λ s up reply shown own above. result_stands old.rows s.nodes instance generation reply.result stands (agrees_at old old.master s up agrees).nodes shown;
        ordered = λ s up. sessions_ordered old.cell old.rows s (agrees_at old old.master s up agrees);
        tells = λ t. tellings_silent (action_tellings (noted t.master old.clock) t.action);
        lost = tt;
        up = tt;
      }) h case

  -- as it is told
  line_follows : (number : ℕ) (answer : Answer) → OfLine Follows NoEvent (lines.Done client number answer) → calls < number → IsNoOlderAnswer instance generation answer
  line_follows number (answers.Viewed view) line above = let P : ℕ → Type 0 = λ n. calls < n in subst (ShowsNoneOlder instance generation) line.4 (line.1 line.2 (subst P (sym line.3) above))
  line_follows number (answers.Stated stat) line above = let P : ℕ → Type 0 = λ n. calls < n in subst (ShowsNoneOlder instance generation) line.4 (line.1 line.2 (subst P (sym line.3) above))
  line_follows number _ line above = tt

  -- ---- what is served

  abbrev IsServedLine : Line → Type 0
  IsServedLine (lines.Served whose name (Some view)) = IsNoOlder instance generation view.node
  IsServedLine _ = Unit {0}

  abbrev AreServedLines : List Line → Type 0
  AreServedLines [] = Unit {0}
  AreServedLines (line ∷ rest) = IsServedLine line × AreServedLines rest

  both_served : (xs ys : List Line) → AreServedLines xs → AreServedLines ys → AreServedLines (xs ++ ys)
  both_served [] ys h k = k
  both_served (x ∷ xs) ys h k = (h.0, both_served xs ys h.1 k)

  at_served : (before rest : List Line) (line : Line) → AreServedLines (before ++ line ∷ rest) → IsServedLine line
  at_served [] rest line h = h.0
  at_served (other ∷ before) rest line h = at_served before rest line h.1

  one_served : (line : Line) → ((whose : ℕ) (name : List ℕ) (view : View) → line ≡ lines.Served whose name (Some view) → IsNoOlder instance generation view.node) → IsServedLine line
  one_served (lines.Served whose name (Some view)) h = h whose name view refl
  one_served _ h = tt

  present_served : (rows : Rows) (printed : List Line) → Stands rows instance generation → ServesPresent (map_of rows) printed → AreServedLines printed
  present_served rows [] stands h = tt
  present_served rows (line ∷ rest) stands h = (
    one_served line (λ whose name view is. stands.present name view.node (node_seen (map_of rows) name view (get_node (map_of rows) name) (sym (h [] rest whose name (Some view) (ap (λ (l : Line). l ∷ rest) is))))),
    present_served rows rest stands (λ before more whose name entry is. h (line ∷ before) more whose name entry (ap (λ (ls : List Line). line ∷ ls) is)),
  )

  -- ---- a run

  record IsAfter (w : WorldState) : Type 0 where
    stands : Stands w.rows instance generation
    carried : IsCarried Follows NoEvent w

  step_after : (old new : WorldView) (step : Step) (printed : List Line) → IsConsistent old.world → Does old step new printed → IsAfter old.world → IsAfter new.world × OfLines Follows NoEvent printed × AreServedLines printed
  step_after old new step printed h (inl m) a =
      let case = world_case old.world step new.world printed h.master m.is_step in
      let stands = world_stands old.world step new.world printed instance generation h.master case a.stands in (
        record { stands = stands; carried = case_follows old.world step new.world printed h.master a.stands case a.carried },
        case_tells Follows NoEvent old.world step new.world printed a.carried case,
        present_served new.world.rows printed stands (step_serves old.world step new.world printed h m.is_step),
      )
  step_after old new step printed h (inr r) a = (subst IsAfter (sym r.left.same) a, subst (OfLines Follows NoEvent) (sym r.line) (tt, tt), subst AreServedLines (sym r.line) (tt, tt))

  run_after : (old : WorldView) (steps : List Step) (printed : List Line) (new : WorldView) → IsConsistent old.world → Run old steps printed new → IsAfter old.world → OfLines Follows NoEvent printed × AreServedLines printed
  run_after old [] printed new h run a = (subst (OfLines Follows NoEvent) (sym run.0) tt, subst AreServedLines (sym run.0) tt)
  run_after old (step ∷ steps) printed new h run a =
      let here = step_after old run.0 step run.1 h run.3 a in
      let rest = run_after run.0 steps run.2 new (does_holds old step run.0 run.1 h run.3) run.4 here.0 in (
        subst (OfLines Follows NoEvent) (sym run.5) (both_lines Follows NoEvent run.1 run.2 here.1 rest.0),
        subst AreServedLines (sym run.5) (both_served run.1 run.2 here.2 rest.1),
      )

-- ---- the law

pub run_shows : (old : WorldView) (steps : List Step) (new : WorldView) → IsConsistent old.world → ShowsNoOlder old steps new
run_shows old steps new h front rest here before after whom instance generation is first last told =
    let k = run_consistent old front before here h first in
    let event : Event = events.Contents told.handle instance generation in
    let heard = subst (OfLines NoReply (IsTrue here.world.rows)) told.is (run_told old front before here h first) in
    let stands : Stands here.world.rows instance generation = at_line NoReply (IsTrue here.world.rows) told.before told.rest (lines.Told whom event) heard in
    let behind = λ (client : ℕ).
    let calls = calls_of here.world client in
    run_after client calls instance generation here rest after new k last (record { stands = stands; carried = begins client calls instance generation here.world k refl }) in (
      λ client front_lines rest_lines number answer printed above.
          let calls = calls_of here.world client in
          line_follows client calls instance generation number answer
          (at_line (Follows client calls instance generation) NoEvent front_lines rest_lines (lines.Done client number answer) (subst (OfLines (Follows client calls instance generation) NoEvent) printed (behind client).0)) above,
      λ front_lines rest_lines whose name view printed.
          at_served whom (calls_of here.world whom) instance generation front_lines rest_lines (lines.Served whose name (Some view)) (subst (AreServedLines whom (calls_of here.world whom) instance generation) printed (behind whom).1),
    )
