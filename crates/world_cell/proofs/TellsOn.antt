-- What is carried through each step of a world; and whatever clients are to be told of contents stands, after each step of a consistent world.
use Rattle.std.proofs.Common.{◌≡◌, ℕ, List, [], ◌∷◌, ◌++◌, Option, Some, None, refl, sym, ap, ◌∙◌, inl, inr, subst, map}
use Rattle.std.specs.List.{AllByRecursion}
use Rattle.std.specs.List.Sorted.{IsStrictlySortedBy}
use Rattle.std.specs.Map.{keys_of}
use Rattle.std.specs.Ordering.{nat_cmp}
use Rattle.node_core.specs.declared.events.Event.{Event}
use Rattle.node_core.specs.declared.events.Event.TheVariants as events
use Rattle.node_core.specs.declared.lines.Line.{Line}
use Rattle.node_core.specs.Nodes.{Nodes, get_node, with_parent}
use Rattle.rows_cell.specs.declared.tables.Rows.{Rows}
use Rattle.rows_cell.specs.Rows.{changed_rows}
use Rattle.tags_cell.specs.declared.messages.beats.Alive.{Alive}
use Rattle.tags_cell.specs.declared.messages.beats.NumberedEvent.{NumberedEvent}
use Rattle.tags_cell.specs.declared.messages.requests.Request.{Request}
use Rattle.tags_cell.specs.declared.messages.outs.Out.{Out}
use Rattle.tags_cell.specs.declared.messages.outs.Out.TheVariants as outs
use Rattle.tags_cell.specs.declared.messages.outs.Reply.{Reply}
use Rattle.event_core.specs.Queue.{EventQueue}
use Rattle.session_core.specs.declared.records.LastCall.{LastCall}
use Rattle.session_core.specs.declared.records.Session.{Session}
use Rattle.session_core.specs.Sessions.{session_of}
use Rattle.master_parts.specs.declared.notices.SessionEvent.{SessionEvent}
use Rattle.master_state.specs.Updates.{done}
use Rattle.master_state.specs.State.{MasterState}
use Rattle.master_state.specs.Lookups.{noted}
use Rattle.cell_core.specs.Cases.{taken_by}
use Rattle.master_parts.specs.declared.pending.Task.TheVariants as tasks
use Rattle.cell_core.specs.Step.{queued}
use Rattle.cell_core.proofs.AskedFor.{asks_only}
use Rattle.over_core.specs.Kept.{IsKept}
use Rattle.over_core.specs.declared.actions.Action.{Action}
use Rattle.over_core.specs.declared.actions.Action.TheVariants.{Tidy}
use Rattle.over_core.specs.Sweep.{acted}
use Rattle.over_core.specs.Plans.{plan_of}
use Rattle.over_core.specs.SweepCase.{swept_by, swept_edits}
use Rattle.over_core.proofs.KeptBySweeps.{sessions_ordered, case_kept}
use Rattle.over_core.proofs.SweepCases.{action_tellings}
use Rattle.world_steps.specs.declared.mail.Message.{Message}
use Rattle.world_steps.specs.declared.mail.Message.TheVariants.{ToMaster, ToClient}
use Rattle.world_steps.specs.declared.steps.Step.{Step}
use Rattle.world_steps.specs.declared.steps.Step.TheVariants as steps
use Rattle.world_steps.specs.Messages.{out_at}
use Rattle.world_steps.specs.World.{WorldState, Agrees}
use Rattle.world_cell.specs.Contents.{Stands, IsTrue, AreTrue, TellsTrue}
use Rattle.world_cell.proofs.Carried.{IfReply, IfKept, IfQueue, OfSession, OfSessions, OfOut, OfOuts, Shows, out_holds, tellings_hold, taken_over_hold, taken_hold, taken_outs_hold, swept_hold, swept_outs_hold}
use Rattle.world_cell.proofs.ConsistentSteps.{agrees_at}
use Rattle.world_cell.proofs.LocksByCases.{noted_kept}
use Rattle.world_cell.proofs.MessagesGrow.{out_more, out_among, one_no_out}
use Rattle.world_cell.proofs.OwnSteps.{IsOwn, sending, asks_own, beats_own, gives_own}
use Rattle.world_cell.proofs.Standing.{case_stands, present_stands, tellings_true}
use Rattle.world_cell.proofs.WorldCases.{WorldCase, IsSweep}
use Rattle.world_cell.proofs.WorldCases.WorldCase.{ComesUp, Joins, Asks, Beats, Gives, Ticks, Takes, Sweeps, GoesDown, CutsSweep, CutsUp, LosesUp}

-- ---- what is carried

module _ (R : Reply → Type 0) (E : Event → Type 0) where
  abbrev pub OfMaster : Option MasterState → Type 0
  OfMaster None = Unit {0}
  OfMaster (Some s) = OfSessions R E s.sessions

  abbrev pub OfSent : List Message → Type 0
  OfSent sent = (at : ℕ) (out : Out) → out_at sent at ≡ Some out → OfOut R E out

  -- of what was sent, and of what a master keeps
  pub record IsCarried (w : WorldState) : Type 0 where
    pub sent : OfSent w.messages
    pub master : OfMaster w.master

  more_sent : (sent : List Message) (more : List Out) → OfSent sent → OfOuts R E more → OfSent (sent ++ map ToClient more)
  more_sent sent more h k at out is = elim (out_more sent (map ToClient more) at out is) [
    | inl a ↦ h at out a
    | inr b ↦ out_holds R E more b.0 out k (out_among more b.0 out b.1)
  ]

  asked_sent : (sent : List Message) (o : Option Request) → OfSent sent → OfSent (sent ++ sending o)
  asked_sent sent None h at out is = elim (out_more sent [] at out is) [
    | inl a ↦ h at out a
    | inr b ↦ cc
  ]
  asked_sent sent (Some request) h at out is = elim (out_more sent (ToMaster request ∷ []) at out is) [
    | inl a ↦ h at out a
    | inr b ↦ absurd (one_no_out request out b.0 b.1)
  ]

  of_master : (o : Option MasterState) (s : MasterState) → o ≡ Some s → OfMaster o → OfSessions R E s.sessions
  of_master o s is h = subst OfMaster is h

  own_carries : (old new : WorldState) (printed : List Line) → IsCarried old → IsOwn old new printed → IsCarried new
  own_carries old new printed h o = record {
    sent = subst OfSent (sym o.grown) (asked_sent old.messages o.sent h.sent);
    master = subst OfMaster (sym (ap (λ (w : WorldState). w.master) o.is)) h.master;
  }

  -- what shows a node of the master's map, and what clients are told by a sweep
  pub record IsFed (old : WorldState) (step : Step) (new : WorldState) (printed : List Line) : Type 0 where
    pub shows : (s : MasterState) → old.master ≡ Some s → Shows R E s
    pub ordered : (s : MasterState) → old.master ≡ Some s → IsStrictlySortedBy nat_cmp (keys_of s.sessions.sessions)
    pub tells : (t : IsSweep old step new printed) → AllByRecursion (λ (telling : SessionEvent). E telling.event) (action_tellings (noted t.master old.clock) t.action)
    pub lost : E events.Lost
    pub up : E events.FailOver

  pub case_carries : (old : WorldState) (step : Step) (new : WorldState) (printed : List Line) → IsFed old step new printed → IsCarried old → WorldCase old step new printed → IsCarried new
  case_carries old step new printed fed h (ComesUp u) =
      subst IsCarried (sym u.is) (record { sent = h.sent; master = λ client. taken_over_hold R E u.now old.rows.sessions client fed.up })
  case_carries old step new printed fed h (Joins j) = subst IsCarried (sym j.is) (record { sent = h.sent; master = h.master })
  case_carries old step new printed fed h (Asks a) = own_carries old new printed h (asks_own old step new printed a)
  case_carries old step new printed fed h (Beats b) = own_carries old new printed h (beats_own old step new printed b)
  case_carries old step new printed fed h (Gives g) = own_carries old new printed h (gives_own old step new printed g)
  case_carries old step new printed fed h (Ticks t) = subst IsCarried (sym t.is) (record { sent = h.sent; master = h.master })
  case_carries old step new printed fed h (Takes t) =
      let s = noted t.master old.clock in
      let kept : OfSessions R E s.sessions = of_master old.master t.master t.is_up h.master in
      let more = taken_outs_hold R E s t.request t.case (fed.shows t.master t.is_up) kept in
      subst IsCarried (sym t.is) (record { sent = more_sent old.messages (taken_by s t.request t.case).1.outs h.sent more; master = taken_hold R E s t.request t.case fed.lost kept more })
  case_carries old step new printed fed h (Sweeps t) =
      let s = noted t.master old.clock in
      let kept : OfSessions R E s.sessions = of_master old.master t.master t.is_up h.master in
      let more = swept_outs_hold R E s t.case (fed.shows t.master t.is_up) kept in
      subst IsCarried (sym t.is) (record {
        sent = more_sent old.messages (swept_by s t.case).1.outs h.sent more;
        master = tellings_hold R E (swept_by s t.case).0.sessions (action_tellings s t.action) (swept_hold R E s (fed.ordered t.master t.is_up) t.case kept more) (fed.tells t);
      })
  case_carries old step new printed fed h (GoesDown d) = subst IsCarried (sym d.is) (record { sent = h.sent; master = tt })
  case_carries old step new printed fed h (CutsSweep k) = subst IsCarried (sym k.is) (record { sent = h.sent; master = tt })
  case_carries old step new printed fed h (CutsUp k) = subst IsCarried (sym k.is) (record { sent = h.sent; master = h.master })
  case_carries old step new printed fed h (LosesUp k) = subst IsCarried (sym k.is) h

-- ---- contents, after a step

swept_stands : (old : WorldState) (step : Step) (new : WorldState) (printed : List Line) (instance generation : ℕ) → Agrees old old.master → IsSweep old step new printed → Stands old.rows instance generation → Stands new.rows instance generation
swept_stands old step new printed instance generation agrees t h =
    let s : MasterState = noted t.master old.clock in
    let k : IsKept old.cell old.rows s = noted_kept old.cell old.rows t.master old.clock (agrees_at old old.master t.master t.is_up agrees) in
    let P : Rows → Type 0 = λ rows. Stands rows instance generation in
    subst P (sym (ap (λ (w : WorldState). w.rows) t.is)) (case_stands old.cell old.rows s k instance generation t.case (case_kept old.cell old.rows s t.case k) h)

pub world_stands : (old : WorldState) (step : Step) (new : WorldState) (printed : List Line) (instance generation : ℕ) → Agrees old old.master → WorldCase old step new printed → Stands old.rows instance generation → Stands new.rows instance generation
world_stands old step new printed instance generation agrees (ComesUp u) h =
    let P : WorldState → Type 0 = λ w. Stands w.rows instance generation in subst P (sym u.is) (record { given = h.given; present = h.present })
world_stands old step new printed instance generation agrees (Joins j) h = subst (λ (rows : Rows). Stands rows instance generation) (sym (ap (λ (w : WorldState). w.rows) j.is)) h
world_stands old step new printed instance generation agrees (Asks a) h = subst (λ (rows : Rows). Stands rows instance generation) (sym (ap (λ (w : WorldState). w.rows) (asks_own old step new printed a).is)) h
world_stands old step new printed instance generation agrees (Beats b) h = subst (λ (rows : Rows). Stands rows instance generation) (sym (ap (λ (w : WorldState). w.rows) (beats_own old step new printed b).is)) h
world_stands old step new printed instance generation agrees (Gives g) h = subst (λ (rows : Rows). Stands rows instance generation) (sym (ap (λ (w : WorldState). w.rows) (gives_own old step new printed g).is)) h
world_stands old step new printed instance generation agrees (Ticks t) h = subst (λ (rows : Rows). Stands rows instance generation) (sym (ap (λ (w : WorldState). w.rows) t.is)) h
world_stands old step new printed instance generation agrees (Takes t) h = subst (λ (rows : Rows). Stands rows instance generation) (sym (ap (λ (w : WorldState). w.rows) t.is)) h
world_stands old step new printed instance generation agrees (Sweeps t) h = swept_stands old step new printed instance generation agrees t h
world_stands old step new printed instance generation agrees (GoesDown d) h = subst (λ (rows : Rows). Stands rows instance generation) (sym (ap (λ (w : WorldState). w.rows) d.is)) h
world_stands old step new printed instance generation agrees (CutsSweep k) h =
    subst (λ (rows : Rows). Stands rows instance generation) (sym (ap (λ (w : WorldState). w.rows) k.is)) (swept_stands old steps.Sweep k.mid k.told instance generation agrees k.sweeps h)
world_stands old step new printed instance generation agrees (CutsUp k) h =
    let up : new.rows ≡ _ = ap (λ (w : WorldState). w.rows) k.is ∙ ap (λ (w : WorldState). w.rows) k.comes.is in
    subst (λ (rows : Rows). Stands rows instance generation) (sym up) (record { given = h.given; present = h.present })
world_stands old step new printed instance generation agrees (LosesUp k) h = subst (λ (rows : Rows). Stands rows instance generation) (sym (ap (λ (w : WorldState). w.rows) k.is)) h

pub event_stays : (old : WorldState) (step : Step) (new : WorldState) (printed : List Line) → Agrees old old.master → WorldCase old step new printed → (event : Event) → IsTrue old.rows event → IsTrue new.rows event
event_stays old step new printed agrees case (events.Contents handle instance generation) h = world_stands old step new printed instance generation agrees case h
event_stays old step new printed agrees case _ h = tt

-- ---- what clients are told by a sweep

-- what is queued alone leaves the map
acted_nodes : (s : MasterState) (action : Action) → (acted s action).0.nodes ≡ (done s (plan_of s action).update).nodes
acted_nodes s (Tidy idle) = ap (λ (t : MasterState). t.nodes) (asks_only (with_parent idle.name) (queued s (with_parent idle.name) (tasks.Tidies idle)))
acted_nodes s _ = refl

swept_true : (old : WorldState) (step : Step) (new : WorldState) (printed : List Line) → Agrees old old.master → (t : IsSweep old step new printed) → AllByRecursion (λ (telling : SessionEvent). IsTrue new.rows telling.event) (action_tellings (noted t.master old.clock) t.action)
swept_true old step new printed agrees t =
    let s : MasterState = noted t.master old.clock in
    let k : IsKept old.cell old.rows s = noted_kept old.cell old.rows t.master old.clock (agrees_at old old.master t.master t.is_up agrees) in
    let l = case_kept old.cell old.rows s t.case k in
    let rows : Rows = changed_rows old.rows (swept_edits s t.case) in
    let P : Rows → Type 0 = λ r. AllByRecursion (λ (telling : SessionEvent). IsTrue r telling.event) (action_tellings s t.action) in
    subst P (sym (ap (λ (w : WorldState). w.rows) t.is)) (tellings_true rows s (plan_of s t.action) (λ name view found.
    present_stands old.cell rows name view l.sound_rows (ap (λ (ns : Nodes). get_node ns name) (sym l.nodes ∙ t.acts ∙ acted_nodes s t.action) ∙ found)))

-- ---- both

-- of replies nothing is said
abbrev pub NoReply : Reply → Type 0
NoReply reply = Unit {0}

module _ (E : Event → Type 0) where
  silent_reply : (o : Option Reply) → IfReply NoReply E o
  silent_reply None = tt
  silent_reply (Some reply) = tt

  silent_kept : (o : Option (LastCall Reply)) → IfKept NoReply E o
  silent_kept None = tt
  silent_kept (Some kept) = silent_reply kept.reply

  from_queue : (o : Option EventQueue) → ((queue : EventQueue) → o ≡ Some queue → AllByRecursion E queue.waiting) → IfQueue NoReply E o
  from_queue None h = tt
  from_queue (Some queue) h = h queue refl

  from_session : (o : Option (Session Reply)) → ((session : Session Reply) (queue : EventQueue) → o ≡ Some session → session.events ≡ Some queue → AllByRecursion E queue.waiting) → OfSession NoReply E o
  from_session None h = tt
  from_session (Some session) h = (silent_kept session.kept, from_queue session.events (λ queue is. h session queue refl is))

module _ (E F : Event → Type 0) (stays : (event : Event) → E event → F event) where
  all_stay : (es : List Event) → AllByRecursion E es → AllByRecursion F es
  all_stay [] h = tt
  all_stay (e ∷ es) h = (stays e h.0, all_stay es h.1)

  pub each_stays : (es : List NumberedEvent) → AllByRecursion (λ (next : NumberedEvent). E next.event) es → AllByRecursion (λ (next : NumberedEvent). F next.event) es
  each_stays [] h = tt
  each_stays (e ∷ es) h = (stays e.event h.0, each_stays es h.1)

-- what is true by some rows, by rows where it stays true
module _ (old new : Rows) (stays : (event : Event) → IsTrue old event → IsTrue new event) where
  from_master : (o : Option MasterState) → AreTrue old o → OfMaster NoReply (IsTrue new) o
  from_master None h = tt
  from_master (Some s) h = λ client. from_session (IsTrue new) (session_of s.sessions client) (λ session queue is of. all_stay (IsTrue old) (IsTrue new) stays queue.waiting (h client session queue is of))

  from_out : (sent : List Message) → ((at : ℕ) (alive : Alive) → out_at sent at ≡ Some (outs.Alive alive) → AllByRecursion (λ (next : NumberedEvent). IsTrue old next.event) alive.events) → (at : ℕ) (out : Out) → out_at sent at ≡ Some out → OfOut NoReply (IsTrue new) out
  from_out sent h at (outs.Alive alive) is = each_stays (IsTrue old) (IsTrue new) stays alive.events (h at alive is)
  from_out sent h at _ is = tt

to_master : (rows : Rows) (o : Option MasterState) → OfMaster NoReply (IsTrue rows) o → AreTrue rows o
to_master rows None h = tt
to_master rows (Some s) h = λ client session queue is of. subst (IfQueue NoReply (IsTrue rows)) of (subst (OfSession NoReply (IsTrue rows)) is (h client)).1

pub tells_carried : (w : WorldState) → TellsTrue w → IsCarried NoReply (IsTrue w.rows) w
tells_carried w h = record { sent = from_out w.rows w.rows (λ event true. true) w.messages h.sent; master = from_master w.rows w.rows (λ event true. true) w.master h.queued }

pub tells_on : (old : WorldState) (step : Step) (new : WorldState) (printed : List Line) → Agrees old old.master → TellsTrue old → WorldCase old step new printed → TellsTrue new
tells_on old step new printed agrees h case =
    let stays = event_stays old step new printed agrees case in
    let before : IsCarried NoReply (IsTrue new.rows) old = record { sent = from_out old.rows new.rows stays old.messages h.sent; master = from_master old.rows new.rows stays old.master h.queued } in
    let after = case_carries NoReply (IsTrue new.rows) old step new printed (record {
      shows = λ s up reply shown. tt;
      ordered = λ s up. sessions_ordered old.cell old.rows s (agrees_at old old.master s up agrees);
      tells = λ t. swept_true old step new printed agrees t;
      lost = tt;
      up = tt;
    }) before case in
    record { sent = λ at alive is. after.sent at (outs.Alive alive) is; queued = to_master new.rows new.master after.master }
