-- What is served over a store never makes less of the doubt in it.
use Rattle.std.proofs.Common.{◌≡◌, inl, inr, ℕ, ◌≤◌, Bool, true, false, List, [], ◌∷◌, Option, None, Some, Result, Ok, Err, sym, ap, subst, le_refl, arith}
use Rattle.node_core.specs.declared.refusals.Fault.{Fault}
use Rattle.rows_cell.specs.declared.settings.MasterTerms.{MasterTerms}
use Rattle.rows_cell.specs.Stores.{Store}
use Rattle.tags_cell.specs.declared.messages.requests.Request.{Request}
use Rattle.over_core.specs.declared.swept.Swept.{Swept}
use Rattle.over_core.specs.Kept.{CellState}
use Rattle.over_core.specs.Up.{StaysDown}
use Rattle.master_state.specs.State.{MasterState}
use Rattle.codec.specs.declared.faults.WireFault.{WireFault}
use Rattle.hosting.specs.declared.frames.Frame.{Frame}
use Rattle.hosting.specs.declared.frames.Frame.TheVariants as frames
use Rattle.hosting.specs.declared.answers.Answered.{Answered}
use Rattle.hosting.specs.declared.answers.Answered.TheVariants as answers
use Rattle.hosting.specs.declared.settling.End.{End}
use Rattle.hosting.specs.declared.settling.End.TheVariants as ends
use Rattle.hosting.specs.declared.settling.Round.{Round}
use Rattle.hosting.specs.declared.settling.Settled.{Settled}
use Rattle.hosting.specs.declared.seats.FrameReply.{FrameReply}
use Rattle.hosting.specs.declared.seats.FrameReply.TheVariants as replies
use Rattle.hosting.specs.declared.stops.StreamStop.TheVariants.{Unread, Unwritten, NoMemory}
use Rattle.hosting.specs.declared.stops.GroupStop.{GroupStop}
use Rattle.hosting.specs.declared.stops.GroupStop.TheVariants.{Stopped, Refused}
use Rattle.hosting.specs.Serving.{SweepsOnce, BeatsOnce, StepsTo, StopsAt, BeatStops, EndsBy, BeatsBehind, Settles, Answers, is_shut}
use Rattle.hosting.specs.Seats.{Hosted, with_master, without_master, cell_of, ComesIn, Arrives, Listens, Ticks, Leaves, Stands, Does}
use Rattle.hosting.specs.Streams.{Answer, Turn, Turns, MaybeOne}
use Rattle.hosting.specs.declared.pieces.GroupTerms.{GroupTerms}
use Rattle.hosting.proofs.PieceLaws.{cut_doubts, each_committed}
use Rattle.hosting.specs.Groups.{TakesGroup, Groups, MaybeLost, EndsGroups}

abbrev Known : Type 0
Known = Option (List ℕ)

-- there is no less doubt in the second
abbrev pub Grows : Store → Store → Type 0
Grows a b = a.doubt ≤ b.doubt

chain : (a b c : ℕ) → a ≤ b → b ≤ c → a ≤ c
chain a b c p q = omega (arith, p, q)

stays : (a b : Store) → b ≡ a → Grows a b
stays a b e = subst (λ (s : Store). Grows a s) (sym e) (le_refl a.doubt)

cell_stays : (a b : CellState) → b ≡ a → Grows a.store b.store
cell_stays a b e = stays a.store b.store (ap (λ (c : CellState). c.store) e)

host_stays : (a b : Hosted) → b ≡ a → Grows a.store b.store
host_stays a b e = stays a.store b.store (ap (λ (h : Hosted). h.store) e)

host_at : (a : Store) (b : Hosted) (cell : CellState) → b ≡ with_master cell → Grows a cell.store → Grows a b.store
host_at a b cell e g = subst (λ (h : Hosted). Grows a h.store) (sym e) g

-- ---- steps

sweeps_grow : (now : ℕ) (a : CellState) (swept : Swept) (b : CellState) → SweepsOnce now a swept b → Grows a.store b.store
sweeps_grow now a swept b s = s.committed.doubted

beats_grow : (now : ℕ) (a : CellState) (swept : Swept) (b : CellState) → BeatsOnce now a swept b → Grows a.store b.store
beats_grow now a swept b s = stays a.store b.store s.store

stops_grow : (now : ℕ) (a : CellState) (fault : Fault) (b : CellState) → StopsAt now a fault b → Grows a.store b.store
stops_grow now a fault b s = elim s.why [ inl p ↦ cell_stays a b p.1 | inr r ↦ r.doubted ]

beat_stops_grow : (now : ℕ) (a : CellState) (fault : Fault) (b : CellState) → BeatStops now a fault b → Grows a.store b.store
beat_stops_grow now a fault b s = cell_stays a b s.same

module _ (Once : CellState → Swept → CellState → Type 0) (Stops : CellState → Fault → CellState → Type 0)
    (grows : (a : CellState) (swept : Swept) (b : CellState) → Once a swept b → Grows a.store b.store)
    (stops : (a : CellState) (fault : Fault) (b : CellState) → Stops a fault b → Grows a.store b.store) where
  steps_grow : (a : CellState) (sweeps : List Swept) (b : CellState) → StepsTo Once a sweeps b → Grows a.store b.store
  steps_grow a [] b s = cell_stays a b s
  steps_grow a (swept ∷ rest) b s = chain a.store.doubt s.0.store.doubt b.store.doubt (grows a swept s.0 s.1) (steps_grow s.0 rest b s.2)

  ends_grow : (a : CellState) (sweeps : List Swept) (end : End) (b : CellState) → EndsBy Once Stops a sweeps end b → Grows a.store b.store
  ends_grow a sweeps ends.Quiet b e = steps_grow a sweeps b e.5
  ends_grow a sweeps (ends.Refused fault) b e = chain a.store.doubt e.0.store.doubt b.store.doubt (steps_grow a sweeps e.0 e.1) (stops e.0 fault b e.3)
  ends_grow a sweeps ends.Unfinished b e = steps_grow a sweeps b e.0

behind_grow : (now : ℕ) (shut : Bool) (a : CellState) (beats : Round) (b : CellState) → BeatsBehind now shut a beats b → Grows a.store b.store
behind_grow now true a beats b p = ends_grow (BeatsOnce now) (BeatStops now) (beats_grow now) (beat_stops_grow now) a beats.sweeps beats.end b p
behind_grow now false a beats b p = cell_stays a b p.1

pub settles_grow : (now : ℕ) (a : CellState) (settled : Settled) (b : CellState) → Settles now a settled b → Grows a.store b.store
settles_grow now a settled b s =
    chain a.store.doubt s.mid.store.doubt b.store.doubt
    (ends_grow (SweepsOnce now) (StopsAt now) (sweeps_grow now) (stops_grow now) a settled.round.sweeps settled.round.end s.mid s.swept)
    (behind_grow now (is_shut settled.round.end) s.mid settled.beats b s.answered)

pub answers_grow : (now : ℕ) (request : Request) (a : CellState) (given : Answered) (b : CellState) → Answers now request a given b → Grows a.store b.store
answers_grow now request a (answers.Refused fault) b p = cell_stays a b p.1
answers_grow now request a (answers.Taken taken settled) b p =
    chain a.store.doubt p.0.store.doubt b.store.doubt (stays a.store p.0.store p.2) (settles_grow now p.0 settled b p.3)

-- ---- a frame

down_grows : (terms : MasterTerms) (now : ℕ) (fault : Fault) (a b : Store) → StaysDown terms now fault a b → Grows a b
down_grows terms now fault a b (inl p) = stays a b p.2
down_grows terms now fault a b (inr (past, inl unread)) = unread.doubted
down_grows terms now fault a b (inr (past, inr kept)) =
    chain a.doubt kept.read.doubt b.doubt kept.was_read.doubted (elim kept.why [ inl p ↦ stays kept.read b p.1 | inr r ↦ r.doubted ])

comes_grow : (terms : MasterTerms) (now : ℕ) (a : Store) (reply : FrameReply) (b : Hosted) → ComesIn terms now a reply b → Grows a b.store
comes_grow terms now a (replies.Came epoch settled) b p =
    host_at a b p.after p.up
    (chain a.doubt p.cell.store.doubt p.after.store.doubt (chain a.doubt p.came.read.doubt p.cell.store.doubt p.came.was_read.doubted p.came.committed.doubted)
    (settles_grow now p.cell settled p.after p.swept))
comes_grow terms now a (replies.Refused fault) b p = down_grows terms now fault a b.store p.0
comes_grow terms now a (replies.Bad fault) b p = absurd p
comes_grow terms now a (replies.Answered answered) b p = absurd p
comes_grow terms now a (replies.Swept settled) b p = absurd p
comes_grow terms now a replies.Gone b p = absurd p
comes_grow terms now a (replies.Stands standing) b p = absurd p

arrives_grow : (terms : MasterTerms) (now : ℕ) (master : Option MasterState) (a : Store) (reply : FrameReply) (b : Hosted) → Arrives terms now master a reply b → Grows a b.store
arrives_grow terms now None a reply b p = comes_grow terms now a reply b p
arrives_grow terms now (Some master) a reply b p = host_stays (with_master (cell_of master a)) b p.1

listens_grow : (now : ℕ) (message : Request) (master : Option MasterState) (a : Store) (reply : FrameReply) (b : Hosted) → Listens now message master a reply b → Grows a b.store
listens_grow now message None a reply b p = host_stays (without_master a) b p.1
listens_grow now message (Some master) a (replies.Answered answered) b p = host_at a b p.0 p.2 (answers_grow now message (cell_of master a) answered p.0 p.1)
listens_grow now message (Some master) a (replies.Came epoch settled) b p = absurd p
listens_grow now message (Some master) a (replies.Refused fault) b p = absurd p
listens_grow now message (Some master) a (replies.Bad fault) b p = absurd p
listens_grow now message (Some master) a (replies.Swept settled) b p = absurd p
listens_grow now message (Some master) a replies.Gone b p = absurd p
listens_grow now message (Some master) a (replies.Stands standing) b p = absurd p

ticks_grow : (now : ℕ) (master : Option MasterState) (a : Store) (reply : FrameReply) (b : Hosted) → Ticks now master a reply b → Grows a b.store
ticks_grow now None a reply b p = host_stays (without_master a) b p.1
ticks_grow now (Some master) a (replies.Swept settled) b p = host_at a b p.0 p.2 (settles_grow now (cell_of master a) settled p.0 p.1)
ticks_grow now (Some master) a (replies.Answered answered) b p = absurd p
ticks_grow now (Some master) a (replies.Came epoch settled) b p = absurd p
ticks_grow now (Some master) a (replies.Refused fault) b p = absurd p
ticks_grow now (Some master) a (replies.Bad fault) b p = absurd p
ticks_grow now (Some master) a replies.Gone b p = absurd p
ticks_grow now (Some master) a (replies.Stands standing) b p = absurd p

leaves_grow : (master : Option MasterState) (a : Store) (reply : FrameReply) (b : Hosted) → Leaves master a reply b → Grows a b.store
leaves_grow None a reply b p = host_stays (without_master a) b p.1
leaves_grow (Some master) a reply b p = host_stays (without_master a) b p.1

stands_grow : (master : Option MasterState) (a : Store) (reply : FrameReply) (b : Hosted) → Stands master a reply b → Grows a b.store
stands_grow None a reply b p = host_stays (without_master a) b p.1
stands_grow (Some master) a reply b p = host_stays (with_master (cell_of master a)) b p.1

pub does_grow : (terms : MasterTerms) (sent : Result Frame WireFault) (a : Hosted) (reply : FrameReply) (b : Hosted) → Does terms sent a reply b → Grows a.store b.store
does_grow terms (Ok (frames.Up now)) a reply b p = arrives_grow terms now a.master a.store reply b p
does_grow terms (Ok (frames.Message now message)) a reply b p = listens_grow now message a.master a.store reply b p
does_grow terms (Ok (frames.Tick now)) a reply b p = ticks_grow now a.master a.store reply b p
does_grow terms (Ok frames.Down) a reply b p = leaves_grow a.master a.store reply b p
does_grow terms (Ok frames.State) a reply b p = stands_grow a.master a.store reply b p
does_grow terms (Err fault) a reply b p = host_stays a b p.1

-- ---- frames and groups of them

pub turns_grow : (terms : MasterTerms) (text : Known) (a : Hosted) (given : List Answer) (b : Hosted) (rest : Known) → Turns terms text a given b rest → Grows a.store b.store
turns_grow terms text a [] b rest t = host_stays a b t.0
turns_grow terms text a (answer ∷ given) b rest t =
    let turn : Turn terms text a answer t.0 t.1 = t.2 in
    chain a.store.doubt t.0.store.doubt b.store.doubt (does_grow terms turn.done.sent a answer.reply t.0 turn.done.does) (turns_grow terms t.1 t.0 given b rest t.3)

takes_grow : (terms : GroupTerms) (text : Known) (a : Hosted) (given : List Answer) (b : Hosted) (rest : Known) → TakesGroup terms text a given b rest → Grows a.store b.store
takes_grow terms text a given b rest (inl t) = turns_grow terms.master text a given b rest t
takes_grow terms text a given b rest (inr k) = (each_committed k.pieces a.store b.store k.committed).doubted

groups_grow : (terms : GroupTerms) (text : Known) (a : Hosted) (groups : List (List Answer)) (b : Hosted) (rest : Known) → Groups terms text a groups b rest → Grows a.store b.store
groups_grow terms text a [] b rest t = host_stays a b t.0
groups_grow terms text a (group ∷ groups) b rest t =
    chain a.store.doubt t.0.store.doubt b.store.doubt (takes_grow terms text a group t.0 t.1 t.2) (groups_grow terms t.1 t.0 groups b rest t.3)

lost_grows : (a b : Hosted) → MaybeLost a b → Grows a.store b.store
lost_grows a b (inl e) = host_stays a b e
lost_grows a b (inr e) = host_stays (without_master a.store) b e

one_grows : (terms : MasterTerms) (text : Known) (a b : Hosted) → MaybeOne terms text a b → Grows a.store b.store
one_grows terms text a b (inl e) = host_stays a b e
one_grows terms text a b (inr (reply, rest, done)) = does_grow terms done.sent a reply b done.does

-- however groups of frames ended
pub ends_groups_grow : (terms : GroupTerms) (text : Known) (a : Hosted) (ended : Result (Unit {0}) GroupStop) (b : Hosted) (before after : Known) → EndsGroups terms text a ended b before after
    → Grows a.store b.store
ends_groups_grow terms text a (Ok x) b before after e = groups_grow terms text a e.1.groups b e.0 e.1.done
ends_groups_grow terms text a (Err (Stopped Unread)) b before after e =
    chain a.store.doubt e.0.store.doubt b.store.doubt (groups_grow terms text a e.2.groups e.0 e.1 e.2.done) (lost_grows e.0 b e.3)
ends_groups_grow terms text a (Err (Stopped NoMemory)) b before after e =
    chain a.store.doubt e.0.store.doubt b.store.doubt (groups_grow terms text a e.2.groups e.0 e.1 e.2.done)
    (elim e.3 [ inl one ↦ one_grows terms.master e.1 e.0 b one | inr lost ↦ lost_grows e.0 b lost ])
ends_groups_grow terms text a (Err (Stopped Unwritten)) b before after e =
    chain a.store.doubt e.0.store.doubt b.store.doubt (groups_grow terms text a e.4.groups e.0 e.1 e.4.done)
    (takes_grow terms e.1 e.0 e.5.0 b e.2 e.5.2)
ends_groups_grow terms text a (Err (Refused fault)) b before after e =
    chain a.store.doubt e.0.store.doubt b.store.doubt (groups_grow terms text a e.2.groups e.0 e.1 e.2.done) (cut_doubts fault e.3.pieces e.0.store b.store e.3.refused)
