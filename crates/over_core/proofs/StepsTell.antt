-- What the lines of a take and of a sweep tell of rights.
use Rattle.std.proofs.Common.{◌≡◌, ℕ, ◌+◌, List, [], ◌∷◌, ◌++◌, length, Bool, true, false, cond, Option, Some, None, Result, Ok, Err, refl, sym, ap, ◌∙◌, map, subst}
use Rattle.std.specs.Prelude.{nat_le, find, not}
use Rattle.node_core.specs.Limits.{number_limit}
use Rattle.node_core.specs.Nodes.{with_parent}
use Rattle.node_core.specs.declared.refusals.Fault.{Fault}
use Rattle.node_core.specs.declared.refusals.Fault.TheVariants as faults
use Rattle.node_core.specs.declared.lines.Line.{Line}
use Rattle.node_core.specs.declared.lines.Line.TheVariants as lines
use Rattle.tags_cell.specs.declared.messages.requests.Request.{Request}
use Rattle.tags_cell.specs.declared.messages.outs.Reply.{Reply}
use Rattle.rights_core.specs.declared.cache_rights.CacheRight.{CacheRight}
use Rattle.rights_core.specs.declared.endings.Ending.TheVariants as endings
use Rattle.rights_core.specs.declared.grants.Grant.{Grant}
use Rattle.rights_core.specs.declared.grants.Grant.TheVariants as grants
use Rattle.rights_core.specs.Rights.{held_limit, count_held, is_held_at, answer_beside, grant_answer, with_granted, ended, numbers_ending, IsRecorded}
use Rattle.rights_core.specs.Grants.{Told, rights_at, told_of, Tells}
use Rattle.rights_core.proofs.ToldLines.{AreOfNoRight, both_of_no_right, told_both, same_rights, new_told, acked_told, expired_told, asked_told, AreOfEpoch, both_of_epoch, epoch_lines, numbered_lines, tells, left_told, IsOfEpoch}
use Rattle.lock_core.specs.declared.claims.Claim.{Claim}
use Rattle.lock_core.specs.declared.turns.Lapse.{Lapse}
use Rattle.lock_core.specs.declared.turns.Turn.{Turn}
use Rattle.lock_core.specs.Turns.{is_nobody, reopened}
use Rattle.lock_core.specs.Locks.{lock_at}
use Rattle.master_parts.specs.declared.handles.HandleNote.{HandleNote}
use Rattle.master_parts.specs.declared.pending.Taken.{Taken}
use Rattle.master_parts.specs.declared.pending.Task.TheVariants as tasks
use Rattle.master_state.specs.State.{MasterState}
use Rattle.master_state.specs.Lookups.{granted_lines, repeated_reply, noted}
use Rattle.cell_core.specs.Step.{queued, asking, asking_for, names_of, with_call, take_step}
use Rattle.cell_core.specs.Cases.{TakeCase, taken_by}
use Rattle.cell_core.specs.Cases.TakeCase.{StartRefused, OldBeat, BeatRefused, BeatParked, OldEpoch, NoSession, LeftBefore, Repeated, OlderCall, Outstanding, Answered, Granted, Waits}
use Rattle.master_state.specs.Updates.{with_note}
use Rattle.master_state.specs.Replies.{locked_line, locked_lines, line_if}
use Rattle.master_state.specs.Lapses.{lapse_lines, lapses_lines, lapses_of, parting_lines}
use Rattle.cell_core.specs.declared.effects.Leave.{Leave}
use Rattle.cell_core.specs.Outcomes.{leave_lines}
use Rattle.cell_core.proofs.TakeCases.{taken_case}
use Rattle.master_parts.specs.declared.notices.SessionEvent.{SessionEvent}
use Rattle.master_state.specs.Notices.{with_tellings}
use Rattle.rows_cell.specs.declared.tables.Rows.{Rows}
use Rattle.over_core.specs.declared.swept.Swept.{Swept}
use Rattle.over_core.specs.Kept.{IsKept}
use Rattle.over_core.specs.Sweep.{sweep_step}
use Rattle.over_core.proofs.KeptBySweeps.{sessions_ordered}
use Rattle.over_core.proofs.SweepCases.{swept_case}
use Rattle.over_core.specs.SweepCase.{SweepCase, swept_by}
use Rattle.over_core.specs.SweepCase.SweepCase.{Recovers, Expires, Started, Reopens, Tidies, Tidied, Ended, Applied, Deleted, Locked, Left, Departed}
use Rattle.lock_core.specs.declared.partings.Parting.TheVariants as partings
use Rattle.lock_core.specs.declared.partings.Parting.{Parting}
use Rattle.master_state.specs.Partings.{ending_by, right_line, lock_line}

-- ---- lines of locks

got_of_no_right : (instance generation : ℕ) (claims : List Claim) → AreOfNoRight (map (locked_line instance generation) claims)
got_of_no_right instance generation [] = tt
got_of_no_right instance generation (claim ∷ claims) = (tt, got_of_no_right instance generation claims)

locked_of_no_right : (instance : ℕ) (turn : Turn) → AreOfNoRight (locked_lines instance turn)
locked_of_no_right instance turn = got_of_no_right instance turn.lock.generation turn.granted

if_of_no_right : (b : Bool) (line : Line) → AreOfNoRight (line ∷ []) → AreOfNoRight (line_if b line)
if_of_no_right true line h = h
if_of_no_right false line h = tt

left_of_no_right : (client : ℕ) (leave : Leave) → AreOfNoRight (leave_lines client leave)
left_of_no_right client leave =
    both_of_no_right (line_if leave.held (lines.Freed client leave.instance)) (locked_lines leave.instance leave.turn)
    (if_of_no_right leave.held (lines.Freed client leave.instance) (tt, tt)) (locked_of_no_right leave.instance leave.turn)

line_of_no_right : (parting : Parting) (client instance : ℕ) → AreOfNoRight (lock_line parting client instance ∷ [])
line_of_no_right partings.Expiry client instance = (tt, tt)
line_of_no_right partings.Leave client instance = (tt, tt)

lapse_of_no_right : (parting : Parting) (client : ℕ) (lapse : Lapse) → AreOfNoRight (lapse_lines parting client lapse)
lapse_of_no_right parting client lapse =
    let ends = line_if (not (is_nobody lapse.ended)) (lock_line parting client lapse.instance) in
    let opens = line_if lapse.reopens (lines.Reopened lapse.instance) in
    both_of_no_right (ends ++ opens) (locked_lines lapse.instance lapse.turn)
    (both_of_no_right ends opens (if_of_no_right (not (is_nobody lapse.ended)) (lock_line parting client lapse.instance) (line_of_no_right parting client lapse.instance)) (if_of_no_right lapse.reopens (lines.Reopened lapse.instance) (tt, tt)))
    (locked_of_no_right lapse.instance lapse.turn)

lapses_of_no_right : (parting : Parting) (client : ℕ) (lapses : List Lapse) → AreOfNoRight (lapses_lines parting client lapses)
lapses_of_no_right parting client [] = tt
lapses_of_no_right parting client (lapse ∷ lapses) = both_of_no_right (lapse_lines parting client lapse) (lapses_lines parting client lapses) (lapse_of_no_right parting client lapse) (lapses_of_no_right parting client lapses)

-- ---- a grant

-- the line of an answer tells of the right that it grants, if it does
abbrev TellsAnswer : ℕ → List ℕ → List CacheRight → Result Grant Fault → Type 0
TellsAnswer client name rights answer = rights_at (map told_of rights) (granted_lines client name answer) ≡ Some (map told_of (with_granted answer client name rights))

module _ (client : ℕ) (name : List ℕ) (rights : List CacheRight) where
  spent_told : (b : Bool) → TellsAnswer client name rights (cond b (Err faults.Exhausted) (Ok (grants.Granted (length rights + 1))))
  spent_told true = refl
  spent_told false = new_told client name rights

  full_told : (b : Bool) → TellsAnswer client name rights (cond b (Ok grants.Full) (cond (nat_le number_limit (length rights)) (Err faults.Exhausted) (Ok (grants.Granted (length rights + 1)))))
  full_told true = refl
  full_told false = spent_told (nat_le number_limit (length rights))

  answer_told : (o : Option CacheRight) → TellsAnswer client name rights (answer_beside o rights)
  answer_told (Some right) = refl
  answer_told None = full_told (nat_le held_limit (count_held rights))

  granted_told : TellsAnswer client name rights (grant_answer client name rights)
  granted_told = answer_told (find (is_held_at client name) rights)

-- ---- the master

note_rights : (s : MasterState) (note : Option HandleNote) → (with_note s note).rights ≡ s.rights
note_rights s None = refl
note_rights s (Some note) = refl

asking_told : (s : MasterState) (names : List (List ℕ)) → map told_of (asking_for s names).rights ≡ map told_of s.rights
asking_told s [] = refl
asking_told s (name ∷ names) = asking_told (asking s name) names ∙ asked_told name s.rights s.rights

repeated_rights : (rights : List Told) (reply : Option Reply) → rights_at rights (repeated_reply reply).lines ≡ Some rights
repeated_rights rights None = refl
repeated_rights rights (Some reply) = refl

pub take_told : (s : MasterState) (request : Request) (c : TakeCase s request) → IsRecorded s.rights → rights_at (map told_of s.rights) (taken_by s request c).1.lines ≡ Some (map told_of (taken_by s request c).0.rights)
take_told s request (BeatParked beat is same taken) h = acked_told beat.client beat.invalidations s.rights h
take_told s request (LeftBefore message kept is same ended found number) h = repeated_rights (map told_of s.rights) kept.reply
take_told s request (Repeated message kept heard is same) h = repeated_rights (map told_of s.rights) kept.reply
take_told s request (Answered message note answer new serving answered) h = ap (λ rights. Some (map told_of rights)) (sym (note_rights s note))
take_told s request (Granted message note answer name new serving may) h =
    let t = with_note s note in
    ap (λ rights. rights_at (map told_of rights) (granted_lines message.client name (grant_answer message.client name t.rights))) (sym (note_rights s note)) ∙ granted_told message.client name t.rights
take_told s request (Waits message note touched new serving admitted) h =
    let t = with_note s note in
    ap (λ rights. Some (map told_of rights)) (sym (note_rights s note)) ∙ ap (λ told. Some told) (sym (asking_told (with_call t message touched) (names_of touched)))
take_told s request _ h = refl

locks_told : (rights : List Told) (printed : List Line) → AreOfNoRight printed → rights_at rights printed ≡ Some rights
locks_told rights printed none = same_rights rights printed none

-- of a session that ends
rights_told : (parting : Parting) (client : ℕ) (rights : List CacheRight) → IsRecorded rights → rights_at (map told_of rights) (map (right_line parting) (numbers_ending client (ending_by parting) rights)) ≡ Some (map told_of (ended client (ending_by parting) rights))
rights_told partings.Expiry client rights h = expired_told client rights h
rights_told partings.Leave client rights h = left_told client rights h

parting_told : (parting : Parting) (s : MasterState) (client : ℕ) → IsRecorded s.rights → rights_at (map told_of s.rights) (parting_lines parting s client (lapses_of parting s client)) ≡ Some (map told_of (ended client (ending_by parting) s.rights))
parting_told parting s client h =
    let later = map told_of (ended client (ending_by parting) s.rights) in
    let others = lapses_lines parting client (lapses_of parting s client) in
    let ends = map (right_line parting) (numbers_ending client (ending_by parting) s.rights) in
    told_both (map told_of s.rights) later later (ends ++ others) (lines.Ended client ∷ [])
    (told_both (map told_of s.rights) later later ends others (rights_told parting client s.rights h) (locks_told later others (lapses_of_no_right parting client (lapses_of parting s client)))) refl

pub sweep_told : (s : MasterState) (c : SweepCase s) → IsRecorded s.rights → rights_at (map told_of s.rights) (swept_by s c).1.lines ≡ Some (map told_of (swept_by s c).0.rights)
sweep_told s (Expires client session due) h = parting_told partings.Expiry s client h
sweep_told s (Departed front back asked call sequencer session turn work leave found live) h = parting_told partings.Leave s asked.client h
sweep_told s (Reopens instance due) h =
    let turn = reopened (lock_at s.locks instance) in
    locks_told (map told_of s.rights) (lines.Reopened instance ∷ locked_lines instance turn) (tt, locked_of_no_right instance turn)
sweep_told s (Tidies idle due) h = ap (λ told. Some told) (sym (asking_told (queued s (with_parent idle.name) (tasks.Tidies idle)) (with_parent idle.name)))
sweep_told s (Ended front back asked call sequencer None answer turn work stays live made) h = refl
sweep_told s (Ended front back asked call sequencer (Some note) answer turn work stays live made) h = refl
sweep_told s (Applied front back asked call sequencer None change answer turn work stays live made) h = refl
sweep_told s (Applied front back asked call sequencer (Some note) change answer turn work stays live made) h = refl
sweep_told s (Left front back asked call sequencer None leave answer turn work stays live made) h = locks_told (map told_of s.rights) (leave_lines asked.client leave) (left_of_no_right asked.client leave)
sweep_told s (Left front back asked call sequencer (Some note) leave answer turn work stays live made) h = locks_told (map told_of s.rights) (leave_lines asked.client leave) (left_of_no_right asked.client leave)
sweep_told s _ h = refl

-- ---- no line of a master that is up tells of another epoch

granted_of_epoch : (client : ℕ) (name : List ℕ) (answer : Result Grant Fault) → AreOfEpoch (granted_lines client name answer)
granted_of_epoch client name (Ok (grants.Granted number)) = (tt, tt)
granted_of_epoch client name (Ok (grants.Already number)) = tt
granted_of_epoch client name (Ok grants.Full) = tt
granted_of_epoch client name (Err fault) = tt

repeated_of_epoch : (reply : Option Reply) → AreOfEpoch (repeated_reply reply).lines
repeated_of_epoch None = tt
repeated_of_epoch (Some reply) = tt

take_of_epoch : (s : MasterState) (request : Request) (c : TakeCase s request) → AreOfEpoch (taken_by s request c).1.lines
take_of_epoch s request (StartRefused start is may) = (tt, tt)
take_of_epoch s request (OldBeat beat is other) = (tt, tt)
take_of_epoch s request (BeatRefused beat fault is same refused) = (tt, tt)
take_of_epoch s request (OldEpoch message is other) = (tt, tt)
take_of_epoch s request (NoSession message is same ended) = (tt, tt)
take_of_epoch s request (OlderCall message kept heard is less) = (tt, tt)
take_of_epoch s request (Outstanding message kept heard is more none) = (tt, tt)
take_of_epoch s request (BeatParked beat is same taken) = numbered_lines lines.Acked (λ number. tt) (numbers_ending beat.client (endings.Acknowledgement beat.invalidations) s.rights)
take_of_epoch s request (LeftBefore message kept is same ended found number) = repeated_of_epoch kept.reply
take_of_epoch s request (Repeated message kept heard is same) = repeated_of_epoch kept.reply
take_of_epoch s request (Granted message note answer name new serving may) = granted_of_epoch message.client name (grant_answer message.client name (with_note s note).rights)
take_of_epoch s request _ = tt

right_of_epoch : (parting : Parting) (number : ℕ) → IsOfEpoch (right_line parting number)
right_of_epoch partings.Expiry number = tt
right_of_epoch partings.Leave number = tt

parting_of_epoch : (parting : Parting) (s : MasterState) (client : ℕ) → AreOfEpoch (parting_lines parting s client (lapses_of parting s client))
parting_of_epoch parting s client =
    let ends = map (right_line parting) (numbers_ending client (ending_by parting) s.rights) in
    let others = lapses_lines parting client (lapses_of parting s client) in
    both_of_epoch (ends ++ others) (lines.Ended client ∷ [])
    (both_of_epoch ends others (numbered_lines (right_line parting) (right_of_epoch parting) (numbers_ending client (ending_by parting) s.rights)) (epoch_lines others (lapses_of_no_right parting client (lapses_of parting s client)))) (tt, tt)

sweep_of_epoch : (s : MasterState) (c : SweepCase s) → AreOfEpoch (swept_by s c).1.lines
sweep_of_epoch s (Expires client session due) = parting_of_epoch partings.Expiry s client
sweep_of_epoch s (Departed front back asked call sequencer session turn work leave found live) = parting_of_epoch partings.Leave s asked.client
sweep_of_epoch s (Recovers recovering heard) = (tt, tt)
sweep_of_epoch s (Reopens instance due) =
    let turn = reopened (lock_at s.locks instance) in (tt, epoch_lines (locked_lines instance turn) (locked_of_no_right instance turn))
sweep_of_epoch s (Started front back asked principal received turn work none) = (tt, tt)
sweep_of_epoch s (Tidied front back idle turn still) = (tt, tt)
sweep_of_epoch s (Applied front back asked call sequencer note change answer turn work stays live made) = (tt, tt)
sweep_of_epoch s (Deleted front back asked call sequencer change instance waiters answer turn work stays live made) = (tt, tt)
sweep_of_epoch s (Locked front back asked call sequencer put claim answer turn work stays live made) = (tt, tt)
sweep_of_epoch s (Left front back asked call sequencer note leave answer turn work stays live made) = epoch_lines (leave_lines asked.client leave) (left_of_no_right asked.client leave)
sweep_of_epoch s _ = tt

-- ---- the steps

pub take_tells : (s : MasterState) (request : Request) (c : TakeCase s request) → IsRecorded s.rights → Tells s.rights (taken_by s request c).1.lines (taken_by s request c).0.rights
take_tells s request c h = tells s.rights (taken_by s request c).1.lines (taken_by s request c).0.rights h (take_of_epoch s request c) (take_told s request c h)

pub sweep_tells : (s : MasterState) (c : SweepCase s) → IsRecorded s.rights → Tells s.rights (swept_by s c).1.lines (swept_by s c).0.rights
sweep_tells s c h = tells s.rights (swept_by s c).1.lines (swept_by s c).0.rights h (sweep_of_epoch s c) (sweep_told s c h)

-- a message that was taken
pub taken_tells : (s new : MasterState) (now : ℕ) (request : Request) (taken : Taken) → IsRecorded s.rights → take_step s now request ≡ Ok (new, taken) → Tells s.rights taken.lines new.rights
taken_tells s new now request taken h is =
    let there = noted s now in
    let c = taken_case s new now request taken is in
    let P : MasterState × Taken → Type 0 = λ p. Tells there.rights p.1.lines p.0.rights in
    subst P (sym c.1) (take_tells there request c.0 h)

-- what clients are told of changes no right
told_rights : (s : MasterState) (tellings : List SessionEvent) → (with_tellings s tellings).rights ≡ s.rights
told_rights s tellings = refl

-- a sweep that was made
pub swept_tells : (cell : List ℕ) (rows : Rows) (s new : MasterState) (now : ℕ) (told : Swept) → IsKept cell rows s → sweep_step s now ≡ Ok (new, told) → Tells s.rights told.lines new.rights
swept_tells cell rows s new now told k is =
    let there = noted s now in
    let c = swept_case s new now told (sessions_ordered cell rows s k) k.orderly is in
    let P : MasterState × Swept → Type 0 = λ p. Tells there.rights p.1.lines p.0.rights in
    subst P (sym c.1) (sweep_tells there c.0 k.recorded)
