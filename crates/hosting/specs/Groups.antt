-- Frames that are there together: each is done in its turn, over changes that are held back; then all that they changed is committed in
-- pieces that the store takes, and only then it is told of them.
use Rattle.std.specs.Prelude.{◌≡◌, ◌⊎◌, ◌≤◌, ⊤, ℕ, List, [], ◌∷◌, ◌++◌, length, Option, Some, None, Result, Ok, Err}
use Rattle.std.specs.Io.KnownBytes.{Appends, IsAtEnd}
use Rattle.node_core.specs.declared.refusals.Fault.{Fault}
use Rattle.rows_cell.specs.declared.settings.MasterTerms.{MasterTerms}
use Rattle.rows_cell.specs.declared.tables.Edit.{Edit}
use Rattle.master_state.specs.State.{MasterState}
use Rattle.over_core.specs.Sweep.{IsSettled}
use Rattle.codec.specs.declared.faults.WireFault.{WireFault}
use Rattle.output.specs.Fronts.{AppendsFront}
use Rattle.hosting.specs.Held.{GroupState, ground, store_behind, seen}
use Rattle.hosting.specs.Pieces.{AreTaken, CommitsEach, IsCutShort, all_pieces, joined}
use Rattle.hosting.specs.Parted.{PartsFrame, PartsFrames, ArePartedBySteps}
use Rattle.hosting.specs.declared.pieces.GroupTerms.{GroupTerms}
use Rattle.hosting.specs.declared.frames.Frame.{Frame}
use Rattle.hosting.specs.declared.seats.FrameReply.{FrameReply}
use Rattle.hosting.specs.declared.seats.FrameReply.TheVariants as replies
use Rattle.hosting.specs.declared.stops.StreamStop.{StreamStop}
use Rattle.hosting.specs.declared.stops.StreamStop.TheVariants.{Unread, Unwritten, NoMemory}
use Rattle.hosting.specs.declared.stops.GroupStop.{GroupStop}
use Rattle.hosting.specs.declared.stops.GroupStop.TheVariants.{Stopped, Refused}
use Rattle.hosting.specs.declared.streams.Turned.{Turned}
use Rattle.hosting.specs.declared.streams.Turned.TheVariants as turned_as
use Rattle.hosting.specs.declared.groups.Course.{Course}
use Rattle.hosting.specs.declared.groups.Course.TheVariants as courses
use Rattle.hosting.specs.declared.gathers.Behind.{Behind}
use Rattle.hosting.specs.declared.gathers.Behind.TheVariants as behinds
use Rattle.hosting.specs.declared.gathers.Onward.{Onward}
use Rattle.hosting.specs.declared.gathers.Onward.TheVariants as onwards
use Rattle.hosting.specs.declared.gathers.Tried.{Tried}
use Rattle.hosting.specs.declared.gathers.Tried.TheVariants as tries
use Rattle.hosting.specs.Seats.{Hosted, with_master, without_master, Does, IsDue}
use Rattle.hosting.specs.Replies.{all_told, AreBlocks}
use Rattle.hosting.specs.Streams.{FrameIs, FoundFrame, Answer, Turns, AreAnswers, MaybeOne}

abbrev Known : Type 0
Known = Option (List ℕ)

-- ---- groups

-- the most frames of a group
abbrev pub group_limit : ℕ
group_limit = 256

-- a message, or the time
abbrev pub IsOfGroup : FrameReply → Type 0
IsOfGroup (replies.Answered answered) = ⊤
IsOfGroup (replies.Swept settled) = ⊤
IsOfGroup reply = ⊥

abbrev pub AreOfGroup : List Answer → Type 0
AreOfGroup [] = ⊤
AreOfGroup (answer ∷ answers) = IsOfGroup answer.reply × AreOfGroup answers

-- frames, messages and ticks alone and at most 256, were done, each by the master that the one before it left, over rows that nobody else sees; then all that they changed was
-- committed, piece by piece
pub record KeptGroup (terms : GroupTerms) (text : Known) (old : Hosted) (answers : List Answer) (new : Hosted) (rest : Known) : Type 0 where
  pub done : Hosted
  pub turns : Turns terms.master text old answers done rest
  pub few : length answers ≤ group_limit
  pub kinds : AreOfGroup answers
  pub pieces : List (List Edit)
  pub taken : AreTaken terms.limits pieces
  pub held : done.store ≡ store_behind old.store (joined pieces)
  pub committed : CommitsEach pieces old.store new.store
  pub master : new.master ≡ done.master

-- frames were done likewise, over a store that a crash leaves as it is; the store refused a piece of what they changed, the master is
-- gone, and the rows are as the pieces before it left them, each of which ends after a step of the master
pub record LostGroup (terms : GroupTerms) (text : Known) (old : Hosted) (fault : Fault) (new : Hosted) : Type 0 where
  pub done : Hosted
  pub answers : List Answer
  pub rest : Known
  pub turns : Turns terms.master text old answers done rest
  pub few : length answers ≤ group_limit
  pub kinds : AreOfGroup answers
  pub pieces : List (List Edit)
  pub taken : AreTaken terms.limits pieces
  pub settled : IsSettled old.store
  pub held : done.store ≡ store_behind old.store (joined pieces)
  pub parted : ArePartedBySteps terms.master text old pieces
  pub refused : IsCutShort fault pieces old.store new.store
  pub gone : new.master ≡ None

-- frames were done by themselves, one after the other; or as a group
abbrev pub TakesGroup : GroupTerms → Known → Hosted → List Answer → Hosted → Known → Type 0
TakesGroup terms text old answers new rest = Turns terms.master text old answers new rest ⊎ KeptGroup terms text old answers new rest

-- groups, one after the other
abbrev pub Groups : GroupTerms → Known → Hosted → List (List Answer) → Hosted → Known → Type 0
Groups terms text old [] new rest = (new ≡ old) × (rest ≡ text)
Groups terms text old (group ∷ groups) new rest =
    (mid : Hosted) × (behind : Known) × TakesGroup terms text old group mid behind × Groups terms behind mid groups new rest

abbrev pub all_answers : List (List Answer) → List Answer
all_answers [] = []
all_answers (group ∷ groups) = group ++ all_answers groups

-- groups were done and committed, and all that is told of them was written
pub record ServedGroups (terms : GroupTerms) (text : Known) (old new : Hosted) (rest before after : Known) : Type 0 where
  pub groups : List (List Answer)
  pub bytes : List ℕ
  pub done : Groups terms text old groups new rest
  pub told : AreAnswers (all_answers groups) bytes
  pub written : Appends before after bytes

-- nothing was changed; or the master is gone, and its store is as it was
abbrev pub MaybeLost : Hosted → Hosted → Type 0
MaybeLost old new = (new ≡ old) ⊎ (new ≡ without_master old.store)

-- a group was done and committed, and a front of all that is told of it was written
abbrev pub BreaksGroup : GroupTerms → Known → Hosted → Hosted → Known → Known → Known → Type 0
BreaksGroup terms text old new rest before after =
    (group : List Answer) × (bytes : List ℕ) × TakesGroup terms text old group new rest × AreAnswers group bytes × AppendsFront before after bytes

-- all frames of a text were done and told of; or those of the groups before one that couldn't be read, for which there was no memory, or
-- which the store refused; or those before one that was done, a front alone of what is told of it
abbrev pub EndsGroups : GroupTerms → Known → Hosted → Result (Unit {0}) GroupStop → Hosted → Known → Known → Type 0
EndsGroups terms text old (Ok x) new before after = (rest : Known) × ServedGroups terms text old new rest before after × IsAtEnd rest
EndsGroups terms text old (Err (Stopped Unread)) new before after =
    (mid : Hosted) × (rest : Known) × ServedGroups terms text old mid rest before after × MaybeLost mid new
EndsGroups terms text old (Err (Stopped NoMemory)) new before after =
    (mid : Hosted) × (rest : Known) × ServedGroups terms text old mid rest before after × (MaybeOne terms.master rest mid new ⊎ MaybeLost mid new)
EndsGroups terms text old (Err (Stopped Unwritten)) new before after =
    (mid : Hosted) × (rest : Known) × (behind : Known) × (between : Known)
    × ServedGroups terms text old mid rest before between × BreaksGroup terms rest mid new behind between after
EndsGroups terms text old (Err (Refused fault)) new before after =
    (mid : Hosted) × (rest : Known) × ServedGroups terms text old mid rest before after × LostGroup terms rest mid fault new

-- ---- one of them

-- groups were served, and it goes on; or it is over so
abbrev pub Goes : GroupTerms → Known → Hosted → Course → Hosted → Known → Known → Known → Type 0
Goes terms text old courses.On new rest before after = ServedGroups terms text old new rest before after
Goes terms text old courses.Over new rest before after = EndsGroups terms text old (Ok tt) new before after
Goes terms text old (courses.Ends stop) new rest before after = EndsGroups terms text old (Err stop) new before after

-- the same, where a frame was read, or none is left
abbrev pub GoesBy : GroupTerms → Option (Result Frame WireFault) → Known → Hosted → Course → Hosted → Known → Known → Known → Type 0
GoesBy terms found here old course new rest before after = (text : Known) → FoundFrame found text here → Goes terms text old course new rest before after

-- what a frame by itself came to
abbrev pub course_of : Turned → Course
course_of turned_as.On = courses.On
course_of turned_as.Over = courses.Over
course_of (turned_as.Stopped stop) = courses.Ends (Stopped stop)

-- what was found after a group that was kept was done by itself
abbrev pub ServesBehind : GroupTerms → Course → Option (Result Frame WireFault) → Known → Hosted → Course → Hosted → Known → Known → Type 0
ServesBehind terms courses.On found here old course new before after = GoesBy terms found here old course new here before after
ServesBehind terms kept found here old course new before after = (course ≡ kept) × (new ≡ old) × (after ≡ before)

-- what is hosted while changes are held back: the master sees them as committed
abbrev pub together : GroupState → Hosted
together group = with_master (seen group)

-- a frame was done, what it changed is held back, and what is told of it stands after what was told
pub record HeldTurn (sent : Result Frame WireFault) (old new : GroupState) (before after : List ℕ) : Type 0 where
  pub answer : Answer
  pub bytes : List ℕ
  pub does : (terms : MasterTerms) → Does terms sent (together old) answer.reply (together new)
  pub due : IsDue (Some new.master) answer.deadline
  pub blocks : AreBlocks (all_told answer.reply answer.deadline) bytes
  pub told : after ≡ before ++ bytes
  pub store : ground new ≡ ground old
  pub parted : PartsFrame sent old new
  pub kind : IsOfGroup answer.reply

-- a frame was done so, or it is none that is done in a group
abbrev pub DoesHeld : Result Frame WireFault → GroupState → Option FrameReply → GroupState → Type 0
DoesHeld sent old (Some reply) new = ((terms : MasterTerms) → Does terms sent (together old) reply (together new)) × (ground new ≡ ground old) × PartsFrame sent old new × IsOfGroup reply
DoesHeld sent old None new = new ≡ old

-- why a group is lost before it is committed
abbrev pub IsLosing : StreamStop → Type 0
IsLosing Unwritten = ⊥
IsLosing stop = ⊤

-- all that is told of a frame, with a deadline, stands after what was told; or there is no memory for it
abbrev pub PutsTold : Tried → FrameReply → Option ℕ → List ℕ → List ℕ → Type 0
PutsTold tries.Done reply deadline before after = (bytes : List ℕ) × AreBlocks (all_told reply deadline) bytes × (after ≡ before ++ bytes)
PutsTold tries.Alone reply deadline before after = ⊥
PutsTold (tries.Stopped stop) reply deadline before after = IsLosing stop

abbrev pub PutsReply : Tried → MasterState → FrameReply → List ℕ → List ℕ → Type 0
PutsReply tries.Done master reply before after = (deadline : Option ℕ) × IsDue (Some master) deadline × PutsTold tries.Done reply deadline before after
PutsReply tries.Alone master reply before after = ⊥
PutsReply (tries.Stopped stop) master reply before after = IsLosing stop

abbrev pub Tries : Result Frame WireFault → GroupState → Tried → GroupState → List ℕ → List ℕ → Type 0
Tries sent old tries.Done new before after = HeldTurn sent old new before after
Tries sent old tries.Alone new before after = (new ≡ old) × (after ≡ before)
Tries sent old (tries.Stopped stop) new before after = IsLosing stop × (ground new ≡ ground old)

-- what stands after a frame: nobody looked; or it was found; or it can't be read
abbrev pub StandsBehind : Behind → Known → Known → Type 0
StandsBehind behinds.Nothing before after = after ≡ before
StandsBehind (behinds.Found found) before after = FoundFrame found before after
StandsBehind (behinds.Lost stop) before after = IsLosing stop

abbrev pub NextThere : Onward → Known → Known → Type 0
NextThere (onwards.Next sent) before after = FrameIs before sent after
NextThere (onwards.Ends behind) before after = StandsBehind behind before after

-- so many frames at most were done, one after the other, what they changed is held back, and what is told of them stands in a list
pub record Gathered (most : ℕ) (terms : MasterTerms) (text : Known) (old new : GroupState) (rest : Known) (before after : List ℕ) : Type 0 where
  pub answers : List Answer
  pub bytes : List ℕ
  pub turns : Turns terms text (together old) answers (together new) rest
  pub few : length answers ≤ most
  pub kinds : AreOfGroup answers
  pub told : AreAnswers answers bytes
  pub behind : after ≡ before ++ bytes
  pub store : ground new ≡ ground old
  pub parted : PartsFrames terms text old new

-- and what stands after them was looked for
abbrev pub Gathers : ℕ → MasterTerms → Known → GroupState → Behind → GroupState → Known → List ℕ → List ℕ → Type 0
Gathers most terms text old (behinds.Lost stop) new rest before after = IsLosing stop × (ground new ≡ ground old)
Gathers most terms text old behind new rest before after = (there : Known) × Gathered most terms text old new there before after × StandsBehind behind there rest

abbrev pub GathersOn : ℕ → MasterTerms → Known → GroupState → Onward → GroupState → Known → List ℕ → List ℕ → Type 0
GathersOn most terms text old (onwards.Next sent) new rest before after = (there : Known) × Gathered most terms text old new there before after × FrameIs there sent rest
GathersOn most terms text old (onwards.Ends behind) new rest before after = Gathers most terms text old behind new rest before after

-- the same, from a frame on that was read
abbrev pub GathersBy : ℕ → Result Frame WireFault → Known → GroupState → Behind → GroupState → Known → List ℕ → List ℕ → Type 0
GathersBy most begun here old behind new rest before after =
    (terms : MasterTerms) → (text : Known) → FrameIs text begun here → Gathers most terms text old behind new rest before after

abbrev pub GathersOnBy : ℕ → Result Frame WireFault → Known → GroupState → Onward → GroupState → Known → List ℕ → List ℕ → Type 0
GathersOnBy most begun here old onward new rest before after =
    (terms : MasterTerms) → (text : Known) → FrameIs text begun here → GathersOn most terms text old onward new rest before after

-- ---- the commit

pub record IsKeptAs (group : GroupState) (new : Hosted) : Type 0 where
  pub taken : AreTaken group.held.limits (all_pieces group.held)
  pub committed : CommitsEach (all_pieces group.held) group.store new.store
  pub master : new.master ≡ Some group.master

pub record IsLostAs (fault : Fault) (group : GroupState) (new : Hosted) : Type 0 where
  pub taken : AreTaken group.held.limits (all_pieces group.held)
  pub refused : IsCutShort fault (all_pieces group.held) group.store new.store
  pub gone : new.master ≡ None

-- what is held back was committed, and what is told was written then, or a front of it; or the store refused it, and nothing was written
abbrev pub Keeps : GroupState → List ℕ → Course → Hosted → Known → Known → Type 0
Keeps group told courses.On new before after = IsKeptAs group new × Appends before after told
Keeps group told courses.Over new before after = ⊥
Keeps group told (courses.Ends (Stopped Unwritten)) new before after = IsKeptAs group new × AppendsFront before after told
Keeps group told (courses.Ends (Stopped stop)) new before after = ⊥
Keeps group told (courses.Ends (Refused fault)) new before after = IsLostAs fault group new × (after ≡ before)
