-- The lines of a script: the words that write each step.
use Rattle.std.specs.Prelude.{◌≡◌, ◌⊎◌, ◌&&◌, ◌==◌, ◌<◌, ◌≤◌, ◌^◌, ⊤, ℕ, Bool, true, false, List, map, [], ◌∷◌, ◌++◌, codes, decimal, length, Option, None, Some, if◌then◌else◌}
use Rattle.std.specs.Borrow.{Bor}
use Rattle.std.specs.List.{list_any, slice_split}
use Rattle.hex.specs.Hex.{IsBytes}
use Rattle.names_cell.specs.Text.{is_component, is_name}
use Rattle.node_core.specs.declared.refusals.Fault.{Fault}
use Rattle.node_core.specs.declared.refusals.Fault.TheVariants.{BadName, BadPrincipal}
use Rattle.node_core.specs.declared.kinds.Life.{Life}
use Rattle.node_core.specs.declared.kinds.Life.TheVariants.{Permanent, Ephemeral}
use Rattle.node_core.specs.Words.{lock_mode_text}
use Rattle.tags_cell.specs.Masks.{no_events, is_no_events}
use Rattle.tags_cell.specs.Numbers.{IsClientNumber}
use Rattle.tags_cell.specs.declared.messages.calls.AclNames.{AclNames}
use Rattle.tags_cell.specs.declared.messages.calls.Create.{Create}
use Rattle.tags_cell.specs.declared.messages.calls.Disposition.{Disposition}
use Rattle.tags_cell.specs.declared.messages.calls.Disposition.TheVariants.{May, Must}
use Rattle.tags_cell.specs.declared.messages.calls.NewNode.{NewNode}
use Rattle.tags_cell.specs.declared.messages.calls.NewNode.TheVariants.{File, Directory}
use Rattle.tags_cell.specs.declared.messages.calls.Open.{Open}
use Rattle.tags_cell.specs.declared.masks.Events.{Events}
use Rattle.client_core.specs.declared.parts.asks.Ask.{Ask}
use Rattle.client_core.specs.declared.parts.asks.Ask.TheVariants as calls
use Rattle.client_core.specs.declared.parts.asks.NodeCall.{NodeCall}
use Rattle.client_core.specs.declared.parts.asks.NodeCall.TheVariants as nodes
use Rattle.world_steps.specs.declared.steps.Step.{Step}
use Rattle.world_steps.specs.declared.steps.Step.TheVariants as steps
use Rattle.world_steps.specs.declared.steps.Ticks.{Ticks}
use Rattle.world_steps.specs.declared.steps.Commit.{Commit}
use Rattle.world_steps.specs.declared.steps.Commit.TheVariants.{Kept, Lost}
use Rattle.scripts.specs.Words.{letters_of, HasRight, event_letters, IsWritten, IsContent}

-- a number that a word may write
abbrev pub IsNumber : ℕ → Type 0
IsNumber n = n < 2 ^ 64

-- the content that a word writes
abbrev pub IsFileContent : List ℕ → List ℕ → Type 0
IsFileContent word bytes = IsContent word bytes × IsBytes bytes

-- the generation that has to be present, where one is given
abbrev pub WritesGeneration : List (List ℕ) → Option ℕ → Type 0
WritesGeneration words None = words ≡ []
WritesGeneration words (Some generation) = (words ≡ decimal generation ∷ []) × IsNumber generation

-- the words that a slice of texts holds
abbrev pub texts : List (Bor (List ℕ)) → List (List ℕ)
texts words = map (λ word. word.now) words

-- any words may stand for names here
abbrev pub acl_words : AclNames → List (List ℕ)
acl_words acls = acls.read ∷ (acls.write ∷ (acls.change ∷ []))

-- the ACL names of a new node, which may be left out
abbrev pub new_acl_words : Option AclNames → List (List ℕ)
new_acl_words None = []
new_acl_words (Some acls) = codes "acl" ∷ acl_words acls

abbrev pub disposition_word : Disposition → List ℕ
disposition_word May = codes "may"
disposition_word Must = codes "must"

abbrev pub life_word : Life → List ℕ
life_word Permanent = codes "permanent"
life_word Ephemeral = codes "ephemeral"

-- the node that an `open` makes: the word of its kind, and the words after its life
abbrev pub WritesNode : List ℕ → List (List ℕ) → NewNode → Option AclNames → Type 0
WritesNode kind rest (File bytes) acls = (kind ≡ codes "file") × ((content : List ℕ) × (rest ≡ content ∷ new_acl_words acls) × IsFileContent content bytes)
WritesNode kind rest Directory acls = (kind ≡ codes "dir") × (rest ≡ new_acl_words acls)

abbrev pub WritesMade : List ℕ → List ℕ → List (List ℕ) → Create → Type 0
WritesMade word kind rest create = (disposition_word create.disposition ≡ word) × WritesNode kind rest create.node create.acls

-- of this life
abbrev pub WritesMadeAs : Life → List ℕ → List ℕ → List (List ℕ) → Create → Type 0
WritesMadeAs life word kind rest create = (create.life ≡ life) × WritesMade word kind rest create

abbrev pub WritesLiving : List ℕ → List (List ℕ) → Create → Type 0
WritesLiving word words create = (kind : List ℕ) × (rest : List (List ℕ)) × (words ≡ kind ∷ (life_word create.life ∷ rest)) × WritesMade word kind rest create

-- what an `open` makes: nothing, or a node, permanent or ephemeral
abbrev pub WritesCreate : List (List ℕ) → Option Create → Type 0
WritesCreate words None = words ≡ []
WritesCreate words (Some create) =
    (word : List ℕ) × (rest : List (List ℕ)) × (words ≡ word ∷ rest) × WritesLiving word rest create

-- the lock-delay in milliseconds, and the words after it; 0 may be left out
abbrev pub WritesDelay : List (List ℕ) → ℕ → List (List ℕ) → Type 0
WritesDelay words delay rest = ((words ≡ rest) × (delay ≡ 0)) ⊎ ((words ≡ codes "delay" ∷ (decimal delay ∷ rest)) × IsNumber delay)

-- the events that a client asks for: none without words
abbrev pub WritesEvents : List (List ℕ) → Events → Type 0
WritesEvents words events =
    ((words ≡ []) × (events ≡ no_events)) ⊎ ((words ≡ codes "events" ∷ (event_letters events ∷ [])) × (is_no_events events ≡ false))

-- the lock-delay of a handle, and after it its events
abbrev pub WritesOptions : List (List ℕ) → ℕ → Events → Type 0
WritesOptions words delay events = (rest : List (List ℕ)) × WritesDelay words delay rest × WritesEvents rest events

-- what an `open` makes, and after it the lock-delay and the events of the handle
abbrev pub WritesMaking : List (List ℕ) → Option Create → ℕ → Events → Type 0
WritesMaking words create delay events =
    (made : List (List ℕ)) × (last : List (List ℕ)) × (words ≡ made ++ last) × (WritesCreate made create × WritesOptions last delay events)

abbrev pub WritesOpen : List (List ℕ) → Open → Type 0
WritesOpen words opening =
    (rest : List (List ℕ)) × (words ≡ opening.name ∷ (letters_of opening.mode ∷ rest))
    × (HasRight opening.mode × WritesMaking rest opening.create opening.delay opening.events)

abbrev pub WritesSomeCreate : List (List ℕ) → Type 0
WritesSomeCreate words = (create : Option Create) × WritesCreate words create

-- after the disposition
abbrev pub WritesSomeNode : List (List ℕ) → Type 0
WritesSomeNode words = (word : List ℕ) × (create : Create) × WritesLiving word words create

-- a content, and ACL names
abbrev pub WritesSomeFile : List (List ℕ) → Type 0
WritesSomeFile words = (content : List ℕ) × (acls : Option AclNames) × (words ≡ content ∷ new_acl_words acls)

abbrev pub WritesSomeAcls : List (List ℕ) → Type 0
WritesSomeAcls words = (acls : Option AclNames) × (words ≡ new_acl_words acls)

-- a lock-delay and events begin with words of their own
abbrev pub IsOptionWord : List ℕ → Type 0
IsOptionWord word = (word ≡ codes "delay") ⊎ (word ≡ codes "events")

abbrev pub BeginsOptions : List (List ℕ) → Type 0
BeginsOptions [] = ⊤
BeginsOptions (word ∷ rest) = IsOptionWord word

-- however the words are read as such a part with a lock-delay or events after it, the part is so many of them
pub record IsCut (IsPart : List (List ℕ) → Type 0) (words : List (List ℕ)) (count : ℕ) : Type 0 where
  pub fits : count ≤ length words
  pub cut : (part last : List (List ℕ)) → words ≡ part ++ last → IsPart part → BeginsOptions last → length part ≡ count

-- one number
abbrev pub WritesNumber : List (List ℕ) → ℕ → Type 0
WritesNumber words n = (words ≡ decimal n ∷ []) × IsNumber n

-- the bytes that a word writes, at least one, two lower case hexadecimal digits each
abbrev pub IsHex : List ℕ → List ℕ → Type 0
IsHex word bytes = IsWritten word bytes × IsBytes bytes

-- the word of a call on a node, and the words after its handle
abbrev pub WritesNodeCall : List ℕ → List (List ℕ) → NodeCall → Type 0
WritesNodeCall word rest nodes.Read = (word ≡ codes "read") × (rest ≡ [])
WritesNodeCall word rest nodes.Stat = (word ≡ codes "stat") × (rest ≡ [])
WritesNodeCall word rest nodes.List = (word ≡ codes "list") × (rest ≡ [])
WritesNodeCall word rest nodes.Delete = (word ≡ codes "delete") × (rest ≡ [])
WritesNodeCall word rest (nodes.Set bytes generation) =
    (word ≡ codes "set") × ((content : List ℕ) × (last : List (List ℕ)) × (rest ≡ content ∷ last) × (IsFileContent content bytes × WritesGeneration last generation))
WritesNodeCall word rest (nodes.SetAcl acls generation) =
    (word ≡ codes "acl") × ((last : List (List ℕ)) × (rest ≡ acl_words acls ++ last) × WritesGeneration last generation)
WritesNodeCall word rest (nodes.Acquire mode) = (word ≡ codes "acquire") × (rest ≡ lock_mode_text mode ∷ [])
WritesNodeCall word rest (nodes.TryAcquire mode) = (word ≡ codes "try") × (rest ≡ lock_mode_text mode ∷ [])
WritesNodeCall word rest nodes.Release = (word ≡ codes "release") × (rest ≡ [])
WritesNodeCall word rest nodes.GetSequencer = (word ≡ codes "getseq") × (rest ≡ [])

-- one that doesn't ask for a lock
abbrev pub IsPlainCall : List ℕ → List (List ℕ) → NodeCall → Type 0
IsPlainCall word rest (nodes.Acquire mode) = ⊥
IsPlainCall word rest (nodes.TryAcquire mode) = ⊥
IsPlainCall word rest call = WritesNodeCall word rest call

abbrev pub WritesHandleCall : List ℕ → List (List ℕ) → ℕ → NodeCall → Type 0
WritesHandleCall word words handle call = (rest : List (List ℕ)) × (words ≡ decimal handle ∷ rest) × (IsNumber handle × WritesNodeCall word rest call)

abbrev pub IsHandleCall : List ℕ → List (List ℕ) → Ask → Type 0
IsHandleCall word words (calls.Node handle call) = WritesHandleCall word words handle call
IsHandleCall word words _ = ⊥

-- a handle and a sequencer
abbrev pub WritesSetting : List (List ℕ) → ℕ → List ℕ → Type 0
WritesSetting words handle bytes = (text : List ℕ) × (words ≡ decimal handle ∷ (text ∷ [])) × (IsNumber handle × IsHex text bytes)

-- a sequencer
abbrev pub WritesHex : List (List ℕ) → List ℕ → Type 0
WritesHex words bytes = (text : List ℕ) × (words ≡ text ∷ []) × IsHex text bytes

-- the word of a call, and the words after it
abbrev pub WritesCall : List ℕ → List (List ℕ) → Ask → Type 0
WritesCall word rest (calls.Open opening) = (word ≡ codes "open") × WritesOpen rest opening
WritesCall word rest (calls.Close handle) = (word ≡ codes "close") × WritesNumber rest handle
WritesCall word rest (calls.Poison handle) = (word ≡ codes "poison") × WritesNumber rest handle
WritesCall word rest (calls.Node handle call) = WritesHandleCall word rest handle call
WritesCall word rest (calls.SetSequencer handle bytes) = (word ≡ codes "setseq") × WritesSetting rest handle bytes
WritesCall word rest (calls.CheckSequencer bytes) = (word ≡ codes "checkseq") × WritesHex rest bytes
WritesCall word rest calls.Leave = (word ≡ codes "leave") × (rest ≡ [])

-- a client, the word of a call, and the words after it
abbrev pub WritesAsk : List (List ℕ) → ℕ → Ask → Type 0
WritesAsk words client call = (word : List ℕ) × (rest : List (List ℕ)) × (words ≡ decimal client ∷ (word ∷ rest)) × (IsNumber client × WritesCall word rest call)

-- a client's number and its own step, a colon between
abbrev pub own_word : ℕ × ℕ → List ℕ
own_word own = decimal own.0 ++ (codes ":" ++ decimal own.1)

-- numbers that words may write
abbrev pub IsOwn : ℕ × ℕ → Type 0
IsOwn own = IsNumber own.0 × IsNumber own.1

abbrev pub AreOwn : List (ℕ × ℕ) → Type 0
AreOwn [] = ⊤
AreOwn (own ∷ rest) = IsOwn own × AreOwn rest

-- steps of single clients, a word each
abbrev pub WritesOwn : List (List ℕ) → List (ℕ × ℕ) → Type 0
WritesOwn words own = (words ≡ map own_word own) × AreOwn own

-- the master's step, that of the clients, and the steps of single clients
abbrev pub WritesTicks : List (List ℕ) → Ticks → Type 0
WritesTicks words ticks =
    (rest : List (List ℕ)) × (words ≡ decimal ticks.master ∷ (decimal ticks.clients ∷ rest)) × (IsNumber ticks.master × (IsNumber ticks.clients × WritesOwn rest ticks.own))

abbrev pub commit_word : Commit → List ℕ
commit_word Kept = codes "kept"
commit_word Lost = codes "lost"

-- the word of a step, and the words after it
abbrev pub WritesStep : List ℕ → List (List ℕ) → Step → Type 0
WritesStep word rest (steps.Up moment) = (word ≡ codes "up") × WritesNumber rest moment
WritesStep word rest (steps.Join client principal) = (word ≡ codes "join") × ((rest ≡ decimal client ∷ (principal ∷ [])) × IsClientNumber client)
WritesStep word rest (steps.Ask client call) = (word ≡ codes "ask") × WritesAsk rest client call
WritesStep word rest (steps.Beat client) = (word ≡ codes "beat") × WritesNumber rest client
WritesStep word rest (steps.Tick ticks) = (word ≡ codes "tick") × WritesTicks rest ticks
WritesStep word rest (steps.Take message) = (word ≡ codes "take") × WritesNumber rest message
WritesStep word rest (steps.Give message) = (word ≡ codes "give") × WritesNumber rest message
WritesStep word rest steps.Sweep = (word ≡ codes "sweep") × (rest ≡ [])
WritesStep word rest steps.Beats = (word ≡ codes "beats") × (rest ≡ [])
WritesStep word rest steps.Down = (word ≡ codes "down") × (rest ≡ [])
WritesStep word rest (steps.CutSweep commit) = (word ≡ codes "cut") × (rest ≡ codes "sweep" ∷ (commit_word commit ∷ []))
WritesStep word rest (steps.CutUp moment commit) = (word ≡ codes "cut") × ((rest ≡ codes "up" ∷ (decimal moment ∷ (commit_word commit ∷ []))) × IsNumber moment)

abbrev pub WritesWords : List (List ℕ) → Step → Type 0
WritesWords [] step = ⊥
WritesWords (word ∷ rest) step = WritesStep word rest step

abbrev pub is_space : ℕ → Bool
is_space b = b == 32

abbrev pub is_blank : List ℕ → Bool
is_blank [] = true
is_blank (b ∷ bs) = false

-- the words stand after one another with one space between
abbrev pub WritesLine : List ℕ → Step → Type 0
WritesLine line step = (list_any is_blank (slice_split is_space line) ≡ false) × WritesWords (slice_split is_space line) step

-- a blank line, or a comment
abbrev pub IsSkipped : List ℕ → Type 0
IsSkipped line = (line ≡ []) ⊎ ((rest : List ℕ) × (line ≡ codes "#" ++ rest))

abbrev pub fault_unless : Bool → Fault → Option Fault
fault_unless right fault = if right then None else Some fault

-- a word that stands for an ACL name and is none
abbrev pub acls_fault : AclNames → Option Fault
acls_fault acls = fault_unless (is_component acls.read && is_component acls.write && is_component acls.change) BadName

abbrev pub new_acls_fault : Option AclNames → Option Fault
new_acls_fault None = None
new_acls_fault (Some acls) = acls_fault acls

abbrev pub made_fault : Create → Option Fault
made_fault create = new_acls_fault create.acls

abbrev pub create_fault : Option Create → Option Fault
create_fault None = None
create_fault (Some create) = made_fault create

abbrev pub open_fault : Open → Option Fault
open_fault opening = if is_name opening.name then create_fault opening.create else Some BadName

abbrev pub node_call_fault : NodeCall → Option Fault
node_call_fault (nodes.SetAcl acls generation) = acls_fault acls
node_call_fault _ = None

-- a word that stands for a name or an ACL name and is none
abbrev pub call_fault : Ask → Option Fault
call_fault (calls.Open opening) = open_fault opening
call_fault (calls.Node handle call) = node_call_fault call
call_fault _ = None

-- what a step of the right form is refused for, before every other refusal: a name in it, or its principal, that is none
abbrev pub step_fault : Step → Option Fault
step_fault (steps.Join client principal) = fault_unless (is_component principal) BadPrincipal
step_fault (steps.Ask client call) = call_fault call
step_fault _ = None
