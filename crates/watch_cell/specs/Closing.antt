-- What closing a watch tests and shows.
use Rattle.std.specs.Prelude.{◌≡◌, ◌⊎◌, ℕ, ◌+◌, ◌<◌, ◌≤◌, max, min, List, [], ◌∷◌, ◌++◌, length, slice_get, ◌==◌, if◌then◌else◌, Option, Some, None}
use Rattle.node_core.specs.declared.refusals.Fault.{Fault}
use Rattle.node_core.specs.declared.refusals.Fault.TheVariants.{NoMemory, PassMissing, ReceiptApart}
use Rattle.rights_core.specs.Grants.{Told, totals_by}
use Rattle.rights_core.specs.declared.totals.Totals.{Totals}
use Rattle.watch_cell.specs.declared.events.Entry.{Entry}
use Rattle.watch_cell.specs.Views.{WatchedState, Ticket, Hand}
use Rattle.watch_cell.specs.Trail.{Replays, grants_of, entry}

-- how often a number stands in a list
abbrev pub times : ℕ → List ℕ → ℕ
times p [] = 0
times p (x ∷ xs) = (if x == p then 1 else 0) + times p xs

-- a quantity of each pass, added up
abbrev pub gathered : (Hand → ℕ) → List Hand → ℕ
gathered f [] = 0
gathered f (h ∷ hs) = f h + gathered f hs

abbrev pub numbers : List Hand → List ℕ
numbers [] = []
numbers (h ∷ hs) = h.number ∷ numbers hs

abbrev pub ticket_places : List Ticket → List ℕ
ticket_places [] = []
ticket_places (t ∷ ts) = t.place ∷ ticket_places ts

-- the places of all receipts
abbrev pub places : List Hand → List ℕ
places [] = []
places (h ∷ hs) = ticket_places h.receipts ++ places hs

-- a receipt is after its pass's earlier ones, no other has its place, and the trail has its event and its reply there
pub record Sound (trail : List Entry) (all : List ℕ) (top : ℕ) (t : Ticket) : Type 0 where
  pub behind : top ≤ t.place
  pub single : times t.place all ≡ 1
  pub entered : slice_get trail t.place ≡ Some (entry t.event t.reply)

-- the first place after these
abbrev pub top_after : ℕ → List Ticket → ℕ
top_after top [] = top
top_after top (t ∷ ts) = top_after (max top (t.place + 1)) ts

-- p is the place of a receipt that isn't sound
abbrev pub FlawIn : List Entry → List ℕ → ℕ → List Ticket → ℕ → Type 0
FlawIn trail all top [] p = ⊥
FlawIn trail all top (t ∷ ts) p = ((t.place ≡ p) × (Sound trail all top t → ⊥)) ⊎ FlawIn trail all (max top (t.place + 1)) ts p

-- of these passes, whose receipts have all these places
abbrev pub FlawOf : List Entry → List ℕ → List Hand → ℕ → Type 0
FlawOf trail all [] p = ⊥
FlawOf trail all (h ∷ hs) p = FlawIn trail all 0 h.receipts p ⊎ FlawOf trail all hs p

-- all receipts of a pass are sound
abbrev pub SoundIn : List Entry → List ℕ → ℕ → List Ticket → Type 0
SoundIn trail all top [] = Unit {0}
SoundIn trail all top (t ∷ ts) = Sound trail all top t × SoundIn trail all (max top (t.place + 1)) ts

abbrev pub SoundOf : List Entry → List ℕ → List Hand → Type 0
SoundOf trail all [] = Unit {0}
SoundOf trail all (h ∷ hs) = SoundIn trail all 0 h.receipts × SoundOf trail all hs

-- the lowest number that has P; where none has it, S
abbrev pub IsLowest : Type 0 → (ℕ → Type 0) → Option ℕ → Type 0
IsLowest S P None = S × ((q : ℕ) → P q → ⊥)
IsLowest S P (Some p) = P p × ((q : ℕ) → P q → p ≤ q)

-- the lower of two numbers that may be there
abbrev pub lower_of : Option ℕ → Option ℕ → Option ℕ
lower_of None o = o
lower_of (Some a) None = Some a
lower_of (Some a) (Some b) = Some (min a b)

-- the place of a receipt, which is one of a trail of 1,000,000 entries at most
abbrev pub IsPlace : Option ℕ → Type 0
IsPlace None = Unit {0}
IsPlace (Some p) = p < 1000000

-- no pass has the number n, and each below is there
pub record Misses (hands : List Hand) (seats n : ℕ) : Type 0 where
  pub first : 1 ≤ n
  pub last : n ≤ seats
  pub missing : times n (numbers hands) ≡ 0
  pub below : (k : ℕ) → 1 ≤ k → k < n → 0 < times k (numbers hands)

-- each pass is there
abbrev pub AllThere : List Hand → ℕ → Type 0
AllThere hands seats = (k : ℕ) → 1 ≤ k → k ≤ seats → 0 < times k (numbers hands)

-- the receipts of a pass are entries of the trail, in rising places
abbrev pub Rising : List Entry → ℕ → List Ticket → Type 0
Rising trail top [] = Unit {0}
Rising trail top (t ∷ ts) = (top ≤ t.place) × (slice_get trail t.place ≡ Some (entry t.event t.reply)) × Rising trail (t.place + 1) ts

abbrev pub AllRising : List Entry → List Hand → Type 0
AllRising trail [] = Unit {0}
AllRising trail (h ∷ hs) = Rising trail 0 h.receipts × AllRising trail hs

-- what a closed watch shows: its passes, retired ones included, against its cell, its trail and its totals
pub record Settled (opening : WatchedState) (seats : ℕ) (hands : List Hand) (cell : WatchedState) (trail : List Entry) (totals : Totals) : Type 0 where
  -- all passes are there
  pub there : AllThere hands seats
  pub count : length hands ≡ seats
  -- the sums of the shares
  pub issued : gathered (λ h. h.issued) hands ≡ totals.issued
  pub acknowledged : gathered (λ h. h.acknowledged) hands ≡ totals.acknowledged
  pub expired : gathered (λ h. h.expired) hands ≡ totals.expired
  pub calls : gathered (λ h. h.calls) hands ≡ length trail
  -- the trail's grants are recorded once, and the totals are theirs; each is held, acknowledged or expired
  pub grants : List Told
  pub granted_once : grants_of trail ≡ Some grants
  pub totals_are : totals ≡ totals_by grants
  pub balance : totals.issued ≡ totals.held + totals.acknowledged + totals.expired
  -- the receipts are the trail's entries, each place once, and those of a pass rise
  pub rising : AllRising trail hands
  pub once : (p : ℕ) → p < length trail → times p (places hands) ≡ 1
  -- the cell is the replay of the trail
  pub replay : Replays opening trail cell

-- the lowest receipt that isn't sound
pub record IsApart (trail : List Entry) (hands : List Hand) (p : ℕ) : Type 0 where
  pub flaw : FlawOf trail (places hands) hands p
  pub lowest : (q : ℕ) → FlawOf trail (places hands) hands q → p ≤ q

-- why a watch refuses to close: for want of memory, for the lowest pass that is missing, or where none is, for the lowest receipt, its place counted from 1, that isn't sound
abbrev pub Refuses : List Hand → List Entry → ℕ → Fault → Type 0
Refuses hands trail seats NoMemory = Unit {0}
Refuses hands trail seats (PassMissing n) = Misses hands seats n
Refuses hands trail seats (ReceiptApart p) = AllThere hands seats × ((place : ℕ) × (p ≡ place + 1) × IsApart trail hands place)
Refuses hands trail seats _ = ⊥
