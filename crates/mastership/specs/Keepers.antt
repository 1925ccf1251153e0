-- What a keeper takes for the outcome of a commit whose answer got lost, by what it then reads at the register.
use Rattle.std.specs.Prelude.{◌≡◌, ◌↔◌, ℕ, ◌+◌, List, ◌∷◌}
use Rattle.mastership.specs.Register.{Transaction, Write, IsHistory, IsOff, IsNamed}

-- the keeper's commit, and the transaction of its next turn by which it ends that commit: done over the same revision, it changes nothing
abbrev pub commit : ℕ → ℕ → ℕ → Transaction
commit keeper turn over = record { keeper = keeper; turn = turn; over = over }

abbrev pub ending : ℕ → ℕ → ℕ → Transaction
ending keeper turn over = record { keeper = keeper; turn = turn + 1; over = over }

-- the answers
abbrev pub stands : ℕ
stands = 1

abbrev pub is_off : ℕ
is_off = 2

abbrev pub is_open : ℕ
is_open = 3

abbrev pub is_over : ℕ
is_over = 4

-- it stands: what was written last is this keeper's this one, and at no other
abbrev pub TellsStands : Transaction → Write → ℕ → Type 0
TellsStands this last told = (told ≡ stands) ↔ (last.done ≡ this)

-- it is off: what was written last is what ended it, and at no other. Then it wasn't done, and never will be
pub record TellsOff (this end : Transaction) (last : Write) (writes : List Write) (told : ℕ) : Type 0 where
  pub exact : (told ≡ is_off) ↔ (last.done ≡ end)
  pub for_good : told ≡ is_off → IsOff this writes

-- it is open: the register stands where it stood before. Then it wasn't done, and may still be
abbrev pub TellsOpen : Transaction → Write → ℕ → Type 0
TellsOpen this last told = (told ≡ is_open) ↔ (last.made ≡ this.over)

-- the keeper's time is over: another has written
pub record TellsOver (this end : Transaction) (last : Write) (told : ℕ) : Type 0 where
  pub exact : (told ≡ is_over) ↔ ((last.done ≡ this → ⊥) × (last.done ≡ end → ⊥) × (last.made ≡ this.over → ⊥))

-- all of it, of a keeper with this number whose commit has this turn and was sent over this revision, and who reads the number and the
-- turn of the last write, and the revision that it made: over whatever was done before, by whomever
pub record Tells (this end : Transaction) (last : Write) (writes : List Write) (told : ℕ) : Type 0 where
  pub standing : TellsStands this last told
  pub off : TellsOff this end last writes told
  pub open_still : TellsOpen this last told
  pub over : TellsOver this end last told

abbrev pub Settles : ℕ → ℕ → ℕ → ℕ → ℕ → ℕ → ℕ → Type 0
Settles keeper turn over read_keeper read_turn read_revision told =
    (last : Write) (before : List Write) →
    IsHistory (last ∷ before) →
    last.done.keeper ≡ read_keeper →
    last.done.turn ≡ read_turn →
    last.made ≡ read_revision →
    IsNamed (commit keeper turn over) last →
    IsNamed (ending keeper turn over) last →
    Tells (commit keeper turn over) (ending keeper turn over) last (last ∷ before) told
