-- What was done at one register by compare and swap: a transaction is done only while the register stands at the revision that it names.
use Rattle.std.specs.Prelude.{◌≡◌, ◌⊎◌, ℕ, ◌<◌, ◌≤◌, List, [], ◌∷◌, ◌++◌}

-- the number of the keeper whose it is, which of that keeper's it is, and over which revision alone it is done
pub record Transaction : Type 0 where
  pub keeper : ℕ
  pub turn : ℕ
  pub over : ℕ

-- one that was done, and the revision that it made
pub record Write : Type 0 where
  pub done : Transaction
  pub made : ℕ

-- where the register stands after these writes, the last of them first; 0 before the first
abbrev pub revision : List Write → ℕ
revision [] = 0
revision (write ∷ before) = write.made

-- what compare and swap lets happen: each is done over the revision of the one before it, and revisions rise. Which transactions were
-- sent, when they come, how often, and which are lost, is left open
abbrev pub IsHistory : List Write → Type 0
IsHistory [] = Unit {0}
IsHistory (write ∷ before) = (write.done.over ≡ revision before) × (write.done.over < write.made) × IsHistory before

-- it was done, sooner or later
abbrev pub Happened : Transaction → List Write → Type 0
Happened transaction [] = ⊥
Happened transaction (write ∷ before) = (write.done ≡ transaction) ⊎ Happened transaction before

-- it isn't done, and never will be, however late or often it comes
abbrev pub IsOff : Transaction → List Write → Type 0
IsOff transaction writes = (later : List Write) → IsHistory (later ++ writes) → Happened transaction (later ++ writes) → ⊥

-- a keeper's number is its own, and it gives two transactions two turns: so what was done in this one's turn is this one
abbrev pub IsNamed : Transaction → Write → Type 0
IsNamed transaction write = write.done.keeper ≡ transaction.keeper → write.done.turn ≡ transaction.turn → write.done ≡ transaction

-- once a write stands, what is done later was sent over the revision that it made, or over a later one: nothing that was on its way
abbrev pub NothingEarlier : Type 0
NothingEarlier =
    (write : Write) (before later : List Write) (transaction : Transaction) → IsHistory (later ++ (write ∷ before)) → Happened transaction later → write.made ≤ transaction.over
