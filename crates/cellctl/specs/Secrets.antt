-- Settings with a secret that isn't the one that everybody knows.
use Rattle.std.specs.Prelude.{◌≡◌, ◌≢◌, ℕ, List, replicate}
use Rattle.rows_cell.specs.Settings.{Settled}
use Rattle.scripts.specs.Said.{AreSaid}

abbrev pub known_secret : List ℕ
known_secret = replicate 32 0

-- a text says settings with this secret, which isn't 64 zeros
pub record SaysSecret (secret text : List ℕ) : Type 0 where
  pub settings : Settled
  pub says : AreSaid text settings
  pub same : settings.secret ≡ secret
  pub unknown : secret ≢ known_secret
