-- What a cell is set to.
use Rattle.std.specs.Prelude.{ℕ, ◌||◌, nat_lt, List, [], ◌∷◌, ◌++◌, length, replicate, codes, None, Result, Ok, Err, if◌then◌else◌}
use Rattle.std.specs.List.{flat_map}
use Rattle.node_core.specs.Limits.{content_limit}
use Rattle.rows_cell.specs.declared.settings.Limits.{Limits}
use Rattle.rows_cell.specs.declared.settings.MasterTerms.{MasterTerms}
use Rattle.rows_cell.specs.declared.settings.SettingsFault.{SettingsFault}
use Rattle.rows_cell.specs.declared.settings.SettingsFault.TheVariants.{BadLease, TooManyPrincipals}

-- what a cell is set to. lease: in milliseconds. base: what the ACL `base` holds in a new store. limits: what it holds at most
pub record Settled : Type 0 where
  pub cell : List ℕ
  pub lease : ℕ
  pub base : List ℕ
  pub secret : List ℕ
  pub limits : Limits

abbrev pub terms_of : Settled → MasterTerms
terms_of settled = record { lease = settled.lease; limits = settled.limits }

abbrev pub no_limits : Limits
no_limits = record { max_nodes = None; max_bytes = None; max_locks = None }

-- a line for each principal
abbrev pub base_of : List (List ℕ) → List ℕ
base_of principals = flat_map (λ principal. principal ++ 10 ∷ []) principals

-- a lease within 1,000 to 60,000 ms, and principals that fit into a file
abbrev pub settled_or : List ℕ → ℕ → List ℕ → List ℕ → Limits → Result Settled SettingsFault
settled_or cell lease base secret limits =
    if nat_lt lease 1000 || nat_lt 60000 lease then Err BadLease
    else if nat_lt content_limit (length base) then Err TooManyPrincipals
    else Ok (record { cell = cell; lease = lease; base = base; secret = secret; limits = limits })

-- the settings that stand where none are given
abbrev pub standard : Settled
standard = record { cell = codes "c"; lease = 12000; base = base_of (codes "ann" ∷ codes "bob" ∷ []); secret = replicate 32 0; limits = no_limits }
