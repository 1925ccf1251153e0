-- Which changes may be ready, as a queue keeps it: by number, beside the numbers of the changes that touch each name.
use Rattle.std.specs.Prelude.{◌≡◌, ℕ, ◌==◌, Bool, true, false, ◌&&◌, List, [], find, Option, Some, None, is_some}
use Rattle.std.specs.List.{AllByRecursion}
use Rattle.std.specs.Option.{option_map_or}
use Rattle.std.specs.Map.{lookup}
use Rattle.std.specs.BTreeMap.{is_at}
use Rattle.std.specs.Ordering.{nat_cmp}
use Rattle.std.specs.Str.{bytes_eq}
use Rattle.rights_core.specs.declared.cache_rights.CacheRight.{CacheRight}
use Rattle.rights_core.specs.Rights.{held_on}
use Rattle.gate_core.specs.declared.pending.Waiting.{Waiting}
use Rattle.gate_core.specs.Gate.{touches, is_free, is_numbered}

-- the number is one of these
abbrev pub is_listed : ℕ → List (ℕ × Unit {0}) → Bool
is_listed number numbers = is_some (lookup (is_at (nat_cmp number)) numbers)

abbrev pub or_none : Option (List (ℕ × Unit {0})) → List (ℕ × Unit {0})
or_none None = []
or_none (Some numbers) = numbers

-- the numbers to which a name leads
abbrev pub numbers_at : List ℕ → List (List ℕ × List (ℕ × Unit {0})) → List (ℕ × Unit {0})
numbers_at name touching = or_none (lookup (bytes_eq name) touching)

abbrev pub leads : List ℕ → ℕ → List (List ℕ × List (ℕ × Unit {0})) → Bool
leads name number touching = is_listed number (numbers_at name touching)

-- nobody holds the name, and it leads to the number
abbrev pub wakes : List CacheRight → List (List ℕ × List (ℕ × Unit {0})) → ℕ → List ℕ → Bool
wakes rights touching number name = (held_on name rights == 0) && leads name number touching

module _ {T : Type 0} where
  -- the change of this number waits, and no right holds it up
  abbrev pub is_free_at : List CacheRight → List (Waiting T) → ℕ → Bool
  is_free_at rights waiting number = option_map_or (is_free rights) (find (is_numbered number) waiting) false

  -- each change that no right holds up is listed
  abbrev pub AreListed : List CacheRight → List (ℕ × Unit {0}) → List (Waiting T) → Type 0
  AreListed rights free waiting = AllByRecursion (λ w. is_free rights w ≡ true → is_listed w.number free ≡ true) waiting

  -- each name that a change touches leads to it
  abbrev pub AreLedTo : List (List ℕ × List (ℕ × Unit {0})) → List (Waiting T) → Type 0
  AreLedTo touching waiting = AllByRecursion (λ w. (name : List ℕ) → touches name w ≡ true → leads name w.number touching ≡ true) waiting

-- complete: the numbers are those of all changes that may be ready
pub record IsWoken {T : Type 0} (rights : List CacheRight) (waiting : List (Waiting T)) (free : List (ℕ × Unit {0})) (complete : Bool) (touching : List (List ℕ × List (ℕ × Unit {0}))) : Type 0 where
  pub listed : complete ≡ true → AreListed rights free waiting
  pub led : AreLedTo touching waiting
