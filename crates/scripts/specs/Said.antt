-- The settings that a table says.
use Rattle.std.specs.Prelude.{◌≡◌, ⊤, ℕ, ℤ, pos, unsigned_abs, int_lt, nat_lt, Bool, true, false, ◌||◌, ◌&&◌, ◌==◌, List, [], ◌∷◌, length, replicate, codes, string_bytes, Option, Some, None, option_map, Result, Ok, Err, if◌then◌else◌}
use Rattle.std.specs.Str.{bytes_eq}
use Rattle.hex.specs.Hex.{decode_of, encode_lower}
use Rattle.hex.specs.declared.error.FromHexError.{FromHexError}
use Rattle.toml.specs.Data.{Data, Items, no_items, item, Members, no_members, member, as_str, as_integer, as_array, as_table, get_member}
use Rattle.node_core.specs.Limits.{content_limit}
use Rattle.toml.specs.Parse.{parse_document}
use Rattle.names_cell.specs.Text.{is_component}
use Rattle.rows_cell.specs.declared.settings.Limits.{Limits}
use Rattle.rows_cell.specs.Settings.{Settled, base_of, no_limits}
use Rattle.scripts.specs.declared.faults.TextFault.{TextFault}
use Rattle.scripts.specs.declared.faults.TextFault.TheVariants.{NoMemory, NotToml, UnknownKey, WrongCell, WrongLease, WrongPrincipals, WrongSecret, WrongLimits}

-- ---- the keys

abbrev pub is_key : List ℕ → Bool
is_key key = bytes_eq key (codes "cell") || bytes_eq key (codes "lease") || bytes_eq key (codes "principals") || bytes_eq key (codes "secret") || bytes_eq key (codes "limits")

-- the first key that is no setting's
abbrev pub unknown_key : Members → Option (List ℕ)
unknown_key no_members = None
unknown_key (member key value rest) = if is_key key then unknown_key rest else Some key

-- ---- the values

abbrev pub text_of : Option (List ℕ) → Option (List ℕ)
text_of None = None
text_of (Some text) = if is_component text then Some text else None

-- a component, or a principal, which has the same grammar
abbrev pub component_in : Data → Option (List ℕ)
component_in value = text_of (as_str value)

abbrev pub lease_of : Option ℤ → Option ℕ
lease_of None = None
lease_of (Some n) = if int_lt n (pos 1000) || int_lt (pos 60000) n then None else Some (unsigned_abs n)

-- 1,000 to 60,000 ms
abbrev pub lease_in : Data → Option ℕ
lease_in value = lease_of (as_integer value)

abbrev pub both : Option (List ℕ) → Option (List (List ℕ)) → Option (List (List ℕ))
both (Some principal) (Some principals) = Some (principal ∷ principals)
both _ _ = None

abbrev pub principals_of : Items → Option (List (List ℕ))
principals_of no_items = Some []
principals_of (item value rest) = both (component_in value) (principals_of rest)

abbrev pub principals_from : Option Items → Option (List (List ℕ))
principals_from None = None
principals_from (Some items) = principals_of items

-- an array of principals
abbrev pub principals_in : Data → Option (List (List ℕ))
principals_in value = principals_from (as_array value)

-- 32 bytes, of which this is the text
abbrev pub bytes_of : List ℕ → Result (List ℕ) FromHexError → Option (List ℕ)
bytes_of text (Ok bytes) = if length bytes == 32 && bytes_eq (encode_lower bytes) text then Some bytes else None
bytes_of text (Err _) = None

abbrev pub secret_of : Option (List ℕ) → Option (List ℕ)
secret_of None = None
secret_of (Some text) = bytes_of text (decode_of text)

-- 64 hexadecimal digits in lower case
abbrev pub secret_in : Data → Option (List ℕ)
secret_in value = secret_of (as_str value)

-- a value, or the standard one
abbrev pub value_or : {X : Type 0} → X → (Data → Option X) → Option Data → Option X
value_or standard read None = Some standard
value_or standard read (Some value) = read value

-- ---- the limits

abbrev pub is_limit : List ℕ → Bool
is_limit key = bytes_eq key (codes "max_nodes") || bytes_eq key (codes "max_bytes") || bytes_eq key (codes "max_locks")

abbrev pub are_limits : Members → Bool
are_limits no_members = true
are_limits (member key value rest) = if is_limit key then are_limits rest else false

abbrev pub count_of : Option ℤ → Option ℕ
count_of None = None
count_of (Some n) = if int_lt n (pos 0) then None else Some (unsigned_abs n)

-- a whole number, 0 or more
abbrev pub count_in : Data → Option (Option ℕ)
count_in value = option_map Some (count_of (as_integer value))

-- that of a key; no limit, if the key isn't there
abbrev pub limit_said : List ℕ → Members → Option (Option ℕ)
limit_said key said = value_or None count_in (get_member key said)

abbrev pub limits_with : Option (Option ℕ) → Option (Option ℕ) → Option (Option ℕ) → Option Limits
limits_with (Some nodes) (Some bytes) (Some locks) = Some (record { max_nodes = nodes; max_bytes = bytes; max_locks = locks })
limits_with _ _ _ = None

abbrev pub limits_of : Option Members → Option Limits
limits_of None = None
limits_of (Some said) =
    if are_limits said then limits_with (limit_said (codes "max_nodes") said) (limit_said (codes "max_bytes") said) (limit_said (codes "max_locks") said) else None

-- a table of limits
abbrev pub limits_in : Data → Option Limits
limits_in value = limits_of (as_table value)

-- ---- the settings

abbrev pub cell_said : Members → Option (List ℕ)
cell_said said = value_or (codes "c") component_in (get_member (codes "cell") said)

abbrev pub lease_said : Members → Option ℕ
lease_said said = value_or 12000 lease_in (get_member (codes "lease") said)

abbrev pub principals_said : Members → Option (List (List ℕ))
principals_said said = value_or (codes "ann" ∷ codes "bob" ∷ []) principals_in (get_member (codes "principals") said)

abbrev pub secret_said : Members → Option (List ℕ)
secret_said said = value_or (replicate 32 0) secret_in (get_member (codes "secret") said)

abbrev pub limits_said : Members → Option Limits
limits_said said = value_or no_limits limits_in (get_member (codes "limits") said)

-- a table says these settings
pub record Says (members : Members) (settings : Settled) : Type 0 where
  pub known : unknown_key members ≡ None
  pub principals : List (List ℕ)
  pub lines : settings.base ≡ base_of principals
  pub cell : cell_said members ≡ Some settings.cell
  pub lease : lease_said members ≡ Some settings.lease
  pub named : principals_said members ≡ Some principals
  pub secret : secret_said members ≡ Some settings.secret
  pub limits : limits_said members ≡ Some settings.limits

-- the principals are no array of principals, or their lines are too long for a file
abbrev pub AreWrong : Option (List (List ℕ)) → Type 0
AreWrong None = ⊤
AreWrong (Some principals) = nat_lt content_limit (length (base_of principals)) ≡ true

-- what is wrong with a table
abbrev pub IsFault : Members → TextFault → Type 0
IsFault _ NoMemory = ⊤
IsFault _ (NotToml error) = ⊥
IsFault said (UnknownKey key) = unknown_key said ≡ Some (string_bytes key)
IsFault said WrongCell = cell_said said ≡ None
IsFault said WrongLease = lease_said said ≡ None
IsFault said WrongPrincipals = AreWrong (principals_said said)
IsFault said WrongSecret = secret_said said ≡ None
IsFault said WrongLimits = limits_said said ≡ None

-- a text says these settings
abbrev pub AreSaid : List ℕ → Settled → Type 0
AreSaid text settings = (members : Members) × (parse_document text ≡ Some members) × Says members settings

-- why a text says none: memory may be wanting, it is no TOML, or its table says none
abbrev pub IsUnread : List ℕ → TextFault → Type 0
IsUnread text NoMemory = ⊤
IsUnread text (NotToml error) = parse_document text ≡ None
IsUnread text fault = (members : Members) × (parse_document text ≡ Some members) × IsFault members fault
