-- The versions of a store, and of which a schema is. One of the second may lack its last index.
use Rattle.std.specs.Prelude.{◌≡◌, ◌≢◌, ◌⊎◌, ℤ, pos, Option, MatchOption, ⊤}
use Rattle.sqlite_schema.specs.declared.schema.Schema.{Schema}
use Rattle.rows_sql.specs.declared.schema.ours.Version.{Version}
use Rattle.rows_sql.specs.declared.schema.ours.Version.TheVariants.{First, Unindexed, Second, Third}
use Rattle.rows_sql.specs.OurSchema.{the_schema, second_schema, unindexed_schema, first_schema}

abbrev pub schema_of : Version → Schema
schema_of First = first_schema
schema_of Unindexed = unindexed_schema
schema_of Second = second_schema
schema_of Third = the_schema

-- the number that the row of the cell has, in a store of now at least
abbrev pub number_of : Version → ℤ
number_of First = pos 1
number_of Unindexed = pos 2
number_of Second = pos 2
number_of Third = pos 3

-- it came before the version of now
abbrev pub IsEarlier : Version → Type 0
IsEarlier First = ⊤
IsEarlier Unindexed = ⊤
IsEarlier Second = ⊤
IsEarlier Third = ⊥

-- it has a fifth table, of the children
abbrev pub HasFifth : Version → Type 0
HasFifth version = (version ≡ Unindexed) ⊎ (version ≡ Second)

-- it is the schema of this version; or of none
abbrev pub IsVersionOf : Schema → Option Version → Type 0
IsVersionOf schema o = MatchOption o ((version : Version) → schema ≢ schema_of version) (λ version. schema ≡ schema_of version)
