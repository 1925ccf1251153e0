-- What the reads mean, in each version.
use Rattle.std.proofs.Common.{◌≡◌, ◌⊎◌, inl, inr, false, refl, sym, subst}
use Rattle.sqlite_tied.specs.Compute.{everything}
use Rattle.sqlite.specs.Listing.{understood, reads_listing}
use Rattle.sqlite.specs.Given.{IsPlain}
use Rattle.sqlite.proofs.Callers.{command_of}
use Rattle.rows_sql.specs.OurSchema.{unindexed_schema, second_schema}
use Rattle.rows_sql.specs.declared.schema.ours.Version.{Version}
use Rattle.rows_sql.specs.declared.schema.ours.Version.TheVariants.{First, Unindexed, Second, Third}
use Rattle.rows_sql.specs.Versions.{schema_of, HasFifth}
use Rattle.rows_sql.specs.Texts.{read_meta_text, read_nodes_text, read_sessions_text, read_locks_text, read_children_text}
use Rattle.rows_sql.specs.Commands.{read_meta_command, read_nodes_command, read_sessions_command, read_locks_command, read_children_command}

pub read_meta_is : (version : Version) → command_of (understood (schema_of version) read_meta_text) ≡ read_meta_command
unfolding understood everything
read_meta_is First = refl
read_meta_is Unindexed = refl
read_meta_is Second = refl
read_meta_is Third = refl

pub read_meta_plain : (version : Version) → IsPlain (understood (schema_of version) read_meta_text)
unfolding understood everything
read_meta_plain First = (refl, refl)
read_meta_plain Unindexed = (refl, refl)
read_meta_plain Second = (refl, refl)
read_meta_plain Third = (refl, refl)

pub read_meta_unlisted : (version : Version) → reads_listing (schema_of version) read_meta_text ≡ false
unfolding understood everything
read_meta_unlisted First = refl
read_meta_unlisted Unindexed = refl
read_meta_unlisted Second = refl
read_meta_unlisted Third = refl

pub read_nodes_is : (version : Version) → command_of (understood (schema_of version) read_nodes_text) ≡ read_nodes_command
unfolding understood everything
read_nodes_is First = refl
read_nodes_is Unindexed = refl
read_nodes_is Second = refl
read_nodes_is Third = refl

pub read_nodes_plain : (version : Version) → IsPlain (understood (schema_of version) read_nodes_text)
unfolding understood everything
read_nodes_plain First = (refl, refl)
read_nodes_plain Unindexed = (refl, refl)
read_nodes_plain Second = (refl, refl)
read_nodes_plain Third = (refl, refl)

pub read_nodes_unlisted : (version : Version) → reads_listing (schema_of version) read_nodes_text ≡ false
unfolding understood everything
read_nodes_unlisted First = refl
read_nodes_unlisted Unindexed = refl
read_nodes_unlisted Second = refl
read_nodes_unlisted Third = refl

pub read_sessions_is : (version : Version) → command_of (understood (schema_of version) read_sessions_text) ≡ read_sessions_command
unfolding understood everything
read_sessions_is First = refl
read_sessions_is Unindexed = refl
read_sessions_is Second = refl
read_sessions_is Third = refl

pub read_sessions_plain : (version : Version) → IsPlain (understood (schema_of version) read_sessions_text)
unfolding understood everything
read_sessions_plain First = (refl, refl)
read_sessions_plain Unindexed = (refl, refl)
read_sessions_plain Second = (refl, refl)
read_sessions_plain Third = (refl, refl)

pub read_sessions_unlisted : (version : Version) → reads_listing (schema_of version) read_sessions_text ≡ false
unfolding understood everything
read_sessions_unlisted First = refl
read_sessions_unlisted Unindexed = refl
read_sessions_unlisted Second = refl
read_sessions_unlisted Third = refl

pub read_locks_is : (version : Version) → command_of (understood (schema_of version) read_locks_text) ≡ read_locks_command
unfolding understood everything
read_locks_is First = refl
read_locks_is Unindexed = refl
read_locks_is Second = refl
read_locks_is Third = refl

pub read_locks_plain : (version : Version) → IsPlain (understood (schema_of version) read_locks_text)
unfolding understood everything
read_locks_plain First = (refl, refl)
read_locks_plain Unindexed = (refl, refl)
read_locks_plain Second = (refl, refl)
read_locks_plain Third = (refl, refl)

pub read_locks_unlisted : (version : Version) → reads_listing (schema_of version) read_locks_text ≡ false
unfolding understood everything
read_locks_unlisted First = refl
read_locks_unlisted Unindexed = refl
read_locks_unlisted Second = refl
read_locks_unlisted Third = refl

-- of those that have the fifth table

read_unindexed_is : command_of (understood unindexed_schema read_children_text) ≡ read_children_command
unfolding understood everything
read_unindexed_is = refl

read_second_is : command_of (understood second_schema read_children_text) ≡ read_children_command
unfolding understood everything
read_second_is = refl

pub read_children_is : (version : Version) → HasFifth version → command_of (understood (schema_of version) read_children_text) ≡ read_children_command
read_children_is version (inl e) = subst (λ (v : Version). command_of (understood (schema_of v) read_children_text) ≡ read_children_command) (sym e) read_unindexed_is
read_children_is version (inr e) = subst (λ (v : Version). command_of (understood (schema_of v) read_children_text) ≡ read_children_command) (sym e) read_second_is

read_unindexed_plain : IsPlain (understood unindexed_schema read_children_text)
unfolding understood everything
read_unindexed_plain = (refl, refl)

read_second_plain : IsPlain (understood second_schema read_children_text)
unfolding understood everything
read_second_plain = (refl, refl)

pub read_children_plain : (version : Version) → HasFifth version → IsPlain (understood (schema_of version) read_children_text)
read_children_plain version (inl e) = subst (λ (v : Version). IsPlain (understood (schema_of v) read_children_text)) (sym e) read_unindexed_plain
read_children_plain version (inr e) = subst (λ (v : Version). IsPlain (understood (schema_of v) read_children_text)) (sym e) read_second_plain

read_unindexed_unlisted : reads_listing unindexed_schema read_children_text ≡ false
unfolding understood everything
read_unindexed_unlisted = refl

read_second_unlisted : reads_listing second_schema read_children_text ≡ false
unfolding understood everything
read_second_unlisted = refl

pub read_children_unlisted : (version : Version) → HasFifth version → reads_listing (schema_of version) read_children_text ≡ false
read_children_unlisted version (inl e) = subst (λ (v : Version). reads_listing (schema_of v) read_children_text ≡ false) (sym e) read_unindexed_unlisted
read_children_unlisted version (inr e) = subst (λ (v : Version). reads_listing (schema_of v) read_children_text ≡ false) (sym e) read_second_unlisted
