-- What messages are made of is read as it was written.
use Rattle.std.proofs.Common.{◌≡◌, ℕ, zero, suc, ◌+◌, ◌<◌, ◌≤◌, Bool, true, false, List, [], ◌∷◌, ◌++◌, length, Option, Some, None, Result, Ok, Err, refl, sym, ap, ◌∙◌, arith}
use Rattle.names_cell.specs.Text.{is_name, is_component}
use Rattle.node_core.specs.declared.kinds.Kind.{Kind}
use Rattle.node_core.specs.declared.kinds.Kind.TheVariants as kinds
use Rattle.node_core.specs.declared.kinds.Life.{Life}
use Rattle.node_core.specs.declared.kinds.Life.TheVariants as lives
use Rattle.node_core.specs.declared.kinds.Right.{Right}
use Rattle.node_core.specs.declared.kinds.Right.TheVariants as rights
use Rattle.node_core.specs.declared.kinds.LockMode.{LockMode}
use Rattle.node_core.specs.declared.kinds.LockMode.TheVariants as modes
use Rattle.tags_cell.specs.Numbers.{is_client_number}
use Rattle.tags_cell.specs.Handles.{is_ordinal}
use Rattle.tags_cell.specs.Modes.{Rights, mode_bits, rights_of}
use Rattle.tags_cell.specs.Masks.{event_bits, events_of}
use Rattle.tags_cell.specs.declared.masks.Events.{Events}
use Rattle.tags_cell.specs.declared.messages.calls.Disposition.{Disposition}
use Rattle.tags_cell.specs.declared.messages.calls.Disposition.TheVariants as dispositions
use Rattle.codec.specs.declared.faults.WireFault.TheVariants.{BadNumber, BadText}
use Rattle.codec.specs.Forms.{Form, number, byte, counted, made, tested, choice, optional}
use Rattle.codec.specs.Fields.{word, client, ordinal, optional_word, block, optional_block, name, component, kind_place, kind, life_place, life, right_place, right, lock_mode_place, lock_mode, disposition_place, disposition, is_mode_byte, mode, is_events_byte, events}
use Rattle.codec.proofs.FormLaws.{IsBytes, IsShort, IsForm, Takes, TakesKind, TakesRoom, ok_is, number_form_4, number_form_8, byte_form, counted_form, nothing_form, pair_form, made_form, tested_form, choice_form, of_kind_form, behind_takes, behind_again, optional_form, listed_form}
use Rattle.std.specs.Prelude.{if◌then◌else◌}
use Rattle.std.proofs.lemmas.Bool.{ltb-true}
use Rattle.tags_cell.proofs.Readings.{in_range}

pub word_form : IsForm word
unfolding word
word_form = number_form_8

pub client_form : IsForm client
unfolding client
client_form = tested_form BadNumber is_client_number word_form

pub ordinal_form : IsForm ordinal
unfolding ordinal
ordinal_form = tested_form BadNumber is_ordinal word_form

pub optional_word_form : IsForm optional_word
unfolding optional_word
optional_word_form = optional_form word_form

pub block_form : IsForm block
unfolding block
block_form = counted_form

pub optional_block_form : IsForm optional_block
unfolding optional_block
optional_block_form = optional_form block_form

pub name_form : IsForm name
unfolding name
name_form = tested_form BadText is_name block_form

pub component_form : IsForm component
unfolding component
component_form = tested_form BadText is_component block_form

pub kind_form : IsForm kind
unfolding kind
kind_form = choice_form (kinds.File ∷ kinds.Directory ∷ []) kind_place refl

pub life_form : IsForm life
unfolding life
life_form = choice_form (lives.Permanent ∷ lives.Ephemeral ∷ []) life_place refl

pub right_form : IsForm right
unfolding right
right_form = choice_form (rights.Read ∷ rights.Write ∷ rights.Change ∷ []) right_place refl

pub lock_mode_form : IsForm lock_mode
unfolding lock_mode
lock_mode_form = choice_form (modes.Exclusive ∷ modes.Shared ∷ []) lock_mode_place refl

pub disposition_form : IsForm disposition
unfolding disposition
disposition_form = choice_form (dispositions.May ∷ dispositions.Must ∷ []) disposition_place refl

mode_there : (a : ℕ) → (a < 256) × (is_mode_byte a ≡ true) → mode_bits (rights_of a) ≡ a
mode_there zero h = absurd (omega (arith, (in_range 0 8 h.1).0))
mode_there (suc zero) h = refl
mode_there (suc (suc zero)) h = refl
mode_there (suc (suc (suc zero))) h = refl
mode_there (suc (suc (suc (suc zero)))) h = refl
mode_there (suc (suc (suc (suc (suc zero))))) h = refl
mode_there (suc (suc (suc (suc (suc (suc zero)))))) h = refl
mode_there (suc (suc (suc (suc (suc (suc (suc zero))))))) h = refl
mode_there (suc (suc (suc (suc (suc (suc (suc (suc a)))))))) h = absurd (omega (arith, (in_range (suc (suc (suc (suc (suc (suc (suc (suc a)))))))) 8 h.1).1))

rights_of_bits : (read write change : Bool)
    → rights_of ((if read then 1 else 0) + (if write then 2 else 0) + (if change then 4 else 0)) ≡ record { read = read; write = write; change = change }
rights_of_bits true true true = refl
rights_of_bits true true false = refl
rights_of_bits true false true = refl
rights_of_bits true false false = refl
rights_of_bits false true true = refl
rights_of_bits false true false = refl
rights_of_bits false false true = refl
rights_of_bits false false false = refl

pub mode_form : IsForm mode
unfolding mode
mode_form = made_form rights_of mode_bits mode_there (λ r. rights_of_bits r.read r.write r.change) (tested_form BadNumber is_mode_byte byte_form)

events_there : (a : ℕ) → (a < 256) × (is_events_byte a ≡ true) → event_bits (events_of a) ≡ a
events_there zero h = refl
events_there (suc zero) h = refl
events_there (suc (suc zero)) h = refl
events_there (suc (suc (suc zero))) h = refl
events_there (suc (suc (suc (suc zero)))) h = refl
events_there (suc (suc (suc (suc (suc zero))))) h = refl
events_there (suc (suc (suc (suc (suc (suc zero)))))) h = refl
events_there (suc (suc (suc (suc (suc (suc (suc zero))))))) h = refl
events_there (suc (suc (suc (suc (suc (suc (suc (suc zero)))))))) h = refl
events_there (suc (suc (suc (suc (suc (suc (suc (suc (suc zero))))))))) h = refl
events_there (suc (suc (suc (suc (suc (suc (suc (suc (suc (suc zero)))))))))) h = refl
events_there (suc (suc (suc (suc (suc (suc (suc (suc (suc (suc (suc zero))))))))))) h = refl
events_there (suc (suc (suc (suc (suc (suc (suc (suc (suc (suc (suc (suc zero)))))))))))) h = refl
events_there (suc (suc (suc (suc (suc (suc (suc (suc (suc (suc (suc (suc (suc zero))))))))))))) h = refl
events_there (suc (suc (suc (suc (suc (suc (suc (suc (suc (suc (suc (suc (suc (suc zero)))))))))))))) h = refl
events_there (suc (suc (suc (suc (suc (suc (suc (suc (suc (suc (suc (suc (suc (suc (suc zero))))))))))))))) h = refl
events_there (suc (suc (suc (suc (suc (suc (suc (suc (suc (suc (suc (suc (suc (suc (suc (suc a)))))))))))))))) h = absurd (omega (arith, ltb-true (suc (suc (suc (suc (suc (suc (suc (suc (suc (suc (suc (suc (suc (suc (suc (suc a)))))))))))))))) 16 h.1))

events_of_bits : (contents children lock conflict : Bool)
    → events_of ((if contents then 1 else 0) + (if children then 2 else 0) + (if lock then 4 else 0) + (if conflict then 8 else 0))
    ≡ record { contents = contents; children = children; lock = lock; conflict = conflict }
events_of_bits true true true true = refl
events_of_bits true true true false = refl
events_of_bits true true false true = refl
events_of_bits true true false false = refl
events_of_bits true false true true = refl
events_of_bits true false true false = refl
events_of_bits true false false true = refl
events_of_bits true false false false = refl
events_of_bits false true true true = refl
events_of_bits false true true false = refl
events_of_bits false true false true = refl
events_of_bits false true false false = refl
events_of_bits false false true true = refl
events_of_bits false false true false = refl
events_of_bits false false false true = refl
events_of_bits false false false false = refl

pub events_form : IsForm events
unfolding events
events_form =
    made_form events_of event_bits events_there (λ e. events_of_bits e.contents e.children e.lock e.conflict) (tested_form BadNumber is_events_byte byte_form)
