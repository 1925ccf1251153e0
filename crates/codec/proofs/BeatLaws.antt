-- What keeps a session is read as it was written.
use Rattle.std.proofs.Common.{◌≡◌, ℕ, zero, suc, ◌+◌, ◌<◌, ◌≤◌, Bool, true, false, List, [], ◌∷◌, ◌++◌, length, Option, Some, None, Result, Ok, Err, refl, sym, ap, ◌∙◌, arith}
use Rattle.node_core.specs.declared.events.Event.{Event}
use Rattle.node_core.specs.declared.events.Event.TheVariants as events
use Rattle.tags_cell.specs.declared.messages.beats.Beat.{Beat}
use Rattle.tags_cell.specs.declared.messages.beats.Invalidation.{Invalidation}
use Rattle.tags_cell.specs.declared.messages.beats.NumberedEvent.{NumberedEvent}
use Rattle.tags_cell.specs.declared.messages.beats.Alive.{Alive}
use Rattle.codec.specs.declared.faults.WireFault.{WireFault}
use Rattle.codec.specs.declared.kinds.EventKind.{EventKind}
use Rattle.codec.specs.declared.kinds.EventKind.TheVariants as of
use Rattle.codec.specs.Forms.{Form, nothing, ◌⊗◌, made, choice, of_kind, behind, listed}
use Rattle.codec.specs.Fields.{word, client, ordinal, name}
use Rattle.codec.specs.Beats.{beat, invalidation, invalidations, three_words, child_fields, all_events, event_place, event_kind, event_is, event_bytes, event_behind, event, numbered_event, numbered_events, alive}
use Rattle.codec.proofs.FormLaws.{IsBytes, IsShort, IsForm, Takes, TakesKind, TakesRoom, ok_is, number_form_4, number_form_8, byte_form, counted_form, nothing_form, pair_form, made_form, tested_form, choice_form, of_kind_form, behind_takes, behind_again, optional_form, listed_form}
use Rattle.codec.proofs.FieldLaws.{word_form, optional_word_form, client_form, ordinal_form, block_form, optional_block_form, name_form, component_form, kind_form, life_form, lock_mode_form, disposition_form, mode_form, events_form}

pub beat_form : IsForm beat
unfolding beat
beat_form = made_form (λ x. record { client = x.0; epoch = x.1.0; number = x.1.1.0; invalidations = x.1.1.1.0; events = x.1.1.1.1 }) (λ b. (b.client, (b.epoch, (b.number, (b.invalidations, b.events))))) (λ a h. refl) (λ b. refl) (pair_form client_form (pair_form word_form (pair_form ordinal_form (pair_form word_form word_form))))

pub invalidation_form : IsForm invalidation
unfolding invalidation
invalidation_form = made_form (λ x. record { number = x.0; name = x.1 }) (λ i. (i.number, i.name)) (λ a h. refl) (λ b. refl) (pair_form word_form name_form)

invalidation_room : TakesRoom invalidation
unfolding invalidation word
invalidation_room x = omega arith

pub invalidations_form : IsForm invalidations
unfolding invalidations
invalidations_form = listed_form invalidation_room invalidation_form

three_words_form : IsForm three_words
three_words_form = pair_form word_form (pair_form word_form word_form)

child_fields_form : IsForm child_fields
child_fields_form = pair_form word_form name_form

event_any : (x : Event) → (choice all_events event_place).is (event_kind x)
event_any events.FailOver = refl
event_any (events.Contents handle instance generation) = refl
event_any (events.ChildAdded handle child) = refl
event_any (events.ChildRemoved handle child) = refl
event_any (events.ChildModified handle child) = refl
event_any (events.Invalid handle) = refl
event_any (events.Locked handle) = refl
event_any (events.Conflict handle) = refl
event_any events.Lost = refl

event_takes : (k : EventKind) (bytes : List ℕ) (x : Event) (rest : List ℕ) → (choice all_events event_place).is k → IsBytes bytes → event_behind k bytes ≡ Ok (x, rest)
    → TakesKind event_kind event_is event_bytes k bytes x rest
event_takes of.FailOver bytes x rest placed fits e = behind_takes (λ _. events.FailOver) of.FailOver nothing_form (λ a. refl) (λ a h. h) (λ a. refl) bytes x rest fits e
event_takes of.Contents bytes x rest placed fits e = behind_takes (λ x. events.Contents x.0 x.1.0 x.1.1) of.Contents three_words_form (λ a. refl) (λ a h. h) (λ a. refl) bytes x rest fits e
event_takes of.ChildAdded bytes x rest placed fits e = behind_takes (λ x. events.ChildAdded x.0 x.1) of.ChildAdded child_fields_form (λ a. refl) (λ a h. h) (λ a. refl) bytes x rest fits e
event_takes of.ChildRemoved bytes x rest placed fits e = behind_takes (λ x. events.ChildRemoved x.0 x.1) of.ChildRemoved child_fields_form (λ a. refl) (λ a h. h) (λ a. refl) bytes x rest fits e
event_takes of.ChildModified bytes x rest placed fits e = behind_takes (λ x. events.ChildModified x.0 x.1) of.ChildModified child_fields_form (λ a. refl) (λ a h. h) (λ a. refl) bytes x rest fits e
event_takes of.Invalid bytes x rest placed fits e = behind_takes events.Invalid of.Invalid word_form (λ a. refl) (λ a h. h) (λ a. refl) bytes x rest fits e
event_takes of.Locked bytes x rest placed fits e = behind_takes events.Locked of.Locked word_form (λ a. refl) (λ a h. h) (λ a. refl) bytes x rest fits e
event_takes of.Conflict bytes x rest placed fits e = behind_takes events.Conflict of.Conflict word_form (λ a. refl) (λ a h. h) (λ a. refl) bytes x rest fits e
event_takes of.Lost bytes x rest placed fits e = behind_takes (λ _. events.Lost) of.Lost nothing_form (λ a. refl) (λ a h. h) (λ a. refl) bytes x rest fits e

event_again : (x : Event) (rest : List ℕ) → event_is x → IsShort (event_bytes x) → event_behind (event_kind x) (event_bytes x ++ rest) ≡ Ok (x, rest)
event_again events.FailOver rest holds short = behind_again (λ _. events.FailOver) nothing_form tt rest holds short
event_again (events.Contents handle instance generation) rest holds short = behind_again (λ x. events.Contents x.0 x.1.0 x.1.1) three_words_form (handle, (instance, generation)) rest holds short
event_again (events.ChildAdded handle child) rest holds short = behind_again (λ x. events.ChildAdded x.0 x.1) child_fields_form (handle, child) rest holds short
event_again (events.ChildRemoved handle child) rest holds short = behind_again (λ x. events.ChildRemoved x.0 x.1) child_fields_form (handle, child) rest holds short
event_again (events.ChildModified handle child) rest holds short = behind_again (λ x. events.ChildModified x.0 x.1) child_fields_form (handle, child) rest holds short
event_again (events.Invalid handle) rest holds short = behind_again events.Invalid word_form handle rest holds short
event_again (events.Locked handle) rest holds short = behind_again events.Locked word_form handle rest holds short
event_again (events.Conflict handle) rest holds short = behind_again events.Conflict word_form handle rest holds short
event_again events.Lost rest holds short = behind_again (λ _. events.Lost) nothing_form tt rest holds short

pub event_form : IsForm event
unfolding event
event_form = of_kind_form event_kind event_is event_bytes event_behind (choice_form all_events event_place refl) event_any event_takes event_again

pub numbered_event_form : IsForm numbered_event
unfolding numbered_event
numbered_event_form = made_form (λ x. record { number = x.0; event = x.1 }) (λ n. (n.number, n.event)) (λ a h. refl) (λ b. refl) (pair_form word_form event_form)

numbered_event_room : TakesRoom numbered_event
unfolding numbered_event word
numbered_event_room x = omega arith

pub numbered_events_form : IsForm numbered_events
unfolding numbered_events
numbered_events_form = listed_form numbered_event_room numbered_event_form

pub alive_form : IsForm alive
unfolding alive
alive_form = made_form (λ x. record { client = x.0; epoch = x.1.0; number = x.1.1.0; span = x.1.1.1.0; invalidations = x.1.1.1.1.0; events = x.1.1.1.1.1 }) (λ a. (a.client, (a.epoch, (a.number, (a.span, (a.invalidations, a.events)))))) (λ a h. refl) (λ b. refl) (pair_form client_form (pair_form word_form (pair_form ordinal_form (pair_form word_form (pair_form invalidations_form numbered_events_form)))))
