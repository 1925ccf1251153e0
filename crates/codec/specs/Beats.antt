-- The forms of events, and of what keeps a session.
use Rattle.std.specs.Prelude.{ℕ, List, [], ◌∷◌, Result}
use Rattle.node_core.specs.declared.events.Event.{Event}
use Rattle.node_core.specs.declared.events.Event.TheVariants as events
use Rattle.tags_cell.specs.declared.messages.beats.Beat.{Beat}
use Rattle.tags_cell.specs.declared.messages.beats.Invalidation.{Invalidation}
use Rattle.tags_cell.specs.declared.messages.beats.NumberedEvent.{NumberedEvent}
use Rattle.tags_cell.specs.declared.messages.beats.Alive.{Alive}
use Rattle.codec.specs.declared.faults.WireFault.{WireFault}
use Rattle.codec.specs.declared.kinds.EventKind.{EventKind}
use Rattle.codec.specs.declared.kinds.EventKind.TheVariants as of
use Rattle.codec.specs.Forms.{Form, nothing, ◌⊗◌, made, choice, of_kind, behind, listed}
use Rattle.codec.specs.Fields.{word, client, ordinal, name}

unfoldable pub beat : Form Beat
beat =
    made (λ x. record { client = x.0; epoch = x.1.0; number = x.1.1.0; invalidations = x.1.1.1.0; events = x.1.1.1.1 })
    (λ b. (b.client, (b.epoch, (b.number, (b.invalidations, b.events)))))
    (client ⊗ word ⊗ ordinal ⊗ word ⊗ word)

unfoldable pub invalidation : Form Invalidation
invalidation = made (λ x. record { number = x.0; name = x.1 }) (λ i. (i.number, i.name)) (word ⊗ name)

unfoldable pub invalidations : Form (List Invalidation)
invalidations = listed invalidation

-- ---- events

-- handle, instance and content generation
abbrev pub three_words : Form (ℕ × (ℕ × ℕ))
three_words = word ⊗ word ⊗ word

-- handle and child
abbrev pub child_fields : Form (ℕ × List ℕ)
child_fields = word ⊗ name

abbrev pub all_events : List EventKind
all_events = of.FailOver ∷ of.Contents ∷ of.ChildAdded ∷ of.ChildRemoved ∷ of.ChildModified ∷ of.Invalid ∷ of.Locked ∷ of.Conflict ∷ of.Lost ∷ []

abbrev pub event_place : EventKind → ℕ
event_place of.FailOver = 0
event_place of.Contents = 1
event_place of.ChildAdded = 2
event_place of.ChildRemoved = 3
event_place of.ChildModified = 4
event_place of.Invalid = 5
event_place of.Locked = 6
event_place of.Conflict = 7
event_place of.Lost = 8

abbrev pub event_kind : Event → EventKind
event_kind events.FailOver = of.FailOver
event_kind (events.Contents handle instance generation) = of.Contents
event_kind (events.ChildAdded handle child) = of.ChildAdded
event_kind (events.ChildRemoved handle child) = of.ChildRemoved
event_kind (events.ChildModified handle child) = of.ChildModified
event_kind (events.Invalid handle) = of.Invalid
event_kind (events.Locked handle) = of.Locked
event_kind (events.Conflict handle) = of.Conflict
event_kind events.Lost = of.Lost

abbrev pub event_is : Event → Type 0
event_is events.FailOver = nothing.is tt
event_is (events.Contents handle instance generation) = three_words.is (handle, (instance, generation))
event_is (events.ChildAdded handle child) = child_fields.is (handle, child)
event_is (events.ChildRemoved handle child) = child_fields.is (handle, child)
event_is (events.ChildModified handle child) = child_fields.is (handle, child)
event_is (events.Invalid handle) = word.is handle
event_is (events.Locked handle) = word.is handle
event_is (events.Conflict handle) = word.is handle
event_is events.Lost = nothing.is tt

abbrev pub event_bytes : Event → List ℕ
event_bytes events.FailOver = nothing.write tt
event_bytes (events.Contents handle instance generation) = three_words.write (handle, (instance, generation))
event_bytes (events.ChildAdded handle child) = child_fields.write (handle, child)
event_bytes (events.ChildRemoved handle child) = child_fields.write (handle, child)
event_bytes (events.ChildModified handle child) = child_fields.write (handle, child)
event_bytes (events.Invalid handle) = word.write handle
event_bytes (events.Locked handle) = word.write handle
event_bytes (events.Conflict handle) = word.write handle
event_bytes events.Lost = nothing.write tt

abbrev pub event_behind : EventKind → List ℕ → Result (Event × List ℕ) WireFault
event_behind of.FailOver rest = behind (λ _. events.FailOver) nothing rest
event_behind of.Contents rest = behind (λ x. events.Contents x.0 x.1.0 x.1.1) three_words rest
event_behind of.ChildAdded rest = behind (λ x. events.ChildAdded x.0 x.1) child_fields rest
event_behind of.ChildRemoved rest = behind (λ x. events.ChildRemoved x.0 x.1) child_fields rest
event_behind of.ChildModified rest = behind (λ x. events.ChildModified x.0 x.1) child_fields rest
event_behind of.Invalid rest = behind events.Invalid word rest
event_behind of.Locked rest = behind events.Locked word rest
event_behind of.Conflict rest = behind events.Conflict word rest
event_behind of.Lost rest = behind (λ _. events.Lost) nothing rest

-- the kind of an event, and its fields
unfoldable pub event : Form Event
event = of_kind (choice all_events event_place) event_kind event_is event_bytes event_behind

unfoldable pub numbered_event : Form NumberedEvent
numbered_event = made (λ x. record { number = x.0; event = x.1 }) (λ n. (n.number, n.event)) (word ⊗ event)

unfoldable pub numbered_events : Form (List NumberedEvent)
numbered_events = listed numbered_event

unfoldable pub alive : Form Alive
alive =
    made (λ x. record { client = x.0; epoch = x.1.0; number = x.1.1.0; span = x.1.1.1.0; invalidations = x.1.1.1.1.0; events = x.1.1.1.1.1 })
    (λ a. (a.client, (a.epoch, (a.number, (a.span, (a.invalidations, a.events))))))
    (client ⊗ word ⊗ ordinal ⊗ word ⊗ invalidations ⊗ numbered_events)
