-- When its turn comes an Open that makes a node gives a handle only where the client may make it, or may find it there.
use Rattle.std.proofs.Common.{◌≡◌, ◌≤◌, ◌<◌, ℕ, List, Bool, true, false, cond, Option, Some, None, Result, Ok, Err, refl, sym, ap, subst, ◌∙◌, inl, inr, ⊎_elim, arith}
use Rattle.std.specs.Prelude.{◌⊎◌, nat_lt, nat_le, length}
use Rattle.std.proofs.lemmas.Bool.Decides.{nat_tests}
use Rattle.std.specs.Option.{option_map_or}
use Rattle.names_cell.specs.Text.{parent_of}
use Rattle.node_core.specs.Limits.{content_limit, lock_delay_limit, number_limit}
use Rattle.node_core.specs.Nodes.{get_node}
use Rattle.node_core.specs.declared.kinds.Kind.{Kind}
use Rattle.node_core.specs.declared.kinds.Kind.TheVariants.{File, Directory}
use Rattle.node_core.specs.declared.kinds.Right.TheVariants as rights
use Rattle.node_core.specs.declared.refusals.Fault.{Fault}
use Rattle.node_core.specs.declared.refusals.Fault.TheVariants as faults
use Rattle.node_core.specs.declared.nodes.Node.{Node}
use Rattle.tags_cell.specs.Handles.{is_ordinal, handle_bytes}
use Rattle.tags_cell.specs.declared.messages.calls.Create.{Create}
use Rattle.tags_cell.specs.declared.messages.calls.Disposition.{Disposition}
use Rattle.tags_cell.specs.declared.messages.calls.Disposition.TheVariants.{May, Must}
use Rattle.tags_cell.specs.declared.messages.calls.NewNode.{NewNode}
use Rattle.tags_cell.specs.declared.messages.calls.NewNode.TheVariants as made
use Rattle.tags_cell.specs.declared.messages.calls.Open.{Open}
use Rattle.tags_cell.specs.declared.handles.Handle.{Handle}
use Rattle.tags_cell.specs.declared.messages.outs.CallResult.{CallResult}
use Rattle.tags_cell.specs.declared.messages.outs.CallResult.TheVariants as results
use Rattle.tags_cell.specs.declared.messages.outs.NewHandle.{NewHandle}
use Rattle.master_state.specs.NameSpace.{name_space, caller}
use Rattle.master_state.specs.State.{MasterState}
use Rattle.master_state.specs.Lookups.{may, missing_right, is_of_cell, sequencer_fault, new_handle, open_present, plain_open}
use Rattle.master_parts.specs.Calls.{is_too_long, create_fault}
use Rattle.cell_core.specs.declared.effects.Effect.{Effect}
use Rattle.cell_core.specs.Effect.{answered, refused, content_of, is_last, new_node_fault, opened_effect, new_node, acls_of, create_put, create_made, create_numbered, create_permitted, create_in, create_under, create_new, create_over, create_effect, create_tested, create_under_sequencer, create_here, open_effect, effect}
use Rattle.master_laws.specs.Opens.{AreCarried}
use Rattle.master_laws.specs.Makes.{IsWithinLimits, MayMake, MayFind, MayMakeOrFind, MakesOnlyWherePermitted, MakesWherePermitted}
use Rattle.master_laws.proofs.PlainOpens.{within, not_beyond, permitted_by, none_missing, opened_where, opened}

-- whose answer is a handle only where this holds
abbrev Gives : Type 0 → Effect → Type 0
Gives Q effected = (handle : NewHandle) → effected.answer ≡ Some (results.Opened handle) → Q

either : (Q : Type 0) (b : Bool) (x y : Effect) → (b ≡ true → Gives Q x) → (b ≡ false → Gives Q y) → Gives Q (cond b x y)
either Q true x y h k = h refl
either Q false x y h k = k refl

by_option : {X : Type 0} (Q : Type 0) (o : Option X) (f : X → Effect) (y : Effect) → ((x : X) → o ≡ Some x → Gives Q (f x)) → (o ≡ None → Gives Q y) → Gives Q (option_map_or f o y)
by_option Q None f y h k = k refl
by_option Q (Some x) f y h k = h x refl

of_fault : (Q : Type 0) (fault : Fault) → Gives Q (refused fault)
of_fault Q fault handle h = absurd cc

-- ---- the limits

tested : (content_too_long delay_too_long : Bool) → option_map_or (λ (answer : CallResult). Some answer) (cond content_too_long (Some (results.Refused faults.TooLarge)) None) (cond delay_too_long (Some (results.Refused faults.DelayTooLong)) None) ≡ None → (content_too_long ≡ false) × (delay_too_long ≡ false)
tested true delay_too_long h = absurd cc
tested false true h = absurd cc
tested false false h = (refl, refl)

is_within : (opening : Open) (create : Create) (node : NewNode) → create.node ≡ node → create_fault opening node ≡ None → IsWithinLimits opening create
is_within opening create (made.File content) is h =
    let t = tested (nat_lt content_limit (length content)) (is_too_long opening.delay) h in
    let fits : length content ≤ content_limit = within content_limit (length content) t.0 in
    record { content = subst (λ n. length (content_of n) ≤ content_limit) (sym is) fits; delay = within lock_delay_limit opening.delay t.1 }
is_within opening create made.Directory is h =
    let t = tested false (is_too_long opening.delay) h in
    record { content = subst (λ n. length (content_of n) ≤ content_limit) (sym is) (omega arith); delay = within lock_delay_limit opening.delay t.1 }

passes : (opening : Open) (node : NewNode) → length (content_of node) ≤ content_limit → opening.delay ≤ lock_delay_limit → create_fault opening node ≡ None
passes opening (made.File content) fits short = rw (not_beyond content_limit (length content) fits, not_beyond lock_delay_limit opening.delay short) refl
passes opening made.Directory fits short = rw (not_beyond lock_delay_limit opening.delay short) refl

-- the answer to a create that is refused at once
no_handle : (content_too_long delay_too_long : Bool) (handle : NewHandle) → option_map_or (λ (answer : CallResult). Some answer) (cond content_too_long (Some (results.Refused faults.TooLarge)) None) (cond delay_too_long (Some (results.Refused faults.DelayTooLong)) None) ≡ Some (results.Opened handle) → ⊥
no_handle true delay_too_long handle h = cc
no_handle false true handle h = cc
no_handle false false handle h = cc

faulted : (opening : Open) (node : NewNode) (handle : NewHandle) → create_fault opening node ≡ Some (results.Opened handle) → ⊥
faulted opening (made.File content) handle h = no_handle (nat_lt content_limit (length content)) (is_too_long opening.delay) handle h
faulted opening made.Directory handle h = no_handle false (is_too_long opening.delay) handle h

not_last : (limit n : ℕ) → nat_le limit n ≡ false → n < limit
not_last limit n h = grind (arith, nat_tests)

below_last : (limit n : ℕ) → n < limit → nat_le limit n ≡ false
below_last limit n h = grind (arith, nat_tests)

-- ---- where a handle is given

module _ (s : MasterState) (client number : ℕ) (opening : Open) (create : Create) where
  abbrev Q : Type 0
  Q = MayMake s client opening create ⊎ MayFind s client opening create

  -- the limits leave room
  with_room : (P : Type 0) (view : Node) (r : Result Handle Fault) → (new_node_fault (name_space s) view ≡ None → P) → Gives P (create_made (name_space s) opening view r)
  with_room P view (Ok handle) h = by_option P (new_node_fault (name_space s) view) (λ fault. refused fault) (create_put (name_space s) opening view handle) (λ fault full. of_fault P fault) (λ room given is. h room)
  with_room P view (Err fault) h = of_fault P fault

  -- ---- none of the name is there

  module _ (absent : get_node s.nodes opening.name ≡ None) (parent : List ℕ) (is_parent : parent_of opening.name ≡ Some parent) (above : Node) (there : get_node s.nodes parent ≡ Some above) where
    by_rights : above.kind ≡ Directory → may (name_space s) (caller s client) above rights.Write ≡ true → Gives Q (create_permitted (name_space s) (caller s client) number opening (new_node s.next_instance create.node create.life (acls_of above create.acls)))
    by_rights directory write =
        let view : Node = new_node s.next_instance create.node create.life (acls_of above create.acls) in
        by_option Q (missing_right (name_space s) (caller s client) opening.mode view) (λ right. refused (faults.Denied right)) (create_numbered (name_space s) (caller s client) number opening view) (λ right is. of_fault Q (faults.Denied right))
        (λ none.
        either Q (is_last s.next_instance) (refused faults.Exhausted) (create_made (name_space s) opening view (new_handle (name_space s) (caller s client) number opening view)) (λ last. of_fault Q faults.Exhausted)
        (λ left.
        with_room Q view (new_handle (name_space s) (caller s client) number opening view)
        (λ room.
        inl (record {
          absent = absent;
          parent = parent;
          is_parent = is_parent;
          above = above;
          there = there;
          directory = directory;
          write = write;
          permitted = permitted_by s client opening.mode view none;
          left = not_last number_limit s.next_instance left;
          room = room;
        }))))

    by_kind : (kind : Kind) → above.kind ≡ kind → Gives Q (create_in (name_space s) (caller s client) number opening create above kind)
    by_kind File is = of_fault Q (faults.WrongKind File)
    by_kind Directory is =
        let view : Node = new_node s.next_instance create.node create.life (acls_of above create.acls) in
        either Q (may (name_space s) (caller s client) above rights.Write) (create_permitted (name_space s) (caller s client) number opening view) (refused (faults.Denied rights.Write)) (by_rights is) (λ denied. of_fault Q (faults.Denied rights.Write))

  by_above : get_node s.nodes opening.name ≡ None → (parent : List ℕ) → parent_of opening.name ≡ Some parent → (o : Option Node) → get_node s.nodes parent ≡ o → Gives Q (create_under (name_space s) (caller s client) number opening create o)
  by_above absent parent is_parent None is = of_fault Q faults.NotFound
  by_above absent parent is_parent (Some above) is = by_kind absent parent is_parent above is above.kind refl

  by_parent : get_node s.nodes opening.name ≡ None → Gives Q (create_new (name_space s) (caller s client) number opening create)
  by_parent absent =
      by_option Q (parent_of opening.name) (λ parent. create_under (name_space s) (caller s client) number opening create (get_node s.nodes parent)) (refused faults.NotFound)
      (λ parent is. by_above absent parent is (get_node s.nodes parent) refl) (λ none. of_fault Q faults.NotFound)

  -- ---- one is there

  by_found : (view : Node) → get_node s.nodes opening.name ≡ Some view → create.disposition ≡ May → Gives Q (opened_effect (name_space s) (open_present (name_space s) (caller s client) number opening view))
  by_found view is disposition handle h =
      let same : plain_open (name_space s) (caller s client) number opening ≡ open_present (name_space s) (caller s client) number opening view = ap (λ o. option_map_or (λ v. open_present (name_space s) (caller s client) number opening v) o (Err faults.NotFound)) is in
      let t = opened s (open_present (name_space s) (caller s client) number opening view) handle (let e = sym h in cc) in
      inr (record { disposition = disposition; may_open = opened_where s client number opening t.0 (cc) })

  by_disposition : (view : Node) → get_node s.nodes opening.name ≡ Some view → (disposition : Disposition) → create.disposition ≡ disposition → Gives Q (create_over (name_space s) (caller s client) number opening disposition view)
  by_disposition view there Must is = of_fault Q faults.Exists
  by_disposition view there May is = by_found view there is

  -- ---- the tests before

  by_tests : Gives (MayMakeOrFind s client opening create) (create_tested (name_space s) (caller s client) number opening create)
  by_tests =
      by_option (MayMakeOrFind s client opening create) (create_fault opening create.node) (λ answer. answered answer) (create_effect (name_space s) (caller s client) number opening create)
      (λ answer is handle h. absurd (faulted opening create.node handle (cc)))
      (λ none handle h.
      let found =
      by_option Q (get_node s.nodes opening.name) (λ view. create_over (name_space s) (caller s client) number opening create.disposition view) (create_new (name_space s) (caller s client) number opening create)
      (λ view is. by_disposition view is create.disposition refl) by_parent in
      record { within = is_within opening create create.node refl none; may = found handle h })

  by_sequencer : (o : Option Fault) → Gives (MayMakeOrFind s client opening create) (create_under_sequencer (name_space s) (caller s client) number opening create o)
  by_sequencer None = by_tests
  by_sequencer (Some fault) = of_fault (MayMakeOrFind s client opening create) fault

  by_cell : (sequencer : Option (List ℕ)) → Gives (MayMakeOrFind s client opening create) (create_here (name_space s) (caller s client) number opening create sequencer)
  by_cell sequencer =
      let fault = sequencer_fault (name_space s) sequencer in
      either (MayMakeOrFind s client opening create) (is_of_cell (name_space s) opening.name) (create_under_sequencer (name_space s) (caller s client) number opening create fault) (refused faults.OtherCell) (λ own. by_sequencer fault)
      (λ other. of_fault (MayMakeOrFind s client opening create) faults.OtherCell)

pub makes_only_where_permitted : MakesOnlyWherePermitted
unfolding effect
makes_only_where_permitted s client number opening create sequencer makes given =
    by_cell s client number opening create sequencer given.0 (subst (λ o. (open_effect (name_space s) (caller s client) number opening sequencer o).answer ≡ Some (results.Opened given.0)) makes given.1)

-- ---- where the client may make the node, or find it

module _ (s : MasterState) (client number : ℕ) (opening : Open) (create : Create) (within_limits : IsWithinLimits opening create) (carried : AreCarried s opening.name) (ordinal : is_ordinal s.next_instance ≡ true) where
  short : is_too_long opening.delay ≡ false
  short = not_beyond lock_delay_limit opening.delay within_limits.delay

  fits : create_fault opening create.node ≡ None
  fits = passes opening create.node within_limits.content within_limits.delay

  abbrev IsGiven : Effect → Type 0
  IsGiven effected = (handle : NewHandle) × (effected.answer ≡ Some (results.Opened handle))

  abbrev handle_of : Node → Handle
  handle_of view = record { epoch = s.epoch; client = client; number = number; instance = view.instance; mode = opening.mode; life = view.life; events = opening.events; delay = opening.delay; name = opening.name }

  abbrev given_of : Node → NewHandle
  given_of view = record { bytes = handle_bytes s.secret (handle_of view); instance = view.instance; life = view.life }

  makes : MayMake s client opening create → IsGiven (create_tested (name_space s) (caller s client) number opening create)
  makes m =
      let view : Node = new_node s.next_instance create.node create.life (acls_of m.above create.acls) in
      let none : missing_right (name_space s) (caller s client) opening.mode view ≡ None = none_missing s client opening.mode view m.permitted in
      let left : is_last s.next_instance ≡ false = below_last number_limit s.next_instance m.left in
      (given_of view, rw (fits, m.absent, m.is_parent, m.there, m.directory, m.write, none, left, short, carried.epoch, ordinal, m.room) refl)

  finds : MayFind s client opening create → IsGiven (create_tested (name_space s) (caller s client) number opening create)
  finds m =
      let view : Node = m.may_open.view in
      let none : missing_right (name_space s) (caller s client) opening.mode view ≡ None = none_missing s client opening.mode view m.may_open.permitted in
      (given_of view, rw (fits, m.may_open.there, m.disposition, none, short, carried.epoch, carried.instance view m.may_open.there) refl)

pub makes_where_permitted : MakesWherePermitted
unfolding effect
makes_where_permitted s client number opening create makes_node own carried ordinal h =
    let given = ⊎_elim (makes s client number opening create h.within carried ordinal) (finds s client number opening create h.within carried ordinal) h.may in
    let same : open_effect (name_space s) (caller s client) number opening None opening.create ≡ create_tested (name_space s) (caller s client) number opening create =
    ap (open_effect (name_space s) (caller s client) number opening None) makes_node ∙ ap (λ b. cond b (create_tested (name_space s) (caller s client) number opening create) (refused faults.OtherCell)) own in
    (given.0, ap (λ effected. effected.answer) same ∙ given.1)
