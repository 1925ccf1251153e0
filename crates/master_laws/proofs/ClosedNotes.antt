-- What is noted of handles beside one that was closed.
use Rattle.std.proofs.Common.{◌≡◌, ℕ, List, Bool, true, false, cond, Option, Some, None, refl, sym, ap, subst, ◌∙◌, inl, inr, ⊎_elim, arith}
use Rattle.std.specs.Prelude.{◌⊎◌, ◌&&◌, ◌==◌, not, nat_lt}
use Rattle.std.specs.BTreeMap.{is_at}
use Rattle.std.proofs.lemmas.Bool.{and_parts, eqb-true}
use Rattle.std.proofs.lemmas.Bool.Decides.{nat_tests}
use Rattle.collections.proofs.Entries.{lookup_put}
use Rattle.tags_cell.specs.declared.handles.Handle.{Handle}
use Rattle.tags_cell.specs.declared.messages.calls.Call.{Call}
use Rattle.master_parts.specs.Handles.{NotedHandle}
use Rattle.master_parts.specs.Keys.{handle_order, key_of}
use Rattle.master_parts.specs.OpenHandles.{state_at, is_shut, with_state}
use Rattle.master_parts.specs.declared.handles.HandleKey.{HandleKey}
use Rattle.master_parts.specs.declared.handles.HandleState.{HandleState}
use Rattle.master_parts.specs.declared.handles.HandleState.TheVariants as states
use Rattle.master_parts.specs.declared.handles.HandleNote.{HandleNote}
use Rattle.master_state.specs.State.{MasterState}
use Rattle.master_state.specs.Lookups.{handle_state_of}
use Rattle.master_state.specs.Updates.{with_note}
use Rattle.master_parts.proofs.Forgotten.{lookup_forgotten}
use Rattle.master_parts.proofs.Found.{same_key}
use Rattle.master_parts.proofs.PlacedHandles.{exact_handle, same_handle}
use Rattle.master_laws.specs.Closed.{is_closed, IsClosed, opens_as}

-- a handle in this state is of no use: it is closed, or forgotten
abbrev pub is_closing : Option HandleState → Bool
is_closing None = true
is_closing (Some states.Closed) = true
is_closing (Some (states.Open noted)) = false

-- nothing is noted of the handle yet, and an earlier epoch gave it
pub record IsFirst (s : MasterState) (note : HandleNote) : Type 0 where
  pub shown : NotedHandle
  pub opens : note.state ≡ Some (states.Open shown)
  pub none : handle_state_of s note.key ≡ None
  pub earlier : nat_lt shown.handle.epoch s.epoch ≡ true

-- what is noted of a handle either closes it, is the first that is noted of it, or is by the Open that gives it
pub record IsFair (s : MasterState) (client number : ℕ) (call : Call) (note : HandleNote) : Type 0 where
  pub by : (is_closing note.state ≡ true) ⊎ (IsFirst s note ⊎ (opens_as note.key client number call ≡ true))

pub closes : (s : MasterState) (client number : ℕ) (call : Call) (note : HandleNote) → is_closing note.state ≡ true → IsFair s client number call note
closes s client number call note h = record { by = inl h }

pub is_first : (s : MasterState) (client number : ℕ) (call : Call) (note : HandleNote) → IsFirst s note → IsFair s client number call note
is_first s client number call note h = record { by = inr (inl h) }

pub is_by_open : (s : MasterState) (client number : ℕ) (call : Call) (note : HandleNote) → opens_as note.key client number call ≡ true → IsFair s client number call note
is_by_open s client number call note h = record { by = inr (inr h) }

-- whatever is noted
abbrev pub AreFair : (s : MasterState) → ℕ → ℕ → Call → Option HandleNote → Type 0
AreFair s client number call o = (note : HandleNote) → o ≡ Some note → IsFair s client number call note

pub none_fair : (s : MasterState) (client number : ℕ) (call : Call) → AreFair s client number call None
none_fair s client number call note h = absurd cc

pub one_fair : (s : MasterState) (client number : ℕ) (call : Call) (note : HandleNote) → IsFair s client number call note → AreFair s client number call (Some note)
one_fair s client number call note fair other h =
    let same : note ≡ other = cc in
    subst (IsFair s client number call) same fair

-- ---- what is known of a handle once one is noted

-- by whether the one that is noted was closed, whether it is the same handle, what is noted, and what was known
abbrev pub stated : Bool → Bool → Option HandleState → Option HandleState → Option HandleState
stated shut own None known = cond shut known (cond own None known)
stated shut own (Some state) known = cond own (Some state) known

pub known_then : (es : List (HandleKey × HandleState)) (key q : HandleKey) (o : Option HandleState) → state_at (with_state es key o) q ≡ stated (is_shut (state_at es key)) (is_at (handle_order q) key) o (state_at es q)
known_then es key q None = lookup_forgotten es key q
known_then es key q (Some state) = lookup_put handle_order exact_handle same_handle es key state q

other_stays : (shut : Bool) (o known : Option HandleState) → stated shut false o known ≡ known
other_stays true None known = refl
other_stays false None known = refl
other_stays shut (Some state) known = refl

-- ---- a closed handle stays closed

both : (a b : Bool) → a ≡ true → b ≡ true → (a && b) ≡ true
both true true h k = refl
both true false h k = k
both false b h k = h

turned : (b : Bool) → b ≡ false → not b ≡ true
turned true h = absurd (cc)
turned false h = refl

later : (n m epoch : ℕ) → n ≡ epoch → nat_lt m epoch ≡ true → (n == m) ≡ false
later n m epoch same less = grind (arith, nat_tests)

module _ (epoch : ℕ) (handle : Handle) where
  -- one that isn't noted as closed is of this epoch
  not_shut : (o : Option HandleState) → is_closed epoch handle o ≡ true → is_shut o ≡ false → (handle.epoch == epoch) ≡ true
  not_shut (Some (states.Open noted)) h k = (and_parts (handle.epoch == epoch) (not (handle.epoch == noted.handle.epoch)) h).0
  not_shut (Some states.Closed) h k = absurd (cc)
  not_shut None h k = h

  pub is_shut_closed : (o : Option HandleState) → is_shut o ≡ true → is_closed epoch handle o ≡ true
  is_shut_closed (Some (states.Open noted)) h = absurd (cc)
  is_shut_closed (Some states.Closed) h = refl
  is_shut_closed None h = absurd (cc)

  closing_stays : (shut : Bool) (o known : Option HandleState) → shut ≡ is_shut known → is_closing o ≡ true → is_closed epoch handle known ≡ true → is_closed epoch handle (stated shut true o known) ≡ true
  closing_stays true None known same closing closed = closed
  closing_stays false None known same closing closed = not_shut known closed (sym same)
  closing_stays shut (Some states.Closed) known same closing closed = refl
  closing_stays shut (Some (states.Open noted)) known same closing closed = absurd (cc)

  shown_stays : (shut : Bool) (o known : Option HandleState) (shown : NotedHandle) → o ≡ Some (states.Open shown) → known ≡ None → nat_lt shown.handle.epoch epoch ≡ true → is_closed epoch handle known ≡ true → is_closed epoch handle (stated shut true o known) ≡ true
  shown_stays shut o known shown opens none earlier closed =
      let P : Option HandleState → Type 0 = λ x. is_closed epoch handle (stated shut true x known) ≡ true in
      let Q : Option HandleState → Type 0 = λ x. is_closed epoch handle x ≡ true in
      let own : (handle.epoch == epoch) ≡ true = subst Q none closed in
      let apart : (handle.epoch == shown.handle.epoch) ≡ false = later handle.epoch shown.handle.epoch epoch (eqb-true handle.epoch epoch own) earlier in
      subst P (sym opens) (both (handle.epoch == epoch) (not (handle.epoch == shown.handle.epoch)) own (turned (handle.epoch == shown.handle.epoch) apart))

module _ (s : MasterState) (client number : ℕ) (call : Call) (handle : Handle) (closed : IsClosed s handle) (unasked : opens_as (key_of handle) client number call ≡ false) where
  at_same : (note : HandleNote) → IsFair s client number call note → key_of handle ≡ note.key → is_closed s.epoch handle (stated (is_shut (handle_state_of s note.key)) true note.state (handle_state_of s (key_of handle))) ≡ true
  at_same note fair same =
      let shut : Bool = is_shut (handle_state_of s note.key) in
      let known : Option HandleState = handle_state_of s (key_of handle) in
      ⊎_elim (λ c. closing_stays s.epoch handle shut note.state known (ap (λ (k : HandleKey). is_shut (handle_state_of s k)) (sym same)) c closed)
      (⊎_elim
      (λ first. shown_stays s.epoch handle shut note.state known first.shown first.opens (ap (λ (k : HandleKey). handle_state_of s k) same ∙ first.none) first.earlier closed)
      (λ opens. let no : opens_as note.key client number call ≡ false = subst (λ k. opens_as k client number call ≡ false) same unasked in absurd cc))
      fair.by

  noted_closed : (note : HandleNote) → IsFair s client number call note → IsClosed (with_note s (Some note)) handle
  noted_closed note fair =
      let shut : Bool = is_shut (handle_state_of s note.key) in
      let known : Option HandleState = handle_state_of s (key_of handle) in
      ap (is_closed s.epoch handle) (known_then s.handles note.key (key_of handle) note.state)
      ∙ (elim (is_at (handle_order (key_of handle)) note.key) as (λ b. is_at (handle_order (key_of handle)) note.key ≡ b → is_closed s.epoch handle (stated shut b note.state known) ≡ true) [
        | true ↦ (λ h. at_same note fair (same_key handle_order exact_handle (key_of handle) note.key h))
        | false ↦ (λ h. ap (is_closed s.epoch handle) (other_stays shut note.state known) ∙ closed)
      ]) refl

  pub stays_closed : (o : Option HandleNote) → AreFair s client number call o → IsClosed (with_note s o) handle
  stays_closed None fair = closed
  stays_closed (Some note) fair = noted_closed note (fair note refl)
