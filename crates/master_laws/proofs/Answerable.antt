-- A right that is held is of a live session; and where a change waits on its name the client was asked for it, by an invalidation that it hasn't acknowledged.
use Rattle.std.proofs.Common.{◌≡◌, ℕ, ◌+◌, ◌<◌, ◌≤◌, List, [], ◌∷◌, Bool, true, false, cond, Option, Some, None, Result, Ok, Err, refl, sym, ap, subst, ◌∙◌, inl, inr, arith}
use Rattle.std.specs.Prelude.{◌⊎◌, ◌&&◌, ◌||◌, ◌==◌, not, nat_le, nat_lt, max, is_some, is_none}
use Rattle.std.specs.Option.{option_map}
use Rattle.std.specs.List.{list_any}
use Rattle.std.specs.List.Sorted.{IsStrictlySortedBy}
use Rattle.std.specs.Map.{keys_of, lookup}
use Rattle.std.specs.BTreeMap.{is_at}
use Rattle.std.specs.Ordering.{nat_cmp}
use Rattle.std.specs.Str.{bytes_eq}
use Rattle.std.proofs.lemmas.Bool.{and_parts}
use Rattle.std.proofs.lemmas.Bool.Decides.{nat_tests}
use Rattle.std.proofs.lemmas.List.Folds.{list_any-append}
use Rattle.collections.proofs.Keys.{number_same, bytes_same}
use Rattle.node_core.specs.declared.refusals.Fault.{Fault}
use Rattle.node_core.specs.declared.refusals.Fault.TheVariants as faults
use Rattle.rows_cell.specs.declared.tables.Rows.{Rows}
use Rattle.tags_cell.specs.declared.messages.beats.Beat.{Beat}
use Rattle.tags_cell.specs.declared.messages.outs.Reply.{Reply}
use Rattle.rights_core.specs.declared.cache_rights.CacheRight.{CacheRight}
use Rattle.rights_core.specs.declared.endings.Ending.{Ending}
use Rattle.rights_core.specs.declared.endings.Ending.TheVariants as endings
use Rattle.rights_core.specs.declared.grants.Grant.{Grant}
use Rattle.rights_core.specs.declared.grants.Grant.TheVariants as grants
use Rattle.rights_core.specs.Rights.{holds, grant_answer, with_granted, granted, invalidations_of, next_invalidation, clients_to_ask, is_ended_by, ended}
use Rattle.rights_core.specs.Laws.{asked_for}
use Rattle.rights_core.proofs.OneName.{new_right_is_held, asking_numbers_rights, ending_frees, clients_to_ask_hold}
use Rattle.gate_core.specs.declared.pending.Waiting.{Waiting}
use Rattle.gate_core.specs.Gate.{touches, uncachable}
use Rattle.session_core.specs.declared.records.Tally.{Tally}
use Rattle.session_core.specs.declared.records.Session.{Session}
use Rattle.session_core.specs.Session.{beat_fault, live_beat_fault, beaten, keeping, processed_to, session_until}
use Rattle.session_core.specs.Session as of_session
use Rattle.session_core.specs.Sessions.{session_of, is_live, with_session, with_new}
use Rattle.collections.proofs.OneKey.{lookup_removed, lookup_removed_apart}
use Rattle.session_core.specs.Laws.{issued_at}
use Rattle.session_core.proofs.OneClient.{own_session, other_session, lookup_put, lookup_put_apart}
use Rattle.session_core.proofs.IssuedBy.{issued_to_each}
use Rattle.session_core.proofs.Keys.{same_key}
use Rattle.master_parts.specs.OpenHandles.{without_client}
use Rattle.master_parts.specs.declared.pending.Task.{Task}
use Rattle.master_state.specs.State.{MasterState}
use Rattle.master_state.specs.Lookups.{acknowledgement, IsUnused}
use Rattle.master_state.specs.Updates.{retired}
use Rattle.cell_core.specs.Step.{queued, parked, with_right, asking, asking_for}
use Rattle.over_core.specs.Kept.{IsKept}
use Rattle.over_core.proofs.EachSession.{other_key}
use Rattle.over_core.proofs.KeptByTakes.{asked_kept}
use Rattle.over_core.proofs.OwnedRights.{none_asked}
use Rattle.over_core.proofs.SessionReads.{lives_in, reads_step, reads_gone, lives_new, reads_issued}

-- how many invalidations a client was issued, and has acknowledged
abbrev pub tally_in : Option (Session Reply) → Option Tally
tally_in found = option_map (λ session. session.invalidations) found

abbrev pub tally_of : MasterState → ℕ → Option Tally
tally_of s client = tally_in (session_of s.sessions client)

-- but for these names each that is held is asked for where a change waits on it
pub record IsAnswerable (pending : List (List ℕ)) (s : MasterState) : Type 0 where
  pub live : (client : ℕ) (name : List ℕ) → holds client name s.rights ≡ true → is_live s.sessions client ≡ true
  pub asked : (client : ℕ) (name : List ℕ) → holds client name s.rights ≡ true → uncachable name s.gate.waiting ≡ true → list_any (bytes_eq name) pending ≡ false → is_some (asked_for client name s.rights) ≡ true
  pub unacked : (client : ℕ) (name : List ℕ) (number : ℕ) (tally : Tally) → asked_for client name s.rights ≡ Some number → tally_of s client ≡ Some tally → tally.acknowledged < number
  pub within : (client : ℕ) (tally : Tally) → tally_of s client ≡ Some tally → tally.acknowledged ≤ tally.issued

-- ---- where neither rights nor tallies change

pub record IsAlike (s new : MasterState) : Type 0 where
  pub rights : new.rights ≡ s.rights
  pub lives : (client : ℕ) → is_live s.sessions client ≡ true → is_live new.sessions client ≡ true
  pub gate : (name : List ℕ) → uncachable name new.gate.waiting ≡ true → uncachable name s.gate.waiting ≡ true
  pub tallies : (client : ℕ) → tally_of new client ≡ tally_of s client

pub alike : (pending : List (List ℕ)) (s new : MasterState) → IsAlike s new → IsAnswerable pending s → IsAnswerable pending new
alike pending s new k h = record {
  live = λ client name held. k.lives client (h.live client name (ap (holds client name) (sym k.rights) ∙ held));
  asked = λ client name held waits aside. ap (λ rs. is_some (asked_for client name rs)) k.rights ∙ h.asked client name (ap (holds client name) (sym k.rights) ∙ held) (k.gate name waits) aside;
  unacked = λ client name number tally is found. h.unacked client name number tally (ap (asked_for client name) (sym k.rights) ∙ is) (sym (k.tallies client) ∙ found);
  within = λ client tally found. h.within client tally (sym (k.tallies client) ∙ found);
}

pub alike_itself : (s : MasterState) → IsAlike s s
alike_itself s = record { rights = refl; lives = λ client h. h; gate = λ name h. h; tallies = λ client. refl }

pub alike_then : (a b c : MasterState) → IsAlike a b → IsAlike b c → IsAlike a c
alike_then a b c h k = record {
  rights = k.rights ∙ h.rights;
  lives = λ client live. k.lives client (h.lives client live);
  gate = λ name waits. h.gate name (k.gate name waits);
  tallies = λ client. k.tallies client ∙ h.tallies client;
}

-- a step of one session that leaves whether it lives and its tally
pub stepped_alike : (s : MasterState) (client : ℕ) (step : Session Reply → Session Reply) → ((before : Session Reply) → (step before).live ≡ before.live) → ((before : Session Reply) → (step before).invalidations ≡ before.invalidations) → IsAlike s (record s { sessions = with_session s.sessions client step })
stepped_alike s client step lives tallies = record {
  rights = refl;
  lives = λ q live. reads_step lives_in s.sessions client step lives q ∙ live;
  gate = λ name waits. waits;
  tallies = λ q. reads_step tally_in s.sessions client step (λ before. ap (λ t. Some t) (tallies before)) q;
}

-- ---- one name is asked back

asked_some : (same held none : Bool) (o : Option ℕ) (next : ℕ) → none ≡ is_none o → held ≡ true → (same ≡ false → is_some o ≡ true) → is_some (cond ((same && held) && none) (Some next) o) ≡ true
asked_some true true true o next n h k = refl
asked_some true true false None next n h k = absurd (cc)
asked_some true true false (Some x) next n h k = refl
asked_some true false none o next n h k = absurd (cc)
asked_some false held none o next n h k = k refl

asked_number : (b : Bool) (o : Option ℕ) (next number acknowledged : ℕ) → cond b (Some next) o ≡ Some number → acknowledged < next → (o ≡ Some number → acknowledged < number) → acknowledged < number
asked_number true o next number acknowledged is less k = let same : next ≡ number = cc in subst (λ n. acknowledged < n) same less
asked_number false o next number acknowledged is less k = k is

apart : (a b : Bool) → a ≡ false → b ≡ false → (a || b) ≡ false
apart a b h k = rw (h, k) refl

same_lives : (o : Option ℕ) (before : Session Reply) → lives_in (Some (issued_at o before)) ≡ lives_in (Some before)
same_lives None before = refl
same_lives (Some number) before = refl

tally_issued : (o : Option ℕ) (before : Session Reply) → (issued_at o before).invalidations.acknowledged ≡ before.invalidations.acknowledged
tally_issued None before = refl
tally_issued (Some number) before = refl

-- what was acknowledged of it
abbrev acknowledged_in : Option (Session Reply) → Option ℕ
acknowledged_in found = option_map (λ session. session.invalidations.acknowledged) found

acknowledged_of : (o : Option (Session Reply)) (tally : Tally) → tally_in o ≡ Some tally → acknowledged_in o ≡ Some tally.acknowledged
acknowledged_of None tally h = absurd (cc)
acknowledged_of (Some session) tally h = let same : session.invalidations ≡ tally = cc in ap (λ t. Some t.acknowledged) same

tally_found : (o : Option (Session Reply)) (count : ℕ) → acknowledged_in o ≡ Some count → (session : Session Reply) × (o ≡ Some session) × (session.invalidations.acknowledged ≡ count)
tally_found None count h = absurd (cc)
tally_found (Some session) count h = let same : session.invalidations.acknowledged ≡ count = cc in (session, refl, same)

issued_more : (o : Option ℕ) (before : Session Reply) → before.invalidations.acknowledged ≤ before.invalidations.issued → (issued_at o before).invalidations.acknowledged ≤ (issued_at o before).invalidations.issued
issued_more None before h = h
issued_more (Some number) before h = more before.invalidations.acknowledged before.invalidations.issued number h
  where
    more : (a b c : ℕ) → a ≤ b → a ≤ max b c
    more a b c h = omega (arith, h)

pub session_in : (o : Option (Session Reply)) (tally : Tally) → tally_in o ≡ Some tally → (session : Session Reply) × (o ≡ Some session) × (session.invalidations ≡ tally)
session_in None tally h = absurd (cc)
session_in (Some session) tally h = let same : session.invalidations ≡ tally = cc in (session, refl, same)

mapped : (o : Option (Session Reply)) (step : Session Reply → Session Reply) (tally : Tally) → tally_in (option_map step o) ≡ Some tally → (session : Session Reply) × (o ≡ Some session) × ((step session).invalidations ≡ tally)
mapped None step tally h = absurd (cc)
mapped (Some session) step tally h = let same : (step session).invalidations ≡ tally = cc in (session, refl, same)

one_more : (a b c : ℕ) → a ≤ b → b ≡ c → a < c + 1
one_more a b c h k = omega (arith, h, k)

module _ (cell : List ℕ) (rows : Rows) where
  pub asking_answerable : (s : MasterState) (name : List ℕ) (pending : List (List ℕ)) → IsKept cell rows s → IsAnswerable (name ∷ pending) s → IsAnswerable pending (asking s name)
  asking_answerable s name pending k h =
      let asked = clients_to_ask name s.rights in
      let order : IsStrictlySortedBy nat_cmp (keys_of asked) = (clients_to_ask_hold 0 name s.rights k.recorded.once).1 in
      record {
        live = λ client theirs held.
            reads_issued lives_in asked s.sessions order same_lives client ∙ h.live client theirs (sym (asking_numbers_rights client name theirs s.rights).0 ∙ held);
        asked = λ client theirs held waits aside.
            let before : holds client theirs s.rights ≡ true = sym (asking_numbers_rights client name theirs s.rights).0 ∙ held in
            ap is_some (asking_numbers_rights client name theirs s.rights).1
            ∙ asked_some (bytes_eq theirs name) (holds client theirs s.rights) (is_none (asked_for client theirs s.rights)) (asked_for client theirs s.rights) (next_invalidation client s.rights) refl before (λ other. h.asked client theirs before waits (apart (bytes_eq theirs name) (list_any (bytes_eq theirs) pending) other aside));
        unacked = λ client theirs number tally is found.
            let same = reads_issued acknowledged_in asked s.sessions order (λ o before. ap (λ n. Some n) (tally_issued o before)) client in
            let t = tally_found (session_of s.sessions client) tally.acknowledged (sym same ∙ acknowledged_of (session_of (asking s name).sessions client) tally found) in
            let own : tally_of s client ≡ Some t.0.invalidations = ap tally_in t.1 in
            let less : t.0.invalidations.acknowledged < next_invalidation client s.rights = one_more t.0.invalidations.acknowledged t.0.invalidations.issued (invalidations_of client s.rights) (h.within client t.0.invalidations own) (k.issued client t.0 t.1) in
            let P : ℕ → Type 0 = λ n. n < number in
            subst P t.2 (asked_number ((bytes_eq theirs name && holds client theirs s.rights) && is_none (asked_for client theirs s.rights)) (asked_for client theirs s.rights) (next_invalidation client s.rights) number t.0.invalidations.acknowledged (sym (asking_numbers_rights client name theirs s.rights).1 ∙ is) less (λ old. h.unacked client theirs number t.0.invalidations old own));
        within = λ client tally found.
            let t = mapped (session_of s.sessions client) (issued_at (lookup (is_at (nat_cmp client)) asked)) tally (ap tally_in (sym (issued_to_each s.sessions asked client order)) ∙ found) in
            let P : Tally → Type 0 = λ x. x.acknowledged ≤ x.issued in
            subst P t.2 (issued_more (lookup (is_at (nat_cmp client)) asked) t.0 (h.within client t.0.invalidations (ap tally_in t.1)));
      }

  pub asking_all_answerable : (s : MasterState) (names : List (List ℕ)) → IsKept cell rows s → IsAnswerable names s → IsAnswerable [] (asking_for s names)
  asking_all_answerable s [] k h = h
  asking_all_answerable s (name ∷ names) k h = asking_all_answerable (asking s name) names (asked_kept cell rows s name k) (asking_answerable s name names k h)

-- ---- a change that comes

queued_parts : (a b c : Bool) → (a || (b || false)) ≡ true → (a ≡ false → c ≡ true → b ≡ true) → b ≡ false → a ≡ true
queued_parts true b c h k n = refl
queued_parts false b c h k n = absurd (cc)

or_none : (b : Bool) → (b || false) ≡ b
or_none true = refl
or_none false = refl

first_of : (a b : Bool) → (a || b) ≡ true → b ≡ false → a ≡ true
first_of true b h k = refl
first_of false b h k = absurd (cc)

pub queued_answerable : (s : MasterState) (touched : List (List ℕ)) (task : Task) → IsAnswerable [] s → IsAnswerable touched (queued s touched task)
queued_answerable s touched task h = record {
  live = h.live;
  asked = λ client name held waits aside.
      let w : Waiting Task = record { number = s.gate.pushed + 1; change = record { touched = touched; body = task } } in
      let parts : (uncachable name s.gate.waiting || (list_any (bytes_eq name) touched || false)) ≡ true = sym (list_any-append (touches name) s.gate.waiting (w ∷ [])) ∙ waits in
      h.asked client name held (first_of (uncachable name s.gate.waiting) (list_any (bytes_eq name) touched || false) parts (or_none (list_any (bytes_eq name) touched) ∙ aside)) refl;
  unacked = h.unacked;
  within = h.within;
}

-- ---- a right that is granted

by_answer : (P : List CacheRight → Type 0) (client : ℕ) (name : List ℕ) (rights : List CacheRight) → P rights → ((number : ℕ) → grant_answer client name rights ≡ Ok (grants.Granted number) → P (granted client name rights)) → P (granted client name rights)
by_answer P client name rights same new = answered (grant_answer client name rights) refl
  where
    answered : (answer : Result Grant Fault) → grant_answer client name rights ≡ answer → P (granted client name rights)
    answered (Ok (grants.Granted number)) is = new number is
    answered (Ok (grants.Already number)) is = let there : rights ≡ granted client name rights = sym (ap (λ a. with_granted a client name rights) is) in subst P there same
    answered (Ok grants.Full) is = let there : rights ≡ granted client name rights = sym (ap (λ a. with_granted a client name rights) is) in subst P there same
    answered (Err fault) is = let there : rights ≡ granted client name rights = sym (ap (λ a. with_granted a client name rights) is) in subst P there same

new_or_old : {P : Type 0} (old same : Bool) → (old || same) ≡ true → (old ≡ true → P) → (same ≡ true → P) → P
new_or_old true same h k l = k refl
new_or_old false same h k l = l h

pub right_answerable : (s : MasterState) (client : ℕ) (name : List ℕ) → is_live s.sessions client ≡ true → uncachable name s.gate.waiting ≡ false → IsAnswerable [] s → IsAnswerable [] (with_right s client name)
right_answerable s client name live free h =
    by_answer (λ rs. IsAnswerable [] (record s { rights = rs })) client name s.rights (record { live = h.live; asked = h.asked; unacked = h.unacked; within = h.within }) (λ number is. record {
      live = λ other theirs held.
          new_or_old (holds other theirs s.rights) (bytes_eq theirs name && other == client) (sym (new_right_is_held client other number name theirs s.rights is).0 ∙ held)
          (λ old. h.live other theirs old)
          (λ new. let same : other ≡ client = number_same other client (and_parts (bytes_eq theirs name) (other == client) new).1 in subst (λ q. is_live s.sessions q ≡ true) (sym same) live);
      asked = λ other theirs held waits aside.
          ap is_some (new_right_is_held client other number name theirs s.rights is).1
          ∙ new_or_old (holds other theirs s.rights) (bytes_eq theirs name && other == client) (sym (new_right_is_held client other number name theirs s.rights is).0 ∙ held)
          (λ old. h.asked other theirs old waits aside)
          (λ new.
          let same : theirs ≡ name = bytes_same theirs name (and_parts (bytes_eq theirs name) (other == client) new).0 in
          let none : uncachable theirs s.gate.waiting ≡ false = subst (λ x. uncachable x s.gate.waiting ≡ false) (sym same) free in
          absurd (cc));
      unacked = λ other theirs n tally asked found. h.unacked other theirs n tally (sym (new_right_is_held client other number name theirs s.rights is).1 ∙ asked) found;
      within = h.within;
    })

-- ---- rights that end

still_held : (held ends : Bool) → (held && not ends) ≡ true → (held ≡ true) × (ends ≡ false)
still_held true true h = absurd (cc)
still_held true false h = (refl, refl)
still_held false ends h = absurd (cc)

still_asked : (ends : Bool) (o : Option ℕ) (number : ℕ) → cond ends None o ≡ Some number → (o ≡ Some number) × (ends ≡ false)
still_asked true o number h = absurd (cc)
still_asked false o number h = (h, refl)

kept_asked : (ends : Bool) (o : Option ℕ) → ends ≡ false → is_some o ≡ true → is_some (cond ends None o) ≡ true
kept_asked true o h k = absurd (cc)
kept_asked false o h k = k

-- whoever holds a name afterwards held it before, and it was asked for as then
module _ (s : MasterState) (client : ℕ) (ending : Ending) (cell : List ℕ) (rows : Rows) (k : IsKept cell rows s) where
  abbrev later : List CacheRight
  later = ended client ending s.rights

  abbrev ends_of : ℕ → List ℕ → Bool
  ends_of other name = client == other && is_ended_by ending (asked_for other name s.rights)

  pub held_before : (other : ℕ) (name : List ℕ) → holds other name later ≡ true → (holds other name s.rights ≡ true) × (ends_of other name ≡ false)
  held_before other name held = still_held (holds other name s.rights) (ends_of other name) (sym (ending_frees client other name ending s.rights k.recorded.once).0 ∙ held)

  pub asked_before : (other : ℕ) (name : List ℕ) (number : ℕ) → asked_for other name later ≡ Some number → (asked_for other name s.rights ≡ Some number) × (ends_of other name ≡ false)
  asked_before other name number is = still_asked (ends_of other name) (asked_for other name s.rights) number (sym (ending_frees client other name ending s.rights k.recorded.once).1 ∙ is)

  pub asked_still : (other : ℕ) (name : List ℕ) → holds other name later ≡ true → is_some (asked_for other name s.rights) ≡ true → is_some (asked_for other name later) ≡ true
  asked_still other name held is =
      ap is_some (ending_frees client other name ending s.rights k.recorded.once).1 ∙ kept_asked (ends_of other name) (asked_for other name s.rights) (held_before other name held).1 is

-- by a Beat
beat_within : (o : Option (Session Reply)) (session : Session Reply) (beat : Beat) → o ≡ Some session → beat_fault o beat ≡ None → beat.invalidations ≤ session.invalidations.issued
beat_within None session beat found h = absurd (cc)
beat_within (Some there) session beat found h =
    let same : there ≡ session = cc in
    let P : Session Reply → Type 0 = λ x. beat.invalidations ≤ x.invalidations.issued in
    subst P same (by_live there.live there h)
  where
    by_count : (n i b e c : ℕ) (new most least : Bool) (f : Fault) → cond new (Some faults.Repeat) (cond most (Some (faults.BadAck i)) (cond least (Some (faults.BadAck c)) None)) ≡ None → most ≡ nat_lt i b → b ≤ i
    by_count n i b e c true most least f h is = absurd (cc)
    by_count n i b e c false true least f h is = absurd (cc)
    by_count n i b e c false false least f h is = grind (arith, nat_tests)

    by_live : (live : Bool) (there : Session Reply) → cond live (live_beat_fault there beat) (Some faults.NoSession) ≡ None → beat.invalidations ≤ there.invalidations.issued
    by_live true there h = by_count 0 there.invalidations.issued beat.invalidations 0 _ _ _ _ faults.NoSession h refl
    by_live false there h = absurd (cc)

beaten_acknowledged : (a b n : ℕ) → a < n → nat_le n b ≡ false → max a b < n
beaten_acknowledged a b n h k = grind (arith, nat_tests)

beaten_within : (a b i : ℕ) → a ≤ i → b ≤ i → max a b ≤ i
beaten_within a b i h k = omega (arith, h, k)

not_ended : (own covered : Bool) → own ≡ true → (own && covered) ≡ false → covered ≡ false
not_ended true covered h k = k
not_ended false covered h k = absurd (cc)

itself : (n : ℕ) → (n == n) ≡ true
itself n = grind (arith, nat_tests)

pub parked_answerable : (cell : List ℕ) (rows : Rows) (s : MasterState) (beat : Beat) → beat_fault (session_of s.sessions beat.client) beat ≡ None → IsKept cell rows s → IsAnswerable [] s → IsAnswerable [] (parked s beat)
parked_answerable cell rows s beat fits k h =
    let client = beat.client in
    let ending = acknowledgement beat in
    let step = beaten beat s.clock in
    record {
      live = λ other name held. reads_step lives_in s.sessions client step (λ before. refl) other ∙ h.live other name (held_before s client ending cell rows k other name held).0;
      asked = λ other name held waits aside. asked_still s client ending cell rows k other name held (h.asked other name (held_before s client ending cell rows k other name held).0 waits aside);
      unacked = λ other name number tally is found.
          let t = asked_before s client ending cell rows k other name number is in
          (elim (is_at (nat_cmp other) client) as (λ b. is_at (nat_cmp other) client ≡ b → tally.acknowledged < number) [
            | true ↦ (λ at.
                let same : other ≡ client = same_key other client at in
                let own : tally_in (option_map step (session_of s.sessions client)) ≡ Some tally = ap tally_in (sym (own_session s.sessions client step)) ∙ subst (λ q. tally_of (parked s beat) q ≡ Some tally) same found in
                let m = mapped (session_of s.sessions client) step tally own in
                let before : asked_for client name s.rights ≡ Some number = subst (λ q. asked_for q name s.rights ≡ Some number) same t.0 in
                let uncovered : is_ended_by ending (asked_for client name s.rights) ≡ false = not_ended (client == client) (is_ended_by ending (asked_for client name s.rights)) (itself client) (subst (λ q. ends_of s client ending cell rows k q name ≡ false) same t.1) in
                let above : nat_le number beat.invalidations ≡ false = ap (is_ended_by ending) (sym before) ∙ uncovered in
                let P : Tally → Type 0 = λ x. x.acknowledged < number in
                subst P m.2 (beaten_acknowledged m.0.invalidations.acknowledged beat.invalidations number (h.unacked client name number m.0.invalidations before (ap tally_in m.1)) above))
            | false ↦ (λ at. h.unacked other name number tally t.0 (ap tally_in (sym (other_session s.sessions client step other (other_key other client at))) ∙ found))
          ]) refl;
      within = λ other tally found.
          (elim (is_at (nat_cmp other) client) as (λ b. is_at (nat_cmp other) client ≡ b → tally.acknowledged ≤ tally.issued) [
            | true ↦ (λ at.
                let same : other ≡ client = same_key other client at in
                let own : tally_in (option_map step (session_of s.sessions client)) ≡ Some tally = ap tally_in (sym (own_session s.sessions client step)) ∙ subst (λ q. tally_of (parked s beat) q ≡ Some tally) same found in
                let m = mapped (session_of s.sessions client) step tally own in
                let P : Tally → Type 0 = λ x. x.acknowledged ≤ x.issued in
                subst P m.2 (beaten_within m.0.invalidations.acknowledged beat.invalidations m.0.invalidations.issued (h.within client m.0.invalidations (ap tally_in m.1)) (beat_within (session_of s.sessions client) m.0 beat m.1 fits)))
            | false ↦ (λ at. h.within other tally (ap tally_in (sym (other_session s.sessions client step other (other_key other client at))) ∙ found))
          ]) refl;
    }

-- ---- a session that ends

all_ended : (ending : Ending) (o : Option ℕ) → (ending ≡ endings.Expiry) ⊎ (ending ≡ endings.Leave) → is_ended_by ending o ≡ true
all_ended ending o (inl is) = ap (λ e. is_ended_by e o) is
all_ended ending o (inr is) = ap (λ e. is_ended_by e o) is

none_left : {P : Type 0} (own covered : Bool) → own ≡ true → covered ≡ true → (own && covered) ≡ false → P
none_left own covered h k n = absurd (let both : (own && covered) ≡ true = rw (h, k) refl in cc)

pub ended_answerable : (cell : List ℕ) (rows : Rows) (s : MasterState) (client : ℕ) (ending : Ending) → (ending ≡ endings.Expiry) ⊎ (ending ≡ endings.Leave) → IsKept cell rows s → IsAnswerable [] s
    → IsAnswerable [] (record s { handles = without_client s.handles client; sessions = with_session s.sessions client of_session.ended; rights = ended client ending s.rights })
ended_answerable cell rows s client ending all k h =
    let new : MasterState = record s { handles = without_client s.handles client; sessions = with_session s.sessions client of_session.ended; rights = ended client ending s.rights } in
    let tallies : (q : ℕ) → tally_of new q ≡ tally_of s q = λ q. reads_step tally_in s.sessions client of_session.ended (λ before. refl) q in
    record {
      live = λ other name held.
          let t = held_before s client ending cell rows k other name held in
          (elim (is_at (nat_cmp other) client) as (λ b. is_at (nat_cmp other) client ≡ b → is_live new.sessions other ≡ true) [
            | true ↦ (λ at.
                let same : other ≡ client = same_key other client at in
                none_left (client == client) (is_ended_by ending (asked_for client name s.rights)) (itself client) (all_ended ending (asked_for client name s.rights) all) (subst (λ q. ends_of s client ending cell rows k q name ≡ false) same t.1))
            | false ↦ (λ at. ap lives_in (other_session s.sessions client of_session.ended other (other_key other client at)) ∙ h.live other name t.0)
          ]) refl;
      asked = λ other name held waits aside. asked_still s client ending cell rows k other name held (h.asked other name (held_before s client ending cell rows k other name held).0 waits aside);
      unacked = λ other name number tally is found. h.unacked other name number tally (asked_before s client ending cell rows k other name number is).0 (sym (tallies other) ∙ found);
      within = λ other tally found. h.within other tally (sym (tallies other) ∙ found);
    }

-- ---- a session that begins

pub begun_answerable : (cell : List ℕ) (rows : Rows) (s : MasterState) (client : ℕ) (principal : List ℕ) (timeout : ℕ) → IsUnused s client → IsKept cell rows s → IsAnswerable [] s
    → IsAnswerable [] (record s { sessions = with_new s.sessions client (session_until principal true timeout) })
begun_answerable cell rows s client principal timeout none k h =
    let fresh : Session Reply = session_until principal true timeout in
    let new : MasterState = record s { sessions = with_new s.sessions client fresh } in
    record {
      live = λ other name held. lives_new s.sessions client fresh refl other (h.live other name held);
      asked = h.asked;
      unacked = λ other name number tally is found.
          (elim (is_at (nat_cmp other) client) as (λ b. is_at (nat_cmp other) client ≡ b → tally.acknowledged < number) [
            | true ↦ (λ at.
                let same : other ≡ client = same_key other client at in
                let nothing : asked_for client name s.rights ≡ None = none_asked client name s.rights (k.owned client none.0 none.1) in
                let own : asked_for client name s.rights ≡ Some number = subst (λ q. asked_for q name s.rights ≡ Some number) same is in
                absurd (cc))
            | false ↦ (λ at. h.unacked other name number tally is (ap tally_in (sym (lookup_put_apart client other (other_key other client at) s.sessions.sessions fresh)) ∙ found))
          ]) refl;
      within = λ other tally found.
          (elim (is_at (nat_cmp other) client) as (λ b. is_at (nat_cmp other) client ≡ b → tally.acknowledged ≤ tally.issued) [
            | true ↦ (λ at.
                let same : other ≡ client = same_key other client at in
                let own : tally_in (Some fresh) ≡ Some tally = ap tally_in (sym (lookup_put client s.sessions.sessions fresh)) ∙ subst (λ q. tally_of new q ≡ Some tally) same found in
                let is : fresh.invalidations ≡ tally = cc in
                let P : Tally → Type 0 = λ x. x.acknowledged ≤ x.issued in
                subst P is (omega arith))
            | false ↦ (λ at. h.within other tally (ap tally_in (sym (lookup_put_apart client other (other_key other client at) s.sessions.sessions fresh)) ∙ found))
          ]) refl;
    }

-- ---- a session that goes

module _ (s : MasterState) (client : ℕ) (session : Session Reply) (found : session_of s.sessions client ≡ Some session) (ended : session.live ≡ false) (order : IsStrictlySortedBy nat_cmp (keys_of s.sessions.sessions)) where
  abbrev gone : MasterState
  gone = retired s (Some client)

  tally_there : (other : ℕ) (tally : Tally) → tally_of gone other ≡ Some tally → tally_of s other ≡ Some tally
  tally_there other tally there =
      (elim (is_at (nat_cmp other) client) as (λ b. is_at (nat_cmp other) client ≡ b → tally_of s other ≡ Some tally) [
        | true ↦ (λ at.
            let same : other ≡ client = same_key other client at in
            let none : tally_of gone client ≡ None = ap tally_in (lookup_removed client s.sessions.sessions order) in
            let own : tally_of gone client ≡ Some tally = subst (λ q. tally_of gone q ≡ Some tally) same there in
            absurd (cc))
        | false ↦ (λ at. ap tally_in (sym (lookup_removed_apart client other (other_key other client at) s.sessions.sessions)) ∙ there)
      ]) refl

  pub retired_answerable : IsAnswerable [] s → IsAnswerable [] gone
  retired_answerable h = record {
    live = λ other name held. reads_gone lives_in s.sessions client session order found ended other ∙ h.live other name held;
    asked = h.asked;
    unacked = λ other name number tally is there. h.unacked other name number tally is (tally_there other tally there);
    within = λ other tally there. h.within other tally (tally_there other tally there);
  }
