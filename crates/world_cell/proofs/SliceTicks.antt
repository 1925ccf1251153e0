-- To each client, and of each name, what a step of the clocks, a master that comes up or goes down, and a client that joins are.
use Rattle.std.proofs.Common.{◌≡◌, ℕ, ◌+◌, ◌≤◌, Bool, true, false, cond, List, [], ◌∷◌, Option, Some, None, arith, refl, sym, ap, ◌∙◌, subst}
use Rattle.std.specs.Prelude.{◌==◌, ◌&&◌, ◌||◌, not, nat_le}
use Rattle.std.specs.Option.{option_map}
use Rattle.std.specs.Map.{lookup}
use Rattle.std.specs.BTreeMap.{is_at, insert_entry}
use Rattle.std.specs.Ordering.{nat_cmp}
use Rattle.std.proofs.lemmas.Bool.Decides.{nat_tests}
use Rattle.lease_core.specs.Lease.{longest_lease, recovery_timeout}
use Rattle.coherence.specs.Slice as one
use Rattle.coherence.specs.Slice.{Slice, Event, TickBeforeJoin, TickAboveLeast, TickToLeast, TickWithoutMaster, ComeUp, GoDown, Reached, Leads, nobody}
use Rattle.node_core.specs.Nodes.{view_at}
use Rattle.rows_cell.specs.declared.tables.SessionRow as of_rows
use Rattle.rows_cell.specs.Rows.{changed_rows, map_of}
use Rattle.tags_cell.specs.declared.messages.outs.Reply.{Reply}
use Rattle.session_core.specs.declared.records.Session.{Session}
use Rattle.session_core.specs.Session.{recovered_session, has_heard}
use Rattle.session_core.specs.Sessions.{all_heard}
use Rattle.session_core.proofs.OneClient.{lookup_put, lookup_put_apart}
use Rattle.master_state.specs.State.{MasterState}
use Rattle.master_state.specs.State as of_state
use Rattle.master_state.specs.Lookups.{session_of}
use Rattle.over_core.specs.Up.{up_edits}
use Rattle.world_steps.specs.declared.members.WorldClient.{WorldClient}
use Rattle.world_steps.specs.declared.steps.Ticks.{Ticks}
use Rattle.world_steps.specs.Members.{new_member, each_member, at_up, is_least, is_fair, own_step, clock_then}
use Rattle.world_steps.specs.World.{WorldState, member_of, stays_fair, moved, ticked, are_fair, without_master}
use Rattle.world_cell.specs.Slices.{Shown, slice, standing_so, standing_late, standing_of, is_late, standing_in, seen_of, heard_from, beats_of, offers_of, grants_of, clocks_of, client_of, master_of}
use Rattle.world_cell.proofs.SliceRights.{no_right}
use Rattle.world_cell.proofs.Slices.{LeadsTo, reached_stays, unseen, by_test, is_same, is_other, two_same, lookup_rows, lookup_each, all_found, seen_up, stepped_as}

-- ---- the clocks move

not_less : (a b : ℕ) → nat_le a b ≡ false → b ≤ a
not_less a b h = grind (arith, nat_tests, h)

no_less : (a : ℕ) → a ≤ a
no_less a = omega arith

at_most : (a b : ℕ) → nat_le a b ≡ true → a ≤ b
at_most a b h = grind (arith, nat_tests, h)

module _ (c : ℕ) (x : List ℕ) (w : WorldState) (ticks : Ticks) where
  -- with the master's clock and the client's member as they are then
  abbrev at_clocks : Option MasterState → ℕ → Option WorldClient → Slice Shown
  at_clocks m now member = record {
    present = view_at (map_of w.rows) x;
    session = standing_in w.rows c;
    epoch = w.rows.epoch;
    master = master_of c x now member m;
    client = client_of x member;
    beats = beats_of c w.messages;
    offers = offers_of c x w.messages;
    grants = grants_of c x w.rows.secret w.messages;
  }

  -- after the clocks' steps
  abbrev at_clocks_then : Option MasterState → Option WorldClient → Slice Shown
  at_clocks_then m member = at_clocks m (w.clock + ticks.master) (option_map (moved m w ticks c) member)

  ticks_alone : (member : Option WorldClient) → (events : List (Event Shown)) × Leads (at_clocks None w.clock member) events (at_clocks_then None member)
  ticks_alone None = ([], record { allowed = tt; leads_there = refl })
  ticks_alone (Some member) = (TickWithoutMaster (own_step ticks c) ∷ [], record { allowed = record { first = refl; rest = tt }; leads_there = refl })

  -- a client's own clock beside a master's
  abbrev fits_tick : WorldClient → Type 0
  fits_tick member = is_fair (w.clock + ticks.master) (clock_then ticks c member) member ≡ true

  tick_to_least : (s : MasterState) (member : WorldClient) → is_least (w.clock + ticks.master) (clock_then ticks c member) member ≡ true → Leads (at_clocks (Some s) w.clock (Some member)) (TickToLeast ticks.master (own_step ticks c) ∷ []) (at_clocks_then (Some s) (Some member))
  tick_to_least s member least = record {
    allowed = record { first = record { up = refl; least = at_most _ _ least }; rest = tt };
    leads_there = ap (λ (b : Bool). at_clocks (Some s) (w.clock + ticks.master) (Some (cond b (record member { clock = clock_then ticks c member; least_now = w.clock + ticks.master; least_clock = clock_then ticks c member }) (record member { clock = clock_then ticks c member })))) (sym least);
  }

  tick_above_least : (s : MasterState) (member : WorldClient) → is_least (w.clock + ticks.master) (clock_then ticks c member) member ≡ false → fits_tick member → Leads (at_clocks (Some s) w.clock (Some member)) (TickAboveLeast ticks.master (own_step ticks c) ∷ []) (at_clocks_then (Some s) (Some member))
  tick_above_least s member more fair = record {
    allowed = record { first = record { up = refl; fair = at_most _ _ fair; above = not_less _ _ more }; rest = tt };
    leads_there = ap (λ (b : Bool). at_clocks (Some s) (w.clock + ticks.master) (Some (cond b (record member { clock = clock_then ticks c member; least_now = w.clock + ticks.master; least_clock = clock_then ticks c member }) (record member { clock = clock_then ticks c member })))) (sym more);
  }

  ticks_beside : (s : MasterState) (member : Option WorldClient) → ((joined : WorldClient) → member ≡ Some joined → fits_tick joined) → (events : List (Event Shown)) × Leads (at_clocks (Some s) w.clock member) events (at_clocks_then (Some s) member)
  ticks_beside s None fair = (TickBeforeJoin ticks.master ∷ [], record { allowed = record { first = record { up = refl; nothing_sent = refl }; rest = tt }; leads_there = refl })
  ticks_beside s (Some member) fair = by_test (is_least (w.clock + ticks.master) (clock_then ticks c member) member)
      (λ least. (TickToLeast ticks.master (own_step ticks c) ∷ [], tick_to_least s member least))
      (λ more. (TickAboveLeast ticks.master (own_step ticks c) ∷ [], tick_above_least s member more (fair member refl)))

  fair_of_own : (s : MasterState) → are_fair (Some s) w ticks ≡ true → (joined : WorldClient) → member_of w c ≡ Some joined → fits_tick joined
  fair_of_own s fair joined found = all_found c (stays_fair w ticks) w.clients joined fair found

  ticks_by : (m : Option MasterState) → are_fair m w ticks ≡ true → (events : List (Event Shown)) × Leads (at_clocks m w.clock (member_of w c)) events (at_clocks_then m (member_of w c))
  ticks_by None fair = ticks_alone (member_of w c)
  ticks_by (Some s) fair = ticks_beside s (member_of w c) (fair_of_own s fair)

  pub tick_leads : are_fair w.master w ticks ≡ true → LeadsTo c x w (ticked w ticks)
  tick_leads fair =
      let led = ticks_by w.master fair in
      (led.0, subst (λ (o : Option WorldClient). Leads (slice c x w) led.0 (at_clocks w.master (w.clock + ticks.master) o)) (sym (lookup_each c (moved w.master w ticks) w.clients)) led.1)

  pub reached_stays_at_ticks : are_fair w.master w ticks ≡ true → Reached (slice c x w) → Reached (slice c x (ticked w ticks))
  reached_stays_at_ticks fair = reached_stays c x w (ticked w ticks) (tick_leads fair)

-- ---- a master comes up

unheard : (live recovering : Bool) → (standing_so live ≡ one.Live → recovering ≡ true) → false ≡ (live && (not recovering || false))
unheard true true h = refl
unheard true false h = absurd (let e : false ≡ true = h refl in cc)
unheard false recovering h = refl

not_live : (principal : List ℕ) (live : Bool) (now : ℕ) → has_heard {K = Reply} (recovered_session principal live now) ≡ true → standing_so live ≡ one.Live → ⊥
not_live principal true now h k = cc
not_live principal false now h k = cc

pub late_not_live : (late : Bool) → standing_late late ≡ one.Live → ⊥
late_not_live true h = cc
late_not_live false h = cc

-- the world after it
abbrev pub behind_up : WorldState → ℕ → WorldState
behind_up w now = record w {
  rows = changed_rows w.rows (up_edits w.rows);
  master = Some (of_state.master_of (changed_rows w.rows (up_edits w.rows)) w.terms now);
  clock = now;
  clients = each_member (λ number. at_up now) w.clients;
}

module _ (c : ℕ) (x : List ℕ) (w : WorldState) (now : ℕ) where
  abbrev known_of : of_rows.SessionRow → Session Reply
  known_of row = recovered_session row.principal row.live now

  abbrev row_here : Option of_rows.SessionRow
  row_here = lookup (is_at (nat_cmp c)) w.rows.sessions

  abbrev down_slice : Option of_rows.SessionRow → Option WorldClient → Slice Shown
  down_slice row member = record {
    present = view_at (map_of w.rows) x;
    session = standing_of (is_late w.rows c) row;
    epoch = w.rows.epoch;
    master = nobody;
    client = client_of x member;
    beats = beats_of c w.messages;
    offers = offers_of c x w.messages;
    grants = grants_of c x w.rows.secret w.messages;
  }

  -- with the session that the master found, and the member at its coming up
  abbrev up_slice : Option of_rows.SessionRow → Bool → Option (Session Reply) → Option WorldClient → Bool → Slice Shown
  up_slice row recovering found member heard = seen_up now (clocks_of now member) (client_of x member) (record {
    present = view_at (map_of w.rows) x;
    session = standing_of (is_late w.rows c) row;
    epoch = w.rows.epoch + 1;
    lease = w.terms.lease;
    recovering = recovering;
    seen = seen_of found;
    starts = [];
    heard = heard;
    right = no_right;
    pending = 0;
    beats = beats_of c w.messages;
    offers = offers_of c x w.messages;
    grants = grants_of c x w.rows.secret w.messages;
  })

  abbrev comes_up : Option of_rows.SessionRow → Bool → Event Shown
  comes_up row recovering = ComeUp now w.terms.lease (seen_of (option_map known_of row)).timeout recovering

  -- a session that the master found is known by no Beat
  abbrev up_found : Option of_rows.SessionRow → Bool → Option WorldClient → Slice Shown
  up_found row recovering member = up_slice row recovering (option_map known_of row) (option_map (at_up now) member) (heard_from recovering (seen_of (option_map known_of row)))

  comes_up_by : (row : Option of_rows.SessionRow) (recovering : Bool) (member : Option WorldClient) → w.terms.lease ≤ longest_lease → (standing_of (is_late w.rows c) row ≡ one.Live → recovering ≡ true) → Leads (down_slice row member) (comes_up row recovering ∷ []) (up_found row recovering member)
  comes_up_by None recovering None short recovers =
      record { allowed = record { first = record { down = refl; lease = short; recovers = recovers; timeout = λ k. absurd (late_not_live (is_late w.rows c) k) }; rest = tt }; leads_there = refl }
  comes_up_by None recovering (Some member) short recovers =
      record { allowed = record { first = record { down = refl; lease = short; recovers = recovers; timeout = λ k. absurd (late_not_live (is_late w.rows c) k) }; rest = tt }; leads_there = refl }
  comes_up_by (Some row) recovering None short recovers = record {
    allowed = record { first = record { down = refl; lease = short; recovers = recovers; timeout = λ k. no_less (now + recovery_timeout) }; rest = tt };
    leads_there = ap (up_slice (Some row) recovering (Some (known_of row)) None) (unheard row.live recovering recovers);
  }
  comes_up_by (Some row) recovering (Some member) short recovers = record {
    allowed = record { first = record { down = refl; lease = short; recovers = recovers; timeout = λ k. no_less (now + recovery_timeout) }; rest = tt };
    leads_there = ap (up_slice (Some row) recovering (Some (known_of row)) (Some (at_up now member))) (unheard row.live recovering recovers);
  }

  abbrev new_master : MasterState
  new_master = of_state.master_of (changed_rows w.rows (up_edits w.rows)) w.terms now

  found_known : session_of new_master c ≡ option_map known_of row_here
  found_known = lookup_rows known_of (is_at (nat_cmp c)) w.rows.sessions

  live_recovers : (row : Option of_rows.SessionRow) → row_here ≡ row → standing_of (is_late w.rows c) row ≡ one.Live → not (all_heard new_master.sessions) ≡ true
  live_recovers None is live = absurd (late_not_live (is_late w.rows c) live)
  live_recovers (Some row) is live = by_test (all_heard new_master.sessions)
      (λ heard. absurd (not_live row.principal row.live now (all_found c (λ entry. has_heard entry.1) new_master.sessions.sessions (known_of row) heard (found_known ∙ ap (option_map known_of) is)) live))
      (λ unheard_yet. ap not unheard_yet)

  up_events : Leads (down_slice row_here (member_of w c)) (comes_up row_here new_master.recovering ∷ []) (up_found row_here new_master.recovering (member_of w c)) → Leads (slice c x (record w { master = None })) (comes_up row_here new_master.recovering ∷ []) (slice c x (behind_up w now))
  up_events led = subst (λ (z : Slice Shown). Leads (down_slice row_here (member_of w c)) (comes_up row_here new_master.recovering ∷ []) z)
      (two_same (λ found member. up_slice row_here new_master.recovering found member (heard_from new_master.recovering (seen_of found))) (option_map known_of row_here) (session_of new_master c) (option_map (at_up now) (member_of w c)) (member_of (behind_up w now) c)
      (sym found_known)
      (sym (lookup_each c (λ number. at_up now) w.clients)))
      led

  pub up_leads : w.master ≡ None → w.terms.lease ≤ longest_lease → LeadsTo c x w (behind_up w now)
  up_leads down short = (
    comes_up row_here new_master.recovering ∷ [],
    subst (λ (m : Option MasterState). Leads (slice c x (record w { master = m })) (comes_up row_here new_master.recovering ∷ []) (slice c x (behind_up w now))) (sym down)
        (up_events (comes_up_by row_here new_master.recovering (member_of w c) short (live_recovers row_here refl))),
  )

  pub reached_stays_at_up : w.master ≡ None → w.terms.lease ≤ longest_lease → Reached (slice c x w) → Reached (slice c x (behind_up w now))
  reached_stays_at_up down short reached = reached_stays c x w (behind_up w now) (up_leads down short) reached

-- ---- the master goes down

module _ (c : ℕ) (x : List ℕ) (w : WorldState) where
  pub down_leads : (s : MasterState) → w.master ≡ Some s → LeadsTo c x w (without_master w)
  down_leads s up = (
    GoDown ∷ [],
    subst (λ (m : Option MasterState). Leads (slice c x (record w { master = m })) (GoDown ∷ []) (slice c x (without_master w))) (sym up) (record { allowed = record { first = refl; rest = tt }; leads_there = refl }),
  )

  pub reached_stays_at_down : (s : MasterState) → w.master ≡ Some s → Reached (slice c x w) → Reached (slice c x (without_master w))
  reached_stays_at_down s up reached = reached_stays c x w (without_master w) (down_leads s up) reached

-- ---- a client joins

-- the world after it
abbrev pub behind_join : WorldState → ℕ → List ℕ → WorldState
behind_join w number principal = record w { clients = insert_entry nat_cmp w.clients number (new_member number principal w.clock) }

module _ (x : List ℕ) (w : WorldState) (number : ℕ) (principal : List ℕ) where
  abbrev member_with : Option MasterState → Option WorldClient → Slice Shown
  member_with m member = record {
    present = view_at (map_of w.rows) x;
    session = standing_in w.rows number;
    epoch = w.rows.epoch;
    master = master_of number x w.clock member m;
    client = client_of x member;
    beats = beats_of number w.messages;
    offers = offers_of number x w.messages;
    grants = grants_of number x w.rows.secret w.messages;
  }

  new_is_nobody : (m : Option MasterState) → member_with m None ≡ member_with m (Some (new_member number principal w.clock))
  new_is_nobody None = refl
  new_is_nobody (Some s) = refl

  own_join : member_of w number ≡ None → slice number x w ≡ slice number x (behind_join w number principal)
  own_join free = ap (member_with w.master) free ∙ new_is_nobody w.master ∙ ap (member_with w.master) (sym (lookup_put number w.clients (new_member number principal w.clock)))

  pub join_stays : (c : ℕ) → member_of w number ≡ None → slice c x w ≡ slice c x (behind_join w number principal)
  join_stays c free = by_test (c == number)
      (λ own. subst (λ (z : ℕ). slice z x w ≡ slice z x (behind_join w number principal)) (sym (is_same c number own)) (own_join free))
      (λ other. ap (λ member. stepped_as c x w member (beats_of c w.messages) (offers_of c x w.messages) (grants_of c x w.rows.secret w.messages)) (sym (lookup_put_apart number c (is_other c number other) w.clients (new_member number principal w.clock))))

  pub join_leads : (c : ℕ) → member_of w number ≡ None → LeadsTo c x w (behind_join w number principal)
  join_leads c free = unseen c x w (behind_join w number principal) (join_stays c free)

  pub reached_stays_at_join : (c : ℕ) → member_of w number ≡ None → Reached (slice c x w) → Reached (slice c x (behind_join w number principal))
  reached_stays_at_join c free reached = reached_stays c x w (behind_join w number principal) (join_leads c free) reached
