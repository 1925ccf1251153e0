-- The end of a lost group, as deeds.
use Rattle.std.proofs.Common.{◌≡◌, ◌⊎◌, true, ℕ, ◌≤◌, List, [], ◌∷◌, ◌++◌, map, Option, Some, None, refl, sym, ap, ◌∙◌, subst, arith, append-nil, append_assoc, inl, inr}
use Rattle.std.specs.Prelude.{Result, Ok, Err}
use Rattle.node_core.specs.declared.lines.Line.{Line}
use Rattle.node_core.specs.declared.lines.Line.TheVariants as lines
use Rattle.node_core.specs.declared.refusals.Fault.{Fault}
use Rattle.rows_cell.specs.declared.tables.Edit.{Edit}
use Rattle.rows_cell.specs.declared.tables.Rows.{Rows}
use Rattle.rows_cell.specs.Rows.{changed_rows}
use Rattle.rows_cell.specs.Stores.{Store, IsCommitted, IsRefused, MayLeave}
use Rattle.tags_cell.specs.Numbers.{is_client_number}
use Rattle.tags_cell.specs.Messages.{request_client}
use Rattle.tags_cell.specs.declared.messages.requests.Request.{Request}
use Rattle.tags_cell.specs.declared.messages.outs.Out.{Out}
use Rattle.over_core.specs.Kept.{CellState}
use Rattle.over_core.specs.Sweep.{IsSettled}
use Rattle.over_core.proofs.Settled.{settled_by}
use Rattle.world_steps.specs.declared.mail.Message.TheVariants.{ToClient}
use Rattle.world_steps.specs.Messages.{request_at}
use Rattle.codec.specs.declared.faults.WireFault.{WireFault}
use Rattle.hosting.specs.declared.frames.Frame.{Frame}
use Rattle.hosting.specs.declared.frames.Frame.TheVariants as frames
use Rattle.hosting.specs.declared.pieces.GroupTerms.{GroupTerms}
use Rattle.hosting.specs.Serving.{SweepsOnce}
use Rattle.hosting.specs.Seats.{Hosted, with_master, cell_of}
use Rattle.hosting.specs.Streams.{Answer}
use Rattle.hosting.specs.Pieces.{joined}
use Rattle.hosting.specs.Parted.{SweptTo, TakenTo, BeginsFrame, BeginsNext, StandsSo, store_with}
use Rattle.hosting.specs.Groups.{LostGroup}
use Rattle.hosting.proofs.HeldBack.{changed_behind}
use Rattle.hosting.proofs.PieceLaws.{each_committed, joined_behind, cut_doubts}
use Rattle.history_laws.specs.Parts.{Parts, Deed, Goes}
use Rattle.history_laws.specs.Histories.{Clocks, Entry, History}
use Rattle.history_laws.specs.Hosted.{Known, swept_lines, swept_outs, IsHostedIn, IsPossibleFrame, IsAtMoment, AreAtClocks, at_moment, answers_lines, answers_outs}
use Rattle.history_laws.specs.Lost.{IsAmong, IsLeftBy, EndAt, ComeTo, EndsUnheard, LostGroupsAreEnds}
use Rattle.history_laws.proofs.Hosted.{AreDeeds, HasCell, placed, placed_has, placed_again, history_append, deeds_append, one_deed, sweep_is, steps_are, steps_later, sweep_later, take_is}
use Rattle.history_laws.proofs.Grouped.{AreDeedsOf, turns_are, none_before}

-- ---- which rows the next master finds

by_leave : (piece : List Edit) (mid new : Store) (rows : Rows) → MayLeave piece mid.rows mid.may_leave new.may_leave → IsSettled mid → IsAmong rows new.may_leave
    → (rows ≡ mid.rows) ⊎ (rows ≡ changed_rows mid.rows piece)
by_leave [] mid new rows leave so among =
    let P : List Rows → Type 0 = λ u. IsAmong rows u in
    as_it_was (subst P (leave ∙ so) among)
  where
    as_it_was : IsAmong rows (mid.rows ∷ []) → (rows ≡ mid.rows) ⊎ (rows ≡ changed_rows mid.rows [])
    as_it_was (inl same) = inl same
    as_it_was (inr none) = absurd none
by_leave (edit ∷ edits) mid new rows (inl leave) so among =
    let P : List Rows → Type 0 = λ u. IsAmong rows u in
    as_it_was (subst P (leave ∙ so) among)
  where
    as_it_was : IsAmong rows (mid.rows ∷ []) → (rows ≡ mid.rows) ⊎ (rows ≡ changed_rows mid.rows (edit ∷ edits))
    as_it_was (inl same) = inl same
    as_it_was (inr none) = absurd none
by_leave (edit ∷ edits) mid new rows (inr leave) so among =
    let more : List Rows = changed_rows mid.rows (edit ∷ edits) ∷ [] in
    let P : List Rows → Type 0 = λ u. IsAmong rows u in
    one_more (subst P (leave ∙ ap (λ (u : List Rows). u ++ more) so) among)
  where
    one_more : IsAmong rows (mid.rows ∷ changed_rows mid.rows (edit ∷ edits) ∷ []) → (rows ≡ mid.rows) ⊎ (rows ≡ changed_rows mid.rows (edit ∷ edits))
    one_more (inl same) = inl same
    one_more (inr (inl same)) = inr same
    one_more (inr (inr none)) = absurd none

-- a step of the master left them
abbrev LeftAs : (terms : GroupTerms) (text : Known) (old : Hosted) (rows : Rows) → Type 0
LeftAs terms text old rows = (store : Store) × StandsSo terms.master text old store × (store.rows ≡ rows) × (store.doubt ≡ old.store.doubt)

module _ (terms : GroupTerms) (text : Known) (old new : Hosted) (fault : Fault) (rows : Rows) (group : LostGroup terms text old fault new) where
  abbrev front : List (List Edit)
  front = group.refused.0

  abbrev piece : List Edit
  piece = group.refused.1

  abbrev back : List (List Edit)
  back = group.refused.2

  abbrev mid : Store
  mid = group.refused.3

  stood : IsCommitted (joined front) old.store mid
  stood = each_committed front old.store mid group.refused.5

  before_piece : rows ≡ mid.rows → LeftAs terms text old rows
  before_piece same = (store_with old.store front, group.parted front (piece ∷ back) group.refused.4, sym (same ∙ stood.rows), refl)

  behind_piece : rows ≡ changed_rows mid.rows piece → LeftAs terms text old rows
  behind_piece same =
      let all : List (List Edit) = front ++ piece ∷ [] in
      let is : changed_rows old.store.rows (joined all) ≡ changed_rows mid.rows piece =
      ap (changed_rows old.store.rows) (joined_behind front piece) ∙ changed_behind old.store.rows (joined front) piece ∙ ap (λ (r : Rows). changed_rows r piece) (sym stood.rows) in
      (store_with old.store all, group.parted all back (group.refused.4 ∙ sym (append_assoc front (piece ∷ []) back)), is ∙ sym same, refl)

  either_piece : (rows ≡ mid.rows) ⊎ (rows ≡ changed_rows mid.rows piece) → LeftAs terms text old rows
  either_piece (inl same) = before_piece same
  either_piece (inr same) = behind_piece same

  left_as : IsLeftBy new.store rows → LeftAs terms text old rows
  left_as (inl same) = before_piece (same ∙ group.refused.6.rows)
  left_as (inr among) = either_piece (by_leave piece mid new.store rows group.refused.6.leave (settled_by (joined front) old.store mid stood group.settled) among)

-- ---- the first steps of a frame

-- deeds lead to these rows
record Leads (q : Parts) (clocks : Clocks) (rows : Rows) : Type 0 where
  printed : List Line
  outs : List Out
  cell : CellState
  there : cell.store.rows ≡ rows
  deeds : AreDeeds q clocks printed (placed q cell outs)

module _ (q : Parts) (clocks : Clocks) (now : ℕ) (at : clocks.master ≡ now) where
  swept_lead : (old : CellState) (store : Store) → HasCell q old → SweptTo now old store → Leads q clocks store.rows
  swept_lead old store has s = record {
    printed = swept_lines s.0;
    outs = swept_outs s.0;
    cell = s.1;
    there = ap (λ (x : Store). x.rows) (sym s.3);
    deeds = steps_are clocks (SweepsOnce now) (λ r a b swept own once. sweep_is r clocks now a b swept at own once) q old s.1 s.0 has s.2;
  }

taken_lead : (q : Parts) (clocks : Clocks) (now : ℕ) → clocks.master ≡ now → (old : CellState) (store : Store) (message : Request) (place : ℕ) → HasCell q old → request_at q.told place ≡ Some message
    → is_client_number (request_client message) ≡ true → TakenTo now message old store → Leads q clocks store.rows
taken_lead q clocks now at old store message place has told numbered t =
    let mid : CellState = t.0 in
    let taken = t.1 in
    let is_mid : mid ≡ cell_of mid.master old.store = ap (λ (s : Store). cell_of mid.master s) t.3 in
    let here : Parts = placed q mid taken.outs in
    let first : AreDeeds q clocks taken.lines here = subst (λ (c : CellState). AreDeeds q clocks taken.lines (placed q c taken.outs)) (sym is_mid) (take_is q clocks now at old.store old.master mid.master message taken place has told numbered t.2) in
    let later = swept_lead here clocks now at mid store (placed_has q mid taken.outs) t.4 in
    record {
      printed = taken.lines ++ later.printed;
      outs = taken.outs ++ later.outs;
      cell = later.cell;
      there = later.there;
      deeds =
          subst (λ (u : Parts). AreDeeds q clocks (taken.lines ++ later.printed) u) (placed_again q mid later.cell taken.outs later.outs)
          (deeds_append q here (placed here later.cell later.outs) clocks taken.lines later.printed first later.deeds);
    }

begun_lead : (q : Parts) (clocks : Clocks) (sent : Result Frame WireFault) (old : CellState) (store : Store) → HasCell q old → IsPossibleFrame q sent → IsAtMoment clocks sent → BeginsFrame sent old store
    → Leads q clocks store.rows
begun_lead q clocks (Ok (frames.Message now message)) old store has possible at b = taken_lead q clocks now at old store message possible.0 has possible.1 possible.2 b
begun_lead q clocks (Ok (frames.Tick now)) old store has possible at b = swept_lead q clocks now at old store has b
begun_lead q clocks (Ok (frames.Up now)) old store has possible at b = absurd b
begun_lead q clocks (Ok frames.Down) old store has possible at b = absurd b
begun_lead q clocks (Ok frames.State) old store has possible at b = absurd b
begun_lead q clocks (Err fault) old store has possible at b = absurd b

-- they make no less of the doubt in the store
swept_later : (now : ℕ) (old : CellState) (store : Store) → SweptTo now old store → old.store.doubt ≤ store.doubt
swept_later now old store s =
    let P : Store → Type 0 = λ u. old.store.doubt ≤ u.doubt in
    subst P (sym s.3) (steps_later (SweepsOnce now) (sweep_later now) old s.1 s.0 s.2).doubted

taken_later : (now : ℕ) (message : Request) (old : CellState) (store : Store) → TakenTo now message old store → old.store.doubt ≤ store.doubt
taken_later now message old store t =
    let P : Store → Type 0 = λ u. u.doubt ≤ store.doubt in
    subst P t.3 (swept_later now t.0 store t.4)

begun_later : (sent : Result Frame WireFault) (old : CellState) (store : Store) → BeginsFrame sent old store → old.store.doubt ≤ store.doubt
begun_later (Ok (frames.Message now message)) old store b = taken_later now message old store b
begun_later (Ok (frames.Tick now)) old store b = swept_later now old store b
begun_later (Ok (frames.Up now)) old store b = absurd b
begun_later (Ok frames.Down) old store b = absurd b
begun_later (Ok frames.State) old store b = absurd b
begun_later (Err fault) old store b = absurd b

-- ---- the end

clocks_append : (front back : List Clocks) (first second : List Entry) → AreAtClocks front first → AreAtClocks back second → AreAtClocks (front ++ back) (first ++ second)
clocks_append [] back first second one two =
    let P : List Entry → Type 0 = λ u. AreAtClocks back (u ++ second) in
    subst P (sym one) two
clocks_append (now ∷ front) back first second one two =
    (one.0, one.1 ++ second, ap (λ (u : List Entry). u ++ second) one.2 ∙ append_assoc (at_moment now one.0) one.1 second, clocks_append front back one.1 second one.3 two)

last_clock : (end : Clocks) (deeds : List Deed) → AreAtClocks (end ∷ []) (at_moment end deeds)
last_clock end deeds = (deeds, [], sym (append-nil (at_moment end deeds)), refl)

-- these parts without their master
abbrev gone : Parts → Rows → List Out → Parts
gone p rows outs = record p { rows = rows; master = None; told = p.told ++ map ToClient outs }

goes_so : (p : Parts) (end : Clocks) (cell : CellState) (outs : List Out) → AreDeeds (placed p cell outs) end (lines.Down ∷ []) (gone p cell.store.rows outs)
goes_so p end cell outs = one_deed (placed p cell outs) (gone p cell.store.rows outs) end Goes (lines.Down ∷ []) (record { master = cell.master; up = refl; left = refl; prints = refl })

module _ (p : Parts) (text : Known) (old : Hosted) (store : Store) (cell : CellState) (answers : List Answer) (front : List Clocks) (done : AreDeedsOf p front answers (with_master cell)) where
  abbrev outs : List Out
  outs = answers_outs answers

  abbrev here : Parts
  here = placed p cell outs

  ends_done : (end : Clocks) → cell.store.rows ≡ store.rows → EndsUnheard p (front ++ end ∷ []) store.rows
  ends_done end same =
      let g = goes_so p end cell outs in
      let P : Rows → Type 0 = λ r. History p (done.0.0 ++ at_moment end g.0) (answers_lines answers ++ lines.Down ∷ []) (gone p r outs) in
      record {
        entries = done.0.0 ++ at_moment end g.0;
        printed = answers_lines answers;
        unheard = outs;
        at = clocks_append front (end ∷ []) done.0.0 (at_moment end g.0) done.0.1 (last_clock end g.0);
        does = subst P same (history_append p here (gone p cell.store.rows outs) done.0.0 (at_moment end g.0) (answers_lines answers) (lines.Down ∷ []) done.0.2 g.1);
      }

  ends_begun : (now end : Clocks) → Leads here now store.rows → EndsUnheard p (front ++ now ∷ end ∷ []) store.rows
  ends_begun now end l =
      let all : List Out = outs ++ l.outs in
      let there : Parts = placed p l.cell all in
      let last : Parts = gone p l.cell.store.rows all in
      let g = goes_so p end l.cell all in
      let first : AreDeeds here now l.printed there = subst (λ (u : Parts). AreDeeds here now l.printed u) (placed_again p cell l.cell outs l.outs) l.deeds in
      let later : List Entry = at_moment now first.0 ++ at_moment end g.0 in
      let so : AreAtClocks (now ∷ end ∷ []) later = (first.0, at_moment end g.0, refl, last_clock end g.0) in
      let two : History here later (l.printed ++ lines.Down ∷ []) last = history_append here there last (at_moment now first.0) (at_moment end g.0) l.printed (lines.Down ∷ []) first.1 g.1 in
      let three : History p (done.0.0 ++ later) (answers_lines answers ++ (l.printed ++ lines.Down ∷ [])) last =
      history_append p here last done.0.0 later (answers_lines answers) (l.printed ++ lines.Down ∷ []) done.0.2 two in
      let P : Rows → Type 0 = λ r. History p (done.0.0 ++ later) ((answers_lines answers ++ l.printed) ++ lines.Down ∷ []) (gone p r all) in
      let Q : List Line → Type 0 = λ u. History p (done.0.0 ++ later) u last in
      record {
        entries = done.0.0 ++ later;
        printed = answers_lines answers ++ l.printed;
        unheard = all;
        at = clocks_append front (now ∷ end ∷ []) done.0.0 later done.0.1 so;
        does = subst P l.there (subst Q (sym (append_assoc (answers_lines answers) l.printed (lines.Down ∷ []))) three);
      }

at_clocks : (p : Parts) (clocks all : List Clocks) (rows : Rows) → clocks ≡ all → EndsUnheard p all rows → EndsUnheard p clocks rows
at_clocks p clocks all rows is e = let P : List Clocks → Type 0 = λ u. EndsUnheard p u rows in subst P (sym is) e

stands_end : (p : Parts) (clocks : List Clocks) (text : Known) (old : Hosted) (store : Store) (s : StandsSo p.terms text old store) → IsHostedIn p old → store.doubt ≡ 0 → ComeTo p clocks p.terms text old store s
    → EndsUnheard p clocks store.rows
stands_end p clocks text old store s in_it sure come = by_step s.so come.4
  where
    done : s.cell.store.doubt ≡ 0 → AreDeedsOf p come.0 s.answers (with_master s.cell)
    done early = turns_are p come.0 text old s.answers (with_master s.cell) s.rest s.turns in_it early come.3

    by_step : (so : (store ≡ s.cell.store) ⊎ BeginsNext s.rest s.cell store) → EndAt (placed p s.cell (answers_outs s.answers)) come.1 s.rest s.cell store so → EndsUnheard p clocks store.rows
    by_step (inl same) end =
        at_clocks p clocks (come.0 ++ end.0 ∷ []) store.rows (come.2 ∙ ap (λ (u : List Clocks). come.0 ++ u) end.1)
        (ends_done p text old store s.cell s.answers come.0 (done (ap (λ (u : Store). u.doubt) (sym same) ∙ sure)) end.0 (ap (λ (u : Store). u.rows) (sym same)))
    by_step (inr next) end =
        at_clocks p clocks (come.0 ++ end.0 ∷ end.1 ∷ []) store.rows (come.2 ∙ ap (λ (u : List Clocks). come.0 ++ u) end.2)
        (ends_begun p text old store s.cell s.answers come.0 (done (none_before s.cell.store.doubt store.doubt (begun_later next.sent s.cell store next.begun) sure)) end.0 end.1
        (begun_lead (placed p s.cell (answers_outs s.answers)) end.0 next.sent s.cell store (placed_has p s.cell (answers_outs s.answers)) end.3 end.4 next.begun))

pub lost_groups_are : LostGroupsAreEnds
lost_groups_are p limits text old fault new rows group in_it sure left =
    let terms : GroupTerms = record { master = p.terms; limits = limits } in
    let l : LeftAs terms text old rows = left_as terms text old new fault rows group left in
    let early : l.0.doubt ≡ 0 = l.3 ∙ none_before old.store.doubt new.store.doubt (cut_doubts fault group.pieces old.store new.store group.refused) sure in
    let P : List Clocks → Rows → Type 0 = λ clocks r. EndsUnheard p clocks r in
    (l.0, l.1, l.2, λ clocks come. subst (P clocks) l.2 (stands_end p clocks text old l.0 l.1 in_it early come))
