-- What was done over a store, from what its calls say.
use Rattle.std.proofs.Common.{◌≡◌, ◌≤◌, inl, inr, ℕ, List, [], ◌∷◌, Option, Result, Ok, Err, refl, sym, ap, subst, ◌∙◌, arith}
use Rattle.std.specs.Prelude.{IfOk}
use Rattle.sqlite_disk.specs.declared.Disk.{Ghosts}
use Rattle.sqlite_disk.specs.declared.Files.{Files}
use Rattle.sqlite_wal.specs.Reads.{AreClean}
use Rattle.sqlite_wal.specs.Recovery.{Image}
use Rattle.sqlite_trees.specs.View.{doubt}
use Rattle.sqlite.specs.State.{State, HasCleanDisk}
use Rattle.sqlite.specs.Start.{FindsIn}
use Rattle.rows_cell.specs.declared.settings.MasterTerms.{MasterTerms}
use Rattle.rows_cell.specs.declared.tables.Rows.{Rows}
use Rattle.rows_cell.specs.Settings.{Settled}
use Rattle.rows_cell.specs.Stores.{Store}
use Rattle.world_steps.specs.World.{WorldView, IsUndoubted, opened, store_in}
use Rattle.scripts.specs.Ran.{EndsWith, EndsWell, EndsSurely}
use Rattle.hosting.specs.declared.seats.HostedMaster.{HostedMaster}
use Rattle.hosting.specs.declared.seats.HostedMaster.TheVariants.{Down}
use Rattle.hosting.specs.Seats.{Hosted, hosted, without_master}
use Rattle.hosting.specs.declared.stops.StreamStop.TheVariants.{NoMemory}
use Rattle.hosting.specs.declared.stops.GroupStop.{GroupStop}
use Rattle.hosting.specs.declared.stops.GroupStop.TheVariants.{Stopped}
use Rattle.hosting.specs.Groups.{EndsGroups}
use Rattle.hosting.specs.declared.pieces.GroupLimits.{GroupLimits}
use Rattle.hosting.specs.declared.pieces.GroupTerms.{GroupTerms}
use Rattle.hosting.proofs.Doubts.{ends_groups_grow}
use Rattle.hosting.proofs.Grouped.{ends_roomless as roomless}
use Rattle.rows_remote.specs.Asking.{Framed, IsOpened}
use Rattle.rows_sql.specs.Adopting.{Adopts}
use Rattle.rows_sql.specs.Closed.{StandsAlone}
use Rattle.cellctl.specs.Led.{Known, LedOn, ScriptLeads, ScriptLeadsSurely, served_status, group_terms, EndsServing, FramesLead, EndsFrames, EndsAnyFrames, EndsSomeFrames, EndsLed}
use Rattle.cellctl.specs.Taken.{IsLease, IsAdopted, TakesAt, IsTakenFrom, IsOpenedIn}
use Rattle.cellctl.specs.Closed.{taken, DoneOver, DoneAt}

-- ---- a store that was taken over

pub as_taken : (settings : Settled) (s : Store) → s.cell ≡ settings.cell → s.may_leave ≡ s.rows ∷ [] → s.refusals ≡ 0 → s.doubt ≡ 0 → s ≡ taken settings s.rows
as_taken settings s cell left none sure =
    subst (λ x. s ≡ record { cell = settings.cell; rows = s.rows; may_leave = s.rows ∷ []; refusals = 0; doubt = x }) sure
    (subst (λ x. s ≡ record { cell = settings.cell; rows = s.rows; may_leave = s.rows ∷ []; refusals = x; doubt = s.doubt }) none
    (subst (λ x. s ≡ record { cell = settings.cell; rows = s.rows; may_leave = x; refusals = s.refusals; doubt = s.doubt }) left
    (subst (λ x. s ≡ record { cell = x; rows = s.rows; may_leave = s.may_leave; refusals = s.refusals; doubt = s.doubt }) cell refl)))

-- what a connection is taken over as is what its files are taken over as
pub taken_at : (settings : Settled) (had : State) (held : Image) (rows : Rows) → FindsIn held had → Adopts settings had rows → TakesAt settings held rows
taken_at settings had held rows found adopts = record { had = had.committed; holds = found.holds; reads = found.reads; listed = adopts.has.listed; takes = adopts.takes }

pub taken_from : (settings : Settled) (had : State) (held : Image) (first : Store) → (HasCleanDisk had → FindsIn held had) → IsAdopted settings had first → IsTakenFrom settings held first
taken_from settings had held first finds is = record {
  fresh = is.fresh;
  takes = λ sure. taken_at settings had held first.rows (finds (omega (arith, is.doubted, sure))) (is.adopts sure);
}

-- and what leads from the one leads from the other
pub led_at : (settings : Settled) (had : State) (held : Image) (Leads : Store → Store → Type 0) → (HasCleanDisk had → FindsIn held had) → LedOn (IsAdopted settings had) Leads → LedOn (IsTakenFrom settings held) Leads
led_at settings had held Leads finds led = (led.0, led.1, taken_from settings had held led.0 finds led.2, led.3)

pub ok_led_at : {X E : Type 0} (settings : Settled) (had : State) (held : Image) (Leads : ℕ → Store → Store → Type 0) (r : Result (ℕ × X) E) → (HasCleanDisk had → FindsIn held had) → IfOk r (λ x. LedOn (IsAdopted settings had) (Leads x.0))
    → IfOk r (λ x. LedOn (IsTakenFrom settings held) (Leads x.0))
ok_led_at settings had held Leads (Ok x) finds led = led_at settings had held (Leads x.0) finds led
ok_led_at settings had held Leads (Err e) finds led = tt

-- ---- a store that was closed

pub done_over : {D : Type 0} (g : Ghosts D) (settings : Settled) (had : State) (files : Files D) (Leads : Store → Store → Type 0) (first last : Store) → IsAdopted settings had first
    → (last.doubt ≡ 0 → (first.doubt ≡ 0) × Leads first last) → (last.doubt ≡ 0) × StandsAlone g files last.rows → DoneOver g settings had Leads files
done_over g settings had files Leads first last is led stands =
    let end = led stands.0 in
    record {
      clean = omega (arith, is.doubted, end.0);
      first = first.rows;
      last = last;
      adopts = is.adopts end.0;
      led = subst (λ s. Leads s last) (as_taken settings first is.fresh.cell is.fresh.left is.fresh.none end.0) end.1;
      stands = stands.1;
    }

pub done_at : {D : Type 0} (g : Ghosts D) (settings : Settled) (had : State) (held : Image) (files : Files D) (Leads : Store → Store → Type 0) → (HasCleanDisk had → FindsIn held had)
    → DoneOver g settings had Leads files → DoneAt g settings held Leads files
done_at g settings had held files Leads finds done =
    let found = finds done.clean in
    record {
      first = done.first;
      last = done.last;
      takes = taken_at settings had held done.first found done.adopts;
      led = done.led;
      stands = done.stands;
    }

pub closed_at : {D X : Type 0} (g : Ghosts D) (settings : Settled) (had : State) (held : Image) (Leads : ℕ → Store → Store → Type 0) (r : Result (ℕ × Files D) X) → (HasCleanDisk had → FindsIn held had)
    → IfOk r (λ x. AreClean g x.1.log x.1.db → DoneOver g settings had (Leads x.0) x.1) → IfOk r (λ x. AreClean g x.1.log x.1.db → DoneAt g settings held (Leads x.0) x.1)
closed_at g settings had held Leads (Ok x) finds done = λ clean. done_at g settings had held x.1 (Leads x.0) finds (done clean)
closed_at g settings had held Leads (Err e) finds done = tt

-- ---- a script

module _ (terms : MasterTerms) (text before after : Known) (status : ℕ) (first last : Store) (old new : WorldView) (opens : old ≡ opened first terms) (closes : last ≡ store_in new) where
  pub script_led : EndsWith status (EndsWell text old new) before after → ScriptLeads terms text before after status first last
  script_led ran = (new, subst (λ w. EndsWith status (EndsWell text w new) before after) opens ran, closes)

  pub script_led_surely : (IsUndoubted new → IsUndoubted old × EndsWith status (EndsSurely text old new) before after) → last.doubt ≡ 0
      → (first.doubt ≡ 0) × ScriptLeadsSurely terms text before after status first last
  script_led_surely ran sure =
      let end = ran (sym (ap (λ (s : Store). s.doubt) closes) ∙ sure) in
      (sym (ap (λ (w : WorldView). w.doubt) opens) ∙ end.0, (new, subst (λ w. EndsWith status (EndsSurely text w new) before after) opens end.1, closes))

-- ---- frames

abbrev pub served_terms : GroupLimits → MasterTerms → GroupTerms
served_terms limits terms = record { master = terms; limits = limits }

pub same_terms : (limits : GroupLimits) (given terms : MasterTerms) → given ≡ terms → served_terms limits given ≡ served_terms limits terms
same_terms limits given terms same = ap (served_terms limits) same

pub ends_serving : (terms given : GroupTerms) (text there before after : Known) (status : ℕ) (ended : Result (Unit {0}) GroupStop) (old new : Hosted) → given ≡ terms → there ≡ text → status ≡ served_status ended
    → EndsGroups given there old ended new before after → EndsServing terms text before after status old new
ends_serving terms given text there before after status ended old new moment same is e =
    (ended, is, subst (λ l. EndsGroups l text old ended new before after) moment (subst (λ u. EndsGroups given u old ended new before after) same e))

-- before the first, for want of memory
pub ends_roomless : (terms : GroupTerms) (text before : Known) (old : Hosted) → EndsServing terms text before before 4 old old
ends_roomless terms text before old = (Err (Stopped NoMemory), refl, roomless terms text old before)

module _ (terms : GroupTerms) (text before after : Known) (status : ℕ) (first last : Store) (old new : Hosted) (opens : old ≡ without_master first) (closes : last ≡ new.store)
    (served : EndsServing terms text before after status old new) where
  pub frames_led : FramesLead terms text before after status first last
  frames_led = (new, subst (λ h. EndsServing terms text before after status h new) opens served, closes)

  pub frames_led_surely : last.doubt ≡ 0 → (first.doubt ≡ 0) × FramesLead terms text before after status first last
  frames_led_surely sure =
      let grown = ends_groups_grow terms text old served.0 new before after served.2 in
      let from : old.store.doubt ≡ first.doubt = ap (λ (h : Hosted). h.store.doubt) opens in
      let to : last.doubt ≡ new.store.doubt = ap (λ (s : Store). s.doubt) closes in
      (omega (arith, grown, from, to, sure), frames_led)

-- over rows that nobody closes
pub frames_ended : {R : Type 0} (store : R → Store) (Begins : Store → Type 0) (terms : GroupTerms) (text before after : Known) (status : ℕ) (records : R) (seat : HostedMaster R) → Begins (store records)
    → EndsServing terms text before after status (hosted store (Down records)) (hosted store seat) → EndsFrames Begins terms text status before after
frames_ended store Begins terms text before after status records seat begins served =
    let new = hosted store seat in
    inl (store records, new.store, begins, frames_led terms text before after status (store records) new.store (hosted store (Down records)) new refl refl served)

-- the rows of two pipes
pub opened_in : (asked answered : Known) (settings : Settled) (cell : List ℕ) (framed : Framed) → cell ≡ settings.cell → IsOpened cell asked answered framed → IsOpenedIn asked answered settings framed.store
opened_in asked answered settings cell framed same opened = (framed, subst (λ c. IsOpened c asked answered framed) same opened, refl)

pub any_frames : {E : Type 0} (Begins : Settled → Store → Type 0) (settings : Settled) (limits : GroupLimits) (text before after : Known) (r : Result ℕ E) → IsLease settings.lease
    → IfOk r (λ status. EndsFrames (Begins settings) (group_terms limits settings) text status before after) → IfOk r (λ status. EndsAnyFrames Begins limits text status before after)
any_frames Begins settings limits text before after (Ok status) lease p = inl (settings, lease, p)
any_frames Begins settings limits text before after (Err e) lease p = tt

-- where it may begin with more stores
led_more : (A B : Store → Type 0) (Leads : Store → Store → Type 0) → ((first : Store) → A first → B first) → LedOn A Leads → LedOn B Leads
led_more A B Leads gives led = (led.0, led.1, gives led.0 led.2, led.3)

ends_more : (A B : Store → Type 0) (Leads : ℕ → Store → Store → Type 0) (status : ℕ) (before after : Known) → ((first : Store) → A first → B first) → EndsLed A Leads status before after → EndsLed B Leads status before after
ends_more A B Leads status before after gives (inl led) = inl (led_more A B (Leads status) gives led)
ends_more A B Leads status before after gives (inr (shut, inl led)) = inr (shut, inl (led.0, led_more A B (Leads led.0) gives led.1))
ends_more A B Leads status before after gives (inr (shut, inr same)) = inr (shut, inr same)

pub some_frames : {E : Type 0} (A B : Settled → Store → Type 0) (limits : GroupLimits) (text before after : Known) (r : Result ℕ E) → ((settings : Settled) (first : Store) → A settings first → B settings first)
    → IfOk r (λ status. EndsAnyFrames A limits text status before after) → IfOk r (λ status. EndsSomeFrames B text status before after)
some_frames A B limits text before after (Ok status) gives (inl p) =
    (limits, inl (p.0, p.1, ends_more (A p.0) (B p.0) (FramesLead (group_terms limits p.0) text before after) status before after (gives p.0) p.2))
some_frames A B limits text before after (Ok status) gives (inr p) = (limits, inr p)
some_frames A B limits text before after (Err e) gives p = tt
