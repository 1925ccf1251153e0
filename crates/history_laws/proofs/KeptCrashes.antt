-- What viewers are shown of a client that is kept is what the rows hold. Each history with a keeper has two shadows without one: one in which a call that is late wasn't asked for, whose client has
-- the cache that was published last, and one in which it was.
use Rattle.std.proofs.Common.{◌≡◌, ℕ, ◌+◌, ◌-◌, ◌≤◌, List, [], ◌∷◌, ◌++◌, Bool, true, false, cond, map, Option, Some, None, Result, Ok, Err, refl, sym, ap, ◌∙◌, subst, arith, inl, inr, append_assoc}
use Rattle.std.specs.Prelude.{◌≢◌, ◌==◌, nat_lt, length}
use Rattle.std.specs.Option.{option_map}
use Rattle.std.proofs.lemmas.List.{append-nil}
use Rattle.std.proofs.lemmas.Bool.Decides.{nat_tests}
use Rattle.lease_core.specs.Lease.{longest_lease}
use Rattle.node_core.specs.Limits.{number_end}
use Rattle.node_core.specs.declared.lines.Line.{Line}
use Rattle.node_core.specs.declared.refusals.Fault.{Fault}
use Rattle.node_core.specs.declared.refusals.Fault.TheVariants as faults
use Rattle.rows_cell.specs.declared.settings.MasterTerms.{MasterTerms}
use Rattle.rows_cell.specs.declared.tables.Rows.{Rows}
use Rattle.tags_cell.specs.declared.messages.requests.Request.{Request}
use Rattle.tags_cell.specs.declared.messages.outs.Out.{Out}
use Rattle.tags_cell.specs.Messages.{out_client}
use Rattle.cache_core.specs.Caches.{CacheState, answer}
use Rattle.client_core.specs.declared.parts.asks.Ask.{Ask}
use Rattle.client_core.specs.declared.parts.asks.AskOutcome.{AskOutcome}
use Rattle.client_core.specs.declared.parts.steps.Beaten.{Beaten}
use Rattle.client_core.specs.declared.parts.steps.Given.{Given}
use Rattle.client_core.specs.declared.parts.targets.Outstanding.{Outstanding}
use Rattle.client_core.specs.State.{ClientState}
use Rattle.client_core.specs.Asks.{ask_step}
use Rattle.client_core.specs.Beats.{beat_step}
use Rattle.client_core.specs.Gives.{give_step}
use Rattle.world_steps.specs.declared.mail.Message.{Message}
use Rattle.world_steps.specs.declared.mail.Message.TheVariants.{ToMaster}
use Rattle.world_steps.specs.Messages.{out_at}
use Rattle.world_steps.specs.World.{given_lines}
use Rattle.share_cell.specs.declared.keeper.LateAnswer.{LateAnswer}
use Rattle.share_cell.specs.declared.keeper.LateAnswer.TheVariants as kepts
use Rattle.share_cell.specs.Keeping.{KeeperState, Publishes, FallsLate, unless_last, IsShown, Lends}
use Rattle.share_cell.specs.Published.{EndsWith, Shows}
use Rattle.share_cell.specs.Owed.{newest}
use Rattle.share_cell.proofs.Owing.{newest_more}
use Rattle.history_laws.specs.Parts.{Parts, nothing_yet, Deed, FallsComingUp, Goes, Asks, Beats, Hears, with_client, ended_by}
use Rattle.history_laws.specs.Histories.{Clocks, Entry, Does, History, AreFair, begins_life}
use Rattle.history_laws.specs.Kept.{KeptParts, KeptEntry, KeptDeed, KeptHistory, DoesKept, Others, KeeperAsks, KeeperBeats, KeeperHears, Resumes, SendsAgain}
use Rattle.history_laws.specs.Kept.{ResumesBy, handed, asked_tells, beaten_tells, given_tells, late_tells, as_entry, new_keeper, ViewsAnswerTheRows}
use Rattle.coherence.specs.Slice.{IsIn}
use Rattle.rows_cell.specs.declared.tables.Edit.{Edit}
use Rattle.rows_cell.specs.Rows.{changed_rows}
use Rattle.rows_cell.specs.Stores.{Store}
use Rattle.over_core.specs.Sweep.{IsSwept, left_after}
use Rattle.history_laws.specs.Kept.{life_of as life_of_kept}
use Rattle.history_laws.specs.Crashes.{StoredParts, nothing_over, StoredDeed, Done, SweepRefused, UpRefused, DoneBy, DoesStored, StoredEntry, StoredHistory, deed_edits, deed_frees, life_of, as_clocked, crashed_over, entries_then}
use Rattle.history_laws.specs.KeptCrashes.{StoredKept, parts_over, StoredKeptDeed, OthersDo, KeeperDoes, CrashLeaves, AreOthers, is_keepers, DoesStoredKept, StoredKeptEntry, StoredKeptHistory, life_beside, as_beside, ViewsAnswerWhatCrashesLeave}
use Rattle.history_laws.proofs.Crashes.{does_doubts, none_before}
use Rattle.history_laws.proofs.Stored.{Been, been_more, been_crash, been_answers, been_asked, with_store, stood}
use Rattle.history_laws.proofs.Kept.{Among, among_left, among_right, among_either, called_among, Thins, thins_itself, thins_keep, thins_drop, fair_thin, fair_before, shade, Shades, found_out, casts}

-- ---- histories with a keeper

-- entries without a keeper that lead to a shadow of these parts, over the same store
record Shaded (base : Store) (terms : MasterTerms) (number : ℕ) (store : Store) (done : List Entry) (client : ClientState) (more : List Message) (p : Parts) : Type 0 where
  pub entries : List Entry
  pub of : ℕ → Option ClientState
  pub sent : List Message
  pub been : Been base terms entries (with_store (shade p of sent) store)
  pub thins : Thins entries done
  pub shades : Shades number client more p of sent

-- One whose client has the cache that was published last; and one whose client is the keeper's, and whose messages hold that of a call that is late
record Cast (base : Store) (terms : MasterTerms) (number : ℕ) (store : Store) (done : List Entry) (k : KeptParts) : Type 0 where
  pub before : ClientState
  pub shows : EndsWith k.keeper.views before.cache
  pub seen : Shaded base terms number store done before [] k.parts
  pub ahead : Shaded base terms number store done k.keeper.client (late_tells k.keeper.late) k.parts

-- the client goes on to this state, and these messages are handed out
abbrev went : Parts → ℕ → ClientState → List Message → Parts
went p number next out = record p { clients = with_client p.clients number next; told = p.told ++ out }

itself : (n : ℕ) → (n == n) ≡ true
itself n = grind (arith, nat_tests)

with_other : (of : ℕ → Option ClientState) (number : ℕ) (next : ClientState) (n : ℕ) → (n == number) ≡ false → with_client of number next n ≡ of n
with_other of number next n apart = rw apart refl

with_own : (of : ℕ → Option ClientState) (number : ℕ) (next : ClientState) → with_client of number next number ≡ Some next
with_own of number next = rw (itself number) refl

none_more : (m : Message) (xs : List Message) → Among m (xs ++ []) → Among m xs
none_more m xs h = elim (among_either m xs [] h) [ inl a ↦ a | inr a ↦ absurd a ]

-- the cache that was published last is one
one_last : (views : List CacheState) (a b : CacheState) → EndsWith views a → EndsWith views b → a ≡ b
one_last views a b (xs, one) (ys, two) = sym (newest_more xs a) ∙ ap newest (sym one) ∙ ap newest two ∙ newest_more ys b

ends : (views : List CacheState) (c : CacheState) (new : List CacheState) → Shows views c new → EndsWith new c
ends views c new (last, more) = last

-- a client's step isn't taken only after the last number of a view
unless_ok : {X : Type 0} (client next : ClientState) (views : List CacheState) (step : ClientState × Result X Fault) (found : X) → unless_last client views step ≡ (next, Ok found) → step ≡ (next, Ok found)
unless_ok {X} client next views step found h =
    (elim (nat_lt (length views + 1) number_end) as (λ b. cond b step (client, Err faults.Exhausted) ≡ (next, Ok found) → step ≡ (next, Ok found)) [
      | true ↦ (λ k. k)
      | false ↦ (λ k. let e : ◌≡◌ {A = Result X Fault} (Err faults.Exhausted) (Ok found) = ap (λ (p : ClientState × Result X Fault). p.1) k in cc)
    ]) h

by_fault : (fault : Fault) (A : Type 0) → (fault ≢ faults.NoMemory → A) → (fault ≡ faults.NoMemory → A) → A
by_fault faults.NoMemory A other memory = memory refl
by_fault fault A other memory = other (λ e. cc)

-- the message that is sent again
its_call : (o : Option Outstanding) (request : Request) → option_map (λ call. call.request) o ≡ Some request → (call : Outstanding) × (o ≡ Some call) × (call.request ≡ request)
its_call None request h = cc
its_call (Some call) request h = (call, refl, cc)

module _ (base : Store) (terms : MasterTerms) (number : ℕ) (store : Store) (done : List Entry) where
  -- nothing of an entry is seen there
  drops : (client : ClientState) (more : List Message) (p : Parts) (y : Entry) → begins_life y.deed ≡ false → Shaded base terms number store done client more p → Shaded base terms number store (done ++ y ∷ []) client more p
  drops client more p y life s = record {
    entries = s.entries;
    of = s.of;
    sent = s.sent;
    been = s.been;
    thins = thins_drop s.entries done y life s.thins;
    shades = s.shades;
  }

  -- one is refused, which leaves all parts
  refused_on : (client : ClientState) (more : List Message) (p : Parts) (new : StoredParts) (after : Store) (x : StoredEntry) (y : Entry) (printed : List Line) → new ≡ with_store p after → x.clocks ≡ y.clocks → begins_life (life_of x.deed) ≡ begins_life y.deed
      → ((of : ℕ → Option ClientState) (sent : List Message) → DoesStored (with_store (shade p of sent) store) x.clocks x.deed (with_store (shade p of sent) after) printed)
      → Shaded base terms number store done client more p → Shaded base terms number new.store (done ++ y ∷ []) client more new.parts
  refused_on client more p new after x y printed left clocks life does s =
      subst (λ (n : StoredParts). Shaded base terms number n.store (done ++ y ∷ []) client more n.parts) (sym left) (record {
        entries = s.entries ++ as_clocked x ∷ [];
        of = s.of;
        sent = s.sent;
        been = been_more base terms s.entries (with_store (shade p s.of s.sent) store) (with_store (shade p s.of s.sent) after) x printed s.been (does s.of s.sent);
        thins = thins_keep s.entries done (as_clocked x) y clocks life s.thins;
        shades = s.shades;
      })

  others_on : (client : ClientState) (more : List Message) (p : Parts) (new : StoredParts) (clocks : Clocks) (deed : StoredDeed) (printed : List Line) → AreOthers number p.told deed → DoesStored (with_store p store) clocks deed new printed
      → Shaded base terms number store done client more p → Shaded base terms number new.store (done ++ record { clocks = clocks; deed = life_of deed } ∷ []) client more new.parts
  others_on client more p new clocks (Done deed) printed apart d s =
      let c = casts number client more p s.of s.sent s.shades clocks deed printed new.parts apart d.does in
      let x : StoredEntry = record { clocks = clocks; deed = Done c.there } in
      let y : Entry = record { clocks = clocks; deed = deed } in
      let q : Parts = shade p s.of s.sent in
      let stands : IsSwept (deed_frees q clocks.master c.there) (deed_edits q clocks.master c.there) store new.store =
      subst (λ (b : Bool). IsSwept b (deed_edits q clocks.master c.there) store new.store) (sym c.frees)
      (subst (λ (es : List Edit). IsSwept (deed_frees p clocks.master deed) es store new.store) (sym c.edits) d.stands) in
      record {
        entries = s.entries ++ as_clocked x ∷ [];
        of = c.clients;
        sent = c.messages;
        been = been_more base terms s.entries (with_store q store) (with_store (shade new.parts c.clients c.messages) new.store) x printed s.been (record { does = c.does; stands = stands });
        thins = thins_keep s.entries done (as_clocked x) y refl c.life s.thins;
        shades = c.shades;
      }
  others_on client more p new clocks SweepRefused printed apart r s =
      refused_on client more p new r.store (record { clocks = clocks; deed = SweepRefused }) (record { clocks = clocks; deed = Goes }) printed r.left refl refl
      (λ of sent. record { master = r.master; fault = r.fault; store = r.store; up = r.up; why = r.why; left = refl; prints = r.prints }) s
  others_on client more p new clocks UpRefused printed apart r s =
      refused_on client more p new r.store (record { clocks = clocks; deed = UpRefused }) (record { clocks = clocks; deed = FallsComingUp }) printed r.left refl refl
      (λ of sent. record { fault = r.fault; store = r.store; none = r.none; why = r.why; left = refl; prints = r.prints }) s

  -- the rows are those that a crash leaves
  crash_on : (client : ClientState) (more : List Message) (p : Parts) (rows : Rows) (y : Entry) → begins_life y.deed ≡ false → IsIn rows store.may_leave → Shaded base terms number store done client more p
      → Shaded base terms number (crashed_over (with_store p store) rows).store (done ++ y ∷ []) client more (crashed_over (with_store p store) rows).parts
  crash_on client more p rows y life may s = record {
    entries = s.entries;
    of = s.of;
    sent = s.sent;
    been = been_crash base terms s.entries (with_store (shade p s.of s.sent) store) rows s.been may;
    thins = thins_drop s.entries done y life s.thins;
    shades = record { others = s.shades.others; own = s.shades.own; told = s.shades.told };
  }

  -- a step of the kept client, which there tells these messages: some are handed out, and the others wait
  own_on : (client next : ClientState) (p : Parts) (y : Entry) (deed : Deed) (printed : List Line) (out rest tells : List Message) (s : Shaded base terms number store done client [] p) → begins_life y.deed ≡ false → begins_life deed ≡ false → ((m : Message) → Among m (out ++ rest) → Among m tells)
      → Does (shade p s.of s.sent) y.clocks deed (shade p (with_client s.of number next) (s.sent ++ tells)) printed
      → IsSwept (deed_frees (shade p s.of s.sent) y.clocks.master deed) (deed_edits (shade p s.of s.sent) y.clocks.master deed) store store
      → Shaded base terms number store (done ++ y ∷ []) next rest (went p number next out)
  own_on client next p y deed printed out rest tells s life here fit does stands =
      let x : StoredEntry = record { clocks = y.clocks; deed = Done deed } in
      record {
        entries = s.entries ++ as_clocked x ∷ [];
        of = with_client s.of number next;
        sent = s.sent ++ tells;
        been = been_more base terms s.entries (with_store (shade p s.of s.sent) store) (with_store (shade p (with_client s.of number next) (s.sent ++ tells)) store) x printed s.been (record { does = does; stands = stands });
        thins = thins_keep s.entries done (as_clocked x) y refl (here ∙ sym life) s.thins;
        shades = record {
          others = λ n apart. with_other s.of number next n apart ∙ s.shades.others n apart ∙ sym (with_other p.clients number next n apart);
          own = with_own s.of number next;
          told = λ m a. elim (among_either m (p.told ++ out) rest a) [
            | inl b ↦ elim (among_either m p.told out b) [
              | inl c ↦ among_left m s.sent tells (s.shades.told m (among_left m p.told [] c))
              | inr c ↦ among_right m s.sent tells (fit m (among_left m out rest c))
            ]
            | inr b ↦ among_right m s.sent tells (fit m (among_right m out rest b))
          ];
        };
      }

  asks_on : (client next : ClientState) (p : Parts) (y : Entry) (ask : Ask) (asked : AskOutcome) → begins_life y.deed ≡ false → ask_step client (y.clocks.client number) ask ≡ (next, Ok asked)
      → (out rest : List Message) → ((m : Message) → Among m (out ++ rest) → Among m (asked_tells asked)) → Shaded base terms number store done client [] p
      → Shaded base terms number store (done ++ y ∷ []) next rest (went p number next out)
  asks_on client next p y ask asked life step out rest fit s =
      own_on client next p y (Asks number ask) (ended_by asked.lines asked.outcome) out rest (asked_tells asked) s life refl fit
      (record { client = client; next = next; asked = asked; there = s.shades.own; step = step; left = refl; prints = refl }) (stood store)

  beats_on : (client next : ClientState) (p : Parts) (y : Entry) (beaten : Beaten) → begins_life y.deed ≡ false → beat_step client (y.clocks.client number) ≡ (next, Ok beaten)
      → (out rest : List Message) → ((m : Message) → Among m (out ++ rest) → Among m (beaten_tells beaten)) → Shaded base terms number store done client [] p
      → Shaded base terms number store (done ++ y ∷ []) next rest (went p number next out)
  beats_on client next p y beaten life step out rest fit s =
      own_on client next p y (Beats number) beaten.lines out rest (beaten_tells beaten) s life refl fit
      (record { client = client; next = next; beaten = beaten; there = s.shades.own; step = step; left = refl; prints = refl }) (stood store)

  hears_on : (client next : ClientState) (p : Parts) (y : Entry) (at : ℕ) (message : Out) (given : Given) → begins_life y.deed ≡ false → out_at p.told at ≡ Some message → out_client message ≡ number → give_step client (y.clocks.client number) message ≡ (next, Ok given)
      → (out rest : List Message) → ((m : Message) → Among m (out ++ rest) → Among m (given_tells given)) → Shaded base terms number store done client [] p
      → Shaded base terms number store (done ++ y ∷ []) next rest (went p number next out)
  hears_on client next p y at message given life was own step out rest fit s =
      let place = found_out number client [] p s.of s.sent s.shades at message was in
      let there : s.of (out_client message) ≡ Some client = ap s.of own ∙ s.shades.own in
      let step_there : give_step client (y.clocks.client (out_client message)) message ≡ (next, Ok given) = ap (λ n. give_step client (y.clocks.client n) message) own ∙ step in
      let left : shade p (with_client s.of number next) (s.sent ++ []) ≡ shade p (with_client s.of (out_client message) next) s.sent =
      ap (λ n. shade p (with_client s.of n next) (s.sent ++ [])) (sym own) ∙ ap (λ l. shade p (with_client s.of (out_client message) next) l) (append-nil s.sent) in
      own_on client next p y (Hears place.0) (given_lines given.lines given.refused) out rest [] s life refl fit
      (record { out = message; client = client; next = next; given = given; was_told = place.1; there = there; step = step_there; left = left; prints = refl }) (stood store)

  -- where the kept client stays as it is and tells nothing
  apart_of : (p : Parts) (client : ClientState) (n : ℕ) → (n == number) ≡ false → p.clients n ≡ with_client p.clients number client n
  apart_of p client n apart = sym (with_other p.clients number client n apart)

  less_told : (p : Parts) (more : List Message) (m : Message) → Among m ((p.told ++ []) ++ more) → Among m (p.told ++ more)
  less_told p more m a = elim (among_either m (p.told ++ []) more a) [ inl b ↦ among_left m p.told more (none_more m p.told b) | inr b ↦ among_right m p.told more b ]

  -- no message is handed out, and the keeper's client is another
  behind : (client next : ClientState) (more : List Message) (p : Parts) (y : Entry) → begins_life y.deed ≡ false → Shaded base terms number store done client more p → Shaded base terms number store (done ++ y ∷ []) client more (went p number next [])
  behind client next more p y life s =
      let d = drops client more p y life s in
      record {
        entries = d.entries;
        of = d.of;
        sent = d.sent;
        been = d.been;
        thins = d.thins;
        shades = record { others = λ n apart. d.shades.others n apart ∙ apart_of p next n apart; own = d.shades.own; told = λ m a. d.shades.told m (less_told p more m a) };
      }

  abbrev Leads : {X : Type 0} → (X → List Message) → ClientState → ClientState × Result X Fault → Parts → Entry → Type 0
  Leads {X} tells client step p y =
      (next : ClientState) (answer : X) → step ≡ (next, Ok answer) → (out rest : List Message) → ((m : Message) → Among m (out ++ rest) → Among m (tells answer)) → Shaded base terms number store done client [] p
      → Shaded base terms number store (done ++ y ∷ []) next rest (went p number next out)

  keeper_on : {X : Type 0} (keep : X → LateAnswer) (tells : X → List Message) (old new : KeeperState) (result : Result X Fault) (step : ClientState × Result X Fault) (p : Parts) (y : Entry)
      → begins_life y.deed ≡ false → ((answer : X) → late_tells (Some (keep answer)) ≡ tells answer) → old.late ≡ None → Publishes keep old new result (unless_last old.client old.views step) → Leads tells old.client step p y
      → Cast base terms number store done (record { parts = p; keeper = old }) → Cast base terms number store (done ++ y ∷ []) (record { parts = went p number new.client (handed tells result); keeper = new })
  keeper_on keep tells old new (Ok answer) step p y life late on_time (is, none, shows) leads c =
      let ahead : Shaded base terms number store done old.client [] p = subst (λ l. Shaded base terms number store done old.client (late_tells l) p) on_time c.ahead in
      let next = leads new.client answer (unless_ok old.client new.client old.views step answer is) (tells answer) [] (λ m h. none_more m (tells answer) h) ahead in
      record {
        before = new.client;
        shows = ends old.views new.client.cache new.views shows;
        seen = next;
        ahead = subst (λ l. Shaded base terms number store (done ++ y ∷ []) new.client (late_tells l) (went p number new.client (tells answer))) (sym none) next;
      }
  keeper_on {X} keep tells old new (Err fault) step p y life late on_time publishes leads c =
      by_fault fault (Cast base terms number store (done ++ y ∷ []) (record { parts = went p number new.client []; keeper = new }))
      (λ other. stays (publishes.0 other).1)
      (λ memory. elim (publishes.1 memory) [ inl same ↦ stays same | inr falls ↦ falls_late falls ])
    where
      stays : new ≡ old → Cast base terms number store (done ++ y ∷ []) (record { parts = went p number new.client []; keeper = new })
      stays same =
          subst (λ k. Cast base terms number store (done ++ y ∷ []) (record { parts = went p number k.client []; keeper = k })) (sym same) (record {
            before = c.before;
            shows = c.shows;
            seen = behind c.before old.client [] p y life c.seen;
            ahead = behind old.client old.client (late_tells old.late) p y life c.ahead;
          })

      falls_late : FallsLate keep old new (unless_last old.client old.views step) → Cast base terms number store (done ++ y ∷ []) (record { parts = went p number new.client []; keeper = new })
      falls_late (answer, is, kept, views) =
          let ahead : Shaded base terms number store done old.client [] p = subst (λ l. Shaded base terms number store done old.client (late_tells l) p) on_time c.ahead in
          let next = leads new.client answer (unless_ok old.client new.client old.views step answer is) [] (tells answer) (λ m h. h) ahead in
          record {
            before = c.before;
            shows = subst (λ v. EndsWith v c.before.cache) (sym views) c.shows;
            seen = behind c.before new.client [] p y life c.seen;
            ahead = subst (λ l. Shaded base terms number store (done ++ y ∷ []) new.client l (went p number new.client [])) (sym (ap late_tells kept ∙ late answer)) next;
          }

  -- what is shown once an answer that was kept is handed out
  shown_then : (late : Option LateAnswer) (views : List CacheState) (client before : ClientState) (p : Parts) (new : KeeperState) (y : Entry) → begins_life y.deed ≡ false → IsShown late views client.cache new.views → EndsWith views before.cache → Shaded base terms number store done before [] p
      → Shaded base terms number store (done ++ y ∷ []) client [] (went p number client (late_tells late))
      → (b : ClientState) × EndsWith new.views b.cache × Shaded base terms number store (done ++ y ∷ []) b [] (went p number client (late_tells late))
  shown_then None views client before p new y life shown last seen ahead = (before, subst (λ v. EndsWith v before.cache) (sym shown) last, behind before client [] p y life seen)
  shown_then (Some kept) views client before p new y life shown last seen ahead = (client, ends views client.cache new.views shown, ahead)

  resumes_on : (k new : KeptParts) (y : Entry) → begins_life y.deed ≡ false → ResumesBy number k new → Cast base terms number store done k → Cast base terms number store (done ++ y ∷ []) new
  resumes_on k new y life t c =
      let p = k.parts in
      let client = k.keeper.client in
      let tells = late_tells k.keeper.late in
      let d = drops client tells p y life c.ahead in
      let ahead : Shaded base terms number store (done ++ y ∷ []) client [] (went p number client tells) = record {
        entries = d.entries;
        of = d.of;
        sent = d.sent;
        been = d.been;
        thins = d.thins;
        shades = record { others = λ n apart. d.shades.others n apart ∙ apart_of p client n apart; own = d.shades.own; told = λ m a. d.shades.told m (none_more m (p.told ++ tells) a) };
      } in
      let next = shown_then k.keeper.late k.keeper.views client c.before p t.keeper y life t.shown c.shows c.seen ahead in
      let same : went p number client tells ≡ went p number t.keeper.client tells = ap (λ q. went p number q tells) (sym t.client) in
      subst (Cast base terms number store (done ++ y ∷ [])) (sym t.left) (record {
        before = next.0;
        shows = next.1;
        seen = subst (Shaded base terms number store (done ++ y ∷ []) next.0 []) same next.2;
        ahead = subst (λ l. Shaded base terms number store (done ++ y ∷ []) t.keeper.client (late_tells l) (went p number t.keeper.client tells)) (sym t.on_time)
            (subst (λ q. Shaded base terms number store (done ++ y ∷ []) q [] (went p number q tells)) (sym t.client) ahead);
      })

  -- a keeper that isn't late lends its client, whose message was told before
  again_on : (p : Parts) (keeper : KeeperState) (client : ClientState) (request : Request) (y : Entry) → begins_life y.deed ≡ false → terms.lease ≤ longest_lease → AreFair done → store.doubt ≡ 0 → Lends keeper (Some client) → option_map (λ call. call.request) client.outstanding ≡ Some request
      → Cast base terms number store done (record { parts = p; keeper = keeper }) → Cast base terms number store (done ++ y ∷ []) (record { parts = record p { told = p.told ++ ToMaster request ∷ [] }; keeper = keeper })
  again_on p keeper client request y life range fair sure (none, is, last) again c =
      let s : Shaded base terms number store done client [] p = subst (λ l. Shaded base terms number store done client (late_tells l) p) none (subst (λ q. Shaded base terms number store done q (late_tells keeper.late) p) (sym is) c.ahead) in
      let call = its_call client.outstanding request again in
      let asked = been_asked base terms s.entries (with_store (shade p s.of s.sent) store) number client call.0 range s.been (fair_thin s.entries done s.thins fair) sure s.shades.own call.1 in
      let told : Among (ToMaster request) s.sent = subst (λ r. Among (ToMaster r) s.sent) (sym asked.is_call ∙ call.2) (called_among s.sent client.number asked.message.number asked.message asked.found) in
      let next : Shaded base terms number store (done ++ y ∷ []) client [] (record p { told = p.told ++ ToMaster request ∷ [] }) = record {
        entries = s.entries;
        of = s.of;
        sent = s.sent;
        been = s.been;
        thins = thins_drop s.entries done y life s.thins;
        shades = record {
          others = s.shades.others;
          own = s.shades.own;
          told = λ m a. elim (among_either m p.told (ToMaster request ∷ []) (none_more m (p.told ++ ToMaster request ∷ []) a)) [
            | inl b ↦ s.shades.told m (among_left m p.told [] b)
            | inr b ↦ elim b [ inl e ↦ subst (λ x. Among x s.sent) e told | inr never ↦ absurd never ]
          ];
        };
      } in
      record {
        before = client;
        shows = last;
        seen = next;
        ahead = subst (λ l. Shaded base terms number store (done ++ y ∷ []) keeper.client (late_tells l) (record p { told = p.told ++ ToMaster request ∷ [] })) (sym none)
            (subst (λ q. Shaded base terms number store (done ++ y ∷ []) q [] (record p { told = p.told ++ ToMaster request ∷ [] })) is next);
      }

  -- whatever the keeper does
  keeper_does : (k new : KeptParts) (clocks : Clocks) (deed : KeptDeed) → is_keepers deed ≡ true → terms.lease ≤ longest_lease → AreFair done → store.doubt ≡ 0 → DoesKept number k clocks deed new → Cast base terms number store done k
      → Cast base terms number store (done ++ record { clocks = clocks; deed = Goes } ∷ []) new
  keeper_does k new clocks (Others deed) own range fair sure t c = cc
  keeper_does k new clocks (KeeperAsks ask) own range fair sure t c =
      let y : Entry = record { clocks = clocks; deed = Goes } in
      subst (Cast base terms number store (done ++ y ∷ [])) (sym t.left)
      (keeper_on kepts.Asked asked_tells k.keeper t.keeper t.result (ask_step k.keeper.client (clocks.client number) ask) k.parts y refl (λ answer. refl) t.on_time t.publishes
      (λ next answer step out rest fit s. asks_on k.keeper.client next k.parts y ask answer refl step out rest fit s) c)
  keeper_does k new clocks KeeperBeats own range fair sure t c =
      let y : Entry = record { clocks = clocks; deed = Goes } in
      subst (Cast base terms number store (done ++ y ∷ [])) (sym t.left)
      (keeper_on kepts.Beaten beaten_tells k.keeper t.keeper t.result (beat_step k.keeper.client (clocks.client number)) k.parts y refl (λ answer. refl) t.on_time t.publishes
      (λ next answer step out rest fit s. beats_on k.keeper.client next k.parts y answer refl step out rest fit s) c)
  keeper_does k new clocks (KeeperHears at) own range fair sure t c =
      let y : Entry = record { clocks = clocks; deed = Goes } in
      subst (Cast base terms number store (done ++ y ∷ [])) (sym t.left)
      (keeper_on kepts.Given given_tells k.keeper t.keeper t.result (give_step k.keeper.client (clocks.client number) t.out) k.parts y refl (λ answer. refl) t.on_time t.publishes
      (λ next answer step out rest fit s. hears_on k.keeper.client next k.parts y at t.out answer refl t.was_told t.own step out rest fit s) c)
  keeper_does k new clocks Resumes own range fair sure t c = resumes_on k new (record { clocks = clocks; deed = Goes }) refl t c
  keeper_does k new clocks SendsAgain own range fair sure t c =
      let y : Entry = record { clocks = clocks; deed = Goes } in
      subst (Cast base terms number store (done ++ y ∷ [])) (sym t.left) (again_on k.parts k.keeper t.client t.request y refl range fair sure t.lends t.again c)

-- ---- each entry

module _ (base : Store) (terms : MasterTerms) (number : ℕ) (done : List Entry) where
  step_on : (k new : StoredKept) (clocks : Clocks) (deed : StoredKeptDeed) → terms.lease ≤ longest_lease → AreFair done → k.store.doubt ≡ 0 → DoesStoredKept number k clocks deed new → Cast base terms number k.store done k.kept
      → Cast base terms number new.store (done ++ as_beside (record { clocks = clocks; deed = deed }) ∷ []) new.kept
  step_on k new clocks (OthersDo deed) range fair sure t c =
      let y : Entry = record { clocks = clocks; deed = life_of deed } in
      subst (λ (n : StoredKept). Cast base terms number n.store (done ++ y ∷ []) n.kept) (sym t.left) (record {
        before = c.before;
        shows = c.shows;
        seen = others_on base terms number k.store done c.before [] k.kept.parts t.over clocks deed t.printed t.others t.does c.seen;
        ahead = others_on base terms number k.store done k.kept.keeper.client (late_tells k.kept.keeper.late) k.kept.parts t.over clocks deed t.printed t.others t.does c.ahead;
      })
  step_on k new clocks (KeeperDoes deed) range fair sure t c =
      let y : Entry = record { clocks = clocks; deed = Goes } in
      subst (λ (s : Store). Cast base terms number s (done ++ y ∷ []) new.kept) (sym t.store) (keeper_does base terms number k.store done k.kept new.kept clocks deed t.own range fair sure t.does c)
  step_on k new clocks (CrashLeaves rows) range fair sure t c =
      let y : Entry = record { clocks = clocks; deed = Goes } in
      subst (λ (n : StoredKept). Cast base terms number n.store (done ++ y ∷ []) n.kept) (sym t.left) (record {
        before = c.before;
        shows = c.shows;
        seen = crash_on base terms number k.store done c.before [] k.kept.parts rows y refl t.may c.seen;
        ahead = crash_on base terms number k.store done k.kept.keeper.client (late_tells k.kept.keeper.late) k.kept.parts rows y refl t.may c.ahead;
      })

-- the doubt in the store only grows
kept_doubts : (number : ℕ) (k new : StoredKept) (clocks : Clocks) (deed : StoredKeptDeed) → DoesStoredKept number k clocks deed new → k.store.doubt ≤ new.store.doubt
kept_doubts number k new clocks (OthersDo deed) t =
    subst (λ (n : StoredKept). k.store.doubt ≤ n.store.doubt) (sym t.left) (does_doubts (parts_over k) t.over clocks deed t.printed t.does)
kept_doubts number k new clocks (KeeperDoes deed) t = subst (λ (s : Store). k.store.doubt ≤ s.doubt) (sym t.store) (omega arith)
kept_doubts number k new clocks (CrashLeaves rows) t = subst (λ (n : StoredKept). k.store.doubt ≤ n.store.doubt) (sym t.left) (omega arith)

all_doubts : (number : ℕ) (k here : StoredKept) (kept : List StoredKeptEntry) → StoredKeptHistory number k kept here → k.store.doubt ≤ here.store.doubt
all_doubts number k here [] h = subst (λ (n : StoredKept). k.store.doubt ≤ n.store.doubt) (sym h) (omega arith)
all_doubts number k here (e ∷ kept) h =
    let first = kept_doubts number k h.0 e.clocks e.deed h.1 in
    let later = all_doubts number h.0 here kept h.2 in
    omega (arith, first, later)

walk_on : (base : Store) (terms : MasterTerms) (number : ℕ) (done : List Entry) (k here : StoredKept) (rest : List StoredKeptEntry) → terms.lease ≤ longest_lease → AreFair (done ++ map as_beside rest) → here.store.doubt ≡ 0 → StoredKeptHistory number k rest here → Cast base terms number k.store done k.kept
    → Cast base terms number here.store (done ++ map as_beside rest) here.kept
walk_on base terms number done k here [] range fair sure h c =
    subst (λ (l : List Entry). Cast base terms number here.store l here.kept) (sym (append-nil done)) (subst (λ (n : StoredKept). Cast base terms number n.store done n.kept) (sym h) c)
walk_on base terms number done k here (e ∷ rest) range fair sure h c =
    let y = as_beside e in
    let assoc : (done ++ y ∷ []) ++ map as_beside rest ≡ done ++ y ∷ map as_beside rest = append_assoc done (y ∷ []) (map as_beside rest) in
    let undoubted : k.store.doubt ≡ 0 = none_before k.store.doubt here.store.doubt (all_doubts number k here (e ∷ rest) h) sure in
    let next = step_on base terms number done k h.0 e.clocks e.deed range (fair_before done (y ∷ map as_beside rest) fair) undoubted h.1 c in
    subst (λ (l : List Entry). Cast base terms number here.store l here.kept) assoc (walk_on base terms number (done ++ y ∷ []) h.0 here rest range (subst AreFair (sym assoc) fair) sure h.2 next)

pub crashed_views : ViewsAnswerWhatCrashesLeave
crashed_views base terms histories printed begun entries told here number client kept end now shown name entry range crashes h there fresh does fair sure last is =
    let done : List Entry = entries_then histories (map as_clocked entries) in
    let first : Shaded base terms number here.store done client [] here.parts = record {
      entries = done;
      of = here.parts.clients;
      sent = here.parts.told;
      been = record { histories = histories; printed = printed; begun = begun; last = entries; told = told; crashes = crashes; since = h; all = refl };
      thins = thins_itself done;
      shades = record { others = λ n apart. refl; own = there; told = λ m a. none_more m here.parts.told a };
    } in
    let begins : StoredKept = record { kept = record { parts = here.parts; keeper = new_keeper client }; store = here.store } in
    let start : Cast base terms number here.store done begins.kept = record { before = client; shows = ([], ap (λ c. c ∷ []) (sym fresh)); seen = first; ahead = first } in
    let all : List Entry = done ++ map as_beside kept in
    let later : Entry = record { clocks = now; deed = Goes } in
    let c = walk_on base terms number done begins end kept range (fair_before all (later ∷ []) fair) sure does start in
    let s = c.seen in
    let same : shown ≡ c.before.cache = one_last end.kept.keeper.views shown c.before.cache last c.shows in
    let fair_there : AreFair (s.entries ++ later ∷ []) = fair_thin (s.entries ++ later ∷ []) (all ++ later ∷ []) (thins_keep s.entries all later later refl refl s.thins) fair in
    been_answers base terms s.entries (with_store (shade end.kept.parts s.of s.sent) end.store) now number c.before name entry range s.been fair_there sure s.shades.own (ap (λ (x : CacheState). answer x (now.client number) name) (sym same) ∙ is)

-- ---- without a store: over one that refuses nothing

-- after a deed
abbrev after_deed : Parts → ℕ → Deed → Store → Store
after_deed p now deed store =
    let rows : Rows = changed_rows store.rows (deed_edits p now deed) in
    record store { rows = rows; may_leave = left_after (deed_frees p now deed) (deed_edits p now deed) store.may_leave rows }

over_it : (p new : Parts) (clocks : Clocks) (deed : Deed) (printed : List Line) (store : Store) → Does p clocks deed new printed → DoneBy (with_store p store) clocks deed (with_store new (after_deed p clocks.master deed store)) printed
over_it p new clocks deed printed store does = record { does = does; stands = record { cell = refl; rows = refl; leave = refl; counted = refl; doubted = omega arith } }

-- entries as they are over a store
abbrev over_entry : Entry → StoredEntry
over_entry entry = record { clocks = entry.clocks; deed = Done entry.deed }

over_same : (entries : List Entry) → map as_clocked (map over_entry entries) ≡ entries
over_same [] = refl
over_same (entry ∷ entries) = ap (λ (l : List Entry). entry ∷ l) (over_same entries)

record Overs (p : Parts) (store : Store) (entries : List Entry) (printed : List Line) (end : Parts) : Type 0 where
  pub left : Store
  pub history : StoredHistory (with_store p store) (map over_entry entries) printed (with_store end left)
  pub sure : left.doubt ≡ store.doubt

overs : (p : Parts) (store : Store) (entries : List Entry) (printed : List Line) (end : Parts) → History p entries printed end → Overs p store entries printed end
overs p store [] printed end h = record { left = store; history = (h.0, ap (λ (q : Parts). with_store q store) h.1); sure = refl }
overs p store (entry ∷ entries) printed end h =
    let next : Store = after_deed p entry.clocks.master entry.deed store in
    let rest = overs h.0 next entries h.2 end h.4 in
    record { left = rest.left; history = (with_store h.0 next, h.1, h.2, over_it p h.0 entry.clocks entry.deed h.1 store h.3, rest.history, h.5); sure = rest.sure }

abbrev over_kept_deed : KeptDeed → StoredKeptDeed
over_kept_deed (Others deed) = OthersDo (Done deed)
over_kept_deed (KeeperAsks ask) = KeeperDoes (KeeperAsks ask)
over_kept_deed KeeperBeats = KeeperDoes KeeperBeats
over_kept_deed (KeeperHears at) = KeeperDoes (KeeperHears at)
over_kept_deed Resumes = KeeperDoes Resumes
over_kept_deed SendsAgain = KeeperDoes SendsAgain

abbrev over_kept : KeptEntry → StoredKeptEntry
over_kept entry = record { clocks = entry.clocks; deed = over_kept_deed entry.deed }

same_life : (deed : KeptDeed) → life_beside (over_kept_deed deed) ≡ life_of_kept deed
same_life (Others deed) = refl
same_life (KeeperAsks ask) = refl
same_life KeeperBeats = refl
same_life (KeeperHears at) = refl
same_life Resumes = refl
same_life SendsAgain = refl

kept_same : (kept : List KeptEntry) → map as_beside (map over_kept kept) ≡ map as_entry kept
kept_same [] = refl
kept_same (entry ∷ kept) =
    let one : as_beside (over_kept entry) ≡ as_entry entry = ap (λ (d : Deed). let e : Entry = record { clocks = entry.clocks; deed = d } in e) (same_life entry.deed) in
    ap (λ (e : Entry). e ∷ map as_beside (map over_kept kept)) one ∙ ap (λ (l : List Entry). as_entry entry ∷ l) (kept_same kept)

abbrev stored_kept : KeptParts → Store → StoredKept
stored_kept k store = record { kept = k; store = store }

record OverKept (number : ℕ) (k : KeptParts) (store : Store) (kept : List KeptEntry) (here : KeptParts) : Type 0 where
  pub left : Store
  pub history : StoredKeptHistory number (stored_kept k store) (map over_kept kept) (stored_kept here left)
  pub sure : left.doubt ≡ store.doubt

-- one of them
record OneOver (number : ℕ) (k : KeptParts) (store : Store) (clocks : Clocks) (deed : KeptDeed) (new : KeptParts) : Type 0 where
  pub left : Store
  pub does : DoesStoredKept number (stored_kept k store) clocks (over_kept_deed deed) (stored_kept new left)
  pub sure : left.doubt ≡ store.doubt

one_over : (number : ℕ) (k : KeptParts) (store : Store) (clocks : Clocks) (deed : KeptDeed) (new : KeptParts) → DoesKept number k clocks deed new → OneOver number k store clocks deed new
one_over number k store clocks (Others deed) new t =
    let after : Store = after_deed k.parts clocks.master deed store in
    record {
      left = after;
      does = record { printed = t.printed; over = with_store t.parts after; others = t.others; does = over_it k.parts t.parts clocks deed t.printed store t.does; left = ap (λ (q : KeptParts). stored_kept q after) t.left };
      sure = refl;
    }
one_over number k store clocks (KeeperAsks ask) new t = record { left = store; does = record { own = refl; does = t; store = refl }; sure = refl }
one_over number k store clocks KeeperBeats new t = record { left = store; does = record { own = refl; does = t; store = refl }; sure = refl }
one_over number k store clocks (KeeperHears at) new t = record { left = store; does = record { own = refl; does = t; store = refl }; sure = refl }
one_over number k store clocks Resumes new t = record { left = store; does = record { own = refl; does = t; store = refl }; sure = refl }
one_over number k store clocks SendsAgain new t = record { left = store; does = record { own = refl; does = t; store = refl }; sure = refl }

kept_overs : (number : ℕ) (k : KeptParts) (store : Store) (kept : List KeptEntry) (here : KeptParts) → KeptHistory number k kept here → OverKept number k store kept here
kept_overs number k store [] here h = record { left = store; history = ap (λ (q : KeptParts). stored_kept q store) h; sure = refl }
kept_overs number k store (entry ∷ kept) here h =
    let one = one_over number k store entry.clocks entry.deed h.0 h.1 in
    let rest = kept_overs number h.0 one.left kept here h.2 in
    record { left = rest.left; history = (stored_kept h.0 one.left, one.does, rest.history); sure = rest.sure ∙ one.sure }

pub views_answer : ViewsAnswerTheRows
views_answer cell rows terms entries printed begun number client kept here now shown name entry range h there fresh does fair last is =
    let base : Store = record { cell = cell; rows = rows; may_leave = []; refusals = 0; doubt = 0 } in
    let first = overs (nothing_yet cell rows terms) base entries printed begun h in
    let then_kept = kept_overs number (record { parts = begun; keeper = new_keeper client }) first.left kept here does in
    let goes : List Entry = record { clocks = now; deed = Goes } ∷ [] in
    let so : map as_clocked (map over_entry entries) ++ map as_beside (map over_kept kept) ≡ entries ++ map as_entry kept =
    ap (λ (l : List Entry). l ++ map as_beside (map over_kept kept)) (over_same entries) ∙ ap (λ (l : List Entry). entries ++ l) (kept_same kept) in
    crashed_views base terms [] [] (nothing_over base terms) (map over_entry entries) printed (with_store begun first.left) number client (map over_kept kept) (stored_kept here then_kept.left) now shown name entry range
    (refl, refl) first.history there fresh then_kept.history (subst (λ (l : List Entry). AreFair (l ++ goes)) (sym so) fair) (then_kept.sure ∙ first.sure) last is
