-- What the reads show, and that they change nothing.
use Rattle.std.specs.Prelude.{IsTrue, Bool, is_ok}
use Rattle.std.proofs.Common.{true≢false, ◌≡◌, ◌⊎◌, inl, inr, ℕ, map, List, [], ◌∷◌, Ok, Err, Result, IfErr, IfOk, OnOk, false, refl, sym, ap, ◌∙◌, subst}
use Rattle.std.specs.List.{flat_map}
use Rattle.std.specs.List.Sorted.{IsPermutation}
use Rattle.std.proofs.lemmas.List.Sorted.{IsPermutation-map}
use Rattle.sqlite_value.specs.declared.value.Value.TheVariants.{Null}
use Rattle.sqlite_value.specs.declared.keys.Key.{Key}
use Rattle.sqlite_value.specs.Order.{Row}
use Rattle.sqlite.specs.Term.{Term, eval_all}
use Rattle.sqlite.specs.Query.{IsAnswer, output, Output}
use Rattle.sqlite.specs.Program.{overlay}
use Rattle.sqlite.specs.Tree.{Trees}
use Rattle.sqlite.specs.Effect.{Database, Answers}
use Rattle.sqlite.specs.Listing.{understood}
use Rattle.sqlite.specs.Given.{IsPlain}
use Rattle.sqlite.specs.declared.error.Error.{Error}
use Rattle.sqlite.specs.State.{State, HasCleanDisk, IsUnchanged, IsRolledBack, Survives, Shown, ShowsRows, FailsToShow, FailsToQuery, IsNotRun, CommitsShowing}
use Rattle.sqlite.specs.Clock.{timed}
use Rattle.sqlite.proofs.Callers.{reads_as, never_commits}
use Rattle.sqlite_trees.proofs.ListLemmas.{map-map}
use Rattle.rows_sql.specs.declared.schema.ours.Version.{Version}
use Rattle.rows_sql.specs.Versions.{schema_of, HasFifth}
use Rattle.rows_sql.specs.Texts.{read_meta_text, read_nodes_text, read_sessions_text, read_locks_text, read_children_text}
use Rattle.rows_sql.specs.Commands.{over, meta_terms, nodes_terms, sessions_terms, locks_terms, children_terms, read_meta_command, read_nodes_command, read_sessions_command, read_locks_command, read_children_command}
use Rattle.sqlite_trees.specs.declared.store.Store.{Ghosts}
use Rattle.sqlite.specs.Held.{Held, state}
use Rattle.std.proofs.Common.{arith}
use Rattle.rows_sql.specs.Ready.{IsReadyAs, Rests, QuietAs, IsStillAs, meta_shown, node_shown, session_shown, lock_shown, child_shown, children_shown}
use Rattle.rows_sql.proofs.Meaning.{read_meta_is, read_meta_plain, read_meta_unlisted, read_nodes_is, read_nodes_plain, read_nodes_unlisted, read_sessions_is, read_sessions_plain, read_sessions_unlisted, read_locks_is, read_locks_plain, read_locks_unlisted, read_children_is, read_children_plain, read_children_unlisted}

module _ (table : ℕ) (project : List Term) (order : List (Term × Key)) (params : Row) where
  abbrev shows : Row → Row
  shows r = eval_all project (params ∷ r ∷ [])

  matched : (es : List Row) → flat_map (λ r. (params ∷ r ∷ []) ∷ []) es ≡ map (λ r. params ∷ r ∷ []) es
  matched [] = refl
  matched (r ∷ es) = ap (λ l. (params ∷ r ∷ []) ∷ l) (matched es)

  -- a read of a whole table, in an order
  pub read_whole : (db : Database) (rows : List Row) → overlay db.trees [] table ≡ db.trees table
      → Answers db (record { lets = []; body = record (over table [] project) { order = order } }) params rows → IsPermutation (map shows (db.trees table)) rows
  read_whole db rows plainly h =
      let q = record (over table [] project) { order = order } in
      let a : IsAnswer q (overlay db.trees []) params rows = h.answer Null in
      let staged = a.grouped ∙ ap (flat_map (λ r. (params ∷ r ∷ []) ∷ [])) plainly ∙ matched (db.trees table) in
      let kept = a.distinct ∙ ap (map (output q)) staged in
      let shown : rows ≡ map (λ (o : Output). o.1) a.ordered = a.shown in
      let moved = IsPermutation-map (λ (o : Output). o.1) a.kept a.ordered a.same in
      let front : map (λ (o : Output). o.1) a.kept ≡ map shows (db.trees table) = ap (map (λ (o : Output). o.1)) kept ∙ map-map (λ (o : Output). o.1) (output q) _ ∙ map-map (λ e. (output q e).1) (λ (r : Row). params ∷ r ∷ []) (db.trees table) in
      subst (λ xs. IsPermutation xs rows) front (subst (IsPermutation (map (λ (o : Output). o.1) a.kept)) (sym shown) moved)

module _ (version : Version) (sql : List ℕ) (old new : State) (has : old.now.schema ≡ schema_of version) (plain : IsPlain (understood (schema_of version) sql)) where
  pub shown_rests : (rows : List Row) → Shown sql [] old new rows → IsUnchanged old new
  unfolding Shown
  shown_rests rows h =
      let known = sym h.1.is ∙ ap (λ s. understood s sql) has in
      let bare = subst IsPlain (sym known) plain in
      (subst (ShowsRows old new sql h.0 (timed [] h.0.formats h.1.now) rows) bare.0 h.2).3

  pub failed_rests : (e : Error) → FailsToQuery sql [] old new e → IsUnchanged old new ⊎ IsRolledBack old new
  unfolding FailsToQuery IsNotRun
  failed_rests e (inl (inl h)) = inl h.1
  failed_rests e (inl (inr h)) = inr h.3
  failed_rests e (inr h) =
      let known = sym h.1.is ∙ ap (λ s. understood s sql) has in
      let bare = subst IsPlain (sym known) plain in
      inl (subst (FailsToShow old new sql h.0 (timed [] h.0.formats h.1.now) e) bare.0 h.2).3

  pub commits_none : Survives old new (CommitsShowing sql [] old) → Survives old new (λ _. ⊥)
  commits_none s = record {
    clean = s.clean;
    shield = s.shield;
    counts = s.counts;
    limit = s.limit;
    closes = s.closes;
    crash = λ clean db left. elim (s.crash clean db left) [ inl before ↦ inl before | inr wrote ↦ absurd (never_commits sql [] old db (subst (λ t. IsPlain (understood t sql)) (sym has) plain) wrote) ];
  }

pub unchanged_rests : (old new : State) → IsUnchanged old new → Rests old new
unchanged_rests old new h is_open = (h.0.was_open, h.0.now_is, h.0.committed_is)

pub rolled_rests : (version : Version) (old new : State) → IsReadyAs version old → IsRolledBack old new → Rests old new
rolled_rests version old new ready h is_open =
    let was = h.was_open is_open in
    let back = h.undone is_open in
    (was, back.0 ∙ ready.settled was, back.1)

pub either_rests : (version : Version) (old new : State) → IsReadyAs version old → IsUnchanged old new ⊎ IsRolledBack old new → Rests old new
either_rests version old new ready (inl h) = unchanged_rests old new h
either_rests version old new ready (inr h) = rolled_rests version old new ready h

-- the outcome of a read that is plain
pub read_rests : (version : Version) (sql : List ℕ) (old new : State) → IsPlain (understood (schema_of version) sql) → IsReadyAs version old → {X : Type 0} (rows : X → List Row) (r : Result X Error)
    → IfOk r (λ x. Shown sql [] old new (rows x)) → IfErr r (FailsToQuery sql [] old new) → Rests old new
read_rests version sql old new plain ready rows (Ok x) ok err = unchanged_rests old new (shown_rests version sql old new ready.ours plain (rows x) ok)
read_rests version sql old new plain ready rows (Err e) ok err = either_rests version old new ready (failed_rests version sql old new ready.ours plain e err)

pub read_ready : (version : Version) (sql : List ℕ) (old new : State) → IsPlain (understood (schema_of version) sql) → IsReadyAs version old → {X : Type 0} (rows : X → List Row) (r : Result X Error)
    → IfOk r (λ x. Shown sql [] old new (rows x)) → OnOk r (IsStillAs version old new)
read_ready version sql old new plain ready rows (Ok x) ok =
    let u = shown_rests version sql old new ready.ours plain (rows x) ok in
    record {
      ready = record { ours = ap (λ (d : Database). d.schema) u.0.now_is ∙ ready.ours; settled = λ _. u.0.committed_is ∙ ready.settled u.0.was_open ∙ sym u.0.now_is };
      now_is = u.0.now_is;
      is_open = u.0.is_open;
    }
read_ready version sql old new plain ready rows (Err e) ok = tt

module _ (version : Version) (old new : State) (has : old.now.schema ≡ schema_of version) (rows : List Row) where
  pub metas_read : Shown read_meta_text [] old new rows → IsPermutation (map meta_shown (old.now.trees 0)) rows
  metas_read h = read_whole 0 meta_terms _ [] old.now rows refl (reads_as read_meta_text [] old new (schema_of version) has read_meta_command (read_meta_is version) (read_meta_plain version) (read_meta_unlisted version) rows h)

  pub nodes_read : Shown read_nodes_text [] old new rows → IsPermutation (map node_shown (old.now.trees 1)) rows
  nodes_read h = read_whole 1 nodes_terms _ [] old.now rows refl (reads_as read_nodes_text [] old new (schema_of version) has read_nodes_command (read_nodes_is version) (read_nodes_plain version) (read_nodes_unlisted version) rows h)

  pub sessions_read : Shown read_sessions_text [] old new rows → IsPermutation (map session_shown (old.now.trees 4)) rows
  sessions_read h = read_whole 4 sessions_terms _ [] old.now rows refl (reads_as read_sessions_text [] old new (schema_of version) has read_sessions_command (read_sessions_is version) (read_sessions_plain version) (read_sessions_unlisted version) rows h)

  pub locks_read : Shown read_locks_text [] old new rows → IsPermutation (map lock_shown (old.now.trees 5)) rows
  locks_read h = read_whole 5 locks_terms _ [] old.now rows refl (reads_as read_locks_text [] old new (schema_of version) has read_locks_command (read_locks_is version) (read_locks_plain version) (read_locks_unlisted version) rows h)

children_shown_is : (version : Version) (db : Trees) → HasFifth version → map child_shown (db 7) ≡ children_shown version db
children_shown_is version db (inl e) = ap (λ v. children_shown v db) (sym e)
children_shown_is version db (inr e) = ap (λ v. children_shown v db) (sym e)

pub children_read : (version : Version) → HasFifth version → (old new : State) → old.now.schema ≡ schema_of version → (rows : List Row) → Shown read_children_text [] old new rows → IsPermutation (children_shown version old.now.trees) rows
children_read version fifth old new has rows h =
    subst (λ shown. IsPermutation shown rows) (children_shown_is version old.now.trees fifth)
    (read_whole 7 children_terms _ [] old.now rows refl (reads_as read_children_text [] old new (schema_of version) has read_children_command (read_children_is version fifth) (read_children_plain version fifth) (read_children_unlisted version fifth) rows h))

pub rests_then : (a b c : State) → Rests a b → Rests b c → Rests a c
rests_then a b c p q is_open =
    let v = q is_open in
    let u = p v.0 in
    (u.0, v.1 ∙ u.1, v.2 ∙ u.2)

module _ (version : Version) {S : Type 0} (g : Ghosts S) where
  pub quiet_from : (sql : List ℕ) (a b : Held S) → IsPlain (understood (schema_of version) sql) → (a.in_transaction ≡ false → b.in_transaction ≡ false) → Survives (state g a) (state g b) (CommitsShowing sql [] (state g a))
      → (HasCleanDisk (state g b) → IsReadyAs version (state g a) → Rests (state g a) (state g b)) → QuietAs version g a b
  quiet_from sql a b plain idle s rests = record {
    idle = idle;
    clean = s.clean;
    rests = rests;
    crash = λ clean ready db left. elim ((commits_none version sql (state g a) (state g b) ready.ours plain s).crash clean db left) [ inl before ↦ before | inr never ↦ absurd never ];
  }

  pub quiet_then : (a b c : Held S) → QuietAs version g a b → (HasCleanDisk (state g b) → IsReadyAs version (state g a) → IsReadyAs version (state g b)) → QuietAs version g b c → QuietAs version g a c
  quiet_then a b c p ready q = record {
    idle = λ i. q.idle (p.idle i);
    clean = omega (arith, p.clean, q.clean);
    rests = λ clean at. let mid : HasCleanDisk (state g b) = omega (arith, q.clean, clean) in rests_then (state g a) (state g b) (state g c) (p.rests mid at) (q.rests clean (ready mid at));
    crash = λ clean at db left. let mid : HasCleanDisk (state g b) = omega (arith, q.clean, clean) in p.crash mid at db (q.crash clean (ready mid at) db left);
  }

pub on_ok : {X : Type 0} (r : Result X Error) (P Q : X → Type 0) → ((x : X) → P x → Q x) → IfOk r P → IfOk r Q
on_ok (Ok x) P Q f h = f x h
on_ok (Err e) P Q f h = tt

pub quiet_same : (version : Version) {S : Type 0} (g : Ghosts S) (a : Held S) → QuietAs version g a a
quiet_same version g a = record { idle = λ i. i; clean = omega arith; rests = λ clean ready o. (o, refl, refl); crash = λ clean ready db left. left }

-- ---- reads one behind the other

-- it was looked at, and is as before where that went well
pub record Seen (version : Version) {S : Type 0} (g : Ghosts S) (a b : Held S) : Type 0 where
  pub quiet : QuietAs version g a b
  pub still : HasCleanDisk (state g b) → IsReadyAs version (state g a) → IsStillAs version (state g a) (state g b)

module _ (version : Version) {S : Type 0} (g : Ghosts S) (a b d : Held S) (p : Seen version g a b) where
  pub quiet_more : QuietAs version g b d → QuietAs version g a d
  quiet_more q = quiet_then version g a b d p.quiet (λ clean ready. (p.still clean ready).ready) q

  pub seen_more : QuietAs version g b d → (HasCleanDisk (state g d) → IsReadyAs version (state g b) → IsTrue (state g b).is_open → IsStillAs version (state g b) (state g d)) → Seen version g a d
  seen_more q still = record {
    quiet = quiet_more q;
    still = λ clean ready.
        let before : HasCleanDisk (state g b) = omega (arith, q.clean, clean) in
        let first = p.still before ready in
        let second = still clean first.ready first.is_open in
        record { ready = second.ready; now_is = second.now_is ∙ first.now_is; is_open = second.is_open };
  }

pub when_ok : {X : Type 0} (r : Result X Error) (b : Bool) {P : Type 0} → b ≡ is_ok r → IsTrue b → OnOk r P → P
when_ok (Ok x) b is h p = p
when_ok (Err e) b is h p = absurd (true≢false (sym h ∙ is))
