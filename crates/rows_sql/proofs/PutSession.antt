-- What the statement makes of the tables that puts a session.
use Rattle.std.proofs.Common.{◌≡◌, ℕ, ℤ, Bool, true, List, [], ◌∷◌, Option, Some, Ok, inl, inr, refl, sym, ap, ap₂, ◌∙◌, subst}
use Rattle.std.specs.BTreeMap.{is_at}
use Rattle.std.specs.Ordering.{nat_cmp}
use Rattle.std.proofs.lemmas.Bool.{and_parts}
use Rattle.std.proofs.lemmas.Cmp.{nat_cmp_total, tied_itself}
use Rattle.std.proofs.lemmas.Map.Lookups.{exact_unsigned}
use Rattle.sqlite_value.specs.declared.value.Value.TheVariants.{Null, Int, Text}
use Rattle.sqlite_value.specs.declared.value.ValueRef.{ValueRef}
use Rattle.sqlite_value.specs.Value.{owned}
use Rattle.sqlite_value.specs.declared.keys.Collation.TheVariants.{Binary}
use Rattle.sqlite_value.specs.Order.{Row, column, value_cmp}
use Rattle.sqlite_value.specs.Keys.{joined}
use Rattle.sqlite_value.proofs.OrderLemmas.{value_cmp_total}
use Rattle.sqlite.specs.Term.{Term, col, lit}
use Rattle.sqlite.specs.Values.{bound, bound_value}
use Rattle.sqlite.specs.Cast.{cast_row}
use Rattle.sqlite.specs.Edit.{id_in}
use Rattle.sqlite.specs.Rowids.TheVariants.{Chosen}
use Rattle.sqlite.specs.Tree.{rowid}
use Rattle.sqlite_schema.specs.declared.schema.Keys.TheVariants.{Enforced}
use Rattle.sqlite_schema.specs.Names.{same_name}
use Rattle.sqlite_schema.specs.Rules.{equal}
use Rattle.sqlite_rules.specs.Action.{works}
use Rattle.sqlite_rules.specs.Edit.{with_rowid}
use Rattle.sqlite_rules.specs.Lists.{Has}
use Rattle.sqlite_rules.proofs.ListLemmas.{all_has}
use Rattle.sqlite_rules.proofs.TableLemmas.{int_is}
use Rattle.sqlite.specs.State.{State, Executes}
use Rattle.names_cell.specs.Text.{is_component}
use Rattle.rows_cell.specs.declared.tables.SessionRow.{SessionRow}
use Rattle.rows_cell.specs.declared.tables.Edit.TheVariants.{PutSession}
use Rattle.rows_sql.specs.OurSchema.{the_schema, sessions}
use Rattle.rows_sql.specs.Decode.{count_of, count_in, live_of, component_in, session_from, session_in}
use Rattle.rows_sql.specs.Ready.{session_shown}
use Rattle.rows_sql.specs.declared.schema.ours.Version.TheVariants.{Third}
use Rattle.rows_sql.specs.WriteTexts.{put_session_text}
use Rattle.rows_sql.specs.WriteCommands.{is}
use Rattle.rows_sql.specs.Numbers.{IsNumber, IsReadAs}
use Rattle.rows_sql.specs.Ongoing.{IsStore, RanInside, Changed}
use Rattle.rows_sql.proofs.WriteMeaning.{put_session_is, put_session_plain}
use Rattle.rows_sql.proofs.Casts.{cast_null, cast_int, int_stays, component_reads}
use Rattle.rows_sql.proofs.Columns.{int_value}
use Rattle.rows_sql.proofs.Clashes.{session_clash}
use Rattle.rows_sql.proofs.Entries.{holds_put}
use Rattle.rows_sql.proofs.Truths.{alone_and, same_some}
use Rattle.rows_sql.proofs.Counts.{equal_counts}
use Rattle.rows_sql.proofs.Runs.{CanPut, PutIn, ran_put}
use Rattle.rows_sql.proofs.Stores.{Rewrote, sessions_say, held_as_shown, shown_as_held}
use Rattle.rows_sql.proofs.Trees.{same_row}
use Rattle.rows_sql.proofs.Upserts as upserts

abbrev values : List Term
values = col 0 0 ∷ lit Null ∷ col 0 1 ∷ col 0 2 ∷ []

abbrev terms : List Term
terms = is (col 1 0) (col 0 3) ∷ []

abbrev project : List Term
project = col 1 0 ∷ col 1 0 ∷ lit Null ∷ col 0 6 ∷ col 0 7 ∷ []

no_action : (olds : List Row) (n : Row) → works the_schema Enforced 0 4 olds (n ∷ []) ≡ []
unfolding same_name joined
no_action olds n = refl

nor_none : works the_schema Enforced 0 4 [] [] ≡ []
unfolding same_name joined
nor_none = refl

-- the client that a row says
pub client_said : (o : Option ℕ) (b : Option Bool) (p : Option (List ℕ)) (e : ℕ × SessionRow) → session_from o b p ≡ Some e → o ≡ Some e.0
client_said (Some client) (Some live) (Some principal) e is = ap (λ (x : ℕ × SessionRow). Some x.0) (same_some is)
client_said _ _ _ e is = absurd cc

module _ (c : ℤ) (p : List ℕ) (l : ℤ) where
  abbrev params : Row
  params = Int c ∷ Text p ∷ Int l ∷ []

  abbrev new : Row
  new = Int c ∷ Null ∷ Text p ∷ Int l ∷ []

  abbrev becomes : Row → Row
  becomes r = column r 0 ∷ Null ∷ Text p ∷ Int l ∷ []

  fits : cast_row sessions new ≡ new
  fits = λ j. cast_int c j ∷ cast_null j ∷ Text p ∷ cast_int l j ∷ []

  module _ (old new_state : State) (store : IsStore old.now) where
    abbrev es : List Row
    es = old.now.trees 4

    abbrev clash : Row → Bool
    clash = upserts.clash old.step_limit sessions params old.now.trees values 4 new new (0 ∷ []) terms project refl

    int_at : (r : Row) → Has es r → rowid r ≡ Int (id_in (rowid r))
    int_at r there = int_is (rowid r) (all_has _ es r store.sessions.1 there)

    id_of : (r : Row) → Has es r → clash r ≡ true → rowid r ≡ Int c
    id_of r there t = int_value (rowid r) c (int_at r there) (and_parts _ _ (sym (session_clash new r) ∙ t)).0

    how : CanPut 2 sessions refl put_session_text terms project params old new_state refl values 4 new new (0 ∷ []) becomes
    how = record {
      shaped = store.sessions;
      uncounted = refl;
      sources = λ rows e. e;
      numbered = ap (with_rowid Chosen es) fits;
      fits = fits;
      keyed = refl;
      one = λ a b ha hb ta tb. same_row es a b store.sessions.0 ha hb (ap₂ value_cmp (id_of a ha ta) (id_of b hb tb) ∙ tied_itself value_cmp_total (Int c));
      finds = λ r0 r. refl;
      shows_it = λ r0 r there t. refl;
      same_id = λ r. refl;
      stays = λ r there t. λ j. int_stays (column r 0) (int_at r there) j ∷ cast_null j ∷ Text p ∷ cast_int l j ∷ [];
      alone = no_action;
      idle = nor_none;
    }

    tested : (client : ℕ) → count_of c ≡ Some client → (r : Row) → Has es r → (e : ℕ × SessionRow) → session_in (session_shown r) ≡ Some e → clash r ≡ is_at (nat_cmp client) e.0
    tested client counted r there e says =
        session_clash new r ∙ alone_and _ ∙ ap (λ v. equal Binary v (Int c)) (int_at r there)
        ∙ equal_counts (id_in (rowid r)) c e.0 client (client_said (count_in (column r 0)) (live_of (id_in (column r 3))) (component_in (column r 2)) e says) counted

    session_put : (count : ℕ) → Executes put_session_text params old new_state (Ok count)
        → PutIn 2 sessions refl put_session_text terms project params old new_state refl values 4 new new (0 ∷ []) becomes × Rewrote 4 (new_state.now.trees 4) old.now new_state.now
    session_put count ran = ran_put 2 sessions refl put_session_text terms project params old new_state refl values 4 new new (0 ∷ []) put_session_is put_session_plain becomes store how count ran

pub session_there : (client : ℕ) (session : SessionRow) (c p l : ValueRef) → bound_value (owned p) ≡ Text session.principal → is_component session.principal ≡ true → IsNumber c client → IsReadAs live_of l session.live
    → (old new : State) → RanInside put_session_text (bound (c ∷ p ∷ l ∷ [])) old new → Changed (PutSession client session ∷ []) old new
session_there client session c p l is_text named nc nl old new run =
    let row : bound (c ∷ p ∷ l ∷ []) ≡ Int nc.0 ∷ Text session.principal ∷ Int nl.0 ∷ [] = λ j. bound_value (owned (nc.1 j)) ∷ is_text j ∷ bound_value (owned (nl.1 j)) ∷ [] in
    let r = subst (λ x. RanInside put_session_text x old new) row run in
    let text = session.principal in
    let said_by : session_from (count_of nc.0) (live_of nl.0) (component_in (Text text)) ≡ Some (client, session) = λ j. session_from (nc.2 j) (nl.2 j) (component_reads text named j) in
    record {
      store = λ store. (session_put nc.0 text nl.0 old new store r.count r.ran).1.store;
      says = λ store rows said.
          let es = old.now.trees 4 in
          let done = session_put nc.0 text nl.0 old new store r.count r.ran in
          let put = done.0 in
          let goes = clash nc.0 text nl.0 old new store in
          let says_it : session_in (session_shown put.last) ≡ Some (client, session) = elim put.was [
            | inl none ↦ ap (λ (x : Row). session_in (session_shown x)) none.1 ∙ said_by
            | inr one ↦
                let k = id_of nc.0 text nl.0 old new store one.0 one.1 one.2 in
                ap (λ (x : Row). session_in (session_shown x)) one.3 ∙ ap (λ v. session_in (v ∷ Text text ∷ Int nl.0 ∷ [])) k ∙ said_by
          ] in
          sessions_say old.now new.now (new.now.trees 4) Third rows [] said done.1 _
          (shown_as_held nat_cmp session_in session_shown (new.now.trees 4) _
          (holds_put nat_cmp nat_cmp_total (λ x. session_in (session_shown x)) es rows.sessions (held_as_shown nat_cmp session_in session_shown es rows.sessions said.sessions) client goes
          (tested nc.0 text nl.0 old new store client nc.2)
          exact_unsigned put.last session (new.now.trees 4) says_it put.rows));
    }
