-- What the tables say once a number of the cell was set.
use Rattle.std.proofs.Common.{◌≡◌, ℕ, ◌+◌, ◌-◌, ℤ, pos, None, arith, Bool, true, false, not, ◌&&◌, List, [], ◌∷◌, map, Option, Some, refl, sym, ap, ◌∙◌, cond, subst}
use Rattle.std.specs.FinMap.{int_cmp-IsAntisymmetric}
use Rattle.std.specs.Ordering.{int_eq}
use Rattle.std.specs.Prelude.{nat_lt}
use Rattle.std.proofs.lemmas.Bool.{cases_Bool}
use Rattle.std.proofs.lemmas.Bool.Decides.{nat_tests}
use Rattle.std.proofs.Common.{inl, inr}
use Rattle.sqlite_value.specs.declared.value.Value.TheVariants.{Int}
use Rattle.sqlite_value.specs.declared.value.ValueRef.{ValueRef}
use Rattle.sqlite_value.specs.Order.{Row, column}
use Rattle.sqlite.specs.Values.{bound}
use Rattle.sqlite.specs.Edit.{id_in}
use Rattle.sqlite.specs.Effect.{Database}
use Rattle.sqlite.specs.State.{State}
use Rattle.sqlite.specs.Term.{Term}
use Rattle.sqlite_trees.proofs.ListLemmas.{map-map}
use Rattle.sqlite_rules.specs.Lists.{Has}
use Rattle.rows_cell.specs.declared.tables.Edit.TheVariants.{Epoch, NextInstance, EndedBelow}
use Rattle.rows_sql.specs.declared.reading.stored.Meta.{Meta}
use Rattle.rows_sql.specs.declared.schema.ours.Version.{Version}
use Rattle.rows_sql.specs.declared.schema.ours.Version.TheVariants.{First, Unindexed, Second, Third}
use Rattle.rows_sql.specs.Versions.{number_of, IsEarlier}
use Rattle.rows_sql.specs.Decode.{count_in, secret_in, component_in, meta_from, above_third, ended_of, meta_as}
use Rattle.rows_sql.specs.Held.{meta_of}
use Rattle.rows_sql.specs.Ready.{meta_shown}
use Rattle.rows_sql.specs.WriteTexts.{set_epoch_text, set_next_instance_text, set_ended_below_text}
use Rattle.rows_sql.specs.Numbers.{IsNumber}
use Rattle.rows_sql.specs.Carrying.{set_version_text, SetsVersion}
use Rattle.rows_sql.specs.Ongoing.{IsStore, RanInside, Changed}
use Rattle.rows_sql.proofs.Query.{passes}
use Rattle.rows_sql.proofs.Trees.{renewed}
use Rattle.rows_sql.proofs.Truths.{equal_is}
use Rattle.rows_sql.proofs.Stores.{metas_say, meta_rows}
use Rattle.rows_sql.proofs.SetNumbers.{terms, next_terms, epoch_project, next_project, ended_project, version_project, params, with_epoch, with_next, with_ended, with_version, goes_is, next_goes_is, set_epoch_done, set_next_done, set_ended_done, set_version_done}

one_mapped : {A B : Type 0} (f : A → B) (xs : List A) (y : B) → map f xs ≡ y ∷ [] → (x : A) × (xs ≡ x ∷ []) × (f x ≡ y)
one_mapped f [] y e = absurd cc
one_mapped f (x ∷ []) y e = (x, refl, let is : f x ≡ y = cc in is)
one_mapped f (x ∷ z ∷ xs) y e = absurd cc

-- what a row of the cell says
abbrev said_of : ℕ → ℕ → ℕ → List ℕ → List ℕ → Meta
said_of ended_below epoch next_instance secret cell = record { cell = cell; secret = secret; epoch = epoch; next_instance = next_instance; ended_below = ended_below }

epoch_from : (b : Bool) (e o p : Option ℕ) (s c : Option (List ℕ)) (m : Meta) (n : ℕ) → meta_from b e o p s c ≡ Some m → (b ≡ true) × (meta_from b e (Some n) p s c ≡ Some (record m { epoch = n }))
epoch_from true (Some z) (Some x) (Some y) (Some s) (Some c) m n h = (refl, let is : said_of z x y s c ≡ m = cc in ap (λ (k : Meta). Some (record k { epoch = n })) is)
epoch_from _ _ _ _ _ _ m n h = absurd cc

next_from : (b : Bool) (e o p : Option ℕ) (s c : Option (List ℕ)) (m : Meta) (n : ℕ) → meta_from b e o p s c ≡ Some m → (b ≡ true) × (meta_from b e o (Some n) s c ≡ Some (record m { next_instance = n }))
next_from true (Some z) (Some x) (Some y) (Some s) (Some c) m n h = (refl, let is : said_of z x y s c ≡ m = cc in ap (λ (k : Meta). Some (record k { next_instance = n })) is)
next_from _ _ _ _ _ _ m n h = absurd cc

next_same : (b : Bool) (e o p : Option ℕ) (s c : Option (List ℕ)) (m : Meta) (n : ℕ) → p ≡ Some n → meta_from b e o p s c ≡ Some m → m ≡ record m { next_instance = n }
next_same true (Some z) (Some x) (Some y) (Some s) (Some c) m n said h =
    let is : said_of z x y s c ≡ m = cc in
    let same : y ≡ n = cc in
    sym is ∙ ap (λ k. said_of z x k s c) same ∙ ap (λ (k : Meta). record k { next_instance = n }) is
next_same _ _ _ _ _ _ m n said h = absurd cc

ended_from : (b : Bool) (e o p : Option ℕ) (s c : Option (List ℕ)) (m : Meta) (n : ℕ) → meta_from b e o p s c ≡ Some m → (b ≡ true) × (meta_from b (Some n) o p s c ≡ Some (record m { ended_below = n }))
ended_from true (Some z) (Some x) (Some y) (Some s) (Some c) m n h = (refl, let is : said_of z x y s c ≡ m = cc in ap (λ (k : Meta). Some (record k { ended_below = n })) is)
ended_from _ _ _ _ _ _ m n h = absurd cc

not_less : (n : ℕ) → nat_lt (n + 3) 3 ≡ false
not_less n = grind (arith, nat_tests)

less_three : (n : ℕ) → n + 3 - 3 ≡ n
less_three n = omega arith

above_is : (n : ℕ) → above_third (Some (n + 3)) ≡ Some n
above_is n = ap (λ b. cond b None (Some (n + 3 - 3))) (not_less n) ∙ ap (λ m. Some m) (less_three n)

-- versions before say that no session is forgotten
one_or_none : (b : Bool) (n : ℕ) → cond b (Some 0) None ≡ Some n → n ≡ 0
one_or_none true n h = cc
one_or_none false n h = absurd cc

earlier_none : (version : Version) → IsEarlier version → (z : ℤ) (n : ℕ) → ended_of version z ≡ Some n → n ≡ 0
earlier_none First earlier z n h = one_or_none (int_eq z (number_of First)) n h
earlier_none Unindexed earlier z n h = one_or_none (int_eq z (number_of Unindexed)) n h
earlier_none Second earlier z n h = one_or_none (int_eq z (number_of Second)) n h
earlier_none Third earlier z n h = absurd earlier

says_it : (a e : Bool) → a ≡ true → (a && not e) ≡ false → e ≡ true
says_it true true h none = refl
says_it true false h none = absurd cc
says_it false e h none = absurd cc

version_from : (b : Bool) (e o p : Option ℕ) (s k : Option (List ℕ)) (m : Meta) (n : ℕ) → ((z : ℕ) → e ≡ Some z → z ≡ 0) → meta_from b e o p s k ≡ Some m → (b ≡ true) × (meta_from b (Some 0) (Some n) p s k ≡ Some (record m { epoch = n }))
version_from true (Some z) (Some x) (Some y) (Some s) (Some c) m n none h =
    let is : said_of z x y s c ≡ m = cc in
    (refl, ap (λ w. Some (said_of w n y s c)) (sym (none z refl)) ∙ ap (λ (k : Meta). Some (record k { epoch = n })) is)
version_from _ _ _ _ _ _ m n none h = absurd cc

-- it is the row of the cell, and these sessions have ended by it
abbrev is_row : Row → Bool
is_row r = int_eq (id_in (column r 0)) (pos 1)

abbrev ended_in : Version → Row → Option ℕ
ended_in version r = ended_of version (id_in (column r 2))

-- the row says the cell's numbers, and is the one that is set
module _ (old : Database) (store : IsStore old) (before now : Version) (n : ℤ) (project : List Term) (becomes : Row → Row) (m after : Meta) where
  set_says : ((r : Row) → Has (old.trees 0) r → meta_as before (meta_shown r) ≡ Some m → (is_row r ≡ true) × (meta_as now (meta_shown (becomes r)) ≡ Some after)) → map (meta_as before) (map meta_shown (old.trees 0)) ≡ Some m ∷ []
      → map (meta_as now) (map meta_shown (map (renewed (passes 0 terms project (params n)) becomes) (old.trees 0))) ≡ Some after ∷ []
  set_says changes said =
      let one = one_mapped (λ r. meta_as before (meta_shown r)) (old.trees 0) (Some m) (sym (map-map (meta_as before) meta_shown (old.trees 0)) ∙ said) in
      let there : Has (old.trees 0) one.0 = subst (λ xs. Has xs one.0) (sym one.1) (inl refl) in
      let became = changes one.0 there one.2 in
      let goes : passes 0 terms project (params n) one.0 ≡ true = goes_is n old store project one.0 there ∙ became.0 in
      ap (λ xs. map (meta_as now) (map meta_shown (map (renewed (passes 0 terms project (params n)) becomes) xs))) one.1
      ∙ ap (λ b. meta_as now (meta_shown (cond b (becomes one.0) one.0)) ∷ []) goes ∙ ap (λ o. o ∷ []) became.1

-- the row says the next instance, or is the one that is set
module _ (old : Database) (store : IsStore old) (n : ℤ) (m after : Meta) where
  abbrev goes : Row → Bool
  goes = passes 0 next_terms next_project (params n)

  next_says : ((r : Row) → Has (old.trees 0) r → meta_as Third (meta_shown r) ≡ Some m → (is_row r ≡ true) × (meta_as Third (meta_shown (with_next n r)) ≡ Some after))
      → ((r : Row) → meta_as Third (meta_shown r) ≡ Some m → column r 6 ≡ Int n → m ≡ after)
      → map (meta_as Third) (map meta_shown (old.trees 0)) ≡ Some m ∷ []
      → map (meta_as Third) (map meta_shown (map (renewed goes (with_next n)) (old.trees 0))) ≡ Some after ∷ []
  next_says changes stays said =
      let one = one_mapped (λ r. meta_as Third (meta_shown r)) (old.trees 0) (Some m) (sym (map-map (meta_as Third) meta_shown (old.trees 0)) ∙ said) in
      let there : Has (old.trees 0) one.0 = subst (λ xs. Has xs one.0) (sym one.1) (inl refl) in
      let became = changes one.0 there one.2 in
      let found = became.0 in
      let either : meta_as Third (meta_shown (renewed goes (with_next n) one.0)) ≡ Some after = elim (cases_Bool (goes one.0)) [
        | inl t ↦ ap (λ b. meta_as Third (meta_shown (cond b (with_next n one.0) one.0))) t ∙ became.1
        | inr f ↦
            let same = says_it _ _ found (sym (next_goes_is n old store next_project one.0 there) ∙ f) in
            let is : column one.0 6 ≡ Int n = (meta_rows old store one.0 there).next_instance ∙ ap Int (int_cmp-IsAntisymmetric _ _ (equal_is _ same)) in
            ap (λ b. meta_as Third (meta_shown (cond b (with_next n one.0) one.0))) f ∙ one.2 ∙ ap (λ k. Some k) (stays one.0 one.2 is)
      ] in
      ap (λ xs. map (meta_as Third) (map meta_shown (map (renewed goes (with_next n)) xs))) one.1 ∙ ap (λ o. o ∷ []) either

pub epoch_done : (v : ValueRef) (n : ℕ) → IsNumber v n → (old new : State) → RanInside set_epoch_text (bound (v ∷ [])) old new → Changed (Epoch n ∷ []) old new
epoch_done v n is old new run =
    let e = is.0 in
    let r = rw is.1 at run in
    let done = λ (store : IsStore old.now). set_epoch_done e old new r.count store r.ran in
    record {
      store = λ store. (done store).store;
      says = λ store rows h. metas_say old.now new.now _ Third rows [] h (done store) Third (record rows { epoch = n }) refl refl refl
          (set_says old.now store Third Third e epoch_project (with_epoch e) (meta_of rows) (record (meta_of rows) { epoch = n })
          (λ x there said.
          let s = epoch_from (is_row x) (ended_in Third x) (count_in (column x 5)) (count_in (column x 6)) (secret_in (column x 4)) (component_in (column x 3)) (meta_of rows) n said in
          (s.0, ap (λ o. meta_from (is_row x) (ended_in Third x) o (count_in (column x 6)) (secret_in (column x 4)) (component_in (column x 3))) is.2 ∙ s.1))
          h.meta);
    }

pub next_done : (v : ValueRef) (n : ℕ) → IsNumber v n → (old new : State) → RanInside set_next_instance_text (bound (v ∷ [])) old new → Changed (NextInstance n ∷ []) old new
next_done v n is old new run =
    let e = is.0 in
    let r = rw is.1 at run in
    let done = λ (store : IsStore old.now). set_next_done e old new r.count store r.ran in
    record {
      store = λ store. (done store).store;
      says = λ store rows h. metas_say old.now new.now _ Third rows [] h (done store) Third (record rows { next_instance = n }) refl refl refl
          (next_says old.now store e (meta_of rows) (record (meta_of rows) { next_instance = n })
          (λ x there said.
          let s = next_from (is_row x) (ended_in Third x) (count_in (column x 5)) (count_in (column x 6)) (secret_in (column x 4)) (component_in (column x 3)) (meta_of rows) n said in
          (s.0, ap (λ o. meta_from (is_row x) (ended_in Third x) (count_in (column x 5)) o (secret_in (column x 4)) (component_in (column x 3))) is.2 ∙ s.1))
          (λ x said same. next_same (is_row x) (ended_in Third x) (count_in (column x 5)) (count_in (column x 6)) (secret_in (column x 4)) (component_in (column x 3)) (meta_of rows) n (ap count_in same ∙ is.2) said)
          h.meta);
    }

pub ended_done : (v : ValueRef) (n : ℕ) → IsNumber v (n + 3) → (old new : State) → RanInside set_ended_below_text (bound (v ∷ [])) old new → Changed (EndedBelow n ∷ []) old new
ended_done v n is old new run =
    let e = is.0 in
    let r = rw is.1 at run in
    let done = λ (store : IsStore old.now). set_ended_done e old new r.count store r.ran in
    record {
      store = λ store. (done store).store;
      says = λ store rows h. metas_say old.now new.now _ Third rows [] h (done store) Third (record rows { ended_below = n }) refl refl refl
          (set_says old.now store Third Third e ended_project (with_ended e) (meta_of rows) (record (meta_of rows) { ended_below = n })
          (λ x there said.
          let s = ended_from (is_row x) (ended_in Third x) (count_in (column x 5)) (count_in (column x 6)) (secret_in (column x 4)) (component_in (column x 3)) (meta_of rows) n said in
          (s.0, ap (λ o. meta_from (is_row x) o (count_in (column x 5)) (count_in (column x 6)) (secret_in (column x 4)) (component_in (column x 3))) (ap above_third is.2 ∙ above_is n) ∙ s.1))
          h.meta);
    }

pub version_done : (v : ValueRef) (n : ℕ) → IsNumber v n → (old new : State) → RanInside set_version_text (bound (v ∷ [])) old new → SetsVersion n old new
version_done v n is old new run =
    let e = is.0 in
    let r = rw is.1 at run in
    let done = λ (store : IsStore old.now). set_version_done e old new r.count store r.ran in
    record {
      store = λ store. (done store).store;
      says = λ store version earlier rows h. metas_say old.now new.now _ version rows [] h (done store) Third (record rows { epoch = n }) refl refl refl
          (set_says old.now store version Third e version_project (with_version e) (meta_of rows) (record (meta_of rows) { epoch = n })
          (λ x there said.
          let s = version_from (is_row x) (ended_in version x) (count_in (column x 5)) (count_in (column x 6)) (secret_in (column x 4)) (component_in (column x 3)) (meta_of rows) n (λ z is_z. earlier_none version earlier (id_in (column x 2)) z is_z) said in
          (s.0, ap (λ o. meta_from (is_row x) (Some 0) o (count_in (column x 6)) (secret_in (column x 4)) (component_in (column x 3))) is.2 ∙ s.1))
          h.meta);
    }
