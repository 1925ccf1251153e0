-- A schema that passes field by field is that of a store.
use Rattle.std.proofs.Common.{◌≡◌, ◌≢◌, ◌↔◌, ℕ, suc, Bool, true, false, ◌==◌, List, [], ◌∷◌, length, Option, Some, None, refl, sym, ap, ◌∙◌, subst, arith, codes, true≢false, IsTrue, Result, Ok, Err, IfOk}
use Rattle.std.specs.Prelude.{bytes_eq, slice_get, not, ◌&&◌, is_some}
use Rattle.std.specs.Option.{option_map_or}
use Rattle.std.proofs.lemmas.Slice.Eq.{bytes_eq-Decides}
use Rattle.std.proofs.lemmas.Bool.Decides.{nat_tests}
use Rattle.sqlite_value.specs.declared.value.Value.{Value}
use Rattle.sqlite_value.specs.declared.value.Value.TheVariants as value
use Rattle.sqlite_value.specs.declared.keys.Collation.{Collation}
use Rattle.sqlite_value.specs.declared.keys.Collation.TheVariants as collation
use Rattle.sqlite_value.specs.declared.keys.Order.{Order}
use Rattle.sqlite_value.specs.Keys.{plain}
use Rattle.sqlite_schema.specs.declared.schema.Kind.{Kind}
use Rattle.sqlite_schema.specs.declared.schema.Kind.TheVariants as kind
use Rattle.sqlite_schema.specs.declared.schema.Action.{Action}
use Rattle.sqlite_schema.specs.declared.schema.Action.TheVariants as action
use Rattle.sqlite_schema.specs.declared.schema.Column.{Column}
use Rattle.sqlite_schema.specs.declared.schema.Reference.{Reference}
use Rattle.sqlite_schema.specs.declared.schema.Index.{Index}
use Rattle.sqlite_schema.specs.declared.schema.Table.{Table}
use Rattle.sqlite_schema.specs.declared.schema.View.{View}
use Rattle.sqlite_schema.specs.declared.schema.Schema.{Schema}
use Rattle.rows_sql.specs.declared.schema.ours.Version.{Version}
use Rattle.rows_sql.specs.declared.schema.ours.Version.TheVariants.{First, Unindexed, Second, Third}
use Rattle.rows_sql.specs.Versions.{schema_of}
use Rattle.rows_sql.specs.OurSchema.{needed, meta, nodes, sessions, locks, children, of_node, by_child, children_text, the_children, first_schema, unindexed_schema, second_schema, the_schema}
use Rattle.rows_sql.specs.Fields.{same_kind, is_nothing, is_binary, is_needed, has_meta_columns, has_node_columns, has_session_columns, has_lock_columns, has_child_columns, is_key_of, has_orders, is_plain, has_key, is_only_name, is_cascade, is_no_action, is_to_node, is_bound, is_bare, is_meta, is_nodes, is_sessions, is_locks, is_children, is_over, is_index, is_by_child, has_key_indexes, has_four_indexes, has_indexes, has_four, has_fifth, is_the_children, has_the_children, is_first, is_unindexed, is_second, is_ours}

both : (a b : Bool) → (a && b) ≡ true → (a ≡ true) × (b ≡ true)
both true b h = (refl, h)
both false b h = absurd (true≢false (sym h))

neither : (b : Bool) → not b ≡ true → b ≡ false
neither true h = absurd (true≢false (sym h))
neither false h = refl

kind_is : (j k : Kind) → same_kind j k ≡ true → j ≡ k
kind_is kind.Integer kind.Integer h = refl
kind_is kind.Text kind.Text h = refl
kind_is kind.Blob kind.Blob h = refl
kind_is kind.Integer kind.Real h = absurd (true≢false (sym h))
kind_is kind.Integer kind.Text h = absurd (true≢false (sym h))
kind_is kind.Integer kind.Blob h = absurd (true≢false (sym h))
kind_is kind.Integer kind.Any h = absurd (true≢false (sym h))
kind_is kind.Real kind.Integer h = absurd (true≢false (sym h))
kind_is kind.Real kind.Real h = absurd (true≢false (sym h))
kind_is kind.Real kind.Text h = absurd (true≢false (sym h))
kind_is kind.Real kind.Blob h = absurd (true≢false (sym h))
kind_is kind.Real kind.Any h = absurd (true≢false (sym h))
kind_is kind.Text kind.Integer h = absurd (true≢false (sym h))
kind_is kind.Text kind.Real h = absurd (true≢false (sym h))
kind_is kind.Text kind.Blob h = absurd (true≢false (sym h))
kind_is kind.Text kind.Any h = absurd (true≢false (sym h))
kind_is kind.Blob kind.Integer h = absurd (true≢false (sym h))
kind_is kind.Blob kind.Real h = absurd (true≢false (sym h))
kind_is kind.Blob kind.Text h = absurd (true≢false (sym h))
kind_is kind.Blob kind.Any h = absurd (true≢false (sym h))
kind_is kind.Any kind.Integer h = absurd (true≢false (sym h))
kind_is kind.Any kind.Real h = absurd (true≢false (sym h))
kind_is kind.Any kind.Text h = absurd (true≢false (sym h))
kind_is kind.Any kind.Blob h = absurd (true≢false (sym h))
kind_is kind.Any kind.Any h = absurd (true≢false (sym h))

nothing_is : (v : Value) → is_nothing v ≡ true → v ≡ value.Null
nothing_is value.Null h = refl
nothing_is (value.Int n) h = absurd (true≢false (sym h))
nothing_is (value.Real n) h = absurd (true≢false (sym h))
nothing_is (value.Text n) h = absurd (true≢false (sym h))
nothing_is (value.Blob n) h = absurd (true≢false (sym h))

binary_is : (v : Collation) → is_binary v ≡ true → v ≡ collation.Binary
binary_is collation.Binary h = refl
binary_is collation.NoCase h = absurd (true≢false (sym h))
binary_is collation.RTrim h = absurd (true≢false (sym h))

needed_is : (name : List ℕ) (kind : Kind) (c : Column) → is_needed name kind c ≡ true → c ≡ needed name kind
needed_is name kind c h =
    let a = both _ _ h in
    let b = both _ _ a.1 in
    let d = both _ _ b.1 in
    let e = both _ _ d.1 in
    let f = both _ _ e.1 in
    let n = (bytes_eq-Decides c.name name).0 a.0 in
    let k = kind_is c.kind kind b.0 in
    let v = nothing_is c.default f.0 in
    let w = binary_is c.collation f.1 in
    λ i. record { name = n i; kind = k i; is_strict = d.0 i; not_null = e.0 i; default = v i; collation = w i }

empty_is : {X : Type 0} (xs : List X) → (length xs == 0) ≡ true → xs ≡ []
empty_is [] h = refl
empty_is (x ∷ xs) h = absurd (never_zero (length xs) h)
  where
    never_zero : (n : ℕ) → (suc n == 0) ≡ true → ⊥
    never_zero n h = grind (arith, nat_tests)

number_is : (a b : ℕ) → (a == b) ≡ true → a ≡ b
number_is a b h = grind (arith, nat_tests)

exactly_1 : {X : Type 0} (xs : List X) → length xs ≡ 1 → (x0 : X) × (xs ≡ x0 ∷ [])
exactly_1 (x0 ∷ []) l = (x0, refl)
exactly_1 [] l = absurd (omega (arith, l))
exactly_1 (x0 ∷ y ∷ more) l = absurd (omega (arith, l))

exactly_2 : {X : Type 0} (xs : List X) → length xs ≡ 2 → (x0 : X) × (x1 : X) × (xs ≡ x0 ∷ x1 ∷ [])
exactly_2 (x0 ∷ x1 ∷ []) l = (x0, x1, refl)
exactly_2 [] l = absurd (omega (arith, l))
exactly_2 (x0 ∷ []) l = absurd (omega (arith, l))
exactly_2 (x0 ∷ x1 ∷ y ∷ more) l = absurd (omega (arith, l))

exactly_3 : {X : Type 0} (xs : List X) → length xs ≡ 3 → (x0 : X) × (x1 : X) × (x2 : X) × (xs ≡ x0 ∷ x1 ∷ x2 ∷ [])
exactly_3 (x0 ∷ x1 ∷ x2 ∷ []) l = (x0, x1, x2, refl)
exactly_3 [] l = absurd (omega (arith, l))
exactly_3 (x0 ∷ []) l = absurd (omega (arith, l))
exactly_3 (x0 ∷ x1 ∷ []) l = absurd (omega (arith, l))
exactly_3 (x0 ∷ x1 ∷ x2 ∷ y ∷ more) l = absurd (omega (arith, l))

exactly_4 : {X : Type 0} (xs : List X) → length xs ≡ 4 → (x0 : X) × (x1 : X) × (x2 : X) × (x3 : X) × (xs ≡ x0 ∷ x1 ∷ x2 ∷ x3 ∷ [])
exactly_4 (x0 ∷ x1 ∷ x2 ∷ x3 ∷ []) l = (x0, x1, x2, x3, refl)
exactly_4 [] l = absurd (omega (arith, l))
exactly_4 (x0 ∷ []) l = absurd (omega (arith, l))
exactly_4 (x0 ∷ x1 ∷ []) l = absurd (omega (arith, l))
exactly_4 (x0 ∷ x1 ∷ x2 ∷ []) l = absurd (omega (arith, l))
exactly_4 (x0 ∷ x1 ∷ x2 ∷ x3 ∷ y ∷ more) l = absurd (omega (arith, l))

exactly_5 : {X : Type 0} (xs : List X) → length xs ≡ 5 → (x0 : X) × (x1 : X) × (x2 : X) × (x3 : X) × (x4 : X) × (xs ≡ x0 ∷ x1 ∷ x2 ∷ x3 ∷ x4 ∷ [])
exactly_5 (x0 ∷ x1 ∷ x2 ∷ x3 ∷ x4 ∷ []) l = (x0, x1, x2, x3, x4, refl)
exactly_5 [] l = absurd (omega (arith, l))
exactly_5 (x0 ∷ []) l = absurd (omega (arith, l))
exactly_5 (x0 ∷ x1 ∷ []) l = absurd (omega (arith, l))
exactly_5 (x0 ∷ x1 ∷ x2 ∷ []) l = absurd (omega (arith, l))
exactly_5 (x0 ∷ x1 ∷ x2 ∷ x3 ∷ []) l = absurd (omega (arith, l))
exactly_5 (x0 ∷ x1 ∷ x2 ∷ x3 ∷ x4 ∷ y ∷ more) l = absurd (omega (arith, l))

exactly_6 : {X : Type 0} (xs : List X) → length xs ≡ 6 → (x0 : X) × (x1 : X) × (x2 : X) × (x3 : X) × (x4 : X) × (x5 : X) × (xs ≡ x0 ∷ x1 ∷ x2 ∷ x3 ∷ x4 ∷ x5 ∷ [])
exactly_6 (x0 ∷ x1 ∷ x2 ∷ x3 ∷ x4 ∷ x5 ∷ []) l = (x0, x1, x2, x3, x4, x5, refl)
exactly_6 [] l = absurd (omega (arith, l))
exactly_6 (x0 ∷ []) l = absurd (omega (arith, l))
exactly_6 (x0 ∷ x1 ∷ []) l = absurd (omega (arith, l))
exactly_6 (x0 ∷ x1 ∷ x2 ∷ []) l = absurd (omega (arith, l))
exactly_6 (x0 ∷ x1 ∷ x2 ∷ x3 ∷ []) l = absurd (omega (arith, l))
exactly_6 (x0 ∷ x1 ∷ x2 ∷ x3 ∷ x4 ∷ []) l = absurd (omega (arith, l))
exactly_6 (x0 ∷ x1 ∷ x2 ∷ x3 ∷ x4 ∷ x5 ∷ y ∷ more) l = absurd (omega (arith, l))

exactly_11 : {X : Type 0} (xs : List X) → length xs ≡ 11 → (x0 : X) × (x1 : X) × (x2 : X) × (x3 : X) × (x4 : X) × (x5 : X) × (x6 : X) × (x7 : X) × (x8 : X) × (x9 : X) × (x10 : X) × (xs ≡ x0 ∷ x1 ∷ x2 ∷ x3 ∷ x4 ∷ x5 ∷ x6 ∷ x7 ∷ x8 ∷ x9 ∷ x10 ∷ [])
exactly_11 (x0 ∷ x1 ∷ x2 ∷ x3 ∷ x4 ∷ x5 ∷ x6 ∷ x7 ∷ x8 ∷ x9 ∷ x10 ∷ []) l = (x0, x1, x2, x3, x4, x5, x6, x7, x8, x9, x10, refl)
exactly_11 [] l = absurd (omega (arith, l))
exactly_11 (x0 ∷ []) l = absurd (omega (arith, l))
exactly_11 (x0 ∷ x1 ∷ []) l = absurd (omega (arith, l))
exactly_11 (x0 ∷ x1 ∷ x2 ∷ []) l = absurd (omega (arith, l))
exactly_11 (x0 ∷ x1 ∷ x2 ∷ x3 ∷ []) l = absurd (omega (arith, l))
exactly_11 (x0 ∷ x1 ∷ x2 ∷ x3 ∷ x4 ∷ []) l = absurd (omega (arith, l))
exactly_11 (x0 ∷ x1 ∷ x2 ∷ x3 ∷ x4 ∷ x5 ∷ []) l = absurd (omega (arith, l))
exactly_11 (x0 ∷ x1 ∷ x2 ∷ x3 ∷ x4 ∷ x5 ∷ x6 ∷ []) l = absurd (omega (arith, l))
exactly_11 (x0 ∷ x1 ∷ x2 ∷ x3 ∷ x4 ∷ x5 ∷ x6 ∷ x7 ∷ []) l = absurd (omega (arith, l))
exactly_11 (x0 ∷ x1 ∷ x2 ∷ x3 ∷ x4 ∷ x5 ∷ x6 ∷ x7 ∷ x8 ∷ []) l = absurd (omega (arith, l))
exactly_11 (x0 ∷ x1 ∷ x2 ∷ x3 ∷ x4 ∷ x5 ∷ x6 ∷ x7 ∷ x8 ∷ x9 ∷ []) l = absurd (omega (arith, l))
exactly_11 (x0 ∷ x1 ∷ x2 ∷ x3 ∷ x4 ∷ x5 ∷ x6 ∷ x7 ∷ x8 ∷ x9 ∷ x10 ∷ y ∷ more) l = absurd (omega (arith, l))

meta_columns : (cs : List Column) → has_meta_columns cs ≡ true → cs ≡ meta.columns
meta_columns cs h =
    let l = both _ _ h in
    let s = exactly_6 cs (number_is (length cs) 6 l.0) in
    let at = subst (λ (x : List Column). has_meta_columns x ≡ true) s.6 h in
    let q0 = both _ _ at in
    let q1 = both _ _ q0.1 in
    let q2 = both _ _ q1.1 in
    let q3 = both _ _ q2.1 in
    let q4 = both _ _ q3.1 in
    let c0 = needed_is (codes "id") kind.Integer s.0 q0.0 in
    let c1 = needed_is (codes "version") kind.Integer s.1 q1.0 in
    let c2 = needed_is (codes "cell") kind.Text s.2 q2.0 in
    let c3 = needed_is (codes "secret") kind.Blob s.3 q3.0 in
    let c4 = needed_is (codes "epoch") kind.Integer s.4 q4.0 in
    let c5 = needed_is (codes "next_instance") kind.Integer s.5 q4.1 in
    s.6 ∙ (λ i. c0 i ∷ c1 i ∷ c2 i ∷ c3 i ∷ c4 i ∷ c5 i ∷ [])

sessions_columns : (cs : List Column) → has_session_columns cs ≡ true → cs ≡ sessions.columns
sessions_columns cs h =
    let l = both _ _ h in
    let s = exactly_3 cs (number_is (length cs) 3 l.0) in
    let at = subst (λ (x : List Column). has_session_columns x ≡ true) s.3 h in
    let q0 = both _ _ at in
    let q1 = both _ _ q0.1 in
    let c0 = needed_is (codes "client") kind.Integer s.0 q0.0 in
    let c1 = needed_is (codes "principal") kind.Text s.1 q1.0 in
    let c2 = needed_is (codes "live") kind.Integer s.2 q1.1 in
    s.3 ∙ (λ i. c0 i ∷ c1 i ∷ c2 i ∷ [])

locks_columns : (cs : List Column) → has_lock_columns cs ≡ true → cs ≡ locks.columns
locks_columns cs h =
    let l = both _ _ h in
    let s = exactly_5 cs (number_is (length cs) 5 l.0) in
    let at = subst (λ (x : List Column). has_lock_columns x ≡ true) s.5 h in
    let q0 = both _ _ at in
    let q1 = both _ _ q0.1 in
    let q2 = both _ _ q1.1 in
    let q3 = both _ _ q2.1 in
    let c0 = needed_is (codes "instance") kind.Integer s.0 q0.0 in
    let c1 = needed_is (codes "client") kind.Integer s.1 q1.0 in
    let c2 = needed_is (codes "handle") kind.Integer s.2 q2.0 in
    let c3 = needed_is (codes "mode") kind.Integer s.3 q3.0 in
    let c4 = needed_is (codes "delay") kind.Integer s.4 q3.1 in
    s.5 ∙ (λ i. c0 i ∷ c1 i ∷ c2 i ∷ c3 i ∷ c4 i ∷ [])

child_columns : (cs : List Column) → has_child_columns cs ≡ true → cs ≡ children.columns
child_columns cs h =
    let l = both _ _ h in
    let s = exactly_2 cs (number_is (length cs) 2 l.0) in
    let at = subst (λ (x : List Column). has_child_columns x ≡ true) s.2 h in
    let q0 = both _ _ at in
    let c0 = needed_is (codes "parent") kind.Text s.0 q0.0 in
    let c1 = needed_is (codes "child") kind.Text s.1 q0.1 in
    s.2 ∙ (λ i. c0 i ∷ c1 i ∷ [])

nodes_columns : (cs : List Column) → has_node_columns cs ≡ true → cs ≡ nodes.columns
nodes_columns cs h =
    let l = both _ _ h in
    let s = exactly_11 cs (number_is (length cs) 11 l.0) in
    let at = subst (λ (x : List Column). has_node_columns x ≡ true) s.11 h in
    let w = both _ _ at in
    let q0 = both _ _ w.0 in
    let q1 = both _ _ q0.1 in
    let q2 = both _ _ q1.1 in
    let q3 = both _ _ q2.1 in
    let q4 = both _ _ q3.1 in
    let c1 = needed_is (codes "instance") kind.Integer s.1 q0.0 in
    let c2 = needed_is (codes "kind") kind.Integer s.2 q1.0 in
    let c3 = needed_is (codes "life") kind.Integer s.3 q2.0 in
    let c4 = needed_is (codes "content_gen") kind.Integer s.4 q3.0 in
    let c5 = needed_is (codes "acl_gen") kind.Integer s.5 q4.0 in
    let c6 = needed_is (codes "lock_gen") kind.Integer s.6 q4.1 in
    let r0 = both _ _ w.1 in
    let r1 = both _ _ r0.1 in
    let r2 = both _ _ r1.1 in
    let r3 = both _ _ r2.1 in
    let c0 = needed_is (codes "name") kind.Text s.0 r0.0 in
    let c7 = needed_is (codes "acl_read") kind.Text s.7 r1.0 in
    let c8 = needed_is (codes "acl_write") kind.Text s.8 r2.0 in
    let c9 = needed_is (codes "acl_change") kind.Text s.9 r3.0 in
    let c10 = needed_is (codes "content") kind.Blob s.10 r3.1 in
    s.11 ∙ (λ i. c0 i ∷ c1 i ∷ c2 i ∷ c3 i ∷ c4 i ∷ c5 i ∷ c6 i ∷ c7 i ∷ c8 i ∷ c9 i ∷ c10 i ∷ [])

key_is : (n : ℕ) (o : Option ℕ) → is_key_of n o ≡ true → o ≡ Some n
key_is n None h = absurd (true≢false (sym h))
key_is n (Some m) h = ap (λ k. Some k) (number_is m n h)

no_key : {X : Type 0} (o : Option X) → not (is_some o) ≡ true → o ≡ None
no_key None h = refl
no_key (Some m) h = absurd (true≢false (sym h))

same_list : (xs ys : List ℕ) → bytes_eq xs ys ≡ true → xs ≡ ys
same_list xs ys h = (bytes_eq-Decides xs ys).0 h

order_is : (o : Order) → (o.digits == 0) ≡ true → o ≡ plain
order_is o h = let e = number_is o.digits 0 h in λ i. record { digits = e i }

one_key : (keys : List (List ℕ)) (places : List ℕ) → (length keys == 1) ≡ true → has_key keys 0 places ≡ true → keys ≡ places ∷ []
one_key keys places n h =
    let s = exactly_1 keys (number_is (length keys) 1 n) in
    let at = subst (λ (x : List (List ℕ)). has_key x 0 places ≡ true) s.1 h in
    s.1 ∙ ap (λ x. x ∷ []) (same_list s.0 places at)

two_keys : (keys : List (List ℕ)) (first second : List ℕ) → (length keys == 2) ≡ true → has_key keys 0 first ≡ true → has_key keys 1 second ≡ true → keys ≡ first ∷ second ∷ []
two_keys keys first second n h k =
    let s = exactly_2 keys (number_is (length keys) 2 n) in
    let one = same_list s.0 first (subst (λ (x : List (List ℕ)). has_key x 0 first ≡ true) s.2 h) in
    let two = same_list s.1 second (subst (λ (x : List (List ℕ)). has_key x 1 second ≡ true) s.2 k) in
    s.2 ∙ (λ i. one i ∷ two i ∷ [])

one_order : (orders : List Order) → has_orders orders 1 ≡ true → orders ≡ plain ∷ []
one_order orders h =
    let a = both _ _ h in
    let b = both _ _ a.1 in
    let s = exactly_1 orders (number_is (length orders) 1 a.0) in
    let at = subst (λ (x : List Order). is_plain x 0 ≡ true) s.1 b.0 in
    s.1 ∙ ap (λ x. x ∷ []) (order_is s.0 at)

two_orders : (orders : List Order) → has_orders orders 2 ≡ true → orders ≡ plain ∷ plain ∷ []
two_orders orders h =
    let a = both _ _ h in
    let b = both _ _ a.1 in
    let s = exactly_2 orders (number_is (length orders) 2 a.0) in
    let one = order_is s.0 (subst (λ (x : List Order). is_plain x 0 ≡ true) s.2 b.0) in
    let two = order_is s.1 (subst (λ (x : List Order). is_plain x 1 ≡ true) s.2 b.1) in
    s.2 ∙ (λ i. one i ∷ two i ∷ [])

cascade_is : (a : Action) → is_cascade a ≡ true → a ≡ action.Cascade
cascade_is action.Cascade h = refl
cascade_is action.NoAction h = absurd (true≢false (sym h))
cascade_is action.Restrict h = absurd (true≢false (sym h))
cascade_is action.SetNull h = absurd (true≢false (sym h))
cascade_is action.SetDefault h = absurd (true≢false (sym h))

no_action_is : (a : Action) → is_no_action a ≡ true → a ≡ action.NoAction
no_action_is action.NoAction h = refl
no_action_is action.Cascade h = absurd (true≢false (sym h))
no_action_is action.Restrict h = absurd (true≢false (sym h))
no_action_is action.SetNull h = absurd (true≢false (sym h))
no_action_is action.SetDefault h = absurd (true≢false (sym h))

only_name_is : (name : List ℕ) (names : List (List ℕ)) → is_only_name name names ≡ true → names ≡ name ∷ []
only_name_is name names h =
    let a = both _ _ h in
    let s = exactly_1 names (number_is (length names) 1 a.0) in
    let at = subst (λ (x : List (List ℕ)). option_map_or (λ (only : List ℕ). bytes_eq only name) (slice_get x 0) false ≡ true) s.1 a.1 in
    s.1 ∙ ap (λ x. x ∷ []) (same_list s.0 name at)

-- the reference of this column to the column of this name
abbrev to_node : ℕ → List ℕ → Reference
to_node column name = record of_node { columns = column ∷ []; parent_columns = name ∷ [] }

to_node_is : (column : ℕ) (name : List ℕ) (r : Reference) → is_to_node column name r ≡ true → r ≡ to_node column name
to_node_is column name r h =
    let a = both _ _ h in
    let b = both _ _ a.1 in
    let c = both _ _ b.1 in
    let d = both _ _ c.1 in
    let e = both _ _ d.1 in
    let columns = same_list r.columns (column ∷ []) a.0 in
    let parent = same_list r.parent (codes "nodes") b.0 in
    let names = only_name_is name r.parent_columns c.0 in
    let deleted = cascade_is r.on_delete d.0 in
    let updated = no_action_is r.on_update e.0 in
    let deferred = neither r.is_deferred e.1 in
    λ i. record { columns = columns i; parent = parent i; parent_columns = names i; on_delete = deleted i; on_update = updated i; is_deferred = deferred i }

bound_is : (column : ℕ) (name : List ℕ) (t : Table) → is_bound column name t ≡ true → t.references ≡ to_node column name ∷ []
bound_is column name t h =
    let a = both _ _ h in
    let s = exactly_1 t.references (number_is (length t.references) 1 a.0) in
    let at = subst (λ (x : List Reference). option_map_or (is_to_node column name) (slice_get x 0) false ≡ true) s.1 a.1 in
    s.1 ∙ ap (λ x. x ∷ []) (to_node_is column name s.0 at)

-- what a bare table hasn't
record Bare (t : Table) : Type 0 where
  checks : t.checks ≡ []
  computed : t.computed ≡ []
  places : t.stamps.places ≡ []
  terms : t.stamps.terms ≡ []
  formats : t.stamps.formats ≡ []
  counted : t.is_counted ≡ false

bare_is : (t : Table) → is_bare t ≡ true → Bare t
bare_is t h =
    let a = both _ _ h in
    let b = both _ _ a.1 in
    let c = both _ _ b.1 in
    let d = both _ _ c.1 in
    let e = both _ _ d.1 in
    record { checks = empty_is t.checks a.0; computed = empty_is t.computed b.0; places = empty_is t.stamps.places c.0; terms = empty_is t.stamps.terms d.0; formats = empty_is t.stamps.formats e.0; counted = neither t.is_counted e.1 }

pub meta_is : (t : Table) → is_meta t ≡ true → t ≡ meta
meta_is t h =
    let a = both _ _ h in
    let b = both _ _ a.1 in
    let c = both _ _ b.1 in
    let d = both _ _ c.1 in
    let e = both _ _ d.1 in
    let f = both _ _ e.1 in
    let g = both _ _ f.1 in
    let r = both _ _ g.1 in
    let name = same_list t.name (codes "meta") a.0 in
    let tree = number_is t.tree 0 b.0 in
    let columns = meta_columns t.columns c.0 in
    let key = key_is 0 t.key d.0 in
    let primary = same_list t.primary (0 ∷ []) e.0 in
    let uniques = empty_is t.uniques f.0 in
    let orders = empty_is t.orders g.0 in
    let references = empty_is t.references r.0 in
    let bare = bare_is t r.1 in
    λ i. record {
      name = name i;
      tree = tree i;
      columns = columns i;
      key = key i;
      primary = primary i;
      uniques = uniques i;
      orders = orders i;
      checks = bare.checks i;
      references = references i;
      computed = bare.computed i;
      stamps = record { places = bare.places i; terms = bare.terms i; formats = bare.formats i };
      is_counted = bare.counted i;
    }

pub sessions_is : (t : Table) → is_sessions t ≡ true → t ≡ sessions
sessions_is t h =
    let a = both _ _ h in
    let b = both _ _ a.1 in
    let c = both _ _ b.1 in
    let d = both _ _ c.1 in
    let e = both _ _ d.1 in
    let f = both _ _ e.1 in
    let g = both _ _ f.1 in
    let r = both _ _ g.1 in
    let name = same_list t.name (codes "sessions") a.0 in
    let tree = number_is t.tree 4 b.0 in
    let columns = sessions_columns t.columns c.0 in
    let key = key_is 0 t.key d.0 in
    let primary = same_list t.primary (0 ∷ []) e.0 in
    let uniques = empty_is t.uniques f.0 in
    let orders = empty_is t.orders g.0 in
    let references = empty_is t.references r.0 in
    let bare = bare_is t r.1 in
    λ i. record {
      name = name i;
      tree = tree i;
      columns = columns i;
      key = key i;
      primary = primary i;
      uniques = uniques i;
      orders = orders i;
      checks = bare.checks i;
      references = references i;
      computed = bare.computed i;
      stamps = record { places = bare.places i; terms = bare.terms i; formats = bare.formats i };
      is_counted = bare.counted i;
    }

pub nodes_is : (t : Table) → is_nodes t ≡ true → t ≡ nodes
nodes_is t h =
    let a = both _ _ h in
    let b = both _ _ a.1 in
    let c = both _ _ b.1 in
    let d = both _ _ c.1 in
    let e = both _ _ d.1 in
    let f = both _ _ e.1 in
    let g = both _ _ f.1 in
    let k = both _ _ g.1 in
    let o = both _ _ k.1 in
    let r = both _ _ o.1 in
    let name = same_list t.name (codes "nodes") a.0 in
    let tree = number_is t.tree 1 b.0 in
    let columns = nodes_columns t.columns c.0 in
    let key = no_key t.key d.0 in
    let primary = same_list t.primary (1 ∷ []) e.0 in
    let uniques = two_keys t.uniques (1 ∷ []) (2 ∷ []) f.0 g.0 k.0 in
    let orders = two_orders t.orders o.0 in
    let references = empty_is t.references r.0 in
    let bare = bare_is t r.1 in
    λ i. record {
      name = name i;
      tree = tree i;
      columns = columns i;
      key = key i;
      primary = primary i;
      uniques = uniques i;
      orders = orders i;
      checks = bare.checks i;
      references = references i;
      computed = bare.computed i;
      stamps = record { places = bare.places i; terms = bare.terms i; formats = bare.formats i };
      is_counted = bare.counted i;
    }

pub locks_is : (t : Table) → is_locks t ≡ true → t ≡ locks
locks_is t h =
    let a = both _ _ h in
    let b = both _ _ a.1 in
    let c = both _ _ b.1 in
    let d = both _ _ c.1 in
    let e = both _ _ d.1 in
    let f = both _ _ e.1 in
    let g = both _ _ f.1 in
    let o = both _ _ g.1 in
    let r = both _ _ o.1 in
    let name = same_list t.name (codes "locks") a.0 in
    let tree = number_is t.tree 5 b.0 in
    let columns = locks_columns t.columns c.0 in
    let key = no_key t.key d.0 in
    let primary = same_list t.primary (1 ∷ 2 ∷ 3 ∷ []) e.0 in
    let uniques = one_key t.uniques (1 ∷ 2 ∷ 3 ∷ []) f.0 g.0 in
    let orders = one_order t.orders o.0 in
    let references = bound_is 1 (codes "instance") t r.0 in
    let bare = bare_is t r.1 in
    λ i. record {
      name = name i;
      tree = tree i;
      columns = columns i;
      key = key i;
      primary = primary i;
      uniques = uniques i;
      orders = orders i;
      checks = bare.checks i;
      references = references i;
      computed = bare.computed i;
      stamps = record { places = bare.places i; terms = bare.terms i; formats = bare.formats i };
      is_counted = bare.counted i;
    }

pub children_is : (t : Table) → is_children t ≡ true → t ≡ children
children_is t h =
    let a = both _ _ h in
    let b = both _ _ a.1 in
    let c = both _ _ b.1 in
    let d = both _ _ c.1 in
    let e = both _ _ d.1 in
    let f = both _ _ e.1 in
    let g = both _ _ f.1 in
    let o = both _ _ g.1 in
    let r = both _ _ o.1 in
    let name = same_list t.name (codes "children") a.0 in
    let tree = number_is t.tree 7 b.0 in
    let columns = child_columns t.columns c.0 in
    let key = no_key t.key d.0 in
    let primary = same_list t.primary (1 ∷ 2 ∷ []) e.0 in
    let uniques = one_key t.uniques (1 ∷ 2 ∷ []) f.0 g.0 in
    let orders = one_order t.orders o.0 in
    let references = bound_is 2 (codes "name") t r.0 in
    let bare = bare_is t r.1 in
    λ i. record {
      name = name i;
      tree = tree i;
      columns = columns i;
      key = key i;
      primary = primary i;
      uniques = uniques i;
      orders = orders i;
      checks = bare.checks i;
      references = references i;
      computed = bare.computed i;
      stamps = record { places = bare.places i; terms = bare.terms i; formats = bare.formats i };
      is_counted = bare.counted i;
    }

over_is : (name : List ℕ) (tree table : ℕ) (places : List ℕ) (unique : Bool) (x : Index) → is_over name tree table places x ≡ true → x.is_unique ≡ unique → x ≡ record { name = name; tree = tree; table = table; columns = places; order = plain; is_unique = unique }
over_is name tree table places unique x h u =
    let a = both _ _ h in
    let b = both _ _ a.1 in
    let c = both _ _ b.1 in
    let d = both _ _ c.1 in
    let named = same_list x.name name a.0 in
    let at = number_is x.tree tree b.0 in
    let of = number_is x.table table c.0 in
    let columns = same_list x.columns places d.0 in
    let order = order_is x.order d.1 in
    λ i. record { name = named i; tree = at i; table = of i; columns = columns i; order = order i; is_unique = u i }

index_is : (name : List ℕ) (tree table : ℕ) (places : List ℕ) (x : Index) → is_index name tree table places x ≡ true → x ≡ record { name = name; tree = tree; table = table; columns = places; order = plain; is_unique = true }
index_is name tree table places x h = let a = both _ _ h in over_is name tree table places true x a.0 a.1

by_child_is : (x : Index) → is_by_child x ≡ true → x ≡ by_child
by_child_is x h = let a = both _ _ h in over_is (codes "children_by_child") 9 7 (2 ∷ []) false x a.0 (neither x.is_unique a.1)

unindexed_are : (xs : List Index) → (length xs == 4) ≡ true → has_four_indexes xs ≡ true → xs ≡ unindexed_schema.indexes
unindexed_are xs n h =
    let s = exactly_4 xs (number_is (length xs) 4 n) in
    let at = subst (λ (x : List Index). has_four_indexes x ≡ true) s.4 h in
    let k = both _ _ at in
    let b = both _ _ k.0 in
    let c = both _ _ b.1 in
    let one = index_is (codes "sqlite_autoindex_nodes_1") 2 1 (1 ∷ []) s.0 b.0 in
    let two = index_is (codes "sqlite_autoindex_nodes_2") 3 1 (2 ∷ []) s.1 c.0 in
    let three = index_is (codes "sqlite_autoindex_locks_1") 6 5 (1 ∷ 2 ∷ 3 ∷ []) s.2 c.1 in
    let four = index_is (codes "sqlite_autoindex_children_1") 8 7 (1 ∷ 2 ∷ []) s.3 k.1 in
    s.4 ∙ (λ i. one i ∷ two i ∷ three i ∷ four i ∷ [])

indexes_are : (xs : List Index) → has_indexes xs ≡ true → xs ≡ second_schema.indexes
indexes_are xs h =
    let a = both _ _ h in
    let s = exactly_5 xs (number_is (length xs) 5 a.0) in
    let at = subst (λ (x : List Index). has_indexes x ≡ true) s.5 h in
    let m = both _ _ at in
    let k = both _ _ m.0 in
    let b = both _ _ k.0 in
    let c = both _ _ b.1 in
    let one = index_is (codes "sqlite_autoindex_nodes_1") 2 1 (1 ∷ []) s.0 b.0 in
    let two = index_is (codes "sqlite_autoindex_nodes_2") 3 1 (2 ∷ []) s.1 c.0 in
    let three = index_is (codes "sqlite_autoindex_locks_1") 6 5 (1 ∷ 2 ∷ 3 ∷ []) s.2 c.1 in
    let four = index_is (codes "sqlite_autoindex_children_1") 8 7 (1 ∷ 2 ∷ []) s.3 k.1 in
    let last = by_child_is s.4 m.1 in
    s.5 ∙ (λ i. one i ∷ two i ∷ three i ∷ four i ∷ last i ∷ [])

first_indexes_are : (xs : List Index) → (length xs == 3) ≡ true → has_key_indexes xs ≡ true → xs ≡ first_schema.indexes
first_indexes_are xs n h =
    let s = exactly_3 xs (number_is (length xs) 3 n) in
    let at = subst (λ (x : List Index). has_key_indexes x ≡ true) s.3 h in
    let b = both _ _ at in
    let c = both _ _ b.1 in
    let one = index_is (codes "sqlite_autoindex_nodes_1") 2 1 (1 ∷ []) s.0 b.0 in
    let two = index_is (codes "sqlite_autoindex_nodes_2") 3 1 (2 ∷ []) s.1 c.0 in
    let three = index_is (codes "sqlite_autoindex_locks_1") 6 5 (1 ∷ 2 ∷ 3 ∷ []) s.2 c.1 in
    s.3 ∙ (λ i. one i ∷ two i ∷ three i ∷ [])

first_tables_are : (ts : List Table) → (length ts == 4) ≡ true → has_four ts ≡ true → ts ≡ first_schema.tables
first_tables_are ts n h =
    let s = exactly_4 ts (number_is (length ts) 4 n) in
    let at = subst (λ (x : List Table). has_four x ≡ true) s.4 h in
    let b = both _ _ at in
    let c = both _ _ b.1 in
    let d = both _ _ c.1 in
    let one = meta_is s.0 b.0 in
    let two = nodes_is s.1 c.0 in
    let three = sessions_is s.2 d.0 in
    let last = locks_is s.3 d.1 in
    s.4 ∙ (λ i. one i ∷ two i ∷ three i ∷ last i ∷ [])

tables_are : (ts : List Table) → (length ts == 5) ≡ true → has_four ts ≡ true → has_fifth ts ≡ true → ts ≡ second_schema.tables
tables_are ts n h f =
    let s = exactly_5 ts (number_is (length ts) 5 n) in
    let at = subst (λ (x : List Table). has_four x ≡ true) s.5 h in
    let b = both _ _ at in
    let c = both _ _ b.1 in
    let d = both _ _ c.1 in
    let one = meta_is s.0 b.0 in
    let two = nodes_is s.1 c.0 in
    let three = sessions_is s.2 d.0 in
    let four = locks_is s.3 d.1 in
    let last = children_is s.4 (subst (λ (x : List Table). has_fifth x ≡ true) s.5 f) in
    s.5 ∙ (λ i. one i ∷ two i ∷ three i ∷ four i ∷ last i ∷ [])

view_is : (v : View) → is_the_children v ≡ true → v ≡ the_children
view_is v h =
    let a = both _ _ h in
    let b = both _ _ a.1 in
    let c = both _ _ b.1 in
    let d = both _ _ c.1 in
    let e = both _ _ d.1 in
    let name = same_list v.name (codes "children") a.0 in
    let tree = number_is v.tree 7 b.0 in
    let sql = same_list v.sql children_text c.0 in
    let foreign = no_key v.foreign d.0 in
    let binds = neither v.binds e.0 in
    let bound = neither v.is_bound e.1 in
    λ i. record { name = name i; tree = tree i; sql = sql i; foreign = foreign i; binds = binds i; is_bound = bound i }

views_are : (vs : List View) → has_the_children vs ≡ true → vs ≡ the_children ∷ []
views_are vs h =
    let a = both _ _ h in
    let s = exactly_1 vs (number_is (length vs) 1 a.0) in
    let at = subst (λ (x : List View). has_the_children x ≡ true) s.1 h in
    let one = view_is s.0 at in
    s.1 ∙ (λ i. one i ∷ [])

pub schema_is : (s : Schema) → is_ours s ≡ true → s ≡ the_schema
schema_is s h =
    let a = both _ _ h in
    let b = both _ _ a.1 in
    let c = both _ _ b.1 in
    let d = both _ _ c.1 in
    let views = views_are s.views a.0 in
    let indexes = first_indexes_are s.indexes b.0 c.0 in
    let tables = first_tables_are s.tables d.0 d.1 in
    λ i. record { tables = tables i; indexes = indexes i; views = views i }

pub second_schema_is : (s : Schema) → is_second s ≡ true → s ≡ second_schema
second_schema_is s h =
    let a = both _ _ h in
    let b = both _ _ a.1 in
    let c = both _ _ b.1 in
    let d = both _ _ c.1 in
    let views = empty_is s.views a.0 in
    let indexes = indexes_are s.indexes b.0 in
    let tables = tables_are s.tables c.0 d.0 d.1 in
    λ i. record { tables = tables i; indexes = indexes i; views = views i }

pub unindexed_schema_is : (s : Schema) → is_unindexed s ≡ true → s ≡ unindexed_schema
unindexed_schema_is s h =
    let a = both _ _ h in
    let b = both _ _ a.1 in
    let c = both _ _ b.1 in
    let d = both _ _ c.1 in
    let e = both _ _ d.1 in
    let views = empty_is s.views a.0 in
    let indexes = unindexed_are s.indexes b.0 c.0 in
    let tables = tables_are s.tables d.0 e.0 e.1 in
    λ i. record { tables = tables i; indexes = indexes i; views = views i }

pub first_schema_is : (s : Schema) → is_first s ≡ true → s ≡ first_schema
first_schema_is s h =
    let a = both _ _ h in
    let b = both _ _ a.1 in
    let c = both _ _ b.1 in
    let d = both _ _ c.1 in
    let views = empty_is s.views a.0 in
    let indexes = first_indexes_are s.indexes b.0 c.0 in
    let tables = first_tables_are s.tables d.0 d.1 in
    λ i. record { tables = tables i; indexes = indexes i; views = views i }

-- and those schemas pass
pub passes : is_ours the_schema ≡ true
passes = refl

pub second_passes : is_second second_schema ≡ true
second_passes = refl

pub unindexed_passes : is_unindexed unindexed_schema ≡ true
unindexed_passes = refl

pub first_passes : is_first first_schema ≡ true
first_passes = refl

-- so the tests say just that
ours_is : (b : Bool) (s : Schema) → b ≡ is_ours s → IsTrue b ↔ (s ≡ the_schema)
ours_is b s h = (λ t. schema_is s (sym h ∙ t), λ e. h ∙ ap is_ours e ∙ passes)

second_is : (b : Bool) (s : Schema) → b ≡ is_second s → IsTrue b ↔ (s ≡ second_schema)
second_is b s h = (λ t. second_schema_is s (sym h ∙ t), λ e. h ∙ ap is_second e ∙ second_passes)

unindexed_is : (b : Bool) (s : Schema) → b ≡ is_unindexed s → IsTrue b ↔ (s ≡ unindexed_schema)
unindexed_is b s h = (λ t. unindexed_schema_is s (sym h ∙ t), λ e. h ∙ ap is_unindexed e ∙ unindexed_passes)

first_is : (b : Bool) (s : Schema) → b ≡ is_first s → IsTrue b ↔ (s ≡ first_schema)
first_is b s h = (λ t. first_schema_is s (sym h ∙ t), λ e. h ∙ ap is_first e ∙ first_passes)

pub ours_told : {E : Type 0} (r : Result Bool E) (s : Schema) → IfOk r (λ b. b ≡ is_ours s) → IfOk r (λ b. IsTrue b ↔ (s ≡ the_schema))
ours_told (Ok b) s h = ours_is b s h
ours_told (Err e) s h = tt

pub second_told : {E : Type 0} (r : Result Bool E) (s : Schema) → IfOk r (λ b. b ≡ is_second s) → IfOk r (λ b. IsTrue b ↔ (s ≡ second_schema))
second_told (Ok b) s h = second_is b s h
second_told (Err e) s h = tt

pub unindexed_told : {E : Type 0} (r : Result Bool E) (s : Schema) → IfOk r (λ b. b ≡ is_unindexed s) → IfOk r (λ b. IsTrue b ↔ (s ≡ unindexed_schema))
unindexed_told (Ok b) s h = unindexed_is b s h
unindexed_told (Err e) s h = tt

pub first_told : {E : Type 0} (r : Result Bool E) (s : Schema) → IfOk r (λ b. b ≡ is_first s) → IfOk r (λ b. IsTrue b ↔ (s ≡ first_schema))
first_told (Ok b) s h = first_is b s h
first_told (Err e) s h = tt

-- a schema of no version
pub of_none : (s : Schema) (a b c d : Bool) → IsTrue a ↔ (s ≡ the_schema) → IsTrue b ↔ (s ≡ second_schema) → IsTrue c ↔ (s ≡ unindexed_schema) → IsTrue d ↔ (s ≡ first_schema) → a ≡ false → b ≡ false → c ≡ false → d ≡ false → (version : Version) → s ≢ schema_of version
of_none s a b c d ours second unindexed first no_a no_b no_c no_d First is = true≢false (sym (first.1 is) ∙ no_d)
of_none s a b c d ours second unindexed first no_a no_b no_c no_d Unindexed is = true≢false (sym (unindexed.1 is) ∙ no_c)
of_none s a b c d ours second unindexed first no_a no_b no_c no_d Second is = true≢false (sym (second.1 is) ∙ no_b)
of_none s a b c d ours second unindexed first no_a no_b no_c no_d Third is = true≢false (sym (ours.1 is) ∙ no_a)
