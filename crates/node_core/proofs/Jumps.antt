-- Past the names that lie below a child.
use Rattle.std.proofs.Common.{◌≡◌, ℕ, zero, suc, ◌+◌, ◌-◌, ◌<◌, ◌≤◌, List, [], ◌∷◌, ◌++◌, length, drop, Bool, true, false, cond, nat_eq, Option, Some, None, Ordering, Less, Equal, Greater, ◌⊎◌, inl, inr, ⊎_elim, refl, sym, ap, ◌∙◌, arith, length-append, append_assoc}
use Rattle.std.specs.Prelude.{◌&&◌, nat_le, nat_lt, min, codes, filter}
use Rattle.std.specs.Ordering.{is_le, is_lt, nat_cmp, ordering_then, ordering_reverse}
use Rattle.std.specs.Cmp.Lexicographic.{slice_cmp, nat_list_cmp_total}
use Rattle.std.specs.Option.{option_map, option_map_or}
use Rattle.std.specs.List.{AllByRecursion, list_all, slice_split, after_last, repeat}
use Rattle.std.specs.List.Sorted.{IsStrictlySortedBy}
use Rattle.std.specs.Map.{keys_of}
use Rattle.std.specs.Str.{bytes_eq}
use Rattle.std.specs.declared.ops.Bound.TheVariants.{Excluded, Unbounded}
use Rattle.std.specs.BTreeMap.Range.{entries_between, range_contains}
use Rattle.std.proofs.lemmas.Bool.Decides.{nat_tests}
use Rattle.std.proofs.lemmas.List.{append_cancel_left}
use Rattle.std.proofs.lemmas.List.Kept.{IsStrictlySortedBy-filter}
use Rattle.names_cell.specs.Text.{is_name, is_component, is_component_byte, is_slash, front_of, put_front, is_child, is_under, last_child_of}
use Rattle.names_cell.proofs.Children.{begins, same_bytes}
use Rattle.names_cell.proofs.ComponentLemmas.{both, parts_of_component}
use Rattle.names_cell.proofs.Parts.{splits, last_is_component, after_front}
use Rattle.node_core.specs.Nodes.{Nodes, last_sibling_of}
use Rattle.node_core.specs.declared.nodes.Node.{Node}
use Rattle.node_core.proofs.Walks.{Walked, childish, child_form, name_length, nothing_first, same_front, squeeze, lt_is, split_off, range_keys, all_filter}

-- ---- what stands before the last slash of a text with a slash in it

joined_front : List ℕ → Option (List ℕ) → Option (List ℕ)
joined_front a (Some f) = Some (a ++ 47 ∷ f)
joined_front a None = Some a

front_join : (a b : List ℕ) → front_of (a ++ 47 ∷ b) ≡ joined_front a (front_of b)
unfolding joined_front
front_join [] b = elim (front_of b) as (λ o. put_front 47 o ≡ joined_front [] o) [ None ↦ refl | Some f ↦ refl ]
front_join (x ∷ a) b = ap (put_front x) (front_join a b) ∙ elim (front_of b) as (λ o. put_front x (joined_front a o) ≡ joined_front (x ∷ a) o) [ None ↦ refl | Some f ↦ refl ]

some_front : (a b : List ℕ) → front_of (a ++ 47 ∷ b) ≡ None → ⊥
unfolding joined_front
some_front a b h = (elim (front_of b) as (λ o. joined_front a o ≡ None → ⊥) [ None ↦ (λ k. absurd (cc)) | Some f ↦ (λ k. absurd (cc)) ]) (sym (front_join a b) ∙ h)

-- what stands before the last slash is a text itself, or begins with it and another slash
cut : (p last name u : List ℕ) → p ++ 47 ∷ last ≡ name ++ 47 ∷ u → front_of last ≡ None → (p ≡ name) ⊎ ((f : List ℕ) × (p ≡ name ++ 47 ∷ f))
cut [] last [] u e h = inl refl
cut [] last (n ∷ ns) u e h =
    let t : last ≡ ns ++ 47 ∷ u = cc in
    absurd (some_front ns u (ap front_of (sym t) ∙ h))
cut (b ∷ p) last [] u e h = let t : b ≡ 47 = cc in inr (p, ap (λ x. x ∷ p) t)
cut (b ∷ p) last (n ∷ ns) u e h =
    let t : b ≡ n = cc in
    let r : p ++ 47 ∷ last ≡ ns ++ 47 ∷ u = cc in
    ⊎_elim (λ l. inl (rw t (ap (λ x. n ∷ x) l))) (λ l. inr (l.0, rw t (ap (λ x. n ∷ x) l.1))) (cut p last ns u r h)

-- ---- names that are deeper than a child, and the last one beside them

-- `key` lies below a child of `name`, and `last` is the greatest name beside `key`
pub record IsDeep (key name last : List ℕ) : Type 0 where
  pub deeper : List ℕ
  pub component : List ℕ
  pub count : ℕ
  pub joined : key ≡ (name ++ 47 ∷ deeper) ++ 47 ∷ component
  pub last_joined : last ≡ (name ++ 47 ∷ deeper) ++ 47 ∷ repeat count (codes "z")
  pub up_to : is_le (slice_cmp nat_cmp component (repeat count (codes "z"))) ≡ true

byte_up_to : (b : ℕ) (o : Ordering) → b ≤ 122 → is_le o ≡ true → is_le (ordering_then (nat_cmp b 122) o) ≡ true
byte_up_to b o h k =
    (elim (nat_lt b 122) as (λ v. nat_lt b 122 ≡ v → is_le (ordering_then (cond v Less (cond (nat_eq b 122) Equal Greater)) o) ≡ true) [
      | true ↦ (λ e. refl)
      | false ↦ (λ e. let q : nat_eq b 122 ≡ true = grind (arith, nat_tests) in rw q k)
    ]) refl

greatest_byte : (b : ℕ) → is_component_byte b ≡ true → b ≤ 122
greatest_byte b h = grind (arith, nat_tests)

pub up_to_z : (text : List ℕ) (count : ℕ) → list_all is_component_byte text ≡ true → length text ≤ count → is_le (slice_cmp nat_cmp text (repeat count (codes "z"))) ≡ true
up_to_z [] count all fits = nothing_first (repeat count (codes "z"))
up_to_z (b ∷ text) zero all fits = absurd (omega arith)
up_to_z (b ∷ text) (suc count) all fits =
    let t = both _ _ all in
    byte_up_to b (slice_cmp nat_cmp text (repeat count (codes "z"))) (greatest_byte b t.0) (up_to_z text count t.1 (omega arith))

pub last_form : (p last : List ℕ) → Some last ≡ last_child_of p → last ≡ p ++ 47 ∷ repeat (min (511 - length p) 64) (codes "z")
last_form p last h =
    (elim (nat_le (length p) 510) as (λ v. Some last ≡ cond v (Some (p ++ 47 ∷ repeat (min (511 - length p) 64) (codes "z"))) None → last ≡ p ++ 47 ∷ repeat (min (511 - length p) 64) (codes "z")) [
      | true ↦ (λ e. cc)
      | false ↦ (λ e. absurd (cc))
    ]) h

pub short_component : (text : List ℕ) → is_component text ≡ true → length text ≤ 64
short_component text h = let e : nat_le (length text) 64 ≡ true = (parts_of_component text h).short in grind (arith, nat_tests)

deep_at : (key name last p component u : List ℕ) → length key ≤ 512 → is_component component ≡ true → front_of component ≡ None → key ≡ p ++ 47 ∷ component → key ≡ name ++ 47 ∷ u → bytes_eq p name ≡ false → Some last ≡ last_child_of p → IsDeep key name last
deep_at key name last p component u short is no_more joined under other h =
    let long : length key ≡ length p + suc (length component) = ap length joined ∙ length-append p (47 ∷ component) in
    let fits : length component ≤ min (511 - length p) 64 = grind (arith, short_component component is, long, short) in
    ⊎_elim (λ l. absurd (let t : bytes_eq p name ≡ true = rw l (same_bytes name) in cc))
    (λ f. record {
      deeper = f.0;
      component = component;
      count = min (511 - length p) 64;
      joined = joined ∙ ap (λ x. x ++ 47 ∷ component) f.1;
      last_joined = last_form p last h ∙ ap (λ x. x ++ 47 ∷ repeat (min (511 - length p) 64) (codes "z")) f.1;
      up_to = up_to_z component (min (511 - length p) 64) (parts_of_component component is).bytes fits;
    })
    (cut p component name u (sym joined ∙ under) no_more)

-- the same by the path of the key
deep_by : (key name last path u : List ℕ) → length key ≤ 512 → key ≡ codes "/ls/" ++ path → list_all is_component (slice_split is_slash path) ≡ true → key ≡ name ++ 47 ∷ u → (o : Option (List ℕ)) → front_of path ≡ o → option_map_or (λ front. bytes_eq front name) (option_map (λ front. codes "/ls/" ++ front) o) false ≡ false → Some last ≡ option_map_or last_child_of (option_map (λ front. codes "/ls/" ++ front) o) None → IsDeep key name last
deep_by key name last path u short is all under None e no_child h = absurd (cc)
deep_by key name last path u short is all under (Some front) e no_child h =
    let t = splits path front e in
    let last_is = ap (after_last is_slash) t.joined ∙ after_front front t.last t.no_more in
    deep_at key name last (codes "/ls/" ++ front) t.last u short (rw last_is at (last_is_component path all)) t.no_more (is ∙ ap (λ x. codes "/ls/" ++ x) t.joined) under no_child h

pub deep_form : (key name last : List ℕ) → is_name key ≡ true → is_under key name ≡ true → is_child key name ≡ false → Some last ≡ last_sibling_of key → IsDeep key name last
deep_form key name last named under no_child h =
    let t = both _ _ named in
    let u = both _ _ t.0 in
    let below : key ≡ name ++ 47 ∷ drop (length (name ++ codes "/")) key = begins (name ++ codes "/") key under ∙ append_assoc name (codes "/") (drop (length (name ++ codes "/")) key) in
    deep_by key name last (drop 4 key) (drop (length (name ++ codes "/")) key) (name_length key named) (begins (codes "/ls/") key u.0) t.1 below (front_of (drop 4 key)) refl no_child h

-- what lies below a child is no child
no_child_below : (key name deeper more : List ℕ) → is_name key ≡ true → key ≡ (name ++ 47 ∷ deeper) ++ 47 ∷ more → is_child key name ≡ false
no_child_below key name deeper more named is =
    (elim (is_child key name) as (λ v. is_child key name ≡ v → v ≡ false) [
      | true ↦ (λ h.
          let c = child_form key name named h in
          let e : name ++ 47 ∷ c.byte ∷ c.more ≡ name ++ 47 ∷ (deeper ++ 47 ∷ more) = sym c.joined ∙ is ∙ append_assoc name (47 ∷ deeper) (47 ∷ more) in
          let f = append_cancel_left name (47 ∷ c.byte ∷ c.more) (47 ∷ (deeper ++ 47 ∷ more)) e in
          let g : c.byte ∷ c.more ≡ deeper ++ 47 ∷ more = cc in
          absurd (some_front deeper more (ap front_of (sym g) ∙ c.no_more)))
      | false ↦ (λ h. refl)
    ]) refl

-- what lies between them is no child either
no_child_between : (key name last x : List ℕ) → IsDeep key name last → is_name x ≡ true → slice_cmp nat_cmp key x ≡ Less → is_le (slice_cmp nat_cmp x last) ≡ true → is_child x name ≡ false
no_child_between key name last x d named less le =
    let p : List ℕ = name ++ 47 ∷ d.deeper in
    let z : List ℕ = repeat d.count (codes "z") in
    let from : is_le (slice_cmp nat_cmp ((p ++ 47 ∷ []) ++ d.component) x) ≡ true = rw (append_assoc p (47 ∷ []) d.component) (ap (λ k. is_le (slice_cmp nat_cmp k x)) (sym d.joined) ∙ ap is_le less) in
    let upto : is_le (slice_cmp nat_cmp x ((p ++ 47 ∷ []) ++ z)) ≡ true = rw (append_assoc p (47 ∷ []) z) (ap (λ k. is_le (slice_cmp nat_cmp x k)) (sym d.last_joined) ∙ le) in
    let r = squeeze (p ++ 47 ∷ []) d.component z x from upto in
    no_child_below x name d.deeper r.0 named (r.1 ∙ append_assoc p (47 ∷ []) r.0)

-- ---- what is left behind the last one

abbrev behind : List ℕ → List ℕ → Bool
behind last key = range_contains (slice_cmp nat_cmp) (Excluded last) Unbounded key

behind_up : (last x y : List ℕ) → slice_cmp nat_cmp x y ≡ Less → behind last x ≡ true → behind last y ≡ true
behind_up last x y less h = let e = nat_list_cmp_total.trans last x y (lt_is _ (both _ _ h).0) less in rw e refl

pub key_up_to : (key name last : List ℕ) → IsDeep key name last → is_le (slice_cmp nat_cmp key last) ≡ true
key_up_to key name last d = rw (d.joined, d.last_joined, same_front (name ++ 47 ∷ d.deeper) (47 ∷ d.component) (47 ∷ repeat d.count (codes "z"))) d.up_to

key_not_behind : (key last : List ℕ) → is_le (slice_cmp nat_cmp key last) ≡ true → behind last key ≡ false
key_not_behind key last h =
    (elim (slice_cmp nat_cmp last key) as (λ o. slice_cmp nat_cmp last key ≡ o → (is_lt o && true) ≡ false) [
      | Less ↦ (λ e. let f : slice_cmp nat_cmp key last ≡ Greater = nat_list_cmp_total.antisymm key last ∙ ap ordering_reverse e in absurd (let g = ap is_le f in cc))
      | Equal ↦ (λ e. refl)
      | Greater ↦ (λ e. refl)
    ]) refl

up_to_last : (x last : List ℕ) → behind last x ≡ false → is_le (slice_cmp nat_cmp x last) ≡ true
up_to_last x last h =
    (elim (slice_cmp nat_cmp last x) as (λ o. slice_cmp nat_cmp last x ≡ o → (is_lt o && true) ≡ false → is_le (slice_cmp nat_cmp x last) ≡ true) [
      | Less ↦ (λ e f. absurd (cc))
      | Equal ↦ (λ e f. ap is_le (nat_list_cmp_total.antisymm x last ∙ ap ordering_reverse e))
      | Greater ↦ (λ e f. ap is_le (nat_list_cmp_total.antisymm x last ∙ ap ordering_reverse e))
    ]) refl h

before_not_behind : (key last x : List ℕ) → is_le (slice_cmp nat_cmp key last) ≡ true → slice_cmp nat_cmp x key ≡ Less → behind last x ≡ false
before_not_behind key last x h less =
    (elim (behind last x) as (λ v. behind last x ≡ v → v ≡ false) [
      | true ↦ (λ e. let f = behind_up last x key less e in let g = key_not_behind key last h in absurd (cc))
      | false ↦ (λ e. refl)
    ]) refl

pub middle : (P : List ℕ → Type 0) (front rest : Nodes) (e : List ℕ × Node) → AllByRecursion P (keys_of (front ++ e ∷ rest)) → P e.0
middle P [] rest e h = h.0
middle P (f ∷ front) rest e h = middle P front rest e h.1

only_rest : (p : List ℕ → Bool) (front rest : Nodes) (e : List ℕ × Node) → ((x : List ℕ) → slice_cmp nat_cmp x e.0 ≡ Less → p x ≡ false) → p e.0 ≡ false → IsStrictlySortedBy (slice_cmp nat_cmp) (keys_of (front ++ e ∷ rest)) → filter (λ e. p e.0) (front ++ e ∷ rest) ≡ filter (λ e. p e.0) rest
unfolding IsStrictlySortedBy
only_rest p [] rest e below at s = rw at refl
only_rest p (f ∷ front) rest e below at s =
    let q : p f.0 ≡ false = below f.0 (middle (λ y. slice_cmp nat_cmp f.0 y ≡ Less) front rest e s.0) in
    rw q (only_rest p front rest e below at s.1)

passed : (key name last : List ℕ) (ks : List (List ℕ)) → IsDeep key name last → AllByRecursion (λ x. slice_cmp nat_cmp key x ≡ Less) ks → AllByRecursion (λ x. is_name x ≡ true) ks → filter (childish name) (filter (behind last) ks) ≡ filter (childish name) ks
passed key name last [] d less names = refl
passed key name last (x ∷ ks) d less names =
    let t = passed key name last ks d less.1 names.1 in
    (elim (behind last x) as (λ v. behind last x ≡ v → filter (childish name) (cond v (x ∷ filter (behind last) ks) (filter (behind last) ks)) ≡ cond (is_child x name) (x ∷ filter (childish name) ks) (filter (childish name) ks)) [
      | true ↦ (λ e. elim (is_child x name) as (λ w. cond w (x ∷ filter (childish name) (filter (behind last) ks)) (filter (childish name) (filter (behind last) ks)) ≡ cond w (x ∷ filter (childish name) ks) (filter (childish name) ks)) [ true ↦ ap (λ l. x ∷ l) t | false ↦ t ])
      | false ↦ (λ e. let c = no_child_between key name last x d names.0 less.0 (up_to_last x last e) in rw c t)
    ]) refl

-- ---- the walk goes on behind the last one

-- what is left is a part of what was left before
record IsJump (nodes : Nodes) (name : List ℕ) (names : List (List ℕ)) (rest jumped : Nodes) : Type 0 where
  pub walked : Walked nodes name names jumped
  pub part : (p : List ℕ → Bool) × (jumped ≡ filter (λ e. p e.0) rest)

jump_by : (nodes : Nodes) (name : List ℕ) (names : List (List ℕ)) (e : List ℕ × Node) (rest : Nodes) (last : List ℕ) → Walked nodes name names (e ∷ rest) → is_child e.0 name ≡ false → IsDeep e.0 name last → IsJump nodes name names rest (filter (λ e. behind last e.0) nodes)
unfolding IsStrictlySortedBy
jump_by nodes name names e rest last v child d =
    let le = key_up_to e.0 name last d in
    let sorted : IsStrictlySortedBy (slice_cmp nat_cmp) (keys_of (v.front ++ e ∷ rest)) = rw v.whole at v.ordered.in_order in
    let is : filter (λ e. behind last e.0) nodes ≡ filter (λ e. behind last e.0) rest =
    ap (filter (λ e. behind last e.0)) v.whole ∙ only_rest (behind last) v.front rest e (λ x less. before_not_behind e.0 last x le less) (key_not_behind e.0 last le) sorted in
    let kept : filter (childish name) (keys_of (filter (λ e. behind last e.0) rest)) ≡ filter (childish name) (keys_of rest) =
    ap (filter (childish name)) (range_keys (behind last) rest) ∙ passed e.0 name last (keys_of rest) d v.below.in_order.0 v.below.names.1 in
    let off = split_off (behind last) (behind_up last) nodes v.ordered.in_order in
    record {
      walked = record {
        so_far = rw (is, kept) (rw child at v.so_far);
        below = rw is (record {
          in_order = rw (range_keys (behind last) rest) (IsStrictlySortedBy-filter (slice_cmp nat_cmp) (behind last) (keys_of rest) v.below.in_order.1);
          names = rw (range_keys (behind last) rest) (all_filter (λ key. is_name key ≡ true) (behind last) (keys_of rest) v.below.names.1);
          behind = rw (range_keys (behind last) rest) (all_filter (λ key. is_le (slice_cmp nat_cmp (name ++ codes "/-") key) ≡ true) (behind last) (keys_of rest) v.below.behind.1);
        });
        ordered = v.ordered;
        front = off.0;
        whole = off.1;
      };
      part = (behind last, is);
    }

jump_at : (nodes : Nodes) (name : List ℕ) (names : List (List ℕ)) (e : List ℕ × Node) (rest all got : Nodes) (last : List ℕ) → all ≡ e ∷ rest → Walked nodes name names all → is_under e.0 name ≡ true → is_child e.0 name ≡ false → Some last ≡ last_sibling_of e.0 → got ≡ entries_between (slice_cmp nat_cmp) (Excluded last) Unbounded nodes → IsJump nodes name names rest got
jump_at nodes name names e rest all got last q w under child h g =
    let v : Walked nodes name names (e ∷ rest) = rw q at w in
    rw g (jump_by nodes name names e rest last v child (deep_form e.0 name last v.below.names.0 under child h))

pub walk_jump : (nodes : Nodes) (name : List ℕ) (names : List (List ℕ)) (e : List ℕ × Node) (rest all got : Nodes) (last : List ℕ) → all ≡ e ∷ rest → Walked nodes name names all → is_under e.0 name ≡ true → is_child e.0 name ≡ false → Some last ≡ last_sibling_of e.0 → got ≡ entries_between (slice_cmp nat_cmp) (Excluded last) Unbounded nodes → Walked nodes name names got
walk_jump nodes name names e rest all got last q w under child h g = (jump_at nodes name names e rest all got last q w under child h g).walked

fewer : (p : List ℕ → Bool) (es : Nodes) → length (filter (λ e. p e.0) es) ≤ length es
fewer p [] = omega arith
fewer p (e ∷ es) = elim (p e.0) as (λ v. length (cond v (e ∷ filter (λ e. p e.0) es) (filter (λ e. p e.0) es)) ≤ suc (length es)) [ true ↦ omega (arith, fewer p es) | false ↦ omega (arith, fewer p es) ]

pub jump_ends : (nodes : Nodes) (name : List ℕ) (names : List (List ℕ)) (e : List ℕ × Node) (rest all got : Nodes) (last : List ℕ) → all ≡ e ∷ rest → Walked nodes name names all → is_under e.0 name ≡ true → is_child e.0 name ≡ false → Some last ≡ last_sibling_of e.0 → got ≡ entries_between (slice_cmp nat_cmp) (Excluded last) Unbounded nodes → length got < length all
jump_ends nodes name names e rest all got last q w under child h g =
    let j = (jump_at nodes name names e rest all got last q w under child h g).part in
    omega (arith, ap length q, ap length j.1, fewer j.0 rest)
