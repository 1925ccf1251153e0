-- Components, and names that are made of them.
use Rattle.std.proofs.Common.{◌≡◌, ℕ, suc, ◌+◌, ◌≤◌, List, [], ◌∷◌, ◌++◌, length, take, Bool, true, false, cond, refl, sym, ap, ◌∙◌, arith, length-append, Some, None}
use Rattle.std.specs.Prelude.{not, nat_le, ◌&&◌, codes}
use Rattle.std.specs.List.{list_all, slice_split, onto_first, before_first, position_or_len, All}
use Rattle.std.specs.Str.{bytes_eq}
use Rattle.std.proofs.lemmas.List.Sums.{AllPass-from_list_all}
use Rattle.std.proofs.lemmas.List.Splits.{slice_split_none, slice_split_at}
use Rattle.std.proofs.lemmas.Bool.Decides.{nat_tests}
use Rattle.std.proofs.lemmas.Bool.{le-leb}
use Rattle.names_cell.specs.Text.{is_component, is_component_byte, is_slash, is_name, front_of, parent_of, cell_of, root_of}

pub both : (a b : Bool) → (a && b) ≡ true → (a ≡ true) × (b ≡ true)
both true b h = (refl, h)
both false b h = cc

-- what a component is
pub record IsComponent (text : List ℕ) : Type 0 where
  pub some : nat_le 1 (length text) ≡ true
  pub short : nat_le (length text) 64 ≡ true
  pub bytes : list_all is_component_byte text ≡ true

pub parts_of_component : (text : List ℕ) → is_component text ≡ true → IsComponent text
parts_of_component text h =
    let t = both _ _ h in
    let u = both _ _ t.0 in
    let v = both _ _ u.0 in
    record { some = v.0; short = v.1; bytes = t.1 }

byte_no_slash : (b : ℕ) → is_component_byte b ≡ true → is_slash b ≡ false
byte_no_slash b h = grind (arith, nat_tests)

-- there is no slash in it
pub no_slash : (text : List ℕ) → is_component text ≡ true → All (λ b. is_slash b ≡ false) text
no_slash text h = λ k d l. byte_no_slash _ (AllPass-from_list_all is_component_byte text (parts_of_component text h).bytes k d l)

-- the empty text is none
pub no_component : (text : List ℕ) → is_component text ≡ true → bytes_eq [] text ≡ false
no_component [] h = absurd (cc)
no_component (b ∷ bs) h = refl

front_more : (b n : ℕ) (bs : List ℕ) → take (1 + n) (b ∷ bs) ≡ b ∷ take n bs
front_more b n bs = let e : 1 + n ≡ suc n = omega arith in rw e refl

-- the first part is what stands before the first slash
split_first : (bs : List ℕ) → (parts : List (List ℕ)) × (slice_split is_slash bs ≡ before_first is_slash bs ∷ parts)
split_first [] = ([], refl)
split_first (b ∷ bs) =
    let t = split_first bs in
    let n : ℕ = position_or_len is_slash bs in
    elim (is_slash b) as (λ v. (parts : List (List ℕ)) × (cond v ([] ∷ slice_split is_slash bs) (onto_first b (slice_split is_slash bs)) ≡ take (cond (not v) (1 + n) 0) (b ∷ bs) ∷ parts))
    [ true ↦ (slice_split is_slash bs, refl) | false ↦ (t.0, ap (onto_first b) t.1 ∙ ap (λ f. f ∷ t.0) (sym (front_more b n bs))) ]

pub first_is_component : (path : List ℕ) → list_all is_component (slice_split is_slash path) ≡ true → is_component (before_first is_slash path) ≡ true
first_is_component path h = let t = split_first path in (both _ _ (rw t.1 at h)).0

short_file : (cell acl : List ℕ) → length cell ≤ 64 → length acl ≤ 64 → length (codes "/ls/" ++ (cell ++ (codes "/acl/" ++ acl))) ≤ 512
short_file cell acl c a = omega (arith, length-append cell (codes "/acl/" ++ acl))

length_of : (text : List ℕ) → is_component text ≡ true → length text ≤ 64
length_of text h = let e : nat_le (length text) 64 ≡ true = (parts_of_component text h).short in grind (arith, nat_tests)

pub acl_file_is_name : (cell acl : List ℕ) → is_component cell ≡ true → is_component acl ≡ true → is_name (codes "/ls/" ++ (cell ++ (codes "/acl/" ++ acl))) ≡ true
acl_file_is_name cell acl c a =
    let e = le-leb (length (codes "/ls/" ++ (cell ++ (codes "/acl/" ++ acl)))) 512 (short_file cell acl (length_of cell c) (length_of acl a)) in
    let s = slice_split_at is_slash cell 47 (97 ∷ 99 ∷ 108 ∷ 47 ∷ acl) (no_slash cell c) refl in
    let n = slice_split_none is_slash acl (no_slash acl a) in
    rw e (rw (s, c, n, a) refl)

pub root_is_name : (cell : List ℕ) → is_component cell ≡ true → is_name (codes "/ls/" ++ cell) ≡ true
root_is_name cell c =
    let n = length_of cell c in
    let e = le-leb (length (codes "/ls/" ++ cell)) 512 (omega arith) in
    rw e (rw (slice_split_none is_slash cell (no_slash cell c), c) refl)

-- a text without a slash stands before its first slash
all_before : (bs : List ℕ) → list_all is_component_byte bs ≡ true → before_first is_slash bs ≡ bs
all_before [] h = refl
all_before (b ∷ bs) h =
    let t = both (is_component_byte b) (list_all is_component_byte bs) h in
    let n : ℕ = position_or_len is_slash bs in
    let e : is_slash b ≡ false = byte_no_slash b t.0 in
    rw e (front_more b n bs ∙ ap (λ f. b ∷ f) (all_before bs t.1))

before_joined : (bs more : List ℕ) → list_all is_component_byte bs ≡ true → before_first is_slash (bs ++ 47 ∷ more) ≡ bs
before_joined [] more h = refl
before_joined (b ∷ bs) more h =
    let t = both (is_component_byte b) (list_all is_component_byte bs) h in
    let n : ℕ = position_or_len is_slash (bs ++ 47 ∷ more) in
    let e : is_slash b ≡ false = byte_no_slash b t.0 in
    rw e (front_more b n (bs ++ 47 ∷ more) ∙ ap (λ f. b ∷ f) (before_joined bs more t.1))

no_front : (bs : List ℕ) → list_all is_component_byte bs ≡ true → front_of bs ≡ None
no_front [] h = refl
no_front (b ∷ bs) h =
    let t = both (is_component_byte b) (list_all is_component_byte bs) h in
    let e : is_slash b ≡ false = byte_no_slash b t.0 in
    rw (no_front bs t.1, e) refl

pub front_joined : (front last : List ℕ) → front_of last ≡ None → front_of (front ++ 47 ∷ last) ≡ Some front
front_joined [] last h = rw h refl
front_joined (b ∷ front) last h = rw (front_joined front last h) refl

-- the cell of a cell's root, and of what stands below it
pub cell_of_root : (cell : List ℕ) → is_component cell ≡ true → cell_of (root_of cell) ≡ cell
cell_of_root cell c = all_before cell (parts_of_component cell c).bytes

pub cell_of_below : (cell more : List ℕ) → is_component cell ≡ true → cell_of (root_of cell ++ 47 ∷ more) ≡ cell
cell_of_below cell more c = before_joined cell more (parts_of_component cell c).bytes

pub no_parent_of_root : (cell : List ℕ) → is_component cell ≡ true → parent_of (root_of cell) ≡ None
no_parent_of_root cell c = rw (no_front cell (parts_of_component cell c).bytes) refl

-- a name and a component behind it
pub parent_of_joined : (front last : List ℕ) → is_component last ≡ true → parent_of (codes "/ls/" ++ (front ++ 47 ∷ last)) ≡ Some (codes "/ls/" ++ front)
parent_of_joined front last c = rw (front_joined front last (no_front last (parts_of_component last c).bytes)) refl
