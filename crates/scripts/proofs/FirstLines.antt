-- The first line of a text, and the lines after it.
use Rattle.std.proofs.Common.{◌≡◌, ◌≢◌, ℕ, suc, ◌+◌, ◌-◌, ◌≤◌, min, arith, List, [], ◌∷◌, ◌++◌, length, take, Bool, true, false, cond, Option, Some, None, refl, sym, ap, subst, ◌∙◌}
use Rattle.std.specs.Prelude.{◌==◌, ◌&&◌, nat_lt, slice_index}
use Rattle.std.proofs.lemmas.List.{append-nil, append_assoc}
use Rattle.std.specs.List.{slice_split}
use Rattle.std.specs.Io.BufRead.{take_through, drop_through, ends_with_byte, strip_last, first_piece}
use Rattle.std.specs.Io.KnownBytes.{IsAtEnd}
use Rattle.std.specs.List.{onto_first}
use Rattle.names_cell.specs.Text.{is_line_feed, lines_of_parts, text_lines}
use Rattle.scripts.specs.Texts.{Passes, AreLines, FillsFrom, Reading}

-- there is always a first part
record IsCons (xs : List (List ℕ)) : Type 0 where
  part : List ℕ
  parts : List (List ℕ)
  is : xs ≡ part ∷ parts

onto_part : (b : Bool) (x : ℕ) (xs : List (List ℕ)) → IsCons xs → IsCons (cond b ([] ∷ xs) (onto_first x xs))
onto_part true x xs h = record { part = []; parts = xs; is = refl }
onto_part false x xs h = record { part = x ∷ h.part; parts = h.parts; is = ap (onto_first x) h.is }

some_part : (xs : List ℕ) → IsCons (slice_split is_line_feed xs)
some_part [] = record { part = []; parts = []; is = refl }
some_part (x ∷ xs) = onto_part (is_line_feed x) x (slice_split is_line_feed xs) (some_part xs)

behind_feed : (xs : List (List ℕ)) → IsCons xs → lines_of_parts ([] ∷ xs) ≡ [] ∷ lines_of_parts xs
behind_feed xs h = subst (λ ys. lines_of_parts ([] ∷ ys) ≡ [] ∷ lines_of_parts ys) (sym h.is) refl

longer_line : (b : ℕ) (parts : List (List ℕ)) (line : List ℕ) (rest : List (List ℕ)) → lines_of_parts parts ≡ line ∷ rest → lines_of_parts (onto_first b parts) ≡ (b ∷ line) ∷ rest
longer_line b [] line rest h = cc
longer_line b ([] ∷ []) line rest h = cc
longer_line b ((x ∷ xs) ∷ []) line rest h = cc
longer_line b (x ∷ y ∷ more) line rest h = cc

some_length : (b : ℕ) (xs : List ℕ) → nat_lt 0 (length (b ∷ xs)) ≡ true
some_length b xs = grind arith

longer_piece : (b c : ℕ) (xs : List ℕ) → strip_last 10 (b ∷ c ∷ xs) ≡ b ∷ strip_last 10 (c ∷ xs)
longer_piece b c xs =
    let less : length (b ∷ c ∷ xs) - 1 ≡ suc (length (c ∷ xs) - 1) = omega arith in
    ap (λ n. cond (nat_lt 0 (length (b ∷ c ∷ xs)) && (slice_index (b ∷ c ∷ xs) n == 10)) (take n (b ∷ c ∷ xs)) (b ∷ c ∷ xs)) less
    ∙ ap (λ t. cond (t && (slice_index (c ∷ xs) (length (c ∷ xs) - 1) == 10)) (b ∷ take (length (c ∷ xs) - 1) (c ∷ xs)) (b ∷ c ∷ xs)) (some_length b (c ∷ xs) ∙ sym (some_length c xs))
    ∙ elim (ends_with_byte 10 (c ∷ xs)) as (λ e. cond e (b ∷ take (length (c ∷ xs) - 1) (c ∷ xs)) (b ∷ c ∷ xs) ≡ b ∷ cond e (take (length (c ∷ xs) - 1) (c ∷ xs)) (c ∷ xs)) [ true ↦ refl | false ↦ refl ]

record BeginsWith (b : ℕ) (xs : List ℕ) : Type 0 where
  rest : List ℕ
  is : xs ≡ b ∷ rest

begins_by : (e : Bool) (b : ℕ) (xs : List ℕ) → BeginsWith b (cond e (b ∷ []) (b ∷ xs))
begins_by true b xs = record { rest = []; is = refl }
begins_by false b xs = record { rest = xs; is = refl }

stripped : (b c : ℕ) (xs : List ℕ) → BeginsWith c xs → strip_last 10 (b ∷ xs) ≡ b ∷ strip_last 10 xs
stripped b c xs h = subst (λ ys. strip_last 10 (b ∷ ys) ≡ b ∷ strip_last 10 ys) (sym h.is) (longer_piece b c h.rest)

first_by : (e : Bool) (b : ℕ) (xs : List ℕ) → (b == 10) ≡ e
    → ((c : ℕ) (ys : List ℕ) → xs ≡ c ∷ ys → text_lines xs ≡ first_piece 10 xs ∷ text_lines (drop_through 10 xs))
    → lines_of_parts (cond e ([] ∷ slice_split is_line_feed xs) (onto_first b (slice_split is_line_feed xs)))
    ≡ strip_last 10 (cond e (b ∷ []) (b ∷ take_through 10 xs)) ∷ text_lines (cond e xs (drop_through 10 xs))
first_by true b xs is behind =
    behind_feed (slice_split is_line_feed xs) (some_part xs) ∙ ap (λ e. cond e [] (b ∷ []) ∷ text_lines xs) (sym is)
first_by false b [] is behind = ap (λ e. cond e [] (b ∷ []) ∷ []) (sym is)
first_by false b (c ∷ ys) is behind =
    longer_line b (slice_split is_line_feed (c ∷ ys)) (first_piece 10 (c ∷ ys)) (text_lines (drop_through 10 (c ∷ ys))) (behind c ys refl)
    ∙ ap (λ line. line ∷ text_lines (drop_through 10 (c ∷ ys))) (sym (stripped b c (take_through 10 (c ∷ ys)) (begins_by (c == 10) c (take_through 10 ys))))

pub first_line : (b : ℕ) (xs : List ℕ) → text_lines (b ∷ xs) ≡ first_piece 10 (b ∷ xs) ∷ text_lines (drop_through 10 (b ∷ xs))
first_line b [] = first_by (b == 10) b [] refl (λ c ys e. cc)
first_line b (x ∷ xs) = first_by (b == 10) b (x ∷ xs) refl (λ c ys e. first_line x xs)

-- ---- what was read

pub advanced : (before after : Option (List ℕ)) (whole line : List ℕ) → FillsFrom before after whole → whole ≢ [] → line ≡ strip_last 10 whole → Passes before (line ∷ []) after
advanced None after whole line h some is = tt
advanced (Some []) after whole line h some is = absurd (some h.0)
advanced (Some (b ∷ xs)) after whole line h some is =
    let same : first_piece 10 (b ∷ xs) ≡ line = ap (strip_last 10) (sym h.0) ∙ sym is in
    subst (Passes (Some (b ∷ xs)) (line ∷ [])) (sym h.1)
    (first_line b xs ∙ ap (λ x. x ∷ text_lines (drop_through 10 (b ∷ xs))) same)

-- the same, of a line whose count of bytes is told
pub advanced_by : (count : ℕ) (told old filled seen : Reading) (rest : Option (List ℕ)) (line : List ℕ) → told ≡ old → rest ≡ told.rest → FillsFrom rest filled.rest filled.line → length filled.line ≡ count → seen ≡ filled → count ≢ 0 → line ≡ strip_last 10 seen.line → Passes old.rest (line ∷ []) seen.rest
advanced_by count told old filled seen rest line first start h counted same some is =
    let whole : line ≡ strip_last 10 filled.line = is ∙ ap (λ (r : Reading). strip_last 10 r.line) same in
    let bytes : filled.line ≢ [] = λ e. some (sym counted ∙ ap length e) in
    let from : rest ≡ old.rest = start ∙ ap (λ (r : Reading). r.rest) first in
    subst (λ r. Passes r (line ∷ []) seen.rest) from
    (subst (λ (r : Reading). Passes rest (line ∷ []) r.rest) (sym same) (advanced rest filled.rest filled.line line h bytes whole))

pub next_number : (number last : ℕ) (told old filled seen : Reading) → number ≡ min (last + 1) 18446744073709551615 → told ≡ old → last ≡ told.number → filled.number ≡ number → seen ≡ filled → seen.number ≤ 1000000 → seen.number ≡ old.number + 1
next_number number last told old filled seen is first start h same few =
    let a : last ≡ old.number = start ∙ ap (λ (r : Reading). r.number) first in
    let b : seen.number ≡ number = ap (λ (r : Reading). r.number) same ∙ h in
    grind arith

-- that of a line that can't be done
pub next_stop : (number last : ℕ) (told old filled seen : Reading) → number ≡ min (last + 1) 18446744073709551615 → told ≡ old → last ≡ told.number → filled.number ≡ number → seen ≡ filled → old.number ≤ 1000000 → seen.number ≡ old.number + 1
next_stop number last told old filled seen is first start h same few =
    let a : last ≡ old.number = start ∙ ap (λ (r : Reading). r.number) first in
    let b : seen.number ≡ number = ap (λ (r : Reading). r.number) same ∙ h in
    grind arith

pub passes_none : (text : Option (List ℕ)) → Passes text [] text
passes_none None = tt
passes_none (Some text) = refl

pub passes_more : (text mid after : Option (List ℕ)) (front back : List (List ℕ)) → Passes text front mid → Passes mid back after → Passes text (front ++ back) after
passes_more None mid after front back h k = tt
passes_more (Some text) None after front back h k = absurd h
passes_more (Some text) (Some rest) None front back h k = absurd k
passes_more (Some text) (Some rest) (Some last) front back h k = h ∙ ap (λ xs. front ++ xs) k ∙ sym (append_assoc front back (text_lines last))

pub passes_all : (text after : Option (List ℕ)) (texts : List (List ℕ)) → Passes text texts after → IsAtEnd after → AreLines text texts
passes_all None after texts h k = tt
passes_all (Some text) None texts h k = absurd h
passes_all (Some text) (Some rest) texts h k = sym (append-nil texts) ∙ ap (λ xs. texts ++ text_lines xs) (sym k) ∙ sym h

pub passes_whole : (text : Option (List ℕ)) (texts : List (List ℕ)) → AreLines text texts → Passes text texts (Some [])
passes_whole None texts h = tt
passes_whole (Some text) texts h = sym h ∙ sym (append-nil texts)
