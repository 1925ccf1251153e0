-- What a group changes, in pieces that the store takes.
use Rattle.std.proofs.Common.{◌≡◌, ◌≢◌, inl, inr, ℕ, ◌≤◌, ◌+◌, ◌-◌, Bool, true, false, ◌&&◌, nat_le, List, [], ◌∷◌, ◌++◌, length, None, Some, refl, sym, ap, subst, ◌∙◌, arith, append-nil, append_assoc, length-append, if◌then◌else◌, suc, take, drop, get_or, take-suc, ◌<◌}
use Rattle.std.specs.Prelude.{◌⊎◌, Result, Ok, Err, OnOk, IfErr}
use Rattle.node_core.specs.declared.refusals.Fault.{Fault}
use Rattle.rows_cell.specs.declared.tables.Edit.{Edit}
use Rattle.rows_cell.specs.declared.tables.Rows.{Rows}
use Rattle.rows_cell.specs.Rows.{changed_rows}
use Rattle.rows_cell.specs.Sound.{sound}
use Rattle.rows_cell.specs.Stores.{Store, left_by, IsCommitted, IsRefused}
use Rattle.hosting.specs.declared.pieces.GroupLimits.{GroupLimits}
use Rattle.hosting.specs.Pieces.{HeldPieces, AreSound, AreTaken, CommitsEach, IsCutShort, IsOneSweep, all_held, all_pieces, begun, bytes_left, full_with, held_with, is_within, joined, no_pieces, room_beside, total_weight}
use Rattle.std.proofs.lemmas.Bool.Decides.{nat_tests}
use Rattle.std.proofs.lemmas.List.{take-append-drop}
use Rattle.hosting.proofs.HeldBack.{changed_behind, left_behind}

-- ---- what is within the limits

pub total_behind : (front back : List Edit) → total_weight (front ++ back) ≡ total_weight front + total_weight back
total_behind [] back = omega arith
total_behind (edit ∷ front) back = omega (arith, total_behind front back)

-- ---- all that is held

pub joined_behind : (front : List (List Edit)) (piece : List Edit) → joined (front ++ piece ∷ []) ≡ joined front ++ piece
joined_behind [] piece = append-nil piece
joined_behind (first ∷ front) piece = ap (λ (u : List Edit). first ++ u) (joined_behind front piece) ∙ sym (append_assoc first (joined front) piece)

full_joined : (full : List (List Edit)) (last : List Edit) → joined (full_with full last) ≡ joined full ++ last
full_joined full [] = sym (append-nil (joined full))
full_joined full (edit ∷ last) = joined_behind full (edit ∷ last)

begun_all : (held : HeldPieces) (edits : List Edit) → all_held (begun held edits) ≡ all_held held ++ edits
begun_all held edits =
    joined_behind (full_with held.full held.last) edits ∙ ap (λ (u : List Edit). u ++ edits) (full_joined held.full held.last ∙ sym (joined_behind held.full held.last))

beside_all : (held : HeldPieces) (edits : List Edit) → all_held (record held { last = held.last ++ edits }) ≡ all_held held ++ edits
beside_all held edits =
    joined_behind held.full (held.last ++ edits) ∙ sym (append_assoc (joined held.full) held.last edits) ∙ ap (λ (u : List Edit). u ++ edits) (sym (joined_behind held.full held.last))

-- whichever piece they go into
pub by_room : (P : HeldPieces → Type 0) (held : HeldPieces) (edits : List Edit) (within : Bool) → (within ≡ true → P (record held { last = held.last ++ edits })) → P (begun held edits)
    → P (if within then record held { last = held.last ++ edits } else begun held edits)
by_room P held edits true beside begins = beside refl
by_room P held edits false beside begins = begins

pub held_all : (held : HeldPieces) (edits : List Edit) → all_held (held_with held edits) ≡ all_held held ++ edits
held_all held [] = sym (append-nil (all_held held))
held_all held (edit ∷ edits) =
    let P : HeldPieces → Type 0 = λ h. all_held h ≡ all_held held ++ edit ∷ edits in
    by_room P held (edit ∷ edits) (is_within held.limits (held.last ++ edit ∷ edits)) (λ w. beside_all held (edit ∷ edits)) (begun_all held (edit ∷ edits))

pub held_limits : (held : HeldPieces) (edits : List Edit) → (held_with held edits).limits ≡ held.limits
held_limits held [] = refl
held_limits held (edit ∷ edits) =
    let P : HeldPieces → Type 0 = λ h. h.limits ≡ held.limits in
    by_room P held (edit ∷ edits) (is_within held.limits (held.last ++ edit ∷ edits)) (λ w. refl) refl

-- ---- each piece is taken

Taken : GroupLimits → List Edit → Type 0
Taken limits piece = (is_within limits piece ≡ true) ⊎ IsOneSweep piece

taken_front : (limits : GroupLimits) (front : List (List Edit)) (piece : List Edit) → AreTaken limits (front ++ piece ∷ []) → AreTaken limits front
taken_front limits [] piece t = tt
taken_front limits (first ∷ front) piece t = (t.0, taken_front limits front piece t.1)

taken_with : (limits : GroupLimits) (front : List (List Edit)) (piece : List Edit) → AreTaken limits front → (is_within limits piece ≡ true) ⊎ IsOneSweep piece → AreTaken limits (front ++ piece ∷ [])
taken_with limits [] piece t so = (so, tt)
taken_with limits (first ∷ front) piece t so = (t.0, taken_with limits front piece t.1 so)

taken_full : (limits : GroupLimits) (full : List (List Edit)) (last : List Edit) → AreTaken limits (full ++ last ∷ []) → AreTaken limits (full_with full last)
taken_full limits full [] t = taken_front limits full [] t
taken_full limits full (edit ∷ last) t = t

pub held_taken : (held : HeldPieces) (edits : List Edit) → AreTaken held.limits (all_pieces held) → IsOneSweep edits → AreTaken (held_with held edits).limits (all_pieces (held_with held edits))
held_taken held [] t one = t
held_taken held (edit ∷ edits) t one =
    let P : HeldPieces → Type 0 = λ h. AreTaken h.limits (all_pieces h) in
    by_room P held (edit ∷ edits) (is_within held.limits (held.last ++ edit ∷ edits))
    (λ w. taken_with held.limits held.full (held.last ++ edit ∷ edits) (taken_front held.limits held.full held.last t) (inl w))
    (taken_with held.limits (full_with held.full held.last) (edit ∷ edits) (taken_full held.limits held.full held.last t) (inr one))

pub none_taken : (limits : GroupLimits) → AreTaken limits (all_pieces (no_pieces limits))
none_taken limits = (inl (grind (arith, nat_tests)), tt)

-- ---- the rows are sound after each

joined_one : (rows : Rows) (piece : List Edit) → changed_rows rows (joined (piece ∷ [])) ≡ changed_rows rows piece
joined_one rows piece = ap (changed_rows rows) (append-nil piece)

pub sound_front : (cell : List ℕ) (rows : Rows) (front : List (List Edit)) (piece : List Edit) → AreSound cell rows (front ++ piece ∷ []) → AreSound cell rows front
sound_front cell rows [] piece s = tt
sound_front cell rows (first ∷ front) piece s = (s.0, sound_front cell (changed_rows rows first) front piece s.1)

sound_with : (cell : List ℕ) (rows : Rows) (front : List (List Edit)) (piece : List Edit) → AreSound cell rows front → sound cell (changed_rows rows (joined front ++ piece)) ≡ true → AreSound cell rows (front ++ piece ∷ [])
sound_with cell rows [] piece s is = (is, tt)
sound_with cell rows (first ∷ front) piece s is =
    let same : changed_rows rows ((first ++ joined front) ++ piece) ≡ changed_rows (changed_rows rows first) (joined front ++ piece) =
    ap (changed_rows rows) (append_assoc first (joined front) piece) ∙ changed_behind rows first (joined front ++ piece) in
    let P : Rows → Type 0 = λ r. sound cell r ≡ true in
    (s.0, sound_with cell (changed_rows rows first) front piece s.1 (subst P same is))

sound_full : (cell : List ℕ) (rows : Rows) (full : List (List Edit)) (last : List Edit) → AreSound cell rows (full ++ last ∷ []) → AreSound cell rows (full_with full last)
sound_full cell rows full [] s = sound_front cell rows full [] s
sound_full cell rows full (edit ∷ last) s = s

pub held_sound : (cell : List ℕ) (rows : Rows) (held : HeldPieces) (edits : List Edit) → AreSound cell rows (all_pieces held) → sound cell (changed_rows rows (all_held held ++ edits)) ≡ true
    → AreSound cell rows (all_pieces (held_with held edits))
held_sound cell rows held [] s is = s
held_sound cell rows held (edit ∷ edits) s is =
    let P : HeldPieces → Type 0 = λ h. AreSound cell rows (all_pieces h) in
    let Q : List Edit → Type 0 = λ u. sound cell (changed_rows rows u) ≡ true in
    let before : all_held held ≡ joined held.full ++ held.last = joined_behind held.full held.last in
    let beside : Q (joined held.full ++ (held.last ++ edit ∷ edits)) =
    subst Q (ap (λ (u : List Edit). u ++ edit ∷ edits) before ∙ append_assoc (joined held.full) held.last (edit ∷ edits)) is in
    let begins : Q (joined (full_with held.full held.last) ++ edit ∷ edits) =
    subst Q (ap (λ (u : List Edit). u ++ edit ∷ edits) (before ∙ sym (full_joined held.full held.last))) is in
    by_room P held (edit ∷ edits) (is_within held.limits (held.last ++ edit ∷ edits))
    (λ w. sound_with cell rows held.full (held.last ++ edit ∷ edits) (sound_front cell rows held.full held.last s) beside)
    (sound_with cell rows (full_with held.full held.last) (edit ∷ edits) (sound_full cell rows held.full held.last s) begins)

pub none_sound : (cell : List ℕ) (rows : Rows) (limits : GroupLimits) → sound cell rows ≡ true → AreSound cell rows (all_pieces (no_pieces limits))
none_sound cell rows limits is = (is, tt)

-- ---- their commits

committed_then : (front back : List Edit) (old mid new : Store) → IsCommitted front old mid → IsCommitted back mid new → IsCommitted (front ++ back) old new
committed_then front back old mid new c d = record {
  cell = d.cell ∙ c.cell;
  rows = d.rows ∙ ap (λ (r : Rows). changed_rows r back) c.rows ∙ sym (changed_behind old.rows front back);
  leave = d.leave ∙ ap (λ (l : List Rows). left_by back l new.rows) c.leave ∙ sym (left_behind front back old.may_leave mid.rows new.rows (λ none. d.rows ∙ ap (changed_rows mid.rows) none));
  counted = d.counted ∙ c.counted;
  doubted = omega (arith, c.doubted, d.doubted);
}

pub each_committed : (pieces : List (List Edit)) (old new : Store) → CommitsEach pieces old new → IsCommitted (joined pieces) old new
each_committed [] old new same =
    let P : Store → Type 0 = λ s. IsCommitted [] old s in
    subst P (sym same) (record { cell = refl; rows = refl; leave = refl; counted = refl; doubted = omega arith })
each_committed (piece ∷ pieces) old new c = committed_then piece (joined pieces) old c.0 new c.1 (each_committed pieces c.0 new c.2)

pub each_then : (front back : List (List Edit)) (old mid new : Store) → CommitsEach front old mid → CommitsEach back mid new → CommitsEach (front ++ back) old new
each_then [] back old mid new c d = let P : Store → Type 0 = λ s. CommitsEach back s new in subst P c d
each_then (piece ∷ front) back old mid new c d = (c.0, c.1, each_then front back c.0 mid new c.2 d)

pub cut_then : (fault : Fault) (front back : List (List Edit)) (old mid new : Store) → CommitsEach front old mid → IsCutShort fault back mid new → IsCutShort fault (front ++ back) old new
cut_then fault front back old mid new c d =
    (front ++ d.0, d.1, d.2, d.3, ap (λ (u : List (List Edit)). front ++ u) d.4 ∙ sym (append_assoc front d.0 (d.1 ∷ d.2)), each_then front d.0 old mid d.3 c d.5, d.6)

-- the store refuses the first
pub cut_first : (fault : Fault) (piece : List Edit) (back : List (List Edit)) (old new : Store) → IsRefused fault piece old new → IsCutShort fault (piece ∷ back) old new
cut_first fault piece back old new r = ([], piece, back, old, refl, refl, r)

-- what stands after the first pieces
pub sound_after : (front back : List (List Edit)) (old mid : Store) → CommitsEach front old mid → AreSound old.cell old.rows (front ++ back) → AreSound mid.cell mid.rows back
sound_after [] back old mid c s = let P : Store → Type 0 = λ t. AreSound t.cell t.rows back in subst P (sym c) s
sound_after (piece ∷ front) back old mid c s =
    let first : IsCommitted piece old c.0 = c.1 in
    let P : List ℕ → Type 0 = λ u. AreSound u (changed_rows old.rows piece) (front ++ back) in
    let Q : Rows → Type 0 = λ r. AreSound c.0.cell r (front ++ back) in
    sound_after front back c.0 mid c.2 (subst Q (sym first.rows) (subst P (sym first.cell) s.1))

pub cut_front : (fault : Fault) (front : List (List Edit)) (last : List Edit) (old new : Store) → IsCutShort fault front old new → IsCutShort fault (front ++ last ∷ []) old new
cut_front fault front last old new d =
    (d.0, d.1, d.2 ++ last ∷ [], d.3, ap (λ (u : List (List Edit)). u ++ last ∷ []) d.4 ∙ append_assoc d.0 (d.1 ∷ d.2) (last ∷ []), d.5, d.6)

-- ---- one after the other

split_at : {X : Type 0} (xs : List X) (i : ℕ) (x : X) → i < length xs → x ≡ get_or xs i x → xs ≡ take i xs ++ x ∷ drop (suc i) xs
split_at {X = X} xs i x lt at =
    sym (take-append-drop (suc i) xs) ∙ ap (λ (u : List X). u ++ drop (suc i) xs) (take-suc xs i x lt ∙ ap (λ (y : X). take i xs ++ y ∷ []) (sym at)) ∙ append_assoc (take i xs) (x ∷ []) (drop (suc i) xs)

taken_more : {X : Type 0} (xs : List X) (i : ℕ) (x : X) → i < length xs → x ≡ get_or xs i x → take (i + 1) xs ≡ take i xs ++ x ∷ []
taken_more {X = X} xs i x lt at =
    let next : i + 1 ≡ suc i = omega arith in
    ap (λ (n : ℕ). take n xs) next ∙ take-suc xs i x lt ∙ ap (λ (y : X). take i xs ++ y ∷ []) (sym at)

pub commit_more : (pieces : List (List Edit)) (i : ℕ) (piece : List Edit) (old now new : Store) → i < length pieces → piece ≡ get_or pieces i piece → CommitsEach (take i pieces) old now → IsCommitted piece now new
    → CommitsEach (take (i + 1) pieces) old new
commit_more pieces i piece old now new lt at before c =
    let P : List (List Edit) → Type 0 = λ u. CommitsEach u old new in
    subst P (sym (taken_more pieces i piece lt at)) (each_then (take i pieces) (piece ∷ []) old now new before (new, c, refl))

pub sound_next : (pieces : List (List Edit)) (i : ℕ) (piece : List Edit) (old now : Store) → i < length pieces → piece ≡ get_or pieces i piece → AreSound old.cell old.rows pieces → CommitsEach (take i pieces) old now
    → sound now.cell (changed_rows now.rows piece) ≡ true
sound_next pieces i piece old now lt at s before =
    let P : List (List Edit) → Type 0 = λ u. AreSound old.cell old.rows u in
    (sound_after (take i pieces) (piece ∷ drop (suc i) pieces) old now before (subst P (split_at pieces i piece lt at) s)).0

pub cut_at : (fault : Fault) (pieces : List (List Edit)) (i : ℕ) (piece : List Edit) (old now new : Store) → i < length pieces → piece ≡ get_or pieces i piece → CommitsEach (take i pieces) old now → IsRefused fault piece now new
    → IsCutShort fault pieces old new
cut_at fault pieces i piece old now new lt at before r = (take i pieces, piece, drop (suc i) pieces, now, split_at pieces i piece lt at, before, r)

-- ---- how many bytes are left

some_weight : (edits : List Edit) → edits ≢ [] → 1 ≤ total_weight edits
some_weight [] none = absurd (none refl)
some_weight (edit ∷ edits) some = omega arith

room_plain : (last more most bytes there come left : ℕ) → left ≡ bytes - there → 1 ≤ come → more ≤ most → last ≤ most - more
    → (if nat_le come left then Some (left - come) else None) ≡ (if nat_le (last + more) most && nat_le (there + come) bytes then Some (bytes - (there + come)) else None)
room_plain last more most bytes there come left is some few fit = grind (arith, nat_tests)

pub room_is : (held : HeldPieces) (edits : List Edit) (left : ℕ) → left ≡ held.limits.bytes - total_weight held.last → edits ≢ [] → length edits ≤ held.limits.edits
    → length held.last ≤ held.limits.edits - length edits → bytes_left left edits ≡ room_beside held edits
room_is held edits left is some few fit =
    let P : ℕ → ℕ → Type 0 = λ n w. bytes_left left edits ≡ (if nat_le n held.limits.edits && nat_le w held.limits.bytes then Some (held.limits.bytes - w) else None) in
    subst (λ w. P (length (held.last ++ edits)) w) (sym (total_behind held.last edits)) (subst (λ n. P n (total_weight held.last + total_weight edits)) (sym (length-append held.last edits))
    (room_plain (length held.last) (length edits) held.limits.edits held.limits.bytes (total_weight held.last) (total_weight edits) left is (some_weight edits some) few fit))

-- ---- the last one

pub ends_each : (result : Result (Unit {0}) Fault) (front : List (List Edit)) (last : List Edit) (old mid new : Store) → CommitsEach front old mid → OnOk result (IsCommitted last mid new) → OnOk result (CommitsEach (front ++ last ∷ []) old new)
ends_each (Ok x) front last old mid new c d = each_then front (last ∷ []) old mid new c (new, d, refl)
ends_each (Err e) front last old mid new c d = tt

pub cut_ends : (result : Result (Unit {0}) Fault) (front : List (List Edit)) (last : List Edit) (old mid new : Store) → CommitsEach front old mid → IfErr result (λ e. IsRefused e last mid new) → IfErr result (λ e. IsCutShort e (front ++ last ∷ []) old new)
cut_ends (Ok x) front last old mid new c r = tt
cut_ends (Err e) front last old mid new c r = (front, last, [], mid, refl, c, r)

pub cut_doubts : (fault : Fault) (pieces : List (List Edit)) (old new : Store) → IsCutShort fault pieces old new → old.doubt ≤ new.doubt
cut_doubts fault pieces old new d =
    let front = each_committed d.0 old d.3 d.5 in
    omega (arith, front.doubted, d.6.doubted)
