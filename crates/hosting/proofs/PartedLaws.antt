-- Where what a group changes is parted.
use Rattle.std.proofs.Common.{◌≡◌, inr, ℕ, List, [], ◌∷◌, ◌++◌, Option, Result, Ok, refl, sym, ap, subst, ◌∙◌, append-nil, append_assoc}
use Rattle.rows_cell.specs.declared.settings.MasterTerms.{MasterTerms}
use Rattle.rows_cell.specs.declared.tables.Edit.{Edit}
use Rattle.rows_cell.specs.Stores.{Store}
use Rattle.tags_cell.specs.declared.messages.requests.Request.{Request}
use Rattle.master_parts.specs.declared.pending.Taken.{Taken}
use Rattle.cell_core.specs.Step.{take_step}
use Rattle.over_core.specs.declared.swept.Swept.{Swept}
use Rattle.codec.specs.declared.faults.WireFault.{WireFault}
use Rattle.hosting.specs.declared.frames.Frame.{Frame}
use Rattle.hosting.specs.declared.pieces.GroupLimits.{GroupLimits}
use Rattle.hosting.specs.Serving.{SweepsOnce, StepsTo}
use Rattle.hosting.specs.Seats.{with_master}
use Rattle.hosting.specs.Streams.{FrameIs}
use Rattle.hosting.specs.Pieces.{HeldPieces, all_held, all_pieces, full_with, held_with, is_within}
use Rattle.hosting.specs.Held.{GroupState, ground, store_behind, seen}
use Rattle.hosting.specs.Parted.{SweptTo, TakenTo, BeginsFrame, StandsSo, store_with, EachAfter, BecomeFull, PartsSweeps, PartsAnswer, PartsFrame, PartsFrames}
use Rattle.hosting.proofs.PieceLaws.{by_room}
use Rattle.hosting.proofs.HeldSweeps.{seen_store}

abbrev Known : Type 0
Known = Option (List ℕ)

abbrev Pieces : Type 0
Pieces = List (List Edit)

-- ---- pieces that come after others

module _ (Holds : Pieces → Type 0) where
  each_append : (before first second : Pieces) → EachAfter Holds before first → EachAfter Holds (before ++ first) second → EachAfter Holds before (first ++ second)
  each_append before [] second a b =
      let P : Pieces → Type 0 = λ u. EachAfter Holds u second in
      subst P (append-nil before) b
  each_append before (piece ∷ first) second a b =
      let P : Pieces → Type 0 = λ u. EachAfter Holds u second in
      (a.0, each_append (before ++ piece ∷ []) first second a.1 (subst P (sym (append_assoc before (piece ∷ []) first)) b))

  pub full_then : (a b c : HeldPieces) → BecomeFull Holds a b → BecomeFull Holds b c → BecomeFull Holds a c
  full_then a b c p q =
      let P : Pieces → Type 0 = λ u. EachAfter Holds u q.0 in
      (p.0 ++ q.0, q.1 ∙ ap (λ (u : Pieces). u ++ q.0) p.1 ∙ append_assoc a.full p.0 q.0, each_append a.full p.0 q.0 p.2 (subst P p.1 q.2))

  pub none_full : (held : HeldPieces) → BecomeFull Holds held held
  none_full held = ([], sym (append-nil held.full), tt)

  last_full : (old held : HeldPieces) (last : List Edit) → BecomeFull Holds old (record held { last = last }) → Holds (held.full ++ last ∷ []) → (edits : List Edit)
      → BecomeFull Holds old (record held { full = full_with held.full last; last = edits })
  last_full old held [] b h edits = b
  last_full old held (edit ∷ last) b h edits =
      full_then old held (record held { full = held.full ++ (edit ∷ last) ∷ []; last = edits }) b ((edit ∷ last) ∷ [], refl, (h, tt))

  -- a sweep that begins a piece makes the last one full
  held_full : (old held : HeldPieces) (edits : List Edit) → BecomeFull Holds old held → Holds (all_pieces held) → BecomeFull Holds old (held_with held edits)
  held_full old held [] b h = b
  held_full old held (edit ∷ edits) b h =
      let P : HeldPieces → Type 0 = λ u. BecomeFull Holds old u in
      by_room P held (edit ∷ edits) (is_within held.limits (held.last ++ edit ∷ edits)) (λ w. b) (last_full old held held.last b h (edit ∷ edits))

  -- whichever of them stand, from the first on
  each_front : (before more : Pieces) (last : List Edit) (front back : Pieces) → Holds before → EachAfter Holds before more → Holds (before ++ (more ++ last ∷ [])) → more ++ last ∷ [] ≡ front ++ back
      → Holds (before ++ front)
  each_front before more last [] back here each whole is = subst Holds (sym (append-nil before)) here
  each_front before [] last (piece ∷ front) back here each whole is =
      let same : last ≡ piece = cc in
      let left : [] ≡ front ++ back = cc in
      subst Holds (ap (λ (u : Pieces). before ++ u) (ap (λ (x : List Edit). x ∷ []) same ∙ ap (λ (u : Pieces). piece ∷ u) (sym (none_left front back (sym left))))) whole
    where
      none_left : (front back : Pieces) → front ++ back ≡ [] → front ≡ []
      none_left [] back e = refl
      none_left (x ∷ front) back e = cc
  each_front before (first ∷ more) last (piece ∷ front) back here each whole is =
      let same : first ≡ piece = cc in
      let left : more ++ last ∷ [] ≡ front ++ back = cc in
      let there : Holds ((before ++ first ∷ []) ++ front) =
      each_front (before ++ first ∷ []) more last front back each.0 each.1 (subst Holds (sym (append_assoc before (first ∷ []) (more ++ last ∷ []))) whole) left in
      subst Holds (append_assoc before (first ∷ []) front ∙ ap (λ (x : List Edit). before ++ x ∷ front) same) there

  pub parted_fronts : (old new : HeldPieces) → old.full ≡ [] → BecomeFull Holds old new → Holds [] → Holds (all_pieces new) → (front back : Pieces) → all_pieces new ≡ front ++ back → Holds front
  parted_fronts old new none b start whole front back is =
      let all : new.full ≡ b.0 = b.1 ∙ ap (λ (u : Pieces). u ++ b.0) none in
      let P : Pieces → Type 0 = λ u. EachAfter Holds u b.0 in
      let Q : Pieces → Type 0 = λ u. Holds (u ++ new.last ∷ []) in
      each_front [] b.0 new.last front back start (subst P none b.2) (subst Q all whole) (ap (λ (u : Pieces). u ++ new.last ∷ []) (sym all) ∙ is)

each_as : (One Other : Pieces → Type 0) → ((full : Pieces) → One full → Other full) → (before more : Pieces) → EachAfter One before more → EachAfter Other before more
each_as One Other so before [] e = tt
each_as One Other so before (piece ∷ more) e = (so (before ++ piece ∷ []) e.0, each_as One Other so (before ++ piece ∷ []) more e.1)

pub full_as : (One Other : Pieces → Type 0) → ((full : Pieces) → One full → Other full) → (old new : HeldPieces) → BecomeFull One old new → BecomeFull Other old new
full_as One Other so old new b = (b.0, b.1, each_as One Other so old.full b.0 b.2)

-- ---- sweeps

pub store_of : (old new : GroupState) → ground new ≡ ground old → new.store ≡ old.store
store_of old new same = ap (λ (g : Store × GroupLimits). g.0) same

pub parts_none : (now : ℕ) (group : GroupState) → PartsSweeps now group group
parts_none now group = none_full (λ full. SweptTo now (seen group) (store_with group.store full)) group.held

pub parts_more : (now : ℕ) (old mid new : GroupState) (sweeps : List Swept) (edits : List Edit) → PartsSweeps now old mid → StepsTo (SweepsOnce now) (seen old) sweeps (seen mid) → ground mid ≡ ground old
    → new ≡ record mid { master = new.master; held = held_with mid.held edits } → PartsSweeps now old new
parts_more now old mid new sweeps edits parted done same is =
    let Holds : Pieces → Type 0 = λ full. SweptTo now (seen old) (store_with old.store full) in
    let P : HeldPieces → Type 0 = λ h. BecomeFull Holds old.held h in
    let here : Holds (all_pieces mid.held) = (sweeps, seen mid, done, ap (λ (s : Store). store_behind s (all_held mid.held)) (sym (store_of old mid same))) in
    subst P (sym (ap (λ (g : GroupState). g.held) is)) (held_full Holds old.held mid.held edits parted here)

pub parts_same : (now : ℕ) (old mid new : GroupState) → PartsSweeps now old mid → new ≡ mid → PartsSweeps now old new
parts_same now old mid new parted same = let P : GroupState → Type 0 = λ g. PartsSweeps now old g in subst P (sym same) parted

-- ---- a message

pub parts_taken : (now : ℕ) (message : Request) (old mid new : GroupState) (taken : Taken) → take_step old.master now message ≡ Ok (mid.master, taken) → mid ≡ record old { master = mid.master } → PartsSweeps now mid new
    → PartsAnswer now message old new
parts_taken now message old mid new taken step same parted =
    let P : GroupState → Type 0 = λ g. BecomeFull (λ full. TakenTo now message (seen old) (store_with g.store full)) g.held new.held in
    let One : Pieces → Type 0 = λ full. SweptTo now (seen mid) (store_with mid.store full) in
    let Other : Pieces → Type 0 = λ full. TakenTo now message (seen old) (store_with mid.store full) in
    subst P same (full_as One Other (λ full h. (seen mid, taken, step, seen_store old mid same, h)) mid.held new.held parted)

pub parts_refused : (now : ℕ) (message : Request) (old new : GroupState) → new ≡ old → PartsAnswer now message old new
parts_refused now message old new same =
    let P : GroupState → Type 0 = λ g. PartsAnswer now message old g in
    subst P (sym same) (none_full (λ full. TakenTo now message (seen old) (store_with old.store full)) old.held)

-- ---- frames

pub frames_none : (terms : MasterTerms) (text : Known) (group : GroupState) → PartsFrames terms text group group
frames_none terms text group = none_full (λ full. StandsSo terms text (with_master (seen group)) (store_with group.store full)) group.held

pub frames_one : (terms : MasterTerms) (sent : Result Frame WireFault) (text here : Known) (old new : GroupState) → FrameIs text sent here → PartsFrame sent old new → PartsFrames terms text old new
frames_one terms sent text here old new f parted =
    let One : Pieces → Type 0 = λ full. BeginsFrame sent (seen old) (store_with old.store full) in
    let Other : Pieces → Type 0 = λ full. StandsSo terms text (with_master (seen old)) (store_with old.store full) in
    full_as One Other (λ full h. record {
      cell = seen old;
      answers = [];
      rest = text;
      turns = (refl, refl);
      so = inr (record { sent = sent; rest = here; next = f; begun = h });
    }) old.held new.held parted
