-- A watch whose passes are all there, with sound receipts.
use Rattle.std.proofs.Common.{◌≡◌, ◌⊎◌, inl, inr, ℕ, zero, suc, ◌+◌, ◌<◌, ◌≤◌, max, List, [], ◌∷◌, ◌++◌, length, true, false, ◌==◌, refl, sym, ap, ◌∙◌, subst, arith, length-append}
use Rattle.std.specs.Prelude.{if◌then◌else◌, Result, Ok, Err, IfErr}
use Rattle.std.proofs.lemmas.Bool.Decides.{nat_tests}
use Rattle.std.proofs.lemmas.Option.{slice_get_within}
use Rattle.rights_core.specs.declared.totals.Totals.{Totals}
use Rattle.rights_core.specs.Rights.{totals_of}
use Rattle.rights_core.specs.Grants.{totals_by}
use Rattle.rights_core.proofs.ToldLines.{totals_told}
use Rattle.watch_cell.specs.declared.events.Entry.{Entry}
use Rattle.watch_cell.specs.Views.{WatchedState, Ticket, Hand}
use Rattle.watch_cell.specs.Trail.{Kept, entry}
use Rattle.watch_cell.specs.Closing.{times, gathered, numbers, ticket_places, places, SoundIn, SoundOf, AllThere, Rising, AllRising, Settled}
use Rattle.watch_cell.proofs.Lists.{times_append, gathered_append}
use Rattle.watch_cell.proofs.Count.{AllBelow, all_there, each_once}

length_numbers : (hs : List Hand) → length (numbers hs) ≡ length hs
length_numbers [] = refl
length_numbers (h ∷ hs) = ap suc (length_numbers hs)

length_tickets : (ts : List Ticket) → length (ticket_places ts) ≡ length ts
length_tickets [] = refl
length_tickets (t ∷ ts) = ap suc (length_tickets ts)

length_places : (hs : List Hand) → length (places hs) ≡ gathered (λ h. length h.receipts) hs
length_places [] = refl
length_places (h ∷ hs) = omega (arith, length-append (ticket_places h.receipts) (places hs), length_tickets h.receipts, length_places hs)

below_append : (n : ℕ) (xs ys : List ℕ) → AllBelow n xs → AllBelow n ys → AllBelow n (xs ++ ys)
below_append n [] ys h k = k
below_append n (x ∷ xs) ys h k = (h.0, below_append n xs ys h.1 k)

below_in : (trail : List Entry) (all : List ℕ) (top : ℕ) (ts : List Ticket) → SoundIn trail all top ts → AllBelow (length trail) (ticket_places ts)
below_in trail all top [] h = tt
below_in trail all top (t ∷ ts) h = (slice_get_within trail t.place (entry t.event t.reply) h.0.entered, below_in trail all (max top (t.place + 1)) ts h.1)

below_of : (trail : List Entry) (all : List ℕ) (hs : List Hand) → SoundOf trail all hs → AllBelow (length trail) (places hs)
below_of trail all [] h = tt
below_of trail all (x ∷ hs) h = below_append (length trail) (ticket_places x.receipts) (places hs) (below_in trail all 0 x.receipts h.0) (below_of trail all hs h.1)

-- a place that some receipt has is there once
single_in : (trail : List Entry) (all : List ℕ) (top : ℕ) (ts : List Ticket) (k : ℕ) → SoundIn trail all top ts → (times k (ticket_places ts) ≡ 0) ⊎ (times k all ≡ 1)
single_in trail all top [] k h = inl refl
single_in trail all top (t ∷ ts) k h =
    elim (t.place == k) as (λ b. (t.place == k) ≡ b → ((if b then 1 else 0) + times k (ticket_places ts) ≡ 0) ⊎ (times k all ≡ 1)) [
      | true ↦ λ e. (let same : t.place ≡ k = grind (arith, nat_tests) in inr (rw same at h.0.single))
      | false ↦ λ e. elim (single_in trail all (max top (t.place + 1)) ts k h.1) [ inl z ↦ inl (omega arith) | inr s ↦ inr s ]
    ] refl

single_of : (trail : List Entry) (all : List ℕ) (hs : List Hand) (k : ℕ) → SoundOf trail all hs → (times k (places hs) ≡ 0) ⊎ (times k all ≡ 1)
single_of trail all [] k h = inl refl
single_of trail all (x ∷ hs) k h =
    elim (single_in trail all 0 x.receipts k h.0) [
      | inl z ↦ elim (single_of trail all hs k h.1) [ inl y ↦ inl (omega (arith, times_append k (ticket_places x.receipts) (places hs))) | inr s ↦ inr s ]
      | inr s ↦ inr s
    ]

rising_in : (trail : List Entry) (all : List ℕ) (top top' : ℕ) (ts : List Ticket) → top' ≤ top → SoundIn trail all top ts → Rising trail top' ts
rising_in trail all top top' [] le h = tt
rising_in trail all top top' (t ∷ ts) le h =
    (let b = h.0.behind in omega arith, h.0.entered, rising_in trail all (max top (t.place + 1)) (t.place + 1) ts (omega arith) h.1)

rising_of : (trail : List Entry) (all : List ℕ) (hs : List Hand) → SoundOf trail all hs → AllRising trail hs
rising_of trail all [] h = tt
rising_of trail all (x ∷ hs) h = (rising_in trail all 0 0 x.receipts (omega arith) h.0, rising_of trail all hs h.1)

pub settled : (opening cell : WatchedState) (seats : ℕ) (trail : List Entry) (hands : List Hand) (i a x c : ℕ) (totals : Totals)
    → Kept opening cell trail i a x c
    → totals ≡ totals_of cell.master.rights → totals.issued ≡ totals.held + totals.acknowledged + totals.expired
    → AllThere hands seats → SoundOf trail (places hands) hands
    → length hands ≤ seats → gathered (λ h. h.calls) hands ≡ gathered (λ h. length h.receipts) hands
    → (length hands ≡ seats → (gathered (λ h. h.issued) hands ≡ i) × (gathered (λ h. h.acknowledged) hands ≡ a) × (gathered (λ h. h.expired) hands ≡ x) × (gathered (λ h. h.calls) hands ≡ c))
    → Settled opening seats hands cell trail totals
settled opening cell seats trail hands i a x c totals kept is balance there sound few receipts whole =
    let many : seats ≤ length hands = omega (arith, length_numbers hands, all_there seats (numbers hands) there) in
    let count : length hands ≡ seats = omega arith in
    let sums = whole count in
    let are : totals ≡ totals_by kept.grants = is ∙ totals_told cell.master.rights ∙ ap totals_by kept.cell_has in
    let calls : gathered (λ h. h.calls) hands ≡ length trail = sums.3 ∙ kept.calls_is in
    let long : length (places hands) ≡ length trail = length_places hands ∙ sym receipts ∙ calls in
    let most : (k : ℕ) → times k (places hands) ≤ 1 = λ k. elim (single_of trail (places hands) hands k sound) [ inl z ↦ omega arith | inr s ↦ omega arith ] in
    record {
      there = there;
      count = count;
      issued = sums.0 ∙ kept.issued_is ∙ sym (ap (λ (t : Totals). t.issued) are);
      acknowledged = sums.1 ∙ kept.acknowledged_is ∙ sym (ap (λ (t : Totals). t.acknowledged) are);
      expired = sums.2 ∙ kept.expired_is ∙ sym (ap (λ (t : Totals). t.expired) are);
      calls = calls;
      grants = kept.grants;
      granted_once = kept.once;
      totals_are = are;
      balance = balance;
      rising = rising_of trail (places hands) hands sound;
      once = each_once (length trail) (places hands) long (below_of trail (places hands) hands sound) most;
      replay = kept.replay;
    }

-- the last of a list of passes
pub popped : (f : Hand → ℕ) (xs ys : List Hand) (x : Hand) → xs ≡ ys ++ x ∷ [] → gathered f xs ≡ gathered f ys + f x
popped f xs ys x is = omega (arith, ap (gathered f) is, gathered_append f ys (x ∷ []))

pub last_length : (xs ys : List Hand) (x : Hand) → xs ≡ ys ++ x ∷ [] → length xs ≡ length ys + 1
last_length xs ys x is = omega (arith, ap length is, length-append ys (x ∷ []))

-- shares that two lists of passes were joined to
pub record Joined (f : Hand → ℕ) (r ps : List Hand) (seats total : ℕ) : Type 0 where
  pub few : length (r ++ ps) ≤ seats
  pub sum : length (r ++ ps) ≡ seats → gathered f (r ++ ps) ≡ total

pub joined : (f : Hand → ℕ) (r ps : List Hand) (P seats total q0 a0 q1 a1 q2 a2 : ℕ) → P ≡ seats → q0 ≡ 0 → a0 ≡ 0 → q1 ≡ q0 + length r → a1 ≡ a0 + gathered f r → q2 ≡ q1 + length ps → a2 ≡ a1 + gathered f ps → q2 ≤ P → (q2 ≡ P → a2 ≡ total) → Joined f r ps seats total
joined f r ps P seats total q0 a0 q1 a1 q2 a2 same zq za p1 s1 p2 s2 le whole = record {
  few = omega (arith, length-append r ps);
  sum = λ n. (let all : q2 ≡ P = omega (arith, length-append r ps) in let t = whole all in omega (arith, gathered_append f r ps));
}

-- the same with the shares joined
pub settled_by : (opening cell : WatchedState) (seats : ℕ) (trail trail' : List Entry) (r r' ps ps' early late : List Hand) (i a x c : ℕ) (totals : Totals)
    → Kept opening cell trail i a x c
    → totals ≡ totals_of cell.master.rights → totals.issued ≡ totals.held + totals.acknowledged + totals.expired
    → trail ≡ trail' → r ≡ r' → ps' ≡ ps
    → AllThere (r' ++ ps') seats → SoundOf trail' (places (r' ++ ps')) (r' ++ ps')
    → gathered (λ h. h.calls) r ≡ gathered (λ h. length h.receipts) r → gathered (λ h. h.calls) ps ≡ gathered (λ h. length h.receipts) ps
    → Joined (λ h. h.issued) r ps seats i → Joined (λ h. h.acknowledged) r ps seats a → Joined (λ h. h.expired) r ps seats x → Joined (λ h. h.calls) r ps seats c
    → early ≡ r → late ≡ ps
    → Settled opening seats (early ++ late) cell trail totals
settled_by opening cell seats trail trail' r r' ps ps' early late i a x c totals kept is balance et er eps there sound c1 c2 ji ja jx jc ee el =
    let here : r' ++ ps' ≡ r ++ ps = (λ k. (sym er k) ++ (eps k)) in
    let there' : AllThere (r ++ ps) seats = subst (λ (w : List Hand). AllThere w seats) here there in
    let sound' : SoundOf trail (places (r ++ ps)) (r ++ ps) = subst (λ (w : List Hand). SoundOf trail (places w) w) here (subst (λ (w : List Entry). SoundOf w (places (r' ++ ps')) (r' ++ ps')) (sym et) sound) in
    let receipts : gathered (λ h. h.calls) (r ++ ps) ≡ gathered (λ h. length h.receipts) (r ++ ps) = omega (arith, c1, c2, gathered_append (λ h. h.calls) r ps, gathered_append (λ h. length h.receipts) r ps) in
    subst (λ (w : List Hand). Settled opening seats (early ++ w) cell trail totals) (sym el)
    (subst (λ (w : List Hand). Settled opening seats (w ++ ps) cell trail totals) (sym ee)
    (settled opening cell seats trail (r ++ ps) i a x c totals kept is balance there' sound' ji.few receipts (λ n. (ji.sum n, ja.sum n, jx.sum n, jc.sum n))))

-- of what comes back with a refusal, the other half
pub other_half : {X E : Type 0} (A B : E → Type 0) (result : Result X E) → IfErr result (λ e. A e × B e) → IfErr result B
other_half A B (Ok x) back = tt
other_half A B (Err e) back = back.1
