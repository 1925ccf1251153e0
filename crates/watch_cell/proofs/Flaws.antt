-- The lowest flaw.
use Rattle.std.proofs.Common.{◌≡◌, ◌⊎◌, ◌↔◌, inl, inr, ℕ, zero, suc, ◌+◌, ◌<◌, ◌≤◌, max, min, List, [], ◌∷◌, ◌++◌, length, take, get_or, Bool, true, false, IsTrue, Option, Some, None, refl, sym, ap, ◌∙◌, subst, arith}
use Rattle.std.specs.Prelude.{if◌then◌else◌}
use Rattle.std.proofs.lemmas.Bool.Decides.{nat_tests}
use Rattle.std.proofs.lemmas.List.{take_more}
use Rattle.watch_cell.specs.declared.events.Entry.{Entry}
use Rattle.watch_cell.specs.Views.{Ticket, Hand}
use Rattle.watch_cell.specs.Closing.{places, Sound, SoundIn, SoundOf, top_after, FlawIn, FlawOf, IsLowest, lower_of}
use Rattle.watch_cell.specs.Marks.{IsMarked}

min_side : (x y : ℕ) → (min x y ≡ x) ⊎ (min x y ≡ y)
min_side x y = grind (arith, nat_tests)

pub lowest_of : (S T : Type 0) (P Q : ℕ → Type 0) (a b : Option ℕ) → IsLowest S P a → IsLowest T Q b → IsLowest (S × T) (λ q. P q ⊎ Q q) (lower_of a b)
lowest_of S T P Q None None h k = ((h.0, k.0), λ q e. elim e [ inl p ↦ h.1 q p | inr p ↦ k.1 q p ])
lowest_of S T P Q None (Some y) h k = (inr k.0, λ q e. elim e [ inl p ↦ absurd (h.1 q p) | inr p ↦ k.1 q p ])
lowest_of S T P Q (Some x) None h k = (inl h.0, λ q e. elim e [ inl p ↦ h.1 q p | inr p ↦ absurd (k.1 q p) ])
lowest_of S T P Q (Some x) (Some y) h k = (
  (let side : (min x y ≡ x) ⊎ (min x y ≡ y) = min_side x y in elim side [ inl e ↦ inl (subst P (sym e) h.0) | inr e ↦ inr (subst Q (sym e) k.0) ]),
  λ q e. elim e [ inl p ↦ (let le : x ≤ q = h.1 q p in omega arith) | inr p ↦ (let le : y ≤ q = k.1 q p in omega arith) ],
)

pub lowest_map : (S T : Type 0) (P Q : ℕ → Type 0) (a : Option ℕ) → (S → T) → ((q : ℕ) → P q → Q q) → ((q : ℕ) → Q q → P q) → IsLowest S P a → IsLowest T Q a
lowest_map S T P Q None s f g h = (s h.0, λ q e. h.1 q (g q e))
lowest_map S T P Q (Some x) s f g h = (f x h.0, λ q e. h.1 q (g q e))

sound_snoc : (trail : List Entry) (all : List ℕ) (top : ℕ) (xs : List Ticket) (t : Ticket) → SoundIn trail all top xs → Sound trail all (top_after top xs) t → SoundIn trail all top (xs ++ t ∷ [])
sound_snoc trail all top [] t h k = (k, tt)
sound_snoc trail all top (x ∷ xs) t h k = (h.0, sound_snoc trail all (max top (x.place + 1)) xs t h.1 k)

sound_both : (trail : List Entry) (all : List ℕ) (xs ys : List Hand) → SoundOf trail all xs → SoundOf trail all ys → SoundOf trail all (xs ++ ys)
sound_both trail all [] ys h k = k
sound_both trail all (x ∷ xs) ys h k = (h.0, sound_both trail all xs ys h.1 k)

pub top_after_append : (top : ℕ) (xs : List Ticket) (t : Ticket) → top_after top (xs ++ t ∷ []) ≡ max (top_after top xs) (t.place + 1)
top_after_append top [] t = refl
top_after_append top (x ∷ xs) t = top_after_append (max top (x.place + 1)) xs t

split : (trail : List Entry) (all : List ℕ) (top : ℕ) (xs : List Ticket) (t : Ticket) (q : ℕ) → FlawIn trail all top (xs ++ t ∷ []) q → FlawIn trail all top xs q ⊎ ((t.place ≡ q) × (Sound trail all (top_after top xs) t → ⊥))
split trail all top [] t q (inl e) = inr e
split trail all top [] t q (inr e) = absurd e
split trail all top (x ∷ xs) t q (inl e) = inl (inl e)
split trail all top (x ∷ xs) t q (inr e) =
    elim (split trail all (max top (x.place + 1)) xs t q e) [ inl k ↦ inl (inr k) | inr k ↦ inr k ]

unite : (trail : List Entry) (all : List ℕ) (top : ℕ) (xs : List Ticket) (t : Ticket) (q : ℕ) → FlawIn trail all top xs q ⊎ ((t.place ≡ q) × (Sound trail all (top_after top xs) t → ⊥)) → FlawIn trail all top (xs ++ t ∷ []) q
unite trail all top [] t q (inl e) = absurd e
unite trail all top [] t q (inr e) = inl e
unite trail all top (x ∷ xs) t q (inl (inl e)) = inl e
unite trail all top (x ∷ xs) t q (inl (inr e)) = inr (unite trail all (max top (x.place + 1)) xs t q (inl e))
unite trail all top (x ∷ xs) t q (inr e) = inr (unite trail all (max top (x.place + 1)) xs t q (inr e))

one_flaw : (trail : List Entry) (all : List ℕ) (top : ℕ) (t : Ticket) → (Sound trail all top t → ⊥) → IsLowest (Sound trail all top t) (λ q. (t.place ≡ q) × (Sound trail all top t → ⊥)) (Some t.place)
one_flaw trail all top t bad = ((refl, bad), λ q e. omega (arith, e.0))

no_flaw : (trail : List Entry) (all : List ℕ) (top : ℕ) (t : Ticket) → Sound trail all top t → IsLowest (Sound trail all top t) (λ q. (t.place ≡ q) × (Sound trail all top t → ⊥)) None
no_flaw trail all top t good = (good, λ q e. e.1 good)

lower_none : (o : Option ℕ) → lower_of o None ≡ o
lower_none None = refl
lower_none (Some x) = refl

adds : (trail : List Entry) (all : List ℕ) (xs : List Ticket) (t : Ticket) (o p : Option ℕ)
    → IsLowest (SoundIn trail all 0 xs) (FlawIn trail all 0 xs) o
    → IsLowest (Sound trail all (top_after 0 xs) t) (λ q. (t.place ≡ q) × (Sound trail all (top_after 0 xs) t → ⊥)) p
    → IsLowest (SoundIn trail all 0 (xs ++ t ∷ [])) (FlawIn trail all 0 (xs ++ t ∷ [])) (lower_of o p)
adds trail all xs t o p low one =
    lowest_map (SoundIn trail all 0 xs × Sound trail all (top_after 0 xs) t) (SoundIn trail all 0 (xs ++ t ∷ [])) (λ q. FlawIn trail all 0 xs q ⊎ ((t.place ≡ q) × (Sound trail all (top_after 0 xs) t → ⊥))) (FlawIn trail all 0 (xs ++ t ∷ [])) (lower_of o p)
    (λ s. sound_snoc trail all 0 xs t s.0 s.1) (unite trail all 0 xs t) (split trail all 0 xs t)
    (lowest_of (SoundIn trail all 0 xs) (Sound trail all (top_after 0 xs) t) (FlawIn trail all 0 xs) (λ q. (t.place ≡ q) × (Sound trail all (top_after 0 xs) t → ⊥)) o p low one)

one_more : (trail : List Entry) (all : List ℕ) (xs : List Ticket) (t : Ticket) (o : Option ℕ) (b : Bool) → (IsTrue b ↔ Sound trail all (top_after 0 xs) t) → IsLowest (SoundIn trail all 0 xs) (FlawIn trail all 0 xs) o
    → IsLowest (SoundIn trail all 0 (xs ++ t ∷ [])) (FlawIn trail all 0 (xs ++ t ∷ [])) (if b then o else lower_of o (Some t.place))
one_more trail all xs t o true is low =
    subst (λ (w : Option ℕ). IsLowest (SoundIn trail all 0 (xs ++ t ∷ [])) (FlawIn trail all 0 (xs ++ t ∷ [])) w) (lower_none o)
    (adds trail all xs t o None low (no_flaw trail all (top_after 0 xs) t (is.0 refl)))
one_more trail all xs t o false is low =
    adds trail all xs t o (Some t.place) low (one_flaw trail all (top_after 0 xs) t (λ s. absurd (cc (is.1 s))))

-- a loop over the receipts of a pass, one step on
pub flaw_step : (trail : List Entry) (all : List ℕ) (ts : List Ticket) (i : ℕ) (x : Ticket) (top : ℕ) (o o' : Option ℕ) (b : Bool) → i < length ts → x ≡ get_or ts i x → top ≡ top_after 0 (take i ts) → (IsTrue b ↔ Sound trail all top x)
    → o' ≡ (if b then o else lower_of o (Some x.place)) → IsLowest (SoundIn trail all 0 (take i ts)) (FlawIn trail all 0 (take i ts)) o → IsLowest (SoundIn trail all 0 (take (i + 1) ts)) (FlawIn trail all 0 (take (i + 1) ts)) o'
flaw_step trail all ts i x top o o' b lt at is sound new low =
    let more : take (i + 1) ts ≡ take i ts ++ x ∷ [] = take_more ts i x lt ∙ ap (λ w. take i ts ++ w ∷ []) (sym at) in
    let sound' : IsTrue b ↔ Sound trail all (top_after 0 (take i ts)) x = subst (λ (w : ℕ). IsTrue b ↔ Sound trail all w x) is sound in
    subst (λ (w : Option ℕ). IsLowest (SoundIn trail all 0 (take (i + 1) ts)) (FlawIn trail all 0 (take (i + 1) ts)) w) (sym new)
    (subst (λ (w : List Ticket). IsLowest (SoundIn trail all 0 w) (FlawIn trail all 0 w) (if b then o else lower_of o (Some x.place))) (sym more) (one_more trail all (take i ts) x o b sound' low))

pub top_step : (ts : List Ticket) (i : ℕ) (x : Ticket) (top : ℕ) → i < length ts → x ≡ get_or ts i x → top ≡ top_after 0 (take i ts) → max top (x.place + 1) ≡ top_after 0 (take (i + 1) ts)
top_step ts i x top lt at is =
    let more : take (i + 1) ts ≡ take i ts ++ x ∷ [] = take_more ts i x lt ∙ ap (λ w. take i ts ++ w ∷ []) (sym at) in
    ap (λ w. max w (x.place + 1)) is ∙ sym (top_after_append 0 (take i ts) x) ∙ ap (top_after 0) (sym more)

-- of all passes
of_split : (trail : List Entry) (all : List ℕ) (xs ys : List Hand) (q : ℕ) → FlawOf trail all (xs ++ ys) q → FlawOf trail all xs q ⊎ FlawOf trail all ys q
of_split trail all [] ys q e = inr e
of_split trail all (x ∷ xs) ys q (inl e) = inl (inl e)
of_split trail all (x ∷ xs) ys q (inr e) = elim (of_split trail all xs ys q e) [ inl k ↦ inl (inr k) | inr k ↦ inr k ]

of_unite : (trail : List Entry) (all : List ℕ) (xs ys : List Hand) (q : ℕ) → FlawOf trail all xs q ⊎ FlawOf trail all ys q → FlawOf trail all (xs ++ ys) q
of_unite trail all [] ys q (inl e) = absurd e
of_unite trail all [] ys q (inr e) = e
of_unite trail all (x ∷ xs) ys q (inl (inl e)) = inl e
of_unite trail all (x ∷ xs) ys q (inl (inr e)) = inr (of_unite trail all xs ys q (inl e))
of_unite trail all (x ∷ xs) ys q (inr e) = inr (of_unite trail all xs ys q (inr e))

pub of_both : (trail : List Entry) (all : List ℕ) (xs ys : List Hand) (a b : Option ℕ) → IsLowest (SoundOf trail all xs) (FlawOf trail all xs) a → IsLowest (SoundOf trail all ys) (FlawOf trail all ys) b → IsLowest (SoundOf trail all (xs ++ ys)) (FlawOf trail all (xs ++ ys)) (lower_of a b)
of_both trail all xs ys a b h k =
    lowest_map (SoundOf trail all xs × SoundOf trail all ys) (SoundOf trail all (xs ++ ys)) (λ q. FlawOf trail all xs q ⊎ FlawOf trail all ys q) (FlawOf trail all (xs ++ ys)) (lower_of a b)
    (λ s. sound_both trail all xs ys s.0 s.1) (of_unite trail all xs ys) (of_split trail all xs ys)
    (lowest_of (SoundOf trail all xs) (SoundOf trail all ys) (FlawOf trail all xs) (FlawOf trail all ys) a b h k)

of_one : (trail : List Entry) (all : List ℕ) (h : Hand) (o : Option ℕ) → IsLowest (SoundIn trail all 0 h.receipts) (FlawIn trail all 0 h.receipts) o → IsLowest (SoundOf trail all (h ∷ [])) (FlawOf trail all (h ∷ [])) o
of_one trail all h o low =
    lowest_map (SoundIn trail all 0 h.receipts) (SoundOf trail all (h ∷ [])) (FlawIn trail all 0 h.receipts) (FlawOf trail all (h ∷ [])) o (λ s. (s, tt)) (λ q e. inl e) (λ q e. elim e [ inl k ↦ k | inr k ↦ absurd k ]) low

-- a loop over passes, one step on
pub of_step : (trail : List Entry) (all : List ℕ) (hs : List Hand) (i : ℕ) (x : Hand) (ts : List Ticket) (o p o' : Option ℕ) → i < length hs → x ≡ get_or hs i x → ts ≡ x.receipts → o' ≡ lower_of o p
    → IsLowest (SoundOf trail all (take i hs)) (FlawOf trail all (take i hs)) o → IsLowest (SoundIn trail all 0 ts) (FlawIn trail all 0 ts) p → IsLowest (SoundOf trail all (take (i + 1) hs)) (FlawOf trail all (take (i + 1) hs)) o'
of_step trail all hs i x ts o p o' lt at is new low one =
    let more : take (i + 1) hs ≡ take i hs ++ x ∷ [] = take_more hs i x lt ∙ ap (λ w. take i hs ++ w ∷ []) (sym at) in
    let here : IsLowest (SoundIn trail all 0 x.receipts) (FlawIn trail all 0 x.receipts) p = subst (λ (w : List Ticket). IsLowest (SoundIn trail all 0 w) (FlawIn trail all 0 w) p) is one in
    subst (λ (w : Option ℕ). IsLowest (SoundOf trail all (take (i + 1) hs)) (FlawOf trail all (take (i + 1) hs)) w) (sym new)
    (subst (λ (w : List Hand). IsLowest (SoundOf trail all w) (FlawOf trail all w) (lower_of o p)) (sym more) (of_both trail all (take i hs) (x ∷ []) o p low (of_one trail all x p here)))

take_whole : (hs : List Hand) (i : ℕ) → length hs ≤ i → take i hs ≡ hs
take_whole [] zero le = refl
take_whole [] (suc i) le = refl
take_whole (h ∷ hs) zero le = absurd (omega arith)
take_whole (h ∷ hs) (suc i) le = ap (λ w. h ∷ w) (take_whole hs i (omega arith))

pub of_end : (trail : List Entry) (all : List ℕ) (hs : List Hand) (i : ℕ) (o : Option ℕ) → length hs ≤ i → IsLowest (SoundOf trail all (take i hs)) (FlawOf trail all (take i hs)) o → IsLowest (SoundOf trail all hs) (FlawOf trail all hs) o
of_end trail all hs i o le low = subst (λ (w : List Hand). IsLowest (SoundOf trail all w) (FlawOf trail all w) o) (take_whole hs i le) low

-- the two lists of passes, by marks that fit them
pub of_all : (trail : List Entry) (marks m1 m2 : List ℕ) (xs ys : List Hand) (a b o : Option ℕ) → IsMarked marks (places (xs ++ ys)) → m1 ≡ marks → m2 ≡ marks → o ≡ lower_of a b
    → ((all : List ℕ) → IsMarked m1 all → IsLowest (SoundOf trail all xs) (FlawOf trail all xs) a) → ((all : List ℕ) → IsMarked m2 all → IsLowest (SoundOf trail all ys) (FlawOf trail all ys) b)
    → IsLowest (SoundOf trail (places (xs ++ ys)) (xs ++ ys)) (FlawOf trail (places (xs ++ ys)) (xs ++ ys)) o
of_all trail marks m1 m2 xs ys a b o fits e1 e2 new h k =
    let all = places (xs ++ ys) in
    let first : IsLowest (SoundOf trail all xs) (FlawOf trail all xs) a = h all (subst (λ (w : List ℕ). IsMarked w all) (sym e1) fits) in
    let second : IsLowest (SoundOf trail all ys) (FlawOf trail all ys) b = k all (subst (λ (w : List ℕ). IsMarked w all) (sym e2) fits) in
    subst (λ (w : Option ℕ). IsLowest (SoundOf trail all (xs ++ ys)) (FlawOf trail all (xs ++ ys)) w) (sym new) (of_both trail all xs ys a b first second)
