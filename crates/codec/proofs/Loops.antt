-- Lists, read and written one after the other as a loop does.
use Rattle.std.proofs.Common.{◌≡◌, ℕ, zero, suc, ◌-◌, ◌+◌, ◌≤◌, ◌<◌, List, [], ◌∷◌, ◌++◌, length, get_or, take, Result, Ok, Err, refl, sym, ap, ◌∙◌, subst, append_assoc, arith}
use Rattle.std.specs.Prelude.{◌≢◌}
use Rattle.std.specs.List.{AllByRecursion}
use Rattle.std.proofs.lemmas.List.{append-nil}
use Rattle.std.proofs.Math.Seq.{take-suc}
use Rattle.codec.specs.declared.faults.WireFault.{WireFault}
use Rattle.codec.specs.declared.faults.WireFault.TheVariants.{NoMemory}
use Rattle.codec.specs.Forms.{◌>>=◌, Form, Appends, write_all, read_all}

-- what was read before, and what is still read
abbrev pub with_front : {X : Type 0} → List X → Result (List X × List ℕ) WireFault → Result (List X × List ℕ) WireFault
with_front front read = read >>= λ x. Ok (front ++ x.0, x.1)

regroup : {X : Type 0} (front : List X) (x : X) (read : Result (List X × List ℕ) WireFault) → with_front front (read >>= λ xs. Ok (x ∷ xs.0, xs.1)) ≡ with_front (front ++ x ∷ []) read
regroup {X = X} front x (Ok xs) = ap (λ (all : List X). Ok (all, xs.1)) (sym (append_assoc front (x ∷ []) xs.0))
regroup front x (Err f) = refl

pub goes_on : {X : Type 0} (read : List ℕ → Result (X × List ℕ) WireFault) (front : List X) (count i : ℕ) (bytes : List ℕ) (x : X) (after : List ℕ) (total : Result (List X × List ℕ) WireFault)
    → i < count → read bytes ≡ Ok (x, after) → with_front front (read_all read (count - i) bytes) ≡ total
    → with_front (front ++ x ∷ []) (read_all read (count - (i + 1)) after) ≡ total
goes_on read front count i bytes x after total lt h so_far =
    let k : count - i ≡ suc (count - (i + 1)) = omega arith in
    let one : with_front front (read_all read (count - i) bytes) ≡ with_front (front ++ x ∷ []) (read_all read (count - (i + 1)) after) =
    rw (k, h) (regroup front x (read_all read (count - (i + 1)) after)) in
    sym one ∙ so_far

pub ends : {X : Type 0} (read : List ℕ → Result (X × List ℕ) WireFault) (e : WireFault) (front : List X) (count i : ℕ) (bytes : List ℕ) (total : Result (List X × List ℕ) WireFault)
    → i < count → (e ≢ NoMemory → read bytes ≡ Err e) → with_front front (read_all read (count - i) bytes) ≡ total → e ≢ NoMemory → total ≡ Err e
ends read e front count i bytes total lt h so_far other =
    let k : count - i ≡ suc (count - (i + 1)) = omega arith in
    let one : with_front front (read_all read (count - i) bytes) ≡ Err e = rw (k, h other) refl in
    sym so_far ∙ one

pub is_done : {X : Type 0} (read : List ℕ → Result (X × List ℕ) WireFault) (front : List X) (count i : ℕ) (bytes : List ℕ) (total : Result (List X × List ℕ) WireFault)
    → count ≤ i → with_front front (read_all read (count - i) bytes) ≡ total → total ≡ Ok (front, bytes)
is_done {X = X} read front count i bytes total le so_far =
    let k : count - i ≡ 0 = omega arith in
    let one : with_front front (read_all read (count - i) bytes) ≡ Ok (front, bytes) = rw k (ap (λ (all : List X). Ok (all, bytes)) (append-nil front)) in
    sym so_far ∙ one

-- ---- writing

all_push : {X : Type 0} (P : X → Type 0) (xs : List X) (x : X) → AllByRecursion P xs → P x → AllByRecursion P (xs ++ x ∷ [])
all_push P [] x h p = (p, tt)
all_push P (y ∷ xs) x h p = (h.0, all_push P xs x h.1 p)

write_push : {X : Type 0} (write : X → List ℕ) (xs : List X) (x : X) → write_all write (xs ++ x ∷ []) ≡ write_all write xs ++ write x
write_push write [] x = append-nil (write x)
write_push write (y ∷ xs) x = ap (λ (u : List ℕ). write y ++ u) (write_push write xs x) ∙ sym (append_assoc (write y) (write_all write xs) (write x))

-- the first so many are written after what was there
abbrev pub WritesFirst : {X : Type 0} → Form X → List X → ℕ → List ℕ → List ℕ → Type 0
WritesFirst f xs i old new = AllByRecursion f.is (take i xs) × (new ≡ old ++ write_all f.write (take i xs))

pub writes_more : {X : Type 0} (f : Form X) (xs : List X) (i : ℕ) (x : X) (old out new : List ℕ) → i < length xs → x ≡ get_or xs i x → WritesFirst f xs i old out → Appends f x out new
    → WritesFirst f xs (i + 1) old new
writes_more {X = X} f xs i x old out new lt at before now =
    let next : i + 1 ≡ suc i = omega arith in
    let longer : take (i + 1) xs ≡ take i xs ++ x ∷ [] =
    ap (λ (n : ℕ). take n xs) next ∙ take-suc xs i x lt ∙ ap (λ (y : X). take i xs ++ y ∷ []) (sym at) in
    let P : List X → Type 0 = λ u. AllByRecursion f.is u × (new ≡ old ++ write_all f.write u) in
    subst P (sym longer) (
      all_push f.is (take i xs) x before.0 now.0,
      now.1 ∙ ap (λ (u : List ℕ). u ++ f.write x) before.1 ∙ append_assoc old (write_all f.write (take i xs)) (f.write x)
          ∙ ap (λ (u : List ℕ). old ++ u) (sym (write_push f.write (take i xs) x)),
    )
