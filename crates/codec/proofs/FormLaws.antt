-- What was written in a form is read again, and what is read was written, for each way in which forms are put together.
use Rattle.std.proofs.Common.{◌≡◌, ℕ, zero, suc, ◌≢◌, ◌+◌, ◌^◌, ◌<◌, ◌≤◌, Bool, true, false, cond, ltb, List, [], ◌∷◌, ◌++◌, length, get_or, take, drop, Option, Some, None, Result, Ok, Err, refl, sym, ap, subst, ◌∙◌, append_assoc, arith, inl, inr}
use Rattle.std.specs.Prelude.{IfSome, nat_lt, if◌then◌else◌, slice_get, ◌==◌, ◌&&◌}
use Rattle.std.specs.Int.{w32, w64, from_be_bytes, to_be_bytes}
use Rattle.std.specs.List.{AllByRecursion}
use Rattle.std.proofs.lemmas.Bool.{cases_lt, ltb-false, ltb-true, le-ltb, lt-ltb, eqb-true, ne_eqb}
use Rattle.std.proofs.lemmas.List.{take_at, drop_at, take-append-drop, length-append, length-take, get_or-drop, get_or-take, get_or_past, append-nil, nil_from_length}
use Rattle.std.proofs.lemmas.Nat.{be_bytes_4, be_bytes_8}
use Rattle.byteorder.specs.Endian.{big_bytes, big_number}
use Rattle.byteorder.specs.Numbers.{big_from-append, big_from-lt, big_number-reads_back, length-bytes_high_first}
use Rattle.names_cell.proofs.ComponentLemmas.{both}
use Rattle.codec.specs.declared.faults.WireFault.{WireFault}
use Rattle.codec.specs.declared.faults.WireFault.TheVariants.{TooLong, Cut, Extra, BadVersion, BadKind}
use Rattle.codec.specs.Forms.{◌>>=◌, Form, next_at, number, byte_at, byte, counted, nothing, ◌⊗◌, made, tested, known, choice_at, choice, of_kind, behind, flag, flags, optional_write, optional, write_all, read_all, listed, version, version_at, length_end, short_of, begin_at, written, end_at, read_whole}

abbrev pub IsBytes : List ℕ → Type 0
IsBytes bytes = (i : ℕ) → get_or bytes i 0 < 256

-- a count in four bytes counts them
abbrev pub IsShort : List ℕ → Type 0
IsShort bytes = length bytes < 2 ^ 32

pub IsBytes-drop : (n : ℕ) (bytes : List ℕ) → IsBytes bytes → IsBytes (drop n bytes)
IsBytes-drop n bytes h i = rw get_or-drop (h (n + i))

pub IsBytes-take : (n : ℕ) (bytes : List ℕ) → IsBytes bytes → IsBytes (take n bytes)
IsBytes-take n bytes h i =
    elim (cases_lt i n) [
      | inl lt ↦ rw (get_or-take n bytes i 0 lt) (h i)
      | inr le ↦ rw (get_or_past (take n bytes) i 0 (omega (arith, length-take n bytes))) (omega arith)
    ]

IsBytes-rest : (b : ℕ) (bytes : List ℕ) → IsBytes (b ∷ bytes) → IsBytes bytes
IsBytes-rest b bytes h i = h (suc i)

-- ---- steps that didn't fail

pub bind_ok : {A B : Type 0} (r : Result A WireFault) (f : A → Result B WireFault) (y : B) → (r >>= f) ≡ Ok y → (x : A) × (r ≡ Ok x) × (f x ≡ Ok y)
bind_ok (Ok x) f y e = (x, refl, e)
bind_ok (Err d) f y e = absurd cc

pub bind_is : {A B : Type 0} (r : Result A WireFault) (f : A → Result B WireFault) (x : A) → r ≡ Ok x → (r >>= f) ≡ f x
bind_is r f x e = ap (λ (s : _). s >>= f) e

abbrev done : {A : Type 0} → A → Result A WireFault
done x = Ok x

pub ok_is : {A : Type 0} (x y : A) → done x ≡ done y → x ≡ y
ok_is x y e = cc

guard_ok : {A : Type 0} (b : Bool) (d : WireFault) (x y : A) → cond b (Err d) (Ok x) ≡ Ok y → (b ≡ false) × (x ≡ y)
guard_ok true d x y e = absurd cc
guard_ok false d x y e = (refl, cc)

test_ok : {A : Type 0} (b : Bool) (d : WireFault) (x y : A) → cond b (Ok x) (Err d) ≡ Ok y → (b ≡ true) × (x ≡ y)
test_ok true d x y e = (refl, cc)
test_ok false d x y e = absurd cc

-- ---- a form, and both directions

-- what a reader took from the front
pub record Takes {X : Type 0} (f : Form X) (bytes : List ℕ) (x : X) (rest : List ℕ) : Type 0 where
  pub holds : f.is x
  pub parts : bytes ≡ f.write x ++ rest
  pub others : IsBytes rest

pub record IsForm {X : Type 0} (f : Form X) : Type 0 where
  pub takes : (bytes : List ℕ) (x : X) (rest : List ℕ) → IsBytes bytes → f.read bytes ≡ Ok (x, rest) → Takes f bytes x rest
  pub again : (x : X) (rest : List ℕ) → f.is x → IsShort (f.write x) → f.read (f.write x ++ rest) ≡ Ok (x, rest)

-- ---- numbers and blocks

next_takes : (n : ℕ) (bytes front rest : List ℕ) → IsBytes bytes → next_at n bytes ≡ Ok (front, rest)
    → (bytes ≡ front ++ rest) × (length front ≡ n) × IsBytes front × IsBytes rest
next_takes n bytes front rest fits e =
    let g = guard_ok (nat_lt (length bytes) n) Cut (take n bytes, drop n bytes) (front, rest) e in
    let long : n ≤ length bytes = ltb-false _ _ g.0 in
    let P : List ℕ × List ℕ → Type 0 = λ y. (bytes ≡ y.0 ++ y.1) × (length y.0 ≡ n) × IsBytes y.0 × IsBytes y.1 in
    subst P g.1 (sym (take-append-drop n bytes), omega (arith, length-take n bytes), IsBytes-take n bytes fits, IsBytes-drop n bytes fits)

next_again : (n : ℕ) (front rest : List ℕ) → length front ≡ n → next_at n (front ++ rest) ≡ Ok (front, rest)
next_again n front rest len =
    let long : nat_lt (length (front ++ rest)) n ≡ false = le-ltb _ _ (omega (arith, length-append front rest)) in
    rw (long, take_at front rest n len, drop_at front rest n len) refl

-- a width at which bytes that are read are written again
abbrev IsWidth : ℕ → Type 0
IsWidth n = (bytes : List ℕ) → length bytes ≡ n → IsBytes bytes → big_bytes n (big_number n bytes) ≡ bytes

four : IsWidth 4
four bytes len fits = be_bytes_4 bytes (big_number 4 bytes) len fits (omega arith)

eight : IsWidth 8
eight bytes len fits = be_bytes_8 bytes (big_number 8 bytes) len fits (omega arith)

number_again : (n x : ℕ) (rest : List ℕ) → x < 256 ^ n → next_at n (big_bytes n x ++ rest) ≡ Ok (big_bytes n x, rest)
number_again n x rest lt = next_again n (big_bytes n x) rest (length-bytes_high_first n x)

number_back : (n x : ℕ) → x < 256 ^ n → big_number n (big_bytes n x) ≡ x
number_back n x lt =
    sym (big_from-append n (big_bytes n x) [] (omega (arith, length-bytes_high_first n x))) ∙ big_number-reads_back n x [] lt

number_form : (n : ℕ) → IsWidth n → IsForm (number n)
number_form n width = record {
  takes = λ bytes x rest fits e.
      let a = bind_ok (next_at n bytes) (λ front. Ok (big_number n front.0, front.1)) (x, rest) e in
      let t = next_takes n bytes a.0.0 a.0.1 fits a.1 in
      let P : ℕ × List ℕ → Type 0 = λ y. Takes (number n) bytes y.0 y.1 in
      subst P (ok_is (big_number n a.0.0, a.0.1) (x, rest) a.2) (record {
        holds = big_from-lt 0 n a.0.0 t.2;
        parts = t.0 ∙ ap (λ (u : List ℕ). u ++ a.0.1) (sym (width a.0.0 t.1 t.2));
        others = t.3;
      });
  again = λ x rest holds short.
      bind_is _ (λ front. Ok (big_number n front.0, front.1)) (big_bytes n x, rest) (number_again n x rest holds)
      ∙ ap (λ (m : ℕ). Ok (m, rest)) (number_back n x holds);
}

pub number_form_4 : IsForm (number 4)
number_form_4 = number_form 4 four

pub number_form_8 : IsForm (number 8)
number_form_8 = number_form 8 eight

byte_takes : (bytes : List ℕ) (x : ℕ) (rest : List ℕ) → IsBytes bytes → byte_at bytes ≡ Ok (x, rest) → Takes byte bytes x rest
byte_takes [] x rest fits e = absurd cc
byte_takes (b ∷ bytes) x rest fits e =
    let P : ℕ × List ℕ → Type 0 = λ y. Takes byte (b ∷ bytes) y.0 y.1 in
    subst P (ok_is (b, bytes) (x, rest) e) (record { holds = fits 0; parts = refl; others = IsBytes-rest b bytes fits })

pub byte_form : IsForm byte
byte_form = record { takes = byte_takes; again = λ x rest holds short. refl }

pub counted_form : IsForm counted
counted_form = record {
  takes = λ bytes x rest fits e.
      let a = bind_ok (next_at 4 bytes) (λ front. next_at (big_number 4 front.0) front.1) (x, rest) e in
      let t = next_takes 4 bytes a.0.0 a.0.1 fits a.1 in
      let s = next_takes (big_number 4 a.0.0) a.0.1 x rest t.3 a.2 in
      let head : big_bytes 4 (length x) ≡ a.0.0 = ap (big_bytes 4) s.1 ∙ four a.0.0 t.1 t.2 in
      record {
        holds = tt;
        parts = t.0 ∙ ap (λ (u : List ℕ). a.0.0 ++ u) s.0 ∙ ap (λ (u : List ℕ). u ++ (x ++ rest)) (sym head) ∙ sym (append_assoc (big_bytes 4 (length x)) x rest);
        others = s.3;
      };
  again = λ x rest holds short.
      let fits : length x < 256 ^ 4 = omega (arith, short, length-append (big_bytes 4 (length x)) x) in
      ap (λ (u : List ℕ). counted.read u) (append_assoc (big_bytes 4 (length x)) x rest)
      ∙ bind_is _ (λ front. next_at (big_number 4 front.0) front.1) (big_bytes 4 (length x), x ++ rest) (number_again 4 (length x) (x ++ rest) fits)
      ∙ ap (λ (m : ℕ). next_at m (x ++ rest)) (number_back 4 (length x) fits)
      ∙ next_again (length x) x rest refl;
}

-- ---- one after the other

pub nothing_form : IsForm nothing
nothing_form = record {
  takes = λ bytes x rest fits e.
      let P : Unit {0} × List ℕ → Type 0 = λ y. Takes nothing bytes y.0 y.1 in
      subst P (ok_is (tt, bytes) (x, rest) e) (record { holds = tt; parts = refl; others = fits });
  again = λ x rest holds short. refl;
}

pub pair_form : {A B : Type 0} {f : Form A} {g : Form B} → IsForm f → IsForm g → IsForm (f ⊗ g)
pair_form {f = f} {g = g} p q = record {
  takes = λ bytes x rest fits e.
      let a = bind_ok (f.read bytes) (λ a. g.read a.1 >>= λ b. Ok ((a.0, b.0), b.1)) (x, rest) e in
      let b = bind_ok (g.read a.0.1) (λ b. Ok ((a.0.0, b.0), b.1)) (x, rest) a.2 in
      let s = p.takes bytes a.0.0 a.0.1 fits a.1 in
      let t = q.takes a.0.1 b.0.0 b.0.1 s.others b.1 in
      let P : (_ × _) × List ℕ → Type 0 = λ y. Takes (f ⊗ g) bytes y.0 y.1 in
      subst P (ok_is ((a.0.0, b.0.0), b.0.1) (x, rest) b.2) (record {
        holds = (s.holds, t.holds);
        parts = s.parts ∙ ap (λ (u : List ℕ). f.write a.0.0 ++ u) t.parts ∙ sym (append_assoc (f.write a.0.0) (g.write b.0.0) b.0.1);
        others = t.others;
      });
  again = λ x rest holds short.
      let sum = length-append (f.write x.0) (g.write x.1) in
      ap (λ (u : List ℕ). (f ⊗ g).read u) (append_assoc (f.write x.0) (g.write x.1) rest)
      ∙ bind_is _ (λ a. g.read a.1 >>= λ b. Ok ((a.0, b.0), b.1)) (x.0, g.write x.1 ++ rest) (p.again x.0 (g.write x.1 ++ rest) holds.0 (omega (arith, short, sum)))
      ∙ bind_is _ (λ b. Ok ((x.0, b.0), b.1)) (x.1, rest) (q.again x.1 rest holds.1 (omega (arith, short, sum)));
}

pub made_form : {A B : Type 0} {f : Form A} (make : A → B) (parts : B → A) → ((a : A) → f.is a → parts (make a) ≡ a) → ((b : B) → make (parts b) ≡ b)
    → IsForm f → IsForm (made make parts f)
made_form {f = f} make parts there back p = record {
  takes = λ bytes x rest fits e.
      let a = bind_ok (f.read bytes) (λ a. Ok (make a.0, a.1)) (x, rest) e in
      let s = p.takes bytes a.0.0 a.0.1 fits a.1 in
      let P : _ × List ℕ → Type 0 = λ y. Takes (made make parts f) bytes y.0 y.1 in
      let H : _ → Type 0 = λ y. f.is y in
      subst P (ok_is (make a.0.0, a.0.1) (x, rest) a.2) (record {
        holds = subst H (sym (there a.0.0 s.holds)) s.holds;
        parts = s.parts ∙ ap (λ (u : _). f.write u ++ a.0.1) (sym (there a.0.0 s.holds));
        others = s.others;
      });
  again = λ x rest holds short.
      bind_is _ (λ a. Ok (make a.0, a.1)) (parts x, rest) (p.again (parts x) rest holds short) ∙ ap (λ (b : _). Ok (b, rest)) (back x);
}

pub tested_form : {A : Type 0} {f : Form A} (fault : WireFault) (test : A → Bool) → IsForm f → IsForm (tested fault test f)
tested_form {f = f} fault test p = record {
  takes = λ bytes x rest fits e.
      let a = bind_ok (f.read bytes) (λ a. cond (test a.0) (Ok a) (Err fault)) (x, rest) e in
      let t = test_ok (test a.0.0) fault a.0 (x, rest) a.2 in
      let s = p.takes bytes a.0.0 a.0.1 fits a.1 in
      let P : _ × List ℕ → Type 0 = λ y. Takes (tested fault test f) bytes y.0 y.1 in
      subst P t.1 (record { holds = (s.holds, t.0); parts = s.parts; others = s.others });
  again = λ x rest holds short.
      bind_is _ (λ a. cond (test a.0) (Ok a) (Err fault)) (x, rest) (p.again x rest holds.0 short)
      ∙ ap (λ (b : Bool). cond b (Ok (x, rest)) (Err fault)) holds.1;
}

-- ---- choices

-- each stands at its place, from the given one on
abbrev pub are_placed : {X : Type 0} → (X → ℕ) → ℕ → List X → Bool
are_placed place i [] = true
are_placed place i (x ∷ xs) = (place x == i) && are_placed place (suc i) xs

placed_at : {X : Type 0} (place : X → ℕ) (i : ℕ) (xs : List X) (k : ℕ) (x : X) → are_placed place i xs ≡ true → slice_get xs k ≡ Some x → place x ≡ k + i
placed_at place i [] k x h e = absurd cc
placed_at place i (y ∷ xs) zero x h e =
    let first : place y ≡ i = eqb-true _ _ (both _ _ h).0 in
    let same : y ≡ x = cc in
    ap place (sym same) ∙ first ∙ omega arith
placed_at place i (y ∷ xs) (suc k) x h e = placed_at place (suc i) xs k x (both _ _ h).1 e ∙ omega arith

known_ok : {X : Type 0} (found : Option X) (bytes : List ℕ) (x : X) (rest : List ℕ) → known found bytes ≡ Ok (x, rest) → (found ≡ Some x) × (bytes ≡ rest)
known_ok None bytes x rest e = absurd cc
known_ok (Some y) bytes x rest e =
    let same = ok_is (y, bytes) (x, rest) e in
    (ap (λ (p : _ × List ℕ). Some p.0) same, ap (λ (p : _ × List ℕ). p.1) same)

choice_takes : {X : Type 0} (all : List X) (place : X → ℕ) → are_placed place 0 all ≡ true → (bytes : List ℕ) (x : X) (rest : List ℕ) → IsBytes bytes
    → choice_at all bytes ≡ Ok (x, rest) → Takes (choice all place) bytes x rest
choice_takes all place placed [] x rest fits e = absurd cc
choice_takes all place placed (b ∷ bytes) x rest fits e =
    let k = known_ok (slice_get all b) bytes x rest e in
    let at : place x ≡ b = placed_at place 0 all b x placed k.0 ∙ omega arith in
    record {
      holds = ap (slice_get all) at ∙ k.0;
      parts = ap (λ (n : ℕ). n ∷ bytes) (sym at) ∙ ap (λ (u : List ℕ). place x ∷ u) k.1;
      others = let P : List ℕ → Type 0 = λ u. IsBytes u in subst P k.1 (IsBytes-rest b bytes fits);
    }

pub choice_form : {X : Type 0} (all : List X) (place : X → ℕ) → are_placed place 0 all ≡ true → IsForm (choice all place)
choice_form all place placed = record {
  takes = choice_takes all place placed;
  again = λ x rest holds short. ap (λ (o : Option _). known o rest) holds;
}

-- what was taken after a choice
pub record TakesKind {K X : Type 0} (kind : X → K) (is : X → Type 0) (body : X → List ℕ) (k : K) (bytes : List ℕ) (x : X) (rest : List ℕ) : Type 0 where
  pub same : kind x ≡ k
  pub holds : is x
  pub parts : bytes ≡ body x ++ rest
  pub others : IsBytes rest

pub of_kind_form : {K X : Type 0} {kinds : Form K} (kind : X → K) (is : X → Type 0) (body : X → List ℕ) (rest_of : K → List ℕ → Result (X × List ℕ) WireFault)
    → IsForm kinds → ((x : X) → kinds.is (kind x))
    → ((k : K) (bytes : List ℕ) (x : X) (rest : List ℕ) → kinds.is k → IsBytes bytes → rest_of k bytes ≡ Ok (x, rest) → TakesKind kind is body k bytes x rest)
    → ((x : X) (rest : List ℕ) → is x → IsShort (body x) → rest_of (kind x) (body x ++ rest) ≡ Ok (x, rest))
    → IsForm (of_kind kinds kind is body rest_of)
of_kind_form {kinds = kinds} kind is body rest_of p any takes again = record {
  takes = λ bytes x rest fits e.
      let a = bind_ok (kinds.read bytes) (λ k. rest_of k.0 k.1) (x, rest) e in
      let s = p.takes bytes a.0.0 a.0.1 fits a.1 in
      let t = takes a.0.0 a.0.1 x rest s.holds s.others a.2 in
      record {
        holds = t.holds;
        parts = s.parts ∙ ap (λ (k : _). kinds.write k ++ a.0.1) (sym t.same) ∙ ap (λ (u : List ℕ). kinds.write (kind x) ++ u) t.parts
            ∙ sym (append_assoc (kinds.write (kind x)) (body x) rest);
        others = t.others;
      };
  again = λ x rest holds short.
      let sum = length-append (kinds.write (kind x)) (body x) in
      ap (λ (u : List ℕ). kinds.read u >>= λ k. rest_of k.0 k.1) (append_assoc (kinds.write (kind x)) (body x) rest)
      ∙ bind_is _ (λ k. rest_of k.0 k.1) (kind x, body x ++ rest) (p.again (kind x) (body x ++ rest) (any x) (omega (arith, short, sum)))
      ∙ again x rest holds (omega (arith, short, sum));
}

-- one kind of a choice
pub behind_takes : {A K X : Type 0} {f : Form A} {kind : X → K} {is : X → Type 0} {body : X → List ℕ} (make : A → X) (k : K) → IsForm f
    → ((a : A) → kind (make a) ≡ k) → ((a : A) → f.is a → is (make a)) → ((a : A) → body (make a) ≡ f.write a)
    → (bytes : List ℕ) (x : X) (rest : List ℕ) → IsBytes bytes → behind make f bytes ≡ Ok (x, rest) → TakesKind kind is body k bytes x rest
behind_takes {f = f} {kind = kind} {is = is} {body = body} make k p kinds holds bodies bytes x rest fits e =
    let a = bind_ok (f.read bytes) (λ a. Ok (make a.0, a.1)) (x, rest) e in
    let s = p.takes bytes a.0.0 a.0.1 fits a.1 in
    let P : _ × List ℕ → Type 0 = λ y. TakesKind kind is body k bytes y.0 y.1 in
    subst P (ok_is (make a.0.0, a.0.1) (x, rest) a.2) (record {
      same = kinds a.0.0;
      holds = holds a.0.0 s.holds;
      parts = s.parts ∙ ap (λ (u : List ℕ). u ++ a.0.1) (sym (bodies a.0.0));
      others = s.others;
    })

pub behind_again : {A X : Type 0} {f : Form A} (make : A → X) → IsForm f → (a : A) (rest : List ℕ) → f.is a → IsShort (f.write a)
    → behind make f (f.write a ++ rest) ≡ Ok (make a, rest)
behind_again {f = f} make p a rest holds short = bind_is _ (λ b. Ok (make b.0, b.1)) (a, rest) (p.again a rest holds short)

-- ---- none or one, and lists

pub flags_form : IsForm flags
flags_form = choice_form (false ∷ true ∷ []) flag refl

abbrev some_behind : {X : Type 0} → Form X → List ℕ → Result (Option X × List ℕ) WireFault
some_behind f bytes = f.read bytes >>= λ a. Ok (Some a.0, a.1)

optional_takes : {X : Type 0} (f : Form X) → IsForm f → (b : Bool) (bytes : List ℕ) (whole : List ℕ) (x : Option X) (rest : List ℕ) → whole ≡ flags.write b ++ bytes → IsBytes bytes
    → cond b (some_behind f bytes) (Ok (None, bytes)) ≡ Ok (x, rest) → Takes (optional f) whole x rest
optional_takes f p false bytes whole x rest head fits e =
    let P : Option _ × List ℕ → Type 0 = λ y. Takes (optional f) whole y.0 y.1 in
    subst P (ok_is (None, bytes) (x, rest) e) (record { holds = tt; parts = head; others = fits })
optional_takes f p true bytes whole x rest head fits e =
    let a = bind_ok (f.read bytes) (λ a. Ok (Some a.0, a.1)) (x, rest) e in
    let s = p.takes bytes a.0.0 a.0.1 fits a.1 in
    let P : Option _ × List ℕ → Type 0 = λ y. Takes (optional f) whole y.0 y.1 in
    subst P (ok_is (Some a.0.0, a.0.1) (x, rest) a.2) (record { holds = s.holds; parts = head ∙ ap (λ (u : List ℕ). 1 ∷ u) s.parts; others = s.others })

optional_again : {X : Type 0} (f : Form X) → IsForm f → (x : Option X) (rest : List ℕ) → IfSome x f.is → IsShort (optional_write f.write x)
    → (optional f).read (optional_write f.write x ++ rest) ≡ Ok (x, rest)
optional_again f p None rest holds short = refl
optional_again f p (Some x) rest holds short = bind_is _ (λ a. Ok (Some a.0, a.1)) (x, rest) (p.again x rest holds (omega (arith, short)))

pub optional_form : {X : Type 0} {f : Form X} → IsForm f → IsForm (optional f)
optional_form {f = f} p = record {
  takes = λ bytes x rest fits e.
      let a = bind_ok (flags.read bytes) (λ b. cond b.0 (some_behind f b.1) (Ok (None, b.1))) (x, rest) e in
      let s = flags_form.takes bytes a.0.0 a.0.1 fits a.1 in
      optional_takes f p a.0.0 a.0.1 bytes x rest s.parts s.others a.2;
  again = optional_again f p;
}

-- each value takes a byte at least
abbrev pub TakesRoom : {X : Type 0} → Form X → Type 0
TakesRoom {X = X} f = (x : X) → 1 ≤ length (f.write x)

room_of_all : {X : Type 0} (f : Form X) → TakesRoom f → (xs : List X) → length xs ≤ length (write_all f.write xs)
room_of_all f room [] = omega arith
room_of_all f room (x ∷ xs) = omega (arith, room x, room_of_all f room xs, length-append (f.write x) (write_all f.write xs))

pub record TakesAll {X : Type 0} (f : Form X) (n : ℕ) (bytes : List ℕ) (xs : List X) (rest : List ℕ) : Type 0 where
  pub many : length xs ≡ n
  pub holds : AllByRecursion f.is xs
  pub parts : bytes ≡ write_all f.write xs ++ rest
  pub others : IsBytes rest

all_takes : {X : Type 0} (f : Form X) → IsForm f → (n : ℕ) (bytes : List ℕ) (xs : List X) (rest : List ℕ) → IsBytes bytes → read_all f.read n bytes ≡ Ok (xs, rest)
    → TakesAll f n bytes xs rest
all_takes f p zero bytes xs rest fits e =
    let P : List _ × List ℕ → Type 0 = λ y. TakesAll f 0 bytes y.0 y.1 in
    subst P (ok_is ([], bytes) (xs, rest) e) (record { many = refl; holds = tt; parts = refl; others = fits })
all_takes f p (suc n) bytes xs rest fits e =
    let a = bind_ok (f.read bytes) (λ x. read_all f.read n x.1 >>= λ xs. Ok (x.0 ∷ xs.0, xs.1)) (xs, rest) e in
    let b = bind_ok (read_all f.read n a.0.1) (λ xs. Ok (a.0.0 ∷ xs.0, xs.1)) (xs, rest) a.2 in
    let s = p.takes bytes a.0.0 a.0.1 fits a.1 in
    let t = all_takes f p n a.0.1 b.0.0 b.0.1 s.others b.1 in
    let P : List _ × List ℕ → Type 0 = λ y. TakesAll f (suc n) bytes y.0 y.1 in
    subst P (ok_is (a.0.0 ∷ b.0.0, b.0.1) (xs, rest) b.2) (record {
      many = ap suc t.many;
      holds = (s.holds, t.holds);
      parts = s.parts ∙ ap (λ (u : List ℕ). f.write a.0.0 ++ u) t.parts ∙ sym (append_assoc (f.write a.0.0) (write_all f.write b.0.0) b.0.1);
      others = t.others;
    })

all_again : {X : Type 0} (f : Form X) → IsForm f → (xs : List X) (rest : List ℕ) → AllByRecursion f.is xs → IsShort (write_all f.write xs)
    → read_all f.read (length xs) (write_all f.write xs ++ rest) ≡ Ok (xs, rest)
all_again f p [] rest holds short = refl
all_again f p (x ∷ xs) rest holds short =
    let sum = length-append (f.write x) (write_all f.write xs) in
    ap (λ (u : List ℕ). read_all f.read (suc (length xs)) u) (append_assoc (f.write x) (write_all f.write xs) rest)
    ∙ bind_is _ (λ a. read_all f.read (length xs) a.1 >>= λ b. Ok (a.0 ∷ b.0, b.1)) (x, write_all f.write xs ++ rest)
    (p.again x (write_all f.write xs ++ rest) holds.0 (omega (arith, short, sum)))
    ∙ bind_is _ (λ b. Ok (x ∷ b.0, b.1)) (xs, rest) (all_again f p xs rest holds.1 (omega (arith, short, sum)))

pub listed_form : {X : Type 0} {f : Form X} → TakesRoom f → IsForm f → IsForm (listed f)
listed_form {f = f} room p = record {
  takes = λ bytes xs rest fits e.
      let a = bind_ok ((number 4).read bytes) (λ n. read_all f.read n.0 n.1) (xs, rest) e in
      let s = number_form_4.takes bytes a.0.0 a.0.1 fits a.1 in
      let t = all_takes f p a.0.0 a.0.1 xs rest s.others a.2 in
      record {
        holds = t.holds;
        parts = s.parts ∙ ap (λ (n : ℕ). big_bytes 4 n ++ a.0.1) (sym t.many) ∙ ap (λ (u : List ℕ). big_bytes 4 (length xs) ++ u) t.parts
            ∙ sym (append_assoc (big_bytes 4 (length xs)) (write_all f.write xs) rest);
        others = t.others;
      };
  again = λ xs rest holds short.
      let sum = length-append (big_bytes 4 (length xs)) (write_all f.write xs) in
      let many = room_of_all f room xs in
      let four_bytes = length-bytes_high_first 4 (length xs) in
      ap (λ (u : List ℕ). (listed f).read u) (append_assoc (big_bytes 4 (length xs)) (write_all f.write xs) rest)
      ∙ bind_is _ (λ n. read_all f.read n.0 n.1) (length xs, write_all f.write xs ++ rest)
      (number_form_4.again (length xs) (write_all f.write xs ++ rest) (omega (arith, short, sum, many)) (omega (arith, four_bytes)))
      ∙ all_again f p xs rest holds (omega (arith, short, sum));
}

-- ---- a whole message

chosen : {A : Type 0} (b : Bool) (r : Result A WireFault) (d : WireFault) (y : A) → cond b r (Err d) ≡ Ok y → (b ≡ true) × (r ≡ Ok y)
chosen true r d y e = (refl, e)
chosen false r d y e = absurd cc

version_read : (bytes rest : List ℕ) → version_at bytes ≡ Ok rest → bytes ≡ version ∷ rest
version_read [] rest e = absurd cc
version_read (b ∷ bytes) rest e =
    let g = test_ok (b == version) BadVersion bytes rest e in
    ap (λ (n : ℕ). n ∷ bytes) (eqb-true b version g.0) ∙ ap (λ (u : List ℕ). version ∷ u) g.1

-- what was written is read again
pub written_is_read : {X : Type 0} {f : Form X} → IsForm f → (x : X) (bytes : List ℕ) → f.is x → written f x ≡ Ok bytes → read_whole f bytes ≡ Ok x
written_is_read {f = f} p x bytes holds e =
    let g = test_ok (nat_lt (length (version ∷ f.write x)) length_end) TooLong (version ∷ f.write x) bytes e in
    let short = ltb-true _ _ g.0 in
    let whole : f.read (f.write x) ≡ Ok (x, []) = ap f.read (sym (append-nil (f.write x))) ∙ p.again x [] holds (omega (arith, short)) in
    ap (read_whole f) (sym g.1)
    ∙ ap (λ (b : Bool). cond b (Ok (f.write x)) (Err TooLong) >>= λ rest. f.read rest >>= λ y. end_at y.0 y.1) g.0
    ∙ bind_is _ (λ y. end_at y.0 y.1) (x, []) whole

-- what is read was written, from a value in its ranges
pub read_was_written : {X : Type 0} {f : Form X} → IsForm f → (bytes : List ℕ) (x : X) → IsBytes bytes → read_whole f bytes ≡ Ok x → f.is x × (written f x ≡ Ok bytes)
read_was_written {f = f} p bytes x fits e =
    let b = bind_ok (begin_at bytes) (λ rest. f.read rest >>= λ y. end_at y.0 y.1) x e in
    let g = chosen (nat_lt (length bytes) length_end) (version_at bytes) TooLong b.0 b.1 in
    let head = version_read bytes b.0 g.1 in
    let a = bind_ok (f.read b.0) (λ y. end_at y.0 y.1) x b.2 in
    let others : IsBytes b.0 = let P : List ℕ → Type 0 = λ u. IsBytes u in IsBytes-rest version b.0 (subst P head fits) in
    let s = p.takes b.0 a.0.0 a.0.1 others a.1 in
    let t = test_ok (length a.0.1 == 0) Extra a.0.0 x a.2 in
    let none : a.0.1 ≡ [] = nil_from_length a.0.1 (eqb-true (length a.0.1) 0 t.0) in
    let same : version ∷ f.write a.0.0 ≡ bytes =
    ap (λ (u : List ℕ). version ∷ u) (sym (append-nil (f.write a.0.0)) ∙ ap (λ (u : List ℕ). f.write a.0.0 ++ u) (sym none) ∙ sym s.parts) ∙ sym head in
    let P : _ → Type 0 = λ y. f.is y × (written f y ≡ Ok bytes) in
    subst P t.1 (s.holds, ap short_of same ∙ ap (λ (b : Bool). cond b (Ok bytes) (Err TooLong)) g.0)

-- what is written is the version, and then the bytes of the form
pub written_begins : {X : Type 0} (f : Form X) (x : X) (bytes : List ℕ) → written f x ≡ Ok bytes → bytes ≡ version ∷ f.write x
written_begins f x bytes e =
    let g = test_ok (nat_lt (length (version ∷ f.write x)) length_end) TooLong (version ∷ f.write x) bytes e in
    sym g.1

-- what begins with another byte is of another version
pub other_version : {X : Type 0} (f : Form X) (first : ℕ) (rest : List ℕ) → first ≢ version → length (first ∷ rest) < length_end
    → read_whole f (first ∷ rest) ≡ Err BadVersion
other_version f first rest other short =
    ap (λ (b : Bool). cond b (version_at (first ∷ rest)) (Err TooLong) >>= λ rest. f.read rest >>= λ y. end_at y.0 y.1) (lt-ltb (length (first ∷ rest)) length_end short)
    ∙ ap (λ (b : Bool). cond b (Ok rest) (Err BadVersion) >>= λ rest. f.read rest >>= λ y. end_at y.0 y.1) (ne_eqb first version other)
