-- Forms: how the values of a type stand in bytes, what is written and what is read.
use Rattle.std.specs.Prelude.{◌≡◌, ◌≢◌, ℕ, zero, suc, ◌<◌, ◌^◌, Bool, true, false, List, [], ◌∷◌, ◌++◌, length, take, drop, Option, Some, None, Result, Ok, Err, IfSome, nat_lt, ◌==◌, if◌then◌else◌, slice_get}
use Rattle.std.specs.List.{AllByRecursion}
use Rattle.byteorder.specs.Endian.{big_bytes, big_number}
use Rattle.codec.specs.declared.faults.WireFault.{WireFault}
use Rattle.codec.specs.declared.faults.WireFault.TheVariants.{NoMemory, TooLong, Cut, Extra, BadVersion, BadKind}

-- one step of reading after the other; the first fault ends it
infixl 10 ◌>>=◌
abbrev pub ◌>>=◌ : {A B : Type 0} → Result A WireFault → (A → Result B WireFault) → Result B WireFault
(Ok x) >>= f = f x
(Err e) >>= f = Err e

-- how the values of a type stand in bytes
pub record Form (X : Type 0) : Type 1 where
  -- the values that have bytes
  pub is : X → Type 0
  -- the bytes of a value
  pub write : X → List ℕ
  -- the value at the front of bytes, and what stands after it
  pub read : List ℕ → Result (X × List ℕ) WireFault

-- what a reader answers, seen by view, and what it leaves are what reading gives, unless memory ran out
abbrev pub Reads : {X Y : Type 0} → (X → Y) → Result X WireFault → List ℕ → Result (Y × List ℕ) WireFault → Type 0
Reads view (Ok x) rest wanted = wanted ≡ Ok (view x, rest)
Reads view (Err e) rest wanted = e ≢ NoMemory → wanted ≡ Err e

-- what a writer leaves is what was there, and then the bytes of a value that has some
abbrev pub Appends : {X : Type 0} → Form X → X → List ℕ → List ℕ → Type 0
Appends f x old new = f.is x × (new ≡ old ++ f.write x)

-- ---- numbers and blocks of bytes

-- so many bytes from the front
abbrev pub next_at : ℕ → List ℕ → Result (List ℕ × List ℕ) WireFault
next_at n bytes = if nat_lt (length bytes) n then Err Cut else Ok (take n bytes, drop n bytes)

-- a number in so many bytes, the highest first
abbrev pub number : ℕ → Form ℕ
number n = record {
  is = λ x. x < 256 ^ n;
  write = λ x. big_bytes n x;
  read = λ bytes. next_at n bytes >>= λ front. Ok (big_number n front.0, front.1);
}

abbrev pub byte_at : List ℕ → Result (ℕ × List ℕ) WireFault
byte_at [] = Err Cut
byte_at (b ∷ rest) = Ok (b, rest)

-- a byte as it is
abbrev pub byte : Form ℕ
byte = record {
  is = λ x. x < 256;
  write = λ x. x ∷ [];
  read = λ bytes. byte_at bytes;
}

-- the number of the bytes in four, and then the bytes
abbrev pub counted : Form (List ℕ)
counted = record {
  is = λ bytes. Unit {0};
  write = λ bytes. big_bytes 4 (length bytes) ++ bytes;
  read = λ bytes. next_at 4 bytes >>= λ front. next_at (big_number 4 front.0) front.1;
}

-- ---- one after the other

-- nothing at all
abbrev pub nothing : Form (Unit {0})
nothing = record {
  is = λ _. Unit {0};
  write = λ _. [];
  read = λ bytes. Ok (tt, bytes);
}

-- one value after the other
infixr 20 ◌⊗◌
abbrev pub ◌⊗◌ : {A B : Type 0} → Form A → Form B → Form (A × B)
f ⊗ g = record {
  is = λ x. f.is x.0 × g.is x.1;
  write = λ x. f.write x.0 ++ g.write x.1;
  read = λ bytes. f.read bytes >>= λ a. g.read a.1 >>= λ b. Ok ((a.0, b.0), b.1);
}

-- values that are made of others, and taken apart into them
abbrev pub made : {A B : Type 0} → (A → B) → (B → A) → Form A → Form B
made make parts f = record {
  is = λ x. f.is (parts x);
  write = λ x. f.write (parts x);
  read = λ bytes. f.read bytes >>= λ a. Ok (make a.0, a.1);
}

-- the values that pass a test; all others are refused so
abbrev pub tested : {A : Type 0} → WireFault → (A → Bool) → Form A → Form A
tested fault test f = record {
  is = λ x. f.is x × (test x ≡ true);
  write = f.write;
  read = λ bytes. f.read bytes >>= λ a. if test a.0 then Ok a else Err fault;
}

-- ---- choices

abbrev pub known : {X : Type 0} → Option X → List ℕ → Result (X × List ℕ) WireFault
known None rest = Err BadKind
known (Some x) rest = Ok (x, rest)

abbrev pub choice_at : {X : Type 0} → List X → List ℕ → Result (X × List ℕ) WireFault
choice_at all [] = Err Cut
choice_at all (b ∷ rest) = known (slice_get all b) rest

-- one of a list of choices, as a byte that is its place in the list
abbrev pub choice : {X : Type 0} → List X → (X → ℕ) → Form X
choice all place = record {
  is = λ x. slice_get all (place x) ≡ Some x;
  write = λ x. place x ∷ [];
  read = λ bytes. choice_at all bytes;
}

-- a value after the choice that says of which kind it is
abbrev pub of_kind : {K X : Type 0} → Form K → (X → K) → (X → Type 0) → (X → List ℕ) → (K → List ℕ → Result (X × List ℕ) WireFault) → Form X
of_kind kinds kind is body rest = record {
  is = is;
  write = λ x. kinds.write (kind x) ++ body x;
  read = λ bytes. kinds.read bytes >>= λ k. rest k.0 k.1;
}

-- what stands after the choice, as a value of that kind
abbrev pub behind : {A X : Type 0} → (A → X) → Form A → List ℕ → Result (X × List ℕ) WireFault
behind make f bytes = f.read bytes >>= λ a. Ok (make a.0, a.1)

-- ---- none or one, and lists

abbrev pub flag : Bool → ℕ
flag false = 0
flag true = 1

abbrev pub flags : Form Bool
flags = choice (false ∷ true ∷ []) flag

abbrev pub optional_write : {X : Type 0} → (X → List ℕ) → Option X → List ℕ
optional_write write None = flags.write false
optional_write write (Some x) = flags.write true ++ write x

-- a byte 0 for none; or a byte 1, and then the value
abbrev pub optional : {X : Type 0} → Form X → Form (Option X)
optional f = record {
  is = λ x. IfSome x f.is;
  write = λ x. optional_write f.write x;
  read = λ bytes. flags.read bytes >>= λ b. if b.0 then (f.read b.1 >>= λ x. Ok (Some x.0, x.1)) else Ok (None, b.1);
}

abbrev pub write_all : {X : Type 0} → (X → List ℕ) → List X → List ℕ
write_all write [] = []
write_all write (x ∷ xs) = write x ++ write_all write xs

abbrev pub read_all : {X : Type 0} → (List ℕ → Result (X × List ℕ) WireFault) → ℕ → List ℕ → Result (List X × List ℕ) WireFault
read_all read zero bytes = Ok ([], bytes)
read_all read (suc n) bytes = read bytes >>= λ x. read_all read n x.1 >>= λ xs. Ok (x.0 ∷ xs.0, xs.1)

-- the number of the values in four bytes, and then the values
abbrev pub listed : {X : Type 0} → Form X → Form (List X)
listed f = record {
  is = λ xs. AllByRecursion f.is xs;
  write = λ xs. big_bytes 4 (length xs) ++ write_all f.write xs;
  read = λ bytes. (number 4).read bytes >>= λ n. read_all f.read n.0 n.1;
}

-- ---- a whole message

-- the version of this format: it rises with each change of what stands after it
abbrev pub version : ℕ
version = 2

-- all bytes together are fewer than this
abbrev pub length_end : ℕ
length_end = 2 ^ 32

abbrev pub short_of : List ℕ → Result (List ℕ) WireFault
short_of bytes = if nat_lt (length bytes) length_end then Ok bytes else Err TooLong

-- the bytes of a message, after the version; or that there would be too many
abbrev pub written : {X : Type 0} → Form X → X → Result (List ℕ) WireFault
written f x = short_of (version ∷ f.write x)

abbrev pub version_at : List ℕ → Result (List ℕ) WireFault
version_at [] = Err Cut
version_at (b ∷ rest) = if b == version then Ok rest else Err BadVersion

-- what stands after the version
abbrev pub begin_at : List ℕ → Result (List ℕ) WireFault
begin_at bytes = if nat_lt (length bytes) length_end then version_at bytes else Err TooLong

-- nothing stands after
abbrev pub end_at : {X : Type 0} → X → List ℕ → Result X WireFault
end_at x rest = if length rest == 0 then Ok x else Err Extra

-- the message whose bytes these are, all of them; or what is wrong with them, the first from the left
abbrev pub read_whole : {X : Type 0} → Form X → List ℕ → Result X WireFault
read_whole f bytes = begin_at bytes >>= λ rest. f.read rest >>= λ x. end_at x.0 x.1
