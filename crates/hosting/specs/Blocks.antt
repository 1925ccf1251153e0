-- Blocks of bytes in a stream, each with its number of bytes in front.
use Rattle.std.specs.Prelude.{ℕ, List, [], ◌∷◌, length, take, drop, Bool, true, false, Option, Some, None, Result, Ok, Err, nat_lt, if◌then◌else◌}
use Rattle.byteorder.specs.Endian.{big_number}
use Rattle.codec.specs.declared.faults.WireFault.{WireFault}
use Rattle.codec.specs.declared.faults.WireFault.TheVariants.{TooLong, Cut}
use Rattle.codec.specs.Forms.{◌>>=◌, Form, counted, version, version_at, short_of, written}

-- after the version
abbrev pub versioned : {X : Type 0} → Form X → Form X
versioned f = record {
  is = f.is;
  write = λ x. version ∷ f.write x;
  read = λ bytes. version_at bytes >>= λ rest. f.read rest;
}

-- the version and a kind with its fields as a block; or that there would be too many bytes
abbrev pub framed_by : List ℕ → Result (List ℕ) WireFault
framed_by fields = short_of (version ∷ fields) >>= λ bytes. Ok (counted.write bytes)

-- a value as a block
abbrev pub framed : {X : Type 0} → Form X → X → Result (List ℕ) WireFault
framed f x = written f x >>= λ bytes. Ok (counted.write bytes)

-- so many bytes from the front, and what is left; where there are fewer they are cut off, and what is longer than the
-- limit is passed over
abbrev pub block_within : ℕ → ℕ → List ℕ → Result (List ℕ) WireFault × List ℕ
block_within limit count bytes =
    if nat_lt limit count then (Err TooLong, drop count bytes)
    else if nat_lt (length bytes) count then (Err Cut, [])
    else (Ok (take count bytes), drop count bytes)

-- the next block of a stream whose blocks have at most so many bytes, if there is one, and what is left
abbrev pub next_within : ℕ → List ℕ → Option (Result (List ℕ) WireFault × List ℕ)
next_within limit [] = None
next_within limit (first ∷ rest) =
    Some (if nat_lt (length (first ∷ rest)) 4 then (Err Cut, [])
    else block_within limit (big_number 4 (take 4 (first ∷ rest))) (drop 4 (first ∷ rest)))

-- the most bytes of a block that a master reads
abbrev pub block_limit : ℕ
block_limit = 1048576

-- both of what a master reads
abbrev pub block_at : ℕ → List ℕ → Result (List ℕ) WireFault × List ℕ
block_at count bytes = block_within block_limit count bytes

abbrev pub next_block : List ℕ → Option (Result (List ℕ) WireFault × List ℕ)
next_block bytes = next_within block_limit bytes

abbrev pub is_block : Result (List ℕ) WireFault → Bool
is_block (Ok block) = true
is_block (Err fault) = false

abbrev pub is_whole : Option (Result (List ℕ) WireFault × List ℕ) → Bool
is_whole None = false
is_whole (Some next) = is_block next.0

-- whether a block that a master reads stands whole in front
abbrev pub stands_whole : List ℕ → Bool
stands_whole bytes = is_whole (next_block bytes)
