-- A frame is read kind by kind.
use Rattle.std.proofs.Common.{◌≡◌, ℕ, ◌^◌, ◌<◌, ◌≤◌, Bool, true, false, cond, List, length, take, drop, Result, Ok, Err, refl, sym, ap, subst, ◌∙◌, arith}
use Rattle.std.specs.Prelude.{◌==◌, IfOk, nat_lt}
use Rattle.std.proofs.lemmas.Bool.{le-ltb, lt-ltb}
use Rattle.std.proofs.lemmas.List.{length-drop}
use Rattle.collections.specs.Results.{Gives}
use Rattle.byteorder.specs.Endian.{big_number}
use Rattle.tags_cell.specs.declared.messages.requests.Request.{Request}
use Rattle.codec.specs.declared.faults.WireFault.{WireFault}
use Rattle.codec.specs.declared.faults.WireFault.TheVariants.{NoMemory, TooLong, Cut, Extra}
use Rattle.codec.specs.Forms.{◌>>=◌, Form, version_at, length_end, begin_at, end_at, written, read_whole}
use Rattle.codec.specs.Fields.{word}
use Rattle.codec.specs.Requests.{request}
use Rattle.codec.proofs.FormLaws.{IsBytes, IsForm, bind_is, read_was_written}
use Rattle.hosting.specs.declared.frames.Frame.TheVariants as frames
use Rattle.hosting.specs.declared.kinds.FrameKind.TheVariants as of
use Rattle.hosting.specs.Frames.{all_of, frame_behind}

abbrev pub wrapped : {A X : Type 0} → (A → X) → A × List ℕ → Result (X × List ℕ) WireFault
wrapped make a = Ok (make a.0, a.1)

-- all that was read of one thing is all that was read of what is made of it
pub ends_made : {A X : Type 0} (make : A → X) (x : A) (b : Bool) → cond b (Ok (make x)) (Err Extra) ≡ (cond b (Ok x) (Err Extra) >>= λ y. Ok (make y))
ends_made make x true = refl
ends_made make x false = refl

pub wraps : {A X : Type 0} (make : A → X) (r : Result (A × List ℕ) WireFault) → all_of (r >>= wrapped make) ≡ (all_of r >>= λ y. Ok (make y))
wraps make (Err e) = refl
wraps make (Ok a) = ends_made make a.0 (length a.1 == 0)

pub moment_made : {X : Type 0} (make : ℕ → X) (bytes : List ℕ) (r : Result ℕ WireFault) (x : ℕ) → r ≡ all_of (word.read bytes) → r ≡ Ok x
    → all_of (word.read bytes >>= wrapped make) ≡ Ok (make x)
moment_made make bytes r x e was = wraps make (word.read bytes) ∙ ap (λ (s : Result ℕ WireFault). s >>= λ y. Ok (make y)) (sym e ∙ was)

pub moment_refused : {X : Type 0} (make : ℕ → X) (bytes : List ℕ) (r : Result ℕ WireFault) (fault : WireFault) → r ≡ all_of (word.read bytes) → r ≡ Err fault
    → all_of (word.read bytes >>= wrapped make) ≡ Err fault
moment_refused make bytes r fault e was = wraps make (word.read bytes) ∙ ap (λ (s : Result ℕ WireFault). s >>= λ y. Ok (make y)) (sym e ∙ was)

-- ---- a number, and a message after it

abbrev paired : {A B : Type 0} → A → B × List ℕ → Result ((A × B) × List ℕ) WireFault
paired n b = Ok ((n, b.0), b.1)

abbrev pub joined : {A B X : Type 0} → (A → B → X) → (A × B) × List ℕ → Result (X × List ℕ) WireFault
joined make a = Ok (make a.0.0 a.0.1, a.1)

inner_of : {A B X : Type 0} (make : A → B → X) (n : A) (r : Result (B × List ℕ) WireFault) → all_of ((r >>= paired n) >>= joined make) ≡ (all_of r >>= λ q. Ok (make n q))
inner_of make n (Err e) = refl
inner_of make n (Ok b) = ends_made (make n) b.0 (length b.1 == 0)

outer_of : {A B X : Type 0} (make : A → B → X) (f : Form B) (n : A) (v : Result (List ℕ) WireFault)
    → all_of (((v >>= λ rest. f.read rest) >>= paired n) >>= joined make) ≡ ((v >>= λ rest. all_of (f.read rest)) >>= λ q. Ok (make n q))
outer_of make f n (Err e) = refl
outer_of make f n (Ok rest) = inner_of make n (f.read rest)

abbrev pub both_of : {A B : Type 0} → Form B → A × List ℕ → Result ((A × B) × List ℕ) WireFault
both_of f a = (version_at a.1 >>= λ rest. f.read rest) >>= paired a.0

-- what stands after the number is read as a whole message
pub parts_of : {A B X : Type 0} (make : A → B → X) (f : Form B) (r : Result (A × List ℕ) WireFault) (n : A) (back : List ℕ) → r ≡ Ok (n, back)
    → nat_lt (length back) length_end ≡ true → all_of ((r >>= both_of f) >>= joined make) ≡ (read_whole f back >>= λ q. Ok (make n q))
parts_of make f r n back e short =
    ap (λ (s : _). all_of ((s >>= both_of f) >>= joined make)) e
    ∙ outer_of make f n (version_at back)
    ∙ ap (λ (b : Bool). (cond b (version_at back) (Err TooLong) >>= λ rest. all_of (f.read rest)) >>= λ q. Ok (make n q)) (sym short)

pub word_read : (bytes : List ℕ) → 8 ≤ length bytes → word.read bytes ≡ Ok (big_number 8 (take 8 bytes), drop 8 bytes)
unfolding word
word_read bytes long = rw (le-ltb (length bytes) 8 long) refl

pub message_whole : (bytes : List ℕ) → length bytes < 2 ^ 32 → 8 ≤ length bytes
    → all_of (frame_behind of.Message bytes) ≡ (read_whole request (drop 8 bytes) >>= λ q. Ok (frames.Message (big_number 8 (take 8 bytes)) q))
message_whole bytes short long =
    parts_of frames.Message request (word.read bytes) (big_number 8 (take 8 bytes)) (drop 8 bytes) (word_read bytes long) (lt-ltb (length (drop 8 bytes)) length_end (omega (arith, length-drop 8 bytes)))

pub message_cut : (bytes : List ℕ) → length bytes < 8 → all_of (frame_behind of.Message bytes) ≡ Err Cut
unfolding word
message_cut bytes short = rw (lt-ltb (length bytes) 8 short) refl

pub moment_cut : (bytes : List ℕ) → length bytes < 8 → all_of (word.read bytes) ≡ Err Cut
unfolding word
moment_cut bytes short = rw (lt-ltb (length bytes) 8 short) refl

-- a moment, and whether bytes stand after it
pub moment_at : (bytes : List ℕ) → 8 ≤ length bytes → all_of (word.read bytes) ≡ end_at (big_number 8 (take 8 bytes)) (drop 8 bytes)
moment_at bytes long = ap all_of (word_read bytes long)

-- what was read of the message is what is read of the frame
pub reads_message : (bytes front back : List ℕ) (now : ℕ) (message : Request) → length bytes < 2 ^ 32 → 8 ≤ length bytes → front ≡ take 8 bytes → back ≡ drop 8 bytes
    → now ≡ big_number 8 front → read_whole request back ≡ Ok message → all_of (frame_behind of.Message bytes) ≡ Ok (frames.Message now message)
reads_message bytes front back now message short long f b n is =
    message_whole bytes short long
    ∙ ap (λ (u : List ℕ). read_whole request u >>= λ q. Ok (frames.Message (big_number 8 (take 8 bytes)) q)) (sym b)
    ∙ ap (λ (r : Result Request WireFault). r >>= λ q. Ok (frames.Message (big_number 8 (take 8 bytes)) q)) is
    ∙ ap (λ (m : ℕ). Ok (frames.Message m message)) (sym (n ∙ ap (λ (u : List ℕ). big_number 8 u) f))

pub refuses_message : (bytes back : List ℕ) (fault : WireFault) → length bytes < 2 ^ 32 → 8 ≤ length bytes → back ≡ drop 8 bytes → read_whole request back ≡ Err fault
    → all_of (frame_behind of.Message bytes) ≡ Err fault
refuses_message bytes back fault short long b is =
    message_whole bytes short long
    ∙ ap (λ (u : List ℕ). read_whole request u >>= λ q. Ok (frames.Message (big_number 8 (take 8 bytes)) q)) (sym b)
    ∙ ap (λ (r : Result Request WireFault). r >>= λ q. Ok (frames.Message (big_number 8 (take 8 bytes)) q)) is

-- ---- all bytes of a frame, in either direction

pub whole_of : {X : Type 0} (f : Form X) (bytes fields : List ℕ) (r : Result X WireFault) → begin_at bytes ≡ Ok fields → Gives NoMemory r (all_of (f.read fields))
    → Gives NoMemory r (read_whole f bytes)
whole_of {X = X} f bytes fields r begun given =
    let P : Result X WireFault → Type 0 = λ w. Gives NoMemory r w in
    subst P (sym (bind_is (begin_at bytes) (λ rest. all_of (f.read rest)) fields begun)) given

pub refused_of : {X : Type 0} (f : Form X) (bytes : List ℕ) (fault : WireFault) → begin_at bytes ≡ Err fault → read_whole f bytes ≡ Err fault
refused_of f bytes fault begun = ap (λ (r : Result (List ℕ) WireFault). r >>= λ rest. all_of (f.read rest)) begun

pub back_of : {X : Type 0} {f : Form X} → IsForm f → (bytes : List ℕ) (r : Result X WireFault) → IsBytes bytes → Gives NoMemory r (read_whole f bytes) → IfOk r (λ x. written f x ≡ Ok bytes)
back_of p bytes (Ok x) fits given = (read_was_written p bytes x fits given).1
back_of p bytes (Err e) fits given = tt
