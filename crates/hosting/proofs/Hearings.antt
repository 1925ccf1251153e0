-- What a master tells is read kind by kind.
use Rattle.std.proofs.Common.{◌≡◌, ℕ, ◌^◌, ◌<◌, ◌≤◌, Bool, true, false, cond, List, [], ◌∷◌, length, take, drop, Option, Some, None, Result, Ok, Err, refl, sym, ap, ◌∙◌, arith}
use Rattle.std.specs.Prelude.{◌==◌, if◌then◌else◌, slice_get}
use Rattle.std.proofs.lemmas.Bool.{le-ltb, lt-ltb}
use Rattle.std.proofs.lemmas.Bool.Decides.{nat_tests}
use Rattle.std.proofs.lemmas.List.{length-drop, take_all}
use Rattle.byteorder.specs.Endian.{big_number}
use Rattle.tags_cell.specs.Numbers.{IsClientNumber, is_client_number}
use Rattle.node_core.specs.declared.lines.Line.{Line}
use Rattle.tags_cell.specs.declared.messages.outs.Out.{Out}
use Rattle.codec.specs.declared.faults.WireFault.{WireFault}
use Rattle.codec.specs.declared.faults.WireFault.TheVariants.{TooLong, Cut, Extra, BadKind, BadNumber}
use Rattle.codec.specs.Forms.{◌>>=◌, Form, version_at, next_at, known, length_end, end_at, read_whole}
use Rattle.codec.specs.Fields.{word, client, block, optional_word}
use Rattle.codec.specs.Outs.{out_message}
use Rattle.codec.specs.Lines.{line}
use Rattle.hosting.specs.declared.tellings.MasterFrame.{MasterFrame}
use Rattle.hosting.specs.declared.tellings.MasterFrame.TheVariants as tells
use Rattle.hosting.specs.declared.kinds.ToldKind.TheVariants as of
use Rattle.hosting.specs.Frames.{all_of}
use Rattle.hosting.specs.Told.{told_behind}
use Rattle.hosting.proofs.Readings.{ends_made, wrapped, wraps, joined, both_of, parts_of, word_read}

-- ---- a text

pub text_unbegun : (bytes : List ℕ) → length bytes < 4 → all_of (block.read bytes) ≡ Err Cut
unfolding block
text_unbegun bytes short = rw (lt-ltb (length bytes) 4 short) refl

block_read : (bytes : List ℕ) → 4 ≤ length bytes → block.read bytes ≡ next_at (big_number 4 (take 4 bytes)) (drop 4 bytes)
unfolding block
block_read bytes long = rw (le-ltb (length bytes) 4 long) refl

text_at : (bytes front text : List ℕ) (count : ℕ) → 4 ≤ length bytes → front ≡ take 4 bytes → text ≡ drop 4 bytes → count ≡ big_number 4 front
    → all_of (block.read bytes) ≡ all_of (next_at count text)
text_at bytes front text count long f b n =
    ap (λ (r : Result (List ℕ × List ℕ) WireFault). all_of r) (block_read bytes long)
    ∙ ap (λ (u : List ℕ). all_of (next_at (big_number 4 (take 4 bytes)) u)) (sym b)
    ∙ ap (λ (m : ℕ). all_of (next_at m text)) (sym (n ∙ ap (λ (u : List ℕ). big_number 4 u) f))

abbrev text_by : Bool → ℕ → List ℕ → Result (List ℕ) WireFault
text_by short count text = all_of (cond short (Err Cut) (Ok (take count text, drop count text)))

pub text_cut : (bytes front text : List ℕ) (count : ℕ) → 4 ≤ length bytes → front ≡ take 4 bytes → text ≡ drop 4 bytes → count ≡ big_number 4 front → length text < count
    → all_of (block.read bytes) ≡ Err Cut
text_cut bytes front text count long f b n lt = text_at bytes front text count long f b n ∙ ap (λ (s : Bool). text_by s count text) (lt-ltb (length text) count lt)

-- what stands after the text
ended : (count : ℕ) (text : List ℕ) → count ≤ length text → all_of (next_at count text) ≡ cond (length (drop count text) == 0) (Ok (take count text)) (Err Extra)
ended count text le = ap (λ (s : Bool). text_by s count text) (le-ltb (length text) count le)

is_none : (n : ℕ) → n ≡ 0 → (n == 0) ≡ true
is_none n e = rw e refl

is_some : (n : ℕ) → 0 < n → (n == 0) ≡ false
is_some n lt = grind (arith, nat_tests)

pub text_over : (bytes front text : List ℕ) (count : ℕ) → 4 ≤ length bytes → front ≡ take 4 bytes → text ≡ drop 4 bytes → count ≡ big_number 4 front → count < length text
    → all_of (block.read bytes) ≡ Err Extra
text_over bytes front text count long f b n lt =
    text_at bytes front text count long f b n ∙ ended count text (omega (arith, lt))
    ∙ ap (λ (e : Bool). cond e (Ok (take count text)) (Err Extra)) (is_some (length (drop count text)) (omega (arith, lt, length-drop count text)))

pub text_whole : (bytes front text : List ℕ) (count : ℕ) → 4 ≤ length bytes → front ≡ take 4 bytes → text ≡ drop 4 bytes → count ≡ big_number 4 front → count ≡ length text
    → all_of (block.read bytes) ≡ Ok text
text_whole bytes front text count long f b n same =
    text_at bytes front text count long f b n ∙ ended count text (omega (arith, same))
    ∙ ap (λ (e : Bool). cond e (Ok (take count text)) (Err Extra)) (is_none (length (drop count text)) (omega (arith, same, length-drop count text)))
    ∙ ap (λ (u : List ℕ). Ok u) (take_all count text (omega (arith, same)))

-- what is made of a text is read where the text is
pub text_made : (make : List ℕ → MasterFrame) (bytes text : List ℕ) → all_of (block.read bytes) ≡ Ok text → all_of (block.read bytes >>= wrapped make) ≡ Ok (make text)
text_made make bytes text e = wraps make (block.read bytes) ∙ ap (λ (s : Result (List ℕ) WireFault). s >>= λ y. Ok (make y)) e

pub text_refused : (make : List ℕ → MasterFrame) (bytes : List ℕ) (fault : WireFault) → all_of (block.read bytes) ≡ Err fault → all_of (block.read bytes >>= wrapped make) ≡ Err fault
text_refused make bytes fault e = wraps make (block.read bytes) ∙ ap (λ (s : Result (List ℕ) WireFault). s >>= λ y. Ok (make y)) e

-- ---- a line

ends_behind : {X : Type 0} (f : Form X) (v : Result (List ℕ) WireFault) → all_of (v >>= λ rest. f.read rest) ≡ (v >>= λ rest. all_of (f.read rest))
ends_behind f (Err e) = refl
ends_behind f (Ok rest) = refl

line_whole : (bytes : List ℕ) → length bytes < 2 ^ 32 → all_of (told_behind of.Line bytes) ≡ (read_whole line bytes >>= λ q. Ok (tells.Line q))
line_whole bytes short =
    wraps tells.Line (version_at bytes >>= λ rest. line.read rest)
    ∙ ap (λ (r : Result Line WireFault). r >>= λ q. Ok (tells.Line q)) (ends_behind line (version_at bytes))
    ∙ ap (λ (b : Bool). (cond b (version_at bytes) (Err TooLong) >>= λ rest. all_of (line.read rest)) >>= λ q. Ok (tells.Line q)) (sym (lt-ltb (length bytes) length_end short))

pub line_reads : (bytes : List ℕ) (printed : Line) → length bytes < 2 ^ 32 → read_whole line bytes ≡ Ok printed → all_of (told_behind of.Line bytes) ≡ Ok (tells.Line printed)
line_reads bytes printed short e = line_whole bytes short ∙ ap (λ (r : Result Line WireFault). r >>= λ q. Ok (tells.Line q)) e

pub line_refuses : (bytes : List ℕ) (fault : WireFault) → length bytes < 2 ^ 32 → read_whole line bytes ≡ Err fault → all_of (told_behind of.Line bytes) ≡ Err fault
line_refuses bytes fault short e = line_whole bytes short ∙ ap (λ (r : Result Line WireFault). r >>= λ q. Ok (tells.Line q)) e

-- ---- a message, and the client before it

pub told_cut : (bytes : List ℕ) → length bytes < 8 → all_of (told_behind of.Message bytes) ≡ Err Cut
unfolding client word
told_cut bytes short = rw (lt-ltb (length bytes) 8 short) refl

abbrev known_as : ℕ → List ℕ → Result (ℕ × List ℕ) WireFault
known_as n rest = if is_client_number n then Ok (n, rest) else Err BadNumber

client_read : (bytes : List ℕ) → 8 ≤ length bytes → client.read bytes ≡ known_as (big_number 8 (take 8 bytes)) (drop 8 bytes)
unfolding client
client_read bytes long = ap (λ (r : Result (ℕ × List ℕ) WireFault). r >>= λ a. if is_client_number a.0 then Ok a else Err BadNumber) (word_read bytes long)

is_client : (n : ℕ) → IsClientNumber n → is_client_number n ≡ true
is_client n h = grind (arith, nat_tests)

no_client : (n : ℕ) → (IsClientNumber n → ⊥) → is_client_number n ≡ false
no_client n h = grind (arith, nat_tests)

client_known : (bytes front back : List ℕ) (number : ℕ) → 8 ≤ length bytes → front ≡ take 8 bytes → back ≡ drop 8 bytes → number ≡ big_number 8 front → IsClientNumber number
    → client.read bytes ≡ Ok (number, back)
client_known bytes front back number long f b n is =
    client_read bytes long
    ∙ ap (λ (m : ℕ). known_as m (drop 8 bytes)) (sym (n ∙ ap (λ (u : List ℕ). big_number 8 u) f))
    ∙ ap (λ (u : List ℕ). known_as number u) (sym b)
    ∙ ap (λ (t : Bool). cond t (Ok (number, back)) (Err BadNumber)) (is_client number is)

abbrev told_after : Result (ℕ × List ℕ) WireFault → Result MasterFrame WireFault
told_after r = all_of ((r >>= both_of out_message) >>= joined tells.Message)

pub told_stranger : (bytes front : List ℕ) (number : ℕ) → 8 ≤ length bytes → front ≡ take 8 bytes → number ≡ big_number 8 front → (IsClientNumber number → ⊥)
    → all_of (told_behind of.Message bytes) ≡ Err BadNumber
told_stranger bytes front number long f n h =
    ap (λ (r : Result (ℕ × List ℕ) WireFault). told_after r) (client_read bytes long ∙ ap (λ (m : ℕ). known_as m (drop 8 bytes)) (sym (n ∙ ap (λ (u : List ℕ). big_number 8 u) f)))
    ∙ ap (λ (t : Bool). told_after (cond t (Ok (number, drop 8 bytes)) (Err BadNumber))) (no_client number h)

told_whole : (bytes front back : List ℕ) (number : ℕ) → length bytes < 2 ^ 32 → 8 ≤ length bytes → front ≡ take 8 bytes → back ≡ drop 8 bytes → number ≡ big_number 8 front
    → IsClientNumber number → all_of (told_behind of.Message bytes) ≡ (read_whole out_message back >>= λ q. Ok (tells.Message number q))
told_whole bytes front back number short long f b n is =
    let fewer : length back ≡ length (drop 8 bytes) = ap (λ (u : List ℕ). length u) b in
    parts_of tells.Message out_message (client.read bytes) number back (client_known bytes front back number long f b n is)
    (lt-ltb (length back) length_end (omega (arith, short, fewer, length-drop 8 bytes)))

-- what was read of the message is what is read of all
pub told_reads : (bytes front back : List ℕ) (number : ℕ) (message : Out) → length bytes < 2 ^ 32 → 8 ≤ length bytes → front ≡ take 8 bytes → back ≡ drop 8 bytes
    → number ≡ big_number 8 front → IsClientNumber number → read_whole out_message back ≡ Ok message → all_of (told_behind of.Message bytes) ≡ Ok (tells.Message number message)
told_reads bytes front back number message short long f b n is e =
    told_whole bytes front back number short long f b n is ∙ ap (λ (r : Result Out WireFault). r >>= λ q. Ok (tells.Message number q)) e

pub told_refuses : (bytes front back : List ℕ) (number : ℕ) (fault : WireFault) → length bytes < 2 ^ 32 → 8 ≤ length bytes → front ≡ take 8 bytes → back ≡ drop 8 bytes
    → number ≡ big_number 8 front → IsClientNumber number → read_whole out_message back ≡ Err fault → all_of (told_behind of.Message bytes) ≡ Err fault
told_refuses bytes front back number fault short long f b n is e =
    told_whole bytes front back number short long f b n is ∙ ap (λ (r : Result Out WireFault). r >>= λ q. Ok (tells.Message number q)) e

-- ---- the mark, and the moment in it

abbrev moment_in : Bool × List ℕ → Result (Option ℕ × List ℕ) WireFault
moment_in b = if b.0 then (word.read b.1 >>= λ x. Ok (Some x.0, x.1)) else Ok (None, b.1)

abbrev marked : Option ℕ × List ℕ → Result (MasterFrame × List ℕ) WireFault
marked a = Ok (tells.End a.0, a.1)

mark_at : (place : ℕ) (rest : List ℕ) → all_of (told_behind of.End (place ∷ rest)) ≡ all_of ((known (slice_get (false ∷ true ∷ []) place) rest >>= moment_in) >>= marked)
unfolding optional_word
mark_at place rest = refl

moment_made : (r : Result (ℕ × List ℕ) WireFault) → all_of ((r >>= λ x. Ok (Some x.0, x.1)) >>= marked) ≡ (all_of r >>= λ m. Ok (tells.End (Some m)))
moment_made (Err e) = refl
moment_made (Ok a) = ends_made (λ m. tells.End (Some m)) a.0 (length a.1 == 0)

pub mark_unknown : (place : ℕ) (rest : List ℕ) → slice_get (false ∷ true ∷ []) place ≡ None → all_of (told_behind of.End (place ∷ rest)) ≡ Err BadKind
mark_unknown place rest e = mark_at place rest ∙ ap (λ (o : Option Bool). all_of ((known o rest >>= moment_in) >>= marked)) e

pub mark_without : (place : ℕ) (rest : List ℕ) → slice_get (false ∷ true ∷ []) place ≡ Some false → all_of (told_behind of.End (place ∷ rest)) ≡ end_at (tells.End None) rest
mark_without place rest e = mark_at place rest ∙ ap (λ (o : Option Bool). all_of ((known o rest >>= moment_in) >>= marked)) e

pub mark_with : (place : ℕ) (rest : List ℕ) → slice_get (false ∷ true ∷ []) place ≡ Some true
    → all_of (told_behind of.End (place ∷ rest)) ≡ (all_of (word.read rest) >>= λ m. Ok (tells.End (Some m)))
mark_with place rest e = mark_at place rest ∙ ap (λ (o : Option Bool). all_of ((known o rest >>= moment_in) >>= marked)) e ∙ moment_made (word.read rest)

-- ---- counts

-- each of the words where it is read, and then nothing
pub counts_read : (all b c d e rest : List ℕ) (epoch sessions nodes rights changes : ℕ) → word.read all ≡ Ok (epoch, b) → word.read b ≡ Ok (sessions, c) → word.read c ≡ Ok (nodes, d)
    → word.read d ≡ Ok (rights, e) → word.read e ≡ Ok (changes, rest)
    → all_of (told_behind of.Counts all) ≡ end_at (tells.Counts (record { epoch = epoch; sessions = sessions; nodes = nodes; rights = rights; changes = changes })) rest
counts_read all b c d e rest epoch sessions nodes rights changes p q r s t = rw (p, q, r, s, t) refl

pub counts_cut_first : (all : List ℕ) (fault : WireFault) → word.read all ≡ Err fault → all_of (told_behind of.Counts all) ≡ Err fault
counts_cut_first all fault p = rw p refl

pub counts_cut_second : (all b : List ℕ) (epoch : ℕ) (fault : WireFault) → word.read all ≡ Ok (epoch, b) → word.read b ≡ Err fault → all_of (told_behind of.Counts all) ≡ Err fault
counts_cut_second all b epoch fault p q = rw (p, q) refl

pub counts_cut_third : (all b c : List ℕ) (epoch sessions : ℕ) (fault : WireFault) → word.read all ≡ Ok (epoch, b) → word.read b ≡ Ok (sessions, c) → word.read c ≡ Err fault
    → all_of (told_behind of.Counts all) ≡ Err fault
counts_cut_third all b c epoch sessions fault p q r = rw (p, q, r) refl

pub counts_cut_fourth : (all b c d : List ℕ) (epoch sessions nodes : ℕ) (fault : WireFault) → word.read all ≡ Ok (epoch, b) → word.read b ≡ Ok (sessions, c) → word.read c ≡ Ok (nodes, d)
    → word.read d ≡ Err fault → all_of (told_behind of.Counts all) ≡ Err fault
counts_cut_fourth all b c d epoch sessions nodes fault p q r s = rw (p, q, r, s) refl

pub counts_cut_fifth : (all b c d e : List ℕ) (epoch sessions nodes rights : ℕ) (fault : WireFault) → word.read all ≡ Ok (epoch, b) → word.read b ≡ Ok (sessions, c)
    → word.read c ≡ Ok (nodes, d) → word.read d ≡ Ok (rights, e) → word.read e ≡ Err fault → all_of (told_behind of.Counts all) ≡ Err fault
counts_cut_fifth all b c d e epoch sessions nodes rights fault p q r s t = rw (p, q, r, s, t) refl
