-- Frames that are written.
use Rattle.std.proofs.Common.{◌≡◌, ℕ, ◌+◌, ◌^◌, ◌<◌, ◌≤◌, Bool, true, false, cond, List, [], ◌∷◌, ◌++◌, length, Result, Ok, Err, refl, sym, ap, subst, ◌∙◌, append_assoc, arith}
use Rattle.std.specs.Prelude.{IfOk, nat_lt}
use Rattle.std.proofs.lemmas.Bool.{le-ltb, lt-ltb, ltb-false}
use Rattle.std.proofs.lemmas.List.{length-append, append-nil}
use Rattle.collections.specs.Results.{Gives}
use Rattle.byteorder.specs.Endian.{big_bytes}
use Rattle.node_core.specs.declared.lines.Line.{Line}
use Rattle.tags_cell.specs.declared.messages.requests.Request.{Request}
use Rattle.tags_cell.specs.declared.messages.outs.Out.{Out}
use Rattle.tags_cell.specs.Messages.{out_client}
use Rattle.codec.specs.declared.faults.WireFault.{WireFault}
use Rattle.codec.specs.declared.faults.WireFault.TheVariants.{NoMemory, TooLong, BadNumber}
use Rattle.codec.specs.Forms.{◌>>=◌, counted, version, length_end, short_of, written}
use Rattle.codec.specs.Fields.{word, client}
use Rattle.codec.specs.Requests.{request}
use Rattle.codec.specs.Outs.{out_message, has_bytes, out_written}
use Rattle.codec.specs.Lines.{line}
use Rattle.hosting.specs.declared.frames.Frame.TheVariants as frames
use Rattle.hosting.specs.declared.standing.MasterCounts.{MasterCounts}
use Rattle.hosting.specs.declared.tellings.MasterFrame.TheVariants as tells
use Rattle.hosting.specs.Blocks.{framed, framed_by}
use Rattle.hosting.specs.Frames.{frame, carried}
use Rattle.hosting.specs.Told.{told, out_framed}

of_test : (b : Bool) (x y : List ℕ) → cond b (Ok x) (Err TooLong) ≡ Ok y → x ≡ y
of_test true x y e = cc
of_test false x y e = absurd cc

short_ok : (bytes given : List ℕ) → short_of bytes ≡ Ok given → bytes ≡ given
short_ok bytes given e = of_test (nat_lt (length bytes) length_end) bytes given e

short_err : (b : Bool) (x : List ℕ) (fault : WireFault) → cond b (Ok x) (Err TooLong) ≡ Err fault → (b ≡ false) × (fault ≡ TooLong)
short_err true x fault e = absurd cc
short_err false x fault e = (refl, cc)

-- what is longer than too much is too much
longer : (inner fields : List ℕ) (fault : WireFault) → length inner ≤ length (version ∷ fields) → short_of inner ≡ Err fault → framed_by fields ≡ Err fault
longer inner fields fault le e =
    let g = short_err (nat_lt (length inner) length_end) inner fault e in
    let long : length_end ≤ length inner = ltb-false (length inner) length_end g.0 in
    let over : nat_lt (length (version ∷ fields)) length_end ≡ false = le-ltb (length (version ∷ fields)) length_end (omega (arith, le, long)) in
    ap (λ (b : Bool). cond b (Ok (version ∷ fields)) (Err TooLong) >>= λ bytes. Ok (counted.write bytes)) over ∙ ap (λ (f : WireFault). Err f) (sym g.1)

pub too_long : (front back : List ℕ) (kind count : ℕ) → count ≤ length front + length back + 2 → 2 ^ 32 ≤ count → framed_by (kind ∷ (front ++ back)) ≡ Err TooLong
too_long front back kind count le long =
    let over : nat_lt (length (version ∷ (kind ∷ (front ++ back)))) length_end ≡ false =
    le-ltb (length (version ∷ (kind ∷ (front ++ back)))) length_end (omega (arith, le, long, length-append front back)) in
    ap (λ (b : Bool). cond b (Ok (version ∷ (kind ∷ (front ++ back)))) (Err TooLong) >>= λ bytes. Ok (counted.write bytes)) over

-- the parts of a block, one after the other
pub whole_block : (head front back all : List ℕ) (kind count : ℕ) → count ≡ length front + length back + 2 → count < 2 ^ 32 → head ≡ big_bytes 4 count
    → all ≡ ((head ++ (version ∷ (kind ∷ []))) ++ front) ++ back → framed_by (kind ∷ (front ++ back)) ≡ Ok all
whole_block head front back all kind count many short counts e =
    let body : List ℕ = version ∷ (kind ∷ (front ++ back)) in
    let length_of : length body ≡ count = omega (arith, many, length-append front back) in
    let under : nat_lt (length body) length_end ≡ true = lt-ltb (length body) length_end (omega (arith, length_of, short)) in
    let parts : all ≡ head ++ body = e ∙ append_assoc (head ++ (version ∷ (kind ∷ []))) front back ∙ append_assoc head (version ∷ (kind ∷ [])) (front ++ back) in
    ap (λ (b : Bool). cond b (Ok body) (Err TooLong) >>= λ bytes. Ok (counted.write bytes)) under
    ∙ ap (λ (n : ℕ). Ok (big_bytes 4 n ++ body)) length_of ∙ ap (λ (u : List ℕ). Ok (u ++ body)) (sym counts) ∙ ap (λ (u : List ℕ). Ok u) (sym parts)

-- ---- messages

pub message_framed : (now : ℕ) (message : Request) (bytes : List ℕ) → written request message ≡ Ok bytes
    → framed frame (frames.Message now message) ≡ framed_by (1 ∷ (big_bytes 8 now ++ bytes))
unfolding frame word
message_framed now message bytes e = ap (λ (u : List ℕ). framed_by (1 ∷ (big_bytes 8 now ++ u))) (short_ok (version ∷ request.write message) bytes e)

pub message_too_long : (now : ℕ) (message : Request) (fault : WireFault) → written request message ≡ Err fault → framed frame (frames.Message now message) ≡ Err fault
unfolding frame word
message_too_long now message fault e =
    longer (version ∷ request.write message) (1 ∷ (big_bytes 8 now ++ (version ∷ request.write message))) fault
    (omega (arith, length-append (big_bytes 8 now) (version ∷ request.write message))) e

pub told_framed : (number : ℕ) (message : Out) (bytes : List ℕ) → written out_message message ≡ Ok bytes
    → framed told (tells.Message number message) ≡ framed_by (1 ∷ (big_bytes 8 number ++ bytes))
unfolding told client word
told_framed number message bytes e = ap (λ (u : List ℕ). framed_by (1 ∷ (big_bytes 8 number ++ u))) (short_ok (version ∷ out_message.write message) bytes e)

pub out_too_long : (number : ℕ) (message : Out) (fault : WireFault) → written out_message message ≡ Err fault → framed told (tells.Message number message) ≡ Err fault
unfolding told client word
out_too_long number message fault e =
    longer (version ∷ out_message.write message) (1 ∷ (big_bytes 8 number ++ (version ∷ out_message.write message))) fault
    (omega (arith, length-append (big_bytes 8 number) (version ∷ out_message.write message))) e

-- ---- as they are answered

pub moment_framed : (kind now : ℕ) (front : List ℕ) (r : Result (List ℕ) WireFault) → front ≡ big_bytes 8 now → Gives NoMemory r (framed_by (kind ∷ (front ++ [])))
    → Gives NoMemory r (framed_by (kind ∷ word.write now))
unfolding word
moment_framed kind now front r e given =
    let P : List ℕ → Type 0 = λ u. Gives NoMemory r (framed_by (kind ∷ u)) in
    subst P (append-nil front ∙ e) given

pub gives_carried : (now : ℕ) (front bytes : List ℕ) (r : Result (List ℕ) WireFault) → front ≡ big_bytes 8 now → Gives NoMemory r (framed_by (1 ∷ (front ++ bytes)))
    → Gives NoMemory r (carried now bytes)
unfolding word
gives_carried now front bytes r e given =
    let P : List ℕ → Type 0 = λ u. Gives NoMemory r (framed_by (1 ∷ (u ++ bytes))) in
    subst P e given

pub gives_message : (now : ℕ) (message : Request) (front bytes : List ℕ) (r : Result (List ℕ) WireFault) → front ≡ big_bytes 8 now → written request message ≡ Ok bytes
    → Gives NoMemory r (framed_by (1 ∷ (front ++ bytes))) → Gives NoMemory r (framed frame (frames.Message now message))
gives_message now message front bytes r e was given =
    let P : Result (List ℕ) WireFault → Type 0 = λ w. Gives NoMemory r w in
    subst P (ap (λ (u : List ℕ). framed_by (1 ∷ (u ++ bytes))) e ∙ sym (message_framed now message bytes was)) given

pub gives_out : (number : ℕ) (message : Out) (front bytes : List ℕ) (r : Result (List ℕ) WireFault) → front ≡ big_bytes 8 number → written out_message message ≡ Ok bytes
    → Gives NoMemory r (framed_by (1 ∷ (front ++ bytes))) → Gives NoMemory r (framed told (tells.Message number message))
gives_out number message front bytes r e was given =
    let P : Result (List ℕ) WireFault → Type 0 = λ w. Gives NoMemory r w in
    subst P (ap (λ (u : List ℕ). framed_by (1 ∷ (u ++ bytes))) e ∙ sym (told_framed number message bytes was)) given

-- ---- lines

line_framed : (printed : Line) (bytes : List ℕ) → written line printed ≡ Ok bytes → framed told (tells.Line printed) ≡ framed_by (0 ∷ bytes)
unfolding told
line_framed printed bytes e = ap (λ (u : List ℕ). framed_by (0 ∷ u)) (short_ok (version ∷ line.write printed) bytes e)

pub gives_line : (printed : Line) (bytes front : List ℕ) (r : Result (List ℕ) WireFault) → written line printed ≡ Ok bytes → front ≡ bytes
    → Gives NoMemory r (framed_by (0 ∷ (front ++ []))) → Gives NoMemory r (framed told (tells.Line printed))
gives_line printed bytes front r was e given =
    let P : Result (List ℕ) WireFault → Type 0 = λ w. Gives NoMemory r w in
    subst P (ap (λ (u : List ℕ). framed_by (0 ∷ u)) (append-nil front ∙ e) ∙ sym (line_framed printed bytes was)) given

pub line_too_long : (printed : Line) (fault : WireFault) → written line printed ≡ Err fault → framed told (tells.Line printed) ≡ Err fault
unfolding told
line_too_long printed fault e = longer (version ∷ line.write printed) (0 ∷ (version ∷ line.write printed)) fault (omega arith) e

-- ---- counts

-- five parts, each put after those before it
parts_of : (a b c d e : List ℕ) → ((((([] ++ a) ++ b) ++ c) ++ d) ++ e) ≡ a ++ (b ++ (c ++ (d ++ e)))
parts_of a b c d e =
    append_assoc ((a ++ b) ++ c) d e ∙ append_assoc (a ++ b) c (d ++ e) ∙ append_assoc a b (c ++ (d ++ e))

pub gives_counts : (counts : MasterCounts) (w0 w1 w2 w3 w4 w5 p q s t u front : List ℕ) (r : Result (List ℕ) WireFault)
    → w0 ≡ [] → w1 ≡ w0 ++ p → w2 ≡ w1 ++ q → w3 ≡ w2 ++ s → w4 ≡ w3 ++ t → w5 ≡ w4 ++ u
    → p ≡ big_bytes 8 counts.epoch → q ≡ big_bytes 8 counts.sessions → s ≡ big_bytes 8 counts.nodes → t ≡ big_bytes 8 counts.rights → u ≡ big_bytes 8 counts.changes
    → front ≡ w5 → Gives NoMemory r (framed_by (4 ∷ (front ++ []))) → Gives NoMemory r (framed told (tells.Counts counts))
unfolding told word
gives_counts counts w0 w1 w2 w3 w4 w5 p q s t u front r e0 e1 e2 e3 e4 e5 ep eq es et eu e given =
    let P : List ℕ → Type 0 = λ l. Gives NoMemory r (framed_by (4 ∷ l)) in
    let parts : w5 ≡ ((((([] ++ p) ++ q) ++ s) ++ t) ++ u) = cc in
    let words : p ++ (q ++ (s ++ (t ++ u))) ≡ big_bytes 8 counts.epoch ++ (big_bytes 8 counts.sessions ++ (big_bytes 8 counts.nodes ++ (big_bytes 8 counts.rights ++ big_bytes 8 counts.changes))) = cc in
    subst P (append-nil front ∙ e ∙ parts ∙ parts_of p q s t u ∙ words) given

-- ---- where a message may have no bytes

if_has : (b : Bool) (given block r : Result (List ℕ) WireFault) (bytes : List ℕ) → cond b given (Err BadNumber) ≡ Ok bytes → (given ≡ Ok bytes → Gives NoMemory r block)
    → Gives NoMemory r (cond b block (Err BadNumber))
if_has true given block r bytes e gives = gives e
if_has false given block r bytes e gives = absurd cc

if_lacks : (b : Bool) (given block : Result (List ℕ) WireFault) (fault : WireFault) → cond b given (Err BadNumber) ≡ Err fault → (given ≡ Err fault → block ≡ Err fault)
    → cond b block (Err BadNumber) ≡ Err fault
if_lacks true given block fault e fails = fails e
if_lacks false given block fault e fails = e

if_framed : (b : Bool) (block : Result (List ℕ) WireFault) (bytes : List ℕ) → cond b block (Err BadNumber) ≡ Ok bytes → block ≡ Ok bytes
if_framed true block bytes e = e
if_framed false block bytes e = absurd cc

pub gives_framed : (message : Out) (front bytes : List ℕ) (r : Result (List ℕ) WireFault) → front ≡ big_bytes 8 (out_client message) → out_written message ≡ Ok bytes
    → Gives NoMemory r (framed_by (1 ∷ (front ++ bytes))) → Gives NoMemory r (out_framed message)
gives_framed message front bytes r e was given =
    if_has (has_bytes message) (written out_message message) (framed told (tells.Message (out_client message) message)) r bytes was
    (λ w. gives_out (out_client message) message front bytes r e w given)

pub not_framed : (message : Out) (fault : WireFault) → out_written message ≡ Err fault → out_framed message ≡ Err fault
not_framed message fault e =
    if_lacks (has_bytes message) (written out_message message) (framed told (tells.Message (out_client message) message)) fault e
    (λ w. out_too_long (out_client message) message fault w)

-- what was given is the frame of the message
pub framed_if : (message : Out) (r : Result (List ℕ) WireFault) → Gives NoMemory r (out_framed message)
    → IfOk r (λ bytes. framed told (tells.Message (out_client message) message) ≡ Ok bytes)
framed_if message (Ok bytes) e = if_framed (has_bytes message) (framed told (tells.Message (out_client message) message)) bytes e
framed_if message (Err fault) given = tt
