-- Where the words that say what an Open makes end, and its lock-delay and its events begin.
use Rattle.std.proofs.Common.{◌≡◌, ◌≢◌, inl, inr, ◌∷◌, [], ◌++◌, ◌+◌, ◌-◌, ◌<◌, List, ℕ, suc, length, take, drop, Option, None, Some, sym, ap, subst, arith, ◌∙◌, codes, length-append, length-drop, Bor}
use Rattle.std.proofs.lemmas.List.{drop-map, take-map, take_all, take-append-drop}
use Rattle.std.proofs.Math.Seq.{take-append_seam, drop-append_seam}
use Rattle.tags_cell.specs.declared.messages.calls.AclNames.{AclNames}
use Rattle.tags_cell.specs.declared.messages.calls.Create.{Create}
use Rattle.tags_cell.specs.declared.messages.calls.Disposition.{Disposition}
use Rattle.tags_cell.specs.declared.messages.calls.Disposition.TheVariants.{May, Must}
use Rattle.tags_cell.specs.declared.messages.calls.NewNode.{NewNode}
use Rattle.tags_cell.specs.declared.messages.calls.NewNode.TheVariants.{File, Directory}
use Rattle.tags_cell.specs.declared.masks.Events.{Events}
use Rattle.scripts.specs.Steps.{life_word, WritesCreate, WritesNode, WritesMaking, WritesOptions, IsOptionWord, BeginsOptions, WritesSomeCreate, WritesSomeNode, WritesSomeFile, WritesSomeAcls, IsCut, new_acl_words, disposition_word, create_fault, texts}
use Rattle.scripts.proofs.Lifts.{IsPart}
use Rattle.scripts.proofs.Written.{head, tail, no_word, other}

refl_bytes : {X : Type 0} {x : X} → x ≡ x
refl_bytes {x = x} = λ _. x

pub length_texts : (words : List (Bor (List ℕ))) → length (texts words) ≡ length words
length_texts [] = refl_bytes
length_texts (word ∷ words) = ap suc (length_texts words)

begins : (last : List (List ℕ)) (first : List ℕ) (rest : List (List ℕ)) → BeginsOptions last → last ≡ first ∷ rest → IsOptionWord first
begins last first rest w shape = subst BeginsOptions shape w

-- a lock-delay and events that are written begin with their words
options_begin : (last : List (List ℕ)) (delay : ℕ) (events : Events) → WritesOptions last delay events → BeginsOptions last
options_begin last delay events (rest, inr told, asked) = subst BeginsOptions (sym told.0) (inl refl_bytes)
options_begin last delay events (rest, inl none, inr asked) = subst BeginsOptions (sym (none.0 ∙ asked.0)) (inr refl_bytes)
options_begin last delay events (rest, inl none, inl nothing) = subst BeginsOptions (sym (none.0 ∙ nothing.0)) tt

not_acl : (word : List ℕ) → word ≡ codes "acl" → IsOptionWord word → ⊥
not_acl word is (inl delay) = other (codes "delay") (codes "acl") refl_bytes delay is
not_acl word is (inr events) = other (codes "events") (codes "acl") refl_bytes events is

-- ---- ACL names

named_length : (acls : AclNames) → length (new_acl_words (Some acls)) ≡ 4
named_length acls = refl_bytes

pub named_acls : (words rest : List (List ℕ)) (a b c d : List ℕ) → words ≡ a ∷ (b ∷ (c ∷ (d ∷ rest))) → a ≡ codes "acl" → IsCut WritesSomeAcls words 4
named_acls words rest a b c d shape is = record {
  fits = let long = ap length shape in omega (arith, long);
  cut = λ part last whole p w. those part last whole p.0 p.1 w;
} where
  those : (part last : List (List ℕ)) → words ≡ part ++ last → (acls : Option AclNames) → part ≡ new_acl_words acls → BeginsOptions last → length part ≡ 4
  those part last whole None p w =
      let here : last ≡ a ∷ (b ∷ (c ∷ (d ∷ rest))) = ap (λ x. x ++ last) (sym p) ∙ sym whole ∙ shape in
      absurd (not_acl a is (begins last a (b ∷ (c ∷ (d ∷ rest))) w here))
  those part last whole (Some acls) p w = ap length p

pub few_acls : (words : List (List ℕ)) → length words < 4 → IsCut WritesSomeAcls words 0
few_acls words few = record {
  fits = omega arith;
  cut = λ part last whole p w. those part last whole p.0 p.1;
} where
  those : (part last : List (List ℕ)) → words ≡ part ++ last → (acls : Option AclNames) → part ≡ new_acl_words acls → length part ≡ 0
  those part last whole None p = ap length p
  those part last whole (Some acls) p =
      let long : length words ≡ length part + length last = ap length whole ∙ length-append part last in
      let four : length part ≡ 4 = ap length p in
      absurd (omega (arith, long, four, few))

pub no_acls : (words rest : List (List ℕ)) (a : List ℕ) → words ≡ a ∷ rest → a ≢ codes "acl" → IsCut WritesSomeAcls words 0
no_acls words rest a shape differs = record {
  fits = omega arith;
  cut = λ part last whole p w. those part last whole p.0 p.1;
} where
  those : (part last : List (List ℕ)) → words ≡ part ++ last → (acls : Option AclNames) → part ≡ new_acl_words acls → length part ≡ 0
  those part last whole None p = ap length p
  those part last whole (Some acls) p = absurd (differs (ap head (sym shape ∙ whole ∙ ap (λ x. x ++ last) p)))

-- ---- nodes

pub no_file : (words : List (List ℕ)) → words ≡ [] → IsCut WritesSomeFile words 0
no_file words none = record {
  fits = omega arith;
  cut = λ part last whole p w. absurd (no_word (sym none ∙ whole ∙ ap (λ x. x ++ last) p.2));
}

pub file : (words rest : List (List ℕ)) (content : List ℕ) (count : ℕ) → words ≡ content ∷ rest → IsCut WritesSomeAcls rest count → IsCut WritesSomeFile words (1 + count)
file words rest content count shape acls = record {
  fits = let long = ap length shape in let few = acls.fits in omega (arith, long, few);
  cut = λ part last whole p w.
      let same : rest ≡ new_acl_words p.1 ++ last = ap tail (sym shape ∙ whole ∙ ap (λ x. x ++ last) p.2) in
      let inner = acls.cut (new_acl_words p.1) last same (p.1, refl_bytes) w in
      let outer = ap length p.2 in
      omega (arith, inner, outer);
}

two : (kind life : List ℕ) (rest : List (List ℕ)) (count : ℕ) → length rest ≡ count → length (kind ∷ (life ∷ rest)) ≡ 2 + count
two kind life rest count h = omega (arith, h)

pub file_node : (words rest : List (List ℕ)) (kind life : List ℕ) (count : ℕ) → words ≡ kind ∷ (life ∷ rest) → kind ≡ codes "file" → IsCut WritesSomeFile rest count → IsCut WritesSomeNode words (2 + count)
file_node words rest kind life count shape is inner = record {
  fits = let long = ap length shape in let few = inner.fits in omega (arith, long, few);
  cut = λ part last whole p w. those part last whole p.1.node p.1.acls p.2.0 (life_word p.1.life) p.2.1 p.2.2 p.2.3.1 w;
} where
  those : (part last : List (List ℕ)) → words ≡ part ++ last → (node : NewNode) (acls : Option AclNames) (k l : List ℕ) (r : List (List ℕ)) → part ≡ k ∷ (l ∷ r) → WritesNode k r node acls → BeginsOptions last → length part ≡ 2 + count
  those part last whole (File bytes) acls k l r p n w =
      let same : rest ≡ r ++ last = ap (λ x. tail (tail x)) (sym shape ∙ whole ∙ ap (λ x. x ++ last) p) in
      ap length p ∙ two k l r count (inner.cut r last same (n.1.0, acls, n.1.1) w)
  those part last whole Directory acls k l r p n w =
      let first : kind ≡ k = ap head (sym shape ∙ whole ∙ ap (λ x. x ++ last) p) in
      absurd (other (codes "file") (codes "dir") refl_bytes is (first ∙ n.0))

pub other_node : (words rest : List (List ℕ)) (kind life : List ℕ) (count : ℕ) → words ≡ kind ∷ (life ∷ rest) → kind ≢ codes "file" → IsCut WritesSomeAcls rest count → IsCut WritesSomeNode words (2 + count)
other_node words rest kind life count shape differs inner = record {
  fits = let long = ap length shape in let few = inner.fits in omega (arith, long, few);
  cut = λ part last whole p w. those part last whole p.1.node p.1.acls p.2.0 (life_word p.1.life) p.2.1 p.2.2 p.2.3.1 w;
} where
  those : (part last : List (List ℕ)) → words ≡ part ++ last → (node : NewNode) (acls : Option AclNames) (k l : List ℕ) (r : List (List ℕ)) → part ≡ k ∷ (l ∷ r) → WritesNode k r node acls → BeginsOptions last → length part ≡ 2 + count
  those part last whole (File bytes) acls k l r p n w =
      let first : kind ≡ k = ap head (sym shape ∙ whole ∙ ap (λ x. x ++ last) p) in
      absurd (differs (first ∙ n.0))
  those part last whole Directory acls k l r p n w =
      let same : rest ≡ r ++ last = ap (λ x. tail (tail x)) (sym shape ∙ whole ∙ ap (λ x. x ++ last) p) in
      ap length p ∙ two k l r count (inner.cut r last same (acls, n.1) w)

pub short_node : (words : List (List ℕ)) (count : ℕ) → length words < 2 → count ≡ length words → IsCut WritesSomeNode words count
short_node words count few is = record {
  fits = omega (arith, is);
  cut = λ part last whole p w.
      let long : length words ≡ length part + length last = ap length whole ∙ length-append part last in
      let two_more : length part ≡ length (p.2.0 ∷ (life_word p.1.life ∷ p.2.1)) = ap length p.2.2 in
      absurd (omega (arith, long, two_more, few));
}

-- ---- creates

pub no_create : (words : List (List ℕ)) → words ≡ [] → IsCut WritesSomeCreate words 0
no_create words none = record {
  fits = omega arith;
  cut = λ part last whole p w.
      let long : length part + length last ≡ 0 = sym (ap length whole ∙ length-append part last) ∙ ap length none in
      omega (arith, long);
}

no_disposition : (disposition : Disposition) → IsOptionWord (disposition_word disposition) → ⊥
no_disposition May (inl e) = other (codes "may") (codes "delay") refl_bytes refl_bytes e
no_disposition Must (inl e) = other (codes "must") (codes "delay") refl_bytes refl_bytes e
no_disposition May (inr e) = other (codes "may") (codes "events") refl_bytes refl_bytes e
no_disposition Must (inr e) = other (codes "must") (codes "events") refl_bytes refl_bytes e

pub only_options : (words rest : List (List ℕ)) (first : List ℕ) → words ≡ first ∷ rest → IsOptionWord first → IsCut WritesSomeCreate words 0
only_options words rest first shape is = record {
  fits = omega arith;
  cut = λ part last whole p w. those part last whole p.0 p.1;
} where
  those : (part last : List (List ℕ)) → words ≡ part ++ last → (create : Option Create) → WritesCreate part create → length part ≡ 0
  those part last whole None p = ap length p
  those part last whole (Some create) p =
      let same : first ≡ p.0 = ap head (sym shape ∙ whole ∙ ap (λ x. x ++ last) p.2) in
      absurd (no_disposition create.disposition (subst IsOptionWord (same ∙ sym p.3.3.0) is))

pub some_create : (words rest : List (List ℕ)) (first : List ℕ) (count : ℕ) → words ≡ first ∷ rest → first ≢ codes "delay" → first ≢ codes "events" → IsCut WritesSomeNode rest count → IsCut WritesSomeCreate words (1 + count)
some_create words rest first count shape no_delay no_events inner = record {
  fits = let long = ap length shape in let few = inner.fits in omega (arith, long, few);
  cut = λ part last whole p w. those part last whole p.0 p.1 w;
} where
  neither : IsOptionWord first → ⊥
  neither (inl delay) = no_delay delay
  neither (inr events) = no_events events

  those : (part last : List (List ℕ)) → words ≡ part ++ last → (create : Option Create) → WritesCreate part create → BeginsOptions last → length part ≡ 1 + count
  those part last whole None p w =
      let here : last ≡ first ∷ rest = ap (λ x. x ++ last) (sym p) ∙ sym whole ∙ shape in
      absurd (neither (begins last first rest w here))
  those part last whole (Some create) p w =
      let same : rest ≡ p.1 ++ last = ap tail (sym shape ∙ whole ∙ ap (λ x. x ++ last) p.2) in
      let behind = inner.cut p.1 last same (p.0, create, p.3) w in
      let all : length part ≡ length (p.0 ∷ p.1) = ap length p.2 in
      omega (arith, behind, all)

-- ---- both

front : (words part last : List (List ℕ)) (count : ℕ) → words ≡ part ++ last → length part ≡ count → take count words ≡ part
front words part last count whole long = ap (λ n. take n words) (sym long) ∙ ap (λ x. take (length part) x) whole ∙ take-append_seam part last

behind : (words part last : List (List ℕ)) (count : ℕ) → words ≡ part ++ last → length part ≡ count → drop count words ≡ last
behind words part last count whole long = ap (λ n. drop n words) (sym long) ∙ ap (λ x. drop (length part) x) whole ∙ drop-append_seam part last

-- the words of a slice up to a cut, and those from there on
abbrev pub first_texts : List (Bor (List ℕ)) → ℕ → List (List ℕ)
first_texts words cut = texts (take cut words)

abbrev pub last_texts : List (Bor (List ℕ)) → ℕ → List (List ℕ)
last_texts words cut = texts (take (length words - cut) (drop cut words))

all_dropped : (words : List (Bor (List ℕ))) (cut : ℕ) → last_texts words cut ≡ drop cut (texts words)
all_dropped words cut =
    ap texts (take_all (length words - cut) (drop cut words) (let long = length-drop cut words in omega (arith, long))) ∙ sym (drop-map (λ word. word.now) cut words)

-- what the words write, the parts of which are a creation and what stands after it
abbrev pub Made : Type 0
Made = Option Create × ℕ × Events

abbrev pub WritesAll : List (List ℕ) → Made → Type 0
WritesAll words b = WritesMaking words b.0 b.1 b.2

pub options_out : (words : List (Bor (List ℕ))) (cut : ℕ) → IsCut WritesSomeCreate (texts words) cut → (b : Made) → WritesAll (texts words) b → (o : ℕ × Events) × WritesOptions (last_texts words cut) o.0 o.1
options_out words cut h b w =
    let long = h.cut w.0 w.1 w.2 (b.0, w.3.0) (options_begin w.1 b.1 b.2 w.3.1) in
    ((b.1, b.2), subst (λ x. WritesOptions x b.1 b.2) (sym (all_dropped words cut ∙ behind (texts words) w.0 w.1 cut w.2 long)) w.3.1)

create_out : (words : List (Bor (List ℕ))) (cut : ℕ) → IsCut WritesSomeCreate (texts words) cut → (b : Made) → WritesAll (texts words) b → (create : Option Create) × WritesCreate (first_texts words cut) create
create_out words cut h b w =
    let long = h.cut w.0 w.1 w.2 (b.0, w.3.0) (options_begin w.1 b.1 b.2 w.3.1) in
    (b.0, subst (λ x. WritesCreate x b.0) (sym (sym (take-map (λ word. word.now) cut words) ∙ front (texts words) w.0 w.1 cut w.2 long)) w.3.0)

pub making : (words : List (Bor (List ℕ))) (cut : ℕ) (create : Option Create) (delay : ℕ) (events : Events) → WritesCreate (first_texts words cut) create → WritesOptions (last_texts words cut) delay events → WritesMaking (texts words) create delay events
making words cut create delay events made told =
    (first_texts words cut, last_texts words cut, sym (ap (λ x. first_texts words cut ++ x) (all_dropped words cut) ∙ ap (λ x. x ++ drop cut (texts words)) (sym (take-map (λ word. word.now) cut words)) ∙ take-append-drop cut (texts words)), (made, told))

pub making_part : (words : List (Bor (List ℕ))) (cut delay : ℕ) (events : Events) → IsCut WritesSomeCreate (texts words) cut → WritesOptions (last_texts words cut) delay events → IsPart {A = Option Create} {B = Made} (WritesCreate (first_texts words cut)) create_fault (WritesAll (texts words)) (λ b. create_fault b.0)
making_part words cut delay events h told = record {
  out = create_out words cut h;
  make = λ create p. ((create, delay, events), making words cut create delay events p told, λ fault f. f);
}
