-- The parts of a step and the words that write them.
use Rattle.std.proofs.Common.{◌≡◌, ◌≢◌, ◌⊎◌, inl, inr, ◌∷◌, [], ◌++◌, ◌<◌, ◌^◌, List, ℕ, Bool, true, false, length, Option, None, Some, Result, Ok, Err, refl, sym, ap, subst, arith, ◌∙◌, codes}
use Rattle.std.specs.Prelude.{decimal, ◌&&◌, not, if◌then◌else◌}
use Rattle.std.proofs.lemmas.Fmt.{decimal_injective}
use Rattle.std.specs.Str.{bytes_eq}
use Rattle.std.specs.Result.{IsErr, IsErrAnd}
use Rattle.std.proofs.lemmas.Result.{err_from_is_err_and}
use Rattle.names_cell.specs.Text.{is_component, is_name}
use Rattle.names_cell.specs.declared.faults.NameFault.{NameFault}
use Rattle.names_cell.specs.declared.faults.NameFault.TheVariants as names
use Rattle.node_core.specs.declared.refusals.Fault.{Fault}
use Rattle.node_core.specs.declared.kinds.Life.{Life}
use Rattle.node_core.specs.declared.kinds.Life.TheVariants.{Permanent, Ephemeral}
use Rattle.node_core.specs.declared.refusals.Fault.TheVariants.{BadName, BadPrincipal}
use Rattle.tags_cell.specs.Numbers.{IsClientNumber}
use Rattle.tags_cell.specs.declared.messages.calls.AclNames.{AclNames}
use Rattle.tags_cell.specs.declared.messages.calls.Create.{Create}
use Rattle.tags_cell.specs.declared.messages.calls.Disposition.{Disposition}
use Rattle.tags_cell.specs.declared.messages.calls.NewNode.{NewNode}
use Rattle.tags_cell.specs.declared.messages.calls.NewNode.TheVariants.{File, Directory}
use Rattle.tags_cell.specs.declared.messages.calls.Open.{Open}
use Rattle.tags_cell.specs.declared.masks.Events.{Events}
use Rattle.client_core.specs.declared.parts.asks.Ask.{Ask}
use Rattle.client_core.specs.declared.parts.asks.Ask.TheVariants as calls
use Rattle.client_core.specs.declared.parts.asks.NodeCall.{NodeCall}
use Rattle.client_core.specs.declared.parts.asks.NodeCall.TheVariants as nodes
use Rattle.world_steps.specs.declared.steps.Step.{Step}
use Rattle.world_steps.specs.declared.steps.Step.TheVariants as steps
use Rattle.scripts.specs.declared.steps.Flaw.{Flaw}
use Rattle.scripts.specs.declared.steps.Flaw.TheVariants.{Bad, Refused, NoMemory}
use Rattle.tags_cell.specs.Modes.{Rights}
use Rattle.scripts.specs.Words.{letters_of, HasRight}
use Rattle.scripts.specs.Steps.{WritesStep, WritesCall, IsHandleCall, WritesOpen, WritesMaking, WritesCreate, WritesLiving, WritesMade, WritesMadeAs, WritesNode, WritesNodeCall, IsPlainCall, WritesGeneration, IsFileContent, IsHex, IsNumber, acl_words, new_acl_words, disposition_word, life_word, fault_unless, step_fault, call_fault, open_fault, create_fault, made_fault, new_acls_fault, acls_fault, node_call_fault}
use Rattle.scripts.specs.Readings.{Reads, flaw_of}
use Rattle.scripts.proofs.Decimals.{unlike, same_text}
use Rattle.scripts.proofs.Lifts.{IsPart}

-- ---- a word that isn't a name

named : {B : Type 0} (Q : B → Type 0) (whole_fault : B → Option Fault) (e bad : NameFault) (right : Bool) (text : List ℕ) → (if right then Ok text else Err bad) ≡ Err e → (right ≡ false → Reads Q whole_fault (Err (flaw_of bad))) → Reads Q whole_fault (Err (flaw_of e))
named Q whole_fault e bad true text h k = cc
named Q whole_fault e bad false text h k = let same : bad ≡ e = cc in subst (λ x. Reads Q whole_fault (Err (flaw_of x))) same (k refl)

by_name : {B : Type 0} (Q : B → Type 0) (whole_fault : B → Option Fault) (e bad : NameFault) (right : Bool) (text : List ℕ) → (e ≢ names.NoMemory → (if right then Ok text else Err bad) ≡ Err e) → (right ≡ false → Reads Q whole_fault (Err (flaw_of bad))) → Reads Q whole_fault (Err (flaw_of e))
by_name Q whole_fault names.NoMemory bad right text h k = tt
by_name Q whole_fault names.BadName bad right text h k = named Q whole_fault names.BadName bad right text (h (λ q. cc)) k
by_name Q whole_fault names.BadPrincipal bad right text h k = named Q whole_fault names.BadPrincipal bad right text (h (λ q. cc)) k
by_name Q whole_fault names.BadAcl bad right text h k = named Q whole_fault names.BadAcl bad right text (h (λ q. cc)) k

-- the exit of a `?` after a word that has to be a name
pub unnamed : {B : Type 0} (Q : B → Type 0) (whole_fault : B → Option Fault) (r : Result B Flaw) (e bad : NameFault) (right : Bool) (text : List ℕ) → IsErr r × IsErrAnd r (λ y. y ≡ flaw_of e) → (e ≢ names.NoMemory → (if right then Ok text else Err bad) ≡ Err e) → (right ≡ false → Reads Q whole_fault (Err (flaw_of bad))) → Reads Q whole_fault r
unnamed Q whole_fault r e bad right text exit h k =
    let left = err_from_is_err_and r exit.1 in
    let is : r ≡ Err (flaw_of e) = left.1 ∙ ap Err left.2 in
    rw is (by_name Q whole_fault e bad right text h k)

-- ---- ACL names

some_wrong : (a b c : Bool) → (a ≡ false) ⊎ ((b ≡ false) ⊎ (c ≡ false)) → fault_unless (a && b && c) BadName ≡ Some BadName
some_wrong false b c h = refl
some_wrong true false c h = refl
some_wrong true true false h = refl
some_wrong true true true h = elim h [
  | inl e ↦ cc
  | inr (inl e) ↦ cc
  | inr (inr e) ↦ cc
]

pub wrong_acls : (r w c : List ℕ) → (is_component r ≡ false) ⊎ ((is_component w ≡ false) ⊎ (is_component c ≡ false)) → Reads {A = AclNames} (λ acls. acl_words acls ≡ r ∷ (w ∷ (c ∷ []))) acls_fault (Err (Refused BadName))
wrong_acls r w c h = (record { read = r; write = w; change = c }, refl, some_wrong (is_component r) (is_component w) (is_component c) h)

abbrev pub tail : {X : Type 0} → List X → List X
tail [] = []
tail (x ∷ xs) = xs

abbrev pub head : List (List ℕ) → List ℕ
head [] = []
head (x ∷ xs) = x

pub no_word : {xs : List (List ℕ)} {x : List ℕ} → [] ≡ x ∷ xs → ⊥
no_word e = let l = ap length e in absurd (omega arith)

-- steps whose first words differ
apart : (a b : List ℕ) {xs ys : List (List ℕ)} → bytes_eq a b ≡ false → a ∷ xs ≡ b ∷ ys → ⊥
apart a b differ same = unlike a b false (sym differ) refl (ap head same)

given_acls : (b : Option AclNames) (k : List ℕ) (rest : List (List ℕ)) → new_acl_words b ≡ k ∷ rest → (a : AclNames) × (acl_words a ≡ rest)
given_acls None k rest e = absurd (no_word e)
given_acls (Some a) k rest e = (a, ap tail e)

pub new_acls_part : (words : List (List ℕ)) (k r w c : List ℕ) → k ≡ codes "acl" → words ≡ k ∷ (r ∷ (w ∷ (c ∷ []))) → IsPart {A = AclNames} {B = Option AclNames} (λ acls. acl_words acls ≡ r ∷ (w ∷ (c ∷ []))) acls_fault (λ acls. new_acl_words acls ≡ words) new_acls_fault
new_acls_part words k r w c is shape = record {
  out = λ b q. given_acls b k (r ∷ (w ∷ (c ∷ []))) (q ∙ shape);
  make = λ a p. (Some a, ap (λ x. codes "acl" ∷ x) p ∙ ap (λ x. x ∷ (r ∷ (w ∷ (c ∷ [])))) (sym is) ∙ sym shape, λ fault f. f);
}

pub new_acls_written : (words : List (List ℕ)) (acls : AclNames) (k r w c : List ℕ) → k ≡ codes "acl" → words ≡ k ∷ (r ∷ (w ∷ (c ∷ []))) → acl_words acls ≡ r ∷ (w ∷ (c ∷ [])) → codes "acl" ∷ acl_words acls ≡ words
new_acls_written words acls k r w c is shape p = ap (λ x. codes "acl" ∷ x) p ∙ ap (λ x. x ∷ (r ∷ (w ∷ (c ∷ [])))) (sym is) ∙ sym shape

-- ---- nodes

-- other words
pub other : (a b : List ℕ) {word : List ℕ} → bytes_eq a b ≡ false → word ≡ a → word ≡ b → ⊥
other a b differ is was = unlike a b false (sym differ) refl (sym is ∙ was)

file_content : (node : NewNode) (acls : Option AclNames) (words rest : List (List ℕ)) (content : List ℕ) → words ≡ content ∷ rest → WritesNode (codes "file") words node acls → (bytes : List ℕ) × IsFileContent content bytes
file_content (File bytes) acls words rest content shape w =
    let same : w.1.0 ≡ content = ap head (sym w.1.1 ∙ shape) in (bytes, subst (λ c. IsFileContent c bytes) same w.1.2)
file_content Directory acls words rest content shape w = absurd (other (codes "file") (codes "dir") refl refl w.0)

pub content_out : (words rest : List (List ℕ)) (content word : List ℕ) (life : Life) → words ≡ content ∷ rest → (b : Create) → WritesMadeAs life word (codes "file") words b → (bytes : List ℕ) × IsFileContent content bytes
content_out words rest content word life shape b w = file_content b.node b.acls words rest content shape w.1.1

file_acls : (node : NewNode) (acls : Option AclNames) (words rest : List (List ℕ)) (content : List ℕ) → words ≡ content ∷ rest → WritesNode (codes "file") words node acls → new_acl_words acls ≡ rest
file_acls (File bytes) acls words rest content shape w = ap tail (sym w.1.1 ∙ shape)
file_acls Directory acls words rest content shape w = absurd (other (codes "file") (codes "dir") refl refl w.0)

pub file_part : (words rest : List (List ℕ)) (content bytes : List ℕ) (disposition : Disposition) (life : Life) → words ≡ content ∷ rest → IsFileContent content bytes → IsPart {A = Option AclNames} {B = Create} (λ acls. new_acl_words acls ≡ rest) new_acls_fault (WritesMadeAs life (disposition_word disposition) (codes "file") words) made_fault
file_part words rest content bytes disposition life shape fits = record {
  out = λ b w. (b.acls, file_acls b.node b.acls words rest content shape w.1.1);
  make = λ acls p. (record { disposition = disposition; node = File bytes; life = life; acls = acls }, (refl, (refl, (refl, (content, shape ∙ ap (λ x. content ∷ x) (sym p), fits)))), λ fault h. h);
}

dir_acls : (node : NewNode) (acls : Option AclNames) (kind : List ℕ) (words : List (List ℕ)) → kind ≡ codes "dir" → WritesNode kind words node acls → new_acl_words acls ≡ words
dir_acls (File bytes) acls kind words is w = absurd (other (codes "dir") (codes "file") refl is w.0)
dir_acls Directory acls kind words is w = sym w.1

pub dir_part : (words : List (List ℕ)) (word kind : List ℕ) (disposition : Disposition) (life : Life) → kind ≡ codes "dir" → disposition_word disposition ≡ word → IsPart {A = Option AclNames} {B = Create} (λ acls. new_acl_words acls ≡ words) new_acls_fault (WritesMadeAs life word kind words) made_fault
dir_part words word kind disposition life is told = record {
  out = λ b w. (b.acls, dir_acls b.node b.acls kind words is w.1.1);
  make = λ acls p. (record { disposition = disposition; node = Directory; life = life; acls = acls }, (refl, (told, (is, sym p))), λ fault h. h);
}

living_again : {word word2 : List ℕ} {rest rest2 : List (List ℕ)} (create : Create) → word ≡ word2 → rest ≡ rest2 → WritesLiving word rest create → WritesLiving word2 rest2 create
living_again {word} {word2} {rest} {rest2} create e f w = subst (λ x. WritesLiving word2 x create) f (subst (λ x. WritesLiving x rest create) e w)

made_out : (b : Option Create) (words rest : List (List ℕ)) (word : List ℕ) → words ≡ word ∷ rest → WritesCreate words b → (create : Create) × WritesLiving word rest create
made_out None words rest word shape w = absurd (no_word (sym w ∙ shape))
made_out (Some create) words rest word shape w =
    let same = sym w.2 ∙ shape in
    (create, living_again create (ap head same) (ap tail same) w.3)

pub create_part : (words rest : List (List ℕ)) (word : List ℕ) → words ≡ word ∷ rest → IsPart {A = Create} {B = Option Create} (WritesLiving word rest) made_fault (WritesCreate words) create_fault
create_part words rest word shape = record {
  out = λ b w. made_out b words rest word shape w;
  make = λ create p. (Some create, (word, rest, shape, p), λ fault h. h);
}

same_life : (a b : Life) → life_word a ≡ life_word b → a ≡ b
same_life Permanent Permanent e = refl
same_life Permanent Ephemeral e = absurd (other (codes "permanent") (codes "ephemeral") refl refl e)
same_life Ephemeral Permanent e = absurd (other (codes "ephemeral") (codes "permanent") refl refl e)
same_life Ephemeral Ephemeral e = refl

-- the second word is that of a life
pub life_out : (words rest : List (List ℕ)) (word kind word2 : List ℕ) → words ≡ kind ∷ (word2 ∷ rest) → (b : Create) → WritesLiving word words b → (life : Life) × (life_word life ≡ word2)
life_out words rest word kind word2 shape b w = (b.life, ap (λ x. head (tail x)) (sym w.2 ∙ shape))

pub living : (words rest : List (List ℕ)) (word kind word2 : List ℕ) (life : Life) → life_word life ≡ word2 → words ≡ kind ∷ (word2 ∷ rest) → (r : Result Create Flaw) → Reads (WritesMadeAs life word kind rest) made_fault r → Reads (WritesLiving word words) made_fault r
living words rest word kind word2 life is shape r h = behind r h where
  given : (b : Create) → b.life ≡ life → words ≡ kind ∷ (life_word b.life ∷ rest)
  given b e = shape ∙ ap (λ x. kind ∷ (x ∷ rest)) (sym is ∙ ap life_word (sym e))

  out : (b : Create) → WritesLiving word words b → WritesMadeAs life word kind rest b
  out b w =
      let equal = sym w.2 ∙ shape in
      (same_life b.life life (ap (λ x. head (tail x)) equal ∙ sym is), subst (λ x. WritesMade word kind x b) (ap (λ x. tail (tail x)) equal) (subst (λ x. WritesMade word x w.1 b) (ap head equal) w.3))

  behind : (r : Result Create Flaw) → Reads (WritesMadeAs life word kind rest) made_fault r → Reads (WritesLiving word words) made_fault r
  behind (Ok create) h = ((kind, rest, given create h.0.0, h.0.1), h.1)
  behind (Err Bad) h = λ b w. h b (out b w)
  behind (Err (Refused fault)) h = (h.0, (kind, rest, given h.0 h.1.0, h.1.1), h.2)
  behind (Err NoMemory) h = tt

-- ---- opens

wrong_name : (right : Bool) (fault : Fault) → fault_unless right BadName ≡ Some fault → Some BadName ≡ Some fault
wrong_name true fault h = cc
wrong_name false fault h = h

only_bad_name : (create : Option Create) (fault : Fault) → create_fault create ≡ Some fault → Some BadName ≡ Some fault
only_bad_name None fault h = cc
only_bad_name (Some create) fault h = only_acls create.acls fault h where
  only_acls : (acls : Option AclNames) (fault : Fault) → new_acls_fault acls ≡ Some fault → Some BadName ≡ Some fault
  only_acls None fault h = cc
  only_acls (Some acls) fault h = wrong_name (is_component acls.read && is_component acls.write && is_component acls.change) fault h

name_or : (right : Bool) (inner : Option Fault) (fault : Fault) → inner ≡ Some fault → Some BadName ≡ Some fault → (if right then inner else Some BadName) ≡ Some fault
name_or true inner fault h k = h
name_or false inner fault h k = k

pub open_part : (words rest : List (List ℕ)) (name letters : List ℕ) (mode : Rights) → letters_of mode ≡ letters → HasRight mode → words ≡ name ∷ (letters ∷ rest) → IsPart {A = Option Create × ℕ × Events} {B = Open} (λ making. WritesMaking rest making.0 making.1 making.2) (λ making. create_fault making.0) (WritesOpen words) open_fault
open_part words rest name letters mode told right shape = record {
  out = λ b w. ((b.create, b.delay, b.events), subst (λ x. WritesMaking x b.create b.delay b.events) (ap (λ x. tail (tail x)) (sym w.1 ∙ shape)) w.2.1);
  make = λ making p. (
    record { name = name; mode = mode; create = making.0; delay = making.1; events = making.2 },
    (rest, shape ∙ ap (λ x. name ∷ (x ∷ rest)) (sym told), (right, p)),
    λ fault h. name_or (is_name name) (create_fault making.0) fault h (only_bad_name making.0 fault h),
  );
}

pub unnamed_open : (words rest : List (List ℕ)) (name letters : List ℕ) (mode : Rights) (create : Option Create) (delay : ℕ) (events : Events) → letters_of mode ≡ letters → HasRight mode → words ≡ name ∷ (letters ∷ rest) → WritesMaking rest create delay events → is_name name ≡ false → Reads {A = Open} (WritesOpen words) open_fault (Err (Refused BadName))
unnamed_open words rest name letters mode create delay events told right shape w bad =
    (record { name = name; mode = mode; create = create; delay = delay; events = events }, (rest, shape ∙ ap (λ x. name ∷ (x ∷ rest)) (sym told), (right, w)), ap (λ right. if right then create_fault create else Some BadName) bad)

-- the name is the word, and it is one
opened_by : (words rest : List (List ℕ)) (word name letters : List ℕ) (mode : Rights) (create : Option Create) (delay : ℕ) (events : Events) (right : Bool) → is_name word ≡ right → letters_of mode ≡ letters → HasRight mode → words ≡ word ∷ (letters ∷ rest) → WritesMaking rest create delay events → create_fault create ≡ None → (if right then Ok word else Err names.BadName) ≡ Ok name → WritesOpen words (record { name = name; mode = mode; create = create; delay = delay; events = events }) × (open_fault (record { name = name; mode = mode; create = create; delay = delay; events = events }) ≡ None)
opened_by words rest word name letters mode create delay events false known told right shape w quiet good = cc
opened_by words rest word name letters mode create delay events true known told right shape w quiet good =
    let same : word ≡ name = cc in
    let named : is_name name ≡ true = ap is_name (sym same) ∙ known in
    ((rest, shape ∙ ap (λ x. word ∷ (x ∷ rest)) (sym told) ∙ ap (λ x. x ∷ (letters_of mode ∷ rest)) same, (right, w)), ap (λ b. if b then create_fault create else Some BadName) named ∙ quiet)

pub opened : (words rest : List (List ℕ)) (word name letters : List ℕ) (mode : Rights) (create : Option Create) (delay : ℕ) (events : Events) → letters_of mode ≡ letters → HasRight mode → words ≡ word ∷ (letters ∷ rest) → WritesMaking rest create delay events → create_fault create ≡ None → (if is_name word then Ok word else Err names.BadName) ≡ Ok name → WritesOpen words (record { name = name; mode = mode; create = create; delay = delay; events = events }) × (open_fault (record { name = name; mode = mode; create = create; delay = delay; events = events }) ≡ None)
opened words rest word name letters mode create delay events told right shape w quiet good = opened_by words rest word name letters mode create delay events (is_name word) refl told right shape w quiet good

-- ---- calls on a node

as_node_call : (word : List ℕ) (rest : List (List ℕ)) (call : NodeCall) → IsPlainCall word rest call → WritesNodeCall word rest call
as_node_call word rest nodes.Read w = w
as_node_call word rest nodes.Stat w = w
as_node_call word rest nodes.List w = w
as_node_call word rest nodes.Delete w = w
as_node_call word rest nodes.Release w = w
as_node_call word rest nodes.GetSequencer w = w
as_node_call word rest (nodes.Set bytes generation) w = w
as_node_call word rest (nodes.SetAcl acls generation) w = w
as_node_call word rest (nodes.Acquire mode) w = absurd w
as_node_call word rest (nodes.TryAcquire mode) w = absurd w

as_plain_call : (word : List ℕ) (rest : List (List ℕ)) → word ≢ codes "acquire" → word ≢ codes "try" → (call : NodeCall) → WritesNodeCall word rest call → IsPlainCall word rest call
as_plain_call word rest a b nodes.Read w = w
as_plain_call word rest a b nodes.Stat w = w
as_plain_call word rest a b nodes.List w = w
as_plain_call word rest a b nodes.Delete w = w
as_plain_call word rest a b nodes.Release w = w
as_plain_call word rest a b nodes.GetSequencer w = w
as_plain_call word rest a b (nodes.Set bytes generation) w = w
as_plain_call word rest a b (nodes.SetAcl acls generation) w = w
as_plain_call word rest a b (nodes.Acquire mode) w = a w.0
as_plain_call word rest a b (nodes.TryAcquire mode) w = b w.0

pub other_node_call : (word : List ℕ) (rest : List (List ℕ)) → word ≢ codes "acquire" → word ≢ codes "try" → (r : Result NodeCall Flaw) → Reads (IsPlainCall word rest) node_call_fault r → Reads (WritesNodeCall word rest) node_call_fault r
other_node_call word rest a b (Ok call) h = (as_node_call word rest call h.0, h.1)
other_node_call word rest a b (Err Bad) h = λ call w. h call (as_plain_call word rest a b call w)
other_node_call word rest a b (Err (Refused fault)) h = (h.0, as_node_call word rest h.0 h.1, h.2)
other_node_call word rest a b (Err NoMemory) h = tt

pub set_content : (word content : List ℕ) (words last : List (List ℕ)) → word ≡ codes "set" → words ≡ content ∷ last → (b : NodeCall) → IsPlainCall word words b → (bytes : List ℕ) × IsFileContent content bytes
set_content word content words last is shape nodes.Read w = absurd (other (codes "set") (codes "read") refl is w.0)
set_content word content words last is shape nodes.Stat w = absurd (other (codes "set") (codes "stat") refl is w.0)
set_content word content words last is shape nodes.List w = absurd (other (codes "set") (codes "list") refl is w.0)
set_content word content words last is shape nodes.Delete w = absurd (other (codes "set") (codes "delete") refl is w.0)
set_content word content words last is shape (nodes.Acquire mode) w = absurd w
set_content word content words last is shape (nodes.TryAcquire mode) w = absurd w
set_content word content words last is shape nodes.Release w = absurd (other (codes "set") (codes "release") refl is w.0)
set_content word content words last is shape nodes.GetSequencer w = absurd (other (codes "set") (codes "getseq") refl is w.0)
set_content word content words last is shape (nodes.Set bytes generation) w =
    let same : w.1.0 ≡ content = ap head (sym w.1.2 ∙ shape) in (bytes, subst (λ c. IsFileContent c bytes) same w.1.3.0)
set_content word content words last is shape (nodes.SetAcl acls generation) w = absurd (other (codes "set") (codes "acl") refl is w.0)

pub set_generation : (word content : List ℕ) (words last : List (List ℕ)) → word ≡ codes "set" → words ≡ content ∷ last → (b : NodeCall) → IsPlainCall word words b → (generation : Option ℕ) × WritesGeneration last generation
set_generation word content words last is shape nodes.Read w = absurd (other (codes "set") (codes "read") refl is w.0)
set_generation word content words last is shape nodes.Stat w = absurd (other (codes "set") (codes "stat") refl is w.0)
set_generation word content words last is shape nodes.List w = absurd (other (codes "set") (codes "list") refl is w.0)
set_generation word content words last is shape nodes.Delete w = absurd (other (codes "set") (codes "delete") refl is w.0)
set_generation word content words last is shape (nodes.Acquire mode) w = absurd w
set_generation word content words last is shape (nodes.TryAcquire mode) w = absurd w
set_generation word content words last is shape nodes.Release w = absurd (other (codes "set") (codes "release") refl is w.0)
set_generation word content words last is shape nodes.GetSequencer w = absurd (other (codes "set") (codes "getseq") refl is w.0)
set_generation word content words last is shape (nodes.Set bytes generation) w =
    (generation, subst (λ x. WritesGeneration x generation) (ap tail (sym w.1.2 ∙ shape)) w.1.3.1)
set_generation word content words last is shape (nodes.SetAcl acls generation) w = absurd (other (codes "set") (codes "acl") refl is w.0)

pub set_written : (word content bytes : List ℕ) (words last : List (List ℕ)) (generation : Option ℕ) → word ≡ codes "set" → words ≡ content ∷ last → IsFileContent content bytes → WritesGeneration last generation → IsPlainCall word words (nodes.Set bytes generation)
set_written word content bytes words last generation is shape fits told = (is, (content, last, shape, (fits, told)))

abbrev behind_three : List (List ℕ) → List (List ℕ)
behind_three words = tail (tail (tail words))

abbrev three : List (List ℕ) → List (List ℕ)
three words = head words ∷ (head (tail words) ∷ (head (tail (tail words)) ∷ []))

pub acl_generation : (word r w c : List ℕ) (words last : List (List ℕ)) → word ≡ codes "acl" → words ≡ r ∷ (w ∷ (c ∷ last)) → (b : NodeCall) → IsPlainCall word words b → (generation : Option ℕ) × WritesGeneration last generation
acl_generation word r w c words last is shape nodes.Read h = absurd (other (codes "acl") (codes "read") refl is h.0)
acl_generation word r w c words last is shape nodes.Stat h = absurd (other (codes "acl") (codes "stat") refl is h.0)
acl_generation word r w c words last is shape nodes.List h = absurd (other (codes "acl") (codes "list") refl is h.0)
acl_generation word r w c words last is shape nodes.Delete h = absurd (other (codes "acl") (codes "delete") refl is h.0)
acl_generation word r w c words last is shape (nodes.Acquire mode) h = absurd h
acl_generation word r w c words last is shape (nodes.TryAcquire mode) h = absurd h
acl_generation word r w c words last is shape nodes.Release h = absurd (other (codes "acl") (codes "release") refl is h.0)
acl_generation word r w c words last is shape nodes.GetSequencer h = absurd (other (codes "acl") (codes "getseq") refl is h.0)
acl_generation word r w c words last is shape (nodes.Set bytes generation) h = absurd (other (codes "acl") (codes "set") refl is h.0)
acl_generation word r w c words last is shape (nodes.SetAcl acls generation) h =
    (generation, subst (λ x. WritesGeneration x generation) (ap behind_three (sym h.1.1 ∙ shape)) h.1.2)

given_names : (word r w c : List ℕ) (words last : List (List ℕ)) → word ≡ codes "acl" → words ≡ r ∷ (w ∷ (c ∷ last)) → (b : NodeCall) → IsPlainCall word words b → (acls : AclNames) × (acl_words acls ≡ r ∷ (w ∷ (c ∷ [])))
given_names word r w c words last is shape nodes.Read h = absurd (other (codes "acl") (codes "read") refl is h.0)
given_names word r w c words last is shape nodes.Stat h = absurd (other (codes "acl") (codes "stat") refl is h.0)
given_names word r w c words last is shape nodes.List h = absurd (other (codes "acl") (codes "list") refl is h.0)
given_names word r w c words last is shape nodes.Delete h = absurd (other (codes "acl") (codes "delete") refl is h.0)
given_names word r w c words last is shape (nodes.Acquire mode) h = absurd h
given_names word r w c words last is shape (nodes.TryAcquire mode) h = absurd h
given_names word r w c words last is shape nodes.Release h = absurd (other (codes "acl") (codes "release") refl is h.0)
given_names word r w c words last is shape nodes.GetSequencer h = absurd (other (codes "acl") (codes "getseq") refl is h.0)
given_names word r w c words last is shape (nodes.Set bytes generation) h = absurd (other (codes "acl") (codes "set") refl is h.0)
given_names word r w c words last is shape (nodes.SetAcl acls generation) h = (acls, ap three (sym h.1.1 ∙ shape))

pub acl_written : (word r w c : List ℕ) (words last : List (List ℕ)) (acls : AclNames) (generation : Option ℕ) → word ≡ codes "acl" → words ≡ r ∷ (w ∷ (c ∷ last)) → WritesGeneration last generation → acl_words acls ≡ r ∷ (w ∷ (c ∷ [])) → IsPlainCall word words (nodes.SetAcl acls generation)
acl_written word r w c words last acls generation is shape told p = (is, (last, shape ∙ ap (λ x. x ++ last) (sym p), told))

pub acl_part : (word r w c : List ℕ) (words last : List (List ℕ)) (generation : Option ℕ) → word ≡ codes "acl" → words ≡ r ∷ (w ∷ (c ∷ last)) → WritesGeneration last generation → IsPart {A = AclNames} {B = NodeCall} (λ acls. acl_words acls ≡ r ∷ (w ∷ (c ∷ []))) acls_fault (IsPlainCall word words) node_call_fault
acl_part word r w c words last generation is shape told = record {
  out = given_names word r w c words last is shape;
  make = λ acls p. (nodes.SetAcl acls generation, acl_written word r w c words last acls generation is shape told p, λ fault h. h);
}

-- ---- calls

handle_out : (word handle : List ℕ) (words rest : List (List ℕ)) → words ≡ handle ∷ rest → (b : Ask) → IsHandleCall word words b → (call : NodeCall) × WritesNodeCall word rest call
handle_out word handle words rest shape (calls.Node n call) w = (call, subst (λ x. WritesNodeCall word x call) (ap tail (sym w.1 ∙ shape)) w.2.1)
handle_out word handle words rest shape (calls.Open opening) w = absurd w
handle_out word handle words rest shape (calls.Close n) w = absurd w
handle_out word handle words rest shape (calls.Poison n) w = absurd w
handle_out word handle words rest shape (calls.SetSequencer n bytes) w = absurd w
handle_out word handle words rest shape (calls.CheckSequencer bytes) w = absurd w
handle_out word handle words rest shape calls.Leave w = absurd w

pub handle_written : (word handle : List ℕ) (words rest : List (List ℕ)) (n : ℕ) (call : NodeCall) → decimal n ≡ handle → IsNumber n → words ≡ handle ∷ rest → WritesNodeCall word rest call → IsHandleCall word words (calls.Node n call)
handle_written word handle words rest n call is small shape w = (rest, shape ∙ ap (λ x. x ∷ rest) (sym is), (small, w))

pub handle_part : (word handle : List ℕ) (words rest : List (List ℕ)) (n : ℕ) → decimal n ≡ handle → IsNumber n → words ≡ handle ∷ rest → IsPart {A = NodeCall} {B = Ask} (WritesNodeCall word rest) node_call_fault (IsHandleCall word words) call_fault
handle_part word handle words rest n is small shape = record {
  out = handle_out word handle words rest shape;
  make = λ call w. (calls.Node n call, handle_written word handle words rest n call is small shape w, λ fault h. h);
}

no_node_call : (word : List ℕ) (rest : List (List ℕ)) (call : NodeCall) → word ≡ codes "open" → WritesNodeCall word rest call → ⊥
no_node_call word rest nodes.Read is w = other (codes "open") (codes "read") refl is w.0
no_node_call word rest nodes.Stat is w = other (codes "open") (codes "stat") refl is w.0
no_node_call word rest nodes.List is w = other (codes "open") (codes "list") refl is w.0
no_node_call word rest nodes.Delete is w = other (codes "open") (codes "delete") refl is w.0
no_node_call word rest (nodes.Acquire mode) is w = other (codes "open") (codes "acquire") refl is w.0
no_node_call word rest (nodes.TryAcquire mode) is w = other (codes "open") (codes "try") refl is w.0
no_node_call word rest nodes.Release is w = other (codes "open") (codes "release") refl is w.0
no_node_call word rest nodes.GetSequencer is w = other (codes "open") (codes "getseq") refl is w.0
no_node_call word rest (nodes.Set bytes generation) is w = other (codes "open") (codes "set") refl is w.0
no_node_call word rest (nodes.SetAcl acls generation) is w = other (codes "open") (codes "acl") refl is w.0

open_out : (word : List ℕ) (rest : List (List ℕ)) → word ≡ codes "open" → (b : Ask) → WritesCall word rest b → (opening : Open) × WritesOpen rest opening
open_out word rest is (calls.Open opening) w = (opening, w.1)
open_out word rest is (calls.Close n) w = absurd (other (codes "open") (codes "close") refl is w.0)
open_out word rest is (calls.Poison n) w = absurd (other (codes "open") (codes "poison") refl is w.0)
open_out word rest is (calls.SetSequencer n bytes) w = absurd (other (codes "open") (codes "setseq") refl is w.0)
open_out word rest is (calls.CheckSequencer bytes) w = absurd (other (codes "open") (codes "checkseq") refl is w.0)
open_out word rest is calls.Leave w = absurd (other (codes "open") (codes "leave") refl is w.0)
open_out word rest is (calls.Node n call) w = absurd (no_node_call word w.0 call is w.2.1)

pub open_call_part : (word : List ℕ) (rest : List (List ℕ)) → word ≡ codes "open" → IsPart {A = Open} {B = Ask} (WritesOpen rest) open_fault (WritesCall word rest) call_fault
open_call_part word rest is = record {
  out = open_out word rest is;
  make = λ opening w. (calls.Open opening, (is, w), λ fault h. h);
}

as_call : (word : List ℕ) (rest : List (List ℕ)) (call : Ask) → IsHandleCall word rest call → WritesCall word rest call
as_call word rest (calls.Node n call) w = w
as_call word rest (calls.Open opening) w = absurd w
as_call word rest (calls.Close n) w = absurd w
as_call word rest (calls.Poison n) w = absurd w
as_call word rest (calls.SetSequencer n bytes) w = absurd w
as_call word rest (calls.CheckSequencer bytes) w = absurd w
as_call word rest calls.Leave w = absurd w

as_handle_call : (word : List ℕ) (rest : List (List ℕ)) → word ≢ codes "open" → word ≢ codes "close" → word ≢ codes "poison" → word ≢ codes "setseq" → word ≢ codes "checkseq" → word ≢ codes "leave" → (call : Ask) → WritesCall word rest call → IsHandleCall word rest call
as_handle_call word rest a b c d e f (calls.Node n call) w = w
as_handle_call word rest a b c d e f (calls.Open opening) w = a w.0
as_handle_call word rest a b c d e f (calls.Close n) w = b w.0
as_handle_call word rest a b c d e f (calls.Poison n) w = c w.0
as_handle_call word rest a b c d e f (calls.SetSequencer n bytes) w = d w.0
as_handle_call word rest a b c d e f (calls.CheckSequencer bytes) w = e w.0
as_handle_call word rest a b c d e f calls.Leave w = f w.0

pub other_call : (word : List ℕ) (rest : List (List ℕ)) → word ≢ codes "open" → word ≢ codes "close" → word ≢ codes "poison" → word ≢ codes "setseq" → word ≢ codes "checkseq" → word ≢ codes "leave" → (r : Result Ask Flaw) → Reads (IsHandleCall word rest) call_fault r → Reads (WritesCall word rest) call_fault r
other_call word rest a b c d e f (Ok call) h = (as_call word rest call h.0, h.1)
other_call word rest a b c d e f (Err Bad) h = λ call w. h call (as_handle_call word rest a b c d e f call w)
other_call word rest a b c d e f (Err (Refused fault)) h = (h.0, as_call word rest h.0 h.1, h.2)
other_call word rest a b c d e f (Err NoMemory) h = tt

-- ---- sequencers

pub setting_out : (words : List (List ℕ)) (handle text : List ℕ) → words ≡ handle ∷ (text ∷ []) → (b : Ask) → WritesCall (codes "setseq") words b → (bytes : List ℕ) × IsHex text bytes
setting_out words handle text shape (calls.SetSequencer n bytes) w =
    (bytes, subst (λ x. IsHex x bytes) (ap (λ x. head (tail x)) (sym w.1.1 ∙ shape)) w.1.2.1)
setting_out words handle text shape (calls.CheckSequencer bytes) w = absurd (other (codes "setseq") (codes "checkseq") refl refl w.0)
setting_out words handle text shape calls.Leave w = absurd (other (codes "setseq") (codes "leave") refl refl w.0)
setting_out words handle text shape (calls.Open opening) w = absurd (other (codes "setseq") (codes "open") refl refl w.0)
setting_out words handle text shape (calls.Close n) w = absurd (other (codes "setseq") (codes "close") refl refl w.0)
setting_out words handle text shape (calls.Poison n) w = absurd (other (codes "setseq") (codes "poison") refl refl w.0)
setting_out words handle text shape (calls.Node n call) w = absurd (no_setting w.0 call w.2.1) where
  no_setting : (rest : List (List ℕ)) (call : NodeCall) → WritesNodeCall (codes "setseq") rest call → ⊥
  no_setting rest nodes.Read w = other (codes "setseq") (codes "read") refl refl w.0
  no_setting rest nodes.Stat w = other (codes "setseq") (codes "stat") refl refl w.0
  no_setting rest nodes.List w = other (codes "setseq") (codes "list") refl refl w.0
  no_setting rest nodes.Delete w = other (codes "setseq") (codes "delete") refl refl w.0
  no_setting rest (nodes.Acquire mode) w = other (codes "setseq") (codes "acquire") refl refl w.0
  no_setting rest (nodes.TryAcquire mode) w = other (codes "setseq") (codes "try") refl refl w.0
  no_setting rest nodes.Release w = other (codes "setseq") (codes "release") refl refl w.0
  no_setting rest nodes.GetSequencer w = other (codes "setseq") (codes "getseq") refl refl w.0
  no_setting rest (nodes.Set bytes generation) w = other (codes "setseq") (codes "set") refl refl w.0
  no_setting rest (nodes.SetAcl acls generation) w = other (codes "setseq") (codes "acl") refl refl w.0

pub check_out : (words : List (List ℕ)) (text : List ℕ) → words ≡ text ∷ [] → (b : Ask) → WritesCall (codes "checkseq") words b → (bytes : List ℕ) × IsHex text bytes
check_out words text shape (calls.CheckSequencer bytes) w = (bytes, subst (λ x. IsHex x bytes) (ap head (sym w.1.1 ∙ shape)) w.1.2)
check_out words text shape calls.Leave w = absurd (other (codes "checkseq") (codes "leave") refl refl w.0)
check_out words text shape (calls.SetSequencer n bytes) w = absurd (other (codes "checkseq") (codes "setseq") refl refl w.0)
check_out words text shape (calls.Open opening) w = absurd (other (codes "checkseq") (codes "open") refl refl w.0)
check_out words text shape (calls.Close n) w = absurd (other (codes "checkseq") (codes "close") refl refl w.0)
check_out words text shape (calls.Poison n) w = absurd (other (codes "checkseq") (codes "poison") refl refl w.0)
check_out words text shape (calls.Node n call) w = absurd (no_check w.0 call w.2.1) where
  no_check : (rest : List (List ℕ)) (call : NodeCall) → WritesNodeCall (codes "checkseq") rest call → ⊥
  no_check rest nodes.Read w = other (codes "checkseq") (codes "read") refl refl w.0
  no_check rest nodes.Stat w = other (codes "checkseq") (codes "stat") refl refl w.0
  no_check rest nodes.List w = other (codes "checkseq") (codes "list") refl refl w.0
  no_check rest nodes.Delete w = other (codes "checkseq") (codes "delete") refl refl w.0
  no_check rest (nodes.Acquire mode) w = other (codes "checkseq") (codes "acquire") refl refl w.0
  no_check rest (nodes.TryAcquire mode) w = other (codes "checkseq") (codes "try") refl refl w.0
  no_check rest nodes.Release w = other (codes "checkseq") (codes "release") refl refl w.0
  no_check rest nodes.GetSequencer w = other (codes "checkseq") (codes "getseq") refl refl w.0
  no_check rest (nodes.Set bytes generation) w = other (codes "checkseq") (codes "set") refl refl w.0
  no_check rest (nodes.SetAcl acls generation) w = other (codes "checkseq") (codes "acl") refl refl w.0

-- ---- steps

call_again : {word word2 : List ℕ} {rest rest2 : List (List ℕ)} (call : Ask) → word ≡ word2 → rest ≡ rest2 → WritesCall word rest call → WritesCall word2 rest2 call
call_again {word} {word2} {rest} {rest2} call e f w = subst (λ x. WritesCall word2 x call) f (subst (λ x. WritesCall x rest call) e w)

ask_out : (words rest : List (List ℕ)) (client word : List ℕ) → words ≡ client ∷ (word ∷ rest) → (b : Step) → WritesStep (codes "ask") words b → (call : Ask) × WritesCall word rest call
ask_out words rest client word shape (steps.Ask n call) w =
    let same = sym w.1.2 ∙ shape in
    (call, call_again call (ap (λ x. head (tail x)) same) (ap (λ x. tail (tail x)) same) w.1.3.1)
ask_out words rest client word shape (steps.Up n) w = absurd (other (codes "ask") (codes "up") refl refl w.0)
ask_out words rest client word shape (steps.Join n principal) w = absurd (other (codes "ask") (codes "join") refl refl w.0)
ask_out words rest client word shape (steps.Beat n) w = absurd (other (codes "ask") (codes "beat") refl refl w.0)
ask_out words rest client word shape (steps.Tick ticks) w = absurd (other (codes "ask") (codes "tick") refl refl w.0)
ask_out words rest client word shape (steps.Take n) w = absurd (other (codes "ask") (codes "take") refl refl w.0)
ask_out words rest client word shape (steps.Give n) w = absurd (other (codes "ask") (codes "give") refl refl w.0)
ask_out words rest client word shape steps.Sweep w = absurd (other (codes "ask") (codes "sweep") refl refl w.0)
ask_out words rest client word shape steps.Beats w = absurd (other (codes "ask") (codes "beats") refl refl w.0)
ask_out words rest client word shape steps.Down w = absurd (other (codes "ask") (codes "down") refl refl w.0)
ask_out words rest client word shape (steps.CutSweep commit) w = absurd (other (codes "ask") (codes "cut") refl refl w.0)
ask_out words rest client word shape (steps.CutUp m commit) w = absurd (other (codes "ask") (codes "cut") refl refl w.0)

pub ask_written : (words rest : List (List ℕ)) (client word : List ℕ) (n : ℕ) (call : Ask) → decimal n ≡ client → IsNumber n → words ≡ client ∷ (word ∷ rest) → WritesCall word rest call → WritesStep (codes "ask") words (steps.Ask n call)
ask_written words rest client word n call is small shape w = (refl, (word, rest, shape ∙ ap (λ x. x ∷ (word ∷ rest)) (sym is), (small, w)))

pub ask_part : (words rest : List (List ℕ)) (client word : List ℕ) (n : ℕ) → decimal n ≡ client → IsNumber n → words ≡ client ∷ (word ∷ rest) → IsPart {A = Ask} {B = Step} (WritesCall word rest) call_fault (WritesStep (codes "ask") words) step_fault
ask_part words rest client word n is small shape = record {
  out = ask_out words rest client word shape;
  make = λ call w. (steps.Ask n call, ask_written words rest client word n call is small shape w, λ fault h. h);
}

pub unnamed_join : (words : List (List ℕ)) (client principal : List ℕ) (n : ℕ) → decimal n ≡ client → IsClientNumber n → words ≡ client ∷ (principal ∷ []) → is_component principal ≡ false → Reads {A = Step} (WritesStep (codes "join") words) step_fault (Err (Refused BadPrincipal))
unnamed_join words client principal n is range shape bad =
    (steps.Join n principal, (refl, (shape ∙ ap (λ x. x ∷ (principal ∷ [])) (sym is), range)), ap (λ right. fault_unless right BadPrincipal) bad)

-- a number that is no client's
pub no_client : (words : List (List ℕ)) (client principal : List ℕ) (n : ℕ) → decimal n ≡ client → n < 2 ^ 64 → ¬ (IsClientNumber n) → words ≡ client ∷ (principal ∷ []) → (b : Step) → WritesStep (codes "join") words b → ⊥
no_client words client principal n is small none shape (steps.Join m other_principal) w =
    let same : decimal m ≡ client = ap head (sym w.1.0 ∙ shape) in
    let equal : m ≡ n = decimal_injective m n (omega (arith, w.1.1.1)) small (same ∙ sym is) in
    none (subst IsClientNumber equal w.1.1)
no_client words client principal n is small none shape (steps.Ask m call) w = other (codes "join") (codes "ask") refl refl w.0
no_client words client principal n is small none shape (steps.Up m) w = other (codes "join") (codes "up") refl refl w.0
no_client words client principal n is small none shape (steps.Beat m) w = other (codes "join") (codes "beat") refl refl w.0
no_client words client principal n is small none shape (steps.Tick ticks) w = other (codes "join") (codes "tick") refl refl w.0
no_client words client principal n is small none shape (steps.Take m) w = other (codes "join") (codes "take") refl refl w.0
no_client words client principal n is small none shape (steps.Give m) w = other (codes "join") (codes "give") refl refl w.0
no_client words client principal n is small none shape steps.Sweep w = other (codes "join") (codes "sweep") refl refl w.0
no_client words client principal n is small none shape steps.Beats w = other (codes "join") (codes "beats") refl refl w.0
no_client words client principal n is small none shape steps.Down w = other (codes "join") (codes "down") refl refl w.0
no_client words client principal n is small none shape (steps.CutSweep commit) w = other (codes "join") (codes "cut") refl refl w.0
no_client words client principal n is small none shape (steps.CutUp m commit) w = other (codes "join") (codes "cut") refl refl w.0
