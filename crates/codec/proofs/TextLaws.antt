-- Texts that are names or components, and those that aren't.
use Rattle.std.proofs.Common.{◌≡◌, ℕ, zero, suc, ◌<◌, List, [], ◌∷◌, Bool, true, false, cond, Result, Ok, Err, refl, sym, ap, ◌∙◌, subst, arith}
use Rattle.std.specs.Prelude.{◌≢◌, slice_index, if◌then◌else◌}
use Rattle.std.specs.List.{list_all}
use Rattle.std.specs.Str.{IsUtf8}
use Rattle.std.specs.Result.{IsErrAnd}
use Rattle.std.proofs.lemmas.Str.{IsUtf8-from_ascii}
use Rattle.std.proofs.lemmas.Bool.Decides.{nat_tests}
use Rattle.names_cell.proofs.ComponentLemmas.{both, parts_of_component}
use Rattle.names_cell.specs.Text.{is_component, is_component_byte}
use Rattle.names_cell.specs.declared.faults.NameFault.{NameFault}
use Rattle.names_cell.specs.declared.faults.NameFault.TheVariants as names
use Rattle.codec.specs.declared.faults.WireFault.{WireFault}
use Rattle.codec.specs.declared.faults.WireFault.TheVariants.{NoMemory, BadText}
use Rattle.codec.specs.Forms.{◌>>=◌, Form, Reads, tested}
use Rattle.codec.specs.Faults.{fault_of_text}
use Rattle.codec.proofs.FormLaws.{bind_is}

byte_below : (b : ℕ) → is_component_byte b ≡ true → b < 128
byte_below b h = grind (arith, nat_tests)

component_below : (bs : List ℕ) → list_all is_component_byte bs ≡ true → (i : ℕ) → slice_index bs i < 128
component_below [] h i = omega arith
component_below (b ∷ bs) h zero = byte_below b (both (is_component_byte b) (list_all is_component_byte bs) h).0
component_below (b ∷ bs) h (suc i) = component_below bs (both (is_component_byte b) (list_all is_component_byte bs) h).1 i

-- so a text that is a component is UTF-8
pub utf8_of_component : (text : List ℕ) → is_component text ≡ true → IsUtf8 text
utf8_of_component text h = IsUtf8-from_ascii text (component_below text (parts_of_component text h).bytes)

false_of : (b : Bool) → (b ≡ true → ⊥) → b ≡ false
false_of true h = absurd (h refl)
false_of false h = refl

-- bytes that fail the test are refused
pub refuses : (test : List ℕ → Bool) (f : Form (List ℕ)) (bytes text rest : List ℕ) → f.read bytes ≡ Ok (text, rest) → test text ≡ false
    → (tested BadText test f).read bytes ≡ Err BadText
refuses test f bytes text rest e fails =
    bind_is _ (λ a. cond (test a.0) (Ok a) (Err BadText)) (text, rest) e ∙ ap (λ (b : Bool). cond b (Ok (text, rest)) (Err BadText)) fails

-- bytes that are no text are refused
pub no_text : (test : List ℕ → Bool) (f : Form (List ℕ)) (bytes text rest : List ℕ) → f.read bytes ≡ Ok (text, rest) → ((t : List ℕ) → test t ≡ true → IsUtf8 t)
    → (IsUtf8 text → ⊥) → (tested BadText test f).read bytes ≡ Err BadText
no_text test f bytes text rest e utf8 fails = refuses test f bytes text rest e (false_of (test text) (λ is. fails (utf8 text is)))

is_so : (b : Bool) (text found : List ℕ) (e : NameFault) → cond b (Ok text) (Err e) ≡ Ok found → (b ≡ true) × (text ≡ found)
is_so true text found e h = (refl, cc)
is_so false text found e h = absurd cc

-- a text that passes is read
pub is_text : (test : List ℕ → Bool) (f : Form (List ℕ)) (bytes front rest text found : List ℕ) (why : NameFault) → f.read bytes ≡ Ok (front, rest) → text ≡ front
    → cond (test text) (Ok text) (Err why) ≡ Ok found → (tested BadText test f).read bytes ≡ Ok (found, rest)
is_text test f bytes front rest text found why e same h =
    let t = is_so (test text) text found why h in
    bind_is _ (λ a. cond (test a.0) (Ok a) (Err BadText)) (front, rest) e
    ∙ ap (λ (b : Bool). cond b (Ok (front, rest)) (Err BadText)) (ap test (sym same) ∙ t.0)
    ∙ ap (λ (u : List ℕ). Ok (u, rest)) (sym same ∙ t.1)

not_so : (b : Bool) (text : List ℕ) (e d : NameFault) → cond b (Ok text) (Err e) ≡ Err d → b ≡ false
not_so true text e d h = absurd cc
not_so false text e d h = refl

-- a text that fails is refused as one
pub is_no_text : {X : Type 0} (test : List ℕ → Bool) (f : Form (List ℕ)) (bytes front rest text : List ℕ) (result : Result X WireFault) (view : X → List ℕ) (why e : NameFault)
    → f.read bytes ≡ Ok (front, rest) → text ≡ front → (e ≢ names.NoMemory → cond (test text) (Ok text) (Err why) ≡ Err e)
    → IsErrAnd result (λ fault. fault ≡ fault_of_text e) → Reads view result rest ((tested BadText test f).read bytes)
is_no_text test f bytes front rest text (Ok x) view why e read same h is = absurd is
is_no_text test f bytes front rest text (Err fault) view why names.NoMemory read same h is = λ other. absurd (other is)
is_no_text test f bytes front rest text (Err fault) view why names.BadName read same h is = λ other.
    refuses test f bytes front rest read (ap test (sym same) ∙ not_so (test text) text why names.BadName (h (λ x. cc))) ∙ ap (λ (d : WireFault). Err d) (sym is)
is_no_text test f bytes front rest text (Err fault) view why names.BadPrincipal read same h is = λ other.
    refuses test f bytes front rest read (ap test (sym same) ∙ not_so (test text) text why names.BadPrincipal (h (λ x. cc))) ∙ ap (λ (d : WireFault). Err d) (sym is)
is_no_text test f bytes front rest text (Err fault) view why names.BadAcl read same h is = λ other.
    refuses test f bytes front rest read (ap test (sym same) ∙ not_so (test text) text why names.BadAcl (h (λ x. cc))) ∙ ap (λ (d : WireFault). Err d) (sym is)
