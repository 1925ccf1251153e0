-- A text that is no principal.
use Rattle.std.proofs.Common.{◌≡◌, ℕ, ◌∙◌, List, Bool, true, false, cond, Ok, Err, refl, ap, arith}
use Rattle.std.specs.Str.{IsUtf8}
use Rattle.std.proofs.lemmas.Bool.Decides.{nat_tests}
use Rattle.names_cell.specs.Text.{is_component}
use Rattle.tags_cell.specs.Numbers.{IsClientNumber, is_client_number}
use Rattle.client_core.specs.State.{new_client}
use Rattle.codec.specs.declared.faults.WireFault.TheVariants.{BadNumber, BadText}
use Rattle.codec.proofs.TextLaws.{utf8_of_component}
use Rattle.client_exports.specs.States.{new_held}
use Rattle.client_exports.specs.Opens.{opened_for, opened}

pub false_of : (b : Bool) → (b ≡ true → ⊥) → b ≡ false
false_of true h = absurd (h refl)
false_of false h = refl

is_number : (n : ℕ) → IsClientNumber n → is_client_number n ≡ true
is_number n h = let low = h.0 in let high = h.1 in grind (arith, nat_tests)

-- bytes that are no UTF-8
pub bad_text : (number : ℕ) (text : List ℕ) → IsClientNumber number → (IsUtf8 text → ⊥) → opened number text ≡ Err BadText
bad_text number text is fails =
    ap (λ (b : Bool). cond b (opened_for number text) (Err BadNumber)) (is_number number is)
    ∙ ap (λ (b : Bool). cond b (Ok (new_held (new_client number text))) (Err BadText)) (false_of (is_component text) (λ h. fails (utf8_of_component text h)))
