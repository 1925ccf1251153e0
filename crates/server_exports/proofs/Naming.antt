-- A text that is no name, and one that is no component.
use Rattle.std.proofs.Common.{◌≡◌, ℕ, List, Bool, true, false, cond, Ok, Err, ap, refl}
use Rattle.std.specs.Str.{IsUtf8}
use Rattle.names_cell.specs.Text.{is_component, is_name}
use Rattle.tags_cell.proofs.NameTexts.{utf8_of_name}
use Rattle.codec.specs.declared.faults.WireFault.TheVariants.{BadText}
use Rattle.codec.proofs.TextLaws.{utf8_of_component}
use Rattle.server_exports.specs.Rows.{name_in, component_in}

false_of : (b : Bool) → (b ≡ true → ⊥) → b ≡ false
false_of true h = absurd (h refl)
false_of false h = refl

-- bytes that are no UTF-8
pub bad_name : (text : List ℕ) → (IsUtf8 text → ⊥) → name_in text ≡ Err BadText
bad_name text fails = ap (λ (b : Bool). cond b (Ok text) (Err BadText)) (false_of (is_name text) (λ h. fails (utf8_of_name text h)))

pub bad_component : (text : List ℕ) → (IsUtf8 text → ⊥) → component_in text ≡ Err BadText
bad_component text fails = ap (λ (b : Bool). cond b (Ok text) (Err BadText)) (false_of (is_component text) (λ h. fails (utf8_of_component text h)))
