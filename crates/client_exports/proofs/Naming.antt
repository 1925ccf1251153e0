-- A text that is no name, and one that is no component.
use Rattle.std.proofs.Common.{◌≡◌, ℕ, List, Bool, cond, Ok, Err, ap}
use Rattle.std.specs.Str.{IsUtf8}
use Rattle.names_cell.specs.Text.{is_component, is_name}
use Rattle.tags_cell.proofs.NameTexts.{utf8_of_name}
use Rattle.codec.specs.declared.faults.WireFault.TheVariants.{BadText}
use Rattle.codec.proofs.TextLaws.{utf8_of_component}
use Rattle.client_exports.specs.Parts.{name_in, component_in}
use Rattle.client_exports.proofs.Opening.{false_of}

-- bytes that are no UTF-8
pub bad_name : (name : List ℕ) → (IsUtf8 name → ⊥) → name_in name ≡ Err BadText
bad_name name fails = ap (λ (b : Bool). cond b (Ok name) (Err BadText)) (false_of (is_name name) (λ h. fails (utf8_of_name name h)))

pub bad_component : (text : List ℕ) → (IsUtf8 text → ⊥) → component_in text ≡ Err BadText
bad_component text fails = ap (λ (b : Bool). cond b (Ok text) (Err BadText)) (false_of (is_component text) (λ h. fails (utf8_of_component text h)))
