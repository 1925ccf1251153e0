-- A master's refusals are read as they were written.
use Rattle.std.proofs.Common.{◌≡◌, ℕ, zero, suc, ◌+◌, ◌<◌, ◌≤◌, Bool, true, false, List, [], ◌∷◌, ◌++◌, length, Option, Some, None, Result, Ok, Err, refl, sym, ap, subst, ◌∙◌, arith}
use Rattle.node_core.specs.declared.kinds.Kind.TheVariants.{File}
use Rattle.node_core.specs.declared.kinds.Right.TheVariants.{Read}
use Rattle.node_core.specs.declared.kinds.LockMode.TheVariants.{Exclusive}
use Rattle.node_core.specs.Refusals.{fault_number}
use Rattle.node_core.specs.declared.refusals.Fault.{Fault}
use Rattle.node_core.specs.declared.refusals.Fault.TheVariants as faults
use Rattle.codec.specs.declared.faults.WireFault.{WireFault}
use Rattle.codec.specs.declared.faults.WireFault.TheVariants as wire
use Rattle.codec.specs.Forms.{Form, nothing, choice, of_kind, behind}
use Rattle.codec.specs.Fields.{word, kind, right, lock_mode}
use Rattle.codec.specs.Faults.{all_faults, fault_kind, fault_place, argument_bytes, has_argument, fault_behind, fault}
use Rattle.codec.proofs.FormLaws.{IsBytes, IsShort, IsForm, Takes, TakesKind, TakesRoom, ok_is, number_form_4, number_form_8, byte_form, counted_form, nothing_form, pair_form, made_form, tested_form, choice_form, of_kind_form, behind_takes, behind_again, optional_form, listed_form}
use Rattle.codec.proofs.FieldLaws.{word_form, kind_form, right_form, lock_mode_form}

some_is : {X : Type 0} (x y : X) → Some x ≡ Some y → x ≡ y
some_is x y e = cc

fault_any : (x : Fault) → (choice all_faults fault_place).is (fault_kind x)
fault_any (faults.WrongKind x) = refl
fault_any (faults.Denied x) = refl
fault_any (faults.WrongGeneration x) = refl
fault_any (faults.BadAck x) = refl
fault_any (faults.Held x) = refl
fault_any (faults.Delayed x) = refl
fault_any (faults.OldEpoch x) = refl
fault_any (faults.PassMissing x) = refl
fault_any (faults.ReceiptApart x) = refl
fault_any (faults.NoRoom x) = refl
fault_any plain = refl

abbrev the_end : Fault → List ℕ → Result (Fault × List ℕ) WireFault
the_end k bytes = Ok (k, bytes)

plain_takes : (k : Fault) (bytes : List ℕ) (x : Fault) (rest : List ℕ) → fault_kind k ≡ k → has_argument k → argument_bytes k ≡ [] → IsBytes bytes
    → the_end k bytes ≡ Ok (x, rest) → TakesKind fault_kind has_argument argument_bytes k bytes x rest
plain_takes k bytes x rest same holds none fits e =
    let P : Fault × List ℕ → Type 0 = λ y. TakesKind fault_kind has_argument argument_bytes k bytes y.0 y.1 in
    subst P (ok_is (k, bytes) (x, rest) e) (record { same = same; holds = holds; parts = ap (λ (u : List ℕ). u ++ bytes) (sym none); others = fits })

fault_takes : (k : Fault) (bytes : List ℕ) (x : Fault) (rest : List ℕ) → (choice all_faults fault_place).is k → IsBytes bytes → fault_behind k bytes ≡ Ok (x, rest)
    → TakesKind fault_kind has_argument argument_bytes k bytes x rest
fault_takes (faults.WrongKind z) bytes x rest placed fits e =
    behind_takes faults.WrongKind (faults.WrongKind z) kind_form (λ a. some_is _ _ placed) (λ a h. h) (λ a. refl) bytes x rest fits e
fault_takes (faults.Denied z) bytes x rest placed fits e =
    behind_takes faults.Denied (faults.Denied z) right_form (λ a. some_is _ _ placed) (λ a h. h) (λ a. refl) bytes x rest fits e
fault_takes (faults.WrongGeneration z) bytes x rest placed fits e =
    behind_takes faults.WrongGeneration (faults.WrongGeneration z) word_form (λ a. some_is _ _ placed) (λ a h. h) (λ a. refl) bytes x rest fits e
fault_takes (faults.BadAck z) bytes x rest placed fits e =
    behind_takes faults.BadAck (faults.BadAck z) word_form (λ a. some_is _ _ placed) (λ a h. h) (λ a. refl) bytes x rest fits e
fault_takes (faults.Held z) bytes x rest placed fits e =
    behind_takes faults.Held (faults.Held z) lock_mode_form (λ a. some_is _ _ placed) (λ a h. h) (λ a. refl) bytes x rest fits e
fault_takes (faults.Delayed z) bytes x rest placed fits e =
    behind_takes faults.Delayed (faults.Delayed z) word_form (λ a. some_is _ _ placed) (λ a h. h) (λ a. refl) bytes x rest fits e
fault_takes (faults.OldEpoch z) bytes x rest placed fits e =
    behind_takes faults.OldEpoch (faults.OldEpoch z) word_form (λ a. some_is _ _ placed) (λ a h. h) (λ a. refl) bytes x rest fits e
fault_takes (faults.PassMissing z) bytes x rest placed fits e =
    behind_takes faults.PassMissing (faults.PassMissing z) word_form (λ a. some_is _ _ placed) (λ a h. h) (λ a. refl) bytes x rest fits e
fault_takes (faults.ReceiptApart z) bytes x rest placed fits e =
    behind_takes faults.ReceiptApart (faults.ReceiptApart z) word_form (λ a. some_is _ _ placed) (λ a h. h) (λ a. refl) bytes x rest fits e
fault_takes (faults.NoRoom z) bytes x rest placed fits e =
    behind_takes faults.NoRoom (faults.NoRoom z) word_form (λ a. some_is _ _ placed) (λ a h. h) (λ a. refl) bytes x rest fits e
fault_takes plain bytes x rest placed fits e = plain_takes plain bytes x rest refl tt refl fits e

fault_again : (x : Fault) (rest : List ℕ) → has_argument x → IsShort (argument_bytes x) → fault_behind (fault_kind x) (argument_bytes x ++ rest) ≡ Ok (x, rest)
fault_again (faults.WrongKind x) rest holds short = behind_again faults.WrongKind kind_form x rest holds short
fault_again (faults.Denied x) rest holds short = behind_again faults.Denied right_form x rest holds short
fault_again (faults.WrongGeneration x) rest holds short = behind_again faults.WrongGeneration word_form x rest holds short
fault_again (faults.BadAck x) rest holds short = behind_again faults.BadAck word_form x rest holds short
fault_again (faults.Held x) rest holds short = behind_again faults.Held lock_mode_form x rest holds short
fault_again (faults.Delayed x) rest holds short = behind_again faults.Delayed word_form x rest holds short
fault_again (faults.OldEpoch x) rest holds short = behind_again faults.OldEpoch word_form x rest holds short
fault_again (faults.PassMissing x) rest holds short = behind_again faults.PassMissing word_form x rest holds short
fault_again (faults.ReceiptApart x) rest holds short = behind_again faults.ReceiptApart word_form x rest holds short
fault_again (faults.NoRoom x) rest holds short = behind_again faults.NoRoom word_form x rest holds short
fault_again plain rest holds short = refl

pub fault_form : IsForm fault
unfolding fault
fault_form = of_kind_form fault_kind has_argument argument_bytes fault_behind (choice_form all_faults fault_place refl) fault_any fault_takes fault_again
