-- Numbers of clients and of calls, as tests.
use Rattle.std.proofs.Common.{◌≡◌, ℕ, Bool, true, false, cond, List, Result, Err, sym, ap, subst, ◌∙◌, arith}
use Rattle.std.proofs.lemmas.Bool.Decides.{nat_tests}
use Rattle.collections.specs.Results.{Gives}
use Rattle.tags_cell.specs.Numbers.{IsClientNumber, is_client_number, IsOrdinal}
use Rattle.tags_cell.specs.Handles.{is_ordinal}
use Rattle.tags_cell.specs.declared.messages.outs.Out.TheVariants as outs
use Rattle.codec.specs.declared.faults.WireFault.{WireFault}
use Rattle.codec.specs.declared.faults.WireFault.TheVariants.{NoMemory, BadNumber}
use Rattle.codec.specs.Outs.{out_written}
use Rattle.server_exports.specs.Written.{refused_reply, store_refused}

is_client : (n : ℕ) → IsClientNumber n → is_client_number n ≡ true
is_client n h = grind (arith, nat_tests)

no_client : (n : ℕ) → (IsClientNumber n → ⊥) → is_client_number n ≡ false
no_client n h = grind (arith, nat_tests)

is_number : (n : ℕ) → IsOrdinal n → is_ordinal n ≡ true
is_number n h = grind (arith, nat_tests)

no_number : (n : ℕ) → (IsOrdinal n → ⊥) → is_ordinal n ≡ false
no_number n h = grind (arith, nat_tests)

abbrev either : Bool → Bool → Result (List ℕ) WireFault → Result (List ℕ) WireFault
either a b given = cond a (cond b given (Err BadNumber)) (Err BadNumber)

pub of_no_client : (client epoch number : ℕ) → (IsClientNumber client → ⊥) → store_refused client epoch number ≡ Err BadNumber
of_no_client client epoch number h =
    ap (λ (a : Bool). either a (is_ordinal number) (out_written (outs.Reply (refused_reply client epoch number)))) (no_client client h)

pub of_no_call : (client epoch number : ℕ) → IsClientNumber client → (IsOrdinal number → ⊥) → store_refused client epoch number ≡ Err BadNumber
of_no_call client epoch number is h =
    ap (λ (a : Bool). either a (is_ordinal number) (out_written (outs.Reply (refused_reply client epoch number)))) (is_client client is)
    ∙ ap (λ (b : Bool). either true b (out_written (outs.Reply (refused_reply client epoch number)))) (no_number number h)

of_both : (client epoch number : ℕ) → IsClientNumber client → IsOrdinal number
    → store_refused client epoch number ≡ out_written (outs.Reply (refused_reply client epoch number))
of_both client epoch number is of =
    ap (λ (a : Bool). either a (is_ordinal number) (out_written (outs.Reply (refused_reply client epoch number)))) (is_client client is)
    ∙ ap (λ (b : Bool). either true b (out_written (outs.Reply (refused_reply client epoch number)))) (is_number number of)

pub gives_refused : (client epoch number x y : ℕ) (r : Result (List ℕ) WireFault) → IsClientNumber client → IsOrdinal number → x ≡ client → y ≡ number
    → Gives NoMemory r (out_written (outs.Reply (refused_reply x epoch y))) → Gives NoMemory r (store_refused client epoch number)
gives_refused client epoch number x y r is of one other given =
    let P : Result (List ℕ) WireFault → Type 0 = λ w. Gives NoMemory r w in
    subst P
    (ap (λ (n : ℕ). out_written (outs.Reply (refused_reply n epoch y))) one
    ∙ ap (λ (n : ℕ). out_written (outs.Reply (refused_reply client epoch n))) other
    ∙ sym (of_both client epoch number is of)) given
