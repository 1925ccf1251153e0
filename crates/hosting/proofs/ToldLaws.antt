-- What a master sends is read as it was written.
use Rattle.std.proofs.Common.{◌≡◌, ℕ, List, ◌++◌, Ok, refl}
use Rattle.codec.specs.Forms.{choice}
use Rattle.codec.proofs.FormLaws.{IsBytes, IsShort, IsForm, TakesKind, pair_form, choice_form, of_kind_form, behind_takes, behind_again}
use Rattle.codec.proofs.FieldLaws.{word_form, client_form, block_form, optional_word_form}
use Rattle.codec.proofs.OutLaws.{out_message_form}
use Rattle.codec.proofs.LineLaws.{line_form}
use Rattle.hosting.specs.declared.tellings.MasterFrame.{MasterFrame}
use Rattle.hosting.specs.declared.tellings.MasterFrame.TheVariants as tells
use Rattle.hosting.specs.declared.kinds.ToldKind.{ToldKind}
use Rattle.hosting.specs.declared.kinds.ToldKind.TheVariants as of
use Rattle.hosting.specs.Told.{out_fields, line_fields, counts_by, words_of, count_fields, all_wire_faults, fault_place, wire_fault, all_told, told_place, told_kind, told_is, told_bytes, told_behind, told}
use Rattle.hosting.proofs.BlockLaws.{versioned_form}

out_fields_form : IsForm out_fields
out_fields_form = pair_form client_form (versioned_form out_message_form)

line_fields_form : IsForm line_fields
line_fields_form = versioned_form line_form

count_fields_form : IsForm count_fields
count_fields_form = pair_form word_form (pair_form word_form (pair_form word_form (pair_form word_form word_form)))

wire_fault_form : IsForm wire_fault
wire_fault_form = choice_form all_wire_faults fault_place refl

told_any : (x : MasterFrame) → (choice all_told told_place).is (told_kind x)
told_any (tells.Line printed) = refl
told_any (tells.Message number message) = refl
told_any (tells.Bad fault) = refl
told_any (tells.End deadline) = refl
told_any (tells.Counts counts) = refl
told_any (tells.Recovers until) = refl
told_any (tells.Waits number) = refl
told_any (tells.Touches name) = refl
told_any (tells.Awaited number) = refl

told_takes : (k : ToldKind) (bytes : List ℕ) (x : MasterFrame) (rest : List ℕ) → (choice all_told told_place).is k → IsBytes bytes → told_behind k bytes ≡ Ok (x, rest)
    → TakesKind told_kind told_is told_bytes k bytes x rest
told_takes of.Line bytes x rest placed fits e = behind_takes tells.Line of.Line line_fields_form (λ a. refl) (λ a h. h) (λ a. refl) bytes x rest fits e
told_takes of.Message bytes x rest placed fits e = behind_takes (λ x. tells.Message x.0 x.1) of.Message out_fields_form (λ a. refl) (λ a h. h) (λ a. refl) bytes x rest fits e
told_takes of.Bad bytes x rest placed fits e = behind_takes tells.Bad of.Bad wire_fault_form (λ a. refl) (λ a h. h) (λ a. refl) bytes x rest fits e
told_takes of.End bytes x rest placed fits e = behind_takes tells.End of.End optional_word_form (λ a. refl) (λ a h. h) (λ a. refl) bytes x rest fits e
told_takes of.Counts bytes x rest placed fits e = behind_takes (λ w. tells.Counts (counts_by w)) of.Counts count_fields_form (λ a. refl) (λ a h. h) (λ a. refl) bytes x rest fits e
told_takes of.Recovers bytes x rest placed fits e = behind_takes tells.Recovers of.Recovers word_form (λ a. refl) (λ a h. h) (λ a. refl) bytes x rest fits e
told_takes of.Waits bytes x rest placed fits e = behind_takes tells.Waits of.Waits word_form (λ a. refl) (λ a h. h) (λ a. refl) bytes x rest fits e
told_takes of.Touches bytes x rest placed fits e = behind_takes tells.Touches of.Touches block_form (λ a. refl) (λ a h. h) (λ a. refl) bytes x rest fits e
told_takes of.Awaited bytes x rest placed fits e = behind_takes tells.Awaited of.Awaited word_form (λ a. refl) (λ a h. h) (λ a. refl) bytes x rest fits e

told_again : (x : MasterFrame) (rest : List ℕ) → told_is x → IsShort (told_bytes x) → told_behind (told_kind x) (told_bytes x ++ rest) ≡ Ok (x, rest)
told_again (tells.Line printed) rest holds short = behind_again tells.Line line_fields_form printed rest holds short
told_again (tells.Message number message) rest holds short = behind_again (λ x. tells.Message x.0 x.1) out_fields_form (number, message) rest holds short
told_again (tells.Bad fault) rest holds short = behind_again tells.Bad wire_fault_form fault rest holds short
told_again (tells.End deadline) rest holds short = behind_again tells.End optional_word_form deadline rest holds short
told_again (tells.Counts counts) rest holds short = behind_again (λ w. tells.Counts (counts_by w)) count_fields_form (words_of counts) rest holds short
told_again (tells.Recovers until) rest holds short = behind_again tells.Recovers word_form until rest holds short
told_again (tells.Waits number) rest holds short = behind_again tells.Waits word_form number rest holds short
told_again (tells.Touches name) rest holds short = behind_again tells.Touches block_form name rest holds short
told_again (tells.Awaited number) rest holds short = behind_again tells.Awaited word_form number rest holds short

pub told_form : IsForm told
unfolding told
told_form = of_kind_form told_kind told_is told_bytes told_behind (choice_form all_told told_place refl) told_any told_takes told_again
