-- Whole messages, written and read.
use Rattle.std.proofs.Common.{◌≡◌, ℕ, Bool, true, cond, List, [], ◌∷◌, ◌++◌, length, Result, Ok, Err, refl, sym, ap, subst, ◌∙◌}
use Rattle.std.specs.Prelude.{IfOk, ◌==◌}
use Rattle.collections.specs.Results.{Gives}
use Rattle.codec.specs.declared.faults.WireFault.{WireFault}
use Rattle.codec.specs.declared.faults.WireFault.TheVariants.{NoMemory, Extra}
use Rattle.codec.specs.Forms.{◌>>=◌, Form, Appends, version, short_of, written, begin_at, end_at, read_whole}
use Rattle.codec.proofs.FormLaws.{IsBytes, IsForm, bind_is, written_is_read, read_was_written}

-- the version, and then the message
pub gives_written : {X : Type 0} (f : Form X) (x : X) (start one all : List ℕ) (result : Result (List ℕ) WireFault) → start ≡ [] → one ≡ start ++ version ∷ [] → Appends f x one all
    → Gives NoMemory result (short_of all) → Gives NoMemory result (written f x)
gives_written f x start one all result empty first then_all given =
    let P : List ℕ → Type 0 = λ u. Gives NoMemory result (short_of u) in
    subst P (then_all.1 ∙ ap (λ (u : List ℕ). u ++ f.write x) (first ∙ ap (λ (u : List ℕ). u ++ version ∷ []) empty)) given

-- what was given is read again
pub reads_back : {X : Type 0} {f : Form X} → IsForm f → (x : X) (result : Result (List ℕ) WireFault) → f.is x → Gives NoMemory result (written f x)
    → IfOk result (λ bytes. read_whole f bytes ≡ Ok x)
reads_back p x (Ok bytes) holds given = written_is_read p x bytes holds given
reads_back p x (Err e) holds given = tt

-- the steps of reading
pub all_read : {X : Type 0} (f : Form X) (bytes fields : List ℕ) (x : X) (rest : List ℕ) → begin_at bytes ≡ Ok fields → f.read fields ≡ Ok (x, rest) → (length rest == 0) ≡ true
    → read_whole f bytes ≡ Ok x
all_read f bytes fields x rest begun read ended =
    bind_is _ (λ rest. f.read rest >>= λ y. end_at y.0 y.1) fields begun ∙ bind_is _ (λ y. end_at y.0 y.1) (x, rest) read
    ∙ ap (λ (b : Bool). cond b (Ok x) (Err Extra)) ended

-- what was read would be written
pub writes_back : {X : Type 0} {f : Form X} → IsForm f → (bytes : List ℕ) (x : X) → IsBytes bytes → read_whole f bytes ≡ Ok x → written f x ≡ Ok bytes
writes_back p bytes x fits e = (read_was_written p bytes x fits e).1
