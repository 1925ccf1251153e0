-- One value written after the other.
use Rattle.std.proofs.Common.{◌≡◌, List, ◌++◌, Result, Ok, Err, ap, subst, ◌∙◌, append_assoc, ℕ}
use Rattle.std.specs.Prelude.{OnOk}
use Rattle.codec.specs.Forms.{Form, ◌⊗◌, Appends}

pub both_behind : {A B : Type 0} (f : Form A) (g : Form B) (x : A) (y : B) (old mid new : List ℕ) → Appends f x old mid → Appends g y mid new → Appends (f ⊗ g) (x, y) old new
both_behind f g x y old mid new p q =
    ((p.0, q.0), q.1 ∙ ap (λ (u : List ℕ). u ++ g.write y) p.1 ∙ append_assoc old (f.write x) (g.write y))

pub of_same : {A : Type 0} (f : Form A) (x y : A) (old new : List ℕ) → x ≡ y → Appends f x old new → Appends f y old new
of_same {A = A} f x y old new same p =
    let P : A → Type 0 = λ z. Appends f z old new in
    subst P same p

pub at_last : {X E : Type 0} {P Q : Type 0} (r : Result X E) → (P → Q) → OnOk r P → OnOk r Q
at_last (Ok x) f h = f h
at_last (Err e) f h = tt
