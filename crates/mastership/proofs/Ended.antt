-- A commit that its keeper has ended.
use Rattle.std.proofs.Common.{◌≡◌, ℕ, ◌+◌, ◌-◌, ◌<◌, List, ◌∷◌, sym, ◌∙◌, refl, arith}
use Rattle.mastership.specs.Register.{Transaction, Write, IsHistory}
use Rattle.mastership.specs.Keepers.{commit, ending, Tells, Settles}
use Rattle.mastership.proofs.Histories.{same_over, same_turn, off_for_good}

isnt_commit : (keeper turn over : ℕ) (done : Transaction) → done ≡ ending keeper turn over → done ≡ commit keeper turn over → ⊥
isnt_commit keeper turn over done e f =
    let one : done.turn ≡ turn + 1 = same_turn done (ending keeper turn over) e in
    let other : done.turn ≡ turn = same_turn done (commit keeper turn over) f in
    omega arith

not_before : (keeper turn over : ℕ) (last : Write) → last.done ≡ ending keeper turn over → last.done.over < last.made → last.made ≡ over → ⊥
not_before keeper turn over last e rises at =
    let same : last.done.over ≡ over = same_over last.done (ending keeper turn over) e in omega arith

tells_ended :
    (keeper turn over : ℕ) (last : Write) (before : List Write) →
    IsHistory (last ∷ before) →
    last.done ≡ ending keeper turn over →
    Tells (commit keeper turn over) (ending keeper turn over) last (last ∷ before) 2
tells_ended keeper turn over last before h e = record {
  standing = (λ told. absurd (omega arith), λ f. absurd (isnt_commit keeper turn over last.done e f));
  off = record {
    exact = (λ told. e, λ f. refl);
    for_good = λ told later h' k.
        off_for_good (commit keeper turn over) later last before h'
        (sym (same_over last.done (ending keeper turn over) e))
        (isnt_commit keeper turn over last.done e) k;
  };
  open_still = (λ told. absurd (omega arith), λ at. absurd (not_before keeper turn over last e h.1 at));
  over = record { exact = (λ told. absurd (omega arith), λ f. absurd (f.1 e)) };
}

next : (read_turn turn : ℕ) → turn < read_turn → read_turn - turn ≡ 1 → read_turn ≡ turn + 1
next read_turn turn more one = omega arith

pub settles_ended :
    (keeper turn over read_keeper read_turn read_revision : ℕ) →
    read_keeper ≡ keeper →
    turn < read_turn →
    read_turn - turn ≡ 1 →
    Settles keeper turn over read_keeper read_turn read_revision 2
settles_ended keeper turn over read_keeper read_turn read_revision same more one last before h k t m named named_end =
    tells_ended keeper turn over last before h (named_end (k ∙ same) (t ∙ next read_turn turn more one))
