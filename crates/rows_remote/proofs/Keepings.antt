-- What a note adds to what stands, and what becomes of the store by it.
use Rattle.std.proofs.Common.{◌≡◌, ℕ, ◌+◌, ◌≤◌, Bool, true, false, cond, List, [], ◌∷◌, ◌++◌, Ok, refl, sym, ap, ◌∙◌, arith}
use Rattle.std.specs.List.{fold}
use Rattle.rows_cell.specs.declared.tables.Rows.{Rows}
use Rattle.rows_cell.specs.declared.tables.Edit.{Edit}
use Rattle.rows_cell.specs.Sound.{sound}
use Rattle.rows_cell.specs.Stores.{Store, Loads, IsUnread}
use Rattle.node_core.specs.declared.refusals.Fault.TheVariants as faults
use Rattle.rows_remote.specs.declared.records.KeeperHistory.{KeeperHistory}
use Rattle.rows_remote.specs.Keeping.{Stood, same_rows, doubt_of, noted, stood}
use Rattle.rows_remote.proofs.SameRows.{rows_same}

fold_last : (s : Stood) (past : List (KeeperHistory × List Edit)) (note : KeeperHistory) (edits : List Edit)
    → fold (λ s n. noted n.0 n.1 s) s (past ++ (note, edits) ∷ []) ≡ noted note edits (fold (λ s n. noted n.0 n.1 s) s past)
fold_last s [] note edits = refl
fold_last s (n ∷ past) note edits = fold_last (noted n.0 n.1 s) past note edits

pub stood_last : (past : List (KeeperHistory × List Edit)) (note : KeeperHistory) (edits : List Edit) → stood (past ++ (note, edits) ∷ []) ≡ noted note edits (stood past)
stood_last past note edits = fold_last _ past note edits

-- where nothing is in doubt after them, the rows that are told are those that stood
one_apart : (b : Bool) (n : ℕ) → n + cond b 0 1 ≡ 0 → (b ≡ true) × (n ≡ 0)
one_apart true n h = (refl, omega (arith, h))
one_apart false n h = absurd (omega (arith, h))

pub none_doubted : (n : ℕ) (stands told : Rows) → n + doubt_of stands told ≡ 0 → (stands ≡ told) × (n ≡ 0)
none_doubted n stands told h =
    let p = one_apart (same_rows stands told) n h in
    (rows_same stands told p.0, p.1)

-- the store, its cell and its count of refusals as they were
abbrev pub at : List ℕ → Rows → List Rows → ℕ → ℕ → Store
at cell rows left count doubt = record { cell = cell; rows = rows; may_leave = left; refusals = count; doubt = doubt }

same_store : (cell : List ℕ) (rows told : Rows) (left : List Rows) (count doubt : ℕ) → doubt + doubt_of rows told ≡ 0
    → at cell told left count (doubt + doubt_of rows told) ≡ at cell rows left count doubt
same_store cell rows told left count doubt none =
    let p = none_doubted doubt rows told none in
    let n : doubt + doubt_of rows told ≡ doubt = none ∙ sym p.1 in
    ap (λ z. at cell told left count z) n ∙ ap (λ z. at cell z left count doubt) (sym p.0)

pub loads_read : (cell : List ℕ) (rows told : Rows) (left : List Rows) (count doubt : ℕ) → sound cell told ≡ true
    → Loads (at cell rows left count doubt) (at cell told left count (doubt + doubt_of rows told)) (Ok told)
loads_read cell rows told left count doubt is =
    (refl, is, record { cell = refl; counted = refl; doubted = omega arith; same = λ none. same_store cell rows told left count doubt none })

pub loads_damaged : (cell : List ℕ) (rows told : Rows) (left : List Rows) (count doubt : ℕ) → sound cell told ≡ false
    → IsUnread faults.StoreDamaged (at cell rows left count doubt) (at cell rows left count (doubt + doubt_of rows told))
loads_damaged cell rows told left count doubt un =
    record {
      cell = refl;
      rows = refl;
      leave = refl;
      doubted = omega arith;
      why = (λ none. ap (λ z. sound cell z) (none_doubted doubt rows told none).0 ∙ un, refl);
    }
