-- The whole test of rows, in the order in which it is made.
use Rattle.std.proofs.Common.{◌≡◌, ℕ, List, ◌∷◌, Bool, true, false, refl, sym, ap, ◌∙◌}
use Rattle.std.specs.Prelude.{◌&&◌}
use Rattle.std.specs.List.{list_all}
use Rattle.std.specs.Str.{bytes_eq}
use Rattle.names_cell.specs.Text.{root_of}
use Rattle.rows_cell.specs.declared.tables.Rows.{Rows}
use Rattle.rows_cell.specs.Sound.{sound, is_number, is_directory_at, node_fits, lock_fits}
use Rattle.rows_cell.specs.Indexes.{numbers_are_sound, are_apart}

reorder : (a b c r n d s l : Bool) → (a && b && c && (r && n && d) && s && l) ≡ (a && b && c && s && (r && (n && (d && l))))
reorder false b c r n d s l = refl
reorder true false c r n d s l = refl
reorder true true false r n d s l = refl
reorder true true true true true true s l = refl
reorder true true true false n d true l = refl
reorder true true true false n d false l = refl
reorder true true true true false d true l = refl
reorder true true true true false d false l = refl
reorder true true true true true false true l = refl
reorder true true true true true false false l = refl

pub in_order : (cell : List ℕ) (rows : Rows) → sound cell rows ≡ (numbers_are_sound cell rows && (is_directory_at rows.nodes (root_of cell) && (list_all (node_fits cell rows.next_instance rows.nodes) rows.nodes && (are_apart rows.nodes && list_all (lock_fits rows) rows.locks))))
in_order cell rows =
    reorder (bytes_eq rows.cell cell) (is_number rows.epoch) (is_number rows.next_instance) (is_directory_at rows.nodes (root_of cell)) (list_all (node_fits cell rows.next_instance rows.nodes) rows.nodes) (are_apart rows.nodes) (list_all (λ e. is_number e.0) rows.sessions) (list_all (lock_fits rows) rows.locks)

-- each that was passed does, so all do as those that are left
pub all_left : {X : Type 0} (test : X → Bool) (all left next : List X) (x : X) → list_all test left ≡ list_all test all → left ≡ x ∷ next → test x ≡ true → list_all test next ≡ list_all test all
all_left test all left next x h l e =
    let whole : (test x && list_all test next) ≡ list_all test all = ap (λ xs. list_all test xs) (sym l) ∙ h in
    ap (λ b. b && list_all test next) (sym e) ∙ whole

pub all_stop : {X : Type 0} (test : X → Bool) (all left next : List X) (x : X) → list_all test left ≡ list_all test all → left ≡ x ∷ next → test x ≡ false → false ≡ list_all test all
all_stop test all left next x h l e =
    let whole : (test x && list_all test next) ≡ list_all test all = ap (λ xs. list_all test xs) (sym l) ∙ h in
    ap (λ b. b && list_all test next) (sym e) ∙ whole
