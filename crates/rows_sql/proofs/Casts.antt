-- What columns make of values of their own types, and what a text in one says.
use Rattle.std.proofs.Common.{◌≡◌, ℕ, ℤ, List, Bool, true, false, cond, Some, None, true≢false, refl, sym, ap, ◌∙◌}
use Rattle.sqlite_value.specs.declared.value.Value.{Value}
use Rattle.sqlite_value.specs.declared.value.Value.TheVariants.{Null, Int, Text}
use Rattle.sqlite_value.specs.Order.{bytes}
use Rattle.sqlite.specs.Ops.{unary}
use Rattle.sqlite.specs.Kind.TheVariants as kind
use Rattle.sqlite.specs.Cast.{cast}
use Rattle.sqlite.specs.Edit.{id_in}
use Rattle.names_cell.specs.Text.{is_component, is_name}
use Rattle.rows_sql.specs.Decode.{component_in, name_in}

either : (b : Bool) (x : Value) → cond b x x ≡ x
either true x = refl
either false x = refl

pub cast_null : cast kind.Integer Null ≡ Null
unfolding unary
cast_null = either _ Null

pub cast_int : (n : ℤ) → cast kind.Integer (Int n) ≡ Int n
unfolding unary
cast_int n = either _ (Int n)

pub int_stays : (v : Value) → v ≡ Int (id_in v) → cast kind.Integer v ≡ v
int_stays v is = ap (cast kind.Integer) is ∙ cast_int (id_in v) ∙ sym is

pub text_stays : (v : Value) → v ≡ Text (bytes v) → cast kind.Text v ≡ v
text_stays v is = ap (cast kind.Text) is ∙ sym is

-- ---- texts that say names

passed : (b : Bool) (t : List ℕ) → b ≡ true → cond b (Some t) None ≡ Some t
passed true t h = refl
passed false t h = absurd (true≢false (sym h))

pub component_reads : (t : List ℕ) → is_component t ≡ true → component_in (Text t) ≡ Some t
component_reads t h = passed (is_component t) t h

pub name_reads : (t : List ℕ) → is_name t ≡ true → name_in (Text t) ≡ Some t
name_reads t h = passed (is_name t) t h
