use Rattle.std.proofs.Common.{◌∙◌}
use Rattle.std.specs.Prelude.{◌&&◌, nat_eq}
use Rattle.std.specs.Cmp.Lexicographic.{pointwise}
use Rattle.rows_sql.proofs.Parents.{same_parents}
use Rattle.rows_sql.proofs.reading.children.are_same.Goals as goal

pub returns : goal.returns
returns c =
    same_parents c.eq.result c.args.a.now c.args.b.now
    (c.eq.ensures ∙ (λ j. pointwise (λ p q. pointwise nat_eq p.0 q.0 && pointwise nat_eq p.1 q.1) (c.as_map.ensures j) (c.as_map-2.ensures j)))
