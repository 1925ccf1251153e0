use Rattle.std.proofs.Common.{codes}
use Rattle.scripts.proofs.Decimals.{alike, unlike}
use Rattle.scripts.proofs.Lifts.{after_two}
use Rattle.scripts.proofs.Cuts.{file_node, other_node}
use Rattle.scripts.proofs.steps.node_length.Goals as goal

pub returns-then-eq : goal.returns-then-eq
returns-then-eq c =
    file_node _ _ _ _ _ (after_two c.args.words.now c.in-len2-up.len_at_least) (alike _ (codes "file") c.eq.result c.eq.ensures c.if-eq.true) c.file_length.ensures

pub returns : goal.returns
returns c =
    other_node _ _ _ _ _ (after_two c.args.words.now c.in-len2-up.len_at_least) (unlike _ (codes "file") c.eq.result c.eq.ensures c.if-eq.false) c.acls_length.ensures
