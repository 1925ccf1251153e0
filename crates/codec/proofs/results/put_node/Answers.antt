use Rattle.codec.specs.Forms.{◌⊗◌}
use Rattle.codec.specs.Fields.{word, block, component, kind, life}
use Rattle.codec.specs.Outs.{node}
use Rattle.codec.proofs.Appending.{both_behind, of_same, at_last}
use Rattle.codec.proofs.results.put_node.Goals as goal

pub returns : goal.returns
unfolding node
returns c =
    at_last c.put_block.result (λ last.
    both_behind kind (word ⊗ word ⊗ word ⊗ component ⊗ component ⊗ component ⊗ life ⊗ block) _ _ _ _ _ c.in_ok-put_kind.ensures
    (both_behind word (word ⊗ word ⊗ component ⊗ component ⊗ component ⊗ life ⊗ block) _ _ _ _ _ c.in_ok-put_word.ensures
    (both_behind word (word ⊗ component ⊗ component ⊗ component ⊗ life ⊗ block) _ _ _ _ _ c.in_ok-put_word-2.ensures
    (both_behind word (component ⊗ component ⊗ component ⊗ life ⊗ block) _ _ _ _ _ c.in_ok-put_word-3.ensures
    (both_behind component (component ⊗ component ⊗ life ⊗ block) _ _ _ _ _ c.in_ok-put_component.ensures
    (both_behind component (component ⊗ life ⊗ block) _ _ _ _ _ c.in_ok-put_component-2.ensures
    (both_behind component (life ⊗ block) _ _ _ _ _ c.in_ok-put_component-3.ensures
    (both_behind life block _ _ _ _ _ c.in_ok-put_life.ensures (of_same block _ _ _ _ c.as_slice.ensures last))))))))) c.put_block.ensures
