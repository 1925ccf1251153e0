use Rattle.codec.specs.Forms.{◌⊗◌}
use Rattle.codec.specs.Fields.{word, component, kind, life}
use Rattle.codec.specs.Outs.{stat}
use Rattle.codec.proofs.Appending.{both_behind, at_last}
use Rattle.codec.proofs.results.put_stat.Goals as goal

pub returns : goal.returns
unfolding stat
returns c =
    at_last c.put_word-5.result (λ last.
    both_behind kind (word ⊗ word ⊗ word ⊗ word ⊗ component ⊗ component ⊗ component ⊗ life ⊗ word) _ _ _ _ _ c.in_ok-put_kind.ensures
    (both_behind word (word ⊗ word ⊗ word ⊗ component ⊗ component ⊗ component ⊗ life ⊗ word) _ _ _ _ _ c.in_ok-put_word.ensures
    (both_behind word (word ⊗ word ⊗ component ⊗ component ⊗ component ⊗ life ⊗ word) _ _ _ _ _ c.in_ok-put_word-2.ensures
    (both_behind word (word ⊗ component ⊗ component ⊗ component ⊗ life ⊗ word) _ _ _ _ _ c.in_ok-put_word-3.ensures
    (both_behind word (component ⊗ component ⊗ component ⊗ life ⊗ word) _ _ _ _ _ c.in_ok-put_word-4.ensures
    (both_behind component (component ⊗ component ⊗ life ⊗ word) _ _ _ _ _ c.in_ok-put_component.ensures
    (both_behind component (component ⊗ life ⊗ word) _ _ _ _ _ c.in_ok-put_component-2.ensures
    (both_behind component (life ⊗ word) _ _ _ _ _ c.in_ok-put_component-3.ensures
    (both_behind life word _ _ _ _ _ c.in_ok-put_life.ensures last))))))))) c.put_word-5.ensures
