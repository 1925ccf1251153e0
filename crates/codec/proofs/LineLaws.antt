-- Lines are read as they were written.
use Rattle.std.proofs.Common.{◌≡◌, ℕ, List, [], ◌∷◌, ◌++◌, Option, Result, Ok, refl}
use Rattle.node_core.specs.declared.views.View.{View}
use Rattle.node_core.specs.declared.views.Mod.{Mod}
use Rattle.node_core.specs.declared.views.Mod.TheVariants as mods
use Rattle.node_core.specs.declared.answers.Answer.{Answer}
use Rattle.node_core.specs.declared.answers.Answer.TheVariants as answers
use Rattle.node_core.specs.declared.lines.Line.{Line}
use Rattle.node_core.specs.declared.lines.Line.TheVariants as lines
use Rattle.codec.specs.declared.faults.WireFault.{WireFault}
use Rattle.codec.specs.declared.kinds.ModKind.{ModKind}
use Rattle.codec.specs.declared.kinds.ModKind.TheVariants as mod_of
use Rattle.codec.specs.declared.kinds.AnswerKind.{AnswerKind}
use Rattle.codec.specs.declared.kinds.AnswerKind.TheVariants as answer_of
use Rattle.codec.specs.declared.kinds.LineKind.{LineKind}
use Rattle.codec.specs.declared.kinds.LineKind.TheVariants as of
use Rattle.codec.specs.Forms.{Form, nothing, ◌⊗◌, made, choice, of_kind, behind, optional, written, read_whole}
use Rattle.codec.specs.Fields.{word, block, name, lock_mode}
use Rattle.codec.specs.Faults.{fault}
use Rattle.codec.specs.Beats.{event}
use Rattle.codec.specs.Outs.{node, stat, components}
use Rattle.codec.specs.Lines.{put_fields, all_mods, mod_place, mod_kind, mod_is, mod_bytes, mod_behind, change, seen, optional_seen, all_answers, answer_place, answer_kind, answer_is, answer_bytes, answer_behind, answer, applied_fields, granted_fields, locked_fields, two_words, served_fields, done_fields, told_fields, all_lines, line_place, line_kind, line_is, line_bytes, line_behind, line}
use Rattle.codec.proofs.FormLaws.{IsBytes, IsShort, IsForm, TakesKind, nothing_form, pair_form, made_form, choice_form, of_kind_form, behind_takes, behind_again, optional_form, written_is_read, read_was_written}
use Rattle.codec.proofs.FieldLaws.{word_form, block_form, name_form, lock_mode_form}
use Rattle.codec.proofs.FaultLaws.{fault_form}
use Rattle.codec.proofs.BeatLaws.{event_form}
use Rattle.codec.proofs.OutLaws.{node_form, stat_form, components_form}

put_fields_form : IsForm put_fields
put_fields_form = pair_form name_form node_form

mod_any : (x : Mod) → (choice all_mods mod_place).is (mod_kind x)
mod_any (mods.Put at there) = refl
mod_any (mods.Gone at) = refl

mod_takes : (k : ModKind) (bytes : List ℕ) (x : Mod) (rest : List ℕ) → (choice all_mods mod_place).is k → IsBytes bytes → mod_behind k bytes ≡ Ok (x, rest)
    → TakesKind mod_kind mod_is mod_bytes k bytes x rest
mod_takes mod_of.Put bytes x rest placed fits e = behind_takes (λ x. mods.Put x.0 x.1) mod_of.Put put_fields_form (λ a. refl) (λ a h. h) (λ a. refl) bytes x rest fits e
mod_takes mod_of.Gone bytes x rest placed fits e = behind_takes mods.Gone mod_of.Gone name_form (λ a. refl) (λ a h. h) (λ a. refl) bytes x rest fits e

mod_again : (x : Mod) (rest : List ℕ) → mod_is x → IsShort (mod_bytes x) → mod_behind (mod_kind x) (mod_bytes x ++ rest) ≡ Ok (x, rest)
mod_again (mods.Put at there) rest holds short = behind_again (λ x. mods.Put x.0 x.1) put_fields_form (at, there) rest holds short
mod_again (mods.Gone at) rest holds short = behind_again mods.Gone name_form at rest holds short

pub change_form : IsForm change
unfolding change
change_form = of_kind_form mod_kind mod_is mod_bytes mod_behind (choice_form all_mods mod_place refl) mod_any mod_takes mod_again

pub seen_form : IsForm seen
unfolding seen
seen_form = made_form (λ x. record { node = x.0; children = x.1 }) (λ v. (v.node, v.children)) (λ a h. refl) (λ b. refl) (pair_form node_form components_form)

optional_seen_form : IsForm optional_seen
unfolding optional_seen
optional_seen_form = optional_form seen_form

answer_any : (x : Answer) → (choice all_answers answer_place).is (answer_kind x)
answer_any (answers.Opened handle) = refl
answer_any answers.Closed = refl
answer_any answers.Poisoned = refl
answer_any (answers.Viewed view) = refl
answer_any (answers.Stated told) = refl
answer_any (answers.Names names) = refl
answer_any (answers.Sequencer bytes) = refl
answer_any answers.Okay = refl
answer_any (answers.Refused why) = refl

answer_takes : (k : AnswerKind) (bytes : List ℕ) (x : Answer) (rest : List ℕ) → (choice all_answers answer_place).is k → IsBytes bytes → answer_behind k bytes ≡ Ok (x, rest)
    → TakesKind answer_kind answer_is answer_bytes k bytes x rest
answer_takes answer_of.Opened bytes x rest placed fits e = behind_takes answers.Opened answer_of.Opened word_form (λ a. refl) (λ a h. h) (λ a. refl) bytes x rest fits e
answer_takes answer_of.Closed bytes x rest placed fits e = behind_takes (λ _. answers.Closed) answer_of.Closed nothing_form (λ a. refl) (λ a h. h) (λ a. refl) bytes x rest fits e
answer_takes answer_of.Poisoned bytes x rest placed fits e = behind_takes (λ _. answers.Poisoned) answer_of.Poisoned nothing_form (λ a. refl) (λ a h. h) (λ a. refl) bytes x rest fits e
answer_takes answer_of.Viewed bytes x rest placed fits e = behind_takes answers.Viewed answer_of.Viewed seen_form (λ a. refl) (λ a h. h) (λ a. refl) bytes x rest fits e
answer_takes answer_of.Stated bytes x rest placed fits e = behind_takes answers.Stated answer_of.Stated stat_form (λ a. refl) (λ a h. h) (λ a. refl) bytes x rest fits e
answer_takes answer_of.Names bytes x rest placed fits e = behind_takes answers.Names answer_of.Names components_form (λ a. refl) (λ a h. h) (λ a. refl) bytes x rest fits e
answer_takes answer_of.Sequencer bytes x rest placed fits e = behind_takes answers.Sequencer answer_of.Sequencer block_form (λ a. refl) (λ a h. h) (λ a. refl) bytes x rest fits e
answer_takes answer_of.Okay bytes x rest placed fits e = behind_takes (λ _. answers.Okay) answer_of.Okay nothing_form (λ a. refl) (λ a h. h) (λ a. refl) bytes x rest fits e
answer_takes answer_of.Refused bytes x rest placed fits e = behind_takes answers.Refused answer_of.Refused fault_form (λ a. refl) (λ a h. h) (λ a. refl) bytes x rest fits e

answer_again : (x : Answer) (rest : List ℕ) → answer_is x → IsShort (answer_bytes x) → answer_behind (answer_kind x) (answer_bytes x ++ rest) ≡ Ok (x, rest)
answer_again (answers.Opened handle) rest holds short = behind_again answers.Opened word_form handle rest holds short
answer_again answers.Closed rest holds short = behind_again (λ _. answers.Closed) nothing_form tt rest holds short
answer_again answers.Poisoned rest holds short = behind_again (λ _. answers.Poisoned) nothing_form tt rest holds short
answer_again (answers.Viewed view) rest holds short = behind_again answers.Viewed seen_form view rest holds short
answer_again (answers.Stated told) rest holds short = behind_again answers.Stated stat_form told rest holds short
answer_again (answers.Names names) rest holds short = behind_again answers.Names components_form names rest holds short
answer_again (answers.Sequencer bytes) rest holds short = behind_again answers.Sequencer block_form bytes rest holds short
answer_again answers.Okay rest holds short = behind_again (λ _. answers.Okay) nothing_form tt rest holds short
answer_again (answers.Refused why) rest holds short = behind_again answers.Refused fault_form why rest holds short

pub answer_form : IsForm answer
unfolding answer
answer_form = of_kind_form answer_kind answer_is answer_bytes answer_behind (choice_form all_answers answer_place refl) answer_any answer_takes answer_again

applied_fields_form : IsForm applied_fields
applied_fields_form = pair_form word_form (pair_form word_form (pair_form change_form components_form))

granted_fields_form : IsForm granted_fields
granted_fields_form = pair_form word_form (pair_form word_form name_form)

locked_fields_form : IsForm locked_fields
locked_fields_form = pair_form word_form (pair_form word_form (pair_form lock_mode_form word_form))

two_words_form : IsForm two_words
two_words_form = pair_form word_form word_form

served_fields_form : IsForm served_fields
served_fields_form = pair_form word_form (pair_form name_form optional_seen_form)

done_fields_form : IsForm done_fields
done_fields_form = pair_form word_form (pair_form word_form answer_form)

told_fields_form : IsForm told_fields
told_fields_form = pair_form word_form event_form

line_any : (x : Line) → (choice all_lines line_place).is (line_kind x)
line_any (lines.Up epoch) = refl
line_any lines.Down = refl
line_any lines.Recovered = refl
line_any (lines.Started client) = refl
line_any (lines.Ended client) = refl
line_any (lines.Applied client call made names) = refl
line_any (lines.Granted right client at) = refl
line_any (lines.Acked right) = refl
line_any (lines.Expired right) = refl
line_any (lines.Locked client instance mode generation) = refl
line_any (lines.Freed client instance) = refl
line_any (lines.Lapsed client instance) = refl
line_any (lines.Reopened instance) = refl
line_any (lines.Served client at view) = refl
line_any (lines.Done client call end) = refl
line_any (lines.Told client happened) = refl
line_any (lines.Jeopardy client) = refl
line_any (lines.Safe client) = refl
line_any (lines.Lost client) = refl
line_any (lines.Refused why) = refl

line_takes : (k : LineKind) (bytes : List ℕ) (x : Line) (rest : List ℕ) → (choice all_lines line_place).is k → IsBytes bytes → line_behind k bytes ≡ Ok (x, rest)
    → TakesKind line_kind line_is line_bytes k bytes x rest
line_takes of.Up bytes x rest placed fits e = behind_takes lines.Up of.Up word_form (λ a. refl) (λ a h. h) (λ a. refl) bytes x rest fits e
line_takes of.Down bytes x rest placed fits e = behind_takes (λ _. lines.Down) of.Down nothing_form (λ a. refl) (λ a h. h) (λ a. refl) bytes x rest fits e
line_takes of.Recovered bytes x rest placed fits e = behind_takes (λ _. lines.Recovered) of.Recovered nothing_form (λ a. refl) (λ a h. h) (λ a. refl) bytes x rest fits e
line_takes of.Started bytes x rest placed fits e = behind_takes lines.Started of.Started word_form (λ a. refl) (λ a h. h) (λ a. refl) bytes x rest fits e
line_takes of.Ended bytes x rest placed fits e = behind_takes lines.Ended of.Ended word_form (λ a. refl) (λ a h. h) (λ a. refl) bytes x rest fits e
line_takes of.Applied bytes x rest placed fits e = behind_takes (λ x. lines.Applied x.0 x.1.0 x.1.1.0 x.1.1.1) of.Applied applied_fields_form (λ a. refl) (λ a h. h) (λ a. refl) bytes x rest fits e
line_takes of.Granted bytes x rest placed fits e = behind_takes (λ x. lines.Granted x.0 x.1.0 x.1.1) of.Granted granted_fields_form (λ a. refl) (λ a h. h) (λ a. refl) bytes x rest fits e
line_takes of.Acked bytes x rest placed fits e = behind_takes lines.Acked of.Acked word_form (λ a. refl) (λ a h. h) (λ a. refl) bytes x rest fits e
line_takes of.Expired bytes x rest placed fits e = behind_takes lines.Expired of.Expired word_form (λ a. refl) (λ a h. h) (λ a. refl) bytes x rest fits e
line_takes of.Locked bytes x rest placed fits e = behind_takes (λ x. lines.Locked x.0 x.1.0 x.1.1.0 x.1.1.1) of.Locked locked_fields_form (λ a. refl) (λ a h. h) (λ a. refl) bytes x rest fits e
line_takes of.Freed bytes x rest placed fits e = behind_takes (λ x. lines.Freed x.0 x.1) of.Freed two_words_form (λ a. refl) (λ a h. h) (λ a. refl) bytes x rest fits e
line_takes of.Lapsed bytes x rest placed fits e = behind_takes (λ x. lines.Lapsed x.0 x.1) of.Lapsed two_words_form (λ a. refl) (λ a h. h) (λ a. refl) bytes x rest fits e
line_takes of.Reopened bytes x rest placed fits e = behind_takes lines.Reopened of.Reopened word_form (λ a. refl) (λ a h. h) (λ a. refl) bytes x rest fits e
line_takes of.Served bytes x rest placed fits e = behind_takes (λ x. lines.Served x.0 x.1.0 x.1.1) of.Served served_fields_form (λ a. refl) (λ a h. h) (λ a. refl) bytes x rest fits e
line_takes of.Done bytes x rest placed fits e = behind_takes (λ x. lines.Done x.0 x.1.0 x.1.1) of.Done done_fields_form (λ a. refl) (λ a h. h) (λ a. refl) bytes x rest fits e
line_takes of.Told bytes x rest placed fits e = behind_takes (λ x. lines.Told x.0 x.1) of.Told told_fields_form (λ a. refl) (λ a h. h) (λ a. refl) bytes x rest fits e
line_takes of.Jeopardy bytes x rest placed fits e = behind_takes lines.Jeopardy of.Jeopardy word_form (λ a. refl) (λ a h. h) (λ a. refl) bytes x rest fits e
line_takes of.Safe bytes x rest placed fits e = behind_takes lines.Safe of.Safe word_form (λ a. refl) (λ a h. h) (λ a. refl) bytes x rest fits e
line_takes of.Lost bytes x rest placed fits e = behind_takes lines.Lost of.Lost word_form (λ a. refl) (λ a h. h) (λ a. refl) bytes x rest fits e
line_takes of.Refused bytes x rest placed fits e = behind_takes lines.Refused of.Refused fault_form (λ a. refl) (λ a h. h) (λ a. refl) bytes x rest fits e

line_again : (x : Line) (rest : List ℕ) → line_is x → IsShort (line_bytes x) → line_behind (line_kind x) (line_bytes x ++ rest) ≡ Ok (x, rest)
line_again (lines.Up epoch) rest holds short = behind_again lines.Up word_form epoch rest holds short
line_again lines.Down rest holds short = behind_again (λ _. lines.Down) nothing_form tt rest holds short
line_again lines.Recovered rest holds short = behind_again (λ _. lines.Recovered) nothing_form tt rest holds short
line_again (lines.Started client) rest holds short = behind_again lines.Started word_form client rest holds short
line_again (lines.Ended client) rest holds short = behind_again lines.Ended word_form client rest holds short
line_again (lines.Applied client call made names) rest holds short = behind_again (λ x. lines.Applied x.0 x.1.0 x.1.1.0 x.1.1.1) applied_fields_form (client, (call, (made, names))) rest holds short
line_again (lines.Granted right client at) rest holds short = behind_again (λ x. lines.Granted x.0 x.1.0 x.1.1) granted_fields_form (right, (client, at)) rest holds short
line_again (lines.Acked right) rest holds short = behind_again lines.Acked word_form right rest holds short
line_again (lines.Expired right) rest holds short = behind_again lines.Expired word_form right rest holds short
line_again (lines.Locked client instance mode generation) rest holds short = behind_again (λ x. lines.Locked x.0 x.1.0 x.1.1.0 x.1.1.1) locked_fields_form (client, (instance, (mode, generation))) rest holds short
line_again (lines.Freed client instance) rest holds short = behind_again (λ x. lines.Freed x.0 x.1) two_words_form (client, instance) rest holds short
line_again (lines.Lapsed client instance) rest holds short = behind_again (λ x. lines.Lapsed x.0 x.1) two_words_form (client, instance) rest holds short
line_again (lines.Reopened instance) rest holds short = behind_again lines.Reopened word_form instance rest holds short
line_again (lines.Served client at view) rest holds short = behind_again (λ x. lines.Served x.0 x.1.0 x.1.1) served_fields_form (client, (at, view)) rest holds short
line_again (lines.Done client call end) rest holds short = behind_again (λ x. lines.Done x.0 x.1.0 x.1.1) done_fields_form (client, (call, end)) rest holds short
line_again (lines.Told client happened) rest holds short = behind_again (λ x. lines.Told x.0 x.1) told_fields_form (client, happened) rest holds short
line_again (lines.Jeopardy client) rest holds short = behind_again lines.Jeopardy word_form client rest holds short
line_again (lines.Safe client) rest holds short = behind_again lines.Safe word_form client rest holds short
line_again (lines.Lost client) rest holds short = behind_again lines.Lost word_form client rest holds short
line_again (lines.Refused why) rest holds short = behind_again lines.Refused fault_form why rest holds short

pub line_form : IsForm line
unfolding line
line_form = of_kind_form line_kind line_is line_bytes line_behind (choice_form all_lines line_place refl) line_any line_takes line_again

pub written_line_is_read : (x : Line) (bytes : List ℕ) → line.is x → written line x ≡ Ok bytes → read_whole line bytes ≡ Ok x
written_line_is_read x bytes holds e = written_is_read line_form x bytes holds e

pub read_line_was_written : (bytes : List ℕ) (x : Line) → IsBytes bytes → read_whole line bytes ≡ Ok x → line.is x × (written line x ≡ Ok bytes)
read_line_was_written bytes x fits e = read_was_written line_form bytes x fits e
