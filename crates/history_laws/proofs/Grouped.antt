-- The frames of a group, as deeds.
use Rattle.std.proofs.Common.{◌≡◌, ℕ, ◌≤◌, List, [], ◌∷◌, ◌++◌, map, Option, refl, sym, ap, ◌∙◌, subst, arith, append_assoc}
use Rattle.node_core.specs.declared.lines.Line.{Line}
use Rattle.rows_cell.specs.Stores.{Store, IsCommitted}
use Rattle.tags_cell.specs.declared.messages.outs.Out.{Out}
use Rattle.world_steps.specs.declared.mail.Message.TheVariants.{ToClient}
use Rattle.hosting.specs.declared.pieces.GroupLimits.{GroupLimits}
use Rattle.hosting.specs.Seats.{Hosted}
use Rattle.hosting.specs.Streams.{Answer, Turns}
use Rattle.hosting.specs.Groups.{KeptGroup}
use Rattle.hosting.specs.Pieces.{joined}
use Rattle.hosting.specs.Held.{store_behind}
use Rattle.hosting.proofs.Doubts.{turns_grow}
use Rattle.hosting.proofs.PieceLaws.{each_committed}
use Rattle.history_laws.specs.Parts.{Parts}
use Rattle.history_laws.specs.Histories.{Clocks, Entry, History}
use Rattle.history_laws.specs.Hosted.{IsHostedIn, answers_lines, answers_outs, reply_lines, reply_outs, ComeAt, AreAtClocks, at_moment, behind_frame, GroupsAreDeeds}
use Rattle.history_laws.proofs.Hosted.{told_more, history_append, as_same, same_behind, stays_in, frames_are}

abbrev Known : Type 0
Known = Option (List ℕ)

pub none_before : (a b : ℕ) → a ≤ b → b ≡ 0 → a ≡ 0
none_before a b h k = omega (arith, h, k)

-- the frames are deeds, and lead there
abbrev pub AreDeedsOf : Parts → List Clocks → List Answer → Hosted → Type 0
AreDeedsOf p clocks answers new =
    ((entries : List Entry) × AreAtClocks clocks entries × History p entries (answers_lines answers) (behind_frame p new (answers_outs answers))) × IsHostedIn (behind_frame p new (answers_outs answers)) new

-- after the messages of one frame those of others
behind_again : (p : Parts) (mid new : Hosted) (a b : List Out) → behind_frame (behind_frame p mid a) new b ≡ behind_frame p new (a ++ b)
behind_again p mid new a b = ap (λ told. record p { rows = new.store.rows; master = new.master; told = told }) (told_more p.told a b)

pub turns_are : (p : Parts) (clocks : List Clocks) (text : Known) (old : Hosted) (answers : List Answer) (new : Hosted) (rest : Known) (turns : Turns p.terms text old answers new rest)
    → IsHostedIn p old → new.store.doubt ≡ 0 → ComeAt p clocks p.terms text old answers new rest turns → AreDeedsOf p clocks answers new
turns_are p clocks text old [] new rest turns in_it sure none =
    let T : Hosted → Type 0 = λ h. behind_frame p h [] ≡ p in
    let C : List Clocks → Type 0 = λ cs. AreAtClocks cs [] in
    (([], subst C (sym none) refl, (refl, subst T (sym turns.0) (same_behind p old in_it.master in_it.rows))), stays_in p old new [] in_it (as_same old.store new.store (ap (λ (h : Hosted). h.store) turns.0)))
turns_are p [] text old (answer ∷ answers) new rest turns in_it sure none = absurd none
turns_are p (now ∷ clocks) text old (answer ∷ answers) new rest turns in_it sure come =
    let mid : Hosted = turns.0 in
    let outs : List Out = reply_outs answer.reply in
    let here : Parts = behind_frame p mid outs in
    let early : mid.store.doubt ≡ 0 = none_before mid.store.doubt new.store.doubt (turns_grow p.terms turns.1 mid answers new rest turns.3) sure in
    let first = frames_are p now turns.2.done.sent old mid answer.reply in_it come.0 come.1 early turns.2.done.does in
    let later : AreDeedsOf here clocks answers new = turns_are here clocks turns.1 mid answers new rest turns.3 first.1 sure come.2 in
    let P : Parts → Type 0 = λ q. History p (at_moment now first.0.0 ++ later.0.0) (reply_lines answer.reply ++ answers_lines answers) q in
    let Q : Parts → Type 0 = λ q. IsHostedIn q new in
    let same = behind_again p mid new outs (answers_outs answers) in (
      (
        at_moment now first.0.0 ++ later.0.0,
        (first.0.0, later.0.0, refl, later.0.1),
        subst P same (history_append p here (behind_frame here new (answers_outs answers)) (at_moment now first.0.0) later.0.0 (reply_lines answer.reply) (answers_lines answers) first.0.1 later.0.2),
      ),
      subst Q same later.1,
    )

-- a group is committed whole: what it left is what its last frame left
module _ (p : Parts) (done new : Hosted) (answers : List Answer) (clocks : List Clocks) (rows : new.store.rows ≡ done.store.rows) (cell : new.store.cell ≡ done.store.cell) (master : new.master ≡ done.master) where
  same_parts : behind_frame p done (answers_outs answers) ≡ behind_frame p new (answers_outs answers)
  same_parts =
      ap (λ rs. record p { rows = rs; master = done.master; told = p.told ++ map ToClient (answers_outs answers) }) (sym rows)
      ∙ ap (λ m. record p { rows = new.store.rows; master = m; told = p.told ++ map ToClient (answers_outs answers) }) (sym master)

  as_committed : AreDeedsOf p clocks answers done → AreDeedsOf p clocks answers new
  as_committed d =
      let P : Parts → Type 0 = λ q. History p d.0.0 (answers_lines answers) q in
      ((d.0.0, d.0.1, subst P same_parts d.0.2), record { master = refl; rows = refl; cell = d.1.cell ∙ sym cell })

pub groups_are : GroupsAreDeeds
groups_are p clocks limits text old answers new rest group in_it come sure =
    let all : IsCommitted (joined group.pieces) old.store new.store = each_committed group.pieces old.store new.store group.committed in
    let first : old.store.doubt ≡ 0 = none_before old.store.doubt new.store.doubt all.doubted sure in
    let early : group.done.store.doubt ≡ 0 = ap (λ (s : Store). s.doubt) group.held ∙ first in
    as_committed p group.done new answers clocks (all.rows ∙ sym (ap (λ (s : Store). s.rows) group.held)) (all.cell ∙ sym (ap (λ (s : Store). s.cell) group.held)) group.master
    (turns_are p clocks text old answers group.done rest group.turns in_it early come)
