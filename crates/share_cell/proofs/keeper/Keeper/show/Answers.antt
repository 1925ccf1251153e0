use Rattle.std.proofs.Common.{rules, ◌≢◌, None, fold, length-append, ◌≡◌, ◌+◌, ◌<◌, [], ◌∷◌, ◌++◌, length, drop, refl, sym, ap, ◌∙◌, subst, arith, inr}
use Rattle.cache_core.specs.Changes.{applied_all}
use Rattle.left_right.specs.Sides.{view}
use Rattle.share_cell.specs.Owed.{newest, ops_of, AllPlaced}
use Rattle.share_cell.specs.Stepped.{stepped}
use Rattle.share_cell.proofs.Turning.{adds}
use Rattle.share_cell.proofs.Owing.{none_there, is_shown, up_to_date, shows_same, brought_up, place_after, newest_more}
use Rattle.share_cell.proofs.keeper.Keeper.show.Goals as goal

pub returns-then-not-has_pending_operations-clause-shown :
    goal.returns-then-not-has_pending_operations-clause-shown
returns-then-not-has_pending_operations-clause-shown g c =
    let k = c.args.self in let w = c.hand_over.new.writer in
    let pending = drop w.behind w.log.items in
    let none : pending ≡ [] = none_there pending (search rules) in
    let rest : c.hand_over.new.rest.items ≡ [] = search rules in
    let ops : ops_of pending ++ c.hand_over.new.rest.items ≡ [] = rw (none, rest) refl in
    let same = up_to_date k.writer.desk.shown.value.cache k.client.cache _ k.owed (sym c.hand_over.ensures.ops ∙ ops) in
    let known : view w.desk.place ≡ view k.writer.desk.place = ap (λ d. view d.place) c.hand_over.ensures.desk in
    (refl, refl, is_shown k.late _ _ _ (search rules) (shows_same (view k.writer.desk.place) _ _ _ (let n = k.counted in omega arith) k.last same known))

pub publish_as-writer-requires : goal.publish_as-writer-requires
publish_as-writer-requires g c next is =
    let k = c.args.self in let w = c.hand_over.new.writer in
    let desk = c.hand_over.ensures.desk in
    let pending = drop w.behind w.log.items in
    let some : 0 < length pending = search rules in
    let known : length (view w.desk.place) ≡ length (view k.writer.desk.place) = ap (λ d. length (view d.place)) desk in
    let place : w.desk.shown.value.place ≡ k.writer.desk.shown.value.place = ap (λ d. d.shown.value.place) desk in
    let after : next.place ≡ k.published + 1 = ap (λ s. s.place) is ∙ place_after (k.published + 1) w.desk.shown.value pending some c.hand_over.ensures.placed in
    let n = k.counted in
    adds w.desk.place.id (view w.desk.place) w.desk.shown.value next (omega arith) (omega arith)

pub invariant_of-keeper-in-Ok : goal.invariant_of-keeper-in-Ok
invariant_of-keeper-in-Ok g c =
    let k = c.args.self in let w = c.hand_over.new.writer in let p = c.publish_as-writer.result.0 in
    let pending = drop w.behind w.log.items in
    let told = rw c.in-Ok.is at c.publish_as-writer.ensures in
    let added : view p.desk.place ≡ view w.desk.place ++ p.desk.shown.value.cache ∷ [] = told.rule in
    let is : p.desk.shown.value ≡ fold stepped w.desk.shown.value pending = told.values.0 in
    let none : drop p.behind p.log.items ≡ [] = told.values.1 in
    let rest : c.hand_over.new.rest.items ≡ [] = search rules in
    let desk = c.hand_over.ensures.desk in
    let some : 0 < length pending = search rules in
    let known : length (view w.desk.place) ≡ length (view k.writer.desk.place) = ap (λ d. length (view d.place)) desk in
    let owed : applied_all w.desk.shown.value.cache (ops_of pending ++ c.hand_over.new.rest.items) ≡ k.client.cache =
    ap (λ d. applied_all d.shown.value.cache (ops_of pending ++ c.hand_over.new.rest.items)) desk ∙ ap (applied_all k.writer.desk.shown.value.cache) c.hand_over.ensures.ops ∙ k.owed in
    let same = brought_up w.desk.shown.value p.desk.shown.value pending c.hand_over.new.rest.items k.client.cache owed rest is in
    record {
      counted = (
        (let n = k.counted in let l = ap length added in let m = length-append (view w.desk.place) (p.desk.shown.value.cache ∷ []) in omega arith),
        ap (λ s. s.place) is ∙ place_after (k.published + 1) w.desk.shown.value pending some c.hand_over.ensures.placed,
        omega arith,
      );
      last = ap newest added ∙ newest_more (view w.desk.place) p.desk.shown.value.cache;
      owed = ap (λ l. applied_all p.desk.shown.value.cache (ops_of l ++ c.hand_over.new.rest.items)) none ∙ ap (applied_all p.desk.shown.value.cache) rest ∙ same;
      placed = λ i d in_range. absurd (let l = ap length none in omega arith);
      room = λ late. absurd (late refl);
      on_time = λ _. (ap length none, ap length rest);
    }

pub invariant_of-keeper-in-Err-done : goal.invariant_of-keeper-in-Err-done
invariant_of-keeper-in-Err-done g c =
    let k = c.args.self in let w = c.hand_over.new.writer in let p = c.publish_as-writer.result.0 in
    let pending = drop w.behind w.log.items in let rest = c.hand_over.new.rest.items in
    let told = rw c.in-Err-done.is at c.publish_as-writer.ensures in
    let shown : p.desk.shown.value ≡ w.desk.shown.value = told.values.0 in
    let same : drop p.behind p.log.items ≡ pending = told.values.1 in
    let desk = c.hand_over.ensures.desk in
    let seen : view p.desk.place ≡ view k.writer.desk.place = told.rule ∙ ap (λ d. view d.place) desk in
    let side : p.desk.shown.value ≡ k.writer.desk.shown.value = shown ∙ ap (λ d. d.shown.value) desk in
    let is_late : k.late ≢ None = search rules in
    record {
      counted = (k.counted.0 ∙ ap length (sym seen), ap (λ s. s.place) side ∙ k.counted.1, k.counted.2);
      last = ap newest seen ∙ k.last ∙ ap (λ s. s.cache) (sym side);
      owed = ap (λ l. applied_all p.desk.shown.value.cache (ops_of l ++ rest)) same ∙ ap (λ s. applied_all s.cache (ops_of pending ++ rest)) side
          ∙ ap (applied_all k.writer.desk.shown.value.cache) c.hand_over.ensures.ops ∙ k.owed;
      placed = subst (AllPlaced (k.published + 1)) (sym same) c.hand_over.ensures.placed;
      room = k.room;
      on_time = λ none. absurd (is_late none);
    }

pub overflow_add-keeper : goal.overflow_add-keeper
overflow_add-keeper g c =
    let k = c.args.self in
    let is_late : k.late ≢ None = search rules in
    let bound = k.room is_late in
    omega (arith, bound)

pub returns-in-Ok-clause-shown : goal.returns-in-Ok-clause-shown
returns-in-Ok-clause-shown g c =
    let k = c.args.self in let w = c.hand_over.new.writer in let p = c.publish_as-writer.result.0 in
    let pending = drop w.behind w.log.items in
    let told = rw c.in-Ok.is at c.publish_as-writer.ensures in
    let added : view p.desk.place ≡ view w.desk.place ++ p.desk.shown.value.cache ∷ [] = told.rule in
    let is : p.desk.shown.value ≡ fold stepped w.desk.shown.value pending = told.values.0 in
    let rest : c.hand_over.new.rest.items ≡ [] = search rules in
    let desk = c.hand_over.ensures.desk in
    let known : view w.desk.place ≡ view k.writer.desk.place = ap (λ d. view d.place) desk in
    let owed : applied_all w.desk.shown.value.cache (ops_of pending ++ c.hand_over.new.rest.items) ≡ k.client.cache =
    ap (λ d. applied_all d.shown.value.cache (ops_of pending ++ c.hand_over.new.rest.items)) desk ∙ ap (applied_all k.writer.desk.shown.value.cache) c.hand_over.ensures.ops ∙ k.owed in
    let same : p.desk.shown.value.cache ≡ k.client.cache = brought_up w.desk.shown.value p.desk.shown.value pending c.hand_over.new.rest.items k.client.cache owed rest is in
    let one_more : view p.desk.place ≡ view k.writer.desk.place ++ k.client.cache ∷ [] =
    added ∙ ap (λ v. v ++ p.desk.shown.value.cache ∷ []) known ∙ ap (λ x. view k.writer.desk.place ++ x ∷ []) same in
    (refl, refl, is_shown k.late _ _ _ (search rules) ((view k.writer.desk.place, one_more), inr one_more))
