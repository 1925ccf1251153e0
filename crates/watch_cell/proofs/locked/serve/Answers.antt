use Rattle.std.proofs.Common.{◌≡◌, ◌<◌, ◌+◌, [], ◌∷◌, ◌++◌, length, Ok, sym, ap, ◌∙◌, rules, arith, length-append}
use Rattle.std.specs.Prelude.{count_by}
use Rattle.rights_core.specs.Grants.{is_granted_line, is_acked_line, is_expired_line}
use Rattle.watch_cell.specs.Trail.{entry, step_of}
use Rattle.over_core.specs.declared.swept.Swept.{Swept}
use Rattle.watch_cell.specs.Views.{watched, Ticket}
use Rattle.watch_cell.proofs.Calls.{told_after}
use Rattle.watch_cell.proofs.Replay.{kept_after}
use Rattle.watch_cell.proofs.locked.serve.Goals as goal

pub invariant_of-locked-2 : goal.invariant_of-locked-2
invariant_of-locked-2 g c =
    let l = c.locked.inside in
    let done = c.in_ok-done.done in
    let r = done.first in
    let e = c.all-event.result.0 in
    let room : length l.trail.items < 1000000 = search rules in
    let stepped = ap (step_of (watched l.cell)) (c.all-event.ensures.first ∙ c.in_ok-done.ensures.same) ∙ c.in_ok-done.ensures.ok in (
      kept_after g.O.Opening.opening (watched l.cell) (watched c.made.new.cell) l.trail.items c.push_reserved-2.new.self.items e r l.books.issued.total l.books.acknowledged.total l.books.expired.total l.books.calls.total c.add.new.self.total c.add-2.new.self.total c.add-3.new.self.total c.add-4.new.self.total c.locked.invariant.0 room
          stepped
          c.in_ok-done.ensures.tells
          (c.push_reserved-2.ensures.items ∙ ap (λ w. w ++ entry e r ∷ []) c.in_ok-done.ensures.items.0)
          (c.add.ensures.total ∙ ap (λ n. l.books.issued.total + n) (c.count_granted.ensures ∙ ap (count_by is_granted_line) c.as_slice-lines.ensures))
          (c.add-2.ensures.total ∙ ap (λ n. l.books.acknowledged.total + n) (c.count_acked.ensures ∙ ap (count_by is_acked_line) c.as_slice-lines.ensures))
          (c.add-3.ensures.total ∙ ap (λ n. l.books.expired.total + n) (c.count_expired.ensures ∙ ap (count_by is_expired_line) c.as_slice-lines.ensures))
          c.add-4.ensures.total,
      c.locked.invariant.1,
      c.locked.invariant.2,
      c.locked.invariant.3,
      c.locked.invariant.4,
      c.locked.invariant.5,
      c.locked.invariant.6,
    )

pub invariant_of-pass-2 : goal.invariant_of-pass-2
invariant_of-pass-2 g c =
    let ts = c.pass.inside.receipts.items in
    let is = c.pass.invariant in
    let done = c.in_ok-done.done in
    let t : Ticket = record { place = c.len-place.result; event = c.all-event.result.1; reply = done.second } in
    let more : c.push_reserved.new.self.items ≡ ts ++ t ∷ [] = c.push_reserved.ensures.items ∙ ap (λ w. w ++ t ∷ []) c.in_ok-done.ensures.items.1 in
    let same : done.first.lines ≡ done.second.lines = ap (λ (s : Swept). s.lines) (sym c.in_ok-done.ensures.copies.0) in (
      c.add.ensures.parts ∙ is.0,
      c.add-2.ensures.parts ∙ is.1,
      c.add-3.ensures.parts ∙ is.2,
      c.add-4.ensures.parts ∙ is.3,
      omega (arith, c.add-4.ensures.amount, is.4, ap length more, length-append ts (t ∷ [])),
      told_after is_granted_line ts c.push_reserved.new.self.items t done.first.lines _ _ _ is.5 c.add.ensures.amount (c.count_granted.ensures ∙ ap (count_by is_granted_line) c.as_slice-lines.ensures) same more,
      told_after is_acked_line ts c.push_reserved.new.self.items t done.first.lines _ _ _ is.6 c.add-2.ensures.amount (c.count_acked.ensures ∙ ap (count_by is_acked_line) c.as_slice-lines.ensures) same more,
      told_after is_expired_line ts c.push_reserved.new.self.items t done.first.lines _ _ _ is.7 c.add-3.ensures.amount (c.count_expired.ensures ∙ ap (count_by is_expired_line) c.as_slice-lines.ensures) same more,
    )
