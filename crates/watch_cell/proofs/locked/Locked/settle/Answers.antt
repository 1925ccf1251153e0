use Rattle.std.proofs.Common.{ap, ◌∙◌}
use Rattle.watch_cell.specs.Views.{watched}
use Rattle.watch_cell.proofs.Settling.{joined, settled_by}
use Rattle.watch_cell.proofs.locked.Locked.settle.Goals as goal

pub returns-clause-ok : goal.returns-clause-ok
returns-clause-ok g c =
    let l = c.self.inside in
    let r = l.retired.items in
    let ps = c.args.passes.items in
    let one = c.gather-rest.result in
    let two = c.gather-all.result in
    let e1 = c.gather-rest.ensures in
    let e2 = c.gather-all.ensures in
    let jissued = joined (λ h. h.issued) r ps g.I.Ledger.parts g.O.Opening.seats l.books.issued.total l.rest.issued.parts l.rest.issued.amount one.issued.parts one.issued.amount two.issued.parts two.issued.amount c.self.invariant.6.0 c.self.invariant.2.0 c.self.invariant.2.1 e1.issued.0 e1.issued.1 e2.issued.0 e2.issued.1 e2.issued.2 c.audit.ensures.whole in
    let jacknowledged = joined (λ h. h.acknowledged) r ps g.A.Ledger.parts g.O.Opening.seats l.books.acknowledged.total l.rest.acknowledged.parts l.rest.acknowledged.amount one.acknowledged.parts one.acknowledged.amount two.acknowledged.parts two.acknowledged.amount c.self.invariant.6.1 c.self.invariant.3.0 c.self.invariant.3.1 e1.acknowledged.0 e1.acknowledged.1 e2.acknowledged.0 e2.acknowledged.1 e2.acknowledged.2 c.audit-2.ensures.whole in
    let jexpired = joined (λ h. h.expired) r ps g.E.Ledger.parts g.O.Opening.seats l.books.expired.total l.rest.expired.parts l.rest.expired.amount one.expired.parts one.expired.amount two.expired.parts two.expired.amount c.self.invariant.6.2 c.self.invariant.4.0 c.self.invariant.4.1 e1.expired.0 e1.expired.1 e2.expired.0 e2.expired.1 e2.expired.2 c.audit-3.ensures.whole in
    let jcalls = joined (λ h. h.calls) r ps g.C.Ledger.parts g.O.Opening.seats l.books.calls.total l.rest.calls.parts l.rest.calls.amount one.calls.parts one.calls.amount two.calls.parts two.calls.amount c.self.invariant.6.3 c.self.invariant.5.0 c.self.invariant.5.1 e1.calls.0 e1.calls.1 e2.calls.0 e2.calls.1 e2.calls.2 c.audit-4.ensures.whole in
    let t = c.totals-totals.ensures in
    settled_by g.O.Opening.opening (watched l.cell) g.O.Opening.seats l.trail.items c.args.self.trail r c.args.self.retired ps c.as_slice.result.now c.gather-rest.new.spent.items c.gather-all.new.spent.items l.books.issued.total l.books.acknowledged.total l.books.expired.total l.books.calls.total c.totals-totals.result c.self.invariant.0 t.counts t.sum (ap (λ w. w.trail) c.self.view_is) (ap (λ w. w.retired) c.self.view_is) c.as_slice.ensures.value c.in-Ok.ensures.there c.in-Ok.ensures.sound e1.receipts e2.receipts jissued jacknowledged jexpired jcalls e1.spent e2.spent

pub returns-clause-retired : goal.returns-clause-retired
returns-clause-retired g c = c.gather-rest.ensures.spent ∙ ap (λ w. w.retired) c.self.view_is

pub returns-clause-handed : goal.returns-clause-handed
returns-clause-handed g c = c.gather-all.ensures.spent
