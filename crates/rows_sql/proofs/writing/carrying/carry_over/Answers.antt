use Rattle.std.proofs.Common.{◌≡◌, subst, arith, rules, inr, true}
use Rattle.std.specs.Prelude.{OnOk, OnErr}
use Rattle.sqlite.specs.State.{HasCleanDisk, KeepsCommit, Survives}
use Rattle.sqlite.specs.Held.{state}
use Rattle.sqlite.proofs.InsideLemmas.{unchanged_keeps}
use Rattle.rows_sql.specs.Carrying.{Carries, IsCarried, MayCarry}
use Rattle.rows_sql.proofs.WriteSteps.{ok_then, err_then, keeps_from, fails_keeps}
use Rattle.rows_sql.proofs.Carried.{carried_all, survives_carried, survives_uncarried}
use Rattle.rows_sql.proofs.writing.carrying.carry_over.Goals as goal

pub returns-clause-ok : goal.returns-clause-ok
returns-clause-ok g c =
    let old = c.args.conn.now in
    let version = c.args.version in
    let epoch = c.args.epoch in
    let mid = state g.S.Store c.carry.new.tx.conn.now in
    let end = c.commit.new.self.0 in
    let same : end ≡ c.conn-2-1.given.0 = search rules in
    let begun = c.transaction-tx.ensures.begun in
    subst (λ h. HasCleanDisk (state g.S.Store h) → OnOk c.commit.result (IsCarried version epoch (state g.S.Store old) (state g.S.Store h))) same (λ clean.
    let did : Carries version epoch (state g.S.Store (record old { in_transaction = true })) mid = rw begun at (c.in_ok-carry.ensures.ok (omega (arith, clean, c.commit.ensures.survives.clean))) in
    ok_then c.commit.result (λ ended. carried_all g.S.Store old version epoch mid (state g.S.Store end) did ended.1) (c.commit.ensures.ok clean))

pub returns-clause-err : goal.returns-clause-err
returns-clause-err g c =
    let old = c.args.conn.now in
    let mid = state g.S.Store c.carry.new.tx.conn.now in
    let end = c.commit.new.self.0 in
    let same : end ≡ c.conn-2-1.given.0 = search rules in
    let begun = c.transaction-tx.ensures.begun in
    subst (λ h. HasCleanDisk (state g.S.Store h) → OnErr c.commit.result (KeepsCommit (state g.S.Store old) (state g.S.Store h))) same (λ clean.
    let kept : KeepsCommit (state g.S.Store (record old { in_transaction = true })) mid = rw begun at (c.carry.ensures.stays.kept (omega (arith, clean, c.commit.ensures.survives.clean))) in
    err_then c.commit.result (keeps_from g.S.Store old mid (state g.S.Store end) kept) (fails_keeps mid (state g.S.Store end) c.commit.result (c.commit.ensures.err clean)))

pub returns-clause-survives : goal.returns-clause-survives
returns-clause-survives g c =
    let old = c.args.conn.now in
    let version = c.args.version in
    let epoch = c.args.epoch in
    let mid = state g.S.Store c.carry.new.tx.conn.now in
    let end = c.commit.new.self.0 in
    let same : end ≡ c.conn-2-1.given.0 = search rules in
    let begun = c.transaction-tx.ensures.begun in
    let before : Survives (state g.S.Store (record old { in_transaction = true })) mid (λ _. ⊥) = rw begun at c.carry.ensures.stays.survives in
    subst (λ h. Survives (state g.S.Store old) (state g.S.Store h) (MayCarry version epoch (state g.S.Store old))) same
    (survives_carried g.S.Store old version epoch mid (state g.S.Store end) before (λ clean. rw begun at (c.in_ok-carry.ensures.ok clean)) c.commit.ensures.survives)

pub returns-in_err-carry-clause-err : goal.returns-in_err-carry-clause-err
returns-in_err-carry-clause-err g c =
    let old = c.args.conn.now in
    let mid = state g.S.Store c.carry.new.tx.conn.now in
    let end = c.drop-tx.new.self.0 in
    let same : end ≡ c.conn-1.given.0 = search rules in
    let begun = c.transaction-tx.ensures.begun in
    subst (λ h. HasCleanDisk (state g.S.Store h) → OnErr c.from_residual.result (KeepsCommit (state g.S.Store old) (state g.S.Store h))) same (λ clean.
    let kept : KeepsCommit (state g.S.Store (record old { in_transaction = true })) mid = rw begun at (c.carry.ensures.stays.kept (omega (arith, clean, c.drop-tx.ensures.survives.clean))) in
    let all = keeps_from g.S.Store old mid (state g.S.Store end) kept (unchanged_keeps mid (state g.S.Store end) (inr (c.drop-tx.ensures.undone clean))) in
    search (rules, all))

pub returns-in_err-carry-clause-survives : goal.returns-in_err-carry-clause-survives
returns-in_err-carry-clause-survives g c =
    let old = c.args.conn.now in
    let version = c.args.version in
    let epoch = c.args.epoch in
    let mid = state g.S.Store c.carry.new.tx.conn.now in
    let end = c.drop-tx.new.self.0 in
    let same : end ≡ c.conn-1.given.0 = search rules in
    let begun = c.transaction-tx.ensures.begun in
    let before : Survives (state g.S.Store (record old { in_transaction = true })) mid (λ _. ⊥) = rw begun at c.carry.ensures.stays.survives in
    subst (λ h. Survives (state g.S.Store old) (state g.S.Store h) (MayCarry version epoch (state g.S.Store old))) same
    (survives_uncarried g.S.Store old version epoch mid (state g.S.Store end) before c.drop-tx.ensures.survives)
