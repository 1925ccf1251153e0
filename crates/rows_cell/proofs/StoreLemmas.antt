-- Where nothing is committed and nothing is in doubt, a store stays as it was.
use Rattle.std.proofs.Common.{◌≡◌, ℕ, List, [], ap, ◌∙◌, arith}
use Rattle.std.specs.Prelude.{◌≤◌}
use Rattle.node_core.specs.declared.refusals.Fault.{Fault}
use Rattle.node_core.specs.declared.refusals.Fault.TheVariants as faults
use Rattle.rows_cell.specs.declared.tables.Rows.{Rows}
use Rattle.rows_cell.specs.Stores.{Store, IsCommitted, IsRefused}

none_doubted : (before after : ℕ) → before ≤ after → after ≡ 0 → after ≡ before
none_doubted before after rises none = omega arith

store_by : (old new : Store) → new.cell ≡ old.cell → new.rows ≡ old.rows → new.may_leave ≡ old.may_leave → new.refusals ≡ old.refusals → new.doubt ≡ old.doubt → new ≡ old
store_by old new c r l n d =
    let made : List ℕ → Rows → List Rows → ℕ → ℕ → Store = λ cell rows leave count doubt. record { cell = cell; rows = rows; may_leave = leave; refusals = count; doubt = doubt } in
    ap (λ x. made x new.rows new.may_leave new.refusals new.doubt) c
    ∙ ap (λ x. made old.cell x new.may_leave new.refusals new.doubt) r
    ∙ ap (λ x. made old.cell old.rows x new.refusals new.doubt) l
    ∙ ap (λ x. made old.cell old.rows old.may_leave x new.doubt) n
    ∙ ap (λ x. made old.cell old.rows old.may_leave old.refusals x) d

pub nothing_committed : (old new : Store) → IsCommitted [] old new → new.doubt ≡ 0 → new ≡ old
nothing_committed old new h none = store_by old new h.cell h.rows h.leave h.counted (none_doubted old.doubt new.doubt h.doubted none)

-- that is refused by want of memory alone
pub nothing_refused : (fault : Fault) (old new : Store) → IsRefused fault [] old new → new.doubt ≡ 0 → (fault ≡ faults.NoMemory) × (new ≡ old)
nothing_refused fault old new h none = (h.why.0, store_by old new h.cell h.rows h.leave h.why.1 (none_doubted old.doubt new.doubt h.doubted none))
