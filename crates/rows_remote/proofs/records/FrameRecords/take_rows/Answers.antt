use Rattle.std.proofs.Common.{◌≡◌, Ok, Result, Bool, true, false, sym, subst, rules}
use Rattle.node_core.specs.declared.refusals.Fault.{Fault}
use Rattle.node_core.specs.declared.refusals.Fault.TheVariants as faults
use Rattle.rows_cell.specs.declared.tables.Rows.{Rows}
use Rattle.rows_cell.specs.Sound.{sound}
use Rattle.rows_cell.specs.Stores.{Store, Loads, IsUnread, told}
use Rattle.rows_remote.specs.Keeping.{Stood, stood}
use Rattle.rows_remote.proofs.Keepings.{at, loads_read, loads_damaged}
use Rattle.rows_remote.proofs.records.FrameRecords.take_rows.Goals as goal

pub returns-then-not-is_sound-clause-loads : goal.returns-then-not-is_sound-clause-loads
returns-then-not-is_sound-clause-loads g c =
    let cell = c.self.inside.cell in
    let n = c.self.inside.refusals in
    let st = stood c.self.inside.past.items in
    let rows = c.in_ok-number.rows in
    let un : sound cell rows ≡ false = search rules in
    let done : IsUnread faults.StoreDamaged (at cell st.rows st.left n st.doubt) _ = loads_damaged cell st.rows rows st.left n st.doubt un in
    let moved : IsUnread faults.StoreDamaged (at cell st.rows st.left n st.doubt) _ =
    subst (λ (t : Stood). IsUnread faults.StoreDamaged (at cell st.rows st.left n st.doubt) (at cell t.rows t.left n t.doubt)) (sym c.noted-self-inside.ensures) done in
    let now = stood c.noted-self-inside.result.items in
    let view : at cell st.rows st.left n st.doubt ≡ c.args.self.now.store = search rules in
    subst (λ (s : Store). IsUnread faults.StoreDamaged s (at cell now.rows now.left n now.doubt)) view moved

pub returns-clause-loads : goal.returns-clause-loads
returns-clause-loads g c =
    let cell = c.self.inside.cell in
    let n = c.self.inside.refusals in
    let st = stood c.self.inside.past.items in
    let rows = c.in_ok-number.rows in
    let is : sound cell rows ≡ true = search rules in
    let given : told c.ok_or.result ≡ Ok rows = search rules in
    let done : Loads (at cell st.rows st.left n st.doubt) _ (Ok rows) = loads_read cell st.rows rows st.left n st.doubt is in
    let moved : Loads (at cell st.rows st.left n st.doubt) _ (Ok rows) =
    subst (λ (t : Stood). Loads (at cell st.rows st.left n st.doubt) (at cell t.rows t.left n t.doubt) (Ok rows)) (sym c.noted-self-inside-2.ensures) done in
    let now = stood c.noted-self-inside-2.result.items in
    let view : at cell st.rows st.left n st.doubt ≡ c.args.self.now.store = search rules in
    let there : Loads c.args.self.now.store (at cell now.rows now.left n now.doubt) (Ok rows) =
    subst (λ (s : Store). Loads s (at cell now.rows now.left n now.doubt) (Ok rows)) view moved in
    subst (λ (r : Result Rows Fault). Loads c.args.self.now.store (at cell now.rows now.left n now.doubt) r) (sym given) there
