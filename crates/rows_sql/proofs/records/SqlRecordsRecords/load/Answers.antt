use Rattle.std.proofs.Common.{◌≡◌, Ok, Bool, sym, subst, rules}
use Rattle.sqlite_trees.specs.View.{doubt}
use Rattle.sqlite.specs.Held.{state}
use Rattle.rows_cell.specs.Stores.{Store, Loads, told}
use Rattle.rows_sql.specs.Keeping.{Stood, stood, Keeps}
use Rattle.rows_sql.proofs.Keepings.{same_rows}
use Rattle.rows_sql.proofs.StoreCases.{at, loads_read}
use Rattle.rows_sql.proofs.records.SqlRecordsRecords.load.Goals as goal

pub returns-in-Ok : goal.returns-in-Ok
returns-in-Ok g c =
    let old = c.self.inside.conn in
    let new = c.load_sound.new.conn in
    let cell = c.self.inside.cell in
    let n = c.self.inside.refusals in
    let d = doubt (state g.S.Store old).is_clean in
    let e = doubt (state g.S.Store new).is_clean in
    let st = stood c.self.inside.past.items in
    let keeps = subst (λ (b : Bool). Keeps (state g.S.Store old) b st.rows st.left) c.if-self.false c.self.invariant.0 in
    let same = same_rows g.S.Store old new st.rows st.left keeps c.in-Ok.rows c.load_sound.ensures.quiet c.in-Ok.ensures.rows in
    let given : c.ok_or.result ≡ Ok c.in-Ok.rows = search rules in
    let done : Loads (at cell st.rows st.left n d) (at cell c.in-Ok.rows st.left n e) (told c.ok_or.result) =
    loads_read cell st.rows st.left n d e c.load_sound.ensures.quiet.clean c.in-Ok.rows c.ok_or.result given c.in-Ok.ensures.sound same in
    let now = stood c.noted-self-inside.result.items in
    let moved : Loads (at cell st.rows st.left n d) (at cell now.rows now.left n e) (told c.ok_or.result) =
    subst (λ (t : Stood). Loads (at cell st.rows st.left n d) (at cell t.rows t.left n e) (told c.ok_or.result)) (sym c.noted-self-inside.ensures) done in
    let view : at cell st.rows st.left n d ≡ c.args.self.now = search rules in
    subst (λ (s : Store). Loads s (at cell now.rows now.left n e) (told c.ok_or.result)) view moved
