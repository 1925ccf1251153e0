use Rattle.std.proofs.Common.{◌≡◌, Err, rules, subst}
use Rattle.sqlite.specs.Held.{state}
use Rattle.rows_cell.specs.declared.records.StoreFault.{StoreFault}
use Rattle.rows_sql.specs.Versions.{schema_of, IsVersionOf}
use Rattle.rows_sql.proofs.InspectLemmas.{ready_as, quiet_as, unsaid_damaged}
use Rattle.rows_sql.proofs.reading.inspection.inspect.Goals as goal

pub returns-in_err-rows-clause-damaged : goal.returns-in_err-rows-clause-damaged
returns-in_err-rows-clause-damaged g c clean settled is =
    let old = state g.S.Store c.args.conn.now in
    let own : c.schema.result.now ≡ schema_of c.in-Some.version = subst (IsVersionOf c.schema.result.now) c.in-Some.is c.in_ok-version.ensures in
    let ready = ready_as c.in-Some.version old c.schema.result.now own c.schema.ensures.value settled in
    let failed : c.load_as.result ≡ Err StoreFault.Damaged = search (rules, is) in
    unsaid_damaged c.args.cell.now old c.schema.result.now c.in-Some.version own c.schema.ensures.value (c.load_as.ensures.damaged clean ready failed)

pub returns-clause-quiet : goal.returns-clause-quiet
returns-clause-quiet g c version =
    let own : c.schema.result.now ≡ schema_of c.in-Some.version = subst (IsVersionOf c.schema.result.now) c.in-Some.is c.in_ok-version.ensures in
    quiet_as g.S.Store c.args.conn.now c.load_as.new.conn c.schema.result.now c.in-Some.version own c.schema.ensures.value c.load_as.ensures.quiet version
