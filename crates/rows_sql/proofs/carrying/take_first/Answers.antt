use Rattle.std.proofs.Common.{rules}
use Rattle.rows_sql.specs.declared.schema.ours.Version.TheVariants.{First}
use Rattle.rows_sql.proofs.Carryings.{left_unread, taken_earlier, left_earlier, ok_as, err_as}
use Rattle.rows_sql.proofs.carrying.take_first.Goals as goal

pub returns-clause-ok : goal.returns-clause-ok
returns-clause-ok g c =
    ok_as c.carry.result _ _
    (λ next h. taken_earlier g.S.Store c.args.settings.now First c.args.conn.now c.load_first.new.conn c.requires.anew c.requires.first c.load_first.ensures.quiet c.in_ok-rows.rows c.in_ok-rows.ensures.rows c.in_ok-rows.ensures.fits.0 c.in_ok-rows.ensures.fits.1 c.in_ok-rows.ensures.still c.carry.new.conn next h.0 h.1)
    c.carry.ensures.ok

pub returns-clause-err : goal.returns-clause-err
returns-clause-err g c =
    err_as c.carry.result _ _
    (left_earlier g.S.Store c.args.settings.now First c.args.conn.now c.load_first.new.conn c.requires.anew c.requires.first c.load_first.ensures.quiet c.in_ok-rows.rows c.in_ok-rows.ensures.rows c.in_ok-rows.ensures.fits.0 c.in_ok-rows.ensures.fits.1 c.in_ok-rows.ensures.still c.carry.new.conn)
    c.carry.ensures.err

pub returns-clause-why : goal.returns-clause-why
returns-clause-why g c clean is = absurd (c.carry.ensures.why.0 is)

pub returns-clause-full : goal.returns-clause-full
returns-clause-full g c clean is = absurd (c.carry.ensures.why.1 is)

pub returns-in_err-rows-clause-err : goal.returns-in_err-rows-clause-err
returns-in_err-rows-clause-err g c =
    let left = left_unread g.S.Store c.args.settings.now First c.args.conn.now c.load_first.new.conn c.requires.anew c.requires.first c.load_first.ensures.quiet in
    search (rules, left)
