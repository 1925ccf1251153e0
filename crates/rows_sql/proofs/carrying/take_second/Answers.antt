use Rattle.std.proofs.Common.{rules}
use Rattle.rows_sql.proofs.Carryings.{left_unread, taken_second, left_second, ok_as, err_as}
use Rattle.rows_sql.proofs.carrying.take_second.Goals as goal

pub returns-clause-ok : goal.returns-clause-ok
returns-clause-ok g c =
    ok_as c.carry.result _ _
    (λ next h. taken_second g.S.Store c.args.settings.now c.args.version c.requires.second c.args.conn.now c.load_sound_as.new.conn c.requires.anew c.requires.ours c.load_sound_as.ensures.quiet c.in_ok-rows.rows c.in_ok-rows.ensures.rows c.in_ok-rows.ensures.fits c.in_ok-rows.ensures.still c.carry.new.conn next h.0 h.1)
    c.carry.ensures.ok

pub returns-clause-err : goal.returns-clause-err
returns-clause-err g c =
    err_as c.carry.result _ _
    (left_second g.S.Store c.args.settings.now c.args.version c.requires.second c.args.conn.now c.load_sound_as.new.conn c.requires.anew c.requires.ours c.load_sound_as.ensures.quiet c.in_ok-rows.rows c.in_ok-rows.ensures.rows c.in_ok-rows.ensures.fits c.in_ok-rows.ensures.still c.carry.new.conn)
    c.carry.ensures.err

pub returns-clause-why : goal.returns-clause-why
returns-clause-why g c clean is = absurd (c.carry.ensures.why.0 is)

pub returns-clause-counted : goal.returns-clause-counted
returns-clause-counted g c is = c.carry.ensures.why.1 is

pub returns-in_err-rows-clause-err : goal.returns-in_err-rows-clause-err
returns-in_err-rows-clause-err g c =
    let left = left_unread g.S.Store c.args.settings.now c.args.version c.args.conn.now c.load_sound_as.new.conn c.requires.anew c.requires.ours c.load_sound_as.ensures.quiet in
    search (rules, left)
