use Rattle.std.proofs.Common.{◌≡◌, ◌<◌, ◌≤◌, length, rules}
use Rattle.rows_remote.proofs.Hearing.{short_cut, short_heard, short_lost}
use Rattle.rows_remote.proofs.streams.hear_short.Goals as goal

pub returns-then-fill-lt2-clause-none : goal.returns-then-fill-lt2-clause-none
returns-then-fill-lt2-clause-none g c =
    let few : c.fill.result < 2 = search rules in
    short_cut _ _ c.fill.result c.fill.new.buffer c.fill.ensures.bytes few

pub returns-clause-heard : goal.returns-clause-heard
returns-clause-heard g c =
    let two : length c.fill.new.buffer ≡ 2 = search rules in
    let all : 2 ≤ c.fill.result = search rules in
    short_heard _ _ c.fill.result c.fill.new.buffer c.short_answer.result c.fill.ensures.bytes two all c.short_answer.ensures

pub returns-clause-none : goal.returns-clause-none
returns-clause-none g c =
    let two : length c.fill.new.buffer ≡ 2 = search rules in
    let all : 2 ≤ c.fill.result = search rules in
    short_lost _ _ c.fill.result c.fill.new.buffer c.short_answer.result c.fill.ensures.bytes two all c.short_answer.ensures
