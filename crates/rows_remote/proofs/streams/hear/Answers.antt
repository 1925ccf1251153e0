use Rattle.std.proofs.Common.{◌≡◌, ◌<◌, ◌≤◌, length, rules}
use Rattle.byteorder.specs.Endian.{big_number}
use Rattle.rows_remote.proofs.Hearing.{cut_unheard, heard_so, counted_so}
use Rattle.rows_remote.proofs.streams.hear.Goals as goal

pub returns-then-fill-lt4-clause-none : goal.returns-then-fill-lt4-clause-none
returns-then-fill-lt4-clause-none g c =
    let few : c.fill.result < 4 = search rules in
    cut_unheard _ _ c.fill.result c.fill.new.buffer c.fill.ensures.bytes few

pub returns-clause-heard : goal.returns-clause-heard
returns-clause-heard g c =
    let four : length c.fill.new.buffer ≡ 4 = search rules in
    let all : 4 ≤ c.fill.result = search rules in
    let counts : c.read_u32.result ≡ big_number 4 c.fill.new.buffer = search rules in
    heard_so _ _ _ c.fill.result c.fill.new.buffer c.read_u32.result c.hear_counted.result c.fill.ensures.bytes four all counts c.hear_counted.ensures.heard

pub returns-clause-none : goal.returns-clause-none
returns-clause-none g c =
    let four : length c.fill.new.buffer ≡ 4 = search rules in
    let all : 4 ≤ c.fill.result = search rules in
    let counts : c.read_u32.result ≡ big_number 4 c.fill.new.buffer = search rules in
    counted_so _ _ _ c.fill.result c.fill.new.buffer c.read_u32.result c.hear_counted.result c.fill.ensures.bytes four all counts c.hear_counted.ensures.none
