use Rattle.std.proofs.Common.{refl, inl, inr, rules}
use Rattle.scripts.proofs.FirstLines.{advanced_by, next_number, next_stop}
use Rattle.scripts.proofs.lines.ScriptLines.advance.Goals as goal

pub returns-then-self-gt-LINE_COUNT_LIMIT-clause-stopped : goal.returns-then-self-gt-LINE_COUNT_LIMIT-clause-stopped
returns-then-self-gt-LINE_COUNT_LIMIT-clause-stopped g c = λ few.
    let line = advanced_by _ _ c.args.self.now c.fill.new.self _ _ _ c.self.view_is refl c.in_ok-fill.ensures.filled.0 c.in_ok-fill.ensures.filled.1.0 c.self-2.view_is c.if-branch-eq0.false c.cut.ensures in
    let number = next_stop _ _ _ c.args.self.now c.fill.new.self _ c.saturating_add-self-inside.ensures c.self.view_is refl c.in_ok-fill.ensures.filled.1.1.0 c.self-2.view_is few in
    (number, (_, _, line, inr (inr c.if-self-gt-LINE_COUNT_LIMIT.true)))

pub returns-then-len-gt-LINE_LENGTH_LIMIT-clause-stopped : goal.returns-then-len-gt-LINE_LENGTH_LIMIT-clause-stopped
returns-then-len-gt-LINE_LENGTH_LIMIT-clause-stopped g c = λ few.
    let line = advanced_by _ _ c.args.self.now c.fill.new.self _ _ _ c.self.view_is refl c.in_ok-fill.ensures.filled.0 c.in_ok-fill.ensures.filled.1.0 c.self-2.view_is c.if-branch-eq0.false c.cut.ensures in
    let number = next_stop _ _ _ c.args.self.now c.fill.new.self _ c.saturating_add-self-inside.ensures c.self.view_is refl c.in_ok-fill.ensures.filled.1.1.0 c.self-2.view_is few in
    (number, (_, _, line, inr (inl (search rules))))

pub returns-clause-advances : goal.returns-clause-advances
returns-clause-advances g c =
    let line = advanced_by _ _ c.args.self.now c.fill.new.self _ _ _ c.self.view_is refl c.in_ok-fill.ensures.filled.0 c.in_ok-fill.ensures.filled.1.0 c.self-2.view_is c.if-branch-eq0.false c.cut.ensures in
    let number = next_number _ _ _ c.args.self.now c.fill.new.self _ c.saturating_add-self-inside.ensures c.self.view_is refl c.in_ok-fill.ensures.filled.1.1.0 c.self-2.view_is c.if-self-gt-LINE_COUNT_LIMIT.false in
    (line, (number, (c.if-self-gt-LINE_COUNT_LIMIT.false, search rules)))
