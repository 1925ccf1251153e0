-- Lines that tell of no change, no new master and no session; and lines that tell of no right either.
use Rattle.std.proofs.Common.{ℕ, List, [], ◌∷◌, ◌++◌, map}
use Rattle.node_core.specs.declared.lines.Line.{Line}
use Rattle.node_core.specs.declared.lines.Line.TheVariants as lines
use Rattle.rights_core.proofs.ToldLines.{IsOfNoRight, AreOfNoRight}

abbrev pub IsSilentLine : Line → Type 0
IsSilentLine (lines.Up epoch) = ⊥
IsSilentLine (lines.Applied client number change names) = ⊥
IsSilentLine (lines.Started client) = ⊥
IsSilentLine (lines.Ended client) = ⊥
IsSilentLine _ = Unit {0}

abbrev pub IsSilent : List Line → Type 0
IsSilent [] = Unit {0}
IsSilent (line ∷ rest) = IsSilentLine line × IsSilent rest

-- both
abbrev pub IsQuiet : List Line → Type 0
IsQuiet [] = Unit {0}
IsQuiet (line ∷ rest) = IsSilentLine line × IsOfNoRight line × IsQuiet rest

pub quiet_silent : (printed : List Line) → IsQuiet printed → IsSilent printed
quiet_silent [] h = tt
quiet_silent (line ∷ rest) h = (h.0, quiet_silent rest h.2)

pub quiet_rightless : (printed : List Line) → IsQuiet printed → AreOfNoRight printed
quiet_rightless [] h = tt
quiet_rightless (line ∷ rest) h = (h.1, quiet_rightless rest h.2)

pub append_quiet : (xs ys : List Line) → IsQuiet xs → IsQuiet ys → IsQuiet (xs ++ ys)
append_quiet [] ys h k = k
append_quiet (x ∷ xs) ys h k = (h.0, h.1, append_quiet xs ys h.2 k)

-- lines that tell of no lock either
abbrev pub IsCalmLine : Line → Type 0
IsCalmLine (lines.Up epoch) = ⊥
IsCalmLine (lines.Applied client number change names) = ⊥
IsCalmLine (lines.Started client) = ⊥
IsCalmLine (lines.Ended client) = ⊥
IsCalmLine (lines.Locked client instance mode generation) = ⊥
IsCalmLine (lines.Freed client instance) = ⊥
IsCalmLine _ = Unit {0}

-- nor of a right
abbrev pub IsCalm : List Line → Type 0
IsCalm [] = Unit {0}
IsCalm (line ∷ rest) = IsCalmLine line × IsOfNoRight line × IsCalm rest

calm_line : (line : Line) → IsCalmLine line → IsSilentLine line
calm_line (lines.Up epoch) h = h
calm_line (lines.Applied client number change names) h = h
calm_line (lines.Started client) h = h
calm_line (lines.Ended client) h = h
calm_line _ h = tt

pub calm_quiet : (printed : List Line) → IsCalm printed → IsQuiet printed
calm_quiet [] h = tt
calm_quiet (line ∷ rest) h = (calm_line line h.0, h.1, calm_quiet rest h.2)

pub append_calm : (xs ys : List Line) → IsCalm xs → IsCalm ys → IsCalm (xs ++ ys)
append_calm [] ys h k = k
append_calm (x ∷ xs) ys h k = (h.0, h.1, append_calm xs ys h.2 k)

-- a line for each of some numbers
pub silent_numbers : (line : ℕ → Line) → ((number : ℕ) → IsSilentLine (line number)) → (numbers : List ℕ) → IsSilent (map line numbers)
silent_numbers line silent [] = tt
silent_numbers line silent (number ∷ numbers) = (silent number, silent_numbers line silent numbers)

-- lines that tell of nothing that is served
abbrev pub IsOther : Line → Type 0
IsOther (lines.Served client name entry) = ⊥
IsOther _ = Unit {0}

abbrev pub AreOthers : List Line → Type 0
AreOthers [] = Unit {0}
AreOthers (line ∷ rest) = IsOther line × AreOthers rest

pub both_others : (xs ys : List Line) → AreOthers xs → AreOthers ys → AreOthers (xs ++ ys)
both_others [] ys h k = k
both_others (x ∷ xs) ys h k = (h.0, both_others xs ys h.1 k)
