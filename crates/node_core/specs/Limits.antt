-- The limits of what a cell keeps and sends.
use Rattle.std.specs.Prelude.{ℕ, ◌-◌, ◌^◌}

-- the most bytes of a content
abbrev pub content_limit : ℕ
content_limit = 262144

-- what a cell counts ends below it: instances, generations, epochs, messages, handles
abbrev pub number_end : ℕ
number_end = 2 ^ 63

-- the greatest number of these
abbrev pub number_limit : ℕ
number_limit = number_end - 1

-- the longest lock-delay, in milliseconds
abbrev pub lock_delay_limit : ℕ
lock_delay_limit = 60000
