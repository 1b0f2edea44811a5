-- The last serial of an area, whose spelling has 64 bits (this project's own).
use Rattle.std.specs.Prelude.{ℤ, pos, ◌^◌, ◌-◌}

-- the last serial: behind it a journal moves no more
abbrev pub last_serial : ℤ
last_serial = pos (2 ^ 63 - 1)
