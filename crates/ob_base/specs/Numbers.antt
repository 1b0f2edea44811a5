-- The numbers of the language (the Obsidian language documentation, "int"): whole numbers of 64 bits with a sign.
use Rattle.std.specs.Prelude.{ℤ, pos, negsuc, ◌^◌, nat_lt, Bool}

-- from -2^63 to 2^63 - 1 (`negsuc n` is -(n + 1))
abbrev pub is_int : ℤ → Bool
is_int (pos n) = nat_lt n (2 ^ 63)
is_int (negsuc n) = nat_lt n (2 ^ 63)
