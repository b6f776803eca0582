-- Part of what is promised.
-- How a path is told.
use Rattle.std.specs.Prelude.{ℕ, ◌+◌, ◌-◌, ◌/◌, ◌%◌, ◌&&◌, List, [], ◌∷◌, ◌++◌, codes, if◌then◌else◌, nat_le, nat_lt}
use Rattle.std.specs.List.{flat_map}

-- a hexadecimal digit: 48 is `0`, and 97 is `a`
abbrev pub hex_digit : ℕ → ℕ
hex_digit n = if nat_lt n 10 then 48 + n else 97 - 10 + n

-- a byte: as it is where it is printable ASCII, and else `\x` and its two hexadecimal digits
abbrev pub shown_byte : ℕ → List ℕ
shown_byte b =
    if nat_le 32 b && nat_le b 126 then b ∷ []
    else codes "\\x" ++ hex_digit (b / 16) ∷ hex_digit (b % 16) ∷ []

-- a path
abbrev pub shown_path : List ℕ → List ℕ
shown_path path = flat_map shown_byte path
