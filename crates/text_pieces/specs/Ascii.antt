-- Texts as lists of bytes.
use Rattle.std.specs.Prelude.{cond, List, [], ◌∷◌, ℕ, ◌+◌, ◌/◌, ◌%◌, ltb}
use Prim.Native.Char.{code}
use Prim.Native.String.{String, [] as []ˢ, ◌∷◌ as ◌∷ˢ◌}

abbrev pub ascii : String → List ℕ
ascii []ˢ = []
ascii (c ∷ˢ s) = code c ∷ ascii s

-- a scale, 0 to 255, in decimal without leading zeros (RULES 6.5)
abbrev pub digit : ℕ → ℕ
digit d = 48 + d

abbrev pub decimal_text : ℕ → List ℕ
decimal_text x =
    cond (ltb x 10) (digit x ∷ [])
    (cond (ltb x 100) (digit (x / 10) ∷ digit (x % 10) ∷ [])
    (digit (x / 100) ∷ digit (x / 10 % 10) ∷ digit (x % 10) ∷ []))
