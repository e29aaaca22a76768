-- Words of four bytes, the high byte first.
use Rattle.std.specs.Prelude.{ℕ, List, [], ◌∷◌}
use Rattle.sheets.specs.Bytes.{word}

-- The words of some bytes. One to three bytes that are left over at the end make none.
unfoldable pub words : List ℕ → List ℕ
words (a ∷ b ∷ c ∷ d ∷ bytes) = word a b c d ∷ words bytes
words bytes = []
