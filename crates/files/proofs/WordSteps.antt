-- The words of some bytes, by their chunks of four.
use Rattle.std.proofs.Common.{◌≡◌, ℕ, ◌/◌, suc, List, ◌∷◌, map, length, get_or, refl, ap, arith}
use Rattle.std.specs.Simd.{first_chunks}
use Rattle.sheets.specs.Bytes.{word}
use Rattle.files.specs.Words.{words}

-- the word at the front
abbrev pub front : List ℕ → ℕ
front xs = word (get_or xs 0 0) (get_or xs 1 0) (get_or xs 2 0) (get_or xs 3 0)

pub words_chunks : (xs : List ℕ) → map front (first_chunks 4 (length xs / 4) xs) ≡ words xs
unfolding words
words_chunks (a ∷ b ∷ c ∷ d ∷ xs) =
    let e : length (a ∷ b ∷ c ∷ d ∷ xs) / 4 ≡ suc (length xs / 4) = omega arith in
    rw e (ap (λ (ws : List ℕ). word a b c d ∷ ws) (words_chunks xs))
words_chunks xs = refl
