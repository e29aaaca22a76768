-- Numbers and their four bytes give each other back.
use Rattle.std.proofs.Common.{◌≡◌, ℕ, ◌+◌, ◌*◌, ◌/◌, ◌%◌, ◌<◌, [], ◌∷◌, sym, ap, ◌∙◌, ap₂, arith}
use native.Mathlib.Nat.{div-div-eq-div-mul}
use Rattle.sheets.specs.Bytes.{word, word_bytes}

-- the four bytes of a number give it back
by_steps : (x : ℕ) → x < 4294967296 → (x / 256 / 256 / 256 % 256) * 16777216 + (x / 256 / 256 % 256) * 65536 + (x / 256 % 256) * 256 + x % 256 ≡ x
by_steps x lt = omega arith

pub word_back : (x : ℕ) → x < 4294967296 → word (x / 16777216 % 256) (x / 65536 % 256) (x / 256 % 256) (x % 256) ≡ x
word_back x lt =
    let two : x / 256 / 256 ≡ x / 65536 = div-div-eq-div-mul x 256 256 in
    let three : x / 256 / 256 / 256 ≡ x / 16777216 = ap (λ (y : ℕ). y / 256) two ∙ div-div-eq-div-mul x 65536 256 in
    ap₂ (λ (y z : ℕ). (y % 256) * 16777216 + (z % 256) * 65536 + (x / 256 % 256) * 256 + x % 256) (sym three) (sym two) ∙ by_steps x lt

-- and a number in four bytes gives these bytes back
pub bytes_back : (a b c d : ℕ) → a < 256 → b < 256 → c < 256 → d < 256 → word_bytes (word a b c d) ≡ a ∷ b ∷ c ∷ d ∷ []
bytes_back a b c d la lb lc ld =
    let x : ℕ = a * 16777216 + b * 65536 + c * 256 + d in
    let e1 : x / 16777216 % 256 ≡ a = omega arith in
    let e2 : x / 65536 % 256 ≡ b = omega arith in
    let e3 : x / 256 % 256 ≡ c = omega arith in
    let e4 : x % 256 ≡ d = omega arith in
    cc
