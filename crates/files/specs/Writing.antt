-- What is written: words of four bytes, the high byte first.
use Rattle.std.specs.Prelude.{◌≡◌, ℕ, Bool, false, T, List, ◌++◌, length, Ok, Err, Result, nat_lt}
use Rattle.std.specs.List.{flat_map, list_all}
use Rattle.sheets.specs.Bytes.{word_bytes}
use Rattle.sheets.specs.declared.refusal.Refusal.{Refusal}
use Rattle.sheets.specs.declared.refusal.Refusal.TheVariants.{OutOfRange}
use Rattle.files.specs.Answers.{UnlessMemory}

abbrev pub bytes_of : List ℕ → List ℕ
bytes_of = flat_map word_bytes

-- a count and as many words
abbrev pub list_bytes : List ℕ → List ℕ
list_bytes ws = word_bytes (length ws) ++ bytes_of ws

abbrev pub circle_bytes : List (List ℕ) → List ℕ
circle_bytes = flat_map list_bytes

-- the count of a list fits a word
abbrev pub count_fits : List ℕ → Bool
count_fits ws = nat_lt (length ws) 4294967296

abbrev pub counts_fit : List (List ℕ) → Bool
counts_fit = list_all count_fits

-- All of `more` is written, or nothing: for want of memory, or since it does not fit.
abbrev pub Wrote : (fits : Bool) (before more after : List ℕ) → Result (Unit {0}) Refusal → Type 0
Wrote fits before more after (Ok done) = T fits × (after ≡ before ++ more)
Wrote fits before more after (Err e) = (after ≡ before) × UnlessMemory e ((e ≡ OutOfRange) × (fits ≡ false))
