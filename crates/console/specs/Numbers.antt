-- Members' numbers as they are written on the command line.
use Rattle.std.specs.Prelude.{◌≡◌, ℕ, ◌+◌, ◌-◌, ◌*◌, ◌<◌, min, Bool, true, false, cond, ◌&&◌, ◌||◌, List, [], ◌∷◌, ◌++◌, length, Some, None, Ok, Err, vec_items, Option, Result, Vec, ◌==◌, nat_eq, nat_le, nat_lt, slice_index_or}
use Rattle.std.specs.List.{list_any}
use Rattle.sheets.specs.declared.refusal.Refusal.TheVariants.{NoMemory}
use Rattle.console.specs.declared.failure.Failure.{Failure}
use Rattle.console.specs.declared.failure.Failure.TheVariants.{Refused}
use Rattle.std.specs.declared.alloc.Global.{Global}

abbrev pub digit_of : ℕ → Option ℕ
digit_of byte = cond (nat_le 48 byte && nat_le byte 57) (Some (byte - 48)) None

-- after digits that gave `before`; numbers of a thousand and more are all told as a thousand
abbrev pub with_digit : Option ℕ → ℕ → Option ℕ
with_digit None before = None
with_digit (Some d) before = Some (min 1000 (before * 10 + d))

unfoldable pub read_on : Option ℕ → List ℕ → Option ℕ
read_on None bytes = None
read_on (Some before) [] = Some before
read_on (Some before) (b ∷ bytes) = read_on (with_digit (digit_of b) before) bytes

-- decimal digits, one at least, and nothing else
abbrev pub number_in : List ℕ → Option ℕ
number_in [] = None
number_in (b ∷ bytes) = read_on (Some 0) (b ∷ bytes)

-- the numbers in some words, or none if a word is no decimal number
abbrev pub or_none : Option ℕ → (ℕ → Option (List ℕ)) → Option (List ℕ)
or_none None more = None
or_none (Some number) more = more number

unfoldable pub numbers_after : List ℕ → List (List ℕ) → Option (List ℕ)
numbers_after done [] = Some done
numbers_after done (word ∷ words) = or_none (number_in word) (λ number. numbers_after (done ++ number ∷ []) words)

abbrev pub WordsAs : List (List ℕ) → Result (Option (Vec ℕ Global)) Failure → Type 0
WordsAs words (Ok (Some numbers)) = numbers_after [] words ≡ Some (vec_items numbers)
WordsAs words (Ok None) = numbers_after [] words ≡ None
WordsAs words (Err failure) = failure ≡ Refused NoMemory

-- a number that is no member's among 1 to n
abbrev pub outside : ℕ → ℕ → Bool
outside n number = number == 0 || nat_lt (min n 15) number

-- the set of some members: at place k whether member k + 1 is among them
abbrev pub SetOf : ℕ → List ℕ → Option (List Bool) → Type 0
SetOf n numbers None = list_any (outside n) numbers ≡ true
SetOf n numbers (Some set) = (list_any (outside n) numbers ≡ false) × (length set ≡ 15) × ((k : ℕ) → k < 15 → slice_index_or set k false ≡ list_any (λ number. nat_eq number (k + 1)) numbers)
