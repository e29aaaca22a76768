-- What a file holds, or the refusal that it is given.
use Rattle.std.specs.Prelude.{ℕ, ◌%◌, Bool, cond, List, length, Some, None, Ok, Err, Option, Result, ◌==◌}
use Rattle.field.specs.Field.{p, below}
use Rattle.sheets.specs.declared.refusal.Refusal.{Refusal}
use Rattle.sheets.specs.declared.refusal.Refusal.TheVariants.{Malformed, OutOfRange}
use Rattle.std.specs.List.{filter_map}
use Rattle.files.specs.Words.{words}

-- no byte is left over
abbrev pub whole : List ℕ → Bool
whole bytes = length bytes % 4 == 0

-- an order of delivery
abbrev pub word_file : List ℕ → Result (List ℕ) Refusal
word_file bytes = cond (whole bytes) (Ok (words bytes)) (Err Malformed)

abbrev pub figure_file : List ℕ → Result (List ℕ) Refusal
figure_file bytes = cond (whole bytes) (cond (below (words bytes)) (Ok (words bytes)) (Err OutOfRange)) (Err Malformed)

-- a word without its top bit
abbrev pub low : ℕ → ℕ
low w = w % 2147483648

-- the coin of a word, if any: p is passed over
abbrev pub coin_in : ℕ → Option ℕ
coin_in w = cond (low w == p) None (Some (low w))

abbrev pub coins_of : List ℕ → List ℕ
coins_of = filter_map coin_in

abbrev pub coin_file : List ℕ → Result (List ℕ) Refusal
coin_file bytes = cond (whole bytes) (Ok (coins_of (words bytes))) (Err Malformed)
