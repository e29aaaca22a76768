-- Files of a whole circle: what each member brings, one after another, and nothing more.
use Rattle.std.specs.Prelude.{ℕ, zero, suc, ◌*◌, cond, List, [], ◌∷◌, map, length, take, drop, Some, None, Ok, Err, Option, Result, nat_le}
use Rattle.field.specs.Field.{all_below}
use Rattle.sheets.specs.declared.refusal.Refusal.{Refusal}
use Rattle.sheets.specs.declared.refusal.Refusal.TheVariants.{Malformed, OutOfRange}
use Rattle.std.specs.Option.{option_map, option_and_then, ok_or}
use Rattle.sheets.specs.Bytes.{word}
use Rattle.files.specs.Files.{coins_of}
use Rattle.files.specs.Words.{words}

-- what was read of some bytes, and the bytes after it
pub record Got (X : Type 0) : Type 0 where
  pub what : X
  pub rest : List ℕ

-- the bytes of so many words, if they are there
abbrev pub cut_words : ℕ → List ℕ → Option (Got (List ℕ))
cut_words count bytes = cond (nat_le (count * 4) (length bytes)) (Some (record { what = take (count * 4) bytes; rest = drop (count * 4) bytes })) None

-- a count, and the bytes of as many words
unfoldable pub cut : List ℕ → Option (Got (List ℕ))
cut (a ∷ b ∷ c ∷ d ∷ bytes) = cut_words (word a b c d) bytes
cut bytes = None

-- what n members bring, where `one` reads a member's
unfoldable pub each : {X : Type 0} → (List ℕ → Option (Got X)) → ℕ → List ℕ → Option (List X)
each one zero [] = Some []
each one zero (b ∷ bytes) = None
each one (suc n) bytes = option_and_then (λ g. option_map (λ xs. g.what ∷ xs) (each one n g.rest)) (one bytes)

-- a member's figures
abbrev pub figures_one : List ℕ → Option (Got (List ℕ))
figures_one bytes = option_map (λ c. record { what = words c.what; rest = c.rest }) (cut bytes)

-- A circle's figures: 1 wins over 3, so the range is looked at only where all is well formed.
abbrev pub figures_or : Option (List (List ℕ)) → Result (List (List ℕ)) Refusal
figures_or None = Err Malformed
figures_or (Some figures) = cond (all_below figures) (Ok figures) (Err OutOfRange)

-- the structure alone
abbrev pub formed : {X : Type 0} → Option X → Result X Refusal
formed o = ok_or o Malformed

abbrev pub circle_figures : ℕ → List ℕ → Result (List (List ℕ)) Refusal
circle_figures n bytes = figures_or (each figures_one n bytes)

-- a member's figures and coins
pub record Member : Type 0 where
  pub figures : List ℕ
  pub coins : List ℕ

abbrev pub member_one : List ℕ → Option (Got Member)
member_one bytes =
    option_and_then (λ f. option_map (λ c. record { what = record { figures = words f.what; coins = coins_of (words c.what) }; rest = c.rest }) (cut f.rest)) (cut bytes)

-- each member's figures and each member's coins
pub record Given : Type 0 where
  pub figures : List (List ℕ)
  pub coins : List (List ℕ)

abbrev pub gathered : List Member → Given
gathered members = record { figures = map (λ m. m.figures) members; coins = map (λ m. m.coins) members }

abbrev pub inputs_or : Option Given → Result Given Refusal
inputs_or None = Err Malformed
inputs_or (Some g) = cond (all_below g.figures) (Ok g) (Err OutOfRange)

abbrev pub circle_inputs : ℕ → List ℕ → Result Given Refusal
circle_inputs n bytes = inputs_or (option_map gathered (each member_one n bytes))
