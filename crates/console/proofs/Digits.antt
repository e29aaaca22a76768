-- Reading a number digit by digit.
use Rattle.std.proofs.Common.{◌≡◌, ℕ, ◌+◌, ◌*◌, ◌<◌, ◌≤◌, min, List, [], ◌∷◌, length, get_or, drop, Some, None, Option, sym, refl, ap, ◌∙◌}
use Rattle.std.proofs.lemmas.List.{at_drop_more, at_drop_all}
use Rattle.console.specs.Numbers.{digit_of, with_digit, read_on, number_in}

pub number_of : (word : List ℕ) → (length word ≡ 0 → ⊥) → number_in word ≡ read_on (Some 0) word
number_of [] ne = absurd (ne refl)
number_of (b ∷ word) ne = refl

read_step : (word : List ℕ) (i before : ℕ) → i < length word → read_on (Some before) (drop i word) ≡ read_on (with_digit (digit_of (get_or word i 0)) before) (drop (i + 1) word)
unfolding read_on
read_step word i before lt = at_drop_more (read_on (Some before)) word i 0 lt

pub read_more : (word : List ℕ) (i before digit : ℕ) → i < length word → Some digit ≡ digit_of (get_or word i 0) → read_on (Some before) (drop i word) ≡ read_on (Some (min 1000 (before * 10 + digit))) (drop (i + 1) word)
read_more word i before digit lt e =
    read_step word i before lt ∙ ap (λ (o : Option ℕ). read_on (with_digit o before) (drop (i + 1) word)) (sym e)

pub read_bad : (word : List ℕ) (i before : ℕ) → i < length word → None ≡ digit_of (get_or word i 0) → None ≡ read_on (Some before) (drop i word)
unfolding read_on
read_bad word i before lt e =
    sym (read_step word i before lt ∙ ap (λ (o : Option ℕ). read_on (with_digit o before) (drop (i + 1) word)) (sym e))

pub read_all : (word : List ℕ) (i before : ℕ) → length word ≤ i → Some before ≡ read_on (Some before) (drop i word)
unfolding read_on
read_all word i before le = sym (at_drop_all (read_on (Some before)) word i le)
