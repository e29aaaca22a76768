-- The laws of coins.
use Rattle.std.proofs.Common.{◌≡◌, ℕ, ◌+◌, ◌<◌, Bool, cond, eqb, ◌⊎◌, ◌∷◌, Some, None, sym, ◌∙◌, inl, inr, arith}
use Rattle.field.specs.Field.{p}
use Rattle.std.proofs.lemmas.List.Elements.{filter_map-append}
use Rattle.std.proofs.lemmas.Bool.{eq-eqb, ne_eqb, cases_lt}
use Rattle.files.specs.Files.{low, coin_in}
use Rattle.files.specs.Laws.{CoinWords, PassedOver}

low_of : (b : Bool) (x v : ℕ) → cond b None (Some x) ≡ Some v → x ≡ v
low_of b x v e = grind arith

half : (v w : ℕ) → v < p → w < 4294967296 → low w ≡ v → (w ≡ v) ⊎ (w ≡ v + 2147483648)
half v w small word e =
    elim (cases_lt w 2147483648) [ inl h ↦ inl (omega arith) | inr h ↦ inr (omega arith) ]

kept : (v w : ℕ) → v < p → low w ≡ v → coin_in w ≡ Some v
kept v w small e = rw (e, ne_eqb v p (λ (q : v ≡ p). omega arith))

pub coin_words : CoinWords
coin_words v w small word = (
  λ e. half v w small word (low_of (eqb (low w) p) (low w) v e),
  λ s. elim s [ inl e ↦ kept v w small (omega arith) | inr e ↦ kept v w small (omega arith) ],
)

pub passed_over : PassedOver
passed_over xs ys w e = filter_map-append coin_in xs (w ∷ ys) ∙ rw (eq-eqb (low w) p e) (sym (filter_map-append coin_in xs ys))
