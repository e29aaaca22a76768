-- Reading the numbers in words, one word after the other.
use Rattle.std.proofs.Common.{◌≡◌, ℕ, ◌+◌, ◌<◌, ◌≤◌, List, [], ◌∷◌, ◌++◌, map, length, get_or, drop, Some, None, Option, sym, ap, ◌∙◌}
use Rattle.std.proofs.lemmas.List.{at_drop_more, at_drop_all}
use Rattle.console.specs.Numbers.{number_in, or_none, numbers_after}

module _ {X : Type 0} (bytes : X → List ℕ) (done : List ℕ) (words : List X) (i : ℕ) where
  step : (word : X) → i < length words → word ≡ get_or words i word →
      numbers_after done (map bytes (drop i words)) ≡ or_none (number_in (bytes word)) (λ number. numbers_after (done ++ number ∷ []) (map bytes (drop (i + 1) words)))
  unfolding numbers_after
  step word lt is =
      at_drop_more (λ (ws : List X). numbers_after done (map bytes ws)) words i word lt
      ∙ ap (λ (w : X). or_none (number_in (bytes w)) (λ number. numbers_after (done ++ number ∷ []) (map bytes (drop (i + 1) words)))) (sym is)

  pub words_more : (word : X) (number : ℕ) → i < length words → word ≡ get_or words i word → Some number ≡ number_in (bytes word) →
      numbers_after done (map bytes (drop i words)) ≡ numbers_after (done ++ number ∷ []) (map bytes (drop (i + 1) words))
  words_more word number lt is e =
      step word lt is ∙ ap (λ (o : Option ℕ). or_none o (λ n. numbers_after (done ++ n ∷ []) (map bytes (drop (i + 1) words)))) (sym e)

  pub words_bad : (word : X) → i < length words → word ≡ get_or words i word → None ≡ number_in (bytes word) → numbers_after done (map bytes (drop i words)) ≡ None
  words_bad word lt is e =
      step word lt is ∙ ap (λ (o : Option ℕ). or_none o (λ n. numbers_after (done ++ n ∷ []) (map bytes (drop (i + 1) words)))) (sym e)

  pub words_all : length words ≤ i → numbers_after done (map bytes (drop i words)) ≡ Some done
  unfolding numbers_after
  words_all le = at_drop_all (λ (ws : List X). numbers_after done (map bytes ws)) words i le
