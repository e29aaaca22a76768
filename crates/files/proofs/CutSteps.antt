-- A count and as many words, as the code meets them: the first four bytes and the rest, and then the words and what stands after them.
use Rattle.std.proofs.Common.{◌≡◌, ℕ, ◌*◌, ◌<◌, ◌≤◌, List, ◌∷◌, length, take, drop, Some, None, Err, Option, MatchOption, MatchResult, Bor, refl, ◌∙◌, arith}
use Rattle.std.specs.List.{IsSplitAt}
use Rattle.std.specs.Option.{ok_or}
use Rattle.std.proofs.lemmas.Bool.{le-leb, lt-leb}
use Rattle.sheets.specs.declared.refusal.Refusal.{Refusal}
use Rattle.sheets.specs.declared.refusal.Refusal.TheVariants.{Malformed}
use Rattle.files.specs.Circles.{cut_words, cut}
use Rattle.files.proofs.WordSteps.{front}

pub cut_short : (xs : List ℕ) → length xs < 4 → cut xs ≡ None
unfolding cut
cut_short (a ∷ b ∷ c ∷ d ∷ xs) h = absurd (omega arith)
cut_short xs h = refl

pub no_count : {X : Type 0} (xs : List ℕ) (o : Option X) (P : X → Type 0) (e : Refusal) → Err e ≡ ok_or o Malformed → MatchOption o (length xs < 4) P → (e ≡ Malformed) × (cut xs ≡ None)
no_count xs None P e q h = (cc, cut_short xs h)
no_count xs (Some x) P e q h = absurd (grind arith)

pub cut_counted : (xs count rest : List ℕ) (w : ℕ) → 4 ≤ length xs → count ≡ take 4 xs → rest ≡ drop 4 xs → w ≡ front count → cut xs ≡ cut_words w rest
unfolding cut
cut_counted (a ∷ b ∷ c ∷ d ∷ xs) count rest w h f r e = rw (e, f, r)
cut_counted xs count rest w h f r e = absurd (omega arith)

pub cut_told : (xs rest : List ℕ) (w : ℕ) (o : Option (Bor (List ℕ) × Bor (List ℕ))) → cut xs ≡ cut_words w rest → MatchOption o (length rest < w * 4) (λ p. IsSplitAt rest (w * 4) p.0.now p.1.now) → MatchResult (ok_or o Malformed) (λ x. cut xs ≡ Some (record { what = x.0.now; rest = x.1.now })) (λ e. (e ≡ Malformed) × (cut xs ≡ None))
cut_told xs rest w None e h = (refl, e ∙ rw (lt-leb (w * 4) (length rest) h))
cut_told xs rest w (Some p) e h = e ∙ rw (le-leb (w * 4) (length rest) h.0, h.1, h.2)
