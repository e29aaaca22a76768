-- When a figure file is refused, and with which number.
use Rattle.std.proofs.Common.{◌≡◌, ℕ, suc, ◌%◌, ◌<◌, ◌≤◌, Bool, true, false, cond, ◌&&◌, ltb, List, [], ◌∷◌, length, get_or, Ok, Err, Result, refl, inl, inr, arith}
use Rattle.field.specs.Field.{p, below}
use Rattle.sheets.specs.declared.refusal.Refusal.{Refusal}
use Rattle.sheets.specs.declared.refusal.Refusal.TheVariants.{Malformed, OutOfRange}
use Rattle.std.proofs.lemmas.List.Folds.{list_all_at}
use Rattle.std.proofs.lemmas.Bool.{le-ltb, eq-eqb, ne_eqb, eqb-true, ltb-false, cases_Bool}
use Rattle.files.specs.Files.{whole}
use Rattle.files.specs.Laws.{FigureAnswers}
use Rattle.files.specs.Words.{words}

-- the answer, by the two tests
abbrev answer : Bool → Bool → List ℕ → Result (List ℕ) Refusal
answer w b ws = cond w (cond b (Ok ws) (Err OutOfRange)) (Err Malformed)

not_whole : (w b : Bool) (ws : List ℕ) → answer w b ws ≡ Err Malformed → w ≡ true → ⊥
not_whole w b ws e q = grind arith

too_large : (w b : Bool) (ws : List ℕ) → answer w b ws ≡ Err OutOfRange → (w ≡ true) × (b ≡ false)
too_large w b ws e = grind arith

pub read_whole : (w b : Bool) (ws figures : List ℕ) → answer w b ws ≡ Ok figures → (w ≡ true) × (ws ≡ figures)
read_whole w b ws figures e = grind arith

abbrev Large : List ℕ → Type 0
Large ws = (k : ℕ) × (k < length ws) × (p ≤ get_or ws k 0)

large_step : (x : ℕ) (xs : List ℕ) (b : Bool) → ltb x p ≡ b → (b && below xs) ≡ false → (below xs ≡ false → Large xs) → Large (x ∷ xs)
large_step x xs true e h next = let l = next h in (suc l.0, omega (arith, l.1), l.2)
large_step x xs false e h next = (0, omega arith, ltb-false x p e)

large_from : (ws : List ℕ) → below ws ≡ false → Large ws
large_from [] e = absurd (grind arith)
large_from (x ∷ xs) e = large_step x xs (ltb x p) refl e (large_from xs)

not_below : (ws : List ℕ) → Large ws → below ws ≡ false
not_below ws l = list_all_at (λ x. ltb x p) ws l.0 0 l.1 (le-ltb _ p l.2)

in_field : (ws : List ℕ) → (Large ws → ⊥) → below ws ≡ true
in_field ws ok = elim (cases_Bool (below ws)) [ inl t ↦ t | inr f ↦ absurd (ok (large_from ws f)) ]

pub figure_answers : FigureAnswers
figure_answers bytes =
    let n : ℕ = length bytes % 4 in
    let ws : List ℕ = words bytes in
    record {
      malformed = (
        λ e q. not_whole (whole bytes) (below ws) ws e (eq-eqb n 0 q),
        λ ne. rw (ne_eqb n 0 ne),
      );
      out_of_range = (
        λ e. let h = too_large (whole bytes) (below ws) ws e in (eqb-true n 0 h.0, large_from ws h.1),
        λ h. rw (eq-eqb n 0 h.0, not_below ws h.1),
      );
      else_read = λ q ok. rw (eq-eqb n 0 q, in_field ws ok);
    }
