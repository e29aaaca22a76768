-- What is judged before the runs.
use Rattle.std.proofs.Common.{◌≡◌, ℕ, Bool, ◌&&◌, List, Some, Ok, Err, Option, Result, sym, ap, ◌∙◌, ap₂, subst, inl, inr}
use Rattle.std.proofs.lemmas.Bool.{cond-true, cond-false}
use Rattle.field.specs.Field.{all_below}
use Rattle.shares.specs.Circle.{Circle}
use Rattle.sheets.specs.Families.{of}
use Rattle.sheets.specs.declared.line.Line.{Line}
use Rattle.sheets.specs.declared.refusal.Refusal.{Refusal}
use Rattle.sheets.specs.declared.refusal.Refusal.TheVariants.{OutOfRange}
use Rattle.pairing.specs.Lacking.{LentAs, NeitherAs, coins_in, runs_out_in_either}
use Rattle.pairing.specs.Verdict.{refusal, SufficeAs}
use Rattle.pairing.specs.declared.lacking.Left.{Left}
use Rattle.pairing.proofs.Taking.{missing_in}

module _ (z : Circle) (ls : List Line) (C F F' : List (List ℕ)) where
  abbrev fit : Bool
  fit = all_below F && (all_below F' && all_below C)

  pub suffice_as : (s : Left) → LentAs F F' C (Ok s) → (r : Result (Unit {0}) Refusal) → NeitherAs (missing_in z ls s) r → SufficeAs z ls C F F' r
  suffice_as s lent r h = told r (subst (λ (o : Option Refusal). NeitherAs o r) (sym refusal_is) h)
    where
      -- all numbers lie below p, so that only what is missing can be refused
      refusal_is : refusal z ls C F F' ≡ missing_in z ls s
      refusal_is =
          cond-true fit (runs_out_in_either z ls (of F) (of F') (of C)) (Some OutOfRange) lent.3
          ∙ sym (ap₂ (λ (a b : List (List ℕ)). runs_out_in_either z ls (of a) (of b) (coins_in s)) lent.0 lent.1 ∙ ap (λ (c : List (List ℕ)). runs_out_in_either z ls (of F) (of F') (of c)) lent.2)

      told : (r : Result (Unit {0}) Refusal) → NeitherAs (refusal z ls C F F') r → SufficeAs z ls C F F' r
      told (Ok u) h = h
      told (Err e) h = inr h

  pub not_lent : (e : Refusal) → LentAs F F' C (Err e) → SufficeAs z ls C F F' (Err e)
  not_lent e (inl memory) = inl memory
  not_lent e (inr large) =
      inr (cond-false fit (runs_out_in_either z ls (of F) (of F') (of C)) (Some OutOfRange) large.1 ∙ ap (λ (x : Refusal). Some x) (sym large.0))
