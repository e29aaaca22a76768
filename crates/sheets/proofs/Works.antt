-- Lines in the plain, one after the other.
use Rattle.std.proofs.Common.{◌≡◌, ℕ, ◌≤◌, List, [], ◌∷◌, ◌++◌, length, get_or, take, sym, ap, ◌∙◌, subst, arith}
use Rattle.std.proofs.lemmas.List.{get_or-take, append-nil}
use Rattle.std.proofs.lemmas.Bool.{lt-ltb}
use Rattle.sheets.specs.Drawing.{after}
use Rattle.sheets.specs.Families.{of}
use Rattle.sheets.specs.Outcome.{Worked}
use Rattle.sheets.specs.declared.line.Line.{Line}
use Rattle.sheets.specs.declared.line.Line.TheVariants.{Input}

pub worked_input : (l : Line) (w : ℕ) (figures figures' : List (List ℕ)) (values opened x : List ℕ) → l ≡ Input w →
    1 ≤ length (of figures w) → x ≡ take 1 (of figures w) → of figures' ≡ after w 1 (of figures) →
    Worked l figures figures' values (values ++ get_or x 0 0 ∷ []) opened opened
worked_input l w figures figures' values opened x is some e taken =
    subst (λ (k : Line). Worked k figures figures' values (values ++ get_or x 0 0 ∷ []) opened opened) (sym is)
    (record {
      has = lt-ltb 0 (length (of figures w)) some;
      taken = taken;
      made = ap (λ (n : ℕ). values ++ n ∷ []) (ap (λ (l : List ℕ). get_or l 0 0) e ∙ get_or-take 1 (of figures w) 0 0 (omega arith));
      shown = sym (append-nil opened);
    })
