-- The whole run: what is looked at first, what the lines give, and the theorems on it.
use Rattle.std.proofs.Common.{◌≡◌, ℕ, Bool, true, false, T, List, Ok, Err, Result, sym, ◌∙◌, subst, inl, inr}
use Rattle.shares.specs.Circle.{Circle, Fits}
use Rattle.sheets.specs.Families.{of}
use Rattle.sheets.specs.Lines.{good}
use Rattle.sheets.specs.declared.line.Line.{Line}
use Rattle.sheets.specs.declared.refusal.Refusal.{Refusal}
use Rattle.field.specs.Field.{all_below}
use Rattle.runs.specs.Outcome.{RunAs, AllDoneAs}
use Rattle.runs.specs.Laws.{Figures, Coins}
use Rattle.runs.specs.Steps.{Reduced}
use Rattle.runs.specs.declared.outcome.Outcome.{Outcome}
use Rattle.sheets.proofs.Checked.{reduced-from, below-from-reduced}
use Rattle.runs.proofs.Enough.{enough}
use Rattle.runs.proofs.Rightly.{right}

pub not_reduced : (lists : List (List ℕ)) → all_below lists ≡ false → Reduced (of lists) → ⊥
not_reduced lists e h = subst (λ (b : Bool). T b) e (below-from-reduced lists h)

all_reduced : (lists : List (List ℕ)) → all_below lists ≡ true → Reduced (of lists)
all_reduced lists e = reduced-from lists (subst (λ (b : Bool). T b) (sym e) tt)

module _ (z : Circle) (ls : List Line) (figures coins : List (List ℕ)) (fits : Fits z) (g : T (good z.n 0 ls)) (hf : all_below figures ≡ true) (hc : all_below coins ≡ true) where
  ran_at : (c : ℕ → Bool) (r : Result Outcome Refusal) → AllDoneAs z c ls (of figures) (of coins) r → RunAs z c ls (of figures) (of coins) r
  ran_at c (Ok o) h =
      let F : ℕ → List ℕ = of figures in
      let C : ℕ → List ℕ = of coins in
      let suffice = (enough z ls F C).0 h.enough in
      let fs : Figures ls F = record { enough = suffice.figures_enough; reduced = all_reduced figures hf } in
      let cs : Coins z ls C = record { enough = suffice.coins_enough; reduced = all_reduced coins hc } in
      record {
        figures_suffice = fs;
        coins_suffice = cs;
        as_run = h.as_run;
        as_said = h.as_run ∙ (right z fits ls g F C fs cs).opened;
        as_seen = h.as_seen;
      }
  ran_at c (Err e) (inl x) = inl x
  ran_at c (Err e) (inr x) = inr (inr ((all_reduced figures hf, all_reduced coins hc), x))

  pub ran : (c c' : ℕ → Bool) (r : Result Outcome Refusal) (z' : Circle) (ls' : List Line) (figures' coins' : List (List ℕ)) → c' ≡ c → z' ≡ z → ls' ≡ ls → figures' ≡ figures → coins' ≡ coins →
      AllDoneAs z' c' ls' (of figures') (of coins') r → RunAs z c ls (of figures) (of coins) r
  ran c c' r z' ls' figures' coins' ew ez el ef ec h =
      ran_at c r
      (subst (λ (x : List (List ℕ)). AllDoneAs z c ls (of figures) (of x) r) ec
      (subst (λ (x : List (List ℕ)). AllDoneAs z c ls (of x) (of coins') r) ef
      (subst (λ (x : List Line). AllDoneAs z c x (of figures') (of coins') r) el
      (subst (λ (x : Circle). AllDoneAs x c ls' (of figures') (of coins') r) ez
      (subst (λ (x : ℕ → Bool). AllDoneAs z' x ls' (of figures') (of coins') r) ew h)))))
