-- ALIKE. The paired coins undo each other, suffice, and let the watched see the same.
use Rattle.std.proofs.Common.{◌≡◌, ℕ, Bool, List, [], sym, ap, ◌∙◌}
use Rattle.shares.specs.Circle.{Circle}
use Rattle.sheets.specs.declared.line.Line.{Line}
use Rattle.runs.specs.Run.{begun}
use Rattle.runs.specs.Pairing.{mask_for, there}
use Rattle.runs.specs.Laws.{Coins, Alike}
use Rattle.runs.proofs.Apart.{none}
use Rattle.runs.proofs.Pairs.{Second, second_back, paired_coins-same, paired-length, paired_undrawn, paired_suffice}
use Rattle.runs.proofs.Rightly.{no_rows}
use Rattle.runs.proofs.Watched.{all_same}

-- the second run of a pairing
module _ (z : Circle) (c : ℕ → Bool) (ls : List Line) (figures figures' : ℕ → List ℕ) (coins : ℕ → List ℕ) where
  paired_second : Second z (mask_for z c) ls (begun figures coins) (begun figures' (there z c ls figures figures' coins))
  paired_second = sym (paired_coins-same z (mask_for z c) ls (begun figures coins) (begun figures' coins) (there z c ls figures figures' coins))

  undone : Coins z ls coins → there z c ls figures' figures (there z c ls figures figures' coins) ≡ coins
  undone enough =
      let other : ℕ → List ℕ = there z c ls figures figures' coins in
      paired_coins-same z (mask_for z c) ls (begun figures' other) (begun figures coins) other
      ∙ sym (second_back z (mask_for z c) ls (begun figures coins) (begun figures' other) paired_second enough)

pub alike : Alike
alike z fits ls good c few figures figures' figs figs' agree same =
    let g : List ℕ = mask_for z c in
    record {
      there_suffices = λ cs h. paired_suffice z g ls (begun figures cs) (begun figures' cs) h;
      back_suffices = λ cs h. paired_suffice z g ls (begun figures' cs) (begun figures cs) h;
      there_length = λ cs h. paired-length z g ls (begun figures cs) (begun figures' cs);
      back_length = λ cs h. paired-length z g ls (begun figures' cs) (begun figures cs);
      there_undrawn = λ cs h. paired_undrawn z g ls (begun figures cs) (begun figures' cs) h;
      back_undrawn = λ cs h. paired_undrawn z g ls (begun figures' cs) (begun figures cs) h;
      back_there = λ cs h i. ap (λ (k : ℕ → List ℕ). k i) (undone z c ls figures figures' cs h);
      there_back = λ cs h i. ap (λ (k : ℕ → List ℕ). k i) (undone z c ls figures' figures cs h);
      same = λ cs h.
          all_same z fits c few ls (begun figures cs) (begun figures' (there z c ls figures figures' cs)) [] [] (record {
            rows = no_rows;
            rows' = no_rows;
            apart = none;
            figures-below = figs.reduced;
            figures_below' = figs'.reduced;
            agree = agree;
            coins = h;
            coins' = paired_suffice z g ls (begun figures cs) (begun figures' cs) h;
            second = paired_second z c ls figures figures' cs;
            opened = same;
          });
    }
