-- One dealing: what was drawn, sent and noted.
use Rattle.std.proofs.Common.{◌≡◌, ℕ, ◌≤◌, Bool, List, ◌++◌, length, take, ap, ◌∙◌}
use Rattle.shares.specs.Circle.{Circle}
use Rattle.shares.specs.Polynomial.{share_of, dealt}
use Rattle.sheets.specs.Drawing.{after}
use Rattle.runs.specs.Row.{row_of, picked}
use Rattle.runs.specs.Steps.{Dealing}
use Rattle.runs.proofs.Inrow.{picked-row, dealt-row}

pub dealt_out : (z : Circle) (c : ℕ → Bool) (w v : ℕ) (coins coins' : ℕ → List ℕ) (seen seen' row drawn : List ℕ) →
    z.n ≤ 15 → z.t ≤ length (coins w) → drawn ≡ take z.t (coins w) → coins' ≡ after w z.t coins → row ≡ dealt 15 v drawn →
    seen' ≡ seen ++ picked c z.n row → Dealing z c w v coins coins' seen seen' row
dealt_out z c w v coins coins' seen seen' row drawn few enough is moved sent noted =
    let row_is : row ≡ row_of (share_of v (take z.t (coins w))) = sent ∙ (ap (dealt 15 v) is ∙ dealt-row v (take z.t (coins w))) in
    record {
      enough = enough;
      moved = moved;
      sent = row_is;
      noted = noted ∙ ap (λ (xs : List ℕ). seen ++ xs) (picked-row c z.n (share_of v (take z.t (coins w))) row few row_is);
    }
