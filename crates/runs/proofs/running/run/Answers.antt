use Rattle.std.proofs.Common.{sym, refl, ap, inl, inr}
use Rattle.sheets.specs.Families.{family}
use Rattle.sheets.specs.Numbers.{lists_in}
use Rattle.sheets.specs.Sheets.{circle_of, lines_in}
use Rattle.runs.specs.Setups.{circle_in}
use Rattle.runs.specs.Watching.{watches}
use Rattle.runs.proofs.Whole.{not_reduced, ran}
use Rattle.runs.proofs.running.run.Goals as goal
use Rattle.runs.proofs.running.run.Goals.{then-not-are_all_below-via-then-not-are_all_below, then-not-are_all_below-via-else-not-are_all_below+then-not-are_all_below-2}

pub returns-then-not-are_all_below : goal.returns-then-not-are_all_below
returns-then-not-are_all_below c =
    elim c.then-not-are_all_below.branch [
      | then-not-are_all_below-via-then-not-are_all_below w ↦ inr (inl (refl, λ h. not_reduced (family c.args.figures.now) (sym w.if-not-are_all_below.ensures) h.0))
      | then-not-are_all_below-via-else-not-are_all_below+then-not-are_all_below-2 w ↦ inr (inl (refl, λ h. not_reduced (family c.args.coins.now) (sym w.if-not-are_all_below-2.ensures) h.1))
    ]

pub returns : goal.returns
returns c =
    let sheet = c.args.sheet.now in
    ran (circle_of sheet) (lines_in sheet) (family c.args.figures.now) (family c.args.coins.now) (sheet.enough, sheet.few) sheet.well (sym c.if-not-are_all_below.ensures) (sym c.if-not-are_all_below-2.ensures)
    (watches c.args.watched.now) (watches c.new-setup.result.watched) c.run_lines.result
    (circle_in c.new-setup.result) c.lines.result.now (lists_in c.in_ok-figures.figures) (lists_in c.in_ok-coins.coins)
    (ap watches c.new-setup.ensures.1) c.new-setup.ensures.0 c.lines.ensures c.in_ok-figures.ensures.lists c.in_ok-coins.ensures.lists
    c.run_lines.ensures
