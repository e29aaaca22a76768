use Rattle.std.proofs.Common.{◌≡◌, ℕ, ◌<◌, T, length, get_or, vec_items}
use Rattle.field.specs.Field.{p, all_below}
use Rattle.sheets.specs.Families.{family, of}
use Rattle.runs.specs.Row.{row_of}
use Rattle.runs.specs.Setups.{circle_in}
use Rattle.runs.specs.Watching.{watches}
use Rattle.runs.proofs.Producing.{drawn_by, Dealings}
use Rattle.runs.proofs.setup.Setup.deal_products.Given as goal

abbrev pub invariant-loop-i : goal.invariant-loop-i
invariant-loop-i l =
    (length l.made ≡ 15)
    × (of (family l.coins) ≡ drawn_by l.self.t l.i (of (family l.initial.coins)))
    × ((j : ℕ) → j < 15 → get_or l.made j 0 < p)
    × ((f g : ℕ → ℕ) → l.a ≡ row_of f → l.b ≡ row_of g → Dealings (circle_in l.self) (watches l.self.watched) f g (of (family l.initial.coins)) (vec_items l.initial.seen) l.i (vec_items l.seen) l.made)
    × T (all_below (family l.coins))
