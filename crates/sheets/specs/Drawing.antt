-- Drawing numbers from a member's list.
use Rattle.std.specs.Prelude.{◌≡◌, ℕ, ◌<◌, ◌≤◌, cond, List, length, take, drop, Some, None, Option, ◌==◌}
use Rattle.std.specs.Borrow.{Bor}
use Rattle.sheets.specs.Families.{of}

-- member w's list without its first `count` numbers, all others as they were
abbrev pub after : ℕ → ℕ → (ℕ → List ℕ) → ℕ → List ℕ
after w count lists i = cond (i == w) (drop count (lists i)) (lists i)

abbrev pub DrawnFrom : ℕ → ℕ → List (List ℕ) → List (List ℕ) → Option (Bor (List ℕ)) → Type 0
DrawnFrom w count before left None = (length (of before w) < count) × (left ≡ before)
DrawnFrom w count before left (Some r) = (count ≤ length (of before w)) × (r.now ≡ take count (of before w)) × (of left ≡ after w count (of before))
