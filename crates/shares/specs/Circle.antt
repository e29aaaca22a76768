-- A circle: n members, numbered from 1, of whom any t together are to learn nothing.
use Rattle.std.specs.Prelude.{ℕ, ◌+◌, ◌≤◌, List}
use Rattle.std.specs.List.{range_with_len}

pub record Circle : Type 0 where
  pub n : ℕ
  pub t : ℕ

-- how many shares are joined
abbrev pub m : Circle → ℕ
m z = z.t + z.t + 1

abbrev pub Fits : Circle → Type 0
Fits z = (m z ≤ z.n) × (z.n ≤ 15)

-- 1, 2, .., n
abbrev pub members : ℕ → List ℕ
members n = range_with_len 1 n
