-- A rule of a table, proved at all of its places by one test that the checker computes.
use Rattle.std.proofs.Common.{◌≡◌, ℕ, zero, suc, ◌<◌, Bool, true, ◌&&◌, refl}
use Rattle.std.proofs.lemmas.Bool.Decides.{Decides-below_and}

-- the test passes at each place below n
abbrev pub every_below : (ℕ → Bool) → ℕ → Bool
every_below test zero = true
every_below test (suc n) = test n && every_below test n

pub at_place : (test : ℕ → Bool) (n : ℕ) → every_below test n ≡ true → (k : ℕ) → k < n → test k ≡ true
at_place test n all = (Decides-below_and test (λ k. test k ≡ true) (every_below test) (λ k. ((λ e. e), (λ e. e))) refl (λ k. refl) n).0 all
