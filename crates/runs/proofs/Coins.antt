-- Noting the coins that all members are about to draw, one member after the other.
use Rattle.std.proofs.Common.{◌≡◌, ℕ, ◌+◌, ◌-◌, ◌<◌, ◌≤◌, Bool, true, false, cond, ◌||◌, List, [], ◌++◌, length, take, sym, refl, ap, ◌∙◌, subst, arith}
use Rattle.std.proofs.lemmas.Bool.{lt-ltb, le-ltb}
use Rattle.shares.specs.Circle.{Circle, members}
use Rattle.std.specs.List.{list_any}
use Rattle.runs.specs.Steps.{lacks}
use Rattle.runs.proofs.Left.{Left, from, from_more, from_all, left_more}

-- a test of each member
pub any_no : (test : ℕ → Bool) (k n : ℕ) → k < n → test (k + 1) ≡ false → list_any test (from (k + 1) n) ≡ list_any test (from k n)
any_no test k n lt e =
    sym (ap (list_any test) (from_more k n lt) ∙ ap (λ (b : Bool). b || list_any test (from (k + 1) n)) e)

pub any_yes : (test : ℕ → Bool) (k n : ℕ) → k < n → test (k + 1) ≡ true → list_any test (from k n) ≡ true
any_yes test k n lt e =
    ap (list_any test) (from_more k n lt) ∙ ap (λ (b : Bool). b || list_any test (from (k + 1) n)) e

pub any_done : (test : ℕ → Bool) (k n : ℕ) → n ≤ k → list_any test (from k n) ≡ false
any_done test k n le = ap (list_any test) (from_all k n le)

module _ (z : Circle) (c : ℕ → Bool) (coins : ℕ → List ℕ) where
  abbrev pub own : ℕ → List ℕ
  own i = cond (c i) (take z.t (coins i)) []

  -- after k members
  pub record Noted (before : List ℕ) (k : ℕ) (out : List ℕ) : Type 0 where
    pub lacking : list_any (lacks z coins) (from k z.n) ≡ list_any (lacks z coins) (members z.n)
    pub left : Left own before z.n k out

  pub noted_more : (before : List ℕ) (k : ℕ) (out out' : List ℕ) → k < z.n → z.t ≤ length (coins (k + 1)) → out' ≡ out ++ own (k + 1) → Noted before k out → Noted before (k + 1) out'
  noted_more before k out out' lt le e h = record {
    lacking = any_no (lacks z coins) k z.n lt (le-ltb (length (coins (k + 1))) z.t le) ∙ h.lacking;
    left = left_more own before z.n k out out' (own (k + 1)) lt refl e h.left;
  }

  noted-lacking : (before : List ℕ) (k : ℕ) (out : List ℕ) → k < z.n → length (coins (k + 1)) < z.t → Noted before k out → list_any (lacks z coins) (members z.n) ≡ true
  noted-lacking before k out lt short h =
      sym h.lacking ∙ any_yes (lacks z coins) k z.n lt (lt-ltb (length (coins (k + 1))) z.t short)

  -- member w is the next
  module _ (before : List ℕ) (w : ℕ) (out : List ℕ) (first : 1 ≤ w) (last : w ≤ z.n) (h : Noted before (w - 1) out) where
    same : w - 1 + 1 ≡ w
    same = omega arith

    pub noted_next : (out' : List ℕ) → z.t ≤ length (coins w) → out' ≡ out ++ own w → Noted before w out'
    noted_next out' le e =
        subst (λ (v : ℕ). Noted before v out') same
        (noted_more before (w - 1) out out' (omega arith) (subst (λ (v : ℕ). z.t ≤ length (coins v)) (sym same) le) (subst (λ (v : ℕ). out' ≡ out ++ own v) (sym same) e) h)

    pub noted-short : length (coins w) < z.t → list_any (lacks z coins) (members z.n) ≡ true
    noted-short short = noted-lacking before (w - 1) out (omega arith) (subst (λ (v : ℕ). length (coins v) < z.t) (sym same) short) h
