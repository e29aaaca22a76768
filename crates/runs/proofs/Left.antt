-- Loops over members 1 to n that append something for each: what was appended, followed by what is left, is the whole.
use Rattle.std.proofs.Common.{◌≡◌, ℕ, zero, suc, ◌+◌, ◌-◌, ◌<◌, ◌≤◌, Bool, true, false, cond, List, [], ◌∷◌, ◌++◌, map, get_or, filter, sym, refl, ap, ◌∙◌, add-one, arith, ◌⊎◌, length, inl, inr}
use Rattle.std.specs.List.{range_with_len, flat_map}
use Rattle.std.proofs.lemmas.List.{append_assoc, append-nil, get_or_past}
use Rattle.shares.specs.Circle.{members}
use Rattle.runs.specs.Watching.{watches}

-- members k + 1 to n
abbrev pub from : ℕ → ℕ → List ℕ
from k n = range_with_len (k + 1) (n - k)

pub from_none : (n : ℕ) → from 0 n ≡ members n
from_none n = let e : n - 0 ≡ n = omega arith in ap (range_with_len 1) e

pub from_more : (k n : ℕ) → k < n → from k n ≡ (k + 1) ∷ from (k + 1) n
from_more k n lt = let e : n - k ≡ suc (n - (k + 1)) = omega arith in ap (range_with_len (k + 1)) e

pub from_all : (k n : ℕ) → n ≤ k → from k n ≡ []
from_all k n le = let e : n - k ≡ 0 = omega arith in ap (range_with_len (k + 1)) e

abbrev pub Left : (ℕ → List ℕ) → List ℕ → ℕ → ℕ → List ℕ → Type 0
Left G before n k out = out ++ flat_map G (from k n) ≡ before ++ flat_map G (members n)

pub left_none : (G : ℕ → List ℕ) (out : List ℕ) (n : ℕ) → Left G out n 0 out
left_none G out n = ap (λ (xs : List ℕ). out ++ flat_map G xs) (from_none n)

pub left_more : (G : ℕ → List ℕ) (before : List ℕ) (n k : ℕ) (out out' piece : List ℕ) → k < n → piece ≡ G (k + 1) → out' ≡ out ++ piece → Left G before n k out → Left G before n (k + 1) out'
left_more G before n k out out' piece lt is e h =
    let rest : List ℕ = flat_map G (from (k + 1) n) in
    ap (λ (xs : List ℕ). xs ++ rest) (e ∙ ap (λ (xs : List ℕ). out ++ xs) is)
    ∙ (append_assoc out (G (k + 1)) rest
    ∙ (sym (ap (λ (xs : List ℕ). out ++ flat_map G xs) (from_more k n lt)) ∙ h))

pub left_skip : (G : ℕ → List ℕ) (before : List ℕ) (n k : ℕ) (out : List ℕ) → k < n → [] ≡ G (k + 1) → Left G before n k out → Left G before n (k + 1) out
left_skip G before n k out lt is h = left_more G before n k out out [] lt is (sym (append-nil out)) h

pub left_all : (G : ℕ → List ℕ) (before : List ℕ) (n k : ℕ) (out : List ℕ) → n ≤ k → Left G before n k out → out ≡ before ++ flat_map G (members n)
left_all G before n k out le h =
    sym (ap (λ (xs : List ℕ). out ++ flat_map G xs) (from_all k n le) ∙ append-nil out) ∙ h

-- what passes a test, one after the other
one : (b : Bool) (f : ℕ → ℕ) (x : ℕ) (xs : List ℕ) → map f (cond b (x ∷ xs) xs) ≡ cond b (f x ∷ []) [] ++ map f xs
one true f x xs = refl
one false f x xs = refl

abbrev pub each : (ℕ → Bool) → (ℕ → ℕ) → ℕ → List ℕ
each c f j = cond (c j) (f j ∷ []) []

pub kept_is : (c : ℕ → Bool) (f : ℕ → ℕ) (xs : List ℕ) → map f (filter c xs) ≡ flat_map (each c f) xs
kept_is c f [] = refl
kept_is c f (x ∷ xs) = one (c x) f x (filter c xs) ∙ ap (λ (ys : List ℕ). each c f x ++ ys) (kept_is c f xs)

pub watches_at : (flags : List Bool) (k : ℕ) → watches flags (k + 1) ≡ get_or flags k false
watches_at flags k = ap (watches flags) (add-one k)

pub watches_nobody : (flags : List Bool) (w : ℕ) → length flags ≡ 15 → (w ≡ 0) ⊎ (15 < w) → false ≡ watches flags w
watches_nobody flags zero len h = refl
watches_nobody flags (suc k) len (inl e) = absurd (omega arith)
watches_nobody flags (suc k) len (inr lt) = sym (get_or_past flags k false (omega arith))

pub watches-member : (flags : List Bool) (w : ℕ) → (w ≡ 0 → ⊥) → get_or flags (w - 1) false ≡ watches flags w
watches-member flags zero ne = absurd (ne refl)
watches-member flags (suc k) ne = let e : suc k - 1 ≡ k = omega arith in ap (λ (i : ℕ). get_or flags i false) e
