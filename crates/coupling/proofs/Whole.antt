-- Both runs of a whole sheet: the theorems on what they give.
use Rattle.std.proofs.Common.{◌≡◌, ℕ, zero, suc, ◌+◌, ◌<◌, ◌≤◌, Bool, List, [], ◌∷◌, ◌++◌, length, get_or, drop, replicate, T, ◌⊎◌, inl, inr, false, Ok, Err, filter, Result, sym, refl, ap, ◌∙◌, subst, arith}
use Rattle.std.proofs.lemmas.List.{ext_get_or, get_or-take, get_or-drop, length-take, length-drop, length-append, length-replicate}
use Rattle.shares.specs.Circle.{Circle, Fits, members}
use Rattle.field.specs.Field.{below, all_below}
use Rattle.sheets.proofs.Checked.{below-from-reduced}
use Rattle.sheets.specs.Families.{of}
use Rattle.sheets.specs.declared.line.Line.{Line}
use Rattle.sheets.specs.declared.refusal.Refusal.{Refusal}
use Rattle.sheets.specs.declared.refusal.Refusal.TheVariants.{NoMemory, OutOfRange}
use Rattle.masks.specs.Coefficients.{Holds}
use Rattle.runs.specs.Pairing.{mask, mask_for, paired_coins}
use Rattle.runs.specs.Run.{begun, opens}
use Rattle.runs.specs.Seen.{watched_in}
use Rattle.runs.proofs.Pairs.{paired_suffice}
use Rattle.runs.proofs.Rightly.{right}
use Rattle.coupling.specs.Couples.{Given, LinesAs, CoupledAs}
use Rattle.coupling.specs.Sides.{higher}
use Rattle.coupling.specs.declared.couple.Couple.{Couple}

-- zeros at the end are read as what is past it
padded : (xs : List ℕ) (n k : ℕ) → get_or (xs ++ replicate n 0) k 0 ≡ get_or xs k 0
padded [] zero k = refl
padded [] (suc n) zero = refl
padded [] (suc n) (suc k) = padded [] n k
padded (x ∷ xs) n zero = refl
padded (x ∷ xs) n (suc k) = padded xs n k

-- the mask's coefficients as the code has them
higher-is : (z : Circle) (c : ℕ → Bool) (places : List ℕ) → z.t ≤ 7 → length places ≡ 8 → Holds places (mask (watched_in z c)) → higher z places ≡ mask_for z c
higher-is z c places few eight holds =
    let M : List ℕ = mask (watched_in z c) in
    let long : length (higher z places) ≡ z.t = simp (length-take, length-drop) (omega arith) in
    let same : length (mask_for z c) ≡ z.t = simp (length-take, length-append, length-replicate) (omega arith) in
    ext_get_or 0 (higher z places) (mask_for z c) (long ∙ sym same) λ k lt.
    let low : k < z.t = omega arith in
    get_or-take z.t (drop 1 places) k 0 low
    ∙ (get_or-drop 1 places k 0
    ∙ (holds (1 + k) (omega arith)
    ∙ (sym (get_or-drop 1 M k 0)
    ∙ (sym (padded (drop 1 M) z.t k)
    ∙ sym (get_or-take z.t (drop 1 M ++ replicate z.t 0) k 0 low)))))

module _ (z : Circle) (fits : Fits z) (c : ℕ → Bool) (ls : List Line) (C : List (List ℕ)) (F F' : ℕ → List ℕ) (given : Given z ls (of C) F F') where
  coupled_at : (g : List ℕ) (r : Result Couple Refusal) → g ≡ mask_for z c → LinesAs z g ls C F F' r → CoupledAs z c ls (of C) F F' r
  coupled_at g (Ok both) is h =
      let suffices = paired_suffice z g ls (begun F (of C)) (begun F' (of C)) given.enough in
      record {
        opens_first = h.opens_first ∙ (right z fits ls given.well F (of C) given.figs given.enough).opened;
        opens_second =
            h.opens_second
            ∙ (ap (opens z ls F') h.pairs
            ∙ (right z fits ls given.well F' (paired_coins z g ls (begun F (of C)) (begun F' (of C))) given.figs' suffices).opened);
        pairs = h.pairs ∙ ap (λ (m : List ℕ). paired_coins z m ls (begun F (of C)) (begun F' (of C))) is;
      }
  coupled_at g (Err e) is h = h

-- lists that are known to be below p are refused for want of memory alone
pub reduced_lists : (lists : List (List ℕ)) (e : Refusal) → ((i : ℕ) → T (below (of lists i))) → (e ≡ NoMemory) ⊎ ((e ≡ OutOfRange) × (all_below lists ≡ false)) → e ≡ NoMemory
reduced_lists lists e reduced (inl memory) = memory
reduced_lists lists e reduced (inr large) = absurd (subst (λ (b : Bool). T b) large.1 (below-from-reduced lists reduced))

-- the call, with the copies that it makes
module _ (z : Circle) (fits : Fits z) (c : ℕ → Bool) (ls : List Line) (coins figures figures' : List (List ℕ)) (given : Given z ls (of coins) (of figures) (of figures'))
    (z₁ : Circle) (ls₁ : List Line) (coins₁ figures₁ figures'₁ : List (List ℕ)) (ez : z₁ ≡ z) (el : ls₁ ≡ ls) (ec : coins₁ ≡ coins) (ef : figures₁ ≡ figures) (ef' : figures'₁ ≡ figures') where
  moved : (P : Circle → List Line → List (List ℕ) → List (List ℕ) → List (List ℕ) → Type 0) → P z₁ ls₁ coins₁ figures₁ figures'₁ → P z ls coins figures figures'
  moved P h =
      subst (λ (x : List (List ℕ)). P z ls coins figures x) ef'
      (subst (λ (x : List (List ℕ)). P z ls coins x figures'₁) ef
      (subst (λ (x : List (List ℕ)). P z ls x figures₁ figures'₁) ec
      (subst (λ (x : List Line). P z x coins₁ figures₁ figures'₁) el
      (subst (λ (x : Circle). P x ls₁ coins₁ figures₁ figures'₁) ez h))))

  pub coupled : (places : List ℕ) (r : Result Couple Refusal) → length places ≡ 8 → z.t ≤ 7 → Holds places (mask (filter c (members z₁.n))) →
      LinesAs z₁ (higher z₁ places) ls₁ coins₁ (of figures₁) (of figures'₁) r → CoupledAs z c ls (of coins) (of figures) (of figures') r
  coupled places r eight few holds h =
      let masked : Holds places (mask (watched_in z c)) = subst (λ (x : Circle). Holds places (mask (filter c (members x.n)))) ez holds in
      coupled_at z fits c ls coins (of figures) (of figures') given (higher z places) r (higher-is z c places few eight masked)
      (moved (λ x xs cs fs gs. LinesAs x (higher x places) xs cs (of fs) (of gs) r) h)
