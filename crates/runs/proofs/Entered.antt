-- A figure put in: what its parts give together.
use Rattle.std.proofs.Common.{◌≡◌, ℕ, ◌≤◌, Bool, cond, eqb, ltb, List, [], ◌∷◌, ◌++◌, map, length, get_or, take, Some, None, Ok, Err, Result, refl, ap, ◌∙◌, inl, inr, arith}
use Rattle.std.proofs.lemmas.List.{append_assoc, append-nil, get_or-take}
use Rattle.std.proofs.lemmas.Bool.{ne_eqb, le-ltb, cond-false}
use Rattle.shares.specs.Circle.{Circle}
use Rattle.shares.specs.Polynomial.{share_of}
use Rattle.sheets.specs.Drawing.{after}
use Rattle.sheets.specs.declared.line.Line.TheVariants.{Input}
use Rattle.sheets.specs.declared.refusal.Refusal.{Refusal}
use Rattle.sheets.specs.declared.refusal.Refusal.TheVariants.{NoFigure, NoCoins}
use Rattle.runs.specs.Row.{row_of}
use Rattle.runs.specs.Seen.{watched_in}
use Rattle.runs.specs.Short.{short_at}
use Rattle.runs.specs.Steps.{Dealing, DealtOut, Entered, EnteredAs}

take-one : (xs : List ℕ) → 1 ≤ length xs → take 1 xs ≡ get_or xs 0 0 ∷ []
take-one [] le = absurd (omega arith)
take-one (x ∷ xs) le = refl

pub has-enough : (z : Circle) (w : ℕ) (figures coins : ℕ → List ℕ) → 1 ≤ length (figures w) → z.t ≤ length (coins w) → short_at z (Input w) figures coins ≡ None
has-enough z w figures coins one enough =
    cond-false (eqb (length (figures w)) 0) (Some NoFigure) (cond (ltb (length (coins w)) z.t) (Some NoCoins) None) (ne_eqb (length (figures w)) 0 (λ e. omega (arith, e)))
    ∙ cond-false (ltb (length (coins w)) z.t) (Some NoCoins) None (le-ltb (length (coins w)) z.t enough)

joined_up : (seen a b d : List ℕ) → ((seen ++ a) ++ b) ++ d ≡ seen ++ (a ++ ((b ++ []) ++ ((d ++ []) ++ [])))
joined_up seen a b d = simp (append_assoc, append-nil)

pub entered : (z : Circle) (c : ℕ → Bool) (w v : ℕ) (figures figures' coins coins' : ℕ → List ℕ) (figure seen seen₁ seen₂ seen₃ row : List ℕ) →
    1 ≤ length (figures w) → figure ≡ take 1 (figures w) → v ≡ get_or figure 0 0 → figures' ≡ after w 1 figures →
    seen₁ ≡ seen ++ cond (c w) figure [] → seen₂ ≡ seen₁ ++ cond (c w) (take z.t (coins w)) [] →
    Dealing z c w v coins coins' seen₂ seen₃ row → Entered z c w figures figures' coins coins' seen seen₃ row
entered z c w v figures figures' coins coins' figure seen seen₁ seen₂ seen₃ row one is first taken n₁ n₂ d =
    let drawn : List ℕ = take z.t (coins w) in
    let u : ℕ = get_or (figures w) 0 0 in
    let v-is : v ≡ u = first ∙ (ap (λ (xs : List ℕ). get_or xs 0 0) is ∙ get_or-take 1 (figures w) 0 0 (omega arith)) in
    let own : List ℕ = cond (c w) (u ∷ []) [] in
    let e₁ : seen₁ ≡ seen ++ own = n₁ ∙ ap (λ (xs : List ℕ). seen ++ cond (c w) xs []) (is ∙ take-one (figures w) one) in
    let e₂ : seen₂ ≡ (seen ++ own) ++ cond (c w) drawn [] = n₂ ∙ ap (λ (xs : List ℕ). xs ++ cond (c w) drawn []) e₁ in
    let got : List ℕ = map (share_of u drawn) (watched_in z c) in
    let e₃ : seen₃ ≡ ((seen ++ own) ++ cond (c w) drawn []) ++ got =
    d.noted
    ∙ (ap (λ (xs : List ℕ). xs ++ map (share_of v drawn) (watched_in z c)) e₂
    ∙ ap (λ (x : ℕ). ((seen ++ own) ++ cond (c w) drawn []) ++ map (share_of x drawn) (watched_in z c)) v-is) in
    record {
      enough = has-enough z w figures coins one d.enough;
      taken = taken;
      moved = d.moved;
      sent = d.sent ∙ ap (λ (x : ℕ). row_of (share_of x drawn)) v-is;
      noted = e₃ ∙ joined_up seen own (cond (c w) drawn []) got;
    }

pub entered_as : (z : Circle) (c : ℕ → Bool) (w v : ℕ) (figures figures' coins coins' : ℕ → List ℕ) (figure seen seen₁ seen₂ seen₃ : List ℕ) (r : Result (List ℕ) Refusal) →
    1 ≤ length (figures w) → figure ≡ take 1 (figures w) → v ≡ get_or figure 0 0 → figures' ≡ after w 1 figures →
    seen₁ ≡ seen ++ cond (c w) figure [] → (z.t ≤ length (coins w)) × (seen₂ ≡ seen₁ ++ cond (c w) (take z.t (coins w)) []) →
    DealtOut z c w v coins coins' seen₂ seen₃ r → EnteredAs z c w figures figures' coins coins' seen seen₃ r
entered_as z c w v figures figures' coins coins' figure seen seen₁ seen₂ seen₃ (Ok row) one is first taken n₁ n₂ d =
    entered z c w v figures figures' coins coins' figure seen seen₁ seen₂ seen₃ row one is first taken n₁ n₂.1 d
entered_as z c w v figures figures' coins coins' figure seen seen₁ seen₂ seen₃ (Err e) one is first taken n₁ n₂ (inl m) = inl m
entered_as z c w v figures figures' coins coins' figure seen seen₁ seen₂ seen₃ (Err e) one is first taken n₁ n₂ (inr h) = absurd (omega (arith, h.1, n₂.0))
