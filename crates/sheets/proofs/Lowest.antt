-- Tests in the order of their numbers give the lowest number found.
use Rattle.std.proofs.Common.{◌≡◌, ℕ, ◌<◌, Bool, true, false, cond, eqb, ◌⊎◌, Some, None, Decides, Option, sym, refl, ap, ◌∙◌, subst, inl, inr, ⊎_elim, arith}
use Rattle.std.proofs.lemmas.Bool.{cases_order}
use Rattle.sheets.specs.Refusals.{number_of, Lowest, Answers}
use Rattle.sheets.specs.declared.refusal.Refusal.{Refusal}
use Rattle.sheets.specs.declared.refusal.Refusal.TheVariants.{NoMemory, Malformed, BadShape, OutOfRange, NotMadeYet, WrongAddress, OtherSheet, WrongLine, SecondGreeting, SecondShare, NoFigure, NoCoins, TooManyInputs}

-- a refusal by its number
refusal_at : ℕ → Refusal
refusal_at k =
    cond (eqb k 1) Malformed (cond (eqb k 2) BadShape (cond (eqb k 3) OutOfRange (cond (eqb k 4) NotMadeYet
    (cond (eqb k 5) WrongAddress (cond (eqb k 6) OtherSheet (cond (eqb k 7) WrongLine (cond (eqb k 8) SecondGreeting
    (cond (eqb k 9) SecondShare (cond (eqb k 10) NoFigure (cond (eqb k 11) NoCoins (cond (eqb k 12) TooManyInputs NoMemory)))))))))))

at_number : (e : Refusal) → refusal_at (number_of e) ≡ e
unfolding refusal_at
at_number NoMemory = refl
at_number Malformed = refl
at_number BadShape = refl
at_number OutOfRange = refl
at_number NotMadeYet = refl
at_number WrongAddress = refl
at_number OtherSheet = refl
at_number WrongLine = refl
at_number SecondGreeting = refl
at_number SecondShare = refl
at_number NoFigure = refl
at_number NoCoins = refl
at_number TooManyInputs = refl

pub same_number : (e f : Refusal) → number_of e ≡ number_of f → e ≡ f
same_number e f h = sym (at_number e) ∙ (ap refusal_at h ∙ at_number f)

lowest_once : (found : ℕ → Type 0) (j k : ℕ) → Lowest found j → Lowest found k → j ≡ k
lowest_once found j k hj hk =
    ⊎_elim (λ e. e) (λ o. ⊎_elim (λ lt. absurd (hk.1 j lt hj.0)) (λ lt. absurd (hj.1 k lt hk.0)) o) (cases_order j k)

-- what a verdict says suffices: the rest of `Answers` follows
unfoldable pub Tells : (ℕ → Type 0) → Option Refusal → Type 0
Tells found None = (k : ℕ) → found k → ⊥
Tells found (Some e) = Lowest found (number_of e)

some_same : (e f : Refusal) → Some e ≡ Some f → e ≡ f
some_same e f h = cc

some_none : (e : Refusal) → Some e ≡ None → ⊥
some_none e h = let z : ◌≡◌ {A = ℕ} 0 1 = cc in omega arith

pub answers : (found : ℕ → Type 0) (v : Option Refusal) → Tells found v → Answers found v
unfolding Tells
answers found None h = record {
  refused = λ e q. absurd (some_none e (sym q));
  lowest = λ e low. absurd (h (number_of e) low.0);
  passed = λ q. h;
  clean = λ q. refl;
}
answers found (Some f) h = record {
  refused = λ e q. subst (λ (g : Refusal). Lowest found (number_of g)) (some_same f e q) h;
  lowest = λ e low. ap Some (same_number f e (lowest_once found (number_of f) (number_of e) h low));
  passed = λ q. absurd (some_none f q);
  clean = λ no'. absurd (no' (number_of f) h.0);
}

-- found by the test of one refusal, or by later ones
abbrev pub Or : Refusal → Type 0 → (ℕ → Type 0) → ℕ → Type 0
Or f P later k = ((k ≡ number_of f) × P) ⊎ later k

not_found : (P : Type 0) → Decides false P → P → ⊥
not_found P d h = let z : ◌≡◌ {A = ℕ} 0 1 = (let q : false ≡ true = d.1 h in cc) in omega arith

pub tells_last : (b : Bool) (f : Refusal) (P : Type 0) → Decides b P → Tells (λ k. (k ≡ number_of f) × P) (cond b (Some f) None)
unfolding Tells
tells_last true f P d = ((refl, d.0 refl), λ j lt q. absurd (omega (arith, q.0)))
tells_last false f P d = λ k q. not_found P d q.1

lifted : (f : Refusal) (P : Type 0) (later : ℕ → Type 0) (v : Option Refusal) → (P → ⊥) → Tells later v → Tells (Or f P later) v
unfolding Tells
lifted f P later None no' h = λ k q. ⊎_elim (λ e. no' e.1) (h k) q
lifted f P later (Some e) no' h = (inr h.0, λ j lt q. ⊎_elim (λ r. no' r.1) (h.1 j lt) q)

pub tells_first : (b : Bool) (f : Refusal) (P : Type 0) (later : ℕ → Type 0) (v : Option Refusal) → Decides b P → ((k : ℕ) → later k → number_of f < k) → Tells later v → Tells (Or f P later) (cond b (Some f) v)
unfolding Tells
tells_first true f P later v d above h =
    (inl (refl, d.0 refl), λ j lt q. ⊎_elim (λ r. absurd (omega (arith, r.0))) (λ l. absurd (omega (arith, above j l))) q)
tells_first false f P later v d above h = lifted f P later v (not_found P d) h
