-- One list for each member: what a change of one list does to all.
use Rattle.std.proofs.Common.{◌≡◌, ℕ, zero, suc, ◌-◌, ◌<◌, ◌≤◌, Bool, true, false, cond, eqb, ◌⊎◌, List, [], ◌∷◌, length, get_or, drop, set, sym, refl, ap, ◌∙◌, inl, inr, ⊎_elim, arith, Bor}
use mathlib.Core.Path.{fun_ext}
use Rattle.std.proofs.lemmas.List.{map-set, length-map, get_or-set_same, get_or-set_other, get_or_past}
use Rattle.std.proofs.lemmas.Bool.{eq-eqb, ne_eqb, cases_eq, cond-true, cond-false}
use Rattle.sheets.specs.Drawing.{after}
use Rattle.sheets.specs.Families.{family, of}

cond_same : (b : Bool) (xs : List ℕ) → cond b (drop 0 xs) xs ≡ xs
cond_same true xs = refl
cond_same false xs = refl

-- the list at a place, whatever the default holds
pub at_place : (slices : List (Bor (List ℕ))) (k : ℕ) (d : Bor (List ℕ)) → d.now ≡ [] → (get_or slices k d).now ≡ get_or (family slices) k []
at_place [] k d e = e
at_place (s ∷ slices) zero d e = refl
at_place (s ∷ slices) (suc k) d e = at_place slices k d e

pub of-member : (lists : List (List ℕ)) (w : ℕ) → (w ≡ 0 → ⊥) → of lists w ≡ get_or lists (w - 1) []
of-member lists zero ne = absurd (ne refl)
of-member lists (suc k) ne =
    let e : suc k - 1 ≡ k = omega arith in ap (λ (j : ℕ). get_or lists j []) (sym e)

pub of_past : (lists : List (List ℕ)) (w : ℕ) → length lists < w → of lists w ≡ []
of_past lists zero lt = refl
of_past lists (suc k) lt = get_or_past lists k [] (omega arith)

changed_at : (lists : List (List ℕ)) (j k : ℕ) (ys : List ℕ) (count : ℕ) → k < length lists → ys ≡ drop count (get_or lists k []) → get_or (set lists k ys) j [] ≡ after (suc k) count (of lists) (suc j)
changed_at lists j k ys count lt e =
    ⊎_elim
    (λ same.
    ap (λ (i : ℕ). get_or (set lists k ys) i []) same
    ∙ (get_or-set_same lists k ys [] lt
    ∙ (e ∙ (ap (λ (i : ℕ). drop count (get_or lists i [])) (sym same)
    ∙ sym (cond-true (eqb (suc j) (suc k)) (drop count (get_or lists j [])) (get_or lists j []) (eq-eqb (suc j) (suc k) (ap suc same)))))))
    (λ other.
    get_or-set_other lists k j ys [] other
    ∙ sym (cond-false (eqb (suc j) (suc k)) (drop count (get_or lists j [])) (get_or lists j []) (ne_eqb (suc j) (suc k) (λ q. other (omega (arith, q))))))
    (cases_eq j k)

of-set_at : (lists : List (List ℕ)) (k : ℕ) (ys : List ℕ) (count : ℕ) → k < length lists → ys ≡ drop count (get_or lists k []) → (i : ℕ) → of (set lists k ys) i ≡ after (suc k) count (of lists) i
of-set_at lists k ys count lt e zero = sym (cond-false (eqb 0 (suc k)) (drop count []) [] (ne_eqb 0 (suc k) (λ q. omega (arith, q))))
of-set_at lists k ys count lt e (suc j) = changed_at lists j k ys count lt e

pub of-set : (lists : List (List ℕ)) (w : ℕ) (ys : List ℕ) (count : ℕ) → (w ≡ 0 → ⊥) → w ≤ length lists → ys ≡ drop count (of lists w) → of (set lists (w - 1) ys) ≡ after w count (of lists)
of-set lists zero ys count ne le e = absurd (ne refl)
of-set lists (suc k) ys count ne le e =
    let back : suc k - 1 ≡ k = omega arith in
    ap (λ (i : ℕ). of (set lists i ys)) back ∙ fun_ext (of-set_at lists k ys count (omega arith) e)

-- no numbers drawn from a list change nothing
pub after_none : (w : ℕ) (lists : ℕ → List ℕ) → lists ≡ after w 0 lists
after_none w lists = fun_ext (λ (i : ℕ). sym (cond_same (eqb i w) (lists i)))

pub of_nobody : (slices : List (Bor (List ℕ))) (w : ℕ) → (w ≡ 0) ⊎ (length slices < w) → of (family slices) w ≡ []
of_nobody slices w (inl e) = ap (of (family slices)) e
of_nobody slices w (inr lt) = of_past (family slices) w (omega (arith, length-map slices (λ (r : Bor (List ℕ)). r.now)))

-- what a slice's place holds is the member's list
pub of_slice : (slices : List (Bor (List ℕ))) (w : ℕ) (d : Bor (List ℕ)) → d.now ≡ [] → (w ≡ 0 → ⊥) → (get_or slices (w - 1) d).now ≡ of (family slices) w
of_slice slices w d e ne = at_place slices (w - 1) d e ∙ sym (of-member (family slices) w ne)

pub of-set_slice : (slices : List (Bor (List ℕ))) (w : ℕ) (r : Bor (List ℕ)) (count : ℕ) → (w ≡ 0 → ⊥) → w ≤ length slices → r.now ≡ drop count (of (family slices) w) → of (family (set slices (w - 1) r)) ≡ after w count (of (family slices))
of-set_slice slices w r count ne le e =
    ap of (map-set (λ (x : Bor (List ℕ)). x.now) slices (w - 1) r)
    ∙ of-set (family slices) w r.now count ne (omega (arith, length-map slices (λ (x : Bor (List ℕ)). x.now))) e
