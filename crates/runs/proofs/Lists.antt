-- Lists that are the same place by place, appended lists taken apart, and what holds of those that pass a test.
use Rattle.std.proofs.Common.{◌≡◌, ℕ, Bool, true, false, cond, T, List, [], ◌∷◌, ◌++◌, map, length, take, drop, filter, sym, refl, ap, ◌∙◌, ap₂, append_assoc}
use Rattle.std.specs.List.{flat_map, AllByRecursion as All}
use Rattle.std.proofs.lemmas.List.{take_at, drop_at}

pub both_appended : {A : Type 0} {xs xs' ys ys' : List A} → xs ≡ xs' → ys ≡ ys' → xs ++ ys ≡ xs' ++ ys'
both_appended {A} h k = ap₂ (λ (xs ys : List A). xs ++ ys) h k

pub map_same : {A B : Type 0} (f g : A → B) (xs : List A) → All (λ x. f x ≡ g x) xs → map f xs ≡ map g xs
map_same f g [] h = refl
map_same {B = B} f g (x ∷ xs) h = ap₂ (λ (y : B) (ys : List B). y ∷ ys) h.0 (map_same f g xs h.1)

pub flat_map-same : {A B : Type 0} (f g : A → List B) (xs : List A) → All (λ x. f x ≡ g x) xs → flat_map f xs ≡ flat_map g xs
flat_map-same f g [] h = refl
flat_map-same f g (x ∷ xs) h = both_appended h.0 (flat_map-same f g xs h.1)

pub split_append : {A : Type 0} (xs xs' ys ys' : List A) → length xs ≡ length xs' → xs ++ ys ≡ xs' ++ ys' → (xs ≡ xs') × (ys ≡ ys')
split_append xs xs' ys ys' len e = (
  sym (take_at xs ys (length xs') len) ∙ (ap (take (length xs')) e ∙ take_at xs' ys' (length xs') refl),
  sym (drop_at xs ys (length xs') len) ∙ (ap (drop (length xs')) e ∙ drop_at xs' ys' (length xs') refl),
)

pub map_parts : {A B : Type 0} (f g : A → B) (xs : List A) → map f xs ≡ map g xs → All (λ x. f x ≡ g x) xs
map_parts f g [] e = tt
map_parts f g (x ∷ xs) e = (cc, map_parts f g xs (cc))

pub split_flat_map : {A B : Type 0} (f g : A → List B) (xs : List A) (ys ys' : List B) → All (λ x. length (f x) ≡ length (g x)) xs → flat_map f xs ++ ys ≡ flat_map g xs ++ ys' → All (λ x. f x ≡ g x) xs × (ys ≡ ys')
split_flat_map f g [] ys ys' h e = (tt, e)
split_flat_map f g (x ∷ xs) ys ys' h e =
    let first = split_append (f x) (g x) (flat_map f xs ++ ys) (flat_map g xs ++ ys') h.0 (simp append_assoc at e) in
    let rest = split_flat_map f g xs ys ys' h.1 first.1 in
    ((first.0, rest.0), rest.1)

-- what holds of those that pass a test
kept_parts : (b : Bool) (P : ℕ → Type 0) (x : ℕ) (ys : List ℕ) → All P (cond b (x ∷ ys) ys) → (T b → P x) × All P ys
kept_parts true P x ys h = ((λ d. h.0), h.1)
kept_parts false P x ys h = ((λ d. absurd d), h)

pub of_kept : (c : ℕ → Bool) (P : ℕ → Type 0) (xs : List ℕ) → All P (filter c xs) → All (λ x. T (c x) → P x) xs
of_kept c P [] h = tt
of_kept c P (x ∷ xs) h = let k = kept_parts (c x) P x (filter c xs) h in (k.0, of_kept c P xs k.1)

kept_and : (b : Bool) (P : ℕ → Type 0) (x : ℕ) (ys : List ℕ) → (T b → P x) → All P ys → All P (cond b (x ∷ ys) ys)
kept_and true P x ys h k = (h tt, k)
kept_and false P x ys h k = k

pub to_kept : (c : ℕ → Bool) (P : ℕ → Type 0) (xs : List ℕ) → All (λ x. T (c x) → P x) xs → All P (filter c xs)
to_kept c P [] h = tt
to_kept c P (x ∷ xs) h = kept_and (c x) P x (filter c xs) h.0 (to_kept c P xs h.1)
