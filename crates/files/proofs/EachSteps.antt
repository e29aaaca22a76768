-- What n members bring, as a loop over them meets it: what was read so far, and what is left.
use Rattle.std.proofs.Common.{◌≡◌, ℕ, suc, ◌+◌, ◌-◌, ◌<◌, ◌≤◌, List, [], ◌∷◌, ◌++◌, map, length, Some, None, Option, sym, refl, ap, ◌∙◌, ap₂, arith}
use Rattle.std.proofs.lemmas.List.{append_assoc, append-nil, nil_from_length, map_push}
use Rattle.std.specs.Option.{option_map, option_and_then}
use Rattle.files.specs.Circles.{Got, each, Member, Given, gathered}

abbrev pub prefixed : {X : Type 0} → List X → Option (List X) → Option (List X)
prefixed done o = option_map (λ xs. done ++ xs) o

prefixed_cons : {X : Type 0} (done : List X) (x : X) (o : Option (List X)) → prefixed done (option_map (λ xs. x ∷ xs) o) ≡ prefixed (done ++ x ∷ []) o
prefixed_cons done x None = refl
prefixed_cons done x (Some xs) = ap (λ l. Some l) (sym (append_assoc done (x ∷ []) xs))

prefixed_nil : {X : Type 0} (o : Option (List X)) → prefixed [] o ≡ o
prefixed_nil None = refl
prefixed_nil (Some xs) = refl

module _ {X : Type 0} (one : List ℕ → Option (Got X)) (n : ℕ) where
  -- with i members read, the invariant
  abbrev pub So : ℕ → List X → List ℕ → List ℕ → Type 0
  So i done rest bytes = prefixed done (each one (n - i) rest) ≡ each one n bytes

  each-suc : (i : ℕ) (rest : List ℕ) → i < n → each one (n - i) rest ≡ option_and_then (λ g. option_map (λ xs. g.what ∷ xs) (each one (n - (i + 1)) g.rest)) (one rest)
  unfolding each
  each-suc i rest h = let e : n - i ≡ suc (n - (i + 1)) = omega arith in rw e

  pub each_more : (i : ℕ) (done new : List X) (rest bytes : List ℕ) (x : X) (after : List ℕ) → i < n → one rest ≡ Some (record { what = x; rest = after }) → new ≡ done ++ x ∷ [] → So i done rest bytes → So (i + 1) new after bytes
  each_more i done new rest bytes x after h e q inv =
      let first : each one (n - i) rest ≡ option_map (λ xs. x ∷ xs) (each one (n - (i + 1)) after) = rw e at (each-suc i rest h) in
      rw q (sym (prefixed_cons done x (each one (n - (i + 1)) after)) ∙ (ap (prefixed done) (sym first) ∙ inv))

  pub each_stop : (i : ℕ) (done : List X) (rest bytes : List ℕ) → i < n → one rest ≡ None → So i done rest bytes → each one n bytes ≡ None
  each_stop i done rest bytes h e inv =
      let first : each one (n - i) rest ≡ None = rw e at (each-suc i rest h) in
      sym inv ∙ ap (prefixed done) first

  each-zero-cons : (rest : List ℕ) → 0 < length rest → each one 0 rest ≡ None
  unfolding each
  each-zero-cons [] h = absurd (omega arith)
  each-zero-cons (b ∷ rest) h = refl

  each-zero-nil : (rest : List ℕ) → length rest ≡ 0 → each one 0 rest ≡ Some []
  unfolding each
  each-zero-nil rest h = rw (nil_from_length rest h)

  pub each_left : (i : ℕ) (done : List X) (rest bytes : List ℕ) → n ≤ i → 0 < length rest → So i done rest bytes → each one n bytes ≡ None
  each_left i done rest bytes h some inv =
      let e : n - i ≡ 0 = omega arith in
      sym inv ∙ rw (e, each-zero-cons rest some)

  pub each_all : (i : ℕ) (done : List X) (rest bytes : List ℕ) → n ≤ i → length rest ≡ 0 → So i done rest bytes → each one n bytes ≡ Some done
  each_all i done rest bytes h none inv =
      let e : n - i ≡ 0 = omega arith in
      sym inv ∙ (rw (e, each-zero-nil rest none, append-nil done))

-- one more list, where f takes a list out of an element
pub one_more : {X : Type 0} (f : X → List ℕ) (new old : List X) (x : X) (xs : List ℕ) → new ≡ old ++ x ∷ [] → f x ≡ xs → map f new ≡ map f old ++ xs ∷ []
one_more f new old x xs n e = rw (n, map_push f old x, e)

pub gathered_more : (done : List Member) (m : Member) (g h : Given) → gathered done ≡ g → h.figures ≡ g.figures ++ m.figures ∷ [] → h.coins ≡ g.coins ++ m.coins ∷ [] → gathered (done ++ m ∷ []) ≡ h
gathered_more done m g h e f c =
    ap₂ (λ (a b : List (List ℕ)). record { figures = a; coins = b })
    (map_push (λ (n : Member). n.figures) done m ∙ (ap (λ (k : Given). k.figures ++ m.figures ∷ []) e ∙ sym f))
    (map_push (λ (n : Member). n.coins) done m ∙ (ap (λ (k : Given). k.coins ++ m.coins ∷ []) e ∙ sym c))
