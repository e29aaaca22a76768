-- The numbers modulo p are a commutative ring. `simp ring` proves an identity of sums and products of
-- variables; what concerns 0, 1 and `%` is kept apart in `plain`, since the two sets undo each other.
use Rattle.std.proofs.Common.{◌≡◌, ℕ, ◌+◌, ◌-◌, ◌*◌, ◌/◌, ◌%◌, ◌<◌, sym, ap, ◌∙◌, add_assoc, mod-lt, mod-eq_of_lt, mul_assoc, mul_comm, add-mul, add_comm, mul-add, arith, lit<}
use native.Mathlib.Nat.{mod-add-mod, add-mod-mod, mod-mod, div-add-mod, mul-add-mod_self_left}
use Rattle.field.specs.Field.{p, ◌⊕◌, ◌⊗◌, neg}

mul_split : (n m k : ℕ) → m * (n / m * k) + n % m * k ≡ n * k
mul_split n m k = sym (ap (λ (x : ℕ). x + n % m * k) (mul_assoc m (n / m) k)) ∙ (sym (add-mul (m * (n / m)) (n % m) k) ∙ ap (λ (x : ℕ). x * k) (div-add-mod n m))

pub mod-mul-mod : (n m k : ℕ) → (n % m * k) % m ≡ (n * k) % m
mod-mul-mod n m k = sym (mul-add-mod_self_left m (n / m * k) (n % m * k)) ∙ ap (λ (x : ℕ). x % m) (mul_split n m k)

pub mul_mod_mod : (n m k : ℕ) → (n * (m % k)) % k ≡ (n * m) % k
mul_mod_mod n m k = ap (λ (x : ℕ). x % k) (mul_comm n (m % k)) ∙ (mod-mul-mod m k n ∙ ap (λ (x : ℕ). x % k) (mul_comm m n))

-- every result lies below p
pub ⊕-below : (a b : ℕ) → a ⊕ b < p
⊕-below a b = mod-lt (a + b) (lit< tt)

pub ⊗-below : (a b : ℕ) → a ⊗ b < p
⊗-below a b = mod-lt (a * b) (lit< tt)

pub neg-below : (a : ℕ) → neg a < p
neg-below a = mod-lt (p - a % p) (lit< tt)

-- the laws of a commutative ring
pub ⊕_comm : (a b : ℕ) → a ⊕ b ≡ b ⊕ a
⊕_comm a b = ap (λ (x : ℕ). x % p) (add_comm a b)

pub ⊕_assoc : (a b c : ℕ) → a ⊕ b ⊕ c ≡ a ⊕ (b ⊕ c)
⊕_assoc a b c = mod-add-mod (a + b) p c ∙ (ap (λ (x : ℕ). x % p) (add_assoc a b c) ∙ sym (add-mod-mod a (b + c) p))

pub ⊕_left_comm : (a b c : ℕ) → a ⊕ (b ⊕ c) ≡ b ⊕ (a ⊕ c)
⊕_left_comm a b c = sym (⊕_assoc a b c) ∙ (ap (λ (x : ℕ). x ⊕ c) (⊕_comm a b) ∙ ⊕_assoc b a c)

pub ⊗_comm : (a b : ℕ) → a ⊗ b ≡ b ⊗ a
⊗_comm a b = ap (λ (x : ℕ). x % p) (mul_comm a b)

pub ⊗_assoc : (a b c : ℕ) → a ⊗ b ⊗ c ≡ a ⊗ (b ⊗ c)
⊗_assoc a b c = mod-mul-mod (a * b) p c ∙ (ap (λ (x : ℕ). x % p) (mul_assoc a b c) ∙ sym (mul_mod_mod a (b * c) p))

pub ⊗_left_comm : (a b c : ℕ) → a ⊗ (b ⊗ c) ≡ b ⊗ (a ⊗ c)
⊗_left_comm a b c = sym (⊗_assoc a b c) ∙ (ap (λ (x : ℕ). x ⊗ c) (⊗_comm a b) ∙ ⊗_assoc b a c)

pub ⊗-⊕ : (a b c : ℕ) → a ⊗ (b ⊕ c) ≡ a ⊗ b ⊕ a ⊗ c
⊗-⊕ a b c = mul_mod_mod a (b + c) p ∙ (ap (λ (x : ℕ). x % p) (mul-add a b c) ∙ (sym (mod-add-mod (a * b) p (a * c)) ∙ sym (add-mod-mod ((a * b) % p) (a * c) p)))

pub ⊕-⊗ : (a b c : ℕ) → (a ⊕ b) ⊗ c ≡ a ⊗ c ⊕ b ⊗ c
⊕-⊗ a b c = ⊗_comm (a ⊕ b) c ∙ (⊗-⊕ c a b ∙ (ap (λ (x : ℕ). x ⊕ c ⊗ b) (⊗_comm c a) ∙ ap (λ (x : ℕ). a ⊗ c ⊕ x) (⊗_comm c b)))

pub ruleset ring = (⊕_comm, ⊕_assoc, ⊕_left_comm, ⊗_comm, ⊗_assoc, ⊗_left_comm, ⊗-⊕, ⊕-⊗)

-- `%` may be moved in and out
pub reduced : {a : ℕ} → a < p → a % p ≡ a
reduced h = mod-eq_of_lt h

pub %-⊕ : (a b : ℕ) → a % p ⊕ b ≡ a ⊕ b
%-⊕ a b = mod-add-mod a p b

pub ⊕-% : (a b : ℕ) → a ⊕ b % p ≡ a ⊕ b
⊕-% a b = add-mod-mod a b p

pub %-⊗ : (a b : ℕ) → (a % p) ⊗ b ≡ a ⊗ b
%-⊗ a b = mod-mul-mod a p b

pub ⊗-% : (a b : ℕ) → a ⊗ (b % p) ≡ a ⊗ b
⊗-% a b = mul_mod_mod a b p

pub %-% : (a : ℕ) → a % p % p ≡ a % p
%-% a = mod-mod a p

pub ⊕_mod : (a b : ℕ) → (a ⊕ b) % p ≡ a ⊕ b
⊕_mod a b = mod-mod (a + b) p

pub ⊗_mod : (a b : ℕ) → (a ⊗ b) % p ≡ a ⊗ b
⊗_mod a b = mod-mod (a * b) p

-- 0 and 1
pub 0-⊕ : (a : ℕ) → 0 ⊕ a ≡ a % p
0-⊕ a = omega arith

pub ⊕-0 : (a : ℕ) → a ⊕ 0 ≡ a % p
⊕-0 a = omega arith

pub 0-⊗ : (a : ℕ) → 0 ⊗ a ≡ 0
0-⊗ a = omega arith

pub ⊗-0 : (a : ℕ) → a ⊗ 0 ≡ 0
⊗-0 a = omega arith

pub 1-⊗ : (a : ℕ) → 1 ⊗ a ≡ a % p
1-⊗ a = omega arith

pub ⊗-1 : (a : ℕ) → a ⊗ 1 ≡ a % p
⊗-1 a = omega arith

pub ruleset plain = (%-⊕, ⊕-%, %-⊗, ⊗-%, %-%, ⊕_mod, ⊗_mod, 0-⊕, ⊕-0, 0-⊗, ⊗-0, 1-⊗, ⊗-1)

-- negatives are multiples by p - 1, which `ring` can work with
pub neg_is : (a : ℕ) → neg a ≡ (p - 1) ⊗ a
neg_is a = omega arith

pub ⊕-neg : (a : ℕ) → a ⊕ neg a ≡ 0
⊕-neg a = omega arith
