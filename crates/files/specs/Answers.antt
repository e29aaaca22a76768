-- The answer of a reader: exactly what the bytes hold, or why they are refused, unless memory ran out.
use Rattle.std.specs.Prelude.{◌≡◌, Ok, Err, Result}
use Rattle.sheets.specs.declared.refusal.Refusal.{Refusal}
use Rattle.sheets.specs.declared.refusal.Refusal.TheVariants.{NoMemory}

-- a fact that want of memory keeps open
abbrev pub UnlessMemory : Refusal → Type 0 → Type 0
UnlessMemory NoMemory P = Unit {0}
UnlessMemory e P = P

-- `wanted` is what is to come of the bytes, and `held` is what a value that the code gives holds
abbrev pub Answers : {V X : Type 0} → (V → X) → Result X Refusal → Result V Refusal → Type 0
Answers held wanted (Ok v) = wanted ≡ Ok (held v)
Answers held wanted (Err e) = UnlessMemory e (wanted ≡ Err e)
