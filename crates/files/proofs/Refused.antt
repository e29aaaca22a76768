-- What a refusal says, handed on.
use Rattle.std.proofs.Common.{◌≡◌, Ok, Err, Result}
use Rattle.sheets.specs.declared.refusal.Refusal.{Refusal}
use Rattle.sheets.specs.declared.refusal.Refusal.TheVariants.{NoMemory, Malformed}
use Rattle.std.specs.Result.{IsErrAnd}
use Rattle.files.specs.Answers.{UnlessMemory, Answers}

-- a fact that want of memory keeps open, made weaker
pub unless_weaker : (e : Refusal) (P Q : Type 0) → (P → Q) → UnlessMemory e P → UnlessMemory e Q
unless_weaker NoMemory P Q f h = tt
unless_weaker e P Q f h = f h

-- What `?` hands on where a part of a file is malformed, and so the file.
pub malformed_so : {V X : Type 0} (held : V → X) (wanted : Result X Refusal) (r : Result V Refusal) (e : Refusal) → IsErrAnd r (λ y. y ≡ e) → e ≡ Malformed → wanted ≡ Err Malformed → Answers held wanted r
malformed_so held wanted (Ok v) e h m w = absurd h
malformed_so held wanted (Err y) e h m w = rw (h, m) w
