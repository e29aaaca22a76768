-- The numbers of refusals. Want of memory is none of the causes that a reader can mend, and has 0.
use Rattle.std.specs.Prelude.{◌≡◌, ℕ, ◌<◌, List, ◌++◌, Some, None, codes, decimal, Option}
use Rattle.sheets.specs.declared.refusal.Refusal.{Refusal}
use Rattle.sheets.specs.declared.refusal.Refusal.TheVariants.{NoMemory, Malformed, BadShape, OutOfRange, NotMadeYet, WrongAddress, OtherSheet, WrongLine, SecondGreeting, SecondShare, NoFigure, NoCoins, TooManyInputs}

abbrev pub number_of : Refusal → ℕ
number_of NoMemory = 0
number_of Malformed = 1
number_of BadShape = 2
number_of OutOfRange = 3
number_of NotMadeYet = 4
number_of WrongAddress = 5
number_of OtherSheet = 6
number_of WrongLine = 7
number_of SecondGreeting = 8
number_of SecondShare = 9
number_of NoFigure = 10
number_of NoCoins = 11
number_of TooManyInputs = 12

-- the causes, as they are told
abbrev pub cause_of : Refusal → List ℕ
cause_of NoMemory = codes "there is not enough memory"
cause_of Malformed = codes "unknown kind, bad length, or a second number that isn't 0 where there is one"
cause_of BadShape = codes "no members or more than 15, 2t + 1 above their number, or no line or more than 4096"
cause_of OutOfRange = codes "a number is too large, or there is no such member"
cause_of NotMadeYet = codes "a line names a value that is not made yet"
cause_of WrongAddress = codes "not from a member, or not to this one"
cause_of OtherSheet = codes "the sheets differ"
cause_of WrongLine = codes "no such line, or one for which this sender sends nothing"
cause_of SecondGreeting = codes "a second first envelope from a member"
cause_of SecondShare = codes "a second share for a line, or one for a line that is done"
cause_of NoFigure = codes "figures are used up"
cause_of NoCoins = codes "coins are used up"
cause_of TooManyInputs = codes "more than 1024 input lines"

-- the line that tells a refusal: its number, a colon, and the cause
abbrev pub told : Refusal → List ℕ
told e = decimal (number_of e) ++ (codes ": " ++ cause_of e)

-- of what is found, this is the lowest number
abbrev pub Lowest : (ℕ → Type 0) → ℕ → Type 0
Lowest found k = found k × ((j : ℕ) → j < k → found j → ⊥)

-- a verdict answers for what may be found: the lowest number, if and only if there is any
pub record Answers (found : ℕ → Type 0) (verdict : Option Refusal) : Type 0 where
  pub refused : (e : Refusal) → verdict ≡ Some e → Lowest found (number_of e)
  pub lowest : (e : Refusal) → Lowest found (number_of e) → verdict ≡ Some e
  pub passed : verdict ≡ None → (k : ℕ) → found k → ⊥
  pub clean : ((k : ℕ) → found k → ⊥) → verdict ≡ None
