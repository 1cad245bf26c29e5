-- A text that is laid out byte by byte.
use Rattle.std.proofs.Common.{◌≡◌, ◌+◌, ℕ, Bool, true, false, List, [], ◌∷◌, ◌++◌, length, refl, arith}
use Rattle.std.specs.Prelude.{nat_eq}
use Rattle.std.proofs.lemmas.Grind.{common_steps}
use Rattle.crew_serve.specs.Answers.{before_lines, lines_of}
use Rattle.crew_serve.specs.Machinery.Layouts.{begin_in, laid, name_at, one_at}

count-by : (starts ends : Bool) (byte : ℕ) (lines : List (List ℕ)) → nat_eq byte 10 ≡ ends → begin_in starts (length (before_lines byte lines)) ≡ one_at starts + begin_in ends (length lines)
count-by true true byte [] e = refl
count-by true true byte (l ∷ ls) e = rw e (omega arith)
count-by true false byte [] e = refl
count-by true false byte (l ∷ ls) e = rw e (omega arith)
count-by false true byte [] e = refl
count-by false true byte (l ∷ ls) e = rw e (omega arith)
count-by false false byte [] e = refl
count-by false false byte (l ∷ ls) e = rw e (omega arith)

-- how many lines a byte and the text after it have
pub count-step : (starts : Bool) (byte : ℕ) (rest : List ℕ) → begin_in starts (length (lines_of (byte ∷ rest))) ≡ one_at starts + begin_in (nat_eq byte 10) (length (lines_of rest))
count-step starts byte rest = count-by starts (nat_eq byte 10) byte (lines_of rest) refl

line-by : (starts ends : Bool) (name : List ℕ) (byte : ℕ) (lines : List (List ℕ)) → nat_eq byte 10 ≡ ends → laid starts name (before_lines byte lines) ≡ name_at starts name ++ (byte ∷ laid ends name lines)
line-by true true name byte [] e = grind (arith, common_steps)
line-by true true name byte (l ∷ ls) e = rw e (grind (arith, common_steps))
line-by true false name byte [] e = grind (arith, common_steps)
line-by true false name byte (l ∷ ls) e = rw e (grind (arith, common_steps))
line-by false true name byte [] e = grind (arith, common_steps)
line-by false true name byte (l ∷ ls) e = rw e (grind (arith, common_steps))
line-by false false name byte [] e = grind (arith, common_steps)
line-by false false name byte (l ∷ ls) e = rw e (grind (arith, common_steps))

-- .. and what is laid out of them
pub line-step : (starts : Bool) (name : List ℕ) (byte : ℕ) (rest : List ℕ) → laid starts name (lines_of (byte ∷ rest)) ≡ name_at starts name ++ (byte ∷ laid (nat_eq byte 10) name (lines_of rest))
line-step starts name byte rest = line-by starts (nat_eq byte 10) name byte (lines_of rest) refl

-- nothing is left of no lines
pub none-left : (starts : Bool) (name : List ℕ) → laid starts name [] ≡ []
none-left true name = refl
none-left false name = refl
