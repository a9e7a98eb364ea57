-- What is read of the variables, and of the lines in which the last values of operations stand.
use Rattle.std.specs.Prelude.{◌≡◌, ◌≢◌, ℕ, ◌+◌, ◌-◌, ◌<◌, ◌≤◌, ◌⊎◌, nat_lt, if◌then◌else◌, List, length, get_or, slice_get, Option, Some, None}
use Rattle.clock_machine.specs.declared.lines.program.Line.{Line}
use Rattle.clock_machine.specs.declared.lines.program.Read.{Read}
use Rattle.clock_machine.specs.declared.lines.program.Read.TheVariants as read
use Rattle.clock_machine.specs.declared.lines.registers.Registers.{Registers}

abbrev pub held : List ℕ → ℕ → ℕ
held xs i = get_or xs i 0

-- A line is a ring. Behind its head stands the value that came last, and so on; this is the place of the one that came so many values before.
abbrev pub place_back : ℕ → ℕ → ℕ → ℕ
place_back length head back = if nat_lt back head then head - back - 1 else head + length - back - 1

abbrev pub value_back : List ℕ → Line → ℕ → ℕ → ℕ
value_back words line head back = held words (line.first + place_back line.length head back)

-- the line lies within the words, its head within the line, and the line is long enough for what is read
pub record IsWithin (r : Registers) (line : Line) (number back : ℕ) : Type 0 where
  pub in_words : line.first + line.length ≤ length r.words.items
  pub head_in_line : get_or r.heads.items number 0 < line.length
  pub deep_enough : back < line.length

abbrev pub LineIsWithin : Registers → Option Line → ℕ → ℕ → Type 0
LineIsWithin r None number back = Unit {0}
LineIsWithin r (Some line) number back = IsWithin r line number back

abbrev pub ReadIsWithin : Registers → List Line → Read → Type 0
ReadIsWithin r lines (read.Constant word) = Unit {0}
ReadIsWithin r lines (read.Variable variable) = Unit {0}
ReadIsWithin r lines (read.Value number back) = LineIsWithin r (slice_get lines number) number back

abbrev pub value_in : Registers → Option Line → ℕ → ℕ → ℕ
value_in r None number back = 0
value_in r (Some line) number back = value_back r.words.items line (get_or r.heads.items number 0) back

-- what is read
abbrev pub word_read : Registers → List Line → Read → ℕ
word_read r lines (read.Constant word) = word
word_read r lines (read.Variable variable) = held r.variables.items variable
word_read r lines (read.Value number back) = value_in r (slice_get lines number) number back

-- ---- one value more

-- the place behind the head of a line
abbrev pub head_behind : ℕ → ℕ → ℕ
head_behind length head = if nat_lt (head + 1) length then head + 1 else 0

-- the line of this number, which lies within the words and has its head
pub record IsLine (r : Registers) (lines : List Line) (number : ℕ) (line : Line) : Type 0 where
  pub there : slice_get lines number ≡ Some line
  pub has_head : number < length r.heads.items
  pub in_words : line.first + line.length ≤ length r.words.items
  pub head_in_line : get_or r.heads.items number 0 < line.length

-- no word is in both lines
abbrev pub AreApart : Line → Line → Type 0
AreApart line other = (line.first + line.length ≤ other.first) ⊎ (other.first + other.length ≤ line.first)

-- there are as many variables, words and heads
pub record SameSizes (old new : Registers) : Type 0 where
  pub variables : length new.variables.items ≡ length old.variables.items
  pub words : length new.words.items ≡ length old.words.items
  pub heads : length new.heads.items ≡ length old.heads.items

-- the value went into the line of this number, and nothing else changed
pub record HasPushed (old new : Registers) (lines : List Line) (number word : ℕ) : Type 0 where
  pub last : (line : Line) → IsLine old lines number line → value_in new (Some line) number 0 ≡ word
  pub earlier : (line : Line) (back : ℕ) → IsLine old lines number line → back + 1 < line.length → value_in new (Some line) number (back + 1) ≡ value_in old (Some line) number back
  pub others : (line other : Line) (k back : ℕ) → IsLine old lines number line → k ≢ number → AreApart line other → IsWithin old other k back → value_in new (Some other) k back ≡ value_in old (Some other) k back
  pub lines_stay : (line other : Line) (k : ℕ) → IsLine old lines number line → IsLine old lines k other → IsLine new lines k other
  pub variables : new.variables ≡ old.variables
