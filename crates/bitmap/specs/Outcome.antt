-- What painting and reading answer and leave.
use Rattle.std.specs.Prelude.{◌≡◌, Option, None, Some, List, [], ℕ}
use Rattle.rules.specs.Pages as Page
use Rattle.rules.specs.Pages.{changes_after, ends_after}
use Rattle.answer.specs.Answer.{answer_of}
use Rattle.answer.specs.declared.Answer.{Answer}
use Rattle.bitmap.specs.Packed.{Painted}

-- the number of a refusal, or nothing where the tests give 0
abbrev pub Refuses : ℕ → Option ℕ → Type 0
Refuses n None = n ≡ 0
Refuses n (Some k) = (k ≡ n) × (k ≡ 0 → ⊥)

-- A painter keeps no rows: its 0 gives the byte after the last row, and its other counts are 0.
abbrev pub answer_for : ℕ → ℕ → Answer
answer_for number end = answer_of (record { number = number; place = 0; bytes = end; rows = []; marks = []; loose = [] })

-- The answer and every byte are those of a definition.
pub record Paints (p : Painted) (r : Answer) (out' : List ℕ) : Type 0 where
  pub answer : r ≡ answer_for p.number p.end
  pub bytes : out' ≡ p.bytes

-- The answer and every entry are those of a definition.
pub record Unpaints (a : Page.Answer) (changes ends : List ℕ) (r : Answer) (changes' ends' : List ℕ) : Type 0 where
  pub answer : r ≡ answer_of a
  pub entered : changes' ≡ changes_after a changes
  pub ended : ends' ≡ ends_after a ends
