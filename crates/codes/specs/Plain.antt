-- What the plain engine's answers mean, and what its parts are lent.
use Rattle.std.specs.Prelude.{◌≡◌, List, [], ◌∷◌, ◌++◌, map, Bool, ℕ, ◌^◌, ◌≤◌, ◌<◌, length, Result, Ok, Err}
use Rattle.rules.specs.Codes as Codes
use Rattle.rules.specs.Codes.{Colour, common_makeup, terminating_of, makeup_of, codes_of}
use Rattle.rules.specs.Plain as Rule
use Rattle.rules.specs.Plain.{Candidate, agreeing, found, lost, no_code, is_code, more_bits}
use Rattle.tables.specs.Tables.{rows, code_of}
use Rattle.answer.specs.Answer.{number_of}
use Rattle.codes.specs.declared.plain.Code.{Code}
use Rattle.codes.specs.declared.plain.LostCode.{LostCode}
use Rattle.codes.specs.declared.plain.Verdict.{Verdict}
use Rattle.codes.specs.declared.plain.Verdict.TheVariants.{NoCode, IsCode, MoreBits}

abbrev pub found_of : Result Code LostCode → Rule.Found
found_of (Ok c) = found c.run c.taken
found_of (Err e) = lost (number_of e.error) e.taken

abbrev pub verdict_of : Verdict → Rule.Verdict
verdict_of NoCode = no_code
verdict_of (IsCode run) = is_code run
verdict_of MoreBits = more_bits

-- the candidates that agree with each of some bits
unfoldable pub agreed : List Bool → List Candidate → List Candidate
agreed [] cs = cs
agreed (b ∷ bs) cs = agreed bs (agreeing b cs)

-- the codes in the rows of three tables: terminating codes, a colour's own make-up codes, and the make-up codes of both colours
abbrev pub codes_in : List (List ℕ) → List (List ℕ) → List (List ℕ) → List Codes.Code
codes_in t m c = map code_of (t ++ (m ++ c))

-- the first bits of a code of `size` bits, of which `taken` are asked for as a number
pub record Words (taken word size code : ℕ) : Type 0 where
  pub few : size ≤ 13
  pub small_code : code < 2 ^ size
  pub small_word : word < 2 ^ taken

-- what `verdict` asks: the tables of a colour, and bits that were taken
pub record Asked (t m c : List (List ℕ)) (taken word : ℕ) : Type 0 where
  pub colour : Colour
  pub tables : t ++ (m ++ c) ≡ rows (codes_of colour)
  pub terminating : length t ≡ 64
  pub makeup : length m ≡ 27
  pub small_word : word < 2 ^ taken

-- what reading a code asks: the three tables are those of a colour
pub record Listed (t m c : List (List ℕ)) : Type 0 where
  pub colour : Colour
  pub terminating : t ≡ rows (terminating_of colour)
  pub makeup : m ++ rows common_makeup ≡ rows (makeup_of colour)
  pub common : c ≡ rows common_makeup
