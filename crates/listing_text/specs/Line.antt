-- The line of settings, and when bytes begin with one (01 "Sheets on the wall"; 02, A12, A14).
use Rattle.std.specs.Prelude.{◌≡◌, Bool, true, false, Option, Some, None, List, [], ◌∷◌, ◌++◌, ℕ, ◌-◌, ◌≤◌, length, drop, replicate}
use Rattle.rules.specs.Rows.{Encoding, group4, group3_1_d, group3_2_d, Settings}
use Rattle.settings.specs.Settings.{settings_of}
use Rattle.listing_text.specs.Text.{tab, newline, decimal}
use Rattle.listing_text.specs.declared.settings_line.Parsed.{Parsed}

-- the byte behind a number: "parted by tabs and ended by a line feed"
abbrev pub mark : List ℕ → ℕ
mark [] = newline
mark (n ∷ ns) = tab

unfoldable pub parted : List ℕ → List ℕ
parted [] = []
parted (n ∷ ns) = decimal n ++ mark ns ∷ parted ns

-- "flags 0 or 1; encoding 0 Group 4, 1 Group 3 1D, 2 Group 3 2D"
abbrev pub flag : Bool → ℕ
flag false = 0
flag true = 1

abbrev pub encoding_number : Encoding → ℕ
encoding_number group4 = 0
encoding_number group3_1_d = 1
encoding_number group3_2_d = 2

-- "in `DecodeSettings` order"; exact "is the listing program's eighth" (A12); the engine, which no rule knows, "a ninth setting, 0 lookup or 1 plain" (A14)
unfoldable pub settings_numbers : Settings → Bool → List ℕ
settings_numbers S plain =
    S.columns
    ∷ S.rows
    ∷ flag S.end_of_block
    ∷ flag S.end_of_line
    ∷ flag S.aligned
    ∷ encoding_number S.encoding
    ∷ flag S.strict
    ∷ flag S.exact
    ∷ flag plain
    ∷ []

-- a line's numbers, and for each that it lacks of nine a 0: "0 if missing", "0 lookup (also if missing)"
abbrev pub filled : List ℕ → List ℕ
filled ns = ns ++ replicate (9 - length ns) 0

-- the numbers of a line that says these settings and this engine: only those behind the seventh may be missing, the last first
pub record NumbersOf (S : Settings) (plain : Bool) (ns : List ℕ) : Type 0 where
  pub seven : 7 ≤ length ns
  pub all : filled ns ≡ settings_numbers S plain

-- a number that `DecodeSettings` can hold
abbrev pub Held : ℕ → Type 0
Held n = n ≤ 4294967295

-- bytes that begin with a line of settings whose numbers can be held
pub record Begins (bytes : List ℕ) (S : Settings) (plain : Bool) (rest : List ℕ) : Type 0 where
  pub columns : Held S.columns
  pub rows : Held S.rows
  pub numbers : List ℕ
  pub said : NumbersOf S plain numbers
  pub text : bytes ≡ parted numbers ++ rest

-- the settings that bytes begin with, the engine among them, and where the rest starts; or there are none
abbrev pub Says : List ℕ → Option Parsed → Type 0
Says bytes (Some p) = Begins bytes (settings_of p.settings) p.settings.plain (drop p.at bytes) × (p.at ≤ length bytes)
Says bytes None = (S : Settings) (plain : Bool) (rest : List ℕ) → Begins bytes S plain rest → ⊥
