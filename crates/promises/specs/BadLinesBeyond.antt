-- Beyond A13: under which other settings, and with how little fill, a bad line of a Group 3 page still costs its own row alone.
use Rattle.std.specs.Prelude.{◌≡◌, ◌⊎◌, Bool, true, false, List, [], ◌++◌, ℕ, ◌≤◌, ◌<◌, length}
use Rattle.rules.specs.Answers.{complete, most_pixels}
use Rattle.rules.specs.Bits.{bits_of}
use Rattle.rules.specs.Pages.{most_bytes}
use Rattle.rules.specs.Damage.{Arrived, arrived_page, may_all, all_stop, Spared}
use Rattle.rules.specs.Damage2D.{Arrived2D, arrived_page_2d, may_all_2d, SparedTo1D}
use Rattle.settings.specs.declared.DecodeSettings.{DecodeSettings}
use Rattle.settings.specs.declared.EncodingMode.{EncodingMode}
use Rattle.settings.specs.declared.EncodingMode.TheVariants.{Group3_1D, Group3_2D}
use Rattle.promises.specs.Rooms.{Call, rows_of, marks_of, Reading}
use Rattle.promises.specs.BadLines.{Roomy}

-- What ends the page: the true number of rows; or its six EOLs, with end_of_block; or the data, with nothing behind the page. For the last
-- two `rows` is 0, or more than there are.
abbrev pub EndsIn : ℕ → List Bool → DecodeSettings → Type 0
EndsIn rows rest settings =
    (settings.rows ≡ rows) ⊎ (((settings.rows ≡ 0) ⊎ (rows < settings.rows)) × ((settings.end_of_block ≡ true) ⊎ (rest ≡ [])))

-- read leniently; end_of_line and alignment may be either
pub record ForBadLinesToo (encoding : EncodingMode) (columns rows : ℕ) (rest : List Bool) (settings : DecodeSettings) : Type 0 where
  pub same_columns : settings.columns ≡ columns
  pub group_3 : settings.encoding ≡ encoding
  pub lenient : settings.strict ≡ false
  pub inexact : settings.exact ≡ false
  pub ends_in : EndsIn rows rest settings

-- ---- 1D lines

-- a page as `Arrival` has it, with three zeros of fill or more, or with any fill where no bad line is read further than to its end
-- (`all_stop`)
pub record LooseArrival (columns fill : ℕ) (lines : List Arrived) (bytes : List ℕ) (settings : DecodeSettings) (c : Call) : Type 0 where
  pub wide : 0 < columns
  pub narrow : columns < most_pixels
  pub some_lines : 0 < length lines
  pub allowed : may_all columns lines ≡ true
  pub stopping : (3 ≤ fill) ⊎ (all_stop columns fill lines ≡ true)
  pub rest : List Bool
  pub there : bits_of bytes ≡ arrived_page columns fill lines ++ rest
  pub small : length bytes ≤ most_bytes
  pub set : ForBadLinesToo Group3_1D columns (length lines) rest settings
  pub reading : Reading bytes settings c
  pub roomy : Roomy (length lines) columns c

-- as many rows as lines, and each row whose line is its own is unchanged and clean
abbrev pub BadLinesBeyondA13 : Type 0
BadLinesBeyondA13 =
    (columns fill : ℕ) (lines : List Arrived) (bytes : List ℕ) (settings : DecodeSettings) (c : Call) → LooseArrival columns fill lines bytes settings c
    → (c.answer.number ≡ complete) × (c.answer.rows ≡ length lines) × Spared lines (rows_of c) (marks_of c)

-- ---- Lines with tag bits

-- a page as `Arrival2D` has it
pub record LooseArrival2D (columns fill : ℕ) (lines : List Arrived2D) (bytes : List ℕ) (settings : DecodeSettings) (c : Call) : Type 0 where
  pub wide : 0 < columns
  pub narrow : columns < most_pixels
  pub three : 3 ≤ fill
  pub some_lines : 0 < length lines
  pub allowed : may_all_2d columns lines ≡ true
  pub rest : List Bool
  pub there : bits_of bytes ≡ arrived_page_2d columns fill [] lines ++ rest
  pub small : length bytes ≤ most_bytes
  pub set : ForBadLinesToo Group3_2D columns (length lines) rest settings
  pub reading : Reading bytes settings c
  pub roomy : Roomy (length lines) columns c

-- as many rows as lines, and a bad line costs at most the rows to the next whole 1D line
abbrev pub BadLines2DBeyondA13 : Type 0
BadLines2DBeyondA13 =
    (columns fill : ℕ) (lines : List Arrived2D) (bytes : List ℕ) (settings : DecodeSettings) (c : Call) → LooseArrival2D columns fill lines bytes settings c
    → (c.answer.number ≡ complete) × (c.answer.rows ≡ length lines) × SparedTo1D false lines (rows_of c) (marks_of c)
