-- A13, carried on to tag bits: of a Group 3 2D page with at least three zeros of fill before each EOL any lines may arrive as other bits; `decode`, read leniently, gives as many rows as were sent, and a
-- bad line costs at most the rows to the next 1D line. `write_group3_2d` writes no fill, so the page is told by its bits.
use Rattle.std.specs.Prelude.{◌≡◌, Bool, true, false, List, [], ◌++◌, ℕ, ◌≤◌, ◌<◌, length}
use Rattle.rules.specs.Answers.{complete, most_pixels}
use Rattle.rules.specs.Bits.{bits_of}
use Rattle.rules.specs.Pages.{most_bytes}
use Rattle.rules.specs.Damage2D.{Arrived2D, arrived_page_2d, may_all_2d, SparedTo1D}
use Rattle.settings.specs.declared.DecodeSettings.{DecodeSettings}
use Rattle.settings.specs.declared.EncodingMode.TheVariants.{Group3_2D}
use Rattle.promises.specs.Rooms.{Call, rows_of, marks_of, Reading}
use Rattle.promises.specs.BadLines.{Roomy}

-- "`end_of_block` set and the true number of rows", "Read leniently"; exact implies strict, so it is off. Nothing is said of end_of_line and of alignment, so they may be either.
pub record ForBadLines2D (columns rows : ℕ) (settings : DecodeSettings) : Type 0 where
  pub same_columns : settings.columns ≡ columns
  pub group_3 : settings.encoding ≡ Group3_2D
  pub lenient : settings.strict ≡ false
  pub inexact : settings.exact ≡ false
  pub blocked : settings.end_of_block ≡ true
  pub counted : settings.rows ≡ rows

-- a page of lines as they arrive, the first under a white row, whatever follows it; and a call of `decode` on it
pub record Arrival2D (columns fill : ℕ) (lines : List Arrived2D) (bytes : List ℕ) (settings : DecodeSettings) (c : Call) : Type 0 where
  pub wide : 0 < columns
  pub narrow : columns < most_pixels
  pub three : 3 ≤ fill
  pub some_lines : 0 < length lines
  pub allowed : may_all_2d columns lines ≡ true
  pub rest : List Bool
  pub there : bits_of bytes ≡ arrived_page_2d columns fill [] lines ++ rest
  pub small : length bytes ≤ most_bytes
  pub set : ForBadLines2D columns (length lines) settings
  pub reading : Reading bytes settings c
  pub roomy : Roomy (length lines) columns c

-- As many rows as lines; every row before the first bad line, and every row from the next whole 1D line on up to the next bad one, is unchanged and clean (`SparedTo1D`).
abbrev pub BadLinesCostRowsTo1D : Type 0
BadLinesCostRowsTo1D =
    (columns fill : ℕ) (lines : List Arrived2D) (bytes : List ℕ) (settings : DecodeSettings) (c : Call) → Arrival2D columns fill lines bytes settings c
    → (c.answer.number ≡ complete) × (c.answer.rows ≡ length lines) × SparedTo1D false lines (rows_of c) (marks_of c)
