-- Small pages and the units that each has (02, A9), as one table. That all are right is proved (proofs/UnitSheets.antt).
use Rattle.std.specs.Prelude.{Bool, true, false, ◌&&◌, List, [], ◌∷◌, ℕ, eqb}
use Rattle.rules.specs.Bits.{bits_of}
use Rattle.rules.specs.Rows.{group4, Settings}
use Rattle.rules.specs.Sheets.{set_for}
use Rattle.rules.specs.Units.{page_units}

pub data UnitSheet : Type 0 where
  -- columns, rows, end_of_block, data; the units of the page, read strictly with room for 8 changes and 8 row ends
  Units : ℕ → ℕ → Bool → List ℕ → ℕ → UnitSheet
  -- columns, rows, data; its units read exactly (A12): an idle code, which is at fault, is one too, and its runs are
  Exact : ℕ → ℕ → List ℕ → ℕ → UnitSheet

unfoldable pub unit_sheets : List UnitSheet
unit_sheets =
    -- one white row and EOFB: V0, EOL, EOL
    Units 8 0 true (0x80 ∷ 0x08 ∷ 0x00 ∷ 0x80 ∷ []) 3 ∷
    -- EOFB alone; and a third EOL behind it, which is not read
    Units 8 0 true (0x00 ∷ 0x10 ∷ 0x01 ∷ []) 2 ∷
    Units 8 0 true (0x00 ∷ 0x10 ∷ 0x01 ∷ 0x00 ∷ 0x10 ∷ []) 2 ∷
    -- no data
    Units 8 0 false [] 0 ∷
    -- V0, and a mode code that fails; with rows 1 the page is over before it
    Units 8 0 false (0x80 ∷ []) 2 ∷
    Units 8 1 false (0x80 ∷ []) 1 ∷
    -- VL3 that answers 3; VL3 to 0, and a mode code that answers 2
    Units 2 0 false (0x04 ∷ []) 1 ∷
    Units 3 0 false (0x04 ∷ []) 2 ∷
    -- horizontal, white 3, black 2, V0
    Units 8 1 false (0x31 ∷ 0xc0 ∷ []) 4 ∷
    -- horizontal, white 64 and 0, black 36
    Units 100 1 false (0x3b ∷ 0x35 ∷ 0x0d ∷ 0x40 ∷ []) 4 ∷
    -- EOL, V0, and an EOL that is read before `rows` ends the page
    Units 8 1 false (0x00 ∷ 0x18 ∷ 0x00 ∷ 0x80 ∷ []) 3 ∷
    -- V0, and a mode code that fails in zeros without a closing one, which are no EOL
    Units 8 0 false (0x80 ∷ 0x00 ∷ 0x00 ∷ []) 2 ∷
    -- horizontal, white 0, black 0, which is idle
    Exact 8 1 (0x26 ∷ 0xa1 ∷ 0xbc ∷ []) 3 ∷
    -- horizontal, white 0, black 3, V0; V0 to 0, and VL3, which goes back there
    Exact 8 2 (0x26 ∷ 0xb6 ∷ 0x08 ∷ []) 6 ∷
    []

abbrev pub exact_for : ℕ → ℕ → Settings
exact_for columns rows =
    record { columns = columns; rows = rows; end_of_block = false; end_of_line = false; aligned = false; encoding = group4; strict = true; exact = true }

unfoldable pub units_right : List UnitSheet → Bool
units_right [] = true
units_right (Units columns rows eob bytes units ∷ l) = eqb (page_units (set_for columns rows eob true) (bits_of bytes) 8 8) units && units_right l
units_right (Exact columns rows bytes units ∷ l) = eqb (page_units (exact_for columns rows) (bits_of bytes) 8 8) units && units_right l
