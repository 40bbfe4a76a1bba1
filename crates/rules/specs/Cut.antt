-- A Group 3 1D page with EOLs whose data is cut anywhere (02 A13, carried on): which rows it gives, and what tells that it was cut.
use Rattle.std.specs.Prelude.{◌≡◌, Bool, false, List, [], ◌∷◌, ◌++◌, ◌⊎◌, ℕ, ◌+◌, ◌<◌, length, replicate}
use Rattle.rules.specs.Lines.{one}
use Rattle.rules.specs.Rows.{recovered_mark}
use Rattle.rules.specs.Write.{line_bits, eol_bits}
use Rattle.rules.specs.Damage.{owns, up_to}

module _ (width fill : ℕ) where
  -- The cut fell between two lines: right behind the last of these rows' lines, of which there are some, or right behind the EOL that follows it. So no row is cut, and nothing but the number of rows
  -- tells.
  abbrev pub BetweenLines : List (List ℕ) → List Bool → Type 0
  BetweenLines first bits = (0 < length first) × ((bits ++ (replicate fill false ++ eol_bits) ≡ up_to width fill (owns first)) ⊎ (bits ≡ up_to width fill (owns first)))

  -- the cut fell before the end of the line behind these rows, if there is one: all lines that arrived whole are theirs
  abbrev pub CutBefore : List (List ℕ) → List (List ℕ) → List Bool → Type 0
  CutBefore first [] bits = Unit {0}
  CutBefore first (r ∷ rs) bits = length bits < length (up_to width fill (owns first)) + length (line_bits width one r)

  -- Of a page of these rows only the bits arrived: the answer's number, the rows given, and their marks.
  pub data CutTold (rows : List (List ℕ)) (bits : List Bool) : ℕ → List (List ℕ) → List ℕ → Type 0 where
    -- The page's own first rows, each clean, and the number is not 0; or it is 0, and they are all its rows, or the cut fell between two lines. All that arrived whole are there, unless the store is too
    -- small (4, 5).
    first_rows : {number : ℕ} (first last : List (List ℕ)) → rows ≡ first ++ last
        → (number ≡ 0 → (last ≡ []) ⊎ BetweenLines first bits) → ((number ≡ 4 → ⊥) → (number ≡ 5 → ⊥) → CutBefore first last bits)
        → CutTold rows bits number first (replicate (length first) 0)
    -- Or behind them the row in which the cut fell, marked as recovered; behind the page's last row it is a cut RTC's.
    marked : {number : ℕ} (first last : List (List ℕ)) (row : List ℕ) → rows ≡ first ++ last → CutBefore first last bits
        → CutTold rows bits number (first ++ row ∷ []) (replicate (length first) 0 ++ recovered_mark ∷ [])
