-- Beyond the order: a row that `decode` hands over, from any data and with any settings, can be written under the row before it, and is read back as it is.
-- So no reading makes a row for which there is no line.
use Rattle.std.specs.Prelude.{◌≡◌, Bool, List, [], ◌∷◌, ◌++◌, ℕ, ◌+◌, ◌*◌, ◌≤◌, length, take}
use Rattle.rules.specs.Answers.{complete, most_pixels}
use Rattle.rules.specs.Lines.{two}
use Rattle.rules.specs.Pages.{most_bytes}
use Rattle.rules.specs.Write.{line_bits, rows_in, write_line}
use Rattle.answer.specs.declared.Answer.{Answer}
use Rattle.settings.specs.declared.DecodeSettings.{DecodeSettings}
use Rattle.one_line.specs.OneLine.{ReadOne}
use Rattle.writer.specs.Outcome.{Answers}
use Rattle.ccitt.specs.Decode.{Decodes}
use Rattle.promises.specs.Demand3.{Back}

-- a row that the page handed over, and the one before it; before the first row stands the white one
abbrev pub Follows : List (List ℕ) → List ℕ → List ℕ → Type 0
Follows rows reference row = (before after : List (List ℕ)) × ([] ∷ rows ≡ before ++ (reference ∷ row ∷ after))

-- where its line fits the output, `write_line` writes it, and `read_line` reads it back
abbrev pub RowsGoBack : Type 0
RowsGoBack =
    (bytes : List ℕ) (settings : DecodeSettings) (changes ends marks : List ℕ) (r : Answer) (changes' ends' marks' : List ℕ) → settings.columns ≤ most_pixels
    → Decodes bytes settings changes ends marks r changes' ends' marks'
    → (reference row : List ℕ) → Follows (rows_in 0 changes' (take r.rows ends')) reference row
    → (out : List ℕ) (at : ℕ) (w : Answer) (out' : List ℕ) → length out ≤ most_bytes
    → at + length (line_bits settings.columns (two reference) row) ≤ 8 * length out
    → Answers (write_line settings.columns reference row out at) out w out'
    → (w.number ≡ complete)
    × ((strict : Bool) (store : List ℕ) (s : Answer) (store' : List ℕ) → length row ≤ length store
    → ReadOne out' at settings.columns strict reference store s store' → Back row w.bytes s store')
