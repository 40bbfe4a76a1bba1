-- What a person looks at: no byte of a name is taken for a mark of HTML, and a picture that is written in parts reads back whole.
use Rattle.std.specs.Prelude.{◌≡◌, Bool, true, List, ◌++◌, ℕ, ◌%◌, ◌<◌, length, get_or}
use Rattle.look.specs.Escaped.{is_mark, escaped}
use Rattle.look.specs.Base64.{base64, bytes_of, Encodes}
use Rattle.look.specs.Pieces.{Tells}
use Rattle.promises.specs.OneAnswer.{OneWith}

-- `<`, `>` and the two quotes stand nowhere in a name as it is written; `&` stands there in references alone
abbrev pub NamesAreNoMarks : Type 0
NamesAreNoMarks = (m : ℕ) → is_mark m ≡ true → (m ≡ 38 → ⊥) → (name : List ℕ) (i : ℕ) → get_or (escaped name) i 0 ≡ m → ⊥

-- bytes in base 64 are read as they were
abbrev pub PicturesReadBack : Type 0
PicturesReadBack = (bytes : List ℕ) → ((i : ℕ) → get_or bytes i 0 < 256) → bytes_of (base64 bytes) ≡ bytes

-- parts of whole groups of three bytes are, one behind the other, the code of the whole
abbrev pub PartsAreTheWhole : Type 0
PartsAreTheWhole = (front rest : List ℕ) → length front % 3 ≡ 0 → base64 (front ++ rest) ≡ base64 front ++ base64 rest

-- the pieces of the file, and the bytes in base 64: how many bytes each has, and every byte of the array
abbrev pub PiecesPinned : Type 0
PiecesPinned = (can : Bool) (name : ℕ) (text before : List ℕ) → OneWith (Tells can name text before)

abbrev pub Base64Pinned : Type 0
Base64Pinned = (bytes before : List ℕ) → OneWith (Encodes bytes before)
