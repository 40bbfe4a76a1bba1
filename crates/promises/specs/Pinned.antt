-- Pinning the answers down: any two answers, with the arrays after them, that a contract permits are equal. So no impostor fits: not one that refuses everything,
-- nor one with a fixed answer, nor one that writes nothing, nor one that invents counts.
use Rattle.std.specs.Prelude.{◌≡◌, Bool, List, ℕ, ◌<◌, get_or}
use Rattle.rules.specs.Write.{Written}
use Rattle.answer.specs.declared.Answer.{Answer}
use Rattle.settings.specs.declared.DecodeSettings.{DecodeSettings}
use Rattle.ccitt.specs.declared.Watched.{Watched}
use Rattle.ccitt.specs.Decode.{Decodes, Watches}
use Rattle.one_line.specs.OneLine.{ReadOne}
use Rattle.context.specs.declared.line.Line.{Line}
use Rattle.lent.specs.Lent.{Lends}
use Rattle.writer.specs.Outcome.{Answers}

abbrev pub DecodePinned : Type 0
DecodePinned =
    (bytes : List ℕ) (settings : DecodeSettings) (changes ends marks : List ℕ) (r s : Answer) (xs ys es fs ms ns : List ℕ)
    → Decodes bytes settings changes ends marks r xs es ms
    → Decodes bytes settings changes ends marks s ys fs ns
    → (r ≡ s) × (xs ≡ ys) × (es ≡ fs) × (ms ≡ ns)

abbrev pub DecodeWatchedPinned : Type 0
DecodeWatchedPinned =
    (bytes : List ℕ) (settings : DecodeSettings) (changes ends marks : List ℕ) (r s : Watched) (xs ys es fs ms ns : List ℕ)
    → Watches bytes settings changes ends marks r xs es ms
    → Watches bytes settings changes ends marks s ys fs ns
    → (r ≡ s) × (xs ≡ ys) × (es ≡ fs) × (ms ≡ ns)

abbrev pub ReadLinePinned : Type 0
ReadLinePinned =
    (bytes : List ℕ) (at columns : ℕ) (strict : Bool) (reference changes : List ℕ) (r s : Answer) (xs ys : List ℕ)
    → ReadOne bytes at columns strict reference changes r xs
    → ReadOne bytes at columns strict reference changes s ys
    → (r ≡ s) × (xs ≡ ys)

-- for every writer alike, of lines, T.6 pages and Group 3 pages; the entries of an output are bytes
abbrev pub WritersPinned : Type 0
WritersPinned =
    (w : Written) (out : List ℕ) (r s : Answer) (xs ys : List ℕ) → ((i : ℕ) → get_or xs i 0 < 256) → ((i : ℕ) → get_or ys i 0 < 256)
    → Answers w out r xs
    → Answers w out s ys
    → (r ≡ s) × (xs ≡ ys)

-- for pixels pushed on a lent line
abbrev pub PushPinned : Type 0
PushPinned =
    (xs : List ℕ) (l : Line) (count : ℕ) (strict : Bool) (r s : ℕ) (m o : Line) (ys zs : List ℕ)
    → Lends xs l count strict r m ys
    → Lends xs l count strict s o zs
    → (r ≡ s) × (m ≡ o) × (ys ≡ zs)
