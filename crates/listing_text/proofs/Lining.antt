-- Laws of the lines of a text by their places: those of pieces (Piecing) that a line feed parts. Assumes nothing.
use mathlib.Core.Path.{◌≡◌}
use mathlib.Core.List.{List, []}
use Prim.Native.Nat.{ℕ, ◌-◌}
use lib.ListN.{get_or, take, drop}
use Rattle.listing_text.specs.Text.{newline}
use Rattle.listing_text.specs.Lines.{lines_of, lines_behind, LineTo, LineFrom}
use Rattle.listing_text.proofs.Piecing.{PieceTo, Left, piece_is}

pub line-to : {text : List ℕ} {at end : ℕ} → PieceTo newline text at end → LineTo text at end
unfolding lines_behind
line-to t = record { behind = t.behind; inside = t.inside; lines = t.first }

pub to-line : {text : List ℕ} {at end : ℕ} → LineTo text at end → PieceTo newline text at end
unfolding lines_behind
to-line t = record { behind = t.behind; inside = t.inside; first = t.lines }

pub line-from : {text : List ℕ} {k at : ℕ} → Left newline text k at 0 → LineFrom text k at
line-from l = record { inside = l.inside; line = l.piece }

pub from-line : {text : List ℕ} {k at : ℕ} → LineFrom text k at → Left newline text k at 0
from-line l = record { inside = l.inside; piece = l.line }

-- the text from where a line begins to where it ends
pub line-is : {text : List ℕ} {k from end : ℕ} → LineFrom text k from → LineTo text from end → get_or (lines_of text) k [] ≡ take (end - from) (drop from text)
line-is f t = piece_is (from-line f) (to-line t)
