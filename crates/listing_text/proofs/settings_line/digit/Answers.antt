-- `listing_text::settings_line::digit` meets its contract. Assumes nothing.
use mathlib.Core.Path.{◌∙◌, ap}
use native.Mathlib.Omega.{arith}
use Rattle.std.proofs.Common.{inl, inr}
use Rattle.listing_text.proofs.Digits.{low_byte, high_byte, digit-byte}
use Rattle.listing_text.specs.Reading.{digit_of}
use Rattle.listing_text.proofs.settings_line.digit.Goals as goal

pub returns-then-b-lt48 : goal.returns-then-b-lt48
returns-then-b-lt48 c =
    elim c.then-b-lt48.either [
      | inl h ↦ omega (arith, low_byte _ h ∙ ap digit_of c.byte-b.ensures)
      | inr h ↦ omega (arith, high_byte _ h.1 ∙ ap digit_of c.byte-b.ensures)
    ]

pub returns : goal.returns
returns c =
    (c.from.ensures ∙ digit-byte _ c.if-b-lt48.false c.if-b-gt57.false ∙ ap digit_of c.byte-b.ensures, omega (arith, c.from.ensures))
