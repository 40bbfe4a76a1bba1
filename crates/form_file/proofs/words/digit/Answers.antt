-- `form_file::words::digit` meets its contract. Assumes nothing.
use mathlib.Core.Path.{◌∙◌}
use native.Mathlib.Omega.{arith}
use Rattle.std.proofs.Common.{inl, inr}
use Rattle.listing_text.proofs.Digits.{low_byte, high_byte, digit-byte}
use Rattle.form_file.proofs.words.digit.Goals as goal

pub returns-then-b-lt48 : goal.returns-then-b-lt48
returns-then-b-lt48 c = elim c.then-b-lt48.either [ inl h ↦ omega (arith, low_byte _ h) | inr h ↦ omega (arith, high_byte _ h.1) ]

pub returns : goal.returns
returns c = (c.from.ensures ∙ digit-byte _ c.if-b-lt48.false c.if-b-gt57.false, omega (arith, c.from.ensures))
