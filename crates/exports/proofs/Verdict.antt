-- The verdict for C, by the encoding's number. Assumes nothing.
use mathlib.Core.Path.{◌≡◌, refl, subst}
use mathlib.Core.Bool.{Bool, false}
use mathlib.Core.List.{List}
use Prim.Native.Nat.{ℕ, ◌≤◌, ◌<◌}
use borrow.Author.Tests.{le-leb, lt-leb}
use Rattle.settings.specs.declared.EncodingMode.{EncodingMode}
use Rattle.booking.specs.Booked.{Given, given, Finds}
use Rattle.ledger.specs.declared.Verdict.{Verdict}
use Rattle.exports.specs.Exports.{settings_for}
use Rattle.exports.specs.RowState.{mode_of}
use Rattle.exports.specs.Verdict.{no_encoding, FindsForC}

module _ (encoding : ℕ) (text src : List ℕ) (how columns rows : ℕ) (block line aligned plain : Bool) (boxes places changes ends marks : List ℕ) where
  abbrev asked : EncodingMode → Given
  asked mode = given text src how (settings_for columns rows block line aligned mode false false plain) boxes places changes ends marks

  -- none of the three
  pub unread : {r : Verdict} → 2 < encoding → r ≡ no_encoding → FindsForC encoding (asked (mode_of encoding)) r boxes places changes ends marks
  unread h e = rw (FindsForC, lt-leb encoding 2 h) (record { verdict = e; boxes_are = refl; places_are = refl; changes_are = refl; ends_are = refl; marks_are = refl })

  -- one of them
  pub found : {mode : EncodingMode} {r : Verdict} {b p c e m : List ℕ} → encoding ≤ 2 → mode ≡ mode_of encoding → Finds (asked mode) r b p c e m
      → FindsForC encoding (asked (mode_of encoding)) r b p c e m
  found {mode} {r} {b} {p} {c} {e} {m} h q f = rw (FindsForC, le-leb encoding 2 h) (subst (λ (x : EncodingMode). Finds (asked x) r b p c e m) q f)
