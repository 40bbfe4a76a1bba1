-- Laws of offsets: the byte that holds a bit. Assumes nothing.
use mathlib.Core.Path.{◌≡◌, refl, sym, ap, ◌∙◌}
use mathlib.Core.Bool.{Bool, true, false}
use mathlib.Core.List.{List}
use Prim.Native.Nat.{ℕ, ◌+◌, ◌*◌, ◌/◌, ◌%◌}
use native.Mathlib.Omega.{arith}
use lib.Dec.{leb}
use lib.ListN.{drop}
use lib.Seq.{drop-drop}
use borrow.Author.Tests.{leb-true, leb-false, le-leb, lt-leb}

-- the bits from an offset, by way of its byte
pub drop-in-byte : (at : ℕ) (bs : List Bool) → drop (at % 8) (drop (at / 8 * 8) bs) ≡ drop at bs
drop-in-byte at bs =
    let e : at / 8 * 8 + at % 8 ≡ at = omega arith in
    drop-drop (at % 8) (at / 8 * 8) bs ∙ ap (λ (k : ℕ). drop k bs) e

-- an offset is past all bits where its byte is past all bytes
pub past_bytes : (len at : ℕ) → leb len (at / 8) ≡ leb (8 * len) at
past_bytes len at = cases (leb len (at / 8)) refl
  where
    cases : (t : Bool) → leb len (at / 8) ≡ t → leb len (at / 8) ≡ leb (8 * len) at
    cases true e = e ∙ sym (le-leb (8 * len) at (omega (arith, leb-true len (at / 8) e)))
    cases false e = e ∙ sym (lt-leb (8 * len) at (omega (arith, leb-false len (at / 8) e)))
