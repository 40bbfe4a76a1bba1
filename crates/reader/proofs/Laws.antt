-- Laws of offsets: where the reader's functions lead, in terms of the core's. Assumes nothing.
use mathlib.Core.Path.{◌≡◌, sym, ap, ◌∙◌}
use mathlib.Core.Bool.{true}
use mathlib.Core.List.{List}
use Prim.Native.Nat.{ℕ, ◌+◌, ◌-◌, ◌*◌, ◌%◌, ◌≤◌, ◌<◌}
use native.Mathlib.Omega.{arith}
use lib.Dec.{leb}
use lib.ListN.{length, drop, drop_of_length-le}
use borrow.Author.Tests.{leb-true, lt-ltb, le-ltb, lt-leb}
use Rattle.rules.specs.Bits.{bits_of, peek}
use Rattle.rules.specs.Pages.{most_bytes}
use Rattle.rules.proofs.Bits.{peek-nil, length-bits_of}
use Rattle.bit_reader.specs.Cursor.{moved_by}
use Rattle.std.specs.Prelude.{Option}
use Rattle.reader.specs.Read.{went_to, went_by}
use Rattle.reader.specs.declared.cursor.TakenBits.TheVariants.{End, TooLong}
use Rattle.reader.specs.declared.cursor.Went.{Went}

-- at the end of the data and past it there are only zeros
pub peek-past : (bytes : List ℕ) (at : ℕ) → leb (8 * length bytes) at ≡ true → 0 ≡ peek 32 (drop at (bits_of bytes))
peek-past bytes at e =
    let h : length (bits_of bytes) ≤ at = omega (arith, leb-true (8 * length bytes) at e, length-bits_of bytes) in
    sym (ap (peek 32) (drop_of_length-le (bits_of bytes) h) ∙ peek-nil 32)

module _ (len at n : ℕ) where
  abbrev stays : Went
  stays = record { at = at; answer = TooLong }

  abbrev ends : Went
  ends = record { at = 8 * len; answer = End }

  pub went-nowhere : most_bytes < len → stays ≡ went_by len at n
  went-nowhere h = rw (lt-ltb most_bytes len h)

  pub went-to-end : len ≤ most_bytes → 8 * len < at + n → ends ≡ went_by len at n
  went-to-end h k = rw (le-ltb most_bytes len h, lt-leb (at + n) (8 * len) k)

  -- whole steps of 32 bits may go first
  moved-steps : moved_by len (at + (n - n % 32)) (n % 32) ≡ moved_by len at n
  moved-steps =
      let e : at + (n - n % 32) + n % 32 ≡ at + n = omega arith in
      rw e

  pub went_on : len ≤ most_bytes → (m : Option ℕ) → m ≡ moved_by len (at + (n - n % 32)) (n % 32) → went_to len m ≡ went_by len at n
  went_on h m e = ap (went_to len) (e ∙ moved-steps) ∙ rw (le-ltb most_bytes len h)
