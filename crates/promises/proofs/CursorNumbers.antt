-- The bit reader answers 01's numbers. Assumes nothing.
use mathlib.Core.Path.{◌≡◌, refl, sym, subst}
use mathlib.Core.Logic.{inl, inr}
use mathlib.Core.Bool.{Bool, true, false, cond}
use Prim.Native.Nat.{ℕ, ◌+◌, ◌*◌, ◌≤◌, ◌<◌}
use native.Mathlib.Omega.{arith}
use lib.Dec.{leb, ltb}
use lib.ListN.{length}
use Rattle.std.specs.Prelude.{Option, Some, None}
use borrow.Author.Tests.{leb-true, leb-false, ltb-true, ltb-false}
use Rattle.rules.specs.Answers.{too_long}
use Rattle.rules.specs.Pages.{most_bytes}
use Rattle.bit_reader.specs.Cursor.{moved_by}
use Rattle.bit_reader.specs.Loaded.{fed_at}
use Rattle.bit_reader.specs.declared.buffer.Buffer.{Buffer}
use Rattle.reader.specs.Read.{number_of, went_to, went_by}
use Rattle.reader.specs.declared.cursor.Went.{Went}
use Rattle.reader.specs.declared.cursor.TakenBits.TheVariants.{TooLong}
use Rattle.promises.specs.CursorNumbers.{moved_number, moved_bit, fed_number, fed_bit, Moves, ConsumeNumbers, FeedNumbers, TakeNumbers}

-- there
goes : (bits to : ℕ) → to ≤ bits → Moves bits to 0 to
goes bits to h = record { listed = inl refl; two = ((λ z. absurd (omega arith)), λ l. absurd (omega arith)); stands = omega arith }

-- the data ends before
ends : (bits to : ℕ) → bits < to → Moves bits to 2 bits
ends bits to h = record { listed = inr refl; two = ((λ z. h), λ l. refl); stands = omega arith }

pub consume-numbers : ConsumeNumbers
consume-numbers len at n r e =
    subst (λ (m : Option ℕ). Moves (8 * len) (at + n) (moved_number m) (moved_bit len m)) (sym e) (tests (leb (at + n) (8 * len)) (leb-true _ _) (leb-false _ _))
  where
    tests : (b : Bool) → (b ≡ true → at + n ≤ 8 * len) → (b ≡ false → 8 * len < at + n)
        → Moves (8 * len) (at + n) (moved_number (cond b (Some (at + n)) None)) (moved_bit len (cond b (Some (at + n)) None))
    tests true h k = goes (8 * len) (at + n) (h refl)
    tests false h k = ends (8 * len) (at + n) (k refl)

pub feed-numbers : FeedNumbers
feed-numbers bytes b n r = cases r
  where
    cases : (r : Option Buffer) → fed_at bytes (b.at + n) r → Moves (8 * length bytes) (b.at + n) (fed_number r) (fed_bit bytes r)
    cases (Some c) h =
        subst (Moves (8 * length bytes) (b.at + n) 0) (sym h.place)
        (goes (8 * length bytes) (b.at + n) (omega (arith, h.place, h.loaded.reached, h.loaded.inside)))
    cases None h = ends (8 * length bytes) (b.at + n) h

pub take-numbers : TakeNumbers
take-numbers len at n r e = subst Takes (sym e) (tests (ltb most_bytes len) (ltb-true _ _) (ltb-false _ _))
  where
    Takes : Went → Type 0
    Takes w = (len ≤ most_bytes → Moves (8 * len) (at + n) (number_of w.answer) w.at) × (most_bytes < len → (number_of w.answer ≡ too_long) × (w.at ≡ at))

    same : (m : Option ℕ) → Moves (8 * len) (at + n) (moved_number m) (moved_bit len m) → Moves (8 * len) (at + n) (number_of (went_to len m).answer) (went_to len m).at
    same (Some next) h = h
    same None h = h

    tests : (b : Bool) → (b ≡ true → most_bytes < len) → (b ≡ false → len ≤ most_bytes) → Takes (cond b (record { at = at; answer = TooLong }) (went_to len (moved_by len at n)))
    tests true h k = ((λ l. absurd (omega (arith, h refl))), λ l. (refl, refl))
    tests false h k = ((λ l. same (moved_by len at n) (consume-numbers len at n (moved_by len at n) refl)), λ l. absurd (omega (arith, k refl)))
