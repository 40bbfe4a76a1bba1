-- A line that has room for as many changes as it is wide never fails with 4, and neither does its recovery. Assumes nothing.
use mathlib.Core.Path.{◌≡◌, refl, ◌∙◌}
use mathlib.Core.Bool.{Bool, true, false, cond}
use mathlib.Core.List.{List, [], ◌∷◌, ◌++◌}
use Prim.Native.Nat.{ℕ, suc, ◌+◌, ◌-◌, ◌≤◌, ◌<◌}
use native.Mathlib.Omega.{arith}
use lib.Dec.{eqb, leb}
use lib.ListN.{length}
use borrow.Author.Tests.{le-leb, eqb-false}
use Rattle.rules.specs.Codes.{differ}
use Rattle.rules.specs.Lines.{Rules, Line, line, Went, went, failed, last_colour, recorded, add, push, Kind, read_line}
use Rattle.rules.specs.Rising.{Rising}
use Rattle.rules.proofs.Ascending.{rises-snoc, rises-length}
use Rattle.rules.proofs.Lines.{data-bound, read_whole, read-broken}
use Rattle.rules.proofs.LessRoom.{changes_of, Cut, same, short, Fills, line-cut, line-fills}

-- ---- The line

module _ (width : ℕ) (wide : 0 < width) (strict exact : Bool) (kind : Kind) (bs : List Bool) (start : ℕ) (inside : start ≤ length bs) where
  abbrev with-room : ℕ → Rules
  with-room room = record { width = width; strict = strict; exact = exact; room = room }

  -- whole or not, a line has no more changes than pixels
  few_changes : (room : ℕ) (w : Went) → read_line (with-room room) kind bs start ≡ w → length (changes_of w) ≤ width
  few_changes room (went l) e = omega (arith, rises-length {width = width} (omega arith) (read_whole (with-room room) wide kind bs start l e).rising)
  few_changes room (failed n place l) e =
      let b = read-broken (with-room room) wide kind bs start (length bs) (data-bound bs) inside n place l e in
      omega (arith, rises-length {width = l.position} (omega arith) b.line.rising, b.line.fits)

  -- Beside a reading with room for one change more: a 4 there leaves no entry unused, and a 4 here alone is one that more room takes.
  pub never-four : (room : ℕ) → width ≤ room → (n place : ℕ) (l : Line) → read_line (with-room room) kind bs start ≡ failed n place l → n ≡ 4 → ⊥
  never-four room roomy n place l e four =
      cases (read_line (with-room room) kind bs start) (read_line (with-room (suc room)) kind bs start) refl (line-fills width strict exact (suc room) kind bs start)
      (line-cut width strict exact room (suc room) (omega arith) kind bs start) e
    where
      cases : (v w : Went) → read_line (with-room (suc room)) kind bs start ≡ w → Fills (suc room) w → Cut room v w → v ≡ failed n place l → ⊥
      cases v (went u) q f (same h) g = absurd (let y : ◌≡◌ {A = ℕ} 0 1 = cc in omega arith)
      cases v (failed m p u) q f (same h) g = let y : m ≡ n = cc in omega (arith, f (y ∙ four))
      cases v w q f (short h c) g = omega (arith, few_changes (suc room) w q)

-- ---- Its recovery

module _ (R : Rules) (roomy : R.width ≤ R.room) (s : Line) (fits : s.position ≤ R.width) (rising : Rising s.position 0 s.changes) where
  -- changes that rise below a position before the width have room for one more
  one_more : s.position < R.width → length (recorded s) ≤ R.room
  unfolding recorded
  one_more h = tests (differ (last_colour s.changes) s.colour)
    where
      tests : (b : Bool) → length (cond b (s.changes ++ s.position ∷ []) s.changes) ≤ R.room
      tests true = omega (arith, rises-length {width = R.width} (omega arith) (rises-snoc {width = R.width} (omega arith) h rising))
      tests false = omega (arith, rises-length {width = s.position} (omega arith) rising)

  -- so the pixels to the width can be pushed
  pub pushed-full : (place : ℕ) → (v : Line) × (push R place (R.width - s.position) s ≡ went v)
  unfolding push add
  pushed-full place = rw (le-leb (R.width - s.position) (R.width - s.position) (omega arith)) (tests (eqb (R.width - s.position) 0) refl)
    where
      tests : (b : Bool) → eqb (R.width - s.position) 0 ≡ b
          → (v : Line) × (cond b (went s) (cond (leb (length (recorded s)) R.room) (went (line s.at (s.position + (R.width - s.position)) s.colour (recorded s) s.cut)) (failed 4 0 s)) ≡ went v)
      tests true e = (s, refl)
      tests false e = (line s.at (s.position + (R.width - s.position)) s.colour (recorded s) s.cut, rw (le-leb (length (recorded s)) R.room (one_more (omega (arith, eqb-false (R.width - s.position) 0 e)))))
