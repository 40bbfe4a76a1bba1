-- A line that is being put: what holds between its codes, and what each code does. Assumes nothing.
use mathlib.Core.Path.{◌≡◌, refl, sym, ap, ◌∙◌, subst}
use mathlib.Core.Bool.{Bool, true, cond}
use mathlib.Core.List.{List, [], ◌++◌}
use Prim.Native.Nat.{ℕ, zero, suc, ◌+◌, ◌-◌, ◌%◌, ◌≤◌, ◌<◌}
use native.Mathlib.Omega.{arith}
use lib.Dec.{eqb}
use lib.ListN.{length, get_or, drop, replicate, length-replicate}
use borrow.Author.Tests.{eq-eqb, ne_eqb}
use Rattle.rules.specs.Bits.{bits_for, bits_of}
use Rattle.rules.specs.Codes.{Colour, opposite}
use Rattle.rules.specs.Modes.{pass, horizontal, mode_bits}
use Rattle.rules.specs.Lines.{head_or}
use Rattle.rules.specs.Write.{run_bits, vertical_to}
use Rattle.rules.proofs.Ascending.{head-fits}
use Rattle.rules.proofs.Ahead.{left_over}
use Rattle.tables.specs.Tables.{colour_of}
use Rattle.tables.specs.declared.Code.{Code}
use Rattle.context.specs.Reference.{Finds}
use Rattle.context.specs.Places.{Onward, Reached, Turning}
use Rattle.context.proofs.Search.{passed_none}
use Rattle.writer.specs.Putting.{inked, Sound, Spells, Room, Puts}
use Rattle.writer.specs.Coding.{Alike, PutsOnes, apart, across, line_of, Lined}
use Rattle.writer.proofs.Owing.{Owes, owes-all, first-room, owes-put, first_code, owes-code, code-room, code-puts, puts-zeros}
use Rattle.writer.proofs.Turns.{Turn}
use Rattle.writer.proofs.AlongLine as Line
use Rattle.writer.proofs.AlongLine.{Along, to_come, fuel_for, start-all, none_left, left_is, left-then, onward, a1-low, a2-low, passes, verticals, horizontals}
use Rattle.writer.proofs.Above.{Above, Straight, found_at, above-start, above-finds, above-few, above-onward, above-turning}
use Rattle.writer.proofs.Above.{above-pass, above-across, above-vertical, alike-straight}

-- ---- A horizontal code and its runs

-- the runs, in the line's colour and in the other
abbrev pub both_runs : Colour → ℕ → ℕ → List Bool
both_runs colour first second = run_bits colour first ++ run_bits (opposite colour) second

module _ {write : Bool} {at : ℕ} (colour : Colour) (first second : ℕ) (start : List ℕ)
    (room : Room write at (length (across colour first second)) (length start))
    {code : Code} (s : Spells code (mode_bits horizontal)) where
  -- the code can be put,
  pub across-room : Room write at code.size (length start) × Sound code
  unfolding across
  across-room = first_code (owes-all write at (across colour first second) start) s (both_runs colour first second) refl room

  -- and then the runs are left
  pub across-put : {r : ℕ} {out : List ℕ} → Puts write at (bits_for code.size code.word) start r out
      → Owes write r (both_runs colour first second) out at (across colour first second) start
  unfolding across
  across-put = owes-code (owes-all write at (across colour first second) start) s (both_runs colour first second) refl room.inside

-- a code of k ones fits where k bits do
pub ones-fit : {code : Code} {k : ℕ} {write : Bool} {at bytes : ℕ} → Spells code (replicate k true) → Room write at k bytes → Room write at code.size bytes
ones-fit {k = k} {write} {at} {bytes} s room = code-room s (subst (λ (n : ℕ). Room write at n bytes) (sym (length-replicate k true)) room)

-- ---- Between two codes

pub record Going (write : Bool) (width : ℕ) (reference row : List ℕ) (from : ℕ) (start : List ℕ) (next position place above : ℕ) (out : List ℕ) : Type 0 where
  pub fuel : ℕ
  pub along : Along width reference row position (above % 2) place 0 fuel
  pub stands : Above reference position place above
  pub owes : Owes write next (to_come width reference row position (above % 2) place fuel) out from (line_of width reference row) start
  pub zeros : 0 < position → inked write next [] (bits_of out) ≡ bits_of out

-- before the first
pub begin : {write : Bool} {width : ℕ} {reference row : List ℕ} {at bytes : ℕ} (out : List ℕ) → Lined write width reference row at bytes
    → Going write width reference row at out at 0 0 0 out
begin {write} {width} {reference} {row} {at} out l = record {
  fuel = fuel_for width row;
  along = Line.start width reference row l.rises';
  stands = above-start reference;
  owes = subst (λ (xs : List Bool). Owes write at xs out at (line_of width reference row) out) (start-all width reference row) (owes-all write at _ out);
  zeros = λ h. absurd (omega arith);
}

module _ {write : Bool} {width : ℕ} {reference row : List ℕ} {from : ℕ} {start : List ℕ} {next position place above : ℕ} {out : List ℕ}
    (g : Going write width reference row from start next position place above out) (l : Lined write width reference row from (length start)) where
  -- at the width all is put
  pub ended : width ≤ position → Puts write from (line_of width reference row) start next out
  ended h = record {
    next = omega (arith, o.count);
    bits = sym (g.zeros (omega (arith, l.wide))) ∙ o.same;
    size = o.size;
    kept = o.kept;
  }
    where
      o : Owes write next [] out from (line_of width reference row) start
      o = subst (λ (xs : List Bool). Owes write next xs out from (line_of width reference row) start) (none_left g.along h) g.owes

  -- the places are small numbers
  pub few : (above + 2 < 9223372036854775808) × (place + 2 < 9223372036854775808)
  few = above-few g.stands g.along l.narrow l.rises l.rises'

  -- ones can be put for the changes that both rows have, and then it goes on behind them
  module _ (k : ℕ) (h : position < width) (same : Alike reference above row place k) where
    -- the places are numbers of the rows
    pub all-inside : 0 < k → place + k ≤ length row
    all-inside some = omega (arith, (same.each (k - 1) (omega arith)).1)

    module _ {position' : ℕ} (e : position' ≡ cond (eqb k 0) position (get_or row (place + k - 1) 0)) where
      pub many : Straight width reference row (to_come width reference row position (above % 2) place g.fuel) (left_over width position (drop place row)) k
          position' (place + k) (above + k)
      many =
          alike-straight l.wide l.rises l.rises' g.along g.stands h same (λ z. e ∙ ap chosen (eq-eqb k 0 z))
          (λ z. e ∙ ap chosen (ne_eqb k 0 (λ y. absurd (omega arith))))
        where
          chosen : Bool → ℕ
          chosen b = cond b position (get_or row (place + k - 1) 0)

  -- they have room
  pub ones-room : (k : ℕ) → position < width → Alike reference above row place k → Room write next k (length out)
  ones-room k h same =
      subst (λ (n : ℕ). Room write next n (length out)) (length-replicate k true)
      (first-room g.owes (replicate k true) _ (many k h same refl).bits l.room)

  pub ones-on : (k : ℕ) → position < width → Alike reference above row place k
      → {position' : ℕ} → position' ≡ cond (eqb k 0) position (get_or row (place + k - 1) 0) → {r : ℕ} {out' : List ℕ} → PutsOnes write next k out r out'
      → Going write width reference row from start r position' (place + k) (above + k) out'
  ones-on zero h same e p =
      let m = many zero h same e in
      let (i, j) = p.none refl in
      rw (i, j)
      (record {
        fuel = m.fuel;
        along = m.along;
        stands = m.stands;
        owes = subst (λ (xs : List Bool). Owes write next xs out from (line_of width reference row) start) m.bits g.owes;
        zeros = λ z. g.zeros (omega (arith, e));
      })
  ones-on (suc k) h same e p =
      let m = many (suc k) h same e in
      let q = p.some (omega arith) in
      record {
        fuel = m.fuel;
        along = m.along;
        stands = m.stands;
        owes = owes-put g.owes (replicate (suc k) true) _ m.bits l.room.inside q;
        zeros = λ _. puts-zeros (first-room g.owes (replicate (suc k) true) _ m.bits l.room).inside q;
      }

  -- a code can be put, and then it goes on behind it
  module _ {xs : List Bool} {c' : Colour} {p' : ℕ} (place' : ℕ)
      (t : Turn width reference (colour_of (above % 2)) position (drop place row) xs c' p' (drop place' row)) where
    -- its bits have room, or its code where it is one
    pub turn-room : Room write next (length xs) (length out)
    turn-room = first-room g.owes xs _ (left_is g.along place' t) l.room

    pub turn-code : {code : Code} → Spells code xs → Room write next code.size (length out) × Sound code
    turn-code s = first_code g.owes s _ (left_is g.along place' t) l.room

    -- once they are put, the rest of the line is left
    pub turn-put : {above' : ℕ} → c' ≡ colour_of (above' % 2) → place' ≤ place + 2 → Above reference p' place' above'
        → {r : ℕ} {out' : List ℕ} → Puts write next xs out r out' → Going write width reference row from start r p' place' above' out'
    turn-put {above'} e k stands p = record {
      fuel = g.fuel - 1;
      along = onward g.along place' t (above' % 2) e (omega arith) k (passed_none _ reference);
      stands = stands;
      owes = owes-put g.owes xs _ (left-then g.along place' t (above' % 2) e (omega arith) k) l.room.inside p;
      zeros = λ _. puts-zeros turn-room.inside p;
    }

  -- The codes by what the rows have at their places.
  module _ (h : position < width) {a1 b1 b2 : ℕ} (is-a1 : a1 ≡ head_or width (drop place row)) (is-b1 : b1 ≡ head_or width (drop above reference))
      (is-b2 : b2 ≡ head_or width (drop (above + 1) reference)) where
    finds : Finds reference width position (colour_of (above % 2)) (found_at b1 b2)
    finds = above-finds g.stands is-b1 is-b2

    pub low : position ≤ a1
    low = a1-low g.along l.rises h finds is-a1

    -- pass
    module _ (k : b2 < a1) where
      pub passing : Turn width reference (colour_of (above % 2)) position (drop place row) (mode_bits pass) (colour_of (above % 2)) b2 (drop place row)
      passing = passes g.along l.rises h finds is-a1 k

      pub pass-put : {code : Code} → Spells code (mode_bits pass) → {r : ℕ} {out' : List ℕ} → Puts write next (bits_for code.size code.word) out r out'
          → Going write width reference row from start r b2 place (above + 2) out'
      pass-put s p =
          turn-put place passing (ap colour_of (let q : above % 2 ≡ (above + 2) % 2 = omega arith in q)) (omega arith)
          (above-pass g.stands l.wide l.rises is-b2 (omega (arith, is-a1, head-fits g.along.rises))) (code-puts s p)

    module _ (k : a1 ≤ b2) where
      -- vertical
      module _ (near : apart b1 a1 ≤ 3) where
        pub nearing : Turn width reference (colour_of (above % 2)) position (drop place row) (mode_bits (vertical_to b1 a1)) (colour_of (1 - above % 2)) a1
            (drop (place + 1) row)
        nearing = verticals g.along l.rises h finds is-a1 k near

        pub turning : {d : ℕ} → d ≡ apart b1 a1 → Turning reference above d a1
        turning e = above-turning g.stands low l.rises is-b1 e (omega arith) (omega (arith, few.0))

        pub vertical-put : {above' : ℕ} → Reached reference (a1 + 1) (above + 1) above' → {code : Code} → Spells code (mode_bits (vertical_to b1 a1))
            → {r : ℕ} {out' : List ℕ} → Puts write next (bits_for code.size code.word) out r out'
            → Going write width reference row from start r a1 (place + 1) above' out'
        vertical-put {above'} reached s p =
            turn-put (place + 1) nearing (ap colour_of (let q : 1 - above % 2 ≡ above' % 2 = omega (arith, reached.parity) in q)) (omega arith)
            (above-vertical g.stands l.wide l.rises l.rises' is-a1 low reached) (code-puts s p)

      -- horizontal
      module _ (far : 3 < apart b1 a1) {a2 : ℕ} (is-a2 : a2 ≡ head_or width (drop (place + 1) row)) where
        pub second-low : a1 ≤ a2
        second-low = a2-low g.along l.rises h finds is-a1 k far is-a2

        pub crossing : Turn width reference (colour_of (above % 2)) position (drop place row) (across (colour_of (above % 2)) (a1 - position) (a2 - a1))
            (colour_of (above % 2)) a2 (drop (place + 2) row)
        crossing = horizontals g.along l.rises h finds is-a1 k far is-a2

        pub going_on : Onward reference above a2
        going_on = above-onward g.stands (omega (arith, low, second-low)) l.rises

        pub horizontal-put : {above' : ℕ} → Reached reference (a2 + 1) above above'
            → {r : ℕ} {out' : List ℕ} → Puts write next (across (colour_of (above % 2)) (a1 - position) (a2 - a1)) out r out'
            → Going write width reference row from start r a2 (place + 2) above' out'
        horizontal-put {above'} reached p =
            turn-put (place + 2) crossing (ap colour_of (let q : above % 2 ≡ above' % 2 = omega (arith, reached.parity) in q)) (omega arith)
            (above-across g.stands l.wide l.rises l.rises' is-a2 reached) p
