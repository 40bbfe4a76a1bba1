-- A 1D line that is being put: what holds between its runs, and what each run does. Assumes nothing.
use mathlib.Core.Path.{subst}
use mathlib.Core.Bool.{Bool}
use mathlib.Core.List.{List, []}
use Prim.Native.Nat.{ℕ, ◌+◌, ◌-◌, ◌≤◌, ◌<◌}
use lib.ListN.{length, get_or}
use Rattle.rules.specs.Write.{run_bits}
use Rattle.tables.specs.Tables.{colour_of}
use Rattle.writer.specs.Putting.{Room, Puts}
use Rattle.writer.specs.Coding.{line1_of, Rowed}
use Rattle.writer.proofs.Owing.{Owes, owes-all, first-room, owes-put, last-room, owes-last}
use Rattle.writer.proofs.AlongLine1.{Along1, runs_to_come, start1, start1-all, run-first, onward1, run-last}

pub record Going1 (write : Bool) (width : ℕ) (row : List ℕ) (from : ℕ) (start : List ℕ) (next position colour place : ℕ) (out : List ℕ) : Type 0 where
  pub along : Along1 width row position colour place
  pub owes : Owes write next (runs_to_come width row position colour place) out from (line1_of width row) start

-- before the first
pub begin1 : {write : Bool} {width : ℕ} {row : List ℕ} {at bytes : ℕ} (out : List ℕ) → Rowed write width [] row (line1_of width row) at bytes → Going1 write width row at out at 0 0 0 out
begin1 {write} {width} {row} {at} out l = record {
  along = start1 width row l.rises';
  owes = subst (λ (xs : List Bool). Owes write at xs out at (line1_of width row) out) (start1-all width row) (owes-all write at _ out);
}

module _ {write : Bool} {width : ℕ} {row : List ℕ} {from : ℕ} {start : List ℕ} {next position colour place : ℕ} {out : List ℕ}
    (g : Going1 write width row from start next position colour place out) (l : Rowed write width [] row (line1_of width row) from (length start)) where
  -- ---- A run to a change

  module _ (h : place < length row) where
    abbrev this : List Bool
    this = run_bits (colour_of colour) (get_or row place 0 - position)

    pub run_room : Room write next (length this) (length out)
    run_room = first-room g.owes this _ (run-first g.along h) l.room

    pub run-next : {r : ℕ} {out' : List ℕ} → Puts write next this out r out' → Going1 write width row from start r (get_or row place 0) (1 - colour) (place + 1) out'
    run-next p = record { along = onward1 g.along h; owes = owes-put g.owes this _ (run-first g.along h) l.room.inside p }

  -- ---- The run to the width

  module _ (h : length row ≤ place) where
    pub end-room : Room write next (length (run_bits (colour_of colour) (width - position))) (length out)
    end-room = last-room g.owes _ (run-last g.along h) l.room

    pub ended1 : {r : ℕ} {out' : List ℕ} → Puts write next (run_bits (colour_of colour) (width - position)) out r out' → Puts write from (line1_of width row) start r out'
    ended1 p = owes-last g.owes _ (run-last g.along h) p
