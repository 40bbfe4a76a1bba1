-- `listing_text::lines::list` meets its contract: its three parts make the listing, which fits. Assumes nothing.
use Rattle.listing_text.proofs.Whole.{Held, all-marked, first-room, lines-room, stop-room, listed}
use lib.Seq.{length-take-le}
use native.Mathlib.Omega.{arith}
use mathlib.Core.Path.{sym}
use Rattle.listing_text.proofs.lines.list.Goals.{After-struct_known-1}
use Rattle.listing_text.proofs.lines.list.Goals as goal

-- what the types of the arguments hold
held : (c : After-struct_known-1) → let a = c.args in Held a.columns a.answer a.changes.now a.marks.now
held c = record {
  columns-held = omega arith;
  number-held = omega arith;
  rows-held = omega arith;
  bytes-held = omega arith;
  changes-held = record { small = λ i. omega (arith, c.type_inv.changes i) };
  changes-few = omega arith;
  marks-held = λ i. omega (arith, c.type_inv.marks i);
}

pub put_columns-p-requires : goal.put_columns-p-requires
put_columns-p-requires c = first-room c.requires (held (goal.at.put_columns-p-requires c).After-struct_known-1)

pub slice_bounds-put_rows-end : goal.slice_bounds-put_rows-end
slice_bounds-put_rows-end c = sym (length-take-le _ _ c.requires.placed)

pub slice_bounds-put_rows-end-2 : goal.slice_bounds-put_rows-end-2
slice_bounds-put_rows-end-2 c = sym (length-take-le _ _ c.requires.marked)

pub put_rows-p-requires : goal.put_rows-p-requires
put_rows-p-requires c = (lines-room c.requires (held (goal.at.put_rows-p-requires c).After-struct_known-1) c.put_columns-p.ensures, c.requires.rising, all-marked c.requires (held (goal.at.put_rows-p-requires c).After-struct_known-1))

pub put_stop-requires : goal.put_stop-requires
put_stop-requires c = stop-room c.requires (held (goal.at.put_stop-requires c).After-struct_known-1) c.put_columns-p.ensures c.put_rows-p.ensures

pub returns : goal.returns
returns c = listed c.requires (held (goal.at.returns c).After-struct_known-1) c.put_columns-p.ensures c.put_rows-p.ensures c.put_stop.ensures
