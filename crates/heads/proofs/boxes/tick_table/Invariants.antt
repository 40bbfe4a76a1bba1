-- The invariant: the rows below `digit` are those of the tick table, the others are zeros. Assumes nothing.
use mathlib.Core.Path.{◌≡◌}
use Prim.Native.Nat.{◌≤◌}
use Rattle.heads.specs.Form.{tick_table, page_in}
use Rattle.heads.proofs.Twos.{no_ticks, filled}
use Rattle.heads.proofs.boxes.tick_table.Given as goal

abbrev pub invariant-loop-digit : goal.invariant-loop-digit
invariant-loop-digit l = (l.digit ≤ 10) × (l.table ≡ filled no_ticks (tick_table (page_in l.columns l.changes l.ends) l.form) l.digit)
