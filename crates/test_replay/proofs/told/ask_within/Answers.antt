-- Each array lends as much as was counted off. Assumes nothing.
use lib.Seq.{length-take-le}
use mathlib.Core.Path.{sym}
use Rattle.test_replay.proofs.told.ask_within.Goals as goal

pub slice_bounds-ask-end : goal.slice_bounds-ask-end
slice_bounds-ask-end c = sym (length-take-le c.within-d.result _ c.within-d.ensures)

pub slice_bounds-ask-end-2 : goal.slice_bounds-ask-end-2
slice_bounds-ask-end-2 c = sym (length-take-le c.within-r.result _ c.within-r.ensures)

pub slice_bounds-ask-end-4 : goal.slice_bounds-ask-end-4
slice_bounds-ask-end-4 c = sym (length-take-le c.within-c.result _ c.within-c.ensures)

pub slice_bounds-ask-end-6 : goal.slice_bounds-ask-end-6
slice_bounds-ask-end-6 c = sym (length-take-le c.within-e.result _ c.within-e.ensures)

pub slice_bounds-ask-end-8 : goal.slice_bounds-ask-end-8
slice_bounds-ask-end-8 c = sym (length-take-le c.within-m.result _ c.within-m.ensures)
