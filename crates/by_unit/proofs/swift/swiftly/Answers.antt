use Rattle.by_unit.proofs.SwiftUnits.{swift-walks}
use Rattle.swift_units.proofs.Counting.{counted_none, left_of}
use native.Mathlib.Omega.{arith}
use mathlib.Core.Path.{refl}
use Rattle.by_unit.proofs.swift.swiftly.Goals as goal

pub offset_bounds-changes-start : goal.offset_bounds-changes-start
offset_bounds-changes-start c = omega (arith, c.requires.placed)

pub slice_bounds-search_from-count : goal.slice_bounds-search_from-count
slice_bounds-search_from-count c = omega (arith, c.requires.placed)

pub slice_bounds-search_from-start : goal.slice_bounds-search_from-start
slice_bounds-search_from-start c = omega (arith, c.requires.placed)

pub slice_bounds-search_from-end : goal.slice_bounds-search_from-end
slice_bounds-search_from-end c = omega (arith, c.requires.placed)

pub search_from-first-requires : goal.search_from-first-requires
search_from-first-requires c = record {
  rising = c.requires.rising;
  passed = c.requires.passed;
  narrow = omega (arith, c.requires.holds.narrow, c.requires.holds.fits);
  two_colours = c.requires.holds.coloured;
}

pub offset_bounds-changes-start-2 : goal.offset_bounds-changes-start-2
offset_bounds-changes-start-2 c = omega (arith, c.requires.placed)

pub slice_bounds-b1_from-count : goal.slice_bounds-b1_from-count
slice_bounds-b1_from-count c = omega (arith, c.requires.placed)

pub slice_bounds-b1_from-start : goal.slice_bounds-b1_from-start
slice_bounds-b1_from-start c = omega (arith, c.requires.placed)

pub slice_bounds-b1_from-end : goal.slice_bounds-b1_from-end
slice_bounds-b1_from-end c = omega (arith, c.requires.placed)

pub b1_from-place-requires : goal.b1_from-place-requires
b1_from-place-requires c = record {
  rising = c.requires.rising;
  passed = c.search_from-first.ensures;
  narrow = omega (arith, c.requires.holds.narrow, c.requires.holds.fits);
  two_colours = c.requires.holds.coloured;
}

pub returns-then-plain : goal.returns-then-plain
returns-then-plain c = record {
  place = c.b1_from-place.result;
  parity = c.b1_from-place.ensures.parity;
  spent = left_of c.args.src.now c.args.start 0 c.args.left c.args.left (counted_none (swift-walks c.requires c.b1_from-place.ensures)) (omega arith) (λ e. refl);
}

pub swift_units-requires : goal.swift_units-requires
swift_units-requires c = swift-walks c.requires c.b1_from-place.ensures

pub returns : goal.returns
returns c = record { place = c.b1_from-place.result; parity = c.b1_from-place.ensures.parity; spent = c.swift_units.ensures }
