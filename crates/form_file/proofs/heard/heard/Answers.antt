-- `form_file::heard::heard` meets its contract: each kind of line has its function. Assumes nothing.
use mathlib.Core.Path.{refl}
use Prim.Native.Nat.{◌<◌}
use native.Mathlib.Omega.{arith}
use Rattle.form_file.proofs.heard.heard.Goals as goal

pub heard_box-requires : goal.heard_box-requires
heard_box-requires c =
    let h = c.requires in
    let k : c.in-Square.which < 20 = rw c.in-Square.is at h.1 in
    (h.0.boxes_long, h.0.lines_long, k)

pub returns-in-Nothing : goal.returns-in-Nothing
returns-in-Nothing c = rw c.in-Nothing.is (record { is = refl; more = omega arith; fits = c.requires.0.fits; behind = refl })

pub returns-in-Square : goal.returns-in-Square
returns-in-Square c = rw c.in-Square.is (c.heard_box.ensures c.args.room c.args.places.now c.requires.0.fits)

pub returns-in-Page : goal.returns-in-Page
returns-in-Page c = rw c.in-Page.is (c.heard_page.ensures c.args.room c.args.line c.args.boxes.now c.args.lines.now c.args.places.now c.requires.0.fits)

pub returns-in-Tick : goal.returns-in-Tick
returns-in-Tick c = rw c.in-Tick.is (c.heard_tick.ensures c.args.room c.args.line c.args.boxes.now c.args.lines.now c.args.places.now c.requires.0.fits)

pub returns-in-Doubt : goal.returns-in-Doubt
returns-in-Doubt c = rw c.in-Doubt.is (c.heard_doubt.ensures c.args.room c.args.line c.args.boxes.now c.args.lines.now c.args.places.now c.requires.0.fits)

pub returns-in-Place : goal.returns-in-Place
returns-in-Place c = rw c.in-Place.is (c.heard_place.ensures c.args.boxes.now c.args.lines.now c.requires.0.fits)

pub returns-in-Proper : goal.returns-in-Proper
returns-in-Proper c = rw c.in-Proper.is (c.heard_proper.ensures c.args.room c.args.line c.args.boxes.now c.args.lines.now c.args.places.now c.requires.0.fits)

pub returns-in-Shift : goal.returns-in-Shift
returns-in-Shift c = rw c.in-Shift.is (c.heard_shift.ensures c.args.room c.args.line c.args.boxes.now c.args.lines.now c.args.places.now c.requires.0.fits)

pub returns-in-Wrong : goal.returns-in-Wrong
returns-in-Wrong c = rw c.in-Wrong.is (record { is = refl; boxes_same = refl; places_same = refl })
