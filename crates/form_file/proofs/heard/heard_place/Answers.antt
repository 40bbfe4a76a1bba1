-- `form_file::heard::heard_place` meets its contract: each return is one arm of the definition. Assumes nothing.
use mathlib.Core.Path.{refl, sym, ◌∙◌}
use Prim.Native.Nat.{◌*◌}
use native.Mathlib.Omega.{arith}
use borrow.Author.Tests.{lt-ltb, le-ltb, not-true, not-false}
use Rattle.form_file.specs.Heard.{heard}
use Rattle.form_file.proofs.Fours.{seven, place-on}
use Rattle.form_file.proofs.heard.heard_place.Goals as goal

pub returns-then-room-k : goal.returns-then-room-k
returns-then-room-k c = λ boxes lines h. record { is = rw (heard, le-ltb _ _ c.if-room-k.true); boxes_same = refl; places_same = refl }

pub returns-then-not-holds : goal.returns-then-not-holds
returns-then-not-holds c = λ boxes lines h. record { is = rw (heard, lt-ltb _ _ c.if-room-k.false, sym c.holds.ensures ∙ not-true _ c.if-not-holds.true-raw); boxes_same = refl; places_same = refl }

pub returns : goal.returns
returns c = λ boxes lines h.
    let a = c.args in
    place-on a.form a.places.now a.kind a.b a.n a.line (omega arith) a.room boxes lines _ c.if-room-k.false
    (sym c.holds.ensures ∙ not-false _ c.if-not-holds.false-raw) (c.set_place.ensures ∙ seven a.places.now (7 * a.form.places) a.kind a.b a.n a.line (omega arith))
