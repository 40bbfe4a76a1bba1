-- `form_file::heard::heard_box` meets its contract: each return is one arm of the definition. Assumes nothing.
use mathlib.Core.Path.{refl, ap, sym, ◌∙◌}
use mathlib.Core.List.{List}
use Prim.Native.Nat.{ℕ, ◌*◌}
use native.Mathlib.Omega.{arith}
use lib.ListN.{set, take}
use borrow.Author.Tests.{eq-eqb, ne_eqb, not-true, not-false}
use Rattle.form_file.specs.Heard.{heard, on}
use Rattle.form_file.proofs.heard.heard_box.Goals as goal

pub returns-then-lines-k-ne0 : goal.returns-then-lines-k-ne0
returns-then-lines-k-ne0 c = λ room places h. record { is = rw (heard, ne_eqb _ 0 c.if-lines-k-ne0.true); boxes_same = refl; places_same = refl }

pub returns-then-not-holds : goal.returns-then-not-holds
returns-then-not-holds c = λ room places h. record { is = rw (heard, eq-eqb _ 0 c.if-lines-k-ne0.false, sym c.holds.ensures ∙ not-true _ c.if-not-holds.true-raw); boxes_same = refl; places_same = refl }

pub returns : goal.returns
returns c = λ room places h.
    let a = c.args in record {
      is =
          rw (heard, eq-eqb _ 0 c.if-lines-k-ne0.false, sym c.holds.ensures ∙ not-false _ c.if-not-holds.false-raw)
          (ap (λ (bs : List ℕ). on (record { form = a.form; boxes = bs; lines = set a.lines.now a.which a.line; places = take (7 * a.form.places) places })) (sym c.set_box.ensures));
      more = omega arith;
      fits = h;
      behind = refl;
    }
