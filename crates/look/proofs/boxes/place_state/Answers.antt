-- `look::boxes::place_state` meets its contract. Assumes nothing.
use Rattle.look.proofs.Stating.{place-unread, place-held, place-failed}
use mathlib.Core.Path.{sym, ◌∙◌}
use native.Mathlib.Omega.{arith}
use Rattle.look.proofs.boxes.place_state.Goals as goal

pub returns-then-rows-b : goal.returns-then-rows-b
returns-then-rows-b c = record { value = place-unread c.args.rows c.args.b c.args.kind c.args.black c.args.asked (omega arith); upper_bound = omega arith }

pub returns-then-holds : goal.returns-then-holds
returns-then-holds c = record { value = place-held c.args.rows c.args.b c.args.kind c.args.black c.args.asked (omega arith) (sym c.holds.ensures ∙ c.if-holds.true); upper_bound = omega arith }

pub returns : goal.returns
returns c = record { value = place-failed c.args.rows c.args.b c.args.kind c.args.black c.args.asked (omega arith) (sym c.holds.ensures ∙ c.if-holds.false) c.one.ensures.value; upper_bound = omega arith }
