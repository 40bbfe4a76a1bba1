-- `look::boxes::state` meets its contract. Assumes nothing.
use Rattle.look.proofs.Stating.{box-unread, box-empty, box-doubt, box-ticked}
use native.Mathlib.Omega.{arith}
use Rattle.look.proofs.boxes.state.Goals as goal

pub returns-then-rows-b : goal.returns-then-rows-b
returns-then-rows-b c = record { value = box-unread c.args.rows c.args.b c.args.black c.args.doubt c.args.tick (omega arith); upper_bound = omega arith }

pub returns-then-black-doubt : goal.returns-then-black-doubt
returns-then-black-doubt c = record { value = box-empty c.args.rows c.args.b c.args.black c.args.doubt c.args.tick (omega arith) (omega arith); upper_bound = omega arith }

pub returns-then-black-tick : goal.returns-then-black-tick
returns-then-black-tick c = record { value = box-doubt c.args.rows c.args.b c.args.black c.args.doubt c.args.tick (omega arith) (omega arith) (omega arith); upper_bound = omega arith }

pub returns : goal.returns
returns c = record { value = box-ticked c.args.rows c.args.b c.args.black c.args.doubt c.args.tick (omega arith) (omega arith) (omega arith); upper_bound = omega arith }
