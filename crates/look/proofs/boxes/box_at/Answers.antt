-- `look::boxes::box_at` meets its contract. Assumes nothing.
use Rattle.look.proofs.boxes.box_at.Goals as goal

pub returns : goal.returns
returns c = cc
