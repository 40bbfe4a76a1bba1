-- The change before b1's last place is where its search goes on.
use mathlib.Core.Path.{refl}
use Rattle.one_line.proofs.fast_2d.stand_at.Goals as goal

pub b1_from-found-requires : goal.b1_from-found-requires
b1_from-found-requires c = rw c.seen_before-seen.ensures c.requires

pub returns : goal.returns
returns c = record { at-is = refl; position-is = refl; count-is = refl; b1-at = c.b1_from-found.ensures }
