-- `booking::judging::read_page` meets its contract: what is asked is told, by the one call or the other. Assumes nothing.
use mathlib.Core.Path.{◌≡◌, sym, ◌∙◌}
use mathlib.Core.Bool.{true, false, true≢false}
use Rattle.booking.proofs.judging.read_page.Goals as goal

pub returns-then-asked : goal.returns-then-asked
returns-then-asked c = let k = c.check.ensures in record { decodes = k.decodes; gave_up = k.gave_up; proper = λ e. k.proper; parts = λ e. k.parts }

pub returns : goal.returns
returns c =
    let k = c.decode_watched-watched.ensures in
    record { decodes = k.decodes; gave_up = k.gave_up; proper = λ e. absurd (unasked e); parts = λ e. absurd (unasked e) }
  where
    unasked : c.args.asked ≡ true → ⊥
    unasked e = true≢false (sym e ∙ c.if-asked.false)
