-- `form_file::whole::first_missing` meets its contract: each test hands its outcome to a law of the definition. Assumes nothing.
use Rattle.form_file.proofs.Sound.{lacks-page, lacks-tick, lacks-box, lacks-nothing, lacks-place, lacks-none}
use Rattle.form_file.proofs.whole.first_missing.Goals as goal

pub returns-then-form-eq0 : goal.returns-then-form-eq0
returns-then-form-eq0 c = lacks-page _ c.if-form-eq0.true

pub returns-then-form-eq0-2 : goal.returns-then-form-eq0-2
returns-then-form-eq0-2 c = lacks-tick _ c.if-form-eq0.false c.if-form-eq0-2.true

pub returns-then-k-lt20 : goal.returns-then-k-lt20
returns-then-k-lt20 c = lacks-box _ c.if-form-eq0.false c.if-form-eq0-2.false _ c.first_unsaid-k.ensures c.if-k-lt20.true

pub returns-then-form-ne0 : goal.returns-then-form-ne0
returns-then-form-ne0 c =
    lacks-nothing _ c.if-form-eq0.false c.if-form-eq0-2.false _ c.first_unsaid-k.ensures c.if-k-lt20.false c.if-form-ne0.true

pub returns-then-is_shift : goal.returns-then-is_shift
returns-then-is_shift c =
    lacks-place _ c.if-form-eq0.false c.if-form-eq0-2.false _ c.first_unsaid-k.ensures c.if-k-lt20.false c.if-form-ne0.false c.is_shift.ensures c.if-is_shift.true

pub returns : goal.returns
returns c =
    lacks-none _ c.if-form-eq0.false c.if-form-eq0-2.false _ c.first_unsaid-k.ensures c.if-k-lt20.false c.if-form-ne0.false c.is_shift.ensures c.if-is_shift.false
