-- `form_file::places_for` meets its contract: both arms of the definition. Assumes nothing.
use mathlib.Core.Path.{sym}
use borrow.Author.Tests.{lt-ltb, le-ltb}
use Rattle.form_file.specs.FormFile.{places_for}
use Rattle.form_file.proofs.places_for.Goals as goal

pub returns-then-lent-gt-MOST_PLACES : goal.returns-then-lent-gt-MOST_PLACES
returns-then-lent-gt-MOST_PLACES c = sym (rw (places_for, lt-ltb 256 _ c.if-lent-gt-MOST_PLACES.true))

pub returns : goal.returns
returns c = sym (rw (places_for, le-ltb 256 _ c.if-lent-gt-MOST_PLACES.false))
