-- `proper::check` meets its contract: behind the reading the store holds the page's rows, and what is held against them is said of the page. Assumes nothing.
use mathlib.Core.Path.{ap, sym, ◌∙◌}
use Rattle.writer.specs.declared.Parting.{Parting}
use Rattle.proper.proofs.Checking.{rows_inside, bytes_inside, failed-proper, failed-parts, done-says}
use Rattle.proper.proofs.check.Goals as goal

pub returns-then-read-ne-COMPLETE : goal.returns-then-read-ne-COMPLETE
returns-then-read-ne-COMPLETE c =
    let s = c.args in
    let w = c.decode_watched-watched.ensures in
    record {
      decodes = w.decodes;
      gave_up = w.gave_up;
      proper = sym (failed-proper s.settings s.src.now s.changes.now s.ends.now s.marks.now _ _ _ _ w.decodes c.if-read-ne-COMPLETE.true);
      parts = sym (failed-parts s.settings s.src.now s.changes.now s.ends.now s.marks.now _ _ _ _ w.decodes c.if-read-ne-COMPLETE.true);
    }

pub parts_read-parting-requires : goal.parts_read-parting-requires
parts_read-parting-requires c =
    let s = c.args in
    let w = c.decode_watched-watched.ensures in
    (rows_inside s.settings s.src.now s.changes.now s.ends.now s.marks.now _ _ _ _ w.decodes, bytes_inside s.settings s.src.now s.changes.now s.ends.now s.marks.now _ _ _ _ w.decodes)

pub returns : goal.returns
returns c =
    let s = c.args in
    let w = c.decode_watched-watched.ensures in
    let told = done-says s.settings s.src.now s.changes.now s.ends.now s.marks.now _ _ _ _ w.decodes c.if-read-ne-COMPLETE.false in
    record {
      decodes = w.decodes;
      gave_up = w.gave_up;
      proper = ap (λ (p : Parting). p.same) c.parts_read-parting.ensures ∙ told.same-is;
      parts = ap (λ (p : Parting). p.place) c.parts_read-parting.ensures ∙ told.place_is;
    }
