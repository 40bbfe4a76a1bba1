-- `proper::parts` meets its contract: each encoding has its own writer. Assumes nothing.
use mathlib.Core.Path.{ap, sym, ◌∙◌}
use Rattle.rules.specs.Proper.{parts_from}
use Rattle.settings.specs.Settings.{encoding_of}
use Rattle.settings.specs.declared.EncodingMode.{EncodingMode}
use Rattle.writer.specs.Outcome.{parting_of}
use Rattle.proper.proofs.parts.Goals as goal

pub returns-in-Group4 : goal.returns-in-Group4
returns-in-Group4 c =
    let s = c.args in
    c.parts_page.ensures
    ∙ ap (λ (e : EncodingMode). parting_of (parts_from (encoding_of e) s.columns s.changes.now s.ends.now s.src.now)) (sym c.in-Group4.is)

pub returns-in-Group3_1D : goal.returns-in-Group3_1D
returns-in-Group3_1D c =
    let s = c.args in
    c.parts_group3_1d.ensures
    ∙ ap (λ (e : EncodingMode). parting_of (parts_from (encoding_of e) s.columns s.changes.now s.ends.now s.src.now)) (sym c.in-Group3_1D.is)

pub returns-in-Group3_2D : goal.returns-in-Group3_2D
returns-in-Group3_2D c =
    let s = c.args in
    c.parts_group3_2d.ensures
    ∙ ap (λ (e : EncodingMode). parting_of (parts_from (encoding_of e) s.columns s.changes.now s.ends.now s.src.now)) (sym c.in-Group3_2D.is)
