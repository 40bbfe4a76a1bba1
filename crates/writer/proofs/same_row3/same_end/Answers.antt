-- `writer::same_row3::same_end` meets its contract. By the layout. Assumes nothing.
use mathlib.Core.Path.{refl, sym, ap, ◌∙◌}
use native.Mathlib.Omega.{arith}
use Rattle.rules.specs.WriteGroup3.{times}
use Rattle.writer.specs.Paging3.{layout_of}
use Rattle.writer.proofs.Row3Laws.{end-bare, end-mixed}
use Rattle.writer.proofs.Leaving.{met-inside, meets-as, passed_on}
use Rattle.writer.proofs.CodesMet3.{met-none, end-parts, end-met}
use Rattle.writer.proofs.same_row3.same_end.Goals as goal

pub returns-in_err-met-in-Filled : goal.returns-in_err-met-in-Filled
returns-in_err-met-in-Filled c = passed_on _ c.from_residual.ensures.1 (end-parts _ _ (ap layout_of c.in-Filled.is) c.requires c.in_err-met-in-Filled.ensures refl)

pub same_times-requires : goal.same_times-requires
same_times-requires c = (omega arith, c.eol.ensures.sound, met-inside c.requires c.in_ok-met-in-Filled.ensures)

pub returns-in-Bare : goal.returns-in-Bare
returns-in-Bare c = met-none c.requires (end-bare (ap layout_of c.in-Bare.is))

pub returns-in_ok-met-in-Filled : goal.returns-in_ok-met-in-Filled
returns-in_ok-met-in-Filled c =
    end-met _ _ (ap layout_of c.in-Filled.is) c.requires c.in_ok-met-in-Filled.ensures refl
    (meets-as (ap (times 5) c.eol.ensures.bits) c.same_times.ensures)

pub returns-in-Mixed : goal.returns-in-Mixed
returns-in-Mixed c =
    meets-as (ap (times 6) c.tagged.ensures.bits ∙ sym (end-mixed (ap layout_of c.in-Mixed.is))) c.same_times-in-Mixed.ensures
