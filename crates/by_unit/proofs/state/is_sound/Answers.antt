use mathlib.Core.Path.{sym, ap, ap₂, ◌∙◌}
use native.Mathlib.Omega.{arith}
use Prim.Native.Nat.{ℕ, ◌+◌, ◌*◌}
use lib.ListN.{length}
use borrow.Author.Tests.{not-true, not-false}
use Rattle.rules.specs.ByUnit.{end_of}
use Rattle.by_unit.specs.Reading.{counts_for, rows_for}
use Rattle.by_unit.proofs.Tests.{no, yes, over, within, counted}
use Rattle.by_unit.proofs.state.is_sound.Goals as goal

pub returns-then-not-are_bits : goal.returns-then-not-are_bits
returns-then-not-are_bits c = no _ _ (sym c.are_bits.ensures ∙ not-true _ c.if-not-are_bits.true-raw)

pub returns-then-columns-saved : goal.returns-then-columns-saved
returns-then-columns-saved c = over c.args.saved.position c.args.columns _ c.if-columns-saved.true ∙ yes _ _ (sym c.are_bits.ensures ∙ not-false _ c.if-not-are_bits.false-raw)

pub returns-then-not-are_counts : goal.returns-then-not-are_counts
returns-then-not-are_counts c =
    let a = c.args in
    no _ _ (sym (c.are_counts.ensures ∙ ap (λ (n : ℕ). counts_for (8 * a.size + 1) n a.saved) c.min.ensures) ∙ not-true _ c.if-not-are_counts.true-raw) ∙ within a.saved.position a.columns _ c.if-columns-saved.false ∙ yes _ _ (sym c.are_bits.ensures ∙ not-false _ c.if-not-are_bits.false-raw)

pub end_of-start-requires : goal.end_of-start-requires
end_of-start-requires c =
    let a = c.args in
    omega (arith, c.one_less.ensures, (counted (8 * a.size + 1) (length a.ends.now) (length a.marks.now) a.saved (sym (c.are_counts.ensures ∙ ap (λ (n : ℕ). counts_for (8 * a.size + 1) n a.saved) c.min.ensures) ∙ not-false _ c.if-not-are_counts.false-raw)).0)

pub end_of-base-requires : goal.end_of-base-requires
end_of-base-requires c =
    let a = c.args in
    (counted (8 * a.size + 1) (length a.ends.now) (length a.marks.now) a.saved (sym (c.are_counts.ensures ∙ ap (λ (n : ℕ). counts_for (8 * a.size + 1) n a.saved) c.min.ensures) ∙ not-false _ c.if-not-are_counts.false-raw)).0

pub are_rows-requires : goal.are_rows-requires
are_rows-requires c =
    let a = c.args in
    let p = c.requires in
    record {
      few = omega (arith, p);
      loose = (counted (8 * a.size + 1) (length a.ends.now) (length a.marks.now) a.saved (sym (c.are_counts.ensures ∙ ap (λ (n : ℕ). counts_for (8 * a.size + 1) n a.saved) c.min.ensures) ∙ not-false _ c.if-not-are_counts.false-raw)).1;
    }

pub returns : goal.returns
returns c =
    let a = c.args in
    c.are_rows.ensures
    ∙ ap₂ (λ (m n : ℕ). rows_for (8 * a.size + 1) a.columns a.changes.now m n a.saved) (c.end_of-start.ensures ∙ ap (end_of a.ends.now) c.one_less.ensures) c.end_of-base.ensures
    ∙ yes _ _ (sym (c.are_counts.ensures ∙ ap (λ (n : ℕ). counts_for (8 * a.size + 1) n a.saved) c.min.ensures) ∙ not-false _ c.if-not-are_counts.false-raw)
    ∙ within a.saved.position a.columns _ c.if-columns-saved.false
    ∙ yes _ _ (sym c.are_bits.ensures ∙ not-false _ c.if-not-are_bits.false-raw)
