-- A13 with tag bits is met: what the rules say of 2D pages with bad lines, over the contract of `decode`. Assumes nothing.
use mathlib.Core.Path.{◌≡◌, sym, ap, ◌∙◌, subst}
use mathlib.Core.Bool.{true, false}
use mathlib.Core.List.{[], ◌++◌}
use mathlib.Core.Logic.{inl}
use Prim.Native.Nat.{ℕ}
use native.Mathlib.Omega.{arith}
use lib.ListN.{length}
use Rattle.rules.specs.Answers.{complete}
use Rattle.rules.specs.Group3.{tagged}
use Rattle.rules.specs.Damage2D.{arrived_page_2d, may_all_2d, SparedTo1D}
use Rattle.rules.proofs.Mending.{Mends}
use Rattle.rules.proofs.MendedPage.{spared-count}
use Rattle.rules.proofs.BadLines2D.{bad-lines-2d}
use Rattle.answer.specs.declared.Answer.{Answer}
use Rattle.settings.specs.Settings.{encoding_of, settings_of}
use Rattle.promises.specs.Rooms.{places}
use Rattle.promises.specs.BadLines2D.{BadLinesCostRowsTo1D}
use Rattle.promises.proofs.Rooms.{answer_in}
use Rattle.promises.proofs.BadLines.{number_is, handed-over, room-is}

pub bad-lines-cost-rows-to-1d : BadLinesCostRowsTo1D
bad-lines-cost-rows-to-1d columns fill lines bytes settings c a = (
  number_is bytes settings c a.reading ∙ d.0,
  ap (λ (x : Answer). x.rows) a.reading.answer ∙ spared-count d.1,
  handed-over bytes settings c a.reading (SparedTo1D false lines) d.1,
)
  where
    same : settings.columns ≡ columns
    same = a.set.same_columns

    mends : Mends tagged (settings_of settings) (length lines) a.rest
    mends = record {
      encoded = ap encoding_of a.set.group_3;
      lenient = a.set.lenient;
      wide = omega (arith, same, a.wide);
      narrow = omega (arith, same, a.narrow);
      counted = inl a.set.counted;
    }

    d : ((answer_in bytes settings c).number ≡ complete) × SparedTo1D false lines (answer_in bytes settings c).rows (answer_in bytes settings c).marks
    d =
        bad-lines-2d (settings_of settings) a.set.inexact fill a.three lines a.some_lines
        (subst (λ (n : ℕ). may_all_2d n lines ≡ true) (sym same) a.allowed) a.rest mends (omega (arith, same, a.narrow))
        bytes a.small (a.there ∙ ap (λ (n : ℕ). arrived_page_2d n fill [] lines ++ a.rest) (sym same)) (length c.changes) (places c)
        (room-is bytes settings c a.reading (length lines) columns same a.roomy)
