-- A page that is decoded, and its heads that are asked for at once (specs/Called.antt): from the two contracts, and the promises over them. Assumes nothing.
use mathlib.Core.Path.{◌≡◌, refl, sym, ap, ap₂, ◌∙◌}
use mathlib.Core.List.{List}
use Prim.Native.Nat.{ℕ, ◌≤◌}
use native.Mathlib.Omega.{arith}
use lib.IntN.{ℤ}
use lib.ListN.{take}
use Rattle.rules.specs.Answers.{most_pixels}
use Rattle.settings.specs.declared.DecodeSettings.{DecodeSettings}
use Rattle.heads.specs.Form.{heads}
use Rattle.heads.specs.declared.Box.{Box}
use Rattle.heads.specs.declared.HeadsAnswer.{HeadsAnswer}
use Rattle.promises.specs.declared.Told.{Told}
use Rattle.promises.specs.Rooms.{Call, Reading}
use Rattle.promises.specs.Heads.{Shaped}
use Rattle.promises.specs.Called.{HeadsAfter}
use Rattle.promises.proofs.HeadsOfPage.{decoded-page-passes, heads-of-page}

pub heads-after : (bytes : List ℕ) (settings : DecodeSettings) (c : Call) (form : List (List Box)) (least : ℕ) (quota : ℤ) (r : HeadsAnswer) (ends marks : List ℕ)
    → settings.columns ≤ most_pixels → Shaped form → Reading bytes settings c → ends ≡ take c.answer.rows c.ends' → marks ≡ take c.answer.rows c.marks'
    → r ≡ heads settings.columns c.changes' ends marks form least quota
    → HeadsAfter bytes settings c form least quota (record { page = c.answer; heads = r })
heads-after bytes settings c form least quota r ends marks narrow shape read same_ends same_marks is =
    let answers : r ≡ heads settings.columns c.changes' (take c.answer.rows c.ends') (take c.answer.rows c.marks') form least quota =
    is ∙ ap₂ (λ (e m : List ℕ). heads settings.columns c.changes' e m form least quota) same_ends same_marks in
    record {
      read = read;
      passes = decoded-page-passes bytes settings c narrow read c.answer.rows (omega arith) form least quota r shape answers;
      counted = heads-of-page bytes settings c narrow read c.answer.rows (omega arith) form least quota r shape answers;
    }
