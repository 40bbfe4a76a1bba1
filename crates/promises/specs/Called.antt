-- What the functions of this crate (src/lib.rt) ensure, where it is more than the predicate of the function that they call.
use Rattle.std.specs.Prelude.{◌≡◌, List, ℕ, ℤ}
use Rattle.rules.specs.Answers.{complete, bad_rows}
use Rattle.settings.specs.declared.DecodeSettings.{DecodeSettings}
use Rattle.heads.specs.declared.Box.{Box}
use Rattle.promises.specs.declared.Told.{Told}
use Rattle.promises.specs.Rooms.{Call, Reading}
use Rattle.promises.specs.HeadsOfPage.{asked_of, Counted}

-- A page decoded, and its heads asked for at once: the page is as `decode` promises; 8 is never answered; and with the number 0 the heads are counted in lines that
-- the page's own bits say, each read clean.
pub record HeadsAfter (bytes : List ℕ) (settings : DecodeSettings) (c : Call) (form : List (List Box)) (least : ℕ) (quota : ℤ) (r : Told) : Type 0 where
  pub read : Reading bytes settings c
  pub passes : r.heads.number ≡ bad_rows → ⊥
  pub counted : r.heads.number ≡ complete → Counted bytes settings c (asked_of settings c c.answer.rows form least quota) r.heads

abbrev pub HeadsOfDecoded : List ℕ → DecodeSettings → List ℕ → List ℕ → List ℕ → List (List Box) → ℕ → ℤ → Told → List ℕ → List ℕ → List ℕ → Type 0
HeadsOfDecoded bytes settings changes ends marks form least quota r changes' ends' marks' =
    HeadsAfter bytes settings
    (record { changes = changes; ends = ends; marks = marks; answer = r.page; changes' = changes'; ends' = ends'; marks' = marks' })
    form least quota r
