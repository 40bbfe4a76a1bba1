-- Demand 1, of the page form: "Each row takes at least one bit of data, except at most one recovered row in a Group 3 page." That rows so never exceed 8 × bytes + 1
-- is a clause of `DecodeAnswers`.
use Rattle.std.specs.Prelude.{◌≡◌, ◌⊎◌, Bool, List, ℕ, suc, ◌≤◌, ◌<◌, length, get_or}
use Rattle.rules.specs.Machine.{more, run}
use Rattle.rules.specs.Bits.{bits_of}
use Rattle.rules.specs.Rows.{group4, Settings, recovered_mark}
use Rattle.rules.specs.Pages.{Kept, none_kept, page_step, row_of, strict_if_exact, places_in}
use Rattle.answer.specs.declared.Answer.{Answer}
use Rattle.settings.specs.declared.DecodeSettings.{DecodeSettings}
use Rattle.settings.specs.Settings.{settings_of}
use Rattle.ccitt.specs.Decode.{Decodes}

-- The one row that may take none: the page's first, which was recovered, of a Group 3 page.
pub record Excepted (S : Settings) (n mark : ℕ) : Type 0 where
  pub first : n ≡ 0
  pub recovered : mark ≡ recovered_mark
  pub group_3 : S.encoding ≡ group4 → ⊥

-- Row n (the first is 0) of a page, with its mark: where the reader stands before it and behind it, in the data, and that it took a bit.
pub record RowTakes (S : Settings) (bs : List Bool) (store places n mark : ℕ) : Type 0 where
  pub before : Kept
  pub after : Kept
  pub reached : run (page_step (row_of S.encoding S bs) store places) n none_kept ≡ more before
  pub read : run (page_step (row_of S.encoding S bs) store places) (suc n) none_kept ≡ more after
  pub inside : after.state.at ≤ length bs
  pub takes : (before.state.at < after.state.at) ⊎ ((before.state.at ≡ after.state.at) × Excepted S n mark)

-- every row that `decode` kept; an exact page is read strictly (A12)
abbrev pub RowsTakeBits : Type 0
RowsTakeBits =
    (bytes : List ℕ) (settings : DecodeSettings) (changes ends marks : List ℕ) (r : Answer) (changes' ends' marks' : List ℕ)
    → Decodes bytes settings changes ends marks r changes' ends' marks'
    → (n : ℕ) → n < r.rows
    → RowTakes (strict_if_exact (settings_of settings)) (bits_of bytes) (length changes) (places_in ends marks) n (get_or marks' n 0)
