-- A page that is read and checked.
use Rattle.std.specs.Prelude.{◌≡◌, List, ℕ, length}
use Rattle.rules.specs.Pages.{decode, places_in}
use Rattle.rules.specs.Standing.{has_given_up}
use Rattle.rules.specs.Proper.{is_proper, parts_in}
use Rattle.settings.specs.declared.DecodeSettings.{DecodeSettings}
use Rattle.settings.specs.Settings.{settings_of}
use Rattle.ccitt.specs.Decode.{Decodes}
use Rattle.proper.specs.declared.Checked.{Checked}

-- The answer and the arrays are those of `decode`; and it says whether EOLs were given up, whether the page is proper, and where it parts.
pub record Checks (bytes : List ℕ) (settings : DecodeSettings) (xs es ms : List ℕ) (r : Checked) (ys fs ns : List ℕ) : Type 0 where
  pub decodes : Decodes bytes settings xs es ms r.answer ys fs ns
  pub gave_up : r.gave_up ≡ has_given_up (settings_of settings) bytes (length xs) (places_in es ms)
  pub proper : r.proper ≡ is_proper (settings_of settings) bytes (decode (settings_of settings) bytes (length xs) (places_in es ms))
  pub parts : r.parts ≡ parts_in (settings_of settings) bytes (decode (settings_of settings) bytes (length xs) (places_in es ms))
