-- A call's units, one after the other: what they come to, and how many they are.
use Rattle.std.specs.Prelude.{◌≡◌, List, ℕ, length}
use Rattle.rules.specs.Machine.{more}
use Rattle.rules.specs.Bits.{bits_of}
use Rattle.rules.specs.Pages.{places_in}
use Rattle.rules.specs.Units.{call, taken}
use Rattle.settings.specs.declared.DecodeSettings.{DecodeSettings}
use Rattle.settings.specs.Settings.{settings_of}
use Rattle.by_unit.specs.declared.stand.Stand.{Stand}
use Rattle.by_unit.specs.declared.stand.Kept.{Kept}
use Rattle.by_unit.specs.declared.take.TakenUnits.{TakenUnits}
use Rattle.by_unit.specs.Standing.{going_at, KeptIn, StandIn, Asked, Comes}

-- what they ask of the state, which may be one that is not settled
pub record TakeFrom (bytes : List ℕ) (settings : DecodeSettings) (xs es ms : List ℕ) (k : Kept) (s : Stand) : Type 0 where
  pub asked : Asked bytes settings
  pub kept : KeptIn settings.columns xs es ms k
  pub stand : StandIn bytes settings.columns xs k 0 s

pub record Takes (bytes : List ℕ) (settings : DecodeSettings) (xs es ms : List ℕ) (k : Kept) (s : Stand) (n : ℕ) (r : TakenUnits) (ys fs ns : List ℕ) : Type 0 where
  pub comes : Comes bytes settings.columns k.rows k.base xs es ms (call (settings_of settings) (bits_of bytes) (length xs) (places_in es ms) n (more (going_at xs k s))) r.out ys fs ns
  pub units : r.units ≡ taken (settings_of settings) (bits_of bytes) (length xs) (places_in es ms) n (more (going_at xs k s))
