-- What the steps of reading the line of settings find.
use Rattle.std.specs.Prelude.{◌≡◌, Bool, cond, ◌&&◌, Option, Some, None, List, ◌++◌, ℕ, ◌-◌, ◌≤◌, ◌<◌, leb, length, get_or, drop}
use Rattle.rules.specs.Rows.{Settings}
use Rattle.settings.specs.Settings.{settings_of, encoding_of}
use Rattle.settings.specs.declared.EncodingMode.{EncodingMode}
use Rattle.listing_text.specs.Text.{decimal}
use Rattle.listing_text.specs.Line.{Held, flag, encoding_number, settings_numbers}
use Rattle.listing_text.specs.declared.settings_line.Number.{Number}
use Rattle.listing_text.specs.declared.settings_line.Parsed.{Parsed}

-- the digit that a byte is; 10 for any other byte
abbrev pub digit_of : ℕ → ℕ
digit_of b = cond (leb 48 b && leb b 57) (b - 48) 10

-- a byte as a digit, or as none
abbrev pub DigitIs : ℕ → Option ℕ → Type 0
DigitIs b (Some d) = (d ≡ digit_of b) × (d ≤ 9)
DigitIs b None = 9 < digit_of b

-- no digit comes next
abbrev pub Stops : List ℕ → Type 0
Stops xs = 9 < digit_of (get_or xs 0 0)

-- a number from a place on, all its digits, and the place behind them
pub record Spelt (bytes : List ℕ) (at n next : ℕ) : Type 0 where
  pub text : drop at bytes ≡ decimal n ++ drop next bytes
  pub inside : next ≤ length bytes
  pub held : Held n

abbrev pub NumberAt : List ℕ → ℕ → Option Number → Type 0
NumberAt bytes at (Some r) = Spelt bytes at r.value r.next × (9 < digit_of (get_or bytes r.next 0))
NumberAt bytes at None = (n : ℕ) (rest : List ℕ) → Held n → Stops rest → drop at bytes ≡ decimal n ++ rest → ⊥

-- a number as a flag or an encoding, or as none
abbrev pub FlagIs : ℕ → Option Bool → Type 0
FlagIs n (Some b) = flag b ≡ n
FlagIs n None = 1 < n

abbrev pub ModeIs : ℕ → Option EncodingMode → Type 0
ModeIs n (Some mode) = encoding_number (encoding_of mode) ≡ n
ModeIs n None = 2 < n

-- the settings that numbers, none missing, stand for; or there are none
abbrev pub Stands : List ℕ → ℕ → Option Parsed → Type 0
Stands ns at (Some p) = (settings_numbers (settings_of p.settings) p.settings.plain ≡ ns) × (p.at ≡ at) × Held p.settings.columns × Held p.settings.rows
Stands ns at None = (S : Settings) (plain : Bool) → settings_numbers S plain ≡ ns → ⊥
