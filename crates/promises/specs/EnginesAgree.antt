-- A14, "A slow twin": the plain engine gives the lookup engine's run, bits taken and answer on all data from any starting bit. The colour is a parameter, so that both are one claim.
use Rattle.std.specs.Prelude.{◌≡◌, Bool, true, false, List, ℕ, drop, Result, Err}
use Rattle.rules.specs.Answers.{overflow}
use Rattle.rules.specs.Bits.{bits_of}
use Rattle.rules.specs.Codes.{Colour}
use Rattle.rules.specs.Plain.{lost, plain, by_lookup}
use Rattle.answer.specs.Answer.{number_of}
use Rattle.answer.specs.declared.Answer.{Answer}
use Rattle.bit_reader.specs.declared.buffer.Buffer.{Buffer}
use Rattle.codes.specs.Plain.{found_of}
use Rattle.codes.specs.Runs.{RunRead}
use Rattle.codes.specs.declared.fault.Fault.{Fault}
use Rattle.codes.specs.declared.plain.Code.{Code}
use Rattle.codes.specs.declared.plain.LostCode.{LostCode}
use Rattle.settings.specs.declared.DecodeSettings.{DecodeSettings}
use Rattle.ccitt.specs.Decode.{Decodes}
use Rattle.promises.specs.PinnedInside.{AlikeRuns}

-- ---- One code

-- both engines at a bit, by their contracts: the plain one answers r (codes::plain::read_code), the lookup one s (codes::run::look_up)
pub record BothAt (colour : Colour) (bytes : List ℕ) (at : ℕ) (r s : Result Code LostCode) : Type 0 where
  pub compared : found_of r ≡ plain colour (drop at (bits_of bytes))
  pub looked_up : found_of s ≡ by_lookup colour (drop at (bits_of bytes))

-- the same run and bits taken; or the same answer, and the same bits taken of the code that fails
abbrev pub CodesAgree : Type 0
CodesAgree = (colour : Colour) (bytes : List ℕ) (at : ℕ) (r s : Result Code LostCode) → BothAt colour bytes at r s → r ≡ s

-- ---- A run

-- codes::run::read_run from a buffer, codes::plain::read_run from its bit: the same run, with alike buffers at the bit behind it; or the same error, at a code that began at the same bit
abbrev pub RunsAgree : Type 0
RunsAgree =
    (colour : Colour) (bytes : List ℕ) (b : Buffer) (r s : Result (ℕ × Buffer) Fault)
    → RunRead colour bytes b.at r
    → RunRead colour bytes b.at s
    → AlikeRuns r s

-- and of that code both engines take the same bits before they give the run's answer, 1 or 2; at 3 the code was read, and only the sum passed the limit
abbrev pub FailingCodesAgree : Type 0
FailingCodesAgree =
    (colour : Colour) (bytes : List ℕ) (at : ℕ) (e : Fault) → RunRead colour bytes at (Err e) → (number_of e.error ≡ overflow → ⊥)
    → (r s : Result Code LostCode) → BothAt colour bytes e.at r s
    → (taken : ℕ) × (found_of r ≡ lost (number_of e.error) taken) × (found_of s ≡ lost (number_of e.error) taken)

-- ---- A page

-- the same settings, read by one engine or the other
abbrev pub by_engine : Bool → DecodeSettings → DecodeSettings
by_engine plain s = record {
  columns = s.columns;
  rows = s.rows;
  end_of_block = s.end_of_block;
  end_of_line = s.end_of_line;
  rows_are_byte_aligned = s.rows_are_byte_aligned;
  encoding = s.encoding;
  strict = s.strict;
  exact = s.exact;
  plain = plain;
}

-- the same answer, and the same in every entry of the arrays
abbrev pub PagesAgree : Type 0
PagesAgree =
    (bytes : List ℕ) (settings : DecodeSettings) (changes ends marks : List ℕ) (r s : Answer) (xs ys es fs ms ns : List ℕ)
    → Decodes bytes (by_engine false settings) changes ends marks r xs es ms
    → Decodes bytes (by_engine true settings) changes ends marks s ys fs ns
    → (r ≡ s) × (xs ≡ ys) × (es ≡ fs) × (ms ≡ ns)
