use mathlib.Core.Path.{ap}
use Rattle.settings.specs.declared.DecodeSettings.{DecodeSettings}
use Rattle.settings.specs.declared.EncodingMode.TheVariants.{Group4}
use Rattle.by_unit.proofs.as_read.Goals as goal

pub returns : goal.returns
returns c = ap as_group4 c.strict_if_exact-strict.ensures
  where
    as_group4 : DecodeSettings → DecodeSettings
    as_group4 s = record { columns = s.columns; rows = s.rows; end_of_block = s.end_of_block; end_of_line = s.end_of_line; rows_are_byte_aligned = s.rows_are_byte_aligned; encoding = Group4; strict = s.strict; exact = s.exact; plain = s.plain }
