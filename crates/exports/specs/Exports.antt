-- The settings that the parameters of a C function stand for.
use Rattle.std.specs.Prelude.{Bool, ℕ}
use Rattle.settings.specs.declared.DecodeSettings.{DecodeSettings}
use Rattle.settings.specs.declared.EncodingMode.{EncodingMode}

abbrev pub settings_for : ℕ → ℕ → Bool → Bool → Bool → EncodingMode → Bool → Bool → Bool → DecodeSettings
settings_for columns rows eob eol aligned encoding strict exact plain = record {
  columns = columns;
  rows = rows;
  end_of_block = eob;
  end_of_line = eol;
  rows_are_byte_aligned = aligned;
  encoding = encoding;
  strict = strict;
  exact = exact;
  plain = plain;
}
