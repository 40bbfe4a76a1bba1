-- The settings of the source, and those of the rules that they stand for.
use Rattle.std.specs.Prelude.{Bool, true, false, ◌||◌}
use Rattle.rules.specs.Group3.{Tagging, untagged, tagged}
use Rattle.rules.specs.Rows.{Encoding, group4, group3_1_d, group3_2_d, Settings}
use Rattle.settings.specs.declared.DecodeSettings.{DecodeSettings}
use Rattle.settings.specs.declared.EncodingMode.{EncodingMode}
use Rattle.settings.specs.declared.EncodingMode.TheVariants.{Group4, Group3_1D, Group3_2D}

abbrev pub encoding_of : EncodingMode → Encoding
encoding_of Group4 = group4
encoding_of Group3_1D = group3_1_d
encoding_of Group3_2D = group3_2_d

-- the engine is no matter of the rules: both read the same (A14)
abbrev pub settings_of : DecodeSettings → Settings
settings_of s = record {
  columns = s.columns;
  rows = s.rows;
  end_of_block = s.end_of_block;
  end_of_line = s.end_of_line;
  aligned = s.rows_are_byte_aligned;
  encoding = encoding_of s.encoding;
  strict = s.strict;
  exact = s.exact;
}

abbrev pub is_group4 : EncodingMode → Bool
is_group4 Group4 = true
is_group4 Group3_1D = false
is_group4 Group3_2D = false

-- only 2D lines have tag bits; no Group 4 page is asked for them
abbrev pub tagging_of : EncodingMode → Tagging
tagging_of Group4 = untagged
tagging_of Group3_1D = untagged
tagging_of Group3_2D = tagged

-- exact implies strict (A12): the settings of a page as it is read, which stand for `strict_if_exact` of the rules
abbrev pub strict_for : DecodeSettings → DecodeSettings
strict_for s = record {
  columns = s.columns;
  rows = s.rows;
  end_of_block = s.end_of_block;
  end_of_line = s.end_of_line;
  rows_are_byte_aligned = s.rows_are_byte_aligned;
  encoding = s.encoding;
  strict = s.exact || s.strict;
  exact = s.exact;
  plain = s.plain;
}
