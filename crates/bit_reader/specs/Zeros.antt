-- What counting zeros answers.
use Rattle.std.proofs.Math.Option.{Option, none, some}
use Rattle.std.specs.Prelude.{ℕ, ◌+◌}

-- the first one, by the zeros before it (`zero_run`), from a bit on; the end where there is none
abbrev pub one_or_end : ℕ → ℕ → Option ℕ → ℕ
one_or_end end from none = end
one_or_end end from (some z) = from + z
