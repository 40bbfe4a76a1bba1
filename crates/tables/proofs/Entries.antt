-- The entries of a lookup table, one after the other.
use mathlib.Core.Path.{◌≡◌, sym, ap, ◌∙◌}
use mathlib.Core.List.{List}
use Prim.Native.Nat.{ℕ, ◌<◌}
use native.Mathlib.Nat.{zero-add}
use lib.ListN.{get_or}
use Rattle.rules.specs.Bits.{bits_for}
use Rattle.rules.specs.Codes.{Colour}
use Rattle.rules.proofs.Lookup.{tabulate-at}
use Rattle.rules.specs.Lookup.{lookup, entry_number, lookup_table}
use Rattle.tables.specs.Tables.{colour_of}
use Rattle.tables.proofs.Colours.{Picks, picked}

-- the rule's number for 13 bits
ruled : ℕ → Colour → ℕ
ruled k colour = entry_number (lookup colour (bits_for 13 k))

pub entry_at : (colour : Colour) (n k : ℕ) {t : List ℕ} → Picks colour n → t ≡ lookup_table colour → k < 8192
    → get_or t k 0 ≡ entry_number (lookup (colour_of n) (bits_for 13 k))
unfolding lookup_table ruled
entry_at colour n k p e h =
    ap (λ (l : List ℕ). get_or l k 0) e
    ∙ tabulate-at (λ (i : ℕ). ruled i colour) 8192 0 k h
    ∙ ap (λ (i : ℕ). ruled i colour) (zero-add k)
    ∙ ap (ruled k) (sym (picked colour n p))
