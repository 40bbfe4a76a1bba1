-- Texts without a tab, which are one field. Assumes nothing.
use mathlib.Core.Path.{◌≡◌, refl, sym, ap, ◌∙◌}
use mathlib.Core.Bool.{Bool, true}
use mathlib.Core.List.{List, [], map}
use Prim.Native.Nat.{ℕ, ◌+◌, ◌-◌, ◌≤◌}
use native.Mathlib.Omega.{arith}
use lib.ListN.{drop}
use lib.Seq.{get_or-drop}
use Rattle.listing_text.specs.Text.{ascii, tab, decimal}
use Rattle.ledger.specs.Phrases.{words, phrase}
use Rattle.ledger.specs.Said.{fill, shown}
use Rattle.ledger.proofs.Lacking.{lacks, all-lack, lacks-at, decimal-lacks, shown-lacks, fill-lacks}

abbrev pub tabless : List ℕ → Bool
tabless xs = lacks tab xs

pub decimal-tabless : (n : ℕ) → tabless (decimal n) ≡ true
decimal-tabless n = decimal-lacks tab (omega arith) n

pub shown-tabless : (name : List ℕ) → tabless (shown name) ≡ true
shown-tabless name = shown-lacks tab (omega arith) name

-- each phrase behind those of a line and the total is
words-tabless : all-lack tab (drop 8 (map ascii words)) ≡ true
unfolding all-lack lacks words ascii
words-tabless = refl

pub phrase-tabless : (ns : List ℕ) (k : ℕ) → 8 ≤ k → tabless (fill ns (phrase k)) ≡ true
phrase-tabless ns k h =
    fill-lacks tab (omega arith) ns (phrase k)
    ((let z : 8 + (k - 8) ≡ k = omega arith in ap (λ (n : ℕ). tabless (phrase n)) (sym z) ∙ ap tabless (sym (get_or-drop 8 (map ascii words) (k - 8) []))) ∙ lacks-at tab (drop 8 (map ascii words)) words-tabless (k - 8))
