-- `ledger::said::put_name` meets its contract. The invariant: the bytes of the name from `i` on are left. Assumes nothing.
use mathlib.Core.Path.{◌≡◌, sym, ap, ◌∙◌}
use mathlib.Core.List.{List, ◌∷◌}
use Prim.Native.Nat.{ℕ, ◌+◌, ◌<◌}
use native.Mathlib.Omega.{arith}
use lib.ListN.{length, get_or, drop, drop_of_length-le}
use Rattle.listing_text.proofs.Written.{owes-all, owes-room, owes-some, owes-none}
use Rattle.ledger.specs.Said.{shown, shown_byte}
use Rattle.ledger.proofs.Filling.{shown-split, shown-none}
use Rattle.ledger.proofs.said.put_name.Goals as goal

-- what is left, with the byte that comes next as it was made
next : (name : List ℕ) (i b : ℕ) → i < length name → b ≡ shown_byte (get_or name i 0) → shown (drop i name) ≡ b ∷ shown (drop (i + 1) name)
next name i b h e = shown-split name i h ∙ ap (λ (x : ℕ). x ∷ shown (drop (i + 1) name)) (sym e)

pub loop-b-init : goal.loop-b-init
loop-b-init c = (owes-all c.requires, omega arith)

pub put_byte-p-requires : goal.put_byte-p-requires
put_byte-p-requires c = owes-room c.loop-b.invariant.0 _ _ (next _ _ _ c.loop-b-test.true c.shown_byte.ensures)

pub loop-b-preserved : goal.loop-b-preserved
loop-b-preserved c = (owes-some c.loop-b.invariant.0 _ _ (next _ _ _ c.loop-b-test.true c.shown_byte.ensures) c.put_byte-p.ensures, omega arith)

pub shape_of-out : goal.shape_of-out
shape_of-out c = c.loop-b.invariant.0.size

pub returns : goal.returns
returns c = owes-none c.loop-b.invariant.0 (shown-none _ (drop_of_length-le _ c.loop-b-test.false))
