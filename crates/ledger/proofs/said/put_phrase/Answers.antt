use mathlib.Core.Path.{◌≡◌, sym, ap, ◌∙◌}
use mathlib.Core.List.{List, []}
use Prim.Native.Nat.{ℕ}
use lib.ListN.{get_or}
use Rattle.listing_text.proofs.Written.{room_as, puts-as}
use Rattle.listing_text.specs.Lines.{lines_of}
use Rattle.ledger.specs.Said.{fill}
use Rattle.ledger.specs.Phrases.{words, lined, phrase}
use Rattle.ledger.proofs.Whole.{phrase-line}
use Rattle.ledger.proofs.said.put_phrase.Goals as goal

-- the text is that of the phrases, and each of its lines one of them
as_line : (t ns : List ℕ) (k : ℕ) → t ≡ lined words → fill ns (get_or (lines_of t) k []) ≡ fill ns (phrase k)
as_line t ns k e = ap (λ (x : List ℕ). fill ns (get_or (lines_of x) k [])) e ∙ ap (fill ns) (phrase-line k)

pub put_line_of-requires : goal.put_line_of-requires
put_line_of-requires c = room_as (sym (as_line _ c.args.numbers.now c.args.k c.phrases-text.ensures)) c.requires

pub returns : goal.returns
returns c = puts-as (as_line _ c.args.numbers.now c.args.k c.phrases-text.ensures) c.put_line_of.ensures
