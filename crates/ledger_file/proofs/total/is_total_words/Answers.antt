-- `ledger_file::total::is_total_words` meets its contract. Assumes nothing.
use Rattle.listing_text.specs.Text.{ascii}
use Rattle.ledger_file.proofs.Totalling.{no-digits, too_short, words-so}
use lib.ListN.{take, drop}
use Prim.Native.Nat.{ℕ, ◌+◌, ◌-◌}
use mathlib.Core.Path.{◌≡◌, ap}
use native.Mathlib.Omega.{arith}
use Rattle.ledger_file.proofs.total.is_total_words.Goals as goal

pub returns-then-k-eq0 : goal.returns-then-k-eq0
returns-then-k-eq0 c = no-digits c.args.word.now c.digits_end-k.ensures c.if-k-eq0.true

pub returns-then-word-lt5 : goal.returns-then-word-lt5
returns-then-word-lt5 c = too_short c.args.word.now c.digits_end-k.ensures c.if-k-eq0.false (omega arith)

pub returns-then-word-k : goal.returns-then-word-k
returns-then-word-k c = too_short c.args.word.now c.digits_end-k.ensures c.if-k-eq0.false (omega arith)

pub returns : goal.returns
unfolding ascii
returns c = words-so c.args.word.now c.digits_end-k.ensures c.if-k-eq0.false (let z : (c.digits_end-k.result + 5) - c.digits_end-k.result ≡ 5 = omega arith in ap (λ (n : ℕ). take n (drop c.digits_end-k.result c.args.word.now)) z) c.same.ensures
