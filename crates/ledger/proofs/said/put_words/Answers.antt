use mathlib.Core.Path.{sym, ap, ◌∙◌}
use Prim.Native.Nat.{ℕ}
use Rattle.listing_text.proofs.Written.{room_as, puts-as, owes-all, owes-none}
use Rattle.ledger.specs.Said.{fill}
use Rattle.ledger.specs.Phrases.{phrase}
use Rattle.ledger.proofs.Whole.{reason-none, reason-some}
use Rattle.ledger.proofs.said.put_words.Goals as goal

pub returns-then-v-eq0 : goal.returns-then-v-eq0
returns-then-v-eq0 c = owes-none (owes-all c.requires) (reason-none c.args.v c.args.numbers.now c.if-v-eq0.true)

pub put_phrase-requires : goal.put_phrase-requires
put_phrase-requires c = room_as (reason-some c.args.v c.args.numbers.now c.if-v-eq0.false ∙ ap (λ (k : ℕ). fill c.args.numbers.now (phrase k)) (sym c.reason_at.ensures)) c.requires

pub returns : goal.returns
returns c = puts-as (ap (λ (k : ℕ). fill c.args.numbers.now (phrase k)) c.reason_at.ensures ∙ sym (reason-some c.args.v c.args.numbers.now c.if-v-eq0.false)) c.put_phrase.ensures
