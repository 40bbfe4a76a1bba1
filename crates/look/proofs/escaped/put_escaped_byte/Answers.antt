-- `look::escaped::put_escaped_byte` meets its contract. Assumes nothing.
use Rattle.look.proofs.Escaping.{byte-mark, byte-plain}
use Rattle.listing_text.proofs.Written.{room_as, puts-as}
use Prim.Native.Nat.{ℕ}
use mathlib.Core.List.{[], ◌∷◌}
use mathlib.Core.Path.{◌≡◌, sym, ap, ◌∙◌}
use Rattle.look.proofs.escaped.put_escaped_byte.Goals as goal

pub put_reference-requires : goal.put_reference-requires
put_reference-requires c = room_as (byte-mark c.args.b (sym c.is_mark.ensures ∙ c.if-is_mark.true)) c.requires

pub returns-then-is_mark : goal.returns-then-is_mark
returns-then-is_mark c = puts-as (sym (byte-mark c.args.b (sym c.is_mark.ensures ∙ c.if-is_mark.true))) c.put_reference.ensures

pub put_byte-requires : goal.put_byte-requires
put_byte-requires c = room_as (byte-plain c.args.b (sym c.is_mark.ensures ∙ c.if-is_mark.false) ∙ ap (λ (x : ℕ). x ∷ []) (sym c.shown_byte.ensures)) c.requires

pub returns : goal.returns
returns c = puts-as (sym (byte-plain c.args.b (sym c.is_mark.ensures ∙ c.if-is_mark.false) ∙ ap (λ (x : ℕ). x ∷ []) (sym c.shown_byte.ensures))) c.put_byte.ensures
