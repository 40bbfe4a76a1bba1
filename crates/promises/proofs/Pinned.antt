-- Each contract settles its answer and every entry of the lent arrays. Assumes nothing.
use mathlib.Core.Path.{◌≡◌, sym, ◌∙◌}
use mathlib.Core.Bool.{Bool}
use mathlib.Core.List.{List}
use Prim.Native.Nat.{ℕ, zero, suc}
use lib.ListN.{length}
use Rattle.writer.proofs.Only.{only_one}
use Rattle.context.specs.declared.line.Line.{Line}
use Rattle.lent.specs.Lent.{LendsAt, tested}
use Rattle.promises.specs.Pinned.{DecodePinned, DecodeWatchedPinned, ReadLinePinned, WritersPinned, PushPinned}

pub decode-pinned : DecodePinned
decode-pinned bytes settings changes ends marks r s xs ys es fs ms ns g h =
    (g.answer ∙ sym h.answer, g.changes ∙ sym h.changes, g.ends ∙ sym h.ends, g.marks ∙ sym h.marks)

pub decode-watched-pinned : DecodeWatchedPinned
decode-watched-pinned bytes settings changes ends marks r s xs ys es fs ms ns g h =
    let d = decode-pinned bytes settings changes ends marks r.answer s.answer xs ys es fs ms ns g.decodes h.decodes in
    (λ i. record { answer = d.0 i; gave_up = (g.gave_up ∙ sym h.gave_up) i }, d.1, d.2, d.3)

pub read-line-pinned : ReadLinePinned
read-line-pinned bytes at columns strict reference changes r s xs ys g h = (g.answer ∙ sym h.answer, g.store ∙ sym h.store)

pub writers-pinned : WritersPinned
writers-pinned w out r s xs ys a b g h = only_one g h a b

pushed-once : (n : ℕ) (xs : List ℕ) (l : Line) (count : ℕ) (strict : Bool) (r s : ℕ) (m o : Line) (ys zs : List ℕ)
    → LendsAt n xs l count strict r m ys → LendsAt n xs l count strict s o zs → (r ≡ s) × (m ≡ o) × (ys ≡ zs)
pushed-once zero xs l count strict r s m o ys zs g h =
    let a = g 0 0 in let b = h 0 0 in (a.number ∙ sym b.number, a.line ∙ sym b.line, a.store ∙ sym b.store)
pushed-once (suc n) xs l count strict r s m o ys zs g h = (g.number ∙ sym h.number, g.line ∙ sym h.line, g.store ∙ sym h.store)

pub push-pinned : PushPinned
push-pinned xs l count strict r s m o ys zs g h = pushed-once (tested (length xs) l) xs l count strict r s m o ys zs g h
