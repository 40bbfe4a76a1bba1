-- A piece with a name in it, part by part. Assumes nothing.
use mathlib.Core.Path.{◌≡◌, refl, ap, ap₂, ◌∙◌}
use mathlib.Core.Bool.{Bool, true, false, not}
use mathlib.Core.List.{List, [], ◌∷◌, ◌++◌}
use Prim.Native.Nat.{ℕ, ◌+◌, ◌*◌, ◌≤◌}
use native.Mathlib.Omega.{arith}
use lib.Dec.{eqb}
use lib.ListN.{length, length-append}
use Rattle.listing_text.specs.Writing.{Room, Puts}
use Rattle.listing_text.specs.Listed.{Prints}
use Rattle.listing_text.proofs.Written.{Owes, owes-all, owes-room, owes-some, owes-last-room, owes-last}
use Rattle.ledger.specs.Phrases as Ledgers
use Rattle.ledger.specs.Phrases.{one, reason_at}
use Rattle.ledger.specs.Books.{is_counted, left, is_below}
use Rattle.ledger.specs.Said.{fill, numbers, reason_with, no_verdict, head_at}
use Rattle.ledger.specs.declared.Ledger.{Ledger}
use Rattle.ledger.specs.declared.Verdict.{Verdict}
use Rattle.ledger.proofs.Whole.{Small, phrase-short, prints}
use Rattle.look.specs.Phrases.{phrase}
use Rattle.look.specs.Escaped.{escaped}
use Rattle.look.specs.Pieces.{said, named, nothing, top, row, page}
use Rattle.look.proofs.Spoken.{phrase-fits}
use Rattle.look.proofs.Escaping.{Bytes, escaped-short}

reason-fits : (v : Verdict) (ns : List ℕ) → Small ns → length (reason_with v ns) ≤ 200
reason-fits v ns s = by (eqb v.number 0)
  where
    by : (t : Bool) → length {A = ℕ} (elim t [ true ↦ [] | false ↦ fill ns (Ledgers.phrase (reason_at v)) ]) ≤ 200
    by true = omega arith
    by false = phrase-short ns s (reason_at v)

pub named-room : (out name ns : List ℕ) (v : Verdict) (first middle last : ℕ) → Small ns → Bytes name → length name * 6 + 24576 ≤ length out → Room out 0 (named name v ns first middle last)
named-room out name ns v first middle last s b h =
    let end = fill ns (phrase last) in
    let reasoned = reason_with v ns ++ end in
    let behind = fill ns (phrase middle) ++ reasoned in
    record {
      fits =
          omega (
            arith,
            length-append (said ns first) (escaped name ++ behind),
            length-append (escaped name) behind,
            length-append (fill ns (phrase middle)) reasoned,
            length-append (reason_with v ns) end,
            phrase-fits ns s first,
            phrase-fits ns s middle,
            phrase-fits ns s last,
            reason-fits v ns s,
            escaped-short name b,
          );
    }

module _ (out name ns : List ℕ) (v : Verdict) (first middle last : ℕ) (room : Room out 0 (named name v ns first middle last)) where
  abbrev whole : List ℕ
  whole = named name v ns first middle last

  abbrev end : List ℕ
  end = fill ns (phrase last)

  abbrev reasoned : List ℕ
  reasoned = reason_with v ns ++ end

  abbrev behind : List ℕ
  behind = fill ns (phrase middle) ++ reasoned

  starts : Owes 0 whole out 0 (said ns first ++ (escaped name ++ behind)) out
  starts = owes-all room

  pub first-room : Room out 0 (said ns first)
  first-room = owes-room starts (said ns first) (escaped name ++ behind) refl

  module _ {p : ℕ} {out₁ : List ℕ} (begun : Puts out 0 (said ns first) p out₁) where
    second : Owes 0 whole out p (escaped name ++ behind) out₁
    second = owes-some starts (said ns first) (escaped name ++ behind) refl begun

    pub name-room : Room out₁ p (escaped name)
    name-room = owes-room second (escaped name) behind refl

    module _ {q : ℕ} {out₂ : List ℕ} (put : Puts out₁ p (escaped name) q out₂) where
      third : Owes 0 whole out q behind out₂
      third = owes-some second (escaped name) behind refl put

      pub middle-room : Room out₂ q (fill ns (phrase middle))
      middle-room = owes-room third (fill ns (phrase middle)) reasoned refl

      module _ {t : ℕ} {out₃ : List ℕ} (halved : Puts out₂ q (fill ns (phrase middle)) t out₃) where
        fourth : Owes 0 whole out t reasoned out₃
        fourth = owes-some third (fill ns (phrase middle)) reasoned refl halved

        pub reason-room : Room out₃ t (reason_with v ns)
        reason-room = owes-room fourth (reason_with v ns) end refl

        module _ {u : ℕ} {out₄ : List ℕ} (told : Puts out₃ t (reason_with v ns) u out₄) where
          fifth : Owes 0 whole out u end out₄
          fifth = owes-some fourth (reason_with v ns) end refl told

          pub last-room : Room out₄ u end
          last-room = owes-last-room fifth

          pub ended : {w : ℕ} {out₅ : List ℕ} → Puts out₄ u end w out₅ → Prints out whole w out₅
          ended x = prints (owes-last fifth x)

-- ---- A row, what stands before a picture, and the top, as they are put

pub page-as : (name : List ℕ) (v : Verdict) (b : Ledger) {ns : List ℕ} → ns ≡ numbers v b → named name v ns 16 17 18 ≡ page name v b
page-as name v b e = ap (λ (ns : List ℕ). named name v ns 16 17 18) e

pub row_as : (name : List ℕ) (v : Verdict) (b : Ledger) {ns : List ℕ} {l h : ℕ} → ns ≡ numbers v b → l ≡ one (not (is_counted v)) → h ≡ head_at v b
    → named name v ns (4 + l) (6 + h) 10 ≡ row name v b
row_as name v b {ns} {l} {h} e f g =
    ap (λ (ms : List ℕ). named name v ms (4 + l) (6 + h) 10) e ∙ ap₂ (λ (m n : ℕ). named name v (numbers v b) (4 + m) (6 + n) 10) f g

pub top-as : (form : List ℕ) (b : Ledger) {v : Verdict} {ns : List ℕ} {f : ℕ} {p : Bool} → v ≡ no_verdict → ns ≡ numbers v b → f ≡ one p → p ≡ is_below (left b)
    → named form v ns (1 + f) 3 nothing ≡ top form b
top-as form b {v} {ns} {f} {p} e g h i =
    ap₂ (λ (ms : List ℕ) (k : ℕ). named form v ms (1 + k) 3 nothing) g (h ∙ ap one i)
    ∙ ap (λ (w : Verdict). named form w (numbers w b) (1 + one (is_below (left b))) 3 nothing) e
