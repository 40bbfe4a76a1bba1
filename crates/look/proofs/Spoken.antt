-- The phrases: they are the lines of their text, and each fits. Assumes nothing.
use mathlib.Core.Path.{◌≡◌, refl, sym, ap, ap₂, ◌∙◌}
use mathlib.Core.Bool.{Bool, true, false, ◌&&◌}
use mathlib.Core.List.{List, [], ◌∷◌, ◌++◌, map}
use Prim.Native.Nat.{ℕ, zero, suc, ◌+◌, ◌*◌, ◌≤◌}
use native.Mathlib.Omega.{arith}
use lib.Dec.{leb}
use lib.ListN.{length, get_or}
use borrow.Author.Tests.{leb-true}
use Rattle.listing_text.specs.Text.{ascii, newline}
use Rattle.listing_text.specs.Writing.{Room, Puts}
use Rattle.listing_text.specs.Listed.{Prints}
use Rattle.listing_text.specs.Lines.{pieces, lines_of}
use Rattle.listing_text.proofs.Written.{Owes, owes-all, owes-room, owes-some, owes-last-room, owes-last}
use Rattle.ledger.specs.Said.{fill}
use Rattle.ledger.proofs.Whole.{weight, Small, fill-short, prints}
use Rattle.look.specs.Phrases.{words, spelt, phrase, lined}
use Rattle.look.specs.Pieces.{said, room_for, Tells}

-- ---- The phrases are the lines of their text

lines_are : lines_of (lined words) ≡ map spelt words ++ [] ∷ []
unfolding pieces lined words spelt ascii
lines_are = refl

pub phrase-line : (k : ℕ) → get_or (lines_of (lined words)) k [] ≡ phrase k
phrase-line k = ap (λ (ls : List (List ℕ)). get_or ls k []) lines_are ∙ one_more (map spelt words) k
  where
    one_more : (ls : List (List ℕ)) (k : ℕ) → get_or (ls ++ [] ∷ []) k [] ≡ get_or ls k []
    one_more [] zero = refl
    one_more [] (suc k) = refl
    one_more (l ∷ ls) zero = refl
    one_more (l ∷ ls) (suc k) = one_more ls k

-- a line of a text that is the phrases' is a phrase
pub as_line : (t ns : List ℕ) (k : ℕ) → t ≡ lined words → fill ns (get_or (lines_of t) k []) ≡ fill ns (phrase k)
as_line t ns k e = ap (λ (x : List ℕ). fill ns (get_or (lines_of x) k [])) e ∙ ap (fill ns) (phrase-line k)

-- ---- Each fits

unfoldable light : List (List ℕ) → Bool
light [] = true
light (l ∷ ls) = leb (weight l) 7000 && light ls

light-at : (ls : List (List ℕ)) → light ls ≡ true → (k : ℕ) → weight (get_or ls k []) ≤ 7000
unfolding light weight
light-at [] e k = omega arith
light-at (l ∷ ls) e k = by (leb (weight l) 7000) refl e (light-at ls) k
  where
    by : (t : Bool) → leb (weight l) 7000 ≡ t → (t && light ls) ≡ true → (light ls ≡ true → (k : ℕ) → weight (get_or ls k []) ≤ 7000) → (k : ℕ) → weight (get_or (l ∷ ls) k []) ≤ 7000
    by true p q r zero = leb-true (weight l) 7000 p
    by true p q r (suc k) = r q k
    by false p q r k = absurd (let z : ◌≡◌ {A = ℕ} 0 1 = cc in omega arith)

all-light : light (map spelt words) ≡ true
unfolding light weight words spelt ascii
all-light = refl

pub phrase-fits : (ns : List ℕ) → Small ns → (k : ℕ) → length (fill ns (phrase k)) ≤ 7000
phrase-fits ns s k = omega (arith, fill-short ns s (phrase k), light-at (map spelt words) all-light k)

pub said-room : (out ns : List ℕ) (k : ℕ) → Small ns → 24576 ≤ length out → Room out 0 (said ns k)
said-room out ns k s h = record { fits = omega (arith, phrase-fits ns s k) }

-- ---- A phrase behind its line feed

module _ (out ns : List ℕ) (k : ℕ) (room : Room out 0 (said ns k)) where
  starts : Owes 0 (said ns k) out 0 ((newline ∷ []) ++ fill ns (phrase k)) out
  starts = owes-all room

  pub feed-room : Room out 0 (newline ∷ [])
  feed-room = owes-room starts (newline ∷ []) (fill ns (phrase k)) refl

  module _ {p : ℕ} {out₁ : List ℕ} (fed : Puts out 0 (newline ∷ []) p out₁) where
    second : Owes 0 (said ns k) out p (fill ns (phrase k)) out₁
    second = owes-some starts (newline ∷ []) (fill ns (phrase k)) refl fed

    pub words-room : Room out₁ p (fill ns (phrase k))
    words-room = owes-last-room second

    pub words-end : {q : ℕ} {out₂ : List ℕ} → Puts out₁ p (fill ns (phrase k)) q out₂ → Puts out 0 (said ns k) q out₂
    words-end w = owes-last second w

-- ---- Told

pub prints-all : {out text after : List ℕ} {r : ℕ} → Puts out 0 text r after → Prints out text r after
prints-all p = prints p

pub tells-no : {n : ℕ} {text out : List ℕ} → room_for n (length out) ≡ false → Tells true n text out 0 out
tells-no e = record { written = λ h. absurd (let z : ◌≡◌ {A = ℕ} 0 1 = cc in omega arith); kept = λ h. (refl, refl) }

pub tells-yes : {n : ℕ} {text out : List ℕ} {r : ℕ} {after : List ℕ} → room_for n (length out) ≡ true → Prints out text r after → Tells true n text out r after
tells-yes e p = record { written = λ h. p; kept = λ h. absurd (let z : ◌≡◌ {A = ℕ} 0 1 = cc in omega arith) }
