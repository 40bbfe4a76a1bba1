-- Laws of the lines of a listing, piece by piece. Assumes nothing.
use mathlib.Core.Path.{◌≡◌, refl, ap}
use mathlib.Core.List.{List, [], ◌∷◌, ◌++◌, append_assoc}
use Prim.Native.Nat.{ℕ, ◌+◌, ◌<◌}
use Prim.Native.String.{String}
use lib.ListN.{length, get_or, drop}
use Rattle.listing_text.specs.Text.{ascii, tab, newline, decimal}
use Rattle.listing_text.specs.Sheet.{tabbed, text_line}
use Rattle.listing_text.specs.Writing.{Room, Puts}
use Rattle.listing_text.proofs.Spelling.{split}
use Rattle.listing_text.proofs.Written.{Owes, owes-all, owes-room, owes-some}

-- the number at a place, and those behind it
pub tabbed-at : (ns : List ℕ) (i : ℕ) → i < length ns → tabbed (drop i ns) ≡ (tab ∷ decimal (get_or ns i 0)) ++ tabbed (drop (i + 1) ns)
unfolding tabbed
tabbed-at ns i h = ap tabbed (split ns i h)

tabbed-cons : (n : ℕ) (ns rest : List ℕ) → tabbed (n ∷ ns) ++ rest ≡ (tab ∷ decimal n) ++ (tabbed ns ++ rest)
unfolding tabbed
tabbed-cons n ns rest = append_assoc (tab ∷ decimal n) (tabbed ns) rest

-- a word, and then its numbers
module _ (word : String) (ns : List ℕ) {at : ℕ} {start : List ℕ} (h : Room start at (text_line word ns)) where
  pub word_room : Room start at (ascii word)
  unfolding text_line
  word_room = owes-room (owes-all h) (ascii word) (tabbed ns ++ newline ∷ []) refl

  pub word-put : {p : ℕ} {out : List ℕ} → Puts start at (ascii word) p out → Owes at (text_line word ns) start p (tabbed ns ++ newline ∷ []) out
  unfolding text_line
  word-put w = owes-some (owes-all h) (ascii word) (tabbed ns ++ newline ∷ []) refl w

-- a number, and then the others
module _ {at : ℕ} {whole start : List ℕ} {p : ℕ} {out : List ℕ} (n : ℕ) (ns rest : List ℕ) (o : Owes at whole start p (tabbed (n ∷ ns) ++ rest) out) where
  pub field_room : Room out p (tab ∷ decimal n)
  field_room = owes-room o (tab ∷ decimal n) (tabbed ns ++ rest) (tabbed-cons n ns rest)

  pub field_put : {q : ℕ} {out' : List ℕ} → Puts out p (tab ∷ decimal n) q out' → Owes at whole start q (tabbed ns ++ rest) out'
  field_put w = owes-some o (tab ∷ decimal n) (tabbed ns ++ rest) (tabbed-cons n ns rest) w

-- a line as far as its word and one, two or three numbers
module _ (word : String) {at : ℕ} {start : List ℕ} where
  pub after_one : (a : ℕ) (ns : List ℕ) → Room start at (text_line word (a ∷ ns))
      → {p : ℕ} {out : List ℕ} → Puts start at (ascii word) p out
      → {q : ℕ} {out₁ : List ℕ} → Puts out p (tab ∷ decimal a) q out₁
      → Owes at (text_line word (a ∷ ns)) start q (tabbed ns ++ newline ∷ []) out₁
  after_one a ns h w v = field_put a ns (newline ∷ []) (word-put word (a ∷ ns) h w) v

  pub after_two : (a b : ℕ) (ns : List ℕ) → Room start at (text_line word (a ∷ b ∷ ns))
      → {p : ℕ} {out : List ℕ} → Puts start at (ascii word) p out
      → {q : ℕ} {out₁ : List ℕ} → Puts out p (tab ∷ decimal a) q out₁
      → {r : ℕ} {out₂ : List ℕ} → Puts out₁ q (tab ∷ decimal b) r out₂
      → Owes at (text_line word (a ∷ b ∷ ns)) start r (tabbed ns ++ newline ∷ []) out₂
  after_two a b ns h w v u = field_put b ns (newline ∷ []) (after_one a (b ∷ ns) h w v) u

  pub after-three : (a b c : ℕ) (ns : List ℕ) → Room start at (text_line word (a ∷ b ∷ c ∷ ns))
      → {p : ℕ} {out : List ℕ} → Puts start at (ascii word) p out
      → {q : ℕ} {out₁ : List ℕ} → Puts out p (tab ∷ decimal a) q out₁
      → {r : ℕ} {out₂ : List ℕ} → Puts out₁ q (tab ∷ decimal b) r out₂
      → {s : ℕ} {out₃ : List ℕ} → Puts out₂ r (tab ∷ decimal c) s out₃
      → Owes at (text_line word (a ∷ b ∷ c ∷ ns)) start s (tabbed ns ++ newline ∷ []) out₃
  after-three a b c ns h w v u t = field_put c ns (newline ∷ []) (after_two a b (c ∷ ns) h w v u) t
