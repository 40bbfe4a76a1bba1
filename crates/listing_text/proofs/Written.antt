-- Laws of text in a lent array: one piece behind the other makes the whole. Assumes nothing.
use mathlib.Core.Path.{◌≡◌, refl, sym, ap, ap₂, ◌∙◌, subst}
use mathlib.Core.List.{List, [], ◌∷◌, ◌++◌, append_assoc}
use Prim.Native.Nat.{ℕ, suc, ◌+◌}
use native.Mathlib.Omega.{arith}
use lib.ListN.{length, take, drop, set, length-append, take-append-drop, length-drop}
use lib.Seq.{take-append-add, drop-append-add, drop-drop, set_split, length-take-le}
use Rattle.rules.specs.Pages.{overlaid}
use Rattle.rules.proofs.Store.{length-overlaid, overlaid-behind}
use Rattle.listing_text.specs.Writing.{written_to, Room, Puts}

-- one byte
pub byte_put : (array : List ℕ) (at b : ℕ) → Room array at (b ∷ []) → Puts array at (b ∷ []) (at + 1) (set array at b)
unfolding written_to overlaid
byte_put array at b h = record {
  place = refl;
  array =
      set_split array at b (omega arith)
      ∙ ap (λ (l : List ℕ). take at array ++ b ∷ l) (let e : suc at ≡ at + 1 = omega arith in ap (λ (n : ℕ). drop n array) e ∙ sym (drop-drop 1 at array));
}

pub length-written : (at : ℕ) (text array : List ℕ) → Room array at text → length (written_to at text array) ≡ length array
unfolding written_to
length-written at text array h =
    length-append (take at array) (overlaid text (drop at array))
    ∙ (let e = length-drop at array in omega (arith, length-take-le at array (omega arith), length-overlaid text (drop at array) (omega arith)))

-- past a front of known length
past : (u rest : List ℕ) (at n : ℕ) → length u ≡ at → (take (at + n) (u ++ rest) ≡ u ++ take n rest) × (drop (at + n) (u ++ rest) ≡ drop n rest)
past u rest at n e =
    (ap (λ (k : ℕ). take (k + n) (u ++ rest)) (sym e) ∙ take-append-add u rest n, ap (λ (k : ℕ). drop (k + n) (u ++ rest)) (sym e) ∙ drop-append-add u rest n)

-- a piece, and then another behind it
pub written_behind : (at : ℕ) (xs ys array : List ℕ) → Room array at xs → written_to (at + length xs) ys (written_to at xs array) ≡ written_to at (xs ++ ys) array
unfolding written_to
written_behind at xs ys array h =
    let u = take at array in
    let piece = overlaid xs (drop at array) in
    let p = past u piece at (length xs) (length-take-le at array (omega arith)) in
    ap₂ (λ (a b : List ℕ). a ++ overlaid ys b) p.0 p.1
    ∙ append_assoc u (take (length xs) piece) (overlaid ys (drop (length xs) piece))
    ∙ ap (λ (l : List ℕ). u ++ l) (overlaid-behind xs ys (drop at array) (length xs) refl)

pub written-nothing : (at : ℕ) (array : List ℕ) → written_to at [] array ≡ array
unfolding written_to overlaid
written-nothing at array = take-append-drop at array

pub room_as : {array : List ℕ} {at : ℕ} {xs ys : List ℕ} → xs ≡ ys → Room array at xs → Room array at ys
room_as {array} {at} e h = subst (Room array at) e h

pub puts-as : {before : List ℕ} {at : ℕ} {xs ys : List ℕ} {next : ℕ} {after : List ℕ} → xs ≡ ys → Puts before at xs next after → Puts before at ys next after
puts-as {before} {at} {next = next} {after = after} e w = subst (λ (l : List ℕ). Puts before at l next after) e w

-- ---- Text that is being written

-- what is left to write, from a place on, comes to the whole
pub record Owes (at : ℕ) (whole start : List ℕ) (p : ℕ) (left out : List ℕ) : Type 0 where
  pub fits : Room start at whole
  pub count : p + length left ≡ at + length whole
  pub size : length out ≡ length start
  pub same : written_to p left out ≡ written_to at whole start

pub owes-all : {at : ℕ} {whole start : List ℕ} → Room start at whole → Owes at whole start at whole start
owes-all h = record { fits = h; count = refl; size = refl; same = refl }

module _ {at : ℕ} {whole start : List ℕ} {p : ℕ} {left out : List ℕ} (o : Owes at whole start p left out) where
  -- there is room for what is left
  pub owes-last-room : Room out p left
  owes-last-room = record { fits = omega (arith, o.fits.fits, o.count, o.size) }

  pub owes-last : {q : ℕ} {out' : List ℕ} → Puts out p left q out' → Puts start at whole q out'
  owes-last w = record { place = w.place ∙ o.count; array = w.array ∙ o.same }

  -- and for a piece of it, behind which the rest is left
  module _ (xs ys : List ℕ) (e : left ≡ xs ++ ys) where
    pub owes-room : Room out p xs
    owes-room = record { fits = omega (arith, owes-last-room.fits, ap length e, length-append xs ys) }

    pub owes-some : {q : ℕ} {out' : List ℕ} → Puts out p xs q out' → Owes at whole start q ys out'
    owes-some {q} {out'} w = record {
      fits = o.fits;
      count = omega (arith, w.place, o.count, ap length e, length-append xs ys);
      size = ap length w.array ∙ length-written p xs out owes-room ∙ o.size;
      same =
          ap₂ (λ (n : ℕ) (l : List ℕ). written_to n ys l) w.place w.array
          ∙ written_behind p xs ys out owes-room
          ∙ ap (λ (l : List ℕ). written_to p l out) (sym e)
          ∙ o.same;
    }

-- nothing is left
pub owes-none : {at : ℕ} {whole start : List ℕ} {p : ℕ} {left out : List ℕ} → Owes at whole start p left out → left ≡ [] → Puts start at whole p out
owes-none {p = p} {out = out} o e = record {
  place = omega (arith, o.count, ap length e);
  array = sym (written-nothing p out) ∙ ap (λ (l : List ℕ). written_to p l out) (sym e) ∙ o.same;
}
