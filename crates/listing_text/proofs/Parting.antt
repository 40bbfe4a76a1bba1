-- Laws of numbers that are parted by tabs: the text tells the numbers, and reading it goes number by number. Assumes nothing.
use mathlib.Core.Path.{◌≡◌, refl, sym, ap, ap₂, ◌∙◌}
use mathlib.Core.List.{List, [], ◌∷◌, ◌++◌, append_assoc}
use Prim.Native.Nat.{ℕ, suc, ◌+◌, ◌-◌, ◌≤◌, ◌<◌}
use native.Mathlib.Omega.{arith}
use native.Mathlib.Nat.{add-zero}
use lib.ListN.{length, get_or, drop, set, replicate, length-append, length-replicate}
use lib.Seq.{get_or-drop, set_at}
use Rattle.listing_text.specs.Text.{tab, newline, decimal}
use Rattle.listing_text.specs.Line.{mark, parted, filled, Held}
use Rattle.listing_text.specs.Reading.{Stops, NumberAt}
use Rattle.std.specs.Prelude.{Some, None}
use Rattle.listing_text.specs.declared.settings_line.Number.{Number}
use Rattle.listing_text.proofs.Digits.{same_number}
use Rattle.listing_text.proofs.Spelling.{inside, split}

mark-stops : (ns rest : List ℕ) → Stops (mark ns ∷ rest)
mark-stops [] rest = omega arith
mark-stops (n ∷ ns) rest = omega arith

-- a number, the byte behind it, and the rest
pub parted-cons : (n : ℕ) (ns rest : List ℕ) → parted (n ∷ ns) ++ rest ≡ decimal n ++ mark ns ∷ (parted ns ++ rest)
unfolding parted
parted-cons n ns rest = append_assoc (decimal n) (mark ns ∷ parted ns) rest

same_first : (m n : ℕ) (ms ns xs ys : List ℕ) → parted (m ∷ ms) ++ xs ≡ parted (n ∷ ns) ++ ys → (m ≡ n) × (mark ms ∷ (parted ms ++ xs) ≡ mark ns ∷ (parted ns ++ ys))
same_first m n ms ns xs ys e =
    same_number m n (mark ms ∷ (parted ms ++ xs)) (mark ns ∷ (parted ns ++ ys)) (mark-stops ms (parted ms ++ xs)) (mark-stops ns (parted ns ++ ys)) (sym (parted-cons m ms xs) ∙ e ∙ parted-cons n ns ys)

-- Two lines in the same bytes have the same numbers: a tab says that another one follows, and a line feed that none does.
pub parted-once : (m n : ℕ) (ms ns xs ys : List ℕ) → parted (m ∷ ms) ++ xs ≡ parted (n ∷ ns) ++ ys → (m ∷ ms ≡ n ∷ ns) × (xs ≡ ys)
unfolding parted
parted-once m n [] [] xs ys e = let s = same_first m n [] [] xs ys e in (ap (λ (a : ℕ). a ∷ []) s.0, (let q = s.1 in let t : xs ≡ ys = cc in t))
parted-once m n [] (j ∷ ns) xs ys e = let q = (same_first m n [] (j ∷ ns) xs ys e).1 in absurd (let t : newline ≡ tab = cc in omega arith)
parted-once m n (i ∷ ms) [] xs ys e = let q = (same_first m n (i ∷ ms) [] xs ys e).1 in absurd (let t : tab ≡ newline = cc in omega arith)
parted-once m n (i ∷ ms) (j ∷ ns) xs ys e =
    let s = same_first m n (i ∷ ms) (j ∷ ns) xs ys e in
    let q = s.1 in
    let r = parted-once i j ms ns xs ys (let t : parted (i ∷ ms) ++ xs ≡ parted (j ∷ ns) ++ ys = cc in t) in
    (ap₂ (λ (a : ℕ) (l : List ℕ). a ∷ l) s.0 r.0, r.1)

-- ---- Number by number

-- numbers that can all be held
unfoldable pub AllHeld : List ℕ → Type 0
AllHeld ns = (i : ℕ) → Held (get_or ns i 0)

-- behind k numbers, the others of a line of seven, eight or nine do not stand in the bytes from a place on
abbrev pub Nowhere : List ℕ → ℕ → ℕ → Type 0
Nowhere bytes at k = (n : ℕ) (ns rest : List ℕ) → 7 ≤ k + suc (length ns) → k + suc (length ns) ≤ 9 → AllHeld (n ∷ ns) → drop at bytes ≡ parted (n ∷ ns) ++ rest → ⊥

-- k numbers are read, and another one follows: whatever is found from here on, or not found, holds of the whole
pub record Reading (bytes : List ℕ) (at k : ℕ) (read : List ℕ) : Type 0 where
  pub numbers : List ℕ
  pub count : length numbers ≡ k
  pub array : read ≡ filled numbers
  pub inside : at ≤ length bytes
  pub right : (n : ℕ) (ns rest : List ℕ) → drop at bytes ≡ parted (n ∷ ns) ++ rest → bytes ≡ parted (numbers ++ n ∷ ns) ++ rest
  pub wrong : Nowhere bytes at k → Nowhere bytes 0 0

pub none_read : (bytes : List ℕ) → Reading bytes 0 0 (replicate 9 0)
none_read bytes = record { numbers = []; count = refl; array = refl; inside = omega arith; right = λ n ns rest e. e; wrong = λ f. f }

-- a whole line is read
pub record Whole (bytes : List ℕ) (at : ℕ) (read : List ℕ) : Type 0 where
  pub numbers : List ℕ
  pub seven : 7 ≤ length numbers
  pub nine : length numbers ≤ 9
  pub array : read ≡ filled numbers
  pub inside : at ≤ length bytes
  pub text : bytes ≡ parted numbers ++ drop at bytes

pub whole_long : {bytes : List ℕ} {at : ℕ} {read : List ℕ} → Whole bytes at read → length read ≡ 9
whole_long w =
    let ns = w.numbers in
    omega (arith, ap length w.array, w.nine, length-append ns (replicate (9 - length ns) 0), length-replicate {A = ℕ} (9 - length ns) 0)

-- the next number goes into the array behind those that are read
fill-next : (ns : List ℕ) (k n : ℕ) → length ns ≡ k → k < 9 → set (filled ns) k n ≡ filled (ns ++ n ∷ [])
fill-next ns k n e h =
    let j : 9 - length ns ≡ suc (9 - length (ns ++ n ∷ [])) = omega (arith, length-append ns (n ∷ [])) in
    ap (λ (i : ℕ). set (ns ++ replicate i 0) k n) j ∙ set_at ns 0 (replicate (9 - length (ns ++ n ∷ [])) 0) n k e ∙ sym (append_assoc ns (n ∷ []) (replicate (9 - length (ns ++ n ∷ [])) 0))

module _ (bytes : List ℕ) (at k : ℕ) (read : List ℕ) (r : Reading bytes at k read) where
  -- no line has ten
  pub tenth : 9 ≤ k → Nowhere bytes 0 0
  tenth h = r.wrong (λ n ns rest few many held e. omega arith)

  pub number-missing : NumberAt bytes at None → Nowhere bytes 0 0
  unfolding AllHeld
  number-missing f =
      r.wrong (λ n ns rest few many held e. f n (mark ns ∷ (parted ns ++ rest)) (held 0) (mark-stops ns (parted ns ++ rest)) (e ∙ parted-cons n ns rest))

  module _ (number : Number) (s : NumberAt bytes at (Some number)) where
    abbrev n : ℕ
    n = number.value

    abbrev next : ℕ
    next = number.next

    -- what begins the bytes is the number that was read, and the byte behind it
    behind-first : (m : ℕ) (ns rest : List ℕ) → drop at bytes ≡ parted (m ∷ ns) ++ rest → drop next bytes ≡ mark ns ∷ (parted ns ++ rest)
    behind-first m ns rest e =
        (same_number n m (drop next bytes) (mark ns ∷ (parted ns ++ rest)) (rw (get_or-drop, add-zero) s.1) (mark-stops ns (parted ns ++ rest)) (sym s.0.text ∙ e ∙ parted-cons m ns rest)).1

    byte-behind : (m : ℕ) (ns rest : List ℕ) → drop at bytes ≡ parted (m ∷ ns) ++ rest → get_or bytes next 0 ≡ mark ns
    byte-behind m ns rest e = sym (get_or-drop next bytes 0 0 ∙ ap (λ (i : ℕ). get_or bytes i 0) (add-zero next)) ∙ ap (λ (l : List ℕ). get_or l 0 0) (behind-first m ns rest e)

    pub mark-missing : (get_or bytes next 0 ≡ newline → ⊥) → (get_or bytes next 0 ≡ tab → ⊥) → Nowhere bytes 0 0
    mark-missing f g = r.wrong (λ m ns rest few many held e. cases ns (byte-behind m ns rest e))
      where
        cases : (ns : List ℕ) → get_or bytes next 0 ≡ mark ns → ⊥
        cases [] q = f q
        cases (m ∷ ns) q = g q

    -- the array with this number
    array : k < 9 → set read k n ≡ filled (r.numbers ++ n ∷ [])
    array h = ap (λ (l : List ℕ). set l k n) r.array ∙ fill-next r.numbers k n r.count h

    count : length (r.numbers ++ n ∷ []) ≡ k + 1
    count = omega (arith, length-append r.numbers (n ∷ []), r.count)

    module _ (b : ℕ) (z : b ≡ 0 → ⊥) (m : get_or bytes next 0 ≡ b) where
      mark-inside : next < length bytes
      mark-inside = inside bytes next (λ e. z (sym m ∙ e))

      behind : drop next bytes ≡ b ∷ drop (next + 1) bytes
      behind = split bytes next mark-inside ∙ ap (λ (x : ℕ). x ∷ drop (next + 1) bytes) m

      text : drop at bytes ≡ decimal n ++ b ∷ drop (next + 1) bytes
      text = s.0.text ∙ ap (λ (l : List ℕ). decimal n ++ l) behind

    -- a line feed ends the line, which is too short,
    pub line-short : get_or bytes next 0 ≡ newline → k + 1 < 7 → Nowhere bytes 0 0
    line-short m h = r.wrong (λ j ns rest few many held e. cases ns few (byte-behind j ns rest e))
      where
        cases : (ns : List ℕ) → 7 ≤ k + suc (length ns) → get_or bytes next 0 ≡ mark ns → ⊥
        cases [] few q = omega arith
        cases (j ∷ ns) few q = omega (arith, sym m ∙ q)

    -- or whole;
    pub line-whole : get_or bytes next 0 ≡ newline → 7 ≤ k + 1 → k < 9 → Whole bytes (next + 1) (set read k n)
    unfolding parted
    line-whole m h l = record {
      numbers = r.numbers ++ n ∷ [];
      seven = omega (arith, count);
      nine = omega (arith, count);
      array = array l;
      inside = omega (arith, mark-inside newline (λ z. omega arith) m);
      text = r.right n [] (drop (next + 1) bytes) (text newline (λ z. omega arith) m ∙ sym (parted-cons n [] (drop (next + 1) bytes)));
    }

    -- and behind a tab the next number comes.
    pub one_more : get_or bytes next 0 ≡ tab → k < 9 → Reading bytes (next + 1) (k + 1) (set read k n)
    unfolding AllHeld
    one_more m h = record {
      numbers = r.numbers ++ n ∷ [];
      count = count;
      array = array h;
      inside = omega (arith, mark-inside tab (λ z. omega arith) m);
      right = λ j ns rest e. r.right n (j ∷ ns) rest (onward j ns rest e) ∙ ap (λ (l : List ℕ). parted l ++ rest) (sym (append_assoc r.numbers (n ∷ []) (j ∷ ns)));
      wrong = λ f. r.wrong (others f);
    }
      where
        onward : (j : ℕ) (ns rest : List ℕ) → drop (next + 1) bytes ≡ parted (j ∷ ns) ++ rest → drop at bytes ≡ parted (n ∷ j ∷ ns) ++ rest
        onward j ns rest e = text tab (λ z. omega arith) m ∙ ap (λ (l : List ℕ). decimal n ++ tab ∷ l) e ∙ sym (parted-cons n (j ∷ ns) rest)

        others : Nowhere bytes (next + 1) (k + 1) → Nowhere bytes at k
        others f j [] rest few many held e = omega (arith, sym m ∙ byte-behind j [] rest e)
        others f j (i ∷ ns) rest few many held e =
            let q : tab ∷ drop (next + 1) bytes ≡ tab ∷ (parted (i ∷ ns) ++ rest) = sym (behind tab (λ z. omega arith) m) ∙ behind-first j (i ∷ ns) rest e in
            f i ns rest (omega arith) (omega arith) (λ x. held (suc x)) (let t : drop (next + 1) bytes ≡ parted (i ∷ ns) ++ rest = cc in t)
