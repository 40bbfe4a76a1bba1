-- Laws of the lookup: a code's bits followed by anything are read as that code, and an entry that is valid is of a code whose bits stand there.
-- Assumes nothing.
use mathlib.Core.Path.{◌≡◌, refl, sym, ap, ◌∙◌, subst}
use mathlib.Core.Bool.{Bool, true, false}
use mathlib.Core.List.{List, [], ◌∷◌, ◌++◌, Memᴰ}
use mathlib.Core.Option.{Option, none, some}
use Prim.Native.Nat.{ℕ, zero, suc, ◌+◌, ◌-◌, ◌≤◌, ◌<◌}
use native.Mathlib.Omega.{arith}
use native.Mathlib.Nat.{add-zero}
use lib.Dec.{T}
use lib.ListN.{length, get_or, drop, length-drop}
use lib.Seq.{drop-drop}
use Rattle.rules.specs.Bits.{bits_for, window, peek}
use Rattle.rules.specs.Codes.{Colour, Code, code_bits, codes_of}
use Rattle.rules.specs.Lookup.{begins, code_in, valid, entry_for, lookup, entry_number, tabulate, lookup_table}
use Rattle.rules.proofs.Bits.{window-append, bits-peek, peek-lt}
use Rattle.rules.proofs.Codes.{found-is, finds, shape, length-code_bits}

-- ---- What begins with what

pub begins-append : (xs ys : List Bool) → T (begins xs (xs ++ ys))
unfolding begins
begins-append [] ys = tt
begins-append (true ∷ xs) ys = begins-append xs ys
begins-append (false ∷ xs) ys = begins-append xs ys

-- a word that begins a window, and whose bits are all there, stands at the front of the bits
pub begins-window : (xs : List Bool) (n : ℕ) (bs : List Bool) → T (begins xs (window n bs)) → length xs ≤ length bs → bs ≡ xs ++ drop (length xs) bs
unfolding begins window
begins-window [] n bs t h = refl
begins-window (x ∷ xs) zero bs t h = absurd t
begins-window (x ∷ xs) (suc n) [] t h = absurd (omega arith)
begins-window (true ∷ xs) (suc n) (true ∷ bs) t h = ap (λ (l : List Bool). true ∷ l) (begins-window xs n bs t (omega arith))
begins-window (true ∷ xs) (suc n) (false ∷ bs) t h = absurd t
begins-window (false ∷ xs) (suc n) (true ∷ bs) t h = absurd t
begins-window (false ∷ xs) (suc n) (false ∷ bs) t h = ap (λ (l : List Bool). false ∷ l) (begins-window xs n bs t (omega arith))

-- ---- Reading a code

module _ (colour : Colour) (c : Code) (member : Memᴰ c (codes_of colour)) where
  -- a code's bits, whatever follows
  pub lookup-code : (rest : List Bool) → lookup colour (window 13 (code_bits c ++ rest)) ≡ valid c.run c.size
  unfolding lookup
  lookup-code rest = ap (entry_for (codes_of colour) (window 13 (code_bits c ++ rest))) (finds colour c _ member begun)
    where
      long : 13 ≡ length (code_bits c) + (13 - c.size)
      long = omega (arith, (shape colour c member).few_bits, length-code_bits c)

      begun : T (begins (code_bits c) (window 13 (code_bits c ++ rest)))
      begun =
          subst (λ (bs : List Bool). T (begins (code_bits c) bs))
          (sym (ap (λ (n : ℕ). window n (code_bits c ++ rest)) long ∙ window-append (13 - c.size) (code_bits c) rest))
          (begins-append (code_bits c) (window (13 - c.size) rest))

-- an entry with a run is that of a code of the colour whose bits begin the window
pub record Entered (colour : Colour) (bs : List Bool) (run size : ℕ) : Type 0 where
  pub code : Code
  pub member : Memᴰ code (codes_of colour)
  pub begun : T (begins (code_bits code) bs)
  pub run_is : code.run ≡ run
  pub size_is : code.size ≡ size

pub lookup-valid : (colour : Colour) (bs : List Bool) (run size : ℕ) → lookup colour bs ≡ valid run size → Entered colour bs run size
unfolding lookup
lookup-valid colour bs run size e = cases (code_in (codes_of colour) bs) refl e
  where
    cases : (o : Option Code) → code_in (codes_of colour) bs ≡ o → entry_for (codes_of colour) bs o ≡ valid run size → Entered colour bs run size
    cases none f q = absurd (let z : ◌≡◌ {A = ℕ} 0 1 = cc in omega arith)
    cases (some c) f q =
        let found = found-is (codes_of colour) bs c f in
        record { code = c; member = found.member; begun = found.begun; run_is = cc; size_is = cc }

-- where all its bits are there, they stand there
pub entered-bits : {colour : Colour} {run size : ℕ} (bs : List Bool) (at : ℕ) (e : Entered colour (window 13 (drop at bs)) run size) → at + size ≤ length bs
    → drop at bs ≡ code_bits e.code ++ drop (at + size) bs
entered-bits {size = size} bs at e h =
    begins-window (code_bits e.code) 13 (drop at bs) e.begun (omega (arith, length-drop at bs, length-code_bits e.code, e.size_is))
    ∙ ap (λ (l : List Bool). code_bits e.code ++ l) (drop-drop (length (code_bits e.code)) at bs ∙ ap (λ (n : ℕ). drop n bs) (let q : at + length (code_bits e.code) ≡ at + size = omega (arith, length-code_bits e.code, e.size_is) in q))

-- ---- The tables

pub tabulate-at : (f : ℕ → ℕ) (n i k : ℕ) → k < n → get_or (tabulate f n i) k 0 ≡ f (i + k)
unfolding tabulate
tabulate-at f zero i k h = absurd (omega arith)
tabulate-at f (suc n) i zero h = ap f (sym (add-zero i))
tabulate-at f (suc n) i (suc k) h = tabulate-at f n (suc i) k (omega arith) ∙ ap f (let e : suc i + k ≡ i + suc k = omega arith in e)

pub length-tabulate : (f : ℕ → ℕ) (n i : ℕ) → length (tabulate f n i) ≡ n
unfolding tabulate
length-tabulate f zero i = refl
length-tabulate f (suc n) i = ap suc (length-tabulate f n (suc i))

-- a colour's table at the number of a window
pub table_at : (colour : Colour) (bs : List Bool) → get_or (lookup_table colour) (peek 13 bs) 0 ≡ entry_number (lookup colour (window 13 bs))
unfolding lookup_table
table_at colour bs =
    tabulate-at (λ (i : ℕ). entry_number (lookup colour (bits_for 13 i))) 8192 0 (peek 13 bs) (peek-lt 13 bs)
    ∙ ap (λ (l : List Bool). entry_number (lookup colour l)) (ap (bits_for 13) (let e : 0 + peek 13 bs ≡ peek 13 bs = omega arith in e) ∙ bits-peek 13 bs)
