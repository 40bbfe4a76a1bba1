-- A form is ten rows of two boxes: a test of all of them, row by row, and a table that is filled row by row. Assumes nothing.
use mathlib.Core.Path.{◌≡◌, refl, sym, ap, ◌∙◌}
use mathlib.Core.Bool.{Bool, true, false, ◌&&◌}
use mathlib.Core.List.{List, [], ◌∷◌, ◌++◌, map, append_assoc, append-nil}
use Prim.Native.Nat.{ℕ, suc, ◌+◌, ◌-◌, ◌≤◌, ◌<◌}
use native.Mathlib.Numerals.{add-one}
use native.Mathlib.Omega.{arith}
use lib.ListN.{length, get_or, take, drop, set, replicate, length-map, length-append, length-replicate, get_or-map}
use lib.Seq.{take-suc, length-take-le, get_or_at, set_at, get_or-set_same, set-set, take_all}
use Rattle.heads.specs.Form.{all, Page, black_in, tick_table}
use Rattle.heads.specs.declared.Box.{Box}
use Rattle.heads.proofs.Tests.{all_here}

-- a list of two
pub two : {A : Type 0} (l : List A) (d : A) → length l ≡ 2 → l ≡ get_or l 0 d ∷ get_or l 1 d ∷ []
two [] d h = absurd (omega arith)
two (a ∷ []) d h = absurd (omega arith)
two (a ∷ b ∷ []) d h = refl
two (a ∷ b ∷ c ∷ l) d h = absurd (omega arith)

-- a row of two
module _ {A : Type 0} (test : A → Bool) (form : List (List A)) (k : ℕ) (row : List A) (box : A)
    (h : k < length form) (w : length (get_or form k row) ≡ 2) where
  abbrev a : A
  a = get_or (get_or form k row) 0 box

  abbrev b : A
  b = get_or (get_or form k row) 1 box

  pub twos-here : all (all test) (drop k form) ≡ ((test a && (test b && true)) && all (all test) (drop (k + 1) form))
  unfolding all
  twos-here = all_here (all test) form k row h ∙ ap (λ t. t && all (all test) (drop (k + 1) form)) (ap (all test) (two (get_or form k row) box w))

  pub twos-first : test a ≡ false → false ≡ all (all test) (drop k form)
  twos-first e = sym (twos-here ∙ rw e)

  pub twos-second : test a ≡ true → test b ≡ false → false ≡ all (all test) (drop k form)
  twos-second e f = sym (twos-here ∙ rw (e, f))

  pub twos-next : test a ≡ true → test b ≡ true → all (all test) (drop (k + 1) form) ≡ all (all test) (drop k form)
  twos-next e f = sym (twos-here ∙ rw (e, f))

-- ---- A table of ten rows, filled row by row

abbrev pub no_box : Box
no_box = record { left = 0; right = 0; top = 0; bottom = 0 }

module _ {A : Type 0} (blank : A) where
  -- the rows that are filled, and those that are not
  abbrev pub filled : List A → ℕ → List A
  filled table k = take k table ++ replicate (10 - k) blank

  module _ (table : List A) (long : length table ≡ 10) where
    blank-here : (k : ℕ) → k < 10 → filled table k ≡ take k table ++ blank ∷ replicate (10 - (k + 1)) blank
    blank-here k h = ap (λ n. take k table ++ replicate n blank) (let n : 10 - k ≡ suc (10 - (k + 1)) = omega arith in n)

    filled-long : (t : List A) (k : ℕ) → k ≤ 10 → t ≡ filled table k → length t ≡ 10
    filled-long t k h f =
        omega (arith, ap length f, length-append (take k table) (replicate (10 - k) blank), length-take-le k table (omega arith), length-replicate (10 - k) blank)

    pub filled-blank : (d : A) (t : List A) (k : ℕ) → k < 10 → t ≡ filled table k → get_or t k d ≡ blank
    filled-blank d t k h f =
        ap (λ l. get_or l k d) (f ∙ blank-here k h) ∙ get_or_at (take k table) blank (replicate (10 - (k + 1)) blank) d k (length-take-le k table (omega arith))

    pub filled_next : (d : A) (t : List A) (k : ℕ) (v : A) → k < 10 → get_or table k d ≡ v → t ≡ filled table k → set t k v ≡ filled table (k + 1)
    filled_next d t k v h e f =
        ap (λ l. set l k v) (f ∙ blank-here k h)
        ∙ set_at (take k table) blank (replicate (10 - (k + 1)) blank) v k (length-take-le k table (omega arith))
        ∙ rw (add-one k, take-suc table k d (omega arith), e, append_assoc)

    pub filled-all : (t : List A) (k : ℕ) → 10 ≤ k → k ≤ 10 → t ≡ filled table k → t ≡ table
    filled-all t k h l f =
        let e : k ≡ 10 = omega arith in
        f ∙ rw e (ap (λ u. u ++ []) (take_all 10 table (omega arith)) ∙ append-nil table)

-- both cells of a row are stored
abbrev pub stored : List (List ℕ) → ℕ → ℕ → ℕ → List (List ℕ)
stored t k v w = set (set t k (set (get_or t k []) 0 v)) k (set (get_or (set t k (set (get_or t k []) 0 v)) k []) 1 w)

abbrev pub no_ticks : List ℕ
no_ticks = 0 ∷ 0 ∷ []

pub stored_next : (table : List (List ℕ)) → length table ≡ 10 → (t : List (List ℕ)) (k v w : ℕ) → k < 10 → get_or table k [] ≡ v ∷ w ∷ [] → t ≡ filled no_ticks table k
    → stored t k v w ≡ filled no_ticks table (k + 1)
stored_next table long t k v w h e f =
    rw (filled-blank no_ticks table long [] t k h f, get_or-set_same t k (v ∷ 0 ∷ []) [] (omega (arith, filled-long no_ticks table long t k (omega arith) f)))
    (set-set t k (v ∷ 0 ∷ []) (v ∷ w ∷ []))
    ∙ filled_next no_ticks table long [] t k (v ∷ w ∷ []) h e f

-- a row of the tick table
module _ (page : Page) (form : List (List Box)) where
  pub table-long : length form ≡ 10 → length (tick_table page form) ≡ 10
  unfolding tick_table
  table-long e = length-map form (map (black_in page)) ∙ e

  pub table-row : (k : ℕ) → length (get_or form k []) ≡ 2
      → get_or (tick_table page form) k [] ≡ black_in page (get_or (get_or form k []) 0 no_box) ∷ black_in page (get_or (get_or form k []) 1 no_box) ∷ []
  unfolding tick_table
  table-row k w = get_or-map (map (black_in page)) form k [] ∙ ap (map (black_in page)) (two (get_or form k []) no_box w)
