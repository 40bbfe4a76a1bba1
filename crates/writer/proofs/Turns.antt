-- One code of a 2D line, by its three cases: what it takes the place of, how far it goes, and how many bits it has. Assumes nothing.
use mathlib.Core.Path.{◌≡◌, refl}
use mathlib.Core.Bool.{Bool, true, false}
use mathlib.Core.List.{List, [], ◌∷◌, ◌++◌, append_assoc}
use Prim.Native.Nat.{ℕ, zero, suc, ◌+◌, ◌-◌, ◌*◌, ◌/◌, ◌≤◌, ◌<◌}
use native.Mathlib.Omega.{arith}
use lib.Dec.{eqb, leb, ltb}
use lib.ListN.{length, length-append}
use borrow.Author.Tests.{lt-ltb, le-ltb, ne_eqb, eq-eqb, ltb-true, ltb-false, leb-true, leb-false}
use Rattle.rules.specs.Codes.{Colour, white, opposite}
use Rattle.rules.specs.Modes.{Mode, pass, horizontal, VR, VL, mode_bits}
use Rattle.rules.specs.Lines.{right_of_a0, head_or, tail, b1, b2}
use Rattle.rules.specs.Write.{run_bits, vertical_to, near, bits_2d, line_bits}
use Rattle.rules.specs.Rising.{Rising}
use Rattle.rules.proofs.Ascending.{rises-lower, head-low, head-fits, tail-rises}
use Rattle.rules.proofs.Ahead.{above, b2-behind, left_over, no_longer, shorter}
use Rattle.context.proofs.Search.{right-grows}
use Rattle.writer.specs.Coding.{across, line_of}
use Rattle.writer.proofs.RunCodes.{run-few}
use Rattle.writer.proofs.OnReference.{right, right-few, right-less, pass-behind}

-- ---- A mode's bits

-- no mode has more
mode-few : (m : Mode) → length (mode_bits m) ≤ 7
unfolding mode_bits
mode-few pass = omega arith
mode-few horizontal = omega arith
mode-few (VR zero) = omega arith
mode-few (VR (suc zero)) = omega arith
mode-few (VR (suc (suc zero))) = omega arith
mode-few (VR (suc (suc (suc zero)))) = omega arith
mode-few (VR (suc (suc (suc (suc k))))) = omega arith
mode-few (VL zero) = omega arith
mode-few (VL (suc zero)) = omega arith
mode-few (VL (suc (suc zero))) = omega arith
mode-few (VL (suc (suc (suc zero)))) = omega arith
mode-few (VL (suc (suc (suc (suc k))))) = omega arith

pass-bits : length (mode_bits pass) ≡ 4
unfolding mode_bits
pass-bits = refl

-- ---- A code

-- a change before the width is one of those that are left
one_less : {width : ℕ} (rest : List ℕ) → head_or width rest < width → length rest ≡ suc (length (tail rest))
one_less [] h = absurd (omega arith)
one_less (x ∷ xs) h = refl

module _ (width : ℕ) (reference : List ℕ) where
  -- The bits of a line at most, from a position on: two to each change of the reference that lies ahead, since a pass of 4 has two of them behind it;
  -- 15 to each change that is left, since a horizontal code of 3 and two codes of 13 has two; 13 to each 64 pixels, for make-up codes; and the last code's.
  abbrev pub most : ℕ → List ℕ → ℕ
  most p rest = 2 * right (right_of_a0 p) reference + 15 * length rest + 13 * ((width - p) / 64) + 30

  -- at position p in colour c, with the changes `rest` left, the bits xs come next, and then those at p' in c' with rest'
  pub record Turn (c : Colour) (p : ℕ) (rest : List ℕ) (xs : List Bool) (c' : Colour) (p' : ℕ) (rest' : List ℕ) : Type 0 where
    pub bits : (n : ℕ) → bits_2d width reference (suc n) c p rest ≡ xs ++ bits_2d width reference n c' p' rest'
    pub on : p ≤ p'
    pub fits : p' ≤ width
    pub rises : Rising width p' rest'
    pub less : left_over width p' rest' < left_over width p rest
    pub few : p' < width → length xs + most p' rest' ≤ most p rest
    pub last : length xs ≤ most p rest

  -- at the width no bits come
  pub bits-end : (n : ℕ) (c : Colour) (p : ℕ) (rest : List ℕ) → p ≡ width → bits_2d width reference n c p rest ≡ []
  unfolding bits_2d
  bits-end zero c p rest e = refl
  bits-end (suc n) c p rest e = rw (eq-eqb p width e, bits_2d)

  module _ (c : Colour) (p : ℕ) (rest : List ℕ) (h : p < width) (r : Rising width p rest) where
    abbrev B1 : ℕ
    B1 = b1 width reference p c

    abbrev B2 : ℕ
    B2 = b2 width reference p c

    abbrev A1 : ℕ
    A1 = head_or width rest

    abbrev A2 : ℕ
    A2 = head_or width (tail rest)

    -- a1 lies at the position or behind it, and the later changes behind a1
    before : eqb p width ≡ false
    before = ne_eqb p width (λ e. omega arith)

    low : p ≤ A1
    low = head-low (omega arith) r

    after : Rising width A1 (tail rest)
    after = rises-lower (omega arith) (tail-rises r)

    -- of the changes ahead there are no more behind it
    fewer-right : (q : ℕ) → p ≤ q → right (right_of_a0 q) reference ≤ right (right_of_a0 p) reference
    fewer-right q k = right-less (right_of_a0 p) (right_of_a0 q) (right-grows p q k) reference

    across-few : length (across c (A1 - p) (A2 - A1)) ≤ 29 + 13 * ((A1 - p) / 64) + 13 * ((A2 - A1) / 64)
    unfolding across mode_bits
    across-few =
        omega (
          arith,
          length-append (mode_bits horizontal) (run_bits c (A1 - p) ++ run_bits (opposite c) (A2 - A1)),
          length-append (run_bits c (A1 - p)) (run_bits (opposite c) (A2 - A1)),
          run-few c (A1 - p),
          run-few (opposite c) (A2 - A1),
        )

    -- pass, where b2 lies before a1
    pub pass-turn : Rising width 0 reference → B2 < A1 → Turn c p rest (mode_bits pass) c B2 rest
    unfolding bits_2d
    pass-turn rises k =
        let f = head-fits r in
        let g = b2-behind rises p c (omega arith) in
        record {
          bits = λ n. rw (before, lt-ltb B2 A1 k, bits_2d);
          on = omega arith;
          fits = omega arith;
          rises = rises-lower (omega arith) (above k r);
          less = omega arith;
          few = λ l. omega (arith, pass-bits, pass-behind rises p c l);
          last = omega (arith, mode-few pass);
        }

    module _ (k : A1 ≤ B2) where
      -- vertical, where a1 is near b1
      pub vertical-turn : near B1 A1 ≡ true → Turn c p rest (mode_bits (vertical_to B1 A1)) (opposite c) A1 (tail rest)
      unfolding bits_2d
      vertical-turn e = record {
        bits = λ n. rw (before, le-ltb B2 A1 k, e, bits_2d);
        on = low;
        fits = head-fits r;
        rises = after;
        less = shorter h r;
        few = λ l. omega (arith, mode-few (vertical_to B1 A1), fewer-right A1 low, one_less {width = width} rest l, low);
        last = omega (arith, mode-few (vertical_to B1 A1));
      }

      -- horizontal, where it is not
      pub horizontal-turn : near B1 A1 ≡ false → Turn c p rest (across c (A1 - p) (A2 - A1)) c A2 (tail (tail rest))
      unfolding bits_2d across
      horizontal-turn e =
          let l = low in
          let m = head-low (head-fits r) after in
          record {
            bits = λ n. rw (before, le-ltb B2 A1 k, e, bits_2d) (simp append_assoc);
            on = omega arith;
            fits = head-fits after;
            rises = rises-lower (omega arith) (tail-rises after);
            less = omega (arith, shorter h r, no_longer (head-fits r) after);
            few = λ n. omega (arith, across-few, fewer-right A2 (omega arith), one_less {width = width} rest (omega arith), one_less {width = width} (tail rest) n, l, m, head-fits after);
            last = omega (arith, across-few, l, m, head-fits after);
          }

  -- ---- How many bits

  -- before the width there is always a code
  data Next (c : Colour) (p : ℕ) (rest : List ℕ) : Type 0 where
    by : {xs : List Bool} {c' : Colour} {p' : ℕ} {rest' : List ℕ} → Turn c p rest xs c' p' rest' → Next c p rest

  next-turn : Rising width 0 reference → (c : Colour) (p : ℕ) (rest : List ℕ) → p < width → Rising width p rest → Next c p rest
  next-turn rises c p rest h r =
      tests (ltb (b2 width reference p c) (head_or width rest)) refl (near (b1 width reference p c) (head_or width rest)) refl
    where
      tests : (b : Bool) → ltb (b2 width reference p c) (head_or width rest) ≡ b → (d : Bool) → near (b1 width reference p c) (head_or width rest) ≡ d
          → Next c p rest
      tests true e d f = by (pass-turn c p rest h r rises (ltb-true (b2 width reference p c) (head_or width rest) e))
      tests false e true f = by (vertical-turn c p rest h r (ltb-false (b2 width reference p c) (head_or width rest) e) f)
      tests false e false f = by (horizontal-turn c p rest h r (ltb-false (b2 width reference p c) (head_or width rest) e) f)

  abbrev Few : ℕ → Type 0
  Few n =
      (c : Colour) (p : ℕ) (rest : List ℕ) → p ≤ width → Rising width p rest → length (bits_2d width reference n c p rest) ≤ most p rest

  bits-few : Rising width 0 reference → (n : ℕ) → Few n
  unfolding bits_2d
  bits-few rises zero c p rest k r = omega arith
  bits-few rises (suc n) c p rest k r = tests (bits-few rises n) (leb width p) (leb-true width p) (leb-false width p)
    where
      later : Few n → Next c p rest → length (bits_2d width reference (suc n) c p rest) ≤ most p rest
      later ih (by {xs} {c'} {p'} {rest'} t) =
          rw (t.bits n)
          (omega (arith, length-append xs (bits_2d width reference n c' p' rest'), here (leb width p') (leb-true width p') (leb-false width p')))
        where
          here : (b : Bool) → (b ≡ true → width ≤ p') → (b ≡ false → p' < width) → length xs + length (bits_2d width reference n c' p' rest') ≤ most p rest
          here true f g = rw (bits-end n c' p' rest' (omega (arith, f refl, t.fits))) (omega (arith, t.last))
          here false f g = omega (arith, ih c' p' rest' t.fits t.rises, t.few (g refl))

      tests : Few n → (b : Bool) → (b ≡ true → width ≤ p) → (b ≡ false → p < width) → length (bits_2d width reference (suc n) c p rest) ≤ most p rest
      tests ih true f g = rw (bits-end (suc n) c p rest (omega (arith, f refl))) (omega arith)
      tests ih false f g = later ih (next-turn rises c p rest (g refl) r)

-- a line's bits at most
pub line-few : (width : ℕ) (reference row : List ℕ) → Rising width 0 reference → Rising width 0 row
    → length (line_of width reference row) ≤ 2 * length reference + 15 * length row + 13 * (width / 64) + 30
unfolding line_bits
line-few width reference row rises rises' =
    omega (arith, bits-few width reference rises (suc (width + length row)) white 0 row (omega arith) rises', right-few (right_of_a0 0) reference)
