-- A line that is written is read back: whatever stands before and behind its bits, reading it gives its row and takes exactly its bits, strict or
-- lenient, of either kind. So no two rows share a line, and no row's line begins another's. Assumes nothing.
use mathlib.Core.Path.{◌≡◌, refl, sym, ap, ◌∙◌, subst}
use mathlib.Core.Bool.{Bool, true, false, cond, not, ◌&&◌, and-false}
use mathlib.Core.Logic.{◌⊎◌, inl, inr}
use mathlib.Core.List.{List, [], ◌∷◌, ◌++◌, append_assoc, append-nil}
use Prim.Native.Nat.{ℕ, zero, suc, ◌+◌, ◌-◌, ◌≤◌, ◌<◌}
use native.Mathlib.Omega.{arith}
use lib.Dec.{eqb, leb, ltb}
use lib.ListN.{length, drop, length-append}
use borrow.Author.Tests.{ltb-true, leb-true, leb-false, eqb-true, eqb-false, lt-ltb, le-ltb, le-leb, ne_eqb}
use Rattle.rules.specs.Codes.{Colour, white, black, opposite, differ}
use Rattle.rules.specs.Modes.{Mode, pass, horizontal, VR, VL, mode_bits}
use Rattle.rules.specs.Lines.{Rules, Line, line, turned, moved_to, Went, went, failed, next, last_colour, recorded, add, push, push_turn, after_run, push_run, head_or, tail, b1, b2, unmoved, at_the_first, idle, unless_idle, vertical, apply, after_mode, code_2d, Kind, one, two, code_of, line_end, read_line}
use Rattle.rules.specs.Write.{run_bits, vertical_to, near, bits_1d, bits_2d, line_bits}
use Rattle.rules.proofs.Bits.{drop-after}
use Rattle.rules.proofs.Modes.{Coded, c-pass, c-horizontal, c-right, c-left, read-mode}
use Rattle.rules.specs.Rising.{Rising, none, some}
use Rattle.rules.proofs.Ascending.{rises-lower, head-low, head-fits}
use Rattle.rules.proofs.Ahead.{above, b2-behind, no_longer, shorter}
use Rattle.rules.proofs.Lines.{not-idle, moves, line-more, line-done}
use Rattle.rules.proofs.WriteRuns.{read-run}

-- ---- The changes of a line in its middle

-- what pixels of a colour from position p on make of the changes so far
noted : ℕ → Colour → List ℕ → List ℕ
noted p c done = cond (differ (last_colour done) c) (done ++ p ∷ []) done

-- one more change turns the last colour
last_snoc : (xs : List ℕ) (x : ℕ) → last_colour (xs ++ x ∷ []) ≡ opposite (last_colour xs)
unfolding last_colour
last_snoc [] x = refl
last_snoc (y ∷ xs) x = ap opposite (last_snoc xs x)

-- they are of that colour then
noted-colour : (p : ℕ) (c : Colour) (done : List ℕ) → last_colour (noted p c done) ≡ c
unfolding noted
noted-colour p c done = cases (last_colour done) c refl
  where
    cases : (a c : Colour) → last_colour done ≡ a → last_colour (cond (differ a c) (done ++ p ∷ []) done) ≡ c
    cases white white e = e
    cases white black e = last_snoc done p ∙ ap opposite e
    cases black white e = last_snoc done p ∙ ap opposite e
    cases black black e = e

-- more pixels of the same colour change nothing
noted-same : (p : ℕ) (c : Colour) (done : List ℕ) → last_colour done ≡ c → noted p c done ≡ done
unfolding noted
noted-same p white done e = rw e
noted-same p black done e = rw e

-- pixels of the opposite colour add a change
noted-turned : (p : ℕ) (c : Colour) (done : List ℕ) → last_colour done ≡ c → noted p (opposite c) done ≡ done ++ p ∷ []
unfolding noted
noted-turned p white done e = rw e
noted-turned p black done e = rw e

-- the changes after the pixels from p to q, which may be none
reached : ℕ → ℕ → Colour → List ℕ → List ℕ
reached p q c done = cond (ltb p q) (noted p c done) done

-- where there are some
reached-some : (p q : ℕ) (c : Colour) (done : List ℕ) → p < q → reached p q c done ≡ noted p c done
unfolding reached
reached-some p q c done h = rw (lt-ltb p q h)

-- where there are none
reached-none : (p q : ℕ) (c : Colour) (done : List ℕ) → p ≡ q → reached p q c done ≡ done
unfolding reached
reached-none p q c done e = rw (le-ltb p q (omega arith))

-- a line's first pixels, where they are white, are no change
reached-start : (q : ℕ) → reached 0 q white [] ≡ []
unfolding reached noted last_colour
reached-start q = tests (ltb 0 q)
  where
    tests : (b : Bool) → cond {A = List ℕ} b [] [] ≡ []
    tests true = refl
    tests false = refl

-- A line of the row `full`, read up to p: the changes done, with what pixels of colour c add to them, and then the rest are the row.
-- At the start the rest may begin at p itself; at the width there is no rest, and no more pixels come.
data Middle (width : ℕ) (full : List ℕ) : ℕ → Colour → List ℕ → List ℕ → Type 0 where
  starts : 0 < width → Rising width 0 full → Middle width full 0 white [] full
  within : {p : ℕ} {c : Colour} {done rest : List ℕ} → p < width → Rising width (suc p) rest → full ≡ noted p c done ++ rest → Middle width full p c done rest
  whole : {c : Colour} {done : List ℕ} → full ≡ done → Middle width full width c done []

-- on to the next change, where the colour turns
to-change : {width p : ℕ} {c : Colour} {full done rest : List ℕ} → Middle width full p c done rest
    → Middle width full (head_or width rest) (opposite c) (reached p (head_or width rest) c done) (tail rest)
unfolding noted last_colour
to-change {width} (starts h none) = whole (sym (reached-start width))
to-change (starts h (some {x = x} {xs = xs} k l r)) = within l r (ap (λ (l : List ℕ). noted x black l ++ xs) (sym (reached-start x)))
to-change {width} {p} {c} {done = done} (within h none e) = whole (e ∙ append-nil (noted p c done) ∙ sym (reached-some p width c done h))
to-change {p = p} {c = c} {done = done} (within h (some {x = x} {xs = xs} k l r) e) =
    within l r
    (e
    ∙ sym (append_assoc (noted p c done) (x ∷ []) xs)
    ∙ ap (λ (l : List ℕ). l ++ xs) (sym (noted-turned x c (noted p c done) (noted-colour p c done)) ∙ ap (noted x (opposite c)) (sym (reached-some p x c done k))))
to-change {width} {c = c} {done = done} (whole e) = whole (e ∙ sym (reached-none width width c done refl))

-- on to a position before the next change, in the same colour
to-before : {width p : ℕ} {c : Colour} {full done rest : List ℕ} (q : ℕ) → p < q → q < head_or width rest → Middle width full p c done rest
    → Middle width full q c (reached p q c done) rest
unfolding noted last_colour
to-before {rest = rest} q h k (starts _ r) = within {p = q} (omega (arith, head-fits r)) (above k r) (ap (λ (l : List ℕ). noted q white l ++ rest) (sym (reached-start q)))
to-before {p = p} {c = c} {done = done} {rest = rest} q h k (within _ r e) =
    within {p = q} (omega (arith, head-fits r)) (above k r)
    (e ∙ ap (λ (l : List ℕ). l ++ rest) (sym (noted-same q c (noted p c done) (noted-colour p c done)) ∙ ap (noted q c) (sym (reached-some p q c done h))))
to-before q h k (whole e) = absurd (omega arith)

-- in the middle of a line the rest rises from the position on, which fits; at the width the row is done, and before it all changes have room
record Facts (width : ℕ) (full : List ℕ) (p : ℕ) (c : Colour) (done rest : List ℕ) : Type 0 where
  fits : p ≤ width
  rising : Rising width p rest
  ended : p ≡ width → full ≡ done
  few : p < width → length (noted p c done) ≤ length full

facts : {width p : ℕ} {c : Colour} {full done rest : List ℕ} → Middle width full p c done rest → Facts width full p c done rest
unfolding noted last_colour
facts (starts h r) = record { fits = omega arith; rising = r; ended = λ e. absurd (omega arith); few = λ _. omega arith }
facts (within h r e) = record {
  fits = omega arith;
  rising = rises-lower (omega arith) r;
  ended = λ e. absurd (omega arith);
  few = λ _. omega (arith, simp length-append at (ap length e));
}
facts (whole e) = record { fits = omega arith; rising = none; ended = λ _. e; few = λ h. absurd (omega arith) }

-- Before the width, the next change lies further on, or is the first of all and at 0; and the one after it lies further on in any case. So no code that
-- is written moves nothing but where the line's first one may (A12).
onward : {width p : ℕ} {c : Colour} {full done rest : List ℕ} → Middle width full p c done rest → p < width → (p < head_or width rest) ⊎ ((p ≡ 0) × (c ≡ white))
onward (starts h r) l = inr (refl, refl)
onward (within h r e) l = inl (head-low h r)
onward (whole e) l = absurd (omega arith)

onward-two : {width p : ℕ} {c : Colour} {full done rest : List ℕ} → Middle width full p c done rest → p < width → p < head_or width (tail rest)
onward-two (starts h none) l = l
onward-two (starts h (some k l' r)) l = omega (arith, head-low l' r)
onward-two (within h none e) l = l
onward-two (within h (some k l' r) e) l = omega (arith, head-low l' r)
onward-two (whole e) l = absurd (omega arith)

-- a vertical mode is idle by the same test, to the right and to the left
vertical-idle : (b a1 : ℕ) (s t : Line) → idle (vertical_to b a1) s t ≡ (unmoved s t && not (at_the_first s))
vertical-idle b a1 s t = tests (leb b a1)
  where
    tests : (d : Bool) → idle (cond d (VR (a1 - b)) (VL (b - a1))) s t ≡ (unmoved s t && not (at_the_first s))
    tests true = refl
    tests false = refl

-- ---- A 2D line's codes

module _ (width : ℕ) (reference : List ℕ) where
  -- what is written before the width, by cases: a pass, a vertical mode, or a horizontal one with two runs
  pub write-cases : (n : ℕ) (c : Colour) (p : ℕ) (rest : List ℕ) (C : List Bool → Type 0) → p < width
      → (b2 width reference p c < head_or width rest → C (mode_bits pass ++ bits_2d width reference n c (b2 width reference p c) rest))
      → (near (b1 width reference p c) (head_or width rest) ≡ true
      → C (mode_bits (vertical_to (b1 width reference p c) (head_or width rest)) ++ bits_2d width reference n (opposite c) (head_or width rest) (tail rest)))
      → C (mode_bits horizontal
      ++ (run_bits c (head_or width rest - p)
      ++ (run_bits (opposite c) (head_or width (tail rest) - head_or width rest)
      ++ bits_2d width reference n c (head_or width (tail rest)) (tail (tail rest)))))
      → C (bits_2d width reference (suc n) c p rest)
  unfolding bits_2d
  write-cases n c p rest C h passes verticals horizontals =
      tests (ltb (b2 width reference p c) (head_or width rest)) refl (near (b1 width reference p c) (head_or width rest)) refl
    where
      before : eqb p width ≡ false
      before = ne_eqb p width (λ e. omega arith)

      tests : (b : Bool) → ltb (b2 width reference p c) (head_or width rest) ≡ b → (d : Bool) → near (b1 width reference p c) (head_or width rest) ≡ d
          → C (bits_2d width reference (suc n) c p rest)
      tests true e d f = rw (before, e, bits_2d) (passes (ltb-true _ _ e))
      tests false e true f = rw (before, e, f, bits_2d) (verticals f)
      tests false e false f = rw (before, e, f, bits_2d) horizontals

-- a vertical mode between places that are near has a code
pub vertical-coded : (b a1 : ℕ) → near b a1 ≡ true → Coded (vertical_to b a1)
vertical-coded b a1 e = tests (leb b a1) refl (leb a1 (b + 3)) refl (leb b (a1 + 3)) refl e
  where
    left : (k : ℕ) → 0 < k → k ≤ 3 → Coded (VL k)
    left zero h l = absurd (omega arith)
    left (suc k) h l = c-left {k = k} (omega arith)

    tests : (t : Bool) → leb b a1 ≡ t → (u : Bool) → leb a1 (b + 3) ≡ u → (v : Bool) → leb b (a1 + 3) ≡ v → (u && v) ≡ true → Coded (cond t (VR (a1 - b)) (VL (b - a1)))
    tests true q true f true g e = c-right {k = a1 - b} (omega (arith, leb-true a1 (b + 3) f))
    tests false q true f true g e = left (b - a1) (omega (arith, leb-false b a1 q)) (omega (arith, leb-true b (a1 + 3) g))
    tests t q true f false g e = absurd (let z : ◌≡◌ {A = ℕ} 0 1 = cc in omega arith)
    tests t q false f v g e = absurd (let z : ◌≡◌ {A = ℕ} 0 1 = cc in omega arith)

-- two turns give the colour back
opposite-twice : (c : Colour) → opposite (opposite c) ≡ c
opposite-twice white = refl
opposite-twice black = refl

-- ---- Reading

module _ (R : Rules) (narrow : R.width ≤ 4294967295) (bs : List Bool) (full : List ℕ) (roomy : length full ≤ R.room) where
  abbrev W : ℕ
  W = R.width

  module _ {p : ℕ} {c : Colour} {done rest : List ℕ} (m : Middle W full p c done rest) (a : ℕ) where
    -- pixels from p to q
    push-to : (place q : ℕ) → p ≤ q → q ≤ W → push R place (q - p) (line a p c done false) ≡ went (line a q c (reached p q c done) false)
    unfolding push add recorded noted reached
    push-to place q h k = rw (le-leb (q - p) (W - p) (omega arith)) (tests (eqb (q - p) 0) refl)
      where
        s : Line
        s = line a p c done false

        tests : (b : Bool) → eqb (q - p) 0 ≡ b
            → cond b (went s) (cond (leb (length (recorded s)) R.room) (went (line a (p + (q - p)) c (recorded s) false)) (failed 4 0 s)) ≡ went (line a q c (reached p q c done) false)
        tests true e =
            let g : p ≡ q = omega (arith, eqb-true (q - p) 0 e) in
            λ i. went (line a (g i) c (sym (reached-none p q c done g) i) false)
        tests false e =
            let lt : p < q = omega (arith, eqb-false (q - p) 0 e) in
            let to : p + (q - p) ≡ q = omega arith in
            rw (le-leb (length (noted p c done)) R.room (omega (arith, (facts m).few (omega arith))))
            (λ i. went (line a (to i) c (sym (reached-some p q c done lt) i) false))

    -- and the colour turned
    turn-to : (place q : ℕ) → p ≤ q → q ≤ W → push_turn R place (q - p) (line a p c done false) ≡ went (line a q (opposite c) (reached p q c done) false)
    turn-to place q h k = ap (λ (w : Went). next w λ t. went (turned t)) (push-to place q h k)

  -- a run's bits, whatever follows
  run-to : {p : ℕ} {c : Colour} {done rest : List ℕ} → Middle W full p c done rest → (a q : ℕ) → p ≤ q → q ≤ W → (later : List Bool) → drop a bs ≡ run_bits c (q - p) ++ later
      → push_run R bs (line a p c done false) ≡ went (line (a + length (run_bits c (q - p))) q (opposite c) (reached p q c done) false)
  unfolding push_run
  run-to {p} {c} {done} m a q h k later e =
      ap (after_run R (line a p c done false)) (read-run c (q - p) bs later a (omega arith) e)
      ∙ turn-to m (a + length (run_bits c (q - p))) a q h k

  -- from a line on, some bits and whatever follows them are read as the row
  record Back (kind : Kind) (s : Line) (xs : List Bool) : Type 0 where
    reads : (later : List Bool) → drop s.at bs ≡ xs ++ later
        → (d : Colour) × (line_end W (code_of R kind bs) bs s ≡ went (line (s.at + length xs) W d full false))

  module _ (kind : Kind) where
    -- at the width, no bits
    back_whole : {p : ℕ} {done : List ℕ} (a : ℕ) (c : Colour) → p ≡ W → full ≡ done → Back kind (line a p c done false) []
    back_whole {p} {done} a c q e = record {
      reads = λ later _.
          let here : a ≡ a + 0 = omega arith in
          (c, line-done W (code_of R kind bs) bs (moves R kind bs) (line a p c done false) q ∙ (λ i. went (line (here i) (q i) c (sym e i) false)));
    }

    -- a code's bits, and then the rest
    back_more : {s t : Line} (xs : List Bool) {ys : List Bool} → s.position < W
        → ((later : List Bool) → drop s.at bs ≡ xs ++ later → code_of R kind bs s ≡ went t)
        → s.at + length xs ≡ t.at
        → Back kind t ys
        → Back kind s (xs ++ ys)
    back_more {s} {t} xs {ys} before code moved back = record {
      reads = λ later e.
          let here = e ∙ append_assoc xs ys later in
          let r = back.reads later (ap (λ (n : ℕ). drop n bs) (sym moved) ∙ drop-after bs xs (ys ++ later) s.at here) in
          let at-is : t.at + length ys ≡ s.at + length (xs ++ ys) = omega (arith, length-append xs ys) in
          (r.0, line-more W (code_of R kind bs) bs (moves R kind bs) s t (λ q. omega arith) (code (ys ++ later) here) ∙ r.1 ∙ (λ i. went (line (at-is i) W r.0 full false)));
    }

  -- ---- 1D lines

  -- runs to the changes that are left, and to the width
  back-1d : (rest : List ℕ) {p : ℕ} {c : Colour} {done : List ℕ} (a : ℕ) → Middle W full p c done rest → p < W → Back one (line a p c done false) (bits_1d W c p rest)
  unfolding bits_1d
  back-1d [] {p} {c} a m before =
      rw (← append-nil (run_bits c (W - p)))
      (back_more one (run_bits c (W - p)) before (run-to m a W (omega arith) (omega arith)) refl
      (back_whole one _ (opposite c) refl ((facts (to-change m)).ended refl)))
  back-1d (x ∷ xs) {p} {c} a m before =
      let f = facts m in
      back_more one (run_bits c (x - p)) before (run-to m a x (head-low (omega arith) f.rising) (head-fits f.rising)) refl
      (back-1d xs _ (to-change m) (below f.rising))
    where
      below : Rising W p (x ∷ xs) → x < W
      below (some _ l _) = l

  -- ---- 2D lines

  module _ (reference : List ℕ) (rises : Rising W 0 reference) where
    -- a mode's bits, whatever follows
    code-mode : (mode : Mode) → Coded mode → (s : Line) (later : List Bool) → drop s.at bs ≡ mode_bits mode ++ later
        → (t : Line) → apply R reference bs s.at mode (moved_to (s.at + length (mode_bits mode)) s) ≡ went t → idle mode s t ≡ false
        → code_2d R reference bs s ≡ went t
    unfolding code_2d
    code-mode mode coded s later e t does busy =
        ap (after_mode R reference bs s) (read-mode mode bs later s.at coded e) ∙ ap (unless_idle R mode s) does ∙ not-idle R mode s t busy

    -- the vertical mode from b1 to a1 goes to a1
    vertical-to : {p : ℕ} {c : Colour} {done rest : List ℕ} → Middle W full p c done rest → (a place a1 : ℕ) → p ≤ a1 → a1 ≤ W
        → apply R reference bs place (vertical_to (b1 W reference p c) a1) (line a p c done false) ≡ went (line a a1 (opposite c) (reached p a1 c done) false)
    unfolding apply vertical
    vertical-to {p} {c} {done} m a place a1 h k = tests (leb B a1) refl
      where
        B : ℕ
        B = b1 W reference p c

        s : Line
        s = line a p c done false

        to-a1 : vertical R reference place a1 s ≡ went (line a a1 (opposite c) (reached p a1 c done) false)
        to-a1 = rw (le-leb a1 4294967295 (omega arith), le-leb p a1 h) (turn-to m a place a1 h k)

        tests : (b : Bool) → leb B a1 ≡ b → apply R reference bs place (cond b (VR (a1 - B)) (VL (B - a1))) s ≡ went (line a a1 (opposite c) (reached p a1 c done) false)
        tests true e = let g : B + (a1 - B) ≡ a1 = omega (arith, leb-true B a1 e) in ap (λ (x : ℕ). vertical R reference place x s) g ∙ to-a1
        tests false e =
            let g : B - (B - a1) ≡ a1 = omega (arith, leb-false B a1 e) in
            rw (le-leb (B - a1) B (omega arith)) (ap (λ (x : ℕ). vertical R reference place x s) g ∙ to-a1)

    -- n codes are read back, if so many reach the width
    abbrev Codes : ℕ → Type 0
    Codes n =
        (a p : ℕ) (c : Colour) (done rest : List ℕ) → Middle W full p c done rest → W - p + length rest < n
        → Back (two reference) (line a p c done false) (bits_2d W reference n c p rest)

    module _ (n : ℕ) (later : Codes n) (a p : ℕ) (c : Colour) (done rest : List ℕ) (m : Middle W full p c done rest) (fuel : W - p + length rest < suc n) (before : p < W) where
      abbrev s : Line
      s = line a p c done false

      abbrev B1 : ℕ
      B1 = b1 W reference p c

      abbrev B2 : ℕ
      B2 = b2 W reference p c

      abbrev a1 : ℕ
      a1 = head_or W rest

      abbrev a2 : ℕ
      a2 = head_or W (tail rest)

      f : Facts W full p c done rest
      f = facts m

      low : p ≤ a1
      low = head-low f.fits f.rising

      high : a1 ≤ W
      high = head-fits f.rising

      -- a pass, to b2
      back-pass : B2 < a1 → Back (two reference) s (mode_bits pass ++ bits_2d W reference n c B2 rest)
      unfolding apply
      back-pass h =
          back_more (two reference) (mode_bits pass) before
          (λ more e. code-mode pass c-pass s more e _ (push-to m (a + length (mode_bits pass)) a B2 (omega (arith, far)) (omega (arith, high))) refl)
          refl
          (later _ B2 c _ rest (to-before B2 far h m) (omega (arith, far, high)))
        where
          far : p < B2
          far = b2-behind rises p c (omega (arith, high))

      -- a vertical mode, to a1
      back-vertical : near B1 a1 ≡ true → Back (two reference) s (mode_bits (vertical_to B1 a1) ++ bits_2d W reference n (opposite c) a1 (tail rest))
      back-vertical h =
          back_more (two reference) (mode_bits mode) before
          (λ more e. code-mode mode (vertical-coded B1 a1 h) s more e t (vertical-to m (a + length (mode_bits mode)) a a1 low high) (vertical-idle B1 a1 s t ∙ busy (onward m before)))
          refl
          (later _ a1 (opposite c) _ (tail rest) (to-change m) (omega (arith, shorter before f.rising)))
        where
          mode : Mode
          mode = vertical_to B1 a1

          t : Line
          t = line (a + length (mode_bits mode)) a1 (opposite c) (reached p a1 c done) false

          busy : (p < a1) ⊎ ((p ≡ 0) × (c ≡ white)) → (unmoved s t && not (at_the_first s)) ≡ false
          busy (inl q) = rw (ne_eqb a1 p (λ e. omega arith))
          busy (inr (q, r)) = rw (q, r) (and-false (eqb a1 0))

      -- a horizontal mode, to a1 and a2
      back-horizontal : Back (two reference) s (mode_bits horizontal ++ (run_bits c (a1 - p) ++ (run_bits (opposite c) (a2 - a1) ++ bits_2d W reference n c a2 (tail (tail rest)))))
      unfolding apply
      back-horizontal =
          rw regroup
          (back_more (two reference) (M ++ (r₁ ++ r₂)) before code
          (omega (arith, length-append M (r₁ ++ r₂), length-append r₁ r₂))
          (subst (λ (d : Colour). Back (two reference) t (bits_2d W reference n d a2 (tail (tail rest)))) (opposite-twice c)
          (later t.at a2 t.colour t.changes (tail (tail rest)) (to-change m₁) (omega (arith, shorter before f.rising, no_longer high (facts m₁).rising)))))
        where
          m₁ : Middle W full a1 (opposite c) (reached p a1 c done) (tail rest)
          m₁ = to-change m

          M : List Bool
          M = mode_bits horizontal

          r₁ : List Bool
          r₁ = run_bits c (a1 - p)

          r₂ : List Bool
          r₂ = run_bits (opposite c) (a2 - a1)

          L : List Bool
          L = bits_2d W reference n c a2 (tail (tail rest))

          regroup : M ++ (r₁ ++ (r₂ ++ L)) ≡ (M ++ (r₁ ++ r₂)) ++ L
          regroup = simp append_assoc

          t : Line
          t = line (a + length M + length r₁ + length r₂) a2 (opposite (opposite c)) (reached a1 a2 (opposite c) (reached p a1 c done)) false

          code : (more : List Bool) → drop a bs ≡ (M ++ (r₁ ++ r₂)) ++ more → code_2d R reference bs s ≡ went t
          code more e =
              let e₁ : drop a bs ≡ M ++ (r₁ ++ (r₂ ++ more)) = e ∙ simp append_assoc in
              let e₂ = drop-after bs M (r₁ ++ (r₂ ++ more)) a e₁ in
              let e₃ = drop-after bs r₁ (r₂ ++ more) (a + length M) e₂ in
              code-mode horizontal c-horizontal s (r₁ ++ (r₂ ++ more)) e₁ t
              (ap (λ (w : Went). next w (push_run R bs)) (run-to m (a + length M) a1 low high (r₂ ++ more) e₂)
              ∙ run-to m₁ (a + length M + length r₁) a2 (head-low high (facts m₁).rising) (head-fits (facts m₁).rising) more e₃)
              (ne_eqb a2 p (λ q. omega (arith, onward-two m before)))

    -- enough codes reach the width
    back-2d : (n : ℕ) → Codes n
    unfolding bits_2d
    back-2d zero a p c done rest m fuel = absurd (omega arith)
    back-2d (suc n) a p c done rest m fuel = tests (eqb p W) refl (back-2d n)
      where
        tests : (b : Bool) → eqb p W ≡ b → Codes n → Back (two reference) (line a p c done false) (bits_2d W reference (suc n) c p rest)
        tests true e later = let q = eqb-true p W e in rw (e, bits_2d) (back_whole (two reference) a c q ((facts m).ended q))
        tests false e later =
            let before : p < W = omega (arith, (facts m).fits, eqb-false p W e) in
            write-cases W reference n c p rest (Back (two reference) (line a p c done false)) before
            (back-pass n later a p c done rest m fuel before) (back-vertical n later a p c done rest m fuel before) (back-horizontal n later a p c done rest m fuel before)

-- ---- A line

-- the kinds of line that are written under a width: 1D; 2D under a reference that rises below it
abbrev pub Proper : ℕ → Kind → Type 0
Proper width one = Unit {0}
Proper width (two reference) = Rising width 0 reference

-- at a bit stands a line of so many bits, which is read as a row
abbrev pub Reads : Rules → Kind → List Bool → ℕ → ℕ → List ℕ → Type 0
Reads R kind bs at size row = (colour : Colour) × (read_line R kind bs at ≡ went (line (at + size) R.width colour row false))

-- A line that is written is read back: its row, and exactly its bits, whatever stands before and behind them.
pub read-line : (R : Rules) → 0 < R.width → R.width ≤ 4294967295
    → (kind : Kind) → Proper R.width kind → (row : List ℕ) → Rising R.width 0 row → length row ≤ R.room
    → (bs rest : List Bool) (at : ℕ) → drop at bs ≡ line_bits R.width kind row ++ rest
    → Reads R kind bs at (length (line_bits R.width kind row)) row
unfolding read_line line_bits
read-line R wide narrow one proper row rises roomy bs rest at e =
    (back-1d R narrow bs row roomy row at (starts wide rises) wide).reads rest e
read-line R wide narrow (two reference) proper row rises roomy bs rest at e =
    (back-2d R narrow bs row roomy reference proper (suc (R.width + length row)) at 0 white [] row (starts wide rises) (omega arith)).reads rest e

-- one row is read at a bit
reads-one : (R : Rules) (kind : Kind) (bs : List Bool) (at m n : ℕ) (row other : List ℕ) → Reads R kind bs at m row → Reads R kind bs at n other → row ≡ other
reads-one R kind bs at m n row other (c, e) (d, f) =
    ap (λ (l : Line). l.changes) (let g : line (at + m) R.width c row false ≡ line (at + n) R.width d other false = cc in g)

module _ (width : ℕ) (wide : 0 < width) (narrow : width ≤ 4294967295)
    (kind : Kind) (proper : Proper width kind) (row other : List ℕ) (rises : Rising width 0 row) (rises' : Rising width 0 other) where
  -- two lines that begin the same bits are of the same row
  pub rows_same : (rest rest' : List Bool) → line_bits width kind row ++ rest ≡ line_bits width kind other ++ rest' → row ≡ other
  rows_same rest rest' e =
      reads-one R kind (line_bits width kind row ++ rest) 0 _ _ row other
      (read-line R wide narrow kind proper row rises (omega arith) _ rest 0 refl)
      (read-line R wide narrow kind proper other rises' (omega arith) _ rest' 0 e)
    where
      R : Rules
      R = record { width = width; strict = true; exact = true; room = length row + length other }

  -- no two rows share a line
  pub line-settles : line_bits width kind row ≡ line_bits width kind other → row ≡ other
  line-settles e = rows_same [] [] (ap (λ (l : List Bool). l ++ []) e)

  -- no row's line begins another's
  pub line-begins-none : (rest : List Bool) → line_bits width kind row ++ rest ≡ line_bits width kind other → row ≡ other
  line-begins-none rest e = rows_same rest [] (e ∙ sym (append-nil (line_bits width kind other)))
