-- Laws of lines: each code takes a bit; the changes of a line ascend strictly below its position, and there are no more of them than bits taken;
-- and a line comes to its end without a word of fuel. Assumes nothing.
use mathlib.Core.Path.{◌≡◌, refl, ap, ◌∙◌, subst}
use mathlib.Core.Bool.{Bool, true, false, cond, not, ◌&&◌, and-false}
use mathlib.Core.List.{List, [], ◌∷◌, ◌++◌}
use Prim.Native.Nat.{ℕ, zero, suc, ◌+◌, ◌-◌, ◌≤◌, ◌<◌}
use native.Mathlib.Omega.{arith}
use lib.Dec.{eqb, leb}
use lib.ListN.{length, length-append}
use borrow.Author.Tests.{leb-true, eqb-true, eqb-false, eq-eqb, ne_eqb}
use Rattle.rules.specs.Machine.{Out, more, done, ends}
use Rattle.rules.specs.Codes.{Colour, differ}
use Rattle.rules.specs.Runs.{Res, ok, fault, Sum, sum, read_run}
use Rattle.rules.specs.Modes.{Mode, pass, horizontal, VR, VL, Moded, read_mode}
use Rattle.rules.specs.Lines.{Rules, Line, line, new_line, turned, moved_to, with_cut, Went, went, failed, next, last_colour, recorded, add, push, push_turn, after_run, push_run, b1, b2, unmoved, at_the_first, idle, unless_idle, vertical, apply, after_mode, code_2d, Kind, one, two, code_of, go_on, line_of, line_step, line_end, read_line}
use Rattle.rules.proofs.Bits.{both_true}
use Rattle.rules.proofs.Machine.{Falls, ends_more, ends-done, ends-ind, ends-stops}
use Rattle.rules.specs.Rising.{Rising, none}
use Rattle.rules.proofs.Ascending.{rises-wider, rises-snoc}
use Rattle.rules.proofs.Runs.{Within, read-within}
use Rattle.rules.proofs.Modes.{ModeAt, mode_is_at}

-- ---- Idle codes (A12)

-- what a line makes of a code that may be idle, by cases: 1 at the code, or what the code did
pub unless-idle : (R : Rules) (mode : Mode) (s : Line) (C : Went → Type 0) → C (failed 1 s.at s) → (w : Went) → C w → C (unless_idle R mode s w)
unless-idle R mode s C stops (went t) c = tests (R.exact && idle mode s t)
  where
    tests : (b : Bool) → C (cond b (failed 1 s.at s) (went t))
    tests true = stops
    tests false = c
unless-idle R mode s C stops (failed n place t) c = c

-- a line that is not exact makes of it what it did
pub inexact : (R : Rules) → R.exact ≡ false → (mode : Mode) (s : Line) (w : Went) → unless_idle R mode s w ≡ w
inexact R e mode s (went t) = rw e
inexact R e mode s (failed n place t) = refl

-- a code that goes on did so before the test
pub idle-went : (R : Rules) (mode : Mode) (s t : Line) (w : Went) → unless_idle R mode s w ≡ went t → w ≡ went t
idle-went R mode s t w = unless-idle R mode s (λ v. v ≡ went t → w ≡ went t) (λ e. absurd (let z : ◌≡◌ {A = ℕ} 0 1 = cc in omega arith)) w (λ e. e)

-- and in an exact line it was not idle
pub exact-busy : (R : Rules) → R.exact ≡ true → (mode : Mode) (s t : Line) (w : Went) → unless_idle R mode s w ≡ went t → idle mode s t ≡ false
exact-busy R x mode s t (went u) e = tests (idle mode s u) refl (rw x at e)
  where
    tests : (b : Bool) → idle mode s u ≡ b → cond b (failed 1 s.at s) (went u) ≡ went t → idle mode s t ≡ false
    tests true q e = absurd (let z : ◌≡◌ {A = ℕ} 0 1 = cc in omega arith)
    tests false q e = subst (λ (v : Line). idle mode s v ≡ false) (let g : u ≡ t = cc in g) q
exact-busy R x mode s t (failed n place u) e = absurd (let z : ◌≡◌ {A = ℕ} 0 1 = cc in omega arith)

-- one that is not idle passes the test
pub not-idle : (R : Rules) (mode : Mode) (s t : Line) → idle mode s t ≡ false → unless_idle R mode s (went t) ≡ went t
not-idle R mode s t e = rw (e, and-false R.exact)

-- an idle code left the position where it was
pub idle-stays : (mode : Mode) (s t : Line) → idle mode s t ≡ true → t.position ≡ s.position
idle-stays pass s t e = absurd (let z : ◌≡◌ {A = ℕ} 0 1 = cc in omega arith)
idle-stays horizontal s t e = eqb-true t.position s.position e
idle-stays (VR k) s t e = eqb-true t.position s.position (both_true (unmoved s t) (not (at_the_first s)) e).0
idle-stays (VL k) s t e = eqb-true t.position s.position (both_true (unmoved s t) (not (at_the_first s)) e).0

-- ---- What holds of a line, and of what a code makes of it

-- a line that goes on, or one that fails, with its number
abbrev pub Each : (Line → Type 0) → (ℕ → Line → Type 0) → Went → Type 0
Each G F (went t) = G t
Each G F (failed n place t) = F n t

-- A line that began at bit `start`: it stands no further than bit `size`; it has taken `spare` bits more than it has changes; its changes
-- ascend strictly below its position, which is at most the width; they have room.
pub record Sound (R : Rules) (size start spare : ℕ) (s : Line) : Type 0 where
  pub inside : s.at ≤ size
  pub few : start + spare + length s.changes ≤ s.at
  pub fits : s.position ≤ R.width
  pub rising : Rising s.position 0 s.changes
  pub roomy : length s.changes ≤ R.room

-- A bit that no reading from before it passes: the end of the data is one, and the zeros of an EOL are another (proofs/Barrier.antt).
pub record Bound (bs : List Bool) (size : ℕ) : Type 0 where
  pub run-stays : (colour : Colour) (at : ℕ) (r : Sum) → read_run colour bs at ≡ ok r → at ≤ size → r.at ≤ size
  pub mode-stays : (at : ℕ) (r : Moded) → read_mode bs at ≡ ok r → at ≤ size → r.at ≤ size

pub data-bound : (bs : List Bool) → Bound bs (length bs)
data-bound bs = record {
  run-stays = λ colour at r e h. (subst (Within bs (sum at 0)) e (read-within colour bs at)).1;
  mode-stays = λ at r e h. (subst (ModeAt bs at) e (mode_is_at bs at)).fits;
}

module _ (R : Rules) (size start : ℕ) where
  pub sound-new : start ≤ size → Sound R size start 0 (new_line start)
  sound-new h = record { inside = h; few = omega arith; fits = omega arith; rising = none; roomy = omega arith }

  -- the bits of a code are taken
  sound-moved : {spare : ℕ} (s : Line) (a : ℕ) → s.at < a → (s.at ≤ size → a ≤ size) → Sound R size start spare s → Sound R size start (suc spare) (moved_to a s)
  sound-moved s a h k w = record { inside = k w.inside; few = omega (arith, w.few); fits = w.fits; rising = w.rising; roomy = w.roomy }

  sound-less : {spare : ℕ} (s : Line) → Sound R size start (suc spare) s → Sound R size start spare s
  sound-less s w = record { inside = w.inside; few = omega (arith, w.few); fits = w.fits; rising = w.rising; roomy = w.roomy }

  -- a count leaves the bit as it is, and spends one spare bit at most
  abbrev pub Pushes : Line → Line → Type 0
  Pushes s t = (t.at ≡ s.at) × ((spare : ℕ) → Sound R size start (suc spare) s → Sound R size start spare t)

  abbrev pub PushFails : Line → ℕ → Line → Type 0
  PushFails s n t = (1 ≤ n) × (n ≤ 4) × (t.at ≡ s.at) × ((spare : ℕ) → Sound R size start (suc spare) s → Sound R size start spare t)

  recorded-cases : (s : Line) (C : List ℕ → Type 0) → C s.changes → C (s.changes ++ s.position ∷ []) → C (recorded s)
  unfolding recorded
  recorded-cases s C kept more' = tests (differ (last_colour s.changes) s.colour)
    where
      tests : (b : Bool) → C (cond b (s.changes ++ s.position ∷ []) s.changes)
      tests true = more'
      tests false = kept

  add-pushes : (count : ℕ) (s : Line) → count ≤ R.width - s.position → Each (Pushes s) (PushFails s) (add R count s)
  unfolding add
  add-pushes count s h = tests (eqb count 0) (eqb-false count 0) (leb (length (recorded s)) R.room) (leb-true _ _)
    where
      longer : (spare : ℕ) → 0 < count → length (recorded s) ≤ R.room → Sound R size start (suc spare) s
          → Sound R size start spare (line s.at (s.position + count) s.colour (recorded s) s.cut)
      longer spare p k w = record {
        inside = w.inside;
        few = recorded-cases s (λ l. start + spare + length l ≤ s.at) (omega (arith, w.few)) (omega (arith, w.few, length-append s.changes (s.position ∷ [])));
        fits = omega (arith, w.fits);
        rising =
            recorded-cases s (λ l. Rising (s.position + count) 0 l)
            (rises-wider (omega arith) w.rising)
            (rises-snoc (omega arith) (omega arith) w.rising);
        roomy = k;
      }

      tests : (b : Bool) → (b ≡ false → count ≡ 0 → ⊥) → (c : Bool) → (c ≡ true → length (recorded s) ≤ R.room)
          → Each (Pushes s) (PushFails s) (cond b (went s) (cond c (went (line s.at (s.position + count) s.colour (recorded s) s.cut)) (failed 4 0 s)))
      tests true ne c k = (refl, λ spare w. sound-less s w)
      tests false ne true k = (refl, λ spare w. longer spare (let z = ne refl in positive count z) (k refl) w)
        where
          positive : (n : ℕ) → (n ≡ 0 → ⊥) → 0 < n
          positive zero z = absurd (z refl)
          positive (suc n) z = omega arith
      tests false ne false k = (omega arith, omega arith, refl, λ spare w. sound-less s w)

  cut-sound : {spare : ℕ} (s : Line) → Sound R size start spare s → Sound R size start spare (with_cut s)
  cut-sound s w = record { inside = w.inside; few = w.few; fits = w.fits; rising = w.rising; roomy = w.roomy }

  pub push-pushes : (place count : ℕ) (s : Line) → Each (Pushes s) (PushFails s) (push R place count s)
  unfolding push
  push-pushes place count s = tests (leb count (R.width - s.position)) (leb-true _ _) R.strict
    where
      cut-each : (w : Went) → Each (Pushes (with_cut s)) (PushFails (with_cut s)) w → Each (Pushes s) (PushFails s) w
      cut-each (went t) (e, f) = (e, λ spare w. f spare (cut-sound s w))
      cut-each (failed n p t) (a, b, e, f) = (a, b, e, λ spare w. f spare (cut-sound s w))

      tests : (b : Bool) → (b ≡ true → count ≤ R.width - s.position) → (c : Bool)
          → Each (Pushes s) (PushFails s) (cond b (add R count s) (cond c (failed 1 place s) (add R (R.width - s.position) (with_cut s))))
      tests true h c = add-pushes count s (h refl)
      tests false h true = (omega arith, omega arith, refl, λ spare w. sound-less s w)
      tests false h false = cut-each (add R (R.width - s.position) (with_cut s)) (add-pushes (R.width - s.position) (with_cut s) (omega arith))

  turned-pushes : (s : Line) (w : Went) → Each (Pushes s) (PushFails s) w → Each (Pushes s) (PushFails s) (next w λ t. went (turned t))
  turned-pushes s (went t) (e, f) = (e, λ spare w. let g = f spare w in record { inside = g.inside; few = g.few; fits = g.fits; rising = g.rising; roomy = g.roomy })
  turned-pushes s (failed n p t) f = f

  -- ---- One code

  -- a code spends no bits that were spare
  abbrev pub Keeps : Line → Line → Type 0
  Keeps s t = (spare : ℕ) → Sound R size start spare s → Sound R size start spare t

  keeps-moved : (s : Line) (a : ℕ) → s.at < a → (s.at ≤ size → a ≤ size) → Keeps s (moved_to a s)
  keeps-moved s a h k spare w = sound-less (moved_to a s) (sound-moved s a h k w)

module _ (R : Rules) (bs : List Bool) (size : ℕ) (bound : Bound bs size) (start : ℕ) where
  -- a code takes bits, in the data; one that fails has a number of 1 to 4
  abbrev pub Coded : Line → Went → Type 0
  Coded s w =
      Each (λ t. (s.at < t.at) × (t.at ≤ length bs) × Keeps R size start s t) (λ n t. (1 ≤ n) × (n ≤ 4) × Keeps R size start s t) w

  -- what comes after bits that were taken
  coded-after : (s t : Line) → s.at < t.at → Keeps R size start s t → (w : Went) → Coded t w → Coded s w
  coded-after s t h f (went u) (a, b, g) = (omega arith, b, λ spare w. g spare (f spare w))
  coded-after s t h f (failed n p u) (a, b, g) = (a, b, λ spare w. g spare (f spare w))

  coded-then : (s : Line) (w : Went) (then : Line → Went) → Coded s w → ((t : Line) → Coded t (then t)) → Coded s (next w then)
  coded-then s (went t) then (a, b, f) k = coded-after s t a f (then t) (k t)
  coded-then s (failed n p t) then f k = f

  -- the code that began at s ends at a, in the data
  module _ (s : Line) (a : ℕ) (ahead : s.at < a) (there : a ≤ length bs) (stays : s.at ≤ size → a ≤ size) where
    moved-pushes : (w : Went) → Each (Pushes R size start (moved_to a s)) (PushFails R size start (moved_to a s)) w → Coded s w
    moved-pushes (went t) (e, f) = (omega arith, omega arith, λ spare w. f spare (sound-moved R size start s a ahead stays w))
    moved-pushes (failed n p t) (x, y, e, f) = (x, y, λ spare w. f spare (sound-moved R size start s a ahead stays w))

    -- then a count, or a count with its turn
    push-coded : (place count : ℕ) → Coded s (push R place count (moved_to a s))
    push-coded place count = moved-pushes (push R place count (moved_to a s)) (push-pushes R size start place count (moved_to a s))

    push_turn-coded : (place count : ℕ) → Coded s (push_turn R place count (moved_to a s))
    push_turn-coded place count =
        moved-pushes (push_turn R place count (moved_to a s))
        (turned-pushes R size start (moved_to a s) (push R place count (moved_to a s)) (push-pushes R size start place count (moved_to a s)))

  push_run-coded : (s : Line) → Coded s (push_run R bs s)
  unfolding push_run
  push_run-coded s = cases (read_run s.colour bs s.at) refl (read-within s.colour bs s.at)
    where
      cases : (r : Res Sum) → read_run s.colour bs s.at ≡ r → Within bs (sum s.at 0) r → Coded s (after_run R s r)
      cases (ok r) e w = push_turn-coded s r.at w.0 w.1 (bound.run-stays s.colour s.at r e) s.at r.total
      cases (fault n p) e w = (omega arith, omega arith, λ spare k. k)

  module _ (reference : List ℕ) where
    -- the mode code began at s, and ends at a
    module _ (s : Line) (a : ℕ) (ahead : s.at < a) (there : a ≤ length bs) (stays : s.at ≤ size → a ≤ size) where
      over : (place : ℕ) → Coded s (failed 3 place (moved_to a s))
      over place = (omega arith, omega arith, keeps-moved R size start s a ahead stays)

      vertical-coded : (place a1 : ℕ) → Coded s (vertical R reference place a1 (moved_to a s))
      unfolding vertical
      vertical-coded place a1 = tests (leb a1 4294967295 && leb s.position a1)
        where
          tests : (b : Bool) → Coded s (cond b (push_turn R place (a1 - s.position) (moved_to a s)) (failed 3 place (moved_to a s)))
          tests true = push_turn-coded s a ahead there stays place (a1 - s.position)
          tests false = over place

      apply-coded : (place : ℕ) (mode : Mode) → Coded s (apply R reference bs place mode (moved_to a s))
      unfolding apply
      apply-coded place pass = push-coded s a ahead there stays place (b2 R.width reference s.position s.colour - s.position)
      apply-coded place horizontal =
          coded-after s (moved_to a s) ahead (keeps-moved R size start s a ahead stays) (next (push_run R bs (moved_to a s)) (push_run R bs))
          (coded-then (moved_to a s) (push_run R bs (moved_to a s)) (push_run R bs) (push_run-coded (moved_to a s)) push_run-coded)
      apply-coded place (VR k) = vertical-coded place (b1 R.width reference s.position s.colour + k)
      apply-coded place (VL k) = tests (leb k (b1 R.width reference s.position s.colour))
        where
          tests : (b : Bool) → Coded s (cond b (vertical R reference place (b1 R.width reference s.position s.colour - k) (moved_to a s)) (failed 3 place (moved_to a s)))
          tests true = vertical-coded place (b1 R.width reference s.position s.colour - k)
          tests false = over place

    code_2d-coded : (s : Line) → Coded s (code_2d R reference bs s)
    unfolding code_2d
    code_2d-coded s = cases (read_mode bs s.at) refl (mode_is_at bs s.at)
      where
        cases : (r : Res Moded) → read_mode bs s.at ≡ r → ModeAt bs s.at r → Coded s (after_mode R reference bs s r)
        cases (ok r) e w =
            unless-idle R r.mode s (Coded s) (omega arith, omega arith, λ spare k. k) (apply R reference bs s.at r.mode (moved_to r.at s))
            (apply-coded s r.at w.some_bits w.fits (bound.mode-stays s.at r e) s.at r.mode)
        cases (fault n p) e w = (omega arith, omega arith, λ spare k. k)

  -- every code, of either kind of line
  pub code-coded : (k : Kind) (s : Line) → Coded s (code_of R k bs s)
  code-coded one s = push_run-coded s
  code-coded (two reference) s = code_2d-coded reference s

-- ---- The steps of a line

-- a code that is read takes a bit at least, and lies in the data
abbrev pub Moves : List Bool → (Line → Went) → Type 0
Moves bs code = (s t : Line) → code s ≡ went t → (s.at < t.at) × (t.at ≤ length bs)

pub moves : (R : Rules) (k : Kind) (bs : List Bool) → Moves bs (code_of R k bs)
moves R k bs s t e = let c = subst (Coded R bs (length bs) (data-bound bs) 0 s) e (code-coded R bs (length bs) (data-bound bs) 0 k s) in (c.0, c.1)

-- what one step does, by cases
pub line-cases : (width : ℕ) (code : Line → Went) (s : Line) (C : Out Line Went → Type 0)
    → (s.position ≡ width → C (done (went s)))
    → ((s.position ≡ width → ⊥) → (t : Line) → code s ≡ went t → C (more t))
    → ((s.position ≡ width → ⊥) → (n p : ℕ) (t : Line) → code s ≡ failed n p t → C (done (failed n p t)))
    → C (line_step width code s)
unfolding line_step
line-cases width code s C whole goes fails = tests (eqb s.position width) (eqb-true s.position width) (eqb-false s.position width) (code s) refl
  where
    tests : (b : Bool) → (b ≡ true → s.position ≡ width) → (b ≡ false → s.position ≡ width → ⊥) → (r : Went) → code s ≡ r → C (cond b (done (went s)) (go_on r))
    tests true h k r q = whole (h refl)
    tests false h k (went t) q = goes (k refl) t q
    tests false h k (failed n p t) q = fails (k refl) n p t q

module _ (width : ℕ) (code : Line → Went) (bs : List Bool) (m : Moves bs code) where
  pub line-falls : Falls (line_step width code) (λ t. length bs - t.at)
  line-falls s t =
      line-cases width code s (λ o. o ≡ more t → length bs - t.at < length bs - s.at)
      (λ h e. absurd (let z : ◌≡◌ {A = ℕ} 0 1 = cc in omega arith))
      (λ h u q e. let p : u ≡ t = cc in omega (arith, m s t (q ∙ ap (λ (x : Line). went x) p)))
      (λ h n p u q e. absurd (let z : ◌≡◌ {A = ℕ} 0 1 = cc in omega arith))

  pub line-more : (s t : Line) → (s.position ≡ width → ⊥) → code s ≡ went t → line_end width code bs s ≡ line_end width code bs t
  unfolding line_end line_step
  line-more s t h e = ap line_of (ends_more (line_step width code) _ line-falls s t (rw (ne_eqb _ _ h, e)))

  pub line-failed : (s t : Line) (n p : ℕ) → (s.position ≡ width → ⊥) → code s ≡ failed n p t → line_end width code bs s ≡ failed n p t
  unfolding line_end line_step
  line-failed s t n p h e = ap line_of (ends-done (line_step width code) _ line-falls s (failed n p t) (rw (ne_eqb _ _ h, e)))

  pub line-done : (s : Line) → s.position ≡ width → line_end width code bs s ≡ went s
  unfolding line_end line_step
  line-done s h = ap line_of (ends-done (line_step width code) _ line-falls s (went s) (rw (eq-eqb _ _ h)))

-- ---- A whole line

module _ (R : Rules) (k : Kind) (bs : List Bool) (size : ℕ) (bound : Bound bs size) (start : ℕ) where
  -- a line at its width, further on in the data than s unless s was there; or a failure of 1 to 4; sound if s was
  unfoldable pub Ends : Line → Went → Type 0
  Ends s (went t) =
      (t.position ≡ R.width)
      × (s.at ≤ length bs → t.at ≤ length bs)
      × ((s.position ≡ R.width → ⊥) → (s.at < t.at) × (t.at ≤ length bs))
      × (s.at ≤ t.at)
      × ((spare : ℕ) → Sound R size start spare s → Sound R size start spare t)
  Ends s (failed n p t) = (1 ≤ n) × (n ≤ 4) × ((spare : ℕ) → Sound R size start spare s → Sound R size start spare t)

  line-ends : (s : Line) (r : Went) → ends (line_step R.width (code_of R k bs)) (λ t. length bs - t.at) s ≡ done r → Ends s r
  unfolding Ends
  line-ends s r e = ends-ind (line_step R.width (code_of R k bs)) Ends base goes (λ t. length bs - t.at) s r e
    where
      coded : (s : Line) (r : Went) → code_of R k bs s ≡ r → Coded R bs size bound start s r
      coded s r e = subst (Coded R bs size bound start s) e (code-coded R bs size bound start k s)

      base : (s : Line) (r : Went) → line_step R.width (code_of R k bs) s ≡ done r → Ends s r
      base s r =
          line-cases R.width (code_of R k bs) s (λ o. o ≡ done r → Ends s r)
          (λ h e. subst (Ends s) (let q : went s ≡ r = cc in q) (h, (λ l. l), (λ n. absurd (n h)), omega arith, λ spare w. w))
          (λ h t q e. absurd (let z : ◌≡◌ {A = ℕ} 0 1 = cc in omega arith))
          (λ h n p t q e. subst (Ends s) (let g : failed n p t ≡ r = cc in g) (coded s (failed n p t) q))

      further : (s t : Line) → Coded R bs size bound start s (went t) → (r : Went) → Ends t r → Ends s r
      further s t (a, b, f) (went u) (x, y, z, v, g) = (x, (λ l. y b), (λ n. (omega arith, y b)), omega arith, λ spare w. g spare (f spare w))
      further s t (a, b, f) (failed n p u) (x, y, g) = (x, y, λ spare w. g spare (f spare w))

      goes : (s t : Line) (r : Went) → line_step R.width (code_of R k bs) s ≡ more t → Ends t r → Ends s r
      goes s t r =
          line-cases R.width (code_of R k bs) s (λ o. o ≡ more t → Ends t r → Ends s r)
          (λ h e. absurd (let z : ◌≡◌ {A = ℕ} 0 1 = cc in omega arith))
          (λ h u q e. let g : u ≡ t = cc in further s t (coded s (went t) (q ∙ ap (λ (x : Line). went x) g)) r)
          (λ h n p u q e. absurd (let z : ◌≡◌ {A = ℕ} 0 1 = cc in omega arith))

  pub line-end : (s : Line) → Ends s (line_end R.width (code_of R k bs) bs s)
  unfolding line_end
  line-end s =
      let p = ends-stops (line_step R.width (code_of R k bs)) (λ u. length bs - u.at) (line-falls R.width (code_of R k bs) bs (moves R k bs)) s in
      rw p.1 (line-ends s p.0 p.1)

-- a line that is read whole, from `start` on
pub record Whole (R : Rules) (bs : List Bool) (start : ℕ) (t : Line) : Type 0 where
  pub full : t.position ≡ R.width
  pub some_bits : start < t.at
  pub inside : t.at ≤ length bs
  pub rising : Rising R.width 0 t.changes
  pub few : start + length t.changes ≤ t.at
  pub roomy : length t.changes ≤ R.room

-- a line that fails, with 1 to 4; its codes stand no further than bit `size`
pub record Broken (R : Rules) (size start n : ℕ) (t : Line) : Type 0 where
  pub numbered : (1 ≤ n) × (n ≤ 4)
  pub line : Sound R size start 0 t

module _ (R : Rules) (wide : 0 < R.width) (k : Kind) (bs : List Bool) (start : ℕ) where
  new-ends : (size : ℕ) (bound : Bound bs size) → Ends R k bs size bound start (new_line start) (read_line R k bs start)
  unfolding read_line
  new-ends size bound = line-end R k bs size bound start (new_line start)

  pub read_whole : (t : Line) → read_line R k bs start ≡ went t → Whole R bs start t
  unfolding Ends
  read_whole t e =
      let f = subst (Ends R k bs (length bs) (data-bound bs) start (new_line start)) e (new-ends (length bs) (data-bound bs)) in
      let g = f.2 (λ q. omega arith) in
      let w = f.4 0 (sound-new R (length bs) start (omega arith)) in
      record {
        full = f.0;
        some_bits = g.0;
        inside = g.1;
        rising = subst (λ (n : ℕ). Rising n 0 t.changes) f.0 w.rising;
        few = omega (arith, w.few);
        roomy = w.roomy;
      }

  pub read-broken : (size : ℕ) → Bound bs size → start ≤ size → (n p : ℕ) (t : Line) → read_line R k bs start ≡ failed n p t → Broken R size start n t
  unfolding Ends
  read-broken size bound inside' n p t e =
      let f = subst (Ends R k bs size bound start (new_line start)) e (new-ends size bound) in
      record { numbered = (f.0, f.1); line = f.2 0 (sound-new R size start inside') }
