-- Laws of modes: the standard's table and 01's count of leading zeros say the same; a mode's bits followed by anything are read as that mode; a mode
-- that is read depends only on the bits it takes. Assumes nothing.
use mathlib.Core.Path.{◌≡◌, refl, sym, ap, ◌∙◌, subst}
use mathlib.Core.Bool.{Bool, true, false, cond}
use mathlib.Core.List.{List, [], ◌∷◌, ◌++◌}
use Prim.Native.Nat.{ℕ, zero, suc, ◌+◌, ◌≤◌, ◌<◌}
use native.Mathlib.Omega.{arith}
use lib.Dec.{leb, T}
use lib.ListN.{length, drop, length-drop}
use lib.Seq.{drop-drop}
use borrow.Author.Tests.{leb-true, le-leb}
use Rattle.rules.specs.Bits.{window, leading_zeros}
use Rattle.rules.specs.Lookup.{begins}
use Rattle.rules.specs.Runs.{Res, ok, fault}
use Rattle.rules.specs.Modes.{Mode, pass, horizontal, VR, VL, mode_bits, modes, ModeIn, known, unknown, mode_among, mode_by_table, mode_for, mode_by_zeros, Moded, moded, mode_take, read_mode}
use Rattle.rules.proofs.Bits.{fits_after}
use Rattle.rules.proofs.Codes.{holds_one, spread, soon}
use Rattle.rules.proofs.Lookup.{begins-window}
use Rattle.rules.proofs.Agree.{Agree, agree-word}

-- ---- The two definitions agree

-- by the first seven bits, zeros past the end
pub modes-agree : (bs : List Bool) → mode_by_table bs ≡ mode_by_zeros bs
unfolding mode_by_table mode_by_zeros mode_among modes mode_bits begins window leading_zeros mode_for
modes-agree [] = refl
modes-agree (true ∷ bs) = refl
modes-agree (false ∷ []) = refl
modes-agree (false ∷ true ∷ []) = refl
modes-agree (false ∷ true ∷ true ∷ bs) = refl
modes-agree (false ∷ true ∷ false ∷ bs) = refl
modes-agree (false ∷ false ∷ []) = refl
modes-agree (false ∷ false ∷ true ∷ bs) = refl
modes-agree (false ∷ false ∷ false ∷ []) = refl
modes-agree (false ∷ false ∷ false ∷ true ∷ bs) = refl
modes-agree (false ∷ false ∷ false ∷ false ∷ []) = refl
modes-agree (false ∷ false ∷ false ∷ false ∷ true ∷ []) = refl
modes-agree (false ∷ false ∷ false ∷ false ∷ true ∷ true ∷ bs) = refl
modes-agree (false ∷ false ∷ false ∷ false ∷ true ∷ false ∷ bs) = refl
modes-agree (false ∷ false ∷ false ∷ false ∷ false ∷ []) = refl
modes-agree (false ∷ false ∷ false ∷ false ∷ false ∷ true ∷ []) = refl
modes-agree (false ∷ false ∷ false ∷ false ∷ false ∷ true ∷ true ∷ bs) = refl
modes-agree (false ∷ false ∷ false ∷ false ∷ false ∷ true ∷ false ∷ bs) = refl
modes-agree (false ∷ false ∷ false ∷ false ∷ false ∷ false ∷ []) = refl
modes-agree (false ∷ false ∷ false ∷ false ∷ false ∷ false ∷ true ∷ bs) = refl
modes-agree (false ∷ false ∷ false ∷ false ∷ false ∷ false ∷ false ∷ bs) = refl

-- ---- A mode's bits

-- the modes that have a code
pub data Coded : Mode → Type 0 where
  c-pass : Coded pass
  c-horizontal : Coded horizontal
  c-right : {k : ℕ} → k ≤ 3 → Coded (VR k)
  c-left : {k : ℕ} → k < 3 → Coded (VL (suc k))

-- what holds of each of them holds of a coded mode
coded-cases : (C : Mode → Type 0) → C pass → C horizontal → C (VR 0) → C (VR 1) → C (VR 2) → C (VR 3) → C (VL 1) → C (VL 2) → C (VL 3) → (m : Mode) → Coded m → C m
coded-cases C p h v0 r1 r2 r3 l1 l2 l3 m c-pass = p
coded-cases C p h v0 r1 r2 r3 l1 l2 l3 m c-horizontal = h
coded-cases C p h v0 r1 r2 r3 l1 l2 l3 m (c-right {k = zero} q) = v0
coded-cases C p h v0 r1 r2 r3 l1 l2 l3 m (c-right {k = suc zero} q) = r1
coded-cases C p h v0 r1 r2 r3 l1 l2 l3 m (c-right {k = suc (suc zero)} q) = r2
coded-cases C p h v0 r1 r2 r3 l1 l2 l3 m (c-right {k = suc (suc (suc zero))} q) = r3
coded-cases C p h v0 r1 r2 r3 l1 l2 l3 m (c-right {k = suc (suc (suc (suc k)))} q) = absurd (omega arith)
coded-cases C p h v0 r1 r2 r3 l1 l2 l3 m (c-left {k = zero} q) = l1
coded-cases C p h v0 r1 r2 r3 l1 l2 l3 m (c-left {k = suc zero} q) = l2
coded-cases C p h v0 r1 r2 r3 l1 l2 l3 m (c-left {k = suc (suc zero)} q) = l3
coded-cases C p h v0 r1 r2 r3 l1 l2 l3 m (c-left {k = suc (suc (suc k))} q) = absurd (omega arith)

coded_in : (rest : List Bool) (m : Mode) → Coded m → mode_by_table (mode_bits m ++ rest) ≡ known m (length (mode_bits m))
unfolding mode_by_table mode_among modes mode_bits begins window
coded_in rest m c = coded-cases (λ m. mode_by_table (mode_bits m ++ rest) ≡ known m (length (mode_bits m))) refl refl refl refl refl refl refl refl refl m c

coded-length : (m : Mode) → Coded m → (1 ≤ length (mode_bits m)) × (length (mode_bits m) ≤ 7)
unfolding mode_bits
coded-length m c = coded-cases (λ m. (1 ≤ length (mode_bits m)) × (length (mode_bits m) ≤ 7)) (omega arith) (omega arith) (omega arith) (omega arith) (omega arith) (omega arith) (omega arith) (omega arith) (omega arith) m c

-- a one comes soon in each
pub coded-soon : (m : Mode) → Coded m → T (soon (mode_bits m))
unfolding mode_bits soon spread holds_one
coded-soon m c = coded-cases (λ m. T (soon (mode_bits m))) tt tt tt tt tt tt tt tt tt m c

-- a mode's bits, whatever follows
pub read-mode : (m : Mode) (bs rest : List Bool) (at : ℕ) → Coded m → drop at bs ≡ mode_bits m ++ rest → read_mode bs at ≡ ok (moded (at + length (mode_bits m)) m)
unfolding read_mode mode_take
read-mode m bs rest at c e = rw (e, coded_in rest m c, le-leb _ _ (fits_after bs (mode_bits m) rest at e (coded-length m c).0))

-- ---- A mode that is read

-- its code stands at the bit
pub record Modes (bs : List Bool) (at : ℕ) (r : Moded) : Type 0 where
  pub coded : Coded r.mode
  pub there : drop at bs ≡ mode_bits r.mode ++ drop r.at bs
  pub next : r.at ≡ at + length (mode_bits r.mode)
  pub fits : r.at ≤ length bs
  pub some_bits : at < r.at

-- a mode is read, or the fault is 1 or 2, at the bit
abbrev pub ModeAt : List Bool → ℕ → Res Moded → Type 0
ModeAt bs at (ok r) = Modes bs at r
ModeAt bs at (fault n p) = (p ≡ at) × (1 ≤ n) × (n ≤ 2)

-- what is found in a window is a coded mode whose bits begin it
data InWindow (bs : List Bool) : ModeIn → Type 0 where
  is_known : {m : Mode} → Coded m → T (begins (mode_bits m) (window 7 bs)) → InWindow bs (known m (length (mode_bits m)))
  is-unknown : InWindow bs unknown

true-T : {b : Bool} → b ≡ true → T b
true-T e = subst T (sym e) tt

among_one : (bs : List Bool) (m : Mode) → Coded m → (ms : List Mode) → InWindow bs (mode_among ms (window 7 bs)) → InWindow bs (mode_among (m ∷ ms) (window 7 bs))
unfolding mode_among
among_one bs m c ms ih = cases (begins (mode_bits m) (window 7 bs)) refl
  where
    cases : (b : Bool) → begins (mode_bits m) (window 7 bs) ≡ b → InWindow bs (elim b as (λ _. ModeIn) [ true ↦ known m (length (mode_bits m)) | false ↦ mode_among ms (window 7 bs) ])
    cases true e = is_known c (true-T e)
    cases false e = ih

among_none : (bs : List Bool) → InWindow bs (mode_among [] (window 7 bs))
unfolding mode_among
among_none bs = is-unknown

in_window : (bs : List Bool) → InWindow bs (mode_by_table bs)
unfolding mode_by_table modes
in_window bs =
    among_one bs pass c-pass _
    (among_one bs horizontal c-horizontal _
    (among_one bs (VR 0) (c-right (omega arith)) _
    (among_one bs (VR 1) (c-right (omega arith)) _
    (among_one bs (VR 2) (c-right (omega arith)) _
    (among_one bs (VR 3) (c-right (omega arith)) _
    (among_one bs (VL 1) (c-left (omega arith)) _
    (among_one bs (VL 2) (c-left (omega arith)) _
    (among_one bs (VL 3) (c-left (omega arith)) [] (among_none bs)))))))))

module _ (bs : List Bool) (at : ℕ) where
  mode-taken : {i : ModeIn} → InWindow (drop at bs) i → ModeAt bs at (mode_take (length bs) at i)
  unfolding mode_take
  mode-taken (is_known {m = m} c b) = tests (leb (at + length (mode_bits m)) (length bs)) (leb-true _ _)
    where
      L : ℕ
      L = length (mode_bits m)

      tests : (t : Bool) → (t ≡ true → at + L ≤ length bs) → ModeAt bs at (cond t (ok (moded (at + L) m)) (fault 2 at))
      tests true h =
          let k = h refl in
          record {
            coded = c;
            there = begins-window (mode_bits m) 7 (drop at bs) b (omega (arith, length-drop at bs)) ∙ ap (λ (l : List Bool). mode_bits m ++ l) (drop-drop L at bs);
            next = refl;
            fits = k;
            some_bits = omega (arith, (coded-length m c).0);
          }
      tests false h = (refl, omega arith, omega arith)
  mode-taken is-unknown = tests (leb (at + 6) (length bs))
    where
      tests : (t : Bool) → ModeAt bs at (fault (cond t 1 2) at)
      tests true = (refl, omega arith, omega arith)
      tests false = (refl, omega arith, omega arith)

  pub mode_is_at : ModeAt bs at (read_mode bs at)
  unfolding read_mode
  mode_is_at = mode-taken (in_window (drop at bs))

-- a mode that is read depends only on the bits it takes
pub mode-same : (bs cs : List Bool) (at : ℕ) (r : Moded) → read_mode bs at ≡ ok r → Agree r.at bs cs → read_mode cs at ≡ ok r
mode-same bs cs at r e a =
    read-mode r.mode cs _ at m.coded (agree-word a at (mode_bits r.mode) (drop r.at bs) (omega (arith, m.next)) m.there)
    ∙ ap (λ (x : Moded). ok x) (λ i. moded (sym m.next i) r.mode)
  where
    m : Modes bs at r
    m = subst (ModeAt bs at) e (mode_is_at bs at)
