-- A line that fails where eleven zeros follow: over other bits that agree with these up to their end it fails too, with the same pixels so far. For no code that is read reaches further than
-- the third of them (Barrier), in either data, so that what is read of one is read of the other. Assumes nothing.
use mathlib.Core.Path.{◌≡◌, refl, sym, ap, ◌∙◌, subst}
use mathlib.Core.Bool.{Bool, true, false, cond, ◌&&◌}
use mathlib.Core.List.{List, ◌++◌}
use Prim.Native.Nat.{ℕ, ◌+◌, ◌-◌, ◌≤◌}
use native.Mathlib.Omega.{arith}
use lib.Dec.{leb}
use lib.ListN.{length, drop, replicate, length-replicate}
use Rattle.rules.specs.Machine.{more, done, ends}
use Rattle.rules.specs.Runs.{Res, ok, fault, Sum, sum, read_run}
use Rattle.rules.specs.Modes.{Mode, pass, horizontal, VR, VL, Moded, read_mode}
use Rattle.rules.specs.Lines.{Rules, Line, new_line, moved_to, Went, went, failed, next, push, push_turn, after_run, push_run, b1, b2, vertical, idle, unless_idle, apply, after_mode, code_2d, Kind, one, two, code_of, line_of, line_step, line_end, read_line}
use Rattle.rules.proofs.Machine.{ends-ind, ends-stops}
use Rattle.rules.proofs.Agree.{Agree, agree_less, agree-word}
use Rattle.rules.proofs.Runs.{Within, read-within, read_same}
use Rattle.rules.proofs.Modes.{ModeAt, mode_is_at, mode-same}
use Rattle.rules.proofs.Lines.{Bound, moves, line-cases, line-falls, line-more, line-done, line-failed}
use Rattle.rules.proofs.Barrier.{zeros-bound}
use Rattle.rules.proofs.Local.{push_at, turn_at}

agree-sym : {n : ℕ} {bs cs : List Bool} → Agree n bs cs → Agree n cs bs
agree-sym a = record { same = sym a.same; long = a.long'; long' = a.long }

module _ (R : Rules) (bs cs : List Bool) (z : ℕ) (rest : List Bool) (zeros : drop z bs ≡ replicate 11 false ++ rest) (agree : Agree (z + 11) bs cs) where
  bound : Bound bs (z + 3)
  bound = zeros-bound bs z rest zeros

  bound' : Bound cs (z + 3)
  bound' = zeros-bound cs z _ (agree-word agree z (replicate 11 false) rest (omega (arith, length-replicate 11 false)) zeros)

  upto : (n : ℕ) → n ≤ z + 3 → Agree n bs cs
  upto n h = agree_less n (omega arith) agree

  -- the same line; or a failure after the same line so far
  abbrev pub Like : Went → Went → Type 0
  Like (went t) w = (t.at ≤ z + 3) × (w ≡ went t)
  Like (failed n p u) w = (m : ℕ) × (q : ℕ) × (w ≡ failed m q u) × (n ≤ 3 → m ≤ 3)

  like-self : (w : Went) → ((t : Line) → w ≡ went t → t.at ≤ z + 3) → Like w w
  like-self (went t) h = (h t refl, refl)
  like-self (failed n p u) h = (n, p, refl, λ k. k)

  -- ---- One code

  push_run-like : (s : Line) → s.at ≤ z + 3 → Like (push_run R bs s) (push_run R cs s)
  unfolding push_run
  push_run-like s h = cases (read_run s.colour bs s.at) refl (read_run s.colour cs s.at) refl (read-within s.colour cs s.at)
    where
      cases : (r : Res Sum) → read_run s.colour bs s.at ≡ r → (q : Res Sum) → read_run s.colour cs s.at ≡ q → Within cs (sum s.at 0) q → Like (after_run R s r) (after_run R s q)
      cases (ok r) e q f w =
          let k = bound.run-stays s.colour s.at r e h in
          subst (λ (x : Res Sum). Like (after_run R s (ok r)) (after_run R s x)) (sym (read_same s.colour bs cs s.at r e (upto r.at k)) ∙ f)
          (like-self (after_run R s (ok r)) (λ t g. omega (arith, turn_at R bs cs s.at r.total (moved_to r.at s) t g)))
      cases (fault n p) e (ok r) f w =
          let k = bound'.run-stays s.colour s.at r f h in
          let g = read_same s.colour cs bs s.at r f (agree-sym (upto r.at k)) in
          absurd (let y : ◌≡◌ {A = ℕ} 0 1 = cc in omega arith)
      cases (fault n p) e (fault m q) f w = (m, q, refl, λ k. w.2)

  two-runs-like : (s : Line) → s.at ≤ z + 3 → Like (next (push_run R bs s) (push_run R bs)) (next (push_run R cs s) (push_run R cs))
  two-runs-like s h = cases (push_run R bs s) (push_run R cs s) (push_run-like s h)
    where
      cases : (v w : Went) → Like v w → Like (next v (push_run R bs)) (next w (push_run R cs))
      cases (went t) w (k, e) = subst (λ (x : Went). Like (push_run R bs t) (next x (push_run R cs))) (sym e) (push_run-like t k)
      cases (failed n p u) w (m, q, e, k) = (m, q, ap (λ (x : Went). next x (push_run R cs)) e, k)

  module _ (reference : List ℕ) where
    vertical-at : (place a1 : ℕ) (s t : Line) → vertical R reference place a1 s ≡ went t → t.at ≡ s.at
    unfolding vertical
    vertical-at place a1 s t = tests (leb a1 4294967295 && leb s.position a1)
      where
        tests : (b : Bool) → cond b (push_turn R place (a1 - s.position) s) (failed 3 place s) ≡ went t → t.at ≡ s.at
        tests true e = turn_at R bs cs place (a1 - s.position) s t e
        tests false e = absurd (let y : ◌≡◌ {A = ℕ} 0 1 = cc in omega arith)

    apply-like : (place : ℕ) (mode : Mode) (s : Line) → s.at ≤ z + 3 → Like (apply R reference bs place mode s) (apply R reference cs place mode s)
    unfolding apply
    apply-like place pass s h = like-self (push R place (b2 R.width reference s.position s.colour - s.position) s) (λ t e. omega (arith, push_at R bs cs place _ s t e))
    apply-like place horizontal s h = two-runs-like s h
    apply-like place (VR k) s h = like-self (vertical R reference place (b1 R.width reference s.position s.colour + k) s) (λ t e. omega (arith, vertical-at place _ s t e))
    apply-like place (VL k) s h = tests (leb k (b1 R.width reference s.position s.colour))
      where
        w : Went
        w = vertical R reference place (b1 R.width reference s.position s.colour - k) s

        tests : (b : Bool) → Like (cond b w (failed 3 place s)) (cond b w (failed 3 place s))
        tests true = like-self w (λ t e. omega (arith, vertical-at place _ s t e))
        tests false = like-self (failed 3 place s) (λ t e. absurd (let y : ◌≡◌ {A = ℕ} 0 1 = cc in omega arith))

    idle-like : (mode : Mode) (s : Line) (v w : Went) → Like v w → Like (unless_idle R mode s v) (unless_idle R mode s w)
    idle-like mode s (went t) w (h, e) = subst (λ (x : Went). Like (unless_idle R mode s (went t)) (unless_idle R mode s x)) (sym e) (tests (R.exact && idle mode s t))
      where
        tests : (b : Bool) → Like (cond b (failed 1 s.at s) (went t)) (cond b (failed 1 s.at s) (went t))
        tests true = (1, s.at, refl, λ k. omega arith)
        tests false = (h, refl)
    idle-like mode s (failed n p u) w (m, q, e, k) = (m, q, ap (unless_idle R mode s) e, k)

    code_2d-like : (s : Line) → s.at ≤ z + 3 → Like (code_2d R reference bs s) (code_2d R reference cs s)
    unfolding code_2d
    code_2d-like s h = cases (read_mode bs s.at) refl (read_mode cs s.at) refl (mode_is_at cs s.at)
      where
        cases : (r : Res Moded) → read_mode bs s.at ≡ r → (q : Res Moded) → read_mode cs s.at ≡ q → ModeAt cs s.at q → Like (after_mode R reference bs s r) (after_mode R reference cs s q)
        cases (ok r) e q f w =
            let k = bound.mode-stays s.at r e h in
            subst (λ (x : Res Moded). Like (after_mode R reference bs s (ok r)) (after_mode R reference cs s x)) (sym (mode-same bs cs s.at r e (upto r.at k)) ∙ f)
            (idle-like r.mode s (apply R reference bs s.at r.mode (moved_to r.at s)) (apply R reference cs s.at r.mode (moved_to r.at s)) (apply-like s.at r.mode (moved_to r.at s) k))
        cases (fault n p) e (ok r) f w =
            let k = bound'.mode-stays s.at r f h in
            let g = mode-same cs bs s.at r f (agree-sym (upto r.at k)) in
            absurd (let y : ◌≡◌ {A = ℕ} 0 1 = cc in omega arith)
        cases (fault n p) e (fault m q) f w = (m, q, refl, λ k. omega (arith, w.2))

  code-like : (k : Kind) (s : Line) → s.at ≤ z + 3 → Like (code_of R k bs s) (code_of R k cs s)
  code-like one s = push_run-like s
  code-like (two reference) s = code_2d-like reference s

  -- ---- The line

  module _ (k : Kind) where
    abbrev end-in : Line → Went
    end-in s = line_end R.width (code_of R k cs) cs s

    abbrev LikeFrom : Line → Went → Type 0
    LikeFrom s r = s.at ≤ z + 3 → Like r (end-in s)

    line-like : (s : Line) (r : Went) → ends (line_step R.width (code_of R k bs)) (λ t. length bs - t.at) s ≡ done r → LikeFrom s r
    line-like s r e = ends-ind (line_step R.width (code_of R k bs)) LikeFrom base goes (λ t. length bs - t.at) s r e
      where
        fails : (s : Line) → (s.position ≡ R.width → ⊥) → (n p : ℕ) (t : Line) → Like (failed n p t) (code_of R k cs s) → Like (failed n p t) (end-in s)
        fails s h n p t (m, q, e, l) = (m, q, line-failed R.width (code_of R k cs) cs (moves R k cs) s t m q h e, l)

        base : (s : Line) (r : Went) → line_step R.width (code_of R k bs) s ≡ done r → LikeFrom s r
        base s r =
            line-cases R.width (code_of R k bs) s (λ o. o ≡ done r → LikeFrom s r)
            (λ h e. subst (LikeFrom s) (let q : went s ≡ r = cc in q) (λ a. (a, line-done R.width (code_of R k cs) cs (moves R k cs) s h)))
            (λ h t q e. absurd (let y : ◌≡◌ {A = ℕ} 0 1 = cc in omega arith))
            (λ h n p t q e. subst (LikeFrom s) (let g : failed n p t ≡ r = cc in g) (λ a. fails s h n p t (subst (λ (w : Went). Like w (code_of R k cs s)) q (code-like k s a))))

        goes : (s t : Line) (r : Went) → line_step R.width (code_of R k bs) s ≡ more t → LikeFrom t r → LikeFrom s r
        goes s t r =
            line-cases R.width (code_of R k bs) s (λ o. o ≡ more t → LikeFrom t r → LikeFrom s r)
            (λ h e. absurd (let y : ◌≡◌ {A = ℕ} 0 1 = cc in omega arith))
            (λ h u q e f a.
            let g : u ≡ t = cc in
            let l : Like (went t) (code_of R k cs s) = subst (λ (w : Went). Like w (code_of R k cs s)) (q ∙ ap (λ (x : Line). went x) g) (code-like k s a) in
            subst (Like r) (sym (line-more R.width (code_of R k cs) cs (moves R k cs) s t h l.1)) (f l.0))
            (λ h n p u q e. absurd (let y : ◌≡◌ {A = ℕ} 0 1 = cc in omega arith))

    -- a line that begins no later than the third of the zeros
    pub read-like : (start : ℕ) → start ≤ z + 3 → Like (read_line R k bs start) (read_line R k cs start)
    unfolding read_line line_end
    read-like start h =
        let p = ends-stops (line_step R.width (code_of R k bs)) (λ u. length bs - u.at) (line-falls R.width (code_of R k bs) bs (moves R k bs)) (new_line start) in
        subst (λ (w : Went). Like w (end-in (new_line start))) (ap line_of (sym p.1)) (line-like (new_line start) p.0 p.1 h)
