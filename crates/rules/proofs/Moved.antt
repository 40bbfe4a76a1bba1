-- A 1D line that is read at a bit is read from the first bit on of the data from there: what stands before it does not matter. Assumes nothing.
use mathlib.Core.Path.{◌≡◌, refl, sym, ap, ◌∙◌, subst}
use mathlib.Core.Bool.{Bool, true, false, cond}
use mathlib.Core.List.{List, ◌++◌}
use Prim.Native.Nat.{ℕ, ◌+◌, ◌-◌, ◌≤◌}
use native.Mathlib.Omega.{arith}
use lib.Dec.{eqb, leb}
use lib.ListN.{length, drop, length-drop}
use lib.Seq.{drop-drop}
use borrow.Author.Tests.{lt-ltb, le-ltb}
use Rattle.rules.specs.Machine.{more, done, ends}
use Rattle.rules.specs.Codes.{Colour, Code, code_bits}
use Rattle.rules.specs.Runs.{Res, ok, fault, Sum, sum, run_step, bits_after, answer, read_run}
use Rattle.rules.specs.Lines.{Rules, Line, line, new_line, turned, moved_to, Went, went, failed, next, recorded, add, push, push_turn, after_run, push_run, one, code_of, line_of, line_step, line_end, read_line}
use Rattle.rules.proofs.Machine.{ends_more, ends-done, ends-ind, ends-stops}
use Rattle.rules.proofs.Runs.{Takes, after, run-cases, step-code, run-falls}
use Rattle.rules.proofs.Lines.{moves, line-cases, line-falls, line-more, line-done}

module _ (bs : List Bool) (e : ℕ) where
  -- the data from a bit on
  abbrev cs : List Bool
  cs = drop e bs

  -- ---- A run

  abbrev back : Sum → Sum
  back s = sum (s.at - e) s.total

  takes_back : (colour : Colour) (s : Sum) (c : Code) → e ≤ s.at → Takes colour bs s c → Takes colour cs (back s) c
  takes_back colour s c h t = record {
    member = t.member;
    there =
        at_back (s.at - e) s.at (omega arith) ∙ t.there
        ∙ ap (λ (l : List Bool). code_bits c ++ l) (sym (at_back (s.at - e + c.size) (s.at + c.size) (omega arith)));
    fits = omega (arith, t.fits, length-drop e bs);
    small = t.small;
  }
    where
      at_back : (m n : ℕ) → e + m ≡ n → drop m (drop e bs) ≡ drop n bs
      at_back m n q = drop-drop m e bs ∙ ap (λ (i : ℕ). drop i bs) q

  module _ (colour : Colour) where
    -- the same steps lead to the same end
    Moved : Sum → Res Sum → Type 0
    Moved s (ok r) = e ≤ s.at → (e ≤ r.at) × (ends (run_step colour cs) (bits_after cs) (back s) ≡ done (ok (back r)))
    Moved s (fault n p) = Unit {0}

    after-back : (s : Sum) (c : Code) → e ≤ s.at → after (back s) c ≡ back (after s c)
    after-back s c h = ap (λ (n : ℕ). sum n (s.total + c.run)) (let q : s.at - e + c.size ≡ s.at + c.size - e = omega arith in q)

    run_moved : (s : Sum) (r : Res Sum) → ends (run_step colour bs) (bits_after bs) s ≡ done r → Moved s r
    unfolding Moved
    run_moved s r q = ends-ind (run_step colour bs) Moved base next' (bits_after bs) s r q
      where
        base : (s : Sum) (r : Res Sum) → run_step colour bs s ≡ done r → Moved s r
        base s r =
            run-cases colour bs s (λ o. o ≡ done r → Moved s r)
            (λ c k l q. subst (Moved s) (let y : ok (after s c) ≡ r = cc in y) (λ h. (
              omega arith,
              ends-done (run_step colour cs) (bits_after cs) (run-falls colour cs) (back s) _ (rw (lt-ltb c.run 64 l) at (step-code colour cs (back s) c (takes_back colour s c h k)))
                  ∙ ap (λ (x : Sum). done (ok x)) (after-back s c h),
            )))
            (λ c k l q. absurd (let z : ◌≡◌ {A = ℕ} 0 1 = cc in omega arith))
            (λ n i j q. subst (Moved s) (let y : fault n s.at ≡ r = cc in y) tt)

        along : (s t : Sum) (r : Res Sum) → (e ≤ s.at → (e ≤ t.at) × (run_step colour cs (back s) ≡ more (back t))) → Moved t r → Moved s r
        along s t (ok r) step f = λ h. let g = step h in ((f g.0).0, ends_more (run_step colour cs) (bits_after cs) (run-falls colour cs) (back s) (back t) g.1 ∙ (f g.0).1)
        along s t (fault n p) step f = tt

        next' : (s t : Sum) (r : Res Sum) → run_step colour bs s ≡ more t → Moved t r → Moved s r
        next' s t r =
            run-cases colour bs s (λ o. o ≡ more t → Moved t r → Moved s r)
            (λ c k l q. absurd (let z : ◌≡◌ {A = ℕ} 0 1 = cc in omega arith))
            (λ c k l q.
            let y : after s c ≡ t = cc in
            along s t r (λ h. (
              omega (arith, ap (λ (x : Sum). x.at) y),
              rw (le-ltb c.run 64 l) at (step-code colour cs (back s) c (takes_back colour s c h k)) ∙ ap (λ (x : Sum). more x) (after-back s c h ∙ ap back y),
            )))
            (λ n i j q. absurd (let z : ◌≡◌ {A = ℕ} 0 1 = cc in omega arith))

    read-moved : (at : ℕ) → e ≤ at → (r : Sum) → read_run colour bs at ≡ ok r → (e ≤ r.at) × (read_run colour cs (at - e) ≡ ok (back r))
    unfolding read_run Moved
    read-moved at h r q =
        let p = ends-stops (run_step colour bs) (bits_after bs) (run-falls colour bs) (sum at 0) in
        let y : p.0 ≡ ok r = sym (ap answer p.1) ∙ q in
        let m = subst (Moved (sum at 0)) y (run_moved (sum at 0) p.0 p.1) h in
        (m.0, ap answer m.1)

  -- ---- A line

  abbrev pub line_back : Line → Line
  line_back l = line (l.at - e) l.position l.colour l.changes l.cut

  module _ (R : Rules) where
    push-back : (place place' count : ℕ) (s t : Line) → push R place count s ≡ went t → (t.at ≡ s.at) × (push R place' count (line_back s) ≡ went (line_back t))
    unfolding push add recorded
    push-back place place' count s t =
        tests (leb count (R.width - s.position)) R.strict (eqb count 0) (eqb (R.width - s.position) 0) (leb (length (recorded s)) R.room)
      where
        added : ℕ → Bool → Bool → Line → Went
        added n zero? room? u = cond zero? (went u) (cond room? (went (line u.at (u.position + n) u.colour (recorded s) u.cut)) (failed 4 0 u))

        cut_line : Line
        cut_line = line s.at s.position s.colour s.changes true

        one_way : (n : ℕ) (zero? room? : Bool) (u : Line) → u.at ≡ s.at → added n zero? room? u ≡ went t → (t.at ≡ s.at) × (added n zero? room? (line_back u) ≡ went (line_back t))
        one_way n true room? u h q = let y : u ≡ t = cc in (sym (ap (λ (x : Line). x.at) y) ∙ h, ap (λ (x : Line). went (line_back x)) y)
        one_way n false true u h q =
            let y : line u.at (u.position + n) u.colour (recorded s) u.cut ≡ t = cc in (sym (ap (λ (x : Line). x.at) y) ∙ h, ap (λ (x : Line). went (line_back x)) y)
        one_way n false false u h q = absurd (let z : ◌≡◌ {A = ℕ} 0 1 = cc in omega arith)

        tests : (fits strict zero? none? room? : Bool)
            → cond fits (added count zero? room? s) (cond strict (failed 1 place s) (added (R.width - s.position) none? room? cut_line)) ≡ went t
            → (t.at ≡ s.at)
            × (cond fits (added count zero? room? (line_back s)) (cond strict (failed 1 place' (line_back s)) (added (R.width - s.position) none? room? (line_back cut_line))) ≡ went (line_back t))
        tests true strict zero? none? room? q = one_way count zero? room? s refl q
        tests false true zero? none? room? q = absurd (let z : ◌≡◌ {A = ℕ} 0 1 = cc in omega arith)
        tests false false zero? none? room? q = one_way (R.width - s.position) none? room? cut_line refl q

    turn-back : (place place' count : ℕ) (s t : Line) → push_turn R place count s ≡ went t → (t.at ≡ s.at) × (push_turn R place' count (line_back s) ≡ went (line_back t))
    turn-back place place' count s t = cases (push R place count s) refl
      where
        cases : (w : Went) → push R place count s ≡ w → (next w λ u. went (turned u)) ≡ went t → (t.at ≡ s.at) × (push_turn R place' count (line_back s) ≡ went (line_back t))
        cases (went u) q f =
            let y : turned u ≡ t = cc in
            let p = push-back place place' count s u q in
            (sym (ap (λ (x : Line). x.at) y) ∙ p.0, ap (λ (w : Went). next w λ u. went (turned u)) p.1 ∙ ap (λ (x : Line). went (line_back x)) y)
        cases (failed n p u) q f = absurd (let z : ◌≡◌ {A = ℕ} 0 1 = cc in omega arith)

    push_run-back : (s t : Line) → e ≤ s.at → push_run R bs s ≡ went t → (e ≤ t.at) × (push_run R cs (line_back s) ≡ went (line_back t))
    unfolding push_run
    push_run-back s t h q = cases (read_run s.colour bs s.at) refl q
      where
        cases : (r : Res Sum) → read_run s.colour bs s.at ≡ r → after_run R s r ≡ went t → (e ≤ t.at) × (after_run R (line_back s) (read_run s.colour cs (s.at - e)) ≡ went (line_back t))
        cases (ok r) y f =
            let m = read-moved s.colour s.at h r y in
            let p = turn-back s.at (s.at - e) r.total (moved_to r.at s) t f in
            (omega (arith, m.0, p.0), ap (after_run R (line_back s)) m.1 ∙ p.1)
        cases (fault n p) y f = absurd (let z : ◌≡◌ {A = ℕ} 0 1 = cc in omega arith)

    abbrev end-in : Line → Went
    end-in s = line_end R.width (code_of R one cs) cs s

    abbrev Same : Line → Went → Type 0
    Same s (went t) = e ≤ s.at → (e ≤ t.at) × (end-in (line_back s) ≡ went (line_back t))
    Same s (failed n p t) = Unit {0}

    line-moved : (s : Line) (r : Went) → ends (line_step R.width (code_of R one bs)) (λ t. length bs - t.at) s ≡ done r → Same s r
    line-moved s r q = ends-ind (line_step R.width (code_of R one bs)) Same base goes (λ t. length bs - t.at) s r q
      where
        base : (s : Line) (r : Went) → line_step R.width (code_of R one bs) s ≡ done r → Same s r
        base s r =
            line-cases R.width (code_of R one bs) s (λ o. o ≡ done r → Same s r)
            (λ h q. subst (Same s) (let y : went s ≡ r = cc in y) (λ k. (k, line-done R.width (code_of R one cs) cs (moves R one cs) (line_back s) h)))
            (λ h t q y. absurd (let z : ◌≡◌ {A = ℕ} 0 1 = cc in omega arith))
            (λ h n p t q y. subst (Same s) (let g : failed n p t ≡ r = cc in g) tt)

        along : (s t : Line) (r : Went) → (s.position ≡ R.width → ⊥) → code_of R one bs s ≡ went t → Same t r → Same s r
        along s t (went u) h q f = λ k.
            let p = push_run-back s t k q in
            ((f p.0).0, line-more R.width (code_of R one cs) cs (moves R one cs) (line_back s) (line_back t) h p.1 ∙ (f p.0).1)
        along s t (failed n p u) h q f = tt

        goes : (s t : Line) (r : Went) → line_step R.width (code_of R one bs) s ≡ more t → Same t r → Same s r
        goes s t r =
            line-cases R.width (code_of R one bs) s (λ o. o ≡ more t → Same t r → Same s r)
            (λ h q. absurd (let z : ◌≡◌ {A = ℕ} 0 1 = cc in omega arith))
            (λ h u q y. let g : u ≡ t = cc in along s t r h (q ∙ ap (λ (x : Line). went x) g))
            (λ h n p u q y. absurd (let z : ◌≡◌ {A = ℕ} 0 1 = cc in omega arith))

    pub line-from : (t : Line) → read_line R one bs e ≡ went t → (e ≤ t.at) × (read_line R one cs 0 ≡ went (line_back t))
    unfolding read_line line_end
    line-from t q =
        let p = ends-stops (line_step R.width (code_of R one bs)) (λ u. length bs - u.at) (line-falls R.width (code_of R one bs) bs (moves R one bs)) (new_line e) in
        let m = subst (Same (new_line e)) (ap line_of (sym p.1) ∙ q) (line-moved (new_line e) p.0 p.1) (omega arith) in
        (m.0, ap (λ (n : ℕ). end-in (new_line n)) (let y : 0 ≡ e - e = omega arith in y) ∙ m.1)
