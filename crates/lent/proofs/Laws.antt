-- Laws of a lent line: what its tests show, and what the core's answer leaves. Assumes nothing.
use mathlib.Core.Path.{◌≡◌, refl, sym, ap, subst, ◌∙◌}
use mathlib.Core.Bool.{Bool, true, false, cond, and-eq-true_iff, ◌&&◌}
use mathlib.Core.List.{List}
use Prim.Native.Nat.{ℕ, zero, suc, ◌<◌}
use native.Mathlib.Omega.{arith}
use lib.Dec.{eqb, leb}
use lib.ListN.{length}
use borrow.Author.Tests.{leb-true, leb-false, eqb-false}
use Rattle.rules.specs.Lines.{Went, went, failed, push, line_in}
use Rattle.context.specs.declared.line.Line.{Line}
use Rattle.std.specs.Prelude.{Ok, Err}
use Rattle.context.specs.State.{line_at, line_for, push_rules, Holds, Push, push_for, Pushes}
use Rattle.lent.specs.Lent.{tested, number_of, LendsAt, Lends}

-- no number but 0 says that both tests were passed
passed : (wide fits : Bool) → ◌≡◌ {A = ℕ} (cond wide 6 (cond fits 0 8)) 0 → (wide ≡ false) × (fits ≡ true)
passed true fits e = absurd (omega arith)
passed false true e = (refl, refl)
passed false false e = absurd (omega arith)

-- then the core takes the line
pub tested-holds : (xs : List ℕ) (l : Line) → l.width < 4294967296 → tested (length xs) l ≡ 0 → Holds xs l
tested-holds xs l small e =
    let a = leb l.position l.width in
    let b = leb l.changes (length xs) in
    let c = leb l.colour 1 in
    let d = leb l.cut 1 in
    let p = passed (eqb l.width 4294967295) (a && b && c && d) e in
    let q = (and-eq-true_iff (a && b && c) d).0 p.1 in
    let r = (and-eq-true_iff (a && b) c).0 q.0 in
    let s = (and-eq-true_iff a b).0 r.0 in
    record {
      narrow = narrower l.width small (eqb-false l.width 4294967295 p.0);
      fits = leb-true l.position l.width s.0;
      held = leb-true l.changes (length xs) s.1;
      coloured = leb-true l.colour 1 r.1;
      flagged = leb-true l.cut 1 q.1;
    }
  where
    narrower : (w : ℕ) → w < 4294967296 → (w ≡ 4294967295 → ⊥) → w < 4294967295
    narrower w h k = cases (leb 4294967295 w) refl
      where
        cases : (t : Bool) → leb 4294967295 w ≡ t → w < 4294967295
        cases true e = absurd (k (omega (arith, leb-true 4294967295 w e)))
        cases false e = leb-false 4294967295 w e

module _ (xs : List ℕ) (l : Line) (count : ℕ) (strict : Bool) where
  -- a refusal
  refused : (k : ℕ) → (k ≡ 0 → ⊥) → LendsAt k xs l count strict k l xs
  refused zero h = absurd (h refl)
  refused (suc n) h = record { number = refl; line = refl; store = refl }

  pub lends-refused : (k : ℕ) → k ≡ tested (length xs) l → (k ≡ 0 → ⊥) → Lends xs l count strict k l xs
  lends-refused k e h = subst (λ (n : ℕ). LendsAt n xs l count strict k l xs) e (refused k h)

  -- the number and the line of the core's answer
  abbrev number_in : Push → ℕ
  number_in (Ok m) = 0
  number_in (Err f) = f.number

  abbrev line_of : Push → Line
  line_of (Ok m) = m
  line_of (Err f) = f.line

  number-of : (w : Went) → number_in (push_for l.width w) ≡ number_of w
  number-of (went s) = refl
  number-of (failed n place s) = refl

  line-of : (w : Went) → line_of (push_for l.width w) ≡ line_for l.width (line_in w)
  line-of (went s) = refl
  line-of (failed n place s) = refl

  pub lends-pushed : tested (length xs) l ≡ 0 → {r : Push} (t : Push) (ys : List ℕ) → Pushes xs l count strict r ys → r ≡ t → Lends xs l count strict (number_in t) (line_of t) ys
  lends-pushed e {r} t ys p same =
      subst (λ (n : ℕ). LendsAt n xs l count strict (number_in t) (line_of t) ys) (sym e) (λ at place.
      let w = push (push_rules l.width strict xs) place count (line_at at xs l) in
      let comes = p at place in
      record {
        number = ap number_in (sym same ∙ comes.answer) ∙ number-of w;
        line = ap line_of (sym same ∙ comes.answer) ∙ line-of w;
        store = comes.store;
      })
