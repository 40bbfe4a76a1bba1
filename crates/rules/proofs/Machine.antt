-- Laws of machines: n steps and then m, an end that does not depend on the fuel, induction over the steps to an end, and machines of smaller
-- steps that come to the same end. Assumes nothing.
use mathlib.Core.Path.{◌≡◌, refl, ◌∙◌}
use Prim.Native.Nat.{ℕ, zero, suc, ◌+◌, ◌≤◌, ◌<◌}
use native.Mathlib.Omega.{arith}
use native.Mathlib.Nat.{zero-add, suc-add}
use Rattle.rules.specs.Machine.{Out, more, done, and_then, run, ends, onward, spent}

module _ {S A : Type 0} where
  -- n steps and then m are n + m steps: what a form in steps and a form at one go share
  pub run-add : (step : S → Out S A) (n m : ℕ) (s : S) → run step (n + m) s ≡ and_then (run step n s) (run step m)
  unfolding run
  run-add step zero m s = rw zero-add
  run-add step (suc n) m s = rw suc-add (cases (λ t. run-add step n m t) (step s))
    where
      cases : ((t : S) → run step (n + m) t ≡ and_then (run step n t) (run step m)) → (o : Out S A) → and_then o (run step (n + m)) ≡ and_then (and_then o (run step n)) (run step m)
      cases ih (more t) = ih t
      cases ih (done a) = refl

  -- The measure falls at each step that goes on
  abbrev pub Falls : (S → Out S A) → (S → ℕ) → Type 0
  Falls step μ = (s t : S) → step s ≡ more t → μ t < μ s

  module _ (step : S → Out S A) (μ : S → ℕ) (falls : Falls step μ) where
    -- any fuel above the measure gives the same
    pub fuel : (n m : ℕ) (s : S) → μ s < n → μ s < m → run step n s ≡ run step m s
    unfolding run
    fuel (suc n) (suc m) s p q = cases (λ t. fuel n m t) (step s) refl
      where
        cases : ((t : S) → μ t < n → μ t < m → run step n t ≡ run step m t) → (o : Out S A) → step s ≡ o → and_then o (run step n) ≡ and_then o (run step m)
        cases ih (more t) e = let f : μ t < μ s = falls s t e in ih t (omega arith) (omega arith)
        cases ih (done a) e = refl
    fuel zero m s p q = absurd (omega arith)
    fuel (suc n) zero s p q = absurd (omega arith)

    pub ends_more : (s t : S) → step s ≡ more t → ends step μ s ≡ ends step μ t
    unfolding ends run
    ends_more s t e = let f : μ t < μ s = falls s t e in rw e (fuel (μ s) (suc (μ t)) t (omega arith) (omega arith))

    pub ends-done : (s : S) (a : A) → step s ≡ done a → ends step μ s ≡ done a
    unfolding ends run
    ends-done s a e = rw e

  -- what holds of an end, by the steps that lead there
  module _ (step : S → Out S A) (C : S → A → Type 0) (base : (s : S) (a : A) → step s ≡ done a → C s a) (next : (s t : S) (a : A) → step s ≡ more t → C t a → C s a) where
    pub run-ind : (n : ℕ) (s : S) (a : A) → run step n s ≡ done a → C s a
    unfolding run
    run-ind zero s a e = absurd (let z : ◌≡◌ {A = ℕ} 0 1 = cc in omega arith)
    run-ind (suc n) s a e = cases (λ t q. run-ind n t a q) (step s) refl e
      where
        cases : ((t : S) → run step n t ≡ done a → C t a) → (o : Out S A) → step s ≡ o → and_then o (run step n) ≡ done a → C s a
        cases ih (more t) q e = next s t a q (ih t e)
        cases ih (done b) q e = base s a (q ∙ e)

    pub ends-ind : (μ : S → ℕ) (s : S) (a : A) → ends step μ s ≡ done a → C s a
    unfolding ends
    ends-ind μ s a e = run-ind (suc (μ s)) s a e

  -- any two numbers of steps that reach an end reach the same
  pub run-once : (step : S → Out S A) (n m : ℕ) (s : S) (a b : A) → run step n s ≡ done a → run step m s ≡ done b → a ≡ b
  unfolding run
  run-once step zero m s a b e f = absurd (let z : ◌≡◌ {A = ℕ} 0 1 = cc in omega arith)
  run-once step (suc n) zero s a b e f = absurd (let z : ◌≡◌ {A = ℕ} 0 1 = cc in omega arith)
  run-once step (suc n) (suc m) s a b e f = cases (λ t. run-once step n m t a b) (step s) e f
    where
      cases : ((t : S) → run step n t ≡ done a → run step m t ≡ done b → a ≡ b) → (o : Out S A) → and_then o (run step n) ≡ done a → and_then o (run step m) ≡ done b → a ≡ b
      cases ih (more t) e f = ih t e f
      cases ih (done c) e f = cc

  -- and there is an end
  module _ (step : S → Out S A) (μ : S → ℕ) (falls : Falls step μ) where
    run-stops : (n : ℕ) (s : S) → μ s < n → (a : A) × (run step n s ≡ done a)
    unfolding run
    run-stops zero s h = absurd (omega arith)
    run-stops (suc n) s h = cases (λ t. run-stops n t) (step s) refl
      where
        cases : ((t : S) → μ t < n → (a : A) × (run step n t ≡ done a)) → (o : Out S A) → step s ≡ o → (a : A) × (and_then o (run step n) ≡ done a)
        cases ih (more t) e = let f : μ t < μ s = falls s t e in ih t (omega arith)
        cases ih (done a) e = (a, refl)

    pub ends-stops : (s : S) → (a : A) × (ends step μ s ≡ done a)
    unfolding ends
    ends-stops s = run-stops (suc (μ s)) s (omega arith)

    -- any number of steps that reaches the end reaches the same
    pub run_ends : (n : ℕ) (s : S) (a : A) → run step n s ≡ done a → ends step μ s ≡ done a
    run_ends n s a e = run-ind step (λ s a. ends step μ s ≡ done a) (λ s a q. ends-done step μ falls s a q) (λ s t a q h. ends_more step μ falls s t q ∙ h) n s a e

  -- what each step keeps, any number of them keep
  pub run-keeps : (P : Out S A → Type 0) (step : S → Out S A) → ((s : S) → P (more s) → P (step s)) → (n : ℕ) (o : Out S A) → P o → P (and_then o (run step n))
  unfolding run
  run-keeps P step h zero (more s) p = p
  run-keeps P step h (suc n) (more s) p = run-keeps P step h n (step s) (h s p)
  run-keeps P step h zero (done a) p = p
  run-keeps P step h (suc n) (done a) p = p

  -- Where each step is paid for out of what is held, the steps together cost no more than what is held at first.
  module _ (P : S → Type 0) (cost held : S → ℕ) where
    abbrev pub Paid : S → Out S A → Type 0
    Paid s (more t) = P t × (cost s + held t ≤ held s)
    Paid s (done a) = cost s ≤ held s

    pub spent-most : (step : S → Out S A) → ((s : S) → P s → Paid s (step s)) → (n : ℕ) (s : S) → P s → spent cost step n s ≤ held s
    unfolding spent
    spent-most step paid zero s p = omega arith
    spent-most step paid (suc n) s p = cases (spent-most step paid n) (step s) (paid s p)
      where
        cases : ((t : S) → P t → spent cost step n t ≤ held t) → (o : Out S A) → Paid s o → cost s + onward o (spent cost step n) ≤ held s
        cases ih (more t) (q, h) = omega (arith, ih t q)
        cases ih (done a) h = omega arith

  -- an outcome reached in some number of steps
  abbrev pub Reaches : (S → Out S A) → S → Out S A → Type 0
  Reaches step s o = (n : ℕ) × (run step n s ≡ o)

  pub reach_here : (step : S → Out S A) (s : S) → Reaches step s (more s)
  unfolding run
  reach_here step s = (0, refl)

  pub reach-one : (step : S → Out S A) (s : S) (o : Out S A) → step s ≡ o → Reaches step s o
  unfolding run
  reach-one step s o e = (1, rw e (cases o))
    where
      cases : (o : Out S A) → and_then o (run step 0) ≡ o
      cases (more t) = refl
      cases (done a) = refl

  pub reach-done : (step : S → Out S A) (s : S) (a : A) → step s ≡ done a → Reaches step s (done a)
  unfolding run
  reach-done step s a e = (1, rw e)

  pub reach-more : (step : S → Out S A) (s t : S) (o : Out S A) → step s ≡ more t → Reaches step t o → Reaches step s o
  unfolding run
  reach-more step s t o e r = (suc r.0, rw e r.1)

  pub reach-trans : (step : S → Out S A) (s t : S) (o : Out S A) → Reaches step s (more t) → Reaches step t o → Reaches step s o
  reach-trans step s t o q r = (q.0 + r.0, run-add step q.0 r.0 s ∙ rw q.1 r.1)

-- A machine of smaller steps simulates one of larger steps: then it comes to the same end
module _ {S U A : Type 0} (big : S → Out S A) (small : U → Out U A) (as-small : S → U)
    (sim-more : (s t : S) → big s ≡ more t → Reaches small (as-small s) (more (as-small t)))
    (sim-done : (s : S) (a : A) → big s ≡ done a → Reaches small (as-small s) (done a)) where
  pub simulates : (n : ℕ) (s : S) (a : A) → run big n s ≡ done a → Reaches small (as-small s) (done a)
  simulates n s a e = run-ind big (λ s a. Reaches small (as-small s) (done a)) sim-done (λ s t a q h. reach-trans small (as-small s) (as-small t) (done a) (sim-more s t q) h) n s a e
