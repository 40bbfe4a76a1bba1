-- Laws of machines that are counted: outcomes that lie a number of steps apart, a machine of smaller steps whose steps are counted, and what
-- any choice of steps at a time gives. Assumes nothing.
use mathlib.Core.Path.{◌≡◌, refl, sym, subst}
use Prim.Native.Nat.{ℕ, zero, suc, ◌+◌, ◌-◌, ◌≤◌, ◌<◌}
use native.Mathlib.Omega.{arith}
use native.Mathlib.Nat.{zero-add}
use Rattle.rules.specs.Machine.{Out, more, done, and_then, run, ends, onward, spent, costs}
use Rattle.rules.specs.Units.{each}

module _ {S A : Type 0} where
  -- from one outcome to another in exactly so many steps: none is taken from an end
  pub data Steps (step : S → Out S A) : Out S A → ℕ → Out S A → Type 0 where
    here : {o : Out S A} → Steps step o 0 o
    there : {s : S} {n : ℕ} {o : Out S A} → Steps step (step s) n o → Steps step (more s) (suc n) o

  pub steps-add : {step : S → Out S A} {o p q : Out S A} {n m : ℕ} → Steps step o n p → Steps step p m q → Steps step o (n + m) q
  steps-add {step} {q = q} {m = m} (here {o = o}) k = subst (λ (x : ℕ). Steps step o x q) (sym (zero-add m)) k
  steps-add {step} {q = q} {m = m} (there {s = s} {n = n} h) k = subst (λ (x : ℕ). Steps step (more s) x q) (let e : suc (n + m) ≡ suc n + m = omega arith in e) (there (steps-add h k))

  module _ {step : S → Out S A} where
    pub steps-none : {o p : Out S A} {n : ℕ} → n ≡ 0 → Steps step o n p → o ≡ p
    steps-none q here = refl
    steps-none q (there h) = absurd (omega arith)

    pub steps-some : {o p : Out S A} {n : ℕ} → 0 < n → Steps step o n p → (s : S) × (o ≡ more s)
    steps-some h here = absurd (omega arith)
    steps-some h (there {s = s} k) = (s, refl)

    -- the first n of them, and the others
    pub steps-split : (n : ℕ) {o q : Out S A} {u : ℕ} → n ≤ u → Steps step o u q → (p : Out S A) × Steps step o n p × Steps step p (u - n) q
    steps-split zero {o = o} {q = q} {u = u} h k = (o, here, subst (λ (x : ℕ). Steps step o x q) (let z : u ≡ u - 0 = omega arith in z) k)
    steps-split (suc n) h here = absurd (omega arith)
    steps-split (suc n) {q = q} h (there {n = u} k) =
        let r = steps-split n {u = u} (omega arith) k in
        (r.0, there r.1, subst (λ (x : ℕ). Steps step r.0 x q) (let z : u - n ≡ suc u - suc n = omega arith in z) r.2)

    -- n steps lead there, and are n
    pub steps-run : {o p : Out S A} {n : ℕ} → Steps step o n p → (and_then o (run step n) ≡ p) × (onward o (spent each step n) ≡ n)
    unfolding run spent
    steps-run (here {o = more s}) = (refl, refl)
    steps-run (here {o = done a}) = (refl, refl)
    steps-run (there h) = let r = steps-run h in (r.0, let z = r.1 in omega arith)

    -- where the end comes sooner, it stays and is counted
    pub steps-over : {o : Out S A} {a : A} {u : ℕ} (n : ℕ) → u ≤ n → Steps step o u (done a) → (and_then o (run step n) ≡ done a) × (onward o (spent each step n) ≡ u)
    unfolding run spent
    steps-over n h here = (refl, refl)
    steps-over zero h (there k) = absurd (omega arith)
    steps-over (suc n) h (there {n = u} k) = let r = steps-over {u = u} n (omega arith) k in (r.0, let z = r.1 in omega arith)

-- A machine whose steps are each some steps of a smaller one
module _ {S A U B : Type 0} where
  abbrev pub lifted : (S → Out U B) → (A → Out U B) → Out S A → Out U B
  lifted from final (more t) = from t
  lifted from final (done a) = final a

  module _ (cost : S → ℕ) (step : S → Out S A) (small : U → Out U B) (from : S → Out U B) (final : A → Out U B) (Inv : S → Type 0)
      (keeps : (s t : S) → Inv s → step s ≡ more t → Inv t)
      (sim : (s : S) → Inv s → Steps small (from s) (cost s) (lifted from final (step s))) where
    pub paced : (n : ℕ) (s : S) (a : A) → Inv s → run step n s ≡ done a → Steps small (from s) (spent cost step n s) (final a)
    unfolding run spent
    paced zero s a i e = absurd (let z : ◌≡◌ {A = ℕ} 0 1 = cc in omega arith)
    paced (suc n) s a i e = cases (λ t. paced n t a) (step s) refl (sim s i) e
      where
        cases : ((t : S) → Inv t → run step n t ≡ done a → Steps small (from t) (spent cost step n t) (final a)) → (o : Out S A) → step s ≡ o
            → Steps small (from s) (cost s) (lifted from final o) → and_then o (run step n) ≡ done a → Steps small (from s) (cost s + onward o (spent cost step n)) (final a)
        cases ih (more t) q h f = steps-add h (ih t (keeps s t i q) f)
        cases ih (done b) q h f =
            let g : b ≡ a = cc in
            steps-add (subst (λ (x : A). Steps small (from s) (cost s) (final x)) g h) here

    pub paced-ends : (μ : S → ℕ) (s : S) (a : A) → Inv s → ends step μ s ≡ done a → Steps small (from s) (costs cost step μ s) (final a)
    unfolding ends costs
    paced-ends μ s a i e = paced (suc (μ s)) s a i e
