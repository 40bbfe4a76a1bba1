-- A machine that ends: one step answers the next state, or the end.
-- Every form of reading is one. A run is a machine of codes, a line one of mode codes or of runs, a page one of rows.
use Rattle.std.specs.Prelude.{ℕ, zero, suc, ◌+◌}

pub data Out (S A : Type 0) : Type 0 where
  more : S → Out S A
  done : A → Out S A

module _ {S A : Type 0} where
  -- after one outcome, on from its state; an end stays
  abbrev pub and_then : Out S A → (S → Out S A) → Out S A
  and_then (more s) next = next s
  and_then (done a) next = done a

  -- n steps from a state, or fewer where the end comes sooner
  unfoldable pub run : (S → Out S A) → ℕ → S → Out S A
  run step zero s = more s
  run step (suc n) s = and_then (step s) (run step n)

  -- to the end. Each step makes the measure smaller, so one step more than it says reaches the end
  -- (that the measures used here fall is proved: proofs/Machine.antt, `Falls`).
  unfoldable pub ends : (S → Out S A) → (S → ℕ) → S → Out S A
  ends step measure s = run step (suc (measure s)) s

  -- What steps cost together: each state says what a step from it costs. n steps, or fewer where the end comes sooner;
  abbrev pub onward : Out S A → (S → ℕ) → ℕ
  onward (more s) count = count s
  onward (done a) count = 0

  unfoldable pub spent : (S → ℕ) → (S → Out S A) → ℕ → S → ℕ
  spent cost step zero s = 0
  spent cost step (suc n) s = cost s + onward (step s) (spent cost step n)

  -- and to the end, as in `ends`
  unfoldable pub costs : (S → ℕ) → (S → Out S A) → (S → ℕ) → S → ℕ
  costs cost step measure s = spent cost step (suc (measure s)) s
