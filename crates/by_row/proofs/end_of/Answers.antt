use mathlib.Core.Logic.{inl, inr}
use mathlib.Core.Path.{◌≡◌, sym}
use native.Mathlib.Omega.{arith}
use Rattle.rules.specs.ByRow.{ended}
use Rattle.by_row.specs.ByRow.{Ending}
use Rattle.by_row.proofs.end_of.Goals as goal

pub returns-in-0 : goal.returns-in-0
returns-in-0 c =
    let a = c.args in
    let q : 0 ≡ a.number = omega arith in
    let h = c.requires.1 in
    λ i. ended (q i) (sym (h.no_place (inl (sym q))) i) a.bytes (sym (h.no_loose (inl (sym q))) i)

pub returns-in-1 : goal.returns-in-1
returns-in-1 c = let a = c.args in let q : 1 ≡ a.number = omega arith in λ i. ended (q i) a.place (sym (c.requires.1.no_bytes (λ z. omega arith)) i) a.loose

pub returns-in-2 : goal.returns-in-2
returns-in-2 c = let a = c.args in let q : 2 ≡ a.number = omega arith in λ i. ended (q i) a.place (sym (c.requires.1.no_bytes (λ z. omega arith)) i) a.loose

pub returns-in-3 : goal.returns-in-3
returns-in-3 c = let a = c.args in let q : 3 ≡ a.number = omega arith in λ i. ended (q i) a.place (sym (c.requires.1.no_bytes (λ z. omega arith)) i) a.loose

pub returns-in-4 : goal.returns-in-4
returns-in-4 c =
    let a = c.args in
    let q : 4 ≡ a.number = omega arith in
    let h = c.requires.1 in
    λ i. ended (q i) (sym (h.no_place (inr (omega arith))) i) (sym (h.no_bytes (λ z. omega arith)) i) a.loose

pub returns-in_default : goal.returns-in_default
returns-in_default c =
    let q = last c.requires.0 in
    let h = c.requires.1 in
    λ i. ended (q i) (sym (h.no_place (inr (omega (arith, q)))) i) (sym (h.no_bytes (λ z. omega (arith, q))) i) (sym (h.no_loose (inr (omega (arith, q)))) i)
  where
    last : Ending c.args.number → 14 ≡ c.args.number
    last (inl few) = absurd (omega arith)
    last (inr short) = omega arith
