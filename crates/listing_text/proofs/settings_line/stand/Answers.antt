-- `listing_text::settings_line::stand` meets its contract. Assumes nothing.
use Prim.Native.Nat.{◌<◌}
use native.Mathlib.Omega.{arith}
use Rattle.listing_text.proofs.Standing.{stand-large, stand-found}
use Rattle.listing_text.proofs.settings_line.stand.Goals as goal

pub returns-in_err-flag : goal.returns-in_err-flag
returns-in_err-flag c =
    let h : 1 < c.args.block = c.in_err-flag.ensures in
    rw c.from_residual.ensures (stand-large _ _ _ _ _ _ _ _ _ (λ s. omega (arith, s.block-small)))

pub returns-in_err-flag-2 : goal.returns-in_err-flag-2
returns-in_err-flag-2 c =
    let h : 1 < c.args.line = c.in_err-flag-2.ensures in
    rw c.from_residual-in_err-flag-2.ensures (stand-large _ _ _ _ _ _ _ _ _ (λ s. omega (arith, s.line_small)))

pub returns-in_err-flag-3 : goal.returns-in_err-flag-3
returns-in_err-flag-3 c =
    let h : 1 < c.args.aligned = c.in_err-flag-3.ensures in
    rw c.from_residual-in_err-flag-3.ensures (stand-large _ _ _ _ _ _ _ _ _ (λ s. omega (arith, s.aligned-small)))

pub returns-in_err-mode : goal.returns-in_err-mode
returns-in_err-mode c =
    let h : 2 < c.args.encoding = c.in_err-mode.ensures in
    rw c.from_residual-in_err-mode.ensures (stand-large _ _ _ _ _ _ _ _ _ (λ s. omega (arith, s.encoding-small)))

pub returns-in_err-flag-4 : goal.returns-in_err-flag-4
returns-in_err-flag-4 c =
    let h : 1 < c.args.strict = c.in_err-flag-4.ensures in
    rw c.from_residual-in_err-flag-4.ensures (stand-large _ _ _ _ _ _ _ _ _ (λ s. omega (arith, s.strict-small)))

pub returns-in_err-flag-5 : goal.returns-in_err-flag-5
returns-in_err-flag-5 c =
    let h : 1 < c.args.exact = c.in_err-flag-5.ensures in
    rw c.from_residual-in_err-flag-5.ensures (stand-large _ _ _ _ _ _ _ _ _ (λ s. omega (arith, s.exact-small)))

pub returns-in_err-flag-6 : goal.returns-in_err-flag-6
returns-in_err-flag-6 c =
    let h : 1 < c.args.plain = c.in_err-flag-6.ensures in
    rw c.from_residual-in_err-flag-6.ensures (stand-large _ _ _ _ _ _ _ _ _ (λ s. omega (arith, s.plain-small)))

pub returns : goal.returns
returns c =
    stand-found _ _ _ _ _ _ _ _ _ _ _ _ _ _ _ c.in_ok-mode.field-0 c.args.at
    c.in_ok-flag.ensures c.in_ok-flag-2.ensures c.in_ok-flag-3.ensures c.in_ok-mode.ensures c.in_ok-flag-4.ensures c.in_ok-flag-5.ensures c.in_ok-flag-6.ensures
    (omega arith) (omega arith)
