-- `settings::end_at` meets its contract. Assumes nothing.
use mathlib.Core.Path.{◌≡◌, ap}
use Prim.Native.Nat.{ℕ}
use native.Mathlib.Omega.{arith}
use Rattle.rules.specs.Rows.{bytes_to}
use Rattle.std.specs.Prelude.{Err}
use Rattle.settings.specs.Between.{page_stop}
use Rattle.settings.proofs.end_at.Goals as goal

pub returns : goal.returns
returns c =
    let e : c.byte_pos-bytes.result ≡ bytes_to c.args.at = omega arith in
    ap (λ (bytes : ℕ). Err (page_stop 0 0 bytes 0)) e
