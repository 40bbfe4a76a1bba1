-- No EOL stands inside a line that was written, not even with three zeros before it: an EOL would bound the line's reading, which goes to the line's last bit. Assumes nothing.
use mathlib.Core.Path.{◌≡◌, refl, sym, ap, ◌∙◌, subst}
use mathlib.Core.Bool.{Bool, true, false, ◌&&◌}
use mathlib.Core.List.{List, [], ◌∷◌, append-nil}
use mathlib.Core.Logic.{◌⊎◌, inl, inr}
use mathlib.Core.Option.{some}
use Prim.Native.Nat.{ℕ, suc, ◌+◌, ◌≤◌, ◌<◌}
use native.Mathlib.Omega.{arith}
use lib.Dec.{ltb}
use lib.ListN.{length, drop, length-drop}
use borrow.Author.Tests.{ltb-false}
use Rattle.rules.specs.Lines.{Rules, Line, new_line, went, Kind, read_line}
use Rattle.rules.specs.Eols.{zero_run}
use Rattle.rules.specs.Write.{line_bits}
use Rattle.rules.specs.Damage.{found, no_eol}
use Rattle.rules.proofs.Lines.{Bound, sound-new, Ends, line-end}
use Rattle.rules.proofs.Barrier.{eol-bound}
use Rattle.rules.specs.Rising.{Rising}
use Rattle.rules.proofs.ReadBack.{Proper, read-line}
use Rattle.rules.proofs.Eols.{zeros-inside}
use Rattle.rules.proofs.Group3Back.{line-begins}

-- a line that is read ends no further than a bound
pub line_stays : (R : Rules) (kind : Kind) (bs : List Bool) (size : ℕ) → Bound bs size → (start : ℕ) → start ≤ size → (l : Line) → read_line R kind bs start ≡ went l
    → (start ≤ l.at) × (l.at ≤ size)
unfolding read_line Ends
line_stays R kind bs size bound start h l e =
    let f = subst (Ends R kind bs size bound start (new_line start)) e (line-end R kind bs size bound start (new_line start)) in
    (f.3, (f.4 0 (sound-new R size start h)).inside)

-- where bits have an EOL, so many zeros standing before them: it ends with their first one, or it stands among them
abbrev Eol : ℕ → List Bool → Type 0
Eol zeros bits = ((z : ℕ) × (zero_run bits ≡ some z) × (11 ≤ zeros + z)) ⊎ ((i : ℕ) × (z : ℕ) × (zero_run (drop i bits) ≡ some z) × (11 ≤ z))

eol-somewhere : (bits : List Bool) (zeros : ℕ) → no_eol zeros bits ≡ false → Eol zeros bits
unfolding no_eol zero_run
eol-somewhere [] zeros q = absurd (let y : ◌≡◌ {A = ℕ} 0 1 = cc in omega arith)
eol-somewhere (false ∷ bits) zeros q = later (eol-somewhere bits (suc zeros) q)
  where
    later : Eol (suc zeros) bits → Eol zeros (false ∷ bits)
    later (inl (z, e, h)) = inl (suc z, rw e, omega arith)
    later (inr (i, z, e, h)) = inr (suc i, z, e, h)
eol-somewhere (true ∷ bits) zeros q = tests (ltb zeros 11) refl q (eol-somewhere bits 0)
  where
    later : Eol 0 bits → Eol zeros (true ∷ bits)
    later (inl (z, e, h)) = inr (1, z, e, omega arith)
    later (inr (i, z, e, h)) = inr (suc i, z, e, h)

    tests : (b : Bool) → ltb zeros 11 ≡ b → (b && no_eol 0 bits) ≡ false → (no_eol 0 bits ≡ false → Eol 0 bits) → Eol zeros (true ∷ bits)
    tests true e f ih = later (ih f)
    tests false e f ih = inl (0, refl, omega (arith, ltb-false zeros 11 e))

module _ (width : ℕ) (wide : 0 < width) (narrow : width ≤ 4294967295)
    (kind : Kind) (proper : Proper width kind) (r : List ℕ) (rises : Rising width 0 r) where
  abbrev L : List Bool
  L = line_bits width kind r

  -- it holds a one,
  pub written_one : found (zero_run L) ≡ true
  written_one = ap found (ap zero_run (sym (append-nil L)) ∙ (line-begins width wide kind r []).1)

  -- and no EOL
  pub written-no-eol : (zeros : ℕ) → zeros ≤ 3 → no_eol zeros L ≡ true
  written-no-eol zeros few = tests (no_eol zeros L) refl
    where
      none-there : Eol zeros L → ⊥
      none-there (inl (z, e, h)) =
          let b = line-begins width wide kind r [] in
          let y : b.0 ≡ z = cc (sym b.1 ∙ ap zero_run (append-nil L) ∙ e) in
          omega (arith, b.2)
      none-there (inr (i, z, e, h)) =
          let R : Rules = record { width = width; strict = false; exact = false; room = length r } in
          let p = read-line R wide narrow kind proper r rises (omega arith) L [] 0 (sym (append-nil L)) in
          let s = line_stays R kind L (i + 3) (eol-bound L i z e h) 0 (omega arith) _ p.1 in
          omega (arith, s.1, zeros-inside (drop i L) z e, length-drop i L)

      tests : (b : Bool) → no_eol zeros L ≡ b → b ≡ true
      tests true e = refl
      tests false e = absurd (none-there (eol-somewhere L zeros e))
