-- What a vertical mode does to a line, by its move. Assumes nothing.
use mathlib.Core.Path.{◌≡◌, refl, sym, ap, ◌∙◌}
use mathlib.Core.Bool.{Bool, true, false, cond, ◌&&◌}
use mathlib.Core.List.{List}
use Prim.Native.Nat.{ℕ, ◌-◌}
use lib.Dec.{leb}
use lib.IntN.{ℤ, pos, negsuc}
use Rattle.rules.specs.Modes.{Mode, pass, horizontal, VR, VL}
use Rattle.rules.specs.Lines.{Rules, Line, Went, failed, push_turn, b1, vertical, apply}
use Rattle.std.specs.Prelude.{Option, Some, None}
use Rattle.context.specs.Offset.{move_to, move_by}
use Rattle.codes.specs.Modes.{offset_mode}

-- a line after a move: pushed and turned, or failed with 3
abbrev pub after_move : Rules → ℕ → Line → Option ℕ → Went
after_move R place s (Some count) = push_turn R place count s
after_move R place s None = failed 3 place s

-- the modes that move
abbrev pub Upright : Mode → Type 0
Upright pass = ⊥
Upright horizontal = ⊥
Upright (VR k) = Unit
Upright (VL k) = Unit

-- those of an offset do
pub upright : (z : ℤ) → Upright (offset_mode z)
upright (pos k) = tt
upright (negsuc k) = tt

module _ (R : Rules) (reference : List ℕ) (bs : List Bool) (place : ℕ) (s : Line) where
  -- where the rules put b1
  abbrev b1_of : ℕ
  b1_of = b1 R.width reference s.position s.colour

  -- to a1, over its test
  to-a1 : (a1 : ℕ) → vertical R reference place a1 s ≡ after_move R place s (move_to s.position a1)
  unfolding vertical
  to-a1 a1 = by (leb a1 4294967295 && leb s.position a1)
    where
      by : (t : Bool) → cond t (push_turn R place (a1 - s.position) s) (failed 3 place s) ≡ after_move R place s (cond t (Some (a1 - s.position)) None)
      by true = refl
      by false = refl

  -- what a vertical mode does to a line is what its move does
  pub mode-moves : (m : Mode) → Upright m → apply R reference bs place m s ≡ after_move R place s (move_by b1_of m s.position)
  unfolding apply move_by
  mode-moves pass u = absurd u
  mode-moves horizontal u = absurd u
  mode-moves (VR k) u = to-a1 _
  mode-moves (VL k) u = by (leb k b1_of) (vertical R reference place (b1_of - k) s) (to-a1 (b1_of - k))
    where
      by : (t : Bool) (v : Went) → v ≡ after_move R place s (move_to s.position (b1_of - k))
          → cond t v (failed 3 place s) ≡ after_move R place s (cond t (move_to s.position (b1_of - k)) None)
      by true v e = e
      by false v e = refl

  -- and so of an offset, by a b1 that was found and the move from it
  pub offset-moves : (z : ℤ) {b : ℕ} {m : Option ℕ} → b ≡ b1_of → m ≡ move_by b (offset_mode z) s.position → apply R reference bs place (offset_mode z) s ≡ after_move R place s m
  offset-moves z e f =
      mode-moves (offset_mode z) (upright z)
      ∙ ap (λ (n : ℕ). after_move R place s (move_by n (offset_mode z) s.position)) (sym e)
      ∙ ap (after_move R place s) (sym f)
