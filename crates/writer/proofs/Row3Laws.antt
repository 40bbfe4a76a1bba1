-- A row of a Group 3 page that is being put: by what stands before its line, and by the kind of its line; and what stands behind the last one. Assumes nothing.
use mathlib.Core.Path.{◌≡◌, refl, sym, ap, ◌∙◌, subst}
use mathlib.Core.Bool.{Bool, true, false, true≢false}
use mathlib.Core.List.{List, [], ◌∷◌, ◌++◌, append_assoc}
use Prim.Native.Nat.{ℕ, zero, suc, ◌-◌}
use native.Mathlib.Omega.{arith}
use lib.ListN.{length, replicate}
use Rattle.rules.specs.Lines.{Kind}
use Rattle.rules.specs.Write.{eol_bits}
use Rattle.rules.specs.WriteGroup3.{Layout, bare, filled, mixed, left_next, ahead, times, ending}
use Rattle.rules.specs.Rising.{none}
use Rattle.writer.specs.Putting.{Cleared, Room, Puts}
use Rattle.writer.specs.Coding.{line_of, line1_of, Rowed, Lined}
use Rattle.writer.specs.Paging3.{kind_from, line_from, row3_of}
use Rattle.writer.proofs.Owing.{Owes, owes-all, first-room, owes-put, last-room, owes-last}

-- ---- Bits that have two names

pub room_as : {write : Bool} {at bytes : ℕ} {xs ys : List Bool} → xs ≡ ys → Room write at (length xs) bytes → Room write at (length ys) bytes
room_as {write} {at} {bytes} e = subst (λ (l : List Bool). Room write at (length l) bytes) e

pub puts-as : {write : Bool} {at : ℕ} {out : List ℕ} {r : ℕ} {out' : List ℕ} {xs ys : List Bool} → xs ≡ ys → Puts write at xs out r out' → Puts write at ys out r out'
puts-as {write} {at} {out} {r} {out'} e = subst (λ (l : List Bool). Puts write at l out r out') e

-- no bits are put by doing nothing, where the byte has zeros
pub puts_none : {write : Bool} {at : ℕ} {out : List ℕ} {xs : List Bool} → [] ≡ xs → Cleared write at out → Puts write at xs out at out
puts_none e z = puts-as e (record { next = omega arith; bits = sym z; size = refl; kept = λ _. refl })

-- ---- By the layout

module _ {layout : Layout} where
  -- before a line
  pub ahead-bare : layout ≡ bare → (kind : Kind) → ahead layout kind ≡ []
  ahead-bare e kind = ap (λ (l : Layout). ahead l kind) e

  pub ahead-filled : {fill : ℕ} → layout ≡ filled fill → (kind : Kind) → ahead layout kind ≡ replicate fill false ++ eol_bits
  ahead-filled e kind = ap (λ (l : Layout). ahead l kind) e

  pub ahead-mixed : {k : ℕ} → layout ≡ mixed k → (single : Bool) (above : List ℕ) → ahead layout (kind_from single above) ≡ eol_bits ++ single ∷ []
  ahead-mixed {k} e single above = ap (λ (l : Layout). ahead l (kind_from single above)) e ∙ tag single
    where
      tag : (single : Bool) → ahead (mixed k) (kind_from single above) ≡ eol_bits ++ single ∷ []
      tag true = refl
      tag false = refl

  -- behind the last line
  pub end-bare : layout ≡ bare → ending layout ≡ []
  end-bare e = ap ending e

  pub end-filled : {fill : ℕ} → layout ≡ filled fill → ending layout ≡ (replicate fill false ++ eol_bits) ++ times 5 eol_bits
  unfolding times
  end-filled {fill} e = ap ending e ∙ sym (append_assoc (replicate fill false) eol_bits (times 5 eol_bits))

  pub end-mixed : {k : ℕ} → layout ≡ mixed k → ending layout ≡ times 6 (eol_bits ++ true ∷ [])
  end-mixed e = ap ending e

-- the tag bit tells the kind alone, not the row above
pub same_ahead : (layout : Layout) (single : Bool) (above : List ℕ) → ahead layout (kind_from single []) ≡ ahead layout (kind_from single above)
same_ahead bare single above = refl
same_ahead (filled fill) single above = refl
same_ahead (mixed k) true above = refl
same_ahead (mixed k) false above = refl

-- ---- By the kind of line

module _ {write : Bool} {width at bytes : ℕ} (above row : List ℕ) where
  pub lined-1d : (single : Bool) → single ≡ true → Rowed write width above row (line_from width single above row) at bytes → Rowed write width [] row (line1_of width row) at bytes
  lined-1d true e d = record { wide = d.wide; narrow = d.narrow; rises = none; rises' = d.rises'; room = d.room }
  lined-1d false e d = absurd (true≢false (sym e))

  pub lined-2d : (single : Bool) → single ≡ false → Rowed write width above row (line_from width single above row) at bytes → Lined write width above row at bytes
  lined-2d true e d = absurd (true≢false e)
  lined-2d false e d = d

module _ (width : ℕ) (above row : List ℕ) where
  pub line-1d : (single : Bool) → single ≡ true → line1_of width row ≡ line_from width single above row
  line-1d true e = refl
  line-1d false e = absurd (true≢false (sym e))

  pub line-2d : (single : Bool) → single ≡ false → line_of width above row ≡ line_from width single above row
  line-2d true e = absurd (true≢false e)
  line-2d false e = refl

-- ---- Both

-- what stands before the line comes first
pub ahead-first : (layout : Layout) (width : ℕ) (single : Bool) (above row : List ℕ) → row3_of layout width single above row ≡ ahead layout (kind_from single []) ++ line_from width single above row
ahead-first layout width single above row = ap (λ (l : List Bool). l ++ line_from width single above row) (sym (same_ahead layout single above))

module _ {write : Bool} {at : ℕ} (start : List ℕ) (layout : Layout) (width : ℕ) (single : Bool) (above row : List ℕ)
    (d : Rowed write width above row (row3_of layout width single above row) at (length start)) where
  -- what stands before the line can be put,
  pub ahead-room : Room write at (length (ahead layout (kind_from single []))) (length start)
  ahead-room = first-room (owes-all write at (row3_of layout width single above row) start) (ahead layout (kind_from single [])) (line_from width single above row) (ahead-first layout width single above row) d.room

  module _ {next : ℕ} {out : List ℕ} (p : Puts write at (ahead layout (kind_from single [])) start next out) where
    left : Owes write next (line_from width single above row) out at (row3_of layout width single above row) start
    left = owes-put (owes-all write at (row3_of layout width single above row) start) (ahead layout (kind_from single [])) (line_from width single above row) (ahead-first layout width single above row) d.room.inside p

    -- then the line,
    pub line-room : Rowed write width above row (line_from width single above row) next (length out)
    line-room = record { wide = d.wide; narrow = d.narrow; rises = d.rises; rises' = d.rises'; room = last-room left (line_from width single above row) refl d.room }

    -- and then the row is
    pub row-puts : {r : ℕ} {out' : List ℕ} → Puts write next (line_from width single above row) out r out' → Puts write at (row3_of layout width single above row) start r out'
    row-puts q = owes-last left (line_from width single above row) refl q

-- ---- The end with fill

module _ {write : Bool} {at : ℕ} (start : List ℕ) (layout : Layout) (fill : ℕ) (e : layout ≡ filled fill) (room : Room write at (length (ending layout)) (length start)) where
  -- the first EOL can be put,
  pub first-eol : Room write at (length (replicate fill false ++ eol_bits)) (length start)
  first-eol = first-room (owes-all write at (ending layout) start) (replicate fill false ++ eol_bits) (times 5 eol_bits) (end-filled e) room

  module _ {next : ℕ} {out : List ℕ} (p : Puts write at (replicate fill false ++ eol_bits) start next out) where
    five : Owes write next (times 5 eol_bits) out at (ending layout) start
    five = owes-put (owes-all write at (ending layout) start) (replicate fill false ++ eol_bits) (times 5 eol_bits) (end-filled e) room.inside p

    -- then the others,
    pub five-room : Room write next (length (times 5 eol_bits)) (length out)
    five-room = last-room five (times 5 eol_bits) refl room

    -- and then the end is
    pub end-puts : {r : ℕ} {out' : List ℕ} → Puts write next (times 5 eol_bits) out r out' → Puts write at (ending layout) start r out'
    end-puts q = owes-last five (times 5 eol_bits) refl q

-- ---- The 2D lines that are left

pub left_less : (k left : ℕ) → (left ≡ 0 → ⊥) → left - 1 ≡ left_next k left
left_less k zero h = absurd (h refl)
left_less k (suc left) h = let q : suc left - 1 ≡ left = omega arith in q

pub left-anew : (k left n : ℕ) → (left ≡ 0) → n ≡ k - 1 → n ≡ left_next k left
left-anew k zero n e q = q
left-anew k (suc left) n e q = absurd (omega arith)
