-- The codes of fill and EOLs: an EOL with its tag bit, zeros that are being put before an EOL, and a code that is being put several times. Assumes nothing.
use mathlib.Core.Path.{◌≡◌, refl, ap, ap₂, ◌∙◌}
use mathlib.Core.Bool.{Bool, true, false}
use mathlib.Core.List.{List, [], ◌∷◌, ◌++◌, append-nil}
use Prim.Native.Nat.{ℕ, zero, suc, ◌+◌, ◌-◌, ◌≤◌}
use native.Mathlib.Omega.{arith}
use native.Mathlib.Nat.{zero-div}
use lib.ListN.{length, replicate}
use lib.Pow.{pow_pos}
use Rattle.rules.specs.Bits.{bit, bits_for}
use Rattle.rules.specs.Write.{eol_bits}
use Rattle.rules.specs.WriteGroup3.{times}
use Rattle.tables.specs.declared.Code.{Code}
use Rattle.writer.specs.Putting.{Sound, Spells, Room, Puts}
use Rattle.writer.proofs.Owing.{Owes, owes-last, first_code, owes-code, last_code, puts-all}

abbrev code : ℕ → ℕ → Code
code s w = record { size = s; word = w }

-- an EOL and its tag bit
pub tag_one : Spells (code 13 3) (eol_bits ++ true ∷ [])
unfolding eol_bits bits_for bit
tag_one = record { sound = record { some_bits = omega arith; few_bits = omega arith; small = omega arith }; bits = refl }

pub tag-two : Spells (code 13 2) (eol_bits ++ false ∷ [])
unfolding eol_bits bits_for bit
tag-two = record { sound = record { some_bits = omega arith; few_bits = omega arith; small = omega arith }; bits = refl }

-- zeros
zeros-bits : (n : ℕ) → bits_for n 0 ≡ replicate n false
unfolding bits_for bit
zeros-bits zero = refl
zeros-bits (suc n) = ap₂ (λ (b : Bool) (l : List Bool). b ∷ l) none (zeros-bits n)
  where
    none : bit n 0 ≡ false
    none = rw zero-div

pub zeros-spell : (n : ℕ) → 1 ≤ n → n ≤ 13 → Spells (code n 0) (replicate n false)
zeros-spell n h k = record { sound = record { some_bits = h; few_bits = k; small = pow_pos n }; bits = zeros-bits n }

zeros-split : (n m : ℕ) (rest : List Bool) → replicate (n + m) false ++ rest ≡ replicate n false ++ (replicate m false ++ rest)
zeros-split zero m rest = ap (λ (i : ℕ). replicate i false ++ rest) (let q : 0 + m ≡ m = omega arith in q)
zeros-split (suc n) m rest = ap (λ (i : ℕ). replicate i false ++ rest) (let q : suc n + m ≡ suc (n + m) = omega arith in q) ∙ ap (λ (l : List Bool). false ∷ l) (zeros-split n m rest)

-- some of the zeros before an EOL come first, and behind the last one the EOL
pub zeros-first : (left size : ℕ) → size ≤ left → replicate left false ++ eol_bits ≡ replicate size false ++ (replicate (left - size) false ++ eol_bits)
zeros-first left size l = ap (λ (i : ℕ). replicate i false ++ eol_bits) (let q : left ≡ size + (left - size) = omega arith in q) ∙ zeros-split size (left - size) eol_bits

pub zeros-last : (left : ℕ) → left ≡ 0 → replicate left false ++ eol_bits ≡ eol_bits
zeros-last left h = ap (λ (i : ℕ). replicate i false ++ eol_bits) h

-- zeros before an EOL, of which `left` are left
module _ {write : Bool} {at : ℕ} {out : List ℕ} {from : ℕ} {start : List ℕ} (fill left : ℕ)
    (owes : Owes write at (replicate left false ++ eol_bits) out from (replicate fill false ++ eol_bits) start)
    (room : Room write from (length (replicate fill false ++ eol_bits)) (length start)) where
  module _ (size : ℕ) (h : 1 ≤ size) (k : size ≤ 13) (l : size ≤ left) where
    pub zeros-room : Room write at size (length out) × Sound (code size 0)
    zeros-room = first_code owes (zeros-spell size h k) _ (zeros-first left size l) room

    pub zeros-next : {r : ℕ} {out' : List ℕ} → Puts write at (bits_for size 0) out r out' → Owes write r (replicate (left - size) false ++ eol_bits) out' from (replicate fill false ++ eol_bits) start
    zeros-next p = owes-code owes (zeros-spell size h k) _ (zeros-first left size l) room.inside p

  module _ (h : left ≡ 0) {c : Code} (s : Spells c eol_bits) where
    pub eol-room : Room write at c.size (length out) × Sound c
    eol-room = last_code owes s (zeros-last left h) room

    pub eol-ends : {r : ℕ} {out' : List ℕ} → Puts write at (bits_for c.size c.word) out r out' → Puts write from (replicate fill false ++ eol_bits) start r out'
    eol-ends p = puts-all owes s (zeros-last left h) p

-- ---- A code that comes several times

module _ (xs : List Bool) where
  pub times-first : (m : ℕ) → 1 ≤ m → times m xs ≡ xs ++ times (m - 1) xs
  unfolding times
  times-first zero h = absurd (omega arith)
  times-first (suc m) h = ap (λ (i : ℕ). xs ++ times i xs) (let q : m ≡ suc m - 1 = omega arith in q)

  pub times-last : (m : ℕ) → 1 ≤ m → m ≤ 1 → times m xs ≡ xs
  unfolding times
  times-last m h l = ap (λ (i : ℕ). times i xs) (let q : m ≡ 1 = omega arith in q) ∙ append-nil xs

module _ (c : Code) (sound : Sound c) where
  abbrev ours : List Bool
  ours = bits_for c.size c.word

  spells : Spells c ours
  spells = record { sound = sound; bits = refl }

  -- n times, of which `left` are left
  module _ {write : Bool} {at : ℕ} {out : List ℕ} {from : ℕ} {start : List ℕ} (n left : ℕ)
      (owes : Owes write at (times left ours) out from (times n ours) start) (room : Room write from (length (times n ours)) (length start)) (some_left : 1 ≤ left) where
    -- it can be put,
    pub times-room : Room write at c.size (length out) × Sound c
    times-room = first_code owes spells (times (left - 1) ours) (times-first ours left some_left) room

    module _ {r : ℕ} {out' : List ℕ} (p : Puts write at ours out r out') where
      -- and then one less is left,
      pub times-less : Owes write r (times (left - 1) ours) out' from (times n ours) start
      times-less = owes-code owes spells (times (left - 1) ours) (times-first ours left some_left) room.inside p

      -- or all are put
      pub times-put : left ≤ 1 → Puts write from (times n ours) start r out'
      times-put h = owes-last owes ours (times-last ours left some_left h) p
