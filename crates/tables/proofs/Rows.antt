-- The code that a row of a lent table stands for.
use mathlib.Core.Path.{◌≡◌, refl, sym, ap, ◌∙◌, subst}
use mathlib.Core.List.{List, [], ◌∷◌, ◌++◌}
use Prim.Native.Nat.{ℕ, zero, suc, ◌+◌, ◌-◌, ◌<◌}
use native.Mathlib.Omega.{arith}
use lib.ListN.{length, get_or, get_or-append}
use lib.Seq.{get_or-append-add}
use Rattle.rules.specs.Codes as Rule
use Rattle.rules.specs.Codes.{Colour, white, black, code_at, terminating_of, makeup_of, white_makeup, black_makeup, common_makeup}
use Rattle.tables.specs.declared.Code.{Code}
use Rattle.tables.specs.Tables.{colour_of, rows, code_of, SameBits}
use Rattle.tables.proofs.Colours.{Picks, picked}

row_at : (codes : List Rule.Code) (i : ℕ) → code_of (get_or (rows codes) i []) ≡ code_at codes i
row_at [] i = refl
row_at (c ∷ codes) zero = refl
row_at (c ∷ codes) (suc i) = row_at codes i

-- bits that were read from a row are those of the code at its place
read : (codes : List Rule.Code) (i : ℕ) {r : Code} {t : List (List ℕ)} → t ≡ rows codes
    → SameBits r (code_of (get_or t i [])) → SameBits r (code_at codes i)
read codes i {r} e q =
    subst (λ (c : Rule.Code). SameBits r c) (ap (λ (l : List (List ℕ)). code_of (get_or l i [])) e ∙ row_at codes i) q

pub terminating-at : (colour : Colour) (n i : ℕ) {r : Code} {t : List (List ℕ)} → Picks colour n → t ≡ rows (terminating_of colour)
    → SameBits r (code_of (get_or t i [])) → SameBits r (code_at (terminating_of (colour_of n)) i)
terminating-at colour n i {r} p e q =
    subst (λ (k : Colour). SameBits r (code_at (terminating_of k) i)) (sym (picked colour n p)) (read (terminating_of colour) i e q)

-- the make-up codes that a colour has of its own; the common ones stand after them
unfoldable pub own_of : Colour → List Rule.Code
unfolding white_makeup black_makeup
own_of white = white_makeup
own_of black = black_makeup

split : (colour : Colour) → makeup_of colour ≡ own_of colour ++ common_makeup
unfolding makeup_of own_of
split white = refl
split black = refl

own-length : (colour : Colour) → length (own_of colour) ≡ 27
unfolding own_of
own-length white = refl
own-length black = refl

own_code : (colour : Colour) (i : ℕ) → i < 27 → code_at (own_of colour) i ≡ code_at (makeup_of colour) i
own_code colour i h =
    let l = own-length colour in
    sym (get_or-append (own_of colour) common_makeup (code_of []) i (omega arith))
    ∙ ap (λ (codes : List Rule.Code). code_at codes i) (sym (split colour))

common-code : (colour : Colour) (i : ℕ) → code_at common_makeup i ≡ code_at (makeup_of colour) (27 + i)
common-code colour i =
    sym (get_or-append-add (own_of colour) common_makeup i (code_of []))
    ∙ ap (λ (k : ℕ). code_at (own_of colour ++ common_makeup) (k + i)) (own-length colour)
    ∙ ap (λ (codes : List Rule.Code). code_at codes (27 + i)) (sym (split colour))

pub own_at : (colour : Colour) (n i : ℕ) {r : Code} {t : List (List ℕ)} → Picks colour n → i < 27 → t ≡ rows (own_of colour)
    → SameBits r (code_of (get_or t i [])) → SameBits r (code_at (makeup_of (colour_of n)) i)
own_at colour n i {r} p h e q =
    subst (λ (k : Colour). SameBits r (code_at (makeup_of k) i)) (sym (picked colour n p))
    (subst (λ (c : Rule.Code). SameBits r c) (own_code colour i h) (read (own_of colour) i e q))

pub common-at : (colour : Colour) (m : ℕ) {r : Code} {t : List (List ℕ)} → 27 < m → t ≡ rows common_makeup
    → SameBits r (code_of (get_or t (m - 28) [])) → SameBits r (code_at (makeup_of colour) (m - 1))
common-at colour m {r} h e q =
    let i : 27 + (m - 28) ≡ m - 1 = omega arith in
    subst (λ (c : Rule.Code). SameBits r c)
    (common-code colour (m - 28) ∙ ap (λ (k : ℕ). code_at (makeup_of colour) k) i) (read common_makeup (m - 28) e q)
