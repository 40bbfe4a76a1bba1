-- Laws of the lent arrays: rows that are kept one after the other lie behind each other in the store, and so do their ends. Assumes nothing.
use mathlib.Core.Path.{◌≡◌, refl, sym, ap, ap₂, ◌∙◌}
use mathlib.Core.List.{List, [], ◌∷◌, ◌++◌, append_assoc, append-nil}
use Prim.Native.Nat.{ℕ, suc, ◌+◌, ◌-◌, ◌≤◌, ◌<◌}
use native.Mathlib.Omega.{arith}
use lib.ListN.{length, take, drop, set, length-append, length-drop}
use lib.Seq.{take_at, drop_at, drop-drop, set_at, drop-cons}
use Rattle.rules.specs.Pages.{entries, overlaid, joined, ends_from}
use Rattle.rules.specs.Write.{rows_in}

-- ---- An array that begins anew

pub length-overlaid : (xs array : List ℕ) → length xs ≤ length array → length (overlaid xs array) ≡ length array
unfolding overlaid
length-overlaid xs array h = length-append xs (drop (length xs) array) ∙ (let e = length-drop (length xs) array in omega arith)

pub overlaid-nothing : (array : List ℕ) → overlaid [] array ≡ array
unfolding overlaid
overlaid-nothing array = refl

-- the front of an array, and then an array that begins anew behind it
pub overlaid-behind : (xs ys array : List ℕ) (n : ℕ) → length xs ≡ n → take n (overlaid xs array) ++ overlaid ys (drop n (overlaid xs array)) ≡ overlaid (xs ++ ys) array
unfolding overlaid
overlaid-behind xs ys array n e =
    ap₂ (λ (a b : List ℕ). a ++ (ys ++ drop (length ys) b)) (take_at xs (drop (length xs) array) n e) (drop_at xs (drop (length xs) array) n e)
    ∙ sym (append_assoc xs ys (drop (length ys) (drop (length xs) array)))
    ∙ ap (λ (l : List ℕ). (xs ++ ys) ++ l) (drop-drop (length ys) (length xs) array ∙ ap (λ (k : ℕ). drop k array) (sym (length-append xs ys)))

-- one entry more
pub overlaid-one : (xs array : List ℕ) (x n : ℕ) → length xs ≡ n → n < length array → set (overlaid xs array) n x ≡ overlaid (xs ++ x ∷ []) array
unfolding overlaid
overlaid-one xs array x n e h =
    ap (λ (l : List ℕ). set (xs ++ l) n x) (drop-cons array (length xs) 0 (omega arith))
    ∙ set_at xs _ (drop (suc (length xs)) array) x n e
    ∙ sym (append_assoc xs (x ∷ []) (drop (length (xs ++ x ∷ [])) array) ∙ ap (λ (k : ℕ). xs ++ x ∷ drop k array) (length-append xs (x ∷ []) ∙ (let q : length xs + 1 ≡ suc (length xs) = omega arith in q)))

-- ---- Rows behind each other

pub length-joined : (rows : List (List ℕ)) → length (joined rows) ≡ entries rows
unfolding joined entries
length-joined [] = refl
length-joined (r ∷ rows) = length-append r (joined rows) ∙ ap (λ (n : ℕ). length r + n) (length-joined rows)

pub joined_snoc : (rows : List (List ℕ)) (r : List ℕ) → joined (rows ++ r ∷ []) ≡ joined rows ++ r
unfolding joined
joined_snoc [] r = append-nil r
joined_snoc (x ∷ rows) r = ap (λ (l : List ℕ). x ++ l) (joined_snoc rows r) ∙ sym (append_assoc x (joined rows) r)

-- ---- Their ends

pub length-ends : (base : ℕ) (rows : List (List ℕ)) → length (ends_from base rows) ≡ length rows
unfolding ends_from
length-ends base [] = refl
length-ends base (r ∷ rows) = ap suc (length-ends (base + length r) rows)

pub ends_snoc : (base : ℕ) (rows : List (List ℕ)) (r : List ℕ) → ends_from base (rows ++ r ∷ []) ≡ ends_from base rows ++ (base + entries rows + length r) ∷ []
unfolding ends_from entries
ends_snoc base [] r = ap (λ (n : ℕ). n ∷ []) (let q : base + length r ≡ base + 0 + length r = omega arith in q)
ends_snoc base (x ∷ rows) r =
    ap (λ (l : List ℕ). (base + length x) ∷ l)
    (ends_snoc (base + length x) rows r ∙ ap (λ (n : ℕ). ends_from (base + length x) rows ++ n ∷ []) (let q : base + length x + entries rows + length r ≡ base + (length x + entries rows) + length r = omega arith in q))

-- ---- Rows behind rows

pub entries-append : (rs qs : List (List ℕ)) → entries (rs ++ qs) ≡ entries rs + entries qs
unfolding entries
entries-append [] qs = let z : entries qs ≡ 0 + entries qs = omega arith in z
entries-append (r ∷ rs) qs = ap (λ (n : ℕ). length r + n) (entries-append rs qs) ∙ (let z : length r + (entries rs + entries qs) ≡ length r + entries rs + entries qs = omega arith in z)

pub joined-append : (rs qs : List (List ℕ)) → joined (rs ++ qs) ≡ joined rs ++ joined qs
unfolding joined
joined-append [] qs = refl
joined-append (r ∷ rs) qs = ap (λ (l : List ℕ). r ++ l) (joined-append rs qs) ∙ sym (append_assoc r (joined rs) (joined qs))

pub ends-append : (base : ℕ) (rs qs : List (List ℕ)) → ends_from base (rs ++ qs) ≡ ends_from base rs ++ ends_from (base + entries rs) qs
unfolding ends_from entries
ends-append base [] qs = ap (λ (n : ℕ). ends_from n qs) (let z : base ≡ base + 0 = omega arith in z)
ends-append base (r ∷ rs) qs =
    ap (λ (l : List ℕ). (base + length r) ∷ l)
    (ends-append (base + length r) rs qs ∙ ap (λ (n : ℕ). ends_from (base + length r) rs ++ ends_from n qs) (let z : base + length r + entries rs ≡ base + (length r + entries rs) = omega arith in z))

-- ---- Rows that are read from a store by their ends

-- the rows from a place on
rows-from : (front : List ℕ) (rows : List (List ℕ)) (rest : List ℕ) (base : ℕ) → length front ≡ base → rows_in base (front ++ (joined rows ++ rest)) (ends_from base rows) ≡ rows
unfolding rows_in joined ends_from
rows-from front [] rest base e = refl
rows-from front (r ∷ rows) rest base e =
    ap₂ (λ (x : List ℕ) (l : List (List ℕ)). x ∷ l)
    (ap₂ (λ (n : ℕ) (l : List ℕ). take n l) (let q : base + length r - base ≡ length r = omega arith in q) (drop_at front ((r ++ joined rows) ++ rest) base e)
    ∙ ap (take (length r)) (append_assoc r (joined rows) rest)
    ∙ take_at r (joined rows ++ rest) (length r) refl)
    (ap (λ (l : List ℕ). rows_in (base + length r) l (ends_from (base + length r) rows)) (ap (λ (l : List ℕ). front ++ l) (append_assoc r (joined rows) rest) ∙ sym (append_assoc front r (joined rows ++ rest)))
    ∙ rows-from (front ++ r) rows rest (base + length r) (length-append front r ∙ ap (λ (n : ℕ). n + length r) e))

-- rows that were joined are read back by their ends, whatever lies behind them
pub rows_back : (rows : List (List ℕ)) (rest : List ℕ) → rows_in 0 (joined rows ++ rest) (ends_from 0 rows) ≡ rows
rows_back rows rest = rows-from [] rows rest 0 refl

-- as many rows as row ends
pub length-rows_in : (base : ℕ) (changes ends : List ℕ) → length (rows_in base changes ends) ≡ length ends
unfolding rows_in
length-rows_in base changes [] = refl
length-rows_in base changes (e ∷ es) = ap suc (length-rows_in e changes es)
