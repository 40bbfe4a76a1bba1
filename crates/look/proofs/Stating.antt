-- What a byte, a box, a place or a form that was found is said to be, case by case. Assumes nothing.
use mathlib.Core.Path.{◌≡◌, refl, sym, ap, ap₂, ◌∙◌, subst}
use mathlib.Core.Bool.{Bool, true, false, not, cond}
use mathlib.Core.List.{List, [], ◌∷◌}
use Prim.Native.Nat.{ℕ, suc, ◌+◌, ◌-◌, ◌*◌, ◌/◌, ◌%◌, ◌≤◌, ◌<◌}
use native.Mathlib.Omega.{arith}
use lib.Dec.{eqb, leb, ltb}
use lib.IntN.{ℤ}
use lib.ListN.{length}
use Rattle.std.specs.Prelude.{count_by}
use Rattle.std.proofs.lemmas.List.Recursion.{is_count_by}
use borrow.Author.Tests.{lt-ltb, le-ltb, eq-eqb, ne_eqb}
use Rattle.heads.specs.Form.{Page, black_in}
use Rattle.heads.specs.declared.Box.{Box}
use Rattle.ledger.specs.Books.{left, is_below, size}
use Rattle.ledger.specs.Balance.{opened}
use Rattle.ledger.specs.Phrases.{one}
use Rattle.ledger.specs.declared.Ledger.{Ledger}
use Rattle.ledger.specs.declared.Verdict.{Verdict}
use Rattle.look.specs.Pieces.{said, Tells, larger, licence, plot, bar, count_of, read_text, apart, is_there, found_at, found, sheet_numbers}
use Rattle.look.specs.Pieces.{edges, state_of, box_text, holds, place_state, place_text}

-- ---- A byte that is a mark of the file

-- ---- The larger of two

pub larger-second : (a b : ℕ) → a < b → b ≡ larger a b
larger-second a b h = sym (rw (larger, lt-ltb a b h))

pub larger-first : (a b : ℕ) → b ≤ a → a ≡ larger a b
larger-first a b h = sym (rw (larger, le-ltb a b h))

-- ---- Boxes

module _ (rows : ℕ) (b : Box) (black doubt tick : ℕ) where
  pub box-unread : rows < b.bottom → 3 ≡ state_of rows b black doubt tick
  box-unread h = sym (rw (state_of, lt-ltb rows b.bottom h))

  pub box-empty : b.bottom ≤ rows → black < doubt → 0 ≡ state_of rows b black doubt tick
  box-empty h d = sym (rw (state_of, le-ltb rows b.bottom h, lt-ltb black doubt d))

  pub box-doubt : b.bottom ≤ rows → doubt ≤ black → black < tick → 1 ≡ state_of rows b black doubt tick
  box-doubt h d t = sym (rw (state_of, le-ltb rows b.bottom h, le-ltb black doubt d, lt-ltb black tick t))

  pub box-ticked : b.bottom ≤ rows → doubt ≤ black → tick ≤ black → 2 ≡ state_of rows b black doubt tick
  box-ticked h d t = sym (rw (state_of, le-ltb rows b.bottom h, le-ltb black doubt d, le-ltb black tick t))

-- ---- Places

pub holds-black : (kind black asked : ℕ) → kind ≡ 1 → leb asked black ≡ holds kind black asked
holds-black kind black asked e = sym (rw (holds, eq-eqb kind 1 e))

pub holds-white : (kind black asked : ℕ) → (kind ≡ 1 → ⊥) → leb black asked ≡ holds kind black asked
holds-white kind black asked e = sym (rw (holds, ne_eqb kind 1 e))

module _ (rows : ℕ) (b : Box) (kind black asked : ℕ) where
  pub place-unread : rows < b.bottom → 0 ≡ place_state rows b kind black asked
  place-unread h = sym (rw (place_state, lt-ltb rows b.bottom h))

  abbrev by-holds : Bool → ℕ
  by-holds t = elim t [ true ↦ 1 | false ↦ 2 + one (not (eqb kind 1)) ]

  pub place-held : b.bottom ≤ rows → holds kind black asked ≡ true → 1 ≡ place_state rows b kind black asked
  place-held h e = sym (rw (place_state, le-ltb rows b.bottom h) (ap by-holds e))

  pub place-failed : {x : ℕ} → b.bottom ≤ rows → holds kind black asked ≡ false → x ≡ one (not (eqb kind 1)) → 2 + x ≡ place_state rows b kind black asked
  place-failed h e f = ap (λ (n : ℕ). 2 + n) f ∙ sym (rw (place_state, le-ltb rows b.bottom h) (ap by-holds e))

-- ---- Where the form was found

abbrev by-there : Bool → Bool → Bool → ℕ
by-there l u t = elim t [ true ↦ 20 | false ↦ 21 + 2 * one l + one u ]

pub found-there : (l u : Bool) (a d : ℕ) → is_there a d ≡ true → 20 ≡ found_at l a u d
found-there l u a d e = sym (ap (by-there l u) e)

pub found-moved : (l u : Bool) (a d : ℕ) {x y : ℕ} → is_there a d ≡ false → x ≡ one l → y ≡ one u → 21 + 2 * x + y ≡ found_at l a u d
found-moved l u a d e f g = ap₂ (λ (m n : ℕ). 21 + 2 * m + n) f g ∙ sym (ap (by-there l u) e)

-- ---- Rows with a mark

-- the library's count is that of the definition
pub count-by : (m : ℕ) (xs : List ℕ) → count_by (λ x. eqb x m) xs ≡ count_of m xs
unfolding count_of
count-by m xs = sym (is_count_by (count_of m) (λ x. eqb x m) refl step xs)
  where
    by : (t : Bool) (n : ℕ) → elim t [ true ↦ suc n | false ↦ n ] ≡ cond t (1 + n) n
    by true n = omega arith
    by false n = refl

    step : (x : ℕ) (ys : List ℕ) → count_of m (x ∷ ys) ≡ cond (eqb x m) (1 + count_of m ys) (count_of m ys)
    step x ys = by (eqb x m) (count_of m ys)

-- ---- Boxes and places by their edges

pub tells_as : {can : Bool} {n : ℕ} {out : List ℕ} {r : ℕ} {after x y : List ℕ} → x ≡ y → Tells can n x out r after → Tells can n y out r after
tells_as {can} {n} {out} {r} {after} e t = subst (λ (l : List ℕ). Tells can n l out r after) e t

pub edges-as : (k : ℕ) (b : Box) (black name asked : ℕ) {w h : ℕ} → w ≡ b.right - b.left → h ≡ b.bottom - b.top
    → said (b.left ∷ b.top ∷ w ∷ h ∷ black ∷ name ∷ b.right ∷ b.bottom ∷ asked ∷ []) k ≡ edges k b black name asked
edges-as k b black name asked e f = ap₂ (λ (w h : ℕ). said (b.left ∷ b.top ∷ w ∷ h ∷ black ∷ name ∷ b.right ∷ b.bottom ∷ asked ∷ []) k) e f

pub box-as : (p : Page) (b : Box) (which doubt tick : ℕ) {rows black st : ℕ} → rows ≡ length p.rows → black ≡ black_in p b → st ≡ state_of rows b black doubt tick
    → edges (29 + 4 * (which % 2) + st) b black (which / 2) 0 ≡ box_text p b which doubt tick
box-as p b which doubt tick {rows} {black} e f g =
    ap (λ (s : ℕ). edges (29 + 4 * (which % 2) + s) b black (which / 2) 0) (g ∙ ap (λ (r : ℕ). state_of r b black doubt tick) e)
    ∙ ap (λ (k : ℕ). edges (29 + 4 * (which % 2) + state_of (length p.rows) b k doubt tick) b k (which / 2) 0) f

pub place-as : (p : Page) (b : Box) (kind asked line : ℕ) {rows black st : ℕ} → rows ≡ length p.rows → black ≡ black_in p b → st ≡ place_state rows b kind black asked
    → edges (37 + st) b black line asked ≡ place_text p b kind asked line
place-as p b kind asked line {rows} {black} e f g =
    ap (λ (s : ℕ). edges (37 + s) b black line asked) (g ∙ ap (λ (r : ℕ). place_state r b kind black asked) e)
    ∙ ap (λ (k : ℕ). edges (37 + place_state (length p.rows) b kind k asked) b k line asked) f

-- ---- Bars and plots

pub plot-as : (end : Bool) (b : Ledger) {q m h : ℕ} → q ≡ licence b.quota → m ≡ larger q b.heads → h ≡ one end
    → said (b.pages ∷ m ∷ b.heads ∷ q ∷ 0 ∷ 0 ∷ 0 ∷ 0 ∷ 0 ∷ []) (11 + 3 * h) ≡ plot end b
plot-as end b {q} {m} {h} e f g =
    ap₂ (λ (x y : ℕ). said (b.pages ∷ x ∷ b.heads ∷ q ∷ 0 ∷ 0 ∷ 0 ∷ 0 ∷ 0 ∷ []) (11 + 3 * y)) f g
    ∙ ap (λ (x : ℕ). said (b.pages ∷ larger x b.heads ∷ b.heads ∷ x ∷ 0 ∷ 0 ∷ 0 ∷ 0 ∷ 0 ∷ []) (11 + 3 * one end)) e

pub bar-as : (v : Verdict) (b : Ledger) {x h : ℕ} → x ≡ b.pages - 1 → h ≡ one (not (eqb v.number 0))
    → said (x ∷ b.heads ∷ 0 ∷ 0 ∷ 0 ∷ 0 ∷ 0 ∷ 0 ∷ 0 ∷ []) (12 + h) ≡ bar v b
bar-as v b e f = ap₂ (λ (m n : ℕ). said (m ∷ b.heads ∷ 0 ∷ 0 ∷ 0 ∷ 0 ∷ 0 ∷ 0 ∷ 0 ∷ []) (12 + n)) e f

pub licence-none : (quota : ℤ) → is_below (left (opened quota)) ≡ true → 0 ≡ licence quota
licence-none quota e = sym (rw e)

pub licence-some : (quota : ℤ) {n : ℕ} → is_below (left (opened quota)) ≡ false → n ≡ size (left (opened quota)) → n ≡ licence quota
licence-some quota e f = f ∙ sym (rw e)

-- ---- Sheets, readings and rows

pub sheet-as : (k columns rows most : ℕ) {m : ℕ} → m ≡ larger most rows → said (columns ∷ rows ∷ m ∷ 0 ∷ 0 ∷ 0 ∷ 0 ∷ 0 ∷ 0 ∷ []) k ≡ said (sheet_numbers columns rows most) k
sheet-as k columns rows most e = ap (λ (m : ℕ). said (columns ∷ rows ∷ m ∷ 0 ∷ 0 ∷ 0 ∷ 0 ∷ 0 ∷ 0 ∷ []) k) e

pub at-as : (ns : List ℕ) (n : ℕ) {h k : ℕ} → h ≡ k → said ns (n + h) ≡ said ns (n + k)
at-as ns n e = ap (λ (h : ℕ). said ns (n + h)) e

pub read_as : (columns : ℕ) (marks : List ℕ) {a b : ℕ} → a ≡ count_of 1 marks → b ≡ count_of 2 marks
    → said (columns ∷ length marks ∷ a ∷ b ∷ 0 ∷ 0 ∷ 0 ∷ 0 ∷ 0 ∷ []) 19 ≡ read_text columns marks
read_as columns marks e f = ap₂ (λ (a b : ℕ). said (columns ∷ length marks ∷ a ∷ b ∷ 0 ∷ 0 ∷ 0 ∷ 0 ∷ 0 ∷ []) 19) e f

pub found_as : (x y s t : ℕ) {a d k : ℕ} → a ≡ apart x s → d ≡ apart y t → k ≡ found_at (ltb x s) a (ltb y t) d
    → said (a ∷ d ∷ 0 ∷ 0 ∷ 0 ∷ 0 ∷ 0 ∷ 0 ∷ 0 ∷ []) k ≡ found x y s t
found_as x y s t {a} {d} e f g =
    ap (λ (k : ℕ). said (a ∷ d ∷ 0 ∷ 0 ∷ 0 ∷ 0 ∷ 0 ∷ 0 ∷ 0 ∷ []) k) g
    ∙ ap₂ (λ (m n : ℕ). said (m ∷ n ∷ 0 ∷ 0 ∷ 0 ∷ 0 ∷ 0 ∷ 0 ∷ 0 ∷ []) (found_at (ltb x s) m (ltb y t) n)) e f

-- what cannot be said is not, and what can is as where nothing is asked
pub tells-never : {can : Bool} {n : ℕ} {text out : List ℕ} → can ≡ false → Tells can n text out 0 out
tells-never {can} {n} {text} {out} e =
    subst (λ (t : Bool). Tells t n text out 0 out) (sym e) (record { written = λ h. absurd (let z : ◌≡◌ {A = ℕ} 0 1 = cc in omega arith); kept = λ h. (refl, refl) })

pub tells-can : {can : Bool} {n : ℕ} {out : List ℕ} {r : ℕ} {after x y : List ℕ} → can ≡ true → x ≡ y → Tells true n x out r after → Tells can n y out r after
tells-can {can} {n} {out} {r} {after} {x} {y} e f t = subst (λ (b : Bool). Tells b n y out r after) (sym e) (tells_as f t)

pub place_of : (p : Page) {b b' : Box} {k k' a a' l l' : ℕ} → b ≡ b' → k ≡ k' → a ≡ a' → l ≡ l' → place_text p b k a l ≡ place_text p b' k' a' l'
place_of p {b' = b'} {k' = k'} {a = a} {l = l} e f g h = ap₂ (λ (x : Box) (y : ℕ). place_text p x y a l) e f ∙ ap₂ (λ (x y : ℕ). place_text p b' k' x y) g h
