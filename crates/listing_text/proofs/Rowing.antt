-- Laws of the rows of a store, listed one by one. Assumes nothing.
use mathlib.Core.Path.{◌≡◌, refl, sym, ap, ap₂, ◌∙◌}
use mathlib.Core.Bool.{Bool, true, false, ◌&&◌}
use mathlib.Core.List.{List, ◌∷◌, ◌++◌}
use Prim.Native.Nat.{ℕ, suc, ◌+◌, ◌-◌, ◌≤◌, ◌<◌}
use native.Mathlib.Omega.{arith}
use lib.Dec.{leb}
use lib.ListN.{length, get_or, take, drop, drop_of_length-le}
use borrow.Author.Tests.{leb-true}
use Rattle.rules.specs.Write.{rows_in, ends_rise}
use Rattle.listing_text.specs.Sheet.{row_line, row_lines}
use Rattle.listing_text.specs.Writing.{Room, Puts}
use Rattle.listing_text.specs.Listed.{Rising}
use Rattle.listing_text.proofs.Spelling.{split}
use Rattle.listing_text.proofs.Written.{Owes, owes-all, owes-room, owes-some, owes-none}

-- the row between two ends
abbrev pub row_to : List ℕ → ℕ → ℕ → List ℕ
row_to changes base e = take (e - base) (drop base changes)

-- a row end that neither falls nor passes the store
pub record Rises (entries base e : ℕ) (es : List ℕ) : Type 0 where
  pub low : base ≤ e
  pub high : e ≤ entries
  pub rest : ends_rise entries e es ≡ true

pub rises : (entries base e : ℕ) (es : List ℕ) → ends_rise entries base (e ∷ es) ≡ true → Rises entries base e es
unfolding ends_rise
rises entries base e es h = tests (leb base e) (leb e entries) (ends_rise entries e es) refl refl refl h
  where
    tests : (a b c : Bool) → leb base e ≡ a → leb e entries ≡ b → ends_rise entries e es ≡ c → (a && (b && c)) ≡ true → Rises entries base e es
    tests true true true p q r f = record { low = leb-true base e p; high = leb-true e entries q; rest = r }
    tests true true false p q r f = absurd (let z : ◌≡◌ {A = ℕ} 0 1 = cc in omega arith)
    tests true false c p q r f = absurd (let z : ◌≡◌ {A = ℕ} 0 1 = cc in omega arith)
    tests false b c p q r f = absurd (let z : ◌≡◌ {A = ℕ} 0 1 = cc in omega arith)

-- k rows are listed, and those from `base` on are left
pub record Rowing (changes ends marks : List ℕ) (at : ℕ) (start : List ℕ) (p base k : ℕ) (out : List ℕ) : Type 0 where
  pub few : k ≤ length ends
  pub marked : length ends ≤ length marks
  pub within : base ≤ length changes
  pub rising : ends_rise (length changes) base (drop k ends) ≡ true
  pub owes : Owes at (row_lines 1 (rows_in 0 changes ends) marks) start p (row_lines (k + 1) (rows_in base changes (drop k ends)) (drop k marks)) out

pub no_row : {changes ends marks : List ℕ} {at : ℕ} {start : List ℕ} → Room start at (row_lines 1 (rows_in 0 changes ends) marks) × Rising changes ends × (length ends ≤ length marks) → Rowing changes ends marks at start at 0 0 start
no_row (h, r, m) = record { few = omega arith; marked = m; within = omega arith; rising = r; owes = owes-all h }

module _ {changes ends marks : List ℕ} {at : ℕ} {start : List ℕ} {p base k : ℕ} {out : List ℕ} (w : Rowing changes ends marks at start p base k out) where
  pub rows-put : length ends ≤ k → Puts start at (row_lines 1 (rows_in 0 changes ends) marks) p out
  unfolding row_lines rows_in
  rows-put h = owes-none w.owes (ap (λ (es : List ℕ). row_lines (k + 1) (rows_in base changes es) (drop k marks)) (drop_of_length-le ends h))

  module _ (h : k < length ends) where
    abbrev end : ℕ
    end = get_or ends k 0

    pub end-rises : Rises (length changes) base end (drop (k + 1) ends)
    end-rises = rises (length changes) base end (drop (k + 1) ends) (sym (ap (ends_rise (length changes) base) (split ends k h)) ∙ w.rising)

    abbrev mark : ℕ
    mark = get_or marks k 0

    row_next : row_lines (k + 1) (rows_in base changes (drop k ends)) (drop k marks)
        ≡ row_line (k + 1) mark (row_to changes base end) ++ row_lines (k + 1 + 1) (rows_in end changes (drop (k + 1) ends)) (drop (k + 1) marks)
    unfolding row_lines rows_in
    row_next =
        ap₂ (λ (es ms : List ℕ). row_lines (k + 1) (rows_in base changes es) ms) (split ends k h) (split marks k (omega (arith, w.marked)))
        ∙ (let e : suc (k + 1) ≡ k + 1 + 1 = omega arith in ap (λ (n : ℕ). row_line (k + 1) mark (row_to changes base end) ++ row_lines n (rows_in end changes (drop (k + 1) ends)) (drop (k + 1) marks)) e)

    pub row_room : Room out p (row_line (k + 1) mark (row_to changes base end))
    row_room = owes-room w.owes _ _ row_next

    pub row_put : {q : ℕ} {out' : List ℕ} → Puts out p (row_line (k + 1) mark (row_to changes base end)) q out' → Rowing changes ends marks at start q end (k + 1) out'
    row_put f = record {
      few = omega arith;
      marked = w.marked;
      within = end-rises.high;
      rising = end-rises.rest;
      owes = owes-some w.owes _ _ row_next f;
    }
