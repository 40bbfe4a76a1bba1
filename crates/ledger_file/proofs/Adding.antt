-- Laws of the lines one behind the other: what the loop over them keeps. Assumes nothing.
use mathlib.Core.Path.{◌≡◌, refl, sym, ap, ap₂, ◌∙◌, subst}
use mathlib.Core.Bool.{Bool, true, false}
use mathlib.Core.List.{List, [], ◌∷◌, ◌++◌}
use Prim.Native.Nat.{ℕ, ◌+◌, ◌-◌, ◌≤◌, ◌<◌}
use native.Mathlib.Omega.{arith}
use lib.Dec.{eqb}
use lib.IntN.{ℤ}
use lib.ListN.{length, take, drop, take-append-drop, length-drop}
use lib.Seq.{length-take-le, drop-drop}
use borrow.Author.Tests.{eq-eqb, ne_eqb}
use Rattle.rules.specs.Pages.{overlaid}
use Rattle.listing_text.specs.Text.{newline}
use Rattle.listing_text.specs.Lines.{lines_of, lines_behind, LineTo}
use Rattle.listing_text.proofs.Piecing.{pieces-some}
use Rattle.ledger.specs.Balance.{opened}
use Rattle.ledger.specs.declared.Ledger.{Ledger}
use Rattle.ledger_file.specs.Sums.{Sum, Went, on, wrong, taken, Added, last_fault, ended, adding, added_up, AddsUp}
use Rattle.ledger_file.specs.Tallying.{sum_in, Standing, Onward, Stopped, told, Tells}
use Rattle.ledger_file.specs.declared.AddedUp.{AddedUp}
use Rattle.ledger_file.specs.declared.tally.Tally.{Tally}

-- ---- The end

module _ (at : ℕ) (line : List ℕ) (s : Sum) where
  tells-fault : {n : ℕ} → last_fault line s ≡ n → Tells (ended at line s) (told n s.books at 0)
  tells-fault e = record { number = sym e; at = refl; other = refl; books = refl }

  abbrev fault : Bool → Bool → ℕ
  fault x y = elim x [ true ↦ elim y [ true ↦ 0 | false ↦ 3 ] | false ↦ 1 ]

  pub end_line : 0 < length line → Tells (ended at line s) (told 1 s.books at 0)
  end_line l = tells-fault (ap (λ (x : Bool). fault x (eqb s.books.pages s.closed.pages)) (ne_eqb (length line) 0 (λ z. omega arith)))

  module _ (l : length line ≡ 0) where
    pub end-total : (s.books.pages ≡ s.closed.pages → ⊥) → Tells (ended at line s) (told 3 s.books at 0)
    end-total n = tells-fault (ap₂ fault (eq-eqb (length line) 0 l) (ne_eqb s.books.pages s.closed.pages n))

    pub end-well : s.books.pages ≡ s.closed.pages → Tells (ended at line s) (told 0 s.books at 0)
    end-well n = tells-fault (ap₂ fault (eq-eqb (length line) 0 l) (eq-eqb s.books.pages s.closed.pages n))

-- ---- What the loop keeps

-- the sum of the lines from a place on is that of all; behind the pages' entries stands what was lent
pub record Going (text : List ℕ) (read : Added) (lent : List ℕ) (t : Tally) (starts : List ℕ) (at : ℕ) : Type 0 where
  pub rest : adding text (length lent) at (sum_in t starts) (lines_of (drop at text)) ≡ read
  pub behind : drop t.books.pages starts ≡ drop t.books.pages lent
  pub inside : at ≤ length text
  pub long : length starts ≡ length lent
  pub stands : Standing text t.books.pages starts

abbrev pub tally_of : Ledger → Tally
tally_of b = record { books = b; closed = b }

pub going_start : (text lent : List ℕ) (quota : ℤ) → Going text (added_up text quota (length lent)) lent (tally_of (opened quota)) lent 0
going_start text lent quota = record {
  rest = refl;
  behind = refl;
  inside = omega arith;
  long = refl;
  stands = record { fits = omega arith; tabbed = λ k l. absurd (omega arith) };
}

-- the entries of the pages, over what was lent, are what is lent now
over : (n : ℕ) (starts lent : List ℕ) → n ≤ length starts → drop n starts ≡ drop n lent → starts ≡ overlaid (take n starts) lent
unfolding overlaid
over n starts lent h e = sym (rw (length-take-le n starts h) (ap (λ (l : List ℕ). take n starts ++ l) (sym e) ∙ take-append-drop n starts))

-- what a line leads to, with the lines behind it
abbrev pub after : List ℕ → ℕ → ℕ → Sum → List ℕ → List (List ℕ) → Went → Added
after text room at s l ls went =
    elim went [
      | on s' ↦ adding text room (at + length l + 1) s' ls
      | wrong number other ↦ record { number = number; at = at; other = other; sum = s }
    ]

pub adding-more : (text : List ℕ) (room at : ℕ) (s : Sum) (l : List ℕ) (ls : List (List ℕ)) → 0 < length ls → adding text room at s (l ∷ ls) ≡ after text room at s l ls (taken text room at l s)
unfolding adding
adding-more text room at s l [] h = absurd (omega arith)
adding-more text room at s l (m ∷ ls) h = refl

adding-last : (text : List ℕ) (room at : ℕ) (s : Sum) (l : List ℕ) → adding text room at s (l ∷ []) ≡ ended at l s
unfolding adding
adding-last text room at s l = refl

module _ (quota : ℤ) {text : List ℕ} {lent : List ℕ} {t : Tally} {starts : List ℕ} {at : ℕ} (g : Going text (added_up text quota (length lent)) lent t starts at)
    (end : ℕ) (l : LineTo text at end) where
  abbrev line : List ℕ
  line = take (end - at) (drop at text)

  line-long : length line ≡ end - at
  line-long = length-take-le (end - at) (drop at text) (omega (arith, length-drop at text, l.inside))

  abbrev read : Added
  read = added_up text quota (length lent)

  adds : {r : AddedUp} {starts' : List ℕ} {s : Added} → read ≡ s → Tells s r → starts' ≡ overlaid s.sum.starts lent → AddsUp text quota lent r starts'
  adds {r} {starts'} {s} e w a = record {
    number = w.number ∙ sym (ap (λ (x : Added). x.number) e);
    at = w.at ∙ sym (ap (λ (x : Added). x.at) e);
    other = w.other ∙ sym (ap (λ (x : Added). x.other) e);
    books = w.books ∙ sym (ap (λ (x : Added). x.sum.books) e);
    array = a ∙ sym (ap (λ (x : Added). overlaid x.sum.starts lent) e);
  }

  kept : starts ≡ overlaid (take t.books.pages starts) lent
  kept = over t.books.pages starts lent g.stands.fits g.behind

  -- the last line
  pub going-ends : end ≡ length text → {r : AddedUp} → ((xs ss : List ℕ) → length xs ≡ end - at → Tells (ended at xs (sum_in t ss)) r) → AddsUp text quota lent r starts
  unfolding lines_behind
  going-ends e {r} w =
      let n : lines_behind text end ≡ [] = rw (lines_behind, eq-eqb end (length text) e) in
      adds (sym g.rest ∙ ap (adding text (length lent) at (sum_in t starts)) (l.lines ∙ ap (λ (ls : List (List ℕ)). line ∷ ls) n) ∙ adding-last text (length lent) at (sum_in t starts) line)
      (w line starts line-long) kept

  module _ (ne : end ≡ length text → ⊥) where
    abbrev rest : List (List ℕ)
    rest = lines_of (drop (end + 1) text)

    opens : read ≡ after text (length lent) at (sum_in t starts) line rest (taken text (length starts) at line (sum_in t starts))
    unfolding lines_behind
    opens =
        let n : lines_behind text end ≡ rest = rw (lines_behind, ne_eqb end (length text) ne) in
        sym g.rest
        ∙ ap (adding text (length lent) at (sum_in t starts)) (l.lines ∙ ap (λ (ls : List (List ℕ)). line ∷ ls) n)
        ∙ adding-more text (length lent) at (sum_in t starts) line rest (pieces-some newline (drop (end + 1) text))
        ∙ ap (λ (m : ℕ). after text (length lent) at (sum_in t starts) line rest (taken text m at line (sum_in t starts))) (sym g.long)

    pub going-stops : (number other : ℕ) (starts' : List ℕ) → Stopped (taken text (length starts) at line (sum_in t starts)) starts number other starts'
        → {r : AddedUp} → r ≡ told number t.books at other → AddsUp text quota lent r starts'
    going-stops number other starts' p {r} e =
        adds (opens ∙ ap (after text (length lent) at (sum_in t starts) line rest) p.is)
        (record { number = ap (λ (x : AddedUp). x.number) e; at = ap (λ (x : AddedUp). x.at) e; other = ap (λ (x : AddedUp). x.other) e; books = ap (λ (x : AddedUp). x.ledger) e })
        (p.same ∙ kept)

    pub going_on : (t' : Tally) (starts' : List ℕ) → Onward text (taken text (length starts) at line (sum_in t starts)) t.books.pages starts t' starts'
        → length starts' ≡ length starts → Going text (added_up text quota (length lent)) lent t' starts' (end + 1)
    going_on t' starts' o long = record {
      rest =
          sym (opens ∙ ap (after text (length lent) at (sum_in t starts) line rest) o.is ∙ (let z : at + length line + 1 ≡ end + 1 = omega (arith, line-long, l.behind) in ap (λ (n : ℕ). adding text (length lent) n (sum_in t' starts') rest) z));
      behind = o.behind ∙ further t.books.pages t'.books.pages o.more g.behind;
      inside = below end (length text) l.inside ne;
      long = long ∙ g.long;
      stands = o.stands;
    }
      where
        below : (a b : ℕ) → a ≤ b → (a ≡ b → ⊥) → a + 1 ≤ b
        below a b p q = omega arith

        further : (m n : ℕ) → m ≤ n → drop m starts ≡ drop m lent → drop n starts ≡ drop n lent
        further m n h e =
            let z : n ≡ m + (n - m) = omega arith in
            ap (λ (k : ℕ). drop k starts) z ∙ sym (drop-drop (n - m) m starts) ∙ ap (drop (n - m)) e ∙ drop-drop (n - m) m lent ∙ sym (ap (λ (k : ℕ). drop k lent) z)

-- a quota that is read back from its bits
pub adds-as : {text lent : List ℕ} {p q : ℤ} {r : AddedUp} {starts' : List ℕ} → p ≡ q → AddsUp text p lent r starts' → AddsUp text q lent r starts'
adds-as {text} {lent} {r = r} {starts' = starts'} e a = subst (λ (x : ℤ). AddsUp text x lent r starts') e a
