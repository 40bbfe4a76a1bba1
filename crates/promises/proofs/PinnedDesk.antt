-- The desk's contracts permit one answer each. Assumes nothing.
use mathlib.Core.Path.{◌≡◌, refl, sym, ap, ◌∙◌}
use mathlib.Core.Bool.{Bool, true, false}
use mathlib.Core.List.{List, []}
use Prim.Native.Nat.{ℕ, ◌-◌, ◌≤◌}
use native.Mathlib.Omega.{arith}
use lib.Dec.{leb}
use lib.ListN.{length, get_or, take, drop, length-drop}
use lib.Seq.{length-take-le}
use Rattle.listing_text.specs.Lines.{lines_of, LineTo}
use Rattle.listing_text.specs.Listed.{Prints}
use Rattle.ledger.specs.Said.{line_room, Tells}
use Rattle.ledger.specs.declared.Ledger.{Ledger}
use Rattle.ledger.specs.declared.Verdict.{Verdict}
use Rattle.booking.specs.Booked.{Given, Finds}
use Rattle.exports.specs.Verdict.{Unread, FindsForC}
use Rattle.promises.specs.PinnedDesk.{PutsPinned, LineEndPinned, TellsPinned, EnterPinned, AddUpPinned, ReadFormPinned, JudgePinned, MoveFormPinned, One, VerdictPinned, ForCVerdictPinned, BookPagePinned}
use Rattle.promises.proofs.OneAnswer.{settled-with}

pub puts-pinned : PutsPinned
puts-pinned before at text = settled-with (λ r ys g. (g.place, g.array))

pub line-end-pinned : LineEndPinned
line-end-pinned text at r s g h =
    let same = ap (λ (ls : List (List ℕ)). length (get_or ls 0 [])) (sym g.lines ∙ h.lines) in
    omega (arith, same, long r g, long s h, g.behind, h.behind)
  where
    long : (e : ℕ) → LineTo text at e → length (take (e - at) (drop at text)) ≡ e - at
    long e l = length-take-le (e - at) (drop at text) (omega (arith, length-drop at text, l.inside, l.behind))

-- what is told by a test of Bool
abbrev pub Told : List ℕ → List ℕ → Bool → ℕ → List ℕ → Type 0
Told text before t n out = elim t [ true ↦ Prints before text n out | false ↦ (n ≡ 0) × (out ≡ before) ]

pub told-once : (text before : List ℕ) (t : Bool) (r s : ℕ) (xs ys : List ℕ) → Told text before t r xs → Told text before t s ys → (r ≡ s) × (xs ≡ ys)
told-once text before true r s xs ys g h = (g.count ∙ sym h.count, g.array ∙ sym h.array)
told-once text before false r s xs ys g h = (g.0 ∙ sym h.0, g.1 ∙ sym h.1)

pub tells-pinned : TellsPinned
tells-pinned name text before r s xs ys = told-once text before (line_room name (length before)) r s xs ys

pub enter-pinned : EnterPinned
enter-pinned name b v out r s xs ys g h =
    (λ i. record { ledger = (g.books ∙ sym h.books) i; text = (g.length-is ∙ sym h.length-is) i }, g.array ∙ sym h.array)

pub add-up-pinned : AddUpPinned
add-up-pinned text quota starts r s xs ys g h = (
  λ i. record {
    number = (g.number ∙ sym h.number) i;
    ledger = (g.books ∙ sym h.books) i;
    at = (g.at ∙ sym h.at) i;
    other = (g.other ∙ sym h.other) i;
  },
  g.array ∙ sym h.array,
)

pub read-form-pinned : ReadFormPinned
read-form-pinned text boxes places r s xs ys ps qs g h = (g.formed ∙ sym h.formed, g.boxes_are ∙ sym h.boxes_are, g.places_are ∙ sym h.places_are)

pub judge-pinned : JudgePinned
judge-pinned form boxes places settings src changes ends marks r s xs ys es fs ms ns g h =
    (g.verdict ∙ sym h.verdict, g.changes ∙ sym h.changes, g.ends ∙ sym h.ends, g.marks ∙ sym h.marks)

pub verdict-pinned : VerdictPinned
verdict-pinned g r s boxes boxes' places places' changes changes' ends ends' marks marks' a b = (
  a.verdict ∙ sym b.verdict,
  a.boxes_are ∙ sym b.boxes_are,
  a.places_are ∙ sym b.places_are,
  a.changes_are ∙ sym b.changes_are,
  a.ends_are ∙ sym b.ends_are,
  a.marks_are ∙ sym b.marks_are,
)

abbrev Found : Given → Bool → Verdict → List ℕ → List ℕ → List ℕ → List ℕ → List ℕ → Type 0
Found g t v b p c e m = elim t [ true ↦ Finds g v b p c e m | false ↦ Unread g v b p c e m ]

pub for-c-verdict-pinned : ForCVerdictPinned
for-c-verdict-pinned encoding g r s boxes boxes' places places' changes changes' ends ends' marks marks' = by (leb encoding 2)
  where
    by : (t : Bool) → Found g t r boxes places changes ends marks → Found g t s boxes' places' changes' ends' marks'
        → (r ≡ s) × (boxes ≡ boxes') × (places ≡ places') × (changes ≡ changes') × (ends ≡ ends') × (marks ≡ marks')
    by true a b = verdict-pinned g r s boxes boxes' places places' changes changes' ends ends' marks marks' a b
    by false a b = (
      a.verdict ∙ sym b.verdict,
      a.boxes_are ∙ sym b.boxes_are,
      a.places_are ∙ sym b.places_are,
      a.changes_are ∙ sym b.changes_are,
      a.ends_are ∙ sym b.ends_are,
      a.marks_are ∙ sym b.marks_are,
    )

pub book-page-pinned : BookPagePinned
book-page-pinned name b g out r s boxes boxes' places places' changes changes' ends ends' marks marks' text text' x y =
    let once = verdict-pinned g r.verdict s.verdict boxes boxes' places places' changes changes' ends ends' marks marks' x.found y.found in (
      λ i. record { verdict = once.0 i; ledger = (x.ledger ∙ sym y.ledger) i; text = (x.length-is ∙ sym y.length-is) i },
      once.1,
      once.2,
      once.3,
      once.4,
      once.5,
      x.array ∙ sym y.array,
    )

pub move-form-pinned : MoveFormPinned
move-form-pinned form rows across down boxes places lent lent' r s xs ys ps qs a b = by r refl
  where
    same : r ≡ s
    same = a.told ∙ sym b.told

    by : (t : Bool) → r ≡ t → (r ≡ s) × (xs ≡ ys) × (ps ≡ qs)
    by true e = (same, a.boxes_are e ∙ sym (b.boxes_are (sym same ∙ e)), a.places_are e ∙ sym (b.places_are (sym same ∙ e)))
    by false e = (same, a.boxes_kept e ∙ sym (b.boxes_kept (sym same ∙ e)), a.places_kept e ∙ sym (b.places_kept (sym same ∙ e)))
