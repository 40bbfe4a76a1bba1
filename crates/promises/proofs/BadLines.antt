-- A13 is met: what the rules say of pages with bad lines, over the contracts of the writer and of `decode`. Assumes nothing.
use mathlib.Core.Path.{◌≡◌, refl, sym, ap, ◌∙◌, subst}
use mathlib.Core.Logic.{inl}
use mathlib.Core.Bool.{Bool, true}
use mathlib.Core.List.{List, [], ◌∷◌, ◌++◌, append_assoc}
use Prim.Native.Nat.{ℕ, zero, suc, ◌≤◌, ◌<◌}
use native.Mathlib.Omega.{arith}
use lib.Dec.{leb}
use lib.ListN.{length, get_or, take}
use Rattle.rules.specs.Answers.{complete, most_pixels}
use Rattle.rules.specs.Bits.{bits_of}
use Rattle.rules.specs.Lines.{one}
use Rattle.rules.specs.Pages as Page
use Rattle.rules.specs.Pages.{most_bytes}
use Rattle.rules.specs.Write.{line_bits, to_byte, rows_in}
use Rattle.rules.specs.WriteGroup3.{filled, page3_bits, write_group3, write_1d}
use Rattle.rules.specs.Damage.{stray, Arrived, own, other, arrived_page, may_all, Spared, no_lines, unchanged, any_row, RoomFor, AllButOne}
use Rattle.rules.specs.Rising.{Rows}
use Rattle.rules.proofs.Store.{length-rows_in}
use Rattle.rules.proofs.Group3Trip.{Page3Written, page3-written, page-bytes}
use Rattle.rules.proofs.BadLines.{Mending, spared-length}
use Rattle.rules.proofs.OneBadLine.{bad-lines-decode, written-line-at, one-bad-line}
use Rattle.answer.specs.declared.Answer.{Answer}
use Rattle.settings.specs.declared.DecodeSettings.{DecodeSettings}
use Rattle.settings.specs.Settings.{encoding_of, settings_of}
use Rattle.promises.specs.Rooms.{Call, places, rows_of, marks_of, Reading}
use Rattle.promises.specs.BadLines.{ForBadLines, Roomy, KBadLinesCostKRows, MarkedAreBad, front_of, back_of, OneBadLineCostsOneRow}
use Rattle.promises.proofs.Rooms.{answer_in, rows_are, marks_are, as_many}

-- the settings of the rules
mending : (columns rows : ℕ) (settings : DecodeSettings) → 0 < columns → columns < most_pixels → ForBadLines columns rows settings → (rest : List Bool) → Mending (settings_of settings) rows rest
mending columns rows settings wide narrow s rest = record {
  encoded = ap encoding_of s.group_3;
  lenient = s.lenient;
  wide = omega (arith, s.same_columns);
  narrow = omega (arith, s.same_columns);
  counted = inl s.counted;
}

-- a call and the rules' answer
module _ (bytes : List ℕ) (settings : DecodeSettings) (c : Call) (reading : Reading bytes settings c) where
  abbrev answer : Page.Answer
  answer = answer_in bytes settings c

  pub number_is : c.answer.number ≡ answer.number
  number_is = ap (λ (x : Answer). x.number) reading.answer

  -- what is said of the rules' rows and marks is said of those that lie in the store
  pub handed-over : (C : List (List ℕ) → List ℕ → Type 0) → C answer.rows answer.marks → C (rows_of c) (marks_of c)
  handed-over C h =
      subst (C (rows_of c)) (sym (marks_are answer c reading (as_many bytes settings c)))
      (subst (λ (rows : List (List ℕ)). C rows answer.marks) (sym (rows_are answer c reading)) h)

  pub room-is : (rows columns : ℕ) → settings.columns ≡ columns → Roomy rows columns c → RoomFor rows settings.columns (length c.changes) (places c) answer.number
  room-is rows columns e room =
      subst (λ (n : ℕ). RoomFor rows n (length c.changes) (places c) answer.number) (sym e)
      (subst (RoomFor rows columns (length c.changes) (places c)) number_is room)

pub k-bad-lines : KBadLinesCostKRows
k-bad-lines columns fill lines bytes settings c a = (
  number_is bytes settings c a.reading ∙ d.0,
  ap (λ (x : Answer). x.rows) a.reading.answer ∙ spared-length d.1,
  handed-over bytes settings c a.reading (Spared lines) d.1,
)
  where
    same : settings.columns ≡ columns
    same = a.set.same_columns

    d : ((answer_in bytes settings c).number ≡ complete) × Spared lines (answer_in bytes settings c).rows (answer_in bytes settings c).marks
    d =
        bad-lines-decode (settings_of settings) a.set.inexact fill a.rest lines a.some_lines
        (subst (λ (n : ℕ). may_all n lines ≡ true) (sym same) a.allowed) (inl a.three) (mending columns (length lines) settings a.wide a.narrow a.set a.rest) (omega (arith, same, a.narrow))
        bytes a.small (a.there ∙ ap (λ (n : ℕ). arrived_page n fill lines ++ a.rest) (sym same)) (length c.changes) (places c)
        (room-is bytes settings c a.reading (length lines) columns same a.roomy)

-- ---- A row that is not clean

not-clean : (lines : List Arrived) (rows : List (List ℕ)) (marks : List ℕ) → Spared lines rows marks
    → (n : ℕ) → n < length lines → (get_or marks n 0 ≡ 0 → ⊥) → (bits : List Bool) × (get_or lines n (own []) ≡ other bits)
not-clean lines rows marks no_lines n h marked = absurd (omega arith)
not-clean lines rows marks (unchanged s) zero h marked = absurd (marked refl)
not-clean lines rows marks (unchanged s) (suc n) h marked = not-clean _ _ _ s n (omega arith) marked
not-clean lines rows marks (any_row {bits = bits} s) zero h marked = (bits, refl)
not-clean lines rows marks (any_row s) (suc n) h marked = not-clean _ _ _ s n (omega arith) marked

pub marked-are-bad : MarkedAreBad
marked-are-bad columns fill lines bytes settings c a = not-clean lines (rows_of c) (marks_of c) (k-bad-lines columns fill lines bytes settings c a).2

-- ---- One bad line

-- a page divided in three, and what follows it
behind : (front xs back rest : List Bool) → (front ++ (xs ++ back)) ++ rest ≡ front ++ (xs ++ (back ++ rest))
behind front xs back rest = append_assoc front (xs ++ back) rest ∙ ap (λ (l : List Bool). front ++ l) (append_assoc xs back rest)

pub one-bad-line-costs-one-row : OneBadLineCostsOneRow
unfolding write_1d
one-bad-line-costs-one-row columns changes ends out fill w out' narrow three written z first row last rows_is = ((to_byte (length page), stands), spared)
  where
    page : List Bool
    page = page3_bits columns (filled fill) (rows_in 0 changes ends)

    p : Page3Written (filled fill) (leb fill 64) columns changes ends out (write_group3 (filled fill) (leb fill 64) columns changes ends out)
    p = page3-written (filled fill) (leb fill 64) columns changes ends out narrow (sym (ap (λ (x : Answer). x.number) written.answer) ∙ z)

    stands : bits_of (take w.bytes out') ≡ front_of columns fill first ++ (line_bits columns one row ++ (back_of columns fill last ++ to_byte (length page)))
    stands =
        ap (λ (n : ℕ). bits_of (take n out')) (ap (λ (x : Answer). x.bytes) written.answer ∙ p.end_is)
        ∙ page-bytes page out out' p.fits written.size (written.bits ∙ p.bits_are)
        ∙ ap (λ (l : List Bool). l ++ to_byte (length page)) (ap (page3_bits columns (filled fill)) rows_is ∙ written-line-at columns fill first last row)
        ∙ behind (front_of columns fill first) (line_bits columns one row) (back_of columns fill last) _

    size : length (first ++ row ∷ last) ≡ length ends
    size = sym (ap length rows_is) ∙ length-rows_in 0 changes ends

    spared : (bits : List Bool) → stray bits ≡ true
        → (bytes : List ℕ) (padding : List Bool) → length bytes ≤ most_bytes → bits_of bytes ≡ front_of columns fill first ++ (bits ++ (back_of columns fill last ++ padding))
        → (settings : DecodeSettings) → ForBadLines columns (length ends) settings
        → (c : Call) → Reading bytes settings c → Roomy (length ends) columns c
        → (c.answer.number ≡ complete) × AllButOne first last (rows_of c) (marks_of c)
    spared bits strays bytes padding small there settings s c reading room =
        (number_is bytes settings c reading ∙ d.0, handed-over bytes settings c reading (AllButOne first last) d.1)
      where
        same : settings.columns ≡ columns
        same = s.same_columns

        d : ((answer_in bytes settings c).number ≡ complete) × AllButOne first last (answer_in bytes settings c).rows (answer_in bytes settings c).marks
        d =
            one-bad-line (settings_of settings) s.inexact fill three first row last
            (subst (λ (n : ℕ). Rows n (first ++ row ∷ last)) (sym same) (subst (Rows columns) rows_is p.rises))
            padding (subst (λ (n : ℕ). Mending (settings_of settings) n padding) (sym size) (mending columns (length ends) settings p.wide p.narrow s padding)) (omega (arith, same, p.narrow))
            bits strays bytes small (there ∙ ap (λ (n : ℕ). front_of n fill first ++ (bits ++ (back_of n fill last ++ padding))) (sym same)) (length c.changes) (places c)
            (room-is bytes settings c reading (length (first ++ row ∷ last)) columns same (subst (λ (n : ℕ). Roomy n columns c) (sym size) room))
