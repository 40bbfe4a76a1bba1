-- A cut 1D page is told: what the rules say of it, over the contracts of the writer and of `decode`. Assumes nothing.
use mathlib.Core.Path.{◌≡◌, refl, sym, ap, ◌∙◌, subst}
use mathlib.Core.Bool.{Bool, true, false}
use mathlib.Core.List.{List, [], ◌∷◌, ◌++◌, append-nil}
use mathlib.Core.Option.{none}
use mathlib.Core.Logic.{◌⊎◌, inl}
use Prim.Native.Nat.{ℕ, ◌≤◌, ◌<◌}
use native.Mathlib.Omega.{arith}
use lib.Dec.{leb}
use lib.ListN.{length, get_or, take, drop, replicate, length-append, length-take}
use lib.Seq.{get_or-take}
use borrow.Author.Tests.{leb-true, leb-false}
use Rattle.rules.specs.Answers.{complete, most_pixels}
use Rattle.rules.specs.Bits.{bits_of}
use Rattle.rules.specs.Eols.{zero_run}
use Rattle.rules.specs.Rows.{recovered_mark}
use Rattle.rules.specs.Pages.{most_bytes}
use Rattle.rules.specs.Write.{to_byte, rows_in}
use Rattle.rules.specs.WriteGroup3.{filled, page3_bits, write_group3, write_1d}
use Rattle.rules.specs.Cut.{CutTold, first_rows, marked}
use Rattle.rules.specs.Rising.{Rows}
use Rattle.rules.proofs.Store.{length-rows_in}
use Rattle.rules.proofs.RoundTrip.{bits-split}
use Rattle.rules.proofs.Group3Trip.{blank_none, Page3Written, page3-written, page-bytes}
use Rattle.rules.proofs.CutPage3.{cut-told}
use Rattle.answer.specs.declared.Answer.{Answer}
use Rattle.settings.specs.Settings.{encoding_of, settings_of}
use Rattle.writer.specs.Outcome.{Answers}
use Rattle.promises.specs.Rooms.{places, rows_of, marks_of}
use Rattle.promises.specs.CutGroup3.{CutIsTold, ExactTellsEveryCut}
use Rattle.promises.proofs.Rooms.{answer_in, rows_are}
use Rattle.promises.proofs.Demand1.{decode-answers}
use Rattle.promises.proofs.Marks.{decode-marks}
use Rattle.promises.proofs.BadLines.{number_is, handed-over}

-- what the writer's 0 says
wrote : (columns : ℕ) (changes ends out : List ℕ) (fill : ℕ) (w : Answer) (out' : List ℕ) → columns ≤ most_pixels
    → Answers (write_1d true fill columns changes ends out) out w out' → w.number ≡ complete
    → Page3Written (filled fill) (leb fill 64) columns changes ends out (write_group3 (filled fill) (leb fill 64) columns changes ends out)
unfolding write_1d
wrote columns changes ends out fill w out' narrow written z =
    page3-written (filled fill) (leb fill 64) columns changes ends out narrow (sym (ap (λ (x : Answer). x.number) written.answer) ∙ z)

pub cut-is-told : CutIsTold
unfolding write_1d bits_of
cut-is-told columns changes ends out fill w out' narrow written z cut settings s c reading =
    subst (λ (n : ℕ). CutTold columns fill rows (bits_of bytes) n (rows_of c) (marks_of c)) (sym (number_is bytes settings c reading))
    (handed-over bytes settings c reading (CutTold columns fill rows (bits_of bytes) (answer_in bytes settings c).number) told)
  where
    rows : List (List ℕ)
    rows = rows_in 0 changes ends

    all_bytes : List ℕ
    all_bytes = take w.bytes out'

    bytes : List ℕ
    bytes = take cut all_bytes

    page : List Bool
    page = page3_bits columns (filled fill) rows

    p : Page3Written (filled fill) (leb fill 64) columns changes ends out (write_group3 (filled fill) (leb fill 64) columns changes ends out)
    p = wrote columns changes ends out fill w out' narrow written z

    stands : bits_of all_bytes ≡ page ++ to_byte (length page)
    stands =
        ap (λ (n : ℕ). bits_of (take n out')) (ap (λ (x : Answer). x.bytes) written.answer ∙ p.end_is)
        ∙ page-bytes page out out' p.fits written.size (written.bits ∙ p.bits_are)

    same : settings.columns ≡ columns
    same = s.same_columns

    told : CutTold columns fill rows (bits_of bytes) (answer_in bytes settings c).number (answer_in bytes settings c).rows (answer_in bytes settings c).marks
    told =
        subst (λ (n : ℕ). CutTold n fill rows (bits_of bytes) (answer_in bytes settings c).number (answer_in bytes settings c).rows (answer_in bytes settings c).marks) same
        (cut-told (settings_of settings) (ap encoding_of s.group_3) (omega (arith, same, p.wide)) (omega (arith, same, p.narrow)) fill
        rows (omega (arith, size, p.some-rows)) (subst (λ (n : ℕ). Rows n rows) (sym same) p.rises) (subst (λ (n : ℕ). (settings.rows ≡ 0) ⊎ (settings.rows ≡ n)) (sym size) s.counted)
        bytes small (bits_of (drop cut all_bytes)) (to_byte (length page)) padded
        (bits-split cut all_bytes ∙ stands ∙ ap (λ (n : ℕ). page3_bits n (filled fill) rows ++ to_byte (length page)) (sym same)) (length c.changes) (places c))
      where
        size : length rows ≡ length ends
        size = length-rows_in 0 changes ends

        padded : zero_run (to_byte (length page)) ≡ none
        padded = ap zero_run (sym (append-nil (to_byte (length page)))) ∙ blank_none (length page) 0

        small : length bytes ≤ most_bytes
        small = omega (arith, length-take cut all_bytes, length-take w.bytes out', written.size, p.short)

-- ---- Read exactly

-- the mark behind clean rows
mark-behind : (first : List (List ℕ)) (m : ℕ) → get_or (replicate (length first) 0 ++ m ∷ []) (length first) 0 ≡ m
mark-behind [] m = refl
mark-behind (x ∷ first) m = mark-behind first m

-- no fewer rows than were written, and none recovered: they are all there
module _ (width fill number : ℕ) (rows : List (List ℕ)) (bits : List Bool) where
  all-given : (given : List (List ℕ)) (marks : List ℕ) → CutTold width fill rows bits number given marks
      → length rows ≤ length given → ((n : ℕ) → n < length given → get_or marks n 0 ≡ 0) → given ≡ rows
  all-given given marks (first_rows first last parts _ _) long clean = none_left last parts
    where
      none_left : (last : List (List ℕ)) → rows ≡ first ++ last → first ≡ rows
      none_left [] p = sym (p ∙ append-nil first)
      none_left (r ∷ rs) p = absurd (omega (arith, long, ap length p, length-append first (r ∷ rs)))
  all-given given marks (marked first last x parts _) long clean =
      absurd (omega (arith, clean (length first) (omega (arith, length-append first (x ∷ []))), mark-behind first recovered_mark))

pub exact-tells-every-cut : ExactTellsEveryCut
unfolding write_1d
exact-tells-every-cut columns changes ends out fill w out' narrow written z cut settings s exact counted c reading zero-so =
    all-given columns fill c.answer.number (rows_in 0 changes ends) (bits_of bytes) (rows_of c) (marks_of c)
    (cut-is-told columns changes ends out fill w out' narrow written z cut settings s c reading)
    (omega (arith, as-many-rows, enough (leb settings.rows c.answer.rows) refl, counted, length-rows_in 0 changes ends))
    (λ n h. get_or-take c.answer.rows c.marks' n 0 (omega (arith, as-many-rows)) ∙ (decode-marks bytes settings c.changes c.ends c.marks c.answer c.changes' c.ends' c.marks' reading n (omega (arith, as-many-rows))).2 exact)
  where
    bytes : List ℕ
    bytes = take cut (take w.bytes out')

    as-many-rows : length (rows_of c) ≡ c.answer.rows
    as-many-rows = ap length (rows_are (answer_in bytes settings c) c reading) ∙ sym (ap (λ (x : Answer). x.rows) reading.answer)

    same : settings.columns ≡ columns
    same = s.same_columns

    -- fewer rows would be 14
    enough : (b : Bool) → leb settings.rows c.answer.rows ≡ b → settings.rows ≤ c.answer.rows
    enough true q = leb-true settings.rows c.answer.rows q
    enough false q =
        let d = (decode-answers bytes settings c.changes c.ends c.marks c.answer c.changes' c.ends' c.marks' (omega (arith, same)) reading).0 in
        let p = wrote columns changes ends out fill w out' narrow written z in
        absurd (omega (arith, zero-so, (d.fourteen (inl zero-so)).1 (record { exact = exact; wide = omega (arith, same, p.wide); fewer = leb-false settings.rows c.answer.rows q })))
