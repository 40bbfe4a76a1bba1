-- A3 and A10 are met: the writers' answers by their tests, and reading back by the rules' law over the contracts of both functions. Assumes nothing.
use mathlib.Core.Path.{◌≡◌, refl, sym, ap, ◌∙◌, subst}
use mathlib.Core.Logic.{◌⊎◌, inl, inr, ◌↔◌, ⊎_elim}
use mathlib.Core.Bool.{Bool, true, false, ◌&&◌, true≢false}
use mathlib.Core.List.{List, [], ◌∷◌, ◌++◌, append-nil}
use Prim.Native.Nat.{ℕ, ◌+◌, ◌*◌, ◌≤◌, ◌<◌}
use native.Mathlib.Omega.{arith}
use lib.Dec.{leb, ltb}
use lib.ListN.{length, get_or, take, replicate, get_or-replicate}
use borrow.Author.Tests.{leb-true, leb-false, le-leb, ltb-true, ltb-false}
use Rattle.rules.specs.Answers.{complete, most_pixels}
use Rattle.rules.specs.Lines.{one}
use Rattle.rules.specs.Pages as Page
use Rattle.rules.specs.Pages.{most_bytes, entries, decode, places_in}
use Rattle.rules.specs.Write.{line_bits, eol_bits, rows_in, ends_rise, all_ascend, Written, unwritten}
use Rattle.rules.specs.WriteGroup3.{Layout, mixed, coded_lines, framed, layout_1d, page3_bits, write_group3, write_1d, write_2d}
use Rattle.rules.proofs.Bits.{both_true}
use Rattle.rules.specs.Damage.{all_clean}
use Rattle.rules.proofs.Writes.{write3-cases}
use Rattle.rules.proofs.Group3Trip.{Returns, Page3Written, page3-written, Told1D, Told2D, write_1d-returns, write_2d-returns}
use Rattle.answer.specs.Answer.{answer_of}
use Rattle.answer.specs.declared.Answer.{Answer}
use Rattle.settings.specs.declared.DecodeSettings.{DecodeSettings}
use Rattle.settings.specs.Settings.{encoding_of, settings_of}
use Rattle.writer.specs.Outcome.{Answers}
use Rattle.promises.specs.WriteGroup3.{Write3Listed, Write1DAnswers, Write2DAnswers, For1D, For2D, GivesBack, Written1DReadsBack, Written1DBeforeZeros, Written2DReadsBack, Written2DBeforeZeros, tagged_1d, KOneIsAll1D}
use Rattle.promises.proofs.Demand1.{in-store}
use Rattle.promises.proofs.Marks.{mark-at}
use Rattle.promises.proofs.WriteTests.{none, some, Said, is-six, is-seven, is-ten, is-eight, is-nine, is-done, tested}

-- ---- The answers

-- there are rows and they are good, or not
module _ (n : ℕ) (good : Bool) where
  rows-bad : (ltb 0 n && good) ≡ false → (n ≡ 0) ⊎ (good ≡ false)
  rows-bad = tests (ltb 0 n) (ltb-false 0 n)
    where
      tests : (a : Bool) → (a ≡ false → n ≤ 0) → (a && good) ≡ false → (n ≡ 0) ⊎ (good ≡ false)
      tests true f e = inr e
      tests false f e = inl (let h = f refl in omega arith)

  rows-good : (ltb 0 n && good) ≡ true → ((n ≡ 0) ⊎ (good ≡ false)) → ⊥
  rows-good = tests (ltb 0 n) (ltb-true 0 n)
    where
      tests : (a : Bool) → (a ≡ true → 0 < n) → (a && good) ≡ true → ((n ≡ 0) ⊎ (good ≡ false)) → ⊥
      tests true f e = ⊎_elim (λ q. let h = f refl in omega (arith, q)) (λ q. true≢false (sym e ∙ q))
      tests false f e = λ q. true≢false (sym e)

module _ (layout : Layout) (fine : Bool) (Allowed : Type 0) (granted : fine ≡ true → Allowed) (denied : fine ≡ false → Allowed → ⊥) (columns : ℕ) (changes ends out : List ℕ) where
  abbrev size : ℕ
  size = length (page3_bits columns layout (rows_in 0 changes ends))

  abbrev Bad : Type 0
  Bad = (length ends ≡ 0) ⊎ ((ends_rise (length changes) 0 ends && all_ascend columns (rows_in 0 changes ends)) ≡ false)

  said : Said Allowed (Bad → ⊥) Bad (λ g b. g b) columns out size (write_group3 layout fine columns changes ends out)
  said =
      write3-cases layout fine columns changes ends out (Said Allowed (Bad → ⊥) Bad (λ g b. g b) columns out size)
      (λ i. is-six (none columns i))
      (λ i h. is-seven (some columns i) h)
      (λ i h f. is-ten (some columns i) (λ l. omega arith) (denied f))
      (λ i h f g. is-eight (some columns i) (λ l. omega arith) (granted f) (rows-bad (length ends) _ g))
      (λ i h f g l. is-nine (some columns i) (λ l. omega arith) (granted f) (rows-good (length ends) _ g) (omega arith))
      (λ i h f g l. is-done (some columns i) (λ l. omega arith) (granted f) (rows-good (length ends) _ g) (omega arith) _ refl)

  pub write3-answers : (r : Answer) (out' : List ℕ) → Answers (write_group3 layout fine columns changes ends out) out r out' → Write3Listed Allowed columns changes ends out size r out'
  write3-answers r out' g =
      let t = tested Allowed (Bad → ⊥) Bad (λ g b. g b) columns out size said r out' g in
      record { listed = t.listed; six = t.six; seven = t.seven; ten = t.ten; eight = t.eight; nine = t.nine; refused = t.refused; no_rows = t.no_rows }

pub write-1d-answers : Write1DAnswers
unfolding write_1d
write-1d-answers columns changes ends out eols fill r out' g =
    write3-answers (layout_1d eols fill) (leb fill 64) (fill ≤ 64) (leb-true fill 64) (λ e h. let l = leb-false fill 64 e in omega arith) columns changes ends out r out' g

pub write-2d-answers : Write2DAnswers
unfolding write_2d
write-2d-answers columns changes ends out k r out' g =
    write3-answers (mixed k) (leb 1 k && leb k 65535) ((1 ≤ k) × (k ≤ 65535)) granted denied columns changes ends out r out' g
  where
    granted : (leb 1 k && leb k 65535) ≡ true → (1 ≤ k) × (k ≤ 65535)
    granted e = let b = both_true (leb 1 k) (leb k 65535) e in (leb-true 1 k b.0, leb-true k 65535 b.1)

    denied : (leb 1 k && leb k 65535) ≡ false → (1 ≤ k) × (k ≤ 65535) → ⊥
    denied e (low, high) = true≢false (sym (rw (le-leb 1 k low, le-leb k 65535 high)) ∙ e)

-- ---- Reading back

-- what a writer wrote, of whose page the rules say that it returns
module _ (W : Written) (changes ends out : List ℕ) (w : Answer) (out' : List ℕ) (written : Answers W out w out') (z : w.number ≡ complete)
    (settings : DecodeSettings) (returns : Returns W (settings_of settings) changes ends out) where
  pub gives_back : (zeros : ℕ) → w.bytes + zeros ≤ most_bytes → GivesBack changes ends w settings (take w.bytes out' ++ replicate zeros 0)
  gives_back zeros small store places marks r store' places' marks' roomy placed marked called = (
    ap (λ (x : Answer). x.number) a,
    ap (λ (x : Answer). x.bytes) a ∙ sym end_is,
    in-store _ store places marks r store' places' marks' called ∙ ap (λ (x : Page.Answer). x.rows) is,
    λ n h.
        mark-at _ settings store places marks r store' places' marks' called n h
        ∙ ap (λ (x : Page.Answer). get_or x.marks n 0) is
        ∙ get_or-replicate (length (rows_in 0 changes ends)) n 0 0 (omega (arith, ap (λ (x : Answer). x.rows) a)),
  )
    where
      end_is : w.bytes ≡ W.end
      end_is = ap (λ (x : Answer). x.bytes) written.answer

      page : Page.Answer
      page = record { number = 0; place = 0; bytes = W.end; rows = rows_in 0 changes ends; marks = all_clean (rows_in 0 changes ends); loose = [] }

      is : decode (settings_of settings) (take w.bytes out' ++ replicate zeros 0) (length store) (places_in places marks) ≡ page
      is =
          ap (λ (n : ℕ). decode (settings_of settings) (take n out' ++ replicate zeros 0) (length store) (places_in places marks)) end_is
          ∙ returns out' zeros (omega (arith, end_is)) (sym (ap (λ (x : Answer). x.number) written.answer) ∙ z) written.size written.bits (length store) (places_in places marks) roomy (omega arith)

      a : r ≡ answer_of page
      a = called.answer ∙ ap answer_of is

-- the settings of the rules
pub told-2d : (columns rows : ℕ) (settings : DecodeSettings) → 0 < columns → columns ≤ most_pixels → For2D columns rows settings → Told2D (settings_of settings) rows
told-2d columns rows settings wide narrow s = record {
  encoded = ap encoding_of s.group_3;
  wide = omega (arith, s.same_columns);
  narrow = omega (arith, s.same_columns);
  blocked = s.blocked;
  unaligned = s.unaligned;
  counted = s.counted;
}

pub told : (columns : ℕ) (eols : Bool) (rows : ℕ) (settings : DecodeSettings) → 0 < columns → columns ≤ most_pixels → For1D columns eols rows settings → Told1D (settings_of settings) eols rows
told columns eols rows settings wide narrow s = record {
  encoded = ap encoding_of s.group_3;
  wide = omega (arith, s.same_columns);
  narrow = omega (arith, s.same_columns);
  blocked = s.blocked;
  lined = s.lined;
  unaligned = s.unaligned;
  counted = s.counted;
}

-- what a 0 says of the width and of the page's bytes
module _ (layout : Layout) (fine : Bool) (columns : ℕ) (changes ends out : List ℕ) (w : Answer) (out' : List ℕ) (narrow : columns ≤ most_pixels)
    (written : Answers (write_group3 layout fine columns changes ends out) out w out') (z : w.number ≡ complete) where
  p : Page3Written layout fine columns changes ends out (write_group3 layout fine columns changes ends out)
  p = page3-written layout fine columns changes ends out narrow (sym (ap (λ (x : Answer). x.number) written.answer) ∙ z)

  pub wide : 0 < columns
  wide = p.wide

  pub in-limit : w.bytes + 0 ≤ most_bytes
  in-limit = omega (arith, ap (λ (x : Answer). x.bytes) written.answer, p.end_is, p.fits, p.short)

pub written-1d-before-zeros : Written1DBeforeZeros
unfolding write_1d
written-1d-before-zeros columns changes ends out eols fill w out' narrow written z settings s zeros small =
    gives_back (write_1d eols fill columns changes ends out) changes ends out w out' written z settings
    (subst (λ (n : ℕ). Returns (write_1d eols fill n changes ends out) (settings_of settings) changes ends out) s.same_columns
    (write_1d-returns (settings_of settings) changes ends out eols fill
    (told columns eols (length ends) settings (wide (layout_1d eols fill) (leb fill 64) columns changes ends out w out' narrow written z) narrow s)))
    zeros small

pub written-1d-reads-back : Written1DReadsBack
unfolding write_1d
written-1d-reads-back columns changes ends out eols fill w out' narrow written z settings s =
    subst (GivesBack changes ends w settings) (append-nil _)
    (written-1d-before-zeros columns changes ends out eols fill w out' narrow written z settings s 0
    (in-limit (layout_1d eols fill) (leb fill 64) columns changes ends out w out' narrow written z))

pub written-2d-before-zeros : Written2DBeforeZeros
unfolding write_2d
written-2d-before-zeros columns changes ends out k w out' narrow written z settings s zeros small =
    gives_back (write_2d k columns changes ends out) changes ends out w out' written z settings
    (subst (λ (n : ℕ). Returns (write_2d k n changes ends out) (settings_of settings) changes ends out) s.same_columns
    (write_2d-returns (settings_of settings) changes ends out k
    (told-2d columns (length ends) settings (wide (mixed k) (leb 1 k && leb k 65535) columns changes ends out w out' narrow written z) narrow s)))
    zeros small

pub written-2d-reads-back : Written2DReadsBack
unfolding write_2d
written-2d-reads-back columns changes ends out k w out' narrow written z settings s =
    subst (GivesBack changes ends w settings) (append-nil _)
    (written-2d-before-zeros columns changes ends out k w out' narrow written z settings s 0
    (in-limit (mixed k) (leb 1 k && leb k 65535) columns changes ends out w out' narrow written z))

-- ---- K = 1

pub k-one-is-all-1d : KOneIsAll1D
unfolding page3_bits framed coded_lines tagged_1d
k-one-is-all-1d columns rows = lines [] rows
  where
    lines : (reference : List ℕ) (rows : List (List ℕ)) → framed (mixed 1) (coded_lines columns 1 0 reference rows) ≡ tagged_1d columns rows
    lines reference [] = refl
    lines reference (r ∷ rs) = ap (λ (l : List Bool). (eol_bits ++ true ∷ []) ++ (line_bits columns one r ++ l)) (lines r rs)
