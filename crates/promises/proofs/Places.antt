-- A7 is met: an answer's place is that of the rules, which lies in the data and is that of the code at fault. Assumes nothing.
use mathlib.Core.Path.{◌≡◌, refl, sym, ap, ◌∙◌, subst}
use mathlib.Core.Bool.{Bool, false, true≢false}
use mathlib.Core.List.{List}
use Prim.Native.Nat.{ℕ, zero, suc, ◌*◌, ◌≤◌, ◌<◌}
use native.Mathlib.Omega.{arith}
use lib.ListN.{length}
use Rattle.rules.specs.Answers.{invalid_code, unexpected_eof, overflow}
use Rattle.rules.specs.Bits.{bits_of}
use Rattle.rules.specs.Lines.{Rules, Went, went, failed, two, read_line}
use Rattle.rules.specs.Rows.{Settings}
use Rattle.rules.specs.Pages as Page
use Rattle.rules.specs.Pages.{decode, read_page, strict_if_exact, places_in, one_line, read_one_line}
use Rattle.rules.proofs.Bits.{length-bits_of}
use Rattle.rules.proofs.Budget.{Bytes}
use Rattle.rules.proofs.Places.{Fault, read-placed, page-placed}
use Rattle.rules.proofs.Places as Law
use Rattle.rules.proofs.Answers.{short-cases}
use Rattle.rules.proofs.Marks.{implied}
use Rattle.answer.specs.Answer.{answer_with}
use Rattle.answer.specs.declared.Answer.{Answer}
use Rattle.settings.specs.declared.DecodeSettings.{DecodeSettings}
use Rattle.settings.specs.Settings.{settings_of}
use Rattle.promises.specs.Places.{Placed, DecodePlaces, ReadLinePlaces, WritersNameNone, RunFaults, ModeFaults, LineFault, ReadLineFaults, PageFault, DecodeFaults}
use Rattle.promises.proofs.Demand1 as Paged
use Rattle.promises.proofs.Demand1Line as Lined
use Rattle.promises.proofs.Faults.{run-fault, mode-fault, line-fault}
use Rattle.promises.proofs.PageFaults as Pages

-- ---- The run reader, the mode reader, the writers

pub run-faults : RunFaults
run-faults colour bytes at r k n place e = run-fault colour (bits_of bytes) at n place (sym k.same ∙ e)

pub mode-faults : ModeFaults
mode-faults bytes at r k n place e = mode-fault (bits_of bytes) at n place (sym k ∙ e)

pub writers-name-none : WritersNameNone
writers-name-none w out r out' called = ap (λ (x : Answer). x.place) called.answer

-- what the rules' answer names, the contract's names too
placed : (bytes : List ℕ) (a : Page.Answer) (mark : ℕ) (r : Answer) → r ≡ answer_with mark a → Fault (bits_of bytes) a.number a.place → Placed bytes r
placed bytes a mark r e f =
    let n = ap (λ (x : Answer). x.number) e in
    let p = ap (λ (x : Answer). x.place) e in
    record {
      inside = omega (arith, p, f.inside, length-bits_of bytes);
      none = λ z. p ∙ f.none (omega (arith, n, z));
      later = λ l. p ∙ f.later (omega (arith, n, l));
    }

-- a refusal names none
refused : (bs : List Bool) (n : ℕ) → Fault bs n 0
refused bs n = record { inside = omega arith; none = λ z. refl; later = λ l. refl }

-- ---- The page form

module _ (bytes : List ℕ) (settings : DecodeSettings) (changes ends marks : List ℕ) where
  whole : Bytes (bits_of bytes)
  whole = record { count = length bytes; whole = length-bits_of bytes }

  positive : (n : ℕ) → (n ≡ 0 → ⊥) → 0 < n
  positive zero z = absurd (z refl)
  positive (suc n) z = omega arith

  -- as the page is read
  abbrev S : Settings
  S = strict_if_exact (settings_of settings)

  abbrev page : Page.Answer
  page = read_page S (bits_of bytes) (length changes) (places_in ends marks)

  page-placed' : {a : Page.Answer} → Paged.Said settings bytes changes ends marks a → Fault (bits_of bytes) a.number a.place
  page-placed' (Paged.is-six e) = refused (bits_of bytes) 6
  page-placed' (Paged.is-seven n l) = refused (bits_of bytes) 7
  page-placed' (Paged.without_columns n l) = refused (bits_of bytes) 0
  page-placed' (Paged.is_read n l z) =
      short-cases (settings_of settings) page (λ a. Fault (bits_of bytes) a.number a.place) (λ k. refused (bits_of bytes) 14)
      (λ k. page-placed (settings_of settings).encoding S (positive settings.columns z) (bits_of bytes) whole (length changes) (places_in ends marks) refl)

  abbrev Blames : Page.Answer → Type 0
  Blames a = invalid_code ≤ a.number → a.number ≤ overflow → PageFault S (bits_of bytes) (length changes) (places_in ends marks) (length a.rows) a.number a.place

  page-blames : {a : Page.Answer} → Paged.Said settings bytes changes ends marks a → Blames a
  page-blames (Paged.is-six e) = λ x y. absurd (omega arith)
  page-blames (Paged.is-seven n l) = λ x y. absurd (omega arith)
  page-blames (Paged.without_columns n l) = λ x y. absurd (omega arith)
  page-blames (Paged.is_read n l z) =
      short-cases (settings_of settings) page Blames (λ k x y. absurd (omega arith))
      (λ k. Pages.page-fault S (implied (settings_of settings)) (positive settings.columns z) (bits_of bytes) whole (length changes) (places_in ends marks))

pub decode-places : DecodePlaces
decode-places bytes settings changes ends marks r changes' ends' marks' called =
    placed bytes (decode (settings_of settings) bytes (length changes) (places_in ends marks)) 0 r called.answer (page-placed' bytes settings changes ends marks (Paged.said settings bytes changes ends marks))

pub decode-faults : DecodeFaults
decode-faults bytes settings changes ends marks r changes' ends' marks' called =
    subst (λ (x : Answer). invalid_code ≤ x.number → x.number ≤ overflow → PageFault (strict_if_exact (settings_of settings)) (bits_of bytes) (length changes) (places_in ends marks) x.rows x.number x.place) (sym called.answer)
    (page-blames bytes settings changes ends marks (Paged.said settings bytes changes ends marks))

-- ---- One line

module _ (bytes : List ℕ) (at columns : ℕ) (strict : Bool) (reference changes : List ℕ) where
  abbrev R : Rules
  R = record { width = columns; strict = strict; exact = false; room = length changes }

  line-placed : {a : Page.Answer} → Lined.Said bytes at columns strict reference changes a → Fault (bits_of bytes) a.number a.place
  line-placed (Lined.is-six e) = refused (bits_of bytes) 6
  line-placed (Lined.is-seven n l) = refused (bits_of bytes) 7
  line-placed (Lined.is-eight n l e) = refused (bits_of bytes) 8
  line-placed (Lined.past_end n l up beyond) = record { inside = omega arith; none = λ z. absurd (omega arith); later = λ l. absurd (omega arith) }
  line-placed (Lined.is_read n l up i) = cases (read_line R (two reference) (bits_of bytes) at) (read-placed (bits_of bytes) R (two reference) at i)
    where
      cases : (w : Went) → Law.Placed (bits_of bytes) w → Fault (bits_of bytes) (one_line w).number (one_line w).place
      cases (went s) h = refused (bits_of bytes) 0
      cases (failed m p s) h = h

  -- a start past the data
  starts-past : {a : Page.Answer} → Lined.Said bytes at columns strict reference changes a → a.number ≡ unexpected_eof → 8 * length bytes < at → a.place ≡ 8 * length bytes
  starts-past (Lined.is-six e) q l = absurd (omega arith)
  starts-past (Lined.is-seven n x) q l = absurd (omega arith)
  starts-past (Lined.is-eight n x e) q l = absurd (omega arith)
  starts-past (Lined.past_end n x up beyond) q l = length-bits_of bytes
  starts-past (Lined.is_read n x up i) q l = absurd (omega (arith, i, length-bits_of bytes))

  abbrev Blamed : Page.Answer → Type 0
  Blamed a = invalid_code ≤ a.number → a.number ≤ overflow → at ≤ 8 * length bytes → LineFault R (two reference) (bits_of bytes) at a.number a.place

  line-blamed : {a : Page.Answer} → Lined.Said bytes at columns strict reference changes a → Blamed a
  line-blamed (Lined.is-six e) = λ x y z. absurd (omega arith)
  line-blamed (Lined.is-seven n l) = λ x y z. absurd (omega arith)
  line-blamed (Lined.is-eight n l e) = λ x y z. absurd (omega arith)
  line-blamed (Lined.past_end n l up beyond) = λ x y z. absurd (omega (arith, length-bits_of bytes))
  line-blamed (Lined.is_read n l up i) = cases (read_line R (two reference) (bits_of bytes) at) refl
    where
      cases : (w : Went) → read_line R (two reference) (bits_of bytes) at ≡ w → Blamed (one_line w)
      cases (went s) e = λ x y z. absurd (omega arith)
      cases (failed m p s) e = λ x y z. line-fault R (bits_of bytes) (λ q. absurd (true≢false (sym q))) (two reference) at m p s e y

pub read-line-places : ReadLinePlaces
read-line-places bytes at columns strict reference changes r changes' called =
    let s = Lined.said bytes at columns strict reference changes in
    let n = ap (λ (x : Answer). x.number) called.answer in
    let p = ap (λ (x : Answer). x.place) called.answer in (
      placed bytes (read_one_line bytes at columns strict reference (length changes)) _ r called.answer (line-placed bytes at columns strict reference changes s),
      λ q l. p ∙ starts-past bytes at columns strict reference changes s (sym n ∙ q) l,
    )

pub read-line-faults : ReadLineFaults
read-line-faults bytes at columns strict reference changes r changes' called =
    subst (λ (x : Answer). invalid_code ≤ x.number → x.number ≤ overflow → at ≤ 8 * length bytes → LineFault (R bytes at columns strict reference changes) (two reference) (bits_of bytes) at x.number x.place) (sym called.answer)
    (line-blamed bytes at columns strict reference changes (Lined.said bytes at columns strict reference changes))
