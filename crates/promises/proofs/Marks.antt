-- A5 is met. Assumes nothing.
use mathlib.Core.Path.{◌≡◌, refl, sym, ap, ◌∙◌, subst₂}
use mathlib.Core.Bool.{Bool, true, false, cond, ◌||◌}
use mathlib.Core.List.{List}
use Prim.Native.Nat.{ℕ, zero, suc, ◌≤◌, ◌<◌}
use native.Mathlib.Omega.{arith}
use lib.Dec.{eqb, leb, ltb}
use lib.ListN.{length, get_or, take, get_or-replicate}
use lib.Seq.{get_or-take}
use borrow.Author.Tests.{leb-true, eqb-false}
use Rattle.rules.specs.Answers.{complete, invalid_code}
use Rattle.rules.specs.Bits.{bits_of}
use Rattle.rules.specs.Lines.{Rules, Line, head_or, Went, went, failed, two, read_line}
use Rattle.rules.specs.Rows.{read_mark}
use Rattle.rules.specs.Pages as Page
use Rattle.rules.specs.Pages.{most_bytes, is_too_wide, no_line, ascends, places_in, strict_if_exact, decode, one_line, read_one_line, changes_after}
use Rattle.rules.specs.Write.{rows_in}
use Rattle.rules.proofs.Lines.{data-bound, read-broken}
use Rattle.rules.specs.Marks.{Refused, refused, Came}
use Rattle.rules.proofs.Clean.{Twin, alike, apart, cut_of, line-twins}
use Rattle.rules.proofs.Marks.{at-most-at, decode-came, came-listed, came-strict}
use Rattle.rules.proofs.RoundTrip.{line-returns}
use Rattle.answer.specs.Answer.{row_answer_of}
use Rattle.answer.specs.declared.Answer.{Answer}
use Rattle.settings.specs.declared.DecodeSettings.{DecodeSettings}
use Rattle.settings.specs.Settings.{settings_of}
use Rattle.ccitt.specs.Decode.{Decodes}
use Rattle.promises.specs.Marks.{DecodeMarks, MarksTell, WrittenPageIsClean, ReadLineMarks, LineMarkTells, WrittenLineIsClean}
use Rattle.promises.proofs.Demand1 as Paged
use Rattle.promises.proofs.Demand1Line as Lined
use Rattle.promises.proofs.Demand3.{page-is-whole}

-- ---- The page form

module _ (bytes : List ℕ) (settings : DecodeSettings) (changes ends marks : List ℕ) (r : Answer) (changes' ends' marks' : List ℕ)
    (called : Decodes bytes settings changes ends marks r changes' ends' marks') where
  abbrev said : Page.Answer
  said = decode (settings_of settings) bytes (length changes) (places_in ends marks)

  kept : take r.rows marks' ≡ said.marks
  kept = Paged.marks-front said changes ends marks r changes' ends' marks' called (Paged.all-marked settings bytes changes ends marks)

  -- the mark of a kept row
  pub mark-at : (n : ℕ) → n < r.rows → get_or marks' n 0 ≡ get_or said.marks n 0
  mark-at n h = sym (get_or-take r.rows marks' n 0 h) ∙ ap (λ (l : List ℕ). get_or l n 0) kept

pub decode-marks : DecodeMarks
decode-marks bytes settings changes ends marks r changes' ends' marks' called n h =
    let m = mark-at bytes settings changes ends marks r changes' ends' marks' called n h in
    let c = (decode-came (settings_of settings) bytes (length changes) (places_in ends marks)).1 in
    let clean : (settings.exact || settings.strict) ≡ true → get_or marks' n 0 ≡ 0 = λ e. omega (arith, m, at-most-at (came-strict e c) n) in
    (omega (arith, m, at-most-at (came-listed c) n), (λ e. clean (either settings.exact e)), λ e. clean (rw e))
  where
    either : {strict : Bool} (exact : Bool) → strict ≡ true → (exact || strict) ≡ true
    either true e = refl
    either false e = e

pub marks-tell : MarksTell
marks-tell bytes settings changes ends marks r changes' ends' marks' called =
    let c = decode-came (settings_of settings) bytes (length changes) (places_in ends marks) in (
      c.0,
      subst₂ (λ (rows : List (List ℕ)) (ms : List ℕ). Came (strict_if_exact (settings_of settings)) (bits_of bytes) rows ms c.0)
          (sym (Paged.in-store _ changes ends marks r changes' ends' marks' called)) (sym (kept bytes settings changes ends marks r changes' ends' marks' called)) c.1,
    )

pub written-page-is-clean : WrittenPageIsClean
written-page-is-clean columns changes ends out w out' narrow written z bytes small e settings s counted store places marks r store' places' marks' roomy placed marked called n h =
    let rows = rows_in 0 changes ends in
    let is = page-is-whole columns changes ends out w out' narrow written z bytes small e settings s counted store places marks roomy placed marked in
    mark-at bytes settings store places marks r store' places' marks' called n h
    ∙ ap (λ (a : Page.Answer). get_or a.marks n 0) is
    ∙ get_or-replicate (length rows) n 0 0 (omega (arith, ap (λ (x : Answer). x.rows) called.answer, ap (λ (a : Page.Answer). length a.rows) is))

-- ---- One line

abbrev mark_of : Page.Answer → ℕ
mark_of a = head_or 0 a.marks

abbrev LineMarked : Bool → Page.Answer → Type 0
LineMarked strict a = (mark_of a ≤ 1) × (mark_of a ≡ 1 → a.number ≡ complete) × (strict ≡ true → mark_of a ≡ 0)

-- an answer without a row has no mark
unmarked : (strict : Bool) (n : ℕ) → LineMarked strict (Page.refusal n)
unmarked strict n = (omega arith, (λ e. absurd (omega arith)), λ e. refl)

-- a line that was read, beside its strict reading
one-marked : (strict : Bool) (v w : Went) → (strict ≡ true → v ≡ w) → Twin cut_of Refused false v w → LineMarked strict (one_line w)
one-marked strict v (failed n p l) same t = (omega arith, (λ e. absurd (omega arith)), λ e. refl)
one-marked strict v (went l) same t = (small l.cut, (λ e. refl), clean v same t)
  where
    small : (b : Bool) → cond b 1 0 ≤ 1
    small true = omega arith
    small false = omega arith

    clean : (v : Went) → (strict ≡ true → v ≡ went l) → Twin cut_of Refused false v (went l) → strict ≡ true → read_mark l ≡ 0
    clean v same (alike c) e = ap (λ (b : Bool). cond b 1 0) c
    clean v same (apart refused c d) e = absurd (let q = same e in let z : ◌≡◌ {A = ℕ} 0 1 = cc in omega arith)

module _ (bytes : List ℕ) (at columns : ℕ) (strict : Bool) (reference changes : List ℕ) where
  line_marked : {a : Page.Answer} → Lined.Said bytes at columns strict reference changes a → LineMarked strict a
  line_marked (Lined.is-six e) = unmarked strict 6
  line_marked (Lined.is-seven n l) = unmarked strict 7
  line_marked (Lined.is-eight n l e) = unmarked strict 8
  line_marked (Lined.past_end n l up beyond) = (omega arith, (λ e. absurd (omega arith)), λ e. refl)
  line_marked (Lined.is_read n l up i) =
      one-marked strict _ _
      (λ e. ap (λ (b : Bool). read_line (record { width = columns; strict = b; exact = false; room = length changes }) (two reference) (bits_of bytes) at) (sym e))
      (line-twins columns (length changes) (two reference) (bits_of bytes) at strict)

pub read-line-marks : ReadLineMarks
read-line-marks bytes at columns strict reference changes r changes' called =
    let f = line_marked bytes at columns strict reference changes (Lined.said bytes at columns strict reference changes) in
    let m = ap (λ (x : Answer). x.mark) called.answer in
    let n = ap (λ (x : Answer). x.number) called.answer in
    (omega (arith, m, f.0), (λ e. n ∙ f.1 (sym m ∙ e)), λ e. m ∙ f.2 e)

-- a lenient and a strict answer to the same line
abbrev Tells : Page.Answer → Page.Answer → Type 0
Tells a b = a.number ≡ complete → (mark_of a ≡ 0 → b ≡ a) × (mark_of a ≡ 1 → b.number ≡ invalid_code)

twins-tell : (v w : Went) → ((n p : ℕ) (l : Line) → w ≡ failed n p l → 1 ≤ n) → Twin cut_of Refused false v w → Tells (one_line w) (one_line v)
twins-tell v (failed n p l) some t e = absurd (omega (arith, some n p l refl))
twins-tell v (went l) some t e = cases v t
  where
    cases : (v : Went) → Twin cut_of Refused false v (went l) → (read_mark l ≡ 0 → one_line v ≡ one_line (went l)) × (read_mark l ≡ 1 → (one_line v).number ≡ invalid_code)
    cases v (alike c) = ((λ q. refl), λ q. absurd (let z : ◌≡◌ {A = ℕ} 0 1 = ap (λ (b : Bool). cond b 1 0) (sym c) ∙ q in omega arith))
    cases v (apart refused c d) = ((λ q. absurd (let z : ◌≡◌ {A = ℕ} 1 0 = ap (λ (b : Bool). cond b 1 0) (sym d) ∙ q in omega arith)), λ q. refl)

module _ (bytes : List ℕ) (at columns : ℕ) (reference : List ℕ) (room : ℕ) where
  abbrev R : Rules
  R = record { width = columns; strict = false; exact = false; room = room }

  wide : (b : Bool) → eqb columns 0 ≡ b → (b || is_too_wide columns) ≡ false → 0 < columns
  wide true e q = absurd (let z : ◌≡◌ {A = ℕ} 0 1 = cc in omega arith)
  wide false e q = positive columns (eqb-false columns 0 e)
    where
      positive : (n : ℕ) → (n ≡ 0 → ⊥) → 0 < n
      positive zero z = absurd (z refl)
      positive (suc n) z = omega arith

  one-tells : Tells (read_one_line bytes at columns false reference room) (read_one_line bytes at columns true reference room)
  unfolding read_one_line
  one-tells = tests (no_line columns) refl (ltb most_bytes (length bytes)) refl (ascends columns reference) refl (leb at (length (bits_of bytes))) refl
    where
      tests : (a : Bool) → no_line columns ≡ a → (b : Bool) → ltb most_bytes (length bytes) ≡ b → (c : Bool) → ascends columns reference ≡ c → (d : Bool) → leb at (length (bits_of bytes)) ≡ d
          → Tells (read_one_line bytes at columns false reference room) (read_one_line bytes at columns true reference room)
      tests true e b f c g d h = rw (e, read_one_line) (λ z. ((λ q. refl), λ q. absurd (omega arith)))
      tests false e true f c g d h = rw (e, f, read_one_line) (λ z. ((λ q. refl), λ q. absurd (omega arith)))
      tests false e false f false g d h = rw (e, f, g, read_one_line) (λ z. ((λ q. refl), λ q. absurd (omega arith)))
      tests false e false f true g false h = rw (e, f, g, h, read_one_line) (λ z. absurd (omega arith))
      tests false e false f true g true h =
          rw (e, f, g, h, read_one_line)
          (twins-tell _ _
          (λ n p l q. (read-broken R (wide (eqb columns 0) refl e) (two reference) (bits_of bytes) at (length (bits_of bytes)) (data-bound (bits_of bytes)) (leb-true _ _ h) n p l q).numbered.0)
          (line-twins columns room (two reference) (bits_of bytes) at false))

pub line-mark-tells : LineMarkTells
line-mark-tells bytes at columns reference changes r s changes' changes'' lenient strict z =
    let n = ap (λ (x : Answer). x.number) lenient.answer in
    let m = ap (λ (x : Answer). x.mark) lenient.answer in
    let t = one-tells bytes at columns reference (length changes) (sym n ∙ z) in (
      (λ e.
          let q = t.0 (sym m ∙ e) in
          (strict.answer ∙ ap row_answer_of q ∙ sym lenient.answer, strict.store ∙ ap (λ (a : Page.Answer). changes_after a changes) q ∙ sym lenient.store)),
      λ e. ap (λ (x : Answer). x.number) strict.answer ∙ t.1 (sym m ∙ e),
    )

pub written-line-is-clean : WrittenLineIsClean
written-line-is-clean columns reference row wide narrow up up' bytes at rest small e strict changes r changes' roomy c =
    ap (λ (x : Answer). x.mark) c.answer
    ∙ ap mark_of (line-returns columns wide narrow strict reference row up up' (length changes) roomy bytes small at rest e)
