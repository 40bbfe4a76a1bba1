-- A12 is met. Assumes nothing.
use mathlib.Core.Path.{◌≡◌, refl, sym, ap, ◌∙◌, subst}
use mathlib.Core.Bool.{Bool, true, false, cond, true≢false}
use mathlib.Core.List.{List, ◌++◌}
use Prim.Native.Nat.{ℕ, suc, ◌+◌, ◌-◌, ◌*◌, ◌≤◌, ◌<◌}
use native.Mathlib.Omega.{arith}
use native.Mathlib.Nat.{mul-suc, mul-le-mul_left, sub-zero}
use lib.ListN.{length, take, length-append}
use lib.Seq.{take_at}
use Rattle.rules.specs.Answers.{complete, too_few_rows}
use Rattle.rules.specs.Machine.{Out, more, done, ends, costs}
use Rattle.rules.specs.Bits.{bits_of}
use Rattle.rules.specs.Lines.{moved_to, apply, after_mode, code_2d}
use Rattle.rules.specs.Counts.{codes_but_makeups}
use Rattle.rules.specs.Rows.{Settings, rules_of}
use Rattle.rules.specs.Group4.{eols_before, over}
use Rattle.rules.specs.Pages as Page
use Rattle.rules.specs.Pages.{Kept, none_kept, entries, page_of, rows_left, read_page, strict_if_exact, short_of, decode, places_in, changes_after, ends_after, marks_after}
use Rattle.rules.proofs.Machine.{Paid, spent-most, ends_more, ends-stops}
use Rattle.rules.proofs.Lines.{inexact}
use Rattle.rules.proofs.Budget.{Bytes, whole-bytes}
use Rattle.rules.proofs.Counts.{exact-moves, few-modes, few-codes}
use Rattle.rules.proofs.Pages.{step, page-falls, ends-behind, Held, held_start, held_next}
use Rattle.rules.proofs.Answers.{short-rows, Refuses, too_wide, too_long, without_columns, decode-cases}
use Rattle.rules.specs.Marks.{strict_of}
use Rattle.rules.proofs.Marks.{decode-came, came-as-many}
use Rattle.rules.proofs.ExactPages.{Beside, agrees, lacks, refuses, exact-off, decode-short, decode-beside, exact_same, exact-first}
use Rattle.answer.specs.Answer.{answer_of}
use Rattle.answer.specs.declared.Answer.{Answer}
use Rattle.settings.specs.declared.DecodeSettings.{DecodeSettings}
use Rattle.settings.specs.Settings.{settings_of}
use Rattle.ccitt.specs.Decode.{Gives}
use Rattle.promises.specs.Rooms.{Call, places}
use Rattle.promises.specs.Exact.{ExactOff, ExactOffCodes, Twice, SameArrays, ExactIsStrict, fourteen, ShortIsStrict, ExactIsFront, ShortStays, lines_of, ExactCodesMoveOn, FewCodesInALine, codes_after, page_codes, FewCodesInAPage}
use Rattle.promises.proofs.Demand1 as Paged
use Rattle.promises.proofs.PageFaults.{one_more}

-- ---- The setting off

pub exact-off-reads : ExactOff
exact-off-reads bytes settings changes ends marks r changes' ends' marks' off wide narrow small called =
    subst (λ (a : Page.Answer). Gives a changes ends marks r changes' ends' marks')
    (exact-off (settings_of settings) off bytes (record { wide = wide; narrow = λ e. omega arith; small = small }) (length changes) (places_in ends marks)) called

pub exact-off-codes : ExactOffCodes
unfolding code_2d
exact-off-codes R off reference bs s m e = ap (after_mode R reference bs s) e ∙ inexact R off m.mode s (apply R reference bs s.at m.mode (moved_to m.at s))

-- ---- Exact beside strict

module _ (bytes : List ℕ) (settings : DecodeSettings) (c d : Call) (t : Twice bytes settings c d) where
  abbrev S : Settings
  S = settings_of settings

  -- the two answers of the rules
  abbrev exactly : Page.Answer
  exactly = decode S bytes (length c.changes) (places c)

  abbrev strictly : Page.Answer
  strictly = decode (strict_of S) bytes (length c.changes) (places c)

  beside : Beside settings.rows exactly strictly
  beside = decode-beside S t.set bytes (length c.changes) (places c)

  -- the strict call's, whose arrays are the same
  given : Gives strictly d.changes d.ends d.marks d.answer d.changes' d.ends' d.marks'
  given =
      subst (λ (a : Page.Answer). Gives a d.changes d.ends d.marks d.answer d.changes' d.ends' d.marks')
      (λ i. decode (strict_of S) bytes (length (t.same_changes i)) (places_in (t.same_ends i) (t.same_marks i))) t.strictly

  -- answers with the same rows, marks and loose entries leave the same arrays
  same-arrays : strictly.rows ≡ exactly.rows → strictly.marks ≡ exactly.marks → strictly.loose ≡ exactly.loose → SameArrays c d
  unfolding changes_after ends_after marks_after
  same-arrays rows marks loose = record {
    changes = given.changes ∙ (λ i. Page.overlaid (Page.joined (rows i) ++ loose i) (t.same_changes i)) ∙ sym t.exactly.changes;
    ends = given.ends ∙ (λ i. Page.overlaid (Page.ends_from 0 (rows i)) (t.same_ends i)) ∙ sym t.exactly.ends;
    marks = given.marks ∙ (λ i. Page.overlaid (marks i) (t.same_marks i)) ∙ sym t.exactly.marks;
  }

  number_is : c.answer.number ≡ exactly.number
  number_is = ap (λ (x : Answer). x.number) t.exactly.answer

pub exact-is-strict : ExactIsStrict
exact-is-strict bytes settings c d t not-1 not-14 =
    let n = number_is bytes settings c d t in
    let same = exact_same (settings_of settings) t.set bytes (length c.changes) (places c) (λ e. not-1 (n ∙ e)) (λ e. not-14 (n ∙ e)) in (
      (given bytes settings c d t).answer ∙ ap answer_of same ∙ sym t.exactly.answer,
      same-arrays bytes settings c d t (ap (λ (a : Page.Answer). a.rows) same) (ap (λ (a : Page.Answer). a.marks) same) (ap (λ (a : Page.Answer). a.loose) same),
    )

-- what 14 stands for
record Short (asked : ℕ) (a b : Page.Answer) : Type 0 where
  finished : b.number ≡ complete
  fewer : length b.rows < asked
  short-of : a ≡ short_of b

short-beside : {asked : ℕ} {a b : Page.Answer} → Beside asked a b → (b.number ≡ too_few_rows → ⊥) → a.number ≡ too_few_rows → Short asked a b
short-beside agrees x e = absurd (x e)
short-beside (lacks d h) x e = record { finished = d; fewer = h; short-of = refl }
short-beside (refuses d f) x e = absurd (omega arith)

pub short-is-strict : ShortIsStrict
short-is-strict bytes settings c d t e =
    let a = number_is bytes settings c d t in
    let s = short-beside (beside bytes settings c d t) (λ q. true≢false (sym (decode-short (strict_of (settings_of settings)) bytes (length c.changes) (places c) q).exact)) (sym a ∙ e) in
    let g = (given bytes settings c d t).answer in (
      ap (λ (x : Answer). x.number) g ∙ s.finished,
      omega (arith, ap (λ (x : Answer). x.rows) g, s.fewer),
      t.exactly.answer ∙ ap answer_of s.short-of ∙ ap fourteen (sym g),
      same-arrays bytes settings c d t (sym (ap (λ (x : Page.Answer). x.rows) s.short-of)) (sym (ap (λ (x : Page.Answer). x.marks) s.short-of)) (sym (ap (λ (x : Page.Answer). x.loose) s.short-of)),
    )

pub exact-is-front : ExactIsFront
exact-is-front bytes settings c d t =
    let f = exact-first (settings_of settings) t.set bytes (length c.changes) (places c) in
    let a = exactly bytes settings c d t in
    let b = strictly bytes settings c d t in
    let n = ap (λ (x : Answer). x.rows) t.exactly.answer in
    let m = ap (λ (x : Answer). x.rows) (given bytes settings c d t).answer in
    let many = came-as-many (decode-came (settings_of settings) bytes (length c.changes) (places c)).1 in
    let all = came-as-many (decode-came (strict_of (settings_of settings)) bytes (length c.changes) (places c)).1 in
    let rows = Paged.in-store a c.changes c.ends c.marks c.answer c.changes' c.ends' c.marks' t.exactly in
    let rows'' = Paged.in-store b d.changes d.ends d.marks d.answer d.changes' d.ends' d.marks' (given bytes settings c d t) in
    let marks = Paged.marks-front a c.changes c.ends c.marks c.answer c.changes' c.ends' c.marks' t.exactly many in
    let marks'' = Paged.marks-front b d.changes d.ends d.marks d.answer d.changes' d.ends' d.marks' (given bytes settings c d t) all in (
      omega (arith, n, m, ap length f.rows, length-append a.rows f.rest),
      rows ∙ sym (ap (take c.answer.rows) (rows'' ∙ f.rows) ∙ take_at a.rows f.rest c.answer.rows (sym n)),
      marks ∙ sym (ap (take c.answer.rows) (marks'' ∙ f.marks) ∙ take_at a.marks f.later c.answer.rows (many ∙ sym n)),
    )

pub short-stays : ShortStays
short-stays bytes settings changes ends marks larger-changes larger-ends larger-marks r s changes' ends' marks' larger-changes' larger-ends' larger-marks' hc he hm called later n =
    Paged.settled-stays bytes settings changes ends marks larger-changes larger-ends larger-marks r s changes' ends' marks' larger-changes' larger-ends' larger-marks' hc he hm called later
    ((λ e. omega arith), λ e. omega arith)

-- ---- No idle codes

pub exact-codes-move-on : ExactCodesMoveOn
exact-codes-move-on settings exact bytes room reference rises s t before e = exact-moves (lines_of settings room) (rw exact) exact reference rises (bits_of bytes) s t before e

pub few-codes-in-a-line : FewCodesInALine
few-codes-in-a-line settings exact bytes room reference rises at = (
  few-modes (lines_of settings room) (rw exact) exact reference rises (bits_of bytes) at,
  few-codes (lines_of settings room) (rw exact) exact reference rises (bits_of bytes) at,
)

module _ (S : Settings) (strict : S.strict ≡ true) (exact : S.exact ≡ true) (wide : 0 < S.columns) (bs : List Bool) (bytes : Bytes bs) (store places : ℕ) where
  abbrev stepped : Kept → Out Kept Page.Answer
  stepped = step S.encoding S wide bs bytes store places

  abbrev Holds : Kept → Type 0
  Holds = Held S.encoding S wide bs bytes store places

  abbrev each : ℕ
  each = 3 * S.columns + 1

  -- one line
  after-few : (k : Kept) → Holds k → codes_after S bs store k ≤ each
  unfolding codes_after
  after-few k h = tests (over S bs k.state (eols_before S bs k.state))
    where
      tests : (b : Bool) → cond b 0 (codes_but_makeups (rules_of S (store - entries k.rows)) k.state.reference bs (eols_before S bs k.state).at) ≤ each
      tests true = omega arith
      tests false = few-codes (rules_of S (store - entries k.rows)) strict exact k.state.reference h.reference bs (eols_before S bs k.state).at

  -- the page that ends with an answer: what is held for its lines, from rows that are kept
  module _ (a : Page.Answer) where
    abbrev held : Kept → ℕ
    held k = each * (length a.rows + 1 - length k.rows)

    record Toward (k : Kept) : Type 0 where
      holds : Holds k
      end : ends stepped (rows_left bs) k ≡ done a

    fewer : (k : Kept) → Toward k → length k.rows ≤ length a.rows
    fewer k t = let (rest, x, later, y) = ends-behind S.encoding S wide bs bytes store places k a t.end in omega (arith, ap length x, length-append k.rows rest)

    -- for one line out of what is held for a row
    row : (m n c : ℕ) → n < m → c ≤ each → c + each * n ≤ each * m
    row m n c h l = omega (arith, mul-le-mul_left {m = suc n} {n = m} each h, mul-suc each n)

    last : (k : Kept) → Toward k → codes_after S bs store k ≤ held k
    last k t = omega (arith, row (length a.rows + 1 - length k.rows) 0 (codes_after S bs store k) (omega (arith, fewer k t)) (after-few k t.holds))

    paid : (k : Kept) → Toward k → Paid Toward (codes_after S bs store) held k (stepped k)
    paid k t = cases (stepped k) refl
      where
        cases : (o : Out Kept Page.Answer) → stepped k ≡ o → Paid Toward (codes_after S bs store) held k o
        cases (done b) e = last k t
        cases (more j) e =
            let u : Toward j = record {
              holds = held_next S.encoding S wide bs bytes store places k j t.holds e;
              end = sym (ends_more stepped (rows_left bs) (page-falls S.encoding S wide bs bytes store places) k j e) ∙ t.end;
            } in
            (u, row (length a.rows + 1 - length k.rows) (length a.rows + 1 - length j.rows) (codes_after S bs store k) (omega (arith, fewer j u, one_more S wide bs bytes store places k j e)) (after-few k t.holds))

  page-few : page_codes S bs store places ≤ each * (length (read_page S bs store places).rows + 1)
  unfolding read_page costs
  page-few =
      let p = ends-stops stepped (rows_left bs) (page-falls S.encoding S wide bs bytes store places) none_kept in
      subst (λ (a : Page.Answer). page_codes S bs store places ≤ each * (length a.rows + 1)) (sym (ap page_of p.1))
      (rw (sub-zero (length p.0.rows + 1)) at (spent-most (Toward p.0) (codes_after S bs store) (held p.0) stepped (paid p.0) (suc (rows_left bs none_kept)) none_kept
      (record { holds = held_start S.encoding S wide bs bytes store places; end = p.1 })))

pub few-codes-in-a-page : FewCodesInAPage
few-codes-in-a-page bytes settings changes ends marks r changes' ends' marks' exact group_4 wide narrow small called =
    subst (λ (n : ℕ). page_codes (strict_if_exact (settings_of settings)) (bits_of bytes) (length changes) (places_in ends marks) ≤ (3 * settings.columns + 1) * (n + 1)) rows_are
    (page-few (strict_if_exact (settings_of settings)) (rw exact) exact wide (bits_of bytes) (whole-bytes bytes) (length changes) (places_in ends marks))
  where
    page : Page.Answer
    page = read_page (strict_if_exact (settings_of settings)) (bits_of bytes) (length changes) (places_in ends marks)

    refused : {n : ℕ} → Refuses (settings_of settings) bytes n → ⊥
    refused (too_wide c) = omega arith
    refused (too_long h) = omega arith
    refused (without_columns c) = omega arith

    -- the rows stand, also where they are too few
    rows_are : length page.rows ≡ r.rows
    rows_are =
        decode-cases (settings_of settings) bytes (λ f. length page.rows ≡ length (f (length changes) (places_in ends marks)).rows) (λ n q. absurd (refused q))
        (λ ok. sym (ap length (short-rows (settings_of settings) page)))
        ∙ sym (ap (λ (x : Answer). x.rows) called.answer)
