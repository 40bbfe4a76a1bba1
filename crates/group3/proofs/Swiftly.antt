-- A row behind one EOL that was expected. Assumes nothing.
use mathlib.Core.Path.{◌≡◌, refl, sym, ap, ◌∙◌, subst}
use mathlib.Core.Bool.{Bool, true, false, not, ◌&&◌}
use mathlib.Core.List.{List, [], ◌++◌}
use Prim.Native.Nat.{ℕ, zero, suc, ◌+◌, ◌-◌, ◌*◌, ◌/◌, ◌%◌, ◌^◌, ◌≤◌, ◌<◌}
use native.Mathlib.Omega.{arith}
use lib.Dec.{eqb, leb}
use lib.ListN.{length, take, drop, length-drop, take-append-drop}
use lib.Seq.{drop-drop}
use borrow.Rule.Slice.PartMut.{mid_of, put_mid}
use borrow.Author.Tests.{not-true, ne_eqb, eqb-true, eqb-false, lt-leb}
use Rattle.std.specs.Prelude.{Option, Some, None, Ok}
use Rattle.rules.specs.Bits.{bits_of, front_bit, peek}
use Rattle.rules.specs.Eols.{eols_to, all_eols}
use Rattle.rules.specs.Codes.{black}
use Rattle.rules.specs.Lines.{Went, went, line, two, read_line}
use Rattle.rules.specs.Rows as Page
use Rattle.rules.specs.Rows.{rules_of}
use Rattle.rules.specs.Group3.{Tagging, between_tags, eols3, row3}
use Rattle.rules.proofs.Bits.{both_true, length-bits_of, peek-add, peek-high, peek-low}
use Rattle.bit_reader.specs.Loaded.{Loading, Ahead}
use Rattle.bit_reader.proofs.Window.{ahead-first}
use Rattle.bit_reader.proofs.Clear.{zeros-few, some_one}
use Rattle.codes.specs.declared.eol.Eols.{Eols}
use Rattle.codes.specs.Eols.{eols_of}
use Rattle.codes.proofs.Eols.{Closed, closing, plain-eol, none_yet, eol, without_eol}
use Rattle.settings.specs.declared.DecodeSettings.{DecodeSettings}
use Rattle.settings.specs.declared.State.{State}
use Rattle.settings.specs.Settings.{settings_of, tagging_of}
use Rattle.settings.specs.Between.{state_of, Row, kept_row, RowFrom, RowGives}
use Rattle.settings.proofs.Ended.{unchanged}
use Rattle.one_line.specs.White.{under_white}
use Rattle.one_line.proofs.WhiteLine.{white-line, under-white}
use Rattle.group3.specs.declared.eob.Before.TheVariants.{Line}
use Rattle.group3.specs.Tags.{is_tagged}
use Rattle.group3.specs.Ahead.{single_at, usual, before_of, before_in}
use Rattle.context.proofs.RowPart.{row-lent, row_back}
use Rattle.swift_loops.specs.declared.fast_1d.BeforePair.{BeforePair}
use Rattle.swift_loops.specs.Pairs.{halt_line, pace_of, Filled}
use Rattle.swift_loops.proofs.Running.{ran-done}
use Rattle.group3.specs.declared.line.LineKind.TheVariants.{One}
use Rattle.group3.specs.Lined.{lines_by, LineFrom, line_in, WhiteAt, white_2d}
use Rattle.group3.specs.Recovery.{after_line_in}
use Rattle.group3.proofs.TagBits.{bit-one, Joined, all_read, joined-first, joined-done, joined_line, eols-untagged, eols-tagged}
use Rattle.group3.proofs.Judging.{unaligned, lacks-none, judged-on, before-judged}
use Rattle.group3.proofs.Starts.{kind-untagged, kind-two, line-one}
use Rattle.group3.proofs.Outcomes.{line_read, row_line, row_gives}

-- ---- One EOL, in a word of the data

module _ {bytes : List ℕ} {at live w : ℕ} (h : Ahead bytes at live w) (enough : 57 ≤ live) where
  pub twelve : w / 2 ^ 52 ≡ peek 12 (drop at (bits_of bytes))
  twelve = ahead-first h 12 (omega arith)

  pub ten-behind : w / 2 ^ 41 % 1024 ≡ peek 10 (drop (at + 13) (bits_of bytes))
  ten-behind =
      ap (λ (n : ℕ). n % 1024) (ahead-first h 23 (omega arith))
      ∙ peek-low 13 10 (drop at (bits_of bytes))
      ∙ ap (peek 10) (drop-drop 13 at (bits_of bytes))

  pub two-behind : w / 2 ^ 50 % 4 ≡ peek 2 (drop (at + 12) (bits_of bytes))
  two-behind =
      ap (λ (n : ℕ). n % 4) (ahead-first h 14 (omega arith))
      ∙ peek-low 12 2 (drop at (bits_of bytes))
      ∙ ap (peek 2) (drop-drop 12 at (bits_of bytes))

module _ {bytes : List ℕ} {at : ℕ} (h : Loading bytes at) (single : single_at bytes at ≡ true) where
  abbrev bs : List Bool
  bs = bits_of bytes

  parts : (eqb (peek 12 (drop at bs)) 1 ≡ true) × (not (eqb (peek 10 (drop (at + 13) bs)) 0) ≡ true)
  parts = both_true (eqb (peek 12 (drop at bs)) 1) (not (eqb (peek 10 (drop (at + 13) bs)) 0)) single

  -- a one stands behind the next bit
  ten : 0 < peek 10 (drop (at + 12 + 1) bs)
  ten =
      rw (let e : at + 12 + 1 ≡ at + 13 = omega arith in e)
      (positive (peek 10 (drop (at + 13) bs)) (not-true (eqb (peek 10 (drop (at + 13) bs)) 0) parts.1))
    where
      positive : (n : ℕ) → eqb n 0 ≡ false → 0 < n
      positive zero k = absurd (eqb-false 0 0 k refl)
      positive (suc n) k = omega arith

  eleven : 0 < peek 11 (drop (at + 12) bs)
  eleven = omega (arith, peek-add 1 10 (drop (at + 12) bs), ap (peek 10) (drop-drop 1 (at + 12) bs), ten)

  pub behind-inside : at + 12 < 8 * length bytes
  behind-inside = omega (arith, (closing bytes (at + 12) (some_one 11 (drop (at + 12) bs) eleven)).inside)

  one-eol : Closed bytes at 11 (at + 12)
  one-eol = plain-eol bytes at refl (peek-high 12 20 (drop at bs) ∙ eqb-true (peek 12 (drop at bs)) 1 parts.0)

  abbrev here : Eols
  here = record { count = 1; at = at + 12 }

  pub single-eol : eols_of here ≡ all_eols bs at
  single-eol =
      without_eol (eol (none_yet (length bs) h.inside) (omega (arith, behind-inside, length-bits_of bytes)) one-eol (omega arith))
      (omega (arith, behind-inside, length-bits_of bytes))
      (closing bytes (at + 12) (some_one 11 (drop (at + 12) bs) eleven)) (zeros-few 11 (drop (at + 12) bs) eleven)

  -- no EOL follows the next bit, so it is the line's where it is a tag bit
  no_more : eols_to 0 (at + 12 + 1) ≡ all_eols bs (at + 12 + 1)
  no_more =
      let ones = closing bytes (at + 12 + 1) (some_one 10 (drop (at + 12 + 1) bs) ten) in
      without_eol (none_yet (length bs) (omega (arith, behind-inside))) (omega (arith, behind-inside, length-bits_of bytes)) ones
      (omega (arith, zeros-few 10 (drop (at + 12 + 1) bs) ten))

  single-tagged : eols_of here ≡ between_tags (length bs) bs (eols_of here)
  single-tagged = cases (joined-first (all_read h here single-eol).0) (front_bit (drop (at + 12) bs)) refl
    where
      cases : Joined bytes 1 (at + 12) 1 (at + 12) → (b : Bool) → front_bit (drop (at + 12) bs) ≡ b
          → eols_of here ≡ between_tags (length bs) bs (eols_of here)
      cases j false q = joined-done j q
      cases j true q = joined_line j q (record { count = 0; at = at + 12 + 1 }) no_more refl (omega arith)

  pub single-eols : (t : Tagging) → eols_of here ≡ eols3 bs t at
  single-eols t = cases (is_tagged t) refl
    where
      cases : (b : Bool) → is_tagged t ≡ b → eols_of here ≡ eols3 bs t at
      cases false q = eols-untagged bs at t (eols_of here) single-eol q
      cases true q = eols-tagged bs at t (eols_of here) single-eol q (λ z. omega arith) (eols_of here) single-tagged

-- ---- A white line

pub white-seen : (bytes : List ℕ) (settings : DecodeSettings) (room at : ℕ) → is_tagged (tagging_of settings.encoding) ≡ false
    → (r : Option BeforePair) → Filled bytes room settings.columns at r → WhiteAt bytes settings room at r
white-seen bytes settings room at q (Some v) f = (q, f)
white-seen bytes settings room at q None f = tt

-- ---- A white 2D line

-- a tag bit that is a zero, and a one behind it
zero_one : (ds : List Bool) → peek 2 ds ≡ 1 → (front_bit ds ≡ false) × (peek 1 (drop 1 ds) ≡ 1)
zero_one ds e = let s = peek-add 1 1 ds in (sym (bit-one ds) ∙ ne_eqb (peek 1 ds) 1 (λ q. omega arith), omega arith)

-- ---- The row behind it

module _ {bytes lent xs : List ℕ} {settings : DecodeSettings} {st : State} (h : RowFrom bytes lent xs settings st) (seen : usual settings bytes st ≡ true) where
  abbrev S : Page.Settings
  S = settings_of settings

  abbrev t : Tagging
  t = tagging_of settings.encoding

  record Parts : Type 0 where
    later : eqb st.rows 0 ≡ false
    expected : st.eols ≡ true
    going : eqb st.rows settings.rows ≡ false
    single : single_at bytes st.at ≡ true

  parts-of : (a b c d : Bool) → (not a && (b && (not c && d))) ≡ true → (a ≡ false) × (b ≡ true) × (c ≡ false) × (d ≡ true)
  parts-of false true false true q = (refl, refl, refl, refl)
  parts-of true b c d q = absurd (let z : ◌≡◌ {A = ℕ} 0 1 = cc in omega arith)
  parts-of false false c d q = absurd (let z : ◌≡◌ {A = ℕ} 0 1 = cc in omega arith)
  parts-of false true true d q = absurd (let z : ◌≡◌ {A = ℕ} 0 1 = cc in omega arith)
  parts-of false true false false q = absurd (let z : ◌≡◌ {A = ℕ} 0 1 = cc in omega arith)

  parts_seen : Parts
  parts_seen =
      let (a, b, c, d) = parts-of (eqb st.rows 0) st.eols (eqb st.rows settings.rows) (single_at bytes st.at) seen in
      record { later = a; expected = b; going = c; single = d }

  before-is : before_of settings bytes (Line (st.at + 12) st.eols) ≡ before_in settings bytes st (eqb st.rows 0)
  before-is =
      let p = parts_seen in
      let e : Eols = record { count = 1; at = st.at + 12 } in
      let q : eols_of e ≡ eols3 (bits_of bytes) t st.at = single-eols h.loading p.single t in
      before-judged settings bytes st e st.at (unaligned settings.rows_are_byte_aligned st.eols st.at p.expected) q
      (lacks-none false st.eols (eqb st.rows settings.rows) (leb (length (bits_of bytes)) (st.at + 12)) refl) _
      (judged-on settings bytes (eqb st.rows settings.rows) st.eols e (few settings.end_of_block) p.going
      (lt-leb (length (bits_of bytes)) (st.at + 12) (omega (arith, behind-inside h.loading p.single, length-bits_of bytes))))
      ∙ ap (before_in settings bytes st) (sym p.later)
    where
      few : (t : Bool) → (t && leb 6 1) ≡ false
      few true = refl
      few false = refl

  pub behind-fits : st.at + 12 < 8 * length bytes
  behind-fits = behind-inside h.loading parts_seen.single

  pub line-seen : LineFrom bytes lent xs settings st (st.at + 12)
  line-seen = row_line h (Line (st.at + 12) st.eols) before-is (st.at + 12) st.eols refl

  pub row_seen : (r : Row) (ys : List ℕ) → RowGives st.base xs (after_line_in settings bytes lent xs st (st.at + 12) st.eols (line_in settings bytes lent xs st (st.at + 12))) r ys
      → RowGives st.base xs (row3 S t (bits_of bytes) (length xs - st.base) (state_of lent xs st)) r ys
  row_seen r ys g = row_gives h (Line (st.at + 12) st.eols) before-is (st.at + 12) st.eols refl r ys g

  -- a white line, which its first run fills; the store stays
  pub row-white : (v : BeforePair) → is_tagged t ≡ false → Filled bytes (length xs - st.base) settings.columns (st.at + 12) (Some v)
      → RowGives st.base xs (row3 S t (bits_of bytes) (length xs - st.base) (state_of lent xs st)) (Ok (kept_row v.count 0 v.at st.eols)) xs
  row-white v q f =
      let part = mid_of st.base (length xs - st.base) xs in
      let long : length part ≡ length xs - st.base = ap length (row-lent xs st.base) ∙ length-drop st.base xs in
      let ran = f.1 part long in
      let step = ran-done bytes part settings.columns (st.at + 12) (lines_by settings) h.narrow ran f.0 in
      let kind = kind-untagged line-seen.loading t q in
      let back : put_mid st.base (length xs - st.base) xs part ≡ xs =
      row_back xs st.base h.held part ∙ ap (λ (l : List ℕ). take st.base xs ++ l) (row-lent xs st.base) ∙ take-append-drop st.base xs in
      let lined = line-one line-seen (One (st.at + 12)) kind (st.at + 12) refl _ part step in
      row_seen _ xs (subst (λ (ys : List ℕ). RowGives st.base xs (after_line_in settings bytes lent xs st (st.at + 12) st.eols (line_in settings bytes lent xs st (st.at + 12))) (Ok (kept_row v.count 0 v.at st.eols)) ys) back
      (line_read line-seen st.eols _ _ lined (halt_line settings.columns (pace_of v)) v.at refl))

  -- a white 2D line under a white row; the store stays
  pub row-white-2d : white_2d settings bytes lent st (st.at + 12) ≡ true
      → RowGives st.base xs (row3 S t (bits_of bytes) (length xs - st.base) (state_of lent xs st)) (Ok (kept_row 0 0 (st.at + 12 + 2) st.eols)) xs
  row-white-2d e =
      let at = st.at + 12 in
      let R = rules_of S (length xs - st.base) in
      let under = under_white st.reference st.base lent in
      let (q, r) = both_true (is_tagged t) (under && eqb (peek 2 (drop at (bits_of bytes))) 1) e in
      let (u, v) = both_true under (eqb (peek 2 (drop at (bits_of bytes))) 1) r in
      let (tag, one) = zero_one (drop at (bits_of bytes)) (eqb-true (peek 2 (drop at (bits_of bytes))) 1 v) in
      let kind = kind-two line-seen.loading t q (lt-leb (length (bits_of bytes)) at (omega (arith, behind-fits, length-bits_of bytes))) tag in
      let o = white-line R h.wide (omega (arith, h.narrow)) (bits_of bytes) (at + 1) (ap (peek 1) (sym (drop-drop 1 at (bits_of bytes))) ∙ one) in
      let k : line_in settings bytes lent xs st at ≡ went (line (at + 1 + 1) settings.columns black [] false) =
      sym (kind.same S R (state_of lent xs st).reference)
      ∙ ap (λ (l : List ℕ). read_line R (two l) (bits_of bytes) (at + 1)) (under-white st.reference st.base lent xs u)
      ∙ o in
      let n : at + 2 ≡ at + 1 + 1 = omega arith in
      row_seen (Ok (kept_row 0 0 (at + 2) st.eols)) xs
      (subst (λ (w : Went). RowGives st.base xs (after_line_in settings bytes lent xs st at st.eols w) (Ok (kept_row 0 0 (at + 2) st.eols)) xs) (sym k)
      (record { answer = λ i. Ok (kept_row 0 0 (n i) st.eols); store = unchanged st.base xs }))
