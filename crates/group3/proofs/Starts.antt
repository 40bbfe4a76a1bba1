-- Where a line begins, by its tag bit, and its reading into the store. Assumes nothing.
use mathlib.Core.Path.{◌≡◌, refl, sym, ap, ◌∙◌, subst}
use mathlib.Core.Bool.{Bool, true, false}
use mathlib.Core.List.{List, ◌++◌}
use Prim.Native.Nat.{ℕ, ◌+◌, ◌-◌, ◌*◌, ◌<◌}
use native.Mathlib.Omega.{arith}
use native.Mathlib.Numerals.{add-one}
use lib.Dec.{leb, ltb}
use lib.ListN.{length, take, drop, length-drop}
use borrow.Author.Tests.{lt-ltb, le-ltb, leb-true, leb-false}
use borrow.Rule.Slice.PartMut.{mid_of, put_mid}
use Rattle.std.specs.Prelude.{Err}
use Rattle.rules.specs.Bits.{bits_of, front_bit}
use Rattle.rules.specs.Lines.{Rules, Went, one, two, read_line}
use Rattle.rules.specs.Rows.{Settings, rules_of}
use Rattle.rules.specs.Group3.{Tagging, untagged, tagged, tagged_line, line_of_tag, line3}
use Rattle.rules.proofs.Bits.{length-bits_of}
use Rattle.bit_reader.specs.Loaded.{Loading}
use Rattle.context.specs.State.{new_for, rules_for}
use Rattle.context.specs.Outcome as Line
use Rattle.context.specs.Outcome.{Step, stop_at, Steps}
use Rattle.context.specs.declared.reference.Reference.{Reference}
use Rattle.context.specs.declared.reference.Reference.TheVariants.{Lent, Kept}
use Rattle.context.specs.Coding.{Lines, is_kept, TabledFor, PairedFor, StepsAt, Lined}
use Rattle.context.proofs.RowPart.{row-lent, row_back}
use Rattle.swift_loops.specs.Pairs.{Tabled}
use Rattle.settings.specs.declared.DecodeSettings.{DecodeSettings}
use Rattle.settings.specs.declared.State.{State}
use Rattle.settings.specs.Settings.{settings_of, tagging_of}
use Rattle.settings.specs.Between.{state_of}
use Rattle.settings.proofs.Ended.{unchanged}
use Rattle.group3.specs.declared.line.LineKind.{LineKind}
use Rattle.group3.specs.declared.line.LineKind.TheVariants.{One, Two, NoTag}
use Rattle.group3.specs.Tags.{is_tagged}
use Rattle.group3.specs.Lined.{lines_by, kind_line, KindStarts, KindAt, LineFrom, line_in}

-- ---- The kind of the line at a bit

module _ {bytes : List ℕ} {at : ℕ} (h : Loading bytes at) (t : Tagging) where
  abbrev bs : List Bool
  bs = bits_of bytes

  pub kind-untagged : is_tagged t ≡ false → KindAt bytes t at (One at)
  kind-untagged = cases t
    where
      cases : (t : Tagging) → is_tagged t ≡ false → KindAt bytes t at (One at)
      cases untagged q = record { starts = h; same = λ S R reference. refl }
      cases tagged q = absurd (let z : ◌≡◌ {A = ℕ} 0 1 = cc in omega arith)

  module _ (q : is_tagged t ≡ true) where
    -- a line behind its tag bit
    tagged-line : (S : Settings) (R : Rules) (reference : List ℕ) → line_of_tag S t bs R reference at (ltb at (length bs)) ≡ line3 S t bs R reference at t
    tagged-line S R reference = cases t q
      where
        cases : (u : Tagging) → is_tagged u ≡ true → line_of_tag S t bs R reference at (ltb at (length bs)) ≡ line3 S t bs R reference at u
        cases tagged q = refl
        cases untagged q = absurd (let z : ◌≡◌ {A = ℕ} 0 1 = cc in omega arith)

    pub kind-missing : leb (length bs) at ≡ true → KindAt bytes t at NoTag
    kind-missing e = record {
      starts = tt;
      same = λ S R reference. ap (line_of_tag S t bs R reference at) (sym (le-ltb at (length bs) (leb-true (length bs) at e))) ∙ tagged-line S R reference;
    }

    module _ (e : leb (length bs) at ≡ false) where
      inside : at < length bs
      inside = leb-false (length bs) at e

      behind : Loading bytes (at + 1)
      behind = record { size = h.size; inside = omega (arith, inside, length-bits_of bytes) }

      by-tag : (b : Bool) → front_bit (drop at bs) ≡ b → (S : Settings) (R : Rules) (reference : List ℕ) → tagged_line S t bs R reference at b ≡ line3 S t bs R reference at t
      by-tag b f S R reference =
          ap (tagged_line S t bs R reference at) (sym f) ∙ ap (line_of_tag S t bs R reference at) (sym (lt-ltb at (length bs) inside)) ∙ tagged-line S R reference

      pub kind-one : front_bit (drop at bs) ≡ true → KindAt bytes t at (One (at + 1))
      kind-one f = record { starts = behind; same = λ S R reference. ap (read_line R one bs) (add-one at) ∙ by-tag true f S R reference }

      pub kind-two : front_bit (drop at bs) ≡ false → KindAt bytes t at (Two (at + 1))
      kind-two f = record { starts = behind; same = λ S R reference. ap (read_line R (two reference) bs) (add-one at) ∙ by-tag false f S R reference }

-- ---- The line, into the store

module _ {bytes lent xs : List ℕ} {settings : DecodeSettings} {st : State} {at : ℕ} (h : LineFrom bytes lent xs settings st at) (k : LineKind) (a : KindAt bytes (tagging_of settings.encoding) at k) where
  abbrev base : ℕ
  base = st.base

  -- the line of the kind, in the room that the slice behind the base has, or that the store has
  abbrev line_of : ℕ → Went
  line_of n = kind_line (rules_of (settings_of settings) n) (state_of lent xs st).reference (bits_of bytes) at k

  is : line_of (length (drop base xs)) ≡ line_in settings bytes lent xs st at
  is = ap line_of (length-drop base xs) ∙ a.same (settings_of settings) (rules_of (settings_of settings) (length xs - base)) (state_of lent xs st).reference

  gives : (r : Step) (ys : List ℕ) → StepsAt base settings.columns xs (line_of (length (drop base xs))) r ys → StepsAt base settings.columns xs (line_in settings bytes lent xs st at) r ys
  gives r ys s = subst (λ (w : Went). StepsAt base settings.columns xs w r ys) is s

  starts : (start : ℕ) → Loading bytes start → Line.Starts bytes settings.columns start
  starts start l = record { loading = l; narrow = h.row.narrow }

  pub line-missing : k ≡ NoTag → StepsAt base settings.columns xs (line_in settings bytes lent xs st at) (Err (stop_at 2 (new_for settings.columns) (8 * length bytes))) xs
  line-missing e =
      gives _ xs
      (rw e (record { answer = ap (λ (n : ℕ). Err (stop_at 2 (new_for settings.columns) n)) (sym (length-bits_of bytes)); store = unchanged base xs }))

  module _ (start : ℕ) where
    pub one-starts : k ≡ One start → Line.Starts bytes settings.columns start
    one-starts e = starts start (subst (KindStarts bytes) e a.starts)

    -- into the slice behind the base, which comes back
    pub line-one : k ≡ One start → (r : Step) (ys : List ℕ)
        → Steps settings.columns (mid_of base (length xs - base) xs) (read_line (rules_for settings.columns (lines_by settings) (mid_of base (length xs - base) xs)) one (bits_of bytes) start) r ys
        → StepsAt base settings.columns xs (line_in settings bytes lent xs st at) r (put_mid base (length xs - base) xs ys)
    line-one e r ys s =
        let v = rw (row-lent xs base) at s in
        gives r _ (rw (e, row_back xs base h.row.held ys) (record { answer = v.answer; store = ap (λ (l : List ℕ). take base xs ++ l) v.store }))

    pub two-asks : k ≡ Two start → Lines bytes lent xs base st.reference settings.columns start
    two-asks e = record { starts = starts start (subst (KindStarts bytes) e a.starts); placed = h.row.placed; rising = h.row.rising }

    pub line-two : k ≡ Two start → (r : Step) (ys : List ℕ) → Lined bytes lent xs base st.reference settings.columns start (lines_by settings) r ys
        → StepsAt base settings.columns xs (line_in settings bytes lent xs st at) r ys
    line-two e r ys s = gives r ys (rw e s)

-- ---- The tables

-- a kept row is lent all of them
pub tabled-1d : (place : Reference) {kept : Bool} {w b both : List ℕ} → kept ≡ is_kept place → PairedFor place w b both → Tabled kept w b both
tabled-1d Lent e t k = absurd (let z : ◌≡◌ {A = Bool} false true = sym e ∙ k in let y : ◌≡◌ {A = ℕ} 0 1 = cc in omega arith)
tabled-1d (Kept start) e t k = t

pub tabled-2d : (place : Reference) (w b both : List ℕ) → PairedFor place w b both → TabledFor place w b
tabled-2d Lent w b both t = tt
tabled-2d (Kept start) w b both t = t.0
