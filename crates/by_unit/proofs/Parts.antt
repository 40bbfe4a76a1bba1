-- The parts of a call, test by test: the next EOL, and the ways to close a row or the page. Assumes nothing.
use mathlib.Core.Path.{◌≡◌, refl, sym, ap, ◌∙◌, subst}
use mathlib.Core.Bool.{Bool, true, false, cond}
use mathlib.Core.List.{List}
use mathlib.Core.Option.{Option, none, some}
use Prim.Native.Nat.{ℕ, suc, ◌+◌, ◌*◌, ◌/◌, ◌≤◌, ◌<◌}
use native.Mathlib.Nat.{min-le_left, min-le_right}
use native.Mathlib.Omega.{arith}
use lib.Dec.{eqb, ltb}
use lib.ListN.{length, drop, set}
use borrow.Author.Tests.{le-ltb, lt-ltb, ltb-true, ltb-false, eq-eqb, ne_eqb}
use Rattle.rules.specs.Bits.{bits_of}
use Rattle.rules.specs.Eols as Eol
use Rattle.rules.specs.Eols.{zero_run, eol_after, eols_to, read_eols}
use Rattle.rules.specs.Rows.{bytes_to, aligned_if}
use Rattle.rules.specs.Pages.{most_bytes, places_in}
use Rattle.rules.proofs.Bits.{length-bits_of}
use Rattle.rules.proofs.Budget.{whole-bytes, aligned-ahead}
use Rattle.rules.proofs.Eols.{eol-inside}
use Rattle.bit_reader.specs.Loaded.{Loading}
use Rattle.codes.specs.declared.eol.Eols.{Eols}
use Rattle.codes.specs.Eols.{eols_of}
use Rattle.context.specs.declared.line.Line.{Line}
use Rattle.context.specs.State.{new_for}
use Rattle.settings.specs.declared.DecodeSettings.{DecodeSettings}
use Rattle.by_unit.specs.declared.stand.Half.{Half}
use Rattle.by_unit.specs.declared.stand.Stand.{Stand}
use Rattle.by_unit.specs.declared.stand.Stand.TheVariants.{Between, InLine, InRun}
use Rattle.by_unit.specs.declared.stand.Kept.{Kept}
use Rattle.by_unit.specs.declared.stand.Out.{Out}
use Rattle.by_unit.specs.declared.stand.Out.TheVariants.{More}
use Rattle.std.specs.Prelude as Code
use Rattle.by_unit.specs.Standing.{most_eols, eol_of, next_of, over_for, done_for, line_or_over_for, eol_or_line_for, between_for, kept_for, eols_at, close_for, put_if, Closes, SettlesLine, Settles}
use Rattle.by_unit.specs.OneUnit.{eol_unit_for}

-- ---- The next EOL

module _ (bytes : List ℕ) (settings : DecodeSettings) (e : Eols) where
  abbrev bs : List Bool
  bs = bits_of bytes

  -- by the limit of the EOLs before a line
  limited : (b : Bool) → ltb e.count (most_eols (length bytes) settings) ≡ b → next_of bytes settings e ≡ cond b (eol_after e.at (zero_run (drop e.at bs))) none
  limited b q =
      ap (λ (n : ℕ). cond (ltb e.count (cond settings.end_of_block 2 n)) (eol_after e.at (zero_run (drop e.at bs))) none) (length-bits_of bytes)
      ∙ ap (λ (c : Bool). cond c (eol_after e.at (zero_run (drop e.at bs))) none) q

  pub next-none : most_eols (length bytes) settings ≤ e.count → none ≡ next_of bytes settings e
  next-none h = sym (limited false (le-ltb _ _ h))

  module _ (few : e.count < most_eols (length bytes) settings) (r : Eols) (q : eols_of r ≡ read_eols 1 bs e.at) where
    reads : (o : Option ℕ) → eol_after e.at (zero_run (drop e.at bs)) ≡ o → eols_of r ≡ elim o as (λ _. Eol.Eols) [ none ↦ eols_to 0 e.at | some a ↦ eols_to 1 a ]
    unfolding read_eols
    reads none p = q ∙ rw (p, read_eols)
    reads (some a) p = q ∙ rw (p, read_eols)

    pub next-nothing : r.count ≡ 0 → none ≡ next_of bytes settings e
    next-nothing z = sym (limited true (lt-ltb _ _ few) ∙ cases (eol_after e.at (zero_run (drop e.at bs))) refl)
      where
        cases : (o : Option ℕ) → eol_after e.at (zero_run (drop e.at bs)) ≡ o → o ≡ none
        cases none p = refl
        cases (some a) p = absurd (omega (arith, ap (λ (x : Eol.Eols). x.count) (reads (some a) p), z))

    pub next-after : (r.count ≡ 0 → ⊥) → some r.at ≡ next_of bytes settings e
    next-after z = sym (limited true (lt-ltb _ _ few) ∙ cases (eol_after e.at (zero_run (drop e.at bs))) refl)
      where
        cases : (o : Option ℕ) → eol_after e.at (zero_run (drop e.at bs)) ≡ o → o ≡ some r.at
        cases none p = absurd (z (ap (λ (x : Eol.Eols). x.count) (reads none p)))
        cases (some a) p = ap some (sym (ap (λ (x : Eol.Eols). x.at) (reads (some a) p)))

  -- an EOL that follows is one of few, and lies in the data
  pub next-inside : (a : ℕ) → next_of bytes settings e ≡ some a → (e.count < 8 * length bytes + 2) × (a ≤ 8 * length bytes)
  next-inside a n = tests (ltb e.count (most_eols (length bytes) settings)) refl
    where
      closed : (z : ℕ) → zero_run (drop e.at bs) ≡ some z → (c : Bool) → ltb z 11 ≡ c → cond c none (some (e.at + suc z)) ≡ some a → a ≤ 8 * length bytes
      closed z q true r h = absurd (let y : ◌≡◌ {A = ℕ} 0 1 = cc in omega arith)
      closed z q false r h =
          let y : e.at + suc z ≡ a = cc in
          let i = eol-inside bs e.at (record { zeros = z; run = q; many = ltb-false z 11 r }) in
          omega (arith, length-bits_of bytes)

      found : (o : Option ℕ) → zero_run (drop e.at bs) ≡ o → eol_after e.at o ≡ some a → a ≤ 8 * length bytes
      found none q h = absurd (let y : ◌≡◌ {A = ℕ} 0 1 = cc in omega arith)
      found (some z) q h = closed z q (ltb z 11) refl h

      most : (b : Bool) → e.count < cond b 2 (8 * length bytes) → e.count < 8 * length bytes + 2
      most true h = omega arith
      most false h = omega arith

      tests : (b : Bool) → ltb e.count (most_eols (length bytes) settings) ≡ b → (e.count < 8 * length bytes + 2) × (a ≤ 8 * length bytes)
      tests false q = absurd (let m : none ≡ some a = sym (limited false q) ∙ n in let y : ◌≡◌ {A = ℕ} 0 1 = cc in omega arith)
      tests true q = (most settings.end_of_block (ltb-true _ _ q), found (zero_run (drop e.at bs)) refl (sym (limited true q) ∙ n))

  -- ---- Between rows

  module _ (k : Kept) where
    pub between-after : (a : ℕ) (r : Code.Option ℕ) → r ≡ Code.Some a → eol_of r ≡ next_of bytes settings e → More k (Between e) 0 ≡ between_for bytes settings k e
    between-after a r p q = ap (eol_or_line_for bytes settings k e) (sym (ap eol_of p) ∙ q)

    module _ (r : Code.Option ℕ) (p : r ≡ Code.None) (q : eol_of r ≡ next_of bytes settings e) where
      without_eol : between_for bytes settings k e ≡ line_or_over_for settings k e (over_for bytes settings k e)
      without_eol = ap (eol_or_line_for bytes settings k e) (sym (sym (ap eol_of p) ∙ q))

      pub between-over : true ≡ over_for bytes settings k e → (n m : ℕ) → m ≡ bytes_to e.at * 8 → n ≡ m / 8 → done_for 0 0 n k 0 ≡ between_for bytes settings k e
      between-over o n m f g =
          ap (λ (b : ℕ). done_for 0 0 b k 0) (g ∙ ap (λ (x : ℕ). x / 8) f ∙ (let z : bytes_to e.at * 8 / 8 ≡ bytes_to e.at = omega arith in z))
          ∙ sym (without_eol ∙ ap (line_or_over_for settings k e) (sym o))

      pub between-line : false ≡ over_for bytes settings k e → More k (InLine (new_for settings.columns) e.at) 0 ≡ between_for bytes settings k e
      between-line o = sym (without_eol ∙ ap (line_or_over_for settings k e) (sym o))

    -- ---- An EOL is a unit

    pub eol-after : (a : ℕ) (r : Code.Option ℕ) → r ≡ Code.Some a → eol_of r ≡ next_of bytes settings e → between_for bytes settings k (eols_at (e.count + 1) a) ≡ eol_unit_for bytes settings k e (next_of bytes settings e)
    eol-after a r p q = ap (eol_unit_for bytes settings k e) (sym (ap eol_of p) ∙ q)

    pub eol-none : (r : Code.Option ℕ) → r ≡ Code.None → eol_of r ≡ next_of bytes settings e → between_for bytes settings k e ≡ eol_unit_for bytes settings k e (next_of bytes settings e)
    eol-none r p q = ap (eol_unit_for bytes settings k e) (sym (ap eol_of p) ∙ q)

-- ---- Closing a row

module _ (bytes : List ℕ) (settings : DecodeSettings) (es ms : List ℕ) (k : Kept) (l : Line) (at : ℕ) where
  -- no place for the end, or for the mark
  pub close-none : places_in es ms ≤ k.rows → (r : Out) → r ≡ done_for 5 0 0 k l.changes → Closes bytes settings es ms k l at r es ms
  close-none h r e =
      let b = sym (le-ltb k.rows (places_in es ms) h) in
      record { answer = e ∙ ap (close_for bytes settings k l at) b; ends = ap (λ (b : Bool). put_if b k.rows (k.base + l.changes) es) b; marks = ap (λ (b : Bool). put_if b k.rows l.cut ms) b }

  pub no_end : length es ≤ k.rows → places_in es ms ≤ k.rows
  no_end h = omega (arith, min-le_left (length es) (length ms))

  pub no-mark : length ms ≤ k.rows → places_in es ms ≤ k.rows
  no-mark h = omega (arith, min-le_right (length es) (length ms))

  both : k.rows < length es → k.rows < length ms → k.rows < places_in es ms
  both h i = cases (ltb (length es) (length ms)) refl
    where
      cases : (b : Bool) → ltb (length es) (length ms) ≡ b → k.rows < places_in es ms
      cases true q = let z = ltb-true (length es) (length ms) q in omega arith
      cases false q = let z = ltb-false (length es) (length ms) q in omega arith

  pub close-kept : k.rows < length es → k.rows < length ms → (x next : ℕ) → x ≡ k.base + l.changes → next ≡ aligned_if settings.rows_are_byte_aligned at
      → (r : Out) → r ≡ between_for bytes settings (record { rows = k.rows + 1; start = k.base; base = k.base + l.changes }) (record { count = 0; at = next })
      → Closes bytes settings es ms k l at r (set es k.rows x) (set ms k.rows l.cut)
  close-kept h i x next e f r g =
      let b = sym (lt-ltb k.rows (places_in es ms) (both h i)) in
      record {
        answer = g ∙ ap (λ (n : ℕ). between_for bytes settings (kept_for k l) (eols_at 0 n)) f ∙ ap (close_for bytes settings k l at) b;
        ends = ap (set es k.rows) e ∙ ap (λ (b : Bool). put_if b k.rows (k.base + l.changes) es) b;
        marks = ap (λ (b : Bool). put_if b k.rows l.cut ms) b;
      }

  pub aligned-inside : length bytes ≤ most_bytes → at ≤ 8 * length bytes → (next : ℕ) → next ≡ aligned_if settings.rows_are_byte_aligned at → Loading bytes next
  aligned-inside s h next e = record {
    size = s;
    inside = omega (arith, (aligned-ahead (bits_of bytes) (whole-bytes bytes) settings.rows_are_byte_aligned at).1 (omega (arith, h, length-bits_of bytes)), length-bits_of bytes);
  }

-- ---- Closing what can be closed

module _ (bytes : List ℕ) (settings : DecodeSettings) (es ms : List ℕ) (k : Kept) (s : Stand) (seen : ℕ) where
  pub settled-between : (e : Eols) → s ≡ Between e → (r : Out) → r ≡ between_for bytes settings k e → Settles bytes settings es ms k s seen r es ms
  settled-between e q r a = subst (λ (t : Stand). Settles bytes settings es ms k t seen r es ms) (sym q) (record { answer = a; ends = refl; marks = refl })

  module _ (l : Line) (at : ℕ) (q : s ≡ InLine l at) where
    by-test : (b : Bool) → eqb l.position settings.columns ≡ b → (r : Out) (fs ns : List ℕ) → SettlesLine bytes settings es ms k l at seen r fs ns b → Settles bytes settings es ms k s seen r fs ns
    by-test b e r fs ns c =
        subst (λ (t : Stand). Settles bytes settings es ms k t seen r fs ns) (sym q) (subst (SettlesLine bytes settings es ms k l at seen r fs ns) (sym e) c)

    pub settled-row : l.position ≡ settings.columns → (r : Out) (fs ns : List ℕ) → Closes bytes settings es ms k l at r fs ns → Settles bytes settings es ms k s seen r fs ns
    settled-row e r fs ns c = by-test true (eq-eqb l.position settings.columns e) r fs ns c

    pub settled-line : (l.position ≡ settings.columns → ⊥) → Settles bytes settings es ms k s seen (More k (InLine l at) seen) es ms
    settled-line n = by-test false (ne_eqb l.position settings.columns n) (More k (InLine l at) seen) es ms (record { answer = refl; ends = refl; marks = refl })

  pub settled-run : (h : Half) (l : Line) (from total at : ℕ) → s ≡ InRun h l from total at → Settles bytes settings es ms k s seen (More k (InRun h l from total at) seen) es ms
  settled-run h l from total at q =
      subst (λ (t : Stand). Settles bytes settings es ms k t seen (More k (InRun h l from total at) seen) es ms) (sym q) (record { answer = refl; ends = refl; marks = refl })
