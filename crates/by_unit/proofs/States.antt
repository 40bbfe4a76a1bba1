-- The state that a caller holds: its tests are those of the rules; a reading with a state that passed them stands where the rules say, and is handed back as
-- they say; and no two states stand for the same state of the rules. Assumes nothing.
use mathlib.Core.Path.{◌≡◌, refl, sym, ap, ◌∙◌, subst}
use mathlib.Core.Logic.{inl, inr}
use mathlib.Core.Bool.{Bool, true, false, ◌&&◌}
use mathlib.Core.List.{List, []}
use Prim.Native.Nat.{ℕ, zero, suc, ◌+◌, ◌-◌, ◌*◌, ◌≤◌, ◌<◌}
use native.Mathlib.Omega.{arith}
use lib.Dec.{leb}
use lib.ListN.{length, take, drop, length-drop}
use lib.Seq.{length-take-le}
use borrow.Author.Tests.{leb-true, ne_eqb}
use Rattle.rules.specs.Bits.{bits_of}
use Rattle.rules.specs.Codes.{Colour, white, black}
use Rattle.rules.specs.Lines as Lines
use Rattle.rules.specs.Lines.{right_of_a0}
use Rattle.rules.specs.Runs.{sum}
use Rattle.rules.specs.Pages.{ascends, places_in}
use Rattle.rules.specs.InSteps.{Said, says}
use Rattle.rules.specs.Units as Units
use Rattle.rules.specs.Units.{going}
use Rattle.rules.specs.ByUnit as Rule
use Rattle.rules.specs.ByUnit.{at_eols, at_mode, at_the_first, at_second, end_of, part, going_of, sound, saved_at, opened, ended}
use Rattle.rules.specs.Rising.{Rising}
use Rattle.rules.proofs.Ascending.{ascends-rises}
use Rattle.rules.proofs.Bits.{length-bits_of, both_true}
use Rattle.tables.specs.Tables.{colour_of}
use Rattle.context.specs.declared.line.Line.{Line}
use Rattle.context.specs.State.{flag_of, flag_number, line_at, Holds}
use Rattle.context.proofs.State.{flag-number}
use Rattle.context.proofs.Search.{passed_none}
use Rattle.settings.specs.declared.DecodeSettings.{DecodeSettings}
use Rattle.settings.specs.Ends.{Allowed}
use Rattle.by_unit.specs.declared.Phase.{Phase}
use Rattle.by_unit.specs.declared.Saved.{Saved}
use Rattle.by_unit.specs.declared.PageEnd.{PageEnd}
use Rattle.by_unit.specs.declared.EndCounts.{EndCounts}
use Rattle.by_unit.specs.declared.Reading.{Reading}
use Rattle.by_unit.specs.declared.Reading.TheVariants.{Open, Ended}
use Rattle.by_unit.specs.declared.stand.Half.TheVariants.{First, Second}
use Rattle.by_unit.specs.declared.stand.Stand.{Stand}
use Rattle.by_unit.specs.declared.stand.Stand.TheVariants.{Between, InLine, InRun}
use Rattle.by_unit.specs.declared.stand.Kept.{Kept}
use Rattle.by_unit.specs.Standing.{stand_of, going_at, KeptIn, LineIn, StandIn, Asked}
use Rattle.by_unit.specs.Reading.{phase_of, black_if, saved_of, Ending, said_of, reading_of, end_from, loose_for, saved_for, kept_by, line_by, stand_by, bits_for, counts_for, sound_for}

-- ---- The tests

-- the rules name them in another order
reorder : (e r b l p s h t : Bool) → ((e && (r && (b && l))) && ((p && (s && h)) && t)) ≡ ((e && (r && (l && p))) && (b && (s && (h && t))))
reorder false r b l p s h t = refl
reorder true false b l p s h t = refl
reorder true true true true true true h t = refl
reorder true true true true true false h t = refl
reorder true true true true false s h t = refl
reorder true true true false p s h t = refl
reorder true true false true true s h t = refl
reorder true true false true false s h t = refl
reorder true true false false p s h t = refl

module _ (bytes : List ℕ) (columns : ℕ) (xs es ms : List ℕ) (s : Saved) where
  abbrev size : ℕ
  size = length bytes

  abbrev places : ℕ
  places = places_in es ms

  abbrev base : ℕ
  base = end_of es s.rows

  abbrev first : ℕ
  first = end_of es (s.rows - 1)

  pub sound-is : sound_for size columns xs es ms s ≡ sound xs es (saved_of s) columns (length (bits_of bytes)) places
  unfolding sound
  sound-is =
      ap (λ (t : Bool). bits_for (8 * size) s && (leb s.position columns && t))
      (sym (reorder (leb s.eols (8 * size + 1)) (leb s.rows (8 * size + 1)) (leb base (8 * size + 1)) (leb s.loose (8 * size + 1)) (leb s.rows places) (leb first base) (leb (base + s.loose) (length xs))
      (ascends columns (part first base xs) && ascends s.position (part base (base + s.loose) xs))))
      ∙ ap (λ (n : ℕ). tests n) (sym (length-bits_of bytes))
    where
      tests : ℕ → Bool
      tests n =
          (leb s.at n && (leb s.run_at n && leb s.mode_at n))
          && (leb s.position columns
          && ((leb s.eols (n + 1) && (leb s.rows (n + 1) && (leb base (n + 1) && leb s.loose (n + 1))))
          && ((leb s.rows places && (leb first base && leb (base + s.loose) (length xs)))
          && (ascends columns (part first base xs) && ascends s.position (part base (base + s.loose) xs)))))

  -- what passed them
  pub record Good : Type 0 where
    pub inside : s.at ≤ 8 * size
    pub fits : s.position ≤ columns
    pub placed : s.rows ≤ places
    pub ordered : first ≤ base
    pub held : base + s.loose ≤ length xs
    pub reference : Rising columns 0 (part first base xs)
    pub unfinished : Rising s.position 0 (part base (base + s.loose) xs)

  pub good : sound_for size columns xs es ms s ≡ true → Good
  good e =
      let (a, b) = both_true (bits_for (8 * size) s) _ e in
      let (c, d) = both_true (leb s.position columns) _ b in
      let (f, g) = both_true (counts_for (8 * size + 1) places s) _ d in
      let (h, i) = both_true (leb base (8 * size + 1)) _ g in
      let (j, k) = both_true (leb first base) _ i in
      let (l, m) = both_true (leb (base + s.loose) (length xs)) _ k in
      let (n, o) = both_true (ascends columns (part first base xs)) _ m in
      let (p, q) = both_true (leb s.eols (8 * size + 1)) _ f in
      let (r, t) = both_true (leb s.rows (8 * size + 1)) _ q in
      let (u, v) = both_true (leb s.loose (8 * size + 1)) _ t in
      record {
        inside = leb-true _ _ (both_true (leb s.at (8 * size)) _ a).0;
        fits = leb-true _ _ c;
        placed = leb-true _ _ v;
        ordered = leb-true _ _ j;
        held = leb-true _ _ l;
        reference = ascends-rises columns 0 (part first base xs) n;
        unfinished = ascends-rises s.position 0 (part base (base + s.loose) xs) o;
      }

  -- ---- Where a reading with it stands

  loose-is : part base (base + s.loose) xs ≡ take s.loose (drop base xs)
  loose-is = ap (λ (n : ℕ). take n (drop base xs)) (let z : base + s.loose - base ≡ s.loose = omega arith in z)

  black-is : (b : Bool) → colour_of (flag_number b) ≡ black_if b
  black-is true = refl
  black-is false = refl

  pub stands-so : going_at xs (kept_by es s) (stand_by columns s s.phase) ≡ going_of xs es (saved_of s)
  unfolding going_of
  stands-so = cases s.phase
    where
      line' : (at : ℕ) → line_at at (drop base xs) (line_by columns s) ≡ Rule.line_from xs es (saved_of s) at
      line' at = λ i. Lines.line at s.position (black-is s.black i) (sym loose-is i) (flag-number s.cut i)

      cases : (p : Phase) → going_at xs (kept_by es s) (stand_by columns s p) ≡ going (record { count = s.rows; base = base; reference = part first base xs; rows = []; marks = [] }) (Rule.stand_of xs es (saved_of s) (phase_of p))
      cases Phase.Eols = refl
      cases Phase.Mode = λ i. going (record { count = s.rows; base = base; reference = part first base xs; rows = []; marks = [] }) (Units.in_line (line' s.at i))
      cases Phase.First = λ i. going (record { count = s.rows; base = base; reference = part first base xs; rows = []; marks = [] }) (Units.in_run (Units.first s.mode_at) (line' s.run_at i) (sum s.at s.run))
      cases Phase.Second = λ i. going (record { count = s.rows; base = base; reference = part first base xs; rows = []; marks = [] }) (Units.in_run (Units.second s.mode_at s.blank) (line' s.run_at i) (sum s.at s.run))

  module _ (settings : DecodeSettings) (asked : Asked bytes settings) (same : settings.columns ≡ columns) (g : Good) where
    pub kept_in : KeptIn columns xs es ms (kept_by es s)
    kept_in = record { ordered = g.ordered; held = omega (arith, g.held); placed = g.placed; rising = g.reference }

    line-in : LineIn bytes columns xs (kept_by es s) (line_by columns s) s.at 0
    line-in = record {
      inside = g.inside;
      width_is = refl;
      holds = record {
        narrow = omega (arith, asked.narrow);
        fits = g.fits;
        held = omega (arith, g.held, length-drop base xs);
        coloured = flag_small s.black;
        flagged = flag_small s.cut;
      };
      rising = subst (Rising s.position 0) loose-is g.unfinished;
      passed = passed_none (right_of_a0 s.position) (part first base xs);
    }
      where
        flag_small : (b : Bool) → flag_number b ≤ 1
        flag_small true = omega arith
        flag_small false = omega arith

    pub stand-in : StandIn bytes columns xs (kept_by es s) 0 (stand_by columns s s.phase)
    stand-in = cases s.phase
      where
        cases : (p : Phase) → StandIn bytes columns xs (kept_by es s) 0 (stand_by columns s p)
        cases Phase.Eols = g.inside
        cases Phase.Mode = line-in
        cases Phase.First = line-in
        cases Phase.Second = line-in

-- ---- And back

-- a stand is handed back as the rules hand back what it stands for
module _ (bytes : List ℕ) (width : ℕ) (xs : List ℕ) (k : Kept) where
  abbrev row : List ℕ
  row = drop k.base xs

  line-back : (l : Line) → Holds row l → (length (take l.changes row) ≡ l.changes) × (black_if (flag_of l.colour) ≡ colour_of l.colour)
  line-back l h = (length-take-le l.changes row h.held, cases l.colour)
    where
      cases : (n : ℕ) → black_if (flag_of n) ≡ colour_of n
      cases zero = refl
      cases (suc n) = refl

  pub back-so : (seen : ℕ) (s : Stand) → StandIn bytes width xs k seen s → saved_of (saved_for k s) ≡ saved_at k.rows (stand_of row s)
  back-so seen (Between e) h = refl
  back-so seen (InLine l at) h =
      let b = line-back l h.holds in
      λ i. record { phase = at_mode; at = at; eols = 0; rows = k.rows; position = l.position; colour = b.1 i; loose = sym b.0 i; cut = flag_of l.cut; run = 0; run_stands = 0; mode_stands = 0; blank = false }
  back-so seen (InRun (First m) l from total at) h =
      let b = line-back l h.holds in
      λ i. record { phase = at_the_first; at = at; eols = 0; rows = k.rows; position = l.position; colour = b.1 i; loose = sym b.0 i; cut = flag_of l.cut; run = total; run_stands = from; mode_stands = m; blank = false }
  back-so seen (InRun (Second m z) l from total at) h =
      let b = line-back l h.holds in
      λ i. record { phase = at_second; at = at; eols = 0; rows = k.rows; position = l.position; colour = b.1 i; loose = sym b.0 i; cut = flag_of l.cut; run = total; run_stands = from; mode_stands = m; blank = z }

  -- so are its loose entries
  pub loose-so : (seen : ℕ) (s : Stand) → StandIn bytes width xs k seen s → loose_for s ≡ length (Units.loose_of (stand_of row s))
  loose-so seen (Between e) h = refl
  loose-so seen (InLine l at) h = sym (line-back l h.holds).0
  loose-so seen (InRun m l from total at) h = sym (line-back l h.holds).0

-- ---- The numbers of the ends

-- an end of the list that has what 01 allows is held whole
pub end-held : (n place bytes loose : ℕ) (c : EndCounts) → Ending n → Allowed n place bytes loose → said_of (end_from n place bytes loose) c ≡ says n place bytes c.rows c.entries loose
end-held n place bytes loose c (inr h) a =
    ap (λ (m : ℕ). said_of (end_from m place bytes loose) c) h
    ∙ (λ i. says (sym h i) (sym (a.no_place (inr (omega (arith, h)))) i) (sym (a.no_bytes (λ z. omega (arith, h))) i) c.rows c.entries (sym (a.no_loose (inr (omega (arith, h)))) i))
end-held n place bytes loose c (inl h) a = cases n h a
  where
    cases : (n : ℕ) → n ≤ 5 → Allowed n place bytes loose → said_of (end_from n place bytes loose) c ≡ says n place bytes c.rows c.entries loose
    cases zero h a = λ i. says 0 (sym (a.no_place (inl refl)) i) bytes c.rows c.entries (sym (a.no_loose (inl refl)) i)
    cases (suc zero) h a = λ i. says 1 place (sym (a.no_bytes (λ z. omega arith)) i) c.rows c.entries loose
    cases (suc (suc zero)) h a = λ i. says 2 place (sym (a.no_bytes (λ z. omega arith)) i) c.rows c.entries loose
    cases (suc (suc (suc zero))) h a = λ i. says 3 place (sym (a.no_bytes (λ z. omega arith)) i) c.rows c.entries loose
    cases (suc (suc (suc (suc zero)))) h a = λ i. says 4 (sym (a.no_place (inr (omega arith))) i) (sym (a.no_bytes (λ z. omega arith)) i) c.rows c.entries loose
    cases (suc (suc (suc (suc (suc zero))))) h a = λ i. says 5 (sym (a.no_place (inr (omega arith))) i) (sym (a.no_bytes (λ z. omega arith)) i) c.rows c.entries loose
    cases (suc (suc (suc (suc (suc (suc n)))))) h a = absurd (omega arith)

-- any other number
pub end-other : (n place bytes loose : ℕ) → 5 < n → PageEnd.Short ≡ end_from n place bytes loose
end-other n place bytes loose h =
    rw (ne_eqb n 0 (λ e. omega (arith, e)), ne_eqb n 1 (λ e. omega (arith, e)), ne_eqb n 2 (λ e. omega (arith, e)), ne_eqb n 3 (λ e. omega (arith, e)), ne_eqb n 4 (λ e. omega (arith, e)), ne_eqb n 5 (λ e. omega (arith, e)))

pub end-listed : (e : PageEnd) (c : EndCounts) → Ending (said_of e c).number
end-listed (PageEnd.Done bytes) c = inl (omega arith)
end-listed (PageEnd.InvalidCode place loose) c = inl (omega arith)
end-listed (PageEnd.UnexpectedEof place loose) c = inl (omega arith)
end-listed (PageEnd.Overflow place loose) c = inl (omega arith)
end-listed (PageEnd.NoEntry loose) c = inl (omega arith)
end-listed (PageEnd.NoRowEnd loose) c = inl (omega arith)
end-listed PageEnd.Short c = inr refl

-- ---- No two states stand for the same

abbrev phase_from : Rule.Phase → Phase
phase_from at_eols = Phase.Eols
phase_from at_mode = Phase.Mode
phase_from at_the_first = Phase.First
phase_from at_second = Phase.Second

abbrev is_black : Colour → Bool
is_black white = false
is_black black = true

phase-back : (p : Phase) → phase_from (phase_of p) ≡ p
phase-back Phase.Eols = refl
phase-back Phase.Mode = refl
phase-back Phase.First = refl
phase-back Phase.Second = refl

black-back : (b : Bool) → is_black (black_if b) ≡ b
black-back true = refl
black-back false = refl

abbrev ended_from : Said → Reading
ended_from d = Ended (end_from d.number d.place d.bytes d.loose) (record { rows = d.rows; entries = d.entries })

end_back : (e : PageEnd) (c : EndCounts) → ended_from (said_of e c) ≡ Ended e c
end_back (PageEnd.Done bytes) c = refl
end_back (PageEnd.InvalidCode place loose) c = refl
end_back (PageEnd.UnexpectedEof place loose) c = refl
end_back (PageEnd.Overflow place loose) c = refl
end_back (PageEnd.NoEntry loose) c = refl
end_back (PageEnd.NoRowEnd loose) c = refl
end_back PageEnd.Short c = refl

pub same-reading : (s t : Reading) → reading_of s ≡ reading_of t → s ≡ t
same-reading s t e = sym (back s) ∙ ap from e ∙ back t
  where
    saved_from : Rule.Saved → Saved
    saved_from p = record {
      phase = phase_from p.phase;
      at = p.at;
      eols = p.eols;
      rows = p.rows;
      position = p.position;
      black = is_black p.colour;
      loose = p.loose;
      cut = p.cut;
      run = p.run;
      run_at = p.run_stands;
      mode_at = p.mode_stands;
      blank = p.blank;
    }

    from : Rule.Reading → Reading
    from (opened p) = Open (saved_from p)
    from (ended d) = ended_from d

    back : (s : Reading) → from (reading_of s) ≡ s
    back (Open s) = λ i. Open (record {
      phase = phase-back s.phase i;
      at = s.at;
      eols = s.eols;
      rows = s.rows;
      position = s.position;
      black = black-back s.black i;
      loose = s.loose;
      cut = s.cut;
      run = s.run;
      run_at = s.run_at;
      mode_at = s.mode_at;
      blank = s.blank;
    })
    back (Ended e c) = end_back e c
