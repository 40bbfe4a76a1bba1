-- The lent arrays of a form in calls, handed back as left, hold the reading that the call left; and no such state is refused. Assumes nothing.
use mathlib.Core.Path.{◌≡◌, refl, sym, ap, ap₂, ◌∙◌, subst}
use mathlib.Core.Bool.{Bool, true, false, ◌&&◌}
use mathlib.Core.List.{List, [], ◌∷◌, ◌++◌, append_assoc}
use Prim.Native.Nat.{ℕ, ◌+◌, ◌-◌, ◌≤◌, ◌<◌}
use native.Mathlib.Omega.{arith}
use lib.ListN.{length, take, drop, get_or, length-append}
use lib.Seq.{take_at, drop_at}
use borrow.Author.Tests.{le-leb}
use Rattle.rules.specs.Lines.{Line, line}
use Rattle.rules.specs.Rows.{Settings}
use Rattle.rules.specs.Pages.{entries, overlaid, joined, ends_from}
use Rattle.rules.specs.Units.{first, second, Stand, between, in_line, in_run, Keeping, going, loose_of, anew}
use Rattle.rules.specs.ByUnit.{Phase, at_mode, at_the_first, at_second, Saved, end_of, part, base_of, start_of, reference_of, unfinished_of, going_of, sound, saved_at}
use Rattle.rules.specs.Rising.{Rising, none as no_change}
use Rattle.rules.proofs.Ascending.{rises-ascends}
use Rattle.rules.proofs.PageBack.{entries-snoc}
use Rattle.rules.proofs.Store.{length-joined, joined_snoc, ends_snoc}
use Rattle.rules.proofs.Budget.{Bytes}
use Rattle.rules.proofs.Fair.{LineFair, Fair}

-- ---- Parts of arrays

part_at : (front middle rest : List ℕ) (a : ℕ) → length front ≡ a → part a (a + length middle) (front ++ (middle ++ rest)) ≡ middle
part_at front middle rest a e =
    ap₂ (λ (n : ℕ) (l : List ℕ). take n l) (let z : a + length middle - a ≡ length middle = omega arith in z) (drop_at front (middle ++ rest) a e)
    ∙ take_at middle rest (length middle) refl

-- the last end of rows, whatever lies behind
last_end : (base : ℕ) (r : List ℕ) (rows : List (List ℕ)) (rest : List ℕ) → get_or (ends_from base (r ∷ rows) ++ rest) (length rows) 0 ≡ base + entries (r ∷ rows)
unfolding ends_from entries
last_end base r [] rest = omega arith
last_end base r (q ∷ rows) rest = last_end (base + length r) q rows rest ∙ (let z : base + length r + (length q + entries rows) ≡ base + (length r + (length q + entries rows)) = omega arith in z)

end-of : (rows : List (List ℕ)) (rest : List ℕ) → end_of (ends_from 0 rows ++ rest) (length rows) ≡ entries rows
unfolding entries
end-of [] rest = refl
end-of (r ∷ rows) rest = last_end 0 r rows rest ∙ (let z : 0 + entries (r ∷ rows) ≡ entries (r ∷ rows) = omega arith in z)

-- ---- What the arrays hold

-- the reference is the last row
pub data Last : List (List ℕ) → List ℕ → Type 0 where
  no_row : Last [] []
  last_row : (rows : List (List ℕ)) (r : List ℕ) → Last (rows ++ r ∷ []) r

-- rows, entries and marks are counted
pub record Counted (k : Keeping) : Type 0 where
  pub rows : k.count ≡ length k.rows
  pub entries_are : k.base ≡ entries k.rows
  pub marks_are : length k.marks ≡ k.count
  pub last : Last k.rows k.reference

-- what a state reads in the arrays
pub record Holds (xs es : List ℕ) (k : Keeping) (loose : List ℕ) : Type 0 where
  pub start : ℕ
  pub start_is : end_of es (k.count - 1) ≡ start
  pub base-is : end_of es k.count ≡ k.base
  pub ordered : start ≤ k.base
  pub reference-is : part start k.base xs ≡ k.reference
  pub loose-is : part k.base (k.base + length loose) xs ≡ loose

held_by : {rows : List (List ℕ)} {reference : List ℕ} → Last rows reference → (marks loose rest rest' : List ℕ)
    → Holds (joined rows ++ (loose ++ rest)) (ends_from 0 rows ++ rest') (record { count = length rows; base = entries rows; reference = reference; rows = rows; marks = marks }) loose
unfolding joined ends_from entries
held_by no_row marks loose rest rest' = record {
  start = 0;
  start_is = refl;
  base-is = refl;
  ordered = omega arith;
  reference-is = refl;
  loose-is = part_at [] loose rest 0 refl;
}
held_by (last_row rows r) marks loose rest rest' = record {
  start = entries rows;
  start_is =
      ap₂ end_of
      (ap (λ (l : List ℕ). l ++ rest') (ends_snoc 0 rows r) ∙ append_assoc (ends_from 0 rows) ((0 + entries rows + length r) ∷ []) rest')
      (let n = length-append rows (r ∷ []) in let z : length (rows ++ r ∷ []) - 1 ≡ length rows = omega arith in z)
      ∙ end-of rows ((0 + entries rows + length r) ∷ rest');
  base-is = end-of (rows ++ r ∷ []) rest';
  ordered = omega (arith, entries-snoc rows r);
  reference-is =
      ap₂ (λ (n : ℕ) (l : List ℕ). part (entries rows) n l) (entries-snoc rows r)
      (ap (λ (l : List ℕ). l ++ (loose ++ rest)) (joined_snoc rows r) ∙ append_assoc (joined rows) r (loose ++ rest))
      ∙ part_at (joined rows) r (loose ++ rest) (entries rows) (length-joined rows);
  loose-is = part_at (joined (rows ++ r ∷ [])) loose rest (entries (rows ++ r ∷ [])) (length-joined (rows ++ r ∷ []));
}

pub holds : (k : Keeping) (loose xs0 es0 : List ℕ) → Counted k → Holds (overlaid (joined k.rows ++ loose) xs0) (overlaid (ends_from 0 k.rows) es0) k loose
unfolding overlaid
holds k loose xs0 es0 c =
    subst (λ (l : List ℕ). Holds l es k loose) (sym (append_assoc (joined k.rows) loose rest))
    (subst (λ (n : ℕ). Holds xs es (record { count = n; base = k.base; reference = k.reference; rows = k.rows; marks = k.marks }) loose) (sym c.rows)
    (subst (λ (n : ℕ). Holds xs es (record { count = length k.rows; base = n; reference = k.reference; rows = k.rows; marks = k.marks }) loose) (sym c.entries_are)
    (held_by c.last k.marks loose rest (drop (length (ends_from 0 k.rows)) es0))))
  where
    rest : List ℕ
    rest = drop (length (joined k.rows ++ loose)) xs0

    xs : List ℕ
    xs = joined k.rows ++ (loose ++ rest)

    es : List ℕ
    es = ends_from 0 k.rows ++ drop (length (ends_from 0 k.rows)) es0

-- ---- The state that was handed back stands for the reading that the call left

module _ (xs es : List ℕ) (k : Keeping) (loose : List ℕ) (h : Holds xs es k loose) where
  pub refers : part (end_of es (k.count - 1)) (end_of es k.count) xs ≡ k.reference
  refers = ap₂ (λ (a b : ℕ). part a b xs) h.start_is h.base-is ∙ h.reference-is

  pub unfinished : part (end_of es k.count) (end_of es k.count + length loose) xs ≡ loose
  unfinished = ap (λ (b : ℕ). part b (b + length loose) xs) h.base-is ∙ h.loose-is

pub handed : (xs es : List ℕ) (k : Keeping) (s : Stand) → Holds xs es k (loose_of s) → going_of xs es (saved_at k.count s) ≡ anew (going k s)
unfolding going_of
handed xs es k (between e) h =
    λ i. going (record { count = k.count; base = h.base-is i; reference = refers xs es k [] h i; rows = []; marks = [] }) (between e)
handed xs es k (in_line l) h =
    λ i. going (record { count = k.count; base = h.base-is i; reference = refers xs es k l.changes h i; rows = []; marks = [] }) (in_line (line l.at l.position l.colour (unfinished xs es k l.changes h i) l.cut))
handed xs es k (in_run (first m) l s) h =
    λ i. going (record { count = k.count; base = h.base-is i; reference = refers xs es k l.changes h i; rows = []; marks = [] }) (in_run (first m) (line l.at l.position l.colour (unfinished xs es k l.changes h i) l.cut) s)
handed xs es k (in_run (second m z) l s) h =
    λ i. going (record { count = k.count; base = h.base-is i; reference = refers xs es k l.changes h i; rows = []; marks = [] }) (in_run (second m z) (line l.at l.position l.colour (unfinished xs es k l.changes h i) l.cut) s)

-- ---- No such state is refused

and-true : {a b : Bool} → a ≡ true → b ≡ true → (a && b) ≡ true
and-true {a} {b} p q = ap₂ (λ (x y : Bool). x && y) p q

-- the tests of 8, each by its fact
module _ (xs es : List ℕ) (s : Saved) (width bits places : ℕ) where
  pub record Passes : Type 0 where
    pub at : s.at ≤ bits
    pub run_stands : s.run_stands ≤ bits
    pub mode_stands : s.mode_stands ≤ bits
    pub position : s.position ≤ width
    pub eols : s.eols ≤ bits + 1
    pub rows : s.rows ≤ bits + 1
    pub base : base_of xs es s ≤ bits + 1
    pub loose : s.loose ≤ bits + 1
    pub placed : s.rows ≤ places
    pub ordered : start_of xs es s ≤ base_of xs es s
    pub held : base_of xs es s + s.loose ≤ length xs
    pub reference : Rising width 0 (reference_of xs es s)
    pub unfinished : Rising s.position 0 (unfinished_of xs es s)

  pub passes : Passes → sound xs es s width bits places ≡ true
  unfolding sound
  passes p =
      and-true (and-true (le-leb _ _ p.at) (and-true (le-leb _ _ p.run_stands) (le-leb _ _ p.mode_stands)))
      (and-true (le-leb _ _ p.position)
      (and-true (and-true (le-leb _ _ p.eols) (and-true (le-leb _ _ p.rows) (and-true (le-leb _ _ p.base) (le-leb _ _ p.loose))))
      (and-true (and-true (le-leb _ _ p.placed) (and-true (le-leb _ _ p.ordered) (le-leb _ _ p.held)))
      (and-true (rises-ascends p.reference) (rises-ascends p.unfinished)))))

module _ (S : Settings) (wide : 0 < S.columns) (bs : List Bool) (bytes : Bytes bs) (xs es : List ℕ) (store places : ℕ) (xs-long : length xs ≡ store) (k : Keeping) where
  abbrev FairAt : Stand → Type 0
  FairAt = Fair S wide bs bytes store places k

  abbrev LineFairAt : Line → Type 0
  LineFairAt = LineFair S wide bs bytes store places k

  abbrev Accepted : Stand → Type 0
  Accepted s = sound xs es (saved_at k.count s) S.columns (length bs) places ≡ true

  line-accepted : (phase : Phase) (at run run_stands mode_stands : ℕ) (blank : Bool) (l : Line) → LineFairAt l → Holds xs es k l.changes → at ≤ length bs → run_stands ≤ length bs → mode_stands ≤ length bs
      → sound xs es (record { phase = phase; at = at; eols = 0; rows = k.count; position = l.position; colour = l.colour; loose = length l.changes; cut = l.cut; run = run; run_stands = run_stands; mode_stands = mode_stands; blank = blank }) S.columns (length bs) places ≡ true
  line-accepted phase at run run_stands mode_stands blank l f h a b c =
      let r = refers xs es k l.changes h in
      let u = unfinished xs es k l.changes h in
      passes xs es (record { phase = phase; at = at; eols = 0; rows = k.count; position = l.position; colour = l.colour; loose = length l.changes; cut = l.cut; run = run; run_stands = run_stands; mode_stands = mode_stands; blank = blank }) S.columns (length bs) places (record {
        at = a;
        run_stands = b;
        mode_stands = c;
        position = f.sound.fits;
        eols = omega arith;
        rows = omega (arith, f.kept.few_rows, f.sound.few, f.sound.inside);
        base = omega (arith, h.base-is, f.kept.few_entries, f.sound.few, f.sound.inside);
        loose = omega (arith, f.sound.few, f.sound.inside);
        placed = omega (arith, f.kept.placed);
        ordered = omega (arith, h.start_is, h.base-is, h.ordered);
        held = omega (arith, h.base-is, f.kept.roomy, f.sound.roomy);
        reference = subst (Rising S.columns 0) (sym r) f.kept.rising;
        unfinished = subst (Rising l.position 0) (sym u) f.sound.rising;
      })

  pub accepted : (s : Stand) → FairAt s → Holds xs es k (loose_of s) → Accepted s
  accepted (between e) f h = passes xs es (saved_at k.count (between e)) S.columns (length bs) places (record {
    at = f.inside;
    run_stands = omega arith;
    mode_stands = omega arith;
    position = omega arith;
    eols = omega (arith, f.few, f.inside);
    rows = omega (arith, f.kept.few_rows, f.inside);
    base = omega (arith, h.base-is, f.kept.few_entries, f.inside);
    loose = omega arith;
    placed = omega (arith, f.kept.placed);
    ordered = omega (arith, h.start_is, h.base-is, h.ordered);
    held = omega (arith, h.base-is, f.kept.roomy);
    reference = subst (Rising S.columns 0) (sym (refers xs es k [] h)) f.kept.rising;
    unfinished = subst (Rising 0 0) (sym (unfinished xs es k [] h)) no_change;
  })
  accepted (in_line l) f h = line-accepted at_mode l.at 0 0 0 false l f h f.sound.inside (omega arith) (omega arith)
  accepted (in_run (first m) l s) f h = line-accepted at_the_first s.at s.total l.at m false l f.line h f.inside f.line.sound.inside (omega (arith, f.mode, f.line.sound.inside))
  accepted (in_run (second m z) l s) f h = line-accepted at_second s.at s.total l.at m z l f.line h f.inside f.line.sound.inside (omega (arith, f.mode, f.line.sound.inside))
