-- What a clean mark is worth (A5): strict and lenient reading of a line are one where nothing was cut in it, and where something was, the strict one
-- refuses. So a row that is marked clean is the row that the strict reader reads there, and where another mark stands it reads none. Assumes nothing.
use mathlib.Core.Path.{◌≡◌, refl, ◌∙◌, subst}
use mathlib.Core.Bool.{Bool, true, false, cond, ◌&&◌}
use mathlib.Core.List.{List}
use Prim.Native.Nat.{ℕ, zero, suc, ◌+◌, ◌-◌}
use lib.Dec.{eqb, leb}
use lib.ListN.{length}
use Rattle.rules.specs.Machine.{Out, more, done, and_then, run, ends}
use Rattle.rules.specs.Runs.{Res, ok, fault, Sum, read_run}
use Rattle.rules.specs.Modes.{Mode, pass, horizontal, VR, VL, Moded, read_mode}
use Rattle.rules.specs.Lines.{Rules, Line, new_line, turned, moved_to, with_cut, Went, went, failed, next, recorded, add, push, push_turn, after_run, push_run, b1, b2, vertical, apply, after_mode, code_2d, Kind, one, two, code_of, go_on, line_of, line_step, line_end, read_line}
use Rattle.rules.specs.Marks.{Refused, refused}
use Rattle.rules.proofs.Lines.{inexact}
use Rattle.rules.proofs.Exact.{strict-reads}

-- ---- Twins: what a strict and a lenient reading make of one line

module _ {A : Type 0} (cut_in : A → Bool) (Refused : A → Type 0) where
  -- The same, and no more was cut; or the strict one refuses, and the lenient one has cut. `was` says whether the line was cut before.
  pub data Twin (was : Bool) : A → A → Type 0 where
    alike : {a : A} → cut_in a ≡ was → Twin was a a
    apart : {a b : A} → Refused a → cut_in a ≡ was → cut_in b ≡ true → Twin was a b

  -- the strict one never cuts
  twin-strict : {was : Bool} {a b : A} → Twin was a b → cut_in a ≡ was
  twin-strict (alike e) = e
  twin-strict (apart r e f) = e

  -- what was cut stays cut
  twin-cut : {was : Bool} {a b : A} → Twin was a b → was ≡ true → cut_in b ≡ true
  twin-cut (alike e) q = e ∙ q
  twin-cut (apart r e f) q = f

  -- by the same test
  twin-cond : {was : Bool} {a b c d : A} (t : Bool) → Twin was a c → Twin was b d → Twin was (cond t a b) (cond t c d)
  twin-cond true p q = p
  twin-cond false p q = q

abbrev pub cut_of : Went → Bool
cut_of (went s) = s.cut
cut_of (failed n p s) = s.cut

abbrev Twins : Bool → Went → Went → Type 0
Twins = Twin cut_of Refused

-- one part of a code and then the next
next-twins : {was : Bool} {v w : Went} (j k : Line → Went) → Twins was v w → ((s : Line) → Twins s.cut (j s) (k s)) → Twins was (next v j) (next w k)
next-twins {v = went s} j k (alike e) h = subst (λ (b : Bool). Twins b (j s) (k s)) e (h s)
next-twins {v = failed n p s} j k (alike e) h = alike e
next-twins {w = went s} j k (apart refused e f) h = apart refused e (twin-cut cut_of Refused (h s) f)
next-twins {w = failed n p s} j k (apart refused e f) h = apart refused e f

module _ (width room : ℕ) where
  abbrev strictly : Rules
  strictly = record { width = width; strict = true; exact = false; room = room }

  abbrev leniently : Rules
  leniently = record { width = width; strict = false; exact = false; room = room }

  -- a count that fits the line cuts nothing, under any rules
  add-cut : (count : ℕ) (s : Line) → cut_of (add strictly count s) ≡ s.cut
  unfolding add
  add-cut count s = tests (eqb count 0) (leb (length (recorded s)) room)
    where
      tests : (b c : Bool) → cut_of (cond b (went s) (cond c (went (record { at = s.at; position = s.position + count; colour = s.colour; changes = recorded s; cut = s.cut })) (failed 4 0 s))) ≡ s.cut
      tests true c = refl
      tests false true = refl
      tests false false = refl

  -- any count
  push-twins : (place count : ℕ) (s : Line) → Twins s.cut (push strictly place count s) (push leniently place count s)
  unfolding push add
  push-twins place count s =
      twin-cond cut_of Refused (leb count (width - s.position)) (alike (add-cut count s)) (apart refused refl (add-cut (width - s.position) (with_cut s)))

  -- with its turn
  turn-twins : (place count : ℕ) (s : Line) → Twins s.cut (push_turn strictly place count s) (push_turn leniently place count s)
  turn-twins place count s = next-twins (λ t. went (turned t)) (λ t. went (turned t)) (push-twins place count s) (λ t. alike refl)

  -- a run
  run-twins : (bs : List Bool) (s : Line) → Twins s.cut (push_run strictly bs s) (push_run leniently bs s)
  unfolding push_run
  run-twins bs s = cases (read_run s.colour bs s.at)
    where
      cases : (r : Res Sum) → Twins s.cut (after_run strictly s r) (after_run leniently s r)
      cases (ok r) = turn-twins s.at r.total (moved_to r.at s)
      cases (fault n place) = alike refl

  module _ (reference : List ℕ) (bs : List Bool) where
    vertical-twins : (place a1 : ℕ) (s : Line) → Twins s.cut (vertical strictly reference place a1 s) (vertical leniently reference place a1 s)
    unfolding vertical
    vertical-twins place a1 s = twin-cond cut_of Refused (leb a1 4294967295 && leb s.position a1) (turn-twins place (a1 - s.position) s) (alike refl)

    -- any mode
    apply-twins : (place : ℕ) (mode : Mode) (s : Line) → Twins s.cut (apply strictly reference bs place mode s) (apply leniently reference bs place mode s)
    unfolding apply
    apply-twins place pass s = push-twins place (b2 width reference s.position s.colour - s.position) s
    apply-twins place horizontal s = next-twins (push_run strictly bs) (push_run leniently bs) (run-twins bs s) (run-twins bs)
    apply-twins place (VR k) s = vertical-twins place (b1 width reference s.position s.colour + k) s
    apply-twins place (VL k) s =
        twin-cond cut_of Refused (leb k (b1 width reference s.position s.colour)) (vertical-twins place (b1 width reference s.position s.colour - k) s) (alike refl)

    mode-twins : (s : Line) → Twins s.cut (code_2d strictly reference bs s) (code_2d leniently reference bs s)
    unfolding code_2d
    mode-twins s = cases (read_mode bs s.at)
      where
        cases : (r : Res Moded) → Twins s.cut (after_mode strictly reference bs s r) (after_mode leniently reference bs s r)
        cases (ok m) =
            rw (
              inexact strictly refl m.mode s (apply strictly reference bs s.at m.mode (moved_to m.at s)),
              inexact leniently refl m.mode s (apply leniently reference bs s.at m.mode (moved_to m.at s)),
            )
            (apply-twins s.at m.mode (moved_to m.at s))
        cases (fault n place) = alike refl

  -- a code of either kind of line
  code-twins : (kind : Kind) (bs : List Bool) (s : Line) → Twins s.cut (code_of strictly kind bs s) (code_of leniently kind bs s)
  code-twins one bs s = run-twins bs s
  code-twins (two reference) bs s = mode-twins reference bs s

-- ---- The steps of a line

abbrev cut_at : Out Line Went → Bool
cut_at (more s) = s.cut
cut_at (done w) = cut_of w

data RefusedAt : Out Line Went → Type 0 where
  at-end : {w : Went} → Refused w → RefusedAt (done w)

abbrev Steps : Bool → Out Line Went → Out Line Went → Type 0
Steps = Twin cut_at RefusedAt

-- one step and then the next
then-twins : {was : Bool} {o q : Out Line Went} (j k : Line → Out Line Went) → Steps was o q → ((s : Line) → Steps s.cut (j s) (k s)) → Steps was (and_then o j) (and_then q k)
then-twins {o = more s} j k (alike e) h = subst (λ (b : Bool). Steps b (j s) (k s)) e (h s)
then-twins {o = done w} j k (alike e) h = alike e
then-twins {q = more s} j k (apart (at-end r) e f) h = apart (at-end r) e (twin-cut cut_at RefusedAt (h s) f)
then-twins {q = done w} j k (apart (at-end r) e f) h = apart (at-end r) e f

run-steps : (step step' : Line → Out Line Went) → ((s : Line) → Steps s.cut (step s) (step' s)) → (n : ℕ) (s : Line) → Steps s.cut (run step n s) (run step' n s)
unfolding run
run-steps step step' h zero s = alike refl
run-steps step step' h (suc n) s = then-twins (run step n) (run step' n) (h s) (run-steps step step' h n)

-- what the steps come to
end-twins : {was : Bool} {o q : Out Line Went} → Steps was o q → Twins was (line_of o) (line_of q)
end-twins {o = more s} (alike e) = alike e
end-twins {o = done w} (alike e) = alike e
end-twins {q = more s} (apart (at-end r) e f) = apart r e f
end-twins {q = done w} (apart (at-end r) e f) = apart r e f

module _ (width room : ℕ) (kind : Kind) (bs : List Bool) (at : ℕ) where
  strict-lenient : Twins false (read_line (strictly width room) kind bs at) (read_line (leniently width room) kind bs at)
  unfolding read_line line_end line_step ends
  strict-lenient = end-twins (run-steps (line_step width (code_of (strictly width room) kind bs)) (line_step width (code_of (leniently width room) kind bs)) step (suc (length bs - at)) (new_line at))
    where
      goes : {was : Bool} {v w : Went} → Twins was v w → Steps was (go_on v) (go_on w)
      goes {v = went s} (alike e) = alike e
      goes {v = failed n p s} (alike e) = alike e
      goes {w = went s} (apart refused e f) = apart (at-end refused) e f
      goes {w = failed n p s} (apart refused e f) = apart (at-end refused) e f

      step : (s : Line) → Steps s.cut (line_step width (code_of (strictly width room) kind bs) s) (line_step width (code_of (leniently width room) kind bs) s)
      step s = twin-cond cut_at RefusedAt (eqb s.position width) (alike refl) (goes (code-twins width room kind bs s))

  -- Read strictly or not, a line is what the strict reader reads, and nothing was cut in it; or the strict reader refuses it, and something was.
  pub line-twins : (strict : Bool) → Twins false (read_line (strictly width room) kind bs at) (read_line (record { width = width; strict = strict; exact = false; room = room }) kind bs at)
  line-twins true = alike (twin-strict cut_of Refused strict-lenient)
  line-twins false = strict-lenient

  -- So is a line that is read exactly (A12), which is to read it strictly.
  pub read-twins : (strict exact : Bool) → (exact ≡ true → strict ≡ true) → (l : Line) → read_line (record { width = width; strict = strict; exact = exact; room = room }) kind bs at ≡ went l
      → Twins false (read_line (strictly width room) kind bs at) (went l)
  read-twins strict false h l e = subst (Twins false (read_line (strictly width room) kind bs at)) e (line-twins strict)
  read-twins strict true h l e = subst (Twins false (read_line (strictly width room) kind bs at)) (strict-reads width room strict true (h refl) kind bs at l e) (line-twins true)
