-- After 15 the unit form's store is the front of what the page form stores. Assumes nothing.
use mathlib.Core.Path.{◌≡◌, refl, sym, ap, ◌∙◌, subst}
use mathlib.Core.Bool.{Bool, true, false, and-false}
use mathlib.Core.List.{List, [], ◌∷◌}
use Prim.Native.Nat.{ℕ, zero, suc, ◌-◌, ◌≤◌, ◌<◌}
use native.Mathlib.Omega.{arith}
use lib.Dec.{eqb, ltb}
use lib.ListN.{length}
use borrow.Author.Tests.{ltb-true, ltb-false, eqb-true, eqb-false}
use Rattle.rules.specs.Answers.{complete, more_to_come, most_pixels}
use Rattle.rules.specs.Machine.{Out, more, done}
use Rattle.rules.specs.Bits.{bits_of}
use Rattle.rules.specs.Rows.{Settings}
use Rattle.rules.specs.Pages as Page'
use Rattle.rules.specs.Pages.{most_bytes, is_too_wide, strict_if_exact, unless_short, read_page, decode, changes_after, ends_after, marks_after, places_in}
use Rattle.rules.specs.InSteps.{says_only}
use Rattle.rules.specs.Units.{Going, units_start, so_far, call, calls, total}
use Rattle.rules.specs.ByUnit as Rule
use Rattle.rules.specs.ByUnit.{saved_start, said_behind, unless_fewer, opened, ended, as_group4, turn, turns}
use Rattle.rules.proofs.Budget.{whole-bytes}
use Rattle.rules.proofs.Answers.{short-cases, decode-reads}
use Rattle.rules.proofs.Calls.{called, calls-left, page-left, page-open}
use Rattle.rules.proofs.ByUnit.{Tie, tie-start, tie-call}
use Rattle.answer.specs.declared.Answer.{Answer}
use Rattle.settings.specs.declared.DecodeSettings.{DecodeSettings}
use Rattle.settings.specs.Settings.{settings_of}
use Rattle.by_unit.specs.Standing.{answer_of}
use Rattle.promises.specs.Rooms.{Call}
use Rattle.promises.specs.ByUnit.{UnitCall, number_of, Page}
use Rattle.promises.specs.UnitsSoFar.{standing, SoFar, UnitsSoFar}
use Rattle.promises.proofs.Demand1.{later_changes, later_ends, later_marks}
use Rattle.promises.proofs.Rooms.{Answered, answer_in, as_many, is_front}
use Rattle.promises.proofs.ByUnit.{Each, begin, asked, whole, asked-each, asked-total, units, open-exactly, stuck, refused-6, refused-7, without_columns, repeated, same_answer, same-settings}
use Rattle.promises.proofs.UnitsAhead.{Ahead, ahead-call, ahead-front}

-- 14 changes neither rows nor marks nor loose entries
ahead-short : (S : Settings) (a b : Page'.Answer) → Ahead a b → Ahead a (unless_short S b)
ahead-short S a b f =
    short-cases S b (Ahead a) (λ k. record { rest = f.rest; rows = f.rows; rest-marks = f.rest-marks; marks = f.marks; loose = f.loose }) (λ k. f)

module _ (bytes : List ℕ) (settings : DecodeSettings) (xs es ms : List ℕ) (before : List UnitCall) (last : UnitCall) (p : Page bytes settings xs es ms before last)
    (wide : 0 < settings.columns) (narrow : settings.columns < most_pixels) (few : length bytes ≤ most_bytes) where
  abbrev S : Settings
  S = as_group4 (settings_of settings)

  abbrev T : Settings
  T = strict_if_exact S

  abbrev bs : List Bool
  bs = bits_of bytes

  abbrev store : ℕ
  store = length xs

  abbrev places : ℕ
  places = places_in es ms

  -- a turn of the rules, and the reading that it stands for
  record Stands (o : Out Going Page'.Answer) (t : Rule.Turn) : Type 0 where
    answer : t.answer ≡ unless_fewer S (said_behind 0 0 (so_far o))
    tie : Tie S wide narrow bytes few xs es ms o t.reading t.changes t.ends t.marks

  stands-turns : (ns : List ℕ) → Each ns → (o : Out Going Page'.Answer) (t : Rule.Turn) → Stands o t → Stands (calls T bs store places ns o) (turns S bytes ns t)
  unfolding Each calls turns
  stands-turns [] h o t s = s
  stands-turns (zero ∷ ns) h o t s = absurd (omega (arith, h.0))
  stands-turns (suc n ∷ ns) h o t s =
      let g = tie-call S wide narrow bytes few xs es ms n o t.reading t.changes t.ends t.marks s.tie in
      stands-turns ns h.1 (call T bs store places (suc n) o) (turn S bytes t.changes t.ends t.marks (suc n) t.reading) (record { answer = g.0; tie = g.2 })

  -- 15 is no end
  open_said : (g : Going) → unless_fewer S (said_behind 0 0 (so_far (more g))) ≡ said_behind 0 0 (so_far (more g))
  open_said g = rw (and-false settings.exact)

  abbrev ns : List ℕ
  ns = asked bytes settings xs es ms before last p

  abbrev left : Out Going Page'.Answer
  left = calls T bs store places ns (more units_start)

  all-stand : Stands left (turns S bytes ns (begin bytes settings xs es ms before last p))
  all-stand =
      stands-turns ns (asked-each bytes settings xs es ms before last p) (more units_start) (begin bytes settings xs es ms before last p)
      (record { answer = sym (open_said units_start); tie = tie-start S wide narrow bytes few xs es ms })

  -- the page that is open stands so
  module _ (e : number_of last ≡ more_to_come) where
    fewer : total ns < units bytes settings xs es ms before last p wide narrow few
    fewer = omega (arith, (open-exactly bytes settings xs es ms before last p wide narrow few).0 e, asked-total bytes settings xs es ms before last p)

    at_open : (g : Going) × (left ≡ more g)
    at_open = page-open T wide bs store places (whole-bytes bytes) refl ns fewer

    abbrev g : Going
    g = at_open.0

    abbrev small : Call
    small = standing (record { changes = xs; ends = es; marks = ms; answer = last.turn.answer; changes' = xs; ends' = es; marks' = ms }) last

    stands-so : Stands (more g) (turns S bytes ns (begin bytes settings xs es ms before last p))
    stands-so = subst (λ (o : Out Going Page'.Answer). Stands o (turns S bytes ns (begin bytes settings xs es ms before last p))) at_open.1 all-stand

    gives_so : Answered (so_far (more g)) small
    unfolding changes_after ends_after marks_after
    gives_so =
        let t = whole bytes settings xs es ms before last p in
        record {
          answer = t.answer ∙ ap answer_of (stands-so.answer ∙ open_said g) ∙ same_answer (so_far (more g));
          changes = t.changes ∙ stands-so.tie.changes_are;
          ends = t.ends ∙ stands-so.tie.ends_are;
          marks = t.marks ∙ stands-so.tie.marks_are;
        }

    marked : length (so_far (more g)).marks ≡ length (so_far (more g)).rows
    marked = stands-so.tie.counted.marks_are ∙ stands-so.tie.counted.rows

    -- what it comes to
    abbrev a : Page'.Answer
    a = read_page T bs store places

    ends_so : call T bs store places (units bytes settings xs es ms before last p wide narrow few - total ns) (more g) ≡ done a
    ends_so =
        ap (call T bs store places (units bytes settings xs es ms before last p wide narrow few - total ns)) (sym at_open.1)
        ∙ (called T wide bs store places left (units bytes settings xs es ms before last p wide narrow few - total ns) (units bytes settings xs es ms before last p wide narrow few - total ns) a
        (calls-left T wide bs store places ns (more units_start) (units bytes settings xs es ms before last p wide narrow few) a (page-left T wide bs store places (whole-bytes bytes) refl))).ended (omega arith)

    goes_on : Ahead (so_far (more g)) (decode S bytes store places)
    goes_on =
        subst (Ahead (so_far (more g))) (sym (decode-reads S wide narrow bytes few store places))
        (ahead-short S (so_far (more g)) a (subst (λ (o : Out Going Page'.Answer). Ahead (so_far (more g)) (so_far o)) ends_so (ahead-call T bs store places _ g)))

pub units-so-far : UnitsSoFar
unfolding decode
units-so-far bytes settings small enc page r before last p e = tests (is_too_wide settings.columns) refl (ltb most_bytes (length bytes)) refl (eqb settings.columns 0) refl
  where
    xs : List ℕ
    xs = page.changes

    es : List ℕ
    es = page.ends

    ms : List ℕ
    ms = page.marks

    reads : 0 < settings.columns → settings.columns < most_pixels → length bytes ≤ most_bytes → SoFar page last
    reads w n few =
        let g = (at_open bytes settings xs es ms before last p w n few e).0 in
        let h = gives_so bytes settings xs es ms before last p w n few e in
        let m = marked bytes settings xs es ms before last p w n few e in
        let f = subst (λ (S : Settings). Ahead (so_far (more g)) (decode S bytes (length xs) (places_in es ms))) (same-settings bytes settings enc xs es ms before last p) (goes_on bytes settings xs es ms before last p w n few e) in
        record {
          front = is_front (so_far (more g)) (answer_in bytes settings page) (standing page last) page h r (ahead-front (so_far (more g)) (answer_in bytes settings page) m f) m (as_many bytes settings page);
          later_changes = later_changes (so_far (more g)) xs es ms last.turn.answer last.changes' last.ends' last.marks' h;
          later_ends = later_ends (so_far (more g)) xs es ms last.turn.answer last.changes' last.ends' last.marks' h;
          later_marks = later_marks (so_far (more g)) xs es ms last.turn.answer last.changes' last.ends' last.marks' h m;
        }

    -- a page that is refused, or has no columns, never answers 15
    never : (n : ℕ) (held : Rule.Reading) → (n ≡ more_to_come → ⊥) → ((m : ℕ) → 0 < m → turn (as_group4 (settings_of settings)) bytes xs es ms m (opened saved_start) ≡ Rule.still (as_group4 (settings_of settings)) bytes xs es ms (says_only n) held)
        → ((m : ℕ) → 0 < m → turn (as_group4 (settings_of settings)) bytes xs es ms m held ≡ Rule.still (as_group4 (settings_of settings)) bytes xs es ms (says_only n) held) → ⊥
    never n held ne first later = ne (sym (ap (λ (x : Answer). x.number) (stuck bytes settings xs es ms before last p (says_only n) held first later).answer) ∙ e)

    tests : (a : Bool) → is_too_wide settings.columns ≡ a → (b : Bool) → ltb most_bytes (length bytes) ≡ b → (c : Bool) → eqb settings.columns 0 ≡ c → SoFar page last
    tests true q b f c h = let k = refused-6 bytes settings xs es ms (eqb-true _ _ q) in absurd (never 6 (opened saved_start) (λ z. omega arith) k k)
    tests false q true f c h = let k = refused-7 bytes settings xs es ms (eqb-false _ _ q) (ltb-true _ _ f) in absurd (never 7 (opened saved_start) (λ z. omega arith) k k)
    tests false q false f true h =
        absurd (never 0 (ended (says_only complete)) (λ z. omega arith) (without_columns bytes settings xs es ms (eqb-true _ _ h) (ltb-false _ _ f)) (repeated bytes settings xs es ms (says_only complete)))
    tests false q false f false h =
        let z : settings.columns ≡ 0 → ⊥ = eqb-false _ _ h in
        let n : settings.columns ≡ most_pixels → ⊥ = eqb-false _ _ q in
        reads (omega (arith, z)) (omega (arith, n, small)) (ltb-false _ _ f)
