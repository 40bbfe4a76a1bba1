-- A call, by the way it takes: what the code says, hands back and leaves is what the rules' `turn` says. Assumes nothing.
use mathlib.Core.Path.{◌≡◌, refl, sym, ap, ◌∙◌, subst}
use mathlib.Core.Logic.{inl, inr}
use mathlib.Core.Bool.{Bool, true, false, cond, and-false}
use mathlib.Core.List.{List}
use Prim.Native.Nat.{ℕ, zero, suc, ◌≤◌, ◌<◌}
use native.Mathlib.Omega.{arith}
use lib.ListN.{length}
use borrow.Author.Tests.{eq-eqb, ne_eqb, lt-ltb, le-ltb}
use Rattle.rules.specs.Machine as Rule
use Rattle.rules.specs.Machine.{more, done}
use Rattle.rules.specs.Bits.{bits_of}
use Rattle.rules.specs.Rows.{Settings}
use Rattle.rules.specs.Pages as Page
use Rattle.rules.specs.Pages.{most_bytes, entries, too_few, strict_if_exact, places_in}
use Rattle.rules.specs.Answers.{more_to_come}
use Rattle.rules.specs.InSteps.{Said, says, says_only}
use Rattle.rules.specs.Units as Units
use Rattle.rules.specs.Units.{Going, call, taken}
use Rattle.rules.specs.ByUnit as ByUnit
use Rattle.rules.specs.ByUnit.{end_of, going_of, saved_at, said_behind, unless_fewer, opened, ended, turn_of, as_group4, still, read_on, turn_on, turn}
use Rattle.answer.specs.declared.Answer.{Answer}
use Rattle.answer.specs.Answer as Error
use Rattle.settings.specs.declared.DecodeSettings.{DecodeSettings}
use Rattle.settings.specs.Settings.{settings_of}
use Rattle.settings.specs.Ends.{Allowed}
use Rattle.settings.proofs.Ends.{short-allowed}
use Rattle.by_unit.specs.declared.Saved.{Saved}
use Rattle.by_unit.specs.declared.PageEnd.{PageEnd}
use Rattle.by_unit.specs.declared.EndCounts.{EndCounts}
use Rattle.by_unit.specs.declared.Reading.{Reading}
use Rattle.by_unit.specs.declared.Reading.TheVariants.{Open, Ended}
use Rattle.by_unit.specs.declared.Turn.{Turn}
use Rattle.by_unit.specs.declared.stand.Stand.{Stand}
use Rattle.by_unit.specs.declared.stand.Kept.{Kept}
use Rattle.by_unit.specs.declared.stand.Out.{Out}
use Rattle.by_unit.specs.declared.stand.Out.TheVariants.{More, Done}
use Rattle.by_unit.specs.declared.take.TakenUnits.{TakenUnits}
use Rattle.by_unit.specs.Standing.{Asked, answer_of, Comes}
use Rattle.by_unit.specs.Taking.{TakeFrom, Takes}
use Rattle.by_unit.specs.Reading.{saved_of, Ending, reading_of, TurnIs, ReadsUnits, TurnsOn, as_read_for, answer_for, still_for, ended_for, unless_few, loose_for, saved_for, turn_out, turn_for, kept_by, stand_by, sound_for}
use Rattle.by_unit.proofs.States.{sound-is, Good, good, stands-so, kept_in, stand-in, back-so, loose-so, end-held}

-- a page that goes on
abbrev still_open : Answer → ℕ → Saved → Turn
still_open a units v = record { answer = a; units = units; reading = Open v }

module _ (bytes : List ℕ) (settings : DecodeSettings) (xs es ms : List ℕ) where
  abbrev S : Settings
  S = as_group4 (settings_of settings)

  -- a refusal of the code's is one of the rules'
  abbrev Refusal : ℕ → Answer → Type 0
  Refusal c a = a ≡ Error.answer_of (Page.refusal c)

  -- everything as found
  as-found : (c : ℕ) (reading : Reading) (t : ByUnit.Turn) → t ≡ still S bytes xs es ms (says_only c) (reading_of reading) → (a : Answer) → Refusal c a → (r : Turn) → r ≡ still_for a reading → TurnIs t r xs es ms
  unfolding entries
  as-found c reading t e a q r f =
      subst (λ (u : Turn). TurnIs t u xs es ms) (sym (f ∙ ap (λ (b : Answer). still_for b reading) q))
      (subst (λ (u : ByUnit.Turn). TurnIs u (still_for (answer_of (says_only c)) reading) xs es ms) (sym e)
      (record { answer = refl; units = refl; reading = refl; changes = refl; ends = refl; marks = refl }))

  -- ---- Before any other test

  pub turn-none : (n : ℕ) (reading : Reading) → n ≡ 0 → (a : Answer) → Refusal 10 a → (r : Turn) → r ≡ still_for a reading → ReadsUnits bytes settings xs es ms reading n r xs es ms
  unfolding turn
  turn-none n reading e a q r f =
      subst (λ (i : ℕ). ReadsUnits bytes settings xs es ms reading i r xs es ms) (sym e) (as-found 10 reading (turn S bytes xs es ms 0 (reading_of reading)) refl a q r f)

  module _ (n : ℕ) (some' : n ≡ 0 → ⊥) (reading : Reading) where
    -- the end is repeated
    pub turn-again : (e : PageEnd) (c : EndCounts) → reading ≡ Ended e c → (a : Answer) → a ≡ answer_for e c → (r : Turn) → r ≡ still_for a (Ended e c) → ReadsUnits bytes settings xs es ms reading n r xs es ms
    unfolding turn
    turn-again e c z a q r f =
        subst (λ (x : Reading). ReadsUnits bytes settings xs es ms x n r xs es ms) (sym z)
        (subst (λ (u : Turn). ReadsUnits bytes settings xs es ms (Ended e c) n u xs es ms) (sym (f ∙ ap (λ (b : Answer). still_for b (Ended e c)) q)) (cases n some'))
      where
        cases : (n : ℕ) → (n ≡ 0 → ⊥) → ReadsUnits bytes settings xs es ms (Ended e c) n (still_for (answer_for e c) (Ended e c)) xs es ms
        cases zero z = absurd (z refl)
        cases (suc n) z = record { answer = refl; units = refl; reading = refl; changes = refl; ends = refl; marks = refl }

    -- or the page goes on to the tests
    pub turn-opened : (s : Saved) → reading ≡ Open s → (r : Turn) (ys fs ns : List ℕ) → TurnsOn bytes settings xs es ms s n r ys fs ns → ReadsUnits bytes settings xs es ms reading n r ys fs ns
    unfolding turn
    turn-opened s z r ys fs ns t = subst (λ (x : Reading). ReadsUnits bytes settings xs es ms x n r ys fs ns) (sym z) (cases n some' t)
      where
        cases : (n : ℕ) → (n ≡ 0 → ⊥) → TurnsOn bytes settings xs es ms s n r ys fs ns → ReadsUnits bytes settings xs es ms (Open s) n r ys fs ns
        cases zero z t = absurd (z refl)
        cases (suc n) z t = t

  -- ---- The tests

  module _ (s : Saved) (n : ℕ) where
    abbrev here : ByUnit.Turn
    here = turn_on S bytes xs es ms n (saved_of s)

    pub turn-6 : settings.columns ≡ 4294967295 → (a : Answer) → Refusal 6 a → (r : Turn) → r ≡ still_for a (Open s) → TurnsOn bytes settings xs es ms s n r xs es ms
    unfolding turn_on
    turn-6 e = as-found 6 (Open s) here (rw (eq-eqb settings.columns 4294967295 e, turn_on))

    module _ (narrow : settings.columns ≡ 4294967295 → ⊥) where
      pub turn-7 : most_bytes < length bytes → (a : Answer) → Refusal 7 a → (r : Turn) → r ≡ still_for a (Open s) → TurnsOn bytes settings xs es ms s n r xs es ms
      unfolding turn_on
      turn-7 h = as-found 7 (Open s) here (rw (ne_eqb settings.columns 4294967295 narrow, lt-ltb most_bytes (length bytes) h, turn_on))

      module _ (few : length bytes ≤ most_bytes) where
        pub turn-8 : sound_for (length bytes) settings.columns xs es ms s ≡ false → (a : Answer) → Refusal 8 a → (r : Turn) → r ≡ still_for a (Open s) → TurnsOn bytes settings xs es ms s n r xs es ms
        unfolding turn_on
        turn-8 e =
            as-found 8 (Open s) here
            (rw (ne_eqb settings.columns 4294967295 narrow, le-ltb most_bytes (length bytes) few, sym (sound-is bytes settings.columns xs es ms s) ∙ e, turn_on))

        module _ (sound' : sound_for (length bytes) settings.columns xs es ms s ≡ true) where
          pub turn-no-columns : settings.columns ≡ 0 → (a : Answer) → Refusal 0 a → (r : Turn) → r ≡ ended_for a 0 → TurnsOn bytes settings xs es ms s n r xs es ms
          unfolding turn_on entries
          turn-no-columns z a q r f =
              subst (λ (u : Turn). TurnIs here u xs es ms) (sym (f ∙ ap (λ (b : Answer). ended_for b 0) q))
              (subst (λ (t : ByUnit.Turn). TurnIs t (ended_for (answer_of (says_only 0)) 0) xs es ms)
              (sym (rw (ne_eqb settings.columns 4294967295 narrow, le-ltb most_bytes (length bytes) few, sym (sound-is bytes settings.columns xs es ms s) ∙ sound', eq-eqb settings.columns 0 z, turn_on)))
              (record { answer = refl; units = refl; reading = refl; changes = refl; ends = refl; marks = refl }))

          -- ---- The reading

          facts : Good bytes settings.columns xs es ms s
          facts = good bytes settings.columns xs es ms s sound'

          pub placed : s.rows ≤ places_in es ms
          placed = facts.placed

          module _ (wide : settings.columns ≡ 0 → ⊥) (small : settings.columns ≤ 4294967295) where
            asked : Asked bytes (as_read_for settings)
            asked = record { size = few; wide = omega (arith, wide); narrow = omega (arith, narrow, small) }

            -- the code's own words for the settings, the rows kept and the stand
            module _ (read : DecodeSettings) (read_is : read ≡ as_read_for settings) (k : Kept) (kept-is : k ≡ kept_by es s) (at : Stand) (at-is : at ≡ stand_by settings.columns s s.phase) where
              pub turn-asks : TakeFrom bytes read xs es ms k at
              turn-asks =
                  subst (λ (c : DecodeSettings). TakeFrom bytes c xs es ms k at) (sym read_is)
                  (subst (λ (c : Kept). TakeFrom bytes (as_read_for settings) xs es ms c at) (sym kept-is)
                  (subst (λ (c : Stand). TakeFrom bytes (as_read_for settings) xs es ms (kept_by es s) c) (sym at-is)
                  (record {
                    asked = asked;
                    kept = kept_in bytes settings.columns xs es ms s (as_read_for settings) asked refl facts;
                    stand = stand-in bytes settings.columns xs es ms s (as_read_for settings) asked refl facts;
                  })))

              pub turn-took : (t : TakenUnits) (ys fs ns : List ℕ) → Takes bytes read xs es ms k at n t ys fs ns
                  → Takes bytes (as_read_for settings) xs es ms (kept_by es s) (stand_by settings.columns s s.phase) n t ys fs ns
              turn-took t ys fs ns c =
                  subst (λ (c : Stand). Takes bytes (as_read_for settings) xs es ms (kept_by es s) c n t ys fs ns) at-is
                  (subst (λ (c : Kept). Takes bytes (as_read_for settings) xs es ms c at n t ys fs ns) kept-is
                  (subst (λ (c : DecodeSettings). Takes bytes c xs es ms k at n t ys fs ns) read_is c))

            abbrev places : ℕ
            places = places_in es ms

            abbrev T : Settings
            T = strict_if_exact S

            abbrev outcome : Rule.Out Going Page.Answer
            outcome = call T (bits_of bytes) (length xs) places n (more (going_of xs es (saved_of s)))

            abbrev base : ℕ
            base = end_of es s.rows

            on : turn_on S bytes xs es ms n (saved_of s) ≡ read_on S bytes xs es ms n (saved_of s)
            unfolding turn_on
            on = rw (ne_eqb settings.columns 4294967295 narrow, le-ltb most_bytes (length bytes) few, sym (sound-is bytes settings.columns xs es ms s) ∙ sound', ne_eqb settings.columns 0 wide, turn_on)

            -- what is said where the page goes on, or has ended
            told-so : (units : ℕ) (ys fs ns : List ℕ) (o : Rule.Out Going Page.Answer) (r : Out) → Comes bytes settings.columns s.rows base xs es ms o r ys fs ns
                → TurnIs (turn_of S s.rows base xs es ms units o) (turn_out settings units r) ys fs ns
            told-so units ys fs ns (more g) (More k at seen) c =
                let t = c.told in
                record {
                  answer =
                      (λ i. answer_of (says 15 0 0 (t.rows_are i) (t.entries_are i) ((loose-so bytes settings.columns ys k seen at t.stand ∙ ap (λ (h : Going). length (Units.loose_of h.stand)) t.is) i)))
                      ∙ sym (rw (and-false settings.exact));
                  units = refl;
                  reading = ap opened (back-so bytes settings.columns ys k seen at t.stand ∙ ap (λ (h : Going). saved_at h.keeping.count h.stand) t.is);
                  changes = c.leaves.changes;
                  ends = c.leaves.ends;
                  marks = c.leaves.marks;
                }
            told-so units ys fs ns (done a) (Done r) c = record {
              answer = said;
              units = refl;
              reading = reading-so;
              changes = c.leaves.changes;
              ends = c.leaves.ends;
              marks = c.leaves.marks;
            }
              where
                C : Said
                C = said_behind s.rows base a

                said : unless_few settings r ≡ answer_of (unless_fewer S C)
                said = ap (unless_few settings) c.told.answer ∙ cases (too_few S C.number C.rows)
                  where
                    cases : (b : Bool) → cond b (answer_of (says 14 0 0 C.rows C.entries C.loose)) (answer_of C) ≡ answer_of (cond b (says 14 0 0 C.rows C.entries C.loose) C)
                    cases true = refl
                    cases false = refl

                -- an end that the state can hold
                Held : Said → Type 0
                Held d = Ending d.number × Allowed d.number d.place d.bytes d.loose × (d.mark ≡ 0)

                held : (b : Bool) → too_few S C.number C.rows ≡ b → Held (cond b (says 14 0 0 C.rows C.entries C.loose) C)
                held true q = (inr refl, short-allowed S C.number C.rows C.place C.bytes C.loose q c.told.allowed, refl)
                held false q = (inl c.told.listed, c.told.allowed, refl)

                again : (d : Said) → Held d → reading_of (ended_for (answer_of d) units).reading ≡ ended d
                again d h =
                    ap ended (end-held d.number d.place d.bytes d.loose (record { rows = d.rows; entries = d.entries }) h.0 h.1)
                    ∙ (λ i. ended (record { number = d.number; mark = sym h.2 i; rows = d.rows; entries = d.entries; loose = d.loose; bytes = d.bytes; place = d.place }))

                reading-so : reading_of (ended_for (unless_few settings r) units).reading ≡ ended (unless_fewer S C)
                reading-so = ap (λ (x : Answer). reading_of (ended_for x units).reading) said ∙ again (unless_fewer S C) (held (too_few S C.number C.rows) refl)
            told-so units ys fs ns (more g) (Done r) c = absurd c.told
            told-so units ys fs ns (done a) (More k at seen) c = absurd c.told

            pub turn-reads : (t : TakenUnits) (ys fs ns : List ℕ) → Takes bytes (as_read_for settings) xs es ms (kept_by es s) (stand_by settings.columns s s.phase) n t ys fs ns
                → (r : Turn) → r ≡ turn_for settings t → TurnsOn bytes settings xs es ms s n r ys fs ns
            turn-reads t ys fs ns k r f =
                let same = stands-so bytes settings.columns xs es ms s in
                let c : Comes bytes settings.columns s.rows base xs es ms outcome t.out ys fs ns =
                subst (λ (g : Going). Comes bytes settings.columns s.rows base xs es ms (call T (bits_of bytes) (length xs) places n (more g)) t.out ys fs ns) same k.comes in
                let u : t.units ≡ taken T (bits_of bytes) (length xs) places n (more (going_of xs es (saved_of s))) =
                k.units ∙ ap (λ (g : Going). taken T (bits_of bytes) (length xs) places n (more g)) same in
                subst (λ (u : Turn). TurnIs here u ys fs ns) (sym f)
                (subst (λ (v : ByUnit.Turn). TurnIs v (turn_for settings t) ys fs ns) (sym on)
                (subst (λ (i : ℕ). TurnIs (turn_of S s.rows base xs es ms i outcome) (turn_for settings t) ys fs ns) u (told-so t.units ys fs ns outcome t.out c)))

-- ---- What is said of the units taken

module _ (settings : DecodeSettings) (t : TakenUnits) where
  pub turn_more : (k : Kept) (s : Stand) (seen : ℕ) → t.out ≡ More k s seen → (loose : ℕ) → loose ≡ loose_for s → (a : Answer) → a ≡ answer_of (says more_to_come 0 0 k.rows k.base loose)
      → (v : Saved) → v ≡ saved_for k s → still_open a t.units v ≡ turn_for settings t
  turn_more k s seen e loose q a f v g =
      (λ i. still_open ((f ∙ ap (λ (n : ℕ). answer_of (says more_to_come 0 0 k.rows k.base n)) q) i) t.units (g i))
      ∙ ap (turn_out settings t.units) (sym e)

  pub turn-done : (a : Answer) → t.out ≡ Done a → (b : Answer) → b ≡ unless_few settings a → (r : Turn) → r ≡ ended_for b t.units → r ≡ turn_for settings t
  turn-done a e b q r f = f ∙ ap (λ (c : Answer). ended_for c t.units) q ∙ ap (turn_out settings t.units) (sym e)

-- 14 in the place of 0
module _ (settings : DecodeSettings) (a : Answer) where
  abbrev few : Answer
  few = record { number = 14; mark = 0; rows = a.rows; entries = a.entries; loose = a.loose; bytes = 0; place = 0 }

  pub few-short : true ≡ too_few (settings_of settings) a.number a.rows → few ≡ unless_few settings a
  few-short q = ap (λ (c : Bool). cond c few a) q

  pub few-not : false ≡ too_few (settings_of settings) a.number a.rows → a ≡ unless_few settings a
  few-not q = ap (λ (c : Bool). cond c few a) q
