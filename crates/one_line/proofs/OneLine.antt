-- The tests and the reading of one line, each way out. Assumes nothing.
use mathlib.Core.Path.{◌≡◌, refl, sym, ap, ◌∙◌}
use mathlib.Core.Bool.{Bool, true, false}
use mathlib.Core.List.{List, [], ◌++◌, append-nil}
use Prim.Native.Nat.{ℕ, ◌+◌, ◌*◌, ◌≤◌, ◌<◌}
use native.Mathlib.Omega.{arith}
use lib.ListN.{length}
use borrow.Author.Tests.{eq-eqb, ne_eqb, lt-ltb, le-ltb, le-leb, lt-leb}
use Rattle.std.specs.Prelude.{Ok, Err}
use Rattle.rules.specs.Bits.{bits_of}
use Rattle.rules.specs.Lines.{Went, went, failed, new_line, two, read_line}
use Rattle.rules.specs.Pages as Page
use Rattle.rules.specs.Pages.{most_bytes, ascends, refusal, one_line, read_one_line, overlaid, joined, entries, changes_after}
use Rattle.rules.proofs.Bits.{length-bits_of}
use Rattle.rules.proofs.Ascending.{ascends-rises}
use Rattle.answer.specs.Answer.{row_answer_of}
use Rattle.answer.specs.declared.Answer.{Answer}
use Rattle.context.specs.declared.line.Line.{Line}
use Rattle.context.specs.declared.step.Stop.{Stop}
use Rattle.context.specs.declared.reference.Reference.TheVariants.{Lent}
use Rattle.context.specs.State.{rules_for, changes_of}
use Rattle.context.specs.Outcome.{Step}
use Rattle.context.specs.Coding.{Lines, Lined}
use Rattle.one_line.specs.OneLine.{Answers, past_at, ReadOne}
use Rattle.context.proofs.State.{mark-is}
use Rattle.context.proofs.Carried.{overlaid-none, step-on, step-stop}

-- ---- An answer

pub answers-on : (l : Line) (at : ℕ) → Answers (Ok (l, at)) (record { number = 0; mark = l.cut; rows = 1; entries = l.changes; loose = 0; bytes = at; place = 0 })
unfolding entries
answers-on l at width w e =
    let (t, o, same, there) = step-on width w l at e in
    let count : l.changes ≡ length t.changes + 0 = omega (arith, ap (λ (m : Line). m.changes) same) in
    rw o (λ i. record { number = 0; mark = mark-is width t l same i; rows = 1; entries = count i; loose = 0; bytes = there i; place = 0 })

pub answers-stop : (f : Stop) → Answers (Err f) (record { number = f.number; mark = 0; rows = 0; entries = 0; loose = f.line.changes; bytes = 0; place = f.place })
unfolding entries
answers-stop f width w e =
    let (t, o, same) = step-stop width w f e in
    rw o (λ i. record { number = f.number; mark = 0; rows = 0; entries = 0; loose = (same i).changes; bytes = 0; place = f.place })

-- what an outcome leaves in the array
changes-after : (w : Went) (xs : List ℕ) → overlaid (changes_of w) xs ≡ changes_after (one_line w) xs
unfolding changes_after joined
changes-after (went t) xs = ap (λ (l : List ℕ). overlaid l xs) (sym (append-nil (t.changes ++ []) ∙ append-nil t.changes))
changes-after (failed n p t) xs = refl

-- ---- The tests

module _ {bytes : List ℕ} {at columns : ℕ} {strict : Bool} {reference xs : List ℕ} where
  -- a refusal leaves everything as found
  refused : (n : ℕ) → read_one_line bytes at columns strict reference (length xs) ≡ refusal n → ReadOne bytes at columns strict reference xs (row_answer_of (refusal n)) xs
  unfolding changes_after joined
  refused n e = record { answer = ap row_answer_of (sym e); store = overlaid-none xs ∙ ap (λ (a : Page.Answer). changes_after a xs) (sym e) }

  pub refused_none : columns ≡ 0 → ReadOne bytes at columns strict reference xs (row_answer_of (refusal 6)) xs
  unfolding read_one_line
  refused_none e = refused 6 (rw (read_one_line, eq-eqb columns 0 e))

  module _ (some : columns ≡ 0 → ⊥) where
    pub refused-wide : columns ≡ 4294967295 → ReadOne bytes at columns strict reference xs (row_answer_of (refusal 6)) xs
    unfolding read_one_line
    refused-wide e = refused 6 (rw (read_one_line, ne_eqb columns 0 some, eq-eqb columns 4294967295 e))

    module _ (narrow : columns ≡ 4294967295 → ⊥) where
      pub refused-long : most_bytes < length bytes → ReadOne bytes at columns strict reference xs (row_answer_of (refusal 7)) xs
      unfolding read_one_line
      refused-long h = refused 7 (rw (read_one_line, ne_eqb columns 0 some, ne_eqb columns 4294967295 narrow, lt-ltb most_bytes (length bytes) h))

      module _ (short : length bytes ≤ most_bytes) where
        pub refused-reference : ascends columns reference ≡ false → ReadOne bytes at columns strict reference xs (row_answer_of (refusal 8)) xs
        unfolding read_one_line
        refused-reference e = refused 8 (rw (read_one_line, ne_eqb columns 0 some, ne_eqb columns 4294967295 narrow, le-ltb most_bytes (length bytes) short, e))

        -- a start past the data is answered as a refusal is
        pub past_end : ascends columns reference ≡ true → 8 * length bytes < at → ReadOne bytes at columns strict reference xs (past_at (8 * length bytes)) xs
        unfolding read_one_line changes_after joined entries
        past_end rising h =
            let e : read_one_line bytes at columns strict reference (length xs) ≡ one_line (failed 2 (length (bits_of bytes)) (new_line at)) =
            rw (
              read_one_line,
              ne_eqb columns 0 some,
              ne_eqb columns 4294967295 narrow,
              le-ltb most_bytes (length bytes) short,
              rising,
              lt-leb at (length (bits_of bytes)) (omega (arith, length-bits_of bytes)),
            ) in
            record { answer = ap past_at (sym (length-bits_of bytes)) ∙ ap row_answer_of (sym e); store = overlaid-none xs ∙ ap (λ (a : Page.Answer). changes_after a xs) (sym e) }

-- ---- The line

-- all tests are passed
pub record Open (bytes : List ℕ) (at columns : ℕ) (reference : List ℕ) : Type 0 where
  pub some : columns ≡ 0 → ⊥
  pub narrow : columns ≡ 4294967295 → ⊥
  pub small : columns < 4294967296
  pub short : length bytes ≤ most_bytes
  pub rising : ascends columns reference ≡ true
  pub inside : at ≤ 8 * length bytes

module _ {bytes : List ℕ} {at columns : ℕ} {reference : List ℕ} (o : Open bytes at columns reference) where
  pub line-asked : {xs : List ℕ} → Lines bytes reference xs 0 Lent columns at
  line-asked =
      let n = o.narrow in
      record {
        starts = record { loading = record { size = o.short; inside = o.inside }; narrow = omega (arith, o.small) };
        placed = omega arith;
        rising = ascends-rises columns 0 reference o.rising;
      }

  wide : 0 < columns
  wide = let n = o.some in omega arith

  within : at ≤ length (bits_of bytes)
  within = omega (arith, o.inside, length-bits_of bytes)

  module _ (strict : Bool) (xs : List ℕ) where
    abbrev w : Went
    w = read_line (rules_for columns (record { strict = strict; exact = false; plain = false }) xs) (two reference) (bits_of bytes) at

    read_is : read_one_line bytes at columns strict reference (length xs) ≡ one_line w
    unfolding read_one_line
    read_is =
        rw (
          read_one_line,
          ne_eqb columns 0 o.some,
          ne_eqb columns 4294967295 o.narrow,
          le-ltb most_bytes (length bytes) o.short,
          o.rising,
          le-leb at (length (bits_of bytes)) within,
        )

    module _ {step : Step} {ys : List ℕ} (l : Lined bytes reference xs 0 Lent columns at (record { strict = strict; exact = false; plain = false }) step ys) where
      pub line_read : {r : Answer} → Answers step r → ReadOne bytes at columns strict reference xs r ys
      line_read a = record {
        answer = a columns w l.answer ∙ ap row_answer_of (sym read_is);
        store = l.store ∙ changes-after w xs ∙ ap (λ (a : Page.Answer). changes_after a xs) (sym read_is);
      }
