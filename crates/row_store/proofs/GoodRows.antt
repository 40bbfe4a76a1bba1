-- The test of a page's rows, row by row. Assumes nothing.
use mathlib.Core.Path.{◌≡◌, refl, sym, ap, ◌∙◌}
use mathlib.Core.Bool.{Bool, true, false, ◌&&◌, true≢false}
use mathlib.Core.List.{List}
use Prim.Native.Nat.{ℕ, suc, ◌+◌, ◌-◌, ◌≤◌, ◌<◌}
use native.Mathlib.Numerals.{add-one}
use lib.Dec.{leb}
use lib.ListN.{length, get_or, take, drop, drop_of_length-le}
use lib.Seq.{drop-cons}
use borrow.Author.Tests.{leb-true, le-leb, lt-leb}
use Rattle.rules.specs.Pages.{ascends}
use Rattle.rules.specs.Write.{rows_in, ends_rise, all_ascend}
use Rattle.rules.specs.Rising.{Rising}
use Rattle.rules.proofs.Ascending.{ascends-rises}
use Rattle.row_store.specs.Store.{good_rows}

-- the row from `base` to `end`
abbrev pub row_to : List ℕ → ℕ → ℕ → List ℕ
row_to changes base end = take (end - base) (drop base changes)

-- the tests of a row's end and of the row come first, then those of the later rows
module _ (width : ℕ) (changes : List ℕ) (base : ℕ) (ends : List ℕ) (k : ℕ) where
  -- past the last row nothing is left to test
  pub good-past : length ends ≤ k → true ≡ good_rows width changes base (drop k ends)
  unfolding ends_rise all_ascend rows_in
  good-past h = rw (drop_of_length-le ends h)

  module _ (h : k < length ends) where
    abbrev end : ℕ
    end = get_or ends k 0

    abbrev later : Bool
    later = good_rows width changes end (drop (k + 1) ends)

    good-here : good_rows width changes base (drop k ends) ≡ ((leb base end && leb end (length changes)) && (ascends width (row_to changes base end) && later))
    unfolding ends_rise all_ascend rows_in
    good-here =
        ap (good_rows width changes base) (drop-cons ends k 0 h)
        ∙ regroup (leb base end) (leb end (length changes)) (ends_rise (length changes) end (drop (suc k) ends)) (ascends width (row_to changes base end))
        (all_ascend width (rows_in end changes (drop (suc k) ends)))
        ∙ rw (add-one k)
      where
        regroup : (a b c d e : Bool) → ((a && (b && c)) && (d && e)) ≡ ((a && b) && (d && (c && e)))
        regroup true true true d e = refl
        regroup true true false true e = refl
        regroup true true false false e = refl
        regroup true false c d e = refl
        regroup false b c d e = refl

    -- a row end that falls
    pub good-falls : end < base → false ≡ good_rows width changes base (drop k ends)
    good-falls e = sym (good-here ∙ rw (lt-leb base end e))

    module _ (a : base ≤ end) where
      -- or passes the array
      pub good-passes : length changes < end → false ≡ good_rows width changes base (drop k ends)
      good-passes e = sym (good-here ∙ rw (le-leb base end a, lt-leb end (length changes) e))

      module _ (b : end ≤ length changes) where
        -- a row that does not ascend
        pub good-not : ascends width (row_to changes base end) ≡ false → false ≡ good_rows width changes base (drop k ends)
        good-not e = sym (good-here ∙ rw (le-leb base end a, le-leb end (length changes) b, e))

        -- one that does
        pub good-next : ascends width (row_to changes base end) ≡ true → later ≡ good_rows width changes base (drop k ends)
        good-next e = sym (good-here ∙ rw (le-leb base end a, le-leb end (length changes) b, e))

    -- what holds of a row and the later ones where the test is passed
    pub record Good : Type 0 where
      pub low : base ≤ end
      pub high : end ≤ length changes
      pub rises : Rising width 0 (row_to changes base end)
      pub rest : later ≡ true

    pub good : good_rows width changes base (drop k ends) ≡ true → Good
    good e =
        tests (leb base end) (leb-true base end) (leb end (length changes)) (leb-true end (length changes)) (ascends width (row_to changes base end))
        (ascends-rises width 0 (row_to changes base end)) later refl
        (sym good-here ∙ e)
      where
        tests : (a : Bool) → (a ≡ true → base ≤ end) → (b : Bool) → (b ≡ true → end ≤ length changes) → (c : Bool)
            → (c ≡ true → Rising width 0 (row_to changes base end))
            → (d : Bool) → later ≡ d → ((a && b) && (c && d)) ≡ true → Good
        tests true f true g true i true j e = record { low = f refl; high = g refl; rises = i refl; rest = j }
        tests true f true g true i false j e = absurd (true≢false (sym e))
        tests true f true g false i d j e = absurd (true≢false (sym e))
        tests true f false g c i d j e = absurd (true≢false (sym e))
        tests false f b g c i d j e = absurd (true≢false (sym e))
