-- What comes before a row, test by test. Assumes nothing.
use mathlib.Core.Path.{◌≡◌, refl, sym, ap, ◌∙◌}
use mathlib.Core.Bool.{Bool, true, false, cond, not, ◌&&◌, ◌||◌}
use mathlib.Core.List.{List, []}
use mathlib.Core.Option.{Option, none, some}
use Prim.Native.Nat.{ℕ, suc, ◌+◌, ◌*◌, ◌≤◌, ◌<◌}
use native.Mathlib.Omega.{arith}
use lib.Dec.{eqb, leb, ltb}
use lib.ListN.{length, drop}
use borrow.Author.Tests.{lt-ltb, le-ltb, ltb-false, eqb-true}
use Rattle.rules.specs.Bits.{bits_of, peek}
use Rattle.rules.specs.Eols as Rule
use Rattle.rules.specs.Eols.{zero_run, eol_after, eols_to, all_eols, skip_to_eol, EolAt}
use Rattle.rules.specs.Rows.{Settings, aligned_if}
use Rattle.rules.specs.Group3.{Tagging, eols3, at_line, at_end, at_no_eol, leading, judged, searched, missing, lacking, checked, check_eob}
use Rattle.rules.proofs.Bits.{length-bits_of}
use Rattle.rules.proofs.Eols.{eols3-ahead, eols3-read, skip-finds, eol-inside}
use Rattle.rules.proofs.Budget.{Bytes, aligned-ahead}
use Rattle.bit_reader.specs.Loaded.{Loading}
use Rattle.codes.specs.declared.eol.Eols.{Eols}
use Rattle.codes.specs.Eols.{eols_of}
use Rattle.codes.proofs.Eols.{closing, many, search-from, nowhere}
use Rattle.settings.specs.declared.DecodeSettings.{DecodeSettings}
use Rattle.settings.specs.declared.State.{State}
use Rattle.settings.specs.Settings.{settings_of, tagging_of}
use Rattle.settings.specs.Between.{state_of}
use Rattle.group3.specs.Ahead.{aligned_from, NoEolAt, BeforeIn, judged_in, missing_in, before_in}

-- ---- Bits of the data

-- the data is whole bytes
pub bytes_whole : (bytes : List ℕ) → Bytes (bits_of bytes)
bytes_whole bytes = record { count = length bytes; whole = length-bits_of bytes }

-- the end of the data, in bits
pub end_is : (bytes : List ℕ) (at : ℕ) (b : Bool) → b ≡ leb (8 * length bytes) at → b ≡ leb (length (bits_of bytes)) at
end_is bytes at b e = e ∙ ap (λ (n : ℕ). leb n at) (sym (length-bits_of bytes))

module _ {bytes : List ℕ} {at : ℕ} (h : Loading bytes at) where
  inside : at ≤ length (bits_of bytes)
  inside = omega (arith, h.inside, length-bits_of bytes)

  loading : (to : ℕ) → to ≤ length (bits_of bytes) → Loading bytes to
  loading to k = record { size = h.size; inside = omega (arith, length-bits_of bytes) }

  -- behind EOLs
  pub eols-loading : (t : Tagging) (e : Eols) → eols_of e ≡ eols3 (bits_of bytes) t at → Loading bytes e.at
  eols-loading t e q = loading e.at (omega (arith, ap (λ (e : Rule.Eols). e.at) q, (eols3-ahead (bits_of bytes) t at).inside inside))

  -- at an EOL that was found
  pub found-loading : (a : ℕ) → some a ≡ skip_to_eol (bits_of bytes) at → Loading bytes a
  found-loading a q = loading a (omega (arith, eol-inside (bits_of bytes) a (skip-finds (length (bits_of bytes)) (bits_of bytes) at a (sym q)).eol))

-- ---- Alignment

pub aligned-loading : {bytes : List ℕ} (settings : DecodeSettings) (st : State) → Loading bytes st.at → (to : ℕ) → to ≡ aligned_from settings st → Loading bytes to
aligned-loading {bytes} settings st h to e =
    loading h to (omega (arith, e, (aligned-ahead (bits_of bytes) (bytes_whole bytes) (settings.rows_are_byte_aligned && not st.eols) st.at).1 (inside h)))

-- where EOLs are expected, nothing is aligned
pub unaligned : (a b : Bool) (at : ℕ) → b ≡ true → at ≡ aligned_if (a && not b) at
unaligned true true at q = refl
unaligned false true at q = refl
unaligned a false at q = absurd (let z : ◌≡◌ {A = ℕ} 0 1 = cc in omega arith)

pub aligned : (a b : Bool) (at : ℕ) → b ≡ false → aligned_if a at ≡ aligned_if (a && not b) at
aligned true false at q = refl
aligned false false at q = refl
aligned a true at q = absurd (let z : ◌≡◌ {A = ℕ} 0 1 = cc in omega arith)

-- ---- An EOL that is lacking

-- not where EOLs were read, or none are expected, or the rows are done
pub lacks-none : (z b d f : Bool) → z ≡ false → false ≡ ((z && b) && not (d || f))
lacks-none z b d f q = rw q

pub lacks-unexpected : (z b d f : Bool) → b ≡ false → false ≡ ((z && b) && not (d || f))
lacks-unexpected true b d f q = rw q
lacks-unexpected false b d f q = refl

pub lacks-done : (z b d f : Bool) → d ≡ true → false ≡ ((z && b) && not (d || f))
lacks-done true true d f q = rw q
lacks-done true false d f q = refl
lacks-done false b d f q = refl

pub lacks : (z b d f : Bool) → z ≡ true → b ≡ true → d ≡ false → not f ≡ ((z && b) && not (d || f))
lacks z b d f p q r = rw (p, q, r)

-- and where it is, no EOL was read
lacks-count : (z b d f : Bool) → true ≡ ((z && b) && not (d || f)) → z ≡ true
lacks-count true b d f q = refl
lacks-count false b d f q = sym q

-- where none was read, none stands
none-stands : {bytes : List ℕ} {at : ℕ} → Loading bytes at → (t : Tagging) (e : Eols) → eols_of e ≡ eols3 (bits_of bytes) t at → e.count ≡ 0 → NoEolAt bytes e.at
none-stands {bytes} {at} h t e q n = record { loading = eols-loading h t e q; without_eol = cases (zero_run (drop e.at bs)) refl }
  where
    bs : List Bool
    bs = bits_of bytes

    count : (eols3 bs t at).count ≡ 0
    count = sym (ap (λ (e : Rule.Eols). e.count) q) ∙ n

    here : e.at ≡ at
    here = ap (λ (e : Rule.Eols). e.at) q ∙ (eols3-ahead bs t at).none_read count

    cases : (o : Option ℕ) → zero_run (drop e.at bs) ≡ o → eol_after e.at o ≡ none
    cases none r = refl
    cases (some z) r = few (ltb z 11) refl
      where
        few : (b : Bool) → ltb z 11 ≡ b → cond b none (some (e.at + suc z)) ≡ none
        few true k = refl
        few false k =
            let there : EolAt bs at = record { zeros = z; run = rw here at r; many = ltb-false z 11 k } in
            absurd (omega (arith, count, eols3-read bs t at there))

-- and eleven zeros are the last of the data
pub none_left : {bytes : List ℕ} {at : ℕ} → NoEolAt bytes at → peek 11 (drop at (bits_of bytes)) ≡ 0 → none ≡ skip_to_eol (bits_of bytes) at
none_left {bytes} {at} h zeros = nowhere (search-from h.loading.inside) (cases (zero_run (drop at (bits_of bytes))) refl)
  where
    cases : (o : Option ℕ) → zero_run (drop at (bits_of bytes)) ≡ o → zero_run (drop at (bits_of bytes)) ≡ none
    cases none e = e
    cases (some z) e =
        let eol : eol_after at (zero_run (drop at (bits_of bytes))) ≡ some (at + suc z) = rw (e, le-ltb z 11 (many bytes at 11 zeros (closing bytes at e))) in
        absurd (let no = h.without_eol in let y : ◌≡◌ {A = ℕ} 0 1 = cc in omega arith)

-- ---- The judgement

module _ (settings : DecodeSettings) (bytes : List ℕ) where
  abbrev S : Settings
  S = settings_of settings

  abbrev t : Tagging
  t = tagging_of settings.encoding

  abbrev bs : List Bool
  bs = bits_of bytes

  module _ (rows_done expected : Bool) (e : Eols) where
    abbrev tests : Bool → Bool → Bool → BeforeIn settings bytes
    tests a b c = cond (a || (b || c)) (at_end e.at) (at_line e.at expected)

    pub judged-rtc : (S.end_of_block && leb 6 e.count) ≡ true → at_end e.at ≡ judged_in settings bytes rows_done expected e
    judged-rtc q = ap (λ (a : Bool). tests a rows_done (leb (length bs) e.at)) (sym q)

    pub judged-rows : rows_done ≡ true → at_end e.at ≡ judged_in settings bytes rows_done expected e
    judged-rows q = cases (S.end_of_block && leb 6 e.count) rows_done q
      where
        cases : (a b : Bool) → b ≡ true → at_end e.at ≡ tests a b (leb (length bs) e.at)
        cases true b q = refl
        cases false b q = rw q

    pub judged-data : leb (length bs) e.at ≡ true → at_end e.at ≡ judged_in settings bytes rows_done expected e
    judged-data q = cases (S.end_of_block && leb 6 e.count) rows_done (leb (length bs) e.at) q
      where
        cases : (a b c : Bool) → c ≡ true → at_end e.at ≡ tests a b c
        cases true b c q = refl
        cases false true c q = refl
        cases false false c q = rw q

    pub judged-on : (S.end_of_block && leb 6 e.count) ≡ false → rows_done ≡ false → leb (length bs) e.at ≡ false → at_line e.at expected ≡ judged_in settings bytes rows_done expected e
    judged-on p q r = λ i. tests (sym p i) (sym q i) (sym r i)

  -- ---- The search for the next EOL

  module _ (at : ℕ) where
    pub missing-strict : settings.strict ≡ true → at_no_eol at ≡ missing_in settings bytes at
    missing-strict s = ap (λ (b : Bool). missing S t bs b at) (sym s)

    module _ (s : settings.strict ≡ false) (r : BeforeIn settings bytes) where
      pub missing-found : (a : ℕ) → some a ≡ skip_to_eol bs at → (e : Eols) → eols_of e ≡ eols3 bs t a → r ≡ judged_in settings bytes false true e → r ≡ missing_in settings bytes at
      missing-found a q e p h = h ∙ ap (judged S t bs false true) p ∙ ap (searched S t bs at) q ∙ ap (λ (b : Bool). missing S t bs b at) (sym s)

      pub missing-none : none ≡ skip_to_eol bs at → r ≡ judged S t bs false false (eols_to 0 at) → r ≡ missing_in settings bytes at
      missing-none q h = h ∙ ap (searched S t bs at) q ∙ ap (λ (b : Bool). missing S t bs b at) (sym s)

  -- ---- Before a row

  module _ (st : State) (e : Eols) where
    abbrev rows_done : Bool
    rows_done = eqb st.rows settings.rows

    -- the EOLs from where the row before ended, aligned or not
    module _ (from : ℕ) (f : from ≡ aligned_from settings st) (p : eols_of e ≡ eols3 bs t from) where
      whole : (b : Bool) → b ≡ lacking S t bs rows_done (state_of [] [] st) (eols_of e) → checked S t bs rows_done (state_of [] [] st) (eols_of e) b ≡ before_in settings bytes st false
      whole b q = ap (checked S t bs rows_done (state_of [] [] st) (eols_of e)) q ∙ ap (check_eob S t bs (state_of [] [] st) rows_done) (p ∙ ap (eols3 bs t) f)

      -- an EOL that is lacking does not stand where it is looked for
      pub lacking-there : Loading bytes from → true ≡ lacking S t bs rows_done (state_of [] [] st) (eols_of e) → NoEolAt bytes e.at
      lacking-there h q = none-stands h t e p (eqb-true e.count 0 (lacks-count (eqb e.count 0) st.eols rows_done (leb (length bs) e.at) q))

      pub before-lacking : true ≡ lacking S t bs rows_done (state_of [] [] st) (eols_of e) → (r : BeforeIn settings bytes) → r ≡ missing_in settings bytes e.at → r ≡ before_in settings bytes st false
      before-lacking q r h = h ∙ whole true q

      pub before-judged : false ≡ lacking S t bs rows_done (state_of [] [] st) (eols_of e) → (r : BeforeIn settings bytes) → r ≡ judged_in settings bytes rows_done st.eols e → r ≡ before_in settings bytes st false
      before-judged q r h = h ∙ whole false q

    -- the first row
    module _ (p : eols_of e ≡ all_eols bs st.at) where
      leads : (b : Bool) → b ≡ ltb 0 e.count → at_line e.at (b || settings.end_of_line) ≡ before_in settings bytes st true
      leads b q = ap (λ (b : Bool). at_line e.at (b || settings.end_of_line)) q ∙ ap (leading S t bs) p

      pub first_read : 0 < e.count → at_line e.at true ≡ before_in settings bytes st true
      first_read h = leads true (sym (lt-ltb 0 e.count h))

      pub first-unread : e.count ≤ 0 → at_line e.at settings.end_of_line ≡ before_in settings bytes st true
      first-unread h = leads false (sym (le-ltb 0 e.count h))
