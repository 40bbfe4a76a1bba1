-- The rows under a place of the form, and how a clean row of a page was read. Assumes nothing.
use mathlib.Core.Path.{◌≡◌, refl, subst}
use mathlib.Core.Bool.{Bool, true, false}
use mathlib.Core.List.{List, []}
use Prim.Native.Nat.{ℕ, zero, suc, ◌+◌, ◌≤◌, ◌<◌}
use native.Mathlib.Omega.{arith}
use lib.Dec.{ltb}
use lib.ListN.{length, get_or}
use borrow.Author.Tests.{ltb-true, ltb-false}
use Rattle.rules.specs.Bits.{bits_of}
use Rattle.rules.specs.Marks.{Told}
use Rattle.rules.specs.Pages as Page
use Rattle.rules.specs.Pages.{strict_if_exact, decode}
use Rattle.rules.proofs.Marks.{decode-came}
use Rattle.settings.specs.declared.DecodeSettings.{DecodeSettings}
use Rattle.settings.specs.Settings.{settings_of}
use Rattle.heads.specs.declared.Box.{Box}
use Rattle.form_file.specs.FormFile.{box_at, place_at}
use Rattle.form_file.specs.declared.Form.{Form}
use Rattle.booking.specs.Tests.{lowest, under_above}
use Rattle.booking.specs.Means.{Counts}
use Rattle.promises.specs.HeadsOfPage.{ByItsLine}
use Rattle.promises.proofs.Heads.{under-clean}
use Rattle.promises.proofs.HeadsOfPage.{came-at}

-- ---- The lowest edge

module _ (at : ℕ → Box) where
  abbrev step : ℕ → ℕ → ℕ → Bool → ℕ
  step n i low t = elim t [ true ↦ lowest at n (suc i) (at i).bottom | false ↦ lowest at n (suc i) low ]

  -- it is no higher than the one of those before,
  lowest-held : (n i low : ℕ) → low ≤ lowest at n i low
  unfolding lowest
  lowest-held zero i low = omega arith
  lowest-held (suc n) i low = by (ltb low (at i).bottom) (ltb-true low (at i).bottom) (lowest-held n (suc i))
    where
      by : (t : Bool) → (t ≡ true → low < (at i).bottom) → ((l : ℕ) → l ≤ lowest at n (suc i) l) → low ≤ step n i low t
      by true f g = omega (arith, f refl, g (at i).bottom)
      by false f g = g low

  -- nor than any of them
  pub lowest-below : (n i low k : ℕ) → i ≤ k → k < i + n → (at k).bottom ≤ lowest at n i low
  unfolding lowest
  lowest-below zero i low k h l = absurd (omega arith)
  lowest-below (suc n) i low k h l =
      by (ltb low (at i).bottom) (ltb-false low (at i).bottom) (ltb i k) (ltb-true i k) (ltb-false i k) (λ m p. lowest-below n (suc i) m k p (omega arith))
    where
      by : (t : Bool) → (t ≡ false → (at i).bottom ≤ low) → (u : Bool) → (u ≡ true → i < k) → (u ≡ false → k ≤ i)
          → ((m : ℕ) → suc i ≤ k → (at k).bottom ≤ lowest at n (suc i) m) → (at k).bottom ≤ step n i low t
      by true f true p q later = later (at i).bottom (p refl)
      by false f true p q later = later low (p refl)
      by true f false p q later = let e : k ≡ i = omega (arith, q refl) in rw e (lowest-held n (suc i) (at i).bottom)
      by false f false p q later = let e : k ≡ i = omega (arith, q refl) in rw e (omega (arith, f refl, lowest-held n (suc i) low))

-- ---- The rows under a place

-- on a page that is counted, each row of which a place holds a pixel is marked clean
pub clean-place : (form : Form) (boxes places : List ℕ) (s : DecodeSettings) (src : List ℕ) (gave : Bool) (a : Page.Answer) (heads : ℕ)
    → Counts form boxes places s src gave a heads
    → (k y : ℕ) → k < form.places → (place_at places k).top ≤ y → y < (place_at places k).bottom → (place_at places k).left < (place_at places k).right
    → (place_at places k).left < s.columns → y < length a.rows → get_or a.marks y 0 ≡ 0
clean-place form boxes places s src gave a heads c k y h top bottom wide left row = by (under_above s.encoding) refl
  where
    by : (t : Bool) → under_above s.encoding ≡ t → get_or a.marks y 0 ≡ 0
    by true e = c.clean_above e y row (let l = lowest-below (place_at places) form.places 0 (lowest (box_at boxes) 20 0 0) k (omega arith) (omega arith) in omega (arith, l))
    by false e = under-clean s.columns (length a.rows) a.marks (place_at places k) (c.clean_places e k h) y top bottom wide left row

-- ---- A clean row

-- it is as its line says it
pub read-row : (s : DecodeSettings) (src : List ℕ) (store room y : ℕ) → y < length (decode (settings_of s) src store room).rows → get_or (decode (settings_of s) src store room).marks y 0 ≡ 0
    → ByItsLine (strict_if_exact (settings_of s)) (bits_of src) (decode (settings_of s) src store room).rows (decode (settings_of s) src store room).marks y
read-row s src store room y h clean =
    let k = came-at (strict_if_exact (settings_of s)) (bits_of src) (decode-came (settings_of s) src store room).1 y h in
    record {
      state = k.state;
      behind = k.behind;
      under = k.under;
      room = k.room;
      told = subst (λ (m : ℕ). Told (settings_of s).encoding (strict_if_exact (settings_of s)) (bits_of src) k.room k.state (get_or (decode (settings_of s) src store room).rows y []) m) clean k.told;
    }
