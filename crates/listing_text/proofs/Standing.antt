-- Laws of the numbers that settings have, and that a line of settings says one thing only. Assumes nothing.
use mathlib.Core.Path.{◌≡◌, refl, sym, ap, ap₂, ◌∙◌}
use mathlib.Core.Bool.{Bool, true, false}
use mathlib.Core.List.{List, [], ◌∷◌, ◌++◌}
use Prim.Native.Nat.{ℕ, zero, suc, ◌+◌, ◌-◌, ◌*◌, ◌≤◌, ◌<◌}
use native.Mathlib.Omega.{arith}
use lib.Dec.{eqb}
use lib.ListN.{length, get_or, drop, replicate, drop_of_length-le, length-append, length-drop}
use Rattle.rules.specs.Rows.{Encoding, group4, group3_1_d, group3_2_d, Settings}
use Rattle.settings.specs.Settings.{encoding_of, settings_of}
use Rattle.settings.specs.declared.DecodeSettings.{DecodeSettings}
use Rattle.settings.specs.declared.EncodingMode.{EncodingMode}
use Rattle.settings.specs.declared.EncodingMode.TheVariants.{Group4, Group3_1D, Group3_2D}
use Rattle.listing_text.specs.Text.{decimal}
use Rattle.listing_text.specs.Line.{mark, parted, flag, encoding_number, settings_numbers, filled, Held, Begins, Says}
use Rattle.listing_text.specs.Reading.{Stands}
use Rattle.listing_text.specs.declared.settings_line.Parsed.{Parsed}
use Rattle.std.specs.Prelude.{Option, Some, None}
use Rattle.listing_text.proofs.Spelling.{split}
use Rattle.listing_text.proofs.Lengths.{decimal-short}
use Rattle.listing_text.proofs.Parting.{AllHeld, Nowhere, Whole, parted-once}

flag_small : (b : Bool) → flag b ≤ 1
flag_small true = omega arith
flag_small false = omega arith

mode_small : (e : Encoding) → encoding_number e ≤ 2
mode_small group4 = omega arith
mode_small group3_1_d = omega arith
mode_small group3_2_d = omega arith

-- ---- Settings from nine numbers

module _ (columns rows block line aligned encoding strict exact plain : ℕ) where
  abbrev nine : List ℕ
  nine = columns ∷ rows ∷ block ∷ line ∷ aligned ∷ encoding ∷ strict ∷ exact ∷ plain ∷ []

  -- flags above 1 and encodings above 2 are no settings'
  pub record Small : Type 0 where
    pub block-small : block ≤ 1
    pub line_small : line ≤ 1
    pub aligned-small : aligned ≤ 1
    pub encoding-small : encoding ≤ 2
    pub strict-small : strict ≤ 1
    pub exact-small : exact ≤ 1
    pub plain-small : plain ≤ 1

  pub numbers-small : (S : Settings) (engine : Bool) → settings_numbers S engine ≡ nine → Small
  unfolding settings_numbers
  numbers-small S engine e = record {
    block-small = omega (arith, flag_small S.end_of_block, ap (λ (l : List ℕ). get_or l 2 0) e);
    line_small = omega (arith, flag_small S.end_of_line, ap (λ (l : List ℕ). get_or l 3 0) e);
    aligned-small = omega (arith, flag_small S.aligned, ap (λ (l : List ℕ). get_or l 4 0) e);
    encoding-small = omega (arith, mode_small S.encoding, ap (λ (l : List ℕ). get_or l 5 0) e);
    strict-small = omega (arith, flag_small S.strict, ap (λ (l : List ℕ). get_or l 6 0) e);
    exact-small = omega (arith, flag_small S.exact, ap (λ (l : List ℕ). get_or l 7 0) e);
    plain-small = omega (arith, flag_small engine, ap (λ (l : List ℕ). get_or l 8 0) e);
  }

  pub stand-large : (Small → ⊥) → (S : Settings) (engine : Bool) → settings_numbers S engine ≡ nine → ⊥
  stand-large f S engine e = f (numbers-small S engine e)

  -- flags and an encoding that are these numbers are
  pub stand-found : (a b c d e f : Bool) (mode : EncodingMode) (at : ℕ)
      → flag a ≡ block → flag b ≡ line → flag c ≡ aligned → encoding_number (encoding_of mode) ≡ encoding → flag d ≡ strict → flag e ≡ exact → flag f ≡ plain
      → Held columns → Held rows
      → Stands nine at (Some (record { settings = record { columns = columns; rows = rows; end_of_block = a; end_of_line = b; rows_are_byte_aligned = c; encoding = mode; strict = d; exact = e; plain = f }; at = at }))
  unfolding settings_numbers
  stand-found a b c d e f mode at p q r s t u v w x = (rw (p, q, r, s, t, u, v), refl, w, x)

-- ---- From the numbers to what the bytes say

-- a list, place by place
abbrev pub places : ℕ → ℕ → List ℕ → List ℕ
places i zero ns = []
places i (suc k) ns = get_or ns i 0 ∷ places (i + 1) k ns

pub spread : (k i : ℕ) (ns : List ℕ) → i + k ≡ length ns → drop i ns ≡ places i k ns
spread zero i ns h = let l : length ns ≤ i = omega arith in drop_of_length-le ns l
spread (suc k) i ns h = split ns i (omega arith) ∙ ap (λ (l : List ℕ). get_or ns i 0 ∷ l) (spread k (i + 1) ns (omega arith))

-- the seven numbers behind columns and rows are at most 2
abbrev seven : Settings → Bool → List ℕ
seven S plain = flag S.end_of_block ∷ flag S.end_of_line ∷ flag S.aligned ∷ encoding_number S.encoding ∷ flag S.strict ∷ flag S.exact ∷ flag plain ∷ []

seven-small : (S : Settings) (plain : Bool) (i : ℕ) → get_or (seven S plain) i 0 ≤ 2
seven-small S plain zero = omega (arith, flag_small S.end_of_block)
seven-small S plain (suc zero) = omega (arith, flag_small S.end_of_line)
seven-small S plain (suc (suc zero)) = omega (arith, flag_small S.aligned)
seven-small S plain (suc (suc (suc zero))) = mode_small S.encoding
seven-small S plain (suc (suc (suc (suc zero)))) = omega (arith, flag_small S.strict)
seven-small S plain (suc (suc (suc (suc (suc zero))))) = omega (arith, flag_small S.exact)
seven-small S plain (suc (suc (suc (suc (suc (suc zero)))))) = omega (arith, flag_small plain)
seven-small S plain (suc (suc (suc (suc (suc (suc (suc i))))))) = omega arith

all_held : (S : Settings) (plain : Bool) → Held S.columns → Held S.rows → AllHeld (settings_numbers S plain)
unfolding AllHeld settings_numbers
all_held S plain c r zero = c
all_held S plain c r (suc zero) = r
all_held S plain c r (suc (suc i)) = omega (arith, seven-small S plain i)

front-least : (ns zs : List ℕ) (i : ℕ) → get_or ns i 0 ≤ get_or (ns ++ zs) i 0
front-least [] zs i = omega arith
front-least (n ∷ ns) zs zero = omega arith
front-least (n ∷ ns) zs (suc i) = front-least ns zs i

module _ {bytes : List ℕ} {S : Settings} {plain : Bool} {rest : List ℕ} (b : Begins bytes S plain rest) where
  -- the numbers of a line can all be held, and there are nine of them at most
  numbers-held : AllHeld b.numbers
  unfolding AllHeld
  numbers-held i =
      omega (arith, front-least b.numbers (replicate (9 - length b.numbers) 0) i, ap (λ (l : List ℕ). get_or l i 0) b.said.all, all_held S plain b.columns b.rows i)

  numbers-few : length b.numbers ≤ 9
  unfolding settings_numbers
  numbers-few = omega (arith, ap length b.said.all, length-append b.numbers (replicate (9 - length b.numbers) 0))

pub says-bad : (bytes : List ℕ) → Nowhere bytes 0 0 → Says bytes None
says-bad bytes f S plain rest b = cases b.numbers b.said.seven (numbers-few b) (numbers-held b) b.text
  where
    cases : (ns : List ℕ) → 7 ≤ length ns → length ns ≤ 9 → AllHeld ns → bytes ≡ parted ns ++ rest → ⊥
    cases [] few many held e = omega arith
    cases (n ∷ ns) few many held e = f n ns rest (omega arith) (omega arith) held e

-- two lines that bytes begin with have the same numbers
one_line : (bytes ms ns xs ys : List ℕ) → 7 ≤ length ms → 7 ≤ length ns → bytes ≡ parted ms ++ xs → bytes ≡ parted ns ++ ys → (ms ≡ ns) × (xs ≡ ys)
one_line bytes [] ns xs ys h l p q = absurd (omega arith)
one_line bytes (m ∷ ms) [] xs ys h l p q = absurd (omega arith)
one_line bytes (m ∷ ms) (n ∷ ns) xs ys h l p q = parted-once m n ms ns xs ys (sym p ∙ q)

pub says-stands : (bytes read : List ℕ) (at : ℕ) (r : Option Parsed) → Whole bytes at read → Stands read at r → Says bytes r
says-stands bytes read at (Some s) w t =
    (record { columns = t.2; rows = t.3; numbers = w.numbers; said = record { seven = w.seven; all = sym (t.0 ∙ w.array) }; text = w.text ∙ ap (λ (i : ℕ). parted w.numbers ++ drop i bytes) (sym t.1) }, omega (arith, t.1, w.inside))
says-stands bytes read at None w f =
    λ S plain rest b. f S plain (sym b.said.all ∙ ap filled (one_line bytes b.numbers w.numbers rest (drop at bytes) b.said.seven w.seven b.text w.text).0 ∙ sym w.array)

-- ---- Bytes say one thing only

flag-back : (b : Bool) → eqb (flag b) 1 ≡ b
flag-back true = refl
flag-back false = refl

abbrev encoding_from : ℕ → Encoding
encoding_from zero = group4
encoding_from (suc zero) = group3_1_d
encoding_from (suc (suc n)) = group3_2_d

encoding-back : (e : Encoding) → encoding_from (encoding_number e) ≡ e
encoding-back group4 = refl
encoding-back group3_1_d = refl
encoding-back group3_2_d = refl

abbrev mode_from : Encoding → EncodingMode
mode_from group4 = Group4
mode_from group3_1_d = Group3_1D
mode_from group3_2_d = Group3_2D

mode-back : (m : EncodingMode) → mode_from (encoding_of m) ≡ m
mode-back Group4 = refl
mode-back Group3_1D = refl
mode-back Group3_2D = refl

-- the settings that numbers stand for, and the engine
abbrev from_numbers : List ℕ → Settings
from_numbers ns = record {
  columns = get_or ns 0 0;
  rows = get_or ns 1 0;
  end_of_block = eqb (get_or ns 2 0) 1;
  end_of_line = eqb (get_or ns 3 0) 1;
  aligned = eqb (get_or ns 4 0) 1;
  encoding = encoding_from (get_or ns 5 0);
  strict = eqb (get_or ns 6 0) 1;
  exact = eqb (get_or ns 7 0) 1;
}

abbrev engine_from : List ℕ → Bool
engine_from ns = eqb (get_or ns 8 0) 1

numbers-back : (S : Settings) (plain : Bool) → from_numbers (settings_numbers S plain) ≡ S
unfolding settings_numbers
numbers-back S plain = rw (flag-back S.end_of_block, flag-back S.end_of_line, flag-back S.aligned, encoding-back S.encoding, flag-back S.strict, flag-back S.exact)

engine-back : (S : Settings) (plain : Bool) → engine_from (settings_numbers S plain) ≡ plain
unfolding settings_numbers
engine-back S plain = flag-back plain

abbrev source : Settings → Bool → DecodeSettings
source S plain = record {
  columns = S.columns;
  rows = S.rows;
  end_of_block = S.end_of_block;
  end_of_line = S.end_of_line;
  rows_are_byte_aligned = S.aligned;
  encoding = mode_from S.encoding;
  strict = S.strict;
  exact = S.exact;
  plain = plain;
}

source-back : (s : DecodeSettings) → source (settings_of s) s.plain ≡ s
source-back s = rw (mode-back s.encoding)

pub begins-once : (bytes : List ℕ) (S R : Settings) (f g : Bool) (xs ys : List ℕ) → Begins bytes S f xs → Begins bytes R g ys → (S ≡ R) × (f ≡ g) × (xs ≡ ys)
begins-once bytes S R f g xs ys p q =
    let u = one_line bytes p.numbers q.numbers xs ys p.said.seven q.said.seven p.text q.text in
    let e : settings_numbers S f ≡ settings_numbers R g = sym p.said.all ∙ ap filled u.0 ∙ q.said.all in
    (sym (numbers-back S f) ∙ ap from_numbers e ∙ numbers-back R g, sym (engine-back S f) ∙ ap engine_from e ∙ engine-back R g, u.1)

abbrev found : DecodeSettings → ℕ → Option Parsed
found settings at = Some (record { settings = settings; at = at })

pub says-once : (bytes : List ℕ) (a b : Option Parsed) → Says bytes a → Says bytes b → a ≡ b
says-once bytes (Some s) (Some t) p q =
    let u = begins-once bytes (settings_of s.settings) (settings_of t.settings) s.settings.plain t.settings.plain (drop s.at bytes) (drop t.at bytes) p.0 q.0 in
    let e : s.at ≡ t.at = omega (arith, length-drop s.at bytes, length-drop t.at bytes, ap length u.2) in
    ap₂ found (sym (source-back s.settings) ∙ ap₂ source u.0 u.1 ∙ source-back t.settings) e
says-once bytes (Some s) None p q = absurd (q (settings_of s.settings) s.settings.plain (drop s.at bytes) p.0)
says-once bytes None (Some t) p q = absurd (p (settings_of t.settings) t.settings.plain (drop t.at bytes) q.0)
says-once bytes None None p q = refl

-- ---- How long a line can be

parted-is : (n : ℕ) (ns : List ℕ) → length (parted (n ∷ ns)) ≡ length (decimal n) + 1 + length (parted ns)
unfolding parted
parted-is n ns = omega (arith, length-append (decimal n) (mark ns ∷ parted ns))

-- digits, each with a byte behind it
parted-digits : (ns : List ℕ) → ((i : ℕ) → get_or ns i 0 < 10) → length (parted ns) ≤ 2 * length ns
unfolding parted
parted-digits [] h = omega arith
parted-digits (n ∷ ns) h = omega (arith, parted-is n ns, decimal-short 0 n (omega (arith, h 0)), parted-digits ns (λ i. h (suc i)))

-- a line's numbers take no more than all of them
parted-front : (ns zs : List ℕ) → length (parted ns) ≤ length (parted (ns ++ zs))
unfolding parted
parted-front [] zs = omega arith
parted-front (n ∷ ns) zs = omega (arith, parted-is n ns, parted-is n (ns ++ zs), parted-front ns zs)

-- ten digits each for columns and rows, and seven of one digit
numbers-short : (S : Settings) (plain : Bool) → Held S.columns → Held S.rows → length (parted (settings_numbers S plain)) ≤ 36
unfolding settings_numbers
numbers-short S plain c r =
    omega (
      arith,
      parted-is S.columns (S.rows ∷ seven S plain),
      decimal-short 9 S.columns (omega arith),
      parted-is S.rows (seven S plain),
      decimal-short 9 S.rows (omega arith),
      parted-digits (seven S plain) (λ i. omega (arith, seven-small S plain i)),
    )

pub begins-short : {bytes : List ℕ} {S : Settings} {plain : Bool} {rest : List ℕ} → Begins bytes S plain rest → length bytes ≤ 36 + length rest
begins-short {bytes} {S} {plain} {rest} b =
    let ns = b.numbers in
    omega (
      arith,
      ap length b.text,
      length-append (parted ns) rest,
      parted-front ns (replicate (9 - length ns) 0),
      ap (λ (l : List ℕ). length (parted l)) b.said.all,
      numbers-short S plain b.columns b.rows,
    )
